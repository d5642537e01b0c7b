-- The step rules in the words of a network: the five ways in which a flit of a packet may move, and what each leaves. Assumes nothing.
use Prim.Native.Nat.{ℕ, suc, ◌≤◌, ◌<◌}
use mathlib.Core.Path.{◌≡◌}
use mathlib.Core.Logic.{◌≢◌}
use lib.Dec.{T}
use Rattle.route.specs.Grid.{Dir}
use Rattle.route.specs.Turns.{local, going}
use Rattle.wormhole.specs.declared.records.Record.{Record}
use Rattle.wormhole.specs.Memory.{Sections, owner_of, holds_of, next_of}
use Rattle.wormhole.specs.Steps.{Stepped, start, advance, follow, feed, eat}
use Rattle.wormhole.proofs.Draining.Network.{Network}
use Rattle.wormhole.proofs.Draining.Shape.{gap}
use Rattle.wormhole.proofs.Draining.Invariant.{aim, away}

-- packet i, whose record is r, may move a flit, and leaves t
pub data Step (M : Network) (s : Sections) (i : ℕ) (r : Record) (t : Stepped) : Type 0 where
  -- the header leaves the source
  starts : (d : Dir) → r.front ≡ 0 → 1 ≤ r.waiting → away M r ≢ 0 → T (M.answer (M.place r.source) local (aim M r) d)
      → owner_of s (M.channel (M.place r.source) d) ≡ 0 → t ≡ start s i r (M.channel (M.place r.source) d) → Step M s i r t
  -- it leaves the front
  advances : (k : ℕ) (d : Dir) → r.front ≡ suc k → 1 ≤ holds_of s k → gap M (aim M r) k ≢ 0 → T (M.answer (M.far k) (going (M.way k)) (aim M r) d)
      → owner_of s (M.channel (M.far k) d) ≡ 0 → t ≡ advance s i r (M.channel (M.far k) d) k → Step M s i r t
  follows : (k y : ℕ) → T (M.exists k) → owner_of s k ≡ suc i → 1 ≤ holds_of s k → next_of s k ≡ suc y → holds_of s y < M.depth → t ≡ follow s r k
      → Step M s i r t
  feeds : (q : ℕ) → r.rear ≡ suc q → 1 ≤ r.waiting → holds_of s q < M.depth → t ≡ feed s r → Step M s i r t
  eats : (f : ℕ) → r.front ≡ suc f → gap M (aim M r) f ≡ 0 → 1 ≤ holds_of s f → r.eaten < r.flits → t ≡ eat s r → Step M s i r t
