-- A turn as the code has it is the move that it makes: by the kinds of its step; and a follow that nobody could make. Assumes nothing.
use Prim.Native.Nat.{ℕ, suc, ◌+◌}
use mathlib.Core.Path.{◌≡◌, refl}
use mathlib.Core.Bool.{false, ◌&&◌, and-false}
use native.Mathlib.Omega.{arith}
use lib.Dec.{eqb}
use borrow.Author.Tests.{ne_eqb}
use Rattle.route.specs.Channels.{is_channel}
use Rattle.wormhole.specs.declared.records.Record.{Record}
use Rattle.wormhole.specs.Memory.{Net, Sections, owner_of}
use Rattle.wormhole.specs.Steps.{stepped, known, may, may_follow}
use Rattle.wormhole.specs.Calls.{allowed}
use Rattle.wormhole.specs.Drains.{Move}
use Rattle.wormhole.specs.Coded.{step_act}
use Rattle.wormhole.proofs.ByKind.{known_same, allowed_same, act_same}
use Rattle.report.specs.declared.turns.Counted.{Counted}
use Rattle.report.specs.declared.turns.Turn.{Turn}
use Rattle.report.specs.Coded.{Makes, accepted, done}
use Rattle.report.proofs.Trying.{made_by}

-- ---- what it tries
module _ (N : Net) (s : Sections) (v : Turn) (to : Move) (h : Makes v to) where
  pub accepted_so : (r : Record) → accepted N s v.packet r v.step ≡ known N.mesh to.kind to.channel to.direction && allowed N s to.packet r to.kind to.channel to.direction
  accepted_so r =
      rw (known_same N.mesh v.step to.kind to.channel to.direction h.means, allowed_same v.step to.kind to.channel to.direction h.means N s v.packet r, h.packet) refl

  pub done_so : (c : Counted) → done N s v c ≡ made_by N s to c
  unfolding done made_by
  done_so c = rw (act_same v.step to.kind to.channel to.direction h.means N s v.packet c.packet, h.packet) refl

-- a follow from a free channel is refused
pub nobody : (N : Net) (s : Sections) (i k d : ℕ) (r : Record) → owner_of s k ≡ 0 → known N.mesh 1 k d && allowed N s i r 1 k d ≡ false
unfolding may may_follow
nobody N s i k d r e =
    let n : eqb (owner_of s k) (i + 1) ≡ false = ne_eqb (owner_of s k) (i + 1) (λ q. absurd (omega (arith, e, q))) in
    rw (n, and-false (eqb r.live 1), and-false (is_channel N.mesh k)) refl

-- ---- what is made
pub made_counted : (N : Net) (s : Sections) (v : Turn) (c : Counted) (t : Sections) (q : Record) (k : ℕ) → stepped t q ≡ step_act N s v.packet c.packet v.step
    → k ≡ c.moves + 1 → record { words = t; counted = record { packet = q; moves = k } } ≡ done N s v c
unfolding done
made_counted N s v c t q k f g =
    let one : k ≡ suc c.moves = omega (arith, g) in
    λ i. record { words = (f i).words; counted = record { packet = (f i).packet; moves = one i } }
