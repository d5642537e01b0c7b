-- Records of which the first are packets and the others are empty: the lowest empty one, and one packet more. By induction on the packets.
-- Assumes nothing.
use Prim.Native.Nat.{ℕ, suc, ◌-◌, ◌≤◌, ◌<◌}
use mathlib.Core.Path.{◌≡◌, refl, ap}
use mathlib.Core.List.{List, [], ◌∷◌, ◌++◌}
use native.Mathlib.Omega.{arith}
use lib.ListN.{length, replicate, length-append, length-replicate}
use lib.Seq.{append_snoc}
use Rattle.wormhole.specs.declared.records.Record.{Record}
use Rattle.wormhole.specs.Memory.{none}
use Rattle.wormhole.specs.Calls.{lowest}
use Rattle.traffic.specs.declared.headers.Header.{Header}
use Rattle.traffic.specs.Lists.{packets, at_source}
use Rattle.traffic.specs.Calls.{filled}

-- ---- packets
-- one header more
pub packets_last : (C : ℕ) (hs : List Header) (h : Header) → packets C (hs ++ (h ∷ [])) ≡ packets C hs ++ (at_source C h ∷ [])
unfolding packets
packets_last C [] h = refl
packets_last C (i ∷ hs) h = ap (λ (l : List Record). at_source C i ∷ l) (packets_last C hs h)

-- none of them is empty
pub lowest_is : (C : ℕ) (hs : List Header) (rs : List Record) → lowest (packets C hs ++ (none ∷ rs)) ≡ length hs
unfolding lowest packets
lowest_is C [] rs = refl
lowest_is C (h ∷ hs) rs = ap suc (lowest_is C hs rs)

-- ---- and empty records
pub length_filled : (ps : List Record) (count : ℕ) → length ps ≤ count → length (filled ps count) ≡ count
length_filled ps count h =
    let n = count - length ps in
    omega (arith, length-append ps (replicate n none), length-replicate n none)

-- there is an empty record after the packets
pub has_room : (ps : List Record) (count : ℕ) → length ps < count → filled ps count ≡ ps ++ (none ∷ replicate (count - suc (length ps)) none)
has_room ps count h =
    let e : count - length ps ≡ suc (count - suc (length ps)) = omega arith in
    ap (λ k. ps ++ replicate k none) e

-- and one packet more takes it
pub takes_room : (ps : List Record) (p : Record) (count : ℕ) → filled (ps ++ (p ∷ [])) count ≡ ps ++ (p ∷ replicate (count - suc (length ps)) none)
takes_room ps p count =
    let e : length (ps ++ (p ∷ [])) ≡ suc (length ps) = omega (arith, length-append ps (p ∷ [])) in
    rw e (append_snoc ps p (replicate (count - suc (length ps)) none))
