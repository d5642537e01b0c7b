-- Memory that meets the invariant is in range: each word and each record by the case of its owner or state. Assumes nothing.
use Prim.Native.Nat.{ℕ, zero, suc, ◌*◌, ◌≤◌}
use mathlib.Core.Path.{◌≡◌, refl}
use mathlib.Core.Bool.{true, not, ◌&&◌}
use mathlib.Core.List.{List}
use native.Mathlib.Omega.{arith}
use lib.Dec.{T, leb, ltb, eqb, eqb→eq}
use lib.ListN.{length, get_or}
use mir.Facts.{yes_and, yes_leb, yes_ltb, yes_eqb, no_eqb}
use Rattle.route.specs.Grid.{pick}
use Rattle.route.specs.Channels.{is_channel}
use Rattle.wormhole.specs.declared.records.Record.{Record}
use Rattle.wormhole.specs.Memory.{Net, Sections, owner_of, holds_of, next_of, none, named}
use Rattle.wormhole.specs.Range.{every, at_most, names, words_fit, blank, flits_served, packet_fits, record_fits, in_range}
use Rattle.wormhole.proofs.Every.{every_of}
use Rattle.wormhole.proofs.Draining.Picks.{passed}
use Rattle.wormhole.proofs.Draining.Network.{Network}
use Rattle.wormhole.proofs.Draining.Meshes.{Ranked, network}
use Rattle.wormhole.proofs.Draining.Invariant.{Fine, Slot, unused, waits, holds, Invariant}
use Rattle.wormhole.proofs.Draining.Climbing.{owner}

module _ (N : Net) (deep : 1 ≤ N.depth) (G : Ranked N.mesh) (s : Sections) (rs : List Record) (I : Invariant (network N deep G) s rs) where
  abbrev M : Network
  M = network N deep G

  -- ---- the words
  hold_low : (k o : ℕ) → owner_of s k ≡ o → holds_of s k ≤ N.depth
  hold_low k zero e = omega (arith, (I.free k e).0)
  hold_low k (suc i) e = (owner M s rs I k i e).holding.held.fill.cap k e

  next_names : (k o x : ℕ) → owner_of s k ≡ o → next_of s k ≡ x → T (named x true (is_channel N.mesh))
  next_names k o zero e z = tt
  next_names k zero (suc y) e z = absurd (omega (arith, z, (I.free k e).1))
  next_names k (suc i) (suc y) e z =
      let S = (owner M s rs I k i e).holding.held.shape in
      (S.at y ((S.at k e).nearer y z).0).real

  words : T (words_fit N (length rs) s)
  unfolding words_fit at_most
  words =
      yes_and (every (at_most (length rs)) s.owner) (every (at_most N.depth) s.holds && every (names N.mesh) s.next)
      (every_of (at_most (length rs)) 0 s.owner (λ k l. yes_leb (I.bound k)))
      (yes_and (every (at_most N.depth) s.holds) (every (names N.mesh) s.next)
      (every_of (at_most N.depth) 0 s.holds (λ k l. yes_leb (hold_low k (owner_of s k) refl)))
      (every_of (names N.mesh) 0 s.next (λ k l. next_names k (owner_of s k) (next_of s k) refl refl)))

  -- ---- the records
  packet : (r : Record) → Fine M r → r.waiting ≤ r.flits → r.eaten ≤ r.flits → T (packet_fits N.mesh r)
  packet r fine w e =
      let nodes = N.mesh.columns * N.mesh.rows in
      yes_and (ltb r.source nodes && ltb r.destination nodes)
      (not (eqb r.source r.destination) && (flits_served r.flits && (leb r.waiting r.flits && leb r.eaten r.flits)))
      (yes_and (ltb r.source nodes) (ltb r.destination nodes) (yes_ltb fine.source) (yes_ltb fine.destination))
      (yes_and (not (eqb r.source r.destination)) (flits_served r.flits && (leb r.waiting r.flits && leb r.eaten r.flits))
      (no_eqb fine.apart)
      (yes_and (flits_served r.flits) (leb r.waiting r.flits && leb r.eaten r.flits)
      (yes_and (leb 1 r.flits) (leb r.flits 200) (yes_leb fine.some) (yes_leb fine.most))
      (yes_and (leb r.waiting r.flits) (leb r.eaten r.flits) (yes_leb w) (yes_leb e))))

  live_fits : (r : Record) → Fine M r → r.waiting ≤ r.flits → r.eaten ≤ r.flits → T (names N.mesh r.rear) → T (names N.mesh r.front)
      → T (record_fits N.mesh r)
  unfolding record_fits
  live_fits r fine w e q f =
      yes_and (names N.mesh r.rear && names N.mesh r.front) (pick (eqb r.live 0) (blank r) (eqb r.live 1 && packet_fits N.mesh r))
      (yes_and (names N.mesh r.rear) (names N.mesh r.front) q f)
      (rw (passed (eqb r.live 0) (blank r) (eqb r.live 1 && packet_fits N.mesh r) (λ t. omega (arith, fine.live, eqb→eq r.live 0 t)))
      (yes_and (eqb r.live 1) (packet_fits N.mesh r) (yes_eqb fine.live) (packet r fine w e)))

  none_fits : T (record_fits N.mesh none)
  unfolding record_fits
  none_fits = tt

  named_by : (x k : ℕ) → x ≡ suc k → T (is_channel N.mesh k) → T (names N.mesh x)
  named_by x k e real = rw e real

  fits_in : (i : ℕ) (r : Record) → Slot M s i r → T (record_fits N.mesh r)
  fits_in i r (unused e nothing) = rw e none_fits
  fits_in i r (waits fine W) =
      live_fits r fine (omega (arith, W.waiting)) (omega (arith, W.eaten)) (rw W.rear tt) (rw W.front tt)
  fits_in i r (holds fine X) =
      let H = X.held in
      let S = H.shape in
      live_fits r fine (omega (arith, H.fill.sum)) (omega (arith, H.fill.sum)) (named_by r.rear X.q H.rear (S.at X.q S.rear).real)
      (named_by r.front X.f H.front (S.at X.f S.front).real)

  pub ranges : T (in_range N s rs)
  ranges =
      yes_and (words_fit N (length rs) s) (every (record_fits N.mesh) rs) words
      (every_of (record_fits N.mesh) none rs (λ i l. fits_in i (get_or rs i none) (I.slot i)))
