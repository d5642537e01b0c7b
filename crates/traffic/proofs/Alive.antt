-- What a live record in range says of its packet. Assumes nothing.
use Prim.Native.Nat.{◌*◌, ◌≤◌, ◌<◌}
use mathlib.Core.Path.{◌≡◌, sym, subst}
use mathlib.Core.Bool.{true, not, ◌&&◌}
use lib.Dec.{T, leb, ltb, eqb}
use mir.Facts.{and_yes, ltb_yes, leb_yes, eqb_yes}
use borrow.Author.Tests.{ne_eqb}
use Rattle.route.specs.Mesh.{Mesh}
use Rattle.wormhole.specs.declared.records.Record.{Record}
use Rattle.wormhole.specs.Range.{names, flits_served, packet_fits, record_fits}

-- two nodes of the mesh, and 1 to 200 flits
pub record Alive (m : Mesh) (r : Record) : Type 0 where
  pub live : r.live ≡ 1
  pub source : r.source < m.columns * m.rows
  pub destination : r.destination < m.columns * m.rows
  pub some : 1 ≤ r.flits
  pub few : r.flits ≤ 200

-- by the parts of the test
pub alive : (m : Mesh) (r : Record) → record_fits m r ≡ true → (r.live ≡ 0 → ⊥) → Alive m r
unfolding record_fits
alive m r fits h =
    let nodes = m.columns * m.rows in
    let counts = leb r.waiting r.flits && leb r.eaten r.flits in
    let apart = not (eqb r.source r.destination) in
    let ends = names m r.rear && names m r.front in
    let t : T (ends && (eqb r.live 1 && packet_fits m r)) = subst T (sym (rw (ne_eqb r.live 0 h) at fits)) tt in
    let a = and_yes ends (eqb r.live 1 && packet_fits m r) t in
    let b = and_yes (eqb r.live 1) (packet_fits m r) a.1 in
    let c = and_yes (ltb r.source nodes && ltb r.destination nodes) (apart && (flits_served r.flits && counts)) b.1 in
    let d = and_yes (ltb r.source nodes) (ltb r.destination nodes) c.0 in
    let e = and_yes apart (flits_served r.flits && counts) c.1 in
    let f = and_yes (flits_served r.flits) counts e.1 in
    let g = and_yes (leb 1 r.flits) (leb r.flits 200) f.0 in
    record {
      live = eqb_yes b.0;
      source = ltb_yes d.0;
      destination = ltb_yes d.1;
      some = leb_yes g.0;
      few = leb_yes g.1;
    }
