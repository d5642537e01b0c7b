-- By whether the record is live; a live one has two nodes of the mesh and a flit. Assumes nothing.
use Prim.Native.Nat.{ℕ, ◌-◌}
use mathlib.Core.Path.{◌≡◌, refl, ◌∙◌}
use mathlib.Core.List.{[], ◌∷◌}
use native.Mathlib.Omega.{arith}
use borrow.Author.Tests.{eq-eqb, ne_eqb}
use Rattle.route.specs.Coded.{meant}
use Rattle.wormhole.specs.declared.records.Record.{Record}
use Rattle.traffic.specs.Lists.{node_byte, record_bytes}
use Rattle.traffic.specs.declared.pages.Page.{Page}
use Rattle.traffic.specs.Coded.{put, puts}
use Rattle.traffic.proofs.Alive.{alive}
use Rattle.traffic.proofs.Putting.{putting, put_last}
use Rattle.traffic.proofs.writes.put_record.Goals as goal

module _ (p : Page) (C : ℕ) (r : Record) where
  nothing : r.live ≡ 0 → p ≡ puts p (record_bytes C r)
  unfolding puts
  nothing h = rw (eq-eqb r.live 0 h) refl

  three : (r.live ≡ 0 → ⊥) → {a b k : ℕ} → a ≡ node_byte C r.source → b ≡ node_byte C r.destination → k ≡ r.flits - 1
      → {p₁ p₂ p₃ : Page} → p₁ ≡ put p a → p₂ ≡ put p₁ b → p₃ ≡ put p₂ k → p₃ ≡ puts p (record_bytes C r)
  three h {a} {b} {k} ea eb ek {p₁} {p₂} e₁ e₂ e₃ =
      rw (ne_eqb r.live 0 h, ← ea, ← eb, ← ek) (put_last p₂ k e₃ ∙ putting p₁ b (k ∷ []) e₂ ∙ putting p a (b ∷ k ∷ []) e₁)

pub returns-then-r-eq0 : goal.returns-then-r-eq0
returns-then-r-eq0 c = search nothing

pub node_byte-requires-clause-node_bound : goal.node_byte-requires-clause-node_bound
node_byte-requires-clause-node_bound c = (alive (meant c.args.m) c.args.r c.requires.fits c.if-r-eq0.false).source

pub node_byte-requires-2-clause-node_bound : goal.node_byte-requires-2-clause-node_bound
node_byte-requires-2-clause-node_bound c = (alive (meant c.args.m) c.args.r c.requires.fits c.if-r-eq0.false).destination

pub overflow_sub-r : goal.overflow_sub-r
overflow_sub-r c =
    let a = alive (meant c.args.m) c.args.r c.requires.fits c.if-r-eq0.false in
    omega arith

pub returns : goal.returns
returns c =
    let x = c.args in
    let a = alive (meant x.m) x.r c.requires.fits c.if-r-eq0.false in
    three x.page.now x.m.columns x.r (omega arith) c.node_byte.ensures c.node_byte-2.ensures (omega arith) c.put.ensures c.put-2.ensures c.put-3.ensures
