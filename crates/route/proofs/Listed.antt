-- The returns of the calls on a numbering: each by the tests that led to it, in their order. Assumes nothing.
use Prim.Native.Nat.{ℕ}
use mathlib.Core.Path.{◌≡◌, refl, ap, sym, ◌∙◌}
use mathlib.Core.List.{List}
use lib.ListN.{length}
use Rattle.route.specs.declared.checks.Checked.{Checked}
use Rattle.route.specs.declared.meshes.Mesh.{Mesh as Coded}
use Rattle.route.specs.declared.refusals.Refusal.{Refusal}
use Rattle.route.specs.Turns.{Rule}
use Rattle.route.specs.Mesh.{ruled}
use Rattle.route.specs.Numbers.{rule_of}
use Rattle.route.specs.Served.{bad_list, code}
use Rattle.route.specs.House.{numbering, numbered}
use Rattle.route.specs.Check.{no_pair, first_pair, checked}
use Rattle.route.specs.Coded.{meant}
use Rattle.route.proofs.Unless as unless

-- the mesh of a rule is that of the rule's number
pub of_rule : {C R : ℕ} (rule : ℕ) (m : Coded) {k : Rule} → meant m ≡ ruled k C R 0 → k ≡ rule_of rule → meant m ≡ ruled (rule_of rule) C R 0
of_rule {C} {R} rule m hm hk = hm ∙ ap (λ (k : Rule). ruled k C R 0) hk

module _ (C R rule : ℕ) (l : List ℕ) where
  pub not_numbered : (e : Refusal) → code e ≡ bad_list C R rule (length l) → record { refusal = code e; list = l } ≡ numbered C R rule l
  unfolding numbered
  not_numbered e h = rw (sym h) (sym (unless.refuses_by (λ i. record { refusal = i; list = l }) _ e))

  pub not_checked : (e : Refusal) → code e ≡ bad_list C R rule (length l) → no_pair (code e) ≡ checked C R rule l
  unfolding checked
  not_checked e h = rw (sym h) (sym (unless.refuses_by no_pair _ e))

  module _ (served : 0 ≡ bad_list C R rule (length l)) (m : Coded) (hm : meant m ≡ ruled (rule_of rule) C R 0) where
    pub is_numbered : {x : List ℕ} → x ≡ numbering (rule_of rule) (meant m) → record { refusal = 0; list = x } ≡ numbered C R rule l
    unfolding numbered
    is_numbered e = rw (sym served) (ap (λ list. record { refusal = 0; list = list }) (e ∙ ap (numbering (rule_of rule)) hm))

    pub is_checked : {r : Checked} → r ≡ first_pair (meant m) l → r ≡ checked C R rule l
    unfolding checked
    is_checked e = rw (sym served, e, hm) refl
