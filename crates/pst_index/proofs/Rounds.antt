-- Actions of which each is the base of the next.
use Rattle.std.proofs.Common.{◌≡◌, ℕ, suc, ◌+◌, ◌-◌, ◌<◌, ◌≤◌, List, length, get_or, sym, ap, ◌∙◌, arith, inl, inr}
use Rattle.std.specs.Prelude.{Some, None, slice_get}
use Rattle.std.proofs.lemmas.Bool.{cases_lt}
use Rattle.std.proofs.lemmas.Option.{slice_get_within, slice_get-get_or}
use Rattle.pst_ast.specs.declared.scope_declaration.Declaration.{Declaration}
use Rattle.pst_ast.specs.declared.scope_declaration.Scope.TheVariants.{Files}
use Rattle.pst_ast.specs.declared.scope_declaration.Sort.TheVariants.{Component}
use Rattle.pst_ast.specs.Lookups.{base_of}
use Rattle.pst_members.specs.Rounds.{IsRound}

abbrev pub blank : Declaration
blank = record { name = record { id = record { 0 = 0 }; place = record { file = 0; line = 0; column = 0 } }; scope = Files; inside = None; sort = Component }

some_is : {X : Type 0} {x y : X} → Some x ≡ Some y → x ≡ y
some_is {X} {x} {y} e = cc

-- each of the first so many is the base of the next
abbrev pub AreNextTo : List Declaration → List Declaration → ℕ → Type 0
AreNextTo ds round n = (i : ℕ) (d e : Declaration) → suc i < n → slice_get round i ≡ Some d → slice_get round (suc i) ≡ Some e → base_of ds e ≡ Some d

module _ (ds round : List Declaration) where
  read : (i : ℕ) (d : Declaration) → slice_get round i ≡ Some d → get_or round i blank ≡ d
  read i d there = some_is (sym (slice_get-get_or round i blank (slice_get_within round i d there)) ∙ there)

  pub next_on : (at : ℕ) → 1 ≤ at → base_of ds (get_or round at blank) ≡ Some (get_or round (at - 1) blank) → AreNextTo ds round at → AreNextTo ds round (at + 1)
  next_on at some leads so_far i d e less there next = elim (cases_lt (suc i) at) [
    | inl earlier ↦ so_far i d e earlier there next
    | inr last ↦
        let same : suc i ≡ at = omega (arith, less, last) in
        let before : at - 1 ≡ i = omega (arith, same) in
        ap (base_of ds) (sym (ap (λ (n : ℕ). get_or round n blank) (sym same) ∙ read (suc i) e next)) ∙ leads ∙ ap (λ (x : Declaration). Some x) (ap (λ (n : ℕ). get_or round n blank) before ∙ read i d there)
  ]

  pub all_round : (n : ℕ) → length round ≤ n → base_of ds (get_or round 0 blank) ≡ Some (get_or round (length round - 1) blank) → AreNextTo ds round n → IsRound ds round
  all_round n all closes so_far = record {
    next = λ i d e there next. so_far i d e (omega (arith, all, slice_get_within round (suc i) e next)) there next;
    back = λ d e first last. ap (base_of ds) (sym (read 0 d first)) ∙ closes ∙ ap (λ (x : Declaration). Some x) (read (length round - 1) e last);
  }
