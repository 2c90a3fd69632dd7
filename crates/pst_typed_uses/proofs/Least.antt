-- The least breach of all uses, and of all rules.
use Rattle.std.proofs.Common.{◌≡◌, ◌⊎◌, inl, inr, ⊎_elim, ℕ, ℤ, List, [], ◌∷◌, Option, refl, sym, subst, arith}
use Rattle.std.specs.Prelude.{Some, None, Contains}
use Rattle.std.proofs.lemmas.List.Elements.{Contains-append_left, Contains-append_right, Contains-append_cases, Contains-push, Contains-push_cases}
use Rattle.pst_base.specs.declared.position.Place.{Place}
use Rattle.pst_base.specs.Laws.{BeforeGoesOn}
use Rattle.pst_ast.specs.DeclarationTree.{UnitTree}
use Rattle.pst_ast.specs.declared.referent.Finding.{Finding}
use Rattle.pst_ast.specs.Uses.{Use, Judges, HasPlain, HasType, Uniques, Branches, Arms, Performs, Ties, Passes, Reads, Repeats, TakesItem, NamesType, NamesBase, Calls, Assigns, Traverses, Ends, Joins, Binds, Targets, uses}
use Rattle.pst_type_rules.specs.TypeRules.{UseBreaks}
use Rattle.pst_name_rules.specs.Earlier.{earlier}
use Rattle.pst_name_rules.specs.Leasts.{IsLeastOf, least_at}
use Rattle.pst_name_rules.proofs.Leasts.{told, least_of_both}
use Rattle.pst_evaluate.specs.Settled.{AreItemValues}
use Rattle.pst_range_rules.specs.Laws.{PlainTypesAreJudged, TypesAreJudged, ArmsAreJudged}
use Rattle.pst_use_rules.specs.Laws.{IsBroken, ExpressionsAreJudged, CountsAreJudged, BindsAreJudged, AssignmentsAreJudged, CallsAreJudged}
use Rattle.pst_typed_uses.specs.Found.{use_found}
use Rattle.pst_typed_uses.specs.Breaches.{IsUseBreach}

pub none_in : {X : Type 0} (x : X) → Contains [] x → ⊥
none_in x h = absurd (omega (arith, h.1))

pub cons_cases : {X : Type 0} (y x : X) (xs : List X) → Contains (y ∷ xs) x → (y ≡ x) ⊎ Contains xs x
cons_cases y x xs h =
    ⊎_elim (λ c. ⊎_elim (λ d. absurd (none_in x d)) (λ e. inl e) (Contains-push_cases [] y x c)) (λ d. inr d) (Contains-append_cases (y ∷ []) xs x h)

pub cons_first : {X : Type 0} (x : X) (xs : List X) → Contains (x ∷ xs) x
cons_first x xs = Contains-append_left (x ∷ []) xs x (Contains-push [] x)

pub cons_rest : {X : Type 0} (y x : X) (xs : List X) → Contains xs x → Contains (y ∷ xs) x
cons_rest y x xs h = Contains-append_right (y ∷ []) xs x h

-- ---- the least of what each element breaks

module _ (on : BeforeGoesOn) {X : Type 0} (P : X → Finding → Type 0) (found : X → Option Finding) (each : (x : X) → IsLeastOf (P x) (found x)) where
  abbrev Broken : List X → Finding → Type 0
  Broken [] f = ⊥
  Broken (x ∷ xs) f = P x f ⊎ Broken xs f

  with_more : (xs : List X) (B : Finding → Type 0) (before : Option Finding) → IsLeastOf B before → IsLeastOf (λ f. B f ⊎ Broken xs f) (least_at found xs before)
  with_more [] B before least = told on B (λ f. B f ⊎ ⊥) before (λ f has. inl has) (λ f has. ⊎_elim (λ there. there) (λ never. absurd never) has) least
  with_more (x ∷ xs) B before least =
      told on (λ f. (B f ⊎ P x f) ⊎ Broken xs f) (λ f. B f ⊎ (P x f ⊎ Broken xs f)) (least_at found xs (earlier before (found x)))
      (λ f has. ⊎_elim (λ left. ⊎_elim (λ there. inl there) (λ here. inr (inl here)) left) (λ there. inr (inr there)) has)
      (λ f has. ⊎_elim (λ there. inl (inl there)) (λ more. ⊎_elim (λ here. inl (inr here)) (λ there. inr there) more) has)
      (with_more xs (λ f. B f ⊎ P x f) (earlier before (found x)) (least_of_both on B (P x) before (found x) least (each x)))

  among : (xs : List X) (f : Finding) → Broken xs f → (x : X) × Contains xs x × P x f
  among [] f has = absurd has
  among (x ∷ xs) f has = ⊎_elim (λ here. (x, cons_first x xs, here)) (λ later. let more = among xs f later in (more.0, cons_rest x more.0 xs more.1, more.2)) has

  broken : (xs : List X) (f : Finding) (x : X) → Contains xs x → P x f → Broken xs f
  broken [] f x there has = absurd (none_in x there)
  broken (y ∷ ys) f x there has = ⊎_elim (λ e. inl (subst (λ (z : X). P z f) (sym e) has)) (λ more. inr (broken ys f x more has)) (cons_cases y x ys there)

  pub least_of_each : (xs : List X) → IsLeastOf (λ f. (x : X) × Contains xs x × P x f) (least_at found xs None)
  least_of_each xs =
      told on (λ f. ⊥ ⊎ Broken xs f) (λ f. (x : X) × Contains xs x × P x f) (least_at found xs None)
      (λ f has. ⊎_elim (λ never. absurd never) (λ there. among xs f there) has)
      (λ f (x, there, has). inr (broken xs f x there has))
      (with_more xs (λ f. ⊥) None (λ f never. never))

-- ---- all uses

module _ (on : BeforeGoesOn) (expressions : ExpressionsAreJudged) (counts : CountsAreJudged) (binds : BindsAreJudged) (assignments : AssignmentsAreJudged) (calls : CallsAreJudged)
    (plains : PlainTypesAreJudged) (types : TypesAreJudged) (arms : ArmsAreJudged)
    (units : List UnitTree) (names : List (List ℕ)) (known : Place → Option ℤ) (are : AreItemValues units names known) where
  each_use : (u : Use) → IsLeastOf (IsBroken units names u) (use_found units names known u)
  each_use (Judges at role expr) = expressions units names known at role expr are
  each_use (HasPlain at plain) = plains units names known at plain are
  each_use (HasType at type) = types units names known at type are
  each_use (Uniques items) = (counts units names).0 items
  each_use (Branches places) = (counts units names).1 places
  each_use (Arms at labels) = arms units names known at labels are
  each_use (Performs at place traversal) = (calls units names).0 at place traversal
  each_use (Ties at first others) = (binds units names).0 at first others
  each_use (Passes component name arguments needed) = (calls units names).1 component name arguments needed
  each_use (Assigns at name) = assignments units names at name
  each_use (Targets component pool instances action reference) = (binds units names).1 component pool instances action reference
  each_use (Reads at first rest) = λ f has. elim has [ ]
  each_use (Repeats at first rest) = λ f has. elim has [ ]
  each_use (TakesItem at component enum item) = λ f has. elim has [ ]
  each_use (NamesType component wanted name) = λ f has. elim has [ ]
  each_use (NamesBase action name) = λ f has. elim has [ ]
  each_use (Calls component name) = λ f has. elim has [ ]
  each_use (Traverses at name) = λ f has. elim has [ ]
  each_use (Ends at handle reference) = λ f has. elim has [ ]
  each_use (Joins labels name) = λ f has. elim has [ ]
  each_use (Binds component pool) = λ f has. elim has [ ]

  pub uses_least : IsLeastOf (IsUseBreach units names) (least_at (use_found units names known) (uses units) None)
  uses_least = least_of_each on (IsBroken units names) (use_found units names known) each_use (uses units)
