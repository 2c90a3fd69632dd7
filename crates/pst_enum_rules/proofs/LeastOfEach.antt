-- The least of what is found at the items of a list, where at each the least of its breaches is found.
use Rattle.std.proofs.Common.{◌≡◌, ◌⊎◌, inl, inr, ⊎_elim, List, [], ◌∷◌, Option, sym, subst}
use Rattle.std.specs.Prelude.{None, Contains}
use Rattle.pst_base.specs.Laws.{BeforeGoesOn}
use Rattle.pst_ast.specs.declared.referent.Finding.{Finding}
use Rattle.pst_name_rules.specs.Earlier.{earlier}
use Rattle.pst_name_rules.specs.Leasts.{IsLeastOf, least_at}
use Rattle.pst_name_rules.proofs.Leasts.{least_of_both, told}
use Rattle.std.proofs.lemmas.List.Elements.{Contains-append_left, Contains-append_right, Contains-append_cases, Contains-push, Contains-push_cases}
use Rattle.std.proofs.Common.{arith}

pub none_in : {X : Type 0} (x : X) → Contains [] x → ⊥
none_in x h = absurd (omega (arith, h.1))

pub cons_cases : {X : Type 0} (y x : X) (xs : List X) → Contains (y ∷ xs) x → (y ≡ x) ⊎ Contains xs x
cons_cases y x xs h =
    ⊎_elim (λ c. ⊎_elim (λ d. absurd (none_in x d)) (λ e. inl e) (Contains-push_cases [] y x c)) (λ d. inr d) (Contains-append_cases (y ∷ []) xs x h)

pub cons_first : {X : Type 0} (x : X) (xs : List X) → Contains (x ∷ xs) x
cons_first x xs = Contains-append_left (x ∷ []) xs x (Contains-push [] x)

pub cons_rest : {X : Type 0} (y x : X) (xs : List X) → Contains xs x → Contains (y ∷ xs) x
cons_rest y x xs h = Contains-append_right (y ∷ []) xs x h

module _ (on : BeforeGoesOn) {X : Type 0} (finding : X → Option Finding) (P : X → Finding → Type 0) where
  abbrev IsAt : List X → Finding → Type 0
  IsAt xs f = (x : X) × Contains xs x × P x f

  to_rest : (Q : Finding → Type 0) (x : X) (xs : List X) (f : Finding) → (Q f ⊎ P x f) ⊎ IsAt xs f → Q f ⊎ IsAt (x ∷ xs) f
  to_rest Q x xs f has = ⊎_elim
      (λ left. ⊎_elim (λ there. inl there) (λ here. inr (x, cons_first x xs, here)) left)
      (λ (there : IsAt xs f). inr (there.0, cons_rest x there.0 xs there.1, there.2))
      has

  from_rest : (Q : Finding → Type 0) (x : X) (xs : List X) (f : Finding) → Q f ⊎ IsAt (x ∷ xs) f → (Q f ⊎ P x f) ⊎ IsAt xs f
  from_rest Q x xs f has = ⊎_elim
      (λ there. inl (inl there))
      (λ (at : IsAt (x ∷ xs) f). ⊎_elim
      (λ e. inl (inr (subst (λ y. P y f) (sym e) at.2)))
      (λ more. inr (at.0, more, at.2))
      (cons_cases x at.0 xs at.1))
      has

  least_behind : (xs : List X) (Q : Finding → Type 0) (before : Option Finding) → IsLeastOf Q before → ((x : X) → Contains xs x → IsLeastOf (P x) (finding x))
      → IsLeastOf (λ f. Q f ⊎ IsAt xs f) (least_at finding xs before)
  least_behind [] Q before least each = told on Q (λ f. Q f ⊎ IsAt [] f) before (λ f has. inl has) (λ f has. ⊎_elim (λ there. there) (λ (at : IsAt [] f). absurd (none_in at.0 at.1)) has) least
  least_behind (x ∷ xs) Q before least each =
      told on (λ f. (Q f ⊎ P x f) ⊎ IsAt xs f) (λ f. Q f ⊎ IsAt (x ∷ xs) f) (least_at finding xs (earlier before (finding x))) (to_rest Q x xs) (from_rest Q x xs)
      (least_behind xs (λ f. Q f ⊎ P x f) (earlier before (finding x)) (least_of_both on Q (P x) before (finding x) least (each x (cons_first x xs)))
      (λ y among. each y (cons_rest x y xs among)))

  pub least_of_each : (xs : List X) → ((x : X) → Contains xs x → IsLeastOf (P x) (finding x)) → IsLeastOf (λ f. (x : X) × Contains xs x × P x f) (least_at finding xs None)
  least_of_each xs each =
      told on (λ f. ⊥ ⊎ IsAt xs f) (IsAt xs) (least_at finding xs None) (λ f has. ⊎_elim (λ no. absurd no) (λ there. there) has) (λ f there. inr there)
      (least_behind xs (λ f. ⊥) None (λ f no. no) each)
