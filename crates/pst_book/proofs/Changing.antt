-- A loop that changes the entries of a list one by one.
use Rattle.std.proofs.Common.{◌≡◌, ◌≢◌, ℕ, ◌+◌, ◌<◌, ◌≤◌, List, get_or, sym, ◌∙◌, subst, ⊎_elim, arith}
use Rattle.std.proofs.lemmas.Bool.{cases_eq}

-- the entries below a place are changed as the relation says, and the others are as before
pub record Changed {X : Type 0} (d : X) (R : ℕ → X → X → Type 0) (old now : List X) (place : ℕ) : Type 0 where
  pub done : (m : ℕ) → m < place → R m (get_or old m d) (get_or now m d)
  pub rest : (m : ℕ) → place ≤ m → get_or now m d ≡ get_or old m d

pub change_more : {X : Type 0} (d : X) (R : ℕ → X → X → Type 0) (old now new : List X) (place : ℕ) → R place (get_or now place d) (get_or new place d) → ((m : ℕ) → m ≢ place → get_or new m d ≡ get_or now m d) → Changed d R old now place → Changed d R old new (place + 1)
change_more d R old now new place here others c =
    record {
      done = λ m l. ⊎_elim
          (λ e. subst (λ v. R v (get_or old v d) (get_or new v d)) (sym e) (subst (λ x. R place x (get_or new place d)) (c.rest place (omega arith)) here))
          (λ n. subst (λ x. R m (get_or old m d) x) (sym (others m n)) (c.done m (omega (arith, l, n)))) (cases_eq m place);
      rest = λ m l. others m (λ e. omega (arith, e, l)) ∙ c.rest m (omega (arith, l));
    }
