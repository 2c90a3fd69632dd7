-- At most one breach is the least.
use Rattle.std.proofs.Common.{◌≡◌, inl, inr, ℕ, subst, arith}
use Rattle.pst_base.specs.declared.position.Place.{Place}
use Rattle.pst_base.specs.Places.{IsBefore}
use Rattle.pst_base.specs.Laws.{NoneIsBeforeItself, BeforeGoesOn}
use Rattle.pst_ast.specs.Breaches.{IsNoLater, IsLeast}

same_by : (p q : Place) (r s : ℕ) → NoneIsBeforeItself → BeforeGoesOn → IsNoLater p r q s → IsNoLater q s p r → (p ≡ q) × (r ≡ s)
same_by p q r s never on (inl a) (inl b) = absurd (never p (on p q p a b))
same_by p q r s never on (inl a) (inr b) = absurd (never p (subst (λ z. IsBefore p z) b.0 a))
same_by p q r s never on (inr a) (inl b) = absurd (never q (subst (λ z. IsBefore q z) a.0 b))
same_by p q r s never on (inr a) (inr b) = (a.0, omega (arith, a.1, b.1))

pub least_is_one : NoneIsBeforeItself → BeforeGoesOn → (Breach : Place → ℕ → Type 0) (p q : Place) (r s : ℕ)
    → IsLeast Breach p r → IsLeast Breach q s → (p ≡ q) × (r ≡ s)
least_is_one never on Breach p q r s one other = same_by p q r s never on (one.least q s other.is) (other.least p r one.is)
