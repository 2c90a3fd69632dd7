-- Lists whose claims need more instances than there are.
use Rattle.std.proofs.Common.{◌≡◌, refl, sym, subst}
use Rattle.pst_model.specs.ModelView.{view_model}
use Rattle.pst_scen.specs.declared.scenario.Scenario.{Scenario}
use Rattle.pst_legal.specs.ValueReading.{Answer, Options, Dead, Whole}
use Rattle.pst_built.specs.SoFar.{HasRead}
use Rattle.pst_shape.specs.Walks.{IfRead}
use Rattle.pst_link_walk.specs.Walks.{Kept}
use Rattle.pst_list_walk.specs.Walks.{answer, IsRead}
use Rattle.pst_claim_counts.specs.Counts.{AreTooMany, TooManyClaimsRefuseLists}
use Rattle.pst_search.specs.Readings.{barren_at}

module _ (k : Kept) where
  few_by : TooManyClaimsRefuseLists → (a : Answer) → answer k ≡ a → IsRead a → (s : Scenario) → IfRead a (λ t. s ≡ t) → AreTooMany (view_model k.model) s → barren_at k
  few_by law (Options t n) e is s same many = law (view_model k.model) k.root k.seed k.level k.choices s (subst (λ a. HasRead a s) (sym e) (sym same)) many
  few_by law (Whole t) e is s same many = law (view_model k.model) k.root k.seed k.level k.choices s (subst (λ a. HasRead a s) (sym e) (sym same)) many
  few_by law Dead e is s same many = absurd is

  pub few_barren : TooManyClaimsRefuseLists → IsRead (answer k) → (s : Scenario) → IfRead (answer k) (λ t. s ≡ t) → AreTooMany (view_model k.model) s → barren_at k
  few_barren law is s same many = few_by law (answer k) refl is s same many
