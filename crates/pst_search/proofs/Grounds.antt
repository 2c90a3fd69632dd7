-- The walk is of the same model and root with one choice more.
use Rattle.std.proofs.Common.{sym, subst}
use Rattle.pst_model.specs.ModelView.{view_model}
use Rattle.pst_model.specs.Sound.{IsSound}
use Rattle.pst_built.specs.Laws.{IsConcreteRoot}
use Rattle.pst_link_walk.specs.Walks.{Kept}
use Rattle.pst_list_values.specs.Tied.{IsSameWalk}
use Rattle.pst_search.specs.Made.{IsGround}

pub ground_same : (k l : Kept) → IsSameWalk k l → IsGround k → IsGround l
ground_same k l same ground = record {
  sound = subst (λ m. IsSound (view_model m)) (sym same.model) ground.sound;
  concrete = subst (IsConcreteRoot (view_model l.model)) (sym same.root) (subst (λ m. IsConcreteRoot (view_model m) k.root) (sym same.model) ground.concrete);
}
