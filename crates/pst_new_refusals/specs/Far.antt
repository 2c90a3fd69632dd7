-- Constraints that look at other actions than their own.
use Rattle.std.specs.Prelude.{◌≡◌, Bool, false, ◌||◌, map}
use Rattle.std.specs.List.{list_any}
use Rattle.pst_model.specs.ModelTree.{ActionTree, ModelTree}
use Rattle.pst_refusals.specs.declared.inlines.Sought.TheVariants as sought
use Rattle.pst_refusals.specs.Inlines.{is_far, content_has}
use Rattle.pst_new_refusals.specs.declared.far.FarTypes.{FarTypes}
use Rattle.pst_new_refusals.specs.Named.{named_of, rows}

-- a constraint of the type looks behind a handle, or an inline one in its activity
abbrev pub is_far_type : ActionTree → Bool
is_far_type type = list_any is_far type.constraints || content_has sought.Far type.content

abbrev pub has_far : ModelTree → Bool
has_far m = list_any is_far_type m.actions

-- which a model has of them
pub record AreFarOf (m : ModelTree) (far : FarTypes) : Type 0 where
  pub none : far.some ≡ false → has_far m ≡ false
  pub named : rows far.named.items ≡ map named_of m.actions
