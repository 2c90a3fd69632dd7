-- Roots that aren't abstract. Only tests use them.
use Rattle.std.proofs.Common.{◌≡◌, ℕ, Bool, true, false, Some, sym, ap, ◌∙◌}
use Rattle.std.specs.Prelude.{slice_get, not}
use Rattle.std.specs.Option.{option_map}
use Rattle.std.proofs.lemmas.Option.{slice_get-map, same_Some}
use Rattle.pst_model.specs.declared.action.ActionType.{ActionType}
use Rattle.pst_model.specs.declared.model.Model.{Model}
use Rattle.pst_model.specs.ModelTree.{ActionTree}
use Rattle.pst_model.specs.ModelView.{view_model, view_action}
use Rattle.pst_built.specs.Laws.{IsConcreteRoot}

not_true : (b : Bool) → not b ≡ true → b ≡ false
not_true true e = cc
not_true false e = cc

pub concrete : (m : Model) (root : ℕ) (a : ActionType) → slice_get m.actions.items root ≡ Some a → not a.is_abstract ≡ true → IsConcreteRoot (view_model m) root
concrete m root a at off type is =
    let both : Some (view_action a) ≡ Some type = sym (slice_get-map view_action m.actions.items root ∙ ap (option_map view_action) at) ∙ is in
    ap (λ (t : ActionTree). t.is_abstract) (sym (same_Some (view_action a) type both)) ∙ not_true a.is_abstract off
