use Rattle.std.proofs.Common.{map}
use Rattle.pst_ast.specs.DeclarationView.{view_action, view_unit}
use Rattle.pst_sources.specs.Shown.{sources_of}
use Rattle.pst_type_rules.specs.Sites.{action_of}
use Rattle.pst_model_members.proofs.Locking.{places_locked}
use Rattle.pst_model_members.proofs.locks.locked_places.Goals as goal

pub returns : goal.returns
returns c =
    places_locked (sources_of c.args.known.now).units (map view_unit c.sites.result.now) (map (λ a. action_of (view_action a.now)) c.actions.result.now) c.in_ok-list.list c.add_actions.new.found.items c.new-found.result.items
    c.in_ok-list.ensures c.new-found.ensures.items c.in_ok-add_actions.ensures c.actions.ensures c.sites.ensures
