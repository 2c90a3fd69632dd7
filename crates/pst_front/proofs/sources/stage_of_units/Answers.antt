use Rattle.std.proofs.Common.{map, string_bytes}
use Rattle.pst_ast.specs.DeclarationView.{view_unit}
use Rattle.pst_model.specs.ModelView.{view_model}
use Rattle.pst_outcome.specs.Sources.{AreElaborated}
use Rattle.pst_front.proofs.Said.{without_model}
use Rattle.pst_front.proofs.sources.stage_of_units.Goals as goal

pub returns-in-Ok : goal.returns-in-Ok
returns-in-Ok c =
    record {
      right = AreElaborated (view_model c.in-Ok.model) c.in-Ok.number c.in-Ok.ensures.model;
      sound = (c.requires (view_model c.in-Ok.model) c.in-Ok.number c.in-Ok.ensures.model, c.roots_are_concrete.ensures (map view_unit c.args.units.now) c.args.names c.args.root.now.component.now c.args.root.now.action.now (view_model c.in-Ok.model) c.in-Ok.number c.in-Ok.ensures.model);
    }

pub returns-in-Err : goal.returns-in-Err
returns-in-Err c =
    without_model (map string_bytes c.args.arguments.now) c.args.root.now.component.now c.args.root.now.action.now c.args.names (map view_unit c.args.units.now) c.in-Err.end c.stage_without_model.result c.in-Err.ensures.end c.stage_without_model.ensures
