use Rattle.std.proofs.Common.{List, map, string_bytes, sym, subst}
use Rattle.pst_ast.specs.DeclarationView.{view_unit}
use Rattle.pst_ast.specs.declared.declaration.Unit.{Unit as UnitNode}
use Rattle.pst_sources_read.specs.Parsed.{AreParsed}
use Rattle.pst_front.proofs.Said.{without_units, parsed_units}
use Rattle.pst_front.proofs.sources.stage_of_tokens.Goals as goal

pub parse_units-requires : goal.parse_units-requires
parse_units-requires c = (c.requires.0, c.args.names, c.requires.1)

pub stage_of_units-requires : goal.stage_of_units-requires
stage_of_units-requires c = λ m number is.
    c.models_of_texts_are_sound.ensures c.requires.0 c.args.names c.args.tokens.now (map view_unit c.as_slice.result.now) c.args.root.now.component.now c.args.root.now.action.now m number c.requires.1.are
    (subst (λ (us : List UnitNode). AreParsed c.args.tokens.now (map view_unit us)) (sym c.as_slice.ensures.value) c.in-Ok.ensures.parsed) is

pub returns-in-Ok : goal.returns-in-Ok
returns-in-Ok c =
    parsed_units (map string_bytes c.args.arguments.now) c.args.root.now.component.now c.args.root.now.action.now c.args.names c.args.tokens.now
    c.in-Ok.units.items c.as_slice.result.now c.stage_of_units.result c.as_slice.ensures.value c.in-Ok.ensures.parsed c.stage_of_units.ensures

pub returns-in-Err : goal.returns-in-Err
returns-in-Err c =
    without_units (map string_bytes c.args.arguments.now) c.args.root.now.component.now c.args.root.now.action.now c.args.names c.args.tokens.now c.in-Err.end c.stage_without_units.result c.in-Err.ensures.end c.stage_without_units.ensures
