use Rattle.pst_ast.specs.DeclarationTree.{MakeUnit}
use Rattle.pst_ast.specs.DeclarationView.{view_item}
use Rattle.pst_ast.specs.Marks.{mark}
use Rattle.pst_parser.proofs.UnitAnswers.{unit_parts_fail, unit_end_fails, unit_given, unit_whole, unit_faults}
use Rattle.pst_parser.proofs.units.parse_unit.Goals as goal
use Rattle.pst_token.specs.declared.kind.Kind.TheVariants as kind
use Rattle.std.proofs.Common.{map}
use Rattle.std.proofs.lemmas.Result.{err_from_is_err_and}

pub returns-in_err-items : goal.returns-in_err-items
returns-in_err-items c =
    let p = err_from_is_err_and c.from_residual.result c.from_residual.ensures.1 in
    rw (p.1, p.2) (unit_faults c.args.tokens.now c.requires.ended c.in_err-items.field-0.0 (unit_parts_fail c.args.tokens.now c.in_err-items.field-0.0 c.in_err-items.ensures))

pub returns-in_err-place : goal.returns-in_err-place
returns-in_err-place c =
    let p = err_from_is_err_and c.from_residual-in_err-place.result c.from_residual-in_err-place.ensures.1 in
    let l = c.in_ok-items.ensures in
    rw (p.1, p.2) (unit_faults c.args.tokens.now c.requires.ended c.in_err-place.field-0.0 (unit_end_fails c.args.tokens.now (map view_item c.in_ok-items.items.items) c.in_ok-items.after l.inside l.settles c.in_err-place.field-0.0 c.in_err-place.ensures.reads))

pub returns : goal.returns
returns c =
    let l = c.in_ok-items.ensures in
    unit_whole c.args.tokens.now c.requires.ended (MakeUnit (map view_item c.in_ok-items.items.items) (mark kind.End c.in_ok-place.place)) _ (unit_given c.args.tokens.now (map view_item c.in_ok-items.items.items) c.in_ok-items.after l.inside l.settles c.in_ok-place.place c.in_ok-place.ensures.reads.0)
