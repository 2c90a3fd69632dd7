use Rattle.pst_ast.specs.DeclarationView.{view_parameter, view_next_parameter}
use Rattle.pst_parse_member.proofs.Kept.{part_fault, part_read}
use Rattle.pst_parse_member.proofs.enums.parameters.Goals as goal
use Rattle.pst_parse_member.specs.Families.{next_parameter_family, parameter_family, parameters_family}
use Rattle.pst_parse_part.specs.Families.{view_list}
use Rattle.pst_parse_expr.specs.Constraints.{is_at}
use Rattle.pst_reading.proofs.Reaching.{begin, step, ends, fails}
use Rattle.pst_reading.specs.Lists.{listed}
use Rattle.pst_token.specs.declared.kind.Kind.TheVariants as kind
use Rattle.std.proofs.Common.{arith, ◌-◌, map}
use Rattle.std.proofs.lemmas.Result.{err_from_is_err_and}

pub returns-in_err-head : goal.returns-in_err-head
returns-in_err-head c =
    let p = err_from_is_err_and c.from_residual.result c.from_residual.ensures.1 in
    rw (p.1, p.2) (fails (parameters_family c.args.depth) c.args.tokens.now c.args.at c.args.at (parameter_family c.args.depth) _ c.args.at c.args.at c.in_err-head.field-0.0 (omega arith) c.in_err-head.ensures (begin (parameters_family c.args.depth) c.args.tokens.now c.args.at c.args.at))

pub returns-in_err-first : goal.returns-in_err-first
returns-in_err-first c =
    let p = err_from_is_err_and c.from_residual-in_err-first.result c.from_residual-in_err-first.ensures.1 in
    let r1 = step (parameters_family c.args.depth) c.args.tokens.now c.args.at c.args.at (parameter_family c.args.depth) _ c.args.at c.args.at c.in_ok-head.after_first (view_parameter c.in_ok-head.head) (omega arith) (omega (arith, c.in_ok-head.ensures.after)) c.in_ok-head.ensures.settles (begin (parameters_family c.args.depth) c.args.tokens.now c.args.at c.args.at) in
    rw (p.1, p.2) (fails (parameters_family c.args.depth) c.args.tokens.now c.args.at c.args.at (listed (is_at kind.Comma) (next_parameter_family c.args.depth)) _ (c.in_ok-head.after_first - 1) c.in_ok-head.after_first c.in_err-first.field-0.0 (omega (arith, c.in_ok-head.ensures.after)) (part_fault (view_list view_next_parameter) (listed (is_at kind.Comma) (next_parameter_family c.args.depth)) c.args.tokens.now (c.in_ok-head.after_first - 1) c.in_ok-head.after_first 0 _ _ c.in_err-first.ensures.err c.next_parameters-others.ensures) r1)

pub returns : goal.returns
returns c =
    let read = part_read (view_list view_next_parameter) (listed (is_at kind.Comma) (next_parameter_family c.args.depth)) c.args.tokens.now (c.in_ok-head.after_first - 1) c.in_ok-head.after_first 0 _ _ c.in_ok-first.ensures.ok.1 c.next_parameters-others.ensures in
    let r1 = step (parameters_family c.args.depth) c.args.tokens.now c.args.at c.args.at (parameter_family c.args.depth) _ c.args.at c.args.at c.in_ok-head.after_first (view_parameter c.in_ok-head.head) (omega arith) (omega (arith, c.in_ok-head.ensures.after)) c.in_ok-head.ensures.settles (begin (parameters_family c.args.depth) c.args.tokens.now c.args.at c.args.at) in
    let r2 = step (parameters_family c.args.depth) c.args.tokens.now c.args.at c.args.at (listed (is_at kind.Comma) (next_parameter_family c.args.depth)) _ (c.in_ok-head.after_first - 1) c.in_ok-head.after_first c.in_ok-first.after_rest (map view_next_parameter c.in_ok-first.rest.items) (omega (arith, c.in_ok-head.ensures.after)) (omega (arith, read.after)) read.settles r1 in
    record { settles = rw c.in_ok-first.ensures.ok.0 (ends (parameters_family c.args.depth) c.args.tokens.now c.args.at c.args.at _ c.in_ok-first.after_rest r2); after = omega (arith, c.in_ok-head.ensures.after, read.after); inside = read.inside }
