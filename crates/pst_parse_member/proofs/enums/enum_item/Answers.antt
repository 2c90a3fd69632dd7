use Rattle.pst_ast.specs.DeclarationView.{view_enum_value}
use Rattle.pst_ast.specs.Limits.{counted}
use Rattle.pst_parse_member.proofs.enums.enum_item.Goals as goal
use Rattle.pst_parse_part.specs.Choices.{optional}
use Rattle.pst_parse_member.specs.Families.{enum_item_family, enum_value_family}
use Rattle.pst_parse_expr.specs.Constraints.{is_at}
use Rattle.pst_reading.proofs.Reaching.{begin, step, name_step, ends, fails}
use Rattle.pst_token.specs.declared.kind.Kind.TheVariants as kind
use Rattle.std.proofs.Common.{arith, ◌+◌}
use Rattle.std.proofs.lemmas.Result.{err_from_is_err_and}
use Rattle.std.specs.Option.{option_map}

pub returns-in_err-value : goal.returns-in_err-value
returns-in_err-value c =
    let p = err_from_is_err_and c.from_residual-in_err-value.result c.from_residual-in_err-value.ensures.1 in
    let r1 = name_step (enum_item_family c.args.depth) c.args.tokens.now c.args.at c.args.at (counted c.args.depth 0) _ c.args.at (c.args.at + 1) c.in_ok-name.name (omega arith) c.in_ok-name.ensures.reads.0 (begin (enum_item_family c.args.depth) c.args.tokens.now c.args.at c.args.at) in
    rw (p.1, p.2) (fails (enum_item_family c.args.depth) c.args.tokens.now c.args.at c.args.at (optional (is_at kind.Equal) (enum_value_family c.args.depth)) _ (c.args.at + 1) (c.args.at + 1) c.in_err-value.field-0.0 (omega arith) c.in_err-value.ensures r1)

pub returns : goal.returns
returns c =
    let r1 = name_step (enum_item_family c.args.depth) c.args.tokens.now c.args.at c.args.at (counted c.args.depth 0) _ c.args.at (c.args.at + 1) c.in_ok-name.name (omega arith) c.in_ok-name.ensures.reads.0 (begin (enum_item_family c.args.depth) c.args.tokens.now c.args.at c.args.at) in
    let r2 = step (enum_item_family c.args.depth) c.args.tokens.now c.args.at c.args.at (optional (is_at kind.Equal) (enum_value_family c.args.depth)) _ (c.args.at + 1) (c.args.at + 1) c.in_ok-value.after_value (option_map view_enum_value c.in_ok-value.value) (omega arith) (omega (arith, c.in_ok-value.ensures.after)) c.in_ok-value.ensures.settles r1 in
    record { settles = ends (enum_item_family c.args.depth) c.args.tokens.now c.args.at c.args.at _ c.in_ok-value.after_value r2; after = omega (arith, c.in_ok-value.ensures.after); inside = c.in_ok-value.ensures.inside }
