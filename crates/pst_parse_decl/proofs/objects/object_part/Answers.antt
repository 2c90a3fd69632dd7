use Rattle.pst_ast.specs.ConstraintView.{view_constraint_declaration}
use Rattle.pst_ast.specs.DeclarationView.{view_field}
use Rattle.pst_parse_statement.proofs.Kept.{boxed_fault}
use Rattle.pst_parse_decl.proofs.objects.object_part.Goals as goal
use Rattle.pst_parse_decl.specs.Families.{constraint_declaration_family, object_part_family}
use Rattle.pst_parse_member.specs.Families.{field_family}
use Rattle.pst_parse_member.proofs.Kept.{part_read}
use Rattle.pst_reading.proofs.Reaching.{begin, step, choose, ends, fails}
use Rattle.pst_token.specs.declared.kind.Kind.TheVariants as kind
use Rattle.std.proofs.Common.{arith, rules, true, false}
use Rattle.std.proofs.lemmas.Result.{err_from_is_err_and}

pub returns-in_err-field : goal.returns-in_err-field
returns-in_err-field c =
    let p = err_from_is_err_and c.from_residual.result c.from_residual.ensures.1 in
    rw (p.1, p.2) (fails (object_part_family c.args.depth) c.args.tokens.now c.args.at c.args.at (field_family c.args.depth) _ c.args.at c.args.at c.in_err-field.field-0.0 (omega arith) (boxed_fault view_field (field_family c.args.depth) c.args.tokens.now c.args.at c.args.at 1 _ _ c.in_err-field.ensures.err c.field.ensures) (choose (object_part_family c.args.depth) c.args.tokens.now c.args.at c.args.at kind.Rand _ _ c.args.at true (search rules) (begin (object_part_family c.args.depth) c.args.tokens.now c.args.at c.args.at)))

pub returns-then-is : goal.returns-then-is
returns-then-is c =
    let read = part_read view_field (field_family c.args.depth) c.args.tokens.now c.args.at c.args.at 1 _ _ c.in_ok-field.ensures.ok c.field.ensures in
    record { settles = (ends (object_part_family c.args.depth) c.args.tokens.now c.args.at c.args.at _ c.in_ok-field.after (step (object_part_family c.args.depth) c.args.tokens.now c.args.at c.args.at (field_family c.args.depth) _ c.args.at c.args.at c.in_ok-field.after (view_field c.in_ok-field.field.value) (omega arith) (omega (arith, read.after)) read.settles (choose (object_part_family c.args.depth) c.args.tokens.now c.args.at c.args.at kind.Rand _ _ c.args.at true (search rules) (begin (object_part_family c.args.depth) c.args.tokens.now c.args.at c.args.at)))); after = omega (arith, read.after); inside = read.inside }

pub returns-in_err-declaration : goal.returns-in_err-declaration
returns-in_err-declaration c =
    let p = err_from_is_err_and c.from_residual-in_err-declaration.result c.from_residual-in_err-declaration.ensures.1 in
    rw (p.1, p.2) (fails (object_part_family c.args.depth) c.args.tokens.now c.args.at c.args.at (constraint_declaration_family c.args.depth) _ c.args.at c.args.at c.in_err-declaration.field-0.0 (omega arith) (boxed_fault view_constraint_declaration (constraint_declaration_family c.args.depth) c.args.tokens.now c.args.at c.args.at 1 _ _ c.in_err-declaration.ensures.err c.constraint_declaration.ensures) (choose (object_part_family c.args.depth) c.args.tokens.now c.args.at c.args.at kind.Constraint _ _ c.args.at true (search rules) (choose (object_part_family c.args.depth) c.args.tokens.now c.args.at c.args.at kind.Rand _ _ c.args.at false (search rules) (begin (object_part_family c.args.depth) c.args.tokens.now c.args.at c.args.at))))

pub returns-then-is-2 : goal.returns-then-is-2
returns-then-is-2 c =
    let read = part_read view_constraint_declaration (constraint_declaration_family c.args.depth) c.args.tokens.now c.args.at c.args.at 1 _ _ c.in_ok-declaration.ensures.ok c.constraint_declaration.ensures in
    record { settles = (ends (object_part_family c.args.depth) c.args.tokens.now c.args.at c.args.at _ c.in_ok-declaration.after (step (object_part_family c.args.depth) c.args.tokens.now c.args.at c.args.at (constraint_declaration_family c.args.depth) _ c.args.at c.args.at c.in_ok-declaration.after (view_constraint_declaration c.in_ok-declaration.declaration.value) (omega arith) (omega (arith, read.after)) read.settles (choose (object_part_family c.args.depth) c.args.tokens.now c.args.at c.args.at kind.Constraint _ _ c.args.at true (search rules) (choose (object_part_family c.args.depth) c.args.tokens.now c.args.at c.args.at kind.Rand _ _ c.args.at false (search rules) (begin (object_part_family c.args.depth) c.args.tokens.now c.args.at c.args.at))))); after = omega (arith, read.after); inside = read.inside }
