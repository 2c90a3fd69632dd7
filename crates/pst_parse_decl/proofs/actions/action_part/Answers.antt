use Rattle.pst_ast.specs.ActivityView.{view_activity}
use Rattle.pst_ast.specs.BodyView.{view_body}
use Rattle.pst_ast.specs.ConstraintView.{view_constraint_declaration}
use Rattle.pst_ast.specs.DeclarationTree.{ActionPartField, ActionPartReference, ActionPartClaim, ActionPartConstraint, ActionPartActivity, ActionPartBody, ActionPartMembers}
use Rattle.pst_ast.specs.DeclarationView.{view_field, view_reference, view_claim, view_members}
use Rattle.pst_parse_decl.specs.Families.{constraint_declaration_family, action_part_family}
use Rattle.pst_parse_member.specs.Families.{members_family, claim_family, field_family, reference_family}
use Rattle.pst_parse_decl.specs.Inner.{activity_parser, body_parser, activity_parser_family, body_parser_family}
use Rattle.pst_parse_decl.proofs.ActionChoices.{activity_here, body_here, claim_here, constraint_here, field_here, members_here, reference_here}
use Rattle.pst_parse_statement.proofs.Kept.{boxed_fault}
use Rattle.pst_parse_decl.proofs.Made.{made_fails, made_given}
use Rattle.pst_parse_decl.proofs.actions.action_part.Goals as goal
use Rattle.pst_parse_member.proofs.Kept.{part_read}
use Rattle.std.proofs.Common.{arith, sym, ◌∙◌}
use Rattle.std.proofs.lemmas.Result.{err_from_is_err_and}

pub returns-in_err-field : goal.returns-in_err-field
returns-in_err-field c =
    let p = err_from_is_err_and c.from_residual.result c.from_residual.ensures.1 in
    let fault = boxed_fault view_field (field_family 2) c.args.tokens.now c.args.at c.args.at 1 _ _ c.in_err-field.ensures.err c.field.ensures in
    rw (p.1, p.2) (made_fails (action_part_family activity_parser body_parser 2) (field_family 2) ActionPartField c.args.tokens.now c.args.at (field_here c.args.tokens.now c.args.at 2 (sym c.is.ensures ∙ c.if-is.true)) c.in_err-field.field-0.0 fault)

pub returns-then-is : goal.returns-then-is
returns-then-is c =
    let read = part_read view_field (field_family 2) c.args.tokens.now c.args.at c.args.at 1 _ _ c.in_ok-field.ensures.ok c.field.ensures in
    record {
      settles = made_given (action_part_family activity_parser body_parser 2) (field_family 2) ActionPartField c.args.tokens.now c.args.at (field_here c.args.tokens.now c.args.at 2 (sym c.is.ensures ∙ c.if-is.true)) (view_field c.in_ok-field.field.value) c.in_ok-field.after (omega (arith, read.after)) read.settles;
      after = omega (arith, read.after);
      inside = read.inside;
    }

pub returns-in_err-reference : goal.returns-in_err-reference
returns-in_err-reference c =
    let p = err_from_is_err_and c.from_residual-in_err-reference.result c.from_residual-in_err-reference.ensures.1 in
    let fault = boxed_fault view_reference (reference_family 2) c.args.tokens.now c.args.at c.args.at 1 _ _ c.in_err-reference.ensures.err c.reference.ensures in
    rw (p.1, p.2) (made_fails (action_part_family activity_parser body_parser 2) (reference_family 2) ActionPartReference c.args.tokens.now c.args.at (reference_here c.args.tokens.now c.args.at 2 (sym c.is.ensures ∙ c.if-is.false) (sym c.begins_reference.ensures ∙ c.if-begins_reference.true)) c.in_err-reference.field-0.0 fault)

pub returns-then-begins_reference : goal.returns-then-begins_reference
returns-then-begins_reference c =
    let read = part_read view_reference (reference_family 2) c.args.tokens.now c.args.at c.args.at 1 _ _ c.in_ok-reference.ensures.ok c.reference.ensures in
    record {
      settles = made_given (action_part_family activity_parser body_parser 2) (reference_family 2) ActionPartReference c.args.tokens.now c.args.at (reference_here c.args.tokens.now c.args.at 2 (sym c.is.ensures ∙ c.if-is.false) (sym c.begins_reference.ensures ∙ c.if-begins_reference.true)) (view_reference c.in_ok-reference.reference.value) c.in_ok-reference.after (omega (arith, read.after)) read.settles;
      after = omega (arith, read.after);
      inside = read.inside;
    }

pub returns-in_err-claim : goal.returns-in_err-claim
returns-in_err-claim c =
    let p = err_from_is_err_and c.from_residual-in_err-claim.result c.from_residual-in_err-claim.ensures.1 in
    let fault = boxed_fault view_claim (claim_family 2) c.args.tokens.now c.args.at c.args.at 1 _ _ c.in_err-claim.ensures.err c.claim.ensures in
    rw (p.1, p.2) (made_fails (action_part_family activity_parser body_parser 2) (claim_family 2) ActionPartClaim c.args.tokens.now c.args.at (claim_here c.args.tokens.now c.args.at 2 (sym c.is.ensures ∙ c.if-is.false) (sym c.begins_reference.ensures ∙ c.if-begins_reference.false) (sym c.begins_claim.ensures ∙ c.if-begins_claim.true)) c.in_err-claim.field-0.0 fault)

pub returns-then-begins_claim : goal.returns-then-begins_claim
returns-then-begins_claim c =
    let read = part_read view_claim (claim_family 2) c.args.tokens.now c.args.at c.args.at 1 _ _ c.in_ok-claim.ensures.ok c.claim.ensures in
    record {
      settles = made_given (action_part_family activity_parser body_parser 2) (claim_family 2) ActionPartClaim c.args.tokens.now c.args.at (claim_here c.args.tokens.now c.args.at 2 (sym c.is.ensures ∙ c.if-is.false) (sym c.begins_reference.ensures ∙ c.if-begins_reference.false) (sym c.begins_claim.ensures ∙ c.if-begins_claim.true)) (view_claim c.in_ok-claim.claim.value) c.in_ok-claim.after (omega (arith, read.after)) read.settles;
      after = omega (arith, read.after);
      inside = read.inside;
    }

pub returns-in_err-declaration : goal.returns-in_err-declaration
returns-in_err-declaration c =
    let p = err_from_is_err_and c.from_residual-in_err-declaration.result c.from_residual-in_err-declaration.ensures.1 in
    let fault = boxed_fault view_constraint_declaration (constraint_declaration_family 2) c.args.tokens.now c.args.at c.args.at 1 _ _ c.in_err-declaration.ensures.err c.constraint_declaration.ensures in
    rw (p.1, p.2) (made_fails (action_part_family activity_parser body_parser 2) (constraint_declaration_family 2) ActionPartConstraint c.args.tokens.now c.args.at (constraint_here c.args.tokens.now c.args.at 2 (sym c.is.ensures ∙ c.if-is.false) (sym c.begins_reference.ensures ∙ c.if-begins_reference.false) (sym c.begins_claim.ensures ∙ c.if-begins_claim.false) (sym c.is-2.ensures ∙ c.if-is-2.true)) c.in_err-declaration.field-0.0 fault)

pub returns-then-is-2 : goal.returns-then-is-2
returns-then-is-2 c =
    let read = part_read view_constraint_declaration (constraint_declaration_family 2) c.args.tokens.now c.args.at c.args.at 1 _ _ c.in_ok-declaration.ensures.ok c.constraint_declaration.ensures in
    record {
      settles = made_given (action_part_family activity_parser body_parser 2) (constraint_declaration_family 2) ActionPartConstraint c.args.tokens.now c.args.at (constraint_here c.args.tokens.now c.args.at 2 (sym c.is.ensures ∙ c.if-is.false) (sym c.begins_reference.ensures ∙ c.if-begins_reference.false) (sym c.begins_claim.ensures ∙ c.if-begins_claim.false) (sym c.is-2.ensures ∙ c.if-is-2.true)) (view_constraint_declaration c.in_ok-declaration.declaration.value) c.in_ok-declaration.after (omega (arith, read.after)) read.settles;
      after = omega (arith, read.after);
      inside = read.inside;
    }

pub returns-in_err-activity : goal.returns-in_err-activity
returns-in_err-activity c =
    let p = err_from_is_err_and c.from_residual-in_err-activity.result c.from_residual-in_err-activity.ensures.1 in
    let fault = boxed_fault view_activity (activity_parser_family 2) c.args.tokens.now c.args.at c.args.at 1 _ _ c.in_err-activity.ensures.err c.activity.ensures in
    rw (p.1, p.2) (made_fails (action_part_family activity_parser body_parser 2) (activity_parser_family 2) ActionPartActivity c.args.tokens.now c.args.at (activity_here c.args.tokens.now c.args.at 2 (sym c.is.ensures ∙ c.if-is.false) (sym c.begins_reference.ensures ∙ c.if-begins_reference.false) (sym c.begins_claim.ensures ∙ c.if-begins_claim.false) (sym c.is-2.ensures ∙ c.if-is-2.false) (sym c.is-3.ensures ∙ c.if-is-3.true)) c.in_err-activity.field-0.0 fault)

pub returns-then-is-3 : goal.returns-then-is-3
returns-then-is-3 c =
    let read = part_read view_activity (activity_parser_family 2) c.args.tokens.now c.args.at c.args.at 1 _ _ c.in_ok-activity.ensures.ok c.activity.ensures in
    record {
      settles = made_given (action_part_family activity_parser body_parser 2) (activity_parser_family 2) ActionPartActivity c.args.tokens.now c.args.at (activity_here c.args.tokens.now c.args.at 2 (sym c.is.ensures ∙ c.if-is.false) (sym c.begins_reference.ensures ∙ c.if-begins_reference.false) (sym c.begins_claim.ensures ∙ c.if-begins_claim.false) (sym c.is-2.ensures ∙ c.if-is-2.false) (sym c.is-3.ensures ∙ c.if-is-3.true)) (view_activity c.in_ok-activity.activity.value) c.in_ok-activity.after (omega (arith, read.after)) read.settles;
      after = omega (arith, read.after);
      inside = read.inside;
    }

pub returns-in_err-body : goal.returns-in_err-body
returns-in_err-body c =
    let p = err_from_is_err_and c.from_residual-in_err-body.result c.from_residual-in_err-body.ensures.1 in
    let fault = boxed_fault view_body (body_parser_family 2) c.args.tokens.now c.args.at c.args.at 1 _ _ c.in_err-body.ensures.err c.body.ensures in
    rw (p.1, p.2) (made_fails (action_part_family activity_parser body_parser 2) (body_parser_family 2) ActionPartBody c.args.tokens.now c.args.at (body_here c.args.tokens.now c.args.at 2 (sym c.is.ensures ∙ c.if-is.false) (sym c.begins_reference.ensures ∙ c.if-begins_reference.false) (sym c.begins_claim.ensures ∙ c.if-begins_claim.false) (sym c.is-2.ensures ∙ c.if-is-2.false) (sym c.is-3.ensures ∙ c.if-is-3.false) (sym c.is-4.ensures ∙ c.if-is-4.true)) c.in_err-body.field-0.0 fault)

pub returns-then-is-4 : goal.returns-then-is-4
returns-then-is-4 c =
    let read = part_read view_body (body_parser_family 2) c.args.tokens.now c.args.at c.args.at 1 _ _ c.in_ok-body.ensures.ok c.body.ensures in
    record {
      settles = made_given (action_part_family activity_parser body_parser 2) (body_parser_family 2) ActionPartBody c.args.tokens.now c.args.at (body_here c.args.tokens.now c.args.at 2 (sym c.is.ensures ∙ c.if-is.false) (sym c.begins_reference.ensures ∙ c.if-begins_reference.false) (sym c.begins_claim.ensures ∙ c.if-begins_claim.false) (sym c.is-2.ensures ∙ c.if-is-2.false) (sym c.is-3.ensures ∙ c.if-is-3.false) (sym c.is-4.ensures ∙ c.if-is-4.true)) (view_body c.in_ok-body.body.value) c.in_ok-body.after (omega (arith, read.after)) read.settles;
      after = omega (arith, read.after);
      inside = read.inside;
    }

pub returns-in_err-members : goal.returns-in_err-members
returns-in_err-members c =
    let p = err_from_is_err_and c.from_residual-in_err-members.result c.from_residual-in_err-members.ensures.1 in
    let fault = boxed_fault view_members (members_family 2) c.args.tokens.now c.args.at c.args.at 1 _ _ c.in_err-members.ensures.err c.members.ensures in
    rw (p.1, p.2) (made_fails (action_part_family activity_parser body_parser 2) (members_family 2) ActionPartMembers c.args.tokens.now c.args.at (members_here c.args.tokens.now c.args.at 2 (sym c.is.ensures ∙ c.if-is.false) (sym c.begins_reference.ensures ∙ c.if-begins_reference.false) (sym c.begins_claim.ensures ∙ c.if-begins_claim.false) (sym c.is-2.ensures ∙ c.if-is-2.false) (sym c.is-3.ensures ∙ c.if-is-3.false) (sym c.is-4.ensures ∙ c.if-is-4.false) (sym c.is-5.ensures ∙ c.if-is-5.false)) c.in_err-members.field-0.0 fault)

pub returns : goal.returns
returns c =
    let read = part_read view_members (members_family 2) c.args.tokens.now c.args.at c.args.at 1 _ _ c.in_ok-members.ensures.ok c.members.ensures in
    record {
      settles = made_given (action_part_family activity_parser body_parser 2) (members_family 2) ActionPartMembers c.args.tokens.now c.args.at (members_here c.args.tokens.now c.args.at 2 (sym c.is.ensures ∙ c.if-is.false) (sym c.begins_reference.ensures ∙ c.if-begins_reference.false) (sym c.begins_claim.ensures ∙ c.if-begins_claim.false) (sym c.is-2.ensures ∙ c.if-is-2.false) (sym c.is-3.ensures ∙ c.if-is-3.false) (sym c.is-4.ensures ∙ c.if-is-4.false) (sym c.is-5.ensures ∙ c.if-is-5.false)) (view_members c.in_ok-members.members.value) c.in_ok-members.after (omega (arith, read.after)) read.settles;
      after = omega (arith, read.after);
      inside = read.inside;
    }
