use Rattle.pst_ast.specs.DeclarationTree.{ComponentPartAction, ComponentPartObject, ComponentPartEnum, ComponentPartFunction, ComponentPartPool, ComponentPartPoolBind, ComponentPartMembers}
use Rattle.pst_ast.specs.DeclarationView.{view_members, view_action, view_object, view_enum, view_function, view_pool, view_pool_bind}
use Rattle.pst_parse_decl.specs.Families.{component_part_family, action_family, object_family}
use Rattle.pst_parse_member.specs.Families.{members_family, enum_family, function_family, pool_bind_family, pool_family}
use Rattle.pst_parse_decl.specs.Inner.{activity_parser, body_parser}
use Rattle.pst_parse_decl.proofs.ComponentChoices.{action_here, bind_here, enum_here, function_here, members_here, object_here, pool_here}
use Rattle.pst_parse_statement.proofs.Kept.{boxed_fault}
use Rattle.pst_parse_decl.proofs.Made.{made_fails, made_given}
use Rattle.pst_parse_decl.proofs.components.component_part.Goals as goal
use Rattle.pst_parse_member.proofs.Kept.{part_read}
use Rattle.std.proofs.Common.{arith, sym, ◌∙◌}
use Rattle.std.proofs.lemmas.Result.{err_from_is_err_and}

pub returns-in_err-action : goal.returns-in_err-action
returns-in_err-action c =
    let p = err_from_is_err_and c.from_residual.result c.from_residual.ensures.1 in
    let fault = boxed_fault view_action (action_family activity_parser body_parser 1) c.args.tokens.now c.args.at c.args.at 1 _ _ c.in_err-action.ensures.err c.action.ensures in
    rw (p.1, p.2) (made_fails (component_part_family activity_parser body_parser 1) (action_family activity_parser body_parser 1) ComponentPartAction c.args.tokens.now c.args.at (action_here c.args.tokens.now c.args.at 1 (sym c.begins_action.ensures ∙ c.if-begins_action.true)) c.in_err-action.field-0.0 fault)

pub returns-then-begins_action : goal.returns-then-begins_action
returns-then-begins_action c =
    let read = part_read view_action (action_family activity_parser body_parser 1) c.args.tokens.now c.args.at c.args.at 1 _ _ c.in_ok-action.ensures.ok c.action.ensures in
    record {
      settles = made_given (component_part_family activity_parser body_parser 1) (action_family activity_parser body_parser 1) ComponentPartAction c.args.tokens.now c.args.at (action_here c.args.tokens.now c.args.at 1 (sym c.begins_action.ensures ∙ c.if-begins_action.true)) (view_action c.in_ok-action.action.value) c.in_ok-action.after (omega (arith, read.after)) read.settles;
      after = omega (arith, read.after);
      inside = read.inside;
    }

pub returns-in_err-object : goal.returns-in_err-object
returns-in_err-object c =
    let p = err_from_is_err_and c.from_residual-in_err-object.result c.from_residual-in_err-object.ensures.1 in
    let fault = boxed_fault view_object (object_family 1) c.args.tokens.now c.args.at c.args.at 1 _ _ c.in_err-object.ensures.err c.object.ensures in
    rw (p.1, p.2) (made_fails (component_part_family activity_parser body_parser 1) (object_family 1) ComponentPartObject c.args.tokens.now c.args.at (object_here c.args.tokens.now c.args.at 1 (sym c.begins_action.ensures ∙ c.if-begins_action.false) (sym c.begins_object.ensures ∙ c.if-begins_object.true)) c.in_err-object.field-0.0 fault)

pub returns-then-begins_object : goal.returns-then-begins_object
returns-then-begins_object c =
    let read = part_read view_object (object_family 1) c.args.tokens.now c.args.at c.args.at 1 _ _ c.in_ok-object.ensures.ok c.object.ensures in
    record {
      settles = made_given (component_part_family activity_parser body_parser 1) (object_family 1) ComponentPartObject c.args.tokens.now c.args.at (object_here c.args.tokens.now c.args.at 1 (sym c.begins_action.ensures ∙ c.if-begins_action.false) (sym c.begins_object.ensures ∙ c.if-begins_object.true)) (view_object c.in_ok-object.object.value) c.in_ok-object.after (omega (arith, read.after)) read.settles;
      after = omega (arith, read.after);
      inside = read.inside;
    }

pub returns-in_err-enum_ : goal.returns-in_err-enum_
returns-in_err-enum_ c =
    let p = err_from_is_err_and c.from_residual-in_err-enum_.result c.from_residual-in_err-enum_.ensures.1 in
    let fault = boxed_fault view_enum (enum_family 1) c.args.tokens.now c.args.at c.args.at 1 _ _ c.in_err-enum_.ensures.err c.enum_.ensures in
    rw (p.1, p.2) (made_fails (component_part_family activity_parser body_parser 1) (enum_family 1) ComponentPartEnum c.args.tokens.now c.args.at (enum_here c.args.tokens.now c.args.at 1 (sym c.begins_action.ensures ∙ c.if-begins_action.false) (sym c.begins_object.ensures ∙ c.if-begins_object.false) (sym c.is.ensures ∙ c.if-is.true)) c.in_err-enum_.field-0.0 fault)

pub returns-then-is : goal.returns-then-is
returns-then-is c =
    let read = part_read view_enum (enum_family 1) c.args.tokens.now c.args.at c.args.at 1 _ _ c.in_ok-enum_.ensures.ok c.enum_.ensures in
    record {
      settles = made_given (component_part_family activity_parser body_parser 1) (enum_family 1) ComponentPartEnum c.args.tokens.now c.args.at (enum_here c.args.tokens.now c.args.at 1 (sym c.begins_action.ensures ∙ c.if-begins_action.false) (sym c.begins_object.ensures ∙ c.if-begins_object.false) (sym c.is.ensures ∙ c.if-is.true)) (view_enum c.in_ok-enum_.enum_.value) c.in_ok-enum_.after (omega (arith, read.after)) read.settles;
      after = omega (arith, read.after);
      inside = read.inside;
    }

pub returns-in_err-function : goal.returns-in_err-function
returns-in_err-function c =
    let p = err_from_is_err_and c.from_residual-in_err-function.result c.from_residual-in_err-function.ensures.1 in
    let fault = boxed_fault view_function (function_family 1) c.args.tokens.now c.args.at c.args.at 1 _ _ c.in_err-function.ensures.err c.function.ensures in
    rw (p.1, p.2) (made_fails (component_part_family activity_parser body_parser 1) (function_family 1) ComponentPartFunction c.args.tokens.now c.args.at (function_here c.args.tokens.now c.args.at 1 (sym c.begins_action.ensures ∙ c.if-begins_action.false) (sym c.begins_object.ensures ∙ c.if-begins_object.false) (sym c.is.ensures ∙ c.if-is.false) (sym c.is-2.ensures ∙ c.if-is-2.true)) c.in_err-function.field-0.0 fault)

pub returns-then-is-2 : goal.returns-then-is-2
returns-then-is-2 c =
    let read = part_read view_function (function_family 1) c.args.tokens.now c.args.at c.args.at 1 _ _ c.in_ok-function.ensures.ok c.function.ensures in
    record {
      settles = made_given (component_part_family activity_parser body_parser 1) (function_family 1) ComponentPartFunction c.args.tokens.now c.args.at (function_here c.args.tokens.now c.args.at 1 (sym c.begins_action.ensures ∙ c.if-begins_action.false) (sym c.begins_object.ensures ∙ c.if-begins_object.false) (sym c.is.ensures ∙ c.if-is.false) (sym c.is-2.ensures ∙ c.if-is-2.true)) (view_function c.in_ok-function.function.value) c.in_ok-function.after (omega (arith, read.after)) read.settles;
      after = omega (arith, read.after);
      inside = read.inside;
    }

pub returns-in_err-pool : goal.returns-in_err-pool
returns-in_err-pool c =
    let p = err_from_is_err_and c.from_residual-in_err-pool.result c.from_residual-in_err-pool.ensures.1 in
    let fault = boxed_fault view_pool (pool_family 1) c.args.tokens.now c.args.at c.args.at 1 _ _ c.in_err-pool.ensures.err c.pool.ensures in
    rw (p.1, p.2) (made_fails (component_part_family activity_parser body_parser 1) (pool_family 1) ComponentPartPool c.args.tokens.now c.args.at (pool_here c.args.tokens.now c.args.at 1 (sym c.begins_action.ensures ∙ c.if-begins_action.false) (sym c.begins_object.ensures ∙ c.if-begins_object.false) (sym c.is.ensures ∙ c.if-is.false) (sym c.is-2.ensures ∙ c.if-is-2.false) (sym c.is-3.ensures ∙ c.if-is-3.true)) c.in_err-pool.field-0.0 fault)

pub returns-then-is-3 : goal.returns-then-is-3
returns-then-is-3 c =
    let read = part_read view_pool (pool_family 1) c.args.tokens.now c.args.at c.args.at 1 _ _ c.in_ok-pool.ensures.ok c.pool.ensures in
    record {
      settles = made_given (component_part_family activity_parser body_parser 1) (pool_family 1) ComponentPartPool c.args.tokens.now c.args.at (pool_here c.args.tokens.now c.args.at 1 (sym c.begins_action.ensures ∙ c.if-begins_action.false) (sym c.begins_object.ensures ∙ c.if-begins_object.false) (sym c.is.ensures ∙ c.if-is.false) (sym c.is-2.ensures ∙ c.if-is-2.false) (sym c.is-3.ensures ∙ c.if-is-3.true)) (view_pool c.in_ok-pool.pool.value) c.in_ok-pool.after (omega (arith, read.after)) read.settles;
      after = omega (arith, read.after);
      inside = read.inside;
    }

pub returns-in_err-bind : goal.returns-in_err-bind
returns-in_err-bind c =
    let p = err_from_is_err_and c.from_residual-in_err-bind.result c.from_residual-in_err-bind.ensures.1 in
    let fault = boxed_fault view_pool_bind (pool_bind_family 1) c.args.tokens.now c.args.at c.args.at 1 _ _ c.in_err-bind.ensures.err c.pool_bind.ensures in
    rw (p.1, p.2) (made_fails (component_part_family activity_parser body_parser 1) (pool_bind_family 1) ComponentPartPoolBind c.args.tokens.now c.args.at (bind_here c.args.tokens.now c.args.at 1 (sym c.begins_action.ensures ∙ c.if-begins_action.false) (sym c.begins_object.ensures ∙ c.if-begins_object.false) (sym c.is.ensures ∙ c.if-is.false) (sym c.is-2.ensures ∙ c.if-is-2.false) (sym c.is-3.ensures ∙ c.if-is-3.false) (sym c.is-4.ensures ∙ c.if-is-4.true)) c.in_err-bind.field-0.0 fault)

pub returns-then-is-4 : goal.returns-then-is-4
returns-then-is-4 c =
    let read = part_read view_pool_bind (pool_bind_family 1) c.args.tokens.now c.args.at c.args.at 1 _ _ c.in_ok-bind.ensures.ok c.pool_bind.ensures in
    record {
      settles = made_given (component_part_family activity_parser body_parser 1) (pool_bind_family 1) ComponentPartPoolBind c.args.tokens.now c.args.at (bind_here c.args.tokens.now c.args.at 1 (sym c.begins_action.ensures ∙ c.if-begins_action.false) (sym c.begins_object.ensures ∙ c.if-begins_object.false) (sym c.is.ensures ∙ c.if-is.false) (sym c.is-2.ensures ∙ c.if-is-2.false) (sym c.is-3.ensures ∙ c.if-is-3.false) (sym c.is-4.ensures ∙ c.if-is-4.true)) (view_pool_bind c.in_ok-bind.bind.value) c.in_ok-bind.after (omega (arith, read.after)) read.settles;
      after = omega (arith, read.after);
      inside = read.inside;
    }

pub returns-in_err-members : goal.returns-in_err-members
returns-in_err-members c =
    let p = err_from_is_err_and c.from_residual-in_err-members.result c.from_residual-in_err-members.ensures.1 in
    let fault = boxed_fault view_members (members_family 1) c.args.tokens.now c.args.at c.args.at 1 _ _ c.in_err-members.ensures.err c.members.ensures in
    rw (p.1, p.2) (made_fails (component_part_family activity_parser body_parser 1) (members_family 1) ComponentPartMembers c.args.tokens.now c.args.at (members_here c.args.tokens.now c.args.at 1 (sym c.begins_action.ensures ∙ c.if-begins_action.false) (sym c.begins_object.ensures ∙ c.if-begins_object.false) (sym c.is.ensures ∙ c.if-is.false) (sym c.is-2.ensures ∙ c.if-is-2.false) (sym c.is-3.ensures ∙ c.if-is-3.false) (sym c.is-4.ensures ∙ c.if-is-4.false) (sym c.is-5.ensures ∙ c.if-is-5.false)) c.in_err-members.field-0.0 fault)

pub returns : goal.returns
returns c =
    let read = part_read view_members (members_family 1) c.args.tokens.now c.args.at c.args.at 1 _ _ c.in_ok-members.ensures.ok c.members.ensures in
    record {
      settles = made_given (component_part_family activity_parser body_parser 1) (members_family 1) ComponentPartMembers c.args.tokens.now c.args.at (members_here c.args.tokens.now c.args.at 1 (sym c.begins_action.ensures ∙ c.if-begins_action.false) (sym c.begins_object.ensures ∙ c.if-begins_object.false) (sym c.is.ensures ∙ c.if-is.false) (sym c.is-2.ensures ∙ c.if-is-2.false) (sym c.is-3.ensures ∙ c.if-is-3.false) (sym c.is-4.ensures ∙ c.if-is-4.false) (sym c.is-5.ensures ∙ c.if-is-5.false)) (view_members c.in_ok-members.members.value) c.in_ok-members.after (omega (arith, read.after)) read.settles;
      after = omega (arith, read.after);
      inside = read.inside;
    }
