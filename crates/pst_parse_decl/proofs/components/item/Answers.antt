use Rattle.pst_ast.specs.DeclarationTree.{ItemComponent, ItemEnum, ItemFunction, ItemObject}
use Rattle.pst_ast.specs.DeclarationView.{view_object, view_enum, view_function, view_component}
use Rattle.pst_parse_decl.specs.Families.{component_family, item_family, object_family}
use Rattle.pst_parse_member.specs.Families.{enum_family, function_family}
use Rattle.pst_parse_decl.specs.Inner.{activity_parser, body_parser}
use Rattle.pst_parse_decl.proofs.ItemChoices.{component_here, enum_here, function_here, object_here}
use Rattle.pst_parse_statement.proofs.Kept.{boxed_fault}
use Rattle.pst_parse_decl.proofs.Made.{made_fails, made_given}
use Rattle.pst_parse_decl.proofs.components.item.Goals as goal
use Rattle.pst_parse_member.proofs.Kept.{part_read}
use Rattle.std.proofs.Common.{arith, sym, ◌∙◌}
use Rattle.std.proofs.lemmas.Result.{err_from_is_err_and}

pub returns-in_err-component : goal.returns-in_err-component
returns-in_err-component c =
    let p = err_from_is_err_and c.from_residual.result c.from_residual.ensures.1 in
    let fault = boxed_fault view_component (component_family activity_parser body_parser 0) c.args.tokens.now c.args.at c.args.at 1 _ _ c.in_err-component.ensures.err c.component.ensures in
    rw (p.1, p.2) (made_fails (item_family activity_parser body_parser 0) (component_family activity_parser body_parser 0) ItemComponent c.args.tokens.now c.args.at (component_here c.args.tokens.now c.args.at 0 (sym c.is.ensures ∙ c.if-is.true)) c.in_err-component.field-0.0 fault)

pub returns-then-is : goal.returns-then-is
returns-then-is c =
    let read = part_read view_component (component_family activity_parser body_parser 0) c.args.tokens.now c.args.at c.args.at 1 _ _ c.in_ok-component.ensures.ok c.component.ensures in
    record {
      settles = made_given (item_family activity_parser body_parser 0) (component_family activity_parser body_parser 0) ItemComponent c.args.tokens.now c.args.at (component_here c.args.tokens.now c.args.at 0 (sym c.is.ensures ∙ c.if-is.true)) (view_component c.in_ok-component.component.value) c.in_ok-component.after (omega (arith, read.after)) read.settles;
      after = omega (arith, read.after);
      inside = read.inside;
    }

pub returns-in_err-enum_ : goal.returns-in_err-enum_
returns-in_err-enum_ c =
    let p = err_from_is_err_and c.from_residual-in_err-enum_.result c.from_residual-in_err-enum_.ensures.1 in
    let fault = boxed_fault view_enum (enum_family 0) c.args.tokens.now c.args.at c.args.at 1 _ _ c.in_err-enum_.ensures.err c.enum_.ensures in
    rw (p.1, p.2) (made_fails (item_family activity_parser body_parser 0) (enum_family 0) ItemEnum c.args.tokens.now c.args.at (enum_here c.args.tokens.now c.args.at 0 (sym c.is.ensures ∙ c.if-is.false) (sym c.is-2.ensures ∙ c.if-is-2.true)) c.in_err-enum_.field-0.0 fault)

pub returns-then-is-2 : goal.returns-then-is-2
returns-then-is-2 c =
    let read = part_read view_enum (enum_family 0) c.args.tokens.now c.args.at c.args.at 1 _ _ c.in_ok-enum_.ensures.ok c.enum_.ensures in
    record {
      settles = made_given (item_family activity_parser body_parser 0) (enum_family 0) ItemEnum c.args.tokens.now c.args.at (enum_here c.args.tokens.now c.args.at 0 (sym c.is.ensures ∙ c.if-is.false) (sym c.is-2.ensures ∙ c.if-is-2.true)) (view_enum c.in_ok-enum_.enum_.value) c.in_ok-enum_.after (omega (arith, read.after)) read.settles;
      after = omega (arith, read.after);
      inside = read.inside;
    }

pub returns-in_err-function : goal.returns-in_err-function
returns-in_err-function c =
    let p = err_from_is_err_and c.from_residual-in_err-function.result c.from_residual-in_err-function.ensures.1 in
    let fault = boxed_fault view_function (function_family 0) c.args.tokens.now c.args.at c.args.at 1 _ _ c.in_err-function.ensures.err c.function.ensures in
    rw (p.1, p.2) (made_fails (item_family activity_parser body_parser 0) (function_family 0) ItemFunction c.args.tokens.now c.args.at (function_here c.args.tokens.now c.args.at 0 (sym c.is.ensures ∙ c.if-is.false) (sym c.is-2.ensures ∙ c.if-is-2.false) (sym c.is-3.ensures ∙ c.if-is-3.true)) c.in_err-function.field-0.0 fault)

pub returns-then-is-3 : goal.returns-then-is-3
returns-then-is-3 c =
    let read = part_read view_function (function_family 0) c.args.tokens.now c.args.at c.args.at 1 _ _ c.in_ok-function.ensures.ok c.function.ensures in
    record {
      settles = made_given (item_family activity_parser body_parser 0) (function_family 0) ItemFunction c.args.tokens.now c.args.at (function_here c.args.tokens.now c.args.at 0 (sym c.is.ensures ∙ c.if-is.false) (sym c.is-2.ensures ∙ c.if-is-2.false) (sym c.is-3.ensures ∙ c.if-is-3.true)) (view_function c.in_ok-function.function.value) c.in_ok-function.after (omega (arith, read.after)) read.settles;
      after = omega (arith, read.after);
      inside = read.inside;
    }

pub returns-in_err-object : goal.returns-in_err-object
returns-in_err-object c =
    let p = err_from_is_err_and c.from_residual-in_err-object.result c.from_residual-in_err-object.ensures.1 in
    let fault = boxed_fault view_object (object_family 0) c.args.tokens.now c.args.at c.args.at 1 _ _ c.in_err-object.ensures.err c.object.ensures in
    rw (p.1, p.2) (made_fails (item_family activity_parser body_parser 0) (object_family 0) ItemObject c.args.tokens.now c.args.at (object_here c.args.tokens.now c.args.at 0 (sym c.is.ensures ∙ c.if-is.false) (sym c.is-2.ensures ∙ c.if-is-2.false) (sym c.is-3.ensures ∙ c.if-is-3.false) (sym c.is-4.ensures ∙ c.if-is-4.false)) c.in_err-object.field-0.0 fault)

pub returns : goal.returns
returns c =
    let read = part_read view_object (object_family 0) c.args.tokens.now c.args.at c.args.at 1 _ _ c.in_ok-object.ensures.ok c.object.ensures in
    record {
      settles = made_given (item_family activity_parser body_parser 0) (object_family 0) ItemObject c.args.tokens.now c.args.at (object_here c.args.tokens.now c.args.at 0 (sym c.is.ensures ∙ c.if-is.false) (sym c.is-2.ensures ∙ c.if-is-2.false) (sym c.is-3.ensures ∙ c.if-is-3.false) (sym c.is-4.ensures ∙ c.if-is-4.false)) (view_object c.in_ok-object.object.value) c.in_ok-object.after (omega (arith, read.after)) read.settles;
      after = omega (arith, read.after);
      inside = read.inside;
    }
