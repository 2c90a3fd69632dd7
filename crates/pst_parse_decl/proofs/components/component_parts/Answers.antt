use Rattle.pst_ast.specs.DeclarationView.{view_component_part}
use Rattle.pst_parse_decl.proofs.components.component_parts.Goals as goal
use Rattle.pst_parse_decl.specs.Families.{component_part_family}
use Rattle.pst_parse_decl.specs.Inner.{activity_parser, body_parser}
use Rattle.pst_parse_expr.specs.Constraints.{is_other}
use Rattle.pst_reading.proofs.Giving.{later, later_fault}
use Rattle.pst_reading.proofs.Lists.{list_begins, list_turns, list_fails, list_ends}
use Rattle.pst_token.specs.declared.kind.Kind.TheVariants as kind
use Rattle.std.proofs.Common.{arith, rules, ◌-◌, map}
use Rattle.std.proofs.lemmas.List.{map-append}
use Rattle.std.proofs.lemmas.Result.{err_from_is_err_and}

pub parts-init : goal.parts-init
parts-init c = rw c.new-parts.ensures.items (list_begins (is_other kind.RightBrace) (component_part_family activity_parser body_parser 1) c.args.tokens.now (c.args.at - 1) c.args.at (omega (arith, c.requires.behind)) c.requires.inside)

pub returns-in_err-part : goal.returns-in_err-part
returns-in_err-part c =
    let p = err_from_is_err_and c.from_residual.result c.from_residual.ensures.1 in
    let l = c.parts.invariant in
    rw (p.1, p.2) (list_fails (is_other kind.RightBrace) (component_part_family activity_parser body_parser 1) c.args.tokens.now (c.args.at - 1) c.args.at (map view_component_part c.parts.parts.items) c.parts.place l (search rules) c.in_err-part.field-0.0 (later_fault c.args.tokens.now (c.args.at - 1) (component_part_family activity_parser body_parser 1) c.parts.place c.in_err-part.field-0.0 (omega (arith, l.reached)) c.in_err-part.ensures))

pub parts-preserved : goal.parts-preserved
parts-preserved c =
    let l = c.parts.invariant in
    let h = c.in_ok-part.ensures in
    rw (c.in_ok-push.ensures.ok, map-append) (list_turns (is_other kind.RightBrace) (component_part_family activity_parser body_parser 1) c.args.tokens.now (c.args.at - 1) c.args.at (map view_component_part c.parts.parts.items) c.parts.place l (search rules) (view_component_part c.in_ok-part.part) c.in_ok-part.after (later c.args.tokens.now (c.args.at - 1) (component_part_family activity_parser body_parser 1) c.parts.place _ (omega (arith, l.reached)) h.settles) (omega (arith, h.after)) h.inside)

pub returns : goal.returns
returns c =
    let l = c.parts.invariant in
    record {
      settles = list_ends (is_other kind.RightBrace) (component_part_family activity_parser body_parser 1) c.args.tokens.now (c.args.at - 1) c.args.at (map view_component_part c.parts.parts.items) c.parts.place l (search rules);
      after = omega (arith, l.reached);
      inside = l.inside;
    }
