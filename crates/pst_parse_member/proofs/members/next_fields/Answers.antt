use Rattle.pst_ast.specs.DeclarationView.{view_next_field}
use Rattle.pst_parse_member.proofs.members.next_fields.Goals as goal
use Rattle.pst_parse_member.specs.Families.{next_field_family}
use Rattle.pst_parse_expr.specs.Constraints.{is_at}
use Rattle.pst_reading.proofs.Giving.{later, later_fault}
use Rattle.pst_reading.proofs.Lists.{list_begins, list_turns, list_fails, list_ends}
use Rattle.pst_token.specs.declared.kind.Kind.TheVariants as kind
use Rattle.std.proofs.Common.{arith, rules, ◌-◌, map}
use Rattle.std.proofs.lemmas.List.{map-append}
use Rattle.std.proofs.lemmas.Result.{err_from_is_err_and}

pub others-init : goal.others-init
others-init c = rw c.new-others.ensures.items (list_begins (is_at kind.Comma) (next_field_family c.args.depth) c.args.tokens.now (c.args.at - 1) c.args.at (omega (arith, c.requires.behind)) c.requires.inside)

pub returns-in_err-field : goal.returns-in_err-field
returns-in_err-field c =
    let p = err_from_is_err_and c.from_residual.result c.from_residual.ensures.1 in
    let l = c.others.invariant in
    rw (p.1, p.2) (list_fails (is_at kind.Comma) (next_field_family c.args.depth) c.args.tokens.now (c.args.at - 1) c.args.at (map view_next_field c.others.others.items) c.others.place l (search rules) c.in_err-field.field-0.0 (later_fault c.args.tokens.now (c.args.at - 1) (next_field_family c.args.depth) c.others.place c.in_err-field.field-0.0 (omega (arith, l.reached)) c.in_err-field.ensures))

pub others-preserved : goal.others-preserved
others-preserved c =
    let l = c.others.invariant in
    let h = c.in_ok-field.ensures in
    rw (c.in_ok-push.ensures.ok, map-append) (list_turns (is_at kind.Comma) (next_field_family c.args.depth) c.args.tokens.now (c.args.at - 1) c.args.at (map view_next_field c.others.others.items) c.others.place l (search rules) (view_next_field c.in_ok-field.field) c.in_ok-field.after (later c.args.tokens.now (c.args.at - 1) (next_field_family c.args.depth) c.others.place _ (omega (arith, l.reached)) h.settles) (omega (arith, h.after)) h.inside)

pub returns : goal.returns
returns c =
    let l = c.others.invariant in
    record {
      settles = list_ends (is_at kind.Comma) (next_field_family c.args.depth) c.args.tokens.now (c.args.at - 1) c.args.at (map view_next_field c.others.others.items) c.others.place l (search rules);
      after = omega (arith, l.reached);
      inside = l.inside;
    }
