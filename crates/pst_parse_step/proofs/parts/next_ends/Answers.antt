use Rattle.std.proofs.Common.{arith, rules, ◌-◌}
use Rattle.std.proofs.lemmas.Result.{err_from_is_err_and}
use Rattle.pst_token.specs.declared.kind.Kind.TheVariants as kind
use Rattle.pst_reading.proofs.Giving.{later, later_fault}
use Rattle.pst_reading.proofs.Lists.{list_begins, list_turns, list_fails, list_ends}
use Rattle.pst_parse_expr.specs.Constraints.{is_at}
use Rattle.pst_parse_step.specs.ActivityPartFamilies.{next_end_family}
use Rattle.pst_parse_step.proofs.parts.next_ends.Goals as goal

pub ends-init : goal.ends-init
ends-init c = rw c.new-ends.ensures.items (list_begins (is_at kind.Comma) (next_end_family c.args.depth) c.args.tokens.now (c.args.at - 1) c.args.at (omega (arith, c.requires.behind)) c.requires.inside)

pub returns-in_err-end : goal.returns-in_err-end
returns-in_err-end c =
    let p = err_from_is_err_and c.from_residual.result c.from_residual.ensures.1 in
    let l = c.ends.invariant in
    rw (p.1, p.2) (list_fails (is_at kind.Comma) (next_end_family c.args.depth) c.args.tokens.now (c.args.at - 1) c.args.at c.ends.ends.items c.ends.place l (search rules) c.in_err-end.field-0.0 (later_fault c.args.tokens.now (c.args.at - 1) (next_end_family c.args.depth) c.ends.place c.in_err-end.field-0.0 (omega (arith, l.reached)) c.in_err-end.ensures))

pub ends-preserved : goal.ends-preserved
ends-preserved c =
    let l = c.ends.invariant in
    let h = c.in_ok-end.ensures in
    rw c.in_ok-push.ensures.ok (list_turns (is_at kind.Comma) (next_end_family c.args.depth) c.args.tokens.now (c.args.at - 1) c.args.at c.ends.ends.items c.ends.place l (search rules) c.in_ok-end.end c.in_ok-end.after (later c.args.tokens.now (c.args.at - 1) (next_end_family c.args.depth) c.ends.place _ (omega (arith, l.reached)) h.settles) (omega (arith, h.after)) h.inside)

pub returns : goal.returns
returns c =
    let l = c.ends.invariant in
    record {
      settles = list_ends (is_at kind.Comma) (next_end_family c.args.depth) c.args.tokens.now (c.args.at - 1) c.args.at c.ends.ends.items c.ends.place l (search rules);
      after = omega (arith, l.reached);
      inside = l.inside;
    }
