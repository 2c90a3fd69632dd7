use Rattle.std.proofs.Common.{arith, rules, ◌-◌, true, false}
use Rattle.pst_token.specs.declared.kind.Kind.TheVariants as kind
use Rattle.pst_ast.specs.ActivityView.{view_guard}
use Rattle.pst_reading.proofs.Reaching.{begin, choose, reads_on}
use Rattle.pst_parse_step.specs.ActivityPartFamilies.{condition_guard_family, weight_guard_family, guard_family}
use Rattle.pst_parse_step.proofs.labels.guard.Goals as goal

pub returns-then-is : goal.returns-then-is
returns-then-is c = reads_on (guard_family c.args.depth) c.args.tokens.now c.args.at c.args.at view_guard (condition_guard_family c.args.depth) c.args.at 1 1 c.condition_guard.result (omega arith) c.condition_guard.ensures (choose (guard_family c.args.depth) c.args.tokens.now c.args.at c.args.at kind.LeftParenthesis _ _ c.args.at true (search rules) (begin (guard_family c.args.depth) c.args.tokens.now c.args.at c.args.at))

pub returns : goal.returns
returns c = reads_on (guard_family c.args.depth) c.args.tokens.now c.args.at c.args.at view_guard (weight_guard_family c.args.depth) c.args.at 1 1 c.weight_guard.result (omega arith) c.weight_guard.ensures (choose (guard_family c.args.depth) c.args.tokens.now c.args.at c.args.at kind.LeftParenthesis _ _ c.args.at false (search rules) (begin (guard_family c.args.depth) c.args.tokens.now c.args.at c.args.at))
