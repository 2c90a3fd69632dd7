use Rattle.std.proofs.Common.{arith, rules, ◌-◌, true, false}
use Rattle.pst_token.specs.declared.kind.Kind.TheVariants as kind
use Rattle.pst_ast.specs.ActivityView.{view_join}
use Rattle.pst_reading.proofs.Reaching.{begin, choose, reads_on}
use Rattle.pst_parse_step.specs.ActivityPartFamilies.{branch_join_family, nothing_join_family, select_join_family, join_family}
use Rattle.pst_parse_step.proofs.parts.join.Goals as goal

pub returns-then-is : goal.returns-then-is
returns-then-is c = reads_on (join_family c.args.depth) c.args.tokens.now c.args.at c.args.at view_join (branch_join_family c.args.depth) c.args.at 1 1 c.branch_join.result (omega arith) c.branch_join.ensures (choose (join_family c.args.depth) c.args.tokens.now c.args.at c.args.at kind.JoinBranch _ _ c.args.at true (search rules) (begin (join_family c.args.depth) c.args.tokens.now c.args.at c.args.at))

pub returns-then-is-2 : goal.returns-then-is-2
returns-then-is-2 c = reads_on (join_family c.args.depth) c.args.tokens.now c.args.at c.args.at view_join (nothing_join_family c.args.depth) c.args.at 1 1 c.nothing_join.result (omega arith) c.nothing_join.ensures (choose (join_family c.args.depth) c.args.tokens.now c.args.at c.args.at kind.JoinNone _ _ c.args.at true (search rules) (choose (join_family c.args.depth) c.args.tokens.now c.args.at c.args.at kind.JoinBranch _ _ c.args.at false (search rules) (begin (join_family c.args.depth) c.args.tokens.now c.args.at c.args.at)))

pub returns : goal.returns
returns c = reads_on (join_family c.args.depth) c.args.tokens.now c.args.at c.args.at view_join (select_join_family c.args.depth) c.args.at 1 1 c.select_join.result (omega arith) c.select_join.ensures (choose (join_family c.args.depth) c.args.tokens.now c.args.at c.args.at kind.JoinNone _ _ c.args.at false (search rules) (choose (join_family c.args.depth) c.args.tokens.now c.args.at c.args.at kind.JoinBranch _ _ c.args.at false (search rules) (begin (join_family c.args.depth) c.args.tokens.now c.args.at c.args.at)))
