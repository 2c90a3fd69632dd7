use Rattle.std.proofs.Common.{arith, rules, ◌-◌, true, false}
use Rattle.pst_token.specs.declared.kind.Kind.TheVariants as kind
use Rattle.pst_ast.specs.ActivityView.{view_arm_label}
use Rattle.pst_reading.proofs.Reaching.{begin, choose, reads_on}
use Rattle.pst_parse_step.specs.ActivityPartFamilies.{ranges_label_family, default_label_family, arm_label_family}
use Rattle.pst_parse_step.proofs.labels.arm_label.Goals as goal

pub returns-then-is : goal.returns-then-is
returns-then-is c = reads_on (arm_label_family c.args.depth) c.args.tokens.now c.args.at c.args.at view_arm_label (ranges_label_family c.args.depth) c.args.at 1 1 c.ranges_label.result (omega arith) c.ranges_label.ensures (choose (arm_label_family c.args.depth) c.args.tokens.now c.args.at c.args.at kind.LeftBracket _ _ c.args.at true (search rules) (begin (arm_label_family c.args.depth) c.args.tokens.now c.args.at c.args.at))

pub returns : goal.returns
returns c = reads_on (arm_label_family c.args.depth) c.args.tokens.now c.args.at c.args.at view_arm_label (default_label_family c.args.depth) c.args.at 1 1 c.default_label.result (omega arith) c.default_label.ensures (choose (arm_label_family c.args.depth) c.args.tokens.now c.args.at c.args.at kind.LeftBracket _ _ c.args.at false (search rules) (begin (arm_label_family c.args.depth) c.args.tokens.now c.args.at c.args.at))
