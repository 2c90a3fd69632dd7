use Rattle.std.proofs.Common.{arith, rules, ◌-◌, true, false}
use Rattle.pst_token.specs.declared.kind.Kind.TheVariants as kind
use Rattle.pst_ast.specs.ActivityView.{view_other_ends}
use Rattle.pst_reading.proofs.Reaching.{begin, choose, reads_on}
use Rattle.pst_parse_step.specs.ActivityPartFamilies.{one_end_family, several_ends_family, other_ends_family}
use Rattle.pst_parse_step.proofs.parts.other_ends.Goals as goal

pub returns-then-is : goal.returns-then-is
returns-then-is c = reads_on (other_ends_family c.args.depth) c.args.tokens.now c.args.at c.args.at view_other_ends (several_ends_family c.args.depth) c.args.at 1 1 c.several_ends.result (omega arith) c.several_ends.ensures (choose (other_ends_family c.args.depth) c.args.tokens.now c.args.at c.args.at kind.LeftBrace _ _ c.args.at true (search rules) (begin (other_ends_family c.args.depth) c.args.tokens.now c.args.at c.args.at))

pub returns : goal.returns
returns c = reads_on (other_ends_family c.args.depth) c.args.tokens.now c.args.at c.args.at view_other_ends (one_end_family c.args.depth) c.args.at 1 1 c.one_end.result (omega arith) c.one_end.ensures (choose (other_ends_family c.args.depth) c.args.tokens.now c.args.at c.args.at kind.LeftBrace _ _ c.args.at false (search rules) (begin (other_ends_family c.args.depth) c.args.tokens.now c.args.at c.args.at))
