use Rattle.std.proofs.Common.{rules, ◌-◌, true, false}
use Rattle.pst_token.specs.declared.kind.Kind.TheVariants as kind
use Rattle.pst_ast.specs.ActivityView.{view_with}
use Rattle.pst_ast.specs.ActivityProper.{with_ends_open}
use Rattle.pst_reading.proofs.Reaching.{begin, choose, reads_open_on}
use Rattle.pst_parse_step.specs.ActivityPartFamilies.{with_set_family, with_nothing_family, with_family}
use Rattle.pst_parse_step.proofs.traversal.with_part.Goals as goal

pub returns-then-is : goal.returns-then-is
returns-then-is c = reads_open_on (with_family c.args.depth) c.args.tokens.now c.args.at c.args.at view_with with_ends_open (with_set_family c.args.depth) c.with_set.result c.with_set.ensures (choose (with_family c.args.depth) c.args.tokens.now c.args.at c.args.at kind.With _ _ c.args.at true (search rules) (begin (with_family c.args.depth) c.args.tokens.now c.args.at c.args.at))

pub returns : goal.returns
returns c = reads_open_on (with_family c.args.depth) c.args.tokens.now c.args.at c.args.at view_with with_ends_open (with_nothing_family c.args.depth) c.with_nothing.result c.with_nothing.ensures (choose (with_family c.args.depth) c.args.tokens.now c.args.at c.args.at kind.With _ _ c.args.at false (search rules) (begin (with_family c.args.depth) c.args.tokens.now c.args.at c.args.at))
