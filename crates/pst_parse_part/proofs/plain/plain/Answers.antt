use Rattle.pst_ast.specs.SharedView.{view_plain}
use Rattle.pst_parse_part.proofs.plain.plain.Goals as goal
use Rattle.pst_parse_part.specs.Families.{plain_family, bit_family, int_family}
use Rattle.pst_reading.proofs.Reaching.{begin, choose, reads_on}
use Rattle.pst_token.specs.declared.kind.Kind.TheVariants as kind
use Rattle.std.proofs.Common.{arith, rules, true, false}

pub returns-then-is : goal.returns-then-is
returns-then-is c = reads_on (plain_family c.args.depth) c.args.tokens.now c.args.at c.args.at view_plain (int_family c.args.depth) c.args.at 1 1 _ (omega arith) c.int_type.ensures (choose (plain_family c.args.depth) c.args.tokens.now c.args.at c.args.at kind.Int _ _ c.args.at true (search rules) (begin (plain_family c.args.depth) c.args.tokens.now c.args.at c.args.at))

pub returns-then-is-2 : goal.returns-then-is-2
returns-then-is-2 c = reads_on (plain_family c.args.depth) c.args.tokens.now c.args.at c.args.at view_plain (bit_family c.args.depth) c.args.at 1 1 _ (omega arith) c.bit_type.ensures (choose (plain_family c.args.depth) c.args.tokens.now c.args.at c.args.at kind.Bit _ _ c.args.at true (search rules) (choose (plain_family c.args.depth) c.args.tokens.now c.args.at c.args.at kind.Int _ _ c.args.at false (search rules) (begin (plain_family c.args.depth) c.args.tokens.now c.args.at c.args.at)))
