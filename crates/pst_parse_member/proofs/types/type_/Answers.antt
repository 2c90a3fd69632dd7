use Rattle.pst_ast.specs.SharedView.{view_type}
use Rattle.pst_parse_part.proofs.Maybe.{choose_next}
use Rattle.pst_parse_member.proofs.types.type_.Goals as goal
use Rattle.pst_parse_member.specs.Families.{plain_type_family, type_family, named_type_family}
use Rattle.pst_reading.proofs.Reaching.{begin, reads_on}
use Rattle.pst_reading.specs.Kinds.{is_name, next_is}
use Rattle.std.proofs.Common.{arith, rules, true, false}

pub returns-then-is_name : goal.returns-then-is_name
returns-then-is_name c = reads_on (type_family c.args.depth) c.args.tokens.now c.args.at c.args.at view_type (named_type_family c.args.depth) c.args.at 1 1 _ (omega arith) c.named_type.ensures (choose_next (type_family c.args.depth) c.args.tokens.now c.args.at c.args.at (next_is is_name) _ _ c.args.at true (search rules) (begin (type_family c.args.depth) c.args.tokens.now c.args.at c.args.at))

pub returns : goal.returns
returns c = reads_on (type_family c.args.depth) c.args.tokens.now c.args.at c.args.at view_type (plain_type_family c.args.depth) c.args.at 1 1 _ (omega arith) c.plain_type.ensures (choose_next (type_family c.args.depth) c.args.tokens.now c.args.at c.args.at (next_is is_name) _ _ c.args.at false (search rules) (begin (type_family c.args.depth) c.args.tokens.now c.args.at c.args.at))
