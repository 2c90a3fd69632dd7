-- At most one tree of each rule spells a list of tokens.
use Rattle.pst_ast.specs.Laws.{AtMostOneTree}
use Rattle.pst_ast.specs.Rule.{TheObject}
use Rattle.pst_parse_decl.proofs.ObjectsAgain.{object_rereads}
use Rattle.pst_parse_decl.proofs.ObjectsExplain.{object_explains}
use Rattle.pst_parse_decl.proofs.Taken.{taken_object}
use Rattle.pst_parse_decl.specs.Laws.{OneTreeOfDeclarations}
use Rattle.pst_parse_decl.specs.Objects.{object_by}
use Rattle.pst_parse_member.proofs.Unique.{one_of_members}
use Rattle.pst_reading.proofs.Final.{one_tree_by}
use Rattle.pst_reading.proofs.Rereading.{Anything}
use Rattle.std.proofs.Common.{arith, inl}

-- whatever follows, an object has ended with its last mark
pub one_object : AtMostOneTree TheObject
one_object = one_tree_by TheObject (taken_object 0) (λ n. object_by n 0) (λ n. object_explains n 0) (λ tree. Anything) (λ n tree rest proper short m. (object_rereads n 0 tree proper (omega (arith, short))).again rest tt) (λ tree proper. tt) (λ tree t proper. inl tt)

pub one_of_each : OneTreeOfDeclarations
one_of_each = (one_of_members, one_object)
