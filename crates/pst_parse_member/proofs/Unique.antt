-- At most one tree of each rule spells a list of tokens.
use Rattle.pst_ast.specs.DeclarationLimits.{counts_field, counts_reference, counts_claim, counts_members, counts_enum, counts_function, counts_pool, counts_pool_bind}
use Rattle.pst_ast.specs.Laws.{AtMostOneTree}
use Rattle.pst_ast.specs.Rule.{TheField, TheReference, TheClaim, TheMembers, TheEnum, TheFunction, ThePool, ThePoolBind}
use Rattle.pst_parse_member.proofs.EnumsAgain.{enum_rereads, function_rereads}
use Rattle.pst_parse_member.proofs.EnumsExplain.{enum_explains, function_explains}
use Rattle.pst_parse_member.proofs.MembersAgain.{field_rereads, members_rereads, reference_rereads, claim_rereads}
use Rattle.pst_parse_member.proofs.MembersExplain.{field_explains, members_explains, reference_explains, claim_explains}
use Rattle.pst_parse_member.proofs.PoolsAgain.{pool_rereads, pool_bind_rereads}
use Rattle.pst_parse_member.proofs.PoolsExplain.{pool_explains, pool_bind_explains}
use Rattle.pst_parse_member.specs.Enums.{function_by, enum_by}
use Rattle.pst_parse_member.specs.Laws.{OneTreeOfMembers}
use Rattle.pst_parse_member.specs.Members.{claim_by, field_by, members_by, reference_by}
use Rattle.pst_parse_member.specs.Pools.{pool_bind_by, pool_by}
use Rattle.pst_reading.proofs.Final.{one_tree_by}
use Rattle.pst_reading.proofs.Rereading.{Anything}
use Rattle.std.proofs.Common.{arith, inl}

-- whatever follows, a declaration has ended with its last mark
pub one_field : AtMostOneTree TheField
one_field = one_tree_by TheField (counts_field 0) (λ n. field_by n 0) (λ n. field_explains n 0) (λ tree. Anything) (λ n tree rest proper short m. (field_rereads n 0 tree proper (omega (arith, short))).again rest tt) (λ tree proper. tt) (λ tree t proper. inl tt)

pub one_reference : AtMostOneTree TheReference
one_reference = one_tree_by TheReference (counts_reference 0) (λ n. reference_by n 0) (λ n. reference_explains n 0) (λ tree. Anything) (λ n tree rest proper short m. (reference_rereads n 0 tree proper (omega (arith, short))).again rest tt) (λ tree proper. tt) (λ tree t proper. inl tt)

pub one_claim : AtMostOneTree TheClaim
one_claim = one_tree_by TheClaim (counts_claim 0) (λ n. claim_by n 0) (λ n. claim_explains n 0) (λ tree. Anything) (λ n tree rest proper short m. (claim_rereads n 0 tree proper (omega (arith, short))).again rest tt) (λ tree proper. tt) (λ tree t proper. inl tt)

pub one_members : AtMostOneTree TheMembers
one_members = one_tree_by TheMembers (counts_members 0) (λ n. members_by n 0) (λ n. members_explains n 0) (λ tree. Anything) (λ n tree rest proper short m. (members_rereads n 0 tree proper (omega (arith, short))).again rest tt) (λ tree proper. tt) (λ tree t proper. inl tt)

pub one_enum : AtMostOneTree TheEnum
one_enum = one_tree_by TheEnum (counts_enum 0) (λ n. enum_by n 0) (λ n. enum_explains n 0) (λ tree. Anything) (λ n tree rest proper short m. (enum_rereads n 0 tree proper (omega (arith, short))).again rest tt) (λ tree proper. tt) (λ tree t proper. inl tt)

pub one_function : AtMostOneTree TheFunction
one_function = one_tree_by TheFunction (counts_function 0) (λ n. function_by n 0) (λ n. function_explains n 0) (λ tree. Anything) (λ n tree rest proper short m. (function_rereads n 0 tree proper (omega (arith, short))).again rest tt) (λ tree proper. tt) (λ tree t proper. inl tt)

pub one_pool : AtMostOneTree ThePool
one_pool = one_tree_by ThePool (counts_pool 0) (λ n. pool_by n 0) (λ n. pool_explains n 0) (λ tree. Anything) (λ n tree rest proper short m. (pool_rereads n 0 tree proper (omega (arith, short))).again rest tt) (λ tree proper. tt) (λ tree t proper. inl tt)

pub one_pool_bind : AtMostOneTree ThePoolBind
one_pool_bind = one_tree_by ThePoolBind (counts_pool_bind 0) (λ n. pool_bind_by n 0) (λ n. pool_bind_explains n 0) (λ tree. Anything) (λ n tree rest proper short m. (pool_bind_rereads n 0 tree proper (omega (arith, short))).again rest tt) (λ tree proper. tt) (λ tree t proper. inl tt)

pub one_of_members : OneTreeOfMembers
one_of_members = (one_field, one_reference, one_claim, one_members, one_enum, one_function, one_pool, one_pool_bind)
