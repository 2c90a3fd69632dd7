-- Sorts of members.
use Rattle.std.specs.Prelude.{Bool}
use Rattle.pst_ast.specs.declared.scope_declaration.Sort.{Sort}
use Rattle.pst_ast.specs.Sorts.{is_field, is_reference, is_claim, is_handle}
use Rattle.pst_type_members.specs.declared.lists.MemberSort.{MemberSort}
use Rattle.pst_type_members.specs.declared.lists.MemberSort.TheVariants as by

abbrev pub is_of : MemberSort → Sort → Bool
is_of by.Field s = is_field s
is_of by.Reference s = is_reference s
is_of by.Claim s = is_claim s
is_of by.Handle s = is_handle s
