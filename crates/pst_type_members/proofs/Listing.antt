-- Each sort of members is of one of the groups by which bases are listed.
use Rattle.std.proofs.Common.{◌≡◌, refl, ap, ◌∙◌}
use Rattle.std.specs.Prelude.{false, ◌||◌, Result, Ok, Err, IfOk}
use Rattle.pst_ast.specs.declared.scope_declaration.Sort.{Sort}
use Rattle.pst_ast.specs.Sorts.{is_field, is_reference, is_claim}
use Rattle.pst_marked_bases.proofs.Among.{neither}
use Rattle.pst_member_bases.specs.declared.groups.MemberGroup.TheVariants as group
use Rattle.pst_member_bases.specs.Grouped.{is_in_group}
use Rattle.pst_type_members.specs.declared.lists.MemberSort.{MemberSort}
use Rattle.pst_type_members.specs.declared.lists.MemberSort.TheVariants as by
use Rattle.pst_type_members.specs.Listed.{is_of}

pub handles_within : (sort : MemberSort) → sort ≡ by.Handle → (s : Sort) → is_in_group group.Handles s ≡ false → is_of sort s ≡ false
handles_within sort is s e = ap (λ (x : MemberSort). is_of x s) is ∙ e

pub others_within : (sort : MemberSort) → (sort ≡ by.Handle → ⊥) → (s : Sort) → is_in_group group.Others s ≡ false → is_of sort s ≡ false
others_within by.Field apart s e = (neither (is_field s) (is_reference s || is_claim s) e).0
others_within by.Reference apart s e = (neither (is_reference s) (is_claim s) (neither (is_field s) (is_reference s || is_claim s) e).1).0
others_within by.Claim apart s e = (neither (is_reference s) (is_claim s) (neither (is_field s) (is_reference s || is_claim s) e).1).1
others_within by.Handle apart s e = absurd (apart refl)

pub if_ok : {T E : Type 0} {P Q : T → Type 0} (r : Result T E) → ((x : T) → P x → Q x) → IfOk r P → IfOk r Q
if_ok (Ok x) f h = f x h
if_ok (Err e) f h = tt
