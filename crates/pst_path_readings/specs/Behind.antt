-- Names behind references and claims.
use Rattle.std.specs.Prelude.{ℕ}
use Rattle.pst_model.specs.ConstraintTree.{SlotTree, First, ClaimId, Prev}
use Rattle.pst_ast.specs.declared.scope_declaration.Declaration.{Declaration}
use Rattle.pst_ast.specs.declared.referent.Referent.{Referent}
use Rattle.pst_ast.specs.declared.referent.Referent.TheVariants.{Declared, Initial, Number}
use Rattle.pst_tree.specs.Bases.{number_in, members_that}
use Rattle.pst_terms.specs.Sources.{Sources, declared_in}
use Rattle.pst_terms.specs.Terms.{Reading, AThing}
use Rattle.pst_terms.specs.Readings.{typed_field, field_reading, nothing}
use Rattle.pst_type_members.specs.Listed.{is_of}
use Rattle.pst_type_members.specs.declared.lists.MemberSort.{MemberSort}
use Rattle.pst_type_members.specs.declared.lists.MemberSort.TheVariants as by
use Rattle.pst_path_readings.specs.declared.fields.FieldOf.TheVariants as of
use Rattle.pst_path_readings.specs.Wrapped.{slot_of}

-- the number of a member of a type among those of its sort
abbrev pub member_number : Sources → MemberSort → Declaration → Declaration → ℕ
member_number s sort owner member = number_in (members_that (is_of sort) (declared_in s) owner) member

abbrev pub reference_reading : Sources → Declaration → Declaration → Referent → Reading SlotTree
reference_reading s owner r (Declared d) = typed_field s (slot_of (of.Referenced (member_number s by.Reference owner r))) r d
reference_reading s owner r (Initial object) = AThing (First (member_number s by.Reference owner r))
reference_reading s owner r _ = nothing

abbrev pub claim_reading : Sources → Declaration → Declaration → Referent → Reading SlotTree
claim_reading s owner r (Declared d) = typed_field s (slot_of (of.Claimed (member_number s by.Claim owner r))) r d
claim_reading s owner r (Number object) = AThing (ClaimId (member_number s by.Claim owner r))
claim_reading s owner r _ = nothing

-- behind the object that another replaces
abbrev pub replaced_reading : Sources → Declaration → Referent → Reading SlotTree
replaced_reading s object (Declared d) = field_reading s (λ k. Prev k) object d
replaced_reading s object _ = nothing
