-- What is kept of the types that declare members.
use Rattle.pst_member_bases.specs.declared.groups.MemberGroup.TheVariants as group
use Rattle.pst_member_bases.specs.declared.bases.MemberBases.TheInside.{Inside}
use Rattle.pst_member_bases.specs.Grouped.{AreBasesWith}

pub record HasBases (m : Inside) : Type 0 where
  pub handles : AreBasesWith group.Handles m.index.now m.handles
  pub others : AreBasesWith group.Others m.index.now m.others
