use Rattle.pst_type_rules.proofs.PartsTried.{twice, inherited_twice, replaced, assigned_handle, no_local}
use Rattle.pst_type_rules.proofs.laws.parts_are_tried.Goals as goal

pub returns : goal.returns
returns c = record {
  twice = twice;
  inherited_twice = inherited_twice;
  replaced = replaced;
  assigned_handle = assigned_handle;
  no_local = no_local;
}
