use Rattle.std.proofs.Common.{refl}
use Rattle.pst_ast.specs.Lookups.{look_up, base_of}
use Rattle.pst_type_rules.specs.Sites.{action_at}
use Rattle.pst_tree.specs.Bases.{with_bases}
use Rattle.pst_tree.proofs.inherited_laws.bases_are_tried.Goals as goal

pub returns : goal.returns
unfolding look_up base_of action_at with_bases
returns c = record {
  bases = refl;
  fields = refl;
  needs = refl;
  reference = refl;
  handles = refl;
  handle = refl;
  number = refl;
  inherited_body = refl;
  inherited_activity = refl;
  own_body = refl;
  atomic = refl;
  still_compound = refl;
}
