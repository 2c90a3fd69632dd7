use Rattle.std.proofs.Common.{refl}
use Rattle.std.specs.Prelude.{[]}
use Rattle.pst_ast.specs.Lookups.{look_up, base_of}
use Rattle.pst_type_rules.specs.Members.{Own, Inherited}
use Rattle.pst_type_rules.specs.Sites.{action_at}
use Rattle.pst_tree.specs.Bases.{with_bases}
use Rattle.pst_front_laws.proofs.content_laws.contents_are_tried.Goals as goal

pub returns : goal.returns
unfolding look_up base_of action_at with_bases
returns c = record {
  own = Own _ _ _ [] refl refl;
  own_found = refl;
  inherited = Inherited _ _ _ _ refl refl refl refl (Own _ _ _ [] refl refl);
  inherited_found = refl;
  replaced_found = refl;
}
