use Rattle.pst_sound_model.proofs.Members.{from_contains}
use Rattle.pst_sound_model.proofs.Named.{member_named}
use Rattle.pst_ast.specs.Declarations.{declarations}
use Rattle.pst_tree.specs.Bases.{members}
use Rattle.pst_sound_model.proofs.sound_names_laws.members_are_found.Goals as goal

pub returns : goal.returns
returns c = λ units names own right type d there has.
    member_named units names own right type d (from_contains (declarations units) type there.0 there.1 there.2) (from_contains (members (declarations units) type) d has.0 has.1 has.2)
