use Rattle.pst_sound_model.proofs.Members.{from_contains}
use Rattle.pst_sound_model.proofs.Named.{name_found}
use Rattle.pst_ast.specs.Declarations.{declarations}
use Rattle.pst_sound_model.proofs.sound_names_laws.names_are_found.Goals as goal

pub returns : goal.returns
returns c = λ units names own right d there. name_found units names own right d (from_contains (declarations units) d there.0 there.1 there.2)
