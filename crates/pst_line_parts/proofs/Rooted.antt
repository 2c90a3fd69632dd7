-- The root and the sources of a line, by its command.
use Rattle.std.proofs.Common.{◌≡◌, ℕ, List, refl}
use Rattle.pst_words.specs.declared.command.Command.{Command}
use Rattle.pst_words.specs.declared.command.Command.TheVariants.{Run, Solve, Check, Gen, Static, Place, Sweep}
use Rattle.pst_outcome.specs.Tasks.{HasRoot, IsRoot, AreSources}

pub is_root : (command : Command) (arguments : List (List ℕ)) (component action : List ℕ) → (command ≡ Gen → ⊥) → HasRoot arguments component action → IsRoot command arguments component action
is_root Run arguments component action other h = h
is_root Solve arguments component action other h = h
is_root Check arguments component action other h = h
is_root Gen arguments component action other h = absurd (other refl)
is_root Static arguments component action other h = h
is_root Place arguments component action other h = h
is_root Sweep arguments component action other h = h

pub are_sources : (command : Command) (arguments texts : List (List ℕ)) → (command ≡ Gen → ⊥) → AreSources command arguments texts texts
are_sources Run arguments texts other = refl
are_sources Solve arguments texts other = refl
are_sources Check arguments texts other = refl
are_sources Gen arguments texts other = absurd (other refl)
are_sources Static arguments texts other = refl
are_sources Place arguments texts other = refl
are_sources Sweep arguments texts other = refl
