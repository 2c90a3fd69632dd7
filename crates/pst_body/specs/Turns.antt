-- The numbers of the turns round a step.
use Rattle.std.specs.Prelude.{ℕ, List, [], ◌∷◌, ◌++◌}
use Rattle.pst_body.specs.declared.turns.Turns.{Turns}
use Rattle.pst_body.specs.declared.turns.Turns.TheVariants.{Nothing, Within'}

-- from the outermost on
abbrev pub indices_of : Turns → List ℕ
indices_of Nothing = []
indices_of (Within' p outer index) = indices_of outer ++ index ∷ []
