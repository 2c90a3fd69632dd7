-- What is known of the activities of all that is derived from each declaration.
use Rattle.std.specs.Prelude.{ℕ, List, length, Bool, Option, IsTrue}
use Rattle.std.specs.HashMap.{HashMap}
use Rattle.pst_base.specs.declared.position.Place.{Place}
use Rattle.pst_ast.specs.DeclarationTree.{UnitTree}
use Rattle.pst_ast.specs.Declarations.{declarations}
use Rattle.pst_traversals.specs.declared.tally.TallyKey.{TallyKey}
use Rattle.pst_steady.specs.declared.below.Below.{Below}
use Rattle.pst_steady.specs.Lined.{AreLined}
use Rattle.pst_steady.specs.Ranged.{AreRanged}
use Rattle.pst_steady.specs.Run.{AreRuns}

-- the ends are those of activities that traverse a handle exactly once, and where the numbers of declarations were looked at they are right
pub record AreBelow {S : Type 0} (units : List UnitTree) (places : List Place) (bases : List (Option ℕ)) (values : List (Option ℕ)) (tallies : HashMap TallyKey Bool S) (below : Below) : Type 0 where
  pub lined : AreLined units bases values tallies
  pub runs : AreRuns tallies below.slots.now below.runs.now
  pub ranged : IsTrue below.right → AreRanged places (declarations units) lined.seeds bases below.ranges.now below.slots.now (length (declarations units))
