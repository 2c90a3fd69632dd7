-- What nodes stand for in what is read so far.
use Rattle.std.specs.Prelude.{ℕ, List}
use Rattle.pst_model.specs.ModelTree.{ModelTree}
use Rattle.pst_model.specs.Sound.{IsSound}
use Rattle.pst_scen.specs.declared.scenario.Scenario.{Scenario}
use Rattle.pst_legal.specs.Pieces.{Piece}
use Rattle.pst_legal.specs.ValueReading.{read}
use Rattle.pst_built.specs.SoFar.{HasRead}
use Rattle.pst_built.specs.Known.{HandlesHaveTypes, LeavesHaveActions}
use Rattle.pst_read_domains.specs.Stood.{StandFor}

-- Whatever a list of choices has read, whole or so far, its nodes stand for pieces of the activity.
abbrev pub NodesStandForPieces : Type 0
NodesStandForPieces =
    (m : ModelTree) (root seed level : ℕ) (choices : List ℕ) (s : Scenario) → HasRead (read m root seed level choices) s → (pieces : List Piece) × StandFor m root s pieces

-- So each leaf has its action,
abbrev pub ReadLeavesHaveActions : Type 0
ReadLeavesHaveActions = (m : ModelTree) (root seed level : ℕ) (choices : List ℕ) (s : Scenario) → HasRead (read m root seed level choices) s → LeavesHaveActions s

-- and of a sound model each handle leads to a node of its type.
abbrev pub HandlesHaveTheirTypes : Type 0
HandlesHaveTheirTypes = (m : ModelTree) (root seed level : ℕ) (choices : List ℕ) (s : Scenario) → IsSound m → HasRead (read m root seed level choices) s → HandlesHaveTypes m s
