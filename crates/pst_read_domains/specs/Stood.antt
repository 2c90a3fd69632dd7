-- What the nodes of a scenario stand for, which may still be read: the root's action, statements, and turns of repetitions.
use Rattle.std.specs.Prelude.{◌≡◌, ℕ, ◌<◌, List, Bool, Option, Some, length, slice_get}
use Rattle.pst_model.specs.ConstraintTree.{ConstraintTree}
use Rattle.pst_model.specs.ActivityTree.{StepTree, Traverse, Sequence, Parallel, Schedule, Joined, Select, Repeat, If, Match, ActivityTree}
use Rattle.pst_model.specs.ModelTree.{ModelTree}
use Rattle.pst_scen.specs.declared.tree.Node.{Node}
use Rattle.pst_scen.specs.declared.tree.Fill.{Fill}
use Rattle.pst_scen.specs.declared.tree.Fill.TheVariants as fill
use Rattle.pst_scen.specs.declared.scenario.Scenario.{Scenario}
use Rattle.pst_legal.specs.Types.{action_activity}
use Rattle.pst_legal.specs.Pieces.{Context, Piece, Action, Statement, Turning}
use Rattle.pst_legal.specs.Statements.{IsBranch, step_below}
use Rattle.pst_legal.specs.Slots.{compound_in}
use Rattle.pst_built.specs.Known.{IsOf}

-- a node of this fill may stand for the statement
abbrev pub Suits : Scenario → StepTree → Fill → Type 0
Suits s (Traverse action handle inline) f = IsOf s action f
Suits s (Sequence steps) f = f ≡ fill.Sequence
Suits s (Parallel steps) f = f ≡ fill.Parallel
Suits s (Schedule steps) f = f ≡ fill.Schedule
Suits s (Joined parallel join steps) f = (joined : ℕ) × (f ≡ fill.Joined parallel joined)
Suits s (Select rows) f = (branch : ℕ) × (f ≡ fill.Select branch)
Suits s (Repeat count body) f = f ≡ fill.Repeat
Suits s (If condition holds fails) f = (taken : Bool) × (f ≡ fill.If taken)
Suits s (Match matched arms other) f = (arm : Option ℕ) × (f ≡ fill.Match arm)

-- a node of this fill may stand for the piece
abbrev pub IsPiece : Scenario → Piece → Fill → Type 0
IsPiece s (Action action top) f = IsOf s action f
IsPiece s (Statement c step) f = Suits s step f
IsPiece s (Turning c index body) f = f ≡ fill.Turn index

-- the statement is the one at that place below a node of this fill that stands for the piece
pub data StepUnder (m : ModelTree) (piece : Piece) (f : Fill) (index : ℕ) (step : StepTree) : Type 0 where
  -- of the activity of a compound action
  OfActivity : (action : ℕ) (activity : ActivityTree) → compound_in f ≡ Some action → action_activity m action ≡ Some activity → slice_get activity.steps index ≡ Some step → StepUnder m piece f index step
  -- of a statement
  OfStatement : (c : Context) (above : StepTree) → piece ≡ Statement c above → step_below f above index ≡ Some step → StepUnder m piece f index step
  -- of a turn
  OfTurn : (c : Context) (turn : ℕ) → piece ≡ Turning c turn step → StepUnder m piece f index step

-- the last piece is the one at that place below a node of this fill that stands for the first
abbrev pub Under : ModelTree → Piece → Fill → ℕ → Piece → Type 0
Under m piece f index (Action action top) = ⊥
Under m piece f index (Statement c step) = StepUnder m piece f index step
Under m piece f index (Turning c turn body) = (turn ≡ index) × ((d : Context) × (count : ConstraintTree) × (piece ≡ Statement d (Repeat count body)))

-- The nodes stand for these pieces: the first one for the root's action, and child i of a node for what stands at place i
-- below what the node stands for. Each node's parent stands before it.
pub record StandFor (m : ModelTree) (root : ℕ) (s : Scenario) (pieces : List Piece) : Type 0 where
  pub long : length pieces ≡ length s.nodes
  pub first : (piece : Piece) → slice_get pieces 0 ≡ Some piece → (top : Option ℕ) × (piece ≡ Action root top)
  pub suits : (n : ℕ) (node : Node) (piece : Piece) → slice_get s.nodes n ≡ Some node → slice_get pieces n ≡ Some piece → IsPiece s piece node.fill
  pub under : (n index child : ℕ) (node : Node) (piece below : Piece) → slice_get s.nodes n ≡ Some node → slice_get pieces n ≡ Some piece → IsBranch s.nodes n index child
      → slice_get pieces child ≡ Some below → Under m piece node.fill index below
  pub earlier : (n parent : ℕ) (node : Node) → slice_get s.nodes n ≡ Some node → node.parent ≡ Some parent → parent < n
