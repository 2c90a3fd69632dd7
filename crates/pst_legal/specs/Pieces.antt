-- The pieces of an activity, and the ways to fill one.
-- What a statement allows is the standard's; the join forms, the limits, and what has no fill, are this project's own.
use Rattle.std.specs.Prelude.{◌≡◌, ℕ, zero, suc, ◌+◌, ◌*◌, ℤ, pos, List, [], ◌∷◌, ◌++◌, ◌⊎◌, length, map, count_by, if◌then◌else◌, Contains, Any, Bool, true, false, not, Option, Some, None, slice_get}
use Rattle.std.specs.List.{AllZip}
use Rattle.std.specs.Option.{option_map}
use Rattle.pst_expr.specs.Spans.{IsInSpan, IsInSpans}
use Rattle.pst_expr.specs.Value.{value, is_false}
use Rattle.pst_model.specs.declared.action.Field.{Field}
use Rattle.pst_model.specs.declared.activity.Join.{Join}
use Rattle.pst_model.specs.declared.activity.Join.TheVariants.{Fixed, Choose}
use Rattle.pst_model.specs.ConstraintTree.{SlotTree, Own, Index, ConstraintTree}
use Rattle.pst_model.specs.ActivityTree.{StepTree, Traverse, Sequence, Parallel, Schedule, Joined, Select, Repeat, If, Match, BranchTree, ArmTree, steps_of, branches_of, arms_of, step_of, guard_of, branch_step, spans_of, arm_step}
use Rattle.pst_model.specs.ModelTree.{ModelTree, ActionTree, ContentTree, Atomic, Compound}
use Rattle.pst_scen.specs.declared.tree.Fill.TheVariants as fill
use Rattle.pst_legal.specs.Types.{type_of, action_instances}
use Rattle.pst_legal.specs.Growing.{Look, Inner, Leaf}

-- What conditions, guards, counts and matched values of an activity may name: the component instance of the action that
-- has it, the values of its fields, and the numbers of the turns round a statement, the outermost first.
pub record Context : Type 0 where
  pub instance : ℕ
  pub fields : List ℤ
  pub indices : List ℕ

abbrev pub in_turn : Context → ℕ → Context
in_turn c index = record c { indices = c.indices ++ index ∷ [] }

abbrev pub slot_in : Context → SlotTree → Option ℤ
slot_in c (Own field) = slice_get c.fields field
slot_in c (Index level) = option_map pos (slice_get c.indices level)
slot_in c _ = None

abbrev pub value_in : Context → ConstraintTree → Option ℤ
value_in c k = value k.expression (map (slot_in c) k.slots)

-- a value that isn't 0; no value isn't true
abbrev pub is_true : Option ℤ → Bool
is_true None = false
is_true (Some v) = not (is_false v)

-- the guard is absent or holds
abbrev pub holds_in : Context → Option ConstraintTree → Bool
holds_in c None = true
holds_in c (Some guard) = is_true (value_in c guard)

-- What one node stands for: an action of a type in the subtree of an instance, a statement, or a turn of a repetition.
pub data Piece : Type 0 where
  Action : (action : ℕ) → (top : Option ℕ) → Piece
  Statement : (context : Context) → (step : StepTree) → Piece
  Turning : (context : Context) → (index : ℕ) → (body : StepTree) → Piece

abbrev pub statements : Context → List StepTree → List Piece
statements c steps = map (Statement c) steps

-- the statement, if there is one
abbrev pub optional : Context → Option StepTree → List Piece
optional c None = []
optional c (Some step) = Statement c step ∷ []

-- the turns of a statement, from an index on
abbrev pub turns : Context → StepTree → ℕ → ℕ → List Piece
turns c body index zero = []
turns c body index (suc n) = Turning c index body ∷ turns c body (index + 1) n

-- the value is one of the field's domain
abbrev pub IsValueOf : Field → ℤ → Type 0
IsValueOf field v = IsInSpans v field.domain

-- an atomic action is a leaf; below a compound one, with any values of its fields, stand its statements
abbrev pub IsContent : ActionTree → ContentTree → ℕ → ℕ → Look → List Piece → Type 0
IsContent type (Atomic body) action instance look below = (look ≡ Leaf action instance) × (below ≡ [])
IsContent type (Compound activity) action instance look below =
    (fields : List ℤ) × AllZip IsValueOf type.fields fields × (look ≡ Inner (fill.Compound action instance fields))
    × (below ≡ statements (record { instance = instance; fields = fields; indices = [] }) activity.steps)

-- an action of a type, in any instance of its component in the subtree of `top`
pub record IsActionWay (m : ModelTree) (action : ℕ) (top : Option ℕ) (look : Look) (below : List Piece) : Type 0 where
  pub type : ActionTree
  pub is : type_of m action ≡ Some type
  pub instance : ℕ
  pub inside : Contains (action_instances m (Some type) top) instance
  pub content : IsContent type type.content action instance look below

abbrev pub mask : List Bool → ℕ
mask [] = 0
mask (true ∷ bits) = 2 * mask bits + 1
mask (false ∷ bits) = 2 * mask bits

-- The branches that a block waits for, bit k for branch k: those that are named, or any n of all.
abbrev pub IsJoined : Join → ℕ → ℕ → Type 0
IsJoined (Fixed named) branches joined = joined ≡ named
IsJoined (Choose n) branches joined = (bits : List Bool) × (length bits ≡ branches) × (count_by (λ b. b) bits ≡ n) × (joined ≡ mask bits)

-- any branch whose guard is absent or holds
pub record IsSelectWay (c : Context) (branches : List BranchTree) (look : Look) (below : List Piece) : Type 0 where
  pub index : ℕ
  pub branch : BranchTree
  pub is : slice_get branches index ≡ Some branch
  pub holds : holds_in c (guard_of branch) ≡ true
  pub looks : look ≡ Inner (fill.Select index)
  pub stands : below ≡ Statement c (branch_step branch) ∷ []

-- the arm's ranges have the value
abbrev pub Matches : List ArmTree → ℤ → ℕ → ArmTree → Type 0
Matches arms v index arm = (slice_get arms index ≡ Some arm) × Any (IsInSpan v) (spans_of arm)

-- the arm whose ranges have the value, or the default where there is no such arm
abbrev pub IsMatchWay : Context → ℤ → List ArmTree → Option StepTree → Look → List Piece → Type 0
IsMatchWay c v arms other look below =
    ((index : ℕ) × (arm : ArmTree) × Matches arms v index arm × (look ≡ Inner (fill.Match (Some index))) × (below ≡ Statement c (arm_step arm) ∷ []))
    ⊎ (((index : ℕ) (arm : ArmTree) → Matches arms v index arm → ⊥) × ((step : StepTree) × (other ≡ Some step) × (look ≡ Inner (fill.Match None)) × (below ≡ Statement c step ∷ [])))

-- A statement in its context may be filled by such a node, with these pieces below it.
abbrev pub IsStatementWay : ModelTree → Context → StepTree → Look → List Piece → Type 0
IsStatementWay m c (Traverse action handle inline) look below = IsActionWay m action (Some c.instance) look below
IsStatementWay m c (Sequence steps) look below = (look ≡ Inner fill.Sequence) × (below ≡ statements c (steps_of steps))
IsStatementWay m c (Parallel steps) look below = (look ≡ Inner fill.Parallel) × (below ≡ statements c (steps_of steps))
IsStatementWay m c (Schedule steps) look below = (look ≡ Inner fill.Schedule) × (below ≡ statements c (steps_of steps))
IsStatementWay m c (Joined parallel join steps) look below =
    (joined : ℕ) × IsJoined join (length (steps_of steps)) joined × (look ≡ Inner (fill.Joined parallel joined)) × (below ≡ statements c (steps_of steps))
IsStatementWay m c (Select branches) look below = IsSelectWay c (branches_of branches) look below
IsStatementWay m c (Repeat count body) look below =
    (n : ℕ) × (value_in c count ≡ Some (pos n)) × (look ≡ Inner fill.Repeat) × (below ≡ turns c body 0 n)
IsStatementWay m c (If condition holds fails) look below =
    (v : ℤ) × (value_in c condition ≡ Some v) × (look ≡ Inner (fill.If (not (is_false v)))) × (below ≡ if is_false v then optional c (step_of fails) else Statement c holds ∷ [])
IsStatementWay m c (Match matched arms other) look below =
    (v : ℤ) × (value_in c matched ≡ Some v) × IsMatchWay c v (arms_of arms) (step_of other) look below

-- The piece may be filled by such a node, with these pieces below it.
abbrev pub IsWay : ModelTree → Piece → Look → List Piece → Type 0
IsWay m (Action action top) look below = IsActionWay m action top look below
IsWay m (Statement c step) look below = IsStatementWay m c step look below
IsWay m (Turning c index body) look below = (look ≡ Inner (fill.Turn index)) × (below ≡ Statement (in_turn c index) body ∷ [])
