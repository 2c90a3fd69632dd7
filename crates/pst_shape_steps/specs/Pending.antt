-- What is still to be read, as pieces and places.
use Rattle.std.specs.Prelude.{◌≡◌, ℕ, zero, suc, ◌+◌, ◌*◌, ◌-◌, ◌<◌, ℤ, pos, List, [], ◌∷◌, ◌++◌, drop, map, length, Bool, Option, Some, None, slice_get}
use Rattle.pst_rng.specs.Words.{start_of}
use Rattle.pst_rng.specs.Weights.{weighted_start_of}
use Rattle.pst_expr.specs.Spans.{size_of}
use Rattle.pst_model.specs.declared.action.Field.{Field}
use Rattle.pst_model.specs.ModelTree.{ModelTree}
use Rattle.pst_model.specs.ModelView.{view_step, view_action}
use Rattle.pst_scen.specs.declared.tree.Node.{Node}
use Rattle.pst_scen.specs.declared.tree.Fill.TheVariants as fill
use Rattle.pst_scen.specs.declared.scenario.Scenario.{Scenario}
use Rattle.pst_legal.specs.Pieces.{Context, Piece, statements, turns, mask}
use Rattle.pst_legal.specs.Growing.{Look}
use Rattle.pst_legal.specs.Menus.{Menu, Way, Place, Weighted, Closed, plain, type_menu, branch_menu, join_menu}
use Rattle.pst_legal.specs.Reading.{Stops, Reads, Reader, then_read, read_fields, read_menu, read_pieces, read_way, read_piece, value_number}
use Rattle.pst_legal.specs.ValueReading.{Answer, Options, Dead as Dead_answer, Whole as Whole_answer}
use Rattle.pst_shape_steps.specs.declared.pending.Parts.{Parts}
use Rattle.pst_shape_steps.specs.declared.pending.Parts.TheVariants as parts
use Rattle.pst_shape_steps.specs.declared.pending.Stack.{Stack, Empty, Over'}
use Rattle.pst_shape_steps.specs.declared.pending.Chosen.{Chosen}
use Rattle.pst_shape_steps.specs.declared.pending.Spot.{Spot}
use Rattle.pst_shape_steps.specs.declared.pending.Spot.TheVariants as spot
use Rattle.pst_shape_steps.specs.declared.pending.Fields.{Fields}
use Rattle.pst_shape_steps.specs.declared.pending.At.{At}
use Rattle.pst_shape_steps.specs.declared.pending.At.TheVariants as at
use Rattle.pst_shape_parts.specs.Contexts.{context_of, view_numbered}
use Rattle.pst_shape_parts.specs.Trees.{Tree, scenario_of, Extends, put, values_at}

abbrev pub pieces_of : Context → Parts → List Piece
pieces_of c (parts.Steps steps) = statements c (map view_step steps.now)
pieces_of c (parts.Turns t) = turns c (view_step t.body.now) t.index t.count

-- what follows a way: its node and what stands below it, where there is a level for the node
abbrev pub way_at : ModelTree → ℕ → ℕ → Option ℕ → Look → List Field → (List ℤ → List Piece) → Reader
way_at m seed zero parent = λ look fields below s place left. Stops
way_at m seed (suc levels) parent = read_way m seed (read_piece m seed levels) parent

abbrev pub read_stack : ModelTree → ℕ → Stack → Reader
read_stack m seed Empty s place left = Reads s place left
read_stack m seed (Over' levels parent frame parts pointer below) s place left =
    then_read (read_pieces (read_piece m seed levels) (pieces_of (context_of frame.value) parts) parent s place left) (read_stack m seed below)

abbrev pub chosen_menu : Chosen → Menu
chosen_menu c = join_menu (λ joined. plain (fill.Joined c.parallel (mask joined)) (statements (context_of c.frame.value) (map view_step c.steps.now))) c.more c.left c.joined.items

-- the same with one more branch looked at
abbrev pub looked_menu : Chosen → Bool → ℕ → Menu
looked_menu c joined more = join_menu (λ joined. plain (fill.Joined c.parallel (mask joined)) (statements (context_of c.frame.value) (map view_step c.steps.now))) more (c.left - 1) (c.joined.items ++ joined ∷ [])

abbrev pub spot_menu : Spot → Menu
spot_menu (spot.Instance action kind options) = type_menu (view_action kind.now) action options.items
spot_menu (spot.Branch frame found) = Weighted found.weights.items (λ k. branch_menu (context_of frame.value) (slice_get (map view_numbered found.branches.items) k))
spot_menu (spot.Join chosen) = chosen_menu chosen

-- what stands below a compound action
abbrev pub below_fields : Fields → List ℤ → List Piece
below_fields f values = statements (record { instance = f.instance; fields = values; indices = [] }) (map view_step f.steps.now)

-- the reading that goes on from there
abbrev pub read_on : ModelTree → ℕ → At → Reader
read_on m seed (at.Going stack) s place left = read_stack m seed stack.value s place left
read_on m seed (at.Place spot levels parent below) s place left =
    then_read (read_menu seed (spot_menu spot) (way_at m seed levels parent) s place left) (read_stack m seed below.value)
read_on m seed (at.Value f levels below) s place left =
    then_read (read_fields seed f.node f.fields.now (values_at (slice_get s.nodes f.node)) (λ values. read_pieces (read_piece m seed levels) (below_fields f values) f.node) s place left) (read_stack m seed below.value)
read_on m seed at.Whole s place left = Reads s place left
read_on m seed at.Dead s place left = Stops

-- ---- places

abbrev pub options_of : Menu → ℕ
options_of (Way look fields below) = 0
options_of (Place n after) = n
options_of (Weighted weights after) = length weights
options_of Closed = 0

abbrev pub start_in : ℕ → ℕ → Menu → ℕ
start_in seed place (Way look fields below) = 0
start_in seed place (Place n after) = start_of seed place n
start_in seed place (Weighted weights after) = weighted_start_of seed place weights
start_in seed place Closed = 0

-- what comes after an option
abbrev pub menu_after : Menu → ℕ → Menu
menu_after (Way look fields below) k = Way look fields below
menu_after (Place n after) k = after k
menu_after (Weighted weights after) k = after k
menu_after Closed k = Closed

abbrev pub first_size : List Field → ℕ
first_size [] = 0
first_size (field ∷ fields) = size_of field.domain

-- a compound action stands there
abbrev pub IsCompound : Option Node → Type 0
IsCompound None = ⊥
IsCompound (Some node) = (action : ℕ) × (instance : ℕ) × (fields : List ℤ) × (node.fill ≡ fill.Compound action instance fields)

abbrev pub IsSpot : Spot → Type 0
IsSpot (spot.Instance action kind options) = Unit {0}
IsSpot (spot.Branch frame found) = Unit {0}
IsSpot (spot.Join chosen) = 0 < chosen.left

-- some branch is left where one is looked at; a field is left, and a compound action stands, where values are read
abbrev pub IsOpen : At → Tree → Type 0
IsOpen (at.Going stack) t = Unit {0}
IsOpen (at.Place spot levels parent below) t = IsSpot spot
IsOpen (at.Value f levels below) t = (0 < length f.fields.now) × IsCompound (slice_get t.nodes f.node)
IsOpen at.Whole t = Unit {0}
IsOpen at.Dead t = Unit {0}

-- some branch is left where one is looked at, and a field where values are read
abbrev pub IsPlaced : At → Type 0
IsPlaced (at.Going stack) = Unit {0}
IsPlaced (at.Place spot levels parent below) = IsSpot spot
IsPlaced (at.Value f levels below) = 0 < length f.fields.now
IsPlaced at.Whole = Unit {0}
IsPlaced at.Dead = Unit {0}

-- it stands at a place without an option
abbrev pub IsClosed : At → Type 0
IsClosed (at.Going stack) = ⊥
IsClosed (at.Place spot levels parent below) = options_of (spot_menu spot) ≡ 0
IsClosed (at.Value f levels below) = first_size f.fields.now ≡ 0
IsClosed at.Whole = ⊥
IsClosed at.Dead = ⊥

-- it stands at a place with options, or at an end
abbrev pub IsReady : At → Type 0
IsReady (at.Going stack) = ⊥
IsReady (at.Place spot levels parent below) = 0 < options_of (spot_menu spot)
IsReady (at.Value f levels below) = 0 < first_size f.fields.now
IsReady at.Whole = Unit {0}
IsReady at.Dead = Unit {0}

abbrev pub IsGoing : At → Type 0
IsGoing (at.Going stack) = Unit {0}
IsGoing other = ⊥

-- the options where it stands
abbrev pub options_at : At → ℕ
options_at (at.Going stack) = 0
options_at (at.Place spot levels parent below) = options_of (spot_menu spot)
options_at (at.Value f levels below) = first_size f.fields.now
options_at at.Whole = 0
options_at at.Dead = 0

-- it stands at a place with that digit
abbrev pub IsDigit : At → ℕ → Type 0
IsDigit (at.Going stack) digit = ⊥
IsDigit (at.Place spot levels parent below) digit = digit < options_of (spot_menu spot)
IsDigit (at.Value f levels below) digit = digit < first_size f.fields.now
IsDigit at.Whole digit = ⊥
IsDigit at.Dead digit = ⊥

-- the answer to a list after which reading stands there
abbrev pub shown_at : At → Scenario → Answer
shown_at (at.Going stack) s = Dead_answer
shown_at (at.Place spot levels parent below) s = Options s (options_of (spot_menu spot))
shown_at (at.Value f levels below) s = Options s (first_size f.fields.now)
shown_at at.Whole s = Whole_answer s
shown_at at.Dead s = Dead_answer

-- ---- how many steps it may go on

abbrev pub height : Stack → ℕ
height Empty = 0
height (Over' levels parent frame parts pointer below) = height below + 1

abbrev pub weight : At → ℕ → ℕ
weight (at.Going stack) nodes = 3 * (65536 - nodes) + height stack.value + 1
weight (at.Place spot levels parent below) nodes = 0
weight (at.Value f levels below) nodes = 0
weight at.Whole nodes = 0
weight at.Dead nodes = 0

abbrev pub Falls : Tree → Stack → At → Tree → Type 0
Falls old below at new = weight at (length new.nodes) < 3 * (65536 - length old.nodes) + height below + 1

-- ---- one step

-- what a menu reads, and then what is below, is read from there
abbrev pub Goes : ModelTree → Menu → ℕ → Option ℕ → Stack → Tree → At → Tree → Type 0
Goes m menu levels parent below old at new =
    (seed level place : ℕ) (left : List ℕ) → then_read (read_menu seed menu (way_at m seed levels parent) (scenario_of m level old) place left) (read_stack m seed below) ≡ read_on m seed at (scenario_of m level new) place left

-- what some pieces read, and then what is below, is read from there
abbrev pub GoesOn : ModelTree → ℕ → ℕ → List Piece → Stack → Tree → At → Tree → Type 0
GoesOn m levels parent pieces below old at new =
    (seed level place : ℕ) (left : List ℕ) → then_read (read_pieces (read_piece m seed levels) pieces parent (scenario_of m level old) place left) (read_stack m seed below) ≡ read_on m seed at (scenario_of m level new) place left

-- what the values of a compound action's fields read, where these are known, and then what is below, is read from there
abbrev pub GoesOnFields : ModelTree → ℕ → Fields → List Field → List ℤ → Stack → At → Scenario → Type 0
GoesOnFields m levels f fields known below at s =
    (seed place : ℕ) (left : List ℕ) → then_read (read_fields seed f.node fields known (λ values. read_pieces (read_piece m seed levels) (below_fields f values) f.node) s place left) (read_stack m seed below) ≡ read_on m seed at s place left

-- the value of that number of the first of some fields
abbrev pub first_value : List Field → ℕ → ℤ
first_value [] k = pos 0
first_value (field ∷ fields) k = value_number field k

-- what is read from one standing is read from another
abbrev pub SameReading : ModelTree → At → Tree → At → Tree → Type 0
SameReading m from old to new =
    (seed level place : ℕ) (left : List ℕ) → read_on m seed from (scenario_of m level old) place left ≡ read_on m seed to (scenario_of m level new) place left

-- what the fields behind the first read, where that has the value of that number, is read from there
abbrev pub ValueRead : ModelTree → ℕ → Fields → ℕ → Stack → Tree → At → Tree → Type 0
ValueRead m levels f option below old at new =
    (seed level place : ℕ) (left : List ℕ) → then_read (read_fields seed f.node (drop 1 f.fields.now) (values_at (slice_get old.nodes f.node) ++ first_value f.fields.now option ∷ []) (λ values. read_pieces (read_piece m seed levels) (below_fields f values) f.node) (scenario_of m level (put old f.node (first_value f.fields.now option))) place left) (read_stack m seed below) ≡ read_on m seed at (scenario_of m level new) place left

-- a digit at a place leads there
abbrev pub Takes : ModelTree → ℕ → ℕ → ℕ → At → Tree → At → Tree → Type 0
Takes m seed place digit from old to new =
    (level : ℕ) (left : List ℕ) → read_on m seed from (scenario_of m level old) place (digit ∷ left) ≡ read_on m seed to (scenario_of m level new) (place + 1) left

-- the node to whose values a choice there adds one
abbrev pub valued : At → Option ℕ
valued (at.Value f levels below) = Some f.node
valued other = None

-- a choice there makes this tree of that one: more nodes and leaves, or a value and more nodes and leaves
abbrev pub Grows : Option ℕ → Tree → Tree → Type 0
Grows None old new = Extends old new
Grows (Some node) old new = (v : ℤ) × Extends (put old node v) new
