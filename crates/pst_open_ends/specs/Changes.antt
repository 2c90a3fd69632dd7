-- What a source makes of the actions, and how that is taken back.
use Rattle.std.specs.Prelude.{◌≡◌, ◌≤◌, ℕ, ◌+◌, List, [], ◌∷◌, ◌++◌, length, take, flat_map, nat_lt, ◌&&◌, Bool, true, false, if◌then◌else◌, Option, Some, None}
use Rattle.std.specs.List.{enumerate_from}
use Rattle.pst_model.specs.ModelTree.{ModelTree}
use Rattle.pst_scen.specs.declared.tree.Node.{Node}
use Rattle.pst_scen.specs.Scenarios.{leaf_of}
use Rattle.pst_scen.specs.declared.act.Act.{Act}
use Rattle.pst_scen.specs.declared.act.Link.TheVariants as link
use Rattle.pst_scen.specs.declared.tree.Fill.{Fill}
use Rattle.pst_scen.specs.declared.tree.Fill.TheVariants as fill
use Rattle.pst_legal.specs.Growing.{open_act}
use Rattle.pst_legal.specs.Binds.{Bound}
use Rattle.pst_legal.specs.SupplyReading.{Spot, Source, Initially, From, New, is_stream, put_link, linked_to}
use Rattle.pst_open_ends.specs.declared.links.Relinked.{Relinked}
use Rattle.pst_open_ends.specs.declared.links.Ends.{Ends}
use Rattle.pst_open_ends.specs.declared.links.Change.{Change}
use Rattle.pst_open_ends.specs.Turns.{AreDone}

-- an action of the type, in the instance and of the node of this one, of which nothing else is known
abbrev pub opened : ModelTree → Act → Act
opened m act = open_act m act.action act.instance act.node

abbrev pub is_leaf : Fill → Bool
is_leaf (fill.Leaf act) = true
is_leaf (fill.Compound action instance fields) = false
is_leaf fill.Sequence = false
is_leaf fill.Parallel = false
is_leaf fill.Schedule = false
is_leaf (fill.Joined parallel joined) = false
is_leaf (fill.Select branch) = false
is_leaf fill.Repeat = false
is_leaf (fill.Turn index) = false
is_leaf (fill.If taken) = false
is_leaf (fill.Match arm) = false

-- the leaves among the nodes that are numbered from there on
abbrev pub leaves_from : ℕ → List Node → List (ℕ × ℕ)
leaves_from number nodes = flat_map (λ e. leaf_of e.0 e.1.fill) (enumerate_from number nodes)

-- ---- links

-- the reference has its former link
abbrev pub unlinked : Relinked → List Act → List Act
unlinked end acts = put_link end.act end.reference end.was acts

abbrev pub Unlinks : Relinked → List Act → List Act → Type 0
Unlinks end new old = old ≡ unlinked end new

abbrev pub far_unlinked : Option Relinked → List Act → List Act
far_unlinked None acts = acts
far_unlinked (Some end) acts = unlinked end acts

-- both ends have their former links
abbrev pub ends_undone : Ends → List Act → List Act
ends_undone ends acts = unlinked ends.need (far_unlinked ends.far acts)

-- the actions before the change
abbrev pub undone : Change → List Act → List Act
undone change acts = take change.count (ends_undone change.ends acts)

-- ---- sources

-- what a source of a need makes of the actions
abbrev pub supplied_acts : ModelTree → List Act → Spot → Source → List Act
supplied_acts m acts need Initially = put_link need.act need.reference link.Initial acts
supplied_acts m acts need (From b q) = linked_to need b q acts
supplied_acts m acts need (New action instance q) = linked_to need (length acts) q (acts ++ open_act m action instance None ∷ [])

-- the new actions of a source
abbrev pub made_by : ModelTree → Source → List Act
made_by m Initially = []
made_by m (From b q) = []
made_by m (New action instance q) = open_act m action instance None ∷ []

-- where no action before that of the need had a turn, none below that number has one
abbrev pub StaysDone : ℕ → ℕ → List Act → List Act → Type 0
StaysDone act lowest old new = (bounds : List Bound) → AreDone bounds old act → AreDone bounds new lowest

-- the lower of the actions at both ends of a stream, and else that of the need
abbrev pub lowest_of : Spot → ℕ → ℕ
lowest_of need b = if is_stream need.filled.flow && nat_lt b need.act then b else need.act

-- a need is linked to a reference, and these links were changed
pub record Joins (need : Spot) (b q : ℕ) (ends : Ends) (old new : List Act) : Type 0 where
  pub linked : new ≡ linked_to need b q old
  pub back : old ≡ ends_undone ends new

-- what the change of some actions by a source is
pub record Supplies (m : ModelTree) (need : Spot) (source : Source) (change : Change) (old new : List Act) : Type 0 where
  pub supplied : new ≡ supplied_acts m old need source
  pub back : old ≡ undone change new
  pub count : change.count ≡ length old
  pub before : ends_undone change.ends new ≡ old ++ made_by m source
  pub done : StaysDone need.act change.lowest old new
  pub few : length new ≤ change.count + 1
