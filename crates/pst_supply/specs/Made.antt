-- The invariant of a walk.
use Rattle.std.specs.Prelude.{◌≡◌, ◌⊎◌, ℕ, ◌+◌, List, [], ◌∷◌, ◌++◌, length, map, reverse, None}
use Rattle.pst_model.specs.ModelTree.{ModelTree}
use Rattle.pst_model.specs.ModelView.{view_model}
use Rattle.pst_scen.specs.declared.act.Act.{Act}
use Rattle.pst_scen.specs.declared.tree.Node.{Node}
use Rattle.pst_scen.specs.Scenarios.{leaves_of}
use Rattle.pst_legal.specs.Binds.{bounds_of}
use Rattle.pst_legal.specs.SupplyReading.{read_supply}
use Rattle.pst_pool_sources.specs.Offers.{AreSources}
use Rattle.pst_pool_sources.specs.declared.sources.PoolSources.{PoolSources}
use Rattle.pst_open_ends.specs.declared.beyond.NewSources.{NewSources}
use Rattle.pst_open_ends.specs.Beyond.{AreNew}
use Rattle.pst_open_ends.specs.Changes.{opened, ends_undone, undone}
use Rattle.pst_open_ends.specs.Turns.{AreNexts}
use Rattle.pst_free_ends.specs.Steps.{NoneAhead, Follows, HasRoom}
use Rattle.pst_supply.specs.declared.walk.Made.{Made}
use Rattle.pst_supply.specs.declared.walk.Stop.{Stop}
use Rattle.pst_supply.specs.declared.walk.SupplyWalk.TheInside.{Inside}
use Rattle.pst_supply.specs.Walks.{Kept, scenario_with, scenario_at}
use Rattle.pst_supply.specs.Stops.{IsStop}
use Rattle.pst_supply.specs.Choices.{digits_of}

-- what a walk begins from
pub record Ground : Type 0 where
  pub model : ModelTree
  pub nodes : List Node
  pub leaves : List Act
  pub seed : ℕ
  pub place : ℕ
  pub level : ℕ

-- after these choices the reading goes on with these actions
pub record Stands (g : Ground) (choices : List ℕ) (acts : List Act) : Type 0 where
  pub reads : (left : List ℕ) → read_supply g.model g.seed (scenario_at g.model g.level g.nodes g.leaves) g.place (choices ++ left) ≡ read_supply g.model g.seed (scenario_with g.level g.nodes acts) (g.place + length choices) left

-- with these actions it stands there
abbrev pub StopsAt : Ground → List Act → Stop → Type 0
StopsAt g acts stop = IsStop g.model (bounds_of g.model g.nodes) acts (length (leaves_of g.nodes)) g.level stop

-- the walk stood so after each of its choices, latest first
abbrev pub AllStand : Ground → Stop → List Made → List Act → Type 0
AllStand g first [] acts = (acts ≡ map (opened g.model) g.leaves) × StopsAt g acts first
AllStand g first (made ∷ older) acts = Stands g (digits_of (made ∷ older)) acts × StopsAt g acts made.stop × AllStand g first older (undone made.change acts)

-- what each of the choices took can be given back, and there is memory for it
abbrev pub CanLeave : PoolSources → List Made → List Act → Type 0
CanLeave among [] acts = Unit {0}
CanLeave among (made ∷ older) acts = Follows made.taken made.change acts × HasRoom among (ends_undone made.change.ends acts) × CanLeave among older (undone made.change acts)

-- the references of new actions are found, or no reference wants a source, and nothing is made
abbrev pub AreKnown : NewSources → Stop → List Made → Type 0
AreKnown beyond first made = ((first.need ≡ None) × (made ≡ [])) ⊎ AreNew beyond

abbrev pub ground_of : Inside → Ground
ground_of w = record { model = view_model w.beyond.model.now; nodes = w.nodes.items; leaves = w.leaves.items; seed = w.seed; place = w.place; level = w.beyond.level }

-- the walk with these choices, latest first
abbrev pub kept_with : Inside → List Made → Kept
kept_with w made = record { model = w.beyond.model.now; nodes = w.nodes.items; leaves = w.leaves.items; seed = w.seed; place = w.place; level = w.beyond.level; choices = digits_of made }

abbrev pub kept_by : Inside → Kept
kept_by w = kept_with w (reverse w.made.items)

pub record IsKept (w : Inside) : Type 0 where
  pub count : w.count ≡ length (leaves_of w.nodes.items)
  pub beyond : AreKnown w.beyond w.first w.made.items
  pub ties : w.ties ≡ bounds_of (view_model w.beyond.model.now) w.nodes.items
  pub nexts : AreNexts w.nexts.items (map (opened (view_model w.beyond.model.now)) w.leaves.items)
  pub among : AreSources w.among w.acts.items
  pub ahead : NoneAhead w.acts.items
  pub leave : CanLeave w.among (reverse w.made.items) w.acts.items
  pub stands : AllStand (ground_of w) w.first (reverse w.made.items) w.acts.items
