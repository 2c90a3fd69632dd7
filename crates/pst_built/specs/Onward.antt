-- A scenario that goes on from another: what was read stays, and more is known.
use Rattle.std.specs.Prelude.{◌≡◌, ◌⊎◌, ℕ, ℤ, List, Option, Some, None, slice_get}
use Rattle.pst_scen.specs.declared.tree.Node.{Node}
use Rattle.pst_scen.specs.declared.tree.Fill.{Fill}
use Rattle.pst_scen.specs.declared.tree.Fill.TheVariants as fill
use Rattle.pst_scen.specs.declared.act.Act.{Act}
use Rattle.pst_scen.specs.declared.act.Filled.{Filled}
use Rattle.pst_scen.specs.declared.act.Claimed.{Claimed}
use Rattle.pst_scen.specs.declared.act.Link.TheVariants as link
use Rattle.pst_scen.specs.declared.scenario.Scenario.{Scenario}
use Rattle.pst_legal.specs.Statements.{IsBranch}
use Rattle.pst_legal.specs.Slots.{first_values}

-- the values that were there stay
abbrev pub Keeps : List ℤ → List ℤ → Type 0
Keeps xs ys = (k : ℕ) (v : ℤ) → slice_get xs k ≡ Some v → slice_get ys k ≡ Some v

-- the elements that there were are there, each gone on
abbrev pub Each : {A : Type 0} → (A → A → Type 0) → List A → List A → Type 0
Each G xs ys = (k : ℕ) (x : _) → slice_get xs k ≡ Some x → (y : _) × (slice_get ys k ≡ Some y) × G x y

-- the same elements, each gone on
abbrev pub Both : {A : Type 0} → (A → A → Type 0) → Option A → Option A → Type 0
Both G None None = Unit {0}
Both G None (Some y) = ⊥
Both G (Some x) None = ⊥
Both G (Some x) (Some y) = G x y

abbrev pub Row : {A : Type 0} → (A → A → Type 0) → List A → List A → Type 0
Row G xs ys = (k : ℕ) → Both G (slice_get xs k) (slice_get ys k)

-- a link that was read stays
pub record MoreFilled (f g : Filled) : Type 0 where
  pub pool : g.pool ≡ f.pool
  pub flow : g.flow ≡ f.flow
  pub values : Keeps f.values g.values
  pub link : (f.link ≡ link.Nothing) ⊎ (g.link ≡ f.link)

pub record MoreClaimed (c d : Claimed) : Type 0 where
  pub instance : d.instance ≡ c.instance
  pub values : Keeps c.values d.values

pub record MoreAct (x y : Act) : Type 0 where
  pub action : y.action ≡ x.action
  pub instance : y.instance ≡ x.instance
  pub fields : Keeps x.fields y.fields
  pub references : Row MoreFilled x.references y.references
  pub claims : Each MoreClaimed x.claims y.claims

-- a compound action with further values
pub record MoreValues (f g : Fill) : Type 0 where
  pub action : ℕ
  pub instance : ℕ
  pub old : List ℤ
  pub new : List ℤ
  pub was : f ≡ fill.Compound action instance old
  pub is : g ≡ fill.Compound action instance new
  pub keeps : Keeps old new

pub record MoreNode (x y : Node) : Type 0 where
  pub parent : y.parent ≡ x.parent
  pub fill : (y.fill ≡ x.fill) ⊎ MoreValues x.fill y.fill

pub record Onward (s t : Scenario) : Type 0 where
  pub nodes : Each MoreNode s.nodes t.nodes
  pub branches : (top index n : ℕ) → IsBranch s.nodes top index n → IsBranch t.nodes top index n
  pub acts : Each MoreAct s.actions t.actions
  pub firsts : (pool : ℕ) → Keeps (first_values s.firsts pool) (first_values t.firsts pool)
