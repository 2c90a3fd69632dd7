-- A scenario that goes on from another, as its order sees it: nodes, actions, links and claims stay, and further ones come.
use Rattle.std.specs.Prelude.{◌≡◌, ◌⊎◌, ℕ, List, [], Some, slice_get}
use Rattle.pst_scen.specs.declared.tree.Node.{Node}
use Rattle.pst_scen.specs.declared.tree.Fill.{Fill}
use Rattle.pst_scen.specs.declared.tree.Fill.TheVariants as fill
use Rattle.pst_scen.specs.declared.act.Act.{Act}
use Rattle.pst_scen.specs.declared.act.Filled.{Filled}
use Rattle.pst_scen.specs.declared.act.Claimed.{Claimed}
use Rattle.pst_scen.specs.declared.act.Link.TheVariants as link
use Rattle.pst_scen.specs.declared.scenario.Scenario.{Scenario}

-- a node without values
abbrev pub bare_fill : Fill → Fill
bare_fill (fill.Compound action instance fields) = fill.Compound action instance []
bare_fill other = other

pub record SameNode (x y : Node) : Type 0 where
  pub parent : y.parent ≡ x.parent
  pub fill : bare_fill y.fill ≡ bare_fill x.fill

-- a reference whose link stays, if it has one
pub record MoreLinked (f g : Filled) : Type 0 where
  pub pool : g.pool ≡ f.pool
  pub flow : g.flow ≡ f.flow
  pub link : (f.link ≡ link.Nothing) ⊎ (g.link ≡ f.link)

pub record SameClaim (c d : Claimed) : Type 0 where
  pub pool : d.pool ≡ c.pool
  pub lock : d.lock ≡ c.lock
  pub instance : d.instance ≡ c.instance

-- each element of the first list is in the second one, at its place
abbrev pub Each : {A : Type 0} → (A → A → Type 0) → List A → List A → Type 0
Each {A} R xs ys = (k : ℕ) (x : A) → slice_get xs k ≡ Some x → (y : A) × (slice_get ys k ≡ Some y) × R x y

pub record MoreAct (x y : Act) : Type 0 where
  pub references : Each MoreLinked x.references y.references
  pub claims : Each SameClaim x.claims y.claims

pub record GoesOn (s t : Scenario) : Type 0 where
  pub nodes : Each SameNode s.nodes t.nodes
  pub acts : Each MoreAct s.actions t.actions
