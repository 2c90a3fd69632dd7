-- What is left open of a slot, and of which scenarios.
use Rattle.std.specs.Prelude.{◌≡◌, ℕ, Some}
use Rattle.pst_model.specs.ModelTree.{ModelTree, ObjectTree}
use Rattle.pst_scen.specs.declared.act.Filled.{Filled}
use Rattle.pst_scen.specs.declared.scenario.Scenario.{Scenario}
use Rattle.pst_scen.specs.Scenarios.{reference_at, AreLinked}
use Rattle.pst_legal.specs.Types.{pool_object, flow_of, is_output}
use Rattle.pst_legal.specs.Standing.{Standing, Known, Lacking, Open, Unread}
use Rattle.pst_legal.specs.Fits.{FillsRoot}

-- a value, or nothing that ever has one
abbrev pub IsDecided : Standing → Type 0
IsDecided (Known v) = Unit {0}
IsDecided Lacking = Unit {0}
IsDecided (Open blank span) = ⊥
IsDecided (Unread span) = ⊥

-- that, or an open value whose place is known
abbrev pub IsPlaced : Standing → Type 0
IsPlaced (Known v) = Unit {0}
IsPlaced Lacking = Unit {0}
IsPlaced (Open blank span) = Unit {0}
IsPlaced (Unread span) = ⊥

-- A scenario of which the activity and the sources are read, and perhaps more: it fills the root, its references are linked,
-- and each is of the kind of its pool's objects.
pub record IsReadThrough (m : ModelTree) (root : ℕ) (s : Scenario) : Type 0 where
  pub tree : FillsRoot m root s
  pub links : AreLinked s.actions
  pub kinds : (a r : ℕ) (filled : Filled) (object : ObjectTree) → reference_at s.actions a r ≡ Some filled → pool_object m filled.pool ≡ Some object → flow_of object.kind (is_output filled.flow) ≡ Some filled.flow
