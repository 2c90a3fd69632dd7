-- What a scenario that is read whole keeps of its sources.
use Rattle.std.specs.Prelude.{◌≡◌, ℕ, None, Some, slice_get}
use Rattle.pst_model.specs.ModelTree.{ModelTree}
use Rattle.pst_scen.specs.declared.act.Act.{Act}
use Rattle.pst_scen.specs.declared.act.Filled.{Filled}
use Rattle.pst_scen.specs.declared.act.Link.TheVariants as link
use Rattle.pst_scen.specs.declared.scenario.Scenario.{Scenario}
use Rattle.pst_scen.specs.Scenarios.{reference_at}
use Rattle.pst_legal.specs.Binds.{bounds_of, fixed_source}
use Rattle.pst_legal.specs.Supplied.{IsSource, ArePreviousOnce, IsInferable}

-- Each link leads to a source, no two outputs to a pool have one previous writer, binds are kept, and inferred actions may be
-- inferred. (Of a supplied scenario this leaves out that previous writers lead back to the first object, which a list of
-- choices needn't keep, and in which order inferred actions are numbered.)
pub record HasSources (m : ModelTree) (s : Scenario) : Type 0 where
  pub sources : (a r b q : ℕ) (filled : Filled) → reference_at s.actions a r ≡ Some filled → filled.link ≡ link.Act b q → IsSource s.actions a filled b q
  pub previous : ArePreviousOnce s.actions
  pub bound : (a r b q : ℕ) (filled : Filled) → reference_at s.actions a r ≡ Some filled → fixed_source (bounds_of m s.nodes) a r filled.flow ≡ Some (b, q) → filled.link ≡ link.Act b q
  pub inferred : (a : ℕ) (act : Act) → slice_get s.actions a ≡ Some act → act.node ≡ None → IsInferable m act
