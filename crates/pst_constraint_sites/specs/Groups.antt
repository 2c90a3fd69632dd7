-- The constraints of a scenario by their sites.
use Rattle.std.specs.Prelude.{ℕ, List, [], ◌∷◌, ◌++◌, if◌then◌else◌, Option, Some, None, slice_get, flat_map}
use Rattle.std.specs.List.{enumerate_from}
use Rattle.pst_model.specs.declared.action.Claim.{Claim}
use Rattle.pst_model.specs.ConstraintTree.{ConstraintTree}
use Rattle.pst_model.specs.ActivityTree.{StepTree, Traverse}
use Rattle.pst_model.specs.ModelTree.{ModelTree}
use Rattle.pst_scen.specs.declared.tree.Node.{Node}
use Rattle.pst_scen.specs.declared.tree.Fill.{Fill}
use Rattle.pst_scen.specs.declared.tree.Fill.TheVariants as fill
use Rattle.pst_scen.specs.declared.act.Act.{Act}
use Rattle.pst_scen.specs.declared.act.Filled.{Filled}
use Rattle.pst_scen.specs.declared.scenario.First.{First}
use Rattle.pst_scen.specs.declared.scenario.Scenario.{Scenario}
use Rattle.pst_legal.specs.Types.{type_of, pool_object, is_output}
use Rattle.pst_legal.specs.Blanks.{claims_of}
use Rattle.pst_slots.specs.Stated.{Stated, statement_of}
use Rattle.pst_slots.specs.Listed.{action_constraints, object_constraints}
use Rattle.pst_constraint_sites.specs.Sites.{SiteTree, AtNode, AtTraversal, AtAct, AtOutput, AtClaim, AtFirst}

-- a site, and the constraints that stand there
pub record GroupTree : Type 0 where
  pub site : SiteTree
  pub constraints : List ConstraintTree

-- nothing where no constraint stands at the site
abbrev pub one_group : SiteTree → List ConstraintTree → List GroupTree
one_group site [] = []
one_group site (k ∷ more) = record { site = site; constraints = k ∷ more } ∷ []

abbrev pub fill_groups : ModelTree → ℕ → Fill → List GroupTree
fill_groups m n (fill.Compound action instance fields) = one_group (AtNode n) (action_constraints (type_of m action))
fill_groups m n _ = []

abbrev pub step_groups : ℕ → ℕ → List ℕ → StepTree → List GroupTree
step_groups n top indices (Traverse action handle inline) = one_group (AtTraversal n top indices) inline
step_groups n top indices _ = []

abbrev pub stated_groups : ℕ → Option Stated → List GroupTree
stated_groups n None = []
stated_groups n (Some stated) = step_groups n stated.top stated.indices stated.step

abbrev pub node_groups : ModelTree → List Node → ℕ × Node → List GroupTree
node_groups m nodes e = fill_groups m e.0 e.1.fill ++ stated_groups e.0 (statement_of m nodes e.0)

-- the same where no traversal has a constraint
abbrev pub compound_groups : ModelTree → ℕ × Node → List GroupTree
compound_groups m e = fill_groups m e.0 e.1.fill

abbrev pub output_groups : ModelTree → ℕ → ℕ × Filled → List GroupTree
output_groups m a e = if is_output e.1.flow then one_group (AtOutput a e.0) (object_constraints (pool_object m e.1.pool)) else []

abbrev pub claim_groups : ModelTree → ℕ → ℕ × Claim → List GroupTree
claim_groups m a e = one_group (AtClaim a e.0) (object_constraints (slice_get m.objects e.1.object))

abbrev pub act_groups : ModelTree → ℕ × Act → List GroupTree
act_groups m e =
    one_group (AtAct e.0) (action_constraints (type_of m e.1.action))
    ++ (flat_map (output_groups m e.0) (enumerate_from 0 e.1.references) ++ flat_map (claim_groups m e.0) (enumerate_from 0 (claims_of (type_of m e.1.action))))

abbrev pub first_groups : ModelTree → ℕ → List GroupTree
first_groups m pool = one_group (AtFirst pool) (object_constraints (pool_object m pool))

abbrev pub first_object_groups : ModelTree → First → List GroupTree
first_object_groups m first = first_groups m first.pool

-- by node, then by action, then by first object
abbrev pub groups : ModelTree → Scenario → List GroupTree
groups m s =
    flat_map (node_groups m s.nodes) (enumerate_from 0 s.nodes) ++ (flat_map (act_groups m) (enumerate_from 0 s.actions) ++ flat_map (first_object_groups m) s.firsts)
