-- Pairs of blanks that must have different numbers.
use Rattle.std.specs.Prelude.{◌≡◌, ◌≢◌, ◌<◌, ℕ, List, length, get_or, Some, slice_get}
use Rattle.pst_expr.specs.declared.tree.BinaryOp.TheVariants.{NotEqual}
use Rattle.pst_expr.specs.Tree.{Expression, Variable, Binary}
use Rattle.pst_narrow.specs.Solutions.{AreMet}
use Rattle.pst_narrow.specs.Narrowing.{HaveVariablesBelow}
use Rattle.pst_model.specs.ModelTree.{ModelTree}
use Rattle.pst_scen.specs.declared.scenario.Scenario.{Scenario}
use Rattle.pst_scen.specs.Refusals.{IsUnrefused}
use Rattle.pst_legal.specs.Blanks.{Instance}
use Rattle.pst_legal.specs.ValueReading.{with_firsts}
use Rattle.pst_few_places.specs.Fillings.{all_blanks, AreOptions, filled}
use Rattle.pst_blank_values.specs.Values.{blank_values}
use Rattle.pst_claim_rivals.specs.declared.claims.OpenClaim.{OpenClaim}
use Rattle.pst_rival_blanks.specs.declared.pairs.Rival.{Rival}
use Rattle.pst_claim_rivals.specs.Rivals.{AreRivals}

-- the claims of these numbers are rivals
pub record IsPairOf (s : Scenario) (claims : List OpenClaim) (r : Rival) : Type 0 where
  pub order : r.earlier < r.later
  pub first : OpenClaim
  pub second : OpenClaim
  pub is_first : slice_get claims r.earlier ≡ Some first
  pub is_second : slice_get claims r.later ≡ Some second
  pub rivals : AreRivals s first second

-- the blank of that number is for the instance of a claim
pub record IsInstance (m : ModelTree) (u : Scenario) (i : ℕ) : Type 0 where
  pub act : ℕ
  pub claim : ℕ
  pub is : slice_get (all_blanks m u) i ≡ Some (Instance act claim)

-- Two blanks for instances, which have different options wherever a plan doesn't refuse the scenario with options in its blanks.
pub record MustDiffer (m : ModelTree) (u : Scenario) (r : Rival) : Type 0 where
  pub order : r.earlier < r.later
  pub first : IsInstance m u r.earlier
  pub second : IsInstance m u r.later
  pub differ : (chosen : List ℕ) → AreOptions m u.actions (all_blanks m u) chosen → IsUnrefused (filled m (all_blanks m u) chosen (with_firsts m u)) → get_or chosen r.earlier 0 ≢ get_or chosen r.later 0

-- that the two values aren't equal
abbrev pub differing : Rival → Expression
differing r = Binary NotEqual (Variable r.earlier) (Variable r.later)

-- constraints over the blanks that hold wherever a plan doesn't refuse the scenario
pub record AreMetWherePlanned (m : ModelTree) (u : Scenario) (es : List Expression) : Type 0 where
  pub variables : HaveVariablesBelow (length (all_blanks m u)) es
  pub met : (chosen : List ℕ) → AreOptions m u.actions (all_blanks m u) chosen → IsUnrefused (filled m (all_blanks m u) chosen (with_firsts m u)) → AreMet es (blank_values m u.actions (all_blanks m u) chosen)
