-- Blanks that are filled and cleared.
use Rattle.std.specs.Prelude.{ℕ, ◌-◌, ℤ, List, [], length, take, map, Bool, nat_eq, if◌then◌else◌, Option, Some, None}
use Rattle.std.specs.Option.{unwrap_or}
use Rattle.pst_model.specs.ModelTree.{ModelTree}
use Rattle.pst_scen.specs.declared.act.Act.{Act}
use Rattle.pst_scen.specs.declared.act.Filled.{Filled}
use Rattle.pst_scen.specs.declared.act.Claimed.{Claimed}
use Rattle.pst_scen.specs.declared.scenario.First.{First}
use Rattle.pst_scen.specs.declared.scenario.Scenario.{Scenario}
use Rattle.pst_legal.specs.Types.{action_claim}
use Rattle.pst_legal.specs.Blanks.{Blank, Instance, OfFirst, OfAct, OfOutput, OfClaim}
use Rattle.pst_legal.specs.SupplyReading.{alter}
use Rattle.pst_legal.specs.ValueReading.{more_values, is_lock, act_with_value, with_output_value, with_claim_value}

abbrev pub but_last : {A : Type 0} → List A → List A
but_last xs = take (length xs - 1) xs

abbrev pub lock_of : ModelTree → ℕ → ℕ → Bool
lock_of m action claim = is_lock (action_claim m action claim)

-- a claim, looked up in that pool, of that instance
abbrev pub claimed_in : ModelTree → ℕ → ℕ → Option ℕ → ℕ → Claimed
claimed_in m action claim pool instance = record { pool = unwrap_or pool 0; lock = lock_of m action claim; instance = instance; values = [] }

-- ---- one value more

-- an action in which a value stands in a blank of it
abbrev pub act_filled : Blank → ℤ → Act → Act
act_filled (OfAct act field) v x = act_with_value v x
act_filled (OfOutput act reference field) v x = with_output_value reference v x
act_filled (OfClaim act claim field) v x = with_claim_value claim v x
act_filled (Instance act claim) v x = x
act_filled (OfFirst pool field) v x = x

abbrev pub first_more : ℤ → First → First
first_more v first = record first { values = more_values v first.values }

-- the element of that number is changed, if there is a number
abbrev pub altered_at : {A : Type 0} → (A → A) → Option ℕ → List A → List A
altered_at f None xs = xs
altered_at f (Some n) xs = alter f n xs

-- ---- one less

abbrev pub filled_without_value : Filled → Filled
filled_without_value filled = record filled { values = but_last filled.values }

abbrev pub claimed_without_value : Claimed → Claimed
claimed_without_value claimed = record claimed { values = but_last claimed.values }

-- an action from which what stands in a blank of it is taken, the last of its list
abbrev pub act_cleared : Blank → Act → Act
act_cleared (Instance act claim) x = record x { claims = but_last x.claims }
act_cleared (OfAct act field) x = record x { fields = but_last x.fields }
act_cleared (OfOutput act reference field) x = record x { references = alter filled_without_value reference x.references }
act_cleared (OfClaim act claim field) x = record x { claims = alter claimed_without_value claim x.claims }
act_cleared (OfFirst pool field) x = x

abbrev pub first_less : First → First
first_less first = record first { values = but_last first.values }

abbrev pub first_without_value : ℕ → First → First
first_without_value pool first = if nat_eq first.pool pool then first_less first else first

-- what stands in a blank is taken away
abbrev pub cleared : Blank → Scenario → Scenario
cleared (Instance act claim) s = record s { actions = alter (act_cleared (Instance act claim)) act s.actions }
cleared (OfFirst pool field) s = record s { firsts = map (first_without_value pool) s.firsts }
cleared (OfAct act field) s = record s { actions = alter (act_cleared (OfAct act field)) act s.actions }
cleared (OfOutput act reference field) s = record s { actions = alter (act_cleared (OfOutput act reference field)) act s.actions }
cleared (OfClaim act claim field) s = record s { actions = alter (act_cleared (OfClaim act claim field)) act s.actions }
