-- Where blanks are looked up.
use Rattle.std.specs.Prelude.{◌≡◌, ℕ, ◌+◌, ◌≤◌, List, [], ◌∷◌, map, Option, Some, slice_get}
use Rattle.pst_model.specs.ModelTree.{ModelTree}
use Rattle.pst_scen.specs.declared.act.Act.{Act}
use Rattle.pst_scen.specs.declared.scenario.First.{First}
use Rattle.pst_scen.specs.declared.scenario.Scenario.{Scenario}
use Rattle.pst_legal.specs.Blanks.{Blank, Instance, OfFirst, OfAct, OfOutput, OfClaim}
use Rattle.pst_blanks.specs.declared.blank.Place.{Place}
use Rattle.pst_blanks.specs.Blanks.{blank_of, served_at}

-- it is a blank for a value
abbrev pub IsValue : Blank → Type 0
IsValue (Instance act claim) = ⊥
IsValue (OfFirst pool field) = Unit {0}
IsValue (OfAct act field) = Unit {0}
IsValue (OfOutput act reference field) = Unit {0}
IsValue (OfClaim act claim field) = Unit {0}

-- the instance of a claim is looked up in the pool that serves the claim
abbrev pub ServedAt : ModelTree → List Act → Blank → Option ℕ → Type 0
ServedAt m acts (Instance act claim) at = at ≡ served_at m acts act claim
ServedAt m acts (OfFirst pool field) at = Unit {0}
ServedAt m acts (OfAct act field) at = Unit {0}
ServedAt m acts (OfOutput act reference field) at = Unit {0}
ServedAt m acts (OfClaim act claim field) at = Unit {0}

-- the pools of first objects
abbrev pub pools_of : List First → List ℕ
pools_of firsts = map (λ first. first.pool) firsts

-- a field of a first object is looked up in the first object of that number
abbrev pub FoundAt : List ℕ → Blank → Option ℕ → Type 0
FoundAt pools (OfFirst pool field) at = (number : ℕ) × (at ≡ Some number) × (slice_get pools number ≡ Some pool)
FoundAt pools (Instance act claim) at = Unit {0}
FoundAt pools (OfAct act field) at = Unit {0}
FoundAt pools (OfOutput act reference field) at = Unit {0}
FoundAt pools (OfClaim act claim field) at = Unit {0}

-- in a scenario the blank of a place is where the place says
abbrev pub IsPlaced : ModelTree → Scenario → Place → Type 0
IsPlaced m s place = ServedAt m s.actions (blank_of place) place.at × FoundAt (pools_of s.firsts) (blank_of place) place.at

-- those of all places are
abbrev pub ArePlaced : ModelTree → Scenario → List Place → Type 0
ArePlaced m s places = (n : ℕ) (place : Place) → slice_get places n ≡ Some place → IsPlaced m s place

-- the first is no less than that number, and each is greater than the one before it
abbrev pub Rise : ℕ → List ℕ → Type 0
Rise low [] = Unit {0}
Rise low (x ∷ xs) = (low ≤ x) × Rise (x + 1) xs

-- the pools of the first objects rise
abbrev pub AreRising : Scenario → Type 0
AreRising s = Rise 0 (pools_of s.firsts)

-- what is placed in the first scenario is placed in the second, which has first objects of the same pools
pub record Keeps (m : ModelTree) (s t : Scenario) : Type 0 where
  pub placed : (place : Place) → IsPlaced m s place → IsPlaced m t place
  pub pools : pools_of t.firsts ≡ pools_of s.firsts
