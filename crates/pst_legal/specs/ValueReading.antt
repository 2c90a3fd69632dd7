-- How claimed instances and values are read: the last three parts of a list of choices, and the whole of it.
use Rattle.std.specs.Prelude.{ℕ, ℤ, List, [], ◌∷◌, ◌++◌, map, Bool, false, nat_eq, if◌then◌else◌, Option, Some, None}
use Rattle.std.specs.Option.{unwrap_or}
use Rattle.pst_model.specs.declared.action.Claim.{Claim}
use Rattle.pst_model.specs.ModelTree.{ModelTree}
use Rattle.pst_scen.specs.declared.act.Act.{Act}
use Rattle.pst_scen.specs.declared.act.Filled.{Filled}
use Rattle.pst_scen.specs.declared.act.Claimed.{Claimed}
use Rattle.pst_scen.specs.declared.scenario.First.{First}
use Rattle.pst_scen.specs.declared.scenario.Scenario.{Scenario}
use Rattle.pst_legal.specs.Types.{action_claim, served_claim}
use Rattle.pst_legal.specs.Blanks.{Blank, Instance, OfFirst, OfAct, OfOutput, OfClaim, used_state_pools, claim_blanks, value_blanks, options, option_value}
use Rattle.pst_legal.specs.Growing.{nothing_yet}
use Rattle.pst_legal.specs.Reading.{Reading, Wants, Stops, Reads, Reader, then_read, read_seeded, read_tree}
use Rattle.pst_legal.specs.SupplyReading.{alter, read_supply}

abbrev pub more_values : ℤ → List ℤ → List ℤ
more_values v values = values ++ v ∷ []

abbrev pub is_lock : Option Claim → Bool
is_lock None = false
is_lock (Some claim) = claim.lock

-- the claim of that number, of that instance of the pool that serves it
abbrev pub claimed_as : ModelTree → Act → ℕ → ℕ → Claimed
claimed_as m act claim instance = record {
  pool = unwrap_or (served_claim m act.action act.instance claim) 0;
  lock = is_lock (action_claim m act.action claim);
  instance = instance;
  values = [];
}

abbrev pub with_claim : ModelTree → ℕ → ℕ → Act → Act
with_claim m claim instance act = record act { claims = act.claims ++ claimed_as m act claim instance ∷ [] }

abbrev pub act_with_value : ℤ → Act → Act
act_with_value v act = record act { fields = more_values v act.fields }

abbrev pub filled_with_value : ℤ → Filled → Filled
filled_with_value v filled = record filled { values = more_values v filled.values }

abbrev pub claimed_with_value : ℤ → Claimed → Claimed
claimed_with_value v claimed = record claimed { values = more_values v claimed.values }

abbrev pub with_output_value : ℕ → ℤ → Act → Act
with_output_value reference v act = record act { references = alter (filled_with_value v) reference act.references }

abbrev pub with_claim_value : ℕ → ℤ → Act → Act
with_claim_value claim v act = record act { claims = alter (claimed_with_value v) claim act.claims }

abbrev pub first_with_value : ℕ → ℤ → First → First
first_with_value pool v first = if nat_eq first.pool pool then record first { values = more_values v first.values } else first

-- the option of that number stands in the blank
abbrev pub with_option : ModelTree → ℕ → Blank → Scenario → Scenario
with_option m k (Instance act claim) s = record s { actions = alter (with_claim m claim k) act s.actions }
with_option m k (OfFirst pool field) s = record s { firsts = map (first_with_value pool (option_value m s.actions (OfFirst pool field) k)) s.firsts }
with_option m k (OfAct act field) s = record s { actions = alter (act_with_value (option_value m s.actions (OfAct act field) k)) act s.actions }
with_option m k (OfOutput act reference field) s =
    record s { actions = alter (with_output_value reference (option_value m s.actions (OfOutput act reference field) k)) act s.actions }
with_option m k (OfClaim act claim field) s =
    record s { actions = alter (with_claim_value claim (option_value m s.actions (OfClaim act claim field) k)) act s.actions }

abbrev pub read_blanks : ModelTree → ℕ → List Blank → Reader
read_blanks m seed [] s place left = Reads s place left
read_blanks m seed (blank ∷ more) s place left =
    read_seeded seed (options m s.actions blank) (λ k read. read_blanks m seed more (with_option m k blank read)) s place left

abbrev pub empty_first : ℕ → First
empty_first pool = record { pool = pool; values = [] }

-- a first object without values yet for each state pool that is used
abbrev pub with_firsts : ModelTree → Scenario → Scenario
with_firsts m s = record s { firsts = map empty_first (used_state_pools m s.actions) }

abbrev pub read_values : ModelTree → ℕ → Reader
read_values m seed s place left =
    then_read (read_blanks m seed (claim_blanks m s.actions) (with_firsts m s) place left) (read_blanks m seed (value_blanks m s.actions))

-- ---- the whole list

-- The answer to a list of choices: a place with so many options, a dead end, or a scenario.
pub data Answer : Type 0 where
  Options : (so_far : Scenario) → (n : ℕ) → Answer
  Dead : Answer
  Whole : (scenario : Scenario) → Answer

-- a choice behind the last place is dead
abbrev pub answer_of : Reading → Answer
answer_of (Wants s n) = Options s n
answer_of Stops = Dead
answer_of (Reads s place []) = Whole s
answer_of (Reads s place (digit ∷ left)) = Dead

-- the activity, then the sources, then claims and values
abbrev pub read_all : ModelTree → ℕ → ℕ → Reader
read_all m seed root s place left =
    then_read (then_read (read_tree m seed root s place left) (read_supply m seed)) (read_values m seed)

abbrev pub read : ModelTree → ℕ → ℕ → ℕ → List ℕ → Answer
read m root seed level choices = answer_of (read_all m seed root (nothing_yet level) 0 choices)
