-- Programs without signals, from which the programs are made.
use Rattle.std.specs.Prelude.{◌≡◌, ◌↔◌, ◌<◌, ℕ, List, [], ◌∷◌, ◌++◌, length, get_or, map, replicate, take, if◌then◌else◌, Bool, true, false, Some, slice_get, Contains}
use Rattle.std.specs.Global.{Vec}
use Rattle.pst_scen.specs.Plan.{Entries}
use Rattle.pst_programs.specs.declared.program.Instruction.{Instruction}
use Rattle.pst_programs.specs.declared.program.Instruction.TheVariants.{Run, Signal, Await}
use Rattle.pst_programs.specs.Serial.{IsSerial}
use Rattle.pst_programs.specs.Lanes.{Dealt, on_lane, Deals}
use Rattle.pst_programs.specs.Programs.{AreAwaited}
use Rattle.pst_static.specs.Awaiting.{AreLatest, AreHeard}

-- for each lane a table of so many zeros
pub record AreTables (lanes count : ℕ) (tables : List (Vec ℕ)) : Type 0 where
  pub many : length tables ≡ lanes
  pub zeros : (l : ℕ) (row : Vec ℕ) → slice_get tables l ≡ Some row → row.items ≡ replicate count 0

-- for each lane a draft without instructions
pub record AreEmpty (lanes : ℕ) (drafts : List (Vec Instruction)) : Type 0 where
  pub many : length drafts ≡ lanes
  pub empty : (l : ℕ) (draft : Vec Instruction) → slice_get drafts l ≡ Some draft → draft.items ≡ []

-- what a lane's draft is, once its actions from here on stand behind what was written
pub data Drafts (p : Entries) (order : List ℕ) (dealt : Dealt) (l : ℕ) : List Instruction → List ℕ → List Instruction → Type 0 where
  Drafted : (steps : List Instruction) → Drafts p order dealt l steps [] steps
  Then : (before whole : List Instruction) (a : ℕ) (more awaited : List ℕ) → AreAwaited p order dealt before a l awaited
      → Drafts p order dealt l (before ++ (map Await awaited ++ Run a ∷ [])) more whole → Drafts p order dealt l before (a ∷ more) whole

-- a draft with a signal behind each action that is marked
abbrev pub signalled : List Bool → List Instruction → List Instruction
signalled told [] = []
signalled told (Run a ∷ more) = if get_or told a false then Run a ∷ Signal a ∷ signalled told more else Run a ∷ signalled told more
signalled told (Signal a ∷ more) = Signal a ∷ signalled told more
signalled told (Await a ∷ more) = Await a ∷ signalled told more

-- the drafts of all lanes for the actions that were dealt, and marks of what they await
pub record AreDrafts (p : Entries) (order : List ℕ) (whole : Dealt) (lanes : ℕ) (dealt : Dealt) (drafts : List (Vec Instruction)) (told : List Bool) : Type 0 where
  pub many : length drafts ≡ lanes
  pub each : (l : ℕ) (draft : Vec Instruction) → slice_get drafts l ≡ Some draft → Drafts p order whole l [] (on_lane dealt l) draft.items
  pub many_told : length told ≡ length p.groups
  pub told_is : (a : ℕ) → a < length p.groups → (get_or told a false ≡ true) ↔ ((l : ℕ) × (draft : Vec Instruction) × (slice_get drafts l ≡ Some draft) × Contains draft.items (Await a))

-- what is kept while one action after another is drafted: the drafts of those before a place, and the tables by which awaits are found
pub record IsDrafting (p : Entries) (lanes : ℕ) (dealt : Dealt) (at : ℕ) (latest heard : List (Vec ℕ)) (drafts : List (Vec Instruction)) (told : List Bool) : Type 0 where
  pub order : List ℕ
  pub serial : IsSerial p order
  pub deals : Deals p lanes [] order dealt
  pub are : AreDrafts p order dealt lanes (take at dealt) drafts told
  pub latest_are : AreLatest p lanes dealt at latest
  pub many_heard : length heard ≡ lanes
  pub heard_are : (l : ℕ) (row : Vec ℕ) (draft : Vec Instruction) → slice_get heard l ≡ Some row → slice_get drafts l ≡ Some draft → AreHeard lanes dealt draft.items row.items

-- the drafts of all actions
pub record IsDrafted (p : Entries) (lanes : ℕ) (dealt : Dealt) (drafts : List (Vec Instruction)) (told : List Bool) : Type 0 where
  pub order : List ℕ
  pub serial : IsSerial p order
  pub deals : Deals p lanes [] order dealt
  pub are : AreDrafts p order dealt lanes dealt drafts told
