-- What the proofs on the machine use of the programs.
use Rattle.std.specs.Prelude.{◌≡◌, ◌⊎◌, ℕ, suc, ◌<◌, ◌≤◌, List, length, slice_get, Some}
use Rattle.pst_scen.specs.Rows.{Has}
use Rattle.pst_scen.specs.Plan.{Entries}
use Rattle.pst_programs.specs.declared.program.Instruction.{Instruction}
use Rattle.pst_programs.specs.declared.program.Instruction.TheVariants.{Run, Signal, Await}
use Rattle.pst_programs.specs.declared.program.Program.{Program}
use Rattle.pst_programs.specs.Serial.{group_of}
use Rattle.pst_programs.specs.Programs.{program_at}

-- that instruction stands at that place of the lane's program
abbrev pub Stands : List Program → ℕ → ℕ → Instruction → Type 0
Stands programs lane place instruction = slice_get (program_at programs lane) place ≡ Some instruction

-- the lane awaits the action, or a later one of its lane, before that place
pub record IsHeard (programs : List Program) (lane place x : ℕ) : Type 0 where
  pub later : ℕ
  pub from : ℕ
  pub at : ℕ
  pub later_at : ℕ
  pub await_at : ℕ
  pub run : Stands programs from at (Run x)
  pub later_run : Stands programs from later_at (Run later)
  pub not_earlier : at ≤ later_at
  pub await : Stands programs lane await_at (Await later)
  pub before : await_at < place

-- The actions have ranks, by which each lane's program ascends and each await looks back.
pub record AreSafe (p : Entries) (programs : List Program) : Type 0 where
  pub rank : ℕ → ℕ
  -- ranks are those of groups, and what must come before has a lesser one
  pub of_group : (a b : ℕ) → a < length p.groups → b < length p.groups → group_of p a ≡ group_of p b → rank a ≡ rank b
  pub one_group : (a b : ℕ) → a < length p.groups → b < length p.groups → rank a ≡ rank b → group_of p a ≡ group_of p b
  pub lesser : (a b : ℕ) → a < length p.groups → b < length p.groups → Has p.must a b → rank a < rank b
  -- each action has one `Run`
  pub some : (a : ℕ) → a < length p.groups → (l : ℕ) × (k : ℕ) × Stands programs l k (Run a)
  pub inside : (a l k : ℕ) → Stands programs l k (Run a) → a < length p.groups
  pub only : (a l m j k : ℕ) → Stands programs l j (Run a) → Stands programs m k (Run a) → (l ≡ m) × (j ≡ k)
  pub rising : (a b l j k : ℕ) → Stands programs l j (Run a) → Stands programs l k (Run b) → j < k → rank a < rank b
  -- what is awaited is told, right behind its `Run` and only there
  pub told : (x m j : ℕ) → Stands programs m j (Await x) → (l : ℕ) × (k : ℕ) × Stands programs l k (Run x) × Stands programs l (suc k) (Signal x)
  pub behind : (x l k : ℕ) → Stands programs l k (Signal x) → (j : ℕ) × (suc j ≡ k) × Stands programs l j (Run x)
  -- what is awaited has a lesser rank than all that runs behind
  pub back : (x b l j k : ℕ) → Stands programs l j (Await x) → Stands programs l k (Run b) → j < k → rank x < rank b
  -- what is needed runs on the same lane or is awaited
  pub needed : (x a l k : ℕ) → x < length p.groups → rank x < rank a → Has p.must x a ⊎ Has p.conflict x a → Stands programs l k (Run a)
      → ((j : ℕ) × Stands programs l j (Run x)) ⊎ IsHeard programs l k x
