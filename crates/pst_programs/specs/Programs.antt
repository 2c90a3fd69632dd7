-- The programs of the lanes.
use Rattle.std.specs.Prelude.{◌≡◌, ◌≢◌, ◌⊎◌, ◌↔◌, ℕ, zero, suc, ◌<◌, List, [], ◌∷◌, ◌++◌, length, get_or, map, Contains}
use Rattle.pst_scen.specs.Rows.{Has}
use Rattle.pst_scen.specs.Plan.{Entries}
use Rattle.pst_programs.specs.declared.program.Instruction.{Instruction}
use Rattle.pst_programs.specs.declared.program.Instruction.TheVariants.{Run, Signal, Await}
use Rattle.pst_programs.specs.declared.program.Program.{Program}
use Rattle.pst_programs.specs.Serial.{group_of, IsSerial, IsEarlier}
use Rattle.pst_programs.specs.Lanes.{Dealt, on_lane, Deals}

-- the instructions of a lane, none where there is no such lane
abbrev pub program_at : List Program → ℕ → List Instruction
program_at [] lane = []
program_at (program ∷ programs) zero = program.steps
program_at (program ∷ programs) (suc lane) = program_at programs lane

-- Action a on lane l needs action x on lane m, another one.
pub record Needs (p : Entries) (order : List ℕ) (dealt : Dealt) (a l x m : ℕ) : Type 0 where
  pub other : m ≢ l
  pub there : Contains dealt (x, m)
  pub earlier : IsEarlier order (group_of p x) (group_of p a)
  pub because : Has p.must x a ⊎ Has p.conflict x a

-- Of the needed actions on one lane the latest counts, where the lane's program so far awaits neither it nor a later one of that lane.
pub record Counts (p : Entries) (order : List ℕ) (dealt : Dealt) (before : List Instruction) (a l x m : ℕ) : Type 0 where
  pub needs : Needs p order dealt a l x m
  pub latest : (y : ℕ) → Needs p order dealt a l y m → IsEarlier order (group_of p x) (group_of p y) → ⊥
  pub new : (y : ℕ) → Contains before (Await y) → Contains dealt (y, m) → (y ≡ x) ⊎ IsEarlier order (group_of p x) (group_of p y) → ⊥

-- what the action awaits, ascending
pub record AreAwaited (p : Entries) (order : List ℕ) (dealt : Dealt) (before : List Instruction) (a l : ℕ) (awaited : List ℕ) : Type 0 where
  pub ascending : (i j : ℕ) → i < j → j < length awaited → get_or awaited i 0 < get_or awaited j 0
  pub those : (x : ℕ) → Contains awaited x ↔ ((m : ℕ) × Counts p order dealt before a l x m)

-- another program awaits the action
abbrev pub IsAwaited : List Program → ℕ → ℕ → Type 0
IsAwaited programs l a = (m : ℕ) × (m ≢ l) × Contains (program_at programs m) (Await a)

-- the signal behind an action, where there is one
pub data SignalOf (programs : List Program) (l a : ℕ) : List Instruction → Type 0 where
  Told : IsAwaited programs l a → SignalOf programs l a (Signal a ∷ [])
  Untold : (IsAwaited programs l a → ⊥) → SignalOf programs l a []

-- what a lane's program is, once its actions from here on stand behind what was written
pub data Writes (p : Entries) (order : List ℕ) (dealt : Dealt) (programs : List Program) (l : ℕ) : List Instruction → List ℕ → List Instruction → Type 0 where
  Written : (steps : List Instruction) → Writes p order dealt programs l steps [] steps
  Then : (before whole signal : List Instruction) (a : ℕ) (more awaited : List ℕ) → AreAwaited p order dealt before a l awaited → SignalOf programs l a signal
      → Writes p order dealt programs l (before ++ (map Await awaited ++ Run a ∷ signal)) more whole → Writes p order dealt programs l before (a ∷ more) whole

-- the programs of the plan for so many lanes
pub record ArePrograms (p : Entries) (lanes : ℕ) (programs : List Program) : Type 0 where
  pub many : length programs ≡ lanes
  pub order : List ℕ
  pub serial : IsSerial p order
  pub dealt : Dealt
  pub deals : Deals p lanes [] order dealt
  pub each : (l : ℕ) → l < lanes → Writes p order dealt programs l [] (on_lane dealt l) (program_at programs l)
