-- Where lanes stand.
use Rattle.std.specs.Prelude.{◌≡◌, ℕ, ◌<◌, List, ◌++◌, length, get_or, Bool, false}
use Rattle.pst_scen.specs.declared.event.Event.{Event}
use Rattle.pst_scen.specs.Trace.{starts_of}
use Rattle.pst_scen.specs.Plan.{Entries}
use Rattle.pst_programs.specs.declared.program.Instruction.TheVariants.{Run}
use Rattle.pst_programs.specs.declared.program.Program.{Program}
use Rattle.pst_programs.specs.Programs.{program_at}
use Rattle.pst_programs.specs.Machine.{IsAt, AreAt}

-- a lane stands at the action's `Run`, and the action isn't marked as started
pub record CanJoin (programs : List Program) (places : List ℕ) (started : List Bool) (a : ℕ) : Type 0 where
  pub lane : ℕ
  pub at : IsAt programs places lane (Run a)
  pub fresh : get_or started a false ≡ false

-- this holds of all members of the group
abbrev pub AllCanJoin : Entries → List Program → List ℕ → List Bool → ℕ → Type 0
AllCanJoin p programs places started group = (a : ℕ) → a < length p.groups → get_or p.groups a 0 ≡ group → CanJoin programs places started a

-- every lane is at its program's end
abbrev pub AreAtEnd : List Program → List ℕ → Type 0
AreAtEnd programs places = (lane : ℕ) → get_or places lane 0 < length (program_at programs lane) → ⊥

-- the members have started in one block, each on the lane that stands at its `Run`
pub record HasBegun (programs : List Program) (places members : List ℕ) (old new : List Event) : Type 0 where
  pub used : List ℕ
  pub are_at : AreAt programs places members used
  pub new_is : new ≡ old ++ starts_of members used
