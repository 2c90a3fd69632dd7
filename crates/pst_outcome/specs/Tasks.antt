-- What a line asks for: its root, its sources, how the first legal scenario is sought, and what is done with it.
use Rattle.std.specs.Prelude.{◌≡◌, ℕ, ◌+◌, ◌^◌, ◌<◌, ◌≤◌, List, [], ◌∷◌, ◌++◌, codes, decimal, Some, None}
use Rattle.pst_token.specs.Lexemes.{IsName}
use Rattle.pst_generated.specs.Generated.{generated_text}
use Rattle.pst_words.specs.declared.command.Command.{Command}
use Rattle.pst_words.specs.declared.command.Command.TheVariants.{Run, Solve, Check, Gen, Static, Place, Sweep}
use Rattle.pst_words.specs.declared.command.Lines.{Lines}
use Rattle.pst_words.specs.declared.command.Lines.TheVariants as lines
use Rattle.pst_words.specs.declared.key.Key.{Key}
use Rattle.pst_words.specs.declared.key.Key.TheVariants.{Root, Seed, Infer, Budget, Lanes, Size, Over, Space, Base, First, Count}
use Rattle.pst_words.specs.Lines.{given}
use Rattle.pst_outcome.specs.declared.task.Task.{Task}
use Rattle.pst_outcome.specs.declared.task.Work.{Work}
use Rattle.pst_outcome.specs.declared.task.Work.TheVariants as work

-- ---- numbers

-- the number that words give the key, or another where they give it none
pub record IsNumberGiven (key : Key) (arguments : List (List ℕ)) (otherwise n : ℕ) : Type 0 where
  pub is_given : (k : ℕ) → k < 2 ^ 64 → given key arguments ≡ Some (decimal k) → n ≡ k
  pub is_not : given key arguments ≡ None → n ≡ otherwise

-- ---- the root and the sources

-- the words behind a command name this root: its component and its own name
pub record HasRoot (arguments : List (List ℕ)) (component action : List ℕ) : Type 0 where
  pub are : given Root arguments ≡ Some (component ++ (codes "::" ++ action))
  pub component_is_name : IsName component
  pub action_is_name : IsName action

-- the root of a line: a generated model has its own
abbrev pub IsRoot : Command → List (List ℕ) → List ℕ → List ℕ → Type 0
IsRoot Gen arguments component action = (component ≡ codes "pss_top") × (action ≡ codes "entry")
IsRoot command arguments component action = HasRoot arguments component action

-- the sources of a line, whose files have these texts: those, or the one of the generated model
abbrev pub AreSources : Command → List (List ℕ) → List (List ℕ) → List (List ℕ) → Type 0
AreSources Gen arguments texts sources = (size : ℕ) × IsNumberGiven Size arguments 0 size × (sources ≡ generated_text size ∷ [])
AreSources command arguments texts sources = sources ≡ texts

-- ---- the scenario that is sought, and what is done with it

-- what is done with the scenario; it is run on as many of the first lanes as the line says
abbrev pub IsWork : Command → List (List ℕ) → Work → Type 0
IsWork Run arguments done = (lanes : ℕ) × IsNumberGiven Lanes arguments 1 lanes × (done ≡ work.Run lanes)
IsWork Solve arguments done = done ≡ work.Solve
IsWork Check arguments done = done ≡ work.Check
IsWork Gen arguments done = (size : ℕ) × (lanes : ℕ) × IsNumberGiven Size arguments 0 size × IsNumberGiven Lanes arguments 1 lanes × (done ≡ work.Generate size lanes)
IsWork Static arguments done = (over : ℕ) × IsNumberGiven Over arguments 1 over × (done ≡ work.Static over)
IsWork Place arguments done = (base : ℕ) × (size : ℕ) × IsNumberGiven Base arguments 0 base × IsNumberGiven Space arguments 0 size × (done ≡ work.Place (record { base = base; size = size }))
IsWork Sweep arguments done = (first : ℕ) × (count : ℕ) × IsNumberGiven First arguments 1 first × IsNumberGiven Count arguments 0 count × (done ≡ work.Sweep first count)

-- where it is run on lanes, so many are there; programs are for 1 to 16 lanes, the addresses of a space end within 2^63, and the seeds of a sweep
-- within 2^64
abbrev pub FitsLanes : ℕ → Work → Type 0
FitsLanes have (work.Run lanes) = (1 ≤ lanes) × (lanes ≤ have)
FitsLanes have (work.Generate size lanes) = (1 ≤ lanes) × (lanes ≤ have)
FitsLanes have (work.Static over) = (1 ≤ over) × (over ≤ 16)
FitsLanes have (work.Place space) = space.base + space.size ≤ 2 ^ 63
FitsLanes have (work.Sweep first count) = first + count ≤ 2 ^ 64
FitsLanes have other = Unit {0}

-- it is run on several
abbrev pub IsSeveral : Work → Type 0
IsSeveral (work.Run lanes) = 1 < lanes
IsSeveral (work.Generate size lanes) = 1 < lanes
IsSeveral other = ⊥

-- many seeds are searched
abbrev pub IsSweep : Work → Type 0
IsSweep (work.Sweep first count) = Unit {0}
IsSweep other = ⊥

-- a line of one of these commands may ask for it
abbrev pub IsAskedBy : Lines → Work → Type 0
IsAskedBy lines.All done = Unit {0}
IsAskedBy lines.WithoutSweep done = IsSweep done → ⊥
IsAskedBy lines.SweepAlone done = IsSweep done

-- the most inferred actions, and the most live lists of choices; a generated model has its own
abbrev pub AreLimits : Command → List (List ℕ) → ℕ → ℕ → Type 0
AreLimits Gen arguments infer budget = (infer ≡ 0) × (budget ≡ 100000)
AreLimits command arguments infer budget = IsNumberGiven Infer arguments 2 infer × IsNumberGiven Budget arguments 100000 budget

-- the line asks for that
pub record IsTask (command : Command) (arguments : List (List ℕ)) (task : Task) : Type 0 where
  pub work_is : IsWork command arguments task.work
  pub seed_is : IsNumberGiven Seed arguments 1 task.seed
  pub limits : AreLimits command arguments task.infer task.budget
