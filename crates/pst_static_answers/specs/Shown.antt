-- What is answered of a scenario's programs of lanes, and the text of the answer.
use Rattle.std.specs.Prelude.{◌≡◌, ℕ, ◌<◌, ◌≤◌, List, ◌++◌, codes, decimal}
use Rattle.pst_model.specs.ModelTree.{ModelTree}
use Rattle.pst_scen.specs.declared.scenario.Scenario.{Scenario}
use Rattle.pst_scen.specs.Plan.{Entries, widest}
use Rattle.pst_scen.specs.Plans.{IsPlanOf}
use Rattle.pst_trace_texts.specs.Lines.{line}
use Rattle.pst_trace_texts.specs.Header.{header_text}
use Rattle.pst_programs.specs.declared.program.Program.{Program}
use Rattle.pst_programs.specs.Programs.{ArePrograms}
use Rattle.pst_programs.specs.Laws.{instructions}
use Rattle.pst_program_texts.specs.Texts.{programs_text}
use Rattle.pst_static_answers.specs.declared.answer.StaticAnswer.{StaticAnswer}
use Rattle.pst_static_answers.specs.declared.answer.StaticAnswer.TheVariants.{Static, Narrow}

abbrev pub narrow_text : ℕ → ℕ → List ℕ
narrow_text need have = line (codes "narrow " ++ decimal need ++ codes " " ++ decimal have)

abbrev pub static_text : List (List ℕ) → ModelTree → Scenario → List Program → List ℕ
static_text names m s programs = header_text 2 names m s ++ programs_text programs

-- The plan's programs for so many lanes, or the widest group needs more of them.
pub data ShowsStatic (names : List (List ℕ)) (m : ModelTree) (s : Scenario) (p : Entries) (over : ℕ) : StaticAnswer → List ℕ → Type 0 where
  ArePrinted : (programs : List Program) → widest p.groups ≤ over → ArePrograms p over programs → ShowsStatic names m s p over (Static (instructions programs)) (static_text names m s programs)
  IsTooWide : over < widest p.groups → ShowsStatic names m s p over (Narrow (widest p.groups) over) (narrow_text (widest p.groups) over)

-- at most one answer with one text is right for a scenario, whose plan may be held in two ways
abbrev pub StaticAnswersAreOne : Type 0
StaticAnswersAreOne =
    (names : List (List ℕ)) (m : ModelTree) (s : Scenario) (plan again : Entries) (over : ℕ) (one other : StaticAnswer) (t u : List ℕ)
    → IsPlanOf s plan → IsPlanOf s again → ShowsStatic names m s plan over one t → ShowsStatic names m s again over other u → (one ≡ other) × (t ≡ u)
