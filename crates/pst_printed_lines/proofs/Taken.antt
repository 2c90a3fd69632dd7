-- A line that checks takes what a line that runs prints.
use Rattle.std.proofs.Common.{◌≡◌, ◌<◌, ◌⊎◌, inr, ℕ, List, sym, ap, subst, arith}
use Rattle.std.specs.Prelude.{Option, Some}
use Rattle.pst_base.specs.Fault.{last_count}
use Rattle.pst_io.specs.Shelf.{Files}
use Rattle.pst_model.specs.ModelTree.{ModelTree}
use Rattle.pst_words.specs.declared.command.Command.{Command}
use Rattle.pst_words.specs.declared.command.Command.TheVariants.{Run, Check}
use Rattle.pst_words.specs.declared.command.Lines.{Lines}
use Rattle.pst_words.specs.Lines.{IsLine}
use Rattle.pst_files_read.specs.Files.{IsTraceRead}
use Rattle.pst_run_alone.specs.Lanes.{Lane}
use Rattle.pst_outcome.specs.declared.answer.Answer.{Answer}
use Rattle.pst_outcome.specs.declared.task.Task.{Task}
use Rattle.pst_outcome.specs.Tasks.{IsTask}
use Rattle.pst_outcome.specs.Sources.{Ends, HasModel}
use Rattle.pst_outcome.specs.Models.{OfModel}
use Rattle.pst_outcome.specs.Outcome.{OfFiles, HasFront, bytes_of, IsOwed, IsUsage, EndsAtFiles, EndsAtSources, IsServed}
use Rattle.pst_outcome.specs.Laws.{IsSpentBudget}
use Rattle.pst_outcome.proofs.OneReading.{one_trace_read}
use Rattle.pst_outcome.proofs.OneLine.{one_line, not_wrong}
use Rattle.pst_outcome.proofs.OneStop.{stop_of, not_read}
use Rattle.pst_outcome.proofs.OneFront.{SourceLaws, one_front}
use Rattle.pst_printed_answers.specs.Names.{LexedNamesArePrinted}
use Rattle.pst_printed_answers.specs.Taken.{Takes, ModelsAreTaken}
use Rattle.pst_printed_lines.specs.Lines.{AskForOne, LinesAreTaken}
use Rattle.pst_printed_lines.proofs.Fronts.{of_files, of_sources, names_printed, front_too, model_same, no_end, few_lanes, tasks_alike}

module _ (laws : SourceLaws) (models : ModelsAreTaken) (printed : LexedNamesArePrinted) (lines : Lines) (have room : ℕ) (words more arguments others : List (List ℕ)) (files shelf : Files) (old new faults : ℕ)
    (lanes told : List Lane) (run_line : IsLine lines have words Run arguments) (check_line : IsLine lines room more Check others) (both : AskForOne files shelf arguments others) (below : faults < last_count) where
  module _ (answer : Answer) (text : List ℕ) (traced : IsTraceRead (Some shelf) others (Some text)) (names : List (List ℕ)) (m : ModelTree) (root : ℕ) (task : Task) (trace : Option (List ℕ))
      (front : HasFront (Some files) old new Run arguments trace (HasModel names m root)) (is_task : IsTask Run arguments task) (ran : OfModel names m root task (bytes_of trace) lanes answer text) where
    front_there : HasFront (Some shelf) faults faults Check others (Some text) (HasModel names m root)
    front_there = front_too files shelf old new faults arguments others trace text names m root both traced front

    served : (other : Task) (said : Answer) (line : List ℕ) → IsTask Check others other → OfModel names m root other text told said line → IsSpentBudget said ⊎ Takes answer said
    served other said line asks judged =
        let alike = tasks_alike files shelf have arguments others task other run_line.whole.right.each both is_task asks in
        let infers = alike.1 in
        models names m root task other (bytes_of trace) lanes told is_task.work_is.0 answer said text line
        (names_printed printed arguments front.component front.action front.sources names m root front.comes_to)
        (few_lanes have is_task.work_is.0 arguments run_line.whole.right.each is_task.work_is.1) is_task.work_is.2 asks.work_is alike.0 (omega (arith, infers)) ran judged

    moved : (ns : List (List ℕ)) (l : ModelTree) (number : ℕ) (other : Task) (bytes : List ℕ) (said : Answer) (line : List ℕ) → (names ≡ ns) × (m ≡ l) × (root ≡ number) → bytes ≡ text
        → OfModel ns l number other bytes told said line → OfModel names m root other text told said line
    moved ns l number other bytes said line (same, model, first) is judged =
        subst (λ (x : List (List ℕ)). OfModel x m root other text told said line) (sym same)
        (subst (λ (x : ModelTree). OfModel ns x root other text told said line) (sym model)
        (subst (λ (x : ℕ). OfModel ns l x other text told said line) (sym first) (subst (λ (x : List ℕ). OfModel ns l number other x told said line) is judged)))

    ends_not : (trace_there : Option (List ℕ)) (said : Answer) (line : List ℕ) → HasFront (Some shelf) faults faults Check others trace_there (Ends said line) → ⊥
    ends_not trace_there said line there =
        no_end names m root said line
        (one_front laws shelf faults Check room others (Some text) trace_there (HasModel names m root) (Ends said line) check_line.whole.right.each front_there there)

    by_model : (ns : List (List ℕ)) (l : ModelTree) (number : ℕ) (trace_there : Option (List ℕ)) (other : Task) (said : Answer) (line : List ℕ)
        → HasFront (Some shelf) faults faults Check others trace_there (HasModel ns l number) → IsTask Check others other
        → OfModel ns l number other (bytes_of trace_there) told said line → IsSpentBudget said ⊎ Takes answer said
    by_model ns l number trace_there other said line there asks judged =
        let same = one_front laws shelf faults Check room others (Some text) trace_there (HasModel names m root) (HasModel ns l number) check_line.whole.right.each front_there there in
        let bytes : trace_there ≡ Some text = one_trace_read shelf others trace_there (Some text) there.trace_read traced in
        served other said line asks (moved ns l number other (bytes_of trace_there) said line (model_same names ns m l root number same) (ap bytes_of bytes) judged)

    check : (command : Command) (behind : List (List ℕ)) → (command ≡ Check) × (behind ≡ others) → (ns : List (List ℕ)) (l : ModelTree) (number : ℕ) (trace_there : Option (List ℕ)) (other : Task) (said : Answer) (line : List ℕ)
        → HasFront (Some shelf) faults faults command behind trace_there (HasModel ns l number) → IsTask command behind other → OfModel ns l number other (bytes_of trace_there) told said line
        → IsSpentBudget said ⊎ Takes answer said
    check command behind (word, same) ns l number trace_there other said line there asks judged =
        by_model ns l number trace_there other said line
        (subst (λ (ws : List (List ℕ)). HasFront (Some shelf) faults faults Check ws trace_there (HasModel ns l number)) same
        (subst (λ (c : Command). HasFront (Some shelf) faults faults c behind trace_there (HasModel ns l number)) word there))
        (subst (λ (ws : List (List ℕ)). IsTask Check ws other) same (subst (λ (c : Command). IsTask c behind other) word asks)) judged

    second : (said : Answer) (line : List ℕ) → IsOwed lines room more (Some shelf) faults faults told said line → IsSpentBudget said ⊎ Takes answer said
    second _ _ (IsUsage word calm count wrong) = absurd (not_wrong lines room more Check others word check_line wrong)
    second said line (EndsAtFiles command behind _ _ calm is ends) =
        let same = one_line lines room more command Check behind others is check_line in
        absurd
        (not_read shelf others said line both.texts (Some text)
        (stop_of shelf faults others said line below (subst (λ (ws : List (List ℕ)). OfFiles (Some shelf) faults faults ws said line) same.1 ends)) both.read_too traced)
    second said line (EndsAtSources command behind trace_there _ _ calm is ends) =
        let same = one_line lines room more command Check behind others is check_line in
        absurd
        (ends_not trace_there said line
        (subst (λ (ws : List (List ℕ)). HasFront (Some shelf) faults faults Check ws trace_there (Ends said line)) same.1
        (subst (λ (c : Command). HasFront (Some shelf) faults faults c behind trace_there (Ends said line)) same.0 ends)))
    second said line (IsServed command behind trace_there ns l number other _ _ is there asks judged) =
        check command behind (one_line lines room more command Check behind others is check_line) ns l number trace_there other said line there asks judged

  run : (answer said : Answer) (text line : List ℕ) → IsTraceRead (Some shelf) others (Some text) → (command : Command) (behind : List (List ℕ)) → (command ≡ Run) × (behind ≡ arguments)
      → (names : List (List ℕ)) (m : ModelTree) (root : ℕ) (task : Task) (trace : Option (List ℕ)) → HasFront (Some files) old new command behind trace (HasModel names m root) → IsTask command behind task
      → OfModel names m root task (bytes_of trace) lanes answer text → IsOwed lines room more (Some shelf) faults faults told said line → IsSpentBudget said ⊎ Takes answer said
  run answer said text line traced command behind (word, same) names m root task trace front is_task ran owed =
      second answer text traced names m root task trace
      (subst (λ (ws : List (List ℕ)). HasFront (Some files) old new Run ws trace (HasModel names m root)) same
      (subst (λ (c : Command). HasFront (Some files) old new c behind trace (HasModel names m root)) word front))
      (subst (λ (ws : List (List ℕ)). IsTask Run ws task) same (subst (λ (c : Command). IsTask c behind task) word is_task)) ran said line owed

  taken : (answer said : Answer) (text line : List ℕ) → IsTraceRead (Some shelf) others (Some text) → IsOwed lines have words (Some files) old new lanes answer text
      → IsOwed lines room more (Some shelf) faults faults told said line → IsSpentBudget said ⊎ Takes answer said
  taken _ said _ line traced (IsUsage word calm count wrong) owed = inr tt
  taken answer said text line traced (EndsAtFiles command behind _ _ calm is ends) owed = inr (of_files (Some files) old new behind answer said text ends)
  taken answer said text line traced (EndsAtSources command behind trace _ _ calm is front) owed =
      inr (of_sources behind front.component front.action front.sources answer said text front.comes_to)
  taken answer said text line traced (IsServed command behind trace names m root task _ _ is front is_task ran) owed =
      run answer said text line traced command behind (one_line lines have words command Run behind arguments is run_line) names m root task trace front is_task ran owed

pub lines_taken : SourceLaws → ModelsAreTaken → LexedNamesArePrinted → LinesAreTaken
lines_taken laws models printed lines have room words more arguments others files shelf old new faults lanes told answer said text line run_line check_line both traced below first second =
    taken laws models printed lines have room words more arguments others files shelf old new faults lanes told run_line check_line both below answer said text line traced first second
