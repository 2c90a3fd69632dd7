-- Words have one answer and one text, but for the budget, and but for runs on several lanes.
use Rattle.std.proofs.Common.{◌≡◌, ℕ, ◌<◌, inl, inr, List, ap, subst}
use Rattle.std.specs.Prelude.{Option, Some, All}
use Rattle.pst_base.specs.Fault.{last_count}
use Rattle.pst_io.specs.Shelf.{Files}
use Rattle.pst_token.specs.Laws.{EachTextHasOneReading}
use Rattle.pst_lexer.specs.Fault.{EachTextHasOneOutcome}
use Rattle.pst_texts.specs.Texts.{TokensOfTextsAreOne}
use Rattle.pst_ast.specs.Laws.{AtMostOneTree, AnswersAgree}
use Rattle.pst_ast.specs.Rule.{TheUnit}
use Rattle.pst_model.specs.ModelTree.{ModelTree}
use Rattle.pst_elab_rules.specs.Laws.{FirstBreachesAreOne, AnswersAreApart}
use Rattle.pst_order.specs.Laws.{CoreIsOne}
use Rattle.pst_legal.specs.Laws.{FirstIsOne, BodiesEndOnce}
use Rattle.pst_scenario_answers.specs.Checked.{ChecksAreOne}
use Rattle.pst_place_answers.specs.Shown.{PlaceAnswersAreOne}
use Rattle.pst_static_answers.specs.Shown.{StaticAnswersAreOne}
use Rattle.pst_sweep_table.specs.Laws.{RowsAreOne}
use Rattle.pst_run_alone.specs.Lanes.{Lane}
use Rattle.pst_run_alone.specs.Shown.{RunsAreOne, TracesAreOne}
use Rattle.pst_words.specs.declared.command.Command.{Command}
use Rattle.pst_words.specs.declared.command.Lines.{Lines}
use Rattle.pst_words.specs.Lines.{IsLine, IsWrongWord}
use Rattle.pst_outcome.specs.declared.answer.Answer.{Answer}
use Rattle.pst_outcome.specs.declared.answer.Answer.TheVariants.{Usage}
use Rattle.pst_outcome.specs.declared.task.Task.{Task}
use Rattle.pst_outcome.specs.Texts.{usage_text}
use Rattle.pst_outcome.specs.Tasks.{IsTask}
use Rattle.pst_outcome.specs.Sources.{Front, Ends, HasModel}
use Rattle.pst_outcome.specs.Models.{OfModel}
use Rattle.pst_outcome.specs.Outcome.{HasFront, bytes_of, IsOwed, IsUsage, EndsAtFiles, EndsAtSources, IsServed}
use Rattle.pst_outcome.specs.Laws.{Agree, IsTold, AnswersAreOne}
use Rattle.pst_outcome.proofs.OneReading.{one_trace_read}
use Rattle.pst_outcome.proofs.OneLine.{one_line, not_wrong, one_wrong}
use Rattle.pst_outcome.proofs.OneTask.{one_task, lanes_given}
use Rattle.pst_outcome.proofs.OneFront.{SourceLaws, one_front}
use Rattle.pst_outcome.proofs.OneModel.{ModelLaws, AgreeOnModel, of_model}
use Rattle.pst_outcome.proofs.OneStop.{Stop, one_stop_answer, not_read, stop_of}

-- ---- what a line comes to

-- where no call failed: reading ends at a file, the sources have no model, or what the line asks for is done
data OfLine (f : Files) (faults : ℕ) (command : Command) (arguments : List (List ℕ)) (lanes : List Lane) (a : Answer) (s : List ℕ) : Type 0 where
  Stopped : Stop f arguments a s → OfLine f faults command arguments lanes a s
  Ended : (trace : Option (List ℕ)) → HasFront (Some f) faults faults command arguments trace (Ends a s) → OfLine f faults command arguments lanes a s
  Served : (trace : Option (List ℕ)) (names : List (List ℕ)) (m : ModelTree) (root : ℕ) (task : Task) → HasFront (Some f) faults faults command arguments trace (HasModel names m root)
      → IsTask command arguments task → OfModel names m root task (bytes_of trace) lanes a s → OfLine f faults command arguments lanes a s

-- words that are no line, or are one
data OfWords (lines : Lines) (have : ℕ) (words : List (List ℕ)) (f : Files) (faults : ℕ) (lanes : List Lane) : Answer → List ℕ → Type 0 where
  Wrong : (word : ℕ) → IsWrongWord lines have words word → OfWords lines have words f faults lanes (Usage word) (usage_text word)
  Right : (command : Command) (arguments : List (List ℕ)) (a : Answer) (s : List ℕ) → IsLine lines have words command arguments → OfLine f faults command arguments lanes a s
      → OfWords lines have words f faults lanes a s

of_words : (lines : Lines) (have : ℕ) (words : List (List ℕ)) (f : Files) (faults : ℕ) (lanes : List Lane) (a : Answer) (s : List ℕ) → faults < last_count
    → IsOwed lines have words (Some f) faults faults lanes a s → OfWords lines have words f faults lanes a s
of_words lines have words f faults lanes _ _ below (IsUsage word _ _ wrong) = Wrong word wrong
of_words lines have words f faults lanes _ _ below (EndsAtFiles c xs a s _ line of_files) = Right c xs a s line (Stopped (stop_of f faults xs a s below of_files))
of_words lines have words f faults lanes _ _ below (EndsAtSources c xs trace a s _ line front) = Right c xs a s line (Ended trace front)
of_words lines have words f faults lanes _ _ below (IsServed c xs trace names m root task a s line front asks does) = Right c xs a s line (Served trace names m root task front asks does)

-- ---- two answers of one line

-- what a front and a task come to
abbrev Does : Front → Task → Option (List ℕ) → List Lane → Answer → List ℕ → Type 0
Does (Ends b t) task trace lanes a s = ⊥
Does (HasModel names m root) task trace lanes a s = OfModel names m root task (bytes_of trace) lanes a s

first : {a b : Answer} {s t : List ℕ} → Ends a s ≡ Ends b t → a ≡ b
first e = cc

second : {a b : Answer} {s t : List ℕ} → Ends a s ≡ Ends b t → s ≡ t
second e = cc

ends_apart : {a : Answer} {s : List ℕ} {names : List (List ℕ)} {m : ModelTree} {root : ℕ} → Ends a s ≡ HasModel names m root → ⊥
ends_apart e = cc

module _ (sources : SourceLaws) (models : ModelLaws) (lines : Lines) (have : ℕ) (words : List (List ℕ)) (f : Files) (faults : ℕ) (lanes : List Lane) (told : All IsTold lanes) where
  -- reading that ends at a file comes to no front
  no_front : (command : Command) (arguments : List (List ℕ)) (a : Answer) (s : List ℕ) (trace : Option (List ℕ)) (front : Front)
      → Stop f arguments a s → HasFront (Some f) faults faults command arguments trace front → ⊥
  no_front command arguments a s trace front stop h = not_read f arguments a s h.texts trace stop h.read h.trace_read

  -- what a task comes to, on a line that asks for it
  agree : (command : Command) (arguments names : List (List ℕ)) (m : ModelTree) (task : Task) (a b : Answer) (s t : List ℕ) → IsLine lines have words command arguments → IsTask command arguments task
      → AgreeOnModel names m lanes task.work a b s t → Agree lines have words lanes a b s t
  agree command arguments names m task a b s t line asks (inl same) = inl same
  agree command arguments names m task a b s t line asks (inr (inl spent)) = inr (inl spent)
  agree command arguments names m task a b s t line asks (inr (inr (inr sweep))) = inr (inr (inr sweep))
  agree command arguments names m task a b s t line asks (inr (inr (inl (scenario, count, on, several, runs)))) =
      inr (inr (inl (record {
        command = command;
        arguments = arguments;
        line = line;
        count = count;
        given = lanes_given command arguments task.work count asks.work_is on;
        several = several;
        names = names;
        model = m;
        scenario = scenario;
        runs = runs;
      })))

  of_served : (command : Command) (arguments : List (List ℕ)) (a b : Answer) (s t : List ℕ) (trace other : Option (List ℕ)) (names others : List (List ℕ)) (m n : ModelTree) (root number : ℕ) (task ask : Task)
      → IsLine lines have words command arguments
      → HasFront (Some f) faults faults command arguments trace (HasModel names m root) → HasFront (Some f) faults faults command arguments other (HasModel others n number)
      → IsTask command arguments task → IsTask command arguments ask
      → OfModel names m root task (bytes_of trace) lanes a s → OfModel others n number ask (bytes_of other) lanes b t → Agree lines have words lanes a b s t
  of_served command arguments a b s t trace other names others m n root number task ask line h k asks asks_too x y =
      let each = line.whole.right.each in
      let fronts : HasModel others n number ≡ HasModel names m root = one_front sources f faults command have arguments other trace (HasModel others n number) (HasModel names m root) each k h in
      let tasks : ask ≡ task = one_task command have arguments ask task each asks_too asks in
      let traces : other ≡ trace = one_trace_read f arguments other trace k.trace_read h.trace_read in
      let moved : Does (HasModel names m root) task trace lanes b t =
      subst (λ (z : Option (List ℕ)). Does (HasModel names m root) task z lanes b t) traces
      (subst (λ (z : Task). Does (HasModel names m root) z other lanes b t) tasks
      (subst (λ (z : Front). Does z ask other lanes b t) fronts y)) in
      agree command arguments names m task a b s t line asks (of_model models names m lanes told root task (bytes_of trace) a b s t x moved)

  of_line : (command : Command) (arguments : List (List ℕ)) (a b : Answer) (s t : List ℕ) → IsLine lines have words command arguments
      → OfLine f faults command arguments lanes a s → OfLine f faults command arguments lanes b t → Agree lines have words lanes a b s t
  of_line command arguments a b s t line (Stopped h) (Stopped k) = inl (one_stop_answer f arguments a b s t h k)
  of_line command arguments a b s t line (Stopped h) (Ended trace k) = absurd (no_front command arguments a s trace (Ends b t) h k)
  of_line command arguments a b s t line (Stopped h) (Served trace names m root task k _ _) = absurd (no_front command arguments a s trace (HasModel names m root) h k)
  of_line command arguments a b s t line (Ended trace h) (Stopped k) = absurd (no_front command arguments b t trace (Ends a s) k h)
  of_line command arguments a b s t line (Ended trace h) (Ended other k) =
      let same = one_front sources f faults command have arguments trace other (Ends a s) (Ends b t) line.whole.right.each h k in
      inl (first same, second same)
  of_line command arguments a b s t line (Ended trace h) (Served other names m root task k _ _) =
      absurd (ends_apart (one_front sources f faults command have arguments trace other (Ends a s) (HasModel names m root) line.whole.right.each h k))
  of_line command arguments a b s t line (Served trace names m root task h _ _) (Stopped k) = absurd (no_front command arguments b t trace (HasModel names m root) k h)
  of_line command arguments a b s t line (Served trace names m root task h _ _) (Ended other k) =
      absurd (ends_apart (one_front sources f faults command have arguments other trace (Ends b t) (HasModel names m root) line.whole.right.each k h))
  of_line command arguments a b s t line (Served trace names m root task h asks x) (Served other others n number ask k asks_too y) =
      of_served command arguments a b s t trace other names others m n root number task ask line h k asks asks_too x y

  -- ---- words

  two_lines : (c d : Command) (xs ys : List (List ℕ)) (a b : Answer) (s t : List ℕ) → IsLine lines have words c xs → IsLine lines have words d ys
      → OfLine f faults c xs lanes a s → OfLine f faults d ys lanes b t → Agree lines have words lanes a b s t
  two_lines c d xs ys a b s t line other h k =
      let same = one_line lines have words d c ys xs other line in
      of_line c xs a b s t line h
      (subst (λ (z : Command). OfLine f faults z xs lanes b t) same.0
      (subst (λ (z : List (List ℕ)). OfLine f faults d z lanes b t) same.1 k))

  two_answers : (a b : Answer) (s t : List ℕ)
      → OfWords lines have words f faults lanes a s → OfWords lines have words f faults lanes b t → Agree lines have words lanes a b s t
  two_answers _ _ _ _ (Wrong v h) (Wrong w k) = let same = one_wrong lines have words v w h k in inl (ap Usage same, ap usage_text same)
  two_answers _ _ _ _ (Wrong v h) (Right d ys b t line _) = absurd (not_wrong lines have words d ys v line h)
  two_answers _ _ _ _ (Right c xs a s line _) (Wrong w k) = absurd (not_wrong lines have words c xs w line k)
  two_answers _ _ _ _ (Right c xs a s line h) (Right d ys b t other k) = two_lines c d xs ys a b s t line other h k

-- words have one answer and one text, but for the budget
pub one_answer : EachTextHasOneReading → EachTextHasOneOutcome → TokensOfTextsAreOne → AtMostOneTree TheUnit → AnswersAgree → FirstBreachesAreOne → AnswersAreApart → FirstIsOne → RunsAreOne → TracesAreOne → ChecksAreOne → BodiesEndOnce → CoreIsOne → PlaceAnswersAreOne → StaticAnswersAreOne → RowsAreOne
    → AnswersAreOne
one_answer readings outcomes texts trees agree breaches apart firsts runs traces checks bodies cores places statics rows lines have words files faults lanes a b s t below told h k =
    two_answers (record { readings = readings; outcomes = outcomes; texts = texts; trees = trees; agree = agree; breaches = breaches; apart = apart }) (record { first = firsts; runs = runs; traces = traces; checks = checks; bodies = bodies; cores = cores; places = places; statics = statics; rows = rows })
    lines have words files faults lanes told a b s t
    (of_words lines have words files faults lanes a s below h)
    (of_words lines have words files faults lanes b t below k)
