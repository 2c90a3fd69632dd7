-- What is owed to a line whose sources have a model is what is answered of that model.
use Rattle.std.proofs.Common.{◌≡◌, ℕ, List, refl, subst, inl, inr}
use Rattle.std.specs.Prelude.{Option, Some}
use Rattle.pst_base.specs.Fault.{HasRisen}
use Rattle.pst_io.specs.Shelf.{Files}
use Rattle.pst_model.specs.ModelTree.{ModelTree}
use Rattle.pst_run_alone.specs.Lanes.{Lane}
use Rattle.pst_words.specs.declared.command.Command.{Command}
use Rattle.pst_words.specs.declared.command.Lines.{Lines}
use Rattle.pst_words.specs.Lines.{IsLine}
use Rattle.pst_outcome.specs.declared.answer.Answer.{Answer}
use Rattle.pst_outcome.specs.declared.task.Task.{Task}
use Rattle.pst_outcome.specs.Tasks.{IsTask}
use Rattle.pst_outcome.specs.Sources.{Front, Ends, HasModel}
use Rattle.pst_outcome.specs.Models.{OfModel}
use Rattle.pst_outcome.specs.Outcome.{ASource, TheTrace, OfFiles, IsNoFile, IsUnread, HasManyBytes, HasLongTrace, HasFront, bytes_of, IsOwed, IsUsage, EndsAtFiles, EndsAtSources, IsServed}
use Rattle.pst_outcome.proofs.OneReading.{not_all_read, trace_not_read, one_trace_read, NotThere, TooLong}
use Rattle.pst_outcome.proofs.OneLine.{one_line, not_wrong}
use Rattle.pst_outcome.proofs.OneTask.{one_task}
use Rattle.pst_outcome.proofs.OneFront.{SourceLaws, one_front}
use Rattle.pst_complete_answers.specs.Complete.{Asked, AreAsking, AreSweeping}

-- the words are a line that asks this, whatever is asked
record IsAsked (lines : Lines) (have : ℕ) (words : List (List ℕ)) (files : Files) (old new : ℕ) (asked : Asked) : Type 0 where
  pub line : IsLine lines have words asked.command asked.arguments
  pub front : HasFront (Some files) old new asked.command asked.arguments asked.trace (HasModel asked.names asked.model asked.root)
  pub asks : IsTask asked.command asked.arguments asked.task

ends_apart : {a : Answer} {s : List ℕ} {names : List (List ℕ)} {m : ModelTree} {root : ℕ} → Ends a s ≡ HasModel names m root → ⊥
ends_apart e = cc

-- what a front and a task come to
abbrev Does : Front → Task → Option (List ℕ) → List Lane → Answer → List ℕ → Type 0
Does (Ends b t) task trace told a s = ⊥
Does (HasModel names m root) task trace told a s = OfModel names m root task (bytes_of trace) told a s

module _ (laws : SourceLaws) (lines : Lines) (have : ℕ) (words : List (List ℕ)) (f : Files) (old new : ℕ) (told : List Lane) (asked : Asked) (asking : IsAsked lines have words f old new asked) where
  -- ---- files

  -- the line's files are read
  no_files : (a : Answer) (s : List ℕ) → (HasRisen old new → ⊥) → OfFiles (Some f) old new asked.arguments a s → ⊥
  no_files _ _ calm (IsNoFile word name _ (ASource texts reached) gone) =
      not_all_read f asked.arguments word name texts asking.front.texts reached (NotThere (gone f refl)) asking.front.read
  no_files _ _ calm (IsNoFile word name _ (TheTrace texts read is) gone) = trace_not_read f asked.arguments word name asked.trace is (inl (gone f refl)) asking.front.trace_read
  no_files _ _ calm (IsUnread word name risen _) = calm risen
  no_files _ _ calm (HasManyBytes word name texts _ reached long) =
      let l = long f refl in not_all_read f asked.arguments word name texts asking.front.texts reached (TooLong l.0 l.1 l.2) asking.front.read
  no_files _ _ calm (HasLongTrace word name texts _ read is long) =
      let l = long f refl in trace_not_read f asked.arguments word name asked.trace is (inr (l.0, l.1, l.2)) asking.front.trace_read

  -- ---- sources

  -- its sources come to the model alone
  same_front : (trace : Option (List ℕ)) (front : Front) → HasFront (Some f) old new asked.command asked.arguments trace front → front ≡ HasModel asked.names asked.model asked.root
  same_front trace front h =
      one_front laws f old asked.command have asked.arguments trace asked.trace front (HasModel asked.names asked.model asked.root) asking.line.whole.right.each
      (subst (λ n. HasFront (Some f) old n asked.command asked.arguments trace front) h.count h)
      (subst (λ n. HasFront (Some f) old n asked.command asked.arguments asked.trace (HasModel asked.names asked.model asked.root)) h.count asking.front)

  -- ---- the task

  served : (trace : Option (List ℕ)) (names : List (List ℕ)) (m : ModelTree) (root : ℕ) (task : Task) (a : Answer) (s : List ℕ)
      → HasFront (Some f) old new asked.command asked.arguments trace (HasModel names m root) → IsTask asked.command asked.arguments task → OfModel names m root task (bytes_of trace) told a s
      → OfModel asked.names asked.model asked.root asked.task (bytes_of asked.trace) told a s
  served trace names m root task a s front asks does =
      let fronts : HasModel names m root ≡ HasModel asked.names asked.model asked.root = same_front trace (HasModel names m root) front in
      let tasks : task ≡ asked.task = one_task asked.command have asked.arguments task asked.task asking.line.whole.right.each asks asking.asks in
      let traces : trace ≡ asked.trace = one_trace_read f asked.arguments trace asked.trace front.trace_read asking.front.trace_read in
      let moved : Does (HasModel asked.names asked.model asked.root) asked.task asked.trace told a s =
      subst (λ (z : Option (List ℕ)). Does (HasModel asked.names asked.model asked.root) asked.task z told a s) traces
      (subst (λ (z : Task). Does (HasModel asked.names asked.model asked.root) z trace told a s) tasks
      (subst (λ (z : Front). Does z task trace told a s) fronts does)) in
      moved

  -- ---- words

  -- what holds of the line's command and of the words behind it, as it holds of any line that the words are
  on_line : (P : Command → List (List ℕ) → Type 0) (command : Command) (arguments : List (List ℕ)) → IsLine lines have words command arguments → P command arguments → P asked.command asked.arguments
  on_line P command arguments line h =
      let same = one_line lines have words command asked.command arguments asked.arguments line asking.line in
      subst (λ (z : List (List ℕ)). P asked.command z) same.1 (subst (λ (z : Command). P z arguments) same.0 h)

  of_line : (a : Answer) (s : List ℕ) → (HasRisen old new → ⊥) → IsOwed lines have words (Some f) old new told a s → OfModel asked.names asked.model asked.root asked.task (bytes_of asked.trace) told a s
  of_line _ _ calm (IsUsage word _ _ wrong) = absurd (not_wrong lines have words asked.command asked.arguments word asking.line wrong)
  of_line _ _ calm (EndsAtFiles command arguments a s _ line of_files) =
      absurd (no_files a s calm (on_line (λ c xs. OfFiles (Some f) old new xs a s) command arguments line of_files))
  of_line _ _ calm (EndsAtSources command arguments trace a s _ line front) =
      absurd (ends_apart (same_front trace (Ends a s) (on_line (λ c xs. HasFront (Some f) old new c xs trace (Ends a s)) command arguments line front)))
  of_line _ _ calm (IsServed command arguments trace names m root task a s line front asks does) =
      served trace names m root task a s (on_line (λ c xs. HasFront (Some f) old new c xs trace (HasModel names m root)) command arguments line front)
      (on_line (λ c xs. IsTask c xs task) command arguments line asks) does

pub of_asked : (laws : SourceLaws) (lines : Lines) (have : ℕ) (words : List (List ℕ)) (f : Files) (old new : ℕ) (told : List Lane) (asked : Asked) → AreAsking lines have words f old new asked
    → (a : Answer) (s : List ℕ) → (HasRisen old new → ⊥) → IsOwed lines have words (Some f) old new told a s → OfModel asked.names asked.model asked.root asked.task (bytes_of asked.trace) told a s
of_asked laws lines have words f old new told asked asking = of_line laws lines have words f old new told asked (record { line = asking.line; front = asking.front; asks = asking.asks })

-- the same of a line that asks for a sweep
pub of_swept : (laws : SourceLaws) (lines : Lines) (have : ℕ) (words : List (List ℕ)) (f : Files) (old new : ℕ) (told : List Lane) (asked : Asked) → AreSweeping lines have words f old new asked
    → (a : Answer) (s : List ℕ) → (HasRisen old new → ⊥) → IsOwed lines have words (Some f) old new told a s → OfModel asked.names asked.model asked.root asked.task (bytes_of asked.trace) told a s
of_swept laws lines have words f old new told asked asking = of_line laws lines have words f old new told asked (record { line = asking.line; front = asking.front; asks = asking.asks })
