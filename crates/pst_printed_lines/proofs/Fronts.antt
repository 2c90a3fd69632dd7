-- Two lines come to one model.
use Rattle.std.proofs.Common.{◌≡◌, ◌≤◌, ◌<◌, ◌^◌, ◌⊎◌, inl, inr, ℕ, List, [], Bool, true, false, decimal, nat_lt, cond, refl, ap, subst, ◌∙◌, arith}
use Rattle.std.specs.Prelude.{Option, Some, None, All}
use Rattle.std.proofs.lemmas.Bool.{ltb-true}
use Rattle.pst_io.specs.Shelf.{Files}
use Rattle.pst_model.specs.ModelTree.{ModelTree}
use Rattle.pst_words.specs.declared.command.Command.TheVariants.{Run, Check}
use Rattle.pst_words.specs.declared.key.Key.TheVariants.{Seed, Infer, Lanes}
use Rattle.pst_words.specs.Table.{IsValue}
use Rattle.pst_words.specs.Lines.{IsArgument, given}
use Rattle.pst_files_read.specs.Files.{IsTraceRead, sources_in}
use Rattle.pst_outcome.specs.declared.answer.Answer.{Answer}
use Rattle.pst_outcome.specs.declared.task.Task.{Task}
use Rattle.pst_outcome.specs.Tasks.{IsNumberGiven, HasRoot, IsTask}
use Rattle.pst_outcome.specs.Sources.{Front, Ends, HasModel, BreaksRule, HasManyInstances, AreElaborated, IsSyntaxFault, HasUnits, OfTexts, IsLexicalFault, HasManyTokens, HasTokens}
use Rattle.pst_outcome.specs.Outcome.{OfFiles, IsNoFile, IsUnread, HasManyBytes, HasLongTrace, HasFront}
use Rattle.pst_outcome.proofs.OneReading.{one_texts}
use Rattle.pst_outcome.proofs.OneTask.{one_task, value_cases}
use Rattle.pst_printed_answers.specs.Names.{ArePrinted, LexedNamesArePrinted}
use Rattle.pst_printed_answers.specs.Taken.{Takes}
use Rattle.pst_printed_lines.specs.Lines.{AskForOne}

-- ---- answers that tell of no run

pub of_files : (files : Option Files) (old new : ℕ) (arguments : List (List ℕ)) (answer said : Answer) (text : List ℕ) → OfFiles files old new arguments answer text → Takes answer said
of_files files old new arguments _ said _ (IsNoFile word name count next missing) = tt
of_files files old new arguments _ said _ (IsUnread word name risen next) = tt
of_files files old new arguments _ said _ (HasManyBytes word name texts count reached long) = tt
of_files files old new arguments _ said _ (HasLongTrace word name texts count read is long) = tt

pub of_sources : (arguments : List (List ℕ)) (component action : List ℕ) (texts : List (List ℕ)) (answer said : Answer) (text : List ℕ) → OfTexts arguments component action texts (Ends answer text) → Takes answer said
of_sources arguments component action texts _ said _ (IsLexicalFault wide place fault) = tt
of_sources arguments component action texts _ said _ (HasManyTokens fault) = tt
of_sources arguments component action texts _ said _ (HasTokens names tokens _ lexed (IsSyntaxFault deep place fault)) = tt
of_sources arguments component action texts _ said _ (HasTokens names tokens _ lexed (HasUnits units _ parsed (BreaksRule place rule breach))) = tt
of_sources arguments component action texts _ said _ (HasTokens names tokens _ lexed (HasUnits units _ parsed (HasManyInstances many))) = tt

-- ---- models

-- a model of texts is theirs whatever the words call their files, and its names are printed
pub same_model : (arguments others : List (List ℕ)) (component action : List ℕ) (texts names : List (List ℕ)) (m : ModelTree) (root : ℕ) → OfTexts arguments component action texts (HasModel names m root)
    → OfTexts others component action texts (HasModel names m root)
same_model arguments others component action texts _ _ _ (HasTokens names tokens _ lexed (HasUnits units _ parsed (AreElaborated m root is))) =
    HasTokens names tokens (HasModel names m root) lexed (HasUnits units (HasModel names m root) parsed (AreElaborated m root is))

pub names_printed : LexedNamesArePrinted → (arguments : List (List ℕ)) (component action : List ℕ) (texts names : List (List ℕ)) (m : ModelTree) (root : ℕ) → OfTexts arguments component action texts (HasModel names m root)
    → ArePrinted names
names_printed law arguments component action texts _ _ _ (HasTokens names tokens _ lexed (HasUnits units _ parsed (AreElaborated m root is))) = law texts names tokens lexed

-- the second line comes to the model of the first
pub front_too : (files shelf : Files) (old new faults : ℕ) (arguments others : List (List ℕ)) (trace : Option (List ℕ)) (text : List ℕ) (names : List (List ℕ)) (m : ModelTree) (root : ℕ)
    → AskForOne files shelf arguments others → IsTraceRead (Some shelf) others (Some text) → HasFront (Some files) old new Run arguments trace (HasModel names m root)
    → HasFront (Some shelf) faults faults Check others (Some text) (HasModel names m root)
front_too files shelf old new faults arguments others trace text names m root both traced front =
    let texts : front.texts ≡ both.texts = one_texts files (sources_in arguments) front.texts both.texts (front.read.each files refl) (both.read.each files refl) in
    let own : HasRoot arguments front.component front.action = front.is_root in
    let sources : front.sources ≡ front.texts = front.are_sources in
    record {
      count = refl;
      texts = both.texts;
      read = both.read_too;
      trace_read = traced;
      sources = both.texts;
      are_sources = refl;
      component = front.component;
      action = front.action;
      is_root = record { are = both.root ∙ own.are; component_is_name = own.component_is_name; action_is_name = own.action_is_name };
      comes_to = same_model arguments others front.component front.action both.texts names m root
          (subst (λ (ts : List (List ℕ)). OfTexts arguments front.component front.action ts (HasModel names m root)) (sources ∙ texts) front.comes_to);
    }

abbrev names_of : Front → List (List ℕ)
names_of (Ends answer text) = []
names_of (HasModel names m root) = names

abbrev model_of : ModelTree → Front → ModelTree
model_of otherwise (Ends answer text) = otherwise
model_of otherwise (HasModel names m root) = m

abbrev root_of : Front → ℕ
root_of (Ends answer text) = 0
root_of (HasModel names m root) = root

abbrev has_model : Front → Type 0
has_model (Ends answer text) = ⊥
has_model (HasModel names m root) = Unit {0}

pub model_same : (names others : List (List ℕ)) (m l : ModelTree) (root number : ℕ) → HasModel names m root ≡ HasModel others l number → (names ≡ others) × (m ≡ l) × (root ≡ number)
model_same names others m l root number same = (ap names_of same, ap (model_of m) same, ap root_of same)

pub no_end : (names : List (List ℕ)) (m : ModelTree) (root : ℕ) (answer : Answer) (text : List ℕ) → HasModel names m root ≡ Ends answer text → ⊥
no_end names m root answer text same = subst has_model same tt

-- ---- tasks

abbrev SpellsLanes : List ℕ → Type 0
SpellsLanes text = (k : ℕ) × (k ≤ 16) × (k < 2 ^ 64) × (text ≡ decimal k)

at_most : (b : Bool) (have n : ℕ) → nat_lt have 16 ≡ b → n ≤ cond b have 16 → n ≤ 16
at_most true have n is high = let few : have < 16 = ltb-true have 16 is in omega (arith, few, high)
at_most false have n is high = high

fits_too : (n : ℕ) → n ≤ 16 → n < 2 ^ 64
fits_too n few = omega (arith, few)

-- a line runs on at most 16 lanes
pub few_lanes : (have n : ℕ) (arguments : List (List ℕ)) → All (IsArgument Run have) arguments → IsNumberGiven Lanes arguments 1 n → n ≤ 16
few_lanes have n arguments each is = by (value_cases Run have Lanes arguments SpellsLanes spelled each)
  where
    spelled : (text : List ℕ) → IsValue have Lanes text → SpellsLanes text
    spelled text v = let few = at_most (nat_lt have 16) have v.number refl v.high in (v.number, few, fits_too v.number few, v.spelled)

    by : (given Lanes arguments ≡ None) ⊎ ((text : List ℕ) × (given Lanes arguments ≡ Some text) × SpellsLanes text) → n ≤ 16
    by (inl none) = let one = is.is_not none in omega (arith, one)
    by (inr (text, some, (k, few, small, spells))) = let same = is.is_given k small (some ∙ ap Some spells) in omega (arith, same, few)

-- both lines ask for one seed and one number of inferred actions
pub tasks_alike : (files shelf : Files) (have : ℕ) (arguments others : List (List ℕ)) (task other : Task) → All (IsArgument Run have) arguments → AskForOne files shelf arguments others
    → IsTask Run arguments task → IsTask Check others other → (other.seed ≡ task.seed) × (other.infer ≡ task.infer)
tasks_alike files shelf have arguments others task other each both one too =
    let seed : IsNumberGiven Seed arguments 1 other.seed = record { is_given = λ k small h. too.seed_is.is_given k small (both.seed ∙ h); is_not = λ h. too.seed_is.is_not (both.seed ∙ h) } in
    let infer : IsNumberGiven Infer arguments 2 other.infer = record { is_given = λ k small h. too.limits.0.is_given k small (both.infer ∙ h); is_not = λ h. too.limits.0.is_not (both.infer ∙ h) } in
    let same : record { work = task.work; seed = other.seed; infer = other.infer; budget = task.budget } ≡ task =
    one_task Run have arguments (record { work = task.work; seed = other.seed; infer = other.infer; budget = task.budget }) task each
    (record { work_is = one.work_is; seed_is = seed; limits = (infer, one.limits.1) }) one in
    (ap (λ (t : Task). t.seed) same, ap (λ (t : Task). t.infer) same)
