-- One answer and one text of a model, but for the budget, and but for runs on several lanes.
use Rattle.std.proofs.Common.{◌≡◌, ◌∙◌, ◌⊎◌, ℕ, ◌<◌, inl, inr, List, ◌∷◌, length, refl, ap, sym, subst, arith}
use Rattle.std.specs.Prelude.{Some, None, All, Option, codes}
use Rattle.std.proofs.lemmas.List.Elements.{All-head}
use Rattle.pst_target.specs.declared.call.Call.{Call as Answered}
use Rattle.pst_model.specs.ModelTree.{ModelTree}
use Rattle.pst_scen.specs.declared.event.Event.{Event}
use Rattle.pst_scen.specs.declared.scenario.Scenario.{Scenario}
use Rattle.pst_scen.specs.Plan.{Entries, widest}
use Rattle.pst_scen.specs.Plans.{IsPlanOf}
use Rattle.pst_order.specs.Laws.{CoreIsOne}
use Rattle.pst_legal.specs.Laws.{FirstIsOne, BodiesEndOnce}
use Rattle.pst_exec.specs.Alone.{RanWhole}
use Rattle.pst_book.specs.Books.{View}
use Rattle.pst_trace_texts.specs.declared.last.Last.TheVariants as last
use Rattle.pst_trace_texts.specs.Texts.{trace_text}
use Rattle.pst_scenario_answers.specs.Checked.{ChecksAreOne, answer_text}
use Rattle.pst_place_answers.specs.Shown.{PlaceAnswersAreOne}
use Rattle.pst_static_answers.specs.Shown.{StaticAnswersAreOne}
use Rattle.pst_sweep_table.specs.declared.row.SweepRow.{SweepRow}
use Rattle.pst_sweep_table.specs.Laws.{RowsAreOne}
use Rattle.pst_sweep_table.specs.Rows.{IsTable}
use Rattle.pst_sweep_answers.specs.Shown.{ShowsSweep}
use Rattle.pst_run_alone.specs.declared.answer.RunAnswer.{RunAnswer}
use Rattle.pst_run_alone.specs.declared.answer.RunAnswer.TheVariants as ran
use Rattle.pst_run_alone.specs.Lanes.{Lane}
use Rattle.pst_run_alone.specs.Shown.{ShowsRun, RunsAreOne, TracesAreOne, narrow_text}
use Rattle.pst_run_alone.specs.Shown as shown
use Rattle.pst_run_alone.proofs.OneAnswer.{groups_same}
use Rattle.pst_generated.specs.Generated.{counts_text}
use Rattle.pst_outcome.specs.declared.answer.Answer.{Answer}
use Rattle.pst_outcome.specs.declared.answer.Answer.TheVariants.{Swept}
use Rattle.pst_outcome.specs.declared.task.Task.{Task}
use Rattle.pst_outcome.specs.declared.task.Work.{Work}
use Rattle.pst_outcome.specs.declared.task.Work.TheVariants as work
use Rattle.pst_outcome.specs.SharedRuns.{Break, HaveStopped, answer_of_break, last_of_break, ShowsSharedRun, IsTooWide, EndsWhole, EndsEarly}
use Rattle.pst_outcome.specs.Models.{answer_of_run, answer_of_check, answer_of_places, answer_of_programs, count_ended, ShowsCounts, HasEnded, EndsElse, ShowsSharedCounts, HaveEnded, EndElse, OfScenario, IsRun, IsSharedRun, IsGenerated, IsSharedGenerated, IsSolved, IsJudged, IsPlacing, IsProgrammed, IsSought, OfModel, HasNone, IsSpent, IsFound, IsSwept}
use Rattle.pst_outcome.specs.Laws.{IsSpentBudget, Telling, Whole, Counts, Stop, TellsRun, TellTwoRuns, AreOfOneSweep, IsTold}
use Rattle.pst_outcome.proofs.OneTask.{IsOnLanes}
use Rattle.pst_outcome.proofs.OneRuns.{IsOf, two_tellings}
use Rattle.pst_outcome.proofs.OneSweep.{two_sweeps}

-- the laws that tell what a model is answered
pub record ModelLaws : Type 0 where
  pub first : FirstIsOne
  pub runs : RunsAreOne
  pub traces : TracesAreOne
  pub checks : ChecksAreOne
  pub bodies : BodiesEndOnce
  pub cores : CoreIsOne
  pub places : PlaceAnswersAreOne
  pub statics : StaticAnswersAreOne
  pub rows : RowsAreOne

-- one answer with one text, or runs of the scenario on several lanes that may differ
abbrev pub AreAlike : List (List ℕ) → ModelTree → List Lane → Scenario → Work → Answer → Answer → List ℕ → List ℕ → Type 0
AreAlike names m lanes s w a b t u = ((a ≡ b) × (t ≡ u)) ⊎ ((count : ℕ) × IsOnLanes count w × (1 < count) × TellTwoRuns names m s count lanes a b t u)

-- the same of a model, or a spent budget, or rows of a sweep of which one is
abbrev pub AgreeOnModel : List (List ℕ) → ModelTree → List Lane → Work → Answer → Answer → List ℕ → List ℕ → Type 0
AgreeOnModel names m lanes w a b t u =
    ((a ≡ b) × (t ≡ u)) ⊎ ((IsSpentBudget a ⊎ IsSpentBudget b) ⊎ (((s : Scenario) × (count : ℕ) × IsOnLanes count w × (1 < count) × TellTwoRuns names m s count lanes a b t u) ⊎ AreOfOneSweep a b t u))

head_same : {X : Type 0} {x y : X} {xs ys : List X} → x ∷ xs ≡ y ∷ ys → x ≡ y
head_same e = cc

module _ (laws : ModelLaws) (names : List (List ℕ)) (m : ModelTree) (lanes : List Lane) (told : All IsTold lanes) where
  -- the first lane tells its calls
  first_told : (l : Lane) (others : List Lane) → lanes ≡ l ∷ others → IsTold l
  first_told l others is = All-head IsTold l others (subst (All IsTold) is told)

  module _ (s : Scenario) (p q : Entries) (first : IsPlanOf s p) (second : IsPlanOf s q) where
    -- ---- one lane

    moved : (l : Lane) (before after : List Answered) (plan : Entries) (x : RunAnswer) (t : List ℕ) → l.before ≡ Some before → l.after ≡ Some after
        → ShowsRun names m s plan l.before l.after l.faults_before l.faults_after x t → ShowsRun names m s plan (Some before) (Some after) l.faults_before l.faults_after x t
    moved l before after plan x t was is h =
        subst (λ (o : Option (List Answered)). ShowsRun names m s plan (Some before) o l.faults_before l.faults_after x t) is
        (subst (λ (o : Option (List Answered)). ShowsRun names m s plan o l.after l.faults_before l.faults_after x t) was h)

    moved_whole : (l : Lane) (before after : List Answered) (plan : Entries) (book : View) → l.before ≡ Some before → l.after ≡ Some after
        → RanWhole m s plan l.before l.after book → RanWhole m s plan (Some before) (Some after) book
    moved_whole l before after plan book was is h =
        subst (λ (o : Option (List Answered)). RanWhole m s plan (Some before) o book) is (subst (λ (o : Option (List Answered)). RanWhole m s plan o l.after book) was h)

    of_runs : (l : Lane) (x y : RunAnswer) (t u : List ℕ) → IsTold l → ShowsRun names m s p l.before l.after l.faults_before l.faults_after x t
        → ShowsRun names m s q l.before l.after l.faults_before l.faults_after y u → (x ≡ y) × (t ≡ u)
    of_runs l x y t u (before, after, was, is) h k =
        laws.runs names m s p q before after l.faults_before l.faults_after x y t u first second (moved l before after p x t was is h) (moved l before after q y u was is k)

    of_traces : (l : Lane) (book view : View) → IsTold l → RanWhole m s p l.before l.after book → RanWhole m s q l.before l.after view → book.trace ≡ view.trace
    of_traces l book view (before, after, was, is) h k = laws.traces m s p q before after book view (moved_whole l before after p book was is h) (moved_whole l before after q view was is k)

    of_counts : (size : ℕ) (l : Lane) (x y : RunAnswer) (t u : List ℕ) → IsTold l → ShowsCounts names m s p size l x t → ShowsCounts names m s q size l y u → (x ≡ y) × (t ≡ u)
    of_counts size l _ _ _ _ tells (HasEnded book fits a count) (HasEnded view fit b counts) =
        let same : book.trace ≡ view.trace = of_traces l book view tells a b in
        (refl, ap (λ (es : List Event). counts_text size (count_ended names m s es (codes "make")) (count_ended names m s es (codes "take")) (length s.actions)) same)
    of_counts size l _ _ _ _ tells (HasEnded book fits a count) (EndsElse y u b other) =
        let same = of_runs l (ran.Done (length s.actions)) y (trace_text names m s book.trace last.Done) u tells (shown.HasEnded book fits a count) b in
        absurd (other (length s.actions) (sym same.0))
    of_counts size l _ _ _ _ tells (EndsElse x t a other) (HasEnded view fits b count) =
        let same = of_runs l x (ran.Done (length s.actions)) t (trace_text names m s view.trace last.Done) tells a (shown.HasEnded view fits b count) in
        absurd (other (length s.actions) same.0)
    of_counts size l _ _ _ _ tells (EndsElse x t a other) (EndsElse y u b others) = of_runs l x y t u tells a b

    -- ---- several lanes

    broke : (count : ℕ) (trace : List Event) (number action : ℕ) (break : Break) → HaveStopped m s count trace lanes number action break
        → TellsRun names m s count lanes trace (Stop number action break) (answer_of_run (answer_of_break number action break)) (trace_text names m s trace (last_of_break number action break))
    broke count trace number action break h = record { come = h; answer = refl; text = refl }

    -- the widest group needs more lanes, and that is the answer; or it doesn't, and a run is told of as is asked
    abbrev Judged : Option ℕ → Entries → ℕ → RunAnswer → List ℕ → Type 0
    Judged asked plan count x t =
        ((count < widest plan.groups) × (x ≡ ran.Narrow (widest plan.groups) count) × (t ≡ narrow_text (widest plan.groups) count))
        ⊎ ((count < widest plan.groups → ⊥) × (trace : List Event) × (telling : Telling) × IsOf asked telling × TellsRun names m s count lanes trace telling (answer_of_run x) t)

    judged : (plan : Entries) (count : ℕ) (x : RunAnswer) (t : List ℕ) → ShowsSharedRun names m s plan count lanes x t → Judged None plan count x t
    judged plan count _ _ (IsTooWide wide none) = inl (wide, refl, refl)
    judged plan count _ _ (EndsWhole trace fits h) = inr (fits, trace, Whole, tt, record { come = h; answer = refl; text = refl })
    judged plan count _ _ (EndsEarly trace number action break fits h) = inr (fits, trace, Stop number action break, tt, broke count trace number action break h)

    -- what wasn't whole isn't counted
    judged_else : (plan : Entries) (size count : ℕ) (x : RunAnswer) (t : List ℕ) → ShowsSharedRun names m s plan count lanes x t → ((actions : ℕ) → x ≡ ran.Done actions → ⊥) → Judged (Some size) plan count x t
    judged_else plan size count _ _ (IsTooWide wide none) other = inl (wide, refl, refl)
    judged_else plan size count _ _ (EndsWhole trace fits h) other = absurd (other (length s.actions) refl)
    judged_else plan size count _ _ (EndsEarly trace number action break fits h) other = inr (fits, trace, Stop number action break, tt, broke count trace number action break h)

    judged_counts : (plan : Entries) (size count : ℕ) (x : RunAnswer) (t : List ℕ) → ShowsSharedCounts names m s plan size count lanes x t → Judged (Some size) plan count x t
    judged_counts plan size count _ _ (HaveEnded trace fits h) = inr (fits, trace, Counts size, refl, record { come = h; answer = refl; text = refl })
    judged_counts plan size count _ _ (EndElse x t h other) = judged_else plan size count x t h other

    widths : widest p.groups ≡ widest q.groups
    widths = ap widest (groups_same s p q first second)

    two_judged : (asked : Option ℕ) (count : ℕ) (x y : RunAnswer) (t u : List ℕ) → Judged asked p count x t → Judged asked q count y u
        → ((answer_of_run x ≡ answer_of_run y) × (t ≡ u)) ⊎ TellTwoRuns names m s count lanes (answer_of_run x) (answer_of_run y) t u
    two_judged asked count x y t u (inl (wide, a, e)) (inl (wider, b, d)) = inl (
      ap answer_of_run (a ∙ ap (λ (n : ℕ). ran.Narrow n count) widths ∙ sym b),
      e ∙ ap (λ (n : ℕ). narrow_text n count) widths ∙ sym d,
    )
    two_judged asked count x y t u (inl (wide, a, e)) (inr (fits, other, another, too, k)) = absurd (fits (subst (λ (n : ℕ). count < n) widths wide))
    two_judged asked count x y t u (inr (fits, trace, one, is, h)) (inl (wide, b, d)) = absurd (fits (subst (λ (n : ℕ). count < n) (sym widths) wide))
    two_judged asked count x y t u (inr (fits, trace, one, is, h)) (inr (fit, other, another, too, k)) =
        two_tellings laws.bodies laws.cores names m s count lanes told asked trace other one another (answer_of_run x) (answer_of_run y) t u is too h k

    -- ---- scenarios

    alike_on_one : (w : Work) (x y : RunAnswer) (t u : List ℕ) → (x ≡ y) × (t ≡ u) → AreAlike names m lanes s w (answer_of_run x) (answer_of_run y) t u
    alike_on_one w x y t u same = inl (ap answer_of_run same.0, same.1)

    alike_on_several : (w : Work) (count : ℕ) (x y : RunAnswer) (t u : List ℕ) → IsOnLanes count w → 1 < count
        → ((answer_of_run x ≡ answer_of_run y) × (t ≡ u)) ⊎ TellTwoRuns names m s count lanes (answer_of_run x) (answer_of_run y) t u
        → AreAlike names m lanes s w (answer_of_run x) (answer_of_run y) t u
    alike_on_several w count x y t u on several (inl same) = inl same
    alike_on_several w count x y t u on several (inr runs) = inr (count, on, several, runs)

    not_both : (count : ℕ) → count ≡ 1 → 1 < count → ⊥
    not_both count one several = omega (arith, one, several)

    same_lane : (l k : Lane) (ls ks : List Lane) → lanes ≡ l ∷ ls → lanes ≡ k ∷ ks → k ≡ l
    same_lane l k ls ks is other = head_same (sym other ∙ is)

    of_scenario : (trace : List ℕ) (w : Work) (a b : Answer) (x y : List ℕ)
        → OfScenario names m s p trace lanes w a x → OfScenario names m s q trace lanes w b y → AreAlike names m lanes s w a b x y
    of_scenario trace _ _ _ _ _ (IsRun n l ls u t one is calm h) (IsRun _ k ks v r another other calms j) =
        alike_on_one (work.Run n) u v t r (of_runs l u v t r (first_told l ls is) h
        (subst (λ (z : Lane). ShowsRun names m s q z.before z.after z.faults_before z.faults_after v r) (same_lane l k ls ks is other) j))
    of_scenario trace _ _ _ _ _ (IsRun n l ls u t one is calm h) (IsSharedRun _ v r several j) = absurd (not_both n one several)
    of_scenario trace _ _ _ _ _ (IsSharedRun n u t several h) (IsRun _ k ks v r one other calms j) = absurd (not_both n one several)
    of_scenario trace _ _ _ _ _ (IsSharedRun n u t several h) (IsSharedRun _ v r severals j) =
        alike_on_several (work.Run n) n u v t r refl several (two_judged None n u v t r (judged p n u t h) (judged q n v r j))
    of_scenario trace _ _ _ _ _ (IsGenerated size n l ls u t one is calm h) (IsGenerated _ _ k ks v r another other calms j) =
        alike_on_one (work.Generate size n) u v t r (of_counts size l u v t r (first_told l ls is) h (subst (λ (z : Lane). ShowsCounts names m s q size z v r) (same_lane l k ls ks is other) j))
    of_scenario trace _ _ _ _ _ (IsGenerated size n l ls u t one is calm h) (IsSharedGenerated _ _ v r several j) = absurd (not_both n one several)
    of_scenario trace _ _ _ _ _ (IsSharedGenerated size n u t several h) (IsGenerated _ _ k ks v r one other calms j) = absurd (not_both n one several)
    of_scenario trace _ _ _ _ _ (IsSharedGenerated size n u t several h) (IsSharedGenerated _ _ v r severals j) =
        alike_on_several (work.Generate size n) n u v t r refl several (two_judged (Some size) n u v t r (judged_counts p size n u t h) (judged_counts q size n v r j))
    of_scenario trace _ _ _ _ _ (IsSolved _) (IsSolved _) = inl (refl, refl)
    of_scenario trace _ _ _ _ _ (IsJudged u _ h) (IsJudged v _ k) = let same = laws.checks names m s trace u v h k in inl (ap answer_of_check same, ap answer_text same)
    of_scenario trace _ _ _ _ _ (IsPlacing space u t _ h) (IsPlacing _ v r _ k) = let same = laws.places names m s p q space u v t r first second h k in inl (ap answer_of_places same.0, same.1)
    of_scenario trace _ _ _ _ _ (IsProgrammed over u t _ h) (IsProgrammed _ v r _ k) = let same = laws.statics names m s p q over u v t r first second h k in inl (ap answer_of_programs same.0, same.1)

  -- ---- models

  sought_by : (s : Scenario) (plan : Entries) (trace : List ℕ) (w : Work) (a : Answer) (x : List ℕ) → OfScenario names m s plan trace lanes w a x → IsSought w
  sought_by s plan trace _ _ _ (IsRun n l ls u t one is calm h) = tt
  sought_by s plan trace _ _ _ (IsSharedRun n u t several h) = tt
  sought_by s plan trace _ _ _ (IsGenerated size n l ls u t one is calm h) = tt
  sought_by s plan trace _ _ _ (IsSharedGenerated size n u t several h) = tt
  sought_by s plan trace _ _ _ (IsSolved calm) = tt
  sought_by s plan trace _ _ _ (IsJudged u calm h) = tt
  sought_by s plan trace _ _ _ (IsPlacing space u t calm h) = tt
  sought_by s plan trace _ _ _ (IsProgrammed over u t calm h) = tt

  not_swept : (w : Work) (first count : ℕ) → w ≡ work.Sweep first count → IsSought w → ⊥
  not_swept w first count swept sought = subst IsSought swept sought

  same_first : (first count other many : ℕ) → work.Sweep first count ≡ work.Sweep other many → other ≡ first
  same_first first count other many e = cc

  same_count : (first count other many : ℕ) → work.Sweep first count ≡ work.Sweep other many → many ≡ count
  same_count first count other many e = cc

  of_sweeps : (root : ℕ) (task : Task) (first count other many found others_found : ℕ) (rows others : List SweepRow) (t u : List ℕ) → task.work ≡ work.Sweep first count → task.work ≡ work.Sweep other many
      → IsTable m root task.infer task.budget first count rows → IsTable m root task.infer task.budget other many others → ShowsSweep names m rows found t → ShowsSweep names m others others_found u
      → AgreeOnModel names m lanes task.work (Swept found) (Swept others_found) t u
  of_sweeps root task first count other many found others_found rows others t u is too h k shown shows =
      let e : work.Sweep first count ≡ work.Sweep other many = sym is ∙ too in
      by (two_sweeps laws.rows names m root task.infer task.budget first count found others_found rows others t u h
      (subst (λ (n : ℕ). IsTable m root task.infer task.budget n count others) (same_first first count other many e)
      (subst (λ (n : ℕ). IsTable m root task.infer task.budget other n others) (same_count first count other many e) k)) shown shows)
    where
      by : ((Swept found ≡ Swept others_found) × (t ≡ u)) ⊎ AreOfOneSweep (Swept found) (Swept others_found) t u → AgreeOnModel names m lanes task.work (Swept found) (Swept others_found) t u
      by (inl same) = inl same
      by (inr sweep) = inr (inr (inr sweep))

  of_found : (root : ℕ) (task : Task) (trace : List ℕ) (s r : Scenario) (p q : Entries) (a b : Answer) (x y : List ℕ) → r ≡ s → IsPlanOf s p → IsPlanOf r q
      → OfScenario names m s p trace lanes task.work a x → OfScenario names m r q trace lanes task.work b y → AreAlike names m lanes s task.work a b x y
  of_found root task trace s r p q a b x y same first second h k =
      of_scenario s p q first (subst (λ (z : Scenario). IsPlanOf z q) same second) trace task.work a b x y h
      (subst (λ (z : Scenario). OfScenario names m z q trace lanes task.work b y) same k)

  agree : (s : Scenario) (w : Work) (a b : Answer) (x y : List ℕ) → AreAlike names m lanes s w a b x y → AgreeOnModel names m lanes w a b x y
  agree s w a b x y (inl same) = inl same
  agree s w a b x y (inr (count, on, several, runs)) = inr (inr (inl (s, count, on, several, runs)))

  pub of_model : (root : ℕ) (task : Task) (trace : List ℕ) (a b : Answer) (x y : List ℕ)
      → OfModel names m root task trace lanes a x → OfModel names m root task trace lanes b y → AgreeOnModel names m lanes task.work a b x y
  of_model root task trace _ _ _ _ (HasNone sought _ none) (HasNone _ _ other) = inl (refl, refl)
  of_model root task trace _ _ _ _ (HasNone sought _ none) (IsSpent level _ _ few spent) = inr (inl (inr tt))
  of_model root task trace _ _ _ _ (HasNone sought _ none) (IsFound s p b y first plan k) = absurd (none s first.few first.reads.legal)
  of_model root task trace _ _ _ _ (HasNone sought _ none) (IsSwept first count rows found y is _ _ _) = absurd (not_swept task.work first count is sought)
  of_model root task trace _ _ _ _ (IsSpent level _ _ few spent) other = inr (inl (inl tt))
  of_model root task trace _ _ _ _ (IsFound s p a x first plan h) (HasNone sought _ none) = absurd (none s first.few first.reads.legal)
  of_model root task trace _ _ _ _ (IsFound s p a x first plan h) (IsSpent level _ _ few spent) = inr (inl (inr tt))
  of_model root task trace _ _ _ _ (IsFound s p a x first plan h) (IsFound r q b y other planned k) =
      agree s task.work a b x y (of_found root task trace s r p q a b x y (laws.first m root task.seed task.infer r s other first) plan planned h k)
  of_model root task trace _ _ _ _ (IsFound s p a x first plan h) (IsSwept start count rows found y is _ _ _) = absurd (not_swept task.work start count is (sought_by s p trace task.work a x h))
  of_model root task trace _ _ _ _ (IsSwept first count rows found x is _ _ _) (HasNone sought _ none) = absurd (not_swept task.work first count is sought)
  of_model root task trace _ _ _ _ (IsSwept first count rows found x is _ _ _) (IsSpent level _ _ few spent) = inr (inl (inr tt))
  of_model root task trace _ _ _ _ (IsSwept start count rows found x is _ _ _) (IsFound s p b y first plan k) = absurd (not_swept task.work start count is (sought_by s p trace task.work b y k))
  of_model root task trace _ _ _ _ (IsSwept first count rows found x is _ h shown) (IsSwept other many others others_found y too _ k shows) =
      of_sweeps root task first count other many found others_found rows others x y is too h k shown shows
