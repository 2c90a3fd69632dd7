-- A run that nothing stands in the way of is whole.
use Rattle.std.proofs.Common.{◌≡◌, ◌∙◌, ℕ, zero, suc, ◌<◌, List, [], ◌∷◌, length, get_or, refl, ap, sym, subst, inl, inr, arith}
use Rattle.std.specs.Prelude.{All, Some, None}
use Rattle.std.proofs.lemmas.List.Elements.{All-head, All-tail}
use Rattle.pst_base.specs.Fault.{HasRisen}
use Rattle.pst_target.specs.declared.call.Call.{Call as Answered}
use Rattle.pst_model.specs.ModelTree.{ModelTree}
use Rattle.pst_scen.specs.declared.scenario.Scenario.{Scenario}
use Rattle.pst_scen.specs.Plan.{Entries, widest}
use Rattle.pst_scen.specs.Plans.{IsPlanOf}
use Rattle.pst_legal.specs.Body.{Trap}
use Rattle.pst_legal.specs.Runs.{AreRunsUpTo}
use Rattle.pst_body.specs.Doing.{with_calls}
use Rattle.pst_run_alone.specs.declared.answer.RunAnswer.{RunAnswer}
use Rattle.pst_run_alone.specs.declared.answer.RunAnswer.TheVariants as ran
use Rattle.pst_run_alone.specs.Lanes.{Lane, lane}
use Rattle.pst_run_alone.specs.Shown.{ShowsRun}
use Rattle.pst_run_alone.specs.Shown as shown
use Rattle.pst_outcome.specs.SharedRuns.{Break, HasBroken, AtCall, InTrap, ShowsSharedRun, IsTooWide, EndsWhole, EndsEarly}
use Rattle.pst_outcome.specs.Models.{ShowsCounts, HasEnded, EndsElse, ShowsSharedCounts, HaveEnded, EndElse}
use Rattle.pst_complete_answers.specs.Complete.{NoBodyTraps, RunsFreely}

-- what all lanes have, and one more, each lane has that is looked up
at_each : (P : Lane → Type 0) (lanes : List Lane) (l : Lane) → All P lanes → P l → (k : ℕ) → P (get_or lanes k l)
at_each P [] l all else k = else
at_each P (first ∷ more) l all else zero = All-head P first more all
at_each P (first ∷ more) l all else (suc k) = at_each P more l (All-tail P first more all) else k

-- a lane that tells what no lane tells: that its calls are no longer known
abbrev unknown : Lane
unknown = lane (Some []) None 0 0

module _ (m : ModelTree) (s : Scenario) where
  not_trapped : (l : Lane) (actions : List ℕ) (made : List Answered) (action kind : ℕ) → NoBodyTraps m s l → l.after ≡ with_calls l.before made → AreRunsUpTo m s actions action (Trap kind) made → ⊥
  not_trapped l actions made action kind none calls runs = none action kind runs.whole runs.part (calls ∙ ap (with_calls l.before) runs.are) runs.comes_to

  not_broken : (l : Lane) (actions : List ℕ) (action : ℕ) (break : Break) → (HasRisen l.faults_before l.faults_after → ⊥) → NoBodyTraps m s l → HasBroken m s actions action l break → ⊥
  not_broken l actions action _ calm none (AtCall function arguments call r number risen) = calm risen
  not_broken l actions action _ calm none (InTrap kind r count) = not_trapped l actions r.made action kind none r.calls r.runs

  unknown_calm : HasRisen unknown.faults_before unknown.faults_after → ⊥
  unknown_calm (_, inl more) = omega (arith, more)
  unknown_calm (_, inr last) = omega (arith, last)

  unknown_free : NoBodyTraps m s unknown
  unknown_free action kind earlier calls is run = absurd cc

  module _ (names : List (List ℕ)) (plan : Entries) (planned : IsPlanOf s plan) (count : ℕ) (told : List Lane) (free : RunsFreely m s count told) where
    not_wide : count < widest plan.groups → ⊥
    not_wide wide = let fits = free.wide plan planned in omega (arith, wide, fits)

    -- on one lane
    pub run_is_whole : (l : Lane) (others : List Lane) (x : RunAnswer) (t : List ℕ) → count ≡ 1 → told ≡ l ∷ others
        → ShowsRun names m s plan l.before l.after l.faults_before l.faults_after x t → x ≡ ran.Done (length s.actions)
    run_is_whole l others _ _ one is (shown.IsTooWide wide calls number) = absurd (not_wide (subst (λ n. n < widest plan.groups) (sym one) wide))
    run_is_whole l others _ _ one is (shown.HasEnded book fits h number) = refl
    run_is_whole l others _ _ one is (shown.HasFailed action call book fits h risen) =
        absurd (All-head (λ k. HasRisen k.faults_before k.faults_after → ⊥) l others (subst (All (λ (k : Lane). HasRisen k.faults_before k.faults_after → ⊥)) is free.lanes) risen)
    run_is_whole l others _ _ one is (shown.HasTrapped action kind book fits h number) =
        absurd (not_trapped l h.actions h.made action kind (All-head (NoBodyTraps m s) l others (subst (All (NoBodyTraps m s)) is free.bodies)) h.calls h.runs)

    pub counts_are_whole : (size : ℕ) (l : Lane) (others : List Lane) (x : RunAnswer) (t : List ℕ) → count ≡ 1 → told ≡ l ∷ others → ShowsCounts names m s plan size l x t → x ≡ ran.Done (length s.actions)
    counts_are_whole size l others _ _ one is (HasEnded book fits h number) = refl
    counts_are_whole size l others _ _ one is (EndsElse x t h other) = run_is_whole l others x t one is h

    -- on several
    not_stopped : (number action : ℕ) (actions : List ℕ) (break : Break) → ((d : Lane) → HasBroken m s actions action (get_or told number d) break) → ⊥
    not_stopped number action actions break here =
        not_broken (get_or told number unknown) actions action break
        (at_each (λ k. HasRisen k.faults_before k.faults_after → ⊥) told unknown free.lanes unknown_calm number)
        (at_each (NoBodyTraps m s) told unknown free.bodies unknown_free number) (here unknown)

    pub shared_run_is_whole : (x : RunAnswer) (t : List ℕ) → ShowsSharedRun names m s plan count told x t → x ≡ ran.Done (length s.actions)
    shared_run_is_whole _ _ (IsTooWide wide none) = absurd (not_wide wide)
    shared_run_is_whole _ _ (EndsWhole trace fits h) = refl
    shared_run_is_whole _ _ (EndsEarly trace number action break fits h) = absurd (not_stopped number action _ break h.here)

    pub shared_counts_are_whole : (size : ℕ) (x : RunAnswer) (t : List ℕ) → ShowsSharedCounts names m s plan size count told x t → x ≡ ran.Done (length s.actions)
    shared_counts_are_whole size _ _ (HaveEnded trace fits h) = refl
    shared_counts_are_whole size _ _ (EndElse x t h other) = shared_run_is_whole x t h
