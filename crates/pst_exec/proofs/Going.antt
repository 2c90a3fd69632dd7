-- A run on one lane, action by action.
use Rattle.std.proofs.Common.{◌≡◌, ◌+◌, ℕ, List, [], ◌∷◌, ◌++◌, length, false, refl, ap, subst, sym, ◌∙◌, append_assoc}
use Rattle.std.specs.Prelude.{Bool, Option, None, Some, Result, Ok, Err, IsTrue, ◌↔◌}
use Rattle.std.specs.Bool.{OnTrue}
use Rattle.std.proofs.lemmas.Bool.{OnTrue_at}
use Rattle.pst_base.specs.Fault.{HasRisen}
use Rattle.pst_target.specs.declared.call.Call.{Call as Answered}
use Rattle.pst_model.specs.ModelTree.{ModelTree}
use Rattle.pst_scen.specs.declared.event.Event.{Event}
use Rattle.pst_scen.specs.declared.event.Event.TheVariants.{Start, End}
use Rattle.pst_scen.specs.declared.scenario.Scenario.{Scenario}
use Rattle.pst_scen.specs.Plan.{Entries}
use Rattle.pst_scen.specs.Trace.{Runs, IsWhole, Prefix}
use Rattle.pst_scen.specs.Core.{Core, Command, Open, commands_of}
use Rattle.pst_legal.specs.Body.{BodyRun, Ended as BodyEnded, Trap, Wants, body_run}
use Rattle.pst_legal.specs.Runs.{AreRuns}
use Rattle.pst_book.specs.Books.{View, with_trace}
use Rattle.pst_body.specs.declared.ending.BodyEnd.{BodyEnd}
use Rattle.pst_body.specs.declared.ending.BodyEnd.TheVariants as body
use Rattle.pst_body.specs.Doing.{with_calls}
use Rattle.pst_body.specs.Ran.{Ran}
use Rattle.pst_exec.specs.Alone.{turns_of, events_of, IsBookOf, RanWhole, RanUpTo, RunsAlone, end_of}
use Rattle.pst_exec.specs.Steps.{IsSerial, StartsNext, RanNext, Going, RanRest}
use Rattle.pst_exec.proofs.Serial.{events_more, turns_are, turns_and_start}
use Rattle.pst_exec.proofs.Runs.{runs_more, calls_more}

-- ---- one action

-- the action that has started ends
pub ran_next : (m : ModelTree) (old middle new : View) (before after : Option (List Answered)) (fewer more a : ℕ) (result : Result Unit BodyEnd) (ended : Bool) → StartsNext old middle a
    → Ran (body_run m old.scenario a) before after fewer more result → result ≡ Ok tt
    → (IsTrue ended ↔ Runs middle.trace a) → OnTrue ended (new ≡ with_trace middle (middle.trace ++ End a ∷ []))
    → RanNext m old new before after × (more ≡ fewer)
ran_next m old middle new before after fewer more a result ended starts ran is runs ends =
    let whole = subst (λ (r : Result Unit BodyEnd). Ran (body_run m old.scenario a) before after fewer more r) is ran in
    let end : new ≡ with_trace middle (middle.trace ++ End a ∷ []) = OnTrue_at (runs.1 starts.runs) ends in
    let from_middle : with_trace middle (middle.trace ++ End a ∷ []) ≡ with_trace old ((old.trace ++ Start a 0 false ∷ []) ++ End a ∷ []) = ap (λ (v : View). with_trace v (v.trace ++ End a ∷ [])) starts.new_is in
    let from_old : with_trace old ((old.trace ++ Start a 0 false ∷ []) ++ End a ∷ []) ≡ with_trace old (old.trace ++ Start a 0 false ∷ End a ∷ []) = ap (λ (es : List Event). with_trace old es) (append_assoc old.trace (Start a 0 false ∷ []) (End a ∷ [])) in (
      record {
        action = a;
        new_is = end ∙ from_middle ∙ from_old;
        made = whole.made;
        calls = whole.calls;
        run = whole.are;
      },
      whole.faults,
    )

-- ---- all actions so far

pub going_start : (m : ModelTree) (book : View) (calls : Option (List Answered)) (faults : ℕ) → book.trace ≡ [] → Going m book book calls calls faults faults
going_start m book calls faults fresh = record {
  actions = [];
  new_is = ap (λ (es : List Event). with_trace book es) fresh;
  made = [];
  calls = same calls;
  runs = refl;
  faults = refl;
}
  where
    same : (o : Option (List Answered)) → o ≡ with_calls o []
    same None = refl
    same (Some l) = ap (λ (k : List Answered). Some k) (sym (nil_behind l))
      where
        nil_behind : (k : List Answered) → k ++ [] ≡ k
        nil_behind [] = refl
        nil_behind (x ∷ xs) = ap (λ (t : List Answered). x ∷ t) (nil_behind xs)

pub going_next : (m : ModelTree) (old middle new : View) (before between after : Option (List Answered)) (fewer faults more : ℕ)
    → Going m old middle before between fewer faults → RanNext m middle new between after → more ≡ faults → Going m old new before after fewer more
going_next m old middle new before between after fewer faults more going next same =
    let a = next.action in
    let run : body_run m old.scenario a next.made ≡ Some BodyEnded = subst (λ (v : View). body_run m v.scenario a next.made ≡ Some BodyEnded) going.new_is next.run in
    let trace : with_trace middle (middle.trace ++ Start a 0 false ∷ End a ∷ []) ≡ with_trace old (events_of going.actions ++ Start a 0 false ∷ End a ∷ []) =
    ap (λ (v : View). with_trace v (v.trace ++ Start a 0 false ∷ End a ∷ [])) going.new_is in
    record {
      actions = going.actions ++ a ∷ [];
      new_is = next.new_is ∙ trace ∙ ap (λ (es : List Event). with_trace old es) (events_more going.actions a);
      made = going.made ++ next.made;
      calls = calls_more before between after going.made next.made going.calls next.calls;
      runs = runs_more m old.scenario going.actions a going.made next.made going.runs run;
      faults = same ∙ going.faults;
    }

pub going_serial : (m : ModelTree) (old middle : View) (before between : Option (List Answered)) (fewer faults : ℕ) → Going m old middle before between fewer faults → old.lanes ≡ 1 → IsSerial middle
going_serial m old middle before between fewer faults going lanes = record {
  lanes = ap (λ (v : View). v.lanes) going.new_is ∙ lanes;
  actions = going.actions;
  trace = ap (λ (v : View). v.trace) going.new_is;
}

-- ---- its end

pub book_of : (s : Scenario) (plan : Entries) (old new : View) (trace : List Event) (commands : List Command)
    → old ≡ record { scenario = s; plan = plan; lanes = 1; trace = [] } → new ≡ with_trace old trace → commands_of trace ≡ commands
    → Core new.scenario new.lanes (commands_of new.trace) new.trace → Prefix new.scenario new.lanes new.trace → IsBookOf s plan commands new
book_of s plan old new trace commands first new_is are core begins =
    let is : new ≡ record { scenario = s; plan = plan; lanes = 1; trace = trace } = new_is ∙ ap (λ (v : View). with_trace v trace) first in
    record {
      scenario = ap (λ (v : View). v.scenario) is;
      planned = ap (λ (v : View). v.plan) is;
      lanes = ap (λ (v : View). v.lanes) is;
      core = subst (λ (v : View). Core s 1 commands v.trace) (sym is)
          (subst (λ (cs : List Command). Core s 1 cs trace) are (subst (λ (v : View). Core v.scenario v.lanes (commands_of v.trace) v.trace) is core));
      prefix = subst (λ (v : View). Prefix s 1 v.trace) (sym is) (subst (λ (v : View). Prefix v.scenario v.lanes v.trace) is begins);
    }

pub ran_whole : (m : ModelTree) (s : Scenario) (plan : Entries) (old new : View) (before after : Option (List Answered)) (fewer more : ℕ)
    → old ≡ record { scenario = s; plan = plan; lanes = 1; trace = [] } → Core new.scenario new.lanes (commands_of new.trace) new.trace → Prefix new.scenario new.lanes new.trace
    → Going m old new before after fewer more → IsWhole old.scenario new.trace → RanWhole m s plan before after new × (more ≡ fewer)
ran_whole m s plan old new before after fewer more first core begins going whole =
    let scenario : old.scenario ≡ s = ap (λ (v : View). v.scenario) first in (
      record {
        actions = going.actions;
        is_of = book_of s plan old new (events_of going.actions) (turns_of going.actions) first going.new_is (turns_are going.actions) core begins;
        trace = ap (λ (v : View). v.trace) going.new_is;
        whole = subst (λ (t : Scenario). IsWhole t new.trace) scenario whole;
        made = going.made;
        calls = going.calls;
        runs = subst (λ (t : Scenario). AreRuns m t going.actions going.made) scenario going.runs;
      },
      going.faults,
    )

pub ran_up_to : (m : ModelTree) (s : Scenario) (plan : Entries) (old middle new : View) (before between after : Option (List Answered)) (fewer faults a : ℕ) (to : BodyRun) (part : List Answered)
    → old ≡ record { scenario = s; plan = plan; lanes = 1; trace = [] } → Core new.scenario new.lanes (commands_of new.trace) new.trace → Prefix new.scenario new.lanes new.trace
    → Going m old middle before between fewer faults → StartsNext middle new a → after ≡ with_calls between part → body_run m old.scenario a part ≡ Some to
    → (ran : RanUpTo m s plan before after a to new) × (ran.runs.part ≡ part)
ran_up_to m s plan old middle new before between after fewer faults a to part first core begins going starts calls comes =
    let scenario : old.scenario ≡ s = ap (λ (v : View). v.scenario) first in
    let started : with_trace middle (middle.trace ++ Start a 0 false ∷ []) ≡ with_trace old (events_of going.actions ++ Start a 0 false ∷ []) = ap (λ (v : View). with_trace v (v.trace ++ Start a 0 false ∷ [])) going.new_is in
    let new_is : new ≡ with_trace old (events_of going.actions ++ Start a 0 false ∷ []) = starts.new_is ∙ started in (
      record {
        actions = going.actions;
        is_of = book_of s plan old new (events_of going.actions ++ Start a 0 false ∷ []) (turns_of going.actions ++ Open ∷ []) first new_is (turns_and_start going.actions a) core begins;
        trace = ap (λ (v : View). v.trace) new_is;
        made = going.made ++ part;
        calls = calls_more before between after going.made part going.calls calls;
        runs = record {
          whole = going.made;
          part = part;
          are = refl;
          runs = subst (λ (t : Scenario). AreRuns m t going.actions going.made) scenario going.runs;
          comes_to = subst (λ (t : Scenario). body_run m t a part ≡ Some to) scenario comes;
        };
      },
      refl,
    )

pub ran_broken : (m : ModelTree) (s : Scenario) (plan : Entries) (old new : View) (before after : Option (List Answered)) (fewer more : ℕ) (action : ℕ) (end : BodyEnd)
    → old ≡ record { scenario = s; plan = plan; lanes = 1; trace = [] } → Core new.scenario new.lanes (commands_of new.trace) new.trace → Prefix new.scenario new.lanes new.trace
    → RanRest m old new before after fewer more (Err (record { action = action; end = end })) → RunsAlone m s plan before after fewer more (Err (end_of new 0 action end))
ran_broken m s plan old new before after fewer more a (body.Fault call) first core begins (middle, between, faults, going, starts, ran) =
    let wants = ran.are.0 in
    let up = ran_up_to m s plan old middle new before between after fewer faults a (Wants wants.0 wants.1) ran.made first core begins going starts ran.calls wants.2 in
    let number : call ≡ length ran.made + 1 = ran.are.1 in
    (refl, record { function = wants.0; arguments = wants.1; ran = up.0; number = number ∙ ap (λ (l : List Answered). length l + 1) (sym up.1) }, subst (λ (n : ℕ). HasRisen n more) going.faults ran.faults)
ran_broken m s plan old new before after fewer more a (body.Trap kind) first core begins (middle, between, faults, going, starts, ran) =
    let up = ran_up_to m s plan old middle new before between after fewer faults a (Trap kind) ran.made first core begins going starts ran.calls ran.are in
    (refl, up.0, ran.faults ∙ going.faults)
ran_broken m s plan old new before after fewer more a body.NoMemory first core begins (middle, between, faults, going, starts, ran) =
    (going.made ++ ran.made, calls_more before between after going.made ran.made going.calls ran.calls, ran.faults ∙ going.faults)
