-- One answer of a run.
use Rattle.std.proofs.Common.{◌≡◌, ◌<◌, ◌+◌, ℕ, List, [], ◌∷◌, ◌++◌, length, get_or, false, refl, ap, sym, ◌∙◌, subst, append-nil, arith}
use Rattle.std.specs.Prelude.{Option, None, Some}
use Rattle.std.proofs.lemmas.List.{append_cancel_left}
use Rattle.std.proofs.lemmas.Grind.{same_number_lists}
use Rattle.pst_target.specs.declared.call.Call.{Call as Answered}
use Rattle.pst_model.specs.ModelTree.{ModelTree}
use Rattle.pst_scen.specs.declared.event.Event.{Event}
use Rattle.pst_scen.specs.declared.event.Event.TheVariants.{Start}
use Rattle.pst_scen.specs.declared.scenario.Scenario.{Scenario}
use Rattle.pst_scen.specs.Trace.{IsWhole}
use Rattle.pst_scen.specs.Core.{Command, Open, Makes, Done as Nothing, Core}
use Rattle.pst_scen.specs.Plan.{Entries, widest}
use Rattle.pst_scen.specs.Plans.{IsPlanOf}
use Rattle.pst_order.specs.Laws.{CoreIsOne}
use Rattle.pst_legal.specs.Body.{BodyRun, Ended, Trap, Wants}
use Rattle.pst_legal.specs.Laws.{BodiesEndOnce}
use Rattle.pst_book.specs.Books.{View}
use Rattle.pst_body.specs.Doing.{with_calls}
use Rattle.pst_exec.specs.Alone.{turns_of, events_of, RanWhole, RanUpTo}
use Rattle.pst_trace_texts.specs.declared.last.Last.{Last}
use Rattle.pst_trace_texts.specs.declared.last.Last.TheVariants as last
use Rattle.pst_trace_texts.specs.Texts.{trace_text}
use Rattle.pst_run_alone.specs.declared.answer.RunAnswer.TheVariants.{Narrow, TargetFault, BodyTrap}
use Rattle.pst_run_alone.specs.Shown.{narrow_text, IsTooWide, HasEnded, HasFailed, HasTrapped, RunsAreOne, TracesAreOne}
use Rattle.pst_run_alone.proofs.Calls.{IsStop, whole_comes, up_to_comes}
use Rattle.pst_run_alone.proofs.OneRun.{Goes, AreSame, one}

-- ---- the width of a plan

pub groups_same : (s : Scenario) (p q : Entries) → IsPlanOf s p → IsPlanOf s q → p.groups ≡ q.groups
groups_same s p q first second =
    let many = first.entries.many in
    let others = second.entries.many in
    same_number_lists p.groups q.groups (many ∙ sym others)
    (λ a below.
    let inside : a < length s.actions = omega (arith, below, many) in
    let one_is = first.entries.group a inside in
    let two_is = second.entries.group a inside in
    let under = one_is.least (get_or q.groups a 0) two_is.member in
    let over = two_is.least (get_or p.groups a 0) one_is.member in
    omega (arith, under, over))

-- ---- what was made

made_same : (before after made more : List Answered) → Some after ≡ with_calls (Some before) made → Some after ≡ with_calls (Some before) more → made ≡ more
made_same before after made more one_is two_is = append_cancel_left before made more (inj (sym one_is ∙ two_is))
  where
    inj : Some (before ++ made) ≡ Some (before ++ more) → before ++ made ≡ before ++ more
    inj same = cc

module _ (m : ModelTree) (s : Scenario) where
  goes_whole : (p : Entries) (before after : Option (List Answered)) (book : View) (r : RanWhole m s p before after book) → Goes m s [] r.actions None Ended [] r.made
  goes_whole p before after book r =
      let core = subst (λ (t : List Event). Core s 1 (turns_of r.actions) t) r.trace r.is_of.core in
      record {
        makes = subst (λ (cs : List Command). Makes s 1 [] cs (events_of r.actions ++ [])) (sym (append-nil (turns_of r.actions))) (subst (λ (t : List Event). Makes s 1 [] (turns_of r.actions) t) (sym (append-nil (events_of r.actions))) core);
        whole = subst (λ (t : List Event). IsWhole s t) r.trace r.whole;
        comes = whole_comes m s r.actions r.made r.runs;
      }

  goes_part : (p : Entries) (before after : Option (List Answered)) (action : ℕ) (to : BodyRun) (book : View) (r : RanUpTo m s p before after action to book) → IsStop to
      → Goes m s [] r.actions (Some action) to r.runs.part r.made
  goes_part p before after action to book r stops = record {
    makes = subst (λ (t : List Event). Core s 1 (turns_of r.actions ++ Open ∷ []) t) r.trace r.is_of.core;
    whole = tt;
    comes = up_to_comes m s r.actions action to r.made r.runs stops;
  }

-- ---- two answers

module _ (bodies : BodiesEndOnce) (cores : CoreIsOne) (m : ModelTree) (s : Scenario) (p q : Entries) (before after : List Answered) where
  on_calls : (xs ys : List ℕ) (o r : Option ℕ) (to other : BodyRun) (part more made calls : List Answered)
      → Some after ≡ with_calls (Some before) made → Some after ≡ with_calls (Some before) calls
      → Goes m s [] xs o to part made → Goes m s [] ys r other more calls → AreSame xs ys o r to other part more
  on_calls xs ys o r to other part more made calls one_is two_is a b =
      one m s bodies cores [] [] xs ys o r to other part more made (Nothing []) a
      (subst (λ (l : List Answered). Goes m s [] ys r other more l) (sym (made_same before after made calls one_is two_is)) b)

  wholes : (book view : View) → RanWhole m s p (Some before) (Some after) book → RanWhole m s q (Some before) (Some after) view → book.trace ≡ view.trace
  wholes book view a b =
      let same = on_calls a.actions b.actions None None Ended Ended [] [] a.made b.made a.calls b.calls (goes_whole m s p (Some before) (Some after) book a) (goes_whole m s q (Some before) (Some after) view b) in
      a.trace ∙ ap events_of same.actions ∙ sym b.trace

  whole_and_part : (book view : View) (action : ℕ) (to : BodyRun) → IsStop to → RanWhole m s p (Some before) (Some after) book → RanUpTo m s q (Some before) (Some after) action to view → ⊥
  whole_and_part book view action to stops a b =
      let same = on_calls a.actions b.actions None (Some action) Ended to [] b.runs.part a.made b.made a.calls b.calls (goes_whole m s p (Some before) (Some after) book a) (goes_part m s q (Some before) (Some after) action to view b stops) in
      subst IsStop (sym same.comes) stops

  part_and_whole : (book view : View) (action : ℕ) (to : BodyRun) → IsStop to → RanUpTo m s p (Some before) (Some after) action to book → RanWhole m s q (Some before) (Some after) view → ⊥
  part_and_whole book view action to stops a b =
      let same = on_calls a.actions b.actions (Some action) None to Ended a.runs.part [] a.made b.made a.calls b.calls (goes_part m s p (Some before) (Some after) action to book a stops) (goes_whole m s q (Some before) (Some after) view b) in
      subst IsStop same.comes stops

  record Alike (book view : View) (action act : ℕ) (to other : BodyRun) (part more : List Answered) : Type 0 where
    pub action_is : action ≡ act
    pub trace : book.trace ≡ view.trace
    pub comes : to ≡ other
    pub parts : part ≡ more

  parts_alike : (book view : View) (action act : ℕ) (to other : BodyRun) → IsStop to → IsStop other
      → (a : RanUpTo m s p (Some before) (Some after) action to book) (b : RanUpTo m s q (Some before) (Some after) act other view) → Alike book view action act to other a.runs.part b.runs.part
  parts_alike book view action act to other stops stop a b =
      let same = on_calls a.actions b.actions (Some action) (Some act) to other a.runs.part b.runs.part a.made b.made a.calls b.calls
      (goes_part m s p (Some before) (Some after) action to book a stops) (goes_part m s q (Some before) (Some after) act other view b stop) in
      let action_is : action ≡ act = inj same.last in
      record {
        action_is = action_is;
        trace = a.trace ∙ ap (λ (xs : List ℕ). events_of xs ++ Start action 0 false ∷ []) same.actions ∙ ap (λ (n : ℕ). events_of b.actions ++ Start n 0 false ∷ []) action_is ∙ sym b.trace;
        comes = same.comes;
        parts = same.parts;
      }
    where
      inj : Some action ≡ Some act → action ≡ act
      inj is = cc

abbrev is_wants : BodyRun → Type 0
is_wants Ended = ⊥
is_wants (Trap kind) = ⊥
is_wants (Wants function arguments) = Unit {0}

pub traces_one : BodiesEndOnce → CoreIsOne → TracesAreOne
traces_one bodies cores m s p q before after book view a b = wholes bodies cores m s p q before after book view a b

pub runs_one : BodiesEndOnce → CoreIsOne → RunsAreOne
runs_one bodies cores names m s p q before after old new _ _ _ _ first second (IsTooWide wide calls count) (IsTooWide wider calls2 count2) =
    let same = ap widest (groups_same s p q first second) in
    (ap (λ n. Narrow n 1) same, ap (λ n. narrow_text n 1) same)
runs_one bodies cores names m s p q before after old new _ _ _ _ first second (IsTooWide wide calls count) (HasEnded view fits b count2) = absurd (fits (subst (λ n. 1 < n) (ap widest (groups_same s p q first second)) wide))
runs_one bodies cores names m s p q before after old new _ _ _ _ first second (IsTooWide wide calls count) (HasFailed act call view fits b count2) = absurd (fits (subst (λ n. 1 < n) (ap widest (groups_same s p q first second)) wide))
runs_one bodies cores names m s p q before after old new _ _ _ _ first second (IsTooWide wide calls count) (HasTrapped act kind view fits b count2) = absurd (fits (subst (λ n. 1 < n) (ap widest (groups_same s p q first second)) wide))
runs_one bodies cores names m s p q before after old new _ _ _ _ first second (HasEnded book fits a count) (IsTooWide wide calls count2) = absurd (fits (subst (λ n. 1 < n) (sym (ap widest (groups_same s p q first second))) wide))
runs_one bodies cores names m s p q before after old new _ _ _ _ first second (HasFailed act call book fits a count) (IsTooWide wide calls count2) = absurd (fits (subst (λ n. 1 < n) (sym (ap widest (groups_same s p q first second))) wide))
runs_one bodies cores names m s p q before after old new _ _ _ _ first second (HasTrapped act kind book fits a count) (IsTooWide wide calls count2) = absurd (fits (subst (λ n. 1 < n) (sym (ap widest (groups_same s p q first second))) wide))
runs_one bodies cores names m s p q before after old new _ _ _ _ first second (HasEnded book fits a count) (HasEnded view fits2 b count2) =
    (refl, ap (λ (t : List Event). trace_text names m s t last.Done) (wholes bodies cores m s p q before after book view a b))
runs_one bodies cores names m s p q before after old new _ _ _ _ first second (HasEnded book fits a count) (HasFailed act call view fits2 b count2) =
    absurd (whole_and_part bodies cores m s p q before after book view act (Wants b.function b.arguments) tt a b.ran)
runs_one bodies cores names m s p q before after old new _ _ _ _ first second (HasEnded book fits a count) (HasTrapped act kind view fits2 b count2) =
    absurd (whole_and_part bodies cores m s p q before after book view act (Trap kind) tt a b)
runs_one bodies cores names m s p q before after old new _ _ _ _ first second (HasFailed action call book fits a count) (HasEnded view fits2 b count2) =
    absurd (part_and_whole bodies cores m s p q before after book view action (Wants a.function a.arguments) tt a.ran b)
runs_one bodies cores names m s p q before after old new _ _ _ _ first second (HasTrapped action kind book fits a count) (HasEnded view fits2 b count2) =
    absurd (part_and_whole bodies cores m s p q before after book view action (Trap kind) tt a b)
runs_one bodies cores names m s p q before after old new _ _ _ _ first second (HasFailed action call book fits a count) (HasFailed act number view fits2 b count2) =
    let same = parts_alike bodies cores m s p q before after book view action act (Wants a.function a.arguments) (Wants b.function b.arguments) tt tt a.ran b.ran in
    let call_is : call ≡ number = a.number ∙ ap (λ (l : List Answered). length l + 1) same.parts ∙ sym b.number in (
      ap (λ n. TargetFault 0 n call) same.action_is ∙ ap (λ n. TargetFault 0 act n) call_is,
      ap (λ (t : List Event). trace_text names m s t (last.Fault 0 action call)) same.trace
          ∙ ap (λ (l : Last). trace_text names m s view.trace l) (ap (λ n. last.Fault 0 n call) same.action_is ∙ ap (λ n. last.Fault 0 act n) call_is),
    )
runs_one bodies cores names m s p q before after old new _ _ _ _ first second (HasFailed action call book fits a count) (HasTrapped act kind view fits2 b count2) =
    let same = parts_alike bodies cores m s p q before after book view action act (Wants a.function a.arguments) (Trap kind) tt tt a.ran b in
    absurd (subst is_wants same.comes tt)
runs_one bodies cores names m s p q before after old new _ _ _ _ first second (HasTrapped action kind book fits a count) (HasFailed act call view fits2 b count2) =
    let same = parts_alike bodies cores m s p q before after book view action act (Trap kind) (Wants b.function b.arguments) tt tt a b.ran in
    absurd (subst is_wants (sym same.comes) tt)
runs_one bodies cores names m s p q before after old new _ _ _ _ first second (HasTrapped action kind book fits a count) (HasTrapped act other view fits2 b count2) =
    let same = parts_alike bodies cores m s p q before after book view action act (Trap kind) (Trap other) tt tt a b in
    let kind_is : kind ≡ other = inj kind other same.comes in (
      ap (λ n. BodyTrap 0 n kind) same.action_is ∙ ap (λ n. BodyTrap 0 act n) kind_is,
      ap (λ (t : List Event). trace_text names m s t (last.Trap 0 action kind)) same.trace
          ∙ ap (λ (l : Last). trace_text names m s view.trace l) (ap (λ n. last.Trap 0 n kind) same.action_is ∙ ap (λ n. last.Trap 0 act n) kind_is),
    )
  where
    inj : (kind other : ℕ) → Trap kind ≡ Trap other → kind ≡ other
    inj kind other is = cc
