-- Two runs on several lanes that tell the same calls: of the same commands they are one, but for the lane that is told.
use Rattle.std.proofs.Common.{◌≡◌, ◌∙◌, ℕ, ◌+◌, ◌<◌, ◌⊎◌, inl, inr, ⊎_elim, List, [], ◌∷◌, ◌++◌, length, get_or, refl, ap, sym, subst, append_assoc, append-nil, arith}
use Rattle.std.specs.Prelude.{ℤ, All, Option, Some, None, codes, slice_get}
use Rattle.std.proofs.lemmas.Bool.{cases_eq, cases_lt, cases_order}
use Rattle.std.proofs.lemmas.Option.{same_Some, none-some, option_and_then_some, slice_get_within}
use Rattle.std.proofs.lemmas.List.{append_cancel_left, get_or_past}
use Rattle.pst_base.specs.Fault.{last_count, HasRisen}
use Rattle.pst_target.specs.declared.call.Call.{Call as Answered}
use Rattle.pst_model.specs.ModelTree.{ModelTree}
use Rattle.pst_scen.specs.declared.event.Event.{Event}
use Rattle.pst_scen.specs.declared.scenario.Scenario.{Scenario}
use Rattle.pst_scen.specs.Core.{Command, Open, Close, Core, commands_of}
use Rattle.pst_order.specs.Laws.{CoreIsOne}
use Rattle.pst_legal.specs.Body.{BodyRun, Trap, Wants, body_run, act_run}
use Rattle.pst_legal.specs.Runs.{AreRuns}
use Rattle.pst_legal.specs.Laws.{BodiesEndOnce}
use Rattle.pst_body.specs.Doing.{with_calls}
use Rattle.pst_lanes.specs.Lanes.{ends_on}
use Rattle.pst_run_alone.specs.Lanes.{Lane, lane}
use Rattle.pst_run_alone.proofs.Calls.{one_run}
use Rattle.pst_generated.specs.Generated.{counts_text}
use Rattle.pst_outcome.specs.declared.answer.Answer.{Answer}
use Rattle.pst_outcome.specs.SharedRuns.{HasRun, HasRunUpTo, Break, Failed, Trapped, HasBroken, AtCall, InTrap, HaveRun, HaveStopped}
use Rattle.pst_outcome.specs.Laws.{Telling, Whole, Counts, Stop, answer_told, text_told, HasCome, TellsRun, BreaksAtOnce, HaveOtherCommands, MayDiffer, TellTwoRuns, IsTold}
use Rattle.pst_outcome.proofs.OneCounts.{as_many_ended}

-- ---- commands

close_same : (a b : ℕ) → Close a ≡ Close b → a ≡ b
close_same a b e = cc

command_cases : (c d : Command) → (c ≡ d) ⊎ (c ≡ d → ⊥)
command_cases Open Open = inl refl
command_cases Open (Close b) = inr (λ e. absurd cc)
command_cases (Close a) Open = inr (λ e. absurd cc)
command_cases (Close a) (Close b) = ⊎_elim (λ e. inl (ap Close e)) (λ n. inr (λ e. n (close_same a b e))) (cases_eq a b)

head_same : (c d : Command) (cs ds : List Command) → c ∷ cs ≡ d ∷ ds → c ≡ d
head_same c d cs ds e = cc

tail_same : (c d : Command) (cs ds : List Command) → c ∷ cs ≡ d ∷ ds → cs ≡ ds
tail_same c d cs ds e = cc

commands_cases : (cs ds : List Command) → (cs ≡ ds) ⊎ (cs ≡ ds → ⊥)
commands_cases [] [] = inl refl
commands_cases [] (d ∷ ds) = inr (λ e. absurd cc)
commands_cases (c ∷ cs) [] = inr (λ e. absurd cc)
commands_cases (c ∷ cs) (d ∷ ds) =
    ⊎_elim (λ e. ⊎_elim (λ f. inl (λ i. e i ∷ f i)) (λ n. inr (λ f. n (tail_same c d cs ds f))) (commands_cases cs ds)) (λ n. inr (λ f. n (head_same c d cs ds f))) (command_cases c d)

-- ---- one lane

-- the calls that a lane made are told
made_one : (l : Lane) (made more : List Answered) → IsTold l → l.after ≡ with_calls l.before made → l.after ≡ with_calls l.before more → made ≡ more
made_one l made more (before, after, was, is) one other =
    let same : Some (before ++ made) ≡ Some (before ++ more) = sym (ap (λ (o : Option (List Answered)). with_calls o made) was) ∙ sym one ∙ other ∙ ap (λ (o : Option (List Answered)). with_calls o more) was in
    append_cancel_left before made more (same_Some (before ++ made) (before ++ more) same)

-- no fault was counted in the one run, and one in the other
at_last : (l : Lane) → HasRisen l.faults_before l.faults_after → l.faults_after ≡ l.faults_before → l.faults_before ≡ last_count
at_last l (up, inl rose) same = absurd (omega (arith, rose, same))
at_last l (up, inr last) same = sym same ∙ last

module _ (bodies : BodiesEndOnce) (m : ModelTree) (s : Scenario) where
  -- whole runs of the same bodies at the front of the same calls are the same
  one_front : (actions : List ℕ) (made more rest others : List Answered) → AreRuns m s actions made → AreRuns m s actions more → made ++ rest ≡ more ++ others → (made ≡ more) × (rest ≡ others)
  one_front [] made more rest others none nothing same =
      (none ∙ sym nothing, sym (ap (λ (l : List Answered). l ++ rest) none) ∙ same ∙ ap (λ (l : List Answered). l ++ others) nothing)
  one_front (a ∷ actions) made more rest others (run, tail, are, ended, runs) (front, last, is, over, behind) same =
      let whole : run ++ (tail ++ rest) ≡ front ++ (last ++ others) =
      sym (append_assoc run tail rest) ∙ sym (ap (λ (l : List Answered). l ++ rest) are) ∙ same ∙ ap (λ (l : List Answered). l ++ others) is ∙ append_assoc front last others in
      let heads = one_run m s a run front (tail ++ rest) (last ++ others) bodies ended over whole in
      let tails = one_front actions tail last rest others runs behind heads.1 in
      (are ∙ ap (λ (l : List Answered). l ++ tail) heads.0 ∙ ap (λ (l : List Answered). front ++ l) tails.0 ∙ sym is, tails.1)

  module _ (l : Lane) (told : IsTold l) (actions : List ℕ) (action : ℕ) where
    -- the body came to one end
    same_end : (to other : BodyRun) (r : HasRunUpTo m s actions action to l) (q : HasRunUpTo m s actions action other l) → (to ≡ other) × (r.runs.part ≡ q.runs.part)
    same_end to other r q =
        let calls : r.runs.whole ++ r.runs.part ≡ q.runs.whole ++ q.runs.part = sym r.runs.are ∙ made_one l r.made q.made told r.calls q.calls ∙ q.runs.are in
        let parts = (one_front actions r.runs.whole q.runs.whole r.runs.part q.runs.part r.runs.runs q.runs.runs calls).1 in
        (same_Some to other (sym r.runs.comes_to ∙ ap (body_run m s action) parts ∙ q.runs.comes_to), parts)

    trap_same : (kind other : ℕ) → Trap kind ≡ Trap other → kind ≡ other
    trap_same kind other e = cc

    wants_no_trap : (f : ℕ) (xs : List ℤ) (kind : ℕ) → Wants f xs ≡ Trap kind → ⊥
    wants_no_trap f xs kind e = absurd cc

    same_break : (break end : Break) → HasBroken m s actions action l break → HasBroken m s actions action l end → break ≡ end
    same_break _ _ (AtCall f xs call r number risen) (AtCall g ys other q many rose) =
        ap Failed (number ∙ ap (λ (p : List Answered). length p + 1) (same_end (Wants f xs) (Wants g ys) r q).1 ∙ sym many)
    same_break _ _ (AtCall f xs call r number risen) (InTrap kind q count) = absurd (wants_no_trap f xs kind (same_end (Wants f xs) (Trap kind) r q).0)
    same_break _ _ (InTrap kind r count) (AtCall g ys other q many rose) = absurd (wants_no_trap g ys kind (sym (same_end (Trap kind) (Wants g ys) r q).0))
    same_break _ _ (InTrap kind r count) (InTrap other q counts) = ap Trapped (trap_same kind other (same_end (Trap kind) (Trap other) r q).0)

    -- where the lane's calls are whole runs too, the body made none
    no_part : (to : BodyRun) (r : HasRunUpTo m s actions action to l) → HasRun m s actions l → r.runs.part ≡ []
    no_part to r h =
        let calls : h.made ++ [] ≡ r.runs.whole ++ r.runs.part = append-nil h.made ∙ made_one l h.made r.made told h.calls r.calls ∙ r.runs.are in
        sym (one_front actions h.made r.runs.whole [] r.runs.part h.runs r.runs.runs calls).1

    at_once : (break : Break) → HasBroken m s actions action l break → HasRun m s actions l → BreaksAtOnce m s action l break
    at_once _ (AtCall f xs call r number risen) h =
        let none = no_part (Wants f xs) r h in
        (f, xs, sym (ap (body_run m s action) none) ∙ r.runs.comes_to, number ∙ ap (λ (p : List Answered). length p + 1) none, at_last l risen h.count)
    at_once _ (InTrap kind r count) h = sym (ap (body_run m s action) (no_part (Trap kind) r h)) ∙ r.runs.comes_to

  -- a body that broke off is of an action that there is
  body_in : (action : ℕ) (calls : List Answered) (to : BodyRun) → body_run m s action calls ≡ Some to → action < length s.actions
  body_in action calls to is = option_and_then_some (act_run m s calls action) (slice_get s.actions action) to is (λ x found comes. slice_get_within s.actions action x found)

  broken_in : (actions : List ℕ) (action : ℕ) (l : Lane) (break : Break) → HasBroken m s actions action l break → action < length s.actions
  broken_in actions action l _ (AtCall f xs call r number risen) = body_in action r.runs.part (Wants f xs) r.runs.comes_to
  broken_in actions action l _ (InTrap kind r count) = body_in action r.runs.part (Trap kind) r.runs.comes_to

  broken_made : (actions : List ℕ) (action : ℕ) (l : Lane) (break : Break) → HasBroken m s actions action l break → (made : List Answered) × (l.after ≡ with_calls l.before made)
  broken_made actions action l _ (AtCall f xs call r number risen) = (r.made, r.calls)
  broken_made actions action l _ (InTrap kind r count) = (r.made, r.calls)

-- ---- lanes

-- what a lane tells that isn't there
abbrev blank : Lane
blank = lane None (Some []) 0 0

lane_in : (lanes : List Lane) (k : ℕ) → (made : List Answered) × ((get_or lanes k blank).after ≡ with_calls (get_or lanes k blank).before made) → k < length lanes
lane_in lanes k has =
    ⊎_elim (λ below. below)
    (λ past. absurd (none-some [] (sym (subst (λ (l : Lane). l.after ≡ with_calls l.before has.0) (get_or_past lanes k blank past) has.1))))
    (cases_lt k (length lanes))

-- ---- two runs

-- how runs are told of that are asked for: with their counts, or not
abbrev pub IsOf : Option ℕ → Telling → Type 0
IsOf None Whole = Unit {0}
IsOf None (Counts size) = ⊥
IsOf None (Stop number action break) = Unit {0}
IsOf (Some size) Whole = ⊥
IsOf (Some size) (Counts more) = more ≡ size
IsOf (Some size) (Stop number action break) = Unit {0}

not_both : (asked : Option ℕ) (size : ℕ) → IsOf asked Whole → IsOf asked (Counts size) → ⊥
not_both None size whole counts = counts
not_both (Some more) size whole counts = whole

sizes_same : (asked : Option ℕ) (size more : ℕ) → IsOf asked (Counts size) → IsOf asked (Counts more) → size ≡ more
sizes_same None size more one other = absurd one
sizes_same (Some asked) size more one other = one ∙ sym other

module _ (bodies : BodiesEndOnce) (cores : CoreIsOne) (names : List (List ℕ)) (m : ModelTree) (s : Scenario) (count : ℕ) (lanes : List Lane) (told : All IsTold lanes) where
  -- a run with that trace has ended, and in another one with it an action runs
  whole_no_stop : (trace : List Event) (number action : ℕ) (break : Break) → HaveRun m s count trace lanes → HaveStopped m s count trace lanes number action break → ⊥
  whole_no_stop trace number action break run stop =
      stop.runs.running.1 (run.whole action (broken_in bodies m s (ends_on number trace) action (get_or lanes number blank) break (stop.here blank)))

  told_at : (trace : List Event) (number action : ℕ) (break : Break) → HaveStopped m s count trace lanes number action break → (d : Lane) → IsTold (get_or lanes number d)
  told_at trace number action break stop d =
      told number d (lane_in lanes number (broken_made bodies m s (ends_on number trace) action (get_or lanes number blank) break (stop.here blank)))

  -- the body on the less lane broke off at once
  less_lane : (trace : List Event) (number action less act : ℕ) (break end : Break) → HaveStopped m s count trace lanes number action break → HaveStopped m s count trace lanes less act end
      → number < less → (d : Lane) → BreaksAtOnce m s action (get_or lanes number d) break
  less_lane trace number action less act break end one other below d =
      at_once bodies m s (get_or lanes number d) (told_at trace number action break one d) (ends_on number trace) action break (one.here d) (other.below number d below)

  action_same : (action act : ℕ) → action ∷ [] ≡ act ∷ [] → action ≡ act
  action_same action act e = cc

  -- two stops on one lane are one
  same_lane : (trace : List Event) (number action act : ℕ) (break end : Break) → HaveStopped m s count trace lanes number action break → HaveStopped m s count trace lanes number act end
      → Stop number action break ≡ Stop number act end
  same_lane trace number action act break end one other =
      let is : action ≡ act = action_same action act (append_cancel_left (ends_on number trace) (action ∷ []) (act ∷ []) (sym one.runs.starts ∙ other.runs.starts)) in
      let broke = same_break bodies m s (get_or lanes number blank) (told_at trace number action break one blank) (ends_on number trace) action break end (one.here blank)
      (subst (λ (n : ℕ). HasBroken m s (ends_on number trace) n (get_or lanes number blank) end) (sym is) (other.here blank)) in
      λ i. Stop number (is i) (broke i)

  -- ---- of one trace

  two_stops : (trace : List Event) (number action less act : ℕ) (break end : Break) → HaveStopped m s count trace lanes number action break → HaveStopped m s count trace lanes less act end
      → (Stop number action break ≡ Stop less act end) ⊎ MayDiffer m s lanes trace trace (Stop number action break) (Stop less act end)
  two_stops trace number action less act break end one other =
      ⊎_elim
      (λ same. inl (same_lane trace number action act break end one (subst (λ (n : ℕ). HaveStopped m s count trace lanes n act end) (sym same) other) ∙ ap (λ (n : ℕ). Stop n act end) same))
      (λ apart. inr (inr (⊎_elim (λ below. inl (below, less_lane trace number action less act break end one other below)) (λ above. inr (above, less_lane trace less act number action end break other one above)) apart)))
      (cases_order number less)

  on_one_trace : (asked : Option ℕ) (trace : List Event) (one another : Telling) → IsOf asked one → IsOf asked another → HasCome m s count lanes trace one → HasCome m s count lanes trace another
      → (one ≡ another) ⊎ MayDiffer m s lanes trace trace one another
  on_one_trace asked trace Whole Whole is too h k = inl refl
  on_one_trace asked trace Whole (Counts size) is too h k = absurd (not_both asked size is too)
  on_one_trace asked trace Whole (Stop number action break) is too h k = absurd (whole_no_stop trace number action break h k)
  on_one_trace asked trace (Counts size) Whole is too h k = absurd (not_both asked size too is)
  on_one_trace asked trace (Counts size) (Counts more) is too h k = inl (ap Counts (sizes_same asked size more is too))
  on_one_trace asked trace (Counts size) (Stop number action break) is too h k = absurd (whole_no_stop trace number action break h k)
  on_one_trace asked trace (Stop number action break) Whole is too h k = absurd (whole_no_stop trace number action break k h)
  on_one_trace asked trace (Stop number action break) (Counts size) is too h k = absurd (whole_no_stop trace number action break k h)
  on_one_trace asked trace (Stop number action break) (Stop less act end) is too h k = two_stops trace number action less act break end h k

  -- ---- of other commands

  abbrev AreSame : List Event → List Event → Telling → Telling → Type 0
  AreSame trace other one another = (answer_told s one ≡ answer_told s another) × (text_told names m s trace one ≡ text_told names m s other another)

  same_counts : (trace other : List Event) (size more : ℕ) → size ≡ more → HaveRun m s count trace lanes → HaveRun m s count other lanes
      → text_told names m s trace (Counts size) ≡ text_told names m s other (Counts more)
  same_counts trace other size more is h k =
      let make = as_many_ended names m s count (codes "make") trace other h.legal k.legal h.whole k.whole in
      let take = as_many_ended names m s count (codes "take") trace other h.legal k.legal h.whole k.whole in
      λ i. counts_text (is i) (make i) (take i) (length s.actions)

  on_others : (asked : Option ℕ) (trace other : List Event) (one another : Telling) → HaveOtherCommands trace other → IsOf asked one → IsOf asked another
      → HasCome m s count lanes trace one → HasCome m s count lanes other another → AreSame trace other one another ⊎ MayDiffer m s lanes trace other one another
  on_others asked trace other Whole Whole apart is too h k = inr apart
  on_others asked trace other Whole (Counts size) apart is too h k = absurd (not_both asked size is too)
  on_others asked trace other Whole (Stop number action break) apart is too h k = inr apart
  on_others asked trace other (Counts size) Whole apart is too h k = absurd (not_both asked size too is)
  on_others asked trace other (Counts size) (Counts more) apart is too h k = inl (refl, same_counts trace other size more (sizes_same asked size more is too) h k)
  on_others asked trace other (Counts size) (Stop number action break) apart is too h k = inr apart
  on_others asked trace other (Stop number action break) Whole apart is too h k = inr apart
  on_others asked trace other (Stop number action break) (Counts size) apart is too h k = inr apart
  on_others asked trace other (Stop number action break) (Stop less act end) apart is too h k = inr (inl apart)

  -- ---- of any

  core_of : (trace : List Event) (one : Telling) → HasCome m s count lanes trace one → Core s count (commands_of trace) trace
  core_of trace Whole h = h.core
  core_of trace (Counts size) h = h.core
  core_of trace (Stop number action break) h = h.core

  -- what they tell is the same, or they may differ
  compared : (asked : Option ℕ) (trace other : List Event) (one another : Telling) → IsOf asked one → IsOf asked another
      → HasCome m s count lanes trace one → HasCome m s count lanes other another → AreSame trace other one another ⊎ MayDiffer m s lanes trace other one another
  compared asked trace other one another is too h k = ⊎_elim (λ same. by (one_trace same)) (λ apart. on_others asked trace other one another apart is too h k) (commands_cases (commands_of trace) (commands_of other))
    where
      one_trace : commands_of trace ≡ commands_of other → trace ≡ other
      one_trace same = cores s count (commands_of trace) trace other (core_of trace one h) (subst (λ (cs : List Command). Core s count cs other) (sym same) (core_of other another k))

      by : trace ≡ other → AreSame trace other one another ⊎ MayDiffer m s lanes trace other one another
      by same =
          subst (λ (es : List Event). AreSame trace es one another ⊎ MayDiffer m s lanes trace es one another) same
          (⊎_elim (λ e. inl (ap (answer_told s) e, ap (text_told names m s trace) e)) (λ differ. inr differ)
          (on_one_trace asked trace one another is too h (subst (λ (es : List Event). HasCome m s count lanes es another) (sym same) k)))

  pub two_tellings : (asked : Option ℕ) (trace other : List Event) (one another : Telling) (a b : Answer) (t u : List ℕ) → IsOf asked one → IsOf asked another
      → TellsRun names m s count lanes trace one a t → TellsRun names m s count lanes other another b u
      → ((a ≡ b) × (t ≡ u)) ⊎ TellTwoRuns names m s count lanes a b t u
  two_tellings asked trace other one another a b t u is too first second =
      ⊎_elim (λ same. inl (first.answer ∙ same.0 ∙ sym second.answer, first.text ∙ same.1 ∙ sym second.text))
      (λ differ. inr (record { trace = trace; other = other; one = one; another = another; first = first; second = second; differ = differ }))
      (compared asked trace other one another is too first.come second.come)
