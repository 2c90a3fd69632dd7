-- What the core makes is by its rule, and an action that started last on one lane runs.
use Rattle.std.proofs.Common.{◌≡◌, ◌≤◌, ℕ, zero, suc, ◌+◌, List, [], ◌∷◌, ◌++◌, Bool, true, false, cond, nat_eq, refl, sym, ap, subst, ◌∙◌, ⊎_elim, arith}
use Rattle.std.specs.Prelude.{Contains}
use Rattle.std.specs.List.{count_by}
use Rattle.std.proofs.lemmas.Bool.Decides.{nat_tests}
use Rattle.std.proofs.lemmas.List.Sums.{sum_by-append, sum_by-cons}
use Rattle.std.proofs.lemmas.List.Elements.{Contains-append_cases}
use Rattle.pst_scen.specs.declared.event.Event.{Event}
use Rattle.pst_scen.specs.declared.event.Event.TheVariants.{Start, End}
use Rattle.pst_scen.specs.declared.scenario.Scenario.{Scenario}
use Rattle.pst_scen.specs.Core.{IsReady, Command, Step, Opened, Shut, Closed, Idle, Makes, Done, Then, Core}
use Rattle.pst_scen.specs.Trace.{Starts, Ends, starts_of, AreFree, Runs, Ended, IsLegalTrace}
use Rattle.pst_order.specs.Rule.{IsByRule}
use Rattle.pst_lanes.specs.Lanes.{is_start}
use Rattle.pst_lanes.specs.Laws.{StartsOnce}
use Rattle.pst_exec.specs.Alone.{events_of}

-- ---- by the rule

one_step : (s : Scenario) (lanes : ℕ) (before after : List Event) (command : Command) → IsByRule s lanes before → Step s lanes before command after → IsByRule s lanes after
one_step s lanes before _ _ own (Opened members used opens) = record {
  blocks = Starts members used ∷ own.blocks;
  are = ap (λ (es : List Event). es ++ starts_of members used) own.are;
  rule = (own.rule, subst (λ (es : List Event). IsReady s es members × AreFree lanes es members used) (sym own.are) (opens.ready, opens.free));
}
one_step s lanes before _ _ own (Shut none) = own
one_step s lanes before _ _ own (Closed a runs) = record {
  blocks = Ends a ∷ own.blocks;
  are = ap (λ (es : List Event). es ++ End a ∷ []) own.are;
  rule = (own.rule, subst (λ (es : List Event). Runs es a) (sym own.are) runs);
}
one_step s lanes before _ _ own (Idle a idle) = own

more_steps : (s : Scenario) (lanes : ℕ) (before after : List Event) (commands : List Command) → IsByRule s lanes before → Makes s lanes before commands after → IsByRule s lanes after
more_steps s lanes _ _ _ own (Done t) = own
more_steps s lanes _ _ _ own (Then before middle after command more step rest) = more_steps s lanes middle after more (one_step s lanes before middle command own step) rest

pub by_rule : (s : Scenario) (lanes : ℕ) (trace : List Event) (commands : List Command) → Core s lanes commands trace → IsByRule s lanes trace
by_rule s lanes trace commands core = more_steps s lanes [] trace commands (record { blocks = []; are = refl; rule = tt }) core

-- ---- the last start

is_own : (a : ℕ) → nat_eq a a ≡ true
is_own a = grind (arith, nat_tests)

abbrev is_a_start : Event → Type 0
is_a_start (Start act lane more) = Unit {0}
is_a_start (End act) = ⊥

start_is_end : (a b l : ℕ) (more : Bool) → Start b l more ≡ End a → ⊥
start_is_end a b l more same = subst is_a_start same tt

abbrev act_of : Event → ℕ
act_of (Start act lane more) = act
act_of (End act) = act

abbrev bit : Bool → ℕ
bit test = cond test 1 0

-- an action that has ended among those that ran one after another has started there
ended_counts : (actions : List ℕ) (a : ℕ) → Contains (events_of actions) (End a) → 1 ≤ count_by (is_start a) (events_of actions)
ended_counts [] a (k, below, is) = absurd (omega (arith, below))
ended_counts (b ∷ more) a (zero, below, is) = absurd (start_is_end a b 0 false is)
ended_counts (b ∷ more) a (suc zero, below, is) =
    let same : b ≡ a = ap act_of is in
    let here : bit (nat_eq b a) ≡ 1 = ap bit (subst (λ (x : ℕ). nat_eq x a ≡ true) (sym same) (is_own a)) in
    let all : count_by (is_start a) (events_of (b ∷ more)) ≡ bit (nat_eq b a) + count_by (is_start a) (End b ∷ events_of more) = sum_by-cons (λ (e : Event). bit (is_start a e)) (Start b 0 false) (End b ∷ events_of more) in
    omega (arith, here, all)
ended_counts (b ∷ more) a (suc (suc k), below, is) =
    let later = ended_counts more a (k, omega (arith, below), is) in
    let all : count_by (is_start a) (events_of (b ∷ more)) ≡ bit (nat_eq b a) + count_by (is_start a) (End b ∷ events_of more) = sum_by-cons (λ (e : Event). bit (is_start a e)) (Start b 0 false) (End b ∷ events_of more) in
    let rest : count_by (is_start a) (End b ∷ events_of more) ≡ 0 + count_by (is_start a) (events_of more) = sum_by-cons (λ (e : Event). bit (is_start a e)) (End b) (events_of more) in
    omega (arith, later, all, rest)

-- so one that starts behind them has not ended
pub not_ended : StartsOnce → (s : Scenario) (lanes : ℕ) (actions : List ℕ) (a : ℕ) → IsLegalTrace s lanes (events_of actions ++ Start a 0 false ∷ []) → Ended (events_of actions ++ Start a 0 false ∷ []) a → ⊥
not_ended once s lanes actions a legal ended = ⊎_elim before here (Contains-append_cases (events_of actions) (Start a 0 false ∷ []) (End a) ended)
  where
    all : count_by (is_start a) (events_of actions ++ Start a 0 false ∷ []) ≡ count_by (is_start a) (events_of actions) + count_by (is_start a) (Start a 0 false ∷ [])
    all = sum_by-append (λ (e : Event). bit (is_start a e)) (events_of actions) (Start a 0 false ∷ [])

    own : count_by (is_start a) (Start a 0 false ∷ []) ≡ 1
    own = sum_by-cons (λ (e : Event). bit (is_start a e)) (Start a 0 false) [] ∙ ap (λ (t : Bool). bit t + 0) (is_own a)

    before : Contains (events_of actions) (End a) → ⊥
    before h =
        let few = once s lanes (events_of actions ++ Start a 0 false ∷ []) legal a in
        let counts = ended_counts actions a h in
        let sums = all in
        let one = own in
        omega (arith, few, counts, sums, one)

    here : Contains (Start a 0 false ∷ []) (End a) → ⊥
    here (zero, below, is) = start_is_end a a 0 false is
    here (suc k, below, is) = omega (arith, below)
