-- What the commands of a book keep.
use Rattle.std.proofs.Common.{◌≡◌, ◌*◌, ℕ, ◌+◌, ◌<◌, ◌≤◌, List, [], ◌∷◌, ◌++◌, length, take, sym, ap, ◌∙◌, subst, arith, length-append}
use Rattle.pst_scen.specs.declared.event.Event.{Event}
use Rattle.pst_scen.specs.declared.event.Event.TheVariants.{End}
use Rattle.pst_scen.specs.declared.scenario.Scenario.{Scenario}
use Rattle.pst_scen.specs.Trace.{Ended, Runs, Starts, Ends, starts_of}
use Rattle.pst_scen.specs.Plan.{Entries, members, widest}
use Rattle.pst_scen.specs.Plans.{IsPlanOf}
use Rattle.pst_scen.specs.Core.{IsStartable, Opens, Open, Close, Step, Opened, Closed}
use Rattle.pst_order.specs.Rule.{IsByCore}
use Rattle.pst_order.specs.Laws.{MembersAreThose, PlanGroupsAreWhole, WholeGroupsAreOne, MustIsInside, CoreIsByRule, RuleFits, RuleGoesOn}
use Rattle.pst_book.specs.Books.{with_trace, StartsFirst, NoneStarts, AreIdle, AreStarted, IsShut, DidOpen}
use Rattle.pst_book.specs.Tables.{RunView}
use Rattle.pst_book.specs.Kept.{view_at, IsKept}
use Rattle.pst_book.proofs.Events.{length_starts}
use Rattle.pst_book.proofs.Idle.{idle_of}
use Rattle.pst_book.proofs.Starting.{starts_taken}
use Rattle.pst_book.proofs.Openings.{shut, opens}

-- the run goes on: its plan and lanes stay, and room doesn't shrink
pub record GoesOn (old new : RunView) (trace : List Event) : Type 0 where
  pub plan : new.plan ≡ old.plan
  pub lanes : new.lanes ≡ old.lanes
  pub trace_is : new.trace ≡ trace
  pub room : old.room ≤ new.room

module _ (by_rule : CoreIsByRule) (rule_fits : RuleFits) (s : Scenario) (run : RunView) (kept : IsKept s run) where
  -- the events of a longer trace that the core makes have room
  fits : (t : List Event) → IsByCore s run.lanes t → length t ≤ 2 * length s.actions
  fits t core = rule_fits s run.lanes t (by_rule s run.lanes t core)

  pub trace_fits : length run.trace ≤ 2 * length s.actions
  trace_fits = fits run.trace kept.core

  ended : (a : ℕ) → Runs run.trace a → IsByCore s run.lanes (run.trace ++ End a ∷ [])
  ended a r =
      record {
        blocks = Ends a ∷ kept.core.blocks;
        are = ap (λ t. t ++ End a ∷ []) kept.core.are;
        core = (kept.core.core, subst (λ t. Runs t a) (sym kept.core.are) r);
      }

  pub end_room : (a : ℕ) → Runs run.trace a → length run.trace < run.room
  end_room a r =
      let l = fits (run.trace ++ End a ∷ []) (ended a r) in
      let e : length (run.trace ++ End a ∷ []) ≡ length run.trace + 1 = length-append run.trace (End a ∷ []) in
      omega (arith, l, e, kept.room)

  -- the book after a command
  after : (r : RunView) (t : List Event) → GoesOn run r t → IsByCore s run.lanes t → IsKept s r
  after r t on core =
      let wide = kept.wide in
      let some = kept.some in
      let few = kept.few in
      let same = on.lanes in
      let room = on.room in
      record {
        links = kept.links;
        plan = subst (λ (p : Entries). IsPlanOf s p) (sym on.plan) kept.plan;
        some = omega (arith, some, same);
        few = omega (arith, few, same);
        wide = subst (λ (p : Entries). widest p.groups ≤ r.lanes) (sym on.plan) (subst (λ n. widest run.plan.groups ≤ n) (sym on.lanes) wide);
        core = subst (λ n. IsByCore s n r.trace) (sym on.lanes) (subst (λ u. IsByCore s run.lanes u) (sym on.trace_is) core);
        small = kept.small;
        room = omega (arith, kept.room, room);
      }

  pub after_end : (r : RunView) (a : ℕ) → Runs run.trace a → GoesOn run r (run.trace ++ End a ∷ []) → IsKept s r
  after_end r a runs on = after r (run.trace ++ End a ∷ []) on (ended a runs)

  pub end_step : (r : RunView) (a : ℕ) → Runs run.trace a → GoesOn run r (run.trace ++ End a ∷ []) → Step s run.lanes run.trace (Close a) r.trace
  end_step r a runs on = subst (λ t. Step s run.lanes run.trace (Close a) t) (sym on.trace_is) (Closed a runs)

  -- the book with the run's new trace
  seen : (r : RunView) (t : List Event) → GoesOn run r t → view_at s r ≡ with_trace (view_at s run) t
  seen r t on = λ i. record { scenario = s; plan = on.plan i; lanes = on.lanes i; trace = on.trace_is i }

  pub end_view : (r : RunView) (a : ℕ) → GoesOn run r (run.trace ++ End a ∷ []) → view_at s r ≡ with_trace (view_at s run) (run.trace ++ End a ∷ [])
  end_view r a on = seen r (run.trace ++ End a ∷ []) on

  pub goes_on : RuleGoesOn → ((a : ℕ) → Runs run.trace a → ⊥) → (a : ℕ) → a < length s.actions → (Ended run.trace a → ⊥) → ((ms : List ℕ) → IsStartable s run.lanes run.trace ms → ⊥) → ⊥
  goes_on rule still a l n none =
      let o = rule s run.plan run.lanes run.trace kept.links kept.plan kept.wide (by_rule s run.lanes run.trace kept.core) still a l n in
      none o.0 o.1

  module _ (these : MembersAreThose) (whole : PlanGroupsAreWhole) (one : WholeGroupsAreOne) (inside : MustIsInside) where
    pub none_starts : NoneStarts run.plan run.lanes run.trace → IsShut (view_at s run)
    none_starts n = shut these whole one s run.plan kept.plan run.lanes run.trace n

    opens_at : (g : ℕ) (idle : List ℕ) → StartsFirst run.plan run.lanes run.trace g → AreIdle run.trace 0 run.lanes idle → Opens s run.lanes run.trace (members run.plan.groups g) (take (length (members run.plan.groups g)) idle)
    opens_at g idle first are =
        opens these whole one s run.plan kept.plan run.lanes run.trace (λ x y l m. inside s x y kept.plan.runs l m) g idle first are

    opened : (g : ℕ) (idle : List ℕ) → StartsFirst run.plan run.lanes run.trace g → AreIdle run.trace 0 run.lanes idle → IsByCore s run.lanes (run.trace ++ starts_of (members run.plan.groups g) (take (length (members run.plan.groups g)) idle))
    opened g idle first are =
        let ms = members run.plan.groups g in
        let us = take (length ms) idle in
        record {
          blocks = Starts ms us ∷ kept.core.blocks;
          are = ap (λ t. t ++ starts_of ms us) kept.core.are;
          core = (kept.core.core, subst (λ t. Opens s run.lanes t ms us) (sym kept.core.are) (opens_at g idle first are));
        }

    pub open_room : (g : ℕ) → StartsFirst run.plan run.lanes run.trace g → length run.trace + length (members run.plan.groups g) ≤ run.room
    open_room g first =
        let ms = members run.plan.groups g in
        let idle = idle_of run.trace run.lanes in
        let us = take (length ms) idle.0 in
        let l = fits (run.trace ++ starts_of ms us) (opened g idle.0 first idle.1) in
        let e : length (run.trace ++ starts_of ms us) ≡ length run.trace + length (starts_of ms us) = length-append run.trace (starts_of ms us) in
        let f = length_starts ms us in
        let many = (opens_at g idle.0 first idle.1).free.many in
        omega (arith, l, e, f, many, kept.room)

    new_is : (v : List Event) (g : ℕ) (q : AreStarted run.trace v (members run.plan.groups g) run.lanes) → v ≡ run.trace ++ starts_of (members run.plan.groups g) (take (length (members run.plan.groups g)) q.idle)
    new_is v g q = q.new_is ∙ ap (λ t. run.trace ++ t) (sym (starts_taken (members run.plan.groups g) q.idle))

    -- the book after a start
    started : (r : RunView) (g : ℕ) → (q : AreStarted run.trace r.trace (members run.plan.groups g) run.lanes) → r.plan ≡ run.plan → r.lanes ≡ run.lanes → run.room ≤ r.room → GoesOn run r (run.trace ++ starts_of (members run.plan.groups g) (take (length (members run.plan.groups g)) q.idle))
    started r g q plan lanes room = record { plan = plan; lanes = lanes; trace_is = new_is r.trace g q; room = room }

    pub after_open : (r : RunView) (g : ℕ) → StartsFirst run.plan run.lanes run.trace g → AreStarted run.trace r.trace (members run.plan.groups g) run.lanes → r.plan ≡ run.plan → r.lanes ≡ run.lanes → run.room ≤ r.room → IsKept s r
    after_open r g first q plan lanes room =
        after r (run.trace ++ starts_of (members run.plan.groups g) (take (length (members run.plan.groups g)) q.idle)) (started r g q plan lanes room) (opened g q.idle first q.are)

    pub open_step : (r : RunView) (g : ℕ) → StartsFirst run.plan run.lanes run.trace g → AreStarted run.trace r.trace (members run.plan.groups g) run.lanes → Step s run.lanes run.trace Open r.trace
    open_step r g first q =
        let ms = members run.plan.groups g in
        subst (λ t. Step s run.lanes run.trace Open t) (sym (new_is r.trace g q)) (Opened ms (take (length ms) q.idle) (opens_at g q.idle first q.are))

    pub did_open : (r : RunView) (g first_event many : ℕ) → StartsFirst run.plan run.lanes run.trace g → AreStarted run.trace r.trace (members run.plan.groups g) run.lanes → r.plan ≡ run.plan → r.lanes ≡ run.lanes → run.room ≤ r.room → first_event ≡ length run.trace → many ≡ length (members run.plan.groups g) → DidOpen (view_at s run) (view_at s r) first_event many
    did_open r g f m first q plan lanes room ef em =
        let ms = members run.plan.groups g in
        record {
          members = ms;
          used = take (length ms) q.idle;
          opens = opens_at g q.idle first q.are;
          new_is = seen r (run.trace ++ starts_of ms (take (length ms) q.idle)) (started r g q plan lanes room);
          first_is = ef;
          count_is = em;
        }
