-- Whole bodies.
use Rattle.std.proofs.Common.{◌≡◌, ℕ, ℤ, pos, List, [], ◌∷◌, map, length, replicate, slice_get, Option, Some, Result, Ok, Err, inl, inr, refl, ap, subst, sym, ◌∙◌, arith}
use Rattle.std.specs.Option.{option_and_then}
use Rattle.std.proofs.lemmas.List.{append-nil}
use Rattle.pst_expr.specs.declared.ranges.Span.{Span}
use Rattle.pst_target.specs.declared.call.Call.{Call as Answered}
use Rattle.pst_model.specs.BodyTree.{BodyStepTree}
use Rattle.pst_model.specs.ModelTree.{ModelTree, ActionTree}
use Rattle.pst_scen.specs.declared.act.Act.{Act}
use Rattle.pst_scen.specs.declared.scenario.Scenario.{Scenario}
use Rattle.pst_legal.specs.Types.{type_of}
use Rattle.pst_legal.specs.Body.{State, Outcome, Place, run_steps, BodyRun, run_of, steps_in, steps_run, body_of, act_run, body_run}
use Rattle.pst_body.specs.declared.ending.BodyEnd.{BodyEnd}
use Rattle.pst_body.specs.declared.ending.BodyEnd.TheVariants.{Fault, Trap, NoMemory}
use Rattle.pst_body.specs.Stores.{Store, state_of}
use Rattle.pst_body.specs.Doing.{goes_on, Came, DidTo}
use Rattle.pst_body.specs.Ran.{AreOf, Ran}
use Rattle.pst_body.proofs.Coming.{with_none}

-- nothing was done
pub ran_nothing : {U : Type 0} (run : List Answered → Option BodyRun) (calls : Option (List Answered)) (f : ℕ) → Ran {A = U} run calls calls f f (Err NoMemory)
ran_nothing run calls f = record { made = []; calls = sym (with_none calls); are = inl refl; faults = refl }

are_as : {U : Type 0} (one other : Option BodyRun) (made : List Answered) (result : Result U BodyEnd) → one ≡ other → AreOf other made result → AreOf one made result
are_as one other made result same are = subst (λ (r : Option BodyRun). AreOf r made result) (sym same) are

pub ran_as : {U : Type 0} (run other : List Answered → Option BodyRun) (before after : Option (List Answered)) (f g : ℕ) (result : Result U BodyEnd) → ((calls : List Answered) → run calls ≡ other calls)
    → Ran other before after f g result → Ran run before after f g result
ran_as run other before after f g result same ran = record { made = ran.made; calls = ran.calls; are = are_as (run ran.made) (other ran.made) ran.made result (same ran.made) ran.are; faults = ran.faults }

zeros : (ranges : List Span) → map (λ (range : Span). pos 0) ranges ≡ replicate (length ranges) (pos 0)
zeros [] = refl
zeros (r ∷ ranges) = ap (λ (l : List ℤ). pos 0 ∷ l) (zeros ranges)

came_all : {U : Type 0} (part : State → Outcome) (old new : Store) (made : List Answered) (result : Result U BodyEnd) → old.calls ≡ 0 → Came part goes_on old new made result → AreOf (run_of (part (state_of old made))) made result
came_all part old new made (Ok u) none came = ap run_of (ap (λ (l : List Answered). part (state_of old l)) (sym (append-nil made)) ∙ came [])
came_all part old new made (Err (Trap kind)) none came = ap run_of (ap (λ (l : List Answered). part (state_of old l)) (sym (append-nil made)) ∙ came [])
came_all part old new made (Err (Fault call)) none came = ((came.0.function, came.0.arguments, ap run_of came.0.asks), let number = came.1 in omega (arith, number, none))
came_all part old new made (Err NoMemory) none came = inr (came.function, came.arguments, ap run_of came.asks)

module _ (m : ModelTree) (s : Scenario) (a : ℕ) (act : Act) (steps : List BodyStepTree) (ranges : List Span) where
  abbrev place : Place
  place = record { ranges = ranges; model = m; scenario = s; number = a; act = act; indices = [] }

  pub ran_steps : {U : Type 0} (old new : Store) (before after : Option (List Answered)) (f g : ℕ) (result : Result U BodyEnd) (room : ℕ)
      → old ≡ record { locals = replicate (length ranges) (pos 0); room = room; arguments = []; count = 0; calls = 0 } → DidTo (run_steps place steps) goes_on old new before after f g result
      → Ran (λ calls. steps_run m s calls a act steps ranges) before after f g result
  ran_steps old new before after f g result room is did = record {
    made = did.list;
    calls = did.made.calls;
    are = are_as (steps_run m s did.list a act steps ranges) (run_of (run_steps place steps (state_of old did.list))) did.list result
        (ap (λ (l : List ℤ). run_of (run_steps place steps (record { locals = l; count = 0; left = did.list }))) (zeros ranges) ∙ sym (ap (λ (t : Store). run_of (run_steps place steps (state_of t did.list))) is))
        (came_all (run_steps place steps) old new did.list result (ap (λ (t : Store). t.calls) is) did.came);
    faults = did.faults;
  }

-- the body of an action of that type
pub run_is : (m : ModelTree) (s : Scenario) (a : ℕ) (act : Act) (type : ActionTree) → slice_get s.actions a ≡ Some act → type_of m act.action ≡ Some type
    → (calls : List Answered) → body_run m s a calls ≡ body_of m s calls a act (steps_in type.content)
run_is m s a act type is_act is_type calls =
    ap (λ (o : Option Act). option_and_then (act_run m s calls a) o) is_act
    ∙ ap (λ (o : Option ActionTree). option_and_then (λ t. body_of m s calls a act (steps_in t.content)) o) is_type

-- without steps it ends
pub ran_empty : {U : Type 0} (u : U) (m : ModelTree) (s : Scenario) (a : ℕ) (act : Act) (calls : Option (List Answered)) (f : ℕ) → Ran (λ made. body_of m s made a act []) calls calls f f (Ok u)
ran_empty u m s a act calls f = record { made = []; calls = sym (with_none calls); are = refl; faults = refl }
