-- What a book on one lane opens.
use Rattle.std.proofs.Common.{◌≡◌, ◌≢◌, ◌<◌, ℕ, zero, suc, List, [], ◌∷◌, ◌++◌, length, true, false, refl, ap, subst, sym, ◌∙◌, arith}
use Rattle.std.specs.Prelude.{Contains, Option, None, Some, MatchOption, IsSome}
use Rattle.pst_scen.specs.declared.event.Event.{Event}
use Rattle.pst_scen.specs.declared.event.Event.TheVariants.{Start}
use Rattle.pst_scen.specs.declared.scenario.Scenario.{Scenario}
use Rattle.pst_scen.specs.Trace.{StartsOn, Started, Ended, Runs, IsHeld, IsWhole, starts_of}
use Rattle.pst_scen.specs.Core.{Opens}
use Rattle.pst_book.specs.declared.book.Opened.{Opened}
use Rattle.pst_book.specs.Books.{View, with_trace, IsShut, DidOpen}
use Rattle.pst_exec.specs.Alone.{events_of}
use Rattle.pst_exec.specs.Steps.{IsSerial, StartsNext}
use Rattle.pst_exec.proofs.Serial.{nothing_runs, last_runs, last_not_ended, last_starts}

first_in : (x : ℕ) (xs : List ℕ) → Contains (x ∷ xs) x
first_in x xs = (0, omega arith, refl)

second_in : (x y : ℕ) (xs : List ℕ) → Contains (x ∷ y ∷ xs) y
second_in x y xs = (1, omega arith, refl)

record StartsOne (s : Scenario) (trace : List Event) (members used : List ℕ) : Type 0 where
  pub action : ℕ
  pub events : starts_of members used ≡ Start action 0 false ∷ []
  pub fresh : Started trace action → ⊥
  pub inside : action < length s.actions

starts_one : (s : Scenario) (trace : List Event) (members used : List ℕ) → Opens s 1 trace members used → StartsOne s trace members used
starts_one s trace [] used opens = let some = opens.ready.group.some in absurd (omega (arith, some))
starts_one s trace (a ∷ []) [] opens = let many = opens.free.many in absurd (omega (arith, many))
starts_one s trace (a ∷ []) (zero ∷ []) opens = record {
  action = a;
  events = refl;
  fresh = opens.ready.fresh a (first_in a []);
  inside = opens.ready.group.inside a (first_in a []);
}
starts_one s trace (a ∷ []) (suc l ∷ []) opens = let below = opens.free.below (suc l) (first_in (suc l) []) in absurd (omega (arith, below))
starts_one s trace (a ∷ []) (l ∷ k ∷ ls) opens = let many = opens.free.many in absurd (omega (arith, many))
starts_one s trace (a ∷ b ∷ more) [] opens = let many = opens.free.many in absurd (omega (arith, many))
starts_one s trace (a ∷ b ∷ more) (l ∷ []) opens = let many = opens.free.many in absurd (omega (arith, many))
starts_one s trace (a ∷ b ∷ more) (l ∷ k ∷ ls) opens =
    let first = opens.free.below l (first_in l (k ∷ ls)) in
    let second = opens.free.below k (second_in l k ls) in
    let apart : l ≢ k = opens.free.different 0 1 (omega arith) (omega arith) in
    absurd (apart (omega (arith, first, second)))

-- one action starts, and it alone runs
pub record OpensOne (old new : View) : Type 0 where
  pub action : ℕ
  pub next : StartsNext old new action
  pub held : IsHeld new.trace 0
  pub alone : (b : ℕ) → StartsOn new.trace b 0 → (Ended new.trace b → ⊥) → action ≡ b

pub opens_one : (old new : View) (first count : ℕ) → IsSerial old → DidOpen old new first count → OpensOne old new
opens_one old new first count serial did =
    let one = starts_one old.scenario old.trace did.members did.used (subst (λ (n : ℕ). Opens old.scenario n old.trace did.members did.used) serial.lanes did.opens) in
    let a = one.action in
    let new_is : new ≡ with_trace old (old.trace ++ Start a 0 false ∷ []) = did.new_is ∙ ap (λ (es : List Event). with_trace old (old.trace ++ es)) one.events in
    let trace : new.trace ≡ events_of serial.actions ++ Start a 0 false ∷ [] = ap (λ (v : View). v.trace) new_is ∙ ap (λ (es : List Event). es ++ Start a 0 false ∷ []) serial.trace in
    let fresh : Started (events_of serial.actions) a → ⊥ = subst (λ (es : List Event). Started es a → ⊥) serial.trace one.fresh in
    let on : StartsOn new.trace a 0 = subst (λ (es : List Event). StartsOn es a 0) (sym trace) (last_starts serial.actions a) in
    let still : Ended new.trace a → ⊥ = subst (λ (es : List Event). Ended es a → ⊥) (sym trace) (last_not_ended serial.actions a fresh) in
    record {
      action = a;
      next = record { new_is = new_is; inside = one.inside; runs = ((0, on), still) };
      held = (a, on, still);
      alone = λ b starts running. last_runs serial.actions a b (subst (λ (es : List Event). StartsOn es b 0) trace starts) (subst (λ (es : List Event). Ended es b → ⊥) trace running);
    }

pub opening : (result : Option Opened) (old new : View) → IsSerial old → (IsWhole old.scenario old.trace → ⊥)
    → MatchOption result ((new ≡ old) × IsShut old) (λ o. DidOpen old new o.first o.count)
    → (((a : ℕ) → Runs old.trace a → ⊥) → (IsWhole old.scenario old.trace → ⊥) → IsSome result) → OpensOne old new
opening None old new serial left step goes_on =
    let no : false ≡ true = goes_on (λ a runs. nothing_runs serial.actions a (subst (λ (es : List Event). Runs es a) serial.trace runs)) left in absurd cc
opening (Some o) old new serial left step goes_on = opens_one old new o.first o.count serial step
