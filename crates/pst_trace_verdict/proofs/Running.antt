-- Whether an action runs on a lane.
use Rattle.std.proofs.Common.{◌≡◌, ◌<◌, ◌+◌, ℕ, zero, suc, List, [], ◌∷◌, length, get_or, Bool, true, false, ◌&&◌, ◌||◌, nat_eq, not, refl, sym, ap, subst, ◌∙◌, arith}
use Rattle.std.specs.Prelude.{◌↔◌, Contains, IsTrue}
use Rattle.std.specs.List.{list_any}
use Rattle.std.proofs.lemmas.Bool.Decides.{nat_tests}
use Rattle.pst_scen.specs.declared.event.Event.{Event}
use Rattle.pst_scen.specs.declared.event.Event.TheVariants.{Start, End}
use Rattle.pst_scen.specs.Trace.{StartsOn, Ended}
use Rattle.pst_trace_verdict.specs.Events.{RunsOn, starts_it, ends_it}

later : (x y : Event) (xs : List Event) → Contains xs y → Contains (x ∷ xs) y
later x y xs (k, below, is) = (suc k, omega (arith, below), is)

-- ---- from a test to an event

start_here : (act lane : ℕ) (e : Event) → starts_it act lane e ≡ true → (more : Bool) × (e ≡ Start act lane more)
start_here act lane (Start other used more) is = (more, by (nat_eq other act) (nat_eq used lane) refl refl is)
  where
    by : (a b : Bool) → nat_eq other act ≡ a → nat_eq used lane ≡ b → (a && b) ≡ true → Start other used more ≡ Start act lane more
    by true true one two both =
        let first : other ≡ act = grind (arith, nat_tests, one) in
        let second : used ≡ lane = grind (arith, nat_tests, two) in
        ap (λ n. Start n used more) first ∙ ap (λ n. Start act n more) second
    by true false one two both = let no : false ≡ true = both in absurd cc
    by false b one two both = let no : false ≡ true = both in absurd cc
start_here act lane (End other) is = let no : false ≡ true = is in absurd cc

end_here : (act : ℕ) (e : Event) → ends_it act e ≡ true → e ≡ End act
end_here act (Start other used more) is = let no : false ≡ true = is in absurd cc
end_here act (End other) is = let same : other ≡ act = grind (arith, nat_tests, is) in ap (λ n. End n) same

same_number : (n : ℕ) → nat_eq n n ≡ true
same_number n = grind (arith, nat_tests)

pub starts_found : (act lane : ℕ) (events : List Event) → list_any (starts_it act lane) events ≡ true → StartsOn events act lane
starts_found act lane [] any = let no : false ≡ true = any in absurd cc
starts_found act lane (e ∷ events) any = by (starts_found act lane events) (starts_it act lane e) refl any
  where
    by : (list_any (starts_it act lane) events ≡ true → StartsOn events act lane) → (b : Bool) → starts_it act lane e ≡ b → (b || list_any (starts_it act lane) events) ≡ true → StartsOn (e ∷ events) act lane
    by behind true is either = let (more, same) = start_here act lane e is in (more, (0, omega arith, same))
    by behind false is either = let (more, rest) = behind either in (more, later e (Start act lane more) events rest)

pub ends_found : (act : ℕ) (events : List Event) → list_any (ends_it act) events ≡ true → Ended events act
ends_found act [] any = let no : false ≡ true = any in absurd cc
ends_found act (e ∷ events) any = by (ends_found act events) (ends_it act e) refl any
  where
    by : (list_any (ends_it act) events ≡ true → Ended events act) → (b : Bool) → ends_it act e ≡ b → (b || list_any (ends_it act) events) ≡ true → Ended (e ∷ events) act
    by behind true is either = (0, omega arith, end_here act e is)
    by behind false is either = later e (End act) events (behind either)

-- ---- and back

or_right : (a b : Bool) → b ≡ true → (a || b) ≡ true
or_right true b is = refl
or_right false b is = is

any_at : (p : Event → Bool) (events : List Event) (e : Event) → Contains events e → p e ≡ true → list_any p events ≡ true
any_at p [] e (k, below, is) own = absurd (omega (arith, below))
any_at p (x ∷ events) e (zero, below, is) own = ap (λ b. b || list_any p events) (ap p is ∙ own)
any_at p (x ∷ events) e (suc k, below, is) own = or_right (p x) (list_any p events) (any_at p events e (k, omega (arith, below), is) own)

pub starts_any : (act lane : ℕ) (events : List Event) → StartsOn events act lane → list_any (starts_it act lane) events ≡ true
starts_any act lane events (more, there) = any_at (starts_it act lane) events (Start act lane more) there (own (nat_eq act act) (nat_eq lane lane) (same_number act) (same_number lane))
  where
    own : (a b : Bool) → a ≡ true → b ≡ true → (a && b) ≡ true
    own true b one two = two
    own false b one two = one

pub ends_any : (act : ℕ) (events : List Event) → Ended events act → list_any (ends_it act) events ≡ true
ends_any act events there = any_at (ends_it act) events (End act) there (same_number act)

pub runs_by : (act lane : ℕ) (events : List Event) (result : Bool) → result ≡ (list_any (starts_it act lane) events && not (list_any (ends_it act) events)) → IsTrue result ↔ RunsOn events act lane
runs_by act lane events result is = (onward, backward)
  where
    by : (a b : Bool) → list_any (starts_it act lane) events ≡ a → list_any (ends_it act) events ≡ b → (a && not b) ≡ true → RunsOn events act lane
    by true true one two both = let no : false ≡ true = both in absurd cc
    by true false one two both = (starts_found act lane events one, λ ended. absurd (let no : false ≡ true = sym two ∙ ends_any act events ended in cc))
    by false b one two both = let no : false ≡ true = both in absurd cc

    onward : IsTrue result → RunsOn events act lane
    onward holds = by (list_any (starts_it act lane) events) (list_any (ends_it act) events) refl refl (sym is ∙ holds)

    has_not : (b : Bool) → list_any (ends_it act) events ≡ b → (Ended events act → ⊥) → b ≡ false
    has_not true two none = absurd (none (ends_found act events two))
    has_not false two none = refl

    backward : RunsOn events act lane → IsTrue result
    backward (there, none) =
        is ∙ ap (λ b. b && not (list_any (ends_it act) events)) (starts_any act lane events there) ∙ ap (λ b. not b) (has_not (list_any (ends_it act) events) refl none)
