-- Traces of actions one after another.
use Rattle.std.proofs.Common.{◌≡◌, ℕ, zero, suc, List, [], ◌∷◌, ◌++◌, Bool, false, refl, ap, inl, inr, ⊎_elim, ◌⊎◌, arith}
use Rattle.std.specs.Prelude.{Contains}
use Rattle.std.proofs.lemmas.List.Elements.{Contains-append_left, Contains-append_right, Contains-append_cases}
use Rattle.pst_scen.specs.declared.event.Event.{Event}
use Rattle.pst_scen.specs.declared.event.Event.TheVariants.{Start, End}
use Rattle.pst_scen.specs.Trace.{StartsOn, Started, Ended, Runs}
use Rattle.pst_scen.specs.Core.{Command, Open, Close, commands_of}
use Rattle.pst_exec.specs.Alone.{turns_of, events_of}

no_event : (e : Event) → Contains [] e → ⊥
no_event e h = absurd (omega (arith, h.1))

one_event : (d e : Event) → Contains (d ∷ []) e → d ≡ e
one_event d e (zero, below, is) = is
one_event d e (suc k, below, is) = absurd (omega (arith, below))

first_event : (d : Event) (es : List Event) → Contains (d ∷ es) d
first_event d es = (0, omega arith, refl)

-- what has started has ended
pub all_ended : (acts : List ℕ) (a lane : ℕ) (more : Bool) → Contains (events_of acts) (Start a lane more) → Ended (events_of acts) a
all_ended [] a lane more h = absurd (no_event (Start a lane more) h)
all_ended (b ∷ acts) a lane more h =
    ⊎_elim (λ own. ⊎_elim (λ e. here e) (λ e. absurd cc) (own_cases own)) (λ rest. Contains-append_right (Start b 0 false ∷ End b ∷ []) (events_of acts) (End a) (all_ended acts a lane more rest))
    (Contains-append_cases (Start b 0 false ∷ End b ∷ []) (events_of acts) (Start a lane more) h)
  where
    own_cases : Contains (Start b 0 false ∷ End b ∷ []) (Start a lane more) → (Start b 0 false ≡ Start a lane more) ⊎ (End b ≡ Start a lane more)
    own_cases own = ⊎_elim (λ k. inl (one_event (Start b 0 false) (Start a lane more) k)) (λ k. inr (one_event (End b) (Start a lane more) k)) (Contains-append_cases (Start b 0 false ∷ []) (End b ∷ []) (Start a lane more) own)

    here : Start b 0 false ≡ Start a lane more → Ended (Start b 0 false ∷ End b ∷ events_of acts) a
    here e = let same : b ≡ a = cc in (1, omega arith, ap (λ (n : ℕ). End n) same)

-- what has ended has started
pub all_started : (acts : List ℕ) (a : ℕ) → Ended (events_of acts) a → Started (events_of acts) a
all_started [] a h = absurd (no_event (End a) h)
all_started (b ∷ acts) a h =
    ⊎_elim (λ own. ⊎_elim (λ e. absurd cc) (λ e. here e) (own_cases own))
    (λ rest. let s = all_started acts a rest in (s.0, (s.1.0, Contains-append_right (Start b 0 false ∷ End b ∷ []) (events_of acts) (Start a s.0 s.1.0) s.1.1)))
    (Contains-append_cases (Start b 0 false ∷ End b ∷ []) (events_of acts) (End a) h)
  where
    own_cases : Contains (Start b 0 false ∷ End b ∷ []) (End a) → (Start b 0 false ≡ End a) ⊎ (End b ≡ End a)
    own_cases own = ⊎_elim (λ k. inl (one_event (Start b 0 false) (End a) k)) (λ k. inr (one_event (End b) (End a) k)) (Contains-append_cases (Start b 0 false ∷ []) (End b ∷ []) (End a) own)

    here : End b ≡ End a → Started (Start b 0 false ∷ End b ∷ events_of acts) a
    here e = let same : b ≡ a = cc in (0, (false, (0, omega arith, ap (λ (n : ℕ). Start n 0 false) same)))

pub nothing_runs : (acts : List ℕ) (a : ℕ) → Runs (events_of acts) a → ⊥
nothing_runs acts a runs = runs.1 (all_ended acts a runs.0.0 runs.0.1.0 runs.0.1.1)

-- where one more has started, it alone hasn't ended
pub last_runs : (acts : List ℕ) (a b : ℕ) → StartsOn (events_of acts ++ Start a 0 false ∷ []) b 0 → (Ended (events_of acts ++ Start a 0 false ∷ []) b → ⊥) → a ≡ b
last_runs acts a b on still =
    ⊎_elim (λ k. absurd (still (Contains-append_left (events_of acts) (Start a 0 false ∷ []) (End b) (all_ended acts b 0 on.0 k)))) (λ k. own (one_event (Start a 0 false) (Start b 0 on.0) k))
    (Contains-append_cases (events_of acts) (Start a 0 false ∷ []) (Start b 0 on.0) on.1)
  where
    own : Start a 0 false ≡ Start b 0 on.0 → a ≡ b
    own e = cc

pub last_not_ended : (acts : List ℕ) (a : ℕ) → (Started (events_of acts) a → ⊥) → Ended (events_of acts ++ Start a 0 false ∷ []) a → ⊥
last_not_ended acts a fresh ended =
    ⊎_elim (λ k. fresh (all_started acts a k)) (λ k. own (one_event (Start a 0 false) (End a) k)) (Contains-append_cases (events_of acts) (Start a 0 false ∷ []) (End a) ended)
  where
    own : Start a 0 false ≡ End a → ⊥
    own e = absurd cc

pub last_starts : (acts : List ℕ) (a : ℕ) → StartsOn (events_of acts ++ Start a 0 false ∷ []) a 0
last_starts acts a = (false, Contains-append_right (events_of acts) (Start a 0 false ∷ []) (Start a 0 false) (first_event (Start a 0 false) []))

-- ---- one more

pub events_more : (acts : List ℕ) (a : ℕ) → events_of acts ++ Start a 0 false ∷ End a ∷ [] ≡ events_of (acts ++ a ∷ [])
events_more [] a = refl
events_more (b ∷ acts) a = ap (λ (l : List Event). Start b 0 false ∷ End b ∷ l) (events_more acts a)

-- ---- their commands

pub turns_are : (acts : List ℕ) → commands_of (events_of acts) ≡ turns_of acts
turns_are [] = refl
turns_are (a ∷ acts) = ap (λ (l : List Command). Open ∷ Close a ∷ l) (turns_are acts)

pub turns_and_start : (acts : List ℕ) (a : ℕ) → commands_of (events_of acts ++ Start a 0 false ∷ []) ≡ turns_of acts ++ Open ∷ []
turns_and_start [] a = refl
turns_and_start (b ∷ acts) a = ap (λ (l : List Command). Open ∷ Close b ∷ l) (turns_and_start acts a)
