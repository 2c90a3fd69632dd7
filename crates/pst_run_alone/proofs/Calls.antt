-- Runs of bodies that make the same calls.
use Rattle.std.proofs.Common.{◌≡◌, ℕ, List, [], ◌∷◌, ◌++◌, refl, ap, sym, ◌∙◌, subst, append_assoc, append-nil, inl, inr, ◌⊎◌}
use Rattle.std.specs.Prelude.{Option, None, Some}
use Rattle.pst_target.specs.declared.call.Call.{Call as Answered}
use Rattle.pst_model.specs.ModelTree.{ModelTree}
use Rattle.pst_scen.specs.declared.scenario.Scenario.{Scenario}
use Rattle.pst_legal.specs.Body.{BodyRun, Ended, Trap, Wants, body_run}
use Rattle.pst_legal.specs.Runs.{AreRuns, AreRunsUpTo}
use Rattle.pst_legal.specs.Laws.{BodiesEndOnce}

-- what a body comes to that hasn't ended
abbrev pub IsStop : BodyRun → Type 0
IsStop Ended = ⊥
IsStop (Trap kind) = Unit {0}
IsStop (Wants function arguments) = Unit {0}

-- The calls are the whole runs of these actions' bodies, and then these calls of one more body, if there is one, which stops so.
abbrev pub Comes : ModelTree → Scenario → List ℕ → Option ℕ → BodyRun → List Answered → List Answered → Type 0
Comes m s [] None to part calls = (calls ≡ []) × (part ≡ []) × (to ≡ Ended)
Comes m s [] (Some z) to part calls = (calls ≡ part) × (body_run m s z part ≡ Some to) × IsStop to
Comes m s (a ∷ more) o to part calls =
    (run : List Answered) × (rest : List Answered) × (calls ≡ run ++ rest) × (body_run m s a run ≡ Some Ended) × Comes m s more o to part rest

pub whole_comes : (m : ModelTree) (s : Scenario) (actions : List ℕ) (calls : List Answered) → AreRuns m s actions calls → Comes m s actions None Ended [] calls
whole_comes m s [] calls none = (none, refl, refl)
whole_comes m s (a ∷ more) calls (run, rest, are, ended, others) = (run, rest, are, ended, whole_comes m s more rest others)

part_comes : (m : ModelTree) (s : Scenario) (actions : List ℕ) (z : ℕ) (to : BodyRun) (whole part calls : List Answered)
    → calls ≡ whole ++ part → AreRuns m s actions whole → body_run m s z part ≡ Some to → IsStop to → Comes m s actions (Some z) to part calls
part_comes m s [] z to whole part calls are none comes stops = (are ∙ ap (λ (l : List Answered). l ++ part) none, comes, stops)
part_comes m s (a ∷ more) z to whole part calls are (run, rest, own, ended, others) comes stops =
    (run, rest ++ part, are ∙ ap (λ (l : List Answered). l ++ part) own ∙ append_assoc run rest part, ended, part_comes m s more z to rest part (rest ++ part) refl others comes stops)

pub up_to_comes : (m : ModelTree) (s : Scenario) (actions : List ℕ) (z : ℕ) (to : BodyRun) (calls : List Answered) (r : AreRunsUpTo m s actions z to calls) → IsStop to → Comes m s actions (Some z) to r.part calls
up_to_comes m s actions z to calls r stops = part_comes m s actions z to r.whole r.part calls r.are r.runs r.comes_to stops

-- two fronts of one list: one begins the other
pub fronts : {A : Type 0} (xs ys us vs : List A) → xs ++ us ≡ ys ++ vs
    → ((d : List A) × (ys ≡ xs ++ d) × (us ≡ d ++ vs)) ⊎ ((d : List A) × (xs ≡ ys ++ d) × (vs ≡ d ++ us))
fronts {A = A} [] ys us vs same = inl (ys, refl, same)
fronts {A = A} (x ∷ xs) [] us vs same = inr (x ∷ xs, refl, sym same)
fronts {A = A} (x ∷ xs) (y ∷ ys) us vs same =
    let head : x ≡ y = cc in
    let tail : xs ++ us ≡ ys ++ vs = cc in
    on head (fronts xs ys us vs tail)
  where
    on : x ≡ y → ((d : List A) × (ys ≡ xs ++ d) × (us ≡ d ++ vs)) ⊎ ((d : List A) × (xs ≡ ys ++ d) × (vs ≡ d ++ us))
        → ((d : List A) × (y ∷ ys ≡ x ∷ (xs ++ d)) × (us ≡ d ++ vs)) ⊎ ((d : List A) × (x ∷ xs ≡ y ∷ (ys ++ d)) × (vs ≡ d ++ us))
    on head (inl (d, longer, rest)) = inl (d, cc, rest)
    on head (inr (d, longer, rest)) = inr (d, cc, rest)

-- one body makes one front of the calls, where it has ended with both
pub one_run : (m : ModelTree) (s : Scenario) (a : ℕ) (run other rest more : List Answered) → BodiesEndOnce
    → body_run m s a run ≡ Some Ended → body_run m s a other ≡ Some Ended → run ++ rest ≡ other ++ more → (run ≡ other) × (rest ≡ more)
one_run m s a run other rest more law ended too same = by (fronts run other rest more same)
  where
    by : ((d : List Answered) × (other ≡ run ++ d) × (rest ≡ d ++ more)) ⊎ ((d : List Answered) × (run ≡ other ++ d) × (more ≡ d ++ rest)) → (run ≡ other) × (rest ≡ more)
    by (inl (d, longer, behind)) =
        let none : d ≡ [] = law m s a run d Ended Ended ended tt (subst (λ (l : List Answered). body_run m s a l ≡ Some Ended) longer too) in
        (sym (longer ∙ ap (λ (l : List Answered). run ++ l) none ∙ append-nil run), behind ∙ ap (λ (l : List Answered). l ++ more) none)
    by (inr (d, longer, behind)) =
        let none : d ≡ [] = law m s a other d Ended Ended too tt (subst (λ (l : List Answered). body_run m s a l ≡ Some Ended) longer ended) in
        (longer ∙ ap (λ (l : List Answered). other ++ l) none ∙ append-nil other, sym (behind ∙ ap (λ (l : List Answered). l ++ rest) none))

-- a body that has ended with a front of the calls doesn't stop at them
pub no_stop : (m : ModelTree) (s : Scenario) (a : ℕ) (run rest calls : List Answered) (to : BodyRun) → BodiesEndOnce
    → body_run m s a run ≡ Some Ended → calls ≡ run ++ rest → body_run m s a calls ≡ Some to → IsStop to → ⊥
no_stop m s a run rest calls to law ended are comes stops =
    let longer : body_run m s a (run ++ rest) ≡ Some to = subst (λ (l : List Answered). body_run m s a l ≡ Some to) are comes in
    let none : rest ≡ [] = law m s a run rest Ended to ended tt longer in
    let shorter : body_run m s a run ≡ Some to = subst (λ (l : List Answered). body_run m s a l ≡ Some to) (ap (λ (l : List Answered). run ++ l) none ∙ append-nil run) longer in
    let same : Ended ≡ to = some_inj (sym ended ∙ shorter) in
    subst IsStop (sym same) stops
  where
    some_inj : {A : Type 0} {x y : A} → Some x ≡ Some y → x ≡ y
    some_inj same = cc
