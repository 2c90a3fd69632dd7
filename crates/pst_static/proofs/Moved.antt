-- What a move of the machine changes in its tables.
use Rattle.std.proofs.Common.{◌≡◌, ℕ, zero, suc, ◌+◌, ◌<◌, ◌≤◌, List, [], ◌∷◌, ◌++◌, length, get_or, set, slice_get, Some, refl, sym, ap, ◌∙◌, subst, inl, inr, ⊎_elim, arith, length-append}
use Rattle.std.specs.Prelude.{Contains}
use Rattle.std.proofs.lemmas.List.Elements.{Contains-append_left, Contains-push, Contains-push_cases}
use Rattle.std.proofs.lemmas.Option.{slice_get-get_or}
use Rattle.pst_scen.specs.declared.scenario.Scenario.{Scenario}
use Rattle.pst_scen.specs.Plan.{Entries}
use Rattle.pst_scen.specs.Plans.{IsPlanOf}
use Rattle.pst_order.specs.Laws.{WholeHasNoClash, MustIsInside, MembersAreThose, PlanGroupsAreWhole}
use Rattle.pst_book.proofs.Elements.{none_in}
use Rattle.pst_book.proofs.Numbers.{none_of_them, one_more_has, at_most_bound}
use Rattle.pst_book.specs.Tables.{AreSoManyOf}
use Rattle.pst_programs.specs.declared.program.Instruction.{Instruction}
use Rattle.pst_programs.specs.declared.program.Instruction.TheVariants.{Signal}
use Rattle.pst_programs.specs.declared.program.Program.{Program}
use Rattle.pst_programs.specs.declared.program.Move.{Move}
use Rattle.pst_programs.specs.Machine.{State, Steps, Reaches, at_first, moved_on, IsAt, AreAt, Tells, Hears, Begins, Ends}
use Rattle.pst_programs.specs.Machine as machine
use Rattle.pst_programs.specs.Safe.{AreSafe}
use Rattle.pst_programs.proofs.Kept.{Kept}
use Rattle.pst_programs.proofs.Moves.{reached_kept}
use Rattle.pst_programs.specs.Programs.{program_at}
use Rattle.pst_programs.proofs.Written.{get_below}

-- one lane's place is raised by one
pub moved_set : (places : List ℕ) (lane : ℕ) → lane < length places → set places lane (get_or places lane 0 + 1) ≡ moved_on places lane
moved_set [] lane l = absurd (omega (arith, l))
moved_set (x ∷ places) zero l = let e : x + 1 ≡ suc x = omega arith in ap (λ v. v ∷ places) e
moved_set (x ∷ places) (suc lane) l = ap (λ v. x ∷ v) (moved_set places lane (omega (arith, l)))

-- ---- programs by their lanes

pub program_read : (programs : List Program) (lane : ℕ) (d : Program) → lane < length programs → program_at programs lane ≡ (get_or programs lane d).steps
program_read [] lane d l = absurd (omega (arith, l))
program_read (x ∷ programs) zero d l = refl
program_read (x ∷ programs) (suc lane) d l = program_read programs lane d (omega (arith, l))

pub program_beyond : (programs : List Program) (lane : ℕ) → length programs ≤ lane → program_at programs lane ≡ []
program_beyond [] lane l = refl
program_beyond (x ∷ programs) zero l = absurd (omega (arith, l))
program_beyond (x ∷ programs) (suc lane) l = program_beyond programs lane (omega (arith, l))

-- beyond its program no lane stands at an instruction
pub none_past : (programs : List Program) (places : List ℕ) (lane : ℕ) → length (program_at programs lane) ≤ get_or places lane 0 → (i : Instruction) → IsAt programs places lane i → ⊥
none_past programs places lane past i at = let l = get_below (program_at programs lane) (get_or places lane 0) i at in omega (arith, l, past)

-- nor does one that isn't there
pub none_beyond : (programs : List Program) (places : List ℕ) (lane : ℕ) → length programs ≤ lane → (i : Instruction) → IsAt programs places lane i → ⊥
none_beyond programs places lane past i at = let e : length (program_at programs lane) ≡ 0 = ap (λ (v : List Instruction). length v) (program_beyond programs lane past) in none_past programs places lane (omega (arith, e)) i at

-- the instruction that is read there
pub at_read : (programs : List Program) (places : List ℕ) (lane : ℕ) (steps : List Instruction) (d : Instruction) → program_at programs lane ≡ steps → get_or places lane 0 < length steps → IsAt programs places lane (get_or steps (get_or places lane 0) d)
at_read programs places lane steps d e k = subst (λ (v : List Instruction). slice_get v (get_or places lane 0) ≡ Some (get_or steps (get_or places lane 0) d)) (sym e) (slice_get-get_or steps (get_or places lane 0) d k)

-- a lane's program as it is read
pub read_is : (programs : List Program) (lane : ℕ) (d : Program) (steps : List Instruction) → lane < length programs → steps ≡ (get_or programs lane d).steps → program_at programs lane ≡ steps
read_is programs lane d steps l e = program_read programs lane d l ∙ sym e

-- ---- a signal is given once

module _ (s : Scenario) (p : Entries) (programs : List Program) (safe : AreSafe p programs) (old : State) (kept : Kept s p programs old) where
  pub not_told : (lane a : ℕ) → IsAt programs old.places lane (Signal a) → Contains old.signals a → ⊥
  not_told lane a at c =
      let t = kept.told_by a c in
      let b = safe.behind a lane (get_or old.places lane 0) at in
      let o = safe.only a t.0 lane t.1 b.0 t.2 b.2 in
      let past : suc t.1 < get_or old.places lane 0 = subst (λ v. suc t.1 < get_or old.places v 0) o.0 t.3 in
      let e = o.1 in
      let f = b.1 in
      omega (arith, past, e, f)

-- ---- so there are no more signals than actions

module _ (s : Scenario) (p : Entries) (programs : List Program) (plan : IsPlanOf s p) (safe : AreSafe p programs)
    (clash : WholeHasNoClash) (must_in : MustIsInside) (those : MembersAreThose) (whole : PlanGroupsAreWhole) where
  kept_at : (moves : List Move) (state : State) → Reaches p programs moves state → Kept s p programs state
  kept_at moves state reached = reached_kept s p programs plan safe clash must_in those whole moves state reached

  signals_differ : (moves : List Move) (state : State) → Reaches p programs moves state → AreSoManyOf (λ a. Contains state.signals a) (length state.signals)
  signals_differ _ _ machine.First = none_of_them (λ a c. none_in a c)
  signals_differ _ _ (machine.Then moves move old new reached step) = by_step move new step (kept_at moves old reached) (signals_differ moves old reached)
    where
      by_step : (move : Move) (new : State) → Steps p programs old move new → Kept s p programs old → AreSoManyOf (λ a. Contains old.signals a) (length old.signals) → AreSoManyOf (λ a. Contains new.signals a) (length new.signals)
      by_step _ _ (Tells lane a at) kept many =
          subst (λ k. AreSoManyOf (λ b. Contains (old.signals ++ a ∷ []) b) k) (sym (length-append old.signals (a ∷ [])))
          (one_more_has {P = λ b. Contains old.signals b} {Q = λ b. Contains (old.signals ++ a ∷ []) b} a (not_told s p programs safe old kept lane a at)
          (λ b c. Contains-append_left old.signals (a ∷ []) b c) (Contains-push old.signals a)
          (λ b c. ⊎_elim (λ k. inr k) (λ e. inl (sym e)) (Contains-push_cases old.signals a b c)) many)
      by_step _ _ (Hears lane a at told) kept many = many
      by_step _ _ (Begins lane a used at ats fresh) kept many = many
      by_step _ _ (Ends lane a at runs) kept many = many

  pub signals_few : (moves : List Move) (state : State) → Reaches p programs moves state → length state.signals ≤ length p.groups
  signals_few moves state reached =
      at_most_bound {P = λ a. Contains state.signals a} (length p.groups)
      (λ a c. let t = (kept_at moves state reached).told_by a c in safe.inside a t.0 t.1 t.2) (signals_differ moves state reached)
