-- What traces say of actions, and lists of lanes of what they tell.
use Rattle.std.proofs.Common.{◌≡◌, ℕ, zero, suc, ◌+◌, ◌<◌, ◌≤◌, List, [], ◌∷◌, ◌++◌, length, get_or, refl, ap, sym, subst, ◌∙◌, ⊎_elim, arith}
use Rattle.std.specs.Prelude.{Option}
use Rattle.pst_target.specs.declared.call.Call.{Call as Answered}
use Rattle.pst_scen.specs.declared.event.Event.{Event}
use Rattle.pst_scen.specs.declared.event.Event.TheVariants.{Start, End}
use Rattle.pst_scen.specs.declared.scenario.Scenario.{Scenario}
use Rattle.pst_scen.specs.Trace.{Started, AreLegal, IsLegalTrace, Block, Starts, Ends, starts_of, events}
use Rattle.pst_lanes.proofs.Elements.{none_in}
use Rattle.pst_lanes.proofs.Events.{started_cases, starts_member, end_no_start}
use Rattle.pst_workers.specs.Told.{Told, told, told_of, lane_at}

started_in : (s : Scenario) (lanes : ℕ) (h : List Block) → AreLegal s lanes h → (a : ℕ) → Started (events h) a → a < length s.actions
started_in s lanes [] legal a (lane, (more, on)) = absurd (none_in (Start a lane more) on)
started_in s lanes (Starts ms us ∷ h) legal a starts =
    ⊎_elim (λ old. started_in s lanes h legal.0 a old) (λ new. legal.1.group.inside a (starts_member ms us a new)) (started_cases (events h) (starts_of ms us) a starts)
started_in s lanes (Ends b ∷ h) legal a starts = ⊎_elim (λ old. started_in s lanes h legal.0 a old) (λ new. absurd (end_no_start b a new)) (started_cases (events h) (End b ∷ []) a starts)

-- what starts in a legal trace is an action that there is
pub started_inside : (s : Scenario) (lanes : ℕ) (trace : List Event) → IsLegalTrace s lanes trace → (a : ℕ) → Started trace a → a < length s.actions
started_inside s lanes trace legal a starts = started_in s lanes legal.blocks legal.legal a (subst (λ (es : List Event). Started es a) (sym legal.are) starts)

-- ---- what lanes tell

module _ {T : Type 0} (calls : T → Option (List Answered)) (faults : T → ℕ) where
  pub told_at : (lanes : List T) (k : ℕ) (d : T) → k < length lanes → lane_at (told_of calls faults lanes) k ≡ told calls faults (get_or lanes k d)
  told_at [] k d h = absurd (omega arith)
  told_at (x ∷ xs) zero d h = refl
  told_at (x ∷ xs) (suc k) d h = told_at xs k d (omega arith)

  -- further lanes behind them
  pub told_before : (lanes more : List T) (k : ℕ) (d : T) → k < length lanes → lane_at (told_of calls faults (lanes ++ more)) k ≡ told calls faults (get_or lanes k d)
  told_before [] more k d h = absurd (omega arith)
  told_before (x ∷ xs) more zero d h = refl
  told_before (x ∷ xs) more (suc k) d h = told_before xs more k d (omega arith)
