-- One step of the start of a group.
use Rattle.std.proofs.Common.{◌≡◌, ◌↔◌, ℕ, ◌+◌, ◌-◌, ◌<◌, ◌≤◌, List, [], ◌∷◌, ◌++◌, length, get_or, refl, arith}
use Rattle.std.specs.Prelude.{nat_lt}
use Rattle.pst_scen.specs.declared.event.Event.{Event}
use Rattle.pst_scen.specs.declared.event.Event.TheVariants.{Start}
use Rattle.pst_scen.specs.Trace.{IsHeld}
use Rattle.pst_book.specs.Tables.{RunView}
use Rattle.pst_book.proofs.Starting.{Starting, starting_member, more_is}

pub record Goes (old now : RunView) (group act left lane used : ℕ) : Type 0 where
  pub some : 0 < left
  pub below : used < old.lanes
  pub room : length now.trace < now.room
  pub step : (new : List Event) (new_room : ℕ) → new ≡ now.trace ++ Start act used (nat_lt 1 left) ∷ [] → now.room ≤ new_room → Starting old.trace new old.plan.groups group old.lanes (act + 1) (left - 1) (used + 1) old.room new_room

pub goes : (old now : RunView) (group act left lane used : ℕ) → now.lanes ≡ old.lanes → act < length old.plan.groups → get_or old.plan.groups act 0 ≡ group → ((x : ℕ) → lane ≤ x → IsHeld now.trace x ↔ IsHeld old.trace x) → Starting old.trace now.trace old.plan.groups group old.lanes act left lane old.room now.room → lane ≤ used → used ≤ now.lanes → ((l : ℕ) → lane ≤ l → l < used → IsHeld now.trace l) → (used < now.lanes → IsHeld now.trace used → ⊥) → Goes old now group act left lane used
goes old now group act left lane used lanes l here same starting low high held idle =
    record { some = one.0; below = one.1; room = let s = starting.some in let p = one.0 in omega (arith, s, p); step = λ new new_room e wide. (member new new_room e wide).2 }
  where
    member : (new : List Event) (new_room : ℕ) → new ≡ now.trace ++ Start act used (nat_lt 1 left) ∷ [] → now.room ≤ new_room → (0 < left) × (used < old.lanes) × Starting old.trace new old.plan.groups group old.lanes (act + 1) (left - 1) (used + 1) old.room new_room
    member new new_room e wide =
        starting_member old.trace now.trace new old.plan.groups group old.lanes act left lane old.room now.room new_room used (nat_lt 1 left) l here (λ P q. more_is left P q) low (omega (arith, high, lanes))
        (λ x a b. (same x a).0 (held x a b)) (λ k h. idle (omega (arith, k, lanes)) ((same used low).1 h)) e wide starting

    one : (0 < left) × (used < old.lanes) × Starting old.trace (now.trace ++ Start act used (nat_lt 1 left) ∷ []) old.plan.groups group old.lanes (act + 1) (left - 1) (used + 1) old.room now.room
    one = member (now.trace ++ Start act used (nat_lt 1 left) ∷ []) now.room refl (omega arith)
