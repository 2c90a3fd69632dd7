-- What groups that start one after another make of a trace.
use Rattle.std.proofs.Common.{◌≡◌, ℕ, ◌+◌, ◌<◌, List, ◌++◌, length, refl, sym, ap, ◌∙◌, subst, arith, append-nil, length-append}
use Rattle.std.specs.Prelude.{Option, None, Some, MatchOption}
use Rattle.pst_scen.specs.declared.event.Event.{Event}
use Rattle.pst_scen.specs.declared.scenario.Scenario.{Scenario}
use Rattle.pst_scen.specs.Trace.{IsHeld, starts_of}
use Rattle.pst_scen.specs.Core.{Opens}
use Rattle.pst_book.specs.declared.book.Opened.{Opened}
use Rattle.pst_book.specs.Books.{View, with_trace, IsShut, DidOpen}
use Rattle.pst_lanes.specs.Lanes.{starts_on, ends_on}
use Rattle.pst_lanes.proofs.Lists.{starts_append}
use Rattle.pst_lanes.proofs.Starting.{starts_else, length_starts}
use Rattle.pst_lanes.proofs.Laned.{Begun, ends_stay, begun_stays, held_stays}
use Rattle.pst_desk.specs.Turning.{OpensGroups, NoGroup, OneMore}

-- one group more
pub record OpenedMore (old now new : View) (n : ℕ) : Type 0 where
  pub same : new ≡ with_trace old new.trace
  pub opens : OpensGroups old.scenario old.lanes old.trace (n + 1) new.trace
  pub longer : length now.trace < length new.trace

pub opened_more : (old now new : View) (first many n : ℕ) → now ≡ with_trace old now.trace → OpensGroups old.scenario old.lanes old.trace n now.trace → DidOpen now new first many → OpenedMore old now new n
opened_more old now new first many n same opens did =
    let trace : new.trace ≡ now.trace ++ starts_of did.members did.used = ap (λ (v : View). v.trace) did.new_is in
    let own : Opens old.scenario old.lanes now.trace did.members did.used = subst (λ (v : View). Opens v.scenario v.lanes now.trace did.members did.used) same did.opens in
    let e = ap (λ (t : List Event). length t) trace in
    let a = length-append now.trace (starts_of did.members did.used) in
    let l = length_starts did.members did.used in
    let some = did.opens.ready.group.some in
    let lanes = did.opens.free.many in
    record {
      same = did.new_is ∙ (λ i. with_trace (same i) (sym trace i));
      opens = subst (λ t. OpensGroups old.scenario old.lanes old.trace (n + 1) t) (sym trace) (OneMore n now.trace did.members did.used opens own);
      longer = omega (arith, e, a, l, some, lanes);
    }

-- what stays: the ends of each lane, and the starts of a lane that is held
pub record Keeps (before after : List Event) : Type 0 where
  pub begun : Begun after
  pub ends : (lane : ℕ) → ends_on lane after ≡ ends_on lane before
  pub held : (lane : ℕ) → IsHeld before lane → IsHeld after lane
  pub starts : (lane : ℕ) → IsHeld before lane → starts_on lane after ≡ starts_on lane before

keeps_one : (s : Scenario) (lanes : ℕ) (before middle : List Event) (ms us : List ℕ) → Keeps before middle → Opens s lanes middle ms us → Keeps before (middle ++ starts_of ms us)
keeps_one s lanes before middle ms us k opens =
    record {
      begun = begun_stays middle ms us k.begun;
      ends = λ lane. ends_stay middle ms us lane k.begun opens.ready.fresh ∙ k.ends lane;
      held = λ lane h. held_stays middle ms us lane (k.held lane h);
      starts = λ lane h. starts_append lane middle (starts_of ms us)
          ∙ ap (λ xs. starts_on lane middle ++ xs) (starts_else lane ms us (λ c. opens.free.idle lane c (k.held lane h)))
          ∙ append-nil (starts_on lane middle) ∙ k.starts lane h;
    }

pub keeps : (s : Scenario) (lanes : ℕ) (before : List Event) (n : ℕ) (after : List Event) → OpensGroups s lanes before n after → Begun before → Keeps before after
keeps s lanes before _ _ NoGroup begun = record { begun = begun; ends = λ lane. refl; held = λ lane h. h; starts = λ lane h. refl }
keeps s lanes before _ _ (OneMore n middle ms us o opens) begun = keeps_one s lanes before middle ms us (keeps s lanes before n middle o begun) opens

-- where no group was opened none is startable
pub shut_after : (o : Option Opened) (old new : View) → MatchOption o ((new ≡ old) × IsShut old) (λ x. DidOpen old new x.first x.count) → ((x : Opened) → o ≡ Some x → ⊥) → IsShut new
shut_after None old new step n = subst (λ (v : View). IsShut v) (sym step.0) step.1
shut_after (Some x) old new step n = absurd (n x refl)
