-- How the seats come home.
use Rattle.std.proofs.Common.{◌≡◌, ◌≢◌, ℕ, ◌+◌, ◌<◌, ◌≤◌, List, [], ◌∷◌, ◌++◌, length, set, Bool, true, false, refl, ap, sym, subst, ◌∙◌, ⊎_elim, arith, length-append, length-set, true≢false}
use Rattle.std.specs.Prelude.{Option, None, Some, IfSome, if◌then◌else◌}
use Rattle.pst_model.specs.ModelTree.{ModelTree}
use Rattle.pst_scen.specs.declared.scenario.Scenario.{Scenario}
use Rattle.pst_post.specs.declared.view.Entry.{Entry}
use Rattle.pst_post.specs.declared.view.Progress.{Progress}
use Rattle.pst_post.specs.declared.view.SeatStatus.{SeatStatus}
use Rattle.pst_post.specs.declared.view.SeatStatus.TheVariants.{Out, Gathered}
use Rattle.pst_post.specs.Seats.{LaneState, seat_progress}
use Rattle.pst_post.specs.Steps.{after_collect, missed, with_seat}
use Rattle.pst_post.specs.Views.{entry_at, IfGathered}
use Rattle.pst_desk.specs.Desks.{DeskView, IsTied, with_entries, entries_changed}
use Rattle.pst_scen.specs.declared.event.Event.{Event}
use Rattle.pst_lanes.specs.Lanes.{starts_on, ends_on}
use Rattle.pst_desk.specs.Ended.{Collected, IsReturned}
use Rattle.pst_desk.proofs.Ties.{entry_same, entry_other}
use Rattle.pst_workers.specs.declared.worker.Broken.{Broken}
use Rattle.pst_workers.specs.Told.{Told, LaneRan, LaneBroke}
use Rattle.pst_workers.specs.Worked.{HasRun}
use Rattle.pst_run_many.specs.declared.stop.LaneStop.{LaneStop}
use Rattle.pst_run_many.specs.Gathered.{IsHome, IsSettled}
use Rattle.pst_run_many.specs.Stops.{is_out_of_memory, earlier_of, IsBehind, Allowed, HasCome, Came}

-- ---- one seat

-- a desk of which the entry of the lane changed so
abbrev Changed : DeskView → DeskView → ℕ → (Entry → Entry) → Type 0
Changed old new lane change = new.entries ≡ entries_changed old.entries lane change

here_is : (old new : DeskView) (lane : ℕ) (change : Entry → Entry) → lane < length old.entries → Changed old new lane change → entry_at new.entries lane ≡ change (entry_at old.entries lane)
here_is old new lane change inside is = ap (λ (es : List Entry). entry_at es lane) is ∙ entry_same old.entries lane (change (entry_at old.entries lane)) inside

other_is : (old new : DeskView) (lane k : ℕ) (change : Entry → Entry) → k ≢ lane → Changed old new lane change → entry_at new.entries k ≡ entry_at old.entries k
other_is old new lane k change ne is = ap (λ (es : List Entry). entry_at es k) is ∙ entry_other old.entries lane k (change (entry_at old.entries lane)) ne

-- a collect leaves the lane's seat where it is
seat_stays : (answer : Bool) (old new : DeskView) (lane : ℕ) → lane < length old.entries → Collected answer old new lane → (entry_at new.entries lane).seat ≡ (entry_at old.entries lane).seat
seat_stays true old new lane inside did = ap (λ (e : Entry). e.seat) (here_is old new lane (after_collect true) inside (ap (λ (d : DeskView). d.entries) did.new_is))
seat_stays false old new lane inside did =
    ⊎_elim (λ same. ap (λ (d : DeskView). (entry_at d.entries lane).seat) same.1)
    (λ more. ap (λ (e : Entry). e.seat) (here_is old new lane missed inside (ap (λ (d : DeskView). d.entries) more.2))) did

-- and the other entries
others_stay : (answer : Bool) (old new : DeskView) (lane k : ℕ) → k ≢ lane → Collected answer old new lane → entry_at new.entries k ≡ entry_at old.entries k
others_stay true old new lane k ne did = other_is old new lane k (after_collect true) ne (ap (λ (d : DeskView). d.entries) did.new_is)
others_stay false old new lane k ne did =
    ⊎_elim (λ same. ap (λ (d : DeskView). entry_at d.entries k) same.1)
    (λ more. other_is old new lane k missed ne (ap (λ (d : DeskView). d.entries) more.2)) did

pub settled : (old gathered new : DeskView) (lane : ℕ) (p : Progress) (answer : Bool) → lane < length old.entries → gathered ≡ with_entries old (entries_changed old.entries lane (with_seat (Gathered p)))
    → Collected answer gathered new lane → IfGathered (entry_at gathered.entries lane).seat (IsReturned (entry_at new.entries lane)) → IsSettled p (entry_at new.entries lane)
settled old gathered new lane p answer inside is did returned =
    let entries : gathered.entries ≡ entries_changed old.entries lane (with_seat (Gathered p)) = ap (λ (d : DeskView). d.entries) is in
    let wide : length gathered.entries ≡ length old.entries = ap (λ (es : List Entry). length es) entries ∙ length-set old.entries lane (with_seat (Gathered p) (entry_at old.entries lane)) in
    let seat : (entry_at gathered.entries lane).seat ≡ Gathered p = ap (λ (e : Entry). e.seat) (here_is old gathered lane (with_seat (Gathered p)) inside entries) in
    record {
      home = seat_stays answer gathered new lane (omega (arith, wide, inside)) did ∙ seat;
      returned = subst (λ (s : SeatStatus). IfGathered s (IsReturned (entry_at new.entries lane))) seat returned;
    }

pub others_settled : (old gathered new : DeskView) (lane : ℕ) (p : Progress) (answer : Bool) → gathered ≡ with_entries old (entries_changed old.entries lane (with_seat (Gathered p)))
    → Collected answer gathered new lane → (k : ℕ) → k ≢ lane → entry_at new.entries k ≡ entry_at old.entries k
others_settled old gathered new lane p answer is did k ne =
    others_stay answer gathered new lane k ne did ∙ other_is old gathered lane k (with_seat (Gathered p)) ne (ap (λ (d : DeskView). d.entries) is)

-- ---- what its lane did

no_longer : (xs ys : List ℕ) (a : ℕ) → xs ≡ ys ++ a ∷ [] → xs ≡ ys → ⊥
no_longer xs ys a more same =
    let m = ap (λ (l : List ℕ). length l) more in
    let n = ap (λ (l : List ℕ). length l) same in
    omega (arith, m, n, length-append ys (a ∷ []))

pub come_home : (m : ModelTree) (s : Scenario) (seat : LaneState) (e : Entry) (stop : Option Broken) (before after : Told) → HasRun m s seat stop before after → IsReturned e (seat_progress seat)
    → HasCome m s e.posted e.ended stop before after
come_home m s seat e None before after ran home = subst (λ (acts : List ℕ). LaneRan m s acts before after) (sym home.ended) ran
come_home m s seat e (Some broken) before after (fetched, broke) home = (
  ⊎_elim (λ same. absurd (no_longer seat.fetched seat.finished broken.action fetched same))
      (λ posted. sym posted ∙ fetched ∙ ap (λ (acts : List ℕ). acts ++ broken.action ∷ []) (sym home.ended)) home.fetched,
  subst (λ (acts : List ℕ). LaneBroke m s acts broken before after) (sym home.ended) broke,
)

-- ---- the lane that is told

abbrev pub IsBelow : Option LaneStop → ℕ → Type 0
IsBelow first made = IfSome first (λ f. f.lane < made)

abbrev stop_at : ℕ → Broken → LaneStop
stop_at lane broken = record { lane = lane; broken = broken }

own_by : (f : LaneStop) (b : Broken) (lane : ℕ) → f.lane < lane → (x : Bool) → is_out_of_memory b.end ≡ x → Allowed (if x then Some (stop_at lane b) else Some f) lane (Some b)
own_by f b lane low true is = (λ _. refl, λ memory. absurd (true≢false (sym is ∙ memory)))
own_by f b lane low false is = (λ same. absurd (omega (arith, low, same)), λ _. (omega (arith, low), is))

-- how the lane itself stopped
pub own_allowed : (first : Option LaneStop) (stop : Option Broken) (lane : ℕ) → IsBelow first lane → Allowed (earlier_of first stop lane) lane stop
own_allowed None None lane low = refl
own_allowed (Some f) None lane low = (λ same. absurd (omega (arith, low, same)), λ _. tt)
own_allowed None (Some b) lane low = (λ _. refl, λ memory. (omega arith, memory))
own_allowed (Some f) (Some b) lane low = own_by f b lane low (is_out_of_memory b.end) refl

behind_none : (first lane : ℕ) (stop : Option Broken) → stop ≡ None → IsBehind first lane stop
behind_none first lane stop is = subst (λ (o : Option Broken). IsBehind first lane o) (sym is) tt

still_by : (f : LaneStop) (b : Broken) (made k : ℕ) (stop : Option Broken) → k < made → Allowed (Some f) k stop → (x : Bool) → is_out_of_memory b.end ≡ x
    → Allowed (if x then Some (stop_at made b) else Some f) k stop
still_by f b made k stop low was true is = (λ same. absurd (omega (arith, low, same)), λ memory. absurd (true≢false (sym is ∙ memory)))
still_by f b made k stop low was false is = was

-- and how a lane before it did
still_allowed : (first : Option LaneStop) (stop : Option Broken) (made k : ℕ) (own : Option Broken) → k < made → Allowed first k own → Allowed (earlier_of first stop made) k own
still_allowed None None made k own low was = was
still_allowed (Some f) None made k own low was = was
still_allowed None (Some b) made k own low was = (λ same. absurd (omega (arith, low, same)), λ _. behind_none made k own was)
still_allowed (Some f) (Some b) made k own low was = still_by f b made k own low was (is_out_of_memory b.end) refl

pub still_came : (m : ModelTree) (s : Scenario) (first : Option LaneStop) (stop : Option Broken) (made k : ℕ) (started ended : List ℕ) (before after : Told) → k < made → Came m s first k started ended before after
    → Came m s (earlier_of first stop made) k started ended before after
still_came m s first stop made k started ended before after low came =
    record { stop = came.stop; come = came.come; allowed = still_allowed first stop made k came.stop low came.allowed }

below_by : (f : LaneStop) (b : Broken) (made : ℕ) (x : Bool) → f.lane < made → IsBelow (if x then Some (stop_at made b) else Some f) (made + 1)
below_by f b made true low = omega arith
below_by f b made false low = omega (arith, low)

pub below_more : (first : Option LaneStop) (stop : Option Broken) (made : ℕ) → IsBelow first made → IsBelow (earlier_of first stop made) (made + 1)
below_more None None made low = tt
below_more (Some f) None made low = omega (arith, low)
below_more None (Some b) made low = omega arith
below_more (Some f) (Some b) made low = below_by f b made (is_out_of_memory b.end) low

-- ---- the trace

-- the lists of the lane's entry are those of the trace
pub came_tied : (m : ModelTree) (s : Scenario) (first : Option LaneStop) (trace : List Event) (k : ℕ) (e : Entry) (before after : Told) → IsTied trace k e → Came m s first k e.posted e.ended before after
    → Came m s first k (starts_on k trace) (ends_on k trace) before after
came_tied m s first trace k e before after tied came = subst (λ (z : List ℕ × List ℕ). Came m s first k z.0 z.1 before after) (λ i. (tied.posted i, tied.ended i)) came

pub not_out : (e : Entry) → IsHome e → e.seat ≡ Out → ⊥
not_out e home out = apart home.0 (sym home.1 ∙ out)
  where
    apart : (p : Progress) → Gathered p ≡ Out → ⊥
    apart p same = absurd cc
