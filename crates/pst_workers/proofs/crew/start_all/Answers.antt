use Rattle.std.specs.Prelude.{◌≡◌, ℕ, ◌<◌, MatchResult, Result, get_or, vec_len, length}
use Rattle.std.proofs.Common.{arith, sym, ap, ◌∙◌, subst}
use Rattle.std.specs.declared.thread.PromisedHandle.{PromisedHandle}
use Rattle.pst_model.specs.declared.model.Model.{Model}
use Rattle.pst_model.specs.ModelView.{view_model}
use Rattle.pst_scen.specs.declared.scenario.Scenario.{Scenario}
use Rattle.pst_post.specs.Seats.{LaneState, fresh_seat}
use Rattle.pst_workers.specs.declared.crew.SeatedLane.{SeatedLane}
use Rattle.pst_workers.specs.declared.crew.Owes.{Owes}
use Rattle.pst_workers.specs.declared.worker.Returned.{Returned}
use Rattle.pst_workers.specs.Told.{told}
use Rattle.pst_workers.specs.Worked.{Worked, Backwards}
use Rattle.pst_workers.proofs.Rows.{backwards_more, last_begins, rest_begins}
use Rattle.pst_workers.proofs.crew.start_all.Given.{Over}
use Rattle.pst_workers.proofs.crew.start_all.Goals as goal
use Rattle.pst_workers.proofs.crew.start_all.Goals.{In-Some}

-- what was begun for a lane
abbrev fits : (g : Over) → Model → Scenario → ℕ → SeatedLane g.row.T.Denot → Result (PromisedHandle (Returned g.row.N.Denot g.row.T.Denot) (Owes g.row.N.Denot g.row.T.Denot)) (Returned g.row.N.Denot g.row.T.Denot) → Type 0
fits g model s k m b = MatchResult b
    (λ h. (h.promise.lane ≡ k) × (h.promise.model.value ≡ model) × (h.promise.scenario.value ≡ s) × (told g.T.Target.calls g.T.Target.faults h.promise.before.value ≡ told g.T.Target.calls g.T.Target.faults m.lane))
    (λ r. Worked (view_model model) s g.N.Name.table k (told g.T.Target.calls g.T.Target.faults m.lane) (told g.T.Target.calls g.T.Target.faults r.lane) r.seat r.stop r.leave)

-- the lane that was popped stood last
lane_is : (g : Over) (c : In-Some g) (e : SeatedLane g.row.T.Denot) → c.in-Some.seated ≡ get_or c.args.crew.items (length c.pop.new.self.items) e
lane_is g c e =
    let i = c.loop-seated.invariant in
    last_begins c.loop-seated.crew.items c.pop.new.self.items c.args.crew.items c.in-Some.seated c.in-Some.ensures.items (λ k d h. i.left k d (omega (arith, c.loop-seated.crew.ok.0, h))) e

others_are : (g : Over) (c : In-Some g) (k : ℕ) (d : SeatedLane g.row.T.Denot) → k < vec_len c.pop.new.self → get_or c.pop.new.self.items k d ≡ get_or c.args.crew.items k d
others_are g c k d h =
    let i = c.loop-seated.invariant in
    rest_begins c.loop-seated.crew.items c.pop.new.self.items c.args.crew.items c.in-Some.seated c.in-Some.ensures.items (λ x y z. i.left x y (omega (arith, c.loop-seated.crew.ok.0, z))) k d (omega (arith, c.pop.new.self.ok.0, h))

-- its seat is new
seat_is : (g : Over) (c : In-Some g) → c.in-Some.seated.seat ≡ fresh_seat g.N.Name.table (length c.pop.new.self.items)
seat_is g c =
    let count = c.loop-seated.invariant.count in
    let k = length c.pop.new.self.items in
    let below : k < vec_len c.args.crew = omega (arith, count, c.in-Some.ensures.len, c.pop.new.self.ok.0) in
    ap (λ (m : SeatedLane g.row.T.Denot). m.seat) (lane_is g c c.in-Some.seated) ∙ c.requires.crew k c.in-Some.seated below

own_lane : (g : Over) (c : In-Some g) → c.in-Some.seated.seat.lane ≡ length c.pop.new.self.items
own_lane g c = ap (λ (x : LaneState). x.lane) (seat_is g c)

pub start_one-requires-clause-seat : goal.start_one-requires-clause-seat
start_one-requires-clause-seat g c =
    let s = (goal.at.start_one-requires-clause-seat g c).In-Some in
    λ _ _. seat_is g s ∙ ap (λ (k : ℕ). fresh_seat g.N.Name.table k) (sym (own_lane g s))

pub loop-seated-preserved : goal.loop-seated-preserved
loop-seated-preserved g c =
    let s = (goal.at.loop-seated-preserved g c).In-Some in
    let i = c.loop-seated.invariant in
    let count = i.count in
    let room = i.room in
    let rest = c.pop.new.self in
    let begun = c.loop-seated.begun in
    let popped = c.in-Some.ensures in
    let pushed = c.push_reserved.ensures in
    let k = length rest.items in
    let total = vec_len c.args.crew in
    let model = c.args.job.now.model.now in
    let scenario = c.args.job.now.scenario.now in
    let own = subst (λ (n : ℕ). fits g model scenario n c.in-Some.seated c.start_one.result) (own_lane g s) c.start_one.ensures in
    let more = backwards_more (fits g model scenario) total k begun.items c.args.crew.items c.start_one.result (omega (arith, count, popped.len, rest.ok.0, begun.ok.0))
    (λ e. subst (λ (m : SeatedLane g.row.T.Denot). fits g model scenario k m c.start_one.result) (lane_is g s e) own) i.each in
    record {
      count = omega (arith, count, popped.len, pushed.len);
      left = others_are g s;
      room = omega (arith, room, pushed.capacity);
      each = subst (λ cs. Backwards (fits g model scenario) total cs c.args.crew.items) (sym pushed.items) more;
    }
