use Rattle.std.specs.Prelude.{◌≡◌, ℕ, ◌+◌, ◌<◌, ◌≤◌, List, Option, get_or, vec_len, [], ◌∷◌, ◌++◌, length}
use Rattle.std.proofs.Common.{arith, refl, sym, ap, ◌∙◌, subst}
use Rattle.std.specs.Vec.Iter.{into_iter_items, into_iter_len}
use Rattle.pst_model.specs.declared.model.Model.{Model}
use Rattle.pst_model.specs.ModelView.{view_model}
use Rattle.pst_scen.specs.declared.scenario.Scenario.{Scenario}
use Rattle.pst_post.specs.declared.view.Entry.{Entry}
use Rattle.pst_post.specs.Seats.{seat_progress}
use Rattle.pst_post.specs.Views.{entry_at}
use Rattle.pst_workers.specs.declared.crew.SeatedLane.{SeatedLane}
use Rattle.pst_workers.specs.declared.worker.Returned.{Returned}
use Rattle.pst_workers.specs.Told.{told}
use Rattle.pst_workers.specs.Worked.{Worked, Forwards, Onwards}
use Rattle.pst_workers.proofs.Rows.{at_or, onwards_all, onwards_first, onwards_rest, forwards_more}
use Rattle.pst_run_many.specs.declared.stop.LaneStop.{LaneStop}
use Rattle.pst_run_many.specs.Gathered.{IsHome, IsSettled}
use Rattle.pst_run_many.specs.Stops.{earlier_of, Came}
use Rattle.pst_run_many.proofs.Settling.{come_home, own_allowed, still_came, below_more, IsBelow}
use Rattle.pst_run_many.proofs.gathering.gather_all.Given.{Over}
use Rattle.pst_run_many.proofs.gathering.gather_all.Goals as goal
use Rattle.pst_run_many.proofs.gathering.gather_all.Goals.{In-Some}

-- what a worker gave back
abbrev gave : (g : Over) → Model → Scenario → ℕ → SeatedLane g.row.T.Denot → Returned g.row.N.Denot g.row.T.Denot → Type 0
gave g model s k m r = Worked (view_model model) s g.N.Name.table k (told g.T.Target.calls g.T.Target.faults m.lane) (told g.T.Target.calls g.T.Target.faults r.lane) r.seat r.stop r.leave

-- what a lane has come to
abbrev came : (g : Over) → Model → Scenario → Option LaneStop → List Entry → ℕ → SeatedLane g.row.T.Denot → g.row.T.Denot → Type 0
came g model s first entries k m t =
    Came (view_model model) s first k (entry_at entries k).posted (entry_at entries k).ended (told g.T.Target.calls g.T.Target.faults m.lane) (told g.T.Target.calls g.T.Target.faults t)

-- what the worker of the next lane gave back
next_is : (g : Over) (c : In-Some g) → (e : SeatedLane g.row.T.Denot) → gave g c.args.job.now.model.now c.args.job.now.scenario.now (vec_len c.loop-worker.lanes) (get_or c.args.crew.value.items (vec_len c.loop-worker.lanes) e) c.in-Some.worker
next_is g c =
    let gives = gave g c.args.job.now.model.now c.args.job.now.scenario.now in
    onwards_first gives (vec_len c.loop-worker.lanes) c.in-Some.worker (into_iter_items c.next.new.self) c.args.crew.value.items
    (subst (λ cs. Onwards gives (vec_len c.loop-worker.lanes) cs c.args.crew.value.items) c.in-Some.ensures.steps.0 c.loop-worker.invariant.left)

pub gather_one-requires-clause-seat : goal.gather_one-requires-clause-seat
gather_one-requires-clause-seat g c =
    (next_is g (goal.at.gather_one-requires-clause-seat g c).In-Some (record { lane = c.in-Some.worker.lane; seat = c.in-Some.worker.seat })).table_is

pub loop-worker-init : goal.loop-worker-init
loop-worker-init g c =
    let gives = c.into_iter-worker-iterator.ensures.into_iter_gives in
    let none = c.requires.room.0 in
    let room = c.requires.room.1 in
    let owed = gave g c.args.job.now.model.now c.args.job.now.scenario.now in
    record {
      count = omega (arith, none, gives.1);
      room = refl;
      fits = room;
      left = subst (λ n. Onwards owed n (into_iter_items c.into_iter-worker-iterator.result) c.args.crew.value.items) (sym none)
          (subst (λ cs. Onwards owed 0 cs c.args.crew.value.items) (sym gives.0) (onwards_all owed c.args.returned.items c.args.crew.value.items c.requires.each));
      home = λ k h. absurd (omega (arith, none, h));
      inside = tt;
      came = λ k d e h. absurd (omega (arith, none, h, c.args.lanes.now.ok.0));
    }

pub loop-worker-preserved : goal.loop-worker-preserved
loop-worker-preserved g c =
    let i = c.loop-worker.invariant in
    let next = next_is g (goal.at.loop-worker-preserved g c).In-Some in
    let model = c.args.job.now.model.now in
    let scenario = c.args.job.now.scenario.now in
    let made = vec_len c.loop-worker.lanes in
    let lanes = c.loop-worker.lanes in
    let steps = c.in-Some.ensures.steps in
    let pushed = c.push_reserved.ensures in
    let ms = c.args.crew.value.items in
    let others = c.gather_one.ensures.others in
    let entries = c.gather_one.new.desk.entries in
    let worker = c.in-Some.worker in
    let count = i.count in
    let fits = i.fits in
    let rest = subst (λ cs. Onwards (gave g model scenario) made cs ms) steps.0 i.left in
    let all : length lanes.items ≡ made = sym lanes.ok.0 in
    let one : SeatedLane g.row.T.Denot = record { lane = worker.lane; seat = worker.seat } in
    let lane : worker.seat.lane ≡ made = (next one).lane_is in
    let settled : IsSettled (seat_progress worker.seat) (entry_at entries made) = subst (λ (k : ℕ). IsSettled (seat_progress worker.seat) (entry_at entries k)) lane c.gather_one.ensures.here in
    let apart : (k : ℕ) → k < made → entry_at entries k ≡ entry_at c.loop-worker.desk.entries k = λ k h. others k (λ e. omega (arith, e, lane, h)) in
    let first : c.earlier-first.result ≡ earlier_of c.loop-worker.first worker.stop made = c.earlier-first.ensures ∙ ap (λ (n : ℕ). earlier_of c.loop-worker.first worker.stop n) (c.lane.ensures.lane ∙ lane) in
    let now = earlier_of c.loop-worker.first worker.stop made in
    let old = λ (k : ℕ) (d : g.row.T.Denot) (e : SeatedLane g.row.T.Denot) (h : k < length lanes.items).
    let low : k < made = omega (arith, all, h) in
    subst (λ (x : Entry). Came (view_model model) scenario now k x.posted x.ended (told g.T.Target.calls g.T.Target.faults (get_or ms k e).lane) (told g.T.Target.calls g.T.Target.faults (get_or lanes.items k d))) (sym (apart k low))
    (still_came (view_model model) scenario c.loop-worker.first worker.stop made k (entry_at c.loop-worker.desk.entries k).posted (entry_at c.loop-worker.desk.entries k).ended
    (told g.T.Target.calls g.T.Target.faults (get_or ms k e).lane) (told g.T.Target.calls g.T.Target.faults (get_or lanes.items k d)) low (i.came k d e h)) in
    let new : (e : SeatedLane g.row.T.Denot) → came g model scenario now entries (length lanes.items) (get_or ms (length lanes.items) e) worker.lane = λ e.
    subst (λ (k : ℕ). came g model scenario now entries k (get_or ms k e) worker.lane) (sym all)
    (record {
      stop = worker.stop;
      come = come_home (view_model model) scenario worker.seat (entry_at entries made) worker.stop (told g.T.Target.calls g.T.Target.faults (get_or ms made e).lane) (told g.T.Target.calls g.T.Target.faults worker.lane) (next e).run settled.returned;
      allowed = own_allowed c.loop-worker.first worker.stop made i.inside;
    }) in
    record {
      count = omega (arith, count, steps.1, pushed.len);
      room = pushed.capacity ∙ i.room;
      fits = omega (arith, fits, pushed.capacity);
      left = subst (λ n. Onwards (gave g model scenario) n (into_iter_items c.next.new.self) ms) (sym pushed.len) (onwards_rest (gave g model scenario) made worker (into_iter_items c.next.new.self) ms rest);
      home = λ k h. at_or (λ j. j < made + 1 → IsHome (entry_at entries j)) made k (λ _. (seat_progress worker.seat, settled.home))
          (λ ne h'. let low : k < made = omega (arith, ne, h') in subst (λ (x : Entry). IsHome x) (sym (apart k low)) (i.home k low)) (omega (arith, h, pushed.len));
      inside = subst (λ (n : ℕ). IsBelow c.earlier-first.result n) (sym pushed.len) (subst (λ (f : Option LaneStop). IsBelow f (made + 1)) (sym first) (below_more c.loop-worker.first worker.stop made i.inside));
      came = subst (λ (f : Option LaneStop). Forwards (came g model scenario f entries) c.push_reserved.new.self.items ms) (sym first)
          (subst (λ ts. Forwards (came g model scenario now entries) ts ms) (sym pushed.items) (forwards_more (came g model scenario now entries) lanes.items ms worker.lane new old));
    }
