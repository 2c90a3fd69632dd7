use Rattle.std.specs.Prelude.{◌≡◌, ℕ, ◌+◌, MatchResult, Result, Ok, Err, get_or, vec_len, length}
use Rattle.std.proofs.Common.{arith, sym, subst}
use Rattle.std.specs.declared.thread.PromisedHandle.{PromisedHandle}
use Rattle.pst_model.specs.declared.model.Model.{Model}
use Rattle.pst_model.specs.ModelView.{view_model}
use Rattle.pst_scen.specs.declared.scenario.Scenario.{Scenario}
use Rattle.pst_workers.specs.declared.crew.SeatedLane.{SeatedLane}
use Rattle.pst_workers.specs.declared.crew.Owes.{Owes}
use Rattle.pst_workers.specs.declared.worker.Returned.{Returned}
use Rattle.pst_workers.specs.Told.{Told, told}
use Rattle.pst_workers.specs.Worked.{Worked, Backwards, Forwards}
use Rattle.pst_workers.proofs.Rows.{backwards_less, backwards_last, forwards_more}
use Rattle.pst_workers.proofs.crew.join_all.Given.{Over}
use Rattle.pst_workers.proofs.crew.join_all.Goals as goal

abbrev Begun : (g : Over) → Type 0
Begun g = Result (PromisedHandle (Returned g.row.N.Denot g.row.T.Denot) (Owes g.row.N.Denot g.row.T.Denot)) (Returned g.row.N.Denot g.row.T.Denot)

abbrev fits : (g : Over) → Model → Scenario → ℕ → SeatedLane g.row.T.Denot → Begun g → Type 0
fits g model s k m b = MatchResult b
    (λ h. (h.promise.lane ≡ k) × (h.promise.model.value ≡ model) × (h.promise.scenario.value ≡ s) × (told g.T.Target.calls g.T.Target.faults h.promise.before.value ≡ told g.T.Target.calls g.T.Target.faults m.lane))
    (λ r. Worked (view_model model) s g.N.Name.table k (told g.T.Target.calls g.T.Target.faults m.lane) (told g.T.Target.calls g.T.Target.faults r.lane) r.seat r.stop r.leave)

abbrev gave : (g : Over) → Model → Scenario → ℕ → SeatedLane g.row.T.Denot → Returned g.row.N.Denot g.row.T.Denot → Type 0
gave g model s k m r = Worked (view_model model) s g.N.Name.table k (told g.T.Target.calls g.T.Target.faults m.lane) (told g.T.Target.calls g.T.Target.faults r.lane) r.seat r.stop r.leave

-- what a worker gives back that was begun so
ended : (g : Over) (model : Model) (s : Scenario) (k : ℕ) (m : SeatedLane g.row.T.Denot) (b : Begun g) (r : Returned g.row.N.Denot g.row.T.Denot) → fits g model s k m b
    → MatchResult b
    (λ h. Worked (view_model h.promise.model.value) h.promise.scenario.value g.N.Name.table h.promise.lane (told g.T.Target.calls g.T.Target.faults h.promise.before.value) (told g.T.Target.calls g.T.Target.faults r.lane) r.seat r.stop r.leave)
    (λ x. r ≡ x)
    → gave g model s k m r
ended g model s k m (Ok h) r f e =
    subst (λ (z : Model × Scenario × ℕ × Told). Worked (view_model z.0) z.1 g.N.Name.table z.2 z.3 (told g.T.Target.calls g.T.Target.faults r.lane) r.seat r.stop r.leave) (λ i. (f.1 i, f.2 i, f.0 i, f.3 i)) e
ended g model s k m (Err x) r f e = subst (λ (y : Returned g.row.N.Denot g.row.T.Denot). gave g model s k m y) (sym e) f

pub loop-worker-preserved : goal.loop-worker-preserved
loop-worker-preserved g c =
    let i = c.loop-worker.invariant in
    let all_count = i.count in
    let room = i.room in
    let popped = c.in-Some.ensures in
    let pushed = c.push_reserved.ensures in
    let ms = c.args.crew.value.items in
    let rest = c.pop.new.self in
    let all = c.loop-worker.returned in
    let total = vec_len c.args.crew.value in
    let model = c.args.model.now in
    let scenario = c.args.scenario.now in
    let b = subst (λ cs. Backwards (fits g model scenario) total cs ms) popped.items i.left in
    let count : length rest.items + length all.items + 1 ≡ total = omega (arith, all_count, popped.len, rest.ok.0, all.ok.0) in
    let now : (e : SeatedLane g.row.T.Denot) → gave g model scenario (length all.items) (get_or ms (length all.items) e) c.end_of.result = λ e.
    ended g model scenario (length all.items) (get_or ms (length all.items) e) c.in-Some.worker c.end_of.result (backwards_last (fits g model scenario) total (length all.items) rest.items ms c.in-Some.worker count b e) c.end_of.ensures in
    record {
      count = omega (arith, all_count, popped.len, pushed.len);
      room = omega (arith, room, pushed.capacity);
      left = backwards_less (fits g model scenario) total rest.items ms c.in-Some.worker b;
      each = subst (λ cs. Forwards (gave g model scenario) cs ms) (sym pushed.items) (forwards_more (gave g model scenario) all.items ms c.end_of.result now i.each);
    }
