use Rattle.std.specs.Prelude.{◌≡◌, ◌+◌, ◌≤◌, MatchResult, vec_items, vec_len}
use Rattle.std.specs.Vec.{vec_capacity}
use Rattle.pst_model.specs.ModelView.{view_model}
use Rattle.pst_workers.specs.Told.{told}
use Rattle.pst_workers.specs.Worked.{Worked, Backwards, Forwards}
use Rattle.pst_workers.proofs.crew.join_all.Given as goal

abbrev pub invariant-loop-worker : goal.invariant-loop-worker
invariant-loop-worker g l = record {
  count : vec_len l.begun + vec_len l.returned ≡ vec_len l.crew.value;
  room : vec_len l.crew.value ≤ vec_capacity l.returned;
  left : Backwards (λ k m b. MatchResult b
      (λ h. (h.promise.lane ≡ k) × (h.promise.model.value ≡ l.model) × (h.promise.scenario.value ≡ l.scenario) × (told g.T.Target.calls g.T.Target.faults h.promise.before.value ≡ told g.T.Target.calls g.T.Target.faults m.lane))
      (λ r. Worked (view_model l.model) l.scenario g.N.Name.table k (told g.T.Target.calls g.T.Target.faults m.lane) (told g.T.Target.calls g.T.Target.faults r.lane) r.seat r.stop r.leave))
      (vec_len l.crew.value) (vec_items l.begun) (vec_items l.crew.value);
  each : Forwards (λ k m r. Worked (view_model l.model) l.scenario g.N.Name.table k (told g.T.Target.calls g.T.Target.faults m.lane) (told g.T.Target.calls g.T.Target.faults r.lane) r.seat r.stop r.leave) (vec_items l.returned) (vec_items l.crew.value);
}

abbrev pub decreases-loop-worker : goal.decreases-loop-worker
decreases-loop-worker g l = vec_len l.begun
