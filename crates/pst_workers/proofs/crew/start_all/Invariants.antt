use Rattle.std.specs.Prelude.{◌≡◌, ℕ, ◌+◌, ◌<◌, ◌≤◌, MatchResult, get_or, vec_items, vec_len}
use Rattle.std.specs.Vec.{vec_capacity}
use Rattle.pst_model.specs.ModelView.{view_model}
use Rattle.pst_workers.specs.Told.{told}
use Rattle.pst_workers.specs.Worked.{Worked, Backwards}
use Rattle.pst_workers.proofs.crew.start_all.Given as goal

abbrev pub invariant-loop-seated : goal.invariant-loop-seated
invariant-loop-seated g l = record {
  count : vec_len l.crew + vec_len l.begun ≡ vec_len l.fn.crew;
  left : (k : ℕ) (d : _) → k < vec_len l.crew → get_or (vec_items l.crew) k d ≡ get_or (vec_items l.fn.crew) k d;
  room : vec_len l.fn.crew ≤ vec_capacity l.begun;
  each : Backwards (λ k m b. MatchResult b
      (λ h. (h.promise.lane ≡ k) × (h.promise.model.value ≡ l.job.model.now) × (h.promise.scenario.value ≡ l.job.scenario.now) × (told g.T.Target.calls g.T.Target.faults h.promise.before.value ≡ told g.T.Target.calls g.T.Target.faults m.lane))
      (λ r. Worked (view_model l.job.model.now) l.job.scenario.now g.N.Name.table k (told g.T.Target.calls g.T.Target.faults m.lane) (told g.T.Target.calls g.T.Target.faults r.lane) r.seat r.stop r.leave))
      (vec_len l.fn.crew) (vec_items l.begun) (vec_items l.fn.crew);
}

abbrev pub decreases-loop-seated : goal.decreases-loop-seated
decreases-loop-seated g l = vec_len l.crew
