use Rattle.std.specs.Prelude.{◌≡◌, ℕ, ◌+◌, ◌<◌, ◌≤◌, IfSome, vec_items, vec_len}
use Rattle.std.specs.Vec.{vec_capacity}
use Rattle.std.specs.Vec.Iter.{into_iter_items, into_iter_len}
use Rattle.pst_model.specs.ModelView.{view_model}
use Rattle.pst_post.specs.Views.{entry_at}
use Rattle.pst_workers.specs.Told.{told}
use Rattle.pst_workers.specs.Worked.{Worked, Forwards, Onwards}
use Rattle.pst_run_many.specs.Gathered.{IsHome}
use Rattle.pst_run_many.specs.Stops.{Came}
use Rattle.pst_run_many.proofs.gathering.gather_all.Given as goal

abbrev pub invariant-loop-worker : goal.invariant-loop-worker
invariant-loop-worker g l = record {
  count : vec_len l.lanes + into_iter_len l.worker-iterator ≡ vec_len l.fn.returned;
  room : vec_capacity l.lanes ≡ vec_capacity l.fn.lanes;
  fits : vec_len l.fn.returned ≤ vec_capacity l.lanes;
  left : Onwards (λ k m r. Worked (view_model l.job.model.now) l.job.scenario.now g.N.Name.table k (told g.T.Target.calls g.T.Target.faults m.lane) (told g.T.Target.calls g.T.Target.faults r.lane) r.seat r.stop r.leave) (vec_len l.lanes) (into_iter_items l.worker-iterator) (vec_items l.crew.value);
  home : (k : ℕ) → k < vec_len l.lanes → IsHome (entry_at l.desk.entries k);
  inside : IfSome l.first (λ f. f.lane < vec_len l.lanes);
  came : Forwards (λ k m t. Came (view_model l.job.model.now) l.job.scenario.now l.first k (entry_at l.desk.entries k).posted (entry_at l.desk.entries k).ended (told g.T.Target.calls g.T.Target.faults m.lane) (told g.T.Target.calls g.T.Target.faults t)) (vec_items l.lanes) (vec_items l.crew.value);
}
