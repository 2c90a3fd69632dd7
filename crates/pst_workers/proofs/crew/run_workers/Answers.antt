use denote.Exit.{no}
use denote.Param.Send.{param_send, param_sync, arg_send, arg_sync}
use denote.Param.Always.{Once-at_one}
use Rattle.std.specs.Prelude.{◌≡◌, ℕ, MatchResult, Result, vec_len}
use Rattle.std.proofs.Common.{sym, subst, Vec, Global}
use Rattle.std.specs.declared.thread.PromisedHandle.{PromisedHandle}
use Rattle.pst_model.specs.declared.model.Model.{Model}
use Rattle.pst_model.specs.ModelView.{view_model}
use Rattle.pst_scen.specs.declared.scenario.Scenario.{Scenario}
use Rattle.pst_workers.specs.declared.crew.SeatedLane.{SeatedLane}
use Rattle.pst_workers.specs.declared.crew.Owes.{Owes}
use Rattle.pst_workers.specs.declared.worker.Returned.{Returned}
use Rattle.pst_workers.specs.Told.{told}
use Rattle.pst_workers.specs.Worked.{Worked, Backwards, Forwards}
use Rattle.pst_workers.proofs.crew.run_workers.Given.{Over}
use Rattle.pst_workers.proofs.crew.run_workers.Goals as goal

abbrev fits : (g : Over) → Model → Scenario → ℕ → SeatedLane g.row.T.Denot → Result (PromisedHandle (Returned g.row.N.Denot g.row.T.Denot) (Owes g.row.N.Denot g.row.T.Denot)) (Returned g.row.N.Denot g.row.T.Denot) → Type 0
fits g model s k m b = MatchResult b
    (λ h. (h.promise.lane ≡ k) × (h.promise.model.value ≡ model) × (h.promise.scenario.value ≡ s) × (told g.T.Target.calls g.T.Target.faults h.promise.before.value ≡ told g.T.Target.calls g.T.Target.faults m.lane))
    (λ r. Worked (view_model model) s g.N.Name.table k (told g.T.Target.calls g.T.Target.faults m.lane) (told g.T.Target.calls g.T.Target.faults r.lane) r.seat r.stop r.leave)

abbrev gave : (g : Over) → Model → Scenario → ℕ → SeatedLane g.row.T.Denot → Returned g.row.N.Denot g.row.T.Denot → Type 0
gave g model s k m r = Worked (view_model model) s g.N.Name.table k (told g.T.Target.calls g.T.Target.faults m.lane) (told g.T.Target.calls g.T.Target.faults r.lane) r.seat r.stop r.leave

pub join_all-requires-clause-each : goal.join_all-requires-clause-each
join_all-requires-clause-each g c =
    subst (λ (v : Vec (SeatedLane g.row.T.Denot) Global). Backwards (fits g c.args.job.now.model.now c.args.job.now.scenario.now) (vec_len v) c.scoped-begun.result.items v.items) (sym c.of-was.ensures) c.scoped-begun.ensures.1.1

pub returns-clause-each : goal.returns-clause-each
returns-clause-each g c =
    subst (λ (v : Vec (SeatedLane g.row.T.Denot) Global). Forwards (gave g c.args.job.now.model.now c.args.job.now.scenario.now) c.join_all.result.items v.items) c.of-was.ensures c.join_all.ensures.each

pub scoped-begun-requires : goal.scoped-begun-requires
scoped-begun-requires g c = Once-at_one _ _ (λ s. ((c.requires.sound, c.requires.types), ((c.requires.post, c.requires.lanes), (c.requires.crew, (c.requires.room, (param_send 0 _ (arg_send _ no _ c.type_bounds.send-N), param_send 1 _ (arg_send _ no _ c.type_bounds.send-T), param_sync 0 _ (arg_sync _ no _ c.type_bounds.sync-N), param_sync 2 _ (arg_sync _ no _ c.type_bounds.sync-G), param_sync 3 _ (arg_sync _ no _ c.type_bounds.sync-R)))))))
