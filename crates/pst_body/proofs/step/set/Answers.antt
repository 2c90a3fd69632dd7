use Rattle.std.proofs.Common.{◌≡◌, ℤ, subst, rules, SFits, w64, to_z, of_z}
use Rattle.std.proofs.lemmas.Int.{to_z-of_z}
use Rattle.std.proofs.lemmas.Result.{err_from_is_err_and}
use Rattle.pst_model.specs.ModelView.{view_source}
use Rattle.pst_body.specs.Sites.{place_of}
use Rattle.pst_body.specs.Steps.{Stored}
use Rattle.pst_body.proofs.Steps.{set_stopped, set_did}
use Rattle.pst_body.proofs.step.set.Goals as goal

pub returns-in_err-value : goal.returns-in_err-value
returns-in_err-value g c =
    let p = err_from_is_err_and c.from_residual.result c.from_residual.ensures.1 in
    rw (p.1, p.2) (set_stopped (place_of c.args.site.now c.args.turns.now) (view_source c.args.source.now) c.args.local c.args.range c.args.memory.now c.value_from.new.memory (g.T.Target.calls c.args.lane.now) (g.T.Target.calls c.value_from.new.lane) (g.T.Target.faults c.args.lane.now) (g.T.Target.faults c.value_from.new.lane) c.in_err-value.field-0.0 c.in_err-value.ensures)

pub returns : goal.returns
returns g c =
    let fits : SFits w64 c.in_ok-value.value = search rules in
    let same : to_z w64 (of_z w64 c.in_ok-value.value) ≡ c.in_ok-value.value = to_z-of_z w64 c.in_ok-value.value fits in
    set_did (place_of c.args.site.now c.args.turns.now) (view_source c.args.source.now) c.args.local c.args.range c.args.memory.now c.value_from.new.memory c.store.new.memory (g.T.Target.calls c.args.lane.now) (g.T.Target.calls c.value_from.new.lane) (g.T.Target.faults c.args.lane.now) (g.T.Target.faults c.value_from.new.lane) c.in_ok-value.value c.store.result c.in_ok-value.ensures
    (subst (λ (v : ℤ). Stored {A = Unit {0}} c.args.local c.args.range v c.value_from.new.memory c.store.new.memory c.store.result) same c.store.ensures)
