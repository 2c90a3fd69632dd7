use Rattle.std.proofs.Common.{◌+◌, drop, ℕ, sym, ap, ◌∙◌}
use Rattle.std.specs.Prelude.{Option}
use Rattle.std.specs.Option.{option_and_then}
use Rattle.pst_bound_pools.specs.Serving.{led_to}
use Rattle.pst_bound_pools.proofs.Above.{led_more}
use Rattle.pst_bound_pools.proofs.instance_table.InstanceTable.led_to.Goals as goal

pub returns-in_err-reached : goal.returns-in_err-reached
returns-in_err-reached c =
    let xs = c.args.self.now in
    let f : ℕ → Option ℕ = λ (child : ℕ). led_to xs child (drop (c.loop-name.name-index + 1) c.args.names.now) in
    c.from_residual.ensures
    ∙ sym (sym c.loop-name.invariant ∙ led_more xs c.loop-name.reached c.args.names.now c.loop-name.name-index c.loop-name-test.true ∙ ap (option_and_then f) (sym c.child_named.ensures ∙ c.in_err-reached.was))

pub loop-name-preserved : goal.loop-name-preserved
loop-name-preserved c =
    let xs = c.args.self.now in
    let f : ℕ → Option ℕ = λ (child : ℕ). led_to xs child (drop (c.loop-name.name-index + 1) c.args.names.now) in
    sym (led_more xs c.loop-name.reached c.args.names.now c.loop-name.name-index c.loop-name-test.true ∙ ap (option_and_then f) (sym c.child_named.ensures ∙ c.in_ok-reached.was)) ∙ c.loop-name.invariant
