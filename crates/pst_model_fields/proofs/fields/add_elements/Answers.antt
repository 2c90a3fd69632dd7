use Rattle.std.proofs.Common.{ℕ}
use Rattle.std.specs.Prelude.{Some}
use Rattle.pst_elab_rules.specs.Types.{field}
use Rattle.pst_model_fields.proofs.Counting.{elements_next}
use Rattle.pst_model_fields.proofs.fields.add_elements.Goals as goal

pub loop-element-preserved : goal.loop-element-preserved
loop-element-preserved c =
    elements_next (λ (i : ℕ). field c.args.name c.args.domain.now (Some i)) c.loop-element.found.items c.add_one.new.found.items _ c.args.size c.loop-element.element c.loop-element-test.true c.in_ok-add_one.ensures c.loop-element.invariant
