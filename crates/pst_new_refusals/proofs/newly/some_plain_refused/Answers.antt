use Rattle.std.proofs.Common.{ap, length, subst}
use Rattle.pst_model.specs.ModelView.{view_model}
use Rattle.pst_known.specs.Known.{seen}
use Rattle.pst_new_refusals.specs.Newly.{AreFree, IfNot}
use Rattle.pst_new_refusals.proofs.Nodes.{plain_if}
use Rattle.pst_new_refusals.proofs.newly.some_plain_refused.Goals as goal

pub returns : goal.returns
returns c =
    let m = view_model c.args.scene.now.model.now in
    let s = seen c.args.scene.now in
    plain_if m s c.args.from c.args.fresh.now c.in_ok-new.new
    (subst (λ n. AreFree m s c.args.from n) (ap length c.requires.nodes) (subst (λ b. IfNot b (AreFree m s c.args.from (length c.args.nodes.now))) c.if-old.false c.in_ok-old.ensures)) c.in_ok-new.ensures
