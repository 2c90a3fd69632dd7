use Rattle.std.proofs.Common.{sym, ◌∙◌, arith}
use Rattle.pst_model.specs.ModelView.{view_model}
use Rattle.pst_known.specs.Known.{seen}
use Rattle.pst_new_refusals.proofs.Nodes.{looking_none, looking_more, looking_all}
use Rattle.pst_new_refusals.proofs.looking.some_looking_refused.Goals as goal

pub loop-n-init : goal.loop-n-init
loop-n-init c = looking_none (view_model c.args.scene.now.model.now) (seen c.args.scene.now) c.args.top c.args.handle

pub loop-n-preserved : goal.loop-n-preserved
loop-n-preserved c =
    looking_more (view_model c.args.scene.now.model.now) (seen c.args.scene.now) c.args.top c.args.handle c.loop-n.n (λ earlier. sym (c.in_ok-is_looking_refused.ensures earlier) ∙ c.if-branch.false) c.loop-n.invariant

pub returns : goal.returns
returns c = looking_all (view_model c.args.scene.now.model.now) (seen c.args.scene.now) c.args.top c.args.handle c.loop-n.n _ (omega arith) c.loop-n.invariant
