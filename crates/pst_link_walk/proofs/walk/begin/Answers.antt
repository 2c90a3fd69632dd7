use Rattle.std.proofs.Common.{◌∙◌, sym}
use Rattle.pst_link_walk.proofs.Beginning.{begins_whole, begins_none}
use Rattle.pst_link_walk.proofs.walk.begin.Goals as goal

pub returns-in_ok-supply-in-Whole : goal.returns-in_ok-supply-in-Whole
returns-in_ok-supply-in-Whole c =
    begins_whole c.args.model.now c.args.root c.args.seed c.args.level c.args.shape.now.choices c.args.shape.now c.requires.shape c.in_ok-supply-in-Whole.supply c.args.place c.nodes.result.now c.leaves.result.now
    (sym (c.next.ensures c.args.level) ∙ c.in-Whole.is) (c.nodes.ensures c.args.level) (c.leaves.ensures c.args.level) c.requires.place c.in_ok-supply-in-Whole.ensures

pub returns-in_default : goal.returns-in_default
returns-in_default c =
    begins_none c.args.model.now c.args.root c.args.seed c.args.level c.args.shape.now.choices c.args.shape.now c.requires.shape c.requires.used (λ e. c.in_default.not-Whole (c.next.ensures c.args.level ∙ e))
