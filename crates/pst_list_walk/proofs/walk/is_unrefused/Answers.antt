use Rattle.pst_model.specs.ModelView.{view_model}
use Rattle.pst_new_refusals.specs.Newly.{StaysFree}
use Rattle.pst_list_walk.proofs.Free.{not_so}
use Rattle.pst_list_walk.proofs.walk.is_unrefused.Goals as goal

pub returns-in-Ok : goal.returns-in-Ok
returns-in-Ok c = not_so c.in-Ok.refused (StaysFree (view_model c.args.model.now) c.args.far.now.some c.args.nodes.now c.args.actions.now c.args.from c.args.fresh.now) c.in-Ok.ensures
