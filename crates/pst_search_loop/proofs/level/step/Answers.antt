use Rattle.pst_search_loop.proofs.Turns.{says_left}
use Rattle.pst_search_loop.proofs.level.step.Goals as goal

pub returns-in_ok-leave-in-Refused : goal.returns-in_ok-leave-in-Refused
returns-in_ok-leave-in-Refused g c =
    says_left (g.W.Walker.kept c.args.walker.now) (g.W.Walker.kept c.leave.new.walker) c.leave.new.frames.items c.in_ok-leave-in-Refused.field-0 c.in_ok-leave-in-Refused.ensures

pub returns-in_ok-leave-in-Closed : goal.returns-in_ok-leave-in-Closed
returns-in_ok-leave-in-Closed g c =
    says_left (g.W.Walker.kept c.args.walker.now) (g.W.Walker.kept c.leave-in-Closed.new.walker) c.leave-in-Closed.new.frames.items c.in_ok-leave-in-Closed.field-0 c.in_ok-leave-in-Closed.ensures
