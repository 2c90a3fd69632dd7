use Rattle.std.proofs.Common.{subst, ◌∙◌}
use Rattle.std.specs.Prelude.{IfSome}
use Rattle.pst_list_walk.specs.Walks.{HasFront}
use Rattle.pst_list_values.proofs.behind.begin.Goals as goal

pub begin_linked-requires-clause-front : goal.begin_linked-requires-clause-front
begin_linked-requires-clause-front c = subst (λ o. IfSome o (λ n. HasFront c.args.lists.now n)) c.in-Some.is c.in_ok-front.ensures

pub begin_linked-requires-clause-all : goal.begin_linked-requires-clause-all
begin_linked-requires-clause-all c = c.if-front-count.false ∙ c.in_ok-count.ensures
