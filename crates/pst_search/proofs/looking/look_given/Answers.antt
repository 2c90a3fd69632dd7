use Rattle.std.proofs.Common.{subst}
use Rattle.std.specs.Prelude.{IfSome}
use Rattle.pst_search_loop.specs.Kept.{IsConflict}
use Rattle.pst_list_values.specs.Walked.{kept_of}
use Rattle.pst_search.proofs.looking.look_given.Goals as goal

pub look-requires-clause-free : goal.look-requires-clause-free
look-requires-clause-free c = c.in_ok-refusal_at.ensures.open c.in-None.is

pub returns-in-Some : goal.returns-in-Some
returns-in-Some c = subst (λ o. IfSome o (λ x. IsConflict (kept_of c.args.lists.now) x)) c.in-Some.is c.in_ok-refusal_at.ensures.conflict
