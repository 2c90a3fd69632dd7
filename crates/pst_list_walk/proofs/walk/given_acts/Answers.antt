use Rattle.std.proofs.Common.{[], refl}
use Rattle.pst_link_walk.specs.Walks.{answer}
use Rattle.pst_list_walk.proofs.Going.{given_all, given_none}
use Rattle.pst_list_walk.proofs.walk.given_acts.Goals as goal

pub returns-then-not-far : goal.returns-then-not-far
returns-then-not-far c = given_none c.args.far (answer c.args.links.now) [] c.if-not-far.true refl

pub returns-in-Some : goal.returns-in-Some
returns-in-Some c = given_all c.args.far (answer c.args.links.now) c.in-Some.acts.now c.in-Some.ensures
