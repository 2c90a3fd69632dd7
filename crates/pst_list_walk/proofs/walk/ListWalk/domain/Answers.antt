use Rattle.std.proofs.Common.{subst}
use Rattle.std.proofs.lemmas.Option.{IfSome_then}
use Rattle.pst_list_walk.specs.Walks.{HasDomain}
use Rattle.pst_list_walk.proofs.Answering.{domain_is}
use Rattle.pst_list_walk.proofs.walk.ListWalk.domain.Goals as goal

pub returns-in-Some : goal.returns-in-Some
returns-in-Some c =
    let w = c.self.inside in
    IfSome_then c.domain.result c.domain.ensures
    (λ d of.
    subst (λ k. HasDomain k d.now) c.self.view_is
    (domain_is w.model.now w.root w.seed w.level w.links w.values c.in-Some.values d.now c.self.invariant.links c.in-Some.is c.self.invariant.stands c.ends.ensures of))
