use Rattle.std.proofs.Common.{subst, sym}
use Rattle.std.proofs.lemmas.Option.{IfSome_then}
use Rattle.pst_shape.specs.Walks.{HasDigit}
use Rattle.pst_value_walk.specs.Walks.{HasDigit as ValueDigit}
use Rattle.pst_list_walk.specs.Walks.{answer, HasValue}
use Rattle.pst_list_walk.proofs.Answering.{some_answers, digit_same, value_is}
use Rattle.pst_list_walk.proofs.walk.ListWalk.value.Goals as goal

pub value-requires : goal.value-requires
value-requires c =
    let w = c.self.inside in
    let has = subst (λ k. HasDigit (answer k) c.args.digit) (sym c.self.view_is) c.requires in
    subst (λ a. ValueDigit a c.args.digit) (some_answers w.model.now w.root w.seed w.level w.links.choices w.values c.in-Some.values c.in-Some.is c.self.invariant.stands) (digit_same _ c.args.digit has)

pub returns-in-Some : goal.returns-in-Some
returns-in-Some c =
    let w = c.self.inside in
    IfSome_then c.value.result c.value.ensures
    (λ v of.
    subst (λ k. HasValue k c.args.digit v) c.self.view_is
    (value_is w.model.now w.root w.seed w.level w.links w.values c.in-Some.values c.args.digit v c.self.invariant.links c.in-Some.is c.self.invariant.stands c.ends.ensures of))
