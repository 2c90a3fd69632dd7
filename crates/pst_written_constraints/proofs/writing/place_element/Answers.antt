use Rattle.std.proofs.Common.{sym, subst}
use Rattle.pst_expr.specs.Tree.{Variable, Element, view}
use Rattle.pst_written_constraints.specs.Terms.{IsMirror}
use Rattle.pst_written_constraints.proofs.Mirrors.{element_mirror, alike_mirror}
use Rattle.pst_written_constraints.proofs.writing.place_element.Goals as goal

pub returns-in-Some : goal.returns-in-Some
returns-in-Some c = λ terms first e row mirror.
    alike_mirror terms (Element first c.args.count e) (Element c.args.start c.args.count (view c.args.index)) (Variable c.in-Some.variable) c.in-Some.ensures
    (element_mirror terms first c.args.count c.args.start row e (view c.args.index) mirror)

pub returns-in_ok-new-in-None : goal.returns-in_ok-new-in-None
returns-in_ok-new-in-None c = λ terms first e row mirror.
    element_mirror terms first c.args.count c.args.start row e (view c.in_ok-new-in-None.field-0.value) (subst (λ x. IsMirror terms e (view x)) (sym c.in_ok-new-in-None.ensures.ok) mirror)
