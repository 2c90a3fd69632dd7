use Rattle.std.proofs.Common.{[], ◌++◌, ◌∙◌, ap, sym, subst, append-nil}
use Rattle.std.proofs.lemmas.Option.{IfSome_then}
use Rattle.pst_model.specs.ModelView.{view_model}
use Rattle.pst_field_places.specs.Places.{IsFieldPlace}
use Rattle.pst_shape.specs.Walks.{Kept as Shape}
use Rattle.pst_link_walk.specs.Made.{choices_of}
use Rattle.pst_link_walk.proofs.walk.LinkWalk.field.Goals as goal

pub returns-in-None : goal.returns-in-None
returns-in-None c =
    let w = c.self.inside in
    let m = view_model w.model.now in
    let none = ap (λ o. w.shape.choices ++ choices_of o) c.in-None.is ∙ append-nil w.shape.choices in
    IfSome_then c.field.result c.field.ensures
    (λ place is.
    subst (λ k. IsFieldPlace (view_model k.model) k.root k.seed k.level k.choices place) c.self.view_is
    (subst (λ xs. IsFieldPlace m w.root w.seed w.level xs place) (sym none)
    (subst (λ (k : Shape). IsFieldPlace (view_model k.model) k.root k.seed w.level w.shape.choices place) c.self.invariant.shape (is w.level))))
