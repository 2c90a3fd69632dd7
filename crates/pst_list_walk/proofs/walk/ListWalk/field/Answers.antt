use Rattle.std.proofs.Common.{[], ◌++◌, ◌∙◌, ap, sym, subst, append-nil}
use Rattle.std.proofs.lemmas.Option.{IfSome_then}
use Rattle.pst_model.specs.ModelView.{view_model}
use Rattle.pst_field_places.specs.Places.{IsFieldPlace}
use Rattle.pst_link_walk.specs.Walks.{Kept}
use Rattle.pst_list_walk.specs.Made.{choices_of}
use Rattle.pst_list_walk.proofs.walk.ListWalk.field.Goals as goal

pub returns-in-None : goal.returns-in-None
returns-in-None c =
    let w = c.self.inside in
    let m = view_model w.model.now in
    let none = ap (λ o. w.links.choices ++ choices_of o) c.in-None.is ∙ append-nil w.links.choices in
    IfSome_then c.field.result c.field.ensures
    (λ place is.
    subst (λ k. IsFieldPlace (view_model k.model) k.root k.seed k.level k.choices place) c.self.view_is
    (subst (λ xs. IsFieldPlace m w.root w.seed w.level xs place) (sym none)
    (subst (λ (k : Kept). IsFieldPlace (view_model k.model) k.root k.seed k.level w.links.choices place) c.self.invariant.links is)))
