use Rattle.std.proofs.Common.{ℕ, ◌∙◌, ap, subst}
use Rattle.std.specs.Prelude.{reverse}
use Rattle.std.proofs.lemmas.Option.{IfSome_then}
use Rattle.pst_model.specs.ModelView.{view_model}
use Rattle.pst_field_places.specs.Places.{IsFieldPlace}
use Rattle.pst_shape_parts.specs.Trees.{tree_of}
use Rattle.pst_shape.specs.Choices.{digits_of, at_after}
use Rattle.pst_shape.specs.Fields.{IsFieldAt}
use Rattle.pst_shape.proofs.Stands.{standing}
use Rattle.pst_shape.proofs.Fields.{is_place}
use Rattle.pst_shape.proofs.walk.Walk.field.Goals as goal

pub returns : goal.returns
returns c =
    let w = c.self.inside in
    let m = view_model w.model.now in
    let made = reverse w.made.items in
    let t = tree_of w.grown in
    IfSome_then c.field_at.result c.field_at.ensures
    (λ place is. λ (level : ℕ).
    subst (λ k. IsFieldPlace (view_model k.model) k.root k.seed level k.choices place) c.self.view_is
    (is_place m w.root w.seed level (digits_of made) (at_after w.start made) t place (standing m w.root w.seed w.start made t c.self.invariant)
    (subst (λ a. IsFieldAt a place) (c.at_of.ensures ∙ ap (λ l. at_after w.start (reverse l)) c.deref.ensures.value) is)))
