use Rattle.std.proofs.Common.{◌≡◌, ◌∙◌, Contains, map, sym, ap, subst}
use Rattle.std.specs.Prelude.{IfSome}
use Rattle.std.specs.Option.{option_map}
use Rattle.pst_model.specs.ConstraintTree.{view_constraint}
use Rattle.pst_model.specs.ActivityTree.{Traverse}
use Rattle.pst_model.specs.ModelView.{view_model, view_step}
use Rattle.pst_known.specs.Known.{seen}
use Rattle.pst_legal.specs.Statements.{StandsFor}
use Rattle.pst_refusals.specs.Founds.{stated_of}
use Rattle.pst_field_values.proofs.Later.{stated_stands, traversal_there, traversal_lasts}
use Rattle.pst_field_values.proofs.written.write_traversal.Goals as goal

pub write_all-requires-clause-there : goal.write_all-requires-clause-there
write_all-requires-clause-there c =
    let m = view_model c.args.scene.now.model.now in
    let nodes = c.args.scene.now.nodes.now in
    let n = c.args.subject.now.node in
    let x = c.in-Some.found in
    let stands = stated_stands m nodes n (stated_of x) (sym c.requires.stated ∙ ap (option_map stated_of) c.in-Some.is) in
    let top : c.args.subject.now.top ≡ x.top = subst (λ o. IfSome o (λ y. c.args.subject.now.top ≡ y.top)) c.in-Some.is c.requires.top in
    traversal_there m nodes n c.args.subject.now.top (view_step x.step.now) x.indices.items (subst (λ k. StandsFor m nodes k n (view_step x.step.now) x.indices.items) (sym top) stands)

pub write_all-requires-clause-last : goal.write_all-requires-clause-last
write_all-requires-clause-last c =
    let m = view_model c.args.scene.now.model.now in
    let nodes = c.args.scene.now.nodes.now in
    let n = c.args.subject.now.node in
    let x = c.in-Some.found in
    let inline = map view_constraint c.in-Traverse.inline.items in
    let stands = stated_stands m nodes n (stated_of x) (sym c.requires.stated ∙ ap (option_map stated_of) c.in-Some.is) in
    let top : c.args.subject.now.top ≡ x.top = subst (λ o. IfSome o (λ y. c.args.subject.now.top ≡ y.top)) c.in-Some.is c.requires.top in
    let step : view_step x.step.now ≡ Traverse c.in-Traverse.action c.in-Traverse.handle inline = ap view_step c.in-Traverse.is in
    let there : StandsFor m nodes c.args.subject.now.top n (Traverse c.in-Traverse.action c.in-Traverse.handle inline) x.indices.items =
    subst (λ y. StandsFor m nodes c.args.subject.now.top n y x.indices.items) step (subst (λ k. StandsFor m nodes k n (view_step x.step.now) x.indices.items) (sym top) stands) in
    λ k has t later.
    traversal_lasts m (seen c.args.scene.now) c.requires.sound n c.args.subject.now.top c.in-Traverse.action c.in-Traverse.handle inline x.indices.items there k
    (subst (λ xs. Contains (map view_constraint xs) k) c.as_slice.ensures.value has) t later
