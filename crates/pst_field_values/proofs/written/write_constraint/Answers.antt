use Rattle.std.proofs.Common.{◌++◌, ◌∙◌, ap, map, subst}
use Rattle.pst_expr.specs.Tree.{view}
use Rattle.pst_model.specs.ConstraintTree.{view_slot, view_constraint}
use Rattle.pst_model.specs.ModelView.{view_model}
use Rattle.pst_legal.specs.Standing.{bound_of}
use Rattle.pst_known.specs.Known.{seen}
use Rattle.pst_constraint_sites.specs.Sites.{slot_at}
use Rattle.pst_written_constraints.specs.Terms.{IsMirror, Mirrors}
use Rattle.pst_field_values.specs.Subjects.{site_of}
use Rattle.pst_field_values.specs.Writing.{AreTermsAt}
use Rattle.pst_field_values.proofs.Wider.{over_more}
use Rattle.pst_field_values.proofs.written.write_constraint.Goals as goal

pub returns : goal.returns
returns c =
    let m = view_model c.args.scene.now.model.now in
    let s = seen c.args.scene.now in
    let subject = c.args.subject.now in
    let position = c.args.position.now in
    let k = view_constraint c.args.constraint.now in
    let old = c.args.written.now in
    let terms = c.in_ok-terms.terms.items in
    let e = c.in-Some.e in
    let slots = c.as_slice-slots.ensures.value in
    let at : AreTermsAt subject position k.slots c.len-base.result terms = subst (λ xs. AreTermsAt subject position (map view_slot xs) c.len-base.result terms) slots c.in_ok-terms.ensures in
    let mirror : IsMirror c.as_slice.result.now k.expression (view e) = subst (λ o. Mirrors c.as_slice.result.now k.expression o) c.in-Some.is c.in_ok-e.ensures in
    record {
      over = over_more m s c.requires.sound subject position c.requires.reached c.requires.there old.constraints.items c.push.new.self.items old.bounds.items c.add_bounds.new.bounds.items c.len-base.result
          c.requires.over (c.len-base.ensures ∙ old.bounds.ok.0) k terms e at (subst (λ ts. IsMirror ts k.expression (view e)) c.as_slice.ensures.value mirror) c.requires.lasts
          (c.in_ok-add_bounds.ensures ∙ ap (λ xs. old.bounds.items ++ map (λ slot. bound_of (slot_at m s (site_of subject position) slot)) (map view_slot xs)) slots)
          c.in_ok-push.ensures.items;
    }
