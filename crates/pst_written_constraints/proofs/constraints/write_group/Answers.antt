use Rattle.std.proofs.Common.{◌≡◌, ◌+◌, map, All, Contains, Some, sym, subst, ap, ◌∙◌}
use Rattle.std.specs.Prelude.{slice_get}
use Rattle.std.proofs.lemmas.Bool.{false≢true}
use Rattle.pst_expr.specs.Tree.{view}
use Rattle.pst_model.specs.ConstraintTree.{view_constraint}
use Rattle.pst_model.specs.ModelView.{view_model}
use Rattle.pst_blanks.specs.Blanks.{blank_of}
use Rattle.pst_known.specs.Known.{seen}
use Rattle.pst_constraint_sites.specs.Views.{view_group}
use Rattle.pst_written_constraints.specs.declared.constraints.Written.{Written}
use Rattle.pst_written_constraints.specs.Written.{IsWriting, IsImplied}
use Rattle.pst_written_constraints.specs.Open.{HasWriting, AreWrittenTo, Stay}
use Rattle.pst_written_constraints.proofs.Whole.{stay_pushed, last_pushed, one_more, seen_at}
use Rattle.pst_written_constraints.proofs.Sites.{IfWritten, implied, all_pushed, viewed}
use Rattle.pst_written_constraints.proofs.constraints.write_group.Goals as goal
use Rattle.pst_written_constraints.proofs.constraints.write_group.Goals.{in-Some+in_ok-push-in-Some, in-None}

pub loop-constraint-preserved : goal.loop-constraint-preserved
loop-constraint-preserved c =
    let m = view_model c.args.scene.now.model.now in
    let s = seen c.args.scene.now in
    let blanks = map blank_of c.args.places.now in
    let group = view_group c.args.group.now in
    let k = view_constraint c.constraint-item.result in
    let inside : Contains group.constraints k = viewed view_constraint c.args.group.now.constraints.now c.loop-constraint.constraint-index c.constraint-item.result c.loop-constraint-test.true c.constraint-item.is in
    let old = c.loop-constraint.written in
    let n = c.loop-constraint.constraint-index in
    let ks = map view_constraint c.args.group.now.constraints.now in
    let at : slice_get ks n ≡ Some k = seen_at view_constraint c.args.group.now.constraints.now n c.constraint-item.result c.loop-constraint-test.true c.constraint-item.is in
    let inv = c.loop-constraint.invariant in
    elim c.match-branch-2.branch [
      | in-Some+in_ok-push-in-Some w ↦
          let e = w.in-Some.e in
          let new = w.push.new.self.items in
          let writing : IsWriting m s blanks group.site k (view e) = subst (IfWritten m s blanks group.site k) w.in-Some.is c.in_ok-e.ensures in
          let here = implied c.groups_have_constraints.ensures m s blanks c.requires.firsts c.requires.places group c.requires.group k inside (view e) writing in
          let pushed = w.in_ok-push-in-Some.ensures.items in
          let stay = stay_pushed old.constraints.items new e pushed in
          let own : HasWriting m s blanks (map view new) group.site k = record { written = view e; is = last_pushed old.constraints.items new e pushed; writes = writing } in (
            ap (λ (x : Written). x.spans) w.written-is ∙ inv.0,
            λ all. subst (λ (x : Written). All (IsImplied m s) (map view x.constraints.items)) (sym w.written-is) (all_pushed (IsImplied m s) old.constraints.items new e pushed (inv.1 all) here),
            subst (λ (x : Written). Stay (map view c.args.written.now.constraints.items) (map view x.constraints.items)) (sym w.written-is) (λ x has. stay x (inv.2 x has)),
            λ yes. inv.3 (sym (ap (λ (x : Written). x.whole) w.written-is) ∙ yes),
            λ yes. subst (λ (x : Written). AreWrittenTo m s blanks (map view x.constraints.items) group.site ks (n + 1)) (sym w.written-is)
                (one_more m s blanks (map view old.constraints.items) (map view new) group.site ks n k stay at own (inv.4 (sym (ap (λ (x : Written). x.whole) w.written-is) ∙ yes))),
          )
      | in-None w ↦ (
        ap (λ (x : Written). x.spans) w.written-is ∙ inv.0,
        λ all. subst (λ (x : Written). All (IsImplied m s) (map view x.constraints.items)) (sym w.written-is) (inv.1 all),
        subst (λ (x : Written). Stay (map view c.args.written.now.constraints.items) (map view x.constraints.items)) (sym w.written-is) inv.2,
        λ yes. absurd (false≢true (sym (ap (λ (x : Written). x.whole) w.written-is) ∙ yes)),
        λ yes. absurd (false≢true (sym (ap (λ (x : Written). x.whole) w.written-is) ∙ yes)),
      )
    ]
