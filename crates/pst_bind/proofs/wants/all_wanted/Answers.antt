use Rattle.std.proofs.Common.{◌++◌, ◌∷◌, [], map, sym, subst, ap, ◌∙◌}
use Rattle.std.proofs.lemmas.List.{map-append, take_more}
use Rattle.pst_bind.specs.Wants.{AreWanted, need_in}
use Rattle.pst_bind.proofs.Made.{one_wanted_more}
use Rattle.pst_bind.proofs.wants.all_wanted.Goals as goal

pub loop-need-preserved : goal.loop-need-preserved
loop-need-preserved c =
    let ds = c.args.index.now in
    let needs = c.args.needs.now in
    let i = c.loop-need.need-index in
    record {
      needs = ap (map need_in) c.in_ok-push.ensures.items ∙ map-append need_in c.loop-need.all.items (c.want.result ∷ [])
          ∙ (λ j. c.loop-need.invariant.needs j ++ c.want.ensures.need j ∷ []) ∙ sym (take_more needs i _ c.loop-need-test.true);
      wanted = subst (AreWanted ds c.args.rows.now c.args.table.now) (sym c.in_ok-push.ensures.items) (one_wanted_more ds c.args.rows.now c.args.table.now c.loop-need.all.items c.want.result c.loop-need.invariant.wanted c.want.ensures.wanted);
    }
