use Rattle.std.proofs.Common.{subst}
use Rattle.pst_scen.specs.declared.rows.Rows.{Rows}
use Rattle.pst_static.specs.Stamps.{AreStamped}
use Rattle.pst_static.proofs.Stamped.{stamped_both}
use Rattle.pst_static.proofs.latest.stamp_by_plan.Goals as goal

pub returns : goal.returns
returns c =
    let p = c.args.plan.now in
    let a = c.args.a in
    let v = c.args.value in
    let old = c.args.places.now in
    let now = c.stamp.new.places in
    let new = c.stamp-2.new.places in
    stamped_both p a v old now new (subst (λ (rows : Rows). AreStamped rows a v old now) c.must_rows.ensures.is c.stamp.ensures)
    (subst (λ (rows : Rows). AreStamped rows a v now new) c.conflict_rows.ensures.is c.stamp-2.ensures)
