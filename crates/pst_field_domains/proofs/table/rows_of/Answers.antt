use Rattle.pst_field_domains.proofs.Rows.{zip_on}
use Rattle.pst_field_domains.specs.Kept.{IsRowOf}
use Rattle.pst_field_domains.proofs.table.rows_of.Goals as goal

pub loop-site-preserved : goal.loop-site-preserved
loop-site-preserved c =
    zip_on (IsRowOf c.args.values.now) c.args.enums.now c.loop-site.rows.items c.push.new.self.items c.loop-site.site-index c.site-item.result c.in_ok-row.row
    c.loop-site-test.true c.site-item.is c.in_ok-push.ensures.items c.loop-site.invariant c.in_ok-row.ensures
