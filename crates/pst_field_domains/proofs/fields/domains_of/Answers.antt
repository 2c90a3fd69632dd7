use Rattle.pst_field_domains.proofs.Rows.{zip_on}
use Rattle.pst_field_domains.specs.Kept.{IsDomainBy}
use Rattle.pst_field_domains.proofs.fields.domains_of.Goals as goal

pub loop-field-preserved : goal.loop-field-preserved
loop-field-preserved c =
    zip_on (IsDomainBy c.args.facts.now c.args.table.now) c.args.fields.now c.loop-field.domains.items c.push.new.self.items c.loop-field.field-index c.field-item.result c.in_ok-domain.domain
    c.loop-field-test.true c.field-item.is c.in_ok-push.ensures.items c.loop-field.invariant c.in_ok-domain.ensures
