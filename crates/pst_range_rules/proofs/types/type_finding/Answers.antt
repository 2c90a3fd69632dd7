use Rattle.pst_range_rules.proofs.types.type_finding.Goals as goal

pub returns-in-Plain : goal.returns-in-Plain
returns-in-Plain c = rw c.in-Plain.is c.plain_type.ensures
