use Rattle.pst_list_values.specs.Walked.{kept_of}
use Rattle.pst_list_values.proofs.fields.skip_fields.Goals as goal

pub returns-in_default : goal.returns-in_default
returns-in_default c = c.nothing.ensures (kept_of c.args.lists.now) c.args.count c.requires.named

pub skip_at_place-requires-clause-field : goal.skip_at_place-requires-clause-field
skip_at_place-requires-clause-field c = c.in-Some.ensures.0

pub skip_at_place-requires-clause-some : goal.skip_at_place-requires-clause-some
skip_at_place-requires-clause-some c = c.in-Some.ensures.1
