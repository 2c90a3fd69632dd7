use Rattle.std.proofs.Common.{◌≡◌, subst}
use Rattle.std.specs.Prelude.{IfSome}
use Rattle.pst_shape.specs.Walks.{IfRead}
use Rattle.pst_list_walk.specs.Walks.{answer}
use Rattle.pst_list_values.specs.Walked.{kept_of}
use Rattle.pst_list_values.proofs.fields.skip_at_field.Goals as goal

pub returns-in_default : goal.returns-in_default
returns-in_default c = c.nothing.ensures (kept_of c.args.lists.now) c.args.count c.requires.named

pub skip_field-requires-clause-read : goal.skip_field-requires-clause-read
skip_field-requires-clause-read c = subst (λ o. IfSome o (λ t. IfRead (answer c.args.lists.now) (λ s. t ≡ s))) c.in-Some.is c.in_ok-scenario.ensures
