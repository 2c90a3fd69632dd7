use Rattle.std.proofs.Common.{subst}
use Rattle.pst_model.specs.ModelView.{view_model}
use Rattle.pst_field_places.specs.Places.{IsAtField}
use Rattle.pst_list_values.specs.Walked.{kept_of}
use Rattle.pst_list_values.proofs.fields.skip_at_place.Goals as goal

pub returns-in_default : goal.returns-in_default
returns-in_default c = c.nothing.ensures (kept_of c.args.lists.now) c.args.count c.requires.named

pub skip_at_field-requires-clause-field : goal.skip_at_field-requires-clause-field
skip_at_field-requires-clause-field c =
    let k = c.args.lists.now in
    (c.in-Some._more.now, subst (IsAtField (view_model k.model) k.root k.seed k.level k.choices c.args.place.node) c.in-Some.ensures.cases.0 c.requires.field)
