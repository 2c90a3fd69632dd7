use Rattle.std.proofs.Common.{sym, ap, ◌∙◌}
use Rattle.pst_tree.specs.Bases.{fields_of}
use Rattle.pst_sources.proofs.Numbering.{same_fields}
use Rattle.pst_sources.proofs.fields.is_same_type.Goals as goal

pub returns-then-is_object-2 : goal.returns-then-is_object-2
returns-then-is_object-2 c = λ same ds.
    same_fields ds c.args.one.now c.args.other.now (sym c.is_object.ensures ∙ c.if-is_object.true) (sym c.is_object-then-is_object.ensures ∙ c.if-is_object-2.true) (c.is_same_place.ensures same)

pub returns : goal.returns
returns c = λ same ds. ap (fields_of ds) (c.is_same_action.ensures.0 same).0
