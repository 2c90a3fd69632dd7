use Rattle.std.proofs.Common.{◌≡◌, List, sym, ap, ◌∙◌}
use Rattle.std.specs.Prelude.{Some, slice_get}
use Rattle.std.proofs.lemmas.Option.{slice_get-get_or}
use Rattle.pst_terms.specs.Sources.{declared_in}
use Rattle.pst_sources.specs.declared.fields.FieldNumber.{FieldNumber}
use Rattle.pst_sources.specs.declared.fields.FieldRow.{FieldRow}
use Rattle.pst_sources.specs.Numbered as kept
use Rattle.pst_sources.proofs.Numbering.{number_kept}
use Rattle.pst_sources.proofs.fields.FieldNumbers.number.Goals as goal

pub returns-then-is_same_type : goal.returns-then-is_same_type
returns-then-is_same_type c = λ s are.
    let n = c.in_ok-number.number in
    let row = c.in_ok-row.row.now in
    let at : slice_get c.args.self.now.rows.items n ≡ Some row =
    ap (λ (xs : List FieldRow). slice_get xs n) (sym c.as_slice.ensures.value) ∙ slice_get-get_or c.as_slice.result.now n row c.in_ok-row.ensures.lookup.3.0 ∙ ap (λ x. Some x) (sym c.in_ok-row.ensures.lookup.1) in
    number_kept s c.args.self.now.rows.items n row c.args.owner.now c.args.field.now c.number_at.result at (c.is_same_type.ensures c.if-is_same_type.true (declared_in s))
    (c.number_at.ensures ∙ ap (λ (fields : List FieldNumber). kept.number_at fields c.args.field.now.name.place) c.as_slice-then-is_same_type.ensures.value) are
