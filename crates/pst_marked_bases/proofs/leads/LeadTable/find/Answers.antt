use Rattle.std.proofs.Common.{◌≡◌, List, Some, sym, ap, ◌∙◌}
use Rattle.std.specs.Prelude.{slice_get}
use Rattle.std.proofs.lemmas.Option.{slice_get-get_or}
use Rattle.pst_marked_bases.specs.declared.leads.Lead.{Lead}
use Rattle.pst_marked_bases.proofs.leads.LeadTable.find.Goals as goal

pub returns-then-is_same_action-clause-lead : goal.returns-then-is_same_action-clause-lead
returns-then-is_same_action-clause-lead c =
    let n = c.in_ok-number.field-0.now in
    let row = c.in_ok-row.row.now in
    let at : slice_get c.args.self.now.rows.items n ≡ Some row =
    ap (λ (xs : List Lead). slice_get xs n) (sym c.as_slice.ensures.value) ∙ slice_get-get_or c.as_slice.result.now n row c.in_ok-row.ensures.lookup.3.0 ∙ ap (λ x. Some x) (sym c.in_ok-row.ensures.lookup.1) in
    c.requires n row at
