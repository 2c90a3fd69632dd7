-- A column that is held, in a loop that brings others.
use Rattle.std.proofs.Common.{◌≡◌, ◌∙◌, ◌+◌, ◌<◌, ◌/◌, ℕ, List, length, sym, ap, subst, arith, Vec}
use Rattle.std.specs.Vec.{with_items}
use Rattle.std.proofs.lemmas.List.{with_items_is}
use Rattle.pst_scen.specs.declared.rows.Rows.{Rows}
use Rattle.pst_scen.specs.Rows.{row_words}
use Rattle.pst_scen.specs.Plan.{Entries}
use Rattle.pst_addr.specs.Columns.{IsColumn}

-- what was written is held
pub brought : {Z : Type 0} (plan : Entries) (rows : Rows) (place : ℕ) (column : Vec ℕ Z) (new : List ℕ)
    → rows ≡ plan.must → rows.size ≡ length plan.groups → length column.items ≡ length plan.groups → IsColumn rows place new
    → (length (with_items column new).items ≡ length plan.groups) × IsColumn plan.must place (with_items column new).items
brought plan rows place column new is size long new_is =
    let many : length new ≡ length plan.groups = new_is.many ∙ size in
    let ok = column.ok.0 in
    let fits : length new ≡ column.len = omega (arith, many, long, ok) in
    let same = with_items_is column new fits in (
      ap length same ∙ many,
      subst (IsColumn plan.must place) (sym same) (subst (λ (r : Rows). IsColumn r place new) is new_is),
    )

-- there are no more words in a row than rows
pub beyond : (size : ℕ) → size < row_words size → ⊥
beyond size l = omega (arith, l)
