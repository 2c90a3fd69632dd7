use Rattle.std.proofs.Common.{arith, ◌≡◌, IfOk, Bool, true, ap, subst, ◌∙◌}
use Rattle.std.proofs.lemmas.Grind.{common_steps}
use Rattle.std.specs.Prelude.{Option, Some}
use Rattle.pst_model.specs.ConstraintTree.{SlotTree}
use Rattle.pst_numbering.specs.Kept.{view_reading}
use Rattle.pst_ast.specs.declared.scope_declaration.Declaration.{Declaration}
use Rattle.pst_ast.specs.Sorts.{is_handle}
use Rattle.pst_ast.specs.Lookups.{type_of}
use Rattle.pst_sources.specs.Shown.{sources_of}
use Rattle.pst_terms.specs.Readings.{map_reading, handle_reading}
use Rattle.pst_terms.specs.Sources.{declared_in}
use Rattle.pst_terms.specs.Terms.{Reading}
use Rattle.pst_path_readings.specs.Wrapped.{wrapped}
use Rattle.pst_path_readings.proofs.Needing.{behind_handled}
use Rattle.pst_path_readings.proofs.behind.declared_behind.Goals as goal

pub returns : goal.returns
returns c =
    let s = sources_of c.args.sources.now in
    let type_is : c.type_of.result ≡ type_of (declared_in s) c.args.head.now = grind (arith, common_steps) in
    let handled : is_handle c.args.head.now.sort ≡ true = grind (arith, common_steps) in
    subst (λ (x : Reading SlotTree). IfOk c.handle_reading.result (λ r. view_reading r ≡ x))
    (ap (λ (a : Option Declaration). map_reading (wrapped (record { outer = c.args.outer; handle = Some c.in_ok-number.number })) (handle_reading s a c.args.between.now c.args.last.now)) type_is
    ∙ behind_handled c.args.outer c.in_ok-number.number s c.args.owner.now c.args.head.now c.args.between.now c.args.last.now handled c.in_ok-number.ensures)
    c.handle_reading.ensures
