use Rattle.std.proofs.Common.{arith, ◌≡◌, ℕ, List, IfOk, subst, ◌∙◌}
use Rattle.std.proofs.lemmas.Grind.{common_steps}
use Rattle.pst_numbering.specs.Kept.{view_reading}
use Rattle.pst_ast.specs.declared.scope_declaration.Declaration.{Declaration}
use Rattle.pst_ast.specs.declared.referent.Checked.{Checked}
use Rattle.pst_ast.specs.declared.referent.PathReferent.{PathReferent}
use Rattle.pst_ast.specs.Paths.{is_value, read_path}
use Rattle.pst_sources.specs.Shown.{sources_of}
use Rattle.pst_terms.specs.Readings as tree
use Rattle.pst_terms.specs.Sources.{declared_in}
use Rattle.pst_path_readings.specs.Set.{view_setting}
use Rattle.pst_path_readings.proofs.read.dotted_reading.Goals as goal

pub returns : goal.returns
returns c =
    let s = sources_of c.args.sources.now in
    let declared : c.index.result.now ≡ declared_in s = grind (arith, common_steps) in
    let names : c.names.result.now ≡ s.names = grind (arith, common_steps) in
    subst (λ (k : Checked PathReferent). IfOk c.checked_reading.result (λ r. view_reading r ≡ tree.checked_reading s (view_setting c.args.setting.now) c.args.first.name k))
    (c.in_ok-checked.ensures ∙ (λ i. read_path (declared i) (names i) c.args.setting.now.at is_value c.args.first c.args.rest.now))
    c.checked_reading.ensures
