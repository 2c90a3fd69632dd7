use Rattle.std.proofs.Common.{◌≡◌, ℕ, List, map, subst, ◌∙◌, length, Option}
use Rattle.std.specs.Prelude.{IsTrue}
use Rattle.pst_ast.specs.DeclarationView.{view_unit}
use Rattle.pst_ast.specs.declared.scope_declaration.Declaration.{Declaration}
use Rattle.pst_ast.specs.Declarations.{declarations}
use Rattle.pst_steady.specs.declared.reach.Seed.{Seed}
use Rattle.pst_steady.specs.Lined.{AreMarks, IsUnsteadyAmong}
use Rattle.pst_steady.specs.Reached.{AreReached}
use Rattle.pst_steady.proofs.Marking.{by_marks}
use Rattle.pst_steady.proofs.lineage.has_unsteady.Goals as goal

pub returns : goal.returns
returns c =
    let units = map view_unit c.args.sites.now in
    let bases = c.args.lineage.now.bases.now in
    let marks = c.in_ok-marks.marks.items in
    let marked = c.in_ok-marked.marked.items in
    let h = c.args.handle in
    let found = c.any_unsteady.result in
    by_marks units bases c.requires.lined.bases_are c.args.action.now marks
    (subst (λ (ds : List Declaration). AreMarks ds c.args.action.now (length ds) marks) (c.as_slice.ensures ∙ c.requires.declared) c.in_ok-marks.ensures)
    marked (subst (λ (ss : List Seed). AreReached ss bases marked) c.as_slice-2.ensures.value c.in_ok-marked.ensures) h found
    (subst (λ (ms : List (Option ℕ)). (IsTrue found → IsUnsteadyAmong units ms (length (declarations units)) h) × (IsUnsteadyAmong units ms (length (declarations units)) h → IsTrue found)) c.as_slice-3.ensures.value c.any_unsteady.ensures)
