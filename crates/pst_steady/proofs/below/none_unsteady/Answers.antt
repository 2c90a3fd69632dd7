use Rattle.std.proofs.Common.{◌≡◌, ℕ, List, map, sym, ap, subst, ◌∙◌, Bool, true, false, Some, arith}
use Rattle.std.specs.Prelude.{slice_get}
use Rattle.std.proofs.lemmas.Grind.{common_steps}
use Rattle.std.proofs.lemmas.Option.{get_or_from_slice_get}
use Rattle.pst_ast.specs.DeclarationView.{view_unit}
use Rattle.pst_ast.specs.declared.scope_declaration.Declaration.{Declaration}
use Rattle.pst_steady.specs.Numbered.{IsNumber}
use Rattle.pst_steady.proofs.Lists.{there_is}
use Rattle.pst_steady.proofs.Inside.{none}
use Rattle.pst_steady.proofs.below.none_unsteady.Goals as goal

pub returns-in-Some-get : goal.returns-in-Some-get
returns-in-Some-get c = λ so steady wrong.
    let right : c.args.below.now.right ≡ true = grind (arith, common_steps) in
    let there = subst (λ (ds : List Declaration). slice_get ds c.in-Some.number ≡ Some c.args.action.now) (c.as_slice.ensures ∙ c.requires.declared) (subst (IsNumber c.as_slice.result.now c.args.action.now) c.in-Some.is c.number_of.ensures) in
    let seen = c.in-Some-get.ensures.lookup in
    let ranges = c.args.below.now.ranges.now in
    let r = there_is ranges c.in-Some.number seen.3.0 in
    let given = r.1 ∙ ap Some (sym (seen.1 ∙ get_or_from_slice_get ranges c.in-Some.number r.0 _ r.1)) in
    none (map view_unit c.args.sites.now) c.args.lineage.now.places.now c.args.lineage.now.bases.now c.args.lineage.now.values.now c.args.lineage.now.tallies.now c.requires.below.lined c.args.below.now.ranges.now c.args.below.now.slots.now
    (c.requires.below.ranged right) c.args.handle c.in-Some-get.range.now c.in-Some.number c.args.action.now there given (c.are_once.ensures so) steady wrong
