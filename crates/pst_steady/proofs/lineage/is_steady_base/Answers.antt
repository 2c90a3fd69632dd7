use Rattle.std.proofs.Common.{◌≡◌, List, map, subst, ◌∙◌, Some}
use Rattle.std.specs.Prelude.{slice_get}
use Rattle.pst_ast.specs.DeclarationView.{view_unit}
use Rattle.pst_ast.specs.declared.scope_declaration.Declaration.{Declaration}
use Rattle.pst_steady.specs.Numbered.{IsNumber}
use Rattle.pst_steady.proofs.Apart.{not_missing}
use Rattle.pst_steady.proofs.lineage.is_steady_base.Goals as goal

pub returns-in-None : goal.returns-in-None
returns-in-None c =
    absurd (not_missing c.as_slice.result.now (map view_unit c.args.sites.now) c.args._action.now c.args.base.now (c.as_slice.ensures ∙ c.requires.declared) c.requires.base (subst (IsNumber c.as_slice.result.now c.args.base.now) c.in-None.is c.number_of.ensures))

pub returns-in-Some : goal.returns-in-Some
returns-in-Some c =
    c.is_steady_number.ensures c.args.base.now
    (subst (λ (ds : List Declaration). slice_get ds c.in-Some.number ≡ Some c.args.base.now) (c.as_slice.ensures ∙ c.requires.declared) (subst (IsNumber c.as_slice.result.now c.args.base.now) c.in-Some.is c.number_of.ensures))
