use Rattle.std.proofs.Common.{◌≡◌, List, subst, ◌∙◌, Some}
use Rattle.std.specs.Prelude.{slice_get}
use Rattle.pst_ast.specs.declared.scope_declaration.Declaration.{Declaration}
use Rattle.pst_steady.specs.Numbered.{IsNumber}
use Rattle.pst_steady.proofs.lineage.is_steady_in.Goals as goal

pub returns-in-Some : goal.returns-in-Some
returns-in-Some c =
    c.is_steady_number.ensures c.args.action.now
    (subst (λ (ds : List Declaration). slice_get ds c.in-Some.number ≡ Some c.args.action.now) (c.as_slice.ensures ∙ c.requires.declared) (subst (IsNumber c.as_slice.result.now c.args.action.now) c.in-Some.is c.number_of.ensures))
