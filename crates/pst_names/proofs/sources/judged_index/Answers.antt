use Rattle.std.proofs.Common.{map, subst, ◌∙◌}
use Rattle.pst_ast.specs.DeclarationView.{view_unit}
use Rattle.pst_name_rules.specs.Leasts.{IsLeastOf}
use Rattle.pst_names.specs.Resolved.{IsBreach}
use Rattle.pst_names.proofs.Resolving.{is_none, are_scopes}
use Rattle.pst_names.proofs.sources.judged_index.Goals as goal

pub returns : goal.returns
returns c =
    let units = map view_unit c.args.units.now in
    let names = c.args.names.now in
    let scopes = c.in_ok-scopes-in-None.scopes in
    let ensured = c.in_ok-scopes-in-None.ensures in (
      is_none units names (subst (IsLeastOf (IsBreach units names)) c.in-None.is c.in_ok-place.ensures),
      are_scopes units names c.args.index.now c.requires.declared scopes.types c.as_slice.result.now scopes.meanings ensured.types (c.as_slice.ensures.value ∙ c.in_ok-used.ensures.meant) ensured.meanings,
    )
