use Rattle.std.proofs.Common.{◌≡◌, ◌++◌, ◌<◌, List, length, refl, sym, subst, ap, ◌∙◌}
use Rattle.pst_ast.specs.declared.scope_declaration.Declaration.{Declaration}
use Rattle.pst_ast.specs.Sorts.{is_claim, is_reference}
use Rattle.pst_tree.specs.Needed.{needs_within}
use Rattle.pst_action_needs.proofs.Chains.{is_derived}
use Rattle.pst_action_needs.proofs.rows.derived.Goals as goal

pub returns-clause-inherited : goal.returns-clause-inherited
returns-clause-inherited c =
    let ds = c.args.index.now in
    let action = c.args.action.now in
    is_derived c.args.sites.now ds _ c.args.base.now c.requires.base c.requires.inherited (subst (λ n. c.args.base.now.count < n) c.requires.declared c.requires.few) refl c.is_compound_behind.ensures
    (c.in_ok-references.ensures ∙ ap (λ (xs : List Declaration). xs ++ needs_within is_reference ds action) c.as_slice.ensures.value)
    (c.in_ok-claims.ensures ∙ ap (λ (xs : List Declaration). xs ++ needs_within is_claim ds action) c.as_slice-2.ensures.value)
