use Rattle.std.proofs.Common.{◌++◌, List, refl, ap, ◌∙◌}
use Rattle.std.specs.List.{flat_map}
use Rattle.pst_ast.specs.declared.scope_declaration.Declaration.{Declaration}
use Rattle.pst_ast.specs.Sorts.{is_claim, is_reference}
use Rattle.pst_tree.specs.Needed.{needs_within}
use Rattle.pst_action_needs.proofs.Chains.{is_walked}
use Rattle.pst_action_needs.proofs.rows.walked.Goals as goal

pub returns-clause-inherited : goal.returns-clause-inherited
returns-clause-inherited c =
    let ds = c.args.index.now in
    let owners = c.as_slice-owners.result.now in
    is_walked c.args.sites.now ds _ owners (c.as_slice-owners.ensures.value ∙ c.in_ok-bases.ensures) refl c.is_compound.ensures
    (c.in_ok-add_all.ensures ∙ ap (λ (xs : List Declaration). xs ++ flat_map (needs_within is_reference ds) owners) c.new-references.ensures.items)
    (c.in_ok-add_all-2.ensures ∙ ap (λ (xs : List Declaration). xs ++ flat_map (needs_within is_claim ds) owners) c.new-claims.ensures.items)
