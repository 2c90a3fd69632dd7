use Rattle.std.proofs.Common.{ℕ, List, [], ◌∷◌, Option, Some, ap, sym, ◌∙◌}
use Rattle.std.specs.Prelude.{reverse}
use Rattle.std.proofs.lemmas.List.{reverse-append}
use Rattle.pst_shape.specs.declared.walk.Made.{Made}
use Rattle.pst_shape.specs.declared.walk.Growth.{Growth}
use Rattle.pst_shape.specs.Choices.{node_count, growth_after}
use Rattle.pst_shape.proofs.walk.growth_of.Goals as goal

abbrev growth : ℕ → ℕ → Option ℕ → Option Growth
growth nodes leaves value = Some (record { nodes = nodes; leaves = leaves; value = value })

pub returns-in-Some : goal.returns-in-Some
returns-in-Some c =
    let last : Made = c.in-Some.last.now in
    let before : List Made = c.in-Some.before.now in
    ap (λ n. growth n c.sizes_of-nodes.result.1 last.value) c.sizes_of-nodes.ensures.nodes
    ∙ ap (λ n. growth (node_count (reverse before)) n last.value) c.sizes_of-nodes.ensures.leaves
    ∙ ap growth_after (sym (ap reverse c.in-Some.ensures.cases.0 ∙ reverse-append before (last ∷ [])))
