use Rattle.std.proofs.Common.{◌++◌, ◌∷◌, [], ◌-◌, arith, List, reverse, sym, ap, ◌∙◌}
use Rattle.std.specs.Prelude.{Option}
use Rattle.std.specs.Option.{option_map_or}
use Rattle.pst_ast.specs.declared.scope_declaration.Declaration.{Declaration}
use Rattle.pst_tree.specs.Bases.{bases_within}
use Rattle.pst_tree.proofs.Needing.{chain_more}
use Rattle.pst_tree.proofs.bases.chain_of.Goals as goal

pub loop-at-preserved : goal.loop-at-preserved
loop-at-preserved c =
    let ds = c.args.index.now in
    let left = c.loop-at.left in
    let chain = c.loop-at.chain.items in
    ap (λ (xs : List Declaration). option_map_or (bases_within (left - 1) ds) c.base_of-at.result [] ++ reverse xs) c.in_ok-push.ensures.items
    ∙ ap (λ (o : Option Declaration). option_map_or (bases_within (left - 1) ds) o [] ++ reverse (chain ++ c.in-Some.here ∷ [])) c.base_of-at.ensures
    ∙ sym (chain_more ds left chain c.in-Some.here (omega arith))
    ∙ sym (ap (λ (o : Option Declaration). option_map_or (bases_within left ds) o [] ++ reverse chain) c.in-Some.is)
    ∙ c.loop-at.invariant
