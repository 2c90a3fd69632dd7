use Rattle.std.proofs.Common.{List, take, sym, subst}
use Rattle.std.specs.HashMap.{get}
use Rattle.std.proofs.lemmas.List.{take_more}
use Rattle.pst_ast.specs.declared.scope_declaration.Declaration.{Declaration}
use Rattle.pst_numbers.specs.NumberKeys.{same_member_key, same_place_key}
use Rattle.pst_numbers.specs.Ranked.{IsRanked}
use Rattle.pst_numbers.proofs.ranking.ranks.Goals as goal

pub loop-declaration-preserved : goal.loop-declaration-preserved
loop-declaration-preserved c =
    subst (λ (ps : List Declaration). IsRanked ps (get same_place_key c.count_declaration.new.counts) (get same_member_key c.count_declaration.new.ranks))
    (sym (take_more c.args.declarations.now c.loop-declaration.declaration-index _ c.loop-declaration-test.true))
    (c.in_ok-count_declaration.ensures (take c.loop-declaration.declaration-index c.args.declarations.now) c.loop-declaration.invariant)
