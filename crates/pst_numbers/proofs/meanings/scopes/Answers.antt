use Rattle.std.proofs.Common.{List, sym, subst}
use Rattle.pst_ast.specs.declared.scope_declaration.Declaration.{Declaration}
use Rattle.pst_ast.specs.declared.entry.NameMeaning.{NameMeaning}
use Rattle.pst_numbers.specs.Meanings.{AreMeanings}
use Rattle.pst_numbers.specs.Numbered.{AreNumbers}
use Rattle.pst_numbers.proofs.Meant.{are_meanings}
use Rattle.pst_numbers.proofs.meanings.scopes.Goals as goal

pub returns-clause-meanings : goal.returns-clause-meanings
returns-clause-meanings c =
    let are = subst (λ (ds : List Declaration). AreNumbers ds c.in_ok-numbers.numbers) c.as_slice.ensures c.in_ok-numbers.ensures in
    subst (λ (meanings : List NameMeaning). AreMeanings c.args.index.now c.args.meant.now meanings) (sym c.from_vec-2.ensures)
    (are_meanings c.args.index.now c.args.meant.now c.in_ok-meanings.meanings.items c.in_ok-meanings-2.meanings.items
    (c.in_ok-meanings.ensures c.args.index.now are) c.in_ok-meanings-2.ensures.order c.in_ok-meanings-2.ensures.each)
