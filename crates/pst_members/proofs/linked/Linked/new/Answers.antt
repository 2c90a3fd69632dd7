use Rattle.std.proofs.Common.{List, take, sym, subst, arith}
use Rattle.std.specs.HashMap.{get}
use Rattle.std.proofs.lemmas.List.{take_more, take_all}
use Rattle.pst_ast.specs.declared.scope_declaration.Declaration.{Declaration}
use Rattle.pst_members.specs.Keys.{same_key}
use Rattle.pst_members.specs.Links.{IsLinked}
use Rattle.pst_members.proofs.Linking.{linked_on}
use Rattle.pst_members.proofs.linked.Linked.new.Goals as goal

pub loop-declaration-preserved : goal.loop-declaration-preserved
loop-declaration-preserved c =
    subst (λ (ps : List Declaration). IsLinked ps (get same_key c.add.new.linked.last) c.add.new.linked.before.items)
    (sym (take_more c.args.declarations.now c.loop-declaration.declaration-index _ c.loop-declaration-test.true))
    (linked_on (take c.loop-declaration.declaration-index c.args.declarations.now) _ (get same_key c.loop-declaration.linked.last) (get same_key c.add.new.linked.last) c.loop-declaration.linked.before.items c.add.new.linked.before.items c.loop-declaration.invariant c.in_ok-add.ensures)

pub returns : goal.returns
returns c =
    subst (λ (ps : List Declaration). IsLinked ps (get same_key c.loop-declaration.linked.last) c.loop-declaration.linked.before.items)
    (take_all c.loop-declaration.declaration-index c.args.declarations.now (omega (arith, c.loop-declaration-test.false)))
    c.loop-declaration.invariant
