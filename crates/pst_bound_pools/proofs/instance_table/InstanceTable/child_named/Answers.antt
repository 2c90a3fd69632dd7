use Rattle.std.proofs.Common.{rules, ◌≡◌, List, subst, sym, ap, ◌∙◌}
use Rattle.std.specs.HashMap.{get}
use Rattle.std.proofs.lemmas.Iterator.Adapters.{position_from-zero}
use Rattle.pst_ast.specs.declared.instance.Instance.{Instance}
use Rattle.pst_bound_pools.specs.declared.instance_table.ChildKey.{ChildKey}
use Rattle.pst_bound_pools.specs.Serving.{child_named}
use Rattle.pst_bound_pools.specs.Children.{child_key, is_child, same_child}
use Rattle.pst_bound_pools.proofs.instance_table.InstanceTable.child_named.Goals as goal

pub returns : goal.returns
returns c =
    let key = child_key c.args.parent c.args.name in
    let found : get same_child c.self.inside.children key ≡ child_named c.self.inside.instances.items c.args.parent c.args.name =
    c.self.invariant.children key ∙ sym (position_from-zero (is_child key) c.self.inside.instances.items) in
    let at_key : c.copied.result ≡ get same_child c.self.inside.children c.child_key.result = search rules in
    subst (λ (xs : List Instance). c.copied.result ≡ child_named xs c.args.parent c.args.name) c.self.view_is (at_key ∙ (ap (λ (k : ChildKey). get same_child c.self.inside.children k) c.child_key.ensures ∙ found))
