use Rattle.std.proofs.Common.{◌≡◌, ◌<◌, ℕ, List, sym, subst, slice_get, Some}
use Rattle.pst_scen.specs.declared.act.Filled.{Filled}
use Rattle.pst_graph.proofs.Names.{link_inside}
use Rattle.pst_graph.proofs.named.add_named_by.Goals as goal

pub add_namings-requires-clause-inside : goal.add_namings-requires-clause-inside
add_namings-requires-clause-inside c = λ i a filled is leads.
    subst (λ (n : ℕ). a < n) (sym c.requires.size)
    (link_inside c.args.scenario.now c.args.x c.act_at-act.result.now c.requires.linked c.act_at-act.ensures i a filled
    (subst (λ (references : List Filled). slice_get references i ≡ Some filled) c.as_slice.ensures is) leads)
