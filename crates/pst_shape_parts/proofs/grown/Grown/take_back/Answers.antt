use Rattle.std.proofs.Common.{sym, ◌≡◌, ◌≤◌, ◌<◌, length, Some, refl, ap, ◌∙◌, arith}
use Rattle.std.specs.Prelude.{slice_get, slice_set}
use Rattle.std.proofs.lemmas.Option.{slice_get_read}
use Rattle.pst_shape_parts.specs.Trees.{tree_of}
use Rattle.pst_shape_parts.proofs.Placed.{back_set, back_beyond, tree_is}
use Rattle.pst_shape_parts.proofs.grown.Grown.take_back.Goals as goal

pub returns : goal.returns
returns c =
    let w = c.args.self.now in
    let h : c.args.node < length w.nodes.items = omega arith in
    let e : slice_get w.nodes.items c.args.node ≡ Some c.index_mut.result.now = slice_get_read w.nodes.items (length w.nodes.items) c.args.node c.index_mut.result.now refl h c.index_mut.ensures.value in
    tree_is _ _ (ap (slice_set w.nodes.items c.args.node) c.pop_value.ensures ∙ back_set (tree_of w) c.args.node c.index_mut.result.now e h) refl

pub returns-then-node-len : goal.returns-then-node-len
returns-then-node-len c =
    let w = c.args.self.now in
    let h : length w.nodes.items ≤ c.args.node = omega arith in
    sym (back_beyond (tree_of w) c.args.node h)
