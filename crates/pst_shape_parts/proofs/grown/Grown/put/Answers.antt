use Rattle.std.proofs.Common.{w64, FitsSigned, rules, sym, ◌≡◌, ◌≤◌, ◌<◌, length, Some, refl, ap, ◌∙◌, arith}
use Rattle.std.specs.Prelude.{slice_get, slice_set}
use Rattle.std.proofs.lemmas.Option.{slice_get_read}
use Rattle.std.proofs.lemmas.Result.{IfOk-weaker}
use Rattle.std.proofs.lemmas.Int.{to_z-of_z}
use Rattle.pst_shape_parts.specs.Trees.{tree_of}
use Rattle.pst_shape_parts.proofs.Placed.{more, put_set, put_beyond, tree_is}
use Rattle.pst_shape_parts.proofs.grown.Grown.put.Goals as goal

pub returns-clause-ok : goal.returns-clause-ok
returns-clause-ok c =
    let w = c.args.self.now in
    let h : c.args.node < length w.nodes.items = omega arith in
    let e : slice_get w.nodes.items c.args.node ≡ Some c.index_mut.result.now = slice_get_read w.nodes.items (length w.nodes.items) c.args.node c.index_mut.result.now refl h c.index_mut.ensures.value in
    let f : FitsSigned w64 c.args.value = search rules in
    let z = to_z-of_z w64 c.args.value f in
    IfOk-weaker c.push_value.result _ _ (λ x put. tree_is _ _ (ap (slice_set w.nodes.items c.args.node) (put ∙ ap (λ v. more v c.index_mut.result.now) z) ∙ put_set (tree_of w) c.args.node c.args.value c.index_mut.result.now e h) refl) c.push_value.ensures.ok

pub returns-then-node-len-clause-ok : goal.returns-then-node-len-clause-ok
returns-then-node-len-clause-ok c =
    let w = c.args.self.now in
    let h : length w.nodes.items ≤ c.args.node = omega arith in
    sym (put_beyond (tree_of w) c.args.node c.args.value h)
