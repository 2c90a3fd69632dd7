use Rattle.std.proofs.Common.{◌≡◌, ◌++◌, ◌∷◌, [], sym, subst, ℕ}
use Rattle.std.specs.Global.{Vec}
use Rattle.pst_loops.proofs.Adding.{pushed}
use Rattle.pst_loops.proofs.Order.{read_there}
use Rattle.pst_loops.proofs.edges.add_edge.Goals as goal

pub returns : goal.returns
returns c =
    let row = c.index-rows-from.result in
    let items = subst (λ (v : Vec ℕ). c.push.new.self.items ≡ v.items ++ c.args.to ∷ []) (sym c.index-rows-from.is) c.in_ok-push.ensures.items in
    pushed c.args.rows.now c.args.from c.args.to row c.push.new.self c.requires (read_there c.args.rows.now c.args.from row row c.requires (sym c.index-rows-from.is)) items
