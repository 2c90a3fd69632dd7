use Rattle.std.proofs.Common.{rules, ◌≡◌, sym, ◌∙◌}
use Rattle.std.specs.Prelude.{slice_get}
use Rattle.std.proofs.lemmas.Option.{slice_get_within}
use Rattle.pst_members.proofs.Kept.{absent_at, at_place, stands_below}
use Rattle.pst_members.proofs.versions.Versions.node_at.Goals as goal

pub returns-in-None-clause-node : goal.returns-in-None-clause-node
returns-in-None-clause-node c = λ key.
    let is : c.node_in.result ≡ slice_get c.args.self.now.nodes.items c.args.at = search rules in
    absent_at c.args.self.now c.args.at (sym is ∙ c.in-None.is) key

pub returns-in-Some-clause-node : goal.returns-in-Some-clause-node
returns-in-Some-clause-node c = λ key.
    let is : c.node_in.result ≡ slice_get c.args.self.now.nodes.items c.args.at = search rules in
    at_place c.args.self.now c.args.at c.in-Some.node (sym is ∙ c.in-Some.is) key

pub returns-in-Some-clause-below : goal.returns-in-Some-clause-below
returns-in-Some-clause-below c =
    let is : c.node_in.result ≡ slice_get c.args.self.now.nodes.items c.args.at = search rules in
    stands_below c.args.self.now c.args.at c.in-Some.node (slice_get_within c.args.self.now.nodes.items c.args.at c.in-Some.node (sym is ∙ c.in-Some.is)) (sym is ∙ c.in-Some.is)
