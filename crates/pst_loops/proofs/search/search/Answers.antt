use Rattle.std.proofs.Common.{◌≡◌, [], arith, subst, List, ℕ}
use Rattle.pst_loops.specs.Search.{IsSearch, EachGone}
use Rattle.pst_loops.proofs.Turns.{popped, top_reached, not_reached, empty}
use Rattle.pst_loops.proofs.search.search.Goals as goal

pub expand-requires-clause-search : goal.expand-requires-clause-search
expand-requires-clause-search c = popped c.args.edges.now c.args.from c.args.to c.loop-top.marks c.pop.new.self.items c.in-Some.top
    (subst (λ (x : List ℕ). IsSearch c.args.edges.now c.args.from c.args.to c.loop-top.marks x EachGone) c.in-Some.ensures.items c.loop-top.invariant)

pub expand-requires-clause-within : goal.expand-requires-clause-within
expand-requires-clause-within c = (top_reached c.args.edges.now c.args.from c.args.to c.loop-top.marks c.pop.new.self.items c.in-Some.top
    (subst (λ (x : List ℕ). IsSearch c.args.edges.now c.args.from c.args.to c.loop-top.marks x EachGone) c.in-Some.ensures.items c.loop-top.invariant)).1

pub expand-requires-clause-reached : goal.expand-requires-clause-reached
expand-requires-clause-reached c = (top_reached c.args.edges.now c.args.from c.args.to c.loop-top.marks c.pop.new.self.items c.in-Some.top
    (subst (λ (x : List ℕ). IsSearch c.args.edges.now c.args.from c.args.to c.loop-top.marks x EachGone) c.in-Some.ensures.items c.loop-top.invariant)).0

pub returns : goal.returns
returns c =
    let z = c.in_default.ensures.cases.0 in
    let e : c.loop-top.stack.items ≡ [] = empty c.loop-top.stack.items (omega arith) in
    (λ h. absurd (cc h), λ r. absurd (not_reached c.args.edges.now c.args.from c.args.to c.loop-top.marks (subst (λ (x : List ℕ). IsSearch c.args.edges.now c.args.from c.args.to c.loop-top.marks x EachGone) e c.loop-top.invariant) r))
