use Rattle.std.proofs.Common.{rules, ◌≡◌, set, true, false, sym, subst, arith}
use Rattle.pst_narrow.proofs.NarrowLemmas.{not_is_false}
use Rattle.pst_reasons.specs.Marks.{IsMarked, IsUnmarked}
use Rattle.pst_reasons.proofs.MarkLemmas.{unmarked_set, unmarked_none}
use Rattle.pst_reasons.proofs.CountLemmas.{counted_taken, marked_within}
use Rattle.pst_reasons.proofs.marks.Marks.take.Goals as goal

pub returns-then-not-has : goal.returns-then-not-has
returns-then-not-has c = unmarked_none c.args.variable c.args.self.now

pub index_mut-requires : goal.index_mut-requires
index_mut-requires c =
    let b : c.has.result ≡ true = first_of (cc (c.if-not-has.false), search (rules, not_is_false, c.if-not-has.false)) in
    let small = marked_within c.self.inside.flags.items c.args.variable (subst (λ xs. IsMarked xs c.args.variable) (sym c.self.view_is) (c.has.ensures.yes b)) in
    let e = c.self.inside.flags.ok.0 in
    omega (arith, small, e)

pub overflow_sub-self : goal.overflow_sub-self
overflow_sub-self c =
    let b : c.has.result ≡ true = first_of (cc (c.if-not-has.false), search (rules, not_is_false, c.if-not-has.false)) in
    let less = counted_taken c.self.inside.flags.items c.args.variable (subst (λ xs. IsMarked xs c.args.variable) (sym c.self.view_is) (c.has.ensures.yes b)) in
    let count = c.self.invariant in
    omega (arith, less, count)

pub invariant_of-self : goal.invariant_of-self
invariant_of-self c =
    let b : c.has.result ≡ true = first_of (cc (c.if-not-has.false), search (rules, not_is_false, c.if-not-has.false)) in
    let less = counted_taken c.self.inside.flags.items c.args.variable (subst (λ xs. IsMarked xs c.args.variable) (sym c.self.view_is) (c.has.ensures.yes b)) in
    let count = c.self.invariant in
    omega (arith, less, count)

pub returns : goal.returns
returns c = subst (λ xs. IsUnmarked c.args.variable xs (set c.self.inside.flags.items c.args.variable false)) c.self.view_is (unmarked_set c.args.variable c.self.inside.flags.items)
