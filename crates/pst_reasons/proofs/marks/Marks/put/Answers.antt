use Rattle.std.proofs.Common.{◌<◌, ◌+◌, length, set, true, sym, subst, ap, ◌∙◌, arith}
use Rattle.pst_reasons.specs.Marks.{IsMarked}
use Rattle.pst_reasons.proofs.CountLemmas.{put_again, bare_is, counted_put, counted_room}
use Rattle.pst_reasons.proofs.marks.Marks.put.Goals as goal

pub returns-then-has : goal.returns-then-has
returns-then-has c = put_again c.args.self.now c.args.variable (c.has.ensures.yes c.if-has.true)

pub index_mut-requires : goal.index_mut-requires
index_mut-requires c =
    let small = subst (λ xs. c.args.variable < length xs) (sym c.self.view_is) c.requires in
    let e = c.self.inside.flags.ok.0 in
    omega (arith, small, e)

pub overflow_add-self : goal.overflow_add-self
overflow_add-self c =
    let v = c.self.inside.flags in
    let small = subst (λ xs. c.args.variable < length xs) (sym c.self.view_is) c.requires in
    let bare = subst (λ xs. IsMarked xs c.args.variable → ⊥) (sym c.self.view_is) (c.has.ensures.no c.if-has.false) in
    let few = counted_room v.items c.args.variable (bare_is v.items c.args.variable small bare) in
    let count = c.self.invariant in
    let long = v.ok.0 in
    let held = v.ok.1 in
    let room = v.small in
    omega (arith, few, count, long, held, room)

pub invariant_of-self : goal.invariant_of-self
invariant_of-self c =
    let v = c.self.inside.flags in
    let small = subst (λ xs. c.args.variable < length xs) (sym c.self.view_is) c.requires in
    let bare = subst (λ xs. IsMarked xs c.args.variable → ⊥) (sym c.self.view_is) (c.has.ensures.no c.if-has.false) in
    ap (λ n. n + 1) c.self.invariant ∙ sym (counted_put v.items c.args.variable (bare_is v.items c.args.variable small bare))

pub returns : goal.returns
returns c = ap (λ xs. set xs c.args.variable true) c.self.view_is
