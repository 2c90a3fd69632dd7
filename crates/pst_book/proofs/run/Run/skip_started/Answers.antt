use Rattle.std.proofs.Common.{◌≡◌, ◌<◌, ◌≤◌, ℕ, List, Bool, true, false, get_or, subst, arith}
use Rattle.pst_book.proofs.Ties.{move_first}
use Rattle.pst_book.proofs.run.Run.skip_started.Goals as goal

pub invariant_of-self : goal.invariant_of-self
invariant_of-self c =
    let r = c.self.inside in
    let f = c.first_unmarked-self-inside in
    let b = f.ensures.inside.1 in
    move_first r.plan r.lanes r.trace.items r.started.items r.ended.items r.awaited.items r.in_the_way.items r.next.items r.holders.items r.first r.left f.result c.self.invariant
    (subst (λ (xs : List Bool). (a : ℕ) → r.first ≤ a → a < f.result → get_or xs a false ≡ true) c.deref.ensures.value f.ensures.marked)
    (omega (arith, b, c.len.ensures.is))
