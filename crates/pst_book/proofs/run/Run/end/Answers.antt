use Rattle.std.proofs.Common.{◌<◌, ℕ, List, Option, get_or, subst, sym, arith}
use Rattle.pst_scen.specs.declared.rows.Rows.{Rows}
use Rattle.pst_scen.specs.Trace.{Runs}
use Rattle.pst_scen.specs.Rows.{Has}
use Rattle.pst_book.specs.Tables.{RunView, AreLowered, AreFreed}
use Rattle.pst_book.proofs.Ties.{put_back, end_tied, awaited_some, in_the_way_some, left_some, it_is_below}
use Rattle.pst_book.proofs.run.Run.end.Goals as goal

pub lower-requires-clause-a_in : goal.lower-requires-clause-a_in
lower-requires-clause-a_in c =
    let r = c.self.inside in
    let runs = subst (λ (v : RunView). Runs v.trace c.args.act) (sym c.self.view_is) c.requires.runs in
    let l = it_is_below r.plan r.lanes r.trace.items r.started.items r.ended.items r.awaited.items r.in_the_way.items r.next.items r.holders.items r.first r.left c.self.invariant c.args.act runs in
    omega (arith, l, c.must_rows-must.ensures.size)

pub lower-requires-clause-some : goal.lower-requires-clause-some
lower-requires-clause-some c =
    let r = c.self.inside in
    let runs = subst (λ (v : RunView). Runs v.trace c.args.act) (sym c.self.view_is) c.requires.runs in
    let size = c.must_rows-must.ensures.size in
    subst (λ (xs : List ℕ). (m : ℕ) → m < c.must_rows-must.result.now.size → Has c.must_rows-must.result.now c.args.act m → 0 < get_or xs m 0) (sym c.deref_mut.ensures.value)
    (λ m l h. awaited_some r.plan r.lanes r.trace.items r.started.items r.ended.items r.awaited.items r.in_the_way.items r.next.items r.holders.items r.first r.left c.self.invariant c.args.act runs m (omega (arith, l, size))
    (subst (λ (rows : Rows). Has rows c.args.act m) c.must_rows-must.ensures.is h))

pub lower-requires-2-clause-a_in : goal.lower-requires-2-clause-a_in
lower-requires-2-clause-a_in c =
    let r = c.self.inside in
    let runs = subst (λ (v : RunView). Runs v.trace c.args.act) (sym c.self.view_is) c.requires.runs in
    let l = it_is_below r.plan r.lanes r.trace.items r.started.items r.ended.items r.awaited.items r.in_the_way.items r.next.items r.holders.items r.first r.left c.self.invariant c.args.act runs in
    omega (arith, l, c.conflict_rows-conflict.ensures.size)

pub lower-requires-2-clause-some : goal.lower-requires-2-clause-some
lower-requires-2-clause-some c =
    let r = c.self.inside in
    let runs = subst (λ (v : RunView). Runs v.trace c.args.act) (sym c.self.view_is) c.requires.runs in
    let size = c.conflict_rows-conflict.ensures.size in
    subst (λ (xs : List ℕ). (m : ℕ) → m < c.conflict_rows-conflict.result.now.size → Has c.conflict_rows-conflict.result.now c.args.act m → 0 < get_or xs m 0) (sym c.deref_mut-2.ensures.value)
    (λ m l h. in_the_way_some r.plan r.lanes r.trace.items r.started.items r.ended.items r.awaited.items r.in_the_way.items r.next.items r.holders.items r.first r.left c.self.invariant c.args.act runs m (omega (arith, l, size))
    (subst (λ (rows : Rows). Has rows c.args.act m) c.conflict_rows-conflict.ensures.is h))

pub index_mut-requires : goal.index_mut-requires
index_mut-requires c =
    let r = c.self.inside in
    let runs = subst (λ (v : RunView). Runs v.trace c.args.act) (sym c.self.view_is) c.requires.runs in
    let l = it_is_below r.plan r.lanes r.trace.items r.started.items r.ended.items r.awaited.items r.in_the_way.items r.next.items r.holders.items r.first r.left c.self.invariant c.args.act runs in
    let e = r.ended.ok.0 in
    omega (arith, l, e, c.self.invariant.many_ended)

pub overflow_sub-self : goal.overflow_sub-self
overflow_sub-self c =
    let r = c.self.inside in
    let runs = subst (λ (v : RunView). Runs v.trace c.args.act) (sym c.self.view_is) c.requires.runs in
    let l = left_some r.plan r.lanes r.trace.items r.started.items r.ended.items r.awaited.items r.in_the_way.items r.next.items r.holders.items r.first r.left c.self.invariant c.args.act runs in
    omega (arith, l)

pub invariant_of-self : goal.invariant_of-self
invariant_of-self c =
    let r = c.self.inside in
    let runs = subst (λ (v : RunView). Runs v.trace c.args.act) (sym c.self.view_is) c.requires.runs in
    let lowered : AreLowered r.plan.must c.args.act r.awaited.items c.lower.new.counts =
    subst (λ (rows : Rows). AreLowered rows c.args.act r.awaited.items c.lower.new.counts) c.must_rows-must.ensures.is
    (subst (λ (xs : List ℕ). AreLowered c.must_rows-must.result.now c.args.act xs c.lower.new.counts) c.deref_mut.ensures.value c.lower.ensures) in
    let cleared : AreLowered r.plan.conflict c.args.act r.in_the_way.items c.lower-2.new.counts =
    subst (λ (rows : Rows). AreLowered rows c.args.act r.in_the_way.items c.lower-2.new.counts) c.conflict_rows-conflict.ensures.is
    (subst (λ (xs : List ℕ). AreLowered c.conflict_rows-conflict.result.now c.args.act xs c.lower-2.new.counts) c.deref_mut-2.ensures.value c.lower-2.ensures) in
    let freed : AreFreed c.args.act r.holders.items c.free.new.holders =
    subst (λ (xs : List (Option ℕ)). AreFreed c.args.act xs c.free.new.holders) c.deref_mut-3.ensures.value c.free.ensures in
    let one = put_back r.awaited.len c.lower.new.counts r.awaited.items lowered.many r.awaited.ok.0 in
    let two = put_back r.in_the_way.len c.lower-2.new.counts r.in_the_way.items cleared.many r.in_the_way.ok.0 in
    let three = put_back r.holders.len c.free.new.holders r.holders.items freed.many r.holders.ok.0 in
    end_tied r.plan r.lanes r.trace.items r.started.items r.ended.items r.awaited.items r.in_the_way.items r.next.items r.holders.items r.first r.left c.self.invariant c.args.act runs c.note.new.trace.items _ _ _ c.note.ensures.items
    (subst (λ (xs : List ℕ). AreLowered r.plan.must c.args.act r.awaited.items xs) (sym one) lowered)
    (subst (λ (xs : List ℕ). AreLowered r.plan.conflict c.args.act r.in_the_way.items xs) (sym two) cleared)
    (subst (λ (xs : List (Option ℕ)). AreFreed c.args.act r.holders.items xs) (sym three) freed)
