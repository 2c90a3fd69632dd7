use Rattle.std.proofs.Common.{◌≡◌, ◌+◌, ◌<◌, ℕ, List, length, get_or, subst, sym, arith}
use Rattle.pst_scen.specs.declared.rows.Rows.{Rows}
use Rattle.pst_scen.specs.Trace.{Started, IsHeld}
use Rattle.pst_scen.specs.Rows.{Has}
use Rattle.pst_book.specs.Tables.{RunView, AreRaised}
use Rattle.pst_book.proofs.Ties.{put_back, start_tied, start_room}
use Rattle.pst_book.proofs.run.Run.start.Goals as goal

pub raise-requires-clause-room : goal.raise-requires-clause-room
raise-requires-clause-room c =
    let r = c.self.inside in
    let act_in = subst (λ (v : RunView). c.args.act < length v.plan.groups) (sym c.self.view_is) c.requires.act_in in
    let fresh = subst (λ (v : RunView). Started v.trace c.args.act → ⊥) (sym c.self.view_is) c.requires.fresh in
    let lane_in = subst (λ (v : RunView). c.args.lane < v.lanes) (sym c.self.view_is) c.requires.lane_in in
    let idle = subst (λ (v : RunView). IsHeld v.trace c.args.lane → ⊥) (sym c.self.view_is) c.requires.idle in
    let size = c.conflict_rows-rows.ensures.size in
    let fits = c.len.type_inv in
    let many = c.len.ensures in
    subst (λ (xs : List ℕ). (m : ℕ) → m < c.conflict_rows-rows.result.now.size → Has c.conflict_rows-rows.result.now c.args.act m → get_or xs m 0 + 1 < 4294967296) (sym c.deref_mut.ensures.value)
    (λ m l h. let k = start_room r.plan r.lanes r.trace.items r.started.items r.ended.items r.awaited.items r.in_the_way.items r.next.items r.holders.items r.first r.left c.self.invariant c.args.act c.args.lane c.args.more act_in fresh lane_in idle m (omega (arith, l, size))
    (subst (λ (rows : Rows). Has rows c.args.act m) c.conflict_rows-rows.ensures.is h) in
    omega (arith, k, fits, many))

pub invariant_of-self : goal.invariant_of-self
invariant_of-self c =
    let r = c.self.inside in
    let act_in = subst (λ (v : RunView). c.args.act < length v.plan.groups) (sym c.self.view_is) c.requires.act_in in
    let fresh = subst (λ (v : RunView). Started v.trace c.args.act → ⊥) (sym c.self.view_is) c.requires.fresh in
    let lane_in = subst (λ (v : RunView). c.args.lane < v.lanes) (sym c.self.view_is) c.requires.lane_in in
    let idle = subst (λ (v : RunView). IsHeld v.trace c.args.lane → ⊥) (sym c.self.view_is) c.requires.idle in
    let old : c.deref_mut.result.now ≡ r.in_the_way.items = c.deref_mut.ensures.value in
    let raised : AreRaised r.plan.conflict c.args.act r.in_the_way.items c.raise.new.counts =
    subst (λ (rows : Rows). AreRaised rows c.args.act r.in_the_way.items c.raise.new.counts) c.conflict_rows-rows.ensures.is
    (subst (λ (xs : List ℕ). AreRaised c.conflict_rows-rows.result.now c.args.act xs c.raise.new.counts) old c.raise.ensures) in
    let back = put_back r.in_the_way.len c.raise.new.counts r.in_the_way.items raised.many r.in_the_way.ok.0 in
    start_tied r.plan r.lanes r.trace.items r.started.items r.ended.items r.awaited.items r.in_the_way.items r.next.items r.holders.items r.first r.left c.self.invariant c.args.act c.args.lane c.args.more act_in fresh lane_in idle
    c.note.new.trace.items _ c.note.ensures.items (subst (λ (xs : List ℕ). AreRaised r.plan.conflict c.args.act r.in_the_way.items xs) (sym back) raised)
