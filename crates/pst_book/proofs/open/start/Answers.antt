use Rattle.std.proofs.Common.{◌≡◌, ◌+◌, ◌<◌, ◌≤◌, ◌∙◌, ℕ, List, length, refl, subst, sym, ap, ⊎_elim, arith}
use Rattle.std.specs.Prelude.{nat_lt}
use Rattle.pst_scen.specs.declared.event.Event.{Event}
use Rattle.pst_scen.specs.Trace.{Started, IsHeld}
use Rattle.pst_scen.specs.Plan.{Entries, AreGroupsNumbered, members}
use Rattle.pst_book.specs.Books.{AreStarted}
use Rattle.pst_book.specs.Tables.{RunView, IsNext}
use Rattle.pst_book.proofs.Pushes.{started_push, held_push}
use Rattle.pst_book.proofs.Starting.{starting_first, starting_move, starting_last, members_begin, places_between}
use Rattle.pst_book.proofs.Going.{goes}
use Rattle.pst_book.proofs.open.start.Goals as goal

-- the number of actions
many : {p q : Entries} {n : ℕ} → p ≡ q → n ≡ length p.groups → n ≡ length q.groups
many e f = f ∙ ap (λ (v : Entries). length v.groups) e

pub members-init : goal.members-init
members-init c =
    let run = c.args.run.now in
    let r = c.requires in
    let numbered = subst (λ (p : Entries). AreGroupsNumbered p.groups) c.plan.ensures c.len-all.ensures.numbered in
    record {
      plan = refl;
      lanes = refl;
      here = λ l. r.number;
      fresh = λ a l m e. r.fresh a m e;
      held = λ x l. ((λ h. h), (λ h. h));
      starting = starting_move run.trace run.trace run.plan.groups c.args.group run.lanes 0 c.args.group c.args.count 0 run.room run.room
          (members_begin run.plan.groups c.args.group numbered r.group_in)
          (starting_first run.trace run.plan.groups c.args.group run.lanes c.args.count r.idle.0 run.room r.many r.idle.1 r.idle.2 r.room);
    }

pub start-requires-clause-fresh : goal.start-requires-clause-fresh
start-requires-clause-fresh c =
    let i = c.members.invariant in
    let t = c.members-test.true in
    let e = many c.plan.ensures c.len-all.ensures.is in
    let l : c.members.act < length c.args.run.now.plan.groups = omega (arith, t, e) in
    i.fresh c.members.act (omega arith) l (i.here l)

pub start-requires-clause-lane_in : goal.start-requires-clause-lane_in
start-requires-clause-lane_in c =
    let i = c.members.invariant in
    let t = c.members-test.true in
    let e = many c.plan.ensures c.len-all.ensures.is in
    let l : c.members.act < length c.args.run.now.plan.groups = omega (arith, t, e) in
    let u = c.next_idle-used.ensures in
    let g = goes c.args.run.now c.members.run c.args.group c.members.act c.members.left c.members.lane c.next_idle-used.result i.lanes l (i.here l) i.held i.starting u.inside.0 u.inside.1 u.held u.idle in
    let b = g.below in
    omega (arith, b, i.lanes)

pub start-requires-clause-idle : goal.start-requires-clause-idle
start-requires-clause-idle c =
    let i = c.members.invariant in
    let t = c.members-test.true in
    let e = many c.plan.ensures c.len-all.ensures.is in
    let l : c.members.act < length c.args.run.now.plan.groups = omega (arith, t, e) in
    let u = c.next_idle-used.ensures in
    let g = goes c.args.run.now c.members.run c.args.group c.members.act c.members.left c.members.lane c.next_idle-used.result i.lanes l (i.here l) i.held i.starting u.inside.0 u.inside.1 u.held u.idle in
    u.idle (let b = g.below in omega (arith, b, i.lanes))

pub overflow_add-lane : goal.overflow_add-lane
overflow_add-lane c =
    let i = c.members.invariant in
    let t = c.members-test.true in
    let e = many c.plan.ensures c.len-all.ensures.is in
    let l : c.members.act < length c.args.run.now.plan.groups = omega (arith, t, e) in
    let u = c.next_idle-used.ensures in
    let g = goes c.args.run.now c.members.run c.args.group c.members.act c.members.left c.members.lane c.next_idle-used.result i.lanes l (i.here l) i.held i.starting u.inside.0 u.inside.1 u.held u.idle in
    let b = g.below in
    let k = c.lanes-lanes.ensures in
    let f = c.lanes-lanes.type_inv in
    record { fits = let m : c.next_idle-used.result + 1 < 4294967296 = omega (arith, b, k, f) in m }

pub members-preserved : goal.members-preserved
members-preserved c =
    let run = c.args.run.now in
    let i = c.members.invariant in
    let t = c.members-test.true in
    let e = many c.plan.ensures c.len-all.ensures.is in
    let l : c.members.act < length run.plan.groups = omega (arith, t, e) in
    let u = c.next_idle-used.ensures in
    let used = c.next_idle-used.result in
    let g = goes run c.members.run c.args.group c.members.act c.members.left c.members.lane used i.lanes l (i.here l) i.held i.starting u.inside.0 u.inside.1 u.held u.idle in
    let plan : c.start.new.self.plan ≡ run.plan = c.start.ensures.plan ∙ i.plan in
    let next = subst (λ (p : Entries). IsNext p.groups c.members.act c.next-act.result) plan c.next-act.ensures in
    let b = next.behind in
    record {
      plan = plan;
      lanes = c.start.ensures.lanes ∙ i.lanes;
      here = λ m. next.same m ∙ i.here l;
      fresh = λ a m n f h. ⊎_elim (λ k. i.fresh a (omega (arith, m, b)) n f k) (λ q. omega (arith, q, m, b))
          (started_push c.members.run.trace c.members.act used (nat_lt 1 c.members.left) a (subst (λ (v : List Event). Started v a) c.start.ensures.trace h));
      held = λ x m. let far = held_push c.members.run.trace c.members.act used (nat_lt 1 c.members.left) x (λ q. omega (arith, q, m)) in
          let near = i.held x (let lo = u.inside.0 in omega (arith, m, lo)) in (
            λ h. near.0 (far.0 (subst (λ (v : List Event). IsHeld v x) c.start.ensures.trace h)),
            λ h. subst (λ (v : List Event). IsHeld v x) (sym c.start.ensures.trace) (far.1 (near.1 h)),
          );
      starting = starting_move run.trace c.start.new.self.trace run.plan.groups c.args.group run.lanes (c.members.act + 1) c.next-act.result _ _ run.room c.start.new.self.room
          (places_between run.plan.groups (c.members.act + 1) c.next-act.result c.args.group (omega (arith, b)) next.inside (λ x a k f. next.none_between x (omega (arith, a)) k (f ∙ sym (i.here l))))
          (g.step c.start.new.self.trace c.start.new.self.room c.start.ensures.trace c.start.ensures.room);
    }

pub returns : goal.returns
returns c =
    let run = c.args.run.now in
    let i = c.members.invariant in
    let same : c.skip_started.new.self ≡ c.members.run = c.skip_started.ensures in
    let p = c.members-test.false in
    let e = many c.plan.ensures c.len-all.ensures.is in
    record {
      plan = ap (λ (v : RunView). v.plan) same ∙ i.plan;
      lanes = ap (λ (v : RunView). v.lanes) same ∙ i.lanes;
      started = subst (λ (v : RunView). AreStarted run.trace v.trace (members run.plan.groups c.args.group) run.lanes) (sym same)
          (starting_last run.trace c.members.run.trace run.plan.groups c.args.group run.lanes c.members.act c.members.left c.members.lane run.room c.members.run.room (omega (arith, p, e)) i.starting);
      room = subst (λ (v : RunView). run.room ≤ v.room) (sym same) i.starting.grows;
    }
