-- What the book finds is what the core opens.
use Rattle.std.proofs.Common.{◌≡◌, ℕ, ◌+◌, ◌<◌, ◌≤◌, List, [], ◌∷◌, length, get_or, take, drop, refl, sym, ap, ◌∙◌, subst, ⊎_elim, arith, length-take-le, get_or-take, zero, suc}
use Rattle.std.specs.Prelude.{Contains}
use Rattle.std.proofs.lemmas.List.Elements.{Contains-get_or}
use Rattle.std.proofs.lemmas.Bool.{cases_lt, cases_eq}
use Rattle.std.proofs.lemmas.Option.{slice_get_within}
use Rattle.pst_scen.specs.declared.scenario.Scenario.{Scenario}
use Rattle.pst_scen.specs.declared.event.Event.{Event}
use Rattle.pst_scen.specs.declared.act.Flow.{Flow}
use Rattle.pst_scen.specs.declared.act.Link.{Link}
use Rattle.pst_scen.specs.Flows.{Refers}
use Rattle.pst_scen.specs.Order.{Must}
use Rattle.pst_scen.specs.Conflicts.{Conflict, Clash, Resource, FirstWrites, SecondWrites, Uses}
use Rattle.pst_scen.specs.Trace.{IsWholeGroup}
use Rattle.pst_scen.specs.Plan.{Entries, AreGroupsNumbered, places_from, members}
use Rattle.pst_scen.specs.Plans.{IsPlanOf}
use Rattle.pst_scen.specs.Core.{IsStartable, Opens}
use Rattle.pst_order.specs.Laws.{MembersAreThose, PlanGroupsAreWhole, WholeGroupsAreOne}
use Rattle.pst_book.specs.Books.{MayJoin, AreIdle, AreSoMany, CanStart, StartsFirst, NoneStarts}
use Rattle.pst_book.proofs.Elements.{cons_first, cons_rest, place_of}
use Rattle.pst_book.proofs.Lists.{Ascending, ascending_distinct, no_longer, contains_taken}
use Rattle.pst_book.proofs.Idle.{idle_one, idle_of}
use Rattle.pst_book.proofs.Starting.{members_begin, places_yes}

contains_take : (xs : List ℕ) (k i : ℕ) → i < k → i < length xs → Contains (take k xs) (get_or xs i 0)
contains_take xs zero i l m = absurd (omega (arith, l))
contains_take [] (suc k) i l m = absurd (omega (arith, m))
contains_take (x ∷ xs) (suc k) zero l m = cons_first x (take k xs)
contains_take (x ∷ xs) (suc k) (suc i) l m = cons_rest x (get_or xs i 0) (take k xs) (contains_take xs k i (omega (arith, l)) (omega (arith, m)))

-- the least of the idle lanes
pub record AreLeast (t : List Event) (lanes : ℕ) (idle : List ℕ) (k : ℕ) : Type 0 where
  pub many : length (take k idle) ≡ k
  pub up : Ascending (take k idle)
  pub least : (v w : ℕ) → v < w → Contains (take k idle) w → Contains idle v → Contains (take k idle) v

pub take_least : (t : List Event) (lanes k : ℕ) (idle : List ℕ) → AreIdle t 0 lanes idle → k ≤ length idle → AreLeast t lanes idle k
take_least t lanes k idle are enough =
    let us = take k idle in
    let many : length us ≡ k = length-take-le k idle enough in
    let at : (i : ℕ) → i < k → get_or us i 0 ≡ get_or idle i 0 = λ i m. get_or-take k idle i 0 m in
    record {
      many = many;
      up = λ i j m n.
          let n' : j < k = omega (arith, n, many) in
          let x = at i (omega (arith, m, n')) in
          let y = at j n' in
          let z = are.ascending i j m (omega (arith, n', enough)) in
          omega (arith, x, y, z);
      least = λ v w m c i.
          let q = place_of us w c in
          let q' : q.0 < k = omega (arith, q.1, many) in
          let qe : get_or idle q.0 0 ≡ w = sym (at q.0 q') ∙ q.2 in
          let r = place_of idle v i in
          let before : r.0 < k =
          ⊎_elim (λ n. n)
          (λ n. ⊎_elim (λ e. absurd (let x : v ≡ w = sym r.2 ∙ ap (λ i. get_or idle i 0) e ∙ qe in omega (arith, x, m)))
          (λ ne. absurd (let z = are.ascending q.0 r.0 (omega (arith, n, q', ne)) r.1 in let re = r.2 in omega (arith, z, re, qe, m)))
          (cases_eq r.0 q.0))
          (cases_lt r.0 k) in
          subst (λ x. Contains us x) r.2 (contains_take idle k r.0 before r.1);
    }

-- what conflicts is an action of the scenario
pub conflict_in : {s : Scenario} {a b : ℕ} → Conflict s a b → (a < length s.actions) × (b < length s.actions)
conflict_in {s = s} {a = a} {b = b} c = clash_in c.1
  where
    refers_in : {x pool : ℕ} {flow : Flow} {to : Link} → Refers s x flow pool to → x < length s.actions
    refers_in {x = x} r = slice_get_within s.actions x r.act r.is_act

    uses_in : {x pool : ℕ} → Uses s x pool → x < length s.actions
    uses_in u = ⊎_elim (λ r. refers_in r) (λ w. refers_in w) u.1

    clash_in : Clash s a b → (a < length s.actions) × (b < length s.actions)
    clash_in (Resource pool instance own other c d h) =
        (slice_get_within s.actions a c.is.act c.is.is_act, slice_get_within s.actions b d.is.act d.is.is_act)
    clash_in (FirstWrites pool to w u) = (refers_in w, uses_in u)
    clash_in (SecondWrites pool to u w) = (uses_in u, refers_in w)

module _ (these : MembersAreThose) (whole : PlanGroupsAreWhole) (one : WholeGroupsAreOne) (s : Scenario) (p : Entries) (plan : IsPlanOf s p) (lanes : ℕ) (t : List Event) where
  -- what is startable can start by its first member's number
  record Found (ms : List ℕ) : Type 0 where
    below : get_or ms 0 0 < length p.groups
    can : CanStart p lanes t (get_or ms 0 0)

  found : (ms : List ℕ) → IsStartable s lanes t ms → Found ms
  found ms h =
      let b = get_or ms 0 0 in
      let g = get_or p.groups b 0 in
      let group = h.ready.group in
      let has : Contains ms b = Contains-get_or ms 0 0 group.some in
      let l = group.inside b has in
      let l' : b < length p.groups = omega (arith, l, plan.entries.many) in
      let w = whole s p b plan l in
      let mine : Contains (members p.groups g) b = (these p.groups g b).1 (l', refl) in
      let same : members p.groups g ≡ ms = one s (members p.groups g) ms b w.0 group mine has in
      let number : g ≡ b = sym w.1 ∙ ap (λ xs. get_or xs 0 0) same in
      let those : members p.groups b ≡ ms = ap (λ v. members p.groups v) (sym number) ∙ same in
      let idle = idle_of t lanes in
      let few = no_longer h.used idle.0 h.free.different (λ v c. idle.1.all v (omega arith) (h.free.below v c) (h.free.idle v c)) in
      let long : length (members p.groups b) ≡ length ms = ap (λ (xs : List ℕ). length xs) those in
      record {
        below = l';
        can = record {
          number = number;
          join = λ a m e.
              let c : Contains ms a = subst (λ xs. Contains xs a) those ((these p.groups b a).1 (m, e)) in
              let a_in = group.inside a c in
              record {
                fresh = h.ready.fresh a c;
                awaited = λ x n k. h.ready.awaited x a c ((plan.entries.must x a (omega (arith, n, plan.entries.many)) a_in).0 k);
                clear = λ x n r k. h.ready.clear x a r c ((plan.entries.conflict x a (omega (arith, n, plan.entries.many)) a_in).0 k);
              };
          count = length idle.0;
          idle = record { idle = idle.0; are = idle.1; count_is = refl };
          room = omega (arith, few, h.free.many, long);
        };
      }

  pub shut : NoneStarts p lanes t → (ms : List ℕ) → IsStartable s lanes t ms → ⊥
  shut n ms h = let f = found ms h in n (get_or ms 0 0) f.below f.can

  pub opens : (in_scenario : (a b : ℕ) → b < length s.actions → Must s a b → a < length s.actions) (g : ℕ) (idle : List ℕ) → StartsFirst p lanes t g → AreIdle t 0 lanes idle → Opens s lanes t (members p.groups g) (take (length (members p.groups g)) idle)
  opens in_scenario g idle first are =
      let ms = members p.groups g in
      let k = length ms in
      let us = take k idle in
      let l : g < length s.actions = let b = first.below in omega (arith, b, plan.entries.many) in
      let w0 = whole s p g plan l in
      let w = subst (λ v. IsWholeGroup s (members p.groups v) × (get_or (members p.groups v) 0 0 ≡ v)) first.can.number w0 in
      let same : length first.can.idle.idle ≡ length idle = ap (λ (xs : List ℕ). length xs) (idle_one t 0 lanes first.can.idle.idle idle first.can.idle.are are) in
      let enough : k ≤ length idle = let a = first.can.room in let b = first.can.idle.count_is in omega (arith, a, b, same) in
      let least = take_least t lanes k idle are enough in
      let inside : (x : ℕ) → Contains ms x → (x < length p.groups) × (get_or p.groups x 0 ≡ g) = λ x c. (these p.groups g x).0 c in
      let joins : (x : ℕ) → Contains ms x → MayJoin p t x = λ x c. let q = inside x c in first.can.join x q.0 q.1 in
      record {
        ready = record {
          group = w.0;
          fresh = λ x c. (joins x c).fresh;
          awaited = λ x y c m.
              let y_in = w.0.inside y c in
              let x_in = in_scenario x y y_in m in
              (joins y c).awaited x (omega (arith, x_in, plan.entries.many)) ((plan.entries.must x y x_in y_in).1 m);
          clear = λ x y r c m.
              let both = conflict_in m in
              (joins y c).clear x (let z = both.0 in omega (arith, z, plan.entries.many)) r ((plan.entries.conflict x y both.0 both.1).1 m);
        };
        free = record {
          many = least.many;
          different = ascending_distinct us least.up;
          below = λ v c. are.below v (contains_taken k idle v c);
          idle = λ v c. are.free v (contains_taken k idle v c);
        };
        least = λ others h.
            let f = found others h in
            let z = w.1 in
            ⊎_elim (λ m. absurd (first.first (get_or others 0 0) m f.can)) (λ m. omega (arith, m, z)) (cases_lt (get_or others 0 0) g);
        ascending = least.up;
        least_lanes = λ v x m c f. least.least v x m c (are.all v (omega arith) (let b = are.below x (contains_taken k idle x c) in omega (arith, m, b)) f);
      }

-- nothing can start where no lane is idle
pub none_starts_idle : (p : Entries) (lanes : ℕ) (t : List Event) (idle : ℕ) → AreSoMany t lanes idle → idle ≡ 0 → AreGroupsNumbered p.groups → NoneStarts p lanes t
none_starts_idle p lanes t idle are none numbered g l can =
    let e = ap (λ (xs : List ℕ). length xs) (idle_one t 0 lanes can.idle.idle are.idle can.idle.are are.are) in
    let first : length (members p.groups g) ≡ length (g ∷ places_from (drop (g + 1) p.groups) (g + 1) g) =
    ap (λ (xs : List ℕ). length xs) (members_begin p.groups g numbered l ∙ places_yes p.groups g g l can.number) in
    let room = can.room in
    let a = can.idle.count_is in
    let b = are.count_is in
    omega (arith, e, first, room, a, b, none)
