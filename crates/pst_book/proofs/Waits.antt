-- Who waits for the pairs that are kept waits for all.
use Rattle.std.proofs.Common.{◌≡◌, ◌⊎◌, inl, inr, ⊎_elim, ◌<◌, ◌≤◌, ℕ, zero, suc, List, length, subst, arith}
use Rattle.std.proofs.lemmas.Bool.{cases_eq, cases_lt}
use Rattle.pst_scen.specs.declared.rows.Rows.{Rows}
use Rattle.pst_scen.specs.declared.event.Event.{Event}
use Rattle.pst_scen.specs.Rows.{Has}
use Rattle.pst_scen.specs.Trace.{Ended}
use Rattle.pst_scen.specs.Plan.{Entries}
use Rattle.pst_reduction.specs.Reduced.{IsReduced}
use Rattle.pst_book.specs.Books.{MayJoin, CanStart, StartsFirst, NoneStarts}
use Rattle.pst_book.specs.Waiting.{with_must, IsWaiting}
use Rattle.pst_book.proofs.Events.{ended_or}
use Rattle.pst_book.proofs.Ties.{has_or}

-- a number with the property that leads to no number below the limit that has it
record IsLast (n : ℕ) (R : ℕ → ℕ → Type 0) (P : ℕ → Type 0) (limit m : ℕ) : Type 0 where
  inside : m < n
  has : P m
  none : (c : ℕ) → c < limit → P c → R m c → ⊥

module _ (n : ℕ) (R : ℕ → ℕ → Type 0) (decided : (a b : ℕ) → R a b ⊎ (R a b → ⊥)) (no_circle : (a : ℕ) → a < n → R a a → ⊥) (chained : (a b c : ℕ) → a < n → b < n → c < n → R a b → R b c → R a c)
    (P : ℕ → Type 0) (P_decided : (a : ℕ) → P a ⊎ (P a → ⊥)) where
  one_more : (k : ℕ) → k < n → (m : ℕ) → IsLast n R P k m → (l : ℕ) × IsLast n R P (suc k) l
  one_more k k_in m last = ⊎_elim (λ p. ⊎_elim (λ r. (k, further p r)) (λ not. (m, stays (λ q r. not r))) (decided m k)) (λ not. (m, stays (λ q r. not q))) (P_decided k)
    where
      further : P k → R m k → IsLast n R P (suc k) k
      further p r =
          record {
            inside = k_in;
            has = p;
            none = λ c below q on. ⊎_elim (λ same. no_circle k k_in (subst (λ (v : ℕ). R k v) same on)) (λ differs. last.none c (omega (arith, below, differs)) q (chained m k c last.inside k_in (omega (arith, below, differs, k_in)) r on)) (cases_eq c k);
          }

      stays : (P k → R m k → ⊥) → IsLast n R P (suc k) m
      stays not = record { inside = last.inside; has = last.has; none = λ c below q on. ⊎_elim (λ same. not (subst P same q) (subst (λ (v : ℕ). R m v) same on)) (λ differs. last.none c (omega (arith, below, differs)) q on) (cases_eq c k) }

  last_of : (k : ℕ) → k ≤ n → (a : ℕ) → a < n → P a → (m : ℕ) × IsLast n R P k m
  last_of zero k_in a a_in p = (a, record { inside = a_in; has = p; none = λ c below. absurd (omega (arith, below)) })
  last_of (suc k) k_in a a_in p = let m = last_of k (omega (arith, k_in)) a a_in p in one_more k (omega (arith, k_in)) m.0 m.1

-- what an order of actions and a trace keep
pub record IsOrderly (p : Entries) (t : List Event) : Type 0 where
  pub no_circle : (a : ℕ) → a < length p.groups → Has p.must a a → ⊥
  pub chained : (a b c : ℕ) → a < length p.groups → b < length p.groups → c < length p.groups → Has p.must a b → Has p.must b c → Has p.must a c
  pub ended : (a b : ℕ) → a < length p.groups → b < length p.groups → Has p.must a b → Ended t b → Ended t a

module _ (p : Entries) (kept : Rows) (size : p.must.size ≡ length p.groups) (reduced : IsReduced p.must kept) (t : List Event) (order : IsOrderly p t) where
  abbrev q : Entries
  q = with_must p kept

  abbrev IsOpen : ℕ → ℕ → Type 0
  IsOpen act b = (b < length p.groups) × Has p.must b act × (Ended t b → ⊥)

  open_or : (act b : ℕ) → IsOpen act b ⊎ (IsOpen act b → ⊥)
  open_or act b =
      ⊎_elim (λ l. ⊎_elim (λ h. ⊎_elim (λ e. inr (λ o. o.2 e)) (λ n. inl (l, h, n)) (ended_or t b)) (λ n. inr (λ o. n o.1)) (has_or p.must b act)) (λ n. inr (λ o. let l = o.0 in omega (arith, l, n))) (cases_lt b (length p.groups))

  -- of what must come before and hasn't ended one is kept
  one_kept : (act : ℕ) → act < length p.groups → (b : ℕ) → IsOpen act b → (e : ℕ) × (e < length p.groups) × Has kept e act × (Ended t e → ⊥)
  one_kept act act_in b waits =
      let n = length p.groups in
      let last = last_of n (Has p.must) (has_or p.must) order.no_circle order.chained (IsOpen act) (open_or act) n (omega arith) b waits.0 waits in
      let m = last.0 in
      let has = last.1.has in
      ⊎_elim (λ k. (m, last.1.inside, k, has.2))
      (λ bridge. let c_in : bridge.0 < n = (let l = bridge.1 in omega (arith, l, size)) in
      absurd (last.1.none bridge.0 c_in (c_in, bridge.3, λ e. has.2 (order.ended m bridge.0 last.1.inside c_in bridge.2 e)) bridge.2))
      (reduced.bridged m act (let l = last.1.inside in omega (arith, l, size)) (omega (arith, act_in, size)) has.1)

  pub joins_there : (act : ℕ) → act < length p.groups → MayJoin q t act → MayJoin p t act
  joins_there act act_in j =
      record {
        fresh = j.fresh;
        awaited = λ b b_in has. ⊎_elim (λ e. e) (λ still. let k = one_kept act act_in b (b_in, has, still) in absurd (k.3 (j.awaited k.0 k.1 k.2))) (ended_or t b);
        clear = j.clear;
      }

  pub joins_back : (act : ℕ) → act < length p.groups → MayJoin p t act → MayJoin q t act
  joins_back act act_in j =
      record {
        fresh = j.fresh;
        awaited = λ b b_in has. j.awaited b b_in (reduced.within b act (omega (arith, b_in, size)) (omega (arith, act_in, size)) has);
        clear = j.clear;
      }

  starts_there : (lanes group : ℕ) → CanStart q lanes t group → CanStart p lanes t group
  starts_there lanes group can = record { number = can.number; join = λ a a_in same. joins_there a a_in (can.join a a_in same); count = can.count; idle = can.idle; room = can.room }

  starts_back : (lanes group : ℕ) → CanStart p lanes t group → CanStart q lanes t group
  starts_back lanes group can = record { number = can.number; join = λ a a_in same. joins_back a a_in (can.join a a_in same); count = can.count; idle = can.idle; room = can.room }

  first_there : (lanes group : ℕ) → StartsFirst q lanes t group → StartsFirst p lanes t group
  first_there lanes group h = record { below = h.below; can = starts_there lanes group h.can; first = λ other less can. h.first other less (starts_back lanes other can) }

  none_there : (lanes : ℕ) → NoneStarts q lanes t → NoneStarts p lanes t
  none_there lanes none = λ group group_in can. none group group_in (starts_back lanes group can)

-- the same of a plan by which a run waits
module _ (p q : Entries) (waits : IsWaiting p q) (t : List Event) (order : IsOrderly p t) where
  pub first_starts : (lanes group : ℕ) → StartsFirst q lanes t group → StartsFirst p lanes t group
  first_starts lanes group h = first_there p q.must waits.size waits.reduced t order lanes group (subst (λ (e : Entries). StartsFirst e lanes t group) waits.is h)

  pub none_starts_there : (lanes : ℕ) → NoneStarts q lanes t → NoneStarts p lanes t
  none_starts_there lanes h = none_there p q.must waits.size waits.reduced t order lanes (subst (λ (e : Entries). NoneStarts e lanes t) waits.is h)
