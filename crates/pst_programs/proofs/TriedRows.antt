-- Facts: worked rows.
use Rattle.std.proofs.Common.{◌≡◌, ◌⊎◌, ℕ, zero, suc, ◌<◌, ◌≤◌, List, [], ◌∷◌, length, get_or, take, Bool, false, refl, sym, ap, subst, inl, inr, ⊎_elim, arith}
use Rattle.std.specs.Prelude.{Contains}
use Rattle.pst_scen.specs.declared.event.Event.TheVariants.{Start, End}
use Rattle.pst_scen.specs.Rows.{Has}
use Rattle.pst_scen.specs.Trace.{Started, Ended}
use Rattle.pst_programs.specs.declared.program.Instruction.TheVariants.{Run, Signal, Await}
use Rattle.pst_programs.specs.declared.program.Move.TheVariants.{Pass, Begin}
use Rattle.pst_programs.specs.declared.program.Move.TheVariants as move
use Rattle.pst_programs.specs.Serial.{group_of, IsOpen, IsNext, IsSerial, IsEarlier}
use Rattle.pst_programs.specs.Lanes.{Dealt, load, on_lane, ComesBefore, AreFewest, Deals}
use Rattle.pst_programs.specs.Lanes as lanes
use Rattle.pst_programs.specs.Programs.{program_at, Needs, Counts, AreAwaited, IsAwaited, Told, Untold, Writes, Written, ArePrograms}
use Rattle.pst_programs.specs.Programs as programs_of
use Rattle.pst_programs.specs.Machine.{State, Steps, Reaches, First, Then, Tells, Hears, Begins, Ends, HasEnded, at_first}
use Rattle.pst_programs.specs.Tried.{plan, programs, hasty, in_turn}
use Rattle.std.proofs.lemmas.List.Elements.{Contains-get_or}
use Rattle.std.proofs.lemmas.Bool.{cases_order}
use Rattle.pst_scen.specs.Plan.{members}
use Rattle.pst_order.specs.Laws.{MembersAreThose}
use Rattle.pst_programs.specs.Safe.{Stands, AreSafe}
use Rattle.pst_programs.proofs.Bridge.{are_safe}
use Rattle.pst_programs.proofs.Elements.{none_in, cons_cases, cons_first, cons_rest}
use Rattle.pst_programs.proofs.Places.{some_one, none_some, run_await, signal_await}

abbrev order : List ℕ
order = 0 ∷ 1 ∷ []

abbrev dealt : Dealt
dealt = (0, 0) ∷ (1, 1) ∷ []

one_of : {X : Type 0} (x y : X) → Contains (x ∷ []) y → x ≡ y
one_of x y c = ⊎_elim (λ e. e) (λ k. absurd (none_in y k)) (cons_cases x y [] c)

no_must : (a b : ℕ) → a < 2 → b < 2 → Has plan.must a b → ⊥
no_must zero zero l m h = h refl
no_must zero (suc zero) l m h = h refl
no_must (suc zero) zero l m h = h refl
no_must (suc zero) (suc zero) l m h = h refl
no_must (suc (suc a)) b l m h = omega (arith, l)
no_must a (suc (suc b)) l m h = omega (arith, m)

serial : IsSerial plan order
serial = record { each = each; all = all }
  where
    each : (k : ℕ) → k < 2 → IsNext plan (take k order) (get_or order k 0)
    each zero l = record { is_open = record { below = omega arith; number = refl; fresh = none_in 0; ready = λ a b m n e h. absurd (no_must a b m n h) }; least = λ other o. omega arith }
    each (suc zero) l = record {
      is_open = record { below = omega arith; number = refl; fresh = λ c. let e : 0 ≡ 1 = one_of 0 1 c in omega (arith, e); ready = λ a b m n e h. absurd (no_must a b m n h) };
      least = least;
    }
      where
        least : (other : ℕ) → IsOpen plan (0 ∷ []) other → 1 ≤ other
        least zero o = absurd (o.fresh (cons_first 0 []))
        least (suc other) o = omega arith
    each (suc (suc k)) l = absurd (omega (arith, l))

    all : (a : ℕ) → a < 2 → Contains order (group_of plan a)
    all zero l = cons_first 0 (1 ∷ [])
    all (suc zero) l = cons_rest 0 1 (1 ∷ []) (cons_first 1 [])
    all (suc (suc a)) l = absurd (omega (arith, l))

single : (used : ℕ) (i j : ℕ) → i < j → j < 1 → ComesBefore [] (get_or (used ∷ []) i 0) (get_or (used ∷ []) j 0)
single used i j l m = absurd (omega (arith, l, m))

deals : Deals plan 2 [] order dealt
deals = lanes.Then [] dealt 0 (1 ∷ []) (0 ∷ [])
    (record { as_many = refl; below = λ l c. let e = one_of 0 l c in omega (arith, e); ascending = λ i j l m. absurd (omega (arith, l, m)); fewest = λ l m k c b. absurd (least_first l m (one_of 0 m c) b) })
    (lanes.Then ((0, 0) ∷ []) dealt 1 [] (1 ∷ [])
    (record { as_many = refl; below = λ l c. let e = one_of 1 l c in omega (arith, e); ascending = λ i j l m. absurd (omega (arith, l, m)); fewest = λ l m k c b. absurd (least_second l k (subst (λ v. ComesBefore ((0, 0) ∷ []) l v) (sym (one_of 1 m c)) b)) })
    (lanes.Done dealt))
  where
    least_first : (l m : ℕ) → 0 ≡ m → ComesBefore [] l m → ⊥
    least_first l m e b = ⊎_elim (λ h. let k : 0 < 0 = h in omega (arith, k)) (λ h. let k = h.1 in omega (arith, k, e)) b

    least_second : (l : ℕ) → l < 2 → ComesBefore ((0, 0) ∷ []) l 1 → ⊥
    least_second zero k b = ⊎_elim (λ h. let q : 1 < 0 = h in omega (arith, q)) (λ h. let q : 1 ≡ 0 = h.0 in omega (arith, q)) b
    least_second (suc zero) k b = ⊎_elim (λ h. let q : 0 < 0 = h in omega (arith, q)) (λ h. let q : 1 < 1 = h.1 in omega (arith, q)) b
    least_second (suc (suc l)) k b = omega (arith, k)

-- in the order one group is earlier: the first
earlier_is : (g h : ℕ) → IsEarlier order g h → (g ≡ 0) × (h ≡ 1)
earlier_is g h e = by_places e.first e.second e.rising e.below e.is_first e.is_second
  where
    by_places : (i j : ℕ) → i < j → j < 2 → get_or order i 0 ≡ g → get_or order j 0 ≡ h → (g ≡ 0) × (h ≡ 1)
    by_places zero (suc zero) r b x y = (sym x, sym y)
    by_places zero zero r b x y = absurd (omega (arith, r))
    by_places (suc i) zero r b x y = absurd (omega (arith, r))
    by_places (suc i) (suc zero) r b x y = absurd (omega (arith, r))
    by_places i (suc (suc j)) r b x y = absurd (omega (arith, b))

dealt_is : (x m : ℕ) → Contains dealt (x, m) → ((x ≡ 0) × (m ≡ 0)) ⊎ ((x ≡ 1) × (m ≡ 1))
dealt_is x m c = ⊎_elim (λ e. inl (sym (ap (λ q. q.0) e), sym (ap (λ q. q.1) e))) (λ k. let e = one_of (1, 1) (x, m) k in inr (sym (ap (λ q. q.0) e), sym (ap (λ q. q.1) e))) (cons_cases (0, 0) (x, m) ((1, 1) ∷ []) c)

-- the second action needs the first
needs : Needs plan order dealt 1 1 0 0
needs = record {
  other = λ e. let q : 0 ≡ 1 = e in omega (arith, q);
  there = cons_first (0, 0) ((1, 1) ∷ []);
  earlier = record { first = 0; second = 1; rising = omega arith; below = omega arith; is_first = refl; is_second = refl };
  because = inr (λ e. let q : 2 ≡ 0 = e in omega (arith, q));
}

counts : Counts plan order dealt [] 1 1 0 0
counts = record {
  needs = needs;
  latest = λ y n e.
      ⊎_elim
      (λ q. let h = (earlier_is 0 (group_of plan y) e).1 in let f : 0 ≡ 1 = subst (λ v. group_of plan v ≡ 1) q.0 h in omega (arith, f))
      (λ q. let f : 0 ≡ 1 = q.1 in omega (arith, f))
      (dealt_is y 0 n.there);
  new = λ y c d o. none_in (Await y) c;
}

ascending : (x i j : ℕ) → i < j → j < 1 → get_or (x ∷ []) i 0 < get_or (x ∷ []) j 0
ascending x i j l m = absurd (omega (arith, l, m))

pub are : ArePrograms plan 2 programs
are = record { many = refl; order = order; serial = serial; dealt = dealt; deals = deals; each = each }
  where
    first_awaits : (x : ℕ) → Contains [] x → (m : ℕ) × Counts plan order dealt [] 0 0 x m
    first_awaits x c = absurd (none_in x c)

    none_first : (x : ℕ) → (m : ℕ) × Counts plan order dealt [] 0 0 x m → Contains [] x
    none_first x k = let e : 0 ≡ 1 = (earlier_is (group_of plan x) 0 k.1.needs.earlier).1 in absurd (omega (arith, e))

    second_awaits : (x : ℕ) → Contains (0 ∷ []) x → (m : ℕ) × Counts plan order dealt [] 1 1 x m
    second_awaits x c = (0, subst (λ v. Counts plan order dealt [] 1 1 v 0) (one_of 0 x c) counts)

    one_second : (x : ℕ) → (m : ℕ) × Counts plan order dealt [] 1 1 x m → Contains (0 ∷ []) x
    one_second x k = ⊎_elim (λ q. subst (λ v. Contains (0 ∷ []) v) (sym q.0) (cons_first 0 [])) (λ q. absurd (k.1.needs.other q.1)) (dealt_is x k.0 k.1.needs.there)

    unawaited : IsAwaited programs 1 1 → ⊥
    unawaited (zero, n, c) =
        ⊎_elim (λ e. run_await 0 1 e) (λ k. ⊎_elim (λ e. signal_await 0 1 e) (λ k. none_in (Await 1) k) (cons_cases (Signal 0) (Await 1) [] k)) (cons_cases (Run 0) (Await 1) (Signal 0 ∷ []) c)
    unawaited (suc zero, n, c) = n refl
    unawaited (suc (suc m), n, c) = none_in (Await 1) c

    each : (l : ℕ) → l < 2 → Writes plan order dealt programs l [] (on_lane dealt l) (program_at programs l)
    each zero l = programs_of.Then [] _ (Signal 0 ∷ []) 0 [] []
        (record { ascending = λ i j l m. absurd (omega (arith, m)); those = λ x. (first_awaits x, none_first x) })
        (Told (1, (λ e. let q : 1 ≡ 0 = e in omega (arith, q)), cons_first (Await 0) (Run 1 ∷ [])))
        (Written _)
    each (suc zero) l = programs_of.Then [] _ [] 1 [] (0 ∷ [])
        (record { ascending = ascending 0; those = λ x. (second_awaits x, one_second x) })
        (Untold unawaited)
        (Written _)
    each (suc (suc k)) l = absurd (omega (arith, l))

-- without the await they aren't

module _ (those : MembersAreThose) where
  ascends : (g i j : ℕ) → i < j → j < length (members plan.groups g) → get_or (members plan.groups g) i 0 < get_or (members plan.groups g) j 0
  ascends zero i j h l = let k : j < 1 = l in absurd (omega (arith, h, k))
  ascends (suc zero) i j h l = let k : j < 1 = l in absurd (omega (arith, h, k))
  ascends (suc (suc g)) i j h l = absurd (none_there g i j h l)
    where
      none_there : (g i j : ℕ) → i < j → j < length (members plan.groups (suc (suc g))) → ⊥
      none_there g i j h l =
          let m = (those plan.groups (suc (suc g)) (get_or (members plan.groups (suc (suc g))) j 0)).0 (Contains-get_or (members plan.groups (suc (suc g))) j 0 l) in
          by_member (get_or (members plan.groups (suc (suc g))) j 0) m.0 m.1
        where
          by_member : (a : ℕ) → a < 2 → get_or plan.groups a 0 ≡ suc (suc g) → ⊥
          by_member zero l e = omega (arith, e)
          by_member (suc zero) l e = omega (arith, e)
          by_member (suc (suc a)) l e = omega (arith, l)

  no_await : (l k x : ℕ) → Stands hasty l k (Await x) → ⊥
  no_await zero zero x e = run_await 0 x (some_one (Run 0) (Await x) e)
  no_await zero (suc k) x e = none_some (Await x) e
  no_await (suc zero) zero x e = run_await 1 x (some_one (Run 1) (Await x) e)
  no_await (suc zero) (suc k) x e = none_some (Await x) e
  no_await (suc (suc l)) k x e = none_some (Await x) e

  pub are_not : ArePrograms plan 2 hasty → ⊥
  are_not h = by_rank (are_safe plan 2 hasty those ascends h)
    where
      run_is : (a b : ℕ) → Run a ≡ Run b → a ≡ b
      run_is a b e = cc e

      by_rank : AreSafe plan hasty → ⊥
      by_rank safe =
          ⊎_elim
          (λ e. let g : 0 ≡ 1 = safe.one_group 0 1 (omega arith) (omega arith) e in omega (arith, g))
          (λ o. ⊎_elim
          (λ l. ⊎_elim (λ q. let e = safe.only 0 0 1 0 q.0 refl q.1 in let z = e.0 in omega (arith, z)) (λ q. no_await 1 q.await_at q.later q.await)
          (safe.needed 0 1 1 0 (omega arith) l (inr (λ e. let z : 2 ≡ 0 = e in omega (arith, z))) refl))
          (λ l. ⊎_elim (λ q. let e = safe.only 1 1 0 0 q.0 refl q.1 in let z = e.0 in omega (arith, z)) (λ q. no_await 0 q.await_at q.later q.await)
          (safe.needed 1 0 0 0 (omega arith) l (inr (λ e. let z : 1 ≡ 0 = e in omega (arith, z))) refl)) o)
          (cases_order (safe.rank 0) (safe.rank 1))

-- THE MACHINE

same : (a b l m : ℕ) (p q : Bool) → Start a l p ≡ Start b m q → a ≡ b
same a b l m p q e = cc e

same_end : (a b : ℕ) → End a ≡ End b → a ≡ b
same_end a b e = cc e

pub no_begin : (new : State) → Steps plan programs (at_first programs) (Begin 1) new → ⊥
no_begin _ (Begins _ a us at ats fresh) = run_await a 0 (sym (some_one (Await 0) (Run a) at))

pub no_pass : (new : State) → Steps plan programs (at_first programs) (Pass 1) new → ⊥
no_pass _ (Tells _ a at) = signal_await a 0 (sym (some_one (Await 0) (Signal a) at))
no_pass _ (Hears _ a at told) = none_in a told

abbrev pub last : State
last = record { places = 2 ∷ 2 ∷ []; signals = 0 ∷ []; trace = in_turn }

pub reaches : Reaches plan programs (move.End 1 ∷ Begin 1 ∷ Pass 1 ∷ Pass 0 ∷ move.End 0 ∷ Begin 0 ∷ []) last
reaches =
    Then _ _ _ _ (Then _ _ _ _ (Then _ _ _ _ (Then _ _ _ _ (Then _ _ _ _ (Then _ _ _ _ First
    (Begins 0 0 (0 ∷ []) refl (refl, tt) (λ b c h. none_in (Start b h.0 h.1.0) h.1.1)))
    (Ends 0 0 refl ((0, (false, cons_first (Start 0 0 false) [])), λ h. no_end 0 0 h)))
    (Tells 0 0 refl))
    (Hears 1 0 refl (cons_first 0 [])))
    (Begins 1 1 (1 ∷ []) refl (refl, tt) (λ b c h. unstarted b (one_of 1 b c) h)))
    (Ends 1 1 refl ((1, (false, cons_rest (Start 0 0 false) (Start 1 1 false) (End 0 ∷ Start 1 1 false ∷ []) (cons_rest (End 0) (Start 1 1 false) (Start 1 1 false ∷ []) (cons_first (Start 1 1 false) [])))), unended))
  where
    no_end : (a l : ℕ) → Ended (Start a l false ∷ []) a → ⊥
    no_end a l h = let e = one_of (Start a l false) (End a) h in cc e

    unstarted : (b : ℕ) → 1 ≡ b → Started (Start 0 0 false ∷ End 0 ∷ []) b → ⊥
    unstarted b e h = ⊎_elim (λ q. let f = same 0 b 0 h.0 false h.1.0 q in omega (arith, e, f)) (λ k. let q = one_of (End 0) (Start b h.0 h.1.0) k in cc q) (cons_cases (Start 0 0 false) (Start b h.0 h.1.0) (End 0 ∷ []) h.1.1)

    unended : Ended (Start 0 0 false ∷ End 0 ∷ Start 1 1 false ∷ []) 1 → ⊥
    unended h =
        ⊎_elim (λ q. cc q)
        (λ k. ⊎_elim (λ q. let e = same_end 0 1 q in omega (arith, e)) (λ k. let q = one_of (Start 1 1 false) (End 1) k in cc q) (cons_cases (End 0) (End 1) (Start 1 1 false ∷ []) k))
        (cons_cases (Start 0 0 false) (End 1) (End 0 ∷ Start 1 1 false ∷ []) h)

pub ended : HasEnded programs last
ended zero h = omega (arith, h)
ended (suc zero) h = omega (arith, h)
ended (suc (suc l)) h = omega (arith, h)
