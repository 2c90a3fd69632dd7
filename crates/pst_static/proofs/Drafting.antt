-- Actions that are drafted one after another.
use Rattle.std.proofs.Common.{◌≡◌, ◌≢◌, ◌⊎◌, ℕ, zero, suc, ◌+◌, ◌<◌, ◌≤◌, List, [], ◌∷◌, ◌++◌, length, length-set, get_or, map, replicate, set, take, take_all, slice_get, Some, Bool, true, false, refl, sym, ap, ◌∙◌, subst, inl, inr, ⊎_elim, arith, append_assoc}
use Rattle.std.specs.Prelude.{Contains, nat_eq, if◌then◌else◌}
use Rattle.std.specs.Global.{Vec}
use Rattle.std.proofs.lemmas.List.Elements.{Contains-append_left, Contains-append_right, Contains-append_cases, Contains-push_cases}
use Rattle.std.proofs.lemmas.List.{get_or-replicate, length-replicate}
use Rattle.std.proofs.lemmas.Bool.{cases_eq, cases_order, eq-eqb, eqb-true}
use Rattle.pst_scen.specs.declared.scenario.Scenario.{Scenario}
use Rattle.pst_scen.specs.Rows.{Has}
use Rattle.pst_scen.specs.Plan.{Entries}
use Rattle.pst_scen.specs.Plans.{IsPlanOf}
use Rattle.pst_order.specs.Laws.{WholeHasNoClash, MembersAreThose, PlanGroupsAreWhole}
use Rattle.pst_book.specs.Tables.{AreSoManyOf}
use Rattle.pst_book.proofs.Numbers.{at_most_bound}
use Rattle.pst_book.proofs.Elements.{none_in, cons_cases, cons_first, cons_rest}
use Rattle.pst_book.proofs.Ties.{has_or}
use Rattle.pst_programs.specs.declared.program.Instruction.{Instruction}
use Rattle.pst_programs.specs.declared.program.Instruction.TheVariants.{Run, Await}
use Rattle.pst_programs.specs.Serial.{group_of, IsSerial}
use Rattle.pst_programs.specs.Lanes.{Dealt, on_lane, Deals}
use Rattle.pst_programs.specs.declared.program.Program.{Program}
use Rattle.pst_programs.specs.Programs.{program_at, Counts, AreAwaited}
use Rattle.pst_programs.proofs.Places.{some_one, run_await}
use Rattle.pst_programs.proofs.Ranks.{index_of, rank, lesser}
use Rattle.pst_programs.proofs.Dealing.{Rising, whole_dealt, on_more}
use Rattle.pst_programs.proofs.Written.{get_below, of_get, of_awaits, to_awaits}
use Rattle.pst_programs.proofs.Holding.{ascends}
use Rattle.pst_static.specs.Awaiting.{IsDealtAt, IsLatest, AreLatest, IsHeard, AreHeard, IsNews, IsNewsWritten, AreOnce, HavePlaces}
use Rattle.pst_static.specs.Drafts.{Drafts, Drafted, AreDrafts, IsDrafting, IsDrafted, AreTables, AreEmpty}
use Rattle.pst_static.specs.Stamps.{AreStampedByPlan, IsChangedAt}
use Rattle.pst_static.proofs.Taken.{no_both}
use Rattle.pst_static.proofs.Ranked.{Ordered, ranks_rise}
use Rattle.pst_static.proofs.Counted.{lane_rises, counts_at, counts_only}
use Rattle.pst_static.proofs.Signalled.{draft_more}

-- what is known of all that was dealt
pub record Facts (p : Entries) (lanes : ℕ) (order : List ℕ) (serial : IsSerial p order) (dealt : Dealt) : Type 0 where
  pub inside : (a l : ℕ) → Contains dealt (a, l) → a < length p.groups
  pub below : (a l : ℕ) → Contains dealt (a, l) → l < lanes
  pub only : (a l m : ℕ) → Contains dealt (a, l) → Contains dealt (a, m) → l ≡ m
  pub along : (l : ℕ) → Rising (rank p order serial) (on_lane dealt l)
  pub rises : Ordered (rank p order serial) dealt
  pub apart : (x a : ℕ) → x < length p.groups → a < length p.groups → group_of p x ≡ group_of p a → Has p.must x a ⊎ Has p.conflict x a → ⊥

pub facts : (s : Scenario) (p : Entries) → IsPlanOf s p → WholeHasNoClash → (those : MembersAreThose) → PlanGroupsAreWhole
    → (lanes : ℕ) (order : List ℕ) (serial : IsSerial p order) (dealt : Dealt) → Deals p lanes [] order dealt → Facts p lanes order serial dealt
facts s p plan clash those whole lanes order serial dealt deals =
    let d = whole_dealt p lanes order serial those (ascends those whole s p plan) dealt deals in
    record {
      inside = λ a l c. (d.inside a l c).0;
      below = λ a l c. (d.inside a l c).1;
      only = d.only;
      along = d.rising;
      rises = ranks_rise p lanes order serial those dealt deals;
      apart = λ x a x_in a_in same because. ⊎_elim (λ h. by_must x a x_in a_in same h) (λ h. by_conflict x a x_in a_in same h) because;
    }
  where
    by_must : (x a : ℕ) → x < length p.groups → a < length p.groups → group_of p x ≡ group_of p a → Has p.must x a → ⊥
    by_must x a x_in a_in same h =
        let l = lesser p order serial x a x_in a_in h in
        let e : rank p order serial x ≡ rank p order serial a = ap (index_of order) same in
        omega (arith, l, e)

    by_conflict : (x a : ℕ) → x < length p.groups → a < length p.groups → group_of p x ≡ group_of p a → Has p.conflict x a → ⊥
    by_conflict x a x_in a_in same h =
        let n = plan.entries.many in
        let x_act : x < length s.actions = omega (arith, x_in, n) in
        let a_act : a < length s.actions = omega (arith, a_in, n) in
        let w = (whole s p a plan a_act).0 in
        clash s x a plan.runs (w.one x a ((those p.groups (group_of p a) x).1 (x_in, same)) ((those p.groups (group_of p a) a).1 (a_in, refl))) ((plan.entries.conflict x a x_act a_act).0 h)

-- so an action was dealt once
pub once : (p : Entries) (lanes : ℕ) (order : List ℕ) (serial : IsSerial p order) (dealt : Dealt) → Facts p lanes order serial dealt → AreOnce dealt (length p.groups)
once p lanes order serial dealt f =
    record {
      inside = λ x m c. f.inside x m c;
      only = λ x m o c d. f.only x m o c d;
      once = λ x m one other b c.
          let i = b.1 in
          let j = c.1 in
          ⊎_elim (λ e. omega (arith, e, i, j))
          (λ o. ⊎_elim
          (λ h. let r = lane_rises (rank p order serial) dealt m (f.along m) x x b.0 c.0 b.2 c.2 h in absurd (omega (arith, r)))
          (λ h. let r = lane_rises (rank p order serial) dealt m (f.along m) x x c.0 b.0 c.2 b.2 h in absurd (omega (arith, r))) o)
          (cases_order b.0 c.0);
    }

-- ---- no more were dealt than there are

abbrev acts : Dealt → List ℕ
acts [] = []
acts (d ∷ more) = d.0 ∷ acts more

many_acts : (dealt : Dealt) → length (acts dealt) ≡ length dealt
many_acts [] = refl
many_acts (d ∷ more) = ap suc (many_acts more)

of_acts : (dealt : Dealt) (x : ℕ) → Contains (acts dealt) x → (m : ℕ) × Contains dealt (x, m)
of_acts [] x c = absurd (none_in x c)
of_acts (d ∷ more) x c =
    ⊎_elim (λ e. (d.1, subst (λ v. Contains (d ∷ more) (v, d.1)) e (cons_first d more))) (λ k. let w = of_acts more x k in (w.0, cons_rest d (x, w.0) more w.1)) (cons_cases d.0 x (acts more) c)

act_at : (dealt : Dealt) (i : ℕ) → i < length dealt → (m : ℕ) × (slice_get dealt i ≡ Some (get_or (acts dealt) i 0, m))
act_at [] i l = absurd (omega (arith, l))
act_at (d ∷ more) zero l = (d.1, refl)
act_at (d ∷ more) (suc i) l = act_at more i (omega (arith, l))

so_many : (dealt : Dealt) (n : ℕ) → AreOnce dealt n → AreSoManyOf (λ x. Contains (acts dealt) x) (length (acts dealt))
so_many dealt n o =
    record {
      list = acts dealt;
      different = λ i j l m e.
          let k = many_acts dealt in
          let b = act_at dealt i (omega (arith, l, m, k)) in
          let c = act_at dealt j (omega (arith, m, k)) in
          let x = get_or (acts dealt) i 0 in
          let c' : slice_get dealt j ≡ Some (x, c.0) = subst (λ v. slice_get dealt j ≡ Some (v, c.0)) (sym e) c.1 in
          let same : b.0 ≡ c.0 = o.only x b.0 c.0 (of_get dealt i (x, b.0) b.1) (of_get dealt j (x, c.0) c') in
          let q = o.once x b.0 (suc i) (suc j) (i, refl, b.1) (j, refl, subst (λ v. slice_get dealt j ≡ Some (x, v)) (sym same) c') in
          absurd (omega (arith, q, l));
      are = λ x. ((λ c. c), (λ c. c));
      many = refl;
    }

pub dealt_few : (dealt : Dealt) (n : ℕ) → AreOnce dealt n → length dealt ≤ n
dealt_few dealt n o =
    let b = at_most_bound {P = λ x. Contains (acts dealt) x} n (λ x c. let w = of_acts dealt x c in o.inside x w.0 w.1) (so_many dealt n o) in
    let e = many_acts dealt in
    omega (arith, b, e)

-- ---- lists

get_some : {X : Type 0} (xs : List X) (k : ℕ) → k < length xs → (x : X) × (slice_get xs k ≡ Some x)
get_some [] k l = absurd (omega (arith, l))
get_some (x ∷ xs) zero l = (x, refl)
get_some (x ∷ xs) (suc k) l = get_some xs k (omega (arith, l))

take_push : (xs : Dealt) (k : ℕ) (x : ℕ × ℕ) → slice_get xs k ≡ Some x → take (k + 1) xs ≡ take k xs ++ x ∷ []
take_push xs k x e = let s : k + 1 ≡ suc k = omega arith in ap (λ i. take i xs) s ∙ taken xs k x e
  where
    taken : (xs : Dealt) (k : ℕ) (x : ℕ × ℕ) → slice_get xs k ≡ Some x → take (suc k) xs ≡ take k xs ++ x ∷ []
    taken [] k x e = cc
    taken (y ∷ xs) zero x e = ap (λ v. v ∷ []) (some_one y x e)
    taken (y ∷ xs) (suc k) x e = ap (λ v. y ∷ v) (taken xs k x e)

on_here : (dealt : Dealt) (a l : ℕ) → on_lane (dealt ++ (a, l) ∷ []) l ≡ on_lane dealt l ++ a ∷ []
on_here dealt a l = on_more dealt ((a, l) ∷ []) l ∙ ap (λ v. on_lane dealt l ++ v) (by_test (nat_eq l l) (eq-eqb l l refl))
  where
    by_test : (b : Bool) → b ≡ true → (if b then a ∷ [] else []) ≡ a ∷ []
    by_test true e = refl
    by_test false e = cc

on_other : (dealt : Dealt) (a l m : ℕ) → m ≢ l → on_lane (dealt ++ (a, l) ∷ []) m ≡ on_lane dealt m
on_other dealt a l m n = on_more dealt ((a, l) ∷ []) m ∙ ap (λ v. on_lane dealt m ++ v) (by_test (nat_eq m l) refl) ∙ append_nil (on_lane dealt m)
  where
    by_test : (b : Bool) → nat_eq m l ≡ b → (if b then a ∷ [] else []) ≡ []
    by_test true e = absurd (n (eqb-true m l e))
    by_test false e = refl

    append_nil : (xs : List ℕ) → xs ++ [] ≡ xs
    append_nil [] = refl
    append_nil (x ∷ xs) = ap (λ v. x ∷ v) (append_nil xs)

at_set : {X : Type 0} (xs : List X) (t : ℕ) (y : X) → t < length xs → slice_get (set xs t y) t ≡ Some y
at_set [] t y l = absurd (omega (arith, l))
at_set (x ∷ xs) zero y l = refl
at_set (x ∷ xs) (suc t) y l = at_set xs t y (omega (arith, l))

beside_set : {X : Type 0} (xs : List X) (t i : ℕ) (y : X) → i ≢ t → slice_get (set xs t y) i ≡ slice_get xs i
beside_set [] t i y n = refl
beside_set (x ∷ xs) zero zero y n = absurd (n refl)
beside_set (x ∷ xs) zero (suc i) y n = refl
beside_set (x ∷ xs) (suc t) zero y n = refl
beside_set (x ∷ xs) (suc t) (suc i) y n = beside_set xs t i y (λ e. n (ap suc e))

-- one entry is written
pub changed_at : {X : Type 0} (R : X → X → Type 0) (xs : List X) (place : ℕ) (x y : X) → place < length xs → slice_get xs place ≡ Some x → R x y → IsChangedAt X R place xs (set xs place y)
changed_at {X = X} R xs place x y l is r =
    record {
      many = length-set xs place y;
      here = λ u v a b. subst (λ w. R w v) (some_one x u (sym is ∙ a)) (subst (λ w. R x w) (some_one y v (sym (at_set xs place y l) ∙ b)) r);
      others = λ m n. beside_set xs place m y n;
    }

-- one after another
pub changed_again : {X : Type 0} (P Q R : X → X → Type 0) (place : ℕ) (old now new : List X) → place < length now → ((x y z : X) → P x y → Q y z → R x z)
    → IsChangedAt X P place old now → IsChangedAt X Q place now new → IsChangedAt X R place old new
changed_again P Q R place old now new l both first second =
    record {
      many = second.many ∙ first.many;
      here = λ x z a c. let y = get_some now place l in both x y.0 z (first.here x y.0 a y.1) (second.here y.0 z y.1 c);
      others = λ m n. second.others m n ∙ first.others m n;
    }

-- ---- the tables behind one more action

module _ (p : Entries) (lanes : ℕ) (order : List ℕ) (serial : IsSerial p order) (dealt : Dealt) (f : Facts p lanes order serial dealt) (a l at : ℕ) (is : slice_get dealt at ≡ Some (a, l)) where
  there : Contains dealt (a, l)
  there = of_get dealt at (a, l) is

  pub act_in : a < length p.groups
  act_in = f.inside a l there

  pub lane_below : l < lanes
  lane_below = f.below a l there

  abbrev Pairs : ℕ → ℕ → Type 0
  Pairs x b = Has p.must x b ⊎ Has p.conflict x b

  pairs_or : (x b : ℕ) → Pairs x b ⊎ (Pairs x b → ⊥)
  pairs_or x b = ⊎_elim (λ h. inl (inl h)) (λ n. ⊎_elim (λ h. inl (inr h)) (λ m. inr (λ q. ⊎_elim n m q)) (has_or p.conflict x b)) (has_or p.must x b)

  -- what stands at the place of this action is this action
  it_is : (x m i : ℕ) → IsDealtAt dealt i x m → i ≡ at + 1 → (x ≡ a) × (m ≡ l)
  it_is x m i d e =
      let j = d.1 in
      let k : d.0 ≡ at = omega (arith, j, e) in
      let q : (x, m) ≡ (a, l) = some_one (x, m) (a, l) (sym d.2 ∙ ap (λ v. slice_get dealt v) k ∙ is) in
      (ap (λ (w : ℕ × ℕ). w.0) q, ap (λ (w : ℕ × ℕ). w.1) q)

  other_lane : (m b place : ℕ) → m ≢ l → IsLatest p dealt at m b place → IsLatest p dealt (at + 1) m b place
  other_lane m b place n r =
      let w = r.within in
      record {
        within = omega (arith, w);
        is = r.is;
        last = λ i x le d q. ⊎_elim (λ e. absurd (n (it_is x m i d e).1)) (λ e. r.last i x (omega (arith, le, e)) d q) (cases_eq i (at + 1));
      }

  this_lane : (b old new : ℕ) → IsLatest p dealt at l b old → (Pairs a b → new ≡ at + 1) → ((Pairs a b → ⊥) → new ≡ old) → IsLatest p dealt (at + 1) l b new
  this_lane b old new r on off = ⊎_elim (λ h. subst (λ v. IsLatest p dealt (at + 1) l b v) (sym (on h)) (with_pair h)) (λ n. subst (λ v. IsLatest p dealt (at + 1) l b v) (sym (off n)) (without_pair n)) (pairs_or a b)
    where
      with_pair : Pairs a b → IsLatest p dealt (at + 1) l b (at + 1)
      with_pair h = let e : suc at ≡ at + 1 = omega arith in record { within = omega arith; is = λ o. (a, (at, e, is), h); last = λ i x le d q. le }

      without_pair : (Pairs a b → ⊥) → IsLatest p dealt (at + 1) l b old
      without_pair n =
          let w = r.within in
          record {
            within = omega (arith, w);
            is = r.is;
            last = λ i x le d q. ⊎_elim (λ e. absurd (n (subst (λ v. Pairs v b) (it_is x l i d e).0 q))) (λ e. r.last i x (omega (arith, le, e)) d q) (cases_eq i (at + 1));
          }

  pub latest_more : (latest new : List (Vec ℕ)) → AreLatest p lanes dealt at latest → IsChangedAt (Vec ℕ) (λ x y. AreStampedByPlan p a (at + 1) x.items y.items) l latest new → AreLatest p lanes dealt (at + 1) new
  latest_more latest new are c =
      record {
        many = c.many ∙ are.many;
        each = λ m row get. ⊎_elim (λ e. here row (subst (λ v. slice_get new v ≡ Some row) e get) m e)
            (λ n. let r = are.each m row (sym (c.others m n) ∙ get) in (r.0, λ b b_in. other_lane m b (get_or row.items b 0) n (r.1 b b_in)))
            (cases_eq m l);
      }
    where
      here : (row : Vec ℕ) → slice_get new l ≡ Some row → (m : ℕ) → m ≡ l → (length row.items ≡ length p.groups) × ((b : ℕ) → b < length p.groups → IsLatest p dealt (at + 1) m b (get_or row.items b 0))
      here row get m e =
          let many = are.many in
          let low = lane_below in
          let o = get_some latest l (omega (arith, many, low)) in
          let r = are.each l o.0 o.1 in
          let s = c.here o.0 row o.1 get in
          let wide = r.0 in (
            s.many ∙ r.0,
            λ b b_in. subst (λ v. IsLatest p dealt (at + 1) v b (get_or row.items b 0)) (sym e)
                (this_lane b (get_or o.0.items b 0) (get_or row.items b 0) (r.1 b b_in) (λ h. s.stamped b (omega (arith, b_in, wide)) h) (λ n. s.same b (omega (arith, b_in, wide)) n)),
          )

  -- what is news is what counts
  module _ (latest : List (Vec ℕ)) (are : AreLatest p lanes dealt at latest) (heard : List ℕ) (before : List Instruction) (told : AreHeard lanes dealt before heard) where
    counts_of : (x m : ℕ) → IsNews dealt latest heard a l m x → Counts p order dealt before a l x m
    counts_of x m news =
        let many = are.many in
        let below = get_below latest m news.row news.is_row in
        let m_in : m < lanes = omega (arith, many, below) in
        let place = get_or news.row.items a 0 in
        let k = counts_at p order serial dealt f.inside f.rises f.along f.apart a l at is before m place (get_or heard m 0) ((are.each m news.row news.is_row).1 a act_in) (told.each m m_in) news.other news.later in
        subst (λ v. Counts p order dealt before a l v m) (same place k.0 k.1 news.at) k.2
      where
        same : (i y : ℕ) → IsDealtAt dealt i y m → IsDealtAt dealt i x m → y ≡ x
        same i y d e =
            let u = d.1 in
            let v = e.1 in
            let w : d.0 ≡ e.0 = omega (arith, u, v) in
            ap (λ (w : ℕ × ℕ). w.0) (some_one (y, m) (x, m) (sym d.2 ∙ ap (λ v. slice_get dealt v) w ∙ e.2))

    news_of : (x m : ℕ) → Counts p order dealt before a l x m → IsNews dealt latest heard a l m x
    news_of x m q =
        let m_in = f.below x m q.needs.there in
        let many = are.many in
        let row = get_some latest m (omega (arith, many, m_in)) in
        let o = counts_only p order serial dealt f.inside f.rises f.along f.apart a l at is before m (get_or row.0.items a 0) (get_or heard m 0) ((are.each m row.0 row.1).1 a act_in) (told.each m m_in) x q in
        record { other = o.0; row = row.0; is_row = row.1; later = o.1; at = o.2 }

    pub awaited_are : (after : List Instruction) (old new : List Bool) (w : IsNewsWritten dealt latest heard a l before after old new) → AreAwaited p order dealt before a l w.written
    awaited_are after old new w =
        record {
          ascending = w.ascending;
          those = λ x. ((λ c. let n = (w.those x).0 c in (n.0, counts_of x n.0 n.1)), (λ q. (w.those x).1 (q.0, news_of x q.0 q.1)));
        }

  -- what is awaited so far changes by no `Run`
  heard_run : (before : List Instruction) (heard : List ℕ) → AreHeard lanes dealt before heard → AreHeard lanes dealt (before ++ Run a ∷ []) heard
  heard_run before heard h =
      record {
        many = h.many;
        each = λ m m_in. let o = h.each m m_in in record {
          is = λ q. let w = o.is q in (w.0, w.1, Contains-append_left before (Run a ∷ []) (Await w.0) w.2);
          last = λ i x d c. ⊎_elim (λ k. o.last i x d k) (λ e. absurd (run_await a x e)) (Contains-push_cases before (Run a) (Await x) c);
        };
      }

  -- one draft got what its action awaits and its run
  module _ (latest heard new_heard : List (Vec ℕ)) (drafts new : List (Vec Instruction)) (old_told told : List Bool)
      (latest_are : AreLatest p lanes dealt at latest) (are : AreDrafts p order dealt lanes (take at dealt) drafts old_told)
      (row : Vec ℕ) (is_row : slice_get heard l ≡ Some row) (draft : Vec Instruction) (is_draft : slice_get drafts l ≡ Some draft)
      (row_is : AreHeard lanes dealt draft.items row.items)
      (awaited : List Instruction) (written : IsNewsWritten dealt latest row.items a l draft.items awaited old_told told)
      (drafted : IsChangedAt (Vec Instruction) (λ x y. y.items ≡ awaited ++ Run a ∷ []) l drafts new) where
    abbrev added : List Instruction
    added = map Await written.written ++ Run a ∷ []

    new_is : (y : Vec Instruction) → slice_get new l ≡ Some y → y.items ≡ draft.items ++ added
    new_is y e = drafted.here draft y is_draft e ∙ ap (λ v. v ++ Run a ∷ []) written.after_is ∙ append_assoc draft.items (map Await written.written) (Run a ∷ [])

    await_is : (x y : ℕ) → Await x ≡ Await y → x ≡ y
    await_is x y e = cc

    added_cases : (b : ℕ) → Contains added (Await b) → Contains written.written b
    added_cases b c =
        ⊎_elim
        (λ k. let w = of_awaits written.written (Await b) k in subst (λ v. Contains written.written v) (await_is w.0 b (sym w.1)) w.2)
        (λ k. absurd (⊎_elim (λ e. run_await a b e) (λ q. none_in (Await b) q) (cons_cases (Run a) (Await b) [] k)))
        (Contains-append_cases (map Await written.written) (Run a ∷ []) (Await b) c)

    acts_here : on_lane (take (at + 1) dealt) l ≡ on_lane (take at dealt) l ++ a ∷ []
    acts_here = ap (λ v. on_lane v l) (take_push dealt at (a, l) is) ∙ on_here (take at dealt) a l

    acts_other : (m : ℕ) → m ≢ l → on_lane (take (at + 1) dealt) m ≡ on_lane (take at dealt) m
    acts_other m n = ap (λ v. on_lane v m) (take_push dealt at (a, l) is) ∙ on_other (take at dealt) a l m n

    pub drafts_more : AreDrafts p order dealt lanes (take (at + 1) dealt) new told
    drafts_more =
        record {
          many = drafted.many ∙ are.many;
          each = λ m d e. ⊎_elim
              (λ q. subst (λ v. Drafts p order dealt v [] (on_lane (take (at + 1) dealt) v) d.items) (sym q) (each_here d (subst (λ v. slice_get new v ≡ Some d) q e)))
              (λ n. subst (λ v. Drafts p order dealt m [] v d.items) (sym (acts_other m n)) (are.each m d (sym (drafted.others m n) ∙ e)))
              (cases_eq m l);
          many_told = written.many ∙ are.many_told;
          told_is = λ b b_in. (told_to b b_in, told_from b b_in);
        }
      where
        each_here : (d : Vec Instruction) → slice_get new l ≡ Some d → Drafts p order dealt l [] (on_lane (take (at + 1) dealt) l) d.items
        each_here d e =
            subst (λ v. Drafts p order dealt l [] v d.items) (sym acts_here)
            (subst (λ v. Drafts p order dealt l [] (on_lane (take at dealt) l ++ a ∷ []) v) (sym (new_is d e))
            (draft_more p order dealt l [] draft.items (on_lane (take at dealt) l) a written.written (are.each l draft is_draft)
            (awaited_are latest latest_are row.items draft.items row_is awaited old_told told written)))

        new_at : (y : Vec Instruction) × (slice_get new l ≡ Some y)
        new_at = let n = drafted.many in let m = are.many in let low = lane_below in get_some new l (omega (arith, n, m, low))

        told_to : (b : ℕ) → b < length p.groups → get_or told b false ≡ true → (m : ℕ) × (d : Vec Instruction) × (slice_get new m ≡ Some d) × Contains d.items (Await b)
        told_to b b_in t =
            let many = are.many_told in
            ⊎_elim
            (λ o. let q = (are.told_is b b_in).0 o in
            ⊎_elim
            (λ e. let same : q.1 ≡ draft = some_one q.1 draft (sym q.2 ∙ ap (λ v. slice_get drafts v) e ∙ is_draft) in (
              l,
              new_at.0,
              new_at.1,
              subst (λ v. Contains v (Await b)) (sym (new_is new_at.0 new_at.1))
                  (Contains-append_left draft.items added (Await b) (subst (λ (v : Vec Instruction). Contains v.items (Await b)) same q.3)),
            ))
            (λ n. (q.0, q.1, drafted.others q.0 n ∙ q.2, q.3))
            (cases_eq q.0 l))
            (λ c. (
              l,
              new_at.0,
              new_at.1,
              subst (λ v. Contains v (Await b)) (sym (new_is new_at.0 new_at.1))
                  (Contains-append_right draft.items added (Await b) (Contains-append_left (map Await written.written) (Run a ∷ []) (Await b) (to_awaits written.written b c))),
            ))
            ((written.marked b (omega (arith, b_in, many))).0 t)

        told_from : (b : ℕ) → b < length p.groups → (m : ℕ) × (d : Vec Instruction) × (slice_get new m ≡ Some d) × Contains d.items (Await b) → get_or told b false ≡ true
        told_from b b_in q =
            let many = are.many_told in
            (written.marked b (omega (arith, b_in, many))).1
            (⊎_elim
            (λ e. ⊎_elim (λ c. inl ((are.told_is b b_in).1 (l, draft, is_draft, c))) (λ c. inr (added_cases b c))
            (Contains-append_cases draft.items added (Await b) (subst (λ v. Contains v (Await b)) (new_is q.1 (subst (λ v. slice_get new v ≡ Some q.1) e q.2)) q.3)))
            (λ n. inl ((are.told_is b b_in).1 (q.0, q.1, sym (drafted.others q.0 n) ∙ q.2, q.3)))
            (cases_eq q.0 l))

    pub heard_more : ((m : ℕ) (r : Vec ℕ) (d : Vec Instruction) → slice_get heard m ≡ Some r → slice_get drafts m ≡ Some d → AreHeard lanes dealt d.items r.items)
        → IsChangedAt (Vec ℕ) (λ x y. AreHeard lanes dealt awaited y.items) l heard new_heard
        → (m : ℕ) (r : Vec ℕ) (d : Vec Instruction) → slice_get new_heard m ≡ Some r → slice_get new m ≡ Some d → AreHeard lanes dealt d.items r.items
    heard_more old changed m r d e g =
        ⊎_elim
        (λ q. let e' : slice_get new_heard l ≡ Some r = subst (λ v. slice_get new_heard v ≡ Some r) q e in
        let g' : slice_get new l ≡ Some d = subst (λ v. slice_get new v ≡ Some d) q g in
        subst (λ v. AreHeard lanes dealt v r.items) (sym (drafted.here draft d is_draft g')) (heard_run awaited r.items (changed.here row r is_row e')))
        (λ n. old m r d (sym (changed.others m n) ∙ e) (sym (drafted.others m n) ∙ g))
        (cases_eq m l)

-- where an action was dealt that an action of the given place needs
pub have_places : (p : Entries) (lanes : ℕ) (dealt : Dealt) (at a : ℕ) (latest : List (Vec ℕ)) → at ≤ length dealt → a < length p.groups → AreLatest p lanes dealt at latest → HavePlaces dealt latest a
have_places p lanes dealt at a latest at_in a_in are =
    record {
      wide = λ m row e. let w = (are.each m row e).0 in omega (arith, a_in, w);
      within = λ m row e. let w = ((are.each m row e).1 a a_in).within in omega (arith, w, at_in);
      is = λ m row e pos. let w = ((are.each m row e).1 a a_in).is pos in (w.0, w.1);
    }

-- ---- one draft more

module _ (s : Scenario) (p : Entries) (plan : IsPlanOf s p) (clash : WholeHasNoClash) (those : MembersAreThose) (whole : PlanGroupsAreWhole)
    (lanes : ℕ) (dealt : Dealt) (at : ℕ) (latest heard : List (Vec ℕ)) (drafts : List (Vec Instruction)) (old_told : List Bool)
    (d : IsDrafting p lanes dealt at latest heard drafts old_told) (a l : ℕ) (is : slice_get dealt at ≡ Some (a, l)) where
  abbrev known : Facts p lanes d.order d.serial dealt
  known = facts s p plan clash those whole lanes d.order d.serial dealt d.deals

  pub lane_in : l < lanes
  lane_in = lane_below p lanes d.order d.serial dealt known a l at is

  pub a_in : a < length p.groups
  a_in = act_in p lanes d.order d.serial dealt known a l at is

  pub once_told : AreOnce dealt (length old_told)
  once_told = subst (λ k. AreOnce dealt k) (sym d.are.many_told) (once p lanes d.order d.serial dealt known)

  pub drafting_on : (row : Vec ℕ) → slice_get heard l ≡ Some row → (draft : Vec Instruction) → slice_get drafts l ≡ Some draft → (awaited : Vec Instruction) (told : List Bool)
      → IsNewsWritten dealt latest row.items a l draft.items awaited.items old_told told → (new_row : Vec ℕ) → AreHeard lanes dealt awaited.items new_row.items
      → (new_latest : List (Vec ℕ)) (new : List (Vec Instruction)) → IsChangedAt (Vec ℕ) (λ x y. AreStampedByPlan p a (at + 1) x.items y.items) l latest new_latest
      → IsChangedAt (Vec Instruction) (λ x y. y.items ≡ x.items ++ Run a ∷ []) l (set drafts l awaited) new
      → IsDrafting p lanes dealt (at + 1) new_latest (set heard l new_row) new told
  drafting_on row is_row draft is_draft awaited told written new_row new_row_is new_latest new stamped drafted =
      record {
        order = d.order;
        serial = d.serial;
        deals = d.deals;
        are = drafts_more p lanes d.order d.serial dealt known a l at is latest heard (set heard l new_row) drafts new old_told told d.latest_are d.are row is_row draft is_draft row_is awaited.items written changed;
        latest_are = latest_more p lanes d.order d.serial dealt known a l at is latest new_latest d.latest_are stamped;
        many_heard = length-set heard l new_row ∙ d.many_heard;
        heard_are = heard_more p lanes d.order d.serial dealt known a l at is latest heard (set heard l new_row) drafts new old_told told d.latest_are d.are row is_row draft is_draft row_is awaited.items written changed d.heard_are
            (changed_at (λ (x y : Vec ℕ). AreHeard lanes dealt awaited.items y.items) heard l row new_row (let h = d.many_heard in let low = lane_in in omega (arith, h, low)) is_row new_row_is);
      }
    where
      row_is : AreHeard lanes dealt draft.items row.items
      row_is = d.heard_are l row draft is_row is_draft

      draft_in : l < length drafts
      draft_in = let h = d.are.many in let low = lane_in in omega (arith, h, low)

      changed : IsChangedAt (Vec Instruction) (λ x y. y.items ≡ awaited.items ++ Run a ∷ []) l drafts new
      changed =
          changed_again (λ (x y : Vec Instruction). y ≡ awaited) (λ (x y : Vec Instruction). y.items ≡ x.items ++ Run a ∷ []) (λ (x y : Vec Instruction). y.items ≡ awaited.items ++ Run a ∷ []) l drafts (set drafts l awaited) new
          (let n = length-set drafts l awaited in let low = draft_in in omega (arith, n, low))
          (λ x y z e f. f ∙ ap (λ (v : Vec Instruction). v.items ++ Run a ∷ []) e)
          (changed_at (λ (x y : Vec Instruction). y ≡ awaited) drafts l draft awaited draft_in is_draft refl) drafted

-- ---- before the first

pub drafting_first : (p : Entries) (lanes : ℕ) (dealt : Dealt) (order : List ℕ) → IsSerial p order → Deals p lanes [] order dealt → (latest heard : List (Vec ℕ)) (drafts : List (Vec Instruction)) (told : List Bool)
    → AreTables lanes (length p.groups) latest → AreTables lanes lanes heard → AreEmpty lanes drafts → told ≡ replicate (length p.groups) false → IsDrafting p lanes dealt 0 latest heard drafts told
drafting_first p lanes dealt order serial deals latest heard drafts told tables rows empty none =
    record {
      order = order;
      serial = serial;
      deals = deals;
      are = record {
        many = empty.many;
        each = λ l d e. subst (λ v. Drafts p order dealt l [] [] v) (sym (empty.empty l d e)) (Drafted []);
        many_told = ap (λ (v : List Bool). length v) none ∙ length-replicate (length p.groups) false;
        told_is = λ a l. (
          λ t. absurd (no_both t (ap (λ v. get_or v a false) none ∙ get_or-replicate (length p.groups) a false false l)),
          λ q. absurd (none_in (Await a) (subst (λ v. Contains v (Await a)) (empty.empty q.0 q.1 q.2) q.3)),
        );
      };
      latest_are = record {
        many = tables.many;
        each = λ m row e. (
          ap (λ (v : List ℕ). length v) (tables.zeros m row e) ∙ length-replicate (length p.groups) 0,
          λ a l. subst (λ v. IsLatest p dealt 0 m a v) (sym (ap (λ v. get_or v a 0) (tables.zeros m row e) ∙ get_or-replicate (length p.groups) a 0 0 l)) (none_latest m a),
        );
      };
      many_heard = rows.many;
      heard_are = λ l row d e f. record {
        many = ap (λ (v : List ℕ). length v) (rows.zeros l row e) ∙ length-replicate lanes 0;
        each = λ m h. subst (λ v. IsHeard dealt d.items m v) (sym (ap (λ v. get_or v m 0) (rows.zeros l row e) ∙ get_or-replicate lanes m 0 0 h))
            (record { is = λ o. absurd (omega (arith, o)); last = λ i x b c. absurd (none_in (Await x) (subst (λ v. Contains v (Await x)) (empty.empty l d f) c)) });
      };
    }
  where
    none_latest : (m a : ℕ) → IsLatest p dealt 0 m a 0
    none_latest m a = record { within = omega arith; is = λ o. absurd (omega (arith, o)); last = λ i x b e q. let f = e.1 in omega (arith, b, f) }

-- ---- behind the last

pub drafted_all : (p : Entries) (lanes : ℕ) (dealt : Dealt) (at : ℕ) (latest heard : List (Vec ℕ)) (drafts : List (Vec Instruction)) (told : List Bool) → length dealt ≤ at
    → IsDrafting p lanes dealt at latest heard drafts told → IsDrafted p lanes dealt drafts told
drafted_all p lanes dealt at latest heard drafts told past d =
    record { order = d.order; serial = d.serial; deals = d.deals; are = subst (λ v. AreDrafts p d.order dealt lanes v drafts told) (take_all at dealt past) d.are }

-- ---- programs one after another

pub program_before : (programs : List Program) (program : Program) (m : ℕ) → m < length programs → program_at (programs ++ program ∷ []) m ≡ program_at programs m
program_before [] program m l = absurd (omega (arith, l))
program_before (x ∷ programs) program zero l = refl
program_before (x ∷ programs) program (suc m) l = program_before programs program m (omega (arith, l))

pub program_last : (programs : List Program) (program : Program) (m : ℕ) → m ≡ length programs → program_at (programs ++ program ∷ []) m ≡ program.steps
program_last programs program m e = ap (λ v. program_at (programs ++ program ∷ []) v) e ∙ at_last programs
  where
    at_last : (programs : List Program) → program_at (programs ++ program ∷ []) (length programs) ≡ program.steps
    at_last [] = refl
    at_last (x ∷ programs) = at_last programs
