-- Uses in order, run by run.
use Rattle.std.proofs.Common.{◌≡◌, ◌⊎◌, inl, inr, ⊎_elim, ◌<◌, ◌≤◌, ◌+◌, ◌-◌, ◌*◌, ℕ, zero, suc, List, Bool, true, false, cond, length, get_or, slice_get, Some, refl, sym, ap, subst, ◌∙◌, arith}
use Rattle.std.specs.List.Sorted.{IsPermutation}
use Rattle.std.proofs.lemmas.Bool.{cases_lt}
use Rattle.std.proofs.lemmas.List.Sorted.{Contains-permutation, IsPermutation-sym}
use Rattle.std.proofs.lemmas.List.Elements.{Contains-get_or}
use Rattle.std.proofs.lemmas.Option.{slice_get_within, slice_get-get_or, get_or_from_slice_get, slice_get_read}
use Rattle.std.specs.List.{Contains}
use Rattle.pst_scen.specs.declared.rows.Rows.{Rows}
use Rattle.pst_square.specs.Marks.{IsMarked, IsWithMarked}
use Rattle.pst_square.specs.Squares.{Adds}
use Rattle.pst_square.proofs.Adding.{adds_as}
use Rattle.pst_graph.specs.declared.uses.Use.{Use}
use Rattle.pst_graph.specs.Uses.{IsApartFromAny, IsApartAt, AreApartIn}
use Rattle.pst_graph.specs.Runs.{no_use, use_at, AreTogether, rank_in_pool, Precedes, Ascend, IsRun, AreBefore, IsActOf, MarksRun}
use Rattle.pst_graph.proofs.UsesApart.{apart_at}

-- ORDER

less_on : (a b c : ℕ) → a < b → b < c → a < c
less_on a b c one two = omega (arith, one, two)

pub together_back : (u v : Use) → AreTogether u v → AreTogether v u
together_back u v t = record { state = sym t.state; pool = sym t.pool; instance = sym t.instance }

pub together_on : (u v w : Use) → AreTogether u v → AreTogether v w → AreTogether u w
together_on u v w s t = record { state = s.state ∙ t.state; pool = s.pool ∙ t.pool; instance = s.instance ∙ t.instance }

same_rank : (u v : Use) → AreTogether u v → rank_in_pool u ≡ rank_in_pool v
same_rank u v t = ap (λ (n : ℕ). n * 2 + cond u.state 1 0) t.instance ∙ ap (λ (b : Bool). v.instance * 2 + cond b 1 0) t.state

precedes_before : (u v w : Use) → AreTogether u v → Precedes v w → Precedes u w
precedes_before u v w t (inl less) = inl (subst (λ (n : ℕ). n < w.pool) (sym t.pool) less)
precedes_before u v w t (inr h) = inr (t.pool ∙ h.0, subst (λ (n : ℕ). n < rank_in_pool w) (sym (same_rank u v t)) h.1)

precedes_behind : (u v w : Use) → Precedes u v → AreTogether v w → Precedes u w
precedes_behind u v w (inl less) t = inl (subst (λ (n : ℕ). u.pool < n) t.pool less)
precedes_behind u v w (inr h) t = inr (h.0 ∙ t.pool, subst (λ (n : ℕ). rank_in_pool u < n) (same_rank v w t) h.1)

precedes_on : (u v w : Use) → Precedes u v → Precedes v w → Precedes u w
precedes_on u v w (inl one) (inl two) = inl (less_on u.pool v.pool w.pool one two)
precedes_on u v w (inl one) (inr k) = inl (subst (λ (n : ℕ). u.pool < n) k.0 one)
precedes_on u v w (inr h) (inl two) = inl (subst (λ (n : ℕ). n < w.pool) (sym h.0) two)
precedes_on u v w (inr h) (inr k) = inr (h.0 ∙ k.0, less_on (rank_in_pool u) (rank_in_pool v) (rank_in_pool w) h.1 k.1)

not_less : (a : ℕ) → a < a → ⊥
not_less a less = omega (arith, less)

not_together : (u v : Use) → Precedes u v → AreTogether u v → ⊥
not_together u v (inl less) t = not_less v.pool (subst (λ (n : ℕ). n < v.pool) t.pool less)
not_together u v (inr h) t = not_less (rank_in_pool v) (subst (λ (n : ℕ). n < rank_in_pool v) (same_rank u v t) h.1)

-- RUNS

module _ (uses : List Use) (ascend : Ascend uses) (from : ℕ) where
  next : (k : ℕ) → k + 1 < length uses → Precedes (use_at uses from) (use_at uses k) → Precedes (use_at uses from) (use_at uses (k + 1))
  next k within before =
      ⊎_elim (λ t. precedes_behind (use_at uses from) (use_at uses k) (use_at uses (k + 1)) before t)
      (λ p. precedes_on (use_at uses from) (use_at uses k) (use_at uses (k + 1)) before p) (ascend k within)

  on_from : (to j : ℕ) → to ≤ j → j < length uses → Precedes (use_at uses from) (use_at uses to) → Precedes (use_at uses from) (use_at uses j)
  on_from to zero low within before = let same : to ≡ zero = omega (arith, low) in subst (λ (k : ℕ). Precedes (use_at uses from) (use_at uses k)) same before
  on_from to (suc j) low within before = go (λ less. on_from to j less (omega (arith, within)) before) (cases_lt to (suc j))
    where
      go : (to ≤ j → Precedes (use_at uses from) (use_at uses j)) → (to < suc j) ⊎ (suc j ≤ to) → Precedes (use_at uses from) (use_at uses (suc j))
      go rest (inl less) =
          let one : j + 1 ≡ suc j = omega arith in
          subst (λ (k : ℕ). Precedes (use_at uses from) (use_at uses k)) one (next j (omega (arith, within)) (rest (omega (arith, less))))
      go rest (inr more) = let same : to ≡ suc j = omega (arith, low, more) in subst (λ (k : ℕ). Precedes (use_at uses from) (use_at uses k)) same before

  module _ (to : ℕ) (more : from < to) (within : to ≤ length uses) (same : (i : ℕ) → from ≤ i → i < to → AreTogether (use_at uses from) (use_at uses i)) (stop : to < length uses → AreTogether (use_at uses from) (use_at uses to) → ⊥) (before : AreBefore uses from) where
    -- what stands behind a run
    behind : (j : ℕ) → to ≤ j → j < length uses → Precedes (use_at uses from) (use_at uses j)
    behind j low j_in = on_from to j low j_in first
      where
        to_in : to < length uses
        to_in = omega (arith, low, j_in)

        last : (to - 1) + 1 ≡ to
        last = omega (arith, more)

        here : AreTogether (use_at uses from) (use_at uses (to - 1))
        here = same (to - 1) (omega (arith, more)) (omega (arith, more))

        first : Precedes (use_at uses from) (use_at uses to)
        first =
            subst (λ (k : ℕ). Precedes (use_at uses from) (use_at uses k)) last
            (⊎_elim
            (λ t. absurd (stop to_in (subst (λ (k : ℕ). AreTogether (use_at uses from) (use_at uses k)) last (together_on (use_at uses from) (use_at uses (to - 1)) (use_at uses ((to - 1) + 1)) here t))))
            (λ p. precedes_before (use_at uses from) (use_at uses (to - 1)) (use_at uses ((to - 1) + 1)) here p)
            (ascend (to - 1) (omega (arith, more, to_in))))

    pub run_is : IsRun uses from to
    run_is = record { within = within; same = same; all = λ j j_in t. (low j j_in t (cases_lt j from), high j j_in t (cases_lt j to)) }
      where
        low : (j : ℕ) → j < length uses → AreTogether (use_at uses from) (use_at uses j) → (j < from) ⊎ (from ≤ j) → from ≤ j
        low j j_in t (inr up) = up
        low j j_in t (inl less) =
            absurd (not_together (use_at uses j) (use_at uses from) (before j from less (omega arith) (omega (arith, more, within))) (together_back (use_at uses from) (use_at uses j) t))

        high : (j : ℕ) → j < length uses → AreTogether (use_at uses from) (use_at uses j) → (j < to) ⊎ (to ≤ j) → j < to
        high j j_in t (inl less) = less
        high j j_in t (inr up) = absurd (not_together (use_at uses from) (use_at uses j) (behind j up j_in) t)

    pub before_next : AreBefore uses to
    before_next i j i_in low j_in =
        ⊎_elim (λ less. before i j less (omega (arith, more, low)) j_in)
        (λ up. precedes_before (use_at uses i) (use_at uses from) (use_at uses j) (together_back (use_at uses from) (use_at uses i) (same i up i_in)) (behind j low j_in)) (cases_lt i from)

pub before_none : (uses : List Use) → AreBefore uses 0
before_none uses i j below = absurd (omega (arith, below))

-- one use more of a run
pub same_more : (uses : List Use) (from to : ℕ) → ((i : ℕ) → from ≤ i → i < to → AreTogether (use_at uses from) (use_at uses i)) → AreTogether (use_at uses from) (use_at uses to)
    → (i : ℕ) → from ≤ i → i < to + 1 → AreTogether (use_at uses from) (use_at uses i)
same_more uses from to before here i low below =
    ⊎_elim (λ less. before i low less) (λ more. let same : to ≡ i = omega (arith, more, below) in subst (λ (k : ℕ). AreTogether (use_at uses from) (use_at uses k)) same here) (cases_lt i to)

pub same_first : (uses : List Use) (from i : ℕ) → from ≤ i → i < from + 1 → AreTogether (use_at uses from) (use_at uses i)
same_first uses from i low below = let same : from ≡ i = omega (arith, low, below) in subst (λ (k : ℕ). AreTogether (use_at uses from) (use_at uses k)) same (record { state = refl; pool = refl; instance = refl })

-- MARKS

pub marks_none : (uses : List Use) (from : ℕ) (lone : Bool) (marks : List ℕ) → ((d : ℕ) → IsMarked marks d → ⊥) → MarksRun marks uses from from lone
marks_none uses from lone marks none d = (λ m. absurd (none d m), λ h. let low = h.low in let high = h.high in absurd (omega (arith, low, high)))

module _ (uses : List Use) (from i : ℕ) (lone : Bool) (low : from ≤ i) where
  longer : (d : ℕ) → IsActOf uses from i lone d → IsActOf uses from (i + 1) lone d
  longer d h = let high = h.high in record { place = h.place; low = h.low; high = omega (arith, high); of_act = h.of_act; counts = h.counts }

  shorter : (d : ℕ) → IsActOf uses from (i + 1) lone d → IsActOf uses from i lone d ⊎ (((use_at uses i).act ≡ d) × ((lone ≡ false) ⊎ ((use_at uses i).alone ≡ true)))
  shorter d h =
      ⊎_elim (λ less. inl (record { place = h.place; low = h.low; high = less; of_act = h.of_act; counts = h.counts }))
      (λ more.
      let high = h.high in
      let same : h.place ≡ i = omega (arith, more, high) in
      inr (subst (λ (k : ℕ). (use_at uses k).act ≡ d) same h.of_act, subst (λ (k : ℕ). (lone ≡ false) ⊎ ((use_at uses k).alone ≡ true)) same h.counts)) (cases_lt h.place i)

  pub marked_more : (old new : List ℕ) → MarksRun old uses from i lone → (lone ≡ false) ⊎ ((use_at uses i).alone ≡ true) → ((d : ℕ) → (IsMarked new d → IsMarked old d ⊎ (d ≡ (use_at uses i).act)) × (IsMarked old d ⊎ (d ≡ (use_at uses i).act) → IsMarked new d))
      → MarksRun new uses from (i + 1) lone
  marked_more old new before counts are d = (
    λ m. ⊎_elim (λ had. longer d ((before d).0 had)) (λ same. record { place = i; low = low; high = omega arith; of_act = sym same; counts = counts }) ((are d).0 m),
    λ h. (are d).1 (⊎_elim (λ had. inl ((before d).1 had)) (λ k. inr (sym k.0)) (shorter d h)),
  )

  pub marked_same : (marks : List ℕ) → MarksRun marks uses from i lone → ((lone ≡ false) ⊎ ((use_at uses i).alone ≡ true) → ⊥) → MarksRun marks uses from (i + 1) lone
  marked_same marks before not d = (λ m. longer d ((before d).0 m), λ h. (before d).1 (⊎_elim (λ had. had) (λ k. absurd (not k.1)) (shorter d h)))

-- PAIRS

-- which set a use's action is paired with
abbrev pub IsSetFor : Bool → Bool → Type 0
IsSetFor alone lone = ((lone ≡ false) × (alone ≡ true)) ⊎ ((lone ≡ true) × (alone ≡ false))

pub use_added : (first last : Rows) (uses : List Use) (from to i : ℕ) (lone : Bool) (marks : List ℕ) → IsRun uses from to → from ≤ i → i < to → MarksRun marks uses from to lone → IsSetFor (use_at uses i).alone lone
    → Adds first last (IsWithMarked marks (use_at uses i).act) → Adds first last (IsApartAt uses i)
use_added first last uses from to i lone marks run low high are set added =
    apart_at first last uses i (use_at uses i) (slice_get-get_or uses i no_use i_in)
    (adds_as first last (IsWithMarked marks (use_at uses i).act) (IsApartFromAny (use_at uses i) uses) added (λ c d c_in d_in h. forth c d h) (λ c d c_in d_in h. back c d h))
  where
    i_in : i < length uses
    i_in = let within = run.within in omega (arith, high, within)

    own : AreTogether (use_at uses i) (use_at uses from)
    own = together_back (use_at uses from) (use_at uses i) (run.same i low high)

    excludes : (j : ℕ) → (lone ≡ false) ⊎ ((use_at uses j).alone ≡ true) → ((use_at uses i).alone ≡ true) ⊎ ((use_at uses j).alone ≡ true)
    excludes j counts =
        ⊎_elim (λ k. inl k.1) (λ k. ⊎_elim (λ none. absurd (let wrong : true ≡ false = sym k.0 ∙ none in cc)) (λ alone. inr alone) counts) set

    forth : (c d : ℕ) → IsWithMarked marks (use_at uses i).act c d → IsApartFromAny (use_at uses i) uses c d
    forth c d h =
        let m = (are d).0 h.marked in
        let j_high = m.high in
        let within = run.within in
        let j_in : m.place < length uses = omega (arith, j_high, within) in
        let t = together_on (use_at uses i) (use_at uses from) (use_at uses m.place) own (run.same m.place m.low m.high) in
        record {
          place = m.place;
          at = record {
            other = use_at uses m.place;
            is = slice_get-get_or uses m.place no_use j_in;
            apart = record {
              first = h.first;
              second = sym m.of_act;
              different = λ same. h.different (sym same ∙ h.first);
              exclusive = record { state = t.state; pool = t.pool; instance = t.instance; alone = excludes m.place m.counts };
            };
          };
        }

    counted : (j : ℕ) → ((use_at uses i).alone ≡ true) ⊎ ((use_at uses j).alone ≡ true) → (lone ≡ false) ⊎ ((use_at uses j).alone ≡ true)
    counted j alone =
        ⊎_elim (λ k. inl k.0) (λ k. ⊎_elim (λ is. absurd (let wrong : true ≡ false = sym is ∙ k.1 in cc)) (λ is. inr is) alone) set

    back : (c d : ℕ) → IsApartFromAny (use_at uses i) uses c d → IsWithMarked marks (use_at uses i).act c d
    back c d h =
        let j = h.place in
        let apart = h.at.apart in
        let j_in = slice_get_within uses j h.at.other h.at.is in
        let is : h.at.other ≡ use_at uses j = sym (get_or_from_slice_get uses j h.at.other no_use h.at.is) in
        let t : AreTogether (use_at uses i) (use_at uses j) =
        subst (λ (v : Use). AreTogether (use_at uses i) v) is (record { state = apart.exclusive.state; pool = apart.exclusive.pool; instance = apart.exclusive.instance }) in
        let place = run.all j j_in (together_on (use_at uses from) (use_at uses i) (use_at uses j) (run.same i low high) t) in
        let alone = subst (λ (v : Use). ((use_at uses i).alone ≡ true) ⊎ (v.alone ≡ true)) is apart.exclusive.alone in
        record {
          first = apart.first;
          different = λ same. apart.different (apart.first ∙ sym same);
          marked = (are d).1 (record { place = j; low = place.0; high = place.1; of_act = ap (λ (v : Use). v.act) (sym is) ∙ sym apart.second; counts = counted j alone });
        }

-- OTHER ORDERS OF A LIST

moved : (xs ys : List Use) → IsPermutation xs ys → (i : ℕ) (u : Use) → slice_get xs i ≡ Some u → (j : ℕ) × (slice_get ys j ≡ Some u)
moved xs ys permuted i u is =
    let within = slice_get_within xs i u is in
    let same : get_or xs i u ≡ u = get_or_from_slice_get xs i u u is in
    let there : Contains ys u = Contains-permutation xs ys u permuted (subst (λ (v : Use). Contains xs v) same (Contains-get_or xs i u within)) in
    (there.0, slice_get_read ys (length ys) there.0 u refl there.1 (sym there.2))

apart_moved : (xs ys : List Use) → IsPermutation xs ys → (c d : ℕ) → AreApartIn xs c d → AreApartIn ys c d
apart_moved xs ys permuted c d h =
    let one = moved xs ys permuted h.place h.at.one h.at.is in
    let any = h.at.apart in
    let other = moved xs ys permuted any.place any.at.other any.at.is in
    record { place = one.0; at = record { one = h.at.one; is = one.1; apart = record { place = other.0; at = record { other = any.at.other; is = other.1; apart = any.at.apart } } } }

module _ (xs ys now : List Use) (permuted : IsPermutation xs ys) (is_now : now ≡ ys) where
  back_again : IsPermutation ys xs
  back_again = IsPermutation-sym xs ys permuted

  pub inside_moved : (size : ℕ) → ((j : ℕ) (v : Use) → slice_get xs j ≡ Some v → v.act < size) → (j : ℕ) (v : Use) → slice_get now j ≡ Some v → v.act < size
  inside_moved size inside j v is =
      let at = moved ys xs back_again j v (subst (λ (uses : List Use). slice_get uses j ≡ Some v) is_now is) in
      inside at.0 v at.1

  pub conflicts_moved : (first last : Rows) → Adds first last (AreApartIn now) → Adds first last (AreApartIn xs)
  conflicts_moved first last added =
      adds_as first last (AreApartIn ys) (AreApartIn xs) (subst (λ (uses : List Use). Adds first last (AreApartIn uses)) is_now added)
      (λ c d c_in d_in h. apart_moved ys xs back_again c d h) (λ c d c_in d_in h. apart_moved xs ys permuted c d h)
