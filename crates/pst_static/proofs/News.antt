-- What an action awaits is written one by one, the least first.
use Rattle.std.proofs.Common.{◌≡◌, ◌≢◌, ◌⊎◌, ℕ, zero, suc, ◌+◌, ◌-◌, ◌<◌, ◌≤◌, List, [], ◌∷◌, ◌++◌, length, get_or, map, set, slice_get, Some, Bool, true, false, refl, sym, ap, ◌∙◌, subst, inl, inr, ⊎_elim, arith, append_assoc}
use Rattle.std.specs.Prelude.{◌↔◌, Option, None, Contains, sum_by}
use Rattle.std.specs.Global.{Vec}
use Rattle.std.proofs.lemmas.List.{get_or-set_same, get_or-set_other, length-set}
use Rattle.std.proofs.lemmas.List.Sums.{sum_by-set}
use Rattle.std.proofs.lemmas.List.Elements.{Contains-append_left, Contains-push, Contains-push_cases}
use Rattle.std.proofs.lemmas.Bool.{cases_eq, cases_order}
use Rattle.pst_book.proofs.Elements.{none_in}
use Rattle.pst_book.proofs.Lists.{Ascending, ascending_push}
use Rattle.pst_programs.specs.declared.program.Instruction.{Instruction}
use Rattle.pst_programs.specs.declared.program.Instruction.TheVariants.{Await}
use Rattle.pst_programs.specs.Lanes.{Dealt}
use Rattle.pst_programs.proofs.Places.{some_one}
use Rattle.pst_programs.proofs.Written.{of_get}
use Rattle.pst_static.specs.Awaiting.{IsDealtAt, IsHeard, AreHeard, HavePlaces, IsNews, IsFirstNews, IsLeastOf, IsNewsWritten}

map_push : (xs : List ℕ) (x : ℕ) → map Await (xs ++ x ∷ []) ≡ map Await xs ++ Await x ∷ []
map_push [] x = refl
map_push (y ∷ xs) x = ap (λ v. Await y ∷ v) (map_push xs x)

-- what was written and marked so far, of what is news at first
pub record Turn (dealt : Dealt) (latest : List (Vec ℕ)) (first : List ℕ) (a l : ℕ) (before now : List Instruction) (heard : List ℕ) (old told : List Bool) : Type 0 where
  pub written : List ℕ
  pub now_is : now ≡ before ++ map Await written
  pub ascending : Ascending written
  pub from : (x : ℕ) → Contains written x → (m : ℕ) × IsNews dealt latest first a l m x × (IsNews dealt latest heard a l m x → ⊥)
  pub back : (m x : ℕ) → IsNews dealt latest heard a l m x → IsNews dealt latest first a l m x
  pub split : (m x : ℕ) → IsNews dealt latest first a l m x → Contains written x ⊎ (IsNews dealt latest heard a l m x × ((w : ℕ) → Contains written w → w < x))
  pub many : length told ≡ length old
  pub marked : (x : ℕ) → x < length old → (get_or told x false ≡ true) ↔ ((get_or old x false ≡ true) ⊎ Contains written x)

module _ (dealt : Dealt) (latest : List (Vec ℕ)) (first : List ℕ) (a l : ℕ)
    (only : (x m o : ℕ) → Contains dealt (x, m) → Contains dealt (x, o) → m ≡ o) where
  contains_at : (place x m : ℕ) → IsDealtAt dealt place x m → Contains dealt (x, m)
  contains_at place x m at = of_get dealt at.0 (x, m) at.2

  same_at : (place x y m o : ℕ) → IsDealtAt dealt place x m → IsDealtAt dealt place y o → x ≡ y
  same_at place x y m o b c =
      let i = b.1 in
      let j = c.1 in
      let e : b.0 ≡ c.0 = omega (arith, i, j) in
      ap (λ (w : ℕ × ℕ). w.0) (some_one (x, m) (y, o) (sym b.2 ∙ ap (λ v. slice_get dealt v) e ∙ c.2))

  pub turn_first : (before : List Instruction) (told : List Bool) → Turn dealt latest first a l before before first told told
  turn_first before told =
      record {
        written = [];
        now_is = sym (append_nil before);
        ascending = λ i j h k. absurd (omega (arith, k));
        from = λ x c. absurd (none_in x c);
        back = λ m x n. n;
        split = λ m x n. inr (n, λ w c. absurd (none_in w c));
        many = refl;
        marked = λ x b. ((λ t. inl t), (λ q. ⊎_elim (λ t. t) (λ c. absurd (none_in x c)) q));
      }
    where
      append_nil : (xs : List Instruction) → xs ++ [] ≡ xs
      append_nil [] = refl
      append_nil (x ∷ xs) = ap (λ v. x ∷ v) (append_nil xs)

  module _ (before now : List Instruction) (heard : List ℕ) (old told : List Bool) (t : Turn dealt latest first a l before now heard old told) where
    -- where nothing is news any more all is written
    pub turn_last : ((m x : ℕ) → IsNews dealt latest heard a l m x → ⊥) → IsNewsWritten dealt latest first a l before now old told
    turn_last none =
        record {
          written = t.written;
          after_is = t.now_is;
          ascending = t.ascending;
          those = λ x. ((λ c. let f = t.from x c in (f.0, f.1)), (λ n. ⊎_elim (λ c. c) (λ r. absurd (none n.0 x r.0)) (t.split n.0 x n.1)));
          many = t.many;
          marked = t.marked;
        }

    module _ (m x : ℕ) (news : IsNews dealt latest heard a l m x) (least : (o y : ℕ) → IsNews dealt latest heard a l o y → x ≤ y) (after : List ℕ)
        (here : get_or after m 0 ≡ get_or news.row.items a 0) (others : (o : ℕ) → o ≢ m → get_or after o 0 ≡ get_or heard o 0) where
      on : Contains dealt (x, m)
      on = contains_at (get_or news.row.items a 0) x m news.at

      -- what is news behind this was news before, on another lane
      still : (o y : ℕ) → IsNews dealt latest after a l o y → (o ≢ m) × IsNews dealt latest heard a l o y
      still o y n =
          let other : o ≢ m = λ e.
          let r : n.row ≡ news.row = some_one n.row news.row (sym n.is_row ∙ ap (λ v. slice_get latest v) e ∙ news.is_row) in
          let v : get_or n.row.items a 0 ≡ get_or news.row.items a 0 = ap (λ (w : Vec ℕ). get_or w.items a 0) r in
          let w : get_or after o 0 ≡ get_or after m 0 = ap (λ i. get_or after i 0) e in
          let h = n.later in
          omega (arith, v, w, h, here) in
          let e = others o other in
          let h = n.later in
          (other, record { other = n.other; row = n.row; is_row = n.is_row; later = omega (arith, e, h); at = n.at })

      stays : (o y : ℕ) → o ≢ m → IsNews dealt latest heard a l o y → IsNews dealt latest after a l o y
      stays o y other n = let e = others o other in let h = n.later in record { other = n.other; row = n.row; is_row = n.is_row; later = omega (arith, e, h); at = n.at }

      -- the action of a lane's latest place is one
      one_there : (y : ℕ) → IsNews dealt latest heard a l m y → y ≡ x
      one_there y n =
          let r : n.row ≡ news.row = some_one n.row news.row (sym n.is_row ∙ news.is_row) in
          let v : get_or n.row.items a 0 ≡ get_or news.row.items a 0 = ap (λ (w : Vec ℕ). get_or w.items a 0) r in
          same_at (get_or news.row.items a 0) y x m m (subst (λ k. IsDealtAt dealt k y m) v n.at) news.at

      not_written : Contains t.written x → ⊥
      not_written c =
          let f = t.from x c in
          let e : f.0 ≡ m = only x f.0 m (contains_at (get_or f.1.row.items a 0) x f.0 f.1.at) on in
          f.2 (subst (λ v. IsNews dealt latest heard a l v x) (sym e) news)

      all_less : (w : ℕ) → Contains t.written w → w < x
      all_less = ⊎_elim (λ c. absurd (not_written c)) (λ r. r.1) (t.split m x (t.back m x news))

      pub turn_more : (new : List Instruction) → new ≡ now ++ Await x ∷ [] → x < length old → Turn dealt latest first a l before new after old (set told x true)
      turn_more new is x_in =
          record {
            written = t.written ++ x ∷ [];
            now_is = is ∙ ap (λ v. v ++ Await x ∷ []) t.now_is ∙ append_assoc before (map Await t.written) (Await x ∷ []) ∙ ap (λ v. before ++ v) (sym (map_push t.written x));
            ascending = ascending_push t.written x t.ascending all_less;
            from = λ y c.
                ⊎_elim (λ k. let f = t.from y k in (f.0, f.1, λ n. f.2 (still f.0 y n).1))
                (λ e. (m, subst (λ v. IsNews dealt latest first a l m v) e (t.back m x news), λ n. (still m y n).0 refl))
                (Contains-push_cases t.written x y c);
            back = λ o y n. t.back o y (still o y n).1;
            split = λ o y n.
                ⊎_elim (λ c. inl (Contains-append_left t.written (x ∷ []) y c))
                (λ r. ⊎_elim
                (λ e. inl (subst (λ v. Contains (t.written ++ x ∷ []) v) (sym (one_there y (subst (λ v. IsNews dealt latest heard a l v y) e r.0))) (Contains-push t.written x)))
                (λ q. inr (
                  stays o y q r.0,
                  λ w c. ⊎_elim (λ k. r.1 w k)
                      (λ e. let le = least o y r.0 in
                      let differ : x ≢ y = λ s. q (only y o m (contains_at (get_or r.0.row.items a 0) y o r.0.at) (subst (λ v. Contains dealt (v, m)) s on)) in
                      ⊎_elim (λ s. absurd (differ s)) (λ s. ⊎_elim (λ u. omega (arith, u, e)) (λ u. absurd (omega (arith, u, le))) s) (cases_order x y))
                      (Contains-push_cases t.written x w c),
                ))
                (cases_eq o m))
                (t.split o y n);
            many = length-set told x true ∙ t.many;
            marked = λ y b. (
              (λ s. ⊎_elim (λ e. inr (subst (λ v. Contains (t.written ++ x ∷ []) v) (sym e) (Contains-push t.written x)))
                  (λ q. ⊎_elim (λ k. inl k) (λ c. inr (Contains-append_left t.written (x ∷ []) y c)) ((t.marked y b).0 (sym (get_or-set_other told x y true false q) ∙ s)))
                  (cases_eq y x)),
              (λ s. ⊎_elim (λ e. subst (λ v. get_or (set told x true) v false ≡ true) (sym e) (get_or-set_same told x true false (let m = t.many in omega (arith, x_in, m))))
                  (λ q. get_or-set_other told x y true false q
                  ∙ (t.marked y b).1 (⊎_elim (λ k. inl k) (λ c. inr (⊎_elim (λ k. k) (λ e. absurd (q (sym e))) (Contains-push_cases t.written x y c))) s))
                  (cases_eq y x)),
            );
          }

-- the places of what is awaited, behind one more await
pub heard_more : (lanes : ℕ) (dealt : Dealt) (now new : List Instruction) (heard after : List ℕ) (m x place : ℕ)
    → ((y o q : ℕ) → Contains dealt (y, o) → Contains dealt (y, q) → o ≡ q)
    → ((one other : ℕ) → IsDealtAt dealt one x m → IsDealtAt dealt other x m → one ≡ other)
    → IsDealtAt dealt place x m → get_or heard m 0 < place → new ≡ now ++ Await x ∷ [] → length after ≡ length heard → get_or after m 0 ≡ place
    → ((o : ℕ) → o ≢ m → get_or after o 0 ≡ get_or heard o 0) → AreHeard lanes dealt now heard → AreHeard lanes dealt new after
heard_more lanes dealt now new heard after m x place only once at less is long here others are =
    record {
      many = long ∙ are.many;
      each = λ o h. subst (λ v. IsHeard dealt v o (get_or after o 0)) (sym is) (⊎_elim (λ e. on_it o h e) (λ n. on_other o h n) (cases_eq o m));
    }
  where
    await_is : (c d : ℕ) → Await c ≡ Await d → c ≡ d
    await_is c d e = cc e

    on_it : (o : ℕ) → o < lanes → o ≡ m → IsHeard dealt (now ++ Await x ∷ []) o (get_or after o 0)
    on_it o h e = subst (λ v. IsHeard dealt (now ++ Await x ∷ []) v (get_or after v 0)) (sym e) (subst (λ v. IsHeard dealt (now ++ Await x ∷ []) m v) (sym here)
        (record {
          is = λ q. (x, at, Contains-push now (Await x));
          last = λ other y b c. ⊎_elim
              (λ k. let w = (are.each m (subst (λ v. v < lanes) e h)).last other y b k in omega (arith, w, less))
              (λ k. let s : x ≡ y = await_is x y k in let w = once place other at (subst (λ v. IsDealtAt dealt other v m) (sym s) b) in omega (arith, w))
              (Contains-push_cases now (Await x) (Await y) c);
        }))

    on_other : (o : ℕ) → o < lanes → o ≢ m → IsHeard dealt (now ++ Await x ∷ []) o (get_or after o 0)
    on_other o h n = subst (λ v. IsHeard dealt (now ++ Await x ∷ []) o v) (sym (others o n))
        (record {
          is = λ q. let w = (are.each o h).is q in (w.0, w.1, Contains-append_left now (Await x ∷ []) (Await w.0) w.2);
          last = λ other y b c. ⊎_elim
              (λ k. (are.each o h).last other y b k)
              (λ k. let s : x ≡ y = await_is x y k in
              absurd (n (only y o m (of_get dealt b.0 (y, o) b.2) (subst (λ v. Contains dealt (v, m)) s (of_get dealt at.0 (x, m) at.2)))))
              (Contains-push_cases now (Await x) (Await y) c);
        })

-- ---- the least that is news

module _ (dealt : Dealt) (latest : List (Vec ℕ)) (heard : List ℕ) (a l : ℕ) where
  -- a lane has one action that is news
  pub one_news : (m x y : ℕ) → IsNews dealt latest heard a l m x → IsNews dealt latest heard a l m y → x ≡ y
  one_news m x y n o =
      let r : n.row ≡ o.row = some_one n.row o.row (sym n.is_row ∙ o.is_row) in
      let v : get_or n.row.items a 0 ≡ get_or o.row.items a 0 = ap (λ (w : Vec ℕ). get_or w.items a 0) r in
      let i = n.at.1 in
      let j = o.at.1 in
      let e : n.at.0 ≡ o.at.0 = omega (arith, i, j, v) in
      ap (λ (w : ℕ × ℕ). w.0) (some_one (x, m) (y, m) (sym n.at.2 ∙ ap (λ k. slice_get dealt k) e ∙ o.at.2))

  -- one lane more, without news
  pub none_more : (m : ℕ) (found : Option (ℕ × ℕ)) → ((x : ℕ) → IsNews dealt latest heard a l m x → ⊥) → IsFirstNews dealt latest heard a l m found → IsFirstNews dealt latest heard a l (m + 1) found
  none_more m None none f = λ o x b n. ⊎_elim (λ e. none x (subst (λ v. IsNews dealt latest heard a l v x) e n)) (λ q. f o x (omega (arith, b, q)) n) (cases_eq o m)
  none_more m (Some w) none f =
      (f.0, λ o x b n. ⊎_elim (λ e. absurd (none x (subst (λ v. IsNews dealt latest heard a l v x) e n))) (λ q. f.1 o x (omega (arith, b, q)) n) (cases_eq o m))

  -- and with news
  pub news_more : (m x : ℕ) (found result : Option (ℕ × ℕ)) → IsLeastOf found m x result → IsNews dealt latest heard a l m x → IsFirstNews dealt latest heard a l m found → IsFirstNews dealt latest heard a l (m + 1) result
  news_more m x None result is n f =
      subst (λ v. IsFirstNews dealt latest heard a l (m + 1) v) (sym is) (
        n,
        λ o y b k. ⊎_elim (λ e. let q = one_news m x y n (subst (λ v. IsNews dealt latest heard a l v y) e k) in omega (arith, q)) (λ q. absurd (f o y (omega (arith, b, q)) k)) (cases_eq o m),
      )
  news_more m x (Some w) result is n f = ⊎_elim (λ q. subst (λ v. IsFirstNews dealt latest heard a l (m + 1) v) (sym q.1) (less q.0)) (λ q. subst (λ v. IsFirstNews dealt latest heard a l (m + 1) v) (sym q.1) (more q.0)) is
    where
      less : x < w.1 → IsFirstNews dealt latest heard a l (m + 1) (Some (m, x))
      less h = (
        n,
        λ q z b k. ⊎_elim (λ e. let s = one_news m x z n (subst (λ v. IsNews dealt latest heard a l v z) e k) in omega (arith, s))
            (λ e. let s = f.1 q z (omega (arith, b, e)) k in omega (arith, s, h)) (cases_eq q m),
      )

      more : w.1 ≤ x → IsFirstNews dealt latest heard a l (m + 1) (Some w)
      more h = (
        f.0,
        λ q z b k. ⊎_elim (λ e. let s = one_news m x z n (subst (λ v. IsNews dealt latest heard a l v z) e k) in omega (arith, s, h))
            (λ e. f.1 q z (omega (arith, b, e)) k) (cases_eq q m),
      )

  -- a place that is behind what is awaited
  pub news_here : (m place x : ℕ) → HavePlaces dealt latest a → m < length latest → m ≢ l → ((row : Vec ℕ) → slice_get latest m ≡ Some row → place ≡ get_or row.items a 0) → get_or heard m 0 < place
      → ((y o : ℕ) → IsDealtAt dealt place y o → x ≡ y) → IsNews dealt latest heard a l m x
  news_here m place x have m_in other is later one =
      let row = get_some latest m m_in in
      let e : place ≡ get_or row.0.items a 0 = is row.0 row.1 in
      let at = have.is m row.0 row.1 (omega (arith, e, later)) in
      let q : x ≡ at.0 = one at.0 m (subst (λ v. IsDealtAt dealt v at.0 m) (sym e) at.1) in
      record {
        other = other;
        row = row.0;
        is_row = row.1;
        later = omega (arith, e, later);
        at = subst (λ v. IsDealtAt dealt (get_or row.0.items a 0) v m) (sym q) at.1;
      }
    where
      get_some : {X : Type 0} (xs : List X) (k : ℕ) → k < length xs → (x : X) × (slice_get xs k ≡ Some x)
      get_some [] k l = absurd (omega (arith, l))
      get_some (x ∷ xs) zero l = (x, refl)
      get_some (x ∷ xs) (suc k) l = get_some xs k (omega (arith, l))

-- ---- how far it is to the last place

pub less_left : (n : ℕ) (heard : List ℕ) (m place : ℕ) → m < length heard → get_or heard m 0 < place → place ≤ n → sum_by (λ h. n - h) (set heard m place) < sum_by (λ h. n - h) heard
less_left n heard m place l h within = let e = sum_by-set (λ h. n - h) heard m place 0 l in omega (arith, e, h, within)
