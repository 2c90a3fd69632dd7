-- The start of a group, one member after another.
use Rattle.std.proofs.Common.{◌≡◌, zero, lt-ltb, ℕ, suc, ◌+◌, ◌-◌, ◌<◌, ◌≤◌, List, [], ◌∷◌, ◌++◌, drop, length, get_or, take, Bool, true, false, refl, sym, ap, ap₂, ◌∙◌, subst, ⊎_elim, arith, append_assoc, append-nil, length-append, drop-cons}
use Rattle.std.specs.Prelude.{nat_eq, nat_lt, if◌then◌else◌}
use Rattle.std.proofs.lemmas.Bool.{cases_Bool, eqb-true, eq-eqb}
use Rattle.std.proofs.lemmas.List.{drop_all}
use Rattle.pst_scen.specs.declared.event.Event.{Event}
use Rattle.pst_scen.specs.declared.event.Event.TheVariants.{Start}
use Rattle.pst_scen.specs.Trace.{IsHeld, starts_of}
use Rattle.pst_scen.specs.Plan.{places_from, members, AreGroupsNumbered}
use Rattle.pst_book.specs.Tables.{IsNext}
use Rattle.pst_book.specs.Books.{AreIdle, AreSoMany, AreStarted}
use Rattle.pst_book.proofs.Elements.{cons_first}
use Rattle.pst_book.proofs.Idle.{first_is, idle_tail}

-- more members follow
abbrev pub some_more : List ℕ → Bool
some_more [] = false
some_more (x ∷ xs) = true

pub starts_cons : (m u : ℕ) (ms us : List ℕ) → starts_of (m ∷ ms) (u ∷ us) ≡ Start m u (some_more ms) ∷ starts_of ms us
starts_cons m u [] us = refl
starts_cons m u (n ∷ ms) us = refl

pub starts_taken : (ms ls : List ℕ) → starts_of ms (take (length ms) ls) ≡ starts_of ms ls
starts_taken [] ls = refl
starts_taken (m ∷ ms) [] = refl
starts_taken (m ∷ []) (x ∷ ls) = refl
starts_taken (m ∷ n ∷ ms) (x ∷ ls) = ap (λ t. Start m x true ∷ t) (starts_taken (n ∷ ms) ls)

-- PLACES

pub places_no : (groups : List ℕ) (act group : ℕ) → act < length groups → (get_or groups act 0 ≡ group → ⊥) → places_from (drop act groups) act group ≡ places_from (drop (act + 1) groups) (act + 1) group
places_no groups act group l n =
    let next : suc act ≡ act + 1 = omega arith in
    let other : nat_eq group (get_or groups act 0) ≡ false = not_same group (get_or groups act 0) (λ e. n (sym e)) in
    ap (λ xs. places_from xs act group) (drop-cons groups act 0 l)
    ∙ ap (λ b. if b then act ∷ places_from (drop (suc act) groups) (suc act) group else places_from (drop (suc act) groups) (suc act) group) other
    ∙ ap (λ i. places_from (drop i groups) i group) next
  where
    not_same : (x y : ℕ) → (x ≡ y → ⊥) → nat_eq x y ≡ false
    not_same x y k = ⊎_elim (λ t. absurd (k (eqb-true x y t))) (λ f. f) (cases_Bool (nat_eq x y))

pub places_yes : (groups : List ℕ) (act group : ℕ) → act < length groups → get_or groups act 0 ≡ group → places_from (drop act groups) act group ≡ act ∷ places_from (drop (act + 1) groups) (act + 1) group
places_yes groups act group l e =
    let next : suc act ≡ act + 1 = omega arith in
    ap (λ xs. places_from xs act group) (drop-cons groups act 0 l)
    ∙ ap (λ b. if b then act ∷ places_from (drop (suc act) groups) (suc act) group else places_from (drop (suc act) groups) (suc act) group) (eq-eqb group (get_or groups act 0) (sym e))
    ∙ ap (λ i. act ∷ places_from (drop i groups) i group) next

-- THE LOOP

-- the members below an action have started
pub record Starting (old now : List Event) (groups : List ℕ) (group lanes act left lane old_room room : ℕ) : Type 0 where
  pub idle : List ℕ
  pub are : AreIdle old 0 lanes idle
  pub rest : List ℕ
  pub rest_are : AreIdle old lane lanes rest
  pub lane_in : lane ≤ lanes
  pub left_is : left ≡ length (places_from (drop act groups) act group)
  pub enough : left ≤ length rest
  pub now_is : now ++ starts_of (places_from (drop act groups) act group) rest ≡ old ++ starts_of (members groups group) idle
  pub begun : List Event
  pub begins : now ≡ old ++ begun
  pub some : length now + left ≤ room
  pub grows : old_room ≤ room

pub starting_first : (old : List Event) (groups : List ℕ) (group lanes count idle room : ℕ) → count ≡ length (members groups group) → AreSoMany old lanes idle → count ≤ idle → length old + count ≤ room → Starting old old groups group lanes 0 count 0 room room
starting_first old groups group lanes count idle room many so_many few some =
    let k = so_many.count_is in
    record {
      idle = so_many.idle;
      are = so_many.are;
      rest = so_many.idle;
      rest_are = so_many.are;
      lane_in = omega arith;
      left_is = many;
      enough = omega (arith, few, k);
      now_is = refl;
      begun = [];
      begins = sym (append-nil old);
      some = some;
      grows = omega arith;
    }

pub starting_skip : (old now : List Event) (groups : List ℕ) (group lanes act left lane old_room room : ℕ) → act < length groups → (get_or groups act 0 ≡ group → ⊥) → Starting old now groups group lanes act left lane old_room room → Starting old now groups group lanes (act + 1) left lane old_room room
starting_skip old now groups group lanes act left lane old_room room l n r =
    let e = places_no groups act group l n in
    record {
      idle = r.idle;
      are = r.are;
      rest = r.rest;
      rest_are = r.rest_are;
      lane_in = r.lane_in;
      left_is = r.left_is ∙ ap (λ (xs : List ℕ). length xs) e;
      enough = r.enough;
      now_is = ap (λ xs. now ++ starts_of xs r.rest) (sym e) ∙ r.now_is;
      begun = r.begun;
      begins = r.begins;
      some = r.some;
      grows = r.grows;
    }

-- a member starts on the first of the idle lanes that are left
pub starting_member : (old now new : List Event) (groups : List ℕ) (group lanes act left lane old_room room new_room used : ℕ) (more : Bool) → act < length groups → get_or groups act 0 ≡ group → ((P : List ℕ) → left ≡ suc (length P) → more ≡ some_more P) → lane ≤ used → used ≤ lanes → ((l : ℕ) → lane ≤ l → l < used → IsHeld old l) → (used < lanes → IsHeld old used → ⊥) → new ≡ now ++ Start act used more ∷ [] → room ≤ new_room → Starting old now groups group lanes act left lane old_room room → (0 < left) × (used < lanes) × Starting old new groups group lanes (act + 1) (left - 1) (used + 1) old_room new_room
starting_member old now new groups group lanes act left lane old_room room new_room used more l e is_more low high held idle new_is wide r = by_rest r.rest r.rest_are r.enough r.now_is
  where
    P : List ℕ
    P = places_from (drop (act + 1) groups) (act + 1) group

    yes : places_from (drop act groups) act group ≡ act ∷ P
    yes = places_yes groups act group l e

    left_is : left ≡ suc (length P)
    left_is = r.left_is ∙ ap (λ (xs : List ℕ). length xs) yes

    by_rest : (rest : List ℕ) → AreIdle old lane lanes rest → left ≤ length rest → now ++ starts_of (places_from (drop act groups) act group) rest ≡ old ++ starts_of (members groups group) r.idle → (0 < left) × (used < lanes) × Starting old new groups group lanes (act + 1) (left - 1) (used + 1) old_room new_room
    by_rest [] are enough now_is = absurd (omega (arith, enough, left_is))
    by_rest (x ∷ xs) are enough now_is =
        let same : used ≡ x = first_is old lane lanes x used xs are low high held idle in
        let below : x < lanes = are.below x (cons_first x xs) in
        let whole : new ++ starts_of P xs ≡ old ++ starts_of (members groups group) r.idle =
        ap (λ t. t ++ starts_of P xs) new_is ∙ append_assoc now (Start act used more ∷ []) (starts_of P xs)
        ∙ ap₂ (λ u o. now ++ Start act u o ∷ starts_of P xs) same (is_more P left_is)
        ∙ ap (λ t. now ++ t) (sym (starts_cons act x P xs))
        ∙ ap (λ ms. now ++ starts_of ms (x ∷ xs)) (sym yes) ∙ now_is in
        let longer : length new ≡ length now + 1 = ap (λ (t : List Event). length t) new_is ∙ length-append now (Start act used more ∷ []) in
        let some = r.some in (
          omega (arith, left_is),
          omega (arith, same, below),
          record {
            idle = r.idle;
            are = r.are;
            rest = xs;
            rest_are = subst (λ v. AreIdle old (v + 1) lanes xs) (sym same) (idle_tail old lane lanes x xs are);
            lane_in = omega (arith, same, below);
            left_is = omega (arith, left_is);
            enough = omega (arith, enough, left_is);
            now_is = whole;
            begun = r.begun ++ Start act used more ∷ [];
            begins = new_is ∙ ap (λ t. t ++ Start act used more ∷ []) r.begins ∙ append_assoc old r.begun (Start act used more ∷ []);
            some = omega (arith, longer, some, left_is, wide);
            grows = omega (arith, r.grows, wide);
          },
        )

pub starting_last : (old now : List Event) (groups : List ℕ) (group lanes act left lane old_room room : ℕ) → length groups ≤ act → Starting old now groups group lanes act left lane old_room room → AreStarted old now (members groups group) lanes
starting_last old now groups group lanes act left lane old_room room l r =
    record {
      idle = r.idle;
      are = r.are;
      new_is = sym (append-nil now) ∙ ap (λ xs. now ++ starts_of (places_from xs act group) r.rest) (sym (drop_all act groups l)) ∙ r.now_is;
    }

pub first_same : (old now more : List Event) (k : ℕ) → now ≡ old ++ more → k ≡ length old → take k now ≡ old
first_same old now more k e l = ap (λ v. take v now) l ∙ ap (λ t. take (length old) t) e ∙ taken old more
  where
    taken : (xs ys : List Event) → take (length xs) (xs ++ ys) ≡ xs
    taken [] ys = refl
    taken (x ∷ xs) ys = ap (λ t. x ∷ t) (taken xs ys)

-- whether more members follow, told by how many are left
pub more_is : (left : ℕ) (P : List ℕ) → left ≡ suc (length P) → nat_lt 1 left ≡ some_more P
more_is left [] e = ap (λ v. nat_lt 1 v) (let one : left ≡ 1 = omega (arith, e) in one)
more_is left (x ∷ P) e = lt-ltb 1 left (omega (arith, e))

-- no member stands between two places
pub places_between : (groups : List ℕ) (i k group : ℕ) → i ≤ k → k ≤ length groups → ((x : ℕ) → i ≤ x → x < k → get_or groups x 0 ≡ group → ⊥) → places_from (drop i groups) i group ≡ places_from (drop k groups) k group
places_between groups i k group l m n = by_steps (k - i) i (omega (arith, l)) n
  where
    by_steps : (j i : ℕ) → i + j ≡ k → ((x : ℕ) → i ≤ x → x < k → get_or groups x 0 ≡ group → ⊥) → places_from (drop i groups) i group ≡ places_from (drop k groups) k group
    by_steps zero i e n = let same : i ≡ k = omega (arith, e) in ap (λ v. places_from (drop v groups) v group) same
    by_steps (suc j) i e n =
        places_no groups i group (omega (arith, e, m)) (n i (omega arith) (omega (arith, e)))
        ∙ by_steps j (i + 1) (omega (arith, e)) (λ x a b. n x (omega (arith, a)) b)

-- the members of a group begin with its number
pub members_begin : (groups : List ℕ) (group : ℕ) → AreGroupsNumbered groups → group < length groups → members groups group ≡ places_from (drop group groups) group group
members_begin groups group numbered l =
    ap (λ xs. places_from xs 0 group) (sym (drop_none groups))
    ∙ places_between groups 0 group group (omega arith) (omega (arith, l)) (λ x a b e. let k = numbered.least x (omega (arith, b, l)) in omega (arith, k, e, b))
  where
    drop_none : (xs : List ℕ) → drop 0 xs ≡ xs
    drop_none xs = refl

-- behind a member come those from the next one on
pub places_next : (groups : List ℕ) (act next group : ℕ) → act < length groups → get_or groups act 0 ≡ group → IsNext groups act next → places_from (drop act groups) act group ≡ act ∷ places_from (drop next groups) next group
places_next groups act next group l e n =
    places_yes groups act group l e
    ∙ ap (λ xs. act ∷ xs) (places_between groups (act + 1) next group (let b = n.behind in omega (arith, b)) n.inside (λ x a b f. n.none_between x (omega (arith, a)) b (f ∙ sym e)))

pub places_end : (groups : List ℕ) (act group : ℕ) → length groups ≤ act → places_from (drop act groups) act group ≡ []
places_end groups act group l = ap (λ xs. places_from xs act group) (drop_all act groups l)

-- the same at another place
pub starting_move : (old now : List Event) (groups : List ℕ) (group lanes act next left lane old_room room : ℕ) → places_from (drop act groups) act group ≡ places_from (drop next groups) next group → Starting old now groups group lanes act left lane old_room room → Starting old now groups group lanes next left lane old_room room
starting_move old now groups group lanes act next left lane old_room room e r =
    record {
      idle = r.idle;
      are = r.are;
      rest = r.rest;
      rest_are = r.rest_are;
      lane_in = r.lane_in;
      left_is = r.left_is ∙ ap (λ (xs : List ℕ). length xs) e;
      enough = r.enough;
      now_is = ap (λ xs. now ++ starts_of xs r.rest) (sym e) ∙ r.now_is;
      begun = r.begun;
      begins = r.begins;
      some = r.some;
      grows = r.grows;
    }
