-- Looking at constraints again where a bound of one of their variables moved.
use Rattle.std.proofs.Common.{◌≡◌, ◌⊎◌, inl, inr, ℕ, zero, suc, ◌+◌, ◌-◌, ◌<◌, ◌≤◌, List, [], ◌∷◌, ◌++◌, length, map, drop, get_or, Bool, true, false, not, Option, Some, None, option_map, Result, Ok, refl, sym, ap, subst, ◌∙◌, arith}
use Rattle.std.specs.Prelude.{Contains}
use Rattle.std.specs.Global.{Vec}
use Rattle.std.proofs.lemmas.List.{length-append, length-map, drop_at, drop_all, drop-append-le, get_or-set_other, get_or_default, get_or-drop, length-drop, drop_more}
use Rattle.std.proofs.lemmas.List.Elements.{All-append}
use Rattle.std.proofs.lemmas.Option.{slice_get-get_or, slice_get-map, slice_get_read, slice_get_within}
use Rattle.pst_base.specs.declared.memory.NoMemory.{NoMemory}
use Rattle.pst_expr.specs.declared.ranges.Span.{Span}
use Rattle.pst_expr.specs.declared.tree.Expr.{Expr}
use Rattle.pst_expr.specs.Tree.{Expression, view}
use Rattle.pst_expr.specs.Value.{value}
use Rattle.pst_domain.specs.Bounds.{bound_of, AreUpright}
use Rattle.pst_domain.specs.Interval.{is_refused}
use Rattle.pst_domain.specs.Laws.{IsNeverTrue}
use Rattle.pst_narrow.specs.declared.trail.Former.{Former}
use Rattle.pst_narrow.specs.declared.watch.Watch.{Watch}
use Rattle.pst_narrow.specs.Trail.{put_back, AreBelow, Extends}
use Rattle.pst_narrow.specs.Solutions.{IsMet, AreMet}
use Rattle.pst_narrow.specs.Narrowing.{IsStep, AreOpen}
use Rattle.pst_narrow.specs.Cuts.{CutIsMade}
use Rattle.pst_narrow.specs.Mentions.{Mentions}
use Rattle.pst_narrow.specs.Watch.{IsRow, IsNumbered, IsWatch}
use Rattle.pst_narrow.specs.Settled.{IsQuiet, IsUnrefused, QuietAreOpen, AreLookedAt, IsOfRow}
use Rattle.pst_narrow.proofs.NarrowLemmas.{step_self, step_then, step_true}
use Rattle.pst_narrow.proofs.ListLemmas.{at, AreRevised, none_revised, one_revised, never_met}
use Rattle.pst_narrow.proofs.MentionLemmas.{spans_same}

-- ---- changes that don't concern a constraint

quiet_first : (e : Expression) (f : Former) (more : List Former) → IsQuiet e (f ∷ more) → Mentions e f.variable → ⊥
quiet_first e f more q = q 0 f (omega arith)

quiet_rest : (e : Expression) (f : Former) (more : List Former) → IsQuiet e (f ∷ more) → IsQuiet e more
quiet_rest e f more q k d small = q (suc k) d (omega arith)

quiet_cons : (e : Expression) (f : Former) (more : List Former) → (Mentions e f.variable → ⊥) → IsQuiet e more → IsQuiet e (f ∷ more)
quiet_cons e f more n q zero d small = n
quiet_cons e f more n q (suc k) d small = q k d (omega arith)

quiet_left : (e : Expression) (ms ns : List Former) → IsQuiet e (ms ++ ns) → IsQuiet e ms
quiet_left e [] ns q = λ k d small. absurd (omega arith)
quiet_left e (m ∷ ms) ns q = quiet_cons e m ms (quiet_first e m (ms ++ ns) q) (quiet_left e ms ns (quiet_rest e m (ms ++ ns) q))

quiet_right : (e : Expression) (ms ns : List Former) → IsQuiet e (ms ++ ns) → IsQuiet e ns
quiet_right e [] ns q = q
quiet_right e (m ∷ ms) ns q = quiet_right e ms ns (quiet_rest e m (ms ++ ns) q)

quiet_same : (e : Expression) (more : List Former) (b : List (Option Span)) → IsQuiet e more → (v : ℕ) → Mentions e v → bound_of (put_back more b) v ≡ bound_of b v
quiet_same e [] b q v m = refl
quiet_same e (f ∷ more) b q v m =
    get_or-set_other (put_back more b) f.variable v f.bound None (λ same. quiet_first e f more q (subst (Mentions e) same m)) ∙ quiet_same e more b (quiet_rest e f more q) v m

changes_are : (t u : List Former) (a b : List (Option Span)) (x : Extends t u a b) → drop (length t) u ≡ x.more
changes_are t u a b x = ap (drop (length t)) x.appended ∙ drop_at t x.more (length t) refl

pub still_open : (e : Expression) (t u : List Former) (a b : List (Option Span)) → Extends t u a b → length b ≡ length a → IsQuiet e (drop (length t) u) → IsUnrefused e a → IsUnrefused e b
still_open e t u a b x long quiet here =
    let q = subst (IsQuiet e) (changes_are t u a b x) quiet in
    subst (λ r. is_refused r ≡ false)
    (spans_same e a b (record { count = sym long; each = λ v m. sym (ap (λ z. bound_of z v) x.back) ∙ quiet_same e x.more b q v m }))
    here

quiet_parts : (e : Expression) (t u v : List Former) (a b c : List (Option Span)) → Extends t u a b → Extends u v b c → IsQuiet e (drop (length t) v) → IsQuiet e (drop (length t) u) × IsQuiet e (drop (length u) v)
quiet_parts e t u v a b c x y q =
    let long : length u ≡ length t + length x.more = ap length x.appended ∙ length-append t x.more in
    let split : drop (length t) v ≡ drop (length t) u ++ y.more = ap (drop (length t)) y.appended ∙ drop-append-le (length t) u y.more (omega (arith, long)) in
    let parts = subst (IsQuiet e) split q in
    (quiet_left e (drop (length t) u) y.more parts, subst (IsQuiet e) (sym (changes_are u v b c y)) (quiet_right e (drop (length t) u) y.more parts))

-- what was looked at stays so, where nothing of it is changed
looked_then : (P : ℕ → Expression → Type 0) (es : List Expression) (t u v : List Former) (a b c : List (Option Span)) → Extends t u a b → Extends u v b c → length c ≡ length b → AreLookedAt P es t u b → AreLookedAt P es t v c
looked_then P es t u v a b c x y long h n e is p q =
    let parts = quiet_parts e t u v a b c x y q in
    still_open e u v b c y long parts.1 (h n e is p parts.0)

-- ---- one constraint by its number

pub numbered : (xs : List Expr) (i : ℕ) (x : Expr) → i < length xs → x ≡ get_or xs i x → IsNumbered (map view xs) i (view x)
numbered xs i x below is = slice_get-map view xs i ∙ ap (option_map view) (slice_get_read xs (length xs) i x refl below is)

some_is : {X : Type 0} (x y : X) → Some x ≡ Some y → x ≡ y
some_is x y e = cc

same_numbered : (es : List Expression) (i : ℕ) (d e : Expression) → IsNumbered es i d → IsNumbered es i e → d ≡ e
same_numbered es i d e p q = some_is d e (sym p ∙ q)

-- ---- each constraint once

pub record AreAllLooked (xs : List Expr) (i : ℕ) (a b : List (Option Span)) (t u : List Former) : Type 0 where
  pub revised : AreRevised xs i a b t u
  pub looked : AreLookedAt (λ c e. c < i) (map view xs) t u b

pub none_looked : (xs : List Expr) (a : List (Option Span)) (t : List Former) → AreUpright a → AreAllLooked xs 0 a a t t
none_looked xs a t upright = record { revised = none_revised xs a t upright; looked = λ c e is small. absurd (omega arith) }

below_or : (i n : ℕ) → i < n + 1 → (i < n) ⊎ (i ≡ n)
below_or i n h = grind arith

pub one_looked : (xs : List Expr) (i : ℕ) (x : Expr) (a b c : List (Option Span)) (t u v : List Former) (result : Result Bool NoMemory) → i < length xs → x ≡ get_or xs i x → AreAllLooked xs i a b t u → IsStep (IsMet (view x)) b c u v result → CutIsMade (view x) b c → IsUnrefused (view x) c → AreAllLooked xs (i + 1) a c t v
one_looked xs i x a b c t u v result below is h k cut tested =
    record {
      revised = one_revised xs i x a b c t u v result below is h.revised k cut;
      looked = λ n e at small q. elim (below_or n i small) [
        | inl less ↦ looked_then (λ m d. m < i) (map view xs) t u v a b c h.revised.step.extends k.extends k.narrows.count h.looked n e at less q
        | inr last ↦ subst (λ d. IsUnrefused d c) (same_numbered (map view xs) i (view x) e (numbered xs i x below is) (subst (λ m. IsNumbered (map view xs) m e) last at)) tested
      ];
    }

pub all_looked : (xs : List Expr) (i : ℕ) (a b : List (Option Span)) (t u : List Former) → length xs ≤ i → AreAllLooked xs i a b t u → AreLookedAt (λ c e. Unit {0}) (map view xs) t u b
all_looked xs i a b t u end h n e at p q =
    let small = slice_get_within (map view xs) n e at in
    h.looked n e at (omega (arith, small, length-map xs view)) q

-- ---- each constraint of a row once

-- one of the first numbers of a row, or one that wasn't refused before
abbrev pub IsOfFirst : ℕ → List ℕ → List (Option Span) → ℕ → Expression → Type 0
IsOfFirst k row bounds c e = ((j : ℕ) × (j < k) × (get_or row j c ≡ c)) ⊎ IsUnrefused e bounds

pub record IsRowLooked (xs : List Expr) (row : List ℕ) (k : ℕ) (a b : List (Option Span)) (t u : List Former) : Type 0 where
  pub step : IsStep (AreMet (map view xs)) a b t u (Ok true)
  pub looked : AreLookedAt (IsOfFirst k row a) (map view xs) t u b

pub none_of_row : (xs : List Expr) (numbers : List ℕ) (a : List (Option Span)) (t : List Former) → AreUpright a → IsRowLooked xs numbers 0 a a t t
none_of_row xs numbers a t upright =
    record {
      step = step_self (AreMet (map view xs)) a t (Ok true) upright (λ e. absurd cc);
      looked = λ c e is p q. elim p [ inl (j, small, at) ↦ absurd (omega arith) | inr kept ↦ kept ];
    }

-- a further constraint, whatever came of it
pub row_step : (xs : List Expr) (row : List ℕ) (k n : ℕ) (x : Expr) (a b c : List (Option Span)) (t u v : List Former) (result : Result Bool NoMemory) → n < length xs → x ≡ get_or xs n x → IsRowLooked xs row k a b t u → IsStep (IsMet (view x)) b c u v result → IsStep (AreMet (map view xs)) a c t v result
row_step xs row k n x a b c t u v result below is h s =
    step_then (AreMet (map view xs)) (IsMet (view x)) a b c t u v (Ok true) result h.step s (λ values holds within. at (λ e. IsMet e values) xs n x below is holds)

pub one_of_row : (xs : List Expr) (row : List ℕ) (k n : ℕ) (x : Expr) (a b c : List (Option Span)) (t u v : List Former) (result : Result Bool NoMemory) → k < length row → n ≡ get_or row k n → n < length xs → x ≡ get_or xs n x → IsRowLooked xs row k a b t u → IsStep (IsMet (view x)) b c u v result → IsUnrefused (view x) c → IsRowLooked xs row (k + 1) a c t v
one_of_row xs row k n x a b c t u v result within here below is h s tested =
    record {
      step = step_true (AreMet (map view xs)) a c t v result (row_step xs row k n x a b c t u v result below is h s);
      looked = λ m e num p q. elim p [
        | inl (j, small, at) ↦ elim (below_or j k small) [
          | inl less ↦ earlier m e num (inl (j, less, at)) q
          | inr last ↦
              let same : m ≡ n = sym at ∙ (ap (λ i. get_or row i m) last ∙ (get_or_default row k m n within ∙ sym here)) in
              subst (λ d. IsUnrefused d c) (same_numbered (map view xs) n (view x) e (numbered xs n x below is) (subst (λ i. IsNumbered (map view xs) i e) same num)) tested
        ]
        | inr kept ↦ earlier m e num (inr kept) q
      ];
    }
  where
    earlier : AreLookedAt (IsOfFirst k row a) (map view xs) t v c
    earlier = looked_then (IsOfFirst k row a) (map view xs) t u v a b c h.step.extends s.extends s.narrows.count h.looked

pub all_of_row : (xs : List Expr) (row : List ℕ) (k : ℕ) (a b : List (Option Span)) (t u : List Former) → length row ≤ k → IsRowLooked xs row k a b t u → AreLookedAt (IsOfRow row a) (map view xs) t u b
all_of_row xs row k a b t u end h n e is p q =
    h.looked n e is (elim p [ inl (j, small, at) ↦ inl (j, omega arith, at) | inr kept ↦ inr kept ]) q

-- ---- along the trail

not_there : (y : ℕ) (ys : List ℕ) (x : ℕ) → (y ≡ x → ⊥) → (Contains ys x → ⊥) → Contains (y ∷ ys) x → ⊥
not_there y ys x n none (zero, small, e) = n e
not_there y ys x n none (suc k, small, e) = none (k, omega arith, e)

same_or : (i k : ℕ) → (i ≡ k) ⊎ (i ≡ k → ⊥)
same_or i k = grind arith

is_there : (xs : List ℕ) (x : ℕ) → Contains xs x ⊎ (Contains xs x → ⊥)
is_there [] x = inr (λ (k, small, e). absurd (omega arith))
is_there (y ∷ ys) x = elim (same_or y x) [
  | inl e ↦ inl (0, omega arith, e)
  | inr n ↦ elim (is_there ys x) [ inl (k, small, at) ↦ inl (suc k, omega arith, at) | inr none ↦ inr (not_there y ys x n none) ]
]

pub record IsSettling (es : List Expression) (from place : ℕ) (a b : List (Option Span)) (t u : List Former) : Type 0 where
  pub step : IsStep (AreMet es) a b t u (Ok true)
  pub changed : AreBelow (length b) (drop from u)
  pub after : from ≤ place
  pub room : place ≤ length u
  pub quiet : QuietAreOpen es (drop place u) b

pub at_start : (es : List Expression) (from : ℕ) (a : List (Option Span)) (t : List Former) → AreUpright a → AreBelow (length a) (drop from t) → from ≤ length t → QuietAreOpen es (drop from t) a → IsSettling es from from a a t t
at_start es from a t upright changed room quiet =
    record { step = step_self (AreMet es) a t (Ok true) upright (λ e. absurd cc); changed = changed; after = omega arith; room = room; quiet = quiet }

-- the numbers in the row of a variable
pub row_numbers : (es : List Expression) (w : Watch) (n v : ℕ) (row : List ℕ) → IsWatch es n w → IsRow w.watching.items v row → (c : ℕ) → Contains row c → c < length es
row_numbers es w n v row watch at c there = watch.numbers v c (at.0, at.1, subst (λ zs. Contains zs c) (sym at.2) there)

pub settled_once : (es : List Expression) (w : Watch) (n from place : ℕ) (f : Former) (row : List ℕ) (a b c : List (Option Span)) (t u v : List Former) (result : Result Bool NoMemory) → IsWatch es n w → place < length u → f ≡ get_or u place f → IsRow w.watching.items f.variable row → IsSettling es from place a b t u → IsStep (AreMet es) b c u v result → AreLookedAt (IsOfRow row b) es u v c → IsSettling es from (place + 1) a c t v
settled_once es w n from place f row a b c t u v result watch below is there h s looked =
    let x = s.extends in
    let long : length v ≡ length u + length x.more = ap length x.appended ∙ length-append u x.more in
    let after = h.after in
    let split : drop from v ≡ drop from u ++ x.more = ap (drop from) x.appended ∙ drop-append-le from u x.more (omega arith) in
    record {
      step = step_true (AreMet es) a c t v result (step_then (AreMet es) (AreMet es) a b c t u v (Ok true) result h.step s (λ values holds within. holds));
      changed = subst (λ k. AreBelow k (drop from v)) (sym s.narrows.count) (subst (AreBelow (length b)) (sym split) (All-append (λ former. former.variable < length b) (drop from u) x.more h.changed x.below));
      after = omega (arith, after);
      room = omega (arith, long);
      quiet = λ k e num q.
          let rest : drop (place + 1) v ≡ drop (place + 1) u ++ x.more = ap (drop (place + 1)) x.appended ∙ drop-append-le (place + 1) u x.more (omega arith) in
          let parts = subst (IsQuiet e) rest q in
          let later = subst (IsQuiet e) (sym (changes_are u v b c x)) (quiet_right e (drop (place + 1) u) x.more parts) in
          elim (is_there row k) [
            | inl in' ↦ looked k e num (inl in') later
            | inr not_in ↦
                let unmentioned : Mentions e f.variable → ⊥ = λ m.
                let at = watch.watched k f.variable e (slice_get_within es k e num) num m in
                not_in (subst (λ zs. Contains zs k) (ap (λ (r : Vec ℕ). r.items) (some_is at.0 there.0 (sym at.1 ∙ there.1)) ∙ there.2) at.2) in
                let front : IsQuiet e (f ∷ drop (place + 1) u) = quiet_cons e f (drop (place + 1) u) unmentioned (quiet_left e (drop (place + 1) u) x.more parts) in
                let here : IsQuiet e (drop place u) = subst (IsQuiet e) (sym front_is) front in
                looked k e num (inr (h.quiet k e num here)) later
          ];
    }
  where
    front_is : drop place u ≡ f ∷ drop (place + 1) u
    front_is = drop_more u place f below ∙ ap (λ y. y ∷ drop (place + 1) u) (sym is)

pub all_settled : (es : List Expression) (from place : ℕ) (a b : List (Option Span)) (t u : List Former) → length u ≤ place → IsSettling es from place a b t u → AreOpen es b
all_settled es from place a b t u end h k d small =
    h.quiet k (get_or es k d) (slice_get-get_or es k d small) (subst (IsQuiet (get_or es k d)) (sym (drop_all place u end)) (λ i e less. absurd (omega arith)))

-- the variable of a change
pub change_below : (n from place : ℕ) (f : Former) (u : List Former) → from ≤ place → place < length u → f ≡ get_or u place f → AreBelow n (drop from u) → f.variable < n
change_below n from place f u after below is changed =
    let k : ℕ = place - from in
    let whole : from + k ≡ place = omega arith in
    let same : get_or (drop from u) k f ≡ f = get_or-drop from u k f ∙ (ap (λ i. get_or u i f) whole ∙ sym is) in
    subst (λ g. g.variable < n) same (changed k f (omega (arith, length-drop from u)))

-- ---- a constraint that is only tested

pub tested_only : (e : Expression) (a : List (Option Span)) (t : List Former) (result : Result Bool NoMemory) → AreUpright a → (result ≡ Ok false → IsNeverTrue e a) → IsStep (IsMet e) a a t t result
tested_only e a t result upright never = step_self (IsMet e) a t result upright (λ r values within holds. never_met (value e values) (never r values within) holds)

-- a step, and then a test
pub step_tested : (e : Expression) (a b : List (Option Span)) (t u : List Former) (first result : Result Bool NoMemory) → IsStep (IsMet e) a b t u first → (result ≡ Ok false → IsNeverTrue e b) → IsStep (IsMet e) a b t u result
step_tested e a b t u first result s never =
    record {
      narrows = s.narrows;
      extends = s.extends;
      refutes = λ r values within holds. never_met (value e values) (never r values (s.narrows.keeps values within holds)) holds;
    }

-- ---- the queue at first

pub quiet_at_first : (es : List Expression) (t u : List Former) (b : List (Option Span)) → AreLookedAt (λ c e. Unit {0}) es t u b → QuietAreOpen es (drop (length t) u) b
quiet_at_first es t u b h c e is q = h c e is tt q

pub changed_at_first : (t u : List Former) (a b : List (Option Span)) → length b ≡ length a → Extends t u a b → AreBelow (length b) (drop (length t) u)
changed_at_first t u a b long x = subst (AreBelow (length b)) (sym (changes_are t u a b x)) (subst (λ n. AreBelow n x.more) (sym long) x.below)

pub room_at_first : (t u : List Former) (a b : List (Option Span)) → Extends t u a b → length t ≤ length u
room_at_first t u a b x = omega (arith, ap length x.appended, length-append t x.more)

pub ok_not_true : (b : Bool) → (let r : Result Bool NoMemory = Ok (not b) in r ≡ Ok true) → b ≡ false
ok_not_true true e = absurd cc
ok_not_true false e = refl
