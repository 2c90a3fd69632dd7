-- Trials of spans: what they leave below the mark, and what they tell.
use Rattle.std.proofs.Common.{◌≡◌, ◌⊎◌, inl, inr, ℕ, ◌+◌, ◌<◌, ◌≤◌, ℤ, ◌≤ℤ◌, List, [], ◌∷◌, ◌++◌, length, map, take, drop, set, Bool, true, false, Option, Some, None, Result, Ok, IfSome, refl, sym, subst, ap, ◌∙◌, arith}
use Rattle.std.proofs.lemmas.List.{length-set, length-append, length-take-le, take_at, drop_at, drop_all, take_all, take-append-drop, set-set, set-get_or, get_or-set_same, get_or-set_other, drop-append-le, take-append-le}
use Rattle.std.proofs.lemmas.List.Elements.{All-set, All-nil, All-cons, All-append}
use Rattle.pst_base.specs.declared.memory.NoMemory.{NoMemory}
use Rattle.pst_expr.specs.declared.ranges.Span.{Span}
use Rattle.pst_expr.specs.declared.tree.Expr.{Expr}
use Rattle.pst_expr.specs.Tree.{view}
use Rattle.pst_expr.specs.Value.{variable_value}
use Rattle.pst_domain.specs.Bounds.{bound_of, AreUpright, AreWithin, Holds, IsInside}
use Rattle.pst_narrow.specs.declared.trail.Former.{Former}
use Rattle.pst_narrow.specs.Trail.{put_back, AreBelow, Extends}
use Rattle.pst_narrow.specs.Solutions.{AreMet}
use Rattle.pst_narrow.specs.Mentions.{Mentions, SameBounds, OthersDontMatter}
use Rattle.pst_narrow.specs.Settled.{IsQuiet, IsUnrefused, QuietAreOpen}
use Rattle.pst_domain.specs.Interval.{is_refused}
use Rattle.std.proofs.lemmas.Option.{slice_get_within, get_or_from_slice_get}
use Rattle.pst_narrow.specs.Narrowing.{IsStep, HaveVariablesBelow, IsIn, AreOpen}
use Rattle.pst_values.specs.Solver.{bounds_at, IsReady, IsBase, IsTried}

put_back-append : (xs ys : List Former) (b : List (Option Span)) → put_back (xs ++ ys) b ≡ put_back xs (put_back ys b)
put_back-append [] ys b = refl
put_back-append (x ∷ xs) ys b = ap (λ c. set c x.variable x.bound) (put_back-append xs ys b)

pub length-put_back : (xs : List Former) (b : List (Option Span)) → length (put_back xs b) ≡ length b
length-put_back [] b = refl
length-put_back (x ∷ xs) b = length-set (put_back xs b) x.variable x.bound ∙ length-put_back xs b

-- what lies below a lower mark is as before too
pub lower_bounds : (m n : ℕ) (t u : List Former) (a b : List (Option Span)) → m ≤ n → n ≤ length t → n ≤ length u → take n u ≡ take n t → bounds_at n u b ≡ bounds_at n t a → bounds_at m u b ≡ bounds_at m t a
lower_bounds m n t u a b low room more trail same =
    by_parts u b more ∙ (ap (λ x. put_back (drop m x) (bounds_at n u b)) trail ∙ (ap (put_back (drop m (take n t))) same ∙ sym (by_parts t a room)))
  where
    by_parts : (v : List Former) (c : List (Option Span)) → n ≤ length v → bounds_at m v c ≡ put_back (drop m (take n v)) (bounds_at n v c)
    by_parts v c long =
        let split : drop m v ≡ drop m (take n v) ++ drop n v = ap (drop m) (sym (take-append-drop n v)) ∙ drop-append-le m (take n v) (drop n v) (omega (arith, length-take-le n v long)) in
        ap (λ x. put_back x c) split ∙ put_back-append (drop m (take n v)) (drop n v) c

-- ---- back at the mark

pub at_mark : (cs : List Expr) (n : ℕ) (t u : List Former) (a b : List (Option Span)) → IsReady cs n t a → b ≡ put_back (drop n t) a → u ≡ take n t → IsBase cs n t u a b
at_mark cs n t u a b h back taken =
    let long = length-take-le n t h.room in
    let size : length u ≡ n = ap length taken ∙ long in
    let none : drop n u ≡ [] = drop_all n u (omega (arith, size)) in
    let here : bounds_at n u b ≡ b = ap (λ x. put_back x b) none in
    let count : length b ≡ length a = ap length back ∙ length-put_back (drop n t) a in
    record {
      ready = record {
        room = omega (arith, size);
        below = subst (AreBelow (length b)) (sym none) (All-nil (λ former. former.variable < length b));
        upright = subst AreUpright (sym (here ∙ back)) h.upright;
        variables = subst (λ k. HaveVariablesBelow k (map view cs)) (sym count) h.variables;
      };
      count = count;
      bounds = here ∙ back;
      trail = take_all n u (omega (arith, size)) ∙ taken;
    }

-- one change behind the mark
pub one_past : (cs : List Expr) (n i : ℕ) (s : Span) (t u : List Former) (a b : List (Option Span)) → IsReady cs n t a → i < length b → s.low ≤ℤ s.high → b ≡ put_back (drop n t) a → u ≡ take n t ++ record { variable = i; bound = bound_of b i } ∷ [] → IsBase cs n t u a (set b i (Some s))
one_past cs n i s t u a b h below order back taken =
    let f : Former = record { variable = i; bound = bound_of b i } in
    let long = length-take-le n t h.room in
    let rest : drop n u ≡ f ∷ [] = ap (drop n) taken ∙ drop_at (take n t) (f ∷ []) n long in
    let size : length u ≡ n + 1 = ap length taken ∙ (length-append (take n t) (f ∷ []) ∙ omega (arith, long)) in
    let here : bounds_at n u (set b i (Some s)) ≡ b = ap (λ x. put_back x (set b i (Some s))) rest ∙ (set-set b i (Some s) (bound_of b i) ∙ set-get_or b i _) in
    let count : length (set b i (Some s)) ≡ length a = length-set b i (Some s) ∙ (ap length back ∙ length-put_back (drop n t) a) in
    let small : i < length (set b i (Some s)) = omega (arith, length-set b i (Some s), below) in
    record {
      ready = record {
        room = omega (arith, size);
        below = subst (AreBelow (length (set b i (Some s)))) (sym rest) (All-cons (λ former. former.variable < length (set b i (Some s))) f [] small (All-nil (λ former. former.variable < length (set b i (Some s)))));
        upright = subst AreUpright (sym (here ∙ back)) h.upright;
        variables = subst (λ k. HaveVariablesBelow k (map view cs)) (sym count) h.variables;
      };
      count = count;
      bounds = here ∙ back;
      trail = ap (take n) taken ∙ take_at (take n t) (f ∷ []) n long;
    }

-- further changes behind the mark
pub further : (cs : List Expr) (n : ℕ) (t u v : List Former) (a b c : List (Option Span)) → IsBase cs n t u a b → length c ≡ length b → Extends u v b c → IsBase cs n t v a c
further cs n t u v a b c h same e =
    let split : drop n v ≡ drop n u ++ e.more = ap (drop n) e.appended ∙ drop-append-le n u e.more h.ready.room in
    let here : bounds_at n v c ≡ bounds_at n u b = ap (λ x. put_back x c) split ∙ (put_back-append (drop n u) e.more c ∙ ap (put_back (drop n u)) e.back) in
    let size : length v ≡ length u + length e.more = ap length e.appended ∙ length-append u e.more in
    let room = h.ready.room in
    record {
      ready = record {
        room = omega (arith, size, room);
        below = subst (AreBelow (length c)) (sym split) (subst (λ k. AreBelow k (drop n u ++ e.more)) (sym same) (All-append (λ former. former.variable < length b) (drop n u) e.more h.ready.below e.below));
        upright = subst AreUpright (sym here) h.ready.upright;
        variables = subst (λ k. HaveVariablesBelow k (map view cs)) (sym same) h.ready.variables;
      };
      count = same ∙ h.count;
      bounds = here ∙ h.bounds;
      trail = ap (take n) e.appended ∙ (take-append-le n u e.more room ∙ h.trail);
    }

pub behind_mark : (n i : ℕ) (t u : List Former) (b : List (Option Span)) → n ≤ length t → u ≡ take n t ++ record { variable = i; bound = bound_of b i } ∷ [] → drop n u ≡ record { variable = i; bound = bound_of b i } ∷ []
behind_mark n i t u b room taken = ap (drop n) taken ∙ drop_at (take n t) (record { variable = i; bound = bound_of b i } ∷ []) n (length-take-le n t room)

-- one variable is changed behind the mark: constraints without it aren't refused
pub quiet_after_set : OthersDontMatter → (cs : List Expr) (n i : ℕ) (s : Span) (t u : List Former) (a b c : List (Option Span)) → n ≤ length t → b ≡ put_back (drop n t) a → u ≡ take n t ++ record { variable = i; bound = bound_of b i } ∷ [] → c ≡ set b i (Some s) → AreOpen (map view cs) (bounds_at n t a) → QuietAreOpen (map view cs) (drop n u) c
quiet_after_set law cs n i s t u a b c room back taken cut unrefused k e num q =
    let f : Former = record { variable = i; bound = bound_of b i } in
    let quiet : Mentions e i → ⊥ = subst (IsQuiet e) (behind_mark n i t u b room taken) q 0 f (omega arith) in
    let same : SameBounds e b c = record {
      count = sym (ap length cut ∙ length-set b i (Some s));
      each = λ v m. sym (ap (λ x. bound_of x v) cut ∙ get_or-set_other b i v (Some s) None (λ e'. quiet (subst (Mentions e) e' m)));
    } in
    let small : k < length (map view cs) = slice_get_within (map view cs) k e num in
    let here : IsUnrefused e b = subst (IsUnrefused e) (sym back) (subst (λ d. IsUnrefused d (bounds_at n t a)) (get_or_from_slice_get (map view cs) k e e num) (unrefused k e small)) in
    subst (λ r. is_refused r ≡ false) (law.spans e b c same) here

pub changed_after_set : (n i : ℕ) (t u : List Former) (b c : List (Option Span)) → n ≤ length t → i < length c → u ≡ take n t ++ record { variable = i; bound = bound_of b i } ∷ [] → AreBelow (length c) (drop n u)
changed_after_set n i t u b c room small taken = subst (AreBelow (length c)) (sym (behind_mark n i t u b room taken)) (All-cons (λ former. former.variable < length c) (record { variable = i; bound = bound_of b i }) [] small (All-nil (λ former. former.variable < length c)))

pub room_after_set : (n i : ℕ) (t u : List Former) (b : List (Option Span)) → n ≤ length t → u ≡ take n t ++ record { variable = i; bound = bound_of b i } ∷ [] → n ≤ length u
room_after_set n i t u b room taken = let long = length-take-le n t room in omega (arith, ap length taken, length-append (take n t) (record { variable = i; bound = bound_of b i } ∷ []), long)

-- ---- values with one variable in a span

holds_of_in : (s : Span) (v : Option ℤ) → IsIn s v → Holds (Some s) v
holds_of_in s None h = absurd h
holds_of_in s (Some x) h = h

same_or_other : (i j : ℕ) → (j ≡ i) ⊎ (j ≡ i → ⊥)
same_or_other i j = grind arith

within_set : (a : List (Option Span)) (i : ℕ) (s : Span) (values : List (Option ℤ)) → i < length a → AreWithin a values → IsIn s (variable_value values i) → AreWithin (set a i (Some s)) values
within_set a i s values below within lies j small =
    elim (same_or_other i j) [
      | inl e ↦ subst (λ k. Holds (bound_of (set a i (Some s)) k) (variable_value values k)) (sym e) (subst (λ r. Holds r (variable_value values i)) (sym (get_or-set_same a i (Some s) None below)) (holds_of_in s (variable_value values i) lies))
      | inr n ↦ subst (λ r. Holds r (variable_value values j)) (sym (get_or-set_other a i j (Some s) None n)) (within j (subst (λ k. j < k) (length-set a i (Some s)) small))
    ]

-- the trial: back at the mark, a span, and narrowing
pub tried : (cs : List Expr) (n i : ℕ) (s : Span) (t u v : List Former) (a b c d : List (Option Span)) (result : Result Bool NoMemory) → IsReady cs n t a → i < length a → s.low ≤ℤ s.high → b ≡ put_back (drop n t) a → u ≡ take n t ++ record { variable = i; bound = bound_of b i } ∷ [] → c ≡ set b i (Some s) → IsStep (AreMet (map view cs)) c d u v result → (result ≡ Ok true → AreOpen (map view cs) d) → IsTried cs n i s t v a d result
tried cs n i s t u v a b c d result h below order back taken cut step unrefused =
    let size : length b ≡ length a = ap length back ∙ length-put_back (drop n t) a in
    let small : i < length b = omega (arith, size, below) in
    let first : IsBase cs n t u a c = subst (IsBase cs n t u a) (sym cut) (one_past cs n i s t u a b h small order back taken) in
    record {
      base = further cs n t u v a c d first step.narrows.count step.extends;
      refutes = λ e values within holds. step.refutes e values (start values small within holds.1) holds.0;
      keeps = λ e values within holds. step.narrows.keeps values (start values small within holds.1) holds.0;
      upright = step.narrows.upright;
      here = λ e. subst (IsInside (bound_of d i)) (ap (λ x. bound_of x i) cut ∙ get_or-set_same b i (Some s) None small) (step.narrows.inside i);
      others = λ e j n. subst (IsInside (bound_of d j)) (ap (λ x. bound_of x j) cut ∙ (get_or-set_other b i j (Some s) None n ∙ ap (λ x. bound_of x j) back)) (step.narrows.inside j);
      unrefused = unrefused;
    }
  where
    start : (values : List (Option ℤ)) → i < length b → AreWithin (bounds_at n t a) values → IsIn s (variable_value values i) → AreWithin c values
    start values small within lies = subst (λ x. AreWithin x values) (sym cut) (within_set b i s values small (subst (λ x. AreWithin x values) (sym back) within) lies)

pub upright_set : (a : List (Option Span)) (i : ℕ) (s : Span) → AreUpright a → s.low ≤ℤ s.high → AreUpright (set a i (Some s))
upright_set a i s upright order = All-set (λ b. IfSome b (λ t. t.low ≤ℤ t.high)) a i (Some s) order upright

pub not_tried : (cs : List Expr) (n i : ℕ) (s : Span) (t u : List Former) (a b : List (Option Span)) (result : Result Bool NoMemory) → IsReady cs n t a → b ≡ put_back (drop n t) a → u ≡ take n t → (result ≡ Ok false → ⊥) → (result ≡ Ok true → ⊥) → IsTried cs n i s t u a b result
not_tried cs n i s t u a b result h back taken not_false not_true =
    record {
      base = at_mark cs n t u a b h back taken;
      refutes = λ e. absurd (not_false e);
      keeps = λ e. absurd (not_true e);
      upright = subst AreUpright (sym back) h.upright;
      here = λ e. absurd (not_true e);
      others = λ e. absurd (not_true e);
      unrefused = λ e. absurd (not_true e);
    }
