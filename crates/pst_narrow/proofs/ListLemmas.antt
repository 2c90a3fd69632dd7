-- Narrowing by a list of constraints.
use Rattle.std.proofs.Common.{◌≡◌, ℕ, ◌<◌, ◌≤◌, ◌+◌, ◌≤ℤ◌, ℤ, pos, ◌+ℤ◌, List, length, map, get_or, Bool, true, false, Option, Some, None, Result, Ok, All, IfSome, refl, sym, subst, arith, below_more}
use Rattle.std.proofs.lemmas.Int.{ints}
use Rattle.std.proofs.lemmas.List.{get_or-map, get_or_read, length-map}
use Rattle.std.proofs.lemmas.List.Elements.{All-map}
use Rattle.pst_base.specs.declared.memory.NoMemory.{NoMemory}
use Rattle.pst_expr.specs.declared.ranges.Span.{Span}
use Rattle.pst_expr.specs.declared.tree.Expr.{Expr}
use Rattle.pst_expr.specs.declared.tree.BinaryOp.TheVariants.{Less, LessOrEqual, Greater, GreaterOrEqual, Equal}
use Rattle.pst_expr.specs.Tree.{Expression, Constant, Variable, Unary, Binary, Element, view}
use Rattle.pst_domain.specs.Bounds.{bound_of, AreUpright, AreInside, IsInside}
use Rattle.pst_expr.specs.Value.{value}
use Rattle.pst_domain.specs.Laws.{IsNeverTrue}
use Rattle.pst_domain.specs.Interval.{interval, is_refused}
use Rattle.pst_narrow.specs.declared.trail.Former.{Former}
use Rattle.pst_narrow.specs.Solutions.{IsMet, IsTruth, AreMet}
use Rattle.pst_narrow.specs.Narrowing.{IsStep, HaveNone, AreOpen}
use Rattle.pst_narrow.specs.Cuts.{side, IsCut, IsCutEqual, CutIsMade, CutsAreMade}
use Rattle.pst_narrow.proofs.NarrowLemmas.{inside_self, inside_then, step_self, step_then, step_true}

-- what holds of each constraint holds of the one at an index
pub at : (P : Expression → Type 0) (xs : List Expr) (i : ℕ) (x : Expr) → i < length xs → x ≡ get_or xs i x → All P (map view xs) → P (view x)
at P xs i x below is all =
    let mapped = get_or-map view xs i x (view x) below in
    subst (λ y. P (view y)) (sym is) (subst P mapped (all i (view x) (subst (λ n. i < n) (sym (length-map xs view)) below)))

-- ---- cuts stay

side_inside : (p : Expression) (b c : List (Option Span)) → AreInside c b → IsInside (side p c) (side p b)
side_inside (Constant n) b c h = inside_self (side (Constant n) c)
side_inside (Variable i) b c h = h i
side_inside (Unary op p) b c h = inside_self (side (Unary op p) c)
side_inside (Binary op p q) b c h = inside_self (side (Binary op p q) c)
side_inside (Element i k p) b c h = inside_self (side (Element i k p) c)

-- a span inside bounds that end at most there
ends_by : (s : Span) (r : Option Span) (gap most : ℤ) → IsInside (Some s) r → ((t : Span) → r ≡ Some t → (t.high +ℤ gap) ≤ℤ most) → (s.high +ℤ gap) ≤ℤ most
ends_by s None gap most h k = absurd h
ends_by s (Some t) gap most h k = let a = k t refl in omega (arith, ints, h.1, a)

begins_at : (s : Span) (r : Option Span) (least : ℤ) → IsInside (Some s) r → ((t : Span) → r ≡ Some t → least ≤ℤ t.low) → least ≤ℤ s.low
begins_at s None least h k = absurd h
begins_at s (Some t) least h k = let a = k t refl in omega (arith, ints, h.0, a)

cut_stays : (gap : ℤ) (p q : Expression) (a b c : List (Option Span)) → AreInside c b → IsCut gap p q a b → IsCut gap p q a c
cut_stays gap p q a b c h cut =
    record {
      high = λ s t e f. ends_by s (side p b) gap t.high (subst (λ r. IsInside r (side p b)) e (side_inside p b c h)) (λ u g. cut.high u t g f);
      low = λ s t e f. begins_at t (side q b) (s.low +ℤ gap) (subst (λ r. IsInside r (side q b)) f (side_inside q b c h)) (λ u g. cut.low s u e g);
    }

equal_cut_stays : (p q : Expression) (a b c : List (Option Span)) → AreInside c b → IsCutEqual p q a b → IsCutEqual p q a c
equal_cut_stays p q a b c h cut =
    record {
      left = inside_then (side p c) (side p b) (side q a) (side_inside p b c h) cut.left;
      right = inside_then (side q c) (side q b) (side p a) (side_inside q b c h) cut.right;
    }

-- the cuts of bounds inside others, none of which was lost
side_there : (p : Expression) (a b : List (Option Span)) → ((i : ℕ) → bound_of b i ≡ None → bound_of a i ≡ None) → side p b ≡ None → side p a ≡ None
side_there (Constant n) a b there e = absurd cc
side_there (Variable i) a b there e = there i e
side_there (Unary op p) a b there e = absurd cc
side_there (Binary op p q) a b there e = absurd cc
side_there (Element i k p) a b there e = absurd cc

cut_earlier : (gap : ℤ) (p q : Expression) (a b c : List (Option Span)) → AreInside b a → ((i : ℕ) → bound_of b i ≡ None → bound_of a i ≡ None) → IsCut gap p q b c → IsCut gap p q a c
cut_earlier gap p q a b c h there cut =
    record {
      high = λ s t e f. high s t e f (side q b) refl;
      low = λ s t e f. low s t e f (side p b) refl;
    }
  where
    high : (s t : Span) → side p c ≡ Some s → side q a ≡ Some t → (r : Option Span) → side q b ≡ r → (s.high +ℤ gap) ≤ℤ t.high
    high s t e f None g = absurd (let n = side_there q a b there g in cc)
    high s t e f (Some u) g =
        let inner = cut.high s u e g in
        let outer : IsInside (Some u) (Some t) = subst (λ r. IsInside r (Some t)) g (subst (IsInside (side q b)) f (side_inside q a b h)) in
        omega (arith, ints, inner, outer.1)

    low : (s t : Span) → side p a ≡ Some s → side q c ≡ Some t → (r : Option Span) → side p b ≡ r → (s.low +ℤ gap) ≤ℤ t.low
    low s t e f None g = absurd (let n = side_there p a b there g in cc)
    low s t e f (Some u) g =
        let inner = cut.low u t g f in
        let outer : IsInside (Some u) (Some s) = subst (λ r. IsInside r (Some s)) g (subst (IsInside (side p b)) e (side_inside p a b h)) in
        omega (arith, ints, inner, outer.0)

equal_cut_earlier : (p q : Expression) (a b c : List (Option Span)) → AreInside b a → IsCutEqual p q b c → IsCutEqual p q a c
equal_cut_earlier p q a b c h cut =
    record {
      left = inside_then (side p c) (side q b) (side q a) cut.left (side_inside q a b h);
      right = inside_then (side q c) (side p b) (side p a) cut.right (side_inside p a b h);
    }

-- cuts of earlier bounds, and at later ones
pub made_stays : (e : Expression) (a b c : List (Option Span)) → AreInside c b → CutIsMade e a b → CutIsMade e a c
made_stays (Constant n) a b c h cut = tt
made_stays (Variable i) a b c h cut = tt
made_stays (Unary op p) a b c h cut = tt
made_stays (Element i k p) a b c h cut = tt
made_stays (Binary Less p q) a b c h cut = λ left right. cut_stays (pos 1) p q a b c h (cut left right)
made_stays (Binary LessOrEqual p q) a b c h cut = λ left right. cut_stays (pos 0) p q a b c h (cut left right)
made_stays (Binary Greater p q) a b c h cut = λ left right. cut_stays (pos 1) q p a b c h (cut left right)
made_stays (Binary GreaterOrEqual p q) a b c h cut = λ left right. cut_stays (pos 0) q p a b c h (cut left right)
made_stays (Binary Equal p q) a b c h cut = λ left right. equal_cut_stays p q a b c h (cut left right)
made_stays (Binary _ p q) a b c h cut = tt

pub made_earlier : (e : Expression) (a b c : List (Option Span)) → AreInside b a → ((i : ℕ) → bound_of b i ≡ None → bound_of a i ≡ None) → CutIsMade e b c → CutIsMade e a c
made_earlier (Constant n) a b c h there cut = tt
made_earlier (Variable i) a b c h there cut = tt
made_earlier (Unary op p) a b c h there cut = tt
made_earlier (Element i k p) a b c h there cut = tt
made_earlier (Binary Less p q) a b c h there cut = λ left right. cut_earlier (pos 1) p q a b c h there (cut left right)
made_earlier (Binary LessOrEqual p q) a b c h there cut = λ left right. cut_earlier (pos 0) p q a b c h there (cut left right)
made_earlier (Binary Greater p q) a b c h there cut = λ left right. cut_earlier (pos 1) q p a b c h there (cut left right)
made_earlier (Binary GreaterOrEqual p q) a b c h there cut = λ left right. cut_earlier (pos 0) q p a b c h there (cut left right)
made_earlier (Binary Equal p q) a b c h there cut = λ left right. equal_cut_earlier p q a b c h (cut left right)
made_earlier (Binary _ p q) a b c h there cut = tt

pub all_stay : (es : List Expression) (a b c : List (Option Span)) → AreInside c b → CutsAreMade es a b → CutsAreMade es a c
all_stay es a b c h cuts k d below = made_stays (get_or es k d) a b c h (cuts k d below)

-- ---- one constraint after another

pub record AreRevised (xs : List Expr) (i : ℕ) (a b : List (Option Span)) (t u : List Former) : Type 0 where
  pub step : IsStep (AreMet (map view xs)) a b t u (Ok true)
  pub cuts : (k : ℕ) → k < i → (d : Expr) → CutIsMade (view (get_or xs k d)) a b

pub none_revised : (xs : List Expr) (a : List (Option Span)) (t : List Former) → AreUpright a → AreRevised xs 0 a a t t
none_revised xs a t upright = record { step = step_self (AreMet (map view xs)) a t (Ok true) upright (λ e. absurd cc); cuts = λ k h. absurd (omega arith) }

-- a further constraint, whatever came of it
pub one_step : (xs : List Expr) (i : ℕ) (x : Expr) (a b c : List (Option Span)) (t u v : List Former) (result : Result Bool NoMemory) → i < length xs → x ≡ get_or xs i x → AreRevised xs i a b t u → IsStep (IsMet (view x)) b c u v result → IsStep (AreMet (map view xs)) a c t v result
one_step xs i x a b c t u v result below is h k =
    step_then (AreMet (map view xs)) (IsMet (view x)) a b c t u v (Ok true) result h.step k (λ values holds within. at (λ e. IsMet e values) xs i x below is holds)

pub one_revised : (xs : List Expr) (i : ℕ) (x : Expr) (a b c : List (Option Span)) (t u v : List Former) (result : Result Bool NoMemory) → i < length xs → x ≡ get_or xs i x → AreRevised xs i a b t u → IsStep (IsMet (view x)) b c u v result → CutIsMade (view x) b c → AreRevised xs (i + 1) a c t v
one_revised xs i x a b c t u v result below is h k cut =
    record {
      step = step_true (AreMet (map view xs)) a c t v result (one_step xs i x a b c t u v result below is h k);
      cuts = below_more (λ k. (d : Expr) → CutIsMade (view (get_or xs k d)) a c) i
          (λ j small d. made_stays (view (get_or xs j d)) a b c k.narrows.inside (h.cuts j small d))
          (λ d. subst (λ y. CutIsMade (view y) a c) (get_or_read xs i x below is d) (made_earlier (view x) a b c h.step.narrows.inside h.step.narrows.there cut));
    }

pub all_revised : (xs : List Expr) (i : ℕ) (a b : List (Option Span)) (t u : List Former) → length xs ≤ i → AreRevised xs i a b t u → CutsAreMade (map view xs) a b
all_revised xs i a b t u end h = All-map (λ e. CutIsMade e a b) view xs (λ k d below. h.cuts k (omega arith) d)

-- ---- refused ones

pub never_met : (v : Option ℤ) → IfSome v (λ z. z ≡ pos 0) → IsTruth v → ⊥
never_met None h k = k
never_met (Some z) h k = k h

pub one_refused : (xs : List Expr) (i : ℕ) (x : Expr) (a : List (Option Span)) → i < length xs → x ≡ get_or xs i x → IsNeverTrue (view x) a → HaveNone (AreMet (map view xs)) a
one_refused xs i x a below is never values within holds = never_met (value (view x) values) (never values within) (at (λ e. IsMet e values) xs i x below is holds)

abbrev pub AreOpenBelow : List Expr → ℕ → List (Option Span) → Type 0
AreOpenBelow xs i a = (k : ℕ) → k < i → (d : Expr) → is_refused (interval (view (get_or xs k d)) a) ≡ false

pub one_open : (xs : List Expr) (i : ℕ) (x : Expr) (a : List (Option Span)) → i < length xs → x ≡ get_or xs i x → AreOpenBelow xs i a → is_refused (interval (view x) a) ≡ false → AreOpenBelow xs (i + 1) a
one_open xs i x a below is h here =
    below_more (λ k. (d : Expr) → is_refused (interval (view (get_or xs k d)) a) ≡ false) i h
    (λ d. subst (λ y. is_refused (interval (view y) a) ≡ false) (get_or_read xs i x below is d) here)

pub all_open : (xs : List Expr) (i : ℕ) (a : List (Option Span)) → length xs ≤ i → AreOpenBelow xs i a → AreOpen (map view xs) a
all_open xs i a end h = All-map (λ e. is_refused (interval e a) ≡ false) view xs (λ k d below. h k (omega arith) d)
