-- What a logical operator says of its operands where it is met.
use Rattle.std.proofs.Common.{◌≡◌, ◌≢◌, ℤ, pos, ◌<ℤ◌, Bool, true, false, cond, List, Option, Some, None, option_map, IfSome, Result, refl, ap, arith}
use Rattle.std.proofs.lemmas.Int.{ints}
use Rattle.std.proofs.lemmas.Bool.Decides.{Decides-int_eq}
use Rattle.pst_base.specs.declared.memory.NoMemory.{NoMemory}
use Rattle.pst_expr.specs.declared.ranges.Span.{Span}
use Rattle.pst_expr.specs.declared.tree.UnaryOp.TheVariants.{Not}
use Rattle.pst_expr.specs.declared.tree.BinaryOp.TheVariants.{And, Or, Implies}
use Rattle.pst_expr.specs.Spans.{IsInSpan}
use Rattle.pst_expr.specs.Tree.{Expression, Binary}
use Rattle.pst_expr.specs.Value.{value, unary_value, number_of, is_false, truth_of, by_left}
use Rattle.pst_domain.specs.Bounds.{Holds}
use Rattle.pst_domain.specs.Laws.{IsNeverTrue, HoldsValues}
use Rattle.pst_narrow.specs.declared.trail.Former.{Former}
use Rattle.pst_narrow.specs.Solutions.{IsMet, IsTruth}
use Rattle.pst_operands.specs.Keeps.{KeepsOperand}
use Rattle.pst_narrow.specs.Narrowing.{IsStep, IsIn, GivesIn}
use Rattle.pst_narrow.specs.Logic.{IsSurelyTrue, GivesTruthIn}
use Rattle.pst_narrow.proofs.NarrowLemmas.{step_from, step_then}

-- a number whose truth is a truth is one
truth_is : (y : ℤ) → IsTruth (Some (truth_of y)) → y ≢ pos 0
truth_is y h e = h (ap truth_of e)

mapped_is : (b : Option ℤ) → IsTruth (option_map truth_of b) → IsTruth b
mapped_is None h = h
mapped_is (Some y) h = truth_is y h

pub true_number : (x : ℤ) → is_false x ≡ false → x ≢ pos 0
true_number x e is = absurd (let k : is_false x ≡ true = ap is_false is in cc)

-- ---- plain values

both_hold : (x : ℤ) (b : Option ℤ) (c : Bool) → is_false x ≡ c → IsTruth (cond c (Some (pos 0)) (option_map truth_of b)) → IsTruth (Some x) × IsTruth b
both_hold x b true e h = absurd (h refl)
both_hold x b false e h = (true_number x e, mapped_is b h)

either_right : (x : ℤ) (b : Option ℤ) (c : Bool) → is_false x ≡ c → x ≡ pos 0 → IsTruth (cond c (option_map truth_of b) (Some (pos 1))) → IsTruth b
either_right x b true e zero h = mapped_is b h
either_right x b false e zero h = absurd (true_number x e zero)

no_truth : (b : Option ℤ) → IfSome b (λ v. v ≡ pos 0) → IsTruth b → ⊥
no_truth None h k = k
no_truth (Some y) h k = k h

either_left : (x : ℤ) (b : Option ℤ) (c : Bool) → is_false x ≡ c → IfSome b (λ v. v ≡ pos 0) → IsTruth (cond c (option_map truth_of b) (Some (pos 1))) → IsTruth (Some x)
either_left x b true e zero h = absurd (no_truth b zero (mapped_is b h))
either_left x b false e zero h = true_number x e

implied : (x : ℤ) (b : Option ℤ) (c : Bool) → is_false x ≡ c → x ≢ pos 0 → IsTruth (cond c (Some (pos 1)) (option_map truth_of b)) → IsTruth b
implied x b false e some h = mapped_is b h
implied x b true e some h = absurd (some (zero_number x e))
  where
    zero_number : (z : ℤ) → is_false z ≡ true → z ≡ pos 0
    zero_number z t = (Decides-int_eq z (pos 0)).0 t

-- ---- expressions

pub and_of : (a b : Option ℤ) → IsTruth (by_left a (option_map truth_of b) (Some (pos 0))) → IsTruth a × IsTruth b
and_of None b h = absurd h
and_of (Some x) b h = both_hold x b (is_false x) refl h

pub or_right_of : (a b : Option ℤ) → IfSome a (λ v. v ≡ pos 0) → IsTruth (by_left a (Some (pos 1)) (option_map truth_of b)) → IsTruth b
or_right_of None b z h = absurd h
or_right_of (Some x) b z h = either_right x b (is_false x) refl z h

pub or_left_of : (a b : Option ℤ) → IfSome b (λ v. v ≡ pos 0) → IsTruth (by_left a (Some (pos 1)) (option_map truth_of b)) → IsTruth a
or_left_of None b z h = absurd h
or_left_of (Some x) b z h = either_left x b (is_false x) refl z h

pub implies_of : (a b : Option ℤ) → IfSome a (λ v. v ≢ pos 0) → IsTruth (by_left a (option_map truth_of b) (Some (pos 1))) → IsTruth b
implies_of None b s h = absurd h
implies_of (Some x) b s h = implied x b (is_false x) refl s h

pub and_step : (p q : Expression) (a b c : List (Option Span)) (t u v : List Former) (first second : Result Bool NoMemory) → IsStep (IsMet q) a b t u first → IsStep (IsMet p) b c u v second → IsStep (IsMet (Binary And p q)) a c t v second
and_step p q a b c t u v first second h k =
    step_then (IsMet (Binary And p q)) (IsMet p) a b c t u v first second
    (step_from (IsMet (Binary And p q)) (IsMet q) a b t u first h (λ values met within. (and_of (value p values) (value q values) met).1))
    k (λ values met within. (and_of (value p values) (value q values) met).0)

pub and_first : (p q : Expression) (a b : List (Option Span)) (t u : List Former) (first : Result Bool NoMemory) → IsStep (IsMet q) a b t u first → IsStep (IsMet (Binary And p q)) a b t u first
and_first p q a b t u first h = step_from (IsMet (Binary And p q)) (IsMet q) a b t u first h (λ values met within. (and_of (value p values) (value q values) met).1)

pub or_right : (p q : Expression) (a b : List (Option Span)) (t u : List Former) (r : Result Bool NoMemory) → IsNeverTrue p a → IsStep (IsMet q) a b t u r → IsStep (IsMet (Binary Or p q)) a b t u r
or_right p q a b t u r never h = step_from (IsMet (Binary Or p q)) (IsMet q) a b t u r h (λ values met within. or_right_of (value p values) (value q values) (never values within) met)

pub or_left : (p q : Expression) (a b : List (Option Span)) (t u : List Former) (r : Result Bool NoMemory) → IsNeverTrue q a → IsStep (IsMet p) a b t u r → IsStep (IsMet (Binary Or p q)) a b t u r
or_left p q a b t u r never h = step_from (IsMet (Binary Or p q)) (IsMet p) a b t u r h (λ values met within. or_left_of (value p values) (value q values) (never values within) met)

pub implies_right : (p q : Expression) (a b : List (Option Span)) (t u : List Former) (r : Result Bool NoMemory) → IsSurelyTrue p a → IsStep (IsMet q) a b t u r → IsStep (IsMet (Binary Implies p q)) a b t u r
implies_right p q a b t u r sure h = step_from (IsMet (Binary Implies p q)) (IsMet q) a b t u r h (λ values met within. implies_of (value p values) (value q values) (sure values within) met)

-- ---- a span without 0

above : (s : Span) (v : Option ℤ) → pos 0 <ℤ s.low → Holds (Some s) v → IfSome v (λ x. x ≢ pos 0)
above s None e h = tt
above s (Some x) e h = λ is. omega (arith, ints, e, h.0, is)

under : (s : Span) (v : Option ℤ) → s.high <ℤ pos 0 → Holds (Some s) v → IfSome v (λ x. x ≢ pos 0)
under s None e h = tt
under s (Some x) e h = λ is. omega (arith, ints, e, h.1, is)

pub surely_above : (e : Expression) (bounds : List (Option Span)) (s : Span) → pos 0 <ℤ s.low → HoldsValues (Some s) e bounds → IsSurelyTrue e bounds
surely_above e bounds s t h values within = above s (value e values) t (h values within)

pub surely_under : (e : Expression) (bounds : List (Option Span)) (s : Span) → s.high <ℤ pos 0 → HoldsValues (Some s) e bounds → IsSurelyTrue e bounds
surely_under e bounds s t h values within = under s (value e values) t (h values within)

-- ---- what is false, and what is true in a span

abbrev pub nothing_true : Span
nothing_true = record { low = pos 0; high = pos 0 }

pub zero_in : (x : ℤ) → x ≡ pos 0 → IsInSpan x nothing_true
zero_in x e = (omega (arith, ints, e), omega (arith, ints, e))

unimplied : (x : ℤ) (b : Option ℤ) (c : Bool) → is_false x ≡ c → IfSome b (λ v. v ≡ pos 0) → IsTruth (cond c (Some (pos 1)) (option_map truth_of b)) → IsInSpan x nothing_true
unimplied x b true e z h = zero_in x ((Decides-int_eq x (pos 0)).0 e)
unimplied x b false e z h = absurd (no_truth b z (mapped_is b h))

pub implies_false_of : (a b : Option ℤ) → IfSome b (λ v. v ≡ pos 0) → IsTruth (by_left a (option_map truth_of b) (Some (pos 1))) → IsIn nothing_true a
implies_false_of None b z h = absurd h
implies_false_of (Some x) b z h = unimplied x b (is_false x) refl z h

pub implies_left : (p q : Expression) (a b : List (Option Span)) (t u : List Former) (r : Result Bool NoMemory) → IsNeverTrue q a → IsStep (GivesIn p (record { low = pos 0; high = pos 0 })) a b t u r → IsStep (IsMet (Binary Implies p q)) a b t u r
implies_left p q a b t u r never h = step_from (IsMet (Binary Implies p q)) (GivesIn p (record { low = pos 0; high = pos 0 })) a b t u r h (λ values met within. implies_false_of (value p values) (value q values) (never values within) met)

pub not_false : (x : ℤ) → x ≢ pos 0 → is_false x ≡ false
not_false x h = go (is_false x) refl
  where
    go : (c : Bool) → is_false x ≡ c → c ≡ false
    go true e = absurd (h ((Decides-int_eq x (pos 0)).0 e))
    go false e = refl

true_in : (s new : Span) → KeepsOperand (unary_value Not) s nothing_true new → (v : Option ℤ) → Holds (Some s) v → IsTruth v → IsIn new v
true_in s new keeps None h m = absurd m
true_in s new keeps (Some x) h m = keeps x (pos 0) h (zero_in (pos 0) refl) (ap (λ b. Some (number_of b)) (not_false x m))

pub truth_gives : (e : Expression) (bounds : List (Option Span)) (s new : Span) → HoldsValues (Some s) e bounds → KeepsOperand (unary_value Not) s (record { low = pos 0; high = pos 0 }) new → GivesTruthIn e new bounds
truth_gives e bounds s new sound keeps values within met = true_in s new keeps (value e values) (sound values within) met
