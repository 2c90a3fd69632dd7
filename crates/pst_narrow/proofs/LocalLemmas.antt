-- What a constraint narrows rests on the bounds of its own variables alone.
use Rattle.std.proofs.Common.{◌≡◌, ⊎_elim, ℕ, zero, suc, ℤ, ◌≤ℤ◌, int_le, ◌&&◌, Bool, true, false, cond, List, [], ◌∷◌, length, Option, Some, None, refl, sym, ap, subst, ◌∙◌, arith}
use Rattle.std.proofs.lemmas.Int.{ints}
use Rattle.std.proofs.lemmas.Bool.{cases_lt, and_parts}
use Rattle.std.proofs.lemmas.List.{get_or_past}
use Rattle.pst_expr.specs.declared.ranges.Span.{Span}
use Rattle.pst_expr.specs.Tree.{Expression}
use Rattle.pst_expr.specs.Value.{variable_value}
use Rattle.pst_domain.specs.Bounds.{bound_of, Holds, AreWithin}
use Rattle.pst_narrow.specs.Solutions.{IsMet, IsTruth}
use Rattle.pst_narrow.specs.Narrowing.{Narrows, HaveNone}
use Rattle.pst_narrow.specs.Local.{LiesWithin, LieWithin, IsLocal, IsLocallyUnmet, NarrowingIsLocal}
use Rattle.pst_narrow.proofs.MentionLemmas.{values_same}

-- a value where it lies in a span, else none
abbrev chosen : Option Span → Option ℤ → Option ℤ
chosen b None = None
chosen None (Some x) = None
chosen (Some s) (Some x) = cond (int_le s.low x && int_le x s.high) (Some x) None

abbrev fitted : List (Option Span) → List (Option ℤ) → List (Option ℤ)
fitted [] values = []
fitted (b ∷ bounds) [] = None ∷ fitted bounds []
fitted (b ∷ bounds) (v ∷ values) = chosen b v ∷ fitted bounds values

chosen_nothing : (b : Option Span) → chosen b None ≡ None
chosen_nothing None = refl
chosen_nothing (Some s) = refl

no_span : (v : Option ℤ) → None ≡ chosen None v
no_span None = refl
no_span (Some x) = refl

fitted_at : (bounds : List (Option Span)) (values : List (Option ℤ)) (i : ℕ) → variable_value (fitted bounds values) i ≡ chosen (bound_of bounds i) (variable_value values i)
fitted_at [] values i = no_span (variable_value values i)
fitted_at (b ∷ bounds) [] zero = sym (chosen_nothing b)
fitted_at (b ∷ bounds) [] (suc i) = fitted_at bounds [] i
fitted_at (b ∷ bounds) (v ∷ values) zero = refl
fitted_at (b ∷ bounds) (v ∷ values) (suc i) = fitted_at bounds values i

by_le : (a b : ℤ) → int_le a b ≡ true → a ≤ℤ b
by_le a b t = omega (arith, ints, t)

le_test : (a b : ℤ) → a ≤ℤ b → int_le a b ≡ true
le_test a b h = grind (arith, ints)

and_true : (a b : Bool) → a ≡ true → b ≡ true → (a && b) ≡ true
and_true true true e f = refl
and_true true false e f = absurd cc
and_true false b e f = absurd cc

chosen_holds : (b : Option Span) (v : Option ℤ) → Holds b (chosen b v)
chosen_holds None None = tt
chosen_holds (Some s) None = tt
chosen_holds None (Some x) = tt
chosen_holds (Some s) (Some x) = go (int_le s.low x && int_le x s.high) refl
  where
    go : (t : Bool) → (int_le s.low x && int_le x s.high) ≡ t → Holds (Some s) (cond t (Some x) None)
    go false e = tt
    go true e = let parts = and_parts (int_le s.low x) (int_le x s.high) e in (by_le s.low x parts.0, by_le x s.high parts.1)

chosen_same : (b : Option Span) (v : Option ℤ) → Holds b v → chosen b v ≡ v
chosen_same None None h = refl
chosen_same (Some s) None h = refl
chosen_same None (Some x) h = absurd h
chosen_same (Some s) (Some x) h = ap (λ t. cond t (Some x) None) (and_true (int_le s.low x) (int_le x s.high) (le_test s.low x h.0) (le_test x s.high h.1))

fitted_within : (bounds : List (Option Span)) (values : List (Option ℤ)) → AreWithin bounds (fitted bounds values)
fitted_within bounds values i small = subst (Holds (bound_of bounds i)) (sym (fitted_at bounds values i)) (chosen_holds (bound_of bounds i) (variable_value values i))

fitted_same : (bounds : List (Option Span)) (values : List (Option ℤ)) (v : ℕ) → LiesWithin bounds values v → variable_value (fitted bounds values) v ≡ variable_value values v
fitted_same bounds values v h = fitted_at bounds values v ∙ chosen_same (bound_of bounds v) (variable_value values v) h

fitted_met : (e : Expression) (bounds : List (Option Span)) (values : List (Option ℤ)) → IsMet e values → LieWithin bounds values e → IsMet e (fitted bounds values)
fitted_met e bounds values met lie = subst IsTruth (sym (values_same e (fitted bounds values) values (λ v m. fitted_same bounds values v (lie v m)))) met

local_narrows : (e : Expression) (a b : List (Option Span)) → Narrows (IsMet e) a b → IsLocal e a b
local_narrows e a b h values met lie v here =
    ⊎_elim
    (λ less.
    let within = h.keeps (fitted a values) (fitted_within a values) (fitted_met e a values met lie) in
    subst (Holds (bound_of b v)) (fitted_same a values v here) (within v less))
    (λ past.
    let count = h.count in
    let none_a : bound_of a v ≡ None = get_or_past a v None (omega (arith, count, past)) in
    let none_b : bound_of b v ≡ None = get_or_past b v None past in
    subst (λ r. Holds r (variable_value values v)) (none_a ∙ sym none_b) here)
    (cases_lt v (length b))

local_unmet : (e : Expression) (a : List (Option Span)) → HaveNone (IsMet e) a → IsLocallyUnmet e a
local_unmet e a none values met lie = none (fitted a values) (fitted_within a values) (fitted_met e a values met lie)

pub narrowing_is_local : NarrowingIsLocal
narrowing_is_local = record { narrows = local_narrows; unmet = local_unmet }
