-- Steps that are noted.
use Rattle.std.proofs.Common.{◌≡◌, inl, inr, ℕ, ◌+◌, ◌<◌, ◌≤◌, ℤ, List, [], ◌∷◌, ◌++◌, length, map, take, drop, reverse, get_or, Bool, false, Option, Some, None, Result, Ok, Err, refl, sym, ap, subst, ◌∙◌, append-nil, append_assoc, arith}
use Rattle.std.proofs.lemmas.List.{length-append, get_or_default, take_at, drop_at, reverse-append}
use Rattle.pst_base.specs.declared.memory.NoMemory.{NoMemory}
use Rattle.pst_expr.specs.declared.ranges.Span.{Span}
use Rattle.pst_expr.specs.declared.tree.Expr.{Expr}
use Rattle.pst_expr.specs.Tree.{Expression, view}
use Rattle.pst_narrow.specs.declared.trail.Former.{Former}
use Rattle.pst_narrow.specs.Trail.{put_back, Extends}
use Rattle.pst_narrow.specs.Solutions.{IsMet}
use Rattle.pst_narrow.specs.Narrowing.{Narrows, IsStep}
use Rattle.pst_narrow.specs.Local.{IsLocal, IsLocallyUnmet, NarrowingIsLocal}
use Rattle.pst_narrow.proofs.NarrowLemmas.{step_self}
use Rattle.pst_narrow.proofs.SettleLemmas.{numbered, changed_at_first, room_at_first}
use Rattle.pst_narrow.specs.Trail.{AreBelow}
use Rattle.pst_domain.specs.Bounds.{AreUpright}
use Rattle.pst_narrow.specs.Watch.{IsNumbered}
use Rattle.pst_reasons.specs.declared.step.Cause.TheVariants as cause
use Rattle.pst_reasons.specs.declared.step.Step.{Step}
use Rattle.pst_reasons.specs.declared.step.Given.{Given}
use Rattle.pst_reasons.specs.Explained.{IsExplainedStep, AreExplained}
use Rattle.pst_reasons.specs.Settled.{fits, KeepExplained, IsUnmetAt, IsNoted, IsAppended}

pub back_at : (t u : List Former) (a b : List (Option Span)) → Extends t u a b → put_back (drop (length t) u) b ≡ a
back_at t u a b x = ap (λ z. put_back z b) (ap (drop (length t)) x.appended ∙ drop_at t x.more (length t) refl) ∙ x.back

pub front_at : (t u : List Former) (a b : List (Option Span)) → Extends t u a b → take (length t) u ≡ t
front_at t u a b x = ap (take (length t)) x.appended ∙ take_at t x.more (length t) refl

some_is : (x y : Expression) → Some x ≡ Some y → x ≡ y
some_is x y e = cc

no_more : (xs : List Former) → length xs ≤ 0 → xs ≡ []
no_more [] h = refl
no_more (x ∷ xs) h = absurd (omega arith)

moved : NarrowingIsLocal → (es : List Expression) (given : List Given) (c : ℕ) (e : Expression) (old new : List Step) (t u : List Former) (a b : List (Option Span)) → IsNumbered es c e → new ≡ old ++ record { cause = cause.Constraint c; mark = length t } ∷ [] → Extends t u a b → Narrows (IsMet e) a b → AreExplained es given (reverse old) t a → AreExplained es given (reverse new) u b
moved law es given c e old new t u a b num is x narrows h =
    let s : Step = record { cause = cause.Constraint c; mark = length t } in
    let turned : reverse new ≡ s ∷ reverse old = ap reverse is ∙ reverse-append old (s ∷ []) in
    let step : IsExplainedStep es given s u b = record {
      room = omega (arith, ap length x.appended, length-append t x.more);
      caused = (e, num, subst (λ z. IsLocal e z b) (sym (back_at t u a b x)) (law.narrows e a b narrows));
    } in
    let older : AreExplained es given (reverse old) (take (length t) u) (put_back (drop (length t) u) b) = subst (λ z. AreExplained es given (reverse old) z (put_back (drop (length t) u) b)) (sym (front_at t u a b x)) (subst (AreExplained es given (reverse old) t) (sym (back_at t u a b x)) h) in
    subst (λ z. AreExplained es given z u b) (sym turned) (step, older)

unmoved : (es : List Expression) (given : List Given) (old new : List Step) (t u : List Former) (a b : List (Option Span)) → length u ≤ length t → new ≡ old → Extends t u a b → AreExplained es given (reverse old) t a → AreExplained es given (reverse new) u b
unmoved es given old new t u a b short is x h =
    let long : length u ≡ length t + length x.more = ap length x.appended ∙ length-append t x.more in
    let none : x.more ≡ [] = no_more x.more (omega (arith, long)) in
    let same : u ≡ t = x.appended ∙ (ap (λ z. t ++ z) none ∙ append-nil t) in
    let bounds : a ≡ b = sym x.back ∙ ap (λ z. put_back z b) none in
    subst (λ z. AreExplained es given (reverse z) u b) (sym is) (subst (λ z. AreExplained es given (reverse old) z b) (sym same) (subst (AreExplained es given (reverse old) t) bounds h))

pub noted : NarrowingIsLocal → (es : List Expression) (c : ℕ) (e : Expression) (old new : List Step) (t u : List Former) (a b : List (Option Span)) (mark : ℕ) (result : Result Bool NoMemory) → IsNumbered es c e → mark ≡ length t → IsNoted c mark u old new → IsStep (IsMet e) a b t u result → KeepExplained es old new t u a b
noted law es c e old new t u a b mark result num at told h given before =
    elim (subst (λ m. IsNoted c m u old new) at told) [
      | inl (less, is) ↦ moved law es given c e old new t u a b num is h.extends h.narrows before
      | inr (short, is) ↦ unmoved es given old new t u a b short is h.extends before
    ]

pub undone : (es : List Expression) (steps : List Step) (t v : List Former) (a d : List (Option Span)) → v ≡ t → d ≡ a → KeepExplained es steps steps t v a d
undone es steps t v a d p q given h = subst (λ z. AreExplained es given (reverse steps) z d) (sym p) (subst (AreExplained es given (reverse steps) t) (sym q) h)

pub explained_then : (es : List Expression) (p q r : List Step) (t u v : List Former) (a b d : List (Option Span)) → KeepExplained es p q t u a b → KeepExplained es q r u v b d → KeepExplained es p r t v a d
explained_then es p q r t u v a b d h k given x = k given (h given x)

-- ---- a constraint that can't hold, and what it moved taken back

pub back_is : (t u v : List Former) (a b d : List (Option Span)) (mark : ℕ) → mark ≡ length t → Extends t u a b → d ≡ put_back (drop mark u) b → v ≡ take mark u → (d ≡ a) × (v ≡ t)
back_is t u v a b d mark at x p q =
    (p ∙ (ap (λ m. put_back (drop m u) b) at ∙ back_at t u a b x), q ∙ (ap (λ m. take m u) at ∙ front_at t u a b x))

pub undone_step : (e : Expression) (t u v : List Former) (a b d : List (Option Span)) (result : Result Bool NoMemory) → AreUpright a → result ≡ Ok false → IsStep (IsMet e) a b t u result → d ≡ a → v ≡ t → IsStep (IsMet e) a d t v (Ok false)
undone_step e t u v a b d result upright false_is h p q =
    subst (λ z. IsStep (IsMet e) a z t v (Ok false)) (sym p) (subst (λ z. IsStep (IsMet e) a a t z (Ok false)) (sym q) (step_self (IsMet e) a t (Ok false) upright (λ r. h.refutes false_is)))

pub undone_unmet : NarrowingIsLocal → (es : List Expression) (c : ℕ) (e : Expression) (t u : List Former) (a b d : List (Option Span)) (result : Result Bool NoMemory) → IsNumbered es c e → result ≡ Ok false → IsStep (IsMet e) a b t u result → d ≡ a → IsUnmetAt es c d
undone_unmet law es c e t u a b d result num false_is h p = (e, num, subst (IsLocallyUnmet e) (sym p) (law.unmet e a (h.refutes false_is)))

pub undo_below : (t u : List Former) (a b : List (Option Span)) (mark : ℕ) → mark ≡ length t → length b ≡ length a → Extends t u a b → AreBelow (length b) (drop mark u)
undo_below t u a b mark at long x = subst (λ m. AreBelow (length b) (drop m u)) (sym at) (changed_at_first t u a b long x)

pub undo_room : (t u : List Former) (a b : List (Option Span)) (mark : ℕ) → mark ≡ length t → Extends t u a b → mark ≤ length u
undo_room t u a b mark at x = let room = room_at_first t u a b x in omega (arith, room, at)

-- ---- answers

pub not_false : (r : Result (Option ℕ) NoMemory) → ((o : Option ℕ) → r ≡ Ok o → ⊥) → fits r ≡ Ok false → ⊥
not_false (Ok None) h e = h None refl
not_false (Ok (Some c)) h e = h (Some c) refl
not_false (Err x) h e = absurd cc

pub same_step : (P : List (Option ℤ) → Type 0) (a b : List (Option Span)) (t u : List Former) (r q : Result Bool NoMemory) → r ≡ q → IsStep P a b t u r → IsStep P a b t u q
same_step P a b t u r q e h = subst (IsStep P a b t u) e h

pub same_numbered : (es : List Expression) (i : ℕ) (d e : Expression) → IsNumbered es i d → IsNumbered es i e → d ≡ e
same_numbered es i d e p q = some_is d e (sym p ∙ q)

pub step_of : (es : List Expression) (c : ℕ) (d e : Expression) (a b : List (Option Span)) (t u : List Former) (r : Result Bool NoMemory) → IsNumbered es c d → IsNumbered es c e → IsStep (IsMet d) a b t u r → IsStep (IsMet e) a b t u r
step_of es c d e a b t u r p q h = subst (λ z. IsStep (IsMet z) a b t u r) (same_numbered es c d e p q) h

-- ---- a constraint by its number

pub item : (xs : List Expr) (n : ℕ) → n < length xs → (x : Expr) × (x ≡ get_or xs n x)
item [] n h = absurd (omega arith)
item (x ∷ xs) n h = (get_or (x ∷ xs) n x, get_or_default (x ∷ xs) n x (get_or (x ∷ xs) n x) h)

pub item_numbered : (xs : List Expr) (n : ℕ) (h : n < length xs) → IsNumbered (map view xs) n (view (item xs n h).0)
item_numbered xs n h = numbered xs n (item xs n h).0 h (item xs n h).1

pub ok_some_is : (m n : ℕ) → (let r : Result (Option ℕ) NoMemory = Ok (Some m) in r ≡ Ok (Some n)) → m ≡ n
ok_some_is m n e = cc

-- ---- steps are only appended

pub appended_none : (xs : List Step) → IsAppended xs xs
appended_none xs = record { more = []; is = sym (append-nil xs) }

pub appended_same : (xs ys : List Step) → ys ≡ xs → IsAppended xs ys
appended_same xs ys e = record { more = []; is = e ∙ sym (append-nil xs) }

pub appended_then : (xs ys zs : List Step) → IsAppended xs ys → IsAppended ys zs → IsAppended xs zs
appended_then xs ys zs p q = record { more = p.more ++ q.more; is = q.is ∙ (ap (λ w. w ++ q.more) p.is ∙ append_assoc xs p.more q.more) }

pub noted_appended : (c mark : ℕ) (t : List Former) (xs ys : List Step) → IsNoted c mark t xs ys → IsAppended xs ys
noted_appended c mark t xs ys (inl h) = record { more = record { cause = cause.Constraint c; mark = mark } ∷ []; is = h.1 }
noted_appended c mark t xs ys (inr h) = appended_same xs ys h.1
