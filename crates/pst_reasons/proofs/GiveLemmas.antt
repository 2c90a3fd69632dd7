-- A span that is given.
use Rattle.std.proofs.Common.{◌≡◌, ℕ, zero, suc, ◌<◌, ◌≤◌, ◌≤ℤ◌, List, [], ◌∷◌, ◌++◌, length, take, drop, set, reverse, false, Option, Some, None, All, IfSome, refl, sym, ap, subst, ◌∙◌, arith}
use Rattle.std.specs.Prelude.{slice_get}
use Rattle.std.proofs.lemmas.List.{length-set, length-append, take_at, drop_at, reverse-append, set-set, set-get_or, get_or-set_same, get_or-set_other}
use Rattle.std.proofs.lemmas.List.Elements.{All-set, All-cons, All-nil}
use Rattle.std.proofs.lemmas.Option.{slice_get_within, get_or_from_slice_get}
use Rattle.pst_expr.specs.declared.ranges.Span.{Span}
use Rattle.pst_expr.specs.Tree.{Expression}
use Rattle.pst_domain.specs.Bounds.{bound_of, AreUpright}
use Rattle.pst_domain.specs.Interval.{is_refused}
use Rattle.pst_narrow.specs.declared.trail.Former.{Former}
use Rattle.pst_narrow.specs.Trail.{put_back, AreBelow}
use Rattle.pst_narrow.specs.Narrowing.{AreOpen}
use Rattle.pst_narrow.specs.Mentions.{Mentions, SameBounds, OthersDontMatter}
use Rattle.pst_narrow.specs.Settled.{IsQuiet, IsUnrefused, QuietAreOpen}
use Rattle.pst_reasons.specs.declared.step.Cause.{Cause}
use Rattle.pst_reasons.specs.declared.step.Cause.TheVariants as cause
use Rattle.pst_reasons.specs.declared.step.Step.{Step}
use Rattle.pst_reasons.specs.declared.step.Given.{Given}
use Rattle.pst_reasons.specs.Explained.{IsCausedBy, IsExplainedStep, AreExplained}

abbrev pub change : ℕ → List (Option Span) → Former
change i b = record { variable = i; bound = bound_of b i }

behind : (t u : List Former) (f : Former) → u ≡ t ++ f ∷ [] → drop (length t) u ≡ f ∷ []
behind t u f is = ap (drop (length t)) is ∙ drop_at t (f ∷ []) (length t) refl

pub given_quiet : OthersDontMatter → (es : List Expression) (i : ℕ) (s : Span) (t u : List Former) (a b : List (Option Span)) → u ≡ t ++ change i a ∷ [] → b ≡ set a i (Some s) → AreOpen es a → QuietAreOpen es (drop (length t) u) b
given_quiet law es i s t u a b is cut unrefused k e num q =
    let quiet : Mentions e i → ⊥ = subst (IsQuiet e) (behind t u (change i a) is) q 0 (change i a) (omega arith) in
    let same : SameBounds e a b = record {
      count = sym (ap length cut ∙ length-set a i (Some s));
      each = λ v m. sym (ap (λ x. bound_of x v) cut ∙ get_or-set_other a i v (Some s) None (λ e'. quiet (subst (Mentions e) e' m)));
    } in
    let small : k < length es = slice_get_within es k e num in
    let here : IsUnrefused e a = subst (λ d. IsUnrefused d a) (get_or_from_slice_get es k e e num) (unrefused k e small) in
    subst (λ r. is_refused r ≡ false) (law.spans e a b same) here

pub given_below : (i : ℕ) (t u : List Former) (a b : List (Option Span)) → u ≡ t ++ change i a ∷ [] → i < length b → AreBelow (length b) (drop (length t) u)
given_below i t u a b is small = subst (AreBelow (length b)) (sym (behind t u (change i a) is)) (All-cons (λ former. former.variable < length b) (change i a) [] small (All-nil (λ former. former.variable < length b)))

pub given_room : (i : ℕ) (t u : List Former) (a : List (Option Span)) → u ≡ t ++ change i a ∷ [] → length t ≤ length u
given_room i t u a is = omega (arith, ap length is, length-append t (change i a ∷ []))

pub given_upright : (a b : List (Option Span)) (i : ℕ) (s : Span) → b ≡ set a i (Some s) → AreUpright a → s.low ≤ℤ s.high → AreUpright b
given_upright a b i s is upright order = subst AreUpright (sym is) (All-set (λ r. IfSome r (λ t. t.low ≤ℤ t.high)) a i (Some s) order upright)

-- ---- steps explain as before where more is given

get_left : (xs ys : List Given) (i : ℕ) (x : Given) → slice_get xs i ≡ Some x → slice_get (xs ++ ys) i ≡ Some x
get_left [] ys i x e = absurd cc
get_left (z ∷ xs) ys zero x e = e
get_left (z ∷ xs) ys (suc i) x e = get_left xs ys i x e

get_last : (xs : List Given) (y : Given) → slice_get (xs ++ y ∷ []) (length xs) ≡ Some y
get_last [] y = refl
get_last (x ∷ xs) y = get_last xs y

caused_too : (es : List Expression) (given more : List Given) (by : Cause) (changes : List Former) (old new : List (Option Span)) → IsCausedBy es given by changes old new → IsCausedBy es (given ++ more) by changes old new
caused_too es given more (cause.Constraint c) changes old new h = h
caused_too es given more (cause.Given k) changes old new h = (h.0, get_left given more k h.0 h.1, h.2, h.3)

explained_too : (es : List Expression) (given more : List Given) (steps : List Step) (t : List Former) (b : List (Option Span)) → AreExplained es given steps t b → AreExplained es (given ++ more) steps t b
explained_too es given more [] t b h = h
explained_too es given more (s ∷ older) t b h =
    (record { room = h.0.room; caused = caused_too es given more s.cause (drop s.mark t) (put_back (drop s.mark t) b) b h.0.caused }, explained_too es given more older (take s.mark t) (put_back (drop s.mark t) b) h.1)

pub given_explained : (es : List Expression) (given given' : List Given) (old new : List Step) (t u : List Former) (a b : List (Option Span)) (i place mark : ℕ) (s : Span) → i < length a → u ≡ t ++ change i a ∷ [] → b ≡ set a i (Some s) → given' ≡ given ++ record { variable = i; span = s } ∷ [] → place ≡ length given → mark ≡ length t → new ≡ old ++ record { cause = cause.Given place; mark = mark } ∷ [] → AreExplained es given (reverse old) t a → AreExplained es given' (reverse new) u b
given_explained es given given' old new t u a b i place mark s small is cut more at long steps h =
    let g : Given = record { variable = i; span = s } in
    let z : Step = record { cause = cause.Given (length given); mark = length t } in
    let steps' : new ≡ old ++ z ∷ [] = steps ∙ ap (λ p. old ++ record { cause = cause.Given p; mark = mark } ∷ []) at ∙ ap (λ m. old ++ record { cause = cause.Given (length given); mark = m } ∷ []) long in
    let turned : reverse new ≡ z ∷ reverse old = ap reverse steps' ∙ reverse-append old (z ∷ []) in
    let changes = behind t u (change i a) is in
    let back : put_back (drop (length t) u) b ≡ a = ap (λ c. put_back c b) changes ∙ (ap (λ x. set x i (bound_of a i)) cut ∙ (set-set a i (Some s) (bound_of a i) ∙ set-get_or a i None)) in
    let front : take (length t) u ≡ t = ap (take (length t)) is ∙ take_at t (change i a ∷ []) (length t) refl in
    let own : All (λ f. f.variable ≡ i) (drop (length t) u) = subst (All (λ f. f.variable ≡ i)) (sym changes) (All-cons (λ f. f.variable ≡ i) (change i a) [] refl (All-nil (λ f. f.variable ≡ i))) in
    let bound : bound_of b i ≡ Some s = ap (λ x. bound_of x i) cut ∙ get_or-set_same a i (Some s) None small in
    let step : IsExplainedStep es (given ++ g ∷ []) z u b = record { room = given_room i t u a is; caused = (g, get_last given g, own, bound) } in
    let older : AreExplained es (given ++ g ∷ []) (reverse old) (take (length t) u) (put_back (drop (length t) u) b) =
    subst (λ w. AreExplained es (given ++ g ∷ []) (reverse old) w (put_back (drop (length t) u) b)) (sym front) (subst (AreExplained es (given ++ g ∷ []) (reverse old) t) (sym back) (explained_too es given (g ∷ []) (reverse old) t a h)) in
    subst (λ w. AreExplained es w (reverse new) u b) (sym more) (subst (λ w. AreExplained es (given ++ g ∷ []) w u b) (sym turned) (step, older))
