-- What is kept from call to call.
use Rattle.std.proofs.Common.{◌≡◌, inl, inr, ℕ, zero, suc, ◌+◌, ◌<◌, ◌≤◌, ◌≤ℤ◌, List, [], ◌∷◌, ◌++◌, length, map, take, drop, set, reverse, Option, Some, Result, Ok, Err, refl, sym, ap, subst, ◌∙◌, append_assoc, arith}
use Rattle.std.specs.Global.{Vec}
use Rattle.std.proofs.lemmas.List.{length-set, length-append, length-reverse, length-take-le, take_at, reverse-append, reverse-reverse, set-set, set-get_or}
use Rattle.std.proofs.lemmas.List.Elements.{All-append, All-nil, All-cons}
use Rattle.pst_base.specs.declared.memory.NoMemory.{NoMemory}
use Rattle.pst_expr.specs.declared.ranges.Span.{Span}
use Rattle.pst_expr.specs.declared.tree.Expr.{Expr}
use Rattle.pst_expr.specs.Tree.{Expression, view}
use Rattle.pst_domain.specs.Bounds.{bound_of, AreUpright, IsInside, AreInside}
use Rattle.pst_narrow.specs.declared.trail.Former.{Former}
use Rattle.pst_narrow.specs.declared.watch.Watch.{Watch}
use Rattle.pst_narrow.specs.Trail.{put_back, AreBelow, Extends}
use Rattle.pst_narrow.specs.Narrowing.{HaveVariablesBelow, AreOpen}
use Rattle.pst_narrow.specs.Mentions.{OthersDontMatter}
use Rattle.pst_narrow.specs.Settled.{QuietAreOpen}
use Rattle.pst_narrow.specs.Watch.{IsWatch}
use Rattle.pst_narrow.proofs.NarrowLemmas.{inside_self, inside_then, bound_same, bound_other, same_or_other}
use Rattle.pst_narrow.proofs.SettleLemmas.{changed_at_first, room_at_first}
use Rattle.pst_reasons.specs.declared.reasons.Narrowed.{Narrowed}
use Rattle.pst_reasons.specs.declared.step.Cause.TheVariants as cause
use Rattle.pst_reasons.specs.declared.step.Given.{Given}
use Rattle.pst_reasons.specs.declared.step.Mark.{Mark}
use Rattle.pst_reasons.specs.declared.step.Step.{Step}
use Rattle.pst_reasons.specs.Explained.{AreExplained}
use Rattle.pst_reasons.specs.Firsts.{AreFirsts}
use Rattle.pst_reasons.specs.Reasons.{AreReasons}
use Rattle.pst_reasons.specs.Giving.{with_given, IsState, IsMark, AreStates, AreKept, IsKept, start_of, given_too, IsAt, Gives, IsTakenBack, IsNotedGiven, IsSame, IsUnsettled, IsNarrower, IsSettledNow, Settles, CanGoBack, IsBack}
use Rattle.pst_reasons.proofs.BackLemmas.{put_back-append}
use Rattle.pst_reasons.proofs.FirstLemmas.{lower_firsts, forgotten_firsts, cut_firsts}
use Rattle.pst_reasons.proofs.NoteLemmas.{back_at, front_at}
use Rattle.pst_reasons.proofs.GiveLemmas.{given_quiet, given_below, given_room, given_upright, given_explained}

-- ---- changes

length-put_back : (xs : List Former) (b : List (Option Span)) → length (put_back xs b) ≡ length b
length-put_back [] b = refl
length-put_back (x ∷ xs) b = length-set (put_back xs b) x.variable x.bound ∙ length-put_back xs b

extends_then : (t u v : List Former) (a b c : List (Option Span)) → length b ≡ length a → Extends t u a b → Extends u v b c → Extends t v a c
extends_then t u v a b c same e f =
    record {
      more = e.more ++ f.more;
      appended = f.appended ∙ (ap (λ x. x ++ f.more) e.appended ∙ append_assoc t e.more f.more);
      below = All-append (λ former. former.variable < length a) e.more f.more e.below (subst (λ n. AreBelow n f.more) same f.below);
      back = put_back-append e.more f.more c ∙ (ap (put_back e.more) f.back ∙ e.back);
    }

extends_set : (t : List Former) (b : List (Option Span)) (i : ℕ) (s : Option Span) → i < length b → Extends t (t ++ record { variable = i; bound = bound_of b i } ∷ []) b (set b i s)
extends_set t b i s below =
    record {
      more = record { variable = i; bound = bound_of b i } ∷ [];
      appended = refl;
      below = All-cons (λ former. former.variable < length b) _ [] below (All-nil (λ former. former.variable < length b));
      back = set-set b i s (bound_of b i) ∙ set-get_or b i _;
    }

-- ---- lists

mark_is : (m k : Mark) (xs ys : List Mark) → m ∷ xs ≡ k ∷ ys → m ≡ k
mark_is m k xs ys e = cc

marks_are : (m k : Mark) (xs ys : List Mark) → m ∷ xs ≡ k ∷ ys → xs ≡ ys
marks_are m k xs ys e = cc

front_steps : (xs ys zs b c : List Step) → ys ≡ xs ++ b → zs ≡ ys ++ c → take (length xs) zs ≡ xs
front_steps xs ys zs b c p q = ap (take (length xs)) (q ∙ (ap (λ w. w ++ c) p ∙ append_assoc xs b c)) ∙ take_at xs (b ++ c) (length xs) refl

-- a list is its front and its last item
last_item : (xs : List Given) (n : ℕ) → length xs ≡ n + 1 → (g : Given) × (xs ≡ take n xs ++ g ∷ [])
last_item [] n e = absurd (omega arith)
last_item (x ∷ []) zero e = (x, refl)
last_item (x ∷ y ∷ ys) zero e = absurd (omega arith)
last_item (x ∷ xs) (suc n) e = let more = last_item xs n (omega arith) in (more.0, ap (λ zs. x ∷ zs) more.1)

-- ---- bounds inside the spans given

length-with_given : (gs : List Given) (b : List (Option Span)) → length (with_given b gs) ≡ length b
length-with_given [] b = refl
length-with_given (g ∷ gs) b = length-with_given gs (set b g.variable (Some g.span)) ∙ length-set b g.variable (Some g.span)

with_given-last : (gs : List Given) (g : Given) (b : List (Option Span)) → with_given b (gs ++ g ∷ []) ≡ set (with_given b gs) g.variable (Some g.span)
with_given-last [] g b = refl
with_given-last (x ∷ gs) g b = with_given-last gs g (set b x.variable (Some x.span))

set_inside : (a b : List (Option Span)) (i : ℕ) (s : Option Span) → i < length a → length b ≡ length a → AreInside a b → AreInside (set a i s) (set b i s)
set_inside a b i s below same h j = elim (same_or_other i j) [
  | inl e ↦ subst (λ k. IsInside (bound_of (set a i s) k) (bound_of (set b i s) k)) (sym e)
      (subst (λ r. IsInside r (bound_of (set b i s) i)) (sym (bound_same a i s below)) (subst (λ r. IsInside s r) (sym (bound_same b i s (omega arith))) (inside_self s)))
  | inr n ↦ subst (λ r. IsInside r (bound_of (set b i s) j)) (sym (bound_other a i j s n)) (subst (λ r. IsInside (bound_of a j) r) (sym (bound_other b i j s n)) (h j))
]

-- ---- states

pub now_state : (es : List Expression) (start : List (Option Span)) (given : List Given) (ms : List Mark) (steps : List Step) (t : List Former) (b : List (Option Span)) → AreStates es start given ms steps t b → IsState es start given steps t b
now_state es start given [] steps t b h = h
now_state es start given (m ∷ older) steps t b h = h.0

same_states : (es : List Expression) (start start' : List (Option Span)) (given given' : List Given) (ms : List Mark) (steps steps' : List Step) (t t' : List Former) (b b' : List (Option Span)) → start' ≡ start → given' ≡ given → steps' ≡ steps → t' ≡ t → b' ≡ b → AreStates es start given ms steps t b → AreStates es start' given' ms steps' t' b'
same_states es start start' given given' ms steps steps' t t' b b' p q r v w h =
    subst (λ z. AreStates es z given' ms steps' t' b') (sym p) (subst (λ z. AreStates es start z ms steps' t' b') (sym q) (subst (λ z. AreStates es start given ms z t' b') (sym r) (subst (λ z. AreStates es start given ms steps z b') (sym v) (subst (λ z. AreStates es start given ms steps t z) (sym w) h))))

pub can_go : (s : Narrowed) → IsKept s → CanGoBack s
can_go s h m older turned =
    let all = subst (λ ms. AreStates (map view s.constraints.items) (start_of s) s.given.items ms s.steps.items s.trail s.bounds) turned h.states in
    all.1

-- ---- the start

first_kept : (es : List Expression) (w : Watch) (b : List (Option Span)) (firsts : List ℕ) → IsWatch es (length b) w → HaveVariablesBelow (length b) es → AreUpright b → AreOpen es b → AreKept es w b [] [] [] [] firsts
first_kept es w b firsts watch variables upright unrefused = record {
  watch = watch;
  variables = variables;
  number = refl;
  states = record { upright = upright; unrefused = unrefused; inside = λ i. inside_self (bound_of b i); from_start = refl; explained = refl };
  firsts_are = λ i d small. absurd (omega arith);
}

pub begun : (es : List Expression) (w : Watch) (b : List (Option Span)) (t : List Former) (steps : List Step) (given : List Given) (marks : List Mark) (firsts : List ℕ) → IsWatch es (length b) w → HaveVariablesBelow (length b) es → AreUpright b → AreOpen es b → t ≡ [] → steps ≡ [] → given ≡ [] → marks ≡ [] → AreKept es w b t steps given marks firsts
begun es w b t steps given marks firsts watch variables upright unrefused p q r v =
    subst (λ z. AreKept es w b z steps given marks firsts) (sym p) (subst (λ z. AreKept es w b [] z given marks firsts) (sym q) (subst (λ z. AreKept es w b [] [] z marks firsts) (sym r) (subst (λ z. AreKept es w b [] [] [] z firsts) (sym v) (first_kept es w b firsts watch variables upright unrefused))))

-- ---- a span is noted

pub noted_steps : (old mid new : List Step) (k place n mark : ℕ) → new ≡ mid ++ record { cause = cause.Given place; mark = mark } ∷ [] → mid ≡ old → place ≡ k → mark ≡ n → new ≡ old ++ record { cause = cause.Given k; mark = n } ∷ []
noted_steps old mid new k place n mark is same p q =
    is ∙ (ap (λ xs. xs ++ record { cause = cause.Given place; mark = mark } ∷ []) same ∙ (ap (λ x. old ++ record { cause = cause.Given x; mark = mark } ∷ []) p ∙ ap (λ x. old ++ record { cause = cause.Given k; mark = x } ∷ []) q))

pub noted_marks : (old mid new : List Mark) (k t n s : ℕ) → new ≡ mid ++ record { trail = t; steps = s } ∷ [] → mid ≡ old → t ≡ k → s ≡ n → new ≡ old ++ record { trail = k; steps = n } ∷ []
noted_marks old mid new k t n s is same p q =
    is ∙ (ap (λ xs. xs ++ record { trail = t; steps = s } ∷ []) same ∙ (ap (λ x. old ++ record { trail = x; steps = s } ∷ []) p ∙ ap (λ x. old ++ record { trail = k; steps = x } ∷ []) q))

pub state_of : (s : Narrowed) → IsKept s → IsState (map view s.constraints.items) (start_of s) s.given.items s.steps.items s.trail s.bounds
state_of s h = now_state (map view s.constraints.items) (start_of s) s.given.items (reverse s.marks.items) s.steps.items s.trail s.bounds h.states

es_same : (s n : Narrowed) → n.constraints ≡ s.constraints → map view n.constraints.items ≡ map view s.constraints.items
es_same s n e = ap (λ (c : Vec Expr). map view c.items) e

noted_count : (s n : Narrowed) (i : ℕ) (span : Span) → IsNotedGiven s n i span → length n.bounds ≡ length s.bounds
noted_count s n i span noted = ap length noted.bounds ∙ length-set s.bounds i (Some span)

pub unsettled : OthersDontMatter → (s n : Narrowed) (i : ℕ) (span : Span) (mark : ℕ) → mark ≡ length s.trail → IsKept s → i < length s.bounds → span.low ≤ℤ span.high → IsNotedGiven s n i span → IsUnsettled n mark
unsettled law s n i span mark at h below order noted =
    let es = map view s.constraints.items in
    let ces = es_same s n noted.constraints in
    let count = noted_count s n i span noted in
    let st = state_of s h in
    record {
      watch = subst (λ c. IsWatch c (length n.bounds) n.watch) (sym ces) (subst (λ k. IsWatch es k n.watch) (sym count) (subst (λ w. IsWatch es (length s.bounds) w) (sym noted.watch) h.watch));
      variables = subst (λ c. HaveVariablesBelow (length n.bounds) c) (sym ces) (subst (λ k. HaveVariablesBelow k es) (sym count) h.variables);
      upright = given_upright s.bounds n.bounds i span noted.bounds st.upright order;
      changed = subst (λ m. AreBelow (length n.bounds) (drop m n.trail)) (sym at) (given_below i s.trail n.trail s.bounds n.bounds noted.trail (omega (arith, count, below)));
      room = subst (λ m. m ≤ length n.trail) (sym at) (given_room i s.trail n.trail s.bounds noted.trail);
      quiet = subst (λ c. QuietAreOpen c (drop mark n.trail) n.bounds) (sym ces) (subst (λ m. QuietAreOpen es (drop m n.trail) n.bounds) (sym at) (given_quiet law es i span s.trail n.trail s.bounds n.bounds noted.trail noted.bounds st.unrefused));
      explained = subst (λ c. AreExplained c n.given.items (reverse n.steps.items) n.trail n.bounds) (sym ces)
          (given_explained es s.given.items n.given.items s.steps.items n.steps.items s.trail n.trail s.bounds n.bounds i (length s.given.items) (length s.trail) span below noted.trail noted.bounds noted.given_is refl refl noted.steps st.explained);
      firsts = subst (λ k. AreFirsts n.firsts.items (take k n.trail)) (sym at) (subst (AreFirsts n.firsts.items) (sym (ap (take (length s.trail)) noted.trail ∙ take_at s.trail (record { variable = i; bound = bound_of s.bounds i } ∷ []) (length s.trail) refl)) (subst (λ fs. AreFirsts fs s.trail) (sym noted.firsts) h.firsts_are));
    }

-- ---- the bounds at the start stay

pub start_extends : (t u : List Former) (a b : List (Option Span)) → Extends t u a b → put_back u b ≡ put_back t a
start_extends t u a b x = ap (λ z. put_back z b) x.appended ∙ (put_back-append t x.more b ∙ ap (put_back t) x.back)

noted_extends : (s n : Narrowed) (i : ℕ) (span : Span) → i < length s.bounds → IsNotedGiven s n i span → Extends s.trail n.trail s.bounds n.bounds
noted_extends s n i span below noted = subst (λ b. Extends s.trail n.trail s.bounds b) (sym noted.bounds) (subst (λ t. Extends s.trail t s.bounds (set s.bounds i (Some span))) (sym noted.trail) (extends_set s.trail s.bounds i (Some span) below))

pub noted_start : (s n : Narrowed) (i : ℕ) (span : Span) → i < length s.bounds → IsNotedGiven s n i span → start_of n ≡ start_of s
noted_start s n i span below noted = start_extends s.trail n.trail s.bounds n.bounds (noted_extends s n i span below noted)

both_extend : (s n r : Narrowed) (i : ℕ) (span : Span) → i < length s.bounds → IsNotedGiven s n i span → IsNarrower n r → Extends s.trail r.trail s.bounds r.bounds
both_extend s n r i span below noted narrower = extends_then s.trail n.trail r.trail s.bounds n.bounds r.bounds (noted_count s n i span noted) (noted_extends s n i span below noted) narrower.extends

abbrev mark_at : Narrowed → Mark
mark_at s = record { trail = length s.trail; steps = length s.steps.items }

marks_turned : (s n r : Narrowed) (i : ℕ) (span : Span) → IsNotedGiven s n i span → IsNarrower n r → reverse r.marks.items ≡ mark_at s ∷ reverse s.marks.items
marks_turned s n r i span noted narrower =
    ap reverse (ap (λ (v : Vec Mark). v.items) narrower.marks ∙ noted.marks) ∙ reverse-append s.marks.items (mark_at s ∷ [])

given_now : (s n r : Narrowed) (i : ℕ) (span : Span) → IsNotedGiven s n i span → IsNarrower n r → r.given.items ≡ given_too s i span
given_now s n r i span noted narrower = ap (λ (v : Vec Given). v.items) narrower.given_is ∙ noted.given_is

steps_front : (s n r : Narrowed) (i : ℕ) (span : Span) → IsNotedGiven s n i span → IsNarrower n r → take (length s.steps.items) r.steps.items ≡ s.steps.items
steps_front s n r i span noted narrower = front_steps s.steps.items n.steps.items r.steps.items (record { cause = cause.Given (length s.given.items); mark = length s.trail } ∷ []) narrower.steps.more noted.steps narrower.steps.is

given_front : (s n r : Narrowed) (i : ℕ) (span : Span) (k : ℕ) → k ≡ length s.given.items → IsNotedGiven s n i span → IsNarrower n r → take k r.given.items ≡ s.given.items
given_front s n r i span k at noted narrower =
    let g : Given = record { variable = i; span = span } in
    ap (λ j. take j r.given.items) at ∙ (ap (take (length s.given.items)) (given_now s n r i span noted narrower) ∙ take_at s.given.items (g ∷ []) (length s.given.items) refl)

-- ---- it fits

inside_given : (s n r : Narrowed) (i : ℕ) (span : Span) → IsKept s → i < length s.bounds → IsNotedGiven s n i span → IsNarrower n r → AreInside r.bounds (with_given (start_of s) (given_too s i span))
inside_given s n r i span h below noted narrower j =
    let g : Given = record { variable = i; span = span } in
    let outer = with_given (start_of s) s.given.items in
    let st = state_of s h in
    let same : length outer ≡ length s.bounds = length-with_given s.given.items (start_of s) ∙ length-put_back s.trail s.bounds in
    let first : IsInside (bound_of r.bounds j) (bound_of (set s.bounds i (Some span)) j) = subst (λ b. IsInside (bound_of r.bounds j) (bound_of b j)) noted.bounds (narrower.inside j) in
    let second : IsInside (bound_of (set s.bounds i (Some span)) j) (bound_of (set outer i (Some span)) j) = set_inside s.bounds outer i (Some span) below same st.inside j in
    subst (λ b. IsInside (bound_of r.bounds j) (bound_of b j)) (sym (with_given-last s.given.items g (start_of s))) (inside_then (bound_of r.bounds j) (bound_of (set s.bounds i (Some span)) j) (bound_of (set outer i (Some span)) j) first second)

state_now : (s n r : Narrowed) (i : ℕ) (span : Span) → IsKept s → i < length s.bounds → IsNotedGiven s n i span → IsNarrower n r → IsSettledNow r → IsState (map view s.constraints.items) (start_of r) r.given.items r.steps.items r.trail r.bounds
state_now s n r i span h below noted narrower settled =
    let ces = es_same s r (narrower.constraints ∙ noted.constraints) in
    let start = start_extends s.trail r.trail s.bounds r.bounds (both_extend s n r i span below noted narrower) in
    record {
      upright = settled.upright;
      unrefused = subst (λ c. AreOpen c r.bounds) ces settled.unrefused;
      inside = subst (λ gs. AreInside r.bounds (with_given (start_of r) gs)) (sym (given_now s n r i span noted narrower)) (subst (λ b. AreInside r.bounds (with_given b (given_too s i span))) (sym start) (inside_given s n r i span h below noted narrower));
      from_start = refl;
      explained = subst (λ c. AreExplained c r.given.items (reverse r.steps.items) r.trail r.bounds) ces settled.explained;
    }

mark_now : (s n r : Narrowed) (i : ℕ) (span : Span) → i < length s.bounds → IsNotedGiven s n i span → IsNarrower n r → IsMark (mark_at s) (length r.bounds) r.trail
mark_now s n r i span below noted narrower =
    let x = both_extend s n r i span below noted narrower in
    let count = narrower.count ∙ noted_count s n i span noted in
    record { room = room_at_first s.trail r.trail s.bounds r.bounds x; below = changed_at_first s.trail r.trail s.bounds r.bounds count x }

pub given_on : (s n r : Narrowed) (i : ℕ) (span : Span) → IsKept s → i < length s.bounds → IsNotedGiven s n i span → IsNarrower n r → IsSettledNow r → IsAt s r (given_too s i span)
given_on s n r i span h below noted narrower settled =
    let es = map view s.constraints.items in
    let same = narrower.constraints ∙ noted.constraints in
    let ces = es_same s r same in
    let x = both_extend s n r i span below noted narrower in
    let count = narrower.count ∙ noted_count s n i span noted in
    let start = start_extends s.trail r.trail s.bounds r.bounds x in
    let turned = marks_turned s n r i span noted narrower in
    let given = given_now s n r i span noted narrower in
    let number : length s.marks.items ≡ length s.given.items = h.number in
    let older = reverse s.marks.items in
    let long : length older ≡ length s.given.items = length-reverse s.marks.items ∙ number in
    let before : AreStates es (start_of r) (take (length older) r.given.items) older (take (length s.steps.items) r.steps.items) (take (length s.trail) r.trail) (put_back (drop (length s.trail) r.trail) r.bounds) =
    same_states es (start_of s) (start_of r) s.given.items (take (length older) r.given.items) older s.steps.items (take (length s.steps.items) r.steps.items) s.trail (take (length s.trail) r.trail) s.bounds (put_back (drop (length s.trail) r.trail) r.bounds) start (given_front s n r i span (length older) long noted narrower) (steps_front s n r i span noted narrower) (front_at s.trail r.trail s.bounds r.bounds x) (back_at s.trail r.trail s.bounds r.bounds x) h.states in
    let states : AreStates es (start_of r) r.given.items (mark_at s ∷ older) r.steps.items r.trail r.bounds = (state_now s n r i span h below noted narrower settled, mark_now s n r i span below noted narrower, before) in
    let kept : AreKept es r.watch r.bounds r.trail r.steps.items r.given.items r.marks.items r.firsts.items = record {
      watch = subst (λ k. IsWatch es k r.watch) (sym count) (subst (λ w. IsWatch es (length s.bounds) w) (sym (narrower.watch ∙ noted.watch)) h.watch);
      variables = subst (λ k. HaveVariablesBelow k es) (sym count) h.variables;
      number =
          let a : length (reverse r.marks.items) ≡ length (mark_at s ∷ older) = ap length turned in
          let b : length (reverse r.marks.items) ≡ length r.marks.items = length-reverse r.marks.items in
          let c : length r.given.items ≡ length s.given.items + 1 = ap length given ∙ length-append s.given.items (record { variable = i; span = span } ∷ []) in
          omega (arith, a, b, c, long);
      states = subst (λ ms. AreStates es (start_of r) r.given.items ms r.steps.items r.trail r.bounds) (sym turned) states;
      firsts_are = settled.firsts;
    } in
    record {
      kept = subst (λ c. AreKept c r.watch r.bounds r.trail r.steps.items r.given.items r.marks.items r.firsts.items) (sym ces) kept;
      given_is = given;
      constraints = same;
      count = count;
      start = start;
    }

-- ---- it doesn't fit

pub is_same : (o n : Narrowed) → n.constraints ≡ o.constraints → n.watch ≡ o.watch → n.bounds ≡ o.bounds → n.trail ≡ o.trail → n.steps.items ≡ o.steps.items → n.given.items ≡ o.given.items → n.marks.items ≡ o.marks.items → n.firsts.items ≡ o.firsts.items → IsSame o n
is_same o n constraints watch bounds trail steps given_is marks firsts = record {
  constraints = constraints;
  watch = watch;
  bounds = bounds;
  trail = trail;
  steps = steps;
  given_is = given_is;
  marks = marks;
  firsts = λ early. subst (AreFirsts n.firsts.items) (sym trail) (subst (λ fs. AreFirsts fs o.trail) (sym firsts) early);
}

pub some_marks : (s n r : Narrowed) (i : ℕ) (span : Span) → IsNotedGiven s n i span → IsNarrower n r → 0 < length r.marks.items
some_marks s n r i span noted narrower =
    let a : length (reverse r.marks.items) ≡ length (mark_at s ∷ reverse s.marks.items) = ap length (marks_turned s n r i span noted narrower) in
    let b : length (reverse r.marks.items) ≡ length r.marks.items = length-reverse r.marks.items in
    omega (arith, a, b)

pub can_back : (s n r : Narrowed) (i : ℕ) (span : Span) → i < length s.bounds → IsNotedGiven s n i span → IsNarrower n r → CanGoBack r
can_back s n r i span below noted narrower m older turned =
    let is : m ≡ mark_at s = mark_is m (mark_at s) older (reverse s.marks.items) (sym turned ∙ marks_turned s n r i span noted narrower) in
    subst (λ k. IsMark k (length r.bounds) r.trail) (sym is) (mark_now s n r i span below noted narrower)

pub gone_back : (s n r u : Narrowed) (i : ℕ) (span : Span) → IsKept s → i < length s.bounds → IsNotedGiven s n i span → IsNarrower n r → IsBack r u → IsSame s u
gone_back s n r u i span h below noted narrower back =
    let both = sym back.marks ∙ marks_turned s n r i span noted narrower in
    let is : back.mark ≡ mark_at s = mark_is back.mark (mark_at s) (reverse u.marks.items) (reverse s.marks.items) both in
    let turned : reverse u.marks.items ≡ reverse s.marks.items = marks_are back.mark (mark_at s) (reverse u.marks.items) (reverse s.marks.items) both in
    let marks : u.marks.items ≡ s.marks.items = sym (reverse-reverse u.marks.items) ∙ (ap reverse turned ∙ reverse-reverse s.marks.items) in
    let x = both_extend s n r i span below noted narrower in
    let trail : u.trail ≡ s.trail = back.trail ∙ (ap (λ (m : Mark). take m.trail r.trail) is ∙ front_at s.trail r.trail s.bounds r.bounds x) in
    let long : back.mark.trail ≡ length s.trail = ap (λ (m : Mark). m.trail) is in
    record {
      constraints = back.constraints ∙ (narrower.constraints ∙ noted.constraints);
      watch = back.watch ∙ (narrower.watch ∙ noted.watch);
      bounds = back.bounds ∙ (ap (λ (m : Mark). put_back (drop m.trail r.trail) r.bounds) is ∙ back_at s.trail r.trail s.bounds r.bounds x);
      trail = trail;
      steps = back.steps ∙ (ap (λ (m : Mark). take m.steps r.steps.items) is ∙ steps_front s n r i span noted narrower);
      given_is = back.given_is ∙ given_front s n r i span (length u.marks.items) (ap length marks ∙ h.number) noted narrower;
      marks = marks;
      firsts = λ early.
          subst (AreFirsts u.firsts.items) (sym trail)
          (forgotten_firsts s.trail r.firsts.items u.firsts.items back.mark.trail (omega (arith, long)) back.firsts (lower_firsts s.trail n.firsts.items r.firsts.items narrower.firsts (subst (λ fs. AreFirsts fs s.trail) (sym noted.firsts) early)));
    }

pub at_same : (s u : Narrowed) → IsKept s → IsSame s u → IsAt s u s.given.items
at_same s u h same =
    let es = map view s.constraints.items in
    let ces = es_same s u same.constraints in
    let noted : AreKept es s.watch s.bounds s.trail s.steps.items s.given.items s.marks.items u.firsts.items = record {
      watch = h.watch;
      variables = h.variables;
      number = h.number;
      states = h.states;
      firsts_are = subst (AreFirsts u.firsts.items) same.trail (same.firsts h.firsts_are);
    } in
    record {
      kept = subst (λ c. AreKept c u.watch u.bounds u.trail u.steps.items u.given.items u.marks.items u.firsts.items) (sym ces)
          (subst (λ w. AreKept es w u.bounds u.trail u.steps.items u.given.items u.marks.items u.firsts.items) (sym same.watch)
          (subst (λ b. AreKept es s.watch b u.trail u.steps.items u.given.items u.marks.items u.firsts.items) (sym same.bounds)
          (subst (λ t. AreKept es s.watch s.bounds t u.steps.items u.given.items u.marks.items u.firsts.items) (sym same.trail)
          (subst (λ z. AreKept es s.watch s.bounds s.trail z u.given.items u.marks.items u.firsts.items) (sym same.steps)
          (subst (λ g. AreKept es s.watch s.bounds s.trail s.steps.items g u.marks.items u.firsts.items) (sym same.given_is)
          (subst (λ m. AreKept es s.watch s.bounds s.trail s.steps.items s.given.items m u.firsts.items) (sym same.marks) noted))))));
      given_is = same.given_is;
      constraints = same.constraints;
      count = ap length same.bounds;
      start = ap (λ b. put_back u.trail b) same.bounds ∙ ap (λ t. put_back t s.bounds) same.trail;
    }

pub gives_err : (s u : Narrowed) (i : ℕ) (span : Span) (result : Result (Option (Vec ℕ)) NoMemory) → ((o : Option (Vec ℕ)) → result ≡ Ok o → ⊥) → IsAt s u s.given.items → Gives result s u i span
gives_err s u i span (Ok o) not_ok at = absurd (not_ok o refl)
gives_err s u i span (Err e) not_ok at = at

pub reasons_given : (s n r : Narrowed) (i : ℕ) (span : Span) (places : Vec ℕ) → i < length s.bounds → IsNotedGiven s n i span → Settles (Some places) n r → AreReasons (map view s.constraints.items) (given_too s i span) (start_of s) places.items
reasons_given s n r i span places below noted told =
    subst (λ c. AreReasons c (given_too s i span) (start_of s) places.items) (es_same s n noted.constraints)
    (subst (λ g. AreReasons (map view n.constraints.items) g (start_of s) places.items) noted.given_is
    (subst (λ b. AreReasons (map view n.constraints.items) n.given.items b places.items) (noted_start s n i span below noted) told))

-- ---- the last span is taken back

pub one_back : (s u : Narrowed) → IsKept s → IsBack s u → IsTakenBack s u
one_back s u h back =
    let es = map view s.constraints.items in
    let m = back.mark in
    let older = reverse u.marks.items in
    let ces = es_same s u back.constraints in
    let all : AreStates es (start_of s) s.given.items (m ∷ older) s.steps.items s.trail s.bounds = subst (λ ms. AreStates es (start_of s) s.given.items ms s.steps.items s.trail s.bounds) back.marks h.states in
    let before = all.2 in
    let st = now_state es (start_of s) (take (length older) s.given.items) older (take m.steps s.steps.items) (take m.trail s.trail) (put_back (drop m.trail s.trail) s.bounds) before in
    let start : start_of u ≡ start_of s = ap (λ t. put_back t u.bounds) back.trail ∙ (ap (put_back (take m.trail s.trail)) back.bounds ∙ st.from_start) in
    let count : length u.bounds ≡ length s.bounds = ap length back.bounds ∙ length-put_back (drop m.trail s.trail) s.bounds in
    let long : length older ≡ length u.marks.items = length-reverse u.marks.items in
    let given : u.given.items ≡ take (length older) s.given.items = back.given_is ∙ ap (λ k. take k s.given.items) (sym long) in
    let one : length (reverse s.marks.items) ≡ length (m ∷ older) = ap length back.marks in
    let turned : length (reverse s.marks.items) ≡ length s.marks.items = length-reverse s.marks.items in
    let number : length s.marks.items ≡ length s.given.items = h.number in
    let size : length s.given.items ≡ length older + 1 = omega (arith, one, turned, number) in
    let last = last_item s.given.items (length older) size in
    let fits : length (take (length older) s.given.items) ≡ length older = length-take-le (length older) s.given.items (omega (arith, size)) in
    let kept : AreKept es u.watch u.bounds u.trail u.steps.items u.given.items u.marks.items u.firsts.items = record {
      watch = subst (λ k. IsWatch es k u.watch) (sym count) (subst (λ w. IsWatch es (length s.bounds) w) (sym back.watch) h.watch);
      variables = subst (λ k. HaveVariablesBelow k es) (sym count) h.variables;
      number = let a : length u.given.items ≡ length (take (length older) s.given.items) = ap length given in omega (arith, a, fits, long);
      states = same_states es (start_of s) (start_of u) (take (length older) s.given.items) u.given.items older (take m.steps s.steps.items) u.steps.items (take m.trail s.trail) u.trail (put_back (drop m.trail s.trail) s.bounds) u.bounds start given back.steps back.trail back.bounds before;
      firsts_are = subst (AreFirsts u.firsts.items) (sym back.trail) (cut_firsts s.trail s.firsts.items u.firsts.items m.trail all.1.room back.firsts h.firsts_are);
    } in
    record {
      last = last.0;
      given_is = last.1 ∙ ap (λ xs. xs ++ last.0 ∷ []) (sym given);
      at = record {
        kept = subst (λ c. AreKept c u.watch u.bounds u.trail u.steps.items u.given.items u.marks.items u.firsts.items) (sym ces) kept;
        given_is = refl;
        constraints = back.constraints;
        count = count;
        start = start;
      };
    }
