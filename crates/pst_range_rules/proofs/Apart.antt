-- Spans that have no number in common, and the first range that meets an earlier one.
use Rattle.std.proofs.Common.{◌≡◌, ◌⊎◌, inl, inr, ⊎_elim, ℕ, zero, suc, ◌+◌, ◌-◌, ◌<◌, ◌≤◌, ℤ, ◌≤ℤ◌, ◌<ℤ◌, int_lt, int_le, nat_eq, nat_lt, Bool, true, ◌&&◌, List, [], ◌∷◌, ◌++◌, length, take, drop, get_or, map, Option, arith, refl, sym, ap, subst, ◌∙◌, drop-cons}
use Rattle.std.specs.Prelude.{Some, None, IfSome, All, sum_by, if◌then◌else◌}
use Rattle.std.specs.List.{list_any, Contains}
use Rattle.std.specs.List.Sorted.{IsPermutation}
use Rattle.std.proofs.lemmas.Int.{ints}
use Rattle.std.proofs.lemmas.Bool.{and_parts, cases_Bool, cond-true, cond-false, cond_both, lt-ltb, ne_eqb, eq-eqb, false_from_ne_true}
use Rattle.std.proofs.lemmas.List.{append-nil, append_assoc, length-drop, take-append-drop, take_all}
use Rattle.std.proofs.lemmas.List.Concat.{flat_map-append}
use Rattle.std.proofs.lemmas.List.Elements.{All-head, All-tail}
use Rattle.std.proofs.lemmas.List.Sorted.{sum_by-IsPermutation}
use Rattle.std.proofs.lemmas.List.Sums.{sum_by-cons, sum_by-append}
use Rattle.pst_base.specs.declared.position.Place.{Place}
use Rattle.pst_base.specs.Places.{IsBefore}
use Rattle.pst_expr.specs.declared.ranges.Span.{Span}
use Rattle.pst_expr.specs.Spans.{IsInSpan}
use Rattle.pst_ast.specs.declared.referent.Finding.{Finding}
use Rattle.pst_name_rules.specs.Earlier.{earlier, is_no_later}
use Rattle.pst_name_rules.specs.Leasts.{least_at}
use Rattle.pst_range_rules.specs.declared.span.RangeSpan.{RangeSpan}
use Rattle.pst_range_rules.specs.Spans.{meet}
use Rattle.pst_range_rules.specs.Meetings.{fronts, meets_any, meeting_finding, meeting_from, meeting_in, upright_of, upright_in, holds, AreApart, is_ascending, is_above}
use Rattle.pst_range_rules.proofs.Commons.{from_meet}
use Rattle.pst_range_rules.proofs.Fronts.{from_any}
use Rattle.pst_range_rules.proofs.Tests.{by_le, by_lt, le_test, found_if}

-- ---- ascending spans

holds_one : (v : ℤ) (s : Span) → holds v s ≤ 1
holds_one v s = cond_both (int_le s.low v && int_le v s.high) 1 0 (λ (n : ℕ). n ≤ 1) (λ e. omega arith) (λ e. omega arith)

-- a number outside a span isn't held
below : (v : ℤ) (s : Span) → v <ℤ s.low → holds v s ≡ 0
below v s h = cond-false (int_le s.low v && int_le v s.high) 1 0 (false_from_ne_true _ (λ e. let low = by_le s.low v (and_parts _ _ e).0 in omega (arith, ints, low, h)))

above : (v : ℤ) (s : Span) → s.high <ℤ v → holds v s ≡ 0
above v s h = cond-false (int_le s.low v && int_le v s.high) 1 0 (false_from_ne_true _ (λ e. let high = by_le v s.high (and_parts _ _ e).1 in omega (arith, ints, high, h)))

inside : (v : ℤ) (s : Span) → IsInSpan v s → holds v s ≡ 1
inside v s h = ap (λ (b : Bool). if b && int_le v s.high then 1 else 0) (le_test s.low v h.0) ∙ ap (λ (b : Bool). if b then 1 else 0) (le_test v s.high h.1)

one_of_two : (v h : ℤ) → (v ≤ℤ h) ⊎ (h <ℤ v)
one_of_two v h = ⊎_elim (λ t. inl (by_le v h t)) (λ f. inr (omega (arith, ints, f))) (cases_Bool (int_le v h))

none_behind : (v h : ℤ) (spans : List Span) → is_ascending (Some h) spans ≡ true → v ≤ℤ h → sum_by (holds v) spans ≡ 0
none_behind v h [] e le = refl
none_behind v h (s ∷ more) e le =
    let first = and_parts (int_lt h s.low) (int_le s.low s.high && is_ascending (Some s.high) more) e in
    let second = and_parts (int_le s.low s.high) (is_ascending (Some s.high) more) first.1 in
    let up = by_lt h s.low first.0 in
    let upright = by_le s.low s.high second.0 in
    let here = below v s (omega (arith, ints, up, le)) in
    let rest = none_behind v s.high more second.1 (omega (arith, ints, up, le, upright)) in
    let both = sum_by-cons (holds v) s more in
    omega (arith, here, rest, both)

one_number : (v : ℤ) (before : Option ℤ) (spans : List Span) → is_ascending before spans ≡ true → sum_by (holds v) spans ≤ 1
one_number v before [] e = omega arith
one_number v before (s ∷ more) e =
    let first = and_parts (is_above before s.low) (int_le s.low s.high && is_ascending (Some s.high) more) e in
    let second = and_parts (int_le s.low s.high) (is_ascending (Some s.high) more) first.1 in
    let both = sum_by-cons (holds v) s more in
    ⊎_elim
    (λ le. let rest = none_behind v s.high more second.1 le in let here = holds_one v s in omega (arith, rest, here, both))
    (λ gt. let rest = one_number v (Some s.high) more second.1 in let here = above v s gt in omega (arith, rest, here, both))
    (one_of_two v s.high)

pub apart_by_sort : (spans sorted : List Span) → IsPermutation spans sorted → is_ascending None sorted ≡ true → AreApart spans
apart_by_sort spans sorted same e v = subst (λ (n : ℕ). n ≤ 1) (sum_by-IsPermutation (holds v) spans sorted same) (one_number v None sorted e)

-- ---- ranges that meet

held : (v : ℤ) (o : Option Span) (s : Span) → o ≡ Some s → IsInSpan v s → 1 ≤ sum_by (holds v) (upright_of o)
held v o s is h =
    let upright = le_test s.low s.high (omega (arith, ints, h.0, h.1)) in
    let listed = ap upright_of is ∙ cond-true (int_le s.low s.high) (s ∷ []) [] upright in
    let one = ap (λ (l : List Span). sum_by (holds v) l) listed ∙ sum_by-cons (holds v) s [] in
    let here = inside v s h in
    let nothing : sum_by (holds v) [] ≡ 0 = refl in
    omega (arith, one, here, nothing)

parts : (v : ℤ) (xs ys : List RangeSpan) → sum_by (holds v) (upright_in (xs ++ ys)) ≡ sum_by (holds v) (upright_in xs) + sum_by (holds v) (upright_in ys)
parts v xs ys = ap (sum_by (holds v)) (flat_map-append (λ (r : RangeSpan). upright_of r.span) xs ys) ∙ sum_by-append (holds v) (upright_in xs) (upright_in ys)

head_part : (v : ℤ) (x : RangeSpan) (xs : List RangeSpan) → sum_by (holds v) (upright_in (x ∷ xs)) ≡ sum_by (holds v) (upright_of x.span) + sum_by (holds v) (upright_in xs)
head_part v x xs = sum_by-append (holds v) (upright_of x.span) (upright_in xs)

held_among : (v : ℤ) (xs : List RangeSpan) (e : RangeSpan) → Contains xs e → 1 ≤ sum_by (holds v) (upright_of e.span) → 1 ≤ sum_by (holds v) (upright_in xs)
held_among v [] e (n, within, there) h = absurd (omega (arith, within))
held_among v (x ∷ xs) e (zero, within, there) h =
    let here = subst (λ (y : RangeSpan). 1 ≤ sum_by (holds v) (upright_of y.span)) (sym there) h in let both = head_part v x xs in omega (arith, here, both)
held_among v (x ∷ xs) e (suc n, within, there) h =
    let rest = held_among v xs e (n, omega (arith, within), there) h in let both = head_part v x xs in omega (arith, rest, both)

abbrev same_range : RangeSpan → RangeSpan
same_range r = r

mapped : (rs : List RangeSpan) → map same_range rs ≡ rs
mapped [] = refl
mapped (r ∷ more) = ap (λ (rest : List RangeSpan). r ∷ rest) (mapped more)

-- none of ranges that are apart meets an earlier one
meets_none : (front more : List RangeSpan) (r : RangeSpan) → AreApart (upright_in (front ++ r ∷ more)) → meets_any front r ≡ true → ⊥
meets_none front more r apart any =
    let one = from_any same_range (λ (e : RangeSpan). meet e.span r.span) front (ap (λ (l : List RangeSpan). list_any (λ (e : RangeSpan). meet e.span r.span) l) (mapped front) ∙ any) in
    let common = from_meet one.0.span r.span one.2 in
    let v = common.number in
    let before = held_among v front one.0 one.1 (held v one.0.span common.first common.first_is common.in_first) in
    let here = held v r.span common.second common.second_is common.in_second in
    let all = parts v front (r ∷ more) in
    let two = head_part v r more in
    let most = apart v in
    omega (arith, before, here, all, two, most)

nothing_met : (front more : List RangeSpan) (r : RangeSpan) → AreApart (upright_in (front ++ r ∷ more)) → meeting_finding (front, r) ≡ None
nothing_met front more r apart = cond-false (meets_any front r) _ None (false_from_ne_true (meets_any front r) (meets_none front more r apart))

regrouped : (front more : List RangeSpan) (r : RangeSpan) → AreApart (upright_in (front ++ r ∷ more)) → AreApart (upright_in ((front ++ r ∷ []) ++ more))
regrouped front more r apart = subst (λ (l : List RangeSpan). AreApart (upright_in l)) (sym (append_assoc front (r ∷ []) more)) apart

none_met : (front ranges : List RangeSpan) → AreApart (upright_in (front ++ ranges)) → meeting_from front ranges None ≡ None
none_met front [] apart = refl
none_met front (r ∷ more) apart =
    ap (λ (o : Option Finding). least_at meeting_finding (fronts (front ++ r ∷ []) more) (earlier None o)) (nothing_met front more r apart)
    ∙ none_met (front ++ r ∷ []) more (regrouped front more r apart)

pub none_meets : (ranges : List RangeSpan) → AreApart (upright_in ranges) → meeting_in ranges ≡ None
none_meets ranges apart = none_met [] ranges apart

-- ---- the first that meets an earlier one

passes : (a b : ℕ) (next : Bool) → (a < b) ⊎ ((a ≡ b) × (next ≡ true)) → (if nat_eq a b then next else nat_lt a b) ≡ true
passes a b next (inl lt) = ap (λ (t : Bool). if t then next else nat_lt a b) (ne_eqb a b (λ e. omega (arith, lt, e))) ∙ lt-ltb a b lt
passes a b next (inr same) = ap (λ (t : Bool). if t then next else nat_lt a b) (eq-eqb a b same.0) ∙ same.1

column_passes : (a b : ℕ) (next : Bool) → a < b → (if nat_eq a b then next else nat_lt a b) ≡ true
column_passes a b next lt = passes a b next (inl lt)

lines_pass : (a b c d : ℕ) (next : Bool) → (a < b) ⊎ ((a ≡ b) × (c < d)) → (if nat_eq a b then (if nat_eq c d then next else nat_lt c d) else nat_lt a b) ≡ true
lines_pass a b c d next (inl lt) = passes a b _ (inl lt)
lines_pass a b c d next (inr same) = passes a b _ (inr (same.0, column_passes c d next same.1))

stands_before : (f g : Finding) → IsBefore f.place g.place → is_no_later f g ≡ true
stands_before f g (inl lt) = passes f.place.file g.place.file _ (inl lt)
stands_before f g (inr same) = passes f.place.file g.place.file _ (inr (same.0, lines_pass f.place.line g.place.line f.place.column g.place.column _ same.1))

kept_by : (f : Finding) (o : Option Finding) → ((g : Finding) → o ≡ Some g → IsBefore f.place g.place) → earlier (Some f) o ≡ Some f
kept_by f None behind = refl
kept_by f (Some g) behind = cond-true (is_no_later f g) (Some f) (Some g) (stands_before f g (behind g refl))

stays : (front more : List RangeSpan) (f : Finding) → All (λ (r : RangeSpan). IsBefore f.place r.place) more → least_at meeting_finding (fronts front more) (Some f) ≡ Some f
stays front [] f behind = refl
stays front (r ∷ more) f behind =
    ap (λ (o : Option Finding). least_at meeting_finding (fronts (front ++ r ∷ []) more) o)
    (kept_by f (meeting_finding (front, r)) (λ g is. subst (λ (p : Place). IsBefore f.place p) (sym (found_if r.place 13 (meets_any front r) g is).1) (All-head (λ (r : RangeSpan). IsBefore f.place r.place) r more behind)))
    ∙ stays (front ++ r ∷ []) more f (All-tail (λ (r : RangeSpan). IsBefore f.place r.place) r more behind)

first_met : (before front more : List RangeSpan) (r : RangeSpan) (f : Finding) → AreApart (upright_in (before ++ front)) → All (λ (s : RangeSpan). IsBefore r.place s.place) more
    → meeting_finding (before ++ front, r) ≡ Some f → meeting_from before (front ++ r ∷ more) None ≡ Some f
first_met before [] more r f apart behind found =
    let here = ap (λ (l : List RangeSpan). meeting_finding (l, r)) (sym (append-nil before)) ∙ found in
    ap (λ (o : Option Finding). least_at meeting_finding (fronts (before ++ r ∷ []) more) (earlier None o)) here
    ∙ stays (before ++ r ∷ []) more f (subst (λ (p : Place). All (λ (s : RangeSpan). IsBefore p s.place) more) (sym (found_if r.place 13 (meets_any before r) f here).1) behind)
first_met before (b ∷ front) more r f apart behind found =
    ap (λ (o : Option Finding). least_at meeting_finding (fronts (before ++ b ∷ []) (front ++ r ∷ more)) (earlier None o)) (nothing_met before front b apart)
    ∙ first_met (before ++ b ∷ []) front more r f (regrouped before front b apart) behind (ap (λ (l : List RangeSpan). meeting_finding (l, r)) (append_assoc before (b ∷ []) front) ∙ found)

pub meeting_there : (ranges : List RangeSpan) (at : ℕ) (d : RangeSpan) (f : Finding) → at < length ranges → AreApart (upright_in (take at ranges))
    → All (λ (s : RangeSpan). IsBefore (get_or ranges at d).place s.place) (take (length ranges - (at + 1)) (drop (at + 1) ranges)) → meeting_finding (take at ranges, get_or ranges at d) ≡ Some f
    → meeting_in ranges ≡ Some f
meeting_there ranges at d f within apart behind found =
    let r = get_or ranges at d in
    let next : suc at ≡ at + 1 = omega arith in
    let here = drop-cons ranges at d within ∙ ap (λ (n : ℕ). r ∷ drop n ranges) next in
    let split = sym (take-append-drop at ranges) ∙ ap (λ (l : List RangeSpan). take at ranges ++ l) here in
    let rest = drop (at + 1) ranges in
    let long = length-drop (at + 1) ranges in
    let whole = take_all (length ranges - (at + 1)) rest (omega (arith, long)) in
    ap meeting_in split ∙ first_met [] (take at ranges) rest r f apart (subst (All (λ (s : RangeSpan). IsBefore r.place s.place)) whole behind) found

-- ---- what the code finds

pub apart_when : (ranges : List RangeSpan) (spans sorted slice : List Span) (b : Bool) → spans ≡ upright_in ranges → IsPermutation spans sorted → slice ≡ sorted → b ≡ is_ascending None slice → b ≡ true → AreApart (upright_in ranges)
apart_when ranges spans sorted slice b from same kept ascending is =
    subst AreApart from (apart_by_sort spans sorted same (ap (is_ascending None) (sym kept) ∙ sym ascending ∙ is))

pub each_some : (P : Finding → Type 0) (o : Option Finding) → ((f : Finding) → o ≡ Some f → P f) → IfSome o P
each_some P None h = tt
each_some P (Some f) h = h f refl
