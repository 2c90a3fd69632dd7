-- What is found at the arms of a match is the first of what they break.
use Rattle.std.proofs.Common.{◌≡◌, ◌↔◌, ◌⊎◌, inl, inr, ⊎_elim, ℕ, ℤ, ◌<ℤ◌, Bool, true, false, ◌||◌, List, [], ◌∷◌, ◌++◌, map, Option, refl, sym, ap, subst, ◌∙◌, true≢false}
use Rattle.std.specs.Prelude.{Some, None}
use Rattle.std.specs.List.{list_any, Contains}
use Rattle.std.proofs.lemmas.List.Folds.{list_any-append}
use Rattle.pst_base.specs.declared.position.Place.{Place}
use Rattle.pst_base.specs.Laws.{BeforeGoesOn}
use Rattle.pst_ast.specs.ExpressionTree.{ExprTree, RangeTree, RangeSingle, RangeBetween}
use Rattle.pst_ast.specs.ActivityTree.{ArmLabelTree, ArmLabelRanges, ArmLabelDefault}
use Rattle.pst_ast.specs.DeclarationTree.{UnitTree}
use Rattle.pst_expr.specs.declared.ranges.Span.{Span}
use Rattle.pst_ast.specs.declared.environment.Environment.{Environment}
use Rattle.pst_ast.specs.declared.referent.Finding.{Finding}
use Rattle.pst_ast.specs.Uses.{Arms}
use Rattle.pst_type_rules.specs.Constants.{IsConstant}
use Rattle.pst_type_rules.specs.Domains.{IsSpanOf, Single, Between, span}
use Rattle.pst_type_rules.specs.Places.{range_place}
use Rattle.pst_type_rules.specs.TypeRules.{UseBreaks, ReversedInMatch, Meeting, TwoDefaults, ranges_of_arms}
use Rattle.pst_name_rules.specs.Earlier.{earlier}
use Rattle.pst_name_rules.specs.Leasts.{IsLeastOf, IsIn, least_at}
use Rattle.pst_name_rules.proofs.Leasts.{least_of_both, told, least_in}
use Rattle.pst_evaluate.specs.Laws.{ConstantsAreFound}
use Rattle.pst_range_rules.specs.declared.span.RangeSpan.{RangeSpan}
use Rattle.pst_range_rules.specs.Laws.{IsBrokenBy, ArmsAreJudged}
use Rattle.pst_range_rules.specs.Spans.{between, span_of, range_span, spans_of, is_reversed, reversed_finding, reversed_in, meet}
use Rattle.pst_range_rules.specs.Meetings.{fronts, meets_any, meeting_finding, meeting_in, is_default, later_default, defaults_from, defaults_in, arms_by}
use Rattle.pst_range_rules.proofs.Commons.{from_meet, to_meet}
use Rattle.pst_range_rules.proofs.Fronts.{from_any, to_any, from_in, to_in, from_fronts, to_fronts}
use Rattle.pst_range_rules.proofs.Tests.{by_lt, lt_test, some_is, none_is_some, found_if, is_found}

-- ---- defaults

abbrev default_finding : List ArmLabelTree × ArmLabelTree → Option Finding
default_finding f = later_default (list_any is_default f.0) f.1

one_test : (b c : Bool) → (b || (c || false)) ≡ (b || c)
one_test true c = refl
one_test false true = refl
one_test false false = refl

defaults_are : (front labels : List ArmLabelTree) (before : Option Finding) → defaults_from (list_any is_default front) labels before ≡ least_at default_finding (fronts front labels) before
defaults_are front [] before = refl
defaults_are front (l ∷ more) before =
    ap (λ (seen : Bool). defaults_from seen more (earlier before (default_finding (front, l)))) (sym (list_any-append is_default front (l ∷ []) ∙ one_test (list_any is_default front) (is_default l)))
    ∙ defaults_are (front ++ l ∷ []) more (earlier before (default_finding (front, l)))

-- a default behind another
record Later (front : List ArmLabelTree) (label : ArmLabelTree) (f : Finding) : Type 0 where
  place : Place
  label_is : label ≡ ArmLabelDefault place
  seen : list_any is_default front ≡ true
  at : f.place ≡ place
  by : f.rule ≡ 13

later_is : (front : List ArmLabelTree) (label : ArmLabelTree) (f : Finding) → default_finding (front, label) ≡ Some f → Later front label f
later_is front (ArmLabelRanges left ranges right) f is = absurd (none_is_some f is)
later_is front (ArmLabelDefault place) f is =
    let found = found_if place 13 (list_any is_default front) f is in record { place = place; label_is = refl; seen = found.0; at = found.1; by = found.2 }

abbrev same_label : ArmLabelTree → ArmLabelTree
same_label l = l

default_is : (l : ArmLabelTree) → is_default l ≡ true → (place : Place) × (l ≡ ArmLabelDefault place)
default_is (ArmLabelRanges left ranges right) e = absurd (true≢false (sym e))
default_is (ArmLabelDefault place) e = (place, refl)

-- ---- spans

record Ends (a b : Option ℤ) (s : Span) : Type 0 where
  low : ℤ
  high : ℤ
  low_is : a ≡ Some low
  high_is : b ≡ Some high
  span_is : span low high ≡ s

ends_of : (a b : Option ℤ) (s : Span) → between a b ≡ Some s → Ends a b s
ends_of None b s e = absurd (none_is_some s e)
ends_of (Some x) None s e = absurd (none_is_some s e)
ends_of (Some x) (Some y) s e = record { low = x; high = y; low_is = refl; high_is = refl; span_is = some_is (span x y) s e }

module _ (units : List UnitTree) (names : List (List ℕ)) (at : Environment) (value : ExprTree → Option ℤ) (are : (expr : ExprTree) (v : ℤ) → (value expr ≡ Some v) ↔ IsConstant units names at expr v) where
  pub from_span : (r : RangeTree) (s : Span) → span_of value r ≡ Some s → IsSpanOf units names at r s
  from_span (RangeSingle expr) s e =
      let ends = ends_of (value expr) (value expr) s e in
      let same = some_is ends.low ends.high (sym ends.low_is ∙ ends.high_is) in
      subst (λ (t : Span). IsSpanOf units names at (RangeSingle expr) t) (ap (λ (h : ℤ). span ends.low h) same ∙ ends.span_is) (Single expr ends.low ((are expr ends.low).0 ends.low_is))
  from_span (RangeBetween low dots high) s e =
      let ends = ends_of (value low) (value high) s e in
      subst (λ (t : Span). IsSpanOf units names at (RangeBetween low dots high) t) ends.span_is
      (Between low high dots ends.low ends.high ((are low ends.low).0 ends.low_is) ((are high ends.high).0 ends.high_is))

  pub to_span : (r : RangeTree) (s : Span) → IsSpanOf units names at r s → span_of value r ≡ Some s
  to_span _ _ (Single expr v has) = ap (λ (o : Option ℤ). between o o) ((are expr v).1 has)
  to_span _ _ (Between low high dots a b p q) = ap (λ (o : Option ℤ). between o (value high)) ((are low a).1 p) ∙ ap (λ (o : Option ℤ). between (Some a) o) ((are high b).1 q)

  -- ---- reversed ranges

  pub reversed_is : (r : RangeTree) (o : Option Span) → span_of value r ≡ o → is_reversed o ≡ true → (s : Span) × IsSpanOf units names at r s × (s.high <ℤ s.low)
  reversed_is r None is e = absurd (true≢false (sym e))
  reversed_is r (Some s) is e = (s, from_span r s is, by_lt s.high s.low e)

  pub is_reversed_so : (r : RangeTree) (s : Span) → IsSpanOf units names at r s → s.high <ℤ s.low → is_reversed (span_of value r) ≡ true
  is_reversed_so r s is rev = ap is_reversed (to_span r s is) ∙ lt_test s.high s.low rev

  -- ---- arms

  module _ (on : BeforeGoesOn) (labels : List ArmLabelTree) where
    abbrev trees : List RangeTree
    trees = ranges_of_arms labels

    abbrev Reversed : Finding → Type 0
    Reversed f = ⊥ ⊎ IsIn reversed_finding (spans_of value trees) f

    abbrev Meets : Finding → Type 0
    Meets f = ⊥ ⊎ IsIn meeting_finding (fronts (map (range_span value) []) (spans_of value trees)) f

    abbrev Doubled : Finding → Type 0
    Doubled f = ⊥ ⊎ IsIn default_finding (fronts (map same_label []) (map same_label labels)) f

    abbrev Parts : Finding → Type 0
    Parts f = (Reversed f ⊎ Meets f) ⊎ Doubled f

    moved : (f : Finding) (place : Place) (rule : ℕ) → f.place ≡ place → f.rule ≡ rule → UseBreaks units names (Arms at labels) place rule → IsBrokenBy units names (Arms at labels) f
    moved f place rule p r breaks =
        subst (λ (n : ℕ). UseBreaks units names (Arms at labels) f.place n) (sym r) (subst (λ (q : Place). UseBreaks units names (Arms at labels) q rule) (sym p) breaks)

    from_reversed : (f : Finding) → IsIn reversed_finding (spans_of value trees) f → IsBrokenBy units names (Arms at labels) f
    from_reversed f is =
        let found = from_in (range_span value) reversed_finding trees f is in
        let test = found_if (range_place found.0) 10 (is_reversed (span_of value found.0)) f found.2 in
        let rev = reversed_is found.0 (span_of value found.0) refl test.0 in
        moved f (range_place found.0) 10 test.1 test.2 (ReversedInMatch at labels found.0 rev.0 found.1 rev.1 rev.2)

    from_meeting : (f : Finding) → IsIn meeting_finding (fronts (map (range_span value) []) (spans_of value trees)) f → IsBrokenBy units names (Arms at labels) f
    from_meeting f is =
        let found = from_fronts (range_span value) meeting_finding [] trees f is in
        let test = found_if (range_place found.1) 13 (meets_any (spans_of value found.0) (range_span value found.1)) f found.4 in
        let one = from_any (range_span value) (λ (e : RangeSpan). meet e.span (span_of value found.1)) found.0 test.0 in
        let common = from_meet (span_of value one.0) (span_of value found.1) one.2 in
        moved f (range_place found.1) 13 test.1 test.2
        (Meeting at labels found.0 found.2 one.0 found.1 common.first common.second common.number found.3 one.1
        (from_span one.0 common.first common.first_is) (from_span found.1 common.second common.second_is) common.in_first common.in_second)

    from_default : (f : Finding) → IsIn default_finding (fronts (map same_label []) (map same_label labels)) f → IsBrokenBy units names (Arms at labels) f
    from_default f is =
        let found = from_fronts same_label default_finding [] labels f is in
        let later = later_is (map same_label found.0) found.1 f found.4 in
        let one = from_any same_label is_default found.0 later.seen in
        let first = default_is one.0 one.2 in
        moved f later.place 13 later.at later.by
        (TwoDefaults at labels found.0 found.2 first.0 later.place (found.3 ∙ ap (λ (l : ArmLabelTree). found.0 ++ l ∷ found.2) later.label_is) (subst (λ (l : ArmLabelTree). Contains found.0 l) first.1 one.1))

    to : (f : Finding) → Parts f → IsBrokenBy units names (Arms at labels) f
    to f parts =
        ⊎_elim (λ left. ⊎_elim (λ r. ⊎_elim (λ no. absurd no) (from_reversed f) r) (λ m. ⊎_elim (λ no. absurd no) (from_meeting f) m) left)
        (λ d. ⊎_elim (λ no. absurd no) (from_default f) d) parts

    from : (f : Finding) (place : Place) (rule : ℕ) → f.place ≡ place → f.rule ≡ rule → UseBreaks units names (Arms at labels) place rule → Parts f
    from f _ _ p r (ReversedInMatch _ _ range s among is rev) =
        inl (inl (inr (to_in (range_span value) reversed_finding trees range f among (is_found (range_place range) 10 (is_reversed (span_of value range)) f (is_reversed_so range s is rev) p r))))
    from f _ _ p r (Meeting _ _ front more first second s t v split among is js in_s in_t) =
        let meets = ap (λ (o : Option Span). meet o (span_of value second)) (to_span first s is) ∙ ap (λ (o : Option Span). meet (Some s) o) (to_span second t js) ∙ to_meet s t v in_s in_t in
        let any = to_any (range_span value) (λ (e : RangeSpan). meet e.span (span_of value second)) front first among meets in
        let found = is_found (range_place second) 13 (meets_any (spans_of value front) (range_span value second)) f any p r in
        inl (inr (inr (subst (λ (rs : List RangeTree). IsIn meeting_finding (fronts (map (range_span value) []) (spans_of value rs)) f) (sym split)
        (to_fronts (range_span value) meeting_finding [] front more second f found))))
    from f _ _ p r (TwoDefaults _ _ front more first second split among) =
        let any = to_any same_label is_default front (ArmLabelDefault first) among refl in
        let found = is_found second 13 (list_any is_default (map same_label front)) f any p r in
        inr (inr (subst (λ (ls : List ArmLabelTree). IsIn default_finding (fronts (map same_label []) (map same_label ls)) f) (sym split)
        (to_fronts same_label default_finding [] front more (ArmLabelDefault second) f found)))

    nothing : IsLeastOf (λ (f : Finding). ⊥) None
    nothing = λ f no. no

    unmapped : (ls : List ArmLabelTree) → map same_label ls ≡ ls
    unmapped [] = refl
    unmapped (l ∷ more) = ap (λ (rest : List ArmLabelTree). l ∷ rest) (unmapped more)

    defaults_least : IsLeastOf Doubled (defaults_in labels)
    defaults_least =
        subst (λ (o : Option Finding). IsLeastOf Doubled o)
        (ap (λ (ls : List ArmLabelTree). least_at default_finding (fronts [] ls) None) (unmapped labels) ∙ sym (defaults_are [] labels None))
        (least_in on default_finding (fronts (map same_label []) (map same_label labels)) (λ (f : Finding). ⊥) None nothing)

    pub arms_judged : IsLeastOf (IsBrokenBy units names (Arms at labels)) (arms_by value labels)
    arms_judged =
        told on Parts (IsBrokenBy units names (Arms at labels)) (arms_by value labels) to (λ f breaks. from f f.place f.rule refl refl breaks)
        (least_of_both on (λ (f : Finding). Reversed f ⊎ Meets f) Doubled
        (earlier (reversed_in (spans_of value trees)) (meeting_in (spans_of value trees))) (defaults_in labels)
        (least_of_both on Reversed Meets (reversed_in (spans_of value trees)) (meeting_in (spans_of value trees))
        (least_in on reversed_finding (spans_of value trees) (λ (f : Finding). ⊥) None nothing)
        (least_in on meeting_finding (fronts (map (range_span value) []) (spans_of value trees)) (λ (f : Finding). ⊥) None nothing))
        defaults_least)

pub arms_are_judged : ConstantsAreFound → BeforeGoesOn → ArmsAreJudged
arms_are_judged found on units names known at labels are = arms_judged units names at _ (λ expr v. found units names known at expr v are) on labels
