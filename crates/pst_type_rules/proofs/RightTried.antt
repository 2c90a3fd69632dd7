-- Facts about uses that break no rule.
use Rattle.std.proofs.Common.{◌≡◌, arith, zero, suc, ◌≤◌, refl, sym, subst, ap, ◌∙◌, true≢false}
use Rattle.std.specs.Prelude.{ℕ, ℤ, pos, ◌≤ℤ◌, ◌<ℤ◌, List, [], ◌∷◌, ◌++◌, true, false, Some, None}
use Rattle.std.specs.List.{Contains}
use Rattle.std.proofs.lemmas.Int.{ints}
use Rattle.pst_base.specs.declared.position.Place.{Place}
use Rattle.pst_ast.specs.ExpressionTree.{RangeTree}
use Rattle.pst_base.specs.declared.table.NameId.{NameId}
use Rattle.pst_ast.specs.declared.activity.EndNode.{EndNode}
use Rattle.pst_ast.specs.ActivityTree.{ArmLabelTree, ArmLabelRanges, ArmLabelDefault}
use Rattle.pst_ast.specs.SharedTree.{WidthTree, MakeWidth}
use Rattle.pst_ast.specs.DeclarationTree.{UnitTree}
use Rattle.pst_ast.specs.Sorts.{is_resource}
use Rattle.pst_num.specs.Range.{in_range}
use Rattle.pst_expr.specs.declared.ranges.Span.{Span}
use Rattle.pst_expr.specs.Spans.{IsInSpan}
use Rattle.pst_ast.specs.declared.scope_declaration.Declaration.{Declaration}
use Rattle.pst_ast.specs.declared.scope_declaration.Sort.TheVariants as sort
use Rattle.pst_ast.specs.declared.environment.Environment.{Environment}
use Rattle.pst_ast.specs.Declarations.{declarations, member}
use Rattle.pst_ast.specs.Lookups.{look_up, declared_at, base_of, member_of, item_at, value_named, type_of, traversed, stands_for}
use Rattle.pst_ast.specs.Uses.{Judges, HasPlain, HasType, Arms, Ties, PoolSize}
use Rattle.pst_type_rules.specs.Constants.{IsConstant}
use Rattle.pst_type_rules.specs.Domains.{span, unsigned_span, HasWidth, ByCount, BitOfWidth, OfPlain, IsSpanOf, Single, Between}
use Rattle.pst_type_rules.specs.Binds.{reference_at, AreEnds}
use Rattle.pst_type_rules.specs.TypeRules.{WidthOutside, LowestNotZero, ReversedInDomain, ReversedInMatch, Empty, InnerIn, NotConstant, ValueOutside, Meeting, TwoDefaults, SizeOfNoResources, UnfitEnds, OneHandle}
use Rattle.pst_type_rules.specs.Tried.{on, name, number}
use Rattle.pst_type_rules.specs.TriedRules.{mark, type}
use Rattle.pst_type_rules.specs.TriedRight.{source, names, within_pool, within, simple, compound, wide, one, only_one, output, input, zero_to_one, two, labels, IsRight}
use Rattle.pst_type_rules.proofs.SourcesTried.{is_missing, number_is}
use Rattle.pst_type_rules.proofs.RulesTried.{some_is, first_or}
use Rattle.pst_type_rules.proofs.WidthTried.{none_of, longer}

abbrev units : List UnitTree
units = source ∷ []

its_value : (at : Environment) (n : ℕ) (place : Place) (v : ℤ) → in_range (pos n) ≡ Some (pos n) → IsConstant units names at (number n place) v → v ≡ pos n
its_value at n place v e c = some_is v (pos n) (sym c.value.value ∙ e)

inside : (v : ℤ) (n : ℕ) (s : Span) → v ≡ pos n → IsInSpan (pos n) s → IsInSpan v s
inside v n s is h = subst (λ (z : ℤ). IsInSpan z s) (sym is) h

-- ---- a pool and a width at their limits

pub greatest_size : IsRight (Judges within_pool (PoolSize (type 1 4 15)) (number 1024 (on 4 9)))
unfolding look_up
greatest_size place rule (InnerIn _ _ _ _ among) = none_of place among
greatest_size place rule (NotConstant _ _ _ must none) = none (pos 1024) (number_is _ _ _ 1024 (on 4 9) (pos 1024) refl)
greatest_size place rule (ValueOutside _ _ _ limits v is has outside) =
    outside (subst (λ (s : Span). IsInSpan v s) (some_is _ limits is) (inside v 1024 (span (pos 1) (pos 1024)) (its_value _ 1024 (on 4 9) v refl has) (omega arith, omega arith)))
greatest_size place rule (SizeOfNoResources _ _ _ d is none) = true≢false (subst (λ (x : Declaration). is_resource x.sort ≡ false) (sym (some_is _ d is)) none)

width_is : (w : ℤ) → HasWidth units names (within simple) (MakeWidth mark (number 63 (on 5 46)) None mark) w → w ≡ pos 63
width_is w (ByCount _ _ _ _ c) = its_value _ 63 (on 5 46) w refl c

pub greatest_width : IsRight (HasPlain (within simple) wide)
greatest_width place rule (WidthOutside _ _ width w is has outside) =
    outside (inside w 63 (span (pos 1) (pos 63)) (width_is w (subst (λ (x : WidthTree). HasWidth units names (within simple) x w) (sym (some_is _ width is)) has)) (omega arith, omega arith))
greatest_width place rule (LowestNotZero _ _ expr v is has other) = is_missing expr is

-- ---- a domain of one value

from_one : (at : Environment) (s : Span) → IsSpanOf units names at one s → (s.low ≡ pos 1) × (s.high ≡ pos 1)
from_one at s (Between _ _ _ a b c d) = (its_value at 1 (on 5 54) a refl c, its_value at 1 (on 5 57) b refl d)

is_first : (r x : RangeTree) → Contains (r ∷ []) x → r ≡ x
is_first r x (zero, less, is) = is
is_first r x (suc k, less, is) = absurd (omega (arith, less))

upright : (a b : ℤ) (n m : ℕ) → a ≡ pos n → b ≡ pos m → n ≤ m → b <ℤ a → ⊥
upright a b n m p q h less = omega (arith, ints)

pub one_value : IsRight (HasType (within simple) only_one)
one_value place rule (ReversedInDomain _ _ range s among is below) =
    let ends = from_one _ s (subst (λ (x : RangeTree). IsSpanOf units names (within simple) x s) (sym (is_first one range among)) is) in
    upright s.low s.high 1 1 ends.0 ends.1 (omega arith) below
one_value place rule (Empty _ _ known none) =
    none (pos 1)
    (OfPlain _ _ (unsigned_span 63) (pos 1) (BitOfWidth _ _ 63 (ByCount _ _ _ _ (number_is _ _ _ 63 (on 5 46) (pos 63) refl))) (omega arith, omega arith)
    (record { range = one; among = (0, omega arith, refl); span = span (pos 1) (pos 1); is = Between _ _ _ _ _ (number_is _ _ _ 1 (on 5 54) (pos 1) refl) (number_is _ _ _ 1 (on 5 57) (pos 1) refl); inside = (omega arith, omega arith) }))

-- ---- a bind

abbrev its_output : Declaration
its_output = member (on 5 10) (sort.Reference (type 2 5 32) true) (name 6 (on 5 34))

ends_fit : (x y : Declaration) → reference_at (declarations units) names (within compound) output ≡ Some x → reference_at (declarations units) names (within compound) input ≡ Some y → AreEnds (declarations units) x y
unfolding look_up declared_at base_of member_of item_at value_named type_of traversed stands_for
ends_fit x y a b =
    subst (λ (p : Declaration). AreEnds (declarations units) p y) (some_is _ x a)
    (subst (λ (q : Declaration). AreEnds (declarations units) its_output q) (some_is _ y b) (record { gives = refl; takes = refl; type = _; given = refl; taken = refl }))

the_end : (e : EndNode) → Contains (input ∷ []) e → input ≡ e
the_end e (zero, less, is) = is
the_end e (suc k, less, is) = absurd (omega (arith, less))

pub output_to_input : IsRight (Ties (within compound) output (input ∷ []))
output_to_input place rule (UnfitEnds _ _ other _ x y among a b unfit) =
    unfit (ends_fit x y a (subst (λ (e : EndNode). reference_at (declarations units) names (within compound) e ≡ Some y) (sym (the_end other among)) b))
output_to_input place rule (OneHandle _ _ other _ among same) =
    omega (arith, ap (λ (id : NameId). id.0) (subst (λ (e : EndNode). output.handle.id ≡ e.handle.id) (sym (the_end other among)) same))

-- ---- a `match`

from_low : (at : Environment) (s : Span) → IsSpanOf units names at zero_to_one s → (s.low ≡ pos 0) × (s.high ≡ pos 1)
from_low at s (Between _ _ _ a b c d) = (its_value at 0 (on 6 78) a refl c, its_value at 1 (on 6 81) b refl d)

from_two : (at : Environment) (s : Span) → IsSpanOf units names at two s → (s.low ≡ pos 2) × (s.high ≡ pos 2)
from_two at s (Single _ a c) = let is = its_value at 2 (on 6 88) a refl c in (is, is)

not_reversed : (range : RangeTree) (s : Span) → Contains (zero_to_one ∷ two ∷ []) range → IsSpanOf units names (within compound) range s → s.high <ℤ s.low → ⊥
not_reversed range s (zero, less, is) of below =
    let ends = from_low _ s (subst (λ (x : RangeTree). IsSpanOf units names (within compound) x s) (sym is) of) in upright s.low s.high 0 1 ends.0 ends.1 (omega arith) below
not_reversed range s (suc zero, less, is) of below =
    let ends = from_two _ s (subst (λ (x : RangeTree). IsSpanOf units names (within compound) x s) (sym is) of) in upright s.low s.high 2 2 ends.0 ends.1 (omega arith) below
not_reversed range s (suc (suc k), less, is) of below = absurd (omega (arith, less))

abbrev behind_first : {A : Type 0} → List A → List A
behind_first [] = []
behind_first (x ∷ more) = more

nothing_common : (v high low : ℤ) → high ≡ pos 1 → low ≡ pos 2 → v ≤ℤ high → low ≤ℤ v → ⊥
nothing_common v high low p q a b = omega (arith, ints)

not_meeting : (front more : List RangeTree) (earlier later : RangeTree) (s t : Span) (v : ℤ) → zero_to_one ∷ two ∷ [] ≡ front ++ later ∷ more → Contains front earlier
    → IsSpanOf units names (within compound) earlier s → IsSpanOf units names (within compound) later t → IsInSpan v s → IsInSpan v t → ⊥
not_meeting [] more earlier later s t v split among a b in_s in_t = none_of earlier among
not_meeting (f ∷ []) more earlier later s t v split among a b in_s in_t =
    let first : zero_to_one ≡ earlier = ap (first_or two) split ∙ is_first f earlier among in
    let second : two ≡ later = ap (λ (l : List RangeTree). first_or two (behind_first l)) split in
    let low = from_low _ s (subst (λ (x : RangeTree). IsSpanOf units names (within compound) x s) (sym first) a) in
    let high = from_two _ t (subst (λ (x : RangeTree). IsSpanOf units names (within compound) x t) (sym second) b) in
    nothing_common v s.high t.low low.1 high.0 in_s.1 in_t.0
not_meeting (f ∷ g ∷ front) more earlier later s t v split among a b in_s in_t = omega (arith, longer (zero_to_one ∷ two ∷ []) (f ∷ g ∷ front) more later split)

abbrev HasRanges : ArmLabelTree → Type 0
HasRanges (ArmLabelRanges left ranges right) = Unit {0}
HasRanges (ArmLabelDefault place) = ⊥

no_default : (f : ArmLabelTree) (first : Place) → HasRanges f → f ≡ ArmLabelDefault first → ⊥
no_default f first has same = subst HasRanges same has

one_default : (front more : List ArmLabelTree) (first second : Place) → labels ≡ front ++ ArmLabelDefault second ∷ more → Contains front (ArmLabelDefault first) → ⊥
one_default [] more first second split among = none_of (ArmLabelDefault first) among
one_default (f ∷ front) more first second split (zero, less, is) = no_default f first (subst HasRanges (ap (first_or f) split) tt) is
one_default (f ∷ []) more first second split (suc k, less, is) = absurd (omega (arith, less))
one_default (f ∷ g ∷ front) more first second split (suc zero, less, is) = no_default g first (subst HasRanges (ap (λ (l : List ArmLabelTree). first_or g (behind_first l)) split) tt) is
one_default (f ∷ g ∷ []) more first second split (suc (suc k), less, is) = absurd (omega (arith, less))
one_default (f ∷ g ∷ h ∷ front) more first second split (suc (suc k), less, is) =
    absurd (omega (arith, longer labels (f ∷ g ∷ h ∷ front) more (ArmLabelDefault second) split))

pub apart : IsRight (Arms (within compound) labels)
apart place rule (ReversedInMatch _ _ range s among is below) = not_reversed range s among is below
apart place rule (Meeting _ _ front more earlier later s t v split among a b in_s in_t) = not_meeting front more earlier later s t v split among a b in_s in_t
apart place rule (TwoDefaults _ _ front more first second split among) = one_default front more first second split among
