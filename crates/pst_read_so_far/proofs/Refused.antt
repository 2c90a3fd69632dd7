-- A constraint that is refused stays refused, as that constraint.
use Rattle.std.proofs.Common.{◌≡◌, ◌++◌, zero, suc, pos, List, [], ◌∷◌, map, true, Option, Some, None, IfSome, refl, arith}
use Rattle.std.specs.Ordering.{int_eq}
use Rattle.std.proofs.lemmas.Int.{ints}
use Rattle.std.proofs.lemmas.Bool.Decides.{Decides-int_eq}
use Rattle.std.proofs.lemmas.Bool.{and_parts, and_from}
use Rattle.pst_expr.specs.declared.ranges.Span.{Span}
use Rattle.pst_domain.specs.Bounds.{IsInside, AreInside}
use Rattle.pst_domain.specs.Truth.{is_zero}
use Rattle.pst_domain.specs.Interval.{interval, is_refused}
use Rattle.pst_domain.specs.Laws.{IsSane, NarrowerBoundsGiveInnerSpans, SpansAreSane}
use Rattle.pst_model.specs.ConstraintTree.{SlotTree, ConstraintTree}
use Rattle.pst_legal.specs.Standing.{Standing, bound_of}
use Rattle.pst_legal.specs.Constraints.{is_refused_at}
use Rattle.pst_built.specs.Known.{Narrower}
use Rattle.pst_built.specs.ReadOnwardLaws.{LongerListsKeepWhatIsKnown}
use Rattle.pst_built.proofs.Unread.{handles_fit}
use Rattle.pst_built.proofs.Sound.{pools_are_small}
use Rattle.pst_built.proofs.MoreKnownRefused.{still_has}
use Rattle.pst_read_domains.specs.Laws.{ReadValuesAreInDomains}
use Rattle.pst_read_domains.specs.ReadNodesLaws.{ReadLeavesHaveActions, HandlesHaveTheirTypes}
use Rattle.pst_read_so_far.specs.Laws.{ConstraintsStayRefused}

-- a span inside 0 to 0 that isn't reversed is 0 to 0
inner_zero : (s t : Span) → IsSane s → IsInside (Some s) (Some t) → is_zero t ≡ true → is_zero s ≡ true
inner_zero s t sane inside test =
    let parts = and_parts (int_eq t.low (pos 0)) (int_eq t.high (pos 0)) test in
    let first : t.low ≡ pos 0 = (Decides-int_eq t.low (pos 0)).0 parts.0 in
    let last : t.high ≡ pos 0 = (Decides-int_eq t.high (pos 0)).0 parts.1 in
    let up = sane.upright in
    let low : s.low ≡ pos 0 = omega (arith, ints, first, last, inside.0, inside.1, up) in
    let high : s.high ≡ pos 0 = omega (arith, ints, first, last, inside.0, inside.1, up) in
    and_from (int_eq s.low (pos 0)) (int_eq s.high (pos 0)) ((Decides-int_eq s.low (pos 0)).1 low) ((Decides-int_eq s.high (pos 0)).1 high)

refused_inside : (inner outer : Option Span) → IfSome inner IsSane → IsInside inner outer → is_refused outer ≡ true → is_refused inner ≡ true
refused_inside None outer sane inside refused = refl
refused_inside (Some s) None sane inside refused = absurd inside
refused_inside (Some s) (Some t) sane inside refused = inner_zero s t sane inside refused

lists_inside : (slots : List SlotTree) (now before : SlotTree → Standing) → ((slot : SlotTree) → Narrower (now slot) (before slot))
    → AreInside (map (λ slot. bound_of (now slot)) slots) (map (λ slot. bound_of (before slot)) slots)
lists_inside [] now before narrower i = tt
lists_inside (slot ∷ slots) now before narrower zero = narrower slot
lists_inside (slot ∷ slots) now before narrower (suc i) = lists_inside slots now before narrower i

still_refused : NarrowerBoundsGiveInnerSpans → SpansAreSane → (k : ConstraintTree) (now before : SlotTree → Standing) → ((slot : SlotTree) → Narrower (now slot) (before slot)) → is_refused_at k before ≡ true → is_refused_at k now ≡ true
still_refused narrow sane k now before narrower refused =
    let inner = map (λ slot. bound_of (now slot)) k.slots in
    let outer = map (λ slot. bound_of (before slot)) k.slots in
    refused_inside (interval k.expression inner) (interval k.expression outer) (sane k.expression inner) (narrow k.expression inner outer (lists_inside k.slots now before narrower)) refused

pub stay_refused : NarrowerBoundsGiveInnerSpans → SpansAreSane → ReadValuesAreInDomains → ReadLeavesHaveActions → HandlesHaveTheirTypes → LongerListsKeepWhatIsKnown → ConstraintsStayRefused
stay_refused narrow upright domains leaves handles longer m root seed level choices more s t sound concrete has later k standing is =
    let on = longer m root seed level choices more s t has later in
    let sane = domains m root seed level (choices ++ more) t sound concrete later in
    let fit = handles_fit m t sane (handles m root seed level (choices ++ more) t sound later) (pools_are_small m sound) in
    let still = still_has m s t on (leaves m root seed level choices s has) sane fit k standing is in
    record { now = still.now; has = still.has; narrower = still.narrower; refused = λ refused. still_refused narrow upright k still.now standing still.narrower refused }
