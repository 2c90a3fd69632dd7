-- One verdict on a text.
use Rattle.std.proofs.Common.{◌≡◌, ◌+◌, ℕ, List, refl, sym, ap, subst, ◌∙◌, length}
use Rattle.std.specs.Prelude.{map, string_bytes}
use Rattle.pst_model.specs.ModelTree.{ModelTree}
use Rattle.pst_scen.specs.declared.event.Event.{Event}
use Rattle.pst_scen.specs.declared.scenario.Scenario.{Scenario}
use Rattle.pst_check.specs.declared.verdict.Verdict.{Verdict}
use Rattle.pst_check.specs.declared.verdict.Verdict.TheVariants as judged
use Rattle.pst_check.specs.Verdicts.{IsVerdict}
use Rattle.pst_check.specs.Laws.{VerdictsAreOne}
use Rattle.pst_trace_texts.specs.Header.{header_text}
use Rattle.pst_trace_lines.specs.declared.last.LastLine.{LastLine}
use Rattle.pst_trace_verdict.specs.declared.verdict.TraceVerdict.{TraceVerdict}
use Rattle.pst_trace_verdict.specs.declared.verdict.TraceVerdict.TheVariants.{Whole, Prefix, Illegal}
use Rattle.pst_trace_verdict.specs.Verdicts.{IsHeaderBreach, HasNone, Leaves, IsHeader, OfEvents, BlockBreaks, WholeEndsWrong, PrefixEndsWrong, IsWhole, IsPrefix, OfText, HeaderBreaks, HeaderKept}
use Rattle.pst_trace_verdict.specs.Laws.{TraceVerdictsAreOne}
use Rattle.pst_trace_verdict.proofs.Leaving.{leaves_once, never_leaves}

breaches_one : (names : List (List ℕ)) (m : ModelTree) (s : Scenario) (format : ℕ) (header : List (List ℕ)) (a b : ℕ) → IsHeaderBreach names m s format header a → IsHeaderBreach names m s format header b → a ≡ b
breaches_one names m s format header _ _ (HasNone none) (HasNone other) = refl
breaches_one names m s format header _ _ (HasNone none) (Leaves at has leaves) = absurd (none has)
breaches_one names m s format header _ _ (Leaves at has leaves) (HasNone none) = absurd (none has)
breaches_one names m s format header _ _ (Leaves a has leaves) (Leaves b too other) = ap (λ n. n + 1) (leaves_once (header_text format names m s) header a b leaves other)

never_both : (names : List (List ℕ)) (m : ModelTree) (s : Scenario) (format : ℕ) (header : List (List ℕ)) (a : ℕ) → IsHeaderBreach names m s format header a → IsHeader names m s format header → ⊥
never_both names m s format header _ (HasNone none) own = none own.has
never_both names m s format header _ (Leaves at has leaves) own = never_leaves (header_text format names m s) header at own.is leaves

abbrev is_whole : Verdict → Type 0
is_whole judged.Whole = Unit {0}
is_whole judged.Prefix = ⊥
is_whole (judged.Illegal block rule) = ⊥

abbrev is_prefix : Verdict → Type 0
is_prefix judged.Whole = ⊥
is_prefix judged.Prefix = Unit {0}
is_prefix (judged.Illegal block rule) = ⊥

abbrev at_line : ℕ → Verdict → TraceVerdict
at_line lines judged.Whole = Whole
at_line lines judged.Prefix = Prefix
at_line lines (judged.Illegal block rule) = Illegal (lines + block + 1) rule

module _ (law : VerdictsAreOne) (s : Scenario) (lines : ℕ) (events : List Event) (last : LastLine) where
  same : (v w : Verdict) → IsVerdict s events v → IsVerdict s events w → v ≡ w
  same v w one other = law s events v w one other

  whole_prefix : IsVerdict s events judged.Whole → IsVerdict s events judged.Prefix → ⊥
  whole_prefix one other = subst is_whole (same judged.Whole judged.Prefix one other) tt

  whole_illegal : (b r : ℕ) → IsVerdict s events judged.Whole → IsVerdict s events (judged.Illegal b r) → ⊥
  whole_illegal b r one other = subst is_whole (same judged.Whole (judged.Illegal b r) one other) tt

  prefix_illegal : (b r : ℕ) → IsVerdict s events judged.Prefix → IsVerdict s events (judged.Illegal b r) → ⊥
  prefix_illegal b r one other = subst is_prefix (same judged.Prefix (judged.Illegal b r) one other) tt

  events_one : (x y : TraceVerdict) → OfEvents s lines events last x → OfEvents s lines events last y → x ≡ y
  events_one _ _ (BlockBreaks b r is) (BlockBreaks c q other) = ap (at_line lines) (same (judged.Illegal b r) (judged.Illegal c q) is other)
  events_one _ _ (BlockBreaks b r is) (WholeEndsWrong other no_fit) = absurd (whole_illegal b r other is)
  events_one _ _ (BlockBreaks b r is) (PrefixEndsWrong other no_fit) = absurd (prefix_illegal b r other is)
  events_one _ _ (BlockBreaks b r is) (IsWhole other fits) = absurd (whole_illegal b r other is)
  events_one _ _ (BlockBreaks b r is) (IsPrefix other fits) = absurd (prefix_illegal b r other is)
  events_one _ _ (WholeEndsWrong is no_fit) (BlockBreaks c q other) = absurd (whole_illegal c q is other)
  events_one _ _ (WholeEndsWrong is no_fit) (WholeEndsWrong other no_too) = refl
  events_one _ _ (WholeEndsWrong is no_fit) (PrefixEndsWrong other no_too) = refl
  events_one _ _ (WholeEndsWrong is no_fit) (IsWhole other fits) = absurd (no_fit fits)
  events_one _ _ (WholeEndsWrong is no_fit) (IsPrefix other fits) = absurd (no_fit fits)
  events_one _ _ (PrefixEndsWrong is no_fit) (BlockBreaks c q other) = absurd (prefix_illegal c q is other)
  events_one _ _ (PrefixEndsWrong is no_fit) (WholeEndsWrong other no_too) = refl
  events_one _ _ (PrefixEndsWrong is no_fit) (PrefixEndsWrong other no_too) = refl
  events_one _ _ (PrefixEndsWrong is no_fit) (IsWhole other fits) = absurd (no_fit fits)
  events_one _ _ (PrefixEndsWrong is no_fit) (IsPrefix other fits) = absurd (no_fit fits)
  events_one _ _ (IsWhole is fits) (BlockBreaks c q other) = absurd (whole_illegal c q is other)
  events_one _ _ (IsWhole is fits) (WholeEndsWrong other no_fit) = absurd (no_fit fits)
  events_one _ _ (IsWhole is fits) (PrefixEndsWrong other no_fit) = absurd (no_fit fits)
  events_one _ _ (IsWhole is fits) (IsWhole other too) = refl
  events_one _ _ (IsWhole is fits) (IsPrefix other too) = absurd (whole_prefix is other)
  events_one _ _ (IsPrefix is fits) (BlockBreaks c q other) = absurd (prefix_illegal c q is other)
  events_one _ _ (IsPrefix is fits) (WholeEndsWrong other no_fit) = absurd (no_fit fits)
  events_one _ _ (IsPrefix is fits) (PrefixEndsWrong other no_fit) = absurd (no_fit fits)
  events_one _ _ (IsPrefix is fits) (IsWhole other too) = absurd (whole_prefix other is)
  events_one _ _ (IsPrefix is fits) (IsPrefix other too) = refl

texts_one : VerdictsAreOne → (names : List (List ℕ)) (m : ModelTree) (s : Scenario) (format : ℕ) (header : List (List ℕ)) (events : List Event) (last : LastLine) (x y : TraceVerdict)
    → OfText names m s format header events last x → OfText names m s format header events last y → x ≡ y
texts_one law names m s format header events last _ _ (HeaderBreaks a is) (HeaderBreaks b other) = ap (λ n. Illegal n 1) (breaches_one names m s format header a b is other)
texts_one law names m s format header events last _ _ (HeaderBreaks a is) (HeaderKept w own other) = absurd (never_both names m s format header a is own)
texts_one law names m s format header events last _ _ (HeaderKept v own is) (HeaderBreaks b other) = absurd (never_both names m s format header b other own)
texts_one law names m s format header events last _ _ (HeaderKept v own is) (HeaderKept w too other) = events_one law s (length header) events last v w is other

pub verdicts_one : VerdictsAreOne → TraceVerdictsAreOne
verdicts_one law names m s t one other is too = texts_one law names m s t.format (map string_bytes t.header.items) t.events.items t.last one other is too
