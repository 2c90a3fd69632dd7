-- The verdict on the blocks and the last line.
use Rattle.std.proofs.Common.{◌≡◌, ◌+◌, ℕ, List, Bool, true, false, refl, sym, ap, subst, ◌∙◌}
use Rattle.std.proofs.lemmas.List.{length-map}
use Rattle.std.specs.Prelude.{◌↔◌, IsTrue, IfOk, Result, Ok, Err, Option, None, Some, MatchOption, length, map, string_bytes}
use Rattle.std.specs.List.{flat_map}
use Rattle.pst_model.specs.ModelTree.{ModelTree}
use Rattle.pst_scen.specs.declared.event.Event.{Event}
use Rattle.pst_scen.specs.declared.scenario.Scenario.{Scenario}
use Rattle.pst_check.specs.declared.verdict.Verdict.{Verdict}
use Rattle.pst_check.specs.declared.verdict.Verdict.TheVariants as judged
use Rattle.pst_check.specs.Verdicts.{IsVerdict}
use Rattle.pst_trace_lines.specs.declared.last.LastLine.{LastLine}
use Rattle.pst_trace_verdict.specs.declared.verdict.TraceVerdict.{TraceVerdict}
use Rattle.pst_trace_verdict.specs.declared.verdict.TraceVerdict.TheVariants.{Whole, Prefix, Illegal}
use Rattle.pst_trace_verdict.specs.Events.{Fits, count_blocks}
use Rattle.pst_trace_texts.specs.Lines.{line}
use Rattle.pst_trace_texts.specs.Header.{header_text}
use Rattle.pst_trace_texts.specs.Elements.{HasHeader}
use Rattle.pst_trace_verdict.specs.Verdicts.{LeavesAt, IsHeaderBreach, HasNone, Leaves, IsHeader, OfText, HeaderBreaks, HeaderKept, OfEvents, BlockBreaks, WholeEndsWrong, PrefixEndsWrong, IsWhole, IsPrefix}

-- an answer of one verdict, or none
answered : {E : Type 0} (s : Scenario) (lines : ℕ) (events : List Event) (last : LastLine) (given : TraceVerdict) (r : Result TraceVerdict E)
    → OfEvents s lines events last given → IfOk r (λ v. v ≡ given) → IfOk r (λ v. OfEvents s lines events last v)
answered s lines events last given (Ok v) is same = subst (λ (w : TraceVerdict). OfEvents s lines events last w) (sym same) is
answered s lines events last given (Err e) is same = tt

not_fits : (s : Scenario) (events : List Event) (last : LastLine) (fits : Bool) → (IsTrue fits ↔ Fits s events last) → fits ≡ false → Fits s events last → ⊥
not_fits s events last true is lacks fit = let never : true ≡ false = lacks in absurd cc
not_fits s events last false is lacks fit = let never : false ≡ true = is.1 fit in absurd cc

does_fit : (s : Scenario) (events : List Event) (last : LastLine) (fits : Bool) → (IsTrue fits ↔ Fits s events last) → fits ≡ true → Fits s events last
does_fit s events last true is has = is.0 refl
does_fit s events last false is has = let never : false ≡ true = has in absurd cc

of_verdict : (s : Scenario) (events : List Event) (v w : Verdict) → v ≡ w → IsVerdict s events v → IsVerdict s events w
of_verdict s events v w same is = subst (λ (u : Verdict). IsVerdict s events u) same is

pub block_breaks : {E : Type 0} (s : Scenario) (lines : ℕ) (events : List Event) (last : LastLine) (v : Verdict) (block rule : ℕ) (r : Result TraceVerdict E)
    → v ≡ judged.Illegal block rule → IsVerdict s events v → IfOk r (λ w. w ≡ Illegal (lines + block + 1) rule) → IfOk r (λ w. OfEvents s lines events last w)
block_breaks s lines events last v block rule r same is found = answered s lines events last (Illegal (lines + block + 1) rule) r (BlockBreaks block rule (of_verdict s events v (judged.Illegal block rule) same is)) found

pub whole_ends_wrong : {E : Type 0} (s : Scenario) (lines : ℕ) (events : List Event) (last : LastLine) (v : Verdict) (fits : Bool) (count : ℕ) (r : Result TraceVerdict E)
    → v ≡ judged.Whole → IsVerdict s events v → (IsTrue fits ↔ Fits s events last) → fits ≡ false → count ≡ count_blocks events → IfOk r (λ w. w ≡ Illegal (lines + count + 1) 10) → IfOk r (λ w. OfEvents s lines events last w)
whole_ends_wrong s lines events last v fits count r same is fit lacks many found =
    answered s lines events last (Illegal (lines + count + 1) 10) r
    (subst (λ (n : ℕ). OfEvents s lines events last (Illegal (lines + n + 1) 10)) (sym many) (WholeEndsWrong (of_verdict s events v judged.Whole same is) (not_fits s events last fits fit lacks))) found

pub prefix_ends_wrong : {E : Type 0} (s : Scenario) (lines : ℕ) (events : List Event) (last : LastLine) (v : Verdict) (fits : Bool) (count : ℕ) (r : Result TraceVerdict E)
    → v ≡ judged.Prefix → IsVerdict s events v → (IsTrue fits ↔ Fits s events last) → fits ≡ false → count ≡ count_blocks events → IfOk r (λ w. w ≡ Illegal (lines + count + 1) 10) → IfOk r (λ w. OfEvents s lines events last w)
prefix_ends_wrong s lines events last v fits count r same is fit lacks many found =
    answered s lines events last (Illegal (lines + count + 1) 10) r
    (subst (λ (n : ℕ). OfEvents s lines events last (Illegal (lines + n + 1) 10)) (sym many) (PrefixEndsWrong (of_verdict s events v judged.Prefix same is) (not_fits s events last fits fit lacks))) found

pub ends_whole : (s : Scenario) (lines : ℕ) (events : List Event) (last : LastLine) (v : Verdict) (fits : Bool) → v ≡ judged.Whole → IsVerdict s events v → (IsTrue fits ↔ Fits s events last) → fits ≡ true → OfEvents s lines events last Whole
ends_whole s lines events last v fits same is fit has = IsWhole (of_verdict s events v judged.Whole same is) (does_fit s events last fits fit has)

pub ends_prefix : (s : Scenario) (lines : ℕ) (events : List Event) (last : LastLine) (v : Verdict) (fits : Bool) → v ≡ judged.Prefix → IsVerdict s events v → (IsTrue fits ↔ Fits s events last) → fits ≡ true → OfEvents s lines events last Prefix
ends_prefix s lines events last v fits same is fit has = IsPrefix (of_verdict s events v judged.Prefix same is) (does_fit s events last fits fit has)

-- ---- the whole text

module _ (names : List (List ℕ)) (m : ModelTree) (s : Scenario) (format : ℕ) (header : List (List ℕ)) (events : List Event) (last : LastLine) where
  header_breaks : {E : Type 0} (number : ℕ) (r : Result TraceVerdict E) → IsHeaderBreach names m s format header number → IfOk r (λ v. v ≡ Illegal number 1) → IfOk r (λ v. OfText names m s format header events last v)
  header_breaks number (Ok v) is same = subst (λ (w : TraceVerdict). OfText names m s format header events last w) (sym same) (HeaderBreaks number is)
  header_breaks number (Err e) is same = tt

  pub none_breaks : {E S : Type 0} (own : Option S) (P : S → Type 0) (r : Result TraceVerdict E) → own ≡ None → MatchOption own (HasHeader format m s → ⊥) P → IfOk r (λ v. v ≡ Illegal 1 1) → IfOk r (λ v. OfText names m s format header events last v)
  none_breaks own P r is found same = header_breaks 1 r (HasNone (without P own is found)) same
    where
      without : {S : Type 0} (P : S → Type 0) (own : Option S) → own ≡ None → MatchOption own (HasHeader format m s → ⊥) P → HasHeader format m s → ⊥
      without P None is found = found
      without P (Some x) is found = let never : Some x ≡ None = is in absurd cc

  pub line_breaks : {E : Type 0} (at : ℕ) (r : Result TraceVerdict E) → HasHeader format m s → LeavesAt (header_text format names m s) header at → IfOk r (λ v. v ≡ Illegal (at + 1) 1) → IfOk r (λ v. OfText names m s format header events last v)
  line_breaks at r has leaves same = header_breaks (at + 1) r (Leaves at has leaves) same

  pub header_kept : {E : Type 0} (count : ℕ) (r : Result TraceVerdict E) → HasHeader format m s → header_text format names m s ≡ flat_map line header → count ≡ length header → IfOk r (λ v. OfEvents s count events last v) → IfOk r (λ v. OfText names m s format header events last v)
  header_kept count (Ok v) has is many of = HeaderKept v (record { has = has; is = is }) (subst (λ (n : ℕ). OfEvents s n events last v) many of)
  header_kept count (Err e) has is many of = tt

-- what is said of a header that there is
pub of_some : {S : Type 0} (A : Type 0) (P : S → Type 0) (own : Option S) (x : S) → own ≡ Some x → MatchOption own A P → P x
of_some A P own x is found = subst (λ (o : Option _). MatchOption o A P) is found

-- the same of equal lists
pub leaves_of : {X : Type 0} (text : X → List ℕ) (xs ys : List X) (l k : List ℕ) (at : ℕ) → xs ≡ ys → l ≡ k → LeavesAt l (map text xs) at → LeavesAt k (map text ys) at
leaves_of text xs ys l k at same is leaves = subst (λ (zs : List _). LeavesAt k (map text zs) at) same (subst (λ (t : List ℕ). LeavesAt t (map text xs) at) is leaves)

pub header_of : {X : Type 0} (text : X → List ℕ) (xs ys : List X) (l k : List ℕ) → xs ≡ ys → l ≡ k → l ≡ flat_map line (map text xs) → k ≡ flat_map line (map text ys)
header_of text xs ys l k same is own = sym is ∙ own ∙ ap (λ (zs : List _). flat_map line (map text zs)) same

pub many_of : {X : Type 0} (text : X → List ℕ) (xs ys : List X) (n : ℕ) → xs ≡ ys → n ≡ length xs → n ≡ length (map text ys)
many_of text xs ys n same many = many ∙ ap (λ (zs : List _). length zs) same ∙ sym (length-map ys text)

pub events_of : {E : Type 0} (s : Scenario) (lines : ℕ) (events others : List Event) (last : LastLine) (r : Result TraceVerdict E) → events ≡ others → IfOk r (λ v. OfEvents s lines events last v) → IfOk r (λ v. OfEvents s lines others last v)
events_of s lines events others last (Ok v) same is = subst (λ (es : List Event). OfEvents s lines es last v) same is
events_of s lines events others last (Err e) same is = tt
