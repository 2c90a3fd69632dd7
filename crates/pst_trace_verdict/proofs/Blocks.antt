-- The events that are read are whole blocks.
use Rattle.std.proofs.Common.{◌≡◌, ◌<◌, ◌+◌, ℕ, zero, suc, List, [], ◌∷◌, ◌++◌, length, map, true, false, refl, sym, ap, subst, ◌∙◌, append_assoc, append-nil, arith, ⊎_elim}
use Rattle.std.specs.Prelude.{Contains}
use Rattle.std.proofs.lemmas.List.Elements.{Contains-append_cases}
use Rattle.pst_scen.specs.declared.event.Event.{Event}
use Rattle.pst_scen.specs.declared.event.Event.TheVariants.{Start, End}
use Rattle.pst_scen.specs.Trace.{Block, Starts, Ends, starts_of, events_of, events}
use Rattle.pst_scen.specs.Judging.{IsBlock, AreWholeBlocks}
use Rattle.pst_trace_lines.specs.Blocks.{AreStarts, IsOneBlock, OfStarts, OfEnd}
use Rattle.pst_trace_lines.specs.declared.last.LastLine.{LastLine}
use Rattle.pst_trace_reader.specs.declared.text.TraceText.{TraceText}
use Rattle.pst_trace_reader.specs.Traces.{AreRest, AHeaderLine, ABlock, TheLast, IsTraceText}
use Rattle.pst_trace_verdict.specs.Laws.{ReadEventsAreBlocks}

-- the block that events are
record AsBlock (own : List Event) : Type 0 where
  pub block : Block
  pub are : events_of block ≡ own
  pub is : IsBlock block

-- starts as two lists
record AsStarts (own : List Event) : Type 0 where
  pub members : List ℕ
  pub used : List ℕ
  pub are : starts_of members used ≡ own
  pub some : 0 < length members
  pub many : length used ≡ length members

more_starts : (a l : ℕ) (own : List Event) → AsStarts own → AsStarts (Start a l true ∷ own)
more_starts a l own s = by s.members s.used s.are s.some s.many
  where
    by : (members used : List ℕ) → starts_of members used ≡ own → 0 < length members → length used ≡ length members → AsStarts (Start a l true ∷ own)
    by [] used are some many = absurd (omega (arith, some))
    by (b ∷ members) used are some many = record {
      members = a ∷ b ∷ members;
      used = l ∷ used;
      are = ap (λ (es : List Event). Start a l true ∷ es) are;
      some = omega arith;
      many = ap suc many;
    }

as_starts : (own : List Event) → AreStarts own → AsStarts own
as_starts [] starts = absurd starts
as_starts (Start a l false ∷ []) starts = record { members = a ∷ []; used = l ∷ []; are = refl; some = omega arith; many = refl }
as_starts (Start a l false ∷ event ∷ more) starts = absurd starts
as_starts (Start a l true ∷ more) (of_act, of_lane, starts) = more_starts a l more (as_starts more starts)
as_starts (End a ∷ more) starts = absurd starts

as_block : (own : List Event) → IsOneBlock own → AsBlock own
as_block _ (OfStarts own starts) = let s = as_starts own starts in record { block = Starts s.members s.used; are = s.are; is = (s.some, s.many) }
as_block _ (OfEnd a small) = record { block = Ends a; are = refl; is = tt }

one_more : (front own : List Event) → AreWholeBlocks front → AsBlock own → AreWholeBlocks (front ++ own)
one_more front own before b = record {
  blocks = b.block ∷ before.blocks;
  are = ap (λ (es : List Event). es ++ events_of b.block) before.are ∙ ap (λ (es : List Event). front ++ es) b.are;
  whole = λ block h. ⊎_elim (λ one. here block one) (λ rest. before.whole block rest) (Contains-append_cases (b.block ∷ []) before.blocks block h);
}
  where
    here : (block : Block) → Contains (b.block ∷ []) block → IsBlock block
    here block (zero, below, is) = subst IsBlock is b.is
    here block (suc k, below, is) = absurd (omega (arith, below))

rest_blocks : (format passed : ℕ) (front : List Event) (lines header : List (List ℕ)) (own : List Event) (last : LastLine) → AreWholeBlocks front → AreRest format passed lines header own last → AreWholeBlocks (front ++ own)
rest_blocks format passed front _ _ own last before (AHeaderLine _ sort text more header _ _ fits join is rest) = rest_blocks format _ front more header own last before rest
rest_blocks format passed front _ header _ last before (ABlock _ text more _ own others _ is rest) =
    subst AreWholeBlocks (append_assoc front own others) (rest_blocks format _ (front ++ own) more header others last (one_more front own before (as_block own is.block)) rest)
rest_blocks format passed front _ _ _ last before (TheLast _ text _ is) = subst AreWholeBlocks (sym (append-nil front)) before

nothing : AreWholeBlocks []
nothing = record { blocks = []; are = refl; whole = λ block h. absurd (omega (arith, h.1)) }

pub read_blocks : ReadEventsAreBlocks
read_blocks text t is = rest_blocks t.format 0 [] is.trace.more is.trace.own t.events.items t.last nothing is.trace.rest
