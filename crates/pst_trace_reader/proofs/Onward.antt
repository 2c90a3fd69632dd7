-- Reading on, line by line.
use Rattle.std.proofs.Common.{◌≡◌, ◌∙◌, ◌≤◌, ℕ, List, [], ◌∷◌, ◌++◌, refl, sym, ap, subst, append_assoc, append-nil, arith, decimal}
use Rattle.std.specs.Prelude.{codes}
use Rattle.pst_scen.specs.declared.event.Event.{Event}
use Rattle.pst_trace_lines.specs.declared.header.HeaderLine.{HeaderLine}
use Rattle.pst_trace_lines.specs.declared.header.HeaderLine.TheVariants.{Join}
use Rattle.pst_trace_lines.specs.declared.last.LastLine.{LastLine}
use Rattle.pst_trace_lines.specs.declared.last.LastLine.TheVariants.{Done}
use Rattle.pst_trace_lines.specs.Last.{IsLastLine}
use Rattle.pst_trace_lines.specs.Blocks.{IsBlockLine, BlockLinesAreOne}
use Rattle.pst_trace_lines.specs.Headers.{rank, IsHeaderLine}
use Rattle.pst_trace_reader.specs.Traces.{AreRest, AHeaderLine, ABlock, TheLast}
use Rattle.pst_trace_reader.specs.Going.{Passes, OfHeader, OfBlock}
use Rattle.pst_trace_reader.specs.Behind.{IsReadOn, IsRest, BeginsRest}
use Rattle.pst_trace_reader.proofs.Heads.{sort_one, header_not_block, header_not_last, block_not_last}

-- what stands behind a line that went on
abbrev pub Behind : ℕ → ℕ → List (List ℕ) → List (List ℕ) → List Event → List (List ℕ) → List Event → LastLine → Type 0
Behind format next more h e hs es last = (others : List (List ℕ)) × (later : List Event) × (hs ≡ h ++ others) × (es ≡ e ++ later) × AreRest format next more others later last

pub behind : (law : BlockLinesAreOne) (format passed next : ℕ) (text : List ℕ) (more h hs : List (List ℕ)) (e es : List Event) (last : LastLine)
    → Passes format passed text h e next → AreRest format passed (text ∷ more) hs es last → Behind format next more h e hs es last
behind law format passed _ text more _ _ _ es last (OfHeader sort fits join is) (AHeaderLine _ other _ _ header _ _ fits2 join2 is2 rest) =
    (header, es, refl, refl, subst (λ (s : HeaderLine). AreRest format (rank s) more header es last) (sort_one other sort text is2 is) rest)
behind law format passed _ text more _ hs _ _ last (OfHeader sort fits join is) (ABlock _ _ _ _ own events _ block rest) = absurd (header_not_block sort text own is block)
behind law format passed _ text _ _ _ _ _ last (OfHeader sort fits join is) (TheLast _ _ _ ends) = absurd (header_not_last sort text last is ends)
behind law format passed _ text more _ _ _ es last (OfBlock own block) (AHeaderLine _ other _ _ header _ _ fits2 join2 is2 rest) = absurd (header_not_block other text own is2 block)
behind law format passed _ text more _ hs _ _ last (OfBlock own block) (ABlock _ _ _ _ other events _ block2 rest) =
    (hs, events, refl, ap (λ (l : List Event). l ++ events) (law text other own block2 block), rest)
behind law format passed _ text _ _ _ _ _ last (OfBlock own block) (TheLast _ _ _ ends) = absurd (block_not_last text own last block ends)

-- a line of the header that may not stand there, and a line of no sort, begin no rest
pub bad_header : (format passed : ℕ) (sort : HeaderLine) (text : List ℕ) (more hs : List (List ℕ)) (es : List Event) (last : LastLine) → IsHeaderLine sort text
    → (passed ≤ rank sort → (sort ≡ Join → format ≡ 2) → ⊥) → AreRest format passed (text ∷ more) hs es last → ⊥
bad_header format passed sort text more _ es last is bad (AHeaderLine _ other _ _ header _ _ fits join is2 rest) =
    let same = sort_one other sort text is2 is in
    bad (subst (λ (s : HeaderLine). passed ≤ rank s) same fits) (subst (λ (s : HeaderLine). s ≡ Join → format ≡ 2) same join)
bad_header format passed sort text more hs _ last is bad (ABlock _ _ _ _ own events _ block rest) = header_not_block sort text own is block
bad_header format passed sort text _ _ _ last is bad (TheLast _ _ _ ends) = header_not_last sort text last is ends

pub bad_sort : (format passed : ℕ) (text : List ℕ) (more hs : List (List ℕ)) (es : List Event) (last : LastLine) → ((sort : HeaderLine) → IsHeaderLine sort text → ⊥)
    → ((ends : LastLine) → IsLastLine text ends → ⊥) → ((own : List Event) → IsBlockLine text own → ⊥) → AreRest format passed (text ∷ more) hs es last → ⊥
bad_sort format passed text more _ es last none never no_block (AHeaderLine _ other _ _ header _ _ fits join is rest) = none other is
bad_sort format passed text more hs _ last none never no_block (ABlock _ _ _ _ own events _ block rest) = no_block own block
bad_sort format passed text _ _ _ last none never no_block (TheLast _ _ _ ends) = never last ends

-- nothing stands behind a last line
pub behind_last : (format passed : ℕ) (text : List ℕ) (more hs : List (List ℕ)) (es : List Event) (last ends : LastLine)
    → IsLastLine text ends → AreRest format passed (text ∷ more) hs es last → more ≡ []
behind_last format passed text more _ es last ends is (AHeaderLine _ sort _ _ header _ _ fits join header_is rest) = absurd (header_not_last sort text ends header_is is)
behind_last format passed text more hs _ last ends is (ABlock _ _ _ _ own events _ block rest) = absurd (block_not_last text own ends block is)
behind_last format passed text _ _ _ last ends is (TheLast _ _ _ own) = refl

-- no trace ends without a last line
none_rest : (format passed : ℕ) (lines hs : List (List ℕ)) (es : List Event) (last : LastLine) → lines ≡ [] → AreRest format passed lines hs es last → ⊥
none_rest format passed _ _ es last is (AHeaderLine _ sort text more header _ _ fits join header_is rest) = absurd cc
none_rest format passed _ hs _ last is (ABlock _ text more _ own events _ block rest) = absurd cc
none_rest format passed _ _ _ last is (TheLast _ text _ own) = absurd cc

-- ---- going on

pub read_first : (format : ℕ) → IsReadOn format [] [] [] 0
read_first format = record {
  onto = λ more others later last rest. rest;
  back = λ more all each last rest. (all, each, refl, refl, rest);
}

added : (format passed next : ℕ) (text : List ℕ) (more h others : List (List ℕ)) (e later : List Event) (last : LastLine) → Passes format passed text h e next → AreRest format next more others later last
    → AreRest format passed (text ∷ more) (h ++ others) (e ++ later) last
added format passed _ text more _ others _ later last (OfHeader sort fits join is) rest = AHeaderLine passed sort text more others later last fits join is rest
added format passed _ text more _ others _ later last (OfBlock own block) rest = ABlock passed text more others own later last block rest

pub read_next : (law : BlockLinesAreOne) (format passed next : ℕ) (front header : List (List ℕ)) (events : List Event) (text : List ℕ) (h : List (List ℕ)) (e : List Event)
    → IsReadOn format front header events passed → Passes format passed text h e next → IsReadOn format (front ++ text ∷ []) (header ++ h) (events ++ e) next
read_next law format passed next front header events text h e on passes = record {
  onto = λ more others later last rest.
      subst (λ (ls : List (List ℕ)). AreRest format 0 ls ((header ++ h) ++ others) ((events ++ e) ++ later) last) (sym (append_assoc front (text ∷ []) more))
      (subst (λ (hs : List (List ℕ)). AreRest format 0 (front ++ text ∷ more) hs ((events ++ e) ++ later) last) (sym (append_assoc header h others))
      (subst (λ (es : List Event). AreRest format 0 (front ++ text ∷ more) (header ++ (h ++ others)) es last) (sym (append_assoc events e later))
      (on.onto (text ∷ more) (h ++ others) (e ++ later) last (added format passed next text more h others e later last passes rest))));
  back = λ more all each last rest.
      let (others, later, headers, eaches, behind_it) = on.back (text ∷ more) all each last (subst (λ (ls : List (List ℕ)). AreRest format 0 ls all each last) (append_assoc front (text ∷ []) more) rest) in
      let (left, events_left, same, alike, own) = behind law format passed next text more h others e later last passes behind_it in
      (left, events_left, headers ∙ ap (λ (l : List (List ℕ)). header ++ l) same ∙ sym (append_assoc header h left), eaches ∙ ap (λ (l : List Event). events ++ l) alike ∙ sym (append_assoc events e events_left), own);
}

-- every front of a rest that was read begins one
pub begins_rest : (format passed : ℕ) (front header : List (List ℕ)) (events : List Event) → IsReadOn format front header events passed → BeginsRest format front
begins_rest format passed front header events on = (
  (codes "done " ++ decimal 0) ∷ [],
  record {
    header = header ++ [];
    events = events ++ [];
    last = Done 0;
    is = on.onto ((codes "done " ++ decimal 0) ∷ []) [] [] (Done 0) (TheLast passed (codes "done " ++ decimal 0) (Done 0) (record { small = omega arith; is = refl }));
  },
)

-- a line that may not stand there
pub bad_line : (format passed : ℕ) (front header : List (List ℕ)) (events : List Event) (text : List ℕ) → IsReadOn format front header events passed
    → ((more hs : List (List ℕ)) (es : List Event) (last : LastLine) → AreRest format passed (text ∷ more) hs es last → ⊥) → BeginsRest format (front ++ text ∷ []) → ⊥
bad_line format passed front header events text on bad (more, rest) =
    let (others, later, headers, eaches, own) = on.back (text ∷ more) rest.header rest.events rest.last (subst (λ (ls : List (List ℕ)). AreRest format 0 ls rest.header rest.events rest.last) (append_assoc front (text ∷ []) more) rest.is) in
    bad more others later rest.last own

-- no line is left, and no last line was read
pub none_left : (format passed : ℕ) (front header : List (List ℕ)) (events : List Event) → IsReadOn format front header events passed → IsRest format front → ⊥
none_left format passed front header events on rest =
    let (others, later, headers, eaches, own) = on.back [] rest.header rest.events rest.last (subst (λ (ls : List (List ℕ)). AreRest format 0 ls rest.header rest.events rest.last) (sym (append-nil front)) rest.is) in
    none_rest format passed [] others later rest.last refl own

-- a last line ends the rest
pub ended : (format passed : ℕ) (front header : List (List ℕ)) (events : List Event) (text : List ℕ) (last : LastLine) → IsReadOn format front header events passed → IsLastLine text last
    → AreRest format 0 (front ++ text ∷ []) header events last
ended format passed front header events text last on is =
    subst (λ (es : List Event). AreRest format 0 (front ++ text ∷ []) header es last) (append-nil events)
    (subst (λ (hs : List (List ℕ)). AreRest format 0 (front ++ text ∷ []) hs (events ++ []) last) (append-nil header) (on.onto (text ∷ []) [] [] last (TheLast passed text last is)))

-- behind a last line no other may stand
pub bad_behind : (format passed : ℕ) (front header : List (List ℕ)) (events : List Event) (text other : List ℕ) (last : LastLine) → IsReadOn format front header events passed → IsLastLine text last
    → BeginsRest format ((front ++ text ∷ []) ++ other ∷ []) → ⊥
bad_behind format passed front header events text other last on is (more, rest) =
    let lines : ((front ++ text ∷ []) ++ other ∷ []) ++ more ≡ front ++ text ∷ other ∷ more = append_assoc (front ++ text ∷ []) (other ∷ []) more ∙ append_assoc front (text ∷ []) (other ∷ more) in
    let (others, later, headers, eaches, own) = on.back (text ∷ other ∷ more) rest.header rest.events rest.last (subst (λ (ls : List (List ℕ)). AreRest format 0 ls rest.header rest.events rest.last) lines rest.is) in
    let none : other ∷ more ≡ [] = behind_last format passed text (other ∷ more) others later rest.last last is own in
    absurd cc
