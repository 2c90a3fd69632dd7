-- What is written is read again.
use Rattle.std.proofs.Common.{◌≡◌, ◌<◌, ◌≤◌, ◌^◌, ℕ, zero, suc, List, [], ◌∷◌, ◌++◌, length, Bool, true, false, refl, sym, ap, subst, ◌∙◌, append_assoc, append-nil, decimal, inr, arith}
use Rattle.std.specs.Prelude.{All, codes, Contains, map, string_bytes}
use Rattle.std.specs.List.{flat_map}
use Rattle.std.proofs.lemmas.List.Elements.{All-append, All-cons, All-nil, All-weaker}
use Rattle.std.proofs.lemmas.Grind.{flat_map-append}
use Rattle.pst_model.specs.ModelTree.{ModelTree}
use Rattle.pst_scen.specs.declared.event.Event.{Event}
use Rattle.pst_scen.specs.declared.scenario.Scenario.{Scenario}
use Rattle.pst_scen.specs.Trace.{events as all_events}
use Rattle.pst_trace_texts.specs.declared.last.Last.{Last}
use Rattle.pst_trace_texts.specs.Lines.{line, each_from}
use Rattle.pst_trace_texts.specs.Header.{first_line, compound_text, join_text, action_line, header_text}
use Rattle.pst_trace_texts.specs.Texts.{events_text, last_line, trace_text}
use Rattle.pst_trace_lines.specs.declared.header.HeaderLine.TheVariants.{Initial, Compound, Join, Action}
use Rattle.pst_trace_lines.specs.declared.last.LastLine.{LastLine}
use Rattle.pst_trace_reader.specs.declared.text.TraceText.{TraceText}
use Rattle.pst_trace_reader.specs.Traces.{AreLines, AreRest, TheLast, all_sorts, IsTraceText, IsFirstBad}
use Rattle.pst_trace_reader.specs.Laws.{ReadingsAreOne}
use Rattle.pst_written_traces.specs.Written.{MayBeRead, IsNumbered, Says, IsReadAs, ReadsAs, WrittenTracesAreRead}
use Rattle.pst_written_traces.proofs.Printed.{Printed, joined, number, unbroken}
use Rattle.pst_written_traces.proofs.Heads.{HasLines, many, all_unbroken, earlier, behind_heads, join_lines, initial_lines, compound_lines, action_lines}
use Rattle.pst_written_traces.proofs.Events.{EventLines, event_lines, EndLine, end_line}

-- the lines of four parts and what stands behind them
four : (f c j a l : List (List ℕ)) (first compounds joins actions : List ℕ) → flat_map line f ≡ first → flat_map line c ≡ compounds → flat_map line j ≡ joins → flat_map line a ≡ actions
    → flat_map line (f ++ (c ++ (j ++ (a ++ l)))) ≡ first ++ (compounds ++ (joins ++ (actions ++ flat_map line l)))
four f c j a l first compounds joins actions p q r s =
    flat_map-append line f (c ++ (j ++ (a ++ l))) ∙ ap (λ (t : List ℕ). t ++ flat_map line (c ++ (j ++ (a ++ l)))) p
    ∙ ap (λ (t : List ℕ). first ++ t) (flat_map-append line c (j ++ (a ++ l)) ∙ ap (λ (t : List ℕ). t ++ flat_map line (j ++ (a ++ l))) q
    ∙ ap (λ (t : List ℕ). compounds ++ t) (flat_map-append line j (a ++ l) ∙ ap (λ (t : List ℕ). t ++ flat_map line (a ++ l)) r
    ∙ ap (λ (t : List ℕ). joins ++ t) (flat_map-append line a l ∙ ap (λ (t : List ℕ). t ++ flat_map line l) s)))

regroup : (a b f c j e x : List ℕ) → a ++ (b ++ (f ++ (c ++ (j ++ (e ++ x))))) ≡ (((((a ++ b) ++ f) ++ c) ++ j) ++ e) ++ x
regroup a b f c j e x =
    sym (append_assoc ((((a ++ b) ++ f) ++ c) ++ j) e x ∙ append_assoc (((a ++ b) ++ f) ++ c) j (e ++ x) ∙ append_assoc ((a ++ b) ++ f) c (j ++ (e ++ x))
    ∙ append_assoc (a ++ b) f (c ++ (j ++ (e ++ x))) ∙ append_assoc a b (f ++ (c ++ (j ++ (e ++ x)))))

module _ (names : List (List ℕ)) (m : ModelTree) (s : Scenario) (events : List Event) (end : Last) (last : LastLine) (own : MayBeRead names s events) (said : Says (length s.actions) end last) where
  abbrev first : List ℕ
  first = codes "pst " ++ decimal 2

  abbrev counts : List ℕ
  counts = codes "scenario " ++ decimal (length s.actions) ++ codes " " ++ decimal s.level

  initials : HasLines Initial (each_from (λ number f. first_line names m f) 0 s.firsts)
  initials = many Initial (λ number f. first_line names m f) s.firsts (λ number f. initial_lines names own.printed m f) 0

  compounds : HasLines Compound (each_from (λ number node. compound_text names m node.fill) 0 s.nodes)
  compounds = many Compound (λ number node. compound_text names m node.fill) s.nodes (λ number node. compound_lines names own.printed m node.fill) 0

  joins : HasLines Join (each_from (λ number node. join_text number node.fill) 0 s.nodes)
  joins = many Join (λ number node. join_text number node.fill) s.nodes (λ number node. join_lines number node.fill) 0

  actions : HasLines Action (each_from (action_line names m s) 0 s.actions)
  actions = many Action (action_line names m s) s.actions (action_lines names own.printed m s) 0

  in_blocks : All (λ e. IsNumbered e) (all_events own.blocks.blocks)
  in_blocks = subst (λ (es : List Event). All (λ e. IsNumbered e) es) (sym own.blocks.are) own.numbered

  ran : EventLines (all_events own.blocks.blocks)
  ran = event_lines own.blocks.blocks own.blocks.whole in_blocks

  ends : EndLine (length s.actions) end last
  ends = end_line (length s.actions) own.actions end last said

  abbrev behind : List (List ℕ)
  behind = ran.lines ++ ends.text ∷ []

  abbrev lines : List (List ℕ)
  lines = first ∷ counts ∷ (initials.lines ++ (compounds.lines ++ (joins.lines ++ (actions.lines ++ behind))))

  abbrev heads : List (List ℕ)
  heads = initials.lines ++ (compounds.lines ++ (joins.lines ++ (actions.lines ++ [])))

  -- what lines behind those of the header come to
  header_and : (more : List (List ℕ)) → flat_map line (first ∷ counts ∷ (initials.lines ++ (compounds.lines ++ (joins.lines ++ (actions.lines ++ more))))) ≡ header_text 2 names m s ++ flat_map line more
  header_and more =
      ap (λ (t : List ℕ). line first ++ (line counts ++ t))
      (four initials.lines compounds.lines joins.lines actions.lines more
      (each_from (λ number f. first_line names m f) 0 s.firsts) (each_from (λ number node. compound_text names m node.fill) 0 s.nodes)
      (each_from (λ number node. join_text number node.fill) 0 s.nodes) (each_from (action_line names m s) 0 s.actions) initials.are compounds.are joins.are actions.are)
      ∙ regroup (line first) (line counts) (each_from (λ number f. first_line names m f) 0 s.firsts) (each_from (λ number node. compound_text names m node.fill) 0 s.nodes)
      (each_from (λ number node. join_text number node.fill) 0 s.nodes) (each_from (action_line names m s) 0 s.actions) (flat_map line more)

  behind_is : flat_map line behind ≡ events_text false events ++ last_line (length s.actions) end
  behind_is =
      flat_map-append line ran.lines (ends.text ∷ []) ∙ ap (λ (t : List ℕ). t ++ (line ends.text ++ [])) (ran.are ∙ ap (λ (es : List Event). events_text false es) own.blocks.are)
      ∙ ap (λ (t : List ℕ). events_text false events ++ t) (append-nil (line ends.text) ∙ ends.is)

  text_is : trace_text names m s events end ≡ flat_map line lines ++ []
  text_is =
      append_assoc (header_text 2 names m s) (events_text false events) (last_line (length s.actions) end) ∙ ap (λ (t : List ℕ). header_text 2 names m s ++ t) (sym behind_is)
      ∙ sym (header_and behind) ∙ sym (append-nil (flat_map line lines))

  abbrev Unbroken : List ℕ → Type 0
  Unbroken l = Contains l 10 → ⊥

  count_printed : Printed counts
  count_printed =
      joined ((codes "scenario " ++ decimal (length s.actions)) ++ codes " ") (decimal s.level)
      (joined (codes "scenario " ++ decimal (length s.actions)) (codes " ") (joined (codes "scenario ") (decimal (length s.actions)) refl (number (length s.actions))) refl) (number s.level)

  each_unbroken : All (λ l. Unbroken l) lines
  each_unbroken =
      All-cons (λ l. Unbroken l) first (counts ∷ (initials.lines ++ (compounds.lines ++ (joins.lines ++ (actions.lines ++ behind))))) (unbroken first (joined (codes "pst ") (decimal 2) refl (number 2)))
      (All-cons (λ l. Unbroken l) counts (initials.lines ++ (compounds.lines ++ (joins.lines ++ (actions.lines ++ behind)))) (unbroken counts count_printed)
      (All-append (λ l. Unbroken l) initials.lines (compounds.lines ++ (joins.lines ++ (actions.lines ++ behind))) (all_unbroken Initial initials.lines initials.of_sort)
      (All-append (λ l. Unbroken l) compounds.lines (joins.lines ++ (actions.lines ++ behind)) (all_unbroken Compound compounds.lines compounds.of_sort)
      (All-append (λ l. Unbroken l) joins.lines (actions.lines ++ behind) (all_unbroken Join joins.lines joins.of_sort)
      (All-append (λ l. Unbroken l) actions.lines behind (all_unbroken Action actions.lines actions.of_sort)
      (All-append (λ l. Unbroken l) ran.lines (ends.text ∷ []) (All-weaker (λ l. Printed l) (λ l. Unbroken l) (λ l is. unbroken l is) ran.lines ran.printed)
      (All-cons (λ l. Unbroken l) ends.text [] (unbroken ends.text ends.printed) (All-nil (λ l. Unbroken l)))))))))

  rest_is : AreRest 2 0 (initials.lines ++ (compounds.lines ++ (joins.lines ++ (actions.lines ++ behind)))) heads (all_events own.blocks.blocks ++ []) last
  rest_is =
      let final = ran.onto 2 (ends.text ∷ []) [] [] last (TheLast all_sorts ends.text last ends.says) in
      let three = behind_heads 2 2 Action actions.lines behind [] (all_events own.blocks.blocks ++ []) last (omega arith) (λ same. refl) actions.of_sort
      (earlier 2 3 all_sorts behind [] (all_events own.blocks.blocks ++ []) last (omega arith) final) in
      let two = behind_heads 2 1 Join joins.lines (actions.lines ++ behind) (actions.lines ++ []) (all_events own.blocks.blocks ++ []) last (omega arith) (λ same. refl) joins.of_sort three in
      let one = behind_heads 2 0 Compound compounds.lines (joins.lines ++ (actions.lines ++ behind)) (joins.lines ++ (actions.lines ++ [])) (all_events own.blocks.blocks ++ []) last (omega arith) (λ same. refl) compounds.of_sort two in
      behind_heads 2 0 Initial initials.lines (compounds.lines ++ (joins.lines ++ (actions.lines ++ behind))) (compounds.lines ++ (joins.lines ++ (actions.lines ++ []))) (all_events own.blocks.blocks ++ []) last (omega arith) (λ same. refl)
      initials.of_sort one

  read_as : IsReadAs (trace_text names m s events end) (header_text 2 names m s) events last
  read_as = record {
    lines = lines;
    own = first ∷ counts ∷ heads;
    are = record { are = text_is; each = each_unbroken; last = λ h. absurd (omega (arith, h.1)) };
    trace = record {
      first = first;
      counts = counts;
      more = initials.lines ++ (compounds.lines ++ (joins.lines ++ (actions.lines ++ behind)));
      own = heads;
      are = refl;
      of_format = record { is = refl; known = inr refl };
      actions = length s.actions;
      inferred = s.level;
      of_counts = record { actions = own.actions; inferred = own.inferred; is = refl };
      header_is = refl;
      rest = subst (λ (es : List Event). AreRest 2 0 (initials.lines ++ (compounds.lines ++ (joins.lines ++ (actions.lines ++ behind)))) heads es last) (append-nil (all_events own.blocks.blocks) ∙ own.blocks.are) rest_is;
    };
    header_is = header_and [] ∙ append-nil (header_text 2 names m s);
  }

-- whatever else reads the text finds the same
reads_as : ReadingsAreOne → (text header : List ℕ) (events : List Event) (last : LastLine) → IsReadAs text header events last → ReadsAs text header events last
reads_as law text header events last r = record {
  found = λ t is.
      let same = law.one_reading text is.lines r.lines t.format 2 (map string_bytes t.header.items) r.own t.events.items events t.last last is.are r.are is.trace r.trace in
      (same.0, ap (λ (ls : List (List ℕ)). flat_map line ls) same.1 ∙ r.header_is, same.2, same.3);
  no_bad_line = λ number bad. law.never_bad text r.lines number r.are (record { format = 2; header = r.own; events = events; last = last; is = r.trace }) bad;
}

pub written_read : ReadingsAreOne → WrittenTracesAreRead
written_read law names m s events end last own said =
    let here = read_as names m s events end last own said in
    (here, reads_as law (trace_text names m s events end) (header_text 2 names m s) events last here)
