-- What the parser of units answers, by what proper units spell.
use Rattle.pst_ast.specs.Answers.{AnswersUnit, IsWhole, IsStopped, IsTooDeep, through}
use Rattle.pst_ast.specs.DeclarationLimits.{counts_unit}
use Rattle.pst_ast.specs.DeclarationProper.{IsProperUnit}
use Rattle.pst_ast.specs.DeclarationSpelling.{spell_item, spell_unit}
use Rattle.pst_ast.specs.DeclarationTree.{ItemTree, UnitTree, MakeUnit}
use Rattle.pst_ast.specs.Limits.{counted, is_over, first_over}
use Rattle.pst_ast.specs.Marks.{mark}
use Rattle.pst_ast.specs.Rule.{TheUnit}
use Rattle.pst_ast.specs.Viable.{IsViable}
use Rattle.pst_ast.specs.declared.fault.SyntaxFault.TheVariants as the_fault
use Rattle.pst_ast.specs.declared.fault.SyntaxFault.{SyntaxFault}
use Rattle.pst_base.specs.declared.position.Place.{Place}
use Rattle.pst_parse_decl.proofs.Items.{whole_item_free}
use Rattle.pst_parser.proofs.OneEnd.{nothing_behind}
use Rattle.pst_parser.proofs.UnitLaws.{taken_unit, same_unit, unit_explains, unit_again}
use Rattle.pst_token.specs.Laws.{EndsOnce}
use Rattle.pst_parser.specs.Units.{items_by, unit_by, Settles, Fails}
use Rattle.pst_reading.proofs.Becoming.{run_followed}
use Rattle.pst_reading.proofs.Explaining.{Means, Explained}
use Rattle.pst_reading.proofs.Final.{refused_longest, unfinished, front_keeps, front_begins, deep_here, deep_first}
use Rattle.pst_reading.proofs.Keeping.{Kept, limits_kept}
use Rattle.pst_reading.proofs.Rereading.{Anything}
use Rattle.pst_reading.proofs.Whole.{NoEnd, both_free, drop_more, over_same, over_take}
use Rattle.pst_reading.specs.Gives.{Expects}
use Rattle.pst_reading.specs.Parser.{Parser, Done, Outcome, Took, Refused, TooDeep, and_then, followed_by, mark_by, run, read, counts_taken}
use Rattle.pst_token.specs.declared.kind.Kind.TheVariants as kind
use Rattle.pst_token.specs.declared.token.Token.{Token}
use Rattle.std.proofs.Common.{arith, refl, sym, ap, subst, ◌∙◌, inl, ◌⊎◌, ℕ, suc, ◌+◌, ◌-◌, ◌<◌, ◌≤◌, ◌≡◌, Some, None, Err, List, [], ◌∷◌, ◌++◌, length, length-append, length-drop, append_assoc, append-nil, take, drop}
use Rattle.std.proofs.lemmas.List.Folds.{drop_split}
use Rattle.std.proofs.lemmas.List.{append_cancel_right}
use Rattle.std.specs.List.{flat_map}
use Rattle.std.specs.Prelude.{slice_range}

-- ---- what the parser makes of the tokens, by what it makes of the parts and the end

-- behind the parts
abbrev finish_by : List ItemTree → Parser UnitTree
finish_by items = followed_by (mark_by kind.End (counted 0 0)) (λ finish. Done (MakeUnit items (mark kind.End finish)))

finish_run : (items : List ItemTree) (ts : List Token) → run is_over (finish_by items) ts ≡ and_then (run is_over (mark_by kind.End (counted 0 0)) ts) (λ finish rest. Took (MakeUnit items (mark kind.End finish)) rest)
finish_run items ts = run_followed is_over (mark_by kind.End (counted 0 0)) (λ finish. Done (MakeUnit items (mark kind.End finish))) ts

module _ (tokens : List Token) where
  unit_run : (o : Outcome (List ItemTree)) → Settles items_by tokens o → Settles unit_by tokens (and_then o (λ items rest. run is_over (finish_by items) rest))
  unit_run o h size more = run_followed is_over (items_by size) finish_by tokens ∙ ap (λ (x : Outcome (List ItemTree)). and_then x (λ items rest. run is_over (finish_by items) rest)) (h size more)

  pub unit_parts_fail : (e : SyntaxFault) → Fails items_by tokens e → Fails unit_by tokens e
  unit_parts_fail (the_fault.At k) h = (unit_run (Refused (drop k tokens)) h.0, h.1)
  unit_parts_fail (the_fault.Deep k) h = (unit_run (TooDeep (drop k tokens)) h.0, h.1)
  unit_parts_fail the_fault.NoMemory h = tt

  module _ (items : List ItemTree) (place : ℕ) (inside : place ≤ length tokens) (h : Settles items_by tokens (Took items (drop place tokens))) where
    pub unit_end_fails : (e : SyntaxFault) → Expects (mark_by kind.End (counted 0 0)) tokens place (Err e) → Fails unit_by tokens e
    unit_end_fails (the_fault.At k) g = (λ size more. unit_run (Took items (drop place tokens)) h size more ∙ finish_run items (drop place tokens) ∙ ap (λ (o : Outcome Place). and_then o (λ finish rest. Took (MakeUnit items (mark kind.End finish)) rest)) g.0, omega (arith, g.1, inside))
    unit_end_fails (the_fault.Deep k) g = (λ size more. unit_run (Took items (drop place tokens)) h size more ∙ finish_run items (drop place tokens) ∙ ap (λ (o : Outcome Place). and_then o (λ finish rest. Took (MakeUnit items (mark kind.End finish)) rest)) g.0, g.2)
    unit_end_fails the_fault.NoMemory g = tt

    pub unit_given : (finish : Place) → run is_over (mark_by kind.End (counted 0 0)) (drop place tokens) ≡ Took finish (drop (place + 1) tokens) → Settles unit_by tokens (Took (MakeUnit items (mark kind.End finish)) (drop (place + 1) tokens))
    unit_given finish g size more = unit_run (Took items (drop place tokens)) h size more ∙ finish_run items (drop place tokens) ∙ ap (λ (o : Outcome Place). and_then o (λ finish rest. Took (MakeUnit items (mark kind.End finish)) rest)) g

-- ---- what that says

decide : (unit : UnitTree) (t : Token) → IsProperUnit unit → Anything (Some t) ⊎ IsViable TheUnit (spell_unit unit ++ t ∷ [])
decide unit t proper = inl tt

items_free : (items : List ItemTree) → NoEnd (flat_map spell_item items)
items_free [] = tt
items_free (item ∷ items) = both_free (spell_item item) (flat_map spell_item items) (whole_item_free item) (items_free items)

-- a unit that begins with tokens that end with `End` is spelled by them
all_spelled : (before : List Token) (last : Token) (more : List Token) (unit : UnitTree) → spell_unit unit ≡ (before ++ last ∷ []) ++ more → last.kind ≡ kind.End → more ≡ []
all_spelled before last more (MakeUnit items finish) e f = nothing_behind before last more (flat_map spell_item items) (mark kind.End finish.place) (sym e) f (items_free items)

-- tokens that a unit spells, in front of others, where only the last one is `End`
all_taken : (tokens rest : List Token) (e : EndsOnce tokens) (unit : UnitTree) → tokens ≡ spell_unit unit ++ rest → rest ≡ []
all_taken tokens rest e (MakeUnit items finish) h = nothing_behind (flat_map spell_item items) (mark kind.End finish.place) rest e.before_end e.last (sym h ∙ e.all) refl e.only

module _ (tokens : List Token) (e : EndsOnce tokens) where
  kept_at : (n : ℕ) (o : Outcome UnitTree) → run is_over (unit_by n) tokens ≡ o → Kept (unit_by n) tokens o
  kept_at n o h = subst (Kept (unit_by n) tokens) h (limits_kept (unit_by n) tokens)

  explained_at : (n : ℕ) (o : Outcome UnitTree) → read (unit_by n) tokens ≡ o → Explained (Means spell_unit IsProperUnit taken_unit) tokens (counts_taken (unit_by n) tokens) o
  explained_at n o h = subst (Explained (Means spell_unit IsProperUnit taken_unit) tokens (counts_taken (unit_by n) tokens)) h (unit_explains n tokens)

  sliced : (k : ℕ) → tokens ≡ slice_range tokens 0 k ++ drop k tokens
  sliced k = drop_split tokens 0 k (omega arith)

  through_is : (k : ℕ) (t : Token) (rest : List Token) → drop k tokens ≡ t ∷ rest → through tokens 0 k ≡ slice_range tokens 0 k ++ t ∷ []
  through_is k t rest is =
      let more : drop (suc k) tokens ≡ rest = drop_more k tokens t rest is in
      let whole = sym (sliced (suc k)) ∙ sliced k ∙ ap (λ (u : List Token). slice_range tokens 0 k ++ u) is in
      append_cancel_right (through tokens 0 k) (slice_range tokens 0 k ++ t ∷ []) rest (ap (λ (u : List Token). through tokens 0 k ++ u) (sym more) ∙ whole ∙ sym (append_assoc (slice_range tokens 0 k) (t ∷ []) rest))

  at_token : (k : ℕ) (t : Token) (later : List Token) → drop k tokens ≡ t ∷ later → tokens ≡ slice_range tokens 0 k ++ t ∷ later
  at_token k t later is = sliced k ∙ ap (λ (u : List Token). slice_range tokens 0 k ++ u) is

  is_inside : (k : ℕ) (t : Token) (later : List Token) → drop k tokens ≡ t ∷ later → k < length tokens
  is_inside k t later is = omega (arith, ap length is, length-drop k tokens)

  slice_length : (k : ℕ) → k ≤ length tokens → length (slice_range tokens 0 k) ≡ k - 0
  slice_length k inside = omega (arith, ap length (sliced k), length-append (slice_range tokens 0 k) (drop k tokens), length-drop k tokens, inside)

  -- a unit is given only with all the tokens
  pub unit_whole : (unit : UnitTree) (rest : List Token) → Settles unit_by tokens (Took unit rest) → IsWhole tokens unit
  unit_whole unit rest h =
      let n = suc (length tokens) in
      let k = kept_at n (Took unit rest) (h n (omega arith)) in
      let x = explained_at n (Took unit rest) k.0 in
      let all : tokens ≡ spell_unit unit ++ rest = x.parts ∙ ap (λ (u : List Token). u ++ rest) x.spelled.is in
      let none : rest ≡ [] = all_taken tokens rest e unit all in
      record {
        proper = x.spelled.proper;
        spelled = sym (append-nil (spell_unit unit)) ∙ sym (all ∙ ap (λ (u : List Token). spell_unit unit ++ u) none);
        within = sym (over_same (taken_unit unit) (counts_unit 0 unit) (same_unit unit)) ∙ ap first_over (sym x.spelled.counted) ∙ k.1;
      }

  refused_taken : (unit : UnitTree) (rest : List Token) → Refused rest ≡ Took unit [] → ⊥
  refused_taken unit rest f = cc

  -- not all the tokens are taken where they are refused
  some_left : (rest : List Token) → Settles unit_by tokens (Refused rest) → (t : Token) × (later : List Token) × (rest ≡ t ∷ later)
  some_left (t ∷ later) h = (t, later, refl)
  some_left [] h =
      let n = suc (length tokens) in
      let k = kept_at n (Refused []) (h n (omega arith)) in
      let x = explained_at n (Refused []) k.0 in
      let front : tokens ≡ x.front = x.parts ∙ append-nil x.front in
      let begun : spell_unit x.begins.value ≡ (e.before_end ++ e.last ∷ []) ++ x.begins.more = sym x.begins.spelled.is ∙ x.begins.is ∙ ap (λ (u : List Token). u ++ x.begins.more) (sym front ∙ e.all) in
      let none : x.begins.more ≡ [] = all_spelled e.before_end e.last x.begins.more x.begins.value begun e.is_end in
      let all : spell_unit x.begins.value ≡ tokens = begun ∙ ap (λ (u : List Token). (e.before_end ++ e.last ∷ []) ++ u) none ∙ append-nil (e.before_end ++ e.last ∷ []) ∙ sym e.all in
      let again = unit_again n x.begins.value [] x.begins.spelled.proper (omega (arith, ap length all)) tt in
      absurd (refused_taken x.begins.value [] (sym k.0 ∙ ap (read (unit_by n)) (sym (append-nil (spell_unit x.begins.value) ∙ all)) ∙ again.outcome))

  pub unit_stopped : (k : ℕ) → k ≤ length tokens → Settles unit_by tokens (Refused (drop k tokens)) → IsStopped TheUnit tokens 0 0 k
  unit_stopped k inside h =
      let l = some_left (drop k tokens) h in
      let front = slice_range tokens 0 k in
      let here = at_token k l.0 l.1 l.2 in
      let refuses : (n : ℕ) → length (front ++ l.0 ∷ l.1) < n → (read (unit_by n) (front ++ l.0 ∷ l.1) ≡ Refused (l.0 ∷ l.1)) × (first_over (counts_taken (unit_by n) (front ++ l.0 ∷ l.1)) ≡ None) = λ n more. (let z = kept_at n (Refused (drop k tokens)) (h n (omega (arith, more, ap length here))) in subst (λ (u : List Token). (read (unit_by n) u ≡ Refused (l.0 ∷ l.1)) × (first_over (counts_taken (unit_by n) u) ≡ None)) here (z.0 ∙ ap Refused l.2, z.1)) in
      record {
        ordered = omega arith;
        inside = is_inside k l.0 l.1 l.2;
        before = front_begins TheUnit taken_unit unit_by unit_explains (λ unit. Anything) unit_again (λ unit proper. tt) decide front l.0 l.1 (suc (length (front ++ l.0 ∷ l.1))) (refuses (suc (length (front ++ l.0 ∷ l.1))) (omega arith)).0;
        here = λ v. refused_longest TheUnit taken_unit unit_by unit_explains (λ unit. Anything) unit_again (λ unit proper. tt) decide front l.0 l.1 (λ n more. (refuses n more).0) (subst (IsViable TheUnit) (through_is k l.0 l.1 l.2) v);
        unfinished = unfinished TheUnit taken_unit unit_by unit_explains (λ unit. Anything) unit_again (λ unit proper. tt) decide front l.0 l.1 (λ n more. (refuses n more).0);
        within = λ tree more proper is. sym (over_same (take (k - 0) (taken_unit tree)) (take (k - 0) (counts_unit 0 tree)) (over_take (k - 0) (taken_unit tree) (counts_unit 0 tree) (same_unit tree))) ∙ subst (λ (i : ℕ). first_over (take i (taken_unit tree)) ≡ None) (slice_length k inside) (front_keeps TheUnit taken_unit unit_by unit_explains (λ unit. Anything) unit_again (λ unit proper. tt) decide front l.0 l.1 refuses tree more proper is);
      }

  one_more : (xs : List Token) → 1 ≤ length xs → (t : Token) × (later : List Token) × (xs ≡ t ∷ later)
  one_more [] le = absurd (omega (arith, le))
  one_more (t ∷ xs) le = (t, xs, refl)

  pub unit_deep : (k : ℕ) → k ≤ length tokens → Settles unit_by tokens (TooDeep (drop k tokens)) → IsTooDeep TheUnit tokens 0 0 k
  unit_deep k inside h =
      let n0 = suc (length tokens) in
      let front = slice_range tokens 0 k in
      let broken : (n : ℕ) → length tokens < n → (first_over (counts_taken (unit_by n) tokens) ≡ Some (length front)) × (1 ≤ length (drop k tokens)) = λ n more. (let b = kept_at n (TooDeep (drop k tokens)) (h n more) in let at : b.index ≡ length front = omega (arith, ap length b.there, length-drop b.index tokens, length-drop k tokens, b.inside, slice_length k inside, inside) in (b.first ∙ ap Some at, omega (arith, ap length b.there, length-drop b.index tokens, b.inside))) in
      let l = one_more (drop k tokens) (broken n0 (omega arith)).1 in
      let here = at_token k l.0 l.1 l.2 in
      let breaks : (n : ℕ) → length (front ++ l.0 ∷ l.1) < n → first_over (counts_taken (unit_by n) (front ++ l.0 ∷ l.1)) ≡ Some (length front) = λ n more. subst (λ (u : List Token). first_over (counts_taken (unit_by n) u) ≡ Some (length front)) here (broken n (omega (arith, more, ap length here))).0 in
      record {
        ordered = omega arith;
        inside = is_inside k l.0 l.1 l.2;
        here = subst (IsViable TheUnit) (sym (through_is k l.0 l.1 l.2)) (deep_here TheUnit taken_unit unit_by unit_explains (λ unit. Anything) unit_again (λ unit proper. tt) decide front l.0 l.1 breaks);
        first = λ tree more proper is. sym (over_same (taken_unit tree) (counts_unit 0 tree) (same_unit tree)) ∙ deep_first TheUnit taken_unit unit_by unit_explains (λ unit. Anything) unit_again (λ unit proper. tt) decide front l.0 l.1 breaks tree more proper (is ∙ ap (λ (u : List Token). u ++ more) (through_is k l.0 l.1 l.2)) ∙ ap Some (slice_length k inside);
      }

  pub unit_faults : (fault : SyntaxFault) → Fails unit_by tokens fault → AnswersUnit tokens (Err fault)
  unit_faults (the_fault.At k) h = unit_stopped k h.1 h.0
  unit_faults (the_fault.Deep k) h = unit_deep k h.1 h.0
  unit_faults the_fault.NoMemory h = tt
