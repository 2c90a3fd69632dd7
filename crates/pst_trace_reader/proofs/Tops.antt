-- The first two lines of a text.
use Rattle.std.proofs.Common.{◌≡◌, ◌∙◌, ◌<◌, ◌^◌, ℕ, List, [], ◌∷◌, ◌++◌, map, refl, sym, ap, subst, inl, inr, ◌⊎◌, decimal, arith}
use Rattle.std.specs.Prelude.{codes, string_bytes, Ok, Err}
use Rattle.std.proofs.lemmas.List.{append_cancel_left}
use Rattle.std.proofs.lemmas.Fmt.{decimal_injective}
use Rattle.pst_scen.specs.declared.event.Event.{Event}
use Rattle.pst_trace_lines.specs.declared.last.LastLine.{LastLine}
use Rattle.pst_trace_lines.specs.declared.last.LastLine.TheVariants.{Done}
use Rattle.pst_trace_lines.specs.Forms.{IsCounts}
use Rattle.pst_trace_reader.specs.declared.text.TraceText.{TraceText}
use Rattle.pst_trace_reader.specs.Traces.{AreLines, AreRest, TheLast, IsFormatLine, IsTraceText, IsTrace, Begins, IsBadBehind, IsFirstBad}
use Rattle.pst_trace_reader.specs.declared.line.Reading.{Reading}
use Rattle.pst_trace_reader.specs.declared.body.TraceEnd.{TraceEnd}
use Rattle.pst_trace_reader.specs.declared.body.TraceEnd.TheVariants.{Bad, NoMemory}
use Rattle.pst_trace_reader.specs.Behind.{IsRest, IsBadRest, IsFirstBadRest, IsRestText, BodyEnds}
use Rattle.pst_trace_reader.specs.Top.{RestEnds}
use Rattle.pst_trace_reader.proofs.Cut.{Unbroken, cut_all, line_first}

pub format_one : (text : List ℕ) (a b : ℕ) → IsFormatLine text a → IsFormatLine text b → a ≡ b
format_one text a b one other =
    decimal_injective a b (small a one.known) (small b other.known) (append_cancel_left (codes "pst ") (decimal a) (decimal b) (sym one.is ∙ other.is))
  where
    small : (n : ℕ) → (n ≡ 1) ⊎ (n ≡ 2) → n < 2 ^ 64
    small n (inl e) = omega (arith, e)
    small n (inr e) = omega (arith, e)

-- a shortest rest
shortest : (format : ℕ) → AreRest format 0 ((codes "done " ++ decimal 0) ∷ []) [] [] (Done 0)
shortest format = TheLast 0 (codes "done " ++ decimal 0) (Done 0) (record { small = omega arith; is = refl })

abbrev counts_text : List ℕ
counts_text = codes "scenario " ++ decimal 0 ++ codes " " ++ decimal 0

trace_of : (first counts : List ℕ) (more own : List (List ℕ)) (events : List Event) (last : LastLine) (format actions inferred : ℕ)
    → IsFormatLine first format → IsCounts counts actions inferred → AreRest format 0 more own events last → IsTrace (first ∷ counts ∷ more)
trace_of first counts more own events last format actions inferred of_format of_counts rest = record {
  format = format;
  header = first ∷ counts ∷ own;
  events = events;
  last = last;
  is = record { first = first; counts = counts; more = more; own = own; are = refl; of_format = of_format; actions = actions; inferred = inferred; of_counts = of_counts; header_is = refl; rest = rest };
}

zero_counts : IsCounts counts_text 0 0
zero_counts = record { actions = omega arith; inferred = omega arith; is = refl }

-- the first line is bad
none_begins : Begins []
none_begins = (
  (codes "pst " ++ decimal 1) ∷ counts_text ∷ (codes "done " ++ decimal 0) ∷ [],
  trace_of (codes "pst " ++ decimal 1) counts_text ((codes "done " ++ decimal 0) ∷ []) [] [] (Done 0) 1 0 0 (record { is = refl; known = inl refl }) zero_counts (shortest 1),
)

pub first_missing : (text : List ℕ) → Unbroken text → IsFirstBad text 1
first_missing text none = record {
  front = [];
  behind = [];
  rest = text;
  are = record { are = refl; each = λ k d below. absurd (omega (arith, below)); last = none };
  number_is = refl;
  begins = none_begins;
  bad = λ is nothing. let same : [] ≡ is.is.first ∷ is.is.counts ∷ is.is.more = is.is.are in absurd cc;
}

pub first_bad : (text one more : List ℕ) → text ≡ one ++ 10 ∷ more → Unbroken one → ((format : ℕ) → IsFormatLine one format → ⊥) → IsFirstBad text 1
first_bad text one more cuts none bad =
    let behind = cut_all more in
    record {
      front = [];
      behind = one ∷ behind.lines;
      rest = behind.rest;
      are = line_first text one more behind.lines behind.rest cuts none behind.are;
      number_is = refl;
      begins = none_begins;
      bad = λ begun. by begun.0 begun.1;
    }
  where
    by : (others : List (List ℕ)) → IsTrace (one ∷ others) → ⊥
    by others t = let same : one ∷ others ≡ t.is.first ∷ t.is.counts ∷ t.is.more = t.is.are in let head : one ≡ t.is.first = cc in bad t.format (subst (λ (l : List ℕ). IsFormatLine l t.format) (sym head) t.is.of_format)

-- the line of the counts is bad
format_begins : (first : List ℕ) (format : ℕ) → IsFormatLine first format → Begins (first ∷ [])
format_begins first format is = (counts_text ∷ (codes "done " ++ decimal 0) ∷ [], trace_of first counts_text ((codes "done " ++ decimal 0) ∷ []) [] [] (Done 0) format 0 0 is zero_counts (shortest format))

pub counts_missing : (format : ℕ) (text whole first : List ℕ) → Unbroken text → whole ≡ first ++ 10 ∷ text → Unbroken first → IsFormatLine first format → IsFirstBad whole 2
counts_missing format text whole first none cuts own is = record {
  front = first ∷ [];
  behind = [];
  rest = text;
  are = line_first whole first text [] text cuts own (record { are = refl; each = λ k d below. absurd (omega (arith, below)); last = none });
  number_is = refl;
  begins = format_begins first format is;
  bad = λ t nothing. let same : first ∷ [] ≡ t.is.first ∷ t.is.counts ∷ t.is.more = t.is.are in let tail : [] ≡ t.is.counts ∷ t.is.more = cc in absurd cc;
}

pub counts_bad : (format : ℕ) (text one more whole first : List ℕ) → text ≡ one ++ 10 ∷ more → Unbroken one → ((n k : ℕ) → IsCounts one n k → ⊥)
    → whole ≡ first ++ 10 ∷ text → Unbroken first → IsFormatLine first format → IsFirstBad whole 2
counts_bad format text one more whole first cuts none bad outer own is =
    let behind = cut_all more in
    record {
      front = first ∷ [];
      behind = one ∷ behind.lines;
      rest = behind.rest;
      are = line_first whole first text (one ∷ behind.lines) behind.rest outer own (line_first text one more behind.lines behind.rest cuts none behind.are);
      number_is = refl;
      begins = format_begins first format is;
      bad = λ begun. by begun.0 begun.1;
    }
  where
    by : (others : List (List ℕ)) → IsTrace (first ∷ one ∷ others) → ⊥
    by others t =
        let same : first ∷ one ∷ others ≡ t.is.first ∷ t.is.counts ∷ t.is.more = t.is.are in
        let head : one ≡ t.is.counts = cc in
        bad t.is.actions t.is.inferred (subst (λ (l : List ℕ). IsCounts l t.is.actions t.is.inferred) (sym head) t.is.of_counts)

-- what stands behind the counts
rest_of : (first counts : List ℕ) (lines : List (List ℕ)) (format : ℕ) → IsFormatLine first format → IsTrace (first ∷ counts ∷ lines) → IsRest format lines
rest_of first counts lines format is t =
    let same : first ∷ counts ∷ lines ≡ t.is.first ∷ t.is.counts ∷ t.is.more = t.is.are in
    let head : first ≡ t.is.first = cc in
    let tail : lines ≡ t.is.more = cc in
    let formats = format_one first t.format format (subst (λ (l : List ℕ). IsFormatLine l t.format) (sym head) t.is.of_format) is in
    record {
      header = t.is.own;
      events = t.events;
      last = t.last;
      is = subst (λ n. AreRest n 0 lines t.is.own t.events t.last) formats (subst (λ (ls : List (List ℕ)). AreRest t.format 0 ls t.is.own t.events t.last) (sym tail) t.is.rest);
    }

trace_behind : (first counts : List ℕ) (format actions inferred : ℕ) (lines : List (List ℕ)) → IsFormatLine first format → IsCounts counts actions inferred → IsRest format lines → IsTrace (first ∷ counts ∷ lines)
trace_behind first counts format actions inferred lines is of_counts r = trace_of first counts lines r.header r.events r.last format actions inferred is of_counts r.is

pub rest_bad : (format actions inferred : ℕ) (text : List ℕ) (number : ℕ) (whole first counts : List ℕ) → IsFirstBadRest format text number → whole ≡ first ++ 10 ∷ (counts ++ 10 ∷ text)
    → Unbroken first → Unbroken counts → IsFormatLine first format → IsCounts counts actions inferred → IsFirstBad whole number
rest_bad format actions inferred text number whole first counts b cuts own others is of_counts =
    let number_is = b.number_is in
    record {
      front = first ∷ counts ∷ b.front;
      behind = b.behind;
      rest = b.rest;
      are = line_first whole first (counts ++ 10 ∷ text) (counts ∷ (b.front ++ b.behind)) b.rest cuts own (line_first (counts ++ 10 ∷ text) counts text (b.front ++ b.behind) b.rest refl others b.are);
      number_is = omega (arith, number_is);
      begins = (b.begins.0, trace_behind first counts format actions inferred (b.front ++ b.begins.0) is of_counts b.begins.1);
      bad = by b.behind b.bad;
    }
  where
    by : (behind : List (List ℕ)) → IsBadRest format b.front behind b.rest → IsBadBehind (first ∷ counts ∷ b.front) behind b.rest
    by [] bad = λ t nothing. bad (rest_of first counts b.front format is t) nothing
    by (one ∷ more) bad = λ begun. bad (begun.0, rest_of first counts ((b.front ++ one ∷ []) ++ begun.0) format is begun.1)

pub rest_good : (format actions inferred : ℕ) (text : List ℕ) (whole first counts : List ℕ) (lines own : List (List ℕ)) (t : TraceText) → AreLines text lines [] → AreRest format 0 lines own t.events.items t.last
    → t.format ≡ format → map string_bytes t.header.items ≡ (codes "pst " ++ decimal format) ∷ (codes "scenario " ++ decimal actions ++ codes " " ++ decimal inferred) ∷ own
    → whole ≡ first ++ 10 ∷ (counts ++ 10 ∷ text) → Unbroken first → Unbroken counts → IsFormatLine first format → IsCounts counts actions inferred → IsTraceText whole t
rest_good format actions inferred text whole first counts lines own t are rest format_is header_is cuts none others is of_counts = record {
  lines = first ∷ counts ∷ lines;
  are = line_first whole first (counts ++ 10 ∷ text) (counts ∷ lines) [] cuts none (line_first (counts ++ 10 ∷ text) counts text lines [] refl others are);
  trace = record {
    first = first;
    counts = counts;
    more = lines;
    own = own;
    are = refl;
    of_format = subst (λ n. IsFormatLine first n) (sym format_is) is;
    actions = actions;
    inferred = inferred;
    of_counts = of_counts;
    header_is = header_is ∙ ap (λ (l : List ℕ). l ∷ (codes "scenario " ++ decimal actions ++ codes " " ++ decimal inferred) ∷ own) (sym is.is) ∙ ap (λ (l : List ℕ). first ∷ l ∷ own) (sym of_counts.is);
    rest = subst (λ n. AreRest n 0 lines own t.events.items t.last) (sym format_is) rest;
  };
}

-- ---- the format

pub no_format : (text rest : List ℕ) (number format : ℕ) → text ≡ codes "pst " ++ rest → rest ≡ decimal number → number < 2 ^ 64 → (number ≡ 1 → ⊥) → (number ≡ 2 → ⊥) → IsFormatLine text format → ⊥
no_format text rest number format begins is small not_one not_two f = by format f.known f.is
  where
    by : (n : ℕ) → (n ≡ 1) ⊎ (n ≡ 2) → text ≡ codes "pst " ++ decimal n → ⊥
    by n (inl e) are = not_one (decimal_injective number n small (omega (arith, e)) (append_cancel_left (codes "pst ") (decimal number) (decimal n) (ap (λ (l : List ℕ). codes "pst " ++ l) (sym is) ∙ sym begins ∙ are)) ∙ e)
    by n (inr e) are = not_two (decimal_injective number n small (omega (arith, e)) (append_cancel_left (codes "pst ") (decimal number) (decimal n) (ap (λ (l : List ℕ). codes "pst " ++ l) (sym is) ∙ sym begins ∙ are)) ∙ e)

pub none_decimal : (text rest : List ℕ) (format : ℕ) → text ≡ codes "pst " ++ rest → ((n : ℕ) → n < 2 ^ 64 → rest ≡ decimal n → ⊥) → IsFormatLine text format → ⊥
none_decimal text rest format begins none f = by format f.known f.is
  where
    by : (n : ℕ) → (n ≡ 1) ⊎ (n ≡ 2) → text ≡ codes "pst " ++ decimal n → ⊥
    by n (inl e) are = none n (omega (arith, e)) (append_cancel_left (codes "pst ") rest (decimal n) (sym begins ∙ are))
    by n (inr e) are = none n (omega (arith, e)) (append_cancel_left (codes "pst ") rest (decimal n) (sym begins ∙ are))

-- ---- what stands behind the counts, as it was read

pub rest_end : (old new : Reading) (actions inferred : ℕ) (text : List ℕ) (end : TraceEnd) → BodyEnds old new text (Err end) → RestEnds old.format actions inferred text (Err end)
rest_end old new actions inferred text (Bad number) b = λ whole first counts cuts own others is of_counts. rest_bad old.format actions inferred text number whole first counts b cuts own others is of_counts
rest_end old new actions inferred text NoMemory b = λ whole first counts cuts own others is of_counts. tt

pub rest_ok : (actions inferred : ℕ) (text : List ℕ) (old new : Reading) (t : TraceText) → IsRestText old new text t.last → old.events.items ≡ []
    → map string_bytes old.header.items ≡ (codes "pst " ++ decimal old.format) ∷ (codes "scenario " ++ decimal actions ++ codes " " ++ decimal inferred) ∷ []
    → t.format ≡ old.format → t.header.items ≡ new.header.items → t.events.items ≡ new.events.items → RestEnds old.format actions inferred text (Ok t)
rest_ok actions inferred text old new t r none two format_is header_is events_are = λ whole first counts cuts own others is of_counts.
    let events : r.events ≡ t.events.items = sym (events_are ∙ r.events_are ∙ ap (λ (l : List Event). l ++ r.events) none) in
    rest_good old.format actions inferred text whole first counts r.lines r.header t r.are (subst (λ (es : List Event). AreRest old.format 0 r.lines r.header es t.last) events r.rest) format_is
    (ap (map string_bytes) header_is ∙ r.header_is ∙ ap (λ (l : List (List ℕ)). l ++ r.header) two) cuts own others is of_counts
