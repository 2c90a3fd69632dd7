-- Reading the lines behind the counts.
use Rattle.std.proofs.Common.{◌≡◌, ◌∙◌, ◌≤◌, ◌<◌, ◌+◌, ◌^◌, ℕ, List, [], ◌∷◌, ◌++◌, length, map, nat_eq, refl, sym, ap, subst, append_assoc, append-nil, arith}
use Rattle.std.specs.Prelude.{All, string_bytes}
use Rattle.std.specs.List.{flat_map, count_by}
use Rattle.std.proofs.lemmas.List.{length-append}
use Rattle.pst_scen.specs.declared.event.Event.{Event}
use Rattle.pst_trace_texts.specs.Lines.{line}
use Rattle.pst_trace_lines.specs.declared.last.LastLine.{LastLine}
use Rattle.pst_trace_lines.specs.Last.{IsLastLine}
use Rattle.pst_trace_lines.specs.Blocks.{BlockLinesAreOne}
use Rattle.pst_trace_reader.specs.declared.line.Reading.{Reading}
use Rattle.pst_trace_reader.specs.Traces.{AreLines, AreRest}
use Rattle.pst_trace_reader.specs.Going.{Passes, HasGone, IsSame}
use Rattle.pst_trace_reader.specs.Behind.{IsReadOn, IsBadRest, IsFirstBadRest, IsRestText}
use Rattle.pst_trace_reader.proofs.Onward.{read_first, read_next, begins_rest, bad_line, none_left, ended, bad_behind}
use Rattle.pst_trace_reader.proofs.Cut.{Unbroken, cut_all, lines_behind, line_first, text_on, each_on, count_on}

-- so far lines went on, up to this rest; the next one has this number
pub record IsGoing (old new : Reading) (text rest : List ℕ) (number : ℕ) : Type 0 where
  pub front : List (List ℕ)
  pub header : List (List ℕ)
  pub events : List Event
  pub are : text ≡ flat_map line front ++ rest
  pub each : All Unbroken front
  pub header_is : map string_bytes new.header.items ≡ map string_bytes old.header.items ++ header
  pub events_are : new.events.items ≡ old.events.items ++ events
  pub format_is : new.format ≡ old.format
  pub on : IsReadOn old.format front header events new.passed
  pub number_is : number ≡ length front + 3
  pub count : length front + count_by (nat_eq 10) rest ≤ count_by (nat_eq 10) text

pub going_first : (r : Reading) (text : List ℕ) → r.passed ≡ 0 → IsGoing r r text text 3
going_first r text none = record {
  front = [];
  header = [];
  events = [];
  are = refl;
  each = λ k d below. absurd (omega (arith, below));
  header_is = sym (append-nil (map string_bytes r.header.items));
  events_are = sym (append-nil r.events.items);
  format_is = refl;
  on = subst (λ n. IsReadOn r.format [] [] [] n) (sym none) (read_first r.format);
  number_is = refl;
  count = omega arith;
}

module _ (old middle : Reading) (text rest one more : List ℕ) (number : ℕ) (g : IsGoing old middle text rest number) (cuts : rest ≡ one ++ 10 ∷ more) (none : Unbroken one) where
  pub going_next : (law : BlockLinesAreOne) (new : Reading) → HasGone middle new one → IsGoing old new text more (number + 1)
  going_next law new gone =
      let count = count_on rest one more cuts in
      let so_far = g.count in
      let number_is = g.number_is in
      let passes = subst (λ n. Passes n middle.passed one gone.header gone.events new.passed) g.format_is gone.passes in
      record {
        front = g.front ++ one ∷ [];
        header = g.header ++ gone.header;
        events = g.events ++ gone.events;
        are = text_on text rest one more g.front g.are cuts;
        each = each_on g.front one g.each none;
        header_is = gone.header_is ∙ ap (λ (l : List (List ℕ)). l ++ gone.header) g.header_is ∙ append_assoc (map string_bytes old.header.items) g.header gone.header;
        events_are = gone.events_are ∙ ap (λ (l : List Event). l ++ gone.events) g.events_are ∙ append_assoc old.events.items g.events gone.events;
        format_is = gone.format_is ∙ g.format_is;
        on = read_next law old.format middle.passed new.passed g.front g.header g.events one gone.header gone.events g.on passes;
        number_is = omega (arith, number_is, length-append g.front (one ∷ []));
        count = omega (arith, count, so_far, length-append g.front (one ∷ []));
      }

  pub going_fits : count_by (nat_eq 10) text + 3 < 2 ^ 32 → number + 1 < 2 ^ 32
  going_fits few =
      let count = count_on rest one more cuts in
      let so_far = g.count in
      let number_is = g.number_is in
      omega (arith, few, count, so_far, number_is)

  pub going_bad : ((others hs : List (List ℕ)) (es : List Event) (last : LastLine) → AreRest middle.format middle.passed (one ∷ others) hs es last → ⊥) → IsFirstBadRest old.format text number
  going_bad bad =
      let behind = cut_all more in
      record {
        front = g.front;
        behind = one ∷ behind.lines;
        rest = behind.rest;
        are = lines_behind text rest g.front (one ∷ behind.lines) behind.rest g.are g.each (line_first rest one more behind.lines behind.rest cuts none behind.are);
        number_is = g.number_is;
        begins = begins_rest old.format middle.passed g.front g.header g.events g.on;
        bad = bad_line old.format middle.passed g.front g.header g.events one g.on (λ others hs es last r. bad others hs es last (subst (λ n. AreRest n middle.passed (one ∷ others) hs es last) (sym g.format_is) r));
      }

  pub going_ends : (new : Reading) (last : LastLine) → IsSame middle new → IsLastLine one last → more ≡ [] → IsRestText old new text last
  going_ends new last same is whole = record {
    lines = g.front ++ one ∷ [];
    header = g.header;
    events = g.events;
    are = record {
      are = text_on text rest one more g.front g.are cuts ∙ ap (λ (t : List ℕ). flat_map line (g.front ++ one ∷ []) ++ t) whole;
      each = each_on g.front one g.each none;
      last = λ h. absurd (omega (arith, h.1));
    };
    rest = ended old.format middle.passed g.front g.header g.events one last g.on is;
    header_is = ap (map string_bytes) same.header_is ∙ g.header_is;
    events_are = same.events_are ∙ g.events_are;
    format_is = same.format_is ∙ g.format_is;
  }

  pub going_behind : (last : LastLine) → IsLastLine one last → (more ≡ [] → ⊥) → IsFirstBadRest old.format text (number + 1)
  going_behind last is some =
      let behind = cut_all more in
      let number_is = g.number_is in
      let front = g.front ++ one ∷ [] in
      record {
        front = front;
        behind = behind.lines;
        rest = behind.rest;
        are = lines_behind text more front behind.lines behind.rest (text_on text rest one more g.front g.are cuts) (each_on g.front one g.each none) behind.are;
        number_is = omega (arith, number_is, length-append g.front (one ∷ []));
        begins = (
          [],
          record {
            header = g.header;
            events = g.events;
            last = last;
            is = subst (λ (ls : List (List ℕ)). AreRest old.format 0 ls g.header g.events last) (sym (append-nil front)) (ended old.format middle.passed g.front g.header g.events one last g.on is);
          },
        );
        bad = by behind.lines behind.rest behind.are;
      }
    where
      by : (lines : List (List ℕ)) (left : List ℕ) → AreLines more lines left → IsBadRest old.format (g.front ++ one ∷ []) lines left
      by [] left are = λ rest_is nothing. some (are.are ∙ nothing)
      by (other ∷ lines) left are = bad_behind old.format middle.passed g.front g.header g.events one other last g.on is

-- no line is left
pub going_none : (old middle : Reading) (text rest : List ℕ) (number : ℕ) → IsGoing old middle text rest number → Unbroken rest → IsFirstBadRest old.format text number
going_none old middle text rest number g whole = record {
  front = g.front;
  behind = [];
  rest = rest;
  are = lines_behind text rest g.front [] rest g.are g.each (record { are = refl; each = λ k d below. absurd (omega (arith, below)); last = whole });
  number_is = g.number_is;
  begins = begins_rest old.format middle.passed g.front g.header g.events g.on;
  bad = λ is nothing. none_left old.format middle.passed g.front g.header g.events g.on is;
}
