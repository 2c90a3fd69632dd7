-- Lines of blocks, and the last line.
use Rattle.std.proofs.Common.{◌≡◌, ◌<◌, ◌≤◌, ◌^◌, ℕ, zero, suc, List, [], ◌∷◌, ◌++◌, length, get_or, Bool, true, false, refl, sym, ap, subst, ◌∙◌, append_assoc, append-nil, decimal, arith}
use Rattle.std.specs.Prelude.{All, codes, Contains, if◌then◌else◌}
use Rattle.std.specs.List.{flat_map}
use Rattle.std.proofs.lemmas.List.Elements.{All-append, All-cons, All-nil, All-head, All-tail, Contains-append_right}
use Rattle.std.proofs.lemmas.Grind.{flat_map-append}
use Rattle.pst_scen.specs.declared.event.Event.{Event}
use Rattle.pst_scen.specs.declared.event.Event.TheVariants.{Start, End}
use Rattle.pst_scen.specs.Trace.{Block, Starts, Ends, starts_of, events_of, events}
use Rattle.pst_scen.specs.Judging.{IsBlock}
use Rattle.pst_trace_texts.specs.declared.last.Last.{Last}
use Rattle.pst_trace_texts.specs.declared.last.Last.TheVariants.{Done, Solved, Fault, Trap}
use Rattle.pst_trace_texts.specs.Lines.{line}
use Rattle.pst_trace_texts.specs.Texts.{event_text, goes_on, events_text, last_line}
use Rattle.pst_trace_lines.specs.declared.last.LastLine.{LastLine}
use Rattle.pst_trace_lines.specs.declared.last.LastLine.TheVariants as said
use Rattle.pst_trace_lines.specs.Forms.{IsDone, IsFault, IsTrap}
use Rattle.pst_trace_lines.specs.Last.{IsLastLine}
use Rattle.pst_trace_lines.specs.Blocks.{AreStarts, IsOneBlock, OfStarts, OfEnd, IsBlockLine}
use Rattle.pst_trace_reader.specs.Traces.{AreRest, all_sorts, ABlock}
use Rattle.pst_written_traces.specs.Written.{IsNumbered, Says}
use Rattle.pst_written_traces.proofs.Printed.{Printed, joined, number, unbroken}

-- ---- parts of lists

all_left : (xs ys : List Event) → All (λ e. IsNumbered e) (xs ++ ys) → All (λ e. IsNumbered e) xs
all_left [] ys own = All-nil (λ e. IsNumbered e)
all_left (x ∷ xs) ys own = All-cons (λ e. IsNumbered e) x xs (All-head (λ e. IsNumbered e) x (xs ++ ys) own) (all_left xs ys (All-tail (λ e. IsNumbered e) x (xs ++ ys) own))

all_right : (xs ys : List Event) → All (λ e. IsNumbered e) (xs ++ ys) → All (λ e. IsNumbered e) ys
all_right [] ys own = own
all_right (x ∷ xs) ys own = all_right xs ys (All-tail (λ e. IsNumbered e) x (xs ++ ys) own)

-- ---- texts of events

-- whether a block has begun behind events
abbrev flag : Bool → List Event → Bool
flag begun [] = begun
flag begun (event ∷ more) = flag (goes_on event) more

flag_on : (begun : Bool) (xs ys : List Event) → flag begun (xs ++ ys) ≡ flag (flag begun xs) ys
flag_on begun [] ys = refl
flag_on begun (x ∷ xs) ys = flag_on (goes_on x) xs ys

text_on : (begun : Bool) (xs ys : List Event) → events_text begun (xs ++ ys) ≡ events_text begun xs ++ events_text (flag begun xs) ys
text_on begun [] ys = refl
text_on begun (x ∷ xs) ys =
    ap (λ (l : List ℕ). event_text begun x ++ l) (text_on (goes_on x) xs ys) ∙ sym (append_assoc (event_text begun x) (events_text (goes_on x) xs) (events_text (flag (goes_on x) xs) ys))

-- ---- the line of a block of starts

-- one start, without what ends a line
abbrev piece : Bool → ℕ → ℕ → List ℕ
piece begun act lane = (if begun then [] else codes "start") ++ codes " " ++ decimal act ++ codes ":" ++ decimal lane

piece_printed : (begun : Bool) (act lane : ℕ) → Printed (piece begun act lane)
piece_printed begun act lane =
    let one = joined (if begun then [] else codes "start") (codes " ") (word begun) refl in
    let two = joined ((if begun then [] else codes "start") ++ codes " ") (decimal act) one (number act) in
    let three = joined (((if begun then [] else codes "start") ++ codes " ") ++ decimal act) (codes ":") two refl in
    joined ((((if begun then [] else codes "start") ++ codes " ") ++ decimal act) ++ codes ":") (decimal lane) three (number lane)
  where
    word : (b : Bool) → Printed (if b then [] else codes "start")
    word true = refl
    word false = refl

-- starts of one block, without the line feed
pub record StartsText (begun : Bool) (own : List Event) : Type 0 where
  pub text : List ℕ
  pub is : events_text begun own ≡ line text
  pub printed : Printed text
  pub closes : (b : Bool) → flag b own ≡ false

starts_text : (begun : Bool) (own : List Event) → AreStarts own → StartsText begun own
starts_text begun [] starts = absurd starts
starts_text begun (Start act lane false ∷ []) starts = record {
  text = piece begun act lane;
  is = append-nil (piece begun act lane ++ 10 ∷ []);
  printed = piece_printed begun act lane;
  closes = λ b. refl;
}
starts_text begun (Start act lane false ∷ event ∷ more) starts = absurd starts
starts_text begun (Start act lane true ∷ more) (of_act, of_lane, starts) =
    let rest = starts_text true more starts in
    record {
      text = piece begun act lane ++ rest.text;
      is = ap (λ (l : List ℕ). l ++ events_text true more) (append-nil (piece begun act lane)) ∙ ap (λ (l : List ℕ). piece begun act lane ++ l) rest.is ∙ sym (append_assoc (piece begun act lane) rest.text (10 ∷ []));
      printed = joined (piece begun act lane) rest.text (piece_printed begun act lane) rest.printed;
      closes = λ b. rest.closes true;
    }
starts_text begun (End act ∷ more) starts = absurd starts

starts_are : (members used : List ℕ) → 0 < length members → length used ≡ length members → All (λ e. IsNumbered e) (starts_of members used) → AreStarts (starts_of members used)
starts_are [] used some many own = absurd (omega (arith, some))
starts_are (a ∷ more) [] some many own = absurd (omega (arith, many))
starts_are (a ∷ []) (l ∷ ls) some many own = All-head (λ e. IsNumbered e) (Start a l false) [] own
starts_are (a ∷ b ∷ more) (l ∷ ls) some many own =
    let first = All-head (λ e. IsNumbered e) (Start a l true) (starts_of (b ∷ more) ls) own in
    (first.0, first.1, starts_are (b ∷ more) ls (omega arith) (omega (arith, many)) (All-tail (λ e. IsNumbered e) (Start a l true) (starts_of (b ∷ more) ls) own))

-- ---- one block

record OneLine (own : List Event) : Type 0 where
  pub text : List ℕ
  pub is : IsBlockLine text own
  pub printed : Printed text
  pub closes : (b : Bool) → flag b own ≡ false

block_line : (block : Block) → IsBlock block → All (λ e. IsNumbered e) (events_of block) → OneLine (events_of block)
block_line (Starts members used) is own =
    let starts = starts_are members used is.0 is.1 own in
    let text = starts_text false (starts_of members used) starts in
    record {
      text = text.text;
      is = record { block = OfStarts (starts_of members used) starts; is = sym text.is };
      printed = text.printed;
      closes = text.closes;
    }
block_line (Ends a) is own = record {
  text = codes "end " ++ decimal a;
  is = record { block = OfEnd a (All-head (λ e. IsNumbered e) (End a) [] own); is = sym (append-nil (line (codes "end " ++ decimal a))) };
  printed = joined (codes "end ") (decimal a) refl (number a);
  closes = λ b. refl;
}

-- ---- all blocks

-- the lines of events that are whole blocks, and what stands behind them
pub record EventLines (own : List Event) : Type 0 where
  pub lines : List (List ℕ)
  pub are : flat_map line lines ≡ events_text false own
  pub printed : All (λ l. Printed l) lines
  pub closes : flag false own ≡ false
  pub onto : (format : ℕ) (more header : List (List ℕ)) (later : List Event) (last : LastLine) → AreRest format all_sorts more header later last → AreRest format all_sorts (lines ++ more) header (own ++ later) last

one_more : (older own : List Event) → EventLines older → OneLine own → EventLines (older ++ own)
one_more older own before block = record {
  lines = before.lines ++ block.text ∷ [];
  are = flat_map-append line before.lines (block.text ∷ []) ∙ ap (λ (l : List ℕ). l ++ (line block.text ++ [])) before.are
      ∙ ap (λ (l : List ℕ). events_text false older ++ l) (append-nil (line block.text) ∙ block.is.is)
      ∙ ap (λ (b : Bool). events_text false older ++ events_text b own) (sym before.closes) ∙ sym (text_on false older own);
  printed = All-append (λ l. Printed l) before.lines (block.text ∷ []) before.printed (All-cons (λ l. Printed l) block.text [] block.printed (All-nil (λ l. Printed l)));
  closes = flag_on false older own ∙ block.closes (flag false older);
  onto = λ format more header later last rest.
      subst (λ (es : List Event). AreRest format all_sorts ((before.lines ++ block.text ∷ []) ++ more) header es last) (sym (append_assoc older own later))
      (subst (λ (ls : List (List ℕ)). AreRest format all_sorts ls header (older ++ (own ++ later)) last) (sym (append_assoc before.lines (block.text ∷ []) more))
      (before.onto format (block.text ∷ more) header (own ++ later) last (ABlock all_sorts block.text more header own later last block.is rest)));
}

pub event_lines : (blocks : List Block) → ((block : Block) → Contains blocks block → IsBlock block) → All (λ e. IsNumbered e) (events blocks) → EventLines (events blocks)
event_lines [] whole own = record {
  lines = [];
  are = refl;
  printed = All-nil (λ l. Printed l);
  closes = refl;
  onto = λ format more header later last rest. rest;
}
event_lines (block ∷ older) whole own =
    one_more (events older) (events_of block)
    (event_lines older (λ b h. whole b (Contains-append_right (block ∷ []) older b h)) (all_left (events older) (events_of block) own))
    (block_line block (whole block (0, omega arith, refl)) (all_right (events older) (events_of block) own))

-- ---- the last line

pub record EndLine (count : ℕ) (end : Last) (last : LastLine) : Type 0 where
  pub text : List ℕ
  pub is : line text ≡ last_line count end
  pub says : IsLastLine text last
  pub printed : Printed text

three : (word : List ℕ) (a b c : ℕ) → Printed word → Printed (word ++ decimal a ++ codes " " ++ decimal b ++ codes " " ++ decimal c)
three word a b c own =
    let one = joined word (decimal a) own (number a) in
    let two = joined (word ++ decimal a) (codes " ") one refl in
    let more = joined ((word ++ decimal a) ++ codes " ") (decimal b) two (number b) in
    let four = joined (((word ++ decimal a) ++ codes " ") ++ decimal b) (codes " ") more refl in
    joined ((((word ++ decimal a) ++ codes " ") ++ decimal b) ++ codes " ") (decimal c) four (number c)

pub end_line : (count : ℕ) → count < 2 ^ 32 → (end : Last) (last : LastLine) → Says count end last → EndLine count end last
end_line count small Done last is = record {
  text = codes "done " ++ decimal count;
  is = refl;
  says = subst (λ (l : LastLine). IsLastLine (codes "done " ++ decimal count) l) (sym is) (record { small = small; is = refl });
  printed = joined (codes "done ") (decimal count) refl (number count);
}
end_line count small Solved last is = absurd is
end_line count small (Fault lane act call) last (is, of_lane, of_act, of_call) = record {
  text = codes "fault " ++ decimal lane ++ codes " " ++ decimal act ++ codes " " ++ decimal call;
  is = refl;
  says = subst (λ (l : LastLine). IsLastLine (codes "fault " ++ decimal lane ++ codes " " ++ decimal act ++ codes " " ++ decimal call) l) (sym is)
      (record { of_lane = of_lane; of_act = of_act; of_call = of_call; is = refl });
  printed = three (codes "fault ") lane act call refl;
}
end_line count small (Trap lane act kind) last (is, of_lane, of_act, least, most) = record {
  text = codes "trap " ++ decimal lane ++ codes " " ++ decimal act ++ codes " " ++ decimal kind;
  is = refl;
  says = subst (λ (l : LastLine). IsLastLine (codes "trap " ++ decimal lane ++ codes " " ++ decimal act ++ codes " " ++ decimal kind) l) (sym is)
      (record { of_lane = of_lane; of_act = of_act; least = least; most = most; is = refl });
  printed = three (codes "trap ") lane act kind refl;
}
