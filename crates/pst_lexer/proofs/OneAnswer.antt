-- A text has tokens or one fault, and never both.
use Rattle.std.proofs.Common.{◌≡◌, ◌≢◌, ℕ, ◌+◌, ◌<◌, ◌≤◌, ◌⊎◌, inl, inr, List, [], ◌∷◌, ◌++◌, length, Result, Ok, Err, IfOk, IfErr, refl, ap, sym, subst, ◌∙◌, arith, length-append}
use Rattle.std.proofs.lemmas.Bool.{cases_lt}
use Rattle.pst_base.specs.declared.position.Place.{Place}
use Rattle.pst_token.specs.declared.token.Token.{Token}
use Rattle.pst_token.specs.Parts.{Part, text_of, BeginsWith}
use Rattle.pst_token.specs.Tokens.{place_after, Ending, complete, bad, wide, IsReading, AreTokens}
use Rattle.pst_token.proofs.Readings.{one_reading, within_reading, each_reading, GoesOn}
use Rattle.pst_lexer.specs.declared.fault.LexFault.{LexFault}
use Rattle.pst_lexer.specs.declared.fault.LexFault.TheVariants as fault
use Rattle.pst_lexer.specs.Fault.{token_count, StopsAt, HasMany, HasFault, HasTokens, EachTextHasOneOutcome}
use Rattle.pst_lexer.proofs.Counts.{count-tokens, token_count-append}

-- a reading with few tokens has no front with many
few_or_many : (room : ℕ) (text : List ℕ) (parts : List Part) (rest : List ℕ) (ending : Ending) → IsReading text parts rest ending → token_count parts ≤ room → HasMany room text → ⊥
few_or_many room text parts rest ending reading few many =
    let on = within_reading text parts many.parts rest many.rest ending reading many.front in
    let counts : token_count parts ≡ token_count many.parts + token_count on.more = ap token_count on.longer ∙ token_count-append many.parts on.more in
    let above = many.many in
    absurd (omega arith)

-- two stops are at one place
same_place : (file room : ℕ) (text : List ℕ) (d e : Ending) (p q : Place) → StopsAt file room text d p → StopsAt file room text e q → (d ≡ e) × (p ≡ q)
same_place file room text d e p q first second =
    let (parts, _, endings) = one_reading text first.parts second.parts first.rest second.rest d e first.reading second.reading in
    (endings, first.at ∙ ap (λ ps. place_after file (text_of ps)) parts ∙ sym second.at)

pub one_fault : (file room : ℕ) (text : List ℕ) (f g : LexFault) → HasFault file room text f → HasFault file room text g → f ≡ g
one_fault file room text (fault.Bad p) (fault.Bad q) h k = ap fault.Bad (same_place file room text bad bad p q h k).1
one_fault file room text (fault.Bad p) (fault.Wide q) h k = let (differ, _) = same_place file room text bad wide p q h k in cc
one_fault file room text (fault.Bad p) fault.Many h k = absurd (few_or_many room text h.parts h.rest bad h.reading h.few k)
one_fault file room text (fault.Wide p) (fault.Bad q) h k = let (differ, _) = same_place file room text wide bad p q h k in cc
one_fault file room text (fault.Wide p) (fault.Wide q) h k = ap fault.Wide (same_place file room text wide wide p q h k).1
one_fault file room text (fault.Wide p) fault.Many h k = absurd (few_or_many room text h.parts h.rest wide h.reading h.few k)
one_fault file room text fault.Many (fault.Bad q) h k = absurd (few_or_many room text k.parts k.rest bad k.reading k.few h)
one_fault file room text fault.Many (fault.Wide q) h k = absurd (few_or_many room text k.parts k.rest wide k.reading k.few h)
one_fault file room text fault.Many fault.Many h k = refl
one_fault file room text fault.NoMemory g h k = absurd h
one_fault file room text (fault.Bad p) fault.NoMemory h k = absurd k
one_fault file room text (fault.Wide p) fault.NoMemory h k = absurd k
one_fault file room text fault.Many fault.NoMemory h k = absurd k

pub tokens_no_fault : (file room : ℕ) (text : List ℕ) (f : LexFault) → HasTokens room text → HasFault file room text f → ⊥
tokens_no_fault file room text (fault.Bad p) h k = let (_, _, differ) = one_reading text h.parts k.parts [] k.rest complete bad h.reading k.reading in cc
tokens_no_fault file room text (fault.Wide p) h k = let (_, _, differ) = one_reading text h.parts k.parts [] k.rest complete wide h.reading k.reading in cc
tokens_no_fault file room text fault.Many h k = few_or_many room text h.parts [] complete h.reading h.few k
tokens_no_fault file room text fault.NoMemory h k = k

-- the tokens of a text, where there is room for them
pub has_tokens : (file room : ℕ) (names : List (List ℕ)) (text : List ℕ) (tokens : List Token) → AreTokens file names text tokens → length tokens ≤ room + 1 → HasTokens room text
has_tokens file room names text tokens h few = record {
  parts = h.parts;
  reading = h.reading;
  few = let lengths = ap length h.all in omega (arith, count-tokens names file h.parts h.before_end h.each, length-append h.before_end);
}

pub one_outcome : EachTextHasOneOutcome
one_outcome file room text = record {
  outcome =
      let one = each_reading text in
      elim (cases_lt room (token_count one.parts)) [
        | inl many ↦ inr (fault.Many, record { parts = one.parts; rest = one.rest; front = one.reading.front; many = many })
        | inr few ↦ by_ending one.parts one.rest one.ending one.reading few
      ];
  apart = λ tokens f fault_of. tokens_no_fault file room text f tokens fault_of;
  one = one_fault file room text;
}
  where
    by_ending : (parts : List Part) (rest : List ℕ) (ending : Ending) → IsReading text parts rest ending → token_count parts ≤ room → HasTokens room text ⊎ ((f : LexFault) × HasFault file room text f)
    by_ending parts rest complete reading few = inl (record { parts = parts; reading = subst (λ r. IsReading text parts r complete) reading.ends reading; few = few })
    by_ending parts rest bad reading few = inr (fault.Bad (place_after file (text_of parts)), record { parts = parts; rest = rest; reading = reading; few = few; at = refl })
    by_ending parts rest wide reading few = inr (fault.Wide (place_after file (text_of parts)), record { parts = parts; rest = rest; reading = reading; few = few; at = refl })
