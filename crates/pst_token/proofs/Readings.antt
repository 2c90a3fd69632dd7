-- Fronts of a text: two of them agree, and a text has just one reading.
use Rattle.std.proofs.Common.{◌≡◌, ◌≢◌, ℕ, suc, zero, ◌+◌, ◌^◌, ◌<◌, ◌≤◌, Bool, true, false, ◌⊎◌, inl, inr, List, [], ◌∷◌, ◌++◌, Option, Some, None, length, refl, ap, sym, subst, ◌∙◌, arith, length-append, append_assoc, append-nil}
use Rattle.std.proofs.lemmas.Bool.{cases_lt}
use Rattle.std.proofs.lemmas.List.{append_cancel_left, nil_from_length}
use Rattle.pst_token.specs.Lexemes.{Lexeme, fixed, name, number, spelled, is_word_byte}
use Rattle.pst_token.specs.Parts.{Part, blank, comment, lexeme, bytes_of, text_of, MayStand, IsNarrow, Stand, BeginsWith}
use Rattle.pst_token.specs.Tokens.{BeginsNothing, Ending, complete, bad, wide, EndsAs, IsReading}
use Rattle.pst_token.specs.Next.{next}
use Rattle.pst_token.proofs.Fronts.{front_within}
use Rattle.pst_token.proofs.Bytes.{is_mark}
use Rattle.pst_token.proofs.LexemeLemmas.{is_run, lexeme_shape}
use Rattle.pst_token.proofs.Fits.{Fits}
use Rattle.pst_token.proofs.NextFinds.{next_finds}
use Rattle.pst_token.proofs.NextStands.{next_fits}

-- where `next` finds nothing, nothing begins
pub nothing_begins : (text : List ℕ) → next text ≡ None → BeginsNothing text
nothing_begins text none part rest e stands =
    let found : next text ≡ Some part = ap next e ∙ next_finds part rest stands in
    cc

-- one part may stand at the front of a text, and so one rest is left
pub one_part : (p q : Part) (r s : List ℕ) → MayStand p r → MayStand q s → bytes_of p ++ r ≡ bytes_of q ++ s → (p ≡ q) × (r ≡ s)
one_part p q r s p_stands q_stands e =
    let same : p ≡ q = let both : Some p ≡ Some q = sym (next_finds p r p_stands) ∙ ap next e ∙ next_finds q s q_stands in cc in
    (same, append_cancel_left (bytes_of p) r s (e ∙ ap (λ part. bytes_of part ++ s) (sym same)))

-- the longer front goes on where the shorter one ends
pub record GoesOn (parts : List Part) (rest : List ℕ) (others : List Part) (after : List ℕ) : Type 0 where
  pub more : List Part
  pub longer : others ≡ parts ++ more
  pub front : BeginsWith rest more after

pub fronts_agree : (text : List ℕ) (ps qs : List Part) (r s : List ℕ) → BeginsWith text ps r → BeginsWith text qs s → GoesOn ps r qs s ⊎ GoesOn qs s ps r
fronts_agree text [] qs r s p_front q_front = inl (record { more = qs; longer = refl; front = record { made = sym p_front.made ∙ q_front.made; stand = q_front.stand } })
fronts_agree text (p ∷ ps) [] r s p_front q_front = inr (record { more = p ∷ ps; longer = refl; front = record { made = sym q_front.made ∙ p_front.made; stand = p_front.stand } })
fronts_agree text (p ∷ ps) (q ∷ qs) r s p_front q_front =
    let whole : bytes_of p ++ (text_of ps ++ r) ≡ bytes_of q ++ (text_of qs ++ s) =
    sym (append_assoc (bytes_of p) (text_of ps) r) ∙ sym p_front.made ∙ q_front.made ∙ append_assoc (bytes_of q) (text_of qs) s in
    let (same, rests) = one_part p q (text_of ps ++ r) (text_of qs ++ s) p_front.stand.0 q_front.stand.0 whole in
    elim (fronts_agree (text_of ps ++ r) ps qs r s (record { made = refl; stand = p_front.stand.2 }) (record { made = rests; stand = q_front.stand.2 })) [
      | inl on ↦ inl (record { more = on.more; longer = ap (λ part. part ∷ qs) (sym same) ∙ ap (λ others. p ∷ others) on.longer; front = on.front })
      | inr on ↦ inr (record { more = on.more; longer = ap (λ part. part ∷ ps) same ∙ ap (λ others. q ∷ others) on.longer; front = on.front })
    ]

-- a part has a byte at least
pub some_bytes : (p : Part) (rest : List ℕ) → MayStand p rest → bytes_of p ≢ []
some_bytes (blank b) rest stands nothing = cc
some_bytes (comment bytes) rest (inl (text, made, _, _)) nothing = let both : [] ≡ 47 ∷ 47 ∷ text = sym nothing ∙ made in cc
some_bytes (comment bytes) rest (inr block) nothing = let both : [] ≡ 47 ∷ 42 ∷ (block.closed.0 ++ 42 ∷ 47 ∷ []) = sym nothing ∙ block.closed.1 in cc
some_bytes (lexeme l) rest whole nothing =
    elim (lexeme_shape l whole.spells) [
      | inl run ↦ let none : false ≡ true = ap is_run (sym nothing) ∙ run in cc
      | inr mark ↦ let none : false ≡ true = ap is_mark (sym nothing) ∙ mark in cc
    ]

nothing_before : (a b : List ℕ) → [] ≡ a ++ b → a ≡ []
nothing_before [] b e = refl
nothing_before (x ∷ a) b e = cc

-- where a text ends, or has a fault, no further part begins
pub no_more : (ending : Ending) (rest : List ℕ) (parts : List Part) (after : List ℕ) → EndsAs ending rest → BeginsWith rest parts after → parts ≡ []
no_more ending rest [] after ends front = refl
no_more complete rest (p ∷ parts) after ends front =
    absurd (some_bytes p (text_of parts ++ after) front.stand.0 (nothing_before (bytes_of p) (text_of parts ++ after) (sym ends ∙ front.made ∙ append_assoc (bytes_of p) (text_of parts) after)))
no_more bad rest (p ∷ parts) after ends front = absurd (ends.1 p (text_of parts ++ after) (front.made ∙ append_assoc (bytes_of p) (text_of parts) after) front.stand.0)
no_more wide rest (p ∷ parts) after (bytes, value, behind, split, stands, above) front =
    let (same, _) = one_part p (lexeme (number bytes value)) (text_of parts ++ after) behind front.stand.0 stands (sym (append_assoc (bytes_of p) (text_of parts) after) ∙ sym front.made ∙ split) in
    let narrow : value < 2 ^ 63 = subst IsNarrow same front.stand.1 in
    absurd (omega arith)

-- a text ends in one way
one_ending : (d e : Ending) (rest : List ℕ) → EndsAs d rest → EndsAs e rest → d ≡ e
one_ending complete complete rest h k = refl
one_ending complete bad rest h k = absurd (k.0 h)
one_ending complete wide rest h (bytes, value, after, split, stands, _) =
    absurd (some_bytes (lexeme (number bytes value)) after stands (nothing_before bytes after (sym h ∙ split)))
one_ending bad complete rest h k = absurd (h.0 k)
one_ending bad bad rest h k = refl
one_ending bad wide rest h (bytes, value, after, split, stands, _) = absurd (h.1 (lexeme (number bytes value)) after split stands)
one_ending wide complete rest (bytes, value, after, split, stands, _) k =
    absurd (some_bytes (lexeme (number bytes value)) after stands (nothing_before bytes after (sym k ∙ split)))
one_ending wide bad rest (bytes, value, after, split, stands, _) k = absurd (k.1 (lexeme (number bytes value)) after split stands)
one_ending wide wide rest h k = refl

-- a front goes no further than a reading
pub within_reading : (text : List ℕ) (ps qs : List Part) (r s : List ℕ) (ending : Ending) → IsReading text ps r ending → BeginsWith text qs s → GoesOn qs s ps r
within_reading text ps qs r s ending reading front =
    elim (fronts_agree text ps qs r s reading.front front) [
      | inl on ↦
          let none : on.more ≡ [] = no_more ending r on.more s reading.ends on.front in
          let same : qs ≡ ps = on.longer ∙ ap (λ more. ps ++ more) none ∙ append-nil ps in
          let rests : r ≡ s = on.front.made ∙ ap (λ more. text_of more ++ s) none in
          record { more = []; longer = sym same ∙ sym (append-nil qs); front = record { made = sym rests; stand = tt } }
      | inr on ↦ on
    ]

pub one_reading : (text : List ℕ) (ps qs : List Part) (r s : List ℕ) (d e : Ending) → IsReading text ps r d → IsReading text qs s e → (ps ≡ qs) × (r ≡ s) × (d ≡ e)
one_reading text ps qs r s d e first second =
    let on = within_reading text ps qs r s d first second.front in
    let none : on.more ≡ [] = no_more e s on.more r second.ends on.front in
    let same : ps ≡ qs = on.longer ∙ ap (λ more. qs ++ more) none ∙ append-nil qs in
    let rests : s ≡ r = on.front.made ∙ ap (λ more. text_of more ++ r) none in
    (same, sym rests, one_ending d e r first.ends (subst (EndsAs e) rests second.ends))

some_length : (bytes : List ℕ) → bytes ≢ [] → 0 < length bytes
some_length [] some = absurd (some refl)
some_length (b ∷ bytes) some = omega arith

-- each text has a reading
pub record HasReading (text : List ℕ) : Type 0 where
  pub parts : List Part
  pub rest : List ℕ
  pub ending : Ending
  pub reading : IsReading text parts rest ending

wide_or_narrow : (p : Part) → IsNarrow p ⊎ ((bytes : List ℕ) × (value : ℕ) × (p ≡ lexeme (number bytes value)) × (2 ^ 63 ≤ value))
wide_or_narrow (blank b) = inl tt
wide_or_narrow (comment bytes) = inl tt
wide_or_narrow (lexeme (fixed k)) = inl tt
wide_or_narrow (lexeme (name bytes)) = inl tt
wide_or_narrow (lexeme (number bytes value)) =
    elim (cases_lt value (2 ^ 63)) [
      | inl below ↦ inl below
      | inr above ↦ inr (bytes, value, refl, above)
    ]

-- one part more in front
one_more : (text : List ℕ) (p : Part) (fits : Fits text p) → IsNarrow p → HasReading fits.rest → HasReading text
one_more text p fits narrow later = record {
  parts = p ∷ later.parts;
  rest = later.rest;
  ending = later.ending;
  reading = record {
    front = record {
      made = fits.split ∙ ap (λ r. bytes_of p ++ r) later.reading.front.made ∙ sym (append_assoc (bytes_of p) (text_of later.parts) later.rest);
      stand = (subst (MayStand p) later.reading.front.made fits.stands, narrow, later.reading.front.stand);
    };
    ends = later.reading.ends;
  };
}

reading_within : (n : ℕ) (text : List ℕ) → length text ≤ n → HasReading text
reading_within n [] l = record { parts = []; rest = []; ending = complete; reading = record { front = record { made = refl; stand = tt }; ends = refl } }
reading_within zero (b ∷ bytes) l = absurd (omega arith)
reading_within (suc n) (b ∷ bytes) l = by_next (next (b ∷ bytes)) refl (reading_within n)
  where
    by_next : (o : Option Part) → next (b ∷ bytes) ≡ o → ((t : List ℕ) → length t ≤ n → HasReading t) → HasReading (b ∷ bytes)
    by_next None none later = record { parts = []; rest = b ∷ bytes; ending = bad; reading = record { front = record { made = refl; stand = tt }; ends = ((λ nothing. cc), nothing_begins (b ∷ bytes) none) } }
    by_next (Some p) found later =
        let fits = next_fits (b ∷ bytes) p found in
        elim (wide_or_narrow p) [
          | inl narrow ↦
              let lengths : length (b ∷ bytes) ≡ length (bytes_of p) + length fits.rest = ap length fits.split ∙ length-append (bytes_of p) fits.rest in
              let some : 0 < length (bytes_of p) = some_length (bytes_of p) (some_bytes p fits.rest fits.stands) in
              one_more (b ∷ bytes) p fits narrow (later fits.rest (omega arith))
          | inr (number_bytes, value, is, above) ↦ record {
            parts = [];
            rest = b ∷ bytes;
            ending = wide;
            reading = record {
              front = record { made = refl; stand = tt };
              ends = (number_bytes, value, fits.rest, fits.split ∙ ap (λ part. bytes_of part ++ fits.rest) is, subst (λ part. MayStand part fits.rest) is fits.stands, above);
            };
          }
        ]

pub each_reading : (text : List ℕ) → HasReading text
each_reading text = reading_within (length text) text (omega arith)
