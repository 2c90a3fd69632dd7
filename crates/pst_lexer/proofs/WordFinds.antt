-- What the letters, digits and `_` at the front of a text are, whatever follows.
use Rattle.std.proofs.Common.{◌≡◌, ℕ, zero, suc, ◌<◌, ◌≤◌, Bool, true, false, not, ◌&&◌, List, [], ◌∷◌, ◌++◌, Option, Some, None, length, take, drop, slice_index, refl, ap, sym, subst, ◌∙◌, arith, length-take-le}
use Rattle.std.proofs.lemmas.Bool.{both_ways, not-true}
use Rattle.std.specs.List.{list_all}
use Rattle.pst_token.specs.Lexemes.{fixed, name, number, is_word_byte}
use Rattle.pst_token.specs.Parts.{Part, lexeme, bytes_of, GoesOnWith}
use Rattle.pst_token.specs.Next.{next, word_part}
use Rattle.pst_token.proofs.LexemeLemmas.{is_run}
use Rattle.pst_token.proofs.NextFinds.{next-run}
use Rattle.pst_lexer.specs.declared.find.Found.{Found}
use Rattle.pst_lexer.specs.declared.find.Found.TheVariants as found
use Rattle.pst_lexer.specs.Finding.{MayFollow, Begins, Tells, TellsWord, is_open}
use Rattle.pst_lexer.proofs.Follows.{ends_follow, cut}

-- the front of a text, up to where its run ends
pub record IsRun (text : List ℕ) (is_last : Bool) (len : ℕ) : Type 0 where
  pub begins : is_word_byte (slice_index text 0) ≡ true
  pub within : len ≤ length text
  pub all : list_all is_word_byte (take len text) ≡ true
  pub ends : GoesOnWith (λ b. not (is_word_byte b)) (drop len text)
  pub settled : len ≡ length text → is_last ≡ true

-- it has a byte at least
run_some : (text : List ℕ) (len : ℕ) → is_word_byte (slice_index text 0) ≡ true → GoesOnWith (λ b. not (is_word_byte b)) (drop len text) → 0 < len
run_some [] len begins ends = cc
run_some (b ∷ text) zero begins ends = absurd (both_ways (is_word_byte b) (not-true (is_word_byte b) ends) begins)
run_some (b ∷ text) (suc len) begins ends = omega arith

run_is : (text : List ℕ) (len : ℕ) → 0 < len → len ≤ length text → list_all is_word_byte (take len text) ≡ true → is_run (take len text) ≡ true
run_is text zero some within all = absurd (omega arith)
run_is [] (suc len) some within all = absurd (omega arith)
run_is (b ∷ text) (suc len) some within all = all

-- it decides what begins the text
run_next : (text : List ℕ) (is_last : Bool) (len : ℕ) → IsRun text is_last len → (more : List ℕ) → MayFollow is_last more → next (text ++ more) ≡ word_part (take len text)
run_next text is_last len run more may =
    ap next (cut text more len)
    ∙ next-run (take len text) (drop len text ++ more)
    (run_is text len (run_some text len run.begins run.ends) run.within run.all)
    (ends_follow (λ b. not (is_word_byte b)) text is_last len run.within run.ends run.settled more may)

begins_run : (text : List ℕ) (is_last : Bool) (len : ℕ) (part : Part) → IsRun text is_last len → bytes_of part ≡ take len text → word_part (take len text) ≡ Some part → Begins text is_last len part
begins_run text is_last len part run bytes is = record {
  some = run_some text len run.begins run.ends;
  within = run.within;
  bytes = bytes;
  found = λ more may. run_next text is_last len run more may ∙ is;
}

pub run_tells : (text : List ℕ) (is_last : Bool) (len : ℕ) (r : Found) → IsRun text is_last len → TellsWord (take len text) r → Tells text is_last r
run_tells text is_last len found.Nothing run h = λ more may. run_next text is_last len run more may ∙ h
run_tells text is_last len (found.Fixed k l) run (all, spells, is) =
    subst (λ m. Begins text is_last m (lexeme (fixed k))) (sym (all ∙ length-take-le len text run.within)) (begins_run text is_last len (lexeme (fixed k)) run spells is)
run_tells text is_last len (found.Name l) run (all, is) =
    subst (λ m. Begins text is_last m (lexeme (name (take m text)))) (sym (all ∙ length-take-le len text run.within)) (begins_run text is_last len (lexeme (name (take len text))) run refl is)
run_tells text is_last len (found.Number value l) run (n, same, below, all, is) =
    (n, same, below, subst (λ m. Begins text is_last m (lexeme (number (take m text) n))) (sym (all ∙ length-take-le len text run.within)) (begins_run text is_last len (lexeme (number (take len text) n)) run refl is))
run_tells text is_last len found.Wide run (n, above, is) = (n, len, above, begins_run text is_last len (lexeme (number (take len text) n)) run refl is)
run_tells text is_last len (found.Open seen) run h = absurd h
run_tells text is_last len (found.Gap l) run h = absurd h
