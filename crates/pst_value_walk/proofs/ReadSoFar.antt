-- What a walk's choices read.
use Rattle.std.proofs.Common.{◌≡◌, ℕ, zero, suc, ◌+◌, List, [], ◌∷◌, ◌++◌, length, drop, Bool, true, false, nat_lt, if◌then◌else◌, Option, Some, None, refl, sym, ap, ◌∙◌, subst, arith, append_assoc, length-append}
use Rattle.std.specs.Prelude.{slice_get}
use Rattle.std.proofs.lemmas.Bool.{lt-ltb}
use Rattle.std.proofs.lemmas.Option.{none-some, same_Some}
use Rattle.std.proofs.lemmas.List.{append-nil}
use Rattle.pst_rng.specs.Words.{start_of}
use Rattle.pst_model.specs.ModelTree.{ModelTree}
use Rattle.pst_scen.specs.declared.scenario.Scenario.{Scenario}
use Rattle.pst_legal.specs.Blanks.{Blank, options, claim_blanks, value_blanks}
use Rattle.pst_legal.specs.Reading.{Reading, Wants, Stops, Reader, then_read, option_at}
use Rattle.pst_legal.specs.ValueReading.{Answer, Options, Dead, Whole, answer_of, with_option, with_firsts, read_blanks, read_values}
use Rattle.pst_blanks.specs.Blanks.{all_blanks}
use Rattle.pst_value_walk.specs.Walks.{next_of, IfRead, HasDigit}
use Rattle.pst_value_walk.specs.Choices.{digits_of, cleared_at, before, IsChoice, AreChoices, HasOption, shown_by}

pub length-digits_of : (made : List ℕ) → length (digits_of made) ≡ length made
length-digits_of [] = refl
length-digits_of (x ∷ made) = let e = length-digits_of made in let w = length-append (digits_of made) (x ∷ []) in omega arith

then_if : (b : Bool) (r : Reading) (go : Reader) → then_read (if b then r else Stops) go ≡ (if b then then_read r go else Stops)
then_if true r go = refl
then_if false r go = refl

module _ (m : ModelTree) (seed : ℕ) where
  -- blanks behind blanks
  blanks_join : (xs ys : List Blank) (s : Scenario) (p : ℕ) (left : List ℕ) → then_read (read_blanks m seed xs s p left) (read_blanks m seed ys) ≡ read_blanks m seed (xs ++ ys) s p left
  blanks_join [] ys s p left = refl
  blanks_join (x ∷ xs) ys s p [] = then_if (nat_lt 0 (options m s.actions x)) (Wants s (options m s.actions x)) (read_blanks m seed ys)
  blanks_join (x ∷ xs) ys s p (d ∷ left) =
      let n = options m s.actions x in
      let t = with_option m (option_at (start_of seed p n) n d) x s in
      then_if (nat_lt d n) (read_blanks m seed xs t (p + 1) left) (read_blanks m seed ys)
      ∙ ap (λ r. if nat_lt d n then r else Stops) (blanks_join xs ys t (p + 1) left)

  -- claims and values are all blanks
  all_read : (linked begun : Scenario) (blanks : List Blank) (place : ℕ) (ds : List ℕ) → begun ≡ with_firsts m linked → blanks ≡ all_blanks m linked.actions → read_values m seed linked place ds ≡ read_blanks m seed blanks begun place ds
  all_read linked begun blanks place ds e f =
      blanks_join (claim_blanks m linked.actions) (value_blanks m linked.actions) (with_firsts m linked) place ds
      ∙ ap (λ s. read_blanks m seed (all_blanks m linked.actions) s place ds) (sym e)
      ∙ ap (λ l. read_blanks m seed l begun place ds) (sym f)

  drop_at : (blanks : List Blank) (n : ℕ) (b : Blank) → slice_get blanks n ≡ Some b → drop n blanks ≡ b ∷ drop (suc n) blanks
  drop_at [] n b is = absurd (none-some b is)
  drop_at (x ∷ xs) zero b is = ap (λ y. y ∷ xs) (same_Some x b is)
  drop_at (x ∷ xs) (suc n) b is = drop_at xs n b is

  drop_none : (blanks : List Blank) (n : ℕ) → slice_get blanks n ≡ None → drop n blanks ≡ []
  drop_none [] zero is = refl
  drop_none [] (suc n) is = refl
  drop_none (x ∷ xs) zero is = absurd (none-some x (sym is))
  drop_none (x ∷ xs) (suc n) is = drop_none xs n is

  -- one choice is read
  one_read : (place : ℕ) (blanks : List Blank) (n d : ℕ) (old new : Scenario) (left : List ℕ) → IsChoice m seed place blanks n d old new
      → read_blanks m seed (drop n blanks) old (place + n) (d ∷ left) ≡ read_blanks m seed (drop (suc n) blanks) new (place + suc n) left
  one_read place blanks n d old new left c =
      let k = options m old.actions c.blank in
      let next : place + n + 1 ≡ place + suc n = omega arith in
      ap (λ l. read_blanks m seed l old (place + n) (d ∷ left)) (drop_at blanks n c.blank c.is)
      ∙ ap (λ b. if b then read_blanks m seed (drop (suc n) blanks) (with_option m (option_at (start_of seed (place + n) k) k d) c.blank old) (place + n + 1) left else Stops) (lt-ltb d k c.below)
      ∙ ap (λ s. read_blanks m seed (drop (suc n) blanks) s (place + n + 1) left) (sym c.filled)
      ∙ ap (λ p. read_blanks m seed (drop (suc n) blanks) new p left) next

  -- the choices are read, and reading goes on from what they have come to
  made_read : (place : ℕ) (blanks : List Blank) (made : List ℕ) (s : Scenario) (left : List ℕ) → AreChoices m seed place blanks made s
      → read_blanks m seed blanks (before blanks made s) place (digits_of made ++ left) ≡ read_blanks m seed (drop (length made) blanks) s (place + length made) left
  made_read place blanks [] s left h = let z : place ≡ place + 0 = omega arith in ap (λ p. read_blanks m seed blanks s p left) z
  made_read place blanks (d ∷ older) s left h =
      let t = cleared_at (slice_get blanks (length older)) s in
      ap (read_blanks m seed blanks (before blanks older t) place) (append_assoc (digits_of older) (d ∷ []) left)
      ∙ made_read place blanks older t (d ∷ left) h.1
      ∙ one_read place blanks (length older) d t s left h.0

  -- ---- what stands at the end

  abbrev shown : Scenario → Option Blank → Answer
  shown s None = Whole s
  shown s (Some b) = if nat_lt 0 (options m s.actions b) then Options s (options m s.actions b) else Dead

  if_wants : (b : Bool) (s : Scenario) (n : ℕ) → answer_of (if b then Wants s n else Stops) ≡ (if b then Options s n else Dead)
  if_wants true s n = refl
  if_wants false s n = refl

  end_is : (blanks : List Blank) (n : ℕ) (s : Scenario) (p : ℕ) (o : Option Blank) → slice_get blanks n ≡ o → answer_of (read_blanks m seed (drop n blanks) s p []) ≡ shown s o
  end_is blanks n s p None is = ap (λ l. answer_of (read_blanks m seed l s p [])) (drop_none blanks n is)
  end_is blanks n s p (Some b) is = ap (λ l. answer_of (read_blanks m seed l s p [])) (drop_at blanks n b is) ∙ if_wants (nat_lt 0 (options m s.actions b)) s (options m s.actions b)

  module _ (place : ℕ) (linked : Scenario) (blanks : List Blank) (made : List ℕ) (s : Scenario)
      (begun : before blanks made s ≡ with_firsts m linked) (all : blanks ≡ all_blanks m linked.actions) (h : AreChoices m seed place blanks made s) where
    pub answer_is : answer_of (read_values m seed linked place (digits_of made)) ≡ shown s (slice_get blanks (length made))
    answer_is =
        ap answer_of (all_read linked (before blanks made s) blanks place (digits_of made) begun all)
        ∙ ap (λ ds. answer_of (read_blanks m seed blanks (before blanks made s) place ds)) (sym (append-nil (digits_of made)))
        ∙ ap answer_of (made_read place blanks made s [] h)
        ∙ end_is blanks (length made) s (place + length made) (slice_get blanks (length made)) refl

    next_shown : (o : Option Blank) → next_of (shown s o) ≡ shown_by m s o
    next_shown None = refl
    next_shown (Some b) = go (nat_lt 0 (options m s.actions b))
      where
        go : (c : Bool) → next_of (if c then Options s (options m s.actions b) else Dead) ≡ (if c then next_of (Options s (options m s.actions b)) else next_of Dead)
        go true = refl
        go false = refl

    pub next_is : next_of (answer_of (read_values m seed linked place (digits_of made))) ≡ shown_by m s (slice_get blanks (length made))
    next_is = ap next_of answer_is ∙ next_shown (slice_get blanks (length made))

    if_shown : (P : Scenario → Type 0) (o : Option Blank) → P s → IfRead (shown s o) P
    if_shown P None p = p
    if_shown P (Some b) p = go (nat_lt 0 (options m s.actions b))
      where
        go : (c : Bool) → IfRead (if c then Options s (options m s.actions b) else Dead) P
        go true = p
        go false = tt

    -- what is read so far
    pub reads_so_far : (P : Scenario → Type 0) → P s → IfRead (answer_of (read_values m seed linked place (digits_of made))) P
    reads_so_far P p = subst (λ a. IfRead a P) (sym answer_is) (if_shown P (slice_get blanks (length made)) p)

    digit_shown : (o : Option Blank) (digit : ℕ) → slice_get blanks (length made) ≡ o → HasDigit (shown s o) digit → HasOption m blanks (length made) digit s
    digit_shown None digit is d = absurd d
    digit_shown (Some b) digit is d = go (nat_lt 0 (options m s.actions b)) d
      where
        go : (c : Bool) → HasDigit (if c then Options s (options m s.actions b) else Dead) digit → HasOption m blanks (length made) digit s
        go true l = record { blank = b; is = is; below = l }
        go false l = absurd l

    -- a digit that there is names an option
    pub has_option : (digit : ℕ) → HasDigit (answer_of (read_values m seed linked place (digits_of made))) digit → HasOption m blanks (length made) digit s
    has_option digit d = digit_shown (slice_get blanks (length made)) digit refl (subst (λ a. HasDigit a digit) answer_is d)
