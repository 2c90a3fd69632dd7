-- The place behind the bytes of a text.
use Rattle.std.proofs.Common.{◌≡◌, ℕ, ◌+◌, ◌<◌, ◌≤◌, Bool, true, false, cond, List, [], ◌∷◌, ◌++◌, length, take, get_or, refl, ap, sym, subst, ◌∙◌, arith, append_assoc}
use Rattle.std.proofs.lemmas.List.{take_more}
use Rattle.std.proofs.Math.Seq.{take-length}
use Rattle.pst_base.specs.declared.position.Place.{Place}
use Rattle.pst_token.specs.Parts.{is_line_feed}
use Rattle.pst_token.specs.Tokens.{place_after}
use Rattle.pst_token.specs.Order.{after_byte}
use Rattle.pst_token.proofs.Places.{place_after-push}

-- so many bytes of the text are behind the place
pub record Follows (start : Place) (bytes : List ℕ) (i : ℕ) (place : Place) : Type 0 where
  pub line : place.line ≤ start.line + i
  pub column : place.column ≤ start.column + i
  pub behind : (file : ℕ) (before : List ℕ) → start ≡ place_after file before → place ≡ place_after file (before ++ take i bytes)

line_step : (t : Bool) (line start i : ℕ) → line ≤ start + i → line + cond t 1 0 ≤ start + (i + 1)
line_step true line start i h = omega arith
line_step false line start i h = omega arith

column_step : (t : Bool) (column start i : ℕ) → column ≤ start + i → cond t 1 (column + 1) ≤ start + (i + 1)
column_step true column start i h = omega arith
column_step false column start i h = omega arith

pub follows_more : (start : Place) (bytes : List ℕ) (i : ℕ) (place next : Place) → i < length bytes → Follows start bytes i place → next ≡ after_byte place (get_or bytes i 0) → Follows start bytes (i + 1) next
follows_more start bytes i place next within h is =
    let b : ℕ = get_or bytes i 0 in
    let lines : next.line ≡ place.line + cond (is_line_feed b) 1 0 = ap (λ (p : Place). p.line) is in
    let columns : next.column ≡ cond (is_line_feed b) 1 (place.column + 1) = ap (λ (p : Place). p.column) is in
    let line_bound = line_step (is_line_feed b) place.line start.line i h.line in
    let column_bound = column_step (is_line_feed b) place.column start.column i h.column in
    record {
      line = omega arith;
      column = omega arith;
      behind = λ file before starts.
          is ∙ ap (λ p. after_byte p b) (h.behind file before starts) ∙ sym (place_after-push file (before ++ take i bytes) b)
          ∙ ap (place_after file) (append_assoc before (take i bytes) (b ∷ []) ∙ ap (λ bs. before ++ bs) (sym (take_more bytes i 0 within)));
    }

pub follows_all : (start : Place) (bytes : List ℕ) (i : ℕ) (place : Place) → i ≤ length bytes → length bytes ≤ i → Follows start bytes i place
    → (file : ℕ) (before : List ℕ) → start ≡ place_after file before → place ≡ place_after file (before ++ bytes)
follows_all start bytes i place within all h file before starts =
    let last : i ≡ length bytes = omega arith in
    h.behind file before starts ∙ ap (λ n. place_after file (before ++ take n bytes)) last ∙ ap (λ bs. place_after file (before ++ bs)) (take-length bytes)
