-- The comment that `next` finds may stand before what is left of the text.
use Rattle.std.proofs.Common.{◌≡◌, ℕ, suc, ◌+◌, ◌≤◌, Bool, true, false, not, ◌&&◌, List, [], ◌∷◌, ◌++◌, Option, Some, None, take, drop, length, nat_eq, codes, refl, ap, sym, subst, ◌∙◌, arith, inl, inr, length-append, take-append-drop, append_assoc}
use Rattle.std.proofs.lemmas.List.{nil_from_length}
use Rattle.std.proofs.Math.Seq.{take-append_seam}
use Rattle.std.specs.List.{list_all, take_while, prefix_len, starts_with}
use Rattle.std.specs.Option.{option_map}
use Rattle.pst_token.specs.Parts.{Part, comment, bytes_of, is_line_feed, GoesOnWith, IsLineComment, IsBlockComment, IsClosed, MayStand}
use Rattle.pst_token.specs.Next.{block_part, line_part, closed_len}
use Rattle.pst_token.proofs.Runs.{take_while-yes, list_all-take_while, ends-take_while}
use Rattle.pst_token.proofs.Closed.{starts_two, closed_reaches, closed_found}
use Rattle.pst_token.proofs.Fits.{Fits}

pub line_fits : (text : List ℕ) (part : Part) → starts_with nat_eq text (codes "//") ≡ true → line_part text ≡ Some part → Fits text part
unfolding line_part
line_fits text part starts found =
    let (after, is) = starts_two 47 47 text starts in
    let no_feed : ℕ → Bool = λ b. not (is_line_feed b) in
    let bytes : List ℕ = take_while no_feed text in
    let rest : List ℕ = drop (prefix_len no_feed text) text in
    let same : comment bytes ≡ part = cc in
    let spelled_out : bytes ≡ 47 ∷ 47 ∷ take_while no_feed after = ap (take_while no_feed) is ∙ take_while-yes no_feed 47 (47 ∷ after) refl ∙ ap (λ bs. 47 ∷ bs) (take_while-yes no_feed 47 after refl) in
    subst (Fits text) same (record {
      rest = rest;
      split = sym (take-append-drop (prefix_len no_feed text) text);
      stands = inl (take_while no_feed after, spelled_out, list_all-take_while no_feed after, ends_line rest (ends-take_while no_feed text));
    })
  where
    ends_line : (rest : List ℕ) → GoesOnWith (λ b. not (not (is_line_feed b))) rest → GoesOnWith is_line_feed rest
    ends_line [] h = tt
    ends_line (b ∷ rest) h = grind arith

abbrev comment_of : List ℕ → List ℕ
comment_of inner = codes "/*" ++ inner ++ codes "*/"

-- a comment that reaches up to the first `*/` of a text
first_closed : (inner rest : List ℕ) (n : ℕ) → closed_len ((inner ++ codes "*/") ++ rest) ≡ Some n → n ≡ length inner + 2 → IsBlockComment (comment_of inner)
first_closed inner rest n found long = record { closed = (inner, refl); first = shorter }
  where
    shorter : (front more : List ℕ) → comment_of inner ≡ front ++ more → IsClosed front → more ≡ []
    shorter front more e (other, is) =
        let whole : 47 ∷ 42 ∷ (inner ++ codes "*/") ≡ 47 ∷ 42 ∷ ((other ++ codes "*/") ++ more) = e ∙ ap (λ f. f ++ more) is in
        let inside : inner ++ codes "*/" ≡ (other ++ codes "*/") ++ more = cc in
        let all : (inner ++ codes "*/") ++ rest ≡ (other ++ codes "*/") ++ (more ++ rest) = ap (λ bs. bs ++ rest) inside ∙ append_assoc (other ++ codes "*/") more rest in
        let (m, reached, least) = closed_reaches other (more ++ rest) in
        let same : n ≡ m = let again : Some n ≡ Some m = sym found ∙ ap closed_len all ∙ reached in cc in
        let lengths : length (inner ++ codes "*/") ≡ length ((other ++ codes "*/") ++ more) = ap length inside in
        nil_from_length more (omega (arith, length-append inner (codes "*/"), length-append (other ++ codes "*/") more, length-append other (codes "*/")))

pub block_fits : (text : List ℕ) (part : Part) → starts_with nat_eq text (codes "/*") ≡ true → block_part text ≡ Some part → Fits text part
unfolding block_part
block_fits text part starts found =
    let (after, is) = starts_two 47 42 text starts in
    subst (λ t. Fits t part) (sym is) (by_len after (closed_len after) refl (ap block_part (sym is) ∙ found))
  where
    by_len : (after : List ℕ) (o : Option ℕ) → closed_len after ≡ o → option_map (λ n. comment (take (2 + n) (47 ∷ 42 ∷ after))) o ≡ Some part → Fits (47 ∷ 42 ∷ after) part
    by_len after None none e = cc
    by_len after (Some n) reached e =
        let (inner, rest, split, long) = closed_found after n reached in
        let whole : 47 ∷ 42 ∷ after ≡ comment_of inner ++ rest = ap (λ (bs : List ℕ). 47 ∷ 42 ∷ bs) split in
        let inner_length = length-append inner (codes "*/") in
        let all : 2 + n ≡ length (comment_of inner) = omega arith in
        let bytes : take (2 + n) (47 ∷ 42 ∷ after) ≡ comment_of inner = ap (take (2 + n)) whole ∙ ap (λ m. take m (comment_of inner ++ rest)) all ∙ take-append_seam (comment_of inner) rest in
        let same : comment (take (2 + n) (47 ∷ 42 ∷ after)) ≡ part = cc in
        subst (Fits (47 ∷ 42 ∷ after)) (ap comment (sym bytes) ∙ same) (record {
          rest = rest;
          split = whole;
          stands = inr (first_closed inner rest n (ap closed_len (sym split) ∙ reached) long);
        })
