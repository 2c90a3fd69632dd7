-- A comment that begins with `//`, whatever follows.
use Rattle.std.proofs.Common.{◌≡◌, ℕ, zero, suc, ◌<◌, ◌≤◌, Bool, true, false, not, List, [], ◌∷◌, ◌++◌, Some, length, take, drop, codes, nat_eq, refl, ap, sym, subst, ◌∙◌, arith, inl}
use Rattle.std.specs.List.{list_all, starts_with}
use Rattle.pst_token.specs.Parts.{comment, is_line_feed, GoesOnWith, IsLineComment}
use Rattle.pst_token.specs.Next.{next}
use Rattle.pst_token.proofs.Closed.{starts_two}
use Rattle.pst_token.proofs.NextFinds.{next_finds}
use Rattle.pst_lexer.specs.Finding.{MayFollow, Begins}
use Rattle.pst_lexer.proofs.Follows.{ends_follow, cut}

-- the front of a text, up to where its first line ends
pub record IsLine (text : List ℕ) (is_last : Bool) (len : ℕ) : Type 0 where
  pub begins : starts_with nat_eq text (codes "//") ≡ true
  pub within : len ≤ length text
  pub all : list_all (λ b. not (is_line_feed b)) (take len text) ≡ true
  pub ends : GoesOnWith is_line_feed (drop len text)
  pub settled : len ≡ length text → is_last ≡ true

-- it begins with `//`
pub record Slashes (text : List ℕ) (len : ℕ) : Type 0 where
  pub inner : List ℕ
  pub split : take len text ≡ codes "//" ++ inner
  pub some : 0 < len

slashes : (after : List ℕ) (len : ℕ) → GoesOnWith is_line_feed (drop len (47 ∷ 47 ∷ after)) → Slashes (47 ∷ 47 ∷ after) len
slashes after zero ends = cc
slashes after (suc zero) ends = cc
slashes after (suc (suc len)) ends = record { inner = take len after; split = refl; some = omega arith }

inner_all : (inner : List ℕ) → list_all (λ b. not (is_line_feed b)) (codes "//" ++ inner) ≡ true → list_all (λ b. not (is_line_feed b)) inner ≡ true
inner_all inner h = h

pub line_begins : (text : List ℕ) (is_last : Bool) (len : ℕ) → IsLine text is_last len → Begins text is_last len (comment (take len text))
line_begins text is_last len line =
    let (after, is) = starts_two 47 47 text line.begins in
    let two : Slashes text len = subst (λ t. Slashes t len) (sym is) (slashes after len (subst (λ t. GoesOnWith is_line_feed (drop len t)) is line.ends)) in
    record {
      some = two.some;
      within = line.within;
      bytes = refl;
      found = λ more may.
          ap next (cut text more len)
          ∙ next_finds (comment (take len text)) (drop len text ++ more)
          (inl (two.inner, two.split, inner_all two.inner (ap (list_all (λ b. not (is_line_feed b))) (sym two.split) ∙ line.all), ends_follow is_line_feed text is_last len line.within line.ends line.settled more may));
    }
