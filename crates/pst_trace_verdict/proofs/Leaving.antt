-- Where a text leaves lines.
use Rattle.std.proofs.Common.{◌≡◌, ◌<◌, ◌≤◌, ◌+◌, ℕ, zero, suc, List, [], ◌∷◌, ◌++◌, length, take, drop, refl, sym, ap, subst, ◌∙◌, append_assoc, append-nil, inl, inr, ◌⊎◌, arith}
use Rattle.std.specs.Prelude.{get_or, map, Some, None, slice_get}
use Rattle.std.specs.List.{flat_map}
use Rattle.std.proofs.lemmas.List.{take_more, take_all, drop_all, append_cancel_left, length-map}
use Rattle.std.proofs.lemmas.Grind.{flat_map-append}
use Rattle.pst_trace_texts.specs.Lines.{line}
use Rattle.pst_trace_verdict.specs.Verdicts.{GoesElsewhere, LeavesAt}

-- the text begins with so many lines and goes on with the rest
pub record GoesOn (text : List ℕ) (lines : List (List ℕ)) (at : ℕ) (rest : List ℕ) : Type 0 where
  pub begins : text ≡ flat_map line (take at lines) ++ rest

pub goes_first : (text : List ℕ) (lines : List (List ℕ)) → GoesOn text lines 0 text
goes_first text lines = record { begins = refl }

-- the lines from one on
drop_at : (lines : List (List ℕ)) (at : ℕ) → at < length lines → drop at lines ≡ get_or lines at [] ∷ drop (suc at) lines
drop_at [] at below = absurd (omega (arith, below))
drop_at (l ∷ lines) zero below = refl
drop_at (l ∷ lines) (suc at) below = drop_at lines at (omega (arith, below))

pub goes_next : (text : List ℕ) (lines : List (List ℕ)) (at : ℕ) (rest behind : List ℕ) → at < length lines → GoesOn text lines at rest → rest ≡ line (get_or lines at []) ++ behind → GoesOn text lines (at + 1) behind
goes_next text lines at rest behind below g is = record {
  begins = g.begins ∙ ap (λ (t : List ℕ). flat_map line (take at lines) ++ t) (is ∙ ap (λ (t : List ℕ). t ++ behind) (sym (append-nil (line (get_or lines at [])))))
      ∙ sym (append_assoc (flat_map line (take at lines)) (flat_map line (get_or lines at [] ∷ [])) behind)
      ∙ ap (λ (t : List ℕ). t ++ behind) (sym (flat_map-append line (take at lines) (get_or lines at [] ∷ [])) ∙ ap (λ (ls : List (List ℕ)). flat_map line ls) (sym (take_more lines at [] below)));
}

pub leaves_here : (text : List ℕ) (lines : List (List ℕ)) (at : ℕ) (rest : List ℕ) → at < length lines → GoesOn text lines at rest → ((behind : List ℕ) → rest ≡ line (get_or lines at []) ++ behind → ⊥) → LeavesAt text lines at
leaves_here text lines at rest below g other = record {
  rest = rest;
  inside = omega (arith, below);
  begins = g.begins;
  leaves = subst (λ (ls : List (List ℕ)). GoesElsewhere rest ls) (sym (drop_at lines at below)) other;
}

pub leaves_behind : (text : List ℕ) (lines : List (List ℕ)) (rest : List ℕ) → GoesOn text lines (length lines) rest → (rest ≡ [] → ⊥) → LeavesAt text lines (length lines)
leaves_behind text lines rest g some = record {
  rest = rest;
  inside = omega arith;
  begins = g.begins;
  leaves = subst (λ (ls : List (List ℕ)). GoesElsewhere rest ls) (sym (drop_all (length lines) lines (omega arith))) some;
}

pub all_lines : (text : List ℕ) (lines : List (List ℕ)) (rest : List ℕ) → GoesOn text lines (length lines) rest → rest ≡ [] → text ≡ flat_map line lines
all_lines text lines rest g none =
    g.begins ∙ ap (λ (t : List ℕ). flat_map line (take (length lines) lines) ++ t) none ∙ append-nil (flat_map line (take (length lines) lines))
    ∙ ap (λ (ls : List (List ℕ)). flat_map line ls) (take_all (length lines) lines (omega arith))

-- ---- one place

order : (a b : ℕ) → (a < b) ⊎ ((a ≡ b) ⊎ (b < a))
order zero zero = inr (inl refl)
order zero (suc b) = inl (omega arith)
order (suc a) zero = inr (inr (omega arith))
order (suc a) (suc b) = by (order a b)
  where
    by : (a < b) ⊎ ((a ≡ b) ⊎ (b < a)) → (suc a < suc b) ⊎ ((suc a ≡ suc b) ⊎ (suc b < suc a))
    by (inl less) = inl (omega (arith, less))
    by (inr (inl same)) = inr (inl (omega (arith, same)))
    by (inr (inr more)) = inr (inr (omega (arith, more)))

-- what begins with lines begins with fewer of them, and goes on with the next
goes_with : (lines : List (List ℕ)) (text one : List ℕ) (a : ℕ) (more : List ℕ) → a < length lines → text ≡ flat_map line (take a lines) ++ one → (b : ℕ) → a < b → b ≤ length lines
    → text ≡ flat_map line (take b lines) ++ more → (behind : List ℕ) × (one ≡ line (get_or lines a []) ++ behind)
goes_with [] text one a more below here b less inside there = absurd (omega (arith, below))
goes_with (l ∷ lines) text one zero more below here zero less inside there = absurd (omega (arith, less))
goes_with (l ∷ lines) text one zero more below here (suc b) less inside there =
    (flat_map line (take b lines) ++ more, sym here ∙ there ∙ append_assoc (line l) (flat_map line (take b lines)) more)
goes_with (l ∷ lines) text one (suc a) more below here zero less inside there = absurd (omega (arith, less))
goes_with (l ∷ lines) text one (suc a) more below here (suc b) less inside there =
    goes_with lines (flat_map line (take a lines) ++ one) one a more (omega (arith, below)) refl b (omega (arith, less)) (omega (arith, inside))
    (append_cancel_left (line l) (flat_map line (take a lines) ++ one) (flat_map line (take b lines) ++ more)
    (sym (append_assoc (line l) (flat_map line (take a lines)) one) ∙ sym here ∙ there ∙ append_assoc (line l) (flat_map line (take b lines)) more))

not_later : (text : List ℕ) (lines : List (List ℕ)) (a b : ℕ) → LeavesAt text lines a → LeavesAt text lines b → a < b → ⊥
not_later text lines a b one other less =
    let inside : b ≤ length lines = other.inside in
    let below : a < length lines = omega (arith, less, inside) in
    let (behind, is) = goes_with lines text one.rest a other.rest below one.begins b less inside other.begins in
    let leaves : GoesElsewhere one.rest (get_or lines a [] ∷ drop (suc a) lines) = subst (λ (ls : List (List ℕ)). GoesElsewhere one.rest ls) (drop_at lines a below) one.leaves in
    leaves behind is

pub leaves_once : (text : List ℕ) (lines : List (List ℕ)) (a b : ℕ) → LeavesAt text lines a → LeavesAt text lines b → a ≡ b
leaves_once text lines a b one other = by (order a b)
  where
    by : (a < b) ⊎ ((a ≡ b) ⊎ (b < a)) → a ≡ b
    by (inl less) = absurd (not_later text lines a b one other less)
    by (inr (inl same)) = same
    by (inr (inr more)) = absurd (not_later text lines b a other one more)

-- a text that is just the lines leaves them nowhere
pub never_leaves : (text : List ℕ) (lines : List (List ℕ)) (a : ℕ) → text ≡ flat_map line lines → LeavesAt text lines a → ⊥
never_leaves text lines a is one = by (order a (length lines))
  where
    whole : text ≡ flat_map line (take (length lines) lines) ++ []
    whole = is ∙ ap (λ (ls : List (List ℕ)). flat_map line ls) (sym (take_all (length lines) lines (omega arith))) ∙ sym (append-nil (flat_map line (take (length lines) lines)))

    by : (a < length lines) ⊎ ((a ≡ length lines) ⊎ (length lines < a)) → ⊥
    by (inl less) =
        let (behind, goes) = goes_with lines text one.rest a [] less one.begins (length lines) less (omega arith) whole in
        let leaves : GoesElsewhere one.rest (get_or lines a [] ∷ drop (suc a) lines) = subst (λ (ls : List (List ℕ)). GoesElsewhere one.rest ls) (drop_at lines a less) one.leaves in
        leaves behind goes
    by (inr (inl same)) =
        let leaves : one.rest ≡ [] → ⊥ = subst (λ (ls : List (List ℕ)). GoesElsewhere one.rest ls) (drop_all a lines (omega (arith, same))) one.leaves in
        leaves (append_cancel_left (flat_map line (take (length lines) lines)) one.rest [] (ap (λ n. flat_map line (take n lines) ++ one.rest) (sym same) ∙ sym one.begins ∙ whole))
    by (inr (inr more)) = let inside = one.inside in absurd (omega (arith, inside, more))

-- the line of that number
pub at_line : {X : Type 0} (text : X → List ℕ) (xs : List X) (at : ℕ) (x : X) → slice_get xs at ≡ Some x → get_or (map text xs) at [] ≡ text x
at_line text [] at x is = let never : None ≡ Some x = is in absurd cc
at_line text (y ∷ xs) zero x is = let same : y ≡ x = some_inj is in ap text same
  where
    some_inj : Some y ≡ Some x → y ≡ x
    some_inj is = cc
at_line text (y ∷ xs) (suc at) x is = at_line text xs at x is

pub inside_map : {X : Type 0} (text : X → List ℕ) (xs : List X) (at : ℕ) → at < length xs → at < length (map text xs)
inside_map text xs at below = subst (λ (n : ℕ). at < n) (sym (length-map xs text)) below
