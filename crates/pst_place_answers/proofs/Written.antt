-- The line of one more ask.
use Rattle.std.proofs.Common.{◌≡◌, ◌∙◌, ℕ, suc, ◌+◌, ◌<◌, List, ◌∷◌, ◌++◌, length, get_or, drop, ap, sym, add-one, append_assoc, drop-cons}
use Rattle.pst_trace_texts.specs.Lines.{each_from}

pub each_more : {X : Type 0} (text : ℕ → X → List ℕ) (items : List X) (at : ℕ) (item : X) (old new whole : List ℕ) → at < length items
    → item ≡ get_or items at item
    → new ≡ old ++ text at item
    → old ++ each_from text at (drop at items) ≡ whole
    → new ++ each_from text (at + 1) (drop (at + 1) items) ≡ whole
each_more {X = X} text items at item old new whole below is written so_far =
    let split : drop at items ≡ item ∷ drop (at + 1) items = rw add-one (drop-cons items at item below ∙ ap (λ (x : X). x ∷ drop (suc at) items) (sym is)) in
    ap (λ (t : List ℕ). t ++ each_from text (at + 1) (drop (at + 1) items)) written
    ∙ append_assoc old (text at item) (each_from text (at + 1) (drop (at + 1) items))
    ∙ ap (λ (rest : List X). old ++ each_from text at rest) (sym split)
    ∙ so_far

-- two texts in turn
pub two : (old middle new a b : List ℕ) → middle ≡ old ++ a → new ≡ middle ++ b → new ≡ old ++ (a ++ b)
two old middle new a b first second = second ∙ ap (λ (t : List ℕ). t ++ b) first ∙ append_assoc old a b
