-- Items that are left.
use Rattle.std.proofs.Common.{◌≡◌, ◌∙◌, ℕ, suc, ◌+◌, ◌<◌, List, ◌∷◌, ◌++◌, length, get_or, drop, ap, sym, add-one, append_assoc, Bool, true, false}
use Rattle.std.specs.Prelude.{◌||◌}
use Rattle.std.proofs.Common.{drop-cons}
use Rattle.pst_trace_texts.specs.Lines.{each_from, any_from}

-- the text of one more item
pub each_more : {X : Type 0} (text : ℕ → X → List ℕ) (items : List X) (at : ℕ) (item : X) (old new whole : List ℕ) → at < length items
    → item ≡ get_or items at item
    → new ≡ old ++ text at item
    → old ++ each_from text at (drop at items) ≡ whole
    → new ++ each_from text (at + 1) (drop (at + 1) items) ≡ whole
each_more {X = X} text items at item old new whole below is written so_far =
    let split : drop at items ≡ item ∷ drop (at + 1) items = rw add-one (drop-cons items at item below ∙ ap (λ (x : X). x ∷ drop (suc at) items) (sym is)) in
    ap (λ (t : List ℕ). t ++ each_from text (at + 1) (drop (at + 1) items)) written
    ∙ append_assoc old (text at item) (each_from text (at + 1) (drop (at + 1) items))
    ∙ ap (λ (rest : List X). old ++ each_from text at rest) (sym split)
    ∙ so_far

-- an item of which it doesn't hold
pub any_more : {X : Type 0} (test : ℕ → X → Bool) (items : List X) (at : ℕ) (item : X) (whole : Bool) → at < length items
    → item ≡ get_or items at item
    → test at item ≡ false
    → any_from test at (drop at items) ≡ whole
    → any_from test (at + 1) (drop (at + 1) items) ≡ whole
any_more {X = X} test items at item whole below is fails so_far =
    let split : drop at items ≡ item ∷ drop (at + 1) items = rw add-one (drop-cons items at item below ∙ ap (λ (x : X). x ∷ drop (suc at) items) (sym is)) in
    ap (λ (b : Bool). b || any_from test (at + 1) (drop (at + 1) items)) (sym fails)
    ∙ ap (λ (rest : List X). any_from test at rest) (sym split)
    ∙ so_far

-- an item of which it holds
pub any_here : {X : Type 0} (test : ℕ → X → Bool) (items : List X) (at : ℕ) (item : X) (whole : Bool) → at < length items
    → item ≡ get_or items at item
    → test at item ≡ true
    → any_from test at (drop at items) ≡ whole
    → true ≡ whole
any_here {X = X} test items at item whole below is holds so_far =
    let split : drop at items ≡ item ∷ drop (at + 1) items = rw add-one (drop-cons items at item below ∙ ap (λ (x : X). x ∷ drop (suc at) items) (sym is)) in
    ap (λ (b : Bool). b || any_from test (at + 1) (drop (at + 1) items)) (sym holds)
    ∙ ap (λ (rest : List X). any_from test at rest) (sym split)
    ∙ so_far

-- the same of a test that looks at the number alone
pub any_more_at : {X : Type 0} (test : ℕ → X → Bool) (items : List X) (at : ℕ) (other : X) (whole : Bool) → at < length items
    → test at (get_or items at other) ≡ false
    → any_from test at (drop at items) ≡ whole
    → any_from test (at + 1) (drop (at + 1) items) ≡ whole
any_more_at {X = X} test items at other whole below fails so_far =
    let split : drop at items ≡ get_or items at other ∷ drop (at + 1) items = rw add-one (drop-cons items at other below) in
    ap (λ (b : Bool). b || any_from test (at + 1) (drop (at + 1) items)) (sym fails)
    ∙ ap (λ (rest : List X). any_from test at rest) (sym split)
    ∙ so_far

pub any_here_at : {X : Type 0} (test : ℕ → X → Bool) (items : List X) (at : ℕ) (other : X) (whole : Bool) → at < length items
    → test at (get_or items at other) ≡ true
    → any_from test at (drop at items) ≡ whole
    → true ≡ whole
any_here_at {X = X} test items at other whole below holds so_far =
    let split : drop at items ≡ get_or items at other ∷ drop (at + 1) items = rw add-one (drop-cons items at other below) in
    ap (λ (b : Bool). b || any_from test (at + 1) (drop (at + 1) items)) (sym holds)
    ∙ ap (λ (rest : List X). any_from test at rest) (sym split)
    ∙ so_far

-- two texts in turn
pub two : (old middle new a b : List ℕ) → middle ≡ old ++ a → new ≡ middle ++ b → new ≡ old ++ (a ++ b)
two old middle new a b first second = second ∙ ap (λ (t : List ℕ). t ++ b) first ∙ append_assoc old a b
