-- One more word.
use Rattle.std.proofs.Common.{sym, subst, ap, ◌∙◌, ◌≡◌, ◌+◌, ℕ, List, [], ◌∷◌, ◌++◌, Bool, true, false, map, take, slice_get, Some, MatchBool}
use Rattle.std.proofs.lemmas.List.{take-map}
use Rattle.pst_words.specs.declared.command.Command.{Command}
use Rattle.pst_words.specs.Lines.{AreSeeds, AreArguments, IsRightBehind}
use Rattle.pst_words.proofs.Dropped.{taken}
use Rattle.pst_words.proofs.Fronts.{right_more, right_less}

-- the words up to one and that one
longer_is : {A : Type 0} (f : A → List ℕ) (words front : List A) (i : ℕ) (x : A) (word : List ℕ) → slice_get words i ≡ Some x → front ≡ take i words → word ≡ f x
    → take (i + 1) (map f words) ≡ map f front ++ word ∷ []
longer_is f words front i x word at front_is word_is =
    taken f words i x at ∙ ap (λ (t : List (List ℕ)). t ++ f x ∷ []) (take-map f i words ∙ ap (map f) (sym front_is)) ∙ ap (λ (w : List ℕ). map f front ++ w ∷ []) (sym word_is)

pub is_wrong : {A : Type 0} (f : A → List ℕ) (command : Command) (have : ℕ) (words front : List A) (i : ℕ) (x : A) (word : List ℕ) → slice_get words i ≡ Some x → front ≡ take i words → word ≡ f x
    → (IsRightBehind command have (map f front) word → ⊥) → AreArguments command have (take (i + 1) (map f words)) → ⊥
is_wrong f command have words front i x word at front_is word_is wrong a =
    wrong (right_less command have (map f front) word (subst (AreArguments command have) (longer_is f words front i x word at front_is word_is) a))

pub by_seeds : {A : Type 0} (f : A → List ℕ) (command : Command) (have : ℕ) (words front longer : List A) (i : ℕ) (x : A) (word : List ℕ) → slice_get words i ≡ Some x → front ≡ take i words → word ≡ f x
    → longer ≡ take (i + 1) words → AreArguments command have (take i (map f words)) → IsRightBehind command have (map f front) word
    → (b : Bool) → MatchBool b (AreSeeds (map f longer)) (AreSeeds (map f longer) → ⊥)
    → MatchBool b (AreArguments command have (take (i + 1) (map f words))) (AreArguments command have (take (i + 1) (map f words)) → ⊥)
by_seeds f command have words front longer i x word at front_is word_is long_is a r true seeds =
    let whole : take (i + 1) (map f words) ≡ map f front ++ word ∷ [] = longer_is f words front i x word at front_is word_is in
    let same : map f longer ≡ map f front ++ word ∷ [] = ap (map f) long_is ∙ sym (take-map f (i + 1) words) ∙ whole in
    let before : AreArguments command have (map f front) = subst (AreArguments command have) (take-map f i words ∙ ap (map f) (sym front_is)) a in
    subst (AreArguments command have) (sym whole) (right_more command have (map f front) word before r (subst AreSeeds same seeds))
by_seeds f command have words front longer i x word at front_is word_is long_is a r false wrong = λ h.
    wrong (subst AreSeeds (take-map f (i + 1) words ∙ ap (map f) (sym long_is)) h.seeds)
