-- Meanings that are put in order of place, each once.
use Rattle.std.proofs.Common.{◌≡◌, inl, inr, ℕ, ◌+◌, ◌<◌, ◌≤◌, List, [], ◌∷◌, ◌++◌, length, take, get_or, sym, subst, ⊎_elim}
use Rattle.std.specs.List.{Contains}
use Rattle.std.specs.List.Sorted.{IsPermutation}
use Rattle.std.proofs.lemmas.List.{take_more, take_all}
use Rattle.std.proofs.lemmas.List.Elements.{Contains-append_left, Contains-push, Contains-push_cases}
use Rattle.std.proofs.lemmas.List.Sorted.{IsPermutation-sym, Contains-permutation}
use Rattle.pst_ast.specs.declared.entry.NameMeaning.{NameMeaning}
use Rattle.pst_numbers.specs.Meanings.{HaveSame, HasOneMore}

-- each of the meanings so far is had, and no other
pub same_on : (sorted found more : List NameMeaning) (i : ℕ) (d : NameMeaning) → i < length sorted
    → HaveSame found (take i sorted) → HasOneMore found (get_or sorted i d) more → HaveSame more (take (i + 1) sorted)
same_on sorted found more i d lt so_far step =
    let one : NameMeaning = get_or sorted i d in
    subst (λ (xs : List NameMeaning). HaveSame more xs) (sym (take_more sorted i d lt))
    (λ m. (
      (λ has. ⊎_elim (λ (old : Contains found m). Contains-append_left (take i sorted) (one ∷ []) m ((so_far m).0 old)) (λ (new : one ≡ m). subst (λ (x : NameMeaning). Contains (take i sorted ++ one ∷ []) x) new (Contains-push (take i sorted) one)) ((step m).0 has)),
      (λ has. (step m).1 (⊎_elim (λ (old : Contains (take i sorted) m). inl ((so_far m).1 old)) (λ (new : one ≡ m). inr new) (Contains-push_cases (take i sorted) one m has))),
    ))

pub same_at_end : (sorted found : List NameMeaning) (i : ℕ) → length sorted ≤ i → HaveSame found (take i sorted) → HaveSame found sorted
same_at_end sorted found i past so_far = subst (λ (xs : List NameMeaning). HaveSame found xs) (take_all i sorted past) so_far

pub same_by_sort : (meanings sorted found : List NameMeaning) → IsPermutation meanings sorted → HaveSame found sorted → HaveSame found meanings
same_by_sort meanings sorted found moved same = λ m. (
  (λ has. Contains-permutation sorted meanings m (IsPermutation-sym meanings sorted moved) ((same m).0 has)),
  (λ has. (same m).1 (Contains-permutation meanings sorted m moved has)),
)
