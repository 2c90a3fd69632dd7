-- A choice that is taken back.
use Rattle.std.proofs.Common.{◌≡◌, ℕ, ◌+◌, ◌-◌, ◌<◌, ◌≤◌, List, [], ◌∷◌, ◌++◌, length, Option, Some, None, ap, ◌∙◌, subst, length-append, arith}
use Rattle.pst_model.specs.declared.model.Model.{Model}
use Rattle.pst_shape.specs.Walks.{Kept as Shape, with_choice as shape_choice}
use Rattle.pst_supply.specs.Walks.{Kept as Supply}
use Rattle.pst_link_walk.specs.Walks.{Kept, with_choice, tree_reading}
use Rattle.pst_link_walk.specs.Made.{IsInside, choices_of, Stands}
use Rattle.pst_link_walk.proofs.Beginning.{inside_back}
use Rattle.pst_link_walk.proofs.Answering.{more_links}
use Rattle.pst_link_walk.proofs.Choosing.{one_less}

-- ---- a choice of a source

-- where there are such choices, there is a walk over the sources
pub linked_some : (supply : Option Supply) (n : ℕ) → n ≡ length (choices_of supply) → 0 < n → supply ≡ None → ⊥
linked_some supply n many some none = let no : n ≡ 0 = many ∙ ap (λ o. length (choices_of o)) none in omega (arith, some, no)

pub linked_more : (supply : Option Supply) (k : Supply) (n : ℕ) → supply ≡ Some k → n ≡ length (choices_of supply) → 0 < n → 0 < length k.choices
linked_more supply k n is many some = let same : n ≡ length k.choices = many ∙ ap (λ o. length (choices_of o)) is in omega (arith, some, same)

pub one_unlinked : (supply : Option Supply) (k l : Supply) (d n : ℕ) → supply ≡ Some k → n ≡ length (choices_of supply) → k ≡ record l { choices = l.choices ++ d ∷ [] } → n - 1 ≡ length l.choices
one_unlinked supply k l d n is many e =
    let same : n ≡ length k.choices = many ∙ ap (λ o. length (choices_of o)) is in
    let sum : length (l.choices ++ d ∷ []) ≡ length l.choices + 1 = length-append l.choices (d ∷ []) in
    let longer : length k.choices ≡ length (l.choices ++ d ∷ []) = ap (λ (x : Supply). length x.choices) e in
    omega (arith, same, sum, longer)

module _ (m : Model) (root seed level : ℕ) where
  abbrev at_list : List ℕ → Kept
  at_list choices = record { model = m; root = root; seed = seed; level = level; choices = choices }

  pub links_before : (xs : List ℕ) (supply : Option Supply) (k l : Supply) (d : ℕ) → supply ≡ Some k → k ≡ record l { choices = l.choices ++ d ∷ [] } → at_list (xs ++ choices_of supply) ≡ with_choice (at_list (xs ++ l.choices)) d
  links_before xs supply k l d is e = ap (λ o. at_list (xs ++ choices_of o)) is ∙ more_links m root seed level xs l k d e

-- ---- a choice of the activity

pub shape_some : (xs ys : List ℕ) (made linked : ℕ) → made ≡ length xs → linked ≡ length ys → linked ≤ 0 → 0 < length (xs ++ ys) → (0 < length xs) × (0 < made)
shape_some xs ys made linked a b none some =
    let sum : length (xs ++ ys) ≡ length xs + length ys = length-append xs ys in
    (omega (arith, a, b, none, some, sum), omega (arith, a, b, none, some, sum))

pub no_links : (ys : List ℕ) (linked : ℕ) → linked ≡ length ys → linked ≤ 0 → length ys ≡ 0
no_links ys linked many none = omega (arith, many, none)

module _ (m : Model) (root seed level : ℕ) where
  pub shape_less : (old new : Shape) (d n : ℕ) → n ≡ length old.choices → old ≡ shape_choice new d → n - 1 ≡ length new.choices
  shape_less old new d n many e = let one = one_less m root seed level old new d n many e in omega (arith, one)

  pub shape_inside : (old new : Shape) (d : ℕ) (supply : Option Supply) → old ≡ shape_choice new d → Stands m root seed level old.choices supply → IsInside (tree_reading m root seed level new.choices)
  shape_inside old new d supply e stands =
      inside_back m root seed level new.choices d supply (subst (λ xs. Stands m root seed level xs supply) (ap (λ (x : Shape). x.choices) e) stands)

  pub links_none : (linked : ℕ) → linked ≤ 0 → linked ≡ 0
  links_none linked none = omega (arith, none)
