-- Which instances stand under others.
use Rattle.std.proofs.Common.{◌≡◌, ◌<◌, ◌≤◌, ◌+◌, ◌↔◌, ◌⊎◌, inl, inr, ℕ, List, length, slice_get, get_or, map, Option, Some, option_map, refl, ap, subst, sym, ◌∙◌, arith}
use Rattle.std.proofs.lemmas.Option.{slice_get-get_or, slice_get-map, slice_get_read}
use Rattle.std.proofs.lemmas.Bool.{cases_lt}
use Rattle.pst_model.specs.declared.model.Part.{Part}
use Rattle.pst_model.specs.Preorder.{LiesUnder, Below, IsParent}
use Rattle.pst_model.proofs.Under.{up, same_some}

-- below the top, an instance stands under it where its parent does
pub by_parent : (parts : List Part) (top n parent : ℕ) (d : Part) → n < length parts → (top ≡ n → ⊥) → ((get_or parts n d).parent ≡ Some parent) → (LiesUnder parts top parent ↔ LiesUnder parts top n)
by_parent parts top n parent d within different has = (λ under. Below n parent (get_or parts n d) (slice_get-get_or parts n d within) has under, λ under. go (up parts top n under))
  where
    go : (top ≡ n) ⊎ ((other : ℕ) × (part : Part) × (slice_get parts n ≡ Some part) × (part.parent ≡ Some other) × LiesUnder parts top other) → LiesUnder parts top parent
    go (inl same) = absurd (different same)
    go (inr (other, part, is, of_other, under)) =
        let part_is : part ≡ get_or parts n d = same_some part (get_or parts n d) (sym is ∙ slice_get-get_or parts n d within) in
        let parent_is : other ≡ parent = same_some other parent (sym of_other ∙ ap (λ (p : Part). p.parent) part_is ∙ has) in
        subst (λ (p : ℕ). LiesUnder parts top p) parent_is under

pub parent_below : (parts : List Part) (n parent : ℕ) (d : Part) → ((m : ℕ) (part : Part) → slice_get parts m ≡ Some part → IsParent m part.parent) → n < length parts → ((get_or parts n d).parent ≡ Some parent) → parent < n
parent_below parts n parent d parents within has = subst (λ (o : Option ℕ). IsParent n o) has (parents n (get_or parts n d) (slice_get-get_or parts n d within))

-- an item that is read, seen through a view
pub viewed_read : {X Y : Type 0} (view : X → Y) (xs : List X) (i : ℕ) (x : X) → i < length xs → x ≡ get_or xs i x → slice_get (map view xs) i ≡ Some (view x)
viewed_read view xs i x within is = slice_get-map view xs i ∙ ap (option_map view) (slice_get_read xs (length xs) i x refl within is)

-- what holds of each item before one, and of that one, holds of each item before the next
pub served_next : {Y : Type 0} (P : ℕ → Y → Type 0) (ys : List Y) (k : ℕ) (y : Y) → slice_get ys k ≡ Some y → P k y → ((n : ℕ) (x : Y) → n < k → slice_get ys n ≡ Some x → P n x) → (n : ℕ) (x : Y) → n < k + 1 → slice_get ys n ≡ Some x → P n x
served_next {Y = Y} P ys k y at_k holds before n x below at_n = go (cases_lt n k)
  where
    go : (n < k) ⊎ (k ≤ n) → P n x
    go (inl less) = before n x less at_n
    go (inr more) =
        let same : k ≡ n = omega (arith, more, below) in
        let item : y ≡ x = same_some y x (sym at_k ∙ ap (slice_get ys) same ∙ at_n) in
        subst (λ (m : ℕ). P m x) same (subst (λ (z : Y). P k z) item holds)
