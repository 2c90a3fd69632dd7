-- The item that stands at a place, by the number of the place.
use Rattle.std.proofs.Common.{◌≡◌, ℕ, zero, suc, ◌+◌, ◌<◌, refl, sym, subst, ap, ◌∙◌, arith, List, [], ◌∷◌, Bool, true, false, cond}
use Rattle.std.specs.Prelude.{map, Option, Some, None, slice_get, if◌then◌else◌}
use Rattle.std.specs.List.{find}
use Rattle.std.specs.Option.{unwrap_or}
use Rattle.pst_base.specs.declared.position.Place.{Place}
use Rattle.pst_ast.specs.Sorts.{same_place}
use Rattle.pst_type_rules.specs.Enums.{DeclaredItem}
use Rattle.pst_places.specs.Numbers.{number_from}
use Rattle.pst_evaluate.specs.declared.item.ListedItem.{ListedItem}
use Rattle.pst_evaluate.specs.Listed.{view_each, view_listed}

pub some_is : {A : Type 0} (x y : A) → Some x ≡ Some y → x ≡ y
some_is x y e = ap (λ o. unwrap_or o x) e

abbrev IsNothing : {A : Type 0} → Option A → Type 0
IsNothing None = Unit {0}
IsNothing (Some x) = ⊥

pub none_is_some : {A : Type 0} (x : A) → None ≡ Some x → ⊥
none_is_some x e = subst IsNothing e tt

abbrev place_of : ListedItem → Place
place_of i = i.name.place

-- the first item at that place, by its number
pub record IsNumbered (items : List ListedItem) (from m : ℕ) (p : Place) : Type 0 where
  pub number : ℕ
  pub item : ListedItem
  pub counted : m ≡ from + number
  pub at : slice_get items number ≡ Some item
  pub found : find (λ (j : DeclaredItem). same_place j.name.place p) (view_each items) ≡ Some (view_listed item)

abbrev found_in : Place → ListedItem → List ListedItem → Bool → Option DeclaredItem
found_in p x items b = cond b (Some (view_listed x)) (find (λ (j : DeclaredItem). same_place j.name.place p) (view_each items))

numbered_if : (x : ListedItem) (items : List ListedItem) (from m : ℕ) (p : Place) (b : Bool) → same_place x.name.place p ≡ b
    → (number_from (suc from) (map place_of items) p ≡ Some m → IsNumbered items (suc from) m p)
    → (if b then Some from else number_from (suc from) (map place_of items) p) ≡ Some m → IsNumbered (x ∷ items) from m p
numbered_if x items from m p true e later is = record {
  number = 0;
  item = x;
  counted = omega (arith, some_is from m is);
  at = refl;
  found = ap (found_in p x items) e;
}
numbered_if x items from m p false e later is =
    let rest = later is in
    record {
      number = suc rest.number;
      item = rest.item;
      counted = omega (arith, rest.counted);
      at = rest.at;
      found = ap (found_in p x items) e ∙ rest.found;
    }

pub numbered_from : (items : List ListedItem) (from m : ℕ) (p : Place) → number_from from (map place_of items) p ≡ Some m → IsNumbered items from m p
numbered_from [] from m p is = absurd (none_is_some m is)
numbered_from (x ∷ items) from m p is = numbered_if x items from m p (same_place x.name.place p) refl (numbered_from items (suc from) m p) is

-- the number of the first item at that place
pub record HasNumber (items : List ListedItem) (from : ℕ) (p : Place) (j : DeclaredItem) : Type 0 where
  pub number : ℕ
  pub item : ListedItem
  pub counted : number_from from (map place_of items) p ≡ Some (from + number)
  pub at : slice_get items number ≡ Some item
  pub viewed : view_listed item ≡ j

number_if : (x : ListedItem) (items : List ListedItem) (from : ℕ) (p : Place) (j : DeclaredItem) (b : Bool) → same_place x.name.place p ≡ b
    → (find (λ (j : DeclaredItem). same_place j.name.place p) (view_each items) ≡ Some j → HasNumber items (suc from) p j)
    → found_in p x items b ≡ Some j → HasNumber (x ∷ items) from p j
number_if x items from p j true e later is = record {
  number = 0;
  item = x;
  counted = ap (λ (c : Bool). if c then Some from else number_from (suc from) (map place_of items) p) e ∙ ap Some (omega arith);
  at = refl;
  viewed = some_is (view_listed x) j is;
}
number_if x items from p j false e later is =
    let rest = later is in
    record {
      number = suc rest.number;
      item = rest.item;
      counted = ap (λ (c : Bool). if c then Some from else number_from (suc from) (map place_of items) p) e ∙ (rest.counted ∙ ap Some (omega arith));
      at = rest.at;
      viewed = rest.viewed;
    }

pub has_number : (items : List ListedItem) (from : ℕ) (p : Place) (j : DeclaredItem) → find (λ (j : DeclaredItem). same_place j.name.place p) (view_each items) ≡ Some j → HasNumber items from p j
has_number [] from p j is = absurd (none_is_some j is)
has_number (x ∷ items) from p j is = number_if x items from p j (same_place x.name.place p) refl (has_number items (suc from) p j) is
