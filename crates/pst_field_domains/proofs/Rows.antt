-- The places of items, and rows that grow.
use Rattle.std.proofs.Common.{◌≡◌, ℕ, List, [], ◌∷◌, ◌++◌, ◌+◌, ◌<◌, length, take, get_or, map, Option, refl, sym, ap, subst, ◌∙◌}
use Rattle.std.specs.Prelude.{Some, None}
use Rattle.std.specs.List.{AllZip}
use Rattle.std.proofs.lemmas.List.{take_more}
use Rattle.pst_base.specs.declared.position.Place.{Place}
use Rattle.pst_ast.specs.declared.leaf.Name.{Name}
use Rattle.pst_ast.specs.DeclarationTree.{EnumTree, MakeEnum, EnumItemTree, MakeEnumItem}
use Rattle.pst_ast.specs.Declarations.{next_item}
use Rattle.pst_type_rules.specs.Enums.{DeclaredItem, enum_of, items_behind}
use Rattle.pst_enum_values.specs.Gathered.{enum_places, place_of_item, places_in}

behind_are : (component : Option Place) (before : Option Name) (items : List EnumItemTree) → map (λ (i : DeclaredItem). i.name.place) (items_behind component before items) ≡ map place_of_item items
behind_are component before [] = refl
behind_are component before (MakeEnumItem name value ∷ more) = ap (λ (ps : List Place). name.place ∷ ps) (behind_are component (Some name) more)

pub places_are : (component : Option Place) (t : EnumTree) → (enum_places (enum_of component t)).items ≡ places_in t
places_are component (MakeEnum word name left first rest right) = behind_are component None (first ∷ map next_item rest)

module _ {A B : Type 0} (R : A → B → Type 0) where
  zip_push : (xs : List A) (ys : List B) (x : A) (y : B) → AllZip R xs ys → R x y → AllZip R (xs ++ x ∷ []) (ys ++ y ∷ [])
  zip_push [] [] x y zip r = (r, tt)
  zip_push [] (z ∷ ys) x y zip r = absurd zip
  zip_push (w ∷ xs) [] x y zip r = absurd zip
  zip_push (w ∷ xs) (z ∷ ys) x y zip r = (zip.0, zip_push xs ys x y zip.1 r)

  pub zip_on : (xs : List A) (ys zs : List B) (i : ℕ) (x : A) (y : B) → i < length xs → x ≡ get_or xs i x → zs ≡ ys ++ y ∷ [] → AllZip R (take i xs) ys → R x y → AllZip R (take (i + 1) xs) zs
  zip_on xs ys zs i x y within is more zip r =
      subst (λ (l : List B). AllZip R (take (i + 1) xs) l) (sym more)
      (subst (λ (l : List A). AllZip R l (ys ++ y ∷ [])) (ap (λ (z : A). take i xs ++ z ∷ []) is ∙ sym (take_more xs i x within)) (zip_push (take i xs) ys x y zip r))
