-- The row of an enum, by the place of its name.
use Rattle.std.proofs.Common.{◌≡◌, ℕ, suc, Bool, true, false, List, [], ◌∷◌, ◌++◌, ◌+◌, ◌<◌, length, take, get_or, map, Option, refl, sym, ap, subst, ◌∙◌}
use Rattle.std.specs.Prelude.{ℤ, Some, None, slice_get, if◌then◌else◌}
use Rattle.std.specs.List.{AllZip, find}
use Rattle.std.specs.List.Sorted.{IsPermutation}
use Rattle.std.specs.Option.{option_and_then, option_map}
use Rattle.std.proofs.lemmas.List.{take_more}
use Rattle.pst_base.specs.declared.position.Place.{Place}
use Rattle.pst_ast.specs.declared.leaf.Name.{Name}
use Rattle.pst_ast.specs.DeclarationTree.{EnumTree, MakeEnum, EnumItemTree, MakeEnumItem}
use Rattle.pst_ast.specs.Declarations.{next_item}
use Rattle.pst_ast.specs.Sorts.{same_place}
use Rattle.pst_type_rules.specs.Enums.{DeclaredItem, enum_of, items_behind}
use Rattle.pst_places.specs.Numbers.{number_from, number_in}
use Rattle.pst_site_lists.specs.declared.site.EnumSite.{EnumSite}
use Rattle.pst_evaluate.specs.Kept.{Kept, known_in}
use Rattle.pst_enum_values.specs.Gathered.{EnumPlaces, EnumRow, IsRow, are_known, enum_places, place_of_item, places_in, values_of}
use Rattle.pst_enum_values.specs.Kept.{IsFound, IsRowOf, enum_in, places_of_site}

-- ---- the places of items

behind_are : (component : Option Place) (before : Option Name) (items : List EnumItemTree) → map (λ (i : DeclaredItem). i.name.place) (items_behind component before items) ≡ map place_of_item items
behind_are component before [] = refl
behind_are component before (MakeEnumItem name value ∷ more) = ap (λ (ps : List Place). name.place ∷ ps) (behind_are component (Some name) more)

pub places_are : (component : Option Place) (t : EnumTree) → (enum_places (enum_of component t)).items ≡ places_in t
places_are component (MakeEnum word name left first rest right) = behind_are component None (first ∷ map next_item rest)

-- ---- rows by their numbers

number_if : (b : Bool) (n : ℕ) (o : Option ℕ) → (if b then Some (suc n) else option_map (λ (m : ℕ). suc m) o) ≡ option_map (λ (m : ℕ). suc m) (if b then Some n else o)
number_if true n o = refl
number_if false n o = refl

one_further : (n : ℕ) (ps : List Place) (p : Place) → number_from (suc n) ps p ≡ option_map (λ (m : ℕ). suc m) (number_from n ps p)
one_further n [] p = refl
one_further n (q ∷ ps) p =
    ap (λ (o : Option ℕ). if same_place q p then Some (suc n) else o) (one_further (suc n) ps p) ∙ number_if (same_place q p) n (number_from (suc n) ps p)

behind : (row : EnumRow) (rows : List EnumRow) (o : Option ℕ) → option_and_then (slice_get (row ∷ rows)) (option_map (λ (m : ℕ). suc m) o) ≡ option_and_then (slice_get rows) o
behind row rows None = refl
behind row rows (Some n) = refl

module _ (k : Kept) (p : Place) where
  found_if : (e : EnumSite) (es : List EnumSite) (row : EnumRow) (rows : List EnumRow) (b : Bool) → IsRowOf k e row
      → IsFound (known_in k) (find (λ (d : EnumPlaces). same_place d.name p) (map places_of_site es)) (option_and_then (slice_get rows) (number_from 0 (map (λ (s : EnumSite). s.node.now.name.place) es) p))
      → IsFound (known_in k) (if b then Some (places_of_site e) else find (λ (d : EnumPlaces). same_place d.name p) (map places_of_site es))
      (option_and_then (slice_get (row ∷ rows)) (if b then Some 0 else number_from 1 (map (λ (s : EnumSite). s.node.now.name.place) es) p))
  found_if e es row rows true here later = here
  found_if e es row rows false here later =
      subst (λ (o : Option EnumRow). IsFound (known_in k) (find (λ (d : EnumPlaces). same_place d.name p) (map places_of_site es)) o)
      (sym (ap (option_and_then (slice_get (row ∷ rows))) (one_further 0 (map (λ (s : EnumSite). s.node.now.name.place) es) p) ∙ behind row rows (number_from 0 (map (λ (s : EnumSite). s.node.now.name.place) es) p)))
      later

  pub found_row : (enums : List EnumSite) (rows : List EnumRow) → AllZip (IsRowOf k) enums rows
      → IsFound (known_in k) (find (λ (d : EnumPlaces). same_place d.name p) (map places_of_site enums)) (option_and_then (slice_get rows) (number_from 0 (map (λ (s : EnumSite). s.node.now.name.place) enums) p))
  found_row [] rows zip = tt
  found_row (e ∷ es) [] zip = absurd zip
  found_row (e ∷ es) (row ∷ rows) zip = found_if e es row rows (same_place e.node.now.name.place p) zip.0 (found_row es rows zip.1)

  pub found_by_number : (enums : List EnumSite) (rows : List EnumRow) (places : List Place) (found : Option EnumRow) → AllZip (IsRowOf k) enums rows → places ≡ map (λ (s : EnumSite). s.node.now.name.place) enums
      → found ≡ option_and_then (slice_get rows) (number_in places p) → IsFound (known_in k) (enum_in (map places_of_site enums) p) found
  unfolding number_in
  found_by_number enums rows places found zip are is =
      subst (λ (o : Option EnumRow). IsFound (known_in k) (enum_in (map places_of_site enums) p) o) (sym (is ∙ ap (λ (ps : List Place). option_and_then (slice_get rows) (number_in ps p)) are)) (found_row enums rows zip)

-- ---- how rows are made

pub row_made : (known : Place → Option ℤ) (component : Option Place) (t : EnumTree) (before found sorted : List ℤ) (all : Bool) → all ≡ are_known known (places_in t) → before ≡ []
    → found ≡ before ++ values_of known (places_in t) → IsPermutation found sorted → IsRow known (enum_places (enum_of component t)).items (record { known = all; values = sorted })
row_made known component t before found sorted all is none added same =
    subst (λ (ps : List Place). IsRow known ps (record { known = all; values = sorted })) (sym (places_are component t))
    (record { known_is = is; same = subst (λ (l : List ℤ). IsPermutation l sorted) (added ∙ ap (λ (l : List ℤ). l ++ values_of known (places_in t)) none) same })

module _ {A B : Type 0} (R : A → B → Type 0) where
  zip_push : (xs : List A) (ys : List B) (x : A) (y : B) → AllZip R xs ys → R x y → AllZip R (xs ++ x ∷ []) (ys ++ y ∷ [])
  zip_push [] [] x y zip r = (r, tt)
  zip_push [] (z ∷ ys) x y zip r = absurd zip
  zip_push (w ∷ xs) [] x y zip r = absurd zip
  zip_push (w ∷ xs) (z ∷ ys) x y zip r = (zip.0, zip_push xs ys x y zip.1 r)

  pub zip_on : (xs : List A) (ys zs : List B) (i : ℕ) (x : A) (y : B) → i < length xs → x ≡ get_or xs i x → zs ≡ ys ++ y ∷ [] → AllZip R (take i xs) ys → R x y → AllZip R (take (i + 1) xs) zs
  zip_on xs ys zs i x y within is more zip r =
      subst (λ (l : List B). AllZip R (take (i + 1) xs) l) (sym more)
      (subst (λ (l : List A). AllZip R l (ys ++ y ∷ [])) (ap (λ (z : A). take i xs ++ z ∷ []) is ∙ sym (take_more xs i x within)) (zip_push (take i xs) ys x y zip r))
