-- What the readings of a walk come to.
use Rattle.std.proofs.Common.{◌≡◌, ℕ, ◌+◌, List, [], ◌∷◌, ◌++◌, length, Option, Some, None, refl, sym, ap, ◌∙◌, subst, append-nil, length-append, arith}
use Rattle.pst_model.specs.declared.model.Model.{Model}
use Rattle.pst_model.specs.ModelTree.{ModelTree}
use Rattle.pst_model.specs.ModelView.{view_model}
use Rattle.pst_scen.specs.declared.scenario.Scenario.{Scenario}
use Rattle.pst_legal.specs.Growing.{nothing_yet}
use Rattle.pst_legal.specs.Menus.{menu}
use Rattle.pst_legal.specs.Reading.{Reading, Wants, Stops, Reads}
use Rattle.pst_legal.specs.SupplyReading.{Spot, Source, Initially, From, New, supplied_by, read_supply}
use Rattle.pst_built.proofs.Goes.{Stands as Relates, After, stands, goes_then}
use Rattle.pst_built.proofs.Readers.{goes_tree, goes_supply}
use Rattle.pst_built.proofs.Read.{Any, any_fields, AnyWay, any_ways}
use Rattle.pst_supply.specs.Walks.{Kept as Supply}
use Rattle.pst_link_walk.specs.Walks.{Kept, tree_reading, reading, IsUsed, AtEnd, HasTree}
use Rattle.pst_link_walk.specs.Made.{IsInside, choices_of, IsBehind, Stands}
use Rattle.pst_link_walk.proofs.Cut.{Cuts, cuts_tree, cuts_supply, cuts_then}
use Rattle.pst_link_walk.proofs.Used.{back_inside}
use Rattle.pst_link_walk.proofs.Plain.{IsPlain, IfThere, plain_tree}
use Rattle.pst_link_walk.proofs.Walking.{tree_on, tree_place, supply_place, inside_answer, behind_reads, tree_plain}

-- sources change neither the level nor the first objects
abbrev SameRest : Scenario → Scenario → Type 0
SameRest s u = (u.level ≡ s.level) × (u.firsts ≡ s.firsts)

same_source : (m : ModelTree) (s : Scenario) (need : Spot) (source : Source) → SameRest s (supplied_by m s need source)
same_source m s need Initially = (refl, refl)
same_source m s need (From b q) = (refl, refl)
same_source m s need (New action instance q) = (refl, refl)

same_supply : (m : ModelTree) (seed : ℕ) (t : Scenario) (q : ℕ) (ys : List ℕ) → Relates SameRest t (read_supply m seed t q ys)
same_supply m seed t q ys =
    stands SameRest t (read_supply m seed t q ys) (λ more. read_supply m seed t q (ys ++ more))
    (goes_supply SameRest (λ s. (refl, refl)) (λ s t u a b. (b.0 ∙ a.0, b.1 ∙ a.1)) m seed (λ s need source k is there. same_source m s need source) ys t q)

module _ (m : Model) (root seed level : ℕ) where
  abbrev kept_at : List ℕ → Kept
  kept_at choices = record { model = m; root = root; seed = seed; level = level; choices = choices }

  inside_end : (k : Kept) (r : Reading) → k.level ≡ level → IsInside r → IfThere (IsPlain (view_model m) level) r → AtEnd k r
  inside_end k (Wants s n) e inside plain = (plain.of_level ∙ sym e, plain.firsts)
  inside_end k Stops e inside plain = tt
  inside_end k (Reads s q left) e inside plain = absurd inside

  behind_end : (xs ys : List ℕ) (t : Scenario) (q : ℕ) → q ≡ 0 + length xs → IsPlain (view_model m) level t → (r : Reading) → read_supply (view_model m) seed t q ys ≡ r → IsUsed r → Relates SameRest t r
      → AtEnd (kept_at (xs ++ ys)) r
  behind_end xs ys t q count plain (Wants u n) e used same = (same.0 ∙ plain.of_level, same.1 ∙ plain.firsts)
  behind_end xs ys t q count plain Stops e used same = tt
  behind_end xs ys t q count plain (Reads u p left) e used same =
      let whole : read_supply (view_model m) seed t q ys ≡ Reads u p [] = e ∙ ap (λ l. Reads u p l) used in
      let sum : length (xs ++ ys) ≡ length xs + length ys = length-append xs ys in
      let more : p ≡ q + length ys = supply_place (view_model m) seed t q ys u p whole in
      record { used = used; counts = omega (arith, count, sum, more); of_level = same.0 ∙ plain.of_level; firsts = same.1 ∙ plain.firsts }

  pub stands_end : (xs : List ℕ) (supply : Option Supply) → Stands m root seed level xs supply → AtEnd (kept_at (xs ++ choices_of supply)) (reading (kept_at (xs ++ choices_of supply)))
  stands_end xs None inside =
      let e : reading (kept_at (xs ++ [])) ≡ tree_reading m root seed level xs =
      ap (λ ys. reading (kept_at ys)) (append-nil xs) ∙ inside_answer (tree_reading m root seed level xs) (read_supply (view_model m) seed) inside in
      subst (AtEnd (kept_at (xs ++ []))) (sym e) (inside_end (kept_at (xs ++ [])) (tree_reading m root seed level xs) refl inside (plain_tree (view_model m) level seed root xs))
  stands_end xs (Some k) behind =
      let ys = k.choices in
      let S : Reading = read_supply (view_model m) seed behind.tree behind.place ys in
      subst (AtEnd (kept_at (xs ++ ys))) (sym (behind_reads m root seed level xs k behind ys))
      (behind_end xs ys behind.tree behind.place (tree_place (view_model m) seed root level xs behind.tree behind.place behind.reads)
      (tree_plain m root seed level xs behind.tree behind.place [] behind.reads) S refl behind.used (same_supply (view_model m) seed behind.tree behind.place ys))

  -- a walk over the sources stands behind the activity
  pub behind_tree : (xs : List ℕ) (supply : Option Supply) (k : Supply) → supply ≡ Some k → Stands m root seed level xs supply → HasTree (kept_at (xs ++ choices_of supply))
  behind_tree xs supply k is stands =
      let behind : IsBehind m root seed level xs k = subst (Stands m root seed level xs) is stands in
      (behind.tree, behind.place, choices_of supply, tree_on (view_model m) seed root level xs behind.tree behind.place [] behind.reads (choices_of supply))

  -- ---- the whole reading, as a function of the choices

  abbrev L : List ℕ → Reading
  L xs = reading (kept_at xs)

  link_goes : (xs : List ℕ) → After Any (nothing_yet level) (L xs) (λ more. L (xs ++ more))
  link_goes xs =
      goes_then Any (λ s t u a b. tt) (nothing_yet level) (tree_reading m root seed level xs) (λ more. tree_reading m root seed level (xs ++ more)) (read_supply (view_model m) seed)
      (goes_tree Any (λ s. tt) (λ s t u a b. tt) (view_model m) AnyWay (λ piece. any_ways (menu (view_model m) piece)) (λ s parent look fields is. (tt, any_fields _ fields _)) seed root (nothing_yet level) 0 xs)
      (λ t q rest has. goes_supply Any (λ s. tt) (λ s t u a b. tt) (view_model m) seed (λ s need source k is there. tt) rest t q)

  on_of : (r : Reading) (go : List ℕ → Reading) (t : Scenario) (q : ℕ) (left : List ℕ) → After Any (nothing_yet level) r go → r ≡ Reads t q left → (more : List ℕ) → go more ≡ Reads t q (left ++ more)
  on_of r go t q left after e = (subst (λ x. After Any (nothing_yet level) x go) e after).1

  -- choices behind the end are left over
  pub link_on : (xs : List ℕ) (t : Scenario) (q : ℕ) (left : List ℕ) → L xs ≡ Reads t q left → (more : List ℕ) → L (xs ++ more) ≡ Reads t q (left ++ more)
  link_on xs t q left e = on_of (L xs) (λ more. L (xs ++ more)) t q left (link_goes xs) e

  link_cut : (ds : List ℕ) → Cuts 0 L ds (L ds)
  link_cut ds =
      cuts_then 0 (λ xs. tree_reading m root seed level xs) (read_supply (view_model m) seed) ds (tree_reading m root seed level ds) (cuts_tree (view_model m) seed root (nothing_yet level) 0 ds)
      (λ t q left. cuts_supply (view_model m) seed left t q)

  -- one choice less comes to no end
  pub link_back : (xs : List ℕ) (d : ℕ) → IsUsed (L (xs ++ d ∷ [])) → IsInside (L xs)
  link_back = back_inside L link_on 0 link_cut
