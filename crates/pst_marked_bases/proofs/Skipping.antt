-- Types that aren't marked add nothing, where nothing is found in them.
use Rattle.std.proofs.Common.{◌≡◌, refl, sym, ap, ◌∙◌}
use Rattle.std.specs.Prelude.{Bool, true, false, List, [], ◌∷◌, ◌++◌, if◌then◌else◌}
use Rattle.std.specs.List.{filter, flat_map, list_any}
use Rattle.pst_base.specs.declared.position.Place.{Place}
use Rattle.pst_ast.specs.declared.scope_declaration.Declaration.{Declaration}
use Rattle.pst_ast.specs.Sorts.{same_place}
use Rattle.pst_marked_bases.specs.Marked.{is_marked}
use Rattle.pst_marked_bases.proofs.Among.{is_among}

module _ {Y : Type 0} (places : List Place) (found : Declaration → List Y) (none : (d : Declaration) → is_marked places d ≡ false → found d ≡ []) where
  skip_next : (b : Bool) (d : Declaration) (more : List Declaration) → is_marked places d ≡ b
      → flat_map found (filter (is_marked places) more) ≡ flat_map found more
      → flat_map found (if b then d ∷ filter (is_marked places) more else filter (is_marked places) more) ≡ found d ++ flat_map found more
  skip_next true d more is e = ap (λ (xs : List Y). found d ++ xs) e
  skip_next false d more is e = e ∙ sym (ap (λ (xs : List Y). xs ++ flat_map found more) (none d is))

  pub skipped : (bases : List Declaration) → flat_map found (filter (is_marked places) bases) ≡ flat_map found bases
  skipped [] = refl
  skipped (d ∷ more) = skip_next (is_marked places d) d more refl (skipped more)

-- ---- no marks at all

unmarked : (places : List Place) (d : Declaration) → places ≡ [] → is_marked places d ≡ false
unmarked places d e = is_among places d.name.place ∙ ap (λ (ps : List Place). list_any (λ p. same_place p d.name.place) ps) e

pub none_marked : (places : List Place) (bases : List Declaration) → places ≡ [] → filter (is_marked places) bases ≡ []
none_marked places [] e = refl
none_marked places (d ∷ more) e =
    ap (λ (b : Bool). if b then d ∷ filter (is_marked places) more else filter (is_marked places) more) (unmarked places d e) ∙ none_marked places more e
