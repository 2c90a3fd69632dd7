-- The numbers of types by the places of their names.
use Rattle.std.proofs.Common.{◌≡◌, ℕ, suc, ◌+◌, List, [], ◌∷◌, refl, ap, ◌∙◌, Bool, true, false, not, arith, map, length}
use Rattle.std.specs.Prelude.{Option, Some, if◌then◌else◌}
use Rattle.std.specs.Option.{option_map_or}
use Rattle.pst_base.specs.declared.position.Place.{Place}
use Rattle.pst_places.specs.Numbers.{number_in, number_from}
use Rattle.pst_ast.specs.declared.scope_declaration.Declaration.{Declaration}
use Rattle.pst_ast.specs.Sorts.{same_place}
use Rattle.pst_type_rules.specs.Members.{those_that}
use Rattle.pst_tree.specs.Bases as bases
use Rattle.pst_type_numbers.specs.declared.places.TypeSort.{TypeSort}
use Rattle.pst_type_numbers.specs.declared.places.TypePlaces.{TypePlaces}
use Rattle.pst_type_numbers.specs.Placed.{ArePlaces, is_of, number_or}

abbrev place_in : Declaration → Place
place_in d = d.name.place

abbrev or : Option ℕ → ℕ → ℕ
or found count = option_map_or (λ n. n) found count

step : (b : Bool) (n count rest : ℕ) (found : Option ℕ) → or found (suc n + count) ≡ suc n + rest → or (if b then Some n else found) (n + suc count) ≡ n + (if not b then 1 + rest else 0)
step true n count rest found e = omega arith
step false n count rest found e = ap (or found) (omega arith) ∙ e ∙ omega arith

from : (n : ℕ) (list : List Declaration) (d : Declaration) → or (number_from n (map place_in list) d.name.place) (n + length list) ≡ n + bases.number_in list d
from n [] d = refl
from n (m ∷ more) d = step (same_place m.name.place d.name.place) n (length more) (bases.number_in more d) (number_from (suc n) (map place_in more) d.name.place) (from (suc n) more d)

in_list : (list : List Declaration) (d : Declaration) → number_or (map place_in list) (length list) d ≡ bases.number_in list d
unfolding number_in
in_list list d =
    let counted : length list ≡ 0 + length list = omega arith in
    let numbered : 0 + bases.number_in list d ≡ bases.number_in list d = omega arith in
    ap (or (number_from 0 (map place_in list) d.name.place)) counted ∙ from 0 list d ∙ numbered

pub number_is : (sort : TypeSort) (ds : List Declaration) (p : TypePlaces) (d : Declaration) → ArePlaces sort ds p → number_or p.places p.count d ≡ bases.number_in (those_that (is_of sort) ds) d
number_is sort ds p d are =
    ap (λ (places : List Place). number_or places p.count d) are.places
    ∙ ap (λ (count : ℕ). number_or (map place_in (those_that (is_of sort) ds)) count d) are.counted
    ∙ in_list (those_that (is_of sort) ds) d
