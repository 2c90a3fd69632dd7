-- Places that are among others.
use Rattle.std.proofs.Common.{◌≡◌, refl, true≢false}
use Rattle.std.specs.Prelude.{ℕ, suc, Bool, true, false, ◌||◌, List, [], ◌∷◌, Option, Some, is_some, if◌then◌else◌}
use Rattle.std.specs.List.{list_any}
use Rattle.pst_base.specs.declared.position.Place.{Place}
use Rattle.pst_places.specs.Numbers.{number_in, number_from}
use Rattle.pst_ast.specs.Sorts.{same_place}

pub neither : (a b : Bool) → (a || b) ≡ false → (a ≡ false) × (b ≡ false)
neither true b e = absurd (true≢false e)
neither false b e = (refl, e)

step : (b : Bool) (n : ℕ) (found : Option ℕ) (rest : Bool) → is_some found ≡ rest → is_some (if b then Some n else found) ≡ (b || rest)
step true n found rest e = refl
step false n found rest e = e

from : (n : ℕ) (places : List Place) (place : Place) → is_some (number_from n places place) ≡ list_any (λ p. same_place p place) places
from n [] place = refl
from n (p ∷ more) place = step (same_place p place) n (number_from (suc n) more place) (list_any (λ q. same_place q place) more) (from (suc n) more place)

pub is_among : (places : List Place) (place : Place) → is_some (number_in places place) ≡ list_any (λ p. same_place p place) places
unfolding number_in
is_among places place = from 0 places place
