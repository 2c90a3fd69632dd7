-- The ends that are kept are those of the definitions.
use Rattle.std.proofs.Common.{◌≡◌, List, [], ◌∷◌, map, Bool, true, false, if◌then◌else◌, Some, refl}
use Rattle.std.specs.List.{find}
use Rattle.std.specs.Option.{option_map}
use Rattle.pst_legal.specs.Binds.{is_to, is_from, from_of, to_of}
use Rattle.pst_ties.specs.declared.tied.Tied.{Tied}
use Rattle.pst_ties.specs.declared.tied.End.{End}
use Rattle.pst_ties.specs.Tieds.{bound_of, fixed_of, same_end, output_to, input_from}

pub output_is : (found : List Tied) (q : End) → fixed_of (output_to found q) ≡ option_map from_of (find (is_to q.act q.reference) (map bound_of found))
output_is [] q = refl
output_is (t ∷ more) q = go (same_end t.to q) (output_is more q)
  where
    go : (b : Bool) → fixed_of (output_to more q) ≡ option_map from_of (find (is_to q.act q.reference) (map bound_of more))
        → fixed_of (if b then Some t.from else output_to more q) ≡ option_map from_of (if b then Some (bound_of t) else find (is_to q.act q.reference) (map bound_of more))
    go true e = refl
    go false e = e

pub input_is : (found : List Tied) (q : End) → fixed_of (input_from found q) ≡ option_map to_of (find (is_from q.act q.reference) (map bound_of found))
input_is [] q = refl
input_is (t ∷ more) q = go (same_end t.from q) (input_is more q)
  where
    go : (b : Bool) → fixed_of (input_from more q) ≡ option_map to_of (find (is_from q.act q.reference) (map bound_of more))
        → fixed_of (if b then Some t.to else input_from more q) ≡ option_map to_of (if b then Some (bound_of t) else find (is_from q.act q.reference) (map bound_of more))
    go true e = refl
    go false e = e
