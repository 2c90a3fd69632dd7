-- The least of what is found in parts one behind the other.
use Rattle.std.proofs.Common.{◌≡◌, refl, sym, ap, ◌∙◌, ℕ, ◌+◌, ◌<◌, List, [], ◌∷◌, ◌++◌, length, drop, slice_index_or, Option}
use Rattle.std.proofs.lemmas.List.{at_drop_more}
use Rattle.std.specs.List.{flat_map}
use Rattle.pst_ast.specs.declared.referent.Finding.{Finding}
use Rattle.pst_name_rules.specs.Earlier.{earlier}
use Rattle.pst_name_rules.specs.Leasts.{least_at}

pub least_of_more : {X : Type 0} (finding : X → Option Finding) (xs ys : List X) (before : Option Finding) → least_at finding (xs ++ ys) before ≡ least_at finding ys (least_at finding xs before)
least_of_more finding [] ys before = refl
least_of_more finding (x ∷ xs) ys before = least_of_more finding xs ys (earlier before (finding x))

-- one part further in a list of parts
pub one_more : {X Y : Type 0} (finding : Y → Option Finding) (parts : X → List Y) (xs : List X) (i : ℕ) (x : X) (before : Option Finding) → i < length xs → x ≡ slice_index_or xs i x
    → least_at finding (flat_map parts (drop (i + 1) xs)) (least_at finding (parts x) before) ≡ least_at finding (flat_map parts (drop i xs)) before
one_more finding parts xs i x before within is =
    sym (at_drop_more (λ (ys : List _). least_at finding (flat_map parts ys) before) xs i x within
    ∙ ap (λ (y : _). least_at finding (flat_map parts (y ∷ drop (i + 1) xs)) before) (sym is)
    ∙ least_of_more finding (parts x) (flat_map parts (drop (i + 1) xs)) before)
