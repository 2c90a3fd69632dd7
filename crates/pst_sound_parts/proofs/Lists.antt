-- What holds of each item of a list that is seen through a view.
use Rattle.std.proofs.Common.{◌<◌, ◌↔◌, List, map, All, Bool, IsTrue, subst, sym}
use Rattle.std.proofs.lemmas.List.{get_or-map, length-map}
use Rattle.std.proofs.lemmas.List.Elements.{All-map}

pub all_of_map : {X Y : Type 0} (P : Y → Type 0) (f : X → Y) (xs : List X) → All P (map f xs) → All (λ x. P (f x)) xs
all_of_map P f xs h = λ k d within. subst P (get_or-map f xs k d (f d) within) (h k (f d) (subst (λ n. k < n) (sym (length-map xs f)) within))

pub through_view : {X Y : Type 0} (P : Y → Type 0) (f : X → Y) (xs : List X) (b : Bool) → (IsTrue b ↔ All (λ x. P (f x)) xs) → (IsTrue b ↔ All P (map f xs))
through_view P f xs b decides = (λ h. All-map P f xs (decides.0 h), λ h. decides.1 (all_of_map P f xs h))
