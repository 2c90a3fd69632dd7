-- Actions of types that there are.
use Rattle.std.proofs.Common.{◌≡◌, ◌<◌, ℕ, zero, suc, List, [], ◌∷◌, map, length, get_or, slice_get, nat_lt, true, IsSome, Some, refl, subst, arith}
use Rattle.std.specs.List.{list_all, AllPass}
use Rattle.std.proofs.lemmas.List.{length-map}
use Rattle.std.proofs.lemmas.List.Sums.{AllPass-from_list_all}
use Rattle.std.proofs.lemmas.Bool.Decides.{nat_tests}
use Rattle.std.proofs.lemmas.Option.{slice_get_within, get_or_from_slice_get}
use Rattle.pst_model.specs.declared.action.ActionType.{ActionType}
use Rattle.pst_model.specs.ModelView.{view_action}
use Rattle.pst_scen.specs.declared.act.Act.{Act}

there : {X : Type 0} (xs : List X) (i : ℕ) → i < length xs → IsSome (slice_get xs i)
there [] i below = absurd (omega (arith, below))
there (x ∷ xs) zero below = refl
there (x ∷ xs) (suc i) below = there xs i (omega (arith, below))

pub typed : (types : List ActionType) (acts : List Act) → list_all (λ act. nat_lt act.action (length types)) acts ≡ true → (a : ℕ) (act : Act) → slice_get acts a ≡ Some act
    → IsSome (slice_get (map view_action types) act.action)
typed types acts all a act is =
    let each : AllPass (λ act. nat_lt act.action (length types)) acts = AllPass-from_list_all (λ act. nat_lt act.action (length types)) acts all in
    let test : nat_lt act.action (length types) ≡ true =
    subst (λ (x : Act). nat_lt x.action (length types) ≡ true) (get_or_from_slice_get acts a act act is) (each a act (slice_get_within acts a act is)) in
    let below : act.action < length types = grind (arith, nat_tests, test) in
    there (map view_action types) act.action (let many = length-map types view_action in omega (arith, below, many))
