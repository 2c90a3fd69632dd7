-- There is a row for nothing but what is aimed at, whatever is added.
use Rattle.std.proofs.Common.{◌≡◌, refl, sym, ap, ◌∙◌, cond}
use Rattle.std.specs.Prelude.{◌&&◌, ℕ, nat_eq, Bool, true, false, List, [], ◌∷◌, ◌++◌, Option, Some, None, Result, Ok, Err, OnOk}
use Rattle.std.proofs.lemmas.List.{append-nil}
use Rattle.pst_bound_pools.specs.declared.explicit_rows.AimKey.{AimKey}
use Rattle.pst_bound_pools.specs.declared.explicit_rows.TargetKey.{TargetKey}
use Rattle.pst_bound_pools.specs.BindRows.{aim_of, same_aim, same_target}
use Rattle.pst_bound_pools.proofs.Giving.{and_false}

pub on_ok : {T E P Q : Type 0} (r : Result T E) → (P → Q) → OnOk r P → OnOk r Q
on_ok (Ok x) f h = f h
on_ok (Err e) f h = tt

-- what is aimed at
module _ (old new : AimKey → Option Bool) (old_row new_row : TargetKey → List ℕ) (key : TargetKey) (pool : ℕ) where
  still_by : (b : Bool) (q : TargetKey) → same_aim (aim_of q) (aim_of key) ≡ b → (old (aim_of q) ≡ None → old_row q ≡ []) → new (aim_of q) ≡ cond b (Some true) (old (aim_of q))
      → new_row q ≡ old_row q ++ cond (nat_eq q.from key.from && b) (pool ∷ []) [] → new (aim_of q) ≡ None → new_row q ≡ []
  still_by true q is none here row gone = absurd (some_not (sym here ∙ gone))
    where
      some_not : Some true ≡ None → ⊥
      some_not e = cc
  still_by false q is none here row gone =
      row ∙ ap (λ (b : Bool). old_row q ++ cond b (pool ∷ []) []) (and_false (nat_eq q.from key.from)) ∙ append-nil (old_row q) ∙ none (sym here ∙ gone)

  pub still_aimed : ((q : TargetKey) → old (aim_of q) ≡ None → old_row q ≡ []) → ((a : AimKey) → new a ≡ cond (same_aim a (aim_of key)) (Some true) (old a))
      → ((q : TargetKey) → new_row q ≡ old_row q ++ cond (same_target q key) (pool ∷ []) []) → (q : TargetKey) → new (aim_of q) ≡ None → new_row q ≡ []
  still_aimed none here row q = still_by (same_aim (aim_of q) (aim_of key)) q refl (none q) (here (aim_of q)) (row q)
