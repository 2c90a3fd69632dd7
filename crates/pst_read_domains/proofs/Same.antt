-- Which options a blank has depends on nothing that claims and values change.
use Rattle.std.proofs.Common.{◌≡◌, ℕ, List, [], ◌++◌, Option, Some, None, refl, sym, ap, ◌∙◌}
use Rattle.std.specs.Prelude.{slice_get, flat_map, option_to_list}
use Rattle.std.specs.Option.{option_map, option_and_then}
use Rattle.std.proofs.lemmas.Option.{none-some, same_Some, slice_get-map}
use Rattle.pst_model.specs.ModelTree.{ModelTree}
use Rattle.pst_scen.specs.declared.scenario.Scenario.{Scenario}
use Rattle.pst_scen.specs.Scenarios.{reference_at}
use Rattle.pst_legal.specs.Types.{action_field, served_claim}
use Rattle.pst_legal.specs.Blanks.{Blank, Instance, OfFirst, OfAct, OfOutput, OfClaim, instances_in, pool_field, claim_field, domain_in, domain_of}
use Rattle.pst_built.proofs.Bares.{Bare, bare, bare_at, bare_is, Kind, kind_in}
use Rattle.pst_built.proofs.Values.{IsSameOrder}

and_same : {A K B : Type 0} (view : A → K) (f : K → Option B) (o p : Option A) → option_map view o ≡ option_map view p → option_and_then (λ a. f (view a)) o ≡ option_and_then (λ a. f (view a)) p
and_same view f None None e = refl
and_same view f None (Some y) e = absurd (none-some (view y) e)
and_same view f (Some x) None e = absurd (none-some (view x) (sym e))
and_same view f (Some x) (Some y) e = ap f (same_Some (view x) (view y) e)

list_same : {A K B : Type 0} (view : A → K) (f : K → List B) (o p : Option A) → option_map view o ≡ option_map view p → flat_map (λ a. f (view a)) (option_to_list o) ≡ flat_map (λ a. f (view a)) (option_to_list p)
list_same view f None None e = refl
list_same view f None (Some y) e = absurd (none-some (view y) e)
list_same view f (Some x) None e = absurd (none-some (view x) (sym e))
list_same view f (Some x) (Some y) e = ap (λ k. f k ++ []) (same_Some (view x) (view y) e)

module _ (s t : Scenario) (same : IsSameOrder s t) where
  kind_same : (a : ℕ) → option_map kind_in (slice_get t.actions a) ≡ option_map kind_in (slice_get s.actions a)
  kind_same a = sym (slice_get-map kind_in t.actions a) ∙ ap (λ ks. slice_get ks a) same.kinds ∙ slice_get-map kind_in s.actions a

  bare_same : (a r : ℕ) → option_map bare (reference_at t.actions a r) ≡ option_map bare (reference_at s.actions a r)
  bare_same a r = sym (bare_is t.actions a r) ∙ ap (λ rows. bare_at rows a r) same.references ∙ bare_is s.actions a r

  pub same_domain : (m : ModelTree) (blank : Blank) → domain_of m t.actions blank ≡ domain_of m s.actions blank
  same_domain m (Instance act claim) =
      list_same kind_in (λ (k : Kind). instances_in (option_and_then (λ pool. slice_get m.pools pool) (served_claim m k.action k.instance claim))) (slice_get t.actions act) (slice_get s.actions act) (kind_same act)
  same_domain m (OfFirst pool field) = refl
  same_domain m (OfAct act field) = ap domain_in (and_same kind_in (λ (k : Kind). action_field m k.action field) (slice_get t.actions act) (slice_get s.actions act) (kind_same act))
  same_domain m (OfOutput act reference field) =
      ap domain_in (and_same bare (λ (b : Bare). pool_field m b.pool field) (reference_at t.actions act reference) (reference_at s.actions act reference) (bare_same act reference))
  same_domain m (OfClaim act claim field) = ap domain_in (and_same kind_in (λ (k : Kind). claim_field m k.action claim field) (slice_get t.actions act) (slice_get s.actions act) (kind_same act))
