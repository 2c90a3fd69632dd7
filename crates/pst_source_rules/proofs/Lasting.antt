-- The rules of pools and of the root together.
use Rattle.std.proofs.Common.{◌≡◌, ◌⊎◌, inl, inr, ℕ, List, refl, sym, ap, ◌∙◌, Bool, true, false, arith}
use Rattle.std.proofs.lemmas.Bool.{true≢false}
use Rattle.std.specs.Prelude.{Option, Some, None, is_some, Result, Ok, Err, if◌then◌else◌}
use Rattle.pst_base.specs.declared.position.Place.{Place}
use Rattle.pst_base.specs.Laws.{BeforeGoesOn}
use Rattle.pst_ast.specs.declared.instance.Instance.{Instance}
use Rattle.pst_ast.specs.DeclarationTree.{UnitTree}
use Rattle.pst_bind.specs.declared.pool_map.PoolMap.{PoolMap}
use Rattle.pst_bind.specs.PoolRules.{PoolBreach}
use Rattle.pst_bind.specs.PooledSources.{ArePooled}
use Rattle.pst_elab_rules.specs.Ends.{LastBreach, OfPools, OfRoot, RootBreach, NoRoot, root_number, root_place}
use Rattle.pst_name_rules.specs.Earlier.{is_no_later}
use Rattle.pst_name_rules.specs.Leasts.{IsLeastOf}
use Rattle.pst_name_rules.proofs.Leasts.{least_of_both}
use Rattle.pst_ast.specs.Breaches.{IsLeast, IsNone, IsNoLater}
use Rattle.pst_ast.specs.declared.referent.Finding.{Finding}
use Rattle.pst_source_rules.specs.Judged.{IsLast, both_of, no_root, or_first}

some_none : {r : ℕ} → Some r ≡ None → ⊥
some_none e = true≢false (ap is_some e)

module _ (units : List UnitTree) (names : List (List ℕ)) (instances : List Instance) (component action : List ℕ) where
  abbrev Last : Place → ℕ → Type 0
  Last = LastBreach units names instances component action

  abbrev root : Option ℕ
  root = root_number units names instances component action

  abbrev OfPool : Finding → Type 0
  OfPool f = PoolBreach units instances f.place f.rule

  abbrev OfNoRoot : Finding → Type 0
  OfNoRoot f = RootBreach units names instances component action f.place f.rule

  -- a breach of the root is at its place
  root_later : (p : Place) (q : ℕ) → RootBreach units names instances component action p q → IsNoLater root_place 24 p q
  root_later _ _ (NoRoot e) = inr (refl, omega arith)

  has_none : (n : ℕ) → Some n ≡ root → (p : Place) (q : ℕ) → RootBreach units names instances component action p q → ⊥
  has_none n is _ _ (NoRoot e) = some_none (is ∙ e)

  none_at_last : IsNone (PoolBreach units instances) → (n : ℕ) → Some n ≡ root → (p : Place) (q : ℕ) → Last p q → ⊥
  none_at_last pools n is p q (OfPools _ _ b) = pools p q b
  none_at_last pools n is p q (OfRoot _ _ b) = has_none n is p q b

  root_least : IsNone (PoolBreach units instances) → (p : Place) (q : ℕ) → Last p q → IsNoLater root_place 24 p q
  root_least pools p q (OfPools _ _ b) = absurd (pools p q b)
  root_least pools p q (OfRoot _ _ b) = root_later p q b

  pools_least : (f : Finding) → IsLeast (PoolBreach units instances) f.place f.rule → (n : ℕ) → Some n ≡ root → (p : Place) (q : ℕ) → Last p q → IsNoLater f.place f.rule p q
  pools_least f least n is p q (OfPools _ _ b) = least.least p q b
  pools_least f least n is p q (OfRoot _ _ b) = absurd (has_none n is p q b)

  of_last : (p : Place) (q : ℕ) → Last p q → PoolBreach units instances p q ⊎ RootBreach units names instances component action p q
  of_last p q (OfPools _ _ b) = inl b
  of_last p q (OfRoot _ _ b) = inr b

  is_last : (f : Finding) → OfPool f ⊎ OfNoRoot f → Last f.place f.rule
  is_last f (inl b) = OfPools f.place f.rule b
  is_last f (inr b) = OfRoot f.place f.rule b

  to_last : (f : Finding) → IsLeastOf (λ g. OfPool g ⊎ OfNoRoot g) (Some f) → IsLeast Last f.place f.rule
  to_last f least = record { is = is_last f least.0; least = λ p q b. least.1 (record { place = p; rule = q }) (of_last p q b) }

  picked : (b : Bool) (f g : Finding) → IsLeastOf (λ h. OfPool h ⊎ OfNoRoot h) (if b then Some f else Some g)
      → IsLeast Last (or_first (if b then Some f else Some g) f).place (or_first (if b then Some f else Some g) f).rule
  picked true f g least = to_last f least
  picked false f g least = to_last g least

  pub last_is : BeforeGoesOn → (pooled : Result PoolMap Finding) (number : Option ℕ) → ArePooled units instances pooled → number ≡ root → IsLast units names instances component action (both_of pooled number)
  last_is on (Ok found) (Some n) are is = (are.0, none_at_last are.1 n is, sym is)
  last_is on (Ok found) None are is = record { is = OfRoot root_place 24 (NoRoot (sym is)); least = root_least are.1 }
  last_is on (Err f) (Some n) are is = record { is = OfPools f.place f.rule are.is; least = pools_least f are n is }
  last_is on (Err f) None are is =
      picked (is_no_later f no_root) f no_root
      (least_of_both on OfPool OfNoRoot (Some f) (Some no_root) (are.is, λ g b. are.least g.place g.rule b) (NoRoot (sym is), λ g b. root_later g.place g.rule b))
