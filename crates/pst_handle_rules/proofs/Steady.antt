-- Handles that are judged one after another.
use Rattle.std.proofs.Common.{◌≡◌, ◌⊎◌, inl, inr, ⊎_elim, ℕ, ◌+◌, ◌<◌, Bool, true, false, List, [], ◌∷◌, length, get_or, Option, refl, sym, ap, subst, ◌∙◌, arith, true≢false}
use Rattle.std.specs.Prelude.{Some, None, IsTrue, slice_get}
use Rattle.std.proofs.lemmas.Option.{get_or_from_slice_get}
use Rattle.pst_base.specs.Laws.{BeforeGoesOn}
use Rattle.pst_ast.specs.DeclarationTree.{UnitTree}
use Rattle.pst_ast.specs.declared.referent.Finding.{Finding}
use Rattle.pst_type_rules.specs.Handles.{IsSteadyIn}
use Rattle.pst_name_rules.specs.Earlier.{earlier}
use Rattle.pst_name_rules.specs.Leasts.{NoLater, IsLeastOf}
use Rattle.pst_name_rules.proofs.Leasts.{told, least_of_both}
use Rattle.pst_handle_uses.specs.declared.handle_use.Judging.{Judging}
use Rattle.pst_handle_rules.specs.Judged.{IsBroken, IsBrokenAt, IsBrokenBefore, broken_at}
use Rattle.pst_handle_rules.proofs.Firsts.{some_is, there_is, below_or}
use Rattle.pst_steady.specs.Lined.{HasUnsteady}

no_some : {X : Type 0} {x : X} → None ≡ Some x → ⊥
no_some {X} {x} e = cc

single : (f : Finding) → IsLeastOf (λ g. g ≡ f) (Some f)
single f = (refl, λ g e. inr (ap (λ (h : Finding). h.place) (sym e), omega (arith, ap (λ (h : Finding). h.rule) e)))

module _ (on : BeforeGoesOn) (units : List UnitTree) (judgings : List Judging) (n : ℕ) (j : Judging) (there : slice_get judgings n ≡ Some j) where
  parted : (f : Finding) → IsBrokenBefore units judgings (n + 1) f → IsBrokenBefore units judgings n f ⊎ IsBrokenAt units judgings n f
  parted f (k, l, at) = elim (below_or k n l) [ inl b ↦ inl (k, b, at) | inr e ↦ inr (subst (λ (i : ℕ). IsBrokenAt units judgings i f) e at) ]

  here_is : (f : Finding) → IsBrokenAt units judgings n f → IsBroken units j × (f ≡ broken_at j)
  here_is f (i, at, broken, is) =
      let same : i ≡ j = some_is (sym at ∙ there) in
      (subst (IsBroken units) same broken, is ∙ ap (λ (x : Judging). broken_at x) same)

  earlier_one : (f : Finding) → earlier (Some f) (Some (broken_at j)) ≡ Some f → NoLater f (broken_at j)
  earlier_one f e = (subst (IsLeastOf (λ g. (g ≡ f) ⊎ (g ≡ broken_at j))) e (least_of_both on (λ g. g ≡ f) (λ g. g ≡ broken_at j) (Some f) (Some (broken_at j)) (single f) (single (broken_at j)))).1 (broken_at j) (inr refl)

  -- a later one changes nothing
  pub later_same : (least : Option Finding) → earlier least (Some (broken_at j)) ≡ least → IsLeastOf (IsBrokenBefore units judgings n) least → IsLeastOf (IsBrokenBefore units judgings (n + 1)) least
  later_same None e least = absurd (no_some (sym e))
  later_same (Some f) e least =
      let (k, l, at) = least.0 in
      ((k, omega (arith, l), at), λ g has. ⊎_elim (λ before. least.1 g before) (λ here. subst (NoLater f) (sym (here_is g here).1) (earlier_one f e)) (parted g has))

  pub broken_next : (least next : Option Finding) → next ≡ earlier least (Some (broken_at j)) → IsBroken units j → IsLeastOf (IsBrokenBefore units judgings n) least → IsLeastOf (IsBrokenBefore units judgings (n + 1)) next
  broken_next least next is broken before =
      subst (IsLeastOf (IsBrokenBefore units judgings (n + 1))) (sym is)
      (told on (λ g. IsBrokenBefore units judgings n g ⊎ (g ≡ broken_at j)) (IsBrokenBefore units judgings (n + 1)) (earlier least (Some (broken_at j))) joined split
      (least_of_both on (IsBrokenBefore units judgings n) (λ g. g ≡ broken_at j) least (Some (broken_at j)) before (single (broken_at j))))
    where
      joined : (g : Finding) → IsBrokenBefore units judgings n g ⊎ (g ≡ broken_at j) → IsBrokenBefore units judgings (n + 1) g
      joined g (inl (k, l, at)) = (k, omega (arith, l), at)
      joined g (inr e) = (n, omega arith, (j, there, broken, e))

      split : (g : Finding) → IsBrokenBefore units judgings (n + 1) g → IsBrokenBefore units judgings n g ⊎ (g ≡ broken_at j)
      split g has = ⊎_elim (λ before. inl before) (λ here. inr (here_is g here).1) (parted g has)

  pub whole_same : (least : Option Finding) → (IsBroken units j → ⊥) → IsLeastOf (IsBrokenBefore units judgings n) least → IsLeastOf (IsBrokenBefore units judgings (n + 1)) least
  whole_same least sound before = told on (IsBrokenBefore units judgings n) (IsBrokenBefore units judgings (n + 1)) least joined split before
    where
      joined : (g : Finding) → IsBrokenBefore units judgings n g → IsBrokenBefore units judgings (n + 1) g
      joined g (k, l, at) = (k, omega (arith, l), at)

      split : (g : Finding) → IsBrokenBefore units judgings (n + 1) g → IsBrokenBefore units judgings n g
      split g has = ⊎_elim (λ before. before) (λ here. absurd (sound (here_is g here).0)) (parted g has)
