-- Instances that are laid out so stand in preorder.
use Rattle.std.proofs.Common.{◌≡◌, ◌⊎◌, inl, inr, arith, ◌<◌, ◌≤◌, refl, sym, subst, ap, ◌∙◌}
use Rattle.std.specs.Prelude.{ℕ, zero, suc, ◌+◌, ◌-◌, List, ◌∷◌, length, slice_get, get_or, Option, Some, None}
use Rattle.std.specs.Option.{option_map}
use Rattle.std.proofs.lemmas.List.{length-map}
use Rattle.std.proofs.lemmas.Option.{slice_get-map, slice_get-get_or}
use Rattle.pst_ast.specs.declared.instance.Instance.{Instance}
use Rattle.pst_ast.specs.DeclarationTree.{UnitTree}
use Rattle.pst_ast.specs.Declarations.{declarations}
use Rattle.pst_model.specs.declared.model.Part.{Part}
use Rattle.pst_model.specs.Preorder.{LiesUnder, AtTop, Below, IsParent, IsSubtree, IsInstanceTree}
use Rattle.pst_tree.specs.Instances.{AreInstances, IsSubtree as IsTree, Subtree, part_of, parts_of}
use Rattle.pst_tree.proofs.One.{some_is, same_found}
use Rattle.pst_tree.proofs.Found.{is_missing, map_gave}
use Rattle.pst_tree.proofs.LaidOut.{Stands, AreLaidOut, HasParent, from_get, to_get, not_behind, subtree_laid_out}

module _ (top : Instance) (below : List Instance) (no_parent : top.parent ≡ None) (last : top.last ≡ length below) (laid : AreLaidOut 0 None (top ∷ below)) where
  abbrev xs : List Instance
  xs = top ∷ below

  -- an instance by its number
  abbrev At : ℕ → Instance → Type 0
  At m y = slice_get xs m ≡ Some y

  stands : (m : ℕ) (y : Instance) → At m y → Stands 0 xs m y
  stands m y e = subst (λ (k : ℕ). Stands 0 xs k y) (omega arith) (from_get 0 xs m y e)

  at : (m : ℕ) (y : Instance) → Stands 0 xs m y → At m y
  at m y s = let k = to_get 0 xs m y s in subst (λ (i : ℕ). slice_get xs i ≡ Some y) (omega (arith, k.1)) k.2

  -- the instance of a part
  instance_of : (m : ℕ) (part : Part) → slice_get (parts_of xs) m ≡ Some part → (y : Instance) × (At m y) × (part_of y ≡ part)
  instance_of m part e = map_gave part_of (slice_get xs m) part (sym (slice_get-map part_of xs m) ∙ e)

  part_at : (m : ℕ) (y : Instance) → At m y → slice_get (parts_of xs) m ≡ Some (part_of y)
  part_at m y e = slice_get-map part_of xs m ∙ ap (λ (o : Option Instance). option_map part_of o) e

  instance_at : (m : ℕ) → m < length xs → (y : Instance) × At m y
  instance_at m within = (get_or xs m top, slice_get-get_or xs m top within)

  -- ---- parents

  not_top : (n : ℕ) (y : Instance) (p q : ℕ) → p < n → y.parent ≡ Some p → y.parent ≡ Some q → q < n
  not_top n y p q less a b = omega (arith, less, same_found y.parent p q a b)

  earlier : (n : ℕ) (y : Instance) (q : ℕ) → y.parent ≡ Some q → (y.parent ≡ None) ⊎ HasParent 0 xs n y → q < n
  earlier n y q e (inl none) = absurd (is_missing q (sym none ∙ e))
  earlier n y q e (inr p) = not_top n y p.number q p.earlier p.named e

  parent_of : (n : ℕ) (y : Instance) → At n y → IsParent n y.parent
  parent_of zero y e = subst (λ (o : Option ℕ). IsParent zero o) (sym (sym (ap (λ (z : Instance). z.parent) (some_is top y e)) ∙ no_parent)) refl
  parent_of (suc n) y e =
      let up = laid.inside 0 top (suc n) y (stands 0 top refl) (stands (suc n) y e) (omega arith) (omega (arith, last, not_behind 0 xs (suc n) y (stands (suc n) y e))) in
      subst (λ (o : Option ℕ). IsParent (suc n) o) (sym up.named) (earlier (suc n) y up.number up.named (laid.parents (suc n) y (stands (suc n) y e)))

  -- ---- subtrees

  module _ (t : ℕ) (z : Instance) (there : At t z) where
    -- what is below it stands behind it, within its subtree, and ends there
    abbrev IsWithin : ℕ → Type 0
    IsWithin m = (t ≤ m) × (m ≤ z.last) × ((y : Instance) → At m y → y.last ≤ z.last)

    ends_with : (y w : Instance) → y ≡ w → w.last ≤ z.last → y.last ≤ z.last
    ends_with y w e less = omega (arith, ap (λ (i : Instance). i.last) e, less)

    below_within : (m parent : ℕ) (y : Instance) → At m y → y.parent ≡ Some parent → IsWithin parent → (y.parent ≡ None) ⊎ HasParent 0 xs m y → IsWithin m
    below_within m parent y e named within (inl none) = absurd (is_missing parent (sym none ∙ named))
    below_within m parent y e named within (inr p) =
        let same : p.number ≡ parent = same_found y.parent p.number parent p.named named in
        let ends : p.instance.last ≤ z.last = within.2 p.instance (subst (λ (k : ℕ). At k p.instance) same (at p.number p.instance p.stands)) in
        (omega (arith, within.0, p.earlier, same), omega (arith, laid.least m y (stands m y e), p.ends, ends), λ w f. ends_with w y (same_found (slice_get xs m) w y f e) (omega (arith, p.ends, ends)))

    under_within : (m : ℕ) → LiesUnder (parts_of xs) t m → IsWithin m
    under_within m AtTop = (omega arith, laid.least t z (stands t z there), λ y e. ends_with y z (same_found (slice_get xs t) y z e there) (omega arith))
    under_within m (Below _ parent part got named up) =
        let y = instance_of m part got in
        below_within m parent y.0 y.1 (ap (λ (p : Part). p.parent) y.2 ∙ named) (under_within parent up) (laid.parents m y.0 (stands m y.0 y.1))

    shorter : (n : ℕ) (d : ℕ) (number m : ℕ) → m ≡ t + d → number < m → t ≤ number → d ≤ n → number - t < n
    shorter n d number m e less least h = omega (arith, e, less, least, h)

    within_under : (steps d m : ℕ) → m ≡ t + d → d < steps → m ≤ z.last → LiesUnder (parts_of xs) t m
    within_under zero d m e less within = absurd (omega (arith, less))
    within_under (suc steps) zero m e less within = subst (λ (k : ℕ). LiesUnder (parts_of xs) t k) (omega (arith, e)) AtTop
    within_under (suc steps) (suc d) m e less within =
        let y = instance_at m (omega (arith, within, laid.most t z (stands t z there))) in
        let up = laid.inside t z m y.0 (stands t z there) (stands m y.0 y.1) (omega (arith, e)) within in
        let before : up.number < m = earlier m y.0 up.number up.named (laid.parents m y.0 (stands m y.0 y.1)) in
        Below m up.number (part_of y.0) (part_at m y.0 y.1) up.named
        (within_under steps (up.number - t) up.number (omega (arith, up.least)) (omega (arith, e, before, up.least, less)) (omega (arith, before, within)))

    subtree_of : IsSubtree (parts_of xs) t z.last
    subtree_of = record {
      within = omega (arith, laid.most t z (stands t z there), length-map xs part_of);
      exactly = λ m. ((λ under. let w = under_within m under in (w.0, w.1)), (λ both. within_under (suc (m - t)) (m - t) m (omega (arith, both.0)) (omega arith) both.1));
    }

  pub in_preorder : IsInstanceTree (parts_of xs)
  in_preorder = record {
    parents = λ n part got. let y = instance_of n part got in subst (λ (p : Part). IsParent n p.parent) y.2 (parent_of n y.0 y.1);
    subtrees = λ n part got. let y = instance_of n part got in subst (λ (p : Part). IsSubtree (parts_of xs) n p.last) y.2 (subtree_of n y.0 y.1);
  }

pub instances_are_in_preorder : (units : List UnitTree) (names : List (List ℕ)) (instances : List Instance) → AreInstances units names instances → IsInstanceTree (parts_of instances)
instances_are_in_preorder units names instances are = of_tree are.root.name.id instances are.subtree
  where
    of_tree : (name : _) (ys : List Instance) → IsTree (declarations units) 0 are.root name None ys → IsInstanceTree (parts_of ys)
    of_tree name ys (Subtree number component _ parent below rest) =
        in_preorder _ below refl (omega arith) (subtree_laid_out (declarations units) 0 are.root name None ys (Subtree _ _ _ _ below rest))
