-- The walk through the instances, one after another.
use Rattle.std.proofs.Common.{◌≡◌, ◌≤◌, ◌<◌, arith, refl, sym, subst, ap, ◌∙◌, append_assoc}
use Rattle.std.specs.Prelude.{ℕ, ◌+◌, List, [], ◌∷◌, ◌++◌, map, length, reverse, Some, None}
use Rattle.std.specs.List.{filter_map}
use Rattle.std.proofs.lemmas.List.{append-nil, length-append, length-map, reverse-append}
use Rattle.pst_base.specs.declared.table.NameId.{NameId}
use Rattle.pst_ast.specs.declared.instance.Instance.{Instance}
use Rattle.pst_ast.specs.declared.scope_declaration.Declaration.{Declaration}
use Rattle.pst_tree.specs.declared.walk.Pending.{Pending}
use Rattle.pst_tree.specs.Instances.{instances_in, instance, IsSubtree, Subtree, AreSubtrees, NoSubtree, MoreSubtrees}
use Rattle.pst_tree.specs.Walked.{entry, bare, pending_of, pending_in, AreToCome, NoneToCome, MoreToCome, IsFront, AreOf, IsWalk}

pub no_items : {A : Type 0} (xs : List A) → length xs ≡ 0 → xs ≡ []
no_items [] e = refl
no_items (x ∷ xs) e = absurd (omega (arith, e))

module _ (ds : List Declaration) where
  row_to_come : (parent number : ℕ) (row : List Declaration) (ys : List Instance) (more : List Pending) (zs : List Instance) → AreSubtrees ds parent number row ys → AreToCome ds (number + length ys) more zs
      → AreToCome ds number (filter_map (pending_of ds parent) row ++ more) (ys ++ zs)
  row_to_come parent number row ys more zs (NoSubtree _ _) come = subst (λ (n : ℕ). AreToCome ds n more zs) (omega arith) come
  row_to_come parent number row ys more zs (MoreSubtrees _ _ d component others first rest typed tree behind) come =
      let far : number + length (first ++ rest) ≡ (number + length first) + length rest = omega (arith, length-append first rest) in
      let later = row_to_come parent (number + length first) others rest more zs behind (subst (λ (n : ℕ). AreToCome ds n more zs) far come) in
      let p : Pending = record { name = d.name.id; component = component; parent = parent } in
      let here : AreToCome ds number (p ∷ (filter_map (pending_of ds parent) others ++ more)) (first ++ (rest ++ zs)) =
      MoreToCome number p (filter_map (pending_of ds parent) others ++ more) first (rest ++ zs) tree later in
      rw (typed, append_assoc) here

  -- the first that is still to come, and what comes after it
  record Step (number : ℕ) (p : Pending) (more : List Pending) (zs : List Instance) : Type 0 where
    last : ℕ
    rest : List Instance
    is : zs ≡ instance p.name p.component (Some p.parent) last ∷ rest
    come : AreToCome ds (number + 1) (pending_in ds number p.component ++ more) rest

  step_of : (number : ℕ) (p : Pending) (more : List Pending) (first rest : List Instance) → IsSubtree ds number p.component p.name (Some p.parent) first → AreToCome ds (number + length first) more rest
      → Step number p more (first ++ rest)
  step_of number p more first rest (Subtree _ _ _ _ below are) come = record {
    last = number + length below;
    rest = below ++ rest;
    is = refl;
    come = row_to_come number (number + 1) (instances_in ds p.component) below more rest are (subst (λ (n : ℕ). AreToCome ds n more rest) (omega arith) come);
  }

  step : (number : ℕ) (p : Pending) (more : List Pending) (zs : List Instance) → AreToCome ds number (p ∷ more) zs → Step number p more zs
  step number p more zs (MoreToCome _ _ _ first rest tree come) = step_of number p more first rest tree come

  none_left : (number : ℕ) (zs : List Instance) → AreToCome ds number [] zs → zs ≡ []
  none_left number zs (NoneToCome _) = refl

  -- ---- the front of all instances

  front_of : (root : Declaration) (name : NameId) (all : List Instance) → IsSubtree ds 0 root name None all → IsFront ds all (entry name root.name.id None ∷ []) (pending_in ds 0 root ++ [])
  front_of root name all (Subtree _ _ _ _ below are) = record {
    rest = below;
    split = refl;
    come = subst (λ (ws : List Instance). AreToCome ds 1 (pending_in ds 0 root ++ []) ws) (append-nil below) (row_to_come 0 1 (instances_in ds root) below [] [] are (NoneToCome (1 + length below)));
  }

  front_on : (all listed : List Instance) (p : Pending) (more : List Pending) → IsFront ds all listed (p ∷ more)
      → IsFront ds all (listed ++ entry p.name p.component.name.id (Some p.parent) ∷ []) (pending_in ds (length listed) p.component ++ more)
  front_on all listed p more front =
      let next = step (length listed) p more front.rest front.come in
      let e : Instance = entry p.name p.component.name.id (Some p.parent) in
      record {
        rest = next.rest;
        split = front.split ∙ ap (λ (ws : List Instance). listed ++ map bare ws) next.is ∙ sym (append_assoc listed (e ∷ []) (map bare next.rest));
        come = subst (λ (n : ℕ). AreToCome ds n (pending_in ds (length listed) p.component ++ more) next.rest) (omega (arith, length-append listed (e ∷ []))) next.come;
      }

  module _ (root : Declaration) where
    pub walk_begins : (pending : List Pending) → reverse pending ≡ pending_in ds 0 root ++ [] → IsWalk ds root (entry root.name.id root.name.id None ∷ []) pending
    walk_begins pending e all are = subst (λ (ps : List Pending). IsFront ds all (entry root.name.id root.name.id None ∷ []) ps) (sym e) (front_of root root.name.id all are)

    popped : (all listed : List Instance) (before : List Pending) (p : Pending) → IsFront ds all listed (reverse (before ++ p ∷ [])) → IsFront ds all listed (p ∷ reverse before)
    popped all listed before p front = subst (λ (ps : List Pending). IsFront ds all listed ps) (reverse-append before (p ∷ [])) front

    pub walk_goes_on : (listed : List Instance) (before new : List Pending) (p : Pending) → IsWalk ds root listed (before ++ p ∷ []) → reverse new ≡ pending_in ds (length listed) p.component ++ reverse before
        → IsWalk ds root (listed ++ entry p.name p.component.name.id (Some p.parent) ∷ []) new
    walk_goes_on listed before new p walk e all are =
        subst (λ (ps : List Pending). IsFront ds all (listed ++ entry p.name p.component.name.id (Some p.parent) ∷ []) ps) (sym e) (front_on all listed p (reverse before) (popped all listed before p (walk all are)))

    pub walk_is_long : (listed : List Instance) (before : List Pending) (p : Pending) → IsWalk ds root listed (before ++ p ∷ []) → 256 ≤ length listed → (all : List Instance) → AreOf ds root all → 256 < length all
    walk_is_long listed before p walk long all are =
        let front = popped all listed before p (walk all are) in
        let next = step (length listed) p (reverse before) front.rest front.come in
        omega (arith, long, length-map all bare, ap length front.split, length-append listed (map bare front.rest), length-map front.rest bare, ap length next.is)

    pub walk_ends : (listed : List Instance) → IsWalk ds root listed [] → (all : List Instance) → AreOf ds root all → map bare all ≡ listed
    walk_ends listed walk all are =
        let front = walk all are in
        front.split ∙ ap (λ (ws : List Instance). listed ++ map bare ws) (none_left (length listed) front.rest front.come) ∙ append-nil listed
