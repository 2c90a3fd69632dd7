-- How many of what a body declares pass a test, and what stands at one place.
use Rattle.std.proofs.Common.{◌≡◌, ◌≤◌, inl, inr, refl, sym, ap, subst, arith, ◌∙◌}
use Rattle.std.specs.Prelude.{ℕ, zero, suc, ◌+◌, Bool, true, false, not, List, [], ◌∷◌, ◌++◌, length, slice_get, Some, None, cond}
use Rattle.std.specs.List.{filter, flat_map}
use Rattle.std.proofs.lemmas.List.{length-append}
use Rattle.std.proofs.lemmas.List.Elements.{filter-append}
use Rattle.std.proofs.lemmas.Option.{none-some, same_Some}
use Rattle.pst_base.specs.declared.position.Place.{Place}
use Rattle.pst_ast.specs.DeclarationTree.{UnitTree, MakeUnit, ItemTree, ItemComponent, ItemObject, ItemEnum, ItemFunction, ItemEmpty, MakeComponent, ComponentPartTree, ComponentPartAction, ComponentPartObject, ComponentPartEnum, ComponentPartFunction, ComponentPartPool, ComponentPartPoolBind, ComponentPartMembers, ComponentPartEmpty, ActionTree, MakeAction, ActionPartTree}
use Rattle.pst_ast.specs.declared.scope_declaration.Declaration.{Declaration}
use Rattle.pst_ast.specs.Declarations.{type_declared, action_declared, in_action_part, in_action, in_component_part, in_item_of_unit, in_unit, declarations}
use Rattle.pst_ast.specs.declared.scope_declaration.Sort.TheVariants as sort
use Rattle.pst_ast.specs.Sorts.{same_place}
use Rattle.pst_type_rules.specs.Sites.{DeclaredAction, action_of, actions_in_part, actions_in_item, items_of, actions}
use Rattle.pst_tree.specs.Bases.{number_in}
use Rattle.pst_sound_model.proofs.ConstantsIn.{same_places}
use Rattle.pst_sound_model.proofs.Members.{In, in_get, in_flat_map, to_filter, in_filter}
use Rattle.pst_sound_model.proofs.Owned.{same_itself}
use Rattle.pst_sound_model.specs.Conditions.{StandApart}

abbrev pub counted : (Declaration → Bool) → List Declaration → ℕ
counted test xs = length (filter test xs)

both_counted : (test : Declaration → Bool) (xs ys : List Declaration) → counted test (xs ++ ys) ≡ counted test xs + counted test ys
both_counted test xs ys = ap length (filter-append test xs ys) ∙ length-append (filter test xs) (filter test ys)

counted_flat : {X : Type 0} (test : Declaration → Bool) (f : X → List Declaration) (xs : List X) (x : X) → In x xs → counted test (f x) ≤ counted test (flat_map f xs)
counted_flat test f [] x there = absurd there
counted_flat test f (y ∷ more) x (inl e) = let b = both_counted test (f y) (flat_map f more) in let same : counted test (f y) ≡ counted test (f x) = ap (λ z. counted test (f z)) e in omega (arith, b, same)
counted_flat test f (y ∷ more) x (inr there) = let b = both_counted test (f y) (flat_map f more) in let on = counted_flat test f more x there in omega (arith, b, on)

one_more_by : (b : Bool) (x : Declaration) (xs : List Declaration) → length xs ≤ length (cond b (x ∷ xs) xs)
one_more_by true x xs = omega arith
one_more_by false x xs = omega arith

counted_more : (test : Declaration → Bool) (x : Declaration) (xs : List Declaration) → counted test xs ≤ counted test (x ∷ xs)
counted_more test x xs = one_more_by (test x) x (filter test xs)

module _ (units : List UnitTree) (test : Declaration → Bool) where
  item_counted : (item : ItemTree) → In item (flat_map items_of units) → counted test (in_item_of_unit item) ≤ counted test (declarations units)
  item_counted item there = let r = in_flat_map items_of units item there in by r.0 r.1 r.2
    where
      by : (unit : UnitTree) → In unit units → In item (items_of unit) → counted test (in_item_of_unit item) ≤ counted test (declarations units)
      by (MakeUnit items finish) at has =
          let one = counted_flat test in_item_of_unit items item has in
          let two = counted_flat test in_unit units (MakeUnit items finish) at in omega (arith, one, two)

  action_counted : (component : Place) (action : ActionTree) (part : ActionPartTree) → In part (action_of action).parts → counted test (in_action_part (action_of action).name.place part) ≤ counted test (in_action component action)
  action_counted component (MakeAction abstract_place word name base left parts right) part there =
      let one = counted_flat test (in_action_part name.place) parts part there in
      let two = counted_more test (action_declared component base name) (flat_map (in_action_part name.place) parts) in omega (arith, one, two)

  part_counted : (component : Place) (of : ComponentPartTree) (a : DeclaredAction) → In a (actions_in_part of) → (part : ActionPartTree) → In part a.parts → counted test (in_action_part a.name.place part) ≤ counted test (in_component_part component of)
  part_counted component (ComponentPartAction action) a (inl e) part there =
      subst (λ (x : DeclaredAction). In part x.parts → counted test (in_action_part x.name.place part) ≤ counted test (in_component_part component (ComponentPartAction action))) e (action_counted component action part) there
  part_counted component (ComponentPartAction action) a (inr has) part there = absurd has
  part_counted component (ComponentPartObject object) a has part there = absurd has
  part_counted component (ComponentPartEnum enum) a has part there = absurd has
  part_counted component (ComponentPartFunction function) a has part there = absurd has
  part_counted component (ComponentPartPool pool) a has part there = absurd has
  part_counted component (ComponentPartPoolBind bind) a has part there = absurd has
  part_counted component (ComponentPartMembers members) a has part there = absurd has
  part_counted component (ComponentPartEmpty place) a has part there = absurd has

  in_item : (item : ItemTree) → In item (flat_map items_of units) → (a : DeclaredAction) → In a (actions_in_item item) → (part : ActionPartTree) → In part a.parts → counted test (in_action_part a.name.place part) ≤ counted test (declarations units)
  in_item (ItemComponent (MakeComponent word name left parts right)) there a has part among =
      let r = in_flat_map actions_in_part parts a has in
      let one = part_counted name.place r.0 a r.2 part among in
      let two = counted_flat test (in_component_part name.place) parts r.0 r.1 in
      let three = counted_more test (type_declared None sort.Component name) (flat_map (in_component_part name.place) parts) in
      let four = item_counted (ItemComponent (MakeComponent word name left parts right)) there in omega (arith, one, two, three, four)
  in_item (ItemObject object) there a has part among = absurd has
  in_item (ItemEnum enum) there a has part among = absurd has
  in_item (ItemFunction function) there a has part among = absurd has
  in_item (ItemEmpty place) there a has part among = absurd has

  -- what a part of an action declares, the sources declare
  pub declared_counted : (a : DeclaredAction) → In a (actions units) → (part : ActionPartTree) → In part a.parts → counted test (in_action_part a.name.place part) ≤ counted test (declarations units)
  declared_counted a there part among = let r = in_flat_map actions_in_item (flat_map items_of units) a there in in_item r.0 r.1 a r.2 part among

-- ---- places

abbrev pub stands_at : Place → Declaration → Bool
stands_at place d = same_place d.name.place place

-- at each place there is no more than one
abbrev pub AreOnce : List Declaration → Type 0
AreOnce xs = (place : Place) → counted (stands_at place) xs ≤ 1

in_got : {A : Type 0} (xs : List A) (x : A) → In x xs → (k : ℕ) × (slice_get xs k ≡ Some x)
in_got [] x there = absurd there
in_got (y ∷ more) x (inl e) = (zero, ap (λ v. Some v) e)
in_got (y ∷ more) x (inr there) = let r = in_got more x there in (suc r.0, r.1)

apart_more : (x : Declaration) (xs : List Declaration) → StandApart (x ∷ xs) → StandApart xs
apart_more x xs apart j k d e at also same = let n = apart (suc j) (suc k) d e at also same in omega (arith, n)

empty_by : (xs : List Declaration) → ((d : Declaration) → In d xs → ⊥) → length xs ≤ 0
empty_by [] none = omega arith
empty_by (x ∷ xs) none = absurd (none x (inl refl))

once_by : (b : Bool) (x : Declaration) (xs : List Declaration) → (b ≡ true → length xs ≤ 0) → length xs ≤ 1 → length (cond b (x ∷ xs) xs) ≤ 1
once_by true x xs none on = let n = none refl in omega (arith, n)
once_by false x xs none on = on

pub are_once : (xs : List Declaration) → StandApart xs → AreOnce xs
are_once [] apart place = omega arith
are_once (x ∷ xs) apart place =
    once_by (stands_at place x) x (filter (stands_at place) xs)
    (λ here. empty_by (filter (stands_at place) xs) (λ d there. other d here (in_filter (stands_at place) xs d there)))
    (are_once xs (apart_more x xs apart) place)
  where
    other : (d : Declaration) → stands_at place x ≡ true → In d xs × (stands_at place d ≡ true) → ⊥
    other d here both =
        let g = in_got xs d both.0 in
        let n = apart zero (suc g.0) x d refl g.1 (same_places x.name.place place here ∙ sym (same_places d.name.place place both.1)) in omega (arith, n)

some_counted : (place : Place) (xs : List Declaration) (d : Declaration) → In d xs → stands_at place d ≡ true → 1 ≤ counted (stands_at place) xs
some_counted place xs d there is = by (filter (stands_at place) xs) (to_filter (stands_at place) xs d there is)
  where
    by : (ys : List Declaration) → In d ys → 1 ≤ length ys
    by [] h = absurd h
    by (y ∷ ys) h = omega arith

once_more : (x : Declaration) (xs : List Declaration) → AreOnce (x ∷ xs) → AreOnce xs
once_more x xs once place = let n = once place in let m = counted_more (stands_at place) x xs in omega (arith, n, m)

pub once_numbered : (xs : List Declaration) → AreOnce xs → (k : ℕ) (d : Declaration) → slice_get xs k ≡ Some d → number_in xs d ≡ k
once_numbered [] once k d e = absurd (none-some d e)
once_numbered (x ∷ xs) once zero d e =
    ap (λ (b : Bool). cond (not b) (1 + number_in xs d) 0) (subst (λ (y : Declaration). stands_at d.name.place y ≡ true) (sym (same_Some x d e)) (same_itself d))
once_numbered (x ∷ xs) once (suc k) d e = by (stands_at d.name.place x) refl (once_numbered xs (once_more x xs once) k d e)
  where
    again : stands_at d.name.place x ≡ true → ⊥
    again here =
        let n = once d.name.place in
        let m = some_counted d.name.place xs d (in_get xs k d e) (same_itself d) in
        let both : counted (stands_at d.name.place) (x ∷ xs) ≡ suc (counted (stands_at d.name.place) xs) = ap (λ (b : Bool). length (cond b (x ∷ filter (stands_at d.name.place) xs) (filter (stands_at d.name.place) xs))) here in omega (arith, n, m, both)

    by : (b : Bool) → stands_at d.name.place x ≡ b → number_in xs d ≡ k → cond (not b) (1 + number_in xs d) 0 ≡ suc k
    by true here n = absurd (again here)
    by false here n = omega (arith, n)

fewer_by : (b : Bool) (test : Declaration → Bool) (x : Declaration) (ys zs : List Declaration) → counted test ys ≤ counted test zs → counted test (cond b (x ∷ ys) ys) ≤ counted test (x ∷ zs)
fewer_by true test x ys zs on = by (test x)
  where
    by : (c : Bool) → length (cond c (x ∷ filter test ys) (filter test ys)) ≤ length (cond c (x ∷ filter test zs) (filter test zs))
    by true = omega (arith, on)
    by false = on
fewer_by false test x ys zs on = let m = counted_more test x zs in omega (arith, on, m)

pub fewer : (test other : Declaration → Bool) (xs : List Declaration) → counted test (filter other xs) ≤ counted test xs
fewer test other [] = omega arith
fewer test other (x ∷ xs) = fewer_by (other x) test x (filter other xs) xs (fewer test other xs)
