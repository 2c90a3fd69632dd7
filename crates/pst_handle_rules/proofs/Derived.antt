-- From what is no base nothing is derived.
use Rattle.std.proofs.Common.{◌≡◌, ◌⊎◌, inl, inr, ℕ, zero, suc, Bool, true, false, ◌&&◌, nat_eq, List, [], ◌∷◌, Option, refl, sym, ap, subst, ◌∙◌, true≢false}
use Rattle.std.specs.Prelude.{Some, None, is_some, IsTrue, slice_get, if◌then◌else◌}
use Rattle.std.specs.Cmp.{nat_eq_equiv}
use Rattle.std.specs.List.{filter_map, cons_option}
use Rattle.std.specs.Option.{option_map}
use Rattle.pst_base.specs.declared.position.Place.{Place}
use Rattle.pst_ast.specs.DeclarationTree.{UnitTree}
use Rattle.pst_ast.specs.declared.scope_declaration.Declaration.{Declaration}
use Rattle.pst_ast.specs.Declarations.{declarations}
use Rattle.pst_ast.specs.Lookups.{base_of}
use Rattle.pst_ast.specs.Sorts.{same_place}
use Rattle.pst_type_rules.specs.Handles.{IsSteadyIn}
use Rattle.pst_type_rules.specs.Members.{IsOrDerives, Itself, Derives}
use Rattle.pst_tree.proofs.InheritedDeclared.{base_there}
use Rattle.pst_places.specs.Numbers.{number_in, number_from}
use Rattle.pst_steady.specs.Lined.{HasUnsteady}
use Rattle.pst_handle_uses.specs.declared.handle_use.Judging.{Judging}
use Rattle.pst_handle_rules.specs.Based.{base_place, places_of_bases}
use Rattle.pst_handle_rules.specs.Judged.{IsBroken}
use Rattle.pst_handle_rules.proofs.Firsts.{some_is}

no_some : {X : Type 0} {x : X} → None ≡ Some x → ⊥
no_some {X} {x} e = cc

place_itself : (p : Place) → same_place p p ≡ true
place_itself p =
    ap (λ (b : Bool). b && (nat_eq p.line p.line && nat_eq p.column p.column)) (nat_eq_equiv.refl p.file)
    ∙ ap (λ (b : Bool). b && nat_eq p.column p.column) (nat_eq_equiv.refl p.line)
    ∙ nat_eq_equiv.refl p.column

-- a place that isn't in a list isn't in a shorter one
rest_none : (n : ℕ) (q : Place) (more : List Place) (p : Place) (b : Bool) → (if b then Some n else number_from (suc n) more p) ≡ None → number_from (suc n) more p ≡ None
rest_none n q more p true e = absurd (no_some (sym e))
rest_none n q more p false e = e

module _ (ds : List Declaration) where
  tail_none : (n : ℕ) (o : Option Place) (xs : List Place) (p : Place) → number_from n (cons_option o xs) p ≡ None → (m : ℕ) × (number_from m xs p ≡ None)
  tail_none n None xs p e = (n, e)
  tail_none n (Some q) xs p e = (suc n, rest_none n q xs p (same_place q p) e)

  head_none : (n : ℕ) (o : Option Place) (xs : List Place) (p : Place) → o ≡ Some p → number_from n (cons_option o xs) p ≡ None → ⊥
  head_none n None xs p is e = no_some is
  head_none n (Some q) xs p is e = taken (same_place q p) (subst (λ (r : Place). same_place r p ≡ true) (sym (some_is is)) (place_itself p)) e
    where
      taken : (b : Bool) → b ≡ true → (if b then Some n else number_from (suc n) xs p) ≡ None → ⊥
      taken true t e = no_some (sym e)
      taken false t e = true≢false (sym t)

  no_base : (xs : List Declaration) (n : ℕ) (a : Declaration) → number_from n (filter_map (base_place ds) xs) a.name.place ≡ None → (i : ℕ) (x : Declaration) → slice_get xs i ≡ Some x → base_of ds x ≡ Some a → ⊥
  no_base [] n a none i x at led = no_some at
  no_base (y ∷ xs) n a none zero x at led =
      head_none n (base_place ds y) (filter_map (base_place ds) xs) a.name.place (ap (λ (o : Option Declaration). option_map (λ (b : Declaration). b.name.place) o) (ap (base_of ds) (some_is at) ∙ led)) none
  no_base (y ∷ xs) n a none (suc i) x at led =
      let m = tail_none n (base_place ds y) (filter_map (base_place ds) xs) a.name.place none in no_base xs m.0 a m.1 i x at led

  itself : (a : Declaration) → ((i : ℕ) (x : Declaration) → slice_get ds i ≡ Some x → base_of ds x ≡ Some a → ⊥) → (i : ℕ) (d from : Declaration) → slice_get ds i ≡ Some d → from ≡ a → IsOrDerives ds d from → d ≡ a
  itself a none i d from at same (Itself e) = same
  itself a none i d from at same (Derives e base f led on) =
      let b = base_there ds d base led in
      absurd (none i d at (led ∙ ap Some (itself a none b.0 base from b.1 same on)))

  alone : (o : Option ℕ) → is_some o ≡ false → o ≡ None
  alone None e = refl
  alone (Some n) e = absurd (true≢false e)

none_places : (ds : List Declaration) (places : List Place) (a : Declaration) → places ≡ places_of_bases ds → is_some (number_in places a.name.place) ≡ false → (i : ℕ) (x : Declaration) → slice_get ds i ≡ Some x → base_of ds x ≡ Some a → ⊥
unfolding number_in
none_places ds places a are none = no_base ds ds 0 a (subst (λ (ps : List Place). number_from 0 ps a.name.place ≡ None) are (alone ds (number_from 0 places a.name.place) none))

pub unbroken : (units : List UnitTree) (j : Judging) (places : List Place) → places ≡ places_of_bases (declarations units) → is_some (number_in places j.action.name.place) ≡ false → IsSteadyIn units j.action j.name.id
    → (IsTrue false → IsBroken units j) × (IsBroken units j → IsTrue false)
unbroken units j places are none steady = ((λ e. absurd (true≢false (sym e))), λ b. absurd (sound b))
  where
    sound : IsBroken units j → ⊥
    sound (inl wrong) = wrong steady
    sound (inr (derived, h)) =
        h.unsteady (subst (λ (x : Declaration). IsSteadyIn units x j.name.id) (sym (itself (declarations units) j.action (none_places (declarations units) places j.action are none) h.number h.derived j.action h.there refl h.derives)) steady)
