-- The numbers of bases.
use Rattle.std.proofs.Common.{◌≡◌, ◌⊎◌, inl, inr, ℕ, ◌+◌, Bool, true, false, ◌&&◌, List, [], ◌∷◌, ◌++◌, length, Option, refl, sym, ap, subst, ◌∙◌, arith}
use Rattle.std.specs.Prelude.{Some, None, slice_get, IsTrue, if◌then◌else◌}
use Rattle.std.specs.Option.{option_and_then}
use Rattle.pst_ast.specs.declared.scope_declaration.Declaration.{Declaration}
use Rattle.pst_ast.specs.Lookups.{base_of, base_in, action_beside, type_named}
use Rattle.pst_ast.specs.Sorts.{is_action, same_scope}
use Rattle.pst_tree.proofs.InheritedDeclared.{base_there}
use Rattle.pst_steady.specs.Numbered.{IsNumber, numbered, AreBasesSoFar}
use Rattle.pst_steady.proofs.Lists.{some_is, no_some, push_cases, push_length}

and_then_gave : {A B : Type 0} (f : A → Option B) (o : Option A) (y : B) → option_and_then f o ≡ Some y → (x : A) × (o ≡ Some x) × (f x ≡ Some y)
and_then_gave f None y e = absurd (no_some e)
and_then_gave f (Some x) y e = (x, refl, e)

acts : (d x b : Declaration) (p q : Bool) → is_action x.sort ≡ p → (if p && q then Some x else None) ≡ Some b → IsTrue (is_action b.sort)
acts d x b true true is e = subst (λ (c : Declaration). is_action c.sort ≡ true) (some_is e) is
acts d x b true false is e = absurd (no_some e)
acts d x b false q is e = absurd (no_some e)

-- a base is an action
pub base_acts : (ds : List Declaration) (d b : Declaration) → base_of ds d ≡ Some b → IsTrue (is_action b.sort)
unfolding base_of
base_acts ds d b e =
    let x = and_then_gave (action_beside d) (option_and_then (type_named ds d.inside) (base_in d.sort)) b e in
    acts d x.0 b (is_action x.0.sort) (same_scope x.0.scope d.scope) refl x.2

pub base_numbered : (ds : List Declaration) (d b : Declaration) (number : Option ℕ) → base_of ds d ≡ Some b → IsNumber ds b number → numbered ds number ≡ base_of ds d
base_numbered ds d b None e is = let at = base_there ds d b e in absurd (is at.0 at.1 (base_acts ds d b e))
base_numbered ds d b (Some i) e is = is ∙ sym e

pub no_bases : (ds : List Declaration) → AreBasesSoFar ds 0 []
no_bases ds = record { long = refl; each = λ i d base there at. absurd (no_some at) }

pub one_more_base : (ds : List Declaration) (n : ℕ) (bases : List (Option ℕ)) (d : Declaration) (base : Option ℕ) → slice_get ds n ≡ Some d → numbered ds base ≡ base_of ds d
    → AreBasesSoFar ds n bases → AreBasesSoFar ds (n + 1) (bases ++ base ∷ [])
one_more_base ds n bases d base there is so_far = record {
  long = longer;
  each = λ i e b at given. elim (push_cases bases base i b given) [
    | inl before ↦ so_far.each i e b at before
    | inr last ↦
        let same : d ≡ e = some_is (sym there ∙ subst (λ (k : ℕ). slice_get ds k ≡ Some e) (last.0 ∙ so_far.long) at) in
        ap (numbered ds) (sym last.1) ∙ (is ∙ ap (base_of ds) same)
  ];
}
  where
    longer : length (bases ++ base ∷ []) ≡ n + 1
    longer = omega (arith, push_length bases base, so_far.long)
