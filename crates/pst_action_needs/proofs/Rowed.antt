-- Rows of members, and rows that are kept.
use Rattle.std.proofs.Common.{◌≡◌, refl, sym, subst, ap, ◌∙◌}
use Rattle.std.specs.Prelude.{ℕ, zero, suc, List, [], ◌∷◌, ◌++◌, Option, Some, None, Result, Ok, Err, OnOk, slice_get}
use Rattle.std.specs.HashMap.{get}
use Rattle.pst_ast.specs.declared.scope_declaration.Declaration.{Declaration}
use Rattle.pst_tree.specs.declared.rows.Member.TheVariants as member
use Rattle.pst_tree.specs.declared.rows.Rows.{Rows}
use Rattle.pst_tree.specs.Members.{place_key, row_in, same_key}
use Rattle.pst_tree.specs.Kept.{AreRows}
use Rattle.pst_type_rules.specs.Members.{those_that}
use Rattle.pst_tree.specs.declared.sites.ActionSite.{ActionSite}
use Rattle.pst_tree.specs.Needed.{needs_within}
use Rattle.pst_tree.proofs.Needing.{references_in, claims_in}
use Rattle.pst_action_needs.specs.declared.rows.Inherited.{Inherited}
use Rattle.pst_action_needs.specs.declared.rows.NeedSort.{NeedSort}
use Rattle.pst_action_needs.specs.declared.rows.NeedSort.TheVariants as need
use Rattle.pst_action_needs.specs.Inheriting.{IsInherited, AreInherited, is_need_of}

pub own_in : (by : NeedSort) (ds : List Declaration) (rows : Rows) → AreRows member.Need ds rows → (type : Declaration)
    → those_that (is_need_of by) (row_in (get same_key rows.rows (place_key type.name.place))) ≡ needs_within (is_need_of by) ds type
own_in need.Reference ds rows are type = references_in ds rows are type
own_in need.Claim ds rows are type = claims_in ds rows are type

nothing_at : {x : Inherited} → None ≡ Some x → ⊥
nothing_at {x} e = cc

some_at : {x y : Inherited} → Some x ≡ Some y → x ≡ y
some_at {x} {y} e = cc

module _ (sites : List ActionSite) (ds : List Declaration) where
  pub none_kept : AreInherited sites ds []
  none_kept k row at = absurd (nothing_at at)

  pub one_kept : (rows : List Inherited) (row : Inherited) → AreInherited sites ds rows → IsInherited sites ds row → AreInherited sites ds (rows ++ row ∷ [])
  one_kept [] row are is zero found at = subst (IsInherited sites ds) (some_at at) is
  one_kept [] row are is (suc k) found at = absurd (nothing_at at)
  one_kept (r ∷ rows) row are is zero found at = are zero found at
  one_kept (r ∷ rows) row are is (suc k) found at = one_kept rows row (λ j x e. are (suc j) x e) is k found at

pub on_ok : {T E P Q : Type 0} (r : Result T E) → (P → Q) → OnOk r P → OnOk r Q
on_ok (Ok x) f h = f h
on_ok (Err e) f h = tt
