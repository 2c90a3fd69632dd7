-- A new action has no reference that is linked.
use Rattle.std.proofs.Common.{◌≡◌, ◌⊎◌, ℕ, zero, suc, List, [], ◌∷◌, ◌++◌, map, length, Option, Some, None, sym, subst, inl, inr, ⊎_elim}
use Rattle.std.specs.Prelude.{slice_get}
use Rattle.std.specs.List.{enumerate_from}
use Rattle.std.specs.Option.{option_and_then}
use Rattle.std.proofs.lemmas.List.{map-append}
use Rattle.std.proofs.lemmas.Option.{none-some, option_and_then_some}
use Rattle.pst_model.specs.declared.action.Reference.{Reference}
use Rattle.pst_model.specs.ModelTree.{ModelTree, ActionTree}
use Rattle.pst_scen.specs.declared.act.Act.{Act}
use Rattle.pst_scen.specs.declared.act.Link.TheVariants as link
use Rattle.pst_legal.specs.Types.{type_of}
use Rattle.pst_legal.specs.Growing.{open_act, open_reference, open_references}
use Rattle.pst_built.proofs.Bares.{Bare, bare, bares_in, bares, bare_at}
use Rattle.pst_built.proofs.Parents.{get_cases}

abbrev pub IsOpenRow : List Bare → Type 0
IsOpenRow row = (r : ℕ) (x : Bare) → slice_get row r ≡ Some x → x.link ≡ link.Nothing

-- no reference is linked
abbrev pub AreOpen : List (List Bare) → Type 0
AreOpen rows = (a r : ℕ) (x : Bare) → bare_at rows a r ≡ Some x → x.link ≡ link.Nothing

by_references : (m : ModelTree) (action instance : ℕ) (numbered : List (ℕ × Reference)) → IsOpenRow (map bare (map (open_reference m action instance) numbered))
by_references m action instance [] r x is = absurd (none-some x is)
by_references m action instance (e ∷ more) zero x is = cc
by_references m action instance (e ∷ more) (suc r) x is = by_references m action instance more r x is

by_type : (m : ModelTree) (action instance : ℕ) (type : Option ActionTree) → IsOpenRow (map bare (open_references m action instance type))
by_type m action instance None r x is = absurd (none-some x is)
by_type m action instance (Some type) r x is = by_references m action instance (enumerate_from 0 type.references) r x is

pub act_is_open : (m : ModelTree) (action instance : ℕ) (node : Option ℕ) → IsOpenRow (bares_in (open_act m action instance node))
act_is_open m action instance place = by_type m action instance (type_of m action)

-- a reference of one more action is an earlier one or one of the new action
pub bare_cases : (rows : List (List Bare)) (row : List Bare) (a r : ℕ) (x : Bare) → bare_at (rows ++ row ∷ []) a r ≡ Some x
    → (bare_at rows a r ≡ Some x) ⊎ ((a ≡ length rows) × (slice_get row r ≡ Some x))
bare_cases rows row a r x is =
    option_and_then_some (λ xs. slice_get xs r) (slice_get (rows ++ row ∷ []) a) x is
    (λ xs there has. ⊎_elim
    (λ e. inl (subst (λ row. option_and_then (λ xs. slice_get xs r) row ≡ Some x) (sym e) has))
    (λ e. inr (e.0, subst (λ ys. slice_get ys r ≡ Some x) (sym e.1) has)) (get_cases rows row a xs there))

pub opens_push : (rows : List (List Bare)) (row : List Bare) → AreOpen rows → IsOpenRow row → AreOpen (rows ++ row ∷ [])
opens_push rows row unlinked new a r x is = ⊎_elim (λ e. unlinked a r x e) (λ e. new r x e.1) (bare_cases rows row a r x is)

pub bares_push : (acts : List Act) (act : Act) → bares (acts ++ act ∷ []) ≡ bares acts ++ bares_in act ∷ []
bares_push acts act = map-append bares_in acts (act ∷ [])
