-- Tables stay, and further ones are right.
use Rattle.std.proofs.Common.{◌≡◌, ℕ, zero, suc, ◌<◌, List, length, sym, ap, ◌∙◌, subst, Option, arith}
use Rattle.std.specs.Prelude.{slice_get}
use Rattle.std.specs.Option.{option_or, option_and_then}
use Rattle.pst_base.specs.declared.table.NameId.{NameId}
use Rattle.pst_ast.specs.declared.scope_declaration.Declaration.{Declaration}
use Rattle.pst_ast.specs.declared.scope_declaration.Scope.TheVariants.{Part}
use Rattle.pst_ast.specs.Lookups.{look_up, base_of, member_of, member_within}
use Rattle.pst_members.specs.declared.versions.Versions.{Versions}
use Rattle.pst_members.specs.Found.{Keeps}
use Rattle.pst_members.specs.declared.tables.Table.{Table}
use Rattle.pst_members.specs.Kept.{finds, IsOver, IsStart, IsTable}

-- a table finds the members of its action
pub is_right : (ds : List Declaration) (versions : Versions) (table : Table) (action : Declaration) → IsTable ds versions table → table.action ≡ action → table.bases < length ds → (name : NameId) → finds ds versions table.version name ≡ member_of ds action name
unfolding member_of
is_right ds versions table action is its few name = is.right (length ds) name few ∙ ap (λ (d : Declaration). member_within (length ds) ds d name) its

-- it stays where versions are added
pub stays : (ds : List Declaration) (old new : Versions) (table : Table) → Keeps old new → IsTable ds old table → IsTable ds new table
stays ds old new table kept is = record {
  there = omega (arith, is.there, kept.more);
  right = λ n name le. ap (λ (x : Option ℕ). option_and_then (slice_get ds) x) (kept.same table.version name.0 is.there) ∙ is.right n name le;
}

module _ (ds : List Declaration) (old new : Versions) (action : Declaration) (base : Option Declaration) (start bases version : ℕ) (is_base : base ≡ base_of ds action) (starts : IsStart ds old base start bases) (over : IsOver ds (Part action.name.place) old start new version) where
  at_steps : (n : ℕ) (name : NameId) → bases < n → finds ds new version name ≡ member_within n ds action name
  at_steps zero name le = absurd (omega arith)
  at_steps (suc n) name le =
      over.over name
      ∙ ap (λ (x : Option Declaration). option_or (look_up ds (Part action.name.place) name) x)
      (starts.right n name (omega (arith, le)) ∙ ap (λ (b : Option Declaration). option_and_then (λ d. member_within n ds d name) b) is_base)

  pub is_table : (table : Table) → table ≡ record { action = action; version = version; bases = bases } → IsTable ds new table
  is_table table e = subst (λ (t : Table). IsTable ds new t) (sym e) (record { there = over.there; right = λ n name le. at_steps n name le })
