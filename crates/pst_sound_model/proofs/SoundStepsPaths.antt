-- Paths whose first name is that of a member of an action, wherever they stand.
use Rattle.std.proofs.Common.{◌≡◌, refl, sym, ap, subst, ◌∙◌}
use Rattle.std.specs.Prelude.{ℕ, true, List, [], ◌∷◌, Option, Some}
use Rattle.std.specs.Option.{option_or}
use Rattle.std.proofs.lemmas.Option.{same_Some}
use Rattle.pst_base.specs.declared.table.NameId.{NameId}
use Rattle.pst_model.specs.ConstraintTree.{SlotTree, Own}
use Rattle.pst_ast.specs.declared.scope_declaration.Declaration.{Declaration}
use Rattle.pst_ast.specs.declared.scope_declaration.Sort.{Sort}
use Rattle.pst_ast.specs.declared.scope_declaration.Sort.TheVariants as sort
use Rattle.pst_ast.specs.declared.environment.Environment.{Environment}
use Rattle.pst_ast.specs.declared.referent.Owner.TheVariants.{OfAction}
use Rattle.pst_ast.specs.declared.referent.Referent.{Referent}
use Rattle.pst_ast.specs.declared.referent.Referent.TheVariants.{Declared}
use Rattle.pst_ast.specs.declared.referent.PathPart.{PathPart}
use Rattle.pst_ast.specs.Lookups.{item_here, referent, member_of, value_named, stands_for}
use Rattle.pst_ast.specs.Sorts.{is_action, is_field, is_handle}
use Rattle.pst_ast.specs.Uses.{environment}
use Rattle.pst_terms.specs.Sources.{Sources, declared_in}
use Rattle.pst_terms.specs.Readings.{Setting, is_inner_sort, declared_reading, name_reading, own_reading}
use Rattle.pst_elab_rules.specs.Types.{setting_of}
use Rattle.pst_sound_model.specs.Used.{IsGood}
use Rattle.pst_sound_model.proofs.Members.{In}
use Rattle.pst_sound_model.proofs.Owned.{of_sort}
use Rattle.pst_sound_model.proofs.FieldRows.{good_field}
use Rattle.pst_sound_model.proofs.Facts.{AreFacts}
use Rattle.pst_sound_model.proofs.PathsRead.{IsPathOf, Alone, Behind, Twice}
use Rattle.pst_sound_model.proofs.Meanings.{without_traversal}
use Rattle.pst_sound_model.proofs.Numbers.{same_declared}
use Rattle.pst_sound_model.proofs.ActionReadings.{IsOwnRow, OfField, IsActionRow, OfItself, not_inner, action_path}

module _ (s : Sources) (facts : AreFacts s) (x : Declaration) (there : In x (declared_in s)) (is : is_action x.sort ≡ true) (Steady : Declaration → Type 0) where
  abbrev ds : List Declaration
  ds = declared_in s

  abbrev Row : SlotTree → ℕ → ℕ → Type 0
  Row = IsActionRow s Steady x

  -- in the text of the action itself the name stands for the member
  stands_there : (name : NameId) (m : Declaration) → member_of ds x name ≡ Some m → stands_for ds s.names (environment x.inside (OfAction x)) name ≡ Some (Declared m)
  unfolding value_named
  stands_there name m e =
      without_traversal ds s.names (environment x.inside (OfAction x)) name refl ∙ ap (λ (o : Option Declaration). option_or (referent o) (referent (item_here ds x.inside name))) e

  field_row : (slot : SlotTree) (first count : ℕ) → IsOwnRow s x slot first count → Row slot first count
  field_row slot first count row = OfItself row

  member_alone : (setting : Setting) (name : NameId) (d : Declaration) (so : Sort) → member_of ds x name ≡ Some d → d.sort ≡ so → IsGood Row (declared_reading s setting x d so)
  member_alone setting name d sort.Component e h = tt
  member_alone setting name d (sort.Action base) e h = tt
  member_alone setting name d (sort.Object word) e h = tt
  member_alone setting name d sort.Enumeration e h = tt
  member_alone setting name d sort.Function e h = tt
  member_alone setting name d (sort.Instance of) e h = tt
  member_alone setting name d (sort.Pool of) e h = tt
  member_alone setting name d (sort.Item level) e h = by d
    where
      by : (d : Declaration) → IsGood Row (declared_reading s setting x d (sort.Item level))
      by d = tt
  member_alone setting name d (sort.Field array) e h = good_field s Row (Own 0) x d (OfItself (OfField d (of_sort ds x name d is_field e (ap is_field h)) refl refl refl))
  member_alone setting name d (sort.Reference of output) e h = tt
  member_alone setting name d (sort.Claim of) e h = tt
  member_alone setting name d (sort.Handle of) e h = tt
  member_alone setting name d sort.Constraint e h = tt
  member_alone setting name d sort.Parameter e h = tt
  member_alone setting name d sort.Local e h = absurd (not_inner s facts x there is name d e (ap is_inner_sort h))
  member_alone setting name d sort.Index e h = absurd (not_inner s facts x there is name d e (ap is_inner_sort h))

  module _ (at : Environment) (p : PathPart) (m : Declaration) (e : member_of ds x p.name.id ≡ Some m) (steady : is_handle m.sort ≡ true → Steady m) (stands : stands_for ds s.names at p.name.id ≡ Some (Declared m)) where
    its_steady : (h : Declaration) → stands_for ds s.names (environment x.inside (OfAction x)) p.name.id ≡ Some (Declared h) → is_handle h.sort ≡ true → Steady h
    its_steady h f handle =
        let one : Declared m ≡ Declared h = same_Some (Declared m) (Declared h) (sym (stands_there p.name.id m e) ∙ f) in
        let same = same_declared m h one in
        subst Steady same (steady (subst (λ (d : Declaration). is_handle d.sort ≡ true) (sym same) handle))

    by_path : (before : List Referent) (last : Referent) → IsPathOf ds s.names (environment x.inside (OfAction x)) p before last → IsGood Row (own_reading s (setting_of x (OfAction x)) x before last)
    by_path before last path = action_path s facts x there is Steady (setting_of x (OfAction x)) (λ y h. absurd h) (λ n h d f. absurd h) refl refl p before last path its_steady

    head_is : (h : Referent) → stands_for ds s.names at p.name.id ≡ Some h → stands_for ds s.names (environment x.inside (OfAction x)) p.name.id ≡ Some h
    head_is h f = stands_there p.name.id m e ∙ (sym stands ∙ f)

    pub member_path : (setting : Setting) (before : List Referent) (last : Referent) → IsPathOf ds s.names at p before last → IsGood Row (own_reading s setting x before last)
    member_path setting _ _ (Alone r f value) =
        subst (λ (z : Referent). IsGood Row (name_reading s setting x z)) (same_Some (Declared m) r (sym stands ∙ f)) (member_alone setting p.name.id m m.sort e refl)
    member_path setting _ _ (Behind h r next f head named last) = by_path (h ∷ []) r (Behind h r next (head_is h f) head named last)
    member_path setting _ _ (Twice h n r next after f handle named need also last) = by_path (h ∷ n ∷ []) r (Twice h n r next after (head_is h f) handle named need also last)
