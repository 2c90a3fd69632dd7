-- The expressions of bodies are sound.
use Rattle.std.proofs.Common.{◌≡◌, ◌<◌, inl, refl, sym, ap, subst, ◌∙◌}
use Rattle.std.specs.Prelude.{ℕ, true, List, length, Option, Some, None}
use Rattle.pst_ast.specs.ExpressionTree.{ExprTree, PathTree, PathDotted, PathItem, PathLongItem}
use Rattle.pst_expr.specs.declared.ranges.Span.{Span}
use Rattle.pst_model.specs.SoundConstraint.{IsSoundConstraint}
use Rattle.pst_model.specs.SoundSlots.{IsBodySlot}
use Rattle.pst_ast.specs.declared.scope_declaration.Declaration.{Declaration}
use Rattle.pst_ast.specs.declared.referent.Owner.{Owner}
use Rattle.pst_ast.specs.declared.referent.PathReferent.{PathReferent}
use Rattle.pst_ast.specs.declared.referent.Checked.{Checked}
use Rattle.pst_ast.specs.declared.referent.Checked.TheVariants.{Is, Breaks}
use Rattle.pst_ast.specs.declared.referent.PathPart.{PathPart}
use Rattle.pst_ast.specs.declared.referent.Referent.TheVariants.{Declared}
use Rattle.pst_ast.specs.NameRules.{item_by, Reaches}
use Rattle.pst_ast.specs.Paths.{is_value, read_path}
use Rattle.pst_ast.specs.Sorts.{is_action, is_handle}
use Rattle.pst_ast.specs.Lookups.{stands_for}
use Rattle.pst_ast.specs.Uses.{Reads, InBody, part_of, parts_of, path_uses, whole_uses}
use Rattle.pst_tree.specs.Bases.{with_bases, number_in}
use Rattle.pst_terms.specs.Sources.{Sources, declared_in}
use Rattle.pst_terms.specs.Readings.{Setting, item_reading, owner_reading, checked_reading, reading_of, expr_term, expression_of}
use Rattle.pst_elab_rules.specs.Types.{model_action, model_objects}
use Rattle.pst_model.specs.ConstraintTree.{SlotTree}
use Rattle.pst_sound_model.specs.Used.{IsGood}
use Rattle.pst_sound_model.proofs.Members.{In}
use Rattle.pst_sound_model.proofs.TermsOf.{Each}
use Rattle.pst_sound_model.proofs.TermSound.{term_is_sound}
use Rattle.pst_sound_model.proofs.SetTerms.{IsUsed, AreUses, whole_blocks}
use Rattle.pst_sound_model.proofs.PathsRead.{path_of}
use Rattle.pst_sound_model.proofs.Facts.{AreFacts}
use Rattle.pst_sound_model.proofs.Plain.{plain_reading}
use Rattle.pst_sound_model.proofs.ActionsSound.{blocks_lift}
use Rattle.pst_sound_model.proofs.RowsApart.{row_derived}
use Rattle.pst_sound_model.specs.Rows.{OfAction, OfIndex, OfLocal}
use Rattle.pst_sound_model.proofs.Paths.{Never, IsInBody, Row, body_path}
use Rattle.pst_sound_model.proofs.Apart.{body_rows}

module _ (s : Sources) (facts : AreFacts s) (domains : List (List Span)) (never : (d : Declaration) → In d (declared_in s) → Reaches (declared_in s) d d → ⊥) (d : Declaration) (mine : In d (declared_in s))
    (base : Declaration) (among : In base (with_bases (declared_in s) d)) (there : In base (declared_in s)) (is : is_action base.sort ≡ true) (locals : List Declaration)
    (numbered : (x : Declaration) → In x locals → number_in locals x < length locals)
    (none : (levels : ℕ) (setting : Setting) → IsInBody s base locals levels setting → (p : PathPart) (ps : List PathPart) → IsUsed s.units InBody setting.at (Reads setting.at p ps) → (h : Declaration)
    → stands_for (declared_in s) s.names setting.at p.name.id ≡ Some (Declared h) → is_handle h.sort ≡ true → ⊥) where
  good_item : (levels : ℕ) (o : Option Declaration) → IsGood (Row s base locals levels) (item_reading s o)
  good_item levels None = tt
  good_item levels (Some x) = tt

  good : (levels : ℕ) (setting : Setting) → IsInBody s base locals levels setting → (path : PathTree) → Each (IsUsed s.units InBody setting.at) (path_uses setting.at path) → IsGood (Row s base locals levels) (reading_of s setting path)
  unfolding reading_of
  good levels setting right (PathDotted first rest) all = by (read_path (declared_in s) s.names setting.at is_value (part_of first) (parts_of rest)) refl
    where
      by : (c : Checked PathReferent) → read_path (declared_in s) s.names setting.at is_value (part_of first) (parts_of rest) ≡ c → IsGood (Row s base locals levels) (checked_reading s setting (part_of first).name c)
      by (Is path) e =
          subst (IsGood (Row s base locals levels)) (sym (plain_reading s setting (part_of first).name path right.plain ∙ ap (λ (o : Owner). owner_reading s setting o path) right.owner))
          (body_path s facts base there is locals numbered levels setting right (part_of first) path.before path.last (path_of (declared_in s) s.names setting.at (part_of first) (parts_of rest) path e)
          (none levels setting right (part_of first) (parts_of rest) (all (Reads setting.at (part_of first) (parts_of rest)) (inl refl))))
      by (Breaks place rule) e = tt
  good levels setting right (PathItem enum colons item) all = good_item levels (item_by (declared_in s) setting.at.component None enum item)
  good levels setting right (PathLongItem component colons enum more_colons item) all = good_item levels (item_by (declared_in s) setting.at.component (Some component) enum item)

  derived : (levels : ℕ) (slot : SlotTree) (first count : ℕ) → Row s base locals levels slot first count → Row s d locals levels slot first count
  derived levels slot first count (OfAction row) = OfAction (row_derived s facts never d base mine among Never slot first count row)
  derived levels slot first count (OfIndex level less e a b) = OfIndex level less e a b
  derived levels slot first count (OfLocal local less e a b) = OfLocal local less e a b

  pub expression_sound : (levels : ℕ) (setting : Setting) → IsInBody s base locals levels setting → (expr : ExprTree) → AreUses s.units (whole_uses setting.at InBody expr)
      → IsSoundConstraint (IsBodySlot (model_objects s domains) (model_action s domains d) (length locals) levels) (expression_of s setting expr)
  expression_sound levels setting right expr all =
      term_is_sound (IsBodySlot (model_objects s domains) (model_action s domains d) (length locals) levels) (Row s d locals levels) (body_rows s facts domains d (length locals) levels) (expr_term s setting expr)
      (blocks_lift (Row s base locals levels) (Row s d locals levels) (derived levels) (expr_term s setting expr)
      (whole_blocks (Row s base locals levels) s s.units InBody (IsInBody s base locals levels) (good levels) setting right expr all))
