-- Expressions that are no inline constraints.
use Rattle.std.proofs.Common.{◌≡◌, inl, inr, refl, sym, ap, ◌∙◌}
use Rattle.std.specs.Prelude.{ℕ, true, List, [], ◌∷◌, map, All, Option, Some, None}
use Rattle.std.specs.List.{filter_map, cons_option}
use Rattle.std.proofs.lemmas.List.Elements.{All-cons, All-nil}
use Rattle.pst_base.specs.declared.position.Place.{Place}
use Rattle.pst_ast.specs.declared.leaf.Name.{Name}
use Rattle.pst_model.specs.ConstraintTree.{SlotTree}
use Rattle.pst_model.specs.SoundConstraint.{IsSoundConstraint}
use Rattle.pst_ast.specs.declared.scope_declaration.Declaration.{Declaration}
use Rattle.pst_ast.specs.declared.scope_declaration.Sort.TheVariants as sort
use Rattle.pst_ast.specs.declared.environment.Environment.{Environment}
use Rattle.pst_ast.specs.declared.referent.Traversal.{Traversal}
use Rattle.pst_ast.specs.declared.referent.PathReferent.{PathReferent}
use Rattle.pst_ast.specs.Declarations.{index}
use Rattle.pst_ast.specs.Sorts.{same_place}
use Rattle.pst_ast.specs.Lookups.{declared_at}
use Rattle.pst_terms.specs.Sources.{Sources, declared_in}
use Rattle.pst_terms.specs.Terms.{Term}
use Rattle.pst_terms.specs.Slots.{constraint_of}
use Rattle.pst_terms.specs.Readings.{Setting, Turn, AtNumber, owner_reading, traversed_with, path_reading}
use Rattle.pst_sound_model.specs.Blocks.{AreRows}
use Rattle.pst_sound_model.specs.Used.{AllBlocks}
use Rattle.pst_sound_model.proofs.Members.{In, in_find}
use Rattle.pst_sound_model.proofs.TermSound.{term_is_sound}
use Rattle.pst_sound_model.proofs.Facts.{AreFacts}
use Rattle.pst_sound_model.proofs.Meanings.{AreIndices}
use Rattle.pst_sound_model.proofs.ObjectReadings.{AreNumbers}

pub plain_reading : (s : Sources) (setting : Setting) (name : Name) (path : PathReferent) → setting.at.traversal ≡ None → path_reading s setting name (traversed_with s setting.at name) path ≡ owner_reading s setting setting.at.owner path
plain_reading s setting name path e =
    ap (λ (t : Option Traversal). path_reading s (record setting { at = record setting.at { traversal = t } }) name (traversed_with s (record setting.at { traversal = t }) name) path) e
    ∙ sym (ap (λ (t : Option Traversal). owner_reading s (record setting { at = record setting.at { traversal = t } }) setting.at.owner path) e)

pub all_sound : (IsSlot : SlotTree → Type 0) (IsRow : SlotTree → ℕ → ℕ → Type 0) → AreRows IsSlot IsRow → (terms : List (Term SlotTree)) → AllBlocks IsRow terms → All (IsSoundConstraint IsSlot) (map constraint_of terms)
all_sound IsSlot IsRow rows [] all = All-nil (IsSoundConstraint IsSlot)
all_sound IsSlot IsRow rows (t ∷ more) all = All-cons (IsSoundConstraint IsSlot) (constraint_of t) (map constraint_of more) (term_is_sound IsSlot IsRow rows t all.0) (all_sound IsSlot IsRow rows more all.1)

pub in_filter_map : {A B : Type 0} (h : A → Option B) (xs : List A) (y : B) → In y (filter_map h xs) → (x : A) × In x xs × (h x ≡ Some y)
in_filter_map h [] y there = absurd there
in_filter_map h (x ∷ xs) y there = by (h x) refl there (in_filter_map h xs y)
  where
    by : (o : Option _) → h x ≡ o → In y (cons_option o (filter_map h xs)) → (In y (filter_map h xs) → (z : _) × In z xs × (h z ≡ Some y)) → (z : _) × In z (x ∷ xs) × (h z ≡ Some y)
    by None e there on = let r = on there in (r.0, inr r.1, r.2)
    by (Some w) e (inl same) on = (x, inl refl, e ∙ ap (λ v. Some v) same)
    by (Some w) e (inr there) on = let r = on there in (r.0, inr r.1, r.2)

-- an index stays one further in
pub index_more : (s : Sources) → AreFacts s → (type : Place) (at : Environment) (name : Name) → In (index type name) (declared_in s) → AreIndices (declared_in s) at → (n : Name) → In n (name ∷ at.inner) → (d : Declaration) → declared_at (declared_in s) n.place ≡ Some d → d.sort ≡ sort.Index
unfolding declared_at
index_more s facts type at name itself all n (inr there) d e = all n there d e
index_more s facts type at name itself all n (inl same) d e =
    let found = in_find (λ d. same_place d.name.place n.place) (declared_in s) d e in
    let here : same_place d.name.place name.place ≡ true = ap (λ (x : Name). same_place d.name.place x.place) same ∙ found.1 in
    ap (λ (x : Declaration). x.sort) (facts.places (index type name) d itself found.0 here)

pub number_more : (turns : List (Place × Turn)) (place : Place) (i : ℕ) → AreNumbers turns → AreNumbers ((place, AtNumber i) ∷ turns)
number_more turns place i all x (inl e) = (i, sym (ap (λ (y : Place × Turn). y.1) e))
number_more turns place i all x (inr there) = all x there
