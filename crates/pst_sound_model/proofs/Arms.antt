-- No two ranges of a `match` meet.
use Rattle.std.proofs.Common.{◌≡◌, inl, inr, ⊎_elim, refl, sym, ap, subst, arith, ◌∙◌, append_assoc}
use Rattle.std.specs.Prelude.{ℕ, ℤ, pos, List, [], ◌∷◌, ◌++◌, map, AllPairs, Option}
use Rattle.std.specs.List.{flat_map, Contains}
use Rattle.std.specs.Option.{option_map_or}
use Rattle.std.proofs.lemmas.List.Elements.{All-map}
use Rattle.std.proofs.lemmas.List.{map-append}
use Rattle.std.proofs.lemmas.List.Kept.{AllPairs-cons}
use Rattle.pst_base.specs.declared.position.Place.{Place}
use Rattle.pst_ast.specs.ExpressionTree.{ExprTree, MakeRanges, RangeTree, RangeSingle, RangeBetween}
use Rattle.pst_ast.specs.ActivityTree.{CoreMatch, ArmLabelTree, ArmLabelRanges, ArmLabelDefault, ArmTree, MakeArm, ArmRow, NoArmRow, MoreArmRow}
use Rattle.pst_ast.specs.DeclarationTree.{UnitTree}
use Rattle.pst_expr.specs.declared.ranges.Span.{Span}
use Rattle.pst_model.specs.ActivityTree.{arms_of, spans_of}
use Rattle.pst_model.specs.SoundActivity.{AreApart, AreArmsApart}
use Rattle.pst_ast.specs.Breaches.{IsNone}
use Rattle.pst_ast.specs.declared.environment.Environment.{Environment}
use Rattle.pst_ast.specs.Uses.{Use, Judges, Arms, Condition, RangeEnd, whole_uses, end_uses, next_ends, arm_label, arm_labels, arm_label_uses, arm_uses, arm_row_uses, statement_uses, core_uses, uses}
use Rattle.pst_type_rules.specs.Domains.{span, IsSpanOf, Single, Between, ranges_of}
use Rattle.pst_type_rules.specs.declared.typed.ConstantValue.{ConstantValue}
use Rattle.pst_type_rules.specs.Places.{range_place}
use Rattle.pst_type_rules.specs.TypeRules.{ranges_of_label, ranges_of_arms, TypeBreach, OfUse, Meeting}
use Rattle.pst_type_rules.specs.Typed.{AreConstants}
use Rattle.pst_terms.specs.Sources.{Sources}
use Rattle.pst_terms.specs.Readings.{Setting}
use Rattle.pst_elab_rules.specs.Model.{sources}
use Rattle.pst_elab_rules.specs.Spans.{end_value, range_span, range_spans}
use Rattle.pst_elab_rules.specs.Steps.{arm_row, arm_rows}
use Rattle.pst_sound_model.proofs.Members.{In, in_append, to_flat_map, to_left, to_right, to_contains, from_contains}
use Rattle.pst_sound_model.proofs.ConstantsIn.{by_value}
use Rattle.pst_sound_model.proofs.NeedsSound.{all_in}

-- ---- pairs of a list

record IsSplitAt (xs : List RangeTree) (y : RangeTree) : Type 0 where
  front : List RangeTree
  more : List RangeTree
  is : xs ≡ front ++ y ∷ more

split_at : (xs : List RangeTree) (y : RangeTree) → In y xs → IsSplitAt xs y
split_at [] y there = absurd there
split_at (x ∷ xs) y (inl e) = record { front = []; more = xs; is = ap (λ (z : RangeTree). z ∷ xs) e }
split_at (x ∷ xs) y (inr there) = let r = split_at xs y there in record { front = x ∷ r.front; more = r.more; is = ap (λ (ys : List RangeTree). x ∷ ys) r.is }

module _ (R : Span → Span → Type 0) (f : RangeTree → Span) where
  pairs_from : (done xs : List RangeTree) → ((front more : List RangeTree) (earlier later : RangeTree) → done ++ xs ≡ front ++ later ∷ more → In earlier front → R (f earlier) (f later)) → AllPairs R (map f xs)
  pairs_from done [] all = λ i j d less within. absurd (omega (arith, within))
  pairs_from done (x ∷ xs) all =
      AllPairs-cons R (f x) (map f xs)
      (All-map (R (f x)) f xs (all_in (λ y. R (f x) (f y)) xs (λ y there.
      let r = split_at xs y there in
      all (done ++ x ∷ r.front) r.more x y (ap (λ (ys : List RangeTree). done ++ x ∷ ys) r.is ∙ sym (append_assoc done (x ∷ r.front) (y ∷ r.more))) (to_right done (x ∷ r.front) x (inl refl)))))
      (pairs_from (done ++ x ∷ []) xs (λ front more earlier later e there. all front more earlier later (sym (append_assoc done (x ∷ []) xs) ∙ e) there))

module _ (units : List UnitTree) (names : List (List ℕ)) (constants : List ConstantValue) (are : AreConstants units names constants) (kept : IsNone (TypeBreach units names)) where
  abbrev s : Sources
  s = sources units names constants

  -- ---- the spans of arms are those of their ranges

  row_spans : (setting : Setting) (level : ℕ) (row : ArmRow) → flat_map spans_of (arms_of (arm_rows s setting level row)) ≡ map (range_span s) (ranges_of_arms (arm_labels row))
  row_spans setting level NoArmRow = refl
  row_spans setting level (MoreArmRow (MakeArm (ArmLabelRanges left ranges right) colon statement) tail) =
      ap (λ (xs : List Span). range_spans s ranges ++ xs) (row_spans setting level tail) ∙ sym (map-append (range_span s) (ranges_of ranges) (ranges_of_arms (arm_labels tail)))
  row_spans setting level (MoreArmRow (MakeArm (ArmLabelDefault place) colon statement) tail) = row_spans setting level tail

  all_spans : (setting : Setting) (level : ℕ) (first : ArmTree) (rest : ArmRow) → flat_map spans_of (arms_of (arm_row s setting level first (arm_rows s setting level rest))) ≡ map (range_span s) (ranges_of_arms (arm_label first ∷ arm_labels rest))
  all_spans setting level (MakeArm (ArmLabelRanges left ranges right) colon statement) rest =
      ap (λ (xs : List Span). range_spans s ranges ++ xs) (row_spans setting level rest) ∙ sym (map-append (range_span s) (ranges_of ranges) (ranges_of_arms (arm_labels rest)))
  all_spans setting level (MakeArm (ArmLabelDefault place) colon statement) rest = row_spans setting level rest

  -- ---- their ends are constants

  abbrev AreJudged : Environment → RangeTree → Type 0
  AreJudged at r = (u : Use) → In u (end_uses at r) → In u (uses units)

  label_judged : (at : Environment) (label : ArmLabelTree) → ((u : Use) → In u (arm_label_uses at label) → In u (uses units)) → (r : RangeTree) → In r (ranges_of_label label) → AreJudged at r
  label_judged at (ArmLabelRanges left (MakeRanges first rest) right) used r there u has = used u (to_flat_map (end_uses at) (first ∷ next_ends rest) r u there has)
  label_judged at (ArmLabelDefault place) used r there u has = absurd there

  row_judged : (at : Environment) (row : ArmRow) → ((u : Use) → In u (arm_row_uses at row) → In u (uses units)) → (r : RangeTree) → In r (ranges_of_arms (arm_labels row)) → AreJudged at r
  row_judged at NoArmRow used r there = absurd there
  row_judged at (MoreArmRow (MakeArm label colon statement) tail) used r there =
      ⊎_elim (λ h. label_judged at label (λ u has. used u (to_left (arm_label_uses at label ++ statement_uses at statement) (arm_row_uses at tail) u (to_left (arm_label_uses at label) (statement_uses at statement) u has))) r h)
      (λ h. row_judged at tail (λ u has. used u (to_right (arm_label_uses at label ++ statement_uses at statement) (arm_row_uses at tail) u has)) r h)
      (in_append (ranges_of_label label) (ranges_of_arms (arm_labels tail)) r there)

  all_judged : (at : Environment) (first : ArmTree) (rest : ArmRow) → ((u : Use) → In u (arm_uses at first ++ arm_row_uses at rest) → In u (uses units)) → (r : RangeTree) → In r (ranges_of_arms (arm_label first ∷ arm_labels rest)) → AreJudged at r
  all_judged at (MakeArm label colon statement) rest used r there =
      ⊎_elim (λ h. label_judged at label (λ u has. used u (to_left (arm_label_uses at label ++ statement_uses at statement) (arm_row_uses at rest) u (to_left (arm_label_uses at label) (statement_uses at statement) u has))) r h)
      (λ h. row_judged at rest (λ u has. used u (to_right (arm_label_uses at label ++ statement_uses at statement) (arm_row_uses at rest) u has)) r h)
      (in_append (ranges_of_label label) (ranges_of_arms (arm_labels rest)) r there)

  -- a range has the span that it has in the model
  has_span : (at : Environment) (r : RangeTree) → AreJudged at r → (IsSpanOf units names at r (range_span s r) → ⊥) → ⊥
  has_span at (RangeSingle expr) judged never =
      by_value units names constants are kept ⊥ (inr (λ x. x)) at RangeEnd expr (judged (Judges at RangeEnd expr) (inl refl)) refl
      (λ v c e. never (subst (λ (w : ℤ). IsSpanOf units names at (RangeSingle expr) (span w w)) (sym (ap (λ (o : Option ℤ). option_map_or (λ v. v) o (pos 0)) e)) (Single expr v c)))
  has_span at (RangeBetween low dots high) judged never =
      by_value units names constants are kept ⊥ (inr (λ x. x)) at RangeEnd low (judged (Judges at RangeEnd low) (inl refl)) refl
      (λ v c e. by_value units names constants are kept ⊥ (inr (λ x. x)) at RangeEnd high (judged (Judges at RangeEnd high) (to_right (whole_uses at RangeEnd low) (whole_uses at RangeEnd high) (Judges at RangeEnd high) (inl refl))) refl
      (λ w d f. never (subst (λ (x : ℤ). IsSpanOf units names at (RangeBetween low dots high) (span x (end_value s high))) (sym (ap (λ (o : Option ℤ). option_map_or (λ v. v) o (pos 0)) e))
      (subst (λ (x : ℤ). IsSpanOf units names at (RangeBetween low dots high) (span v x)) (sym (ap (λ (o : Option ℤ). option_map_or (λ v. v) o (pos 0)) f)) (Between low high dots v w c d)))))

  module _ (at : Environment) (labels : List ArmLabelTree) (used : In (Arms at labels) (uses units)) (judged : (r : RangeTree) → In r (ranges_of_arms labels) → AreJudged at r) where
    two_apart : (front more : List RangeTree) (earlier later : RangeTree) → [] ++ ranges_of_arms labels ≡ front ++ later ∷ more → In earlier front → AreApart (range_span s earlier) (range_span s later)
    two_apart front more earlier later e there v one two =
        has_span at earlier (judged earlier (subst (In earlier) (sym e) (to_left front (later ∷ more) earlier there)))
        (λ a. has_span at later (judged later (subst (In later) (sym e) (to_right front (later ∷ more) later (inl refl))))
        (λ b. kept (range_place later) 13 (OfUse (Arms at labels) (range_place later) 13 (to_contains (uses units) (Arms at labels) used)
        (Meeting at labels front more earlier later (range_span s earlier) (range_span s later) v e (to_contains front earlier there) a b one two))))

    pub ranges_apart : AllPairs AreApart (map (range_span s) (ranges_of_arms labels))
    ranges_apart = pairs_from AreApart (range_span s) [] (ranges_of_arms labels) two_apart

  pub arms_apart : (at : Environment) (word left : Place) (expr : ExprTree) (right opening : Place) (first : ArmTree) (rest : ArmRow) (close : Place)
      → ((u : Use) → Contains (core_uses at (CoreMatch word left expr right opening first rest close)) u → Contains (uses units) u) → (setting : Setting) (level : ℕ)
      → AreArmsApart (arm_row s setting level first (arm_rows s setting level rest))
  arms_apart at word left expr right opening first rest close used setting level =
      let labels = arm_label first ∷ arm_labels rest in
      let its : (u : Use) → In u (core_uses at (CoreMatch word left expr right opening first rest close)) → In u (uses units) =
      λ u there. let c = used u (to_contains (core_uses at (CoreMatch word left expr right opening first rest close)) u there) in from_contains (uses units) u c.0 c.1 c.2 in
      subst (AllPairs AreApart) (sym (all_spans setting level first rest))
      (ranges_apart at labels (its (Arms at labels) (inl refl))
      (all_judged at first rest (λ u has. its u (inr (to_right (whole_uses at Condition expr) (arm_uses at first ++ arm_row_uses at rest) u has)))))
