-- Joins wait for branches that there are, and weights are within their limits.
use Rattle.std.proofs.Common.{◌≡◌, ◌⊎◌, ◌<◌, ◌≤◌, inl, inr, refl, sym, ap, arith, ◌∙◌}
use Rattle.std.specs.Prelude.{ℕ, zero, suc, ◌+◌, ◌*◌, ◌^◌, ◌/◌, Bool, true, false, not, List, [], ◌∷◌, ◌++◌, map, length, Option, Some, None, if◌then◌else◌, IsBitSet, bit_and}
use Rattle.std.specs.List.{filter, list_any, Contains}
use Rattle.std.proofs.lemmas.Bool.{cases_lt}
use Rattle.std.proofs.lemmas.Nat.{bit_set_by_shift, and_le_l, pow_pos}
use Rattle.std.proofs.Math.Nat.{div-eq_of_lt, pow-suc, pow-le-pow_right}
use Rattle.pst_base.specs.declared.position.Place.{Place}
use Rattle.pst_base.specs.declared.table.NameId.{NameId}
use Rattle.pst_ast.specs.declared.activity.TogetherWord.{TogetherWord}
use Rattle.pst_ast.specs.ActivityTree.{JoinTree, JoinBranch, JoinNothing, JoinSelect, MakeWeight, GuardTree, GuardCondition, GuardWeight, StatementTree, StatementEmpty, StatementLabeled, StatementPlain, CoreTree, CoreDo, CoreHandle, CoreSequence, CoreTogether, CoreSelect, CoreRepeat, CoreIf, CoreIfElse, CoreMatch, CoreBind, MakeBranch, StatementRow, NoStatementRow, MoreStatementRow}
use Rattle.pst_ast.specs.DeclarationTree.{UnitTree}
use Rattle.pst_model.specs.Limits.{most_branches, most_weight}
use Rattle.pst_model.specs.ActivityTree.{StepRow, steps_of}
use Rattle.pst_model.specs.SoundActivity.{IsJoin}
use Rattle.pst_ast.specs.Breaches.{IsNone}
use Rattle.pst_ast.specs.declared.environment.Environment.{Environment}
use Rattle.pst_ast.specs.Declarations.{names_of}
use Rattle.pst_ast.specs.Sorts.{same_name}
use Rattle.pst_ast.specs.Uses.{Use, Judges, Branches, Condition, Weight, JoinCount, option_uses, whole_uses, guard_uses, labels_in, label_of, is_branch, branches_in, branch_places, join_uses, statement_uses, statement_row_uses, core_uses, branch_uses, uses, statement_place}
use Rattle.pst_type_rules.specs.declared.typed.ConstantValue.{ConstantValue}
use Rattle.pst_type_rules.specs.TypeRules.{TypeBreach, OfUse, ManyBranches}
use Rattle.pst_type_rules.specs.Typed.{AreConstants}
use Rattle.pst_terms.specs.Sources.{Sources}
use Rattle.pst_terms.specs.Readings.{Setting}
use Rattle.pst_elab_rules.specs.Model.{sources}
use Rattle.pst_elab_rules.specs.Steps.{more_steps, branch_labels, joined_bits, join_of, weight_of, statement_step, core_step, row_steps}
use Rattle.pst_sound_model.proofs.Members.{In, to_left, to_right, to_contains, from_contains}
use Rattle.pst_sound_model.proofs.ConstantsIn.{within_limits}

-- ---- bits

double_less : (n m : ℕ) → n < 2 ^ m → 1 + 2 * n < 2 ^ suc m
double_less n m less = let e : 2 ^ suc m ≡ 2 ^ m * 2 = pow-suc 2 m in omega (arith, e, less)

even_less : (n m : ℕ) → n < 2 ^ m → 2 * n < 2 ^ suc m
even_less n m less = let e : 2 ^ suc m ≡ 2 ^ m * 2 = pow-suc 2 m in omega (arith, e, less)

bits_by : (b : Bool) (one other m : ℕ) → one < 2 ^ m → other < 2 ^ m → (if b then 1 + 2 * one else 2 * other) < 2 ^ suc m
bits_by true one other m x y = double_less one m x
bits_by false one other m x y = even_less other m y

bits_below : (labels : List (Option NameId)) (named : List NameId) → joined_bits named labels < 2 ^ length labels
bits_below [] named = omega (arith, pow_pos 0)
bits_below (None ∷ more) named = even_less (joined_bits named more) (length more) (bits_below more named)
bits_below (Some label ∷ more) named =
    bits_by (list_any (same_name label) named) (joined_bits (filter (λ n. not (same_name label n)) named) more) (joined_bits named more) (length more) (bits_below more (filter (λ n. not (same_name label n)) named)) (bits_below more named)

bit_within : (v n k : ℕ) → v < 2 ^ n → IsBitSet v k → k < n
bit_within v n k less set = by (cases_lt k n)
  where
    by : (k < n) ⊎ (n ≤ k) → k < n
    by (inl h) = h
    by (inr h) =
        let wide : 2 ^ n ≤ 2 ^ k = pow-le-pow_right (omega arith) h in
        let below : v < 2 ^ k = omega (arith, less, wide) in
        let none : v / 2 ^ k ≡ 0 = div-eq_of_lt below in
        let one : bit_and (v / 2 ^ k) 1 ≡ 1 = (bit_set_by_shift v k).1 set in
        let low : bit_and (v / 2 ^ k) 1 ≤ v / 2 ^ k = and_le_l (v / 2 ^ k) 1 in absurd (omega (arith, none, one, low))

-- ---- branches

module _ (s : Sources) (setting : Setting) (level : ℕ) where
  core_counted : (core : CoreTree) (row : StepRow) → length (steps_of (more_steps (core_step s setting level core) row)) ≡ (if is_branch (StatementPlain core) then 1 else 0) + length (steps_of row)
  core_counted (CoreDo do_place name with_part) row = omega arith
  core_counted (CoreHandle name with_part) row = omega arith
  core_counted (CoreSequence word left statements right) row = omega arith
  core_counted (CoreTogether word place join left statements right) row = omega arith
  core_counted (CoreSelect word left first rest right) row = omega arith
  core_counted (CoreRepeat word left index count right statement) row = omega arith
  core_counted (CoreIf word left condition right then_part) row = omega arith
  core_counted (CoreIfElse word left condition right then_part else_place otherwise) row = omega arith
  core_counted (CoreMatch word left expr right opening first rest close) row = omega arith
  core_counted (CoreBind bind) row = omega arith

  labeled : (label : _) (core : CoreTree) → is_branch (StatementLabeled label core) ≡ is_branch (StatementPlain core)
  labeled label (CoreDo do_place name with_part) = refl
  labeled label (CoreHandle name with_part) = refl
  labeled label (CoreSequence word left statements right) = refl
  labeled label (CoreTogether word place join left statements right) = refl
  labeled label (CoreSelect word left first rest right) = refl
  labeled label (CoreRepeat word left index count right statement) = refl
  labeled label (CoreIf word left condition right then_part) = refl
  labeled label (CoreIfElse word left condition right then_part else_place otherwise) = refl
  labeled label (CoreMatch word left expr right opening first rest close) = refl
  labeled label (CoreBind bind) = refl

  one_counted : (statement : StatementTree) (row : StepRow) → length (steps_of (more_steps (statement_step s setting level statement) row)) ≡ (if is_branch statement then 1 else 0) + length (steps_of row)
  one_counted (StatementEmpty place) row = omega arith
  one_counted (StatementLabeled label core) row = core_counted core row ∙ sym (ap (λ (b : Bool). (if b then 1 else 0) + length (steps_of row)) (labeled label core))
  one_counted (StatementPlain core) row = core_counted core row

  pub steps_counted : (row : StatementRow) → length (steps_of (row_steps s setting level row)) ≡ branches_in row
  steps_counted NoStatementRow = refl
  steps_counted (MoreStatementRow head tail) = one_counted head (row_steps s setting level tail) ∙ ap (λ (n : ℕ). (if is_branch head then 1 else 0) + n) (steps_counted tail)

longer_by : {X : Type 0} (b : Bool) (x : X) (xs : List X) → length (if b then x ∷ xs else xs) ≡ (if b then 1 else 0) + length xs
longer_by true x xs = omega arith
longer_by false x xs = omega arith

labels_counted : (row : StatementRow) → length (branch_labels row) ≡ branches_in row
labels_counted NoStatementRow = refl
labels_counted (MoreStatementRow head tail) = longer_by (is_branch head) (label_of head) (branch_labels tail) ∙ ap (λ (n : ℕ). (if is_branch head then 1 else 0) + n) (labels_counted tail)

places_counted : (row : StatementRow) → length (branch_places row) ≡ branches_in row
places_counted NoStatementRow = refl
places_counted (MoreStatementRow head tail) = longer_by (is_branch head) (statement_place head) (branch_places tail) ∙ ap (λ (n : ℕ). (if is_branch head then 1 else 0) + n) (places_counted tail)

record IsSplit (xs : List Place) (k : ℕ) : Type 0 where
  front : List Place
  m : Place
  more : List Place
  is : xs ≡ front ++ m ∷ more
  long : length front ≡ k

split : (xs : List Place) (k : ℕ) → k < length xs → IsSplit xs k
split [] k less = absurd (omega (arith, less))
split (x ∷ xs) zero less = record { front = []; m = x; more = xs; is = refl; long = refl }
split (x ∷ xs) (suc k) less = let r = split xs k (omega (arith, less)) in record { front = x ∷ r.front; m = r.m; more = r.more; is = ap (λ (ys : List Place). x ∷ ys) r.is; long = ap suc r.long }

module _ (units : List UnitTree) (names : List (List ℕ)) (constants : List ConstantValue) (are : AreConstants units names constants) (kept : IsNone (TypeBreach units names)) where
  abbrev s : Sources
  s = sources units names constants

  few_branches : (places : List Place) → In (Branches places) (uses units) → length places ≤ most_branches
  few_branches places there = by (cases_lt most_branches (length places))
    where
      by : (most_branches < length places) ⊎ (length places ≤ most_branches) → length places ≤ most_branches
      by (inr less) = less
      by (inl more) = let r = split places most_branches more in absurd (kept r.m 12 (OfUse (Branches places) r.m 12 (to_contains (uses units) (Branches places) there) (ManyBranches places r.front r.more r.m r.is r.long)))

  module _ (at : Environment) (statements : StatementRow) (n : ℕ) (same : n ≡ branches_in statements) where
    join_right : (join : JoinTree) → ((u : Use) → In u (join_uses at (labels_in statements) (branches_in statements) join) → In u (uses units)) → IsJoin (join_of s statements join) n
    join_right (JoinBranch word left named right) used = λ k set.
        let below = bits_below (branch_labels statements) (map (λ n. n.id) (names_of named)) in
        let inside = bit_within (joined_bits (map (λ n. n.id) (names_of named)) (branch_labels statements)) (length (branch_labels statements)) k below set in omega (arith, inside, labels_counted statements, same)
    join_right (JoinNothing place) used = λ k set. let inside = bit_within 0 0 k (omega (arith, pow_pos 0)) set in omega (arith, inside)
    join_right (JoinSelect word left count right) used =
        let w = within_limits units names constants are kept at (JoinCount (branches_in statements)) count 0 (branches_in statements) (used (Judges at (JoinCount (branches_in statements)) count) (inl refl)) refl refl in omega (arith, w.1, same)

  pub joins_sound : (at : Environment) (word : TogetherWord) (place : Place) (join : JoinTree) (left : Place) (statements : StatementRow) (right : Place)
      → ((u : Use) → Contains (core_uses at (CoreTogether word place (Some join) left statements right)) u → Contains (uses units) u) → (setting : Setting) (level : ℕ)
      → (length (steps_of (row_steps s setting level statements)) ≤ most_branches) × IsJoin (join_of s statements join) (length (steps_of (row_steps s setting level statements)))
  joins_sound at word place join left statements right used setting level =
      let its : (u : Use) → In u (core_uses at (CoreTogether word place (Some join) left statements right)) → In u (uses units) =
      λ u there. let c = used u (to_contains (core_uses at (CoreTogether word place (Some join) left statements right)) u there) in from_contains (uses units) u c.0 c.1 c.2 in
      let same = steps_counted s setting level statements in
      let few = few_branches (branch_places statements) (its (Branches (branch_places statements)) (inl refl)) in (
        omega (arith, same, few, places_counted statements),
        join_right at statements (length (steps_of (row_steps s setting level statements))) same join
            (λ u has. its u (inr (to_left (join_uses at (labels_in statements) (branches_in statements) join) (statement_row_uses at statements) u has))),
      )

  pub weights_sound : (at : Environment) (guard : Option GuardTree) (statement : StatementTree) → ((u : Use) → Contains (branch_uses at (MakeBranch guard statement)) u → Contains (uses units) u)
      → (1 ≤ weight_of s guard) × (weight_of s guard ≤ most_weight)
  weights_sound at guard statement used = by guard
      (λ u there. let c = used u (to_contains (branch_uses at (MakeBranch guard statement)) u (to_left (option_uses (guard_uses at) guard) (statement_uses at statement) u there)) in from_contains (uses units) u c.0 c.1 c.2)
    where
      by : (guard : Option GuardTree) → ((u : Use) → In u (option_uses (guard_uses at) guard) → In u (uses units)) → (1 ≤ weight_of s guard) × (weight_of s guard ≤ most_weight)
      by None used = (omega arith, omega arith)
      by (Some (GuardCondition left condition right None colon)) used = (omega arith, omega arith)
      by (Some (GuardCondition left condition right (Some (MakeWeight open_place expr close)) colon)) used =
          within_limits units names constants are kept at Weight expr 1 most_weight (used (Judges at Weight expr) (to_right (whole_uses at Condition condition) (whole_uses at Weight expr) (Judges at Weight expr) (inl refl))) refl refl
      by (Some (GuardWeight (MakeWeight open_place expr close) colon)) used = within_limits units names constants are kept at Weight expr 1 most_weight (used (Judges at Weight expr) (inl refl)) refl refl
