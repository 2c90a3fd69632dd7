-- Facts: fills and values.
use Rattle.std.proofs.Common.{◌≡◌, ◌≢◌, ℕ, zero, suc, ◌<◌, ◌≤ℤ◌, ℤ, pos, negsuc, List, [], ◌∷◌, ◌⊎◌, inl, inr, Option, Some, None, Bool, true, false, length, slice_get, refl, sym, subst, ap, ◌∙◌, lit<, arith, Contains, Any, not-suc-le-zero, le_of_suc-le-suc}
use lib.Signed.{le_z, le_z_yes}
use Rattle.pst_expr.specs.declared.tree.BinaryOp.TheVariants.{Sub}
use Rattle.pst_expr.specs.Spans.{IsInSpan}
use Rattle.pst_expr.specs.declared.ranges.Span.{Span}
use Rattle.pst_model.specs.declared.model.Pool.{Pool}
use Rattle.pst_model.specs.ConstraintTree.{ConstraintTree, First}
use Rattle.pst_model.specs.ActivityTree.{StepTree, BranchTree, MakeBranch, ArmTree, Repeat, If, NoStep, guard_of, spans_of}
use Rattle.pst_model.specs.ModelTree.{ModelTree, ActionTree, ContentTree, Atomic, Compound}
use Rattle.pst_scen.specs.declared.tree.Fill.{Fill}
use Rattle.pst_scen.specs.declared.tree.Fill.TheVariants as fill
use Rattle.pst_scen.specs.declared.act.Flow.TheVariants.{StateIn, StateOut}
use Rattle.pst_scen.specs.declared.act.Link.TheVariants as link
use Rattle.pst_scen.specs.declared.scenario.Scenario.{Scenario}
use Rattle.pst_legal.specs.Types.{type_of, action_instances}
use Rattle.pst_legal.specs.Standing.{Known}
use Rattle.pst_legal.specs.Slots.{act_slot}
use Rattle.pst_legal.specs.Constraints.{Holds, value_at, HasConstraint, OfFirst, OfAct}
use Rattle.pst_legal.specs.Growing.{Look, Inner, Leaf, nothing_yet, with_look, most_levels}
use Rattle.pst_legal.specs.Pieces.{Context, Piece, Action, Statement, Turning, holds_in, statements, IsContent, IsActionWay, IsSelectWay, IsStatementWay, IsMatchWay}
use Rattle.pst_legal.specs.Fits.{Fills, FillAll, FillsRoot, IsClaimOf}
use Rattle.pst_trials.specs.Parts.{name, number, by, constraint, claim, claimed, compound, traverse, act_claims, atomic, act_with, pool_of, filled}
use Rattle.pst_trials.specs.Fillings.{endless, one, after_one, no_value, is, here, arm, parted, locking, as_before, state, stated, reader, writer, read_and_write, beyond, wide, widest, alone}
use Rattle.pst_trials.proofs.Cases.{Each, each, each_contained, some_same, none_some, false_true}
use Rattle.pst_trials.proofs.Legality.{differ}
use Rattle.std.proofs.lemmas.Int.{ints}

-- ---- trees without an end

-- what stands for the endless action
abbrev Enters : Piece → Type 0
Enters (Action action top) = action ≡ 0
Enters (Statement c step) = step ≡ traverse 0
Enters (Turning c index body) = ⊥

abbrev entry : ActionTree
entry = compound [] (traverse 0 ∷ []) []

below_entry : (action : ℕ) (type : ActionTree) (instance : ℕ) (look : Look) (below : List Piece) → Some entry ≡ Some type → IsContent type type.content action instance look below
    → (c : Context) × (below ≡ Statement c (traverse 0) ∷ [])
below_entry action type instance look below has content = go (subst (λ t. IsContent t t.content action instance look below) (sym (some_same entry type has)) content)
  where
    go : IsContent entry entry.content action instance look below → (c : Context) × (below ≡ Statement c (traverse 0) ∷ [])
    go (fields, values, looks, stands) = (record { instance = instance; fields = fields; indices = [] }, stands)

below_way : (top : Option ℕ) (look : Look) (below : List Piece) → IsActionWay endless 0 top look below → (c : Context) × (below ≡ Statement c (traverse 0) ∷ [])
below_way top look below way = below_entry 0 way.type way.instance look below way.is way.content

first_of : (m : ModelTree) (levels : ℕ) (c : Context) (below : List Piece) (n : ℕ) (mid after : Scenario) → below ≡ Statement c (traverse 0) ∷ [] → FillAll (Fills m levels) below n mid after
    → (end : Scenario) × Fills m levels (Statement c (traverse 0)) (Some n) mid end
first_of m levels c below n mid after stands rest = let all = subst (λ b. FillAll (Fills m levels) b n mid after) stands rest in (all.0, all.1)

never : (levels : ℕ) (piece : Piece) (parent : Option ℕ) (before after : Scenario) → Enters piece → Fills endless levels piece parent before after → ⊥
never zero piece parent before after enters fills = fills
never (suc levels) (Action action top) parent before after enters (look, below, way, rest) =
    let next = below_way top look below (subst (λ a. IsActionWay endless a top look below) enters way) in
    let more = first_of endless levels next.0 below (length before.nodes) (with_look endless before parent look) after next.1 rest in
    never levels (Statement next.0 (traverse 0)) (Some (length before.nodes)) (with_look endless before parent look) more.0 refl more.1
never (suc levels) (Statement c step) parent before after enters (look, below, way, rest) =
    let next = below_way (Some c.instance) look below (subst (λ s. IsStatementWay endless c s look below) enters way) in
    let more = first_of endless levels next.0 below (length before.nodes) (with_look endless before parent look) after next.1 rest in
    never levels (Statement next.0 (traverse 0)) (Some (length before.nodes)) (with_look endless before parent look) more.0 refl more.1
never (suc levels) (Turning c index body) parent before after enters fills = absurd enters

pub endless_isn't_filled : (s : Scenario) → FillsRoot endless 0 s → ⊥
endless_isn't_filled s root = never most_levels (Action 0 None) None (nothing_yet s.level) root.tree refl root.fills

one_way : IsActionWay one 0 (Some 0) (Leaf 0 0) []
one_way = record { type = _; is = refl; instance = 0; inside = (0, lit< tt, refl); content = (refl, refl) }

pub two_levels : Fills one 2 (Action 1 None) None (nothing_yet 0) after_one
two_levels = (_, _, record { type = _; is = refl; instance = 0; inside = (0, lit< tt, refl); content = ([], tt, refl, refl) }, (_, (_, _, one_way, refl), refl))

pub one_level : (after : Scenario) → Fills one 1 (Action 1 None) None (nothing_yet 0) after → ⊥
one_level after (look, below, way, rest) =
    let next = below_entry 1 way.type way.instance look below way.is way.content in
    let more = first_of one 0 next.0 below 0 (with_look one (nothing_yet 0) None look) after next.1 rest in
    more.1

-- ---- statements without a way

pub no_guard : (look : Look) (below : List Piece) → IsSelectWay here (MakeBranch (Some no_value) 1 (traverse 0) ∷ []) look below → ⊥
no_guard look below way =
    each (λ k b. holds_in here (guard_of b) ≡ true → ⊥) (MakeBranch (Some no_value) 1 (traverse 0) ∷ []) ((λ e. false_true e), tt) way.index way.branch way.is way.holds

pub no_count : (look : Look) (below : List Piece) → IsStatementWay one here (Repeat no_value (traverse 0)) look below → ⊥
no_count look below (n, value, looks, stands) = none_some (pos n) value

pub negative_count : (look : Look) (below : List Piece) → IsStatementWay one here (Repeat (constraint (by Sub (number 0) (number 1)) []) (traverse 0)) look below → ⊥
negative_count look below (n, value, looks, stands) = let same : negsuc 0 ≡ pos n = some_same (negsuc 0) (pos n) value in cc same

pub no_condition : (look : Look) (below : List Piece) → IsStatementWay one here (If no_value (traverse 0) NoStep) look below → ⊥
no_condition look below (v, value, looks, stands) = none_some v value

pub nothing_taken : IsStatementWay one here (If (is 0) (traverse 0) NoStep) (Inner (fill.If false)) []
nothing_taken = (pos 0, refl, refl, refl)

-- ---- arms

two_in_arm : Any (IsInSpan (pos 2)) (spans_of arm)
two_in_arm = (0, _, lit< tt, refl, (le_z_yes tt, le_z_yes tt))

pub no_default : (below : List Piece) → IsMatchWay here (pos 2) (arm ∷ []) (Some (traverse 0)) (Inner (fill.Match None)) below → ⊥
no_default below (inl (index, other, matches, looks, stands)) = cc looks
no_default below (inr (none, rest)) = none 0 arm (refl, two_in_arm)

not_in : Any (IsInSpan (pos 3)) (spans_of arm) → ⊥
not_in (zero, s, below, same, (low, high)) = let h : pos 3 ≤ℤ pos 2 = subst (λ (t : Span). pos 3 ≤ℤ t.high) (sym same) high in omega (arith, ints, h)
not_in (suc k, s, below, same, between) = not-suc-le-zero (le_of_suc-le-suc below)

pub a_default : IsMatchWay here (pos 3) (arm ∷ []) (Some (traverse 0)) (Inner (fill.Match None)) (Statement here (traverse 0) ∷ [])
a_default = inr ((λ index other matches. each (λ k a. Any (IsInSpan (pos 3)) (spans_of a) → ⊥) (arm ∷ []) (not_in, tt) index other matches.0 matches.1), (traverse 0, refl, refl, refl))

-- ---- instances

abbrev parted_type : ActionTree
parted_type = record (atomic [] []) { component = name 1 }

leaf_same : (a b i j : ℕ) → Leaf a i ≡ Leaf b j → i ≡ j
leaf_same a b i j e = cc e

pub beside : IsActionWay parted 0 (Some 1) (Leaf 0 2) [] → ⊥
beside way =
    let same : parted_type ≡ way.type = some_same parted_type way.type way.is in
    let inside : Contains (1 ∷ []) way.instance = subst (λ (t : ActionTree). Contains (action_instances parted (Some t) (Some 1)) way.instance) (sym same) way.inside in
    let looks : (Leaf 0 2 ≡ Leaf 0 way.instance) × ([] ≡ []) = subst (λ (t : ActionTree). IsContent t t.content 0 way.instance (Leaf 0 2) []) (sym same) way.content in
    differ 2 1 refl (leaf_same 0 0 2 way.instance looks.0 ∙ each_contained (λ i. i ≡ 1) (1 ∷ []) (refl, tt) way.instance inside)

pub inside : IsActionWay parted 0 (Some 1) (Leaf 0 1) []
inside = record { type = _; is = refl; instance = 1; inside = (0, lit< tt, refl); content = (refl, refl) }

pub no_instance : IsClaimOf locking (act_claims 0 (Some 0) (claimed true 1 ∷ [])) 0 (claim true 0) (claimed true 1) → ⊥
no_instance c =
    let low : 1 < 1 = subst (λ (p : Pool). 1 < p.size) (sym (some_same (pool_of 1) c.pool c.is)) c.within in
    omega (arith, low)

-- ---- values

pub no_previous : Holds stated (read_and_write link.Initial) → ⊥
no_previous holds = false_true (holds as_before _ (OfFirst 0 0 (filled StateIn [] link.Initial) state as_before refl refl refl (0, lit< tt, refl)))

pub beyond_fails : Holds wide (alone 9223372036854775807) → ⊥
beyond_fails holds = false_true (holds beyond _ (OfAct 0 (widest 9223372036854775807) _ beyond (record { is = refl; of_type = refl }) (0, lit< tt, refl)))
