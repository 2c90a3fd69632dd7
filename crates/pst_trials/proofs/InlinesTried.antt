-- Facts: Constraints on what a handle traverses, and constraints that stand at a traversal.
use Rattle.std.specs.Prelude.{◌≡◌, ℕ, pos, List, [], ◌∷◌, Option, Some, None}
use Rattle.pst_model.specs.ConstraintTree.{ConstraintTree, Own, Through, Outer}
use Rattle.pst_model.specs.ActivityTree.{StepTree, Traverse}
use Rattle.pst_scen.specs.declared.tree.Fill.TheVariants as fill
use Rattle.pst_legal.specs.Statements.{handle_node}
use Rattle.pst_legal.specs.Standing.{Known, Unread}
use Rattle.pst_legal.specs.Slots.{node_slot, inline_slot}
use Rattle.pst_legal.specs.Constraints.{HasConstraint, Holds, value_at}
use Rattle.pst_legal.specs.First.{IsLive}
use Rattle.pst_legal.specs.ValueReading.{Whole, read}
use Rattle.pst_trials.specs.Parts.{span, top, traverse_by, places}
use Rattle.std.proofs.Common.{refl}
use Rattle.rand_core.specs.Steps.{u32_at, word_bytes}
use Rattle.rand_core.specs.Pcg32Seed.{pcg32_seed}
use Rattle.pst_rng.specs.Words.{generator_at}
use Rattle.pst_expr.specs.Spans.{numbers_from}
use Rattle.pst_trials.specs.Inlines.{is_next, is_nine, is_outer, entry, model, scenario, filling, choices, begun}
use Rattle.pst_legal.specs.Constraints.{OfCompound, Inline}
use Rattle.pst_legal.specs.Statements.{IsBranch, AtTop as AtTopStatement}
use Rattle.pst_scen.specs.declared.tree.Fill.{Fill}
use Rattle.pst_model.specs.ActivityTree.{ActivityTree}
use Rattle.pst_legal.specs.Types.{action_activity}
use Rattle.pst_trials.proofs.Cases.{Each, some_same}
use Rattle.pst_trials.proofs.Legality.{HoldsAt, EachInline, StandsAtTop, stands_at_top}
use Rattle.std.proofs.Common.{sym, subst, lit<, true≢false, Contains, slice_get}
use Rattle.pst_trials.proofs.Cases.{each, each_contained, EachOf, false_true}
use Rattle.pst_trials.proofs.Legality.{holds_by}

pub reads : read model 1 1 0 choices ≡ Whole filling
unfolding generator_at u32_at pcg32_seed word_bytes numbers_from
reads = refl

pub options : places model 1 1 0 choices ≡ Some 1 ∷ Some 16 ∷ Some 1 ∷ Some 1 ∷ Some 1 ∷ Some 16 ∷ Some 16 ∷ Some 16 ∷ []
unfolding generator_at u32_at pcg32_seed word_bytes numbers_from
options = refl

pub handle : handle_node model filling.nodes 0 1 0 ≡ Some 1
unfolding generator_at u32_at pcg32_seed word_bytes numbers_from
handle = refl

pub handle_value : node_slot model filling 0 (Through 0 (Own 0)) ≡ Known (pos 3)
unfolding generator_at u32_at pcg32_seed word_bytes numbers_from
handle_value = refl

pub outer_value : inline_slot model filling 3 0 [] (Outer (Own 0)) ≡ Known (pos 2)
unfolding generator_at u32_at pcg32_seed word_bytes numbers_from
outer_value = refl

pub no_handle_yet : handle_node model begun.nodes 0 1 0 ≡ None
unfolding generator_at u32_at pcg32_seed word_bytes numbers_from
no_handle_yet = refl

pub handle_unread : node_slot model begun 0 (Through 0 (Own 0)) ≡ Unread (span 0 15)
unfolding generator_at u32_at pcg32_seed word_bytes numbers_from
handle_unread = refl

pub own_unread : node_slot model begun 0 (Own 0) ≡ Unread (span 0 15)
unfolding generator_at u32_at pcg32_seed word_bytes numbers_from
own_unread = refl

pub is_next_value : value_at is_next (node_slot model filling 0) ≡ Some (pos 1)
unfolding generator_at u32_at pcg32_seed word_bytes numbers_from
is_next_value = refl

pub is_nine_value : value_at is_nine (inline_slot model filling 2 0 []) ≡ Some (pos 1)
unfolding generator_at u32_at pcg32_seed word_bytes numbers_from
is_nine_value = refl

pub is_outer_value : value_at is_outer (inline_slot model filling 3 0 []) ≡ Some (pos 1)
unfolding generator_at u32_at pcg32_seed word_bytes numbers_from
is_outer_value = refl

-- ---- the constraints

pub handle_has : HasConstraint model filling is_next (node_slot model filling 0)
handle_has = OfCompound 0 1 0 (pos 2 ∷ []) _ entry is_next refl refl refl (0, lit< tt, refl)

pub nine_has : HasConstraint model filling is_nine (inline_slot model filling 2 0 [])
nine_has = Inline 2 0 0 None (is_nine ∷ []) [] is_nine (AtTopStatement 2 1 1 0 (pos 2 ∷ []) _ _ _ refl refl refl refl refl) (0, lit< tt, refl)

pub outer_has : HasConstraint model filling is_outer (inline_slot model filling 3 0 [])
outer_has = Inline 3 0 0 None (is_outer ∷ []) [] is_outer (AtTopStatement 3 2 1 0 (pos 2 ∷ []) _ _ _ refl refl refl refl refl) (0, lit< tt, refl)

pub eight_fails : Holds model (scenario (pos 2) (pos 3) (pos 8) (pos 2)) → ⊥
eight_fails holds =
    false_true (holds is_nine _ (Inline 2 0 0 None (is_nine ∷ []) [] is_nine (AtTopStatement 2 1 1 0 (pos 2 ∷ []) _ _ _ refl refl refl refl refl) (0, lit< tt, refl)))

pub fifteen_is_refused : IsLive model 1 1 0 (0 ∷ 8 ∷ []) → ⊥
unfolding generator_at u32_at pcg32_seed word_bytes numbers_from
fifteen_is_refused live = true≢false (live.live is_next _ (OfCompound 0 1 0 (pos 15 ∷ []) _ entry is_next refl refl refl (0, lit< tt, refl)))

-- ---- all of them

abbrev Inlined : ℕ → ℕ → StepTree → Type 0
Inlined n top step = (action : ℕ) (handle : Option ℕ) (inline : List ConstraintTree) (k : ConstraintTree) → step ≡ Traverse action handle inline → Contains inline k → HoldsAt (inline_slot model filling n top []) k

inline_of : (n top own : ℕ) (mine : Option ℕ) (list : List ConstraintTree) → EachOf (HoldsAt (inline_slot model filling n top [])) list → Inlined n top (Traverse own mine list)
inline_of n top own mine list facts action handle inline k same contained =
    each_contained (HoldsAt (inline_slot model filling n top [])) list facts k (subst (λ l. Contains l k) (sym (inline_same own action mine handle list inline same)) contained)
  where
    inline_same : (a b : ℕ) (g h : Option ℕ) (xs ys : List ConstraintTree) → Traverse a g xs ≡ Traverse b h ys → xs ≡ ys
    inline_same a b g h xs ys e = cc e

abbrev steps : List StepTree
steps = traverse_by 0 0 ∷ Traverse 0 None (is_nine ∷ []) ∷ Traverse 0 None (is_outer ∷ []) ∷ []

by_index : Each (λ index step. (n : ℕ) → IsBranch filling.nodes 0 index n → Inlined n 0 step) steps
by_index = (
  (λ n branch. subst (λ n. Inlined n 0 (traverse_by 0 0)) (some_same 1 n branch) (inline_of 1 0 0 (Some 0) [] tt)),
  (
    (λ n branch. subst (λ n. Inlined n 0 (Traverse 0 None (is_nine ∷ []))) (some_same 2 n branch) (inline_of 2 0 0 None (is_nine ∷ []) (refl, tt))),
    ((λ n branch. subst (λ n. Inlined n 0 (Traverse 0 None (is_outer ∷ []))) (some_same 3 n branch) (inline_of 3 0 0 None (is_outer ∷ []) (refl, tt))), tt),
  ),
)

-- the root is the only compound action
abbrev IsRoot : ℕ → Fill → Type 0
IsRoot n (fill.Compound action instance fields) = (n ≡ 0) × (action ≡ 1)
IsRoot n _ = Unit {0}

abbrev activity : ActivityTree
activity = record { handles = 0 ∷ []; steps = steps; binds = [] }

inlines : EachInline HoldsAt model filling
inlines n top action handle inline indices k stands contained =
    let t : StandsAtTop model filling.nodes top n (Traverse action handle inline) indices = stands_at_top model filling.nodes (tt, ((refl, (refl, (refl, tt))), tt)) top n (Traverse action handle inline) indices stands in
    let root : (top ≡ 0) × (t.action ≡ 1) = subst (IsRoot top) t.compound (each (λ n node. IsRoot n node.fill) filling.nodes ((refl, refl), (tt, (tt, (tt, tt)))) top t.node t.is_node) in
    let same : activity ≡ t.activity = some_same activity t.activity (subst (λ a. action_activity model a ≡ Some t.activity) root.1 t.has) in
    let is : slice_get steps t.index ≡ Some (Traverse action handle inline) = subst (λ (a : ActivityTree). slice_get a.steps t.index ≡ Some (Traverse action handle inline)) (sym same) t.is in
    let branch : IsBranch filling.nodes 0 t.index n = subst (λ top. IsBranch filling.nodes top t.index n) root.0 t.branch in
    let holds : HoldsAt (inline_slot model filling n 0 []) k =
    each (λ index step. (n : ℕ) → IsBranch filling.nodes 0 index n → Inlined n 0 step) steps by_index t.index (Traverse action handle inline) is n branch action handle inline k refl contained in
    subst (λ top. HoldsAt (inline_slot model filling n top indices) k) (sym root.0) (subst (λ l. HoldsAt (inline_slot model filling n 0 l) k) (sym t.no_turns) holds)

pub all_hold : Holds model filling
all_hold = holds_by model filling (record {
  inlines = inlines;
  compounds = ((refl, tt), (tt, (tt, (tt, tt))));
  acts = (tt, (tt, (tt, tt)));
  claims = (tt, (tt, (tt, tt)));
  outputs = (tt, (tt, (tt, tt)));
  firsts = (tt, (tt, (tt, tt)));
})
