-- Facts: handles behind traversals, levels of indices, join forms, preorder, groups.
use Rattle.std.proofs.Common.{◌≡◌, ◌≢◌, ℕ, zero, suc, ◌<◌, ◌≤◌, ◌+◌, pos, List, [], ◌∷◌, ◌⊎◌, inl, inr, Option, Some, None, Bool, true, false, length, count_by, slice_get, refl, sym, subst, ap, ◌∙◌, lit<, arith, Contains}
use Rattle.pst_model.specs.declared.activity.Join.TheVariants.{Choose}
use Rattle.pst_scen.specs.declared.tree.Node.{Node}
use Rattle.pst_scen.specs.declared.tree.Fill.TheVariants as fill
use Rattle.pst_scen.specs.declared.act.Flow.TheVariants.{StreamIn, StreamOut}
use Rattle.pst_scen.specs.Tree.{StandsUnder, AtTop as UnderTop, Below as UnderBelow, IsChild}
use Rattle.pst_scen.specs.Scenarios.{AreInPreorder}
use Rattle.pst_scen.specs.Flows.{Streams, FromFirst, FromSecond}
use Rattle.pst_scen.specs.Order.{Together, Itself, Linked}
use Rattle.pst_scen.specs.Trace.{IsWholeGroup}
use Rattle.pst_legal.specs.Statements.{StandsFor, AtTop, Below, InTurn}
use Rattle.pst_legal.specs.Slots.{inline_slot}
use Rattle.pst_legal.specs.Constraints.{HasConstraint, Inline}
use Rattle.pst_legal.specs.Pieces.{IsJoined, mask}
use Rattle.pst_trials.specs.Parts.{number, constraint}
use Rattle.pst_trials.specs.Handles.{nested, in_turns, turned, traversal, n_times, handled, handled_scenario, behind, left, three}
use Rattle.pst_trials.proofs.Cases.{some_same, none_some, each_contained}
use Rattle.pst_trials.proofs.Traces.{here}
use Rattle.pst_trials.proofs.Legality.{differ}

pub stands : StandsFor nested in_turns.nodes 0 7 traversal (0 ∷ 1 ∷ [])
stands =
    InTurn 7 6 3 1 _ (constraint (number 2) []) traversal (0 ∷ [])
    (InTurn 3 2 1 0 _ (constraint (number 1) []) (n_times 2 traversal) []
    (AtTop 1 0 1 0 [] _ _ (n_times 1 (n_times 2 traversal)) refl refl refl refl refl)
    (record { node = _; is = refl; in_parent = refl }) refl refl (record { node = _; is = refl; in_parent = refl }))
    (record { node = _; is = refl; in_parent = refl }) refl refl (record { node = _; is = refl; in_parent = refl })

pub has : HasConstraint nested in_turns turned (inline_slot nested in_turns 7 0 (0 ∷ 1 ∷ []))
has = Inline 7 0 0 None (turned ∷ []) (0 ∷ 1 ∷ []) turned stands (0, lit< tt, refl)

pub handled_has : HasConstraint handled (handled_scenario (pos 3)) behind (inline_slot handled (handled_scenario (pos 3)) 1 0 [])
handled_has = Inline 1 0 1 None (behind ∷ []) [] behind (AtTop 1 0 2 0 (pos 3 ∷ []) _ _ _ refl refl refl refl refl) (0, lit< tt, refl)

-- ---- join forms

pub none_of_two : IsJoined (Choose 0) 2 0
none_of_two = (false ∷ false ∷ [], refl, refl, refl)

pub both_of_two : IsJoined (Choose 2) 2 3
both_of_two = (true ∷ true ∷ [], refl, refl, refl)

pub second_of_three : IsJoined (Choose 1) 3 2
second_of_three = (false ∷ true ∷ false ∷ [], refl, refl, refl)

pub two_of_three : IsJoined (Choose 1) 3 3 → ⊥
two_of_three ([], many, count, is) = cc many
two_of_three (a ∷ [], many, count, is) = cc many
two_of_three (a ∷ b ∷ [], many, count, is) = cc many
two_of_three (true ∷ true ∷ true ∷ [], many, count, is) = differ 3 7 refl is
two_of_three (true ∷ true ∷ false ∷ [], many, count, is) = differ 2 1 refl count
two_of_three (true ∷ false ∷ true ∷ [], many, count, is) = differ 3 5 refl is
two_of_three (true ∷ false ∷ false ∷ [], many, count, is) = differ 3 1 refl is
two_of_three (false ∷ true ∷ true ∷ [], many, count, is) = differ 3 6 refl is
two_of_three (false ∷ true ∷ false ∷ [], many, count, is) = differ 3 2 refl is
two_of_three (false ∷ false ∷ true ∷ [], many, count, is) = differ 3 4 refl is
two_of_three (false ∷ false ∷ false ∷ [], many, count, is) = differ 3 0 refl is
two_of_three (a ∷ b ∷ c ∷ d ∷ more, many, count, is) = cc many

pub three_of_two : (joined : ℕ) → IsJoined (Choose 3) 2 joined → ⊥
three_of_two joined ([], many, count, is) = cc many
three_of_two joined (a ∷ [], many, count, is) = cc many
three_of_two joined (true ∷ true ∷ [], many, count, is) = differ 2 3 refl count
three_of_two joined (true ∷ false ∷ [], many, count, is) = differ 1 3 refl count
three_of_two joined (false ∷ true ∷ [], many, count, is) = differ 1 3 refl count
three_of_two joined (false ∷ false ∷ [], many, count, is) = differ 0 3 refl count
three_of_two joined (a ∷ b ∷ c ∷ more, many, count, is) = cc many

-- ---- preorder

up : (top n : ℕ) → StandsUnder left top n → (top ≡ n) ⊎ ((parent : ℕ) × StandsUnder left top parent × IsChild left n parent)
up top _ UnderTop = inl refl
up top _ (UnderBelow n parent under child) = inr (parent, under, child)

not_under : StandsUnder left 1 3 → ⊥
not_under under = let either : (◌≡◌ {A = ℕ} 1 3) ⊎ ((parent : ℕ) × StandsUnder left 1 parent × IsChild left 3 parent) = up 1 3 under in go either
  where
    root : (parent : ℕ) → IsChild left 0 parent → ⊥
    root parent child = none_some parent (subst (λ (n : Node). n.parent ≡ Some parent) (sym (some_same _ child.node child.is)) child.in_parent)

    below : (◌≡◌ {A = ℕ} 1 0) ⊎ ((parent : ℕ) × StandsUnder left 1 parent × IsChild left 0 parent) → ⊥
    below (inl same) = differ 1 0 refl same
    below (inr (parent, above, child)) = root parent child

    go : (◌≡◌ {A = ℕ} 1 3) ⊎ ((parent : ℕ) × StandsUnder left 1 parent × IsChild left 3 parent) → ⊥
    go (inl same) = differ 1 3 refl same
    go (inr (parent, above, child)) =
        let same : ◌≡◌ {A = ℕ} 0 parent = some_same 0 parent (subst (λ (n : Node). n.parent ≡ Some parent) (sym (some_same _ child.node child.is)) child.in_parent) in
        below (up 1 0 (subst (StandsUnder left 1) (sym same) above))

pub left_is_left : AreInPreorder left → ⊥
left_is_left preorder =
    let b = preorder.below 3 _ refl in
    let same : ◌≡◌ {A = ℕ} 1 b.0 = some_same 1 b.0 b.1 in
    not_under (subst (λ p. StandsUnder left p 3) (sym same) b.2)

-- ---- groups

first_stream : Streams three 0 1
first_stream = FromFirst 0 0 StreamIn (inl refl) (record { act = _; reference = 0; filled = _; is_act = refl; is = refl; of_flow = refl; of_pool = refl; linked = refl })

second_stream : Streams three 1 2
second_stream = FromFirst 0 0 StreamOut (inr refl) (record { act = _; reference = 1; filled = _; is_act = refl; is = refl; of_flow = refl; of_pool = refl; linked = refl })

pub one_group : Together three 0 2
one_group = Linked 1 2 (Linked 0 1 Itself first_stream) second_stream

pub not_two : IsWholeGroup three (0 ∷ 1 ∷ []) → ⊥
not_two g = each_contained (λ n. n ≡ 2 → ⊥) (0 ∷ 1 ∷ []) ((differ 0 2 refl), ((differ 1 2 refl), tt)) 2 (g.whole 0 2 (here 0 (1 ∷ [])) one_group) refl
