-- The model of one action in the root is sound.
use Rattle.std.proofs.Common.{◌≡◌, ◌≤◌, ◌⊎◌, inl, inr, ◌≤ℤ◌, ◌<ℤ◌, ℕ, zero, suc, pos, [], ◌∷◌, slice_get, Some, refl, subst, lit<, arith}
use Rattle.std.proofs.lemmas.Int.{ints}
use Rattle.std.proofs.lemmas.List.Elements.{All-cons, All-nil}
use Rattle.pst_expr.specs.declared.ranges.Span.{Span}
use Rattle.pst_expr.specs.Spans.{IsDomain}
use Rattle.pst_model.specs.declared.model.Part.{Part}
use Rattle.pst_model.specs.ConstraintTree.{Own}
use Rattle.pst_model.specs.ModelTree.{ActionTree}
use Rattle.pst_model.specs.SoundConstraint.{IsSoundConstraint}
use Rattle.pst_model.specs.SoundSlots.{IsConstraintSlot}
use Rattle.pst_model.specs.Preorder.{LiesUnder, AtTop, IsParent, IsSubtree}
use Rattle.pst_model.specs.Served.{IsServed, ComesBefore}
use Rattle.pst_model.specs.Sound.{IsSound, IsSoundField, IsSoundAction}
use Rattle.pst_model.specs.Trials.{lone, action, field, own, span, root}
use Rattle.pst_model.proofs.Pairs.{pairs_nil, pairs_cons}
use Rattle.pst_model.proofs.Under.{up, same_some}

domain : IsDomain (span (pos 0) (pos 7) ∷ [])
domain = record {
  some = λ e. cc;
  upright = All-cons (λ (s : Span). s.low ≤ℤ s.high) (span (pos 0) (pos 7)) [] (omega (arith, ints)) (All-nil (λ (s : Span). s.low ≤ℤ s.high));
  ascending = (pairs_cons (λ (s t : Span). s.high <ℤ t.low) (span (pos 0) (pos 7)) []).1 (All-nil (λ (t : Span). pos 7 <ℤ t.low), pairs_nil (λ (s t : Span). s.high <ℤ t.low));
  few = lit< tt;
}

sound_field : IsSoundField field
sound_field = record { domain = domain; element = tt }

sound_own : IsSoundConstraint (IsConstraintSlot lone action) own
sound_own = record { below = omega arith; slots = All-cons (IsConstraintSlot lone action) (Own 0) [] (omega arith) (All-nil (IsConstraintSlot lone action)) }

sound_action : IsSoundAction lone action
sound_action = record {
  few_fields = omega arith;
  few_references = omega arith;
  few_claims = omega arith;
  fields = All-cons IsSoundField field [] sound_field (All-nil IsSoundField);
  references = All-nil _;
  claims = All-nil _;
  constraints = All-cons (IsSoundConstraint (IsConstraintSlot lone action)) own [] sound_own (All-nil (IsSoundConstraint (IsConstraintSlot lone action)));
  content = record { few = omega arith; numbered = λ k local e. absurd cc; steps = All-nil _ };
}

parents_of : (n : ℕ) (part : Part) → slice_get (root 0 ∷ []) n ≡ Some part → IsParent n part.parent
parents_of zero part e = subst (λ (p : Part). IsParent 0 p.parent) (same_some (root 0) part e) refl
parents_of (suc n) part e = absurd cc

at_most : (m : ℕ) → LiesUnder (root 0 ∷ []) 0 m → m ≤ 0
at_most m under = go m (up (root 0 ∷ []) 0 m under)
  where
    go : (m : ℕ) → (0 ≡ m) ⊎ ((parent : ℕ) × (part : Part) × (slice_get (root 0 ∷ []) m ≡ Some part) × (part.parent ≡ Some parent) × LiesUnder (root 0 ∷ []) 0 parent) → m ≤ 0
    go m (inl same) = omega (arith, same)
    go zero (inr more) = omega arith
    go (suc m) (inr (parent, part, is, of_parent, above)) = absurd cc

whole_tree : IsSubtree (root 0 ∷ []) 0 0
whole_tree = record { within = omega arith; exactly = λ m. (λ under. (omega arith, at_most m under), λ between. subst (λ (k : ℕ). LiesUnder (root 0 ∷ []) 0 k) (let most = between.1 in omega (arith, most)) AtTop) }

subtrees_of : (n : ℕ) (part : Part) → slice_get (root 0 ∷ []) n ≡ Some part → IsSubtree (root 0 ∷ []) n part.last
subtrees_of zero part e = subst (λ (p : Part). IsSubtree (root 0 ∷ []) 0 p.last) (same_some (root 0) part e) whole_tree
subtrees_of (suc n) part e = absurd cc

served_of : (n : ℕ) (a : ActionTree) → slice_get (action ∷ []) n ≡ Some a → IsServed lone n a
served_of zero a e = subst (λ (x : ActionTree). IsServed lone 0 x) (same_some action a e) (λ atomic concrete i part is same r below. let none : ⊥ = omega (arith, below) in absurd none)
served_of (suc n) a e = absurd cc

pub lone_is_sound : IsSound lone
lone_is_sound = record {
  actions = All-cons (IsSoundAction lone) action [] sound_action (All-nil (IsSoundAction lone));
  objects = All-nil _;
  few_instances = omega arith;
  instances = record { parents = parents_of; subtrees = subtrees_of };
  pools = All-nil _;
  functions = All-nil _;
  order = pairs_nil ComesBefore;
  served = All-nil _;
  whole = served_of;
}
