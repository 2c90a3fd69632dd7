-- Facts: a sound model whose body assigns to a local before its declaration.
use Rattle.std.proofs.Common.{◌≡◌, ◌≤◌, ◌<◌, ◌⊎◌, inl, inr, ℕ, zero, suc, List, [], ◌∷◌, Option, Some, None, All, slice_get, length, refl, sym, subst, lit<, lit≤, not-suc-le-zero, arith}
use Rattle.pst_model.specs.declared.model.Part.{Part}
use Rattle.pst_model.specs.ConstraintTree.{ConstraintTree}
use Rattle.pst_model.specs.BodyTree.{BodyStepTree}
use Rattle.pst_model.specs.ModelTree.{ModelTree, ActionTree, FunctionTree}
use Rattle.pst_model.specs.SoundConstraint.{IsSoundConstraint}
use Rattle.pst_model.specs.SoundSlots.{IsBodySlot}
use Rattle.pst_model.specs.SoundBody.{EachBodyStep, IsSoundBodyStep, IsSoundBody, IsBodyExpression}
use Rattle.pst_model.specs.Preorder.{LiesUnder, AtTop, Below, IsParent, IsSubtree}
use Rattle.pst_model.specs.Served.{IsServed, IsSoundServe}
use Rattle.pst_model.specs.Sound.{IsSound, IsSoundAction, IsSoundFunction, IsSoundObject, IsSoundPool, IsSoundField, IsSoundReference, IsSoundClaim}
use Rattle.pst_legal.specs.Shape.{HasShape}
use Rattle.pst_trials.specs.Parts.{top, with_body, number}
use Rattle.pst_trials.specs.Bodies.{model, scenario, plain}
use Rattle.pst_trials.specs.Doing.{undeclared}
use Rattle.pst_trials.proofs.Cases.{each, all_of, some_same, none_some}
use Rattle.pst_trials.proofs.Legality.{shape_by}

abbrev m : ModelTree
m = model undeclared

abbrev the_action : ActionTree
the_action = with_body undeclared

one_is_sound : IsBodyExpression m the_action 1 0 (plain (number 1))
one_is_sound = record { below = tt; slots = all_of (IsBodySlot m.objects the_action 1 0) [] tt }

body : IsSoundBody m the_action undeclared
body = record {
  few = lit≤ tt;
  numbered = each (λ k local. local ≡ k) (0 ∷ []) (refl, tt);
  steps = all_of (EachBodyStep (IsSoundBodyStep m the_action 1) 0) undeclared ((lit< tt, one_is_sound), (tt, tt));
}

sound_action : IsSoundAction m the_action
sound_action = record {
  few_fields = lit≤ tt;
  few_references = lit≤ tt;
  few_claims = lit≤ tt;
  fields = all_of IsSoundField [] tt;
  references = all_of (IsSoundReference m.objects) [] tt;
  claims = all_of (IsSoundClaim m.objects) [] tt;
  constraints = all_of _ [] tt;
  content = body;
}

at_most : (n : ℕ) → LiesUnder top 0 n → n ≤ 0
at_most _ AtTop = lit≤ tt
at_most zero (Below _ parent part is in_parent under) = lit≤ tt
at_most (suc n) (Below _ parent part is in_parent under) = absurd (none_some part is)

whole_tree : IsSubtree top 0 0
whole_tree = record { within = lit< tt; exactly = λ n. ((λ under. ((let z : 0 ≤ n = omega arith in z), at_most n under)), (λ between. subst (LiesUnder top 0) (let most = between.1 in omega (arith, most)) AtTop)) }

pub sound : IsSound m
sound = record {
  actions = all_of (IsSoundAction m) m.actions (sound_action, tt);
  objects = all_of IsSoundObject [] tt;
  few_instances = lit≤ tt;
  instances = record {
    parents = each (λ n part. IsParent n part.parent) top (refl, tt);
    subtrees = each (λ n part. IsSubtree top n part.last) top (whole_tree, tt);
  };
  pools = all_of (IsSoundPool m) [] tt;
  functions = all_of IsSoundFunction m.functions (lit≤ tt, (lit≤ tt, (lit≤ tt, tt)));
  order = λ i j d less below. absurd (not-suc-le-zero below);
  served = all_of (IsSoundServe m) [] tt;
  whole = each (λ n a. IsServed m n a) m.actions ((λ atomic concrete i part is same r below. absurd (not-suc-le-zero below)), tt);
}

pub shape : HasShape m scenario
shape = shape_by m scenario (tt, tt)
    (record { type = _; is = refl; atomic = refl; inside = lit< tt; many_fields = refl; many_references = refl; references = λ k reference filled is. absurd (none_some reference is); many_claims = refl; claims = λ k claim claimed is. absurd (none_some claim is) }, tt) tt
