-- No part of an activity has the token `End` in it.
use Rattle.std.proofs.Common.{List, [], ◌∷◌, Option, Some, None}
use Rattle.std.specs.List.{flat_map}
use Rattle.pst_ast.specs.declared.activity.NextEnd.{NextEnd}
use Rattle.pst_ast.specs.Marks.{spell_option}
use Rattle.pst_ast.specs.ExpressionSpelling.{spell_expr, spell_ranges}
use Rattle.pst_ast.specs.SharedSpelling.{spell_names}
use Rattle.pst_ast.specs.ActivityTree.{GuardTree, GuardCondition, GuardWeight, WeightTree, MakeWeight, ArmLabelTree, ArmLabelRanges, ArmLabelDefault, JoinTree, JoinBranch, JoinNothing, JoinSelect, WithTree, WithNothing, WithSet, BindTree, MakeBind, OtherEndsTree, OtherEndsOne, OtherEndsSeveral}
use Rattle.pst_ast.specs.ActivitySpelling.{spell_with, spell_join, spell_next_end, spell_other_ends, spell_bind, spell_weight, spell_guard, spell_arm_label}
use Rattle.pst_reading.proofs.Whole.{NoEnd, both_free}
use Rattle.pst_parse_operator.proofs.NoEnd.{expr_free, ranges_free}
use Rattle.pst_parse_expr.proofs.ConstraintNoEnd.{set_free}
use Rattle.pst_parse_part.proofs.NoEnd.{names_free}

next_ends_free : (es : List NextEnd) → NoEnd (flat_map spell_next_end es)
next_ends_free [] = tt
next_ends_free (e ∷ es) = (λ f. cc, (λ f. cc, (λ f. cc, (λ f. cc, next_ends_free es))))

pub with_free : (w : WithTree) → NoEnd (spell_with w)
with_free (WithNothing p) = (λ f. cc, tt)
with_free (WithSet p s) = (λ f. cc, set_free s)

pub join_free : (o : Option JoinTree) → NoEnd (spell_option spell_join o)
join_free None = tt
join_free (Some (JoinBranch w l names r)) = (λ f. cc, (λ f. cc, both_free (spell_names names) _ (names_free names) (λ f. cc, tt)))
join_free (Some (JoinNothing p)) = (λ f. cc, tt)
join_free (Some (JoinSelect w l e r)) = (λ f. cc, (λ f. cc, both_free (spell_expr e) _ (expr_free e) (λ f. cc, tt)))

others_free : (o : OtherEndsTree) → NoEnd (spell_other_ends o)
others_free (OtherEndsOne e) = (λ f. cc, (λ f. cc, (λ f. cc, tt)))
others_free (OtherEndsSeveral l e es r) = (λ f. cc, (λ f. cc, (λ f. cc, (λ f. cc, both_free (flat_map spell_next_end es) _ (next_ends_free es) (λ f. cc, tt)))))

pub bind_free : (b : BindTree) → NoEnd (spell_bind b)
bind_free (MakeBind b e o s) = (λ f. cc, (λ f. cc, (λ f. cc, (λ f. cc, both_free (spell_other_ends o) _ (others_free o) (λ f. cc, tt)))))

weight_free : (w : WeightTree) → NoEnd (spell_weight w)
weight_free (MakeWeight l e r) = (λ f. cc, both_free (spell_expr e) _ (expr_free e) (λ f. cc, tt))

maybe_weight_free : (o : Option WeightTree) → NoEnd (spell_option spell_weight o)
maybe_weight_free None = tt
maybe_weight_free (Some w) = weight_free w

pub guard_free : (o : Option GuardTree) → NoEnd (spell_option spell_guard o)
guard_free None = tt
guard_free (Some (GuardCondition l e r w c)) = (λ f. cc, both_free (spell_expr e) _ (expr_free e) (λ f. cc, both_free (spell_option spell_weight w) _ (maybe_weight_free w) (λ f. cc, tt)))
guard_free (Some (GuardWeight w c)) = both_free (spell_weight w) _ (weight_free w) (λ f. cc, tt)

pub arm_label_free : (a : ArmLabelTree) → NoEnd (spell_arm_label a)
arm_label_free (ArmLabelRanges l rs z) = (λ f. cc, both_free (spell_ranges rs) _ (ranges_free rs) (λ f. cc, tt))
arm_label_free (ArmLabelDefault p) = (λ f. cc, tt)
