-- What may follow parts of activities, and what they begin with.
use Rattle.std.proofs.Common.{◌≡◌, ◌+◌, ◌-◌, ◌≤◌, true, false, List, ◌∷◌, ◌++◌, length, Option, refl, arith}
use Rattle.pst_token.specs.declared.kind.Kind.TheVariants as kind
use Rattle.pst_token.specs.declared.token.Token.{Token}
use Rattle.pst_ast.specs.ActivityTree.{GuardTree, GuardCondition, GuardWeight, WeightTree, MakeWeight, JoinTree, JoinBranch, JoinNothing, JoinSelect, WithTree, WithNothing, WithSet}
use Rattle.pst_ast.specs.ActivitySpelling.{spell_with, spell_join, spell_weight, spell_guard}
use Rattle.pst_ast.specs.ActivityProper.{with_ends_open}
use Rattle.pst_reading.specs.Kinds.{is_mark}
use Rattle.pst_reading.specs.Parser.{next}
use Rattle.pst_parse_step.specs.ActivityParts.{begins_join, begins_guard}
use Rattle.pst_parse_expr.specs.Constraints.{is_at}
use Rattle.pst_parse_operator.proofs.Stops.{IsNo}

-- behind a part that ends with an open `if` no `else` stands
abbrev pub StopsWith : WithTree → Option Token → Type 0
StopsWith w next = with_ends_open w ≡ true → IsNo kind.Else next

-- ---- what they begin with

pub guard_starts : (g : GuardTree) (rest : List Token) → (begins_guard (next (spell_guard g ++ rest)) ≡ true) × IsNo kind.RightBrace (next (spell_guard g ++ rest)) × IsNo kind.Else (next (spell_guard g ++ rest))
unfolding is_mark begins_guard
guard_starts (GuardCondition l e r w c) rest = (refl, refl, refl)
guard_starts (GuardWeight (MakeWeight l e r) c) rest = (refl, refl, refl)

pub join_starts : (j : JoinTree) (rest : List Token) → begins_join (next (spell_join j ++ rest)) ≡ true
unfolding is_mark begins_join
join_starts (JoinBranch w l n r) rest = refl
join_starts (JoinNothing p) rest = refl
join_starts (JoinSelect w l e r) rest = refl

pub weight_starts : (w : WeightTree) (rest : List Token) → is_at kind.LeftBracket (next (spell_weight w ++ rest)) ≡ true
unfolding is_mark
weight_starts (MakeWeight l e r) rest = refl

pub with_starts : (w : WithTree) (rest : List Token) → is_at kind.ColonColon (next (spell_with w ++ rest)) ≡ false
unfolding is_mark
with_starts (WithNothing p) rest = refl
with_starts (WithSet p s) rest = refl

-- ---- they are not empty

pub some_with : (w : WithTree) → 1 ≤ length (spell_with w)
some_with (WithNothing p) = omega arith
some_with (WithSet p s) = omega arith
