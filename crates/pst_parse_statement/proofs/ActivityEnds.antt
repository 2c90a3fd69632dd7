-- What may follow the parts of activities, and what they begin with.
use Rattle.std.proofs.Common.{◌≡◌, ◌+◌, ◌-◌, ◌≤◌, Bool, true, false, List, ◌∷◌, ◌++◌, length, Some, Option, None, refl, sym, subst, arith, append_assoc, length-append}
use Rattle.pst_token.specs.declared.kind.Kind.TheVariants as kind
use Rattle.pst_token.specs.declared.token.Token.{Token}
use Rattle.pst_ast.specs.declared.activity.TogetherWord.TheVariants as the_together_word
use Rattle.pst_ast.specs.Marks.{mark, spell_option}
use Rattle.pst_ast.specs.ActivityTree.{StatementTree, StatementEmpty, StatementLabeled, StatementPlain, CoreTree, CoreDo, CoreHandle, CoreSequence, CoreTogether, CoreSelect, CoreRepeat, CoreIf, CoreIfElse, CoreMatch, CoreBind, BranchTree, MakeBranch, ArmTree, MakeArm, ArmLabelRanges, ArmLabelDefault, MakeBind}
use Rattle.pst_ast.specs.ActivitySpelling.{spell_statement, spell_core, spell_branch, spell_arm, spell_guard, spell_arm_label}
use Rattle.pst_ast.specs.ActivityProper.{statement_ends_open, core_ends_open}
use Rattle.pst_reading.specs.Kinds.{is_mark, is_name, next_is}
use Rattle.pst_reading.specs.Parser.{next}
use Rattle.pst_parse_step.specs.ActivityParts.{begins_guard}
use Rattle.pst_parse_operator.proofs.Stops.{IsNo}
use Rattle.pst_parse_step.proofs.ActivityPartEnds.{guard_starts}

-- behind a part that ends with an open `if` no `else` stands
abbrev pub StopsCore : CoreTree → Option Token → Type 0
StopsCore c next = core_ends_open c ≡ true → IsNo kind.Else next

abbrev pub StopsStatement : StatementTree → Option Token → Type 0
StopsStatement s next = statement_ends_open s ≡ true → IsNo kind.Else next

-- ---- what they begin with

-- a statement without a label: whether it begins with a name; no other part begins so
pub record StartsCore (named : Bool) (n : Option Token) : Type 0 where
  pub no_semicolon : IsNo kind.Semicolon n
  pub is_named : next_is is_name n ≡ named
  pub no_end : IsNo kind.RightBrace n
  pub no_else : IsNo kind.Else n
  pub no_guard : begins_guard n ≡ false

unfoldable pub is_handle : CoreTree → Bool
is_handle (CoreHandle name w) = true
is_handle _ = false

pub core_starts : (c : CoreTree) (rest : List Token) → StartsCore (is_handle c) (next (spell_core c ++ rest))
unfolding is_mark is_name begins_guard is_handle
core_starts (CoreDo p n w) rest = record { no_semicolon = refl; is_named = refl; no_end = refl; no_else = refl; no_guard = refl }
core_starts (CoreHandle n w) rest = record { no_semicolon = refl; is_named = refl; no_end = refl; no_else = refl; no_guard = refl }
core_starts (CoreSequence None l s r) rest = record { no_semicolon = refl; is_named = refl; no_end = refl; no_else = refl; no_guard = refl }
core_starts (CoreSequence (Some w) l s r) rest = record { no_semicolon = refl; is_named = refl; no_end = refl; no_else = refl; no_guard = refl }
core_starts (CoreTogether the_together_word.Parallel p j l s r) rest = record { no_semicolon = refl; is_named = refl; no_end = refl; no_else = refl; no_guard = refl }
core_starts (CoreTogether the_together_word.Schedule p j l s r) rest = record { no_semicolon = refl; is_named = refl; no_end = refl; no_else = refl; no_guard = refl }
core_starts (CoreSelect p l f m r) rest = record { no_semicolon = refl; is_named = refl; no_end = refl; no_else = refl; no_guard = refl }
core_starts (CoreRepeat p l i e r s) rest = record { no_semicolon = refl; is_named = refl; no_end = refl; no_else = refl; no_guard = refl }
core_starts (CoreIf p l e r t) rest = record { no_semicolon = refl; is_named = refl; no_end = refl; no_else = refl; no_guard = refl }
core_starts (CoreIfElse p l e r t x o) rest = record { no_semicolon = refl; is_named = refl; no_end = refl; no_else = refl; no_guard = refl }
core_starts (CoreMatch p l e r b f m z) rest = record { no_semicolon = refl; is_named = refl; no_end = refl; no_else = refl; no_guard = refl }
core_starts (CoreBind (MakeBind b f o s)) rest = record { no_semicolon = refl; is_named = refl; no_end = refl; no_else = refl; no_guard = refl }

pub record StartsStatement (n : Option Token) : Type 0 where
  pub no_end : IsNo kind.RightBrace n
  pub no_else : IsNo kind.Else n
  pub no_guard : begins_guard n ≡ false

pub statement_starts : (s : StatementTree) (rest : List Token) → StartsStatement (next (spell_statement s ++ rest))
unfolding is_mark begins_guard
statement_starts (StatementEmpty p) rest = record { no_end = refl; no_else = refl; no_guard = refl }
statement_starts (StatementLabeled l c) rest = record { no_end = refl; no_else = refl; no_guard = refl }
statement_starts (StatementPlain c) rest = let s = core_starts c rest in record { no_end = s.no_end; no_else = s.no_else; no_guard = s.no_guard }

pub branch_starts : (b : BranchTree) (rest : List Token) → IsNo kind.RightBrace (next (spell_branch b ++ rest)) × IsNo kind.Else (next (spell_branch b ++ rest))
branch_starts (MakeBranch None s) rest = let w = statement_starts s rest in (w.no_end, w.no_else)
branch_starts (MakeBranch (Some g) s) rest =
    let w = guard_starts g (spell_statement s ++ rest) in
    let e = append_assoc (spell_guard g) (spell_statement s) rest in
    (subst (λ (u : List Token). IsNo kind.RightBrace (next u)) (sym e) w.1, subst (λ (u : List Token). IsNo kind.Else (next u)) (sym e) w.2)

pub arm_starts : (a : ArmTree) (rest : List Token) → IsNo kind.RightBrace (next (spell_arm a ++ rest)) × IsNo kind.Else (next (spell_arm a ++ rest))
unfolding is_mark
arm_starts (MakeArm (ArmLabelRanges l rs r) c s) rest = (refl, refl)
arm_starts (MakeArm (ArmLabelDefault p) c s) rest = (refl, refl)

-- ---- they are not empty

pub some_core : (c : CoreTree) → 1 ≤ length (spell_core c)
some_core (CoreDo p n w) = omega arith
some_core (CoreHandle n w) = omega arith
some_core (CoreSequence None l s r) = omega arith
some_core (CoreSequence (Some w) l s r) = omega arith
some_core (CoreTogether w p j l s r) = omega arith
some_core (CoreSelect p l f m r) = omega arith
some_core (CoreRepeat p l i e r s) = omega arith
some_core (CoreIf p l e r t) = omega arith
some_core (CoreIfElse p l e r t x o) = omega arith
some_core (CoreMatch p l e r b f m z) = omega arith
some_core (CoreBind (MakeBind b f o s)) = omega arith

pub some_statement : (s : StatementTree) → 1 ≤ length (spell_statement s)
some_statement (StatementEmpty p) = omega arith
some_statement (StatementLabeled l c) = omega arith
some_statement (StatementPlain c) = some_core c

pub some_branch : (b : BranchTree) → 1 ≤ length (spell_branch b)
some_branch (MakeBranch g s) = omega (arith, some_statement s, length-append (spell_option spell_guard g) (spell_statement s))

pub some_arm : (a : ArmTree) → 1 ≤ length (spell_arm a)
some_arm (MakeArm l c s) = omega (arith, length-append (spell_arm_label l) (mark kind.Colon c ∷ spell_statement s))
