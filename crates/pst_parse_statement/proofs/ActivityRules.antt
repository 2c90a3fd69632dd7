-- What statements give, from what their parts give. Each module has a rule: what is left of its parser behind each part, and so what it gives where a part fails.
use Rattle.std.proofs.Common.{◌≡◌, ℕ, suc, ◌+◌, ◌-◌, ◌≤◌, true, false, List, length, Option, arith, drop, Err, Ok}
use Rattle.pst_base.specs.declared.position.Place.{Place}
use Rattle.pst_token.specs.declared.kind.Kind.TheVariants as kind
use Rattle.pst_token.specs.declared.token.Token.{Token}
use Rattle.pst_ast.specs.declared.leaf.Name.{Name}
use Rattle.pst_ast.specs.declared.activity.TogetherWord.{TogetherWord}
use Rattle.pst_ast.specs.Marks.{together_word_kind}
use Rattle.pst_ast.specs.Limits.{counted}
use Rattle.pst_ast.specs.ExpressionTree.{ExprTree}
use Rattle.pst_ast.specs.ActivityTree.{MakeActivity, StatementTree, StatementLabeled, StatementPlain, CoreTree, CoreHandle, CoreSequence, CoreTogether, CoreSelect, CoreRepeat, CoreIf, CoreIfElse, CoreMatch, BranchTree, MakeBranch, ArmTree, MakeArm, GuardTree, ArmLabelTree, JoinTree, WithTree}
use Rattle.pst_ast.specs.ActivityProper.{statement_ends_open}
use Rattle.pst_reading.specs.Kinds.{is_mark, next_is}
use Rattle.pst_reading.specs.Parser.{Done, ◌>>=◌, next, mark_by, name_by, Took}
use Rattle.pst_reading.specs.Reads.{Read, ReadOpen}
use Rattle.pst_parse_statement.specs.Activities.{statement_row, branch_row, arm_row, statement_at, maybe_else_by, else_by, labeled_by, traversed_by}
use Rattle.pst_ast.specs.declared.fault.SyntaxFault.{SyntaxFault}
use Rattle.pst_reading.specs.Gives.{SettlesFrom, FailsFrom, Expects}
use Rattle.pst_reading.proofs.Reaching.{Reaches, begin, step, mark_step, name_step, choose, ends, fails, mark_fails, name_fails}
use Rattle.pst_reading.proofs.Optional.{row_settles, row_fails}
use Rattle.pst_parse_expr.specs.Constraints.{outermost_at, constraint_at}
use Rattle.pst_parse_expr.specs.ConstraintFamilies.{outermost_family}
use Rattle.pst_parse_step.specs.ActivityPartFamilies.{arm_label_family, with_family, maybe_join_family, maybe_guard_family}
use Rattle.pst_parse_statement.specs.ActivityFamilies.{sequence_family, branch_family, select_family, repeated_family, if_family, arm_family, match_family, core_family, named_family, plain_family, statement_family, together_family, activity_family, maybe_sequence_word_family, statements_family, branches_family, arms_family, statement_row_family, branch_row_family, arm_row_family}
use Rattle.pst_parse_statement.proofs.ActivityNested.{statement_nested, statement_nested_fails}
use Rattle.pst_parse_statement.proofs.ActivityLooks.{no_else_behind, else_behind}
use Rattle.pst_parse_part.specs.TimesFamilies.{times_family}
use Rattle.pst_parse_part.specs.Times.{TimesTree, times_by}

-- ["sequence"] "{" { stmt } "}"
module _ (tokens : List Token) (at d : ℕ) where
  pub sequence_word_fails : (e : SyntaxFault) → FailsFrom (maybe_sequence_word_family d) tokens at at e → FailsFrom (sequence_family d) tokens at at e
  sequence_word_fails e h = fails (sequence_family d) tokens at at (maybe_sequence_word_family d) _ at at e (omega arith) h (begin (sequence_family d) tokens at at)

  module _ {X : Type 0} {view : X → Option Place} {x : X × ℕ} (word : Read view (maybe_sequence_word_family d) tokens at at 0 x) where
    sequence_word_read : Reaches (sequence_family d) tokens at at (λ m n. mark_by kind.LeftBrace (counted d 0) >>= (λ l. statement_row_family d m n >>= (λ s. mark_by kind.RightBrace (counted d 0) >>= (λ r. Done (CoreSequence (view x.0) l s r))))) x.1
    sequence_word_read = step (sequence_family d) tokens at at (maybe_sequence_word_family d) _ at at x.1 (view x.0) (omega arith) (omega (arith, word.after)) word.settles (begin (sequence_family d) tokens at at)

    pub sequence_brace_fails : (e : SyntaxFault) → Expects (mark_by kind.LeftBrace (counted d 0)) tokens x.1 (Err e) → FailsFrom (sequence_family d) tokens at at e
    sequence_brace_fails e h = mark_fails (sequence_family d) tokens at at kind.LeftBrace _ _ x.1 e word.inside h sequence_word_read

    module _ (left : Place) (opened : Expects (mark_by kind.LeftBrace (counted d 0)) tokens x.1 (Ok left)) where
      sequence_brace_read : Reaches (sequence_family d) tokens at at (λ m n. statement_row_family d m n >>= (λ s. mark_by kind.RightBrace (counted d 0) >>= (λ r. Done (CoreSequence (view x.0) left s r)))) (x.1 + 1)
      sequence_brace_read = mark_step (sequence_family d) tokens at at kind.LeftBrace _ _ x.1 (x.1 + 1) left (omega arith) opened.0 sequence_word_read

      pub sequence_statements_fail : (e : SyntaxFault) → FailsFrom (statements_family d) tokens (x.1 + 1 - 1) (x.1 + 1) e → FailsFrom (sequence_family d) tokens at at e
      sequence_statements_fail e h = fails (sequence_family d) tokens at at (statement_row_family d) _ (x.1 + 1 - 1) (x.1 + 1) e (omega (arith, word.after)) (row_fails tokens (x.1 + 1 - 1) (x.1 + 1) statement_row (statements_family d) e h) sequence_brace_read

      module _ {Y : Type 0} {view_list : Y → List StatementTree} {y : Y × ℕ} (listed : Read view_list (statements_family d) tokens (x.1 + 1 - 1) (x.1 + 1) 0 y) where
        sequence_statements_read : Reaches (sequence_family d) tokens at at (λ m n. mark_by kind.RightBrace (counted d 0) >>= (λ r. Done (CoreSequence (view x.0) left (statement_row (view_list y.0)) r))) y.1
        sequence_statements_read =
            step (sequence_family d) tokens at at (statement_row_family d) _ (x.1 + 1 - 1) (x.1 + 1) y.1 (statement_row (view_list y.0))
            (omega (arith, word.after)) (omega (arith, listed.after))
            (row_settles tokens (x.1 + 1 - 1) (x.1 + 1) statement_row (statements_family d) (view_list y.0) y.1 listed.settles) sequence_brace_read

        pub sequence_end_fails : (e : SyntaxFault) → Expects (mark_by kind.RightBrace (counted d 0)) tokens y.1 (Err e) → FailsFrom (sequence_family d) tokens at at e
        sequence_end_fails e h = mark_fails (sequence_family d) tokens at at kind.RightBrace _ _ y.1 e listed.inside h sequence_statements_read

        pub sequence_given : (right : Place) → Expects (mark_by kind.RightBrace (counted d 0)) tokens y.1 (Ok right) → SettlesFrom (sequence_family d) tokens at at (Took (CoreSequence (view x.0) left (statement_row (view_list y.0)) right) (drop (y.1 + 1) tokens))
        sequence_given right h = ends (sequence_family d) tokens at at _ (y.1 + 1) (mark_step (sequence_family d) tokens at at kind.RightBrace _ _ y.1 (y.1 + 1) right (omega arith) h.0 sequence_statements_read)

-- ("parallel"|"schedule") [ join ] "{" { stmt } "}"
module _ (tokens : List Token) (at d : ℕ) (word : TogetherWord) where
  pub together_word_fails : (e : SyntaxFault) → at ≤ length tokens → Expects (mark_by (together_word_kind word) (counted d 0)) tokens at (Err e) → FailsFrom (together_family word d) tokens at at e
  together_word_fails e le h = mark_fails (together_family word d) tokens at at (together_word_kind word) _ _ at e le h (begin (together_family word d) tokens at at)

  module _ (place : Place) (found : Expects (mark_by (together_word_kind word) (counted d 0)) tokens at (Ok place)) where
    together_word_read : Reaches (together_family word d) tokens at at (λ m n. maybe_join_family d m n >>= (λ j. mark_by kind.LeftBrace (counted d 0) >>= (λ l. statement_row_family d m n >>= (λ s. mark_by kind.RightBrace (counted d 0) >>= (λ r. Done (CoreTogether word place j l s r)))))) (at + 1)
    together_word_read = mark_step (together_family word d) tokens at at (together_word_kind word) _ _ at (at + 1) place (omega arith) found.0 (begin (together_family word d) tokens at at)

    pub together_join_fails : (e : SyntaxFault) → FailsFrom (maybe_join_family d) tokens (at + 1) (at + 1) e → FailsFrom (together_family word d) tokens at at e
    together_join_fails e h = fails (together_family word d) tokens at at (maybe_join_family d) _ (at + 1) (at + 1) e (omega arith) h together_word_read

    module _ {X : Type 0} {view : X → Option JoinTree} {x : X × ℕ} (joined : Read view (maybe_join_family d) tokens (at + 1) (at + 1) 0 x) where
      together_join_read : Reaches (together_family word d) tokens at at (λ m n. mark_by kind.LeftBrace (counted d 0) >>= (λ l. statement_row_family d m n >>= (λ s. mark_by kind.RightBrace (counted d 0) >>= (λ r. Done (CoreTogether word place (view x.0) l s r))))) x.1
      together_join_read = step (together_family word d) tokens at at (maybe_join_family d) _ (at + 1) (at + 1) x.1 (view x.0) (omega arith) (omega (arith, joined.after)) joined.settles together_word_read

      pub together_brace_fails : (e : SyntaxFault) → Expects (mark_by kind.LeftBrace (counted d 0)) tokens x.1 (Err e) → FailsFrom (together_family word d) tokens at at e
      together_brace_fails e h = mark_fails (together_family word d) tokens at at kind.LeftBrace _ _ x.1 e joined.inside h together_join_read

      module _ (left : Place) (opened : Expects (mark_by kind.LeftBrace (counted d 0)) tokens x.1 (Ok left)) where
        together_brace_read : Reaches (together_family word d) tokens at at (λ m n. statement_row_family d m n >>= (λ s. mark_by kind.RightBrace (counted d 0) >>= (λ r. Done (CoreTogether word place (view x.0) left s r)))) (x.1 + 1)
        together_brace_read = mark_step (together_family word d) tokens at at kind.LeftBrace _ _ x.1 (x.1 + 1) left (omega arith) opened.0 together_join_read

        pub together_statements_fail : (e : SyntaxFault) → FailsFrom (statements_family d) tokens (x.1 + 1 - 1) (x.1 + 1) e → FailsFrom (together_family word d) tokens at at e
        together_statements_fail e h = fails (together_family word d) tokens at at (statement_row_family d) _ (x.1 + 1 - 1) (x.1 + 1) e (omega (arith, joined.after)) (row_fails tokens (x.1 + 1 - 1) (x.1 + 1) statement_row (statements_family d) e h) together_brace_read

        module _ {Y : Type 0} {view_list : Y → List StatementTree} {y : Y × ℕ} (listed : Read view_list (statements_family d) tokens (x.1 + 1 - 1) (x.1 + 1) 0 y) where
          together_statements_read : Reaches (together_family word d) tokens at at (λ m n. mark_by kind.RightBrace (counted d 0) >>= (λ r. Done (CoreTogether word place (view x.0) left (statement_row (view_list y.0)) r))) y.1
          together_statements_read =
              step (together_family word d) tokens at at (statement_row_family d) _ (x.1 + 1 - 1) (x.1 + 1) y.1 (statement_row (view_list y.0))
              (omega (arith, joined.after)) (omega (arith, listed.after))
              (row_settles tokens (x.1 + 1 - 1) (x.1 + 1) statement_row (statements_family d) (view_list y.0) y.1 listed.settles) together_brace_read

          pub together_end_fails : (e : SyntaxFault) → Expects (mark_by kind.RightBrace (counted d 0)) tokens y.1 (Err e) → FailsFrom (together_family word d) tokens at at e
          together_end_fails e h = mark_fails (together_family word d) tokens at at kind.RightBrace _ _ y.1 e listed.inside h together_statements_read

          pub together_given : (right : Place) → Expects (mark_by kind.RightBrace (counted d 0)) tokens y.1 (Ok right) → SettlesFrom (together_family word d) tokens at at (Took (CoreTogether word place (view x.0) left (statement_row (view_list y.0)) right) (drop (y.1 + 1) tokens))
          together_given right h = ends (together_family word d) tokens at at _ (y.1 + 1) (mark_step (together_family word d) tokens at at kind.RightBrace _ _ y.1 (y.1 + 1) right (omega arith) h.0 together_statements_read)

-- branch = [ guard ":" ] stmt; inner is the depth of its statement
module _ (tokens : List Token) (at d : ℕ) (started : 1 ≤ at) (inner : ℕ) (deeper : inner ≡ suc d) where
  pub branch_guard_fails : (e : SyntaxFault) → FailsFrom (maybe_guard_family d) tokens at at e → FailsFrom (branch_family d) tokens (at - 1) at e
  branch_guard_fails e h = fails (branch_family d) tokens (at - 1) at (maybe_guard_family d) _ at at e (omega arith) h (begin (branch_family d) tokens (at - 1) at)

  module _ {X : Type 0} {view : X → Option GuardTree} {x : X × ℕ} (guard : Read view (maybe_guard_family d) tokens at at 0 x) where
    branch_guard_read : Reaches (branch_family d) tokens (at - 1) at (λ m n. statement_at m d >>= (λ s. Done (MakeBranch (view x.0) s))) x.1
    branch_guard_read = step (branch_family d) tokens (at - 1) at (maybe_guard_family d) _ at at x.1 (view x.0) (omega arith) (omega (arith, guard.after)) guard.settles (begin (branch_family d) tokens (at - 1) at)

    pub branch_statement_fails : (e : SyntaxFault) → FailsFrom (statement_family inner) tokens x.1 x.1 e → FailsFrom (branch_family d) tokens (at - 1) at e
    branch_statement_fails e h = fails (branch_family d) tokens (at - 1) at (λ m n. statement_at m d) _ (at - 1) x.1 e (omega arith) (statement_nested_fails tokens (at - 1) x.1 inner d deeper e (omega (arith, started, guard.after)) guard.inside h) branch_guard_read

    pub branch_given : {Y : Type 0} {view_statement : Y → StatementTree} {y : Y × ℕ} → ReadOpen view_statement statement_ends_open (statement_family inner) tokens x.1 x.1 y → SettlesFrom (branch_family d) tokens (at - 1) at (Took (MakeBranch (view x.0) (view_statement y.0)) (drop y.1 tokens))
    branch_given {Y} {view_statement} {y} s =
        ends (branch_family d) tokens (at - 1) at _ y.1
        (step (branch_family d) tokens (at - 1) at (λ m n. statement_at m d) _ (at - 1) x.1 y.1 (view_statement y.0) (omega arith)
        (omega (arith, s.after))
        (statement_nested tokens (at - 1) x.1 inner d deeper _ (omega (arith, started, guard.after)) guard.inside s.settles) branch_guard_read)

-- "select" "{" branch { branch } "}"
module _ (tokens : List Token) (at d : ℕ) where
  pub select_word_fails : (e : SyntaxFault) → at ≤ length tokens → Expects (mark_by kind.Select (counted d 0)) tokens at (Err e) → FailsFrom (select_family d) tokens at at e
  select_word_fails e le h = mark_fails (select_family d) tokens at at kind.Select _ _ at e le h (begin (select_family d) tokens at at)

  module _ (word : Place) (found : Expects (mark_by kind.Select (counted d 0)) tokens at (Ok word)) where
    select_word_read : Reaches (select_family d) tokens at at (λ m n. mark_by kind.LeftBrace (counted d 0) >>= (λ l. branch_family d m n >>= (λ b. branch_row_family d m n >>= (λ bs. mark_by kind.RightBrace (counted d 0) >>= (λ r. Done (CoreSelect word l b bs r)))))) (at + 1)
    select_word_read = mark_step (select_family d) tokens at at kind.Select _ _ at (at + 1) word (omega arith) found.0 (begin (select_family d) tokens at at)

    pub select_brace_fails : (e : SyntaxFault) → Expects (mark_by kind.LeftBrace (counted d 0)) tokens (at + 1) (Err e) → FailsFrom (select_family d) tokens at at e
    select_brace_fails e h = mark_fails (select_family d) tokens at at kind.LeftBrace _ _ (at + 1) e found.1 h select_word_read

    module _ (left : Place) (opened : Expects (mark_by kind.LeftBrace (counted d 0)) tokens (at + 1) (Ok left)) where
      select_brace_read : Reaches (select_family d) tokens at at (λ m n. branch_family d m n >>= (λ b. branch_row_family d m n >>= (λ bs. mark_by kind.RightBrace (counted d 0) >>= (λ r. Done (CoreSelect word left b bs r))))) (at + 2)
      select_brace_read = mark_step (select_family d) tokens at at kind.LeftBrace _ _ (at + 1) (at + 2) left (omega arith) opened.0 select_word_read

      pub select_first_fails : (e : SyntaxFault) → FailsFrom (branch_family d) tokens (at + 2 - 1) (at + 2) e → FailsFrom (select_family d) tokens at at e
      select_first_fails e h = fails (select_family d) tokens at at (branch_family d) _ (at + 2 - 1) (at + 2) e (omega arith) h select_brace_read

      module _ {X : Type 0} {view : X → BranchTree} {x : X × ℕ} (first : Read view (branch_family d) tokens (at + 2 - 1) (at + 2) 1 x) where
        select_first_read : Reaches (select_family d) tokens at at (λ m n. branch_row_family d m n >>= (λ bs. mark_by kind.RightBrace (counted d 0) >>= (λ r. Done (CoreSelect word left (view x.0) bs r)))) x.1
        select_first_read = step (select_family d) tokens at at (branch_family d) _ (at + 2 - 1) (at + 2) x.1 (view x.0) (omega arith) (omega (arith, first.after)) first.settles select_brace_read

        pub select_rest_fails : (e : SyntaxFault) → FailsFrom (branches_family d) tokens (x.1 - 1) x.1 e → FailsFrom (select_family d) tokens at at e
        select_rest_fails e h = fails (select_family d) tokens at at (branch_row_family d) _ (x.1 - 1) x.1 e (omega (arith, first.after)) (row_fails tokens (x.1 - 1) x.1 branch_row (branches_family d) e h) select_first_read

        module _ {Y : Type 0} {view_list : Y → List BranchTree} {y : Y × ℕ} (rest : Read view_list (branches_family d) tokens (x.1 - 1) x.1 0 y) where
          select_rest_read : Reaches (select_family d) tokens at at (λ m n. mark_by kind.RightBrace (counted d 0) >>= (λ r. Done (CoreSelect word left (view x.0) (branch_row (view_list y.0)) r))) y.1
          select_rest_read =
              step (select_family d) tokens at at (branch_row_family d) _ (x.1 - 1) x.1 y.1 (branch_row (view_list y.0)) (omega (arith, first.after))
              (omega (arith, rest.after)) (row_settles tokens (x.1 - 1) x.1 branch_row (branches_family d) (view_list y.0) y.1 rest.settles)
              select_first_read

          pub select_end_fails : (e : SyntaxFault) → Expects (mark_by kind.RightBrace (counted d 0)) tokens y.1 (Err e) → FailsFrom (select_family d) tokens at at e
          select_end_fails e h = mark_fails (select_family d) tokens at at kind.RightBrace _ _ y.1 e rest.inside h select_rest_read

          pub select_given : (right : Place) → Expects (mark_by kind.RightBrace (counted d 0)) tokens y.1 (Ok right) → SettlesFrom (select_family d) tokens at at (Took (CoreSelect word left (view x.0) (branch_row (view_list y.0)) right) (drop (y.1 + 1) tokens))
          select_given right h = ends (select_family d) tokens at at _ (y.1 + 1) (mark_step (select_family d) tokens at at kind.RightBrace _ _ y.1 (y.1 + 1) right (omega arith) h.0 select_rest_read)

-- "repeat" times stmt
module _ (tokens : List Token) (at d inner : ℕ) (deeper : inner ≡ suc d) where
  pub repeat_word_fails : (e : SyntaxFault) → at ≤ length tokens → Expects (mark_by kind.Repeat (counted d 0)) tokens at (Err e) → FailsFrom (repeated_family d) tokens at at e
  repeat_word_fails e le h = mark_fails (repeated_family d) tokens at at kind.Repeat _ _ at e le h (begin (repeated_family d) tokens at at)

  module _ (word : Place) (found : Expects (mark_by kind.Repeat (counted d 0)) tokens at (Ok word)) where
    repeat_word_read : Reaches (repeated_family d) tokens at at (λ m n. times_by (outermost_at (suc m)) d >>= (λ t. statement_at m d >>= (λ s. Done (CoreRepeat word t.0 t.1 t.2 t.3 s)))) (at + 1)
    repeat_word_read = mark_step (repeated_family d) tokens at at kind.Repeat _ _ at (at + 1) word (omega arith) found.0 (begin (repeated_family d) tokens at at)

    pub repeat_times_fail : (e : SyntaxFault) → FailsFrom (times_family d) tokens (at + 1) (at + 1) e → FailsFrom (repeated_family d) tokens at at e
    repeat_times_fail e h = fails (repeated_family d) tokens at at (times_family d) _ (at + 1) (at + 1) e (omega arith) h repeat_word_read

    module _ {X : Type 0} {view : X → TimesTree} {x : X × ℕ} (times : Read view (times_family d) tokens (at + 1) (at + 1) 1 x) where
      repeat_times_read : Reaches (repeated_family d) tokens at at (λ m n. statement_at m d >>= (λ s. Done (CoreRepeat word (view x.0).0 (view x.0).1 (view x.0).2 (view x.0).3 s))) x.1
      repeat_times_read = step (repeated_family d) tokens at at (times_family d) _ (at + 1) (at + 1) x.1 (view x.0) (omega arith) (omega (arith, times.after)) times.settles repeat_word_read

      pub repeat_statement_fails : (e : SyntaxFault) → FailsFrom (statement_family inner) tokens x.1 x.1 e → FailsFrom (repeated_family d) tokens at at e
      repeat_statement_fails e h = fails (repeated_family d) tokens at at (λ m n. statement_at m d) _ at x.1 e (omega arith) (statement_nested_fails tokens at x.1 inner d deeper e (omega (arith, times.after)) times.inside h) repeat_times_read

      pub repeat_given :
          {Y : Type 0} {view_statement : Y → StatementTree} {y : Y × ℕ} →
          ReadOpen view_statement statement_ends_open (statement_family inner) tokens x.1 x.1 y →
          SettlesFrom (repeated_family d) tokens at at (Took (CoreRepeat word (view x.0).0 (view x.0).1 (view x.0).2 (view x.0).3 (view_statement y.0)) (drop y.1 tokens))
      repeat_given {Y} {view_statement} {y} s =
          ends (repeated_family d) tokens at at _ y.1
          (step (repeated_family d) tokens at at (λ m n. statement_at m d) _ at x.1 y.1 (view_statement y.0) (omega arith) (omega (arith, s.after))
          (statement_nested tokens at x.1 inner d deeper _ (omega (arith, times.after)) times.inside s.settles) repeat_times_read)

-- "if" "(" expr ")" stmt [ "else" stmt ]
module _ (tokens : List Token) (at d inner : ℕ) (deeper : inner ≡ suc d) where
  pub if_word_fails : (e : SyntaxFault) → at ≤ length tokens → Expects (mark_by kind.If (counted d 0)) tokens at (Err e) → FailsFrom (if_family d) tokens at at e
  if_word_fails e le h = mark_fails (if_family d) tokens at at kind.If _ _ at e le h (begin (if_family d) tokens at at)

  module _ (word : Place) (found : Expects (mark_by kind.If (counted d 0)) tokens at (Ok word)) where
    if_word_read :
        Reaches (if_family d) tokens at at (λ m n. mark_by kind.LeftParenthesis (counted d 0) >>= (λ l. outermost_at (suc m) d >>= (λ c. mark_by kind.RightParenthesis (counted d 0) >>= (λ r. statement_at m d >>= (λ t. maybe_else_by (statement_at m) d word l c r t (statement_ends_open t)))))) (at + 1)
    if_word_read = mark_step (if_family d) tokens at at kind.If _ _ at (at + 1) word (omega arith) found.0 (begin (if_family d) tokens at at)

    pub if_opening_fails : (e : SyntaxFault) → Expects (mark_by kind.LeftParenthesis (counted d 0)) tokens (at + 1) (Err e) → FailsFrom (if_family d) tokens at at e
    if_opening_fails e h = mark_fails (if_family d) tokens at at kind.LeftParenthesis _ _ (at + 1) e found.1 h if_word_read

    module _ (left : Place) (opened : Expects (mark_by kind.LeftParenthesis (counted d 0)) tokens (at + 1) (Ok left)) where
      if_opening_read : Reaches (if_family d) tokens at at (λ m n. outermost_at (suc m) d >>= (λ c. mark_by kind.RightParenthesis (counted d 0) >>= (λ r. statement_at m d >>= (λ t. maybe_else_by (statement_at m) d word left c r t (statement_ends_open t))))) (at + 2)
      if_opening_read = mark_step (if_family d) tokens at at kind.LeftParenthesis _ _ (at + 1) (at + 2) left (omega arith) opened.0 if_word_read

      pub if_condition_fails : (e : SyntaxFault) → FailsFrom (outermost_family d) tokens (at + 2) (at + 2) e → FailsFrom (if_family d) tokens at at e
      if_condition_fails e h = fails (if_family d) tokens at at (outermost_family d) _ (at + 2) (at + 2) e (omega arith) h if_opening_read

      module _ {X : Type 0} {view : X → ExprTree} {x : X × ℕ} (condition : Read view (outermost_family d) tokens (at + 2) (at + 2) 1 x) where
        if_condition_read : Reaches (if_family d) tokens at at (λ m n. mark_by kind.RightParenthesis (counted d 0) >>= (λ r. statement_at m d >>= (λ t. maybe_else_by (statement_at m) d word left (view x.0) r t (statement_ends_open t)))) x.1
        if_condition_read = step (if_family d) tokens at at (outermost_family d) _ (at + 2) (at + 2) x.1 (view x.0) (omega arith) (omega (arith, condition.after)) condition.settles if_opening_read

        pub if_closing_fails : (e : SyntaxFault) → Expects (mark_by kind.RightParenthesis (counted d 0)) tokens x.1 (Err e) → FailsFrom (if_family d) tokens at at e
        if_closing_fails e h = mark_fails (if_family d) tokens at at kind.RightParenthesis _ _ x.1 e condition.inside h if_condition_read

        module _ (right : Place) (closed : Expects (mark_by kind.RightParenthesis (counted d 0)) tokens x.1 (Ok right)) where
          if_closing_read : Reaches (if_family d) tokens at at (λ m n. statement_at m d >>= (λ t. maybe_else_by (statement_at m) d word left (view x.0) right t (statement_ends_open t))) (x.1 + 1)
          if_closing_read = mark_step (if_family d) tokens at at kind.RightParenthesis _ _ x.1 (x.1 + 1) right (omega arith) closed.0 if_condition_read

          pub if_statement_fails : (e : SyntaxFault) → FailsFrom (statement_family inner) tokens (x.1 + 1) (x.1 + 1) e → FailsFrom (if_family d) tokens at at e
          if_statement_fails e h = fails (if_family d) tokens at at (λ m n. statement_at m d) _ at (x.1 + 1) e (omega arith) (statement_nested_fails tokens at (x.1 + 1) inner d deeper e (omega (arith, condition.after)) closed.1 h) if_closing_read

          module _ {Y : Type 0} {view_statement : Y → StatementTree} {y : Y × ℕ} (first : ReadOpen view_statement statement_ends_open (statement_family inner) tokens (x.1 + 1) (x.1 + 1) y) where
            if_statement_read : Reaches (if_family d) tokens at at (λ m n. maybe_else_by (statement_at m) d word left (view x.0) right (view_statement y.0) (statement_ends_open (view_statement y.0))) y.1
            if_statement_read = step (if_family d) tokens at at (λ m n. statement_at m d) _ at (x.1 + 1) y.1 (view_statement y.0) (omega arith) (omega (arith, first.after)) (statement_nested tokens at (x.1 + 1) inner d deeper _ (omega (arith, condition.after)) closed.1 first.settles) if_closing_read

            pub if_given : next_is (is_mark kind.Else) (next (drop y.1 tokens)) ≡ false → SettlesFrom (if_family d) tokens at at (Took (CoreIf word left (view x.0) right (view_statement y.0)) (drop y.1 tokens))
            if_given absent = ends (if_family d) tokens at at _ y.1 (no_else_behind (if_family d) tokens at at d word left (view x.0) right (view_statement y.0) y.1 absent if_statement_read)

            module _ (present : next_is (is_mark kind.Else) (next (drop y.1 tokens)) ≡ true) where
              else_read : Reaches (if_family d) tokens at at (λ m n. else_by (statement_at m) d word left (view x.0) right (view_statement y.0)) y.1
              else_read = else_behind (if_family d) tokens at at d word left (view x.0) right (view_statement y.0) y.1 first.no_else present if_statement_read

              pub else_word_fails : (e : SyntaxFault) → Expects (mark_by kind.Else (counted d 0)) tokens y.1 (Err e) → FailsFrom (if_family d) tokens at at e
              else_word_fails e h = mark_fails (if_family d) tokens at at kind.Else _ _ y.1 e first.inside h else_read

              module _ (other_word : Place) (other_found : Expects (mark_by kind.Else (counted d 0)) tokens y.1 (Ok other_word)) where
                else_word_read : Reaches (if_family d) tokens at at (λ m n. statement_at m d >>= (λ t. Done (CoreIfElse word left (view x.0) right (view_statement y.0) other_word t))) (y.1 + 1)
                else_word_read = mark_step (if_family d) tokens at at kind.Else _ _ y.1 (y.1 + 1) other_word (omega arith) other_found.0 else_read

                pub else_statement_fails : (e : SyntaxFault) → FailsFrom (statement_family inner) tokens (y.1 + 1) (y.1 + 1) e → FailsFrom (if_family d) tokens at at e
                else_statement_fails e h = fails (if_family d) tokens at at (λ m n. statement_at m d) _ at (y.1 + 1) e (omega arith) (statement_nested_fails tokens at (y.1 + 1) inner d deeper e (omega (arith, condition.after, first.after)) other_found.1 h) else_word_read

                pub else_given :
                    {Z : Type 0} {view_other : Z → StatementTree} {z : Z × ℕ} →
                    ReadOpen view_other statement_ends_open (statement_family inner) tokens (y.1 + 1) (y.1 + 1) z →
                    SettlesFrom (if_family d) tokens at at (Took (CoreIfElse word left (view x.0) right (view_statement y.0) other_word (view_other z.0)) (drop z.1 tokens))
                else_given {Z} {view_other} {z} s =
                    ends (if_family d) tokens at at _ z.1
                    (step (if_family d) tokens at at (λ m n. statement_at m d) _ at (y.1 + 1) z.1 (view_other z.0) (omega arith)
                    (omega (arith, s.after))
                    (statement_nested tokens at (y.1 + 1) inner d deeper _ (omega (arith, condition.after, first.after)) other_found.1 s.settles)
                    else_word_read)

-- arm = label ":" stmt
module _ (tokens : List Token) (at d inner : ℕ) (deeper : inner ≡ suc d) where
  pub arm_label_fails : (e : SyntaxFault) → FailsFrom (arm_label_family d) tokens at at e → FailsFrom (arm_family d) tokens at at e
  arm_label_fails e h = fails (arm_family d) tokens at at (arm_label_family d) _ at at e (omega arith) h (begin (arm_family d) tokens at at)

  module _ {X : Type 0} {view : X → ArmLabelTree} {x : X × ℕ} (label : Read view (arm_label_family d) tokens at at 1 x) where
    arm_label_read : Reaches (arm_family d) tokens at at (λ m n. mark_by kind.Colon (counted d 0) >>= (λ c. statement_at m d >>= (λ s. Done (MakeArm (view x.0) c s)))) x.1
    arm_label_read = step (arm_family d) tokens at at (arm_label_family d) _ at at x.1 (view x.0) (omega arith) (omega (arith, label.after)) label.settles (begin (arm_family d) tokens at at)

    pub arm_colon_fails : (e : SyntaxFault) → Expects (mark_by kind.Colon (counted d 0)) tokens x.1 (Err e) → FailsFrom (arm_family d) tokens at at e
    arm_colon_fails e h = mark_fails (arm_family d) tokens at at kind.Colon _ _ x.1 e label.inside h arm_label_read

    module _ (colon : Place) (found : Expects (mark_by kind.Colon (counted d 0)) tokens x.1 (Ok colon)) where
      arm_colon_read : Reaches (arm_family d) tokens at at (λ m n. statement_at m d >>= (λ s. Done (MakeArm (view x.0) colon s))) (x.1 + 1)
      arm_colon_read = mark_step (arm_family d) tokens at at kind.Colon _ _ x.1 (x.1 + 1) colon (omega arith) found.0 arm_label_read

      pub arm_statement_fails : (e : SyntaxFault) → FailsFrom (statement_family inner) tokens (x.1 + 1) (x.1 + 1) e → FailsFrom (arm_family d) tokens at at e
      arm_statement_fails e h = fails (arm_family d) tokens at at (λ m n. statement_at m d) _ at (x.1 + 1) e (omega arith) (statement_nested_fails tokens at (x.1 + 1) inner d deeper e (omega (arith, label.after)) found.1 h) arm_colon_read

      pub arm_given : {Y : Type 0} {view_statement : Y → StatementTree} {y : Y × ℕ} → ReadOpen view_statement statement_ends_open (statement_family inner) tokens (x.1 + 1) (x.1 + 1) y → SettlesFrom (arm_family d) tokens at at (Took (MakeArm (view x.0) colon (view_statement y.0)) (drop y.1 tokens))
      arm_given {Y} {view_statement} {y} s =
          ends (arm_family d) tokens at at _ y.1
          (step (arm_family d) tokens at at (λ m n. statement_at m d) _ at (x.1 + 1) y.1 (view_statement y.0) (omega arith) (omega (arith, s.after))
          (statement_nested tokens at (x.1 + 1) inner d deeper _ (omega (arith, label.after)) found.1 s.settles) arm_colon_read)

-- "match" "(" expr ")" "{" arm { arm } "}"
module _ (tokens : List Token) (at d : ℕ) where
  pub match_word_fails : (e : SyntaxFault) → at ≤ length tokens → Expects (mark_by kind.Match (counted d 0)) tokens at (Err e) → FailsFrom (match_family d) tokens at at e
  match_word_fails e le h = mark_fails (match_family d) tokens at at kind.Match _ _ at e le h (begin (match_family d) tokens at at)

  module _ (word : Place) (found : Expects (mark_by kind.Match (counted d 0)) tokens at (Ok word)) where
    match_word_read :
        Reaches (match_family d) tokens at at (λ m n. mark_by kind.LeftParenthesis (counted d 0) >>= (λ l. outermost_at (suc m) d >>= (λ c. mark_by kind.RightParenthesis (counted d 0) >>= (λ r. mark_by kind.LeftBrace (counted d 0) >>= (λ b. arm_family d m n >>= (λ a. arm_row_family d m n >>= (λ more. mark_by kind.RightBrace (counted d 0) >>= (λ e. Done (CoreMatch word l c r b a more e))))))))) (at + 1)
    match_word_read = mark_step (match_family d) tokens at at kind.Match _ _ at (at + 1) word (omega arith) found.0 (begin (match_family d) tokens at at)

    pub match_opening_fails : (e : SyntaxFault) → Expects (mark_by kind.LeftParenthesis (counted d 0)) tokens (at + 1) (Err e) → FailsFrom (match_family d) tokens at at e
    match_opening_fails e h = mark_fails (match_family d) tokens at at kind.LeftParenthesis _ _ (at + 1) e found.1 h match_word_read

    module _ (left : Place) (opened : Expects (mark_by kind.LeftParenthesis (counted d 0)) tokens (at + 1) (Ok left)) where
      match_opening_read :
          Reaches (match_family d) tokens at at (λ m n. outermost_at (suc m) d >>= (λ c. mark_by kind.RightParenthesis (counted d 0) >>= (λ r. mark_by kind.LeftBrace (counted d 0) >>= (λ b. arm_family d m n >>= (λ a. arm_row_family d m n >>= (λ more. mark_by kind.RightBrace (counted d 0) >>= (λ e. Done (CoreMatch word left c r b a more e)))))))) (at + 2)
      match_opening_read = mark_step (match_family d) tokens at at kind.LeftParenthesis _ _ (at + 1) (at + 2) left (omega arith) opened.0 match_word_read

      pub match_value_fails : (e : SyntaxFault) → FailsFrom (outermost_family d) tokens (at + 2) (at + 2) e → FailsFrom (match_family d) tokens at at e
      match_value_fails e h = fails (match_family d) tokens at at (outermost_family d) _ (at + 2) (at + 2) e (omega arith) h match_opening_read

      module _ {X : Type 0} {view : X → ExprTree} {x : X × ℕ} (value : Read view (outermost_family d) tokens (at + 2) (at + 2) 1 x) where
        match_value_read :
            Reaches (match_family d) tokens at at (λ m n. mark_by kind.RightParenthesis (counted d 0) >>= (λ r. mark_by kind.LeftBrace (counted d 0) >>= (λ b. arm_family d m n >>= (λ a. arm_row_family d m n >>= (λ more. mark_by kind.RightBrace (counted d 0) >>= (λ e. Done (CoreMatch word left (view x.0) r b a more e))))))) x.1
        match_value_read = step (match_family d) tokens at at (outermost_family d) _ (at + 2) (at + 2) x.1 (view x.0) (omega arith) (omega (arith, value.after)) value.settles match_opening_read

        pub match_closing_fails : (e : SyntaxFault) → Expects (mark_by kind.RightParenthesis (counted d 0)) tokens x.1 (Err e) → FailsFrom (match_family d) tokens at at e
        match_closing_fails e h = mark_fails (match_family d) tokens at at kind.RightParenthesis _ _ x.1 e value.inside h match_value_read

        module _ (right : Place) (closed : Expects (mark_by kind.RightParenthesis (counted d 0)) tokens x.1 (Ok right)) where
          match_closing_read :
              Reaches (match_family d) tokens at at (λ m n. mark_by kind.LeftBrace (counted d 0) >>= (λ b. arm_family d m n >>= (λ a. arm_row_family d m n >>= (λ more. mark_by kind.RightBrace (counted d 0) >>= (λ e. Done (CoreMatch word left (view x.0) right b a more e)))))) (x.1 + 1)
          match_closing_read = mark_step (match_family d) tokens at at kind.RightParenthesis _ _ x.1 (x.1 + 1) right (omega arith) closed.0 match_value_read

          pub match_brace_fails : (e : SyntaxFault) → Expects (mark_by kind.LeftBrace (counted d 0)) tokens (x.1 + 1) (Err e) → FailsFrom (match_family d) tokens at at e
          match_brace_fails e h = mark_fails (match_family d) tokens at at kind.LeftBrace _ _ (x.1 + 1) e closed.1 h match_closing_read

          module _ (brace : Place) (begun : Expects (mark_by kind.LeftBrace (counted d 0)) tokens (x.1 + 1) (Ok brace)) where
            match_brace_read : Reaches (match_family d) tokens at at (λ m n. arm_family d m n >>= (λ a. arm_row_family d m n >>= (λ more. mark_by kind.RightBrace (counted d 0) >>= (λ e. Done (CoreMatch word left (view x.0) right brace a more e))))) (x.1 + 2)
            match_brace_read = mark_step (match_family d) tokens at at kind.LeftBrace _ _ (x.1 + 1) (x.1 + 2) brace (omega arith) begun.0 match_closing_read

            pub match_first_fails : (e : SyntaxFault) → FailsFrom (arm_family d) tokens (x.1 + 2) (x.1 + 2) e → FailsFrom (match_family d) tokens at at e
            match_first_fails e h = fails (match_family d) tokens at at (arm_family d) _ (x.1 + 2) (x.1 + 2) e (omega (arith, value.after)) h match_brace_read

            module _ {Y : Type 0} {view_first : Y → ArmTree} {y : Y × ℕ} (first : Read view_first (arm_family d) tokens (x.1 + 2) (x.1 + 2) 1 y) where
              match_first_read : Reaches (match_family d) tokens at at (λ m n. arm_row_family d m n >>= (λ more. mark_by kind.RightBrace (counted d 0) >>= (λ e. Done (CoreMatch word left (view x.0) right brace (view_first y.0) more e)))) y.1
              match_first_read = step (match_family d) tokens at at (arm_family d) _ (x.1 + 2) (x.1 + 2) y.1 (view_first y.0) (omega (arith, value.after)) (omega (arith, first.after)) first.settles match_brace_read

              pub match_rest_fails : (e : SyntaxFault) → FailsFrom (arms_family d) tokens (y.1 - 1) y.1 e → FailsFrom (match_family d) tokens at at e
              match_rest_fails e h = fails (match_family d) tokens at at (arm_row_family d) _ (y.1 - 1) y.1 e (omega (arith, value.after, first.after)) (row_fails tokens (y.1 - 1) y.1 arm_row (arms_family d) e h) match_first_read

              module _ {Z : Type 0} {view_list : Z → List ArmTree} {z : Z × ℕ} (rest : Read view_list (arms_family d) tokens (y.1 - 1) y.1 0 z) where
                match_rest_read : Reaches (match_family d) tokens at at (λ m n. mark_by kind.RightBrace (counted d 0) >>= (λ e. Done (CoreMatch word left (view x.0) right brace (view_first y.0) (arm_row (view_list z.0)) e))) z.1
                match_rest_read =
                    step (match_family d) tokens at at (arm_row_family d) _ (y.1 - 1) y.1 z.1 (arm_row (view_list z.0))
                    (omega (arith, value.after, first.after)) (omega (arith, rest.after))
                    (row_settles tokens (y.1 - 1) y.1 arm_row (arms_family d) (view_list z.0) z.1 rest.settles) match_first_read

                pub match_end_fails : (e : SyntaxFault) → Expects (mark_by kind.RightBrace (counted d 0)) tokens z.1 (Err e) → FailsFrom (match_family d) tokens at at e
                match_end_fails e h = mark_fails (match_family d) tokens at at kind.RightBrace _ _ z.1 e rest.inside h match_rest_read

                pub match_given : (end : Place) → Expects (mark_by kind.RightBrace (counted d 0)) tokens z.1 (Ok end) → SettlesFrom (match_family d) tokens at at (Took (CoreMatch word left (view x.0) right brace (view_first y.0) (arm_row (view_list z.0)) end) (drop (z.1 + 1) tokens))
                match_given end h = ends (match_family d) tokens at at _ (z.1 + 1) (mark_step (match_family d) tokens at at kind.RightBrace _ _ z.1 (z.1 + 1) end (omega arith) h.0 match_rest_read)

-- a statement that begins with a name
module _ (tokens : List Token) (at d : ℕ) where
  pub named_name_fails : (e : SyntaxFault) → at ≤ length tokens → Expects (name_by (counted d 0)) tokens at (Err e) → FailsFrom (named_family d) tokens at at e
  named_name_fails e le h = name_fails (named_family d) tokens at at _ _ at e le h (begin (named_family d) tokens at at)

  module _ (name : Name) (found : Expects (name_by (counted d 0)) tokens at (Ok name)) where
    -- NAME with
    module _ (absent : next_is (is_mark kind.Colon) (next (drop (at + 1) tokens)) ≡ false) where
      handle_name_read : Reaches (named_family d) tokens at at (λ m n. traversed_by (constraint_at (suc m)) d name) (at + 1)
      handle_name_read = choose (named_family d) tokens at at kind.Colon _ _ (at + 1) false absent (name_step (named_family d) tokens at at _ _ at (at + 1) name (omega arith) found.0 (begin (named_family d) tokens at at))

      pub handle_with_fails : (e : SyntaxFault) → FailsFrom (with_family d) tokens (at + 1) (at + 1) e → FailsFrom (named_family d) tokens at at e
      handle_with_fails e h = fails (named_family d) tokens at at (with_family d) _ (at + 1) (at + 1) e (omega arith) h handle_name_read

      pub handle_given : (with : WithTree) (behind : ℕ) → at + 1 ≤ behind → SettlesFrom (with_family d) tokens (at + 1) (at + 1) (Took with (drop behind tokens)) → SettlesFrom (named_family d) tokens at at (Took (StatementPlain (CoreHandle name with)) (drop behind tokens))
      handle_given with behind le h = ends (named_family d) tokens at at _ behind (step (named_family d) tokens at at (with_family d) _ (at + 1) (at + 1) behind with (omega arith) le h handle_name_read)

    -- NAME ":" core
    module _ (present : next_is (is_mark kind.Colon) (next (drop (at + 1) tokens)) ≡ true) where
      label_name_read : Reaches (named_family d) tokens at at (λ m n. labeled_by (outermost_at (suc m)) (constraint_at (suc m)) (statement_at m) m d name) (at + 1)
      label_name_read = choose (named_family d) tokens at at kind.Colon _ _ (at + 1) true present (name_step (named_family d) tokens at at _ _ at (at + 1) name (omega arith) found.0 (begin (named_family d) tokens at at))

      pub label_colon_fails : (e : SyntaxFault) → Expects (mark_by kind.Colon (counted d 0)) tokens (at + 1) (Err e) → FailsFrom (named_family d) tokens at at e
      label_colon_fails e h = mark_fails (named_family d) tokens at at kind.Colon _ _ (at + 1) e found.1 h label_name_read

      module _ (colon : Place) (behind_it : Expects (mark_by kind.Colon (counted d 0)) tokens (at + 1) (Ok colon)) where
        label_colon_read : Reaches (named_family d) tokens at at (λ m n. core_family d m n >>= (λ c. Done (StatementLabeled (record { name = name; colon = colon }) c))) (at + 2)
        label_colon_read = mark_step (named_family d) tokens at at kind.Colon _ _ (at + 1) (at + 2) colon (omega arith) behind_it.0 label_name_read

        pub label_core_fails : (e : SyntaxFault) → FailsFrom (core_family d) tokens (at + 2) (at + 2) e → FailsFrom (named_family d) tokens at at e
        label_core_fails e h = fails (named_family d) tokens at at (core_family d) _ (at + 2) (at + 2) e (omega arith) h label_colon_read

        pub label_given : (core : CoreTree) (after : ℕ) → at + 2 ≤ after → SettlesFrom (core_family d) tokens (at + 2) (at + 2) (Took core (drop after tokens)) → SettlesFrom (named_family d) tokens at at (Took (StatementLabeled (record { name = name; colon = colon }) core) (drop after tokens))
        label_given core after le h = ends (named_family d) tokens at at _ after (step (named_family d) tokens at at (core_family d) _ (at + 2) (at + 2) after core (omega arith) le h label_colon_read)

-- a statement without a label
module _ (tokens : List Token) (at d : ℕ) where
  pub plain_core_fails : (e : SyntaxFault) → FailsFrom (core_family d) tokens at at e → FailsFrom (plain_family d) tokens at at e
  plain_core_fails e h = fails (plain_family d) tokens at at (core_family d) _ at at e (omega arith) h (begin (plain_family d) tokens at at)

  pub plain_given : (core : CoreTree) (after : ℕ) → at ≤ after → SettlesFrom (core_family d) tokens at at (Took core (drop after tokens)) → SettlesFrom (plain_family d) tokens at at (Took (StatementPlain core) (drop after tokens))
  plain_given core after le h = ends (plain_family d) tokens at at _ after (step (plain_family d) tokens at at (core_family d) _ at at after core (omega arith) le h (begin (plain_family d) tokens at at))

-- "activity" "{" { stmt } "}"
module _ (tokens : List Token) (at d : ℕ) where
  pub activity_word_fails : (e : SyntaxFault) → at ≤ length tokens → Expects (mark_by kind.Activity (counted d 0)) tokens at (Err e) → FailsFrom (activity_family d) tokens at at e
  activity_word_fails e le h = mark_fails (activity_family d) tokens at at kind.Activity _ _ at e le h (begin (activity_family d) tokens at at)

  module _ (word : Place) (found : Expects (mark_by kind.Activity (counted d 0)) tokens at (Ok word)) where
    activity_word_read : Reaches (activity_family d) tokens at at (λ m n. mark_by kind.LeftBrace (counted d 0) >>= (λ l. statements_family d m n >>= (λ s. mark_by kind.RightBrace (counted d 0) >>= (λ r. Done (MakeActivity word l s r))))) (at + 1)
    activity_word_read = mark_step (activity_family d) tokens at at kind.Activity _ _ at (at + 1) word (omega arith) found.0 (begin (activity_family d) tokens at at)

    pub activity_brace_fails : (e : SyntaxFault) → Expects (mark_by kind.LeftBrace (counted d 0)) tokens (at + 1) (Err e) → FailsFrom (activity_family d) tokens at at e
    activity_brace_fails e h = mark_fails (activity_family d) tokens at at kind.LeftBrace _ _ (at + 1) e found.1 h activity_word_read

    module _ (left : Place) (opened : Expects (mark_by kind.LeftBrace (counted d 0)) tokens (at + 1) (Ok left)) where
      activity_brace_read : Reaches (activity_family d) tokens at at (λ m n. statements_family d m n >>= (λ s. mark_by kind.RightBrace (counted d 0) >>= (λ r. Done (MakeActivity word left s r)))) (at + 2)
      activity_brace_read = mark_step (activity_family d) tokens at at kind.LeftBrace _ _ (at + 1) (at + 2) left (omega arith) opened.0 activity_word_read

      pub activity_statements_fail : (e : SyntaxFault) → FailsFrom (statements_family d) tokens (at + 2 - 1) (at + 2) e → FailsFrom (activity_family d) tokens at at e
      activity_statements_fail e h = fails (activity_family d) tokens at at (statements_family d) _ (at + 2 - 1) (at + 2) e (omega arith) h activity_brace_read

      module _ {Y : Type 0} {view_list : Y → List StatementTree} {y : Y × ℕ} (listed : Read view_list (statements_family d) tokens (at + 2 - 1) (at + 2) 0 y) where
        activity_statements_read : Reaches (activity_family d) tokens at at (λ m n. mark_by kind.RightBrace (counted d 0) >>= (λ r. Done (MakeActivity word left (view_list y.0) r))) y.1
        activity_statements_read = step (activity_family d) tokens at at (statements_family d) _ (at + 2 - 1) (at + 2) y.1 (view_list y.0) (omega arith) (omega (arith, listed.after)) listed.settles activity_brace_read

        pub activity_end_fails : (e : SyntaxFault) → Expects (mark_by kind.RightBrace (counted d 0)) tokens y.1 (Err e) → FailsFrom (activity_family d) tokens at at e
        activity_end_fails e h = mark_fails (activity_family d) tokens at at kind.RightBrace _ _ y.1 e listed.inside h activity_statements_read

        pub activity_given : (right : Place) → Expects (mark_by kind.RightBrace (counted d 0)) tokens y.1 (Ok right) → SettlesFrom (activity_family d) tokens at at (Took (MakeActivity word left (view_list y.0) right) (drop (y.1 + 1) tokens))
        activity_given right h = ends (activity_family d) tokens at at _ (y.1 + 1) (mark_step (activity_family d) tokens at at kind.RightBrace _ _ y.1 (y.1 + 1) right (omega arith) h.0 activity_statements_read)
