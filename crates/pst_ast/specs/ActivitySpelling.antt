-- The tokens of the trees of activity.
use Rattle.std.specs.Prelude.{List, [], ◌∷◌, ◌++◌}
use Rattle.std.specs.List.{flat_map}
use Rattle.pst_token.specs.declared.token.Token.{Token}
use Rattle.pst_token.specs.declared.kind.Kind.TheVariants as kind
use Rattle.pst_ast.specs.Marks.{mark, name_token, spell_option, together_word_kind}
use Rattle.pst_ast.specs.ConstraintSpelling.{spell_constraint}
use Rattle.pst_ast.specs.ExpressionSpelling.{spell_expr, spell_ranges}
use Rattle.pst_ast.specs.SharedSpelling.{spell_label, spell_names, spell_type_name}
use Rattle.pst_ast.specs.ActivityTree.{ActivityTree, MakeActivity, StatementTree, StatementEmpty, StatementLabeled, StatementPlain, CoreTree, CoreDo, CoreHandle, CoreSequence, CoreTogether, CoreSelect, CoreRepeat, CoreIf, CoreIfElse, CoreMatch, CoreBind, BranchTree, MakeBranch, ArmTree, MakeArm, GuardTree, GuardCondition, GuardWeight, WeightTree, MakeWeight, ArmLabelTree, ArmLabelRanges, ArmLabelDefault, JoinTree, JoinBranch, JoinNothing, JoinSelect, WithTree, WithNothing, WithSet, BindTree, MakeBind, OtherEndsTree, OtherEndsOne, OtherEndsSeveral, StatementRow, NoStatementRow, MoreStatementRow, BranchRow, NoBranchRow, MoreBranchRow, ArmRow, NoArmRow, MoreArmRow}
use Rattle.pst_ast.specs.declared.activity.EndNode.{EndNode}
use Rattle.pst_ast.specs.declared.activity.NextEnd.{NextEnd}

-- with = ";" | "with" set
abbrev pub spell_with : WithTree → List Token
spell_with (WithNothing place) = mark kind.Semicolon place ∷ []
spell_with (WithSet with_place set) = mark kind.With with_place ∷ spell_constraint set

-- join = "join_branch" "(" NAME { "," NAME } ")" | "join_none" | "join_select" "(" expr ")"
abbrev pub spell_join : JoinTree → List Token
spell_join (JoinBranch join_branch_place left_parenthesis_place names right_parenthesis_place) = mark kind.JoinBranch join_branch_place ∷ mark kind.LeftParenthesis left_parenthesis_place ∷ (spell_names names ++ mark kind.RightParenthesis right_parenthesis_place ∷ [])
spell_join (JoinNothing place) = mark kind.JoinNone place ∷ []
spell_join (JoinSelect join_select_place left_parenthesis_place count right_parenthesis_place) = mark kind.JoinSelect join_select_place ∷ mark kind.LeftParenthesis left_parenthesis_place ∷ (spell_expr count ++ mark kind.RightParenthesis right_parenthesis_place ∷ [])

-- end = NAME "." NAME
abbrev pub spell_end : EndNode → List Token
spell_end t = name_token t.handle ∷ mark kind.Dot t.dot ∷ name_token t.name ∷ []

-- "," end
abbrev pub spell_next_end : NextEnd → List Token
spell_next_end t = mark kind.Comma t.comma ∷ spell_end t.end

-- end | "{" end { "," end } "}"
abbrev pub spell_other_ends : OtherEndsTree → List Token
spell_other_ends (OtherEndsOne end) = spell_end end
spell_other_ends (OtherEndsSeveral left_brace_place first rest right_brace_place) = mark kind.LeftBrace left_brace_place ∷ (spell_end first ++ (flat_map spell_next_end rest ++ mark kind.RightBrace right_brace_place ∷ []))

-- "bind" end ( end | "{" end { "," end } "}" ) ";"
abbrev pub spell_bind : BindTree → List Token
spell_bind (MakeBind bind_place first others semicolon_place) = mark kind.Bind bind_place ∷ (spell_end first ++ (spell_other_ends others ++ mark kind.Semicolon semicolon_place ∷ []))

-- "[" expr "]"
abbrev pub spell_weight : WeightTree → List Token
spell_weight (MakeWeight left_bracket_place expr right_bracket_place) = mark kind.LeftBracket left_bracket_place ∷ (spell_expr expr ++ mark kind.RightBracket right_bracket_place ∷ [])

-- What stands before the statement of a branch.
abbrev pub spell_guard : GuardTree → List Token
spell_guard (GuardCondition left_parenthesis_place condition right_parenthesis_place weight colon_place) = mark kind.LeftParenthesis left_parenthesis_place ∷ (spell_expr condition ++ mark kind.RightParenthesis right_parenthesis_place ∷ (spell_option spell_weight weight ++ mark kind.Colon colon_place ∷ []))
spell_guard (GuardWeight weight colon_place) = spell_weight weight ++ mark kind.Colon colon_place ∷ []

-- What stands before the colon of an arm.
abbrev pub spell_arm_label : ArmLabelTree → List Token
spell_arm_label (ArmLabelRanges left_bracket_place ranges right_bracket_place) = mark kind.LeftBracket left_bracket_place ∷ (spell_ranges ranges ++ mark kind.RightBracket right_bracket_place ∷ [])
spell_arm_label (ArmLabelDefault place) = mark kind.Default place ∷ []

abbrev mutual
  -- stmt = ";" | [ NAME ":" ] core
  pub spell_statement : StatementTree → List Token
  spell_statement (StatementEmpty place) = mark kind.Semicolon place ∷ []
  spell_statement (StatementLabeled label core) = spell_label label ++ spell_core core
  spell_statement (StatementPlain core) = spell_core core

  -- core: a statement without its label.
  pub spell_core : CoreTree → List Token
  spell_core (CoreDo do_place name with_part) = mark kind.Do do_place ∷ (spell_type_name name ++ spell_with with_part)
  spell_core (CoreHandle name with_part) = name_token name ∷ spell_with with_part
  spell_core (CoreSequence sequence_place left_brace_place statements right_brace_place) = spell_option (λ p. mark kind.Sequence p ∷ []) sequence_place ++ mark kind.LeftBrace left_brace_place ∷ (spell_statement_row statements ++ mark kind.RightBrace right_brace_place ∷ [])
  spell_core (CoreTogether word place join left_brace_place statements right_brace_place) = mark (together_word_kind word) place ∷ (spell_option spell_join join ++ mark kind.LeftBrace left_brace_place ∷ (spell_statement_row statements ++ mark kind.RightBrace right_brace_place ∷ []))
  spell_core (CoreSelect select_place left_brace_place first rest right_brace_place) = mark kind.Select select_place ∷ mark kind.LeftBrace left_brace_place ∷ (spell_branch first ++ (spell_branch_row rest ++ mark kind.RightBrace right_brace_place ∷ []))
  spell_core (CoreRepeat repeat_place left_parenthesis_place index count right_parenthesis_place statement) = mark kind.Repeat repeat_place ∷ mark kind.LeftParenthesis left_parenthesis_place ∷ (spell_option spell_label index ++ (spell_expr count ++ mark kind.RightParenthesis right_parenthesis_place ∷ spell_statement statement))
  spell_core (CoreIf if_place left_parenthesis_place condition right_parenthesis_place then_part) = mark kind.If if_place ∷ mark kind.LeftParenthesis left_parenthesis_place ∷ (spell_expr condition ++ mark kind.RightParenthesis right_parenthesis_place ∷ spell_statement then_part)
  spell_core (CoreIfElse if_place left_parenthesis_place condition right_parenthesis_place then_part else_place otherwise) = mark kind.If if_place ∷ mark kind.LeftParenthesis left_parenthesis_place ∷ (spell_expr condition ++ mark kind.RightParenthesis right_parenthesis_place ∷ (spell_statement then_part ++ mark kind.Else else_place ∷ spell_statement otherwise))
  spell_core (CoreMatch match_place left_parenthesis_place expr right_parenthesis_place left_brace_place first rest right_brace_place) = mark kind.Match match_place ∷ mark kind.LeftParenthesis left_parenthesis_place ∷ (spell_expr expr ++ mark kind.RightParenthesis right_parenthesis_place ∷ mark kind.LeftBrace left_brace_place ∷ (spell_arm first ++ (spell_arm_row rest ++ mark kind.RightBrace right_brace_place ∷ [])))
  spell_core (CoreBind bind) = spell_bind bind

  -- branch = [ ( "(" expr ")" [ "[" expr "]" ] | "[" expr "]" ) ":" ] stmt
  pub spell_branch : BranchTree → List Token
  spell_branch (MakeBranch guard statement) = spell_option spell_guard guard ++ spell_statement statement

  -- arm = ( "[" ranges "]" | "default" ) ":" stmt
  pub spell_arm : ArmTree → List Token
  spell_arm (MakeArm label colon_place statement) = spell_arm_label label ++ mark kind.Colon colon_place ∷ spell_statement statement

  pub spell_statement_row : StatementRow → List Token
  spell_statement_row NoStatementRow = []
  spell_statement_row (MoreStatementRow head tail) = spell_statement head ++ spell_statement_row tail

  pub spell_branch_row : BranchRow → List Token
  spell_branch_row NoBranchRow = []
  spell_branch_row (MoreBranchRow head tail) = spell_branch head ++ spell_branch_row tail

  pub spell_arm_row : ArmRow → List Token
  spell_arm_row NoArmRow = []
  spell_arm_row (MoreArmRow head tail) = spell_arm head ++ spell_arm_row tail

-- activity = "activity" "{" { stmt } "}"
abbrev pub spell_activity : ActivityTree → List Token
spell_activity (MakeActivity activity_place left_brace_place statements right_brace_place) = mark kind.Activity activity_place ∷ mark kind.LeftBrace left_brace_place ∷ (flat_map spell_statement statements ++ mark kind.RightBrace right_brace_place ∷ [])
