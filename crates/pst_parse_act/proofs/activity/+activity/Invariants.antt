use Rattle.std.proofs.Common.{length, ◌-◌, ◌+◌, ◌*◌}
use Rattle.std.specs.Prelude.{map}
use Rattle.pst_token.specs.declared.kind.Kind.TheVariants as kind
use Rattle.pst_ast.specs.ActivityView.{view_statement, view_branch, view_arm}
use Rattle.pst_reading.proofs.Lists.{ListLoop}
use Rattle.pst_parse_expr.specs.Constraints.{is_other}
use Rattle.pst_parse_statement.specs.ActivityFamilies.{nested_family, branch_family, arm_family}
use Rattle.pst_parse_act.proofs.activity.+activity.Given as goal

abbrev pub invariant-branches-all : goal.invariant-branches-all
invariant-branches-all l = ListLoop (is_other kind.RightBrace) (branch_family l.depth) l.tokens (l.fn.at - 1) l.fn.at (map view_branch l.all.items) l.place

abbrev pub decreases-branches-all : goal.decreases-branches-all
decreases-branches-all l = length l.tokens - l.place

abbrev pub invariant-arms-all : goal.invariant-arms-all
invariant-arms-all l = ListLoop (is_other kind.RightBrace) (arm_family l.depth) l.tokens (l.fn.at - 1) l.fn.at (map view_arm l.all.items) l.place

abbrev pub decreases-arms-all : goal.decreases-arms-all
decreases-arms-all l = length l.tokens - l.place

abbrev pub invariant-statements-all : goal.invariant-statements-all
invariant-statements-all l = ListLoop (is_other kind.RightBrace) (nested_family l.depth) l.tokens (l.fn.at - 1) l.fn.at (map view_statement l.all.items) l.place

abbrev pub decreases-statements-all : goal.decreases-statements-all
decreases-statements-all l = length l.tokens - l.place

abbrev pub decreases-statements : goal.decreases-statements
decreases-statements l = (length l.tokens.now - l.at) * 8 + 5

abbrev pub decreases-branches : goal.decreases-branches
decreases-branches l = (length l.tokens.now - l.at) * 8 + 6

abbrev pub decreases-arms : goal.decreases-arms
decreases-arms l = (length l.tokens.now - l.at) * 8 + 6

abbrev pub decreases-branch : goal.decreases-branch
decreases-branch l = (length l.tokens.now - l.at) * 8 + 5

abbrev pub decreases-arm : goal.decreases-arm
decreases-arm l = (length l.tokens.now - l.at) * 8 + 5

abbrev pub decreases-statement : goal.decreases-statement
decreases-statement l = (length l.tokens.now - l.at) * 8 + 4

abbrev pub decreases-named : goal.decreases-named
decreases-named l = (length l.tokens.now - l.at) * 8 + 3

abbrev pub decreases-plain : goal.decreases-plain
decreases-plain l = (length l.tokens.now - l.at) * 8 + 3

abbrev pub decreases-unlabeled : goal.decreases-unlabeled
decreases-unlabeled l = (length l.tokens.now - l.at) * 8 + 2

abbrev pub decreases-sequence_core : goal.decreases-sequence_core
decreases-sequence_core l = (length l.tokens.now - l.at) * 8 + 1

abbrev pub decreases-together_core : goal.decreases-together_core
decreases-together_core l = (length l.tokens.now - l.at) * 8 + 1

abbrev pub decreases-select_core : goal.decreases-select_core
decreases-select_core l = (length l.tokens.now - l.at) * 8 + 1

abbrev pub decreases-repeat_core : goal.decreases-repeat_core
decreases-repeat_core l = (length l.tokens.now - l.at) * 8 + 1

abbrev pub decreases-if_core : goal.decreases-if_core
decreases-if_core l = (length l.tokens.now - l.at) * 8 + 1

abbrev pub decreases-match_core : goal.decreases-match_core
decreases-match_core l = (length l.tokens.now - l.at) * 8 + 1
