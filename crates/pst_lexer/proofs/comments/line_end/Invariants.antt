use Rattle.std.proofs.Common.{◌≡◌, ◌≤◌, true, not, length, take}
use Rattle.std.specs.List.{list_all}
use Rattle.pst_token.specs.Parts.{is_line_feed}
use Rattle.pst_lexer.proofs.comments.line_end.Given as goal

abbrev pub invariant-loop-at : goal.invariant-loop-at
invariant-loop-at l = record { within : l.at ≤ length l.text; all : list_all (λ b. not (is_line_feed b)) (take l.at l.text) ≡ true }
