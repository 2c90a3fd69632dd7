use Rattle.std.proofs.Common.{arith, rules, None, Some, ◌+◌}
use Rattle.std.proofs.lemmas.Result.{err_from_is_err_and}
use Rattle.pst_parse_part.specs.TimesFamilies.{counted_family, times_family, view_times}
use Rattle.pst_parse_part.proofs.TimesRules.{plain_times, label_fails, labeled_times}
use Rattle.pst_parse_part.proofs.Nearer.{reads_later}
use Rattle.pst_parse_part.proofs.times.read_times.Goals as goal

pub returns-then-not-name_then : goal.returns-then-not-name_then
returns-then-not-name_then c = reads_later (times_family c.args.depth) c.args.tokens.now c.args.at view_times (counted_family c.args.depth c.in_ok-left_parenthesis.left_parenthesis None) (c.args.at + 1) 1 1 c.counted.result (omega arith) (omega arith) c.counted.ensures (plain_times c.args.tokens.now c.args.at c.args.depth c.in_ok-left_parenthesis.left_parenthesis c.in_ok-left_parenthesis.ensures.reads.0 (search rules))

pub returns-in_err-label : goal.returns-in_err-label
returns-in_err-label c =
    let p = err_from_is_err_and c.from_residual-in_err-label.result c.from_residual-in_err-label.ensures.1 in
    rw (p.1, p.2) (label_fails c.args.tokens.now c.args.at c.args.depth c.in_ok-left_parenthesis.left_parenthesis c.in_ok-left_parenthesis.ensures.reads.0 (search rules) c.in_err-label.field-0.0 c.in_err-label.ensures)

pub returns : goal.returns
returns c =
    let l = c.in_ok-label.ensures in
    reads_later (times_family c.args.depth) c.args.tokens.now c.args.at view_times (counted_family c.args.depth c.in_ok-left_parenthesis.left_parenthesis (Some c.in_ok-label.label)) c.in_ok-label.behind 1 1 c.counted-2.result (omega (arith, l.after)) (omega (arith, l.after)) c.counted-2.ensures (labeled_times c.args.tokens.now c.args.at c.args.depth c.in_ok-left_parenthesis.left_parenthesis c.in_ok-left_parenthesis.ensures.reads.0 (search rules) c.in_ok-label.label c.in_ok-label.behind (omega (arith, l.after)) l.settles)
