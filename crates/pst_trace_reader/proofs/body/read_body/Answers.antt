use Rattle.std.proofs.Common.{ℕ, List, length, ap, subst}
use Rattle.pst_trace_reader.specs.Going.{Steps}
use Rattle.pst_trace_reader.proofs.Chosen.{none_of}
use Rattle.pst_trace_reader.proofs.Cut.{none_found}
use Rattle.pst_trace_reader.proofs.Rests.{going_first, going_next, going_bad, going_ends, going_behind, going_none}
use Rattle.pst_trace_reader.proofs.body.read_body.Goals as goal

pub lines-init : goal.lines-init
lines-init c = going_first c.args.reading.now c.args.text.now c.requires.first

pub lines-preserved : goal.lines-preserved
lines-preserved c =
    going_next c.args.reading.now c.lines.reading c.args.text.now c.lines.rest.now c.in-Some.one.now c.in-Some.more.now c.lines.line c.lines.invariant c.in-Some.ensures.0 c.in-Some.ensures.1
    c.block_lines_are_one.ensures c.read_line.new.reading (subst (Steps c.lines.reading c.read_line.new.reading c.in-Some.one.now) c.in-Goes.is c.in_ok-read_line.ensures)

pub returns-then-more-eq0 : goal.returns-then-more-eq0
returns-then-more-eq0 c =
    let ends = subst (Steps c.lines.reading c.read_line.new.reading c.in-Some.one.now) c.in-Ends.is c.in_ok-read_line.ensures in
    going_ends c.args.reading.now c.lines.reading c.args.text.now c.lines.rest.now c.in-Some.one.now c.in-Some.more.now c.lines.line c.lines.invariant c.in-Some.ensures.0 c.in-Some.ensures.1
    c.read_line.new.reading c.in-Ends.last ends.0 ends.1 (none_of c.in-Some.more.now c.if-more-eq0.true)

pub returns-in-Ends : goal.returns-in-Ends
returns-in-Ends c =
    let ends = subst (Steps c.lines.reading c.read_line.new.reading c.in-Some.one.now) c.in-Ends.is c.in_ok-read_line.ensures in
    going_behind c.args.reading.now c.lines.reading c.args.text.now c.lines.rest.now c.in-Some.one.now c.in-Some.more.now c.lines.line c.lines.invariant c.in-Some.ensures.0 c.in-Some.ensures.1
    c.in-Ends.last ends.1 (λ none. c.if-more-eq0.false (ap (λ (l : List ℕ). length l) none))

pub returns-in-Bad : goal.returns-in-Bad
returns-in-Bad c =
    going_bad c.args.reading.now c.lines.reading c.args.text.now c.lines.rest.now c.in-Some.one.now c.in-Some.more.now c.lines.line c.lines.invariant c.in-Some.ensures.0 c.in-Some.ensures.1
    (subst (Steps c.lines.reading c.read_line.new.reading c.in-Some.one.now) c.in-Bad.is c.in_ok-read_line.ensures)

pub returns : goal.returns
returns c = going_none c.args.reading.now c.lines.reading c.args.text.now c.lines.rest.now c.lines.line c.lines.invariant (none_found c.lines.rest.now c.in_default.ensures)
