use Rattle.std.proofs.Common.{[], sym, append-nil, map, refl}
use Rattle.std.specs.Prelude.{string_bytes}
use Rattle.pst_trace_reader.specs.Going.{OfBlock}
use Rattle.pst_trace_reader.proofs.Chosen.{on_true, on_false}
use Rattle.pst_trace_reader.proofs.Onward.{bad_sort}
use Rattle.pst_trace_reader.proofs.line.read_of_block.Goals as goal

pub returns-then-branch : goal.returns-then-branch
returns-then-branch c =
    let (own, are, block) = on_true _ _ c.in_ok-read_block.field-0 c.if-branch.true c.in_ok-read_block.ensures in
    record { header = []; events = own; header_is = sym (append-nil (map string_bytes c.args.reading.now.header.items)); events_are = are; format_is = refl; passes = OfBlock own block }

pub returns : goal.returns
returns c = λ more hs es last.
    bad_sort c.args.reading.now.format c.args.reading.now.passed c.args.line.now more hs es last c.requires.header c.requires.last (on_false _ _ c.in_ok-read_block.field-0 c.if-branch.false c.in_ok-read_block.ensures)
