use Rattle.std.proofs.Common.{◌≡◌, ◌++◌, drop}
use Rattle.std.specs.Prelude.{string_bytes}
use Rattle.pst_trace_texts.specs.Lines.{each_from}
use Rattle.pst_sweep_table.specs.declared.row.SweepRow.{SweepRow}
use Rattle.pst_sweep_answers.specs.Texts.{row_line}
use Rattle.pst_sweep_answers.proofs.lines.write_rows.Given as goal

abbrev pub invariant-loop-row : goal.invariant-loop-row
invariant-loop-row l =
    string_bytes l.text ++ each_from (λ number (row : SweepRow). row_line row.seed row.outcome) l.row-index (drop l.row-index l.rows) ≡ string_bytes l.fn.text ++ each_from (λ number (row : SweepRow). row_line row.seed row.outcome) 0 l.rows
