use Rattle.std.proofs.Common.{◌≡◌, ◌++◌, ◌-◌}
use Rattle.std.specs.Prelude.{string_bytes}
use Rattle.pst_trace_texts.specs.Header.{branches_text}
use Rattle.pst_trace_writer.proofs.nodes.write_branches.Given as goal

abbrev pub invariant-loop-branch : goal.invariant-loop-branch
invariant-loop-branch l =
    string_bytes l.text ++ branches_text l.joined l.branch (64 - l.branch) ≡ string_bytes l.fn.text ++ branches_text l.joined 0 64
