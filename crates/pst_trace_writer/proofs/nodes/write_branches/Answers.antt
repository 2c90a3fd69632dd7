use Rattle.std.proofs.Common.{◌++◌}
use Rattle.std.specs.Prelude.{string_bytes}
use Rattle.pst_trace_texts.specs.Header.{branches_text}
use Rattle.pst_trace_writer.proofs.Branches.{branches_more, branches_done}
use Rattle.pst_trace_writer.proofs.nodes.write_branches.Goals as goal

pub loop-branch-preserved : goal.loop-branch-preserved
loop-branch-preserved c =
    branches_more c.args.joined c.loop-branch.branch 64 (string_bytes c.loop-branch.text) (string_bytes c.write_branch.new.text) (string_bytes c.args.text.now ++ branches_text c.args.joined 0 64) c.loop-branch-test.true c.in_ok-write_branch.ensures c.loop-branch.invariant

pub returns : goal.returns
returns c =
    branches_done c.args.joined c.loop-branch.branch 64 (string_bytes c.loop-branch.text) (string_bytes c.args.text.now ++ branches_text c.args.joined 0 64) c.loop-branch-test.false c.loop-branch.invariant
