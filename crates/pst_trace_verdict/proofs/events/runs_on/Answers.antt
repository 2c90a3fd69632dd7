use Rattle.std.proofs.Common.{◌∙◌, ap, sym, not, ◌&&◌}
use Rattle.std.specs.List.{list_any}
use Rattle.pst_trace_verdict.specs.Events.{ends_it}
use Rattle.pst_trace_verdict.proofs.Running.{runs_by}
use Rattle.pst_trace_verdict.proofs.events.runs_on.Goals as goal

pub returns-then-starts : goal.returns-then-starts
returns-then-starts c =
    runs_by c.args.action c.args.lane c.args.events.now (not c.some_ends-ends.result)
    (ap (λ b. not b) c.some_ends-ends.ensures ∙ ap (λ b. b && not (list_any (ends_it c.args.action) c.args.events.now)) (sym (sym c.some_starts-starts.ensures ∙ c.if-starts.true)))
