use Rattle.std.proofs.Common.{◌≡◌, take}
use Rattle.pst_static.specs.Drafts.{signalled}
use Rattle.pst_static.proofs.programs.program_of.Given as goal

abbrev pub invariant-loop-step : goal.invariant-loop-step
invariant-loop-step l = l.steps.items ≡ signalled l.told (take l.step-index l.draft)
