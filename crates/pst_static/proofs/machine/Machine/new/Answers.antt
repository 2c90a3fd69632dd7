use Rattle.std.proofs.Common.{◌∙◌, replicate, ap, false, arith}
use Rattle.pst_static.proofs.Tied.{run_first}
use Rattle.pst_static.proofs.machine.Machine.new.Goals as goal

pub invariant_of-result : goal.invariant_of-result
invariant_of-result c =
    let p = c.args.plan.now in
    let n = c.len-count.ensures.is in
    let a = c.in_ok-trace.ensures.capacity in
    let b = c.in_ok-signals.ensures.capacity in
    run_first p c.args.programs.now
    (record { next = c.in_ok-next.next; places = c.in_ok-places.places; signals = c.in_ok-signals.signals; trace = c.in_ok-trace.trace; told = c.in_ok-told.told; started = c.in_ok-started.started })
    c.requires.planned c.requires.programs c.requires.few c.requires.wide c.in_ok-next.ensures c.in_ok-places.ensures c.in_ok-signals.ensures.items c.in_ok-trace.ensures.items
    (c.in_ok-told.ensures ∙ ap (λ k. replicate k false) n) (c.in_ok-started.ensures ∙ ap (λ k. replicate k false) n) (omega (arith, a, n)) (omega (arith, b, n))
