use Rattle.std.proofs.Common.{◌<◌, length, sym, arith}
use Rattle.pst_sweep_table.proofs.Used.{counted_there, none_behind, none_there}
use Rattle.pst_sweep_table.proofs.uses.count_in.Goals as goal

pub returns-then-at-used : goal.returns-then-at-used
returns-then-at-used c = sym (none_behind c.args.used.now c.args.action c.count_before-at.result (record { action = 0; count = 0 }) c.count_before-at.ensures c.if-at-used.true)

pub returns-then-used-at : goal.returns-then-used-at
returns-then-used-at c =
    let inside : c.count_before-at.result < length c.args.used.now = omega (arith, c.count_before-at.ensures.inside, c.if-at-used.false) in
    sym (none_there c.args.used.now c.args.action c.count_before-at.result (record { action = 0; count = 0 }) c.count_before-at.ensures c.requires inside c.if-used-at.true)

pub returns : goal.returns
returns c =
    let inside : c.count_before-at.result < length c.args.used.now = omega (arith, c.count_before-at.ensures.inside, c.if-at-used.false) in
    sym (counted_there c.args.used.now c.args.action c.count_before-at.result (record { action = 0; count = 0 }) c.count_before-at.ensures inside c.if-used-at.false)
