use Rattle.std.proofs.Common.{◌<◌, length, get_or, subst, sym, arith}
use Rattle.pst_scen.specs.Rows.{Has}
use Rattle.pst_book.specs.Tables.{AreSoManyOf}
use Rattle.pst_book.proofs.Numbers.{the_same}
use Rattle.pst_book.proofs.Founding.{none_raised, raised_more, raised_room}
use Rattle.pst_tallies.specs.Tallies.{counts_in}
use Rattle.pst_tallies.proofs.Counts.{many_counts, none_counted}
use Rattle.pst_tallies.proofs.tallies.count_awaited.Goals as goal

pub loop-act-init : goal.loop-act-init
loop-act-init c =
    let p = c.args.plan.now in
    λ m l. subst (λ k. AreSoManyOf (λ b. (b < 0) × Has p.must b m) k) (sym (none_counted (length p.groups) c.args.tally.now c.requires.none m l)) (none_raised p.must m)

pub raise_awaited-requires-clause-room : goal.raise_awaited-requires-clause-room
raise_awaited-requires-clause-room c =
    let p = c.args.plan.now in
    let n = length p.groups in
    let t = c.loop-act-test.true in
    let fits = c.len-count.type_inv in
    λ m l h. let k = raised_room p.must c.loop-act.act m (get_or (counts_in n c.loop-act.tally) m 0) (c.loop-act.invariant m l) in omega (arith, k, t, fits)

pub loop-act-preserved : goal.loop-act-preserved
loop-act-preserved c =
    let p = c.args.plan.now in
    let n = length p.groups in
    λ m l. raised_more p.must n c.loop-act.act (counts_in n c.loop-act.tally) (counts_in n c.raise_awaited.new.tally) (many_counts n c.loop-act.tally) c.raise_awaited.ensures c.loop-act.invariant m l

pub returns : goal.returns
returns c =
    let p = c.loop-act-test.false in
    let a = c.loop-act.auto.act-end in
    let n = c.len-count.ensures.is in
    record {
      many = many_counts (length c.args.plan.now.groups) c.loop-act.tally;
      each = λ m l. the_same (λ b q. let x = q.0 in (omega (arith, x, a, n), q.1)) (λ b q. let x = q.0 in (omega (arith, x, p, n), q.1)) (c.loop-act.invariant m l);
    }
