use Rattle.std.proofs.Common.{◌<◌, ◌∙◌, length, get_or, subst, sym, arith}
use Rattle.pst_scen.specs.declared.rows.Rows.{Rows}
use Rattle.pst_scen.specs.Rows.{Has}
use Rattle.pst_book.specs.Tables.{AreSoManyOf, AreRaised}
use Rattle.pst_book.proofs.Numbers.{the_same}
use Rattle.pst_book.proofs.Founding.{none_raised, raised_more, raised_room}
use Rattle.pst_book.proofs.tables.count_awaited.Goals as goal

pub loop-act-init : goal.loop-act-init
loop-act-init c =
    record {
      many = c.requires.many;
      each = λ m l. subst (λ k. AreSoManyOf (λ b. (b < 0) × Has c.args.plan.now.must b m) k) (sym (c.requires.none m l)) (none_raised c.args.plan.now.must m);
    }

pub raise-requires-clause-room : goal.raise-requires-clause-room
raise-requires-clause-room c =
    let size = c.must_rows-must.ensures.size in
    let t = c.loop-act-test.true in
    let fits = c.len-count.type_inv in
    λ m l h. let k = raised_room c.args.plan.now.must c.loop-act.act m (get_or c.loop-act.awaited m 0) (c.loop-act.invariant.each m (omega (arith, l, size))) in omega (arith, k, t, fits)

pub loop-act-preserved : goal.loop-act-preserved
loop-act-preserved c =
    let old = c.loop-act.awaited in
    let i = c.loop-act.invariant in
    let raised : AreRaised c.args.plan.now.must c.loop-act.act old c.raise.new.counts =
    subst (λ (rows : Rows). AreRaised rows c.loop-act.act old c.raise.new.counts) c.must_rows-must.ensures.is c.raise.ensures in
    record {
      many = raised.many ∙ i.many;
      each = λ m l. raised_more c.args.plan.now.must (length c.args.plan.now.groups) c.loop-act.act old c.raise.new.counts i.many raised i.each m l;
    }

pub returns : goal.returns
returns c =
    let p = c.loop-act-test.false in
    let a = c.loop-act.auto.act-end in
    let n = c.len-count.ensures.is in
    record {
      many = c.loop-act.invariant.many;
      each = λ m l. the_same (λ b q. let x = q.0 in (omega (arith, x, a, n), q.1)) (λ b q. let x = q.0 in (omega (arith, x, p, n), q.1)) (c.loop-act.invariant.each m l);
    }
