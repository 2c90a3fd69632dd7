use Rattle.std.proofs.Common.{subst, sym, arith, length, length-set, get_or-set_same, get_or-set_other, set, true, false}
use Rattle.pst_scen.specs.declared.rows.Rows.{Rows}
use Rattle.pst_scen.specs.Rows.{Has}
use Rattle.pst_tallies.specs.Tallies.{counts_in}
use Rattle.pst_static.proofs.Taken.{awaited_some, owed_less, hinted_on}
use Rattle.pst_static.proofs.order.take_one.Goals as goal

pub lower_awaited-requires-clause-some : goal.lower_awaited-requires-clause-some
lower_awaited-requires-clause-some c =
    let counts = counts_in (length c.args.plan.now.groups) c.args.awaited.now in
    λ m l h. awaited_some c.args.plan.now counts counts c.args.taken.now c.args.taken.now c.args.act c.requires.act_in c.requires.owed c.requires.fresh m l h

pub returns : goal.returns
returns c =
    let p = c.args.plan.now in
    let act = c.args.act in
    let size = c.must_rows.ensures.size in
    let n = c.requires.owed.many_taken in
    let a_in = c.requires.act_in in
    let old = counts_in (length p.groups) c.args.awaited.now in
    let new = counts_in (length p.groups) c.lower_awaited.new.tally in
    let low = c.lower_awaited.ensures in
    let here = get_or-set_same c.args.taken.now act true false (omega (arith, a_in, n)) in
    record {
      owed = owed_less p old new c.args.taken.now (set c.args.taken.now act true) act a_in c.requires.owed c.requires.fresh (length-set c.args.taken.now act true) here
          (λ a k. get_or-set_other c.args.taken.now act a true false k) low;
      hinted = hinted_on p old new c.args.taken.now (set c.args.taken.now act true) c.args.hints.now c.mark_blocks.new.marks act c.requires.owed.many_awaited c.requires.hinted
          c.mark_blocks.auto.marks c.mark_blocks.ensures.kept
          (λ m l h. c.mark_blocks.ensures.marked m (omega (arith, l, size)) (subst (λ (rows : Rows). Has rows act m) (sym c.must_rows.ensures.is) h)) low here (λ a k. get_or-set_other c.args.taken.now act a true false k);
      here = here;
      others = λ a k. get_or-set_other c.args.taken.now act a true false k;
    }
