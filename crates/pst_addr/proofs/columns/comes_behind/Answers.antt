use Rattle.std.proofs.Common.{◌≡◌, ◌↔◌, ◌/◌, ◌%◌, ◌^◌, ◌∙◌, ◌<◌, IsTrue, length, get_or, ap, sym, subst, bit_and, arith}
use Rattle.std.specs.Prelude.{nat_eq, IsBitSet}
use Rattle.pst_scen.specs.declared.rows.Rows.{Rows}
use Rattle.pst_addr.proofs.Bits.{test}
use Rattle.pst_addr.proofs.columns.comes_behind.Goals as goal

pub returns : goal.returns
returns c =
    let bit = c.args.one % 64 in
    let word = get_or c.args.column.now c.args.other 0 in
    let size : c.args.plan.now.must.size ≡ length c.args.plan.now.groups = ap (λ (r : Rows). r.size) (sym c.must_rows-rows.ensures.is) ∙ c.must_rows-rows.ensures.size in
    let inside : c.args.other < c.args.plan.now.must.size = let l = c.requires.other_in in omega (arith, size, l) in
    subst (λ w. IsTrue (nat_eq (bit_and (word / 2 ^ bit) 1) 1) ↔ IsBitSet w bit) (c.requires.column.each c.args.other inside) (test word bit)
