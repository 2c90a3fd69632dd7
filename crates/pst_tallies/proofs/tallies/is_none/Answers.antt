use Rattle.std.proofs.Common.{◌≡◌, ◌∙◌, ℕ, length, get_or, sym, subst}
use Rattle.std.specs.Prelude.{IsTrue, nat_eq, ◌↔◌}
use Rattle.std.proofs.lemmas.Bool.{eqb-true, eq-eqb}
use Rattle.pst_tallies.specs.Tallies.{count_of, counts_in}
use Rattle.pst_tallies.proofs.Counts.{count_at}
use Rattle.pst_tallies.proofs.tallies.is_none.Goals as goal

pub returns : goal.returns
returns c =
    let n = length c.args.plan.now.groups in
    let tally = c.args.tally.now in
    let act = c.args.act in
    let at = count_at n tally act c.requires.act_in in
    subst (λ (size : ℕ). IsTrue (nat_eq (count_of size tally act) 0) ↔ get_or (counts_in n tally) act 0 ≡ 0) (sym c.len.ensures.is)
    ((λ t. at ∙ eqb-true (count_of n tally act) 0 t), (λ e. eq-eqb (count_of n tally act) 0 (sym at ∙ e)))
