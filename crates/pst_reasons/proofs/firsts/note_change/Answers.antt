use Rattle.std.proofs.Common.{◌≡◌, ap, ◌∙◌, arith}
use Rattle.pst_reasons.specs.Firsts.{first_at}
use Rattle.pst_reasons.proofs.FirstLemmas.{within_firsts, set_no_later, set_noted}
use Rattle.pst_reasons.proofs.firsts.note_change.Goals as goal

pub returns-then-first-at-clause-no_later : goal.returns-then-first-at-clause-no_later
returns-then-first-at-clause-no_later c v = omega arith

pub returns-then-first-at-clause-noted : goal.returns-then-first-at-clause-noted
returns-then-first-at-clause-noted c =
    let is : c.first_at-first.result ≡ first_at c.args.firsts.now.items c.args.variable = c.first_at-first.ensures ∙ ap (λ xs. first_at xs c.args.variable) c.as_slice.ensures.value in
    omega (arith, c.if-first-at.true, is)

pub index_mut-requires : goal.index_mut-requires
index_mut-requires c =
    let is : c.first_at-first.result ≡ first_at c.args.firsts.now.items c.args.variable = c.first_at-first.ensures ∙ ap (λ xs. first_at xs c.args.variable) c.as_slice.ensures.value in
    let small = within_firsts c.args.firsts.now.items c.args.variable c.args.at (omega (arith, c.if-first-at.false, is)) in
    let e = c.args.firsts.now.ok.0 in
    omega (arith, small, e)

pub returns-clause-no_later : goal.returns-clause-no_later
returns-clause-no_later c =
    let is : c.first_at-first.result ≡ first_at c.args.firsts.now.items c.args.variable = c.first_at-first.ensures ∙ ap (λ xs. first_at xs c.args.variable) c.as_slice.ensures.value in
    set_no_later c.args.firsts.now.items c.args.variable c.args.at (omega (arith, c.if-first-at.false, is))

pub returns-clause-noted : goal.returns-clause-noted
returns-clause-noted c =
    let is : c.first_at-first.result ≡ first_at c.args.firsts.now.items c.args.variable = c.first_at-first.ensures ∙ ap (λ xs. first_at xs c.args.variable) c.as_slice.ensures.value in
    set_noted c.args.firsts.now.items c.args.variable c.args.at (omega (arith, c.if-first-at.false, is))
