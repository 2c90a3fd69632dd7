use Rattle.std.proofs.Common.{◌≡◌, ◌⊎◌, ◌+◌, ◌<◌, ◌≤◌, ℕ, length, get_or, ap, subst, ◌∙◌, arith}
use Rattle.pst_claim_counts.specs.declared.needs.Need.{Need}
use Rattle.pst_claim_counts.specs.Needs.{no_need}
use Rattle.pst_claim_counts.proofs.Own.{own_stays, own_more}
use Rattle.pst_claim_counts.proofs.needs.add_own.Goals as goal

pub returns-then-not-is_on-clause-own : goal.returns-then-not-is_on-clause-own
returns-then-not-is_on-clause-own c = λ s meet all. own_stays c.args.slots.now c.args.claims.now c.args.pool c.args.place s c.args.needs.now.items all

pub returns-in_default-clause-own : goal.returns-in_default-clause-own
returns-in_default-clause-own c = λ s meet all. own_stays c.args.slots.now c.args.claims.now c.args.pool c.args.place s c.args.needs.now.items all

pub returns-then-slot-len-clause-own : goal.returns-then-slot-len-clause-own
returns-then-slot-len-clause-own c = λ s meet all. own_stays c.args.slots.now c.args.claims.now c.args.pool c.args.place s c.args.needs.now.items all

pub returns-clause-own : goal.returns-clause-own
returns-clause-own c = λ s meet all.
    let old = c.args.needs.now.items in
    let slot = c.in-Some.slot in
    let here : c.need_at.result ≡ get_or old slot no_need = c.need_at.ensures ∙ ap (λ xs. get_or xs slot no_need) c.as_slice.ensures.value in
    let within : slot < length old = let l = c.if-slot-len.false in let e = c.len.ensures in omega (arith, l, e) in
    let one = c.need_of.result in
    let need = c.joined-need.result in
    let few : need.locks ≤ (get_or old slot no_need).locks + one.locks = subst (λ (n : Need). need.locks ≤ n.locks + one.locks) here c.joined-need.ensures.locks in
    let all_few : (need.all ≤ (get_or old slot no_need).locks + one.all) ⊎ (need.all ≤ (get_or old slot no_need).all + one.locks) =
    subst (λ (n : Need). (need.all ≤ n.locks + one.all) ⊎ (need.all ≤ n.all + one.locks)) here c.joined-need.ensures.all in
    own_more c.args.slots.now c.args.claims.now c.args.pool c.args.place s meet c.requires.ordered c.claim_at-claim.result slot c.claim_at-claim.ensures (c.is_on.ensures c.if-not-is_on.false) c.in-Some.ensures
    old c.put.new.needs.items one need c.need_of.ensures within few all_few c.put.ensures.many c.put.ensures.at c.put.ensures.others all
