use Rattle.std.proofs.Common.{◌∙◌, ap, sym, subst, arith}
use Rattle.std.specs.List.{find}
use Rattle.std.specs.Option.{option_map}
use Rattle.pst_scen.specs.declared.act.Act.{Act}
use Rattle.pst_open_ends.specs.Spots.{kept_spot, spots_of}
use Rattle.pst_open_ends.specs.Turns.{turns, AreDone}
use Rattle.pst_open_ends.proofs.Finds.{next_found, none_found}
use Rattle.pst_open_ends.proofs.turns.next_need.Goals as goal

pub returns-in-Some-clause-next : goal.returns-in-Some-clause-next
returns-in-Some-clause-next c =
    let t = turns c.args.ties.now in
    let n = c.loop-number.number in
    let x = c.index-acts-number.result in
    next_found c.args.ties.now c.args.acts.now n x c.in-Some.spot (omega arith) c.index-acts-number.is c.loop-number.invariant
    (sym c.in-Some.is ∙ c.next_in.ensures.found ∙ ap (λ rs. option_map kept_spot (find t (spots_of n 0 rs))) c.as_slice.ensures ∙ ap (λ (y : Act). option_map kept_spot (find t (spots_of n 0 y.references))) (sym c.index-acts-number.is))

pub returns-in-Some-clause-done : goal.returns-in-Some-clause-done
returns-in-Some-clause-done c = subst (AreDone c.args.ties.now c.args.acts.now) (sym c.in-Some.ensures.act) c.loop-number.invariant

pub returns-clause-next : goal.returns-clause-next
returns-clause-next c = none_found c.args.ties.now c.args.acts.now c.loop-number.number (omega arith) c.loop-number.invariant
