use Rattle.std.proofs.Common.{rules, ◌≡◌, get_or}
use Rattle.std.proofs.lemmas.Option.{slice_get-get_or}
use Rattle.pst_loops.proofs.OneMore.{blank}
use Rattle.pst_loops.proofs.numbers.number_at.Goals as goal

pub returns-then-eq : goal.returns-then-eq
returns-then-eq c =
    let ds = c.args.declarations.now in
    let same : (get_or ds c.near-at.result blank).name.place ≡ c.args.place = search rules in
    (get_or ds c.near-at.result blank, slice_get-get_or ds c.near-at.result blank c.if-at-declarations.true, same)
