use Rattle.std.proofs.Common.{◌≡◌, Some, length, refl}
use Rattle.std.specs.Prelude.{slice_get}
use Rattle.std.proofs.lemmas.Option.{slice_get_read}
use Rattle.pst_open_ends.proofs.Nexts.{passed_done}
use Rattle.pst_open_ends.proofs.turns.next_from.Goals as goal

pub returns-in-Some-clause-done : goal.returns-in-Some-clause-done
returns-in-Some-clause-done c =
    let to = c.in-Some.next.now in
    let seen = c.in-Some.ensures.lookup in
    let there : slice_get c.args.nexts.now c.args.number ≡ Some to = slice_get_read c.args.nexts.now (length c.args.nexts.now) c.args.number to refl seen.3.0 seen.1 in
    passed_done c.args._ties.now c.args._acts.now c.args.number to c.requires.done (c.requires.nexts c.args.number to there).1

pub returns-in-Some-clause-on : goal.returns-in-Some-clause-on
returns-in-Some-clause-on c =
    let to = c.in-Some.next.now in
    let seen = c.in-Some.ensures.lookup in
    (c.requires.nexts c.args.number to (slice_get_read c.args.nexts.now (length c.args.nexts.now) c.args.number to refl seen.3.0 seen.1)).0
