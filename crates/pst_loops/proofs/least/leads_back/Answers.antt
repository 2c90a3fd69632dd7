use Rattle.std.proofs.Common.{rules, ◌≡◌, ◌∙◌, ◌↔◌, ap, subst, ℕ, Some, true, false, IsTrue}
use Rattle.std.specs.Prelude.{slice_get, slice_index_or}
use Rattle.std.proofs.lemmas.Option.{slice_get-get_or}
use Rattle.pst_loops.specs.Graph.{HasWalk}
use Rattle.pst_loops.proofs.Joined.{is_there, rows_are_edges, back_by_walk, never_back}
use Rattle.pst_loops.proofs.OneMore.{each_back}
use Rattle.pst_loops.proofs.least.leads_back.Goals as goal

pub returns-then-marks-number : goal.returns-then-marks-number
returns-then-marks-number c =
    let ds = c.args.declarations.now in
    let n = slice_index_or c.args.numbers.now c.args.at 0 in
    let (d, there) = is_there ds c.args.at c.requires.within in
    let marked : slice_get c.args.marks.now n ≡ Some true = slice_get-get_or c.args.marks.now n false c.if-number-marks.true ∙ ap Some c.if-marks-number.true in
    (λ f. absurd (cc f), λ back. absurd (never_back ds c.args.rows.now c.requires.rows n d (c.requires.numbers.each c.args.at d there) (c.requires.apart n marked) (back d there)))

pub reaches-requires-clause-edges : goal.reaches-requires-clause-edges
reaches-requires-clause-edges c = rows_are_edges c.args.declarations.now c.args.rows.now c.requires.rows

pub returns-in_ok-reaches-in-Ok : goal.returns-in_ok-reaches-in-Ok
returns-in_ok-reaches-in-Ok c =
    let ds = c.args.declarations.now in
    let n = slice_index_or c.args.numbers.now c.args.at 0 in
    let (d, there) = is_there ds c.args.at c.requires.within in
    let both = back_by_walk ds c.args.rows.now c.requires.rows c.args.at n d there (c.requires.numbers.each c.args.at d there) in
    let same : c.in-Ok.from ≡ c.args.at = search rules in
    let walk = subst (λ (z : ℕ). IsTrue c.in_ok-reaches-in-Ok.field-0 ↔ HasWalk c.args.rows.now z n) same c.in_ok-reaches-in-Ok.ensures in
    (λ yes. each_back ds c.args.at d there (both.0 (walk.0 yes)), λ back. walk.1 (both.1 (back d there)))
