use Rattle.std.proofs.Common.{◌≡◌, arith, length, map, ◌∙◌}
use Rattle.std.proofs.lemmas.Grind.{common_steps}
use Rattle.pst_bind.specs.Nearest.{explicit_row, default_row_of}
use Rattle.pst_bound_pools.specs.Serving.{with_those_above}
use Rattle.pst_bind.proofs.Made.{explicit_first, default_next}
use Rattle.pst_bind.proofs.judging.choice.Goals as goal

pub returns-then-not-is_empty : goal.returns-then-not-is_empty
returns-then-not-is_empty c =
    let above = with_those_above c.args.binds.now.table.now c.args.instance in
    let xs = map (explicit_row c.args.binds.now.explicit.now c.args.instance c.args.action.now.name.id c.args.wanted.now.need.name.id) above in
    let ys = map (default_row_of c.args.binds.now.index.now c.args.binds.now.defaults.now c.args.wanted.now.need) above in
    c.choice_of.ensures ∙ explicit_first xs ys c.in_ok-row.row.now c.in_ok-row.ensures (λ none. absurd (grind (arith, common_steps)))

pub returns : goal.returns
returns c =
    let above = with_those_above c.args.binds.now.table.now c.args.instance in
    let xs = map (explicit_row c.args.binds.now.explicit.now c.args.instance c.args.action.now.name.id c.args.wanted.now.need.name.id) above in
    let ys = map (default_row_of c.args.binds.now.index.now c.args.binds.now.defaults.now c.args.wanted.now.need) above in
    let none : length c.in_ok-row.row.now ≡ 0 = grind (arith, common_steps) in
    default_next xs ys c.in_ok-row.row.now c.in_ok-row.ensures none c.in_ok-made.made c.in_ok-made.ensures
