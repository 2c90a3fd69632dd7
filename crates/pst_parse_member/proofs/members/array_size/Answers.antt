use Rattle.pst_parse_member.proofs.Views.{size_settles, size_fails}
use Rattle.pst_parse_member.proofs.members.array_size.Goals as goal
use Rattle.std.proofs.lemmas.Result.{err_from_is_err_and}

pub returns-in_err-size : goal.returns-in_err-size
returns-in_err-size c =
    let p = err_from_is_err_and c.from_residual.result c.from_residual.ensures.1 in
    rw (p.1, p.2) (size_fails c.args.tokens.now c.args.at c.args.depth c.in_err-size.field-0.0 c.in_err-size.ensures)

pub returns : goal.returns
returns c = record { settles = size_settles c.args.tokens.now c.args.at c.args.depth _ c.in_ok-size.ensures.settles; after = c.in_ok-size.ensures.after; inside = c.in_ok-size.ensures.inside }
