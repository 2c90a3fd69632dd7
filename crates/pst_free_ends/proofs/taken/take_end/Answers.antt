use Rattle.std.proofs.Common.{◌&&◌, nat_eq, ap, sym, ◌∙◌}
use Rattle.pst_pool_sources.specs.Offers.{ends_at, takes}
use Rattle.pst_free_ends.specs.Steps.{restored}
use Rattle.pst_free_ends.proofs.Restores.{either}
use Rattle.pst_free_ends.proofs.taken.take_end.Goals as goal

pub returns-in_err-place-clause-back : goal.returns-in_err-place-clause-back
returns-in_err-place-clause-back c = λ n p.
    let ends = ends_at n p c.take.new.self in
    c.in_err-place.ensures.back n p
    ∙ either (takes n c.args.flow && nat_eq c.args.pool p) ends
    ∙ ap (λ r. restored r n p ends) (sym c.from_residual.ensures)
