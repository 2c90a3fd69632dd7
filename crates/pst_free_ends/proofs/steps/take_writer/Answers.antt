use Rattle.std.proofs.Common.{not, refl, ap, ◌∙◌, sym}
use Rattle.pst_scen.specs.declared.act.Flow.TheVariants as flow
use Rattle.pst_pool_sources.specs.Offers.{ends_at}
use Rattle.pst_free_ends.proofs.Restores.{none_restored}
use Rattle.pst_free_ends.proofs.Moves.{writer_moves}
use Rattle.pst_free_ends.proofs.steps.take_writer.Goals as goal

pub returns-then-is_none-clause-err : goal.returns-then-is_none-clause-err
returns-then-is_none-clause-err c = λ n p.
    sym (c.take_end-removed.ensures.back n p ∙ none_restored c.take_end-removed.result n p (ends_at n p c.take_end-removed.new.sources) (c.is_none.ensures ∙ ap not c.if-is_none.true))

pub returns-clause-ok : goal.returns-clause-ok
returns-clause-ok c = λ acts are turn ahead.
    writer_moves c.args.need.now acts turn ahead c.requires.writer c.take_end-removed.new.sources c.args.sources.now _ c.args.far refl refl are
    c.take_end-removed.ensures.without c.take_end-removed.ensures.back
    (sym (c.take_end-removed.ensures.found flow.StateOut refl) ∙ c.is_none.ensures ∙ ap not c.if-is_none.false)
    c.take_end-removed.ensures.begun
