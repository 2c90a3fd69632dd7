use Rattle.std.proofs.Common.{◌&&◌, nat_eq, if◌then◌else◌, not, refl, ◌∙◌, ap, sym, subst}
use Rattle.std.specs.List.{list_any}
use Rattle.pst_ties.specs.Tieds.{same_end}
use Rattle.pst_legal.specs.SupplyReading.{spots}
use Rattle.pst_pool_sources.specs.Offers.{ends_at, may_serve, takes, without}
use Rattle.pst_pool_sources.specs.Places.{AreRising}
use Rattle.pst_open_ends.proofs.Lookups.{each_spot}
use Rattle.pst_free_ends.proofs.Restores.{none_restored}
use Rattle.pst_free_ends.proofs.Rising.{rising_if}
use Rattle.pst_free_ends.proofs.Spots.{picked_is}
use Rattle.pst_free_ends.proofs.Moves.{mate_taken, stream_moves}
use Rattle.pst_free_ends.proofs.steps.take_stream.Goals as goal

pub returns-then-is_none-clause-err : goal.returns-then-is_none-clause-err
returns-then-is_none-clause-err c = λ n p.
    sym (c.take_end-removed.ensures.back n p ∙ none_restored c.take_end-removed.result n p (ends_at n p c.take_end-removed.new.sources) (c.is_none.ensures ∙ ap not c.if-is_none.true))

pub take_end-near-requires : goal.take_end-near-requires
take_end-near-requires c = λ n p.
    let old = ends_at n p c.args.sources.now in
    subst AreRising (sym (c.take_end-removed.ensures.without n p)) (rising_if (takes n c.mate.result && nat_eq c.args.need.now.pool p) (λ x. not (same_end c.args.far x)) old (c.requires.rising n p))

pub returns-clause-ok : goal.returns-clause-ok
returns-clause-ok c = λ acts are turn ahead.
    let need = c.args.need.now in
    let far = c.args.far in
    let old = c.args.sources.now in
    let there = picked_is acts far (may_serve need.flow need.pool acts) (spots acts) (each_spot acts) (
    ap (list_any (same_end far)) (sym (are.ends need.flow need.pool))
    ∙ sym (c.take_end-removed.ensures.found need.flow (ap (takes need.flow) c.mate.ensures ∙ mate_taken need.flow c.requires.stream))
    ∙ c.is_none.ensures ∙ ap not c.if-is_none.false
    ) in
    stream_moves need acts turn ahead c.requires.stream far there c.take_end-near.new.sources c.take_end-removed.new.sources old _ refl are
    (λ n p. c.take_end-removed.ensures.without n p ∙ ap (λ f. if takes n f && nat_eq need.pool p then without far (ends_at n p old) else ends_at n p old) c.mate.ensures)
    c.take_end-removed.ensures.back c.take_end-near.ensures.without c.take_end-near.ensures.back
    (λ p. c.take_end-near.ensures.begun p ∙ c.take_end-removed.ensures.begun p)
