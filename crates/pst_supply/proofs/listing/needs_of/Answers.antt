use Rattle.std.proofs.Common.{◌+◌, ◌∙◌, ◌++◌, ap, map}
use Rattle.std.specs.Prelude.{flat_map}
use Rattle.std.specs.List.{enumerate_from}
use Rattle.pst_legal.specs.Supplied.{linkings_in}
use Rattle.pst_supply.specs.Needs.{needs_in, need_of}
use Rattle.pst_supply.proofs.Rows.{walk_step}
use Rattle.pst_supply.proofs.Listed.{next_act}
use Rattle.pst_supply.proofs.listing.needs_of.Goals as goal

pub loop-act-preserved : goal.loop-act-preserved
loop-act-preserved c =
    let i = c.loop-act.act-index in
    let x = c.act-item.result in
    let out = c.loop-act.found.items in (
      ap (λ n. n + 1) c.loop-act.invariant.0,
      walk_step (λ k acts. map need_of (flat_map linkings_in (enumerate_from k acts))) (λ k act. needs_in k act.references) next_act c.args.acts.now i x c.loop-act-test.true c.act-item.is out c.add_needs.new.found.items _
          (c.in_ok-add_needs.ensures ∙ ap (λ n. out ++ needs_in n c.as_slice.result.now) (c.in_ok-narrow.ensures ∙ c.loop-act.invariant.0) ∙ ap (λ rs. out ++ needs_in i rs) c.as_slice.ensures)
          c.loop-act.invariant.1,
    )
