use Rattle.std.proofs.Common.{◌+◌, ◌++◌, ◌∷◌, [], ap, ◌∙◌}
use Rattle.pst_blanks.specs.Blanks.{claim_place}
use Rattle.pst_blanks.proofs.Rows.{range_step}
use Rattle.pst_blanks.proofs.listing.add_claims.Goals as goal

pub loop-claim-preserved : goal.loop-claim-preserved
loop-claim-preserved c =
    let f = claim_place c.args.served.now c.args.act c.args.action c.args.instance c.args.references in
    let i = c.loop-claim._claim-index in
    let out = c.loop-claim.places.items in (
      ap (λ n. n + 1) c.loop-claim.invariant.0,
      range_step f c.args.claims.now i out c.push.new.self.items _ c.loop-claim-test.true
          (c.in_ok-push.ensures.items ∙ ap (λ p. out ++ p ∷ []) (c.in_ok-claim_place.ensures ∙ ap f c.loop-claim.invariant.0)) c.loop-claim.invariant.1,
    )
