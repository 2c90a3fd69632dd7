use Rattle.std.proofs.Common.{◌++◌, ◌∷◌, [], List, length, refl, ap, ◌∙◌, arith}
use Rattle.pst_reasons.specs.declared.step.Given.{Given}
use Rattle.pst_reasons.proofs.KeepLemmas.{noted_steps, noted_marks}
use Rattle.pst_reasons.proofs.reasons.Narrowed.note_given.Goals as goal

pub returns-clause-noted : goal.returns-clause-noted
returns-clause-noted c =
    let s = c.args.self.now in
    record {
      constraints = refl;
      watch = refl;
      bounds = c.in_ok-set.ensures.bounds;
      trail = c.in_ok-set.ensures.trail;
      steps = noted_steps s.steps.items _ _ (length s.given.items) _ (length s.trail) c.mark-mark.result c.push_reserved-2.ensures.items c.reserve-2.ensures.items (omega (arith, c.len-place.ensures, c.if-len.false, c.len.ensures)) c.mark-mark.ensures;
      given_is = c.push_reserved.ensures.items ∙ ap (λ (xs : List Given). xs ++ record { variable = c.args.variable; span = c.args.span } ∷ []) c.reserve.ensures.items;
      marks = noted_marks s.marks.items _ _ (length s.trail) c.mark-mark.result (length s.steps.items) c.len-steps.result c.push_reserved-3.ensures.items c.reserve-3.ensures.items c.mark-mark.ensures (omega (arith, c.len-steps.ensures));
      firsts = refl;
    }
