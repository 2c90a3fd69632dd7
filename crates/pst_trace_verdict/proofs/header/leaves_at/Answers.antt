use Rattle.std.proofs.Common.{◌∙◌, ◌++◌, List, ℕ, length, refl, ap, sym}
use Rattle.std.proofs.lemmas.Option.{slice_get_read}
use Rattle.std.specs.Prelude.{map, string_bytes}
use Rattle.pst_trace_texts.specs.Lines.{line}
use Rattle.pst_trace_verdict.proofs.Leaving.{leaves_here, goes_next, at_line, inside_map}
use Rattle.pst_trace_verdict.proofs.header.leaves_at.Goals as goal

pub returns-in-None : goal.returns-in-None
returns-in-None c =
    leaves_here c.args.text.now (map string_bytes c.args.lines.now) c.loop-number.number c.loop-number.rest.now (inside_map string_bytes c.args.lines.now c.loop-number.number c.loop-number-test.true) c.loop-number.invariant
    (λ behind is. c.in-None.ensures behind (is ∙ ap (λ (l : List ℕ). line l ++ behind) (at_line string_bytes c.args.lines.now c.loop-number.number c.index-lines-number.result (slice_get_read c.args.lines.now (length c.args.lines.now) c.loop-number.number c.index-lines-number.result refl c.loop-number-test.true c.index-lines-number.is) ∙ sym c.as_bytes.ensures.value)))

pub loop-number-preserved : goal.loop-number-preserved
loop-number-preserved c =
    goes_next c.args.text.now (map string_bytes c.args.lines.now) c.loop-number.number c.loop-number.rest.now c.in-Some.behind.now (inside_map string_bytes c.args.lines.now c.loop-number.number c.loop-number-test.true) c.loop-number.invariant
    (c.in-Some.ensures ∙ ap (λ (l : List ℕ). line l ++ c.in-Some.behind.now) (c.as_bytes.ensures.value ∙ sym (at_line string_bytes c.args.lines.now c.loop-number.number c.index-lines-number.result (slice_get_read c.args.lines.now (length c.args.lines.now) c.loop-number.number c.index-lines-number.result refl c.loop-number-test.true c.index-lines-number.is))))
