use Rattle.std.proofs.Common.{◌≡◌, ◌∙◌, ℕ, List, length, map, string_bytes, refl, sym, subst}
use Rattle.std.specs.Prelude.{false}
use Rattle.std.proofs.lemmas.Option.{slice_get_read}
use Rattle.pst_words.specs.declared.key.Key.TheVariants.{Trace}
use Rattle.pst_words.specs.Lines.{is_of}
use Rattle.pst_files_read.proofs.Sources.{taken, slice_get_mapped}
use Rattle.pst_files_read.proofs.Traces.{no_trace_more, trace_word}
use Rattle.pst_files_read.proofs.trace_file.read_trace.Goals as goal

pub loop-number-preserved : goal.loop-number-preserved
loop-number-preserved g c =
    let is = slice_get_read c.args.arguments.now (length c.args.arguments.now) c.loop-number.number c.index-arguments-number.result refl c.loop-number-test.true c.index-arguments-number.is in
    let unseen : is_of Trace (string_bytes c.index-arguments-number.result) ≡ false = subst (λ (t : List ℕ). is_of Trace t ≡ false) c.as_str.ensures.value c.in_default.ensures in (
      c.loop-number.invariant.0,
      no_trace_more (map string_bytes c.args.arguments.now) c.loop-number.number (string_bytes c.index-arguments-number.result)
          (taken string_bytes c.args.arguments.now c.loop-number.number c.index-arguments-number.result is) c.loop-number.invariant.1 unseen,
    )

pub read_named-requires : goal.read_named-requires
read_named-requires g c =
    let is = slice_get_read c.args.arguments.now (length c.args.arguments.now) c.loop-number.number c.index-arguments-number.result refl c.loop-number-test.true c.index-arguments-number.is in
    trace_word (map string_bytes c.args.arguments.now) c.loop-number.number (string_bytes c.index-arguments-number.result) c.in-Some.name.now
    (slice_get_mapped string_bytes c.args.arguments.now c.loop-number.number c.index-arguments-number.result is) (sym c.as_str.ensures.value ∙ c.in-Some.ensures.1) c.loop-number.invariant.1
