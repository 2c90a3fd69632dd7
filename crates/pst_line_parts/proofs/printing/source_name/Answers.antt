use Rattle.std.proofs.Common.{◌≡◌, ◌∙◌, ◌+◌, ◌∷◌, length, get_or, drop, map, string_bytes, refl, ap, sym, codes}
use Rattle.std.proofs.lemmas.Option.{slice_get_read}
use Rattle.pst_words.specs.Lines.{is_file}
use Rattle.pst_files_read.specs.Files.{sources_in}
use Rattle.pst_line_parts.proofs.SourceNames.{dropped, passed, counted, behind}
use Rattle.pst_line_parts.proofs.printing.source_name.Goals as goal

pub loop-i-preserved-then-not-is_file_name : goal.loop-i-preserved-then-not-is_file_name
loop-i-preserved-then-not-is_file_name c =
    let is = slice_get_read c.args.arguments.now (length c.args.arguments.now) c.loop-i.i c.index-arguments-i.result refl c.loop-i-test.true c.index-arguments-i.is in
    let same : c.as_bytes.result.now ≡ string_bytes c.index-arguments-i.result = c.as_bytes.ensures.value ∙ c.as_str-word.ensures.value in
    c.loop-i.invariant ∙ passed (map string_bytes c.args.arguments.now) c.loop-i.i c.loop-i.left (string_bytes c.index-arguments-i.result)
    (dropped string_bytes c.args.arguments.now c.loop-i.i c.index-arguments-i.result is) (ap is_file (sym same) ∙ sym c.if-not-is_file_name.ensures)

pub returns-then-left-eq0 : goal.returns-then-left-eq0
returns-then-left-eq0 c =
    let is = slice_get_read c.args.arguments.now (length c.args.arguments.now) c.loop-i.i c.index-arguments-i.result refl c.loop-i-test.true c.index-arguments-i.is in
    let same : c.as_bytes.result.now ≡ string_bytes c.index-arguments-i.result = c.as_bytes.ensures.value ∙ c.as_str-word.ensures.value in
    c.as_str-word.ensures.value
    ∙ sym (c.loop-i.invariant ∙ counted (map string_bytes c.args.arguments.now) c.loop-i.i c.loop-i.left (string_bytes c.index-arguments-i.result)
    (dropped string_bytes c.args.arguments.now c.loop-i.i c.index-arguments-i.result is) (ap is_file (sym same) ∙ sym c.if-not-is_file_name.ensures)
    ∙ ap (λ n. get_or (string_bytes c.index-arguments-i.result ∷ sources_in (drop (c.loop-i.i + 1) (map string_bytes c.args.arguments.now))) n (codes "root")) c.if-left-eq0.true)

pub loop-i-preserved : goal.loop-i-preserved
loop-i-preserved c =
    let is = slice_get_read c.args.arguments.now (length c.args.arguments.now) c.loop-i.i c.index-arguments-i.result refl c.loop-i-test.true c.index-arguments-i.is in
    let same : c.as_bytes.result.now ≡ string_bytes c.index-arguments-i.result = c.as_bytes.ensures.value ∙ c.as_str-word.ensures.value in
    c.loop-i.invariant ∙ counted (map string_bytes c.args.arguments.now) c.loop-i.i c.loop-i.left (string_bytes c.index-arguments-i.result)
    (dropped string_bytes c.args.arguments.now c.loop-i.i c.index-arguments-i.result is) (ap is_file (sym same) ∙ sym c.if-not-is_file_name.ensures)
    ∙ behind (string_bytes c.index-arguments-i.result) (sources_in (drop (c.loop-i.i + 1) (map string_bytes c.args.arguments.now))) c.loop-i.left c.if-left-eq0.false
