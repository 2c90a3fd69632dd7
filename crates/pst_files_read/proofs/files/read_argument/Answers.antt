use Rattle.std.proofs.Common.{◌≡◌, ◌∙◌, ◌-◌, List, ℕ, length, map, string_bytes, refl, ap, sym, subst}
use Rattle.std.specs.Prelude.{Some, Err}
use Rattle.std.proofs.lemmas.Option.{slice_get_read}
use Rattle.std.specs.Option.{ForSome}
use Rattle.pst_words.specs.Lines.{is_file}
use Rattle.pst_files_read.specs.Files.{Finds}
use Rattle.pst_files_read.proofs.Sources.{no_source_more, source_more, source_end, slice_get_mapped, taken, if_added}
use Rattle.pst_files_read.proofs.files.read_argument.Goals as goal

pub returns-then-not-is_file_name-clause-read : goal.returns-then-not-is_file_name-clause-read
returns-then-not-is_file_name-clause-read g c =
    let is = slice_get_read c.args.arguments.now (length c.args.arguments.now) c.args.number c.index-arguments-number.result refl c.requires.inside c.index-arguments-number.is in
    let same : c.as_bytes.result.now ≡ string_bytes c.index-arguments-number.result = c.as_bytes.ensures.value ∙ c.as_str-name.ensures.value in
    no_source_more (g.S.Shelf.files c.args.shelf.now) (map string_bytes c.args.arguments.now) c.args.number c.args.texts.now.items c.args.left (string_bytes c.index-arguments-number.result)
    (taken string_bytes c.args.arguments.now c.args.number c.index-arguments-number.result is) (ap is_file (sym same) ∙ sym c.if-not-is_file_name.ensures) c.requires.before

pub returns-in-Ok-clause-read : goal.returns-in-Ok-clause-read
returns-in-Ok-clause-read g c =
    let is = slice_get_read c.args.arguments.now (length c.args.arguments.now) c.args.number c.index-arguments-number.result refl c.requires.inside c.index-arguments-number.is in
    let same : c.as_bytes.result.now ≡ string_bytes c.index-arguments-number.result = c.as_bytes.ensures.value ∙ c.as_str-name.ensures.value in
    let found = c.in-Ok.ensures.finds in
    let there : ForSome (g.S.Shelf.files c.args.shelf.now) (λ f. f (string_bytes c.index-arguments-number.result) ≡ Some c.in-Ok.text) =
    subst (λ (w : List ℕ). ForSome (g.S.Shelf.files c.args.shelf.now) (λ f. f w ≡ Some c.in-Ok.text)) c.as_str-name.ensures.value found.1 in
    if_added c.add_text.result (c.args.left - length c.in-Ok.text) _ _ c.add_text.ensures.added c.add_text.ensures.more
    (λ more added more_is. source_more (g.S.Shelf.files c.args.shelf.now) (map string_bytes c.args.arguments.now) c.args.number c.args.texts.now.items c.add_text.new.texts.items c.args.left more
    (string_bytes c.index-arguments-number.result) c.in-Ok.text
    (taken string_bytes c.args.arguments.now c.args.number c.index-arguments-number.result is) (ap is_file (sym same) ∙ sym c.if-not-is_file_name.ensures) c.requires.before
    there found.2 added more_is)

pub returns-in-Err-clause-end : goal.returns-in-Err-clause-end
returns-in-Err-clause-end g c =
    let is = slice_get_read c.args.arguments.now (length c.args.arguments.now) c.args.number c.index-arguments-number.result refl c.requires.inside c.index-arguments-number.is in
    let same : c.as_bytes.result.now ≡ string_bytes c.index-arguments-number.result = c.as_bytes.ensures.value ∙ c.as_str-name.ensures.value in
    source_end (g.S.Shelf.files c.args.shelf.now) (g.S.Shelf.faults c.args.shelf.now) (g.S.Shelf.faults c.read_file.new.shelf) (map string_bytes c.args.arguments.now) c.args.number c.args.texts.now.items c.args.left
    (string_bytes c.index-arguments-number.result) c.in-Err.fault c.of_word.result
    (slice_get_mapped string_bytes c.args.arguments.now c.args.number c.index-arguments-number.result is) (ap is_file (sym same) ∙ sym c.if-not-is_file_name.ensures) c.requires.before
    (subst (λ (w : List ℕ). Finds (g.S.Shelf.files c.args.shelf.now) (g.S.Shelf.faults c.args.shelf.now) (g.S.Shelf.faults c.read_file.new.shelf) w c.args.left (Err c.in-Err.fault)) c.as_str-name.ensures.value c.in-Err.ensures.finds)
    c.of_word.ensures
