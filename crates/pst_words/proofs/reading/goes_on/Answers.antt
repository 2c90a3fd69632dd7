use Rattle.std.proofs.Common.{refl, length, string_bytes}
use Rattle.std.proofs.lemmas.Option.{slice_get_read}
use Rattle.pst_words.proofs.Step.{is_wrong, by_seeds}
use Rattle.pst_words.proofs.reading.goes_on.Goals as goal

pub returns-then-not-is_right : goal.returns-then-not-is_right
returns-then-not-is_right c =
    is_wrong string_bytes c.args.command c.args.have c.args.words.now c.split_at.result.0.now c.args.i c.index-words-i.result c.as_bytes.result.now
    (slice_get_read c.args.words.now (length c.args.words.now) c.args.i c.index-words-i.result refl c.requires.inside c.index-words-i.is) c.split_at.ensures.front c.as_bytes.ensures.value
    c.if-not-is_right.ensures

pub returns : goal.returns
returns c =
    by_seeds string_bytes c.args.command c.args.have c.args.words.now c.split_at.result.0.now c.split_at-2.result.0.now c.args.i c.index-words-i.result c.as_bytes.result.now
    (slice_get_read c.args.words.now (length c.args.words.now) c.args.i c.index-words-i.result refl c.requires.inside c.index-words-i.is) c.split_at.ensures.front c.as_bytes.ensures.value
    c.split_at-2.ensures.front c.requires.right c.if-not-is_right.ensures c.are_seeds.result c.are_seeds.ensures
