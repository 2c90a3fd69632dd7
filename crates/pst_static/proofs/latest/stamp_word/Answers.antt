use Rattle.std.proofs.Common.{◌*◌, refl}
use Rattle.pst_static.proofs.Stamped.{stamped_word, stamped_whole}
use Rattle.pst_static.proofs.latest.stamp_word.Goals as goal

pub returns-then-is_full : goal.returns-then-is_full
returns-then-is_full c =
    let e = c.word_end-end.ensures in
    stamped_whole c.args.value c.args.word (c.args.place * 64) c.args.place c.word_end-end.result c.args.size c.args.places.now c.stamp_all.new.places refl e.short e.all c.requires.many (c.is_full.ensures.0 c.if-is_full.true) c.stamp_all.ensures

pub returns : goal.returns
returns c =
    let e = c.word_end-end.ensures in
    stamped_word c.args.value c.args.word (c.args.place * 64) c.args.place c.word_end-end.result c.args.size c.args.places.now c.stamp_part.new.places refl e.short e.all c.requires.many c.stamp_part.ensures
