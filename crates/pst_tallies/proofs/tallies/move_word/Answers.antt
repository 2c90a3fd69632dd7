use Rattle.std.proofs.Common.{refl}
use Rattle.pst_tallies.proofs.Moving.{moved_none, moved_whole, moved_part}
use Rattle.pst_tallies.proofs.tallies.move_word.Goals as goal

pub returns-then-word-eq0 : goal.returns-then-word-eq0
returns-then-word-eq0 c = moved_none c.args.size c.args.step c.args.word c.args.place c.args.tally.now c.if-word-eq0.true

pub returns-then-is_full : goal.returns-then-is_full
returns-then-is_full c =
    moved_whole c.args.size c.args.step c.args.word c.args.place c.args.tally.now c.move_at.new.tally c.requires.many (c.is_full.ensures.0 c.if-is_full.true) c.move_at.ensures.here c.move_at.ensures.others

pub returns : goal.returns
returns c =
    let e = c.word_end.ensures in
    moved_part c.args.size c.args.step c.args.word c.args.place c.args.tally.now c.move_part.new.tally c.requires.many _ c.word_end.result refl e.short e.inside.1 e.all c.move_part.ensures
