use Rattle.std.proofs.Common.{◌*◌, refl, arith}
use Rattle.pst_book.proofs.Parting.{raised_word, in_word}
use Rattle.pst_book.proofs.rows.raise_word.Goals as goal

pub raise_part-requires-clause-room : goal.raise_part-requires-clause-room
raise_part-requires-clause-room c =
    λ m l k h.
    let e = c.word_end.ensures in
    let w = in_word c.args.word (c.args.place * 64) c.args.place m refl l (let s = e.short in omega (arith, k, s)) in
    c.requires.room m (let s = e.inside.1 in let n = c.requires.many in omega (arith, k, s, n)) w.0 (w.1 h)

pub returns : goal.returns
returns c =
    let e = c.word_end.ensures in
    raised_word c.args.word (c.args.place * 64) c.args.place c.word_end.result c.args.size c.args.counts.now c.raise_part.new.counts refl e.short e.all c.requires.many c.raise_part.ensures
