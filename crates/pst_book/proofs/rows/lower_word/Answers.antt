use Rattle.std.proofs.Common.{◌*◌, refl, arith}
use Rattle.pst_book.proofs.Parting.{lowered_word, in_word}
use Rattle.pst_book.proofs.rows.lower_word.Goals as goal

pub lower_part-requires-clause-some : goal.lower_part-requires-clause-some
lower_part-requires-clause-some c =
    λ m l k h.
    let e = c.word_end.ensures in
    let w = in_word c.args.word (c.args.place * 64) c.args.place m refl l (let s = e.short in omega (arith, k, s)) in
    c.requires.some m (let s = e.inside.1 in let n = c.requires.many in omega (arith, k, s, n)) w.0 (w.1 h)

pub returns : goal.returns
returns c =
    let e = c.word_end.ensures in
    lowered_word c.args.word (c.args.place * 64) c.args.place c.word_end.result c.args.size c.args.counts.now c.lower_part.new.counts refl e.short e.all c.requires.many c.lower_part.ensures
