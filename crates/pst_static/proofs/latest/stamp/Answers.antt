use Rattle.std.proofs.Common.{◌+◌, arith}
use Rattle.pst_book.proofs.Parting.{words_none}
use Rattle.pst_static.proofs.Stamped.{stamped_on, stamped_skip}
use Rattle.pst_static.proofs.latest.stamp.Goals as goal

pub words-init : goal.words-init
words-init c =
    let e = c.next_word-place.ensures in
    record {
      inside = e.inside.1;
      changed = stamped_skip c.args.rows.now c.args.a c.args.value 0 c.next_word-place.result e.inside.0 e.none c.args.places.now c.args.places.now (words_none _ c.args.places.now);
    }

pub words-preserved : goal.words-preserved
words-preserved c =
    let e = c.next_word-place-in-words.ensures in
    let old = c.args.places.now in
    let new = c.stamp_word.new.places in
    record {
      inside = e.inside.1;
      changed = stamped_skip c.args.rows.now c.args.a c.args.value (c.words.place + 1) c.next_word-place-in-words.result e.inside.0 e.none old new
          (stamped_on c.args.rows.now c.args.a c.args.value c.word_at.result c.words.place c.word_at.ensures old c.words.places new c.words.auto.places c.stamp_word.ensures c.words.invariant.changed);
    }

pub returns : goal.returns
returns c =
    let past = c.words-test.false in
    let many = c.requires.many in
    let i = c.words.invariant.changed in
    record {
      many = c.words.auto.places;
      stamped = λ m l h. (i.done m l (omega (arith, l, past, many))).stamped h;
      same = λ m l h. (i.done m l (omega (arith, l, past, many))).same h;
    }
