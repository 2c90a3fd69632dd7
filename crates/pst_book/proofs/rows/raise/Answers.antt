use Rattle.std.proofs.Common.{◌+◌, ◌^◌, ◌<◌, sym, subst, arith}
use Rattle.pst_book.proofs.Parting.{words_none, raised_on, raised_skip}
use Rattle.pst_book.proofs.rows.raise.Goals as goal

pub words-init : goal.words-init
words-init c =
    let e = c.next_word-place.ensures in
    record {
      inside = e.inside.1;
      changed = raised_skip c.args.rows.now c.args.a 0 c.next_word-place.result e.inside.0 e.none c.args.counts.now c.args.counts.now (words_none _ c.args.counts.now);
    }

pub raise_word-requires-clause-room : goal.raise_word-requires-clause-room
raise_word-requires-clause-room c =
    λ m l e h. let n = c.words.auto.counts in let many = c.requires.many in
    subst (λ v. v + 1 < 2 ^ 32) (sym (c.words.invariant.changed.rest m (omega (arith, e)))) (c.requires.room m (omega (arith, l, n, many)) ((c.word_at.ensures m e).0 h))

pub words-preserved : goal.words-preserved
words-preserved c =
    let e = c.next_word-place-in-words.ensures in
    let old = c.args.counts.now in
    let new = c.raise_word.new.counts in
    record {
      inside = e.inside.1;
      changed = raised_skip c.args.rows.now c.args.a (c.words.place + 1) c.next_word-place-in-words.result e.inside.0 e.none old new
          (raised_on c.args.rows.now c.args.a c.word_at.result c.words.place c.word_at.ensures old c.words.counts new c.words.auto.counts c.raise_word.ensures c.words.invariant.changed);
    }

pub returns : goal.returns
returns c =
    let past = c.words-test.false in
    let many = c.requires.many in
    let i = c.words.invariant.changed in
    record {
      many = c.words.auto.counts;
      raised = λ m l h. (i.done m l (omega (arith, l, past, many))).raised h;
      same = λ m l h. (i.done m l (omega (arith, l, past, many))).same h;
    }
