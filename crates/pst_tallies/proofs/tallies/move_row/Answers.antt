use Rattle.std.proofs.Common.{arith}
use Rattle.pst_scen.specs.Rows.{Has}
use Rattle.pst_tallies.proofs.Moving.{words_start, words_more}
use Rattle.pst_tallies.proofs.tallies.move_row.Goals as goal

pub loop-place-init : goal.loop-place-init
loop-place-init c = words_start c.args.rows.now.size c.args.step (Has c.args.rows.now c.args.a) c.args.tally.now

pub loop-place-preserved : goal.loop-place-preserved
loop-place-preserved c =
    words_more c.args.rows.now c.args.a c.word_at.result c.loop-place.place c.args.step c.word_at.ensures c.args.tally.now c.loop-place.tally c.move_word.new.tally c.move_word.ensures c.loop-place.invariant

pub returns : goal.returns
returns c = λ m m_in. let past = c.loop-place-test.false in c.loop-place.invariant.done m m_in (omega (arith, m_in, past))
