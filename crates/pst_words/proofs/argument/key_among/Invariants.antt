use Rattle.std.proofs.Common.{◌≡◌, ◌<◌, ℕ, false, slice_index_or}
use Rattle.pst_words.specs.declared.key.Key.{Key}
use Rattle.pst_words.specs.Lines.{is_of}
use Rattle.pst_words.proofs.argument.key_among.Given as goal

abbrev pub invariant-loop-i : goal.invariant-loop-i
invariant-loop-i l = (k : ℕ) (d : Key) → k < l.i → is_of (slice_index_or l.keys k d) l.word ≡ false
