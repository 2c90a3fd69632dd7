use Rattle.std.proofs.Common.{◌≡◌, ◌⊎◌, ◌<◌, ◌≤◌, ℕ, length, get_or}
use Rattle.pst_square.proofs.square.fill_words.Given as goal

abbrev pub invariant-loop-i : goal.invariant-loop-i
invariant-loop-i l = record {
  many : length l.words ≡ length l.initial.words;
  filled : (i : ℕ) → l.from ≤ i → i < l.i → get_or l.words i 0 ≡ 18446744073709551615;
  others : (i : ℕ) → (i < l.from) ⊎ (l.i ≤ i) → get_or l.words i 0 ≡ get_or l.initial.words i 0;
}
