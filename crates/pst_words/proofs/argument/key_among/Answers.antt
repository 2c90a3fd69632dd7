use Rattle.std.proofs.Common.{arith, refl, ap, sym, ◌∙◌, ◌≡◌, ◌<◌, ◌+◌, ℕ, List, Bool, true, false, nat_lt, length, get_or}
use Rattle.std.proofs.lemmas.Bool.Decides.{nat_tests}
use Rattle.std.proofs.lemmas.List.{get_or_default}
use Rattle.pst_words.specs.declared.key.Key.{Key}
use Rattle.pst_words.specs.declared.key.Key.TheVariants.{Root}
use Rattle.pst_words.specs.Lines.{is_of}
use Rattle.pst_words.proofs.argument.key_among.Goals as goal

one_more : (keys : List Key) (word : List ℕ) (i : ℕ) → i < length keys → ((k : ℕ) (d : Key) → k < i → is_of (get_or keys k d) word ≡ false) → is_of (get_or keys i Root) word ≡ false
    → (k : ℕ) (d : Key) → k < i + 1 → is_of (get_or keys k d) word ≡ false
one_more keys word i inside before here k d below = by_test (nat_lt k i) refl
  where
    by_test : (b : Bool) → nat_lt k i ≡ b → is_of (get_or keys k d) word ≡ false
    by_test true e = before k d (grind (arith, nat_tests, e))
    by_test false e =
        let same : k ≡ i = grind (arith, nat_tests, e, below) in
        ap (λ (j : ℕ). is_of (get_or keys j d) word) same ∙ ap (λ (x : Key). is_of x word) (get_or_default keys i d Root inside) ∙ here

pub loop-i-preserved : goal.loop-i-preserved
loop-i-preserved c = one_more c.args.keys.now c.args.word.now c.loop-i.i c.loop-i-test.true c.loop-i.invariant (sym c.if-gives.ensures)
