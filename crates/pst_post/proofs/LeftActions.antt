-- The actions in the words of a table that was closed, read one after another.
use Rattle.std.proofs.Common.{◌≡◌, ℕ, ◌+◌, ◌<◌, ◌≤◌, List, length, get_or, set, Option, None, sym, ap, ◌∙◌, arith, length-set, get_or-set_other, get_or-set_same}
use mathlib.Core.Option.{some}
use lib.ListN.{get_elem?}
use Rattle.pst_post.specs.Rule.{word_of}
use Rattle.pst_post.proofs.Lists.{here_or_else, get_or-there}

-- the words below i stand for these actions, and from i on there are none
pub record AreRead (words : List ℕ) (actions : List (Option ℕ)) (i : ℕ) : Type 0 where
  pub size : length actions ≡ 16
  pub read : (k : ℕ) → k < i → get_or words k 0 ≡ word_of (get_or actions k None)
  pub unread : (k : ℕ) → i ≤ k → get_or actions k None ≡ None

pub reads_one : (words : List ℕ) (actions : List (Option ℕ)) (i w : ℕ) (o : Option ℕ) → i < 16 → get_elem? words i ≡ some w → w ≡ word_of o → AreRead words actions i → AreRead words (set actions i o) (i + 1)
reads_one words actions i w o small there is r = record {
  size = length-set actions i o ∙ r.size;
  read = λ k below. here_or_else (λ j. j < i + 1 → get_or words j 0 ≡ word_of (get_or (set actions i o) j None)) i k
      (λ _. get_or-there words i w 0 there ∙ (is ∙ ap word_of (sym (get_or-set_same actions i o None (omega (arith, r.size))))))
      (λ other _. r.read k (omega arith) ∙ ap word_of (sym (get_or-set_other actions i k o None other)))
      below;
  unread = λ k above. get_or-set_other actions i k o None (λ e. omega arith) ∙ r.unread k (omega arith);
}
