-- What a loop of reads has done so far.
use Rattle.std.proofs.Common.{◌≡◌, ◌∙◌, ℕ, ◌+◌, ◌-◌, ◌≤◌, List, [], ◌++◌, length, take, drop, refl, ap, append_assoc, arith, length-drop, length-take, length-append}
use Rattle.std.proofs.Math.Seq.{take-add}
use Rattle.std.proofs.lemmas.List.{take-append-le, take_all, drop-drop}
use Rattle.std.specs.Prelude.{Option, None, Some}
use Rattle.std.specs.Option.{ForSome, option_map}
use Rattle.pst_io.specs.Shelf.{MovesFront, HasTaken}

-- what a loop of reads keeps: what it has taken, and all else as it was
pub record KeepsReading (F : Type 0) (files_before files_after : F) (faults_before faults_after : ℕ) (before after : Option (List ℕ)) (old new : List ℕ) (start now : ℕ) : Type 0 where
  pub files : files_after ≡ files_before
  pub faults : faults_after ≡ faults_before
  pub taken : HasTaken before after old new
  pub start_is : start ≡ length old
  pub now_is : now ≡ length new

-- where nothing is left, what was taken is all that was left at first
pub taken-whole : (before after : Option (List ℕ)) (old new : List ℕ) → HasTaken before after old new → ForSome after (λ left. left ≡ []) → ForSome before (λ left. new ≡ old ++ left)
taken-whole before after old new h end left told =
    let k = length new - length old in
    let now : after ≡ Some (drop k left) = h.rest ∙ ap (option_map (drop k)) told in
    let short : length left ≤ k = omega (arith, length-drop k left, ap length (end (drop k left) now)) in
    h.taken left told ∙ ap (λ part. old ++ part) (take_all k left short)

-- the first n bytes of the piece are the next ones
piece-front : (left old new : List ℕ) (n : ℕ) → MovesFront left old new n → take n new ≡ take n left
piece-front left old new n h =
    let all : length (take n left) ≡ n = simp length-take (omega (arith, h.there)) in
    ap (take n) h.piece ∙ take-append-le n (take n left) (drop n old) (omega arith) ∙ take_all n (take n left) (omega arith)

-- a further read
pub taken-more : (before mid after : Option (List ℕ)) (old new : List ℕ) (n : ℕ) (piece_old piece : List ℕ) → HasTaken before mid old new → n ≤ length piece → ForSome mid (λ left. MovesFront left piece_old piece n) → after ≡ option_map (drop n) mid → HasTaken before after old (new ++ take n piece)
taken-more before mid after old new n piece_old piece h fits moved rest =
    let k = length new - length old in
    let grown : length (new ++ take n piece) ≡ length new + n = simp (length-append, length-take) (omega arith) in
    let count : length (new ++ take n piece) - length old ≡ k + n = omega (arith, grown, h.longer) in
    let now : (left : List ℕ) → before ≡ Some left → mid ≡ Some (drop k left) = λ left told. h.rest ∙ ap (option_map (drop k)) told in
    record {
      longer = omega (arith, grown, h.longer);
      taken = λ left told. rw (count, take-add k n left) (ap (λ part. part ++ take n piece) (h.taken left told) ∙ append_assoc old (take k left) (take n piece) ∙ ap (λ part. old ++ (take k left ++ part)) (piece-front (drop k left) piece_old piece n (moved (drop k left) (now left told))));
      there = λ left told. rw count (omega (arith, (moved (drop k left) (now left told)).there, length-drop k left, h.there left told));
      rest = rw count (rest ∙ ap (option_map (drop n)) h.rest ∙ drop-twice k n before);
    }
  where
    drop-twice : (k n : ℕ) (known : Option (List ℕ)) → option_map (drop n) (option_map (drop k) known) ≡ option_map (drop (k + n)) known
    drop-twice k n None = refl
    drop-twice k n (Some xs) = ap Some (drop-drop n k xs)
