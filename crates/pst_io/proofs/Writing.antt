-- What a loop of writes has done so far.
use Rattle.std.proofs.Common.{◌≡◌, ◌∙◌, ℕ, ◌+◌, ◌≤◌, List, ◌++◌, length, take, drop, refl, ap, append_assoc, sym}
use Rattle.std.proofs.Math.Seq.{take-add}
use Rattle.std.specs.Prelude.{Option, None, Some}
use Rattle.std.specs.Io.KnownBytes.{append_known}

-- the first `done` bytes of the text are written, and there is room for the others
pub record HasWritten (text : List ℕ) (done : ℕ) (before after : Option (List ℕ)) (room_before room_after : ℕ) : Type 0 where
  pub within : done ≤ length text
  pub written : after ≡ append_known before (take done text)
  pub room : room_before ≤ room_after + done
  pub enough : length text ≤ room_after + done

-- two pieces appended in turn are their list appended
pub append_known-twice : (known : Option (List ℕ)) (a b : List ℕ) → append_known (append_known known a) b ≡ append_known known (a ++ b)
append_known-twice None a b = refl
append_known-twice (Some xs) a b = ap Some (append_assoc xs a b)

-- a part of the text, and the next bytes of what is left of it
pub append_known-more : (known : Option (List ℕ)) (text : List ℕ) (i n : ℕ) → append_known (append_known known (take i text)) (take n (drop i text)) ≡ append_known known (take (i + n) text)
append_known-more known text i n = append_known-twice known (take i text) (take n (drop i text)) ∙ ap (append_known known) (sym (take-add i n text))
