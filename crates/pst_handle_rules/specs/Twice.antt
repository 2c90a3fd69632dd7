-- Ends that are tied twice.
use Rattle.std.specs.Prelude.{ℕ, ◌≡◌, ◌⊎◌, ◌<◌, List, Bool, true, false, IsTrue, Option, Some, None, slice_get, if◌then◌else◌}
use Rattle.std.specs.HashMap.{HashMap, get}
use Rattle.std.specs.Option.{option_or}
use Rattle.pst_ast.specs.declared.referent.Finding.{Finding}
use Rattle.pst_type_rules.specs.Binds.{IsSameEnd}
use Rattle.pst_handle_uses.specs.declared.handle_use.Tied.{Tied}
use Rattle.pst_handle_rules.specs.declared.end_key.Side.{Side}
use Rattle.pst_handle_rules.specs.declared.end_key.Side.TheVariants as side
use Rattle.pst_handle_rules.specs.declared.end_key.EndKey.{EndKey}
use Rattle.pst_handle_rules.specs.EndKeys.{end_of, key_of, same_key}

-- one of the first n pairs has that end too, in the same activity
pub record HasSame (side : Side) (ties : List Tied) (n : ℕ) (tie : Tied) : Type 0 where
  pub number : ℕ
  pub earlier : Tied
  pub before : number < n
  pub there : slice_get ties number ≡ Some earlier
  pub owner : earlier.owner ≡ tie.owner
  pub end : IsSameEnd (end_of side earlier) (end_of side tie)

-- a pair binds an input again, or the output of a stream
abbrev pub IsTiedTwice : List Tied → ℕ → Tied → Type 0
IsTiedTwice ties n tie = HasSame side.Other ties n tie ⊎ (IsTrue tie.stream × HasSame side.First ties n tie)

abbrev pub twice_at : Tied → Finding
twice_at tie = record { place = tie.other.handle.place; rule = 20 }

-- the n-th pair does, which is found at its other end
abbrev pub IsTwiceAt : List Tied → ℕ → Finding → Type 0
IsTwiceAt ties n f = (tie : Tied) × (slice_get ties n ≡ Some tie) × IsTiedTwice ties n tie × (f ≡ twice_at tie)

-- one of the first n pairs does
abbrev pub IsTwiceBefore : List Tied → ℕ → Finding → Type 0
IsTwiceBefore ties n f = (k : ℕ) × (k < n) × IsTwiceAt ties k f

-- ---- the number of the first pair of each key

abbrev pub or_number : Option ℕ → Bool → ℕ → Option ℕ
or_number found next number = option_or found (if next then Some number else None)

-- of the first n pairs none has the key, or that one
abbrev pub IsFirst : Side → List Tied → ℕ → EndKey → Option ℕ → Type 0
IsFirst side ties n key None = (k : ℕ) (tie : Tied) → k < n → slice_get ties k ≡ Some tie → same_key key (key_of side tie) ≡ false
IsFirst side ties n key (Some k) = (tie : Tied) × (k < n) × (slice_get ties k ≡ Some tie) × (same_key key (key_of side tie) ≡ true)

abbrev pub AreFirsts : {S : Type 0} → Side → List Tied → ℕ → HashMap EndKey ℕ S → Type 0
AreFirsts side ties n numbers = (key : EndKey) → IsFirst side ties n key (get same_key numbers key)
