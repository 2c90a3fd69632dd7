-- What the ways in which a reading ends say of the shelf.
use Rattle.std.specs.Prelude.{◌≡◌, ℕ, Result, Ok, Err}
use Rattle.pst_base.specs.Fault.{HasRisen}
use Rattle.pst_io.specs.declared.whole.ReadEnd.{ReadEnd}
use Rattle.pst_io.specs.declared.whole.ReadEnd.TheVariants.{Failed, TooLong, NoMemory}

-- the count rose where the reading failed, and is as it was where it ended otherwise
abbrev pub CountsFault : {T : Type 0} → Result T ReadEnd → ℕ → ℕ → Type 0
CountsFault (Ok _) old new = new ≡ old
CountsFault (Err Failed) old new = HasRisen old new
CountsFault (Err TooLong) old new = new ≡ old
CountsFault (Err NoMemory) old new = new ≡ old
