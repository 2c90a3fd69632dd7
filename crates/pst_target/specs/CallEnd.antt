-- What the ways in which a call ends say of the count of faults.
use Rattle.std.specs.Prelude.{◌≡◌, ℕ, Result, Ok, Err}
use Rattle.pst_base.specs.Fault.{HasRisen}
use Rattle.pst_target.specs.declared.target.CallEnd.{CallEnd}
use Rattle.pst_target.specs.declared.target.CallEnd.TheVariants.{Failed, NoMemory}

-- the count rose where the call failed, and is as it was where it ended otherwise
abbrev pub CountsFault : {T : Type 0} → Result T CallEnd → ℕ → ℕ → Type 0
CountsFault (Ok _) old new = new ≡ old
CountsFault (Err Failed) old new = HasRisen old new
CountsFault (Err NoMemory) old new = new ≡ old
