-- Locals that are numbered in order of declaration, and aren't too many.
use Rattle.std.specs.Prelude.{ℕ, ◌+◌, List, [], ◌∷◌, Option, Some, None, ◌&&◌, nat_eq, nat_lt, if◌then◌else◌}
use Rattle.pst_model.specs.Limits.{most_locals}

-- the next number behind a local, none where it doesn't have the next number or is one too many
abbrev pub behind_local : Option ℕ → ℕ → Option ℕ
behind_local None local = None
behind_local (Some next) local = if nat_eq local next && nat_lt next most_locals then Some (next + 1) else None

-- the next number behind locals
abbrev pub behind_locals : Option ℕ → List ℕ → Option ℕ
behind_locals next [] = next
behind_locals next (local ∷ more) = behind_locals (behind_local next local) more
