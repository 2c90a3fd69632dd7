-- What a walk over the paths in an expression shows.
use Rattle.std.specs.Prelude.{Bool, true, false, if◌then◌else◌}
use Rattle.pst_ast.specs.Uses.{Use, Reads, TakesItem}

abbrev pub is_path : Use → Bool
is_path (Reads at first rest) = true
is_path (TakesItem at component enum item) = true
is_path _ = false

-- a step by a path alone
abbrev pub by_paths : {V : Type 0} → (V → Use → V) → V → Use → V
by_paths step v u = if is_path u then step v u else v
