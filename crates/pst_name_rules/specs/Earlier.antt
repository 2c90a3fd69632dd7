-- The earlier of two breaches.
use Rattle.std.specs.Prelude.{nat_eq, nat_lt, nat_le, Bool, if◌then◌else◌, Option, Some, None}
use Rattle.pst_ast.specs.declared.referent.Finding.{Finding}

-- at an earlier place, or at the same one by no greater rule
abbrev pub is_no_later : Finding → Finding → Bool
is_no_later a b =
    if nat_eq a.place.file b.place.file
    then (if nat_eq a.place.line b.place.line
    then (if nat_eq a.place.column b.place.column then nat_le a.rule b.rule else nat_lt a.place.column b.place.column)
    else nat_lt a.place.line b.place.line)
    else nat_lt a.place.file b.place.file

abbrev pub earlier : Option Finding → Option Finding → Option Finding
earlier None b = b
earlier (Some a) None = Some a
earlier (Some a) (Some b) = if is_no_later a b then Some a else Some b
