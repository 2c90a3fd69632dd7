-- The order of places in the sources.
use Rattle.std.specs.Prelude.{◌≡◌, ◌<◌, ◌⊎◌}
use Rattle.pst_base.specs.declared.position.Place.{Place}

-- in an earlier file, or on an earlier line of the same one, or at an earlier column of that
abbrev pub IsBefore : Place → Place → Type 0
IsBefore p q =
    (p.file < q.file) ⊎ ((p.file ≡ q.file) × ((p.line < q.line) ⊎ ((p.line ≡ q.line) × (p.column < q.column))))
