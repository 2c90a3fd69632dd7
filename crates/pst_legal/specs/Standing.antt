-- What a slot of a constraint stands for, in a scenario that is read or still being read.
-- What isn't known while a scenario is still being read is this project's own.
use Rattle.std.specs.Prelude.{ℕ, ℤ, pos, List, [], ◌∷◌, Option, Some, None}
use Rattle.pst_expr.specs.declared.ranges.Span.{Span}
use Rattle.pst_model.specs.declared.action.Field.{Field}
use Rattle.pst_legal.specs.Blanks.{Blank, domain_in}

-- A value; nothing that ever has a value; a value of the span that is still to be read, and which; or a value of the span of
-- which even the place isn't known, because its action, its source or a field of a compound action isn't read yet. In a
-- scenario that is read through its sources no slot is of the last kind, and in one that is read whole none is open.
pub data Standing : Type 0 where
  Known : (v : ℤ) → Standing
  Lacking : Standing
  Open : (blank : Blank) → (span : Span) → Standing
  Unread : (span : Span) → Standing

abbrev pub value_of : Standing → Option ℤ
value_of (Known v) = Some v
value_of _ = None

abbrev pub bound_of : Standing → Option Span
bound_of (Known v) = Some (record { low = v; high = v })
bound_of Lacking = None
bound_of (Open blank span) = Some span
bound_of (Unread span) = Some span

-- a value that has been read, or else what stands there
abbrev pub value_or : Option ℤ → Standing → Standing
value_or None other = other
value_or (Some v) other = Known v

abbrev pub open_value : Blank → Option Span → Standing
open_value blank None = Lacking
open_value blank (Some span) = Open blank span

abbrev pub unread : Option Span → Standing
unread None = Lacking
unread (Some span) = Unread span

-- 0 or 1, it isn't known which
abbrev pub unread_truth : Standing
unread_truth = Unread (record { low = pos 0; high = pos 1 })

abbrev pub number_or_lacking : Option ℕ → Standing
number_or_lacking None = Lacking
number_or_lacking (Some n) = Known (pos n)

-- ---- from the least to the greatest value of a domain

-- the high of the last span, or this one
abbrev pub last_high : ℤ → List Span → ℤ
last_high high [] = high
last_high high (span ∷ spans) = last_high span.high spans

abbrev pub hull : List Span → Option Span
hull [] = None
hull (span ∷ spans) = Some (record { low = span.low; high = last_high span.high spans })

abbrev pub field_span : Option Field → Option Span
field_span field = hull (domain_in field)
