-- Bounds of standings.
use Rattle.std.proofs.Common.{◌≡◌, ℤ, pos, Option, Some, None, refl, sym, subst, arith}
use Rattle.std.proofs.lemmas.Int.{ints}
use Rattle.std.proofs.lemmas.Option.{none-some}
use Rattle.pst_expr.specs.declared.ranges.Span.{Span}
use Rattle.pst_domain.specs.Bounds.{Holds, IsInside}
use Rattle.pst_scen.specs.declared.act.Link.{Link}
use Rattle.pst_scen.specs.declared.act.Link.TheVariants as link
use Rattle.pst_legal.specs.Blanks.{Blank}
use Rattle.pst_legal.specs.Standing.{Standing, Known, bound_of, value_or, open_value, unread, unread_truth}
use Rattle.pst_legal.specs.Slots.{is_source_first}
use Rattle.pst_built.specs.Known.{Narrower, Allows}

inside_self : (r : Option Span) → IsInside r r
inside_self None = tt
inside_self (Some s) = (omega (arith, ints), omega (arith, ints))

pub narrower_self : (x : Standing) → Narrower x x
narrower_self x = inside_self (bound_of x)

inside_then : (a b c : Option Span) → IsInside a b → IsInside b c → IsInside a c
inside_then None b c h k = tt
inside_then (Some s) None c h k = absurd h
inside_then (Some s) (Some t) None h k = absurd k
inside_then (Some s) (Some t) (Some u) h k = (omega (arith, ints, h.0, k.0), omega (arith, ints, h.1, k.1))

pub narrower_then : (x y z : Standing) → Narrower x y → Narrower y z → Narrower x z
narrower_then x y z one other = inside_then (bound_of x) (bound_of y) (bound_of z) one other

held_inside : (o : Option Span) (v : ℤ) → Holds o (Some v) → IsInside (Some (record { low = v; high = v })) o
held_inside None v h = absurd h
held_inside (Some s) v h = (h.0, h.1)

-- a value that is read lies in the bounds, and stays
pub value_inside : (inner outer : Standing) → Narrower inner outer → (a b : Option ℤ) → ((v : ℤ) → a ≡ Some v → b ≡ Some v) → ((v : ℤ) → b ≡ Some v → Allows (bound_of outer) v)
    → Narrower (value_or b inner) (value_or a outer)
value_inside inner outer narrower None None keeps allows = narrower
value_inside inner outer narrower None (Some v) keeps allows = held_inside (bound_of outer) v (allows v refl)
value_inside inner outer narrower (Some w) b keeps allows = subst (λ o. Narrower (value_or o inner) (Known w)) (sym (keeps w refl)) (narrower_self (Known w))

-- ---- a blank, and one whose place isn't known

open_inside : (b c : Blank) (span : Option Span) → Narrower (open_value b span) (open_value c span)
open_inside b c None = tt
open_inside b c (Some s) = inside_self (Some s)

open_unread : (b : Blank) (span : Option Span) → Narrower (open_value b span) (unread span)
open_unread b None = tt
open_unread b (Some s) = inside_self (Some s)

open_allows : (b : Blank) (span : Option Span) (v : ℤ) → Allows span v → Allows (bound_of (open_value b span)) v
open_allows b None v h = h
open_allows b (Some s) v h = h

unread_allows : (span : Option Span) (v : ℤ) → Allows span v → Allows (bound_of (unread span)) v
unread_allows None v h = h
unread_allows (Some s) v h = h

-- more is known of a blank
pub blank_inside : (b c : Blank) (span : Option Span) (old new : Option ℤ) → ((v : ℤ) → old ≡ Some v → new ≡ Some v) → ((v : ℤ) → new ≡ Some v → Allows span v)
    → Narrower (value_or new (open_value b span)) (value_or old (open_value c span))
blank_inside b c span old new keeps allows =
    value_inside (open_value b span) (open_value c span) (open_inside b c span) old new keeps (λ v e. open_allows c span v (allows v e))

-- a blank where even its place wasn't known
pub blank_known : (b : Blank) (span : Option Span) (new : Option ℤ) → ((v : ℤ) → new ≡ Some v → Allows span v) → Narrower (value_or new (open_value b span)) (unread span)
blank_known b span new allows = value_inside (open_value b span) (unread span) (open_unread b span) None new (λ v e. absurd (none-some v e)) (λ v e. unread_allows span v (allows v e))

-- a value of a compound action
pub unread_inside : (span : Option Span) (old new : Option ℤ) → ((v : ℤ) → old ≡ Some v → new ≡ Some v) → ((v : ℤ) → new ≡ Some v → Allows span v)
    → Narrower (value_or new (unread span)) (value_or old (unread span))
unread_inside span old new keeps allows = value_inside (unread span) (unread span) (narrower_self (unread span)) old new keeps (λ v e. unread_allows span v (allows v e))

pub unread_known : (span : Option Span) (new : Option ℤ) → ((v : ℤ) → new ≡ Some v → Allows span v) → Narrower (value_or new (unread span)) (unread span)
unread_known span new allows = unread_inside span None new (λ v e. absurd (none-some v e)) allows

-- ---- `initial`, as long as the source isn't known

pub from_open : (to : Link) → Narrower (is_source_first to) unread_truth
from_open link.Nothing = narrower_self unread_truth
from_open link.Initial = (omega (arith, ints), omega (arith, ints))
from_open (link.Act b q) = (omega (arith, ints), omega (arith, ints))

pub never_first : Narrower (Known (pos 0)) unread_truth
never_first = (omega (arith, ints), omega (arith, ints))
