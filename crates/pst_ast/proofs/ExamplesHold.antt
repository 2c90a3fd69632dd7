-- Trees at the limits, and trees that are not proper.
use Rattle.std.proofs.Common.{◌≡◌, true, false, refl, ap, arith}
use Rattle.pst_token.specs.declared.token.Token.{Token}
use Rattle.pst_token.specs.declared.kind.Kind.TheVariants as kind
use Rattle.pst_ast.specs.Examples.{NestingIsLimited, OperatorsAreLimited, OperatorsGroup, ElseBelongsToNearest, UnitsEndWithEnd}

pub nesting_is_limited : NestingIsLimited
nesting_is_limited = (refl, refl, refl, refl, refl, refl, refl, refl, refl)

pub operators_are_limited : OperatorsAreLimited
operators_are_limited = (refl, refl, refl, refl, refl, refl, refl)

pub operators_group : OperatorsGroup
operators_group = (λ h. omega (arith, h.3), λ h. omega (arith, h.2), λ h. omega (arith, h.3), λ h. omega (arith, h.2), λ h. omega (arith, h.3), λ h. omega (arith, h.2), ((tt, tt, omega arith, omega arith), tt, omega arith, omega arith), ((tt, (tt, tt), omega arith), (tt, tt), omega arith))

apart : true ≡ false → ⊥
apart e = absurd cc

pub else_belongs : ElseBelongsToNearest
else_belongs = (λ h. apart h.3, λ h. apart h.1.3, λ h. apart h.3, λ h. apart h.3, λ h. apart h.3, λ h. apart h.3, λ h. apart h.3, λ h. apart h.3, λ h. apart h.3, λ h. apart h.3, (tt, (tt, tt, tt, refl), tt, refl))

other_kinds : kind.Semicolon ≡ kind.End → ⊥
other_kinds e = absurd cc

pub units_end : UnitsEndWithEnd
units_end = (λ h. other_kinds (ap (λ (t : Token). t.kind) h.1), (tt, refl))
