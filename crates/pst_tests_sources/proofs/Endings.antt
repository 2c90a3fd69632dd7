-- Lists of tokens that end with `End`.
use Rattle.std.proofs.Common.{◌≡◌, ◌<◌, List, [], ◌∷◌, ◌++◌, length, length-append, ap, arith}
use Rattle.pst_token.specs.declared.kind.Kind.TheVariants as kind
use Rattle.pst_token.specs.declared.token.Token.{Token}
use Rattle.pst_token.specs.Laws.{EndsOnce}
use Rattle.pst_reading.specs.Ended.{IsEnded}

pub ended : (ts : List Token) → EndsOnce ts → IsEnded ts
ended ts h = record { before_end = h.before_end; last = h.last; all = h.all; is_end = h.is_end }

pub inside : (ts : List Token) → EndsOnce ts → 0 < length ts
inside ts h = omega (arith, ap length h.all, length-append h.before_end (h.last ∷ []))
