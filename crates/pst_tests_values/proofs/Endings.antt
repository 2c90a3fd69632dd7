-- Lists of tokens that end with `End`.
use Rattle.std.proofs.Common.{◌≡◌, ◌<◌, List, [], ◌∷◌, ◌++◌, length, length-append, ap, arith}
use Rattle.pst_token.specs.declared.kind.Kind.TheVariants as kind
use Rattle.pst_token.specs.declared.token.Token.{Token}
use Rattle.pst_reading.specs.Ended.{IsEnded}

pub ended_push : (ts us : List Token) (t : Token) → t.kind ≡ kind.End → us ≡ ts ++ t ∷ [] → IsEnded us
ended_push ts us t e f = record { before_end = ts; last = t; all = f; is_end = e }

pub ended_inside : (ts : List Token) → IsEnded ts → 0 < length ts
ended_inside ts h = omega (arith, ap length h.all, length-append h.before_end (h.last ∷ []))
