-- Where `End` stands in the tokens of units.
use Rattle.pst_reading.proofs.Whole.{NoEnd}
use Rattle.pst_token.specs.declared.kind.Kind.TheVariants as kind
use Rattle.pst_token.specs.declared.token.Token.{Token}
use Rattle.std.proofs.Common.{arith, ◌≡◌, List, [], ◌∷◌, ◌++◌, length, length-append, ap, sym, ◌∙◌}

first_same : (x y : Token) (xs ys : List Token) → x ∷ xs ≡ y ∷ ys → x ≡ y
first_same x y xs ys e = cc

others_same : (x y : Token) (xs ys : List Token) → x ∷ xs ≡ y ∷ ys → xs ≡ ys
others_same x y xs ys e = cc

-- nothing stands behind an `End` where only the last token may be one
pub nothing_behind : (front : List Token) (finish : Token) (rest before : List Token) (last : Token) → (front ++ finish ∷ []) ++ rest ≡ before ++ last ∷ [] → finish.kind ≡ kind.End → NoEnd before → rest ≡ []
nothing_behind [] finish rest [] last e f free = others_same finish last rest [] e
nothing_behind [] finish rest (b ∷ before) last e f free = absurd (free.0 (sym (ap (λ (t : Token). t.kind) (first_same finish b rest (before ++ last ∷ []) e)) ∙ f))
nothing_behind (x ∷ front) finish rest [] last e f free = absurd (omega (arith, ap length e, length-append (front ++ finish ∷ []) rest, length-append front (finish ∷ [])))
nothing_behind (x ∷ front) finish rest (b ∷ before) last e f free = nothing_behind front finish rest before last (others_same x b ((front ++ finish ∷ []) ++ rest) (before ++ last ∷ []) e) f free.1
