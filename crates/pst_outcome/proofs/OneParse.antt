-- Sources have units, or a first fault.
use Rattle.std.proofs.Common.{◌≡◌, ◌∙◌, ℕ, zero, suc, ◌-◌, ◌<◌, ◌⊎◌, inl, inr, Bool, true, false, List, [], ◌∷◌, ◌++◌, length, take, drop, refl, ap, sym, subst, arith}
use Rattle.std.specs.Prelude.{Some, None, pos, slice_get}
use Rattle.std.proofs.lemmas.List.{take_all, take-append-drop}
use Rattle.pst_base.specs.declared.position.Place.{Place}
use Rattle.pst_token.specs.declared.kind.Kind.TheVariants as kind
use Rattle.pst_token.specs.declared.token.Token.{Token}
use Rattle.pst_token.specs.Tokens.{token_of}
use Rattle.pst_ast.specs.Answers.{IsWhole, IsFault, through}
use Rattle.pst_ast.specs.DeclarationTree.{UnitTree, MakeUnit}
use Rattle.pst_ast.specs.Laws.{AtMostOneTree, AnswersAgree}
use Rattle.pst_ast.specs.Rule.{TheUnit}
use Rattle.pst_sources_read.specs.Parsed.{AreParsed, HasSyntaxFault, syntax_fault}
use Rattle.pst_outcome.proofs.OneReading.{tri, inside, below}

-- sources have one list of units
pub one_units : AtMostOneTree TheUnit → (tokens : List (List Token)) (us vs : List UnitTree) → AreParsed tokens us → AreParsed tokens vs → us ≡ vs
one_units at_most [] [] [] h k = refl
one_units at_most [] [] (v ∷ vs) h k = absurd k
one_units at_most [] (u ∷ us) vs h k = absurd h
one_units at_most (t ∷ tokens) [] vs h k = absurd h
one_units at_most (t ∷ tokens) (u ∷ us) [] h k = absurd k
one_units at_most (t ∷ tokens) (u ∷ us) (v ∷ vs) h k =
    let here : u ≡ v = at_most u v h.0.proper k.0.proper (h.0.spelled ∙ sym k.0.spelled) in
    let rest : us ≡ vs = one_units at_most tokens us vs h.1 k.1 in
    cc

-- a source before the end of those that are units is one
parsed_there : (tokens : List (List Token)) (n m : ℕ) (source : List Token) (units : List UnitTree) → n < m → slice_get tokens n ≡ Some source → AreParsed (take m tokens) units → (unit : UnitTree) × IsWhole source unit
parsed_there tokens n zero source units low there h = absurd (omega (arith, low))
parsed_there [] zero (suc m) source units low there h = absurd (cc)
parsed_there [] (suc n) (suc m) source units low there h = absurd (cc)
parsed_there (t ∷ tokens) n (suc m) source [] low there h = absurd h
parsed_there (t ∷ tokens) zero (suc m) source (u ∷ units) low there h = (u, subst (λ ts. IsWhole ts u) (inside there) h.0)
parsed_there (t ∷ tokens) (suc n) (suc m) source (u ∷ units) low there h = parsed_there tokens n m source units (omega (arith, low)) there h.1

-- the tokens up to one and with it, and those behind
parted : (tokens : List Token) (k : ℕ) → tokens ≡ through tokens 0 k ++ drop (suc k) tokens
parted tokens k =
    let same : suc k - 0 ≡ suc k = omega arith in
    sym (take-append-drop (suc k) tokens) ∙ ap (λ n. take n tokens ++ drop (suc k) tokens) (sym same)

pub no_unit_faulty : (tokens : List Token) (unit : UnitTree) (deep : Bool) (index : ℕ) → IsWhole tokens unit → IsFault TheUnit tokens 0 0 (syntax_fault deep index) → ⊥
no_unit_faulty tokens unit false index whole fault = fault.here (unit, drop (suc index) tokens, whole.proper, whole.spelled ∙ parted tokens index)
no_unit_faulty tokens unit true index whole fault =
    let over = fault.first unit (drop (suc index) tokens) whole.proper (whole.spelled ∙ parted tokens index) in
    let both : None ≡ Some (index - 0) = sym whole.within ∙ over in
    absurd (cc)

-- some tree of a unit
some_unit : UnitTree
some_unit = MakeUnit [] (token_of kind.End 0 (pos 0) (record { file = 0; line = 0; column = 0 }))

pub same_fault : AnswersAgree → (tokens : List Token) (d e : Bool) (a b : ℕ) → IsFault TheUnit tokens 0 0 (syntax_fault d a) → IsFault TheUnit tokens 0 0 (syntax_fault e b) → (d ≡ e) × (a ≡ b)
same_fault agree tokens false false a b h k = (refl, (agree TheUnit tokens 0 0 a b some_unit some_unit).3 h k)
same_fault agree tokens false true a b h k = absurd ((agree TheUnit tokens 0 0 a b some_unit some_unit).4 h k)
same_fault agree tokens true false a b h k = absurd ((agree TheUnit tokens 0 0 b a some_unit some_unit).4 k h)
same_fault agree tokens true true a b h k = (refl, (agree TheUnit tokens 0 0 a b some_unit some_unit).5 h k)

not_whole_there : (tokens : List (List Token)) (deep : Bool) (place : Place) (m : ℕ) (units : List UnitTree) (a : HasSyntaxFault tokens deep place) → a.number < m → AreParsed (take m tokens) units → ⊥
not_whole_there tokens deep place m units a low parsed =
    let found = parsed_there tokens a.number m a.source units low a.there parsed in
    no_unit_faulty a.source found.0 deep a.index found.1 a.fault

-- sources that are units have no fault
pub no_syntax_fault : (tokens : List (List Token)) (units : List UnitTree) (deep : Bool) (place : Place) → AreParsed tokens units → HasSyntaxFault tokens deep place → ⊥
no_syntax_fault tokens units deep place parsed a =
    not_whole_there tokens deep place (length tokens) units a (below tokens a.number a.source a.there)
    (subst (λ (ts : List (List Token)). AreParsed ts units) (sym (take_all (length tokens) tokens (omega arith))) parsed)

-- sources have one first fault
pub one_syntax_fault : AnswersAgree → (tokens : List (List Token)) (d e : Bool) (p q : Place) → HasSyntaxFault tokens d p → HasSyntaxFault tokens e q → (d ≡ e) × (p ≡ q)
one_syntax_fault agree tokens d e p q a b = by_order (tri a.number b.number)
  where
    by_order : (a.number < b.number) ⊎ ((a.number ≡ b.number) ⊎ (b.number < a.number)) → (d ≡ e) × (p ≡ q)
    by_order (inl low) = absurd (not_whole_there tokens d p b.number b.before a low b.parsed)
    by_order (inr (inr high)) = absurd (not_whole_there tokens e q a.number a.before b high a.parsed)
    by_order (inr (inl same)) =
        let source : a.source ≡ b.source = inside (sym a.there ∙ ap (slice_get tokens) same ∙ b.there) in
        let both = same_fault agree b.source d e a.index b.index (subst (λ ts. IsFault TheUnit ts 0 0 (syntax_fault d a.index)) source a.fault) b.fault in
        let there : slice_get b.source b.index ≡ Some a.token = subst (λ n. slice_get b.source n ≡ Some a.token) both.1 (subst (λ ts. slice_get ts a.index ≡ Some a.token) source a.is_token) in
        let token : a.token ≡ b.token = inside (sym there ∙ b.is_token) in
        let place : p ≡ q = a.at ∙ ap (λ (t : Token). t.place) token ∙ sym b.at in
        (both.0, place)
