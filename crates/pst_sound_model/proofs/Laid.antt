-- Declarations and the scopes of bodies, in the order of the tokens that name or begin them.
use Rattle.std.proofs.Common.{◌≡◌, ◌⊎◌, inl, inr, ⊎_elim, refl, sym, ap, subst, ◌∙◌}
use Rattle.std.specs.Prelude.{true, false, List, [], ◌∷◌, ◌++◌}
use Rattle.std.specs.List.{flat_map}
use Rattle.std.proofs.lemmas.Bool.{false≢true}
use Rattle.pst_base.specs.declared.position.Place.{Place}
use Rattle.pst_token.specs.declared.token.Token.{Token}
use Rattle.pst_ast.specs.declared.scope_declaration.Declaration.{Declaration}
use Rattle.pst_ast.specs.declared.scope_declaration.Scope.TheVariants.{Part}
use Rattle.pst_terms.specs.Readings.{is_inner_sort}
use Rattle.pst_sound_model.proofs.Members.{In, in_append, to_left, to_right}
use Rattle.pst_sound_model.proofs.Follows.{Follows, Done, Take, Skip, follows_skip, follows_both, follows_more}

-- a name that is declared, or the beginning of a scope of a body
pub data Entry : Type 0 where
  AName : (d : Declaration) → Entry
  AScope : (place : Place) → Entry

abbrev pub entry_place : Entry → Place
entry_place (AName d) = d.name.place
entry_place (AScope place) = place

-- the names among entries
abbrev pub names_in : List Entry → List Declaration
names_in [] = []
names_in (AName d ∷ more) = d ∷ names_in more
names_in (AScope place ∷ more) = names_in more

names_both : (es fs : List Entry) → names_in (es ++ fs) ≡ names_in es ++ names_in fs
names_both [] fs = refl
names_both (AName d ∷ es) fs = ap (λ (xs : List Declaration). d ∷ xs) (names_both es fs)
names_both (AScope place ∷ es) fs = names_both es fs

pub name_among : (es : List Entry) (d : Declaration) → In d (names_in es) → In (AName d) es
name_among [] d there = absurd there
name_among (AName x ∷ more) d (inl e) = inl (ap AName e)
name_among (AName x ∷ more) d (inr h) = inr (name_among more d h)
name_among (AScope place ∷ more) d there = inr (name_among more d there)

-- the token stands there
abbrev pub IsAt : Entry → Token → Type 0
IsAt e token = entry_place e ≡ token.place

-- the scope of an index is its own, that of a local begins among the entries, or is one of those round them
abbrev pub IsScoped : (Place → Type 0) → List Entry → Declaration → Type 0
IsScoped Round entries d = (d.scope ≡ Part d.name.place) ⊎ ((place : Place) × (Round place ⊎ In (AScope place) entries) × (d.scope ≡ Part place))

-- The declarations stand at tokens.
pub record IsLaid (Round : Place → Type 0) (xs : List Declaration) (tokens : List Token) : Type 0 where
  pub entries : List Entry
  pub follows : Follows IsAt entries tokens
  pub named : names_in entries ≡ xs
  pub scoped : (d : Declaration) → In d xs → is_inner_sort d.sort ≡ true → IsScoped Round entries d

scoped_more : (Round : Place → Type 0) (es fs : List Entry) (d : Declaration) → ((e : Entry) → In e es → In e fs) → IsScoped Round es d → IsScoped Round fs d
scoped_more Round es fs d into (inl e) = inl e
scoped_more Round es fs d into (inr (place, (inl r), at)) = inr (place, inl r, at)
scoped_more Round es fs d into (inr (place, (inr h), at)) = inr (place, inr (into (AScope place) h), at)

module _ {Round : Place → Type 0} where
  pub laid_none : (tokens : List Token) → IsLaid Round [] tokens
  laid_none tokens = record { entries = []; follows = Done tokens; named = refl; scoped = λ d h i. absurd h }

  pub laid_skip : (front : List Token) {xs : List Declaration} {tokens : List Token} → IsLaid Round xs tokens → IsLaid Round xs (front ++ tokens)
  laid_skip front {xs} {tokens} l = record { entries = l.entries; follows = follows_skip IsAt l.entries front tokens l.follows; named = l.named; scoped = l.scoped }

  pub laid_one : {token : Token} {xs : List Declaration} {tokens : List Token} → IsLaid Round xs tokens → IsLaid Round xs (token ∷ tokens)
  laid_one {token} {xs} {tokens} l = record { entries = l.entries; follows = Skip l.entries token tokens l.follows; named = l.named; scoped = l.scoped }

  pub laid_more : (more : List Token) {xs : List Declaration} {tokens : List Token} → IsLaid Round xs tokens → IsLaid Round xs (tokens ++ more)
  laid_more more {xs} {tokens} l = record { entries = l.entries; follows = follows_more IsAt l.entries tokens more l.follows; named = l.named; scoped = l.scoped }

  pub laid_both : {xs ys : List Declaration} {ts us : List Token} → IsLaid Round xs ts → IsLaid Round ys us → IsLaid Round (xs ++ ys) (ts ++ us)
  laid_both {xs} {ys} {ts} {us} a b = record {
    entries = a.entries ++ b.entries;
    follows = follows_both IsAt a.entries b.entries ts us a.follows b.follows;
    named = names_both a.entries b.entries ∙ (λ i. a.named i ++ b.named i);
    scoped = λ d h i. ⊎_elim (λ k. scoped_more Round a.entries (a.entries ++ b.entries) d (λ e m. to_left a.entries b.entries e m) (a.scoped d k i))
        (λ k. scoped_more Round b.entries (a.entries ++ b.entries) d (λ e m. to_right a.entries b.entries e m) (b.scoped d k i)) (in_append xs ys d h);
  }

  -- a name
  pub laid_name : (x : Declaration) {token : Token} {xs : List Declaration} {tokens : List Token} → x.name.place ≡ token.place → (is_inner_sort x.sort ≡ true → IsScoped Round [] x) → IsLaid Round xs tokens → IsLaid Round (x ∷ xs) (token ∷ tokens)
  laid_name x {token} {xs} {tokens} at own l = record { entries = AName x ∷ l.entries; follows = Take (AName x) l.entries token tokens at l.follows; named = ap (λ (ys : List Declaration). x ∷ ys) l.named; scoped = its_scope }
    where
      its_scope : (d : Declaration) → In d (x ∷ xs) → is_inner_sort d.sort ≡ true → IsScoped Round (AName x ∷ l.entries) d
      its_scope d (inl e) i = scoped_more Round [] (AName x ∷ l.entries) d (λ f m. absurd m) (subst (λ (y : Declaration). is_inner_sort y.sort ≡ true → IsScoped Round [] y) e own i)
      its_scope d (inr h) i = scoped_more Round l.entries (AName x ∷ l.entries) d (λ f m. inr m) (l.scoped d h i)

  pub laid_outer : (x : Declaration) {token : Token} {xs : List Declaration} {tokens : List Token} → x.name.place ≡ token.place → is_inner_sort x.sort ≡ false → IsLaid Round xs tokens → IsLaid Round (x ∷ xs) (token ∷ tokens)
  laid_outer x at outer l = laid_name x at (λ i. absurd (false≢true (sym outer ∙ i))) l

  pub laid_flat : {A : Type 0} (f : A → List Declaration) (g : A → List Token) → ((a : A) → IsLaid Round (f a) (g a)) → (list : List A) → IsLaid Round (flat_map f list) (flat_map g list)
  laid_flat f g each [] = laid_none []
  laid_flat f g each (a ∷ more) = laid_both (each a) (laid_flat f g each more)

-- a scope begins: what stands in it has its own round it
pub laid_scope : {Round : Place → Type 0} (place : Place) {token : Token} {xs : List Declaration} {tokens : List Token} → place ≡ token.place → IsLaid (λ p. p ≡ place) xs tokens → IsLaid Round xs (token ∷ tokens)
laid_scope {Round} place {token} {xs} {tokens} at l = record { entries = AScope place ∷ l.entries; follows = Take (AScope place) l.entries token tokens at l.follows; named = l.named; scoped = λ d h i. moved d (l.scoped d h i) }
  where
    moved : (d : Declaration) → IsScoped (λ p. p ≡ place) l.entries d → IsScoped Round (AScope place ∷ l.entries) d
    moved d (inl e) = inl e
    moved d (inr (p, (inl r), is)) = inr (p, inr (inl (ap AScope (sym r))), is)
    moved d (inr (p, (inr h), is)) = inr (p, inr (inr h), is)
