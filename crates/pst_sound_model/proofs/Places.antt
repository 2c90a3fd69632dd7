-- Tokens at rising places give each name a place of its own.
use Rattle.std.proofs.Common.{◌≡◌, inl, inr, refl, sym, ap, subst, arith, ◌∙◌}
use Rattle.std.specs.Prelude.{ℕ, zero, suc, true, false, List, [], ◌∷◌, map, slice_get, Some}
use Rattle.std.specs.List.{flat_map}
use Rattle.std.proofs.lemmas.Bool.{false≢true}
use Rattle.std.proofs.lemmas.Option.{none-some, same_Some}
use Rattle.pst_base.specs.declared.position.Place.{Place}
use Rattle.pst_base.specs.Places.{IsBefore}
use Rattle.pst_token.specs.declared.token.Token.{Token}
use Rattle.pst_token.specs.Order.{AreRising}
use Rattle.pst_ast.specs.DeclarationTree.{UnitTree}
use Rattle.pst_ast.specs.DeclarationSpelling.{spell_unit}
use Rattle.pst_ast.specs.declared.scope_declaration.Declaration.{Declaration}
use Rattle.pst_ast.specs.declared.scope_declaration.Scope.TheVariants.{Part}
use Rattle.pst_ast.specs.Declarations.{declarations}
use Rattle.pst_terms.specs.Readings.{is_inner_sort}
use Rattle.pst_sound_model.specs.SoundExpressionsConditions.{HaveOwnPlaces}
use Rattle.pst_sound_model.proofs.Members.{In, in_get, from_contains}
use Rattle.pst_sound_model.proofs.Follows.{Follows, Done, Take, Skip}
use Rattle.pst_sound_model.proofs.Laid.{Entry, AName, AScope, names_in, name_among, entry_place, IsAt, IsScoped, IsLaid}
use Rattle.pst_sound_model.proofs.Texts.{Nowhere, units_laid}

-- ---- places

before_on : (p q r : Place) → IsBefore p q → IsBefore q r → IsBefore p r
before_on p q r (inl a) (inl b) = inl (omega (arith, a, b))
before_on p q r (inl a) (inr (e, b)) = inl (omega (arith, a, e))
before_on p q r (inr (e, a)) (inl b) = inl (omega (arith, e, b))
before_on p q r (inr (e, (inl a))) (inr (f, (inl b))) = inr (omega (arith, e, f), inl (omega (arith, a, b)))
before_on p q r (inr (e, (inl a))) (inr (f, (inr (g, b)))) = inr (omega (arith, e, f), inl (omega (arith, a, g)))
before_on p q r (inr (e, (inr (g, a)))) (inr (f, (inl b))) = inr (omega (arith, e, f), inl (omega (arith, g, b)))
before_on p q r (inr (e, (inr (g, a)))) (inr (f, (inr (h, b)))) = inr (omega (arith, e, f), inr (omega (arith, g, h), omega (arith, a, b)))

not_before : (p q : Place) → p ≡ q → IsBefore p q → ⊥
not_before p q e (inl h) = let same : p.file ≡ q.file = ap (λ (x : Place). x.file) e in absurd (omega (arith, same, h))
not_before p q e (inr (a, inl h)) = let same : p.line ≡ q.line = ap (λ (x : Place). x.line) e in absurd (omega (arith, same, h))
not_before p q e (inr (a, inr (b, h))) = let same : p.column ≡ q.column = ap (λ (x : Place). x.column) e in absurd (omega (arith, same, h))

abbrev places : List Token → List Place
places tokens = map (λ token. token.place) tokens

later_tokens : (token : Token) (tokens : List Token) → AreRising (places (token ∷ tokens)) → AreRising (places tokens)
later_tokens token [] rising = tt
later_tokens token (t ∷ more) rising = rising.1

all_later : (token : Token) (tokens : List Token) → AreRising (places (token ∷ tokens)) → (t : Token) → In t tokens → IsBefore token.place t.place
all_later token [] rising t there = absurd there
all_later token (u ∷ more) rising t (inl e) = subst (λ (w : Token). IsBefore token.place w.place) e rising.0
all_later token (u ∷ more) rising t (inr h) = before_on token.place u.place t.place rising.0 (all_later u more rising.1 t h)

-- ---- entries

comes_within : (es : List Entry) (tokens : List Token) → Follows IsAt es tokens → (e : Entry) → In e es → (t : Token) × In t tokens × (entry_place e ≡ t.place)
comes_within _ _ (Done tokens) e there = absurd there
comes_within _ _ (Take x xs y ys at f) e (inl same) = (y, inl refl, ap entry_place (sym same) ∙ at)
comes_within _ _ (Take x xs y ys at f) e (inr h) = let r = comes_within xs ys f e h in (r.0, inr r.1, r.2)
comes_within _ _ (Skip xs y ys f) e there = let r = comes_within xs ys f e there in (r.0, inr r.1, r.2)

-- an entry isn't at the place of one behind it
apart : (x e : Entry) (xs : List Entry) (y : Token) (ys : List Token) → IsAt x y → Follows IsAt xs ys → AreRising (places (y ∷ ys)) → In e xs → entry_place x ≡ entry_place e → ⊥
apart x e xs y ys at f rising there same =
    let r = comes_within xs ys f e there in not_before y.place r.0.place (sym at ∙ (same ∙ r.2)) (all_later y ys rising r.0 r.1)

one_entry : (es : List Entry) (tokens : List Token) → Follows IsAt es tokens → AreRising (places tokens) → (a b : Entry) → In a es → In b es → entry_place a ≡ entry_place b → a ≡ b
one_entry _ _ (Done tokens) rising a b there too same = absurd there
one_entry _ _ (Skip xs y ys f) rising a b there too same = one_entry xs ys f (later_tokens y ys rising) a b there too same
one_entry _ _ (Take x xs y ys at f) rising a b (inl e) (inl g) same = sym e ∙ g
one_entry _ _ (Take x xs y ys at f) rising a b (inl e) (inr h) same = absurd (apart x b xs y ys at f rising h (ap entry_place e ∙ same))
one_entry _ _ (Take x xs y ys at f) rising a b (inr h) (inl e) same = absurd (apart x a xs y ys at f rising h (ap entry_place e ∙ sym same))
one_entry _ _ (Take x xs y ys at f) rising a b (inr h) (inr k) same = one_entry xs ys f (later_tokens y ys rising) a b h k same

same_name : (d e : Declaration) → AName d ≡ AName e → d ≡ e
same_name d e h = cc

no_scope : (place : Place) (e : Declaration) → AScope place ≡ AName e → ⊥
no_scope place e h = cc

part_place : (p q : Place) → Part p ≡ Part q → p ≡ q
part_place p q e = cc

-- no two names stand at one place
name_places : (es : List Entry) (tokens : List Token) → Follows IsAt es tokens → AreRising (places tokens) → (j k : ℕ) (d e : Declaration) → slice_get (names_in es) j ≡ Some d → slice_get (names_in es) k ≡ Some e → d.name.place ≡ e.name.place → j ≡ k
name_places _ _ (Done tokens) rising j k d e a b same = absurd (none-some d a)
name_places _ _ (Skip xs y ys f) rising j k d e a b same = name_places xs ys f (later_tokens y ys rising) j k d e a b same
name_places _ _ (Take (AScope p) xs y ys at f) rising j k d e a b same = name_places xs ys f (later_tokens y ys rising) j k d e a b same
name_places _ _ (Take (AName x) xs y ys at f) rising zero zero d e a b same = refl
name_places _ _ (Take (AName x) xs y ys at f) rising zero (suc k) d e a b same =
    absurd (apart (AName x) (AName e) xs y ys at f rising (name_among xs e (in_get (names_in xs) k e b)) (ap (λ (z : Declaration). z.name.place) (same_Some x d a) ∙ same))
name_places _ _ (Take (AName x) xs y ys at f) rising (suc j) zero d e a b same =
    absurd (apart (AName x) (AName d) xs y ys at f rising (name_among xs d (in_get (names_in xs) j d a)) (ap (λ (z : Declaration). z.name.place) (same_Some x e b) ∙ sym same))
name_places _ _ (Take (AName x) xs y ys at f) rising (suc j) (suc k) d e a b same = ap suc (name_places xs ys f (later_tokens y ys rising) j k d e a b same)

-- ---- names

module _ (units : List UnitTree) (rising : AreRising (map (λ token. token.place) (flat_map spell_unit units))) where
  abbrev ds : List Declaration
  ds = declarations units

  abbrev laid : IsLaid Nowhere ds (flat_map spell_unit units)
  laid = units_laid units

  its_name : (d : Declaration) → In d ds → In (AName d) laid.entries
  its_name d there = name_among laid.entries d (subst (In d) (sym laid.named) there)

  one_name : (d e : Declaration) → In d ds → In e ds → d.name.place ≡ e.name.place → d ≡ e
  one_name d e a b same = same_name d e (one_entry laid.entries (flat_map spell_unit units) laid.follows rising (AName d) (AName e) (its_name d a) (its_name e b) same)

  no_scopes : (d e : Declaration) → In d ds → In e ds → is_inner_sort d.sort ≡ true → is_inner_sort e.sort ≡ false → d.scope ≡ Part e.name.place → ⊥
  no_scopes d e a b inner outer same = by (laid.scoped d a inner)
    where
      by : IsScoped Nowhere laid.entries d → ⊥
      by (inl own) =
          let one = one_name d e a b (part_place d.name.place e.name.place (sym own ∙ same)) in
          false≢true (sym outer ∙ (ap (λ (x : Declaration). is_inner_sort x.sort) (sym one) ∙ inner))
      by (inr (place, (inl none), at)) = absurd none
      by (inr (place, (inr h), at)) =
          no_scope place e (one_entry laid.entries (flat_map spell_unit units) laid.follows rising (AScope place) (AName e) h (its_name e b) (part_place place e.name.place (sym at ∙ same)))

  pub own_places : HaveOwnPlaces (declarations units)
  own_places = record {
    places = λ d e a b same. one_name d e (from_contains ds d a.0 a.1 a.2) (from_contains ds e b.0 b.1 b.2) same;
    scopes = λ d e a b inner outer same. no_scopes d e (from_contains ds d a.0 a.1 a.2) (from_contains ds e b.0 b.1 b.2) inner outer same;
  }

  pub stand_apart : (j k : ℕ) (d e : Declaration) → slice_get (declarations units) j ≡ Some d → slice_get (declarations units) k ≡ Some e → d.name.place ≡ e.name.place → j ≡ k
  stand_apart j k d e a b same =
      name_places laid.entries (flat_map spell_unit units) laid.follows rising j k d e (ap (λ (xs : List Declaration). slice_get xs j) laid.named ∙ a) (ap (λ (xs : List Declaration). slice_get xs k) laid.named ∙ b) same
