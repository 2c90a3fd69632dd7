-- The numbers of the first pairs of each key.
use Rattle.std.proofs.Common.{◌≡◌, ◌⊎◌, inl, inr, ℕ, zero, suc, ◌+◌, ◌<◌, ◌≤◌, Bool, true, false, ◌&&◌, nat_eq, List, [], ◌∷◌, length, get_or, Option, refl, sym, ap, subst, ◌∙◌, arith, true≢false}
use Rattle.std.specs.Prelude.{Some, None, slice_get, IsTrue}
use Rattle.std.specs.Cmp.{nat_eq_equiv}
use Rattle.std.proofs.lemmas.Bool.{eqb-true}
use Rattle.std.proofs.lemmas.Option.{get_or_from_slice_get}
use Rattle.pst_base.specs.declared.position.Place.{Place}
use Rattle.pst_base.specs.declared.table.NameId.{NameId}
use Rattle.pst_ast.specs.declared.activity.EndNode.{EndNode}
use Rattle.pst_ast.specs.declared.referent.Owner.{Owner}
use Rattle.pst_type_rules.specs.Binds.{IsSameEnd}
use Rattle.pst_handle_uses.specs.declared.handle_use.Tied.{Tied}
use Rattle.pst_handle_rules.specs.declared.end_key.Side.{Side}
use Rattle.pst_handle_rules.specs.declared.end_key.EndKey.{EndKey}
use Rattle.pst_handle_rules.specs.EndKeys.{owner_place, end_of, key_at, key_of, same_key}
use Rattle.pst_handle_rules.specs.Twice.{HasSame, IsFirst, or_number}

pub some_is : {X : Type 0} {x y : X} → Some x ≡ Some y → x ≡ y
some_is {X} {x} {y} e = cc

pub there_is : {X : Type 0} (xs : List X) (i : ℕ) → i < length xs → (x : X) × (slice_get xs i ≡ Some x)
there_is [] i le = absurd (omega (arith, le))
there_is (x ∷ xs) zero le = (x, refl)
there_is (x ∷ xs) (suc i) le = there_is xs i (omega (arith, le))

pub below_or : (k n : ℕ) → k < n + 1 → (k < n) ⊎ (k ≡ n)
below_or k n l = elim (nat_cases k n) [ inl b ↦ inl b | inr e ↦ inr (omega (arith, e, l)) ]
  where
    nat_cases : (a b : ℕ) → (a < b) ⊎ (b ≤ a)
    nat_cases zero zero = inr (omega arith)
    nat_cases zero (suc b) = inl (omega arith)
    nat_cases (suc a) zero = inr (omega arith)
    nat_cases (suc a) (suc b) = elim (nat_cases a b) [ inl l ↦ inl (omega (arith, l)) | inr l ↦ inr (omega (arith, l)) ]

-- ---- keys

left_of : (a b : Bool) → (a && b) ≡ true → a ≡ true
left_of true b e = refl
left_of false b e = e

right_of : (a b : Bool) → (a && b) ≡ true → b ≡ true
right_of true b e = e
right_of false b e = absurd (true≢false (sym e))

key_itself : (k : EndKey) → same_key k k ≡ true
key_itself k =
    ap (λ (b : Bool). b && (nat_eq k.line k.line && (nat_eq k.column k.column && (nat_eq k.handle k.handle && nat_eq k.reference k.reference)))) (nat_eq_equiv.refl k.file)
    ∙ ap (λ (b : Bool). b && (nat_eq k.column k.column && (nat_eq k.handle k.handle && nat_eq k.reference k.reference))) (nat_eq_equiv.refl k.line)
    ∙ ap (λ (b : Bool). b && (nat_eq k.handle k.handle && nat_eq k.reference k.reference)) (nat_eq_equiv.refl k.column)
    ∙ ap (λ (b : Bool). b && nat_eq k.reference k.reference) (nat_eq_equiv.refl k.handle)
    ∙ nat_eq_equiv.refl k.reference

name_of : ℕ → NameId
name_of n = record { 0 = n }

same_ids : (a b : NameId) → nat_eq a.0 b.0 ≡ true → a ≡ b
unfolding name_of
same_ids a b e = ap name_of (eqb-true a.0 b.0 e)

-- ends of one key are the same
same_ends : (p q : Place) (a b : EndNode) → same_key (key_at p a) (key_at q b) ≡ true → IsSameEnd b a
same_ends p q a b e =
    let lines = right_of (nat_eq p.file q.file) (nat_eq p.line q.line && (nat_eq p.column q.column && (nat_eq a.handle.id.0 b.handle.id.0 && nat_eq a.name.id.0 b.name.id.0))) e in
    let columns = right_of (nat_eq p.line q.line) (nat_eq p.column q.column && (nat_eq a.handle.id.0 b.handle.id.0 && nat_eq a.name.id.0 b.name.id.0)) lines in
    let ids = right_of (nat_eq p.column q.column) (nat_eq a.handle.id.0 b.handle.id.0 && nat_eq a.name.id.0 b.name.id.0) columns in
    record {
      handle = sym (same_ids a.handle.id b.handle.id (left_of (nat_eq a.handle.id.0 b.handle.id.0) (nat_eq a.name.id.0 b.name.id.0) ids));
      reference = sym (same_ids a.name.id b.name.id (right_of (nat_eq a.handle.id.0 b.handle.id.0) (nat_eq a.name.id.0 b.name.id.0) ids));
    }

key_of_ids : Place → NameId → NameId → EndKey
key_of_ids place handle reference = record { file = place.file; line = place.line; column = place.column; handle = handle.0; reference = reference.0 }

one_key : (s : Side) (a b : Tied) → a.owner ≡ b.owner → IsSameEnd (end_of s a) (end_of s b) → key_of s a ≡ key_of s b
unfolding key_of_ids
one_key s a b owner end =
    ap (λ (o : Owner). key_of_ids (owner_place o) (end_of s a).handle.id (end_of s a).name.id) owner
    ∙ ap (λ (n : NameId). key_of_ids (owner_place b.owner) n (end_of s a).name.id) end.handle
    ∙ ap (λ (n : NameId). key_of_ids (owner_place b.owner) (end_of s b).handle.id n) end.reference

same_keys : (s : Side) (a b : Tied) → a.owner ≡ b.owner → IsSameEnd (end_of s a) (end_of s b) → same_key (key_of s b) (key_of s a) ≡ true
same_keys s a b owner end = subst (λ (k : EndKey). same_key (key_of s b) k ≡ true) (sym (one_key s a b owner end)) (key_itself (key_of s b))

-- ---- one more pair

module _ (s : Side) (ties : List Tied) where
  pub kept : (n : ℕ) (tie : Tied) → slice_get ties n ≡ Some tie → (q : EndKey) (old : Option ℕ) (same : Bool) → same_key q (key_of s tie) ≡ same → IsFirst s ties n q old → IsFirst s ties (n + 1) q (or_number old same n)
  kept n tie there q None true is none = (tie, omega arith, there, is)
  kept n tie there q None false is none = λ k t l at. elim (below_or k n l) [
    | inl b ↦ none k t b at
    | inr e ↦ subst (λ (x : Tied). same_key q (key_of s x) ≡ false) (some_is (sym there ∙ subst (λ (i : ℕ). slice_get ties i ≡ Some t) e at)) is
  ]
  kept n tie there q (Some k) same is (t, l, at, key) = (t, omega (arith, l), at, key)

  pub none_before : (n : ℕ) (tie : Tied) (q : EndKey) → IsFirst s ties n q None → q ≡ key_of s tie → HasSame s ties n tie → ⊥
  none_before n tie q none e h =
      true≢false (sym (same_keys s h.earlier tie h.owner h.end) ∙ subst (λ (k : EndKey). same_key k (key_of s h.earlier) ≡ false) e (none h.number h.earlier h.before h.there))

  pub first_has : (n : ℕ) (tie : Tied) (q : EndKey) (k : ℕ) → IsFirst s ties n q (Some k) → q ≡ key_of s tie → (t : Tied) → slice_get ties k ≡ Some t → t.owner ≡ tie.owner → HasSame s ties n tie
  first_has n tie q k (u, l, there, key) e t at owner = record {
    number = k;
    earlier = t;
    before = l;
    there = at;
    owner = owner;
    end = same_ends (owner_place tie.owner) (owner_place t.owner) (end_of s tie) (end_of s t)
        (subst (λ (x : Tied). same_key (key_of s tie) (key_of s x) ≡ true) (some_is (sym there ∙ at)) (subst (λ (x : EndKey). same_key x (key_of s u) ≡ true) e key));
  }

  pub one_more : (n : ℕ) (tie t : Tied) → slice_get ties n ≡ Some t → (HasSame s ties n tie → ⊥) → (t.owner ≡ tie.owner → IsSameEnd (end_of s t) (end_of s tie) → ⊥) → HasSame s ties (n + 1) tie → ⊥
  one_more n tie t at none apart h = elim (below_or h.number n h.before) [
    | inl l ↦ none (record { number = h.number; earlier = h.earlier; before = l; there = h.there; owner = h.owner; end = h.end })
    | inr e ↦
        let is : h.earlier ≡ t = some_is (sym h.there ∙ subst (λ (i : ℕ). slice_get ties i ≡ Some t) (sym e) at) in
        apart (subst (λ (x : Tied). x.owner ≡ tie.owner) is h.owner) (subst (λ (x : Tied). IsSameEnd (end_of s x) (end_of s tie)) is h.end)
  ]

  pub not_before : (n : ℕ) (tie : Tied) (q : EndKey) (found : Option ℕ) → IsFirst s ties n q found → found ≡ None → q ≡ key_of s tie → (IsTrue false → HasSame s ties n tie) × (HasSame s ties n tie → IsTrue false)
  not_before n tie q found first none e = ((λ no. absurd (true≢false (sym no))), λ h. absurd (none_before n tie q (subst (IsFirst s ties n q) none first) e h))

  pub is_before : (n : ℕ) (tie : Tied) (q : EndKey) (found : Option ℕ) (k : ℕ) → IsFirst s ties n q found → found ≡ Some k → q ≡ key_of s tie → (t : Tied) → slice_get ties k ≡ Some t → t.owner ≡ tie.owner
      → (IsTrue true → HasSame s ties n tie) × (HasSame s ties n tie → IsTrue true)
  is_before n tie q found k first some e t at owner = ((λ _. first_has n tie q k (subst (IsFirst s ties n q) some first) e t at owner), λ _. refl)

  pub key_there : (n : ℕ) (tie d : Tied) (key : EndKey) → slice_get ties n ≡ Some tie → key ≡ key_of s (get_or ties n d) → key ≡ key_of s tie
  key_there n tie d key there is = is ∙ ap (λ (t : Tied). key_of s t) (get_or_from_slice_get ties n tie d there)
