-- The tallies of one more traversal, and of one more action.
use Rattle.std.proofs.Common.{◌≡◌, inl, inr, ℕ, zero, suc, ◌+◌, ◌≤◌, Bool, true, false, ◌&&◌, nat_eq, nat_lt, List, [], ◌∷◌, ◌++◌, length, Option, refl, sym, ap, subst, ◌∙◌, arith}
use Rattle.std.specs.Prelude.{Some, None, slice_get, if◌then◌else◌}
use Rattle.std.specs.Cmp.{nat_eq_equiv}
use Rattle.std.specs.List.{fold}
use Rattle.std.specs.Option.{option_and_then}
use Rattle.std.proofs.lemmas.Bool.Decides.{eqb_tells}
use Rattle.pst_type_rules.specs.Sites.{DeclaredAction}
use Rattle.pst_traversals.specs.declared.listing.Traversed.{Traversed}
use Rattle.pst_traversals.specs.declared.tally.TallyKey.{TallyKey}
use Rattle.pst_traversals.specs.Listed.{within_of, withins}
use Rattle.pst_traversals.specs.Tallied.{name_in, noted, tally, withins_at, own_traversals, tally_of, tally_before}

pub one_noted : (b : Bool) (so_far : Option Bool) (w : Bool) (more : List Bool) → fold noted so_far ((if b then w ∷ [] else []) ++ more) ≡ fold noted (if b then noted so_far w else so_far) more
one_noted true so_far w more = refl
one_noted false so_far w more = refl

flip : (a b : ℕ) → nat_eq a b ≡ nat_eq b a
flip a b = nat_eq_equiv.symm a b

-- those of another action are none of its
none_else : (n : ℕ) (q : TallyKey) → nat_eq q.action n ≡ false → (ts : List Traversed) → withins_at n q ts ≡ []
none_else n q apart [] = refl
none_else n q apart (t ∷ ts) =
    ap (λ (b : Bool). (if b && nat_eq q.handle t.handle.0 then t.within ∷ [] else []) ++ withins_at n q ts) apart ∙ none_else n q apart ts

-- its own are those of the handle
own_ones : (n : ℕ) (q : TallyKey) → nat_eq q.action n ≡ true → (ts : List Traversed) → withins_at n q ts ≡ withins (name_in q) ts
own_ones n q same [] = refl
own_ones n q same (t ∷ ts) =
    ap (λ (b : Bool). (if b && nat_eq q.handle t.handle.0 then t.within ∷ [] else []) ++ withins_at n q ts) same
    ∙ (ap (λ (b : Bool). (if b then t.within ∷ [] else []) ++ withins_at n q ts) (flip q.handle t.handle.0)
    ∙ ap (λ (bs : List Bool). within_of (name_in q) t ++ bs) (own_ones n q same ts))

before_same : (n : ℕ) (actions : List DeclaredAction) (q : TallyKey) → q.action ≡ n → tally_before n actions q ≡ None
before_same n actions q e = let no : nat_lt q.action n ≡ false = grind (arith, e) in ap (λ (b : Bool). if b then tally_of actions q else None) no

next_same : (n : ℕ) (actions : List DeclaredAction) (q : TallyKey) → q.action ≡ n → tally_before (n + 1) actions q ≡ tally_of actions q
next_same n actions q e = let yes : nat_lt q.action (n + 1) ≡ true = grind (arith, e) in ap (λ (b : Bool). if b then tally_of actions q else None) yes

next_else : (n : ℕ) (actions : List DeclaredAction) (q : TallyKey) → (q.action ≡ n → ⊥) → tally_before (n + 1) actions q ≡ tally_before n actions q
next_else n actions q apart = let same : nat_lt q.action (n + 1) ≡ nat_lt q.action n = grind (arith, apart) in ap (λ (b : Bool). if b then tally_of actions q else None) same

pub one_more : (n : ℕ) (actions : List DeclaredAction) (a : DeclaredAction) → slice_get actions n ≡ Some a → (ts : List Traversed) → ((q : TallyKey) → withins (name_in q) ts ≡ own_traversals (name_in q) a)
    → (q : TallyKey) (old new : Option Bool) → old ≡ tally_before n actions q → new ≡ fold noted old (withins_at n q ts) → new ≡ tally_before (n + 1) actions q
one_more n actions a there ts own q old new before is = elim (eqb_tells q.action n) [
  | inl e ↦
      is ∙ (ap (λ (o : Option Bool). fold noted o (withins_at n q ts)) (before ∙ before_same n actions q e.1)
      ∙ (ap (λ (ws : List Bool). fold noted None ws) (own_ones n q e.0 ts ∙ own q)
      ∙ (sym (ap (λ (o : Option DeclaredAction). option_and_then (λ a. tally (own_traversals (name_in q) a)) o) (subst (λ (i : ℕ). slice_get actions i ≡ Some a) (sym e.1) there))
      ∙ sym (next_same n actions q e.1))))
  | inr e ↦
      is ∙ (ap (λ (ws : List Bool). fold noted old ws) (none_else n q e.0 ts) ∙ (before ∙ sym (next_else n actions q e.1)))
]

pub all_before : (actions : List DeclaredAction) (n : ℕ) → n ≡ length actions → (q : TallyKey) → tally_before n actions q ≡ tally_of actions q
all_before actions n e q = by_test (nat_lt q.action n) refl
  where
    past : (xs : List DeclaredAction) (i : ℕ) → length xs ≤ i → slice_get xs i ≡ None
    past [] i l = refl
    past (x ∷ xs) zero l = absurd (omega (arith, l))
    past (x ∷ xs) (suc i) l = past xs i (omega (arith, l))

    at_least : nat_lt q.action n ≡ false → length actions ≤ q.action
    at_least is = grind (arith, is, e)

    by_test : (b : Bool) → nat_lt q.action n ≡ b → (if b then tally_of actions q else None) ≡ tally_of actions q
    by_test true is = refl
    by_test false is = sym (ap (λ (o : Option DeclaredAction). option_and_then (λ a. tally (own_traversals (name_in q) a)) o) (past actions q.action (at_least is)))
