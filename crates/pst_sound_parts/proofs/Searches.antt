-- What a search finds among entries in order.
use Rattle.std.proofs.Common.{◌≡◌, ◌<◌, ◌≤◌, ◌+◌, ◌↔◌, ◌⊎◌, inl, inr, ℕ, zero, suc, List, [], ◌∷◌, length, drop, get_or, All, Bool, true, false, IsTrue, Result, Ok, Err, IfOk, IfErr, Ordering, Less, Equal, Greater, Some, None, cond, refl, ap, subst, sym, ◌∙◌, arith}
use Rattle.std.specs.List.{HoldsAt}
use Rattle.std.specs.List.Sorted.{IsSearchInRange, IsBinarySearchResult, IsNonDecreasingBy}
use Rattle.std.specs.Ordering.{nat_cmp, ordering_index, ordering_then}
use Rattle.std.specs.Cmp.{nat_cmp_is}
use Rattle.std.proofs.lemmas.Map.Lookups.{exact_unsigned}
use Rattle.std.proofs.lemmas.Bool.{cases_lt}
use Rattle.std.proofs.lemmas.Bool.Decides.{nat_tests}
use Rattle.std.proofs.lemmas.List.{drop_more}
use Rattle.std.proofs.lemmas.List.Elements.{All-cons, All-head, All-tail, All-nil, All-weaker}
use Rattle.pst_model.specs.declared.model.Serve.{Serve}
use Rattle.pst_model.specs.Served.{is_entry, pool_in, ComesBefore, ComesBeforeFirst, IsInOrder}
use Rattle.pst_model.proofs.Pairs.{pairs_cons}

-- how an entry stands to an action type, instance and reference
abbrev pub entry_cmp : ℕ → ℕ → ℕ → Serve → Ordering
entry_cmp a i r s = ordering_then (nat_cmp s.action a) (ordering_then (nat_cmp s.instance i) (nat_cmp s.reference r))

-- ---- the entries rise

index_most : (o : Ordering) → ordering_index o ≤ 2
index_most Less = omega arith
index_most Equal = omega arith
index_most Greater = omega arith

same_first : (c o p : Ordering) → ordering_index o ≤ ordering_index p → ordering_index (ordering_then c o) ≤ ordering_index (ordering_then c p)
same_first Less o p h = omega arith
same_first Equal o p h = h
same_first Greater o p h = omega arith

then_rises : (k x y : ℕ) (o p : Ordering) → (x < y) ⊎ ((x ≡ y) × (ordering_index o ≤ ordering_index p)) → ordering_index (ordering_then (nat_cmp x k) o) ≤ ordering_index (ordering_then (nat_cmp y k) p)
then_rises k x y o p (inr h) = subst (λ (z : ℕ). ordering_index (ordering_then (nat_cmp x k) o) ≤ ordering_index (ordering_then (nat_cmp z k) p)) h.0 (same_first (nat_cmp x k) o p h.1)
then_rises k x y o p (inl below) = go (cases_lt k y)
  where
    go : (k < y) ⊎ (y ≤ k) → ordering_index (ordering_then (nat_cmp x k) o) ≤ ordering_index (ordering_then (nat_cmp y k) p)
    go (inl above) = subst (λ (c : Ordering). ordering_index (ordering_then (nat_cmp x k) o) ≤ ordering_index (ordering_then c p)) (nat_cmp_is y k Greater above) (index_most (ordering_then (nat_cmp x k) o))
    go (inr under) = subst (λ (c : Ordering). ordering_index (ordering_then c o) ≤ ordering_index (ordering_then (nat_cmp y k) p)) (nat_cmp_is x k Less (omega (arith, below, under))) (omega arith)

entry_rises : (a i r : ℕ) (s t : Serve) → ComesBefore s t → ordering_index (entry_cmp a i r s) ≤ ordering_index (entry_cmp a i r t)
entry_rises a i r s t (inl first) = then_rises a s.action t.action (ordering_then (nat_cmp s.instance i) (nat_cmp s.reference r)) (ordering_then (nat_cmp t.instance i) (nat_cmp t.reference r)) (inl first)
entry_rises a i r s t (inr more) = then_rises a s.action t.action (ordering_then (nat_cmp s.instance i) (nat_cmp s.reference r)) (ordering_then (nat_cmp t.instance i) (nat_cmp t.reference r)) (inr (more.0, second more.1))
  where
    last : s.reference < t.reference → ordering_index (nat_cmp s.reference r) ≤ ordering_index (nat_cmp t.reference r)
    last below = grind (arith, nat_tests, below)

    second : (s.instance < t.instance) ⊎ ((s.instance ≡ t.instance) × (s.reference < t.reference)) → ordering_index (ordering_then (nat_cmp s.instance i) (nat_cmp s.reference r)) ≤ ordering_index (ordering_then (nat_cmp t.instance i) (nat_cmp t.reference r))
    second (inl below) = then_rises i s.instance t.instance (nat_cmp s.reference r) (nat_cmp t.reference r) (inl below)
    second (inr ends) = then_rises i s.instance t.instance (nat_cmp s.reference r) (nat_cmp t.reference r) (inr (ends.0, last ends.1))

entries_rise : (a i r : ℕ) (xs : List Serve) → IsInOrder xs → IsNonDecreasingBy (λ s. ordering_index (entry_cmp a i r s)) xs
entries_rise a i r xs order = λ m n d le within. go m n d le within (cases_lt m n)
  where
    go : (m n : ℕ) (d : Serve) → m ≤ n → n < length xs → (m < n) ⊎ (n ≤ m) → ordering_index (entry_cmp a i r (get_or xs m d)) ≤ ordering_index (entry_cmp a i r (get_or xs n d))
    go m n d le within (inl below) = entry_rises a i r (get_or xs m d) (get_or xs n d) (order m n d below within)
    go m n d le within (inr above) = let same : m ≡ n = omega (arith, le, above) in subst (λ (k : ℕ). ordering_index (entry_cmp a i r (get_or xs m d)) ≤ ordering_index (entry_cmp a i r (get_or xs k d))) same (omega arith)

-- ---- which entry compares equal

then_equal : (o p : Ordering) → ordering_then o p ≡ Equal → (o ≡ Equal) × (p ≡ Equal)
then_equal Less p e = absurd cc
then_equal Equal p e = (refl, e)
then_equal Greater p e = absurd cc

same_numbers : (a i r : ℕ) (s : Serve) → entry_cmp a i r s ≡ Equal → is_entry a i r s ≡ true
same_numbers a i r s e =
    let first = then_equal (nat_cmp s.action a) (ordering_then (nat_cmp s.instance i) (nat_cmp s.reference r)) e in
    let second = then_equal (nat_cmp s.instance i) (nat_cmp s.reference r) first.1 in
    let one = exact_unsigned s.action a first.0 in
    let two = exact_unsigned s.instance i second.0 in
    let three = exact_unsigned s.reference r second.1 in
    grind (arith, nat_tests, one, two, three)

numbers_of : (a i r : ℕ) (s : Serve) → is_entry a i r s ≡ true → (s.action ≡ a) × (s.instance ≡ i) × (s.reference ≡ r)
numbers_of a i r s e = (grind (arith, nat_tests, e), grind (arith, nat_tests, e), grind (arith, nat_tests, e))

compares_equal : (a i r : ℕ) (s : Serve) → is_entry a i r s ≡ true → entry_cmp a i r s ≡ Equal
compares_equal a i r s e =
    let same = numbers_of a i r s e in
    ap (λ (o : Ordering). ordering_then o (ordering_then (nat_cmp s.instance i) (nat_cmp s.reference r))) (sym (nat_cmp_is s.action a Equal same.0))
    ∙ ap (λ (o : Ordering). ordering_then o (nat_cmp s.reference r)) (sym (nat_cmp_is s.instance i Equal same.1))
    ∙ sym (nat_cmp_is s.reference r Equal same.2)

differs : (a i r : ℕ) (s : Serve) → (entry_cmp a i r s ≡ Equal → ⊥) → is_entry a i r s ≡ false
differs a i r s unequal = go (is_entry a i r s) refl
  where
    go : (b : Bool) → is_entry a i r s ≡ b → b ≡ false
    go true e = absurd (unequal (compares_equal a i r s e))
    go false e = refl

-- ---- what the search tells

pub found_at : (a i r : ℕ) (xs : List Serve) (result : Result ℕ ℕ) → IsSearchInRange result (length xs) → IsBinarySearchResult (entry_cmp a i r) xs result → IfOk result (λ k. (k < length xs) × HoldsAt (λ s. IsTrue (is_entry a i r s)) xs k)
found_at a i r xs (Ok k) within equal = (within, λ d. same_numbers a i r (get_or xs k d) (equal d))
found_at a i r xs (Err k) within parted = tt

pub absent_from : (a i r : ℕ) (xs : List Serve) (result : Result ℕ ℕ) → IsInOrder xs → IsBinarySearchResult (entry_cmp a i r) xs result → IfErr result (λ k. All (λ s. is_entry a i r s ≡ false) xs)
absent_from a i r xs (Ok k) order equal = tt
absent_from a i r xs (Err k) order parted = λ n d within. go n d within (cases_lt n k)
  where
    go : (n : ℕ) (d : Serve) → n < length xs → (n < k) ⊎ (k ≤ n) → is_entry a i r (get_or xs n d) ≡ false
    go n d within (inl below) = differs a i r (get_or xs n d) (λ e. let less = (parted (entries_rise a i r xs order)).0 n d (omega arith) below in absurd cc)
    go n d within (inr above) = differs a i r (get_or xs n d) (λ e. let greater = (parted (entries_rise a i r xs order)).1 n d above within in absurd cc)

-- ---- the pool of an entry

apart : (a i r : ℕ) (s t : Serve) → ComesBefore s t → is_entry a i r s ≡ true → is_entry a i r t ≡ true → ⊥
apart a i r s t before e f = go (numbers_of a i r s e) (numbers_of a i r t f) before
  where
    go : (s.action ≡ a) × (s.instance ≡ i) × (s.reference ≡ r) → (t.action ≡ a) × (t.instance ≡ i) × (t.reference ≡ r) → ComesBefore s t → ⊥
    go p q (inl below) = omega (arith, p.0, q.0, below)
    go p q (inr (same, inl below)) = omega (arith, p.1, q.1, below)
    go p q (inr (same, inr (also, below))) = omega (arith, p.2, q.2, below)

pub pool_found : (a i r : ℕ) (xs : List Serve) (k : ℕ) (d : Serve) → IsInOrder xs → k < length xs → is_entry a i r (get_or xs k d) ≡ true → pool_in xs a i r ≡ Some (get_or xs k d).pool
pool_found a i r [] k d order within e = let no : ⊥ = omega (arith, within) in absurd no
pool_found a i r (x ∷ xs) zero d order within e = ap (λ (b : Bool). cond b (Some x.pool) (pool_in xs a i r)) e
pool_found a i r (x ∷ xs) (suc k) d order within e = go (is_entry a i r x) refl (pool_found a i r xs k d ((pairs_cons ComesBefore x xs).0 order).1 (omega (arith, within)) e)
  where
    go : (b : Bool) → is_entry a i r x ≡ b → pool_in xs a i r ≡ Some (get_or xs k d).pool → cond (is_entry a i r x) (Some x.pool) (pool_in xs a i r) ≡ Some (get_or xs k d).pool
    go true f rest = absurd (apart a i r x (get_or xs k d) (((pairs_cons ComesBefore x xs).0 order).0 k d (omega (arith, within))) f e)
    go false f rest = ap (λ (b : Bool). cond b (Some x.pool) (pool_in xs a i r)) f ∙ rest

pub pool_absent : (a i r : ℕ) (xs : List Serve) → All (λ s. is_entry a i r s ≡ false) xs → pool_in xs a i r ≡ None
pool_absent a i r [] none = refl
pool_absent a i r (x ∷ xs) none =
    ap (λ (b : Bool). cond b (Some x.pool) (pool_in xs a i r)) (All-head (λ s. is_entry a i r s ≡ false) x xs none)
    ∙ pool_absent a i r xs (All-tail (λ s. is_entry a i r s ≡ false) x xs none)

-- ---- order

before_all : (s t u : Serve) → ComesBefore s t → ComesBefore t u → ComesBefore s u
before_all s t u (inl below) (inl further) = inl (omega (arith, below, further))
before_all s t u (inl below) (inr (same, more)) = inl (omega (arith, below, same))
before_all s t u (inr (same, more)) (inl further) = inl (omega (arith, same, further))
before_all s t u (inr (same, inl below)) (inr (also, inl further)) = inr (omega (arith, same, also), inl (omega (arith, below, further)))
before_all s t u (inr (same, inl below)) (inr (also, inr (equal, last))) = inr (omega (arith, same, also), inl (omega (arith, below, equal)))
before_all s t u (inr (same, inr (equal, last))) (inr (also, inl further)) = inr (omega (arith, same, also), inl (omega (arith, equal, further)))
before_all s t u (inr (same, inr (equal, last))) (inr (also, inr (level, end))) = inr (omega (arith, same, also), inr (omega (arith, equal, level), omega (arith, last, end)))

first_is_all : (s : Serve) (xs : List Serve) → IsInOrder xs → ComesBeforeFirst s xs → All (ComesBefore s) xs
first_is_all s [] order before = All-nil (ComesBefore s)
first_is_all s (t ∷ xs) order before = All-cons (ComesBefore s) t xs before (All-weaker (ComesBefore t) (ComesBefore s) (λ u after. before_all s t u before after) xs ((pairs_cons ComesBefore t xs).0 order).0)

all_is_first : (s : Serve) (xs : List Serve) → All (ComesBefore s) xs → ComesBeforeFirst s xs
all_is_first s [] all = tt
all_is_first s (t ∷ xs) all = All-head (ComesBefore s) t xs all

order_cons : (s : Serve) (xs : List Serve) → IsInOrder (s ∷ xs) ↔ ComesBeforeFirst s xs × IsInOrder xs
order_cons s xs = (λ h. let parts = (pairs_cons ComesBefore s xs).0 h in (all_is_first s xs parts.0, parts.1), λ h. (pairs_cons ComesBefore s xs).1 (first_is_all s xs h.1 h.0, h.1))

-- the entry at i and those behind it
pub order_drop : (xs : List Serve) (i : ℕ) (d : Serve) → i < length xs → (IsInOrder (drop i xs) ↔ ComesBeforeFirst (get_or xs i d) (drop (i + 1) xs) × IsInOrder (drop (i + 1) xs))
order_drop xs i d within = subst (λ (ys : List Serve). IsInOrder ys ↔ ComesBeforeFirst (get_or xs i d) (drop (i + 1) xs) × IsInOrder (drop (i + 1) xs)) (sym (drop_more xs i d within)) (order_cons (get_or xs i d) (drop (i + 1) xs))
