-- What a change of one pool's references leaves.
use Rattle.std.proofs.Common.{◌≡◌, ◌≢◌, ℕ, zero, suc, ◌<◌, ◌≤◌, List, [], ◌∷◌, ◌++◌, length, Bool, true, false, not, ◌&&◌, ◌||◌, nat_eq, if◌then◌else◌, Option, Some, None, refl, sym, ap, ◌∙◌, subst, arith}
use Rattle.std.specs.Prelude.{slice_get, slice_set}
use Rattle.std.proofs.lemmas.Bool.{eqb-true, eqb-false}
use Rattle.std.proofs.lemmas.List.{append-nil}
use Rattle.pst_scen.specs.declared.act.Flow.{Flow}
use Rattle.pst_ties.specs.declared.tied.End.{End}
use Rattle.pst_pool_sources.specs.declared.ends.SourceEnds.{SourceEnds}
use Rattle.pst_pool_sources.specs.Offers.{row_ends, row_room, ends_in, room_in, begun_in, end_if, but_last}
use Rattle.pst_pool_sources.proofs.Lists.{but_none}

got_set : (xs : List SourceEnds) (n : ℕ) (y : SourceEnds) → n < length xs → slice_get (slice_set xs n y) n ≡ Some y
got_set [] n y h = absurd (omega arith)
got_set (x ∷ xs) zero y h = refl
got_set (x ∷ xs) (suc n) y h = got_set xs n y (omega arith)

got_other : (xs : List SourceEnds) (n p : ℕ) (y : SourceEnds) → n ≢ p → slice_get (slice_set xs n y) p ≡ slice_get xs p
got_other [] n p y h = refl
got_other (x ∷ xs) zero zero y h = absurd (h refl)
got_other (x ∷ xs) zero (suc p) y h = refl
got_other (x ∷ xs) (suc n) zero y h = refl
got_other (x ∷ xs) (suc n) (suc p) y h = got_other xs n p y (λ e. h (ap (λ i. suc i) e))

-- what is said of the references of one pool is said of all
module _ (rows : List SourceEnds) (n : ℕ) (x row : SourceEnds) (within : n < length rows) (is : slice_get rows n ≡ Some x) where
  pub set_at : (f : Bool → List End → List End) → ((ends : List End) → f false ends ≡ ends) → (b : Flow → Bool) → ((need : Flow) → row_ends need row ≡ f (b need) (row_ends need x))
      → (need : Flow) (p : ℕ) → ends_in need (slice_get (slice_set rows n row) p) ≡ f (b need && nat_eq n p) (ends_in need (slice_get rows p))
  set_at f still b e need p = go (nat_eq n p) refl (b need) (e need)
    where
      both : (c : Bool) → (c && true) ≡ c
      both true = refl
      both false = refl

      neither : (c : Bool) → (c && false) ≡ false
      neither true = refl
      neither false = refl

      go : (q : Bool) → nat_eq n p ≡ q → (c : Bool) → row_ends need row ≡ f c (row_ends need x) → ends_in need (slice_get (slice_set rows n row) p) ≡ f (c && q) (ends_in need (slice_get rows p))
      go true w c g =
          let same : n ≡ p = eqb-true n p w in
          ap (λ i. ends_in need (slice_get (slice_set rows n row) i)) (sym same)
          ∙ ap (ends_in need) (got_set rows n row within)
          ∙ g
          ∙ ap (λ d. f d (row_ends need x)) (sym (both c))
          ∙ ap (λ o. f (c && true) (ends_in need o)) (sym is)
          ∙ ap (λ i. f (c && true) (ends_in need (slice_get rows i))) same
      go false w c g =
          ap (ends_in need) (got_other rows n p row (eqb-false n p w))
          ∙ sym (still (ends_in need (slice_get rows p)))
          ∙ ap (λ d. f d (ends_in need (slice_get rows p))) (sym (neither c))

  pub added_at : (end : End) (b : Flow → Bool) → ((need : Flow) → row_ends need row ≡ row_ends need x ++ end_if (b need) end)
      → (need : Flow) (p : ℕ) → ends_in need (slice_get (slice_set rows n row) p) ≡ ends_in need (slice_get rows p) ++ end_if (b need && nat_eq n p) end
  added_at end b e = set_at (λ c ends. ends ++ end_if c end) (λ ends. append-nil ends) b e

  pub taken_at : (b : Flow → Bool) → ((need : Flow) → row_ends need row ≡ but_last (if b need then 1 else 0) (row_ends need x))
      → (need : Flow) (p : ℕ) → ends_in need (slice_get (slice_set rows n row) p) ≡ but_last (if b need && nat_eq n p then 1 else 0) (ends_in need (slice_get rows p))
  taken_at b e = set_at (λ c ends. but_last (if c then 1 else 0) ends) but_none b e

  pub kept_at : ((need : Flow) → row_ends need row ≡ row_ends need x) → (need : Flow) (p : ℕ) → ends_in need (slice_get (slice_set rows n row) p) ≡ ends_in need (slice_get rows p)
  kept_at e = set_at (λ c ends. ends) (λ ends. refl) (λ need. false) e

  -- what holds of the one pool, and of a pool that stays, holds of all
  pub set_all : (P : ℕ → Bool → Option SourceEnds → Option SourceEnds → Type 0) → ((p : ℕ) (o : Option SourceEnds) → P p false o o) → ((p : ℕ) → P p true (Some x) (Some row)) → (p : ℕ) → P p (nat_eq n p) (slice_get rows p) (slice_get (slice_set rows n row) p)
  set_all P others here p = go (nat_eq n p) refl
    where
      go : (q : Bool) → nat_eq n p ≡ q → P p q (slice_get rows p) (slice_get (slice_set rows n row) p)
      go true w =
          let same : n ≡ p = eqb-true n p w in
          subst (λ i. P p true (slice_get rows i) (slice_get (slice_set rows n row) i)) same
          (subst (λ o. P p true o (slice_get (slice_set rows n row) n)) (sym is) (subst (λ o. P p true (Some x) o) (sym (got_set rows n row within)) (here p)))
      go false w = subst (λ o. P p false (slice_get rows p) o) (sym (got_other rows n p row (eqb-false n p w))) (others p (slice_get rows p))

  pub room_kept : ((need : Flow) → row_room need x ≤ row_room need row) → (need : Flow) (p : ℕ) → room_in need (slice_get rows p) ≤ room_in need (slice_get (slice_set rows n row) p)
  room_kept e need p = set_all (λ p q o new. room_in need o ≤ room_in need new) (λ p o. omega arith) (λ p. e need) p

  pub begun_kept : row.begun ≡ x.begun → (p : ℕ) → begun_in (slice_get (slice_set rows n row) p) ≡ begun_in (slice_get rows p)
  begun_kept e p = set_all (λ p q o new. begun_in new ≡ begun_in o) (λ p o. refl) (λ p. e) p

  -- changed for the needs of some kinds
  pub changed_at : (f : List End → List End) (b : Flow → Bool) → ((need : Flow) → row_ends need row ≡ (if b need then f (row_ends need x) else row_ends need x))
      → (need : Flow) (p : ℕ) → ends_in need (slice_get (slice_set rows n row) p) ≡ (if b need && nat_eq n p then f (ends_in need (slice_get rows p)) else ends_in need (slice_get rows p))
  changed_at f b e need p = set_all (λ p q o new. ends_in need new ≡ (if b need && q then f (ends_in need o) else ends_in need o)) (λ p o. never (b need) (f (ends_in need o)) (ends_in need o)) (λ p. e need ∙ always (b need) (f (row_ends need x)) (row_ends need x)) p
    where
      never : (c : Bool) (xs ys : List End) → ys ≡ (if c && false then xs else ys)
      never true xs ys = refl
      never false xs ys = refl

      always : (c : Bool) (xs ys : List End) → (if c then xs else ys) ≡ (if c && true then xs else ys)
      always true xs ys = refl
      always false xs ys = refl

  pub changed_back : (f : List End → List End) (b : Flow → Bool) → ((need : Flow) → row_ends need x ≡ (if b need then f (row_ends need row) else row_ends need row))
      → (need : Flow) (p : ℕ) → ends_in need (slice_get rows p) ≡ (if b need && nat_eq n p then f (ends_in need (slice_get (slice_set rows n row) p)) else ends_in need (slice_get (slice_set rows n row) p))
  changed_back f b e need p = set_all (λ p q o new. ends_in need o ≡ (if b need && q then f (ends_in need new) else ends_in need new)) (λ p o. never (b need) (f (ends_in need o)) (ends_in need o)) (λ p. e need ∙ always (b need) (f (row_ends need row)) (row_ends need row)) p
    where
      never : (c : Bool) (xs ys : List End) → ys ≡ (if c && false then xs else ys)
      never true xs ys = refl
      never false xs ys = refl

      always : (c : Bool) (xs ys : List End) → (if c then xs else ys) ≡ (if c && true then xs else ys)
      always true xs ys = refl
      always false xs ys = refl

  pub begun_at_last : row.begun ≡ true → (p : ℕ) → begun_in (slice_get (slice_set rows n row) p) ≡ (begun_in (slice_get rows p) || nat_eq n p)
  begun_at_last e p = set_all (λ p q o new. begun_in new ≡ (begun_in o || q)) (λ p o. or_not (begun_in o)) (λ p. e ∙ or_so x.begun) p
    where
      or_not : (c : Bool) → c ≡ (c || false)
      or_not true = refl
      or_not false = refl

      or_so : (c : Bool) → true ≡ (c || true)
      or_so true = refl
      or_so false = refl

  pub begun_no_more : row.begun ≡ false → (p : ℕ) → begun_in (slice_get (slice_set rows n row) p) ≡ (not (nat_eq n p) && begun_in (slice_get rows p))
  begun_no_more e p = set_all (λ p q o new. begun_in new ≡ (not q && begun_in o)) (λ p o. refl) (λ p. e) p

-- a pool that isn't there has no references
pub none_past : (need : Flow) (rows : List SourceEnds) (n : ℕ) → length rows ≤ n → ends_in need (slice_get rows n) ≡ []
none_past need [] n l = refl
none_past need (x ∷ rows) zero l = absurd (omega arith)
none_past need (x ∷ rows) (suc n) l = none_past need rows n (omega arith)

pub past_at : (need : Flow) (rows : List SourceEnds) (n : ℕ) (f : List End → List End) (b : Bool) → length rows ≤ n → f [] ≡ [] → (p : ℕ) → ends_in need (slice_get rows p) ≡ (if b && nat_eq n p then f (ends_in need (slice_get rows p)) else ends_in need (slice_get rows p))
past_at need rows n f b l e p = go b (nat_eq n p) refl
  where
    nothing : (xs : List SourceEnds) (k : ℕ) → length xs ≤ k → slice_get xs k ≡ None
    nothing [] k l = refl
    nothing (x ∷ xs) zero l = absurd (omega arith)
    nothing (x ∷ xs) (suc k) l = nothing xs k (omega arith)

    go : (b q : Bool) → nat_eq n p ≡ q → ends_in need (slice_get rows p) ≡ (if b && q then f (ends_in need (slice_get rows p)) else ends_in need (slice_get rows p))
    go true true w =
        let same : n ≡ p = eqb-true n p w in
        let none : slice_get rows p ≡ None = nothing rows p (omega arith) in
        ap (ends_in need) none ∙ sym e ∙ ap (λ o. f (ends_in need o)) (sym none)
    go true false w = refl
    go false q w = refl

-- one more pool without a reference
pub none_more : (need : Flow) (rows : List SourceEnds) (row : SourceEnds) → row_ends need row ≡ [] → ((p : ℕ) → ends_in need (slice_get rows p) ≡ []) → (p : ℕ) → ends_in need (slice_get (rows ++ row ∷ []) p) ≡ []
none_more need [] row e h zero = e
none_more need [] row e h (suc p) = refl
none_more need (x ∷ rows) row e h zero = h 0
none_more need (x ∷ rows) row e h (suc p) = none_more need rows row e (λ q. h (suc q)) p

pub none_begun_more : (rows : List SourceEnds) (row : SourceEnds) → row.begun ≡ false → ((p : ℕ) → begun_in (slice_get rows p) ≡ false) → (p : ℕ) → begun_in (slice_get (rows ++ row ∷ []) p) ≡ false
none_begun_more [] row e h zero = e
none_begun_more [] row e h (suc p) = refl
none_begun_more (x ∷ rows) row e h zero = h 0
none_begun_more (x ∷ rows) row e h (suc p) = none_begun_more rows row e (λ q. h (suc q)) p
