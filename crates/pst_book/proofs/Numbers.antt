-- How many numbers have a property.
use Rattle.std.proofs.Common.{◌≡◌, ◌≢◌, ◌⊎◌, ℕ, zero, suc, ◌+◌, ◌<◌, ◌≤◌, List, [], ◌∷◌, length, refl, sym, ◌∙◌, subst, inl, inr, ⊎_elim, arith}
use Rattle.std.specs.Prelude.{Contains}
use Rattle.std.proofs.lemmas.List.Elements.{Contains-get_or}
use Rattle.std.proofs.lemmas.Bool.{cases_eq}
use Rattle.pst_book.specs.Tables.{AreSoManyOf}
use Rattle.pst_book.proofs.Elements.{none_in, cons_cases, cons_first, cons_rest, place_of}
use Rattle.pst_book.proofs.Lists.{Distinct, no_longer}

pub none_of_them : {P : ℕ → Type 0} → ((x : ℕ) → P x → ⊥) → AreSoManyOf P 0
none_of_them n =
    record { list = []; different = λ i j l m. absurd (omega (arith, m)); are = λ x. ((λ h. absurd (none_in x h)), (λ p. absurd (n x p))); many = refl }

-- none has it exactly where the number is 0
pub none_has : {P : ℕ → Type 0} {k : ℕ} → AreSoManyOf P k → k ≡ 0 → (x : ℕ) → P x → ⊥
none_has {k = k} n e x p =
    let q = place_of n.list x ((n.are x).1 p) in
    let m = n.many in
    let l : q.0 < length n.list = q.1 in
    omega (arith, l, m, e)

pub is_none : {P : ℕ → Type 0} {k : ℕ} → AreSoManyOf P k → ((x : ℕ) → P x → ⊥) → k ≡ 0
is_none {k = k} n f = empty n.list n.many (λ x h. f x ((n.are x).0 h))
  where
    empty : (xs : List ℕ) → length xs ≡ k → ((x : ℕ) → Contains xs x → ⊥) → k ≡ 0
    empty [] e g = sym e
    empty (x ∷ xs) e g = absurd (g x (cons_first x xs))

pub the_same : {P Q : ℕ → Type 0} {k : ℕ} → ((x : ℕ) → P x → Q x) → ((x : ℕ) → Q x → P x) → AreSoManyOf P k → AreSoManyOf Q k
the_same f g n = record { list = n.list; different = n.different; are = λ x. ((λ h. f x ((n.are x).0 h)), (λ q. (n.are x).1 (g x q))); many = n.many }

distinct_cons : (x : ℕ) (xs : List ℕ) → (Contains xs x → ⊥) → Distinct xs → Distinct (x ∷ xs)
distinct_cons x xs n d i zero l m = absurd (omega (arith, l))
distinct_cons x xs n d zero (suc j) l m = λ e. n (subst (λ v. Contains xs v) (sym e) (Contains-get_or xs j 0 (omega (arith, m))))
distinct_cons x xs n d (suc i) (suc j) l m = d i j (omega (arith, l)) (omega (arith, m))

-- one more has it
pub one_more_has : {P Q : ℕ → Type 0} {k : ℕ} (x : ℕ) → (P x → ⊥) → ((y : ℕ) → P y → Q y) → Q x → ((y : ℕ) → Q y → (y ≡ x) ⊎ P y) → AreSoManyOf P k → AreSoManyOf Q (k + 1)
one_more_has {Q = Q} {k = k} x n f q g s =
    let m = s.many in
    record {
      list = x ∷ s.list;
      different = distinct_cons x s.list (λ h. n ((s.are x).0 h)) s.different;
      are = λ y. (
        (λ h. ⊎_elim (λ e. subst (λ v. Q v) e q) (λ c. f y ((s.are y).0 c)) (cons_cases x y s.list h)),
        (λ w. ⊎_elim (λ e. subst (λ v. Contains (x ∷ s.list) v) (sym e) (cons_first x s.list)) (λ p. cons_rest x y s.list ((s.are y).1 p)) (g y w)),
      );
      many = omega (arith, m);
    }

-- one less has it
record Without (xs : List ℕ) (x : ℕ) : Type 0 where
  rest : List ℕ
  shorter : length xs ≡ length rest + 1
  different : Distinct rest
  kept : (y : ℕ) → Contains xs y → y ≢ x → Contains rest y
  only : (y : ℕ) → Contains rest y → Contains xs y × (y ≢ x)

tail_different : (x : ℕ) (xs : List ℕ) → Distinct (x ∷ xs) → Distinct xs
tail_different x xs d i j l m = d (suc i) (suc j) (omega (arith, l)) (omega (arith, m))

head_other : (x y : ℕ) (xs : List ℕ) → Distinct (x ∷ xs) → Contains xs y → x ≢ y
head_other x y xs d h e =
    let p = place_of xs y h in
    let l : suc p.0 < suc (length xs) = omega (arith, p.1) in
    d 0 (suc p.0) (omega arith) l (e ∙ sym p.2)

without : (xs : List ℕ) (x : ℕ) → Distinct xs → Contains xs x → Without xs x
without [] x d h = absurd (none_in x h)
without (y ∷ ys) x d h = by_case (cases_eq y x) (λ k. without ys x (tail_different y ys d) k) (cons_cases y x ys h)
  where
    by_case : (y ≡ x) ⊎ (y ≡ x → ⊥) → (Contains ys x → Without ys x) → (y ≡ x) ⊎ Contains ys x → Without (y ∷ ys) x
    by_case (inl e) r c =
        record {
          rest = ys;
          shorter = omega arith;
          different = tail_different y ys d;
          kept = λ z k n. ⊎_elim (λ f. absurd (n (sym f ∙ e))) (λ k. k) (cons_cases y z ys k);
          only = λ z k. (cons_rest y z ys k, λ f. head_other y z ys d k (e ∙ sym f));
        }
    by_case (inr n) r c =
        let w = r (⊎_elim (λ e. absurd (n e)) (λ k. k) c) in
        let s = w.shorter in
        record {
          rest = y ∷ w.rest;
          shorter = omega (arith, s);
          different = distinct_cons y w.rest (λ k. head_other y y ys d (w.only y k).0 refl) w.different;
          kept = λ z k m. ⊎_elim (λ f. subst (λ v. Contains (y ∷ w.rest) v) f (cons_first y w.rest)) (λ q. cons_rest y z w.rest (w.kept z q m)) (cons_cases y z ys k);
          only = λ z k. ⊎_elim (λ f. (subst (λ v. Contains (y ∷ ys) v) f (cons_first y ys), λ g. n (f ∙ g))) (λ q. let o = w.only z q in (cons_rest y z ys o.0, o.1)) (cons_cases y z w.rest k);
        }

pub one_less_has : {P Q : ℕ → Type 0} {k : ℕ} (x new : ℕ) → P x → ((y : ℕ) → Q y → P y × (y ≢ x)) → ((y : ℕ) → P y → y ≢ x → Q y) → new + 1 ≡ k → AreSoManyOf P k → AreSoManyOf Q new
one_less_has {k = k} x new p f g e s =
    let w = without s.list x s.different ((s.are x).1 p) in
    let a = s.many in
    let b = w.shorter in
    record {
      list = w.rest;
      different = w.different;
      are = λ y. ((λ h. let o = w.only y h in g y ((s.are y).0 o.0) o.1), (λ q. let o = f y q in w.kept y ((s.are y).1 o.0) o.1));
      many = omega (arith, a, b, e);
    }

pub some_has : {P : ℕ → Type 0} {k : ℕ} (x : ℕ) → P x → AreSoManyOf P k → 0 < k
some_has {k = k} x p s = let q = place_of s.list x ((s.are x).1 p) in let m = s.many in omega (arith, q.1, m)

-- no more than a list has them
pub at_most : {P : ℕ → Type 0} {k : ℕ} (xs : List ℕ) → ((x : ℕ) → P x → Contains xs x) → AreSoManyOf P k → k ≤ length xs
at_most {k = k} xs f s = let l = no_longer s.list xs s.different (λ v c. f v ((s.are v).0 c)) in let m = s.many in omega (arith, l, m)

-- the numbers below a bound
numbers : ℕ → ℕ → List ℕ
numbers a zero = []
numbers a (suc k) = a ∷ numbers (suc a) k

length-numbers : (a k : ℕ) → length (numbers a k) ≡ k
unfolding numbers
length-numbers a zero = refl
length-numbers a (suc k) = let e = length-numbers (suc a) k in omega (arith, e)

in_numbers : (a k x : ℕ) → a ≤ x → x < a + k → Contains (numbers a k) x
unfolding numbers
in_numbers a zero x l m = absurd (omega (arith, l, m))
in_numbers a (suc k) x l m =
    ⊎_elim (λ e. subst (λ v. Contains (a ∷ numbers (suc a) k) v) e (cons_first a (numbers (suc a) k)))
    (λ n. cons_rest a x (numbers (suc a) k) (in_numbers (suc a) k x (omega (arith, l, n)) (omega (arith, m)))) (cases_eq a x)

pub at_most_bound : {P : ℕ → Type 0} {k : ℕ} (n : ℕ) → ((x : ℕ) → P x → x < n) → AreSoManyOf P k → k ≤ n
at_most_bound n f s =
    let l = at_most (numbers 0 n) (λ x p. let q = f x p in in_numbers 0 n x (omega arith) (omega (arith, q))) s in
    let e = length-numbers 0 n in
    omega (arith, l, e)

pub numbers_below : (n : ℕ) → AreSoManyOf (λ x. x < n) n
numbers_below zero = none_of_them (λ x l. omega (arith, l))
numbers_below (suc n) =
    let e : n + 1 ≡ suc n = omega arith in
    subst (λ k. AreSoManyOf (λ x. x < suc n) k) e
    (one_more_has n (λ l. omega (arith, l)) (λ y l. omega (arith, l)) (omega arith) (λ y l. ⊎_elim (λ q. inl q) (λ q. inr (omega (arith, l, q))) (cases_eq y n)) (numbers_below n))
