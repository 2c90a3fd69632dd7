-- Rows that grow at one end and shrink at the other.
use Rattle.std.proofs.Common.{◌≡◌, ◌≢◌, ℕ, zero, suc, ◌+◌, ◌<◌, List, [], ◌∷◌, ◌++◌, length, get_or, refl, sym, ap, ◌∙◌, subst, ⊎_elim, arith, length-append}
use Rattle.std.proofs.lemmas.Bool.{cases_eq}
use Rattle.pst_workers.specs.Worked.{Backwards, Forwards, Onwards}

-- by cases, whether j is i
pub at_or : (P : ℕ → Type 0) (i j : ℕ) → P i → (j ≢ i → P j) → P j
at_or P i j here other = ⊎_elim (λ e. subst P (sym e) here) (λ n. other n) (cases_eq j i)

module _ {A : Type 0} where
  pub last_of : (l : List A) (a d : A) → get_or (l ++ a ∷ []) (length l) d ≡ a
  last_of [] a d = refl
  last_of (x ∷ xs) a d = last_of xs a d

  pub any_default : (l : List A) (i : ℕ) (d e : A) → i < length l → get_or l i d ≡ get_or l i e
  any_default [] i d e h = absurd (omega arith)
  any_default (x ∷ xs) zero d e h = refl
  any_default (x ∷ xs) (suc i) d e h = any_default xs i d e (omega arith)

  pub front_of : (l : List A) (a d : A) (k : ℕ) → k < length l → get_or (l ++ a ∷ []) k d ≡ get_or l k d
  front_of [] a d k h = absurd (omega arith)
  front_of (x ∷ xs) a d zero h = refl
  front_of (x ∷ xs) a d (suc k) h = front_of xs a d k (omega arith)

module _ {M C : Type 0} (fits : ℕ → M → C → Type 0) where
  pub backwards_more : (n k : ℕ) (cs : List C) (ms : List M) (c : C) → length cs + k + 1 ≡ n → ((e : M) → fits k (get_or ms k e) c) → Backwards fits n cs ms → Backwards fits n (cs ++ c ∷ []) ms
  backwards_more n k cs ms c count here b j i d e below is =
      let all : length (cs ++ c ∷ []) ≡ length cs + 1 = length-append cs (c ∷ []) in
      at_or (λ x. x + i + 1 ≡ n → x < length (cs ++ c ∷ []) → fits i (get_or ms i e) (get_or (cs ++ c ∷ []) x d)) (length cs) j
      (λ q _. let same : k ≡ i = omega arith in subst (λ (z : C). fits i (get_or ms i e) z) (sym (last_of cs c d)) (subst (λ x. fits x (get_or ms x e) c) same (here e)))
      (λ ne q h. let low : j < length cs = omega arith in subst (λ (z : C). fits i (get_or ms i e) z) (sym (front_of cs c d j low)) (b j i d e low q))
      is below

  pub backwards_less : (n : ℕ) (cs : List C) (ms : List M) (c : C) → Backwards fits n (cs ++ c ∷ []) ms → Backwards fits n cs ms
  backwards_less n cs ms c b j i d e below is = let all : length (cs ++ c ∷ []) ≡ length cs + 1 = length-append cs (c ∷ []) in
      subst (λ (z : C). fits i (get_or ms i e) z) (front_of cs c d j below) (b j i d e (omega arith) is)

  pub backwards_last : (n k : ℕ) (cs : List C) (ms : List M) (c : C) → length cs + k + 1 ≡ n → Backwards fits n (cs ++ c ∷ []) ms → (e : M) → fits k (get_or ms k e) c
  backwards_last n k cs ms c count b e = let all : length (cs ++ c ∷ []) ≡ length cs + 1 = length-append cs (c ∷ []) in
      subst (λ (z : C). fits k (get_or ms k e) z) (last_of cs c c) (b (length cs) k c e (omega arith) count)

  pub backwards_none : (n : ℕ) (ms : List M) → Backwards fits n [] ms
  backwards_none n ms j i d e below is = absurd (omega arith)

  pub forwards_more : (cs : List C) (ms : List M) (c : C) → ((e : M) → fits (length cs) (get_or ms (length cs) e) c) → Forwards fits cs ms → Forwards fits (cs ++ c ∷ []) ms
  forwards_more cs ms c here f k d e below =
      let all : length (cs ++ c ∷ []) ≡ length cs + 1 = length-append cs (c ∷ []) in
      at_or (λ x. x < length (cs ++ c ∷ []) → fits x (get_or ms x e) (get_or (cs ++ c ∷ []) x d)) (length cs) k
      (λ _. subst (λ (z : C). fits (length cs) (get_or ms (length cs) e) z) (sym (last_of cs c d)) (here e))
      (λ ne h. let low : k < length cs = omega arith in subst (λ (z : C). fits k (get_or ms k e) z) (sym (front_of cs c d k low)) (f k d e low))
      below

  pub onwards_all : (cs : List C) (ms : List M) → Forwards fits cs ms → Onwards fits 0 cs ms
  onwards_all cs ms f j k d e below is = let same : k ≡ j = omega arith in subst (λ i. fits i (get_or ms i e) (get_or cs j d)) (sym same) (f j d e below)

  pub onwards_first : (n : ℕ) (c : C) (cs : List C) (ms : List M) → Onwards fits n (c ∷ cs) ms → (e : M) → fits n (get_or ms n e) c
  onwards_first n c cs ms o e = o 0 n c e (omega arith) (omega arith)

  pub onwards_rest : (n : ℕ) (c : C) (cs : List C) (ms : List M) → Onwards fits n (c ∷ cs) ms → Onwards fits (n + 1) cs ms
  onwards_rest n c cs ms o j k d e below is = o (suc j) k d e (omega arith) (omega arith)

-- of a row that begins as another does, the last element and the others
module _ {A : Type 0} (l rest row : List A) (m : A) (is : l ≡ rest ++ m ∷ []) (begins : (k : ℕ) (d : A) → k < length l → get_or l k d ≡ get_or row k d) where
  pub last_begins : (e : A) → m ≡ get_or row (length rest) e
  last_begins e =
      let all : length l ≡ length rest + 1 = ap length is ∙ length-append rest (m ∷ []) in
      sym (ap (λ x. get_or x (length rest) e) is ∙ last_of rest m e) ∙ begins (length rest) e (omega arith)

  pub rest_begins : (k : ℕ) (d : A) → k < length rest → get_or rest k d ≡ get_or row k d
  rest_begins k d h =
      let all : length l ≡ length rest + 1 = ap length is ∙ length-append rest (m ∷ []) in
      sym (ap (λ x. get_or x k d) is ∙ front_of rest m d k h) ∙ begins k d (omega arith)
