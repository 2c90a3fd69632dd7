-- Numbers that are added to lists and to rows.
use Rattle.std.proofs.Common.{◌≡◌, ◌⊎◌, inl, inr, ℕ, zero, suc, ◌+◌, ◌<◌, ◌≤◌, List, [], ◌∷◌, ◌++◌, length, set, length-set, get_or, Some, refl, sym, ap, subst, ◌∙◌, arith}
use Rattle.std.specs.Prelude.{slice_get, Contains}
use Rattle.std.specs.Global.{Vec}
use Rattle.std.proofs.lemmas.List.{length_push, get_or_default}
use Rattle.std.proofs.lemmas.List.Elements.{Contains-get_or, Contains-append_left, Contains-append_right, Contains-append_cases}
use Rattle.pst_expr.specs.declared.tree.BinaryOp.{BinaryOp}
use Rattle.pst_expr.specs.Tree.{Expression, Binary}
use Rattle.pst_narrow.specs.Mentions.{IsElement, Mentions, AreNoted}
use Rattle.pst_narrow.specs.Watch.{Rows, Has, AreAdded, IsNumbered, AreWatched}

in_last : (xs : List ℕ) (y : ℕ) → Contains (xs ++ y ∷ []) y
in_last xs y = Contains-append_right xs (y ∷ []) y (0, omega arith, refl)

only_one : (x y : ℕ) → Contains (y ∷ []) x → x ≡ y
only_one x y (k, small, e) = let first : k ≡ 0 = omega arith in sym e ∙ ap (λ j. get_or (y ∷ []) j x) first

pub noted_nothing : (P : ℕ → Type 0) (xs : List ℕ) → ((v : ℕ) → P v → ⊥) → AreNoted P xs xs
noted_nothing P xs none = record { kept = λ v h. h; added = λ v p. absurd (none v p); only = λ v h. inl h }

pub noted_one : (xs ys : List ℕ) (y : ℕ) → ys ≡ xs ++ y ∷ [] → AreNoted (λ v. v ≡ y) xs ys
noted_one xs ys y e =
    record {
      kept = λ v h. subst (λ zs. Contains zs v) (sym e) (Contains-append_left xs (y ∷ []) v h);
      added = λ v p. subst (λ zs. Contains zs v) (sym e) (subst (Contains (xs ++ y ∷ [])) (sym p) (in_last xs y));
      only = λ v h. elim (Contains-append_cases xs (y ∷ []) v (subst (λ zs. Contains zs v) e h)) [ inl l ↦ inl l | inr r ↦ inr (only_one v y r) ];
    }

pub noted_then : (P Q R : ℕ → Type 0) (xs ys zs : List ℕ) → ((v : ℕ) → P v → R v) → ((v : ℕ) → Q v → R v) → ((v : ℕ) → R v → P v ⊎ Q v) → AreNoted P xs ys → AreNoted Q ys zs → AreNoted R xs zs
noted_then P Q R xs ys zs first second each h k =
    record {
      kept = λ v c. k.kept v (h.kept v c);
      added = λ v r. elim (each v r) [ inl p ↦ k.kept v (h.added v p) | inr q ↦ k.added v q ];
      only = λ v c. elim (k.only v c) [ inl d ↦ elim (h.only v d) [ inl o ↦ inl o | inr p ↦ inr (first v p) ] | inr q ↦ inr (second v q) ];
    }

-- the variables of a right operand, and then those of the left one
pub noted_right_first : (op : BinaryOp) (l r : Expression) (xs ys zs : List ℕ) → AreNoted (Mentions r) xs ys → AreNoted (Mentions l) ys zs → AreNoted (Mentions (Binary op l r)) xs zs
noted_right_first op l r xs ys zs first second =
    noted_then (Mentions r) (Mentions l) (Mentions (Binary op l r)) xs ys zs (λ v p. inr p) (λ v q. inl q) (λ v h. elim h [ inl p ↦ inr p | inr q ↦ inl q ]) first second

-- ---- rows

some_is : {X : Type 0} (x y : X) → Some x ≡ Some y → x ≡ y
some_is x y e = cc

at_set : {X : Type 0} (xs : List X) (t : ℕ) (y : X) → t < length xs → slice_get (set xs t y) t ≡ Some y
at_set [] t y l = absurd (omega arith)
at_set (x ∷ xs) zero y l = refl
at_set (x ∷ xs) (suc t) y l = at_set xs t y (omega arith)

beside_set : {X : Type 0} (xs : List X) (t i : ℕ) (y : X) → (i ≡ t → ⊥) → slice_get (set xs t y) i ≡ slice_get xs i
beside_set [] t i y n = refl
beside_set (x ∷ xs) zero zero y n = absurd (n refl)
beside_set (x ∷ xs) zero (suc i) y n = refl
beside_set (x ∷ xs) (suc t) zero y n = refl
beside_set (x ∷ xs) (suc t) (suc i) y n = beside_set xs t i y (λ e. n (ap suc e))

same_or : (i k : ℕ) → (i ≡ k) ⊎ (i ≡ k → ⊥)
same_or i k = grind arith

same_items : (g : Rows) (a k : ℕ) (u v : Vec ℕ) → a ≡ k → slice_get g a ≡ Some u → slice_get g k ≡ Some v → u.items ≡ v.items
same_items g a k u v e at there = ap (λ (x : Vec ℕ). x.items) (some_is u v (sym at ∙ subst (λ (x : ℕ). slice_get g x ≡ Some v) (sym e) there))

-- one more in a row
pub pushed : (g : Rows) (at to : ℕ) (v w : Vec ℕ) → at < length g → slice_get g at ≡ Some v → w.items ≡ v.items ++ to ∷ [] → AreAdded (λ a b. (a ≡ at) × (b ≡ to)) g (set g at w)
pushed g at to v w l there items =
    record {
      long = length-set g at w;
      kept = λ a b (u, is, i). elim (same_or a at) [
        | inl e ↦ (w, subst (λ (x : ℕ). slice_get (set g at w) x ≡ Some w) (sym e) (at_set g at w l), subst (λ zs. Contains zs b) (sym items) (Contains-append_left v.items (to ∷ []) b (subst (λ zs. Contains zs b) (same_items g a at u v e is there) i)))
        | inr n ↦ (u, beside_set g at a w n ∙ is, i)
      ];
      added = λ a b (p, q). (w, subst (λ (x : ℕ). slice_get (set g at w) x ≡ Some w) (sym p) (at_set g at w l), subst (Contains w.items) (sym q) (subst (λ zs. Contains zs to) (sym items) (in_last v.items to)));
      only = λ a b (u, is, i). elim (same_or a at) [
        | inl e ↦
            let i : Contains (v.items ++ to ∷ []) b = subst (λ zs. Contains zs b) (same_items (set g at w) a at u w e is (at_set g at w l) ∙ items) i in
            elim (Contains-append_cases v.items (to ∷ []) b i) [
              | inl j ↦ inl (v, subst (λ (x : ℕ). slice_get g x ≡ Some v) (sym e) there, j)
              | inr j ↦ inr (e, only_one b to j)
            ]
        | inr n ↦ inl (u, sym (beside_set g at a w n) ∙ is, i)
      ];
    }

pub added_nothing : (P : ℕ → ℕ → Type 0) (g : Rows) → ((a b : ℕ) → P a b → ⊥) → AreAdded P g g
added_nothing P g none = record { long = refl; kept = λ a b h. h; added = λ a b p. absurd (none a b p); only = λ a b h. inl h }

pub added_then : (P Q R : ℕ → ℕ → Type 0) (old mid new : Rows) → ((a b : ℕ) → P a b → R a b) → ((a b : ℕ) → Q a b → R a b) → ((a b : ℕ) → R a b → P a b ⊎ Q a b) → AreAdded P old mid → AreAdded Q mid new → AreAdded R old new
added_then P Q R old mid new first second each h k =
    record {
      long = k.long ∙ h.long;
      kept = λ a b e. k.kept a b (h.kept a b e);
      added = λ a b r. elim (each a b r) [ inl p ↦ k.kept a b (h.added a b p) | inr q ↦ k.added a b q ];
      only = λ a b e. elim (k.only a b e) [ inl m ↦ elim (h.only a b m) [ inl o ↦ inl o | inr p ↦ inr (first a b p) ] | inr q ↦ inr (second a b q) ];
    }

pub added_as : (P Q : ℕ → ℕ → Type 0) (old new : Rows) → ((a b : ℕ) → P a b → Q a b) → ((a b : ℕ) → Q a b → P a b) → AreAdded P old new → AreAdded Q old new
added_as P Q old new to from h =
    record { long = h.long; kept = h.kept; added = λ a b q. h.added a b (from a b q); only = λ a b e. elim (h.only a b e) [ inl o ↦ inl o | inr p ↦ inr (to a b p) ] }

pub noted_as : (P Q : ℕ → Type 0) (xs ys : List ℕ) → ((v : ℕ) → P v → Q v) → ((v : ℕ) → Q v → P v) → AreNoted P xs ys → AreNoted Q xs ys
noted_as P Q xs ys to from h = record { kept = h.kept; added = λ v q. h.added v (from v q); only = λ v c. elim (h.only v c) [ inl o ↦ inl o | inr p ↦ inr (to v p) ] }

-- ---- the elements of an array, one after another

below_or : (i n : ℕ) → i < n + 1 → (i < n) ⊎ (i ≡ n)
below_or i n h = grind arith

pub no_elements : (first : ℕ) (xs : List ℕ) → AreNoted (IsElement first 0) xs xs
no_elements first xs = noted_nothing (IsElement first 0) xs (λ v (j, small, e). omega arith)

pub elements_more : (first i : ℕ) (xs ys zs : List ℕ) → AreNoted (IsElement first i) xs ys → zs ≡ ys ++ (first + i) ∷ [] → AreNoted (IsElement first (i + 1)) xs zs
elements_more first i xs ys zs h e =
    noted_then (IsElement first i) (λ v. v ≡ first + i) (IsElement first (i + 1)) xs ys zs
    (λ v (j, small, is). (j, omega arith, is))
    (λ v is. (i, omega arith, is))
    (λ v (j, small, is). elim (below_or j i small) [ inl less ↦ inl (j, less, is) | inr last ↦ inr (is ∙ ap (λ k. first + k) last) ])
    h (noted_one ys zs (first + i) e)

-- ---- a further row

get_left : {X : Type 0} (xs ys : List X) (i : ℕ) (x : X) → slice_get xs i ≡ Some x → slice_get (xs ++ ys) i ≡ Some x
get_left [] ys i x e = absurd cc
get_left (z ∷ xs) ys zero x e = e
get_left (z ∷ xs) ys (suc i) x e = get_left xs ys i x e

get_last : {X : Type 0} (xs : List X) (y : X) → slice_get (xs ++ y ∷ []) (length xs) ≡ Some y
get_last [] y = refl
get_last (x ∷ xs) y = get_last xs y

left_or_last : {X : Type 0} (xs : List X) (y : X) (i : ℕ) (x : X) → slice_get (xs ++ y ∷ []) i ≡ Some x → (slice_get xs i ≡ Some x) ⊎ (y ≡ x)
left_or_last [] y zero x e = inr (some_is y x e)
left_or_last [] y (suc i) x e = absurd cc
left_or_last (z ∷ xs) y zero x e = inl e
left_or_last (z ∷ xs) y (suc i) x e = left_or_last xs y i x e

pub none_more : (g h : Rows) (v : Vec ℕ) → h ≡ g ++ v ∷ [] → v.items ≡ [] → ((a b : ℕ) → Has g a b → ⊥) → (a b : ℕ) → Has h a b → ⊥
none_more g h v e empty none a b (u, at, in') = elim (left_or_last g v a u (subst (λ (x : Rows). slice_get x a ≡ Some u) e at)) [
  | inl there ↦ none a b (u, there, in')
  | inr same ↦ no_number b (subst (λ zs. Contains zs b) (ap (λ (x : Vec ℕ). x.items) (sym same) ∙ empty) in')
]
  where
    no_number : (n : ℕ) → Contains [] n → ⊥
    no_number n (k, small, is) = omega arith

pub no_number : (xs : List ℕ) (n : ℕ) → xs ≡ [] → Contains xs n → ⊥
no_number xs n e (k, small, is) = omega (arith, ap length e)

same_numbered : (es : List Expression) (i : ℕ) (d e : Expression) → IsNumbered es i d → IsNumbered es i e → d ≡ e
same_numbered es i d e p q = some_is d e (sym p ∙ q)

pub watched_nothing : (es : List Expression) (n : ℕ) (mentioned watching : Rows) → mentioned ≡ [] → length watching ≡ n → ((a b : ℕ) → Has watching a b → ⊥) → AreWatched es 0 n mentioned watching
watched_nothing es n mentioned watching empty long none =
    record {
      lists = ap length empty;
      rows = long;
      mentions = λ c v e small. absurd (omega arith);
      watched = λ c v e small. absurd (omega arith);
      numbers = λ v c h. absurd (none v c h);
      small = λ c v (row, at, in'). absurd (let none : slice_get [] c ≡ Some row = subst (λ (x : Rows). slice_get x c ≡ Some row) empty at in cc);
    }

pub watched_one : (es : List Expression) (i n : ℕ) (e : Expression) (old new w v : Rows) (row : Vec ℕ) (start : List ℕ) → IsNumbered es i e → ((x : ℕ) → Mentions e x → x < n) → start ≡ [] → AreNoted (Mentions e) start row.items → AreAdded (λ a b. Contains row.items a × (b ≡ i)) w v → new ≡ old ++ row ∷ [] → AreWatched es i n old w → AreWatched es (i + 1) n new v
watched_one es i n e old new w v row start num below none noted added is h =
    record {
      lists = ap length is ∙ (length_push old row ∙ ap (λ k. k + 1) h.lists);
      rows = added.long ∙ h.rows;
      mentions = λ c x d small at m. elim (below_or c i small) [
        | inl less ↦ let old_one = h.mentions c x d less at m in (old_one.0, subst (λ (y : Rows). slice_get y c ≡ Some old_one.0) (sym is) (get_left old (row ∷ []) c old_one.0 old_one.1), old_one.2)
        | inr last ↦ (row, subst (λ (y : Rows). slice_get y c ≡ Some row) (sym is) (subst (λ k. slice_get (old ++ row ∷ []) k ≡ Some row) (h.lists ∙ sym last) (get_last old row)), noted.added x (here c d x last at m))
      ];
      watched = λ c x d small at m. elim (below_or c i small) [
        | inl less ↦ added.kept x c (h.watched c x d less at m)
        | inr last ↦ added.added x c (noted.added x (here c d x last at m), last)
      ];
      numbers = λ x c has. elim (added.only x c has) [ inl o ↦ (let less = h.numbers x c o in omega arith) | inr (in', last) ↦ omega arith ];
      small = λ c x (u, at, in'). elim (left_or_last old row c u (subst (λ (y : Rows). slice_get y c ≡ Some u) is at)) [
        | inl there ↦ h.small c x (u, there, in')
        | inr same ↦ elim (noted.only x (subst (λ (r : Vec ℕ). Contains r.items x) (sym same) in')) [ inl o ↦ absurd (no_number start x none o) | inr m ↦ below x m ]
      ];
    }
  where
    here : (c : ℕ) (d : Expression) (x : ℕ) → c ≡ i → IsNumbered es c d → Mentions d x → Mentions e x
    here c d x last at m = subst (λ y. Mentions y x) (same_numbered es i d e (subst (λ k. IsNumbered es k d) last at) num) m

-- ---- a number for each of some rows

-- one of the first k places, and the number
abbrev pub IsForFirst : ℕ → List ℕ → ℕ → ℕ → ℕ → Type 0
IsForFirst k places number a b = ((j : ℕ) × (j < k) × (get_or places j a ≡ a)) × (b ≡ number)

pub for_none : (places : List ℕ) (number : ℕ) (g : Rows) → AreAdded (IsForFirst 0 places number) g g
for_none places number g = added_nothing (IsForFirst 0 places number) g (λ a b ((j, small, at), e). omega arith)

pub for_more : (k : ℕ) (places : List ℕ) (place number : ℕ) (old mid new : Rows) → k < length places → place ≡ get_or places k place → AreAdded (IsForFirst k places number) old mid → AreAdded (λ a b. (a ≡ place) × (b ≡ number)) mid new → AreAdded (IsForFirst (k + 1) places number) old new
for_more k places place number old mid new below is h one =
    added_then (IsForFirst k places number) (λ a b. (a ≡ place) × (b ≡ number)) (IsForFirst (k + 1) places number) old mid new
    (λ a b ((j, small, at), e). ((j, omega arith, at), e))
    (λ a b (same, e). ((k, omega arith, get_or_default places k a place below ∙ (sym is ∙ sym same)), e))
    (λ a b ((j, small, at), e). elim (below_or j k small) [
      | inl less ↦ inl ((j, less, at), e)
      | inr last ↦ inr (sym at ∙ (ap (λ i. get_or places i a) last ∙ (get_or_default places k a place below ∙ sym is)), e)
    ])
    h one

pub for_all : (k : ℕ) (places : List ℕ) (number : ℕ) (old new : Rows) → length places ≤ k → k ≤ length places → AreAdded (IsForFirst k places number) old new → AreAdded (λ a b. Contains places a × (b ≡ number)) old new
for_all k places number old new end within =
    added_as (IsForFirst k places number) (λ a b. Contains places a × (b ≡ number)) old new
    (λ a b ((j, small, at), e). ((j, omega arith, at), e))
    (λ a b ((j, small, at), e). ((j, omega arith, at), e))

pub noted_both : (P Q : ℕ → Type 0) (xs ys zs : List ℕ) → AreNoted P xs ys → AreNoted Q ys zs → AreNoted (λ v. P v ⊎ Q v) xs zs
noted_both P Q xs ys zs h k = noted_then P Q (λ v. P v ⊎ Q v) xs ys zs (λ v p. inl p) (λ v q. inr q) (λ v r. r) h k

-- the number at an index
pub item_in : (xs : List ℕ) (k : ℕ) → k < length xs → Contains xs (get_or xs k 0)
item_in xs k below = Contains-get_or xs k 0 below

pub item_is : (xs : List ℕ) (k : ℕ) → k < length xs → get_or xs k 0 ≡ get_or xs k (get_or xs k 0)
item_is xs k below = get_or_default xs k 0 (get_or xs k 0) below
