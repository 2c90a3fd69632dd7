-- Actions that are kept with open references.
use Rattle.std.proofs.Common.{◌≡◌, ◌⊎◌, ℕ, zero, suc, ◌+◌, ◌<◌, ◌≤◌, List, [], ◌∷◌, ◌++◌, map, length, take, drop, Some, refl, sym, ap, ap₂, ◌∙◌, subst, inl, inr, ⊎_elim, length-append, take-append-drop, arith}
use Rattle.std.specs.Prelude.{slice_get}
use Rattle.std.proofs.lemmas.Bool.{cases_lt}
use Rattle.std.proofs.lemmas.List.{length-map, take_all, take-append-le}
use Rattle.std.proofs.lemmas.Option.{none-some, same_Some}
use Rattle.pst_model.specs.declared.model.Model.{Model}
use Rattle.pst_model.specs.ModelView.{view_model}
use Rattle.pst_scen.specs.declared.act.Act.{Act}
use Rattle.pst_scen.specs.declared.next.Next.TheVariants as next
use Rattle.pst_scen.specs.declared.scenario.Scenario.{Scenario}
use Rattle.pst_legal.specs.Reading.{Reading, Wants, Stops, Reads}
use Rattle.pst_legal.specs.ValueReading.{Answer, Options, Dead, Whole, answer_of}
use Rattle.pst_built.proofs.Goes.{Stands as Relates}
use Rattle.pst_built.proofs.Parents.{get_more}
use Rattle.pst_shape_parts.specs.Trees.{bare}
use Rattle.pst_shape.specs.Walks.{IfRead, HasDigit, next_of}
use Rattle.pst_open_ends.specs.Changes.{opened}
use Rattle.pst_link_walk.specs.Walks.{tree_reading}
use Rattle.pst_link_walk.specs.Made.{IsInside}
use Rattle.pst_link_walk.specs.Opened.{Agree, AreOpened, IsOptions}
use Rattle.pst_link_walk.proofs.Answering.{opened_acts}
use Rattle.pst_link_walk.proofs.Grown.{Grown, grown_on}

-- ---- lists

get_take : {A : Type 0} (n : ℕ) (xs : List A) (k : ℕ) (x : A) → slice_get (take n xs) k ≡ Some x → (k < n) × (slice_get xs k ≡ Some x)
get_take zero xs k x is = absurd (none-some x is)
get_take (suc n) [] k x is = absurd (none-some x is)
get_take (suc n) (y ∷ ys) zero x is = (omega arith, is)
get_take (suc n) (y ∷ ys) (suc k) x is = let r = get_take n ys k x is in (let l = r.0 in omega (arith, l), r.1)

get_parts : {A : Type 0} (xs ys : List A) (k : ℕ) (x : A) → slice_get (xs ++ drop (length xs) ys) k ≡ Some x → (slice_get xs k ≡ Some x) ⊎ (slice_get ys k ≡ Some x)
get_parts [] ys k x is = inr is
get_parts (z ∷ zs) ys zero x is = inl is
get_parts (z ∷ zs) [] (suc k) x is = ⊎_elim (λ e. inl e) (λ e. absurd (none-some x e)) (get_parts zs [] k x (subst (λ l. slice_get (zs ++ l) k ≡ Some x) (sym (no_drop (length zs))) is))
  where
    no_drop : {B : Type 0} (n : ℕ) → ◌≡◌ {A = List B} (drop n []) []
    no_drop zero = refl
    no_drop (suc n) = refl
get_parts (z ∷ zs) (y ∷ ys) (suc k) x is = get_parts zs ys k x is

there : {A : Type 0} (xs : List A) (n : ℕ) → n < length xs → (x : A) × (slice_get xs n ≡ Some x)
there [] n l = absurd (omega (arith, l))
there (x ∷ xs) zero l = (x, refl)
there (x ∷ xs) (suc n) l = there xs n (omega (arith, l))

same_all : (xs ys : List Act) → length xs ≡ length ys → Agree xs ys → xs ≡ ys
same_all [] [] long agree = refl
same_all [] (y ∷ ys) long agree = absurd (omega (arith, long))
same_all (x ∷ xs) [] long agree = absurd (omega (arith, long))
same_all (x ∷ xs) (y ∷ ys) long agree = ap₂ (λ z zs. z ∷ zs) (agree 0 x y refl refl) (same_all xs ys (omega (arith, long)) (λ k a b is at. agree (suc k) a b is at))

-- ---- places

digit_wants : (r : Reading) (d : ℕ) → HasDigit (answer_of r) d → (s : Scenario) × (n : ℕ) × (r ≡ Wants s n)
digit_wants (Wants s n) d has = (s, n, refl)
digit_wants Stops d has = absurd has
digit_wants (Reads s q []) d has = absurd has
digit_wants (Reads s q (x ∷ left)) d has = absurd has

options_want : (r : Reading) → IsOptions (answer_of r) → (s : Scenario) × (n : ℕ) × (r ≡ Wants s n)
options_want (Wants s n) is = (s, n, refl)
options_want Stops is = absurd is
options_want (Reads s q []) is = absurd is
options_want (Reads s q (x ∷ left)) is = absurd is

pub options_next : (a : Answer) (k : ℕ) → next.Options k ≡ next_of a → IsOptions a
options_next (Options s n) k e = tt
options_next Dead k e = absurd cc
options_next (Whole s) k e = absurd cc

module _ (m : Model) (root seed level : ℕ) where
  abbrev T : List ℕ → Reading
  T xs = tree_reading m root seed level xs

  -- what a beginning reads stands in what the whole reads
  acts_stay : (xs ys zs : List ℕ) (s t : Scenario) (n k : ℕ) → xs ++ ys ≡ zs → T xs ≡ Wants s n → T zs ≡ Wants t k → (j : ℕ) (x : Act) → slice_get s.actions j ≡ Some x → slice_get t.actions j ≡ Some x
  acts_stay xs ys zs s t n k all is at j x there =
      let grows : Grown s t = subst (Relates Grown s) (ap T all ∙ at) (grown_on (view_model m) seed root level xs ys s n is) in
      subst (λ acts. slice_get acts j ≡ Some x) (sym grows.acts) (get_more s.actions grows.more j x there)

  pub opened_none : (xs : List ℕ) → AreOpened m root seed level xs []
  opened_none xs = λ k s n l is j x y at of. absurd (none-some x at)

  pub opened_back : (xs ys : List ℕ) (d : ℕ) (kept : List Act) → xs ≡ ys ++ d ∷ [] → AreOpened m root seed level xs kept → AreOpened m root seed level ys kept
  opened_back xs ys d kept e opens = λ k s n l is.
      let long = length-append ys (d ∷ []) in
      let longer : length xs ≡ length (ys ++ d ∷ []) = ap length e in
      opens k s n (omega (arith, l, long, longer)) (ap T (ap (take k) e ∙ take-append-le k ys (d ∷ []) l) ∙ is)

  -- behind one choice more
  pub opened_next : (xs : List ℕ) (d : ℕ) (kept leaves : List Act) → HasDigit (answer_of (T xs)) d → IfRead (answer_of (T xs)) (λ s. leaves ≡ map bare s.actions) → AreOpened m root seed level xs kept → AreOpened m root seed level (xs ++ d ∷ []) (take (length leaves) kept)
  opened_next xs d kept leaves has same opens = λ k s n l is j x y at of.
      let old = get_take (length leaves) kept j x at in
      ⊎_elim
      (λ below.
      let short : k ≤ length xs = omega (arith, below) in
      opens k s n short (ap T (sym (take-append-le k xs (d ∷ []) short)) ∙ is) j x y old.1 of)
      (λ above.
      let w = digit_wants (T xs) d has in
      let first = w.0 in
      let count : leaves ≡ map bare first.actions = subst (λ r. IfRead (answer_of r) (λ s. leaves ≡ map bare s.actions)) w.2 same in
      let many : length leaves ≡ length first.actions = ap length count ∙ length-map first.actions bare in
      let under = old.0 in
      let z = there first.actions j (omega (arith, many, under)) in
      let whole : take (length xs) xs ≡ xs = take_all (length xs) xs (omega arith) in
      let one : x ≡ z.0 = opens (length xs) first w.1 (omega arith) (ap T whole ∙ w.2) j x z.0 old.1 z.1 in
      let long = length-append xs (d ∷ []) in
      let all : take k (xs ++ d ∷ []) ≡ xs ++ d ∷ [] = take_all k (xs ++ d ∷ []) (omega (arith, long, above)) in
      one ∙ same_Some z.0 y (sym (acts_stay xs (d ∷ []) (xs ++ d ∷ []) first s w.1 n refl w.2 (ap T (sym all) ∙ is) j z.0 z.1) ∙ of))
      (cases_lt k (length xs + 1))

  -- with all leaves opened
  pub opened_more : (xs : List ℕ) (kept leaves acts : List Act) → IsOptions (answer_of (T xs)) → IfRead (answer_of (T xs)) (λ s. leaves ≡ map bare s.actions) → acts ≡ kept ++ drop (length kept) (map (opened (view_model m)) leaves)
      → AreOpened m root seed level xs kept → AreOpened m root seed level xs acts
  opened_more xs kept leaves acts place same new opens = λ k s n l is j x y at of.
      let w = options_want (T xs) place in
      let all : map (opened (view_model m)) leaves ≡ w.0.actions = subst (λ r. IfRead (answer_of r) (λ s. map (opened (view_model m)) leaves ≡ s.actions)) w.2 (opened_acts m root seed level xs leaves (map (opened (view_model m)) leaves) refl same) in
      let parts = get_parts kept w.0.actions j x (subst (λ zs. slice_get zs j ≡ Some x) (new ∙ ap (λ zs. kept ++ drop (length kept) zs) all) at) in
      let now : slice_get w.0.actions j ≡ Some y = acts_stay (take k xs) (drop k xs) xs s w.0 n w.1 (take-append-drop k xs) is w.2 j y of in
      let whole : take (length xs) xs ≡ xs = take_all (length xs) xs (omega arith) in
      ⊎_elim (λ old. opens (length xs) w.0 w.1 (omega arith) (ap T whole ∙ w.2) j x y old now) (λ fresh. same_Some x y (sym fresh ∙ now)) parts

  whole_by : (r : Reading) (xs : List ℕ) (kept leaves : List Act) → T xs ≡ r → IsInside r → IfRead (answer_of r) (λ s. leaves ≡ map bare s.actions) → length kept ≡ length leaves → AreOpened m root seed level xs kept → IfRead (answer_of r) (λ s. kept ≡ s.actions)
  whole_by (Wants s n) xs kept leaves is inside same long opens =
      let whole : take (length xs) xs ≡ xs = take_all (length xs) xs (omega arith) in
      same_all kept s.actions (long ∙ ap length same ∙ length-map s.actions bare) (opens (length xs) s n (omega arith) (ap T whole ∙ is))
  whole_by Stops xs kept leaves is inside same long opens = tt
  whole_by (Reads s q left) xs kept leaves is inside same long opens = absurd inside

  -- as many as there are leaves
  pub opened_whole : (xs : List ℕ) (kept leaves : List Act) → IsInside (T xs) → IfRead (answer_of (T xs)) (λ s. leaves ≡ map bare s.actions) → length kept ≡ length leaves → AreOpened m root seed level xs kept → IfRead (answer_of (T xs)) (λ s. kept ≡ s.actions)
  opened_whole xs kept leaves inside same long opens = whole_by (T xs) xs kept leaves refl inside same long opens
