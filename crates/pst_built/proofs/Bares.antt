-- What the order of a scenario sees of its actions: all but their values.
use Rattle.std.proofs.Common.{◌≡◌, ℕ, zero, suc, ◌+◌, List, [], ◌∷◌, map, Bool, true, false, nat_eq, if◌then◌else◌, Option, Some, None, refl, sym, ap, ap₂, ◌∙◌, arith}
use Rattle.std.specs.Prelude.{slice_get}
use Rattle.std.specs.List.{enumerate_from}
use Rattle.std.specs.Option.{option_map, option_and_then}
use Rattle.std.proofs.lemmas.Option.{slice_get-map}
use Rattle.std.proofs.lemmas.Bool.{eq-eqb, ne_eqb}
use Rattle.pst_scen.specs.declared.act.Act.{Act}
use Rattle.pst_scen.specs.declared.act.Filled.{Filled}
use Rattle.pst_scen.specs.declared.act.Flow.{Flow}
use Rattle.pst_scen.specs.declared.act.Link.{Link}
use Rattle.pst_scen.specs.Scenarios.{reference_at}
use Rattle.pst_legal.specs.SupplyReading.{alter, with_link, act_with_link, put_link}

-- a reference without its values
pub record Bare : Type 0 where
  pub pool : ℕ
  pub flow : Flow
  pub link : Link

abbrev pub bare : Filled → Bare
bare filled = record { pool = filled.pool; flow = filled.flow; link = filled.link }

abbrev pub bares_in : Act → List Bare
bares_in act = map bare act.references

-- the references of all actions
abbrev pub bares : List Act → List (List Bare)
bares acts = map bares_in acts

abbrev pub bare_at : List (List Bare) → ℕ → ℕ → Option Bare
bare_at rows a r = option_and_then (λ xs. slice_get xs r) (slice_get rows a)

abbrev pub node_in : Act → Option ℕ
node_in act = act.node

abbrev pub nodes_in : List Act → List (Option ℕ)
nodes_in acts = map node_in acts

-- what an action is: its type, its instance and its node
pub record Kind : Type 0 where
  pub action : ℕ
  pub instance : ℕ
  pub node : Option ℕ

abbrev pub kind_in : Act → Kind
kind_in act = record { action = act.action; instance = act.instance; node = act.node }

abbrev pub kinds_in : List Act → List Kind
kinds_in acts = map kind_in acts

-- ---- references with and without values

by_act : (act : Option Act) (r : ℕ) → option_and_then (λ xs. slice_get xs r) (option_map bares_in act) ≡ option_map bare (option_and_then (λ x. slice_get x.references r) act)
by_act None r = refl
by_act (Some act) r = slice_get-map bare act.references r

pub bare_is : (acts : List Act) (a r : ℕ) → bare_at (bares acts) a r ≡ option_map bare (reference_at acts a r)
bare_is acts a r = ap (λ row. option_and_then (λ xs. slice_get xs r) row) (slice_get-map bares_in acts a) ∙ by_act (slice_get acts a) r

pub bare_from : (acts : List Act) (a r : ℕ) (filled : Filled) → reference_at acts a r ≡ Some filled → bare_at (bares acts) a r ≡ Some (bare filled)
bare_from acts a r filled is = bare_is acts a r ∙ ap (option_map bare) is

by_filled : (x : Bare) (filled : Option Filled) → option_map bare filled ≡ Some x → (f : Filled) × (filled ≡ Some f) × (bare f ≡ x)
by_filled x None is = absurd cc
by_filled x (Some f) is = (f, refl, cc)

pub bare_of : (acts : List Act) (a r : ℕ) (x : Bare) → bare_at (bares acts) a r ≡ Some x → (f : Filled) × (reference_at acts a r ≡ Some f) × (bare f ≡ x)
bare_of acts a r x is = by_filled x (reference_at acts a r) (sym (bare_is acts a r) ∙ is)

-- ---- elements that are changed

abbrev alter_from : {A : Type 0} → (A → A) → ℕ → ℕ → List A → List A
alter_from f n k xs = map (λ e. if nat_eq e.0 n then f e.1 else e.1) (enumerate_from k xs)

by_test : {A B : Type 0} (view : A → B) (f : A → A) (g : B → B) → ((x : A) → view (f x) ≡ g (view x)) → (test : Bool) (x : A)
    → view (if test then f x else x) ≡ (if test then g (view x) else view x)
by_test view f g same true x = same x
by_test view f g same false x = refl

view_from : {A B : Type 0} (view : A → B) (f : A → A) (g : B → B) → ((x : A) → view (f x) ≡ g (view x)) → (n k : ℕ) (xs : List A)
    → map view (alter_from f n k xs) ≡ alter_from g n k (map view xs)
view_from view f g same n k [] = refl
view_from view f g same n k (x ∷ xs) = ap₂ ◌∷◌ (by_test view f g same (nat_eq k n) x) (view_from view f g same n (k + 1) xs)

-- a view of an altered list is the altered list of views
pub alter_view : {A B : Type 0} (view : A → B) (f : A → A) (g : B → B) → ((x : A) → view (f x) ≡ g (view x)) → (n : ℕ) (xs : List A)
    → map view (alter f n xs) ≡ alter g n (map view xs)
alter_view view f g same n xs = view_from view f g same n 0 xs

by_kept : {A B : Type 0} (view : A → B) (f : A → A) → ((x : A) → view (f x) ≡ view x) → (test : Bool) (x : A) → view (if test then f x else x) ≡ view x
by_kept view f same true x = same x
by_kept view f same false x = refl

same_from : {A B : Type 0} (view : A → B) (f : A → A) → ((x : A) → view (f x) ≡ view x) → (n k : ℕ) (xs : List A) → map view (alter_from f n k xs) ≡ map view xs
same_from view f same n k [] = refl
same_from view f same n k (x ∷ xs) = ap₂ ◌∷◌ (by_kept view f same (nat_eq k n) x) (same_from view f same n (k + 1) xs)

-- what doesn't see the change stays
pub alter_same : {A B : Type 0} (view : A → B) (f : A → A) → ((x : A) → view (f x) ≡ view x) → (n : ℕ) (xs : List A) → map view (alter f n xs) ≡ map view xs
alter_same view f same n xs = same_from view f same n 0 xs

at_from : {A : Type 0} (f : A → A) (n k i : ℕ) (xs : List A) → n ≡ k + i → slice_get (alter_from f n k xs) i ≡ option_map f (slice_get xs i)
at_from f n k i [] e = refl
at_from f n k zero (y ∷ ys) e = ap (λ t. Some (if t then f y else y)) (eq-eqb k n (omega (arith, e)))
at_from f n k (suc i) (y ∷ ys) e = at_from f n (k + 1) i ys (omega (arith, e))

off_from : {A : Type 0} (f : A → A) (n k i : ℕ) (xs : List A) → (n ≡ k + i → ⊥) → slice_get (alter_from f n k xs) i ≡ slice_get xs i
off_from f n k i [] other = refl
off_from f n k zero (y ∷ ys) other = ap (λ t. Some (if t then f y else y)) (ne_eqb k n (λ e. other (omega (arith, e))))
off_from f n k (suc i) (y ∷ ys) other = off_from f n (k + 1) i ys (λ e. other (omega (arith, e)))

pub alter_at : {A : Type 0} (f : A → A) (n : ℕ) (xs : List A) → slice_get (alter f n xs) n ≡ option_map f (slice_get xs n)
alter_at f n xs = at_from f n 0 n xs (omega arith)

pub alter_off : {A : Type 0} (f : A → A) (n k : ℕ) (xs : List A) → (n ≡ k → ⊥) → slice_get (alter f n xs) k ≡ slice_get xs k
alter_off f n k xs other = off_from f n 0 k xs (λ e. other (omega (arith, e)))

-- ---- references that are linked

abbrev pub with_bare_link : Link → Bare → Bare
with_bare_link to x = record x { link = to }

abbrev pub row_with_link : ℕ → Link → List Bare → List Bare
row_with_link r to xs = alter (with_bare_link to) r xs

abbrev pub put_bare : ℕ → ℕ → Link → List (List Bare) → List (List Bare)
put_bare a r to rows = alter (row_with_link r to) a rows

pub bares_put : (a r : ℕ) (to : Link) (acts : List Act) → bares (put_link a r to acts) ≡ put_bare a r to (bares acts)
bares_put a r to acts = alter_view bares_in (act_with_link r to) (row_with_link r to) (λ act. alter_view bare (with_link to) (with_bare_link to) (λ filled. refl) r act.references) a acts

pub nodes_put : (a r : ℕ) (to : Link) (acts : List Act) → nodes_in (put_link a r to acts) ≡ nodes_in acts
nodes_put a r to acts = alter_same node_in (act_with_link r to) (λ act. refl) a acts

pub kinds_put : (a r : ℕ) (to : Link) (acts : List Act) → kinds_in (put_link a r to acts) ≡ kinds_in acts
kinds_put a r to acts = alter_same kind_in (act_with_link r to) (λ act. refl) a acts
