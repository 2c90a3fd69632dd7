-- A scenario of which some links are shown, without values.
use Rattle.std.proofs.Common.{◌≡◌, ℕ, zero, suc, ◌+◌, ◌<◌, ◌≤◌, List, [], ◌∷◌, ◌++◌, map, length, take, Bool, true, false, ◌&&◌, ◌||◌, nat_eq, if◌then◌else◌, Option, Some, None, refl, sym, ap, ap₂, ◌∙◌, subst, arith, length-take}
use Rattle.std.specs.Prelude.{slice_get}
use Rattle.std.specs.List.{enumerate_from}
use Rattle.std.specs.Option.{option_map, option_and_then}
use Rattle.std.proofs.lemmas.Bool.{eqb-true}
use Rattle.std.proofs.lemmas.List.{map-append, length-map, take_all}
use Rattle.std.proofs.lemmas.Option.{none-some, same_Some, option_and_then_some}
use Rattle.pst_model.specs.ModelTree.{ModelTree}
use Rattle.pst_scen.specs.declared.act.Act.{Act}
use Rattle.pst_scen.specs.declared.act.Filled.{Filled}
use Rattle.pst_scen.specs.declared.act.Link.{Link}
use Rattle.pst_scen.specs.declared.act.Link.TheVariants as link
use Rattle.pst_scen.specs.declared.scenario.Scenario.{Scenario}
use Rattle.pst_scen.specs.Scenarios.{reference_at}
use Rattle.pst_legal.specs.Growing.{open_act}
use Rattle.pst_legal.specs.SupplyReading.{with_link, act_with_link, put_link}
use Rattle.pst_legal.specs.Fits.{IsActOf}
use Rattle.pst_built.specs.Parts.{without_link, without_values, bare_act, linked_act}
use Rattle.pst_built.proofs.Lists.{same_rows, length_numbered}
use Rattle.pst_built.proofs.ReachedNodes.{bare_is_open}

-- whether the link of a reference is read, by action and reference
abbrev pub Known : Type 0
Known = ℕ → ℕ → Bool

abbrev pub none_known : Known
none_known a r = false

abbrev pub also : Known → ℕ → ℕ → Known
also known a r x y = known x y || (nat_eq x a && nat_eq y r)

abbrev pub shown_as : Bool → Filled → Filled
shown_as known filled = record { pool = filled.pool; flow = filled.flow; values = []; link = if known then filled.link else link.Nothing }

abbrev pub shown_act : Known → ℕ × Act → Act
shown_act known e = record {
  action = e.1.action;
  instance = e.1.instance;
  node = e.1.node;
  fields = [];
  references = map (λ f. shown_as (known e.0 f.0) f.1) (enumerate_from 0 e.1.references);
  claims = [];
}

-- the first n actions with the links that are known
abbrev pub shown : Known → ℕ → List Act → List Act
shown known n acts = map (shown_act known) (enumerate_from 0 (take n acts))

abbrev pub so_far : Scenario → Known → ℕ → Scenario
so_far s known n = record { level = s.level; nodes = s.nodes; actions = shown known n s.actions; firsts = [] }

-- ---- lists with numbers

pub get_numbered : {A B : Type 0} (f : ℕ × A → B) (k : ℕ) (xs : List A) (i : ℕ) → slice_get (map f (enumerate_from k xs)) i ≡ option_map (λ x. f (k + i, x)) (slice_get xs i)
get_numbered f k [] i = refl
get_numbered f k (x ∷ xs) zero = let here : k ≡ k + zero = omega arith in ap (λ n. Some (f (n, x))) here
get_numbered f k (x ∷ xs) (suc i) = let here : (k + 1) + i ≡ k + suc i = omega arith in get_numbered f (k + 1) xs i ∙ ap (λ n. option_map (λ x. f (n, x)) (slice_get xs i)) here

fused : {A B C : Type 0} (g : ℕ × B → C) (f : ℕ × A → B) (k : ℕ) (xs : List A) → map g (enumerate_from k (map f (enumerate_from k xs))) ≡ map (λ e. g (e.0, f e)) (enumerate_from k xs)
fused g f k [] = refl
fused g f k (x ∷ xs) = ap (λ ys. g (k, f (k, x)) ∷ ys) (fused g f (k + 1) xs)

same_numbered : {A B : Type 0} (f g : ℕ × A → B) (k : ℕ) (xs : List A) → ((i : ℕ) (x : A) → slice_get xs i ≡ Some x → f (k + i, x) ≡ g (k + i, x)) → map f (enumerate_from k xs) ≡ map g (enumerate_from k xs)
same_numbered f g k [] each = refl
same_numbered f g k (x ∷ xs) each =
    let here : k + zero ≡ k = omega arith in
    ap₂ (λ a b. a ∷ b) (subst (λ n. f (n, x) ≡ g (n, x)) here (each zero x refl))
    (same_numbered f g (k + 1) xs (λ i y is. let e : k + suc i ≡ (k + 1) + i = omega arith in subst (λ n. f (n, y) ≡ g (n, y)) e (each (suc i) y is)))

same_at : {A B : Type 0} (f g : ℕ × A → B) (xs : List A) → ((i : ℕ) (x : A) → slice_get xs i ≡ Some x → f (i, x) ≡ g (i, x)) → map f (enumerate_from 0 xs) ≡ map g (enumerate_from 0 xs)
same_at f g xs each = same_numbered f g 0 xs (λ i x is. let here : i ≡ 0 + i = omega arith in subst (λ n. f (n, x) ≡ g (n, x)) here (each i x is))

pub same_plain : {A B : Type 0} (f : A → B) (g : ℕ × A → B) (xs : List A) → ((i : ℕ) (x : A) → slice_get xs i ≡ Some x → f x ≡ g (i, x)) → map f xs ≡ map g (enumerate_from 0 xs)
same_plain f g xs each = same_rows f g 0 xs xs refl (λ i x y is at. let here : i ≡ 0 + i = omega arith in each i x is ∙ (λ j. g (here j, same_Some x y (sym is ∙ at) j)))

numbered_push : {A : Type 0} (k : ℕ) (xs : List A) (x : A) → enumerate_from k (xs ++ x ∷ []) ≡ enumerate_from k xs ++ (k + length xs, x) ∷ []
numbered_push k [] x = let here : k ≡ k + zero = omega arith in ap (λ n. (n, x) ∷ []) here
numbered_push k (y ∷ ys) x = let here : (k + 1) + length ys ≡ k + suc (length ys) = omega arith in ap (λ es. (k, y) ∷ es) (numbered_push (k + 1) ys x ∙ ap (λ n. enumerate_from (k + 1) ys ++ (n, x) ∷ []) here)

take_push : {A : Type 0} (n : ℕ) (xs : List A) (x : A) → slice_get xs n ≡ Some x → take (suc n) xs ≡ take n xs ++ x ∷ []
take_push n [] x is = absurd (none-some x is)
take_push zero (y ∷ ys) x is = ap (λ z. z ∷ []) (same_Some y x is)
take_push (suc n) (y ∷ ys) x is = ap (λ zs. y ∷ zs) (take_push n ys x is)

pub take_get : {A : Type 0} (n : ℕ) (xs : List A) (k : ℕ) → k < n → slice_get (take n xs) k ≡ slice_get xs k
take_get zero xs k l = absurd (omega (arith, l))
take_get (suc n) [] k l = refl
take_get (suc n) (x ∷ xs) zero l = refl
take_get (suc n) (x ∷ xs) (suc k) l = take_get n xs k (omega (arith, l))

pub get_take : {A : Type 0} (n : ℕ) (xs : List A) (k : ℕ) (x : A) → slice_get (take n xs) k ≡ Some x → (k < n) × (slice_get xs k ≡ Some x)
get_take zero xs k x is = absurd (none-some x is)
get_take (suc n) [] k x is = absurd (none-some x is)
get_take (suc n) (y ∷ ys) zero x is = (omega arith, is)
get_take (suc n) (y ∷ ys) (suc k) x is = let r = get_take n ys k x is in (omega (arith, r.0), r.1)

-- ---- look-ups

pub length_shown : (known : Known) (n : ℕ) (acts : List Act) → n ≤ length acts → length (shown known n acts) ≡ n
length_shown known n acts most =
    let mapped = length-map (enumerate_from 0 (take n acts)) (shown_act known) in
    let numbered = length_numbered 0 (take n acts) in
    let taken = length-take n acts in
    omega (arith, mapped, numbered, taken, most)

shown_get : (known : Known) (n : ℕ) (acts : List Act) (a : ℕ) → slice_get (shown known n acts) a ≡ option_map (λ x. shown_act known (a, x)) (slice_get (take n acts) a)
shown_get known n acts a = let here : 0 + a ≡ a = omega arith in get_numbered (shown_act known) 0 (take n acts) a ∙ ap (λ k. option_map (λ x. shown_act known (k, x)) (slice_get (take n acts) a)) here

row_get : (known : Known) (a : ℕ) (act : Act) (r : ℕ) → slice_get (shown_act known (a, act)).references r ≡ option_map (shown_as (known a r)) (slice_get act.references r)
row_get known a act r = let here : 0 + r ≡ r = omega arith in get_numbered (λ f. shown_as (known a f.0) f.1) 0 act.references r ∙ ap (λ k. option_map (shown_as (known a k)) (slice_get act.references r)) here

-- a reference of an action that is there
pub shown_at : (known : Known) (n : ℕ) (acts : List Act) (a r : ℕ) (filled : Filled) → a < n → reference_at acts a r ≡ Some filled → reference_at (shown known n acts) a r ≡ Some (shown_as (known a r) filled)
shown_at known n acts a r filled l is =
    option_and_then_some (λ (x : Act). slice_get x.references r) (slice_get acts a) filled is
    (λ act there has.
    ap (option_and_then (λ (x : Act). slice_get x.references r)) (shown_get known n acts a ∙ ap (option_map (λ x. shown_act known (a, x))) (take_get n acts a l ∙ there))
    ∙ row_get known a act r ∙ ap (option_map (shown_as (known a r))) has)

pub record Shows (known : Known) (n : ℕ) (acts : List Act) (a r : ℕ) (shows : Filled) : Type 0 where
  pub filled : Filled
  pub is : reference_at acts a r ≡ Some filled
  pub within : a < n
  pub same : shown_as (known a r) filled ≡ shows

mapped : {A B : Type 0} (f : A → B) (o : Option A) (y : B) → option_map f o ≡ Some y → (x : A) × (o ≡ Some x) × (f x ≡ y)
mapped f None y e = absurd (none-some y e)
mapped f (Some x) y e = (x, refl, same_Some (f x) y e)

pub at_shown : (known : Known) (n : ℕ) (acts : List Act) (a r : ℕ) (shows : Filled) → reference_at (shown known n acts) a r ≡ Some shows → Shows known n acts a r shows
at_shown known n acts a r shows is =
    option_and_then_some (λ (x : Act). slice_get x.references r) (slice_get (shown known n acts) a) shows is
    (λ x there has.
    let act = mapped (λ y. shown_act known (a, y)) (slice_get (take n acts) a) x (sym (shown_get known n acts a) ∙ there) in
    let at = get_take n acts a act.0 act.1 in
    let f = mapped (shown_as (known a r)) (slice_get act.0.references r) shows (sym (row_get known a act.0 r) ∙ ap (λ (y : Act). slice_get y.references r) act.2 ∙ has) in
    record { filled = f.0; is = ap (option_and_then (λ (y : Act). slice_get y.references r)) at.1 ∙ f.1; within = at.0; same = f.2 })

-- ---- one link more

put_shown_as : (b known : Bool) (filled : Filled) (to : Link) → (b ≡ true → filled.link ≡ to) → (if b then with_link to (shown_as known filled) else shown_as known filled) ≡ shown_as (known || (true && b)) filled
put_shown_as true true filled to is = λ i. record { pool = filled.pool; flow = filled.flow; values = []; link = sym (is refl) i }
put_shown_as true false filled to is = λ i. record { pool = filled.pool; flow = filled.flow; values = []; link = sym (is refl) i }
put_shown_as false true filled to is = refl
put_shown_as false false filled to is = refl

keep_shown_as : (known b : Bool) (filled : Filled) → shown_as known filled ≡ shown_as (known || (false && b)) filled
keep_shown_as true b filled = refl
keep_shown_as false b filled = refl

put_shown_act : (known : Known) (a r i : ℕ) (act : Act) (to : Link) (b : Bool) → nat_eq i a ≡ b → ((filled : Filled) → i ≡ a → slice_get act.references r ≡ Some filled → filled.link ≡ to)
    → (if b then act_with_link r to (shown_act known (i, act)) else shown_act known (i, act)) ≡ shown_act (also known a r) (i, act)
put_shown_act known a r i act to true e is =
    ap (λ rs. record { action = act.action; instance = act.instance; node = act.node; fields = []; references = rs; claims = [] })
    (fused (λ f. if nat_eq f.0 r then with_link to f.1 else f.1) (λ f. shown_as (known i f.0) f.1) 0 act.references
    ∙ same_at (λ f. if nat_eq f.0 r then with_link to (shown_as (known i f.0) f.1) else shown_as (known i f.0) f.1) (λ f. shown_as (also known a r i f.0) f.1) act.references
    (λ j filled at.
    put_shown_as (nat_eq j r) (known i j) filled to (λ t. is filled (eqb-true i a e) (sym (ap (slice_get act.references) (eqb-true j r t)) ∙ at))
    ∙ ap (λ c. shown_as (known i j || (c && nat_eq j r)) filled) (sym e)))
put_shown_act known a r i act to false e is =
    ap (λ rs. record { action = act.action; instance = act.instance; node = act.node; fields = []; references = rs; claims = [] })
    (same_at (λ f. shown_as (known i f.0) f.1) (λ f. shown_as (also known a r i f.0) f.1) act.references
    (λ j filled at. keep_shown_as (known i j) (nat_eq j r) filled ∙ ap (λ c. shown_as (known i j || (c && nat_eq j r)) filled) (sym e)))

pub put_shown : (known : Known) (n : ℕ) (acts : List Act) (a r : ℕ) (to : Link) → ((filled : Filled) → reference_at acts a r ≡ Some filled → filled.link ≡ to)
    → put_link a r to (shown known n acts) ≡ shown (also known a r) n acts
put_shown known n acts a r to is =
    fused (λ e. if nat_eq e.0 a then act_with_link r to e.1 else e.1) (shown_act known) 0 (take n acts)
    ∙ same_at (λ e. if nat_eq e.0 a then act_with_link r to (shown_act known e) else shown_act known e) (shown_act (also known a r)) (take n acts)
    (λ i act at.
    put_shown_act known a r i act to (nat_eq i a) refl
    (λ filled same has. is filled (ap (option_and_then (λ (y : Act). slice_get y.references r)) (ap (slice_get acts) (sym same) ∙ (get_take n acts i act at).1) ∙ has)))

-- ---- one action more

unknown_is_bare : (known : Known) (a : ℕ) (act : Act) → ((r : ℕ) → known a r ≡ false) → bare_act act ≡ shown_act known (a, act)
unknown_is_bare known a act unknown =
    ap (λ rs. record { action = act.action; instance = act.instance; node = act.node; fields = []; references = rs; claims = [] })
    (same_plain without_link (λ f. shown_as (known a f.0) f.1) act.references (λ r filled at. ap (λ b. shown_as b filled) (sym (unknown r))))

pub shown_push : (m : ModelTree) (known : Known) (n : ℕ) (acts : List Act) (act : Act) → slice_get acts n ≡ Some act → n < length acts → IsActOf m act → act.node ≡ None → ((r : ℕ) → known n r ≡ false)
    → shown known n acts ++ open_act m act.action act.instance None ∷ [] ≡ shown known (suc n) acts
shown_push m known n acts act is short of node unknown =
    let long : length (take n acts) ≡ n = omega (arith, length-take n acts, short) in
    let here : 0 + length (take n acts) ≡ n = omega (arith, long) in
    let fresh : open_act m act.action act.instance None ≡ shown_act known (n, act) = ap (open_act m act.action act.instance) (sym node) ∙ sym (bare_is_open m act of) ∙ unknown_is_bare known n act unknown in
    ap (λ x. shown known n acts ++ x ∷ []) fresh
    ∙ ap (λ k. shown known n acts ++ shown_act known (k, act) ∷ []) (sym here)
    ∙ sym (map-append (shown_act known) (enumerate_from 0 (take n acts)) ((0 + length (take n acts), act) ∷ []))
    ∙ ap (map (shown_act known)) (sym (numbered_push 0 (take n acts) act))
    ∙ ap (λ xs. map (shown_act known) (enumerate_from 0 xs)) (sym (take_push n acts act is))

-- ---- none and all

pub none_shown : (n : ℕ) (acts : List Act) → map bare_act (take n acts) ≡ shown none_known n acts
none_shown n acts = same_plain bare_act (shown_act none_known) (take n acts) (λ a act is. unknown_is_bare none_known a act (λ r. refl))

shown_whole : (known : Bool) (filled : Filled) → (known ≡ false → filled.link ≡ link.Nothing) → without_values filled ≡ shown_as known filled
shown_whole true filled is = refl
shown_whole false filled is = λ i. record { pool = filled.pool; flow = filled.flow; values = []; link = is refl i }

pub all_shown : (known : Known) (acts : List Act) → ((a r : ℕ) (filled : Filled) → reference_at acts a r ≡ Some filled → known a r ≡ false → filled.link ≡ link.Nothing) → map linked_act acts ≡ shown known (length acts) acts
all_shown known acts each =
    same_plain linked_act (shown_act known) acts
    (λ a act is.
    ap (λ rs. record { action = act.action; instance = act.instance; node = act.node; fields = []; references = rs; claims = [] })
    (same_plain without_values (λ f. shown_as (known a f.0) f.1) act.references
    (λ r filled at. shown_whole (known a r) filled (λ unknown. each a r filled (ap (option_and_then (λ (y : Act). slice_get y.references r)) is ∙ at) unknown))))
    ∙ ap (λ xs. map (shown_act known) (enumerate_from 0 xs)) (sym (take_all (length acts) acts (omega arith)))
