-- Links, ends of streams, and how many links aren't read yet.
use Rattle.std.proofs.Common.{◌≡◌, ◌≢◌, ◌⊎◌, ℕ, ◌<◌, ◌≤◌, List, [], ◌∷◌, length, Bool, true, false, cond, not, ◌&&◌, nat_eq, if◌then◌else◌, Some, refl, sym, ap, ◌∙◌, arith, inl, inr, ⊎_elim}
use Rattle.std.specs.List.{filter}
use Rattle.std.proofs.lemmas.Bool.{and_parts, and_from, or_left, or_right, or_cases, eqb-true, eq-eqb, false≢true, false_from_ne_true}
use Rattle.pst_scen.specs.declared.act.Filled.{Filled}
use Rattle.pst_scen.specs.declared.act.Flow.{Flow}
use Rattle.pst_scen.specs.declared.act.Flow.TheVariants.{BufferIn, BufferOut, StreamIn, StreamOut, StateIn, StateOut}
use Rattle.pst_scen.specs.declared.act.Link.{Link}
use Rattle.pst_scen.specs.declared.act.Link.TheVariants as link
use Rattle.pst_scen.specs.declared.scenario.Scenario.{Scenario}
use Rattle.pst_scen.specs.Scenarios.{reference_at, IsLinkOf, IsStream}
use Rattle.pst_legal.specs.Supplied.{is_need, is_source_for}
use Rattle.pst_legal.specs.SupplyReading.{Spot, spots, same_link, is_state, is_writer, is_stream}
use Rattle.pst_built.proofs.Members.{In}
use Rattle.pst_built.proofs.Spots.{to_spot}
use Rattle.pst_built.proofs.Splits.{spot_at}
use Rattle.pst_built.proofs.Shown.{Known, also}

-- ---- links

pub same_is : (l k : Link) → same_link l k ≡ true → l ≡ k
same_is link.Nothing link.Nothing e = refl
same_is link.Nothing link.Initial e = absurd (false≢true e)
same_is link.Nothing (link.Act b q) e = absurd (false≢true e)
same_is link.Initial link.Nothing e = absurd (false≢true e)
same_is link.Initial link.Initial e = refl
same_is link.Initial (link.Act b q) e = absurd (false≢true e)
same_is (link.Act a r) link.Nothing e = absurd (false≢true e)
same_is (link.Act a r) link.Initial e = absurd (false≢true e)
same_is (link.Act a r) (link.Act b q) e = let p = and_parts (nat_eq a b) (nat_eq r q) e in (λ i. link.Act (eqb-true a b p.0 i) (eqb-true r q p.1 i))

pub not_linked : (b q : ℕ) → link.Nothing ≡ link.Act b q → ⊥
not_linked b q e = cc

pub not_initial : (b q : ℕ) → link.Initial ≡ link.Act b q → ⊥
not_initial b q e = cc

pub nothing_initial : link.Nothing ≡ link.Initial → ⊥
nothing_initial e = cc

pub same_action : (a r b q : ℕ) → link.Act a r ≡ link.Act b q → a ≡ b
same_action a r b q e = cc

pub same_reference : (a r b q : ℕ) → link.Act a r ≡ link.Act b q → r ≡ q
same_reference a r b q e = cc

-- a need is linked, and what is linked is one
pub need_linked : (flow : Flow) (l : Link) → is_need flow ≡ true → IsLinkOf flow l → l ≢ link.Nothing
need_linked BufferIn link.Nothing need kind e = kind
need_linked BufferOut link.Nothing need kind e = false≢true need
need_linked StreamIn link.Nothing need kind e = kind
need_linked StreamOut link.Nothing need kind e = kind
need_linked StateIn link.Nothing need kind e = kind
need_linked StateOut link.Nothing need kind e = kind
need_linked flow link.Initial need kind e = nothing_initial (sym e)
need_linked flow (link.Act b q) need kind e = not_linked b q (sym e)

pub other_unlinked : (flow : Flow) (l : Link) → is_need flow ≡ false → IsLinkOf flow l → l ≡ link.Nothing
other_unlinked BufferOut link.Nothing need kind = refl
other_unlinked BufferOut link.Initial need kind = absurd kind
other_unlinked BufferOut (link.Act b q) need kind = absurd kind
other_unlinked BufferIn l need kind = absurd (false≢true (sym need))
other_unlinked StreamIn l need kind = absurd (false≢true (sym need))
other_unlinked StreamOut l need kind = absurd (false≢true (sym need))
other_unlinked StateIn l need kind = absurd (false≢true (sym need))
other_unlinked StateOut l need kind = absurd (false≢true (sym need))

pub initial_state : (flow : Flow) → IsLinkOf flow link.Initial → is_state flow ≡ true
initial_state BufferIn kind = absurd kind
initial_state BufferOut kind = absurd kind
initial_state StreamIn kind = absurd kind
initial_state StreamOut kind = absurd kind
initial_state StateIn kind = refl
initial_state StateOut kind = refl

pub writer_is : (flow : Flow) → is_writer flow ≡ true → flow ≡ StateOut
writer_is StateOut e = refl
writer_is BufferIn e = absurd (false≢true e)
writer_is BufferOut e = absurd (false≢true e)
writer_is StreamIn e = absurd (false≢true e)
writer_is StreamOut e = absurd (false≢true e)
writer_is StateIn e = absurd (false≢true e)

pub stream_is : (flow : Flow) → is_stream flow ≡ true → IsStream flow
stream_is StreamIn e = inl refl
stream_is StreamOut e = inr refl
stream_is BufferIn e = absurd (false≢true e)
stream_is BufferOut e = absurd (false≢true e)
stream_is StateIn e = absurd (false≢true e)
stream_is StateOut e = absurd (false≢true e)

pub is_stream_of : (flow : Flow) → IsStream flow → is_stream flow ≡ true
is_stream_of flow (inl e) = ap is_stream e
is_stream_of flow (inr e) = ap is_stream e

-- the source of a stream end is one
pub stream_source : (flow source : Flow) → IsStream flow → is_source_for flow source ≡ true → IsStream source
stream_source StreamIn StreamOut s e = inr refl
stream_source StreamOut StreamIn s e = inl refl
stream_source StreamIn BufferIn s e = absurd (false≢true e)
stream_source StreamIn BufferOut s e = absurd (false≢true e)
stream_source StreamIn StreamIn s e = absurd (false≢true e)
stream_source StreamIn StateIn s e = absurd (false≢true e)
stream_source StreamIn StateOut s e = absurd (false≢true e)
stream_source StreamOut BufferIn s e = absurd (false≢true e)
stream_source StreamOut BufferOut s e = absurd (false≢true e)
stream_source StreamOut StreamOut s e = absurd (false≢true e)
stream_source StreamOut StateIn s e = absurd (false≢true e)
stream_source StreamOut StateOut s e = absurd (false≢true e)
stream_source BufferIn source s e = absurd (no_buffer s)
  where
    no_buffer : IsStream BufferIn → ⊥
    no_buffer (inl e) = false≢true (ap is_stream e)
    no_buffer (inr e) = false≢true (ap is_stream e)
stream_source BufferOut source s e = absurd (no_buffer s)
  where
    no_buffer : IsStream BufferOut → ⊥
    no_buffer (inl e) = false≢true (ap is_stream e)
    no_buffer (inr e) = false≢true (ap is_stream e)
stream_source StateIn source s e = absurd (no_state s)
  where
    no_state : IsStream StateIn → ⊥
    no_state (inl e) = false≢true (ap is_stream e)
    no_state (inr e) = false≢true (ap is_stream e)
stream_source StateOut source s e = absurd (no_state s)
  where
    no_state : IsStream StateOut → ⊥
    no_state (inl e) = false≢true (ap is_stream e)
    no_state (inr e) = false≢true (ap is_stream e)

pub state_apart : (flow : Flow) → is_state flow ≡ true → IsStream flow → ⊥
state_apart flow state (inl e) = false≢true (ap is_state (sym e) ∙ state)
state_apart flow state (inr e) = false≢true (ap is_state (sym e) ∙ state)

-- an open link is one that isn't known, where there is one
pub open_unknown : (known : Bool) (l : Link) → l ≢ link.Nothing → same_link (if known then l else link.Nothing) link.Nothing ≡ false → known ≡ true
open_unknown true l some e = refl
open_unknown false l some e = absurd (false≢true (sym e))

pub known_open : (known : Bool) (l : Link) → l ≢ link.Nothing → same_link (if known then l else link.Nothing) link.Nothing ≡ true → known ≡ false
known_open true l some e = absurd (some (same_is l link.Nothing e))
known_open false l some e = refl

-- ---- one link more

pub also_here : (known : Known) (a r : ℕ) → also known a r a r ≡ true
also_here known a r = or_right (known a r) (nat_eq a a && nat_eq r r) (and_from (nat_eq a a) (nat_eq r r) (eq-eqb a a refl) (eq-eqb r r refl))

pub also_more : (known : Known) (a r x y : ℕ) → known x y ≡ true → also known a r x y ≡ true
also_more known a r x y is = or_left (known x y) (nat_eq x a && nat_eq y r) is

pub also_is : (known : Known) (a r x y : ℕ) → also known a r x y ≡ true → (known x y ≡ true) ⊎ ((x ≡ a) × (y ≡ r))
also_is known a r x y is =
    ⊎_elim (λ (k : known x y ≡ true). inl k)
    (λ (e : (nat_eq x a && nat_eq y r) ≡ true). let p = and_parts (nat_eq x a) (nat_eq y r) e in inr (eqb-true x a p.0, eqb-true y r p.1))
    (or_cases (known x y) (nat_eq x a && nat_eq y r) is)

-- ---- how much is left

filter_most : {A : Type 0} (p q : A → Bool) (xs : List A) → ((y : A) → q y ≡ true → p y ≡ true) → length (filter q xs) ≤ length (filter p xs)
filter_most p q [] each = omega arith
filter_most {A = A} p q (x ∷ xs) each = by (p x) (q x) (each x) (filter_most p q xs each)
  where
    by : (b c : Bool) → (c ≡ true → b ≡ true) → length (filter q xs) ≤ length (filter p xs) → length (cond c (x ∷ filter q xs) (filter q xs)) ≤ length (cond b (x ∷ filter p xs) (filter p xs))
    by true true imp rest = omega (arith, rest)
    by true false imp rest = omega (arith, rest)
    by false true imp rest = absurd (false≢true (imp refl))
    by false false imp rest = rest

filter_less : {A : Type 0} (p q : A → Bool) (xs : List A) (x : A) → ((y : A) → q y ≡ true → p y ≡ true) → In x xs → p x ≡ true → q x ≡ false → length (filter q xs) < length (filter p xs)
filter_less p q [] x each has yes_p no_q = absurd has
filter_less {A = A} p q (y ∷ ys) x each (inl same) yes_p no_q = by (p y) (q y) (ap p same ∙ yes_p) (ap q same ∙ no_q) (filter_most p q ys each)
  where
    by : (b c : Bool) → b ≡ true → c ≡ false → length (filter q ys) ≤ length (filter p ys) → length (cond c (y ∷ filter q ys) (filter q ys)) < length (cond b (y ∷ filter p ys) (filter p ys))
    by true true e f rest = absurd (false≢true (sym f))
    by true false e f rest = omega (arith, rest)
    by false c e f rest = absurd (false≢true e)
filter_less {A = A} p q (y ∷ ys) x each (inr has) yes_p no_q = by (p y) (q y) (each y) (filter_less p q ys x each has yes_p no_q)
  where
    by : (b c : Bool) → (c ≡ true → b ≡ true) → length (filter q ys) < length (filter p ys) → length (cond c (y ∷ filter q ys) (filter q ys)) < length (cond b (y ∷ filter p ys) (filter p ys))
    by true true imp rest = omega (arith, rest)
    by true false imp rest = omega (arith, rest)
    by false true imp rest = absurd (false≢true (imp refl))
    by false false imp rest = rest

abbrev pub is_left : Known → Spot → Bool
is_left known spot = not (known spot.act spot.reference)

abbrev pub left : Scenario → Known → ℕ
left s known = length (filter (is_left known) (spots s.actions))

pub also_less : (s : Scenario) (known more : Known) (a r : ℕ) (filled : Filled) → reference_at s.actions a r ≡ Some filled → known a r ≡ false → more a r ≡ true → ((x y : ℕ) → known x y ≡ true → more x y ≡ true) → left s more < left s known
also_less s known more a r filled is no_known yes_more grows =
    filter_less (is_left known) (is_left more) (spots s.actions) (spot_at a r filled)
    (λ y e. ap not (false_from_ne_true (known y.act y.reference) (λ k. false≢true (sym (ap not (grows y.act y.reference k)) ∙ e))))
    (to_spot s.actions a r filled is) (ap not no_known) (ap not yes_more)
