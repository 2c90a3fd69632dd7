-- What the references that fit add up to, looked up one by one.
use Rattle.std.proofs.Common.{◌≡◌, ◌≢◌, ℕ, zero, suc, ◌+◌, ◌<◌, List, [], ◌∷◌, ◌++◌, map, Bool, true, false, not, ◌&&◌, ◌||◌, nat_eq, if◌then◌else◌, Option, Some, None, refl, sym, ap, ◌∙◌, arith}
use Rattle.std.specs.Prelude.{flat_map, slice_get}
use Rattle.std.specs.List.{filter, list_any}
use Rattle.std.specs.Option.{option_map, option_and_then}
use Rattle.std.proofs.lemmas.Bool.{eq-eqb, ne_eqb, false≢true}
use Rattle.std.proofs.lemmas.List.{append-nil}
use Rattle.std.proofs.lemmas.Option.{none-some, same_Some}
use Rattle.pst_scen.specs.declared.act.Act.{Act}
use Rattle.pst_scen.specs.declared.act.Filled.{Filled}
use Rattle.pst_scen.specs.declared.act.Flow.{Flow}
use Rattle.pst_scen.specs.declared.act.Flow.TheVariants as flow
use Rattle.pst_scen.specs.declared.act.Link.{Link}
use Rattle.pst_legal.specs.Supplied.{is_source_for}
use Rattle.pst_legal.specs.SupplyReading.{Spot, Source, spots, is_writer, is_previous, is_free, is_candidate, same_link, source_of}
use Rattle.pst_ties.specs.declared.tied.End.{End}
use Rattle.pst_pool_sources.specs.Offers.{offers, end_of, is_untaken, may_serve, free_ends}
use Rattle.pst_open_ends.specs.declared.spot.Spot.{Spot as Kept}
use Rattle.pst_open_ends.specs.Spots.{read_spot, kept_spot, spots_of, spots_from, spot_at}
use Rattle.pst_open_ends.specs.Options.{links_from, has_link, source_at, is_fixed, fixed_among, old_among, unless_own}
use Rattle.pst_open_ends.proofs.Finds.{kept_append}

abbrev pub Each : {A : Type 0} → (A → Type 0) → List A → Type 0
Each P [] = Unit {0}
Each P (x ∷ xs) = P x × Each P xs

pub each_append : {A : Type 0} (P : A → Type 0) (xs ys : List A) → Each P xs → Each P ys → Each P (xs ++ ys)
each_append P [] ys a b = b
each_append P (x ∷ xs) ys a b = (a.0, each_append P xs ys a.1 b)

-- ---- what is kept of a reference that is looked up

pub linked_none : (to : Link) (o : Option Spot) → None ≡ option_map kept_spot o → false ≡ has_link to o
linked_none to None e = refl
linked_none to (Some s) e = absurd (none-some (kept_spot s) e)

pub linked_some : (to : Link) (o : Option Spot) (spot : Kept) → Some spot ≡ option_map kept_spot o → same_link spot.link to ≡ has_link to o
linked_some to None spot e = absurd (none-some spot (sym e))
linked_some to (Some s) spot e = ap (λ (k : Kept). same_link k.link to) (same_Some spot (kept_spot s) e)

pub source_none : (acts : List Act) (need : Spot) (o : Option Spot) → None ≡ option_map kept_spot o → source_at acts need o ≡ []
source_none acts need None e = refl
source_none acts need (Some s) e = absurd (none-some (kept_spot s) e)

pub source_some : (acts : List Act) (need : Spot) (o : Option Spot) (spot : Kept) → Some spot ≡ option_map kept_spot o → source_at acts need (Some (read_spot spot)) ≡ source_at acts need o
source_some acts need None spot e = absurd (none-some spot (sym e))
source_some acts need (Some s) spot e = ap (λ (k : Kept). source_at acts need (Some (read_spot k))) (same_Some spot (kept_spot s) e)

pub or_false : (b : Bool) → b ≡ (b || false)
or_false true = refl
or_false false = refl

abbrev of_end : ℕ → ℕ → Filled → Spot
of_end act reference filled = record { act = act; reference = reference; filled = filled }

module _ (whole : List Act) where
  abbrev pub Found : Spot → Type 0
  Found s = spot_at whole (end_of s) ≡ Some s

  each_in : (k : ℕ) (act : Act) (n : ℕ) (fs : List Filled) → slice_get whole k ≡ Some act → ((j : ℕ) → slice_get act.references (n + j) ≡ slice_get fs j) → Each Found (spots_of k n fs)
  each_in k act n [] g h = tt
  each_in k act n (f ∷ fs) g h =
      let z : n ≡ n + 0 = omega arith in (
        ap (option_and_then (λ (x : Act). option_map (of_end k n) (slice_get x.references n))) g ∙ ap (λ i. option_map (of_end k n) (slice_get act.references i)) z ∙ ap (option_map (of_end k n)) (h 0),
        each_in k act (n + 1) fs g (λ j. let w : n + 1 + j ≡ n + suc j = omega arith in ap (slice_get act.references) w ∙ h (suc j)),
      )

  each_from : (k : ℕ) (xs : List Act) → ((j : ℕ) → slice_get whole (k + j) ≡ slice_get xs j) → Each Found (spots_from k xs)
  each_from k [] h = tt
  each_from k (x ∷ xs) h =
      let z : k ≡ k + 0 = omega arith in
      each_append Found (spots_of k 0 x.references) (spots_from (k + 1) xs)
      (each_in k x 0 x.references (ap (slice_get whole) z ∙ h 0) (λ j. let w : 0 + j ≡ j = omega arith in ap (slice_get x.references) w))
      (each_from (k + 1) xs (λ j. let w : k + 1 + j ≡ k + suc j = omega arith in ap (slice_get whole) w ∙ h (suc j)))

  pub each_spot : Each Found (spots whole)
  each_spot = each_from 0 whole (λ j. let w : 0 + j ≡ j = omega arith in ap (slice_get whole) w)

  -- ---- writers that have a link

  writer_is : (f : Flow) → is_source_for flow.StateIn f ≡ is_writer f
  writer_is flow.BufferIn = refl
  writer_is flow.BufferOut = refl
  writer_is flow.StreamIn = refl
  writer_is flow.StreamOut = refl
  writer_is flow.StateIn = refl
  writer_is flow.StateOut = refl

  linked_in : (pool : ℕ) (to : Link) (xs : List Spot) → Each Found xs
      → list_any (links_from whole to) (map end_of (filter (may_serve flow.StateIn pool whole) xs)) ≡ list_any (λ s. is_writer s.filled.flow && (nat_eq s.filled.pool pool && same_link s.filled.link to)) xs
  linked_in pool to [] h = refl
  linked_in pool to (x ∷ xs) h = go (is_source_for flow.StateIn x.filled.flow) (is_writer x.filled.flow) (nat_eq x.filled.pool pool) (writer_is x.filled.flow) (linked_in pool to xs h.1)
    where
      rest : List Spot
      rest = filter (may_serve flow.StateIn pool whole) xs

      later : Bool
      later = list_any (λ s. is_writer s.filled.flow && (nat_eq s.filled.pool pool && same_link s.filled.link to)) xs

      here : links_from whole to (end_of x) ≡ same_link x.filled.link to
      here = ap (has_link to) h.0

      go : (v w p : Bool) → v ≡ w → list_any (links_from whole to) (map end_of rest) ≡ later → list_any (links_from whole to) (map end_of (if (v && p) && true then x ∷ rest else rest)) ≡ ((w && (p && same_link x.filled.link to)) || later)
      go true true true e k = ap (λ b. b || list_any (links_from whole to) (map end_of rest)) here ∙ ap (λ b. same_link x.filled.link to || b) k
      go true true false e k = k
      go false false p e k = k
      go true false p e k = absurd (false≢true (sym e))
      go false true p e k = absurd (false≢true e)

  pub previous_is : (pool : ℕ) (to : Link) → list_any (links_from whole to) (free_ends flow.StateIn pool whole) ≡ is_previous whole pool to
  previous_is pool to = linked_in pool to (spots whole) each_spot

  -- ---- sources

  module _ (need : Spot) where
    one_source : (c : Bool) (x : Spot) (rest : List Spot) (more : List Source) → more ≡ map source_of rest → (if c then source_of x ∷ [] else []) ++ more ≡ map source_of (if c then x ∷ rest else rest)
    one_source true x rest more e = ap (λ l. source_of x ∷ l) e
    one_source false x rest more e = e

    unfit : (n o free : Bool) → o ≡ false → (n && (o && free)) ≡ false
    unfit true true free e = absurd (false≢true (sym e))
    unfit true false free e = refl
    unfit false o free e = refl

    pick : (a u o : Bool) (x : Spot) (rest : List Spot) (more : List Source) → o ≡ true → more ≡ map source_of rest
        → (if u then (if a then source_of x ∷ [] else []) ++ more else more) ≡ map source_of (if a && (o && u) then x ∷ rest else rest)
    pick true true true x rest more e k = ap (λ l. source_of x ∷ l) k
    pick true false true x rest more e k = k
    pick false true true x rest more e k = k
    pick false false true x rest more e k = k
    pick a u false x rest more e k = absurd (false≢true e)

    put_if : (u : Bool) (x : End) (xs : List End) → flat_map (unless_own need.act) (if u then x ∷ xs else xs) ≡ (if u then unless_own need.act x ++ flat_map (unless_own need.act) xs else flat_map (unless_own need.act) xs)
    put_if true x xs = refl
    put_if false x xs = refl

    push_if : (u : Bool) (x : Spot) (xs : List Spot) → map end_of (if u then x ∷ xs else xs) ≡ (if u then end_of x ∷ map end_of xs else map end_of xs)
    push_if true x xs = refl
    push_if false x xs = refl

    abbrev serving : List Spot → List Spot
    serving = filter (may_serve need.filled.flow need.filled.pool whole)

    free_in : (xs : List Spot) → flat_map (unless_own need.act) (map end_of (serving xs)) ≡ map source_of (filter (is_candidate whole need) xs)
    free_in [] = refl
    free_in (x ∷ xs) = go (offers need.filled.flow need.filled.pool x.filled) refl (free_in xs)
      where
        u : Bool
        u = is_untaken need.filled.flow need.filled.pool whole x

        kept : List Spot
        kept = filter (is_candidate whole need) xs

        more : List Source
        more = flat_map (unless_own need.act) (map end_of (serving xs))

        go : (o : Bool) → offers need.filled.flow need.filled.pool x.filled ≡ o → flat_map (unless_own need.act) (map end_of (serving xs)) ≡ map source_of kept
            → flat_map (unless_own need.act) (map end_of (if o && u then x ∷ serving xs else serving xs)) ≡ map source_of (if is_candidate whole need x then x ∷ kept else kept)
        go true e k =
            ap (flat_map (unless_own need.act)) (push_if u x (serving xs))
            ∙ put_if u (end_of x) (map end_of (serving xs))
            ∙ pick (not (nat_eq x.act need.act)) u (offers need.filled.flow need.filled.pool x.filled) x kept more e k
        go false e k = k ∙ ap (λ c. map source_of (if c then x ∷ kept else kept)) (sym (unfit (not (nat_eq x.act need.act)) (offers need.filled.flow need.filled.pool x.filled) (is_free whole need.filled x) e))

    pub free_is : flat_map (unless_own need.act) (free_ends need.filled.flow need.filled.pool whole) ≡ old_among whole need (spots whole)
    free_is = free_in (spots whole)

    -- ---- the one that a bind fixes

    module _ (a r : ℕ) where
      none_in : (k n : ℕ) (fs : List Filled) → k ≢ a → fixed_among whole need (a, r) (spots_of k n fs) ≡ []
      none_in k n [] h = refl
      none_in k n (f ∷ fs) h =
          ap (λ b. map source_of (if b && (nat_eq n r && is_candidate whole need (of_end k n f)) then of_end k n f ∷ filter (is_fixed whole need (a, r)) (spots_of k (n + 1) fs) else filter (is_fixed whole need (a, r)) (spots_of k (n + 1) fs))) (ne_eqb k a h)
          ∙ none_in k (n + 1) fs h

      past_in : (n : ℕ) (fs : List Filled) → r < n → fixed_among whole need (a, r) (spots_of a n fs) ≡ []
      past_in n [] h = refl
      past_in n (f ∷ fs) h =
          ap (λ b. map source_of (if nat_eq a a && (b && is_candidate whole need (of_end a n f)) then of_end a n f ∷ filter (is_fixed whole need (a, r)) (spots_of a (n + 1) fs) else filter (is_fixed whole need (a, r)) (spots_of a (n + 1) fs))) (ne_eqb n r (λ e. let bad : ⊥ = omega arith in bad))
          ∙ go (nat_eq a a) (past_in (n + 1) fs (omega arith))
        where
          go : (b : Bool) → fixed_among whole need (a, r) (spots_of a (n + 1) fs) ≡ [] → map source_of (if b && false then of_end a n f ∷ filter (is_fixed whole need (a, r)) (spots_of a (n + 1) fs) else filter (is_fixed whole need (a, r)) (spots_of a (n + 1) fs)) ≡ []
          go true k = k
          go false k = k

      at_in : (n j : ℕ) (fs : List Filled) → r ≡ n + j → fixed_among whole need (a, r) (spots_of a n fs) ≡ source_at whole need (option_map (of_end a r) (slice_get fs j))
      at_in n j [] e = refl
      at_in n zero (f ∷ fs) e =
          let same : n ≡ r = omega arith in
          let rest = filter (is_fixed whole need (a, r)) (spots_of a (n + 1) fs) in
          ap (λ b. map source_of (if b && (nat_eq n r && is_candidate whole need (of_end a n f)) then of_end a n f ∷ rest else rest)) (eq-eqb a a refl)
          ∙ ap (λ b. map source_of (if b && is_candidate whole need (of_end a n f) then of_end a n f ∷ rest else rest)) (eq-eqb n r same)
          ∙ sym (one_source (is_candidate whole need (of_end a n f)) (of_end a n f) rest [] (sym (past_in (n + 1) fs (omega arith))))
          ∙ append-nil (source_at whole need (Some (of_end a n f)))
          ∙ ap (λ i. source_at whole need (Some (of_end a i f))) same
      at_in n (suc j) (f ∷ fs) e =
          let rest = filter (is_fixed whole need (a, r)) (spots_of a (n + 1) fs) in
          ap (λ b. map source_of (if b && (nat_eq n r && is_candidate whole need (of_end a n f)) then of_end a n f ∷ rest else rest)) (eq-eqb a a refl)
          ∙ ap (λ b. map source_of (if b && is_candidate whole need (of_end a n f) then of_end a n f ∷ rest else rest)) (ne_eqb n r (λ s. let bad : ⊥ = omega arith in bad))
          ∙ at_in (n + 1) j fs (omega arith)

      past_from : (k : ℕ) (xs : List Act) → a < k → fixed_among whole need (a, r) (spots_from k xs) ≡ []
      past_from k [] h = refl
      past_from k (x ∷ xs) h =
          kept_append source_of (is_fixed whole need (a, r)) (spots_of k 0 x.references) (spots_from (k + 1) xs)
          ∙ ap (λ l. l ++ fixed_among whole need (a, r) (spots_from (k + 1) xs)) (none_in k 0 x.references (λ e. let bad : ⊥ = omega arith in bad))
          ∙ past_from (k + 1) xs (omega arith)

      at_from : (k j : ℕ) (xs : List Act) → a ≡ k + j → fixed_among whole need (a, r) (spots_from k xs) ≡ source_at whole need (option_and_then (λ (x : Act). option_map (of_end a r) (slice_get x.references r)) (slice_get xs j))
      at_from k j [] e = refl
      at_from k zero (x ∷ xs) e =
          let same : k ≡ a = omega arith in
          kept_append source_of (is_fixed whole need (a, r)) (spots_of k 0 x.references) (spots_from (k + 1) xs)
          ∙ ap (λ l. fixed_among whole need (a, r) (spots_of k 0 x.references) ++ l) (past_from (k + 1) xs (omega arith))
          ∙ append-nil (fixed_among whole need (a, r) (spots_of k 0 x.references))
          ∙ ap (λ i. fixed_among whole need (a, r) (spots_of i 0 x.references)) same
          ∙ at_in 0 r x.references (omega arith)
      at_from k (suc j) (x ∷ xs) e =
          kept_append source_of (is_fixed whole need (a, r)) (spots_of k 0 x.references) (spots_from (k + 1) xs)
          ∙ ap (λ l. l ++ fixed_among whole need (a, r) (spots_from (k + 1) xs)) (none_in k 0 x.references (λ s. let bad : ⊥ = omega arith in bad))
          ∙ at_from (k + 1) j xs (omega arith)

      pub fixed_is : source_at whole need (spot_at whole (record { act = a; reference = r })) ≡ fixed_among whole need (a, r) (spots whole)
      fixed_is = sym (at_from 0 a whole (omega arith))
