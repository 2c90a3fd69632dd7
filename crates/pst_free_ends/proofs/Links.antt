-- What linking one reference takes from those that may be sources.
use Rattle.std.proofs.Common.{◌≡◌, ℕ, List, [], ◌∷◌, map, Bool, true, false, not, ◌&&◌, ◌||◌, nat_eq, if◌then◌else◌, Some, refl, sym, ap, ◌∙◌}
use Rattle.std.specs.List.{filter, list_any}
use Rattle.pst_scen.specs.declared.act.Act.{Act}
use Rattle.pst_scen.specs.declared.act.Flow.{Flow}
use Rattle.pst_scen.specs.declared.act.Link.{Link}
use Rattle.pst_scen.specs.declared.act.Link.TheVariants as link
use Rattle.pst_legal.specs.SupplyReading.{Spot, spots, is_stream, is_writer, is_open, is_previous, same_link, put_link}
use Rattle.pst_ties.specs.declared.tied.End.{End}
use Rattle.pst_ties.specs.Tieds.{same_end}
use Rattle.pst_pool_sources.specs.Offers.{offers, end_of, may_serve, free_ends, without}
use Rattle.pst_open_ends.specs.Options.{link_of}
use Rattle.pst_open_ends.proofs.Lookups.{Each}
use Rattle.pst_free_ends.proofs.Each.{and_never, and_always, or_never, picks_all, picks_changed}
use Rattle.pst_free_ends.proofs.Spots.{at, spot_with, linked, linked_end, spots_linked}

spread : (a h l b k : Bool) → ((a || (h && l)) || (b || (k && l))) ≡ ((a || b) || ((h || k) && l))
spread true h l b k = refl
spread false true true true k = refl
spread false true true false k = refl
spread false true false b true = refl
spread false true false b false = refl
spread false false l b k = refl

parts : (o w v c : Bool) → (o && not (w && (v || c))) ≡ ((o && not (w && v)) && not (w && c))
parts false w v c = refl
parts true false v c = refl
parts true true true c = refl
parts true true false c = refl

absorb : (a b : Bool) → (a || (b && a)) ≡ a
absorb true b = refl
absorb false b = and_never b

-- a writer of the pool is at that end
abbrev pub hits : End → ℕ → List Spot → Bool
hits e pool xs = list_any (λ s. at e s && (is_writer s.filled.flow && nat_eq s.filled.pool pool)) xs

pub any_one : (e : End) (one : Spot) (t : Spot → Bool) (xs : List Spot) → Each (λ s. at e s ≡ true → s ≡ one) xs → list_any (λ s. at e s && t s) xs ≡ (list_any (at e) xs && t one)
any_one e one t [] h = refl
any_one e one t (x ∷ xs) h = go (at e x) refl (any_one e one t xs h.1)
  where
    go : (b : Bool) → at e x ≡ b → list_any (λ s. at e s && t s) xs ≡ (list_any (at e) xs && t one) → ((b && t x) || list_any (λ s. at e s && t s) xs) ≡ ((b || list_any (at e) xs) && t one)
    go true w k =
        ap (λ s. t s || list_any (λ s. at e s && t s) xs) (h.0 w)
        ∙ ap (λ b. t one || b) k
        ∙ absorb (t one) (list_any (at e) xs)
    go false w k = k

module _ (acts : List Act) (e : End) (to : Link) where
  abbrev new : List Act
  new = put_link e.act e.reference to acts

  -- a stream end that is linked isn't free
  pub free_stream : (n : Flow) (p : ℕ) → is_stream n ≡ true → same_link to link.Nothing ≡ false → free_ends n p new ≡ without e (free_ends n p acts)
  free_stream n p st un =
      ap (λ l. map end_of (filter (may_serve n p new) l)) (spots_linked e.act e.reference to acts)
      ∙ picks_changed end_of (linked e to) (may_serve n p acts) (may_serve n p new) (λ x. not (same_end e x)) (linked_end e to) (λ s. go s (at e s)) (spots acts)
    where
      go : (s : Spot) (b : Bool) → may_serve n p new (if b then spot_with to s else s) ≡ (may_serve n p acts s && not b)
      go s true =
          let o = offers n p s.filled in
          let v = is_previous new p (link.Act s.act s.reference) in
          ap (λ c. o && (if c then same_link to link.Nothing else not (is_writer n && v))) st
          ∙ ap (λ c. o && c) un
          ∙ and_never o
          ∙ sym (and_never (may_serve n p acts s))
      go s false =
          let o = offers n p s.filled in
          ap (λ c. o && (if c then is_open s else not (is_writer n && is_previous new p (link.Act s.act s.reference)))) st
          ∙ ap (λ c. o && (if c then is_open s else not (is_writer n && is_previous acts p (link.Act s.act s.reference)))) (sym st)
          ∙ sym (and_always (may_serve n p acts s))

  abbrev pub AreUnlinked : List Spot → Type 0
  AreUnlinked xs = Each (λ s. at e s ≡ true → is_writer s.filled.flow ≡ true → s.filled.link ≡ link.Nothing) xs

  abbrev names : ℕ → Link → Spot → Bool
  names p x s = is_writer s.filled.flow && (nat_eq s.filled.pool p && same_link s.filled.link x)

  one_named : (p : ℕ) (x : Link) → same_link link.Nothing x ≡ false → (s : Spot) → (at e s ≡ true → is_writer s.filled.flow ≡ true → s.filled.link ≡ link.Nothing)
      → names p x (linked e to s) ≡ (names p x s || ((at e s && (is_writer s.filled.flow && nat_eq s.filled.pool p)) && same_link to x))
  one_named p x nx s h = go (at e s) refl
    where
      q : Bool
      q = nat_eq s.filled.pool p

      l : Bool
      l = same_link to x

      go : (b : Bool) → at e s ≡ b → names p x (if b then spot_with to s else s) ≡ (names p x s || ((b && (is_writer s.filled.flow && q)) && l))
      go false f = sym (or_never (names p x s))
      go true f = three (is_writer s.filled.flow) refl
        where
          three : (w : Bool) → is_writer s.filled.flow ≡ w → (w && (q && l)) ≡ ((w && (q && same_link s.filled.link x)) || ((w && q) && l))
          three false g = refl
          three true g =
              sym (ap (λ c. (q && c) || (q && l)) (ap (λ k. same_link k x) (h f g) ∙ nx) ∙ ap (λ c. c || (q && l)) (and_never q))

  named_in : (p : ℕ) (x : Link) → same_link link.Nothing x ≡ false → (xs : List Spot) → AreUnlinked xs → list_any (names p x) (map (linked e to) xs) ≡ (list_any (names p x) xs || (hits e p xs && same_link to x))
  named_in p x nx [] h = refl
  named_in p x nx (s ∷ xs) h =
      let hit = at e s && (is_writer s.filled.flow && nat_eq s.filled.pool p) in
      ap (λ b. b || list_any (names p x) (map (linked e to) xs)) (one_named p x nx s h.0)
      ∙ ap (λ b. (names p x s || (hit && same_link to x)) || b) (named_in p x nx xs h.1)
      ∙ spread (names p x s) hit (same_link to x) (list_any (names p x) xs) (hits e p xs)

  -- a writer that is linked has its previous one
  pub previous_linked : AreUnlinked (spots acts) → (p : ℕ) (x : Link) → same_link link.Nothing x ≡ false → is_previous new p x ≡ (is_previous acts p x || (hits e p (spots acts) && same_link to x))
  previous_linked h p x nx = ap (list_any (names p x)) (spots_linked e.act e.reference to acts) ∙ named_in p x nx (spots acts) h

  pub free_other : AreUnlinked (spots acts) → (n : Flow) (p : ℕ) → is_stream n ≡ false → free_ends n p new ≡ filter (λ x. not (is_writer n && (hits e p (spots acts) && same_link to (link_of (Some x))))) (free_ends n p acts)
  free_other h n p st =
      ap (λ l. map end_of (filter (may_serve n p new) l)) (spots_linked e.act e.reference to acts)
      ∙ picks_changed end_of (linked e to) (may_serve n p acts) (may_serve n p new) (λ x. not (is_writer n && (hits e p (spots acts) && same_link to (link_of (Some x))))) (linked_end e to) tests (spots acts)
    where
      tests : (s : Spot) → may_serve n p new (linked e to s) ≡ (may_serve n p acts s && not (is_writer n && (hits e p (spots acts) && same_link to (link_of (Some (end_of s))))))
      tests s =
          let o = offers n p s.filled in
          let w = is_writer n in
          let v = is_previous acts p (link.Act s.act s.reference) in
          let c = hits e p (spots acts) && same_link to (link.Act s.act s.reference) in
          go (at e s)
          ∙ ap (λ b. o && not (w && b)) (previous_linked h p (link.Act s.act s.reference) refl)
          ∙ parts o w v c
          ∙ ap (λ b. (o && (if b then is_open s else not (w && v))) && not (w && c)) (sym st)
        where
          go : (b : Bool) → may_serve n p new (if b then spot_with to s else s) ≡ (offers n p s.filled && not (is_writer n && is_previous new p (link.Act s.act s.reference)))
          go true = ap (λ b. offers n p s.filled && (if b then same_link to link.Nothing else not (is_writer n && is_previous new p (link.Act s.act s.reference)))) st
          go false = ap (λ b. offers n p s.filled && (if b then is_open s else not (is_writer n && is_previous new p (link.Act s.act s.reference)))) st

  -- where no writer of the pool is linked, nothing is taken
  pub free_unhit : AreUnlinked (spots acts) → (n : Flow) (p : ℕ) → is_stream n ≡ false → hits e p (spots acts) ≡ false → free_ends n p new ≡ free_ends n p acts
  free_unhit h n p st none =
      free_other h n p st
      ∙ picks_all (λ x. not (is_writer n && (hits e p (spots acts) && same_link to (link_of (Some x))))) (free_ends n p acts)
      (λ x. ap (λ b. not (is_writer n && (b && same_link to (link_of (Some x))))) none ∙ ap not (and_never (is_writer n)))

  pub previous_unhit : AreUnlinked (spots acts) → (p : ℕ) (x : Link) → same_link link.Nothing x ≡ false → hits e p (spots acts) ≡ false → is_previous new p x ≡ is_previous acts p x
  previous_unhit h p x nx none =
      previous_linked h p x nx ∙ ap (λ b. is_previous acts p x || (b && same_link to x)) none ∙ or_never (is_previous acts p x)
