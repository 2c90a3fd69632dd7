-- How many actions of a type end in a whole legal trace: as many in each.
use Rattle.std.proofs.Common.{◌≡◌, ◌∙◌, ℕ, ◌+◌, ◌<◌, ◌≤◌, ⊎_elim, List, [], ◌∷◌, ◌++◌, length, false, cond, refl, ap, sym, subst, arith}
use Rattle.std.specs.Prelude.{Contains, slice_get}
use Rattle.std.specs.Option.{option_map_or}
use Rattle.std.proofs.lemmas.List.Sums.{sum_by-cons}
use Rattle.std.proofs.lemmas.List.Elements.{Contains-append_cases}
use Rattle.pst_model.specs.ModelTree.{ModelTree}
use Rattle.pst_scen.specs.declared.event.Event.{Event}
use Rattle.pst_scen.specs.declared.event.Event.TheVariants.{Start, End}
use Rattle.pst_scen.specs.declared.scenario.Scenario.{Scenario}
use Rattle.pst_scen.specs.Trace.{Started, Ended, AreLegal, IsLegalTrace, IsWhole, Block, Starts, Ends, starts_of, events}
use Rattle.pst_lanes.proofs.Elements.{none_in, cons_cases, cons_first, cons_rest, one_in}
use Rattle.pst_lanes.proofs.Events.{started_cases, starts_member, end_no_start}
use Rattle.pst_outcome.specs.Models.{is_of_type, ends_type, count_ended}

-- ---- different numbers

abbrev AreDifferent : List ℕ → Type 0
AreDifferent [] = Unit {0}
AreDifferent (x ∷ xs) = (Contains xs x → ⊥) × AreDifferent xs

different_push : (xs : List ℕ) (x : ℕ) → AreDifferent xs → (Contains xs x → ⊥) → AreDifferent (xs ++ x ∷ [])
different_push [] x apart new = (none_in x, tt)
different_push (y ∷ ys) x apart new = (
  λ c. ⊎_elim apart.0 (λ k. new (subst (λ n. Contains (y ∷ ys) n) (sym (one_in x y k)) (cons_first y ys))) (Contains-append_cases ys (x ∷ []) y c),
  different_push ys x apart.1 (λ c. new (cons_rest y x ys c)),
)

module _ (f : ℕ → ℕ) where
  abbrev total : List ℕ → ℕ
  total [] = 0
  total (x ∷ xs) = f x + total xs

  -- one number taken out
  record Without (ys : List ℕ) (u : ℕ) : Type 0 where
    rest : List ℕ
    sum : total ys ≡ f u + total rest
    others : (v : ℕ) → (v ≡ u → ⊥) → Contains ys v → Contains rest v

  without : (ys : List ℕ) (u : ℕ) → Contains ys u → Without ys u
  without [] u h = absurd (none_in u h)
  without (y ∷ ys) u h = ⊎_elim (λ e. here e) (λ k. later (without ys u k)) (cons_cases y u ys h)
    where
      here : y ≡ u → Without (y ∷ ys) u
      here e = record {
        rest = ys;
        sum = ap (λ n. f n + total ys) e;
        others = λ v apart c. ⊎_elim (λ q. absurd (apart (sym q ∙ e))) (λ k. k) (cons_cases y v ys c);
      }

      later : Without ys u → Without (y ∷ ys) u
      later w =
          let is = w.sum in record {
            rest = y ∷ w.rest;
            sum = omega (arith, is);
            others = λ v apart c. ⊎_elim (λ q. subst (λ n. Contains (y ∷ w.rest) n) q (cons_first y w.rest)) (λ k. cons_rest y v w.rest (w.others v apart k)) (cons_cases y v ys c);
          }

  no_more : (xs ys : List ℕ) → AreDifferent xs → ((v : ℕ) → Contains xs v → Contains ys v) → total xs ≤ total ys
  no_more [] ys apart inside = omega arith
  no_more (x ∷ xs) ys apart inside =
      let w = without ys x (inside x (cons_first x xs)) in
      let is = w.sum in
      let less = no_more xs w.rest apart.1 (λ v c. w.others v (λ e. apart.0 (subst (λ n. Contains xs n) e c)) (inside v (cons_rest x v xs c))) in
      omega (arith, is, less)

  -- as much of the same numbers
  as_much : (xs ys : List ℕ) → AreDifferent xs → AreDifferent ys → ((v : ℕ) → Contains xs v → Contains ys v) → ((v : ℕ) → Contains ys v → Contains xs v) → total xs ≡ total ys
  as_much xs ys one other inside back =
      let low = no_more xs ys one inside in
      let high = no_more ys xs other back in
      omega (arith, low, high)

-- ---- the actions that end

abbrev ends : List Event → List ℕ
ends [] = []
ends (Start a lane more ∷ es) = ends es
ends (End a ∷ es) = a ∷ ends es

ends_append : (t u : List Event) → ends (t ++ u) ≡ ends t ++ ends u
ends_append [] u = refl
ends_append (Start a lane more ∷ t) u = ends_append t u
ends_append (End a ∷ t) u = ap (λ l. a ∷ l) (ends_append t u)

end_same : (a b : ℕ) → End a ≡ End b → a ≡ b
end_same a b e = cc

in_ends : (t : List Event) (a : ℕ) → Ended t a → Contains (ends t) a
in_ends [] a h = absurd (none_in (End a) h)
in_ends (Start b lane more ∷ t) a h = ⊎_elim (λ e. absurd cc) (λ k. in_ends t a k) (cons_cases (Start b lane more) (End a) t h)
in_ends (End b ∷ t) a h = ⊎_elim (λ e. subst (λ n. Contains (b ∷ ends t) n) (end_same b a e) (cons_first b (ends t))) (λ k. cons_rest b a (ends t) (in_ends t a k)) (cons_cases (End b) (End a) t h)

ends_in : (t : List Event) (a : ℕ) → Contains (ends t) a → Ended t a
ends_in [] a h = absurd (none_in a h)
ends_in (Start b lane more ∷ t) a h = cons_rest (Start b lane more) (End a) t (ends_in t a h)
ends_in (End b ∷ t) a h = ⊎_elim (λ e. subst (λ n. Contains (End b ∷ t) (End n)) e (cons_first (End b) t)) (λ k. cons_rest (End b) (End a) t (ends_in t a k)) (cons_cases b a (ends t) h)

no_ends : (members used : List ℕ) → ends (starts_of members used) ≡ []
no_ends [] used = refl
no_ends (a ∷ more) [] = refl
no_ends (a ∷ []) (l ∷ ls) = refl
no_ends (a ∷ b ∷ more) (l ∷ ls) = no_ends (b ∷ more) ls

nil_behind : (xs : List ℕ) → xs ++ [] ≡ xs
nil_behind [] = refl
nil_behind (x ∷ xs) = ap (λ l. x ∷ l) (nil_behind xs)

module _ (s : Scenario) (lanes : ℕ) where
  -- what starts in legal blocks is an action that there is
  started_in : (h : List Block) → AreLegal s lanes h → (a : ℕ) → Started (events h) a → a < length s.actions
  started_in [] legal a (lane, (more, on)) = absurd (none_in (Start a lane more) on)
  started_in (Starts ms us ∷ h) legal a starts =
      ⊎_elim (λ old. started_in h legal.0 a old) (λ new. legal.1.group.inside a (starts_member ms us a new)) (started_cases (events h) (starts_of ms us) a starts)
  started_in (Ends b ∷ h) legal a starts = ⊎_elim (λ old. started_in h legal.0 a old) (λ new. absurd (end_no_start b a new)) (started_cases (events h) (End b ∷ []) a starts)

  -- and so is what ends
  ended_in : (h : List Block) → AreLegal s lanes h → (a : ℕ) → Contains (ends (events h)) a → a < length s.actions
  ended_in [] legal a c = absurd (none_in a c)
  ended_in (Starts ms us ∷ h) legal a c =
      ended_in h legal.0 a (subst (λ l. Contains l a) (ends_append (events h) (starts_of ms us) ∙ ap (λ l. ends (events h) ++ l) (no_ends ms us) ∙ nil_behind (ends (events h))) c)
  ended_in (Ends b ∷ h) legal a c =
      ⊎_elim (λ old. ended_in h legal.0 a old) (λ new. subst (λ n. n < length s.actions) (one_in b a new) (started_in h legal.0 b legal.1.0))
      (Contains-append_cases (ends (events h)) (b ∷ []) a (subst (λ l. Contains l a) (ends_append (events h) (End b ∷ [])) c))

  -- each ends once
  end_once : (h : List Block) → AreLegal s lanes h → AreDifferent (ends (events h))
  end_once [] legal = tt
  end_once (Starts ms us ∷ h) legal =
      subst AreDifferent (sym (ends_append (events h) (starts_of ms us) ∙ ap (λ l. ends (events h) ++ l) (no_ends ms us) ∙ nil_behind (ends (events h)))) (end_once h legal.0)
  end_once (Ends b ∷ h) legal =
      subst AreDifferent (sym (ends_append (events h) (End b ∷ []))) (different_push (ends (events h)) b (end_once h legal.0) (λ c. legal.1.1 (ends_in (events h) b c)))

-- ---- how many

abbrev weight : List (List ℕ) → ModelTree → Scenario → List ℕ → ℕ → ℕ
weight names m s type a = cond (option_map_or (is_of_type names m type) (slice_get s.actions a) false) 1 0

none_more : (n : ℕ) → 0 + n ≡ n
none_more n = omega arith

count_is : (names : List (List ℕ)) (m : ModelTree) (s : Scenario) (type : List ℕ) (t : List Event) → count_ended names m s t type ≡ total (weight names m s type) (ends t)
count_is names m s type [] = refl
count_is names m s type (Start a lane more ∷ t) =
    sum_by-cons (λ x. cond (ends_type names m s type x) 1 0) (Start a lane more) t ∙ none_more (count_ended names m s t type) ∙ count_is names m s type t
count_is names m s type (End a ∷ t) =
    sum_by-cons (λ x. cond (ends_type names m s type x) 1 0) (End a) t ∙ ap (λ n. weight names m s type a + n) (count_is names m s type t)

-- as many actions of a type end in each whole legal trace
pub as_many_ended : (names : List (List ℕ)) (m : ModelTree) (s : Scenario) (lanes : ℕ) (type : List ℕ) (t u : List Event)
    → IsLegalTrace s lanes t → IsLegalTrace s lanes u → IsWhole s t → IsWhole s u → count_ended names m s t type ≡ count_ended names m s u type
as_many_ended names m s lanes type t u legal lawful whole full =
    count_is names m s type t
    ∙ as_much (weight names m s type) (ends t) (ends u)
    (subst (λ es. AreDifferent (ends es)) legal.are (end_once s lanes legal.blocks legal.legal)) (subst (λ es. AreDifferent (ends es)) lawful.are (end_once s lanes lawful.blocks lawful.legal))
    (λ v c. in_ends u v (full v (ended_in s lanes legal.blocks legal.legal v (subst (λ es. Contains (ends es) v) (sym legal.are) c))))
    (λ v c. in_ends t v (whole v (ended_in s lanes lawful.blocks lawful.legal v (subst (λ es. Contains (ends es) v) (sym lawful.are) c))))
    ∙ sym (count_is names m s type u)
