-- References and claims are judged one after another.
use Rattle.std.proofs.Common.{◌≡◌, ◌<◌, ◌≤◌, arith, refl, sym, subst, ap, ◌∙◌, append_assoc, cond}
use Rattle.std.specs.Prelude.{ℕ, zero, suc, ◌+◌, Bool, false, List, [], ◌∷◌, ◌++◌, map, length, drop, slice_get, Option, Some, None, option_to_list}
use Rattle.std.specs.List.{enumerate_from, filter, filter_map, flat_map, cons_option}
use Rattle.std.specs.Option.{option_map_or, option_and_then}
use Rattle.std.proofs.lemmas.List.{append-nil, drop_more}
use Rattle.std.proofs.lemmas.Option.{get_or_from_slice_get}
use Rattle.pst_ast.specs.declared.instance.Instance.{Instance}
use Rattle.pst_ast.specs.declared.scope_declaration.Declaration.{Declaration}
use Rattle.pst_ast.specs.declared.referent.Finding.{Finding}
use Rattle.pst_name_rules.specs.Earlier.{earlier}
use Rattle.pst_name_rules.specs.Leasts.{least_at}
use Rattle.pst_bind.specs.declared.choices.Choice.{Choice}
use Rattle.pst_bind.specs.declared.judging.Judged.{Judged}
use Rattle.pst_bind.specs.declared.pool_map.Served.{Served}
use Rattle.pst_bind.specs.declared.wants.Wanted.{Wanted}
use Rattle.pst_bind.specs.ListedNeeds.{need_of}
use Rattle.pst_base.specs.declared.position.Place.{Place}
use Rattle.pst_ast.specs.Sorts.{same_place}
use Rattle.pst_bound_pools.specs.Homes.{is_home_at}
use Rattle.pst_bind.specs.Needs.{Need, is_home, is_there}
use Rattle.pst_bound_pools.specs.Pools.{component_of}
use Rattle.pst_bind.specs.Wants.{need_in}
use Rattle.pst_bind.proofs.Needing.{home_more}
use Rattle.pst_bind.specs.Choices.{finding_at}
use Rattle.pst_bind.specs.Judging.{AreMore, found_with, served_with, served_by_choice}

-- an instance where one has to stand
abbrev pub blank_instance : Instance
blank_instance = record { name = record { 0 = 0 }; component = record { 0 = 0 }; parent = None; last = 0 }

least_append : (f : Need → Option Finding) (xs ys : List Need) (before : Option Finding) → least_at f (xs ++ ys) before ≡ least_at f ys (least_at f xs before)
least_append f [] ys before = refl
least_append f (x ∷ xs) ys before = least_append f xs ys (earlier before (f x))

first_option : (o : Option Served) (rest : List Served) → cons_option o rest ≡ option_to_list o ++ rest
first_option None rest = refl
first_option (Some s) rest = refl

served_append : (f : Need → Option Served) (xs ys : List Need) → filter_map f (xs ++ ys) ≡ filter_map f xs ++ filter_map f ys
served_append f [] ys = refl
served_append f (x ∷ xs) ys =
    first_option (f x) (filter_map f (xs ++ ys)) ∙ ap (λ (zs : List Served). option_to_list (f x) ++ zs) (served_append f xs ys)
    ∙ sym (append_assoc (option_to_list (f x)) (filter_map f xs) (filter_map f ys)) ∙ ap (λ (zs : List Served). zs ++ filter_map f ys) (sym (first_option (f x) (filter_map f xs)))

module _ (choice : Need → Choice) where
  pub none_more : (judged : Judged) → AreMore choice [] judged judged
  none_more judged = record { least = refl; served = sym (append-nil judged.served.items) }

  pub more_then : (xs ys : List Need) (a b c : Judged) → AreMore choice xs a b → AreMore choice ys b c → AreMore choice (xs ++ ys) a c
  more_then xs ys a b c m n = record {
    least = n.least ∙ ap (least_at (found_with choice) ys) m.least ∙ sym (least_append (found_with choice) xs ys a.least);
    served = n.served ∙ ap (λ (zs : List Served). zs ++ filter_map (served_with choice) ys) m.served
        ∙ append_assoc a.served.items (filter_map (served_with choice) xs) (filter_map (served_with choice) ys)
        ∙ ap (λ (zs : List Served). a.served.items ++ zs) (sym (served_append (served_with choice) xs ys));
  }

  pub one_more : (n : Need) (made : Choice) (old new : Judged) → made ≡ choice n → new.least ≡ earlier old.least (finding_at n.need.name.place made)
      → new.served.items ≡ old.served.items ++ served_by_choice n made → AreMore choice (n ∷ []) old new
  one_more n made old new is least served = record {
    least = least ∙ ap (λ (c : Choice). earlier old.least (finding_at n.need.name.place c)) is;
    served = served ∙ ap (λ (c : Choice). old.served.items ++ served_by_choice n c) is
        ∙ ap (λ (zs : List Served). old.served.items ++ zs) (sym (first_option (served_with choice n) [] ∙ append-nil (option_to_list (served_with choice n))));
  }

  -- what is still to be judged, behind what was
  abbrev pub IsOnTheWay : List Need → Judged → List Need → Judged → Type 0
  IsOnTheWay rest now all initial = (judged : Judged) → AreMore choice rest now judged → AreMore choice all initial judged

  pub onward : (xs rest before all : List Need) (a b initial : Judged) → AreMore choice xs a b → before ≡ xs ++ rest → IsOnTheWay before a all initial → IsOnTheWay rest b all initial
  onward xs rest before all a b initial m e way judged more = way judged (subst (λ (ns : List Need). AreMore choice ns a judged) (sym e) (more_then xs rest a b judged m more))

  pub arrived : (all : List Need) (now initial : Judged) → IsOnTheWay [] now all initial → AreMore choice all initial now
  arrived all now initial way = way now (none_more now)

  pub arrived_by : (rest all : List Need) (now initial : Judged) → rest ≡ [] → IsOnTheWay rest now all initial → AreMore choice all initial now
  arrived_by rest all now initial none way = way now (subst (λ (ns : List Need). AreMore choice ns now now) (sym none) (none_more now))

-- ---- steps

none_left : {X : Type 0} (xs : List X) (n : ℕ) → length xs ≤ n → drop n xs ≡ []
none_left [] zero far = refl
none_left [] (suc n) far = refl
none_left (x ∷ xs) zero far = absurd (omega (arith, far))
none_left (x ∷ xs) (suc n) far = none_left xs n (omega (arith, far))

module _ (number : ℕ) (action : Declaration) (instance : ℕ) where
  abbrev needs_left : ℕ → List Wanted → List Need
  needs_left at ws = map (need_of number action instance) (enumerate_from at (map need_in ws))

  pub need_step : (ws : List Wanted) (at reference : ℕ) (w : Wanted) → at < length ws → slice_get ws at ≡ Some w → reference ≡ at
      → needs_left at (drop at ws) ≡ need_of number action instance (reference, w.need) ∷ needs_left (at + 1) (drop (at + 1) ws)
  need_step ws at reference w within is same =
      ap (needs_left at) (drop_more ws at w within)
      ∙ ap (λ (v : Wanted). need_of number action instance (at, v.need) ∷ needs_left (at + 1) (drop (at + 1) ws)) (get_or_from_slice_get ws at w w is)
      ∙ ap (λ (n : ℕ). need_of number action instance (n, w.need) ∷ needs_left (at + 1) (drop (at + 1) ws)) (sym same)

  pub needs_end : (ws : List Wanted) (at : ℕ) → length ws ≤ at → needs_left at (drop at ws) ≡ []
  needs_end ws at far = ap (needs_left at) (none_left ws at far)

module _ (f : ℕ → List Need) (ds : List Declaration) (action : Declaration) where
  abbrev homes_left : ℕ → List Instance → List Need
  homes_left at instances = flat_map f (map (λ (x : ℕ × Instance). x.0) (filter (λ (x : ℕ × Instance). is_home ds action x.1) (enumerate_from at instances)))

  there_by : (inside : Option Place) (component : Option Declaration)
      → option_map_or (λ (place : Place). option_map_or (λ (c : Declaration). same_place c.name.place place) component false) inside false ≡ is_there inside component
  there_by None None = refl
  there_by None (Some c) = refl
  there_by (Some place) None = refl
  there_by (Some place) (Some c) = refl

  at_home : (instances : List Instance) (n : ℕ) (i : Instance) → slice_get instances n ≡ Some i → is_home_at ds instances action n ≡ is_home ds action i
  at_home instances n i is =
      ap (λ (o : Option Instance). option_map_or (λ (place : Place). option_map_or (λ (c : Declaration). same_place c.name.place place) (option_and_then (component_of ds) o) false) action.inside false) is
      ∙ there_by action.inside (component_of ds i)

  homes_step : (instances : List Instance) (at instance : ℕ) (i : Instance) → at < length instances → slice_get instances at ≡ Some i → instance ≡ at
      → homes_left at (drop at instances) ≡ cond (is_home ds action i) (f instance) [] ++ homes_left (at + 1) (drop (at + 1) instances)
  homes_step instances at instance i within is same =
      let rest = filter (λ (x : ℕ × Instance). is_home ds action x.1) (enumerate_from (at + 1) (drop (at + 1) instances)) in
      ap (homes_left at) (drop_more instances at i within)
      ∙ ap (λ (j : Instance). homes_left at (j ∷ drop (at + 1) instances)) (get_or_from_slice_get instances at i i is)
      ∙ home_more f at i (is_home ds action i) rest
      ∙ ap (λ (n : ℕ). cond (is_home ds action i) (f n) [] ++ homes_left (at + 1) (drop (at + 1) instances)) (sym same)

  pub home_step : (instances : List Instance) (at instance : ℕ) (i : Instance) → at < length instances → slice_get instances at ≡ Some i → instance ≡ at
      → homes_left at (drop at instances) ≡ cond (is_home_at ds instances action instance) (f instance) [] ++ homes_left (at + 1) (drop (at + 1) instances)
  home_step instances at instance i within is same =
      homes_step instances at instance i within is same
      ∙ ap (λ (b : Bool). cond b (f instance) [] ++ homes_left (at + 1) (drop (at + 1) instances)) (sym (ap (is_home_at ds instances action) same ∙ at_home instances at i is))

  pub homes_end : (instances : List Instance) (at : ℕ) → length instances ≤ at → homes_left at (drop at instances) ≡ []
  homes_end instances at far = ap (homes_left at) (none_left instances at far)
