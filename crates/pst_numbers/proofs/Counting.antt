-- Names are counted as they are declared.
use Rattle.std.proofs.Common.{◌≡◌, ℕ, ◌+◌, Bool, true, false, not, ◌&&◌, List, [], ◌∷◌, ◌++◌, length, nat_eq, refl, sym, ap, ◌∙◌, cond, Option, true≢false}
use Rattle.std.specs.Prelude.{Some, None, is_some, position, if◌then◌else◌}
use Rattle.std.specs.Cmp.{nat_eq_equiv}
use Rattle.std.specs.Option.{option_map, option_map_or}
use Rattle.std.proofs.Math.Dec.{eqb}
use Rattle.std.proofs.lemmas.Bool.{eqb-true}
use Rattle.std.proofs.lemmas.List.{length-append, append-nil}
use Rattle.std.proofs.lemmas.List.Elements.{filter-append}
use Rattle.pst_base.specs.declared.position.Place.{Place}
use Rattle.pst_ast.specs.declared.scope_declaration.Declaration.{Declaration}
use Rattle.pst_ast.specs.Sorts.{same_place}
use Rattle.pst_ast.specs.Scopes.{is_type, is_inside, names_in}
use Rattle.pst_numbers.specs.declared.keys.PlaceKey.{PlaceKey}
use Rattle.pst_numbers.specs.declared.keys.MemberKey.{MemberKey}
use Rattle.pst_numbers.specs.NumberKeys.{place_key, member_key}
use Rattle.pst_numbers.proofs.Positions.{kept, position_more}
use Rattle.pst_numbers.specs.Ranked.{counts_here, rank_at, count_of, or_new, IsCounted, IsRanked}

abbrev passes : Place → Declaration → Bool
passes type d = is_inside type d && not (is_type d.sort)

none_is_some : {X : Type 0} {x : X} → None ≡ Some x → ⊥
none_is_some e = true≢false (sym (ap is_some e))

and_true : (b : Bool) → (b && true) ≡ b
and_true true = refl
and_true false = refl

and_false : (b : Bool) → (b && false) ≡ false
and_false true = refl
and_false false = refl

here : (type : Place) (b : Bool) (inside : Option Place) (at : Place) → (if b then None else inside) ≡ Some at → (option_map_or (same_place type) inside false && not b) ≡ same_place type at
here type true inside at e = absurd (none_is_some e)
here type false inside at e = and_true (option_map_or (same_place type) inside false) ∙ ap (λ (i : Option Place). option_map_or (same_place type) i false) e

nowhere : (type : Place) (b : Bool) (inside : Option Place) → (if b then None else inside) ≡ None → (option_map_or (same_place type) inside false && not b) ≡ false
nowhere type true inside e = and_false (option_map_or (same_place type) inside false)
nowhere type false inside e = and_true (option_map_or (same_place type) inside false) ∙ ap (λ (i : Option Place). option_map_or (same_place type) i false) e

same_kept : (found : Option ℕ) (m n : ℕ) → or_new found false m ≡ or_new found false n
same_kept (Some k) m n = refl
same_kept None m n = refl

mapped : (found : Option ℕ) (b : Bool) (n : ℕ) → option_map (λ k. k + 1) (or_new found b n) ≡ or_new (option_map (λ k. k + 1) found) b (n + 1)
mapped (Some k) b n = refl
mapped None true n = refl
mapped None false n = refl

names_more : (ps : List Declaration) (d : Declaration) (type : Place) → names_in (ps ++ d ∷ []) type ≡ names_in ps type ++ cond (passes type d) (d ∷ []) []
names_more ps d type = filter-append (passes type) ps (d ∷ [])

place : ℕ → ℕ → ℕ → Place
place file line column = record { file = file; line = line; column = column }

left_of : (a b : Bool) → (a && b) ≡ true → a ≡ true
left_of true b e = refl
left_of false b e = e

right_of : (a b : Bool) → (a && b) ≡ true → b ≡ true
right_of true b e = e
right_of false b e = absurd (true≢false (sym e))

same_places : (a b : Place) → same_place a b ≡ true → a ≡ b
unfolding place
same_places a b e =
    let lines = right_of (nat_eq a.file b.file) (nat_eq a.line b.line && nat_eq a.column b.column) e in
    ap (λ (f : ℕ). place f a.line a.column) (eqb-true a.file b.file (left_of (nat_eq a.file b.file) (nat_eq a.line b.line && nat_eq a.column b.column) e))
    ∙ ap (λ (l : ℕ). place b.file l a.column) (eqb-true a.line b.line (left_of (nat_eq a.line b.line) (nat_eq a.column b.column) lines))
    ∙ ap (λ (c : ℕ). place b.file b.line c) (eqb-true a.column b.column (right_of (nat_eq a.line b.line) (nat_eq a.column b.column) lines))

pub turned : (p q : Place) → same_place p q ≡ same_place q p
turned p q =
    ap (λ (b : Bool). b && (nat_eq p.line q.line && nat_eq p.column q.column)) (nat_eq_equiv.symm p.file q.file)
    ∙ ap (λ (b : Bool). nat_eq q.file p.file && (b && nat_eq p.column q.column)) (nat_eq_equiv.symm p.line q.line)
    ∙ ap (λ (b : Bool). nat_eq q.file p.file && (nat_eq q.line p.line && b)) (nat_eq_equiv.symm p.column q.column)

-- what was found among some names, and among one more where that counts
one_more : (ps : List Declaration) (d : Declaration) (type at : Place) (b : Bool)
    → position (λ e. same_place e.name.place at) (names_in ps type ++ cond b (d ∷ []) []) ≡ or_new (position (λ e. same_place e.name.place at) (names_in ps type)) (b && same_place d.name.place at) (length (names_in ps type))
one_more ps d type at true = position_more (λ e. same_place e.name.place at) (names_in ps type) d
one_more ps d type at false = ap (λ (xs : List Declaration). position (λ e. same_place e.name.place at) xs) (append-nil (names_in ps type)) ∙ kept (position (λ e. same_place e.name.place at) (names_in ps type)) (length (names_in ps type))

longer : (xs : List Declaration) (d : Declaration) (b : Bool) → length (xs ++ cond b (d ∷ []) []) ≡ (if b then length xs + 1 else length xs)
longer xs d true = length-append xs (d ∷ [])
longer xs d false = ap (λ (ys : List Declaration). length ys) (append-nil xs)

module _ (ps : List Declaration) (d : Declaration) where
  rank_more : (type at : Place) → rank_at (ps ++ d ∷ []) type at ≡ or_new (rank_at ps type at) (passes type d && same_place d.name.place at) (length (names_in ps type) + 1)
  rank_more type at =
      ap (λ (xs : List Declaration). option_map (λ k. k + 1) (position (λ e. same_place e.name.place at) xs)) (names_more ps d type)
      ∙ ap (λ (found : Option ℕ). option_map (λ k. k + 1) found) (one_more ps d type at (passes type d))
      ∙ mapped (position (λ e. same_place e.name.place at) (names_in ps type)) (passes type d && same_place d.name.place at) (length (names_in ps type))

  -- a name that counts nowhere changes nothing
  pub passed_by : (counts : PlaceKey → Option ℕ) (ranks : MemberKey → Option ℕ) → counts_here d ≡ None → IsRanked ps counts ranks → IsRanked (ps ++ d ∷ []) counts ranks
  passed_by counts ranks none so_far = record {
    counted = λ type. so_far.counted type ∙ sym (ap (λ (xs : List Declaration). length xs) (names_more ps d type) ∙ longer (names_in ps type) d (passes type d) ∙ ap (λ (b : Bool). if b then length (names_in ps type) + 1 else length (names_in ps type)) (nowhere type (is_type d.sort) d.inside none));
    ranked = λ type at. so_far.ranked type at ∙ sym (rank_more type at ∙ ap (λ (b : Bool). or_new (rank_at ps type at) (b && same_place d.name.place at) (length (names_in ps type) + 1)) (nowhere type (is_type d.sort) d.inside none) ∙ sym (kept (rank_at ps type at) (length (names_in ps type) + 1)));
  }

  module _ (counts more : PlaceKey → Option ℕ) (ranks others : MemberKey → Option ℕ) (inside : Place) (is : counts_here d ≡ Some inside) (so_far : IsRanked ps counts ranks) (step : IsCounted counts ranks inside d.name.place more others) where
    counted_there : (type : Place) (b : Bool) → same_place type inside ≡ b → (if b then count_of counts (place_key inside) + 1 else count_of counts (place_key type)) ≡ (if b then length (names_in ps type) + 1 else length (names_in ps type))
    counted_there type true e = ap (λ (n : ℕ). n + 1) (so_far.counted inside ∙ ap (λ (t : Place). length (names_in ps t)) (sym (same_places type inside e)))
    counted_there type false e = so_far.counted type

    ranked_there : (type at : Place) (b : Bool) → same_place type inside ≡ b → or_new (rank_at ps type at) (b && same_place at d.name.place) (count_of counts (place_key inside) + 1) ≡ or_new (rank_at ps type at) (b && same_place d.name.place at) (length (names_in ps type) + 1)
    ranked_there type at true e =
        ap (λ (n : ℕ). or_new (rank_at ps type at) (same_place at d.name.place) n) (counted_there type true e)
        ∙ ap (λ (b : Bool). or_new (rank_at ps type at) b (length (names_in ps type) + 1)) (turned at d.name.place)
    ranked_there type at false e = same_kept (rank_at ps type at) (count_of counts (place_key inside) + 1) (length (names_in ps type) + 1)

    -- a further name is counted
    pub counts_on : IsRanked (ps ++ d ∷ []) more others
    counts_on = record {
      counted = λ type. step.counted (place_key type) ∙ counted_there type (same_place type inside) refl ∙ sym (ap (λ (xs : List Declaration). length xs) (names_more ps d type) ∙ longer (names_in ps type) d (passes type d) ∙ ap (λ (b : Bool). if b then length (names_in ps type) + 1 else length (names_in ps type)) (here type (is_type d.sort) d.inside inside is));
      ranked = λ type at. step.ranked (member_key type at) ∙ ap (λ (r : Option ℕ). or_new r (same_place type inside && same_place at d.name.place) (count_of counts (place_key inside) + 1)) (so_far.ranked type at) ∙ ranked_there type at (same_place type inside) refl
          ∙ sym (rank_more type at ∙ ap (λ (b : Bool). or_new (rank_at ps type at) (b && same_place d.name.place at) (length (names_in ps type) + 1)) (here type (is_type d.sort) d.inside inside is));
    }
