-- Counts of types in a list of those that have one.
use Rattle.std.proofs.Common.{◌≡◌, ◌≢◌, ◌<◌, ◌+◌, ◌-◌, ◌∙◌, ℕ, zero, suc, List, [], ◌∷◌, ◌++◌, true, false, ⊎_elim, length, get_or, map, nat_eq, refl, sym, ap, subst, arith}
use Rattle.std.specs.Prelude.{All, replicate, if◌then◌else◌}
use Rattle.std.specs.List.{range_with_len}
use Rattle.std.proofs.lemmas.Bool.{cases_lt}
use Rattle.std.proofs.lemmas.Bool.Decides.{nat_tests}
use Rattle.std.proofs.lemmas.List.Elements.{All-push, All-weaker}
use Rattle.std.proofs.lemmas.List.FromFn.{get_or-map-range_with_len, length-map-range_with_len, fill_by_all}
use Rattle.std.proofs.lemmas.List.Sorted.{IsNonDecreasingBy-push}
use Rattle.pst_sweep_table.specs.declared.uses.Use.{Use}
use Rattle.pst_sweep_table.specs.Uses.{used_in, AreAscending, IsFirstFrom, with_use, AreUses}

-- ---- a look-up

at_place : (used : List Use) (type at : ℕ) (d : Use) → ((k : ℕ) → k < at → (get_or used k d).action < type) → at < length used → (get_or used at d).action ≡ type → used_in used type ≡ (get_or used at d).count
at_place [] type at d before l e = absurd (omega (arith, l))
at_place (one ∷ used) type zero d before l e = let yes : nat_eq type one.action ≡ true = grind (arith, nat_tests, e) in ap (λ b. if b then one.count else used_in used type) yes
at_place (one ∷ used) type (suc at) d before l e =
    let b : one.action < type = before 0 (omega arith) in
    let no : nat_eq type one.action ≡ false = grind (arith, nat_tests, b) in
    ap (λ b. if b then one.count else used_in used type) no ∙ at_place used type at d (λ k h. before (suc k) (omega (arith, h))) (omega (arith, l)) e

pub nowhere : (used : List Use) (type : ℕ) (d : Use) → ((k : ℕ) → k < length used → (get_or used k d).action ≢ type) → used_in used type ≡ 0
nowhere [] type d other = refl
nowhere (one ∷ used) type d other =
    let o : one.action ≢ type = other 0 (omega arith) in
    let no : nat_eq type one.action ≡ false = grind (arith, nat_tests, o) in
    ap (λ b. if b then one.count else used_in used type) no ∙ nowhere used type d (λ k h. other (suc k) (omega (arith, h)))

module _ (used : List Use) (type at : ℕ) (d : Use) (first : IsFirstFrom used type at) where
  pub counted_there : at < length used → (get_or used at d).action ≡ type → used_in used type ≡ (get_or used at d).count
  counted_there l e = at_place used type at d (λ k h. first.before k d h) l e

  pub none_behind : at ≡ length used → used_in used type ≡ 0
  none_behind e = nowhere used type d (λ k h same. let b = first.before k d (omega (arith, h, e)) in omega (arith, b, same))

  pub none_there : AreAscending used → at < length used → (get_or used at d).action ≢ type → used_in used type ≡ 0
  none_there ascending l other = nowhere used type d (λ k h same.
      ⊎_elim (λ before. let b = first.before k d before in omega (arith, b, same))
      (λ on. let up = ascending at k d on h in let from = first.behind at d (omega arith) l in other (omega (arith, up, from, same))) (cases_lt k at))

-- ---- one more type

push_other : (used : List Use) (one : Use) (type : ℕ) → nat_eq type one.action ≡ false → used_in (used ++ one ∷ []) type ≡ used_in used type
push_other [] one type differs = ap (λ b. if b then one.count else 0) differs
push_other (head ∷ used) one type differs = ap (λ n. if nat_eq type head.action then head.count else n) (push_other used one type differs)

push_new : (used : List Use) (one : Use) (type : ℕ) → used_in used type ≡ 0 → (d : Use) → ((k : ℕ) → k < length used → (get_or used k d).action ≢ type) → nat_eq type one.action ≡ true → used_in (used ++ one ∷ []) type ≡ one.count
push_new [] one type z d other same = ap (λ b. if b then one.count else 0) same
push_new (head ∷ used) one type z d other same =
    let o : head.action ≢ type = other 0 (omega arith) in
    let no : nat_eq type head.action ≡ false = grind (arith, nat_tests, o) in
    ap (λ b. if b then head.count else used_in (used ++ one ∷ []) type) no
    ∙ push_new used one type (nowhere used type d (λ k h. other (suc k) (omega (arith, h)))) d (λ k h. other (suc k) (omega (arith, h))) same

module _ (counts : List ℕ) (used : List Use) (type : ℕ) (are : AreUses counts type used) where
  abbrev no_use : Use
  no_use = record { action = 0; count = 0 }

  -- it isn't there yet
  absent : (k : ℕ) → k < length used → (get_or used k no_use).action ≢ type
  absent k h e = let b = are.below k no_use h in omega (arith, b, e)

  more_below : All (λ (one : Use). one.action < type + 1) used
  more_below = All-weaker (λ (one : Use). one.action < type) (λ (one : Use). one.action < type + 1) (λ one b. omega (arith, b)) used are.below

  stays : 0 ≡ get_or counts type 0 → AreUses counts (type + 1) used
  stays e = record {
    ascending = are.ascending;
    below = more_below;
    each = λ other l.
        ⊎_elim (λ b. are.each other b)
        (λ on. let same : type ≡ other = omega (arith, l, on) in subst (λ t. used_in used t ≡ get_or counts t 0) same (nowhere used type no_use absent ∙ e))
        (cases_lt other type);
  }

  goes_on : (n : ℕ) → suc n ≡ get_or counts type 0 → AreUses counts (type + 1) (used ++ record { action = type; count = suc n } ∷ [])
  goes_on n e =
      let one : Use = record { action = type; count = suc n } in
      record {
        ascending = IsNonDecreasingBy-push (λ (u : Use). u.action) used one are.ascending (λ d some. let b = are.below (length used - 1) d (omega (arith, some)) in omega (arith, b));
        below = All-push (λ (u : Use). u.action < type + 1) used one more_below (omega arith);
        each = λ other l.
            ⊎_elim (λ b. let no : nat_eq other type ≡ false = grind (arith, nat_tests, b) in push_other used one other no ∙ are.each other b)
            (λ on. let same : type ≡ other = omega (arith, l, on) in
            let yes : nat_eq type type ≡ true = grind (arith, nat_tests) in
            subst (λ t. used_in (used ++ one ∷ []) t ≡ get_or counts t 0) same (push_new used one type (nowhere used type no_use absent) no_use absent yes ∙ e))
            (cases_lt other type);
      }

  pub use_more : (count : ℕ) (new : List Use) → count ≡ get_or counts type 0 → new ≡ with_use used type count → AreUses counts (type + 1) new
  use_more zero new e is = subst (AreUses counts (type + 1)) (sym is) (stays e)
  use_more (suc n) new e is = subst (AreUses counts (type + 1)) (sym is) (goes_on n e)

-- none at first
pub no_types : (counts : List ℕ) → AreUses counts 0 []
no_types counts = record {
  ascending = λ i j d l h. absurd (omega (arith, h));
  below = λ k d h. absurd (omega (arith, h));
  each = λ type l. absurd (omega (arith, l));
}

-- ---- as a list

pub read_at : (used : List Use) (types type : ℕ) → type < length (map (used_in used) (range_with_len 0 types)) → get_or (map (used_in used) (range_with_len 0 types)) type 0 ≡ used_in used type
read_at used types type l = let n = length-map-range_with_len (used_in used) 0 types in get_or-map-range_with_len (used_in used) 0 types type type 0 (omega (arith, l, n)) (omega arith)

nothing_from : (from types : ℕ) → map (used_in []) (range_with_len from types) ≡ replicate types 0
nothing_from from zero = refl
nothing_from from (suc types) = ap (λ (ns : List ℕ). 0 ∷ ns) (nothing_from (from + 1) types)

pub nothing_used : (used : List Use) (types : ℕ) → used ≡ [] → map (used_in used) (range_with_len 0 types) ≡ replicate types 0
nothing_used used types e = ap (λ (us : List Use). map (used_in us) (range_with_len 0 types)) e ∙ nothing_from 0 types

pub uses_are : (counts : List ℕ) (used : List Use) (types : ℕ) (count : ℕ → ℕ) → AreUses counts types used → ((type : ℕ) → type < types → get_or counts type 0 ≡ count type) → map (used_in used) (range_with_len 0 types) ≡ map count (range_with_len 0 types)
uses_are counts used types count are each =
    fill_by_all count (map (used_in used) (range_with_len 0 types)) types 0 (length-map-range_with_len (used_in used) 0 types)
    (λ k l. get_or-map-range_with_len (used_in used) 0 types k k 0 l (omega arith) ∙ are.each k l ∙ each k l)
