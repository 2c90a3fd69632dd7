-- Lists of quantities.
use Rattle.std.proofs.Common.{◌≡◌, ◌⊎◌, ℕ, zero, suc, ◌+◌, ◌<◌, ◌≤◌, ℤ, List, [], ◌∷◌, ◌++◌, length, map, Option, Some, None, refl, sym, ap, ◌∙◌, subst, inl, inr, length-append, add-one, arith}
use Rattle.std.specs.Prelude.{slice_get}
use Rattle.std.specs.Option.{option_and_then}
use Rattle.std.proofs.lemmas.Bool.{cases_lt}
use Rattle.std.proofs.lemmas.List.{map-append}
use Rattle.std.proofs.lemmas.Option.{none-some, same_Some, slice_get_within}
use Rattle.pst_expr.specs.declared.ranges.Span.{Span}
use Rattle.pst_expr.specs.Value.{variable_value}
use Rattle.pst_domain.specs.Bounds.{Holds as HoldsIn, bound_of as bound_at}
use Rattle.pst_model.specs.ConstraintTree.{SlotTree, Own}
use Rattle.pst_model.specs.ModelTree.{ModelTree}
use Rattle.pst_scen.specs.declared.tree.Node.{Node}
use Rattle.pst_scen.specs.declared.scenario.Scenario.{Scenario}
use Rattle.pst_legal.specs.Standing.{value_of, bound_of}
use Rattle.pst_legal.specs.Slots.{compound_in, node_slot}
use Rattle.pst_constraint_sites.specs.Sites.{SiteTree, slot_at}
use Rattle.pst_field_values.specs.Fields.{count_of, field_count}
use Rattle.pst_field_values.specs.Quantities.{Quantity, standing_of, quantity_values, quantity_bounds, own_quantity, own_quantities, slot_quantities, BeginWithFields}
use Rattle.pst_field_values.specs.Subjects.{HasNode, IsThere}

-- ---- elements

pub get_left : {A : Type 0} (xs ys : List A) (i : ℕ) (x : A) → slice_get xs i ≡ Some x → slice_get (xs ++ ys) i ≡ Some x
get_left [] ys i x is = absurd (none-some x is)
get_left (y ∷ xs) ys zero x is = is
get_left (y ∷ xs) ys (suc i) x is = get_left xs ys i x is

pub get_right : {A : Type 0} (xs ys : List A) (i k : ℕ) → k ≡ length xs + i → slice_get (xs ++ ys) k ≡ slice_get ys i
get_right [] ys i k e = let z : k ≡ i = omega (arith, e) in ap (slice_get ys) z
get_right (x ∷ xs) ys i zero e = absurd (omega (arith, e))
get_right (x ∷ xs) ys i (suc k) e = get_right xs ys i k (omega (arith, e))

pub length_mapped : {A B : Type 0} (f : A → B) (xs : List A) → length (map f xs) ≡ length xs
length_mapped f [] = refl
length_mapped f (x ∷ xs) = ap suc (length_mapped f xs)

pub value_mapped : {A : Type 0} (f : A → Option ℤ) (xs : List A) (i : ℕ) (x : A) → slice_get xs i ≡ Some x → variable_value (map f xs) i ≡ f x
value_mapped f [] i x is = absurd (none-some x is)
value_mapped f (y ∷ ys) zero x is = ap f (same_Some y x is)
value_mapped f (y ∷ ys) (suc i) x is = value_mapped f ys i x is

pub no_value_past : (xs : List (Option ℤ)) (i : ℕ) → length xs ≤ i → variable_value xs i ≡ None
no_value_past [] i l = refl
no_value_past (x ∷ xs) zero l = absurd (omega (arith, l))
no_value_past (x ∷ xs) (suc i) l = no_value_past xs i (omega (arith, l))

-- ---- fields

pub length_own : (n count : ℕ) → length (own_quantities n count) ≡ count
length_own n zero = refl
length_own n (suc count) = let l = length-append (own_quantities n count) (own_quantity n count ∷ []) in let own = length_own n count in omega (arith, l, own)

last_or : (n count field : ℕ) → field < count + 1 → (field < count → slice_get (own_quantities n count) field ≡ Some (own_quantity n field))
    → slice_get (own_quantities n count ++ own_quantity n count ∷ []) field ≡ Some (own_quantity n field)
last_or n count field less before = by_place (cases_lt field count)
  where
    by_place : (field < count) ⊎ (count ≤ field) → slice_get (own_quantities n count ++ own_quantity n count ∷ []) field ≡ Some (own_quantity n field)
    by_place (inl l) = get_left (own_quantities n count) (own_quantity n count ∷ []) field (own_quantity n field) (before l)
    by_place (inr l) =
        let long = length_own n count in
        let e : count ≡ field = omega (arith, l, less) in
        get_right (own_quantities n count) (own_quantity n count ∷ []) 0 field (omega (arith, long, e)) ∙ ap (λ k. Some (own_quantity n k)) e

pub begin_with : (n count : ℕ) → BeginWithFields n count (own_quantities n count)
begin_with n zero field less = absurd (omega (arith, less))
begin_with n (suc count) field less = last_or n count field (omega (arith, less)) (λ l. begin_with n count field l)

pub own_more : (m : ModelTree) (s : Scenario) (n count : ℕ) → quantity_bounds m s (own_quantities n (count + 1)) ≡ quantity_bounds m s (own_quantities n count) ++ bound_of (node_slot m s n (Own count)) ∷ []
own_more m s n count =
    ap (λ c. quantity_bounds m s (own_quantities n c)) (add-one count)
    ∙ map-append (λ q. bound_of (standing_of m s q)) (own_quantities n count) (own_quantity n count ∷ [])

-- where an action has fields, its node is there
pub node_there : (m : ModelTree) (nodes : List Node) (n field : ℕ) → field < field_count m nodes n → HasNode nodes n
node_there m nodes n field less = by_node (slice_get nodes n) refl
  where
    by_node : (o : Option Node) → slice_get nodes n ≡ o → HasNode nodes n
    by_node None is =
        let none : field_count m nodes n ≡ 0 = ap (λ o. count_of m (option_and_then (λ (node : Node). compound_in node.fill) o)) is in
        absurd (omega (arith, none, less))
    by_node (Some node) is = (node, is)

pub own_there : (m : ModelTree) (nodes : List Node) (n count : ℕ) → count ≤ field_count m nodes n → (i : ℕ) (q : Quantity) → slice_get (own_quantities n count) i ≡ Some q → IsThere nodes q.site
own_there m nodes n count most i q is =
    let within = slice_get_within (own_quantities n count) i q is in
    let long = length_own n count in
    let less : i < count = omega (arith, within, long) in
    subst (λ (p : Quantity). IsThere nodes p.site) (same_Some (own_quantity n i) q (sym (begin_with n count i less) ∙ is)) (node_there m nodes n i (omega (arith, less, most)))

-- ---- slots

pub slot_values_are : (m : ModelTree) (s : Scenario) (site : SiteTree) (slots : List SlotTree) → quantity_bounds m s (slot_quantities site slots) ≡ map (λ slot. bound_of (slot_at m s site slot)) slots
slot_values_are m s site [] = refl
slot_values_are m s site (slot ∷ slots) = ap (λ bs. bound_of (slot_at m s site slot) ∷ bs) (slot_values_are m s site slots)

pub slots_there : (nodes : List Node) (site : SiteTree) (slots : List SlotTree) → IsThere nodes site → (i : ℕ) (q : Quantity) → slice_get (slot_quantities site slots) i ≡ Some q → IsThere nodes q.site
slots_there nodes site [] there i q is = absurd (none-some q is)
slots_there nodes site (slot ∷ slots) there zero q is =
    subst (λ (p : Quantity). IsThere nodes p.site) (same_Some (record { site = site; slot = slot }) q is) there
slots_there nodes site (slot ∷ slots) there (suc i) q is = slots_there nodes site slots there i q is

pub both_there : (nodes : List Node) (xs ys : List Quantity) → ((i : ℕ) (q : Quantity) → slice_get xs i ≡ Some q → IsThere nodes q.site) → ((i : ℕ) (q : Quantity) → slice_get ys i ≡ Some q → IsThere nodes q.site)
    → (i : ℕ) (q : Quantity) → slice_get (xs ++ ys) i ≡ Some q → IsThere nodes q.site
both_there nodes [] ys first second i q is = second i q is
both_there nodes (x ∷ xs) ys first second zero q is = first 0 q is
both_there nodes (x ∷ xs) ys first second (suc i) q is = both_there nodes xs ys (λ j. first (suc j)) second i q is

pub more_bounds : (m : ModelTree) (s : Scenario) (qs : List Quantity) (site : SiteTree) (slots : List SlotTree) (old new : List (Option Span)) → old ≡ quantity_bounds m s qs
    → new ≡ old ++ map (λ slot. bound_of (slot_at m s site slot)) slots → new ≡ quantity_bounds m s (qs ++ slot_quantities site slots)
more_bounds m s qs site slots old new was is =
    is ∙ ap (λ bs. bs ++ map (λ slot. bound_of (slot_at m s site slot)) slots) was ∙ ap (λ bs. quantity_bounds m s qs ++ bs) (sym (slot_values_are m s site slots))
    ∙ sym (map-append (λ q. bound_of (standing_of m s q)) qs (slot_quantities site slots))

-- ---- values within bounds

pub all_hold : (m : ModelTree) (s t : Scenario) → ((q : Quantity) → IsThere s.nodes q.site → HoldsIn (bound_of (standing_of m s q)) (value_of (standing_of m t q)))
    → (qs : List Quantity) → ((i : ℕ) (q : Quantity) → slice_get qs i ≡ Some q → IsThere s.nodes q.site) → (i : ℕ) → HoldsIn (bound_at (quantity_bounds m s qs) i) (variable_value (quantity_values m t qs) i)
all_hold m s t each [] there i = tt
all_hold m s t each (q ∷ qs) there zero = each q (there 0 q refl)
all_hold m s t each (q ∷ qs) there (suc i) = all_hold m s t each qs (λ j. there (suc j)) i
