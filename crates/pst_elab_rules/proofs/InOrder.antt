-- What pools serve stands by action, instance and reference.
use Rattle.std.proofs.Common.{◌≡◌, ◌⊎◌, ◌<◌, ◌≤◌, inl, inr, refl, arith}
use Rattle.std.specs.Prelude.{ℕ, ◌+◌, Bool, true, false, List, [], ◌∷◌, ◌++◌, map, All, AllPairs, Option, Some, None, if◌then◌else◌}
use Rattle.std.specs.List.{filter, filter_map, flat_map, enumerate_from, cons_option}
use Rattle.std.specs.Option.{option_map}
use Rattle.std.proofs.lemmas.List.Elements.{All-cons}
use Rattle.std.proofs.lemmas.List.Kept.{AllPairs-cons}
use Rattle.pst_ast.specs.declared.instance.Instance.{Instance}
use Rattle.pst_ast.specs.DeclarationTree.{UnitTree}
use Rattle.pst_model.specs.declared.model.Serve.{Serve}
use Rattle.pst_model.specs.Served.{ComesBefore, IsInOrder}
use Rattle.pst_ast.specs.declared.scope_declaration.Declaration.{Declaration}
use Rattle.pst_ast.specs.Declarations.{declarations}
use Rattle.pst_ast.specs.Sorts.{is_action}
use Rattle.pst_type_rules.specs.Members.{those_that}
use Rattle.pst_tree.specs.Bases.{needs_of}
use Rattle.pst_bind.specs.Serving.{serving_pool}
use Rattle.pst_bind.specs.Needs.{Need, is_performed, is_home, homes_of, needs_in, needs, numbered_actions, served_by, serving, served}
use Rattle.pst_elab_rules.specs.Model.{serve_of}

-- ---- needs in order

abbrev Before : Need → Need → Type 0
Before n m = (n.number < m.number) ⊎ ((n.number ≡ m.number) × ((n.instance < m.instance) ⊎ ((n.instance ≡ m.instance) × (n.reference < m.reference))))

abbrev Later : Need → List Need → Type 0
Later n [] = Unit {0}
Later n (m ∷ more) = Before n m × Later n more

abbrev InOrder : List Need → Type 0
InOrder [] = Unit {0}
InOrder (n ∷ more) = Later n more × InOrder more

abbrev AllBefore : List Need → List Need → Type 0
AllBefore [] ys = Unit {0}
AllBefore (x ∷ xs) ys = Later x ys × AllBefore xs ys

later_both : (n : Need) (xs ys : List Need) → Later n xs → Later n ys → Later n (xs ++ ys)
later_both n [] ys a b = b
later_both n (x ∷ xs) ys a b = (a.0, later_both n xs ys a.1 b)

in_order_both : (xs ys : List Need) → InOrder xs → InOrder ys → AllBefore xs ys → InOrder (xs ++ ys)
in_order_both [] ys a b c = b
in_order_both (x ∷ xs) ys a b c = (later_both x xs ys a.0 c.0, in_order_both xs ys a.1 b c.1)

all_before_both : (xs ys zs : List Need) → AllBefore xs zs → AllBefore ys zs → AllBefore (xs ++ ys) zs
all_before_both [] ys zs a b = b
all_before_both (x ∷ xs) ys zs a b = (a.0, all_before_both xs ys zs a.1 b)

module _ (ds : List Declaration) (instances : List Instance) where
  -- ---- of one action type in one instance

  module _ (x : ℕ × Declaration) (instance : ℕ) where
    abbrev need : ℕ × Declaration → Need
    need y = record { number = x.0; action = x.1; instance = instance; reference = y.0; need = y.1 }

    later_needs : (n : Need) (k : ℕ) (list : List Declaration) → n.number ≡ x.0 → n.instance ≡ instance → n.reference < k
        → Later n (map (λ (y : ℕ × Declaration). record { number = x.0; action = x.1; instance = instance; reference = y.0; need = y.1 }) (enumerate_from k list))
    later_needs n k [] a b c = tt
    later_needs n k (d ∷ more) a b c = (inr (a, inr (b, c)), later_needs n (k + 1) more a b (omega (arith, c)))

    needs_in_order : (k : ℕ) (list : List Declaration) → InOrder (map (λ (y : ℕ × Declaration). record { number = x.0; action = x.1; instance = instance; reference = y.0; need = y.1 }) (enumerate_from k list))
    needs_in_order k [] = tt
    needs_in_order k (d ∷ more) = (later_needs (need (k, d)) (k + 1) more refl refl (omega arith), needs_in_order (k + 1) more)

    needs_before : (ys : List Need) → ((n : Need) → n.number ≡ x.0 → n.instance ≡ instance → Later n ys) → (k : ℕ) (list : List Declaration)
        → AllBefore (map (λ (y : ℕ × Declaration). record { number = x.0; action = x.1; instance = instance; reference = y.0; need = y.1 }) (enumerate_from k list)) ys
    needs_before ys f k [] = tt
    needs_before ys f k (d ∷ more) = (f (need (k, d)) refl refl, needs_before ys f (k + 1) more)

    -- all of another place come behind
    later_of_instance : (n : Need) (k : ℕ) (list : List Declaration) → ((m : Need) → m.number ≡ x.0 → m.instance ≡ instance → Before n m)
        → Later n (map (λ (y : ℕ × Declaration). record { number = x.0; action = x.1; instance = instance; reference = y.0; need = y.1 }) (enumerate_from k list))
    later_of_instance n k [] f = tt
    later_of_instance n k (d ∷ more) f = (f (need (k, d)) refl refl, later_of_instance n (k + 1) more f)

  -- ---- in several instances

  abbrev AreRising : ℕ → List ℕ → Type 0
  AreRising j [] = Unit {0}
  AreRising j (h ∷ more) = (j ≤ h) × AreRising (h + 1) more

  rising_from : (j k : ℕ) (hs : List ℕ) → j ≤ k → AreRising k hs → AreRising j hs
  rising_from j k [] less all = tt
  rising_from j k (h ∷ more) less all = (omega (arith, less, all.0), all.1)

  module _ (x : ℕ × Declaration) where
    in_instances : List ℕ → List Need
    in_instances hs = flat_map (needs_in ds x) hs

    later_instances : (n : Need) (j : ℕ) (hs : List ℕ) → n.number ≡ x.0 → n.instance < j → AreRising j hs → Later n (flat_map (needs_in ds x) hs)
    later_instances n j [] a b all = tt
    later_instances n j (h ∷ more) a b all =
        later_both n (needs_in ds x h) (flat_map (needs_in ds x) more) (later_of_instance x h n 0 (needs_of ds x.1) (λ m e f. inr (omega (arith, a, e), inl (omega (arith, b, all.0, f)))))
        (later_instances n (h + 1) more a (omega (arith, b, all.0)) all.1)

    instances_in_order : (j : ℕ) (hs : List ℕ) → AreRising j hs → InOrder (flat_map (needs_in ds x) hs)
    instances_in_order j [] all = tt
    instances_in_order j (h ∷ more) all =
        in_order_both (needs_in ds x h) (flat_map (needs_in ds x) more) (needs_in_order x h 0 (needs_of ds x.1)) (instances_in_order (h + 1) more all.1)
        (needs_before x h (flat_map (needs_in ds x) more) (λ n a b. later_instances n (h + 1) more a (omega (arith, b)) all.1) 0 (needs_of ds x.1))

    instances_before : (ys : List Need) → ((n : Need) → n.number ≡ x.0 → Later n ys) → (hs : List ℕ) → AllBefore (flat_map (needs_in ds x) hs) ys
    instances_before ys f [] = tt
    instances_before ys f (h ∷ more) = all_before_both (needs_in ds x h) (flat_map (needs_in ds x) more) ys (needs_before x h ys (λ n a b. f n a) 0 (needs_of ds x.1)) (instances_before ys f more)

    later_of_action : (n : Need) (hs : List ℕ) → n.number < x.0 → Later n (flat_map (needs_in ds x) hs)
    later_of_action n [] less = tt
    later_of_action n (h ∷ more) less =
        later_both n (needs_in ds x h) (flat_map (needs_in ds x) more) (later_of_instance x h n 0 (needs_of ds x.1) (λ m e f. inl (omega (arith, less, e)))) (later_of_action n more less)

  kept_rising : (b : Bool) (j : ℕ) (x : ℕ × Instance) (list : List (ℕ × Instance)) → x.0 ≡ j → AreRising (j + 1) (map (λ (y : ℕ × Instance). y.0) list) → AreRising j (map (λ (y : ℕ × Instance). y.0) (if b then x ∷ list else list))
  kept_rising true j x list e all = (omega (arith, e), rising_from (x.0 + 1) (j + 1) (map (λ (y : ℕ × Instance). y.0) list) (omega (arith, e)) all)
  kept_rising false j x list e all = rising_from j (j + 1) (map (λ (y : ℕ × Instance). y.0) list) (omega arith) all

  homes_rise : (action : Declaration) (j : ℕ) (list : List Instance) → AreRising j (map (λ (x : ℕ × Instance). x.0) (filter (λ (x : ℕ × Instance). is_home ds action x.1) (enumerate_from j list)))
  homes_rise action j [] = tt
  homes_rise action j (i ∷ more) = kept_rising (is_home ds action i) j (j, i) (filter (λ (x : ℕ × Instance). is_home ds action x.1) (enumerate_from (j + 1) more)) refl (homes_rise action (j + 1) more)

  -- ---- of several action types

  abbrev AreRisingActions : ℕ → List (ℕ × Declaration) → Type 0
  AreRisingActions j [] = Unit {0}
  AreRisingActions j (x ∷ more) = (j ≤ x.0) × AreRisingActions (x.0 + 1) more

  actions_from : (j k : ℕ) (xs : List (ℕ × Declaration)) → j ≤ k → AreRisingActions k xs → AreRisingActions j xs
  actions_from j k [] less all = tt
  actions_from j k (x ∷ more) less all = (omega (arith, less, all.0), all.1)

  kept_actions : (b : Bool) (j : ℕ) (x : ℕ × Declaration) (list : List (ℕ × Declaration)) → x.0 ≡ j → AreRisingActions (j + 1) list → AreRisingActions j (if b then x ∷ list else list)
  kept_actions true j x list e all = (omega (arith, e), actions_from (x.0 + 1) (j + 1) list (omega (arith, e)) all)
  kept_actions false j x list e all = actions_from j (j + 1) list (omega arith) all

  actions_rise : (units : List UnitTree) (j : ℕ) (list : List Declaration) → AreRisingActions j (filter (λ (x : ℕ × Declaration). is_performed units x.1) (enumerate_from j list))
  actions_rise units j [] = tt
  actions_rise units j (d ∷ more) = kept_actions (is_performed units d) j (j, d) (filter (λ (x : ℕ × Declaration). is_performed units x.1) (enumerate_from (j + 1) more)) refl (actions_rise units (j + 1) more)

  abbrev of_actions : List (ℕ × Declaration) → List Need
  of_actions xs = flat_map (λ (x : ℕ × Declaration). flat_map (needs_in ds x) (homes_of ds instances x.1)) xs

  later_actions : (n : Need) (j : ℕ) (xs : List (ℕ × Declaration)) → n.number < j → AreRisingActions j xs → Later n (of_actions xs)
  later_actions n j [] less all = tt
  later_actions n j (x ∷ more) less all =
      later_both n (flat_map (needs_in ds x) (homes_of ds instances x.1)) (of_actions more) (later_of_action x n (homes_of ds instances x.1) (omega (arith, less, all.0)))
      (later_actions n (x.0 + 1) more (omega (arith, less, all.0)) all.1)

  actions_in_order : (j : ℕ) (xs : List (ℕ × Declaration)) → AreRisingActions j xs → InOrder (of_actions xs)
  actions_in_order j [] all = tt
  actions_in_order j (x ∷ more) all =
      in_order_both (flat_map (needs_in ds x) (homes_of ds instances x.1)) (of_actions more) (instances_in_order x 0 (homes_of ds instances x.1) (homes_rise x.1 0 instances)) (actions_in_order (x.0 + 1) more all.1)
      (instances_before x (of_actions more) (λ n e. later_actions n (x.0 + 1) more (omega (arith, e)) all.1) (homes_of ds instances x.1))

-- ---- what serves them

module _ (units : List UnitTree) (instances : List Instance) where
  abbrev out : List Need → List Serve
  out xs = map serve_of (filter_map (serving units instances) xs)

  -- where that pool serves the first, or none
  abbrev out_by : Need → Option ℕ → List Need → List Serve
  out_by n pool xs = map serve_of (cons_option (option_map (served_by n) pool) (filter_map (serving units instances) xs))

  later_by : (n : Need) (p : ℕ) (m : Need) (pool : Option ℕ) (xs : List Need) → Before n m → All (ComesBefore (serve_of (served_by n p))) (out xs) → All (ComesBefore (serve_of (served_by n p))) (out_by m pool xs)
  later_by n p m None xs before all = all
  later_by n p m (Some q) xs before all = All-cons (ComesBefore (serve_of (served_by n p))) (serve_of (served_by m q)) (out xs) before all

  all_later : (n : Need) (p : ℕ) (xs : List Need) → Later n xs → All (ComesBefore (serve_of (served_by n p))) (out xs)
  all_later n p [] later = λ k d less. absurd (omega (arith, less))
  all_later n p (m ∷ xs) later = later_by n p m (serving_pool units instances m.action m.need m.instance) xs later.0 (all_later n p xs later.1)

  order_by : (m : Need) (pool : Option ℕ) (xs : List Need) → Later m xs → AllPairs ComesBefore (out xs) → AllPairs ComesBefore (out_by m pool xs)
  order_by m None xs later all = all
  order_by m (Some q) xs later all = AllPairs-cons ComesBefore (serve_of (served_by m q)) (out xs) (all_later m q xs later) all

  order : (xs : List Need) → InOrder xs → AllPairs ComesBefore (out xs)
  order [] rows = λ i j d less within. absurd (omega (arith, within))
  order (m ∷ xs) rows = order_by m (serving_pool units instances m.action m.need m.instance) xs rows.0 (order xs rows.1)

  pub served_in_order : IsInOrder (map serve_of (served units instances))
  served_in_order =
      order (needs units instances)
      (actions_in_order (declarations units) instances 0 (filter (λ (x : ℕ × Declaration). is_performed units x.1) (numbered_actions (declarations units)))
      (actions_rise (declarations units) instances units 0 (those_that is_action (declarations units))))
