-- The number of the next place counts the choices that were read.
use Rattle.std.proofs.Common.{◌≡◌, ℕ, zero, suc, ◌+◌, ℤ, List, [], ◌∷◌, ◌++◌, length, Bool, true, false, nat_eq, nat_lt, if◌then◌else◌, Option, Some, None, refl, ap, ◌∙◌, subst, arith}
use Rattle.std.specs.Prelude.{slice_get}
use Rattle.pst_rng.specs.Words.{start_of}
use Rattle.pst_rng.specs.Weights.{weighted_start_of}
use Rattle.pst_expr.specs.Spans.{size_of}
use Rattle.pst_model.specs.declared.action.Field.{Field}
use Rattle.pst_model.specs.ModelTree.{ModelTree}
use Rattle.pst_scen.specs.declared.scenario.Scenario.{Scenario}
use Rattle.pst_legal.specs.Growing.{Look, with_look, is_within, most_levels, nothing_yet}
use Rattle.pst_legal.specs.Pieces.{Piece, Action}
use Rattle.pst_legal.specs.Menus.{Menu, Way, Place, Weighted, Closed, menu}
use Rattle.pst_legal.specs.Reading.{Reading, Wants, Stops, Reads, Reader, then_read, option_at, read_place, put_value, value_number, read_fields, read_menu, read_pieces, read_way, read_piece, read_tree}
use Rattle.pst_legal.specs.SupplyReading.{Spot, Source, next_need, sources, supplied_by, inferred, chosen, read_turn, read_supply}
use Rattle.pst_legal.specs.ValueReading.{read_values, answer_of}
use Rattle.pst_built.specs.LongerLaws.{PartsAreOne}
use Rattle.pst_built.proofs.Goes.{After}
use Rattle.pst_built.proofs.Readers.{goes_tree, goes_supply}
use Rattle.pst_built.proofs.Read.{Any, any_fields, AnyWay, any_ways}

-- the next place, and the choices that are left, come to so many
abbrev Counted : ℕ → Reading → Type 0
Counted n (Wants s k) = Unit {0}
Counted n Stops = Unit {0}
Counted n (Reads s place left) = place + length left ≡ n

abbrev Counts : Reader → Type 0
Counts f = (s : Scenario) (place : ℕ) (ds : List ℕ) → Counted (place + length ds) (f s place ds)

counted_if : (n : ℕ) (b : Bool) (r other : Reading) → Counted n r → Counted n other → Counted n (if b then r else other)
counted_if n true r other one two = one
counted_if n false r other one two = two

counts_place : (start n : ℕ) (next : ℕ → Reader) (s : Scenario) (place : ℕ) (ds : List ℕ) → ((k : ℕ) (d : ℕ) (rest : List ℕ) → ds ≡ d ∷ rest → Counted (place + 1 + length rest) (next k s (place + 1) rest))
    → Counted (place + length ds) (read_place start n next s place ds)
counts_place start n next s place [] each = counted_if (place + 0) (nat_lt 0 n) (Wants s n) Stops tt tt
counts_place start n next s place (d ∷ ds) each =
    let same : place + 1 + length ds ≡ place + length (d ∷ ds) = omega arith in
    counted_if (place + length (d ∷ ds)) (nat_lt d n) (next (option_at start n d) s (place + 1) ds) Stops
    (subst (λ c. Counted c (next (option_at start n d) s (place + 1) ds)) same (each (option_at start n d) d ds refl)) tt

counts_then : (n : ℕ) (r : Reading) (g : Reader) → Counted n r → Counts g → Counted n (then_read r g)
counts_then n (Wants s k) g one other = tt
counts_then n Stops g one other = tt
counts_then n (Reads s place left) g one other = subst (λ c. Counted c (g s place left)) one (other s place left)

counts_menu : (seed : ℕ) (x : Menu) (go : Look → List Field → (List ℤ → List Piece) → Reader) → ((look : Look) (fields : List Field) (below : List ℤ → List Piece) → Counts (go look fields below)) → Counts (read_menu seed x go)
counts_menu seed (Way look fields below) go each s place ds = each look fields below s place ds
counts_menu seed (Place n after) go each s place ds = counts_place (start_of seed place n) n (λ k. read_menu seed (after k) go) s place ds (λ k d rest e. counts_menu seed (after k) go each s (place + 1) rest)
counts_menu seed (Weighted weights after) go each s place ds =
    counts_place (weighted_start_of seed place weights) (length weights) (λ k. read_menu seed (after k) go) s place ds (λ k d rest e. counts_menu seed (after k) go each s (place + 1) rest)
counts_menu seed Closed go each s place ds = tt

counts_fields : (seed n : ℕ) (fields : List Field) (known : List ℤ) (go : List ℤ → Reader) → ((values : List ℤ) → Counts (go values)) → Counts (read_fields seed n fields known go)
counts_fields seed n [] known go each s place ds = each known s place ds
counts_fields seed n (field ∷ fields) known go each s place ds =
    counts_place (start_of seed place (size_of field.domain)) (size_of field.domain)
    (λ k read. read_fields seed n fields (known ++ value_number field k ∷ []) go (put_value read n (value_number field k))) s place ds
    (λ k d rest e. counts_fields seed n fields (known ++ value_number field k ∷ []) go each (put_value s n (value_number field k)) (place + 1) rest)

counts_pieces : (one : Piece → Option ℕ → Reader) (xs : List Piece) (parent : ℕ) → ((x : Piece) → Counts (one x (Some parent))) → Counts (read_pieces one xs parent)
counts_pieces one [] parent each s place ds = refl
counts_pieces one (x ∷ xs) parent each s place ds = counts_then (place + length ds) (one x (Some parent) s place ds) (read_pieces one xs parent) (each x s place ds) (counts_pieces one xs parent each)

counts_piece : (m : ModelTree) (seed levels : ℕ) (piece : Piece) (parent : Option ℕ) → Counts (read_piece m seed levels piece parent)
counts_piece m seed zero piece parent = counts_menu seed (menu m piece) (λ look fields below s place left. Stops) (λ look fields below s place ds. tt)
counts_piece m seed (suc levels) piece parent =
    counts_menu seed (menu m piece) (read_way m seed (read_piece m seed levels) parent)
    (λ look fields below s place ds. counted_if (place + length ds) (is_within (with_look m s parent look))
    (read_fields seed (length s.nodes) fields [] (λ values. read_pieces (read_piece m seed levels) (below values) (length s.nodes)) (with_look m s parent look) place ds) Stops
    (counts_fields seed (length s.nodes) fields [] (λ values. read_pieces (read_piece m seed levels) (below values) (length s.nodes))
    (λ values. counts_pieces (read_piece m seed levels) (below values) (length s.nodes) (λ x. counts_piece m seed levels x (Some (length s.nodes)))) (with_look m s parent look) place ds) tt)

counts_tree : (m : ModelTree) (seed root : ℕ) → Counts (read_tree m seed root)
counts_tree m seed root = counts_piece m seed most_levels (Action root None) None

counts_turn : (m : ModelTree) (seed place d : ℕ) (ds : List ℕ) (s : Scenario) (o : Option Spot) → ((t : Scenario) (p : ℕ) → Counted (p + length ds) (read_supply m seed t p ds))
    → Counted (place + length (d ∷ ds)) (read_turn m seed o (λ more next rest. read_supply m seed more next ds) s place (d ∷ ds))
counts_turn m seed place d ds s None each = counted_if (place + length (d ∷ ds)) (nat_eq (inferred s) s.level) (Reads s place (d ∷ ds)) Stops refl tt
counts_turn m seed place d ds s (Some need) each =
    counts_place (start_of seed place (length (sources m s need))) (length (sources m s need))
    (λ k s place left. chosen m need (slice_get (sources m s need) k) (λ more next rest. read_supply m seed more next ds) s place left) s place (d ∷ ds)
    (λ k e rest is. by_source (slice_get (sources m s need) k) rest (let same : ds ≡ rest = cc in same))
  where
    by_source : (o : Option Source) (rest : List ℕ) → ds ≡ rest → Counted (place + 1 + length rest) (chosen m need o (λ more next rest. read_supply m seed more next ds) s (place + 1) rest)
    by_source None rest same = tt
    by_source (Some source) rest same = subst (λ n. Counted (place + 1 + n) (read_supply m seed (supplied_by m s need source) (place + 1) ds)) (ap length same) (each (supplied_by m s need source) (place + 1))

counts_first : (m : ModelTree) (seed place : ℕ) (s : Scenario) (o : Option Spot) → Counted (place + 0) (read_turn m seed o (λ s place left. Stops) s place [])
counts_first m seed place s None = counted_if (place + 0) (nat_eq (inferred s) s.level) (Reads s place []) Stops refl tt
counts_first m seed place s (Some need) = counted_if (place + 0) (nat_lt 0 (length (sources m s need))) (Wants s (length (sources m s need))) Stops tt tt

counts_supply : (m : ModelTree) (seed : ℕ) (ds : List ℕ) (s : Scenario) (place : ℕ) → Counted (place + length ds) (read_supply m seed s place ds)
counts_supply m seed [] s place = counts_first m seed place s (next_need m s)
counts_supply m seed (d ∷ ds) s place = counts_turn m seed place d ds s (next_need m s) (λ t p. counts_supply m seed ds t p)

-- ---- the parts of a list

read_on : (s t : Scenario) (q : ℕ) (r : Reading) (go : List ℕ → Reading) → After Any s r go → r ≡ Reads t q [] → (more : List ℕ) → go more ≡ Reads t q more
read_on s t q (Wants u n) go after is more = absurd cc
read_on s t q Stops go after is more = absurd cc
read_on s t q (Reads u p []) go after is more = after.1 more ∙ (let a : u ≡ t = cc in let b : p ≡ q = cc in ap (λ x. Reads x p more) a ∙ ap (λ x. Reads t x more) b)
read_on s t q (Reads u p (d ∷ left)) go after is more = absurd cc

counted_at : (n : ℕ) (t : Scenario) (q : ℕ) (r : Reading) → Counted n r → r ≡ Reads t q [] → q ≡ n
counted_at n t q r counted is = let c : q + 0 ≡ n = subst (Counted n) is counted in omega (arith, c)

pub parts_are_one : PartsAreOne
parts_are_one m root seed level first second third t q u p tree supply =
    let s = nothing_yet level in
    let a = read_on s t q (read_tree m seed root s 0 first) (λ more. read_tree m seed root s 0 (first ++ more))
    (goes_tree Any (λ s. tt) (λ s t u a b. tt) m AnyWay (λ piece. any_ways (menu m piece)) (λ s parent look fields is. (tt, any_fields _ fields _)) seed root s 0 first) tree in
    let b = read_on t u p (read_supply m seed t q second) (λ more. read_supply m seed t q (second ++ more))
    (goes_supply Any (λ s. tt) (λ s t u a b. tt) m seed (λ s need source k is there. tt) second t q) supply in
    let n : q ≡ 0 + length first = counted_at (0 + length first) t q (read_tree m seed root s 0 first) (counts_tree m seed root s 0 first) tree in
    let k : p ≡ q + length second = counted_at (q + length second) u p (read_supply m seed t q second) (counts_supply m seed second t q) supply in (
      omega (arith, n),
      omega (arith, n, k),
      ap (λ r. answer_of (then_read (then_read r (read_supply m seed)) (read_values m seed))) (a (second ++ third))
          ∙ ap (λ r. answer_of (then_read r (read_values m seed))) (b third),
    )
