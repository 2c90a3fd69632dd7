-- What the references of a new action add to those that are kept.
use Rattle.std.proofs.Common.{◌≡◌, ◌≢◌, ℕ, zero, suc, ◌+◌, ◌<◌, List, [], ◌∷◌, ◌++◌, map, length, Bool, true, false, ◌&&◌, nat_eq, if◌then◌else◌, Some, refl, sym, ap, ◌∙◌, arith}
use Rattle.std.specs.Prelude.{flat_map, slice_get, slice_set}
use Rattle.std.specs.List.{enumerate_from, filter}
use Rattle.std.proofs.lemmas.Bool.{eqb-true, eqb-false}
use Rattle.std.proofs.lemmas.List.{append-nil}
use Rattle.pst_base.specs.declared.table.NameId.{NameId}
use Rattle.pst_model.specs.declared.action.Reference.{Reference}
use Rattle.pst_model.specs.declared.model.Part.{Part}
use Rattle.pst_model.specs.ModelTree.{ModelTree}
use Rattle.pst_scen.specs.declared.act.Filled.{Filled}
use Rattle.pst_scen.specs.declared.act.Flow.{Flow}
use Rattle.pst_legal.specs.Types.{same_name}
use Rattle.pst_legal.specs.Growing.{open_reference}
use Rattle.pst_legal.specs.SupplyReading.{Source as Given, New, fits}
use Rattle.pst_open_ends.specs.declared.spot.Source.{Source}
use Rattle.pst_open_ends.specs.declared.spot.Source.TheVariants as source
use Rattle.pst_open_ends.specs.declared.new_ends.NewEnds.{NewEnds}
use Rattle.pst_open_ends.specs.Spots.{given_source, given_sources}
use Rattle.pst_open_ends.specs.Options.{new_in, instances_from}
use Rattle.pst_open_ends.specs.Beyond.{row_sources, sources_in as kept_in, kept_at, source_if}

-- ---- one pool of all

got_set : (xs : List NewEnds) (n : ℕ) (y : NewEnds) → n < length xs → slice_get (slice_set xs n y) n ≡ Some y
got_set [] n y h = absurd (omega arith)
got_set (x ∷ xs) zero y h = refl
got_set (x ∷ xs) (suc n) y h = got_set xs n y (omega arith)

got_other : (xs : List NewEnds) (n p : ℕ) (y : NewEnds) → n ≢ p → slice_get (slice_set xs n y) p ≡ slice_get xs p
got_other [] n p y h = refl
got_other (x ∷ xs) zero zero y h = absurd (h refl)
got_other (x ∷ xs) zero (suc p) y h = refl
got_other (x ∷ xs) (suc n) zero y h = refl
got_other (x ∷ xs) (suc n) (suc p) y h = got_other xs n p y (λ e. h (ap (λ i. suc i) e))

-- a reference is added to one pool
pub added_at : (rows : List NewEnds) (n : ℕ) (x row : NewEnds) → n < length rows → slice_get rows n ≡ Some x → (s : Source) (b : Flow → Bool) → ((need : Flow) → row_sources need row ≡ row_sources need x ++ source_if (b need) s)
    → (need : Flow) (p : ℕ) → kept_at need p (slice_set rows n row) ≡ kept_at need p rows ++ source_if (b need && nat_eq n p) s
added_at rows n x row within is s b e need p = go (nat_eq n p) refl
  where
    both : (c : Bool) → c ≡ (c && true)
    both true = refl
    both false = refl

    neither : (c : Bool) → false ≡ (c && false)
    neither true = refl
    neither false = refl

    go : (q : Bool) → nat_eq n p ≡ q → kept_at need p (slice_set rows n row) ≡ kept_at need p rows ++ source_if (b need && q) s
    go true w =
        let same : n ≡ p = eqb-true n p w in
        ap (λ i. kept_at need i (slice_set rows n row)) (sym same)
        ∙ ap (kept_in need) (got_set rows n row within)
        ∙ e need
        ∙ ap (λ c. row_sources need x ++ source_if c s) (both (b need))
        ∙ ap (λ o. kept_in need o ++ source_if (b need && true) s) (sym is)
        ∙ ap (λ i. kept_at need i rows ++ source_if (b need && true) s) same
    go false w =
        ap (kept_in need) (got_other rows n p row (eqb-false n p w))
        ∙ sym (append-nil (kept_at need p rows))
        ∙ ap (λ c. kept_at need p rows ++ source_if c s) (neither (b need))

-- one more pool without a reference
pub none_more : (need : Flow) (rows : List NewEnds) (row : NewEnds) → row_sources need row ≡ [] → ((p : ℕ) → kept_at need p rows ≡ []) → (p : ℕ) → kept_at need p (rows ++ row ∷ []) ≡ []
none_more need [] row e h zero = e
none_more need [] row e h (suc p) = refl
none_more need (x ∷ rows) row e h zero = h 0
none_more need (x ∷ rows) row e h (suc p) = none_more need rows row e (λ q. h (suc q)) p

-- ---- the same as the definitions see it

given_append : (xs ys : List Source) → given_sources (xs ++ ys) ≡ given_sources xs ++ given_sources ys
given_append [] ys = refl
given_append (x ∷ xs) ys = ap (λ l. given_source x ∷ l) (given_append xs ys)

abbrev pub new_if : Bool → ℕ → ℕ → ℕ → List Given
new_if b action instance reference = if b then New action instance reference ∷ [] else []

-- what is added of one reference
pub given_one : (old new : List Source) (b c : Bool) (a i r : ℕ) → new ≡ old ++ source_if b (source.New a i r) → b ≡ c → given_sources new ≡ given_sources old ++ new_if c a i r
given_one old new b c a i r e f = ap given_sources e ∙ given_append old (source_if b (source.New a i r)) ∙ ap (λ l. given_sources old ++ l) (one b ∙ ap (λ d. new_if d a i r) f)
  where
    one : (d : Bool) → given_sources (source_if d (source.New a i r)) ≡ new_if d a i r
    one true = refl
    one false = refl

-- one more reference of a new action
pub next_reference : (m : ModelTree) (w : Filled) (a i k : ℕ) (x : Reference) (xs : List Reference) → new_in m w a i k (x ∷ xs) ≡ new_if (fits w (open_reference m a i (k, x))) a i k ++ new_in m w a i (k + 1) xs
next_reference m w a i k x xs = go (fits w (open_reference m a i (k, x)))
  where
    later : List (ℕ × Filled)
    later = filter (λ e. fits w e.1) (enumerate_from (k + 1) (map (open_reference m a i) (enumerate_from (k + 1) xs)))

    go : (b : Bool) → map (λ e. New a i e.0) (if b then (k, open_reference m a i (k, x)) ∷ later else later) ≡ new_if b a i k ++ map (λ e. New a i e.0) later
    go true = refl
    go false = refl

-- one more instance
abbrev pub sources_if : Bool → List Given → List Given
sources_if b sources = if b then sources else []

pub next_instance : (f : ℕ → List Given) (component : NameId) (k : ℕ) (x : Part) (xs : List Part) → flat_map f (instances_from component k (x ∷ xs)) ≡ sources_if (same_name x.component component) (f k) ++ flat_map f (instances_from component (k + 1) xs)
next_instance f component k x xs = go (same_name x.component component)
  where
    later : List (ℕ × Part)
    later = filter (λ e. same_name e.1.component component && true) (enumerate_from (k + 1) xs)

    go : (b : Bool) → flat_map f (map (λ e. e.0) (if b && true then (k, x) ∷ later else later)) ≡ sources_if b (f k) ++ flat_map f (map (λ e. e.0) later)
    go true = refl
    go false = refl
