-- Searching the values of a domain in the order of a seed.
use Rattle.std.proofs.Common.{◌≡◌, ⊎_elim, ℕ, ◌+◌, ◌-◌, ◌<◌, ◌≤◌, ℤ, ◌≤ℤ◌, List, Bool, true, false, Option, Some, None, Result, Ok, Err, refl, sym, subst, ap, ◌∙◌, arith}
use Rattle.std.proofs.lemmas.Bool.{cases_lt}
use Rattle.std.proofs.lemmas.Int.{ints}
use Rattle.std.specs.Prelude.{slice_get}
use Rattle.pst_base.specs.declared.memory.NoMemory.{NoMemory}
use Rattle.pst_expr.specs.declared.ranges.Span.{Span}
use Rattle.pst_expr.specs.declared.tree.Expr.{Expr}
use Rattle.pst_expr.specs.Spans.{IsInSpan, size_of}
use Rattle.pst_expr.specs.Spans as domain
use Rattle.pst_expr.specs.Value.{variable_value}
use Rattle.pst_domain.specs.Bounds.{bound_of, AreUpright, IsInside}
use Rattle.pst_narrow.specs.declared.trail.Former.{Former}
use Rattle.pst_narrow.specs.Narrowing.{HaveNone, IsIn}
use Rattle.pst_values.specs.declared.options.Run.{Run}
use Rattle.pst_values.specs.Options.{IsRun, HoldsRun, option_at}
use Rattle.pst_values.specs.Solver.{bounds_at, IsReady, AreMetIn, IsBase, Keeps, IsTried}
use Rattle.pst_values.specs.Searched.{AreMetAt, AreBarren, Finds, IsSearched}

pub same_base : (cs : List Expr) (n : ℕ) (t : List Former) (a : List (Option Span)) → IsReady cs n t a → IsBase cs n t t a a
same_base cs n t a h = record { ready = h; count = refl; bounds = refl; trail = refl }

pub base_then : (cs : List Expr) (n : ℕ) (t u v : List Former) (a b c : List (Option Span)) → IsBase cs n t u a b → IsBase cs n u v b c → IsBase cs n t v a c
base_then cs n t u v a b c h k = record { ready = k.ready; count = k.count ∙ h.count; bounds = k.bounds ∙ h.bounds; trail = k.trail ∙ h.trail }

-- the value at a place of a run
run_value : (spans : List Span) (start place k : ℕ) (run : Run) → IsRun start (size_of spans) place run → k < run.count → option_at spans start (place + k) ≡ slice_get (domain.values spans) (run.index + k)
run_value spans start place k run h small = ap (slice_get (domain.values spans)) (h.same k small)

pub lies_in : (span : Span) (o : Option ℤ) (v : ℤ) → o ≡ Some v → IsInSpan v span → IsIn span o
lies_in span o v e h = subst (IsIn span) (sym e) h

-- the values at the places of a run that is refused are barren
pub run_barren : (cs : List Expr) (i : ℕ) (spans : List Span) (start from place count : ℕ) (run : Run) (span : Span) (base : List (Option Span)) → IsRun start (size_of spans) place run → count ≤ run.count → HoldsRun spans run.index count span → HaveNone (AreMetIn cs i span) base → AreBarren cs i spans start base from place → AreBarren cs i spans start base from (place + count)
run_barren cs i spans start from place count run span base is short holds none barren d after below v at values within met =
    ⊎_elim
    (λ early. barren d after early v at values within met)
    (λ late.
    let k : ℕ = d - place in
    let whole : place + k ≡ d = omega arith in
    let small : k < count = omega arith in
    let found : slice_get (domain.values spans) (run.index + k) ≡ Some v = sym (run_value spans start place k run is (omega arith)) ∙ (ap (option_at spans start) whole ∙ at) in
    none values within (met.0, lies_in span (variable_value values i) v met.1 (holds k small v found)))
    (cases_lt d place)

pub run_kept : (cs : List Expr) (i : ℕ) (spans : List Span) (start place count : ℕ) (run : Run) (span : Span) (base new : List (Option Span)) → IsRun start (size_of spans) place run → 0 < count → HoldsRun spans run.index count span → Keeps (AreMetIn cs i span) base new → (v : ℤ) → option_at spans start place ≡ Some v → Keeps (AreMetAt cs i v) base new
run_kept cs i spans start place count run span base new is some holds keeps v at values within met =
    let first : place + 0 ≡ place = omega arith in
    let found : slice_get (domain.values spans) (run.index + 0) ≡ Some v = sym (run_value spans start place 0 run is is.some) ∙ (ap (option_at spans start) first ∙ at) in
    keeps values within (met.0, lies_in span (variable_value values i) v met.1 (holds 0 some v found))

some_is : (x y : ℤ) → Some x ≡ Some y → x ≡ y
some_is x y e = cc

-- a bound inside a span of one number
inside_point : (b : Option Span) (s : Span) (v : ℤ) → s.low ≡ v → s.high ≡ v → IsInside b (Some s) → IsInside b (Some (record { low = v; high = v }))
inside_point None s v e f h = tt
inside_point (Some r) s v e f h = (omega (arith, ints, e, h.0), omega (arith, ints, f, h.1))

run_point : (spans : List Span) (start place : ℕ) (run : Run) (span : Span) (b : Option Span) → IsRun start (size_of spans) place run → slice_get (domain.values spans) run.index ≡ Some span.low → slice_get (domain.values spans) run.index ≡ Some span.high → IsInside b (Some span) → (v : ℤ) → option_at spans start place ≡ Some v → IsInside b (Some (record { low = v; high = v }))
run_point spans start place run span b is low high inside v at =
    let first : place + 0 ≡ place = omega arith in
    let index : run.index + 0 ≡ run.index = omega arith in
    let found : slice_get (domain.values spans) run.index ≡ Some v = ap (slice_get (domain.values spans)) (sym index) ∙ (sym (run_value spans start place 0 run is is.some) ∙ (ap (option_at spans start) first ∙ at)) in
    inside_point b span v (some_is span.low v (sym low ∙ found)) (some_is span.high v (sym high ∙ found)) inside

-- what the loop keeps
pub record IsSearching (cs : List Expr) (mark i : ℕ) (spans : List Span) (start from place width : ℕ) (t u : List Former) (a b : List (Option Span)) : Type 0 where
  pub base : IsBase cs mark t u a b
  pub upright : AreUpright b
  pub wide : 0 < width
  pub after : from ≤ place
  pub barren : AreBarren cs i spans start (bounds_at mark t a) from place

pub at_start : (cs : List Expr) (mark i : ℕ) (spans : List Span) (start from : ℕ) (t : List Former) (a : List (Option Span)) → IsReady cs mark t a → AreUpright a → IsSearching cs mark i spans start from from 1 t t a a
at_start cs mark i spans start from t a ready upright =
    record { base = same_base cs mark t a ready; upright = upright; wide = omega arith; after = omega arith; barren = λ d after below. absurd (omega arith) }

along_base : (P : List (Option ℤ) → Type 0) (x y : List (Option Span)) → x ≡ y → HaveNone P x → HaveNone P y
along_base P x y e h = subst (HaveNone P) e h

pub after_refused : (cs : List Expr) (mark i : ℕ) (spans : List Span) (start from place width wider count : ℕ) (run : Run) (span : Span) (t u v : List Former) (a b c : List (Option Span)) (result : Result Bool NoMemory) → result ≡ Ok false → 0 < wider → IsRun start (size_of spans) place run → count ≤ run.count → HoldsRun spans run.index count span → IsSearching cs mark i spans start from place width t u a b → IsTried cs mark i span u v b c result → IsSearching cs mark i spans start from (place + count) wider t v a c
after_refused cs mark i spans start from place width wider count run span t u v a b c result refused wide is short holds h k =
    record {
      base = base_then cs mark t u v a b c h.base k.base;
      upright = k.upright;
      wide = wide;
      after = let past = h.after in omega arith;
      barren = run_barren cs i spans start from place count run span (bounds_at mark t a) is short holds (along_base (AreMetIn cs i span) (bounds_at mark u b) (bounds_at mark t a) h.base.bounds (k.refutes refused)) h.barren;
    }

pub after_wide : (cs : List Expr) (mark i : ℕ) (spans : List Span) (start from place width narrower : ℕ) (span : Span) (t u v : List Former) (a b c : List (Option Span)) (result : Result Bool NoMemory) → 0 < narrower → IsSearching cs mark i spans start from place width t u a b → IsTried cs mark i span u v b c result → IsSearching cs mark i spans start from place narrower t v a c
after_wide cs mark i spans start from place width narrower span t u v a b c result some h k =
    record { base = base_then cs mark t u v a b c h.base k.base; upright = k.upright; wide = some; after = h.after; barren = h.barren }

pub found_first : (cs : List Expr) (mark i : ℕ) (spans : List Span) (start from place width count : ℕ) (run : Run) (span : Span) (t u v : List Former) (a b c : List (Option Span)) (result : Result Bool NoMemory) → result ≡ Ok true → place < size_of spans → 0 < count → IsRun start (size_of spans) place run → HoldsRun spans run.index count span → slice_get (domain.values spans) run.index ≡ Some span.low → slice_get (domain.values spans) run.index ≡ Some span.high → IsSearching cs mark i spans start from place width t u a b → IsTried cs mark i span u v b c result → IsSearched cs mark i spans start from t v a c (Ok (Some place))
found_first cs mark i spans start from place width count run span t u v a b c result admitted below some is holds low high h k =
    record {
      base = base_then cs mark t u v a b c h.base k.base;
      upright = k.upright;
      finds = record {
        after = h.after;
        below = below;
        barren = h.barren;
        keeps = run_kept cs i spans start place count run span (bounds_at mark t a) c is some holds (subst (λ x. Keeps (AreMetIn cs i span) x c) h.base.bounds (k.keeps admitted));
        here = run_point spans start place run span (bound_of c i) is low high (k.here admitted);
        others = λ j n. subst (λ x. IsInside (bound_of c j) (bound_of x j)) h.base.bounds (k.others admitted j n);
        unrefused = k.unrefused admitted;
      };
    }

pub none_found : (cs : List Expr) (mark i : ℕ) (spans : List Span) (start from place width : ℕ) (t u : List Former) (a b : List (Option Span)) → size_of spans ≤ place → IsSearching cs mark i spans start from place width t u a b → IsSearched cs mark i spans start from t u a b (Ok None)
none_found cs mark i spans start from place width t u a b end h =
    record { base = h.base; upright = h.upright; finds = λ d after below. h.barren d after (omega arith) }

pub broke_off : (cs : List Expr) (mark i : ℕ) (spans : List Span) (start from place width : ℕ) (span : Span) (t u v : List Former) (a b c : List (Option Span)) (result : Result Bool NoMemory) (answer : Result (Option ℕ) NoMemory) → ((r : Option ℕ) → answer ≡ Ok r → ⊥) → IsSearching cs mark i spans start from place width t u a b → IsTried cs mark i span u v b c result → IsSearched cs mark i spans start from t v a c answer
broke_off cs mark i spans start from place width span t u v a b c result answer err h k =
    record { base = base_then cs mark t u v a b c h.base k.base; upright = k.upright; finds = nothing answer err }
  where
    nothing : (r : Result (Option ℕ) NoMemory) → ((o : Option ℕ) → r ≡ Ok o → ⊥) → Finds cs i spans start from (bounds_at mark t a) c r
    nothing (Ok (Some d)) f = absurd (f (Some d) refl)
    nothing (Ok None) f = absurd (f None refl)
    nothing (Err e) f = tt
