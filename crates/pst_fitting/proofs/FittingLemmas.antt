-- Values of a variable that are passed, run after run.
use Rattle.std.proofs.Common.{◌≡◌, ⊎_elim, ℕ, zero, suc, ◌+◌, ◌-◌, ◌<◌, ◌≤◌, ℤ, List, [], ◌∷◌, ◌++◌, length, map, reverse, Option, Some, None, refl, sym, ap, subst, ◌∙◌, arith}
use Rattle.std.specs.Global.{Vec}
use Rattle.std.specs.Prelude.{slice_get, Contains}
use Rattle.std.proofs.lemmas.Bool.{cases_lt}
use Rattle.std.proofs.lemmas.List.{length-append, reverse-append, reverse-reverse}
use Rattle.pst_expr.specs.declared.ranges.Span.{Span}
use Rattle.pst_expr.specs.declared.tree.Expr.{Expr}
use Rattle.pst_expr.specs.Spans.{IsInSpan, size_of, values}
use Rattle.pst_expr.specs.Tree.{view}
use Rattle.pst_expr.specs.Value.{variable_value}
use Rattle.pst_domain.specs.Bounds.{Holds}
use Rattle.pst_narrow.specs.Local.{LiesWithin}
use Rattle.pst_narrow.specs.Narrowing.{IsIn}
use Rattle.pst_narrow.specs.Solutions.{AreMet}
use Rattle.pst_reasons.specs.declared.reasons.Narrowed.{Narrowed}
use Rattle.pst_reasons.specs.declared.step.Given.{Given}
use Rattle.pst_reasons.specs.Giving.{IsKept, IsAt, IsTakenBack, given_too, start_of}
use Rattle.pst_reasons.specs.Reasons.{Agree, AreReasons}
use Rattle.pst_values.specs.declared.options.Run.{Run}
use Rattle.pst_values.specs.Options.{option_at, IsRun, HoldsRun}
use Rattle.pst_fitting.specs.Places.{AreBelow, AreAdded}
use Rattle.pst_fitting.specs.Passed.{AreSolution, ExcludesAll, IsRefused}

-- ---- the same spans given

pub at_self : (s : Narrowed) → IsKept s → IsAt s s s.given.items
at_self s kept = record { kept = kept; given_is = refl; constraints = refl; count = refl; start = refl }

pub at_then : (s n r : Narrowed) → IsAt s n s.given.items → IsAt n r n.given.items → IsAt s r s.given.items
at_then s n r h k = record { kept = k.kept; given_is = k.given_is ∙ h.given_is; constraints = k.constraints ∙ h.constraints; count = k.count ∙ h.count; start = k.start ∙ h.start }

rest_is : (x y : Given) (xs ys : List Given) → x ∷ xs ≡ y ∷ ys → xs ≡ ys
rest_is x y xs ys e = cc

front_is : (xs ys : List Given) (x y : Given) → xs ++ x ∷ [] ≡ ys ++ y ∷ [] → xs ≡ ys
front_is xs ys x y e =
    let turned : x ∷ reverse xs ≡ y ∷ reverse ys = sym (reverse-append xs (x ∷ [])) ∙ (ap reverse e ∙ reverse-append ys (y ∷ [])) in
    sym (reverse-reverse xs) ∙ (ap reverse (rest_is x y (reverse xs) (reverse ys) turned) ∙ reverse-reverse ys)

pub some_given : (s n : Narrowed) (i : ℕ) (span : Span) → IsAt s n (given_too s i span) → 0 < length n.given.items
some_given s n i span h = let a : length n.given.items ≡ length s.given.items + 1 = ap length h.given_is ∙ length-append s.given.items (record { variable = i; span = span } ∷ []) in omega (arith, a)

pub given_and_back : (s n u : Narrowed) (i : ℕ) (span : Span) → IsAt s n (given_too s i span) → IsTakenBack n u → IsAt s u s.given.items
given_and_back s n u i span h back = record {
  kept = back.at.kept;
  given_is = front_is u.given.items s.given.items back.last (record { variable = i; span = span }) (sym back.given_is ∙ h.given_is);
  constraints = back.at.constraints ∙ h.constraints;
  count = back.at.count ∙ h.count;
  start = back.at.start ∙ h.start;
}

-- ---- a span that is refused

get_left : (xs ys : List Given) (k : ℕ) (g : Given) → k < length xs → slice_get (xs ++ ys) k ≡ Some g → slice_get xs k ≡ Some g
get_left [] ys k g l e = absurd (omega arith)
get_left (x ∷ xs) ys zero g l e = e
get_left (x ∷ xs) ys (suc k) g l e = get_left xs ys k g (omega arith) e

get_last : (xs : List Given) (y g : Given) (k : ℕ) → length xs ≤ k → slice_get (xs ++ y ∷ []) k ≡ Some g → g ≡ y
get_last [] y g zero l e = cc
get_last [] y g (suc k) l e = absurd cc
get_last (x ∷ xs) y g zero l e = absurd (omega arith)
get_last (x ∷ xs) y g (suc k) l e = get_last xs y g k (omega arith) e

holds_of_in : (s : Span) (v : Option ℤ) → IsIn s v → Holds (Some s) v
holds_of_in s None h = absurd h
holds_of_in s (Some x) h = h

pub refused : (s : Narrowed) (i : ℕ) (span : Span) (places : List ℕ) (size : ℕ) (old new : List ℕ) → size ≡ length s.given.items → AreBelow old (length s.given.items) → AreReasons (map view s.constraints.items) (given_too s i span) (start_of s) places → AreAdded places size old new → IsRefused s i span old new
refused s i span places size old new at below reasons added = record {
  kept = added.kept;
  below = λ k c. ⊎_elim (λ h. below k h) (λ (l : k < size). omega (arith, l, at)) (added.only k c);
  none = λ values solution lies. reasons values solution.met solution.start (λ k g there c. ⊎_elim
      (λ (l : k < length s.given.items). solution.agree k g (get_left s.given.items (own ∷ []) k g l there) (added.added k c (omega (arith, l, at))))
      (λ (l : length s.given.items ≤ k). subst (λ (d : Given). Holds (Some d.span) (variable_value values d.variable)) (sym (get_last s.given.items own g k l there)) (holds_of_in span (variable_value values i) lies))
      (cases_lt k (length s.given.items)));
}
  where
    own : Given
    own = record { variable = i; span = span }

-- ---- told of the narrowing at the beginning

same_solution : (s n : Narrowed) (places : List ℕ) (values : List (Option ℤ)) → IsAt s n s.given.items → AreSolution s places values → AreSolution n places values
same_solution s n places values h sol = record {
  met = subst (λ (c : Vec Expr). AreMet (map view c.items) values) (sym h.constraints) sol.met;
  start = λ v. subst (λ b. LiesWithin b values v) (sym h.start) (sol.start v);
  agree = subst (λ gs. Agree places gs values) (sym h.given_is) sol.agree;
}

pub same_refused : (s n : Narrowed) (i : ℕ) (span : Span) (old new : List ℕ) → IsAt s n s.given.items → IsRefused n i span old new → IsRefused s i span old new
same_refused s n i span old new h r = record {
  kept = r.kept;
  below = subst (λ gs. AreBelow new (length gs)) h.given_is r.below;
  none = λ values sol lies. r.none values (same_solution s n new values h sol) lies;
}

fewer_places : (s : Narrowed) (old new : List ℕ) (values : List (Option ℤ)) → ((k : ℕ) → Contains old k → Contains new k) → AreSolution s new values → AreSolution s old values
fewer_places s old new values kept sol = record { met = sol.met; start = sol.start; agree = λ k g at c. sol.agree k g at (kept k c) }

-- ---- runs

pub record IsFitting (s n : Narrowed) (i : ℕ) (spans : List Span) (start from place width : ℕ) (reasons : List ℕ) : Type 0 where
  pub at : IsAt s n s.given.items
  pub wide : 0 < width
  pub least : from ≤ place
  pub most : place ≤ size_of spans
  pub below : AreBelow reasons (length s.given.items)
  pub passed : ExcludesAll s reasons i spans start from place

none_there : (k : ℕ) → Contains [] k → ⊥
none_there k (j, small, at) = omega arith

pub at_start : (s : Narrowed) (i : ℕ) (spans : List Span) (start from : ℕ) (reasons : List ℕ) → IsKept s → from ≤ size_of spans → reasons ≡ [] → IsFitting s s i spans start from from 1 reasons
at_start s i spans start from reasons kept room none = record {
  at = at_self s kept;
  wide = omega arith;
  least = omega arith;
  most = room;
  below = λ k c. absurd (none_there k (subst (λ xs. Contains xs k) none c));
  passed = λ d after below. absurd (omega (arith, after, below));
}

lies_in : (span : Span) (o : Option ℤ) (v : ℤ) → o ≡ Some v → IsInSpan v span → IsIn span o
lies_in span o v e h = subst (IsIn span) (sym e) h

run_passed : (s : Narrowed) (i : ℕ) (spans : List Span) (start from place count : ℕ) (run : Run) (span : Span) (old new : List ℕ) → IsRun start (size_of spans) place run → count ≤ run.count → HoldsRun spans run.index count span → IsRefused s i span old new → ExcludesAll s old i spans start from place → ExcludesAll s new i spans start from (place + count)
run_passed s i spans start from place count run span old new is short holds r before d after below v at vs sol has = ⊎_elim
    (λ (early : d < place). before d after early v at vs (fewer_places s old new vs r.kept sol) has)
    (λ (late : place ≤ d).
    let k : ℕ = d - place in
    let whole : place + k ≡ d = omega arith in
    let small : k < count = omega arith in
    let found : slice_get (values spans) (run.index + k) ≡ Some v = sym (ap (slice_get (values spans)) (is.same k (omega arith))) ∙ (ap (option_at spans start) whole ∙ at) in
    r.none vs sol (lies_in span (variable_value vs i) v has (holds k small v found)))
    (cases_lt d place)

pub after_refused : (s n r : Narrowed) (i : ℕ) (spans : List Span) (start from place width wider count : ℕ) (run : Run) (span : Span) (old new : List ℕ) → 0 < wider → IsRun start (size_of spans) place run → count ≤ run.count → HoldsRun spans run.index count span → IsFitting s n i spans start from place width old → IsAt n r n.given.items → IsRefused n i span old new → IsFitting s r i spans start from (place + count) wider new
after_refused s n r i spans start from place width wider count run span old new some is short holds h at told =
    let here = same_refused s n i span old new h.at told in
    let least = h.least in
    let places = is.places in
    record {
      at = at_then s n r h.at at;
      wide = some;
      least = omega (arith, least);
      most = omega (arith, places, short);
      below = here.below;
      passed = run_passed s i spans start from place count run span old new is short holds here h.passed;
    }

pub after_wide : (s n r : Narrowed) (i : ℕ) (spans : List Span) (start from place width narrower : ℕ) (old new : List ℕ) → 0 < narrower → new ≡ old → IsFitting s n i spans start from place width old → IsAt n r n.given.items → IsFitting s r i spans start from place narrower new
after_wide s n r i spans start from place width narrower old new some same h at = record {
  at = at_then s n r h.at at;
  wide = some;
  least = h.least;
  most = h.most;
  below = subst (λ xs. AreBelow xs (length s.given.items)) (sym same) h.below;
  passed = subst (λ xs. ExcludesAll s xs i spans start from place) (sym same) h.passed;
}
