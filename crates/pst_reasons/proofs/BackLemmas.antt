-- Backwards along the steps of a trail.
use Rattle.std.proofs.Common.{◌≡◌, ◌⊎◌, inl, inr, ℕ, suc, ◌+◌, ◌-◌, ◌<◌, ◌≤◌, ℤ, List, [], ◌∷◌, ◌++◌, length, take, drop, set, reverse, get_or, Bool, Option, Some, None, All, refl, sym, ap, subst, ◌∙◌, arith}
use Rattle.std.specs.Prelude.{slice_get}
use Rattle.std.proofs.lemmas.List.{length-take-le, get_or-take, take-append-drop, drop-take, take_more, reverse-append, drop_all, take_all, get_or-set_other, drop-append-le, take-append-le}
use Rattle.std.proofs.lemmas.Option.{slice_get_within, get_or_from_slice_get}
use Rattle.pst_expr.specs.declared.ranges.Span.{Span}
use Rattle.pst_expr.specs.Tree.{Expression}
use Rattle.pst_expr.specs.Value.{variable_value}
use Rattle.pst_domain.specs.Bounds.{bound_of, Holds}
use Rattle.pst_narrow.specs.declared.trail.Former.{Former}
use Rattle.pst_narrow.specs.declared.watch.Watch.{Watch}
use Rattle.pst_narrow.specs.Trail.{put_back}
use Rattle.pst_narrow.specs.Solutions.{IsMet, AreMet}
use Rattle.pst_narrow.specs.Watch.{Has, IsNumbered, IsWatch}
use Rattle.pst_narrow.specs.Local.{LiesWithin, LieWithin, IsLocal, IsLocallyUnmet}
use Rattle.pst_reasons.specs.declared.step.Cause.{Cause}
use Rattle.pst_reasons.specs.declared.step.Cause.TheVariants as cause
use Rattle.pst_reasons.specs.declared.step.Step.{Step}
use Rattle.pst_reasons.specs.declared.step.Given.{Given}
use Rattle.pst_reasons.specs.Explained.{IsCausedBy, IsExplainedStep, AreExplained}
use Rattle.pst_reasons.specs.Firsts.{first_at, AreFirsts}
use Rattle.pst_reasons.specs.Marks.{IsMarked, IsHeld, NoneIsMarked}
use Rattle.pst_reasons.specs.Reasons.{Agree, AreReasons, Rests, IsKnownCause, IsPassed, IsTaken, IsGivenBack, IsBack}

-- ---- bounds of variables that weren't changed

first_of_all : (P : Former → Type 0) (f : Former) (more : List Former) → All P (f ∷ more) → P f
first_of_all P f more h = h 0 f (omega arith)

rest_of_all : (P : Former → Type 0) (f : Former) (more : List Former) → All P (f ∷ more) → All P more
rest_of_all P f more h k d small = h (suc k) d (omega arith)

unchanged : (v : ℕ) (changes : List Former) (b : List (Option Span)) → All (λ f. f.variable ≡ v → ⊥) changes → bound_of (put_back changes b) v ≡ bound_of b v
unchanged v [] b h = refl
unchanged v (f ∷ more) b h =
    get_or-set_other (put_back more b) f.variable v f.bound None (λ e. first_of_all (λ g. g.variable ≡ v → ⊥) f more h (sym e)) ∙ unchanged v more b (rest_of_all (λ g. g.variable ≡ v → ⊥) f more h)

lies_after : (v : ℕ) (changes : List Former) (b : List (Option Span)) (values : List (Option ℤ)) → All (λ f. f.variable ≡ v → ⊥) changes → LiesWithin (put_back changes b) values v → LiesWithin b values v
lies_after v changes b values h lies = subst (λ r. Holds r (variable_value values v)) (unchanged v changes b h) lies

pub put_back-append : (xs ys : List Former) (b : List (Option Span)) → put_back (xs ++ ys) b ≡ put_back xs (put_back ys b)
put_back-append [] ys b = refl
put_back-append (x ∷ xs) ys b = ap (λ c. set c x.variable x.bound) (put_back-append xs ys b)

-- bounds of variables that weren't changed before a mark are those at the start
abbrev pub AreAsAtStart : List ℕ → ℕ → List (Option Span) → List (Option Span) → Type 0
AreAsAtStart firsts mark start bounds = (v : ℕ) → mark ≤ first_at firsts v → bound_of start v ≡ bound_of bounds v

as_at_start : (firsts : List ℕ) (t : List Former) (b : List (Option Span)) (mark : ℕ) → mark ≤ length t → AreFirsts firsts t → AreAsAtStart firsts mark (put_back t b) (put_back (drop mark t) b)
as_at_start firsts t b mark room h v late =
    ap (λ z. bound_of (put_back z b) v) (sym (take-append-drop mark t)) ∙ (ap (λ z. bound_of z v) (put_back-append (take mark t) (drop mark t) b) ∙ unchanged v (take mark t) (put_back (drop mark t) b) none)
  where
    none : All (λ f. f.variable ≡ v → ⊥) (take mark t)
    none = λ k d small e.
        let size = length-take-le mark t room in
        let below : k < mark = omega (arith, size, small) in
        let at : (get_or t k d).variable ≡ v = ap (λ (f : Former). f.variable) (sym (get_or-take mark t k d below)) ∙ e in
        let less = subst (λ i. first_at firsts i ≤ k) at (h k d (omega (arith, below, room))) in
        omega (arith, less, late, below)

lies_held : (firsts : List ℕ) (mark : ℕ) (marks : List Bool) (start bounds : List (Option Span)) (values : List (Option ℤ)) → AreAsAtStart firsts mark start bounds → ((v : ℕ) → LiesWithin start values v) → ((v : ℕ) → IsMarked marks v → LiesWithin bounds values v) → (v : ℕ) → IsHeld firsts mark marks v → LiesWithin bounds values v
lies_held firsts mark marks start bounds values same near lie v (inl m) = lie v m
lies_held firsts mark marks start bounds values same near lie v (inr late) = subst (λ r. Holds r (variable_value values v)) (same v late) (near v)

-- ---- back over a step

met_at : (es : List Expression) (c : ℕ) (e : Expression) (values : List (Option ℤ)) → IsNumbered es c e → AreMet es values → IsMet e values
met_at es c e values num met = subst (λ d. IsMet d values) (get_or_from_slice_get es c e e num) (met c e (slice_get_within es c e num))

passed_back : (es : List Expression) (given : List Given) (start : List (Option Span)) (changes : List Former) (b : List (Option Span)) (old new : List Bool) (places more : List ℕ) → IsPassed changes old new places more → Rests es given start b old places → Rests es given start (put_back changes b) new more
passed_back es given start changes b old new places more h rests values met near lie agree =
    rests values met near
    (λ v m.
    lies_after v changes b values (λ k d small e. h.none k d small (subst (IsMarked old) (sym e) m)) (lie v (subst (λ z. IsMarked z v) (sym h.marks) m)))
    (subst (λ z. Agree z given values) h.places_same agree)

taken_back : (es : List Expression) (given : List Given) (w : Watch) (n c : ℕ) (e : Expression) (firsts : List ℕ) (mark : ℕ) (start : List (Option Span)) (changes : List Former) (b : List (Option Span)) (old new : List Bool) (places more : List ℕ) → IsWatch es n w → IsNumbered es c e → IsLocal e (put_back changes b) b → AreAsAtStart firsts mark start (put_back changes b) → IsTaken w c firsts mark old new places more → Rests es given start b old places → Rests es given start (put_back changes b) new more
taken_back es given w n c e firsts mark start changes b old new places more watch num local same h rests values met near lie agree =
    let all = lies_held firsts mark new start (put_back changes b) values same near lie in
    let within : LieWithin (put_back changes b) values e = λ v m. all v (h.marked v (watch.mentions c v e (slice_get_within es c e num) num m)) in
    rests values met near
    (λ v m. local values (met_at es c e values num met) within v (all v (h.kept v m)))
    (subst (λ z. Agree z given values) h.places_same agree)

same_or : (i k : ℕ) → (i ≡ k) ⊎ (i ≡ k → ⊥)
same_or i k = grind arith

given_back : (es : List Expression) (given : List Given) (k : ℕ) (g : Given) (start : List (Option Span)) (changes : List Former) (b : List (Option Span)) (old new : List Bool) (places more : List ℕ) → slice_get given k ≡ Some g → All (λ f. f.variable ≡ g.variable) changes → bound_of b g.variable ≡ Some g.span → IsGivenBack k changes old new places more → Rests es given start b old places → Rests es given start (put_back changes b) new more
given_back es given k g start changes b old new places more at all bound h rests values met near lie agree =
    rests values met near
    (λ v m. elim (same_or v g.variable) [
      | inl e ↦ subst (LiesWithin b values) (sym e) here
      | inr n ↦ elim (h.named.unmarked.marks v m) [
        | inl e ↦ absurd (n (e ∙ first_is))
        | inr kept ↦ lies_after v changes b values (λ i d small e. n (sym e ∙ all i d small)) (lie v kept)
      ]
    ])
    (λ j x there c. agree j x there (h.named.kept j c))
  where
    first_is : h.first.variable ≡ g.variable
    first_is = subst (λ f. f.variable ≡ g.variable) (get_or_from_slice_get changes 0 h.first h.first h.is_first) (all 0 h.first (slice_get_within changes 0 h.first h.is_first))

    here : LiesWithin b values g.variable
    here = subst (λ r. Holds r (variable_value values g.variable)) (sym bound) (agree k g at h.named.named)

pub back_over : (es : List Expression) (given : List Given) (w : Watch) (n : ℕ) (by : Cause) (firsts : List ℕ) (mark : ℕ) (start : List (Option Span)) (changes : List Former) (b : List (Option Span)) (old new : List Bool) (places more : List ℕ) → IsWatch es n w → IsCausedBy es given by changes (put_back changes b) b → AreAsAtStart firsts mark start (put_back changes b) → IsBack w by firsts mark changes old new places more → Rests es given start b old places → Rests es given start (put_back changes b) new more
back_over es given w n (cause.Constraint c) firsts mark start changes b old new places more watch caused same (inl p) rests = passed_back es given start changes b old new places more p rests
back_over es given w n (cause.Constraint c) firsts mark start changes b old new places more watch caused same (inr p) rests = taken_back es given w n c caused.0 firsts mark start changes b old new places more watch caused.1 caused.2 same p rests
back_over es given w n (cause.Given k) firsts mark start changes b old new places more watch caused same (inl p) rests = passed_back es given start changes b old new places more p rests
back_over es given w n (cause.Given k) firsts mark start changes b old new places more watch caused same (inr p) rests = given_back es given k caused.0 start changes b old new places more caused.1 caused.2 caused.3 p rests

back_long : (w : Watch) (by : Cause) (firsts : List ℕ) (mark : ℕ) (changes : List Former) (old new : List Bool) (places more : List ℕ) → IsBack w by firsts mark changes old new places more → length new ≡ length old
back_long w (cause.Constraint c) firsts mark changes old new places more (inl p) = ap length p.marks
back_long w (cause.Constraint c) firsts mark changes old new places more (inr p) = p.long
back_long w (cause.Given k) firsts mark changes old new places more (inl p) = ap length p.marks
back_long w (cause.Given k) firsts mark changes old new places more (inr p) = p.named.unmarked.long

-- ---- along the steps

pub record IsGoingBack (es : List Expression) (given : List Given) (steps : List Step) (t : List Former) (b : List (Option Span)) (left end n : ℕ) (marks : List Bool) (places : List ℕ) : Type 0 where
  pub left_room : left ≤ length steps
  pub end_room : end ≤ length t
  pub explained : AreExplained es given (reverse (take left steps)) (take end t) (put_back (drop end t) b)
  pub rests : Rests es given (put_back t b) (put_back (drop end t) b) marks places
  pub long : n ≤ length marks

-- the step before the last one that is left
one_step : (es : List Expression) (given : List Given) (steps : List Step) (t : List Former) (b : List (Option Span)) (left : ℕ) (s d : Step) → left < length steps → s ≡ get_or steps left d → AreExplained es given (reverse (take (left + 1) steps)) t b → IsExplainedStep es given s t b × AreExplained es given (reverse (take left steps)) (take s.mark t) (put_back (drop s.mark t) b)
one_step es given steps t b left s d below is h =
    let split : take (left + 1) steps ≡ take left steps ++ s ∷ [] = take_more steps left d below ∙ ap (λ x. take left steps ++ x ∷ []) (sym is) in
    subst (λ zs. AreExplained es given zs t b) (ap reverse split ∙ reverse-append (take left steps) (s ∷ [])) h

pub before_step : (es : List Expression) (given : List Given) (w : Watch) (n : ℕ) (firsts : List ℕ) (steps : List Step) (t : List Former) (b : List (Option Span)) (left end : ℕ) (s d : Step) (changes : List Former) (old new : List Bool) (places more : List ℕ) → left < length steps → s ≡ get_or steps left d → changes ≡ drop s.mark (take end t) → IsWatch es n w → AreFirsts firsts t → IsBack w s.cause firsts s.mark changes old new places more → IsGoingBack es given steps t b (left + 1) end n old places → IsGoingBack es given steps t b left s.mark n new more
before_step es given w n firsts steps t b left end s d changes old new places more below is cut watch early back h =
    let both = one_step es given steps (take end t) (put_back (drop end t) b) left s d below is h.explained in
    let size = length-take-le end t h.end_room in
    let within : s.mark ≤ end = (let room = both.0.room in omega (arith, room, size)) in
    let end_room = h.end_room in
    let shorter : take s.mark (take end t) ≡ take s.mark t = sym (take-append-le s.mark (take end t) (drop end t) (omega (arith, size))) ∙ ap (take s.mark) (take-append-drop end t) in
    let parts : drop s.mark t ≡ drop s.mark (take end t) ++ drop end t = ap (drop s.mark) (sym (take-append-drop end t)) ∙ drop-append-le s.mark (take end t) (drop end t) (omega (arith, size)) in
    let bounds : put_back (drop s.mark (take end t)) (put_back (drop end t) b) ≡ put_back (drop s.mark t) b = sym (put_back-append (drop s.mark (take end t)) (drop end t) b) ∙ ap (λ z. put_back z b) (sym parts) in
    let same : AreAsAtStart firsts s.mark (put_back t b) (put_back (drop s.mark (take end t)) (put_back (drop end t) b)) =
    subst (AreAsAtStart firsts s.mark (put_back t b)) (sym bounds) (as_at_start firsts t b s.mark (omega (arith, within, end_room)) early) in
    let left_room = h.left_room in
    let size_old = h.long in
    let size_new = back_long w s.cause firsts s.mark changes old new places more back in
    record {
      left_room = omega (arith, left_room);
      end_room = omega (arith, within, end_room);
      explained = subst (λ z. AreExplained es given (reverse (take left steps)) z (put_back (drop s.mark t) b)) shorter (subst (AreExplained es given (reverse (take left steps)) (take s.mark (take end t))) bounds both.1);
      rests = subst (λ z. Rests es given (put_back t b) z new more) bounds
          (back_over es given w n s.cause firsts s.mark (put_back t b) (drop s.mark (take end t)) (put_back (drop end t) b) old new places more watch both.0.caused same (subst (λ z. IsBack w s.cause firsts s.mark z old new places more) cut back) h.rests);
      long = omega (arith, size_old, size_new);
    }

pub step_room : (es : List Expression) (given : List Given) (steps : List Step) (t : List Former) (b : List (Option Span)) (left end n : ℕ) (s d : Step) (marks : List Bool) (places : List ℕ) → left < length steps → s ≡ get_or steps left d → IsGoingBack es given steps t b (left + 1) end n marks places → s.mark ≤ end
step_room es given steps t b left end n s d marks places below is h =
    let both = one_step es given steps (take end t) (put_back (drop end t) b) left s d below is h.explained in
    let room = both.0.room in
    omega (arith, room, length-take-le end t h.end_room)

pub at_end : (es : List Expression) (given : List Given) (steps : List Step) (t : List Former) (b : List (Option Span)) (end n : ℕ) (marks : List Bool) (places : List ℕ) → IsGoingBack es given steps t b 0 end n marks places → AreReasons es given (put_back t b) places
at_end es given steps t b end n marks places h values met lie agree =
    let nothing : take end t ≡ [] = h.explained in
    let whole : drop end t ≡ t = ap (λ z. z ++ drop end t) (sym nothing) ∙ take-append-drop end t in
    h.rests values met lie (λ v m. subst (λ z. LiesWithin (put_back z b) values v) (sym whole) (lie v)) agree

-- where no variable is marked any more, one needn't go on
pub at_stop : (es : List Expression) (given : List Given) (steps : List Step) (t : List Former) (b : List (Option Span)) (left end n : ℕ) (marks : List Bool) (places : List ℕ) → ((v : ℕ) → IsMarked marks v → ⊥) → IsGoingBack es given steps t b left end n marks places → AreReasons es given (put_back t b) places
at_stop es given steps t b left end n marks places bare h values met lie agree = h.rests values met lie (λ v m. absurd (bare v m)) agree

-- a constraint that can't hold, all of whose variables that were changed are marked
pub at_first : (es : List Expression) (given : List Given) (w : Watch) (firsts : List ℕ) (steps : List Step) (t : List Former) (b : List (Option Span)) (n c : ℕ) (e : Expression) (marks : List Bool) → IsWatch es n w → IsNumbered es c e → IsLocallyUnmet e b → AreExplained es given (reverse steps) t b → n ≤ length marks → AreFirsts firsts t → ((v : ℕ) → Has w.mentioned.items c v → IsHeld firsts (length t) marks v) → IsGoingBack es given steps t b (length steps) (length t) n marks []
at_first es given w firsts steps t b n c e marks watch num unmet explained long early marked =
    let none : drop (length t) t ≡ [] = drop_all (length t) t (omega arith) in
    let all : take (length t) t ≡ t = take_all (length t) t (omega arith) in
    let all_steps : take (length steps) steps ≡ steps = take_all (length steps) steps (omega arith) in
    let same : AreAsAtStart firsts (length t) (put_back t b) b = subst (λ z. AreAsAtStart firsts (length t) (put_back t b) (put_back z b)) none (as_at_start firsts t b (length t) (omega arith) early) in
    record {
      left_room = omega arith;
      end_room = omega arith;
      explained = subst (λ z. AreExplained es given (reverse (take (length steps) steps)) (take (length t) t) (put_back z b)) (sym none) (subst (λ z. AreExplained es given (reverse (take (length steps) steps)) z b) (sym all) (subst (λ z. AreExplained es given (reverse z) t b) (sym all_steps) explained));
      rests = subst (λ z. Rests es given (put_back t b) (put_back z b) marks []) (sym none)
          (λ values met near lie agree.
          unmet values (met_at es c e values num met)
          (λ v m. lies_held firsts (length t) marks (put_back t b) b values same near lie v (marked v (watch.mentions c v e (slice_get_within es c e num) num m))));
      long = long;
    }

-- ---- back over a step, told of its cause

pub back_passed : (w : Watch) (by : Cause) (firsts : List ℕ) (mark : ℕ) (changes : List Former) (old new : List Bool) (places more : List ℕ) → IsPassed changes old new places more → IsBack w by firsts mark changes old new places more
back_passed w (cause.Constraint c) firsts mark changes old new places more p = inl p
back_passed w (cause.Given k) firsts mark changes old new places more p = inl p

pub nothing_changed : (marks : List Bool) (changes : List Former) → slice_get changes 0 ≡ None → NoneIsMarked marks changes
nothing_changed marks [] e k d small = absurd (omega arith)
nothing_changed marks (f ∷ more) e k d small = absurd cc

pub begin : (es : List Expression) (given : List Given) (w : Watch) (firsts : List ℕ) (steps : List Step) (t : List Former) (b : List (Option Span)) (n c left end : ℕ) (e : Expression) (marks : List Bool) (places : List ℕ) → IsWatch es n w → IsNumbered es c e → IsLocallyUnmet e b → AreExplained es given (reverse steps) t b → n ≤ length marks → AreFirsts firsts t → ((v : ℕ) → Has w.mentioned.items c v → IsHeld firsts end marks v) → left ≡ length steps → end ≡ length t → places ≡ [] → IsGoingBack es given steps t b left end n marks places
begin es given w firsts steps t b n c left end e marks places watch num unmet explained long early marked p q r =
    subst (λ k. IsGoingBack es given steps t b k end n marks places) (sym p)
    (subst (λ k. IsGoingBack es given steps t b (length steps) k n marks places) (sym q)
    (subst (λ z. IsGoingBack es given steps t b (length steps) (length t) n marks z) (sym r) (at_first es given w firsts steps t b n c e marks watch num unmet explained long early (λ v has. subst (λ k. IsHeld firsts k marks v) q (marked v has)))))

known_cause : (es : List Expression) (given : List Given) (w : Watch) (n m : ℕ) (by : Cause) (changes : List Former) (old new : List (Option Span)) → IsWatch es n w → n ≤ m → IsCausedBy es given by changes old new → IsKnownCause w by m
known_cause es given w n m (cause.Constraint c) changes old new watch e caused =
    let small = slice_get_within es c caused.0 caused.1 in
    let lists = watch.lists in
    (omega (arith, small, lists), λ v has. let below = watch.small c v has in omega (arith, below, e))
known_cause es given w n m (cause.Given k) changes old new watch e caused = tt

pub step_known : (es : List Expression) (given : List Given) (w : Watch) (steps : List Step) (t : List Former) (b : List (Option Span)) (left end n m : ℕ) (s d : Step) (marks : List Bool) (places : List ℕ) → IsWatch es n w → n ≤ m → left < length steps → s ≡ get_or steps left d → IsGoingBack es given steps t b (left + 1) end n marks places → IsKnownCause w s.cause m
step_known es given w steps t b left end n m s d marks places watch e below is h =
    let both = one_step es given steps (take end t) (put_back (drop end t) b) left s d below is h.explained in
    known_cause es given w n m s.cause (drop s.mark (take end t)) (put_back (drop s.mark (take end t)) (put_back (drop end t) b)) (put_back (drop end t) b) watch e both.0.caused

pub cut_part : (m e : ℕ) (xs ys : List Former) → ys ≡ xs → m ≤ e → take (e - m) (drop m ys) ≡ drop m (take e xs)
cut_part m e xs ys same less =
    let whole : m + (e - m) ≡ e = omega arith in
    ap (λ z. take (e - m) (drop m z)) same ∙ (sym (drop-take m (e - m) xs) ∙ ap (λ k. drop m (take k xs)) whole)
