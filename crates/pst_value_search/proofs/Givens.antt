-- Values that are given one after another, and taken back.
use Rattle.std.proofs.Common.{◌≡◌, ℕ, zero, suc, ◌+◌, ◌<◌, ◌≤◌, ℤ, List, [], ◌∷◌, ◌++◌, length, map, take, Bool, true, false, Option, Some, None, refl, sym, ap, ◌∙◌, subst, length-append, arith}
use Rattle.std.specs.Prelude.{Ok, Contains, option_to_list}
use Rattle.std.specs.Global.{Vec}
use Rattle.pst_expr.specs.declared.ranges.Span.{Span}
use Rattle.pst_expr.specs.declared.tree.Expr.{Expr}
use Rattle.pst_expr.specs.Tree.{view}
use Rattle.pst_expr.specs.Spans.{size_of}
use Rattle.pst_expr.specs.Value.{variable_value}
use Rattle.pst_domain.specs.Bounds.{AreInside}
use Rattle.pst_narrow.specs.Narrowing.{AreOpen}
use Rattle.pst_reasons.specs.declared.reasons.Narrowed.{Narrowed}
use Rattle.pst_reasons.specs.declared.step.Given.{Given}
use Rattle.pst_reasons.specs.Giving.{IsKept, IsAt, IsTakenBack, start_of, given_too}
use Rattle.pst_reasons.specs.Giving.{with_given}
use Rattle.pst_reasons.specs.Laws.{GivenSpansRefuseNothing}
use Rattle.pst_reasons.specs.Reasons.{Agree, AreReasons}
use Rattle.pst_fitting.specs.declared.fitting.Fitting.{Fitting}
use Rattle.pst_fitting.specs.Passed.{Passes}
use Rattle.pst_value_search.specs.Values.{Kept, point, points_from, points, Refuses, RefusesNothing, Skips}
use Rattle.pst_value_search.specs.Made.{IsRefused, AreGiven, IsThere, GivesValue}
use Rattle.pst_value_search.proofs.Points.{length_points, points_more, more_reasons}

take_front : (xs ys : List ℤ) (n : ℕ) → n ≤ length xs → take n (xs ++ ys) ≡ take n xs
take_front xs ys zero l = refl
take_front [] ys (suc n) l = let bad : ⊥ = omega (arith, l) in absurd bad
take_front (x ∷ xs) ys (suc n) l = ap (λ zs. x ∷ zs) (take_front xs ys n (omega (arith, l)))

take_all : (xs : List ℤ) (n : ℕ) → n ≡ length xs → take n xs ≡ xs
take_all [] zero e = refl
take_all [] (suc n) e = let bad : ⊥ = omega (arith, e) in absurd bad
take_all (x ∷ xs) zero e = let bad : ⊥ = omega (arith, e) in absurd bad
take_all (x ∷ xs) (suc n) e = ap (λ zs. x ∷ zs) (take_all xs n (omega (arith, e)))

points_next : (values : List ℤ) (v : ℤ) (n : ℕ) → n ≡ length values → points (values ++ v ∷ []) ≡ points values ++ record { variable = n; span = point v } ∷ []
points_next values v n e =
    let z : 0 + length values ≡ n = omega (arith, e) in
    points_more 0 values v ∙ ap (λ k. points values ++ record { variable = k; span = point v } ∷ []) z

pub count_given : (n : Narrowed) (values : List ℤ) (o : Option (Vec ℕ)) → o ≡ None → AreGiven o n values → length values ≡ length n.given.items
count_given n values o none given =
    let own : n.given.items ≡ points values = subst (λ x. AreGiven x n values) none given in
    sym (ap length own ∙ length_points 0 values)

pub refused_told : (n : Narrowed) (values : List ℤ) (places : List ℕ) → IsRefused n values places → Refuses (record { constraints = n.constraints.items; bounds = start_of n; values = values }) places
refused_told n values places r = record {
  reasons = more_reasons (map view n.constraints.items) (length n.given.items + 1) values (start_of n) places r.reasons;
  within = λ i there. let l = r.within i there in let f = r.fewer in omega (arith, l, f);
}

-- where none is refused
pub nothing_refused : GivenSpansRefuseNothing → (n : Narrowed) (values : List ℤ) (o : Option (Vec ℕ)) → o ≡ None → IsKept n → AreGiven o n values
    → RefusesNothing (record { constraints = n.constraints.items; bounds = start_of n; values = values })
nothing_refused law n values o none kept given bounds inside =
    let own : n.given.items ≡ points values = subst (λ x. AreGiven x n values) none given in
    law n bounds kept (subst (λ gs. AreInside (with_given (start_of n) gs) bounds) (sym own) inside)

-- ---- values that are skipped

pub skips_passed : (n : Narrowed) (values : List ℤ) (o : Option (Vec ℕ)) (variable : ℕ) (spans : List Span) (start from : ℕ) (found : Fitting) → o ≡ None → AreGiven o n values → variable ≡ length values
    → Passes n variable spans start from found → Skips (record { constraints = n.constraints.items; bounds = start_of n; values = values }) spans start from found
skips_passed n values o variable spans start from found none given count passes =
    let own : n.given.items ≡ points values = subst (λ x. AreGiven x n values) none given in
    record {
      least = passes.least;
      most = passes.most;
      within = λ i there. let l = passes.below i there in let many : length n.given.items ≡ length values = ap length own ∙ length_points 0 values in omega (arith, l, many);
      each = λ place low high value at vs met lies agree is.
          passes.passed place low high value at vs (record { met = met; start = lies; agree = subst (λ gs. Agree found.reasons.items gs vs) (sym own) agree }) (ap (variable_value vs) count ∙ is);
    }

none_contained : (i : ℕ) → Contains [] i → ⊥
none_contained i (q, l, e) = omega (arith, l)

pub skips_nothing : (k : Kept) (spans : List Span) (start from : ℕ) (found : Fitting) → found.place ≡ from → found.reasons.items ≡ [] → from ≤ size_of spans → Skips k spans start from found
skips_nothing k spans start from found at none most = record {
  least = omega (arith, at);
  most = omega (arith, at, most);
  within = λ i there. absurd (none_contained i (subst (λ xs. Contains xs i) none there));
  each = λ place low high value is. let bad : ⊥ = omega (arith, low, high, at) in absurd bad;
}

abbrev pub seen_as : List Expr → List (Option Span) → List ℤ → Kept
seen_as constraints bounds values = record { constraints = constraints; bounds = bounds; values = values }

-- the same is seen where the same spans are given
pub same_seen : (old new : Narrowed) (values : List ℤ) → IsAt old new old.given.items → seen_as new.constraints.items (start_of new) values ≡ seen_as old.constraints.items (start_of old) values
same_seen old new values at = ap (λ (cs : Vec Expr). seen_as cs.items (start_of new) values) at.constraints ∙ ap (λ b. seen_as old.constraints.items b values) at.start

pub same_given : (old new : Narrowed) (values : List ℤ) (o : Option (Vec ℕ)) → o ≡ None → AreGiven o old values → IsAt old new old.given.items → AreGiven o new values
same_given old new values o none given at =
    let own : old.given.items ≡ points values = subst (λ x. AreGiven x old values) none given in
    subst (λ x. AreGiven x new values) (sym none) (at.given_is ∙ own)

-- ---- one value more

-- where one was refused before
pub more_refused : (n : Narrowed) (values more : List ℤ) (v : ℤ) (o : Option (Vec ℕ)) → more ≡ values ++ v ∷ [] → IsThere o true → AreGiven o n values → AreGiven o n more
more_refused n values more v o is (places, some) given =
    let r : IsRefused n values places.items = subst (λ x. AreGiven x n values) some given in
    let count = length n.given.items in
    let fewer = r.fewer in
    let long = length-append values (v ∷ []) in
    subst (λ x. AreGiven x n more) (sym some)
    (subst (λ xs. IsRefused n xs places.items) (sym is)
    (record {
      fewer = omega (arith, fewer, long);
      given_is = r.given_is ∙ ap points (sym (take_front values (v ∷ []) count (omega (arith, fewer))));
      reasons = subst (λ xs. AreReasons (map view n.constraints.items) (points xs) (start_of n) places.items) (sym (take_front values (v ∷ []) (count + 1) (omega (arith, fewer)))) r.reasons;
      within = r.within;
    }))

-- where none was
given_next : (old new : Narrowed) (values more : List ℤ) (v : ℤ) → more ≡ values ++ v ∷ [] → old.given.items ≡ points values → (o : Option (Vec ℕ)) → GivesValue (Ok o) old new (length values) v → IsKept new × AreGiven o new more
given_next old new values more v is own None gives = (
  gives.kept,
  gives.given_is ∙ ap (λ xs. xs ++ record { variable = length values; span = point v } ∷ []) own ∙ sym (points_next values v (length values) refl) ∙ ap points (sym is),
)
given_next old new values more v is own (Some places) (at, reasons, within) =
    let same : new.given.items ≡ points values = at.given_is ∙ own in
    let many : length new.given.items ≡ length values = ap length same ∙ length_points 0 values in
    let count = length new.given.items in
    let long = length-append values (v ∷ []) in
    let next : count + 1 ≡ length (values ++ v ∷ []) = omega (arith, many, long) in
    let whole : points (take (count + 1) (values ++ v ∷ [])) ≡ given_too old (length values) (point v) =
    ap points (take_all (values ++ v ∷ []) (count + 1) next) ∙ points_next values v (length values) refl ∙ ap (λ xs. xs ++ record { variable = length values; span = point v } ∷ []) (sym own) in
    let told : AreReasons (map view new.constraints.items) (given_too old (length values) (point v)) (start_of new) places.items =
    subst (λ (xs : Vec Expr). AreReasons (map view xs.items) (given_too old (length values) (point v)) (start_of new) places.items) (sym at.constraints)
    (subst (λ b. AreReasons (map view old.constraints.items) (given_too old (length values) (point v)) b places.items) (sym at.start) reasons) in (
      at.kept,
      subst (λ xs. IsRefused new xs places.items) (sym is)
          (record {
            fewer = omega (arith, many, long);
            given_is = same ∙ ap points (sym (take_front values (v ∷ []) count (omega (arith, many)) ∙ take_all values count many));
            reasons = subst (λ g. AreReasons (map view new.constraints.items) g (start_of new) places.items) (sym whole) told;
            within = λ i there. let l = within i there in omega (arith, l, many);
          }),
    )

pub more_given : (old new : Narrowed) (values more : List ℤ) (v : ℤ) (n : ℕ) (was o : Option (Vec ℕ)) → more ≡ values ++ v ∷ [] → was ≡ None → AreGiven was old values → n ≡ length values → GivesValue (Ok o) old new n v → IsKept new × AreGiven o new more
more_given old new values more v n was o is none given count gives =
    given_next old new values more v is (subst (λ x. AreGiven x old values) none given) o (subst (λ k. GivesValue (Ok o) old new k v) count gives)

-- ---- one value less

drop_last : (given : List Given) (values : List ℤ) (v : ℤ) (g : Given) → given ++ g ∷ [] ≡ points (values ++ v ∷ []) → given ≡ points values
drop_last given values v g e = last_off given (points values) g (record { variable = length values; span = point v }) (e ∙ points_next values v (length values) refl)
  where
    head_is : (x y : Given) (xs ys : List Given) → (x ∷ xs) ≡ (y ∷ ys) → x ≡ y
    head_is x y xs ys e = cc

    tail_is : (x y : Given) (xs ys : List Given) → (x ∷ xs) ≡ (y ∷ ys) → xs ≡ ys
    tail_is x y xs ys e = cc

    some_end : (xs : List Given) (g x : Given) (ys : List Given) → xs ++ g ∷ [] ≡ [] → ⊥
    some_end [] g x ys e = cc
    some_end (z ∷ zs) g x ys e = cc

    last_off : (xs ys : List Given) (g h : Given) → xs ++ g ∷ [] ≡ ys ++ h ∷ [] → xs ≡ ys
    last_off [] [] g h e = refl
    last_off [] (y ∷ ys) g h e = absurd (some_end ys h g [] (sym (tail_is g y [] (ys ++ h ∷ []) e)))
    last_off (x ∷ xs) [] g h e = absurd (some_end xs g h [] (tail_is x h (xs ++ g ∷ []) [] e))
    last_off (x ∷ xs) (y ∷ ys) g h e = ap (λ zs. x ∷ zs) (last_off xs ys g h (tail_is x y (xs ++ g ∷ []) (ys ++ h ∷ []) e)) ∙ ap (λ z. z ∷ ys) (head_is x y (xs ++ g ∷ []) (ys ++ h ∷ []) e)

pub less_given : (old new : Narrowed) (values less : List ℤ) (v : ℤ) (o : Option (Vec ℕ)) → values ≡ less ++ v ∷ [] → o ≡ None → AreGiven o old values → IsTakenBack old new → AreGiven o new less
less_given old new values less v o is none given back =
    let own : old.given.items ≡ points values = subst (λ x. AreGiven x old values) none given in
    subst (λ x. AreGiven x new less) (sym none) (drop_last new.given.items less v back.last (sym back.given_is ∙ own ∙ ap points is))

-- the one that was refused stays
pub less_refused : (n : Narrowed) (values less : List ℤ) (v : ℤ) (o : Option (Vec ℕ)) → values ≡ less ++ v ∷ [] → IsThere o true → length n.given.items < length less → AreGiven o n values → AreGiven o n less
less_refused n values less v o is (places, some) below given =
    let r : IsRefused n (less ++ v ∷ []) places.items = subst (λ xs. IsRefused n xs places.items) is (subst (λ x. AreGiven x n values) some given) in
    let count = length n.given.items in
    subst (λ x. AreGiven x n less) (sym some)
    (record {
      fewer = below;
      given_is = r.given_is ∙ ap points (take_front less (v ∷ []) count (omega (arith, below)));
      reasons = subst (λ xs. AreReasons (map view n.constraints.items) (points xs) (start_of n) places.items) (take_front less (v ∷ []) (count + 1) (omega (arith, below))) r.reasons;
      within = r.within;
    })

-- or is taken back
pub none_refused : (n : Narrowed) (values less : List ℤ) (v : ℤ) (o : Option (Vec ℕ)) → values ≡ less ++ v ∷ [] → IsThere o true → length less ≤ length n.given.items → AreGiven o n values → AreGiven None n less
none_refused n values less v o is (places, some) most given =
    let r : IsRefused n (less ++ v ∷ []) places.items = subst (λ xs. IsRefused n xs places.items) is (subst (λ x. AreGiven x n values) some given) in
    let count = length n.given.items in
    let fewer = r.fewer in
    let long = length-append less (v ∷ []) in
    let all : count ≡ length less = omega (arith, most, fewer, long) in
    r.given_is ∙ ap points (take_front less (v ∷ []) count (omega (arith, all)) ∙ take_all less count all)
