-- What a search for values keeps from call to call.
use Rattle.std.proofs.Common.{◌≡◌, ◌⊎◌, inl, inr, ⊎_elim, ℕ, ◌+◌, ◌<◌, ◌≤◌, ℤ, ◌≤ℤ◌, pos, List, [], ◌∷◌, ◌++◌, length, map, take, drop, get_or, ◌&&◌, Bool, true, false, Option, Some, None, Result, Ok, All, IfSome, refl, sym, subst, ap, ◌∙◌, arith}
use Rattle.std.proofs.lemmas.List.{length-append, length-take-le, map-append, take_at, get_or_at, get_or_append_left, get_or_past, take-append-le, take-append-drop, drop_all, drop-append-le}
use Rattle.std.proofs.lemmas.List.Sums.{sum_by-cons}
use Rattle.std.proofs.lemmas.Bool.{cases_lt, and_parts}
use Rattle.std.proofs.lemmas.Int.{ints}
use Rattle.std.proofs.lemmas.List.Elements.{All-append, All-nil, Contains-get_or}
use Rattle.std.specs.Prelude.{Contains}
use Rattle.std.specs.Ordering.{int_eq}
use Rattle.pst_expr.specs.declared.ranges.Span.{Span}
use Rattle.pst_expr.specs.declared.tree.Expr.{Expr}
use Rattle.pst_expr.specs.Tree.{view}
use Rattle.pst_expr.specs.Value.{variable_value}
use Rattle.pst_domain.specs.Bounds.{AreUpright, AreWithin, IsInside, AreInside}
use Rattle.pst_narrow.specs.declared.trail.Former.{Former}
use Rattle.pst_narrow.specs.Trail.{put_back, AreBelow}
use Rattle.pst_narrow.specs.Narrowing.{HaveVariablesBelow, AreOpen}
use Rattle.pst_domain.specs.Interval.{interval, is_refused}
use Rattle.pst_domain.specs.Truth.{is_zero}
use Rattle.pst_domain.specs.Laws.{IsSane, NarrowerBoundsGiveInnerSpans, SpansAreSane}
use Rattle.pst_expr.specs.Tree.{Expression}
use Rattle.std.proofs.lemmas.Bool.Decides.{Decides-int_eq}
use Rattle.pst_values.specs.declared.tried.Tried.{Tried}
use Rattle.pst_values.specs.declared.tried.Level.{Level}
use Rattle.pst_values.specs.Solver.{bounds_at, IsReady, IsBase}
use Rattle.pst_values.specs.Searched.{AreBarren, IsSearched}
use Rattle.pst_values.specs.declared.options.Run.{Run}
use Rattle.pst_values.specs.Options.{option_at, IsRun, HoldsRun}
use Rattle.pst_values.specs.Search.{Search, IsOneOf, Agree, AllBarren, Gives, Ends, domain_of, IsPossible, HoldsPossible, HoldAllPossible, IsOpen}
use Rattle.pst_values.specs.Kept.{tried_of, HoldSolutions, IsLayer, AreLayers, IsHull, AreHulls, AreTight, IsKnownAt, AreKnown}
use Rattle.pst_rng.specs.Words.{start_of}
use Rattle.pst_base.specs.declared.memory.NoMemory.{NoMemory}
use Rattle.pst_expr.specs.Spans as domain
use Rattle.pst_expr.specs.Spans.{IsDomain, IsInSpan, IsInSpans, size_of, count_of}
use Rattle.pst_expr.specs.Laws.{ListsValues}
use Rattle.std.specs.Prelude.{slice_get}
use Rattle.std.proofs.lemmas.Option.{slice_get-get_or, slice_get_within, get_or_from_slice_get}
use Rattle.std.proofs.lemmas.List.{get_or_read, length_push, get_or_push}
use Rattle.pst_domain.specs.Bounds.{bound_of, Holds}
use Rattle.pst_values.proofs.SolverLemmas.{lower_bounds, at_mark}
use Rattle.pst_values.proofs.SearchLemmas.{base_then}

all_left : {X : Type 0} (P : X → Type 0) (xs ys : List X) → All P (xs ++ ys) → All P xs
all_left P xs ys h k d small = subst P (get_or_append_left xs ys d k small) (h k d (omega (arith, length-append xs ys)))

-- ---- layers below a mark stay where what is behind the mark changes

lower_ready : (cs : List Expr) (m n : ℕ) (t u : List Former) (a b : List (Option Span)) → m ≤ n → n ≤ length t → IsReady cs m t a → IsBase cs n t u a b → IsReady cs m u b
lower_ready cs m n t u a b low long h base =
    let more = base.ready.room in
    record {
      room = omega arith;
      below = subst (AreBelow (length b)) (sym (parts u more)) (All-append (λ former. former.variable < length b) (drop m (take n u)) (drop n u) first base.ready.below);
      upright = subst AreUpright (sym (lower_bounds m n t u a b low long more base.trail base.bounds)) h.upright;
      variables = subst (λ k. HaveVariablesBelow k (map view cs)) (sym base.count) h.variables;
    }
  where
    parts : (v : List Former) → n ≤ length v → drop m v ≡ drop m (take n v) ++ drop n v
    parts v fits = ap (drop m) (sym (take-append-drop n v)) ∙ drop-append-le m (take n v) (drop n v) (omega (arith, length-take-le n v fits))

    first : AreBelow (length b) (drop m (take n u))
    first = subst (λ k. AreBelow k (drop m (take n u))) (sym base.count) (subst (λ v. AreBelow (length a) (drop m v)) (sym base.trail) (all_left (λ former. former.variable < length a) (drop m (take n t)) (drop n t) (subst (AreBelow (length a)) (parts t long) h.below)))

pub layer_stays : (ds : List (List Span)) (cs : List Expr) (tried : List Tried) (m n : ℕ) (t u : List Former) (a b : List (Option Span)) → m ≤ n → n ≤ length t → IsBase cs n t u a b → IsLayer ds cs tried m t a → IsLayer ds cs tried m u b
layer_stays ds cs tried m n t u a b low long base h =
    record {
      ready = lower_ready cs m n t u a b low long h.ready base;
      holds = subst (HoldSolutions ds cs tried) (sym (lower_bounds m n t u a b low long base.ready.room base.trail base.bounds)) h.holds;
    }

pub layers_stay : (ds : List (List Span)) (cs : List Expr) (xs : List Level) (x y : Level) (t u : List Former) (a b : List (Option Span)) → y.mark ≡ x.mark → IsBase cs x.mark t u a b → AreLayers ds cs xs x t a → AreLayers ds cs xs y u b
layers_stay ds cs xs x y t u a b same base h =
    let long = h.now.ready.room in
    record {
      now = subst (λ m. IsLayer ds cs (map tried_of xs) m u b) (sym same) (layer_stays ds cs (map tried_of xs) x.mark x.mark t u a b (omega arith) long base h.now);
      before = λ i d small. layer_stays ds cs (map tried_of (take i xs)) (get_or xs i d).mark x.mark t u a b (h.rising i d small) long base (h.before i d small);
      rising = λ i d small. subst (λ m. (get_or xs i d).mark ≤ m) (sym same) (h.rising i d small);
      ordered = h.ordered;
    }

-- ---- values that agree

pub agree_first : (xs : List Tried) (x : Tried) (values : List (Option ℤ)) → Agree (xs ++ x ∷ []) values → Agree xs values
agree_first xs x values h i d small = h i d (omega (arith, length-append xs (x ∷ []))) ∙ ap (λ r. r.value) (get_or_append_left xs (x ∷ []) d i small)

pub agree_last : (xs : List Tried) (x : Tried) (values : List (Option ℤ)) → Agree (xs ++ x ∷ []) values → variable_value values (length xs) ≡ x.value
agree_last xs x values h = h (length xs) x (omega (arith, length-append xs (x ∷ []))) ∙ ap (λ r. r.value) (get_or_at xs x [] x (length xs) refl)

pub tried_last : (xs : List Level) (x : Level) → map tried_of (xs ++ x ∷ []) ≡ map tried_of xs ++ x.tried ∷ []
tried_last xs x = map-append tried_of xs (x ∷ [])

-- ---- on to the next variable

cases_last : (i n : ℕ) → i < n + 1 → (i < n) ⊎ (i ≡ n)
cases_last i n h = grind arith

pub layers_on : (ds : List (List Span)) (cs : List Expr) (xs : List Level) (x y : Level) (t : List Former) (a : List (Option Span)) → y.mark ≡ length t → AreUpright a → HoldSolutions ds cs (map tried_of xs ++ x.tried ∷ []) a → AreLayers ds cs xs x t a → AreLayers ds cs (xs ++ x ∷ []) y t a
layers_on ds cs xs x y t a end upright holds h =
    let long = length-append xs (x ∷ []) in
    let none : drop (length t) t ≡ [] = drop_all (length t) t (omega arith) in
    record {
      now = subst (λ m. IsLayer ds cs (map tried_of (xs ++ x ∷ [])) m t a) (sym end) (record {
        ready = record {
          room = omega arith;
          below = subst (AreBelow (length a)) (sym none) (All-nil (λ former. former.variable < length a));
          upright = subst (λ f. AreUpright (put_back f a)) (sym none) upright;
          variables = h.now.ready.variables;
        };
        holds = subst (λ f. HoldSolutions ds cs (map tried_of (xs ++ x ∷ [])) (put_back f a)) (sym none) (subst (λ r. HoldSolutions ds cs r a) (sym (tried_last xs x)) holds);
      });
      before = λ i d small. ⊎_elim
          (λ less.
          subst (λ l. IsLayer ds cs (map tried_of (take i (xs ++ x ∷ []))) l.mark t a) (sym (get_or_append_left xs (x ∷ []) d i less))
          (subst (λ l. IsLayer ds cs (map tried_of l) (get_or xs i d).mark t a) (sym (take-append-le i xs (x ∷ []) (omega arith))) (h.before i d less)))
          (λ last.
          subst (λ l. IsLayer ds cs (map tried_of (take i (xs ++ x ∷ []))) l.mark t a) (sym (get_or_at xs x [] d i (sym last)))
          (subst (λ l. IsLayer ds cs (map tried_of l) x.mark t a) (sym (take_at xs (x ∷ []) i (sym last))) h.now))
          (cases_last i (length xs) (omega (arith, long)));
      rising = λ i d small. ⊎_elim
          (λ less. let room = (h.before i d less).ready.room in subst (λ l. l.mark ≤ y.mark) (sym (get_or_append_left xs (x ∷ []) d i less)) (omega (arith, room, end)))
          (λ last. let room = h.now.ready.room in subst (λ l. l.mark ≤ y.mark) (sym (get_or_at xs x [] d i (sym last))) (omega (arith, room, end)))
          (cases_last i (length xs) (omega (arith, long)));
      ordered = λ i j d less small. ⊎_elim
          (λ inner. subst (λ l. (get_or (xs ++ x ∷ []) i d).mark ≤ l.mark) (sym (get_or_append_left xs (x ∷ []) d j inner)) (subst (λ l. l.mark ≤ (get_or xs j d).mark) (sym (get_or_append_left xs (x ∷ []) d i (omega arith))) (h.ordered i j d less inner)))
          (λ last. subst (λ l. (get_or (xs ++ x ∷ []) i d).mark ≤ l.mark) (sym (get_or_at xs x [] d j (sym last))) (subst (λ l. l.mark ≤ x.mark) (sym (get_or_append_left xs (x ∷ []) d i (omega arith))) (h.rising i d (omega arith))))
          (cases_last j (length xs) (omega (arith, long)));
    }

-- ---- back to the variable before

pub layers_back : (ds : List (List Span)) (cs : List Expr) (xs : List Level) (x last : Level) (t u : List Former) (a b : List (Option Span)) → IsBase cs x.mark t u a b → AreLayers ds cs (xs ++ last ∷ []) x t a → AreLayers ds cs xs last u b
layers_back ds cs xs x last t u a b base h =
    let room = h.now.ready.room in
    let long = length-append xs (last ∷ []) in
    let at = get_or_at xs last [] last (length xs) refl in
    let here : length xs < length (xs ++ last ∷ []) = omega (arith, long) in
    let low : last.mark ≤ x.mark = subst (λ l. l.mark ≤ x.mark) at (h.rising (length xs) last here) in
    record {
      now = layer_stays ds cs (map tried_of xs) last.mark x.mark t u a b low room base
          (subst (λ l. IsLayer ds cs (map tried_of l) last.mark t a) (take_at xs (last ∷ []) (length xs) refl) (subst (λ l. IsLayer ds cs (map tried_of (take (length xs) (xs ++ last ∷ []))) l.mark t a) at (h.before (length xs) last here)));
      before = λ i d small.
          let wide : i < length (xs ++ last ∷ []) = omega (arith, long) in
          let same = get_or_append_left xs (last ∷ []) d i small in
          layer_stays ds cs (map tried_of (take i xs)) (get_or xs i d).mark x.mark t u a b (subst (λ l. l.mark ≤ x.mark) same (h.rising i d wide)) room base
          (subst (λ l. IsLayer ds cs (map tried_of l) (get_or xs i d).mark t a) (take-append-le i xs (last ∷ []) (omega arith)) (subst (λ l. IsLayer ds cs (map tried_of (take i (xs ++ last ∷ []))) l.mark t a) same (h.before i d wide)));
      rising = λ i d small. subst (λ l. (get_or xs i d).mark ≤ l.mark) (get_or_at xs last [] d (length xs) refl) (subst (λ l. l.mark ≤ (get_or (xs ++ last ∷ []) (length xs) d).mark) (get_or_append_left xs (last ∷ []) d i small) (h.ordered i (length xs) d small here));
      ordered = λ i j d less small. subst (λ l. (get_or xs i d).mark ≤ l.mark) (get_or_append_left xs (last ∷ []) d j small) (subst (λ l. l.mark ≤ (get_or (xs ++ last ∷ []) j d).mark) (get_or_append_left xs (last ∷ []) d i (omega arith)) (h.ordered i j d less (omega (arith, long))));
    }

-- ---- what a search among the values of the current variable tells

pub value_is : (spans : List Span) (start place : ℕ) (run : Run) (v : ℤ) → IsRun start (size_of spans) place run → slice_get (domain.values spans) run.index ≡ Some v → option_at spans start place ≡ Some v
value_is spans start place run v is at =
    let here : place + 0 ≡ place = omega arith in
    let there : run.index + 0 ≡ run.index = omega arith in
    ap (option_at spans start) (sym here) ∙ (ap (slice_get (domain.values spans)) (is.same 0 is.some ∙ there) ∙ at)

abbrev pub search_of : List (List Span) → List Expr → ℕ → ℕ → List Level → Tried → Search
search_of ds cs seed place xs now = record { domains = ds; constraints = cs; seed = seed; place = place; earlier = map tried_of xs; current = now }

abbrev pub start_at : List (List Span) → ℕ → ℕ → List Level → ℕ
start_at ds seed place xs = start_of seed (place + length (map tried_of xs)) (size_of (domain_of ds (length (map tried_of xs))))

-- the search among the values, told of the current variable
pub as_current : (ds : List (List Span)) (cs : List Expr) (seed place : ℕ) (xs : List Level) (mark i start from : ℕ) (spans : List Span) (t u : List Former) (a b : List (Option Span)) (answer : Result (Option ℕ) NoMemory) → i ≡ length (map tried_of xs) → spans ≡ domain_of ds (length (map tried_of xs)) → start ≡ start_at ds seed place xs → IsSearched cs mark i spans start from t u a b answer → IsSearched cs mark (length (map tried_of xs)) (domain_of ds (length (map tried_of xs))) (start_at ds seed place xs) from t u a b answer
as_current ds cs seed place xs mark i start from spans t u a b answer e f g h =
    subst (λ k. IsSearched cs mark (length (map tried_of xs)) (domain_of ds (length (map tried_of xs))) k from t u a b answer) g
    (subst (λ d. IsSearched cs mark (length (map tried_of xs)) d start from t u a b answer) f
    (subst (λ k. IsSearched cs mark k spans start from t u a b answer) e h))

barren_of : (ds : List (List Span)) (cs : List Expr) (seed place : ℕ) (xs : List Level) (x : Level) (t : List Former) (a : List (Option Span)) (from to : ℕ) → AreLayers ds cs xs x t a → AreBarren cs (length (map tried_of xs)) (domain_of ds (length (map tried_of xs))) (start_at ds seed place xs) (bounds_at x.mark t a) from to → AllBarren (search_of ds cs seed place xs x.tried) from to
barren_of ds cs seed place xs x t a from to layers barren p after below v is values solution agree here =
    barren p after below v is values (layers.now.holds values solution agree) (solution.met, here)

pub next_gives : (ds : List (List Span)) (cs : List Expr) (seed place : ℕ) (xs : List Level) (x : Level) (at : ℕ) (t u : List Former) (a b : List (Option Span)) (v : ℤ) → AreLayers ds cs xs x t a → IsSearched cs x.mark (length (map tried_of xs)) (domain_of ds (length (map tried_of xs))) (start_at ds seed place xs) x.tried.passed t u a b (Ok (Some at)) → option_at (domain_of ds (length (map tried_of xs))) (start_at ds seed place xs) at ≡ Some v → IsOpen (search_of ds cs seed place xs (record { passed = at + 1; value = Some v })) → Gives (search_of ds cs seed place xs x.tried) (search_of ds cs seed place xs (record { passed = at + 1; value = Some v })) v
next_gives ds cs seed place xs x at t u a b v layers searched is unrefused =
    let found = searched.finds in
    record { at = at; after = found.after; below = found.below; is = is; skipped = barren_of ds cs seed place xs x t a x.tried.passed at layers found.barren; unrefused = unrefused; new_is = refl }

pub next_ends : (ds : List (List Span)) (cs : List Expr) (seed place : ℕ) (xs : List Level) (x : Level) (t u : List Former) (a b : List (Option Span)) (size : ℕ) → size ≡ size_of (domain_of ds (length (map tried_of xs))) → AreLayers ds cs xs x t a → IsSearched cs x.mark (length (map tried_of xs)) (domain_of ds (length (map tried_of xs))) (start_at ds seed place xs) x.tried.passed t u a b (Ok None) → Ends (search_of ds cs seed place xs x.tried) (search_of ds cs seed place xs (record { passed = size; value = None }))
next_ends ds cs seed place xs x t u a b size e layers searched =
    record {
      barren = barren_of ds cs seed place xs x t a x.tried.passed (size_of (domain_of ds (length (map tried_of xs)))) layers searched.finds;
      new_is = ap (λ n. search_of ds cs seed place xs (record { passed = n; value = None })) e;
    }

pub next_holds : (ds : List (List Span)) (cs : List Expr) (seed place : ℕ) (xs : List Level) (x : Level) (at : ℕ) (t u : List Former) (a b : List (Option Span)) (v : ℤ) → AreLayers ds cs xs x t a → IsSearched cs x.mark (length (map tried_of xs)) (domain_of ds (length (map tried_of xs))) (start_at ds seed place xs) x.tried.passed t u a b (Ok (Some at)) → option_at (domain_of ds (length (map tried_of xs))) (start_at ds seed place xs) at ≡ Some v → HoldSolutions ds cs (map tried_of xs ++ record { passed = at + 1; value = Some v } ∷ []) b
next_holds ds cs seed place xs x at t u a b v layers searched is values solution agree =
    let found = searched.finds in
    let now : Tried = record { passed = at + 1; value = Some v } in
    found.keeps v is values (layers.now.holds values solution (agree_first (map tried_of xs) now values agree)) (solution.met, agree_last (map tried_of xs) now values agree)

-- back at the mark behind a search
pub back_base : (cs : List Expr) (n : ℕ) (t u w : List Former) (a b c : List (Option Span)) → IsBase cs n t u a b → c ≡ put_back (drop n u) b → w ≡ take n u → IsBase cs n t w a c
back_base cs n t u w a b c h back taken = base_then cs n t u w a b c h (at_mark cs n u w b c h.ready back taken)

pub back_upright : (cs : List Expr) (n : ℕ) (t u : List Former) (a b c : List (Option Span)) → IsBase cs n t u a b → c ≡ put_back (drop n u) b → AreUpright c
back_upright cs n t u a b c h back = subst AreUpright (sym back) h.ready.upright

pub back_holds : (ds : List (List Span)) (cs : List Expr) (xs : List Level) (x : Level) (now : Tried) (t u : List Former) (a b c : List (Option Span)) → AreLayers ds cs xs x t a → IsBase cs x.mark t u a b → c ≡ put_back (drop x.mark u) b → HoldSolutions ds cs (map tried_of xs ++ now ∷ []) c
back_holds ds cs xs x now t u a b c layers h back values solution agree =
    subst (λ y. AreWithin y values) (sym (back ∙ h.bounds)) (layers.now.holds values solution (agree_first (map tried_of xs) now values agree))

-- ---- the start

pub size_some : (spans : List Span) → IsDomain spans → 0 < size_of spans
size_some [] h = absurd (h.some refl)
size_some (x ∷ xs) h = let c : size_of (x ∷ xs) ≡ count_of x + size_of xs = sum_by-cons count_of x xs in omega (arith, c)

listed : (spans : List Span) (i : ℕ) (v : ℤ) → ListsValues spans → slice_get (domain.values spans) i ≡ Some v → IsInSpans v spans
listed spans i v lists at =
    (lists.exactly v).0 (subst (Contains (domain.values spans)) (get_or_from_slice_get (domain.values spans) i v v at) (Contains-get_or (domain.values spans) i v (slice_get_within (domain.values spans) i v at)))

pub hull_of : (spans : List Span) (s : Span) (last : ℕ) → ListsValues spans → s.low ≤ℤ s.high → HoldsRun spans 0 (size_of spans) s → slice_get (domain.values spans) 0 ≡ Some s.low → slice_get (domain.values spans) last ≡ Some s.high → IsHull spans (Some s)
hull_of spans s last lists order holds low high = (
  order,
  λ v in'.
      let at = (lists.exactly v).1 in' in
      let count = lists.count in
      holds at.0 (omega (arith, count, at.1)) v (ap (slice_get (domain.values spans)) (let z : 0 + at.0 ≡ at.0 = omega arith in z) ∙ (slice_get-get_or (domain.values spans) at.0 v at.1 ∙ ap (λ x. Some x) at.2)),
  listed spans 0 s.low lists low,
  listed spans last s.high lists high,
)

pub no_hulls : (ds : List (List Span)) → AreHulls ds 0 []
no_hulls ds = record { count = refl; each = λ i d e small. absurd (omega arith) }

pub more_hulls : (ds : List (List Span)) (n : ℕ) (bs : List (Option Span)) (x : List Span) (b : Option Span) → n < length ds → x ≡ get_or ds n x → IsHull x b → AreHulls ds n bs → AreHulls ds (n + 1) (bs ++ b ∷ [])
more_hulls ds n bs x b below is hull h =
    record {
      count = length_push bs b ∙ ap (λ k. k + 1) h.count;
      each = λ i d e small. ⊎_elim
          (λ less. subst (IsHull (get_or ds i d)) (sym (get_or_append_left bs (b ∷ []) e i (let c = h.count in omega (arith, c)))) (h.each i d e less))
          (λ last.
          let there : get_or (bs ++ b ∷ []) i e ≡ b = get_or_push bs b e i (h.count ∙ sym last) in
          let here : get_or ds i d ≡ x = ap (λ k. get_or ds k d) last ∙ sym (get_or_read ds n x below is d) in
          subst (IsHull (get_or ds i d)) (sym there) (subst (λ y. IsHull y b) (sym here) hull))
          (cases_last i n small);
    }

hull_upright : (d : List Span) (b : Option Span) → IsHull d b → IfSome b (λ s. s.low ≤ℤ s.high)
hull_upright d None h = tt
hull_upright d (Some s) h = h.0

hull_holds : (d : List Span) (b : Option Span) (v : Option ℤ) → IsHull d b → IsOneOf d v → Holds b v
hull_holds d None v h k = absurd h
hull_holds d (Some s) None h k = tt
hull_holds d (Some s) (Some x) h k = h.1 x k

pub hulls_upright : (ds : List (List Span)) (bs : List (Option Span)) → AreHulls ds (length ds) bs → AreUpright bs
hulls_upright ds bs h k d small = hull_upright (get_or ds k []) (get_or bs k d) (h.each k [] d (let c = h.count in omega (arith, c)))

pub first_layers : (ds : List (List Span)) (cs : List Expr) (x : Level) (bs : List (Option Span)) → x.mark ≡ 0 → HaveVariablesBelow (length ds) (map view cs) → AreHulls ds (length ds) bs → AreLayers ds cs [] x [] bs
first_layers ds cs x bs start variables h =
    record {
      now = subst (λ m. IsLayer ds cs [] m [] bs) (sym start) (record {
        ready = record {
          room = omega arith;
          below = All-nil (λ former. former.variable < length bs);
          upright = hulls_upright ds bs h;
          variables = subst (λ n. HaveVariablesBelow n (map view cs)) (sym h.count) variables;
        };
        holds = λ values solution agree i small.
            let inside : i < length ds = (let c = h.count in omega (arith, c)) in
            hull_holds (domain_of ds i) (bound_of bs i) (variable_value values i) (h.each i [] None inside) (solution.each i inside);
      });
      before = λ i d small. absurd (omega arith);
      rising = λ i d small. absurd (omega arith);
      ordered = λ i j d less small. absurd (omega arith);
    }

-- ---- no more than the values that variables may have

hull_tight : (d : List Span) (b outer : Option Span) → IsHull d b → ((v : ℤ) → IsInSpans v d → Holds outer (Some v)) → IsInside b outer
hull_tight d None outer h k = tt
hull_tight d (Some s) None h k = absurd (k s.low h.2)
hull_tight d (Some s) (Some t) h k = ((k s.low h.2).0, (k s.high h.3).1)

pub first_known : (ds : List (List Span)) (cs : List Expr) (x : Level) (bs : List (Option Span)) → x.mark ≡ 0 → AreHulls ds (length ds) bs → AreKnown ds cs [] x [] bs
first_known ds cs x bs start h =
    record {
      now = λ k. subst (λ m. IsKnownAt ds cs [] (bounds_at m [] bs)) (sym start) (record { tight = λ i small outer holds. hull_tight (domain_of ds i) (bound_of bs i) outer (h.each i [] None small) (λ v in'. holds v (record { one = in'; given = λ d less. absurd (omega arith) })); unrefused = λ some. absurd (omega arith) });
      before = λ i d small. absurd (omega arith);
    }

pub known_stays : (ds : List (List Span)) (cs : List Expr) (xs : List Level) (x y : Level) (t u : List Former) (a b : List (Option Span)) → y.mark ≡ x.mark → y.known ≡ x.known → IsBase cs x.mark t u a b → AreLayers ds cs xs x t a → AreKnown ds cs xs x t a → AreKnown ds cs xs y u b
known_stays ds cs xs x y t u a b same known base layers h =
    let long = layers.now.ready.room in
    record {
      now = λ k. subst (IsKnownAt ds cs (map tried_of xs)) (sym (ap (λ m. bounds_at m u b) same ∙ base.bounds)) (h.now (sym known ∙ k));
      before = λ i d small k. subst (IsKnownAt ds cs (map tried_of (take i xs))) (sym (lower_bounds (get_or xs i d).mark x.mark t u a b (layers.rising i d small) long base.ready.room base.trail base.bounds)) (h.before i d small k);
    }

pub known_on : (ds : List (List Span)) (cs : List Expr) (xs : List Level) (x y : Level) (t : List Former) (a : List (Option Span)) → y.mark ≡ length t → (y.known ≡ true → IsKnownAt ds cs (map tried_of xs ++ x.tried ∷ []) a) → AreKnown ds cs xs x t a → AreKnown ds cs (xs ++ x ∷ []) y t a
known_on ds cs xs x y t a end tight h =
    let long = length-append xs (x ∷ []) in
    let none : drop (length t) t ≡ [] = drop_all (length t) t (omega arith) in
    record {
      now = λ k. subst (λ m. IsKnownAt ds cs (map tried_of (xs ++ x ∷ [])) (bounds_at m t a)) (sym end) (subst (λ f. IsKnownAt ds cs (map tried_of (xs ++ x ∷ [])) (put_back f a)) (sym none) (subst (λ r. IsKnownAt ds cs r a) (sym (tried_last xs x)) (tight k)));
      before = λ i d small k. ⊎_elim
          (λ less.
          let same = get_or_append_left xs (x ∷ []) d i less in
          subst (λ l. IsKnownAt ds cs (map tried_of (take i (xs ++ x ∷ []))) (bounds_at l.mark t a)) (sym same)
          (subst (λ l. IsKnownAt ds cs (map tried_of l) (bounds_at (get_or xs i d).mark t a)) (sym (take-append-le i xs (x ∷ []) (omega arith))) (h.before i d less (ap (λ l. l.known) (sym same) ∙ k))))
          (λ last.
          let same = get_or_at xs x [] d i (sym last) in
          subst (λ l. IsKnownAt ds cs (map tried_of (take i (xs ++ x ∷ []))) (bounds_at l.mark t a)) (sym same)
          (subst (λ l. IsKnownAt ds cs (map tried_of l) (bounds_at x.mark t a)) (sym (take_at xs (x ∷ []) i (sym last))) (h.now (ap (λ l. l.known) (sym same) ∙ k))))
          (cases_last i (length xs) (omega (arith, long)));
    }

pub known_back : (ds : List (List Span)) (cs : List Expr) (xs : List Level) (x last : Level) (t u : List Former) (a b : List (Option Span)) → IsBase cs x.mark t u a b → AreLayers ds cs (xs ++ last ∷ []) x t a → AreKnown ds cs (xs ++ last ∷ []) x t a → AreKnown ds cs xs last u b
known_back ds cs xs x last t u a b base layers h =
    let room = layers.now.ready.room in
    let long = length-append xs (last ∷ []) in
    let at = get_or_at xs last [] last (length xs) refl in
    let here : length xs < length (xs ++ last ∷ []) = omega (arith, long) in
    let low : last.mark ≤ x.mark = subst (λ l. l.mark ≤ x.mark) at (layers.rising (length xs) last here) in
    record {
      now = λ k. subst (IsKnownAt ds cs (map tried_of xs)) (sym (lower_bounds last.mark x.mark t u a b low room base.ready.room base.trail base.bounds))
          (subst (λ l. IsKnownAt ds cs (map tried_of l) (bounds_at last.mark t a)) (take_at xs (last ∷ []) (length xs) refl) (subst (λ l. IsKnownAt ds cs (map tried_of (take (length xs) (xs ++ last ∷ []))) (bounds_at l.mark t a)) at (h.before (length xs) last here (ap (λ l. l.known) at ∙ k))));
      before = λ i d small k.
          let wide : i < length (xs ++ last ∷ []) = omega (arith, long) in
          let same = get_or_append_left xs (last ∷ []) d i small in
          subst (IsKnownAt ds cs (map tried_of (take i xs))) (sym (lower_bounds (get_or xs i d).mark x.mark t u a b (subst (λ l. l.mark ≤ x.mark) same (layers.rising i d wide)) room base.ready.room base.trail base.bounds))
          (subst (λ l. IsKnownAt ds cs (map tried_of l) (bounds_at (get_or xs i d).mark t a)) (take-append-le i xs (last ∷ []) (omega arith)) (subst (λ l. IsKnownAt ds cs (map tried_of (take i (xs ++ last ∷ []))) (bounds_at l.mark t a)) same (h.before i d wide (ap (λ l. l.known) same ∙ k))));
    }

possible_more : (ds : List (List Span)) (xs : List Tried) (x : Tried) (j : ℕ) (v : ℤ) → (j ≡ length xs → ⊥) → IsPossible ds xs j v → IsPossible ds (xs ++ x ∷ []) j v
possible_more ds xs x j v other h =
    record {
      one = h.one;
      given = λ d small. ⊎_elim
          (λ less. ap (λ r. r.value) (get_or_append_left xs (x ∷ []) d j less) ∙ h.given d less)
          (λ last. absurd (other last))
          (cases_last j (length xs) (omega (arith, length-append xs (x ∷ []))));
    }

possible_last : (ds : List (List Span)) (xs : List Tried) (x : Tried) (v : ℤ) → x.value ≡ Some v → IsInSpans v (domain_of ds (length xs)) → IsPossible ds (xs ++ x ∷ []) (length xs) v
possible_last ds xs x v e in' =
    record { one = in'; given = λ d small. ap (λ r. r.value) (get_or_at xs x [] d (length xs) refl) ∙ e }

inside_trans : (a b c : Option Span) → IsInside a b → IsInside b c → IsInside a c
inside_trans None b c h k = tt
inside_trans (Some s) None c h k = absurd h
inside_trans (Some s) (Some t) None h k = absurd k
inside_trans (Some s) (Some t) (Some u) h k = (omega (arith, ints, h.0, k.0), omega (arith, ints, h.1, k.1))

point_inside : (v : ℤ) (outer : Option Span) → Holds outer (Some v) → IsInside (Some (record { low = v; high = v })) outer
point_inside v None h = absurd h
point_inside v (Some t) h = (h.0, h.1)

same_or_other : (i j : ℕ) → (j ≡ i) ⊎ (j ≡ i → ⊥)
same_or_other i j = grind arith

pub next_tight : (ds : List (List Span)) (cs : List Expr) (seed place : ℕ) (xs : List Level) (x : Level) (at : ℕ) (t u : List Former) (a b : List (Option Span)) (v : ℤ) → ListsValues (domain_of ds (length (map tried_of xs))) → AreTight ds (map tried_of xs) (bounds_at x.mark t a) → IsSearched cs x.mark (length (map tried_of xs)) (domain_of ds (length (map tried_of xs))) (start_at ds seed place xs) x.tried.passed t u a b (Ok (Some at)) → option_at (domain_of ds (length (map tried_of xs))) (start_at ds seed place xs) at ≡ Some v → AreTight ds (map tried_of xs ++ record { passed = at + 1; value = Some v } ∷ []) b
next_tight ds cs seed place xs x at t u a b v lists tight searched is i small outer holds =
    let found = searched.finds in
    let here = length (map tried_of xs) in
    let now : Tried = record { passed = at + 1; value = Some v } in
    let in' : IsInSpans v (domain_of ds here) = listed (domain_of ds here) _ v lists is in
    elim (same_or_other here i) [
      | inl e ↦ subst (λ k. IsInside (bound_of b k) outer) (sym e)
          (inside_trans (bound_of b here) (Some (record { low = v; high = v })) outer (found.here v is)
          (point_inside v outer (subst (λ k. HoldsPossible ds (map tried_of xs ++ now ∷ []) k outer) e holds v (possible_last ds (map tried_of xs) now v refl in'))))
      | inr n ↦ inside_trans (bound_of b i) (bound_of (bounds_at x.mark t a) i) outer (found.others i n)
          (tight i small outer (λ w p. holds w (possible_more ds (map tried_of xs) now i w n p)))
    ]

inside_possible : (ds : List (List Span)) (tried : List Tried) (b outer : List (Option Span)) → length b ≡ length ds → AreTight ds tried b → HoldAllPossible ds tried outer → AreInside b outer
inside_possible ds tried b outer count tight holds j =
    ⊎_elim
    (λ less. tight j less (bound_of outer j) (holds j less))
    (λ past. subst (λ r. IsInside r (bound_of outer j)) (sym (get_or_past b j None (omega (arith, count, past)))) tt)
    (cases_lt j (length ds))

by_zero : (a : ℤ) → int_eq a (pos 0) ≡ true → a ≡ pos 0
by_zero a e = (Decides-int_eq a (pos 0)).0 e

zero_test : (a : ℤ) → a ≡ pos 0 → int_eq a (pos 0) ≡ true
zero_test a e = (Decides-int_eq a (pos 0)).1 e

and_true : (a b : Bool) → a ≡ true → b ≡ true → (a && b) ≡ true
and_true true true e f = refl
and_true true false e f = absurd cc
and_true false b e f = absurd cc

-- a span of 0 alone has no other inside it
zero_inside : (s t : Span) → s.low ≤ℤ s.high → t.low ≤ℤ s.low → s.high ≤ℤ t.high → is_zero t ≡ true → is_zero s ≡ true
zero_inside s t order low high zero =
    let parts = and_parts (int_eq t.low (pos 0)) (int_eq t.high (pos 0)) zero in
    let e = by_zero t.low parts.0 in
    let f = by_zero t.high parts.1 in
    let g : s.low ≡ pos 0 = omega (arith, ints, order, low, high, e, f) in
    let k : s.high ≡ pos 0 = omega (arith, ints, order, low, high, e, f) in
    and_true (int_eq s.low (pos 0)) (int_eq s.high (pos 0)) (zero_test s.low g) (zero_test s.high k)

open_wider : (r q : Option Span) → IfSome r IsSane → IsInside r q → is_refused r ≡ false → is_refused q ≡ false
open_wider None q sane inside kept = absurd cc
open_wider (Some s) None sane inside kept = absurd inside
open_wider (Some s) (Some t) sane inside kept = go (is_zero t) refl
  where
    go : (z : Bool) → is_zero t ≡ z → z ≡ false
    go true e = absurd (let k = zero_inside s t sane.upright inside.0 inside.1 e in cc)
    go false e = refl

pub open_possible : NarrowerBoundsGiveInnerSpans → SpansAreSane → (ds : List (List Span)) (cs : List Expr) (seed place : ℕ) (xs : List Level) (now : Tried) (b : List (Option Span)) → length b ≡ length ds → AreTight ds (map tried_of xs ++ now ∷ []) b → AreOpen (map view cs) b → IsOpen (search_of ds cs seed place xs now)
open_possible narrower sane ds cs seed place xs now b count tight unrefused outer holds k d small =
    let e : Expression = get_or (map view cs) k d in
    open_wider (interval e b) (interval e outer) (sane e b) (narrower e b outer (inside_possible ds (map tried_of xs ++ now ∷ []) b outer count tight holds)) (unrefused k d small)
