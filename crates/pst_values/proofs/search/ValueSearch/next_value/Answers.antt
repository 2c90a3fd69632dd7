use Rattle.std.proofs.Common.{rules, ◌≡◌, ℕ, nat_lt, ◌<◌, ◌+◌, ◌++◌, ◌∷◌, [], length, map, get_or, true, Some, None, Ok, refl, sym, subst, ap, ◌∙◌, arith}
use Rattle.std.proofs.lemmas.List.{length-map, get_or_read}
use Rattle.std.proofs.lemmas.Int.{to_z-of_z}
use Rattle.std.proofs.lemmas.Bool.Decides.{nat_tests}
use mir.Val.{SFits, to_z, of_z}
use mir.Syntax.{w64}
use Rattle.pst_expr.specs.Spans.{size_of}
use Rattle.pst_expr.specs.Tree.{view}
use Rattle.pst_expr.specs.Laws.{ListsValues}
use Rattle.pst_rng.specs.Words.{start_of}
use Rattle.pst_values.specs.declared.tried.Tried.{Tried}
use Rattle.pst_values.specs.declared.tried.Level.{Level}
use Rattle.pst_values.specs.Options.{IsRun, option_at}
use Rattle.pst_narrow.specs.Watch.{IsWatch}
use Rattle.pst_narrow.specs.Narrowing.{AreOpen}
use Rattle.pst_values.specs.Solver.{bounds_at, IsBase}
use Rattle.pst_values.specs.Searched.{IsSearched}
use Rattle.pst_values.specs.Search.{Gives, Ends, domain_of}
use Rattle.pst_values.specs.Kept.{tried_of, HoldSolutions, AreLayers, AreKnown, IsKnownAt}
use Rattle.pst_values.proofs.KeptLemmas.{layers_stay, size_some, value_is, search_of, start_at, as_current, next_gives, next_ends, next_holds, back_base, back_upright, back_holds, known_stays, next_tight, open_possible}
use Rattle.pst_values.proofs.search.ValueSearch.next_value.Goals as goal

pub start-from-requires : goal.start-from-requires
start-from-requires c = let some = size_some c.index-domain.result.now c.spans.ensures.domain in omega (arith, some, c.size-size.ensures)

pub first_admitted-requires-clause-start : goal.first_admitted-requires-clause-start
first_admitted-requires-clause-start c =
    let some = size_some c.index-domain.result.now c.spans.ensures.domain in
    let n = c.size-size.ensures in
    grind (arith, c.start-from.ensures, some, n)

pub first_admitted-requires-clause-watch : goal.first_admitted-requires-clause-watch
first_admitted-requires-clause-watch c = subst (λ n. IsWatch (map view c.self.inside.solver.constraints.items) n c.self.inside.solver.watch) (sym c.self.invariant.count) c.self.invariant.watch

above : (n : ℕ) → nat_lt 0 n ≡ true → 0 < n
above n e = grind (arith, nat_tests)

pub first_admitted-requires-clause-settled : goal.first_admitted-requires-clause-settled
first_admitted-requires-clause-settled c some = (c.self.invariant.known.now c.if-not-self.false).unrefused (omega (arith, above c.len-variable.result some, c.len-variable.ensures, length-map c.self.inside.earlier.items tried_of))

pub invariant_of-self : goal.invariant_of-self
invariant_of-self c =
    let ds = c.self.inside.domains.items in
    let cs = c.self.inside.solver.constraints.items in
    let xs = c.self.inside.earlier.items in
    let x = c.self.inside.current in
    let t = c.self.inside.solver.trail in
    let a = c.self.inside.solver.bounds in
    let h = c.self.invariant in
    let u = c.first_admitted.new.self.trail in
    let b = c.first_admitted.new.self.bounds in
    let same = c.first_admitted.ensures.same in
    let watch = subst (λ k. IsWatch (map view k.items) (length ds) c.first_admitted.new.self.watch) (sym same) (subst (IsWatch (map view cs) (length ds)) (sym c.first_admitted.ensures.watch) h.watch) in
    let base : IsBase cs x.mark t u a b = c.first_admitted.ensures.searched.base in
    let w = c.undo.new.self in
    let d = c.undo.new.bounds in
    let back = back_base cs x.mark t u w a b d base c.undo.ensures.bounds c.undo.ensures.trail in
    record {
      number = h.number;
      small = h.small;
      places = h.places;
      count = back.count ∙ h.count;
      room = h.room;
      upright = back_upright cs x.mark t u a b d base c.undo.ensures.bounds;
      layers = subst (λ k. AreLayers ds k.items xs x w d) (sym same) (layers_stay ds cs xs x x t w a d refl back h.layers);
      watch = watch;
      known = subst (λ k. AreKnown ds k.items xs x w d) (sym same) (known_stays ds cs xs x x t w a d refl refl back h.layers h.known);
      tight = λ e. absurd cc;
      holds = λ there. subst (λ k. HoldSolutions ds k.items (map tried_of xs ++ x.tried ∷ []) d) (sym same) (back_holds ds cs xs x x.tried t u a b d h.layers base c.undo.ensures.bounds);
    }

pub invariant_of-self-in-Ok-None : goal.invariant_of-self-in-Ok-None
invariant_of-self-in-Ok-None c =
    let ds = c.self.inside.domains.items in
    let cs = c.self.inside.solver.constraints.items in
    let xs = c.self.inside.earlier.items in
    let x = c.self.inside.current in
    let t = c.self.inside.solver.trail in
    let a = c.self.inside.solver.bounds in
    let h = c.self.invariant in
    let u = c.first_admitted.new.self.trail in
    let b = c.first_admitted.new.self.bounds in
    let same = c.first_admitted.ensures.same in
    let watch = subst (λ k. IsWatch (map view k.items) (length ds) c.first_admitted.new.self.watch) (sym same) (subst (IsWatch (map view cs) (length ds)) (sym c.first_admitted.ensures.watch) h.watch) in
    let base : IsBase cs x.mark t u a b = c.first_admitted.ensures.searched.base in
    let w = c.undo-in-Ok-None.new.self in
    let d = c.undo-in-Ok-None.new.bounds in
    let back = back_base cs x.mark t u w a b d base c.undo-in-Ok-None.ensures.bounds c.undo-in-Ok-None.ensures.trail in
    let y : Level = record { mark = x.mark; known = x.known; tried = record { passed = c.size-size.result; value = None } } in
    record {
      number = h.number;
      small = h.small;
      places = h.places;
      count = back.count ∙ h.count;
      room = h.room;
      upright = back_upright cs x.mark t u a b d base c.undo-in-Ok-None.ensures.bounds;
      layers = subst (λ k. AreLayers ds k.items xs y w d) (sym same) (layers_stay ds cs xs x y t w a d refl back h.layers);
      watch = watch;
      known = subst (λ k. AreKnown ds k.items xs y w d) (sym same) (known_stays ds cs xs x y t w a d refl refl back h.layers h.known);
      tight = λ e. absurd cc;
      holds = λ there. absurd (there refl);
    }

pub invariant_of-self-in-Ok-Some : goal.invariant_of-self-in-Ok-Some
invariant_of-self-in-Ok-Some c =
    let ds = c.self.inside.domains.items in
    let cs = c.self.inside.solver.constraints.items in
    let xs = c.self.inside.earlier.items in
    let x = c.self.inside.current in
    let t = c.self.inside.solver.trail in
    let a = c.self.inside.solver.bounds in
    let h = c.self.invariant in
    let u = c.first_admitted.new.self.trail in
    let b = c.first_admitted.new.self.bounds in
    let same = c.first_admitted.ensures.same in
    let watch = subst (λ k. IsWatch (map view k.items) (length ds) c.first_admitted.new.self.watch) (sym same) (subst (IsWatch (map view cs) (length ds)) (sym c.first_admitted.ensures.watch) h.watch) in
    let seed = c.self.inside.seed in
    let place = c.self.inside.place in
    let here = length (map tried_of xs) in
    let i = c.len-variable.result in
    let spans = c.index-domain.result.now in
    let start = c.start-from.result in
    let e : i ≡ here = (let l = length-map xs tried_of in omega (arith, l, c.len-variable.ensures)) in
    let below : i < length ds = (let n = h.number in omega (arith, n, c.len-variable.ensures)) in
    let f : spans ≡ domain_of ds here = get_or_read ds i spans below c.index-domain.ensures [] ∙ ap (λ k. get_or ds k []) e in
    let g : start ≡ start_at ds seed place xs = c.start-from.ensures ∙ (ap (λ n. start_of seed (place + i) n) (c.size-size.ensures ∙ ap size_of f) ∙ ap (λ k. start_of seed (place + k) (size_of (domain_of ds here))) e) in
    let at = c.in-Ok-Some.at in
    let v = c.at-value.result in
    let fits : SFits w64 v = search rules in
    let v' = to_z w64 (of_z w64 v) in
    let answer : IsSearched cs x.mark i spans start x.tried.passed t u a b (Ok (Some at)) = subst (λ r. IsSearched cs x.mark i spans start x.tried.passed t u a b (Ok r)) c.in-Ok-Some.field-0-is c.in-Ok-Some.ensures.searched in
    let searched = as_current ds cs seed place xs x.mark i start x.tried.passed spans t u a b (Ok (Some at)) e f g answer in
    let run : IsRun start (size_of spans) at c.run_at.result = subst (λ n. IsRun start n at c.run_at.result) c.size-size.ensures c.run_at.ensures in
    let found : option_at (domain_of ds here) (start_at ds seed place xs) at ≡ Some v = ap (λ d. option_at d (start_at ds seed place xs) at) (sym f) ∙ (ap (λ k. option_at spans k at) (sym g) ∙ value_is spans start at c.run_at.result v run c.at-value.ensures) in
    let is : option_at (domain_of ds here) (start_at ds seed place xs) at ≡ Some v' = simp to_z-of_z found in
    let known : x.known ≡ true = c.if-not-self.false in
    let lists : ListsValues (domain_of ds here) = subst ListsValues f (c.domains_list_values.ensures spans c.spans.ensures.domain) in
    let now : Tried = record { passed = at + 1; value = Some v' } in
    let base : IsBase cs x.mark t u a b = searched.base in
    let y : Level = record { mark = x.mark; known = x.known; tried = now } in
    record {
      number = h.number;
      small = h.small;
      places = h.places;
      count = base.count ∙ h.count;
      room = h.room;
      upright = searched.upright;
      layers = subst (λ k. AreLayers ds k.items xs y u b) (sym same) (layers_stay ds cs xs x y t u a b refl base h.layers);
      watch = watch;
      known = subst (λ k. AreKnown ds k.items xs y u b) (sym same) (known_stays ds cs xs x y t u a b refl refl base h.layers h.known);
      tight = λ e. subst (λ k. IsKnownAt ds k.items (map tried_of xs ++ now ∷ []) b) (sym same) (record { tight = next_tight ds cs seed place xs x at t u a b v' lists (h.known.now known).tight searched is; unrefused = λ some. searched.finds.unrefused });
      holds = λ there. subst (λ k. HoldSolutions ds k.items (map tried_of xs ++ now ∷ []) b) (sym same) (next_holds ds cs seed place xs x at t u a b v' h.layers searched is);
    }

pub returns-in-Ok-None-clause-none : goal.returns-in-Ok-None-clause-none
returns-in-Ok-None-clause-none c done =
    let ds = c.self.inside.domains.items in
    let cs = c.self.inside.solver.constraints.items in
    let xs = c.self.inside.earlier.items in
    let x = c.self.inside.current in
    let t = c.self.inside.solver.trail in
    let a = c.self.inside.solver.bounds in
    let h = c.self.invariant in
    let u = c.first_admitted.new.self.trail in
    let b = c.first_admitted.new.self.bounds in
    let same = c.first_admitted.ensures.same in
    let watch = subst (λ k. IsWatch (map view k.items) (length ds) c.first_admitted.new.self.watch) (sym same) (subst (IsWatch (map view cs) (length ds)) (sym c.first_admitted.ensures.watch) h.watch) in
    let seed = c.self.inside.seed in
    let place = c.self.inside.place in
    let here = length (map tried_of xs) in
    let i = c.len-variable.result in
    let spans = c.index-domain.result.now in
    let start = c.start-from.result in
    let e : i ≡ here = (let l = length-map xs tried_of in omega (arith, l, c.len-variable.ensures)) in
    let below : i < length ds = (let n = h.number in omega (arith, n, c.len-variable.ensures)) in
    let f : spans ≡ domain_of ds here = get_or_read ds i spans below c.index-domain.ensures [] ∙ ap (λ k. get_or ds k []) e in
    let g : start ≡ start_at ds seed place xs = c.start-from.ensures ∙ (ap (λ n. start_of seed (place + i) n) (c.size-size.ensures ∙ ap size_of f) ∙ ap (λ k. start_of seed (place + k) (size_of (domain_of ds here))) e) in
    let answer : IsSearched cs x.mark i spans start x.tried.passed t u a b (Ok None) = subst (λ r. IsSearched cs x.mark i spans start x.tried.passed t u a b (Ok r)) c.in-Ok-None.field-0-is c.in-Ok-None.ensures.searched in
    let searched = as_current ds cs seed place xs x.mark i start x.tried.passed spans t u a b (Ok None) e f g answer in
    let now : Tried = record { passed = c.size-size.result; value = None } in
    let ends = next_ends ds cs seed place xs x t u a b c.size-size.result (c.size-size.ensures ∙ ap size_of f) h.layers searched in
    subst (λ s. Ends s (search_of ds c.first_admitted.new.self.constraints.items seed place xs now)) c.self.view_is (subst (λ k. Ends (search_of ds cs seed place xs x.tried) (search_of ds k.items seed place xs now)) (sym same) ends)

pub returns-in-Ok-Some-clause-some : goal.returns-in-Ok-Some-clause-some
returns-in-Ok-Some-clause-some c wanted equal =
    let ds = c.self.inside.domains.items in
    let cs = c.self.inside.solver.constraints.items in
    let xs = c.self.inside.earlier.items in
    let x = c.self.inside.current in
    let t = c.self.inside.solver.trail in
    let a = c.self.inside.solver.bounds in
    let h = c.self.invariant in
    let u = c.first_admitted.new.self.trail in
    let b = c.first_admitted.new.self.bounds in
    let same = c.first_admitted.ensures.same in
    let watch = subst (λ k. IsWatch (map view k.items) (length ds) c.first_admitted.new.self.watch) (sym same) (subst (IsWatch (map view cs) (length ds)) (sym c.first_admitted.ensures.watch) h.watch) in
    let seed = c.self.inside.seed in
    let place = c.self.inside.place in
    let here = length (map tried_of xs) in
    let i = c.len-variable.result in
    let spans = c.index-domain.result.now in
    let start = c.start-from.result in
    let e : i ≡ here = (let l = length-map xs tried_of in omega (arith, l, c.len-variable.ensures)) in
    let below : i < length ds = (let n = h.number in omega (arith, n, c.len-variable.ensures)) in
    let f : spans ≡ domain_of ds here = get_or_read ds i spans below c.index-domain.ensures [] ∙ ap (λ k. get_or ds k []) e in
    let g : start ≡ start_at ds seed place xs = c.start-from.ensures ∙ (ap (λ n. start_of seed (place + i) n) (c.size-size.ensures ∙ ap size_of f) ∙ ap (λ k. start_of seed (place + k) (size_of (domain_of ds here))) e) in
    let at = c.in-Ok-Some.at in
    let v = c.at-value.result in
    let fits : SFits w64 v = search rules in
    let v' = to_z w64 (of_z w64 v) in
    let answer : IsSearched cs x.mark i spans start x.tried.passed t u a b (Ok (Some at)) = subst (λ r. IsSearched cs x.mark i spans start x.tried.passed t u a b (Ok r)) c.in-Ok-Some.field-0-is c.in-Ok-Some.ensures.searched in
    let searched = as_current ds cs seed place xs x.mark i start x.tried.passed spans t u a b (Ok (Some at)) e f g answer in
    let run : IsRun start (size_of spans) at c.run_at.result = subst (λ n. IsRun start n at c.run_at.result) c.size-size.ensures c.run_at.ensures in
    let found : option_at (domain_of ds here) (start_at ds seed place xs) at ≡ Some v = ap (λ d. option_at d (start_at ds seed place xs) at) (sym f) ∙ (ap (λ k. option_at spans k at) (sym g) ∙ value_is spans start at c.run_at.result v run c.at-value.ensures) in
    let is : option_at (domain_of ds here) (start_at ds seed place xs) at ≡ Some v' = simp to_z-of_z found in
    let known : x.known ≡ true = c.if-not-self.false in
    let lists : ListsValues (domain_of ds here) = subst ListsValues f (c.domains_list_values.ensures spans c.spans.ensures.domain) in
    let now : Tried = record { passed = at + 1; value = Some v' } in
    let tight = next_tight ds cs seed place xs x at t u a b v' lists (h.known.now known).tight searched is in
    let unrefused = open_possible c.narrower_bounds_give_inner_spans.ensures c.spans_are_sane.ensures ds cs seed place xs now b (searched.base.count ∙ h.count) tight searched.finds.unrefused in
    let gives = next_gives ds cs seed place xs x at t u a b v' h.layers searched is unrefused in
    let value : v' ≡ wanted = cc in
    subst (Gives c.args.self.now (search_of ds c.first_admitted.new.self.constraints.items seed place xs now)) value
    (subst (λ s. Gives s (search_of ds c.first_admitted.new.self.constraints.items seed place xs now) v') c.self.view_is (subst (λ k. Gives (search_of ds cs seed place xs x.tried) (search_of ds k.items seed place xs now) v') (sym same) gives))
