-- References that may be sources, one after another.
use Rattle.std.proofs.Common.{◌≡◌, ℕ, zero, suc, ◌+◌, ◌-◌, ◌≤◌, List, [], ◌∷◌, ◌++◌, map, length, take, Bool, true, false, if◌then◌else◌, Some, refl, sym, ap, ◌∙◌, arith, append_assoc, length-append}
use Rattle.std.specs.Prelude.{slice_get}
use Rattle.std.specs.Prelude.{flat_map}
use Rattle.std.specs.List.{enumerate_from, filter}
use Rattle.std.proofs.lemmas.List.{append-nil, map-append, take_all, take-take, take_at, length-take-le}
use Rattle.std.proofs.lemmas.List.Elements.{filter-append}
use Rattle.std.proofs.lemmas.Option.{none-some, same_Some}
use Rattle.pst_scen.specs.declared.act.Act.{Act}
use Rattle.pst_scen.specs.declared.act.Filled.{Filled}
use Rattle.pst_scen.specs.declared.act.Flow.{Flow}
use Rattle.pst_legal.specs.SupplyReading.{Spot, spots_in}
use Rattle.pst_ties.specs.declared.tied.End.{End}
use Rattle.pst_pool_sources.specs.Offers.{offers, end_of, end_if, fitting, fitting_in, fitting_from, count_in, count_from, but_last}

-- ---- without the last ones

pub but_none : (ends : List End) → but_last 0 ends ≡ ends
but_none ends = take_all (length ends - 0) ends (omega arith)

pub but_more : (m n : ℕ) (ends : List End) → but_last m (but_last n ends) ≡ but_last (n + m) ends
but_more m n ends =
    let some = length ends - n in
    let within : some ≤ length ends = omega arith in
    let long : length (take some ends) ≡ some = length-take-le some ends within in
    let less : some - m ≤ some = omega arith in
    let same : some - m ≡ length ends - (n + m) = omega arith in
    ap (λ k. take (k - m) (take some ends)) long
    ∙ take-take (some - m) some ends less
    ∙ ap (λ k. take k ends) same

pub but_appended : (n : ℕ) (xs ys : List End) → n ≡ length ys → but_last n (xs ++ ys) ≡ xs
but_appended n xs ys e =
    let l = length-append xs ys in
    let same : length xs ≡ length (xs ++ ys) - n = omega arith in
    take_at xs ys (length (xs ++ ys) - n) same

-- ---- the references of one action

module _ (need : Flow) (pool : ℕ) where
  pub fitting_more : (act number i : ℕ) (xs : List Filled) (x : Filled) → slice_get xs i ≡ Some x
      → fitting_in need pool act number (take (suc i) xs) ≡ fitting_in need pool act number (take i xs) ++ end_if (offers need pool x) (record { act = act; reference = number + i })
  fitting_more act number i [] x e = absurd (none-some x e)
  fitting_more act number zero (y ∷ ys) x e =
      let same : y ≡ x = same_Some y x e in
      let place : number ≡ number + 0 = omega arith in
      append-nil (end_if (offers need pool y) (record { act = act; reference = number }))
      ∙ ap (λ z. end_if (offers need pool z) (record { act = act; reference = number })) same
      ∙ ap (λ k. end_if (offers need pool x) (record { act = act; reference = k })) place
  fitting_more act number (suc i) (y ∷ ys) x e =
      let here = end_if (offers need pool y) (record { act = act; reference = number }) in
      let place : number + 1 + i ≡ number + suc i = omega arith in
      ap (λ l. here ++ l) (fitting_more act (number + 1) i ys x e)
      ∙ ap (λ k. here ++ (fitting_in need pool act (number + 1) (take i ys) ++ end_if (offers need pool x) (record { act = act; reference = k }))) place
      ∙ sym (append_assoc here (fitting_in need pool act (number + 1) (take i ys)) (end_if (offers need pool x) (record { act = act; reference = number + suc i })))

  length-end_if : (b : Bool) (end : End) → length (end_if b end) ≡ (if b then 1 else 0)
  length-end_if true end = refl
  length-end_if false end = refl

  pub length-fitting_in : (act number : ℕ) (xs : List Filled) → count_in need pool xs ≡ length (fitting_in need pool act number xs)
  length-fitting_in act number [] = refl
  length-fitting_in act number (x ∷ xs) =
      let end : End = record { act = act; reference = number } in
      ap (λ k. (if offers need pool x then 1 else 0) + k) (length-fitting_in act (number + 1) xs)
      ∙ ap (λ k. k + length (fitting_in need pool act (number + 1) xs)) (sym (length-end_if (offers need pool x) end))
      ∙ sym (length-append (end_if (offers need pool x) end) (fitting_in need pool act (number + 1) xs))

  pub length-fitting_from : (number : ℕ) (xs : List Act) → count_from need pool xs ≡ length (fitting_from need pool number xs)
  length-fitting_from number [] = refl
  length-fitting_from number (x ∷ xs) =
      ap (λ k. k + count_from need pool xs) (length-fitting_in number 0 x.references)
      ∙ ap (λ k. length (fitting_in need pool number 0 x.references) + k) (length-fitting_from (number + 1) xs)
      ∙ sym (length-append (fitting_in need pool number 0 x.references) (fitting_from need pool (number + 1) xs))

  -- ---- all actions

  in_is : (act number : ℕ) (xs : List Filled) → map end_of (filter (λ s. offers need pool s.filled) (map (λ e. record { act = act; reference = e.0; filled = e.1 }) (enumerate_from number xs))) ≡ fitting_in need pool act number xs
  in_is act number [] = refl
  in_is act number (x ∷ xs) = go (offers need pool x) (in_is act (number + 1) xs)
    where
      rest : List Spot
      rest = map (λ e. record { act = act; reference = e.0; filled = e.1 }) (enumerate_from (number + 1) xs)

      go : (b : Bool) → map end_of (filter (λ s. offers need pool s.filled) rest) ≡ fitting_in need pool act (number + 1) xs
          → map end_of (if b then record { act = act; reference = number; filled = x } ∷ filter (λ s. offers need pool s.filled) rest else filter (λ s. offers need pool s.filled) rest) ≡ end_if b (record { act = act; reference = number }) ++ fitting_in need pool act (number + 1) xs
      go true h = ap (λ (l : List End). record { act = act; reference = number } ∷ l) h
      go false h = h

  pub from_is : (number : ℕ) (xs : List Act) → map end_of (filter (λ s. offers need pool s.filled) (flat_map spots_in (enumerate_from number xs))) ≡ fitting_from need pool number xs
  from_is number [] = refl
  from_is number (x ∷ xs) =
      ap (map end_of) (filter-append (λ s. offers need pool s.filled) (spots_in (number, x)) (flat_map spots_in (enumerate_from (number + 1) xs)))
      ∙ map-append end_of (filter (λ s. offers need pool s.filled) (spots_in (number, x))) (filter (λ s. offers need pool s.filled) (flat_map spots_in (enumerate_from (number + 1) xs)))
      ∙ ap (λ l. l ++ map end_of (filter (λ s. offers need pool s.filled) (flat_map spots_in (enumerate_from (number + 1) xs)))) (in_is number 0 x.references)
      ∙ ap (λ l. fitting_in need pool number 0 x.references ++ l) (from_is (number + 1) xs)

  pub fitting_is : (acts : List Act) → fitting need pool acts ≡ fitting_from need pool 0 acts
  fitting_is acts = from_is 0 acts
