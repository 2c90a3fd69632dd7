-- The laws of places.
use Rattle.std.proofs.Common.{◌≡◌, ℕ, zero, suc, ◌+◌, ◌<◌, ◌≤◌, List, [], ◌∷◌, ◌++◌, length, get_or, take, Some, slice_get, refl, sym, ap, ◌∙◌, subst, inr, ⊎_elim, arith}
use Rattle.std.proofs.lemmas.List.{get_or-take, length-take-le, take_all, take_more}
use Rattle.std.proofs.lemmas.Bool.{cases_order}
use Rattle.std.proofs.lemmas.Option.{slice_get_within, slice_get-get_or}
use Rattle.pst_scen.specs.Plan.{Entries}
use Rattle.pst_order.specs.Laws.{RunningMeet}
use Rattle.pst_addr.specs.declared.ask.Ask.{Ask}
use Rattle.pst_addr.specs.declared.ask.Space.{Space}
use Rattle.pst_addr.specs.Places.{AreApart, Fits, IsPlaced, AreFirst, HasNoRoom}
use Rattle.pst_addr.specs.Laws.{PlacedAreApart, PlacesAreOne, PlacedOrNot, NoRoomIsOne, RunningActionsMeet}

pub apart : PlacedAreApart
apart p space asks places j k one other placed before is_one is_other meet =
    let inside : k < length places = let l = slice_get_within asks k other is_other in let e = placed.all in omega (arith, l, e) in
    let fits = (placed.first.each k other inside is_other).holds in
    let many = length-take-le k places (omega (arith, inside)) in
    let clear = fits.clear j one (omega (arith, before, many)) is_one meet in
    subst (λ v. AreApart (get_or places k 0) other.size v one.size) (get_or-take k places j 0 before) clear

-- two lists of places begin alike
module _ (p : Entries) (space : Space) (asks : List Ask) (one other : List ℕ) (first : AreFirst p space asks one) (second : AreFirst p space asks other) (nothing : Ask) where
  same_front : (k : ℕ) → k ≤ length one → k ≤ length other → take k one ≡ take k other
  same_front zero l m = refl
  same_front (suc k) l m =
      let before = same_front k (omega (arith, l)) (omega (arith, m)) in
      let l' : k < length one = omega (arith, l) in
      let m' : k < length other = omega (arith, m) in
      let is : slice_get asks k ≡ Some (get_or asks k nothing) = slice_get-get_or asks k nothing (let few = first.few in omega (arith, l', few)) in
      let x = first.each k (get_or asks k nothing) l' is in
      let y : IsPlaced p space asks (take k one) (get_or asks k nothing) (get_or other k 0) =
      subst (λ places. IsPlaced p space asks places (get_or asks k nothing) (get_or other k 0)) (sym before) (second.each k (get_or asks k nothing) m' is) in
      let le = x.least (get_or other k 0) y.holds in
      let ge = y.least (get_or one k 0) x.holds in
      let same : get_or one k 0 ≡ get_or other k 0 = omega (arith, le, ge) in
      let next : suc k ≡ k + 1 = omega arith in
      ap (λ n. take n one) next ∙ take_more one k 0 l' ∙ (λ i. before i ++ same i ∷ []) ∙ sym (take_more other k 0 m') ∙ ap (λ n. take n other) (sym next)

abbrev no_ask : Ask
no_ask = record { action = 0; size = 0; align = 0 }

pub one_list : PlacesAreOne
one_list p space asks one other a b =
    let x = a.all in
    let y = b.all in
    let front = same_front p space asks one other a.first b.first no_ask (length one) (omega arith) (omega (arith, x, y)) in
    sym (take_all (length one) one (omega arith)) ∙ front ∙ take_all (length one) other (omega (arith, x, y))

-- an ask without a place has none in a longer list either
module _ (p : Entries) (space : Space) (asks : List Ask) (number : ℕ) (without : HasNoRoom p space asks number) (places : List ℕ) (first : AreFirst p space asks places) where
  pub none_placed : number < length places → ⊥
  none_placed l =
      let c = without.count in
      let front = same_front p space asks without.places places without.first first no_ask (length without.places) (omega arith) (omega (arith, c, l)) in
      let same : without.places ≡ take number places = sym (take_all (length without.places) without.places (omega arith)) ∙ front ∙ ap (λ n. take n places) c in
      let fits = (first.each number without.ask l without.is).holds in
      without.none (get_or places number 0) (subst (λ v. Fits p space asks v without.ask (get_or places number 0)) (sym same) fits)

pub either : PlacedOrNot
either p space asks places number placed without =
    none_placed p space asks number without places placed.first (let l = slice_get_within asks number without.ask without.is in let e = placed.all in omega (arith, l, e))

pub no_room_one : NoRoomIsOne
no_room_one p space asks one other a b =
    ⊎_elim (λ e. e)
    (λ o. ⊎_elim (λ l. absurd (none_placed p space asks one a b.places b.first (let c = b.count in omega (arith, l, c)))) (λ l. absurd (none_placed p space asks other b a.places a.first (let c = a.count in omega (arith, l, c)))) o)
    (cases_order one other)

pub running : RunningMeet → RunningActionsMeet
running law s p lanes trace one other plan prefix one_in other_in one_runs other_runs =
    let forth = law s lanes one other trace prefix one_runs other_runs in
    let back = law s lanes other one trace prefix other_runs one_runs in
    inr (
      λ h. forth.0 ((plan.entries.must one other one_in other_in).0 h),
      λ h. back.0 ((plan.entries.must other one other_in one_in).0 h),
      λ h. forth.1 ((plan.entries.conflict one other one_in other_in).0 h),
    )
