-- How many instructions programs have.
use Rattle.std.proofs.Common.{◌≡◌, ℕ, suc, ◌+◌, ◌*◌, ◌<◌, ◌≤◌, List, [], ◌∷◌, ◌++◌, length, map, Bool, true, false, refl, sym, ap, ◌∙◌, subst, arith, length-append}
use Rattle.std.specs.Prelude.{Contains, nat_eq, if◌then◌else◌}
use Rattle.std.proofs.Math.Nat.{mul-le-mul_left}
use Rattle.std.proofs.lemmas.Bool.{eqb-true}
use Rattle.std.proofs.lemmas.List.Sums.{sum_by-cons}
use Rattle.pst_scen.specs.Plan.{Entries}
use Rattle.pst_order.specs.Laws.{WholeHasNoClash, MembersAreThose, PlanGroupsAreWhole}
use Rattle.pst_book.proofs.Numbers.{at_most_bound}
use Rattle.pst_programs.specs.declared.program.Instruction.{Instruction}
use Rattle.pst_programs.specs.declared.program.Instruction.TheVariants.{Run, Await}
use Rattle.pst_programs.specs.declared.program.Program.{Program}
use Rattle.pst_programs.specs.Lanes.{Dealt, on_lane}
use Rattle.pst_programs.specs.Programs.{program_at, AreAwaited, SignalOf, Told, Untold, Writes, Written}
use Rattle.pst_programs.specs.Programs as text
use Rattle.pst_programs.specs.Laws.{instructions}
use Rattle.pst_static.specs.Laws.{ProgramsAreFew}
use Rattle.pst_static.proofs.Drafting.{facts, once, dealt_few}

map_long : (xs : List ℕ) → length (map Await xs) ≡ length xs
map_long [] = refl
map_long (x ∷ xs) = ap suc (map_long xs)

-- ---- one lane

module _ (p : Entries) (order : List ℕ) (dealt : Dealt) (inside : (a l : ℕ) → Contains dealt (a, l) → a < length p.groups) where
  awaited_few : (before : List Instruction) (a l : ℕ) (awaited : List ℕ) → AreAwaited p order dealt before a l awaited → length awaited ≤ length p.groups
  awaited_few before a l awaited are =
      at_most_bound {P = λ x. Contains awaited x} (length p.groups) (λ x c. let n = (are.those x).0 c in inside x n.0 n.1.needs.there)
      (record { list = awaited; different = λ i j h k e. let u = are.ascending i j h k in absurd (omega (arith, u, e)); are = λ x. ((λ c. c), (λ c. c)); many = refl })

  module _ (programs : List Program) (l : ℕ) where
    signal_few : (a : ℕ) (signal : List Instruction) → SignalOf programs l a signal → length signal ≤ 1
    signal_few a _ (Told t) = omega arith
    signal_few a _ (Untold t) = omega arith

    lane_few : (before : List Instruction) (acts : List ℕ) (whole : List Instruction) → Writes p order dealt programs l before acts whole → length whole ≤ length before + (length p.groups + 2) * length acts
    lane_few _ _ _ (Written steps) = omega arith
    lane_few _ _ _ (text.Then before whole signal a more awaited are told rest) =
        let r = lane_few (before ++ (map Await awaited ++ Run a ∷ signal)) more whole rest in
        let n = awaited_few before a l awaited are in
        let k = signal_few a signal told in
        let e : length (before ++ (map Await awaited ++ Run a ∷ signal)) ≡ length before + (length awaited + suc (length signal)) =
        length-append before (map Await awaited ++ Run a ∷ signal) ∙ ap (λ v. length before + v) (length-append (map Await awaited) (Run a ∷ signal) ∙ ap (λ v. v + suc (length signal)) (map_long awaited)) in
        omega (arith, r, n, k, e)

-- ---- all lanes

-- how many actions the lanes of the programs have, of which the first has that number
abbrev total : Dealt → List Program → ℕ → ℕ
total dealt [] i = 0
total dealt (x ∷ programs) i = length (on_lane dealt i) + total dealt programs (suc i)

none_total : (programs : List Program) (i : ℕ) → total [] programs i ≡ 0
none_total [] i = refl
none_total (x ∷ programs) i = let e = none_total programs (suc i) in omega (arith, e)

module _ (d : ℕ × ℕ) (more : Dealt) where
  past : (programs : List Program) (i : ℕ) → d.1 < i → total (d ∷ more) programs i ≡ total more programs i
  past [] i l = refl
  past (x ∷ programs) i l = let e = past programs (suc i) (omega (arith, l)) in by_test (nat_eq i d.1) refl e
    where
      by_test : (b : Bool) → nat_eq i d.1 ≡ b → total (d ∷ more) programs (suc i) ≡ total more programs (suc i)
          → length (if b then d.0 ∷ on_lane more i else on_lane more i) + total (d ∷ more) programs (suc i) ≡ length (on_lane more i) + total more programs (suc i)
      by_test true q e = let s = eqb-true i d.1 q in absurd (omega (arith, s, l))
      by_test false q e = omega (arith, e)

  one_total : (programs : List Program) (i : ℕ) → total (d ∷ more) programs i ≤ total more programs i + 1
  one_total [] i = omega arith
  one_total (x ∷ programs) i = by_test (nat_eq i d.1) refl (one_total programs (suc i))
    where
      by_test : (b : Bool) → nat_eq i d.1 ≡ b → total (d ∷ more) programs (suc i) ≤ total more programs (suc i) + 1
          → length (if b then d.0 ∷ on_lane more i else on_lane more i) + total (d ∷ more) programs (suc i) ≤ length (on_lane more i) + total more programs (suc i) + 1
      by_test true q e = let s = eqb-true i d.1 q in let k = past programs (suc i) (omega (arith, s)) in omega (arith, k)
      by_test false q e = omega (arith, e)

total_few : (dealt : Dealt) (programs : List Program) (i : ℕ) → total dealt programs i ≤ length dealt
total_few [] programs i = let e = none_total programs i in omega (arith, e)
total_few (d ∷ more) programs i = let r = total_few more programs i in let o = one_total d more programs i in omega (arith, r, o)

sum_few : (k : ℕ) (dealt : Dealt) (programs : List Program) (i : ℕ) → ((m : ℕ) → m < length programs → length (program_at programs m) ≤ k * length (on_lane dealt (i + m))) → instructions programs ≤ k * total dealt programs i
sum_few k dealt [] i each = omega arith
sum_few k dealt (x ∷ programs) i each =
    let e = sum_by-cons (λ (program : Program). length program.steps) x programs in
    let z : i + 0 ≡ i = omega arith in
    let h : length x.steps ≤ k * length (on_lane dealt i) = subst (λ v. length x.steps ≤ k * length (on_lane dealt v)) z (each 0 (omega arith)) in
    let r = sum_few k dealt programs (suc i)
    (λ m l. let q : i + suc m ≡ suc i + m = omega arith in subst (λ v. length (program_at programs m) ≤ k * length (on_lane dealt v)) q (each (suc m) (omega (arith, l)))) in
    omega (arith, e, h, r)

pub programs_few : WholeHasNoClash → MembersAreThose → PlanGroupsAreWhole → ProgramsAreFew
programs_few clash those whole s p lanes programs plan are =
    let f = facts s p plan clash those whole lanes are.order are.serial are.dealt are.deals in
    let few = dealt_few are.dealt (length p.groups) (once p lanes are.order are.serial are.dealt f) in
    let n = are.many in
    let t = total_few are.dealt programs 0 in
    let r = sum_few (length p.groups + 2) are.dealt programs 0
    (λ m l. let q : 0 + m ≡ m = omega arith in
    let w = lane_few p are.order are.dealt f.inside programs m [] (on_lane are.dealt m) (program_at programs m) (are.each m (omega (arith, l, n))) in
    let b : length (program_at programs m) ≤ (length p.groups + 2) * length (on_lane are.dealt m) = omega (arith, w) in
    subst (λ v. length (program_at programs m) ≤ (length p.groups + 2) * length (on_lane are.dealt v)) (sym q) b) in
    rising (length p.groups + 2) (total are.dealt programs 0) (length p.groups) (instructions programs) r (omega (arith, t, few))
  where
    rising : (k x n i : ℕ) → i ≤ k * x → x ≤ n → i ≤ k * n
    rising k x n i a b = let m = mul-le-mul_left k b in omega (arith, a, m)
