-- What the next number behind locals tells.
use Rattle.std.proofs.Common.{◌≡◌, ◌≤◌, ◌<◌, ◌+◌, ◌↔◌, ℕ, zero, suc, List, [], ◌∷◌, length, Some, None, Bool, true, false, ◌&&◌, nat_eq, nat_lt, slice_get, refl, subst, sym, ◌∙◌, arith, cond, All}
use Rattle.pst_model.specs.BodyTree.{BodyStepTree}
use Rattle.pst_model.specs.ModelTree.{ActionTree, ModelTree}
use Rattle.pst_model.specs.SoundBody.{locals_of, EachBodyStep, IsSoundBodyStep, IsSoundBody}
use Rattle.pst_model.specs.Limits.{most_locals}
use Rattle.pst_sound_parts.specs.Numbered.{behind_locals}

-- locals are numbered from n on, and there are at most most_locals with those before
pub record AreLocalsFrom (n : ℕ) (ls : List ℕ) : Type 0 where
  pub few : n + length ls ≤ most_locals
  pub numbered : (k local : ℕ) → slice_get ls k ≡ Some local → local ≡ n + k

none_behind : (ls : List ℕ) → behind_locals None ls ≡ None
none_behind [] = refl
none_behind (l ∷ ls) = none_behind ls

some_same : (a b : ℕ) → Some a ≡ Some b → a ≡ b
some_same a b e = cc

passed : (l n : ℕ) → (nat_eq l n && nat_lt n 64) ≡ true → (l ≡ n) × (n < 64)
passed l n t = (grind (arith, t), grind (arith, t))

failed : (l n : ℕ) → (nat_eq l n && nat_lt n 64) ≡ false → l ≡ n → n < 64 → ⊥
failed l n t same below = grind (arith, t, same, below)

pub counted : (n : ℕ) (ls : List ℕ) (m : ℕ) → behind_locals (Some n) ls ≡ Some m → n ≤ most_locals → (m ≡ n + length ls) × AreLocalsFrom n ls
counted n [] m e small = let same = some_same n m e in (omega (arith, same), record { few = omega (arith, small); numbered = λ k local g. absurd cc })
counted n (l ∷ ls) m e small = go (nat_eq l n && nat_lt n most_locals) refl (λ p below. counted (n + 1) ls m p below)
  where
    first : (b : Bool) → (nat_eq l n && nat_lt n most_locals) ≡ b → behind_locals (cond b (Some (n + 1)) None) ls ≡ Some m
    first b t = subst (λ (c : Bool). behind_locals (cond c (Some (n + 1)) None) ls ≡ Some m) t e

    rest : (l ≡ n) → AreLocalsFrom (n + 1) ls → (k local : ℕ) → slice_get (l ∷ ls) k ≡ Some local → local ≡ n + k
    rest same more zero local g = let own = some_same l local g in omega (arith, same, own)
    rest same more (suc k) local g = let later = more.numbered k local g in omega (arith, later)

    go : (b : Bool) → (nat_eq l n && nat_lt n most_locals) ≡ b → (behind_locals (Some (n + 1)) ls ≡ Some m → n + 1 ≤ most_locals → (m ≡ (n + 1) + length ls) × AreLocalsFrom (n + 1) ls) → (m ≡ n + length (l ∷ ls)) × AreLocalsFrom n (l ∷ ls)
    go true t rec =
        let tests = passed l n t in
        let more = rec (first true t) (omega (arith, tests.1)) in
        let few = more.1.few in
        (omega (arith, more.0), record { few = omega (arith, few); numbered = rest tests.0 more.1 })
    go false t rec = let nothing = sym (none_behind ls) ∙ first false t in absurd cc

pub uncounted : (n : ℕ) (ls : List ℕ) → behind_locals (Some n) ls ≡ None → AreLocalsFrom n ls → ⊥
uncounted n [] e are = cc
uncounted n (l ∷ ls) e are = go (nat_eq l n && nat_lt n most_locals) refl (uncounted (n + 1) ls)
  where
    first : (b : Bool) → (nat_eq l n && nat_lt n most_locals) ≡ b → behind_locals (cond b (Some (n + 1)) None) ls ≡ None
    first b t = subst (λ (c : Bool). behind_locals (cond c (Some (n + 1)) None) ls ≡ None) t e

    go : (b : Bool) → (nat_eq l n && nat_lt n most_locals) ≡ b → (behind_locals (Some (n + 1)) ls ≡ None → AreLocalsFrom (n + 1) ls → ⊥) → ⊥
    go true t rec = let few = are.few in rec (first true t) record { few = omega (arith, few); numbered = λ k local g. let later = are.numbered (suc k) local g in omega (arith, later) }
    go false t rec = let few = are.few in let same = are.numbered zero l refl in failed l n t (omega (arith, same)) (omega (arith, few))

-- ---- a body

pub sound_body : (model : ModelTree) (action : ActionTree) (body : List BodyStepTree) (R : Type 0) (locals : ℕ) → behind_locals (Some 0) (locals_of body) ≡ Some locals → (R ↔ All (EachBodyStep (IsSoundBodyStep model action locals) 0) body) → (R ↔ IsSoundBody model action body)
sound_body model action body R locals e h =
    let all = counted 0 (locals_of body) locals e (omega arith) in
    let count : locals ≡ length (locals_of body) = let c = all.0 in omega (arith, c) in
    let few = all.1.few in
    let steps = subst (λ (n : ℕ). R ↔ All (EachBodyStep (IsSoundBodyStep model action n) 0) body) count h in
    (λ r. record { few = omega (arith, few); numbered = λ k local g. let n = all.1.numbered k local g in omega (arith, n); steps = steps.0 r }, λ s. steps.1 s.steps)

pub unsound_body : (model : ModelTree) (action : ActionTree) (body : List BodyStepTree) → behind_locals (Some 0) (locals_of body) ≡ None → IsSoundBody model action body → ⊥
unsound_body model action body e s = let few = s.few in uncounted 0 (locals_of body) e record { few = omega (arith, few); numbered = λ k local g. let n = s.numbered k local g in omega (arith, n) }
