-- Last lines of three numbers.
use Rattle.std.proofs.Common.{◌≡◌, ◌∙◌, ℕ, ◌≤◌, List, [], ◌∷◌, ◌++◌, ap, sym, append_assoc, decimal, arith}
use Rattle.std.specs.Prelude.{codes}
use Rattle.pst_trace_lines.specs.Forms.{AreThree, IsFault, IsTrap}

no_nothing : (x : ℕ) (xs : List ℕ) → [] ≡ x ∷ xs → ⊥
no_nothing x xs e = cc

-- what stands before one last byte
pub drop_last : (a b : List ℕ) (m : ℕ) → a ++ m ∷ [] ≡ b ++ m ∷ [] → a ≡ b
drop_last [] [] m e = ap (λ (l : List ℕ). l) cc
drop_last [] (y ∷ []) m e = let no : [] ≡ m ∷ [] = cc in absurd (no_nothing m [] no)
drop_last [] (y ∷ z ∷ b) m e = let no : [] ≡ z ∷ (b ++ m ∷ []) = cc in absurd (no_nothing z (b ++ m ∷ []) no)
drop_last (x ∷ []) [] m e = let no : [] ≡ m ∷ [] = cc in absurd (no_nothing m [] no)
drop_last (x ∷ w ∷ a) [] m e = let no : [] ≡ w ∷ (a ++ m ∷ []) = cc in absurd (no_nothing w (a ++ m ∷ []) no)
drop_last (x ∷ a) (y ∷ b) m e =
    let head : x ≡ y = cc in
    let tail : a ++ m ∷ [] ≡ b ++ m ∷ [] = cc in
    ap (λ (n : ℕ). n ∷ a) head ∙ ap (λ (l : List ℕ). y ∷ l) (drop_last a b m tail)

abbrev pub three_text : ℕ → ℕ → ℕ → List ℕ
three_text a b c = decimal a ++ 32 ∷ (decimal b ++ 32 ∷ decimal c)

pub fault_text : (a b c : ℕ) → codes "fault " ++ decimal a ++ codes " " ++ decimal b ++ codes " " ++ decimal c ≡ codes "fault " ++ three_text a b c
fault_text a b c = simp append_assoc

pub trap_text : (a b c : ℕ) → codes "trap " ++ decimal a ++ codes " " ++ decimal b ++ codes " " ++ decimal c ≡ codes "trap " ++ three_text a b c
trap_text a b c = simp append_assoc

pub fault_three : (text rest : List ℕ) (a b c : ℕ) → text ≡ codes "fault " ++ rest → IsFault text a b c → AreThree rest a b c
fault_three text rest a b c is fault =
    let whole : codes "fault " ++ rest ≡ codes "fault " ++ three_text a b c = sym is ∙ drop_last text (codes "fault " ++ decimal a ++ codes " " ++ decimal b ++ codes " " ++ decimal c) 10 fault.is ∙ fault_text a b c in
    let small = fault.of_lane in
    record { first = omega (arith, small); second = fault.of_act; third = fault.of_call; are = cc }

pub three_fault : (text rest : List ℕ) (a b c : ℕ) → text ≡ codes "fault " ++ rest → a ≤ 15 → AreThree rest a b c → IsFault text a b c
three_fault text rest a b c is low three = record {
  of_lane = low;
  of_act = three.second;
  of_call = three.third;
  is = ap (λ (t : List ℕ). t ++ 10 ∷ []) (is ∙ ap (λ (t : List ℕ). codes "fault " ++ t) three.are ∙ sym (fault_text a b c));
}

pub trap_three : (text rest : List ℕ) (a b c : ℕ) → text ≡ codes "trap " ++ rest → IsTrap text a b c → AreThree rest a b c
trap_three text rest a b c is trap =
    let whole : codes "trap " ++ rest ≡ codes "trap " ++ three_text a b c = sym is ∙ drop_last text (codes "trap " ++ decimal a ++ codes " " ++ decimal b ++ codes " " ++ decimal c) 10 trap.is ∙ trap_text a b c in
    let small = trap.of_lane in
    let low = trap.most in
    record { first = omega (arith, small); second = trap.of_act; third = omega (arith, low); are = cc }

pub three_trap : (text rest : List ℕ) (a b c : ℕ) → text ≡ codes "trap " ++ rest → a ≤ 15 → 1 ≤ c → c ≤ 3 → AreThree rest a b c → IsTrap text a b c
three_trap text rest a b c is low least most three = record {
  of_lane = low;
  of_act = three.second;
  least = least;
  most = most;
  is = ap (λ (t : List ℕ). t ++ 10 ∷ []) (is ∙ ap (λ (t : List ℕ). codes "trap " ++ t) three.are ∙ sym (trap_text a b c));
}
