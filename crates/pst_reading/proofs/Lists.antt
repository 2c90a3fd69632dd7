-- Lists of parts: what their parser explains, reads again, and gives.
use Rattle.std.proofs.Common.{◌≡◌, ℕ, zero, suc, ◌<◌, ◌≤◌, Bool, true, false, if◌then◌else◌, List, [], ◌∷◌, ◌++◌, length, drop, Some, Option, None, refl, sym, ap, subst, ◌∙◌, arith, append-nil, append_assoc, length-append}
use Rattle.std.specs.List.{flat_map, AllByRecursion}
use Rattle.std.proofs.lemmas.Grind.{flat_map-append}
use Rattle.pst_token.specs.declared.token.Token.{Token}
use Rattle.pst_ast.specs.Limits.{Count}
use Rattle.pst_ast.specs.declared.fault.SyntaxFault.{SyntaxFault}
use Rattle.pst_reading.specs.Parser.{Parser, Done, Took, followed_by, next, repeat_by}
use Rattle.pst_reading.specs.Lists.{list_step, list_by, listed}
use Rattle.pst_reading.specs.Gives.{Family, SettlesFrom, FailsFrom}
use Rattle.pst_reading.proofs.Becoming.{Becomes, becomes_on, becomes_followed}
use Rattle.pst_reading.proofs.Explaining.{Meaning, Means, Explains, Behind, LeadsBy, Leads, explains_then, explains_done, explains_row}
use Rattle.pst_reading.proofs.Marks.{turn_becomes, row_ends}
use Rattle.pst_reading.proofs.Giving.{settles_both, fails_first, done}
use Rattle.pst_reading.proofs.Looping.{Steps, Looping, loop_begins, loop_turns, loop_fails, loop_ends}

-- one more at the end
all_more : {A : Type 0} (P : A → Type 0) (xs : List A) (x : A) → AllByRecursion P xs → P x → AllByRecursion P (xs ++ x ∷ [])
all_more P [] x h p = (p, tt)
all_more P (y ∷ ys) x h p = (h.0, all_more P ys x h.1 p)

flat_more : {A B : Type 0} (f : A → List B) (xs : List A) (x : A) → flat_map f (xs ++ x ∷ []) ≡ flat_map f xs ++ f x
flat_more f xs x = flat_map-append f xs (x ∷ []) ∙ ap (λ (u : List _). flat_map f xs ++ u) (append-nil (f x))

-- ---- what they explain

module _ {A : Type 0} (spell : A → List Token) (IsProper : A → Type 0) (counts : A → List Count) (begins : Option Token → Bool) (part : Parser A) (E : Explains (Means spell IsProper counts) part) where
  abbrev AreAll : Meaning (List A)
  AreAll = Means (flat_map spell) (AllByRecursion IsProper) (flat_map counts)

  leads : Leads AreAll (list_step begins part)
  leads list front cs h ts = go (begins (next ts))
    where
      go : (b : Bool) → LeadsBy AreAll front cs ts (if b then Some (followed_by part (λ x. Done (list ++ x ∷ []))) else None)
      go false = tt
      go true =
          explains_then (Means spell IsProper counts) (Behind AreAll front cs) part (λ x. Done (list ++ x ∷ [])) E
          (λ x f1 c1 h1. explains_done (Behind (Behind AreAll front cs) f1 c1) (list ++ x ∷ [])
          (record { is = rw (append-nil, h.is, h1.is, flat_more spell list x) refl; proper = all_more IsProper list x h.proper h1.proper; counted = rw (append-nil, h.counted, h1.counted, flat_more counts list x) refl })) ts

  pub list_explains : (turns : ℕ) → Explains AreAll (list_by begins part turns)
  list_explains turns = explains_row AreAll (list_step begins part) leads turns [] [] [] (record { is = refl; proper = tt; counted = refl })

-- ---- what they read again

-- a part begins so that the list goes on, and so that what stands in front of it ends
pub record StartsPart (begins : Option Token → Bool) (Good : Option Token → Type 0) (ts : List Token) : Type 0 where
  pub found : begins (next ts) ≡ true
  pub good : Good (next ts)

module _ {A : Type 0} (spell : A → List Token) (IsProper : A → Type 0) (counts : A → List Count) (begins : Option Token → Bool) (part : Parser A) (bound : ℕ) (Good : Option Token → Type 0) (R : (x : A) (rest : List Token) → IsProper x → length (spell x) ≤ bound → Good (next rest) → Becomes part (spell x ++ rest) (counts x) (Done x) rest) (B : (x : A) (rest : List Token) → IsProper x → StartsPart begins Good (spell x ++ rest)) (some : (x : A) → 1 ≤ length (spell x)) where
  -- what stands in front of the rest ends there
  good_behind : (xs : List A) (rest : List Token) → AllByRecursion IsProper xs → Good (next rest) → Good (next (flat_map spell xs ++ rest))
  good_behind [] rest proper g = g
  good_behind (x ∷ xs) rest proper g = subst (λ (u : List Token). Good (next u)) (sym (append_assoc (spell x) (flat_map spell xs) rest)) (B x (flat_map spell xs ++ rest) proper.0).good

  behind : (xs so_far : List A) (turns : ℕ) (rest : List Token) → AllByRecursion IsProper xs → length (flat_map spell xs) < turns → length (flat_map spell xs) ≤ bound → begins (next rest) ≡ false → Good (next rest) → Becomes (repeat_by (list_step begins part) turns so_far) (flat_map spell xs ++ rest) (flat_map counts xs) (Done (so_far ++ xs)) rest
  behind xs so_far zero rest proper few short none good = absurd (omega (arith, few))
  behind [] so_far (suc turns) rest proper few short none good =
      rw (append-nil so_far) (row_ends (list_step begins part) turns so_far rest (ap (λ (b : Bool). if b then Some (followed_by part (λ x. Done (so_far ++ x ∷ []))) else None) none))
  behind (x ∷ xs) so_far (suc turns) rest proper few short none good =
      let us = flat_map spell xs ++ rest in
      let ts = spell x ++ us in
      let long = length-append (spell x) (flat_map spell xs) in
      let more = so_far ++ x ∷ [] in
      let one = turn_becomes (list_step begins part) turns so_far more (followed_by part (λ y. Done (so_far ++ y ∷ []))) ts us (counts x)
      (ap (λ (b : Bool). if b then Some (followed_by part (λ y. Done (so_far ++ y ∷ []))) else None) (B x us proper.0).found)
      (becomes_followed part (Done x) (λ y. Done (so_far ++ y ∷ [])) ts us (counts x) (R x us proper.0 (omega (arith, short, long)) (good_behind xs rest proper.1 good))) in
      let others = behind xs more turns rest proper.1 (omega (arith, few, long, some x)) (omega (arith, short, long)) none good in
      let all = becomes_on (repeat_by (list_step begins part) (suc turns) so_far) (repeat_by (list_step begins part) turns more) (Done (more ++ xs)) ts us rest (counts x) (flat_map counts xs) one others in
      subst (λ (u : List Token). Becomes (repeat_by (list_step begins part) (suc turns) so_far) u (counts x ++ flat_map counts xs) (Done (so_far ++ x ∷ xs)) rest) (sym (append_assoc (spell x) (flat_map spell xs) rest))
      (subst (λ (u : List A). Becomes (repeat_by (list_step begins part) (suc turns) so_far) ts (counts x ++ flat_map counts xs) (Done u) rest) (append_assoc so_far (x ∷ []) xs) all)

  pub list_again : (xs : List A) (turns : ℕ) (rest : List Token) → AllByRecursion IsProper xs → length (flat_map spell xs) < turns → length (flat_map spell xs) ≤ bound → begins (next rest) ≡ false → Good (next rest) → Becomes (list_by begins part turns) (flat_map spell xs ++ rest) (flat_map counts xs) (Done xs) rest
  list_again xs turns rest proper few short none good = behind xs [] turns rest proper few short none good

-- ---- what loops over them give

abbrev pub list_steps : {A : Type 0} → (Option Token → Bool) → Family A → Steps (List A)
list_steps begins part size prefixes = list_step begins (part size prefixes)

pub record ListLoop {A : Type 0} (begins : Option Token → Bool) (part : Family A) (tokens : List Token) (start from : ℕ) (list : List A) (place : ℕ) : Type 0 where
  pub loop : Looping (list_steps begins part) tokens start from [] place list
  pub behind : start < from
  pub reached : from ≤ place
  pub inside : place ≤ length tokens

module _ {A : Type 0} (begins : Option Token → Bool) (part : Family A) (tokens : List Token) (start from : ℕ) where
  pub list_begins : start < from → from ≤ length tokens → ListLoop begins part tokens start from [] from
  list_begins lt le = record { loop = loop_begins (list_steps begins part) tokens start from [] lt; behind = lt; reached = omega arith; inside = le }

  abbrev one_more : List A → Family (List A)
  one_more list m n = followed_by (part m n) (λ x. Done (list ++ x ∷ []))

  module _ (list : List A) (place : ℕ) (l : ListLoop begins part tokens start from list place) where
    pub list_turns : begins (next (drop place tokens)) ≡ true → (x : A) (after : ℕ) → SettlesFrom part tokens start place (Took x (drop after tokens)) → place < after → after ≤ length tokens → ListLoop begins part tokens start from (list ++ x ∷ []) after
    list_turns present x after h lt le = record {
      loop = loop_turns (list_steps begins part) tokens start from [] place after list (list ++ x ∷ []) (one_more list) (omega (arith, l.behind, l.reached)) l.inside
          (λ m n. ap (λ (b : Bool). if b then Some (one_more list m n) else None) present)
          (settles_both tokens start part (λ m n y. Done (list ++ y ∷ [])) place after x (Took (list ++ x ∷ []) (drop after tokens)) h (done tokens start after (list ++ x ∷ [])))
          lt l.loop;
      behind = l.behind;
      reached = omega (arith, l.reached, lt);
      inside = le;
    }

    pub list_fails : begins (next (drop place tokens)) ≡ true → (e : SyntaxFault) → FailsFrom part tokens start place e → FailsFrom (listed begins part) tokens start from e
    list_fails present e h =
        loop_fails (list_steps begins part) tokens start from [] place list (one_more list) e l.reached l.inside
        (λ m n. ap (λ (b : Bool). if b then Some (one_more list m n) else None) present)
        (fails_first tokens start part (λ m n y. Done (list ++ y ∷ [])) place e h)
        l.loop

    pub list_ends : begins (next (drop place tokens)) ≡ false → SettlesFrom (listed begins part) tokens start from (Took list (drop place tokens))
    list_ends absent =
        loop_ends (list_steps begins part) tokens start from [] place list l.inside
        (λ m n. ap (λ (b : Bool). if b then Some (one_more list m n) else None) absent)
        l.loop
