-- From the laws of a rule's parsers to what the proper trees of the rule spell; what the parsers take counts so towards the limits.
use Rattle.std.proofs.Common.{◌≡◌, ℕ, zero, suc, ◌+◌, ◌-◌, ◌<◌, ◌≤◌, List, [], ◌∷◌, ◌++◌, length, take, drop, Bool, true, false, Some, None, Option, ◌⊎◌, inl, inr, refl, sym, ap, subst, ◌∙◌, arith, append_assoc, append-nil, length-append}
use Rattle.std.proofs.lemmas.List.{nil_from_length, append_cancel_right, take-append-le, take-append-drop}
use Rattle.std.proofs.Math.Seq.{take-append_seam}
use Rattle.pst_token.specs.declared.token.Token.{Token}
use Rattle.pst_ast.specs.Limits.{Count, is_over, first_over}
use Rattle.pst_ast.specs.Rule.{Rule}
use Rattle.pst_ast.specs.TreeOf.{TreeOf}
use Rattle.pst_ast.specs.SpellOf.{spell_of}
use Rattle.pst_ast.specs.ProperOf.{IsProperOf}
use Rattle.pst_ast.specs.CountsOf.{counts_of}
use Rattle.pst_ast.specs.Viable.{IsViable}
use Rattle.pst_ast.specs.Laws.{AtMostOneTree}
use Rattle.pst_reading.specs.Parser.{Parser, Done, Outcome, Took, Refused, TooDeep, Unread, next, run, read, counts_taken}
use Rattle.pst_reading.proofs.Becoming.{Becomes}
use Rattle.pst_reading.proofs.Explaining.{Meaning, Means, Begins, Explains, Explained, Taken, Begun}
use Rattle.pst_reading.proofs.States.{State, state, Rests, rests_took, rests_refused}
use Rattle.pst_reading.proofs.Counted.{rest_of, all_counted, over_inside, over_front, over_more, none_front}

module _ (rule : Rule) (counts : TreeOf rule → List Count) (F : ℕ → Parser (TreeOf rule)) (E : (n : ℕ) → Explains (Means (spell_of rule) (IsProperOf rule) counts) (F n)) (Stops : TreeOf rule → Option Token → Type 0) (again : (n : ℕ) (tree : TreeOf rule) (rest : List Token) → IsProperOf rule tree → length (spell_of rule tree) < n → Stops tree (next rest) → Becomes (F n) (spell_of rule tree ++ rest) (counts tree) (Done tree) rest) (ends : (tree : TreeOf rule) → IsProperOf rule tree → Stops tree None) (decide : (tree : TreeOf rule) (t : Token) → IsProperOf rule tree → Stops tree (Some t) ⊎ IsViable rule (spell_of rule tree ++ t ∷ [])) where
  abbrev M : Meaning (TreeOf rule)
  M = Means (spell_of rule) (IsProperOf rule) (counts)

  -- the text of a proper tree is read as it
  whole_read : (n : ℕ) (tree : TreeOf rule) → IsProperOf rule tree → length (spell_of rule tree) < n → (read (F n) (spell_of rule tree) ≡ Took tree []) × (counts_taken (F n) (spell_of rule tree) ≡ counts tree)
  whole_read n tree proper short =
      let h = again n tree [] proper short (ends tree proper) in
      let e = append-nil (spell_of rule tree) in
      (subst (λ (u : List Token). read (F n) u ≡ Took tree []) e h.outcome, subst (λ (u : List Token). counts_taken (F n) u ≡ counts tree) e (h.taken ∙ append-nil (counts tree)))

  value_of : Outcome (TreeOf rule) → TreeOf rule → TreeOf rule
  value_of (Took a rest) b = a
  value_of _ b = b

  pub one_tree_by : AtMostOneTree rule
  unfolding value_of
  one_tree_by a b p q e =
      let n = suc (length (spell_of rule a)) in
      let x = whole_read n a p (omega arith) in
      let y = whole_read n b q (omega (arith, ap length e)) in
      let y' = subst (λ (u : List Token). read (F n) u ≡ Took b []) (sym e) y.0 in
      ap (λ (o : Outcome (TreeOf rule)). value_of o a) (sym x.0 ∙ y')

  -- what took a front takes it before any other rest
  front_taken : (n : ℕ) (front rest : List Token) → length (rest_of (read (F n) (front ++ rest))) ≤ length rest → State (F n) front
  front_taken n front rest le = state (F n) front rest (omega (arith, le, all_counted (F n) (front ++ rest), length-append front rest))

  -- nothing more is taken where the outcome leaves just the rest
  nothing_more : (n : ℕ) (front rest : List Token) (s : State (F n) front) → rest_of (read (F n) (front ++ rest)) ≡ rest → counts_taken s.parser rest ≡ []
  nothing_more n front rest s e =
      let h = s.reaches rest in
      let total = all_counted (F n) (front ++ rest) in
      nil_from_length (counts_taken s.parser rest) (omega (arith, total, ap length e, length-append front rest, ap length h.taken, length-append s.counts (counts_taken s.parser rest), s.as_long))

  -- a tree that goes on behind the front is read as what the front was read as
  module _ (front : List Token) (t : Token) (rest : List Token) where
    abbrev ts : List Token
    ts = front ++ t ∷ rest

    viable_tree : IsViable rule (front ++ t ∷ []) → ℕ
    viable_tree v = suc (length ts + length (spell_of rule v.0))

    text_is : (v : IsViable rule (front ++ t ∷ [])) → spell_of rule v.0 ≡ front ++ t ∷ v.1
    text_is v = v.3 ∙ append_assoc front (t ∷ []) v.1

    pub taken_longest : (a : TreeOf rule) → ((n : ℕ) → length ts < n → read (F n) ts ≡ Took a (t ∷ rest)) → IsViable rule (front ++ t ∷ []) → ⊥
    taken_longest a h v =
        let n = suc (length ts + length (spell_of rule v.0)) in
        let o = h n (omega arith) in
        let left : rest_of (read (F n) ts) ≡ t ∷ rest = ap rest_of o in
        let s = front_taken n front (t ∷ rest) (omega (arith, ap length left)) in
        let r = rests_took s.parser t rest a (nothing_more n front (t ∷ rest) s left) (sym (s.reaches (t ∷ rest)).outcome ∙ o) in
        let again_read : read (F n) (front ++ t ∷ v.1) ≡ Took a (t ∷ v.1) = (s.reaches (t ∷ v.1)).outcome ∙ r.always v.1 in
        let w = whole_read n v.0 v.2 (omega arith) in
        let clash = sym again_read ∙ ap (read (F n)) (sym (text_is v)) ∙ w.0 in
        absurd (omega (arith, ap (λ (x : Outcome (TreeOf rule)). length (rest_of x)) clash))

    pub refused_longest : ((n : ℕ) → length ts < n → read (F n) ts ≡ Refused (t ∷ rest)) → IsViable rule (front ++ t ∷ []) → ⊥
    refused_longest h v =
        let n = suc (length ts + length (spell_of rule v.0)) in
        let o = h n (omega arith) in
        let left : rest_of (read (F n) ts) ≡ t ∷ rest = ap rest_of o in
        let s = front_taken n front (t ∷ rest) (omega (arith, ap length left)) in
        let r = rests_refused s.parser t rest (nothing_more n front (t ∷ rest) s left) (sym (s.reaches (t ∷ rest)).outcome ∙ o) in
        let again_read : read (F n) (front ++ t ∷ v.1) ≡ Refused (t ∷ v.1) = (s.reaches (t ∷ v.1)).outcome ∙ r.always v.1 in
        let w = whole_read n v.0 v.2 (omega arith) in
        let clash = sym again_read ∙ ap (read (F n)) (sym (text_is v)) ∙ w.0 in
        absurd (omega (arith, ap (λ (x : Outcome (TreeOf rule)). length (rest_of x)) clash))

    -- the front is no whole tree
    pub unfinished : ((n : ℕ) → length ts < n → read (F n) ts ≡ Refused (t ∷ rest)) → (tree : TreeOf rule) → IsProperOf rule tree → spell_of rule tree ≡ front → ⊥
    unfinished h tree proper e = go (decide tree t proper)
      where
        go : Stops tree (Some t) ⊎ IsViable rule (spell_of rule tree ++ t ∷ []) → ⊥
        go (inl s) =
            let n = suc (length ts) in
            let o = h n (omega arith) in
            let k = again n tree (t ∷ rest) proper (omega (arith, ap length e, length-append front (t ∷ rest))) s in
            let k' = subst (λ (u : List Token). read (F n) (u ++ t ∷ rest) ≡ Took tree (t ∷ rest)) e k.outcome in
            absurd (clash (sym o ∙ k'))
          where
            clash : Refused (t ∷ rest) ≡ Took tree (t ∷ rest) → ⊥
            clash f = cc
        go (inr v) = refused_longest h (subst (λ (u : List Token). IsViable rule (u ++ t ∷ [])) e v)

    -- in every tree that goes on behind the front the front keeps the limits
    pub front_keeps : ((n : ℕ) → length ts < n → (read (F n) ts ≡ Refused (t ∷ rest)) × (first_over (counts_taken (F n) ts) ≡ None)) → (tree : TreeOf rule) (more : List Token) → IsProperOf rule tree → spell_of rule tree ≡ front ++ more → first_over (take (length front) (counts tree)) ≡ None
    front_keeps h tree more proper e =
        let n = suc (length ts + length (spell_of rule tree)) in
        let o = h n (omega arith) in
        let s = front_taken n front (t ∷ rest) (omega (arith, ap (λ (x : Outcome (TreeOf rule)). length (rest_of x)) o.0)) in
        let w = whole_read n tree proper (omega arith) in
        let all_counts : counts tree ≡ s.counts ++ counts_taken s.parser more = sym w.1 ∙ ap (counts_taken (F n)) e ∙ (s.reaches more).taken in
        let kept : first_over s.counts ≡ None = none_front s.counts (counts_taken s.parser (t ∷ rest)) (ap first_over (sym (s.reaches (t ∷ rest)).taken) ∙ o.1) in
        let front_counts : take (length front) (counts tree) ≡ s.counts = ap (take (length front)) all_counts ∙ ap (λ (k : ℕ). take k (s.counts ++ counts_taken s.parser more)) (sym s.as_long) ∙ take-append_seam s.counts (counts_taken s.parser more) in
        ap first_over front_counts ∙ kept

    -- the front begins a tree where it was all taken
    viable_from : (n : ℕ) (o : Outcome (TreeOf rule)) (cs : List Count) → Explained M ts cs o → (front' : List Token) × (IsViable rule front') × (ts ≡ front' ++ rest_of o)
    viable_from n (Took a r) cs h = (h.front, (a, [], h.spelled.proper, sym h.spelled.is ∙ sym (append-nil h.front)), h.parts)
    viable_from n (Refused r) cs h = (h.front, (h.begins.value, h.begins.more, h.begins.spelled.proper, sym h.begins.spelled.is ∙ h.begins.is), h.parts)
    viable_from n (TooDeep r) cs h = (h.front, (h.begins.value, h.begins.more, h.begins.spelled.proper, sym h.begins.spelled.is ∙ h.begins.is), h.parts)
    viable_from n (Unread r) cs h = (h.front, (h.begins.value, h.begins.more, h.begins.spelled.proper, sym h.begins.spelled.is ∙ h.begins.is), h.parts)

    pub front_begins : (n : ℕ) → read (F n) ts ≡ Refused (t ∷ rest) → IsViable rule front
    front_begins n o =
        let v = viable_from n (read (F n) ts) (counts_taken (F n) ts) (E n ts) in
        let same : v.0 ++ t ∷ rest ≡ front ++ t ∷ rest = ap (λ (u : List Token). v.0 ++ u) (sym (ap rest_of o)) ∙ sym v.2 in
        subst (IsViable rule) (append_cancel_right v.0 front (t ∷ rest) same) v.1

    -- ---- a limit is broken at t

    module _ (h : (n : ℕ) → length ts < n → first_over (counts_taken (F n) ts) ≡ Some (length front)) where
      with_t : ts ≡ (front ++ t ∷ []) ++ rest
      with_t = sym (append_assoc front (t ∷ []) rest)

      pub deep_here : IsViable rule (front ++ t ∷ [])
      deep_here =
          let n = suc (length ts) in
          let lt = over_inside (counts_taken (F n) ts) (length front) (h n (omega arith)) in
          let v = viable_from n (read (F n) ts) (counts_taken (F n) ts) (E n ts) in
          let long : length (front ++ t ∷ []) ≤ length v.0 = omega (arith, lt, all_counted (F n) ts, ap length v.2, length-append v.0 (rest_of (read (F n) ts)), length-append front (t ∷ [])) in
          let k = length (front ++ t ∷ []) in
          let begins : take k v.0 ≡ front ++ t ∷ [] = sym (take-append-le k v.0 (rest_of (read (F n) ts)) long) ∙ ap (take k) (sym v.2 ∙ with_t) ∙ take-append_seam (front ++ t ∷ []) rest in
          let whole : v.0 ≡ (front ++ t ∷ []) ++ drop k v.0 = sym (take-append-drop k v.0) ∙ ap (λ (u : List Token). u ++ drop k v.0) begins in
          (v.1.0, drop k v.0 ++ v.1.1, v.1.2, v.1.3 ∙ ap (λ (u : List Token). u ++ v.1.1) whole ∙ append_assoc (front ++ t ∷ []) (drop k v.0) v.1.1)

      pub deep_first : (tree : TreeOf rule) (more : List Token) → IsProperOf rule tree → spell_of rule tree ≡ (front ++ t ∷ []) ++ more → first_over (counts tree) ≡ Some (length front)
      deep_first tree more proper e =
          let n = suc (length ts + length (spell_of rule tree)) in
          let o = h n (omega arith) in
          let lt = over_inside (counts_taken (F n) ts) (length front) o in
          let here : counts_taken (F n) ts ≡ counts_taken (F n) ((front ++ t ∷ []) ++ rest) = ap (counts_taken (F n)) with_t in
          let s = state (F n) (front ++ t ∷ []) rest (omega (arith, lt, ap length here, length-append front (t ∷ []))) in
          let w = whole_read n tree proper (omega arith) in
          let all_counts : counts tree ≡ s.counts ++ counts_taken s.parser more = sym w.1 ∙ ap (counts_taken (F n)) e ∙ (s.reaches more).taken in
          let first_front : first_over s.counts ≡ Some (length front) = over_front s.counts (counts_taken s.parser rest) (length front) (omega (arith, s.as_long, length-append front (t ∷ []))) (ap first_over (sym (s.reaches rest).taken ∙ sym here) ∙ o) in
          ap first_over all_counts ∙ over_more s.counts (counts_taken s.parser more) (length front) first_front

-- where it counts as the grammar says
pub one_tree : (rule : Rule) (depth : ℕ) (F : ℕ → Parser (TreeOf rule)) (E : (n : ℕ) → Explains (Means (spell_of rule) (IsProperOf rule) (counts_of rule depth)) (F n)) (Stops : TreeOf rule → Option Token → Type 0) (again : (n : ℕ) (tree : TreeOf rule) (rest : List Token) → IsProperOf rule tree → length (spell_of rule tree) < n → Stops tree (next rest) → Becomes (F n) (spell_of rule tree ++ rest) (counts_of rule depth tree) (Done tree) rest) (ends : (tree : TreeOf rule) → IsProperOf rule tree → Stops tree None) (decide : (tree : TreeOf rule) (t : Token) → IsProperOf rule tree → Stops tree (Some t) ⊎ IsViable rule (spell_of rule tree ++ t ∷ [])) → AtMostOneTree rule
one_tree rule depth F E Stops again ends decide = one_tree_by rule (counts_of rule depth) F E Stops again ends decide
