-- Of the answers of a parser only one fits.
use Rattle.std.proofs.Common.{◌≡◌, ⊎_elim, ℕ, zero, suc, ◌+◌, ◌-◌, ◌<◌, ◌≤◌, List, [], ◌∷◌, ◌++◌, take, drop, Bool, true, false, Option, Some, None, refl, ap, sym, subst, ◌∙◌, arith, append_assoc}
use Rattle.std.specs.Prelude.{slice_range}
use Rattle.std.specs.Option.{option_map}
use Rattle.std.proofs.Math.Seq.{take-add}
use Rattle.std.proofs.lemmas.Bool.{cases_lt}
use Rattle.pst_token.specs.declared.token.Token.{Token}
use Rattle.pst_ast.specs.Limits.{Count, is_over, first_over}
use Rattle.pst_ast.specs.Rule.{Rule}
use Rattle.pst_ast.specs.TreeOf.{TreeOf}
use Rattle.pst_ast.specs.SpellOf.{spell_of}
use Rattle.pst_ast.specs.CountsOf.{counts_of}
use Rattle.pst_ast.specs.Viable.{IsViable}
use Rattle.pst_ast.specs.Answers.{IsRead, IsStopped, IsTooDeep}
use Rattle.pst_ast.specs.Laws.{AnswersAgree}
use Rattle.pst_ast.proofs.Fronts.{viable_begins}

-- a number below a limit, of an option one higher
option_suc : (x : Option ℕ) (i : ℕ) → option_map suc x ≡ Some i → (j : ℕ) × (x ≡ Some j) × (i ≡ suc j)
option_suc None i h = absurd (none_some i h)
  where
    is_some : Option ℕ → Type 0
    is_some None = ⊥
    is_some (Some x) = Unit {0}

    none_some : (i : ℕ) → None ≡ Some i → ⊥
    none_some i h = subst is_some (sym h) tt
option_suc (Some j) i h = (j, refl, sym (ap value h))
  where
    value : Option ℕ → ℕ
    value None = 0
    value (Some x) = x

value_or : ℕ → Option ℕ → ℕ
value_or d None = d
value_or d (Some x) = x

none_is_not : (i : ℕ) → None ≡ Some i → ⊥
none_is_not i h = let e : 0 ≡ 1 = ap (λ (x : Option ℕ). tag x) h in absurd (let f : ⊥ = omega (arith, e) in f)
  where
    tag : Option ℕ → ℕ
    tag None = 0
    tag (Some x) = 1

-- the first that breaks a limit is the first of any longer front
none_of : (x : Option ℕ) → option_map suc x ≡ None → x ≡ None
none_of None h = refl
none_of (Some x) h = absurd (none_is_not (suc x) (sym h))

over_taken : (cs : List Count) (i n : ℕ) → first_over cs ≡ Some i → i < n → first_over (take n cs) ≡ None → ⊥
over_taken [] i n h lt none = none_is_not i h
over_taken (c ∷ cs) i zero h lt none = absurd (let f : ⊥ = omega (arith, lt) in f)
over_taken (c ∷ cs) i (suc n) h lt none = go (is_over c) refl (λ j h lt none. over_taken cs j n h lt none)
  where
    go : (b : Bool) → is_over c ≡ b → ((j : ℕ) → first_over cs ≡ Some j → j < n → first_over (take n cs) ≡ None → ⊥) → ⊥
    go true e more = none_is_not 0 (sym none ∙ rw e refl)
    go false e more =
        let later : option_map suc (first_over cs) ≡ Some i = rw e at h in
        let rest : option_map suc (first_over (take n cs)) ≡ None = rw e at none in
        let j = option_suc (first_over cs) i later in
        more j.0 j.1 (omega (arith, lt, j.2)) (none_of (first_over (take n cs)) rest)

module _ (rule : Rule) (tokens : List Token) (start depth : ℕ) where
  abbrev part : ℕ → List Token
  part k = slice_range tokens start k

  split : (a b : ℕ) → start ≤ a → a ≤ b → part b ≡ part a ++ take (b - a) (drop (a - start) (drop start tokens))
  split a b s le =
      let e : b - start ≡ (a - start) + (b - a) = omega (arith, s, le) in
      ap (λ (n : ℕ). take n (drop start tokens)) e ∙ take-add (a - start) (b - a) (drop start tokens)

  fewer : (a b : ℕ) → start ≤ a → a ≤ b → IsViable rule (part b) → IsViable rule (part a)
  fewer a b s le v = viable_begins rule (part a) (take (b - a) (drop (a - start) (drop start tokens))) (subst (IsViable rule) (split a b s le) v)

  -- a tree that begins with more tokens begins with fewer
  begun : (a b : ℕ) → start ≤ a → a ≤ b → (tree : TreeOf rule) (more : List Token) → spell_of rule tree ≡ part b ++ more → spell_of rule tree ≡ part a ++ (take (b - a) (drop (a - start) (drop start tokens)) ++ more)
  begun a b s le tree more e = e ∙ ap (λ (ts : List Token). ts ++ more) (split a b s le) ∙ append_assoc (part a) (take (b - a) (drop (a - start) (drop start tokens))) more

  up_to : (a b : ℕ) → start ≤ a → start ≤ b → IsViable rule (part b) → (IsViable rule (part (suc a)) → ⊥) → b ≤ a
  up_to a b s t v not = ⊎_elim (λ lt. absurd (not (fewer (suc a) b (omega (arith, s)) (omega (arith, lt)) v))) (λ le. le) (cases_lt a b)

  same : (a b : ℕ) → start ≤ a → start ≤ b → IsViable rule (part a) → (IsViable rule (part (suc a)) → ⊥) → IsViable rule (part b) → (IsViable rule (part (suc b)) → ⊥) → a ≡ b
  same a b s t v not w nor =
      let x = up_to a b s t w not in
      let y = up_to b a t s v nor in
      omega (arith, x, y)

  read_viable : (tree : TreeOf rule) (a : ℕ) → IsRead rule tokens start depth tree a → IsViable rule (part a)
  read_viable tree a r = (tree, [], r.proper, r.spelled ∙ nothing (part a))
    where
      nothing : (ts : List Token) → ts ≡ ts ++ []
      nothing [] = refl
      nothing (t ∷ ts) = ap (λ (us : List Token). t ∷ us) (nothing ts)

  read_read : (a b : ℕ) (tree other : TreeOf rule) → IsRead rule tokens start depth tree a → IsRead rule tokens start depth other b → (a ≡ b) × (spell_of rule tree ≡ spell_of rule other)
  read_read a b tree other r q =
      let e = same a b r.ordered q.ordered (read_viable tree a r) r.longest (read_viable other b q) q.longest in
      (e, r.spelled ∙ ap part e ∙ sym q.spelled)

  read_stopped : (a b : ℕ) (tree : TreeOf rule) → IsRead rule tokens start depth tree a → IsStopped rule tokens start depth b → ⊥
  read_stopped a b tree r q =
      let e = same a b r.ordered q.ordered (read_viable tree a r) r.longest q.before q.here in
      q.unfinished tree r.proper (r.spelled ∙ ap part e)

  read_deep : (a b : ℕ) (tree : TreeOf rule) → IsRead rule tokens start depth tree a → IsTooDeep rule tokens start depth b → ⊥
  read_deep a b tree r q =
      let le = up_to a (suc b) r.ordered (let o = q.ordered in omega (arith, o)) q.here r.longest in
      let v = read_viable tree a r in
      let o = q.ordered in
      none_is_not (b - start) (sym r.within ∙ q.first tree (take (a - suc b) (drop (suc b - start) (drop start tokens)) ++ []) r.proper (begun (suc b) a (omega (arith, o)) le tree [] (r.spelled ∙ nothing (part a))))
    where
      nothing : (ts : List Token) → ts ≡ ts ++ []
      nothing [] = refl
      nothing (t ∷ ts) = ap (λ (us : List Token). t ∷ us) (nothing ts)

  stopped_stopped : (a b : ℕ) → IsStopped rule tokens start depth a → IsStopped rule tokens start depth b → a ≡ b
  stopped_stopped a b r q = same a b r.ordered q.ordered r.before r.here q.before q.here

  stopped_deep : (a b : ℕ) → IsStopped rule tokens start depth a → IsTooDeep rule tokens start depth b → ⊥
  stopped_deep a b r q =
      let o = q.ordered in
      let le = up_to a (suc b) r.ordered (omega (arith, o)) q.here r.here in
      let v = r.before in
      over_taken (counts_of rule depth v.0) (b - start) (a - start)
      (q.first v.0 (take (a - suc b) (drop (suc b - start) (drop start tokens)) ++ v.1) v.2 (begun (suc b) a (omega (arith, o)) le v.0 v.1 v.3))
      (omega (arith, o, le))
      (r.within v.0 v.1 v.2 v.3)

  deep_below : (a b : ℕ) → a ≤ b → IsTooDeep rule tokens start depth a → IsTooDeep rule tokens start depth b → a ≡ b
  unfolding value_or
  deep_below a b le r q =
      let v = q.here in
      let o = r.ordered in
      let p = q.ordered in
      let x : Some (a - start) ≡ Some (b - start) = sym (r.first v.0 (take (suc b - suc a) (drop (suc a - start) (drop start tokens)) ++ v.1) v.2 (begun (suc a) (suc b) (omega (arith, o)) (omega (arith, le)) v.0 v.1 v.3)) ∙ q.first v.0 v.1 v.2 v.3 in
      let y : a - start ≡ b - start = ap (value_or 0) x in
      omega (arith, o, p, y)

  deep_deep : (a b : ℕ) → IsTooDeep rule tokens start depth a → IsTooDeep rule tokens start depth b → a ≡ b
  deep_deep a b r q = ⊎_elim (λ lt. deep_below a b (omega (arith, lt)) r q) (λ le. sym (deep_below b a le q r)) (cases_lt a b)

pub answers_agree : AnswersAgree
answers_agree rule tokens start depth a b tree other = (
  read_read rule tokens start depth a b tree other,
  read_stopped rule tokens start depth a b tree,
  read_deep rule tokens start depth a b tree,
  stopped_stopped rule tokens start depth a b,
  stopped_deep rule tokens start depth a b,
  deep_deep rule tokens start depth a b,
)
