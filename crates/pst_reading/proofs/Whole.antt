-- What a rule's parser gives within the limits is what its proper trees spell.
use Rattle.std.proofs.Common.{map, if◌then◌else◌, ◌≡◌, ◌≢◌, ℕ, zero, suc, ◌+◌, ◌-◌, ◌<◌, ◌≤◌, List, [], ◌∷◌, ◌++◌, length, take, drop, Bool, true, false, Some, None, Option, ◌⊎◌, inl, inr, refl, sym, ap, subst, ◌∙◌, arith, append_assoc, append-nil, length-append, length-drop, Ok, Err}
use Rattle.std.specs.List.{AllByRecursion}
use Rattle.std.specs.Option.{option_map}
use Rattle.std.specs.Prelude.{slice_range}
use Rattle.std.proofs.lemmas.List.{append_cancel_right}
use Rattle.std.proofs.lemmas.List.Folds.{drop_split}
use Rattle.pst_token.specs.declared.token.Token.{Token}
use Rattle.pst_token.specs.declared.kind.Kind.TheVariants as kind
use Rattle.pst_ast.specs.Limits.{Count, is_over, first_over}
use Rattle.pst_ast.specs.Rule.{Rule}
use Rattle.pst_ast.specs.TreeOf.{TreeOf}
use Rattle.pst_ast.specs.SpellOf.{spell_of}
use Rattle.pst_ast.specs.ProperOf.{IsProperOf}
use Rattle.pst_ast.specs.CountsOf.{counts_of}
use Rattle.pst_ast.specs.Viable.{IsViable}
use Rattle.pst_ast.specs.Answers.{IsRead, IsStopped, IsTooDeep, through}
use Rattle.pst_reading.specs.Parser.{Parser, Done, Outcome, Took, Refused, TooDeep, Unread, next, run, read, counts_taken}
use Rattle.pst_reading.specs.Ended.{IsEnded}
use Rattle.pst_reading.proofs.Becoming.{Becomes}
use Rattle.pst_reading.proofs.Explaining.{Meaning, Means, Begins, Explains, Explained, Taken, Begun}
use Rattle.pst_reading.proofs.Keeping.{Kept, BreaksAt, limits_kept}
use Rattle.pst_reading.proofs.Final.{taken_longest, refused_longest, unfinished, front_keeps, front_begins, deep_here, deep_first}

abbrev pub NoEnd : List Token → Type 0
NoEnd ts = AllByRecursion (λ t. t.kind ≢ kind.End) ts

pub both_free : (xs ys : List Token) → NoEnd xs → NoEnd ys → NoEnd (xs ++ ys)
both_free [] ys h k = k
both_free (x ∷ xs) ys h k = (h.0, both_free xs ys h.1 k)

last_free : (xs : List Token) (t : Token) (ys : List Token) → NoEnd ((xs ++ t ∷ []) ++ ys) → t.kind ≢ kind.End
last_free [] t ys h = h.0
last_free (x ∷ xs) t ys h = last_free xs t ys h.1

-- the tokens from a place on end with the last one
drop_ends : (start : ℕ) (xs : List Token) (t : Token) → start ≤ length xs → drop start (xs ++ t ∷ []) ≡ drop start xs ++ t ∷ []
drop_ends zero xs t le = refl
drop_ends (suc n) [] t le = absurd (omega (arith, le))
drop_ends (suc n) (x ∷ xs) t le = drop_ends n xs t (omega (arith, le))

-- a front without `End` leaves something
pub something_left : (tokens : List Token) (start : ℕ) → IsEnded tokens → start < length tokens → (front rest more : List Token) → drop start tokens ≡ front ++ rest → NoEnd (front ++ more) → (t : Token) × (later : List Token) × (rest ≡ t ∷ later)
something_left tokens start e lt front (t ∷ rest) more parts free = (t, rest, refl)
something_left tokens start e lt front [] more parts free =
    let le : start ≤ length e.before_end = omega (arith, lt, ap length e.all, length-append e.before_end (e.last ∷ [])) in
    let all : front ≡ drop start e.before_end ++ e.last ∷ [] = sym (append-nil front) ∙ sym parts ∙ ap (drop start) e.all ∙ drop_ends start e.before_end e.last le in
    absurd (last_free (drop start e.before_end) e.last more (subst (λ (u : List Token). NoEnd (u ++ more)) all free) e.is_end)

one_more : (xs : List Token) → 1 ≤ length xs → (t : Token) × (later : List Token) × (xs ≡ t ∷ later)
one_more [] le = absurd (omega (arith, le))
one_more (t ∷ xs) le = (t, xs, refl)

pub drop_more : (n : ℕ) (xs : List Token) (t : Token) (rest : List Token) → drop n xs ≡ t ∷ rest → drop (suc n) xs ≡ rest
drop_more zero [] t rest f = absurd cc
drop_more zero (x ∷ xs) t rest f = cc
drop_more (suc n) [] t rest f = absurd cc
drop_more (suc n) (x ∷ xs) t rest f = drop_more n xs t rest f

-- ---- counts that break the limits at the same tokens

pub over_same : (cs ds : List Count) → map is_over cs ≡ map is_over ds → first_over cs ≡ first_over ds
over_same [] [] e = refl
over_same [] (d ∷ ds) e = absurd cc
over_same (c ∷ cs) [] e = absurd cc
over_same (c ∷ cs) (d ∷ ds) e = go (is_over c) (is_over d) (head_same e) (over_same cs ds (tail_same e))
  where
    head_same : is_over c ∷ map is_over cs ≡ is_over d ∷ map is_over ds → is_over c ≡ is_over d
    head_same f = cc

    tail_same : is_over c ∷ map is_over cs ≡ is_over d ∷ map is_over ds → map is_over cs ≡ map is_over ds
    tail_same f = cc

    go : (a b : Bool) → a ≡ b → first_over cs ≡ first_over ds → (if a then Some 0 else option_map suc (first_over cs)) ≡ (if b then Some 0 else option_map suc (first_over ds))
    go a b f g = rw (f, g) refl

pub over_take : (k : ℕ) (cs ds : List Count) → map is_over cs ≡ map is_over ds → map is_over (take k cs) ≡ map is_over (take k ds)
over_take zero cs ds e = refl
over_take (suc k) [] [] e = refl
over_take (suc k) [] (d ∷ ds) e = absurd cc
over_take (suc k) (c ∷ cs) [] e = absurd cc
over_take (suc k) (c ∷ cs) (d ∷ ds) e = go (is_over c) (is_over d) (map is_over (take k cs)) (map is_over (take k ds)) (head_same e) (over_take k cs ds (tail_same e))
  where
    head_same : is_over c ∷ map is_over cs ≡ is_over d ∷ map is_over ds → is_over c ≡ is_over d
    head_same f = cc

    tail_same : is_over c ∷ map is_over cs ≡ is_over d ∷ map is_over ds → map is_over cs ≡ map is_over ds
    tail_same f = cc

    go : (a b : Bool) (x y : List Bool) → a ≡ b → x ≡ y → a ∷ x ≡ b ∷ y
    go a b x y f g = cc

-- what is taken counts so towards the limits that these break at the same tokens as the grammar's counts
module _ (rule : Rule) (depth : ℕ) (counts : TreeOf rule → List Count) (same : (tree : TreeOf rule) → map is_over (counts tree) ≡ map is_over (counts_of rule depth tree)) (F : ℕ → Parser (TreeOf rule)) (E : (n : ℕ) → Explains (Means (spell_of rule) (IsProperOf rule) counts) (F n)) (Stops : TreeOf rule → Option Token → Type 0) (again : (n : ℕ) (tree : TreeOf rule) (rest : List Token) → IsProperOf rule tree → length (spell_of rule tree) < n → Stops tree (next rest) → Becomes (F n) (spell_of rule tree ++ rest) (counts tree) (Done tree) rest) (ends : (tree : TreeOf rule) → IsProperOf rule tree → Stops tree None) (decide : (tree : TreeOf rule) (t : Token) → IsProperOf rule tree → Stops tree (Some t) ⊎ IsViable rule (spell_of rule tree ++ t ∷ [])) (free : (tree : TreeOf rule) → NoEnd (spell_of rule tree)) (tokens : List Token) (start : ℕ) (e : IsEnded tokens) (lt : start < length tokens) where
  abbrev ts0 : List Token
  ts0 = drop start tokens

  -- where the rest begins at an index, the front is a slice
  sliced : (k : ℕ) → start ≤ k → ts0 ≡ slice_range tokens start k ++ drop k tokens
  sliced k le = drop_split tokens start k le

  -- one token more
  through_is : (k : ℕ) (t : Token) (rest : List Token) → start ≤ k → drop k tokens ≡ t ∷ rest → through tokens start k ≡ slice_range tokens start k ++ t ∷ []
  through_is k t rest le is =
      let more : drop (suc k) tokens ≡ rest = drop_more k tokens t rest is in
      let whole = sym (drop_split tokens start (suc k) (omega (arith, le))) ∙ sliced k le ∙ ap (λ (u : List Token). slice_range tokens start k ++ u) is in
      append_cancel_right (through tokens start k) (slice_range tokens start k ++ t ∷ []) rest (ap (λ (u : List Token). through tokens start k ++ u) (sym more) ∙ whole ∙ sym (append_assoc (slice_range tokens start k) (t ∷ []) rest))

  at_token : (k : ℕ) (t : Token) (later : List Token) → start ≤ k → drop k tokens ≡ t ∷ later → ts0 ≡ slice_range tokens start k ++ t ∷ later
  at_token k t later le is = sliced k le ∙ ap (λ (u : List Token). slice_range tokens start k ++ u) is

  is_inside : (k : ℕ) (t : Token) (later : List Token) → drop k tokens ≡ t ∷ later → k < length tokens
  is_inside k t later is = omega (arith, ap length is, length-drop k tokens)

  slice_length : (k : ℕ) → start ≤ k → k ≤ length tokens → length (slice_range tokens start k) ≡ k - start
  slice_length k le inside = omega (arith, ap length (sliced k le), length-append (slice_range tokens start k) (drop k tokens), length-drop k tokens, length-drop start tokens, le, inside)

  kept_at : (n : ℕ) (o : Outcome (TreeOf rule)) → run is_over (F n) ts0 ≡ o → Kept (F n) ts0 o
  kept_at n o h = subst (Kept (F n) ts0) h (limits_kept (F n) ts0)

  pub read_answer_by : (a : TreeOf rule) (end : ℕ) → start ≤ end → end ≤ length tokens → ((n : ℕ) → length ts0 < n → run is_over (F n) ts0 ≡ Took a (drop end tokens)) → IsRead rule tokens start depth a end
  read_answer_by a end le inside h =
      let n0 = suc (length ts0) in
      let k0 = kept_at n0 (Took a (drop end tokens)) (h n0 (omega arith)) in
      let x = subst (Explained (Means (spell_of rule) (IsProperOf rule) counts) ts0 (counts_taken (F n0) ts0)) k0.0 (E n0 ts0) in
      let front_is : x.front ≡ slice_range tokens start end = append_cancel_right x.front (slice_range tokens start end) (drop end tokens) (sym x.parts ∙ sliced end le) in
      let l = something_left tokens start e lt x.front (drop end tokens) [] x.parts (subst NoEnd (sym x.spelled.is ∙ sym (append-nil x.front)) (free a)) in
      let here = at_token end l.0 l.1 le l.2 in
      record {
        ordered = le;
        inside = is_inside end l.0 l.1 l.2;
        proper = x.spelled.proper;
        spelled = sym x.spelled.is ∙ front_is;
        within = sym (over_same (counts a) (counts_of rule depth a) (same a)) ∙ ap first_over (sym x.spelled.counted) ∙ k0.1;
        longest = λ v. taken_longest rule counts F E Stops again ends decide (slice_range tokens start end) l.0 l.1 a (λ n more. subst (λ (u : List Token). read (F n) u ≡ Took a (l.0 ∷ l.1)) here ((kept_at n (Took a (drop end tokens)) (h n (omega (arith, more, ap length here)))).0 ∙ ap (Took a) l.2)) (subst (IsViable rule) (through_is end l.0 l.1 le l.2) v);
      }

  pub stopped_answer_by : (k : ℕ) → start ≤ k → k ≤ length tokens → ((n : ℕ) → length ts0 < n → run is_over (F n) ts0 ≡ Refused (drop k tokens)) → IsStopped rule tokens start depth k
  stopped_answer_by k le inside h =
      let n0 = suc (length ts0) in
      let k0 = kept_at n0 (Refused (drop k tokens)) (h n0 (omega arith)) in
      let x = subst (Explained (Means (spell_of rule) (IsProperOf rule) counts) ts0 (counts_taken (F n0) ts0)) k0.0 (E n0 ts0) in
      let l = something_left tokens start e lt x.front (drop k tokens) x.begins.more x.parts (subst NoEnd (sym x.begins.spelled.is ∙ x.begins.is) (free x.begins.value)) in
      let front = slice_range tokens start k in
      let here = at_token k l.0 l.1 le l.2 in
      let refuses : (n : ℕ) → length (front ++ l.0 ∷ l.1) < n → (read (F n) (front ++ l.0 ∷ l.1) ≡ Refused (l.0 ∷ l.1)) × (first_over (counts_taken (F n) (front ++ l.0 ∷ l.1)) ≡ None) = λ n more. (let z = kept_at n (Refused (drop k tokens)) (h n (omega (arith, more, ap length here))) in subst (λ (u : List Token). (read (F n) u ≡ Refused (l.0 ∷ l.1)) × (first_over (counts_taken (F n) u) ≡ None)) here (z.0 ∙ ap Refused l.2, z.1)) in
      record {
        ordered = le;
        inside = is_inside k l.0 l.1 l.2;
        before = front_begins rule counts F E Stops again ends decide front l.0 l.1 (suc (length (front ++ l.0 ∷ l.1))) (refuses (suc (length (front ++ l.0 ∷ l.1))) (omega arith)).0;
        here = λ v. refused_longest rule counts F E Stops again ends decide front l.0 l.1 (λ n more. (refuses n more).0) (subst (IsViable rule) (through_is k l.0 l.1 le l.2) v);
        unfinished = unfinished rule counts F E Stops again ends decide front l.0 l.1 (λ n more. (refuses n more).0);
        within = λ tree more proper is. sym (over_same (take (k - start) (counts tree)) (take (k - start) (counts_of rule depth tree)) (over_take (k - start) (counts tree) (counts_of rule depth tree) (same tree))) ∙ subst (λ (i : ℕ). first_over (take i (counts tree)) ≡ None) (slice_length k le inside) (front_keeps rule counts F E Stops again ends decide front l.0 l.1 refuses tree more proper is);
      }

  pub deep_answer_by : (k : ℕ) → start ≤ k → k ≤ length tokens → ((n : ℕ) → length ts0 < n → run is_over (F n) ts0 ≡ TooDeep (drop k tokens)) → IsTooDeep rule tokens start depth k
  deep_answer_by k le inside h =
      let n0 = suc (length ts0) in
      let front = slice_range tokens start k in
      let broken : (n : ℕ) → length ts0 < n → (first_over (counts_taken (F n) ts0) ≡ Some (length front)) × (1 ≤ length (drop k tokens)) = λ n more. (let b = kept_at n (TooDeep (drop k tokens)) (h n more) in let at : b.index ≡ length front = omega (arith, ap length b.there, length-drop b.index ts0, length-drop k tokens, length-drop start tokens, b.inside, slice_length k le inside, le, inside) in (b.first ∙ ap Some at, omega (arith, ap length b.there, length-drop b.index ts0, b.inside))) in
      let l = one_more (drop k tokens) (broken n0 (omega arith)).1 in
      let here = at_token k l.0 l.1 le l.2 in
      let breaks : (n : ℕ) → length (front ++ l.0 ∷ l.1) < n → first_over (counts_taken (F n) (front ++ l.0 ∷ l.1)) ≡ Some (length front) = λ n more. subst (λ (u : List Token). first_over (counts_taken (F n) u) ≡ Some (length front)) here (broken n (omega (arith, more, ap length here))).0 in
      record {
        ordered = le;
        inside = is_inside k l.0 l.1 l.2;
        here = subst (IsViable rule) (sym (through_is k l.0 l.1 le l.2)) (deep_here rule counts F E Stops again ends decide front l.0 l.1 breaks);
        first = λ tree more proper is. sym (over_same (counts tree) (counts_of rule depth tree) (same tree)) ∙ deep_first rule counts F E Stops again ends decide front l.0 l.1 breaks tree more proper (is ∙ ap (λ (u : List Token). u ++ more) (through_is k l.0 l.1 le l.2)) ∙ ap Some (slice_length k le inside);
      }

-- where what is taken counts as the grammar says
module _ (rule : Rule) (depth : ℕ) (F : ℕ → Parser (TreeOf rule)) (E : (n : ℕ) → Explains (Means (spell_of rule) (IsProperOf rule) (counts_of rule depth)) (F n)) (Stops : TreeOf rule → Option Token → Type 0) (again : (n : ℕ) (tree : TreeOf rule) (rest : List Token) → IsProperOf rule tree → length (spell_of rule tree) < n → Stops tree (next rest) → Becomes (F n) (spell_of rule tree ++ rest) (counts_of rule depth tree) (Done tree) rest) (ends : (tree : TreeOf rule) → IsProperOf rule tree → Stops tree None) (decide : (tree : TreeOf rule) (t : Token) → IsProperOf rule tree → Stops tree (Some t) ⊎ IsViable rule (spell_of rule tree ++ t ∷ [])) (free : (tree : TreeOf rule) → NoEnd (spell_of rule tree)) (tokens : List Token) (start : ℕ) (e : IsEnded tokens) (lt : start < length tokens) where
  pub read_answer : (a : TreeOf rule) (end : ℕ) → start ≤ end → end ≤ length tokens → ((n : ℕ) → length (drop start tokens) < n → run is_over (F n) (drop start tokens) ≡ Took a (drop end tokens)) → IsRead rule tokens start depth a end
  read_answer = read_answer_by rule depth (counts_of rule depth) (λ tree. refl) F E Stops again ends decide free tokens start e lt

  pub stopped_answer : (k : ℕ) → start ≤ k → k ≤ length tokens → ((n : ℕ) → length (drop start tokens) < n → run is_over (F n) (drop start tokens) ≡ Refused (drop k tokens)) → IsStopped rule tokens start depth k
  stopped_answer = stopped_answer_by rule depth (counts_of rule depth) (λ tree. refl) F E Stops again ends decide free tokens start e lt

  pub deep_answer : (k : ℕ) → start ≤ k → k ≤ length tokens → ((n : ℕ) → length (drop start tokens) < n → run is_over (F n) (drop start tokens) ≡ TooDeep (drop k tokens)) → IsTooDeep rule tokens start depth k
  deep_answer = deep_answer_by rule depth (counts_of rule depth) (λ tree. refl) F E Stops again ends decide free tokens start e lt
