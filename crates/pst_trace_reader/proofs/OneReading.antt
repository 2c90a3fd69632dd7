-- A text is read in one way.
use Rattle.std.proofs.Common.{◌≡◌, ◌∙◌, ◌<◌, ◌+◌, ℕ, zero, suc, List, [], ◌∷◌, ◌++◌, length, map, refl, sym, ap, subst, append_assoc, append-nil, inl, inr, ◌⊎◌, arith}
use Rattle.std.specs.Prelude.{All, Contains, string_bytes}
use Rattle.std.specs.List.{flat_map}
use Rattle.std.proofs.lemmas.List.Elements.{Contains-append_right}
use Rattle.pst_scen.specs.declared.event.Event.{Event}
use Rattle.pst_trace_texts.specs.Lines.{line}
use Rattle.pst_trace_lines.specs.declared.header.HeaderLine.{HeaderLine}
use Rattle.pst_trace_lines.specs.declared.last.LastLine.{LastLine}
use Rattle.pst_trace_lines.specs.Last.{LastLinesAreOne}
use Rattle.pst_trace_lines.specs.Blocks.{BlockLinesAreOne}
use Rattle.pst_trace_lines.specs.Headers.{rank}
use Rattle.pst_trace_reader.specs.declared.text.TraceText.{TraceText}
use Rattle.pst_trace_reader.specs.Traces.{AreLines, all_sorts, AreRest, AHeaderLine, ABlock, TheLast, IsFormatLine, AreTrace, IsTraceText, IsTrace, Begins, IsBadBehind, IsFirstBad}
use Rattle.pst_trace_reader.specs.Laws.{AreAlike, ReadingsAreOne}
use Rattle.pst_trace_reader.proofs.Heads.{sort_one, header_not_block, header_not_last, block_not_last}
use Rattle.pst_trace_reader.proofs.Cut.{Unbroken}
use Rattle.pst_trace_reader.proofs.Tops.{format_one}

-- ---- the lines of a text

first_in : (x : ℕ) (xs : List ℕ) → Contains (x ∷ xs) x
first_in x xs = (0, omega arith, refl)

later_in : (y x : ℕ) (xs : List ℕ) → Contains xs x → Contains (y ∷ xs) x
later_in y x xs h = Contains-append_right (y ∷ []) xs x h

first_cut : (m : ℕ) (a b c d : List ℕ) → a ++ m ∷ b ≡ c ++ m ∷ d → (Contains a m → ⊥) → (Contains c m → ⊥) → (a ≡ c) × (b ≡ d)
first_cut m [] b [] d same lacks other = (refl, cc)
first_cut m [] b (y ∷ c) d same lacks other = let e : y ≡ m = cc in absurd (other (subst (λ (n : ℕ). Contains (y ∷ c) n) e (first_in y c)))
first_cut m (x ∷ a) b [] d same lacks other = let e : x ≡ m = cc in absurd (lacks (subst (λ (n : ℕ). Contains (x ∷ a) n) e (first_in x a)))
first_cut m (x ∷ a) b (y ∷ c) d same lacks other =
    let head : x ≡ y = cc in
    let tail : a ++ m ∷ b ≡ c ++ m ∷ d = cc in
    let rest = first_cut m a b c d tail (λ h. lacks (later_in x m a h)) (λ h. other (later_in y m c h)) in
    (ap (λ (n : ℕ). n ∷ a) head ∙ ap (λ (l : List ℕ). y ∷ l) rest.0, rest.1)

-- a line, and what stands behind it
on_line : (l : List ℕ) (t : List ℕ) → line l ++ t ≡ l ++ 10 ∷ t
on_line l t = append_assoc l (10 ∷ []) t

all_tail : (x : List ℕ) (xs : List (List ℕ)) → All Unbroken (x ∷ xs) → All Unbroken xs
all_tail x xs each k d below = each (suc k) d (omega (arith, below))

lines_same : (xs ys : List (List ℕ)) (r q : List ℕ) → flat_map line xs ++ r ≡ flat_map line ys ++ q → All Unbroken xs → All Unbroken ys → Unbroken r → Unbroken q → (xs ≡ ys) × (r ≡ q)
lines_same [] [] r q same each others last ends = (refl, same)
lines_same [] (y ∷ ys) r q same each others last ends =
    let are : r ≡ y ++ 10 ∷ (flat_map line ys ++ q) = same ∙ append_assoc (line y) (flat_map line ys) q ∙ on_line y (flat_map line ys ++ q) in
    absurd (last (subst (λ (t : List ℕ). Contains t 10) (sym are) (Contains-append_right y (10 ∷ (flat_map line ys ++ q)) 10 (first_in 10 (flat_map line ys ++ q)))))
lines_same (x ∷ xs) [] r q same each others last ends =
    let are : q ≡ x ++ 10 ∷ (flat_map line xs ++ r) = sym same ∙ append_assoc (line x) (flat_map line xs) r ∙ on_line x (flat_map line xs ++ r) in
    absurd (ends (subst (λ (t : List ℕ). Contains t 10) (sym are) (Contains-append_right x (10 ∷ (flat_map line xs ++ r)) 10 (first_in 10 (flat_map line xs ++ r)))))
lines_same (x ∷ xs) (y ∷ ys) r q same each others last ends =
    let cut = first_cut 10 x (flat_map line xs ++ r) y (flat_map line ys ++ q)
    (sym (append_assoc (line x) (flat_map line xs) r ∙ on_line x (flat_map line xs ++ r)) ∙ same ∙ append_assoc (line y) (flat_map line ys) q ∙ on_line y (flat_map line ys ++ q))
    (each 0 [] (omega arith)) (others 0 [] (omega arith)) in
    let behind = lines_same xs ys r q cut.1 (all_tail x xs each) (all_tail y ys others) last ends in
    (ap (λ (l : List ℕ). l ∷ xs) cut.0 ∙ ap (λ (l : List (List ℕ)). y ∷ l) behind.0, behind.1)

lines_one : (text : List ℕ) (xs ys : List (List ℕ)) (r q : List ℕ) → AreLines text xs r → AreLines text ys q → (xs ≡ ys) × (r ≡ q)
lines_one text xs ys r q one other = lines_same xs ys r q (sym one.are ∙ other.are) one.each other.each one.last other.last

-- ---- what lines stand for

record SameRest (h g : List (List ℕ)) (e f : List Event) (l k : LastLine) : Type 0 where
  pub headers : h ≡ g
  pub events : e ≡ f
  pub lasts : l ≡ k

module _ (blocks : BlockLinesAreOne) (lasts : LastLinesAreOne) (format : ℕ) where
  rest_one : (passed : ℕ) (lines h g : List (List ℕ)) (e f : List Event) (l k : LastLine) → AreRest format passed lines h e l → AreRest format passed lines g f k → SameRest h g e f l k
  rest_one passed _ _ _ e f l k (AHeaderLine _ sort text more header _ _ fits join is rest) (AHeaderLine _ other _ _ others _ _ fits2 join2 is2 rest2) =
      let same = rest_one (rank sort) more header others e f l k rest (subst (λ (s : HeaderLine). AreRest format (rank s) more others f k) (sort_one other sort text is2 is) rest2) in
      record { headers = ap (λ (hs : List (List ℕ)). text ∷ hs) same.headers; events = same.events; lasts = same.lasts }
  rest_one passed _ _ g e _ l k (AHeaderLine _ sort text more header _ _ fits join is rest) (ABlock _ _ _ _ own events _ block rest2) = absurd (header_not_block sort text own is block)
  rest_one passed _ _ _ e _ l k (AHeaderLine _ sort text _ header _ _ fits join is rest) (TheLast _ _ _ ends) = absurd (header_not_last sort text k is ends)
  rest_one passed _ h _ _ f l k (ABlock _ text more _ own events _ block rest) (AHeaderLine _ other _ _ others _ _ fits join is rest2) = absurd (header_not_block other text own is block)
  rest_one passed _ h g _ _ l k (ABlock _ text more _ own events _ block rest) (ABlock _ _ _ _ other eaches _ block2 rest2) =
      let same = rest_one all_sorts more h g events eaches l k rest rest2 in
      record { headers = same.headers; events = ap (λ (es : List Event). es ++ events) (blocks text own other block block2) ∙ ap (λ (es : List Event). other ++ es) same.events; lasts = same.lasts }
  rest_one passed _ h _ _ _ l k (ABlock _ text _ _ own events _ block rest) (TheLast _ _ _ ends) = absurd (block_not_last text own k block ends)
  rest_one passed _ _ _ _ f l k (TheLast _ text _ ends) (AHeaderLine _ other _ _ others _ _ fits join is rest2) = absurd (header_not_last other text l is ends)
  rest_one passed _ _ g _ _ l k (TheLast _ text _ ends) (ABlock _ _ _ _ own events _ block rest2) = absurd (block_not_last text own l block ends)
  rest_one passed _ _ _ _ _ l k (TheLast _ text _ ends) (TheLast _ _ _ other) = record { headers = refl; events = refl; lasts = lasts text l k ends other }

trace_one : (blocks : BlockLinesAreOne) (lasts : LastLinesAreOne) (lines : List (List ℕ)) (f g : ℕ) (h k : List (List ℕ)) (e d : List Event) (l m : LastLine)
    → AreTrace lines f h e l → AreTrace lines g k d m → (f ≡ g) × SameRest h k e d l m
trace_one blocks lasts lines f g h k e d l m a b =
    let same : a.first ∷ a.counts ∷ a.more ≡ b.first ∷ b.counts ∷ b.more = sym a.are ∙ b.are in
    let head : a.first ≡ b.first = cc in
    let counts : a.counts ≡ b.counts = cc in
    let tail : a.more ≡ b.more = cc in
    let formats = format_one a.first f g a.of_format (subst (λ (t : List ℕ). IsFormatLine t g) (sym head) b.of_format) in
    let own = rest_one blocks lasts f 0 a.more a.own b.own e d l m a.rest (subst (λ (n : ℕ). AreRest n 0 a.more b.own d m) (sym formats) (subst (λ (ls : List (List ℕ)). AreRest g 0 ls b.own d m) (sym tail) b.rest)) in (
      formats,
      record {
        headers = a.header_is ∙ ap (λ (t : List ℕ). t ∷ a.counts ∷ a.own) head ∙ ap (λ (t : List ℕ). b.first ∷ t ∷ a.own) counts ∙ ap (λ (ls : List (List ℕ)). b.first ∷ b.counts ∷ ls) own.headers ∙ sym b.header_is;
        events = own.events;
        lasts = own.lasts;
      },
    )

texts_alike : (blocks : BlockLinesAreOne) (lasts : LastLinesAreOne) (text : List ℕ) (t u : TraceText) → IsTraceText text t → IsTraceText text u → AreAlike t u
texts_alike blocks lasts text t u a b =
    let lines = (lines_one text a.lines b.lines [] [] a.are b.are).0 in
    let (formats, own) = trace_one blocks lasts b.lines t.format u.format (map string_bytes t.header.items) (map string_bytes u.header.items) t.events.items u.events.items t.last u.last
    (subst (λ (ls : List (List ℕ)). AreTrace ls t.format (map string_bytes t.header.items) t.events.items t.last) lines a.trace) b.trace in
    record { formats = formats; headers = own.headers; events = own.events; lasts = own.lasts }

-- ---- first bad lines

-- what begins with more lines begins with fewer
fewer : (front : List (List ℕ)) (x : List ℕ) (more : List (List ℕ)) → Begins (front ++ x ∷ more) → Begins (front ++ x ∷ [])
fewer front x more (others, t) =
    (more ++ others, subst IsTrace (append_assoc front (x ∷ more) others ∙ sym (append_assoc front (x ∷ []) (more ++ others))) t)

-- the longer of two fronts
longer_front : (fs bs ls ts : List (List ℕ)) → fs ++ bs ≡ ls ++ ts → length fs < length ls
    → (x : List ℕ) × (middle : List (List ℕ)) × (more : List (List ℕ)) × (ls ≡ fs ++ x ∷ middle) × (bs ≡ x ∷ more)
longer_front [] bs [] ts same less = absurd (omega (arith, less))
longer_front [] bs (y ∷ ls) ts same less = (y, ls, ls ++ ts, refl, same)
longer_front (f ∷ fs) bs [] ts same less = absurd (omega (arith, less))
longer_front (f ∷ fs) bs (y ∷ ls) ts same less =
    let head : f ≡ y = cc in
    let tail : fs ++ bs ≡ ls ++ ts = cc in
    let (x, middle, more, longer, behind) = longer_front fs bs ls ts tail (omega (arith, less)) in
    (x, middle, more, ap (λ (l : List (List ℕ)). y ∷ l) longer ∙ ap (λ (l : List ℕ). l ∷ (fs ++ x ∷ middle)) (sym head), behind)

-- no front goes on behind a first bad line
not_behind : (front behind : List (List ℕ)) (rest : List ℕ) (longer later : List (List ℕ)) → front ++ behind ≡ longer ++ later → length front < length longer
    → IsBadBehind front behind rest → Begins longer → ⊥
not_behind front behind rest longer later same less bad begins =
    let (x, middle, more, is, own) = longer_front front behind longer later same less in
    let here : Begins (front ++ x ∷ []) → ⊥ = subst (λ (bs : List (List ℕ)). IsBadBehind front bs rest) own bad in
    here (fewer front x middle (subst Begins is begins))

order : (a b : ℕ) → (a < b) ⊎ ((a ≡ b) ⊎ (b < a))
order zero zero = inr (inl refl)
order zero (suc b) = inl (omega arith)
order (suc a) zero = inr (inr (omega arith))
order (suc a) (suc b) = by (order a b)
  where
    by : (a < b) ⊎ ((a ≡ b) ⊎ (b < a)) → (suc a < suc b) ⊎ ((suc a ≡ suc b) ⊎ (suc b < suc a))
    by (inl less) = inl (omega (arith, less))
    by (inr (inl same)) = inr (inl (omega (arith, same)))
    by (inr (inr more)) = inr (inr (omega (arith, more)))

lines_alike : (text : List ℕ) (n k : ℕ) → IsFirstBad text n → IsFirstBad text k → n ≡ k
lines_alike text n k a b = by (order (length a.front) (length b.front))
  where
    same : a.front ++ a.behind ≡ b.front ++ b.behind
    same = (lines_one text (a.front ++ a.behind) (b.front ++ b.behind) a.rest b.rest a.are b.are).0

    by : (length a.front < length b.front) ⊎ ((length a.front ≡ length b.front) ⊎ (length b.front < length a.front)) → n ≡ k
    by (inl less) = absurd (not_behind a.front a.behind a.rest b.front b.behind same less a.bad b.begins)
    by (inr (inl equal)) = a.number_is ∙ ap (λ m. m + 1) equal ∙ sym b.number_is
    by (inr (inr more)) = absurd (not_behind b.front b.behind b.rest a.front a.behind (sym same) more b.bad a.begins)

one_of_lines : (blocks : BlockLinesAreOne) (lasts : LastLinesAreOne) (text : List ℕ) (lines others : List (List ℕ)) (f g : ℕ) (h k : List (List ℕ)) (e d : List Event) (l m : LastLine)
    → AreLines text lines [] → AreLines text others [] → AreTrace lines f h e l → AreTrace others g k d m → (f ≡ g) × (h ≡ k) × (e ≡ d) × (l ≡ m)
one_of_lines blocks lasts text lines others f g h k e d l m own are one other =
    let same = (lines_one text lines others [] [] own are).0 in
    let (formats, rest) = trace_one blocks lasts others f g h k e d l m (subst (λ (ls : List (List ℕ)). AreTrace ls f h e l) same one) other in
    (formats, rest.headers, rest.events, rest.lasts)

never_bad : (text : List ℕ) (lines : List (List ℕ)) (n : ℕ) → AreLines text lines [] → IsTrace lines → IsFirstBad text n → ⊥
never_bad text lines n are whole b = by b.behind (sym both.0) b.bad
  where
    both : (lines ≡ b.front ++ b.behind) × ([] ≡ b.rest)
    both = lines_one text lines (b.front ++ b.behind) [] b.rest are b.are

    by : (behind : List (List ℕ)) → b.front ++ behind ≡ lines → IsBadBehind b.front behind b.rest → ⊥
    by [] is bad = bad (subst IsTrace (sym is ∙ append-nil b.front) whole) (sym both.1)
    by (x ∷ more) is bad = bad (more, subst IsTrace (sym is ∙ sym (append_assoc b.front (x ∷ []) more)) whole)

never_both : (text : List ℕ) (t : TraceText) (n : ℕ) → IsTraceText text t → IsFirstBad text n → ⊥
never_both text t n a b = never_bad text a.lines n a.are (record { format = t.format; header = map string_bytes t.header.items; events = t.events.items; last = t.last; is = a.trace }) b

pub readings_one : BlockLinesAreOne → LastLinesAreOne → ReadingsAreOne
readings_one blocks lasts = record {
  one_trace = texts_alike blocks lasts;
  one_line = lines_alike;
  apart = never_both;
  one_reading = one_of_lines blocks lasts;
  never_bad = never_bad;
}
