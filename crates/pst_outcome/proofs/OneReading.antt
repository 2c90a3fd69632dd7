-- Files are read in one way.
use Rattle.std.proofs.Common.{◌≡◌, ◌∙◌, ℕ, zero, suc, ◌+◌, ◌-◌, ◌<◌, ◌≤◌, ◌⊎◌, inl, inr, Bool, List, [], ◌∷◌, ◌++◌, length, take, refl, ap, sym, subst, arith, true, false, cond}
use Rattle.std.specs.Prelude.{Option, Some, None, slice_get, ◌||◌}
use Rattle.std.specs.List.{AllZip, filter, list_any, sum_by}
use Rattle.std.proofs.lemmas.List.{take_all, append_cancel_left}
use Rattle.std.proofs.lemmas.List.Sums.{sum_by-cons}
use Rattle.pst_io.specs.Shelf.{Files}
use Rattle.pst_words.specs.declared.key.Key.TheVariants.{Trace}
use Rattle.pst_words.specs.Table.{key_start}
use Rattle.pst_words.specs.Lines.{is_file, is_of}
use Rattle.pst_files_read.specs.Limits.{most_bytes, most_trace}
use Rattle.pst_files_read.specs.Files.{AreRead, IsReached, IsTraceWord, IsTraceRead, sources_in}

abbrev AreTexts : Files → List (List ℕ) → List (List ℕ) → Type 0
AreTexts f names texts = AllZip (λ name text. f name ≡ Some text) names texts

pub inside : {X : Type 0} {u v : X} → Some u ≡ Some v → u ≡ v
inside e = cc

pub below : {X : Type 0} (xs : List X) (i : ℕ) (x : X) → slice_get xs i ≡ Some x → i < length xs
below [] zero x e = absurd (cc)
below [] (suc i) x e = absurd (cc)
below (y ∷ xs) zero x e = omega arith
below (y ∷ xs) (suc i) x e = let low = below xs i x e in omega (arith, low)

-- files have one list of texts
pub one_texts : (f : Files) (names xs ys : List (List ℕ)) → AreTexts f names xs → AreTexts f names ys → xs ≡ ys
one_texts f [] [] [] h k = refl
one_texts f [] [] (y ∷ ys) h k = absurd k
one_texts f [] (x ∷ xs) ys h k = absurd h
one_texts f (n ∷ names) [] ys h k = absurd h
one_texts f (n ∷ names) (x ∷ xs) [] h k = absurd k
one_texts f (n ∷ names) (x ∷ xs) (y ∷ ys) h k =
    let here : x ≡ y = inside (sym h.0 ∙ k.0) in
    let rest : xs ≡ ys = one_texts f names xs ys h.1 k.1 in
    cc

-- a source that stands before the end of those read has a text, for which there is room behind those before it
record IsThere (f : Files) (name : List ℕ) (front texts : List (List ℕ)) : Type 0 where
  text : List ℕ
  is : f name ≡ Some text
  room : sum_by length front + length text ≤ sum_by length texts

-- behind one more word
there_behind : (f : Files) (w : List ℕ) (ns ms : List (List ℕ)) (name : List ℕ) (b : Bool) (front texts : List (List ℕ))
    → ((xs ys : List (List ℕ)) → AreTexts f ns xs → AreTexts f ms ys → IsThere f name xs ys) → AreTexts f (cond b (w ∷ ns) ns) front → AreTexts f (cond b (w ∷ ms) ms) texts → IsThere f name front texts
there_behind f w ns ms name false front texts later h k = later front texts h k
there_behind f w ns ms name true [] texts later h k = absurd h
there_behind f w ns ms name true (x ∷ xs) [] later h k = absurd k
there_behind f w ns ms name true (x ∷ xs) (y ∷ ys) later h k =
    let one : x ≡ y = inside (sym h.0 ∙ k.0) in
    let rest = later xs ys h.1 k.1 in
    let room = rest.room in
    let long = ap length one in
    let left : sum_by length (x ∷ xs) ≡ length x + sum_by length xs = sum_by-cons length x xs in
    let right : sum_by length (y ∷ ys) ≡ length y + sum_by length ys = sum_by-cons length y ys in
    record { text = rest.text; is = rest.is; room = omega (arith, room, long, left, right) }

read_there : (f : Files) (words : List (List ℕ)) (n m : ℕ) (name : List ℕ) (front texts : List (List ℕ)) → n < m → slice_get words n ≡ Some name → is_file name ≡ true
    → AreTexts f (filter is_file (take n words)) front → AreTexts f (filter is_file (take m words)) texts → IsThere f name front texts
read_there f words n zero name front texts low there file h k = absurd (omega (arith, low))
read_there f [] zero (suc m) name front texts low there file h k = absurd (cc)
read_there f [] (suc n) (suc m) name front texts low there file h k = absurd (cc)
read_there f (w ∷ words) zero (suc m) name front texts low there file h k =
    let same : w ≡ name = inside there in
    let is : is_file w ≡ true = ap is_file same ∙ file in
    first front texts h (subst (λ b. AreTexts f (cond b (w ∷ filter is_file (take m words)) (filter is_file (take m words))) texts) is k) same
  where
    first : (front texts : List (List ℕ)) → AreTexts f [] front → AreTexts f (w ∷ filter is_file (take m words)) texts → w ≡ name → IsThere f name front texts
    first [] [] h k same = absurd k
    first [] (t ∷ ts) h k same =
        let sums : sum_by length (t ∷ ts) ≡ length t + sum_by length ts = sum_by-cons length t ts in
        record { text = t; is = ap f (sym same) ∙ k.0; room = omega (arith, sums) }
    first (x ∷ xs) ts h k same = absurd h
read_there f (w ∷ words) (suc n) (suc m) name front texts low there file h k =
    there_behind f w (filter is_file (take n words)) (filter is_file (take m words)) name (is_file w) front texts
    (λ xs ys a b. read_there f words n m name xs ys (omega (arith, low)) there file a b) h k

-- ---- a source at which reading stops

pub data Stops (f : Files) (name : List ℕ) (texts : List (List ℕ)) : Type 0 where
  NotThere : f name ≡ None → Stops f name texts
  TooLong : (text : List ℕ) → f name ≡ Some text → most_bytes - sum_by length texts < length text → Stops f name texts

not_there : (f : Files) (name : List ℕ) (front texts : List (List ℕ)) → sum_by length texts ≤ most_bytes → IsThere f name front texts → Stops f name front → ⊥
not_there f name front texts small there (NotThere none) = let both : None ≡ Some there.text = sym none ∙ there.is in cc
not_there f name front texts small there (TooLong text is long) =
    let same = ap length (inside (sym is ∙ there.is)) in
    let room = there.room in
    omega (arith, same, room, long, small)

-- reading that stops doesn't end
pub not_all_read : (f : Files) (arguments : List (List ℕ)) (word : ℕ) (name : List ℕ) (front texts : List (List ℕ)) → (reached : IsReached (Some f) arguments word name front) → Stops f name front
    → AreRead (Some f) (sources_in arguments) texts → ⊥
not_all_read f arguments word name front texts reached stops all =
    not_there f name front texts all.small
    (read_there f arguments reached.before (length arguments) name front texts (below arguments reached.before name reached.there) reached.there reached.is_source (reached.read.each f refl)
    (subst (λ (ws : List (List ℕ)). AreTexts f (filter is_file ws) texts) (sym (take_all (length arguments) arguments (omega arith))) (all.each f refl)))
    stops

earlier_stop : (f : Files) (arguments : List (List ℕ)) (v w : ℕ) (m n : List ℕ) (xs ys : List (List ℕ)) (a : IsReached (Some f) arguments v m xs) (b : IsReached (Some f) arguments w n ys) → Stops f m xs
    → a.before < b.before → ⊥
earlier_stop f arguments v w m n xs ys a b stops low =
    not_there f m xs ys b.read.small (read_there f arguments a.before b.before m xs ys low a.there a.is_source (a.read.each f refl) (b.read.each f refl)) stops

pub tri : (x y : ℕ) → (x < y) ⊎ ((x ≡ y) ⊎ (y < x))
tri zero zero = inr (inl refl)
tri zero (suc y) = inl (omega arith)
tri (suc x) zero = inr (inr (omega arith))
tri (suc x) (suc y) = step (tri x y)
  where
    step : (x < y) ⊎ ((x ≡ y) ⊎ (y < x)) → (suc x < suc y) ⊎ ((suc x ≡ suc y) ⊎ (suc y < suc x))
    step (inl l) = inl (omega (arith, l))
    step (inr (inl e)) = inr (inl (ap suc e))
    step (inr (inr g)) = inr (inr (omega (arith, g)))

-- reading stops at one source
pub one_stop : (f : Files) (arguments : List (List ℕ)) (v w : ℕ) (m n : List ℕ) (xs ys : List (List ℕ)) → IsReached (Some f) arguments v m xs → IsReached (Some f) arguments w n ys → Stops f m xs → Stops f n ys
    → (v ≡ w) × (m ≡ n)
one_stop f arguments v w m n xs ys a b stops stops_too = by_order (tri a.before b.before)
  where
    by_order : (a.before < b.before) ⊎ ((a.before ≡ b.before) ⊎ (b.before < a.before)) → (v ≡ w) × (m ≡ n)
    by_order (inl low) = absurd (earlier_stop f arguments v w m n xs ys a b stops low)
    by_order (inr (inl same)) = (a.word_is ∙ ap (λ k. k + 1) same ∙ sym b.word_is, inside (sym a.there ∙ ap (slice_get arguments) same ∙ b.there))
    by_order (inr (inr high)) = absurd (earlier_stop f arguments w v n m ys xs b a stops_too high)

-- ---- the trace file

any_at : (words : List (List ℕ)) (n m : ℕ) (word : List ℕ) → n < m → slice_get words n ≡ Some word → is_of Trace word ≡ true → list_any (is_of Trace) (take m words) ≡ true
any_at words n zero word low there is = absurd (omega (arith, low))
any_at [] zero (suc m) word low there is = absurd (cc)
any_at [] (suc n) (suc m) word low there is = absurd (cc)
any_at (w ∷ words) zero (suc m) word low there is = let same : w ≡ word = inside there in ap (λ b. b || list_any (is_of Trace) (take m words)) (ap (is_of Trace) same ∙ is)
any_at (w ∷ words) (suc n) (suc m) word low there is = or_true (is_of Trace w) (any_at words n m word (omega (arith, low)) there is)
  where
    or_true : (a : Bool) {b : Bool} → b ≡ true → (a || b) ≡ true
    or_true true e = refl
    or_true false e = e

-- a word that gives the name of a trace file does so
trace_seen : (name : List ℕ) → is_of Trace (key_start Trace ++ name) ≡ true
trace_seen name = refl

trace_before : (words : List (List ℕ)) (n m : ℕ) (name : List ℕ) → n < m → slice_get words n ≡ Some (key_start Trace ++ name) → list_any (is_of Trace) (take m words) ≡ false → ⊥
trace_before words n m name low there none =
    let found = any_at words n m (key_start Trace ++ name) low there (trace_seen name) in
    let both : true ≡ false = sym found ∙ none in
    cc

-- one word is the first to name a trace file
pub one_trace : (arguments : List (List ℕ)) (v w : ℕ) (m n : List ℕ) → IsTraceWord arguments v m → IsTraceWord arguments w n → (v ≡ w) × (m ≡ n)
one_trace arguments v w m n a b = by_order (tri a.before b.before)
  where
    by_order : (a.before < b.before) ⊎ ((a.before ≡ b.before) ⊎ (b.before < a.before)) → (v ≡ w) × (m ≡ n)
    by_order (inl low) = absurd (trace_before arguments a.before b.before m low a.there b.first)
    by_order (inr (inl same)) =
        (a.word_is ∙ ap (λ k. k + 1) same ∙ sym b.word_is, append_cancel_left (key_start Trace) m n (inside (sym a.there ∙ ap (slice_get arguments) same ∙ b.there)))
    by_order (inr (inr high)) = absurd (trace_before arguments b.before a.before n high b.there a.first)

-- a trace file at which reading stops isn't read
pub trace_not_read : (f : Files) (arguments : List (List ℕ)) (word : ℕ) (name : List ℕ) (trace : Option (List ℕ)) → IsTraceWord arguments word name
    → (f name ≡ None) ⊎ ((text : List ℕ) × (f name ≡ Some text) × (most_trace < length text)) → IsTraceRead (Some f) arguments trace → ⊥
trace_not_read f arguments word name None is stops none =
    trace_before arguments is.before (length arguments) name (below arguments is.before (key_start Trace ++ name) is.there) is.there
    (ap (list_any (is_of Trace)) (take_all (length arguments) arguments (omega arith)) ∙ none)
trace_not_read f arguments word name (Some text) is stops read = by_stop stops
  where
    same : name ≡ read.1
    same = (one_trace arguments word read.0 name read.1 is read.2).1

    there : f name ≡ Some text
    there = ap f same ∙ read.3 f refl

    by_stop : (f name ≡ None) ⊎ ((other : List ℕ) × (f name ≡ Some other) × (most_trace < length other)) → ⊥
    by_stop (inl none) = let both : None ≡ Some text = sym none ∙ there in cc
    by_stop (inr (other, is_other, long)) =
        let long_too = ap length (inside (sym is_other ∙ there)) in
        let short = read.4 in
        omega (arith, long, long_too, short)

no_trace_given : (f : Files) (arguments : List (List ℕ)) (text : List ℕ) → list_any (is_of Trace) arguments ≡ false → IsTraceRead (Some f) arguments (Some text) → ⊥
no_trace_given f arguments text none read =
    let is = read.2 in
    trace_before arguments is.before (length arguments) read.1 (below arguments is.before (key_start Trace ++ read.1) is.there) is.there
    (ap (list_any (is_of Trace)) (take_all (length arguments) arguments (omega arith)) ∙ none)

-- one trace file is read, or none
pub one_trace_read : (f : Files) (arguments : List (List ℕ)) (a b : Option (List ℕ)) → IsTraceRead (Some f) arguments a → IsTraceRead (Some f) arguments b → a ≡ b
one_trace_read f arguments None None h k = refl
one_trace_read f arguments None (Some b) h k = absurd (no_trace_given f arguments b h k)
one_trace_read f arguments (Some a) None h k = absurd (no_trace_given f arguments a k h)
one_trace_read f arguments (Some a) (Some b) h k =
    let same : h.1 ≡ k.1 = (one_trace arguments h.0 k.0 h.1 k.1 h.2 k.2).1 in
    let here : f h.1 ≡ Some a = h.3 f refl in
    let there : f k.1 ≡ Some b = k.3 f refl in
    sym here ∙ ap f same ∙ there
