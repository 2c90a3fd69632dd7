-- Sources, read one after another.
use Rattle.std.proofs.Common.{◌≡◌, ◌∙◌, ℕ, suc, zero, ◌+◌, ◌-◌, ◌≤◌, Bool, true, false, List, [], ◌∷◌, ◌++◌, length, take, map, refl, ap, sym, subst, arith, cond, inl, inr, length-append}
use Rattle.std.specs.Prelude.{Option, Some, slice_get, Result, Ok, Err, IfOk, OnOk, ◌⊎◌}
use Rattle.std.specs.Option.{option_map}
use Rattle.std.proofs.lemmas.Option.{slice_get-map}
use Rattle.std.specs.List.{AllZip, filter, sum_by}
use Rattle.std.specs.Option.{ForSome}
use Rattle.std.proofs.lemmas.List.{append-nil, take_all}
use Rattle.std.proofs.lemmas.List.Sums.{sum_by-append, sum_by-cons}
use Rattle.pst_io.specs.Shelf.{Files}
use Rattle.pst_words.specs.Lines.{is_file}
use Rattle.pst_files_read.specs.Limits.{most_bytes}
use Rattle.pst_files_read.specs.Files.{AreRead, Finds, IsReached, IsSourcesEnd, IsLonger, sources_in}
use Rattle.pst_files_read.specs.FilesRead.{AreReadSoFar, end_of}
use Rattle.pst_files_read.specs.declared.files.FileFault.{FileFault}
use Rattle.pst_files_read.specs.declared.files.FileFault.TheVariants as fault
use Rattle.pst_files_read.specs.declared.files.FileEnd.{FileEnd}
use Rattle.pst_files_read.specs.declared.files.FileEnd.TheVariants as end

filter_append : {X : Type 0} (p : X → Bool) (xs : List X) (x : X) → filter p (xs ++ x ∷ []) ≡ filter p xs ++ cond (p x) (x ∷ []) []
filter_append p [] x = refl
filter_append p (y ∷ xs) x = by_test (p y) y (filter p (xs ++ x ∷ [])) (filter p xs) (cond (p x) (x ∷ []) []) (filter_append p xs x)
  where
    by_test : {Y : Type 0} (b : Bool) (z : Y) (all front back : List Y) → all ≡ front ++ back → cond b (z ∷ all) all ≡ cond b (z ∷ front) front ++ back
    by_test true z all front back e = ap (λ zs. z ∷ zs) e
    by_test false z all front back e = e

-- another word that names no source
pub sources_same : (arguments : List (List ℕ)) (i : ℕ) (word : List ℕ) → take (i + 1) arguments ≡ take i arguments ++ word ∷ [] → is_file word ≡ false → sources_in (take (i + 1) arguments) ≡ sources_in (take i arguments)
sources_same arguments i word more no_file =
    ap (filter is_file) more ∙ filter_append is_file (take i arguments) word
    ∙ ap (λ b. filter is_file (take i arguments) ++ cond b (word ∷ []) []) no_file ∙ append-nil (filter is_file (take i arguments))

-- another word that names one
pub sources_more : (arguments : List (List ℕ)) (i : ℕ) (word : List ℕ) → take (i + 1) arguments ≡ take i arguments ++ word ∷ [] → is_file word ≡ true → sources_in (take (i + 1) arguments) ≡ sources_in (take i arguments) ++ word ∷ []
sources_more arguments i word more file =
    ap (filter is_file) more ∙ filter_append is_file (take i arguments) word ∙ ap (λ b. filter is_file (take i arguments) ++ cond b (word ∷ []) []) file

pairs_more : {A B : Type 0} (R : A → B → Type 0) (xs : List A) (ys : List B) (x : A) (y : B) → AllZip R xs ys → R x y → AllZip R (xs ++ x ∷ []) (ys ++ y ∷ [])
pairs_more R [] [] x y h r = (r, tt)
pairs_more R [] (b ∷ bs) x y h r = absurd h
pairs_more R (a ∷ xs) [] x y h r = absurd h
pairs_more R (a ∷ xs) (b ∷ bs) x y h r = (h.0, pairs_more R xs bs x y h.1 r)

-- ---- the loop

pub none_read : (files : Option Files) (arguments : List (List ℕ)) → AreReadSoFar files arguments 0 [] most_bytes
none_read files arguments = record { read = record { each = λ f told. tt; as_many = refl; small = omega arith }; left_is = refl }

pub no_source_more : (files : Option Files) (arguments : List (List ℕ)) (i : ℕ) (texts : List (List ℕ)) (left : ℕ) (word : List ℕ)
    → take (i + 1) arguments ≡ take i arguments ++ word ∷ [] → is_file word ≡ false → AreReadSoFar files arguments i texts left → AreReadSoFar files arguments (i + 1) texts left
no_source_more files arguments i texts left word more no_file so_far =
    record { read = subst (λ (names : List (List ℕ)). AreRead files names texts) (sym (sources_same arguments i word more no_file)) so_far.read; left_is = so_far.left_is }

pub source_more : (files : Option Files) (arguments : List (List ℕ)) (i : ℕ) (before after : List (List ℕ)) (left more : ℕ) (word text : List ℕ)
    → take (i + 1) arguments ≡ take i arguments ++ word ∷ [] → is_file word ≡ true → AreReadSoFar files arguments i before left
    → ForSome files (λ f. f word ≡ Some text) → length text ≤ left → after ≡ before ++ text ∷ [] → more ≡ left - length text
    → AreReadSoFar files arguments (i + 1) after more
source_more files arguments i before after left more word text grown file so_far there short added more_is =
    let small = so_far.read.small in
    let left_is = so_far.left_is in
    let one : sum_by length (text ∷ []) ≡ length text + 0 = sum_by-cons length text [] in
    let both : sum_by length after ≡ sum_by length before + sum_by length (text ∷ []) = ap (sum_by length) added ∙ sum_by-append length before (text ∷ []) in
    let sums : sum_by length after ≡ sum_by length before + length text = omega (arith, one, both) in
    let names = sources_more arguments i word grown file in
    let many = so_far.read.as_many in
    record {
      read = record {
        each = λ f told. subst (AllZip (λ name t. f name ≡ Some t) (sources_in (take (i + 1) arguments))) (sym added)
            (subst (λ (ns : List (List ℕ)). AllZip (λ name t. f name ≡ Some t) ns (before ++ text ∷ [])) (sym names)
            (pairs_more (λ name t. f name ≡ Some t) (sources_in (take i arguments)) before word text (so_far.read.each f told) (there f told)));
        as_many = let a = ap length added in let b = ap length names in let c = length-append before (text ∷ []) in let d = length-append (sources_in (take i arguments)) (word ∷ []) in omega (arith, a, b, c, d, many);
        small = omega (arith, sums, small, left_is, short);
      };
      left_is = omega (arith, sums, left_is, more_is, short);
    }

-- the next source ends the reading
pub source_end : (files : Option Files) (old new : ℕ) (arguments : List (List ℕ)) (i : ℕ) (texts : List (List ℕ)) (left : ℕ) (word : List ℕ) (f : FileFault) (e : FileEnd)
    → slice_get arguments i ≡ Some word → is_file word ≡ true → AreReadSoFar files arguments i texts left → Finds files old new word left (Err f)
    → (e ≡ end.NoMemory) ⊎ (e ≡ end_of f (i + 1)) → IsSourcesEnd files old new arguments e
source_end files old new arguments i texts left word f e there file so_far found (inl gave_up) = subst (IsSourcesEnd files old new arguments) (sym gave_up) tt
source_end files old new arguments i texts left word f e there file so_far found (inr same) = subst (IsSourcesEnd files old new arguments) (sym same) (by_fault f found)
  where
    reached : IsReached files arguments (i + 1) word texts
    reached = record { before = i; word_is = refl; there = there; is_source = file; read = so_far.read }

    by_fault : (g : FileFault) → Finds files old new word left (Err g) → IsSourcesEnd files old new arguments (end_of g (i + 1))
    by_fault fault.Missing h = (h.0, (word, texts, reached, h.1))
    by_fault fault.Failed h = (h, (word, texts, reached))
    by_fault fault.TooLong h = (h.0, (i + 1, word, texts, reached, subst (λ most. IsLonger files word most) so_far.left_is h.1))
    by_fault fault.NoMemory h = tt

-- what the loop keeps
pub record IsReadingFiles (files_before files_after : Option Files) (faults_before faults_after : ℕ) (arguments : List (List ℕ)) (number : ℕ) (texts : List (List ℕ)) (left : ℕ) : Type 0 where
  pub same_files : files_after ≡ files_before
  pub count : faults_after ≡ faults_before
  pub read : AreReadSoFar files_before arguments number texts left

-- all sources are read
pub all_read : (files : Option Files) (arguments : List (List ℕ)) (number : ℕ) (texts : List (List ℕ)) (left : ℕ) → length arguments ≤ number → AreReadSoFar files arguments number texts left
    → AreRead files (sources_in arguments) texts
all_read files arguments number texts left end so_far = subst (λ (ws : List (List ℕ)). AreRead files (sources_in ws) texts) (take_all number arguments end) so_far.read

-- the words before a place and the one there, as bytes
pub taken : {A : Type 0} (f : A → List ℕ) (xs : List A) (i : ℕ) (x : A) → slice_get xs i ≡ Some x → take (i + 1) (map f xs) ≡ take i (map f xs) ++ f x ∷ []
taken f [] zero x h = absurd (cc)
taken f [] (suc i) x h = absurd (cc)
taken f (y ∷ xs) zero x h = let same : y ≡ x = cc in ap (λ z. f z ∷ []) same
taken f (y ∷ xs) (suc i) x h =
    let e : suc i + 1 ≡ suc (i + 1) = omega arith in
    ap (λ k. take k (f y ∷ map f xs)) e ∙ ap (λ t. f y ∷ t) (taken f xs i x h)

pub slice_get_mapped : {A : Type 0} (f : A → List ℕ) (xs : List A) (i : ℕ) (x : A) → slice_get xs i ≡ Some x → slice_get (map f xs) i ≡ Some (f x)
slice_get_mapped f xs i x e = slice_get-map f xs i ∙ ap (option_map f) e

-- what holds of a number once a text is added
pub if_added : {E : Type 0} (r : Result ℕ E) (k : ℕ) (A : Type 0) (Q : ℕ → Type 0) → OnOk r A → IfOk r (λ m. m ≡ k) → ((m : ℕ) → A → m ≡ k → Q m) → IfOk r Q
if_added (Ok m) k A Q added is f = f m added is
if_added (Err e) k A Q added is f = tt

-- files and a count that are the same end the same
pub ended_same : (files others : Option Files) (old other new : ℕ) (arguments : List (List ℕ)) (e : FileEnd) → others ≡ files → other ≡ old → IsSourcesEnd others other new arguments e → IsSourcesEnd files old new arguments e
ended_same files others old other new arguments e same count h =
    subst (λ n. IsSourcesEnd files n new arguments e) count (subst (λ (fs : Option Files). IsSourcesEnd fs other new arguments e) same h)
