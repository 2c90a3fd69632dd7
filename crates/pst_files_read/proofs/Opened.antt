-- What opening and reading a file tells.
use Rattle.std.proofs.Common.{◌≡◌, ◌∙◌, ℕ, ◌<◌, List, length, refl, ap, sym, subst, true, false, Bool}
use Rattle.std.specs.Prelude.{Option, Some, None, is_some}
use Rattle.std.specs.Option.{ForSome}
use Rattle.std.specs.Bool.{OnTrue}
use Rattle.pst_io.specs.Shelf.{Files, TellsWhether, HasOpened}
use Rattle.pst_files_read.specs.Files.{IsLonger, IsMissing}
use Rattle.pst_files_read.specs.FilesRead.{IsOpen}

-- a file that was found is open
pub opened : (old new : Option Files) (name : List ℕ) (rest : Option (List ℕ)) (found : Bool) → new ≡ old → TellsWhether old name found → found ≡ true
    → OnTrue found (HasOpened old name rest) → IsOpen new name rest
opened old new name rest found same tells is_true on = λ f told.
    let before : old ≡ Some f = sym same ∙ told in
    let has : HasOpened old name rest = subst (λ b. OnTrue b (HasOpened old name rest)) is_true on in
    let there : true ≡ is_some (f name) = sym is_true ∙ tells f before in
    by_file f (f name) refl there (has f before)
  where
    by_file : (g : Files) (o : Option (List ℕ)) → g name ≡ o → true ≡ is_some o → rest ≡ g name → (bytes : List ℕ) × (g name ≡ Some bytes) × (rest ≡ Some bytes)
    by_file g None e h r = absurd (cc)
    by_file g (Some bytes) e h r = (bytes, e, r ∙ e)

-- a file that wasn't found isn't there
pub missing : (old : Option Files) (name : List ℕ) (found : Bool) → TellsWhether old name found → found ≡ false → IsMissing old name
missing old name found tells is_false = λ f told.
    let none : false ≡ is_some (f name) = sym is_false ∙ tells f told in
    by_file (f name) none
  where
    by_file : (o : Option (List ℕ)) → false ≡ is_some o → o ≡ None
    by_file None h = refl
    by_file (Some bytes) h = absurd (cc)

-- what is left of an open file is the file
pub whole_file : (files : Option Files) (name : List ℕ) (rest : Option (List ℕ)) (text : List ℕ) → IsOpen files name rest
    → ForSome rest (λ left. text ≡ left) → ForSome files (λ f. f name ≡ Some text)
whole_file files name rest text is_open whole = λ f told.
    let bytes = is_open f told in
    bytes.1 ∙ ap Some (sym (whole bytes.0 bytes.2))

-- a file of which more is left is longer
pub longer_file : (files : Option Files) (name : List ℕ) (rest : Option (List ℕ)) (most : ℕ) → IsOpen files name rest
    → ForSome rest (λ left. most < length left) → IsLonger files name most
longer_file files name rest most is_open long = λ f told.
    let bytes = is_open f told in
    (bytes.0, bytes.1, long bytes.0 bytes.2)
