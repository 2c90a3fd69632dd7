-- What is answered of a path of names with dots between them: what its names stand for, or its first wrong name with the rule that it breaks.
-- Each row is an answer. A path has one, which `read_path` computes (`paths_have_one_answer`).
use Rattle.std.specs.Prelude.{◌≡◌, ℕ, Bool, IsTrue, IsFalse, not, ◌&&◌, List, [], ◌∷◌, ◌++◌, Some, None}
use Rattle.pst_ast.specs.declared.scope_declaration.Declaration.{Declaration}
use Rattle.pst_ast.specs.Lookups.{Environment, Referent, stands_for}
use Rattle.pst_ast.specs.Paths.{Checked, Is, Breaks, PathPart, PathReferent, is_value, is_head, is_last, is_misindexed, is_ambiguous, is_handle_referent, is_need_referent, named_behind, read_path}

-- Of the names behind a head, where no name before them is wrong: of the first of them and the rest.
pub data BehindAnswer (ds : List Declaration) (names : List (List ℕ)) (fits : Referent → Bool → Bool) : List Referent → Referent → PathPart → List PathPart → Checked PathReferent → Type 0 where
  -- nothing of that name is there
  NotThere : (before : List Referent) (head : Referent) (p : PathPart) (rest : List PathPart) → named_behind ds names head p.name.id ≡ None → BehindAnswer ds names fits before head p rest (Breaks p.name.place 6)
  -- behind the last dot: an array without an index, something else with one, or something else than an array in a `foreach`
  LastMisindexed : (before : List Referent) (head r : Referent) (p : PathPart) → named_behind ds names head p.name.id ≡ Some r → IsTrue (is_misindexed fits r p.index)
      → BehindAnswer ds names fits before head p [] (Breaks p.name.place 3)
  -- else, what may not stand there: neither a field nor `initial` nor `instance_id`
  NotLast : (before : List Referent) (head r : Referent) (p : PathPart) → named_behind ds names head p.name.id ≡ Some r → IsFalse (is_misindexed fits r p.index) → IsFalse (is_last r)
      → BehindAnswer ds names fits before head p [] (Breaks p.name.place 6)
  -- else the path stands for it
  Last : (before : List Referent) (head r : Referent) (p : PathPart) → named_behind ds names head p.name.id ≡ Some r → IsFalse (is_misindexed fits r p.index) → IsTrue (is_last r)
      → BehindAnswer ds names fits before head p [] (Is (record { before = before; last = r }))
  -- between two dots: an array without an index, or something else with one
  Misindexed : (before : List Referent) (head r : Referent) (p q : PathPart) (more : List PathPart) → named_behind ds names head p.name.id ≡ Some r → IsTrue (is_misindexed is_value r p.index)
      → BehindAnswer ds names fits before head p (q ∷ more) (Breaks p.name.place 3)
  -- else, behind a value: the name after it
  BehindValue : (before : List Referent) (head r : Referent) (p q : PathPart) (more : List PathPart) → named_behind ds names head p.name.id ≡ Some r → IsFalse (is_misindexed is_value r p.index) → IsTrue (is_last r)
      → BehindAnswer ds names fits before head p (q ∷ more) (Breaks q.name.place 6)
  -- else, what is no reference or claim of the action behind a handle
  NotBetween : (before : List Referent) (head r : Referent) (p q : PathPart) (more : List PathPart) → named_behind ds names head p.name.id ≡ Some r → IsFalse (is_misindexed is_value r p.index) → IsFalse (is_last r)
      → IsFalse (is_handle_referent head && is_need_referent r) → BehindAnswer ds names fits before head p (q ∷ more) (Breaks p.name.place 6)
  -- else it is a head of the names behind it
  Between : (before : List Referent) (head r : Referent) (p q : PathPart) (more : List PathPart) (answer : Checked PathReferent) → named_behind ds names head p.name.id ≡ Some r
      → IsFalse (is_misindexed is_value r p.index) → IsFalse (is_last r) → IsTrue (is_handle_referent head && is_need_referent r) → BehindAnswer ds names fits (before ++ r ∷ []) r q more answer
      → BehindAnswer ds names fits before head p (q ∷ more) answer

-- Of a whole path: its first name, and those behind dots.
pub data PathAnswer (ds : List Declaration) (names : List (List ℕ)) (at : Environment) (fits : Referent → Bool → Bool) (p : PathPart) : List PathPart → Checked PathReferent → Type 0 where
  -- it stands for nothing
  Unknown : (rest : List PathPart) → stands_for ds names at p.name.id ≡ None → PathAnswer ds names at fits p rest (Breaks p.name.place 3)
  -- without a dot: another thing than is asked for, an array without an index, or something else with one
  Unfit : (r : Referent) → stands_for ds names at p.name.id ≡ Some r → IsFalse (fits r p.index) → PathAnswer ds names at fits p [] (Breaks p.name.place 3)
  -- an item of two enums of one level
  Ambiguous : (r : Referent) → stands_for ds names at p.name.id ≡ Some r → IsTrue (fits r p.index) → IsTrue (is_ambiguous ds r) → PathAnswer ds names at fits p [] (Breaks p.name.place 4)
  -- else the path stands for it
  Alone : (r : Referent) → stands_for ds names at p.name.id ≡ Some r → IsTrue (fits r p.index) → IsFalse (is_ambiguous ds r) → PathAnswer ds names at fits p [] (Is (record { before = []; last = r }))
  -- before a dot: what is no reference, claim or handle and not `prev`, or has an index
  NotHead : (r : Referent) (q : PathPart) (more : List PathPart) → stands_for ds names at p.name.id ≡ Some r → IsFalse (is_head r && not p.index) → PathAnswer ds names at fits p (q ∷ more) (Breaks p.name.place 3)
  -- else the names behind it
  Dotted : (r : Referent) (q : PathPart) (more : List PathPart) (answer : Checked PathReferent) → stands_for ds names at p.name.id ≡ Some r → IsTrue (is_head r && not p.index)
      → BehindAnswer ds names fits (r ∷ []) r q more answer → PathAnswer ds names at fits p (q ∷ more) answer

-- a path has an answer, the one that is computed, and no other
abbrev pub PathsHaveOneAnswer : Type 0
PathsHaveOneAnswer =
    (ds : List Declaration) (names : List (List ℕ)) (at : Environment) (fits : Referent → Bool → Bool) (p : PathPart) (rest : List PathPart)
    → PathAnswer ds names at fits p rest (read_path ds names at fits p rest)
    × ((a b : Checked PathReferent) → PathAnswer ds names at fits p rest a → PathAnswer ds names at fits p rest b → a ≡ b)
