-- A path has one answer: the one that is computed.
use Rattle.std.proofs.Common.{◌≡◌, refl, sym, ap, subst, ◌∙◌}
use Rattle.std.specs.Prelude.{ℕ, Bool, true, false, not, ◌&&◌, List, [], ◌∷◌, ◌++◌, Option, Some, None, if◌then◌else◌}
use Rattle.pst_ast.specs.declared.scope_declaration.Declaration.{Declaration}
use Rattle.pst_ast.specs.Lookups.{Environment, Referent, stands_for}
use Rattle.pst_ast.specs.Paths.{Checked, Is, Breaks, PathPart, PathReferent, and_then, is_value, is_head, is_last, is_misindexed, is_ambiguous, is_handle_referent, is_need_referent, named_behind, last_behind, between, behind, alone, first_of, read_path}
use Rattle.pst_ast.specs.PathAnswers.{BehindAnswer, NotThere, LastMisindexed, NotLast, Last, Misindexed, BehindValue, NotBetween, Between, PathAnswer, Unknown, Unfit, Ambiguous, Alone, NotHead, Dotted}

module _ (ds : List Declaration) (names : List (List ℕ)) (fits : Referent → Bool → Bool) where
  -- ---- names behind a head: what is computed is an answer

  last_answered : (before : List Referent) (head : Referent) (p : PathPart) → BehindAnswer ds names fits before head p [] (behind ds names fits before head p [])
  last_answered before head p = by (named_behind ds names head p.name.id) refl
    where
      rows : (r : Referent) → named_behind ds names head p.name.id ≡ Some r → (m : Bool) → is_misindexed fits r p.index ≡ m → (l : Bool) → is_last r ≡ l
          → BehindAnswer ds names fits before head p [] (if m then Breaks p.name.place 3 else (if l then Is (record { before = before; last = r }) else Breaks p.name.place 6))
      rows r named true misindexed l last = LastMisindexed before head r p named misindexed
      rows r named false read true last = Last before head r p named read last
      rows r named false read false last = NotLast before head r p named read last

      by : (o : Option Referent) → named_behind ds names head p.name.id ≡ o → BehindAnswer ds names fits before head p [] (last_behind fits before p o)
      by None named = NotThere before head p [] named
      by (Some r) named = rows r named (is_misindexed fits r p.index) refl (is_last r) refl

  abbrev On : List PathPart → Type 0
  On more = (before : List Referent) (head : Referent) (p : PathPart) → BehindAnswer ds names fits before head p more (behind ds names fits before head p more)

  between_answered : (q : PathPart) (more : List PathPart) → On more → On (q ∷ more)
  between_answered q more on before head p = by (named_behind ds names head p.name.id) refl
    where
      rows : (r : Referent) → named_behind ds names head p.name.id ≡ Some r → (m : Bool) → is_misindexed is_value r p.index ≡ m → (l : Bool) → is_last r ≡ l → (n : Bool) → (is_handle_referent head && is_need_referent r) ≡ n
          → BehindAnswer ds names fits before head p (q ∷ more) (and_then (if m then Breaks p.name.place 3 else (if l then Breaks q.name.place 6 else (if n then Is r else Breaks p.name.place 6))) (λ x. behind ds names fits (before ++ x ∷ []) x q more))
      rows r named true misindexed l last n need = Misindexed before head r p q more named misindexed
      rows r named false read true last n need = BehindValue before head r p q more named read last
      rows r named false read false last true need = Between before head r p q more (behind ds names fits (before ++ r ∷ []) r q more) named read last need (on (before ++ r ∷ []) r q)
      rows r named false read false last false need = NotBetween before head r p q more named read last need

      by : (o : Option Referent) → named_behind ds names head p.name.id ≡ o → BehindAnswer ds names fits before head p (q ∷ more) (and_then (between head p q.name.place o) (λ x. behind ds names fits (before ++ x ∷ []) x q more))
      by None named = NotThere before head p (q ∷ more) named
      by (Some r) named = rows r named (is_misindexed is_value r p.index) refl (is_last r) refl (is_handle_referent head && is_need_referent r) refl

  behind_answered : (more : List PathPart) → On more
  behind_answered [] before head p = last_answered before head p
  behind_answered (q ∷ more) before head p = between_answered q more (behind_answered more) before head p

  -- ---- and the only one

  absent_computed : (rest : List PathPart) (before : List Referent) (head : Referent) (p : PathPart) → named_behind ds names head p.name.id ≡ None → behind ds names fits before head p rest ≡ Breaks p.name.place 6
  absent_computed [] before head p named = ap (last_behind fits before p) named
  absent_computed (q ∷ more) before head p named = ap (λ (o : Option Referent). and_then (between head p q.name.place o) (λ x. behind ds names fits (before ++ x ∷ []) x q more)) named

  last_computed : (before : List Referent) (head : Referent) (p : PathPart) (r : Referent) (m l : Bool) → named_behind ds names head p.name.id ≡ Some r → is_misindexed fits r p.index ≡ m → is_last r ≡ l
      → behind ds names fits before head p [] ≡ (if m then Breaks p.name.place 3 else (if l then Is (record { before = before; last = r }) else Breaks p.name.place 6))
  last_computed before head p r m l named misindexed last =
      ap (last_behind fits before p) named ∙ (λ i. if misindexed i then Breaks p.name.place 3 else (if last i then Is (record { before = before; last = r }) else Breaks p.name.place 6))

  between_computed : (before : List Referent) (head : Referent) (p : PathPart) (r : Referent) (q : PathPart) (more : List PathPart) (m l n : Bool) → named_behind ds names head p.name.id ≡ Some r
      → is_misindexed is_value r p.index ≡ m → is_last r ≡ l → (is_handle_referent head && is_need_referent r) ≡ n
      → behind ds names fits before head p (q ∷ more)
      ≡ and_then (if m then Breaks p.name.place 3 else (if l then Breaks q.name.place 6 else (if n then Is r else Breaks p.name.place 6))) (λ x. behind ds names fits (before ++ x ∷ []) x q more)
  between_computed before head p r q more m l n named misindexed last need =
      ap (λ (o : Option Referent). and_then (between head p q.name.place o) (λ x. behind ds names fits (before ++ x ∷ []) x q more)) named
      ∙ (λ i. and_then (if misindexed i then Breaks p.name.place 3 else (if last i then Breaks q.name.place 6 else (if need i then Is r else Breaks p.name.place 6))) (λ x. behind ds names fits (before ++ x ∷ []) x q more))

  behind_computed : (before : List Referent) (head : Referent) (p : PathPart) (rest : List PathPart) (answer : Checked PathReferent) → BehindAnswer ds names fits before head p rest answer → behind ds names fits before head p rest ≡ answer
  behind_computed _ _ _ _ _ (NotThere before head p rest named) = absent_computed rest before head p named
  behind_computed _ _ _ _ _ (LastMisindexed before head r p named misindexed) = last_computed before head p r true (is_last r) named misindexed refl
  behind_computed _ _ _ _ _ (NotLast before head r p named read last) = last_computed before head p r false false named read last
  behind_computed _ _ _ _ _ (Last before head r p named read last) = last_computed before head p r false true named read last
  behind_computed _ _ _ _ _ (Misindexed before head r p q more named misindexed) =
      between_computed before head p r q more true (is_last r) (is_handle_referent head && is_need_referent r) named misindexed refl refl
  behind_computed _ _ _ _ _ (BehindValue before head r p q more named read last) =
      between_computed before head p r q more false true (is_handle_referent head && is_need_referent r) named read last refl
  behind_computed _ _ _ _ _ (NotBetween before head r p q more named read last need) = between_computed before head p r q more false false false named read last need
  behind_computed _ _ _ _ _ (Between before head r p q more answer named read last need on) =
      between_computed before head p r q more false false true named read last need ∙ behind_computed (before ++ r ∷ []) r q more answer on

  -- ---- whole paths

  module _ (at : Environment) (p : PathPart) where
    alone_answered : PathAnswer ds names at fits p [] (alone ds fits p (stands_for ds names at p.name.id))
    alone_answered = by (stands_for ds names at p.name.id) refl
      where
        rows : (r : Referent) → stands_for ds names at p.name.id ≡ Some r → (f : Bool) → fits r p.index ≡ f → (a : Bool) → is_ambiguous ds r ≡ a
            → PathAnswer ds names at fits p [] (if not f then Breaks p.name.place 3 else (if a then Breaks p.name.place 4 else Is (record { before = []; last = r })))
        rows r is false unfit a doubled = Unfit r is unfit
        rows r is true fit true doubled = Ambiguous r is fit doubled
        rows r is true fit false doubled = Alone r is fit doubled

        by : (o : Option Referent) → stands_for ds names at p.name.id ≡ o → PathAnswer ds names at fits p [] (alone ds fits p o)
        by None is = Unknown [] is
        by (Some r) is = rows r is (fits r p.index) refl (is_ambiguous ds r) refl

    dotted_answered : (q : PathPart) (more : List PathPart) → PathAnswer ds names at fits p (q ∷ more) (and_then (first_of p (stands_for ds names at p.name.id)) (λ r. behind ds names fits (r ∷ []) r q more))
    dotted_answered q more = by (stands_for ds names at p.name.id) refl
      where
        rows : (r : Referent) → stands_for ds names at p.name.id ≡ Some r → (h : Bool) → (is_head r && not p.index) ≡ h
            → PathAnswer ds names at fits p (q ∷ more) (and_then (if h then Is r else Breaks p.name.place 3) (λ x. behind ds names fits (x ∷ []) x q more))
        rows r is true head = Dotted r q more (behind ds names fits (r ∷ []) r q more) is head (behind_answered more (r ∷ []) r q)
        rows r is false head = NotHead r q more is head

        by : (o : Option Referent) → stands_for ds names at p.name.id ≡ o → PathAnswer ds names at fits p (q ∷ more) (and_then (first_of p o) (λ x. behind ds names fits (x ∷ []) x q more))
        by None is = Unknown (q ∷ more) is
        by (Some r) is = rows r is (is_head r && not p.index) refl

    pub computed_answers : (rest : List PathPart) → PathAnswer ds names at fits p rest (read_path ds names at fits p rest)
    unfolding read_path
    computed_answers [] = alone_answered
    computed_answers (q ∷ more) = dotted_answered q more

    unknown_computed : (rest : List PathPart) → stands_for ds names at p.name.id ≡ None → read_path ds names at fits p rest ≡ Breaks p.name.place 3
    unfolding read_path
    unknown_computed [] is = ap (alone ds fits p) is
    unknown_computed (q ∷ more) is = ap (λ (o : Option Referent). and_then (first_of p o) (λ x. behind ds names fits (x ∷ []) x q more)) is

    alone_computed : (r : Referent) (f a : Bool) → stands_for ds names at p.name.id ≡ Some r → fits r p.index ≡ f → is_ambiguous ds r ≡ a
        → read_path ds names at fits p [] ≡ (if not f then Breaks p.name.place 3 else (if a then Breaks p.name.place 4 else Is (record { before = []; last = r })))
    unfolding read_path
    alone_computed r f a is fit doubled =
        ap (alone ds fits p) is ∙ (λ i. if not (fit i) then Breaks p.name.place 3 else (if doubled i then Breaks p.name.place 4 else Is (record { before = []; last = r })))

    dotted_computed : (r : Referent) (q : PathPart) (more : List PathPart) (h : Bool) → stands_for ds names at p.name.id ≡ Some r → (is_head r && not p.index) ≡ h
        → read_path ds names at fits p (q ∷ more) ≡ and_then (if h then Is r else Breaks p.name.place 3) (λ x. behind ds names fits (x ∷ []) x q more)
    unfolding read_path
    dotted_computed r q more h is head =
        ap (λ (o : Option Referent). and_then (first_of p o) (λ x. behind ds names fits (x ∷ []) x q more)) is
        ∙ (λ i. and_then (if head i then Is r else Breaks p.name.place 3) (λ x. behind ds names fits (x ∷ []) x q more))

    pub answers_are_computed : (rest : List PathPart) (answer : Checked PathReferent) → PathAnswer ds names at fits p rest answer → read_path ds names at fits p rest ≡ answer
    answers_are_computed _ _ (Unknown rest is) = unknown_computed rest is
    answers_are_computed _ _ (Unfit r is unfit) = alone_computed r false (is_ambiguous ds r) is unfit refl
    answers_are_computed _ _ (Ambiguous r is fit doubled) = alone_computed r true true is fit doubled
    answers_are_computed _ _ (Alone r is fit doubled) = alone_computed r true false is fit doubled
    answers_are_computed _ _ (NotHead r q more is head) = dotted_computed r q more false is head
    answers_are_computed _ _ (Dotted r q more answer is head on) = dotted_computed r q more true is head ∙ behind_computed (r ∷ []) r q more answer on
