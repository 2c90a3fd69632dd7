-- What a path that is read has before its last name.
use Rattle.std.proofs.Common.{◌≡◌, refl, sym, ap, subst}
use Rattle.std.specs.Prelude.{ℕ, Bool, true, false, not, ◌&&◌, List, [], ◌∷◌, ◌++◌, Option, Some, None, if◌then◌else◌}
use Rattle.std.proofs.lemmas.Bool.{false≢true}
use Rattle.pst_base.specs.declared.position.Place.{Place}
use Rattle.pst_base.specs.declared.table.NameId.{NameId}
use Rattle.pst_ast.specs.declared.scope_declaration.Declaration.{Declaration}
use Rattle.pst_ast.specs.declared.scope_declaration.Sort.{Sort}
use Rattle.pst_ast.specs.declared.scope_declaration.Sort.TheVariants as sort
use Rattle.pst_ast.specs.declared.environment.Environment.{Environment}
use Rattle.pst_ast.specs.declared.referent.Referent.{Referent}
use Rattle.pst_ast.specs.declared.referent.Referent.TheVariants.{Declared, Initial, Previous, Number}
use Rattle.pst_ast.specs.declared.referent.PathPart.{PathPart}
use Rattle.pst_ast.specs.declared.referent.PathReferent.{PathReferent}
use Rattle.pst_ast.specs.declared.referent.Checked.{Checked}
use Rattle.pst_ast.specs.declared.referent.Checked.TheVariants.{Is, Breaks}
use Rattle.pst_ast.specs.Lookups.{stands_for}
use Rattle.pst_ast.specs.Paths.{is_value, is_head, is_last, is_misindexed, named_behind, is_handle_referent, is_need_referent, last_behind, between, behind, is_ambiguous, alone, first_of, and_then, read_path}
use Rattle.pst_ast.specs.Sorts.{is_handle, is_need}

module _ (ds : List Declaration) (names : List (List ℕ)) (at : Environment) (p : PathPart) where
  -- what the names of a path stand for
  pub data IsPathOf : List Referent → Referent → Type 0 where
    Alone : (r : Referent) → stands_for ds names at p.name.id ≡ Some r → is_value r p.index ≡ true → IsPathOf [] r
    Behind : (h r : Referent) (name : NameId) → stands_for ds names at p.name.id ≡ Some h → is_head h ≡ true → named_behind ds names h name ≡ Some r → is_last r ≡ true → IsPathOf (h ∷ []) r
    Twice : (h n r : Referent) (name next : NameId) → stands_for ds names at p.name.id ≡ Some h → is_handle_referent h ≡ true → named_behind ds names h name ≡ Some n → is_need_referent n ≡ true
        → named_behind ds names n next ≡ Some r → is_last r ≡ true → IsPathOf (h ∷ n ∷ []) r

  abbrev Found : PathReferent → Type 0
  Found path = IsPathOf path.before path.last

  is_same : {X : Type 0} (x y : X) → ◌≡◌ {A = Checked X} (Is x) (Is y) → x ≡ y
  is_same x y e = cc

  no_break : {X : Type 0} (x : X) (place : Place) (rule : ℕ) → ◌≡◌ {A = Checked X} (Breaks place rule) (Is x) → ⊥
  no_break x place rule e = cc

  -- ---- without dots

  alone_by : (o : Option Referent) → stands_for ds names at p.name.id ≡ o → (path : PathReferent) → alone ds is_value p o ≡ Is path → Found path
  alone_by None is path e = absurd (no_break path p.name.place 3 e)
  alone_by (Some r) is path e = by (is_value r p.index) refl (is_ambiguous ds r) e
    where
      by : (b : Bool) → is_value r p.index ≡ b → (a : Bool) → (if not b then Breaks p.name.place 3 else (if a then Breaks p.name.place 4 else Is (record { before = []; last = r }))) ≡ Is path → Found path
      by false fits a e = absurd (no_break path p.name.place 3 e)
      by true fits true e = absurd (no_break path p.name.place 4 e)
      by true fits false e = subst Found (is_same (record { before = []; last = r }) path e) (Alone r is fits)

  -- ---- behind dots

  both_true : (a b : Bool) → (a && b) ≡ true → (a ≡ true) × (b ≡ true)
  both_true true true e = (refl, refl)
  both_true true false e = absurd (false≢true e)
  both_true false b e = absurd (false≢true e)

  last_by : (before : List Referent) (q : PathPart) (o : Option Referent) (path : PathReferent) → last_behind is_value before q o ≡ Is path → (r : Referent) × (o ≡ Some r) × (is_last r ≡ true) × (path ≡ record { before = before; last = r })
  last_by before q None path e = absurd (no_break path q.name.place 6 e)
  last_by before q (Some r) path e = by (is_misindexed is_value r q.index) (is_last r) refl e
    where
      by : (m l : Bool) → is_last r ≡ l → (if m then Breaks q.name.place 3 else (if l then Is (record { before = before; last = r }) else Breaks q.name.place 6)) ≡ Is path
          → (x : Referent) × (Some r ≡ Some x) × (is_last x ≡ true) × (path ≡ record { before = before; last = x })
      by true l last e = absurd (no_break path q.name.place 3 e)
      by false true last e = (r, refl, last, sym (is_same (record { before = before; last = r }) path e))
      by false false last e = absurd (no_break path q.name.place 6 e)

  between_by : (head : Referent) (q : PathPart) (next : Place) (o : Option Referent) (n : Referent) → between head q next o ≡ Is n → (o ≡ Some n) × (is_handle_referent head ≡ true) × (is_need_referent n ≡ true)
  between_by head q next None n e = absurd (no_break n q.name.place 6 e)
  between_by head q next (Some r) n e = by (is_misindexed is_value r q.index) (is_last r) (is_handle_referent head) (is_need_referent r) refl refl e
    where
      by : (m l h w : Bool) → is_handle_referent head ≡ h → is_need_referent r ≡ w
          → (if m then Breaks q.name.place 3 else (if l then Breaks next 6 else (if h && w then Is r else Breaks q.name.place 6))) ≡ Is n
          → (Some r ≡ Some n) × (is_handle_referent head ≡ true) × (is_need_referent n ≡ true)
      by true l h w a b e = absurd (no_break n q.name.place 3 e)
      by false true h w a b e = absurd (no_break n next 6 e)
      by false false false w a b e = absurd (no_break n q.name.place 6 e)
      by false false true false a b e = absurd (no_break n q.name.place 6 e)
      by false false true true a b e = let same : r ≡ n = is_same r n e in (ap (λ (x : Referent). Some x) same, a, subst (λ (x : Referent). is_need_referent x ≡ true) same b)

  sort_not_handle : (s : Sort) → is_need s ≡ true → is_handle s ≡ true → ⊥
  sort_not_handle sort.Component n h = false≢true n
  sort_not_handle (sort.Action base) n h = false≢true n
  sort_not_handle (sort.Object word) n h = false≢true n
  sort_not_handle sort.Enumeration n h = false≢true n
  sort_not_handle sort.Function n h = false≢true n
  sort_not_handle (sort.Instance of) n h = false≢true n
  sort_not_handle (sort.Pool of) n h = false≢true n
  sort_not_handle (sort.Item level) n h = false≢true n
  sort_not_handle (sort.Field array) n h = false≢true n
  sort_not_handle (sort.Reference of output) n h = false≢true h
  sort_not_handle (sort.Claim of) n h = false≢true h
  sort_not_handle (sort.Handle of) n h = false≢true n
  sort_not_handle sort.Constraint n h = false≢true n
  sort_not_handle sort.Parameter n h = false≢true n
  sort_not_handle sort.Local n h = false≢true n
  sort_not_handle sort.Index n h = false≢true n

  need_not_handle : (r : Referent) → is_need_referent r ≡ true → is_handle_referent r ≡ true → ⊥
  need_not_handle (Declared d) n h = sort_not_handle d.sort n h
  need_not_handle (Initial object) n h = false≢true n
  need_not_handle (Previous object) n h = false≢true n
  need_not_handle (Number object) n h = false≢true n

  second_by : (h n : Referent) (name : NameId) → stands_for ds names at p.name.id ≡ Some h → is_handle_referent h ≡ true → named_behind ds names h name ≡ Some n → is_need_referent n ≡ true
      → (q : PathPart) (more : List PathPart) (path : PathReferent) → behind ds names is_value (h ∷ n ∷ []) n q more ≡ Is path → Found path
  second_by h n name is handle named need q [] path e =
      let r = last_by (h ∷ n ∷ []) q (named_behind ds names n q.name.id) path e in subst Found (sym r.3) (Twice h n r.0 name q.name.id is handle named need r.1 r.2)
  second_by h n name is handle named need q (x ∷ more) path e = by (between n q x.name.place (named_behind ds names n q.name.id)) refl e
    where
      by : (c : Checked Referent) → between n q x.name.place (named_behind ds names n q.name.id) ≡ c → and_then c (λ r. behind ds names is_value ((h ∷ n ∷ []) ++ r ∷ []) r x more) ≡ Is path → Found path
      by (Is r) had e = absurd (need_not_handle n need (between_by n q x.name.place (named_behind ds names n q.name.id) r had).1)
      by (Breaks place rule) had e = absurd (no_break path place rule e)

  first_by : (h : Referent) → stands_for ds names at p.name.id ≡ Some h → is_head h ≡ true → (q : PathPart) (more : List PathPart) (path : PathReferent) → behind ds names is_value (h ∷ []) h q more ≡ Is path → Found path
  first_by h is head q [] path e =
      let r = last_by (h ∷ []) q (named_behind ds names h q.name.id) path e in subst Found (sym r.3) (Behind h r.0 q.name.id is head r.1 r.2)
  first_by h is head q (x ∷ more) path e = by (between h q x.name.place (named_behind ds names h q.name.id)) refl e
    where
      by : (c : Checked Referent) → between h q x.name.place (named_behind ds names h q.name.id) ≡ c → and_then c (λ r. behind ds names is_value ((h ∷ []) ++ r ∷ []) r x more) ≡ Is path → Found path
      by (Is r) had e =
          let b = between_by h q x.name.place (named_behind ds names h q.name.id) r had in second_by h r q.name.id is b.1 b.0 b.2 x more path e
      by (Breaks place rule) had e = absurd (no_break path place rule e)

  dotted_by : (o : Option Referent) → stands_for ds names at p.name.id ≡ o → (q : PathPart) (more : List PathPart) (path : PathReferent) → and_then (first_of p o) (λ r. behind ds names is_value (r ∷ []) r q more) ≡ Is path → Found path
  dotted_by None is q more path e = absurd (no_break path p.name.place 3 e)
  dotted_by (Some h) is q more path e = by (is_head h) refl (not p.index) e
    where
      by : (b : Bool) → is_head h ≡ b → (i : Bool) → and_then (if b && i then Is h else Breaks p.name.place 3) (λ r. behind ds names is_value (r ∷ []) r q more) ≡ Is path → Found path
      by true head true e = first_by h is head q more path e
      by true head false e = absurd (no_break path p.name.place 3 e)
      by false head i e = absurd (no_break path p.name.place 3 e)

  pub path_of : (ps : List PathPart) (path : PathReferent) → read_path ds names at is_value p ps ≡ Is path → Found path
  unfolding read_path
  path_of [] path e = alone_by (stands_for ds names at p.name.id) refl path e
  path_of (q ∷ more) path e = dotted_by (stands_for ds names at p.name.id) refl q more path e
