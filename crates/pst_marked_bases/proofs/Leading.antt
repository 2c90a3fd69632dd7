-- What types lead to, and how a chain of bases is followed by it.
use Rattle.std.proofs.Common.{◌≡◌, ◌<◌, ◌≤◌, arith, refl, sym, subst, ap, ◌∙◌, append_assoc}
use Rattle.std.specs.Prelude.{ℕ, zero, suc, ◌+◌, ◌-◌, Bool, true, false, List, [], ◌∷◌, ◌++◌, Option, Some, None, Result, Ok, Err, OnOk, reverse, length, if◌then◌else◌}
use Rattle.std.specs.List.{filter}
use Rattle.std.specs.Option.{option_map_or, option_or}
use Rattle.std.proofs.lemmas.List.{append-nil, reverse-append}
use Rattle.std.proofs.lemmas.List.Elements.{filter-append}
use Rattle.pst_base.specs.declared.position.Place.{Place}
use Rattle.pst_ast.specs.declared.scope_declaration.Declaration.{Declaration}
use Rattle.pst_ast.specs.Lookups.{base_of}
use Rattle.pst_tree.specs.Bases.{bases_within, with_bases}
use Rattle.pst_marked_bases.specs.declared.leads.Lead.{Lead}
use Rattle.pst_marked_bases.specs.Leads.{IsLead, AreLeads}
use Rattle.pst_marked_bases.specs.Marked.{is_marked, last_of, marked_bases, marked_within}

module _ (places : List Place) (ds : List Declaration) where
  abbrev marked : Declaration → Bool
  marked = is_marked places

  abbrev up : ℕ → Option Declaration → List Declaration
  up k o = option_map_or (bases_within k ds) o []

  not_one : (b : Bool) (d : Declaration) → b ≡ false → (if b then d ∷ [] else []) ≡ []
  not_one b d e = ap (λ (x : Bool). if x then d ∷ [] else []) e

  left_out : (xs : List Declaration) (d : Declaration) → marked d ≡ false → filter marked (xs ++ d ∷ []) ≡ filter marked xs
  left_out xs d un =
      filter-append marked xs (d ∷ []) ∙ ap (λ (ys : List Declaration). filter marked xs ++ ys) (not_one (marked d) d un) ∙ append-nil (filter marked xs)

  none_first : (steps k : ℕ) (d : Declaration) → steps ≡ 0 → marked_within places ds (steps + k) (Some d) ≡ marked_within places ds k (Some d)
  none_first steps k d none =
      let same : steps + k ≡ k = omega (arith, none) in
      ap (λ (n : ℕ). marked_within places ds n (Some d)) same

  pub to_itself : (row : Lead) → row.steps ≡ 0 → row.base ≡ Some row.owner → IsLead places ds row
  to_itself row none itself = record {
    same = λ k. none_first row.steps k row.owner none ∙ ap (marked_within places ds k) (sym itself);
  }

  at_top : (d : Declaration) → marked d ≡ false → base_of ds d ≡ None → (k : ℕ) → marked_within places ds k (Some d) ≡ []
  at_top d un top zero = refl
  at_top d un top (suc k) = left_out (up k (base_of ds d)) d un ∙ ap (λ (o : Option Declaration). filter marked (up k o)) top

  pub to_none : (row : Lead) → row.steps ≡ 0 → row.base ≡ None → marked row.owner ≡ false → base_of ds row.owner ≡ None → IsLead places ds row
  to_none row none nowhere un top = record {
    same = λ k. none_first row.steps k row.owner none ∙ at_top row.owner un top k ∙ ap (marked_within places ds k) (sym nowhere);
  }

  one_first : (steps before k : ℕ) (d : Declaration) → steps ≡ before + 1 → marked_within places ds (steps + k) (Some d) ≡ marked_within places ds (suc (before + k)) (Some d)
  one_first steps before k d more =
      let one : steps + k ≡ suc (before + k) = omega (arith, more) in
      ap (λ (n : ℕ). marked_within places ds n (Some d)) one

  pub by_base : (row base : Lead) → row.steps ≡ base.steps + 1 → row.base ≡ base.base → marked row.owner ≡ false → base_of ds row.owner ≡ Some base.owner → IsLead places ds base → IsLead places ds row
  by_base row base more same un is leads = record {
    same = λ k. one_first row.steps base.steps k row.owner more
        ∙ left_out (up (base.steps + k) (base_of ds row.owner)) row.owner un
        ∙ ap (λ (o : Option Declaration). filter marked (up (base.steps + k) o)) is
        ∙ leads.same k
        ∙ ap (marked_within places ds k) (sym same);
  }

  -- what is left behind so many steps
  pub behind_steps : (row : Lead) (here : Declaration) (left : ℕ) → IsLead places ds row → row.owner ≡ here → row.steps ≤ left → marked_within places ds (left - row.steps) row.base ≡ marked_within places ds left (Some here)
  behind_steps row here left leads is within =
      let all : row.steps + (left - row.steps) ≡ left = omega (arith, within) in
      sym (leads.same (left - row.steps)) ∙ (λ i. marked_within places ds (all i) (Some (is i)))

  -- one type of the chain more
  pub one_more : (k : ℕ) (base : Declaration) (chain new total : List Declaration) → 0 < k → reverse new ≡ filter marked (base ∷ []) ++ reverse chain
      → marked_within places ds k (Some base) ++ reverse chain ≡ total → marked_within places ds (k - 1) (base_of ds base) ++ reverse new ≡ total
  one_more zero base chain new total some e before = absurd (omega (arith, some))
  one_more (suc k) base chain new total some e before =
      let same : suc k - 1 ≡ k = omega arith in
      let rest = up k (base_of ds base) in
      ap (λ (n : ℕ). marked_within places ds n (base_of ds base) ++ reverse new) same
      ∙ ap (λ (xs : List Declaration). filter marked rest ++ xs) e
      ∙ sym (append_assoc (filter marked rest) (filter marked (base ∷ [])) (reverse chain))
      ∙ ap (λ (xs : List Declaration). xs ++ reverse chain) (sym (filter-append marked rest (base ∷ [])))
      ∙ before

  pub begins : (d : Declaration) (n : ℕ) → n ≡ length ds → marked_within places ds n (Some d) ++ [] ≡ marked_bases places ds d
  unfolding with_bases
  begins d n e = append-nil (marked_within places ds n (Some d)) ∙ ap (λ (k : ℕ). filter marked (bases_within k ds d)) e

  -- where nothing more is reached the chain is whole
  pub no_level : (base : Option Declaration) → marked_within places ds 0 base ≡ []
  no_level (Some b) = refl
  no_level None = refl

  pub whole : (left behind : ℕ) (at base : Option Declaration) (here : Declaration) (chain total : List Declaration) → at ≡ Some here → marked_within places ds behind base ≡ [] → marked_within places ds behind base ≡ marked_within places ds left (Some here)
      → marked_within places ds left at ++ reverse chain ≡ total → reverse chain ≡ total
  whole left behind at base here chain total is none same before =
      ap (λ (xs : List Declaration). xs ++ reverse chain) (sym none ∙ same ∙ ap (marked_within places ds left) (sym is)) ∙ before

  -- one type further
  pub further : (left behind : ℕ) (at : Option Declaration) (here base : Declaration) (chain new total : List Declaration) → at ≡ Some here → 0 < behind → marked_within places ds behind (Some base) ≡ marked_within places ds left (Some here)
      → reverse new ≡ filter marked (base ∷ []) ++ reverse chain → marked_within places ds left at ++ reverse chain ≡ total → marked_within places ds (behind - 1) (base_of ds base) ++ reverse new ≡ total
  further left behind at here base chain new total is some same e before =
      one_more behind base chain new total some e (ap (λ (xs : List Declaration). xs ++ reverse chain) (same ∙ ap (marked_within places ds left) (sym is)) ∙ before)

  -- ---- the nearest

  one : (b : Bool) (d : Declaration) → b ≡ true → (if b then d ∷ [] else []) ≡ d ∷ []
  one b d e = ap (λ (x : Bool). if x then d ∷ [] else []) e

  last_one : (xs : List Declaration) (d : Declaration) → last_of (xs ++ d ∷ []) ≡ Some d
  last_one [] d = refl
  last_one (x ∷ xs) d = ap (λ (o : Option Declaration). option_or o (Some x)) (last_one xs d)

  kept_last : (xs : List Declaration) (d : Declaration) → marked d ≡ true → last_of (filter marked (xs ++ d ∷ [])) ≡ Some d
  kept_last xs d on =
      ap last_of (filter-append marked xs (d ∷ []) ∙ ap (λ (ys : List Declaration). filter marked xs ++ ys) (one (marked d) d on)) ∙ last_one (filter marked xs) d

  pub near_begins : (d : Declaration) (n : ℕ) → n ≡ length ds → last_of (marked_within places ds n (Some d)) ≡ last_of (marked_bases places ds d)
  unfolding with_bases
  near_begins d n e = ap (λ (k : ℕ). last_of (filter marked (bases_within k ds d))) e

  pub near_none : (left behind : ℕ) (at base : Option Declaration) (here : Declaration) (total : Option Declaration) → at ≡ Some here → marked_within places ds behind base ≡ [] → marked_within places ds behind base ≡ marked_within places ds left (Some here)
      → last_of (marked_within places ds left at) ≡ total → None ≡ total
  near_none left behind at base here total is none same before = ap last_of (sym none ∙ same ∙ ap (marked_within places ds left) (sym is)) ∙ before

  near_first : (k : ℕ) (base : Declaration) → 0 < k → marked base ≡ true → last_of (marked_within places ds k (Some base)) ≡ Some base
  near_first zero base some on = absurd (omega (arith, some))
  near_first (suc k) base some on = kept_last (up k (base_of ds base)) base on

  pub near_found : (left behind : ℕ) (at : Option Declaration) (here base : Declaration) (total : Option Declaration) → at ≡ Some here → 0 < behind → marked base ≡ true → marked_within places ds behind (Some base) ≡ marked_within places ds left (Some here)
      → last_of (marked_within places ds left at) ≡ total → Some base ≡ total
  near_found left behind at here base total is some on same before = sym (near_first behind base some on) ∙ ap last_of (same ∙ ap (marked_within places ds left) (sym is)) ∙ before

  near_next : (k : ℕ) (base : Declaration) → 0 < k → marked base ≡ false → marked_within places ds (k - 1) (base_of ds base) ≡ marked_within places ds k (Some base)
  near_next zero base some un = absurd (omega (arith, some))
  near_next (suc k) base some un =
      let same : suc k - 1 ≡ k = omega arith in
      ap (λ (n : ℕ). marked_within places ds n (base_of ds base)) same ∙ sym (left_out (up k (base_of ds base)) base un)

  pub near_further : (left behind : ℕ) (at : Option Declaration) (here base : Declaration) (total : Option Declaration) → at ≡ Some here → 0 < behind → marked base ≡ false → marked_within places ds behind (Some base) ≡ marked_within places ds left (Some here)
      → last_of (marked_within places ds left at) ≡ total → last_of (marked_within places ds (behind - 1) (base_of ds base)) ≡ total
  near_further left behind at here base total is some un same before =
      ap last_of (near_next behind base some un ∙ same ∙ ap (marked_within places ds left) (sym is)) ∙ before

  pub near_end : (left : ℕ) (at : Option Declaration) (total : Option Declaration) → at ≡ None → last_of (marked_within places ds left at) ≡ total → None ≡ total
  near_end left at total is before = ap (λ (o : Option Declaration). last_of (marked_within places ds left o)) (sym is) ∙ before

  -- ---- what is kept

  nothing_at : {x : Lead} → None ≡ Some x → ⊥
  nothing_at {x} e = cc

  some_at : {x y : Lead} → Some x ≡ Some y → x ≡ y
  some_at {x} {y} e = cc

  pub none_kept : AreLeads places ds []
  none_kept k row at = absurd (nothing_at at)

  pub one_kept : (rows : List Lead) (row : Lead) → AreLeads places ds rows → IsLead places ds row → AreLeads places ds (rows ++ row ∷ [])
  one_kept [] row are is zero found at = subst (IsLead places ds) (some_at at) is
  one_kept [] row are is (suc k) found at = absurd (nothing_at at)
  one_kept (r ∷ rows) row are is zero found at = are zero found at
  one_kept (r ∷ rows) row are is (suc k) found at = one_kept rows row (λ j x e. are (suc j) x e) is k found at

-- a marked type goes before those that are there
pub put_before : (xs : List Declaration) (d : Declaration) (new : List Declaration) → new ≡ xs ++ d ∷ [] → reverse new ≡ d ∷ reverse xs
put_before xs d new e = ap (λ (l : List Declaration). reverse l) e ∙ reverse-append xs (d ∷ [])

pub with_one : (b : Bool) (d : Declaration) (xs : List Declaration) → b ≡ true → d ∷ xs ≡ (if b then d ∷ [] else []) ++ xs
with_one b d xs e = sym (ap (λ (x : Bool). (if x then d ∷ [] else []) ++ xs) e)

pub with_none : (b : Bool) (d : Declaration) (xs : List Declaration) → b ≡ false → xs ≡ (if b then d ∷ [] else []) ++ xs
with_none b d xs e = sym (ap (λ (x : Bool). (if x then d ∷ [] else []) ++ xs) e)

pub on_ok : {T E P Q : Type 0} (r : Result T E) → (P → Q) → OnOk r P → OnOk r Q
on_ok (Ok x) f h = f h
on_ok (Err e) f h = tt
