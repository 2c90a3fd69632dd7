-- What the links of references keep, whatever their values are.
use Rattle.std.proofs.Common.{◌≡◌, ◌⊎◌, ℕ, ◌<◌, List, [], ◌∷◌, ◌++◌, length, true, Option, Some, None, refl, sym, ap, ◌∙◌, subst, inl, inr, ⊎_elim}
use Rattle.std.specs.Prelude.{slice_get}
use Rattle.std.specs.Option.{option_map, option_and_then}
use Rattle.std.proofs.lemmas.Option.{same_Some, slice_get_within, option_and_then_some}
use Rattle.std.proofs.lemmas.Bool.{cases_eq}
use Rattle.pst_scen.specs.declared.act.Flow.TheVariants.{StateOut}
use Rattle.pst_scen.specs.declared.act.Link.{Link}
use Rattle.pst_scen.specs.declared.act.Link.TheVariants as link
use Rattle.pst_legal.specs.Supplied.{is_source_for}
use Rattle.pst_built.proofs.Bares.{Bare, bare_at, alter_at, alter_off, with_bare_link, row_with_link, put_bare}
use Rattle.pst_built.proofs.Parents.{get_more}
use Rattle.pst_built.proofs.Opens.{AreOpen, IsOpenRow, bare_cases}

-- ---- one link more

pub put_at : (rows : List (List Bare)) (a r : ℕ) (to : Link) (x : Bare) → bare_at rows a r ≡ Some x → bare_at (put_bare a r to rows) a r ≡ Some (with_bare_link to x)
put_at rows a r to x is =
    option_and_then_some (λ xs. slice_get xs r) (slice_get rows a) x is
    (λ xs there has.
    ap (λ row. option_and_then (λ ys. slice_get ys r) row) (alter_at (row_with_link r to) a rows ∙ ap (option_map (row_with_link r to)) there)
    ∙ alter_at (with_bare_link to) r xs ∙ ap (option_map (with_bare_link to)) has)

by_row : (row : Option (List Bare)) (r q : ℕ) (to : Link) → (r ≡ q → ⊥)
    → option_and_then (λ xs. slice_get xs q) (option_map (row_with_link r to) row) ≡ option_and_then (λ xs. slice_get xs q) row
by_row None r q to other = refl
by_row (Some xs) r q to other = alter_off (with_bare_link to) r q xs other

put_in_row : (rows : List (List Bare)) (a r : ℕ) (to : Link) (q : ℕ) → (r ≡ q → ⊥) → bare_at (put_bare a r to rows) a q ≡ bare_at rows a q
put_in_row rows a r to q other = ap (λ row. option_and_then (λ xs. slice_get xs q) row) (alter_at (row_with_link r to) a rows) ∙ by_row (slice_get rows a) r q to other

pub put_off : (rows : List (List Bare)) (a r : ℕ) (to : Link) (b q : ℕ) → (a ≡ b → r ≡ q → ⊥) → bare_at (put_bare a r to rows) b q ≡ bare_at rows b q
put_off rows a r to b q other =
    ⊎_elim
    (λ e. subst (λ v. bare_at (put_bare a r to rows) v q ≡ bare_at rows v q) e (put_in_row rows a r to q (other e)))
    (λ n. ap (λ row. option_and_then (λ xs. slice_get xs q) row) (alter_off (row_with_link r to) a b rows n)) (cases_eq a b)

same_or : (a r b q : ℕ) → ((a ≡ b) × (r ≡ q)) ⊎ (a ≡ b → r ≡ q → ⊥)
same_or a r b q = ⊎_elim (λ e. ⊎_elim (λ f. inl (e, f)) (λ n. inr (λ g h. n h)) (cases_eq r q)) (λ n. inr (λ g h. n g)) (cases_eq a b)

-- a reference is the one that is linked, or as before
pub put_cases : (rows : List (List Bare)) (a r : ℕ) (to : Link) (x : Bare) (b q : ℕ) (y : Bare) → bare_at rows a r ≡ Some x → bare_at (put_bare a r to rows) b q ≡ Some y
    → ((a ≡ b) × (r ≡ q) × (with_bare_link to x ≡ y)) ⊎ ((a ≡ b → r ≡ q → ⊥) × (bare_at rows b q ≡ Some y))
put_cases rows a r to x b q y is at =
    ⊎_elim
    (λ e. let here : bare_at (put_bare a r to rows) b q ≡ Some (with_bare_link to x) =
    subst (λ v. bare_at (put_bare a r to rows) v q ≡ Some (with_bare_link to x)) e.0
    (subst (λ w. bare_at (put_bare a r to rows) a w ≡ Some (with_bare_link to x)) e.1 (put_at rows a r to x is)) in
    inl (e.0, e.1, same_Some (with_bare_link to x) y (sym here ∙ at)))
    (λ n. inr (n, sym (put_off rows a r to b q n) ∙ at)) (same_or a r b q)

-- a reference keeps its flow and its pool
pub record IsStill (rows : List (List Bare)) (b q : ℕ) (y : Bare) : Type 0 where
  pub now : Bare
  pub is : bare_at rows b q ≡ Some now
  pub flow : now.flow ≡ y.flow
  pub pool : now.pool ≡ y.pool

pub put_still : (rows : List (List Bare)) (a r : ℕ) (to : Link) (b q : ℕ) (y : Bare) → bare_at rows b q ≡ Some y → IsStill (put_bare a r to rows) b q y
put_still rows a r to b q y is =
    ⊎_elim
    (λ e. let at : bare_at rows a r ≡ Some y = subst (λ v. bare_at rows v r ≡ Some y) (sym e.0) (subst (λ w. bare_at rows b w ≡ Some y) (sym e.1) is) in
    record {
      now = with_bare_link to y;
      is = subst (λ v. bare_at (put_bare a r to rows) v q ≡ Some (with_bare_link to y)) e.0
          (subst (λ w. bare_at (put_bare a r to rows) a w ≡ Some (with_bare_link to y)) e.1 (put_at rows a r to y at));
      flow = refl;
      pool = refl;
    })
    (λ n. record { now = y; is = put_off rows a r to b q n ∙ is; flow = refl; pool = refl }) (same_or a r b q)

-- ---- one action more

by_more : (rows : List (List Bare)) (row : List Bare) (a r : ℕ) (x : Bare) (xs : List Bare) → slice_get rows a ≡ Some xs → slice_get xs r ≡ Some x → bare_at (rows ++ row ∷ []) a r ≡ Some x
by_more rows row a r x xs there has = ap (λ v. option_and_then (λ ys. slice_get ys r) v) (get_more rows (row ∷ []) a xs there) ∙ has

pub bare_more : (rows : List (List Bare)) (row : List Bare) (a r : ℕ) (x : Bare) → bare_at rows a r ≡ Some x → bare_at (rows ++ row ∷ []) a r ≡ Some x
bare_more rows row a r x is = option_and_then_some (λ xs. slice_get xs r) (slice_get rows a) x is (λ xs there has. by_more rows row a r x xs there has)

pub bare_within : (rows : List (List Bare)) (a r : ℕ) (x : Bare) → bare_at rows a r ≡ Some x → a < length rows
bare_within rows a r x is = option_and_then_some (λ xs. slice_get xs r) (slice_get rows a) x is (λ xs there has. slice_get_within rows a xs there)

-- ---- links to actions

-- the reference is one of another action in the same pool, and may be the source
pub record IsSourceAt (rows : List (List Bare)) (a : ℕ) (x : Bare) (b q : ℕ) : Type 0 where
  pub other : b ≡ a → ⊥
  pub source : Bare
  pub is : bare_at rows b q ≡ Some source
  pub fits : is_source_for x.flow source.flow ≡ true
  pub pool : source.pool ≡ x.pool

-- Each link to an action leads to a source that there is, and no two outputs to one pool have the same previous writer.
pub record Links (rows : List (List Bare)) : Type 0 where
  pub there : (a r b q : ℕ) (x : Bare) → bare_at rows a r ≡ Some x → x.link ≡ link.Act b q → IsSourceAt rows a x b q
  pub once : (a r b q : ℕ) (x y : Bare) → bare_at rows a r ≡ Some x → bare_at rows b q ≡ Some y
      → x.flow ≡ StateOut → y.flow ≡ StateOut → x.pool ≡ y.pool → x.link ≡ y.link → (x.link ≡ link.Nothing → ⊥) → (a ≡ b) × (r ≡ q)

-- the reference of an action may have that link
pub record MayLink (rows : List (List Bare)) (a : ℕ) (x : Bare) (to : Link) : Type 0 where
  pub there : (b q : ℕ) → to ≡ link.Act b q → IsSourceAt rows a x b q
  pub fresh : x.flow ≡ StateOut → (b q : ℕ) (y : Bare) → bare_at rows b q ≡ Some y → y.flow ≡ StateOut → y.pool ≡ x.pool → y.link ≡ to → ⊥

pub open_links : (rows : List (List Bare)) → AreOpen rows → Links rows
open_links rows unlinked = record {
  there = λ a r b q x is e. let none = unlinked a r x is in absurd (no_act b q (sym none ∙ e));
  once = λ a r b q x y is at f g p e some. absurd (some (unlinked a r x is));
}
  where
    no_act : (b q : ℕ) → link.Nothing ≡ link.Act b q → ⊥
    no_act b q e = cc

source_more : (rows : List (List Bare)) (row : List Bare) (a : ℕ) (x : Bare) (b q : ℕ) → IsSourceAt rows a x b q → IsSourceAt (rows ++ row ∷ []) a x b q
source_more rows row a x b q s = record { other = s.other; source = s.source; is = bare_more rows row b q s.source s.is; fits = s.fits; pool = s.pool }

nothing_act : (l : Link) (b q : ℕ) → l ≡ link.Nothing → l ≡ link.Act b q → ⊥
nothing_act l b q none e = let f : link.Nothing ≡ link.Act b q = sym none ∙ e in cc

pub push_links : (rows : List (List Bare)) (row : List Bare) → Links rows → IsOpenRow row → Links (rows ++ row ∷ [])
push_links rows row links unlinked = record {
  there = λ a r b q x is e. ⊎_elim (λ old. source_more rows row a x b q (links.there a r b q x old e)) (λ new. absurd (nothing_act x.link b q (unlinked r x new.1) e)) (bare_cases rows row a r x is);
  once = λ a r b q x y is at f g p e some. ⊎_elim
      (λ old. ⊎_elim (λ older. links.once a r b q x y old older f g p e some) (λ new. absurd (some (e ∙ unlinked q y new.1))) (bare_cases rows row b q y at))
      (λ new. absurd (some (unlinked r x new.1))) (bare_cases rows row a r x is);
}

source_put : (rows : List (List Bare)) (a r : ℕ) (to : Link) (c d : ℕ) (x z : Bare) (b q : ℕ) → IsSourceAt rows c x b q → c ≡ d → z.flow ≡ x.flow → z.pool ≡ x.pool → IsSourceAt (put_bare a r to rows) d z b q
source_put rows a r to c d x z b q s same flow pool =
    let still = put_still rows a r to b q s.source s.is in
    record {
      other = λ e. s.other (e ∙ sym same);
      source = still.now;
      is = still.is;
      fits = subst (λ f. is_source_for f still.now.flow ≡ true) (sym flow) (subst (λ g. is_source_for x.flow g ≡ true) (sym still.flow) s.fits);
      pool = still.pool ∙ s.pool ∙ sym pool;
    }

pub put_links : (rows : List (List Bare)) (a r : ℕ) (x : Bare) (to : Link) → Links rows → bare_at rows a r ≡ Some x → MayLink rows a x to → Links (put_bare a r to rows)
put_links rows a r x to links is may = record {
  there = λ c p b q z at e. ⊎_elim
      (λ new. source_put rows a r to a c x z b q (may.there b q (ap (λ (v : Bare). v.link) new.2 ∙ e)) new.0 (sym (ap (λ (v : Bare). v.flow) new.2)) (sym (ap (λ (v : Bare). v.pool) new.2)))
      (λ old. source_put rows a r to c c z z b q (links.there c p b q z old.1 e) refl refl refl) (put_cases rows a r to x c p z is at);
  once = λ c p b q y z at on f g pool e some. ⊎_elim
      (λ new. ⊎_elim
      (λ newer. (sym new.0 ∙ newer.0, sym new.1 ∙ newer.1))
      (λ old. absurd (may.fresh (ap (λ (v : Bare). v.flow) new.2 ∙ f) b q z old.1 g (sym pool ∙ sym (ap (λ (v : Bare). v.pool) new.2)) (sym e ∙ sym (ap (λ (v : Bare). v.link) new.2))))
      (put_cases rows a r to x b q z is on))
      (λ old. ⊎_elim
      (λ new. absurd (may.fresh (ap (λ (v : Bare). v.flow) new.2 ∙ g) c p y old.1 f (pool ∙ sym (ap (λ (v : Bare). v.pool) new.2)) (e ∙ sym (ap (λ (v : Bare). v.link) new.2))))
      (λ older. links.once c p b q y z old.1 older.1 f g pool e some)
      (put_cases rows a r to x b q z is on))
      (put_cases rows a r to x c p y is at);
}
