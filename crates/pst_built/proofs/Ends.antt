-- The ends of streams name each other, and each link is of its reference's kind.
use Rattle.std.proofs.Common.{◌≡◌, ◌⊎◌, ℕ, List, [], ◌∷◌, ◌++◌, true, false, Some, sym, ap, ap₂, ◌∙◌, inl, inr, ⊎_elim, arith}
use Rattle.std.proofs.lemmas.Bool.{both_ways}
use Rattle.pst_scen.specs.declared.act.Link.{Link}
use Rattle.pst_scen.specs.declared.act.Link.TheVariants as link
use Rattle.pst_legal.specs.Supplied.{is_need}
use Rattle.pst_legal.specs.SupplyReading.{is_state, is_stream}
use Rattle.pst_built.proofs.Bares.{Bare, bare_at, with_bare_link, put_bare}
use Rattle.pst_built.proofs.Opens.{AreOpen, IsOpenRow, bare_cases}
use Rattle.pst_built.proofs.Links.{put_off, put_cases, bare_within, Links}

-- The reference that a stream's end names names that end. Only uses of states have the pool's first object, and what wants
-- no source has no link.
pub record Ends (rows : List (List Bare)) : Type 0 where
  pub back : (a r b q : ℕ) (x y : Bare) → bare_at rows a r ≡ Some x → is_stream x.flow ≡ true → x.link ≡ link.Act b q → bare_at rows b q ≡ Some y → y.link ≡ link.Act a r
  pub first : (a r : ℕ) (x : Bare) → bare_at rows a r ≡ Some x → x.link ≡ link.Initial → is_state x.flow ≡ true
  pub needless : (a r : ℕ) (x : Bare) → bare_at rows a r ≡ Some x → is_need x.flow ≡ false → x.link ≡ link.Nothing

no_act : (l : Link) (b q : ℕ) → l ≡ link.Nothing → l ≡ link.Act b q → ⊥
no_act l b q none e = let f : link.Nothing ≡ link.Act b q = sym none ∙ e in cc

no_first : (l : Link) → l ≡ link.Nothing → l ≡ link.Initial → ⊥
no_first l none e = let f : link.Nothing ≡ link.Initial = sym none ∙ e in cc

act_first : (b q : ℕ) → link.Act b q ≡ link.Initial → ⊥
act_first b q e = cc

same_act : (a r b q : ℕ) → link.Act a r ≡ link.Act b q → (a ≡ b) × (r ≡ q)
same_act a r b q e = (cc, cc)

pub open_ends : (rows : List (List Bare)) → AreOpen rows → Ends rows
open_ends rows unlinked = record {
  back = λ a r b q x y is stream e at. absurd (no_act x.link b q (unlinked a r x is) e);
  first = λ a r x is e. absurd (no_first x.link (unlinked a r x is) e);
  needless = λ a r x is needs. unlinked a r x is;
}

pub push_ends : (rows : List (List Bare)) (row : List Bare) → Links rows → Ends rows → IsOpenRow row → Ends (rows ++ row ∷ [])
push_ends rows row links ends unlinked = record {
  back = λ a r b q x y is stream e at. ⊎_elim
      (λ old. ⊎_elim
      (λ older. ends.back a r b q x y old stream e older)
      (λ new. let s = links.there a r b q x old e in let l = bare_within rows b q s.source s.is in absurd (omega (arith, l, new.0)))
      (bare_cases rows row b q y at))
      (λ new. absurd (no_act x.link b q (unlinked r x new.1) e)) (bare_cases rows row a r x is);
  first = λ a r x is e. ⊎_elim (λ old. ends.first a r x old e) (λ new. absurd (no_first x.link (unlinked r x new.1) e)) (bare_cases rows row a r x is);
  needless = λ a r x is needs. ⊎_elim (λ old. ends.needless a r x old needs) (λ new. unlinked r x new.1) (bare_cases rows row a r x is);
}

-- a need that isn't linked yet
pub record IsOpenNeed (rows : List (List Bare)) (a r : ℕ) (x : Bare) : Type 0 where
  pub is : bare_at rows a r ≡ Some x
  pub unlinked : x.link ≡ link.Nothing
  pub needs : is_need x.flow ≡ true

flow_of : (x z : Bare) (to : Link) → with_bare_link to x ≡ z → x.flow ≡ z.flow
flow_of x z to e = ap (λ (v : Bare). v.flow) e

link_of : (x z : Bare) (to : Link) → with_bare_link to x ≡ z → to ≡ z.link
link_of x z to e = ap (λ (v : Bare). v.link) e

-- a need of no stream is linked
pub put_ends : (rows : List (List Bare)) (a r : ℕ) (x : Bare) (to : Link) → Ends rows → IsOpenNeed rows a r x → is_stream x.flow ≡ false → (to ≡ link.Initial → is_state x.flow ≡ true)
    → Ends (put_bare a r to rows)
put_ends rows a r x to ends need still state = record {
  back = λ c p d q z w at stream e on. ⊎_elim
      (λ new. absurd (both_ways (is_stream x.flow) still (ap is_stream (flow_of x z to new.2) ∙ stream)))
      (λ old. ⊎_elim
      (λ new. absurd (no_act x.link c p need.unlinked (ends.back c p a r z x old.1 stream (e ∙ ap₂ link.Act (sym new.0) (sym new.1)) need.is)))
      (λ older. ends.back c p d q z w old.1 stream e older.1) (put_cases rows a r to x d q w need.is on))
      (put_cases rows a r to x c p z need.is at);
  first = λ c p z at e. ⊎_elim
      (λ new. sym (ap is_state (flow_of x z to new.2)) ∙ state (link_of x z to new.2 ∙ e))
      (λ old. ends.first c p z old.1 e) (put_cases rows a r to x c p z need.is at);
  needless = λ c p z at none. ⊎_elim
      (λ new. absurd (both_ways (is_need x.flow) (ap is_need (flow_of x z to new.2) ∙ none) need.needs))
      (λ old. ends.needless c p z old.1 none) (put_cases rows a r to x c p z need.is at);
}

-- the two ends of a stream are linked
module _ (rows : List (List Bare)) (a r b q : ℕ) (x y : Bare) (ends : Ends rows) (need : IsOpenNeed rows a r x) (other : IsOpenNeed rows b q y) (apart : b ≡ a → ⊥) where
  abbrev more : List (List Bare)
  more = put_bare a r (link.Act b q) rows

  abbrev both : List (List Bare)
  both = put_bare b q (link.Act a r) more

  there : bare_at more b q ≡ Some y
  there = put_off rows a r (link.Act b q) b q (λ e f. apart (sym e)) ∙ other.is

  abbrev IsOld : ℕ → ℕ → Bare → Type 0
  IsOld c p z = (a ≡ c → r ≡ p → ⊥) × (b ≡ c → q ≡ p → ⊥) × (bare_at rows c p ≡ Some z)

  cases : (c p : ℕ) (z : Bare) → bare_at both c p ≡ Some z
      → ((b ≡ c) × (q ≡ p) × (with_bare_link (link.Act a r) y ≡ z)) ⊎ (((a ≡ c) × (r ≡ p) × (with_bare_link (link.Act b q) x ≡ z)) ⊎ IsOld c p z)
  cases c p z at =
      ⊎_elim (λ new. inl new)
      (λ old. inr (⊎_elim (λ new. inl new) (λ older. inr (older.0, old.0, older.1)) (put_cases rows a r (link.Act b q) x c p z need.is old.1)))
      (put_cases more b q (link.Act a r) y c p z there at)

  back : (c p d o : ℕ) (z w : Bare) → bare_at both c p ≡ Some z → is_stream z.flow ≡ true → z.link ≡ link.Act d o → bare_at both d o ≡ Some w → w.link ≡ link.Act c p
  back c p d o z w at stream e on =
      ⊎_elim
      (λ second. let to = same_act a r d o (link_of y z (link.Act a r) second.2 ∙ e) in
      ⊎_elim
      (λ k. absurd (apart (k.0 ∙ sym to.0)))
      (λ k. ⊎_elim (λ one. sym (link_of x w (link.Act b q) one.2) ∙ ap₂ link.Act second.0 second.1) (λ old. absurd (old.0 to.0 to.1)) k) (cases d o w on))
      (λ k. ⊎_elim
      (λ one. let to = same_act b q d o (link_of x z (link.Act b q) one.2 ∙ e) in
      ⊎_elim
      (λ second. sym (link_of y w (link.Act a r) second.2) ∙ ap₂ link.Act one.0 one.1)
      (λ j. ⊎_elim (λ same. absurd (apart (to.0 ∙ sym same.0))) (λ old. absurd (old.1 to.0 to.1)) j) (cases d o w on))
      (λ old. ⊎_elim
      (λ second. absurd (no_act y.link c p other.unlinked (ends.back c p b q z y old.2 stream (e ∙ ap₂ link.Act (sym second.0) (sym second.1)) other.is)))
      (λ j. ⊎_elim
      (λ one. absurd (no_act x.link c p need.unlinked (ends.back c p a r z x old.2 stream (e ∙ ap₂ link.Act (sym one.0) (sym one.1)) need.is)))
      (λ older. ends.back c p d o z w old.2 stream e older.2) j) (cases d o w on)) k)
      (cases c p z at)

  first : (c p : ℕ) (z : Bare) → bare_at both c p ≡ Some z → z.link ≡ link.Initial → is_state z.flow ≡ true
  first c p z at e =
      ⊎_elim (λ second. absurd (act_first a r (link_of y z (link.Act a r) second.2 ∙ e)))
      (λ k. ⊎_elim (λ one. absurd (act_first b q (link_of x z (link.Act b q) one.2 ∙ e))) (λ old. ends.first c p z old.2 e) k) (cases c p z at)

  needless : (c p : ℕ) (z : Bare) → bare_at both c p ≡ Some z → is_need z.flow ≡ false → z.link ≡ link.Nothing
  needless c p z at none =
      ⊎_elim (λ second. absurd (both_ways (is_need y.flow) (ap is_need (flow_of y z (link.Act a r) second.2) ∙ none) other.needs))
      (λ k. ⊎_elim (λ one. absurd (both_ways (is_need x.flow) (ap is_need (flow_of x z (link.Act b q) one.2) ∙ none) need.needs)) (λ old. ends.needless c p z old.2 none) k)
      (cases c p z at)

  pub pair_ends : Ends both
  pair_ends = record { back = back; first = first; needless = needless }
