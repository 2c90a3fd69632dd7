-- Dealing the seats of the lanes, one after another.
use Rattle.std.proofs.Common.{◌≡◌, ◌≢◌, ℕ, zero, suc, ◌+◌, ◌<◌, ◌≤◌, List, [], ◌∷◌, ◌++◌, length, get_or, drop, replicate, refl, ap, sym, subst, ◌∙◌, arith, length-set, drop-drop}
use Rattle.atomic_table.specs.Seated.{TableId}
use Rattle.pst_post.specs.declared.view.Entry.{Entry}
use Rattle.pst_post.specs.declared.view.SeatStatus.TheVariants.{Undealt, Out}
use Rattle.pst_post.specs.Seats.{BookState, changed_at, fresh_book, lane_entry}
use Rattle.pst_post.specs.Steps.{with_seat}
use Rattle.pst_post.specs.Views.{blank_entry, entry_at}
use Rattle.pst_desk.proofs.Ties.{entry_same, entry_other}
use Rattle.pst_workers.proofs.Rows.{at_or, last_of, front_of}

-- nothing was posted or collected, and the lanes from that one on aren't dealt
pub record Fresh (seat : BookState) (words number : ℕ) : Type 0 where
  pub wide : length seat.entries ≡ words
  pub fresh : (k : ℕ) → k < words → ((lane_entry seat k).posted ≡ []) × ((lane_entry seat k).ended ≡ [])
  pub undealt : (k : ℕ) → number ≤ k → k < words → (lane_entry seat k).seat ≡ Undealt

blank_at : (n k : ℕ) → entry_at (replicate n blank_entry) k ≡ blank_entry
blank_at zero k = refl
blank_at (suc n) zero = refl
blank_at (suc n) (suc k) = blank_at n k

blank_width : (n : ℕ) → length (replicate n blank_entry) ≡ n
blank_width zero = refl
blank_width (suc n) = ap (λ (k : ℕ). suc k) (blank_width n)

pub fresh_start : (seat : BookState) (table : TableId) (words : ℕ) → seat ≡ fresh_book table words → Fresh seat words 0
fresh_start seat table words is =
    let entries : seat.entries ≡ replicate words blank_entry = ap (λ (b : BookState). b.entries) is in
    let each = λ (k : ℕ). ap (λ (es : List Entry). entry_at es k) entries ∙ blank_at words k in
    record {
      wide = ap (λ (es : List Entry). length es) entries ∙ blank_width words;
      fresh = λ k h. (ap (λ (e : Entry). e.posted) (each k), ap (λ (e : Entry). e.ended) (each k));
      undealt = λ k low h. ap (λ (e : Entry). e.seat) (each k);
    }

-- one seat more
pub fresh_more : (old new : BookState) (words number : ℕ) → Fresh old words number → number < words → new ≡ changed_at old number (with_seat Out) → Fresh new words (number + 1)
fresh_more old new words number f inside is =
    let wide = f.wide in
    let changed = with_seat Out (lane_entry old number) in
    let entries : new.entries ≡ (changed_at old number (with_seat Out)).entries = ap (λ (b : BookState). b.entries) is in
    let here : lane_entry new number ≡ changed = ap (λ (es : List Entry). entry_at es number) entries ∙ entry_same old.entries number changed (omega (arith, wide, inside)) in
    let other = λ (k : ℕ) (ne : k ≢ number). ap (λ (es : List Entry). entry_at es k) entries ∙ entry_other old.entries number k changed ne in
    record {
      wide = ap (λ (es : List Entry). length es) entries ∙ length-set old.entries number changed ∙ wide;
      fresh = λ k h. at_or (λ j. j < words → ((lane_entry new j).posted ≡ []) × ((lane_entry new j).ended ≡ [])) number k
          (λ h'. let was = f.fresh number h' in (ap (λ (e : Entry). e.posted) here ∙ was.0, ap (λ (e : Entry). e.ended) here ∙ was.1))
          (λ ne h'. let was = f.fresh k h' in (ap (λ (e : Entry). e.posted) (other k ne) ∙ was.0, ap (λ (e : Entry). e.ended) (other k ne) ∙ was.1)) h;
      undealt = λ k low h. ap (λ (e : Entry). e.seat) (other k (λ same. omega (arith, same, low))) ∙ f.undealt k (omega (arith, low)) h;
    }

module _ {A : Type 0} where
  -- the first of what is left of a list is the next one
  pub next_of : (l : List A) (n : ℕ) (x : A) (rest : List A) (d : A) → drop n l ≡ x ∷ rest → x ≡ get_or l n d
  next_of [] zero x rest d e = absurd cc
  next_of [] (suc n) x rest d e = absurd cc
  next_of (y ∷ l) zero x rest d e = cc
  next_of (y ∷ l) (suc n) x rest d e = next_of l n x rest d e

  pub drop_next : (l : List A) (n : ℕ) (x : A) (rest : List A) → drop n l ≡ x ∷ rest → rest ≡ drop (n + 1) l
  drop_next l n x rest e = sym (ap (λ (xs : List A). drop 1 xs) e) ∙ drop-drop 1 n l

module _ {A : Type 0} (P : ℕ → A → Type 0) where
  -- what holds of each element of a list, of one more too
  pub rows_more : (l : List A) (a : A) (n : ℕ) → length l ≡ n → ((k : ℕ) (d : A) → k < n → P k (get_or l k d)) → P n a → (k : ℕ) (d : A) → k < n + 1 → P k (get_or (l ++ a ∷ []) k d)
  rows_more l a n many each here k d h =
      at_or (λ j. j < n + 1 → P j (get_or (l ++ a ∷ []) j d)) n k
      (λ _. subst (λ (x : A). P n x) (sym (subst (λ (i : ℕ). get_or (l ++ a ∷ []) i d ≡ a) many (last_of l a d))) here)
      (λ ne h'. let low : k < length l = omega (arith, ne, h', many) in subst (λ (x : A). P k x) (sym (front_of l a d k low)) (each k d (omega (arith, ne, h')))) h
