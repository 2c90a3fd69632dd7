-- The rule holds of a table that was just made.
use Rattle.std.proofs.Common.{◌≡◌, ℕ, zero, suc, List, [], ◌∷◌, length, get_or, replicate, None, refl, sym, ap, ◌∙◌, subst, inl, arith}
use mathlib.Core.Option.{some, some-ne-none, some-injective}
use lib.ListN.{get_elem?, length-replicate}
use Rattle.atomic_table.specs.Table.{opening}
use Rattle.pst_post.specs.declared.view.View.{View}
use Rattle.pst_post.specs.declared.view.View.TheVariants.{Book, Lane}
use Rattle.pst_post.specs.Rule.{LaneRule, IsProgress, Rule}
use Rattle.pst_post.specs.Views.{blank_entry, first_view, no_progress}
use Rattle.pst_post.proofs.SeatSteps.{not_lane}

only_view : (v u : View) (j : ℕ) → get_elem? (v ∷ []) j ≡ some u → (j ≡ 0) × (v ≡ u)
only_view v u zero e = (refl, some-injective v u e)
only_view v u (suc j) e = absurd (some-ne-none u (sym e))

get_or-replicate : {A : Type 0} (n k : ℕ) (a : A) → get_or (replicate n a) k a ≡ a
get_or-replicate zero k a = refl
get_or-replicate (suc n) zero a = refl
get_or-replicate (suc n) (suc k) a = get_or-replicate n k a

blank_rule : (w : ℕ) → w ≡ 0 → LaneRule w blank_entry no_progress
blank_rule w is = record { outstanding = None; word_is = is; small = omega arith; posted = refl; fetched = inl refl; ended = ([], refl) }

pub opens : (n : ℕ) (words : List ℕ) → words ≡ replicate n 0 → Rule (opening words [] (first_view n))
opens n words are = record {
  book = 0;
  entries = replicate n blank_entry;
  book_view = refl;
  one_book = λ j es e. (only_view (first_view n) (Book es) j e).0;
  wide = length-replicate n blank_entry ∙ sym (ap length are ∙ length-replicate n 0);
  lane_view = λ j v e. absurd (not_lane (replicate n blank_entry) v (only_view (first_view n) (Lane v) j e).1);
  one_view = λ i j v w e f same. absurd (not_lane (replicate n blank_entry) v (only_view (first_view n) (Lane v) i e).1);
  each_lane = λ k small. (
    no_progress,
    subst (λ e. IsProgress (first_view n ∷ []) k e.seat no_progress) (sym (get_or-replicate n k blank_entry)) refl,
    subst (λ e. LaneRule (get_or words k 0) e no_progress) (sym (get_or-replicate n k blank_entry)) (blank_rule (get_or words k 0) (ap (λ l. get_or l k 0) are ∙ get_or-replicate n k 0)),
  );
}
