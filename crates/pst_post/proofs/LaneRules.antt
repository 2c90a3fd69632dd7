-- What each step makes of the rule of one lane.
use Rattle.std.proofs.Common.{◌≡◌, ◌≢◌, ◌⊎◌, ℕ, ◌+◌, ◌^◌, ◌<◌, [], ◌∷◌, ◌++◌, true, Option, None, Some, refl, sym, ap, ◌∙◌, subst, ⊎_elim, inl, inr, arith, length, append-nil, length-append}
use Rattle.std.specs.Prelude.{option_to_list, MatchBool, ◌==◌}
use mathlib.Core.List.{IsPrefix}
use Rattle.pst_post.specs.declared.view.Entry.{Entry}
use Rattle.pst_post.specs.declared.view.LaneView.{LaneView}
use Rattle.pst_post.specs.declared.view.Progress.{Progress}
use Rattle.pst_post.specs.Gathered.{CollectTells}
use Rattle.pst_post.specs.Plays.{fetched_view, finished_view}
use Rattle.pst_post.specs.Rule.{word_of, LaneRule}
use Rattle.pst_post.specs.Steps.{IsIdle, after_post, after_collect}
use Rattle.pst_post.specs.Views.{progress_of}
use Rattle.pst_post.proofs.Lists.{by_test, no_longer, IsPrefix-append}

none_out : (w : ℕ) (o : Option ℕ) → w ≡ word_of o → w ≡ 0 → o ≡ None
none_out w None is hit = refl
none_out w (Some a) is hit = absurd (omega arith)

one_out : (w : ℕ) (o : Option ℕ) → w ≡ word_of o → w ≢ 0 → (a : ℕ) × (o ≡ Some a)
one_out w None is miss = absurd (miss is)
one_out w (Some a) is miss = (a, refl)

-- a word stands for one action, or for none
pub one_meaning : (w : ℕ) (o o' : Option ℕ) → w ≡ word_of o → w ≡ word_of o' → o ≡ o'
one_meaning w None o' is is' = sym (none_out w o' is' is)
one_meaning w (Some a) None is is' = none_out w (Some a) is is'
one_meaning w (Some a) (Some b) is is' = let same : a ≡ b = omega arith in ap Some same

module _ (w : ℕ) (e : Entry) (p : Progress) (r : LaneRule w e p) where
  -- where the word is 0, all that was posted was handed back
  pub all_back : w ≡ 0 → (e.posted ≡ p.finished) × (p.fetched ≡ p.finished)
  all_back hit =
      let same : e.posted ≡ p.finished = r.posted ∙ (ap (λ o. p.finished ++ option_to_list o) (none_out w r.outstanding r.word_is hit) ∙ append-nil p.finished) in
      (same, ⊎_elim (λ (t : p.fetched ≡ p.finished). t) (λ (t : p.fetched ≡ e.posted). t ∙ same) r.fetched)

  -- where it isn't, one action is out
  pub all_but_one : w ≢ 0 → (a : ℕ) × (e.posted ≡ p.finished ++ a ∷ [])
  all_but_one miss = let t = one_out w r.outstanding r.word_is miss in (t.0, r.posted ∙ ap (λ o. p.finished ++ option_to_list o) t.1)

  -- where all that was posted has ended, the word is 0
  pub none_left : IsIdle e → w ≡ 0
  none_left all = go r.outstanding r.word_is r.posted
    where
      go : (o : Option ℕ) → w ≡ word_of o → e.posted ≡ p.finished ++ option_to_list o → w ≡ 0
      go None is posted = is
      go (Some a) is posted =
          let longer = ap length posted in
          let ended = ap length r.ended.1 in
          let same = ap length all in
          absurd (omega (arith, longer, ended, same, length-append p.finished (a ∷ []), length-append e.ended r.ended.0))

  pub posted_rule : (a : ℕ) → a < 2 ^ 32 → w ≡ 0 → LaneRule (a + 1) (after_post true a e) p
  posted_rule a few hit = let back = all_back hit in record {
    outstanding = Some a;
    word_is = refl;
    small = omega arith;
    posted = ap (λ l. l ++ a ∷ []) back.0;
    fetched = inl back.1;
    ended = r.ended;
  }

  pub collected_rule : w ≡ 0 → LaneRule w (after_collect true e) p
  collected_rule hit = record {
    outstanding = r.outstanding;
    word_is = r.word_is;
    small = r.small;
    posted = r.posted;
    fetched = r.fetched;
    ended = ([], append-nil e.posted ∙ (all_back hit).0);
  }

  -- another entry that says the same of what was posted and ended
  pub same_rule : (e' : Entry) → e'.posted ≡ e.posted → e'.ended ≡ e.ended → LaneRule w e' p
  same_rule e' posted ended = record {
    outstanding = r.outstanding;
    word_is = r.word_is;
    small = r.small;
    posted = posted ∙ r.posted;
    fetched = subst (λ l. (p.fetched ≡ p.finished) ⊎ (p.fetched ≡ l)) (sym posted) r.fetched;
    ended = subst (λ l. IsPrefix l p.finished) (sym ended) r.ended;
  }

  -- what a collect tells, where this progress was gathered
  pub tells : CollectTells (w == 0) e p
  tells = record {
    ended = r.ended;
    fetched = r.fetched;
    posted = by_test (λ b. MatchBool b (e.posted ≡ p.finished) ((a : ℕ) × (e.posted ≡ p.finished ++ a ∷ []))) w 0 (λ hit. (all_back hit).0) all_but_one;
  }

module _ (w : ℕ) (e : Entry) (v : LaneView) (r : LaneRule w e (progress_of v)) where
  pub fetched_rule : (o : Option ℕ) → w ≡ word_of o → v.fetched ≡ v.finished → LaneRule w e (progress_of (fetched_view v o))
  fetched_rule o is idle = go o is (r.posted ∙ ap (λ u. v.finished ++ option_to_list u) (one_meaning w r.outstanding o r.word_is is))
    where
      go : (o : Option ℕ) → w ≡ word_of o → e.posted ≡ v.finished ++ option_to_list o → LaneRule w e (progress_of (fetched_view v o))
      go None is posted = r
      go (Some a) is posted = record {
        outstanding = Some a;
        word_is = is;
        small = r.small;
        posted = posted;
        fetched = inr (ap (λ l. l ++ a ∷ []) idle ∙ sym posted);
        ended = r.ended;
      }

  pub handed_back_rule : (a : ℕ) → v.fetched ≡ v.finished ++ a ∷ [] → LaneRule 0 e (progress_of (finished_view v))
  handed_back_rule a busy =
      let all : v.fetched ≡ e.posted = ⊎_elim (λ (t : v.fetched ≡ v.finished). absurd (no_longer v.finished a (sym t ∙ busy))) (λ (t : v.fetched ≡ e.posted). t) r.fetched in record {
        outstanding = None;
        word_is = refl;
        small = omega arith;
        posted = sym all ∙ sym (append-nil v.fetched);
        fetched = inl refl;
        ended = subst (IsPrefix e.ended) (sym busy) (IsPrefix-append e.ended v.finished (a ∷ []) r.ended);
      }
