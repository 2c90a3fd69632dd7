-- What one event makes of the tables.
use Rattle.std.proofs.Common.{◌≡◌, ℕ, ◌+◌, ◌-◌, ◌<◌, ◌≤◌, List, [], ◌∷◌, ◌++◌, length, get_or, slice_set, replicate, Bool, true, false, Option, Some, None, refl, sym, ap, ◌∙◌, subst, ⊎_elim, arith}
use Rattle.std.specs.Prelude.{MatchOption}
use Rattle.pst_scen.specs.declared.event.Event.{Event}
use Rattle.pst_scen.specs.declared.event.Event.TheVariants.{End}
use Rattle.pst_scen.specs.Trace.{Started, Ended, Runs, IsHeld}
use Rattle.pst_scen.specs.Rows.{Has}
use Rattle.pst_scen.specs.Plan.{Entries}
use Rattle.pst_book.specs.Books.{MayJoin}
use Rattle.pst_book.specs.Tables.{AreTied, HoldsAlone, AreRaised, AreLowered, AreFreed, AreAllAwaited, AreNext}
use Rattle.pst_book.proofs.Events.{ended_or}
use Rattle.pst_book.proofs.Numbers.{none_has}
use Rattle.pst_book.proofs.Ties.{start_tied, start_room, end_tied, awaited_some, in_the_way_some, new_tied}
use Rattle.pst_tallies.specs.Tallies.{counts_in, IsTally}
use Rattle.pst_tallies.proofs.Counts.{none_anywhere}
use Rattle.pst_by_rule.specs.Counted.{AreCounted, StartsFreely, DidStart}

module _ (p : Entries) (t : List Event) (started ended : List Bool) (awaited in_the_way next : List ℕ) (holders : List (Option ℕ)) (counted : AreCounted p t started ended awaited in_the_way next holders) where
  abbrev n : ℕ
  n = length p.groups

  abbrev those : List ℕ
  those = counts_in n awaited

  abbrev ways : List ℕ
  ways = counts_in n in_the_way

  pub idle_lane : (lane : ℕ) → lane < 16 → get_or holders lane None ≡ None → IsHeld t lane → ⊥
  idle_lane lane l e = subst (λ o. MatchOption o (IsHeld t lane → ⊥) (λ a. HoldsAlone t lane a)) e (counted.tied.holders_are lane l)

  module _ (a : ℕ) (a_in : a < length p.groups) where
    pub fresh_act : get_or started a false ≡ false → Started t a → ⊥
    fresh_act e s = let both : false ≡ true = sym e ∙ (counted.tied.started_is a a_in).1 s in cc

    pub not_ended_act : get_or ended a false ≡ false → Ended t a → ⊥
    not_ended_act e s = let both : false ≡ true = sym e ∙ (counted.tied.ended_is a a_in).1 s in cc

    pub may_join_act : get_or started a false ≡ false → get_or those a 0 ≡ 0 → get_or ways a 0 ≡ 0 → MayJoin p t a
    may_join_act e f g = record {
      fresh = fresh_act e;
      awaited = λ b k h. ⊎_elim (λ y. y) (λ n. absurd (none_has (counted.tied.awaited_is a a_in) f b (k, h, n))) (ended_or t b);
      clear = λ b k r h. none_has (counted.tied.in_the_way_is a a_in) g b (k, h, r);
    }

    pub runs_act : get_or started a false ≡ true → get_or ended a false ≡ false → Runs t a
    runs_act e f = ((counted.tied.started_is a a_in).0 e, not_ended_act f)

    -- a start
    pub room_at : (lane : ℕ) → get_or started a false ≡ false → lane < length holders → get_or holders lane None ≡ None → (m : ℕ) → m < length p.groups → Has p.conflict a m → get_or ways m 0 + 1 ≤ length p.groups
    room_at lane e l f m k h =
        let lane_in : lane < 16 = let n = counted.tied.many_holders in omega (arith, l, n) in
        start_room p 16 t started ended those ways next holders 0 counted.left counted.tied a lane false a_in (fresh_act e) lane_in (idle_lane lane lane_in f) m k h

    pub did_start : (event : Event) (lane : ℕ) (in_the_way' : List ℕ) (started' : List Bool) (holders' : List (Option ℕ)) → StartsFreely event a lane holders
        → get_or started a false ≡ false → get_or those a 0 ≡ 0 → get_or ways a 0 ≡ 0
        → started' ≡ slice_set started a true → length in_the_way' ≡ length in_the_way → AreRaised p.conflict a ways (counts_in n in_the_way') → holders' ≡ slice_set holders lane (Some a)
        → DidStart p t event a started' ended awaited in_the_way' next holders'
    did_start event lane in_the_way' started' holders' freely e f g s many raised h =
        let lane_in : lane < 16 = let n = counted.tied.many_holders in let l = freely.below in omega (arith, l, n) in
        let idle = idle_lane lane lane_in freely.free in
        record {
          lane = lane;
          more = freely.more;
          is = freely.is;
          below = lane_in;
          idle = idle;
          join = may_join_act e f g;
          counted = record {
            left = counted.left;
            awaited_are = counted.awaited_are;
            in_the_way_are = many ∙ counted.in_the_way_are;
            tied = subst (λ (xs : List Bool). AreTied p 16 (t ++ event ∷ []) xs ended those (counts_in n in_the_way') next holders' 0 counted.left) (sym s)
                (subst (λ (xs : List (Option ℕ)). AreTied p 16 (t ++ event ∷ []) (slice_set started a true) ended those (counts_in n in_the_way') next xs 0 counted.left) (sym h)
                (start_tied p 16 t started ended those ways next holders 0 counted.left counted.tied a lane freely.more a_in (fresh_act e) lane_in idle
                (t ++ event ∷ []) (counts_in n in_the_way') (ap (λ v. t ++ v ∷ []) freely.is) raised));
          };
        }

    -- an end
    module _ (e : get_or started a false ≡ true) (f : get_or ended a false ≡ false) where
      pub awaited_at : (m : ℕ) → m < length p.groups → Has p.must a m → 0 < get_or those m 0
      awaited_at m l h = awaited_some p 16 t started ended those ways next holders 0 counted.left counted.tied a (runs_act e f) m l h

      pub in_the_way_at : (m : ℕ) → m < length p.groups → Has p.conflict a m → 0 < get_or ways m 0
      in_the_way_at m l h = in_the_way_some p 16 t started ended those ways next holders 0 counted.left counted.tied a (runs_act e f) m l h

      pub did_end : (ended' : List Bool) (awaited' in_the_way' : List ℕ) (holders' : List (Option ℕ)) → ended' ≡ slice_set ended a true
          → length awaited' ≡ length awaited → AreLowered p.must a those (counts_in n awaited') → length in_the_way' ≡ length in_the_way → AreLowered p.conflict a ways (counts_in n in_the_way') → AreFreed a holders holders'
          → Runs t a × AreCounted p (t ++ End a ∷ []) started ended' awaited' in_the_way' next holders'
      did_end ended' awaited' in_the_way' holders' s many lowered many_ways cleared freed = (
        runs_act e f,
        record {
          left = counted.left - 1;
          awaited_are = many ∙ counted.awaited_are;
          in_the_way_are = many_ways ∙ counted.in_the_way_are;
          tied = subst (λ (xs : List Bool). AreTied p 16 (t ++ End a ∷ []) started xs (counts_in n awaited') (counts_in n in_the_way') next holders' 0 (counted.left - 1)) (sym s)
              (end_tied p 16 t started ended those ways next holders 0 counted.left counted.tied a (runs_act e f) (t ++ End a ∷ []) (counts_in n awaited') (counts_in n in_the_way') holders' refl lowered cleared freed);
        },
      )

-- the tables of the empty trace
pub none_counted : (p : Entries) (started ended : List Bool) (awaited in_the_way next : List ℕ) (holders : List (Option ℕ)) → started ≡ replicate (length p.groups) false → ended ≡ replicate (length p.groups) false
    → IsTally (length p.groups) awaited → AreAllAwaited p (counts_in (length p.groups) awaited) → IsTally (length p.groups) in_the_way → ((m : ℕ) → get_or in_the_way m 0 ≡ 0) → AreNext p.groups next → holders ≡ replicate 16 None
    → AreCounted p [] started ended awaited in_the_way next holders
none_counted p started ended awaited in_the_way next holders s e are w ways none x h =
    let n = length p.groups in
    record {
      left = n;
      awaited_are = are;
      in_the_way_are = ways;
      tied = new_tied p 16 [] started ended (counts_in n awaited) (counts_in n in_the_way) next holders n n refl refl refl s e w (none_anywhere n in_the_way none) x h;
    }
