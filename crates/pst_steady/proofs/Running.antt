-- Ends that are kept one after another.
use Rattle.std.proofs.Common.{◌≡◌, ◌⊎◌, inl, inr, ℕ, zero, suc, ◌+◌, ◌<◌, ◌≤◌, Bool, true, false, ◌&&◌, nat_eq, List, Option, refl, sym, ap, subst, ◌∙◌, arith, true≢false}
use Rattle.std.specs.Prelude.{Some, None, slice_get, if◌then◌else◌}
use Rattle.std.proofs.lemmas.Bool.{eqb-true}
use Rattle.std.specs.HashMap.{HashMap, get}
use Rattle.std.specs.Option.{option_and_then}
use Rattle.pst_base.specs.declared.table.NameId.{NameId}
use Rattle.pst_traversals.specs.declared.tally.TallyKey.{TallyKey}
use Rattle.pst_traversals.specs.Tallied.{same_key}
use Rattle.pst_steady.specs.declared.runs.RunKey.{RunKey}
use Rattle.pst_steady.specs.Lined.{is_once}
use Rattle.pst_steady.specs.Reached.{value_at}
use Rattle.pst_steady.specs.Run.{run_key, same_run, IsOnceAt, AreOnce, AreRuns}
use Rattle.pst_steady.proofs.Lists.{some_is, no_some, same_or, nat_cases}

left_of : (a b : Bool) → (a && b) ≡ true → a ≡ true
left_of true b e = refl
left_of false b e = absurd (true≢false (sym e))

right_of : (a b : Bool) → (a && b) ≡ true → b ≡ true
right_of true b e = e
right_of false b e = absurd (true≢false (sym e))

name_of : ℕ → NameId
name_of n = record { 0 = n }

same_ids : (a b : NameId) → nat_eq a.0 b.0 ≡ true → a ≡ b
unfolding name_of
same_ids a b e = ap name_of (eqb-true a.0 b.0 e)

pub slot_there : (slots : List (Option ℕ)) (at action : ℕ) → value_at slots at ≡ Some action → slice_get slots at ≡ Some (Some action)
slot_there slots at action e = by_found (slice_get slots at) refl e
  where
    by_found : (found : Option (Option ℕ)) → slice_get slots at ≡ found → option_and_then (λ v. v) found ≡ Some action → slice_get slots at ≡ Some (Some action)
    by_found None is e = absurd (no_some e)
    by_found (Some v) is e = is ∙ ap Some e

module _ {S : Type 0} (tallies : HashMap TallyKey Bool S) (slots : List (Option ℕ)) where
  pub no_once : (handle : NameId) (at : ℕ) → AreOnce tallies slots handle at at
  no_once handle at q from to = absurd (omega (arith, from, to))

  pub one_more : (handle : NameId) (at action end : ℕ) → slice_get slots at ≡ Some (Some action) → is_once (get same_key tallies (record { action = action; handle = handle.0 })) ≡ true → AreOnce tallies slots handle (at + 1) end
      → AreOnce tallies slots handle at end
  one_more handle at action end there once behind q from to = elim (same_or q at) [
    | inl same ↦ subst (λ (n : ℕ). IsOnceAt tallies slots handle n) (sym same) (action, there, once)
    | inr apart ↦ behind q (after (nat_cases at q) apart) to
  ]
    where
      after : (at < q) ⊎ (q ≤ at) → (q ≡ at → ⊥) → at + 1 ≤ q
      after (inl l) apart = omega (arith, l)
      after (inr l) apart = absurd (apart (omega (arith, from, l)))

  pub kept : {T : Type 0} (before after : HashMap RunKey ℕ T) (at : ℕ) (handle : NameId) (end : ℕ) (key : RunKey) → key ≡ run_key at handle → AreOnce tallies slots handle at end
      → ((q : RunKey) → get same_run after q ≡ (if same_run key q then Some end else get same_run before q)) → AreRuns tallies slots before → AreRuns tallies slots after
  kept {T} before after at handle end key key_is once is runs n other last e =
      by_key (same_run key (run_key n other)) (ap (λ (k : RunKey). same_run k (run_key n other)) (sym key_is)) (sym (is (run_key n other)) ∙ e)
    where
      by_key : (b : Bool) → same_run (run_key at handle) (run_key n other) ≡ b → (if b then Some end else get same_run before (run_key n other)) ≡ Some last → AreOnce tallies slots other n last
      by_key true same e =
          let at_is : at ≡ n = eqb-true at n (left_of (nat_eq at n) (nat_eq handle.0 other.0) same) in
          let handle_is : handle ≡ other = same_ids handle other (right_of (nat_eq at n) (nat_eq handle.0 other.0) same) in
          subst (λ (x : NameId). AreOnce tallies slots x n last) handle_is (subst (λ (m : ℕ). AreOnce tallies slots handle m last) at_is (subst (λ (m : ℕ). AreOnce tallies slots handle at m) (some_is e) once))
      by_key false same e = runs n other last e
