-- Blanks that all have options are read through by some choices.
use Rattle.std.proofs.Common.{◌≡◌, ℕ, ◌+◌, ◌<◌, List, [], ◌∷◌, ◌++◌, Bool, true, false, nat_lt, if◌then◌else◌, refl, sym, ap, ◌∙◌, subst, inl, inr}
use Rattle.std.proofs.lemmas.Bool.{lt-ltb}
use Rattle.pst_rng.specs.Words.{start_of}
use Rattle.pst_expr.specs.Spans.{size_of}
use Rattle.pst_model.specs.ModelTree.{ModelTree}
use Rattle.pst_scen.specs.declared.act.Act.{Act}
use Rattle.pst_scen.specs.declared.scenario.Scenario.{Scenario}
use Rattle.pst_legal.specs.Blanks.{Blank, options}
use Rattle.pst_legal.specs.Reading.{Reading, Wants, Stops, Reads, option_at}
use Rattle.pst_legal.specs.ValueReading.{with_option, read_blanks}
use Rattle.pst_built.proofs.Members.{In}
use Rattle.pst_built.proofs.Values.{IsSameOrder}
use Rattle.pst_read_slots.proofs.Same.{same_then, option_same}
use Rattle.pst_read_domains.proofs.Same.{same_domain}

abbrev pub HaveOptions : ModelTree → List Act → List Blank → Type 0
HaveOptions m acts blanks = (blank : Blank) → In blank blanks → 0 < options m acts blank

-- Behind these choices reading goes on with what is left of the list.
pub record Ends (u : Scenario) (go : List ℕ → Reading) : Type 0 where
  pub more : List ℕ
  pub scenario : Scenario
  pub place : ℕ
  pub same : IsSameOrder u scenario
  pub is : (rest : List ℕ) → go (more ++ rest) ≡ Reads scenario place rest

module _ (m : ModelTree) (seed : ℕ) (u : Scenario) where
  some_option : (s : Scenario) (blank : Blank) → IsSameOrder u s → 0 < options m u.actions blank → 0 < options m s.actions blank
  some_option s blank same some = subst (λ spans. 0 < size_of spans) (sym (same_domain u s same m blank)) some

  pub finish : (blanks : List Blank) (s : Scenario) (place : ℕ) → IsSameOrder u s → HaveOptions m u.actions blanks → Ends u (λ more. read_blanks m seed blanks s place more)
  finish [] s place same have = record { more = []; scenario = s; place = place; same = same; is = λ rest. refl }
  finish (blank ∷ blanks) s place same have =
      let n = options m s.actions blank in
      let start = start_of seed place n in
      let k = option_at start n 0 in
      let next = with_option m k blank s in
      let some : 0 < n = some_option s blank same (have blank (inl refl)) in
      let rest = finish blanks next (place + 1) (same_then u s next same (option_same m s k blank)) (λ b inside. have b (inr inside)) in
      record {
        more = 0 ∷ rest.more;
        scenario = rest.scenario;
        place = rest.place;
        same = rest.same;
        is = λ left. ap (λ b. if b then read_blanks m seed blanks next (place + 1) (rest.more ++ left) else Stops) (lt-ltb 0 n some) ∙ rest.is left;
      }

  no_place : (s t : Scenario) (place n : ℕ) (left : List ℕ) → Reads s place left ≡ Wants t n → ⊥
  no_place s t place n left e = cc

  stops_no_place : (t : Scenario) (n : ℕ) → Stops ≡ Wants t n → ⊥
  stops_no_place t n e = cc

  ends_if : (b : Bool) (r : Reading) (go : List ℕ → Reading) (t : Scenario) (n : ℕ) → (r ≡ Wants t n → Ends u go) → (if b then r else Stops) ≡ Wants t n → Ends u (λ more. if b then go more else Stops)
  ends_if true r go t n each e = each e
  ends_if false r go t n each e = absurd (stops_no_place t n e)

  -- from a place of theirs on
  pub finish_from : (blanks : List Blank) (s : Scenario) (place : ℕ) (left : List ℕ) (t : Scenario) (n : ℕ) → IsSameOrder u s → HaveOptions m u.actions blanks
      → read_blanks m seed blanks s place left ≡ Wants t n → Ends u (λ more. read_blanks m seed blanks s place (left ++ more))
  finish_from [] s place left t n same have e = absurd (no_place s t place n left e)
  finish_from (blank ∷ blanks) s place [] t n same have e = finish (blank ∷ blanks) s place same have
  finish_from (blank ∷ blanks) s place (d ∷ left) t n same have e =
      let many = options m s.actions blank in
      let k = option_at (start_of seed place many) many d in
      let next = with_option m k blank s in
      ends_if (nat_lt d many) (read_blanks m seed blanks next (place + 1) left) (λ more. read_blanks m seed blanks next (place + 1) (left ++ more)) t n
      (λ h. finish_from blanks next (place + 1) left t n (same_then u s next same (option_same m s k blank)) (λ b inside. have b (inr inside)) h) e

-- what is read through is so with more choices behind
reads_same : (s t : Scenario) (place end : ℕ) (left rest more : List ℕ) → Reads s place left ≡ Reads t end rest → Reads s place (left ++ more) ≡ Reads t end (rest ++ more)
reads_same s t place end left rest more e = cc

wants_reads : (s t : Scenario) (n end : ℕ) (rest : List ℕ) → Wants s n ≡ Reads t end rest → ⊥
wants_reads s t n end rest e = cc

stops_reads : (t : Scenario) (end : ℕ) (rest : List ℕ) → Stops ≡ Reads t end rest → ⊥
stops_reads t end rest e = cc

reads_if : (b : Bool) (r on : Reading) (t : Scenario) (end : ℕ) (rest more : List ℕ) → (r ≡ Reads t end rest → on ≡ Reads t end (rest ++ more)) → (if b then r else Stops) ≡ Reads t end rest → (if b then on else Stops) ≡ Reads t end (rest ++ more)
reads_if true r on t end rest more each e = each e
reads_if false r on t end rest more each e = absurd (stops_reads t end rest e)

first_reads : (b : Bool) (s : Scenario) (n : ℕ) (on : Reading) (t : Scenario) (end : ℕ) (rest more : List ℕ) → (if b then Wants s n else Stops) ≡ Reads t end rest → on ≡ Reads t end (rest ++ more)
first_reads true s n on t end rest more e = absurd (wants_reads s t n end rest e)
first_reads false s n on t end rest more e = absurd (stops_reads t end rest e)

pub reads_on : (m : ModelTree) (seed : ℕ) (blanks : List Blank) (s : Scenario) (place : ℕ) (left : List ℕ) (t : Scenario) (end : ℕ) (rest more : List ℕ)
    → read_blanks m seed blanks s place left ≡ Reads t end rest → read_blanks m seed blanks s place (left ++ more) ≡ Reads t end (rest ++ more)
reads_on m seed [] s place left t end rest more e = reads_same s t place end left rest more e
reads_on m seed (blank ∷ blanks) s place [] t end rest more e =
    first_reads (nat_lt 0 (options m s.actions blank)) s (options m s.actions blank) (read_blanks m seed (blank ∷ blanks) s place more) t end rest more e
reads_on m seed (blank ∷ blanks) s place (d ∷ left) t end rest more e =
    let many = options m s.actions blank in
    let next = with_option m (option_at (start_of seed place many) many d) blank s in
    reads_if (nat_lt d many) (read_blanks m seed blanks next (place + 1) left) (read_blanks m seed blanks next (place + 1) (left ++ more)) t end rest more
    (λ h. reads_on m seed blanks next (place + 1) left t end rest more h) e
