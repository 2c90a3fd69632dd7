-- Lists of writes that grow, and the pairs that they give.
use Rattle.std.proofs.Common.{◌≡◌, ◌⊎◌, inl, inr, ⊎_elim, ◌<◌, ◌≤◌, ◌+◌, ℕ, List, length, slice_get, Some, sym, subst, ap, ◌∙◌, arith}
use Rattle.std.proofs.lemmas.Option.{slice_get_within}
use Rattle.pst_scen.specs.declared.rows.Rows.{Rows}
use Rattle.pst_scen.specs.declared.act.Act.{Act}
use Rattle.pst_scen.specs.declared.act.Filled.{Filled}
use Rattle.pst_scen.specs.declared.act.Flow.TheVariants.{StateOut}
use Rattle.pst_scen.specs.declared.act.Link.TheVariants as link
use Rattle.pst_scen.specs.declared.scenario.Scenario.{Scenario}
use Rattle.pst_scen.specs.Flows.{IsAct}
use Rattle.pst_square.specs.Squares.{Adds, IsInRow, IsOneOf}
use Rattle.pst_square.proofs.Adding.{adds_as, family_more}
use Rattle.pst_nodes.proofs.Climbs.{same_some}
use Rattle.pst_graph.specs.declared.writes.Write.{Write}
use Rattle.pst_graph.specs.Listed.{IsReplacing}
use Rattle.pst_graph.specs.Uses.{Listed, Lengthens}
use Rattle.pst_graph.specs.Writes.{IsWrite, IsWriteBy, HasWrites, ListsWrites, IsMatching, IsMatchingAt, IsMatchingIn, ReadsMatching, ReadsMatchingAt, ReadsMatchingIn}
use Rattle.pst_graph.proofs.Acted.{one_act}
use Rattle.pst_graph.proofs.UsesListed.{listed_on, last}

abbrev pub no_write : Write
no_write = record { pool = 0; replaced = link.Nothing; act = 0 }

-- one reference more
pub writes_more : (middle last_writes : List Write) (references : List Filled) (a i : ℕ) (filled : Filled) → slice_get references i ≡ Some filled → HasWrites middle references a i → Lengthens middle last_writes (IsWriteBy a) → (filled.flow ≡ StateOut → Listed last_writes (IsWrite filled a)) → HasWrites last_writes references a (i + 1)
writes_more middle last_writes references a i filled is before two here k other below at written = go (last k i below)
  where
    go : (k < i) ⊎ (k ≡ i) → Listed last_writes (IsWrite other a)
    go (inl less) = listed_on middle last_writes (IsWrite other a) (IsWriteBy a) two (before k other less at written)
    go (inr same) =
        let is_other : filled ≡ other = same_some filled other (sym is ∙ ap (slice_get references) (sym same) ∙ at) in
        subst (λ (x : Filled). x.flow ≡ StateOut → Listed last_writes (IsWrite x a)) is_other here written

-- one action more
pub all_writes_more : (s : Scenario) (first last_writes : List Write) (a : ℕ) (act : Act) → a < length s.actions → IsAct s a act → ListsWrites s first a → Lengthens first last_writes (IsWriteBy a) → HasWrites last_writes act.references a (length act.references) → ListsWrites s last_writes (a + 1)
all_writes_more s first last_writes a act a_in is_act before longer has =
    record {
      inside = λ i write is. ⊎_elim (λ was. before.inside i write was) (λ by. subst (λ (n : ℕ). n < length s.actions) (sym by) a_in) (longer.sound i write is);
      all = λ b reference other filled below is_other is written. listed b reference other filled is_other is written (last b a below);
    }
  where
    listed : (b reference : ℕ) (other : Act) (filled : Filled) → IsAct s b other → slice_get other.references reference ≡ Some filled → filled.flow ≡ StateOut → (b < a) ⊎ (b ≡ a) → Listed last_writes (IsWrite filled b)
    listed b reference other filled is_other is written (inl less) = listed_on first last_writes (IsWrite filled b) (IsWriteBy a) longer (before.all b reference other filled less is_other is written)
    listed b reference other filled is_other is written (inr same) =
        let is_same : act ≡ other = one_act s a act other is_act (subst (λ (n : ℕ). IsAct s n other) same is_other) in
        let at : slice_get act.references reference ≡ Some filled = subst (λ (x : Act). slice_get x.references reference ≡ Some filled) (sym is_same) is in
        subst (λ (n : ℕ). Listed last_writes (IsWrite filled n)) (sym same) (has reference filled (slice_get_within act.references reference filled at) at written)

-- one write after another
module _ (s : Scenario) (filled : Filled) (a : ℕ) (writes : List Write) where
  pub matching_more : (first middle end : Rows) (i : ℕ) (write : Write) → slice_get writes i ≡ Some write → Adds first middle (IsOneOf (IsMatchingAt s filled a writes) i) → Adds middle end (IsMatching s filled a write) → Adds first end (IsOneOf (IsMatchingAt s filled a writes) (i + 1))
  matching_more first middle end i write is one two =
      family_more (IsMatchingAt s filled a writes) first middle end i one
      (adds_as middle end (IsMatching s filled a write) (IsMatchingAt s filled a writes i) two
      (λ c d c_in d_in h. record { write = write; is = is; matching = h })
      (λ c d c_in d_in h. subst (λ (w : Write). IsMatching s filled a w c d) (same_some h.write write (sym h.is ∙ is)) h.matching))

  pub matching_all : (first end : Rows) (n : ℕ) → length writes ≤ n → Adds first end (IsOneOf (IsMatchingAt s filled a writes) n) → Adds first end (IsMatchingIn s filled a writes)
  matching_all first end n all added =
      adds_as first end (IsOneOf (IsMatchingAt s filled a writes) n) (IsMatchingIn s filled a writes) added
      (λ c d c_in d_in h. record { place = h.index; at = h.has })
      (λ c d c_in d_in h.
      let within : h.place < length writes = slice_get_within writes h.place h.at.write h.at.is in
      record { index = h.place; below = omega (arith, within, all); has = h.at })

-- one reference after another
module _ (s : Scenario) (a : ℕ) (writes : List Write) (references : List Filled) where
  pub reading_more : (first middle end : Rows) (i : ℕ) (filled : Filled) → slice_get references i ≡ Some filled → Adds first middle (IsOneOf (ReadsMatchingAt s a writes references) i) → Adds middle end (ReadsMatching s a writes filled) → Adds first end (IsOneOf (ReadsMatchingAt s a writes references) (i + 1))
  reading_more first middle end i filled is one two =
      family_more (ReadsMatchingAt s a writes references) first middle end i one
      (adds_as middle end (ReadsMatching s a writes filled) (ReadsMatchingAt s a writes references i) two
      (λ c d c_in d_in h. record { filled = filled; is = is; reads = h })
      (λ c d c_in d_in h. subst (λ (f : Filled). ReadsMatching s a writes f c d) (same_some h.filled filled (sym h.is ∙ is)) h.reads))

  pub reading_all : (first end : Rows) (n : ℕ) → length references ≤ n → Adds first end (IsOneOf (ReadsMatchingAt s a writes references) n) → Adds first end (ReadsMatchingIn s a writes references)
  reading_all first end n all added =
      adds_as first end (IsOneOf (ReadsMatchingAt s a writes references) n) (ReadsMatchingIn s a writes references) added
      (λ c d c_in d_in h. record { place = h.index; at = h.has })
      (λ c d c_in d_in h.
      let within : h.place < length references = slice_get_within references h.place h.at.filled h.at.is in
      record { index = h.place; below = omega (arith, within, all); has = h.at })

-- the pairs of one action are those with all that replace what it reads
module _ (s : Scenario) (a : ℕ) (act : Act) (writes : List Write) (is_act : IsAct s a act) (lists : ListsWrites s writes (length s.actions)) where
  pub row_read : (first end : Rows) → first.size ≡ length s.actions → Adds first end (ReadsMatchingIn s a writes act.references) → Adds first end (IsInRow (IsReplacing s) a)
  row_read first end size added =
      adds_as first end (ReadsMatchingIn s a writes act.references) (IsInRow (IsReplacing s) a) added
      (λ c d c_in d_in h. let only = h.at.reads.matching.at.matching.only in record { first = only.pair.first; related = only.related })
      (λ c d c_in d_in h. reads c d (subst (λ (n : ℕ). d < n) size d_in) h)
    where
      reads : (c d : ℕ) → d < length s.actions → IsInRow (IsReplacing s) a c d → ReadsMatchingIn s a writes act.references c d
      reads c d d_in h =
          let r = h.related in
          let read = r.reads in
          let w = read.reads.replaced in
          let same : r.one ≡ act = one_act s a r.one act (subst (λ (n : ℕ). IsAct s n r.one) h.first r.is_one) is_act in
          let found = lists.all d w.reference r.other w.filled d_in r.is_other w.is w.of_flow in
          record {
            place = read.reference;
            at = record {
              filled = read.filled;
              is = subst (λ (x : Act). slice_get x.references read.reference ≡ Some read.filled) same read.is;
              reads = record {
                of_flow = read.reads.of_flow;
                matching = record {
                  place = found.place;
                  at = record {
                    write = found.one;
                    is = found.is;
                    matching = record {
                      pool = found.has.pool ∙ w.same_pool;
                      link = found.has.replaced ∙ w.same_link;
                      only = record { pair = record { first = h.first; second = sym found.has.act }; related = r };
                    };
                  };
                };
              };
            };
          }
