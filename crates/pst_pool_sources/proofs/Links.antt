-- What is linked changes no list of references that fit.
use Rattle.std.proofs.Common.{◌≡◌, ℕ, zero, suc, ◌+◌, List, [], ◌∷◌, ◌++◌, map, drop, Bool, true, false, nat_eq, if◌then◌else◌, refl, ap, ◌∙◌, arith}
use Rattle.std.specs.List.{enumerate_from}
use Rattle.pst_scen.specs.declared.act.Act.{Act}
use Rattle.pst_scen.specs.declared.act.Filled.{Filled}
use Rattle.pst_scen.specs.declared.act.Flow.{Flow}
use Rattle.pst_scen.specs.declared.act.Link.{Link}
use Rattle.pst_legal.specs.SupplyReading.{with_link, act_with_link, put_link}
use Rattle.pst_ties.specs.declared.tied.End.{End}
use Rattle.pst_pool_sources.specs.Offers.{offers, end_if, fitting_in, fitting_from}

module _ (need : Flow) (pool : ℕ) where
  in_same : (act number m r : ℕ) (to : Link) (xs : List Filled) → fitting_in need pool act number (map (λ e. if nat_eq e.0 r then with_link to e.1 else e.1) (enumerate_from m xs)) ≡ fitting_in need pool act number xs
  in_same act number m r to [] = refl
  in_same act number m r to (x ∷ xs) = go (nat_eq m r) (in_same act (number + 1) (m + 1) r to xs)
    where
      rest : List Filled
      rest = map (λ e. if nat_eq e.0 r then with_link to e.1 else e.1) (enumerate_from (m + 1) xs)

      here : List End
      here = end_if (offers need pool x) (record { act = act; reference = number })

      go : (b : Bool) → fitting_in need pool act (number + 1) rest ≡ fitting_in need pool act (number + 1) xs → fitting_in need pool act number ((if b then with_link to x else x) ∷ rest) ≡ here ++ fitting_in need pool act (number + 1) xs
      go true h = ap (λ l. here ++ l) h
      go false h = ap (λ l. here ++ l) h

  from_same : (number m a r : ℕ) (to : Link) (xs : List Act) → fitting_from need pool number (map (λ e. if nat_eq e.0 a then act_with_link r to e.1 else e.1) (enumerate_from m xs)) ≡ fitting_from need pool number xs
  from_same number m a r to [] = refl
  from_same number m a r to (x ∷ xs) = go (nat_eq m a) (from_same (number + 1) (m + 1) a r to xs)
    where
      rest : List Act
      rest = map (λ e. if nat_eq e.0 a then act_with_link r to e.1 else e.1) (enumerate_from (m + 1) xs)

      go : (b : Bool) → fitting_from need pool (number + 1) rest ≡ fitting_from need pool (number + 1) xs → fitting_from need pool number ((if b then act_with_link r to x else x) ∷ rest) ≡ fitting_in need pool number 0 x.references ++ fitting_from need pool (number + 1) xs
      go true h =
          ap (λ l. l ++ fitting_from need pool (number + 1) rest) (in_same number 0 0 r to x.references)
          ∙ ap (λ l. fitting_in need pool number 0 x.references ++ l) h
      go false h = ap (λ l. fitting_in need pool number 0 x.references ++ l) h

  drop_numbered : (count m n : ℕ) (xs : List Act) → n ≡ m + count → drop count (enumerate_from m xs) ≡ enumerate_from n (drop count xs)
  drop_numbered zero m n xs e = let z : m ≡ n = omega arith in ap (λ k. enumerate_from k xs) z
  drop_numbered (suc count) m n [] e = refl
  drop_numbered (suc count) m n (x ∷ xs) e = drop_numbered count (m + 1) n xs (omega arith)

  drop_map : {A B : Type 0} (f : A → B) (count : ℕ) (xs : List A) → drop count (map f xs) ≡ map f (drop count xs)
  drop_map f zero xs = refl
  drop_map f (suc count) [] = refl
  drop_map f (suc count) (x ∷ xs) = drop_map f count xs

  -- nor those of the actions behind the first ones
  pub relinked_behind : (count a r : ℕ) (to : Link) (acts : List Act) → fitting_from need pool count (drop count (put_link a r to acts)) ≡ fitting_from need pool count (drop count acts)
  relinked_behind count a r to acts =
      let f = λ (e : ℕ × Act). if nat_eq e.0 a then act_with_link r to e.1 else e.1 in
      ap (fitting_from need pool count) (drop_map f count (enumerate_from 0 acts) ∙ ap (map f) (drop_numbered count 0 count acts (omega arith)))
      ∙ from_same count count a r to (drop count acts)
