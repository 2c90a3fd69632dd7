-- What is known of a list's beginnings behind one choice more.
use Rattle.std.proofs.Common.{◌≡◌, ℕ, ◌+◌, ◌-◌, ◌<◌, List, [], ◌∷◌, ◌++◌, length, Bool, true, false, Option, Some, None, refl, sym, ap, ◌∙◌, subst, inl, inr, length-append}
use Rattle.std.specs.Global.{Vec}
use Rattle.pst_model.specs.declared.model.Model.{Model}
use Rattle.pst_model.specs.ModelView.{view_model}
use Rattle.pst_scen.specs.declared.act.Act.{Act}
use Rattle.pst_scen.specs.declared.tree.Node.{Node}
use Rattle.pst_legal.specs.First.{NoneRefused}
use Rattle.pst_legal.specs.Reading.{Reading, Wants, Stops, Reads}
use Rattle.pst_legal.specs.ValueReading.{Answer, Options, Dead, Whole, answer_of}
use Rattle.pst_shape.specs.Walks.{IfRead, HasDigit}
use Rattle.pst_refusals.specs.Answers.{TellsRefusals}
use Rattle.pst_value_walk.specs.Walks.{Kept as Values}
use Rattle.pst_link_walk.specs.Walks.{Kept, reading}
use Rattle.pst_link_walk.specs.Made.{IsInside}
use Rattle.pst_link_walk.specs.Walks.{answer as link_answer}
use Rattle.pst_link_walk.specs.News.{IsSize, IsNews}
use Rattle.pst_list_walk.specs.Walks.{answer}
use Rattle.pst_list_walk.specs.Free.{kept_at, IfPlace, IsFree, IsFreed, Frees}
use Rattle.pst_list_walk.specs.Made.{choices_of, Stands, Goes}
use Rattle.pst_new_refusals.specs.Newly.{AreGiven, StaysFree}
use Rattle.pst_list_walk.proofs.Growing.{freed}
use Rattle.pst_list_walk.proofs.Free.{free_next, free_here}
use Rattle.pst_list_walk.proofs.Answering.{none_stands}
use Rattle.pst_list_walk.proofs.Refusing.{inside_is}

pub counted : (a : Answer) (nodes : List Node) (count : ℕ) → count ≡ length nodes → IfRead a (λ s. nodes ≡ s.nodes) → IfRead a (λ s. count ≡ length s.nodes)
counted (Options s n) nodes count e same = e ∙ ap length same
counted Dead nodes count e same = tt
counted (Whole s) nodes count e same = e ∙ ap length same

told : (m : Model) (r : Reading) → IsInside r → IfPlace (answer_of r) (NoneRefused (view_model m)) → IfRead (answer_of r) (λ s. TellsRefusals (view_model m) s false)
told m (Wants s n) inside none = none
told m Stops inside none = tt
told m (Reads s p left) inside none = absurd inside

module _ (m : Model) (root seed level : ℕ) where
  pub goes_linked : (xs : List ℕ) (new : Kept) (d linked : ℕ) (after : Option Values) → linked ≡ length xs → Goes m root seed level xs d new after → linked + 1 ≡ length new.choices
  goes_linked xs new d linked after many goes = ap (λ n. n + 1) many ∙ sym (length-append xs (d ∷ [])) ∙ ap length (sym (ap (λ (x : Kept). x.choices) goes.is))

  pub goes_free : (links : Kept) (values : Option Values) (new : Kept) (d free linked next : ℕ) (size : Option ℕ) (count : ℕ) (nodes : List Node) (after : Option Values) (is_freed : Bool) → links ≡ kept_at m root seed level links.choices
      → linked ≡ length links.choices → IsFree m root seed level links.choices free → Goes m root seed level links.choices d new after → HasDigit (link_answer links) d → IsSize links size → IfRead (link_answer links) (λ s. nodes ≡ s.nodes)
      → count ≡ length nodes → Frees free linked is_freed next → (is_freed ≡ true → (root seed level digit : ℕ) → IsFreed m root seed level digit size count new) → IsFree m root seed level new.choices next
  goes_free links values new d free linked next size count nodes after is_freed e many is goes digit sizes same long frees freed =
      subst (λ ys. IsFree m root seed level ys next) (sym (ap (λ (x : Kept). x.choices) goes.is))
      (free_next m root seed level links.choices d free linked next is_freed is many frees
      (λ on none. freed on root seed level d links.choices goes.is (subst (λ k. HasDigit (link_answer k) d) e digit) (subst (λ k. IsSize k size) e sizes)
      (subst (λ k. IfRead (link_answer k) (λ s. count ≡ length s.nodes)) e (counted (link_answer links) nodes count long same)) none))

  pub free_told : (links : Kept) (values : Option Values) (free linked : ℕ) → links ≡ kept_at m root seed level links.choices → values ≡ None → Stands m root seed level links.choices values → linked ≡ length links.choices
      → IsFree m root seed level links.choices free → linked < free → IfRead (answer (kept_at m root seed level (links.choices ++ choices_of values))) (λ s. TellsRefusals (view_model m) s false)
  free_told links values free linked e none stands many is l =
      subst (λ a. IfRead a (λ s. TellsRefusals (view_model m) s false)) (inside_is m root seed level links values e none stands)
      (told m (reading links) (subst (λ k. IsInside (reading k)) (sym e) (none_stands m root seed level links.choices values none stands)) (subst (λ k. IfPlace (link_answer k) (NoneRefused (view_model m))) (sym e) (free_here m root seed level links.choices free linked is many l)))

  -- with what is new
  pub freed_on : (digit : ℕ) (size : Option ℕ) (count : ℕ) (new : Kept) (far : Bool) (nodes : List Node) (acts : List Act) (fresh : Vec Act) → IsNews new size (Some fresh) → IfRead (link_answer new) (λ t. nodes ≡ t.nodes) → IfRead (link_answer new) (AreGiven far acts)
      → StaysFree (view_model m) far nodes acts (count - 1) fresh.items → IsFreed m root seed level digit size count new
  freed_on digit size count new far nodes acts fresh news same given stays = λ xs e has sized counts none.
      let at : IsNews (kept_at m root seed level (xs ++ digit ∷ [])) size (Some fresh) = subst (λ k. IsNews k size (Some fresh)) e news in
      freed m root seed level xs digit far nodes acts count fresh.items stays (λ s t n k here there. at xs digit refl sized s t n k here there) has counts (subst (λ k. IfRead (link_answer k) (λ t. nodes ≡ t.nodes)) e same)
      (subst (λ k. IfRead (link_answer k) (AreGiven far acts)) e given) none

-- the actions are those that are read, or none
pub given_all : (far : Bool) (a : Answer) (acts : List Act) → IfRead a (λ s. acts ≡ s.actions) → IfRead a (AreGiven far acts)
given_all far (Options s n) acts same = inl (sym same)
given_all far Dead acts same = tt
given_all far (Whole s) acts same = inl (sym same)

pub given_none : (far : Bool) (a : Answer) (acts : List Act) → far ≡ false → acts ≡ [] → IfRead a (AreGiven far acts)
given_none far (Options s n) acts near none = inr (near, none)
given_none far Dead acts near none = tt
given_none far (Whole s) acts near none = inr (near, none)
