-- What is ordered or disputed already refuses all longer lists.
use Rattle.std.proofs.Common.{◌≡◌, ℕ, ◌<◌, List, ◌++◌, length, refl, sym, subst}
use Rattle.std.proofs.lemmas.Option.{slice_get_within}
use Rattle.pst_model.specs.ModelTree.{ModelTree}
use Rattle.pst_scen.specs.declared.scenario.Scenario.{Scenario}
use Rattle.pst_legal.specs.ValueReading.{Whole, read}
use Rattle.pst_legal.specs.First.{ReadsLegal}
use Rattle.pst_built.proofs.Whole.{whole_is_well_formed}
use Rattle.pst_order.specs.Laws.{WholeHasNoCycle, WholeHasNoClash}
use Rattle.pst_built.proofs.Lists.{get_below}
use Rattle.pst_built.specs.GoesOn.{GoesOn}
use Rattle.pst_built.specs.SoFar.{HasRead}
use Rattle.pst_built.specs.OrderStaysLaws.{OrderStays, OrdersStay, CyclesStay, GroupClashesStay, OwnClashesStay, ParallelOrdersStay, ParallelClashesStay}
use Rattle.pst_built.proofs.OrderStaysLonger.{longer_go_on}
use Rattle.pst_built.proofs.Stays.{stays}

has_whole : (m : ModelTree) (root seed level : ℕ) (choices : List ℕ) (t : Scenario) → read m root seed level choices ≡ Whole t → HasRead (read m root seed level choices) t
has_whole m root seed level choices t is = subst (λ a. HasRead a t) (sym is) refl

pub orders : OrdersStay
orders m root seed level choices more s t has is =
    stays s t (longer_go_on m root seed level choices more s t has (has_whole m root seed level (choices ++ more) t is)) (whole_is_well_formed m root seed level (choices ++ more) t is)

legal_order : (m : ModelTree) (root seed level : ℕ) (choices more : List ℕ) (s t : Scenario) → HasRead (read m root seed level choices) s → ReadsLegal m root seed level (choices ++ more) t → OrderStays s t
legal_order m root seed level choices more s t has legal = orders m root seed level choices more s t has legal.reads

more_acts : (s t : Scenario) (a : ℕ) → GoesOn s t → a < length s.actions → a < length t.actions
more_acts s t a on l = let x = get_below s.actions a l in let y = on.acts a x.0 x.1 in slice_get_within t.actions a y.0 y.1

legal_on : (m : ModelTree) (root seed level : ℕ) (choices more : List ℕ) (s t : Scenario) → HasRead (read m root seed level choices) s → ReadsLegal m root seed level (choices ++ more) t → GoesOn s t
legal_on m root seed level choices more s t has legal = longer_go_on m root seed level choices more s t has (has_whole m root seed level (choices ++ more) t legal.reads)

pub cycles : WholeHasNoCycle → CyclesStay
cycles none m root seed level choices s a has l must more t legal =
    none t a legal.legal.runs (more_acts s t a (legal_on m root seed level choices more s t has legal) l) ((legal_order m root seed level choices more s t has legal).must a a must)

pub group_clashes : WholeHasNoClash → GroupClashesStay
group_clashes none m root seed level choices s a b has together conflict more t legal =
    let stay = legal_order m root seed level choices more s t has legal in
    none t a b legal.legal.runs (stay.together a b together) (stay.conflict a b conflict)

pub own_clashes : OwnClashesStay
own_clashes m root seed level choices s a has l clash more t legal =
    legal.legal.alone a (more_acts s t a (legal_on m root seed level choices more s t has legal) l) ((legal_order m root seed level choices more s t has legal).alone a clash)

pub parallel_orders : ParallelOrdersStay
parallel_orders m root seed level choices s a b has parallel must more t legal =
    let stay = legal_order m root seed level choices more s t has legal in
    legal.legal.parallel.unordered a b (stay.parallel a b parallel) (stay.must a b must)

pub parallel_clashes : ParallelClashesStay
parallel_clashes m root seed level choices s a b has parallel other contend more t legal =
    let stay = legal_order m root seed level choices more s t has legal in
    legal.legal.parallel.undisputed a b (stay.parallel a b parallel) other (stay.contend a b contend)
