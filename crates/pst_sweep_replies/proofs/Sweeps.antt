-- What is answered to a sweep.
use Rattle.std.proofs.Common.{◌≡◌, ◌∙◌, ℕ, ◌+◌, ◌≤◌, ◌^◌, List, length, get_or, map, replicate, All, sym, subst}
use Rattle.std.specs.Prelude.{Result, Ok, Err, IfOk, string_bytes}
use Rattle.std.specs.List.{range_with_len}
use Rattle.std.proofs.lemmas.List.FromFn.{length-map-range_with_len}
use Rattle.std.proofs.lemmas.List.{length-replicate}
use Rattle.std.proofs.lemmas.Option.{slice_get-get_or}
use Rattle.pst_base.specs.declared.memory.NoMemory.{NoMemory}
use Rattle.pst_model.specs.ModelTree.{ModelTree}
use Rattle.pst_run_alone.specs.Lanes.{Lane, AreUncalled}
use Rattle.pst_sweep_table.specs.declared.row.Outcome.{Outcome}
use Rattle.pst_sweep_table.specs.declared.row.SweepRow.{SweepRow}
use Rattle.pst_sweep_table.specs.Counts.{count_of}
use Rattle.pst_sweep_table.specs.Rows.{MayCome, IsFound, HasNone, IsSpent, IsTable}
use Rattle.pst_outcome.specs.declared.answer.Answer.{Answer}
use Rattle.pst_outcome.specs.declared.reply.Reply.{Reply}
use Rattle.pst_outcome.specs.declared.task.Task.{Task}
use Rattle.pst_outcome.specs.declared.task.Work.{Work}
use Rattle.pst_outcome.specs.declared.task.Work.TheVariants as work
use Rattle.pst_outcome.specs.Tasks.{FitsLanes}
use Rattle.pst_outcome.specs.Models.{OfModel, IsSwept}
use Rattle.pst_sweep_replies.specs.Replies.{TellsRows, SaysSweep}

-- each row counts the types of the model
uses_long : (m : ModelTree) (root infer budget seed : ℕ) (outcome : Outcome) (uses : List ℕ) → MayCome m root infer budget seed outcome uses → length uses ≡ length m.actions
uses_long m root infer budget seed _ _ (IsFound s first) = length-map-range_with_len (count_of s) 0 (length m.actions)
uses_long m root infer budget seed _ _ (HasNone none) = length-replicate (length m.actions) 0
uses_long m root infer budget seed _ _ (IsSpent level few spent) = length-replicate (length m.actions) 0

pub rows_long : (m : ModelTree) (root infer budget first count : ℕ) (rows : List SweepRow) → IsTable m root infer budget first count rows → All (λ (row : SweepRow). length row.uses ≡ length m.actions) rows
rows_long m root infer budget first count rows table = λ k d below.
    let row = get_or rows k d in uses_long m root infer budget (first + k) row.outcome row.uses (table.each k row (slice_get-get_or rows k d below)).comes

-- the reply tells of the rows of a table
pub table_told : (names : List (List ℕ)) (m : ModelTree) (root infer budget first count : ℕ) (rows : List SweepRow) (r : Result Reply NoMemory) → IsTable m root infer budget first count rows → IfOk r (TellsRows names m rows)
    → IfOk r (SaysSweep names m root infer budget first count)
table_told names m root infer budget first count rows (Ok reply) table tells = (rows, table, tells)
table_told names m root infer budget first count rows (Err e) table tells = tt

-- the seeds of a sweep end within 2^64
pub seeds_fit : (w : Work) (have first count : ℕ) → w ≡ work.Sweep first count → FitsLanes have w → first + count ≤ 2 ^ 64
seeds_fit w have first count is fits = subst (FitsLanes have) is fits

pub sweep_owed : (names : List (List ℕ)) (m : ModelTree) (root : ℕ) (task : Task) (first count : ℕ) (r : Result Reply NoMemory) → task.work ≡ work.Sweep first count
    → IfOk r (SaysSweep names m root task.infer task.budget first count)
    → (trace : List ℕ) (lanes : List Lane) → AreUncalled lanes → IfOk r (λ reply. OfModel names m root task trace lanes reply.answer (string_bytes reply.text))
sweep_owed names m root task first count (Ok reply) is (rows, table, tells) trace lanes none =
    subst (λ (a : Answer). OfModel names m root task trace lanes a (string_bytes reply.text)) (sym tells.answer_is) (IsSwept first count rows tells.found (string_bytes reply.text) is none table tells.shows)
sweep_owed names m root task first count (Err e) is says trace lanes none = tt
