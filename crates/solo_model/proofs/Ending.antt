-- How a transaction ends: its error is told by its operations, and with an error it changed nothing.
use Rattle.std.proofs.Common.{◌≡◌, ◌≢◌, ⊎_elim, ◌⊎◌, inl, inr, ℕ, ◌+◌, List, [], ◌∷◌, ◌++◌, length, Option, Some, None, Bool, true, false, IsTrue, cond, eqb, leb, not, MatchOption, refl, sym, ◌∙◌, ap, subst}
use Rattle.std.specs.List.{filter}
use Rattle.std.proofs.lemmas.Bool.{false≢true}
use Rattle.pm_objects.specs.declared.calls.Operation.{Operation}
use Rattle.pm_objects.specs.declared.calls.Operation.TheVariants.{Begin, AddRange, Write, Free, Reserve, WriteReserved, DeferFree, SetValue, Publish, Cancel, Commit, Abort}
use Rattle.pm_objects.specs.declared.history.TxErr.{TxErr}
use Rattle.pm_objects.specs.declared.history.TxErr.TheVariants as error
use Rattle.pm_objects.specs.declared.history.Value.{Value}
use Rattle.pm_objects.specs.declared.history.Value.TheVariants.{Refused}
use Rattle.pm_objects.specs.declared.ids.Oid.{Oid}
use Rattle.pm_objects.specs.declared.pool.PoolView.{PoolView}
use Rattle.pm_objects.specs.declared.refusal.Refusal.{Refusal}
use Rattle.solo_model.specs.Actions.{Pending, Reservation, object_reserved, with_actions}
use Rattle.solo_model.specs.Outside.{Outside, after_outside, stands_outside}
use Rattle.solo_model.specs.Transaction.{Transaction, resting, aborted, all_made, all_released, ended_inner, committed, given_over, is_new, made_at, published, released}
use Rattle.solo_model.specs.Bytes.{is_among, new_words, records_of}
use Rattle.solo_model.specs.NewObjects.{pool_without}
use Rattle.solo_model.specs.Checks.{Range, is_action, first_refusal, words_in}
use Rattle.solo_model.specs.Answers.{IsDone, IsRefused, IsValue, Told, after, after_reply, allocated, error_for, performed, reserved}
use Rattle.solo_model.specs.Step.{State, Act, RunsOn, RunsFrom, Step, TransactionStep}
use Rattle.solo_model.specs.Names.{is_refusal}
use Rattle.solo_model.specs.Shown.{error_by, error_of, is_abort}
use Rattle.solo_model.proofs.Alike.{after_refused, done_cases, done_is_plain}

-- it ended with the error of these operations, and either with none or with the pool as it began
pub record EndsWith (pool : PoolView) (e : TxErr) (last : Transaction) : Type 0 where
  pub is : last.error ≡ e
  pub change : (last.error ≡ error.None) ⊎ (last.pool ≡ pool)

-- nothing was aborted so far
record IsWhole (pool : PoolView) (tx : Transaction) : Type 0 where
  unharmed : tx.error ≡ error.None
  before : tx.before ≡ pool

abort_error : (errnum : ℕ) (reply : Option Value) (rest : TxErr) → is_refusal reply ≡ false → error_by (Abort errnum) reply rest ≡ error_for errnum
abort_error errnum (Some (Refused r)) rest plain = absurd (false≢true (sym plain))
abort_error errnum (Some value) rest plain = refl
abort_error errnum None rest plain = refl

plain_error : (op : Operation) (reply : Option Value) (rest : TxErr) → is_refusal reply ≡ false → is_abort op ≡ false → error_by op reply rest ≡ rest
plain_error op (Some (Refused r)) rest plain none = absurd (false≢true (sym plain))
plain_error (Abort errnum) reply rest plain none = absurd (false≢true (sym none))
plain_error op reply rest plain none = refl

refused_error : (op : Operation) (reply : Option Value) (rest : TxErr) (r : Refusal) → IsRefused r reply → error_by op reply rest ≡ cond (is_action op) rest (error.Refused r)
refused_error op reply rest r is = ap (λ (o : Option Value). error_by op o rest) is.told

no_abort : (op : Operation) → IsTrue (stands_outside op) → is_abort op ≡ false
no_abort (Reserve size kind) stands = refl
no_abort (WriteReserved id off bytes) stands = refl
no_abort (DeferFree id) stands = refl
no_abort (SetValue id off value) stands = refl
no_abort Publish stands = refl
no_abort Cancel stands = refl
no_abort op stands = absurd (false≢true stands)

module _ (pool : PoolView) where
  -- behind an abort nothing runs
  ends_aborted : (e : TxErr) (told : List Told) (tx last : Transaction) → IsWhole pool tx → RunsOn (aborted e tx) told last → EndsWith pool e last
  unfolding RunsOn
  ends_aborted e [] tx last whole runs = record {
    is = ap (λ (t : Transaction). t.error) runs.1;
    change = inr (ap (λ (t : Transaction). t.pool) runs.1 ∙ whole.before);
  }
  ends_aborted e (t ∷ told) tx last whole runs = absurd (false≢true runs.0)

  -- behind the outermost commit nothing runs, and an inner one goes on
  ends_committed : (told : List Told) (tx last : Transaction) → IsWhole pool tx → ((next : Transaction) → IsWhole pool next → RunsOn next told last → EndsWith pool (error_of told) last)
      → (outermost : Bool) → RunsOn (cond outermost (resting (with_actions tx.moved tx.pool) tx.actions) (ended_inner (committed tx))) told last → EndsWith pool (error_of told) last
  unfolding RunsOn error_of
  ends_committed [] tx last whole rest true runs = record { is = ap (λ (t : Transaction). t.error) runs.1; change = inl (ap (λ (t : Transaction). t.error) runs.1) }
  ends_committed (t ∷ told) tx last whole rest true runs = absurd (false≢true runs.0)
  ends_committed told tx last whole rest false runs = rest (ended_inner (committed tx)) (record { unharmed = whole.unharmed; before = whole.before }) runs

  -- what is recorded, where the object is new or not
  recorded_whole : (range : Range) (tx : Transaction) (new : Bool) → IsWhole pool tx
      → IsWhole pool (cond new tx (record tx { recorded = tx.recorded ++ new_words tx.recorded (words_in range); records = tx.records + length (records_of (new_words tx.recorded (words_in range))) }))
  recorded_whole range tx true whole = whole
  recorded_whole range tx false whole = record { unharmed = whole.unharmed; before = whole.before }

  -- an object is freed, whether it was made here or not
  released_whole : (off : ℕ) (tx : Transaction) (made : Bool) → IsWhole pool tx
      → IsWhole pool (cond made
      (record tx { pool = pool_without off tx.pool; made = filter (λ other. not (eqb other off)) tx.made; dropped = tx.dropped ++ filter (λ entry. eqb entry.0 off) tx.pool.objects })
      (record tx { pool = pool_without off tx.pool; freed = tx.freed ++ off ∷ [] }))
  released_whole off tx true whole = record { unharmed = whole.unharmed; before = whole.before }
  released_whole off tx false whole = record { unharmed = whole.unharmed; before = whole.before }

  -- all that is freed and made as it is published
  all_released_whole : (ids : List Oid) (tx : Transaction) → IsWhole pool tx → IsWhole pool (all_released ids tx)
  all_released_whole [] tx whole = whole
  all_released_whole (id ∷ ids) tx whole = all_released_whole ids (released id.off tx) (released_whole id.off tx (is_among tx.made id.off) whole)

  all_made_whole : (rs : List Reservation) (tx : Transaction) → IsWhole pool tx → IsWhole pool (all_made rs tx)
  all_made_whole [] tx whole = whole
  all_made_whole (r ∷ rs) tx whole = all_made_whole rs (made_at r.off (object_reserved r) tx) (record { unharmed = whole.unharmed; before = whole.before })

  published_whole : (tx : Transaction) → IsWhole pool tx → IsWhole pool (published tx)
  published_whole tx whole =
      all_made_whole tx.actions.reserved (all_released tx.actions.frees (given_over tx))
      (all_released_whole tx.actions.frees (given_over tx) (record { unharmed = whole.unharmed; before = whole.before }))

  goes_on : (op : Operation) (reply : Option Value) (told : List Told) (tx last : Transaction) → IsWhole pool tx → is_refusal reply ≡ false
      → ((next : Transaction) → IsWhole pool next → RunsOn next told last → EndsWith pool (error_of told) last)
      → RunsOn (performed op tx) told last → EndsWith pool (error_by op reply (error_of told)) last
  goes_on (Abort errnum) reply told tx last whole plain rest runs =
      subst (λ (e : TxErr). EndsWith pool e last) (sym (abort_error errnum reply (error_of told) plain)) (ends_aborted (error_for errnum) told tx last whole runs)
  goes_on Commit reply told tx last whole plain rest runs =
      subst (λ (e : TxErr). EndsWith pool e last) (sym (plain_error Commit reply (error_of told) plain refl)) (ends_committed told tx last whole rest (leb tx.level 1) runs)
  goes_on (Begin wants) reply told tx last whole plain rest runs =
      subst (λ (e : TxErr). EndsWith pool e last) (sym (plain_error (Begin wants) reply (error_of told) plain refl))
      (rest (performed (Begin wants) tx) (record { unharmed = whole.unharmed; before = whole.before }) runs)
  goes_on (AddRange id off len) reply told tx last whole plain rest runs =
      subst (λ (e : TxErr). EndsWith pool e last) (sym (plain_error (AddRange id off len) reply (error_of told) plain refl))
      (rest (performed (AddRange id off len) tx) (recorded_whole (record { id = id; off = off; len = len }) tx (is_new tx id.off) whole) runs)
  goes_on (Write id off bytes) reply told tx last whole plain rest runs =
      subst (λ (e : TxErr). EndsWith pool e last) (sym (plain_error (Write id off bytes) reply (error_of told) plain refl))
      (rest (performed (Write id off bytes) tx) (record { unharmed = whole.unharmed; before = whole.before }) runs)
  goes_on (Free id) reply told tx last whole plain rest runs =
      subst (λ (e : TxErr). EndsWith pool e last) (sym (plain_error (Free id) reply (error_of told) plain refl))
      (rest (performed (Free id) tx) (released_whole id.off tx (is_among tx.made id.off) whole) runs)
  goes_on (WriteReserved id off bytes) reply told tx last whole plain rest runs =
      subst (λ (e : TxErr). EndsWith pool e last) (sym (plain_error (WriteReserved id off bytes) reply (error_of told) plain refl))
      (rest (performed (WriteReserved id off bytes) tx) (record { unharmed = whole.unharmed; before = whole.before }) runs)
  goes_on (DeferFree id) reply told tx last whole plain rest runs =
      subst (λ (e : TxErr). EndsWith pool e last) (sym (plain_error (DeferFree id) reply (error_of told) plain refl))
      (rest (performed (DeferFree id) tx) (record { unharmed = whole.unharmed; before = whole.before }) runs)
  goes_on (SetValue id off value) reply told tx last whole plain rest runs =
      subst (λ (e : TxErr). EndsWith pool e last) (sym (plain_error (SetValue id off value) reply (error_of told) plain refl))
      (rest (performed (SetValue id off value) tx) (record { unharmed = whole.unharmed; before = whole.before }) runs)
  goes_on Publish reply told tx last whole plain rest runs =
      subst (λ (e : TxErr). EndsWith pool e last) (sym (plain_error Publish reply (error_of told) plain refl))
      (rest (performed Publish tx) (published_whole tx whole) runs)
  goes_on Cancel reply told tx last whole plain rest runs =
      subst (λ (e : TxErr). EndsWith pool e last) (sym (plain_error Cancel reply (error_of told) plain refl))
      (rest (performed Cancel tx) (record { unharmed = whole.unharmed; before = whole.before }) runs)
  goes_on op reply told tx last whole plain rest runs =
      subst (λ (e : TxErr). EndsWith pool e last) (sym (plain_error op reply (error_of told) plain refl)) (rest tx whole runs)

  -- an operation that is done goes on
  goes_on_done : (op : Operation) (reply : Option Value) (told : List Told) (tx last : Transaction) → IsWhole pool tx → IsValue tx op reply
      → ((next : Transaction) → IsWhole pool next → RunsOn next told last → EndsWith pool (error_of told) last)
      → RunsOn (after_reply op reply tx) told last → EndsWith pool (error_by op reply (error_of told)) last
  goes_on_done op reply told tx last whole value rest =
      let plain : is_refusal reply ≡ false = done_is_plain tx op reply value in
      done_cases (λ (next : Transaction). RunsOn next told last → EndsWith pool (error_by op reply (error_of told)) last) op reply tx value
      (λ other runs. goes_on op reply told tx last whole plain rest runs)
      (λ size kind off is place runs.
      subst (λ (e : TxErr). EndsWith pool e last) (sym (plain_error op reply (error_of told) plain (ap is_abort is)))
      (rest (allocated off size kind tx) (record { unharmed = whole.unharmed; before = whole.before }) runs))
      (λ size kind off is place runs.
      subst (λ (e : TxErr). EndsWith pool e last) (sym (plain_error op reply (error_of told) plain (ap is_abort is)))
      (rest (reserved off size kind tx) (record { unharmed = whole.unharmed; before = whole.before }) runs))

  ends_by : (t : Told) (told : List Told) (tx last : Transaction) → IsWhole pool tx → (fr : Option Refusal) → MatchOption fr (IsDone tx t.operation t.reply) (λ r. IsRefused r t.reply)
      → ((next : Transaction) → IsWhole pool next → RunsOn next told last → EndsWith pool (error_of told) last) → RunsOn (after t tx) told last → EndsWith pool (error_of (t ∷ told)) last
  unfolding error_of
  ends_by t told tx last whole None done rest runs = goes_on_done t.operation t.reply told tx last whole done.value rest runs
  ends_by t told tx last whole (Some r) is rest runs =
      subst (λ (e : TxErr). EndsWith pool e last) (sym (refused_error t.operation t.reply (error_of told) r is))
      (by_action (is_action t.operation) (subst (λ (o : Transaction). RunsOn o told last) (after_refused t.operation t.reply tx r is) runs)) where
        by_action : (b : Bool) → RunsOn (cond b tx (aborted (error.Refused r) tx)) told last → EndsWith pool (cond b (error_of told) (error.Refused r)) last
        by_action true goes = rest tx whole goes
        by_action false goes = ends_aborted (error.Refused r) told tx last whole goes

  runs_on_end : (told : List Told) (tx last : Transaction) → IsWhole pool tx → RunsOn tx told last → EndsWith pool (error_of told) last
  unfolding RunsOn error_of
  runs_on_end [] tx last whole runs = let e : last.error ≡ error.None = ap (λ (t : Transaction). t.error) runs.1 ∙ whole.unharmed in record { is = e; change = inl e }
  runs_on_end (t ∷ told) tx last whole runs =
      ends_by t told tx last whole (first_refusal runs.1.seen tx t.operation) runs.1.answer (λ next still rest. runs_on_end told next last still rest) runs.2

-- the end of a transaction
pub runs_end : (pool : PoolView) (actions : Pending) (told : List Told) (last : Transaction) → RunsFrom (resting pool actions) told last → EndsWith pool (error_of told) last
unfolding RunsFrom
runs_end pool actions [] last runs = absurd runs
runs_end pool actions (t ∷ told) last runs =
    ends_by pool t told (resting pool actions) last (record { unharmed = refl; before = refl }) (first_refusal runs.0.seen (resting pool actions) t.operation) runs.0.answer
    (λ next still rest. runs_on_end pool told next last still rest) runs.1

-- an operation outside of a transaction that is told as an error left the pool
refused_outside : (op : Operation) (reply : Option Value) (s : Outside) → IsTrue (stands_outside op) → error_by op reply error.None ≢ error.None → (after_outside op reply s).pool ≡ s.pool
refused_outside op (Some (Refused r)) s stands fails = refl
refused_outside op (Some value) s stands fails = absurd (fails (plain_error op (Some value) error.None refl (no_abort op stands)))
refused_outside op None s stands fails = absurd (fails (plain_error op None error.None refl (no_abort op stands)))

-- a call that ended with an error changed no pool
pub aborted_changes_nothing : (act : Act) (s t : State) → Step s act t → error_of act.told ≢ error.None → t.pool ≡ s.pool
unfolding error_of
aborted_changes_nothing act s t (inl step) fails =
    let end : EndsWith s.pool (error_of act.told) step.last = runs_end s.pool act.actions act.told step.last step.runs in
    ap (λ (v : State). v.pool) step.leaves.leaves ∙ ⊎_elim
    (λ (none : step.last.error ≡ error.None). absurd (fails (sym end.is ∙ none)))
    (λ (same : step.last.pool ≡ s.pool). same)
    end.change
aborted_changes_nothing act s t (inr step) fails =
    ap (λ (v : State). v.pool) step.leaves.leaves
    ∙ refused_outside step.operation step.reply (record { pool = s.pool; actions = act.actions }) step.answers.known (λ none. fails (ap error_of step.alone ∙ none))

pub error_is_told : (act : Act) (s t : State) → (step : TransactionStep s act t) → step.last.error ≡ error_of act.told
error_is_told act s t step = (runs_end s.pool act.actions act.told step.last step.runs).is
