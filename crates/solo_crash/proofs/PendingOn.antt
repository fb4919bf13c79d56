-- What is pending behind one operation more, and behind one call more.
use Rattle.std.proofs.Common.{◌≡◌, ℕ, ◌+◌, ◌||◌, Bool, true, false, cond, not, eqb, leb, List, [], ◌∷◌, ◌++◌, length, Option, Some, refl, sym, ◌∙◌, ap}
use Rattle.std.specs.List.{filter}
use Rattle.std.proofs.lemmas.List.{append_assoc, append-nil}
use Rattle.pm_objects.specs.declared.calls.Operation.{Operation}
use Rattle.pm_objects.specs.declared.calls.Operation.TheVariants.{AddRange, Alloc, Cancel, Commit, DeferFree, Free, Publish, Reserve, SetValue, WriteReserved}
use Rattle.pm_objects.specs.declared.history.TxErr.TheVariants as error
use Rattle.pm_objects.specs.declared.history.Value.{Value}
use Rattle.pm_objects.specs.declared.history.Value.TheVariants.{Offset, Refused}
use Rattle.pm_objects.specs.declared.ids.Oid.{Oid}
use Rattle.solo_model.specs.Actions.{Action, Pending, Reservation, none_pending, object_reserved, only_sets, with_actions}
use Rattle.solo_model.specs.Answers.{after_reply, changes_nothing}
use Rattle.solo_model.specs.Bytes.{is_among, new_words, records_of}
use Rattle.solo_model.specs.Checks.{is_action, words_in}
use Rattle.solo_model.specs.NewObjects.{pool_without}
use Rattle.solo_model.specs.Transaction.{Transaction, aborted, all_made, all_released, committed, ended_inner, given_over, is_new, made_at, released, resting}
use Rattle.solo_view.specs.View.{Numbered, Told, View}
use Rattle.solo_crash.specs.Pending.{pending_before, pending_behind, pending_from, pending_in, pending_told, published_by, published_in, published_told}

-- where set-values are all that is pending
pub sets_alone : (p : Pending) (actions : List Action) → only_sets actions ≡ p → p ≡ only_sets p.sets
sets_alone p actions is = sym is ∙ ap (λ (q : Pending). only_sets q.sets) is

told_further : (actions : Pending) (told : List Told) (t : Told) → pending_told actions (told ++ t ∷ []) ≡ pending_behind t.operation t.reply (pending_told actions told)
unfolding pending_told
told_further actions [] t = refl
told_further actions (u ∷ told) t = told_further (pending_behind u.operation u.reply actions) told t

published_further : (actions : Pending) (told : List Told) (t : Told)
    → published_told actions (told ++ t ∷ []) ≡ published_told actions told ++ published_by t.operation t.reply (pending_told actions told)
unfolding pending_told published_told
published_further actions [] t = append-nil (published_by t.operation t.reply actions)
published_further actions (u ∷ told) t =
    ap (λ (more : List Action). published_by u.operation u.reply actions ++ more) (published_further (pending_behind u.operation u.reply actions) told t)
    ∙ sym (append_assoc (published_by u.operation u.reply actions) (published_told (pending_behind u.operation u.reply actions) told) (published_by t.operation t.reply (pending_told (pending_behind u.operation u.reply actions) told)))

pub calls_further : (actions : Pending) (calls : List Numbered) (e : Numbered) → pending_from actions (calls ++ e ∷ []) ≡ pending_told (pending_from actions calls) e.call
unfolding pending_from
calls_further actions [] e = refl
calls_further actions (d ∷ calls) e = calls_further (pending_told actions d.call) calls e

-- no call drew a number, so what was pending before is the same
pub same_before : (v next : View) → next.entries ≡ v.entries → pending_before next ≡ pending_before v
same_before v next entries = ap (pending_from none_pending) entries

pub pending_once_more : (v next : View) (op : Operation) (reply : Option Value) → next.entries ≡ v.entries → next.call ≡ v.call ++ record { operation = op; reply = reply } ∷ []
    → pending_in next ≡ pending_behind op reply (pending_in v)
pending_once_more v next op reply entries call =
    (λ j. pending_told (same_before v next entries j) (call j)) ∙ told_further (pending_before v) v.call (record { operation = op; reply = reply })

pub published_once_more : (v next : View) (op : Operation) (reply : Option Value) → next.entries ≡ v.entries → next.call ≡ v.call ++ record { operation = op; reply = reply } ∷ []
    → published_in next ≡ published_in v ++ published_by op reply (pending_in v)
published_once_more v next op reply entries call =
    (λ j. published_told (same_before v next entries j) (call j)) ∙ published_further (pending_before v) v.call (record { operation = op; reply = reply })

-- nothing was told
pub pending_same : (v next : View) → next.entries ≡ v.entries → next.call ≡ v.call → pending_in next ≡ pending_in v
pending_same v next entries call = (λ j. pending_told (same_before v next entries j) (call j))

pub published_same : (v next : View) → next.entries ≡ v.entries → next.call ≡ v.call → published_in next ≡ published_in v
published_same v next entries call = (λ j. published_told (same_before v next entries j) (call j))

-- the first operation of a call
pub pending_first : (v : View) (t : Told) → v.call ≡ t ∷ [] → pending_in v ≡ pending_behind t.operation t.reply (pending_before v)
unfolding pending_told
pending_first v t call = ap (pending_told (pending_before v)) call

pub published_first : (v : View) (t : Told) → v.call ≡ t ∷ [] → published_in v ≡ published_by t.operation t.reply (pending_before v)
unfolding published_told
published_first v t call = ap (published_told (pending_before v)) call ∙ append-nil (published_by t.operation t.reply (pending_before v))

-- ---- the model's transaction

released_pending : (off : ℕ) (tx : Transaction) → (released off tx).actions ≡ tx.actions
released_pending off tx = by (is_among tx.made off) where
  by : (made : Bool) → (cond made (record tx { pool = pool_without off tx.pool; made = filter (λ other. not (eqb other off)) tx.made; dropped = tx.dropped ++ filter (λ entry. eqb entry.0 off) tx.pool.objects }) (record tx { pool = pool_without off tx.pool; freed = tx.freed ++ off ∷ [] })).actions ≡ tx.actions
  by true = refl
  by false = refl

all_released_pending : (ids : List Oid) (tx : Transaction) → (all_released ids tx).actions ≡ tx.actions
all_released_pending [] tx = refl
all_released_pending (id ∷ ids) tx = all_released_pending ids (released id.off tx) ∙ released_pending id.off tx

all_made_pending : (rs : List Reservation) (tx : Transaction) → (all_made rs tx).actions ≡ tx.actions
all_made_pending [] tx = refl
all_made_pending (r ∷ rs) tx = all_made_pending rs (made_at r.off (object_reserved r) tx)

-- it has pending what the operation with its reply leaves of that
pub after_pending : (op : Operation) (reply : Option Value) (tx : Transaction) → (after_reply op reply tx).actions ≡ pending_behind op reply tx.actions
after_pending op (Some (Refused r)) tx = by (is_action op || changes_nothing r) where
  by : (stays : Bool) → (cond stays tx (aborted (error.Refused r) tx)).actions ≡ tx.actions
  by true = refl
  by false = refl
after_pending (Alloc size kind) (Some (Offset off)) tx = refl
after_pending (Reserve size kind) (Some (Offset off)) tx = refl
after_pending (WriteReserved id off bytes) reply tx = refl
after_pending (DeferFree id) reply tx = refl
after_pending (SetValue id off value) reply tx = refl
after_pending Publish reply tx = all_made_pending tx.actions.reserved (all_released tx.actions.frees (given_over tx)) ∙ all_released_pending tx.actions.frees (given_over tx)
after_pending Cancel reply tx = refl
after_pending (AddRange id off len) reply tx = by (is_new tx id.off) where
  by : (new : Bool) → (cond new tx (record tx { recorded = tx.recorded ++ new_words tx.recorded (words_in (record { id = id; off = off; len = len })); records = tx.records + length (records_of (new_words tx.recorded (words_in (record { id = id; off = off; len = len })))) })).actions ≡ tx.actions
  by true = refl
  by false = refl
after_pending (Free id) reply tx = released_pending id.off tx
after_pending Commit reply tx = by (leb tx.level 1) where
  by : (outermost : Bool) → (cond outermost (resting (with_actions tx.moved tx.pool) tx.actions) (ended_inner (committed tx))).actions ≡ tx.actions
  by true = refl
  by false = refl
after_pending op reply tx = refl
