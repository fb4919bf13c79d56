-- What an open call leaves of the root and of what is pending.
use Rattle.std.proofs.Common.{◌≡◌, ℕ, ◌-◌, ◌==◌, Bool, true, false, cond, leb, List, [], ◌∷◌, ◌++◌, map, Option, Some, None, IsSome, MatchOption, refl, sym, ◌∙◌, ap, subst}
use Rattle.std.specs.Option.{option_map}
use Rattle.std.proofs.lemmas.Bool.{cases_Bool, cond-false, cond-true, both_ways}
use Rattle.pm_objects.specs.declared.calls.Operation.{Operation}
use Rattle.pm_objects.specs.declared.calls.Operation.TheVariants.{Begin, Lock, AddRange, Write, Read, Increment, Alloc, Free, Reserve, WriteReserved, DeferFree, SetValue, Publish, Cancel, Commit, Abort}
use Rattle.pm_objects.specs.declared.history.TxErr.{TxErr}
use Rattle.pm_objects.specs.declared.history.TxErr.TheVariants as error
use Rattle.pm_objects.specs.declared.history.Value.{Value}
use Rattle.pm_objects.specs.declared.history.Value.TheVariants.{Refused}
use Rattle.pm_objects.specs.declared.ids.Oid.{Oid}
use Rattle.pm_objects.specs.declared.refusal.Refusal.{Refusal}
use Rattle.pm_model.specs.Inside.{IsDone, IsRefused, Ran, Replies, after, after_reply, incremented, is_action}
use Rattle.pm_model.specs.Items.{Item, Items, PlainPool, all_edited, edited, freed_item, is_root, made_item, new_item, number_bytes, put_bytes, put_into}
use Rattle.pm_model.specs.Pending.{Pending, Reservation, SetWord, item_reserved, set_edits}
use Rattle.pm_model.specs.Refusals.{Seen, refusal_of, tests}
use Rattle.pm_model.specs.Transaction.{Transaction, aborted, committed, idle, is_none}
use Rattle.pm_model.specs.declared.stage.Stage.TheVariants as stage
use Rattle.pm_model.proofs.Lists.{Each, none_applies, none_pass}
use Rattle.pm_crash.specs.Calls.{pending_after, pending_with, told_by}
use Rattle.pm_crash.specs.OpenRuns.{AreReplies, RepliesOn, after_told}

-- ---- AN OPERATION: it is done or refused

by_answer : (Q : Type 0) (tx : Transaction) (ran : Ran) (kept : Bool)
    → (refusal_of ran.seen tx ran.operation ≡ None → IsDone tx ran.operation kept ran.reply → Q)
    → ((r : Refusal) → ran.reply ≡ Some (Refused r) → Q) → Replies tx ran kept → Q
by_answer Q tx ran kept done not_done replies = by (refusal_of ran.seen tx ran.operation) refl replies.reply
  where
    by : (o : Option Refusal) → refusal_of ran.seen tx ran.operation ≡ o
        → MatchOption o (IsDone tx ran.operation kept ran.reply) (λ r. IsRefused r ran.reply) → Q
    by None e y = done e y
    by (Some r) e y = not_done r y.replied

-- ---- WHAT IS PENDING follows from what was told

abbrev PendingSo : Operation → Option Value → Transaction → Type 0
PendingSo op reply tx = (after_reply op reply tx).pending ≡ pending_with op reply tx.pending

refused_pending : (b : Bool) (e : TxErr) (tx : Transaction) → (cond b tx (aborted e tx)).pending ≡ tx.pending
refused_pending true e tx = refl
refused_pending false e tx = refl

refused_with : (op : Operation) (r : Refusal) (p : Pending) → pending_with op (Some (Refused r)) p ≡ p
refused_with (Reserve size kind) r p = refl
refused_with (WriteReserved id at bytes) r p = refl
refused_with (DeferFree id) r p = refl
refused_with (SetValue id at value) r p = refl
refused_with Publish r p = refl
refused_with Cancel r p = refl
refused_with op r p = refl

committed_pending : (b : Bool) (tx : Transaction) → (cond b (record (idle tx.before tx.pending) { items = all_edited (set_edits tx.sets) tx.items })
    (record (committed tx) { level = tx.level - 1; stage = cond (is_none tx.error) stage.Work stage.OnAbort })).pending ≡ tx.pending
committed_pending true tx = refl
committed_pending false tx = refl

done_pending : (op : Operation) (kept : Bool) (reply : Option Value) (tx : Transaction) → IsDone tx op kept reply → PendingSo op reply tx
done_pending (Alloc size kind) kept reply tx y = let v = y.value in subst (λ r. PendingSo (Alloc size kind) r tx) (sym v.2) refl
done_pending (Reserve size kind) kept reply tx y = let v = y.value in subst (λ r. PendingSo (Reserve size kind) r tx) (sym v.2) refl
done_pending Commit kept reply tx y = subst (λ r. PendingSo Commit r tx) (sym y.value) (committed_pending (leb tx.level 1) tx)
done_pending (Begin wants) kept reply tx y = subst (λ r. PendingSo (Begin wants) r tx) (sym y.value) refl
done_pending (Lock want) kept reply tx y = subst (λ r. PendingSo (Lock want) r tx) (sym y.value) refl
done_pending (AddRange id at len) kept reply tx y = subst (λ r. PendingSo (AddRange id at len) r tx) (sym y.value) refl
done_pending (Write id at bytes) kept reply tx y = subst (λ r. PendingSo (Write id at bytes) r tx) (sym y.value) refl
done_pending (Read id at len) kept reply tx y = subst (λ r. PendingSo (Read id at len) r tx) (sym y.value) refl
done_pending (Increment id at by) kept reply tx y = subst (λ r. PendingSo (Increment id at by) r tx) (sym y.value) refl
done_pending (Free id) kept reply tx y = subst (λ r. PendingSo (Free id) r tx) (sym y.value) refl
done_pending (WriteReserved id at bytes) kept reply tx y = subst (λ r. PendingSo (WriteReserved id at bytes) r tx) (sym y.value) refl
done_pending (DeferFree id) kept reply tx y = subst (λ r. PendingSo (DeferFree id) r tx) (sym y.value) refl
done_pending (SetValue id at value) kept reply tx y = subst (λ r. PendingSo (SetValue id at value) r tx) (sym y.value) refl
done_pending Publish kept reply tx y = subst (λ r. PendingSo Publish r tx) (sym y.value) refl
done_pending Cancel kept reply tx y = subst (λ r. PendingSo Cancel r tx) (sym y.value) refl
done_pending (Abort errnum) kept reply tx y = subst (λ r. PendingSo (Abort errnum) r tx) (sym y.value) refl
done_pending op kept reply tx y = subst (λ r. PendingSo op r tx) (sym y.value) refl

one_pending : (tx : Transaction) (ran : Ran) (kept : Bool) → Replies tx ran kept → PendingSo ran.operation ran.reply tx
one_pending tx ran kept = by_answer (PendingSo ran.operation ran.reply tx) tx ran kept
    (λ e y. done_pending ran.operation kept ran.reply tx y)
    (λ r e. subst (λ v. PendingSo ran.operation v tx) (sym e)
    (refused_pending (is_action ran.operation) (error.Refused r) tx ∙ sym (refused_with ran.operation r tx.pending)))

pending_on : (kept : Bool) (tx : Transaction) (runs : List Ran) → RepliesOn kept tx runs
    → (after_told (map told_by runs) tx).pending ≡ pending_after (map told_by runs) tx.pending
unfolding RepliesOn after_told pending_after
pending_on kept tx [] so = refl
pending_on kept tx (ran ∷ runs) so = pending_on kept (after ran tx) runs so.2
    ∙ ap (pending_after (map told_by runs)) (one_pending tx ran _ so.1)

pub pending_so : (kept : Bool) (tx : Transaction) (runs : List Ran) → AreReplies kept tx runs
    → (after_told (map told_by runs) tx).pending ≡ pending_after (map told_by runs) tx.pending
unfolding AreReplies after_told pending_after
pending_so kept tx [] so = refl
pending_so kept tx (ran ∷ runs) so = pending_on kept (after ran tx) runs so.1
    ∙ ap (pending_after (map told_by runs)) (one_pending tx ran _ so.0)

-- ---- THE ROOT STAYS an object of the copy

module _ (r : ℕ) where
  abbrev Stays : Items → Type 0
  Stays items = IsSome (items r)

  some_mapped : (f : Item → Item) (o : Option Item) → IsSome o → IsSome (option_map f o)
  some_mapped f None y = y
  some_mapped f (Some i) y = refl

  by_place : (b : Bool) (x y : Option Item) → (b ≡ true → IsSome x) → IsSome y → IsSome (cond b x y)
  by_place true x y t u = t refl
  by_place false x y t u = u

  put_stays : (off at : ℕ) (bytes : List ℕ) (items : Items) → Stays items → Stays (edited (put_into off at bytes) items)
  put_stays off at bytes items y = by_place (off == r) (option_map (λ (i : Item). record i { bytes = put_bytes at bytes i.bytes }) (items r)) (items r)
      (λ e. some_mapped (λ (i : Item). record i { bytes = put_bytes at bytes i.bytes }) (items r) y) y

  made_stays : (off : ℕ) (item : Item) (items : Items) → Stays items → Stays (edited (made_item off item) items)
  made_stays off item items y = by_place (off == r) (Some item) (items r) (λ e. refl) y

  freed_stays : (off : ℕ) (items : Items) → (r == off) ≡ false → Stays items → Stays (edited (freed_item off) items)
  freed_stays off items other y = by_place (off == r) None (items r)
      (λ e. absurd (both_ways (r == off) other (Rattle.std.proofs.lemmas.Bool.eq-eqb r off (sym (Rattle.std.proofs.lemmas.Bool.eqb-true off r e))))) y

  pub sets_stay : (sets : List SetWord) (items : Items) → Stays items → Stays (all_edited (set_edits sets) items)
  unfolding all_edited
  sets_stay [] items y = y
  sets_stay (a ∷ sets) items y = sets_stay sets (edited (put_into a.id.off a.off (number_bytes a.value)) items) (put_stays a.id.off a.off (number_bytes a.value) items y)

  reserved_stay : (rs : List Reservation) (items : Items) → Stays items → Stays (all_edited (map (λ (x : Reservation). made_item x.off (item_reserved x)) rs) items)
  unfolding all_edited
  reserved_stay [] items y = y
  reserved_stay (x ∷ rs) items y = reserved_stay rs (edited (made_item x.off (item_reserved x)) items) (made_stays x.off (item_reserved x) items y)

  pub blocks_stay : (frees : List Oid) (rs : List Reservation) (items : Items) → Each (λ (id : Oid). (r == id.off) ≡ false) frees → Stays items
      → Stays (all_edited (map (λ (id : Oid). freed_item id.off) frees ++ map (λ (x : Reservation). made_item x.off (item_reserved x)) rs) items)
  unfolding all_edited
  blocks_stay [] rs items none y = reserved_stay rs items y
  blocks_stay (id ∷ frees) rs items none y = blocks_stay frees rs (edited (freed_item id.off) items) none.1 (freed_stays id.off items none.0 y)

  -- the pool has the root, and the copy
  record HasRoot (tx : Transaction) : Type 0 where
    root : tx.before.root ≡ Some r
    before : IsSome (tx.before.items r)
    copy : IsSome (tx.items r)

  refused_root : (b : Bool) (e : TxErr) (tx : Transaction) → HasRoot tx → HasRoot (cond b tx (aborted e tx))
  refused_root true e tx y = y
  refused_root false e tx y = record { root = y.root; before = y.before; copy = y.before }

  committed_root : (b : Bool) (tx : Transaction) → HasRoot tx → HasRoot (cond b (record (idle tx.before tx.pending) { items = all_edited (set_edits tx.sets) tx.items })
      (record (committed tx) { level = tx.level - 1; stage = cond (is_none tx.error) stage.Work stage.OnAbort }))
  committed_root true tx y = record { root = y.root; before = y.before; copy = sets_stay tx.sets tx.items y.copy }
  committed_root false tx y = record { root = y.root; before = y.before; copy = y.copy }

  abbrev RootSo : Operation → Option Value → Transaction → Type 0
  RootSo op reply tx = HasRoot (after_reply op reply tx)

  not_root : (tx : Transaction) (off : ℕ) → tx.before.root ≡ Some r → is_root tx.before.root off ≡ false → (r == off) ≡ false
  not_root tx off e n = sym (ap (λ (o : Option ℕ). is_root o off) e) ∙ n

  done_root : (seen : Seen) (op : Operation) (kept : Bool) (reply : Option Value) (tx : Transaction) → refusal_of seen tx op ≡ None → IsDone tx op kept reply → HasRoot tx → RootSo op reply tx
  done_root seen (Alloc size kind) kept reply tx e y h = let v = y.value in
      subst (λ w. RootSo (Alloc size kind) w tx) (sym v.2) (record { root = h.root; before = h.before; copy = made_stays v.0 (new_item kind size None) tx.items h.copy })
  done_root seen (Reserve size kind) kept reply tx e y h = let v = y.value in subst (λ w. RootSo (Reserve size kind) w tx) (sym v.2) (record { root = h.root; before = h.before; copy = h.copy })
  done_root seen Commit kept reply tx e y h = subst (λ w. RootSo Commit w tx) (sym y.value) (committed_root (leb tx.level 1) tx h)
  done_root seen (Abort errnum) kept reply tx e y h = subst (λ w. RootSo (Abort errnum) w tx) (sym y.value) (record { root = h.root; before = h.before; copy = h.before })
  done_root seen (Write id at bytes) kept reply tx e y h = subst (λ w. RootSo (Write id at bytes) w tx) (sym y.value)
      (record { root = h.root; before = h.before; copy = put_stays id.off at bytes tx.items h.copy })
  done_root seen (Increment id at by) kept reply tx e y h = subst (λ w. RootSo (Increment id at by) w tx) (sym y.value)
      (record { root = h.root; before = h.before; copy = put_stays id.off at (number_bytes (incremented tx id.off at by)) tx.items h.copy })
  done_root seen (Free id) kept reply tx e y h =
      let none = none_applies (tests seen tx (Free id)) e in
      subst (λ w. RootSo (Free id) w tx) (sym y.value)
      (record { root = h.root; before = h.before; copy = freed_stays id.off tx.items (not_root tx id.off h.root none.1.1.1.1.0) h.copy })
  done_root seen Publish kept reply tx e y h =
      let none = none_applies (tests seen tx Publish) e in
      let each = none_pass (λ (id : Oid). is_root tx.before.root id.off) tx.pending.frees none.1.1.1.1.0 in
      subst (λ w. RootSo Publish w tx) (sym y.value)
      (record {
        root = h.root;
        before = h.before;
        copy = blocks_stay tx.pending.frees tx.pending.reserved tx.items
            (Rattle.pm_model.proofs.Lists.each_weaker (λ (id : Oid). is_root tx.before.root id.off ≡ false) (λ (id : Oid). (r == id.off) ≡ false) tx.pending.frees (λ id n. not_root tx id.off h.root n) each) h.copy;
      })
  done_root seen (Begin wants) kept reply tx e y h = subst (λ w. RootSo (Begin wants) w tx) (sym y.value) (record { root = h.root; before = h.before; copy = h.copy })
  done_root seen (Lock want) kept reply tx e y h = subst (λ w. RootSo (Lock want) w tx) (sym y.value) (record { root = h.root; before = h.before; copy = h.copy })
  done_root seen (AddRange id at len) kept reply tx e y h = subst (λ w. RootSo (AddRange id at len) w tx) (sym y.value) (record { root = h.root; before = h.before; copy = h.copy })
  done_root seen (WriteReserved id at bytes) kept reply tx e y h = subst (λ w. RootSo (WriteReserved id at bytes) w tx) (sym y.value) (record { root = h.root; before = h.before; copy = h.copy })
  done_root seen (DeferFree id) kept reply tx e y h = subst (λ w. RootSo (DeferFree id) w tx) (sym y.value) (record { root = h.root; before = h.before; copy = h.copy })
  done_root seen (SetValue id at value) kept reply tx e y h = subst (λ w. RootSo (SetValue id at value) w tx) (sym y.value) (record { root = h.root; before = h.before; copy = h.copy })
  done_root seen Cancel kept reply tx e y h = subst (λ w. RootSo Cancel w tx) (sym y.value) (record { root = h.root; before = h.before; copy = h.copy })
  done_root seen (Read id at len) kept reply tx e y h = subst (λ w. RootSo (Read id at len) w tx) (sym y.value) (record { root = h.root; before = h.before; copy = h.copy })
  done_root seen op kept reply tx e y h = subst (λ w. RootSo op w tx) (sym y.value) (record { root = h.root; before = h.before; copy = h.copy })

  one_root : (tx : Transaction) (ran : Ran) (kept : Bool) → HasRoot tx → Replies tx ran kept → HasRoot (after ran tx)
  one_root tx ran kept h = by_answer (HasRoot (after ran tx)) tx ran kept
      (λ e y. done_root ran.seen ran.operation kept ran.reply tx e y h)
      (λ q e. subst (λ v. RootSo ran.operation v tx) (sym e) (refused_root (is_action ran.operation) (error.Refused q) tx h))

  root_on : (kept : Bool) (tx : Transaction) (runs : List Ran) → RepliesOn kept tx runs → HasRoot tx → HasRoot (after_told (map told_by runs) tx)
  unfolding RepliesOn after_told
  root_on kept tx [] so h = h
  root_on kept tx (ran ∷ runs) so h = root_on kept (after ran tx) runs so.2 (one_root tx ran _ h so.1)

  root_so : (kept : Bool) (tx : Transaction) (runs : List Ran) → AreReplies kept tx runs → HasRoot tx → HasRoot (after_told (map told_by runs) tx)
  unfolding AreReplies after_told
  root_so kept tx [] so h = h
  root_so kept tx (ran ∷ runs) so h = root_on kept (after ran tx) runs so.1 (one_root tx ran _ h so.0)

-- the root of a pool is an object of the copy, whatever an open call did
pub root_stays : (kept : Bool) (pool : PlainPool) (pending : Pending) (runs : List Ran) (r : ℕ) → pool.root ≡ Some r → IsSome (pool.items r)
    → AreReplies kept (idle pool pending) runs → IsSome ((after_told (map told_by runs) (idle pool pending)).items r)
root_stays kept pool pending runs r is there so = (root_so r kept (idle pool pending) runs so (record { root = is; before = there; copy = there })).copy
