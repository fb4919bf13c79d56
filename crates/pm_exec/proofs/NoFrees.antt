-- WORDS THAT LANES RUN FREE NO OBJECT: so of what a call's lane has pending nothing is to be freed, and
-- each word of it was asked for by an operation of the lane.
use Rattle.std.proofs.Common.{◌≡◌, ◌⊎◌, ℕ, ◌-◌, nat_le, ◌==◌, ◌||◌, Bool, true, false, not, if◌then◌else◌, List, [], ◌∷◌, ◌++◌, map, Option, Some, None, inl, inr, refl, ap, ◌∙◌, subst}
use Rattle.std.specs.List.{filter, list_any}
use Rattle.pm_model.specs.Inside.{after_reply, is_action, performed}
use Rattle.pm_model.specs.Items.{all_edited, is_among}
use Rattle.pm_model.specs.Pending.{Pending, SetWord, set_edits, with_set}
use Rattle.pm_model.specs.declared.stage.Stage.TheVariants as stage
use Rattle.pm_model.specs.Transaction.{Transaction, aborted, committed, idle, is_gone, is_new, is_none}
use Rattle.pm_objects.specs.declared.calls.Operation.{Operation}
use Rattle.pm_objects.specs.declared.calls.Operation.TheVariants as operation
use Rattle.pm_objects.specs.declared.history.TxErr.{TxErr}
use Rattle.pm_objects.specs.declared.history.Value.{Value}
use Rattle.pm_objects.specs.declared.history.Value.TheVariants.{Refused}
use Rattle.pm_objects.specs.declared.ids.Oid.{Oid}
use Rattle.pm_view.specs.View.{Numbered, Told, View}
use Rattle.pm_crash.specs.Calls.{pending_after, pending_of, pending_with}
use Rattle.pm_crash.specs.Missed.{before_last, ids_named, lists_before}
use Rattle.pm_crash.specs.OpenRuns.{after_told, no_pool}
use Rattle.pm_exec.specs.Missing.{ids_of}
use Rattle.pm_exec.proofs.Rising.{Has, in_map}

-- the operation is one of the words that lanes run; and of a word that it asks to be set this holds of
-- the object
abbrev pub Plain : (Oid → Type 0) → Operation → Type 0
Plain P (operation.SetValue id off value) = P id
Plain P (operation.Begin wants) = Unit {0}
Plain P (operation.Lock want) = Unit {0}
Plain P (operation.AddRange id off len) = Unit {0}
Plain P (operation.Write id off bytes) = Unit {0}
Plain P (operation.Read id off len) = Unit {0}
Plain P (operation.Increment id off by) = Unit {0}
Plain P operation.Publish = Unit {0}
Plain P operation.Cancel = Unit {0}
Plain P operation.Commit = Unit {0}
Plain P (operation.Abort errnum) = Unit {0}
Plain P op = ⊥

module _ (P : Oid → Type 0) where
  abbrev pub ArePlain : List Told → Type 0
  ArePlain [] = Unit {0}
  ArePlain (t ∷ told) = Plain P t.operation × ArePlain told

  pub are_plain : (told : List Told) → ((t : Told) → Has told t → Plain P t.operation) → ArePlain told
  are_plain [] each = tt
  are_plain (t ∷ told) each = (each t (inl refl), are_plain told (λ s there. each s (inr there)))

  before_plain : (told : List Told) → ArePlain told → ArePlain (before_last told)
  before_plain [] all = tt
  before_plain (t ∷ []) all = tt
  before_plain (t ∷ next ∷ told) all = (all.0, before_plain (next ∷ told) all.1)

  abbrev pub AllPlain : List Numbered → Type 0
  AllPlain [] = Unit {0}
  AllPlain (e ∷ earlier) = ArePlain e.call × AllPlain earlier

  -- ---- WHAT IS PENDING

  abbrev Ids : List SetWord → Type 0
  Ids [] = Unit {0}
  Ids (a ∷ sets) = P a.id × Ids sets

  ids_push : (sets : List SetWord) (a : SetWord) → Ids sets → P a.id → Ids (sets ++ a ∷ [])
  ids_push [] a all here = (here, tt)
  ids_push (s ∷ sets) a all here = (all.0, ids_push sets a all.1 here)

  ids_have : (sets : List SetWord) (a : SetWord) → Ids sets → Has sets a → P a.id
  ids_have [] a all there = absurd there
  ids_have (s ∷ sets) a all (inl is) = subst (λ (x : SetWord). P x.id) is all.0
  ids_have (s ∷ sets) a all (inr there) = ids_have sets a all.1 there

  pub record OnlySets (p : Pending) : Type 0 where
    pub frees : p.frees ≡ []
    pub late : p.late ≡ false
    pub ids : Ids p.sets

  set_more : (a : SetWord) (p : Pending) → P a.id → OnlySets p → OnlySets (with_set a p)
  set_more a p here only = record {
    frees = only.frees;
    late = ap (λ (ids : List Oid). list_any (λ (id : Oid). id.off == a.id.off) ids || p.late) only.frees ∙ only.late;
    ids = ids_push p.sets a only.ids here;
  }

  pending_step : (op : Operation) (reply : Option Value) (p : Pending) → Plain P op → OnlySets p → OnlySets (pending_with op reply p)
  pending_step (operation.SetValue id off value) None p plain only = set_more (record { id = id; off = off; value = value }) p plain only
  pending_step (operation.SetValue id off value) (Some x) p plain only = only
  pending_step operation.Publish None p plain only = record { frees = refl; late = refl; ids = tt }
  pending_step operation.Publish (Some x) p plain only = only
  pending_step operation.Cancel None p plain only = record { frees = refl; late = refl; ids = tt }
  pending_step operation.Cancel (Some x) p plain only = only
  pending_step (operation.Begin wants) reply p plain only = only
  pending_step (operation.Lock want) reply p plain only = only
  pending_step (operation.AddRange id off len) reply p plain only = only
  pending_step (operation.Write id off bytes) reply p plain only = only
  pending_step (operation.Read id off len) reply p plain only = only
  pending_step (operation.Increment id off by) reply p plain only = only
  pending_step operation.Commit reply p plain only = only
  pending_step (operation.Abort errnum) reply p plain only = only
  pending_step op reply p plain only = absurd plain

  after_pending : (told : List Told) (p : Pending) → ArePlain told → OnlySets p → OnlySets (pending_after told p)
  unfolding pending_after
  after_pending [] p all only = only
  after_pending (t ∷ told) p all only = after_pending told (pending_with t.operation t.reply p) all.1 (pending_step t.operation t.reply p all.0 only)

  of_entries : (entries : List Numbered) → AllPlain entries → OnlySets (pending_of entries)
  unfolding pending_of
  of_entries [] all = record { frees = refl; late = refl; ids = tt }
  of_entries (e ∷ earlier) all = after_pending e.call (pending_of earlier) all.0 (of_entries earlier all.1)

  -- ---- THE LISTS OF A TRANSACTION

  pub record FreesNone (tx : Transaction) : Type 0 where
    pub freed : tx.freed ≡ []
    pub dropped : tx.dropped ≡ []
    pub pending : OnlySets tx.pending

  refused_none : (b : Bool) (e : TxErr) (tx : Transaction) → FreesNone tx → FreesNone (if b then tx else aborted e tx)
  refused_none true e tx none = none
  refused_none false e tx none = record { freed = refl; dropped = refl; pending = none.pending }

  ended_none : (outermost : Bool) (tx : Transaction) → FreesNone tx
      → FreesNone (if outermost then record (idle tx.before tx.pending) { items = all_edited (set_edits tx.sets) tx.items }
      else record tx { level = tx.level - 1; stage = if is_none tx.error then stage.Work else stage.OnAbort })
  ended_none true tx none = record { freed = refl; dropped = refl; pending = none.pending }
  ended_none false tx none = record { freed = none.freed; dropped = none.dropped; pending = none.pending }

  performed_none : (op : Operation) (tx : Transaction) → Plain P op → FreesNone tx → FreesNone (performed op tx)
  performed_none (operation.Begin wants) tx plain none = record { freed = none.freed; dropped = none.dropped; pending = none.pending }
  performed_none (operation.Lock want) tx plain none = record { freed = none.freed; dropped = none.dropped; pending = none.pending }
  performed_none (operation.AddRange id off len) tx plain none = record { freed = none.freed; dropped = none.dropped; pending = none.pending }
  performed_none (operation.Write id off bytes) tx plain none = record { freed = none.freed; dropped = none.dropped; pending = none.pending }
  performed_none (operation.Read id off len) tx plain none = none
  performed_none (operation.Increment id off by) tx plain none = record { freed = none.freed; dropped = none.dropped; pending = none.pending }
  performed_none (operation.SetValue id off value) tx plain none = record {
    freed = none.freed;
    dropped = none.dropped;
    pending = set_more (record { id = id; off = off; value = value }) tx.pending plain none.pending;
  }
  performed_none operation.Publish tx plain none = record {
    freed = ap (λ (ids : List Oid). filter (λ off. not (is_new tx off)) (map (λ (id : Oid). id.off) ids) ++ tx.freed) none.pending.frees ∙ none.freed;
    dropped = ap (λ (ids : List Oid). filter (is_new tx) (map (λ (id : Oid). id.off) ids) ++ tx.dropped) none.pending.frees ∙ none.dropped;
    pending = record { frees = refl; late = refl; ids = tt };
  }
  performed_none operation.Cancel tx plain none = record { freed = none.freed; dropped = none.dropped; pending = record { frees = refl; late = refl; ids = tt } }
  performed_none operation.Commit tx plain none = ended_none (nat_le tx.level 1) (committed tx) (record { freed = none.freed; dropped = none.dropped; pending = none.pending })
  performed_none (operation.Abort errnum) tx plain none = record { freed = refl; dropped = refl; pending = none.pending }
  performed_none op tx plain none = absurd plain

  reply_none : (op : Operation) (reply : Option Value) (tx : Transaction) → Plain P op → FreesNone tx → FreesNone (after_reply op reply tx)
  reply_none op (Some (Refused r)) tx plain none = refused_none (is_action op) _ tx none
  reply_none (operation.Begin wants) reply tx plain none = performed_none (operation.Begin wants) tx plain none
  reply_none (operation.Lock want) reply tx plain none = performed_none (operation.Lock want) tx plain none
  reply_none (operation.AddRange id off len) reply tx plain none = performed_none (operation.AddRange id off len) tx plain none
  reply_none (operation.Write id off bytes) reply tx plain none = performed_none (operation.Write id off bytes) tx plain none
  reply_none (operation.Read id off len) reply tx plain none = performed_none (operation.Read id off len) tx plain none
  reply_none (operation.Increment id off by) reply tx plain none = performed_none (operation.Increment id off by) tx plain none
  reply_none (operation.SetValue id off value) reply tx plain none = performed_none (operation.SetValue id off value) tx plain none
  reply_none operation.Publish reply tx plain none = performed_none operation.Publish tx plain none
  reply_none operation.Cancel reply tx plain none = performed_none operation.Cancel tx plain none
  reply_none operation.Commit reply tx plain none = performed_none operation.Commit tx plain none
  reply_none (operation.Abort errnum) reply tx plain none = performed_none (operation.Abort errnum) tx plain none
  reply_none op reply tx plain none = absurd plain

  after_none : (told : List Told) (tx : Transaction) → ArePlain told → FreesNone tx → FreesNone (after_told told tx)
  unfolding after_told
  after_none [] tx all none = none
  after_none (t ∷ told) tx all none = after_none told (after_reply t.operation t.reply tx) all.1 (reply_none t.operation t.reply tx all.0 none)

  -- ---- A CALL, by the view in which it took its number

  pub lists_none : (v : View) → ArePlain v.call → AllPlain v.entries → FreesNone (lists_before v)
  lists_none v call entries = after_none (before_last v.call) (idle no_pool (pending_of v.entries)) (before_plain v.call call)
      (record { freed = refl; dropped = refl; pending = of_entries v.entries entries })

  pub not_gone : (tx : Transaction) (off : ℕ) → FreesNone tx → is_gone tx off ≡ false
  not_gone tx off none =
      ap (λ (offs : List ℕ). is_among offs off || is_among tx.dropped off) none.freed
      ∙ ap (λ (offs : List ℕ). is_among offs off) none.dropped

  -- what it names it names itself, or it is an object of which a word is pending
  pub named_so : (op : Operation) (p : Pending) (id : Oid) → Plain P op → OnlySets p → Has (ids_named p op) id → Has (ids_of op) id ⊎ P id
  named_so (operation.Begin wants) p id plain only there = inl there
  named_so (operation.Lock want) p id plain only there = inl there
  named_so (operation.AddRange at off len) p id plain only there = inl there
  named_so (operation.Write at off bytes) p id plain only there = inl there
  named_so (operation.Read at off len) p id plain only there = inl there
  named_so (operation.Increment at off by) p id plain only there = inl there
  named_so operation.Publish p id plain only there =
      let among : Has (map (λ (a : SetWord). a.id) p.sets) id = subst (λ (ids : List Oid). Has (ids ++ map (λ (a : SetWord). a.id) p.sets) id) only.frees there in
      let m = in_map (λ (a : SetWord). a.id) p.sets id among in
      inr (subst P m.is (ids_have p.sets m.of only.ids m.there))
  named_so (operation.SetValue at off value) p id plain only there = absurd there
  named_so operation.Cancel p id plain only there = absurd there
  named_so operation.Commit p id plain only there = absurd there
  named_so (operation.Abort errnum) p id plain only there = absurd there
  named_so op p id plain only there = absurd plain
