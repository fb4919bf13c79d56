-- A range that is read at work: it is done and gives its bytes, or its call is given up for it, or the lane stops while it gives it up.
use Rattle.std.proofs.Common.{◌≡◌, ◌≢◌, ◌⊎◌, inl, inr, false, ℕ, zero, suc, ◌+◌, ◌/◌, List, [], ◌∷◌, ◌++◌, length, take, slice_index, Some, refl, sym, ap, ◌∙◌, subst, arith}
use Rattle.std.proofs.Math.Seq.{take-length}
use Rattle.std.proofs.lemmas.List.{take-append-le}
use Rattle.solo_memory.specs.Solo.{Sees, Solo}
use Rattle.pm_objects.specs.declared.calls.Operation.TheVariants as operation
use Rattle.pm_objects.specs.declared.history.Value.TheVariants.{Bytes}
use Rattle.pm_objects.specs.declared.ids.Oid.{Oid}
use Rattle.pm_objects.specs.declared.refusal.Refusal.{Refusal}
use Rattle.pm_objects.specs.declared.refusal.Refusal.TheVariants as refusal
use Rattle.solo_script.specs.declared.script.ScriptId.{ScriptId}
use Rattle.solo_script.specs.declared.script.ScriptLine.{ScriptLine}
use Rattle.solo_script.specs.declared.script.ScriptOp.{ScriptOp}
use Rattle.solo_script.specs.declared.script.ScriptOp.TheVariants as op
use Rattle.solo_lock.proofs.Leads.{counted_then, led_then, ready_led}
use Rattle.solo_tx.proofs.Unraised.{reads_work}
use Rattle.solo_tx.specs.Calls.{HasLooked}
use Rattle.solo_tx.specs.Learning.{Looks}
use Rattle.solo_tx.specs.Ranges.{HasReadRange, KnowsRange, reads_range}
use Rattle.solo_tx.specs.Sequences.{reads, word_count}
use Rattle.solo_undo.specs.Sequences.{looks_from}
use Rattle.solo_view.specs.Area.{is_in_area}
use Rattle.solo_crash.specs.Operations.{bytes_seen}
use Rattle.solo_lock.specs.Leading.{DrawEnded}
use Rattle.solo_made.specs.Made.{BlockLists}
use Rattle.solo_transaction.specs.AnyRanges.{IsStoppedRefusing}
use Rattle.solo_transaction.specs.AtWork.{IsAtWorkWith}
use Rattle.solo_transaction.specs.NewRanges.{HasReadNew}
use Rattle.solo_view.specs.Counts.{counted as calls_in}
use Rattle.solo_view.specs.Steps.Step.{Tell}
use Rattle.solo_view.specs.View.{Told, View}
use Rattle.solo_view.specs.Views.{after_all}
use Rattle.solo_world.specs.Opening.{Opening}
use Rattle.solo_world.specs.Sequences.{Ready, Sequence, counted, in_turn, looks, nothing, one}
use Rattle.solo_world.specs.declared.lane.Lane.{Lane}
use Rattle.solo_tx.proofs.LineStores.{read_stores}
use Rattle.solo_crash.specs.OpenCall.{words_recorded}
use Rattle.solo_view.specs.Log.{Recorded}
use Rattle.solo_exec.specs.Calls.{id_of, operation_of}
use Rattle.solo_exec.specs.Course.{IsFree, IsLineMade}
use Rattle.solo_exec.specs.Replies.{IsToldDone, Values}
use Rattle.solo_exec.specs.Progress.{IsAtLine, IsCut}
use Rattle.solo_exec.specs.Torn.{words_after, words_by}
use Rattle.solo_exec.specs.declared.calls.Names.{Names}
use Rattle.solo_exec.proofs.ChangeLines.{at_next, free_u, lane_u, words_u}
use Rattle.solo_exec.proofs.AddAndWrite.{cut_giving_up, under_outside}
use Rattle.solo_exec.proofs.LooksAlone.{looks_none}
use Rattle.solo_exec.proofs.LineLists.{gave_more, words_more}
use Rattle.solo_exec.proofs.UndrawnSteps.{Keeps, all_undrawn_keep, reads_undrawn, undrawn_leave}
use Rattle.solo_pending.specs.declared.pending.PendingActions.{PendingActions}

-- the first of some numbers are those in front
pub front_is : (n : ℕ) (xs ys : List ℕ) → n ≡ length xs → take n (xs ++ ys) ≡ xs
front_is n xs ys is = ap (λ k. take k (xs ++ ys)) is ∙ (take-append-le (length xs) xs ys (omega arith) ∙ take-length xs)

-- looks and tellings are no counted calls
looks_free : (word n : ℕ) (v : View) → calls_in (counted (λ i. looks (word + i)) n v) ≡ 0
unfolding counted in_turn nothing looks calls_in
looks_free word zero v = refl
looks_free word (suc n) v =
    let before = looks_free word n v in
    let all = counted_then (counted (λ i. looks (word + i)) n v) (looks (word + n) (after_all v (counted (λ i. looks (word + i)) n v))) in
    omega (arith, before, all)

reads_free : (id : Oid) (off len : ℕ) (bytes : List ℕ) (v : View) → calls_in (reads_range id off len bytes v) ≡ 0
unfolding reads_range reads looks_from in_turn one calls_in
reads_free id off len bytes v =
    let before = looks_free ((id.off + off) / 8) (word_count (id.off + off) len) v in
    let all = counted_then (looks_from ((id.off + off) / 8) (word_count (id.off + off) len) v) (one (Tell (operation.Read id off len) (Some (Bytes bytes))) (after_all v (reads (id.off + off) len v))) in
    omega (arith, before, all)

-- no line that reads is refused as spent
pub read_not_spent : (r : Refusal) → (r ≡ refusal.NotLocked) ⊎ (r ≡ refusal.NoObject) ⊎ (r ≡ refusal.OutOfRange) ⊎ (r ≡ refusal.Stopped) → r ≢ refusal.Spent
read_not_spent r (inl is) = λ spent. let clash : refusal.NotLocked ≡ refusal.Spent = sym is ∙ spent in cc
read_not_spent r (inr (inl is)) = λ spent. let clash : refusal.NoObject ≡ refusal.Spent = sym is ∙ spent in cc
read_not_spent r (inr (inr (inl is))) = λ spent. let clash : refusal.OutOfRange ≡ refusal.Spent = sym is ∙ spent in cc
read_not_spent r (inr (inr (inr is))) = λ spent. let clash : refusal.Stopped ≡ refusal.Spent = sym is ∙ spent in cc

module _ (o : Opening) (first : View) (lane : Lane Solo) (blocks : BlockLists) (actions : PendingActions) (names : Names) (front : List ScriptLine) (values : Values) (a : IsAtLine o first lane blocks actions names front values) (new : Lane Solo) (said : ScriptLine)
    (id : ScriptId) (place : Oid) (place_is : place ≡ id_of names id) (off len : ℕ) (is : said.operation ≡ op.Read id off len) where
  pub read_is : operation.Read place off len ≡ operation_of names said.operation
  read_is = ap (λ (i : Oid). operation.Read i off len) place_is ∙ ap (operation_of names) (sym is)

  module _ (bytes : List ℕ) where
    abbrev steps : Sequence
    steps = reads_range place off len bytes

    abbrev told_with : List ℕ → Told
    told_with bs = record { operation = operation.Read place off len; reply = Some (Bytes bs) }

    is_told : IsToldDone names said.operation (told_with bytes)
    is_told = subst (λ (x : ScriptOp). IsToldDone names x (told_with bytes)) (sym is) (bytes, ap (λ (i : Oid). record { operation = operation.Read i off len; reply = Some (Bytes bytes) }) place_is)

    -- read, behind some looks
    module _ (n : ℕ) (u : View) (looks : Looks n a.view u) (ready : Ready u (steps u)) (draws : DrawEnded u (steps u)) where
      abbrev w : View
      w = after_all u (steps u)

      lane_is : u.lane ≡ 0
      lane_is = lane_u o first lane blocks actions names front values a n u looks

      free_behind : IsFree a.view w
      free_behind =
          let before = free_u o first lane blocks actions names front values a n u looks in
          let kept : Keeps u w = all_undrawn_keep u (steps u) (reads_undrawn place off len bytes u lane_is) in
          record {
            led = led_then a.view u w before.led (ready_led u (steps u) ready draws (reads_free place off len bytes u) (undrawn_leave u (steps u) (reads_undrawn place off len bytes u lane_is)) kept.heap);
            undrawn = kept.entries ∙ before.undrawn;
          }

      read_so : IsAtWorkWith o Sees new blocks w → w.call ≡ u.call ++ told_with (bytes_seen u place off len) ∷ [] → bytes ≡ bytes_seen u place off len → w.log.records ≡ u.log.records
          → ((i : ℕ) → is_in_area u.lane i ≡ false → slice_index w.words i ≡ slice_index u.words i) → new.level ≡ 1 → new.locks ≡ lane.locks → IsAtLine o first new blocks actions names (front ++ said ∷ []) (values ++ (said.line, Bytes bytes) ∷ [])
      read_so works call seen records keeps level locks =
          at_next o first lane blocks actions names front values a n u looks new steps (reads_work place off len bytes u lane_is) (reads_undrawn place off len bytes u lane_is) said ready draws works level locks
          (told_with bytes) is_told (call ∙ ap (λ (bs : List ℕ). u.call ++ told_with bs ∷ []) (sym seen))
          (λ i under.
          keeps i (under_outside o first lane blocks actions names front values a new said i under u.lane lane_is)
          ∙ (words_u o first lane blocks actions names front values a n u looks i under
          ∙ sym (words_more names front said (slice_index o.words) i ∙ ap (λ (x : ScriptOp). words_by names x (words_after names front (slice_index o.words)) i) is)))
          (values ++ (said.line, Bytes bytes) ∷ [])
          (ap (λ (vs : Values). vs ++ (said.line, Bytes bytes) ∷ []) a.gave ∙ sym (gave_more names front said a.view.call (told_with bytes) a.told))
          (subst (λ (x : ScriptOp). IsLineMade names x a.view w) (sym is) free_behind)
          (let same = ap (λ (rs : List Recorded). length (words_recorded rs)) records in let stored = read_stores place off len bytes u in omega (arith, same, stored)) (λ p. refl) (λ p. refl) (λ p b. refl)

    -- of an object that the call found
    pub read_done : HasLooked a.view (λ w. KnowsRange w place off len false × HasReadRange o Sees new w place off len bytes × IsAtWorkWith o Sees new blocks (after_all w (steps w))) → new.level ≡ 1 → new.locks ≡ lane.locks
        → IsAtLine o first new blocks actions names (front ++ said ∷ []) (values ++ (said.line, Bytes bytes) ∷ [])
    read_done t level locks = let h = t.holds.1 in read_so t.loads t.view t.looks h.ready h.draws t.holds.2 h.read.tells.call h.seen h.read.logs.records h.read.keeps.words level locks

    -- of one that it made
    pub read_new_done : HasReadNew o Sees new blocks a.view place off len bytes → new.level ≡ 1 → new.locks ≡ lane.locks → IsAtLine o first new blocks actions names (front ++ said ∷ []) (values ++ (said.line, Bytes bytes) ∷ [])
    read_new_done h level locks = read_so 0 a.view (looks_none a.view) h.ready h.draws h.works h.read.tells.call h.seen h.read.logs.records h.read.keeps.words level locks

  pub read_cut : (rest : List ScriptLine) → HasLooked a.view (IsStoppedRefusing Sees new lane.records.items (operation.Read place off len) (record { id = place; off = off; len = len })) → IsCut o first new names (front ++ said ∷ rest) values
  read_cut rest t = let s = t.holds in cut_giving_up o first lane blocks actions names front values a new said (operation.Read place off len) read_is s.refusal t.loads t.view t.looks t.working tt s.stopped rest
