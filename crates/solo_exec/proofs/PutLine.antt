-- A line that writes bytes into what is reserved, from a lane at work: it is done, or refused, which aborts nothing, or the lane stops.
use Rattle.std.proofs.Common.{◌≡◌, ◌⊎◌, ⊎_elim, inl, inr, ℕ, ◌+◌, ◌*◌, ◌/◌, ◌<◌, ◌≤◌, Bool, true, false, Contains, cond, List, [], ◌∷◌, ◌++◌, length, slice_index, take, Option, None, Some, refl, sym, ap, ◌∙◌, subst, arith}
use Rattle.solo_crash.proofs.Covered.{among_tested}
use Rattle.solo_crash.specs.CallBlocks.{block_of, blocks_in}
use Rattle.solo_crash.specs.OpenCall.{IsUnderBlock, words_recorded}
use Rattle.solo_crash.specs.Pending.{pending_in}
use Rattle.solo_crash.specs.Reserving.{put_refusal}
use Rattle.solo_crash.specs.Writes.{words_written, written_word}
use Rattle.solo_made.specs.Made.{BlockLists}
use Rattle.solo_memory.specs.Solo.{Sees, Solo}
use Rattle.solo_model.specs.Actions.{Pending}
use Rattle.solo_model.specs.Bytes.{covered_words, is_among}
use Rattle.pm_objects.specs.declared.calls.Operation.{Operation}
use Rattle.pm_objects.specs.declared.calls.Operation.TheVariants as operation
use Rattle.pm_objects.specs.declared.history.Value.TheVariants.{Refused}
use Rattle.pm_objects.specs.declared.ids.Oid.{Oid}
use Rattle.pm_objects.specs.declared.refusal.Refusal.{Refusal}
use Rattle.solo_pending.specs.AllPending.{IsPendingAs}
use Rattle.solo_pending.specs.declared.pending.PendingActions.{PendingActions}
use Rattle.solo_script.specs.declared.script.ScriptId.{ScriptId}
use Rattle.solo_script.specs.declared.script.ScriptLine.{ScriptLine}
use Rattle.solo_script.specs.declared.script.ScriptOp.{ScriptOp}
use Rattle.solo_script.specs.declared.script.ScriptOp.TheVariants as op
use Rattle.solo_transaction.proofs.OwnRangeWords.{HasOwnRange, covered_in, covered_outside, works_in_pool}
use Rattle.solo_transaction.proofs.Puts.{own}
use Rattle.solo_transaction.specs.AtWork.{IsAtWorkWith}
use Rattle.solo_transaction.specs.Filling.{HasPut, HasRefusedPut, HasReservedRange, puts_range}
use Rattle.solo_tx.proofs.StepKinds.{HasOnly, HasQuietSteps, only_counted, only_in_turn, only_one, only_stores, only_with_word}
use Rattle.solo_tx.proofs.StoreCounts.{HasStores, none_in_one, one_in_stores, stores_in_turn, stores_of_each, stores_with_word}
use Rattle.solo_tx.proofs.Unraised.{IsWork, other_than_generation, quiet_work}
use Rattle.solo_tx.proofs.WrittenBytes.{counted_covered}
use Rattle.solo_tx.specs.Ending.{IsStoppedIn}
use Rattle.solo_tx.specs.Sequences.{word_count, writes, writes_word}
use Rattle.solo_view.specs.Area.{is_in_area}
use Rattle.solo_view.specs.Counts.{stores_among}
use Rattle.solo_view.specs.Log.{Recorded}
use Rattle.solo_view.specs.Steps.{Step}
use Rattle.solo_view.specs.Steps.Step.{Store, Tell}
use Rattle.solo_view.specs.View.{Told, View}
use Rattle.solo_view.specs.Views.{after, after_all}
use Rattle.solo_world.specs.Opening.{Opening}
use Rattle.solo_world.specs.Sequences.{Sequence, in_turn, one, stores}
use Rattle.solo_world.specs.declared.lane.Lane.{Lane}
use Rattle.solo_exec.specs.Bounds.{most_stores}
use Rattle.solo_exec.specs.Calls.{id_of, operation_of}
use Rattle.solo_exec.specs.Course.{IsLineMade, IsLineStopped, put_calls, IsPutRefused}
use Rattle.solo_exec.specs.Replies.{IsToldDone, Values, done}
use Rattle.solo_exec.specs.Progress.{IsAtLine, IsCut}
use Rattle.solo_exec.specs.Torn.{words_after, words_by}
use Rattle.solo_exec.specs.declared.calls.Names.{Names}
use Rattle.solo_exec.proofs.ActionLines.{due_still, given_by, stays, told_done}
use Rattle.solo_exec.proofs.AddAndWrite.{under_outside}
use Rattle.solo_exec.proofs.ChangeLines.{at_next_with, calm_behind, cut_in, free_u, lane_u}
use Rattle.solo_exec.proofs.LineLists.{gave_nothing, words_more}
use Rattle.solo_exec.proofs.LooksAlone.{looks_none}
use Rattle.solo_exec.proofs.QuietSequences.{calm_steps, quiet_by}
use Rattle.solo_exec.proofs.QuietSlots.{IsCalm}
use Rattle.solo_exec.proofs.UndrawnSteps.{IsUndrawn, Keeps, all_undrawn_keep, undrawn_steps}

-- ---- the steps of a put

-- each is a store of one of the words that the bytes cover, or quiet, or tells the put
only_puts : (P : Step → Type 0) → HasQuietSteps P → (id : Oid) (off : ℕ) (bytes : List ℕ) → ((i x : ℕ) → i < word_count (id.off + off) (length bytes) → P (Store ((id.off + off) / 8 + i) x)) → P (Tell (operation.WriteReserved id off bytes) None)
    → HasOnly P (puts_range id off bytes)
unfolding puts_range writes writes_word
only_puts P quiet id off bytes each tell =
    let place : ℕ = id.off + off in
    only_in_turn P (writes place bytes) (one (Tell (operation.WriteReserved id off bytes) None))
    (only_counted P (λ i. writes_word place bytes (place / 8 + i)) (word_count place (length bytes))
    (λ i below. only_with_word P quiet (place / 8 + i) (λ x. stores (place / 8 + i) (written_word place bytes (place / 8 + i) x))
    (λ x. only_stores P quiet (place / 8 + i) (written_word place bytes (place / 8 + i) x) (each i (written_word place bytes (place / 8 + i) x) below))))
    (only_one P (Tell (operation.WriteReserved id off bytes) None) tell)

pub put_stores : (id : Oid) (off : ℕ) (bytes : List ℕ) → HasStores (word_count (id.off + off) (length bytes)) (puts_range id off bytes)
unfolding puts_range writes writes_word
put_stores id off bytes =
    let place : ℕ = id.off + off in
    let n : ℕ = word_count place (length bytes) in
    stores_in_turn (n * 1) 0 n (writes place bytes) (one (Tell (operation.WriteReserved id off bytes) None)) (omega arith)
    (stores_of_each (λ i. writes_word place bytes (place / 8 + i)) 1 n
    (λ i. stores_with_word 1 (place / 8 + i) (λ x. stores (place / 8 + i) (written_word place bytes (place / 8 + i) x)) (λ x. one_in_stores (place / 8 + i) (written_word place bytes (place / 8 + i) x))))
    (none_in_one (Tell (operation.WriteReserved id off bytes) None) refl)

-- where the words that they cover lie outside of the lane's area
module _ (id : Oid) (off : ℕ) (bytes : List ℕ) (outside : (k : ℕ) → k < word_count (id.off + off) (length bytes) → is_in_area 0 ((id.off + off) / 8 + k) ≡ false) where
  pub puts_work : HasOnly IsWork (puts_range id off bytes)
  puts_work = only_puts IsWork quiet_work id off bytes (λ i x below. other_than_generation ((id.off + off) / 8 + i) (outside i below)) tt

  pub puts_calm : HasOnly IsCalm (puts_range id off bytes)
  puts_calm = only_puts IsCalm calm_steps id off bytes (λ i x below. inr (outside i below)) tt

pub puts_undrawn : (id : Oid) (off : ℕ) (bytes : List ℕ) → HasOnly IsUndrawn (puts_range id off bytes)
puts_undrawn id off bytes = only_puts IsUndrawn undrawn_steps id off bytes (λ i x below. tt) tt

module _ (o : Opening) (first : View) (lane : Lane Solo) (blocks : BlockLists) (actions : PendingActions) (names : Names) (front : List ScriptLine) (values : Values) (a : IsAtLine o first lane blocks actions names front values) (new : Lane Solo) (said : ScriptLine)
    (id : ScriptId) (target : Oid) (target_is : target ≡ id_of names id) (off : ℕ) (bytes : List ℕ) (is : said.operation ≡ op.WriteReserved id off bytes) where
  abbrev v : View
  v = a.view

  abbrev steps : Sequence
  steps = puts_range target off bytes

  abbrev asks : Operation
  asks = operation.WriteReserved target off bytes

  put_is : asks ≡ operation_of names said.operation
  put_is = ap (λ (i : Oid). operation.WriteReserved i off bytes) target_is ∙ ap (operation_of names) (sym is)

  put_stored : (u : View) → stores_among (steps u) ≡ most_stores names said.operation
  put_stored u = put_stores target off bytes u ∙ ap (λ (i : Oid). word_count (i.off + off) (length bytes)) target_is ∙ sym (ap (most_stores names) is)

  no_word : (x : ℕ → ℕ) (i : ℕ) → words_by names said.operation x i ≡ x i
  no_word x i = ap (λ (y : ScriptOp). words_by names y x i) is

  -- ---- the range is one of what is reserved

  module _ (range : HasReservedRange v target off (length bytes)) where
    abbrev own_range : HasOwnRange v target off (length bytes)
    own_range = own o Sees lane blocks v a.works target off bytes range

    reserved_outside : (k : ℕ) → k < word_count (target.off + off) (length bytes) → is_in_area 0 ((target.off + off) / 8 + k) ≡ false
    reserved_outside k low =
        let place : ℕ = target.off + off in
        ap (λ n. is_in_area n (place / 8 + k)) (sym a.of_lane)
        ∙ covered_outside v (works_in_pool o Sees lane blocks v a.works) target off (length bytes) own_range (place / 8 + k) (counted_covered place (length bytes) k low)

    -- none of its words is one of a block that the call found
    not_found : (i : ℕ) → IsUnderBlock v i → (b : Bool) → is_among (covered_words (target.off + off) (length bytes)) i ≡ b → b ≡ false
    not_found i under false is_so = refl
    not_found i under true is_so =
        let inside = covered_in v (works_in_pool o Sees lane blocks v a.works) target off (length bytes) own_range i (among_tested (covered_words (target.off + off) (length bytes)) i is_so) in
        let from = inside.from in let to = inside.to in let low = under.from in let high = under.to in
        let made = own_range.stands in let behind = made.behind in let aligned = made.aligned in
        absurd (⊎_elim
        (λ (before : (block_of own_range.new).place + 64 * (block_of own_range.new).lines ≤ 64 * under.lock.line). omega (arith, before, from, to, low, high, behind, aligned))
        (λ (past : 64 * under.lock.line + 64 * under.lines ≤ (block_of own_range.new).place). omega (arith, past, from, to, low, high, behind, aligned))
        (own_range.apart under.lock under.lines under.held under.found))

    found_same : (i : ℕ) → IsUnderBlock v i → words_written (target.off + off) bytes (slice_index v.words) i ≡ slice_index v.words i
    found_same i under =
        ap (λ (b : Bool). cond b (written_word (target.off + off) bytes i (slice_index v.words i)) (slice_index v.words i))
        (not_found i under (is_among (covered_words (target.off + off) (length bytes)) i) refl)

  pub put_done : HasPut o Sees new blocks v target off bytes → IsPendingAs actions (pending_in (after_all v (steps v))) → new.level ≡ 1 → new.locks ≡ lane.locks → IsAtLine o first new blocks actions names (front ++ said ∷ []) values
  put_done h listed level locks =
      let looks = looks_none v in
      let lane_is = lane_u o first lane blocks actions names front values a 0 v looks in
      let range : HasReservedRange v target off (length bytes) = record { has = h.written.has; inside = h.written.inside } in
      let w : View = after_all v (steps v) in
      let kept : Keeps v w = all_undrawn_keep v (steps v) (puts_undrawn target off bytes v lane_is) in
      let due = due_still v w asks None kept.entries h.written.tells.call (λ p. refl) refl in
      at_next_with o first lane blocks actions names front values a 0 v looks new steps (puts_work target off bytes (reserved_outside range) v lane_is) (puts_undrawn target off bytes v lane_is) said blocks actions h.ready h.draws h.works level locks
      (done asks) (subst (λ (x : ScriptOp). IsToldDone names x (done asks)) (sym is) (None, ap (λ (i : Oid). done (operation.WriteReserved i off bytes)) target_is)) h.written.tells.call
      (λ i under.
      h.written.written i (ap (λ n. is_in_area n i) a.of_lane ∙ found_outside i under) ∙ found_same range i under ∙ a.words i under
      ∙ sym (words_more names front said (slice_index o.words) i ∙ no_word (words_after names front (slice_index o.words)) i))
      values (gave_nothing names front said v.call (done asks) values a.told refl a.gave)
      (subst (λ (x : ScriptOp). IsLineMade names x v w) (sym is) (inl (record { start = v; free = free_u o first lane blocks actions names front values a 0 v looks; is = ap (λ (i : Oid). after_all v (puts_range i off bytes v)) target_is })))
      listed
      (let same = ap (λ (rs : List Recorded). length (words_recorded rs)) h.written.logs.records in let stored = put_stored v in omega (arith, same, stored, due))
    where
      found_outside : (i : ℕ) → IsUnderBlock v i → is_in_area 0 i ≡ false
      found_outside i under = under_outside o first lane blocks actions names front values a new said i under 0 refl

  pub put_refused : (r : Refusal) → HasRefusedPut o Sees new blocks actions v target off bytes r → new.level ≡ 1 → new.locks ≡ lane.locks → IsAtLine o first new blocks actions names (front ++ said ∷ []) (given_by values said (Some r))
  put_refused r h level locks =
      let t : Told = record { operation = asks; reply = Some (Refused r) } in
      told_done o first lane blocks actions names front values a new said v (stays o first lane blocks actions names front values a new said) a.works.work.working asks (Some r) refl actions
      (subst (λ (x : ScriptOp). IsToldDone names x t) (sym is) (Some r, ap (λ (i : Oid). record { operation = operation.WriteReserved i off bytes; reply = Some (Refused r) }) target_is))
      (subst (λ (x : ScriptOp). IsLineMade names x v (after v (Tell asks (Some (Refused r))))) (sym is) (inr (subst (λ (x : Option Refusal). IsPutRefused (operation_of names (op.WriteReserved id off bytes)) x v (after v (Tell asks (Some (Refused r)))))
      (sym (ap (λ (i : Oid). put_refusal v.pool (pending_in v) i off (length bytes)) (sym target_is) ∙ h.refuses.reason))
      (ap (λ (i : Oid). after v (Tell (operation.WriteReserved i off bytes) (Some (Refused r)))) target_is))))
      no_word (λ p. refl) refl h.told.works h.told.listed level locks

  pub put_cut : (rest : List ScriptLine) → HasReservedRange v target off (length bytes) → IsStoppedIn Sees new v steps asks None → IsCut o first new names (front ++ said ∷ rest) values
  put_cut rest range stopped =
      let looks = looks_none v in
      let lane_is = lane_u o first lane blocks actions names front values a 0 v looks in
      let outside = reserved_outside range in
      cut_in o first lane blocks actions names front values a 0 v looks new steps (puts_work target off bytes outside v lane_is) (puts_undrawn target off bytes v lane_is) said rest
      (subst (λ (x : Operation). IsStoppedIn Sees new v steps x None) put_is stopped)
      (inl (calm_behind o first lane blocks actions names front values a 0 v looks (after_all v (take stopped.stops.made (steps v))) a.works.work.working (λ quiet. quiet_by steps (puts_calm target off bytes outside) v stopped.stops.made quiet)))
      (put_calls names id off bytes) (ap (λ (i : Oid). puts_range i off bytes v) target_is) (λ m by. subst (λ (x : ScriptOp). IsLineStopped names x v m) (sym is) by)
      (let stored = put_stored v in omega (arith, stored))
