-- A transaction over other objects: where they are the same at what it touches, it runs alike.
use Rattle.std.proofs.Common.{◌≡◌, inl, inr, ℕ, ◌+◌, ◌-◌, ◌%◌, ◌^◌, List, [], ◌∷◌, ◌++◌, map, length, Bool, true, false, not, cond, leb, Option, Some, None, IsSome, MatchOption, refl, sym, ◌∙◌, ap, subst}
use Rattle.std.proofs.lemmas.List.{length-replicate}
use Rattle.std.specs.Option.{option_map_or}
use Rattle.std.specs.List.{flat_map, list_any}
use Rattle.std.proofs.lemmas.Bool.{false≢true, false_from_ne_true, or_parts}
use Rattle.pm_objects.specs.declared.calls.Operation.{Operation}
use Rattle.pm_objects.specs.declared.calls.Operation.TheVariants.{Begin, Lock, Write, Read, Increment, Alloc, Free, Reserve, Publish, Commit, Abort}
use Rattle.pm_objects.specs.declared.calls.Want.{Want}
use Rattle.pm_objects.specs.declared.history.TxErr.{TxErr}
use Rattle.pm_objects.specs.declared.history.TxErr.TheVariants as error
use Rattle.pm_objects.specs.declared.history.Value.{Value}
use Rattle.pm_objects.specs.declared.history.Value.TheVariants.{Offset, Number, Bytes, Refused}
use Rattle.pm_objects.specs.declared.ids.Oid.{Oid}
use Rattle.pm_objects.specs.declared.refusal.Refusal.{Refusal}
use Rattle.pm_model.specs.Items.{Edit, Item, Items, PlainPool, all_edited, bytes_at, edited, freed_item, is_root, made_item, new_item, number_at, number_bytes, put_into}
use Rattle.pm_model.specs.Blocks.{AreAllFree, Block, IsFree, blocks_at, covers, first_line, item_covers}
use Rattle.pm_model.specs.Pending.{Pending, Reservation, SetWord, block_edits, block_of, blocks_reserved, item_reserved, set_edit, set_edits}
use Rattle.pm_model.specs.Transaction.{Transaction, aborted, committed, ended, idle, is_locked, is_new, is_none, wants_of_old}
use Rattle.pm_model.specs.Refusals.{Seen, is_first_lock, is_not_held, refusal_of, tests}
use Rattle.pm_model.specs.Inside.{AreThere, IsDone, IsPlaced, IsRefused, IsReply, MayBePublished, Ran, Replies, after, after_reply, error_for, incremented, is_action, is_kept, performed, refused, taken_by, wants_of}
use Rattle.pm_model.specs.Parts.{joined, of_blocks, part_by, part_of, parts_inside}
use Rattle.pm_model.specs.CallStep.{Runs, RunsOn}
use Rattle.pm_model.proofs.Lists.{Each, NoneApplies, all_of_each, each_append, each_both, each_flat, each_kept, each_left, each_map, each_of_all, each_right, each_unmap, each_weaker, none_applies, none_pass, same_flat}
use Rattle.pm_model.proofs.Edits.{FitsLines, InLines, Inside, all_edited_keeps, all_edited_lines, all_edited_mixed, edited_keeps, edited_lines, edited_mixed, freed_in_lines, mixed, mixed_same, put_keeps_lines}
use Rattle.pm_model.proofs.Fitting.{not_new, before_after, free_there, all_free_there, each_free, WithinT, WithinB, Within, within_first, within_rest, Fits, FitsTx, no_held, less_held, more_made, more_locks, covers_first}
use Rattle.pm_model.proofs.OverTests as told

module _ (here : PlainPool) (I : Items) (R : Option ℕ) (T W B : ℕ → Bool)
    (wt : (x : ℕ) → W x ≡ true → T x ≡ true)
    (same : (x : ℕ) → T x ≡ true → I x ≡ here.items x)
    (roots : (x : ℕ) → T x ≡ true → is_root R x ≡ is_root here.root x)
    (lines : (l x : ℕ) → B l ≡ true → item_covers x (I x) l ≡ item_covers x (here.items x) l) where
  abbrev there : PlainPool
  there = record here { items = I; root = R }

  abbrev mine : Transaction → Transaction
  mine tx = record tx { before = here }

  -- the transaction over the other objects
  abbrev over : Transaction → Transaction
  over tx = record tx { before = there; items = mixed T I tx.items }

  abbrev FitsHere : Transaction → Type 0
  FitsHere tx = FitsTx T W B here tx

  writes_in : (tx : Transaction) (id : Oid) → FitsHere tx
      → is_not_held (mine tx) true id ≡ false → W id.off ≡ true
  writes_in = told.writes_in here I R T W B wt same roots lines

  touches_in : (tx : Transaction) (write : Bool) (id : Oid) → FitsHere tx
      → is_not_held (mine tx) write id ≡ false → T id.off ≡ true
  touches_in = told.touches_in here I R T W B wt same roots lines

  item_there : (tx : Transaction) (x : ℕ) → T x ≡ true → mixed T I tx.items x ≡ tx.items x
  item_there = told.item_there here I R T W B wt same roots lines

  refusal_there : (seen : Seen) (tx : Transaction) (op : Operation) → FitsHere tx
      → refusal_of seen (over tx) op ≡ refusal_of seen (mine tx) op
  refusal_there = told.refusal_there here I R T W B wt same roots lines

  -- ---- what a publish names is held

  abbrev PublishHeld : Transaction → Type 0
  PublishHeld tx = Each (λ (id : Oid). W id.off ≡ true) tx.pending.frees
      × Each (λ (a : SetWord). W a.id.off ≡ true) tx.pending.sets

  publish_held : (seen : Seen) (tx : Transaction) → FitsHere tx
      → NoneApplies (tests seen (mine tx) Publish) → PublishHeld tx
  publish_held seen tx fits none =
      let p = or_parts (list_any (is_not_held (mine tx) true) tx.pending.frees)
      (list_any (λ (a : SetWord). is_not_held
      (mine tx) true a.id) tx.pending.sets) none.1.1.0 in (
        each_weaker (λ (id : Oid). is_not_held (mine tx) true id ≡ false)
            (λ (id : Oid). W id.off ≡ true) tx.pending.frees (λ id e. writes_in tx id fits e)
            (none_pass (is_not_held (mine tx) true) tx.pending.frees p.0),
        each_weaker (λ (a : SetWord). is_not_held (mine tx) true a.id ≡ false)
            (λ (a : SetWord). W a.id.off ≡ true) tx.pending.sets (λ a e. writes_in tx a.id fits e)
            (none_pass (λ (a : SetWord). is_not_held (mine tx) true a.id) tx.pending.sets p.1),
      )

  -- the blocks that a publish makes are of its part
  publish_blocks : (kept : Bool) (tx : Transaction)
      → Within T W B (part_by (mine tx) Publish kept None)
      → Each (WithinB W B) (blocks_reserved tx.pending)
      × Each (λ (id : Oid). Each (WithinB W B) (blocks_at tx.items id.off)) tx.pending.frees
  publish_blocks kept tx within =
      let freed : Oid → List Block = λ id. blocks_at tx.items id.off in (
        each_left (WithinB W B) (blocks_reserved tx.pending)
            (flat_map freed tx.pending.frees) within.blocks,
        each_flat (WithinB W B) freed tx.pending.frees
            (each_right (WithinB W B) (blocks_reserved tx.pending)
            (flat_map freed tx.pending.frees) within.blocks),
      )

  -- its changes are among W
  publish_inside : (kept : Bool) (tx : Transaction) → PublishHeld tx
      → Within T W B (part_by (mine tx) Publish kept None) → Inside W (block_edits tx.pending)
  publish_inside kept tx held within =
      let at : Edit → Type 0 = λ e. W e.off ≡ true in
      each_append at (map (λ (id : Oid). freed_item id.off) tx.pending.frees)
      (map (λ (r : Reservation). made_item r.off (item_reserved r)) tx.pending.reserved)
      (each_map at (λ (id : Oid). freed_item id.off) tx.pending.frees held.0)
      (each_map at (λ (r : Reservation). made_item r.off (item_reserved r)) tx.pending.reserved
      (each_weaker (λ (r : Reservation). WithinB W B (block_of r))
      (λ (r : Reservation). W r.off ≡ true) tx.pending.reserved (λ r w. w.0)
      (each_unmap (WithinB W B) block_of tx.pending.reserved (publish_blocks kept tx within).0)))

  inside_T : (edits : List Edit) → Inside W edits → Inside T edits
  inside_T edits inside = each_weaker (λ (e : Edit). W e.off ≡ true)
      (λ (e : Edit). T e.off ≡ true) edits (λ e w. wt e.off w) inside

  sets_inside : (sets : List SetWord) → Each (λ (a : SetWord). W a.id.off ≡ true) sets
      → Inside W (set_edits sets)
  sets_inside sets each = each_map (λ (e : Edit). W e.off ≡ true) set_edit sets each

  -- ---- what is left

  abbrev LeftThere : Operation → Option Value → Transaction → Type 0
  LeftThere op reply tx = after_reply op reply (over tx) ≡ over (after_reply op reply (mine tx))

  left_by : (op : Operation) (tx : Transaction) (reply value : Option Value) → reply ≡ value
      → LeftThere op value tx → LeftThere op reply tx
  left_by op tx reply value is left = subst (λ (r : Option Value). LeftThere op r tx) (sym is) left

  aborted_there : (e : TxErr) (tx : Transaction) → aborted e (over tx) ≡ over (aborted e (mine tx))
  aborted_there e tx = λ i. record
      (aborted e (over tx)) { items = sym (mixed_same T I here.items same) i }

  edited_there : (e : Edit) (tx : Transaction) → W e.off ≡ true
      → edited e (mixed T I tx.items) ≡ mixed T I (edited e tx.items)
  edited_there e tx w = edited_mixed T I e tx.items (wt e.off w)

  ended_there : (tx : Transaction) → Each (λ (a : SetWord). W a.id.off ≡ true) tx.sets
      → ended (committed (over tx)) ≡ over (ended (committed (mine tx)))
  ended_there tx sets = by (leb tx.level 1) where
    by : (b : Bool)
        → cond b (record (idle there tx.pending) {
          items = all_edited (set_edits tx.sets)
              (mixed T I tx.items);
        })
        (record (committed (over tx)) {
          level = tx.level - 1;
          stage = cond (is_none tx.error) Rattle.pm_model.specs.declared.stage.Stage.TheVariants.Work Rattle.pm_model.specs.declared.stage.Stage.TheVariants.OnAbort;
        })
        ≡ over (cond b (record
        (idle here tx.pending) { items = all_edited (set_edits tx.sets) tx.items })
        (record (committed (mine tx)) {
          level = tx.level - 1;
          stage = cond (is_none tx.error) Rattle.pm_model.specs.declared.stage.Stage.TheVariants.Work Rattle.pm_model.specs.declared.stage.Stage.TheVariants.OnAbort;
        }))
    by true = λ i. record
        (idle there tx.pending) {
          items = all_edited_mixed T I (set_edits tx.sets) tx.items
              (inside_T (set_edits tx.sets) (sets_inside tx.sets sets)) i;
        }
    by false = refl

  left_there : (seen : Seen) (op : Operation) (kept : Bool) (reply : Option Value)
      (tx : Transaction) → FitsHere tx → NoneApplies (tests seen (mine tx) op)
      → IsReply (mine tx) op kept reply → Within T W B (part_by (mine tx) op kept reply)
      → LeftThere op reply tx
  left_there seen (Write id at bytes) kept reply tx fits none value within =
      left_by (Write id at bytes) tx reply None value
      (λ i. record (over tx) {
        items = edited_there (put_into id.off at bytes) tx
            (writes_in tx id fits none.1.1.0) i;
      })
  left_there seen (Increment id at by) kept reply tx fits none value within =
      let n : ℕ = incremented (mine tx) id.off at by in
      let w : W id.off ≡ true = writes_in tx id fits none.1.1.1.1.1.1.1.0 in
      let put : Option Item
      → Items = λ o. edited
      (put_into id.off at (number_bytes
      ((number_at at (option_map_or (λ (i : Item). i.bytes) o []) + by) % 2 ^ 64)))
      (mixed T I tx.items) in
      left_by (Increment id at by) tx reply (Some (Number n)) value
      ((λ i. record (over tx) { items = put (item_there tx id.off (wt id.off w) i) })
      ∙ (λ i. record (over tx) {
        items = edited_there
            (put_into id.off at (number_bytes n)) tx w i;
      }))
  left_there seen (Read id at len) kept reply tx fits none value within =
      left_by (Read id at len) tx reply
      (Some (Bytes (bytes_at at len
      (option_map_or (λ (i : Item). i.bytes) (tx.items id.off) [])))) value refl
  left_there seen (Alloc size kind) kept reply tx fits none value within =
      let w : Within T W B (part_by (mine tx) (Alloc size kind) kept
      (Some (Offset value.0))) = subst
      (λ (r : Option Value). Within T W B
      (part_by (mine tx) (Alloc size kind) kept r)) value.2 within in
      let item : Item = new_item kind size None in
      left_by (Alloc size kind) tx reply (Some (Offset value.0)) value.2
      (λ i. record (over tx) {
        items = edited_there (made_item value.0 item) tx w.blocks.0.0 i;
        made = record { off = value.0; size = length item.bytes } ∷ tx.made;
      })
  left_there seen (Reserve size kind) kept reply tx fits none value within = left_by
      (Reserve size kind) tx reply (Some (Offset value.0)) value.2 refl
  left_there seen (Free id) kept reply tx fits none value within =
      left_by (Free id) tx reply None value
      (λ i. record (performed (Free id) (over tx)) {
        items = edited_there
            (freed_item id.off) tx (writes_in tx id fits none.1.1.0) i;
      })
  left_there seen Publish kept reply tx fits none value within =
      let w : Within T W B (part_by (mine tx) Publish kept None) = subst
      (λ (r : Option Value). Within T W B (part_by (mine tx) Publish kept r)) value within in
      let inside : Inside T (block_edits tx.pending) = inside_T (block_edits tx.pending)
      (publish_inside kept tx (publish_held seen tx fits none) w) in
      left_by Publish tx reply None value
      (λ i. record (performed Publish (over tx)) {
        items = all_edited_mixed T I
            (block_edits tx.pending) tx.items inside i;
      })
  left_there seen Commit kept reply tx fits none value within = left_by Commit tx reply None value (ended_there tx fits.published)
  left_there seen (Abort errnum) kept reply tx fits none value within = left_by
      (Abort errnum) tx reply None value (aborted_there (error_for errnum) tx)
  left_there seen op kept reply tx fits none value within = left_by op tx reply None value refl

  refused_there : (op : Operation) (r : Refusal) (tx : Transaction)
      → LeftThere op (Some (Refused r)) tx
  refused_there op r tx = by (is_action op) where
    by : (b : Bool) → cond b (over tx) (aborted (error.Refused r) (over tx)) ≡ over
        (cond b (mine tx) (aborted (error.Refused r) (mine tx)))
    by true = refl
    by false = aborted_there (error.Refused r) tx

  -- ---- what is left fits

  abbrev FitsLeft : Operation → Option Value → Transaction → Type 0
  FitsLeft op reply tx = FitsHere (after_reply op reply (mine tx))

  fits_by : (op : Operation) (tx : Transaction) (reply value : Option Value) → reply ≡ value
      → FitsLeft op value tx → FitsLeft op reply tx
  fits_by op tx reply value is fits = subst (λ (r : Option Value). FitsLeft op r tx) (sym is) fits

  fits_edit : (e : Edit) (tx : Transaction) → FitsHere tx → W e.off ≡ true
      → FitsLines B here.items e → Fits T W B here tx.made tx.locks (edited e tx.items) tx.sets
  fits_edit e tx fits w l = record {
    held = fits.held;
    lines = edited_lines B here.items e tx.items l fits.lines;
    stays = λ x out. edited_keeps W e tx.items x out w ∙ fits.stays x out;
    published = fits.published;
  }

  fits_aborted : (e : TxErr) (tx : Transaction) → FitsHere tx → FitsHere (aborted e (mine tx))
  fits_aborted e tx fits = record {
    held = less_held T W tx.made tx.locks fits.held;
    lines = λ l x out. refl;
    stays = λ x out. refl;
    published = tt;
  }

  fits_ended : (tx : Transaction) → FitsHere tx → FitsHere (ended (committed (mine tx)))
  fits_ended tx fits = by (leb tx.level 1) where
    edits : Inside W (set_edits tx.sets)
    edits = sets_inside tx.sets fits.published

    keep : Each (FitsLines B here.items) (set_edits tx.sets)
    keep = each_map (FitsLines B here.items) set_edit tx.sets
        (each_weaker (λ (a : SetWord). W a.id.off ≡ true)
        (λ (a : SetWord). FitsLines B here.items (set_edit a)) tx.sets
        (λ a w. inl (put_keeps_lines a.id.off a.off (number_bytes a.value))) fits.published)

    by : (b : Bool) → FitsHere
        (cond b (record (idle here tx.pending) { items = all_edited (set_edits tx.sets) tx.items })
        (record (committed (mine tx)) {
          level = tx.level - 1;
          stage = cond (is_none tx.error) Rattle.pm_model.specs.declared.stage.Stage.TheVariants.Work Rattle.pm_model.specs.declared.stage.Stage.TheVariants.OnAbort;
        }))
    by true = record {
      held = no_held T W;
      lines = all_edited_lines B here.items (set_edits tx.sets) tx.items keep fits.lines;
      stays = λ x out. all_edited_keeps W (set_edits tx.sets) tx.items x out edits
          ∙ fits.stays x out;
      published = tt;
    }
    by false = fits

  -- a new object has lines of its block alone, and nothing stood at its offset
  pub new_lines : (off size : ℕ) (item : Item) → length item.bytes ≡ size
      → IsFree here.items [] (record { off = off; size = size })
      → WithinB W B (record { off = off; size = size })
      → InLines B here.items (made_item off item)
  new_lines off size item long free within l out = (
    free_first (here.items off) refl,
    λ o. ap (λ (n : ℕ). covers (record { off = off; size = n }) l) long
        ∙ false_from_ne_true (covers (record { off = off; size = size }) l)
        (λ c. false≢true (sym out ∙ within.1 l c)),
  ) where
    b : Block
    b = record { off = off; size = size }

    free_first : (o : Option Item) → here.items off ≡ o
        → item_covers off (here.items off) l ≡ false
    free_first None is = ap (λ (x : Option Item). item_covers off x l) is
    free_first (Some i) is =
        let first : ℕ = first_line b in
        absurd (false≢true (sym (free.objects first off (covers_first b))
        ∙ (ap (λ (x : Option Item). item_covers off x first) is
        ∙ covers_first (record { off = off; size = length i.bytes }))))

  -- what a publish changes fits the blocks of its part
  publish_lines : (tx : Transaction) → FitsHere tx
      → AreAllFree here.items tx.made (blocks_reserved tx.pending)
      → Each (WithinB W B) (blocks_reserved tx.pending)
      → Each (λ (id : Oid). Each (WithinB W B) (blocks_at tx.items id.off)) tx.pending.frees
      → Each (FitsLines B here.items) (block_edits tx.pending)
  publish_lines tx fits free made freed =
      let at : Edit → Type 0 = FitsLines B here.items in
      each_append at (map (λ (id : Oid). freed_item id.off) tx.pending.frees)
      (map (λ (r : Reservation). made_item r.off (item_reserved r)) tx.pending.reserved)
      (each_map at (λ (id : Oid). freed_item id.off) tx.pending.frees
      (each_weaker (λ (id : Oid). Each (WithinB W B) (blocks_at tx.items id.off))
      (λ (id : Oid). at (freed_item id.off)) tx.pending.frees
      (λ id bs. inr (freed_in_lines B here.items tx.items id.off fits.lines
      (each_weaker (WithinB W B) (λ (b : Block). (l : ℕ) → covers b l ≡ true → B l ≡ true)
      (blocks_at tx.items id.off) (λ b h. h.1) bs))) freed))
      (each_map at (λ (r : Reservation). made_item r.off (item_reserved r)) tx.pending.reserved
      (each_both (λ (r : Reservation). IsFree here.items [] (block_of r))
      (λ (r : Reservation). WithinB W B (block_of r))
      (λ (r : Reservation). at (made_item r.off (item_reserved r))) tx.pending.reserved
      (λ r f w. inr (new_lines r.off (length r.bytes) (item_reserved r) refl f w))
      (each_unmap (λ (b : Block). IsFree here.items [] b) block_of tx.pending.reserved
      (each_free here.items tx.made (blocks_reserved tx.pending) free))
      (each_unmap (WithinB W B) block_of tx.pending.reserved made)))

  fits_left : (seen : Seen) (op : Operation) (kept : Bool) (reply : Option Value)
      (tx : Transaction) → FitsHere tx → NoneApplies (tests seen (mine tx) op)
      → IsDone (mine tx) op kept reply → Within T W B (part_by (mine tx) op kept reply)
      → FitsLeft op reply tx
  fits_left seen (Begin wants) kept reply tx fits none done within =
      let w : Within T W B (part_by (mine tx) (Begin wants) kept None) = subst
      (λ (r : Option Value). Within T W B
      (part_by (mine tx) (Begin wants) kept r)) done.value within in
      fits_by (Begin wants) tx reply None done.value
      (record {
        held = more_locks T W tx.made tx.locks
            (wants_of_old tx wants) w.locks fits.held;
        lines = fits.lines;
        stays = fits.stays;
        published = fits.published;
      })
  fits_left seen (Lock want) kept reply tx fits none done within =
      let w : Within T W B (part_by (mine tx) (Lock want) kept None) = subst
      (λ (r : Option Value). Within T W B
      (part_by (mine tx) (Lock want) kept r)) done.value within in
      fits_by (Lock want) tx reply None done.value
      (record {
        held = more_locks T W tx.made tx.locks
            (wants_of_old tx (want ∷ [])) w.locks fits.held;
        lines = fits.lines;
        stays = fits.stays;
        published = fits.published;
      })
  fits_left seen (Write id at bytes) kept reply tx fits none done within =
      fits_by (Write id at bytes) tx reply None done.value
      (fits_edit (put_into id.off at bytes) tx fits (writes_in tx id fits none.1.1.0)
      (inl (put_keeps_lines id.off at bytes)))
  fits_left seen (Increment id at by) kept reply tx fits none done within =
      let n : ℕ = incremented (mine tx) id.off at by in
      fits_by (Increment id at by) tx reply (Some (Number n)) done.value
      (fits_edit (put_into id.off at (number_bytes n)) tx fits
      (writes_in tx id fits none.1.1.1.1.1.1.1.0)
      (inl (put_keeps_lines id.off at (number_bytes n))))
  fits_left seen (Read id at len) kept reply tx fits none done within =
      fits_by (Read id at len) tx reply
      (Some (Bytes (bytes_at at len
      (option_map_or (λ (i : Item). i.bytes) (tx.items id.off) [])))) done.value fits
  fits_left seen (Alloc size kind) kept reply tx fits none done within =
      let off : ℕ = done.value.0 in
      let w : Within T W B (part_by (mine tx) (Alloc size kind) kept (Some (Offset off))) = subst
      (λ (r : Option Value). Within T W B
      (part_by (mine tx) (Alloc size kind) kept r)) done.value.2 within in
      let item : Item = new_item kind size None in
      let long : length item.bytes ≡ size = length-replicate size 0 in
      let free : IsFree here.items []
      (record { off = off; size = size }) = record {
        objects = done.value.1.1.objects;
        others = λ l c. refl;
      } in
      let lines_in : InLines B here.items
      (made_item off item) = new_lines off size item long free w.blocks.0 in
      let now : Fits T W B here tx.made tx.locks
      (edited (made_item off item) tx.items) tx.sets = fits_edit
      (made_item off item) tx fits w.blocks.0.0 (inr lines_in) in
      let block : Block = record { off = off; size = length item.bytes } in
      let in_B : WithinB W B block = (
        w.blocks.0.0,
        λ l c. w.blocks.0.1 l
            (ap (λ (n : ℕ). covers (record { off = off; size = n }) l) (sym long) ∙ c),
      ) in
      fits_by (Alloc size kind) tx reply (Some (Offset off)) done.value.2
      (record {
        held = more_made T W B wt (block ∷ []) tx.made tx.locks (in_B, tt) fits.held;
        lines = now.lines;
        stays = now.stays;
        published = now.published;
      })
  fits_left seen (Reserve size kind) kept reply tx fits none done within = fits_by
      (Reserve size kind) tx reply (Some (Offset done.value.0)) done.value.2 fits
  fits_left seen (Free id) kept reply tx fits none done within =
      let w : Within T W B (part_by (mine tx) (Free id) kept None) = subst
      (λ (r : Option Value). Within T W B
      (part_by (mine tx) (Free id) kept r)) done.value within in
      let blocks : Each (λ (b : Block). (l : ℕ) → covers b l ≡ true → B l ≡ true)
      (blocks_at tx.items id.off) =
      each_weaker (WithinB W B) (λ (b : Block). (l : ℕ) → covers b l ≡ true → B l ≡ true)
      (blocks_at tx.items id.off) (λ b h. h.1) w.blocks in
      let now : Fits T W B here tx.made tx.locks (edited (freed_item id.off) tx.items) tx.sets =
      fits_edit (freed_item id.off) tx fits (writes_in tx id fits none.1.1.0)
      (inr (freed_in_lines B here.items tx.items id.off fits.lines blocks)) in
      fits_by (Free id) tx reply None done.value
      (record {
        held = now.held;
        lines = now.lines;
        stays = now.stays;
        published = now.published;
      })
  fits_left seen Publish kept reply tx fits none done within =
      let w : Within T W B (part_by (mine tx) Publish kept None) = subst
      (λ (r : Option Value). Within T W B
      (part_by (mine tx) Publish kept r)) done.value within in
      let held : PublishHeld tx = publish_held seen tx fits none in
      let blocks = publish_blocks kept tx w in
      let inside : Inside W (block_edits tx.pending) = publish_inside kept tx held w in
      fits_by Publish tx reply None done.value (record {
        held = more_made T W B wt (blocks_reserved tx.pending) tx.made tx.locks blocks.0 fits.held;
        lines = all_edited_lines B here.items (block_edits tx.pending) tx.items
            (publish_lines tx fits done.publishes blocks.0 blocks.1) fits.lines;
        stays = λ x out. all_edited_keeps W (block_edits tx.pending) tx.items x out inside
            ∙ fits.stays x out;
        published = each_append
            (λ (a : SetWord). W a.id.off ≡ true) tx.sets tx.pending.sets fits.published held.1;
      })
  fits_left seen Commit kept reply tx fits none done within = fits_by Commit tx reply None done.value (fits_ended tx fits)
  fits_left seen (Abort errnum) kept reply tx fits none done within = fits_by
      (Abort errnum) tx reply None done.value (fits_aborted (error_for errnum) tx fits)
  fits_left seen op kept reply tx fits none done within = fits_by op tx reply None done.value fits

  fits_refused : (op : Operation) (r : Refusal) (tx : Transaction) → FitsHere tx
      → FitsLeft op (Some (Refused r)) tx
  fits_refused op r tx fits = by (is_action op) where
    by : (b : Bool) → FitsHere (cond b (mine tx) (aborted (error.Refused r) (mine tx)))
    by true = fits
    by false = fits_aborted (error.Refused r) tx fits

  -- ---- the part

  part_there : (seen : Seen) (op : Operation) (kept : Bool) (reply : Option Value)
      (tx : Transaction) → FitsHere tx → NoneApplies (tests seen (mine tx) op)
      → IsReply (mine tx) op kept reply
      → part_by (over tx) op kept reply ≡ part_by (mine tx) op kept reply
  part_there seen (Free id) kept reply tx fits none value =
      subst (λ (r : Option Value). part_by (over tx) (Free id) kept r ≡ part_by (mine tx)
      (Free id) kept r) (sym value)
      (ap (λ (o : Option Item). of_blocks
      (option_map_or (λ (i : Item). record { off = id.off; size = length i.bytes }
      ∷ []) o [])) (item_there tx id.off (touches_in tx true id fits none.1.1.0)))
  part_there seen Publish kept reply tx fits none value =
      let held : PublishHeld tx = publish_held seen tx fits none in
      subst (λ (r : Option Value). part_by (over tx) Publish kept r ≡ part_by
      (mine tx) Publish kept r) (sym value)
      (ap (λ (bs : List Block). of_blocks (blocks_reserved tx.pending ++ bs))
      (same_flat (λ (id : Oid). blocks_at (mixed T I tx.items) id.off)
      (λ (id : Oid). blocks_at tx.items id.off) tx.pending.frees
      (each_weaker (λ (id : Oid). W id.off ≡ true)
      (λ (id : Oid). blocks_at
      (mixed T I tx.items) id.off ≡ blocks_at tx.items id.off) tx.pending.frees
      (λ id w. ap (λ (o : Option Item). option_map_or
      (λ (i : Item). record { off = id.off; size = length i.bytes } ∷ []) o [])
      (item_there tx id.off (wt id.off w))) held.0)))
  part_there seen (Alloc size kind) kept reply tx fits none value =
      subst (λ (r : Option Value). part_by (over tx) (Alloc size kind) kept r ≡ part_by (mine tx)
      (Alloc size kind) kept r) (sym value.2) refl
  part_there seen (Reserve size kind) kept reply tx fits none value =
      subst (λ (r : Option Value). part_by (over tx) (Reserve size kind) kept r ≡ part_by
      (mine tx) (Reserve size kind) kept r) (sym value.2) refl
  part_there seen op kept reply tx fits none value =
      subst (λ (r : Option Value). part_by (over tx) op kept r ≡ part_by (mine tx) op kept r)
      (sym value) refl

  -- ---- replies

  placed_there : (tx : Transaction) (b : Block) → ((l : ℕ) → covers b l ≡ true → B l ≡ true)
      → (kept : Bool) → IsPlaced (mine tx) kept b → IsPlaced (over tx) kept b
  placed_there tx b within true placed = (
    placed.0,
    free_there B here.items I lines (taken_by tx) b within placed.1,
  )
  placed_there tx b within false placed = placed

  value_there : (seen : Seen) (op : Operation) (kept : Bool) (reply : Option Value)
      (tx : Transaction) → FitsHere tx → NoneApplies (tests seen (mine tx) op)
      → IsReply (mine tx) op kept reply → Within T W B (part_by (mine tx) op kept reply)
      → IsReply (over tx) op kept reply
  value_there seen (Read id at len) kept reply tx fits none value within =
      value ∙ ap (λ (o : Option Item). let v : Option Value = Some
      (Bytes (bytes_at at len (option_map_or (λ (i : Item). i.bytes) o []))) in v)
      (sym (item_there tx id.off (touches_in tx false id fits none.1.1.0)))
  value_there seen (Increment id at by) kept reply tx fits none value within =
      value ∙ ap (λ (o : Option Item). let v : Option Value = Some
      (Number ((number_at at (option_map_or (λ (i : Item). i.bytes) o []) + by) % 2 ^ 64)) in
      v) (sym (item_there tx id.off (touches_in tx false id fits none.1.1.0)))
  value_there seen (Alloc size kind) kept reply tx fits none value within =
      let w : Within T W B (part_by (mine tx) (Alloc size kind) kept
      (Some (Offset value.0))) = subst
      (λ (r : Option Value). Within T W B
      (part_by (mine tx) (Alloc size kind) kept r)) value.2 within in (
        value.0,
        placed_there tx
            (record { off = value.0; size = size }) w.blocks.0.1 true value.1,
        value.2,
      )
  value_there seen (Reserve size kind) true reply tx fits none value within =
      let w : Within T W B (part_by (mine tx) (Reserve size kind) true
      (Some (Offset value.0))) = subst
      (λ (r : Option Value). Within T W B
      (part_by (mine tx) (Reserve size kind) true r)) value.2 within in (
        value.0,
        placed_there tx
            (record { off = value.0; size = size }) w.blocks.0.1 true value.1,
        value.2,
      )
  value_there seen op kept reply tx fits none value within = value

  wants_there : (tx : Transaction) (wants : List Want)
      → Each (WithinT T W) (wants_of_old tx wants) → AreThere (mine tx) wants
      → AreThere (over tx) wants
  wants_there tx wants within there =
      let old : Want → Bool = λ w. not (is_new tx w.id.off) in
      all_of_each (λ (w : Want). is_first_lock (over tx) w ≡ true
      → IsSome (mixed T I tx.items w.id.off)) wants
      (each_both (λ (w : Want). old w ≡ true → WithinT T W w)
      (λ (w : Want). is_first_lock tx w ≡ true → IsSome (tx.items w.id.off))
      (λ (w : Want). is_first_lock tx w ≡ true → IsSome (mixed T I tx.items w.id.off)) wants
      (λ w h some first. subst (λ (o : Option Item). IsSome o)
      (sym (item_there tx w.id.off
      (h (not_new (is_new tx w.id.off) (is_locked tx.locks w.id.off false) first)).0))
      (some first))
      (each_kept (WithinT T W) old wants within)
      (each_of_all (λ (w : Want). is_first_lock tx w ≡ true
      → IsSome (tx.items w.id.off)) wants there))

  are_there : (op : Operation) (kept : Bool) (reply : Option Value) (tx : Transaction)
      → IsReply (mine tx) op kept reply → Within T W B (part_by (mine tx) op kept reply)
      → AreThere (mine tx) (wants_of op) → AreThere (over tx) (wants_of op)
  are_there (Begin wants) kept reply tx value within there =
      let w : Within T W B (part_by (mine tx) (Begin wants) kept None) = subst
      (λ (r : Option Value). Within T W B
      (part_by (mine tx) (Begin wants) kept r)) value within in
      wants_there tx wants w.locks there
  are_there (Lock want) kept reply tx value within there =
      let w : Within T W B (part_by (mine tx) (Lock want) kept None) = subst
      (λ (r : Option Value). Within T W B
      (part_by (mine tx) (Lock want) kept r)) value within in
      wants_there tx (want ∷ []) w.locks there
  are_there op kept reply tx value within known = all_of_each
      (λ (w : Want). is_first_lock (over tx) w ≡ true → IsSome (mixed T I tx.items w.id.off)) [] tt

  publishes_there : (op : Operation) (kept : Bool) (reply : Option Value) (tx : Transaction)
      → IsReply (mine tx) op kept reply → Within T W B (part_by (mine tx) op kept reply)
      → MayBePublished (mine tx) op → MayBePublished (over tx) op
  publishes_there Publish kept reply tx value within may =
      let w : Within T W B (part_by (mine tx) Publish kept None) = subst
      (λ (r : Option Value). Within T W B (part_by (mine tx) Publish kept r)) value within in
      all_free_there B here.items I lines (blocks_reserved tx.pending) tx.made
      (each_weaker (WithinB W B) (λ (b : Block). (l : ℕ) → covers b l ≡ true → B l ≡ true)
      (blocks_reserved tx.pending) (λ b h. h.1) (publish_blocks kept tx w).0) may
  publishes_there op kept reply tx value within may = tt

  done_there : (seen : Seen) (op : Operation) (kept : Bool) (reply : Option Value)
      (tx : Transaction) → FitsHere tx → NoneApplies (tests seen (mine tx) op)
      → IsDone (mine tx) op kept reply → Within T W B (part_by (mine tx) op kept reply)
      → IsDone (over tx) op kept reply
  done_there seen op kept reply tx fits none done within = record {
    there = are_there op kept reply tx done.value within done.there;
    publishes = publishes_there op kept reply tx done.value within done.publishes;
    value = value_there seen op kept reply tx fits none done.value within;
  }

  -- ---- one operation, and all

  abbrev StepThere : Transaction → Ran → Bool → Type 0
  StepThere tx ran kept = Replies (over tx) ran kept
      × (after ran (over tx) ≡ over (after ran tx)) × FitsHere (after ran tx)
      × (part_of (over tx) ran kept ≡ part_of tx ran kept)

  step_mine : (tx : Transaction) (ran : Ran) (kept : Bool) → FitsHere tx
      → Within T W B (part_of (mine tx) ran kept) → Replies (mine tx) ran kept
      → StepThere (mine tx) ran kept
  step_mine tx ran kept fits within replies =
      by (refusal_of ran.seen (mine tx) ran.operation)
      (refusal_of ran.seen (over tx) ran.operation) refl
      (refusal_there ran.seen tx ran.operation fits) replies.reply refl where
        by : (one other : Option Refusal) → refusal_of ran.seen (mine tx) ran.operation ≡ one
            → other ≡ one → MatchOption one (IsDone (mine tx) ran.operation kept ran.reply)
            (λ r. IsRefused r ran.reply)
            → refusal_of ran.seen (over tx) ran.operation ≡ other → StepThere (mine tx) ran kept
        by None other is same_one done at =
            let none : NoneApplies (tests ran.seen (mine tx) ran.operation) = none_applies
            (tests ran.seen (mine tx) ran.operation) is in (
              record {
                inside = replies.inside;
                reply = subst (λ (o : Option Refusal). MatchOption o
                    (IsDone (over tx) ran.operation kept ran.reply) (λ r. IsRefused r ran.reply))
                    (sym (at ∙ same_one))
                    (done_there ran.seen ran.operation kept ran.reply tx fits none done within);
              },
              left_there ran.seen ran.operation kept ran.reply tx fits none done.value within,
              fits_left ran.seen ran.operation kept ran.reply tx fits none done within,
              part_there ran.seen ran.operation kept ran.reply tx fits none done.value,
            )
        by (Some r) other is same_one refused at = (
          record {
            inside = replies.inside;
            reply = subst (λ (o : Option Refusal). MatchOption o
                (IsDone (over tx) ran.operation kept ran.reply) (λ s. IsRefused s ran.reply))
                (sym (at ∙ same_one)) refused;
          },
          left_by ran.operation tx ran.reply (Some (Refused r)) refused.replied
              (refused_there ran.operation r tx),
          fits_by ran.operation tx ran.reply (Some (Refused r)) refused.replied
              (fits_refused ran.operation r tx fits),
          subst (λ (v : Option Value). part_by (over tx) ran.operation kept v ≡ part_by
              (mine tx) ran.operation kept v) (sym refused.replied) refl,
        )

  step_there : (tx : Transaction) (ran : Ran) (kept : Bool) → tx.before ≡ here → FitsHere tx
      → Within T W B (part_of tx ran kept) → Replies tx ran kept → StepThere tx ran kept
  step_there tx ran kept is =
      subst (λ (t : Transaction). FitsHere t → Within T W B (part_of t ran kept)
      → Replies t ran kept → StepThere t ran kept)
      (λ i. record tx { before = sym is i }) (step_mine tx ran kept)

  abbrev RunThere : Transaction → List Ran → Transaction → Type 0
  RunThere tx rest last = RunsOn (over tx) rest (over last)
      × (parts_inside (over tx) rest ≡ parts_inside tx rest) × FitsHere last × (last.before ≡ here)

  pub run_there : (rest : List Ran) (tx last : Transaction) → tx.before ≡ here → FitsHere tx
      → Within T W B (parts_inside tx rest) → RunsOn tx rest last → RunThere tx rest last
  unfolding RunsOn parts_inside
  run_there [] tx last is fits within runs = (
    ap over runs,
    refl,
    subst (λ (t : Transaction). FitsHere t) (sym runs) fits,
    ap (λ (t : Transaction). t.before) runs ∙ is,
  )
  run_there (ran ∷ rest) tx last is fits within runs =
      let kept : Bool = is_kept rest in
      let first : Within T W B (part_of tx ran kept) = within_first T W B (part_of tx ran kept)
      (parts_inside (after ran tx) rest) within in
      let later : Within T W B (parts_inside (after ran tx) rest) = within_rest T W B
      (part_of tx ran kept) (parts_inside (after ran tx) rest) within in
      let step : StepThere tx ran kept = step_there tx ran kept is fits first runs.1 in
      let next : RunThere (after ran tx) rest last = run_there rest (after ran tx) last
      (before_after ran.operation ran.reply tx ∙ is) step.2 later runs.2 in (
        (
          runs.0,
          step.0,
          subst (λ (t : Transaction). RunsOn t rest (over last))
              (sym step.1) next.0,
        ),
        (λ i. joined (step.3 i)
            ((ap (λ (t : Transaction). parts_inside t rest) step.1 ∙ next.1) i)),
        next.2,
        next.3,
      )

  pub transaction_there : (operations : List Ran) (pending : Pending) (last : Transaction)
      → Within T W B (parts_inside (idle here pending) operations)
      → Runs (idle here pending) operations last
      → Runs (idle there pending) operations (over last)
      × (parts_inside (idle there pending) operations ≡ parts_inside
      (idle here pending) operations) × FitsHere last × (last.before ≡ here)
  unfolding Runs parts_inside
  transaction_there [] pending last within runs = absurd runs
  transaction_there (ran ∷ rest) pending last within runs =
      let tx : Transaction = idle here pending in
      let kept : Bool = is_kept rest in
      let start : over tx ≡ idle there pending = λ i. record
      (idle there pending) { items = mixed_same T I here.items same i } in
      let fits : FitsHere tx = record {
        held = no_held T W;
        lines = λ l x out. refl;
        stays = λ x out. refl;
        published = tt;
      } in
      let first : Within T W B (part_of tx ran kept) = within_first T W B (part_of tx ran kept)
      (parts_inside (after ran tx) rest) within in
      let later : Within T W B (parts_inside (after ran tx) rest) = within_rest T W B
      (part_of tx ran kept) (parts_inside (after ran tx) rest) within in
      let step : StepThere tx ran kept = step_there tx ran kept refl fits first runs.0 in
      let next : RunThere (after ran tx) rest last = run_there rest (after ran tx) last
      (before_after ran.operation ran.reply tx) step.2 later runs.1 in
      let replies : Replies (idle there pending) ran kept = subst
      (λ (t : Transaction). Replies t ran kept) start step.0 in
      let left : after ran (idle there pending) ≡ over (after ran tx) = ap (after ran)
      (sym start) ∙ step.1 in
      let part : part_of (idle there pending) ran kept ≡ part_of tx ran kept = ap
      (λ (t : Transaction). part_of t ran kept) (sym start) ∙ step.3 in (
        (replies, subst (λ (t : Transaction). RunsOn t rest (over last)) (sym left) next.0),
        (λ i. joined (part i) ((ap (λ (t : Transaction). parts_inside t rest) left ∙ next.1) i)),
        next.2,
        next.3,
      )
