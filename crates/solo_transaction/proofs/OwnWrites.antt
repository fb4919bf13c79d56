-- A lane at work may write a range of an object that stands in what it reserved, and tell that as it will: what the words, the call and the lane are then.
use Rattle.std.proofs.Common.{◌≡◌, ℕ, ◌+◌, ◌*◌, ◌/◌, ◌≤◌, arith, All, List, slice_index, [], ◌∷◌, ◌++◌, length, map, None, refl, sym, ap, ◌∙◌, subst}
use Rattle.std.proofs.lemmas.List.{append-nil}
use Rattle.std.proofs.lemmas.List.Elements.{All-weaker}
use Rattle.solo_made.specs.Made.{BlockLists}
use Rattle.solo_memory.specs.Runs.{Stops}
use Rattle.pm_objects.specs.declared.calls.Operation.{Operation}
use Rattle.pm_objects.specs.declared.ids.Oid.{Oid}
use Rattle.solo_view.specs.Blocks.{descriptor_word}
use Rattle.solo_view.specs.Log.{Log, Phase}
use Rattle.solo_view.specs.Steps.Step.{Tell}
use Rattle.solo_view.specs.View.{Told, View}
use Rattle.solo_view.specs.Views.{after, after_all}
use Rattle.solo_undo.proofs.Begun.{tell_works}
use Rattle.solo_undo.proofs.Learned.{opening_kept}
use Rattle.solo_undo.proofs.Storing.{Is, goes_from}
use Rattle.solo_undo.specs.Spans.{IsSpan}
use Rattle.solo_undo.specs.Working.{FindsOpening}
use Rattle.solo_world.proofs.Going.{goes_then}
use Rattle.solo_world.specs.Lanes.{span_of}
use Rattle.solo_world.specs.Lawful.{FilledChange, MayTell, OnlyFilled}
use Rattle.solo_world.specs.Opening.{Opening}
use Rattle.solo_world.specs.Sequences.{Ready, Sequence, in_turn, one}
use Rattle.solo_world.specs.declared.lane.Lane.{Lane}
use Rattle.solo_lock.proofs.Drawless.{drawless}
use Rattle.solo_lock.specs.Leading.{DrawEnded}
use Rattle.solo_crash.proofs.PendingOn.{published_once_more}
use Rattle.solo_crash.specs.Operations.{KeepsLog, Tells}
use Rattle.solo_crash.specs.OpenCall.{IsUnderWay}
use Rattle.solo_crash.specs.Pending.{pending_in, published_by, published_in}
use Rattle.solo_crash.specs.Writes.{words_written}
use Rattle.solo_model.specs.Actions.{Action}
use Rattle.solo_model.specs.declared.stage.Stage.TheVariants as model_stage
use Rattle.pm_objects.specs.declared.history.TxErr.TheVariants as error
use Rattle.solo_crash.proofs.StillReserved.{HasSameHeads}
use Rattle.solo_tx.proofs.Fronts.{front_undrawn}
use Rattle.solo_tx.proofs.GoingOn.{HasSameFields, KeepsObjects, goes_on}
use Rattle.solo_tx.proofs.NoneMade.{LeavesMade, made_none_before}
use Rattle.solo_tx.proofs.WrittenBytes.{counted_covered}
use Rattle.solo_tx.specs.AtWork.{IsAtWork}
use Rattle.solo_tx.specs.Ranges.{StopsUndrawn}
use Rattle.solo_tx.specs.Sequences.{word_count, writes}
use Rattle.solo_transaction.proofs.FilledBytes.{HasFilled, all_filled, filled_heads, fills_lawful}
use Rattle.solo_transaction.proofs.NewRangeWords.{no_descriptor}
use Rattle.solo_transaction.proofs.FilledWord.{ReservesOfPool}
use Rattle.solo_transaction.proofs.OwnRangeWords.{HasOwnRange, WorksInPool, covered_fill, covers_no_size, works_in_pool}
use Rattle.solo_transaction.proofs.SameHeap.{told_writes_leave}
use Rattle.solo_transaction.specs.AtWork.{IsAtWorkWith}

module _ (v : View) (base : WorksInPool v) (id : Oid) (off : ℕ) (bytes : List ℕ) (range : HasOwnRange v id off (length bytes)) (op : Operation) where
  abbrev pub steps : Sequence
  steps = in_turn (writes (id.off + off) bytes) (one (Tell op None))

  abbrev pub u : View
  u = after_all v (writes (id.off + off) bytes v)

  abbrev pub w : View
  w = after u (Tell op None)

  made : Ready v (writes (id.off + off) bytes v) × HasFilled v base id off bytes range (word_count (id.off + off) (length bytes)) u
  made = fills_lawful v base id off bytes range

  may_tell : MayTell u.log.phase
  may_tell = subst (λ (p : Phase). MayTell p) (sym made.1.working.is_open) tt

  pub sequence : Ready v (steps v) × (after_all v (steps v) ≡ w)
  unfolding one Ready after_all
  sequence =
      goes_then (Is v) (Is u) (Is w) (writes (id.off + off) bytes) (one (Tell op None))
      (goes_from v (Is u) (writes (id.off + off) bytes) (made.0, refl))
      (goes_from u (Is w) (one (Tell op None)) ((may_tell, tt, tt), refl)) v refl

  pub own_write_may_be_made : Ready v (steps v)
  own_write_may_be_made = sequence.0

  pub own_writes_first : Ready v (writes (id.off + off) bytes v)
  own_writes_first = made.0

  pub tells_so : Tells v w op None
  tells_so =
      let has = made.1 in
      record {
        keeps = record { lanes = has.call.lane.lanes; zones = has.call.lane.zones; pool = has.call.lane.pool; lane = has.call.lane.lane; entries = has.call.entries; known = has.call.remembers };
        locks = has.call.locks;
        call = ap (λ (told : List Told). told ++ record { operation = op; reply = None } ∷ []) has.call.call;
      }

  pub logs_so : KeepsLog v w
  logs_so = record { records = ap (λ (l : Log). l.records) made.1.log; entries = ap (λ (l : Log). l.entries) made.1.log }

  pub words_so : (i : ℕ) → slice_index w.words i ≡ words_written (id.off + off) bytes (slice_index v.words) i
  words_so = all_filled v base id off bytes range u made.1

  objects : KeepsObjects v w
  objects =
      let has = made.1 in
      record {
        lane = (let s = has.call.lane in record { lanes = s.lanes; zones = s.zones; pool = s.pool; lane = s.lane; stop = s.stop; table = s.table; size = s.size });
        locks = has.call.locks;
        number = has.call.number;
        entries = has.call.entries;
        remembers = has.call.remembers;
        seen = has.call.seen;
        sizes = λ l held.
            has.others (8 * l.line + 1) (λ i low same. covers_no_size v base id off (length bytes) range ((id.off + off) / 8 + i) (counted_covered (id.off + off) (length bytes) i low) l held (sym same));
      }

  opening : (o : Opening) → FindsOpening o v → FindsOpening o w
  opening o finds =
      let has = made.1 in
      let t : FindsOpening o u =
      opening_kept o v u finds has.call.lane has.call.locks
      (λ page chunk. has.others (descriptor_word v.lanes page) (λ i low same.
      no_descriptor v ((id.off + off) / 8 + i) (covered_fill v base id off (length bytes) range ((id.off + off) / 8 + i) (counted_covered (id.off + off) (length bytes) i low)).plain page chunk (sym same))) in
      record { lane = t.lane; lanes = t.lanes; size = t.size; descriptors = t.descriptors; locks = t.locks }

  write_few : length (after_all v (steps v)).entries ≤ length v.entries
  write_few = let same = ap (λ (u : View). length u.entries) sequence.1 in let e = ap length objects.entries in omega (arith, same, e)

  pub write_draws : DrawEnded v (steps v)
  write_draws = drawless v (steps v) write_few

  -- it stopped before the write was told
  pub own_write_stops : (new : View → Type 0) → Stops new v (steps v) → StopsUndrawn new v steps
  own_write_stops new stops =
      let none = front_undrawn v (steps v) stops.made write_few base.working.undrawn in
      record { ready = own_write_may_be_made; draws = write_draws; stops = stops; number = none.0; entries = none.1 }

  pub heads_so : HasSameHeads v w
  heads_so =
      let t = filled_heads v base id off bytes range (word_count (id.off + off) (length bytes)) (omega arith) u made.1 in
      record { lanes = t.lanes; zones = t.zones; reserved = t.reserved; described = t.described; bitmaps = t.bitmaps; root = t.root }

  pub table_so : w.table ≡ v.table
  table_so = made.1.call.lane.table

  pub zone_locks_so : w.zone_locks ≡ v.zone_locks
  zone_locks_so = ap (λ (z : View). z.zone_locks) (sym sequence.1) ∙ (told_writes_leave (id.off + off) bytes op v).zone_locks

-- ---- in a transaction

module _ {M : Type 0} (o : Opening) (at : M → View → Type 0) (lane : Lane M) (blocks : BlockLists) (v : View) (all : IsAtWorkWith o at lane blocks v) (id : Oid) (off : ℕ) (bytes : List ℕ) (range : HasOwnRange v id off (length bytes)) (op : Operation) where
  abbrev base : WorksInPool v
  base = works_in_pool o at lane blocks v all

  abbrev behind : View
  behind = w v base id off bytes range op

  pub own_write_at_work : (next : Lane M) → HasSameFields lane next → next.records ≡ lane.records → at next.memory (w v (works_in_pool o at lane blocks v all) id off bytes range op) → published_by op None (pending_in v) ≡ [] → LeavesMade op None
      → IsUnderWay (w v (works_in_pool o at lane blocks v all) id off bytes range op) lane.level model_stage.Work error.None → IsAtWork o at next (w v (works_in_pool o at lane blocks v all) id off bytes range op)
  own_write_at_work next fields records seen unpublished leaves under_way =
      let has = (made v base id off bytes range op).1 in
      let tells : Tells v behind op None = tells_so v base id off bytes range op in
      goes_on o at lane next v behind all.work fields (objects v base id off bytes range op) seen
      (ap (λ rs. rs.items) records ∙ (all.work.seen.records ∙ ap (λ (l : Log). map span_of l.records) (sym has.log)))
      (subst (λ rs. All IsSpan rs.items) (sym records) all.work.spans)
      (opening v base id off bytes range op o all.work.opening)
      (tell_works (u v base id off bytes range op) op None has.working)
      (ap (λ (l : Log). l.entries) has.log ∙ all.work.no_entries)
      (published_once_more v behind op None tells.keeps.entries tells.call ∙ (ap (λ (more : List Action). published_in v ++ more) unpublished ∙ append-nil (published_in v)))
      (made_none_before v behind op None tells.keeps.entries tells.call leaves)
      under_way
