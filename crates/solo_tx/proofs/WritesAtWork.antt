-- A lane at work may write a range that it recorded; it stays at work, and its call is what the plain model's write makes of it.
use Rattle.std.proofs.Common.{◌≡◌, ℕ, ◌+◌, ◌*◌, ◌/◌, ◌≤◌, arith, All, List, [], ◌∷◌, ◌++◌, length, map, None, true, refl, sym, ap, ◌∙◌, subst}
use Rattle.pm_words.specs.Words.{AreBytes}
use Rattle.solo_crash.specs.CallBlocks.{IsOldIn}
use Rattle.solo_crash.proofs.WriteOn.{write_goes_on}
use Rattle.solo_crash.specs.Operations.{WritesBytes}
use Rattle.pm_objects.specs.declared.calls.Operation.TheVariants.{Write}
use Rattle.pm_objects.specs.declared.ids.Oid.{Oid}
use Rattle.solo_view.specs.Log.{Log, Phase}
use Rattle.solo_view.specs.Steps.Step.{Tell}
use Rattle.solo_view.specs.View.{View, Told}
use Rattle.solo_view.specs.Views.{after, after_all}
use Rattle.solo_undo.proofs.Begun.{tell_works}
use Rattle.solo_undo.specs.Spans.{IsSpan}
use Rattle.solo_undo.specs.Working.{FindsOpening}
use Rattle.solo_world.proofs.Going.{goes_then}
use Rattle.solo_undo.proofs.Storing.{Is, goes_from}
use Rattle.solo_world.specs.Lanes.{span_of}
use Rattle.solo_world.specs.Lawful.{MayTell}
use Rattle.solo_world.specs.Opening.{Opening}
use Rattle.solo_world.specs.Sequences.{Ready, one}
use Rattle.solo_world.specs.declared.lane.Lane.{Lane}
use Rattle.solo_lock.proofs.Drawless.{drawless}
use Rattle.solo_lock.specs.Leading.{DrawEnded}
use Rattle.solo_tx.proofs.GoingOn.{HasSameFields, KeepsObjects, goes_on}
use Rattle.solo_tx.proofs.NoneMade.{made_none_before}
use Rattle.solo_tx.proofs.Objects.{covers_no_size}
use Rattle.solo_tx.proofs.WrittenBytes.{HasWritten, all_written, counted_covered, writes_lawful}
use Rattle.solo_memory.specs.Runs.{Stops}
use Rattle.solo_tx.proofs.Fronts.{front_undrawn}
use Rattle.solo_tx.specs.AtWork.{IsAtWork}
use Rattle.solo_tx.specs.Ranges.{CanWrite, HasWrittenRange, StopsUndrawn, writes_range}
use Rattle.solo_tx.specs.Sequences.{word_count, writes}
use Rattle.solo_crash.proofs.PendingOn.{published_once_more}
use Rattle.solo_crash.specs.Pending.{published_in}
use Rattle.std.proofs.lemmas.List.{append-nil}

module _ {M : Type 0} (o : Opening) (at : M → View → Type 0) (lane : Lane M) (v : View) (work : IsAtWork o at lane v) (id : Oid) (off : ℕ) (bytes : List ℕ) (can : CanWrite v id off (length bytes)) where
  made : Ready v (writes (id.off + off) bytes v) × HasWritten o work.sound (id.off + off) bytes v can.added (word_count (id.off + off) (length bytes)) (after_all v (writes (id.off + off) bytes v))
  made = writes_lawful o work.sound (id.off + off) bytes v can.added work.working work.opening

  may_tell : MayTell (after_all v (writes (id.off + off) bytes v)).log.phase
  may_tell = subst (λ (p : Phase). MayTell p) (sym made.1.working.is_open) tt

  sequence : Ready v (writes_range id off bytes v) × (after_all v (writes_range id off bytes v) ≡ after (after_all v (writes (id.off + off) bytes v)) (Tell (Write id off bytes) None))
  unfolding writes_range one Ready after_all
  sequence =
      goes_then (Is v) (Is (after_all v (writes (id.off + off) bytes v))) (Is (after (after_all v (writes (id.off + off) bytes v)) (Tell (Write id off bytes) None))) (writes (id.off + off) bytes) (one (Tell (Write id off bytes) None))
      (goes_from v (Is (after_all v (writes (id.off + off) bytes v))) (writes (id.off + off) bytes) (made.0, refl))
      (goes_from (after_all v (writes (id.off + off) bytes v)) (Is (after (after_all v (writes (id.off + off) bytes v)) (Tell (Write id off bytes) None))) (one (Tell (Write id off bytes) None)) ((may_tell, tt, tt), refl)) v refl

  pub write_may_be_made : Ready v (writes_range id off bytes v)
  write_may_be_made = sequence.0

  pub writes_first : Ready v (writes (id.off + off) bytes v)
  writes_first = made.0

  bytes_written : AreBytes bytes → WritesBytes v (after (after_all v (writes (id.off + off) bytes v)) (Tell (Write id off bytes) None)) id off bytes
  bytes_written are =
      let has = made.1 in
      record {
        tells = record {
          keeps = record { lanes = has.call.lane.lanes; zones = has.call.lane.zones; pool = has.call.lane.pool; lane = has.call.lane.lane; entries = has.call.entries; known = has.call.remembers };
          locks = has.call.locks;
          call = ap (λ (told : List Told). told ++ record { operation = Write id off bytes; reply = None } ∷ []) has.call.call;
        };
        logs = record { records = ap (λ (l : Log). l.records) has.log; entries = ap (λ (l : Log). l.entries) has.log };
        range = can.range;
        are_bytes = are;
        added = can.added;
        written = λ i outside. all_written o work.sound (id.off + off) bytes v can.added (after_all v (writes (id.off + off) bytes v)) has i;
      }

  objects : KeepsObjects v (after (after_all v (writes (id.off + off) bytes v)) (Tell (Write id off bytes) None))
  objects =
      let has = made.1 in
      record {
        lane = (let s = has.call.lane in record { lanes = s.lanes; zones = s.zones; pool = s.pool; lane = s.lane; stop = s.stop; table = s.table; size = s.size });
        locks = has.call.locks;
        number = has.call.number;
        entries = has.call.entries;
        remembers = has.call.remembers;
        seen = has.call.seen;
        sizes = λ l held.
            has.others (8 * l.line + 1) (λ i low same. covers_no_size v work.objects id off (length bytes) true can.range o work.sound work.opening ((id.off + off) / 8 + i) (counted_covered (id.off + off) (length bytes) i low) l held (sym same));
      }

  write_few : length (after_all v (writes_range id off bytes v)).entries ≤ length v.entries
  write_few = let same = ap (λ (u : View). length u.entries) sequence.1 in let e = ap length objects.entries in omega (arith, same, e)

  pub write_draws : DrawEnded v (writes_range id off bytes v)
  write_draws = drawless v (writes_range id off bytes v) write_few

  -- it stopped before the write was told
  pub write_stops : (new : View → Type 0) → Stops new v (writes_range id off bytes v) → StopsUndrawn new v (writes_range id off bytes)
  write_stops new stops =
      let none = front_undrawn v (writes_range id off bytes v) stops.made write_few work.working.undrawn in
      record { ready = write_may_be_made; draws = write_draws; stops = stops; number = none.0; entries = none.1 }

  pub write_is_made : IsOldIn v id.off → AreBytes bytes → (next : Lane M) → HasSameFields lane next → next.records ≡ lane.records → at next.memory (after (after_all v (writes (id.off + off) bytes v)) (Tell (Write id off bytes) None))
      → HasWrittenRange o at next v id off bytes
  write_is_made old are next fields records seen =
      let has = made.1 in
      let last : View = after (after_all v (writes (id.off + off) bytes v)) (Tell (Write id off bytes) None) in
      let written : WritesBytes v last id off bytes = bytes_written are in
      let opening : FindsOpening o last = record { lane = has.opening.lane; lanes = has.opening.lanes; size = has.opening.size; descriptors = has.opening.descriptors; locks = has.opening.locks } in
      let works : IsAtWork o at next last =
      goes_on o at lane next v last work fields objects seen
      (ap (λ rs. rs.items) records ∙ (work.seen.records ∙ ap (λ (l : Log). map span_of l.records) (sym has.log)))
      (subst (λ rs. All IsSpan rs.items) (sym records) work.spans)
      opening
      (tell_works (after_all v (writes (id.off + off) bytes v)) (Write id off bytes) None has.working)
      (ap (λ (l : Log). l.entries) has.log ∙ work.no_entries)
      (published_once_more v last (Write id off bytes) None written.tells.keeps.entries written.tells.call ∙ append-nil (published_in v))
      (made_none_before v last (Write id off bytes) None written.tells.keeps.entries written.tells.call tt)
      (write_goes_on v last id off lane.level bytes work.level work.under_way written old) in
      record {
        ready = write_may_be_made;
        draws = write_draws;
        works = subst (IsAtWork o at next) (sym sequence.1) works;
        written = subst (λ (z : View). WritesBytes v z id off bytes) (sym sequence.1) written;
      }
