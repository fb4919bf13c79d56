-- A lane at work may write a range of an object that its call made; it stays at work, and its call is what the plain model's write makes of it.
use Rattle.std.proofs.Common.{◌≡◌, ℕ, ◌+◌, List, length, None, refl, sym, ap, subst}
use Rattle.pm_words.specs.Words.{AreBytes}
use Rattle.solo_made.specs.Made.{BlockLists}
use Rattle.solo_memory.specs.Runs.{Stops}
use Rattle.pm_objects.specs.declared.calls.Operation.{Operation}
use Rattle.pm_objects.specs.declared.calls.Operation.TheVariants.{Write}
use Rattle.pm_objects.specs.declared.ids.Oid.{Oid}
use Rattle.solo_view.specs.View.{View}
use Rattle.solo_world.specs.Opening.{Opening}
use Rattle.solo_world.specs.Sequences.{Ready}
use Rattle.solo_world.specs.declared.lane.HeldLock.{HeldLock}
use Rattle.solo_world.specs.declared.lane.Lane.{Lane}
use Rattle.solo_crash.proofs.ReservedStays.{new_write_stays}
use Rattle.solo_crash.proofs.CallBlocks.{blocks_once_more}
use Rattle.solo_crash.proofs.NewWrites.{new_write_goes_on}
use Rattle.solo_crash.specs.Operations.{HasNewRange, WritesNewBytes}
use Rattle.solo_tx.proofs.GoingOn.{HasSameFields}
use Rattle.solo_tx.specs.Ranges.{StopsUndrawn, writes_range}
use Rattle.solo_tx.specs.Sequences.{writes}
use Rattle.solo_transaction.proofs.GoingWith.{Keeps, keeps_told, kept_of, with_lists}
use Rattle.solo_transaction.proofs.NewRangeWords as words
use Rattle.solo_transaction.proofs.OwnRangeWords.{HasOwnRange, works_in_pool}
use Rattle.solo_transaction.proofs.OwnWrites as any
use Rattle.solo_transaction.specs.AtWork.{IsAtWorkWith}
use Rattle.solo_transaction.specs.NewRanges.{HasWrittenNew}

module _ {M : Type 0} (o : Opening) (at : M → View → Type 0) (lane : Lane M) (blocks : BlockLists) (v : View) (all : IsAtWorkWith o at lane blocks v) (id : Oid) (off : ℕ) (bytes : List ℕ) (range : HasNewRange v id off (length bytes)) where
  abbrev own : HasOwnRange v id off (length bytes)
  own = words.own o at lane blocks v all id off (length bytes) range

  abbrev op : Operation
  op = Write id off bytes

  -- behind the bytes, and behind the write that is told
  abbrev w : View
  w = any.w v (works_in_pool o at lane blocks v all) id off bytes own op

  pub new_write_may_be_made : Ready v (writes_range id off bytes v)
  unfolding writes_range
  new_write_may_be_made = any.own_write_may_be_made v (works_in_pool o at lane blocks v all) id off bytes own op

  pub new_writes_first : Ready v (writes (id.off + off) bytes v)
  new_writes_first = any.own_writes_first v (works_in_pool o at lane blocks v all) id off bytes own op

  pub new_write_stops : (new : View → Type 0) → Stops new v (writes_range id off bytes v) → StopsUndrawn new v (writes_range id off bytes)
  unfolding writes_range
  new_write_stops new stops = any.own_write_stops v (works_in_pool o at lane blocks v all) id off bytes own op new stops

  written : AreBytes bytes → WritesNewBytes v w id off bytes
  written are = record {
    tells = any.tells_so v (works_in_pool o at lane blocks v all) id off bytes own op;
    logs = any.logs_so v (works_in_pool o at lane blocks v all) id off bytes own op;
    range = range;
    are_bytes = are;
    written = λ i outside. any.words_so v (works_in_pool o at lane blocks v all) id off bytes own op i;
  }

  keeps : (locks : List HeldLock) → Keeps locks blocks v → WritesNewBytes v w id off bytes → Keeps locks blocks w
  keeps locks before told =
      keeps_told v w (any.heads_so v (works_in_pool o at lane blocks v all) id off bytes own op) locks blocks before (any.table_so v (works_in_pool o at lane blocks v all) id off bytes own op) (any.zone_locks_so v (works_in_pool o at lane blocks v all) id off bytes own op)
      (blocks_once_more v w op None told.tells.keeps.entries told.tells.call) op None told.tells.keeps.entries told.tells.call (refl, refl) (λ root. tt)
      (new_write_stays v w id off bytes all.has_reserved all.work.under_way.has told)

  pub new_write_is_made : AreBytes bytes → (next : Lane M) → HasSameFields lane next → next.records ≡ lane.records → at next.memory w → HasWrittenNew o at next blocks v id off bytes
  unfolding writes_range
  new_write_is_made are next fields records seen =
      let told : WritesNewBytes v w id off bytes = written are in
      let sequence = any.sequence v (works_in_pool o at lane blocks v all) id off bytes own op in
      let work = any.own_write_at_work o at lane blocks v all id off bytes own op next fields records seen refl tt (new_write_goes_on v w id off lane.level bytes all.work.level all.work.under_way told) in
      record {
        ready = new_write_may_be_made;
        draws = any.write_draws v (works_in_pool o at lane blocks v all) id off bytes own op;
        works =
            subst (IsAtWorkWith o at next blocks) (sym sequence.1)
            (with_lists o at next blocks w work (keeps next.locks.items (subst (λ (ls : List HeldLock). Keeps ls blocks v) (ap (λ ls. ls.items) (sym fields.locks)) (kept_of o at lane blocks v all)) told));
        written = subst (λ (z : View). WritesNewBytes v z id off bytes) (sym sequence.1) told;
      }
