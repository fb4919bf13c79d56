-- A lane that gave its locks back may reclaim what it has, and rests behind that.
use Rattle.std.proofs.Common.{◌≡◌, inl, inr, ℕ, List, [], map, length, Option, None, Some, Result, Err, true, ◌<◌, arith, refl, sym, ap, ◌∙◌, subst}
use Rattle.std.specs.List.{All}
use Rattle.std.specs.Option.{ForSome}
use Rattle.std.specs.Result.{is_ok}
use Rattle.std.proofs.lemmas.Bool.{false≢true}
use Rattle.pm_objects.specs.declared.refusal.Refusal.{Refusal}
use Rattle.std.proofs.lemmas.List.Elements.{All-weaker}
use Rattle.pm_image.specs.declared.block.Block.{Block}
use Rattle.solo_lock.specs.Locking.{gives}
use Rattle.solo_lock.specs.Resting.{IsAtRest}
use Rattle.solo_reclaim.specs.KeptBlocks.{Keeps}
use Rattle.solo_reclaim.specs.KnownTaken.{KnowsTaken}
use Rattle.solo_reclaim.specs.Reclaims.{HasLeft, HasReclaimed, MayReclaim}
use Rattle.solo_tx.specs.Ending.{IsClosedBy}
use Rattle.solo_view.specs.Founds.{IsAlone}
use Rattle.solo_view.specs.View.{View}
use Rattle.solo_world.specs.Lanes.{last_number_of, span_of}
use Rattle.solo_world.specs.declared.lane.HeldLock.{HeldLock}
use Rattle.solo_world.specs.declared.lane.Lane.{Lane}
use Rattle.solo_transaction.specs.Ending.{HasEndedWith, MayEnd, unlocked_view}

-- an end that is done was not refused
pub not_refused : {T : Type 0} {X : Refusal → Type 0} (refusal : Option Refusal) (result : Result T Refusal) → ((r : Refusal) → refusal ≡ Some r → (result ≡ Err r) × X r) → is_ok result ≡ true → refusal ≡ None
not_refused None result refused ok = refl
not_refused (Some r) result refused ok = absurd (false≢true (sym (ap is_ok (refused r refl).0) ∙ ok))

module _ {M : Type 0} (at : M → View → Type 0) (before lane : Lane M) (v : View) (may : MayEnd at before v) (locks : List HeldLock) (kept : List Block) (closed : IsClosedBy at lane v (gives locks)) where
  abbrev given : View
  given = unlocked_view v locks

  abbrev plain : View
  plain = record v { locks = []; known = given.known }

  -- the locks tell nothing of what is taken
  taken_plain : KnowsTaken plain
  taken_plain = let t = may.taken in record { pages = t.pages; zone_count = t.zone_count; bits = t.bits; apart = t.apart; once = t.once }

  pub may_reclaim : MayReclaim given lane.shape
  may_reclaim = record {
    rests = record {
      alone = subst IsAlone (sym closed.same) may.alone;
      idle = ap (λ (z : View). z.log) closed.same ∙ may.behind.log;
      drained = ap (λ (z : View). z.changes) closed.same ∙ may.behind.drained;
      free = ap (λ (z : View). z.locks) closed.same;
      taken = subst KnowsTaken (sym closed.same) taken_plain;
    };
    of_shape = closed.rests.seen.shape;
  }

  -- it has what it keeps still, with its locks given back
  kept_plain : (block : Block) → Keeps v block → Keeps plain block
  kept_plain block (inl run) = inl (record { chunk = run.chunk; lines = run.lines; index = run.index; in_pool = run.in_pool; low = run.low; described = run.described; reserved = run.reserved; is_block = run.is_block })
  kept_plain block (inr chunks) = inr (record {
    zone = chunks.zone;
    first = chunks.first;
    count = chunks.count;
    in_pool = chunks.in_pool;
    low = chunks.low;
    fits = chunks.fits;
    unused = λ j near. let t = chunks.unused j near in record { reserved = t.reserved; undescribed = t.undescribed };
    is_block = chunks.is_block;
  })

  pub keeps_given : All (Keeps v) kept → All (Keeps given) kept
  keeps_given keeps = subst (λ (u : View). All (Keeps u) kept) (sym closed.same) (All-weaker (Keeps v) (Keeps plain) kept_plain kept keeps)

  module _ (last : M) (reclaimed : HasReclaimed (at last) given (HasLeft kept)) where
    abbrev w : View
    w = reclaimed.view

    same : w ≡ record given { run_words = w.run_words; zone_words = w.zone_words; known = w.known; reserved = w.reserved; freed = w.freed; seen = w.seen }
    same = reclaimed.reclaims.same

    drained : w.changes ≡ []
    drained = ap (λ (z : View). z.changes) same ∙ (ap (λ (z : View). z.changes) closed.same ∙ may.behind.drained)

    rests : IsAtRest at (record lane { memory = last }) w
    rests =
        let r = closed.rests in
        record {
          seen = record {
            memory = reclaimed.there;
            pool = ap (λ (z : View). z.pool) same ∙ r.seen.pool;
            shape = record { lanes = ap (λ (z : View). z.lanes) same ∙ r.seen.shape.lanes; zones = ap (λ (z : View). z.zones) same ∙ r.seen.shape.zones; size = ap (λ (z : View). length z.words) same ∙ r.seen.shape.size };
            locks = r.seen.locks ∙ sym (ap (λ (z : View). z.locks) same);
            records = r.seen.records ∙ sym (ap (λ (z : View). map span_of z.log.records) same);
            drawn = subst (λ (n : Option ℕ). ForSome lane.drawn (λ number. n ≡ Some number)) (sym (ap (λ (z : View). z.number) same)) r.seen.drawn;
            last = r.seen.last ∙ sym (ap (λ (z : View). last_number_of z.entries) same);
          };
          answered = r.answered;
          unharmed = r.unharmed;
          unstopped = r.unstopped;
          unlisted = r.unlisted;
          fresh = inl (ap (λ (z : View). z.log) same ∙ (ap (λ (z : View). z.log) closed.same ∙ may.behind.log));
          undrained = inl drained;
          free = ap (λ (z : View). z.locks) same ∙ r.free;
          place = record {
            lane = subst (λ k. k < w.lanes) (sym (ap (λ (z : View). z.lane) same)) (subst (λ k. given.lane < k) (sym (ap (λ (z : View). z.lanes) same)) r.place.lane);
            few = subst (λ k. k < 32) (sym (ap (λ (z : View). z.lane) same)) r.place.few;
            inside = (let lane_same = ap (λ (z : View). z.lane) same in let long = ap (λ (z : View). length z.words) same in let inside = r.place.inside in omega (arith, lane_same, long, inside));
          };
        }

    pub ended_with : HasEndedWith at (record lane { memory = last }) v locks kept
    ended_with = record { ready = closed.ready; given = closed.same; view = w; reclaims = reclaimed.reclaims; rests = rests; drained = drained; left = reclaimed.holds }
