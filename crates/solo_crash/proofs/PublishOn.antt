-- A call goes on where it publishes all that is pending, as the plain model's transaction: what is to be freed is gone, what is reserved comes to be where it stands
-- by the lane's words, and the words that are to be set wait for the commit.
use Rattle.std.proofs.Common.{◌≡◌, ℕ, ◌≤◌, List, length, None, refl, sym, ◌∙◌, ap, subst}
use Rattle.std.specs.List.{All, Contains}
use Rattle.std.proofs.lemmas.List.Elements.{All-weaker}
use Rattle.pm_header.specs.declared.header.Header.{Header}
use Rattle.pm_layout.specs.Sizes.{class_of}
use Rattle.pm_objects.specs.declared.calls.Operation.TheVariants.{Publish}
use Rattle.pm_objects.specs.declared.history.TxErr.TheVariants as error
use Rattle.pm_objects.specs.declared.pool.PoolView.{PoolView}
use Rattle.pm_image.specs.Blocks.{blocks}
use Rattle.pm_image.specs.Contents.{size_in}
use Rattle.solo_model.specs.declared.stage.Stage.TheVariants as stage
use Rattle.solo_model.specs.Actions.{Pending, Reservation}
use Rattle.solo_model.specs.Answers.{IsBeside, MayStand}
use Rattle.solo_model.specs.Places.{CanHold}
use Rattle.solo_model.specs.Transaction.{Transaction, all_made, all_released, given_over}
use Rattle.solo_view.specs.Log.{Recorded}
use Rattle.solo_view.specs.View.{View}
use Rattle.solo_crash.specs.CallBlocks.{MayPrecede, blocks_in, object_made, reserved_object}
use Rattle.solo_crash.specs.Held.{HoldsPool}
use Rattle.solo_crash.specs.Locks.{AreSameLocks}
use Rattle.solo_crash.specs.OnActions.{CanSetIn, PublishesIn}
use Rattle.solo_crash.specs.OpenCall.{ComesTo, HasMade, IsBefore, IsChanged, IsPerformable, IsUnderWay, TracksBlocks, call_words, locks_of, words_recorded}
use Rattle.solo_crash.specs.Operations.{KeepsKnown}
use Rattle.solo_crash.specs.Pending.{pending_in, sets_in}
use Rattle.solo_crash.specs.Reserving.{HasReserved}
use Rattle.solo_crash.proofs.CallBlocks.{tells_of_root}
use Rattle.solo_crash.proofs.CallWords.{locks_kept, same_lanes, same_zones}
use Rattle.solo_crash.proofs.Continued.{answers_value, still_under_way, tracks_more, two_same, Continues}
use Rattle.solo_crash.proofs.Following.{Follows}
use Rattle.solo_crash.proofs.KeptWords.{keeps_known, known_goes_back, same_found, same_known_words}
use Rattle.solo_crash.proofs.MadeInTurn.{blocks_alone}
use Rattle.solo_crash.proofs.NewPlaces.{beside_base}
use Rattle.solo_crash.proofs.Passing.{WantsNone}
use Rattle.solo_crash.proofs.PublishFound.{Publishes, performs_one, publish_passes, publishes_open}
use Rattle.solo_crash.proofs.PublishedBlocks.{IsNewTo, beside_before, changed, has, lies_before, stand, tracks, unfound}

asks_none : WantsNone Publish
asks_none = record { no_wants = refl; no_begin = refl; no_alloc = refl; no_free = refl; no_put = refl }

module _ (v next : View) (level : ℕ) (some_level : 1 ≤ level) (under_way : IsUnderWay v level stage.Work error.None) (reserved : HasReserved v) (publishes : PublishesIn v next) where
  abbrev p : Pending
  p = pending_in v

  keeps : KeepsKnown v next
  keeps = keeps_known v next publishes.words

  next_has : HasMade next
  next_has = has v next under_way.has reserved publishes.tells publishes.words publishes.frees

  module _ (w : ℕ → ℕ) (header : Header) (pool : PoolView) (holds : HoldsPool w v.lanes v.zones header pool) (same_id : v.pool ≡ header.id) (before : IsBefore v w) (may : MayPrecede pool next)
      (c : ComesTo v w header pool level stage.Work error.None) where
    abbrev given : Transaction
    given = given_over c.tx

    abbrev last : Pending → Transaction
    last q = all_made q.reserved (all_released q.frees given)

    start : Follows (object_made v) c.base given (blocks_in v)
    start = record {
      fixed = c.changed.fixed;
      rising = c.changed.rising;
      new = c.changed.new;
      long = λ n there. (under_way.has.each n there).long;
      gone = c.changed.gone;
      others = c.changed.others;
      unfound = c.unfound;
      tracks = tracks_more c.tx given refl refl refl c.tracks;
      apart = lies_before v next under_way.has reserved publishes.tells publishes.words publishes.frees;
    }

    abbrev New : Reservation → Type 0
    New r = IsNewTo c.base pool r

    no_room_taken : (r : Reservation) → Contains p.reserved r → All (IsBeside (length r.bytes) r.off) pool.objects
    no_room_taken r there = beside_before v next under_way.has reserved publishes.tells publishes.words publishes.frees pool may r there

    are_new : (r : Reservation) → Contains p.reserved r → New r
    are_new r there = record {
      beside = beside_base v (reserved_object r) level under_way (λ m new. reserved.apart_made r m there new) w header pool holds (no_room_taken r there) c;
      before = no_room_taken r there;
      place = two_same (λ (lanes zones : ℕ). CanHold lanes zones (class_of (length r.bytes)) r.off) v.lanes c.base.lanes v.zones c.base.zones
          (sym (same_lanes v w header c.base c.tx c.holds c.changed) ∙ ap (λ (x : PoolView). x.lanes) c.changed.fixed)
          (sym (same_zones v w header c.base c.tx c.holds c.changed) ∙ ap (λ (x : PoolView). x.zones) c.changed.fixed)
          (reserved.each r there).place;
    }

    all_stand : MayStand c.tx.actions.reserved (all_released c.tx.actions.frees given)
    all_stand = subst (λ (q : Pending). MayStand q.reserved (all_released q.frees given)) (sym c.actions)
        (stand v next under_way.has reserved publishes.tells publishes.words publishes.frees c.base pool given start c.before refl are_new)

    publish_continues : Continues v next w header Publish None level c.tx
    publish_continues =
        let of : Publishes v w pool.root c.tx = publishes_open v w header pool level some_level under_way holds same_id before c in
        let same : call_words next w ≡ call_words v w = same_known_words v next publishes.logs.records keeps under_way.outside w in
        let alone = blocks_alone c.tx.actions.frees c.tx.actions.reserved given in
        record {
          answers = answers_value c.tx Publish None refl asks_none all_stand
              (publish_passes v w pool.root c.tx of under_way.has publishes.in_time publishes.frees publishes.each publishes.room (tells_of_root v next Publish None publishes.tells.keeps.entries publishes.tells.call pool may)) refl;
          base = c.base;
          holds = subst (λ (f : ℕ → ℕ). HoldsPool f v.lanes v.zones header c.base) (sym same) c.holds;
          changed = subst (λ (q : Pending). IsChanged next c.base (last q).pool) (sym c.actions) (changed v next under_way.has reserved publishes.tells publishes.words publishes.frees c.base pool given start c.before refl are_new);
          unfound = unfound v next under_way.has reserved publishes.tells publishes.words publishes.frees c.base pool given start c.before refl are_new;
          tracks = subst (λ (q : Pending). TracksBlocks (last q) (blocks_in next)) (sym c.actions) (tracks v next under_way.has reserved publishes.tells publishes.words publishes.frees c.base pool given start c.before refl are_new);
          before = ap (λ (x : Transaction). x.before) alone;
          locks = subst (λ (x : Transaction). AreSameLocks x.locks (locks_of next)) (sym alone) (locks_kept c.tx v next publishes.tells.locks c.locks);
          recorded = ap (λ (x : Transaction). x.recorded) alone ∙ c.recorded ∙ ap words_recorded (sym publishes.logs.records);
          records = ap (λ (x : Transaction). x.records) alone ∙ c.records ∙ ap (λ (rs : List Recorded). length rs) (sym publishes.logs.records);
          levels = ap (λ (x : Transaction). x.level) alone ∙ c.levels;
          stands = ap (λ (x : Transaction). x.stage) alone;
          fails = ap (λ (x : Transaction). x.error) alone;
          moved = ap (λ (x : Transaction). x.moved) alone;
          performable = subst (All (IsPerformable v w)) (ap (λ (q : Pending). q.sets) (sym c.actions)) (All-weaker (CanSetIn v) (IsPerformable v w) (performs_one v w pool.root c.tx of under_way.has) (sets_in v) publishes.each);
          blocks_stay = ap (λ (f : ℕ → ℕ). blocks f v.lanes v.zones) same;
          sizes_stay = λ block there. ap (λ (f : ℕ → ℕ). size_in f block) same;
        }

pub publish_goes_on : (v next : View) (level : ℕ) → 1 ≤ level → IsUnderWay v level stage.Work error.None → HasReserved v → PublishesIn v next → IsUnderWay next level stage.Work error.None
publish_goes_on v next level some under_way reserved publishes =
    still_under_way v next level level Publish None under_way publishes.tells
    (known_goes_back v next publishes.tells.keeps (same_found v next publishes.tells.locks) publishes.logs (keeps_known v next publishes.words) under_way.outside under_way.under)
    (next_has v next level some under_way reserved publishes)
    (λ w header pool holds same_id before next_before may c. publish_continues v next level some under_way reserved publishes w header pool holds same_id before may c)
