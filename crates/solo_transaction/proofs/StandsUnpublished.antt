-- What a lane has reserved and pending stands behind its transaction's commit where that has no entry: the number is drawn, and the records are ended, if there are any.
use Rattle.std.proofs.Common.{◌≡◌, inl, ℕ, false, Contains, List, [], ◌∷◌, ◌++◌, map, None, slice_index, refl, sym, ap, ◌∙◌, subst}
use Rattle.std.proofs.lemmas.Bool.{false≢true}
use Rattle.pm_image.specs.Blocks.{descriptor_word}
use Rattle.solo_model.specs.Actions.{Reservation}
use Rattle.pm_objects.specs.declared.calls.Operation.TheVariants.{Commit}
use Rattle.solo_view.proofs.Sequences.{after_all-append}
use Rattle.solo_view.specs.Area.{area_word, is_in_area}
use Rattle.solo_view.specs.Log.{Log, Recorded, log_drawn}
use Rattle.solo_view.specs.Log.Phase.{Idle, Open}
use Rattle.solo_view.specs.Steps.Step.{Draw, Tell}
use Rattle.solo_view.specs.View.{Told, View}
use Rattle.solo_view.specs.Views.{after, after_all}
use Rattle.solo_world.specs.Lanes.{span_of}
use Rattle.solo_world.specs.Sequences.{in_turn, nothing, one, settles}
use Rattle.solo_world.specs.declared.lane.Span.{Span}
use Rattle.solo_crash.specs.CallBlocks.{reserved_object}
use Rattle.solo_crash.specs.Operations.{KeepsWords, Tells}
use Rattle.solo_crash.specs.Pending.{pending_in}
use Rattle.solo_crash.specs.Reserving.{HasReserved}
use Rattle.solo_crash.proofs.StillReserved.{HasSameHeads}
use Rattle.solo_undo.proofs.Areas.{generation_in_area}
use Rattle.solo_undo.proofs.Restored.{open_settled}
use Rattle.solo_undo.proofs.Retired.{retire_drawn}
use Rattle.solo_undo.proofs.Settled.{settle_lawful}
use Rattle.solo_undo.proofs.Staying.{same_settled}
use Rattle.solo_undo.proofs.Written.{settled_works}
use Rattle.solo_undo.specs.Sequences.{retires}
use Rattle.solo_undo.specs.Working.{HasArea, IsRetired, IsSameCall, IsSettled, IsWorking}
use Rattle.solo_tx.proofs.BorneOut.{chunk_words_outside, root_outside, same_heads_outside}
use Rattle.solo_tx.specs.Sequences.{commits, decides, decides_all, ends_call, retires_any}
use Rattle.solo_transaction.proofs.GoingWith.{lies_still, lies_by, ReservesSame}
use Rattle.solo_transaction.proofs.RestingViews.{LeavesStanding}
use Rattle.solo_transaction.proofs.StandsGivenUp.{plain_heads, plain_knows, plain_leaves}
use Rattle.solo_transaction.specs.AtWork.{LiesInReserved}

module _ (v : View) (working : IsWorking v) (no_entries : v.log.entries ≡ []) (n : ℕ) where
  abbrev m : View
  m = after_all v (settles v)

  -- the commit told, and the number drawn
  abbrev pub told_plainly : View
  told_plainly = after m (Tell Commit None)

  abbrev d : View
  d = after told_plainly (Draw n)

  settled : IsSettled v m
  settled = (settle_lawful v).1

  call : IsSameCall v m
  call = same_settled v m settled

  log_m : m.log ≡ v.log
  log_m = ap (λ (x : View). x.log) settled ∙ open_settled v.changes v [] [] working.is_open

  words_m : (i : ℕ) → slice_index m.words i ≡ slice_index v.words i
  words_m i = ap (λ (x : View). slice_index x.words i) settled

  pub plainly_tells : Tells v told_plainly Commit None
  plainly_tells =
      let lane = call.lane in
      record {
        keeps = record { lanes = lane.lanes; zones = lane.zones; pool = lane.pool; lane = lane.lane; entries = call.entries; known = call.remembers };
        locks = call.locks;
        call = ap (λ (told : List Told). told ++ record { operation = Commit; reply = None } ∷ []) call.call;
      }

  pub plainly_words : KeepsWords v told_plainly
  plainly_words = record { words = λ i outside. words_m i }

  pub plainly_heads : HasSameHeads v told_plainly
  plainly_heads = same_heads_outside v told_plainly working.area.lane call.lane.lanes call.lane.zones call.reserved (λ i outside. words_m i)

  none : told_plainly.log.entries ≡ []
  none = ap (λ (log : Log). log.entries) log_m ∙ no_entries

  area : HasArea d
  area = let a = (settled_works v m working settled).area in record { lane = a.lane; few = a.few; inside = a.inside; below = a.below }

  abbrev open_log : List Recorded → Log
  open_log records = record { phase = Open [] []; records = records; entries = [] }

  log_of : (records : List Recorded) → v.log.records ≡ records → m.log ≡ open_log records
  log_of records are =
      log_m
      ∙ (ap (λ phase. record v.log { phase = phase }) working.is_open
      ∙ (ap (λ records. record v.log { phase = Open [] []; records = records }) are
      ∙ ap (λ entries. record v.log { phase = Open [] []; records = records; entries = entries }) no_entries))

  module _ (has : HasReserved told_plainly) (within : (r : Reservation) → Contains (pending_in told_plainly).reserved r → LiesInReserved told_plainly (reserved_object r)) where
    -- no word that was reserved is the generation's
    other : (i : ℕ) → is_in_area told_plainly.lane i ≡ false → i ≡ area_word d.lane → ⊥
    other i outside same = false≢true (sym outside ∙ (ap (is_in_area d.lane) same ∙ generation_in_area d.lane))

    retired_leaves : (w : View) → IsRetired Idle d w → LeavesStanding told_plainly w
    retired_leaves w retired = record {
      lanes = retired.call.lane.lanes;
      zones = retired.call.lane.zones;
      lane = retired.call.lane.lane;
      fresh = inl retired.log;
      number = n;
      entries = retired.call.entries;
      locks = retired.call.locks;
      known = λ r i there reads. retired.call.remembers i (plain_knows told_plainly n none i ((has.each r there).made.known i reads));
      words = λ r i there reads. retired.others i (other i ((has.each r there).made.outside i reads));
      within = λ r there. lies_by d w same_w (reserved_object r) (lies_still told_plainly d (plain_heads told_plainly n none) (reserved_object r) (within r there));
    } where
      same_w : ReservesSame d w
      same_w = record {
        lanes = retired.call.lane.lanes;
        zones = retired.call.lane.zones;
        reserved = retired.call.reserved;
        described = λ c in_pool. retired.others (descriptor_word d.lanes c) (other (descriptor_word d.lanes c) (chunk_words_outside d.lane d.lanes c area.lane));
      }

    abbrev drawn_log : List Recorded → Log
    drawn_log records = log_drawn (Open [] []) (open_log records)

    by_records : (records : List Recorded) → v.log.records ≡ records → LeavesStanding told_plainly (after_all d (retires_any (map span_of records) d))
    unfolding retires_any nothing after_all
    by_records [] are = plain_leaves told_plainly n none (ap (λ (log : Log). log_drawn log.phase log) (log_of [] are)) has within
    by_records (r ∷ records) are =
        let log_is : d.log ≡ drawn_log (r ∷ records) = ap (λ (log : Log). log_drawn log.phase log) (log_of (r ∷ records) are) in
        retired_leaves (after_all d (retires d)) (retire_drawn d area (ap (λ (log : Log). log.phase) log_is) refl (ap (λ (x : View). x.changes) settled) (ap (λ (log : Log). log.entries) log_is)).1

    -- the steps of such a commit, in their parts
    ends : (spans : List Span) → after_all v (commits spans [] n v) ≡ after_all d (retires_any spans d)
    unfolding commits decides_all decides ends_call in_turn one after_all
    ends spans = after_all-append v (settles v) (decides spans n m)

    pub unpublished_leaves : LeavesStanding told_plainly (after_all v (commits (map span_of v.log.records) [] n v))
    unpublished_leaves = subst (LeavesStanding told_plainly) (sym (ends (map span_of v.log.records))) (by_records v.log.records refl)
