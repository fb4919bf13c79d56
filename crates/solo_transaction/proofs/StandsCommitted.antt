-- What a lane has reserved and pending stands behind its transaction's commit: no entry of its log is of a word of that, nor of what describes its blocks, and the lane has these still.
use Rattle.std.proofs.Common.{◌≡◌, ⊎_elim, inl, ℕ, ◌+◌, ◌*◌, true, false, Contains, List, ◌++◌, slice_index, refl, sym, ap, ◌∙◌, subst, arith}
use Rattle.std.specs.List.{filter, list_any}
use Rattle.std.proofs.lemmas.Bool.{cases_Bool, cond-false, cond-true}
use Rattle.pm_header.specs.declared.header.Header.{Header}
use Rattle.pm_image.specs.Blocks.{descriptor_word}
use Rattle.pm_image.specs.Reads.{ReadsBlock}
use Rattle.solo_model.specs.Actions.{Action, Reservation}
use Rattle.pm_objects.specs.declared.calls.Operation.{Operation}
use Rattle.pm_objects.specs.declared.pool.PoolView.{PoolView}
use Rattle.pm_record.specs.declared.redo.Redo.{Redo}
use Rattle.solo_view.specs.declared.occ.Occ.{Occ}
use Rattle.solo_view.specs.declared.occ.Occ.TheVariants.{Zone}
use Rattle.solo_view.specs.Area.{is_in_area}
use Rattle.solo_view.specs.Held.{is_held}
use Rattle.solo_view.specs.Steps.{Step}
use Rattle.solo_view.specs.View.{Taken, View}
use Rattle.solo_view.specs.Views.{after_all, changes_heap, has_bit, reserves, unallocated}
use Rattle.solo_world.proofs.Replays.{made_final-other}
use Rattle.solo_world.specs.Entries.{is_entered}
use Rattle.solo_world.specs.Opening.{Opening}
use Rattle.solo_world.specs.Sequences.{Ready}
use Rattle.solo_crash.specs.CallBlocks.{NewObject, block_of, blocks_in, reserved_object}
use Rattle.solo_crash.specs.HeapChanges.{AreDisjoint, run_at}
use Rattle.solo_crash.specs.Pending.{pending_in}
use Rattle.solo_crash.specs.Publishing.{Published}
use Rattle.solo_crash.specs.Reserving.{HasReserved, block_reserved}
use Rattle.solo_crash.proofs.Includes.{kept_member}
use Rattle.solo_epoch.specs.Epochs.{IsPublishing}
use Rattle.solo_epoch.proofs.HeldBehindLog.{drawn_entries}
use Rattle.solo_epoch.proofs.ReservedAside.{chunk_bit_stays, chunk_descriptor_unentered, run_bit_stays, run_descriptor_unentered, word_unentered}
use Rattle.solo_made.specs.Made.{BlockLists}
use Rattle.solo_tx.proofs.BorneOut.{chunk_words_outside}
use Rattle.solo_tx.specs.Sequences.{performs_logged}
use Rattle.solo_transaction.proofs.EndedLog.{at_end, leads_tail, publishes_tail, publishing}
use Rattle.solo_transaction.proofs.LogViews.{call_l, number_view, performed, performed_view, told_view}
use Rattle.solo_transaction.proofs.NewWords.{IsInBlock}
use Rattle.solo_transaction.proofs.RestingViews.{LeavesStanding, lies_by, lies_for, lies_held, read_in_block}
use Rattle.solo_transaction.specs.AtWork.{LiesInReserved}
use Rattle.solo_transaction.specs.Published.{HasOwnCounts, LogsCall, logs_call}

module _ {o : Opening} {header : Header} {pool : PoolView} {start v : View} {steps : List Step} {op : Operation} {actions : List Action} {blocks : BlockLists} {entries : List Redo}
    (c : LogsCall o header pool start steps op actions blocks v entries) (n : ℕ) (ready : Ready v (logs_call op entries n v)) where
  abbrev u : View
  u = told_view v op entries

  abbrev d : View
  d = number_view v op entries n

  abbrev w : View
  w = performed_view v op entries n

  module _ (all : List Published) (call : IsPublishing o header pool u n all w) (has : HasReserved u) (r : Reservation) (there : Contains (pending_in u).reserved r) (lies : LiesInReserved u (reserved_object r)) where
    abbrev object : NewObject
    object = reserved_object r

    made_apart : (m : NewObject) → Contains ((blocks_in u).made ++ (blocks_in u).dropped) m → AreDisjoint (block_of object) (block_of m)
    made_apart m made = has.apart_made r m there made

    -- as the number is drawn
    lies_d : LiesInReserved d object
    lies_d = lies_by u d object refl refl (λ run inside. (refl, run_bit_stays o header pool u n all w call object (lies_for u object lies) made_apart run))
        (λ its j near. (refl, chunk_bit_stays o header pool u n all w call object (lies_for u object lies) made_apart its j near)) lies

    -- a word that no entry is of stays
    stays : (i : ℕ) → is_in_area u.lane i ≡ false → is_entered u.log.entries i ≡ false → slice_index w.words i ≡ slice_index u.words i
    stays i outside none = (performed c n).words i outside ∙ made_final-other d.log.entries i (slice_index d.words i) (ap (λ fs. is_entered fs i) (drawn_entries u n call.draws) ∙ none)

    described : (chunk : ℕ) → is_entered u.log.entries (descriptor_word u.lanes chunk) ≡ false → slice_index w.words (descriptor_word u.lanes chunk) ≡ slice_index u.words (descriptor_word u.lanes chunk)
    described chunk = stays (descriptor_word u.lanes chunk)
        (chunk_words_outside u.lane u.lanes chunk (let s = (call_l c).lane in let low = c.working.area.lane in let lane = s.lane in let lanes = s.lanes in omega (arith, low, lane, lanes)))

    still : (at : Occ) (bit : ℕ) → reserves d at bit ≡ true → reserves w at bit ≡ true
    still at bit had = ap (list_any (has_bit at bit)) (performed c n).call.reserved ∙ had

    lies_w : LiesInReserved w object
    lies_w = lies_by u w object (performed c n).call.lane.lanes (performed c n).call.lane.zones
        (λ run inside. (
          described run.chunk (run_descriptor_unentered o header pool u n all w call object (lies_for u object lies) made_apart run),
          still (run_at u.lanes run.chunk) run.index (run_bit_stays o header pool u n all w call object (lies_for u object lies) made_apart run),
        ))
        (λ its j near. (
          described (64 * its.zone + (its.first + j)) (chunk_descriptor_unentered o header pool u n all w call object (lies_for u object lies) made_apart its j near),
          still (Zone its.zone) (its.first + j) (chunk_bit_stays o header pool u n all w call object (lies_for u object lies) made_apart its j near),
        ))
        lies

    -- a word of its block
    module _ (i : ℕ) (reads : ReadsBlock (slice_index u.words) (block_reserved r) i) where
      word : IsInBlock object i
      word = read_in_block u object (has.each r there).made i reads

      word_stays : slice_index w.words i ≡ slice_index u.words i
      word_stays = stays i ((has.each r there).made.outside i reads) (word_unentered o header pool u n all w call object (lies_for u object lies) made_apart i (record { from = word.from; to = word.to }))

      knew : Contains u.known i
      knew = (has.each r there).made.known i reads

      known_d : Contains d.known i
      known_d = ⊎_elim
          (λ (changes : changes_heap u ≡ true).
          let left : d.reserved ≡ unallocated u = cond-true (changes_heap u) (unallocated u) u.reserved changes in
          let held : is_held (record u { reserved = unallocated u }) i ≡ true = ap (λ (ts : List Taken). is_held (record u { reserved = ts }) i) (sym left) ∙ lies_held d object lies_d i word in
          subst (λ (known : List ℕ). Contains known i) (sym (cond-true (changes_heap u) (filter (is_held (record u { reserved = unallocated u })) u.known) u.known changes))
          (kept_member (is_held (record u { reserved = unallocated u })) u.known i knew held))
          (λ (plain : changes_heap u ≡ false).
          subst (λ (known : List ℕ). Contains known i) (sym (cond-false (changes_heap u) (filter (is_held (record u { reserved = unallocated u })) u.known) u.known plain)) knew)
          (cases_Bool (changes_heap u))

      known_w : Contains w.known i
      known_w = (performed c n).call.remembers i known_d

  -- so all of it stands
  pub published_leaves : HasOwnCounts (after_all v (logs_call op entries n v)) → HasReserved u → ((r : Reservation) → Contains (pending_in u).reserved r → LiesInReserved u (reserved_object r)) → LeavesStanding u w
  published_leaves own has lies =
      let counts : HasOwnCounts w = subst HasOwnCounts (at_end c n ready) own in
      let p = publishing c n ready (performs_logged entries d) w (leads_tail c n ready) (publishes_tail c n ready) counts.within counts.numbered in
      record {
        lanes = (performed c n).call.lane.lanes;
        zones = (performed c n).call.lane.zones;
        lane = (performed c n).call.lane.lane;
        fresh = inl (performed c n).log;
        number = n;
        entries = (performed c n).call.entries;
        locks = (performed c n).call.locks;
        known = λ r i there reads. known_w p.0 p.1 has r there (lies r there) i reads;
        words = λ r i there reads. word_stays p.0 p.1 has r there (lies r there) i reads;
        within = λ r there. lies_w p.0 p.1 has r there (lies r there);
      }
