-- What a lane has bears out what its call told of the heap, behind steps that tell nothing of it, and where the call is given up.
use Rattle.std.proofs.Common.{◌≡◌, ⊎_elim, inl, inr, ℕ, zero, suc, ◌+◌, ◌-◌, ◌*◌, ◌/◌, ◌<◌, ◌&&◌, true, false, not, leb, ltb, List, Contains, slice_index, Option, Some, None, refl, sym, ◌∙◌, ap, subst, arith}
use Rattle.std.specs.Option.{is_some}
use Rattle.std.proofs.lemmas.Bool.{and_from, and_parts, false_from_ne_true, leb-true}
use Rattle.std.proofs.lemmas.List.Folds.{Any-from_list_any}
use Rattle.pm_image.specs.Blocks.{chunk_word, descriptor_word}
use Rattle.solo_model.specs.Answers.{error_for}
use Rattle.pm_objects.specs.declared.calls.Operation.{Operation}
use Rattle.pm_objects.specs.declared.calls.Operation.TheVariants.{Abort}
use Rattle.pm_objects.specs.declared.history.TxErr.{TxErr}
use Rattle.pm_objects.specs.declared.history.Value.{Value}
use Rattle.solo_view.specs.Area.{area_word, is_in_area}
use Rattle.solo_view.specs.Blocks.{chunk_of, descriptor_word as lane_descriptor, is_chunk, is_run, zone_of, zone_page}
use Rattle.solo_view.specs.Founds.{IsAlone}
use Rattle.solo_view.specs.Held.{is_guarded, is_under, is_under_found}
use Rattle.solo_view.specs.Occupancy.{is_chunk_taken}
use Rattle.solo_view.specs.Steps.Step.{Load}
use Rattle.solo_view.specs.View.{Lock, View}
use Rattle.solo_view.specs.Views.{after}
use Rattle.solo_world.specs.Opening.{Guards, IsChunk, Opening, is_free_chunk}
use Rattle.solo_world.specs.Records.{is_recorded}
use Rattle.solo_world.specs.declared.lane.Lane.{Lane}
use Rattle.solo_world.proofs.Chunks.{chunk_here}
use Rattle.solo_crash.proofs.AloneMemory.{load_words}
use Rattle.solo_crash.proofs.CallWords.{behind_is_outside}
use Rattle.solo_crash.proofs.FoundBlocks.{IsPageOf, page_of_chunk}
use Rattle.solo_crash.proofs.GivenUp.{abort_aborts, gives_up}
use Rattle.solo_crash.proofs.NewRuns.{page_at}
use Rattle.solo_crash.proofs.StillReserved.{HasSameHeads, borne_on, borne_still}
use Rattle.solo_crash.specs.CallBlocks.{KeepsBlocks, LeavesReserved, TellsOfRoot}
use Rattle.solo_crash.specs.Pending.{pending_in}
use Rattle.solo_crash.specs.HeldHistory.{IsEndedCall}
use Rattle.solo_crash.specs.OpenCall.{IsWholeCall, MakesItsStep, WasAborted}
use Rattle.solo_crash.specs.Operations.{TakesBack, Tells}
use Rattle.solo_crash.specs.Reserved.{IsBorneOut}
use Rattle.solo_lock.specs.Finding.{FindsObject}
use Rattle.solo_undo.proofs.Kept.{is_of}
use Rattle.solo_undo.proofs.Lockings.{found_guards, locked_is_plain}
use Rattle.solo_tx.proofs.Objects.{is_found}
use Rattle.solo_tx.specs.AtWork.{IsAtWork}
use Rattle.solo_tx.specs.Ending.{GivesUpBy, MayGiveUp}
use Rattle.solo_tx.specs.Learning.{Looks}
use Rattle.solo_tx.specs.Publishing.{EndsWhole}

-- ---- words outside of the lane's area that stay

pub chunk_words_outside : (lane lanes c : ℕ) → lane < lanes → is_in_area lane (descriptor_word lanes c) ≡ false
chunk_words_outside lane lanes c inside = behind_is_outside lane lanes (descriptor_word lanes c) inside (omega arith)

pub bitmaps_outside : (lane lanes c : ℕ) → lane < lanes → is_in_area lane (chunk_word lanes c) ≡ false
bitmaps_outside lane lanes c inside = behind_is_outside lane lanes (chunk_word lanes c) inside (omega arith)

pub root_outside : (lane : ℕ) → is_in_area lane 64 ≡ false
root_outside lane = false_from_ne_true (is_in_area lane 64) (λ is. let low = leb-true (area_word lane) 64 (and_parts _ _ is).0 in omega (arith, low))

pub same_heads_outside : (v next : View) → v.lane < v.lanes → next.lanes ≡ v.lanes → next.zones ≡ v.zones → next.reserved ≡ v.reserved
    → ((i : ℕ) → is_in_area v.lane i ≡ false → slice_index next.words i ≡ slice_index v.words i) → HasSameHeads v next
same_heads_outside v next inside lanes zones reserved words = record {
  lanes = lanes;
  zones = zones;
  reserved = reserved;
  described = λ c in_pool. words (descriptor_word v.lanes c) (chunk_words_outside v.lane v.lanes c inside);
  bitmaps = λ c in_pool run. words (chunk_word v.lanes c) (bitmaps_outside v.lane v.lanes c inside);
  root = words 64 (root_outside v.lane);
}

-- looks of a lane alone leave it so
looks_same : (m : View) (word x : ℕ) → x ≡ slice_index m.words word → HasSameHeads m (after m (Load word x))
looks_same m word x found =
    let words : (i : ℕ) → slice_index (after m (Load word x)).words i ≡ slice_index m.words i = λ i. ap (λ (ws : List ℕ). slice_index ws i) (load_words m word x found) in
    record { lanes = refl; zones = refl; reserved = refl; described = λ c in_pool. words (descriptor_word m.lanes c); bitmaps = λ c in_pool run. words (chunk_word m.lanes c); root = words 64 }

pub looks_borne : (n : ℕ) (v w : View) → Looks n v w → IsAlone v → IsBorneOut v → IsAlone w × IsBorneOut w
unfolding Looks
looks_borne zero v w is alone borne = subst (λ (u : View). IsAlone u × IsBorneOut u) (sym is) (alone, borne)
looks_borne (suc n) v w t alone borne =
    let before : IsAlone t.0 × IsBorneOut t.0 = looks_borne n v t.0 t.3 alone borne in
    let there : View = after t.0 (Load t.1 t.2) in
    subst (λ (u : View). IsAlone u × IsBorneOut u) (sym t.6)
    (before.0, borne_still t.0 there (looks_same t.0 t.1 t.2 (t.5.1 before.0)) refl refl before.1)

-- ---- a call that is whole

pub whole_ended : (v : View) → EndsWhole v → IsEndedCall v
whole_ended v ends = ⊎_elim (λ (whole : IsWholeCall v). inl whole) (λ (borne : MakesItsStep v × IsBorneOut v). inr (inr borne)) ends

-- ---- a call that is taken back

module _ {M : Type 0} (o : Opening) (at : M → View → Type 0) (lane : Lane M) (v : View) (work : IsAtWork o at lane v) where
  -- no word is recorded that no lock of the lane is of
  unrecorded : (i : ℕ) → ((l : Lock) → Contains v.locks l → is_under i l ≡ true → ⊥) → is_recorded v.log.records i ≡ false
  unrecorded i none = false_from_ne_true (is_recorded v.log.records i) (λ is.
      let t = is_of v.log.records i is in
      let user = work.working.records.each t.slot t.recorded i t.there t.covering in
      let u = Any-from_list_any (λ (l : Lock). l.write && is_some l.block && is_under i l) v.locks user.own in
      let held : Contains v.locks u.1 = (u.0, u.2, u.3) in
      none u.1 held (and_parts (u.1.write && is_some u.1.block) (is_under i u.1) u.4).1)

  pub descriptor_unrecorded : (c : ℕ) → is_recorded v.log.records (descriptor_word v.lanes c) ≡ false
  descriptor_unrecorded c = unrecorded (descriptor_word v.lanes c) (λ l held under.
      let page : ℕ = page_at v.lanes c in
      let of : IsPageOf v.lanes page c = page_of_chunk v.lanes page c refl in
      (locked_is_plain o work.sound v work.opening l (descriptor_word v.lanes c) held (is_found v work.objects l held) under).0.plain page of.in_chunk (sym of.descriptor))

  -- no bitmap of a run is recorded: what a lock guards lies in an allocated block, and tells of none
  pub bitmap_unrecorded : (c : ℕ) → is_run (slice_index v.words (descriptor_word v.lanes c)) ≡ true → is_recorded v.log.records (chunk_word v.lanes c) ≡ false
  bitmap_unrecorded c run = unrecorded (chunk_word v.lanes c) (λ l held under.
      let page : ℕ = page_at v.lanes c in
      let word : ℕ = chunk_word v.lanes c in
      let of : IsPageOf v.lanes page c = page_of_chunk v.lanes page c refl in
      let guards : Guards o l.line word = found_guards o v work.opening l word held true (and_from (is_some l.block) (is_under word l) (is_found v work.objects l held) under) in
      let here : word / 512 ≡ page = omega arith in
      let chunk : IsChunk o.lanes page = subst (λ n. IsChunk n page) work.opening.lanes (chunk_here v.lanes page of.in_chunk) in
      let in_chunk = and_parts (is_chunk o.lanes (word / 512) && is_chunk_taken (slice_index o.words) o.lanes (zone_of o.lanes (word / 512)) (chunk_of o.lanes (word / 512) - 1)) _ (work.sound.in_blocks l.line word guards) in
      let taken : is_free_chunk (slice_index o.words) o.lanes page ≡ false =
      ap (is_free_chunk (slice_index o.words) o.lanes) (sym here)
      ∙ ap not (and_parts (is_chunk o.lanes (word / 512)) (is_chunk_taken (slice_index o.words) o.lanes (zone_of o.lanes (word / 512)) (chunk_of o.lanes (word / 512) - 1)) in_chunk.0).1 in
      let was_run : is_run (slice_index o.words (lane_descriptor o.lanes page)) ≡ true =
      ap is_run (sym (work.opening.descriptors page chunk taken))
      ∙ (ap (λ n. is_run (slice_index v.words (lane_descriptor n page))) (sym work.opening.lanes) ∙ (ap (λ i. is_run (slice_index v.words i)) of.descriptor ∙ run)) in
      work.sound.apart l.line word guards (page, (chunk, inr (sym of.bitmap, was_run))))

  pub root_unrecorded : is_recorded v.log.records 64 ≡ false
  root_unrecorded = unrecorded 64 (λ l held under.
      let object : FindsObject v l = work.objects l held in
      let chunk : is_chunk v.lanes (l.line / 64) ≡ true = work.under_way.chunks l object.lines held object.block in
      let page = leb-true (zone_page v.lanes 0) (l.line / 64) (and_parts _ _ chunk).0 in
      let from = leb-true (8 * l.line) 64 (under_from l object.lines object.block under) in
      omega (arith, page, from)) where
        under_from : (l : Lock) (lines : ℕ) → l.block ≡ Some lines → is_under 64 l ≡ true → leb (8 * l.line) 64 ≡ true
        under_from l lines block under = (and_parts (leb (8 * l.line) 64) (ltb 64 (8 * (l.line + lines))) (and_parts (leb (8 * l.line) 64 && ltb 64 (8 * (l.line + lines))) (is_guarded (64 - 8 * l.line)) (sym (ap (λ (b : Option ℕ). is_under_found l.line b 64) block) ∙ under)).0).0

  pub heads_taken_back : (next : View) (op : Operation) (reply : Option Value) → Tells v next op reply → TakesBack v next → next.reserved ≡ v.reserved → HasSameHeads v next
  heads_taken_back next op reply tells back reserved = record {
    lanes = tells.keeps.lanes;
    zones = tells.keeps.zones;
    reserved = reserved;
    described = λ c in_pool. back.others (descriptor_word v.lanes c) (chunk_words_outside v.lane v.lanes c work.working.area.lane) (descriptor_unrecorded c);
    bitmaps = λ c in_pool run. back.others (chunk_word v.lanes c) (bitmaps_outside v.lane v.lanes c work.working.area.lane) (bitmap_unrecorded c run);
    root = back.others 64 (root_outside v.lane) root_unrecorded;
  }

  -- so it is given up, where the operation tells nothing of the heap and each view behind it is an aborted call's
  pub gives_up_so : MayGiveUp v → (op : Operation) (reply : Option Value) (error : TxErr) → LeavesReserved op reply (pending_in v) → ((root : Option ℕ) → TellsOfRoot root op reply (pending_in v))
      → ((next : View) → Tells v next op reply → TakesBack v next → WasAborted next error) → GivesUpBy v op reply error
  gives_up_so may op reply error none no_root aborts next tells back reserved = ⊎_elim
      (λ (keeps : KeepsBlocks v). inl (gives_up v next op reply none.0 no_root tells.keeps.entries tells.call keeps error (aborts next tells back)))
      (λ (borne : IsAlone v × IsBorneOut v).
      inr (aborts next tells back, borne_on v next (heads_taken_back next op reply tells back reserved) op reply tells.keeps.entries tells.call none no_root borne.1))
      may

  -- an abort that is asked for gives up the call
  pub gives_up_by_abort : MayGiveUp v → (errnum : ℕ) (error : TxErr) → error ≡ error_for errnum → GivesUpBy v (Abort errnum) None error
  gives_up_by_abort may errnum error so =
      gives_up_so may (Abort errnum) None error (refl, refl) (λ root. tt) (λ next tells back. subst (WasAborted next) (sym so) (abort_aborts v next errnum lane.level work.level work.under_way tells back))
