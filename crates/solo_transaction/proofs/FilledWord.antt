-- A lane at work may store a word that it may fill, and where nothing was undrained but such words, nothing else is then.
use Rattle.std.proofs.Common.{◌≡◌, ◌≢◌, inl, inr, ⊎_elim, ℕ, ◌-◌, ◌*◌, ◌/◌, ◌%◌, ◌<◌, ◌≤◌, ◌&&◌, true, false, not, eqb, ne_eqb, All, List, [], length, slice_index, refl, sym, ap, ◌∙◌, subst, arith, get_or-set_same, get_or-set_other}
use Rattle.std.proofs.lemmas.Bool.{and_parts, cases_eq, false≢true}
use Rattle.std.proofs.lemmas.List.Elements.{All-push, All-weaker}
use Rattle.pm_image.specs.Logs.{slot_line}
use Rattle.solo_view.specs.declared.change.Change.{Change}
use Rattle.solo_view.specs.declared.occ.Occ.{Occ}
use Rattle.solo_view.specs.declared.occ.Occ.TheVariants.{Run, Zone}
use Rattle.solo_view.specs.Area.{is_in_area, part_of}
use Rattle.solo_view.specs.Area.Part.{OtherWord}
use Rattle.solo_view.specs.Blocks.{descriptor_word, is_chunk, is_run, tells_nothing}
use Rattle.solo_view.specs.Changes.{store_change}
use Rattle.solo_view.specs.Held.{is_reserved}
use Rattle.solo_view.specs.Log.{log_stored}
use Rattle.solo_view.specs.Steps.Step.{Store}
use Rattle.solo_view.specs.View.{Taken, View}
use Rattle.solo_view.specs.Views.{after, after_all}
use Rattle.solo_undo.proofs.Areas.{other_part, slot_part}
use Rattle.solo_undo.proofs.Restored.{open_settled}
use Rattle.solo_undo.proofs.Staying.{same_call, same_call-then, same_changed, same_settled}
use Rattle.solo_undo.proofs.Storing.{Is, goes_stores}
use Rattle.solo_undo.proofs.Written.{settled_works, work_goes_on}
use Rattle.solo_undo.specs.Working.{HasMadeRoom, IsSameCall, IsSettled, IsWorking, IsWrittenWord}
use Rattle.solo_world.proofs.Chunks.{chunk_is}
use Rattle.solo_world.proofs.Filled.{filled_again, none_filled}
use Rattle.solo_world.proofs.StoreWord.{drained_more}
use Rattle.solo_world.specs.Heap.{IsOcc}
use Rattle.solo_world.specs.Lawful.{FilledChange, MayFill, MayStore, OnlyFilled, StoreFits}
use Rattle.solo_world.specs.Sequences.{Ready, stores}
use Rattle.solo_fresh.proofs.Reserving.{reserved_kept}
use Rattle.solo_fresh.specs.Filled.{describes_run}
use Rattle.solo_transaction.proofs.NewRangeWords.{no_descriptor}

-- each of what the lane reserved is of its pool
abbrev pub ReservesOfPool : View → Type 0
ReservesOfPool v = All (λ (t : Taken). IsOcc v.lanes v.zones t.at) v.reserved

-- ---- what the lane has behind the store of a word that tells of no block

module _ (v : View) (word x : ℕ) (plain : tells_nothing v.lanes v.words word ≡ true) where
  abbrev stored : View
  stored = after v (Store word x)

  beside : (u : ℕ) → u ≢ word → slice_index (after v (Store word x)).words u ≡ slice_index v.words u
  beside u other = get_or-set_other v.words word u x 0 other

  -- it describes no run
  describes_none : (at : Occ) → IsOcc v.lanes v.zones at → describes_run v.lanes word at ≡ false
  describes_none (Run place) of_pool = ne_eqb (descriptor_word v.lanes (place / 4096)) word (λ same. no_descriptor v word plain (place / 4096) (chunk_is v.lanes (place / 4096) of_pool.1) (sym same))
  describes_none (Zone zone) of_pool = refl

  reserved_stored : ReservesOfPool v → (u : ℕ) → is_reserved (after v (Store word x)) u ≡ is_reserved v u
  reserved_stored of_pool =
      let none : All (λ (t : Taken). describes_run v.lanes word t.at ≡ false) v.reserved =
      All-weaker (λ (t : Taken). IsOcc v.lanes v.zones t.at) (λ (t : Taken). describes_run v.lanes word t.at ≡ false) (λ t there. describes_none t.at there) v.reserved of_pool in
      reserved_kept v stored refl refl (λ u. ⊎_elim
      (λ (same : u ≡ word). inr (subst (λ w. All (λ (t : Taken). describes_run v.lanes w t.at ≡ false) v.reserved) (sym same) none))
      (λ (other : u ≢ word). inl (beside u other))
      (cases_eq u word))

  silent_stored : (u : ℕ) → tells_nothing v.lanes v.words u ≡ true → tells_nothing v.lanes (after v (Store word x)).words u ≡ true
  silent_stored u tells =
      let chunk = (and_parts (is_chunk v.lanes (u / 512)) (not (eqb (u % 512) 0 && is_run (slice_index v.words (descriptor_word v.lanes (u / 512))))) tells).0 in
      ap (λ d. is_chunk v.lanes (u / 512) && not (eqb (u % 512) 0 && is_run d)) (beside (descriptor_word v.lanes (u / 512)) (λ same. no_descriptor v word plain (u / 512) chunk (sym same))) ∙ tells

  filled_stored : ReservesOfPool v → is_reserved v word ≡ true → OnlyFilled v → OnlyFilled (after v (Store word x))
  filled_stored of_pool own only =
      let still : (c : Change) → FilledChange v c → FilledChange stored c = λ c of. filled_again v stored c (λ had. reserved_stored of_pool c.word ∙ had) (silent_stored c.word) of in
      All-push (FilledChange stored) v.changes (store_change word (slice_index v.words word) x) (All-weaker (FilledChange v) (FilledChange stored) still v.changes only)
      (record { whole = refl; may = record { reserved = reserved_stored of_pool word ∙ own; plain = silent_stored word plain } })

-- ---- the store, with room made for it

-- the word is stored, and only words that may be filled are undrained still
pub record IsFilledWord (v : View) (word x : ℕ) (w : View) : Type 0 where
  pub written : IsWrittenWord v word x w
  pub undrained : ReservesOfPool v → OnlyFilled v → OnlyFilled w

module _ (v : View) (working : IsWorking v) (word x : ℕ) (fill : MayFill v word) (inside : word < length v.words) (outside : is_in_area v.lane word ≡ false) where
  -- room is all that was made
  record IsRoomy (m : View) : Type 0 where
    works : IsWorking m
    call : IsSameCall v m
    log : m.log ≡ v.log
    words : m.words ≡ v.words
    filling : MayFill m word
    undrained : OnlyFilled v → OnlyFilled m

  module _ (m : View) (made : HasMadeRoom v m) where
    settled : IsSettled v m → IsRoomy m
    settled full = record {
      works = settled_works v m working full;
      call = same_settled v m full;
      log = ap (λ (z : View). z.log) full ∙ open_settled v.changes v [] [] working.is_open;
      words = ap (λ (z : View). z.words) full;
      filling = record { reserved = ap (λ (z : View). is_reserved z word) full ∙ fill.reserved; plain = ap (λ (z : View). tells_nothing z.lanes z.words word) full ∙ fill.plain };
      undrained = λ only. none_filled m (ap (λ (z : View). z.changes) full);
    }

    roomy : IsRoomy m
    roomy = ⊎_elim (λ (same : m ≡ v). subst IsRoomy (sym same) (record { works = working; call = same_call v; log = refl; words = refl; filling = fill; undrained = λ only. only }))
        (λ (full : (512 ≤ length v.changes) × IsSettled v m). settled full.1) made.1

    outside_still : is_in_area m.lane word ≡ false
    outside_still = ap (λ n. is_in_area n word) roomy.call.lane.lane ∙ outside

    part : part_of m.lane word ≡ OtherWord
    part = other_part m.lane word outside_still

    inside_still : word < length m.words
    inside_still = let size = roomy.call.lane.size in omega (arith, size, inside)

    may : MayStore m word x
    may = record {
      inside = inside_still;
      room = made.0;
      fits = subst (λ p. StoreFits m word x m.log.phase p) (sym part) (subst (λ phase. StoreFits m word x phase OtherWord) (sym roomy.works.is_open) (inr (inl roomy.filling)));
    }

    of_pool_still : ReservesOfPool v → ReservesOfPool m
    of_pool_still of_pool =
        let lane = roomy.call.lane in
        subst (λ (lanes : ℕ). All (λ (t : Taken). IsOcc lanes m.zones t.at) m.reserved) (sym lane.lanes)
        (subst (λ (zones : ℕ). All (λ (t : Taken). IsOcc v.lanes zones t.at) m.reserved) (sym lane.zones)
        (subst (λ (blocks : List Taken). All (λ (t : Taken). IsOcc v.lanes v.zones t.at) blocks) (sym roomy.call.reserved) of_pool))

    stored_word : IsWrittenWord v word x (after m (Store word x))
    stored_word =
        let w : View = after m (Store word x) in
        let at_work : IsWorking m = roomy.works in
        let call : IsSameCall m w = same_changed m word x _ _ in
        let log : w.log ≡ m.log = ap (λ p. log_stored m.log.phase p x m.log) part ∙ ap (λ phase. log_stored phase OtherWord x m.log) at_work.is_open in
        record {
          call = same_call-then v m w roomy.call call;
          working = work_goes_on m w at_work call log
              (λ u area. get_or-set_other m.words word u x 0 (λ same. false≢true (sym outside_still ∙ (ap (is_in_area m.lane) (sym same) ∙ area))))
              (λ slot low. drained_more m.lane slot m.changes (store_change word (slice_index m.words word) x)
              (λ same. false≢true (sym outside_still ∙ (slot_part m.lane slot (word - 8 * slot_line m.lane slot) word (let most = at_work.records.most in omega (arith, low, most)) (omega (arith, same)) (omega (arith, same))).1)) (at_work.drained slot low));
          log = log ∙ roomy.log;
          there = get_or-set_same m.words word x 0 inside_still;
          others = λ u other. get_or-set_other m.words word u x 0 other ∙ ap (λ ws. slice_index ws u) roomy.words;
        }

    filled : IsFilledWord v word x (after m (Store word x))
    filled = record {
      written = stored_word;
      undrained = λ of_pool only. filled_stored m word x roomy.filling.plain (of_pool_still of_pool) roomy.filling.reserved (roomy.undrained only);
    }

  pub fill_lawful : Ready v (stores word x v) × IsFilledWord v word x (after_all v (stores word x v))
  fill_lawful = goes_stores (Is v) (IsFilledWord v word x) word x
      (λ u m is made. let made_of : HasMadeRoom v m = subst (λ z. HasMadeRoom z m) is made in (may m made_of, filled m made_of)) v refl
