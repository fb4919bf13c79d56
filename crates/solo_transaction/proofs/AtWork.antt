-- A lane whose transaction may make and free objects looks at the root's word, and tells an operation that changes no word: it is at work still.
use Rattle.std.proofs.Common.{◌≡◌, ⊎_elim, ℕ, ◌+◌, ◌*◌, ◌/◌, Bool, true, false, not, cond, eqb, List, Contains, map, slice_index, Some, None, sym, ◌∙◌, ap, subst, arith}
use Rattle.std.specs.List.{All}
use Rattle.std.proofs.lemmas.Bool.{and_parts, cases_Bool, leb-true, ne_eqb}
use Rattle.solo_view.specs.Blocks.{allocation_word, bitmap_word, chunk_of, descriptor_word, is_chunk, is_run, is_word, zone_page}
use Rattle.solo_view.specs.Founds.{FindsKnown}
use Rattle.solo_view.specs.Held.{is_known}
use Rattle.solo_view.specs.Log.{Log}
use Rattle.solo_view.specs.Steps.Step.{Load}
use Rattle.solo_view.specs.View.{Lock, View}
use Rattle.solo_view.specs.Views.{after}
use Rattle.solo_world.specs.Lanes.{span_of}
use Rattle.solo_world.specs.Opening.{Opening}
use Rattle.solo_world.specs.declared.lane.Lane.{Lane}
use Rattle.solo_crash.proofs.AloneMemory.{load_words}
use Rattle.solo_crash.proofs.PendingOn.{published_same}
use Rattle.solo_crash.proofs.Staying.{goes_on_learning}
use Rattle.solo_lock.specs.Finding.{FindsObject}
use Rattle.solo_made.specs.Made.{BlockLists}
use Rattle.solo_undo.proofs.Kept.{is_of}
use Rattle.solo_undo.proofs.Learned.{learns_at_work, opening_learned}
use Rattle.solo_undo.specs.Spans.{IsSpan}
use Rattle.solo_undo.specs.Working.{HasLearned, IsPlain}
use Rattle.solo_tx.proofs.AddsAtWork.{listed_is_known}
use Rattle.solo_tx.proofs.GoingOn.{HasSameFields, goes_on, objects_kept}
use Rattle.solo_tx.proofs.LearnsAtWork.{looks_once}
use Rattle.solo_tx.proofs.NoneMade.{made_none_same}
use Rattle.solo_tx.specs.AtWork.{IsAtWork}
use Rattle.solo_tx.specs.Learning.{Finds, Looks}
use Rattle.solo_transaction.proofs.GoingWith.{Keeps, kept_of, looks_keep}
use Rattle.solo_transaction.specs.AtWork.{HasLookedWith, IsAtWorkWith, IsHeldFreed}

-- ---- the root's word is plain

tells_none : (lanes : ℕ) (words : List ℕ) (line : ℕ) → is_word (allocation_word lanes words line) 64 ≡ false
tells_none lanes words line = ⊎_elim
    (λ (chunk : is_chunk lanes (line / 64) ≡ true).
    let page = leb-true (zone_page lanes 0) (line / 64) (and_parts _ _ chunk).0 in
    let some = leb-true 1 (chunk_of lanes (line / 64)) (and_parts _ _ chunk).1 in
    ap (λ (b : Bool). is_word (cond (not b) None (Some (cond (is_run (slice_index words (descriptor_word lanes (line / 64)))) (bitmap_word (line / 64)) (descriptor_word lanes (line / 64))))) 64) chunk
    ∙ ⊎_elim
    (λ (run : is_run (slice_index words (descriptor_word lanes (line / 64))) ≡ true). ap (λ (b : Bool). eqb (cond b (bitmap_word (line / 64)) (descriptor_word lanes (line / 64))) 64) run ∙ ne_eqb (bitmap_word (line / 64)) 64 (λ same. omega (arith, page, same)))
    (λ (other : is_run (slice_index words (descriptor_word lanes (line / 64))) ≡ false). ap (λ (b : Bool). eqb (cond b (bitmap_word (line / 64)) (descriptor_word lanes (line / 64))) 64) other ∙ ne_eqb (descriptor_word lanes (line / 64)) 64 (λ same. omega (arith, some, same)))
    (cases_Bool (is_run (slice_index words (descriptor_word lanes (line / 64))))))
    (λ (none : is_chunk lanes (line / 64) ≡ false).
    ap (λ (b : Bool). is_word (cond (not b) None (Some (cond (is_run (slice_index words (descriptor_word lanes (line / 64)))) (bitmap_word (line / 64)) (descriptor_word lanes (line / 64))))) 64) none)
    (cases_Bool (is_chunk lanes (line / 64)))

pub root_is_plain : (v : View) → IsPlain v 64
root_is_plain v = record {
  quiet = λ l held. tells_none v.lanes v.words l.line;
  plain = λ page chunk same. let some = leb-true 1 (chunk_of v.lanes page) (and_parts _ _ chunk).1 in omega (arith, some, same);
}

-- ---- a look at it

module _ {M : Type 0} (o : Opening) (at : M → View → Type 0) (lane next : Lane M) (v : View) (x : ℕ) (fields : HasSameFields lane next) (records : next.records ≡ lane.records) where
  abbrev looked : View
  looked = after v (Load 64 x)

  look_at_root : IsAtWork o at lane v → FindsKnown v 64 x → at next.memory looked → IsAtWork o at next looked
  look_at_root work finds seen =
      let learned : HasLearned v 64 looked = learns_at_work v 64 x (root_is_plain v) finds work.working in
      let call = learned.call in
      let size_known : (k : Lock) → Contains v.locks k → is_known v (8 * k.line + 1) ≡ true = λ k there. (let object : FindsObject v k = work.objects k there in listed_is_known v (8 * k.line + 1) object.known) in
      goes_on o at lane next v looked work fields (objects_kept v looked call (λ k there. learned.same (8 * k.line + 1) (size_known k there))) seen
      (ap (λ rs. rs.items) records ∙ (work.seen.records ∙ ap (λ (l : Log). map span_of l.records) (sym learned.log))) (subst (λ rs. All IsSpan rs.items) (sym records) work.spans)
      (opening_learned v 64 x (root_is_plain v) o work.opening) learned.working (ap (λ (l : Log). l.entries) learned.log ∙ work.no_entries) (published_same v looked call.entries call.call)
      (made_none_same v looked call.entries call.call)
      (goes_on_learning v looked lane.level _ _ work.under_way
      (record { keeps = record { lanes = call.lane.lanes; zones = call.lane.zones; pool = call.lane.pool; lane = call.lane.lane; entries = call.entries; known = call.remembers }; locks = call.locks; call = call.call })
      (record { records = ap (λ (l : Log). l.records) learned.log; entries = ap (λ (l : Log). l.entries) learned.log })
      (record {
        known = λ i outside there. learned.same i (listed_is_known v i there);
        recorded = λ i outside is. let t = is_of v.log.records i is in learned.same i (work.working.records.each t.slot t.recorded i t.there t.covering).known;
      }))

  pub looks_at_root : (blocks : BlockLists) → IsAtWorkWith o at lane blocks v → Finds v 64 x → at next.memory looked → HasLookedWith o at next blocks v (λ w. slice_index w.words 64 ≡ x)
  looks_at_root blocks is finds seen =
      let inside = is.work.working.area.inside in
      let learned : HasLearned v 64 looked = learns_at_work v 64 x (root_is_plain v) finds.0 is.work.working in
      let looks : Looks 1 v looked = looks_once v 64 x (omega (arith, inside)) finds learned.call.locks in
      let keeps : Keeps lane.locks.items blocks looked = looks_keep lane.locks.items blocks 1 v looked looks (kept_of o at lane blocks v is) in
      record {
        loads = 1;
        view = looked;
        looks = looks;
        works = record {
          work = look_at_root is.work finds.0 seen;
          lists = keeps.lists;
          pages = keeps.pages;
          alone = keeps.alone;
          not_making = keeps.not_making;
          borne_out = keeps.borne_out;
          freed_held = subst (λ ls. All (IsHeldFreed ls.items) blocks.freed) (sym fields.locks) is.freed_held;
          within = keeps.within;
          has_reserved = keeps.has_reserved;
          reserved_within = keeps.reserved_within;
          reserved_free = keeps.reserved_free;
        };
        holds = ap (λ (ws : List ℕ). slice_index ws 64) (load_words v 64 x (finds.1 is.alone)) ∙ sym (finds.1 is.alone);
      }
