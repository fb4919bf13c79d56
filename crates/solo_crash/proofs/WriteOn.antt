-- A write into recorded words under a write lock makes the words that hold the model's pool after it.
use Rattle.std.proofs.Common.{◌≡◌, ◌≢◌, ⊎_elim, ℕ, ◌+◌, ◌*◌, ◌≤◌, true, false, not, cond, eqb, List, [], ◌∷◌, length, slice_index, Option, None, refl, sym, ◌∙◌, ap, subst, arith}
use Rattle.std.specs.List.{Contains, list_all, list_any}
use Rattle.std.specs.List.Sorted.{IsStrictlyIncreasing}
use Rattle.std.specs.Option.{option_map}
use Rattle.std.proofs.lemmas.List.Folds.{list_any-from_Any}
use Rattle.std.proofs.lemmas.Bool.{and_from, and_right, cases_Bool, cond-false, cond-true, eq-eqb, false≢true, le-ltb, ne_eqb, or_left}
use Rattle.pm_objects.specs.Pool.{Objects, object_at}
use Rattle.pm_objects.specs.declared.calls.Operation.TheVariants.{Write}
use Rattle.pm_objects.specs.declared.history.TxErr.TheVariants as error
use Rattle.pm_objects.specs.declared.ids.Oid.{Oid}
use Rattle.pm_objects.specs.declared.pool.Object.{Object}
use Rattle.pm_objects.specs.declared.pool.PoolView.{PoolView}
use Rattle.pm_image.specs.declared.block.Block.{Block}
use Rattle.pm_image.specs.Contents.{size_in}
use Rattle.pm_image.proofs.LocalHeap.{blocks_same}
use Rattle.pm_image.proofs.Members.{first_member, later_member}
use Rattle.solo_model.specs.declared.stage.Stage.TheVariants as stage
use Rattle.solo_model.specs.Answers.{after_reply}
use Rattle.solo_model.specs.Bytes.{bytes_of, covered_words, is_among, put_object, with_bytes}
use Rattle.solo_model.specs.Transaction.{is_new}
use Rattle.solo_model.proofs.Objects.{object_at-put, offsets-put}
use Rattle.solo_view.specs.Area.{is_in_area}
use Rattle.solo_view.specs.Log.{Recorded}
use Rattle.solo_view.specs.View.{View}
use Rattle.solo_world.specs.Records.{is_recorded}
use Rattle.solo_crash.specs.CallBlocks.{CallBlocks, IsMadeIn, IsOldIn, NewObject, block_of, blocks_in, is_at, is_freed_in, is_new_in}
use Rattle.solo_crash.specs.Held.{HoldsPool}
use Rattle.solo_crash.specs.OpenCall.{IsChanged, IsOpen, IsUnderBlock, IsUnderWay, call_words, words_recorded, IsPerformable}
use Rattle.solo_crash.specs.Operations.{WritesBytes}
use Rattle.solo_crash.specs.Writes.{IsWritten, KeepsOthers, WritesObject, words_written, written_word}
use Rattle.solo_crash.proofs.Apart.{heads_kept}
use Rattle.solo_crash.proofs.CallWords.{call_works, held_is_locked, locks_kept, object_under, one_is_kept, other_call_word, recorded_call_word, same_pool, IsObjectOf}
use Rattle.solo_crash.proofs.CallBlocks.{SameNew, fills_block, keeps_on, old_of_none}
use Rattle.solo_crash.proofs.Continued.{answers_done, leaves_told, left_changed, left_new, left_tracks, still_under_way, told_has, tracks_more, LeavesBlocks}
use Rattle.solo_crash.proofs.Covered.{written_words}
use Rattle.solo_crash.proofs.KeptWords.{goes_back, same_found, same_records}
use Rattle.solo_crash.proofs.OneObject.{sizes_kept}
use Rattle.solo_crash.proofs.Passing.{passes_all, AsksNoLock, Works}
use Rattle.solo_crash.proofs.RecordedWords.{among_recorded}
use Rattle.solo_crash.proofs.Written.{write_keeps_others, written_pool}
use Rattle.std.proofs.lemmas.List.Elements.{All-nil}
use Rattle.std.proofs.lemmas.List.{append-nil}

-- the words of the call after the write are those before it with the bytes written
made_written : (v next : View) (id : Oid) (off : ℕ) (bytes : List ℕ) (w : ℕ → ℕ) → ((i : ℕ) → is_recorded v.log.records i ≡ true → is_in_area v.lane i ≡ false) → WritesBytes v next id off bytes → IsWritten (call_words v w) (call_words next w) (id.off + off) bytes
made_written v next id off bytes w outside writes =
    let place : ℕ = id.off + off in
    let view_written : IsWritten (slice_index v.words) (words_written place bytes (slice_index v.words)) place bytes = written_words (slice_index v.words) place bytes in
    record {
      covered = λ i there.
          let added : is_recorded v.log.records i ≡ true = writes.added i there in
          same_records v next w i writes.logs.records
          ∙ cond-true (is_recorded v.log.records i) (slice_index next.words i) (w i) added
          ∙ writes.written i (outside i added)
          ∙ view_written.covered i there
          ∙ ap (written_word place bytes i) (sym (recorded_call_word v w i added));
      others = λ i never. same_records v next w i writes.logs.records ∙ ⊎_elim
          (λ (is : is_recorded v.log.records i ≡ true).
          cond-true (is_recorded v.log.records i) (slice_index next.words i) (w i) is ∙ writes.written i (outside i is) ∙ view_written.others i never ∙ sym (recorded_call_word v w i is))
          (λ (is : is_recorded v.log.records i ≡ false). cond-false (is_recorded v.log.records i) (slice_index next.words i) (w i) is ∙ sym (other_call_word v w i is))
          (cases_Bool (is_recorded v.log.records i));
    }

-- the words that are not recorded stay
unwritten_stays : (v next : View) (id : Oid) (off : ℕ) (bytes : List ℕ) → WritesBytes v next id off bytes → (i : ℕ) → is_in_area v.lane i ≡ false → is_recorded v.log.records i ≡ false
    → slice_index next.words i ≡ slice_index v.words i
unwritten_stays v next id off bytes writes i outside none =
    writes.written i outside ∙ (written_words (slice_index v.words) (id.off + off) bytes).others i (λ there. false≢true (sym none ∙ writes.added i there))

-- each word that is covered is among those that the transaction recorded
pub all_among : (words xs : List ℕ) → ((i : ℕ) → Contains xs i → is_among words i ≡ true) → list_all (is_among words) xs ≡ true
all_among words [] among = refl
all_among words (x ∷ xs) among = and_from (is_among words x) (list_all (is_among words) xs) (among x (first_member x xs)) (all_among words xs (λ i there. among i (later_member x xs i there)))

-- new bytes in an object that the call found leave what stands elsewhere
pub put_elsewhere : (objects : Objects) (off at other : ℕ) (bytes : List ℕ) → other ≢ off → object_at (put_object off at bytes objects) other ≡ object_at objects other
put_elsewhere objects off at other bytes differ =
    object_at-put off at bytes objects other ∙ cond-false (eqb other off) (option_map (with_bytes at bytes) (object_at objects other)) (object_at objects other) (ne_eqb other off differ)

-- an offset at which the call made no object is none of those
pub differs_from_new : (v : View) (n : NewObject) (off : ℕ) → Contains (blocks_in v).made n → is_new_in v off ≡ false → n.off ≢ off
differs_from_new v n off there old same =
    false≢true (sym old ∙ or_left (list_any (is_at off) (blocks_in v).made) (list_any (is_at off) (blocks_in v).dropped) (list_any-from_Any (is_at off) (blocks_in v).made (there.0, n, there.1, there.2, eq-eqb n.off off same)))

put_changed : (v next : View) (base pool : PoolView) (off at : ℕ) (bytes : List ℕ) → LeavesBlocks v next → IsOldIn v off → IsChanged v base pool
    → IsChanged next (record base { objects = put_object off at bytes base.objects }) (record pool { objects = put_object off at bytes pool.objects })
put_changed v next base pool off at bytes leaves old was =
    let changed : IsChanged next base pool = left_changed v next base pool leaves was in
    record {
      fixed = (λ j. let p : PoolView = record (changed.fixed j) { objects = put_object off at bytes pool.objects } in p);
      rising = subst (λ (offs : List ℕ). IsStrictlyIncreasing offs) (sym (offsets-put off at bytes pool.objects)) changed.rising;
      new = λ n there.
          let before : Contains (blocks_in v).made n = subst (λ (b : CallBlocks). Contains b.made n) leaves.blocks there in
          put_elsewhere pool.objects off at n.off bytes (differs_from_new v n off before old.found) ∙ changed.new n there;
      gone = λ other freed.
          put_elsewhere pool.objects off at other bytes (λ same. false≢true (sym old.kept ∙ (ap (is_freed_in v) (sym same) ∙ (ap (λ (b : CallBlocks). is_among b.freed other) (sym leaves.blocks) ∙ freed))))
          ∙ changed.gone other freed;
      others = λ other found kept.
          object_at-put off at bytes pool.objects other
          ∙ ap (λ (o : Option Object). cond (eqb other off) (option_map (with_bytes at bytes) o) o) (changed.others other found kept)
          ∙ sym (object_at-put off at bytes base.objects other);
    }

put_unfound : (v next : View) (base : PoolView) (off at : ℕ) (bytes : List ℕ) → LeavesBlocks v next → IsOldIn v off → ((o : ℕ) → is_new_in v o ≡ true → object_at base.objects o ≡ None)
    → (o : ℕ) → is_new_in next o ≡ true → object_at (put_object off at bytes base.objects) o ≡ None
put_unfound v next base off at bytes leaves old none o new =
    let before : is_new_in v o ≡ true = sym (left_new v next o leaves) ∙ new in
    put_elsewhere base.objects off at o bytes (λ same. false≢true (sym old.found ∙ (ap (is_new_in v) (sym same) ∙ before))) ∙ none o before

-- the words of what the call made are apart from those of what it found, so none is written
new_is_unwritten : (v next : View) (id : Oid) (off level : ℕ) (bytes : List ℕ) → IsUnderWay v level stage.Work error.None → WritesBytes v next id off bytes
    → (n : NewObject) → Contains (blocks_in v).made n → SameNew v next n
new_is_unwritten v next id off level bytes under_way writes n there i reads =
    let is : IsMadeIn v n = under_way.has.each n there in
    writes.written i (is.outside i reads) ∙ (written_words (slice_index v.words) (id.off + off) bytes).others i (λ covered.
    let under : IsUnderBlock v i = under_way.under i (writes.added i covered) in
    let from = under.from in let to = under.to in let first = reads.from in let last = reads.to in
    let room = fills_block v n is in
    ⊎_elim
    (λ (before : (block_of n).place + 64 * (block_of n).lines ≤ 64 * under.lock.line). omega (arith, before, from, last, room))
    (λ (behind : 64 * under.lock.line + 64 * under.lines ≤ (block_of n).place). omega (arith, behind, to, first))
    (under_way.has.apart_found n under.lock under.lines there under.held under.found))

-- what it wrote the call found, and did not free
pub write_goes_on : (v next : View) (id : Oid) (off level : ℕ) (bytes : List ℕ) → 1 ≤ level → IsUnderWay v level stage.Work error.None → WritesBytes v next id off bytes → IsOldIn v id.off
    → IsUnderWay next level stage.Work error.None
write_goes_on v next id off level bytes some under_way writes old =
    let held = writes.range.object in
    let leaves : LeavesBlocks v next = leaves_told v next (Write id off bytes) None writes.tells.keeps.entries writes.tells.call refl (new_is_unwritten v next id off level bytes under_way writes) in
    still_under_way v next level level (Write id off bytes) None under_way writes.tells
    (goes_back v next writes.tells.keeps (same_found v next writes.tells.locks) writes.logs (unwritten_stays v next id off bytes writes) under_way.outside under_way.under)
    (told_has v next leaves writes.tells under_way.has)
    (λ w header pool holds same_id before next_before room c.
    let object : IsObjectOf v w c.tx id held.lock.line = object_under v w header pool level id true under_way before c held writes.range.size_known old in
    let works : Works c.tx = call_works v w header pool level some under_way c in
    let words : ℕ → ℕ = call_words v w in
    let block : Block = object.block in
    let inside : off + length bytes ≤ slice_index v.words (8 * held.lock.line + 1) = writes.range.inside in
    let long : length (bytes_of c.tx.pool.objects id.off) ≡ slice_index v.words (8 * held.lock.line + 1) = object.long in
    let size : size_in words block ≡ slice_index v.words (8 * held.lock.line + 1) = object.size in
    let write : WritesObject words (call_words next w) v.lanes v.zones block off bytes = record {
      is_there = object.is_there;
      inside = omega arith;
      are_bytes = writes.are_bytes;
      is_written = subst (λ (o : ℕ). IsWritten words (call_words next w) (o + off) bytes) (sym object.offset) (made_written v next id off bytes w under_way.outside writes);
    } in
    let keeps : KeepsOthers words (call_words next w) block = write_keeps_others words (call_words next w) v.lanes v.zones off block bytes write in
    let among : (i : ℕ) → Contains (covered_words (id.off + off) (length bytes)) i → is_among c.tx.recorded i ≡ true =
    λ i there. ap (λ (ws : List ℕ). is_among ws i) c.recorded ∙ among_recorded v.log.records i ∙ writes.added i there in
    let asks : AsksNoLock (Write id off bytes) = record { no_wants = refl; no_begin = refl; no_alloc = refl; no_free = refl; no_put = refl; no_publish = refl; aligned = refl; no_more = λ tx. refl; no_action = refl } in
    record {
      answers =
          answers_done c.tx (Write id off bytes) None refl asks
          (passes_all c.tx (Write id off bytes) works asks (one_is_kept v c.tx c.tracks id.off old)
          (held_is_locked v id true c.tx held c.locks (same_pool v w header c.base c.tx c.holds c.changed same_id))
          (le-ltb (length (bytes_of c.tx.pool.objects id.off)) (off + length bytes) (omega arith))
          (and_right (not (is_new c.tx id.off)) (not (list_all (is_among c.tx.recorded) (covered_words (id.off + off) (length bytes))))
          (ap not (all_among c.tx.recorded (covered_words (id.off + off) (length bytes)) among))) refl)
          refl;
      base = record c.base { objects = put_object id.off off bytes c.base.objects };
      holds =
          subst (λ (o : ℕ). HoldsPool (call_words next w) v.lanes v.zones header (record c.base { objects = put_object o off bytes c.base.objects })) object.offset
          (written_pool words (call_words next w) v.lanes v.zones off header c.base block bytes c.holds write);
      changed = put_changed v next c.base c.tx.pool id.off off bytes leaves old c.changed;
      unfound = put_unfound v next c.base id.off off bytes leaves old c.unfound;
      tracks = tracks_more c.tx (after_reply (Write id off bytes) None c.tx) refl refl refl (left_tracks v next c.tx leaves c.tracks);
      before = refl;
      locks = locks_kept c.tx v next writes.tells.locks c.locks;
      recorded = c.recorded ∙ ap words_recorded (sym writes.logs.records);
      records = c.records ∙ ap (λ (rs : List Recorded). length rs) (sym writes.logs.records);
      levels = c.levels;
      stands = refl;
      fails = refl;
      moved = sym (append-nil c.tx.moved);
      performable = All-nil (IsPerformable v w);
      blocks_stay = blocks_same words (call_words next w) v.lanes v.zones (heads_kept words (call_words next w) v.lanes v.zones block c.holds.no_fault object.is_there keeps);
      sizes_stay = λ other there.
          sizes_kept words (call_words next w) v.lanes v.zones block other c.holds.no_fault object.is_there keeps (subst (λ (bs : List Block). Contains bs other) (sym c.blocks_stay) there);
    })

-- so is a write of a call that allocated and freed nothing
pub write_keeps_open : (v next : View) (id : Oid) (off level : ℕ) (bytes : List ℕ) → 1 ≤ level → IsOpen v level stage.Work error.None → WritesBytes v next id off bytes
    → IsOpen next level stage.Work error.None
write_keeps_open v next id off level bytes some is_open writes = record {
  under_way = write_goes_on v next id off level bytes some is_open.under_way writes (old_of_none v is_open.keeps id.off);
  keeps = keeps_on v next (Write id off bytes) None writes.tells.keeps.entries writes.tells.call refl refl (λ root. tt) is_open.keeps;
}
