-- A write into an object that the call made is the plain model's: it changes the object's block alone, which is no other's.
use Rattle.std.proofs.Common.{◌≡◌, ◌≢◌, ⊎_elim, ℕ, ◌+◌, ◌≤◌, ◌||◌, true, false, not, eqb, List, [], length, slice_index, Some, None, refl, sym, ◌∙◌, ap, subst, arith}
use Rattle.std.specs.List.{Contains, list_all, list_any}
use Rattle.std.specs.List.Sorted.{IsStrictlyIncreasing}
use Rattle.std.specs.Option.{option_map}
use Rattle.std.proofs.lemmas.Bool.{and_left, cases_eq, cond-true, eq-eqb, false≢true, le-ltb, or_parts}
use Rattle.std.proofs.lemmas.List.{append-nil}
use Rattle.std.proofs.lemmas.List.Elements.{All-nil}
use Rattle.std.proofs.lemmas.List.Folds.{list_any-from_Any}
use Rattle.pm_objects.specs.Pool.{object_at}
use Rattle.pm_objects.specs.declared.calls.Operation.TheVariants.{Write}
use Rattle.pm_objects.specs.declared.history.TxErr.TheVariants as error
use Rattle.pm_objects.specs.declared.ids.Oid.{Oid}
use Rattle.pm_objects.specs.declared.pool.Object.{Object}
use Rattle.pm_objects.specs.declared.pool.PoolView.{PoolView}
use Rattle.pm_image.specs.Blocks.{blocks}
use Rattle.pm_image.specs.Contents.{size_in}
use Rattle.solo_model.specs.declared.stage.Stage.TheVariants as stage
use Rattle.solo_model.specs.Answers.{after_reply}
use Rattle.solo_model.specs.Bytes.{bytes_of, covered_words, is_among, put_object, with_bytes}
use Rattle.solo_model.specs.Transaction.{is_new}
use Rattle.solo_model.proofs.Objects.{object_at-put, offsets-put}
use Rattle.solo_view.specs.Area.{is_in_area}
use Rattle.solo_view.specs.Log.{Recorded}
use Rattle.solo_view.specs.View.{Lock, View}
use Rattle.solo_crash.specs.CallBlocks.{CallBlocks, IsMadeIn, NewObject, block_of, blocks_in, is_at, is_freed_in, is_made_in, object_made}
use Rattle.solo_crash.specs.Held.{HoldsPool}
use Rattle.solo_crash.specs.HeapChanges.{AreDisjoint}
use Rattle.solo_crash.specs.OpenCall.{HasMade, IsChanged, IsUnderWay, TracksBlocks, block_at_line, call_words, words_recorded, IsPerformable}
use Rattle.solo_crash.specs.Operations.{IsMade, WritesNewBytes}
use Rattle.solo_crash.specs.Writes.{words_written}
use Rattle.solo_crash.proofs.CallBlocks.{blocks_once_more, made_stays, object_stays, SameNew}
use Rattle.solo_crash.proofs.CallWords.{call_works, locks_kept}
use Rattle.solo_crash.proofs.Continued.{answers_done, still_under_way, told_listed, tracks_more, GoesBack}
use Rattle.solo_crash.proofs.NewRanges.{new_is_held, new_is_kept, new_long, new_to_it}
use Rattle.solo_crash.proofs.ManyObjects.{AreOnce}
use Rattle.solo_crash.proofs.OnceMade.{one_at_offset}
use Rattle.solo_crash.proofs.Passing.{passes_all, AsksNoLock, Works}
use Rattle.solo_crash.proofs.WritesWithin.{bytes_written, other_same, same_words_written, stands_written, written_back, WritesWithin}
use Rattle.solo_crash.proofs.WriteOn.{put_elsewhere}

-- ---- the write

module _ (v next : View) (id : Oid) (off level : ℕ) (bytes : List ℕ) (some_level : 1 ≤ level) (under_way : IsUnderWay v level stage.Work error.None) (writes : WritesNewBytes v next id off bytes) where
  abbrev made : IsMade v id
  made = writes.range.made

  abbrev n : NewObject
  n = writes.range.made.new

  is : IsMadeIn v n
  is = under_way.has.each n made.has

  within : WritesWithin v next n off bytes
  within = record {
    stands = is;
    inside = writes.range.inside;
    are_bytes = writes.are_bytes;
    written = subst (λ (o : ℕ). (i : ℕ) → is_in_area v.lane i ≡ false → slice_index next.words i ≡ words_written (o + off) bytes (slice_index v.words) i) made.place writes.written;
  }

  blocks_now : blocks_in next ≡ blocks_in v
  blocks_now = blocks_once_more v next (Write id off bytes) None writes.tells.keeps.entries writes.tells.call

  made_before : (m : NewObject) → Contains (blocks_in next).made m → Contains (blocks_in v).made m
  made_before m there = subst (λ (b : CallBlocks). Contains b.made m) blocks_now there

  -- another object that it made is as it was
  other_stays : (m : NewObject) → Contains (blocks_in v).made m → m.off ≢ n.off → SameNew v next m
  other_stays m there differ = other_same v next n off bytes within m (under_way.has.each m there) (under_way.has.apart_new n m made.has there (λ same. differ (sym same)))

  each : (m : NewObject) → Contains (blocks_in next).made m → IsMadeIn next m
  each m there = ⊎_elim
      (λ (same : m.off ≡ n.off). subst (IsMadeIn next) (sym (one_object m (made_before m there) same)) (stands_written v next n off bytes within writes.tells.keeps))
      (λ (differ : m.off ≢ n.off). made_stays v next m writes.tells.keeps.lane writes.tells.keeps.known (other_stays m (made_before m there) differ) (under_way.has.each m (made_before m there)))
      (cases_eq m.off n.off)
    where
      one_object : (m : NewObject) → Contains (blocks_in v).made m → m.off ≡ n.off → m ≡ n
      one_object m there same = one_at_offset (blocks_in v).made m n under_way.has.once there made.has same

  has : HasMade next
  has = record {
    each = each;
    listed = λ m there. told_listed v next (Write id off bytes) None writes.tells.keeps.entries writes.tells.call m (under_way.has.listed m (made_before m there));
    kept = λ m there. ap (λ (b : CallBlocks). is_among b.freed m.off || list_any (is_at m.off) b.dropped) blocks_now ∙ under_way.has.kept m (made_before m there);
    once = subst (λ (b : CallBlocks). AreOnce b.made) (sym blocks_now) under_way.has.once;
    apart_new = λ m k there too. under_way.has.apart_new m k (made_before m there) (made_before k too);
    apart_gone = λ m k there gone. under_way.has.apart_gone m k (made_before m there) (subst (λ (b : CallBlocks). Contains b.dropped k) blocks_now gone);
    apart_found = λ m l lines there held. under_way.has.apart_found m l lines (made_before m there) (subst (λ (ls : List Lock). Contains ls l) writes.tells.locks held);
  }

  apart_found : (l : Lock) (lines : ℕ) → Contains v.locks l → l.block ≡ Some lines → AreDisjoint (block_of n) (block_at_line l.line lines)
  apart_found l lines held found = under_way.has.apart_found n l lines made.has held found

  back : GoesBack v next
  back = written_back v next n off bytes within writes.tells.keeps writes.logs writes.tells.locks under_way.outside under_way.under apart_found

  same_words : (w : ℕ → ℕ) → call_words next w ≡ call_words v w
  same_words = same_words_written v next n off bytes within writes.tells.keeps writes.logs writes.tells.locks under_way.outside under_way.under apart_found

  -- in the pool the object has the bytes
  module _ (base pool : PoolView) (was : IsChanged v base pool) where
    differs : (other : ℕ) → is_made_in v other ≡ false → other ≢ id.off
    differs other not_made same =
        false≢true (sym not_made ∙ (ap (is_made_in v) (same ∙ made.place) ∙ list_any-from_Any (is_at n.off) (blocks_in v).made (made.has.0, n, made.has.1, made.has.2, eq-eqb n.off n.off refl)))

    not_gone : (other : ℕ) → is_freed_in v other ≡ true → other ≢ id.off
    not_gone other freed same =
        false≢true (sym (or_parts (is_freed_in v n.off) (list_any (is_at n.off) (blocks_in v).dropped) (under_way.has.kept n made.has)).0 ∙ (ap (is_freed_in v) (sym (same ∙ made.place)) ∙ freed))

    put_there : (m : NewObject) → Contains (blocks_in v).made m → object_at (put_object id.off off bytes pool.objects) m.off ≡ Some (object_made next m)
    put_there m there = ⊎_elim
        (λ (same : m.off ≡ n.off).
        let one : m ≡ n = one_at_offset (blocks_in v).made m n under_way.has.once there made.has same in
        object_at-put id.off off bytes pool.objects m.off
        ∙ cond-true (eqb m.off id.off) (option_map (with_bytes off bytes) (object_at pool.objects m.off)) (object_at pool.objects m.off) (eq-eqb m.off id.off (same ∙ sym made.place))
        ∙ ap (option_map (with_bytes off bytes)) (was.new m there)
        ∙ ap (λ (x : NewObject). Some (with_bytes off bytes (object_made v x))) one
        ∙ ap (λ (bs : List ℕ). let o : Object = record { kind = n.kind; bytes = bs; members = [] } in Some o)
        (sym (bytes_written v next n off bytes within writes.tells.keeps))
        ∙ ap (λ (x : NewObject). Some (object_made next x)) (sym one))
        (λ (differ : m.off ≢ n.off).
        put_elsewhere pool.objects id.off off m.off bytes (λ same. differ (same ∙ made.place)) ∙ was.new m there ∙ ap (λ (o : Object). Some o) (sym (object_stays v next m (other_stays m there differ))))
        (cases_eq m.off n.off)

    put_changed : IsChanged next base (record pool { objects = put_object id.off off bytes pool.objects })
    put_changed = record {
      fixed = (λ j. let p : PoolView = record (was.fixed j) { objects = put_object id.off off bytes pool.objects } in p);
      rising = subst (λ (offs : List ℕ). IsStrictlyIncreasing offs) (sym (offsets-put id.off off bytes pool.objects)) was.rising;
      new = λ m there. put_there m (made_before m there);
      gone = λ other freed.
          let before : is_freed_in v other ≡ true = ap (λ (b : CallBlocks). is_among b.freed other) (sym blocks_now) ∙ freed in
          put_elsewhere pool.objects id.off off other bytes (not_gone other before) ∙ was.gone other before;
      others = λ other not_made kept.
          let before : is_made_in v other ≡ false = ap (λ (b : CallBlocks). list_any (is_at other) b.made) (sym blocks_now) ∙ not_made in
          put_elsewhere pool.objects id.off off other bytes (differs other before) ∙ was.others other before (ap (λ (b : CallBlocks). is_among b.freed other) (sym blocks_now) ∙ kept);
    }

pub new_write_goes_on : (v next : View) (id : Oid) (off level : ℕ) (bytes : List ℕ) → 1 ≤ level → IsUnderWay v level stage.Work error.None → WritesNewBytes v next id off bytes → IsUnderWay next level stage.Work error.None
new_write_goes_on v next id off level bytes some under_way writes =
    still_under_way v next level level (Write id off bytes) None under_way writes.tells (back v next id off level bytes some under_way writes) (has v next id off level bytes some under_way writes)
    (λ w header pool holds same_id before next_before room c.
    let works : Works c.tx = call_works v w header pool level some under_way c in
    let it : IsMade v id = writes.range.made in
    let inside : off + length bytes ≤ it.new.size = writes.range.inside in
    let long = new_long v w header pool level under_way c id it in
    let same : call_words next w ≡ call_words v w = same_words v next id off level bytes some under_way writes w in
    let blocks_same : blocks_in next ≡ blocks_in v = blocks_now v next id off level bytes some under_way writes in
    let asks : AsksNoLock (Write id off bytes) = record { no_wants = refl; no_begin = refl; no_alloc = refl; no_free = refl; no_put = refl; no_publish = refl; aligned = refl; no_more = λ tx. refl; no_action = refl } in
    record {
      answers =
          answers_done c.tx (Write id off bytes) None refl asks
          (passes_all c.tx (Write id off bytes) works asks (new_is_kept v w header pool level under_way c id it) (new_is_held v w header pool level under_way c id it true same_id)
          (le-ltb (length (bytes_of c.tx.pool.objects id.off)) (off + length bytes) (omega (arith, long, inside)))
          (and_left (not (is_new c.tx id.off)) (not (list_all (is_among c.tx.recorded) (covered_words (id.off + off) (length bytes)))) (ap not (new_to_it v w header pool level under_way c id it))) refl)
          refl;
      base = c.base;
      holds = subst (λ (f : ℕ → ℕ). HoldsPool f v.lanes v.zones header c.base) (sym same) c.holds;
      changed = put_changed v next id off level bytes some under_way writes c.base c.tx.pool c.changed;
      unfound = λ o new. c.unfound o (ap (λ (b : CallBlocks). list_any (is_at o) b.made || list_any (is_at o) b.dropped) (sym blocks_same) ∙ new);
      tracks = tracks_more c.tx (after_reply (Write id off bytes) None c.tx) refl refl refl (subst (TracksBlocks c.tx) (sym blocks_same) c.tracks);
      before = refl;
      locks = locks_kept c.tx v next writes.tells.locks c.locks;
      recorded = c.recorded ∙ ap words_recorded (sym writes.logs.records);
      records = c.records ∙ ap (λ (rs : List Recorded). length rs) (sym writes.logs.records);
      levels = c.levels;
      stands = refl;
      fails = refl;
      moved = sym (append-nil c.tx.moved);
      performable = All-nil (IsPerformable v w);
      blocks_stay = ap (λ (f : ℕ → ℕ). blocks f v.lanes v.zones) same;
      sizes_stay = λ block there. ap (λ (f : ℕ → ℕ). size_in f block) same;
    })
