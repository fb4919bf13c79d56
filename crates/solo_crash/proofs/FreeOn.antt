-- A call goes on where it frees an object, as the plain model's transaction: one that it found is gone from the pool and listed with what was freed, and one that
-- it made is dropped.
use Rattle.std.proofs.Common.{◌≡◌, ◌≢◌, ⊎_elim, ℕ, ◌+◌, ◌≤◌, ◌||◌, Bool, true, false, not, cond, eqb, ltb, List, [], ◌∷◌, ◌++◌, length, map, Option, Some, None, MatchOption, refl, sym, ◌∙◌, ap, subst, arith}
use Rattle.std.specs.List.{Contains, filter, list_any}
use Rattle.std.proofs.lemmas.Bool.{and_left, and_right, cases_Bool, cases_eq, cond-false, cond-true, eq-eqb, eqb-true, false≢true, le-ltb, ne_eqb, or_left, or_parts, or_right}
use Rattle.std.proofs.lemmas.List.{append-nil, map-append}
use Rattle.std.proofs.lemmas.List.Elements.{All-nil, Contains-push_cases}
use Rattle.std.proofs.lemmas.List.Folds.{list_any-append, list_any-from_Any}
use Rattle.std.proofs.lemmas.Map.Views.{any-filter_same}
use Rattle.std.proofs.Math.Bool.{or-false}
use Rattle.pm_header.specs.declared.header.Header.{Header}
use Rattle.pm_objects.specs.Pool.{Objects, object_at}
use Rattle.pm_objects.specs.declared.calls.Operation.TheVariants.{Free}
use Rattle.pm_objects.specs.declared.history.TxErr.TheVariants as error
use Rattle.pm_objects.specs.declared.ids.Oid.{Oid}
use Rattle.pm_objects.specs.declared.pool.Object.{Object}
use Rattle.pm_objects.specs.declared.pool.PoolView.{PoolView}
use Rattle.pm_objects.specs.declared.refusal.Refusal.{Refusal}
use Rattle.pm_image.specs.Blocks.{blocks}
use Rattle.pm_image.specs.Contents.{size_in}
use Rattle.solo_model.specs.declared.stage.Stage.TheVariants as stage
use Rattle.solo_model.specs.Actions.{max_entries}
use Rattle.solo_model.specs.Answers.{Answers, IsDone, IsRefused, after_reply}
use Rattle.solo_model.specs.Bytes.{is_among}
use Rattle.solo_model.specs.Checks.{first_refusal, passes_actions}
use Rattle.solo_model.specs.NewObjects.{pool_without, without_object}
use Rattle.solo_model.specs.Transaction.{Transaction, entries_of, is_gone}
use Rattle.solo_model.proofs.Made.{among_else, among_more}
use Rattle.solo_model.proofs.ObjectsByOffset.{fewer_elsewhere, fewer_rise, fewer_there}
use Rattle.solo_view.specs.Log.{Recorded}
use Rattle.solo_view.specs.View.{View, Lock}
use Rattle.solo_crash.specs.CallBlocks.{CallBlocks, IsMadeIn, IsSameIn, MayPrecede, NewObject, block_of, blocks_in, is_at, is_freed_in, is_gone_in, is_made_in, is_new_in, object_made}
use Rattle.solo_crash.specs.Held.{HoldsPool}
use Rattle.solo_crash.specs.HeapChanges.{AreDisjoint}
use Rattle.solo_crash.specs.Locks.{AreSameLocks}
use Rattle.solo_crash.specs.OpenCall.{ComesTo, HasMade, IsChanged, IsUnderWay, TracksBlocks, call_words, locks_of, place_and_size, words_recorded, IsPerformable}
use Rattle.solo_crash.specs.Operations.{FreesFound, FreesMade, KeepsKnown, KeepsLog, Tells, entries_so_far}
use Rattle.solo_crash.proofs.CallBlocks.{SameNew, blocks_once_more, made_stays, not_made, object_stays, tells_of_root, tracks_gone}
use Rattle.solo_crash.proofs.CallWords.{as_many_entries, call_works, held_is_locked, locks_kept, same_pool}
use Rattle.solo_crash.proofs.Continued.{known_new, still_under_way, told_listed, Continues}
use Rattle.solo_crash.proofs.FreeChecks.{free_passes, not_the_root, tracks_made, unlisted}
use Rattle.solo_crash.proofs.KeptWords.{known_goes_back, same_found, same_known_words}
use Rattle.solo_crash.proofs.ManyObjects.{AreOnce}
use Rattle.solo_crash.proofs.NewRanges.{new_is_held, new_is_kept}
use Rattle.solo_crash.proofs.OnceMade.{alone_there, left_elsewhere, made_beside, made_without, member_kept, object_alone, offsets_without, once_kept}
use Rattle.solo_crash.proofs.Passing.{Works, unhindered}
use Rattle.solo_crash.proofs.WriteOn.{differs_from_new}

-- a free that is not refused is done
free_answers : (tx : Transaction) (id : Oid) → first_refusal unhindered tx (Free id) ≡ None → Answers tx (Free id) None
free_answers tx id passes =
    let done : IsDone tx (Free id) None = record { there = λ k d inside. absurd (omega (arith, inside)); stands = tt; value = refl } in
    record {
      known = refl;
      seen = unhindered;
      answer = subst (λ (fr : Option Refusal). MatchOption fr (IsDone tx (Free id) None) (λ r. IsRefused r None)) (sym passes) done;
    }

-- what the transaction is behind a free: the pool without the object, and these lists
abbrev freed_so : Transaction → ℕ → List ℕ → Objects → List ℕ → Transaction
freed_so tx off made dropped freed = record tx { pool = pool_without off tx.pool; made = made; dropped = dropped; freed = freed }

-- ---- it goes on with what the transaction is then, if that has these changes and lists

module _ (v next : View) (id : Oid) (level : ℕ) (under_way : IsUnderWay v level stage.Work error.None) (tells : Tells v next (Free id) None) (logs : KeepsLog v next) (keeps : KeepsKnown v next)
    (w : ℕ → ℕ) (header : Header) (pool : PoolView) (c : ComesTo v w header pool level stage.Work error.None) (made : List ℕ) (dropped : Objects) (freed : List ℕ) where
  freed_continues : after_reply (Free id) None c.tx ≡ freed_so c.tx id.off made dropped freed → first_refusal unhindered c.tx (Free id) ≡ None → IsChanged next c.base (pool_without id.off c.tx.pool)
      → ((off : ℕ) → is_new_in next off ≡ true → object_at c.base.objects off ≡ None) → TracksBlocks (freed_so c.tx id.off made dropped freed) (blocks_in next)
      → Continues v next w header (Free id) None level c.tx
  freed_continues leads passes changed unfound tracks =
      let same : call_words next w ≡ call_words v w = same_known_words v next logs.records keeps under_way.outside w in
      record {
        answers = free_answers c.tx id passes;
        base = c.base;
        holds = subst (λ (f : ℕ → ℕ). HoldsPool f v.lanes v.zones header c.base) (sym same) c.holds;
        changed = subst (λ (x : Transaction). IsChanged next c.base x.pool) (sym leads) changed;
        unfound = unfound;
        tracks = subst (λ (x : Transaction). TracksBlocks x (blocks_in next)) (sym leads) tracks;
        before = ap (λ (x : Transaction). x.before) leads;
        locks = subst (λ (x : Transaction). AreSameLocks x.locks (locks_of next)) (sym leads) (locks_kept c.tx v next tells.locks c.locks);
        recorded = ap (λ (x : Transaction). x.recorded) leads ∙ c.recorded ∙ ap words_recorded (sym logs.records);
        records = ap (λ (x : Transaction). x.records) leads ∙ c.records ∙ ap (λ (rs : List Recorded). length rs) (sym logs.records);
        levels = ap (λ (x : Transaction). x.level) leads ∙ c.levels;
        stands = ap (λ (x : Transaction). x.stage) leads;
        fails = ap (λ (x : Transaction). x.error) leads;
        moved = ap (λ (x : Transaction). x.moved) leads ∙ sym (append-nil c.tx.moved);
        performable = All-nil (IsPerformable v w);
        blocks_stay = ap (λ (f : ℕ → ℕ). blocks f v.lanes v.zones) same;
        sizes_stay = λ block there. ap (λ (f : ℕ → ℕ). size_in f block) same;
      }

-- ---- an object that the call found

module _ (v next : View) (id : Oid) (level : ℕ) (some_level : 1 ≤ level) (under_way : IsUnderWay v level stage.Work error.None) (frees : FreesFound v next id) where
  abbrev now : CallBlocks
  now = record (blocks_in v) { freed = (blocks_in v).freed ++ id.off ∷ [] }

  blocks_now : blocks_in next ≡ now
  blocks_now =
      let b : CallBlocks = blocks_in v in
      blocks_once_more v next (Free id) None frees.tells.keeps.entries frees.tells.call
      ∙ cond-false (is_made_in v id.off) (record b { made = filter (λ n. not (is_at id.off n)) b.made; dropped = b.dropped ++ filter (is_at id.off) b.made }) now (not_made v id.off frees.old.found)

  made_before : (n : NewObject) → Contains (blocks_in next).made n → Contains (blocks_in v).made n
  made_before n there = subst (λ (b : CallBlocks). Contains b.made n) blocks_now there

  same_new : (n : NewObject) → Contains (blocks_in v).made n → SameNew v next n
  same_new = known_new v next frees.keeps under_way.has.each

  has : HasMade next
  has = record {
    each = λ n there. made_stays v next n frees.tells.keeps.lane frees.tells.keeps.known (same_new n (made_before n there)) (under_way.has.each n (made_before n there));
    listed = λ n there. told_listed v next (Free id) None frees.tells.keeps.entries frees.tells.call n (under_way.has.listed n (made_before n there));
    kept = λ n there.
        let before : Contains (blocks_in v).made n = made_before n there in
        ap (λ (b : CallBlocks). is_among b.freed n.off || list_any (is_at n.off) b.dropped) blocks_now
        ∙ ap (λ (b : Bool). b || list_any (is_at n.off) (blocks_in v).dropped) (among_else (blocks_in v).freed id.off n.off (differs_from_new v n id.off before frees.old.found)) ∙ under_way.has.kept n before;
    once = subst (λ (b : CallBlocks). AreOnce b.made) (sym blocks_now) under_way.has.once;
    apart_new = λ n m there too. under_way.has.apart_new n m (made_before n there) (made_before m too);
    apart_gone = λ n m there gone. under_way.has.apart_gone n m (made_before n there) (subst (λ (b : CallBlocks). Contains b.dropped m) blocks_now gone);
    apart_found = λ n l lines there held. under_way.has.apart_found n l lines (made_before n there) (subst (λ (ls : List Lock). Contains ls l) frees.tells.locks held);
  }

  freed_now : (off : ℕ) → is_freed_in next off ≡ is_among ((blocks_in v).freed ++ id.off ∷ []) off
  freed_now off = ap (λ (b : CallBlocks). is_among b.freed off) blocks_now

  new_now : (off : ℕ) → is_new_in next off ≡ is_new_in v off
  new_now off = ap (λ (b : CallBlocks). list_any (is_at off) b.made || list_any (is_at off) b.dropped) blocks_now

  changed : (base pool : PoolView) → IsChanged v base pool → IsChanged next base (pool_without id.off pool)
  changed base pool was = record {
    fixed = (λ j. let p : PoolView = record (was.fixed j) { objects = without_object id.off pool.objects } in p);
    rising = fewer_rise pool.objects id.off was.rising;
    new = λ n there.
        let before : Contains (blocks_in v).made n = made_before n there in
        fewer_elsewhere pool.objects id.off n.off (differs_from_new v n id.off before frees.old.found) ∙ was.new n before ∙ ap (λ (o : Object). Some o) (sym (object_stays v next n (same_new n before)));
    gone = λ off freed. ⊎_elim
        (λ (here : off ≡ id.off). subst (λ (o : ℕ). object_at (without_object id.off pool.objects) o ≡ None) (sym here) (fewer_there pool.objects id.off))
        (λ (other : off ≢ id.off). fewer_elsewhere pool.objects id.off off other ∙ was.gone off (sym (among_else (blocks_in v).freed id.off off other) ∙ (sym (freed_now off) ∙ freed)))
        (cases_eq off id.off);
    others = λ off not_made_there kept.
        let other : off ≢ id.off = λ same.
        false≢true (sym kept ∙ (freed_now off ∙ (ap (is_among ((blocks_in v).freed ++ id.off ∷ [])) same ∙ among_more (blocks_in v).freed id.off))) in
        fewer_elsewhere pool.objects id.off off other
        ∙ was.others off (ap (λ (b : CallBlocks). list_any (is_at off) b.made) (sym blocks_now) ∙ not_made_there) (sym (among_else (blocks_in v).freed id.off off other) ∙ (sym (freed_now off) ∙ kept));
  }

  module _ (w : ℕ → ℕ) (header : Header) (pool : PoolView) (holds : HoldsPool w v.lanes v.zones header pool) (same_id : v.pool ≡ header.id) (may : MayPrecede pool next) (c : ComesTo v w header pool level stage.Work error.None) where
    not_made_before : is_among c.tx.made id.off ≡ false
    not_made_before = tracks_made v c.tx c.tracks id.off ∙ not_made v id.off frees.old.found

    passes : first_refusal unhindered c.tx (Free id) ≡ None
    passes =
        let works : Works c.tx = call_works v w header pool level some_level under_way c in
        let fits = frees.fits in
        let entries : entries_of c.tx ≡ entries_so_far v = as_many_entries v w header pool level c in
        let room : passes_actions c.tx (Free id) ≡ false = and_right (not (is_among c.tx.made id.off)) (ltb max_entries (entries_of c.tx + 2)) (le-ltb max_entries (entries_of c.tx + 2) (omega (arith, fits, entries))) in
        free_passes c.tx id works
        (held_is_locked v id true c.tx frees.held c.locks (same_pool v w header c.base c.tx c.holds c.changed same_id))
        (tracks_gone v c.tx c.tracks id.off frees.old.found frees.old.kept)
        (not_the_root v w header pool level under_way holds c id (tells_of_root v next (Free id) None frees.tells.keeps.entries frees.tells.call pool may))
        (unlisted v w header pool level under_way holds c id.off) room

    leads : after_reply (Free id) None c.tx ≡ freed_so c.tx id.off c.tx.made c.tx.dropped (c.tx.freed ++ id.off ∷ [])
    leads = cond-false (is_among c.tx.made id.off)
        (record c.tx { pool = pool_without id.off c.tx.pool; made = filter (λ other. not (eqb other id.off)) c.tx.made; dropped = c.tx.dropped ++ filter (λ entry. eqb entry.0 id.off) c.tx.pool.objects })
        (record c.tx { pool = pool_without id.off c.tx.pool; freed = c.tx.freed ++ id.off ∷ [] })
        not_made_before

    found_continues : Continues v next w header (Free id) None level c.tx
    found_continues = freed_continues v next id level under_way frees.tells frees.logs frees.keeps w header pool c c.tx.made c.tx.dropped (c.tx.freed ++ id.off ∷ []) leads passes
        (changed c.base c.tx.pool c.changed)
        (λ off new. c.unfound off (sym (new_now off) ∙ new))
        (subst (TracksBlocks (freed_so c.tx id.off c.tx.made c.tx.dropped (c.tx.freed ++ id.off ∷ []))) (sym blocks_now) (record {
          made = c.tracks.made;
          dropped = c.tracks.dropped;
          freed = ap (λ (offs : List ℕ). offs ++ id.off ∷ []) c.tracks.freed;
        }))

pub found_free_goes_on : (v next : View) (id : Oid) (level : ℕ) → 1 ≤ level → IsUnderWay v level stage.Work error.None → FreesFound v next id → IsUnderWay next level stage.Work error.None
found_free_goes_on v next id level some under_way frees =
    still_under_way v next level level (Free id) None under_way frees.tells (known_goes_back v next frees.tells.keeps (same_found v next frees.tells.locks) frees.logs frees.keeps under_way.outside under_way.under) (has v next id level some under_way frees)
    (λ w header pool holds same_id before next_before may c. found_continues v next id level some under_way frees w header pool holds same_id may c)

-- ---- an object that it made

module _ (v next : View) (id : Oid) (level : ℕ) (some_level : 1 ≤ level) (under_way : IsUnderWay v level stage.Work error.None) (frees : FreesMade v next id) where
  abbrev n : NewObject
  n = frees.made.new

  abbrev others : NewObject → Bool
  others m = not (is_at id.off m)

  abbrev without : CallBlocks
  without = record (blocks_in v) { made = filter others (blocks_in v).made; dropped = (blocks_in v).dropped ++ n ∷ [] }

  is_made : is_made_in v id.off ≡ true
  is_made = list_any-from_Any (is_at id.off) (blocks_in v).made (frees.made.has.0, n, frees.made.has.1, frees.made.has.2, eq-eqb n.off id.off (sym frees.made.place))

  blocks_without : blocks_in next ≡ without
  blocks_without =
      let b : CallBlocks = blocks_in v in
      blocks_once_more v next (Free id) None frees.tells.keeps.entries frees.tells.call
      ∙ cond-true (is_made_in v id.off) (record b { made = filter others b.made; dropped = b.dropped ++ filter (is_at id.off) b.made }) (record b { freed = b.freed ++ id.off ∷ [] }) is_made
      ∙ ap (λ (ns : List NewObject). record b { made = filter others b.made; dropped = b.dropped ++ ns }) (ap (λ (off : ℕ). filter (is_at off) b.made) frees.made.place ∙ alone_there b.made n under_way.has.once frees.made.has)

  left : (m : NewObject) → Contains (blocks_in next).made m → Contains (blocks_in v).made m × (m.off ≢ id.off)
  left m there =
      let part = member_kept others (blocks_in v).made m (subst (λ (b : CallBlocks). Contains b.made m) blocks_without there) in
      (part.0, left_elsewhere id.off m part.1)

  stays : (m : NewObject) → Contains (blocks_in v).made m → SameNew v next m
  stays = known_new v next frees.keeps under_way.has.each

  not_there : (other : ℕ) → other ≢ id.off → other ≢ n.off
  not_there other differ same = differ (same ∙ sym frees.made.place)

  made_as_before : (off : ℕ) → off ≢ id.off → is_made_in next off ≡ is_made_in v off
  made_as_before off differ = ap (λ (b : CallBlocks). list_any (is_at off) b.made) blocks_without ∙ made_without id.off off (blocks_in v).made differ

  freed_as_before : (off : ℕ) → is_freed_in next off ≡ is_freed_in v off
  freed_as_before off = ap (λ (b : CallBlocks). is_among b.freed off) blocks_without

  dropped_as_before : (off : ℕ) → off ≢ id.off → list_any (is_at off) (blocks_in next).dropped ≡ list_any (is_at off) (blocks_in v).dropped
  dropped_as_before off differ = ap (λ (b : CallBlocks). list_any (is_at off) b.dropped) blocks_without ∙ made_beside n off (blocks_in v).dropped (not_there off differ)

  new_before : (off : ℕ) → is_new_in next off ≡ true → is_new_in v off ≡ true
  new_before off new = ⊎_elim
      (λ (here : off ≡ id.off). ap (is_new_in v) here ∙ or_left (is_made_in v id.off) (list_any (is_at id.off) (blocks_in v).dropped) is_made)
      (λ (other : off ≢ id.off). (λ j. sym (made_as_before off other) j || sym (dropped_as_before off other) j) ∙ new)
      (cases_eq off id.off)

  has_left : HasMade next
  has_left = record {
    each = λ m there. made_stays v next m frees.tells.keeps.lane frees.tells.keeps.known (stays m (left m there).0) (under_way.has.each m (left m there).0);
    listed = λ m there. told_listed v next (Free id) None frees.tells.keeps.entries frees.tells.call m (under_way.has.listed m (left m there).0);
    kept = λ m there. (λ j. freed_as_before m.off j || dropped_as_before m.off (left m there).1 j) ∙ under_way.has.kept m (left m there).0;
    once = subst (λ (b : CallBlocks). AreOnce b.made) (sym blocks_without) (once_kept others (blocks_in v).made under_way.has.once);
    apart_new = λ m k there too. under_way.has.apart_new m k (left m there).0 (left k too).0;
    apart_gone = λ m k there gone. ⊎_elim
        (λ (before : Contains (blocks_in v).dropped k). under_way.has.apart_gone m k (left m there).0 before)
        (λ (now : n ≡ k). subst (λ (x : NewObject). AreDisjoint (block_of m) (block_of x)) now (under_way.has.apart_new m n (left m there).0 frees.made.has (not_there m.off (left m there).1)))
        (Contains-push_cases (blocks_in v).dropped n k (subst (λ (b : CallBlocks). Contains b.dropped k) blocks_without gone));
    apart_found = λ m l lines there held. under_way.has.apart_found m l lines (left m there).0 (subst (λ (ls : List Lock). Contains ls l) frees.tells.locks held);
  }

  module _ (w : ℕ → ℕ) (header : Header) (pool : PoolView) (holds : HoldsPool w v.lanes v.zones header pool) (same_id : v.pool ≡ header.id) (may : MayPrecede pool next) (c : ComesTo v w header pool level stage.Work error.None) where
    changed_left : IsChanged next c.base (pool_without id.off c.tx.pool)
    changed_left = record {
      fixed = (λ j. let p : PoolView = record (c.changed.fixed j) { objects = without_object id.off c.tx.pool.objects } in p);
      rising = fewer_rise c.tx.pool.objects id.off c.changed.rising;
      new = λ m there.
          let before = left m there in
          fewer_elsewhere c.tx.pool.objects id.off m.off before.1 ∙ c.changed.new m before.0 ∙ ap (λ (o : Object). Some o) (sym (object_stays v next m (stays m before.0)));
      gone = λ off freed. ⊎_elim
          (λ (here : off ≡ id.off). subst (λ (o : ℕ). object_at (without_object id.off c.tx.pool.objects) o ≡ None) (sym here) (fewer_there c.tx.pool.objects id.off))
          (λ (other : off ≢ id.off). fewer_elsewhere c.tx.pool.objects id.off off other ∙ c.changed.gone off (sym (freed_as_before off) ∙ freed))
          (cases_eq off id.off);
      others = λ off not_made_there kept. ⊎_elim
          (λ (here : off ≡ id.off).
          subst (λ (o : ℕ). object_at (without_object id.off c.tx.pool.objects) o ≡ object_at c.base.objects o) (sym here)
          (fewer_there c.tx.pool.objects id.off ∙ sym (c.unfound id.off (or_left (is_made_in v id.off) (list_any (is_at id.off) (blocks_in v).dropped) is_made))))
          (λ (other : off ≢ id.off).
          fewer_elsewhere c.tx.pool.objects id.off off other ∙ c.changed.others off (sym (made_as_before off other) ∙ not_made_there) (sym (freed_as_before off) ∙ kept))
          (cases_eq off id.off);
    }

    made_before_it : is_among c.tx.made id.off ≡ true
    made_before_it = tracks_made v c.tx c.tracks id.off ∙ is_made

    passes_left : first_refusal unhindered c.tx (Free id) ≡ None
    passes_left =
        let works : Works c.tx = call_works v w header pool level some_level under_way c in
        free_passes c.tx id works
        (new_is_held v w header pool level under_way c id frees.made true same_id)
        (or_parts (is_gone c.tx id.off) false (new_is_kept v w header pool level under_way c id frees.made)).0
        (not_the_root v w header pool level under_way holds c id (tells_of_root v next (Free id) None frees.tells.keeps.entries frees.tells.call pool may))
        (unlisted v w header pool level under_way holds c id.off)
        (and_left (not (is_among c.tx.made id.off)) (ltb max_entries (entries_of c.tx + 2)) (ap not made_before_it))

    abbrev made_left : List ℕ
    made_left = filter (λ other. not (eqb other id.off)) c.tx.made

    abbrev dropped_left : Objects
    dropped_left = c.tx.dropped ++ filter (λ entry. eqb entry.0 id.off) c.tx.pool.objects

    leads_left : after_reply (Free id) None c.tx ≡ freed_so c.tx id.off made_left dropped_left c.tx.freed
    leads_left = cond-true (is_among c.tx.made id.off)
        (record c.tx { pool = pool_without id.off c.tx.pool; made = made_left; dropped = dropped_left })
        (record c.tx { pool = pool_without id.off c.tx.pool; freed = c.tx.freed ++ id.off ∷ [] })
        made_before_it

    -- the object is dropped as it is then: where it stands, and of its size
    dropped_one : map place_and_size (filter (λ entry. eqb entry.0 id.off) c.tx.pool.objects) ≡ (n.off, n.size) ∷ []
    dropped_one =
        let is : IsMadeIn v n = under_way.has.each n frees.made.has in
        ap (map place_and_size) (object_alone c.tx.pool.objects id.off (object_made v n) c.changed.rising (ap (object_at c.tx.pool.objects) frees.made.place ∙ c.changed.new n frees.made.has))
        ∙ (λ j. (frees.made.place j, is.long j) ∷ [])

    made_continues : Continues v next w header (Free id) None level c.tx
    made_continues = freed_continues v next id level under_way frees.tells frees.logs frees.keeps w header pool c made_left dropped_left c.tx.freed leads_left passes_left
        changed_left
        (λ off new. c.unfound off (new_before off new))
        (subst (TracksBlocks (freed_so c.tx id.off made_left dropped_left c.tx.freed)) (sym blocks_without) (record {
          made = ap (filter (λ other. not (eqb other id.off))) c.tracks.made ∙ offsets_without id.off (blocks_in v).made;
          dropped =
              map-append place_and_size c.tx.dropped (filter (λ entry. eqb entry.0 id.off) c.tx.pool.objects)
              ∙ (λ j. c.tracks.dropped j ++ dropped_one j)
              ∙ sym (map-append (λ (m : NewObject). (m.off, m.size)) (blocks_in v).dropped (n ∷ []));
          freed = c.tracks.freed;
        }))

pub made_free_goes_on : (v next : View) (id : Oid) (level : ℕ) → 1 ≤ level → IsUnderWay v level stage.Work error.None → FreesMade v next id → IsUnderWay next level stage.Work error.None
made_free_goes_on v next id level some under_way frees =
    still_under_way v next level level (Free id) None under_way frees.tells (known_goes_back v next frees.tells.keeps (same_found v next frees.tells.locks) frees.logs frees.keeps under_way.outside under_way.under) (has_left v next id level some under_way frees)
    (λ w header pool holds same_id before next_before may c. made_continues v next id level some under_way frees w header pool holds same_id may c)

-- ---- what is gone behind a free, and what is as before

-- of those that a call made, the one at an offset is left out
none_left : (off : ℕ) (news : List NewObject) → list_any (is_at off) news ≡ true → list_any (is_at off) (filter (is_at off) news) ≡ true
none_left off news made = any-filter_same (is_at off) (is_at off) true (λ n at. at) news ∙ made

pub freed_is_gone : (v next : View) (id : Oid) → Tells v next (Free id) None → is_gone_in next id.off ≡ true
freed_is_gone v next id tells =
    let b : CallBlocks = blocks_in v in
    ap (λ (x : CallBlocks). is_among x.freed id.off || list_any (is_at id.off) x.dropped) (blocks_once_more v next (Free id) None tells.keeps.entries tells.call)
    ∙ ⊎_elim
    (λ (made : is_made_in v id.off ≡ true).
    ap (λ (x : CallBlocks). is_among x.freed id.off || list_any (is_at id.off) x.dropped)
    (cond-true (is_made_in v id.off) (record b { made = filter (λ n. not (is_at id.off n)) b.made; dropped = b.dropped ++ filter (is_at id.off) b.made }) (record b { freed = b.freed ++ id.off ∷ [] }) made)
    ∙ or_right (is_among b.freed id.off) (list_any (is_at id.off) (b.dropped ++ filter (is_at id.off) b.made))
    (list_any-append (is_at id.off) b.dropped (filter (is_at id.off) b.made) ∙ or_right (list_any (is_at id.off) b.dropped) (list_any (is_at id.off) (filter (is_at id.off) b.made)) (none_left id.off b.made made)))
    (λ (found : is_made_in v id.off ≡ false).
    ap (λ (x : CallBlocks). is_among x.freed id.off || list_any (is_at id.off) x.dropped)
    (cond-false (is_made_in v id.off) (record b { made = filter (λ n. not (is_at id.off n)) b.made; dropped = b.dropped ++ filter (is_at id.off) b.made }) (record b { freed = b.freed ++ id.off ∷ [] }) found)
    ∙ or_left (is_among (b.freed ++ id.off ∷ []) id.off) (list_any (is_at id.off) b.dropped) (among_more b.freed id.off))
    (cases_Bool (is_made_in v id.off))

-- none of those that were at another offset is at this one
none_of_others : (off other : ℕ) (news : List NewObject) → other ≢ off → list_any (is_at other) (filter (is_at off) news) ≡ false
none_of_others off other news differ =
    any-filter_same (is_at other) (is_at off) false (λ n at. ne_eqb n.off off (λ same. differ (sym (eqb-true n.off other at) ∙ same))) news

dropped_beside : (off other : ℕ) (dropped news : List NewObject) → other ≢ off → list_any (is_at other) (dropped ++ filter (is_at off) news) ≡ list_any (is_at other) dropped
dropped_beside off other dropped news differ =
    list_any-append (is_at other) dropped (filter (is_at off) news)
    ∙ ap (λ (b : Bool). list_any (is_at other) dropped || b) (none_of_others off other news differ) ∙ or-false (list_any (is_at other) dropped)

pub others_are_same : (v next : View) (id : Oid) (off : ℕ) → Tells v next (Free id) None → off ≢ id.off → IsSameIn v next off
others_are_same v next id off tells differ = go (is_made_in v id.off) (blocks_once_more v next (Free id) None tells.keeps.entries tells.call) where
  go : (made : Bool) → blocks_in next ≡ cond made (record (blocks_in v) { made = filter (λ n. not (is_at id.off n)) (blocks_in v).made; dropped = (blocks_in v).dropped ++ filter (is_at id.off) (blocks_in v).made })
      (record (blocks_in v) { freed = (blocks_in v).freed ++ id.off ∷ [] }) → IsSameIn v next off
  go true is = record {
    made = ap (λ (x : CallBlocks). list_any (is_at off) x.made) is ∙ made_without id.off off (blocks_in v).made differ;
    new =
        ap (λ (x : CallBlocks). list_any (is_at off) x.made || list_any (is_at off) x.dropped) is
        ∙ (λ j. made_without id.off off (blocks_in v).made differ j || dropped_beside id.off off (blocks_in v).dropped (blocks_in v).made differ j);
    freed = ap (λ (x : CallBlocks). is_among x.freed off) is;
  }
  go false is = record {
    made = ap (λ (x : CallBlocks). list_any (is_at off) x.made) is;
    new = ap (λ (x : CallBlocks). list_any (is_at off) x.made || list_any (is_at off) x.dropped) is;
    freed = ap (λ (x : CallBlocks). is_among x.freed off) is ∙ among_else (blocks_in v).freed id.off off differ;
  }
