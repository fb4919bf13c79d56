-- A new object that a call makes is the plain model's allocation: no object of the pool, nor one that the call dropped, stands in its way.
use Rattle.std.proofs.Common.{◌≡◌, ◌≢◌, ◌⊎◌, ⊎_elim, inl, inr, ℕ, ◌+◌, ◌*◌, ◌≤◌, ◌||◌, Bool, true, false, eqb, ltb, List, [], ◌∷◌, ◌++◌, length, Option, Some, None, MatchOption, refl, sym, ◌∙◌, ap, subst, arith}
use Rattle.std.specs.List.{All, Contains, find, list_any}
use Rattle.std.specs.Option.{option_map}
use Rattle.std.proofs.lemmas.Bool.{eq-eqb, eqb-true, false_from_ne_true, false≢true, le-ltb, ne_eqb, or_cases, or_from, or_left, or_parts, or_right}
use Rattle.std.proofs.lemmas.List.{append-nil, map-append}
use Rattle.std.proofs.lemmas.List.Elements.{All-contains, All-nil, Contains-append_left, Contains-append_right, Contains-push, Contains-push_cases}
use Rattle.std.proofs.lemmas.List.Folds.{Any-from_list_any, list_any-append}
use Rattle.pm_header.specs.declared.header.Header.{Header}
use Rattle.pm_objects.specs.Pool.{object_at}
use Rattle.pm_objects.specs.declared.calls.Operation.TheVariants.{Alloc}
use Rattle.pm_objects.specs.declared.history.TxErr.TheVariants as error
use Rattle.pm_objects.specs.declared.history.Value.TheVariants.{Offset}
use Rattle.pm_objects.specs.declared.pool.Object.{Object}
use Rattle.pm_objects.specs.declared.pool.PoolView.{PoolView}
use Rattle.pm_objects.specs.declared.refusal.Refusal.{Refusal}
use Rattle.pm_objects.specs.declared.refusal.Refusal.TheVariants as refusal
use Rattle.pm_image.specs.Blocks.{blocks}
use Rattle.pm_image.specs.Contents.{size_in}
use Rattle.solo_model.specs.declared.stage.Stage.TheVariants as stage
use Rattle.solo_model.specs.Actions.{max_entries}
use Rattle.solo_model.specs.Answers.{Answers, IsBeside, IsDone, IsNewPlace, IsRefused, after_reply}
use Rattle.solo_model.specs.Bytes.{is_among}
use Rattle.solo_model.specs.Checks.{first_refusal}
use Rattle.solo_model.specs.NewObjects.{new_object, with_object}
use Rattle.solo_model.specs.Transaction.{entries_of, locked_all}
use Rattle.solo_model.proofs.Blocks.{none_beside}
use Rattle.solo_model.proofs.ObjectsByOffset.{more_elsewhere, more_rise, more_there}
use Rattle.solo_view.specs.Log.{Recorded}
use Rattle.solo_view.specs.View.{View, Lock}
use Rattle.solo_crash.specs.CallBlocks.{CallBlocks, IsMadeIn, MayPrecede, NewObject, allocated_in, block_of, blocks_in, is_at, is_freed_in, is_gone_in, is_made_in, is_new_in, object_made, with_made}
use Rattle.solo_crash.specs.Held.{HoldsPool}
use Rattle.solo_crash.specs.HeapChanges.{AreDisjoint}
use Rattle.solo_crash.specs.OpenCall.{ComesTo, HasMade, IsChanged, IsUnderWay, LieApart, TracksBlocks, block_at_line, call_words, words_recorded, IsPerformable}
use Rattle.solo_crash.specs.Operations.{AllocatesObject, entries_so_far}
use Rattle.solo_crash.proofs.CallBlocks.{SameNew, allocated_once_more, blocks_once_more, made_stays, object_stays}
use Rattle.solo_crash.proofs.CallWords.{as_many_entries, call_works, locks_kept}
use Rattle.solo_crash.proofs.Continued.{known_new, still_under_way, Continues, GoesBack}
use Rattle.solo_crash.proofs.KeptWords.{known_goes_back, same_found, same_known_words}
use Rattle.solo_crash.proofs.ManyObjects.{AreOnce}
use Rattle.solo_crash.proofs.NewPlaces.{apart_offsets, beside_all, new_place}
use Rattle.solo_crash.proofs.OnceMade.{once_more}
use Rattle.solo_crash.proofs.Passing.{no_tx, no_work, not_busy, not_missing, not_spent, unhindered, Works}

-- ---- the allocation

module _ (v next : View) (n : NewObject) (level : ℕ) (some_level : 1 ≤ level) (under_way : IsUnderWay v level stage.Work error.None) (alloc : AllocatesObject v next n) where
  abbrev now : CallBlocks
  now = with_made n (blocks_in v)

  blocks_now : blocks_in next ≡ now
  blocks_now = blocks_once_more v next (Alloc n.size n.kind) (Some (Offset n.off)) alloc.tells.keeps.entries alloc.tells.call

  allocated_now : allocated_in next ≡ allocated_in v ++ n ∷ []
  allocated_now = allocated_once_more v next (Alloc n.size n.kind) (Some (Offset n.off)) alloc.tells.keeps.entries alloc.tells.call

  same_new : (m : NewObject) → Contains (blocks_in v).made m → SameNew v next m
  same_new = known_new v next alloc.keeps under_way.has.each

  made_cases : (m : NewObject) → Contains (blocks_in next).made m → Contains (blocks_in v).made m ⊎ (m ≡ n)
  made_cases m there = ⊎_elim (λ (before : Contains (blocks_in v).made m). inl before) (λ (same : n ≡ m). inr (sym same)) (Contains-push_cases (blocks_in v).made n m (subst (λ (b : CallBlocks). Contains b.made m) blocks_now there))

  makes : (m : NewObject) → Contains (blocks_in next).made m → IsMadeIn next m
  makes m there = ⊎_elim
      (λ (before : Contains (blocks_in v).made m). made_stays v next m alloc.tells.keeps.lane alloc.tells.keeps.known (same_new m before) (under_way.has.each m before))
      (λ (same : m ≡ n). subst (IsMadeIn next) (sym same) alloc.made)
      (made_cases m there)

  apart : LieApart next
  apart m l lines there held found =
      let held_before : Contains v.locks l = subst (λ (ls : List Lock). Contains ls l) alloc.tells.locks held in
      ⊎_elim
      (λ (before : Contains (blocks_in v).made m). under_way.has.apart_found m l lines before held_before found)
      (λ (same : m ≡ n). subst (λ (x : NewObject). AreDisjoint (block_of x) (block_at_line l.line lines)) (sym same) (alloc.apart_found l lines held_before found))
      (made_cases m there)

  turned : (m : NewObject) → Contains (blocks_in v).made m → AreDisjoint (block_of m) (block_of n)
  turned m there = ⊎_elim (λ (before : (block_of n).place + 64 * (block_of n).lines ≤ (block_of m).place). inr before) (λ (behind : (block_of m).place + 64 * (block_of m).lines ≤ (block_of n).place). inl behind)
      (alloc.apart_made m (Contains-append_left (blocks_in v).made (blocks_in v).dropped m there))

  elsewhere : (m : NewObject) → Contains (blocks_in v).made m → m.off ≢ n.off
  elsewhere m there = apart_offsets n m alloc.made.behind (alloc.apart_made m (Contains-append_left (blocks_in v).made (blocks_in v).dropped m there))

  apart_new : (m k : NewObject) → Contains (blocks_in next).made m → Contains (blocks_in next).made k → m.off ≢ k.off → AreDisjoint (block_of m) (block_of k)
  apart_new m k there too differ = ⊎_elim
      (λ (before : Contains (blocks_in v).made m). ⊎_elim
      (λ (also : Contains (blocks_in v).made k). under_way.has.apart_new m k before also differ)
      (λ (same : k ≡ n). subst (λ (x : NewObject). AreDisjoint (block_of m) (block_of x)) (sym same) (turned m before))
      (made_cases k too))
      (λ (same : m ≡ n). ⊎_elim
      (λ (before : Contains (blocks_in v).made k). subst (λ (x : NewObject). AreDisjoint (block_of x) (block_of k)) (sym same) (alloc.apart_made k (Contains-append_left (blocks_in v).made (blocks_in v).dropped k before)))
      (λ (also : k ≡ n). absurd (differ (ap (λ (x : NewObject). x.off) (same ∙ sym also))))
      (made_cases k too))
      (made_cases m there)

  -- nothing that is gone was where it stands
  gone_not : is_gone_in v n.off ≡ false
  gone_not = or_from (is_freed_in v n.off) (list_any (is_at n.off) (blocks_in v).dropped) alloc.unfreed (false_from_ne_true (list_any (is_at n.off) (blocks_in v).dropped) (λ dropped.
      let t = Any-from_list_any (is_at n.off) (blocks_in v).dropped dropped in
      apart_offsets n t.1 alloc.made.behind (alloc.apart_made t.1 (Contains-append_right (blocks_in v).made (blocks_in v).dropped t.1 (t.0, t.2, t.3))) (eqb-true t.1.off n.off t.4)))

  -- where it stands no object was made before
  not_made_there : is_made_in v n.off ≡ false
  not_made_there = false_from_ne_true (is_made_in v n.off) (λ made.
      let t = Any-from_list_any (is_at n.off) (blocks_in v).made made in
      let there : Contains (blocks_in v).made t.1 = (t.0, t.2, t.3) in
      apart_offsets n t.1 alloc.made.behind (alloc.apart_made t.1 (Contains-append_left (blocks_in v).made (blocks_in v).dropped t.1 there)) (eqb-true t.1.off n.off t.4))

  has : HasMade next
  has = record {
    each = makes;
    listed = λ m there. subst (λ (ns : List NewObject). Contains ns m) (sym allocated_now) (⊎_elim
        (λ (before : Contains (blocks_in v).made m). Contains-append_left (allocated_in v) (n ∷ []) m (under_way.has.listed m before))
        (λ (same : m ≡ n). subst (Contains (allocated_in v ++ n ∷ [])) (sym same) (Contains-push (allocated_in v) n))
        (made_cases m there));
    kept = λ m there. ap (λ (b : CallBlocks). is_among b.freed m.off || list_any (is_at m.off) b.dropped) blocks_now ∙ ⊎_elim
        (λ (before : Contains (blocks_in v).made m). under_way.has.kept m before)
        (λ (same : m ≡ n). ap (λ (x : NewObject). is_gone_in v x.off) same ∙ gone_not)
        (made_cases m there);
    once = subst (λ (b : CallBlocks). AreOnce b.made) (sym blocks_now) (once_more (blocks_in v).made n under_way.has.once not_made_there);
    apart_new = apart_new;
    apart_gone = λ m k there gone.
        let dropped : Contains (blocks_in v).dropped k = subst (λ (b : CallBlocks). Contains b.dropped k) blocks_now gone in
        ⊎_elim
        (λ (before : Contains (blocks_in v).made m). under_way.has.apart_gone m k before dropped)
        (λ (same : m ≡ n). subst (λ (x : NewObject). AreDisjoint (block_of x) (block_of k)) (sym same) (alloc.apart_made k (Contains-append_right (blocks_in v).made (blocks_in v).dropped k dropped)))
        (made_cases m there);
    apart_found = apart;
  }

  back : GoesBack v next
  back = known_goes_back v next alloc.tells.keeps (same_found v next alloc.tells.locks) alloc.logs alloc.keeps under_way.outside under_way.under

  module _ (w : ℕ → ℕ) (header : Header) (pool : PoolView) (holds : HoldsPool w v.lanes v.zones header pool) (may : MayPrecede pool next) (c : ComesTo v w header pool level stage.Work error.None) where
    -- no object of the pool before the call stands in its way
    beside_before : All (IsBeside n.size n.off) pool.objects
    beside_before = All-contains (λ (m : NewObject). All (IsBeside m.size m.off) pool.objects) (allocated_in next) n may.room (subst (λ (ns : List NewObject). Contains ns n) (sym allocated_now) (Contains-push (allocated_in v) n))

    place : IsNewPlace c.tx n.size n.off
    place = new_place v n level under_way alloc.apart_made w header pool holds beside_before c alloc.place alloc.unreserved

    none_there : object_at c.tx.pool.objects n.off ≡ None
    none_there = none_beside n.size n.off c.tx.pool.objects (beside_all v n level under_way alloc.apart_made w header pool holds beside_before c)

    none_in_base : object_at c.base.objects n.off ≡ None
    none_in_base = sym (c.changed.others n.off not_made_there alloc.unfreed) ∙ none_there

    -- it is not refused
    passes : first_refusal unhindered c.tx (Alloc n.size n.kind) ≡ None
    unfolding first_refusal locked_all
    passes =
        let works : Works c.tx = call_works v w header pool level some_level under_way c in
        let some = alloc.some in let most = alloc.most in
        let sized : (eqb n.size 0 || ltb 262080 n.size) ≡ false = or_from (eqb n.size 0) (ltb 262080 n.size) (ne_eqb n.size 0 (λ none. omega (arith, some, none))) (le-ltb 262080 n.size (omega (arith, most))) in
        let enough = alloc.room in
        let entries : entries_of c.tx ≡ entries_so_far v = as_many_entries v w header pool level c in
        let roomy : ltb max_entries (entries_of c.tx + 2) ≡ false = le-ltb max_entries (entries_of c.tx + 2) (omega (arith, entries, enough)) in
        (λ j. option_map (λ (check : Refusal × Bool). check.0) (find (λ (check : Refusal × Bool). check.1)
        ((refusal.NotWork, no_work c.tx works j)
        ∷ (refusal.NoTx, no_tx c.tx (Alloc n.size n.kind) works j)
        ∷ (refusal.Spent, not_spent c.tx j)
        ∷ (refusal.Deep, false)
        ∷ (refusal.LocksFull, (le-ltb 64 (length c.tx.locks) works.few) j)
        ∷ (refusal.Unaligned, false)
        ∷ (refusal.BadSize, sized j)
        ∷ (refusal.NotLocked, false)
        ∷ (refusal.NoObject, false)
        ∷ (refusal.Busy, not_busy c.tx (Alloc n.size n.kind) j)
        ∷ (refusal.NoObject, not_missing c.tx (Alloc n.size n.kind) j)
        ∷ (refusal.NoObject, false)
        ∷ (refusal.RootKept, false)
        ∷ (refusal.Listed, false)
        ∷ (refusal.OutOfRange, false)
        ∷ (refusal.NotAdded, false)
        ∷ (refusal.LogFull, false)
        ∷ (refusal.ActionsFull, roomy j)
        ∷ (refusal.NoSpace, false)
        ∷ [])))

    answers : Answers c.tx (Alloc n.size n.kind) (Some (Offset n.off))
    answers =
        let op = Alloc n.size n.kind in
        let done : IsDone c.tx (Alloc n.size n.kind) (Some (Offset n.off)) = record { there = λ k d inside. absurd (omega (arith, inside)); stands = tt; value = (n.off, place, refl) } in
        record {
          known = refl;
          seen = unhindered;
          answer = subst (λ (fr : Option Refusal). MatchOption fr (IsDone c.tx (Alloc n.size n.kind) (Some (Offset n.off))) (λ r. IsRefused r (Some (Offset n.off)))) (sym passes) done;
        }

    -- the pool has it
    changed : IsChanged next c.base (record c.tx.pool { objects = with_object n.off (new_object n.kind n.size) c.tx.pool.objects })
    changed = record {
      fixed = (λ j. let p : PoolView = record (c.changed.fixed j) { objects = with_object n.off (new_object n.kind n.size) c.tx.pool.objects } in p);
      rising = more_rise c.tx.pool.objects n.off (new_object n.kind n.size) c.changed.rising none_there;
      new = λ m there. ⊎_elim
          (λ (before : Contains (blocks_in v).made m).
          more_elsewhere c.tx.pool.objects n.off m.off (new_object n.kind n.size)
          (elsewhere m before)
          ∙ c.changed.new m before ∙ ap (λ (o : Object). Some o) (sym (object_stays v next m (same_new m before))))
          (λ (same : m ≡ n).
          ap (λ (x : NewObject). object_at (with_object n.off (new_object n.kind n.size) c.tx.pool.objects) x.off) same
          ∙ more_there c.tx.pool.objects n.off (new_object n.kind n.size) none_there ∙ ap (λ (o : Object). Some o) (sym alloc.zeros) ∙ ap (λ (x : NewObject). Some (object_made next x)) (sym same))
          (made_cases m there);
      gone = λ off freed.
          let before : is_freed_in v off ≡ true = ap (λ (b : CallBlocks). is_among b.freed off) (sym blocks_now) ∙ freed in
          more_elsewhere c.tx.pool.objects n.off off (new_object n.kind n.size) (λ same. false≢true (sym alloc.unfreed ∙ (ap (is_freed_in v) (sym same) ∙ before))) ∙ c.changed.gone off before;
      others = λ off not_made kept.
          let parts = or_parts (is_made_in v off) (eqb n.off off || false) (sym (list_any-append (is_at off) (blocks_in v).made (n ∷ [])) ∙ (ap (λ (b : CallBlocks). list_any (is_at off) b.made) (sym blocks_now) ∙ not_made)) in
          more_elsewhere c.tx.pool.objects n.off off (new_object n.kind n.size) (λ same. false≢true (sym (or_parts (eqb n.off off) false parts.1).0 ∙ eq-eqb n.off off (sym same)))
          ∙ c.changed.others off parts.0 (ap (λ (b : CallBlocks). is_among b.freed off) (sym blocks_now) ∙ kept);
    }

    unfound : (off : ℕ) → is_new_in next off ≡ true → object_at c.base.objects off ≡ None
    unfound off new = ⊎_elim
        (λ (made : list_any (is_at off) now.made ≡ true). ⊎_elim
        (λ (before : is_made_in v off ≡ true). c.unfound off (or_left (is_made_in v off) (list_any (is_at off) (blocks_in v).dropped) before))
        (λ (here : (eqb n.off off || false) ≡ true). ap (object_at c.base.objects) (sym (eqb-true n.off off (one_of (eqb n.off off) here))) ∙ none_in_base)
        (or_cases (is_made_in v off) (eqb n.off off || false) (sym (list_any-append (is_at off) (blocks_in v).made (n ∷ [])) ∙ made)))
        (λ (dropped : list_any (is_at off) now.dropped ≡ true). c.unfound off (or_right (is_made_in v off) (list_any (is_at off) (blocks_in v).dropped) dropped))
        (or_cases (list_any (is_at off) now.made) (list_any (is_at off) now.dropped) (ap (λ (b : CallBlocks). list_any (is_at off) b.made || list_any (is_at off) b.dropped) (sym blocks_now) ∙ new)) where
          one_of : (b : Bool) → (b || false) ≡ true → b ≡ true
          one_of true is = refl
          one_of false is = is

    continues : Continues v next w header (Alloc n.size n.kind) (Some (Offset n.off)) level c.tx
    continues =
        let same : call_words next w ≡ call_words v w = same_known_words v next alloc.logs.records alloc.keeps under_way.outside w in
        record {
          answers = answers;
          base = c.base;
          holds = subst (λ (f : ℕ → ℕ). HoldsPool f v.lanes v.zones header c.base) (sym same) c.holds;
          changed = changed;
          unfound = unfound;
          tracks = subst (TracksBlocks (after_reply (Alloc n.size n.kind) (Some (Offset n.off)) c.tx)) (sym blocks_now) (record {
            made = ap (λ (offs : List ℕ). offs ++ n.off ∷ []) c.tracks.made ∙ sym (map-append (λ (m : NewObject). m.off) (blocks_in v).made (n ∷ []));
            dropped = c.tracks.dropped;
            freed = c.tracks.freed;
          });
          before = refl;
          locks = locks_kept c.tx v next alloc.tells.locks c.locks;
          recorded = c.recorded ∙ ap words_recorded (sym alloc.logs.records);
          records = c.records ∙ ap (λ (rs : List Recorded). length rs) (sym alloc.logs.records);
          levels = c.levels;
          stands = refl;
          fails = refl;
          moved = sym (append-nil c.tx.moved);
          performable = All-nil (IsPerformable v w);
          blocks_stay = ap (λ (f : ℕ → ℕ). blocks f v.lanes v.zones) same;
          sizes_stay = λ block there. ap (λ (f : ℕ → ℕ). size_in f block) same;
        }

-- so a call goes on with a new object
pub alloc_goes_on : (v next : View) (n : NewObject) (level : ℕ) → 1 ≤ level → IsUnderWay v level stage.Work error.None → AllocatesObject v next n → IsUnderWay next level stage.Work error.None
alloc_goes_on v next n level some under_way alloc =
    still_under_way v next level level (Alloc n.size n.kind) (Some (Offset n.off)) under_way alloc.tells (back v next n level some under_way alloc) (has v next n level some under_way alloc)
    (λ w header pool holds same_id before next_before room c. continues v next n level some under_way alloc w header pool holds room c)
