-- What a publish frees and makes: the objects that are reserved come to be where they stand by the lane's words, once those that are to be freed are, and lie apart;
-- and the pool is the one before with them, and without those that were freed.
use Rattle.std.proofs.Common.{◌≡◌, ◌≢◌, ⊎_elim, inl, inr, ℕ, ◌+◌, ◌*◌, ◌-◌, ◌≤◌, ◌||◌, true, List, [], ◌++◌, length, map, Some, None, sym, ◌∙◌, ap, subst, arith}
use Rattle.std.specs.List.{All, Contains, list_any}
use Rattle.std.proofs.lemmas.List.Elements.{All-contains, Contains-append_left, Contains-append_right}
use Rattle.pm_layout.specs.Sizes.{class_of}
use Rattle.pm_objects.specs.Pool.{block_lines, object_at}
use Rattle.pm_objects.specs.declared.calls.Operation.TheVariants.{Publish}
use Rattle.pm_objects.specs.declared.ids.Oid.{Oid}
use Rattle.pm_objects.specs.declared.pool.Object.{Object}
use Rattle.pm_objects.specs.declared.pool.PoolView.{PoolView}
use Rattle.solo_model.specs.Actions.{Pending, Reservation, object_reserved}
use Rattle.solo_model.specs.Answers.{IsBeside, MayStand}
use Rattle.solo_model.specs.Bytes.{is_among}
use Rattle.solo_model.specs.Places.{CanHold}
use Rattle.solo_model.specs.Transaction.{Transaction, all_made, all_released}
use Rattle.solo_model.proofs.Blocks.{has_lines}
use Rattle.solo_view.specs.View.{Lock, View}
use Rattle.solo_crash.specs.CallBlocks.{CallBlocks, IsMadeIn, MayPrecede, NewObject, allocated_in, block_of, blocks_in, is_at, is_new_in, object_made, reserved_object, with_all_freed, with_all_made}
use Rattle.solo_crash.specs.HeapChanges.{AreDisjoint}
use Rattle.solo_crash.specs.OnActions.{CanFreeIn}
use Rattle.solo_crash.specs.OpenCall.{HasMade, IsChanged, TracksBlocks, block_at_line}
use Rattle.solo_crash.specs.Operations.{IsHeld, KeepsWords, Tells}
use Rattle.solo_crash.specs.Pending.{pending_in}
use Rattle.solo_crash.specs.Reserving.{HasReserved, StandsReserved}
use Rattle.solo_crash.proofs.CallBlocks.{SameNew, allocated_once_more, blocks_once_more, made_stays, object_stays}
use Rattle.solo_crash.proofs.Following.{Follows, all_released_follow}
use Rattle.solo_crash.proofs.Includes.{made_member}
use Rattle.solo_crash.proofs.LyingApart.{LiesApartIn, MayBeMade, all_released_apart}
use Rattle.solo_crash.proofs.MadeInTurn.{with_blocks_of, IsOfReserved, StandInTurn, StandsFree, all_lie_apart, all_stand_in_turn, blocks_alone, freed_beside, had_or_reserved}
use Rattle.solo_crash.proofs.NewPlaces.{apart_offsets}
use Rattle.solo_crash.proofs.NewStay.{before_all_freed, new_is_listed}

-- ---- what is reserved stands where nothing of this is freed

-- what is reserved is as it is to be made
pub reserved_is : (v : View) (r : Reservation) → StandsReserved v r → object_made v (reserved_object r) ≡ object_reserved r
reserved_is v r stands = (λ j. let o : Object = record { kind = r.kind; bytes = stands.bytes j; members = [] } in o)

-- it is at no offset of an object that can be freed
beside_freed : (v : View) → HasReserved v → (r : Reservation) → Contains (pending_in v).reserved r → (id : Oid) → CanFreeIn v id → r.off ≢ id.off
beside_freed v has r there id (inl can) same =
    let held : IsHeld v id true = can.0.0 in
    let some = can.0.1 in let place = held.place in let behind = (has.each r there).made.behind in let lines = has_lines (length r.bytes) in
    ⊎_elim
    (λ (before : (r.off - 64) + 64 * block_lines (class_of (length r.bytes)) ≤ 64 * held.lock.line). omega (arith, before, lines, same, place, behind))
    (λ (after : 64 * held.lock.line + 64 * held.lines ≤ r.off - 64). omega (arith, after, some, same, place, behind))
    (has.apart_found r held.lock held.lines there held.held held.block)
beside_freed v has r there id (inr made) same =
    apart_offsets (reserved_object r) made.new (has.each r there).made.behind (has.apart_made r made.new there (Contains-append_left (blocks_in v).made (blocks_in v).dropped made.new made.has)) (sym made.place ∙ sym same)

-- so its object may be made once those are freed
pub may_be_made : (v : View) → HasReserved v → (ids : List Oid) → All (CanFreeIn v) ids → (r : Reservation) → Contains (pending_in v).reserved r → MayBeMade (with_all_freed ids (blocks_in v)) (reserved_object r)
may_be_made v has ids frees r there = record {
  behind = (has.each r there).made.behind;
  apart = λ m new. has.apart_made r m there (before_all_freed ids (blocks_in v) m new);
  unfreed =
      freed_beside ids (blocks_in v) r.off (λ id within. beside_freed v has r there id (All-contains (CanFreeIn v) ids id frees within))
      ∙ has.unfreed r there;
}

-- what is reserved is new to the pool that the words hold, and to the one that was before
pub record IsNewTo (base start : PoolView) (r : Reservation) : Type 0 where
  pub beside : (off : ℕ) (object : Object) → object_at base.objects off ≡ Some object → IsBeside (length r.bytes) r.off (off, object)
  pub before : All (IsBeside (length r.bytes) r.off) start.objects
  pub place : CanHold base.lanes base.zones (class_of (length r.bytes)) r.off

-- ---- the call's blocks behind it

module _ (v next : View) (made : HasMade v) (reserved : HasReserved v) (tells : Tells v next Publish None) (words : KeepsWords v next) (frees : All (CanFreeIn v) (pending_in v).frees) where
  abbrev pub p : Pending
  p = pending_in v

  abbrev pub after_frees : CallBlocks
  after_frees = with_all_freed p.frees (blocks_in v)

  abbrev pub now : CallBlocks
  now = with_all_made p.reserved after_frees

  pub blocks_now : blocks_in next ≡ now
  blocks_now = blocks_once_more v next Publish None tells.keeps.entries tells.call

  pub allocated_now : allocated_in next ≡ allocated_in v ++ map reserved_object p.reserved
  allocated_now = allocated_once_more v next Publish None tells.keeps.entries tells.call

  made_cases : {P : NewObject → Type 0} → ((n : NewObject) → Contains (blocks_in v).made n → P n) → ((r : Reservation) → Contains p.reserved r → P (reserved_object r)) → (n : NewObject) → Contains (blocks_in next).made n → P n
  made_cases {P = P} before new n there = ⊎_elim (λ (was : Contains (blocks_in v).made n). before n was) (λ (of : IsOfReserved p.reserved n). subst P of.is_it (new of.one of.is_one))
      (had_or_reserved p.frees p.reserved (blocks_in v) n (subst (λ (b : CallBlocks). Contains b.made n) blocks_now there))

  -- each stands by the words that the lane had
  stood : (n : NewObject) → Contains (blocks_in next).made n → IsMadeIn v n
  stood = made_cases {P = IsMadeIn v} made.each (λ r there. (reserved.each r there).made)

  pub same_new : (n : NewObject) → Contains (blocks_in next).made n → SameNew v next n
  same_new n there i reads = words.words i ((stood n there).outside i reads)

  found_apart : (n : NewObject) → Contains (blocks_in next).made n → (l : Lock) (lines : ℕ) → Contains v.locks l → l.block ≡ Some lines → AreDisjoint (block_of n) (block_at_line l.line lines)
  found_apart = made_cases {P = λ (n : NewObject). (l : Lock) (lines : ℕ) → Contains v.locks l → l.block ≡ Some lines → AreDisjoint (block_of n) (block_at_line l.line lines)}
      (λ n there l lines held found. made.apart_found n l lines there held found)
      (λ r there l lines held found. reserved.apart_found r l lines there held found)

  pub lies_before : LiesApartIn (blocks_in v)
  lies_before = record { kept = made.kept; once = made.once; apart_new = made.apart_new; apart_gone = made.apart_gone }

  lies : LiesApartIn (blocks_in next)
  lies = subst LiesApartIn (sym blocks_now)
      (all_lie_apart p.reserved after_frees (all_released_apart p.frees (blocks_in v) lies_before) (λ r there. may_be_made v reserved p.frees frees r there) reserved.once reserved.apart)

  pub has : HasMade next
  has = record {
    each = λ n there. made_stays v next n tells.keeps.lane tells.keeps.known (same_new n there) (stood n there);
    listed = λ n there. new_is_listed next n (Contains-append_left (blocks_in next).made (blocks_in next).dropped n there);
    kept = lies.kept;
    once = lies.once;
    apart_new = lies.apart_new;
    apart_gone = lies.apart_gone;
    apart_found = λ n l lines there held found. found_apart n there l lines (subst (λ (ls : List Lock). Contains ls l) tells.locks held) found;
  }

  -- the lists follow the transaction
  module _ (base start : PoolView) (given : Transaction) (f : Follows (object_made v) base given (blocks_in v)) (began : given.before ≡ start) (none : given.actions.reserved ≡ [])
      (is_new : (r : Reservation) → Contains p.reserved r → IsNewTo base start r) where
    stands_free : (r : Reservation) → Contains p.reserved r → StandsFree (object_made v) base start after_frees r
    stands_free r there =
        let stands : StandsReserved v r = reserved.each r there in
        record {
          may = may_be_made v reserved p.frees frees r there;
          beside = (is_new r there).beside;
          before = (is_new r there).before;
          place = (is_new r there).place;
          some = subst (λ (n : ℕ). 1 ≤ n) stands.made.long stands.made.object.some;
          most = subst (λ (n : ℕ). n ≤ 262080) stands.made.long stands.made.object.most;
          is_it = reserved_is v r stands;
        }

    in_turn : StandInTurn (object_made v) base p.reserved (all_released p.frees given) after_frees
    in_turn =
        let released : Follows (object_made v) base (all_released p.frees given) after_frees = all_released_follow (object_made v) base p.frees given (blocks_in v) f in
        let alone : all_released p.frees given ≡ with_blocks_of (all_released p.frees given) given = blocks_alone p.frees [] given in
        all_stand_in_turn (object_made v) base start p.reserved (all_released p.frees given) after_frees released
        (ap (λ (x : Transaction). x.before) alone ∙ began) (ap (λ (x : Transaction). x.actions.reserved) alone ∙ none) stands_free reserved.once reserved.apart

    pub stand : MayStand p.reserved (all_released p.frees given)
    stand = in_turn.stand

    pub follows : Follows (object_made v) base (all_made p.reserved (all_released p.frees given)) now
    follows = in_turn.follows

    pub changed : IsChanged next base (all_made p.reserved (all_released p.frees given)).pool
    changed = record {
      fixed = follows.fixed;
      rising = follows.rising;
      new = λ n there. follows.new n (subst (λ (b : CallBlocks). Contains b.made n) blocks_now there) ∙ ap (λ (o : Object). Some o) (sym (object_stays v next n (same_new n there)));
      gone = λ off freed. follows.gone off (ap (λ (b : CallBlocks). is_among b.freed off) (sym blocks_now) ∙ freed);
      others = λ off not_made kept. follows.others off (ap (λ (b : CallBlocks). list_any (is_at off) b.made) (sym blocks_now) ∙ not_made) (ap (λ (b : CallBlocks). is_among b.freed off) (sym blocks_now) ∙ kept);
    }

    pub unfound : (off : ℕ) → is_new_in next off ≡ true → object_at base.objects off ≡ None
    unfound off new = follows.unfound off (ap (λ (b : CallBlocks). list_any (is_at off) b.made || list_any (is_at off) b.dropped) (sym blocks_now) ∙ new)

    pub tracks : TracksBlocks (all_made p.reserved (all_released p.frees given)) (blocks_in next)
    tracks = subst (TracksBlocks (all_made p.reserved (all_released p.frees given))) (sym blocks_now) follows.tracks

  -- no object of a pool that may be the one before the call stands in the way
  pub beside_before : (pool : PoolView) → MayPrecede pool next → (r : Reservation) → Contains p.reserved r → All (IsBeside (length r.bytes) r.off) pool.objects
  beside_before pool may r there = All-contains (λ (m : NewObject). All (IsBeside m.size m.off) pool.objects) (allocated_in next) (reserved_object r) may.room
      (subst (λ (ns : List NewObject). Contains ns (reserved_object r)) (sym allocated_now) (Contains-append_right (allocated_in v) (map reserved_object p.reserved) (reserved_object r) (made_member reserved_object p.reserved r there)))
