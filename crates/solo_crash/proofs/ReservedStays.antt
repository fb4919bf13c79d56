-- What a lane has reserved it has still behind each other operation of its call, behind its end, and as another begins.
use Rattle.std.proofs.Common.{◌≡◌, ◌≢◌, ◌⊎◌, ⊎_elim, inl, inr, ℕ, ◌+◌, ◌-◌, ◌*◌, ◌≤◌, ◌||◌, Bool, true, false, cond, List, [], ◌∷◌, ◌++◌, length, map, slice_index, Option, Some, None, refl, sym, ◌∙◌, ap, subst, arith}
use Rattle.std.specs.Prelude.{nat_eq}
use Rattle.std.specs.List.{Contains, IsDistinct}
use Rattle.std.proofs.lemmas.Bool.{false_from_ne_true, false≢true}
use Rattle.std.proofs.lemmas.List.Elements.{All-contains, Contains-append_left, Contains-push_cases}
use Rattle.pm_image.proofs.Members.{no_member}
use Rattle.pm_image.specs.Reads.{ReadsBlock}
use Rattle.pm_layout.specs.Sizes.{class_of}
use Rattle.pm_objects.specs.Pool.{block_lines}
use Rattle.pm_objects.specs.declared.calls.Operation.{Operation}
use Rattle.pm_objects.specs.declared.calls.Operation.TheVariants.{Alloc, Begin, Cancel, DeferFree, Free, Publish, Reserve, SetValue, Write, WriteReserved}
use Rattle.pm_objects.specs.declared.calls.Want.{Want}
use Rattle.pm_objects.specs.declared.history.Value.{Value}
use Rattle.pm_objects.specs.declared.history.Value.TheVariants.{Offset, Refused}
use Rattle.pm_objects.specs.declared.ids.Oid.{Oid}
use Rattle.pm_objects.specs.declared.refusal.Refusal.{Refusal}
use Rattle.pm_objects.specs.declared.refusal.Refusal.TheVariants as refusal
use Rattle.solo_model.specs.Transaction.{Lock as Locked}
use Rattle.solo_model.specs.Actions.{Pending, Reservation, none_pending}
use Rattle.solo_model.specs.Answers.{IsBesideReserved}
use Rattle.solo_model.specs.Bytes.{is_among}
use Rattle.solo_model.proofs.Blocks.{has_lines}
use Rattle.solo_view.specs.Area.{is_in_area}
use Rattle.solo_view.specs.View.{View}
use Rattle.solo_world.specs.Records.{is_recorded}
use Rattle.solo_model.specs.Answers.{changes_nothing}
use Rattle.solo_model.specs.Checks.{is_action}
use Rattle.solo_crash.specs.CallBlocks.{CallBlocks, LeavesReserved, NewObject, block_of, blocks_behind, blocks_in, blocks_told, no_blocks, reserved_object}
use Rattle.solo_crash.specs.HeapChanges.{AreDisjoint}
use Rattle.solo_crash.specs.OnActions.{ChangesPending, IsPendingAnswer}
use Rattle.solo_crash.specs.OpenCall.{HasMade, RecordsUnder, locks_of}
use Rattle.solo_crash.specs.Operations.{AllocatesObject, BeginsCall, BeginsLevel, FreesFound, FreesMade, IsBeginReason, KeepsKnown, KeepsLane, RefusesLevel, TakesBack, Tells, TellsNothing, WritesBytes, WritesNewBytes}
use Rattle.solo_crash.specs.Pending.{pending_before, pending_behind, pending_from, pending_in, pending_told}
use Rattle.solo_crash.specs.Reserving.{HasReserved, ReservedLieApart, RestsBehind, block_reserved}
use Rattle.solo_crash.specs.Writes.{words_written}
use Rattle.solo_crash.proofs.ActionsOn.{pending_allocates_none, pending_leaves}
use Rattle.solo_crash.proofs.CallBlocks.{SameNew, blocks_once_more, same_blocks}
use Rattle.solo_crash.proofs.Covered.{written_words}
use Rattle.solo_crash.proofs.FreeOn.{others_are_same}
use Rattle.solo_crash.proofs.KeptWords.{keeps_known}
use Rattle.solo_crash.proofs.NewPlaces.{apart_offsets}
use Rattle.solo_crash.proofs.NewStay.{before_free, before_made, news_in}
use Rattle.solo_crash.proofs.PendingOn.{calls_further, pending_first, pending_once_more, pending_same, same_before}
use Rattle.solo_crash.proofs.ReservedOn.{known_same, none_reserved, not_under, reserved_stays, reserved_told, same_apart, stands_so, turned}
use Rattle.solo_crash.proofs.WritesWithin.{other_same, WritesWithin}

-- ---- an operation that leaves what is reserved, or gives it up

pub reserved_or_none : (op : Operation) (reply : Option Value) (p : Pending) → LeavesReserved op reply p → ((pending_behind op reply p).reserved ≡ p.reserved) ⊎ ((pending_behind op reply p).reserved ≡ [])
reserved_or_none op (Some (Refused r)) p leaves = inl refl
reserved_or_none (Reserve size kind) (Some (Offset off)) p leaves = let none = leaves.0 in absurd cc
reserved_or_none (WriteReserved id off bytes) reply p leaves = absurd (false≢true (sym leaves.1))
reserved_or_none (DeferFree id) reply p leaves = inl refl
reserved_or_none (SetValue id off value) reply p leaves = inl refl
reserved_or_none Publish reply p leaves = inr refl
reserved_or_none Cancel reply p leaves = inr refl
reserved_or_none op reply p leaves = inl refl

-- so what is reserved is the same, or nothing is
pub reserved_then : (v next : View) (op : Operation) (reply : Option Value) → next.entries ≡ v.entries → next.call ≡ v.call ++ record { operation = op; reply = reply } ∷ [] → LeavesReserved op reply (pending_in v)
    → ((pending_in next).reserved ≡ (pending_in v).reserved) ⊎ ((pending_in next).reserved ≡ [])
reserved_then v next op reply entries call leaves =
    let now : (pending_in next).reserved ≡ (pending_behind op reply (pending_in v)).reserved = ap (λ (p : Pending). p.reserved) (pending_once_more v next op reply entries call) in
    ⊎_elim
    (λ (same : (pending_behind op reply (pending_in v)).reserved ≡ (pending_in v).reserved). inl (now ∙ same))
    (λ (none : (pending_behind op reply (pending_in v)).reserved ≡ []). inr (now ∙ none))
    (reserved_or_none op reply (pending_in v) leaves)

pub told_stays : (v next : View) (op : Operation) (reply : Option Value) → HasReserved v → Tells v next op reply → KeepsKnown v next → LeavesReserved op reply (pending_in v)
    → blocks_behind op reply (pending_in v) (blocks_in v) ≡ blocks_in v → HasReserved next
told_stays v next op reply has tells keeps leaves blocks_same = ⊎_elim
    (λ (same : (pending_behind op reply (pending_in v)).reserved ≡ (pending_in v).reserved). reserved_told v next op reply has tells keeps blocks_same same)
    (λ (none : (pending_behind op reply (pending_in v)).reserved ≡ []).
    none_reserved next (ap (λ (p : Pending). p.reserved) (pending_once_more v next op reply tells.keeps.entries tells.call) ∙ none))
    (reserved_or_none op reply (pending_in v) leaves)

-- a call on what is pending alone makes and writes none
pending_puts_none : (p q : Pending) (op : Operation) (reply : Option Value) → IsPendingAnswer p op reply → LeavesReserved op reply q
pending_puts_none p q (SetValue id off value) reply answer = (pending_allocates_none p q (SetValue id off value) reply answer, refl)
pending_puts_none p q (DeferFree id) reply answer = (pending_allocates_none p q (DeferFree id) reply answer, refl)
pending_puts_none p q Cancel reply answer = (pending_allocates_none p q Cancel reply answer, refl)
pending_puts_none p q op reply answer = absurd answer

pub change_stays : (v next : View) (op : Operation) (reply : Option Value) → HasReserved v → ChangesPending v next op reply → HasReserved next
change_stays v next op reply has changes =
    told_stays v next op reply has changes.tells (keeps_known v next changes.words) (pending_puts_none (pending_in v) (pending_in v) op reply changes.answer)
    (pending_leaves (pending_in v) (pending_in v) op reply (blocks_in v) changes.answer)

-- a publish makes it all, so nothing is reserved then
pub publish_leaves_none : (v next : View) → Tells v next Publish None → HasReserved next
publish_leaves_none v next tells = none_reserved next (ap (λ (p : Pending). p.reserved) (pending_once_more v next Publish None tells.keeps.entries tells.call))

pub quietly_stays : (v next : View) → HasReserved v → TellsNothing v next → KeepsKnown v next → HasReserved next
quietly_stays v next has quiet keeps =
    let blocks_same : blocks_in next ≡ blocks_in v = same_blocks v next quiet.keeps.entries quiet.call in
    reserved_stays v next has (record {
      lane = quiet.keeps;
      reserved = ap (λ (p : Pending). p.reserved) (pending_same v next quiet.keeps.entries quiet.call);
      words = λ r there. known_same v next r keeps (has.each r there);
      made = λ r m there new. has.apart_made r m there (subst (λ (b : CallBlocks). Contains (news_in b) m) blocks_same new);
      found = same_apart v next quiet.locks has;
      unfreed = λ r there. ap (λ (b : CallBlocks). is_among b.freed r.off) blocks_same ∙ has.unfreed r there;
    })

-- ---- writes

-- no word of it is recorded, since records are of what the lane found
not_recorded : (v : View) (r : Reservation) (i : ℕ) → HasReserved v → RecordsUnder v → Contains (pending_in v).reserved r → ReadsBlock (slice_index v.words) (block_reserved r) i → is_recorded v.log.records i ≡ false
not_recorded v r i has under there reads = false_from_ne_true (is_recorded v.log.records i) (λ recorded. not_under v r i has there reads (under i recorded))

module _ (v next : View) (id : Oid) (off : ℕ) (bytes : List ℕ) (has : HasReserved v) (tells : Tells v next (Write id off bytes) None) where
  blocks_same : blocks_in next ≡ blocks_in v
  blocks_same = blocks_once_more v next (Write id off bytes) None tells.keeps.entries tells.call

  write_stays_so : ((r : Reservation) → Contains (pending_in v).reserved r → SameNew v next (reserved_object r)) → HasReserved next
  write_stays_so words = reserved_stays v next has (record {
    lane = tells.keeps;
    reserved = ap (λ (p : Pending). p.reserved) (pending_once_more v next (Write id off bytes) None tells.keeps.entries tells.call);
    words = words;
    made = λ r m there new. has.apart_made r m there (subst (λ (b : CallBlocks). Contains (news_in b) m) blocks_same new);
    found = same_apart v next tells.locks has;
    unfreed = λ r there. ap (λ (b : CallBlocks). is_among b.freed r.off) blocks_same ∙ has.unfreed r there;
  })

pub write_stays : (v next : View) (id : Oid) (off : ℕ) (bytes : List ℕ) → HasReserved v → RecordsUnder v → WritesBytes v next id off bytes → HasReserved next
write_stays v next id off bytes has under writes =
    write_stays_so v next id off bytes has writes.tells
    (λ r there i reads.
    writes.written i ((has.each r there).made.outside i reads)
    ∙ (written_words (slice_index v.words) (id.off + off) bytes).others i (λ covered. false≢true (sym (not_recorded v r i has under there reads) ∙ writes.added i covered)))

pub new_write_stays : (v next : View) (id : Oid) (off : ℕ) (bytes : List ℕ) → HasReserved v → HasMade v → WritesNewBytes v next id off bytes → HasReserved next
new_write_stays v next id off bytes has made writes =
    let n : NewObject = writes.range.made.new in
    let new : Contains (news_in (blocks_in v)) n = Contains-append_left (blocks_in v).made (blocks_in v).dropped n writes.range.made.has in
    let within : WritesWithin v next n off bytes = record {
      stands = made.each n writes.range.made.has;
      inside = writes.range.inside;
      are_bytes = writes.are_bytes;
      written = subst (λ (o : ℕ). (i : ℕ) → is_in_area v.lane i ≡ false → slice_index next.words i ≡ words_written (o + off) bytes (slice_index v.words) i) writes.range.made.place writes.written;
    } in
    write_stays_so v next id off bytes has writes.tells
    (λ r there. other_same v next n off bytes within (reserved_object r) (has.each r there).made (turned (block_reserved r) (block_of n) (has.apart_made r n there new)))

-- ---- objects that are made, and freed

pub alloc_stays : (v next : View) (n : NewObject) → HasReserved v → AllocatesObject v next n → HasReserved next
alloc_stays v next n has alloc =
    let blocks_now = blocks_once_more v next (Alloc n.size n.kind) (Some (Offset n.off)) alloc.tells.keeps.entries alloc.tells.call in
    reserved_stays v next has (record {
      lane = alloc.tells.keeps;
      reserved = ap (λ (p : Pending). p.reserved) (pending_once_more v next (Alloc n.size n.kind) (Some (Offset n.off)) alloc.tells.keeps.entries alloc.tells.call);
      words = λ r there. known_same v next r alloc.keeps (has.each r there);
      made = λ r m there new. ⊎_elim
          (λ (before : Contains (news_in (blocks_in v)) m). has.apart_made r m there before)
          (λ (here : Contains (n ∷ []) m). subst (λ (x : NewObject). AreDisjoint (block_reserved r) (block_of x)) (Contains-one n m here)
          (turned (block_of n) (block_reserved r) (All-contains (IsBesideReserved n.size n.off) (pending_in v).reserved r alloc.unreserved there)))
          (before_made n (blocks_in v) m (subst (λ (b : CallBlocks). Contains (news_in b) m) blocks_now new));
      found = same_apart v next alloc.tells.locks has;
      unfreed = λ r there. ap (λ (b : CallBlocks). is_among b.freed r.off) blocks_now ∙ has.unfreed r there;
    }) where
      Contains-one : (n m : NewObject) → Contains (n ∷ []) m → n ≡ m
      Contains-one n m here = ⊎_elim (λ (none : Contains [] m). absurd (no_member m none)) (λ (is : n ≡ m). is) (Contains-push_cases [] n m here)

-- nothing that is reserved is where an object is freed
free_stays : (v next : View) (id : Oid) → HasReserved v → Tells v next (Free id) None → KeepsKnown v next → ((r : Reservation) → Contains (pending_in v).reserved r → r.off ≢ id.off) → HasReserved next
free_stays v next id has tells keeps other =
    let blocks_now = blocks_once_more v next (Free id) None tells.keeps.entries tells.call in
    reserved_stays v next has (record {
      lane = tells.keeps;
      reserved = ap (λ (p : Pending). p.reserved) (pending_once_more v next (Free id) None tells.keeps.entries tells.call);
      words = λ r there. known_same v next r keeps (has.each r there);
      made = λ r m there new. has.apart_made r m there (before_free id.off (blocks_in v) m (subst (λ (b : CallBlocks). Contains (news_in b) m) blocks_now new));
      found = same_apart v next tells.locks has;
      unfreed = λ r there. (others_are_same v next id r.off tells (other r there)).freed ∙ has.unfreed r there;
    })

pub found_free_stays : (v next : View) (id : Oid) → HasReserved v → (frees : FreesFound v next id) → 1 ≤ frees.held.lines → HasReserved next
found_free_stays v next id has frees some =
    free_stays v next id has frees.tells frees.keeps
    (λ r there same.
    let place = frees.held.place in let behind = (has.each r there).made.behind in let lines = has_lines (length r.bytes) in
    ⊎_elim
    (λ (before : (r.off - 64) + 64 * block_lines (class_of (length r.bytes)) ≤ 64 * frees.held.lock.line). omega (arith, before, lines, same, place, behind))
    (λ (after : 64 * frees.held.lock.line + 64 * frees.held.lines ≤ r.off - 64). omega (arith, after, some, same, place, behind))
    (has.apart_found r frees.held.lock frees.held.lines there frees.held.held frees.held.block))

pub made_free_stays : (v next : View) (id : Oid) → HasReserved v → FreesMade v next id → HasReserved next
made_free_stays v next id has frees =
    free_stays v next id has frees.tells frees.keeps
    (λ r there same.
    let n : NewObject = frees.made.new in
    apart_offsets (reserved_object r) n (has.each r there).made.behind (has.apart_made r n there (Contains-append_left (blocks_in v).made (blocks_in v).dropped n frees.made.has)) (sym frees.made.place ∙ sym same))

-- ---- further levels

pub level_stays : (v next : View) (wants : List Want) → HasReserved v → BeginsLevel v next wants → ReservedLieApart next → HasReserved next
level_stays v next wants has begins apart =
    let blocks_now : blocks_in next ≡ blocks_in v = blocks_once_more v next (Begin wants) None begins.keeps.entries begins.call in
    let same : (pending_in next).reserved ≡ (pending_in v).reserved = ap (λ (p : Pending). p.reserved) (pending_once_more v next (Begin wants) None begins.keeps.entries begins.call) in
    reserved_stays v next has (record {
      lane = begins.keeps;
      reserved = same;
      words = λ r there. known_same v next r (keeps_known v next begins.words) (has.each r there);
      made = λ r m there new. has.apart_made r m there (subst (λ (b : CallBlocks). Contains (news_in b) m) blocks_now new);
      found = λ r l lines there held is. apart r l lines (subst (λ (rs : List Reservation). Contains rs r) (sym same) there) held is;
      unfreed = λ r there. ap (λ (b : CallBlocks). is_among b.freed r.off) blocks_now ∙ has.unfreed r there;
    })

-- ---- a call that is given up

-- what it made and freed is none's then, and each recorded word is as it was
module _ (v next : View) (has : HasReserved v) (lane : KeepsLane v next) (under : RecordsUnder v) (back : TakesBack v next) where
  word_stays : (r : Reservation) → Contains (pending_in v).reserved r → SameNew v next (reserved_object r)
  word_stays r there i reads = back.others i ((has.each r there).made.outside i reads) (not_recorded v r i has under there reads)

  given_up_so : blocks_in next ≡ no_blocks → ((pending_in next).reserved ≡ (pending_in v).reserved) ⊎ ((pending_in next).reserved ≡ []) → ReservedLieApart next → HasReserved next
  given_up_so none (inl same) apart =
      reserved_stays v next has (record {
        lane = lane;
        reserved = same;
        words = word_stays;
        made = λ r m there new. absurd (no_member m (subst (λ (b : CallBlocks). Contains (news_in b) m) none new));
        found = λ r l lines there held is. apart r l lines (subst (λ (rs : List Reservation). Contains rs r) (sym same) there) held is;
        unfreed = λ r there. ap (λ (b : CallBlocks). is_among b.freed r.off) none;
      })
  given_up_so none (inr nothing) apart = none_reserved next nothing

-- the same locks are held, and no more is reserved
still_apart : (v next : View) → next.locks ≡ v.locks → HasReserved v → ((pending_in next).reserved ≡ (pending_in v).reserved) ⊎ ((pending_in next).reserved ≡ []) → ReservedLieApart next
still_apart v next locks has (inl same) r l lines there held is = same_apart v next locks has r l lines (subst (λ (rs : List Reservation). Contains rs r) same there) held is
still_apart v next locks has (inr none) r l lines there held is = absurd (no_member r (subst (λ (rs : List Reservation). Contains rs r) none there))

pub given_up_stays : (v next : View) (op : Operation) (reply : Option Value) → HasReserved v → RecordsUnder v → Tells v next op reply → TakesBack v next → LeavesReserved op reply (pending_in v)
    → blocks_behind op reply (pending_in v) (blocks_in v) ≡ no_blocks → HasReserved next
given_up_stays v next op reply has under tells back leaves none =
    let left = reserved_then v next op reply tells.keeps.entries tells.call leaves in
    given_up_so v next has tells.keeps under back (blocks_once_more v next op reply tells.keeps.entries tells.call ∙ none) left (still_apart v next tells.locks has left)

-- a refusal leaves what is pending
refused_pending : (op : Operation) (r : Refusal) (p : Pending) → pending_behind op (Some (Refused r)) p ≡ p
refused_pending op r p = refl

-- so it stays, whether that gives up the call or leaves what it made and freed
pub refusal_stays : (v next : View) (op : Operation) (r : Refusal) → HasReserved v → RecordsUnder v → Tells v next op (Some (Refused r)) → TakesBack v next → HasReserved next
refusal_stays v next op r has under tells back = by (is_action op || changes_nothing r) (blocks_once_more v next op (Some (Refused r)) tells.keeps.entries tells.call) where
  same : (pending_in next).reserved ≡ (pending_in v).reserved
  same = ap (λ (p : Pending). p.reserved) (pending_once_more v next op (Some (Refused r)) tells.keeps.entries tells.call ∙ refused_pending op r (pending_in v))

  by : (b : Bool) → blocks_in next ≡ cond b (blocks_in v) no_blocks → HasReserved next
  by false none = given_up_so v next has tells.keeps under back none (inl same) (still_apart v next tells.locks has (inl same))
  by true kept = reserved_stays v next has (record {
    lane = tells.keeps;
    reserved = same;
    words = word_stays v next has tells.keeps under back;
    made = λ r m there new. has.apart_made r m there (subst (λ (b : CallBlocks). Contains (news_in b) m) kept new);
    found = same_apart v next tells.locks has;
    unfreed = λ r there. ap (λ (b : CallBlocks). is_among b.freed r.off) kept ∙ has.unfreed r there;
  })

-- a level that is refused gives up the call, and may have taken locks
refused_keeps_none : (v : View) (level : ℕ) (before : List Locked) (wants : List Want) (r : Refusal) (p : Pending) (b : CallBlocks) → IsBeginReason v level before wants r → blocks_behind (Begin wants) (Some (Refused r)) p b ≡ no_blocks
refused_keeps_none v level before wants refusal.Deep p b reason = refl
refused_keeps_none v level before wants refusal.LocksFull p b reason = refl
refused_keeps_none v level before wants refusal.NoObject p b reason = refl
refused_keeps_none v level before wants refusal.Busy p b reason = refl
refused_keeps_none v level before wants r p b reason = absurd reason

pub refused_level_stays : (v next : View) (level : ℕ) (wants : List Want) (r : Refusal) → HasReserved v → RecordsUnder v → RefusesLevel v next level wants r → ReservedLieApart next → HasReserved next
refused_level_stays v next level wants r has under refuses apart =
    given_up_so v next has refuses.keeps under refuses.takes_back
    (blocks_once_more v next (Begin wants) (Some (Refused r)) refuses.keeps.entries refuses.call ∙ refused_keeps_none v level (locks_of v) wants r (pending_in v) (blocks_in v) refuses.reason)
    (reserved_then v next (Begin wants) (Some (Refused r)) refuses.keeps.entries refuses.call (refl, refl)) apart

pub taken_back_stays : (v next : View) → HasReserved v → RecordsUnder v → TellsNothing v next → TakesBack v next → HasReserved next
taken_back_stays v next has under quiet back =
    let blocks_now : blocks_in next ≡ blocks_in v = same_blocks v next quiet.keeps.entries quiet.call in
    reserved_stays v next has (record {
      lane = quiet.keeps;
      reserved = ap (λ (p : Pending). p.reserved) (pending_same v next quiet.keeps.entries quiet.call);
      words = word_stays v next has quiet.keeps under back;
      made = λ r m there new. has.apart_made r m there (subst (λ (b : CallBlocks). Contains (news_in b) m) blocks_now new);
      found = same_apart v next quiet.locks has;
      unfreed = λ r there. ap (λ (b : CallBlocks). is_among b.freed r.off) blocks_now ∙ has.unfreed r there;
    })

-- ---- between two calls

-- nothing is told, so nothing is made or freed, and what is pending was before
pub nothing_made : (v : View) → v.call ≡ [] → blocks_in v ≡ no_blocks
unfolding blocks_told
nothing_made v call = ap (blocks_told (pending_before v) no_blocks) call

pub pending_at_rest : (v : View) → v.call ≡ [] → pending_in v ≡ pending_before v
unfolding pending_told
pending_at_rest v call = ap (pending_told (pending_before v)) call

begun_blocks : (v : View) (wants : List Want) → BeginsCall v wants → blocks_in v ≡ no_blocks
unfolding blocks_told
begun_blocks v wants begins = ap (blocks_told (pending_before v) no_blocks) begins.call

pub begin_stays : (v next : View) (wants : List Want) → v.call ≡ [] → HasReserved v → KeepsLane v next → KeepsKnown v next → BeginsCall next wants → ReservedLieApart next → HasReserved next
begin_stays v next wants rests has lane keeps begins apart =
    let none : blocks_in next ≡ no_blocks = begun_blocks next wants begins in
    let same : (pending_in next).reserved ≡ (pending_in v).reserved =
    ap (λ (p : Pending). p.reserved) (pending_first next (record { operation = Begin wants; reply = None }) begins.call ∙ same_before v next lane.entries ∙ sym (pending_at_rest v rests)) in
    reserved_stays v next has (record {
      lane = lane;
      reserved = same;
      words = λ r there. known_same v next r keeps (has.each r there);
      made = λ r m there new. absurd (no_member m (subst (λ (b : CallBlocks). Contains (news_in b) m) none new));
      found = λ r l lines there held is. apart r l lines (subst (λ (rs : List Reservation). Contains rs r) (sym same) there) held is;
      unfreed = λ r there. ap (λ (b : CallBlocks). is_among b.freed r.off) none;
    })

-- what is pending at rest is what the call left
left_pending : (v next : View) → RestsBehind v next → pending_in next ≡ pending_in v
left_pending v next rests =
    pending_at_rest next rests.call
    ∙ ap (pending_from none_pending) rests.entries
    ∙ calls_further none_pending v.entries (record { number = rests.number; call = v.call })

-- so what stood stands in another view whose call made and freed nothing, where the lane knows its words, of which none changed, and no lock there is of a block that overlaps it
pub stands_again : (v next : View) → HasReserved v → (pending_in next).reserved ≡ (pending_in v).reserved → blocks_in next ≡ no_blocks → next.lanes ≡ v.lanes → next.zones ≡ v.zones → next.lane ≡ v.lane
    → ((r : Reservation) (i : ℕ) → Contains (pending_in v).reserved r → ReadsBlock (slice_index v.words) (block_reserved r) i → Contains next.known i)
    → ((r : Reservation) → Contains (pending_in v).reserved r → SameNew v next (reserved_object r)) → ReservedLieApart next → HasReserved next
stands_again v next has same none lanes zones lane known words apart =
    let before : (r : Reservation) → Contains (pending_in next).reserved r → Contains (pending_in v).reserved r = λ r there. subst (λ (rs : List Reservation). Contains rs r) same there in
    record {
      each = λ r there. stands_so v next r lanes zones lane (λ i reads. known r i (before r there) reads) (words r (before r there)) (has.each r (before r there));
      once = subst (λ (rs : List Reservation). IsDistinct nat_eq (map (λ (r : Reservation). r.off) rs)) (sym same) has.once;
      apart = λ r s there too differ. has.apart r s (before r there) (before s too) differ;
      apart_made = λ r m there new. absurd (no_member m (subst (λ (b : CallBlocks). Contains (news_in b) m) none new));
      apart_found = apart;
      unfreed = λ r there. ap (λ (b : CallBlocks). is_among b.freed r.off) none;
    }

pub rest_stays : (v next : View) → HasReserved v → RestsBehind v next → HasReserved next
rest_stays v next has rests =
    let same : (pending_in next).reserved ≡ (pending_in v).reserved = ap (λ (p : Pending). p.reserved) (left_pending v next rests) in
    stands_again v next has same (nothing_made next rests.call) rests.lanes rests.zones rests.lane rests.known (λ r there i reads. rests.words r i there reads)
    (λ r l lines there held is. has.apart_found r l lines (subst (λ (rs : List Reservation). Contains rs r) same there) (rests.locks l held) is)
