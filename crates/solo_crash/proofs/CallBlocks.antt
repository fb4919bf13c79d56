-- What a call allocated and freed behind one operation more, and what stays of it.
use Rattle.std.proofs.Common.{◌≡◌, ℕ, ◌+◌, ◌*◌, ◌≤◌, ◌||◌, Bool, false, cond, eqb, List, [], ◌∷◌, ◌++◌, length, map, slice_index, Option, Some, refl, sym, ◌∙◌, ap, subst, arith}
use Rattle.std.specs.List.{All, Contains, filter, list_any}
use Rattle.std.proofs.lemmas.Bool.{or_from, or_parts}
use Rattle.std.proofs.lemmas.Grind.{div_ceil_times}
use Rattle.std.proofs.lemmas.List.{append_assoc, append-nil}
use Rattle.pm_layout.specs.Sizes.{class_of, lines_for}
use Rattle.pm_objects.specs.Pool.{block_lines, offsets}
use Rattle.pm_objects.specs.declared.calls.Operation.{Operation}
use Rattle.pm_objects.specs.declared.calls.Want.{Want}
use Rattle.pm_objects.specs.declared.history.Value.{Value}
use Rattle.pm_objects.specs.declared.pool.Object.{Object}
use Rattle.pm_objects.specs.declared.pool.PoolView.{PoolView}
use Rattle.pm_image.specs.Contents.{bytes_in, data_words, header_word, size_in}
use Rattle.pm_image.specs.Reads.{AgreeOn, ReadsBlock}
use Rattle.pm_image.proofs.Members.{first_member, later_member, no_member}
use Rattle.pm_image.proofs.Pools.{length-bytes_in}
use Rattle.pm_image.proofs.Rooms.{lines_needed}
use Rattle.pm_image.proofs.LocalContents.{contents_local, header_same}
use Rattle.solo_model.proofs.Blocks.{All-parts}
use Rattle.solo_model.specs.Actions.{Pending}
use Rattle.solo_model.specs.Answers.{IsBeside}
use Rattle.solo_model.specs.Bytes.{is_among}
use Rattle.solo_model.specs.Transaction.{Transaction, is_gone, is_new}
use Rattle.solo_view.specs.Area.{is_in_area}
use Rattle.solo_view.specs.View.{Told, View}
use Rattle.solo_crash.specs.CallBlocks.{AgreesOnRoot, AllTellOfRoot, CallBlocks, HasRoomFor, IsMadeIn, IsOldIn, KeepsBlocks, MayPrecede, NewObject, TellsOfRoot, allocated_by, allocated_in, allocated_told, block_of, blocks_behind, blocks_in, blocks_told, is_at, is_freed_in, is_gone_in, is_made_in, is_new_in, no_blocks, object_made}
use Rattle.solo_crash.specs.NewObjects.{fresh_word, unlinked}
use Rattle.solo_crash.specs.Pending.{pending_before, pending_behind, pending_in, pending_told}
use Rattle.solo_crash.proofs.PendingOn.{same_before}
use Rattle.solo_crash.specs.OpenCall.{IsChanged, TracksBlocks, place_and_size}

-- ---- one operation more

told_further : (p : Pending) (b : CallBlocks) (told : List Told) (t : Told) → blocks_told p b (told ++ t ∷ []) ≡ blocks_behind t.operation t.reply (pending_told p told) (blocks_told p b told)
unfolding blocks_told pending_told
told_further p b [] t = refl
told_further p b (u ∷ told) t = told_further (pending_behind u.operation u.reply p) (blocks_behind u.operation u.reply p b) told t

pub blocks_once_more : (v next : View) (op : Operation) (reply : Option Value) → next.entries ≡ v.entries → next.call ≡ v.call ++ record { operation = op; reply = reply } ∷ []
    → blocks_in next ≡ blocks_behind op reply (pending_in v) (blocks_in v)
blocks_once_more v next op reply entries call =
    (λ j. blocks_told (same_before v next entries j) no_blocks (call j)) ∙ told_further (pending_before v) no_blocks v.call (record { operation = op; reply = reply })

allocated_further : (p : Pending) (told : List Told) (t : Told) → allocated_told p (told ++ t ∷ []) ≡ allocated_told p told ++ allocated_by t.operation t.reply (pending_told p told)
unfolding allocated_told pending_told
allocated_further p [] t = append-nil (allocated_by t.operation t.reply p)
allocated_further p (u ∷ told) t =
    ap (λ (more : List NewObject). allocated_by u.operation u.reply p ++ more) (allocated_further (pending_behind u.operation u.reply p) told t)
    ∙ sym (append_assoc (allocated_by u.operation u.reply p) (allocated_told (pending_behind u.operation u.reply p) told) (allocated_by t.operation t.reply (pending_told (pending_behind u.operation u.reply p) told)))

pub allocated_once_more : (v next : View) (op : Operation) (reply : Option Value) → next.entries ≡ v.entries → next.call ≡ v.call ++ record { operation = op; reply = reply } ∷ []
    → allocated_in next ≡ allocated_in v ++ allocated_by op reply (pending_in v)
allocated_once_more v next op reply entries call =
    (λ j. allocated_told (same_before v next entries j) (call j)) ∙ allocated_further (pending_before v) v.call (record { operation = op; reply = reply })

-- operations agree with a root where the first of them do, and the last
pub agree_further : (root : Option ℕ) (p : Pending) (told : List Told) (t : Told) → AllTellOfRoot root p told → TellsOfRoot root t.operation t.reply (pending_told p told) → AllTellOfRoot root p (told ++ t ∷ [])
unfolding AllTellOfRoot pending_told
agree_further root p [] t before now = (now, tt)
agree_further root p (u ∷ told) t before now = (before.0, agree_further root (pending_behind u.operation u.reply p) told t before.1 now)

agree_parts : (root : Option ℕ) (p : Pending) (told : List Told) (t : Told) → AllTellOfRoot root p (told ++ t ∷ []) → AllTellOfRoot root p told × TellsOfRoot root t.operation t.reply (pending_told p told)
unfolding AllTellOfRoot pending_told
agree_parts root p [] t all = (tt, all.0)
agree_parts root p (u ∷ told) t all =
    let rest = agree_parts root (pending_behind u.operation u.reply p) told t all.1 in
    ((all.0, rest.0), rest.1)

-- those of one view as those of another
pub agree_same : (root : Option ℕ) (v next : View) → next.entries ≡ v.entries → next.call ≡ v.call → AgreesOnRoot v root → AgreesOnRoot next root
agree_same root v next entries call agrees = subst (AllTellOfRoot root (pending_before next)) (sym call) (subst (λ (p : Pending). AllTellOfRoot root p v.call) (sym (same_before v next entries)) agrees)

parts_once_more : (root : Option ℕ) (v next : View) (op : Operation) (reply : Option Value) → next.entries ≡ v.entries → next.call ≡ v.call ++ record { operation = op; reply = reply } ∷ []
    → AgreesOnRoot next root → AgreesOnRoot v root × TellsOfRoot root op reply (pending_in v)
parts_once_more root v next op reply entries call agrees =
    agree_parts root (pending_before v) v.call (record { operation = op; reply = reply })
    (subst (λ (p : Pending). AllTellOfRoot root p (v.call ++ record { operation = op; reply = reply } ∷ [])) (same_before v next entries) (subst (AllTellOfRoot root (pending_before next)) call agrees))

-- a pool that may be the one before the call once the operation is told might be before
pub may_before : (v next : View) (op : Operation) (reply : Option Value) → next.entries ≡ v.entries → next.call ≡ v.call ++ record { operation = op; reply = reply } ∷ [] → (pool : PoolView) → MayPrecede pool next → MayPrecede pool v
may_before v next op reply entries call pool may = record {
  room = (All-parts (λ (n : NewObject). All (IsBeside n.size n.off) pool.objects) (allocated_in v) (allocated_by op reply (pending_in v)) (subst (HasRoomFor pool) (allocated_once_more v next op reply entries call) may.room)).0;
  root = (parts_once_more pool.root v next op reply entries call may.root).0;
}

-- and the operation told agrees with its root
pub tells_of_root : (v next : View) (op : Operation) (reply : Option Value) → next.entries ≡ v.entries → next.call ≡ v.call ++ record { operation = op; reply = reply } ∷ [] → (pool : PoolView) → MayPrecede pool next
    → TellsOfRoot pool.root op reply (pending_in v)
tells_of_root v next op reply entries call pool may = (parts_once_more pool.root v next op reply entries call may.root).1

-- where nothing is told it is the same
pub same_blocks : (v next : View) → next.entries ≡ v.entries → next.call ≡ v.call → blocks_in next ≡ blocks_in v
same_blocks v next entries call = (λ j. blocks_told (same_before v next entries j) no_blocks (call j))

pub same_allocated : (v next : View) → next.entries ≡ v.entries → next.call ≡ v.call → allocated_in next ≡ allocated_in v
same_allocated v next entries call = (λ j. allocated_told (same_before v next entries j) (call j))

-- and so the call agrees with a root, of one operation or more
pub first_agrees : (v : View) (op : Operation) (reply : Option Value) → v.call ≡ record { operation = op; reply = reply } ∷ [] → (root : Option ℕ) → TellsOfRoot root op reply (pending_before v) → AgreesOnRoot v root
unfolding AllTellOfRoot
first_agrees v op reply call root now = subst (AllTellOfRoot root (pending_before v)) (sym call) (now, tt)

pub agrees_once_more : (v next : View) (op : Operation) (reply : Option Value) → next.entries ≡ v.entries → next.call ≡ v.call ++ record { operation = op; reply = reply } ∷ [] → (root : Option ℕ)
    → AgreesOnRoot v root → TellsOfRoot root op reply (pending_in v) → AgreesOnRoot next root
agrees_once_more v next op reply entries call root before now =
    subst (AllTellOfRoot root (pending_before next)) (sym call)
    (subst (λ (p : Pending). AllTellOfRoot root p (v.call ++ record { operation = op; reply = reply } ∷ [])) (sym (same_before v next entries))
    (agree_further root (pending_before v) v.call (record { operation = op; reply = reply }) before now))

-- where nothing is told the same pools may be the one before
pub may_same : (v next : View) → next.entries ≡ v.entries → next.call ≡ v.call → (pool : PoolView) → MayPrecede pool v → MayPrecede pool next
may_same v next entries call pool may = record { room = subst (HasRoomFor pool) (sym (same_allocated v next entries call)) may.room; root = agree_same pool.root v next entries call may.root }

-- a call that kept the blocks does behind an operation that keeps them
pub keeps_on : (v next : View) (op : Operation) (reply : Option Value) → next.entries ≡ v.entries → next.call ≡ v.call ++ record { operation = op; reply = reply } ∷ []
    → blocks_behind op reply (pending_in v) no_blocks ≡ no_blocks → allocated_by op reply (pending_in v) ≡ [] → ((root : Option ℕ) → TellsOfRoot root op reply (pending_in v)) → KeepsBlocks v → KeepsBlocks next
keeps_on v next op reply entries call none none_more no_root keeps = record {
  blocks = blocks_once_more v next op reply entries call ∙ ap (blocks_behind op reply (pending_in v)) keeps.blocks ∙ none;
  allocated = allocated_once_more v next op reply entries call ∙ (λ j. keeps.allocated j ++ none_more j);
  any_root = λ root. agrees_once_more v next op reply entries call root (keeps.any_root root) (no_root root);
}

pub keeps_still : (v next : View) → next.entries ≡ v.entries → next.call ≡ v.call → KeepsBlocks v → KeepsBlocks next
keeps_still v next entries call keeps = record {
  blocks = same_blocks v next entries call ∙ keeps.blocks;
  allocated = same_allocated v next entries call ∙ keeps.allocated;
  any_root = λ root. agree_same root v next entries call (keeps.any_root root);
}

-- every pool has room for nothing, and so each may be the one before a call that kept the blocks
pub room_for_none : (v : View) (pool : PoolView) → allocated_in v ≡ [] → HasRoomFor pool (allocated_in v)
room_for_none v pool none = subst (HasRoomFor pool) (sym none) (λ k d low. absurd (omega (arith, low)))

pub any_may_precede : (v : View) → KeepsBlocks v → (pool : PoolView) → MayPrecede pool v
any_may_precede v keeps pool = record { room = room_for_none v pool keeps.allocated; root = keeps.any_root pool.root }

-- so it is behind an operation that allocates nothing and tells nothing of the root
pub any_may_still : (v next : View) (op : Operation) (reply : Option Value) → next.entries ≡ v.entries → next.call ≡ v.call ++ record { operation = op; reply = reply } ∷ [] → allocated_by op reply (pending_in v) ≡ []
    → ((root : Option ℕ) → TellsOfRoot root op reply (pending_in v)) → KeepsBlocks v → (pool : PoolView) → MayPrecede pool next
any_may_still v next op reply entries call none no_root keeps pool = record {
  room = room_for_none next pool (allocated_once_more v next op reply entries call ∙ (λ j. keeps.allocated j ++ none j));
  root = agrees_once_more v next op reply entries call pool.root (keeps.any_root pool.root) (no_root pool.root);
}

-- ---- what the transaction tracks

pub any_map : {X Y : Type 0} (p : Y → Bool) (f : X → Y) (xs : List X) → list_any p (map f xs) ≡ list_any (λ x. p (f x)) xs
any_map p f [] = refl
any_map p f (x ∷ xs) = ap (λ (b : Bool). p (f x) || b) (any_map p f xs)

-- two tests that agree on a list's elements
pub any_alike : {X : Type 0} (p q : X → Bool) (xs : List X) → ((x : X) → Contains xs x → p x ≡ q x) → list_any p xs ≡ list_any q xs
any_alike p q [] same = refl
any_alike p q (x ∷ xs) same = (λ j. same x (first_member x xs) j || any_alike p q xs (λ y there. same y (later_member x xs y there)) j)

pub filter_alike : {X : Type 0} (p q : X → Bool) (xs : List X) → ((x : X) → Contains xs x → p x ≡ q x) → filter p xs ≡ filter q xs
filter_alike p q [] same = refl
filter_alike p q (x ∷ xs) same =
    (λ j. cond (same x (first_member x xs) j) (x ∷ filter_alike p q xs (λ y there. same y (later_member x xs y there)) j) (filter_alike p q xs (λ y there. same y (later_member x xs y there)) j))

dropped_alike : (v : View) (tx : Transaction) → TracksBlocks tx (blocks_in v) → (off : ℕ) → is_among (offsets tx.dropped) off ≡ list_any (is_at off) (blocks_in v).dropped
dropped_alike v tx tracks off =
    any_map (λ other. eqb other off) (λ (entry : ℕ × Object). entry.0) tx.dropped
    ∙ sym (any_map (λ (p : ℕ × ℕ). eqb p.0 off) place_and_size tx.dropped)
    ∙ ap (list_any (λ (p : ℕ × ℕ). eqb p.0 off)) tracks.dropped
    ∙ any_map (λ (p : ℕ × ℕ). eqb p.0 off) (λ (n : NewObject). (n.off, n.size)) (blocks_in v).dropped

pub tracks_new : (v : View) (tx : Transaction) → TracksBlocks tx (blocks_in v) → (off : ℕ) → is_new tx off ≡ is_new_in v off
tracks_new v tx tracks off = (λ j. made j || dropped_alike v tx tracks off j) where
  made : is_among tx.made off ≡ list_any (is_at off) (blocks_in v).made
  made = ap (λ (xs : List ℕ). is_among xs off) tracks.made ∙ any_map (λ other. eqb other off) (λ (n : NewObject). n.off) (blocks_in v).made

pub all_tracks_gone : (v : View) (tx : Transaction) → TracksBlocks tx (blocks_in v) → (off : ℕ) → is_gone tx off ≡ is_gone_in v off
all_tracks_gone v tx tracks off = (λ j. is_among (tracks.freed j) off || dropped_alike v tx tracks off j)

-- an object that is neither new nor freed is there still
pub tracks_gone : (v : View) (tx : Transaction) → TracksBlocks tx (blocks_in v) → (off : ℕ) → is_new_in v off ≡ false → is_freed_in v off ≡ false → is_gone tx off ≡ false
tracks_gone v tx tracks off old kept =
    all_tracks_gone v tx tracks off
    ∙ or_from (is_freed_in v off) (list_any (is_at off) (blocks_in v).dropped) kept (or_parts (list_any (is_at off) (blocks_in v).made) (list_any (is_at off) (blocks_in v).dropped) old).1

-- ---- what was made stays where its words do

-- the words of what it made are the same by both views
abbrev pub SameNew : View → View → NewObject → Type 0
SameNew v next n = (i : ℕ) → ReadsBlock (slice_index v.words) (block_of n) i → slice_index next.words i ≡ slice_index v.words i

agree : (v next : View) (n : NewObject) → SameNew v next n → AgreeOn (ReadsBlock (slice_index v.words) (block_of n)) (slice_index v.words) (slice_index next.words)
agree v next n same = record { same = λ i reads. sym (same i reads) }

pub same_bytes : (v next : View) (n : NewObject) → SameNew v next n → bytes_in (slice_index next.words) (block_of n) ≡ bytes_in (slice_index v.words) (block_of n)
same_bytes v next n same = (contents_local (slice_index v.words) (slice_index next.words) (block_of n) (agree v next n same)).same_bytes

pub object_stays : (v next : View) (n : NewObject) → SameNew v next n → object_made next n ≡ object_made v n
object_stays v next n same = ap (unlinked n.kind) (same_bytes v next n same)

-- and the lane knows these
pub made_where_known : (v next : View) (n : NewObject) → next.lane ≡ v.lane → ((i : ℕ) → ReadsBlock (slice_index v.words) (block_of n) i → Contains next.known i) → SameNew v next n → IsMadeIn v n → IsMadeIn next n
made_where_known v next n lane known same is =
    let bytes = same_bytes v next n same in
    let size : header_word (slice_index next.words) (block_of n) 1 ≡ header_word (slice_index v.words) (block_of n) 1 =
    header_same (slice_index v.words) (slice_index next.words) (block_of n) 1 (omega arith) (agree v next n same) in
    let back : (i : ℕ) → ReadsBlock (slice_index next.words) (block_of n) i → ReadsBlock (slice_index v.words) (block_of n) i =
    λ i reads. record { from = reads.from; to = (let to = reads.to in omega (arith, to, size)) } in
    record {
      behind = is.behind;
      aligned = is.aligned;
      object = record {
        some = subst (λ (bs : List ℕ). 1 ≤ length bs) (sym bytes) is.object.some;
        most = subst (λ (bs : List ℕ). length bs ≤ 262080) (sym bytes) is.object.most;
        of_size = ap (λ (bs : List ℕ). block_lines (class_of (length bs))) bytes ∙ is.object.of_size;
        header = λ place low. header_same (slice_index v.words) (slice_index next.words) (block_of n) place low (agree v next n same) ∙ is.object.header place low
            ∙ ap (λ (bs : List ℕ). fresh_word n.kind (length bs) place) (sym bytes);
        holds = refl;
      };
      long = ap (λ (bs : List ℕ). length bs) bytes ∙ is.long;
      known = λ i reads. known i (back i reads);
      outside = λ i reads. ap (λ k. is_in_area k i) lane ∙ is.outside i (back i reads);
    }

pub made_stays : (v next : View) (n : NewObject) → next.lane ≡ v.lane → ((i : ℕ) → Contains v.known i → Contains next.known i) → SameNew v next n → IsMadeIn v n → IsMadeIn next n
made_stays v next n lane known same is = made_where_known v next n lane (λ i reads. known i (is.known i reads)) same is

-- the change of a pool is the same where the blocks are and the words of what was made
pub changed_stays : (v next : View) (base pool : PoolView) → blocks_in next ≡ blocks_in v → ((n : NewObject) → Contains (blocks_in v).made n → SameNew v next n)
    → IsChanged v base pool → IsChanged next base pool
changed_stays v next base pool blocks same changed = record {
  fixed = changed.fixed;
  rising = changed.rising;
  new = λ n there.
      let before : Contains (blocks_in v).made n = subst (λ (b : CallBlocks). Contains b.made n) blocks there in
      changed.new n before ∙ ap (λ (o : Object). Some o) (sym (object_stays v next n (same n before)));
  gone = λ off freed. changed.gone off (ap (λ (b : CallBlocks). is_among b.freed off) (sym blocks) ∙ freed);
  others = λ off old kept.
      changed.others off (ap (λ (b : CallBlocks). list_any (is_at off) b.made) (sym blocks) ∙ old)
      (ap (λ (b : CallBlocks). is_among b.freed off) (sym blocks) ∙ kept);
}

-- its words lie in its block
pub fills_block : (v : View) (n : NewObject) → IsMadeIn v n → 8 + data_words (size_in (slice_index v.words) (block_of n)) ≤ 8 * (block_of n).lines
fills_block v n is =
    let size : ℕ = size_in (slice_index v.words) (block_of n) in
    let long : length (bytes_in (slice_index v.words) (block_of n)) ≡ size = length-bytes_in (slice_index v.words) (block_of n) in
    let need : lines_for size ≤ block_lines (class_of size) = lines_needed size in
    let same : block_lines (class_of size) ≡ (block_of n).lines = ap (λ k. block_lines (class_of k)) (sym long) ∙ is.object.of_size in
    let eights = div_ceil_times size 8 (omega arith) in
    let lines = div_ceil_times size 64 (omega arith) in
    omega (arith, need, same, eights, lines)

-- of what is wanted, none that the call found and did not free is new or gone
pub old_want : (v : View) (tx : Transaction) (want : Want) → TracksBlocks tx (blocks_in v) → IsOldIn v want.id.off → is_new tx want.id.off ≡ false
old_want v tx want tracks old = tracks_new v tx tracks want.id.off ∙ old.found

pub no_want_gone : (v : View) (tx : Transaction) (wants : List Want) → TracksBlocks tx (blocks_in v) → ((want : Want) → Contains wants want → IsOldIn v want.id.off)
    → list_any (is_gone tx) (map (λ (want : Want). want.id.off) wants) ≡ false
no_want_gone v tx [] tracks old = refl
no_want_gone v tx (want ∷ wants) tracks old =
    let here : IsOldIn v want.id.off = old want (first_member want wants) in
    or_from (is_gone tx want.id.off) (list_any (is_gone tx) (map (λ (w : Want). w.id.off) wants)) (tracks_gone v tx tracks want.id.off here.found here.kept)
    (no_want_gone v tx wants tracks (λ w there. old w (later_member want wants w there)))

-- a call that kept the blocks made and freed none of the objects that it names
pub old_of_none : (v : View) → KeepsBlocks v → (off : ℕ) → IsOldIn v off
old_of_none v keeps off = record {
  found = ap (λ (b : CallBlocks). list_any (is_at off) b.made || list_any (is_at off) b.dropped) keeps.blocks;
  kept = ap (λ (b : CallBlocks). is_among b.freed off) keeps.blocks;
}

-- nothing that it made and has is there
pub not_made : (v : View) (off : ℕ) → is_new_in v off ≡ false → is_made_in v off ≡ false
not_made v off old = (or_parts (list_any (is_at off) (blocks_in v).made) (list_any (is_at off) (blocks_in v).dropped) old).0

pub none_made : {X : Type 0} (v : View) → KeepsBlocks v → (n : NewObject) → Contains (blocks_in v).made n → X
none_made v keeps n there = absurd (no_member n (subst (λ (b : CallBlocks). Contains b.made n) keeps.blocks there))
