-- What the lane knows of the words of its open call, and the object under a lock that it holds.
use Rattle.std.proofs.Common.{◌≡◌, ⊎_elim, ℕ, ◌+◌, ◌*◌, ◌/◌, ◌<◌, ◌≤◌, ◌&&◌, ◌||◌, Bool, true, false, not, eqb, leb, ltb, List, [], ◌∷◌, length, map, slice_index, Option, Some, refl, sym, ◌∙◌, ap, subst, arith}
use Rattle.std.specs.List.{Contains, filter, list_any}
use Rattle.std.specs.Option.{option_map_or}
use Rattle.std.proofs.lemmas.Bool.{and_from, and_parts, and_right, cases_Bool, cond-false, cond-true, eq-eqb, le-ltb, leb-true, or_from, or_left, or_right}
use Rattle.std.proofs.lemmas.List.{length-map}
use Rattle.pm_header.specs.declared.header.Header.{Header}
use Rattle.pm_objects.specs.Pool.{object_at}
use Rattle.pm_objects.specs.declared.history.TxErr.TheVariants as error
use Rattle.pm_objects.specs.declared.ids.Oid.{Oid}
use Rattle.pm_objects.specs.declared.pool.Object.{Object}
use Rattle.pm_objects.specs.declared.pool.PoolView.{PoolView}
use Rattle.pm_image.specs.declared.block.Block.{Block}
use Rattle.pm_image.specs.Blocks.{blocks}
use Rattle.pm_image.specs.Contents.{bytes_in, offset_in, size_in}
use Rattle.pm_image.proofs.Members.{member_cases, no_member}
use Rattle.solo_model.specs.declared.stage.Stage.TheVariants as stage
use Rattle.solo_model.specs.Transaction.{Transaction, entries_of, holds_object, is_gone, is_locked, is_new}
use Rattle.solo_model.specs.Actions.{Action}
use Rattle.solo_model.specs.Bytes.{bytes_of, covered_words}
use Rattle.solo_model.specs.Checks.{is_not_held}
use Rattle.solo_view.specs.Area.{area_word, is_in_area}
use Rattle.solo_view.specs.Blocks.{chunk_of, is_chunk, zone_page}
use Rattle.solo_view.specs.Log.{Final}
use Rattle.solo_view.specs.View.{View, Lock}
use Rattle.solo_world.specs.History.{made_final}
use Rattle.solo_world.specs.Records.{is_recorded}
use Rattle.solo_crash.specs.CallBlocks.{IsOldIn, NewObject, blocks_in}
use Rattle.solo_crash.specs.Locks.{AreSameLocks}
use Rattle.solo_crash.specs.Held.{HoldsPool}
use Rattle.solo_crash.specs.OpenCall.{IsBefore, call_words, ComesTo, IsChanged, IsUnderBlock, IsUnderWay, TracksBlocks, lock_of, locks_of, block_at_line, made_words}
use Rattle.solo_crash.specs.Operations.{IsHeld, entries_so_far}
use Rattle.solo_crash.specs.Pending.{published_in}
use Rattle.solo_crash.proofs.Covered.{covered_has_byte}
use Rattle.solo_crash.proofs.Apart.{lines_of_block}
use Rattle.solo_crash.proofs.ObjectsOfBlocks.{object_is_there}
use Rattle.solo_crash.proofs.CallBlocks.{not_made, tracks_gone}
use Rattle.solo_crash.proofs.Passing.{Works, none_named}

pub recorded_call_word : (v : View) (w : ℕ → ℕ) (i : ℕ) → is_recorded v.log.records i ≡ true → call_words v w i ≡ slice_index v.words i
recorded_call_word v w i is = cond-true (is_recorded v.log.records i) (slice_index v.words i) (w i) is

pub other_call_word : (v : View) (w : ℕ → ℕ) (i : ℕ) → is_recorded v.log.records i ≡ false → call_words v w i ≡ w i
other_call_word v w i is = cond-false (is_recorded v.log.records i) (slice_index v.words i) (w i) is

-- without entries no word is made another
pub made_unentered : (v : View) → v.log.entries ≡ [] → (w : ℕ → ℕ) → made_words v w ≡ call_words v w
unfolding made_final
made_unentered v none w = (λ j i. at i j) where
  at : (i : ℕ) → made_words v w i ≡ call_words v w i
  at i = ap (λ (entries : List Final). made_final (filter (λ (f : Final). not (is_in_area v.lane f.word)) entries) i (call_words v w i)) none

-- where the words that were stored and the entries are the same, so are those that are made
pub same_made_words : (v next : View) → next.lane ≡ v.lane → next.log.entries ≡ v.log.entries → (w : ℕ → ℕ) → call_words next w ≡ call_words v w → made_words next w ≡ made_words v w
same_made_words v next lane entries w same = (λ j i. made_final (filter (λ (f : Final). not (is_in_area (lane j) f.word)) (entries j)) i (same j i))

-- a known word of a block that the lane found, outside its area, is as the lane has it
pub known_call_word : (v : View) (w : ℕ → ℕ) (i : ℕ) → IsBefore v w → Contains v.known i → is_in_area v.lane i ≡ false → IsUnderBlock v i → call_words v w i ≡ slice_index v.words i
known_call_word v w i before known outside under = ⊎_elim
    (λ (is : is_recorded v.log.records i ≡ true). recorded_call_word v w i is)
    (λ (is : is_recorded v.log.records i ≡ false). other_call_word v w i is ∙ before.known i known outside is under)
    (cases_Bool (is_recorded v.log.records i))

-- a line of a chunk is behind all lanes' areas
pub chunk_is_behind : (lanes line : ℕ) → is_chunk lanes (line / 64) ≡ true → 512 + 1024 * lanes ≤ 8 * line
chunk_is_behind lanes line is =
    let parts = and_parts (leb (zone_page lanes 0) (line / 64)) (leb 1 (chunk_of lanes (line / 64))) is in
    let behind : zone_page lanes 0 ≤ line / 64 = leb-true (zone_page lanes 0) (line / 64) parts.0 in
    omega arith

pub behind_is_outside : (lane lanes i : ℕ) → lane < lanes → 512 + 1024 * lanes ≤ i → is_in_area lane i ≡ false
behind_is_outside lane lanes i inside behind =
    and_right (leb (area_word lane) i) (ltb i (area_word lane + 1024)) (le-ltb i (area_word lane + 1024) (omega arith))

-- words at or behind a held line are outside the lane's area
pub under_is_outside : (v : View) (lock : Lock) (lines i : ℕ) → v.lane < v.lanes → ((l : Lock) (n : ℕ) → Contains v.locks l → l.block ≡ Some n → is_chunk v.lanes (l.line / 64) ≡ true)
    → Contains v.locks lock → lock.block ≡ Some lines → 8 * lock.line ≤ i → is_in_area v.lane i ≡ false
under_is_outside v lock lines i lane chunks held found from =
    let behind : 512 + 1024 * v.lanes ≤ 8 * lock.line = chunk_is_behind v.lanes lock.line (chunks lock lines held found) in
    behind_is_outside v.lane v.lanes i lane (omega arith)

-- the words that a range of the object covers
pub covered_is_outside : (v : View) (id : Oid) (write : Bool) (off len i : ℕ) → v.lane < v.lanes → ((l : Lock) (n : ℕ) → Contains v.locks l → l.block ≡ Some n → is_chunk v.lanes (l.line / 64) ≡ true)
    → IsHeld v id write → Contains (covered_words (id.off + off) len) i → is_in_area v.lane i ≡ false
covered_is_outside v id write off len i lane chunks held there =
    let has = covered_has_byte (id.off + off) len i there in
    let place : id.off ≡ 64 * held.lock.line + 64 = held.place in
    under_is_outside v held.lock held.lines i lane chunks held.held held.block (omega arith)

-- the lock that the lane holds is the transaction's
pub locked_member : (locks : List Lock) (l : Lock) (off : ℕ) (write : Bool) → Contains locks l → 64 * l.line + 64 ≡ off → (l.write || not write) ≡ true → is_locked (map lock_of locks) off write ≡ true
locked_member [] l off write there place allows = absurd (no_member l there)
locked_member (k ∷ locks) l off write there place allows = ⊎_elim
    (λ (here : k ≡ l). or_left (eqb (64 * k.line + 64) off && (k.write || not write)) (is_locked (map lock_of locks) off write)
    (subst (λ (x : Lock). (eqb (64 * x.line + 64) off && (x.write || not write)) ≡ true) (sym here) (and_from (eqb (64 * l.line + 64) off) (l.write || not write) (eq-eqb (64 * l.line + 64) off place) allows)))
    (λ (later : Contains locks l). or_right (eqb (64 * k.line + 64) off && (k.write || not write)) (is_locked (map lock_of locks) off write) (locked_member locks l off write later place allows))
    (member_cases k locks l there)

pub held_is_locked : (v : View) (id : Oid) (write : Bool) (tx : Transaction) → IsHeld v id write → AreSameLocks tx.locks (locks_of v) → tx.pool.id ≡ v.pool
    → is_not_held tx write id ≡ false
held_is_locked v id write tx held locks same =
    ap not (and_from (eqb id.pool tx.pool.id) (holds_object tx id.off write)
    (eq-eqb id.pool tx.pool.id (held.of_pool ∙ sym same))
    (or_right (is_new tx id.off) (is_locked tx.locks id.off write) (locks.same id.off write ∙ locked_member v.locks held.lock id.off write held.held (sym held.place) held.allows)))

-- locks that stay are still the transaction's
pub locks_kept : (tx : Transaction) (v next : View) → next.locks ≡ v.locks → AreSameLocks tx.locks (locks_of v) → AreSameLocks tx.locks (locks_of next)
locks_kept tx v next same are = subst (λ (ls : List Lock). AreSameLocks tx.locks (map lock_of ls)) (sym same) are

-- the object under a held lock, in the words of the open call
pub record IsObjectOf (v : View) (w : ℕ → ℕ) (tx : Transaction) (id : Oid) (line : ℕ) : Type 0 where
  pub block : Block
  pub is_there : Contains (blocks (call_words v w) v.lanes v.zones) block
  pub was_there : Contains (blocks w v.lanes v.zones) block
  pub place : block.place ≡ 64 * line
  pub offset : offset_in block ≡ id.off
  pub size : size_in (call_words v w) block ≡ slice_index v.words (8 * line + 1)
  pub bytes : bytes_of tx.pool.objects id.off ≡ bytes_in (call_words v w) block
  pub long : length (bytes_of tx.pool.objects id.off) ≡ slice_index v.words (8 * line + 1)

-- it is there for each transaction whose pool has at its offset what the pool has that those words hold, where blocks stayed
pub object_found : (v : View) (w : ℕ → ℕ) (header : Header) (base : PoolView) (tx : Transaction) (id : Oid) (write : Bool) → v.lane < v.lanes
    → ((l : Lock) (n : ℕ) → Contains v.locks l → l.block ≡ Some n → is_chunk v.lanes (l.line / 64) ≡ true) → IsBefore v w
    → HoldsPool (call_words v w) v.lanes v.zones header base → blocks (call_words v w) v.lanes v.zones ≡ blocks w v.lanes v.zones
    → (held : IsHeld v id write) → Contains v.known (8 * held.lock.line + 1) → object_at tx.pool.objects id.off ≡ object_at base.objects id.off → IsObjectOf v w tx id held.lock.line
object_found v w header base tx id write in_lanes chunks before holds blocks_stay held size_known alike =
    let line : ℕ = held.lock.line in
    let block : Block = block_at_line line held.lines in
    let words : ℕ → ℕ = call_words v w in
    let was_there : Contains (blocks w v.lanes v.zones) block = before.found held.lock held.lines held.held held.block in
    let is_there : Contains (blocks words v.lanes v.zones) block = subst (λ (bs : List Block). Contains bs block) (sym blocks_stay) was_there in
    let outside : is_in_area v.lane (8 * line + 1) ≡ false = under_is_outside v held.lock held.lines (8 * line + 1) in_lanes chunks held.held held.block (omega arith) in
    let header_word : 64 * line / 8 + 1 ≡ 8 * line + 1 = omega arith in
    let some : 1 ≤ held.lines = lines_of_block words v.lanes v.zones block holds.no_fault is_there in
    let under : IsUnderBlock v (8 * line + 1) = record { lock = held.lock; lines = held.lines; held = held.held; found = held.block; from = omega arith; to = omega arith } in
    let size : size_in words block ≡ slice_index v.words (8 * line + 1) = ap words header_word ∙ known_call_word v w (8 * line + 1) before size_known outside under in
    let object = object_is_there words v.lanes v.zones header base block holds is_there in
    let bytes : bytes_of tx.pool.objects id.off ≡ bytes_in words block =
    ap (λ (o : Option Object). option_map_or (λ (x : Object). x.bytes) o []) (alike ∙ ap (object_at base.objects) held.place ∙ object.found) in
    record {
      block = block;
      is_there = is_there;
      was_there = was_there;
      place = refl;
      offset = sym held.place;
      size = size;
      bytes = bytes;
      long = ap length bytes ∙ object.size ∙ size;
    }

-- the object is one that the call found and did not free
pub object_under : (v : View) (w : ℕ → ℕ) (header : Header) (pool : PoolView) (level : ℕ) (id : Oid) (write : Bool) → IsUnderWay v level stage.Work error.None → IsBefore v w
    → (c : ComesTo v w header pool level stage.Work error.None) → (held : IsHeld v id write) → Contains v.known (8 * held.lock.line + 1) → IsOldIn v id.off → IsObjectOf v w c.tx id held.lock.line
object_under v w header pool level id write under_way before c held size_known old =
    object_found v w header c.base c.tx id write under_way.in_lanes under_way.chunks before c.holds c.blocks_stay held size_known (c.changed.others id.off (not_made v id.off old.found) old.kept)

-- the transaction works
pub call_works : (v : View) (w : ℕ → ℕ) (header : Header) (pool : PoolView) (level : ℕ) → 1 ≤ level → IsUnderWay v level stage.Work error.None → (c : ComesTo v w header pool level stage.Work error.None) → Works c.tx
call_works v w header pool level some under_way c =
    let levels : c.tx.level ≡ level = c.levels in
    let long : length c.tx.locks ≡ length v.locks = c.locks.count ∙ length-map v.locks lock_of in
    let few : length v.locks ≤ 64 = under_way.few in
    record { level = omega arith; working = c.stands; few = omega arith }

pub one_is_kept : (v : View) (tx : Transaction) → TracksBlocks tx (blocks_in v) → (off : ℕ) → IsOldIn v off → list_any (is_gone tx) (off ∷ []) ≡ false
one_is_kept v tx tracks off old = or_from (is_gone tx off) false (tracks_gone v tx tracks off old.found old.kept) refl

-- it is of the lane's pool
pub same_pool : (v : View) (w : ℕ → ℕ) (header : Header) (base : PoolView) (tx : Transaction) → HoldsPool (call_words v w) v.lanes v.zones header base → IsChanged v base tx.pool → v.pool ≡ header.id → tx.pool.id ≡ v.pool
same_pool v w header base tx holds changed id = ap (λ (p : PoolView). p.id) changed.fixed ∙ ap (λ (p : PoolView). p.id) holds.is_pool ∙ sym id

-- and of the words' shape
pub same_lanes : (v : View) (w : ℕ → ℕ) (header : Header) (base : PoolView) (tx : Transaction) → HoldsPool (call_words v w) v.lanes v.zones header base → IsChanged v base tx.pool → tx.pool.lanes ≡ v.lanes
same_lanes v w header base tx holds changed = ap (λ (p : PoolView). p.lanes) changed.fixed ∙ ap (λ (p : PoolView). p.lanes) holds.is_pool

pub same_zones : (v : View) (w : ℕ → ℕ) (header : Header) (base : PoolView) (tx : Transaction) → HoldsPool (call_words v w) v.lanes v.zones header base → IsChanged v base tx.pool → tx.pool.zones ≡ v.zones
same_zones v w header base tx holds changed = ap (λ (p : PoolView). p.zones) changed.fixed ∙ ap (λ (p : PoolView). p.zones) holds.is_pool

-- the transaction's entries are those of the call
pub as_many_entries : (v : View) (w : ℕ → ℕ) (header : Header) (pool : PoolView) (level : ℕ) → (c : ComesTo v w header pool level stage.Work error.None) → entries_of c.tx ≡ entries_so_far v
as_many_entries v w header pool level c =
    let moved : length c.tx.moved ≡ length (published_in v) = ap (λ (actions : List Action). length actions) c.moved in
    let made : length c.tx.made ≡ length (blocks_in v).made = ap (λ (offs : List ℕ). length offs) c.tracks.made ∙ length-map (blocks_in v).made (λ (n : NewObject). n.off) in
    let freed : length c.tx.freed ≡ length (blocks_in v).freed = ap (λ (offs : List ℕ). length offs) c.tracks.freed in
    omega (arith, moved, made, freed)
