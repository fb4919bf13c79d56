-- The memory that a lane which is alone has, by its view, and how each of its steps moves it.
use Rattle.std.proofs.Common.{◌≡◌, ◌≢◌, ◌↔◌, ℕ, ◌+◌, ◌/◌, ◌<◌, bit_and, bit_or, Bool, true, false, eqb, IsTrue, List, [], ◌∷◌, ◌++◌, length, set, slice_index, Some, None, refl, sym, ap, ◌∙◌, subst, length-append, get_or-set_same, get_or-set_other, length-set, eq-eqb, ne_eqb, ⊎_elim, ◌⊎◌}
use Rattle.std.specs.List.{list_any}
use Rattle.std.proofs.lemmas.Bool.{cases_Bool, cond-true, cond-false, or_parts}
use Rattle.std.proofs.lemmas.List.{set-get_or}
use Rattle.solo_view.specs.Blocks.{allocation_word, is_word}
use Rattle.solo_view.specs.Log.{Phase}
use Rattle.solo_view.specs.Log.Phase.{Idle, Open, Drawn, Sealing, Applying, Clearing, Retiring}
use Rattle.solo_view.specs.Steps.Step.{Load, Store, Or, And, Flush, Drain, TakeWrite, TakeRead, Raise, Give, ZoneTry, ZoneGive, Occupied, Occupy, Vacate, Draw, NumberSeen, StopSeen, SetStop, Tell}
use Rattle.solo_view.specs.View.{View, Lock}
use Rattle.solo_view.specs.declared.occ.Occ.{Occ}
use Rattle.solo_view.specs.declared.occ.Occ.TheVariants.{Run, Zone}
use Rattle.solo_view.specs.Steps.{Step}
use Rattle.solo_view.specs.Views.{after, begun, occ_in, occupied_word, runs_with, vacated_word, with_block, zones_with}
use Rattle.solo_memory.specs.LockWords.{reader_bit, writer_bit, with_reader, with_writer, without_lane}
use Rattle.solo_memory.specs.Solo.{lock_word}
use Rattle.solo_memory.proofs.Alone.{never}
use Rattle.solo_memory.proofs.Locking.{one_more, or_false, or_true, without_zone-here, without_zone-there}
use Rattle.solo_memory.proofs.Numbering.{same_runs, same_zones}
use Rattle.solo_memory.proofs.HeldLocks.{lock_word-append_other, lock_word-append_same, lock_word-given_other, lock_word-given_same, lock_word-map, lock_word-values}
use Rattle.solo_world.specs.Heap.{holds_zone}
use Rattle.solo_world.specs.Lawful.{LiesInside, is_holder}
use Rattle.solo_world.specs.Memory.{Becomes, IsSame, IsSameBut, Memory, occ_at}
use Rattle.solo_world.specs.Memory.Location.{PoolWord, LockWord, RunWord, ZoneWord, ZoneLock, CommitCounter, StopWord}
use Rattle.solo_world.specs.Moves.{Moves}

-- 1 where it is so
abbrev pub one_if : Bool → ℕ
one_if true = 1
one_if false = 0

-- the words as the view has them, the occupancy words among them, its locks, as many numbers as it has entries, and no stop word
abbrev pub memory_of : View → Memory
memory_of v (PoolWord i) = slice_index v.words i
memory_of v (LockWord line) = lock_word v.locks line
memory_of v (RunWord page) = slice_index v.run_words page
memory_of v (ZoneWord zone) = slice_index v.zone_words zone
memory_of v (ZoneLock zone) = one_if (holds_zone v zone)
memory_of v CommitCounter = length v.entries
memory_of v StopWord = 0

-- a view with the same words, lock words, zone locks and count of entries has the same memory
pub record LooksSame (v w : View) : Type 0 where
  pub words : w.words ≡ v.words
  pub locks : (line : ℕ) → lock_word w.locks line ≡ lock_word v.locks line
  pub count : length w.entries ≡ length v.entries
  pub runs : w.run_words ≡ v.run_words
  pub zones : w.zone_words ≡ v.zone_words
  pub zone_locks : w.zone_locks ≡ v.zone_locks

zone_lock_same : (v w : View) (zone : ℕ) → w.zone_locks ≡ v.zone_locks → one_if (holds_zone w zone) ≡ one_if (holds_zone v zone)
zone_lock_same v w zone same = ap (λ (zones : List ℕ). one_if (list_any (λ held. eqb held zone) zones)) same

pub same_memory : (v w : View) → LooksSame v w → IsSame (memory_of v) (memory_of w)
same_memory v w same (PoolWord i) = ap (λ (words : List ℕ). slice_index words i) same.words
same_memory v w same (LockWord line) = same.locks line
same_memory v w same (RunWord page) = ap (λ (words : List ℕ). slice_index words page) same.runs
same_memory v w same (ZoneWord zone) = ap (λ (words : List ℕ). slice_index words zone) same.zones
same_memory v w same (ZoneLock zone) = zone_lock_same v w zone same.zone_locks
same_memory v w same CommitCounter = same.count
same_memory v w same StopWord = refl

-- what a load finds is there
block_line : (lanes : ℕ) (words : List ℕ) (w : ℕ) (l : Lock) → (with_block lanes words w l).line ≡ l.line
block_line lanes words w l = ⊎_elim
    (λ (yes : is_word (allocation_word lanes words l.line) w ≡ true). ap (λ (k : Lock). k.line) (cond-true _ _ l yes))
    (λ (no : is_word (allocation_word lanes words l.line) w ≡ false). ap (λ (k : Lock). k.line) (cond-false _ _ l no))
    (cases_Bool (is_word (allocation_word lanes words l.line) w))

block_write : (lanes : ℕ) (words : List ℕ) (w : ℕ) (l : Lock) → (with_block lanes words w l).write ≡ l.write
block_write lanes words w l = ⊎_elim
    (λ (yes : is_word (allocation_word lanes words l.line) w ≡ true). ap (λ (k : Lock). k.write) (cond-true _ _ l yes))
    (λ (no : is_word (allocation_word lanes words l.line) w ≡ false). ap (λ (k : Lock). k.write) (cond-false _ _ l no))
    (cases_Bool (is_word (allocation_word lanes words l.line) w))

pub load_words : (v : View) (w x : ℕ) → x ≡ slice_index v.words w → set v.words w x ≡ v.words
load_words v w x found = ap (set v.words w) found ∙ set-get_or v.words w 0

pub load_moves : (v : View) (w x : ℕ) → x ≡ slice_index v.words w → Moves 0 (Load w x) (memory_of v) (memory_of (after v (Load w x)))
load_moves v w x found = (
  same_memory v (after v (Load w x)) (record {
    words = load_words v w x found;
    locks = lock_word-map (with_block v.lanes (set v.words w x) w) (block_line v.lanes (set v.words w x) w) (block_write v.lanes (set v.words w x) w) v.locks;
    count = refl;
    runs = refl;
    zones = refl;
    zone_locks = refl;
  }),
  found,
)

pub store_moves : (v : View) (w x : ℕ) → w < length v.words → Moves 0 (Store w x) (memory_of v) (memory_of (after v (Store w x)))
store_moves v w x inside = (others, get_or-set_same v.words w x 0 inside) where
  others : IsSameBut (PoolWord w) (memory_of v) (memory_of (after v (Store w x)))
  others (PoolWord i) other = get_or-set_other v.words w i x 0 (λ same. other (ap PoolWord same))
  others (LockWord line) other = refl
  others (RunWord page) other = refl
  others (ZoneWord zone) other = refl
  others (ZoneLock zone) other = refl
  others CommitCounter other = refl
  others StopWord other = refl

pub or_moves : (v : View) (w bits found : ℕ) → w < length v.words → found ≡ slice_index v.words w → Moves 0 (Or w bits found) (memory_of v) (memory_of (after v (Or w bits found)))
or_moves v w bits found inside same = ((others, get_or-set_same v.words w (bit_or found bits) 0 inside), same) where
  others : IsSameBut (PoolWord w) (memory_of v) (memory_of (after v (Or w bits found)))
  others (PoolWord i) other = get_or-set_other v.words w i (bit_or found bits) 0 (λ same. other (ap PoolWord same))
  others (LockWord line) other = refl
  others (RunWord page) other = refl
  others (ZoneWord zone) other = refl
  others (ZoneLock zone) other = refl
  others CommitCounter other = refl
  others StopWord other = refl

pub and_moves : (v : View) (w bits found : ℕ) → w < length v.words → found ≡ slice_index v.words w → Moves 0 (And w bits found) (memory_of v) (memory_of (after v (And w bits found)))
and_moves v w bits found inside same = ((others, get_or-set_same v.words w (bit_and found bits) 0 inside), same) where
  others : IsSameBut (PoolWord w) (memory_of v) (memory_of (after v (And w bits found)))
  others (PoolWord i) other = get_or-set_other v.words w i (bit_and found bits) 0 (λ same. other (ap PoolWord same))
  others (LockWord line) other = refl
  others (RunWord page) other = refl
  others (ZoneWord zone) other = refl
  others (ZoneLock zone) other = refl
  others CommitCounter other = refl
  others StopWord other = refl

pub flush_moves : (v : View) (line : ℕ) → Moves 0 (Flush line) (memory_of v) (memory_of (after v (Flush line)))
flush_moves v line = same_memory v (after v (Flush line)) (record { words = refl; locks = λ l. refl; count = refl; runs = refl; zones = refl; zone_locks = refl })

pub drain_moves : (v : View) → Moves 0 Drain (memory_of v) (memory_of (after v Drain))
drain_moves v = same_memory v (after v Drain) (record { words = refl; locks = λ l. refl; count = refl; runs = refl; zones = refl; zone_locks = refl })

-- a line whose lock the lane has not has no bit
no_hold : (locks : List Lock) (line : ℕ) → is_holder locks line ≡ false → lock_word locks line ≡ 0
no_hold [] line e = refl
no_hold (l ∷ locks) line e =
    let t = or_parts (eqb l.line line) (is_holder locks line) e in
    cond-false _ _ (lock_word locks line) t.0 ∙ no_hold locks line t.1

more_lock : (v : View) (l : Lock) → IsSameBut (LockWord l.line) (memory_of v) (memory_of (record v { locks = v.locks ++ l ∷ [] }))
more_lock v l (PoolWord i) other = refl
more_lock v l (LockWord line) other = lock_word-append_other v.locks l line (λ same. other (ap LockWord (sym same)))
more_lock v l (RunWord page) other = refl
more_lock v l (ZoneWord zone) other = refl
more_lock v l (ZoneLock zone) other = refl
more_lock v l CommitCounter other = refl
more_lock v l StopWord other = refl

pub take_write_moves : (v : View) (line : ℕ) (won : Bool) → IsTrue won → is_holder v.locks line ≡ false → Moves 0 (TakeWrite line won) (memory_of v) (memory_of (after v (TakeWrite line won)))
take_write_moves v line false won free = absurd (never won)
take_write_moves v line true won free =
    let l : Lock = record { line = line; write = true; block = None } in
    let zero : lock_word v.locks line ≡ 0 = no_hold v.locks line free in
    (more_lock v l, ap (with_writer 0) zero ∙ ap Some (sym (lock_word-append_same v.locks l line refl zero)))

pub take_read_moves : (v : View) (line : ℕ) (won : Bool) → IsTrue won → is_holder v.locks line ≡ false → Moves 0 (TakeRead line won) (memory_of v) (memory_of (after v (TakeRead line won)))
take_read_moves v line false won free = absurd (never won)
take_read_moves v line true won free =
    let l : Lock = record { line = line; write = false; block = None } in
    let zero : lock_word v.locks line ≡ 0 = no_hold v.locks line free in
    (more_lock v l, ap (with_reader 0) zero ∙ ap Some (sym (lock_word-append_same v.locks l line refl zero)))

-- of a lock word of one lane nothing is left
given_free : (word : ℕ) → (word ≡ 0) ⊎ ((word ≡ reader_bit 0) ⊎ (word ≡ writer_bit 0)) → without_lane 0 word ≡ 0
given_free word values = ⊎_elim (λ (free : word ≡ 0). ap (without_lane 0) free)
    (λ (held : (word ≡ reader_bit 0) ⊎ (word ≡ writer_bit 0)). ⊎_elim (λ (read : word ≡ reader_bit 0). ap (without_lane 0) read) (λ (write : word ≡ writer_bit 0). ap (without_lane 0) write) held) values

pub give_moves : (v : View) (line : ℕ) → Moves 0 (Give line) (memory_of v) (memory_of (after v (Give line)))
give_moves v line = (others, lock_word-given_same v.locks line ∙ sym (given_free (lock_word v.locks line) (lock_word-values v.locks line))) where
  others : IsSameBut (LockWord line) (memory_of v) (memory_of (after v (Give line)))
  others (PoolWord i) other = refl
  others (LockWord l) other = lock_word-given_other v.locks line l (λ same. other (ap LockWord (sym same)))
  others (RunWord page) other = refl
  others (ZoneWord zone) other = refl
  others (ZoneLock zone) other = refl
  others CommitCounter other = refl
  others StopWord other = refl

pub draw_moves : (v : View) (n : ℕ) → n ≡ length v.entries + 1 → Moves 0 (Draw n) (memory_of v) (memory_of (after v (Draw n)))
draw_moves v n next = ((others, length-append v.entries _ ∙ sym next), next) where
  others : IsSameBut CommitCounter (memory_of v) (memory_of (after v (Draw n)))
  others (PoolWord i) other = refl
  others (LockWord line) other = refl
  others (RunWord page) other = refl
  others (ZoneWord zone) other = refl
  others (ZoneLock zone) other = refl
  others CommitCounter other = absurd (other refl)
  others StopWord other = refl

begun_same : (phase : Phase) (v : View) → LooksSame v (begun phase v)
begun_same Idle v = record { words = refl; locks = λ l. refl; count = refl; runs = refl; zones = refl; zone_locks = refl }
begun_same (Open slot pair) v = record { words = refl; locks = λ l. refl; count = refl; runs = refl; zones = refl; zone_locks = refl }
begun_same Drawn v = record { words = refl; locks = λ l. refl; count = refl; runs = refl; zones = refl; zone_locks = refl }
begun_same Sealing v = record { words = refl; locks = λ l. refl; count = refl; runs = refl; zones = refl; zone_locks = refl }
begun_same (Applying applied) v = record { words = refl; locks = λ l. refl; count = refl; runs = refl; zones = refl; zone_locks = refl }
begun_same Clearing v = record { words = refl; locks = λ l. refl; count = refl; runs = refl; zones = refl; zone_locks = refl }
begun_same Retiring v = record { words = refl; locks = λ l. refl; count = refl; runs = refl; zones = refl; zone_locks = refl }

pub number_moves : (v : View) (n : ℕ) → n ≡ length v.entries → Moves 0 (NumberSeen n) (memory_of v) (memory_of (after v (NumberSeen n)))
number_moves v n seen =
    let same = begun_same v.log.phase v in
    (same_memory v (after v (NumberSeen n)) (record { words = same.words; locks = same.locks; count = same.count; runs = same.runs; zones = same.zones; zone_locks = same.zone_locks }), seen)

pub tell_moves : (v : View) (operation : _) (reply : _) → Moves 0 (Tell operation reply) (memory_of v) (memory_of (after v (Tell operation reply)))
tell_moves v operation reply = same_memory v (after v (Tell operation reply)) (record { words = refl; locks = λ l. refl; count = refl; runs = refl; zones = refl; zone_locks = refl })

-- ---- the heap's volatile words

-- the occupancy word is one that the view has a picture of
pub InPicture : View → Occ → Type 0
InPicture v (Run place) = place / 4096 < length v.run_words
InPicture v (Zone zone) = zone < length v.zone_words

pub occ_memory : (v : View) (at : Occ) → memory_of v (occ_at at) ≡ occ_in v at
occ_memory v (Run place) = refl
occ_memory v (Zone zone) = refl

-- another picture of one of them, and nothing else
record Pictures (v w : View) (at : Occ) (x : ℕ) : Type 0 where
  words : w.words ≡ v.words
  locks : w.locks ≡ v.locks
  count : length w.entries ≡ length v.entries
  zone_locks : w.zone_locks ≡ v.zone_locks
  runs : w.run_words ≡ runs_with at x v.run_words
  zones : w.zone_words ≡ zones_with at x v.zone_words

pictured : (v w : View) (at : Occ) (x : ℕ) → InPicture v at → Pictures v w at x → Becomes (occ_at at) x (memory_of v) (memory_of w)
unfolding InPicture
pictured v w (Run place) x inside is = (others, ap (λ (runs : List ℕ). slice_index runs (place / 4096)) is.runs ∙ get_or-set_same v.run_words (place / 4096) x 0 inside) where
  others : IsSameBut (RunWord (place / 4096)) (memory_of v) (memory_of w)
  others (PoolWord i) other = ap (λ (words : List ℕ). slice_index words i) is.words
  others (LockWord line) other = ap (λ (locks : List Lock). lock_word locks line) is.locks
  others (RunWord page) other = ap (λ (runs : List ℕ). slice_index runs page) is.runs ∙ get_or-set_other v.run_words (place / 4096) page x 0 (λ same. other (ap RunWord same))
  others (ZoneWord zone) other = ap (λ (zones : List ℕ). slice_index zones zone) is.zones
  others (ZoneLock zone) other = zone_lock_same v w zone is.zone_locks
  others CommitCounter other = is.count
  others StopWord other = refl
pictured v w (Zone at) x inside is = (others, ap (λ (zones : List ℕ). slice_index zones at) is.zones ∙ get_or-set_same v.zone_words at x 0 inside) where
  others : IsSameBut (ZoneWord at) (memory_of v) (memory_of w)
  others (PoolWord i) other = ap (λ (words : List ℕ). slice_index words i) is.words
  others (LockWord line) other = ap (λ (locks : List Lock). lock_word locks line) is.locks
  others (RunWord page) other = ap (λ (runs : List ℕ). slice_index runs page) is.runs
  others (ZoneWord zone) other = ap (λ (zones : List ℕ). slice_index zones zone) is.zones ∙ get_or-set_other v.zone_words at zone x 0 (λ same. other (ap ZoneWord same))
  others (ZoneLock zone) other = zone_lock_same v w zone is.zone_locks
  others CommitCounter other = is.count
  others StopWord other = refl

pub occupied_moves : (v : View) (at : Occ) (found : ℕ) → found ≡ occ_in v at → Moves 0 (Occupied at found) (memory_of v) (memory_of (after v (Occupied at found)))
occupied_moves v at found is = (
  same_memory v (after v (Occupied at found)) (record {
    words = refl;
    locks = λ l. refl;
    count = refl;
    runs = ap (λ x. runs_with at x v.run_words) is ∙ same_runs at v;
    zones = ap (λ x. zones_with at x v.zone_words) is ∙ same_zones at v;
    zone_locks = refl;
  }),
  is ∙ sym (occ_memory v at),
)

pub occupy_moves : (v : View) (at : Occ) (bits : ℕ) (won : Bool) → InPicture v at → (IsTrue won ↔ (bit_and (occ_in v at) bits ≡ 0)) → Moves 0 (Occupy at bits won) (memory_of v) (memory_of (after v (Occupy at bits won)))
occupy_moves v at bits true inside clear = (
  subst (λ x. Becomes (occ_at at) (bit_or x bits) (memory_of v) (memory_of (after v (Occupy at bits true)))) (sym (occ_memory v at))
      (pictured v (after v (Occupy at bits true)) at (bit_or (occ_in v at) bits) inside (record { words = refl; locks = refl; count = refl; zone_locks = refl; runs = refl; zones = refl })),
  ap (λ x. bit_and x bits) (occ_memory v at) ∙ clear.0 refl,
)
occupy_moves v at bits false inside clear = (
  same_memory v (after v (Occupy at bits false)) (record { words = refl; locks = λ l. refl; count = refl; runs = same_runs at v; zones = same_zones at v; zone_locks = refl }),
  λ none. never (clear.1 (ap (λ x. bit_and x bits) (sym (occ_memory v at)) ∙ none)),
)

pub vacate_moves : (v : View) (at : Occ) (bits : ℕ) → InPicture v at → Moves 0 (Vacate at bits) (memory_of v) (memory_of (after v (Vacate at bits)))
vacate_moves v at bits inside =
    subst (λ x. Becomes (occ_at at) (vacated_word bits x) (memory_of v) (memory_of (after v (Vacate at bits)))) (sym (occ_memory v at))
    (pictured v (after v (Vacate at bits)) at (vacated_word bits (occ_in v at)) inside (record { words = refl; locks = refl; count = refl; zone_locks = refl; runs = refl; zones = refl }))

-- of the zones' locks that of one is another
module _ (v w : View) (zone : ℕ) (words : w.words ≡ v.words) (locks : w.locks ≡ v.locks) (count : length w.entries ≡ length v.entries) (runs : w.run_words ≡ v.run_words) (zones : w.zone_words ≡ v.zone_words)
    (there : (other : ℕ) → zone ≢ other → holds_zone w other ≡ holds_zone v other) where
  zoned : IsSameBut (ZoneLock zone) (memory_of v) (memory_of w)
  zoned (PoolWord i) other = ap (λ (ws : List ℕ). slice_index ws i) words
  zoned (LockWord line) other = ap (λ (ls : List Lock). lock_word ls line) locks
  zoned (RunWord page) other = ap (λ (rs : List ℕ). slice_index rs page) runs
  zoned (ZoneWord z) other = ap (λ (zs : List ℕ). slice_index zs z) zones
  zoned (ZoneLock z) other = ap one_if (there z (λ same. other (ap ZoneLock (sym same))))
  zoned CommitCounter other = count
  zoned StopWord other = refl

pub zone_try_moves : (v : View) (zone : ℕ) (won : Bool) → IsTrue won → holds_zone v zone ≡ false → Moves 0 (ZoneTry zone won) (memory_of v) (memory_of (after v (ZoneTry zone won)))
zone_try_moves v zone false won free = absurd (never won)
zone_try_moves v zone true won free = (
  (
    zoned v (after v (ZoneTry zone true)) zone refl refl refl refl refl (λ other differ. one_more v.zone_locks zone other false (ne_eqb zone other differ) ∙ or_false (holds_zone v other)),
    ap one_if (one_more v.zone_locks zone zone true (eq-eqb zone zone refl) ∙ or_true (holds_zone v zone)),
  ),
  ap one_if free,
)

pub zone_give_moves : (v : View) (zone : ℕ) → Moves 0 (ZoneGive zone) (memory_of v) (memory_of (after v (ZoneGive zone)))
zone_give_moves v zone =
    (zoned v (after v (ZoneGive zone)) zone refl refl refl refl refl (λ other differ. without_zone-there v.zone_locks zone other differ), ap one_if (without_zone-here v.zone_locks zone))

-- it is, where the pool has it and each of its occupancy words is in the picture
pub in_picture : (v : View) (at : Occ) → length v.run_words ≡ length v.words / 512 → length v.zone_words ≡ 32 → LiesInside v at → InPicture v at
unfolding InPicture
in_picture v (Run place) pages count inside = subst (λ n. place / 4096 < n) (sym pages) inside
in_picture v (Zone zone) pages count inside = subst (λ n. zone < n) (sym count) inside

-- as many occupancy words after a step as before
pub record SameSizes (v w : View) : Type 0 where
  pub pages : length w.run_words ≡ length v.run_words
  pub zones : length w.zone_words ≡ length v.zone_words

sizes_still : (v w : View) → w.run_words ≡ v.run_words → w.zone_words ≡ v.zone_words → SameSizes v w
sizes_still v w runs zones = record { pages = ap (λ (l : List ℕ). length l) runs; zones = ap (λ (l : List ℕ). length l) zones }

sizes_with : (v w : View) (at : Occ) (x : ℕ) → w.run_words ≡ runs_with at x v.run_words → w.zone_words ≡ zones_with at x v.zone_words → SameSizes v w
sizes_with v w (Run place) x runs zones = record { pages = ap (λ (l : List ℕ). length l) runs ∙ length-set v.run_words (place / 4096) x; zones = ap (λ (l : List ℕ). length l) zones }
sizes_with v w (Zone zone) x runs zones = record { pages = ap (λ (l : List ℕ). length l) runs; zones = ap (λ (l : List ℕ). length l) zones ∙ length-set v.zone_words zone x }

pub sizes_after : (v : View) (s : Step) → SameSizes v (after v s)
sizes_after v (Load w x) = sizes_still v (after v (Load w x)) refl refl
sizes_after v (Store w x) = sizes_still v (after v (Store w x)) refl refl
sizes_after v (Or w bits found) = sizes_still v (after v (Or w bits found)) refl refl
sizes_after v (And w bits found) = sizes_still v (after v (And w bits found)) refl refl
sizes_after v (Flush line) = sizes_still v (after v (Flush line)) refl refl
sizes_after v Drain = sizes_still v (after v Drain) refl refl
sizes_after v (TakeWrite line won) = sizes_still v (after v (TakeWrite line won)) refl refl
sizes_after v (TakeRead line won) = sizes_still v (after v (TakeRead line won)) refl refl
sizes_after v (Raise line won) = sizes_still v (after v (Raise line won)) refl refl
sizes_after v (Give line) = sizes_still v (after v (Give line)) refl refl
sizes_after v (ZoneTry zone won) = sizes_still v (after v (ZoneTry zone won)) refl refl
sizes_after v (ZoneGive zone) = sizes_still v (after v (ZoneGive zone)) refl refl
sizes_after v (Occupied at found) = sizes_with v (after v (Occupied at found)) at found refl refl
sizes_after v (Occupy at bits won) = sizes_with v (after v (Occupy at bits won)) at (occupied_word won bits (occ_in v at)) refl refl
sizes_after v (Vacate at bits) = sizes_with v (after v (Vacate at bits)) at (vacated_word bits (occ_in v at)) refl refl
sizes_after v (Draw n) = sizes_still v (after v (Draw n)) refl refl
sizes_after v (NumberSeen n) = let same = begun_same v.log.phase v in sizes_still v (after v (NumberSeen n)) same.runs same.zones
sizes_after v (StopSeen set) = sizes_still v (after v (StopSeen set)) refl refl
sizes_after v SetStop = sizes_still v (after v SetStop) refl refl
sizes_after v (Tell operation reply) = sizes_still v (after v (Tell operation reply)) refl refl
