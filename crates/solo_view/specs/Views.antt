-- What each step does to a lane's view.
use Rattle.std.specs.Prelude.{ℕ, ◌+◌, ◌-◌, ◌*◌, ◌/◌, ◌%◌, ◌^◌, ◌==◌, ◌&&◌, ◌||◌, Bool, true, false, not, if◌then◌else◌, List, [], ◌∷◌, ◌++◌, flat_map, map, slice_index, slice_set, Option, Some, None, is_some, bit_and, bit_or}
use Rattle.std.specs.List.{filter, list_any}
use Rattle.pm_objects.specs.declared.calls.Operation.{Operation}
use Rattle.pm_objects.specs.declared.history.Value.{Value}
use Rattle.std.specs.Int.{bit_at, bit_not, w64}
use Rattle.pm_layout.specs.Sizes.{blocks_of}
use Rattle.solo_view.specs.declared.change.Change.{Change}
use Rattle.solo_view.specs.declared.occ.Occ.{Occ}
use Rattle.solo_view.specs.Area.{is_in_area, part_of}
use Rattle.solo_view.specs.Blocks.{allocation_word, block_at, chunk_of, describes, descriptor_word, is_chunk, is_huge, is_run, is_word, zone_of}
use Rattle.solo_view.specs.Changes.{store_change, or_change, and_change, flushed, drained}
use Rattle.solo_view.specs.Held.{is_held}
use Rattle.pm_objects.specs.declared.calls.Operation.TheVariants.{Reserve, DeferFree, SetValue, Publish, Cancel}
use Rattle.pm_objects.specs.declared.history.Value.TheVariants.{Offset}
use Rattle.solo_view.specs.declared.occ.Occ.TheVariants.{Run, Zone}
use Rattle.solo_view.specs.Log.{Final, Log, Phase, no_log, log_stored, log_changed, log_drained, log_drawn}
use Rattle.solo_view.specs.Log.Phase.{Idle, Open}
use Rattle.solo_view.specs.Rights.{is_written}
use Rattle.solo_view.specs.Steps.{Step}
use Rattle.solo_view.specs.Steps.Step.{Load, Store, Or, And, Flush, Drain, TakeWrite, TakeRead, Raise, Give, ZoneTry, ZoneGive, Occupied, Occupy, Vacate, Draw, NumberSeen, StopSeen, SetStop, Tell}
use Rattle.solo_view.specs.View.{View, Lock, Taken, Told}

-- the step told something
abbrev pub with_seen : Step → View → View
with_seen s v = record v { seen = v.seen ++ s ∷ [] }

-- what a load of the word that tells of a block says of a lock
abbrev pub with_block : ℕ → List ℕ → ℕ → Lock → Lock
with_block lanes words w lock = if is_word (allocation_word lanes words lock.line) w then record lock { block = block_at lanes words lock.line } else lock

-- x was found in the word
abbrev pub loaded : View → ℕ → ℕ → View
loaded v w x = record v {
  words = slice_set v.words w x;
  known = if is_held v w then w ∷ v.known else v.known;
  locks = map (with_block v.lanes (slice_set v.words w x) w) v.locks;
}

-- the word became x by this change, and the log this: the lane knows it where it holds it
abbrev pub changed : View → ℕ → ℕ → Change → Log → View
changed v w x c log = record v {
  words = slice_set v.words w x;
  known = if is_held v w then w ∷ v.known else v.known;
  changes = v.changes ++ c ∷ [];
  calls = v.calls + 1;
  log = log;
}

-- once nothing is undrained the log goes on
abbrev pub log_after_drain : List Change → View → Log
log_after_drain [] v = log_drained v.log.phase (is_some v.number) v.log
log_after_drain (c ∷ changes) v = v.log

-- the locks with one more
abbrev pub taken : ℕ → Bool → Bool → List Lock → List Lock
taken line write true locks = locks ++ record { line = line; write = write; block = None } ∷ []
taken line write false locks = locks

-- the lock of the line is held for writing from now on
abbrev pub raised : ℕ → Bool → List Lock → List Lock
raised line true locks = map (λ (l : Lock). if l.line == line then record l { write = true } else l) locks
raised line false locks = locks

-- what no longer stays as it is known is known no longer
abbrev pub forgetful : View → View
forgetful v = record v { known = filter (is_held v) v.known }

-- the zones whose lock the lane holds, with one more
abbrev pub zone_taken : ℕ → Bool → List ℕ → List ℕ
zone_taken zone true zones = zones ++ zone ∷ []
zone_taken zone false zones = zones

-- two occupancy words are one
abbrev pub is_same_occ : Occ → Occ → Bool
is_same_occ (Run place) (Run other) = place == other
is_same_occ (Zone zone) (Zone other) = zone == other
is_same_occ at other = false

-- the picture of an occupancy word
abbrev pub occ_in : View → Occ → ℕ
occ_in v (Run place) = slice_index v.run_words (place / 4096)
occ_in v (Zone zone) = slice_index v.zone_words zone

-- the words of runs, and those of zones, with this one made x
abbrev pub runs_with : Occ → ℕ → List ℕ → List ℕ
runs_with (Run place) x runs = slice_set runs (place / 4096) x
runs_with (Zone zone) x runs = runs

abbrev pub zones_with : Occ → ℕ → List ℕ → List ℕ
zones_with (Run place) x zones = zones
zones_with (Zone zone) x zones = slice_set zones zone x

-- the view with x in the picture of an occupancy word
abbrev pub with_occ : Occ → ℕ → View → View
with_occ at x v = record v { run_words = runs_with at x v.run_words; zone_words = zones_with at x v.zone_words }

-- an occupancy word after a try to take bits of it, and after bits of it were given back
abbrev pub occupied_word : Bool → ℕ → ℕ → ℕ
occupied_word true bits found = bit_or found bits
occupied_word false bits found = found

abbrev pub vacated_word : ℕ → ℕ → ℕ
vacated_word bits found = bit_and found (bit_not w64 bits)

-- blocks, and these bits of an occupancy word
abbrev pub with_taken : Occ → ℕ → Bool → List Taken → List Taken
with_taken at bits true blocks = blocks ++ record { at = at; bits = bits } ∷ []
with_taken at bits false blocks = blocks

-- blocks but for these bits of an occupancy word
abbrev pub without_taken : Occ → ℕ → List Taken → List Taken
without_taken at bits blocks =
    filter (λ (t : Taken). not (t.bits == 0)) (map (λ (t : Taken). if is_same_occ at t.at then record t { bits = bit_and t.bits (bit_not w64 bits) } else t) blocks)

-- these blocks have the bit of the occupancy word
abbrev pub has_bit : Occ → ℕ → Taken → Bool
has_bit at bit t = is_same_occ at t.at && bit_at t.bits bit == 1

-- the lane reserved what the bit is of
abbrev pub reserves : View → Occ → ℕ → Bool
reserves v at bit = list_any (has_bit at bit) v.reserved

-- a page's zone as an occupancy word, and the bit of it that stands for the page's chunk
abbrev pub zone_at : ℕ → ℕ → Occ
zone_at lanes page = Zone (zone_of lanes page)

abbrev pub chunk_bit : ℕ → ℕ → ℕ
chunk_bit lanes page = chunk_of lanes page - 1

-- the lane reserved the page's chunk
abbrev pub has_chunk : View → ℕ → Bool
has_chunk v page = reserves v (zone_at v.lanes page) (chunk_bit v.lanes page)

-- the lane made the chunk a run: it reserved it, and its descriptor is a run's
abbrev pub is_made : View → ℕ → Bool
is_made v page = has_chunk v page && is_run (slice_index v.words (descriptor_word v.lanes page))

-- all blocks of the run at this place, as the view has its descriptor
abbrev pub all_of_run : View → ℕ → Taken
all_of_run v place = record { at = Run place; bits = 2 ^ blocks_of (slice_index v.words (descriptor_word v.lanes (place / 4096)) / 256) - 1 }

-- the lane's blocks as it gives blocks of this word back: of a run that it made it has the blocks in place of the chunk
abbrev pub exchanged : View → Occ → List Taken
exchanged v (Run place) =
    let page = place / 4096 in
    if is_made v page then without_taken (zone_at v.lanes page) (2 ^ chunk_bit v.lanes page) v.reserved ++ all_of_run v place ∷ [] else v.reserved
exchanged v (Zone zone) = v.reserved

-- ---- blocks that a call allocates or frees by entries of its log

-- the entry is of a word that is neither in the lane's area nor one that it wrote under a lock: it allocates a block or frees one
abbrev pub is_of_heap : View → Final → Bool
is_of_heap v f = not (is_in_area v.lane f.word || is_written v f.word)

-- the lane's log has such an entry
abbrev pub changes_heap : View → Bool
changes_heap v = list_any (is_of_heap v) v.log.entries

-- the word is the bitmap of a run
abbrev pub is_bitmap : View → ℕ → Bool
is_bitmap v w = is_chunk v.lanes (w / 512) && w % 512 == 0 && is_run (slice_index v.words (descriptor_word v.lanes (w / 512)))

-- the chunks of a huge block whose first chunk has this descriptor, as bits of its zone
abbrev pub chunks_described : ℕ → ℕ → ℕ → Taken
chunks_described lanes w descriptor = record { at = Zone (zone_of lanes (w / 512)); bits = 2 ^ (w % 512) * (2 ^ (descriptor / 256) - 1) }

-- the blocks that an entry allocates: bits of a run's bitmap are set, or a chunk becomes the first of a huge block
abbrev pub allocated_by : View → Final → List Taken
allocated_by v f =
    if not (is_of_heap v f) then [] else
    if describes v.lanes f.word then (if is_huge f.bits then chunks_described v.lanes f.word f.bits ∷ [] else []) else
    if is_bitmap v f.word && f.ors then record { at = Run (8 * f.word); bits = f.mask } ∷ [] else []

-- and those that it frees: bits of a run's bitmap are cleared, or the descriptor of a huge block becomes 0
abbrev pub freed_by : View → Final → List Taken
freed_by v f =
    if not (is_of_heap v f) then [] else
    if describes v.lanes f.word then (if f.bits == 0 then chunks_described v.lanes f.word (slice_index v.words f.word) ∷ [] else []) else
    if is_bitmap v f.word && not f.ors then record { at = Run (8 * f.word); bits = f.mask } ∷ [] else []

-- blocks but for all of these
unfoldable pub without_all : List Taken → List Taken → List Taken
without_all [] blocks = blocks
without_all (t ∷ these) blocks = without_all these (without_taken t.at t.bits blocks)

-- what the lane reserved, without what its entries allocate
abbrev pub unallocated : View → List Taken
unallocated v = without_all (flat_map (allocated_by v) v.log.entries) v.reserved

-- a call begins where none is open
abbrev pub begun : Phase → View → View
begun Idle v = record v { log = no_log (Open [] []); seen = []; call = []; number = None }
begun phase v = v

-- the pending actions after an operation that was answered so: one more, or none where they were published or given up
abbrev pub actions_told : Operation → Option Value → List Told → List Told
actions_told (Reserve size kind) (Some (Offset off)) actions = actions ++ record { operation = Reserve size kind; reply = Some (Offset off) } ∷ []
actions_told (DeferFree id) None actions = actions ++ record { operation = DeferFree id; reply = None } ∷ []
actions_told (SetValue id off value) None actions = actions ++ record { operation = SetValue id off value; reply = None } ∷ []
actions_told Publish None actions = []
actions_told Cancel None actions = []
actions_told operation reply actions = actions

abbrev pub after : View → Step → View
after v (Load w x) = with_seen (Load w x) (loaded v w x)
after v (Store w x) = changed v w x (store_change w (slice_index v.words w) x) (log_stored v.log.phase (part_of v.lane w) x v.log)
after v (Or w bits found) = changed v w (bit_or found bits) (or_change w bits found) (log_changed v.log.phase v.log)
after v (And w bits found) = changed v w (bit_and found bits) (and_change w bits found) (log_changed v.log.phase v.log)
after v (Flush line) = record v { changes = flushed line v.changes; calls = v.calls + 1 }
after v Drain = record v { changes = drained v.changes; calls = v.calls + 1; log = log_after_drain (drained v.changes) v }
after v (TakeWrite line won) = with_seen (TakeWrite line won) (record v { locks = taken line true won v.locks })
after v (TakeRead line won) = with_seen (TakeRead line won) (record v { locks = taken line false won v.locks })
after v (Raise line won) = with_seen (Raise line won) (record v { locks = raised line won v.locks })
after v (Give line) = forgetful (record v { locks = filter (λ (l : Lock). not (l.line == line)) v.locks })
after v (Draw n) = record v {
  log = log_drawn v.log.phase v.log;
  number = Some n;
  entries = v.entries ++ record { number = n; call = v.call } ∷ [];
  known = if changes_heap v then filter (is_held (record v { reserved = unallocated v })) v.known else v.known;
  reserved = if changes_heap v then unallocated v else v.reserved;
  freed = if changes_heap v then v.freed ++ flat_map (freed_by v) v.log.entries else v.freed;
}
after v (ZoneTry zone won) = with_seen (ZoneTry zone won) (record v { zone_locks = zone_taken zone won v.zone_locks })
after v (ZoneGive zone) = with_seen (ZoneGive zone) (record v { zone_locks = filter (λ other. not (other == zone)) v.zone_locks })
after v (Occupied at found) = with_seen (Occupied at found) (with_occ at found v)
after v (Occupy at bits won) = with_seen (Occupy at bits won) (record (with_occ at (occupied_word won bits (occ_in v at)) v) { reserved = with_taken at bits won v.reserved })
after v (Vacate at bits) = forgetful (record (with_occ at (vacated_word bits (occ_in v at)) v) { reserved = without_taken at bits (exchanged v at); freed = without_taken at bits v.freed })
after v (NumberSeen n) = with_seen (NumberSeen n) (begun v.log.phase v)
after v (StopSeen set) = with_seen (StopSeen set) v
after v SetStop = v
after v (Tell operation reply) = record v { call = v.call ++ record { operation = operation; reply = reply } ∷ []; actions = actions_told operation reply v.actions }

unfoldable pub after_all : View → List Step → View
after_all v [] = v
after_all v (s ∷ steps) = after_all (after v s) steps
