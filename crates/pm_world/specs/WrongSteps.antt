-- STEPS THAT A LANE MAY NOT MAKE, whatever it knows and whatever other lanes hold.
use Rattle.std.specs.Prelude.{◌≡◌, ◌≢◌, ◌⊎◌, ℕ, ◌+◌, ◌*◌, ◌<◌, ◌≤◌, Bool, true, false, Any, Contains, List, [], ◌∷◌, ◌++◌, ◌&&◌, Some}
use Rattle.std.specs.Int.{bit_at}
use Rattle.pm_layout.specs.Chunks.{words_of}
use Rattle.pm_view.specs.declared.occ.Occ.{Occ}
use Rattle.pm_view.specs.declared.occ.Occ.TheVariants.{Run, Zone}
use Rattle.pm_view.specs.Places.{Place, Small, Big}
use Rattle.pm_view.specs.Entries.{Entry, given_bit}
use Rattle.pm_view.specs.Parts.{Part, SealPart, RootPart, ChunkPart}
use Rattle.pm_view.specs.Log.{Open, Applying, is_early}
use Rattle.pm_view.specs.Claims.{span, run_chunk, is_among}
use Rattle.pm_view.specs.Steps.{Step}
use Rattle.pm_view.specs.Steps.Step.{Store, Or, And, Give, Occupy, Vacate}
use Rattle.pm_view.specs.View.{View, Told}
use Rattle.pm_view.specs.Views.{part_in}
use Rattle.pm_world.specs.States.{given}
use Rattle.pm_world.specs.Sights.{is_logged}
use Rattle.pm_world.specs.Memory.{Memory, RunWord, ZoneWord}
use Rattle.pm_world.specs.Moves.{Moves}
use Rattle.pm_world.specs.Lawful.{IsLawful, place_in, block_in, is_mine, names, is_reserve, is_cancelled}

-- the step is not lawful to a lane with this view
abbrev pub IsUnlawful : View → Step → Type 0
IsUnlawful v s = IsLawful v s → ⊥

-- no step may change the word: no store, no OR and no AND of it is lawful
abbrev pub IsUnwritable : View → ℕ → Type 0
IsUnwritable v w = ((x : ℕ) → IsUnlawful v (Store w x))
    × ((bits found : ℕ) → IsUnlawful v (Or w bits found))
    × ((bits found : ℕ) → IsUnlawful v (And w bits found))

-- the part is a user's: a word of a chunk, or the root's offset
abbrev pub is_user_part : Part → Bool
is_user_part RootPart = true
is_user_part (ChunkPart c i) = true
is_user_part part = false

-- ---- WORDS OF USERS

-- A user's word is not changed before its record is drained, unless it is in a block of the
-- lane's own. Applied entries are no such change: the seal is drained before them
abbrev pub NoUnloggedChange : Type 0
NoUnloggedChange = (v : View) (w : ℕ) (p : Place)
    → is_user_part (part_in v w) ≡ true → place_in v w ≡ Some p
    → ((todo : List Entry) → v.log.phase ≢ Applying todo)
    → is_logged v.fixed.shape v.fixed.lane v.changes v.log.records p ≡ false
    → is_mine v (block_in v p 64) ≡ false
    → IsUnwritable v w

-- ---- THE SEAL

-- While anything of the lane is undrained its seal is not stored
abbrev pub NoHastySeal : Type 0
NoHastySeal = (v : View) (w : ℕ)
    → part_in v w ≡ SealPart → v.changes ≢ []
    → IsUnwritable v w

-- A drained seal is not cleared while anything is undrained, nor while an entry is still to be
-- applied: todo has these entries
abbrev pub NoHastyClear : Type 0
NoHastyClear = (v : View) (w : ℕ) (todo : List Entry)
    → part_in v w ≡ SealPart → v.log.phase ≡ Applying todo → (v.changes ≢ []) ⊎ (todo ≢ [])
    → IsUnwritable v w

-- ---- LOCKS

-- From its number on, and while it is aborted, a call gives no lock back until the store that
-- retires its log is drained: of the next generation, or of the cleared seal
abbrev pub NoHastyGive : Type 0
NoHastyGive = (v : View) (line : ℕ)
    → is_early v.log.phase ≡ false
    → IsUnlawful v (Give line)

-- ---- BLOCKS

-- From its number on a call that has records or entries releases no block until its log is
-- retired: so none while the log is sealed, its entries are applied or its seal is cleared
abbrev pub NoHastyRelease : Type 0
NoHastyRelease = (v : View) (at : Occ) (bits : ℕ)
    → is_early v.log.phase ≡ false
    → IsUnlawful v (Vacate at bits)

-- Before its number it releases no block of which an entry of its log changes a bit
abbrev pub NoEnteredRelease : Type 0
NoEnteredRelease = (v : View) (at : Occ) (bits : ℕ) (e : Entry) (p : Place) (b : ℕ)
    → Contains v.log.entries e → e.place ≡ Some p → given (given_bit e.op e.value b) ≡ true
    → is_among v.fixed.shape at bits (block_in v p b) ≡ true
    → IsUnlawful v (Vacate at bits)

-- A block of a run that is not the lane's own is not released, allocated or not
abbrev pub NoForeignRelease : Type 0
NoForeignRelease = (v : View) (place bits i : ℕ)
    → bit_at bits i ≡ 1 → is_mine v (Small (run_chunk v.fixed.shape place) i) ≡ false
    → IsUnlawful v (Vacate (Run place) bits)

-- Nor is a chunk that is in no huge block of the lane's own; f is the block's first chunk
abbrev pub NoForeignChunkRelease : Type 0
NoForeignChunkRelease = (v : View) (zone bits i : ℕ)
    → bit_at bits i ≡ 1
    → ((f : ℕ) → f ≤ 64 * zone + i → 64 * zone + i < f + span v.fixed.shape v.claims f
    → is_mine v (Big f) ≡ false)
    → IsUnlawful v (Vacate (Zone zone) bits)

-- Before a call has its number no block is released that a reply of the call names, unless the
-- reply is a reservation's that later operations of the call cancel: one that is pending is not
abbrev pub NoToldRelease : Type 0
NoToldRelease = (v : View) (at : Occ) (bits : ℕ) (earlier later : List Told) (t : Told)
    → v.log.phase ≡ Open
    → v.call ≡ earlier ++ t ∷ later → names v at bits t ≡ true
    → (is_reserve t.operation && is_cancelled later) ≡ false
    → IsUnlawful v (Vacate at bits)

-- Nor is one that was reserved, in whichever call, and that the call published
abbrev pub NoPublishedRelease : Type 0
NoPublishedRelease = (v : View) (at : Occ) (bits : ℕ)
    → v.log.phase ≡ Open
    → Any (λ (t : Told). names v at bits t ≡ true) v.published
    → IsUnlawful v (Vacate at bits)

-- ---- OCCUPANCY WORDS

-- A store is of a word of the pool, where no occupancy word is
abbrev pub StoresAreInPool : Type 0
StoresAreInPool = (v : View) (w x : ℕ) → IsLawful v (Store w x) → w < words_of v.fixed.shape

-- the step takes or releases occupancy bits, in one step that no other lane's comes between
abbrev pub moves_occupancy : Step → Bool
moves_occupancy (Occupy at bits won) = true
moves_occupancy (Vacate at bits) = true
moves_occupancy s = false

-- No other step changes an occupancy word, so none is read and then plainly stored
abbrev pub OccupancyStays : Type 0
OccupancyStays = (lane : ℕ) (s : Step) (old new : Memory)
    → Moves lane s old new → moves_occupancy s ≡ false
    → (n : ℕ) → (new (RunWord n) ≡ old (RunWord n)) × (new (ZoneWord n) ≡ old (ZoneWord n))
