-- How a chunk is made a run: docs/FORMAT.md, "Runs are made" and "Sequences". Chunks are given by their pages.
use Rattle.std.specs.Prelude.{ℕ, ◌+◌, ◌-◌, ◌*◌, ◌/◌, ◌^◌}
use Rattle.pm_layout.specs.Sizes.{blocks_of}
use Rattle.solo_view.specs.declared.occ.Occ.{Occ}
use Rattle.solo_view.specs.declared.occ.Occ.TheVariants.{Run}
use Rattle.solo_view.specs.Blocks.{bitmap_word, descriptor_word, zone_page}
use Rattle.solo_view.specs.Steps.Step.{Vacate}
use Rattle.solo_world.specs.Sequences.{Sequence, in_turn, one, stores}
use Rattle.solo_undo.specs.Sequences.{persists}

-- the page of a zone's chunk, 0 for the first, and the occupancy word of the run that it is to be
abbrev pub page_in : ℕ → ℕ → ℕ → ℕ
page_in lanes zone chunk = zone_page lanes zone + 1 + chunk

abbrev pub run_at : ℕ → Occ
run_at page = Run (4096 * page)

-- the descriptor of a run of blocks of so many lines
abbrev pub run_descriptor : ℕ → ℕ
run_descriptor lines = 256 * lines + 1

-- the bits of all blocks of such a run but its first
abbrev pub behind_first : ℕ → ℕ
behind_first lines = 2 ^ blocks_of lines - 2

-- a word is stored and made persistent
unfoldable pub stores_persistent : ℕ → ℕ → Sequence
stores_persistent w x = in_turn (stores w x) (persists (w / 8))

-- all blocks but the first are given back
unfoldable pub keeps_first : ℕ → ℕ → Sequence
keeps_first page lines = one (Vacate (run_at page) (behind_first lines))

-- first the bitmap and then the descriptor, each persistent before what comes behind it; and all blocks but the first are given back
unfoldable pub makes_run : ℕ → ℕ → ℕ → Sequence
makes_run lanes page lines =
    in_turn (stores_persistent (bitmap_word page) 0)
    (in_turn (stores_persistent (descriptor_word lanes page) (run_descriptor lines)) (keeps_first page lines))
