-- Where blocks lie, in pages of 512 words, each of 64 lines: the header's page, two pages a lane, 65 pages a zone.
use Rattle.std.specs.Prelude.{ℕ, ◌+◌, ◌-◌, ◌*◌, ◌/◌, ◌%◌, ◌==◌, ◌&&◌, nat_le, nat_lt, Bool, false, not, if◌then◌else◌, List, slice_index, Option, Some, None}
use Rattle.std.specs.Int.{bit_at}
use Rattle.solo_view.specs.declared.occ.Occ.{Occ}
use Rattle.solo_view.specs.declared.occ.Occ.TheVariants.{Run, Zone}

-- the page at which a zone begins
abbrev pub zone_page : ℕ → ℕ → ℕ
zone_page lanes zone = 1 + 2 * lanes + 65 * zone

-- the zone of a page behind the lanes, and which chunk of it the page is, 1 for the first
abbrev pub zone_of : ℕ → ℕ → ℕ
zone_of lanes page = (page - zone_page lanes 0) / 65

abbrev pub chunk_of : ℕ → ℕ → ℕ
chunk_of lanes page = (page - zone_page lanes 0) % 65

-- the word of a chunk's descriptor
abbrev pub descriptor_word : ℕ → ℕ → ℕ
descriptor_word lanes page = 512 * zone_page lanes (zone_of lanes page) + chunk_of lanes page - 1

-- the word describes a chunk: it is one of the first 64 of a zone's first page
abbrev pub describes : ℕ → ℕ → Bool
describes lanes w = nat_le (zone_page lanes 0) (w / 512) && chunk_of lanes (w / 512) == 0 && nat_lt (w % 512) 64

-- the page of the chunk that the word describes, or else the page that it lies in
abbrev pub page_told : ℕ → ℕ → ℕ
page_told lanes w = if describes lanes w then w / 512 + 1 + w % 512 else w / 512

-- the word of a run's bitmap
abbrev pub bitmap_word : ℕ → ℕ
bitmap_word page = 512 * page

-- a descriptor is that of a run, or of the first chunk of a huge block
abbrev pub is_run : ℕ → Bool
is_run descriptor = descriptor % 256 == 1

abbrev pub is_huge : ℕ → Bool
is_huge descriptor = descriptor % 256 == 2

-- whether the bit is set of the run's block that begins at a line of its page
abbrev pub has_block : ℕ → ℕ → ℕ → Bool
has_block bitmap lines line = nat_le 1 line && (line - 1) % lines == 0 && bit_at bitmap ((line - 1) / lines) == 1

-- the page is a chunk: behind the lanes' areas, and not the first of a zone
abbrev pub is_chunk : ℕ → ℕ → Bool
is_chunk lanes page = nat_le (zone_page lanes 0) page && nat_le 1 (chunk_of lanes page)

-- the word is a chunk's, and not the bitmap of a run: it tells of no block
abbrev pub tells_nothing : ℕ → List ℕ → ℕ → Bool
tells_nothing lanes words w = is_chunk lanes (w / 512) && not (w % 512 == 0 && is_run (slice_index words (descriptor_word lanes (w / 512))))

-- the word that tells whether a block begins at the line: the run's bitmap, else the descriptor; none where the line is in no chunk
abbrev pub allocation_word : ℕ → List ℕ → ℕ → Option ℕ
allocation_word lanes words line =
    if not (is_chunk lanes (line / 64)) then None else
    Some (if is_run (slice_index words (descriptor_word lanes (line / 64))) then bitmap_word (line / 64) else descriptor_word lanes (line / 64))

-- it is this word
abbrev pub is_word : Option ℕ → ℕ → Bool
is_word None w = false
is_word (Some word) w = word == w

-- the lines of the allocated block that begins at the line, as the words say, or none: of no block too where the line is in no chunk
abbrev pub block_at : ℕ → List ℕ → ℕ → Option ℕ
block_at lanes words line =
    let descriptor = slice_index words (descriptor_word lanes (line / 64)) in
    if not (is_chunk lanes (line / 64)) then None else
    if is_run descriptor && has_block (slice_index words (bitmap_word (line / 64))) (descriptor / 256) (line % 64) then Some (descriptor / 256) else
    if is_huge descriptor && line % 64 == 0 then Some (64 * (descriptor / 256)) else None

-- the word is in one of these blocks of an occupancy word, whose lines a run's descriptor tells; or it is in one of these chunks, or describes one
abbrev pub covers : ℕ → List ℕ → Occ → ℕ → ℕ → Bool
covers lanes words (Run place) bits w =
    let lines = slice_index words (descriptor_word lanes (place / 4096)) / 256 in
    w / 512 == place / 4096 && nat_le 8 (w % 512) && bit_at bits ((w % 512 / 8 - 1) / lines) == 1
covers lanes words (Zone zone) bits w =
    let page = page_told lanes w in
    is_chunk lanes page && zone_of lanes page == zone && bit_at bits (chunk_of lanes page - 1) == 1
