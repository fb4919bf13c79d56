-- Where chunks stand, in words and lines. The chunks of a pool are numbered through all its zones: chunk c is chunk c % 64 of zone c / 64.
-- A word has 8 bytes, a line 8 words, a page 512 words. A second version of the layout changes these functions and nothing that takes them.
use Rattle.std.specs.Prelude.{ℕ, ◌+◌, ◌-◌, ◌*◌, ◌/◌, ◌%◌, ◌==◌, ◌&&◌, nat_le, nat_lt, Bool}
use Rattle.pm_layout.specs.declared.shape.Shape.{Shape}

-- the words of a pool, and its chunks
abbrev pub words_of : Shape → ℕ
words_of shape = 512 + 1024 * shape.lanes + 33280 * shape.zones

abbrev pub chunks_of : Shape → ℕ
chunks_of shape = 64 * shape.zones

-- the page at which a zone begins: it has the descriptors of the zone's chunks, which are the pages after it
abbrev pub page_of_zone : Shape → ℕ → ℕ
page_of_zone shape zone = 1 + 2 * shape.lanes + 65 * zone

-- the page that is a chunk, the chunk's first word and first line, and the word of its descriptor
abbrev pub page_of_chunk : Shape → ℕ → ℕ
page_of_chunk shape chunk = page_of_zone shape (chunk / 64) + 1 + chunk % 64

abbrev pub word_of_chunk : Shape → ℕ → ℕ
word_of_chunk shape chunk = 512 * page_of_chunk shape chunk

abbrev pub line_of_chunk : Shape → ℕ → ℕ
line_of_chunk shape chunk = 64 * page_of_chunk shape chunk

abbrev pub word_of_descriptor : Shape → ℕ → ℕ
word_of_descriptor shape chunk = 512 * page_of_zone shape (chunk / 64) + chunk % 64

-- the word that has the root's offset
abbrev pub word_of_root : Shape → ℕ
word_of_root shape = 64

-- the zone that a page is in, and which page of it: 0 for the descriptors, 1 for the first chunk
abbrev pub zone_at : Shape → ℕ → ℕ
zone_at shape page = (page - page_of_zone shape 0) / 65

abbrev pub page_in_zone : Shape → ℕ → ℕ
page_in_zone shape page = (page - page_of_zone shape 0) % 65

-- the page is in a zone of the pool
abbrev pub is_in_zone : Shape → ℕ → Bool
is_in_zone shape page = nat_le (page_of_zone shape 0) page && nat_lt page (page_of_zone shape shape.zones)

-- the page is a chunk, and which
abbrev pub is_chunk_page : Shape → ℕ → Bool
is_chunk_page shape page = is_in_zone shape page && nat_le 1 (page_in_zone shape page)

abbrev pub chunk_at : Shape → ℕ → ℕ
chunk_at shape page = 64 * zone_at shape page + (page_in_zone shape page - 1)

-- the word is the descriptor of a chunk, and of which
abbrev pub is_descriptor_word : Shape → ℕ → Bool
is_descriptor_word shape word = is_in_zone shape (word / 512) && page_in_zone shape (word / 512) == 0 && nat_lt (word % 512) 64

abbrev pub chunk_described : Shape → ℕ → ℕ
chunk_described shape word = 64 * zone_at shape (word / 512) + word % 512
