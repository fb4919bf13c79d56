-- How a header is spelled in its page: docs/FORMAT.md, "Header page".
use Rattle.std.specs.Prelude.{ℕ, List, [], ◌∷◌, ◌++◌, take, drop}
use Rattle.pm_words.specs.Words.{words_of}
use Rattle.pm_words.specs.Sums.{sum64}
use Rattle.pm_header.specs.Name.{name_bytes}
use Rattle.pm_header.specs.declared.header.Header.{Header}

-- the bytes `PMOBPOOL`, as a word
abbrev pub magic : ℕ
magic = 0x4c4f4f50424f4d50

-- the eight words of the name's line
abbrev pub name_line : List ℕ → List ℕ
name_line name = words_of (name_bytes name)

-- the header's line: its seven words, and their sum
abbrev pub header_line : Header → List ℕ
header_line h =
    let front : List ℕ = magic ∷ h.version ∷ h.id ∷ h.lanes ∷ h.zones ∷ h.bytes ∷ sum64 (name_line h.name) ∷ [] in
    front ++ sum64 front ∷ []

-- a pair: the header's line and the name's
unfoldable pub pair : Header → List ℕ
pair h = header_line h ++ name_line h.name

-- the page with the pair in lines 0 and 1 and its copy in lines 32 and 33, and its other words as they were
abbrev pub with_pairs : List ℕ → Header → List ℕ
with_pairs page h = pair h ++ take 240 (drop 16 page) ++ pair h ++ drop 272 page
