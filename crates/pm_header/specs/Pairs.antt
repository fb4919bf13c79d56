-- The two pairs of lines in the header page, and which of them are good: docs/FORMAT.md, "Header page".
use Rattle.std.specs.Prelude.{◌≡◌, ℕ, List, ◌++◌, take, drop, slice_index, ◌⊎◌}
use Rattle.pm_words.specs.Sums.{sum64}
use Rattle.pm_header.specs.Name.{IsName}
use Rattle.pm_header.specs.Spelling.{magic, name_line, pair}
use Rattle.pm_header.specs.declared.header.Header.{Header}

-- words 0 to 15 of the page
abbrev pub main_pair : List ℕ → List ℕ
main_pair page = take 16 page

-- words 256 to 271 of the page
abbrev pub copy_pair : List ℕ → List ℕ
copy_pair page = take 16 (drop 256 page)

-- the pair begins with the magic
abbrev pub HasMagic : List ℕ → Type 0
HasMagic words = slice_index words 0 ≡ magic

-- the version that the pair gives
abbrev pub version_of : List ℕ → ℕ
version_of words = slice_index words 1

-- the eight words of a line spell this name
pub record IsLineOf (line name : List ℕ) : Type 0 where
  pub is_name : IsName name
  pub spelled : line ≡ name_line name

-- a pair with the magic, the sums of its name line and of its header line, and a name in its name line
pub record IsGood (words : List ℕ) : Type 0 where
  pub has_magic : HasMagic words
  pub name_sum : slice_index words 6 ≡ sum64 (drop 8 words)
  pub header_sum : slice_index words 7 ≡ sum64 (take 7 words)
  pub name_form : (name : List ℕ) × IsLineOf (drop 8 words) name

-- the pair spells this header, whose name is a layout name
pub record IsPairOf (words : List ℕ) (header : Header) : Type 0 where
  pub is_name : IsName header.name
  pub spelled : words ≡ pair header

-- both pairs of the page spell this header, whose version is 1
pub record IsHeaderIn (page : List ℕ) (header : Header) : Type 0 where
  pub version : header.version ≡ 1
  pub main : IsPairOf (main_pair page) header
  pub copy : IsPairOf (copy_pair page) header

-- exactly one pair of the page is good
abbrev pub HasOneGood : List ℕ → Type 0
HasOneGood page = (IsGood (main_pair page) × ¬ IsGood (copy_pair page)) ⊎ (¬ IsGood (main_pair page) × IsGood (copy_pair page))

-- the page with its main pair in place of the copy, and its other words as they were
abbrev pub with_main_copied : List ℕ → List ℕ
with_main_copied page = take 256 page ++ main_pair page ++ drop 272 page

-- the page with its copy in place of the main pair, and its other words as they were
abbrev pub with_copy_restored : List ℕ → List ℕ
with_copy_restored page = copy_pair page ++ drop 16 page
