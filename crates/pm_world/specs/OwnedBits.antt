-- Bits of occupancy words, by word.
use Rattle.std.specs.Prelude.{◌≡◌, ◌≢◌, ℕ, ◌/◌, ◌^◌, ◌<◌, ◌≤◌, Bool, true, false, List, length, replicate, slice_index, slice_index_or, slice_set}
use Rattle.pm_layout.specs.Areas.{page_bytes}
use Rattle.pm_view.specs.declared.occ.Occ.{Occ}
use Rattle.pm_view.specs.declared.occ.Occ.TheVariants.{Run, Zone}

-- of each page that may be a run, and of each zone
pub record Owned : Type 0 where
  pub runs : List ℕ
  pub zones : List ℕ

abbrev pub none_owned : ℕ → Owned
none_owned pages = record { runs = replicate pages 0; zones = replicate 32 0 }

-- the bits, those of this word made these
abbrev pub owned_with : Owned → Occ → ℕ → Owned
owned_with b (Run place) bits = record b { runs = slice_set b.runs (place / page_bytes) bits }
owned_with b (Zone zone) bits = record b { zones = slice_set b.zones zone bits }

-- no word has a bit
abbrev pub AreClear : List ℕ → Type 0
AreClear words = (i : ℕ) → i < length words → slice_index words i ≡ 0

-- no word from one number on, below another, has
abbrev pub AreClearFrom : List ℕ → ℕ → ℕ → Type 0
AreClearFrom words from to = (i : ℕ) → from ≤ i → i < to → i < length words → slice_index words i ≡ 0

-- a page with bits is in a flagged group of 64, and pages are as few as places have numbers for
pub record AreFlagged (runs : List ℕ) (groups : List Bool) : Type 0 where
  pub few : length runs < 2 ^ 32
  pub there : (page : ℕ) → page < length runs → page / 64 < length groups
  pub flagged : (page : ℕ) → page < length runs → slice_index runs page ≢ 0 → slice_index_or groups (page / 64) false ≡ true
