-- The bytes of a pool's file: what they mean, what is wrong with them, and how they are mended.
use Rattle.std.specs.Prelude.{◌≡◌, ◌≢◌, ◌⊎◌, ℕ, ◌%◌, List, length, Option}
use Rattle.pm_words.specs.Words.{bytes_of, words_of}
use Rattle.pm_shelf.specs.Outside.{Held, IsWhole}
use Rattle.pm_objects.specs.declared.pool.PoolView.{PoolView}
use Rattle.pm_image.specs.Means.{IsMeaning, IsImageFault}
use Rattle.pm_image.specs.declared.fault.ImageFault.{ImageFault}
use Rattle.pm_image.specs.declared.fault.ImageFault.TheVariants.{Size}
use Rattle.pm_check.specs.Verdicts.{IsMended}
use Rattle.pm_info.specs.Facts.{IsInfoOf}
use Rattle.pm_text.specs.Dump.{dump_text}

-- the bytes of the greatest pool
abbrev pub limit : ℕ
limit = 8785920

-- the bytes are whole words, and these mean the pool
abbrev pub BytesMean : List ℕ → PoolView → Type 0
BytesMean bytes pool = (length bytes % 8 ≡ 0) × IsMeaning (words_of bytes) pool

-- this is the first fault of the bytes: no pool's length where they are no whole words, else that of their words
abbrev pub BytesFail : List ℕ → ImageFault → Type 0
BytesFail bytes found =
    ((length bytes % 8 ≢ 0) × (found ≡ Size (length bytes))) ⊎ ((length bytes % 8 ≡ 0) × IsImageFault (words_of bytes) found)

-- this is the first fault of the bytes, a damaged pair of the header, and with the good pair written over it they mean a pool: these are left
pub record Mends (bytes : List ℕ) (found : ImageFault) (mended : List ℕ) : Type 0 where
  pub in_words : length bytes % 8 ≡ 0
  pub image : List ℕ
  pub is_mended : IsMended (words_of bytes) found image
  pub are : mended ≡ bytes_of image

-- the bytes are a pool's, and this is the text of it
pub record IsTextOf (bytes text : List ℕ) : Type 0 where
  pub pool : PoolView
  pub means : BytesMean bytes pool
  pub is_text : text ≡ dump_text pool

-- the bytes are a pool's, and this is the text of its facts
pub record AreFactsOf (bytes text : List ℕ) : Type 0 where
  pub in_words : length bytes % 8 ≡ 0
  pub is_text : IsInfoOf (words_of bytes) text

-- the name has the bytes of a pool, and this is the text of it
pub record IsDumpOf (held : Option Held) (name text : List ℕ) : Type 0 where
  pub bytes : List ℕ
  pub whole : IsWhole held name limit bytes
  pub of_pool : IsTextOf bytes text

-- the name has the bytes of a pool, and this is the text of its facts
pub record AreFactsIn (held : Option Held) (name text : List ℕ) : Type 0 where
  pub bytes : List ℕ
  pub whole : IsWhole held name limit bytes
  pub of_pool : AreFactsOf bytes text

-- the name has bytes with this first fault
pub record HasFault (held : Option Held) (name : List ℕ) (found : ImageFault) : Type 0 where
  pub bytes : List ℕ
  pub whole : IsWhole held name limit bytes
  pub fails : BytesFail bytes found
