-- What this version of the reader leaves out: an image that has such a thing has the fault of the row in which it is named. The word goes when its subject comes.
use Rattle.std.specs.Prelude.{ℕ, Bool, ◌==◌, ◌&&◌}
use Rattle.pm_image.specs.declared.block.Block.{Block}
use Rattle.pm_image.specs.Contents.{header_word}

-- no object is in a list or has members: they come with lists
abbrev pub takes_links : (ℕ → ℕ) → Block → Bool
takes_links w block = header_word w block 2 == 0 && header_word w block 3 == 0 && header_word w block 4 == 0 && header_word w block 5 == 0
