-- What a power failure may leave of the words.
use Rattle.std.specs.Prelude.{◌≡◌, ℕ, suc, ◌<◌, List, [], ◌∷◌, length, slice_index}
use Rattle.solo_view.specs.declared.change.Change.{Change}
pub use Rattle.solo_view.specs.Survivors.{all_taken_back, survivor}

-- for each lane and word, how many of the lane's changes of the word are kept
abbrev pub Choice : Type 0
Choice = ℕ → ℕ → ℕ

-- what is left of word w, the lanes from this one on one after the other
abbrev pub survivor_of_all : Choice → ℕ → List (List Change) → ℕ → ℕ → ℕ
survivor_of_all choice lane [] w x = x
survivor_of_all choice lane (changes ∷ lanes) w x = survivor_of_all choice (suc lane) lanes w (survivor (choice lane w) changes w x)

-- the image that the choice leaves of the words: each word by itself
pub record IsImage (choice : Choice) (words : List ℕ) (lanes : List (List Change)) (image : List ℕ) : Type 0 where
  pub size : length image ≡ length words
  pub each : (w : ℕ) → w < length words → slice_index image w ≡ survivor_of_all choice 0 lanes w (slice_index words w)
