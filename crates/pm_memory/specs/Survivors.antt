-- What a power failure may leave of the words.
use Rattle.std.specs.Prelude.{◌≡◌, ℕ, suc, ◌<◌, List, [], ◌∷◌, length, drop, slice_index, Any, All, Contains}
use Rattle.std.specs.Int.{bit_at}
use Rattle.pm_view.specs.declared.change.Change.{Change}
use Rattle.pm_view.specs.Changes.{taken_back}
use Rattle.pm_memory.specs.Changes.{changes_of}

-- the word with these changes of it taken back, the latest first
abbrev pub all_taken_back : List Change → ℕ → ℕ
all_taken_back [] x = x
all_taken_back (c ∷ changes) x = taken_back c (all_taken_back changes x)

-- what is left of word w where the first so many of a lane's changes of it are kept
abbrev pub survivor : ℕ → List Change → ℕ → ℕ → ℕ
survivor kept changes w x = all_taken_back (drop kept (changes_of w changes)) x

-- for each lane and word, how many of the lane's changes of the word are kept
abbrev pub Choice : Type 0
Choice = ℕ → ℕ → ℕ

-- what is left of word w, the lanes from this one on one after the other
abbrev pub survivor_of_all : Choice → ℕ → List (List Change) → ℕ → ℕ → ℕ
survivor_of_all choice lane [] w x = x
survivor_of_all choice lane (changes ∷ lanes) w x = survivor_of_all choice (suc lane) lanes w (survivor (choice lane w) changes w x)

-- the image that the choice leaves of the words: each word by itself
pub record IsImage (choice : Choice) (words : List ℕ) (lanes : List (List Change)) (image : List ℕ) : Type 0 where
  pub size : length image ≡ length words
  pub each : (w : ℕ) → w < length words → slice_index image w ≡ survivor_of_all choice 0 lanes w (slice_index words w)

-- AN IMAGE THAT MAY SURVIVE a power failure: that of some choice
pub record Survives (words : List ℕ) (lanes : List (List Change)) (image : List ℕ) : Type 0 where
  pub choice : Choice
  pub is : IsImage choice words lanes image

-- one of the changes that are of bit i found it as the word has it
abbrev pub FoundBit : ℕ → ℕ → List Change → Type 0
FoundBit i word changes = Any (λ (c : Change). (bit_at c.mask i ≡ 1) × (bit_at word i ≡ bit_at c.old i)) changes

-- x is left of a word that was `old`: some of the lanes' changes of the word were taken back
pub record IsTakenFrom (lanes : List (List Change)) (w old x : ℕ) : Type 0 where
  pub lost : List Change
  pub of_word : All (λ (c : Change). c.word ≡ w) lost
  pub of_lanes : All (λ (c : Change). Any (λ (changes : List Change). Contains changes c) lanes) lost
  pub is : x ≡ all_taken_back lost old
