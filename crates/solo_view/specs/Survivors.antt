-- What is left of one lane's words where of a word the first so many changes are kept.
use Rattle.std.specs.Prelude.{◌≡◌, ℕ, List, [], ◌∷◌, drop, Any}
use Rattle.std.specs.Int.{bit_at}
use Rattle.solo_view.specs.declared.change.Change.{Change}
use Rattle.solo_view.specs.Changes.{taken_back, changes_of}

-- the word with these changes of it taken back, the latest first
abbrev pub all_taken_back : List Change → ℕ → ℕ
all_taken_back [] x = x
all_taken_back (c ∷ changes) x = taken_back c (all_taken_back changes x)

-- what is left of word w where the first so many of a lane's changes of it are kept
abbrev pub survivor : ℕ → List Change → ℕ → ℕ → ℕ
survivor kept changes w x = all_taken_back (drop kept (changes_of w changes)) x

-- one of the changes that are of bit i found it as the word has it
abbrev pub FoundBit : ℕ → ℕ → List Change → Type 0
FoundBit i word changes = Any (λ (c : Change). (bit_at c.mask i ≡ 1) × (bit_at word i ≡ bit_at c.old i)) changes

-- one of the changes found the word so
abbrev pub FoundWord : ℕ → List Change → Type 0
FoundWord word changes = Any (λ (c : Change). word ≡ c.old) changes
