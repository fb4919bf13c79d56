-- The memory calls of all lanes over one list of words: libpmem(7).
use Rattle.std.specs.Prelude.{ℕ, List, [], ◌∷◌, ◌++◌, slice_index, slice_index_or, slice_set, bit_and, bit_or}
use Rattle.pm_view.specs.declared.change.Change.{Change}
use Rattle.pm_view.specs.Changes.{store_change, or_change, and_change}
use Rattle.pm_memory.specs.Changes.{changes_flushed, changes_drained}

-- the words, and for each lane its undrained changes, the oldest first
pub record Contents : Type 0 where
  pub words : List ℕ
  pub changes : List (List Change)

-- a lane's changes
abbrev pub changes_by : Contents → ℕ → List Change
changes_by m lane = slice_index_or m.changes lane []

-- the memory with other changes of a lane
abbrev pub with_changes : Contents → ℕ → List Change → Contents
with_changes m lane changes = record m { changes = slice_set m.changes lane changes }

-- the word became x by the lane's change
abbrev pub changed : Contents → ℕ → ℕ → ℕ → Change → Contents
changed m lane word x change = record (with_changes m lane (changes_by m lane ++ change ∷ [])) { words = slice_set m.words word x }

abbrev pub after_store : Contents → ℕ → ℕ → ℕ → Contents
after_store m lane word x = changed m lane word x (store_change word (slice_index m.words word) x)

abbrev pub after_or : Contents → ℕ → ℕ → ℕ → Contents
after_or m lane word bits = let found = slice_index m.words word in changed m lane word (bit_or found bits) (or_change word bits found)

abbrev pub after_and : Contents → ℕ → ℕ → ℕ → Contents
after_and m lane word bits = let found = slice_index m.words word in changed m lane word (bit_and found bits) (and_change word bits found)

abbrev pub after_flush : Contents → ℕ → ℕ → Contents
after_flush m lane line = with_changes m lane (changes_flushed line (changes_by m lane))

abbrev pub after_drain : Contents → ℕ → Contents
after_drain m lane = with_changes m lane (changes_drained (changes_by m lane))
