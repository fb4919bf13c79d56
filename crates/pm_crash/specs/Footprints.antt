-- WHAT A CALL RESTS ON: what its lane found, knew and had for its own as it took its number.
use Rattle.std.specs.Prelude.{◌≡◌, ℕ, ◌+◌, ◌*◌, ◌^◌, ◌<◌, ◌≤◌, Bool, true, false, not, ◌==◌, ◌||◌, Some, slice_index}
use Rattle.std.specs.Option.{option_map}
use Rattle.pm_layout.specs.Chunks.{word_of_descriptor}
use Rattle.pm_view.specs.Claims.{class, found, geometry, mine, span}
use Rattle.pm_view.specs.Entries.{first_of_two}
use Rattle.pm_view.specs.Log.{old_of}
use Rattle.pm_view.specs.Places.{Place, Descr, Block, Small, Big, Geometry}
use Rattle.pm_view.specs.View.{View}
use Rattle.pm_world.specs.States.{State, Diff, live, replay, there, val}
use Rattle.pm_world.specs.Sights.{is_recorded, picture, sight_of}
use Rattle.pm_world.specs.Lanes.{sees, valid}
use Rattle.pm_world.specs.Memory.{bit}
use Rattle.pm_world.specs.BlockLines.{AllocatedHas, OwnHas}
use Rattle.pm_crash.specs.Roots.{HoldsItsRoots, RootsAreSeen, leaves_root}
use Rattle.pm_crash.specs.Spelled.{has_blocks}
use Rattle.pm_world.specs.World.{Opening, Views, Past, ghost_of, numbered_by, origin}

-- which blocks words are in, and what is a run, as the lane knows
abbrev pub geometry_of : View → Geometry
geometry_of v = geometry v.fixed.shape v.claims

abbrev pub is_run_to : View → ℕ → Bool
is_run_to v c = not (class v.claims c == 0)

-- the lane found the block under its lock; it has the block, which is not allocated, for its own
abbrev pub has_found : View → Block → Bool
has_found v B = found v.fixed.shape v.claims B

abbrev pub has_own : View → Block → Bool
has_own v B = mine v.fixed.shape v.claims B

-- the bit before the call, where the lane knows it: a recorded word's old one, else what it last
-- saw
abbrev pub bit_before : View → Diff
bit_before v p b =
    first_of_two (option_map (λ x. bit x b) (old_of v.log.records p))
    (picture v.fixed.shape v.claims p b)

-- the lane recorded the place; or its object, by these bits, has it
abbrev pub is_of_object : View → State → Place → Bool
is_of_object v s p =
    is_recorded v.log.records p || live s (geometry_of v) (is_run_to v) p

-- `s` MAY BE THE BITS BEFORE THE CALL, with runs of these classes: as far as the lane of this view
-- can know, and with these blocks of its own free. Nothing is said of what other lanes have
pub record MayPrecedeBut (classes : ℕ → ℕ) (v : View) (own : Block → Bool) (s : State)
    : Type 0 where
  -- what it found is allocated, a huge block of as many chunks as it knows
  pub found : (B : Block) → has_found v B ≡ true → there s B ≡ true
  pub spans : (f : ℕ) → has_found v (Big f) ≡ true
      → val (s (Descr f)) 8 56 ≡ span v.fixed.shape v.claims f
  -- and no block of a run is in its first chunk
  pub whole : (f : ℕ) → has_found v (Big f) ≡ true → has_blocks s f ≡ false
  -- and a run in which it found one is no huge block
  pub plain : (c i : ℕ) → has_found v (Small c i) ≡ true → s (Descr c) 1 ≡ false
  -- runs in which it found blocks, or has some, are of the class that it knows
  pub class : (c i : ℕ) → (has_found v (Small c i) || own (Small c i)) ≡ true
      → classes c ≡ Rattle.pm_view.specs.Claims.class v.claims c
  -- what it knows of the objects that it found, and of the root word under the lock of line 0, is
  -- so
  pub known : (p : Place) (b : ℕ) (y : Bool)
      → sees (geometry_of v) s (sight_of v).hold p b ≡ true → is_of_object v s p ≡ true
      → bit_before v p b ≡ Some y → s p b ≡ y
  -- no line of a block of its own is an allocated block's
  pub apart : (B C : Block) (line : ℕ) → own B ≡ true
      → OwnHas v.fixed.shape (sight_of v).hold (geometry_of v) B line
      → AllocatedHas v.fixed.shape s (record { first = λ c. c; class = classes }) C line → ⊥
  -- what it saw of the root word under locks that it holds is so
  pub roots : RootsAreSeen v.fixed.shape v.claims s

-- with all blocks of its own free
abbrev pub MayPrecede : (ℕ → ℕ) → View → State → Type 0
MayPrecede classes v s = MayPrecedeBut classes v (has_own v) s

-- the bits after those of the first n calls that are kept
abbrev pub kept_bits : Opening → Past → (ℕ → Bool) → ℕ → State
kept_bits o g keep n = replay keep (origin o) (ghost_of g).log n

-- every decided call is kept
abbrev pub KeepsDecided : Past → (ℕ → Bool) → Type 0
KeepsDecided g keep = (n : ℕ) → n < g.length → g.decided n ≡ true → keep n ≡ true

-- THE FOOTPRINTS OF A HISTORY: of a pool with this id, for each call what it rested on stands in
-- the bits before it, whichever calls are kept, the decided ones among them
pub record Footprints (o : Opening) (id : ℕ) (views : Views) (g : Past) : Type 0 where
  pub ids : (k : ℕ) → k < o.lanes → (views k).fixed.pool ≡ id
  pub drawn_ids : (n : ℕ) → n < g.length → (g.drew n).fixed.pool ≡ id
  pub shapes : (n : ℕ) → n < g.length → (g.drew n).fixed.shape ≡ o.shape
  -- a lane's entries are its calls before, each of them decided
  pub entries : (n : ℕ) → n < g.length
      → (g.drew n).entries ≡ numbered_by (g.drew n).fixed.lane g.drew n
  pub earlier : (m n : ℕ) → m < n → n < g.length
      → (g.drew m).fixed.lane ≡ (g.drew n).fixed.lane → g.decided m ≡ true
  -- the opening's words are words, and its runs with blocks of the class that their descriptors say
  pub small : (w : ℕ) → slice_index o.words w < 2 ^ 64
  pub opening : (c i : ℕ) → there (origin o) (Small c i) ≡ true
      → slice_index o.words (word_of_descriptor o.shape c) ≡ 1 + 256 * g.geo.class c
  -- whichever calls are kept, a block of a run that is allocated is one of a run that stands; so is
  -- one that a lane had for its own
  pub blocks : (keep : ℕ → Bool) (n c i : ℕ) → n ≤ g.length
      → there (kept_bits o g keep n) (Small c i) ≡ true → valid (ghost_of g) (Small c i) ≡ true
  pub own : (n c i : ℕ) → n < g.length → has_own (g.drew n) (Small c i) ≡ true
      → valid (ghost_of g) (Small c i) ≡ true
  pub precede : (keep : ℕ → Bool) → KeepsDecided g keep → (n : ℕ) → n < g.length
      → MayPrecede g.geo.class (g.drew n) (kept_bits o g keep n)
  -- each lane holds the guards of the root word that it sets; and what it saw of the word is so
  -- after the calls so far, until its own call sets it
  pub holds_roots : (k : ℕ) → k < o.lanes
      → HoldsItsRoots (views k).fixed.shape (views k).claims (views k).log
  pub sees_roots : (k : ℕ) → k < o.lanes → leaves_root (views k).log ≡ true → (keep : ℕ → Bool)
      → KeepsDecided g keep
      → RootsAreSeen (views k).fixed.shape (views k).claims (kept_bits o g keep g.length)
