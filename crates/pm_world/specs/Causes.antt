-- WHY A LANE IS ANSWERED Busy, NoObject OR NoSpace: for each of these that a view keeps, what
-- other lanes did, by the commit numbers of the history.
use Rattle.std.specs.Prelude.{◌≡◌, ◌≢◌, ◌⊎◌, ℕ, zero, suc, ◌+◌, ◌*◌, ◌<◌, ◌≤◌, All, List, [], ◌∷◌}
use Rattle.std.specs.Prelude.{Bool, true, false, cond, not, ◌==◌, ◌&&◌, None}
use Rattle.std.specs.Int.{bit_at}
use Rattle.std.specs.List.{list_any}
use Rattle.pm_layout.specs.declared.shape.Shape.{Shape}
use Rattle.pm_view.specs.declared.occ.Occ.{Occ}
use Rattle.pm_view.specs.declared.occ.Occ.TheVariants.{Run, Zone}
use Rattle.pm_view.specs.Places.{Descr, Block, Small, Big, Root}
use Rattle.pm_view.specs.Claims.{Claim, Took, SawDescriptor, SawBitmap, Reserved}
use Rattle.pm_view.specs.Claims.{class, holds, header_in, is_run, is_huge, ones}
use Rattle.pm_view.specs.Steps.{Step}
use Rattle.pm_view.specs.Steps.Step.{TakeWrite, TakeRead, Raise}
use Rattle.pm_view.specs.View.{View, Seen}
use Rattle.pm_world.specs.States.{State, val, there, replay}
use Rattle.pm_world.specs.Memory.{Memory, ZoneWord, bit}
use Rattle.pm_world.specs.Opens.{takes}
use Rattle.pm_world.specs.World.{Opening, Views, Past, origin, ghost_of}

-- ---- CALLS OF A LANE, by the history: entry n has commit number n + 1

-- whose entry n is
abbrev pub drawn_by : Past → ℕ → ℕ
drawn_by g n = (g.drew n).fixed.lane

-- call n of the lane, with its view: an entry, as the call took its number; or, for the next
-- number, the call that the lane makes and that has no number yet, or makes next
abbrev pub IsCall : Views → Past → ℕ → ℕ → View → Type 0
IsCall views g lane n v =
    ((n < g.length) × (drawn_by g n ≡ lane) × (v ≡ g.drew n)) ⊎ ((n ≡ g.length) × (v ≡ views lane))

-- of what is counted among a lane's claims, this call has some: more than the lane had as it took
-- the numbers of its entries before
pub record CountsNew (count : List Claim → ℕ) (g : Past) (lane n : ℕ) (v : View) : Type 0 where
  pub some : 0 < count v.claims
  pub since : (p : ℕ) → p < n → drawn_by g p ≡ lane → count (g.drew p).claims < count v.claims

-- CALLS OVERLAP, call c of one lane and call d of another: the entries of d's lane before d have
-- numbers below c's; those after d have numbers above each entry of c's lane before c
pub record Overlaps (g : Past) (lane c other d : ℕ) : Type 0 where
  pub before : (p : ℕ) → p < d → drawn_by g p ≡ other → p < c
  pub after_ : (p q : ℕ) → d < p → p < g.length → drawn_by g p ≡ other
      → q < c → drawn_by g q ≡ lane → q < p

-- ---- Busy

-- the step is a try of this line's lock that was refused; some step of a call was
abbrev pub is_refused : ℕ → Step → Bool
is_refused l (TakeWrite m won) = (m == l) && not won
is_refused l (TakeRead m won) = (m == l) && not won
is_refused l (Raise m won) = (m == l) && not won
is_refused l s = false

abbrev pub was_refused : ℕ → List Step → Bool
was_refused l seen = list_any (is_refused l) seen

-- how often a lane took the lock of this line
abbrev pub times_locked : ℕ → List Claim → ℕ
times_locked l [] = 0
times_locked l (Took m write ∷ t) = cond (m == l) 1 0 + times_locked l t
times_locked l (e ∷ t) = times_locked l t

-- the call took the line's lock, or held it as it took its number. Marks are such locks
abbrev pub HadLock : Past → ℕ → ℕ → View → ℕ → Type 0
HadLock g lane n v l =
    CountsNew (times_locked l) g lane n v ⊎ ((n < g.length) × (holds v.claims l ≡ true))

-- THE CAUSE OF Busy at a line's lock, in call c of a lane: a call of another lane, at the same
-- time, that had this lock
pub record BusyCause (o : Opening) (views : Views) (g : Past) (lane c l : ℕ) : Type 0 where
  pub other : ℕ
  pub call : ℕ
  pub view : View
  pub apart : other ≢ lane
  pub runs : other < o.lanes
  pub is : IsCall views g other call view
  pub had : HadLock g other call view l
  pub overlaps : Overlaps g lane c other call

-- each refused try of an entry, and of a call that has no number yet, has its cause
pub record BusyHasCause (o : Opening) (views : Views) (g : Past) : Type 0 where
  pub drawn : (n l : ℕ) → n < g.length → was_refused l (g.drew n).seen ≡ true
      → BusyCause o views g (drawn_by g n) n l
  pub open_ : (k l : ℕ) → k < o.lanes → (views k).number ≡ None
      → was_refused l (views k).seen ≡ true → BusyCause o views g k g.length l

-- ---- NoObject

-- A LOOK THAT MISSES A BLOCK: under the block's lock its bit in the bitmap of a run, whose class
-- the lane knows, is clear; or under its lock its chunk's descriptor is no huge block's; or the
-- chunk of a run's block is no run
abbrev pub misses_in_bitmap : Shape → List Claim → ℕ → ℕ → Block → Bool
misses_in_bitmap sh t c x (Small d i) =
    (d == c) && (not (bit_at x i == 1)
    && (not (class t d == 0) && holds t (header_in sh t (Small d i))))
misses_in_bitmap sh t c x B = false

abbrev pub misses_in_descriptor : Shape → List Claim → ℕ → ℕ → Block → Bool
misses_in_descriptor sh t c x (Small d i) = (d == c) && not (is_run x)
misses_in_descriptor sh t c x (Big f) =
    (f == c) && (not (is_huge x) && holds t (header_in sh t (Big f)))
misses_in_descriptor sh t c x Root = false

-- how often a lane's looks missed the block
abbrev pub times_missed : Shape → Block → List Claim → ℕ
times_missed sh B [] = 0
times_missed sh B (SawDescriptor c x ∷ t) =
    cond (misses_in_descriptor sh t c x B) 1 0 + times_missed sh B t
times_missed sh B (SawBitmap c x ∷ t) =
    cond (misses_in_bitmap sh t c x B) 1 0 + times_missed sh B t
times_missed sh B (e ∷ t) = times_missed sh B t

-- an object stands in the block: its bit is set, and the descriptor of a huge one is such
abbrev pub stands : State → Block → Bool
stands s (Small c i) = there s (Small c i)
stands s (Big f) = there s (Big f) && (val (s (Descr f)) 0 8 == 2)
stands s Root = there s Root

-- no object stands in the block after so many entries, whichever of the undecided calls are kept
abbrev pub IsGone : Opening → Past → ℕ → Block → Type 0
IsGone o g entries B =
    (keep : ℕ → Bool) → ((m : ℕ) → m < g.length → g.decided m ≡ true → keep m ≡ true)
    → stands (replay keep (origin o) (ghost_of g).log entries) B ≡ false

-- THE CAUSE OF NoObject for a block, in call c of a lane: after so many entries, all those of the
-- lane before c among them and none from c on, no object stands there
pub record NoObjectCause (o : Opening) (g : Past) (lane c : ℕ) (B : Block) : Type 0 where
  pub entries : ℕ
  pub most : entries ≤ c
  pub least : (p : ℕ) → p < c → drawn_by g p ≡ lane → p < entries
  pub gone : IsGone o g entries B

abbrev pub NoObjectHasCause : Opening → Views → Past → Type 0
NoObjectHasCause o views g = (k n : ℕ) (v : View) → k < o.lanes → IsCall views g k n v
    → (B : Block) → CountsNew (times_missed o.shape B) g k n v → NoObjectCause o g k n B

-- ---- NoSpace

-- how many of the first chunks of a zone are set in this word of it and were not at the opening
abbrev pub filled : Opening → ℕ → ℕ → ℕ → ℕ
filled o zone x zero = 0
filled o zone x (suc i) =
    cond (bit x i && not (takes o (Big (64 * zone + i)))) 1 0 + filled o zone x i

-- how many chunks of a zone a lane got in all, for runs and for huge blocks; and all lanes
abbrev pub got_at : ℕ → Occ → ℕ → ℕ
got_at zone (Run place) bits = 0
got_at zone (Zone other) bits = cond (other == zone) (ones 64 bits) 0

abbrev pub chunks_got : ℕ → List Claim → ℕ
chunks_got zone [] = 0
chunks_got zone (Reserved at bits ∷ t) = got_at zone at bits + chunks_got zone t
chunks_got zone (e ∷ t) = chunks_got zone t

abbrev pub all_got : ℕ → Views → ℕ → ℕ
all_got zone views zero = 0
all_got zone views (suc k) = all_got zone views k + chunks_got zone (views k).claims

-- A ZONE IS FILLED BY THE LANES: its chunks that are set in this word and were not at the opening
-- are at most those that the lanes got
abbrev pub FilledByLanes : Opening → Views → ℕ → ℕ → Type 0
FilledByLanes o views zone x = filled o zone x 64 ≤ all_got zone views o.lanes

-- so it is of the memory's word, and of each that a lane saw or made
abbrev pub SeenFilled : Opening → Views → Seen → Type 0
SeenFilled o views s = (zone : ℕ) → zone < o.shape.zones → s.at ≡ Zone zone
    → FilledByLanes o views zone s.bits

pub record NoSpaceHasCause (o : Opening) (mem : Memory) (views : Views) : Type 0 where
  pub zones : (zone : ℕ) → zone < o.shape.zones → FilledByLanes o views zone (mem (ZoneWord zone))
  pub seen : (k : ℕ) → k < o.lanes → All (SeenFilled o views) (views k).occupancy

-- ---- WHAT EACH LANE HOLDS AND COUNTS, for later answers

-- entry n is the lane's last, and the lane held the lock as that call took its number
pub record HeldSince (g : Past) (lane l n : ℕ) : Type 0 where
  pub entry : n < g.length
  pub of : drawn_by g n ≡ lane
  pub last : (p : ℕ) → n < p → p < g.length → drawn_by g p ≢ lane
  pub held : holds (g.drew n).claims l ≡ true

-- a lock that a lane holds it took since its last entry, or held as it took that entry's number;
-- and what is counted among a lane's claims only grows
pub record LanesCount (o : Opening) (views : Views) (g : Past) : Type 0 where
  pub held : (k l : ℕ) → k < o.lanes → holds (views k).claims l ≡ true
      → CountsNew (times_locked l) g k g.length (views k) ⊎ ((n : ℕ) × HeldSince g k l n)
  pub locked : (k p l : ℕ) → p < g.length → drawn_by g p ≡ k
      → times_locked l (g.drew p).claims ≤ times_locked l (views k).claims
  pub missed : (k p : ℕ) (B : Block) → p < g.length → drawn_by g p ≡ k
      → times_missed o.shape B (g.drew p).claims ≤ times_missed o.shape B (views k).claims

-- ---- EACH ANSWER HAS ITS CAUSE
pub record Causes (o : Opening) (mem : Memory) (views : Views) (g : Past) : Type 0 where
  pub busy : BusyHasCause o views g
  pub no_object : NoObjectHasCause o views g
  pub no_space : NoSpaceHasCause o mem views
  pub counts : LanesCount o views g
