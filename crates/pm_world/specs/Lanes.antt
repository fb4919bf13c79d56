-- What a lane owns, and how what it claims fits the memory and the settled words, block by block and bit by bit.
use Rattle.std.specs.Prelude.{◌≡◌, ◌≢◌, ℕ, suc, ◌+◌, ◌-◌, ◌/◌, ◌<◌, ◌≤◌, ◌%◌, nat_le, nat_lt, Bool, true, false, cond, ◌&&◌, ◌||◌, not, ◌==◌, List, [], ◌∷◌, Option, None, Some}
use Rattle.pm_layout.specs.declared.shape.Shape.{Shape}
use Rattle.pm_layout.specs.Sizes.{blocks_of}
use Rattle.pm_layout.specs.Chunks.{chunks_of}
use Rattle.pm_view.specs.Places.{Place, InRun, InHuge, Descr, RootWord, Block, Small, Big, Root, Geometry, block_of, header, in_span, is_data}
use Rattle.pm_view.specs.Entries.{latest, redos, turn}
use Rattle.pm_view.specs.Log.{Phase, Idle, Open, Drawn, Sealing, Applying, Clearing, Retiring, Voiding}
use Rattle.pm_view.specs.Claims.{making_of}
use Rattle.pm_world.specs.States.{State, Diff, Call, diff, given, over, after_diff, there, val, spans, live, guards, read, replay, Cells}
use Rattle.pm_world.specs.Sights.{Hold, Sight}

-- the ghosts: the history, each call's lane, what is decided; which chunks are runs, the geometry; whose a block is that is not allocated (0, or one more
-- than the lane)
pub record Ghost : Type 0 where
  pub log : ℕ → Call
  pub who : ℕ → ℕ
  pub length : ℕ
  pub decided : ℕ → Bool
  pub runs : ℕ → Bool
  pub geo : Geometry
  pub holder : Block → ℕ

-- SETTLED: the opening's words with the decided calls
abbrev pub settled : State → Ghost → State
settled o g = replay g.decided o g.log g.length

-- ---- RIGHTS

abbrev pub own : Hold → Block → Bool
own h B = h.mine B || (h.here B || making_of h.making B)

abbrev pub all_held : (ℕ → Bool) → List ℕ → Bool
all_held locked [] = true
all_held locked (l ∷ t) = locked l && all_held locked t

-- of a word with guards the block's own lock gives no right
abbrev pub rights : Hold → Block → List ℕ → Bool
rights h B [] = own h B
rights h B (l ∷ t) = (h.mine B || making_of h.making B) || all_held h.locked (l ∷ t)

-- THE LANE OWNS THE BIT: it alone may change it
abbrev pub owns : Geometry → State → Hold → Place → ℕ → Bool
owns G s h p b = rights h (block_of G p b) (guards s p)

-- the lane sees the bit: no other may change it
abbrev pub views : Hold → Block → List ℕ → Bool
views h B [] = h.found B
views h B (l ∷ t) = h.locked l || h.reads l

abbrev pub sees : Geometry → State → Hold → Place → ℕ → Bool
sees G s h p b = views h (block_of G p b) (guards s p)

-- a block of a run, or a huge one that has a first chunk of its own
abbrev pub valid : Ghost → Block → Bool
valid g (Small c i) = g.runs c && nat_lt i (blocks_of (g.geo.class c))
valid g (Big f) = g.geo.first f == f
valid g Root = true

-- the lane has the block, or found it
abbrev pub has : Hold → Block → Bool
has h B = own h B || h.found B

-- the place lies in a chunk that the lane makes a run
abbrev pub is_in_making : Hold → Place → Bool
is_in_making h (InRun c w) = h.making c
is_in_making h (InHuge c w) = h.making c
is_in_making h (Descr c) = h.making c
is_in_making h RootWord = false

-- ---- PHASES

abbrev pub is_decided : Phase → Bool
is_decided Idle = false
is_decided Open = false
is_decided (Drawn n) = false
is_decided (Sealing n) = false
is_decided (Applying todo) = true
is_decided Clearing = true
is_decided (Retiring n) = false
is_decided Voiding = false

abbrev pub in_flight : Phase → Bool
in_flight Idle = false
in_flight Open = false
in_flight (Drawn n) = true
in_flight (Sealing n) = true
in_flight (Applying todo) = false
in_flight Clearing = false
in_flight (Retiring n) = true
in_flight Voiding = false

-- what is left to be applied
abbrev pub left : Phase → Diff
left Idle p b = None
left Open p b = None
left (Drawn n) p b = None
left (Sealing n) p b = None
left (Applying todo) p b = latest (redos todo) p b
left Clearing p b = None
left (Retiring n) p b = None
left Voiding p b = None

-- ---- ONE BIT that the lane owns: is it alive, does the lane make a run of its chunk, is the call decided; what is left to be applied there, is it under
-- a drained record, what the entries make of it, what the lane's picture has; in memory, settled
abbrev pub BitFits : Bool → Bool → Bool → Option Bool → Bool → Option Bool → Option Bool → Bool → Bool → Type 0
BitFits al bl dec lf lg en pc m s =
    (al ≡ true → given lf ≡ false → (lg && not dec) ≡ false → m ≡ s)
    × (bl ≡ true → m ≡ false)
    × (dec ≡ true → (y : Bool) → en ≡ Some y → s ≡ y)
    × ((y : Bool) → pc ≡ Some y → m ≡ y)

-- the bitmap of a chunk that the lane makes a run
abbrev pub blank : Hold → Place → Bool
blank h (InRun c w) = (w == 0) && h.making c
blank h (InHuge c w) = false
blank h (Descr c) = false
blank h RootWord = false

abbrev pub BitsFit : State → State → Ghost → Sight → Type 0
BitsFit m S g x = (p : Place) (b : ℕ) → owns g.geo S x.hold p b ≡ true
    → BitFits (live S g.geo g.runs p) (blank x.hold p) (is_decided x.phase) (left x.phase p b) (x.logged p) (latest x.call.entries p b) (x.picture p b) (m p b) (S p b)

-- what the lane sees it has a true picture of
abbrev pub PictureFits : State → State → Ghost → Sight → Type 0
PictureFits m S g x = (p : Place) (b : ℕ) → sees g.geo S x.hold p b ≡ true → (y : Bool) → x.picture p b ≡ Some y → m p b ≡ y

-- WHICH BITS MAY BE UNDRAINED: before the number words of blocks of its own and recorded words; after the decision what the entries give
abbrev pub open_soils : Place → Bool → Bool → Bool
open_soils (InRun c w) mi lg = is_data (InRun c w) && (mi || lg)
open_soils (InHuge c w) mi lg = mi || lg
open_soils (Descr c) mi lg = false
open_soils RootWord mi lg = lg

abbrev pub soils : Phase → Place → Bool → Bool → Option Bool → Bool
soils Idle p mi lg en = open_soils p mi lg
soils Open p mi lg en = open_soils p mi lg
soils (Drawn n) p mi lg en = false
soils (Sealing n) p mi lg en = false
soils (Applying todo) p mi lg en = given en
soils Clearing p mi lg en = false
soils (Retiring n) p mi lg en = false
soils Voiding p mi lg en = false

-- ---- WHAT A CALL DOES TO A BLOCK rests on what the lane holds: its line is locked, it is the lane's own, it is found under its lock. It allocates a block
-- of its own, whose line it locks before its number is drawn, and frees one that is found; after the decision the first is found, the other its own
abbrev pub TurnBefore : Bool → Bool → Bool → Option Bool → Type 0
TurnBefore l m h None = Unit {0}
TurnBefore l m h (Some true) = m ≡ true
TurnBefore l m h (Some false) = h ≡ true

abbrev pub TurnFlight : Bool → Bool → Bool → Option Bool → Type 0
TurnFlight l m h None = Unit {0}
TurnFlight l m h (Some true) = (m ≡ true) × (l ≡ true)
TurnFlight l m h (Some false) = h ≡ true

abbrev pub TurnAfter : Bool → Bool → Bool → Option Bool → Type 0
TurnAfter l m h None = Unit {0}
TurnAfter l m h (Some true) = h ≡ true
TurnAfter l m h (Some false) = (m ≡ true) × (l ≡ true)

abbrev pub TurnFits : Phase → Bool → Bool → Bool → Option Bool → Type 0
TurnFits Idle l m h a = a ≡ None
TurnFits Open l m h a = TurnBefore l m h a
TurnFits (Drawn n) l m h a = TurnFlight l m h a
TurnFits (Sealing n) l m h a = TurnFlight l m h a
TurnFits (Applying todo) l m h a = TurnAfter l m h a
TurnFits Clearing l m h a = TurnAfter l m h a
TurnFits (Retiring n) l m h a = a ≡ None
TurnFits Voiding l m h a = a ≡ None

-- a huge block's descriptor comes to tell of the chunks that the lane has, or of nothing
abbrev pub DescrFits : Option Bool → ℕ → ℕ → (ℕ → Option Bool) → Type 0
DescrFits None f n d = (b : ℕ) → given (d b) ≡ false
DescrFits (Some true) f n d = (c : ℕ) → spans (λ b. over (d b) false) f c ≡ in_span f n c
DescrFits (Some false) f n d = (b : ℕ) → b < 64 → d b ≡ Some false

-- ---- THE PARTS OF A LANE

abbrev pub FlightFits : (ℕ → Diff → Type 0) → Phase → Diff → Type 0
FlightFits flies Idle d = Unit {0}
FlightFits flies Open d = Unit {0}
FlightFits flies (Drawn n) d = flies n d
FlightFits flies (Sealing n) d = flies n d
FlightFits flies (Applying todo) d = Unit {0}
FlightFits flies Clearing d = Unit {0}
FlightFits flies (Retiring n) d = flies n d
FlightFits flies Voiding d = Unit {0}

pub record HoldFits (sh : Shape) (writer reader : ℕ → ℕ → Bool) (descr : ℕ → ℕ) (S : State) (g : Ghost) (k : ℕ) (h : Hold) : Type 0 where
  -- a lock's bit is set exactly where the lane holds it
  pub locks : (l : ℕ) → writer l k ≡ h.locked l
  pub reading : (l : ℕ) → reader l k ≡ h.reads l
  pub found : (B : Block) → h.found B ≡ true → ((h.locked (header sh g.geo B) || h.reads (header sh g.geo B)) ≡ true) × (valid g B ≡ true) × (there S B ≡ true)
  pub here : (B : Block) → h.here B ≡ true → (h.locked (header sh g.geo B) ≡ true) × (h.found B ≡ true)
  pub found_here : (B : Block) → h.found B ≡ true → h.locked (header sh g.geo B) ≡ true → h.here B ≡ true
  pub mine : (B : Block) → h.mine B ≡ true → (g.holder B ≡ suc k) × (valid g B ≡ true) × (there S B ≡ false)
  -- and no other block is held by it
  pub holds : (B : Block) → g.holder B ≡ suc k → h.mine B ≡ true
  -- it knows the class of a run that it has blocks of, and the chunks of a huge block that it has
  pub class : (c i : ℕ) → has h (Small c i) ≡ true → h.class c ≡ g.geo.class c
  pub span : (f : ℕ) → has h (Big f) ≡ true → (c : ℕ) → (g.geo.first c == f) ≡ in_span f (h.span f) c
  pub first : (c : ℕ) → has h (Big (g.geo.first c)) ≡ true → h.first c ≡ g.geo.first c
  pub zone : (f : ℕ) → has h (Big f) ≡ true → f % 64 + h.span f ≤ 64
  -- a chunk that it makes a run is its own, one alone, and its descriptor is stored
  pub making : (c : ℕ) → h.making c ≡ true → (h.mine (Big c) ≡ true) × (descr c ≡ g.geo.class c) × (1 ≤ g.geo.class c) × (0 < blocks_of (g.geo.class c)) × (h.span c ≡ 1)
  pub free : (c : ℕ) → h.mine (Big (g.geo.first c)) ≡ true → g.runs c ≡ false
  -- what it knows of runs is so
  pub seen : (c n : ℕ) → h.class c ≡ suc n → descr c ≡ suc n

pub record CallFits (flies : ℕ → Diff → Type 0) (span : ℕ → ℕ) (ph : Phase) (call : Call) : Type 0 where
  pub flight : FlightFits flies ph (diff call)
  -- what is left to be applied is what the entries make
  pub todo : (p : Place) (b : ℕ) (y : Bool) → left ph p b ≡ Some y → latest call.entries p b ≡ Some y
  pub descr : (f : ℕ) → DescrFits (turn (latest call.entries) (Big f)) f (span f) (λ b. diff call (Descr f) b)

-- what comes alive with the call it has made: the initialised lines of new blocks
abbrev pub BornFits : State → Ghost → Hold → Diff → Type 0
BornFits S g h d = (p : Place) (b : ℕ) → owns g.geo S h p b ≡ true → live S g.geo g.runs p ≡ false → live (after_diff d S) g.geo g.runs p ≡ true → given (d p b) ≡ true

-- the size word of a block's header
abbrev pub is_size : Geometry → Place → Bool
is_size G (InRun c w) = nat_le 8 w && (((w / 8 - 1) % G.class c == 0) && (w % 8 == 1))
is_size G (InHuge c w) = (G.first c == c) && (w == 1)
is_size G (Descr c) = false
is_size G RootWord = false

-- the root word stays the lane's own when the call is decided: it holds the guards to come
abbrev pub GuardsFit : State → Ghost → Hold → Diff → Type 0
GuardsFit S g h d = (b : ℕ) → owns g.geo S h RootWord b ≡ true → owns g.geo (after_diff d S) h RootWord b ≡ true

pub record SightFits (sh : Shape) (cells : Cells) (S : State) (flies : ℕ → Diff → Type 0) (g : Ghost) (k : ℕ) (x : Sight) : Type 0 where
  pub hold : HoldFits sh cells.writer cells.reader cells.descr S g k x.hold
  pub bits : BitsFit (read cells.pool) S g x
  pub picture : PictureFits (read cells.pool) S g x
  pub turns : (B : Block) → TurnFits x.phase (x.hold.locked (header sh g.geo B)) (x.hold.mine B) (x.hold.here B) (turn (latest x.call.entries) B)
  pub call : CallFits flies x.hold.span x.phase x.call
  -- the difference is of bits that the lane owns, none of them of a chunk that it makes a run, and a record's words are its own
  pub reach : (p : Place) (b : ℕ) → given (diff x.call p b) ≡ true → owns g.geo S x.hold p b ≡ true
  pub plain : (p : Place) (b : ℕ) → given (diff x.call p b) ≡ true → is_in_making x.hold p ≡ false
  pub logged : (p : Place) (b : ℕ) → is_decided x.phase ≡ false → x.logged p ≡ true → (owns g.geo S x.hold p b ≡ true) × (is_in_making x.hold p ≡ false)
  -- before the decision what it stored under records is in the difference
  pub stored : (p : Place) (b : ℕ) → is_decided x.phase ≡ false → x.logged p ≡ true → given (x.call.fresh p b) ≡ true
  pub fresh : (p : Place) (b : ℕ) (y : Bool) → x.call.fresh p b ≡ Some y → x.picture p b ≡ Some y
  -- no entry changes an object's size, and no store does but in a block that the call allocates
  pub sizes : (p : Place) (b : ℕ) → is_size g.geo p ≡ true → (given (latest x.call.entries p b) ≡ false) × (given (x.call.fresh p b) ≡ true → turn (latest x.call.entries) (block_of g.geo p b) ≡ Some true)
  pub born : in_flight x.phase ≡ true → BornFits S g x.hold (diff x.call)
  pub guarded : in_flight x.phase ≡ true → GuardsFit S g x.hold (diff x.call)
  pub soiled : (p : Place) (b : ℕ) → x.soiled p b ≡ true → (soils x.phase p (x.hold.mine (block_of g.geo p b)) (x.logged p) (latest x.call.entries p b) ≡ true) × (is_in_making x.hold p ≡ false)

-- ---- THE WORLD'S OWN

-- call n of the history is this lane's, makes this final, is not decided, and is the last that changes what it changes
abbrev pub Flies : Ghost → ℕ → ℕ → Diff → Type 0
Flies g k n d = (n < g.length) × ((p : Place) (b : ℕ) → diff (g.log n) p b ≡ d p b) × (g.who n ≡ k) × (g.decided n ≡ false)
    × ((m : ℕ) → n < m → m < g.length → (p : Place) (b : ℕ) → given (d p b) ≡ true → given (diff (g.log m) p b) ≡ false)

abbrev pub flies_at : Phase → ℕ → Type 0
flies_at Idle m = ⊥
flies_at Open m = ⊥
flies_at (Drawn n) m = n ≡ m
flies_at (Sealing n) m = n ≡ m
flies_at (Applying todo) m = ⊥
flies_at Clearing m = ⊥
flies_at (Retiring n) m = n ≡ m
flies_at Voiding m = ⊥

-- the block that an occupancy bit is of, and its chunk
abbrev pub atom : Geometry → Block → Block
atom G (Small c i) = Small c i
atom G (Big c) = Big (G.first c)
atom G Root = Root

-- AN OCCUPANCY BIT IS SET EXACTLY WHERE this is taken: of a run a block that is allocated or a lane's own, or none of its blocks; of a page that is no run
-- each; of a zone a run, or a chunk of a huge block that is allocated or a lane's own
abbrev pub is_taken : State → Ghost → Block → Bool
is_taken S g (Small c i) = not (valid g (Small c i)) || (there S (Small c i) || not (g.holder (Small c i) == 0))
is_taken S g (Big c) = g.runs c || (there S (Big (g.geo.first c)) || not (g.holder (Big (g.geo.first c)) == 0))
is_taken S g Root = true

-- the pool has the occupancy bit
abbrev pub is_occupancy : Shape → Block → Bool
is_occupancy sh (Small c i) = nat_lt c (chunks_of sh) && nat_lt i 64
is_occupancy sh (Big c) = nat_lt c (chunks_of sh)
is_occupancy sh Root = false

-- what the words say of huge blocks and runs
pub record GeoFits (sh : Shape) (S : State) (g : Ghost) : Type 0 where
  pub twice : (c : ℕ) → g.geo.first (g.geo.first c) ≡ g.geo.first c
  pub classes : (c : ℕ) → g.runs c ≡ true → (1 ≤ g.geo.class c) × (0 < blocks_of (g.geo.class c))
  -- a huge block that is allocated has the chunks that its descriptor tells, none of which is a run; other descriptors tell of no huge block
  pub shape : (f : ℕ) → there S (Big f) ≡ true → (c : ℕ) → (g.geo.first c == f) ≡ spans (S (Descr f)) f c
  pub head : (f : ℕ) → there S (Big f) ≡ true → g.geo.first f ≡ f
  pub huge : (c : ℕ) → there S (Big (g.geo.first c)) ≡ true → g.runs c ≡ false
  pub zeros : (c : ℕ) → there S (Big c) ≡ false → (b : ℕ) → S (Descr c) b ≡ false
  pub in_zone : (f : ℕ) → there S (Big f) ≡ true → f % 64 + val (S (Descr f)) 8 56 ≤ 64
  -- a chunk that is no run has no blocks, and a run none past its blocks
  pub within : (c i : ℕ) → there S (Small c i) ≡ true → valid g (Small c i) ≡ true

abbrev pub Alone : (ℕ → ℕ → Bool) → (ℕ → ℕ → Bool) → Type 0
Alone writer reader = (l j : ℕ) → writer l j ≡ true → (i : ℕ) → (reader l i ≡ false) × (i ≢ j → writer l i ≡ false)

-- THE WORLD OVER BITS: each lane, by number, has this sight of it; those from `lanes` on have nothing
pub record Bits (sh : Shape) (lanes : ℕ) (o : State) (cells : Cells) (sights : ℕ → Sight) (g : Ghost) : Type 0 where
  pub each_lane : (k : ℕ) → SightFits sh cells (settled o g) (Flies g k) g k (sights k)
  pub beyond : (k : ℕ) → lanes ≤ k → (B : Block) → (own (sights k).hold B ≡ false) × ((l : ℕ) → (sights k).hold.locked l ≡ false)
  -- what no lane owns and a meaning looks at is settled
  pub unowned : (p : Place) (b : ℕ) → ((k : ℕ) → owns g.geo (settled o g) (sights k).hold p b ≡ false) → live (settled o g) g.geo g.runs p ≡ true → read cells.pool p b ≡ settled o g p b
  pub descr : (c : ℕ) → ((k : ℕ) → (sights k).hold.making c ≡ false) → cells.descr c ≡ cond (g.runs c) (g.geo.class c) 0
  pub occ : (a : Block) → is_occupancy sh a ≡ true → cells.occ a ≡ is_taken (settled o g) g a
  pub geo : GeoFits sh (settled o g) g
  pub alone : Alone cells.writer cells.reader
  pub counter : cells.counter ≡ g.length
  pub flying : (n : ℕ) → n < g.length → g.decided n ≡ false → flies_at (sights (g.who n)).phase n
