-- Bits of the pool at places: which of them a meaning looks at, what a call makes of them, and what a history does.
use Rattle.std.specs.Prelude.{ℕ, zero, suc, ◌+◌, ◌-◌, ◌*◌, ◌/◌, ◌%◌, nat_le, nat_lt, Bool, true, false, cond, ◌==◌, ◌&&◌, ◌||◌, List, [], ◌∷◌, Option, None, Some}
use Rattle.pm_layout.specs.Areas.{page_words}
use Rattle.pm_view.specs.Places.{Place, InRun, InHuge, Descr, RootWord, Block, Small, Big, Root, Geometry, in_span, same, same_place}
use Rattle.pm_view.specs.Entries.{Redo, given_bit, latest, first_of_two}

abbrev pub Word : Type 0
Word = ℕ → Bool

abbrev pub State : Type 0
State = Place → Word

-- what is made of bits, where anything is
abbrev pub Diff : Type 0
Diff = Place → ℕ → Option Bool

abbrev pub given : {A : Type 0} → Option A → Bool
given None = false
given (Some y) = true

abbrev pub over : Option Bool → Bool → Bool
over None x = x
over (Some y) x = y

abbrev pub after_diff : Diff → State → State
after_diff d s p b = over (d p b) (s p b)

-- WHETHER A BLOCK IS ALLOCATED is one bit of the words. The root word always stands
abbrev pub there : State → Block → Bool
there s (Small c i) = s (InRun c 0) i
there s (Big f) = s (Descr f) 1
there s Root = true

-- the number that n bits spell, from bit i on
abbrev pub val : Word → ℕ → ℕ → ℕ
val w i zero = 0
val w i (suc n) = cond (w i) 1 0 + 2 * val w (suc i) n

-- chunk c is one of those that the descriptor w of chunk f tells of
abbrev pub spans : Word → ℕ → ℕ → Bool
spans w f c = in_span f (val w 8 56) c

-- line l of a block, 0 for the header's, has words of an object of this size
abbrev pub lit : Word → ℕ → Bool
lit size l = nat_le l ((val size 0 64 + 63) / 64)

-- WHICH BITS A MEANING LOOKS AT: bitmaps of runs; the lines of allocated blocks that their objects have; descriptors; the root word
abbrev pub size_at : ℕ → ℕ → ℕ → Place
size_at cl c i = InRun c (8 * (1 + cl * i) + 1)

abbrev pub bright : State → ℕ → ℕ → ℕ → ℕ → Bool
bright s cl c i l = s (InRun c 0) i && lit (s (size_at cl c i)) l

abbrev pub shown : State → ℕ → ℕ → ℕ → Bool
shown s cl c w = (w == 0) || ((nat_le 8 w && nat_lt w page_words) && bright s cl c ((w / 8 - 1) / cl) ((w / 8 - 1) % cl))

abbrev pub bright_huge : State → ℕ → ℕ → Bool
bright_huge s f l = s (Descr f) 1 && lit (s (InHuge f 1)) l

abbrev pub live : State → Geometry → (ℕ → Bool) → Place → Bool
live s G runs (InRun c w) = runs c && shown s (G.class c) c w
live s G runs (InHuge c w) = nat_lt w page_words && bright_huge s (G.first c) (64 * (c - G.first c) + w / 8)
live s G runs (Descr c) = true
live s G runs RootWord = true

-- THE LINES WHOSE LOCKS GUARD A WORD in place of its block's own: a lane may write the word that holds all of them for writing, and knows it that holds
-- the first of them. The root word is guarded by line 0, and by the line of the object that it names
abbrev pub root_line : ℕ → List ℕ
root_line zero = []
root_line (suc n) = (suc n / 64 - 1) ∷ []

abbrev pub guards : State → Place → List ℕ
guards s (InRun c w) = []
guards s (InHuge c w) = []
guards s (Descr c) = []
guards s RootWord = 0 ∷ root_line (val (s RootWord) 0 64)

-- a word in one use stands where its twin does
abbrev pub cell : Place → Place
cell (InRun c w) = InRun c w
cell (InHuge c w) = InRun c w
cell (Descr c) = Descr c
cell RootWord = RootWord

abbrev pub read : State → State
read m p b = m (cell p) b

-- an entry is applied to the words
abbrev pub applied : State → Redo → State
applied m e q b = cond (same_place (cell e.place) q) (over (given_bit e.op e.value b) (m q b)) (m q b)

-- A CALL, by what it makes final: its entries, and what it stored under records or in the blocks that it allocates
pub record Call : Type 0 where
  pub entries : List Redo
  pub fresh : Diff

abbrev pub diff : Call → Diff
diff a p b = first_of_two (latest a.entries p b) (a.fresh p b)

abbrev pub no_call : Call
no_call = record { entries = []; fresh = λ p b. None }

-- THE WORDS AFTER THE CALLS THAT PASS A TEST, one after another
abbrev pub replay : (ℕ → Bool) → State → (ℕ → Call) → ℕ → State
replay keep o log zero p b = o p b
replay keep o log (suc n) p b = cond (keep n) (over (diff (log n) p b) (replay keep o log n p b)) (replay keep o log n p b)

-- a function changed at one number, at one block
abbrev pub put1 : {A : Type 0} → (ℕ → A) → ℕ → A → ℕ → A
put1 f c a d = cond (d == c) a (f d)

abbrev pub put_block : {A : Type 0} → (Block → A) → Block → A → Block → A
put_block f B a C = cond (same C B) a (f C)

-- the geometry when the n chunks from f on become one claim: chunks that named one of them as their first are their own first
abbrev pub claimed : Geometry → ℕ → ℕ → Geometry
claimed G f n = record { first = λ c. cond (in_span f n c) f (cond (in_span f n (G.first c)) c (G.first c)); class = G.class }

-- THE MEMORY, bit by bit where places are: the pool at cells, and what each descriptor tells of a run (0, or its blocks' lines); each lane's generation,
-- seal, entries' and slots' words; locks of lines by lane; occupancy bits, Big c for chunk c's; zones' locks (0, or one more than the holder); the counter and
-- the stop word
pub record Cells : Type 0 where
  pub pool : State
  pub descr : ℕ → ℕ
  pub generation : ℕ → ℕ
  pub seal : ℕ → ℕ
  pub entry : ℕ → ℕ → ℕ → ℕ
  pub slot : ℕ → ℕ → ℕ → ℕ
  pub writer : ℕ → ℕ → Bool
  pub reader : ℕ → ℕ → Bool
  pub occ : Block → Bool
  pub zone : ℕ → ℕ
  pub counter : ℕ
  pub stop : ℕ
