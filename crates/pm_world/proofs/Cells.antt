-- The memory bit by bit, after a change of one word: all but what that word tells stays.
use Rattle.std.proofs.Common.{◌≡◌, ◌≢◌, ℕ, ⊎_elim, ◌&&◌, sym, ap, ◌∙◌, arith}
use Rattle.std.proofs.lemmas.Bool.{cases_eq}
use Rattle.pm_layout.specs.declared.shape.Shape.{Shape}
use Rattle.pm_view.specs.declared.occ.Occ.{Occ}
use Rattle.pm_view.specs.declared.occ.Occ.TheVariants.{Run, Zone}
use Rattle.pm_view.specs.Places.{Place, InRun, InHuge, Descr, RootWord, is_place, word_of}
use Rattle.pm_world.specs.States.{read, put1}
use Rattle.pm_world.specs.Memory.{Location, PoolWord, LockWord, RunWord, ZoneWord, ZoneLock, CommitCounter, StopWord, occ_at, Memory, IsSame, IsSameBut, Becomes, bit, huge_told, bits_of, descriptor_told, cells_by, cells_of}
use Rattle.pm_world.proofs.Replays.{put1_here, put1_else}

-- which of the seven sorts a location is of, and its number
abbrev pub sort : Location → ℕ
sort (PoolWord w) = 0
sort (LockWord l) = 1
sort (RunWord p) = 2
sort (ZoneWord z) = 3
sort (ZoneLock z) = 4
sort CommitCounter = 5
sort StopWord = 6

abbrev pub number : Location → ℕ
number (PoolWord w) = w
number (LockWord l) = l
number (RunWord p) = p
number (ZoneWord z) = z
number (ZoneLock z) = z
number CommitCounter = 0
number StopWord = 0

pub other_sort : (l m : Location) → sort l ≢ sort m → l ≢ m
other_sort l m ne e = ne (ap sort e)

pub other_number : (l m : Location) → number l ≢ number m → l ≢ m
other_number l m ne e = ne (ap number e)

pub occ_sort : (at : Occ) (l : Location) → sort l ≢ 2 → sort l ≢ 3 → occ_at at ≢ l
occ_sort (Run place) l a b e = a (sym (ap sort e))
occ_sort (Zone zone) l a b e = b (sym (ap sort e))

-- a word of a sort became x
became : (f f' : ℕ → ℕ) (n x : ℕ) → ((m : ℕ) → m ≢ n → f' m ≡ f m) → f' n ≡ x → (m : ℕ) → f' m ≡ put1 f n x m
became f f' n x else_ here m = ⊎_elim (λ (q : m ≡ n). ap f' q ∙ (here ∙ (sym (put1_here f n x) ∙ ap (put1 f n x) (sym q)))) (λ (ne : m ≢ n). else_ m ne ∙ sym (put1_else f n x m ne)) (cases_eq m n)

module _ (sh : Shape) (mem new : Memory) where
  -- the counter alone changed
  pub cells_counted : IsSameBut CommitCounter mem new → cells_of sh new ≡ record (cells_of sh mem) { counter = new CommitCounter }
  cells_counted e = λ i. cells_by sh (λ w. e (PoolWord w) (other_sort (PoolWord w) CommitCounter (λ q. omega arith)) i) (λ l. e (LockWord l) (other_sort (LockWord l) CommitCounter (λ q. omega arith)) i) (λ c. e (RunWord c) (other_sort (RunWord c) CommitCounter (λ q. omega arith)) i)
      (λ z. e (ZoneWord z) (other_sort (ZoneWord z) CommitCounter (λ q. omega arith)) i) (λ z. e (ZoneLock z) (other_sort (ZoneLock z) CommitCounter (λ q. omega arith)) i) (new CommitCounter) (e StopWord (other_sort StopWord CommitCounter (λ q. omega arith)) i)

  -- a word of the pool, a lock word, an occupancy word of a run or a zone, a zone's lock
  pub cells_stored : (w x : ℕ) → Becomes (PoolWord w) x mem new → cells_of sh new ≡ cells_by sh (put1 (λ v. mem (PoolWord v)) w x) (λ l. mem (LockWord l)) (λ c. mem (RunWord c)) (λ z. mem (ZoneWord z)) (λ z. mem (ZoneLock z)) (mem CommitCounter) (mem StopWord)
  cells_stored w x e = λ i. cells_by sh (λ v. became (λ u. mem (PoolWord u)) (λ u. new (PoolWord u)) w x (λ m ne. e.0 (PoolWord m) (other_number (PoolWord m) (PoolWord w) ne)) e.1 v i) (λ l. e.0 (LockWord l) (other_sort (LockWord l) (PoolWord w) (λ q. omega arith)) i) (λ c. e.0 (RunWord c) (other_sort (RunWord c) (PoolWord w) (λ q. omega arith)) i)
      (λ z. e.0 (ZoneWord z) (other_sort (ZoneWord z) (PoolWord w) (λ q. omega arith)) i) (λ z. e.0 (ZoneLock z) (other_sort (ZoneLock z) (PoolWord w) (λ q. omega arith)) i) (e.0 CommitCounter (other_sort CommitCounter (PoolWord w) (λ q. omega arith)) i) (e.0 StopWord (other_sort StopWord (PoolWord w) (λ q. omega arith)) i)

  pub cells_run : (c x : ℕ) → Becomes (RunWord c) x mem new → cells_of sh new ≡ cells_by sh (λ v. mem (PoolWord v)) (λ l. mem (LockWord l)) (put1 (λ m. mem (RunWord m)) c x) (λ z. mem (ZoneWord z)) (λ z. mem (ZoneLock z)) (mem CommitCounter) (mem StopWord)
  cells_run c x e = λ i. cells_by sh (λ v. e.0 (PoolWord v) (other_sort (PoolWord v) (RunWord c) (λ q. omega arith)) i) (λ l. e.0 (LockWord l) (other_sort (LockWord l) (RunWord c) (λ q. omega arith)) i) (λ v. became (λ u. mem (RunWord u)) (λ u. new (RunWord u)) c x (λ m ne. e.0 (RunWord m) (other_number (RunWord m) (RunWord c) ne)) e.1 v i)
      (λ z. e.0 (ZoneWord z) (other_sort (ZoneWord z) (RunWord c) (λ q. omega arith)) i) (λ z. e.0 (ZoneLock z) (other_sort (ZoneLock z) (RunWord c) (λ q. omega arith)) i) (e.0 CommitCounter (other_sort CommitCounter (RunWord c) (λ q. omega arith)) i) (e.0 StopWord (other_sort StopWord (RunWord c) (λ q. omega arith)) i)

  pub cells_zone : (y x : ℕ) → Becomes (ZoneWord y) x mem new → cells_of sh new ≡ cells_by sh (λ v. mem (PoolWord v)) (λ l. mem (LockWord l)) (λ c. mem (RunWord c)) (put1 (λ m. mem (ZoneWord m)) y x) (λ z. mem (ZoneLock z)) (mem CommitCounter) (mem StopWord)
  cells_zone y x e = λ i. cells_by sh (λ v. e.0 (PoolWord v) (other_sort (PoolWord v) (ZoneWord y) (λ q. omega arith)) i) (λ l. e.0 (LockWord l) (other_sort (LockWord l) (ZoneWord y) (λ q. omega arith)) i) (λ c. e.0 (RunWord c) (other_sort (RunWord c) (ZoneWord y) (λ q. omega arith)) i)
      (λ v. became (λ u. mem (ZoneWord u)) (λ u. new (ZoneWord u)) y x (λ m ne. e.0 (ZoneWord m) (other_number (ZoneWord m) (ZoneWord y) ne)) e.1 v i) (λ z. e.0 (ZoneLock z) (other_sort (ZoneLock z) (ZoneWord y) (λ q. omega arith)) i) (e.0 CommitCounter (other_sort CommitCounter (ZoneWord y) (λ q. omega arith)) i) (e.0 StopWord (other_sort StopWord (ZoneWord y) (λ q. omega arith)) i)

-- ---- one word of the pool: the bits of other places stay
pub bits_else : (sh : Shape) (words : ℕ → ℕ) (w x : ℕ) (p : Place) (b : ℕ) → word_of sh p ≢ w → read (bits_of sh (put1 words w x)) p b ≡ read (bits_of sh words) p b
bits_else sh words w x (InRun c u) b ne = ap (λ y. is_place sh (InRun c u) && bit y b) (put1_else words w x (word_of sh (InRun c u)) ne)
bits_else sh words w x (InHuge c u) b ne = ap (λ y. is_place sh (InRun c u) && bit y b) (put1_else words w x (word_of sh (InRun c u)) ne)
bits_else sh words w x (Descr c) b ne = ap (λ y. is_place sh (Descr c) && huge_told y b) (put1_else words w x (word_of sh (Descr c)) ne)
bits_else sh words w x RootWord b ne = ap (λ y. bit y b) (put1_else words w x (word_of sh RootWord) ne)

pub descriptor_else : (sh : Shape) (words : ℕ → ℕ) (w x c : ℕ) → word_of sh (Descr c) ≢ w → descriptor_told sh (put1 words w x) c ≡ descriptor_told sh words c
descriptor_else sh words w x c ne = ap (λ y. Rattle.std.specs.Prelude.cond (is_place sh (Descr c)) (Rattle.pm_world.specs.Memory.run_told y) 0) (put1_else words w x (word_of sh (Descr c)) ne)
