-- A transaction as it runs: pmemobj_tx_begin(3). It works on a copy of the objects, which the
-- outermost commit makes the pool's.
use Rattle.std.specs.Prelude.{ℕ, ◌+◌, ◌-◌, ◌/◌, ◌==◌, ◌&&◌, ◌||◌, not, nat_lt, nat_le, Bool, true, false, if◌then◌else◌, List, [], ◌∷◌, ◌++◌, length, map, filter}
use Rattle.std.specs.List.{list_any, range_with_len}
use Rattle.pm_objects.specs.declared.calls.Want.{Want}
use Rattle.pm_objects.specs.declared.history.TxErr.{TxErr}
use Rattle.pm_objects.specs.declared.history.TxErr.TheVariants as error
use Rattle.pm_objects.specs.declared.ids.Oid.{Oid}
use Rattle.pm_model.specs.Items.{Item, Items, PlainPool, all_edited, edited, freed_item, is_among, made_item, put_into}
use Rattle.pm_model.specs.Blocks.{Block}
use Rattle.pm_model.specs.Pending.{Pending, SetWord, block_edits, blocks_reserved, none_pending, set_edits}
use Rattle.pm_model.specs.declared.stage.Stage.{Stage}
use Rattle.pm_model.specs.declared.stage.Stage.TheVariants as stage

-- a lock that a lane holds: of the object at an offset, for writing or for reading alone
pub record Lock : Type 0 where
  pub off : ℕ
  pub write : Bool

pub record Transaction : Type 0 where
  -- the pool as the outermost level began, and the copy of its objects with what was changed since
  pub before : PlainPool
  pub items : Items
  pub level : ℕ
  pub stage : Stage
  -- one lock an object
  pub locks : List Lock
  -- the recorded words, by their numbers in the pool, and in how many records
  pub recorded : List ℕ
  pub records : ℕ
  -- what the lane has pending, and the words that were published in the transaction: they are set
  -- when it is committed
  pub pending : Pending
  pub sets : List SetWord
  -- the blocks of the objects that it made, and which of these it freed again: their blocks stay
  -- reserved to its end
  pub made : List Block
  pub dropped : List ℕ
  -- the existing objects that it freed
  pub freed : List ℕ
  pub error : TxErr

-- no transaction is open: the copy is the pool's, and this is pending
abbrev pub idle : PlainPool → Pending → Transaction
idle pool pending =
    record {
      before = pool;
      items = pool.items;
      level = 0;
      stage = stage.None;
      locks = [];
      recorded = [];
      records = 0;
      pending = pending;
      sets = [];
      made = [];
      dropped = [];
      freed = [];
      error = error.None;
    }

-- the pool with its objects as they are in the copy
abbrev pub pool_of : Transaction → PlainPool
pool_of tx = record tx.before { items = tx.items }

abbrev pub is_working : Stage → Bool
is_working stage.Work = true
is_working s = false

abbrev pub is_none : TxErr → Bool
is_none error.None = true
is_none e = false

-- ---- locks

-- the locks with one more: an object has one lock, for writing where it was ever asked for so
unfoldable pub locked : ℕ → Bool → List Lock → List Lock
locked off write [] = record { off = off; write = write } ∷ []
locked off write (lock ∷ locks) =
    if lock.off == off then record { off = off; write = lock.write || write } ∷ locks else lock
    ∷ locked off write locks

unfoldable pub all_locked : List Want → List Lock → List Lock
all_locked [] locks = locks
all_locked (want ∷ wants) locks = all_locked wants (locked want.id.off want.write locks)

-- the lock of the object is held, for writing if so asked
abbrev pub is_locked : List Lock → ℕ → Bool → Bool
is_locked locks off write =
    list_any (λ (lock : Lock). lock.off == off && (lock.write || not write)) locks

-- the transaction made the object at the offset: no other lane knows of it, so it needs no lock
abbrev pub is_new : Transaction → ℕ → Bool
is_new tx off = list_any (λ (b : Block). b.off == off) tx.made

-- it freed the object at the offset
abbrev pub is_gone : Transaction → ℕ → Bool
is_gone tx off = is_among tx.freed off || is_among tx.dropped off

-- it may use the object at the offset, to write if so asked
abbrev pub holds : Transaction → ℕ → Bool → Bool
holds tx off write = is_new tx off || is_locked tx.locks off write

-- of new objects no lock is taken
abbrev pub wants_of_old : Transaction → List Want → List Want
wants_of_old tx wants = filter (λ (want : Want). not (is_new tx want.id.off)) wants

abbrev pub with_locks : List Want → Transaction → Transaction
with_locks wants tx = record tx { locks = all_locked (wants_of_old tx wants) tx.locks }

-- ---- records

-- the words that have some of so many bytes from a place on. Word w has the bytes from 8 * w on
unfoldable pub covered_words : ℕ → ℕ → List ℕ
covered_words place len =
    if len == 0 then [] else range_with_len (place / 8) ((place + len - 1) / 8 + 1 - place / 8)

-- those of the words that are not recorded yet
unfoldable pub new_words : List ℕ → List ℕ → List ℕ
new_words recorded words = filter (λ w. not (is_among recorded w)) words

-- the records of some words in rising order, each of one to four consecutive words: its first
-- word and how many. The first argument is the record that is open
unfoldable pub records_from : ℕ × ℕ → List ℕ → List (ℕ × ℕ)
records_from open_one [] = open_one ∷ []
records_from open_one (w ∷ words) =
    if w == open_one.0 + open_one.1 && nat_lt open_one.1 4
    then records_from (open_one.0, open_one.1 + 1) words
    else open_one ∷ records_from (w, 1) words

unfoldable pub records_of : List ℕ → List (ℕ × ℕ)
records_of [] = []
records_of (w ∷ words) = records_from (w, 1) words

-- the words that a range has to be recorded: none of a new object
abbrev pub words_to_record : Transaction → ℕ → ℕ → ℕ → List ℕ
words_to_record tx off at len =
    if is_new tx off then [] else new_words tx.recorded (covered_words (off + at) len)

abbrev pub with_range : ℕ → ℕ → ℕ → Transaction → Transaction
with_range off at len tx =
    let words = words_to_record tx off at len in
    record tx { recorded = tx.recorded ++ words; records = tx.records + length (records_of words) }

-- ---- objects

abbrev pub written : ℕ → ℕ → List ℕ → Transaction → Transaction
written off at bytes tx = record tx { items = edited (put_into off at bytes) tx.items }

-- a new object comes to be at the offset
abbrev pub allocated : ℕ → Item → Transaction → Transaction
allocated off item tx =
    record tx {
      items = edited (made_item off item) tx.items;
      made = record { off = off; size = length item.bytes } ∷ tx.made;
    }

-- the object at the offset is freed
abbrev pub freed_at : ℕ → Transaction → Transaction
freed_at off tx =
    let new = is_new tx off in
    record tx {
      items = edited (freed_item off) tx.items;
      dropped = if new then off ∷ tx.dropped else tx.dropped;
      freed = if new then tx.freed else off ∷ tx.freed;
    }

-- What is pending becomes the transaction's: objects are freed, those that are reserved come to
-- be, and words wait for the commit
abbrev pub published : Transaction → Transaction
published tx =
    let offs = map (λ (id : Oid). id.off) tx.pending.frees in
    record tx {
      items = all_edited (block_edits tx.pending) tx.items;
      sets = tx.sets ++ tx.pending.sets;
      pending = none_pending;
      made = blocks_reserved tx.pending ++ tx.made;
      dropped = filter (is_new tx) offs ++ tx.dropped;
      freed = filter (λ off. not (is_new tx off)) offs ++ tx.freed;
    }

-- the entries of its redo log, but for that of its generation: one for each word to be set, and
-- for each object made or freed
abbrev pub entries_of : Transaction → ℕ
entries_of tx = length tx.sets + (length tx.made - length tx.dropped) + length tx.freed

-- ---- levels and stages

abbrev pub begun : List Want → Transaction → Transaction
begun wants tx = record (with_locks wants tx) { level = tx.level + 1; stage = stage.Work }

abbrev pub committed : Transaction → Transaction
committed tx = record tx { stage = stage.OnCommit }

-- all of it is rolled back, with this error; what was published is gone. A refused outermost
-- begin leaves level 1
abbrev pub aborted : TxErr → Transaction → Transaction
aborted e tx =
    record tx {
      items = tx.before.items;
      level = if tx.level == 0 then 1 else tx.level;
      stage = stage.OnAbort;
      sets = [];
      made = [];
      dropped = [];
      freed = [];
      error = e;
    }

-- one level less. At the outermost one the published words are set, the locks are given back, and
-- no transaction is open; at an inner one the outer goes on working, unless all was aborted
abbrev pub ended : Transaction → Transaction
ended tx =
    if nat_le tx.level 1
    then record (idle tx.before tx.pending) { items = all_edited (set_edits tx.sets) tx.items }
    else record tx {
      level = tx.level - 1;
      stage = if is_none tx.error then stage.Work else stage.OnAbort;
    }

-- one stage on: in work it commits, and from the last stage on it changes nothing
abbrev pub processed_from : Stage → Transaction → Transaction
processed_from stage.Work tx = committed tx
processed_from stage.OnCommit tx = record tx { stage = stage.Finally }
processed_from stage.OnAbort tx = record tx { stage = stage.Finally }
processed_from stage.Finally tx = record tx { stage = stage.None }
processed_from stage.None tx = tx

abbrev pub processed : Transaction → Transaction
processed tx = processed_from tx.stage tx
