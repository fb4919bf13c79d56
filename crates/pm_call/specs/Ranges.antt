-- RANGES OF OBJECTS: what an operation on one asks of a lane at work, and why it is refused.
use Rattle.std.specs.Prelude.{◌≡◌, ℕ, ◌+◌, ◌^◌, ◌<◌, ◌≤◌, ◌==◌, ◌&&◌, nat_lt, Bool, true, false, not, Contains, List, [], ◌∷◌, length, Some, Result, Ok, Err}
use Rattle.std.specs.List.{list_all}
use Rattle.std.specs.Option.{option_map_or}
use Rattle.pm_objects.specs.declared.calls.Operation.{Operation}
use Rattle.pm_objects.specs.declared.calls.Operation.TheVariants.{AddRange, Write, Read, Increment}
use Rattle.pm_objects.specs.declared.ids.Oid.{Oid}
use Rattle.pm_objects.specs.declared.refusal.Refusal.{Refusal}
use Rattle.pm_objects.specs.declared.refusal.Refusal.TheVariants as refusal
use Rattle.pm_model.specs.Refusals.{Test}
use Rattle.pm_model.specs.Items.{is_among}
use Rattle.pm_model.specs.Transaction.{covered_words, new_words, records_of}
use Rattle.pm_view.specs.View.{View}
use Rattle.pm_view.specs.Views.{value_in}
use Rattle.pm_world.specs.LaneFields.{Standing}
use Rattle.pm_crash.specs.Looked.{size_seen}
use Rattle.pm_undo.specs.Records.{kept_by}
use Rattle.pm_undo.specs.Spans as spans
use Rattle.pm_call.specs.Held.{is_in_locks}

-- a range of an object that the lane has, for writing or not: its lock is held, its size known, and the range within it
pub record HasRange (s : Standing) (id : Oid) (off len : ℕ) (write : Bool) : Type 0 where
  pub pool : id.pool ≡ s.view.fixed.pool
  pub locked : is_in_locks s.locks id.off write ≡ true
  pub size : ℕ
  pub sized : size_seen s.view id.off ≡ Some size
  pub small : size < 2 ^ 64
  pub inside : off + len ≤ size

-- each word that so many bytes from a place on cover is known
pub record KnowsWord (v : View) (w : ℕ) : Type 0 where
  pub value : ℕ
  pub known : value_in v w ≡ Some value
  pub small : value < 2 ^ 64

abbrev pub KnowsWords : View → ℕ → ℕ → Type 0
KnowsWords v place len = (w : ℕ) → Contains (covered_words place len) w → KnowsWord v w

-- a range that the lane has, each word of which it looked at
pub record HasSeen (s : Standing) (id : Oid) (off len : ℕ) (write : Bool) : Type 0 where
  pub range : HasRange s id off len write
  pub words : KnowsWords s.view (id.off + off) len

-- the range of an operation: of which object, from where on, how long, and whether it is to be written
abbrev pub IsRangeOf : Operation → Oid → ℕ → ℕ → Bool → Type 0
IsRangeOf (AddRange id at n) i off len write = (i ≡ id) × (off ≡ at) × (len ≡ n) × (write ≡ true)
IsRangeOf (Write id at bytes) i off len write = (i ≡ id) × (off ≡ at) × (len ≡ length bytes) × (write ≡ true)
IsRangeOf (Read id at n) i off len write = (i ≡ id) × (off ≡ at) × (len ≡ n) × (write ≡ false)
IsRangeOf (Increment id at by) i off len write = (i ≡ id) × (off ≡ at) × (len ≡ 8) × (write ≡ false)
IsRangeOf op i off len write = ⊥

-- ---- WHY SUCH AN OPERATION IS REFUSED, of a lane at work: its object is not held; it passes the object's end; then each has a test of its own

abbrev pub is_held_so : Standing → Oid → Bool → Bool
is_held_so s id write = id.pool == s.view.fixed.pool && is_in_locks s.locks id.off write

-- the size that the lane knows; 0 where it knows none
abbrev pub size_or_none : View → ℕ → ℕ
size_or_none v off = option_map_or (λ n. n) (size_seen v off) 0

-- each word that so many bytes from a place on cover has a record
abbrev pub has_records : View → ℕ → ℕ → Bool
has_records v place len =
    list_all (is_among (spans.words_in (kept_by v))) (covered_words place len)

-- an increment reads first, and then writes
abbrev pub own_tests : Standing → Operation → List Test
own_tests s (AddRange id off len) =
    (refusal.LogFull, nat_lt 64 (length s.view.log.records + length (records_of (new_words (spans.words_in (kept_by s.view)) (covered_words (id.off + off) len))))) ∷ []
own_tests s (Write id off bytes) =
    (refusal.NotAdded, not (has_records s.view (id.off + off) (length bytes))) ∷ []
own_tests s (Increment id off by) =
    (refusal.NotLocked, not (is_held_so s id true))
    ∷ (refusal.NotAdded, not (has_records s.view (id.off + off) 8)) ∷ []
own_tests s op = []

abbrev pub range_tests : Standing → Operation → Oid → ℕ → ℕ → Bool → List Test
range_tests s op id off len write =
    (refusal.NotLocked, not (is_held_so s id write))
    ∷ (refusal.OutOfRange, nat_lt (size_or_none s.view id.off) (off + len)) ∷ own_tests s op

-- what a range of an object of this size comes to
abbrev pub Judged : Bool → ℕ → ℕ → ℕ → Result (Unit {0}) Refusal → Type 0
Judged held size off len (Ok done) = (held ≡ true) × (off + len ≤ size)
Judged held size off len (Err refusal.NotLocked) = held ≡ false
Judged held size off len (Err refusal.OutOfRange) = (held ≡ true) × (size < off + len)
Judged held size off len (Err r) = ⊥
