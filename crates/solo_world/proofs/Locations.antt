-- Two locations of different kinds are two, and a location has one number.
use Rattle.std.proofs.Common.{◌≡◌, ◌≢◌, ℕ, ◌/◌, ◌<◌, sym, ap, arith}
use Rattle.solo_view.specs.declared.occ.Occ.{Occ}
use Rattle.solo_view.specs.declared.occ.Occ.TheVariants.{Run, Zone}
use Rattle.solo_world.specs.Heap.{IsOcc}
use Rattle.solo_world.specs.Memory.{Location, occ_at}
use Rattle.solo_world.specs.Memory.Location.{PoolWord, LockWord, RunWord, ZoneWord, ZoneLock, CommitCounter, StopWord}

pub kind : Location → ℕ
kind (PoolWord w) = 0
kind (LockWord line) = 1
kind CommitCounter = 2
kind StopWord = 3
kind (RunWord page) = 4
kind (ZoneWord zone) = 5
kind (ZoneLock zone) = 6

pub number : Location → ℕ
number (PoolWord w) = w
number (LockWord line) = line
number CommitCounter = 0
number StopWord = 0
number (RunWord page) = page
number (ZoneWord zone) = zone
number (ZoneLock zone) = zone

pub pool-lock : (w line : ℕ) → PoolWord w ≢ LockWord line
unfolding kind
pool-lock w line same = absurd (let e = ap kind same in omega arith)

pub pool-counter : (w : ℕ) → PoolWord w ≢ CommitCounter
unfolding kind
pool-counter w same = absurd (let e = ap kind same in omega arith)

pub pool-stop : (w : ℕ) → PoolWord w ≢ StopWord
unfolding kind
pool-stop w same = absurd (let e = ap kind same in omega arith)

pub lock-pool : (line w : ℕ) → LockWord line ≢ PoolWord w
unfolding kind
lock-pool line w same = absurd (let e = ap kind same in omega arith)

pub lock-counter : (line : ℕ) → LockWord line ≢ CommitCounter
unfolding kind
lock-counter line same = absurd (let e = ap kind same in omega arith)

pub lock-stop : (line : ℕ) → LockWord line ≢ StopWord
unfolding kind
lock-stop line same = absurd (let e = ap kind same in omega arith)

pub counter-pool : (w : ℕ) → CommitCounter ≢ PoolWord w
unfolding kind
counter-pool w same = absurd (let e = ap kind same in omega arith)

pub counter-lock : (line : ℕ) → CommitCounter ≢ LockWord line
unfolding kind
counter-lock line same = absurd (let e = ap kind same in omega arith)

pub counter-stop : CommitCounter ≢ StopWord
unfolding kind
counter-stop same = absurd (let e = ap kind same in omega arith)

pub stop-pool : (w : ℕ) → StopWord ≢ PoolWord w
unfolding kind
stop-pool w same = absurd (let e = ap kind same in omega arith)

pub stop-lock : (line : ℕ) → StopWord ≢ LockWord line
unfolding kind
stop-lock line same = absurd (let e = ap kind same in omega arith)

pub stop-counter : StopWord ≢ CommitCounter
unfolding kind
stop-counter same = absurd (let e = ap kind same in omega arith)

pub other_pool : (w u : ℕ) → w ≢ u → PoolWord w ≢ PoolWord u
unfolding number
other_pool w u differ same = differ (ap number same)

pub other_lock : (line other : ℕ) → line ≢ other → LockWord line ≢ LockWord other
unfolding number
other_lock line other differ same = differ (ap number same)

-- no volatile word of the heap
pub record IsPlain (l : Location) : Type 0 where
  pub below : kind l < 4

pub plain_pool : (w : ℕ) → IsPlain (PoolWord w)
unfolding kind
plain_pool w = record { below = omega arith }

pub plain_lock : (line : ℕ) → IsPlain (LockWord line)
unfolding kind
plain_lock line = record { below = omega arith }

pub plain_counter : IsPlain CommitCounter
unfolding kind
plain_counter = record { below = omega arith }

pub plain_stop : IsPlain StopWord
unfolding kind
plain_stop = record { below = omega arith }

pub occ_other : (at : Occ) (l : Location) → IsPlain l → occ_at at ≢ l
unfolding kind
occ_other (Run place) l plain same = absurd (let e = ap kind same in let low = plain.below in omega arith)
occ_other (Zone zone) l plain same = absurd (let e = ap kind same in let low = plain.below in omega arith)

pub zone_lock_other : (zone : ℕ) (l : Location) → IsPlain l → ZoneLock zone ≢ l
unfolding kind
zone_lock_other zone l plain same = absurd (let e = ap kind same in let low = plain.below in omega arith)

-- and the other way round
pub other_occ : (at : Occ) (l : Location) → IsPlain l → l ≢ occ_at at
other_occ at l plain same = occ_other at l plain (sym same)

pub other_zone_lock : (zone : ℕ) (l : Location) → IsPlain l → l ≢ ZoneLock zone
other_zone_lock zone l plain same = zone_lock_other zone l plain (sym same)

-- of the pool's occupancy words no two are one
pub one_occ : (lanes zones : ℕ) (at other : Occ) → IsOcc lanes zones at → IsOcc lanes zones other → occ_at at ≡ occ_at other → at ≡ other
unfolding kind number
one_occ lanes zones (Run place) (Run other) of of' same = ap Run (let page : place / 4096 ≡ other / 4096 = ap number same in let whole = of.0 in let whole' = of'.0 in omega arith)
one_occ lanes zones (Run place) (Zone zone) of of' same = absurd (let e = ap kind same in omega arith)
one_occ lanes zones (Zone zone) (Run other) of of' same = absurd (let e = ap kind same in omega arith)
one_occ lanes zones (Zone zone) (Zone other) of of' same = ap Zone (ap number same)

pub zone_apart : (at : Occ) (zone : ℕ) → occ_at at ≢ ZoneLock zone
unfolding kind
zone_apart (Run place) zone same = absurd (let e = ap kind same in omega arith)
zone_apart (Zone other) zone same = absurd (let e = ap kind same in omega arith)

pub lock_apart : (zone : ℕ) (at : Occ) → ZoneLock zone ≢ occ_at at
lock_apart zone at same = zone_apart at zone (sym same)

pub one_lock : (zone other : ℕ) → zone ≢ other → ZoneLock zone ≢ ZoneLock other
unfolding number
one_lock zone other differ same = differ (ap number same)
