-- What `recover` leaves, and what it prints: docs/COMMANDS.md, "recover".
use Rattle.std.specs.Prelude.{◌≡◌, ◌⊎◌, ℕ, ◌%◌, List, length, Option, None, Some}
use Rattle.pm_words.specs.Words.{bytes_of, words_of}
use Rattle.pm_image.specs.Means.{IsMeaning}
use Rattle.pm_objects.specs.declared.pool.PoolView.{PoolView}
use Rattle.pm_recover.specs.Recovery.{IsRecovered}
use Rattle.pm_reopen.specs.Ends.{end_of}
use Rattle.pm_reopen.specs.Plan.{plan}
use Rattle.pm_reopen.specs.Premise.{HasNoTornClearing, IsRecoverable}
use Rattle.pm_reopen.specs.Running.{IsLeft, words_left}
use Rattle.pm_reopen.specs.declared.end.RecoverEnd.{RecoverEnd}
use Rattle.pm_reopen.specs.declared.end.RecoverEnd.TheVariants.{Whole}
use Rattle.pm_options.specs.Words.{Recover}
use Rattle.pm_shelf.specs.Outside.{Adds, Held, IsWhole, MayAddPart}
use Rattle.pm_commands.specs.Lines.{recover_line}
use Rattle.pm_commands.specs.PoolFiles.{BytesMean, limit}

-- how a recovery of so many calls ends: whole, or after as many as its stop number says, if it has one and needs more
abbrev pub end_by : Option ℕ → ℕ → RecoverEnd
end_by None calls = Whole calls
end_by (Some stop) calls = end_of calls stop

-- what it leaves of an image of so many lanes: what the whole plan of memory calls leaves, or what a power failure leaves after as many calls
abbrev pub IsLeftBy : Option ℕ → ℕ → List ℕ → ℕ → List ℕ → Type 0
IsLeftBy None keep image lanes left = left ≡ words_left image lanes
IsLeftBy (Some stop) keep image lanes left = IsLeft image lanes stop keep left

-- the image is a pool's, and its recovery ends so and leaves this one: a recovered one where it was whole. It means what was read, and can be
-- recovered again. Taken for granted there of a stopped one: no record that was cleared in part is whole by chance
pub record IsRecovery (image : List ℕ) (stop : Option ℕ) (keep : ℕ) (end : RecoverEnd) (left : List ℕ) : Type 0 where
  pub pool : PoolView
  pub means : IsMeaning image pool
  pub ends : end ≡ end_by stop (length (plan image pool.lanes))
  pub is_left : IsLeftBy stop keep image pool.lanes left
  pub whole : (calls : ℕ) → end ≡ Whole calls → IsRecovered image left pool.lanes × IsRecoverable left pool
  pub again : HasNoTornClearing image pool.lanes → IsRecoverable left pool

-- the recovery of the pool of these bytes leaves these bytes, and this is the line that tells of it
pub record IsRecoveryOver (source : List ℕ) (r : Recover) (written text : List ℕ) : Type 0 where
  pub in_words : length source % 8 ≡ 0
  pub image : List ℕ
  pub is_image : written ≡ bytes_of image
  pub end : RecoverEnd
  pub recovery : IsRecovery (words_of source) r.stop r.keep end image
  pub told : text ≡ recover_line end

-- so does that of what the shelf holds under the name of the pool
pub record IsRecoveryOf (held : Option Held) (r : Recover) (written text : List ℕ) : Type 0 where
  pub source : List ℕ
  pub whole : IsWhole held r.pool limit source
  pub run : IsRecoveryOver source r written text

-- the new name is as it was, or new with a front of what such a recovery leaves; every other name is as it was
pub record AddsPartOfRecovery (r : Recover) (held after : Option Held) : Type 0 where
  pub written : List ℕ
  pub text : List ℕ
  pub run : IsRecoveryOf held r written text
  pub part : MayAddPart held after r.out written

-- the shelf is as it was, or has a part of what a recovery leaves more
abbrev pub MayAddRecovery : Recover → Option Held → Option Held → Type 0
MayAddRecovery r held after = (after ≡ held) ⊎ AddsPartOfRecovery r held after

-- status 0 of `recover`: the pool was recovered, what is left stands under its new name, and this is the line
pub record IsPoolRecovered (r : Recover) (held after : Option Held) (text : List ℕ) : Type 0 where
  pub written : List ℕ
  pub added : Adds held after r.out written
  pub run : IsRecoveryOf held r written text

-- a recovery is possible: the name has a pool, and the new name is not there
pub record CanRecover (held : Held) (r : Recover) : Type 0 where
  pub source : List ℕ
  pub pool_there : held r.pool ≡ Some source
  pub pool : PoolView
  pub means : BytesMean source pool
  pub absent : held r.out ≡ None
