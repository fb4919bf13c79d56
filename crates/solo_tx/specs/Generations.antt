-- How often a transaction ends the generation of its lane's log, and where its call stands then.
use Rattle.std.specs.Prelude.{◌≡◌, ◌⊎◌, ℕ, ◌+◌, ◌≤◌, All, Bool, true, false, List, [], ◌∷◌, None, Some, is_some, length}
use Rattle.solo_crash.specs.Alone.{GrowsFirst, IsUnsealed}
use Rattle.pm_image.specs.Logs.{generation_word}
use Rattle.solo_view.specs.Log.{Phase, no_log, phase_drawn}
use Rattle.pm_record.specs.declared.redo.Redo.{Redo}
use Rattle.solo_redo.specs.Entering.{MayEnter}
use Rattle.solo_view.specs.Log.Phase.{Applying, Clearing, Drawn, Idle, Open, Retiring, Sealing}
use Rattle.solo_view.specs.Steps.{Step}
use Rattle.solo_view.specs.View.{View}
use Rattle.solo_view.specs.Views.{after}
use Rattle.solo_world.specs.Entries.{is_redoing}
use Rattle.solo_world.specs.Opening.{Opening}
use Rattle.solo_world.specs.Records.{records_generation}
use Rattle.solo_lock.specs.Begun.{MayCome}

-- the next generation is stored, and not drained
abbrev pub is_ending : Phase → Bool
is_ending Retiring = true
is_ending phase = false

-- entries are being stored, and no record
abbrev pub IsLogging : Phase → Type 0
IsLogging (Open slot pair) = slot ≡ []
IsLogging phase = ⊥

-- the log is to be sealed; or it is sealed, and that drained, with so many entries applied at most
abbrev pub IsUnapplied : ℕ → Phase → Type 0
IsUnapplied most Drawn = Unit {0}
IsUnapplied most Sealing = Unit {0}
IsUnapplied most (Applying applied) = applied ≤ most
IsUnapplied most phase = ⊥

-- all of so many entries are applied, and the seal is to be cleared; or it is cleared, and that drained
abbrev pub IsApplied : ℕ → Phase → Type 0
IsApplied all (Applying applied) = applied ≡ all
IsApplied all Clearing = Unit {0}
IsApplied all Idle = Unit {0}
IsApplied all phase = ⊥

-- from the view before so many entries are published, behind so many stores of the generation: they are being logged, and no number is drawn; or
-- it is drawn, and the entry that ends the generation, which is the last, is not applied; or it is, and with that the generation is ended
abbrev pub IsPublishing : ℕ → ℕ → View → Type 0
IsPublishing count raised w =
    ((raised ≡ 0) × (((is_some w.number ≡ false) × IsLogging w.log.phase) ⊎ ((is_some w.number ≡ true) × IsUnapplied count w.log.phase)))
    ⊎ ((raised ≡ 1) × (is_some w.number ≡ true) × IsApplied (count + 1) w.log.phase)

-- from the view before a commit, behind so many stores of the generation. Where entries are listed, these are published. Without any, the call is
-- open, or has drawn its number and is decided only if it has no records; or the generation is ended, with the number drawn, and with that the
-- call is decided
abbrev pub IsCommitting : View → List Redo → ℕ → View → Type 0
IsCommitting v [] raised w =
    ((raised ≡ 0) × ((w.log.phase ≡ Open [] []) ⊎ (w.log.phase ≡ phase_drawn v.log.records v.log.entries)))
    ⊎ ((raised ≡ 1) × (is_some w.number ≡ true) × ((w.log.phase ≡ Retiring) ⊎ (w.log.phase ≡ Idle)))
IsCommitting v (e ∷ entries) raised w = IsPublishing (length (e ∷ entries)) raised w

-- the open call may publish these entries with its commit, 63 at most, each one that its lane may enter: none is stored yet, and a number is left for
-- it
pub record CanPublish (v : View) (entries : List Redo) : Type 0 where
  pub unentered : v.log.entries ≡ []
  pub few : length entries ≤ 63
  pub each : All (MayEnter v) entries
  pub may_come : MayCome v

-- from the view before a call is given up, behind so many stores of the generation: the call is open with its records, or, without any, it is
-- over; or the generation is ended, before a number is drawn, and then the call is open with no records, and then it is over
abbrev pub IsGivingUp : View → ℕ → View → Type 0
IsGivingUp v raised w =
    ((raised ≡ 0) × (((w.log.phase ≡ Open [] []) × (w.log.records ≡ v.log.records)) ⊎ ((w.log.phase ≡ Idle) × (v.log.records ≡ []))))
    ⊎ ((raised ≡ 1) × (((w.log.phase ≡ Retiring) × (w.number ≡ None)) ⊎ (((w.log ≡ no_log (Open [] [])) × (w.number ≡ None)) ⊎ (w.log.phase ≡ Idle))))

-- no entry is applied on the way of these steps
unfoldable pub AppliesNone : View → List Step → Type 0
AppliesNone v [] = Unit {0}
AppliesNone v (s ∷ steps) = (is_redoing v.log.phase ≡ false) × AppliesNone (after v s) steps

-- while the lane's log may grow it is of the opening's generation, or nothing of it is written yet; and the records of a call in flight
-- that has no seal are of the opening's generation
pub record IsOfOpening (o : Opening) (w : View) : Type 0 where
  pub grows : GrowsFirst o w w.log.phase
  pub in_flight : (n : ℕ) → w.number ≡ Some n → IsUnsealed w.log.phase → records_generation w.log.phase w ≡ generation_word o.words 0
