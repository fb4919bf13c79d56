-- WORDS ARE PUBLISHED, OR CANCELLED, in a transaction at work, as laws: those that are pending
-- become entries of the call, which the commit of the outermost level sets; or none is pending
-- any more. And why a publish is refused. pmemobj_tx_publish(3), pmemobj_cancel(3).
use Rattle.std.specs.Prelude.{◌≡◌, ◌+◌, ◌<◌, nat_lt, Bool, true, not, List, [], ◌∷◌, ◌++◌, length, map, None}
use Rattle.std.specs.List.{AllByRecursion, list_any}
use Rattle.pm_layout.specs.Areas.{redo_entries}
use Rattle.pm_model.specs.Pending.{SetWord}
use Rattle.pm_model.specs.Refusals.{Test, first_of, max_entries}
use Rattle.pm_objects.specs.declared.calls.Operation.TheVariants.{Cancel, Publish}
use Rattle.pm_objects.specs.declared.refusal.Refusal.TheVariants as refusal
use Rattle.pm_view.specs.Steps.Step.{Tell}
use Rattle.pm_view.specs.Views.{after}
use Rattle.pm_world.specs.LaneFields.{Standing}
use Rattle.pm_world.specs.Lawful.{Allowed}
use Rattle.pm_crash.specs.Looked.{refusal_by}
use Rattle.pm_crash.specs.SimOps.{LookedAt}
use Rattle.pm_plan.specs.Plans.{Ready}
use Rattle.pm_call.specs.At.{At, entries_so_far, set_entry}
use Rattle.pm_call.specs.Did.{IsUnrefused, next, unseen}
use Rattle.pm_call.specs.Plans.{cancels}
use Rattle.pm_call.specs.RangeLaws.{IsSizedIfHeld}
use Rattle.pm_call.specs.Ranges.{HasRange, is_held_so, size_or_none}
use Rattle.pm_call.specs.Waiting.{pending_now}

-- the words that are pending
abbrev pub words_pending : Standing → List SetWord
words_pending s = (pending_now s.view).sets

-- ---- ONE OF THEM

-- the lane does not hold its object for writing
abbrev pub is_unheld : Standing → SetWord → Bool
is_unheld s a = not (is_held_so s a.id true)

-- it passes its object's end, by the size that the lane knows
abbrev pub is_past_end : Standing → SetWord → Bool
is_past_end s a = nat_lt (size_or_none s.view a.id.off) (a.off + 8)

-- the lane has its range for writing
abbrev pub HasWord : Standing → SetWord → Type 0
HasWord s a = HasRange s a.id a.off 8 true

-- the lane knows the size of its object, or does not hold the object
abbrev pub IsWordSized : Standing → SetWord → Type 0
IsWordSized s a = IsSizedIfHeld s a.id

-- ---- WHY A PUBLISH IS REFUSED

-- in their order: a word is of an object that is not held for writing; one passes its object's
-- end; the log has not room for all entries and the one of the generation
abbrev pub publishing_tests : Standing → List Test
publishing_tests s =
    (refusal.NotLocked, list_any (is_unheld s) (words_pending s))
    ∷ (refusal.OutOfRange, list_any (is_past_end s) (words_pending s))
    ∷ (
      refusal.ActionsFull,
      nat_lt max_entries (length s.entries + length (words_pending s) + 1),
    )
    ∷ []

-- THE MODEL'S FIRST REFUSAL is that of the first test that applies
abbrev pub PublishRefusals : Type 0
PublishRefusals = (s : Standing) → At s
    → refusal_by unseen s.view None Publish ≡ first_of (publishing_tests s)

-- THE LANE LOOKED AT ALL that a publish asks for, where it knows these sizes
abbrev pub PendingWordsAreLookedAt : Type 0
PendingWordsAreLookedAt = (s : Standing) → At s
    → AllByRecursion (IsWordSized s) (words_pending s)
    → LookedAt s.view (entries_so_far s) None Publish

-- ---- PUBLISH

-- the lane has each word for writing, and their entries have room
pub record CanPublish (s : Standing) : Type 0 where
  pub each : AllByRecursion (HasWord s) (words_pending s)
  pub room : length s.entries + length (words_pending s) < redo_entries s.view.fixed.shape

-- the words are entries of the call then
abbrev pub words_entered : Standing → Standing
words_entered s = record s {
  view = after s.view (Tell Publish None);
  entries = s.entries ++ map set_entry (words_pending s);
}

pub record LeadsPublish (s : Standing) : Type 0 where
  pub unrefused : IsUnrefused s Publish
  pub allowed : Allowed s.view (Tell Publish None)
  pub stands : At (words_entered s)

-- THE LAW: such words may be published, by telling it alone; the lane is at work then
abbrev pub WordsMayBePublished : Type 0
WordsMayBePublished = (s : Standing) → At s → CanPublish s → LeadsPublish s

-- ---- CANCEL

pub record LeadsCancel (s : Standing) : Type 0 where
  pub unrefused : IsUnrefused s Cancel
  pub ready : Ready s.view (cancels s.view)
  pub stands : At (next s cancels)

-- THE LAW: what is pending may be cancelled at any time; the lane is at work then, and nothing is
-- undrained
abbrev pub CancelsMayBeTold : Type 0
CancelsMayBeTold = (s : Standing) → At s → LeadsCancel s
