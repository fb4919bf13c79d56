-- WHAT A PUBLISH DID to a lane whose transaction is at work, by cases of what it returns.
use Rattle.std.specs.Prelude.{◌≡◌, ℕ, ◌+◌, ◌^◌, ◌<◌, true, false, Contains, List, [], ◌∷◌, Option, None, Some, Result, Ok, Err}
use Rattle.std.specs.List.{AllByRecursion, list_any}
use Rattle.pm_model.specs.Pending.{SetWord}
use Rattle.pm_objects.specs.declared.calls.Operation.TheVariants.{Publish}
use Rattle.pm_objects.specs.declared.history.Value.TheVariants.{Refused}
use Rattle.pm_objects.specs.declared.refusal.Refusal.{Refusal}
use Rattle.pm_objects.specs.declared.refusal.Refusal.TheVariants as refusal
use Rattle.pm_view.specs.View.{View}
use Rattle.pm_world.specs.LaneFields.{Standing, Works}
use Rattle.pm_world.specs.declared.lane.Lane.{Lane}
use Rattle.pm_world.specs.declared.lane.PendingAction.{PendingAction}
use Rattle.pm_crash.specs.Looked.{size_seen}
use Rattle.pm_plan.specs.Plans.{Ready}
use Rattle.pm_call.specs.At.{At}
use Rattle.pm_call.specs.Did.{After, Cut, GaveUp, IsRefused, IsUnrefused, work_refusal}
use Rattle.pm_call.specs.Plans.{gives_up, tells}
use Rattle.pm_call.specs.Publishing.{CanPublish, HasWord, IsWordSized, is_unheld, words_entered}
use Rattle.pm_call.specs.Waiting.{listed_set}

-- ---- THE CHECK of the pending words

-- a word passes its object's end
pub record PassesEnd (s : Standing) (a : SetWord) : Type 0 where
  pub size : ℕ
  pub sized : size_seen s.view a.id.off ≡ Some size
  pub small : size < 2 ^ 64
  pub past : size < a.off + 8

-- what some words come to: the lane has each for writing; or one is of an object that is not
-- held so; or none is, and one passes its object's end
abbrev pub JudgedWords : Standing → List SetWord → Result (Unit {0}) Refusal → Type 0
JudgedWords s words (Ok done) = AllByRecursion (HasWord s) words
JudgedWords s words (Err refusal.NotLocked) = list_any (is_unheld s) words ≡ true
JudgedWords s words (Err refusal.OutOfRange) = (list_any (is_unheld s) words ≡ false)
    × ((a : SetWord) × Contains words a × PassesEnd s a)
JudgedWords s words (Err r) = ⊥

-- and the lane looked at the size of each object that it holds
abbrev pub AreChecked : Standing → List SetWord → Result (Unit {0}) Refusal → Type 0
AreChecked s words result = AllByRecursion (IsWordSized s) words × JudgedWords s words result

-- a check of these words, which looks at sizes
unfoldable pub WordsChecked : {M : Type 0} → (M → View → Type 0) → Lane M → Lane M
    → (Standing → List SetWord) → Result (Unit {0}) Refusal → Type 0
WordsChecked at old new words result = (s : Standing) → Works at old s → At s
    → After s (λ t. AreChecked t (words t) result × Works at new t × At t)

-- an action that is a word to be set is checked
unfoldable pub ActionChecked : {M : Type 0} → (M → View → Type 0) → Lane M → Lane M
    → PendingAction → Result (Unit {0}) Refusal → Type 0
ActionChecked at old new action result = (a : SetWord) → action ≡ listed_set a
    → WordsChecked at old new (λ s. a ∷ []) result

-- the refusal of two checks: that of an object that is not held comes first
abbrev pub earlier : Result (Unit {0}) Refusal → Result (Unit {0}) Refusal
    → Result (Unit {0}) Refusal
earlier first (Err refusal.NotLocked) = Err refusal.NotLocked
earlier (Ok done) second = second
earlier (Err r) second = Err r

-- ---- PUBLISH

-- the pending words are entries of the call, and none is pending; the lane is at work
pub record WasPublished {M : Type 0} (at : M → View → Type 0) (lane : Lane M) (s : Standing)
    : Type 0 where
  pub unrefused : IsUnrefused s Publish
  pub ready : Ready s.view (tells Publish None s.view)
  pub works : Works at lane (words_entered s)
  pub stands : At (words_entered s)

-- it was refused, and the lane came to its stop as it rolled back
pub record StoppedInRefusal {M : Type 0} (at : M → View → Type 0) (lane : Lane M) (s : Standing)
    : Type 0 where
  pub refusal : Refusal
  pub number : ℕ
  pub refused : IsRefused s Publish refusal
  pub cut : Cut at lane s (gives_up Publish (Some (Refused refusal)) number) true

-- once the lane looked at sizes: it is done; it is refused, and the transaction is aborted; or the
-- lane came to its stop
abbrev pub PublishedAs : {M : Type 0} → (M → View → Type 0) → Lane M → Result (Unit {0}) Refusal
    → Standing → Type 0
PublishedAs at lane (Ok done) s = WasPublished at lane s
PublishedAs at lane (Err refusal.Stopped) s = StoppedInRefusal at lane s
PublishedAs at lane (Err r) s = GaveUp at lane s Publish r

-- THE PUBLISH: refused for its stage it changes nothing
abbrev pub PublishedSo : {M : Type 0} → Option Refusal → (M → View → Type 0) → Lane M → Lane M
    → Result (Unit {0}) Refusal → Type 0
PublishedSo (Some r) at old new result = (result ≡ Err r) × (new ≡ old)
PublishedSo None at old new result = (s : Standing) → Works at old s → At s
    → After s (PublishedAs at new result)

unfoldable pub Published : {M : Type 0} → (M → View → Type 0) → Lane M → Lane M
    → Result (Unit {0}) Refusal → Type 0
Published at old new result = PublishedSo (work_refusal old) at old new result

-- words that may be published are
unfoldable pub WordsPublished : {M : Type 0} → (M → View → Type 0) → Lane M → Lane M → Type 0
WordsPublished at old new = (s : Standing) → Works at old s → At s → CanPublish s
    → WasPublished at new s
