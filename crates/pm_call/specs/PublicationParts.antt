-- THE PARTS OF A PUBLISH OUTSIDE A TRANSACTION: a lane that holds the objects of its pending words
-- looks at each word, and sets them by one log, or the publish is refused; then it gives the locks back.
use Rattle.std.specs.Prelude.{◌≡◌, ℕ, Bool, true, false, Contains, List, [], ◌∷◌, take, Some, Result, Ok, Err}
use Rattle.std.specs.List.{flat_map}
use Rattle.pm_memory.specs.Runs.{Stops}
use Rattle.pm_model.specs.Items.{is_among}
use Rattle.pm_model.specs.Pending.{SetWord, want_to_write}
use Rattle.pm_model.specs.Refusals.{Seen}
use Rattle.pm_objects.specs.declared.calls.Operation.TheVariants.{Publish}
use Rattle.pm_objects.specs.declared.calls.Want.{Want}
use Rattle.pm_objects.specs.declared.history.Value.TheVariants.{Refused}
use Rattle.pm_objects.specs.declared.refusal.Refusal.{Refusal}
use Rattle.pm_objects.specs.declared.refusal.Refusal.TheVariants as refusal
use Rattle.pm_view.specs.View.{View}
use Rattle.pm_view.specs.Views.{after_all}
use Rattle.pm_world.specs.LaneFields.{Rests, Standing, at_rest, fields_of}
use Rattle.pm_world.specs.declared.lane.Lane.{Lane}
use Rattle.pm_world.specs.declared.lane.PendingAction.{PendingAction}
use Rattle.pm_world.specs.declared.lane.PendingAction.TheVariants.{Set}
use Rattle.pm_crash.specs.Facts.{HaveFacts}
use Rattle.pm_crash.specs.Missed.{FoundNone}
use Rattle.pm_plan.specs.Plans.{Ready}
use Rattle.pm_call.specs.Did.{After, next}
use Rattle.pm_call.specs.Finishing.{TellsNumber}
use Rattle.pm_call.specs.GivenUp.{with_locks}
use Rattle.pm_call.specs.Outside.{IsOpenWith, IsPublishRefusal}
use Rattle.pm_call.specs.Plans.{ends_call}
use Rattle.pm_call.specs.Publications.{EndsPast, FindsPast, HoldsWords, PassesTests, SeesWord, SeesWords, publishes, unlocked}
use Rattle.pm_call.specs.Publishing.{words_pending}
use Rattle.pm_call.specs.Stages.{IsBetween}
use Rattle.pm_call.specs.Unwritten.{WritesNoRecord}
use Rattle.pm_call.specs.Waiting.{listed_set}

-- ---- DONE, from where the lane holds the objects and looked at the words

-- the words are set, and the lane is between two calls
pub record WasPublishedOutside {M : Type 0} (at : M → View → Type 0) (lane : Lane M) (s : Standing)
    : Type 0 where
  pub found : ℕ → ℕ
  pub number : ℕ
  pub passes : PassesTests s.view
  pub ready : Ready s.view (publishes (words_pending s) found number s.view)
  pub rests : Rests at lane (unlocked (next s (publishes (words_pending s) found number)))
  pub between : IsBetween (unlocked (next s (publishes (words_pending s) found number)))

-- the first of its steps were made, up to the lane's stop, and the lane says that it stopped
pub record PublishWasCut {M : Type 0} (at : M → View → Type 0) (lane : Lane M) (s : Standing)
    : Type 0 where
  pub found : ℕ → ℕ
  pub number : ℕ
  pub passes : PassesTests s.view
  pub ready : Ready s.view (publishes (words_pending s) found number s.view)
  pub stops : Stops (at lane.memory) s.view (publishes (words_pending s) found number s.view)
  pub numbered : TellsNumber lane
      (after_all s.view (take stops.made (publishes (words_pending s) found number s.view)))
  pub fields : fields_of lane ≡ record (at_rest s) {
    generation = lane.log.generation;
    records = lane.log.records.items;
    entries = lane.entries.items;
    pending = [];
    drawn = lane.drawn;
    last = lane.last;
    stopped = true;
  }
  -- all facts that the lane owes hold at its calls, this one among them
  pub facts : HaveFacts (next s (publishes (words_pending s) found number)).view
  pub unwritten : WritesNoRecord
      (after_all s.view (take stops.made (publishes (words_pending s) found number s.view)))

abbrev pub WordsSetAs : {M : Type 0} → (M → View → Type 0) → Lane M → Result (Unit {0}) Refusal
    → Standing → Type 0
WordsSetAs at lane (Ok done) s = WasPublishedOutside at lane s
WordsSetAs at lane (Err refusal.Stopped) s = PublishWasCut at lane s
WordsSetAs at lane (Err r) s = ⊥

-- ---- REFUSED: it is told so, what is pending stays, and the lane is between two calls

pub record PublishWasRefused {M : Type 0} (at : M → View → Type 0) (lane : Lane M) (s : Standing)
    (r : Refusal) : Type 0 where
  pub number : ℕ
  pub ready : Ready s.view (ends_call Publish (Some (Refused r)) number s.view)
  pub rests : Rests at lane (unlocked (next s (ends_call Publish (Some (Refused r)) number)))
  pub between : IsBetween (unlocked (next s (ends_call Publish (Some (Refused r)) number)))

-- the lane's call may end so
pub record MayRefuse (t : Standing) (r : Refusal) : Type 0 where
  pub seen : Seen
  pub opens : IsOpenWith (with_locks [] t) t.locks
  pub unspent : seen.spent ≡ false
  pub why : IsPublishRefusal t.view seen r
  pub missing : (off : ℕ) → is_among seen.missing off ≡ true → FoundNone t.view off
  pub unlisted : t.entries ≡ []

-- ---- ITS PARTS

-- the locks that these actions want
abbrev pub wants_of_action : PendingAction → List Want
wants_of_action (Set id off value) = want_to_write id ∷ []
wants_of_action action = []

abbrev pub wants_of_actions : List PendingAction → List Want
wants_of_actions actions = flat_map wants_of_action actions

-- the lane holds the objects of its words, and this is so
pub record IsHolding {M : Type 0} (at : M → View → Type 0) (lane : Lane M) (P : Standing → Type 0)
    : Type 0 where
  pub standing : Standing
  pub rests : Rests at lane standing
  pub holding : HoldsWords standing
  pub holds : P standing

-- the action is one of its pending words
abbrev pub IsPendingWord : PendingAction → Standing → Type 0
IsPendingWord action t = (a : SetWord) × Contains (words_pending t) a × (action ≡ listed_set a)

-- what the looks at one word came to
abbrev pub SeenSo : Bool → SetWord → Standing → Type 0
SeenSo true a t = SeesWord t a
SeenSo false a t = EndsPast t a

unfoldable pub ActionLooked : {M : Type 0} → (M → View → Type 0) → Lane M → Lane M → PendingAction
    → Bool → Type 0
ActionLooked at old new action inside = (s : Standing) (a : SetWord) → Rests at old s → HoldsWords s
    → Contains (words_pending s) a → action ≡ listed_set a
    → After s (λ t. SeenSo inside a t × Rests at new t × HoldsWords t)

-- what the looks at the words came to: each was seen, or one passes its object's end
abbrev pub LookedSo : Bool → Standing → Type 0
LookedSo true t = SeesWords t
LookedSo false t = FindsPast t

unfoldable pub WordsLooked : {M : Type 0} → (M → View → Type 0) → Lane M → Lane M → Bool → Type 0
WordsLooked at old new inside = (s : Standing) → Rests at old s → HoldsWords s
    → After s (λ t. LookedSo inside t × Rests at new t × HoldsWords t)

unfoldable pub WordsSet : {M : Type 0} → (M → View → Type 0) → Lane M → Lane M
    → Result (Unit {0}) Refusal → Type 0
WordsSet at old new result = (s : Standing) → Rests at old s → HoldsWords s → SeesWords s
    → WordsSetAs at new result s

unfoldable pub PublishRefused : {M : Type 0} → (M → View → Type 0) → Lane M → Lane M → Refusal
    → Type 0
PublishRefused at old new r = (s : Standing) → Rests at old s → MayRefuse s r
    → PublishWasRefused at new s r
