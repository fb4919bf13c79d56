-- A call that may be decided may draw its number, and then end its records; or publish its entries, where some are listed.
use Rattle.std.proofs.Common.{◌≡◌, ◌⊎◌, ℕ, None, Ok, Err, OnErr, Result, List, [], ◌∷◌, length, refl, arith}
use Rattle.pm_objects.specs.declared.calls.Operation.TheVariants.{Commit}
use Rattle.pm_record.specs.declared.redo.Redo.{Redo}
use Rattle.solo_redo.specs.Sequences.{logs}
use Rattle.solo_undo.specs.Sequences.{retires}
use Rattle.solo_undo.specs.Working.{HasArea, IsSeenWithArea}
use Rattle.solo_view.specs.View.{View}
use Rattle.solo_view.specs.Views.{after_all}
use Rattle.solo_world.proofs.Sequencing.{ready_left, ready_right}
use Rattle.solo_world.specs.Sequences.{IsMade, IsReady, IsStopped, Ready, Runs, in_turn, nothing, one, settles}
use Rattle.solo_world.specs.declared.lane.Span.{Span}
use Rattle.solo_memory.specs.declared.lane_mem.Stopped.{Stopped}
use Rattle.solo_tx.specs.Ending.{CanDecide, IsDecidable, IsReadyForAny, StopsDrawn, StopsEnded}
use Rattle.solo_tx.specs.Publishing.{MayPublish, StopsPublished}
use Rattle.solo_tx.specs.Sequences.{commits, completes, decides, decides_all, ends_call, logs_listed, publishes, retires_any}

pub retires_none : (spans : List Span) → length spans ≡ 0 → retires_any spans ≡ nothing
unfolding retires_any
retires_none [] none = refl
retires_none (s ∷ rest) none = absurd (omega (arith, none))

pub retires_some : (spans : List Span) → (length spans ≡ 0 → ⊥) → retires_any spans ≡ retires
unfolding retires_any
retires_some [] some = absurd (some refl)
retires_some (s ∷ rest) some = refl

-- a call that ends keeps its area
pub area_behind : (v : View) (n : ℕ) → HasArea v → HasArea (after_all v (ends_call Commit None n v))
unfolding ends_call in_turn one after_all
area_behind v n area = record { lane = area.lane; few = area.few; inside = area.inside; below = area.below }

module _ (old : View → Type 0) (spans : List Span) (r : IsDecidable old spans []) where
  abbrev pub v : View
  v = r.0

  abbrev pub behind : ℕ → View
  behind n = after_all v (ends_call Commit None n v)

  first : (n : ℕ) → Ready v (ends_call Commit None n v)
  unfolding decides in_turn
  first n = ready_left v (ends_call Commit None n v) (retires_any spans (behind n)) (r.1.1.1 n)

  pub may_end : IsReadyForAny old (ends_call Commit None)
  unfolding IsReadyForAny
  may_end = (v, (r.1.0, first))

  module _ (mid : View → Type 0) (n : ℕ) (made : IsMade old mid (ends_call Commit None n)) where
    there : mid (behind n)
    unfolding Runs
    there = made v r.1.0 (first n)

    pub ended_area : IsSeenWithArea mid
    ended_area = (behind n, (there, area_behind v n r.1.1.0))

    pub may_retire : IsReady mid (retires_any spans)
    unfolding IsReady decides in_turn
    may_retire = (behind n, (there, ready_right v (ends_call Commit None n v) (retires_any spans (behind n)) (r.1.1.1 n)))

ended_stops : (old mid new : View → Type 0) (spans : List Span) (n : ℕ) (stopped : Stopped) → IsMade old mid (ends_call Commit None n) → Runs {T = Unit {0}} mid new (retires_any spans) (Err stopped) → StopsEnded old new spans [] n
unfolding Runs decides decides_all completes logs_listed in_turn nothing after_all
ended_stops old mid new spans n stopped made runs v seen ready =
    let behind : View = after_all v (ends_call Commit None n v) in
    runs behind (made v seen (ready_left v (ends_call Commit None n v) (retires_any spans behind) ready)) (ready_right v (ends_call Commit None n v) (retires_any spans behind) ready)

-- the call ended, and its records were not
pub stops_ended : (old mid new : View → Type 0) (spans : List Span) (n : ℕ) (result : Result (Unit {0}) Stopped) → IsMade old mid (ends_call Commit None n) → Runs mid new (retires_any spans) result → OnErr result (StopsEnded old new spans [] n)
stops_ended old mid new spans n (Ok done) made runs = tt
stops_ended old mid new spans n (Err stopped) made runs = ended_stops old mid new spans n stopped made runs

-- all was made persistent before
pub stops_drawn : (old mid new : View → Type 0) (spans : List Span) (entries : List Redo) (n : ℕ) → Runs {T = Unit {0}} old mid settles (Ok tt) → StopsEnded mid new spans entries n → StopsDrawn old new spans entries n
unfolding Runs commits in_turn
stops_drawn old mid new spans entries n made stops v seen ready =
    let behind : View = after_all v (settles v) in
    stops behind (made v seen (ready_left v (settles v) (decides_all spans entries n behind) ready)) (ready_right v (settles v) (decides_all spans entries n behind) ready)

-- without entries the records are ended
pub none_listed : (entries : List Redo) → length entries ≡ 0 → entries ≡ []
none_listed [] none = refl
none_listed (e ∷ entries) none = absurd (omega (arith, none))

pub decides_none : (spans : List Span) (n : ℕ) → decides_all spans [] n ≡ decides spans n
unfolding decides_all
decides_none spans n = refl

-- and with some they are published
module _ (spans : List Span) where
  pub may_publish : (v : View) (entries : List Redo) → (length entries ≡ 0 → ⊥) → CanDecide v spans entries → MayPublish v entries
  may_publish v [] some can = absurd (some refl)
  may_publish v (e ∷ entries) some can = can

  pub decides_some : (entries : List Redo) (n : ℕ) → (length entries ≡ 0 → ⊥) → decides_all spans entries n ≡ publishes entries Commit n
  unfolding decides_all
  decides_some [] n some = absurd (some refl)
  decides_some (e ∷ entries) n some = refl

  pub published_stops : (P Q : Type 0) (old new : View → Type 0) (entries : List Redo) (n : ℕ) → (length entries ≡ 0 → ⊥) → (P × IsStopped old new (logs entries)) ⊎ (Q × StopsPublished old new entries Commit n)
      → (P × IsStopped old new (logs_listed entries)) ⊎ (Q × StopsEnded old new spans entries n)
  unfolding decides_all completes logs_listed
  published_stops P Q old new [] n some stops = absurd (some refl)
  published_stops P Q old new (e ∷ entries) n some stops = stops
