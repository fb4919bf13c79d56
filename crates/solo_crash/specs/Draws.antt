-- A call that draws its number, over the words that the calls before it make of the opening's, where some that are in flight are left out.
use Rattle.std.specs.Prelude.{◌≡◌, ℕ, Bool, true, List, [], ◌∷◌, ◌++◌, filter, slice_index}
use Rattle.pm_header.specs.declared.header.Header.{Header}
use Rattle.pm_objects.specs.declared.pool.PoolView.{PoolView}
use Rattle.solo_model.specs.Step.{Step}
use Rattle.solo_view.specs.View.{View}
use Rattle.solo_world.specs.Course.{entry_of}
use Rattle.solo_world.specs.History.{Entry, replayed}
use Rattle.solo_world.specs.Opening.{Opening}
use Rattle.solo_crash.specs.Held.{HoldsPool}
use Rattle.solo_crash.specs.Pending.{act_of, state_after}

-- what the calls that are kept make of the opening's words
abbrev pub kept_words : Opening → (ℕ → Bool) → List Entry → ℕ → ℕ
kept_words o keep log i = replayed keep log i (slice_index o.words i)

-- the calls that are kept, in their order
abbrev pub kept_log : (ℕ → Bool) → List Entry → List Entry
kept_log keep log = filter (λ (e : Entry). keep e.number) log

-- every decided call is kept
abbrev pub KeepsDecided : (ℕ → Bool) → (ℕ → Bool) → Type 0
KeepsDecided decided keep = (n : ℕ) → decided n ≡ true → keep n ≡ true

-- the view's call, drawn with number n, turns the pool that the kept calls made into the next, as the plain model does
pub record DrawsStep (o : Opening) (keep : ℕ → Bool) (log : List Entry) (v : View) (n : ℕ) (header : Header) (pool : PoolView) : Type 0 where
  pub next : PoolView
  pub holds : HoldsPool (kept_words o keep (log ++ entry_of v n ∷ [])) o.lanes o.zones header next
  pub steps : Step (state_after pool (kept_log keep log)) (act_of v) (state_after next (kept_log keep log ++ entry_of v n ∷ []))
