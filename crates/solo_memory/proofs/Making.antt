-- Each memory call of the only lane is its step, or the stop in its place: `m` is the memory before, `k` the memory with the call counted, `n` the
-- memory after.
use Rattle.std.proofs.Common.{◌≡◌, ℕ, ◌+◌, ◌^◌, ◌<◌, List, slice_index, bit_and, bit_or, Result, Ok, Err, IsErr, sym, ap, ◌∙◌, subst, rules}
use Rattle.std.specs.Option.{ForSome}
use Rattle.solo_view.specs.declared.change.Change.{Change}
use Rattle.solo_view.specs.Area.{part_of}
use Rattle.solo_view.specs.Changes.{store_change, or_change, and_change, flushed, drained}
use Rattle.solo_view.specs.Counts.{MayCount}
use Rattle.solo_view.specs.Founds.{FindsKnown, IsAlone}
use Rattle.solo_view.specs.Log.{Log, log_stored, log_changed}
use Rattle.solo_view.specs.Steps.{Step}
use Rattle.solo_view.specs.Steps.Step.{Store, Or, And, Flush, Drain}
use Rattle.solo_view.specs.View.{View}
use Rattle.solo_view.specs.Views.{after, changed, log_after_drain}
use Rattle.solo_memory.specs.Runs.{MadeOrStopped}
use Rattle.solo_memory.specs.Solo.{Solo, Sees, IsDue, IsSpent, counted, with_change, says_stopped}
use Rattle.solo_memory.specs.declared.lane_mem.Stopped.{Stopped}
use Rattle.solo_memory.proofs.Counting.{may_count, is_at_stop}
use Rattle.solo_memory.proofs.Seeing.{sees_changed, sees_recounted, sees_stopped}

pub stopped_instead : {T : Type 0} (m n : Solo) (s : T → Step) (result : Result T Stopped) → IsErr result → n ≡ says_stopped m → IsSpent m → MadeOrStopped (Sees m) (Sees n) s result
stopped_instead m n s (Ok answer) error is spent = absurd (search rules)
stopped_instead m n s (Err stopped) error is spent = λ v sees. (subst (λ (k : Solo). Sees k v) (sym is) (sees_stopped m v sees), is_at_stop m v sees spent)

module _ (m k n : Solo) (due : IsDue m) (fits : ForSome m.stop (λ stop. stop < 2 ^ 64)) (once : k ≡ counted m) where
  -- the call made this change of what it found
  made_change : (v : View) (c : Change) (x : ℕ) (log : Log) → n ≡ with_change k c x → Sees m v → Sees n (changed v c.word x c log)
  made_change v c x log is sees = subst (λ (memory : Solo). Sees memory (changed v c.word x c log)) (sym (is ∙ ap (λ (memory : Solo). with_change memory c x) once)) (sees_changed m v c x log due fits sees)

  found_by : (v : View) (w found : ℕ) → found ≡ slice_index k.words w → Sees m v → found ≡ slice_index v.words w
  found_by v w found is sees = is ∙ (ap (λ (memory : Solo). slice_index memory.words w) once ∙ ap (λ (words : List ℕ). slice_index words w) (sym sees.words))

  pub stored_made : (w x found : ℕ) (c : Change) → found ≡ slice_index k.words w → c ≡ store_change w found x → n ≡ with_change k c x → (v : View) → Sees m v → Sees n (after v (Store w x)) × Unit {0} × MayCount v × Unit {0}
  stored_made w x found c finds makes is v sees =
      let change : c ≡ store_change w (slice_index v.words w) x = makes ∙ ap (λ (old : ℕ). store_change w old x) (found_by v w found finds sees) in
      let log : Log = log_stored v.log.phase (part_of v.lane w) x v.log in
      (made_change v (store_change w (slice_index v.words w) x) x log (is ∙ ap (λ (d : Change). with_change k d x) change) sees, tt, may_count m v sees due fits, tt)

  pub or_made : (w bits found : ℕ) (c : Change) → found ≡ slice_index k.words w → c ≡ or_change w bits found → n ≡ with_change k c (bit_or found bits) → (v : View) → Sees m v → Sees n (after v (Or w bits found)) × FindsKnown v w found × MayCount v × (IsAlone v → found ≡ slice_index v.words w)
  or_made w bits found c finds makes is v sees = (
    made_change v (or_change w bits found) (bit_or found bits) (log_changed v.log.phase v.log) (is ∙ ap (λ (d : Change). with_change k d (bit_or found bits)) makes) sees,
    λ known. found_by v w found finds sees,
    may_count m v sees due fits,
    λ alone. found_by v w found finds sees,
  )

  pub and_made : (w bits found : ℕ) (c : Change) → found ≡ slice_index k.words w → c ≡ and_change w bits found → n ≡ with_change k c (bit_and found bits) → (v : View) → Sees m v → Sees n (after v (And w bits found)) × FindsKnown v w found × MayCount v × (IsAlone v → found ≡ slice_index v.words w)
  and_made w bits found c finds makes is v sees = (
    made_change v (and_change w bits found) (bit_and found bits) (log_changed v.log.phase v.log) (is ∙ ap (λ (d : Change). with_change k d (bit_and found bits)) makes) sees,
    λ known. found_by v w found finds sees,
    may_count m v sees due fits,
    λ alone. found_by v w found finds sees,
  )

  -- the call changed which changes are undrained
  made_again : (v : View) (f : List Change → List Change) (log : Log) → n ≡ record k { changes = f k.changes } → Sees m v → Sees n (record v { changes = f v.changes; calls = v.calls + 1; log = log })
  made_again v f log is sees =
      subst (λ (memory : Solo). Sees memory (record v { changes = f v.changes; calls = v.calls + 1; log = log })) (sym (is ∙ ap (λ (memory : Solo). record memory { changes = f memory.changes }) once)) (sees_recounted m v f log due fits sees)

  pub flushed_made : (line : ℕ) → n ≡ record k { changes = flushed line k.changes } → (v : View) → Sees m v → Sees n (after v (Flush line)) × Unit {0} × MayCount v × Unit {0}
  flushed_made line is v sees = (made_again v (flushed line) v.log is sees, tt, may_count m v sees due fits, tt)

  pub drained_made : n ≡ record k { changes = drained k.changes } → (v : View) → Sees m v → Sees n (after v Drain) × Unit {0} × MayCount v × Unit {0}
  drained_made is v sees = (made_again v drained (log_after_drain (drained v.changes) v) is sees, tt, may_count m v sees due fits, tt)
