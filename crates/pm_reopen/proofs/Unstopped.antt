-- What a stop number leaves is what the first calls leave without one, and the recovered image where it lets all be made.
use Rattle.std.proofs.Common.{◌≡◌, ℕ, ◌/◌, ◌≤◌, Bool, true, false, cond, leb, List, [], ◌∷◌, length, take, set, Some, None, refl, ◌∙◌, ap, subst, sym}
use Rattle.std.proofs.lemmas.Bool.{leb-true}
use Rattle.std.proofs.lemmas.List.{take_all}
use Rattle.pm_record.specs.declared.redo.Op.{Op}
use Rattle.pm_record.specs.declared.redo.Op.TheVariants as op
use Rattle.pm_objects.specs.declared.pool.PoolView.{PoolView}
use Rattle.pm_image.specs.Means.{IsMeaning}
use Rattle.pm_view.specs.declared.change.Change.{Change as ChangeOf}
use Rattle.pm_memory.specs.Changes.{changes_drained, changes_flushed}
use Rattle.pm_memory.specs.Keep.{kept}
use Rattle.pm_memory.specs.Solo.{Solo, opened}
use Rattle.pm_memory.specs.Survivors.{Survives}
use Rattle.pm_recover.specs.Recovery.{IsRecovered}
use Rattle.pm_reopen.specs.Plan.{MemoryCall, plan}
use Rattle.pm_reopen.specs.Plan.MemoryCall.{Change, Drain, Flush}
use Rattle.pm_reopen.specs.Premise.{HasWords, IsRecoverable}
use Rattle.pm_reopen.specs.declared.end.RecoverEnd.{RecoverEnd}
use Rattle.pm_reopen.specs.declared.end.RecoverEnd.TheVariants.{Stopped, Whole}
use Rattle.pm_reopen.specs.Ends.{end_of}
use Rattle.pm_reopen.specs.Running.{words_left, IsLeft, MayRemain, after_call, after_calls, after_change, recovering}
use Rattle.pm_reopen.proofs.Counting.{call_long}
use Rattle.pm_reopen.proofs.AllLanes.{recovered_again}
use Rattle.pm_reopen.proofs.Stopping.{kept_drained}
use Rattle.pm_reopen.proofs.WholeRecovery.{reached_all, recoverable_again, whole_recovers}

record SameHeld (a b : Solo) : Type 0 where
  words : a.words ≡ b.words
  changes : a.changes ≡ b.changes

same_change : (o : Op) (a b : Solo) (w x : ℕ) → SameHeld a b → SameHeld (after_change o a w x) (after_change o b w x)
same_change op.Set a b w x same = record { words = ap (λ (ws : List ℕ). set ws w x) same.words; changes = (λ j. (after_change op.Set (record a { words = same.words j; changes = same.changes j }) w x).changes) }
same_change op.Or a b w x same = record { words = (λ j. (after_change op.Or (record a { words = same.words j; changes = same.changes j }) w x).words); changes = (λ j. (after_change op.Or (record a { words = same.words j; changes = same.changes j }) w x).changes) }
same_change op.And a b w x same = record { words = (λ j. (after_change op.And (record a { words = same.words j; changes = same.changes j }) w x).words); changes = (λ j. (after_change op.And (record a { words = same.words j; changes = same.changes j }) w x).changes) }

same_call : (a b : Solo) (c : MemoryCall) → SameHeld a b → SameHeld (after_call a c) (after_call b c)
same_call a b (Change e) same = same_change e.op a b (e.place / 8) e.value same
same_call a b (Flush line) same = record { words = same.words; changes = ap (changes_flushed line) same.changes }
same_call a b Drain same = record { words = same.words; changes = ap changes_drained same.changes }

same_calls : (a b : Solo) (xs : List MemoryCall) → SameHeld a b → SameHeld (after_calls a xs) (after_calls b xs)
unfolding after_calls
same_calls a b [] same = same
same_calls a b (x ∷ xs) same = same_calls (after_call a x) (after_call b x) xs (same_call a b x same)

pub left_remains : (image : List ℕ) (lanes stop keep : ℕ) (left : List ℕ) → IsLeft image lanes stop keep left → MayRemain image lanes stop left
left_remains image lanes stop keep left is =
    let m : Solo = recovering image lanes (Some stop) stop in
    let same : SameHeld (recovering image lanes (Some stop) stop) (recovering image lanes None stop) = same_calls (opened image (Some stop)) (opened image None) (take stop (plan image lanes)) (record { words = refl; changes = refl }) in
    let here : Survives m.words (m.changes ∷ []) left = record { choice = kept keep (Rattle.std.specs.Prelude.length m.words) (m.changes ∷ []); is = is } in
    subst (λ (cs : List ChangeOf). Survives (recovering image lanes None stop).words (cs ∷ []) left) same.changes
    (subst (λ (ws : List ℕ). Survives ws (m.changes ∷ []) left) same.words here)

pub left_again : (image : List ℕ) (pool : PoolView) (stop keep : ℕ) (left : List ℕ) → IsRecoverable image pool → IsLeft image pool.lanes stop keep left → IsRecoverable left pool
left_again image pool stop keep left r is = recovered_again image left pool stop r (left_remains image pool.lanes stop keep left is)

-- an end that says whole comes where the stop number lets all be made
all_made_if : (n stop calls : ℕ) → end_of n stop ≡ Whole calls → n ≤ stop
all_made_if n stop calls = go (leb n stop) refl where
  go : (b : Bool) → leb n stop ≡ b → cond b (Whole n) (Stopped stop) ≡ Whole calls → n ≤ stop
  go true most is = leb-true n stop most
  go false past is = absurd (let clash : Stopped stop ≡ Whole calls = is in cc)

left_whole_by : (image : List ℕ) (pool : PoolView) (stop keep : ℕ) (left : List ℕ) → HasWords image → IsMeaning image pool → length (plan image pool.lanes) ≤ stop
    → IsLeft image pool.lanes stop keep left → left ≡ words_left image pool.lanes
left_whole_by image pool stop keep left words means most is =
    let m : Solo = recovering image pool.lanes (Some stop) stop in
    let all : take stop (plan image pool.lanes) ≡ plan image pool.lanes = take_all stop (plan image pool.lanes) most in
    let same : SameHeld (recovering image pool.lanes (Some stop) stop) (after_calls (opened image None) (plan image pool.lanes)) =
    subst (λ (cs : List MemoryCall). SameHeld (recovering image pool.lanes (Some stop) stop) (after_calls (opened image None) cs)) all
    (same_calls (opened image (Some stop)) (opened image None) (take stop (plan image pool.lanes)) (record { words = refl; changes = refl })) in
    let none : m.changes ≡ [] = same.changes ∙ (reached_all image pool words means).drained in
    kept_drained keep m left none is ∙ same.words

pub whole_recovered : (image : List ℕ) (pool : PoolView) (stop keep calls : ℕ) (end : RecoverEnd) (left : List ℕ) → HasWords image → IsMeaning image pool
    → end ≡ end_of (length (plan image pool.lanes)) stop → end ≡ Whole calls → IsLeft image pool.lanes stop keep left → IsRecovered image left pool.lanes × IsRecoverable left pool
whole_recovered image pool stop keep calls end left words means ends whole is =
    let left_is : left ≡ words_left image pool.lanes = left_whole_by image pool stop keep left words means (all_made_if (length (plan image pool.lanes)) stop calls (sym ends ∙ whole)) is in (
      subst (λ (ws : List ℕ). IsRecovered image ws pool.lanes) (sym left_is) (whole_recovers image pool words means),
      recoverable_again image left pool words means left_is,
    )

-- no call makes a word more
calls_long : (m : Solo) (xs : List MemoryCall) → length (after_calls m xs).words ≡ length m.words
unfolding after_calls
calls_long m [] = refl
calls_long m (x ∷ xs) = calls_long (after_call m x) xs ∙ call_long m x

pub left_long : (image : List ℕ) (lanes stop keep : ℕ) (left : List ℕ) → IsLeft image lanes stop keep left → length left ≡ length image
left_long image lanes stop keep left is = is.size ∙ calls_long (opened image (Some stop)) (take stop (plan image lanes))
