-- How many calls were made, and where the stop number cut them off.
use Rattle.std.proofs.Common.{◌≡◌, inl, inr, ℕ, suc, ◌+◌, ◌-◌, ◌/◌, ◌%◌, ◌^◌, ◌<◌, ◌≤◌, Bool, cond, List, [], ◌∷◌, length, take, drop, slice_index, Option, Some, None, refl, sym, ◌∙◌, ap, subst, arith}
use Rattle.std.specs.Option.{ForSome}
use Rattle.std.proofs.lemmas.Bool.{le-leb, lt-leb}
use Rattle.std.proofs.lemmas.List.{drop_all, ext_get_or, take_all}
use Rattle.pm_view.specs.declared.change.Change.{Change as Change_}
use Rattle.pm_memory.specs.Changes.{changes_of}
use Rattle.pm_memory.specs.Survivors.{all_taken_back}
use Rattle.pm_record.specs.declared.redo.Op.{Op}
use Rattle.pm_record.specs.declared.redo.Op.TheVariants as op
use Rattle.pm_memory.specs.Keep.{IsKeptImage, kept}
use Rattle.pm_memory.specs.Solo.{Solo, IsDue, IsSpent, opened, says_stopped}
use Rattle.pm_reopen.specs.declared.end.RecoverEnd.{RecoverEnd}
use Rattle.pm_reopen.specs.declared.end.RecoverEnd.TheVariants as end
use Rattle.pm_reopen.specs.Plan.{MemoryCall, plan}
use Rattle.pm_reopen.specs.Plan.MemoryCall.{Change, Flush, Drain}
use Rattle.pm_reopen.specs.Ends.{calls_of, end_of}
use Rattle.pm_reopen.specs.Running.{Halts, IsLeft, Makes, after_call, after_calls, after_change, words_left, recovering}
use Rattle.pm_reopen.specs.Steps.{Leaves, Ran}
use Rattle.pm_reopen.proofs.Making.{makes_is}

-- a call is counted, and leaves the stop number
change_counted : (o : Op) (m : Solo) (w x : ℕ) → ((after_change o m w x).calls ≡ (m.calls + 1) % 2 ^ 64) × ((after_change o m w x).stop ≡ m.stop)
change_counted op.Set m w x = (refl, refl)
change_counted op.Or m w x = (refl, refl)
change_counted op.And m w x = (refl, refl)

pub call_counted : (m : Solo) (c : MemoryCall) → ((after_call m c).calls ≡ (m.calls + 1) % 2 ^ 64) × ((after_call m c).stop ≡ m.stop)
call_counted m (Change e) = change_counted e.op m (e.place / 8) e.value
call_counted m (Flush line) = (refl, refl)
call_counted m Drain = (refl, refl)

due_below : (m : Solo) (stop : ℕ) → m.stop ≡ Some stop → IsDue m → m.calls < stop
due_below m stop is due = due stop is

spent_from : (m : Solo) (stop : ℕ) → m.stop ≡ Some stop → IsSpent m → stop ≤ m.calls
spent_from m stop is spent = subst (λ (o : Option ℕ). Rattle.std.specs.Prelude.IsSomeAnd o (λ s. s ≤ m.calls)) is spent

next_calls : (m : Solo) (c : MemoryCall) (stop : ℕ) → stop < 2 ^ 64 → m.stop ≡ Some stop → IsDue m → (after_call m c).calls ≡ m.calls + 1
next_calls m c stop fits is due = let below = due_below m stop is due in let counted = (call_counted m c).0 in omega (arith, below, counted, fits)

-- all were made: so many, and the stop number lets them
pub makes_counted : (a b : Solo) (xs : List MemoryCall) (stop : ℕ) → stop < 2 ^ 64 → a.stop ≡ Some stop → a.calls ≤ stop → Makes a b xs → (b.calls ≡ a.calls + length xs) × (a.calls + length xs ≤ stop)
unfolding Makes
makes_counted a b [] stop fits is most made = let same = ap (λ (m : Solo). m.calls) made in (omega (arith, same), omega (arith, most))
makes_counted a b (x ∷ xs) stop fits is most made =
    let next = next_calls a x stop fits is made.0 in
    let below = due_below a stop is made.0 in
    let rest = makes_counted (after_call a x) b xs stop fits ((call_counted a x).1 ∙ is) (omega (arith, next, below)) made.1 in
    (omega (arith, next, rest.0), omega (arith, next, rest.1))

-- the first were made, as many as the stop number lets, and there are more
pub record HaltsAt (a b : Solo) (xs : List MemoryCall) (stop : ℕ) : Type 0 where
  pub more : stop < a.calls + length xs
  pub calls : b.calls ≡ stop
  pub is : b ≡ says_stopped (after_calls a (take (stop - a.calls) xs))

pub halts_counted : (a b : Solo) (xs : List MemoryCall) (stop : ℕ) → stop < 2 ^ 64 → a.stop ≡ Some stop → a.calls ≤ stop → Halts a b xs → HaltsAt a b xs stop
unfolding Halts after_calls
halts_counted a b [] stop fits is most stops = absurd stops
halts_counted a b (x ∷ xs) stop fits is most (inl here) =
    let from = spent_from a stop is here.0 in
    let same = ap (λ (m : Solo). m.calls) here.1 in
    let none : stop - a.calls ≡ 0 = omega (arith, from, most) in
    record {
      more = omega (arith, from, most);
      calls = omega (arith, same, from, most);
      is = here.1 ∙ ap (λ (n : ℕ). says_stopped (after_calls a (take n (x ∷ xs)))) (sym none);
    }
halts_counted a b (x ∷ xs) stop fits is most (inr later) =
    let next = next_calls a x stop fits is later.0 in
    let below = due_below a stop is later.0 in
    let rest : HaltsAt (after_call a x) b xs stop = halts_counted (after_call a x) b xs stop fits ((call_counted a x).1 ∙ is) (omega (arith, next, below)) later.1 in
    let more = rest.more in
    let left : stop - a.calls ≡ suc (stop - (after_call a x).calls) = omega (arith, next, below) in
    record {
      more = omega (arith, more, next);
      calls = rest.calls;
      is = rest.is ∙ ap (λ (n : ℕ). says_stopped (after_calls a (take n (x ∷ xs)))) (sym left);
    }

-- ---- a recovery with a stop number

module _ (image : List ℕ) (lanes stop keep : ℕ) (fits : stop < 2 ^ 64) where
  abbrev calls : List MemoryCall
  calls = plan image lanes

  abbrev first : Solo
  first = opened image (Some stop)

  ends_so : (m : Solo) (e : RecoverEnd) → Ran image lanes (Some stop) m e → e ≡ end_of (length (plan image lanes)) stop
  ends_so m (end.Whole n) ran =
      let counted = makes_counted first m calls stop fits refl (omega arith) ran.0 in
      let same : n ≡ length calls = (let is = ran.1 in let all = counted.0 in omega (arith, is, all)) in
      ap end.Whole same ∙ sym (ap (λ (b : Bool). cond b (end.Whole (length calls)) (end.Stopped stop)) (le-leb (length calls) stop (let most = counted.1 in omega (arith, most))))
  ends_so m (end.Stopped n) ran =
      let halted : HaltsAt first m calls stop = halts_counted first m calls stop fits refl (omega arith) ran.0 in
      ap end.Stopped (ran.1 ∙ halted.calls) ∙ sym (ap (λ (b : Bool). cond b (end.Whole (length calls)) (end.Stopped stop)) (lt-leb (length calls) stop (let more = halted.more in omega (arith, more))))

  left_so : (m : Solo) (e : RecoverEnd) (left : List ℕ) → Ran image lanes (Some stop) m e → IsKeptImage keep m.words (m.changes ∷ []) left → IsLeft image lanes stop keep left
  left_so m (end.Whole n) left ran kept =
      let counted = makes_counted first m calls stop fits refl (omega arith) ran.0 in
      let is : m ≡ recovering image lanes (Some stop) stop = makes_is first m calls ran.0 ∙ ap (after_calls first) (sym (take_all stop calls (let most = counted.1 in omega (arith, most)))) in
      subst (λ (x : Solo). IsKeptImage keep x.words (x.changes ∷ []) left) is kept
  left_so m (end.Stopped n) left ran kept =
      let halted : HaltsAt first m calls stop = halts_counted first m calls stop fits refl (omega arith) ran.0 in
      let whole : stop - 0 ≡ stop = omega arith in
      let is : m ≡ says_stopped (recovering image lanes (Some stop) stop) = halted.is ∙ ap (λ (j : ℕ). says_stopped (after_calls first (take j calls))) whole in
      subst (λ (x : Solo). IsKeptImage keep x.words (x.changes ∷ []) left) is kept

  pub left_ends : (e : RecoverEnd) (left : List ℕ) → Leaves image lanes (Some stop) keep e left → e ≡ end_of (length (plan image lanes)) stop
  left_ends e left leaves = ends_so leaves.memory e leaves.ran

  pub left_is : (e : RecoverEnd) (left : List ℕ) → Leaves image lanes (Some stop) keep e left → IsLeft image lanes stop keep left
  left_is e left leaves = left_so leaves.memory e left leaves.ran leaves.is

-- ---- a recovery without one

never_halts : (a b : Solo) (xs : List MemoryCall) → a.stop ≡ None → Halts a b xs → ⊥
unfolding Halts
never_halts a b [] none stops = stops
never_halts a b (x ∷ xs) none (inl here) = subst (λ (o : Option ℕ). Rattle.std.specs.Prelude.IsSomeAnd o (λ s. s ≤ a.calls)) none here.0
never_halts a b (x ∷ xs) none (inr later) = never_halts (after_call a x) b xs ((call_counted a x).1 ∙ none) later.1

pub kept_drained : (keep : ℕ) (m : Solo) (left : List ℕ) → m.changes ≡ [] → IsKeptImage keep m.words (m.changes ∷ []) left → left ≡ m.words
kept_drained keep m left none image =
    ext_get_or 0 left m.words image.size (λ i near.
    let long = image.size in
    image.each i (omega (arith, near, long))
    ∙ ap (λ (cs : List Change_). all_taken_back (drop (kept_of keep m i) (changes_of i cs)) (slice_index m.words i)) none
    ∙ ap (λ (cs : List Change_). all_taken_back cs (slice_index m.words i)) (drop_all (kept_of keep m i) [] (omega arith)))
  where
    kept_of : ℕ → Solo → ℕ → ℕ
    kept_of k n w = kept k (length n.words) (n.changes ∷ []) 0 w

pub left_whole : (image : List ℕ) (lanes keep : ℕ) (e : RecoverEnd) (left : List ℕ) → Leaves image lanes None keep e left → left ≡ words_left image lanes
left_whole image lanes keep e left leaves = by_end e leaves.ran where
  by_end : (f : RecoverEnd) → Ran image lanes None leaves.memory f → left ≡ words_left image lanes
  by_end (end.Whole n) ran =
      kept_drained keep leaves.memory left ran.2 leaves.is
      ∙ ap (λ (m : Solo). m.words) (makes_is (opened image None) leaves.memory (plan image lanes) ran.0)
  by_end (end.Stopped n) ran = absurd (never_halts (opened image None) leaves.memory (plan image lanes) refl ran.0)

-- so many calls are counted, where they are fewer than a number of 64 bits counts
makes_all : (a b : Solo) (xs : List MemoryCall) → a.calls + length xs < 2 ^ 64 → Makes a b xs → b.calls ≡ a.calls + length xs
unfolding Makes
makes_all a b [] fits made = let same = ap (λ (m : Solo). m.calls) made in omega (arith, same)
makes_all a b (x ∷ xs) fits made =
    let counted = (call_counted a x).0 in
    let next : (after_call a x).calls ≡ a.calls + 1 = omega (arith, counted, fits) in
    let rest = makes_all (after_call a x) b xs (omega (arith, next, fits)) made.1 in
    omega (arith, next, rest)

pub whole_calls : (image : List ℕ) (lanes keep : ℕ) (e : RecoverEnd) (left : List ℕ) → length (plan image lanes) < 2 ^ 64 → Leaves image lanes None keep e left → calls_of e ≡ length (plan image lanes)
whole_calls image lanes keep e left fits leaves = by_end e leaves.ran where
  by_end : (f : RecoverEnd) → Ran image lanes None leaves.memory f → calls_of f ≡ length (plan image lanes)
  by_end (end.Whole n) ran = let all = makes_all (opened image None) leaves.memory (plan image lanes) (omega (arith, fits)) ran.0 in let is = ran.1 in omega (arith, all, is)
  by_end (end.Stopped n) ran = absurd (never_halts (opened image None) leaves.memory (plan image lanes) refl ran.0)
