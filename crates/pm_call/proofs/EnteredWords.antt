-- PENDING WORDS BECOME ENTRIES, one for each: they have places, and room.
use Rattle.std.proofs.Common.{◌≡◌, ℕ, zero, suc, ◌+◌, ◌<◌, ◌≤◌, true, List, [], ◌∷◌, ◌++◌, length, length-append, map, slice_index_or, take, refl, sym, ap, ◌∙◌, arith}
use Rattle.std.specs.List.{AllByRecursion}
use Rattle.std.proofs.lemmas.List.{append-nil, append_assoc, length-take-le}
use Rattle.pm_model.specs.Pending.{SetWord}
use Rattle.pm_objects.specs.declared.ids.Oid.{Oid}
use Rattle.pm_record.specs.declared.redo.Redo.{Redo}
use Rattle.pm_world.specs.LaneFields.{Standing}
use Rattle.pm_world.specs.declared.lane.PendingAction.{PendingAction}
use Rattle.pm_world.specs.declared.lane.PendingAction.TheVariants as action
use Rattle.pm_call.specs.At.{At, set_entry}
use Rattle.pm_call.specs.Publishing.{HasWord}
use Rattle.pm_call.specs.Waiting.{listed_set}
use Rattle.pm_call.proofs.LockedRanges.{range_low}
use Rattle.pm_call.specs.Entering.{HasPlace, entries_of, entry_of}

entry_few : (x : PendingAction) → length (entry_of x) ≤ 1
entry_few action.None = omega arith
entry_few (action.Reserved off size kind) = omega arith
entry_few (action.Freed id) = omega arith
entry_few (action.Set id off value) = omega arith

-- no more entries than actions
entries_few : (xs : List PendingAction) → length (entries_of xs) ≤ length xs
entries_few [] = omega arith
entries_few (x ∷ xs) =
    let few = entry_few x in
    let rest = entries_few xs in
    let e = length-append (entry_of x) (entries_of xs) in
    omega (arith, few, rest, e)

pub entries_so_few : (xs : List PendingAction) (i : ℕ) → i ≤ length xs
    → length (entries_of (take i xs)) ≤ i
entries_so_few xs i low =
    let few = entries_few (take i xs) in
    let e = length-take-le i xs low in
    omega (arith, few, e)

-- ---- the entries of the first so many, and of one more

abbrev at_index : List PendingAction → ℕ → PendingAction
at_index xs i = slice_index_or xs i action.None

one_more : (xs : List PendingAction) (i : ℕ) → i < length xs
    → entries_of (take (suc i) xs) ≡ entries_of (take i xs) ++ entry_of (at_index xs i)
one_more [] i low = absurd (omega (arith, low))
one_more (x ∷ xs) zero low = append-nil (entry_of x)
one_more (x ∷ xs) (suc i) low =
    ap (λ es. entry_of x ++ es) (one_more xs i (omega (arith, low)))
    ∙ sym (append_assoc (entry_of x) (entries_of (take i xs)) (entry_of (at_index xs i)))

module _ (old so_far : List Redo) (xs : List PendingAction) (i : ℕ) (low : i < length xs)
    (are : so_far ≡ old ++ entries_of (take i xs)) where
  more : so_far ++ entry_of (at_index xs i) ≡ old ++ entries_of (take (i + 1) xs)
  more = ap (λ es. es ++ entry_of (at_index xs i)) are
      ∙ (append_assoc old (entries_of (take i xs)) (entry_of (at_index xs i))
      ∙ ap (λ es. old ++ es) (sym (one_more xs i low)
      ∙ ap (λ n. entries_of (take n xs)) (let e : suc i ≡ i + 1 = omega arith in e)))

  -- a word is one more
  pub word_entered : (id : Oid) (off value : ℕ)
      → slice_index_or xs i action.None ≡ action.Set id off value
      → so_far ++ set_entry (record { id = id; off = off; value = value }) ∷ []
      ≡ old ++ entries_of (take (i + 1) xs)
  word_entered id off value is = ap (λ x. so_far ++ entry_of x) (sym is) ∙ more

  -- any other action is none
  pub none_entered : ((id : Oid) (off value : ℕ)
      → slice_index_or xs i action.None ≡ action.Set id off value → ⊥)
      → so_far ≡ old ++ entries_of (take (i + 1) xs)
  none_entered never = sym (append-nil so_far)
      ∙ (ap (λ es. so_far ++ es) (sym (nothing (at_index xs i) never)) ∙ more)
    where
      nothing : (x : PendingAction)
          → ((id : Oid) (off value : ℕ) → x ≡ action.Set id off value → ⊥) → entry_of x ≡ []
      nothing (action.Set id off value) never = absurd (never id off value refl)
      nothing action.None never = refl
      nothing (action.Reserved off size kind) never = refl
      nothing (action.Freed id) never = refl

-- ---- of words alone

pub entries_are : (words : List SetWord)
    → entries_of (map listed_set words) ≡ map set_entry words
entries_are [] = refl
entries_are (a ∷ words) = ap (λ es. set_entry a ∷ es) (entries_are words)

pub have_places : (s : Standing) → At s → (words : List SetWord) → AllByRecursion (HasWord s) words
    → AllByRecursion HasPlace (map listed_set words)
have_places s at [] all = tt
have_places s at (a ∷ words) all = (
  let l = range_low s at a.id a.off 8 true all.0 in omega (arith, l),
  have_places s at words all.1,
)
