-- Flushing line by line, and draining: what is made persistent.
use Rattle.std.proofs.Common.{◌≡◌, ◌≢◌, ℕ, zero, suc, ◌+◌, ◌<◌, ◌≤◌, Bool, true, false, not, ◌&&◌, eqb, List, [], ◌∷◌, map, length, take, slice_index, Some, None, Result, Ok, Err, refl, sym, ap, ◌∙◌, subst, IsErr, IsTrue, arith, rules}
use Rattle.std.proofs.lemmas.Bool.{cond-true, cond-false, lt-ltb, le-ltb}
use Rattle.std.proofs.Math.Dec.{ltb}
use Rattle.std.proofs.lemmas.Bool.Decides.{nat_tests}
use Rattle.std.proofs.lemmas.List.{take_all, length-map}
use Rattle.std.proofs.lemmas.List.Folds.{Any-from_list_any}
use Rattle.pm_memory.proofs.Runs.{stops_at_once}
use Rattle.pm_memory.specs.Runs.{Ran, Stops, MadeOrStopped}
use Rattle.pm_memory.specs.declared.lane_mem.Stopped.{Stopped}
use Rattle.pm_plan.proofs.Flushing.{few_unflushed, none_unflushed, first_unflushed, rest_unflushed}
use Rattle.pm_view.specs.Changes.{Undrained, is_in_line}
use Rattle.pm_view.specs.Counts.{FlushesSome, is_unflushed, unflushed_lines, IsFirstUnflushed, counted as calls_in}
use Rattle.pm_view.specs.Steps.Step.{Flush, Drain}
use Rattle.pm_view.specs.View.{View}
use Rattle.pm_view.specs.Views.{after, after_all}
use Rattle.pm_world.specs.Lawful.{Allowed}
use Rattle.pm_plan.specs.Plans.{flushes, drains, persists_all, makes_room, Ready, IsReady, Runs}

-- One flush more: the first line that is left is next in the sequence.
next_flush : (v : View) (lines : List ℕ) → unflushed_lines v.changes ≡ lines → (k line : ℕ) → k ≤ length lines → IsFirstUnflushed (after_all v (take k (map Flush lines))).changes (Some line)
    → (suc k ≤ length lines) × (after_all v (take (suc k) (map Flush lines)) ≡ after (after_all v (take k (map Flush lines))) (Flush line))
unfolding after_all
next_flush v [] is zero line within first = absurd (let e = sym (first_unflushed v.changes line first) ∙ is in search rules)
next_flush v (l ∷ lines) is zero line within first =
    let head : line ≡ l = ap (λ ls. slice_index ls 0) (sym (first_unflushed v.changes line first) ∙ is) in
    (omega arith, ap (λ n. after v (Flush n)) (sym head))
next_flush v [] is (suc k) line within first = absurd (omega (arith, within))
next_flush v (l ∷ lines) is (suc k) line within first =
    let rest = next_flush (after v (Flush l)) lines (rest_unflushed v.changes l lines is) k line (omega (arith, within)) first in
    (let more = rest.0 in omega (arith, more), rest.1)

-- With no line left the sequence is made.
last_flush : (v : View) (lines : List ℕ) → unflushed_lines v.changes ≡ lines → (k : ℕ) → k ≤ length lines → IsFirstUnflushed (after_all v (take k (map Flush lines))).changes None → length lines ≤ k
unfolding after_all
last_flush v [] is k within none = omega arith
last_flush v (l ∷ lines) is zero within none = absurd (let e = sym is ∙ none_unflushed v.changes none in search rules)
last_flush v (l ∷ lines) is (suc k) within none =
    let rest = last_flush (after v (Flush l)) lines (rest_unflushed v.changes l lines is) k (omega (arith, within)) none in omega (arith, rest)

pub may_flush : (changes : List Undrained) (line : ℕ) → is_unflushed changes line ≡ true → FlushesSome line changes
may_flush changes line is =
    let a = Any-from_list_any (λ (c : Undrained). is_in_line line c && not c.flushed) changes is in
    (a.0, a.1, a.2, a.3, parts (is_in_line line a.1) a.1.flushed a.4) where
      parts : (here flushed : Bool) → (here && not flushed) ≡ true → IsTrue here × (flushed ≡ false)
      parts true true e = absurd cc
      parts true false e = (search rules, refl)
      parts false flushed e = absurd cc

-- each flush is a repeated call
flushes_count : (lines : List ℕ) (m : ℕ) → m ≤ length lines → calls_in (take m (map Flush lines)) ≡ m
unfolding calls_in
flushes_count lines zero few = refl
flushes_count [] (suc m) few = absurd (omega arith)
flushes_count (line ∷ lines) (suc m) few = let rest = flushes_count lines m (omega (arith, few)) in omega (arith, rest)

-- so many flushes are made of those that are due
abbrev pub HasFlushed : (View → Type 0) → (View → Type 0) → ℕ → Type 0
HasFlushed old mid k = (v : View) → old v → mid (after_all v (take k (flushes v))) × (k ≤ length (flushes v))

pub flushed_none : (old : View → Type 0) → HasFlushed old old 0
unfolding after_all
flushed_none old v seen = (seen, omega arith)

module _ (old mid : View → Type 0) (k : ℕ) (has : HasFlushed old mid k) where
  module _ (line : ℕ) (first : (v : View) → mid v → IsFirstUnflushed v.changes (Some line)) where
    pub may_flush_next : IsReady old flushes → (v : View) × (mid v × Allowed v (Flush line))
    unfolding IsReady
    may_flush_next r =
        let v : View = r.0 in
        let seen = (has v r.1.0).0 in
        (after_all v (take k (flushes v)), (seen, may_flush (after_all v (take k (flushes v))).changes line (first _ seen).0))

    next : (v : View) → old v → (suc k ≤ length (flushes v)) × (after_all v (take (suc k) (flushes v)) ≡ after (after_all v (take k (flushes v))) (Flush line))
    unfolding flushes
    next v seen =
        let there = has v seen in
        let many = length-map (unflushed_lines v.changes) Flush in
        let within = there.1 in
        let n = next_flush v (unflushed_lines v.changes) refl k line (omega (arith, many, within)) (first _ there.0) in
        (let more = n.0 in omega (arith, many, more), n.1)

    pub flushed_more : {T : Type 0} (new : View → Type 0) (answer : T) → MadeOrStopped Allowed mid new (λ _. Flush line) (Ok answer) → HasFlushed old new (k + 1)
    flushed_more new answer made v seen =
        let n = next v seen in
        subst (λ m. new (after_all v (take m (flushes v))) × (m ≤ length (flushes v))) (let e : suc k ≡ k + 1 = omega arith in e)
        (subst new (sym n.1) (made (after_all v (take k (flushes v))) (has v seen).0 (may_flush (after_all v (take k (flushes v))).changes line (first _ (has v seen).0).0)).0, n.0)

    pub flush_stopped : {U : Type 0} (T : Type 0) (new : View → Type 0) (stopped : Stopped) (result : Result U Stopped) → IsErr result → MadeOrStopped {T = T} Allowed mid new (λ _. Flush line) (Err stopped) → Runs old new flushes result
    unfolding Runs flushes
    flush_stopped T new stopped (Ok answer) error made v seen r = absurd (search rules)
    flush_stopped T new stopped (Err e) error made v seen r =
        let m = made (after_all v (take k (flushes v))) (has v seen).0 in
        let more = (next v seen).0 in
        let many = length-map (unflushed_lines v.changes) Flush in
        let now : calls_in (take k (map Flush (unflushed_lines v.changes))) ≡ k = flushes_count (unflushed_lines v.changes) k (omega (arith, many, more)) in
        let then : calls_in (take (k + 1) (map Flush (unflushed_lines v.changes))) ≡ k + 1 = flushes_count (unflushed_lines v.changes) (k + 1) (omega (arith, many, more)) in
        record { made = k; fewer = omega (arith, more); seen = m.0; stopped = m.1; due = omega (arith, now, then) }

  pub flushed_all : {T : Type 0} (answer : T) → (n : ℕ) → n ≤ k → ((v : View) → old v → n ≡ length v.changes) → Runs old mid flushes (Ok answer)
  unfolding Runs flushes
  flushed_all answer n done counts v seen r =
      let many = length-map (unflushed_lines v.changes) Flush in
      let few = few_unflushed v.changes in
      let is = counts v seen in
      subst (λ steps. mid (after_all v steps)) (take_all k (map Flush (unflushed_lines v.changes)) (omega (arith, many, few, is, done))) (has v seen).0

  pub flushed_up : {T : Type 0} (answer : T) → ((v : View) → mid v → IsFirstUnflushed v.changes None) → Runs old mid flushes (Ok answer)
  unfolding Runs flushes
  flushed_up answer none v seen r =
      let many = length-map (unflushed_lines v.changes) Flush in
      let there = has v seen in
      let within = there.1 in
      let most = last_flush v (unflushed_lines v.changes) refl k (omega (arith, many, within)) (none _ there.0) in
      subst (λ steps. mid (after_all v steps)) (take_all k (map Flush (unflushed_lines v.changes)) (omega (arith, many, most))) there.0

module _ (old : View → Type 0) (n : ℕ) (counts : (v : View) → old v → n ≡ length v.changes) where
  -- nothing is undrained
  pub drains_nothing : {T : Type 0} (answer : T) → n ≡ 0 → Runs old old drains (Ok answer)
  unfolding Runs drains after_all
  drains_nothing answer none v seen r =
      let is : eqb (length v.changes) 0 ≡ true = (let c = counts v seen in grind (arith, nat_tests)) in
      subst (λ steps. old (after_all v steps)) (sym (cond-true (eqb (length v.changes) 0) [] (Drain ∷ []) is)) seen

  some_undrained : n ≢ 0 → (v : View) → old v → drains v ≡ Drain ∷ []
  unfolding drains
  some_undrained some v seen = cond-false (eqb (length v.changes) 0) [] (Drain ∷ []) (let c = counts v seen in grind (arith, nat_tests))

  allowed : n ≢ 0 → (v : View) → old v → Ready v (drains v) → Allowed v Drain
  unfolding Ready
  allowed some v seen r = (subst (Ready v) (some_undrained some v seen) r).0

  pub may_drain : n ≢ 0 → IsReady old drains → (v : View) × (old v × Allowed v Drain)
  unfolding IsReady
  may_drain some r = (r.0, (r.1.0, allowed some r.0 r.1.0 r.1.1))

  pub drains_once : {T : Type 0} (new : View → Type 0) (result : Result T Stopped) → n ≢ 0 → MadeOrStopped Allowed old new (λ _. Drain) result → Runs old new drains result
  unfolding Runs after_all
  drains_once new (Ok answer) some made v seen r = subst (λ steps. new (after_all v steps)) (sym (some_undrained some v seen)) (made v seen (allowed some v seen r)).0
  drains_once new (Err stopped) some made v seen r =
      let m = made v seen in
      subst (Stops new v) (sym (some_undrained some v seen)) (stops_at_once new v Drain [] tt m.0 m.1)

  -- there is room
  pub makes_none : {T : Type 0} (answer : T) → n < 512 → Runs old old makes_room (Ok answer)
  unfolding Runs makes_room after_all
  makes_none answer few v seen r =
      let is : ltb (length v.changes) 512 ≡ true = lt-ltb (length v.changes) 512 (let c = counts v seen in omega (arith, c, few)) in
      subst (λ steps. old (after_all v steps)) (sym (cond-true (ltb (length v.changes) 512) [] (persists_all v) is)) seen

  all_full : 512 ≤ n → (v : View) → old v → makes_room v ≡ persists_all v
  unfolding makes_room
  all_full full v seen = cond-false (ltb (length v.changes) 512) [] (persists_all v) (le-ltb (length v.changes) 512 (let c = counts v seen in omega (arith, c, full)))

  pub room_ready : 512 ≤ n → IsReady old makes_room → IsReady old persists_all
  unfolding IsReady
  room_ready full r = (r.0, (r.1.0, subst (Ready r.0) (all_full full r.0 r.1.0) r.1.1))

  pub room_runs : {T : Type 0} (new : View → Type 0) (result : Result T Stopped) → 512 ≤ n → Runs old new persists_all result → Runs old new makes_room result
  unfolding Runs
  room_runs new result full runs v seen r =
      subst (λ steps. Ran new v steps result) (sym (all_full full v seen)) (runs v seen (subst (Ready v) (all_full full v seen) r))
