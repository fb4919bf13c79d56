-- A block of ORs, and one more entry, are applied one after another.
use Rattle.std.proofs.Common.{slice_index_or, ◌≡◌, ℕ, ◌<◌, ◌/◌, List, refl, sym, ap, ◌∙◌, subst, Ok}
use Rattle.std.proofs.lemmas.List.{get_or-replicate}
use Rattle.pm_record.specs.declared.redo.Redo.{Redo}
use Rattle.pm_view.specs.View.{View}
use Rattle.pm_plan.specs.Plans.{IsReady, IsReadyFor, Plan, Runs, RunsFor, in_turn, ors, persists_all, repeated, stores}
use Rattle.pm_plan.proofs.Plans.{ready_first, ready_then, runs_then}
use Rattle.pm_redo.specs.Entries.{entry_at, no_entry}
use Rattle.pm_redo.specs.Plans.{applies_all, applies_each, applies_entry}
use Rattle.pm_redo.proofs.Finds.{set_is, told_next, told_ready, told_then}
use Rattle.pm_lane_bench.specs.Calls.{AreOrs, or_listed, ors_before, ors_listed}

-- each of the block is the same OR
pub or_here : (k x : ℕ) → k < 32 → applies_entry (entry_at ors_listed k) x ≡ ors 3080 1 x
unfolding applies_entry
or_here k x low = ap (λ e. applies_entry e x) (get_or-replicate 32 k or_listed no_entry low)

-- after the block comes the store of the last entry
each_is : (last : Redo) (found : ℕ → ℕ) → applies_each (ors_before last) found ≡ in_turn
    (applies_each ors_listed found) (applies_entry last (found 32))
unfolding applies_each repeated
each_is last found = refl

module _ (old : View → Type 0) (entries : List Redo) (are : AreOrs entries)
    (ready : IsReadyFor old (applies_all entries)) where
  abbrev here : Redo
  here = slice_index_or entries 32 no_entry

  here_is : here ≡ are.last
  here_is = ap (λ es. slice_index_or es 32 no_entry) are.are

  abbrev last_store : Plan
  last_store = stores (here.place / 8) here.value

  each_so : (found : ℕ → ℕ) → applies_each entries found ≡ in_turn
      (applies_each ors_listed found) last_store
  each_so found = ap (λ es. applies_each es found) are.are ∙ (each_is are.last found
      ∙ (ap (in_turn (applies_each ors_listed found)) (set_is are.last (found 32) are.sets)
      ∙ ap (λ (e : Redo). in_turn (applies_each ors_listed found) (stores (e.place / 8) e.value))
      (sym here_is)))

  both_ready : (found : ℕ → ℕ) → IsReady old (in_turn (applies_each ors_listed found) last_store)
  unfolding IsReadyFor
  both_ready found = subst (IsReady old) (each_so found) (told_ready old entries ready found)

  pub ors_ready : IsReadyFor old (applies_each ors_listed)
  unfolding IsReadyFor
  ors_ready found = ready_first old (applies_each ors_listed found) last_store (both_ready found)

  module _ (mid : View → Type 0)
      (made : RunsFor {T = Unit {0}} old mid (applies_each ors_listed) (Ok tt)) where
    pub store_ready : IsReady mid last_store
    unfolding RunsFor
    store_ready = ready_then old mid (applies_each ors_listed made.0) last_store tt
        (both_ready made.0) made.1

    module _ (next : View → Type 0) (stored : Runs {T = Unit {0}} mid next last_store (Ok tt))
      where
        all_made : RunsFor {T = Unit {0}} old next (applies_each entries) (Ok tt)
        unfolding RunsFor
        all_made = (
          made.0,
          subst (λ (s : Plan). Runs {T = Unit {0}} old next s (Ok tt)) (sym (each_so made.0))
              (runs_then old mid next (applies_each ors_listed made.0) last_store tt (Ok tt) made.1
              stored),
        )

        pub persist_ready : IsReady next persists_all
        persist_ready = told_next old entries next ready all_made

        pub applied : (new : View → Type 0) → Runs {T = Unit {0}} next new persists_all (Ok tt)
            → RunsFor {T = Unit {0}} old new (applies_all entries) (Ok tt)
        applied new persisted = told_then old entries next new (Ok tt) all_made persisted
