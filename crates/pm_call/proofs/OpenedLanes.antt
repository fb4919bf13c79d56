-- WHAT OPENING A CALL leaves of a lane.
use Rattle.std.proofs.Common.{◌≡◌, inl, inr, ⊎_elim, ℕ, ◌^◌, ◌<◌, ◌≤◌, true, List, ◌∷◌, map, sym, ap, ◌∙◌, arith, Ok, Err}
use Rattle.pm_memory.specs.Runs.{Made}
use Rattle.pm_objects.specs.declared.refusal.Refusal.TheVariants as refusal
use Rattle.pm_view.specs.Log.{Log, is_early}
use Rattle.pm_view.specs.Steps.{Step}
use Rattle.pm_view.specs.Steps.Step.{NumberSeen}
use Rattle.pm_view.specs.View.{View}
use Rattle.pm_world.specs.LaneFields.{Fields, Rests, Standing, at_rest, kept_of}
use Rattle.pm_world.specs.Lawful.{Allowed}
use Rattle.pm_world.specs.declared.lane.Lane.{Lane}
use Rattle.pm_call.specs.Between.{IsLaneBetween, MayOpen, opened_with, saw_number}
use Rattle.pm_call.specs.Opening.{CallOpened}
use Rattle.pm_call.specs.Stages.{IsBetween}
use Rattle.pm_call.proofs.OpenedCalls.{looked_calls_may_open, saw_open}

-- ---- A CALL OPENS

-- an open call in which nothing is done leaves the lane's fields
rests_open : (s : Standing) → IsBetween s → (seen : List Step)
    → at_rest (opened_with s seen) ≡ at_rest s
rests_open s is seen = sym (ap (λ (l : Log). record (at_rest s) {
  records = map (kept_of s.view.fixed.shape) l.records;
}) is.over.log)

module _ (s : Standing) (may : MayOpen s) where
  pub rests_since : at_rest s ≡ at_rest may.before
  rests_since = ⊎_elim (λ e. ap at_rest e)
      (λ z. ap at_rest z.1 ∙ rests_open may.before may.between z.0) may.since

  pub rests_so : (n : ℕ) → at_rest (saw_number s n) ≡ at_rest s
  rests_so n =
      let o = saw_open s n may in
      ap at_rest o.1
      ∙ (rests_open may.before may.between (NumberSeen n ∷ o.0) ∙ sym rests_since)

  early : is_early s.view.log.phase ≡ true
  early = ⊎_elim
      (λ e. ap (λ (t : Standing). is_early t.view.log.phase) e
      ∙ ap (λ (l : Log). is_early l.phase) may.between.over.log)
      (λ z. ap (λ (t : Standing). is_early t.view.log.phase) z.1) may.since

module _ {M : Type 0} (at : M → View → Type 0) (old : Lane M) where
  pub may_see : IsLaneBetween at old → (n : ℕ) → (v : View) × at old.memory v
      × Allowed v (NumberSeen n)
  may_see lane n = (lane.standing.view, lane.rests.memory, early lane.standing lane.between)

  generation_so : (s : Standing) → Rests at old s → old.log.generation ≡ s.view.log.generation
  generation_so s rests = ap (λ (f : Fields). f.generation) rests.fields

  pub none_generation : 2 ^ 62 ≤ old.log.generation → CallOpened at old old (Err refusal.Spent)
  unfolding CallOpened
  none_generation many s rests between = inl (
    let g = generation_so s rests in omega
        (arith, many, g),
    rests,
  )

  module _ (may : View → Step → Type 0) (grants : (v : View) (s : Step) → Allowed v s
      → may v s) (new : M) (n : ℕ) (made : Made may (at old.memory) (at new) (NumberSeen n)) where
    rests_then : (s : Standing) → Rests at old s → MayOpen s
        → Rests at (record old { memory = new }) (saw_number s n)
    rests_then s rests between = record {
      memory = (made s.view rests.memory (grants s.view (NumberSeen n) (early s between))).0;
      fields = rests.fields ∙ sym (rests_so s between n);
    }

    pub none_drawn : 2 ^ 62 ≤ n → CallOpened at old (record old { memory = new })
        (Err refusal.Spent)
    unfolding CallOpened
    none_drawn many s rests between = inr (n, many, rests_then s rests between)

    pub call_opens : old.log.generation < 2 ^ 62 → n < 2 ^ 62
        → CallOpened at old (record old { memory = new }) (Ok tt)
    unfolding CallOpened
    call_opens few below s rests between = record {
      number = n;
      rests = rests_then s rests between;
      opened = looked_calls_may_open s n between (let g = generation_so s rests in omega
          (arith, few, g)) below;
    }
