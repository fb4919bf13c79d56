-- A lane that makes calls of ORs: its memory and its lists.
use Rattle.std.proofs.Common.{◌≡◌, ℕ, ◌+◌, ◌<◌, ◌++◌, [], ◌∷◌, map, replicate, refl, sym, ap, ◌∙◌, subst, arith, Ok}
use Rattle.std.proofs.lemmas.List.{replicate_more}
use Rattle.pm_layout.specs.Areas.{greatest_generation}
use Rattle.pm_layout.specs.declared.shape.Shape.{Shape}
use Rattle.pm_view.specs.Steps.Step.{Draw, NumberSeen}
use Rattle.pm_view.specs.View.{View, Constants}
use Rattle.pm_view.specs.Views.{after, after_all}
use Rattle.pm_world.specs.Lawful.{Allowed}
use Rattle.pm_world.specs.LaneFields.{Fields, IsUnused, Rests, opened, unused}
use Rattle.pm_world.specs.Logs.{ends_with}
use Rattle.pm_world.specs.OwnedBits.{Owned}
use Rattle.pm_world.specs.declared.lane.Lane.{Lane}
use Rattle.pm_shared.specs.declared.rule.Beginning.{Beginning}
use Rattle.pm_shared.specs.Openings.{fixed_of, generation_of, idle_view}
use Rattle.pm_shared.specs.Seats.{IsSeen, Seated}
use Rattle.pm_redo.specs.Calls.{HasPut, KeepsEntries, Logged, Performed, Sealed, StandsTo}
use Rattle.pm_redo.specs.Entries.{listed_entry}
use Rattle.pm_redo.specs.Plans.{performs, writes_log}
use Rattle.pm_redo.specs.Stages.{CanLog, CanSeal, IsLogged}
use Rattle.pm_redo.proofs.LogWritten.{log_lawful}
use Rattle.pm_redo.proofs.Performed.{perform_lawful}
use Rattle.pm_lane_bench.specs.Lanes.{CanReserve, with_chunk}
use Rattle.pm_lane_bench.specs.Calls.{AreOrs, AwaitsCall, CanStart, HasListed, IsNumbered, LaneHas, or_listed, ors_listed}
use Rattle.pm_lane_bench.proofs.Calls.{awaits_first, awaits_next, can_log, can_start, generation_so, may_draw, numbered, seen_fixed, seen_generation}

-- one more OR is listed
pub list_more : {M : Type 0} (start old new : Lane M) (k : ℕ)
    → (old.entries.items ≡ replicate k or_listed)
    × (old ≡ record start { entries = old.entries }) → HasPut or_listed old new (Ok tt)
    → (new.entries.items ≡ replicate (k + 1) or_listed)
    × (new ≡ record start { entries = new.entries })
unfolding HasPut
list_more {M = M} start old new k so put = (
  put.1 ∙ (ap (λ es. es ++ or_listed ∷ []) so.0 ∙ replicate_more k or_listed),
  put.2 ∙ ap (λ (l : Lane M). record l { entries = new.entries }) so.1,
)

-- nothing was asked of the first lane's memory
pub unused_is : (b : Beginning) (s : Seated) (sh : Shape) → b.shape ≡ sh
    → IsSeen s (idle_view b 0) → IsUnused IsSeen s sh (fixed_of b 0) (generation_of b 0)
unused_is b s sh same seen =
    record { shape = same; lane = let from = sh.lanes_from in omega (arith, from); seen = seen }

module _ {M : Type 0} (at : M → View → Type 0) (lane : Lane M) where
  -- ---- BEFORE THE FIRST CALL
  pub starts : (b : Beginning) (generation : ℕ) (none : Owned) → b.shape.lanes ≡ 2
      → Rests at lane (unused (opened (fixed_of b 0) generation) none) → LaneHas at CanStart lane
  starts b generation none two r = record {
    view = opened (fixed_of b 0) generation;
    keeps = record {
      memory = r.memory;
      shape = ap (λ (f : Fields). f.shape) r.fields;
      entries = ap (λ (f : Fields). f.entries) r.fields;
    };
    generation = ap (λ (f : Fields). f.generation) r.fields;
    so = can_start b generation two;
  }

  pub reserved : (mid : M) → LaneHas at CanStart lane
      → ((v : View) → at lane.memory v → CanReserve v → at mid (with_chunk v))
      → LaneHas at AwaitsCall (record lane { memory = mid })
  reserved mid h made = record {
    view = with_chunk h.view;
    keeps = record {
      memory = made h.view h.keeps.memory h.so.reserves;
      shape = h.keeps.shape;
      entries = h.keeps.entries;
    };
    generation = h.generation;
    so = awaits_first h.view h.so;
  }

  -- ---- A CALL IS OPENED
  module _ (h : LaneHas at AwaitsCall lane) where
    pub unlisted : lane.entries.items ≡ []
    unlisted = h.keeps.entries ∙ ap (map listed_entry) h.so.owns.unentered

    pub listed : (mid : M) (n : ℕ) → at mid (after h.view (NumberSeen n))
        → n < greatest_generation h.view.fixed.shape
        → lane.log.generation < greatest_generation h.view.fixed.shape → (new : Lane M)
        → (new.entries.items ≡ ors_listed)
        × (new ≡ record lane { memory = mid; entries = new.entries }) → HasListed at new
    listed mid n there few below new done = record {
      before = h.view;
      number = n;
      may = record {
        memory = subst (λ (m : M). at m (after h.view (NumberSeen n)))
            (sym (ap (λ (l : Lane M). l.memory) done.1)) there;
        shape = ap (λ (l : Lane M). l.shape) done.1 ∙ (h.keeps.shape
            ∙ ap (λ (f : Constants). f.shape) (sym (seen_fixed h.view h.so n)));
        generation_ = ap (λ (l : Lane M). l.log.generation) done.1 ∙ (h.generation
            ∙ sym (seen_generation h.view h.so n));
        can = subst (CanLog (after h.view (NumberSeen n))) (sym done.0)
            (can_log h.view h.so n
            (subst (λ g. g < greatest_generation h.view.fixed.shape) h.generation below));
      };
      awaits = h.so;
      few = few;
      entries = done.0;
    }

  -- ---- ITS LOG IS WRITTEN, AND IT TAKES ITS NUMBER
  module _ (h : HasListed at lane) where
    abbrev seen : View
    seen = after h.before (NumberSeen h.number)

    abbrev written : View
    written = after_all seen (writes_log lane.entries.items seen)

    is_logged : IsLogged seen ors_listed written
    is_logged = subst (λ es. IsLogged seen es written) h.entries
        (log_lawful seen lane.entries.items h.may.can).1

    below : h.before.log.generation < greatest_generation h.before.fixed.shape
    below = subst (λ g. g < greatest_generation h.before.fixed.shape)
        (seen_generation h.before h.awaits h.number) h.may.can.below

    module _ (mid : Lane M) (done : Logged at lane.log.generation lane mid (Ok tt)) where
      left : KeepsEntries at mid written
          × (mid ≡ record lane { memory = mid.memory; entries = mid.entries })
      unfolding Logged
      left = done seen h.may

      may_number : (m : ℕ) → Allowed written (Draw m)
      may_number m = may_draw h.before h.awaits h.number written is_logged h.few

      pub draw_allowed : (m : ℕ) → (v : View) × at mid.memory v × Allowed v (Draw m)
      draw_allowed m = (written, left.0.memory, may_number m)

      pub drawn : (m : ℕ) (new : M)
          → ((v : View) → at mid.memory v → Allowed v (Draw m) → at new (after v (Draw m)))
          → LaneHas at IsNumbered (record mid { memory = new })
      drawn m new made = record {
        view = after written (Draw m);
        keeps = record {
          memory = made written left.0.memory (may_number m);
          shape = left.0.shape;
          entries = left.0.entries;
        };
        generation = ap (λ (l : Lane M). l.log.generation) left.1
            ∙ (h.may.generation_ ∙ (seen_generation h.before h.awaits h.number
            ∙ sym (generation_so h.before h.awaits h.number written is_logged)));
        so = numbered h.before h.awaits h.number written is_logged m below;
      }

  -- ---- ITS LOG IS PERFORMED
  pub sealed_ors : (mid : Lane M) → Sealed at lane mid (Ok tt) → StandsTo at lane CanSeal
      → AreOrs lane.entries.items → AreOrs mid.entries.items
  unfolding Sealed
  sealed_ors mid one s are = subst AreOrs
      (sym (ap (λ (l : Lane M). l.entries.items) (one s.0 s.1 s.2).1)) are

  module _ (h : LaneHas at IsNumbered lane) where
    pub stands : StandsTo at lane CanSeal
    stands = (h.view, h.keeps, h.so.can)

    pub are_ors : AreOrs lane.entries.items
    are_ors = record {
      last = listed_entry
          (ends_with h.view.fixed.shape h.view.fixed.lane h.view.log.generation);
      are = h.keeps.entries ∙ ap (map listed_entry) h.so.entries;
      sets = refl;
    }

    module _ (mid : Lane M) (done : Performed at lane mid (Ok tt)) where
      abbrev LeftFor : (ℕ → ℕ) → Type 0
      LeftFor found = KeepsEntries at mid (after_all h.view (performs found h.view))
          × (mid.log.generation ≡ h.view.log.generation)

      left_performed : (found : ℕ → ℕ) × LeftFor found
      unfolding Performed
      left_performed = let t = done.1 h.view h.keeps h.so.can in
          (done.0, (t.0, ap (λ (l : Lane M). l.log.generation) t.1.1 ∙ h.generation))

      pub generation_low : mid.log.generation < greatest_generation h.view.fixed.shape
      generation_low = subst (λ g. g < greatest_generation h.view.fixed.shape)
          (sym left_performed.1.1) h.so.can.log_.below

      pub ended : LaneHas at AwaitsCall
          (record mid { log = record mid.log { generation = mid.log.generation + 1 } })
      ended =
          let found = left_performed.0 in
          let w : View = after_all h.view (performs found h.view) in
          let is = (perform_lawful h.view found h.so.can).1 in record {
            view = w;
            keeps = record {
              memory = left_performed.1.0.memory;
              shape = left_performed.1.0.shape;
              entries = left_performed.1.0.entries;
            };
            generation = ap (λ g. g + 1) left_performed.1.1
                ∙ sym (ap (λ (y : View). y.log.generation) is.same);
            so = awaits_next h.view h.so found w is;
          }
