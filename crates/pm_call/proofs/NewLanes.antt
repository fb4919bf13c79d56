-- A NEW LANE, which looked at its generation and its seal alone, is between two calls.
use Rattle.std.proofs.Common.{◌≡◌, ℕ, ◌==◌, ◌<◌, false, [], ◌∷◌, Some, refl, sym, ap, ◌∙◌, subst, arith, ne_eqb, eq-eqb}
use Rattle.std.proofs.lemmas.Bool.{both_ways, cond-true, cond-false}
use Rattle.pm_layout.specs.Areas.{word_of_generation, word_of_seal}
use Rattle.pm_layout.specs.declared.shape.Shape.{Shape}
use Rattle.pm_view.specs.Claims.{Knows}
use Rattle.pm_view.specs.Parts.{Part, part_of}
use Rattle.pm_view.specs.View.{View, Constants, idle}
use Rattle.pm_view.specs.Views.{seen_by, value_in}
use Rattle.pm_world.specs.LaneFields.{IsUnused, Rests, opened, unused}
use Rattle.pm_world.specs.OwnedBits.{Owned}
use Rattle.pm_world.specs.declared.lane.Lane.{Lane}
use Rattle.pm_crash.specs.Calls.{pending_after, pending_of}
use Rattle.pm_crash.specs.Facts.{EntriesHaveFacts}
use Rattle.pm_plan.proofs.AreaParts.{part_generation, part_seal}
use Rattle.pm_call.specs.Histories.{nothing_told}
use Rattle.pm_call.specs.Stages.{IsBetween}
use Rattle.pm_call.specs.Standing.{Stands, StandsWith}
use Rattle.pm_call.proofs.HasHistories.{opened_history}
use Rattle.pm_call.proofs.OpenedCalls.{between_may_open}
use Rattle.pm_call.proofs.Standing.{idle_stands, stands_so}

module _ (fixed : Constants) (generation : ℕ) where
  abbrev sh : Shape
  sh = fixed.shape

  abbrev of_generation : ℕ
  of_generation = word_of_generation sh fixed.lane

  abbrev of_seal : ℕ
  of_seal = word_of_seal sh fixed.lane

  -- what it looked at is no word of a chunk
  abbrev with_parts : Part → Part → View
  with_parts first second = record (idle fixed generation) {
    claims = Knows of_seal 0 ∷ seen_by second 0
        (Knows of_generation generation ∷ seen_by first generation []);
  }

  abbrev looked : View
  looked = record (idle fixed generation) {
    claims = Knows of_seal 0 ∷ (Knows of_generation generation ∷ []);
  }

  is_looked : looked ≡ opened fixed generation
  is_looked = sym (
      ap (λ p. with_parts p (part_of sh fixed.lane of_seal)) (part_generation sh fixed.lane)
      ∙ ap (with_parts Rattle.pm_view.specs.Parts.GenerationPart)
      (part_seal sh fixed.lane of_seal refl))

  known : value_in looked of_generation ≡ Some generation
  known = cond-false (of_seal == of_generation) _ _ (ne_eqb of_seal of_generation (λ e. omega arith))
      ∙ cond-true (of_generation == of_generation) _ _ (eq-eqb of_generation of_generation refl)

  module _ (none : Owned) (inside : fixed.lane < fixed.shape.lanes) where
    between_looked : IsBetween (unused looked none)
    unfolding EntriesHaveFacts pending_after pending_of
    between_looked = record {
      over = record {
        log = refl;
        drained = refl;
        lane = inside;
        lanes = sh.lanes_to;
        zones = sh.zones_to;
        unmaking = λ c. refl;
        sound = record {
          small = λ c i e. absurd (both_ways false refl e);
          some = λ f e. absurd (both_ways false refl e);
          zone = λ f e. absurd (both_ways false refl e);
          huge = λ f c e. absurd (both_ways false refl e);
        };
        sizes = λ B x e. absurd (both_ways false refl e);
        known = known;
        sealed = cond-true (of_seal == of_seal) _ _ (eq-eqb of_seal of_seal refl);
        holds = record {
          each = record { once = tt; inside = tt; held = tt };
          only = λ line e. absurd (both_ways false refl e);
        };
        own = λ c i e. absurd (both_ways false refl e);
        pending = record {
          lists = refl;
          no_frees = refl;
          none_reserved = refl;
          on_time = refl;
          few = omega arith;
          words = tt;
        };
        facts = tt;
      };
      unlocked = refl;
      unlisted = refl;
    }

    pub new_between : IsBetween (unused (opened fixed generation) none)
    new_between = subst (λ (v : View). IsBetween (unused v none)) is_looked between_looked

    pub new_stands : {M : Type 0} (at : M → View → Type 0) (lane : Lane M)
        → Rests at lane (unused (opened fixed generation) none) → StandsWith at lane (nothing_told fixed.lane)
    new_stands at lane rests = idle_stands at lane (nothing_told fixed.lane)
        (unused (opened fixed generation) none) refl rests
        (between_may_open (unused (opened fixed generation) none) new_between)
        (opened_history fixed generation) refl

-- SO A LANE STANDS over a memory of which nothing was asked, and told nothing
pub new_lane_stands_with : {M : Type 0} (at : M → View → Type 0) (memory : M) (shape : Shape)
    (none : Owned) (lane : Lane M) (fixed : Constants) (generation : ℕ)
    → IsUnused at memory shape fixed generation
    → (IsUnused at memory shape fixed generation
    → Rests at lane (unused (opened fixed generation) none))
    → StandsWith at lane (nothing_told fixed.lane)
new_lane_stands_with at memory shape none lane fixed generation is rests =
    new_stands fixed generation none
    (subst (λ (h : Shape). fixed.lane < h.lanes) (sym is.shape) is.lane) at lane (rests is)

pub new_lane_stands : {M : Type 0} (at : M → View → Type 0) (memory : M) (shape : Shape)
    (none : Owned) (lane : Lane M) (fixed : Constants) (generation : ℕ)
    → IsUnused at memory shape fixed generation
    → (IsUnused at memory shape fixed generation
    → Rests at lane (unused (opened fixed generation) none))
    → Stands at lane
new_lane_stands at memory shape none lane fixed generation is rests =
    stands_so at lane (nothing_told fixed.lane)
    (new_lane_stands_with at memory shape none lane fixed generation is rests)
