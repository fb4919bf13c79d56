-- What a lane that is alone has of the heap stays while it publishes its log.
use Rattle.std.proofs.Common.{◌≡◌, ◌/◌, true, List, [], ◌∷◌, refl, sym, ap, ◌∙◌, subst}
use Rattle.std.proofs.lemmas.Bool.{false≢true}
use Rattle.std.proofs.lemmas.List.{set-get_or}
use Rattle.solo_view.specs.declared.occ.Occ.{Occ}
use Rattle.solo_view.specs.declared.occ.Occ.TheVariants.{Run, Zone}
use Rattle.solo_view.specs.Founds.{FoundAlone, IsAlone}
use Rattle.solo_view.specs.Steps.{Step}
use Rattle.solo_view.specs.Steps.Step.{Load, Store, Or, And, Flush, Drain, TakeWrite, TakeRead, Raise, Give, ZoneTry, ZoneGive, Occupied, Occupy, Vacate, Draw, NumberSeen, StopSeen, SetStop, Tell}
use Rattle.solo_view.specs.View.{View}
use Rattle.solo_view.specs.Views.{after, occ_in, runs_with, zones_with}
use Rattle.solo_view.specs.Constants.{IsSameLane}
use Rattle.solo_view.proofs.SameLane.{same_lane, same_lane-after, same_lane-then}
use Rattle.solo_world.specs.Lawful.{Allowed}
use Rattle.solo_sealed.specs.Sealed.{Publishes, is_publishing}
use Rattle.solo_sealed.proofs.Steps.{begun_same, early_none, tell_none}
use Rattle.solo_epoch.specs.Epochs.{HasSameHeap}

-- ---- one step, and all

same_heap : (v : View) → HasSameHeap v v
same_heap v = record { runs = refl; zones = refl; reserved = refl; freed = refl; entries = refl; number = refl }

same_then : (u v w : View) → HasSameHeap u v → HasSameHeap v w → HasSameHeap u w
same_then u v w first second = record {
  runs = second.runs ∙ first.runs;
  zones = second.zones ∙ first.zones;
  reserved = second.reserved ∙ first.reserved;
  freed = second.freed ∙ first.freed;
  entries = second.entries ∙ first.entries;
  number = second.number ∙ first.number;
}

-- an occupancy word that is found as its picture has it leaves the pictures
runs_again : (v : View) (at : Occ) → runs_with at (occ_in v at) v.run_words ≡ v.run_words
runs_again v (Run place) = set-get_or v.run_words (place / 4096) 0
runs_again v (Zone zone) = refl

zones_again : (v : View) (at : Occ) → zones_with at (occ_in v at) v.zone_words ≡ v.zone_words
zones_again v (Run place) = refl
zones_again v (Zone zone) = set-get_or v.zone_words zone 0

pub same_after : (v : View) (s : Step) → is_publishing v.log.phase ≡ true → IsAlone v → Allowed v s → FoundAlone v s → HasSameHeap v (after v s)
same_after v (Load w x) publishing alone may found = record { runs = refl; zones = refl; reserved = refl; freed = refl; entries = refl; number = refl }
same_after v (Store w x) publishing alone may found = record { runs = refl; zones = refl; reserved = refl; freed = refl; entries = refl; number = refl }
same_after v (Or w bits x) publishing alone may found = record { runs = refl; zones = refl; reserved = refl; freed = refl; entries = refl; number = refl }
same_after v (And w bits x) publishing alone may found = record { runs = refl; zones = refl; reserved = refl; freed = refl; entries = refl; number = refl }
same_after v (Flush line) publishing alone may found = record { runs = refl; zones = refl; reserved = refl; freed = refl; entries = refl; number = refl }
same_after v Drain publishing alone may found = record { runs = refl; zones = refl; reserved = refl; freed = refl; entries = refl; number = refl }
same_after v (TakeWrite line won) publishing alone may found = absurd (early_none v.log.phase may.early publishing)
same_after v (TakeRead line won) publishing alone may found = absurd (early_none v.log.phase may.early publishing)
same_after v (Raise line won) publishing alone may found = absurd may
same_after v (Give line) publishing alone may found = record { runs = refl; zones = refl; reserved = refl; freed = refl; entries = refl; number = refl }
same_after v (ZoneTry zone won) publishing alone may found = absurd (early_none v.log.phase may.early publishing)
same_after v (ZoneGive zone) publishing alone may found = record { runs = refl; zones = refl; reserved = refl; freed = refl; entries = refl; number = refl }
same_after v (Occupied at x) publishing alone may found = record {
  runs = ap (λ y. runs_with at y v.run_words) (found alone) ∙ runs_again v at;
  zones = ap (λ y. zones_with at y v.zone_words) (found alone) ∙ zones_again v at;
  reserved = refl;
  freed = refl;
  entries = refl;
  number = refl;
}
same_after v (Occupy at bits won) publishing alone may found = absurd (early_none v.log.phase may.early publishing)
same_after v (Vacate at bits) publishing alone may found = absurd (early_none v.log.phase may.early publishing)
same_after v (Draw n) publishing alone may found = absurd (false≢true (sym (ap is_publishing may.is_open) ∙ publishing))
same_after v (NumberSeen n) publishing alone may found =
    let same = begun_same v.log.phase v publishing in record {
      runs = ap (λ (u : View). u.run_words) same;
      zones = ap (λ (u : View). u.zone_words) same;
      reserved = ap (λ (u : View). u.reserved) same;
      freed = ap (λ (u : View). u.freed) same;
      entries = ap (λ (u : View). u.entries) same;
      number = ap (λ (u : View). u.number) same;
    }
same_after v (StopSeen set) publishing alone may found = record { runs = refl; zones = refl; reserved = refl; freed = refl; entries = refl; number = refl }
same_after v SetStop publishing alone may found = same_heap v
same_after v (Tell operation reply) publishing alone may found = absurd (tell_none v.log.phase may publishing)

pub same_along : (v : View) (steps : List Step) (w : View) → IsAlone v → Publishes v steps w → HasSameHeap v w
unfolding Publishes
same_along v [] w alone leads = same_by leads
  where
    same_by : w ≡ v → HasSameHeap v w
    same_by is = record {
      runs = ap (λ (u : View). u.run_words) is;
      zones = ap (λ (u : View). u.zone_words) is;
      reserved = ap (λ (u : View). u.reserved) is;
      freed = ap (λ (u : View). u.freed) is;
      entries = ap (λ (u : View). u.entries) is;
      number = ap (λ (u : View). u.number) is;
    }
same_along v (s ∷ steps) w alone leads =
    same_then v (after v s) w (same_after v s leads.0 alone leads.1 leads.2) (same_along (after v s) steps w ((same_lane-after v s).table ∙ alone) leads.3)

-- and it is the same lane of the same pool
pub same_lane_along : (v : View) (steps : List Step) (w : View) → Publishes v steps w → IsSameLane v w
unfolding Publishes
same_lane_along v [] w leads = subst (IsSameLane v) (sym leads) (same_lane v)
same_lane_along v (s ∷ steps) w leads = same_lane-then v (after v s) w (same_lane-after v s) (same_lane_along (after v s) steps w leads.3)
