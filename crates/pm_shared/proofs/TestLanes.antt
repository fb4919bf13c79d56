-- What the crate's tests do: a lane of which no call is open takes a line's lock and gives it back, in a pool without objects.
use Rattle.std.proofs.Common.{◌≡◌, ℕ, ◌/◌, ◌<◌, ◌≤◌, ⊎_elim, Bool, true, false, List, length, replicate, slice_index, refl, sym, ap, ◌∙◌, subst, arith}
use Rattle.std.proofs.lemmas.Bool.{cases_lt}
use Rattle.std.proofs.lemmas.List.{get_or-replicate, get_or_past, length-replicate}
use Rattle.pm_layout.specs.Chunks.{words_of}
use Rattle.pm_memory.specs.Runs.{AnyStep, Made}
use Rattle.pm_view.specs.Log.{is_early}
use Rattle.pm_view.specs.Steps.Step.{TakeWrite, Give}
use Rattle.pm_view.specs.View.{View}
use Rattle.pm_world.specs.Lawful.{GiveFits}
use Rattle.pm_world.specs.Bare.{AreBare}
use Rattle.pm_shared.specs.Bare.{BeginsBare}
use Rattle.pm_shared.specs.declared.rule.Beginning.{Beginning}
use Rattle.pm_shared.specs.Openings.{idle_view}
use Rattle.pm_shared.specs.Seats.{Seated, IsSeen, IsAllowed}
use Rattle.pm_shared.specs.TestLanes.{Rests}

line_inside : (v : View) → 100 < words_of v.fixed.shape / 8
line_inside v = let a = v.fixed.shape.lanes_from in let b = v.fixed.shape.zones_from in omega (arith, a, b)

pub may_take : (s : Seated) → Rests s false → (won : Bool) → IsAllowed s (TakeWrite 100 won)
may_take s r won = record { view = r.view; seen = r.seen; allowed = record { inside = line_inside r.view; free = r.line; early = ap is_early r.idle } }

pub took : (s new : Seated) → Rests s false → Made AnyStep (IsSeen s) (IsSeen new) (TakeWrite 100 true) → Rests new true
took s new r made = let m = made r.view r.seen tt in record { view = _; seen = m.0; idle = r.idle; line = refl }

pub refused : (s new : Seated) → Rests s false → Made AnyStep (IsSeen s) (IsSeen new) (TakeWrite 100 false) → Rests new false
refused s new r made = let m = made r.view r.seen tt in record { view = _; seen = m.0; idle = r.idle; line = r.line }

pub may_give : (s : Seated) → Rests s true → IsAllowed s (Give 100)
may_give s r = record { view = r.view; seen = r.seen; allowed = record { inside = line_inside r.view; held = r.line; fits = subst (GiveFits r.view 100) (sym r.idle) tt } }

pub gave : (s new : Seated) → Rests s true → Made AnyStep (IsSeen s) (IsSeen new) (Give 100) → Rests new false
gave s new r made = let m = made r.view r.seen tt in record { view = _; seen = m.0; idle = r.idle; line = refl }

pub fresh : (b : Beginning) (n : ℕ) (s : Seated) → IsSeen s (idle_view b n) → Rests s false
fresh b n s seen = record { view = idle_view b n; seen = seen; idle = refl; line = refl }

-- ---- what lanes begin on, over words without objects
pub bare : (b : Beginning) → AreBare b.shape b.shape.lanes b.words.items → b.shape.lanes ≡ 2 → b.shape.zones ≡ 1 → b.lanes ≡ 2
    → b.runs.items ≡ replicate 70 18446744073709551615 → b.zones.items ≡ replicate 1 0 → BeginsBare b
bare b words lanes zones two runs free = record {
  opening = record { some_lanes = omega (arith, two); most_lanes = omega (arith, two, lanes); words = words };
  untaken = record {
    full = λ page l. ap (λ (ws : List ℕ). slice_index ws page) runs
        ∙ get_or-replicate 70 page 18446744073709551615 0 (omega (arith, l, lanes, zones));
    free = λ zone. ap (λ (ws : List ℕ). slice_index ws zone) free ∙ ⊎_elim
        (λ (l : zone < 1). get_or-replicate 1 zone 0 0 l)
        (λ (l : 1 ≤ zone). get_or_past (replicate 1 0) zone 0 l) (cases_lt zone 1);
  };
  runs = ap length runs ∙ (length-replicate {A = ℕ} 70 18446744073709551615 ∙ omega (arith, lanes, zones));
  zones = ap length free ∙ (length-replicate {A = ℕ} 1 0 ∙ sym zones);
}
