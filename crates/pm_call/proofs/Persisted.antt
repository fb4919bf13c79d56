-- A LANE AT WORK STAYS SO as all that is undrained is made persistent.
use Rattle.std.proofs.Common.{◌≡◌, ℕ, ◌+◌, ◌-◌, ◌*◌, ◌/◌, ◌≤◌, inl, ⊎_elim, true, false, cond, ◌==◌, ◌&&◌, List, [], ◌∷◌, length, refl, sym, ap, ◌∙◌, subst, Some, None}
use Rattle.std.specs.List.{AllByRecursion}
use Rattle.std.specs.Int.{bit_at}
use Rattle.std.specs.Option.{option_map}
use Rattle.pm_layout.specs.Areas.{word_of_seal}
use Rattle.pm_view.specs.Claims.{Drained, header_in, pictured}
use Rattle.pm_view.specs.Entries.{first_of_two}
use Rattle.pm_view.specs.Log.{Log, Open, Recorded, new_log, old_of}
use Rattle.pm_view.specs.Places.{Place, is_data, word_of}
use Rattle.pm_view.specs.View.{View}
use Rattle.pm_view.specs.Views.{after_all, value_in}
use Rattle.pm_view.specs.Steps.{Step}
use Rattle.pm_world.specs.InWorld.{SizesFit}
use Rattle.pm_world.specs.LaneFields.{Standing, moved}
use Rattle.pm_world.specs.Memory.{bit}
use Rattle.pm_world.specs.Sights.{is_pictured, is_recorded, picture}
use Rattle.pm_crash.specs.Footprints.{has_found}
use Rattle.pm_plan.specs.Notes.{AreNotes, DrainedTo, Note, noted}
use Rattle.pm_plan.specs.Plans.{claims_persisted, log_persisted, persists_all}
use Rattle.pm_plan.proofs.Going.{persists_all_lawful}
use Rattle.pm_undo.specs.Working.{AreOnce, IsStanding, IsWorking}
use Rattle.pm_call.specs.At.{IsAt, IsDataOf}
use Rattle.pm_call.proofs.Frames.{header_so, making_so, noting}
use Rattle.pm_call.proofs.KnownObjects.{fresh_is}
use Rattle.pm_call.proofs.Noting.{Keeps, bytes_so, data_so, found_so, noted_at, standing_so}
use Rattle.pm_call.proofs.TakenBack.{persisted_claims, persisted_log}

-- THE VIEW THEN: nothing is undrained, all words are known as they were, and the log is of an open call with these records alone
abbrev pub open_log : ℕ → List Recorded → Log
open_log generation records = record (new_log Open generation) { records = records }

pub record IsDrained (v w : View) (records : List Recorded) : Type 0 where
  pub notes : List Note
  pub each : AreNotes v.fixed.shape v.claims notes
  pub calls : List Step
  pub same : w ≡ noting v notes [] calls (open_log v.log.generation records)
  pub stays : (u : ℕ) → pictured v.fixed.shape (noted notes v.claims) u ≡ value_in v u

pub drained_by : (v : View) → IsWorking v → v.log.bumped ≡ false → (records : List Recorded) → v.log.records ≡ records → IsDrained v (after_all v (persists_all v)) records
drained_by v working unbumped records are = ⊎_elim
    (λ (e : claims_persisted v.changes v.log v.claims ≡ v.claims). with_notes [] tt e (λ u. refl))
    (λ (e : claims_persisted v.changes v.log v.claims ≡ Drained [] ∷ v.claims). with_notes (DrainedTo [] ∷ []) (working.unmaking, tt) e (λ u. refl))
    (persisted_claims v.changes v.log v.claims working.is_open)
  where
    w : View
    w = after_all v (persists_all v)

    log_is : v.log ≡ open_log v.log.generation records
    log_is = λ i. record {
      phase = working.is_open i;
      generation = v.log.generation;
      bumped = unbumped i;
      records = are i;
      entries = working.unentered i;
      slot = working.whole.0 i;
      pair = working.whole.1 i;
    }

    with_notes : (ns : List Note) → AreNotes v.fixed.shape v.claims ns → claims_persisted v.changes v.log v.claims ≡ noted ns v.claims → ((u : ℕ) → pictured v.fixed.shape (noted ns v.claims) u ≡ value_in v u)
        → IsDrained v (after_all v (persists_all v)) records
    with_notes ns each claims stays = record {
      notes = ns;
      each = each;
      calls = w.calls;
      same = (persists_all_lawful v).1
          ∙ (ap (λ t. record v { claims = t; changes = []; calls = w.calls; log = log_persisted v.changes v.log }) claims
          ∙ ap (λ l. record v { claims = noted ns v.claims; changes = []; calls = w.calls; log = l }) (persisted_log v.changes v.log working.is_open ∙ log_is));
      stays = stays;
    }

module _ (s : Standing) (level : ℕ) (at : IsAt s level) (records : List Recorded) (are : s.view.log.records ≡ records) (w : View) (d : IsDrained s.view w records) where
  abbrev ns : List Note
  ns = d.notes

  abbrev log : Log
  log = open_log s.view.log.generation records

  abbrev pub drained_view : View
  drained_view = noting s.view d.notes [] d.calls (open_log s.view.log.generation records)

  picture_so : (p : Place) (b : ℕ) → picture s.view.fixed.shape (noted ns s.view.claims) p b ≡ picture s.view.fixed.shape s.view.claims p b
  picture_so p b = ap (λ x. cond (is_pictured p) (option_map (λ n. bit_at n b == 1) x) None) (d.stays (word_of s.view.fixed.shape p))

  recorded_now : (p : Place) → is_recorded records p ≡ is_recorded s.view.log.records p
  recorded_now p = ap (λ rs. is_recorded rs p) (sym are)

  working : IsWorking drained_view
  working = record {
    is_open = refl;
    whole = (refl, refl);
    unentered = refl;
    below = at.working.below;
    lane = at.working.lane;
    lanes = at.working.lanes;
    zones = at.working.zones;
    unmaking = λ c. making_so s.view.fixed.shape ns s.view.claims d.each at.working.unmaking c ∙ at.working.unmaking c;
    clean = tt;
    few = subst (λ rs. length rs ≤ Rattle.pm_layout.specs.Areas.undo_slots s.view.fixed.shape) are at.working.few;
    standing = standing_so s.view ns [] d.calls log d.each at.working.unmaking records (subst (λ rs. AllByRecursion (IsStanding s.view) rs) are at.working.standing);
    once = subst AreOnce are at.working.once;
    known = d.stays (Rattle.pm_layout.specs.Areas.word_of_generation s.view.fixed.shape s.view.fixed.lane) ∙ at.working.known;
  }

  fit : SizesFit drained_view
  fit B x f o e =
      let old_found : has_found s.view B ≡ true = sym (found_so s.view ns [] d.calls log d.each at.working.unmaking B) ∙ f in
      let line = header_so s.view.fixed.shape ns s.view.claims d.each at.working.unmaking B in
      let word : value_in drained_view (8 * header_in s.view.fixed.shape s.view.claims B + 1) ≡ Some x = ap (λ h. value_in drained_view (8 * h + 1)) (sym line) ∙ e in
      subst (λ m. 64 + x ≤ m) (sym (bytes_so s.view ns [] d.calls log d.each at.working.unmaking B))
      (at.sizes B x old_found o (sym (d.stays (8 * header_in s.view.fixed.shape s.view.claims B + 1)) ∙ word))

  data_now : (p : Place) → is_recorded records p ≡ true → IsDataOf drained_view p
  data_now p e =
      let q = at.recorded p (sym (recorded_now p) ∙ e) in
      data_so s.view ns [] d.calls log d.each at.working.unmaking at.sound p q (d.stays (q.off / 8 - 7) ∙ q.object.seen) q.value (d.stays (word_of s.view.fixed.shape p) ∙ q.known) q.small

  pub drained_keeps : Keeps s d.notes [] d.calls (open_log s.view.log.generation records)
  drained_keeps = record {
    each = d.each;
    working = working;
    unbumped = refl;
    fit = fit;
    seal = d.stays (word_of_seal s.view.fixed.shape s.view.fixed.lane) ∙ at.sealed;
    sizes = λ a m. d.stays (a.id.off / 8 - 7);
    recorded = data_now;
    more = λ p e. recorded_now p ∙ e;
    knows = λ p b y _ e. (λ i. first_of_two (option_map (λ x. bit x b) (old_of (sym are i) p)) (picture_so p b i)) ∙ e;
    same = λ p b. inl (fresh_is s.view.fixed.shape (noted ns s.view.claims) log p b
        ∙ ((λ i. cond (is_data p && recorded_now p i) (picture_so p b i) None) ∙ sym (fresh_is s.view.fixed.shape s.view.claims s.view.log p b)));
  }

  -- IT IS AT WORK AS IT WAS
  pub drained_at : IsAt (moved s drained_view) level
  drained_at = noted_at s level at d.notes [] d.calls (open_log s.view.log.generation records) drained_keeps (sym are)
