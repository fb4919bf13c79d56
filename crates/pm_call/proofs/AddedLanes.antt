-- What adding a range makes of a lane, from how the snapshot and the telling leave its memory.
use Rattle.std.proofs.Common.{◌≡◌, ℕ, ◌+◌, ◌^◌, ◌<◌, true, false, List, refl, sym, ap, ◌∙◌, subst, None, Result, Ok, Err}
use Rattle.std.proofs.lemmas.Bool.{both_ways}
use Rattle.pm_memory.specs.Runs.{Made, Stops}
use Rattle.pm_memory.specs.declared.lane_mem.Stopped.{Stopped}
use Rattle.pm_objects.specs.declared.calls.Operation.TheVariants.{AddRange}
use Rattle.pm_objects.specs.declared.ids.Oid.{Oid}
use Rattle.pm_objects.specs.declared.refusal.Refusal.{Refusal}
use Rattle.pm_objects.specs.declared.refusal.Refusal.TheVariants as refusal
use Rattle.pm_view.specs.Changes.{Undrained}
use Rattle.pm_view.specs.Claims.{Claim}
use Rattle.pm_view.specs.Log.{Log, Open}
use Rattle.pm_view.specs.Steps.{Step}
use Rattle.pm_view.specs.Steps.Step.{Tell}
use Rattle.pm_view.specs.View.{View}
use Rattle.pm_view.specs.Views.{after, after_all}
use Rattle.pm_world.specs.Lawful.{Allowed}
use Rattle.pm_world.specs.LaneFields.{Standing, Works, at_work, fields_of, moved}
use Rattle.pm_world.specs.declared.lane.Lane.{Lane}
use Rattle.pm_plan.specs.Plans.{Ready, Runs}
use Rattle.pm_plan.proofs.Plans.{runs_err}
use Rattle.pm_undo.specs.Plans.{snapshots}
use Rattle.pm_undo.specs.Records.{with_log}
use Rattle.pm_undo.specs.Undoing.{KeepsLog, Snapshotted, SnapshottedAs, Stands, needed}
use Rattle.pm_undo.specs.Working.{CanSnapshot, IsSnapshot}
use Rattle.pm_call.specs.Adding.{CanAdd, HasCounted, IsAdded}
use Rattle.pm_call.specs.At.{At}
use Rattle.pm_call.specs.Did.{Acted, After, Came, IsAtSo, next}
use Rattle.pm_call.specs.Held.{Looks}
use Rattle.pm_call.specs.Plans.{adds, tells}
use Rattle.pm_call.proofs.AddedRanges.{can, ends_told, overfull, ranges_may_be_added, snapped}
use Rattle.pm_call.proofs.LockedRanges.{range_low}

-- ---- how the lane stands before

pub keeps_log : {M : Type 0} (at : M → View → Type 0) (lane : Lane M) (s : Standing) → Works at lane s → KeepsLog at lane s.view
keeps_log at lane s works = record { memory = works.memory; fields = works.fields ∙ ap (with_log s.view) (sym works.fields) }

-- nothing was looked at
no_looks : (v : View) → Looks 0 v v
unfolding Looks
no_looks v = refl

pub at_once : (s : Standing) (P : Standing → Type 0) → P s → After s P
at_once s P p = record { looks = 0; view = s.view; looked = no_looks s.view; holds = p }

-- what was noted and told moves the lane's log alone
fields_told : (s : Standing) (id : Oid) (off len : ℕ) (w : View) (claims : List Claim) (changes : List Undrained) (calls : List Step) (log : Log) → w ≡ record s.view { claims = claims; changes = changes; calls = calls; log = log }
    → with_log w (at_work s) ≡ at_work (moved s (after w (Tell (AddRange id off len) None)))
fields_told s id off len w claims changes calls log is = subst (λ (y : View). with_log y (at_work s) ≡ at_work (moved s (after y (Tell (AddRange id off len) None)))) (sym is) refl

-- a lane that stopped in the snapshot stopped before the operation was told
stops_told : (new : View → Type 0) (v : View) (id : Oid) (off len : ℕ) → Ready v (adds id off len v) → Stops new v (snapshots (id.off + off) len v) → Stops new v (adds id off len v)
unfolding Runs
stops_told new v id off len ready stops = runs_err {U = ℕ} (Unit {0}) (λ u. u ≡ v) new (snapshots (id.off + off) len) (tells (AddRange id off len) None) stopped (Err stopped) refl
    (λ u is r. subst (λ y. Stops new y (snapshots (id.off + off) len y)) (sym is) stops) v refl ready
  where
    stopped : Stopped
    stopped = record {}

module _ {M : Type 0} (at : M → View → Type 0) (old : Lane M) (id : Oid) (off len : ℕ) where
  abbrev Q : Standing → Type 0
  Q s = CanAdd s id off len

  pub may_snapshot : IsAtSo at old (λ s. CanAdd s id off len) → Stands at old (λ v. CanSnapshot v (needed v (id.off + off) len))
  may_snapshot is = (is.standing.view, keeps_log at old is.standing is.works, can is.standing is.stands id off len is.holds)

  pub low : IsAtSo at old (λ s. CanAdd s id off len) → id.off + off + len < 2 ^ 60
  low is = range_low is.standing is.stands id off len true is.holds.range

  module _ (mid : Lane M) where
    -- what the snapshot did to a lane that stands so
    did : (s : Standing) → Works at old s → At s → CanAdd s id off len → (result : Result ℕ Refusal) → Snapshotted at (id.off + off) len old mid result → SnapshottedAs at (id.off + off) len s.view old mid result
    unfolding Snapshotted
    did s works stands holds result snap = snap s.view (keeps_log at old s works) (can s stands id off len holds)

    -- ---- it made its records, and the operation is told

    pub may_tell : IsAtSo at old (λ s. CanAdd s id off len) → (count : ℕ) → Snapshotted at (id.off + off) len old mid (Ok count) → (v : View) × at mid.memory v × Allowed v (Tell (AddRange id off len) None)
    may_tell is count snap =
        let s : Standing = is.standing in
        let t = did s is.works is.stands is.holds (Ok count) snap in
        (after_all s.view (snapshots (id.off + off) len s.view), t.2.memory, (snapped s is.stands id off len is.holds t.0).1.working.is_open)

    pub acted_ok : (may : View → Step → Type 0) → ((v : View) (s : Step) → Allowed v s → may v s) → (count : ℕ) → Snapshotted at (id.off + off) len old mid (Ok count)
        → (new : Lane M) → Made may (at mid.memory) (at new.memory) (Tell (AddRange id off len) None) → fields_of new ≡ fields_of mid
        → Acted at old new (λ s. CanAdd s id off len) (AddRange id off len) (λ v. adds id off len) (HasCounted id off len) (Ok count)
    unfolding Acted
    acted_ok may grants count snap new told same s works stands holds = at_once s (Came at new (AddRange id off len) (λ v. adds id off len) (HasCounted id off len) (Ok count))
        (record { unrefused = added.unrefused; ready = added.ready; works = works_then; stands = added.stands }, t.1)
      where
        t : SnapshottedAs at (id.off + off) len s.view old mid (Ok count)
        t = did s works stands holds (Ok count) snap

        added : IsAdded s id off len
        added = ranges_may_be_added s id off len stands holds t.0

        snap_is : (w : View) → IsSnapshot s.view (needed s.view (id.off + off) len) w → with_log w (at_work s) ≡ at_work (moved s (after w (Tell (AddRange id off len) None)))
        snap_is w is = fields_told s id off len w w.claims w.changes w.calls _ is.same

        told_at : (w : View) → w.log.phase ≡ Open → at mid.memory w → at new.memory (after w (Tell (AddRange id off len) None))
        told_at w phase m = (told w m (grants w (Tell (AddRange id off len) None) phase)).0

        works_then : Works at new (next s (adds id off len))
        works_then = let w : View = after_all s.view (snapshots (id.off + off) len s.view) in let is = (snapped s stands id off len holds t.0).1 in
            subst (λ (y : View). Works at new (moved s y)) (sym (ends_told s id off len))
            (record { memory = told_at w is.working.is_open t.2.memory; fields = same ∙ (t.2.fields ∙ (ap (with_log w) works.fields ∙ snap_is w is)) })

  -- ---- there were too few slots, or the lane stopped

  pub acted_err : (mid : Lane M) (why : Refusal) → Snapshotted at (id.off + off) len old mid (Err why) → Acted at old mid (λ s. CanAdd s id off len) (AddRange id off len) (λ v. adds id off len) (HasCounted id off len) (Err why)
  unfolding Acted
  acted_err mid why snap s works stands holds = at_once s (Came at mid (AddRange id off len) (λ v. adds id off len) (HasCounted id off len) (Err why)) (by why (did mid s works stands holds (Err why) snap))
    where
      by : (why : Refusal) → SnapshottedAs at (id.off + off) len s.view old mid (Err why) → Came at mid (AddRange id off len) (λ v. adds id off len) (HasCounted id off len) (Err why) s
      by refusal.Stopped t = let law = ranges_may_be_added s id off len stands holds t.0 in (
        law.unrefused,
        (
          record {
            working = stands.working;
            ready = law.ready;
            stops = stops_told (at mid.memory) s.view id off len law.ready t.1;
            fields = let e = t.2 ∙ works.fields in e ∙ λ i. record (at_work s) { generation = (sym e i).generation; records = (sym e i).records; stopped = false };
            facts = law.stands.facts;
          },
          λ e. absurd (both_ways true e refl),
        ),
      )
      by refusal.LogFull t = (overfull s stands id off len holds t.0, subst (λ (lane : Lane M). Works at lane s) (sym t.1) works, stands)
      by r t = absurd t
