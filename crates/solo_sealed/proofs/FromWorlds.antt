-- What a world says of the logs is what a lane needs to seal its own.
use Rattle.std.proofs.Common.{◌≡◌, ◌≢◌, ℕ, ◌+◌, ◌*◌, ◌<◌, ◌≤◌, ⊎_elim, Bool, true, List, [], ◌∷◌, length, slice_get, slice_index, Some, refl, sym, ap, ◌∙◌, subst, arith, get_or, length-append, ◌^◌}
use Rattle.std.proofs.lemmas.Bool.{cases_lt}
use Rattle.std.proofs.lemmas.List.Elements.{All-weaker}
use Rattle.std.proofs.lemmas.Option.{same_Some, slice_get-get_or}
use Rattle.pm_record.specs.Undo.{undo_of}
use Rattle.pm_record.specs.declared.undo.Undo.{Undo}
use Rattle.solo_view.specs.Log.{Final, Log, Recorded, log_drawn, phase_drawn}
use Rattle.solo_view.specs.Log.Phase.{Drawn, Idle}
use Rattle.solo_view.specs.Steps.Step.{Draw}
use Rattle.solo_view.specs.View.{View}
use Rattle.solo_view.specs.Views.{after}
use Rattle.pm_image.specs.Logs.{undo_slot}
use Rattle.solo_world.specs.Entries.{LeaveWord, ends_with, is_or_entered, seal_in}
use Rattle.solo_world.specs.Fits.{LaneFits}
use Rattle.solo_world.specs.History.{Entry, Flies, settled}
use Rattle.solo_world.specs.Lawful.{Allowed}
use Rattle.solo_world.specs.Memory.{Memory}
use Rattle.solo_world.specs.Memory.Location.{PoolWord}
use Rattle.solo_world.specs.Opening.{Opening}
use Rattle.solo_world.specs.Opens.{IsClean}
use Rattle.solo_world.specs.Records.{IsRecordAt, generation_of, records_generation, used_slots}
use Rattle.solo_world.specs.World.{Views, World}
use Rattle.solo_sealed.proofs.IdleLanes.{idle_clean}
use Rattle.solo_world.proofs.CrashSpellings.{undo_from, undo_of-spelled}
use Rattle.solo_world.proofs.Filled.{logged_drained}
use Rattle.solo_sealed.specs.Sealed.{HasWholeLog, IsOfPool, MaySeal, SealingLaw, pool_seen}

module _ (o : Opening) (mem : Memory) (views : Views) (log : List Entry) (decided : ℕ → Bool) (k n : ℕ) (world : World o mem views log decided) (inside : k < o.lanes)
    (rest : (j : ℕ) → j < o.lanes → j ≢ k → (views j).log.phase ≡ Idle) (sees : (w : ℕ) → mem (PoolWord w) ≡ slice_index (views k).words w) (may : Allowed (views k) (Draw n)) (whole : HasWholeLog (views k)) where
  abbrev v : View
  v = views k

  abbrev b : View
  b = after v (Draw n)

  mine : LaneFits o mem (settled o log decided) (Flies log decided k) k v
  mine = world.each_lane k inside

  size : length v.words ≡ 512 + 1024 * v.lanes + 33280 * v.zones
  size =
      let long = mine.lane.size in let all = world.sound.size in let lanes = mine.lane.lanes in let zones = mine.lane.zones in
      omega (arith, long, all, lanes, zones)

  -- a draw with entries leaves the call drawn, and not at its end
  some_entries : (records : List Recorded) (entries : List Final) → 1 ≤ length entries → phase_drawn records entries ≡ Drawn
  some_entries [] [] some = absurd (omega (arith, some))
  some_entries [] (f ∷ entries) some = refl
  some_entries (r ∷ records) entries some = refl

  drawn_log : b.log ≡ record v.log { phase = phase_drawn v.log.records v.log.entries }
  drawn_log = ap (λ p. log_drawn p v.log) may.is_open

  long : length v.log.entries ≡ length whole.front + 1
  long = ap length whole.ends ∙ length-append whole.front (ends_with v (generation_of v + 1) ∷ [])

  drawn : b.log.phase ≡ Drawn
  drawn =
      ap (λ (l : Log). l.phase) drawn_log
      ∙ some_entries v.log.records v.log.entries (let some = long in omega (arith, some))

  entries_same : b.log.entries ≡ v.log.entries
  entries_same = ap (λ (l : Log). l.entries) drawn_log

  -- a slot has no record of a generation to come
  at_work : records_generation v.log.phase v ≡ generation_of v
  at_work = ap (λ p. records_generation p v) may.is_open

  used : used_slots v.log.phase v ≡ length v.log.records
  used = ap (λ p. used_slots p v) may.is_open

  stale : (slot : ℕ) (u : Undo) → slot < 64 → undo_of (undo_slot v.words v.lane slot) ≡ Some u → u.generation ≤ generation_of v
  stale slot u low there = ⊎_elim
      (λ (recorded : slot < length v.log.records).
      let r : Recorded = get_or v.log.records slot (record { word = 0; old = [] }) in
      let at : IsRecordAt v slot r = slice_get-get_or v.log.records slot (record { word = 0; old = [] }) recorded in
      let g : ℕ = records_generation v.log.phase v in
      let read : Some (undo_from g r) ≡ Some u = sym (undo_of-spelled g r (mine.log.each slot r at).most) ∙ (ap undo_of (sym (mine.log.stored slot r at)) ∙ there) in
      let is : g ≡ u.generation = ap (λ (x : Undo). x.generation) (same_Some (undo_from g r) u read) in
      let same = at_work in omega (arith, is, same))
      (λ (free : length v.log.records ≤ slot). let older = mine.log.stale slot u (let n_used = used in omega (arith, free, n_used)) low there in let same = at_work in omega (arith, older, same))
      (cases_lt slot (length v.log.records))

  clean : (j : ℕ) → j < o.lanes → j ≢ k → IsClean (pool_seen b) j
  clean j in_lanes other =
      let c = idle_clean o mem views log decided world v.words mine.lane.size sees j in_lanes (rest j in_lanes other) in
      record { unsealed = c.unsealed; first_generation = c.first_generation; last_generation = c.last_generation; stale = c.stale }

  may_seal : MaySeal b
  may_seal = record {
    in_lanes = let lanes = mine.lane.lanes in let lane = mine.lane.lane in omega (arith, lanes, lane, inside);
    size = size;
    drawn = drawn;
    drained = logged_drained v may.drained (λ records none. let size_none = ap length none in let some = long in absurd (omega (arith, size_none, some)));
    few = subst (λ fs. length fs ≤ 64) (sym entries_same) mine.entries.most;
    front = whole.front;
    ends = entries_same ∙ whole.ends;
    of_pool = All-weaker (IsOfPool v) (IsOfPool b) (λ f of. record { outside = of.outside; inside = of.inside }) whole.front whole.of_pool;
    spelled = λ i f at. let s = mine.entries.each i f (ap (λ fs. slice_get fs i) (sym entries_same) ∙ at) in record { op = s.op; value = s.value; is = s.is; word = s.may.word; spells = s.spells };
    small = subst (λ fs. (w : ℕ) → is_or_entered fs w ≡ true → (slice_index v.words w < 2 ^ 64) × LeaveWord fs w) (sym entries_same) whole.small;
    first = mine.first_generation;
    below = whole.below;
    unsealed = mine.entries.seal ∙ ap (λ p. seal_in p v) may.is_open;
    stale = stale;
    clean = λ j low other. let lanes = mine.lane.lanes in clean j (omega (arith, lanes, low)) (λ same. other (same ∙ sym mine.lane.lane));
  }

pub leads_to_seal : SealingLaw
leads_to_seal o mem views log decided k n world inside rest sees may whole = may_seal o mem views log decided k n world inside rest sees may whole
