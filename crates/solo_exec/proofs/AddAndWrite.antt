-- A range that is recorded, written or read at work.
use Rattle.std.proofs.Common.{◌≡◌, ◌≢◌, ◌⊎◌, ⊎_elim, inl, inr, ℕ, ◌+◌, ◌*◌, ◌/◌, ◌<◌, ◌≤◌, Bool, false, Contains, cond, eqb, List, [], ◌∷◌, ◌++◌, length, slice_index, take, Option, None, Some, refl, sym, ap, ◌∙◌, subst, arith}
use Rattle.solo_crash.specs.Writes.{words_written, written_word}
use Rattle.solo_memory.specs.Solo.{Sees, Solo}
use Rattle.solo_model.specs.Bytes.{covered_words, is_among}
use Rattle.pm_objects.specs.declared.history.TxErr.TheVariants as error
use Rattle.pm_objects.specs.declared.calls.Operation.{Operation}
use Rattle.pm_objects.specs.declared.calls.Operation.TheVariants as operation
use Rattle.pm_objects.specs.declared.ids.Oid.{Oid}
use Rattle.pm_objects.specs.declared.refusal.Refusal.{Refusal}
use Rattle.pm_objects.specs.declared.refusal.Refusal.TheVariants as refusal
use Rattle.solo_script.specs.declared.script.ScriptOp.{ScriptOp}
use Rattle.solo_script.specs.declared.script.ScriptOp.TheVariants as op
use Rattle.solo_crash.specs.OpenCall.{words_recorded}
use Rattle.solo_tx.proofs.LineStores.{add_stores, write_stores}
use Rattle.solo_tx.proofs.PlannedWords.{plan_short}
use Rattle.solo_tx.specs.Sequences.{word_count}
use Rattle.solo_crash.proofs.CallBlocks.{same_blocks}
use Rattle.solo_crash.proofs.SeenAlone.{works_where_seen}
use Rattle.solo_crash.specs.Alone.{WorksAlone}
use Rattle.solo_crash.specs.CallBlocks.{CallBlocks, blocks_in}
use Rattle.solo_crash.specs.OpenCall.{IsUnderBlock}
use Rattle.solo_crash.specs.Operations.{HasNewRange, IsMade}
use Rattle.solo_lock.proofs.Leads.{ready_led}
use Rattle.solo_lock.specs.Leading.{DrawEnded, LeaveBlocks}
use Rattle.solo_made.specs.Made.{BlockLists}
use Rattle.pm_objects.specs.declared.history.Value.{Value}
use Rattle.pm_objects.specs.declared.history.Value.TheVariants.{Refused}
use Rattle.solo_transaction.proofs.EndingAlone.{may_allocate}
use Rattle.solo_transaction.proofs.NewRangeWords.{covered_outside}
use Rattle.solo_transaction.specs.AnyRanges.{IsStoppedAnywhere, IsStoppedRefusing}
use Rattle.solo_transaction.specs.AtWork.{IsAtWorkWith}
use Rattle.solo_transaction.specs.NewRanges.{HasAddedNew, HasWrittenNew, adds_new}
use Rattle.solo_view.specs.Blocks.{zone_page}
use Rattle.solo_view.specs.Steps.Step.{Tell}
use Rattle.solo_world.proofs.Apart.{area_bounds}
use Rattle.std.proofs.lemmas.Bool.{and_parts, false_from_ne_true, leb-true}
use Rattle.solo_view.specs.Counts.{counted as calls_in, stores_among}
use Rattle.solo_view.specs.Log.{Recorded}
use Rattle.solo_tx.proofs.Leading.{looks_lead as looks_led}
use Rattle.solo_tx.proofs.StepKinds.{only_one}
use Rattle.solo_tx.proofs.StoreCounts.{none_in_one}
use Rattle.solo_tx.proofs.WrittenBytes.{counted_covered}
use Rattle.solo_tx.specs.Sequences.{gives_up}
use Rattle.solo_tx.proofs.Unraised.{IsWork, added_outside, adds_work, writes_work}
use Rattle.solo_tx.specs.Calls.{HasLooked}
use Rattle.solo_tx.specs.Ending.{IsEndedBy, IsStoppedIn}
use Rattle.solo_tx.specs.Learning.{Looks}
use Rattle.solo_tx.specs.Ranges.{CanAdd, CanWrite, HasAddedRange, HasWrittenRange, adds_range, writes_range}
use Rattle.solo_tx.specs.Stages.{is_work, work_refusal}
use Rattle.solo_view.specs.Area.{is_in_area}
use Rattle.solo_undo.specs.Working.{IsWorking}
use Rattle.solo_view.specs.View.{Told, View}
use Rattle.solo_view.specs.Views.{after_all}
use Rattle.solo_world.specs.Opening.{Opening}
use Rattle.solo_world.specs.Sequences.{Ready, Sequence, by_view, one}
use Rattle.solo_world.specs.declared.lane.Span.{Span}
use Rattle.solo_script.specs.declared.script.ScriptWant.{ScriptWant}
use Rattle.solo_world.specs.declared.lane.Lane.{Lane}
use Rattle.solo_world.specs.declared.lane.Stage.{Stage}
use Rattle.solo_world.specs.declared.lane.Stage.TheVariants as stage
use Rattle.solo_exec.specs.Bounds.{most_stores}
use Rattle.solo_exec.proofs.FewStores.{added_count}
use Rattle.solo_exec.specs.Calls.{id_of, operation_of}
use Rattle.solo_script.specs.declared.script.ScriptId.{ScriptId}
use Rattle.solo_script.specs.declared.script.ScriptLine.{ScriptLine}
use Rattle.solo_exec.specs.Course.{CameToGiveUp, IsFree, IsGivenUpMade, IsLineMade, IsLineStopped, IsRefusalMade, add_calls, spans_of, write_calls}
use Rattle.solo_exec.specs.Replies.{IsToldDone, Values, done}
use Rattle.solo_exec.specs.Progress.{IsAtLine, IsCut, IsGivenUpAt, IsNotDone, not_done}
use Rattle.solo_exec.specs.declared.calls.Names.{Names}
use Rattle.solo_exec.proofs.LineLists.{gave_nothing, words_more}
use Rattle.solo_exec.specs.Torn.{words_after, words_by}
use Rattle.solo_exec.proofs.ChangeLines.{at_next, calm_behind, cut_ended, cut_in, free_u, lane_u, over_ended, spans_u, words_u}
use Rattle.solo_exec.proofs.QuietSequences.{quiet_in_write}
use Rattle.solo_exec.proofs.UndrawnSteps.{IsUndrawn, Keeps, adds_undrawn, all_undrawn_keep, writes_undrawn}
use Rattle.solo_exec.proofs.Along.{same_along}
use Rattle.solo_exec.proofs.LooksAlone.{looks_none, looks_same}
use Rattle.solo_pending.specs.declared.pending.PendingActions.{PendingActions}
use Rattle.solo_model.specs.Checks.{is_action}

-- one telling is no counted call
pub tells_leave : (operation : Operation) (reply : Option Value) (v : View) → LeaveBlocks v (one (Tell operation reply) v)
unfolding one LeaveBlocks
tells_leave operation reply v = ((λ i. v.reserved), tt)

pub tells_uncounted : (operation : Operation) (reply : Option Value) (v : View) → calls_in (one (Tell operation reply) v) ≡ 0
unfolding one calls_in
tells_uncounted operation reply v = refl

-- a lane at work is not refused for its stage
pub unrefused : (lane : Lane Solo) → lane.stopped ≡ false → lane.level ≡ 1 → lane.stage ≡ stage.Work → work_refusal lane ≡ None
unrefused lane unstopped level works =
    ap (λ (b : Bool). cond b (Some refusal.Stopped) (cond (eqb lane.level 0) (Some refusal.NoTx) (cond (is_work lane.stage) None (Some refusal.NotWork)))) unstopped
    ∙ ap (λ (n : ℕ). cond (eqb n 0) (Some refusal.NoTx) (cond (is_work lane.stage) None (Some refusal.NotWork))) level
    ∙ ap (λ (s : Stage). cond (is_work s) None (Some refusal.NotWork)) works

-- a line that is no begin is given up with its records
pub given_up_so : (names : Names) (x : ScriptOp) (r : Refusal) (v : View) → ((asked : List ScriptWant) → x ≡ op.Begin asked → ⊥) → (w : View) → IsGivenUpMade names x r v w → IsRefusalMade names x r v w
given_up_so names (op.Begin asked) r v other w g = absurd (other asked refl)
given_up_so names (op.Add id off len) r v other w g = g
given_up_so names (op.Write id off bytes) r v other w g = g
given_up_so names (op.Read id off len) r v other w g = g
given_up_so names (op.Alloc letter size kind) r v other w g = g
given_up_so names (op.Free id) r v other w g = g
given_up_so names (op.Reserve letter size kind) r v other w g = g
given_up_so names (op.WriteReserved id off bytes) r v other w g = g
given_up_so names (op.DeferFree id) r v other w g = g
given_up_so names (op.Set id off value) r v other w g = g
given_up_so names op.Publish r v other w g = g
given_up_so names op.Cancel r v other w g = g
given_up_so names op.Commit r v other w g = g

module _ (o : Opening) (first : View) (lane : Lane Solo) (blocks : BlockLists) (actions : PendingActions) (names : Names) (front : List ScriptLine) (values : Values) (a : IsAtLine o first lane blocks actions names front values) (new : Lane Solo) (said : ScriptLine) where
  -- what is not done is given up, or the lane stops
  pub ends_so : (now : BlockLists) (rest : List ScriptLine) (after_line : Values) (r : Refusal) → r ≢ refusal.Spent → values ≡ after_line → (r ≢ refusal.Stopped → IsGivenUpAt o first new now actions names (front ++ said ∷ rest) values said.line r)
      → (r ≡ refusal.Stopped → IsCut o first new names (front ++ said ∷ rest) values) → IsNotDone o first new now actions names (front ++ said ∷ rest) after_line (not_done said.line r)
  ends_so now rest after_line r some same over cut = subst (λ (vs : Values). IsNotDone o first new now actions names (front ++ said ∷ rest) vs (not_done said.line r)) same (of r some over cut)
    where
      of : (r : Refusal) → r ≢ refusal.Spent → (r ≢ refusal.Stopped → IsGivenUpAt o first new now actions names (front ++ said ∷ rest) values said.line r) → (r ≡ refusal.Stopped → IsCut o first new names (front ++ said ∷ rest) values)
          → IsNotDone o first new now actions names (front ++ said ∷ rest) values (not_done said.line r)
      of refusal.Stopped some over cut = cut refl
      of refusal.Spent some over cut = absurd (some refl)
      of r some over cut = over (λ e. absurd cc)

  -- the fields of a lane whose call was given up
  abbrev pub IsGivenUpBy : Refusal → Type 0
  IsGivenUpBy r = new ≡ record lane { memory = new.memory; records = new.records; entries = new.entries; stage = stage.OnAbort; error = error.Refused r; drawn = Some new.last; last = new.last }

  -- what is given up for a line, behind some looks
  pub given_up : (x : Operation) → x ≡ operation_of names said.operation → (r : Refusal) (n : ℕ) (u : View) → Looks n a.view u → IsWorking u → IsEndedBy Sees new u (gives_up lane.records.items x (Some (Refused r)) new.last) x (Some (Refused r)) → IsGivenUpBy r
      → ((asked : List ScriptWant) → said.operation ≡ op.Begin asked → ⊥) → is_action x ≡ false → CameToGiveUp x r a.view u → (rest : List ScriptLine) → IsGivenUpAt o first new blocks actions names (front ++ said ∷ rest) values said.line r
  given_up x x_is r n u looks working ended fields other gives came rest =
      over_ended o first lane blocks actions names front values a n u looks new said working r (subst (λ (y : Operation). CameToGiveUp y r a.view u) x_is came)
      (subst (λ (y : Operation). IsEndedBy Sees new u (gives_up lane.records.items y (Some (Refused r)) new.last) y (Some (Refused r))) x_is ended) (ap is_action (sym x_is) ∙ gives)
      (ap (λ (l : Lane Solo). l.level) fields ∙ a.level) (ap (λ (l : Lane Solo). l.stage) fields) (ap (λ (l : Lane Solo). l.error) fields) (given_up_so names said.operation r a.view other) rest

  -- the lane stopped as it gave the call up
  pub cut_giving_up : (x : Operation) → x ≡ operation_of names said.operation → (r : Refusal) (n : ℕ) (u : View) → Looks n a.view u → IsWorking u → CameToGiveUp x r a.view u → IsStoppedIn Sees new u (gives_up lane.records.items x (Some (Refused r)) new.last) x (Some (Refused r))
      → (rest : List ScriptLine) → IsCut o first new names (front ++ said ∷ rest) values
  cut_giving_up x x_is r n u looks working came stopped rest =
      cut_ended o first lane blocks actions names front values a n u looks new said working rest r (subst (λ (y : Operation). CameToGiveUp y r a.view u) x_is came)
      (subst (λ (y : Operation). IsStoppedIn Sees new u (gives_up lane.records.items y (Some (Refused r)) new.last) y (Some (Refused r))) x_is stopped)

  -- a word of a block that it found lies outside of its area
  pub under_outside : (i : ℕ) → IsUnderBlock a.view i → (k : ℕ) → k ≡ 0 → is_in_area k i ≡ false
  under_outside i under k is = ap (λ n. is_in_area n i) is ∙ false_from_ne_true (is_in_area 0 i) (λ area.
      let chunk = a.works.work.under_way.chunks under.lock under.lines under.held under.found in
      let low = leb-true (zone_page a.view.lanes 0) (under.lock.line / 64) (and_parts _ _ chunk).0 in
      let from = under.from in
      let high = (area_bounds 0 i area).1 in
      let lanes = a.works.work.under_way.in_lanes in
      omega (arith, low, from, high, lanes))

  pub works_here : WorksAlone o a.header a.pool first a.steps a.view
  works_here = works_where_seen o a.header a.pool lane.memory first a.view a.steps a.begins a.leads a.works.work.seen.memory

  module _ (id : ScriptId) (place : Oid) (place_is : place ≡ id_of names id) (off len : ℕ) (is : said.operation ≡ op.Add id off len) where
    pub add_is : operation.AddRange place off len ≡ operation_of names said.operation
    add_is = ap (λ (i : Oid). operation.AddRange i off len) place_is ∙ ap (operation_of names) (sym is)

    abbrev covered : ℕ
    covered = word_count (place.off + off) len

    abbrev adds : Sequence
    adds = adds_range lane.records.items place off len

    adds_here : (n : ℕ) (u : View) → Looks n a.view u → adds u ≡ add_calls names id off len u
    unfolding by_view
    adds_here n u looks =
        ap (λ (s : List Span). adds_range s place off len u) (spans_u o first lane blocks actions names front values a n u looks) ∙ ap (λ (i : Oid). adds_range (spans_of u) i off len u) place_is

    -- eight stores for each record, and a record for each word at most
    add_stored : (u : View) → stores_among (adds u) ≤ 8 * covered
    add_stored u = let all = add_stores lane.records.items place off len u in let few = plan_short lane.records.items (place.off + off) len in omega (arith, all, few)

    add_good : most_stores names said.operation ≡ 9 * covered
    add_good = ap (most_stores names) is ∙ ap (λ (i : Oid). 9 * word_count (i.off + off) len) (sym place_is)

    abbrev told_add : Told
    told_add = done (operation.AddRange place off len)

    add_told : IsToldDone names said.operation told_add
    add_told = subst (λ (x : ScriptOp). IsToldDone names x told_add) (sym is) (ap (λ (i : Oid). done (operation.AddRange i off len)) place_is)

    -- it changes no word of what was found
    adds_none : (u : ℕ → ℕ) (i : ℕ) → words_after names (front ++ said ∷ []) u i ≡ words_after names front u i
    adds_none u i = words_more names front said u i ∙ ap (λ (x : ScriptOp). words_by names x (words_after names front u) i) is

    -- of an object that the call found
    pub add_done : HasLooked a.view (λ w. CanAdd w place off len × HasAddedRange o Sees new w lane.records.items place off len × IsAtWorkWith o Sees new blocks (after_all w (adds w))) → new.level ≡ 1 → new.locks ≡ lane.locks
        → IsAtLine o first new blocks actions names (front ++ said ∷ []) values
    add_done t level locks =
        let n = t.loads in
        let u : View = t.view in
        let h = t.holds.1 in
        let lane_is = lane_u o first lane blocks actions names front values a n u t.looks in
        at_next o first lane blocks actions names front values a n u t.looks new adds (adds_work lane.records.items place off len u lane_is) (adds_undrawn lane.records.items place off len u lane_is) said h.ready h.draws t.holds.2 level locks
        told_add add_told h.added.tells.call
        (λ i under. h.added.keeps.words i (under_outside i under u.lane lane_is) ∙ (words_u o first lane blocks actions names front values a n u t.looks i under ∙ sym (adds_none (slice_index o.words) i)))
        values (gave_nothing names front said a.view.call told_add values a.told refl a.gave)
        (subst (λ (x : ScriptOp). IsLineMade names x a.view (after_all u (adds u))) (sym is) (inl (record { start = u; free = free_u o first lane blocks actions names front values a n u t.looks; is = ap (after_all u) (adds_here n u t.looks) })))
        (let grown = added_count u (after_all u (adds u)) place off len h.added in let stored = add_stored u in let good = add_good in omega (arith, grown, stored, good)) (λ p. refl) (λ p. refl) (λ p b. refl)

    -- of one that it made, which makes no memory call
    pub add_new_done : IsMade a.view place → HasAddedNew o Sees new blocks a.view place off len → new.level ≡ 1 → new.locks ≡ lane.locks → IsAtLine o first new blocks actions names (front ++ said ∷ []) values
    unfolding adds_new
    add_new_done has h level locks =
        let steps : Sequence = one (Tell (operation.AddRange place off len) None) in
        let v : View = a.view in
        let looks = looks_none v in
        let lane_is = lane_u o first lane blocks actions names front values a 0 v looks in
        let kept : Keeps v (after_all v (steps v)) = all_undrawn_keep v (steps v) (only_one IsUndrawn (Tell (operation.AddRange place off len) None) tt v lane_is) in
        let stored = none_in_one (Tell (operation.AddRange place off len) None) refl v in
        let free : IsFree v (after_all v (steps v)) = record { led = ready_led v (steps v) h.ready h.draws (tells_uncounted (operation.AddRange place off len) None v) (tells_leave (operation.AddRange place off len) None v) kept.heap; undrawn = kept.entries } in
        at_next o first lane blocks actions names front values a 0 v looks new steps (only_one IsWork (Tell (operation.AddRange place off len) None) tt v lane_is)
        (only_one IsUndrawn (Tell (operation.AddRange place off len) None) tt v lane_is) said h.ready h.draws h.works level locks told_add add_told h.added.tells.call
        (λ i under. h.added.keeps.words i (under_outside i under v.lane lane_is) ∙ (a.words i under ∙ sym (adds_none (slice_index o.words) i)))
        values (gave_nothing names front said a.view.call told_add values a.told refl a.gave)
        (subst (λ (x : ScriptOp). IsLineMade names x a.view (after_all v (steps v))) (sym is) (inr (subst (IsMade v) place_is has, free)))
        (let same = ap (λ (rs : List Recorded). length (words_recorded rs)) h.added.logs.records in omega (arith, stored, same)) (λ p. refl) (λ p. refl) (λ p b. refl)

    pub add_cut : (rest : List ScriptLine)
        → HasLooked a.view (IsStoppedAnywhere Sees new lane.records.items (operation.AddRange place off len) (record { id = place; off = off; len = len }) (λ u. CanAdd u place off len) adds) → IsCut o first new names (front ++ said ∷ rest) values
    add_cut rest t =
        let n = t.loads in
        let u : View = t.view in
        let lane_is = lane_u o first lane blocks actions names front values a n u t.looks in
        let spans = lane.records.items in
        ⊎_elim
        (λ (can : CanAdd u place off len × IsStoppedIn Sees new u adds (operation.AddRange place off len) None).
        let stopped = can.1 in
        cut_in o first lane blocks actions names front values a n u t.looks new adds (adds_work spans place off len u lane_is) (adds_undrawn spans place off len u lane_is) said rest
        (subst (λ (x : Operation). IsStoppedIn Sees new u adds x None) add_is stopped)
        (inr (record {
          front = front;
          rest = said ∷ rest;
          is_all = refl;
          before = a.view;
          steps = a.steps;
          leads = a.leads;
          objects = a.works.work.objects;
          there = (may_allocate o a.header a.pool Sees lane first a.view a.steps works_here blocks a.works).can.run.locked;
          words = a.words;
          loads = n;
          view = u;
          looks = t.looks;
          working = t.working;
          spans = spans;
          spans_are = spans_u o first lane blocks actions names front values a n u t.looks;
          id = place;
          off = off;
          len = len;
          ready = stopped.ready;
          draws = stopped.draws;
          made = stopped.stops.made;
          is = refl;
        }))
        (add_calls names id off len) (adds_here n u t.looks) (λ m by. subst (λ (x : ScriptOp). IsLineStopped names x a.view m) (sym is) by)
        (let stored = add_stored u in let good = add_good in omega (arith, stored, good)))
        (λ (s : IsStoppedRefusing Sees new spans (operation.AddRange place off len) (record { id = place; off = off; len = len }) u). cut_giving_up (operation.AddRange place off len) add_is s.refusal n u t.looks t.working tt s.stopped rest)
        t.holds

  module _ (id : ScriptId) (target : Oid) (target_is : target ≡ id_of names id) (off : ℕ) (bytes : List ℕ) (is : said.operation ≡ op.Write id off bytes) where
    pub write_is : operation.Write target off bytes ≡ operation_of names said.operation
    write_is = ap (λ (i : Oid). operation.Write i off bytes) target_is ∙ ap (operation_of names) (sym is)

    abbrev steps : Sequence
    steps = writes_range target off bytes

    writes_here : (u : View) → steps u ≡ write_calls names id off bytes u
    writes_here u = ap (λ (i : Oid). writes_range i off bytes u) target_is

    write_stored : (u : View) → stores_among (steps u) ≡ most_stores names said.operation
    write_stored u = write_stores target off bytes u ∙ ap (λ (i : Oid). word_count (i.off + off) (length bytes)) target_is ∙ sym (ap (most_stores names) is)

    -- the words that are written lie outside of the lane's area
    abbrev WritesOutside : Type 0
    WritesOutside = (k : ℕ) → k < word_count (target.off + off) (length bytes) → is_in_area 0 ((target.off + off) / 8 + k) ≡ false

    found_outside : (n : ℕ) (u : View) → Looks n a.view u → IsWorking u → CanWrite u target off (length bytes) → WritesOutside
    found_outside n u looks working can = added_outside u (target.off + off) (length bytes) (lane_u o first lane blocks actions names front values a n u looks) working can.added

    new_outside : HasNewRange a.view target off (length bytes) → WritesOutside
    new_outside range k low =
        let place : ℕ = target.off + off in
        ap (λ n. is_in_area n (place / 8 + k)) (sym a.of_lane) ∙ covered_outside o Sees lane blocks a.view a.works target off (length bytes) range (place / 8 + k) (counted_covered place (length bytes) k low)

    -- so it is of an object that it made as it was seen behind some looks
    new_before : (n : ℕ) (u : View) → Looks n a.view u → HasNewRange u target off (length bytes) → HasNewRange a.view target off (length bytes)
    new_before n u looks range =
        let same = looks_same n a.view u looks a.works.alone in
        let lists : blocks_in u ≡ blocks_in a.view = same_blocks a.view u same.entries same.call in
        record {
          made = record {
            new = range.made.new;
            has = subst (λ (b : CallBlocks). Contains b.made range.made.new) lists range.made.has;
            of_pool = range.made.of_pool ∙ (same_along a.view u _ (looks_led n a.view u looks).1.0).pool;
            place = range.made.place;
          };
          inside = range.inside;
        }

    abbrev told_write : Told
    told_write = done (operation.Write target off bytes)

    write_told : IsToldDone names said.operation told_write
    write_told = subst (λ (x : ScriptOp). IsToldDone names x told_write) (sym is) (ap (λ (i : Oid). done (operation.Write i off bytes)) target_is)

    written_same : (i : ℕ) (v w : ℕ → ℕ) → v i ≡ w i → words_written (target.off + off) bytes v i ≡ words_written (target.off + off) bytes w i
    written_same i v w same = ap (λ (x : ℕ). cond (is_among (covered_words (target.off + off) (length bytes)) i) (written_word (target.off + off) bytes i x) x) same

    written_then : (i : ℕ) (u : View) → slice_index u.words i ≡ words_after names front (slice_index o.words) i → words_written (target.off + off) bytes (slice_index u.words) i ≡ words_after names (front ++ said ∷ []) (slice_index o.words) i
    written_then i u before =
        written_same i (slice_index u.words) (words_after names front (slice_index o.words)) before
        ∙ (ap (λ (p : Oid). words_written (p.off + off) bytes (words_after names front (slice_index o.words)) i) target_is
        ∙ sym (words_more names front said (slice_index o.words) i ∙ ap (λ (x : ScriptOp). words_by names x (words_after names front (slice_index o.words)) i) is))

    -- written, behind some looks
    written : (n : ℕ) (u : View) (looks : Looks n a.view u) → WritesOutside → Ready u (steps u) → DrawEnded u (steps u) → IsAtWorkWith o Sees new blocks (after_all u (steps u)) → (after_all u (steps u)).call ≡ u.call ++ told_write ∷ []
        → (after_all u (steps u)).log.records ≡ u.log.records → ((i : ℕ) → is_in_area u.lane i ≡ false → slice_index (after_all u (steps u)).words i ≡ words_written (target.off + off) bytes (slice_index u.words) i)
        → new.level ≡ 1 → new.locks ≡ lane.locks → IsAtLine o first new blocks actions names (front ++ said ∷ []) values
    written n u looks outside ready draws works call records words level locks =
        let lane_is = lane_u o first lane blocks actions names front values a n u looks in
        at_next o first lane blocks actions names front values a n u looks new steps (writes_work target off bytes outside u lane_is) (writes_undrawn target off bytes u lane_is) said ready draws works level locks told_write write_told call
        (λ i under. words i (under_outside i under u.lane lane_is) ∙ written_then i u (words_u o first lane blocks actions names front values a n u looks i under))
        values (gave_nothing names front said a.view.call told_write values a.told refl a.gave)
        (subst (λ (x : ScriptOp). IsLineMade names x a.view (after_all u (steps u))) (sym is) (record { start = u; free = free_u o first lane blocks actions names front values a n u looks; is = ap (after_all u) (writes_here u) }))
        (let same = ap (λ (rs : List Recorded). length (words_recorded rs)) records in let stored = write_stored u in omega (arith, same, stored)) (λ p. refl) (λ p. refl) (λ p b. refl)

    pub write_done : HasLooked a.view (λ w. CanWrite w target off (length bytes) × HasWrittenRange o Sees new w target off bytes × IsAtWorkWith o Sees new blocks (after_all w (steps w))) → new.level ≡ 1 → new.locks ≡ lane.locks
        → IsAtLine o first new blocks actions names (front ++ said ∷ []) values
    write_done t level locks =
        let h = t.holds.1 in
        written t.loads t.view t.looks (found_outside t.loads t.view t.looks t.working t.holds.0) h.ready h.draws t.holds.2 h.written.tells.call h.written.logs.records h.written.written level locks

    pub write_new_done : HasWrittenNew o Sees new blocks a.view target off bytes → new.level ≡ 1 → new.locks ≡ lane.locks → IsAtLine o first new blocks actions names (front ++ said ∷ []) values
    write_new_done h level locks = written 0 a.view (looks_none a.view) (new_outside h.written.range) h.ready h.draws h.works h.written.tells.call h.written.logs.records h.written.written level locks

    pub write_cut : (rest : List ScriptLine)
        → HasLooked a.view (IsStoppedAnywhere Sees new lane.records.items (operation.Write target off bytes) (record { id = target; off = off; len = length bytes }) (λ u. CanWrite u target off (length bytes) ⊎ HasNewRange u target off (length bytes)) steps)
        → IsCut o first new names (front ++ said ∷ rest) values
    write_cut rest t =
        let n = t.loads in
        let u : View = t.view in
        let lane_is = lane_u o first lane blocks actions names front values a n u t.looks in
        ⊎_elim
        (λ (can : (CanWrite u target off (length bytes) ⊎ HasNewRange u target off (length bytes)) × IsStoppedIn Sees new u steps (operation.Write target off bytes) None).
        let stopped = can.1 in
        let outside : WritesOutside = ⊎_elim (λ (found : CanWrite u target off (length bytes)). found_outside n u t.looks t.working found)
        (λ (range : HasNewRange u target off (length bytes)). new_outside (new_before n u t.looks range)) can.0 in
        cut_in o first lane blocks actions names front values a n u t.looks new steps (writes_work target off bytes outside u lane_is) (writes_undrawn target off bytes u lane_is) said rest
        (subst (λ (x : Operation). IsStoppedIn Sees new u steps x None) write_is stopped)
        (inl (calm_behind o first lane blocks actions names front values a n u t.looks (after_all u (take stopped.stops.made (steps u))) t.working (λ quiet. quiet_in_write u target off bytes stopped.stops.made quiet outside)))
        (write_calls names id off bytes) (writes_here u) (λ m by. subst (λ (x : ScriptOp). IsLineStopped names x a.view m) (sym is) by)
        (let stored = write_stored u in omega (arith, stored)))
        (λ (s : IsStoppedRefusing Sees new lane.records.items (operation.Write target off bytes) (record { id = target; off = off; len = length bytes }) u). cut_giving_up (operation.Write target off bytes) write_is s.refusal n u t.looks t.working tt s.stopped rest)
        t.holds

-- no line is refused as spent
pub not_spent : (r last : Refusal) → last ≢ refusal.Spent → (r ≡ refusal.NotLocked) ⊎ (r ≡ refusal.NoObject) ⊎ (r ≡ refusal.OutOfRange) ⊎ (r ≡ last) ⊎ (r ≡ refusal.Stopped) → r ≢ refusal.Spent
not_spent r last some (inl is) = λ spent. let clash : refusal.NotLocked ≡ refusal.Spent = sym is ∙ spent in cc
not_spent r last some (inr (inl is)) = λ spent. let clash : refusal.NoObject ≡ refusal.Spent = sym is ∙ spent in cc
not_spent r last some (inr (inr (inl is))) = λ spent. let clash : refusal.OutOfRange ≡ refusal.Spent = sym is ∙ spent in cc
not_spent r last some (inr (inr (inr (inl is)))) = λ spent. some (sym is ∙ spent)
not_spent r last some (inr (inr (inr (inr is)))) = λ spent. let clash : refusal.Stopped ≡ refusal.Spent = sym is ∙ spent in cc
