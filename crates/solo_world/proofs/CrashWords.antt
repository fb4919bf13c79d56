-- Which words of an image are as the lanes left them.
use Rattle.std.proofs.Common.{◌≡◌, ℕ, ◌+◌, ◌-◌, ◌*◌, ◌<◌, ◌≤◌, ◌⊎◌, inl, inr, ⊎_elim, leb, ltb, Bool, true, false, All, Contains, List, [], ◌∷◌, length, take, drop, slice_index, slice_range, get_or, refl, sym, ap, ◌∙◌, subst, arith, ◌^◌}
use Rattle.std.proofs.lemmas.Bool.{and_from, false≢true, le-leb, lt-ltb}
use Rattle.std.proofs.lemmas.List.{ext_get_or, get_or-take, get_or-drop, length-take, length-drop}
use Rattle.std.proofs.lemmas.List.Elements.{All-head, All-weaker}
use Rattle.std.specs.Int.{bit_at}
use Rattle.solo_view.specs.declared.change.Change.{Change}
use Rattle.solo_view.specs.Area.{area_word, is_in_area, part_of}
use Rattle.solo_view.specs.Bits.{all_bits}
use Rattle.solo_view.specs.Area.Part.{EntryWord, SlotWord}
use Rattle.solo_view.specs.Held.{is_reserved}
use Rattle.solo_view.specs.Log.{Phase, Final}
use Rattle.solo_view.specs.Log.Phase.{Idle, Open, Drawn, Sealing, Applying, Clearing, Retiring}
use Rattle.solo_view.specs.Occupancy.{is_idle}
use Rattle.solo_view.specs.Rights.{is_written}
use Rattle.solo_view.specs.Survivors.{all_taken_back}
use Rattle.solo_view.specs.View.{View}
use Rattle.solo_view.proofs.Finding.{whole-taken_back}
use Rattle.pm_image.specs.Logs.{seal_word, slot_line, undo_slot}
use Rattle.solo_world.specs.Crash.{IsUndrained, Survives}
use Rattle.solo_world.specs.Fits.{LaneFits, RecordedWordFits, IsOfEntries, ReservedChange}
use Rattle.solo_world.specs.History.{Entry, Flies, settled}
use Rattle.solo_world.specs.Memory.{Memory}
use Rattle.solo_world.specs.Memory.Location.{PoolWord}
use Rattle.solo_world.specs.Opening.{Opening}
use Rattle.solo_world.specs.Entries.{is_entered, is_redone, seal_in, AgreeBeside, is_or_entered, EntersAlone, IsGrowing}
use Rattle.solo_world.specs.Records.{is_recorded, is_drained_slot, is_logged, records_generation}
use Rattle.solo_world.specs.World.{Views, World}
use Rattle.pm_record.specs.declared.redo.Op.TheVariants.{Set}
use Rattle.solo_world.proofs.CrashLogs.{ChangeFits, change_fits, ChangeLies, InArea, change_lies, slot_part, entry_part, entered_front, entry_of_word, whole_word, RecordOf, record_of, recorded_word, logged_recorded, drained_slot, SealIs}
use Rattle.solo_world.proofs.Exclusion.{WritesUnder, writes_under, one_writer}
use Rattle.solo_world.proofs.TakenBits.{IsOfWord, left_beside, left_small}
use Rattle.solo_world.proofs.Reserved.{IsApart, reserved_apart}

-- an undrained change of the word was taken back: the word has the old value, where the change is of all of it
pub record TakenBack (views : Views) (lanes : ℕ) (image : List ℕ) (w : ℕ) : Type 0 where
  pub change : Change
  pub lane : ℕ
  pub of_lane : lane < lanes
  pub there : Contains (views lane).changes change
  pub of_word : change.word ≡ w
  pub is_old : change.mask ≡ all_bits → slice_index image w ≡ change.old

-- of a change of this lane
pub record OwnTakenBack (v : View) (image : List ℕ) (w : ℕ) : Type 0 where
  pub change : Change
  pub there : Contains v.changes change
  pub of_word : change.word ≡ w
  pub is_old : slice_index image w ≡ change.old

pub slot_same : (one other : List ℕ) (a : ℕ) → a + 8 ≤ length one → a + 8 ≤ length other → ((i : ℕ) → a ≤ i → i < a + 8 → slice_index one i ≡ slice_index other i)
    → slice_range one a (a + 8) ≡ slice_range other a (a + 8)
slot_same one other a long as_long same =
    let eight : a + 8 - a ≡ 8 = omega arith in
    let count : (xs : List ℕ) → a + 8 ≤ length xs → length (take 8 (drop a xs)) ≡ 8 = λ xs h. let dropped = length-drop a xs in let taken = length-take 8 (drop a xs) in omega (arith, dropped, taken) in
    let at : (xs : List ℕ) (i : ℕ) → i < 8 → get_or (take 8 (drop a xs)) i 0 ≡ get_or xs (a + i) 0 = λ xs i h. get_or-take 8 (drop a xs) i 0 h ∙ get_or-drop a xs i 0 in
    ap (λ (n : ℕ). take n (drop a one)) eight
    ∙ ext_get_or 0 (take 8 (drop a one)) (take 8 (drop a other)) (count one long ∙ sym (count other as_long))
    (λ i h. let inside : i < 8 = omega (arith, count one long) in at one i inside ∙ same (a + i) (omega arith) (omega arith) ∙ sym (at other i inside))
    ∙ sym (ap (λ (n : ℕ). take n (drop a other)) eight)

module _ (o : Opening) (mem : Memory) (views : Views) (log : List Entry) (decided : ℕ → Bool) (x : World o mem views log decided) where
  pub lane_fits : (k : ℕ) → k < o.lanes → LaneFits o mem (settled o log decided) (Flies log decided k) k (views k)
  lane_fits k inside = x.each_lane k inside

  pub lane_is : (k : ℕ) → k < o.lanes → (views k).lane ≡ k
  lane_is k inside = (x.each_lane k inside).lane.lane

  -- a lane's change, by how far its call has come
  pub fits_of : (k : ℕ) (c : Change) → k < o.lanes → Contains (views k).changes c → ChangeFits (views k) c (views k).log.phase
  fits_of k c inside there = change_fits (Flies log decided k) (views k) c (views k).log.phase (x.each_lane k inside).phase there

  pub recorded_fits : (k w : ℕ) → k < o.lanes → (t : RecordOf (views k) w) → RecordedWordFits (settled o log decided) (views k) w (slice_index t.held.old (w - t.held.word))
  recorded_fits k w inside t = recorded_word (settled o log decided) (views k) t.held w ((x.each_lane k inside).log.each t.slot t.held t.at) t.of

  pub recorded_writes : (k w : ℕ) → k < o.lanes → is_recorded (views k).log.records w ≡ true → WritesUnder o mem k w
  recorded_writes k w inside e = writes_under o mem k (views k) w (x.each_lane k inside).locks (recorded_fits k w inside (record_of (views k) w e)).own

  -- one lane at most has a record of a word
  pub one_recorder : (j k w : ℕ) → j < o.lanes → k < o.lanes → is_recorded (views j).log.records w ≡ true → is_recorded (views k).log.records w ≡ true → j ≡ k
  one_recorder j k w j_inside inside e f = one_writer o mem j k w x.sound (recorded_writes j w j_inside e) (recorded_writes k w inside f)

  pub behind_areas : (k w : ℕ) → WritesUnder o mem k w → 512 + 1024 * o.lanes ≤ w
  behind_areas k w (line, guard, word) = x.sound.behind_areas line w guard

  pub logged_behind : (k w : ℕ) → k < o.lanes → is_logged (views k) w ≡ true → 512 + 1024 * o.lanes ≤ w
  logged_behind k w inside e = behind_areas k w (recorded_writes k w inside (logged_recorded (views k) w e))

  pub written_under : (k w : ℕ) → k < o.lanes → is_written (views k) w ≡ true → WritesUnder o mem k w
  written_under k w inside e = writes_under o mem k (views k) w (x.each_lane k inside).locks e

  pub written_behind : (k w : ℕ) → k < o.lanes → is_written (views k) w ≡ true → 512 + 1024 * o.lanes ≤ w
  written_behind k w inside e = behind_areas k w (written_under k w inside e)

  -- the lane's log would restore the word, or redo it
  abbrev pub Logs : ℕ → ℕ → Type 0
  Logs k w = (is_logged (views k) w ≡ true) ⊎ ((is_redone (views k) w ≡ true) × (is_written (views k) w ≡ true))

  logs_behind : (k w : ℕ) → k < o.lanes → Logs k w → 512 + 1024 * o.lanes ≤ w
  logs_behind k w inside (inl logged) = logged_behind k w inside logged
  logs_behind k w inside (inr redone) = written_behind k w inside redone.1

  -- an entry of a word outside of the areas is of one that the lane may write
  pub entered_writes : (k w : ℕ) → k < o.lanes → (w < 512) ⊎ (512 + 1024 * o.lanes ≤ w) → (IsGrowing (views k).log.phase → ⊥) → is_entered (views k).log.entries w ≡ true → WritesUnder o mem k w
  entered_writes k w inside outside still e =
      let t = entry_of_word (views k).log.entries w e in
      let at = lane_is k inside in
      let stands = (x.each_lane k inside).entries.each t.place t.held t.at in
      ⊎_elim (λ (written : is_written (views k) t.held.word ≡ true). written_under k w inside (subst (λ u. is_written (views k) u ≡ true) t.of written))
      (λ other. absurd (⊎_elim (λ (own : (t.held.word ≡ area_word (views k).lane) × (stands.op ≡ Set)).
      let here = own.0 in let is = t.of in ⊎_elim (λ (front : w < 512). omega arith) (λ (back : 512 + 1024 * o.lanes ≤ w). omega arith) outside)
      (λ (alone : EntersAlone (views k) t.held.word). still alone.1) other)) stands.may.of

  lies : (k : ℕ) (c : Change) → k < o.lanes → Contains (views k).changes c → ChangeLies (views k) c
  lies k c inside there = change_lies (views k) c (views k).log.phase refl (fits_of k c inside there)

  -- a word that a lane reserved lies apart
  pub reserved_word : (k w : ℕ) → k < o.lanes → is_reserved (views k) w ≡ true → IsApart (slice_index o.words) o.lanes o.zones w
  reserved_word k w inside own =
      let fits = x.each_lane k inside in reserved_apart o mem (views k) w fits.lane.lanes fits.blocks own

  -- a change outside of the areas is of a word of its lane's log, or of one that it reserved
  pub change_outside : (k : ℕ) (c : Change) → k < o.lanes → Contains (views k).changes c → (c.word < 512) ⊎ (512 + 1024 * o.lanes ≤ c.word) → Logs k c.word ⊎ (ReservedChange (views k) c × (c.mask ≡ all_bits))
  change_outside k c inside there outside =
      let at = lane_is k inside in
      ⊎_elim (λ (area : InArea (views k).lane c.word). let low = area.low in let high = area.high in
      absurd (⊎_elim (λ (front : c.word < 512). omega arith) (λ (back : 512 + 1024 * o.lanes ≤ c.word). omega arith) outside))
      (λ (other : Logs k c.word ⊎ (ReservedChange (views k) c × (c.mask ≡ all_bits))). other)
      (lies k c inside there).of

  -- a change in the lane's own area is of a whole word
  area_whole : (k : ℕ) (c : Change) (phase : Phase) → k < o.lanes → c.word < area_word k + 1024 → ChangeFits (views k) c phase → c.mask ≡ all_bits
  area_whole k c Idle inside high fits = fits.whole
  area_whole k c (Open slot pair) inside high fits = fits.whole
  area_whole k c Drawn inside high fits = absurd fits
  area_whole k c Sealing inside high fits = fits.whole
  area_whole k c (Applying applied) inside high fits =
      let at = lane_is k inside in
      ⊎_elim (λ (written : is_written (views k) c.word ≡ true). let behind = written_behind k c.word inside written in absurd (omega arith))
      (λ (own : c.word ≡ area_word (views k).lane). (fits.0.next own).0)
      (whole_word (views k) (records_generation (Applying applied) (views k)) c.word fits.1 (entered_front applied (views k).log.entries c.word fits.0.of))
  area_whole k c Clearing inside high fits = fits.whole
  area_whole k c Retiring inside high fits = fits.whole

  -- a change in an area is its lane's
  change_inside : (j k : ℕ) (c : Change) → j < o.lanes → k < o.lanes → Contains (views j).changes c → area_word k ≤ c.word → c.word < area_word k + 1024 → j ≡ k
  change_inside j k c j_inside inside there low high =
      let at = lane_is j j_inside in
      ⊎_elim (λ (area : InArea (views j).lane c.word). let from = area.low in let to = area.high in omega arith)
      (λ (other : Logs j c.word ⊎ (ReservedChange (views j) c × (c.mask ≡ all_bits))).
      ⊎_elim (λ (logs : Logs j c.word). absurd (let behind = logs_behind j c.word j_inside logs in omega arith))
      (λ (own : ReservedChange (views j) c × (c.mask ≡ all_bits)). absurd (let behind = (reserved_word j c.word j_inside own.0.reserved).behind in omega arith)) other)
      (lies j c j_inside there).of

  module _ (image : List ℕ) (survives : Survives o mem views image) where
    left_cases : (w : ℕ) (lost : List Change) → All (IsUndrained views o.lanes w) lost → slice_index image w ≡ all_taken_back lost (mem (PoolWord w)) → (slice_index image w ≡ mem (PoolWord w)) ⊎ TakenBack views o.lanes image w
    left_cases w [] undrained left = inl left
    left_cases w (c ∷ lost) undrained left =
        let u = All-head (IsUndrained views o.lanes w) c lost undrained in
        inr (record { change = c; lane = u.lane; of_lane = u.of_lane; there = u.there; of_word = u.of_word; is_old = λ whole. left ∙ whole-taken_back c (all_taken_back lost (mem (PoolWord w))) whole })

    pub word_left : (w : ℕ) → w < length o.words → (slice_index image w ≡ mem (PoolWord w)) ⊎ TakenBack views o.lanes image w
    word_left w inside = let l = survives.each w inside in left_cases w l.lost l.undrained l.left

    -- where each change of the word is of bits that these entries are of, what is left of it agrees with the memory beside them
    lost_of : (entries : List Final) (w : ℕ) (lost : List Change) → ((j : ℕ) (c : Change) → j < o.lanes → Contains (views j).changes c → c.word ≡ w → IsOfEntries entries c)
        → All (IsUndrained views o.lanes w) lost → All (IsOfWord entries w) lost
    lost_of entries w lost of undrained = All-weaker (IsUndrained views o.lanes w) (IsOfWord entries w) (λ c u. (u.of_word, of u.lane c u.of_lane u.there u.of_word)) lost undrained

    pub word_beside : (entries : List Final) (w : ℕ) → w < length o.words → ((j : ℕ) (c : Change) → j < o.lanes → Contains (views j).changes c → c.word ≡ w → IsOfEntries entries c)
        → AgreeBeside entries w (slice_index image w) (mem (PoolWord w))
    word_beside entries w inside of i small beside =
        let l = survives.each w inside in
        ap (λ x. bit_at x i) l.left ∙ left_beside entries w (mem (PoolWord w)) l.lost (lost_of entries w l.lost of l.undrained) i small beside

    pub word_small : (entries : List Final) (w : ℕ) → w < length o.words → ((j : ℕ) (c : Change) → j < o.lanes → Contains (views j).changes c → c.word ≡ w → IsOfEntries entries c)
        → is_or_entered entries w ≡ true → mem (PoolWord w) < 2 ^ 64 → slice_index image w < 2 ^ 64
    word_small entries w inside of or small =
        let l = survives.each w inside in
        subst (λ x. x < 2 ^ 64) (sym l.left) (left_small entries w (mem (PoolWord w)) l.lost or small (lost_of entries w l.lost of l.undrained))

    -- a change of a word outside of the areas, and not idle, is of a lane that has it in its log
    pub changer : (w : ℕ) → (w < 512) ⊎ (512 + 1024 * o.lanes ≤ w) → is_idle (slice_index o.words) o.lanes w ≡ false → (j : ℕ) (c : Change) → j < o.lanes → Contains (views j).changes c → c.word ≡ w → Logs j w
    changer w outside living j c inside there of =
        ⊎_elim (λ (logs : Logs j c.word). subst (Logs j) of logs)
        (λ (own : ReservedChange (views j) c × (c.mask ≡ all_bits)). absurd (false≢true (sym living ∙ subst (λ u. is_idle (slice_index o.words) o.lanes u ≡ true) of (reserved_word j c.word inside own.0.reserved).idle)))
        (change_outside j c inside there (subst (λ u. (u < 512) ⊎ (512 + 1024 * o.lanes ≤ u)) (sym of) outside))

    -- a word outside of the areas, and not idle, that nobody's change is of
    pub word_stays : (w : ℕ) → w < length o.words → (w < 512) ⊎ (512 + 1024 * o.lanes ≤ w) → is_idle (slice_index o.words) o.lanes w ≡ false → ((k : ℕ) (c : Change) → k < o.lanes → Contains (views k).changes c → c.word ≡ w → Logs k w → ⊥)
        → slice_index image w ≡ mem (PoolWord w)
    word_stays w inside outside living away =
        ⊎_elim (λ (same : slice_index image w ≡ mem (PoolWord w)). same)
        (λ (t : TakenBack views o.lanes image w).
        let there : (t.change.word < 512) ⊎ (512 + 1024 * o.lanes ≤ t.change.word) = subst (λ u. (u < 512) ⊎ (512 + 1024 * o.lanes ≤ u)) (sym t.of_word) outside in
        absurd (⊎_elim (λ (logs : Logs t.lane t.change.word). away t.lane t.change t.of_lane t.there t.of_word (subst (Logs t.lane) t.of_word logs))
        (λ (own : ReservedChange (views t.lane) t.change × (t.change.mask ≡ all_bits)).
        false≢true (sym living ∙ subst (λ u. is_idle (slice_index o.words) o.lanes u ≡ true) t.of_word (reserved_word t.lane t.change.word t.of_lane own.0.reserved).idle))
        (change_outside t.lane t.change t.of_lane t.there there)))
        (word_left w inside)

    -- a word of a lane's area is as the lane has it, or its own change of it was taken back
    pub area_left : (k w : ℕ) → k < o.lanes → area_word k ≤ w → w < area_word k + 1024 → (slice_index image w ≡ slice_index (views k).words w) ⊎ OwnTakenBack (views k) image w
    area_left k w inside low high =
        let size = x.sound.size in
        let at = lane_is k inside in
        let here : is_in_area (views k).lane w ≡ true = and_from (leb (area_word (views k).lane) w) (ltb w (area_word (views k).lane + 1024)) (le-leb (area_word (views k).lane) w (omega arith)) (lt-ltb w (area_word (views k).lane + 1024) (omega arith)) in
        ⊎_elim (λ (same : slice_index image w ≡ mem (PoolWord w)). inl (same ∙ (x.each_lane k inside).picture.area w here))
        (λ (t : TakenBack views o.lanes image w).
        let is = t.of_word in
        let who : t.lane ≡ k = change_inside t.lane k t.change t.of_lane inside t.there (omega arith) (omega arith) in
        let there : Contains (views k).changes t.change = subst (λ j. Contains (views j).changes t.change) who t.there in
        inr (record { change = t.change; there = there; of_word = t.of_word; is_old = t.is_old (area_whole k t.change (views k).log.phase inside (omega arith) (fits_of k t.change inside there)) }))
        (word_left w (omega arith))

    -- by how far the lane's call has come, which seal the image has where a change of it was taken back
    seal_before : (k : ℕ) (phase : Phase) → k < o.lanes → (t : OwnTakenBack (views k) image (area_word k + 1)) → ChangeFits (views k) t.change phase → SealIs (views k) (seal_word image k) phase
    seal_before k Idle inside t fits =
        let is = t.of_word in let at = lane_is k inside in
        let behind = (reserved_word k t.change.word inside fits.may.reserved).behind in absurd (omega arith)
    seal_before k (Open slot pair) inside t fits =
        let is = t.of_word in let at = lane_is k inside in
        absurd (⊎_elim (λ (part : part_of (views k).lane t.change.word ≡ SlotWord). let s = slot_part (views k).lane t.change.word part in let low = s.low in omega arith)
        (λ (other : (part_of (views k).lane t.change.word ≡ EntryWord) ⊎ ((is_logged (views k) t.change.word ≡ true) ⊎ ReservedChange (views k) t.change)).
        ⊎_elim (λ (part : part_of (views k).lane t.change.word ≡ EntryWord). let s = entry_part (views k).lane t.change.word part in let low = s.low in omega arith)
        (λ (last : (is_logged (views k) t.change.word ≡ true) ⊎ ReservedChange (views k) t.change).
        ⊎_elim (λ (logged : is_logged (views k) t.change.word ≡ true). let behind = logged_behind k t.change.word inside logged in omega arith)
        (λ (own : ReservedChange (views k) t.change). let behind = (reserved_word k t.change.word inside own.reserved).behind in omega arith) last) other) fits.of)
    seal_before k Drawn inside t fits = absurd fits
    seal_before k Sealing inside t fits = inr (t.is_old ∙ fits.before)
    seal_before k (Applying applied) inside t fits =
        let is = t.of_word in let at = lane_is k inside in
        absurd (⊎_elim (λ (written : is_written (views k) t.change.word ≡ true). let behind = written_behind k t.change.word inside written in omega arith)
        (λ (own : t.change.word ≡ area_word (views k).lane). omega arith)
        (whole_word (views k) (records_generation (Applying applied) (views k)) t.change.word fits.1 (entered_front applied (views k).log.entries t.change.word fits.0.of)))
    seal_before k Clearing inside t fits = inl (t.is_old ∙ fits.before)
    seal_before k Retiring inside t fits = let is = t.of_word in let at = lane_is k inside in let of = fits.of in absurd (omega arith)

    seal_here : (v : View) (seal : ℕ) (phase : Phase) → seal ≡ seal_in phase v → SealIs v seal phase
    seal_here v seal Idle e = e
    seal_here v seal (Open slot pair) e = e
    seal_here v seal Drawn e = e
    seal_here v seal Sealing e = inl e
    seal_here v seal (Applying applied) e = e
    seal_here v seal Clearing e = inr e
    seal_here v seal Retiring e = e

    -- which seal the image has
    pub seal_is : (k : ℕ) → k < o.lanes → SealIs (views k) (seal_word image k) (views k).log.phase
    seal_is k inside =
        ⊎_elim (λ (same : slice_index image (area_word k + 1) ≡ slice_index (views k).words (area_word k + 1)).
        seal_here (views k) (seal_word image k) (views k).log.phase
        (same ∙ (ap (λ j. slice_index (views k).words (area_word j + 1)) (sym (lane_is k inside)) ∙ (x.each_lane k inside).entries.seal)))
        (λ (t : OwnTakenBack (views k) image (area_word k + 1)). seal_before k (views k).log.phase inside t (fits_of k t.change inside t.there))
        (area_left k (area_word k + 1) inside (omega arith) (omega arith))

    -- a slot of which nothing is undrained
    pub slot_stays : (k slot : ℕ) → k < o.lanes → slot < 64 → is_drained_slot (views k) slot ≡ true → undo_slot image k slot ≡ undo_slot (views k).words (views k).lane slot
    slot_stays k slot inside within drained =
        let size = x.sound.size in
        let long = survives.size in
        let own = (x.each_lane k inside).lane.size in
        let at = lane_is k inside in
        slot_same image (views k).words (8 * slot_line k slot) (omega arith) (omega arith)
        (λ i low high. ⊎_elim (λ (same : slice_index image i ≡ slice_index (views k).words i). same)
        (λ (t : OwnTakenBack (views k) image i). let is = t.of_word in absurd (drained_slot (views k) slot t.change drained t.there (omega arith)))
        (area_left k i inside (omega arith) (omega arith)))
        ∙ ap (λ j. undo_slot (views k).words j slot) (sym at)
