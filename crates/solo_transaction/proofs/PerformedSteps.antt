-- The steps that perform a redo log: they load no word, take and give no zone's lock, and before each of them the log is not at its end.
use Rattle.std.proofs.Common.{◌≡◌, ◌⊎◌, ⊎_elim, inl, inr, ℕ, ◌+◌, ◌/◌, ◌<◌, Bool, true, false, All, List, [], ◌∷◌, ◌++◌, is_some, length, refl, sym, ap, ◌∙◌, subst, slice_index}
use Rattle.std.proofs.lemmas.List.Elements.{All-cons, All-head, All-nil, All-tail}
use Rattle.solo_crash.proofs.Raises.{raise_by}
use Rattle.solo_crash.specs.Leading.{Leads}
use Rattle.solo_epoch.proofs.QuietSteps.{Are, Every, are_counted, are_in_turn, are_one, are_room, are_settles, are_stores}
use Rattle.solo_epoch.specs.Epochs.{LoadsNoneOf}
use Rattle.pm_record.specs.declared.redo.Op.{Op}
use Rattle.pm_record.specs.declared.redo.Op.TheVariants.{And, Or, Set}
use Rattle.pm_record.specs.declared.redo.Redo.{Redo}
use Rattle.solo_redo.proofs.Applied.{front_or_last}
use Rattle.solo_redo.proofs.PairWords.{seal_part}
use Rattle.solo_redo.specs.Sequences.{applies, applies_each, applies_entry, does, ending_of, entry_at, performs_on, writes_seal}
use Rattle.solo_sealed.specs.Sealed.{Publishes, is_publishing}
use Rattle.solo_tx.proofs.Courses.{Course, Throughout, course_counted, course_in_turn, course_of_kind, course_one}
use Rattle.solo_tx.proofs.StepKinds.{HasOnly, HasQuietSteps, only_makes_room, only_persists, only_settles}
use Rattle.solo_undo.proofs.Areas.{generation_word, other_part}
use Rattle.solo_undo.specs.Sequences.{persists}
use Rattle.solo_view.specs.declared.change.Change.{Change}
use Rattle.solo_view.specs.Area.{Part, area_word, is_in_area, part_of}
use Rattle.solo_view.specs.Area.Part.{GenerationWord, OtherWord, SealWord}
use Rattle.solo_view.specs.Changes.{drained}
use Rattle.solo_view.specs.Log.{Final, Log, Phase, log_changed, log_drained, log_stored}
use Rattle.solo_view.specs.Log.Phase.{Applying, Clearing, Drawn, Sealing}
use Rattle.solo_view.specs.Steps.{Step}
use Rattle.solo_view.specs.Steps.Step.{And as And_step, Drain, Flush, Load, Or as Or_step, Store}
use Rattle.solo_view.specs.View.{View}
use Rattle.solo_view.specs.Views.{after, after_all, log_after_drain}
use Rattle.solo_world.specs.Sequences.{Sequence, ands, finds_in, in_turn, makes_room, one, ors, settles, stores}

-- ---- of one kind

module _ (P : Step → Type 0) (store : (w x : ℕ) → P (Store w x)) (flush : (line : ℕ) → P (Flush line)) (drain : P Drain) (or : (w bits x : ℕ) → P (Or_step w bits x)) (and : (w bits x : ℕ) → P (And_step w bits x)) where
  abbrev All_are : Sequence → Type 0
  All_are = Are P store flush drain

  both : (s t : Sequence) → All_are s → All_are t → All_are (in_turn s t)
  both = are_in_turn P store flush drain

  single : (s : Step) → P s → All_are (one s)
  single = are_one P store flush drain

  finds : (word : ℕ) (s : ℕ → Step) → ((x : ℕ) → P (s x)) → All_are (in_turn makes_room (finds_in word s))
  unfolding finds_in
  finds word s is = both makes_room (finds_in word s) (are_room P store flush drain) (λ v. (is (slice_index v.words word), tt))

  applies_one : (e : Redo) → All_are (applies_entry e)
  unfolding applies_entry ors ands
  applies_one e = by e.op where
    by : (op : Op) → All_are (does op (e.place / 8) e.value)
    by Set = are_stores P store flush drain (e.place / 8) e.value
    by Or = finds (e.place / 8) (Or_step (e.place / 8) e.value) (or (e.place / 8) e.value)
    by And = finds (e.place / 8) (And_step (e.place / 8) e.value) (and (e.place / 8) e.value)

  applies_all : (all : List Redo) → All_are (applies all)
  unfolding applies applies_each
  applies_all all = both (applies_each all) settles (are_counted P store flush drain (λ i. applies_entry (entry_at all i)) (λ i. applies_one (entry_at all i)) (length all)) (are_settles P store flush drain)

  seals_so : (lane n : ℕ) → All_are (writes_seal lane n)
  unfolding writes_seal persists
  seals_so lane n =
      both (stores (area_word lane + 1) n) (in_turn (one (Flush (area_word lane / 8))) (one Drain)) (are_stores P store flush drain (area_word lane + 1) n)
      (both (one (Flush (area_word lane / 8))) (one Drain) (single (Flush (area_word lane / 8)) (flush (area_word lane / 8))) (single Drain drain))

  performs_so : (lane : ℕ) (all : List Redo) → All_are (performs_on lane all)
  unfolding performs_on
  performs_so lane all = both (writes_seal lane (length all)) (in_turn (applies all) (writes_seal lane 0)) (seals_so lane (length all)) (both (applies all) (writes_seal lane 0) (applies_all all) (seals_so lane 0))

  every_all : (steps : List Step) → Every P store flush drain steps → All P steps
  every_all [] each = All-nil P
  every_all (s ∷ steps) each = All-cons P s steps each.0 (every_all steps each.1)

  performing_all : (lane : ℕ) (all : List Redo) (v : View) → All P (performs_on lane all v)
  performing_all lane all v = every_all (performs_on lane all v) (performs_so lane all v)

-- they load none of the words that entries are of
pub performing_loads_none : (finals : List Final) (lane : ℕ) (all : List Redo) (v : View) → All (LoadsNoneOf finals) (performs_on lane all v)
performing_loads_none finals = performing_all (LoadsNoneOf finals) (λ w x. tt) (λ line. tt) tt (λ w bits x. tt) (λ w bits x. tt)

-- each changes words, flushes or drains
abbrev IsOfWords : Step → Type 0
IsOfWords (Store w x) = Unit {0}
IsOfWords (Or_step w bits x) = Unit {0}
IsOfWords (And_step w bits x) = Unit {0}
IsOfWords (Flush line) = Unit {0}
IsOfWords Drain = Unit {0}
IsOfWords s = ⊥

zones_after : (v : View) (s : Step) → IsOfWords s → (after v s).zone_locks ≡ v.zone_locks
zones_after v (Store w x) is = refl
zones_after v (Or_step w bits x) is = refl
zones_after v (And_step w bits x) is = refl
zones_after v (Flush line) is = refl
zones_after v Drain is = refl
zones_after v s is = absurd is

zones_along : (v : View) (steps : List Step) → All IsOfWords steps → (after_all v steps).zone_locks ≡ v.zone_locks
unfolding after_all
zones_along v [] all = refl
zones_along v (s ∷ steps) all = zones_along (after v s) steps (All-tail IsOfWords s steps all) ∙ zones_after v s (All-head IsOfWords s steps all)

-- so no zone's lock is taken or given back
pub performing_keeps_zones : (lane : ℕ) (all : List Redo) (v : View) → (after_all v (performs_on lane all v)).zone_locks ≡ v.zone_locks
performing_keeps_zones lane all v = zones_along v (performs_on lane all v) (performing_all IsOfWords (λ w x. tt) (λ line. tt) tt (λ w bits x. tt) (λ w bits x. tt) lane all v)

-- ---- where the log stands before each step

-- before each of the steps the log is not at its end
unfoldable pub IsAlong : View → List Step → Type 0
IsAlong v [] = Unit {0}
IsAlong v (s ∷ steps) = (is_publishing v.log.phase ≡ true) × IsAlong (after v s) steps

pub publishes_along : (v : View) (steps : List Step) (w : View) → Leads v steps w → IsAlong v steps → Publishes v steps w
unfolding Leads Publishes IsAlong
publishes_along v [] w leads along = leads
publishes_along v (s ∷ steps) w leads along = (along.0, leads.0, leads.1, publishes_along (after v s) steps w leads.3 along.1)

along_both : (v : View) (xs ys : List Step) → IsAlong v xs → IsAlong (after_all v xs) ys → IsAlong v (xs ++ ys)
unfolding IsAlong after_all
along_both v [] ys first second = second
along_both v (x ∷ xs) ys first second = (first.0, along_both (after v x) xs ys first.1 second)

-- it is not at its end
abbrev I : ℕ → View → Type 0
I r v = is_publishing v.log.phase ≡ true

throughout_along : (r : ℕ) (v : View) (steps : List Step) → Throughout I r v steps → IsAlong v steps
unfolding Throughout IsAlong
throughout_along r v [] all = tt
throughout_along r v (s ∷ steps) all = (all.0, throughout_along (r + raise_by s) (after v s) steps all.1)

-- the lane is the first, and this holds of the phase
abbrev In : (Phase → Type 0) → ℕ → View → Type 0
In F r v = (v.lane ≡ 0) × F v.log.phase

abbrev Lasts : (Phase → Type 0) → Type 0
Lasts F = (number : Bool) (log : Log) → F log.phase → F (log_drained log.phase number log).phase

abbrev Publish : (Phase → Type 0) → Type 0
Publish F = (p : Phase) → F p → is_publishing p ≡ true

abbrev IsQuiet : Step → Type 0
IsQuiet (Load w x) = Unit {0}
IsQuiet (Flush line) = Unit {0}
IsQuiet Drain = Unit {0}
IsQuiet s = ⊥

quiet_steps : HasQuietSteps IsQuiet
quiet_steps = record { load = λ w x. tt; flush = λ line. tt; drain = tt }

module _ (F : Phase → Type 0) (lasts : Lasts F) (publish : Publish F) where
  drained_lasts : (w : View) (changes : List Change) → F w.log.phase → F (log_after_drain changes w).phase
  drained_lasts w [] holds = lasts (is_some w.number) w.log holds
  drained_lasts w (c ∷ changes) holds = holds

  quiet_keeps : (r : ℕ) (w : View) (s : Step) → In F r w → IsQuiet s → In F (r + raise_by s) (after w s)
  quiet_keeps r w (Load word x) p quiet = p
  quiet_keeps r w (Flush line) p quiet = p
  quiet_keeps r w Drain p quiet = (p.0, drained_lasts w (drained w.changes) p.1)
  quiet_keeps r w s p quiet = absurd quiet

  here : (r : ℕ) (w : View) → In F r w → I r w
  here r w p = publish w.log.phase p.1

  quiet_course : (steps : Sequence) → HasOnly IsQuiet steps → Course I (In F) steps (In F)
  quiet_course steps only = course_of_kind I IsQuiet (In F) here (λ r w p. p.0) quiet_keeps steps only

  module _ (G : Phase → Type 0) (publish_then : Publish G) where
    store_course : (word x : ℕ) → ((log : Log) → F log.phase → G (log_stored log.phase (part_of 0 word) x log).phase) → Course I (In F) (stores word x) (In G)
    unfolding stores
    store_course word x stored =
        course_in_turn I (In F) (In F) (In G) makes_room (one (Store word x)) (quiet_course makes_room (only_makes_room IsQuiet quiet_steps))
        (course_one I (In F) (In G) (Store word x) here (λ r w p. publish_then w.log.phase p.1)
        (λ r w p. (p.0, subst (λ lane. G (log_stored w.log.phase (part_of lane word) x w.log).phase) (sym p.0) (stored w.log p.1))))

    finds_course : (word : ℕ) (s : ℕ → Step) → ((r : ℕ) (w : View) (x : ℕ) → In F r w → In G (r + raise_by (s x)) (after w (s x))) → Course I (In F) (in_turn makes_room (finds_in word s)) (In G)
    unfolding finds_in one
    finds_course word s step =
        course_in_turn I (In F) (In F) (In G) makes_room (finds_in word s) (quiet_course makes_room (only_makes_room IsQuiet quiet_steps)) found where
          found : Course I (In F) (finds_in word s) (In G)
          found r w p = course_one I (In F) (In G) (s (slice_index w.words word)) here (λ q u t. publish_then u.log.phase t.1) (λ q u. step q u (slice_index w.words word)) r w p

-- ---- the phases in turn

abbrev IsDrawn : Phase → Type 0
IsDrawn p = p ≡ Drawn

abbrev IsSealed : Phase → Type 0
IsSealed Sealing = Unit {0}
IsSealed (Applying applied) = Unit {0}
IsSealed phase = ⊥

abbrev IsApplying : Phase → Type 0
IsApplying (Applying applied) = Unit {0}
IsApplying phase = ⊥

abbrev IsClearing : Phase → Type 0
IsClearing p = p ≡ Clearing

drawn_lasts : Lasts IsDrawn
drawn_lasts number log is = ap (λ (p : Phase). (log_drained p number log).phase) is ∙ is

drawn_publish : Publish IsDrawn
drawn_publish p is = ap is_publishing is

sealed_on : (p : Phase) (number : Bool) (log : Log) → IsSealed p → IsSealed log.phase → IsSealed (log_drained p number log).phase
sealed_on Sealing number log is holds = tt
sealed_on (Applying applied) number log is holds = holds
sealed_on p number log is holds = absurd is

sealed_publish : Publish IsSealed
sealed_publish Sealing is = refl
sealed_publish (Applying applied) is = refl
sealed_publish p is = absurd is

applying_on : (p : Phase) (number : Bool) (log : Log) → IsApplying p → IsApplying log.phase → IsApplying (log_drained p number log).phase
applying_on (Applying applied) number log is holds = holds
applying_on p number log is holds = absurd is

applying_lasts : Lasts IsApplying
applying_lasts number log holds = applying_on log.phase number log holds holds

applying_publish : Publish IsApplying
applying_publish (Applying applied) is = refl
applying_publish p is = absurd is

clearing_publish : Publish IsClearing
clearing_publish p is = ap is_publishing is

-- the word is that of an entry: none of the lane's area, or its generation
abbrev IsEntryPart : Part → Type 0
IsEntryPart part = (part ≡ OtherWord) ⊎ (part ≡ GenerationWord)

applied_on : (p : Phase) (part : Part) (x : ℕ) (log : Log) → IsEntryPart part → IsApplying p → IsApplying (log_stored p part x log).phase
applied_on (Applying applied) part x log (inl other) is = subst (λ (q : Part). IsApplying (log_stored (Applying applied) q x log).phase) (sym other) tt
applied_on (Applying applied) part x log (inr generation) is = subst (λ (q : Part). IsApplying (log_stored (Applying applied) q x log).phase) (sym generation) tt
applied_on p part x log either is = absurd is

changed_on : (p : Phase) (log : Log) → IsApplying p → IsApplying (log_changed p log).phase
changed_on (Applying applied) log is = tt
changed_on p log is = absurd is

cleared_on : (p : Phase) (x : ℕ) (log : Log) → IsApplying p → IsClearing (log_stored p SealWord x log).phase
cleared_on (Applying applied) x log is = refl
cleared_on p x log is = absurd is

seal_word : part_of 0 (area_word 0 + 1) ≡ SealWord
seal_word = (seal_part 0).0

-- the seal
seals_course : (n : ℕ) → Course I (In IsDrawn) (writes_seal 0 n) (In IsSealed)
unfolding writes_seal
seals_course n =
    course_in_turn I (In IsDrawn) (In IsSealed) (In IsSealed) (stores (area_word 0 + 1) n) (persists (area_word 0 / 8))
    (store_course IsDrawn drawn_lasts drawn_publish IsSealed sealed_publish (area_word 0 + 1) n (λ log is.
    subst (λ (part : Part). IsSealed (log_stored log.phase part n log).phase) (sym seal_word) (subst (λ (p : Phase). IsSealed (log_stored p SealWord n log).phase) (sym is) tt)))
    (quiet_course IsSealed (λ number log holds. sealed_on log.phase number log holds holds) sealed_publish (persists (area_word 0 / 8)) (only_persists IsQuiet quiet_steps (area_word 0 / 8)))

-- an entry
entry_course : (e : Redo) → IsEntryPart (part_of 0 (e.place / 8)) → Course I (In IsApplying) (applies_entry e) (In IsApplying)
unfolding applies_entry ors ands
entry_course e part = by e.op where
  by : (op : Op) → Course I (In IsApplying) (does op (e.place / 8) e.value) (In IsApplying)
  by Set = store_course IsApplying applying_lasts applying_publish IsApplying applying_publish (e.place / 8) e.value (λ log is. applied_on log.phase (part_of 0 (e.place / 8)) e.value log part is)
  by Or = finds_course IsApplying applying_lasts applying_publish IsApplying applying_publish (e.place / 8) (Or_step (e.place / 8) e.value) (λ r w x p. (p.0, changed_on w.log.phase w.log p.1))
  by And = finds_course IsApplying applying_lasts applying_publish IsApplying applying_publish (e.place / 8) (And_step (e.place / 8) e.value) (λ r w x p. (p.0, changed_on w.log.phase w.log p.1))

module _ (entries : List Redo) (g : ℕ) (each : All (λ (e : Redo). is_in_area 0 (e.place / 8) ≡ false) entries) where
  abbrev pub all_entries : List Redo
  all_entries = entries ++ ending_of 0 g ∷ []

  entry_part : (k : ℕ) → k < length all_entries → IsEntryPart (part_of 0 ((entry_at all_entries k).place / 8))
  entry_part k low = ⊎_elim
      (λ (outside : is_in_area 0 ((entry_at all_entries k).place / 8) ≡ false). inl (other_part 0 ((entry_at all_entries k).place / 8) outside))
      (λ (last : entry_at all_entries k ≡ ending_of 0 g). inr (ap (λ (e : Redo). part_of 0 (e.place / 8)) last ∙ generation_word 0))
      (front_or_last entries (ending_of 0 g) k (λ (e : Redo). is_in_area 0 (e.place / 8) ≡ false) each low)

  applies_course : Course I (In IsApplying) (applies all_entries) (In IsApplying)
  unfolding applies applies_each
  applies_course =
      course_in_turn I (In IsApplying) (In IsApplying) (In IsApplying) (applies_each all_entries) settles
      (course_counted I (λ k. In IsApplying) (λ i. applies_entry (entry_at all_entries i)) (length all_entries) (here IsApplying applying_lasts applying_publish) (λ k low. entry_course (entry_at all_entries k) (entry_part k low)))
      (quiet_course IsApplying applying_lasts applying_publish settles (only_settles IsQuiet quiet_steps))

  clear_store : Course I (In IsApplying) (stores (area_word 0 + 1) 0) (In IsClearing)
  clear_store = store_course IsApplying applying_lasts applying_publish IsClearing clearing_publish (area_word 0 + 1) 0 (λ log is.
      subst (λ (part : Part). IsClearing (log_stored log.phase part 0 log).phase) (sym seal_word) (cleared_on log.phase 0 log is))

  -- the last step is the one that ends it
  clears_along : (r : ℕ) (v : View) → In IsApplying r v → IsAlong v (writes_seal 0 0 v)
  unfolding writes_seal persists in_turn one after_all IsAlong
  clears_along r v p =
      let stored = clear_store r v p in
      let publishing = ap is_publishing stored.1.1 in
      along_both v (stores (area_word 0 + 1) 0 v) (Flush (area_word 0 / 8) ∷ Drain ∷ []) (throughout_along r v (stores (area_word 0 + 1) 0 v) stored.0) (publishing, (publishing, tt))

  pub performs_along : (d : View) → d.lane ≡ 0 → d.log.phase ≡ Drawn → (after_all d (writes_seal 0 (length all_entries) d)).log.phase ≡ Applying 0 → IsAlong d (performs_on 0 all_entries d)
  unfolding performs_on in_turn
  performs_along d lane drawn sealed =
      let seal : List Step = writes_seal 0 (length all_entries) d in
      let u : View = after_all d seal in
      let first = seals_course (length all_entries) 0 d (lane, drawn) in
      let second = applies_course 0 u (first.1.0, subst IsApplying (sym sealed) tt) in
      along_both d seal (applies all_entries u ++ writes_seal 0 0 (after_all u (applies all_entries u))) (throughout_along 0 d seal first.0)
      (along_both u (applies all_entries u) (writes_seal 0 0 (after_all u (applies all_entries u))) (throughout_along 0 u (applies all_entries u) second.0) (clears_along 0 (after_all u (applies all_entries u)) second.1))
