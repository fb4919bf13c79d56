-- What the rule says beside the world is kept by lawful steps.
use Rattle.std.proofs.Common.{◌≡◌, ◌≢◌, ℕ, ◌<◌, ⊎_elim, true, false, List, [], ◌∷◌, length, slice_get, Some, ap, refl, sym, subst, ◌∙◌, arith, lt-ltb}
use Rattle.std.proofs.lemmas.Bool.{both_ways, cases_eq}
use Rattle.std.specs.Prelude.{IfSome}
use Rattle.pm_layout.specs.Chunks.{chunks_of, word_of_descriptor, chunk_described}
use Rattle.pm_record.specs.declared.redo.Op.{Op}
use Rattle.pm_record.specs.declared.redo.Op.TheVariants as op
use Rattle.pm_view.specs.Claims.{is_run}
use Rattle.pm_view.specs.Counts.{is_store}
use Rattle.pm_view.specs.Entries.{Entry}
use Rattle.pm_view.specs.Log.{Phase, Idle, Open, Drawn, Sealing, Applying, Clearing, Retiring, Voiding, Log}
use Rattle.pm_view.specs.Parts.{Part, DescriptorPart, part_of}
use Rattle.pm_view.specs.Places.{Place, Descr, twin, same_place, is_place, word_of}
use Rattle.pm_view.specs.Steps.{Step}
use Rattle.pm_view.specs.Steps.Step.{Load, Store, Or, And, Flush, Drain, TakeWrite, TakeRead, Raise, Give, ZoneTry, ZoneGive, Occupied, Occupy, Vacate, Draw, NumberSeen, StopSeen, SetStop, Tell}
use Rattle.pm_view.specs.View.{View}
use Rattle.pm_view.specs.Views.{after, part_in}
use Rattle.pm_world.proofs.Basics.{twin_twin}
use Rattle.pm_world.proofs.CrashLaw.{descriptor_part}
use Rattle.pm_world.proofs.StepApply.{OneWord, same_cell}
use Rattle.pm_world.proofs.StepChange.{tag, entry_at}
use Rattle.pm_world.proofs.StepEntries.{next_place}
use Rattle.pm_world.proofs.StepMark.{descriptor_at, some_class}
use Rattle.pm_world.proofs.WordsApart.{one_cell}
use Rattle.pm_world.specs.Lanes.{owns}
use Rattle.pm_world.specs.Laws.{Turn}
use Rattle.pm_world.specs.Lawful.{IsLawful, StoreFits, ChangeFits}
use Rattle.pm_world.specs.Logs.{LogFits, EntryOf}
use Rattle.pm_world.specs.Memory.{Memory, PoolWord, Becomes, cells_of}
use Rattle.pm_world.specs.Moves.{Moves}
use Rattle.pm_world.specs.Sights.{sight_of}
use Rattle.pm_world.specs.World.{Opening, Views, Past, World, settled_words}
use Rattle.pm_shared.proofs.EntriesKept.{sets_after}
use Rattle.pm_shared.proofs.PoolWords.{word_stays, pool_stays}
use Rattle.pm_shared.specs.Rule.{DescriptorsFit, SetsFit, Sound}

abbrev op_tag : Op → ℕ
op_tag op.Set = 0
op_tag op.Or = 1
op_tag op.And = 2

module _ (o : Opening) (mem : Memory) (views : Views) (g : Past) (x : World o mem views g) (k : ℕ) (ink : k < o.lanes) where
  abbrev v : View
  v = views k

  in_shape : k < o.shape.lanes
  in_shape = let most = x.most_lanes in omega arith

  -- what a word is to the lane, by the pool's shape
  pub part_here : (w : ℕ) (q : Part) → part_in (views k) w ≡ q → part_of o.shape k w ≡ q
  part_here w q e = subst (λ s. part_of s k w ≡ q) (x.each_lane k ink).shape (subst (λ l. part_of (views k).fixed.shape l w ≡ q) (x.each_lane k ink).lane e)

  -- a descriptor is one to the lane
  pub described : (w c : ℕ) → c < chunks_of o.shape → w ≡ word_of_descriptor o.shape c → (d : ℕ) × (part_in (views k) w ≡ DescriptorPart d)
  described w c inside e = (
    chunk_described o.shape (word_of_descriptor o.shape c),
    subst (λ s. part_of s (views k).fixed.lane w ≡ DescriptorPart (chunk_described o.shape (word_of_descriptor o.shape c))) (sym (x.each_lane k ink).shape)
        (subst (λ l. part_of o.shape l w ≡ DescriptorPart (chunk_described o.shape (word_of_descriptor o.shape c))) (sym (x.each_lane k ink).lane)
        (subst (λ u. part_of o.shape k u ≡ DescriptorPart (chunk_described o.shape (word_of_descriptor o.shape c))) (sym e) (descriptor_part o.shape k c in_shape inside))),
  )

  abbrev pub LogIn : Log → Type 0
  LogIn l = LogFits o.shape k ((cells_of o.shape mem).generation k) ((cells_of o.shape mem).seal k) ((cells_of o.shape mem).entry k) ((cells_of o.shape mem).slot k) (settled_words o g) (owns g.geo (settled_words o g) (sight_of (views k)).hold) (sight_of (views k)).picture l (views k).changes

  -- the lane's log, its phase written out
  pub log_in : (ph : Phase) → (views k).log.phase ≡ ph → LogIn (record (views k).log { phase = ph })
  log_in ph e = subst (λ z. LogIn (record (views k).log { phase = z })) e (x.each_lane k ink).log

  -- ---- THE ENTRY THAT IS APPLIED NEXT
  module _ (e : Entry) (todo : List Entry) (ph : (views k).log.phase ≡ Applying (e ∷ todo)) where
    abbrev log : LogIn (record (views k).log { phase = Applying (e ∷ todo) })
    log = log_in (Applying (e ∷ todo)) ph

    pub stands : slice_get (views k).log.entries (length (log_in (Applying (e ∷ todo)) ph).phase.1.done) ≡ Some e
    stands = let l = log_in (Applying (e ∷ todo)) ph in ap (λ es. slice_get es (length l.phase.1.done)) l.phase.1.are ∙ entry_at l.phase.1.done e todo

    pub of_place : (p : Place) → e.place ≡ Some p → (is_place o.shape p ≡ true) × (word_of o.shape p ≡ e.word) × EntryOf p e.op e.value
    of_place p at = let l = log_in (Applying (e ∷ todo)) ph in subst (λ z. IfSome z (λ p. (is_place o.shape p ≡ true) × (word_of o.shape p ≡ e.word) × EntryOf p e.op e.value)) at (l.pairs (length l.phase.1.done) e stands).3

    -- of a descriptor: it sets all bits, to those of no run
    pub of_descriptor : (w d : ℕ) → e.word ≡ w → part_in (views k) w ≡ DescriptorPart d → (e.op ≡ op.Set) × (is_run e.value ≡ false)
    of_descriptor w d word part = let here = part_here w (DescriptorPart d) part in let at = descriptor_at o.shape k w d here in
        let p = next_place o mem views g x k ink w e todo ph word (ap tag here) in let s = of_place p.0 p.1 in
        let one : OneWord (Descr d) p.0 = same_cell (Descr d) p.0 (one_cell o.shape (Descr d) p.0 (lt-ltb d (chunks_of o.shape) at.1) s.0 (sym at.0 ∙ (sym word ∙ sym s.1))) in
        let r : p.0 ≡ Descr d = ⊎_elim (λ (y : Descr d ≡ p.0). sym y) (λ (y : (Descr d ≡ twin p.0) × (same_place p.0 (Descr d) ≡ false)). sym (twin_twin p.0) ∙ sym (ap twin y.0)) one in
        subst (λ y. EntryOf y e.op e.value) r s.2

  -- ---- A STORE INTO A DESCRIPTOR
  not_one : (w n d : ℕ) (ph : Phase) → (views k).log.phase ≡ ph → part_in (views k) w ≡ DescriptorPart d → StoreFits (views k) w n ph (DescriptorPart d) → n ≢ 1
  not_one w n d Open e part fits = let q = fits.is in let l = some_class fits.lines fits.some_blocks in λ one. absurd (omega arith)
  not_one w n d (Applying []) e part fits = absurd fits
  not_one w n d (Applying (a ∷ todo)) e part fits = let z = of_descriptor a todo e w d fits.0 part in
      λ one. both_ways (is_run a.value) z.1 (ap is_run (fits.2 ∙ one))
  not_one w n d Idle e part fits = absurd fits
  not_one w n d (Drawn m) e part fits = absurd fits
  not_one w n d (Sealing m) e part fits = absurd fits
  not_one w n d Clearing e part fits = absurd fits
  not_one w n d (Retiring m) e part fits = absurd fits
  not_one w n d Voiding e part fits = absurd fits

  -- and none ORs bits into it, or ANDs them
  no_change : (how : Op) (w bits d : ℕ) (ph : Phase) → how ≢ op.Set → (views k).log.phase ≡ ph → part_in (views k) w ≡ DescriptorPart d → ChangeFits (views k) how w bits ph (DescriptorPart d) → ⊥
  no_change how w bits d (Applying []) ne e part fits = fits
  no_change how w bits d (Applying (a ∷ todo)) ne e part fits = let z = of_descriptor a todo e w d fits.0 part in ne (sym fits.1 ∙ z.0)
  no_change how w bits d Idle ne e part fits = fits
  no_change how w bits d Open ne e part fits = fits
  no_change how w bits d (Drawn m) ne e part fits = fits
  no_change how w bits d (Sealing m) ne e part fits = fits
  no_change how w bits d Clearing ne e part fits = fits
  no_change how w bits d (Retiring m) ne e part fits = fits
  no_change how w bits d Voiding ne e part fits = fits

  module _ (new : Memory) (was : DescriptorsFit o.shape mem) where
    kept : (c : ℕ) → c < chunks_of o.shape → new (PoolWord (word_of_descriptor o.shape c)) ≡ mem (PoolWord (word_of_descriptor o.shape c)) → new (PoolWord (word_of_descriptor o.shape c)) ≢ 1
    kept c inside same one = was c inside (sym same ∙ one)

    still : (s : Step) → is_store s ≡ false → Moves k s mem new → DescriptorsFit o.shape new
    still s plain m c inside = kept c inside (pool_stays mem new (word_of_descriptor o.shape c) k s plain m)

    changed : (w n : ℕ) → Becomes (PoolWord w) n mem new → ((c : ℕ) → c < chunks_of o.shape → w ≡ word_of_descriptor o.shape c → n ≢ 1) → DescriptorsFit o.shape new
    changed w n b not_ c inside = ⊎_elim
        (λ (e : word_of_descriptor o.shape c ≡ w). λ one. not_ c inside (sym e) (sym b.1 ∙ (ap (λ u. new (PoolWord u)) (sym e) ∙ one)))
        (λ (ne : word_of_descriptor o.shape c ≢ w). kept c inside (word_stays mem new (word_of_descriptor o.shape c) w ne b.0))
        (cases_eq (word_of_descriptor o.shape c) w)

    pub descriptors_after : (s : Step) → IsLawful (views k) s → Moves k s mem new → DescriptorsFit o.shape new
    descriptors_after (Store w n) law m = changed w n m (λ c inside e. let d = described w c inside e in
        not_one w n d.0 (views k).log.phase refl d.1 (subst (StoreFits (views k) w n (views k).log.phase) d.1 law.allowed.fits))
    descriptors_after (Or w bits found) law m = changed w _ m.0 (λ c inside e. let d = described w c inside e in
        absurd (no_change op.Or w bits d.0 (views k).log.phase (λ z. let q = ap op_tag z in absurd (omega arith)) refl d.1 (subst (ChangeFits (views k) op.Or w bits (views k).log.phase) d.1 law.allowed.fits)))
    descriptors_after (And w bits found) law m = changed w _ m.0 (λ c inside e. let d = described w c inside e in
        absurd (no_change op.And w bits d.0 (views k).log.phase (λ z. let q = ap op_tag z in absurd (omega arith)) refl d.1 (subst (ChangeFits (views k) op.And w bits (views k).log.phase) d.1 law.allowed.fits)))
    descriptors_after (Load w found) law m = still (Load w found) refl m
    descriptors_after (Flush line) law m = still (Flush line) refl m
    descriptors_after Drain law m = still Drain refl m
    descriptors_after (TakeWrite line won) law m = still (TakeWrite line won) refl m
    descriptors_after (TakeRead line won) law m = still (TakeRead line won) refl m
    descriptors_after (Raise line won) law m = still (Raise line won) refl m
    descriptors_after (Give line) law m = still (Give line) refl m
    descriptors_after (ZoneTry zone won) law m = still (ZoneTry zone won) refl m
    descriptors_after (ZoneGive zone) law m = still (ZoneGive zone) refl m
    descriptors_after (Occupied at found) law m = still (Occupied at found) refl m
    descriptors_after (Occupy at bits won) law m = still (Occupy at bits won) refl m
    descriptors_after (Vacate at bits) law m = still (Vacate at bits) refl m
    descriptors_after (Draw n) law m = still (Draw n) refl m
    descriptors_after (NumberSeen n) law m = still (NumberSeen n) refl m
    descriptors_after (StopSeen set) law m = still (StopSeen set) refl m
    descriptors_after SetStop law m = still SetStop refl m
    descriptors_after (Tell operation reply) law m = still (Tell operation reply) refl m

  pub sound_kept : (new : Memory) (views' : Views) (s : Step) → Sound o mem views → IsLawful (views k) s → Moves k s mem new → Turn views views' k (after (views k) s) → Sound o new views'
  sound_kept new views' s sound law m t = record {
    descriptors = descriptors_after new sound.descriptors s law m;
    sets = λ j. ⊎_elim
        (λ (e : j ≡ k). subst (λ i. SetsFit (views' i).log.entries) (sym e) (subst (λ (w : View). SetsFit w.log.entries) (sym t.here) (sets_after (views k) s law (sound.sets k))))
        (λ (ne : j ≢ k). subst (λ (w : View). SetsFit w.log.entries) (sym (t.else_ j ne)) (sound.sets j))
        (cases_eq j k);
  }
