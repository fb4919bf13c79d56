-- ENTRIES THAT OR OR AND bits of a word that lanes share are applied; and the stores of all phases.
use Rattle.std.specs.Prelude.{List, [], ◌∷◌, length, bit_and, bit_or, if◌then◌else◌}
use Rattle.std.proofs.Common.{◌≡◌, ◌≢◌, ℕ, ◌^◌, ◌<◌, ◌⊎◌, inl, inr, ⊎_elim, Option, Some, true, false, ◌==◌, refl, sym, ap, ◌∙◌, subst, arith}
use Rattle.std.proofs.lemmas.Bool.{cond_both}
use Rattle.std.proofs.lemmas.Nat.{and_le_l, or_lt}
use Rattle.pm_layout.specs.declared.shape.Shape.{Shape}
use Rattle.pm_layout.specs.Areas.{word_of_generation, word_of_seal}
use Rattle.pm_layout.specs.Chunks.{words_of}
use Rattle.pm_record.specs.declared.redo.Op.{Op}
use Rattle.pm_record.specs.declared.redo.Op.TheVariants as op
use Rattle.pm_view.specs.Changes.{Undrained}
use Rattle.pm_view.specs.Counts.{MayCount}
use Rattle.pm_view.specs.Entries.{Entry}
use Rattle.pm_view.specs.Founds.{FindsKnown}
use Rattle.pm_view.specs.Log.{Phase, Idle, Open, Drawn, Applying, log_changed}
use Rattle.pm_view.specs.Parts.{Part, GenerationPart, SealPart, EntryPart, SlotPart, RootPart, DescriptorPart, ChunkPart, is_entry_word, is_slot_word, pool_part, part_of, place_in}
use Rattle.pm_view.specs.Places.{Place, Descr, twin, same_place}
use Rattle.pm_view.specs.Steps.{Step}
use Rattle.pm_view.specs.Steps.Step.{Or, And, Store}
use Rattle.pm_view.specs.View.{View}
use Rattle.pm_view.specs.Views.{part_in, changed_from}
use Rattle.pm_world.specs.Lawful.{MayChange, ChangeFits, IsNext}
use Rattle.pm_world.specs.Laws.{Turn, Keeps}
use Rattle.pm_world.specs.Logs.{AreaChange, EntryOf}
use Rattle.pm_world.specs.Memory.{Memory, PoolWord, Becomes}
use Rattle.pm_world.specs.World.{Opening, Views, Past, World}
use Rattle.pm_world.proofs.PlacesAt.{is_at}
use Rattle.pm_world.proofs.Known.{known_so}
use Rattle.pm_world.proofs.StepApply.{made_word, mask_of, OneWord, same_cell}
use Rattle.pm_world.proofs.StepChange.{tag, stores_at, clears_seal, applies_generation}
use Rattle.pm_world.proofs.StepEntries.{pair, change, next_place, entry_applied, applies_root, applies_descriptor, applies_chunk}
use Rattle.pm_world.specs.Laws.{KeepsAt}
use Rattle.pm_world.proofs.StoreEnd.{store_seal, store_generation, store_void}
use Rattle.pm_world.proofs.StoreEntry.{store_entry}
use Rattle.pm_world.proofs.StoreRecord.{store_record}
use Rattle.pm_world.proofs.WordsApart.{one_cell}

-- what a lane knows of a word is so
abbrev pub KnownIsSo : Type 0
KnownIsSo = (o : Opening) (mem : Memory) (views : Views) (g : Past) (k : ℕ) → World o mem views g → k < o.lanes → (w : ℕ) → w < words_of o.shape → FindsKnown (views k) w (mem (PoolWord w))

-- ---- the descriptor of a chunk is its word
abbrev mark : Part → ℕ
mark GenerationPart = 1
mark SealPart = 2
mark EntryPart = 3
mark SlotPart = 4
mark (DescriptorPart c) = 5
mark part = 0

descriptor_part : (sh : Shape) (lane w c : ℕ) → part_of sh lane w ≡ DescriptorPart c → pool_part sh w ≡ DescriptorPart c
descriptor_part sh lane w c = let pool = pool_part sh w in let Q : Part → Type 0 = λ q. q ≡ DescriptorPart c → pool_part sh w ≡ DescriptorPart c in
    cond_both (w == word_of_generation sh lane) GenerationPart (if w == word_of_seal sh lane then SealPart else if is_entry_word sh lane w then EntryPart else if is_slot_word sh lane w then SlotPart else pool) Q (λ _ q. let z = ap mark q in absurd (omega arith))
    (λ _. cond_both (w == word_of_seal sh lane) SealPart (if is_entry_word sh lane w then EntryPart else if is_slot_word sh lane w then SlotPart else pool) Q (λ _ q. let z = ap mark q in absurd (omega arith))
    (λ _. cond_both (is_entry_word sh lane w) EntryPart (if is_slot_word sh lane w then SlotPart else pool) Q (λ _ q. let z = ap mark q in absurd (omega arith))
    (λ _. cond_both (is_slot_word sh lane w) SlotPart pool Q (λ _ q. let z = ap mark q in absurd (omega arith)) (λ _ q. q))))

-- ---- an OR, an AND: its phase and its part written out
abbrev NextAt : View → Op → ℕ → ℕ → Phase → Part → Type 0
NextAt v how w bits ph q = (d : Entry) × (todo : List Entry) × (ph ≡ Applying (d ∷ todo)) × IsNext (d ∷ todo) w how bits × (tag q ≡ 0) × (((count generation : ℕ) (c : Undrained) → AreaChange (Applying todo) count generation q c) ⊎ ((c : ℕ) × (q ≡ DescriptorPart c)))

next_at : (v : View) (how : Op) (w bits : ℕ) (ph : Phase) (q : Part) → ChangeFits v how w bits ph q → NextAt v how w bits ph q
next_at v how w bits (Applying []) (ChunkPart c i) f = absurd f
next_at v how w bits (Applying (d ∷ todo)) (ChunkPart c i) f = (d, todo, refl, f, refl, inl (λ _ _ _. tt))
next_at v how w bits (Applying []) (DescriptorPart c) f = absurd f
next_at v how w bits (Applying (d ∷ todo)) (DescriptorPart c) f = (d, todo, refl, f, refl, inr (c, refl))
next_at v how w bits ph q f = absurd f

module _ (o : Opening) (mem new : Memory) (views views' : Views) (g : Past) (x : World o mem views g) (k : ℕ) (ink : k < o.lanes) (step : Step) (how : Op) (other : how ≢ op.Set) (w bits n : ℕ) (m : MayChange (views k) how w bits) (due : MayCount (views k)) (made : made_word how bits (mem (PoolWord w)) ≡ n) (small : n < 2 ^ 64) (mask : mask_of how bits < 2 ^ 64) (was : Option ℕ)
    (became : Becomes (PoolWord w) n mem new) where
  pub change_entry : NextAt (views k) how w bits (views k).log.phase (part_in (views k) w) → Turn views views' k (changed_from step (views k) w (mask_of how bits) was n (views k).claims (log_changed (views k).log.phase (views k).log)) → World o new views' g
  change_entry a t = let d = a.0 in let todo = a.1 in let ph = a.2 in let next = a.3 in
      let here : part_of o.shape k w ≡ part_in (views k) w = sym (subst (λ s. part_in (views k) w ≡ part_of s k w) (x.each_lane k ink).shape (subst (λ l. part_in (views k) w ≡ part_of (views k).fixed.shape l w) (x.each_lane k ink).lane refl)) in
      let p = next_place o mem views g x k ink w d todo ph next.0 (ap tag here ∙ a.4) in
      let e : made_word d.op d.value (mem (PoolWord w)) ≡ n = ap (λ z. made_word z d.value (mem (PoolWord w))) next.1 ∙ (ap (λ z. made_word how z (mem (PoolWord w))) next.2 ∙ made) in
      let q : mask_of d.op d.value ≡ mask_of how bits = ap (λ z. mask_of z d.value) next.1 ∙ ap (mask_of how) next.2 in
      let inside = subst (λ s. w < words_of s) (x.each_lane k ink).shape m.inside in let small' = subst (λ z. z < 2 ^ 64) (sym e) small in
      let c : Undrained = change o mem views g x k ink w d todo ph next.0 inside p.0 p.1 small' was in
      let of = pair o mem views g x k ink w d todo ph next.0 inside p.0 p.1 small' was in
      entry_applied o mem views g x k ink w d todo ph next.0 inside p.0 p.1 small' was step new views' (subst (λ z. Becomes (PoolWord w) z mem new) (sym e) became) m.room due (subst (λ z. z < 2 ^ 64) (sym q) mask)
      (⊎_elim (λ (y : (count generation : ℕ) (c : Undrained) → AreaChange (Applying todo) count generation (part_in (views k) w) c). subst (λ z. AreaChange (Applying todo) (length (views k).log.entries) (views k).log.generation z c) (sym here) (y (length (views k).log.entries) (views k).log.generation c))
      (λ (y : (c : ℕ) × (part_in (views k) w ≡ DescriptorPart c)). absurd (other (sym next.1 ∙ (sets p.0 of (y.0) (here ∙ y.1) next.0)))) a.5)
      (subst (λ z. Turn views views' k (changed_from step (views k) w z was (made_word d.op d.value (mem (PoolWord w))) (views k).claims (record (views k).log { phase = Applying todo }))) (sym q) (subst (λ z. Turn views views' k (changed_from step (views k) w (mask_of how bits) was z (views k).claims (record (views k).log { phase = Applying todo }))) (sym e)
      (subst (λ z. Turn views views' k (changed_from step (views k) w (mask_of how bits) was n (views k).claims (log_changed z (views k).log))) ph t)))
    where
      sets : (p : Place) → (Rattle.pm_view.specs.Places.is_place o.shape p ≡ true) × (Rattle.pm_view.specs.Places.word_of o.shape p ≡ a.0.word) × EntryOf p a.0.op a.0.value → (c : ℕ) → part_of o.shape k w ≡ DescriptorPart c → a.0.word ≡ w → a.0.op ≡ op.Set
      sets p s c e z = let i = is_at o.shape (λ _. 0) w (Descr c) (ap (place_in (λ _. 0)) (descriptor_part o.shape k w c e)) in
          let one : OneWord (Descr c) p = same_cell (Descr c) p (one_cell o.shape (Descr c) p i.inside s.0 (i.word ∙ (sym z ∙ sym s.1))) in
          let r : p ≡ Descr c = ⊎_elim (λ (y : Descr c ≡ p). sym y) (λ (y : (Descr c ≡ twin p) × (same_place p (Descr c) ≡ false)). sym (Rattle.pm_world.proofs.Basics.twin_twin p) ∙ sym (ap twin y.0)) one in
          (subst (λ y. EntryOf y a.0.op a.0.value) r s.2).0

op_tag : Op → ℕ
op_tag op.Set = 0
op_tag op.Or = 1
op_tag op.And = 2

not_set : (how : Op) → op_tag how ≢ 0 → how ≢ op.Set
unfolding op_tag
not_set how ne e = ne (ap op_tag e)

pub or_from : KnownIsSo → (w bits found : ℕ) → Keeps (Or w bits found)
unfolding op_tag
or_from known w bits found o mem new views views' g k x ink law moves t = let m = law.allowed in let inside = subst (λ s. w < words_of s) (x.each_lane k ink).shape m.inside in
    let was : found < 2 ^ 64 = subst (λ z. z < 2 ^ 64) (sym moves.1) (x.small w) in (
      change_entry o mem new views views' g x k ink (Or w bits found) op.Or (not_set op.Or (λ q. omega arith)) w bits (bit_or found bits) m (law.due refl) (ap (λ z. bit_or z bits) (sym moves.1)) (or_lt 64 found bits was m.small) m.small (Some found) moves.0 (next_at (views k) op.Or w bits (views k).log.phase (part_in (views k) w) m.fits) t,
      subst (FindsKnown (views k) w) (sym moves.1) (known o mem views g k x ink w inside),
    )

pub and_from : KnownIsSo → (w bits found : ℕ) → Keeps (And w bits found)
unfolding op_tag
and_from known w bits found o mem new views views' g k x ink law moves t = let m = law.allowed in let inside = subst (λ s. w < words_of s) (x.each_lane k ink).shape m.inside in
    let was : found < 2 ^ 64 = subst (λ z. z < 2 ^ 64) (sym moves.1) (x.small w) in (
      change_entry o mem new views views' g x k ink (And w bits found) op.And (not_set op.And (λ q. omega arith)) w bits (bit_and found bits) m (law.due refl) (ap (λ z. bit_and z bits) (sym moves.1)) (let z = and_le_l found bits in omega arith) (omega arith) (Some found) moves.0 (next_at (views k) op.And w bits (views k).log.phase (part_in (views k) w) m.fits) t,
      subst (FindsKnown (views k) w) (sym moves.1) (known o mem views g k x ink w inside),
    )

-- ---- THE STORES OF ALL PHASES: those of an open call's words of blocks, and that of a run's descriptor, are premises
pub record OtherStores : Type 0 where
  pub idle : (c i : ℕ) → KeepsAt Idle (ChunkPart c i)
  pub chunk : (c i : ℕ) → KeepsAt Open (ChunkPart c i)
  pub descriptor : (c : ℕ) → KeepsAt Open (DescriptorPart c)

each_store : OtherStores → (ph : Phase) (q : Part) → KeepsAt ph q
each_store s Idle (ChunkPart c i) = s.idle c i
each_store s Open SlotPart = store_record
each_store s Open EntryPart = store_entry
each_store s Open (ChunkPart c i) = s.chunk c i
each_store s Open (DescriptorPart c) = s.descriptor c
each_store s Open GenerationPart = store_void
each_store s (Drawn n) GenerationPart = store_generation n
each_store s (Drawn n) SealPart = store_seal n
each_store s (Applying todo) GenerationPart = applies_generation todo
each_store s (Applying todo) RootPart = applies_root todo
each_store s (Applying todo) (DescriptorPart c) = applies_descriptor todo c
each_store s (Applying todo) (ChunkPart c i) = applies_chunk todo c i
each_store s (Applying todo) SealPart = clears_seal todo
each_store s ph q = stores_at ph q (λ w n o mem new views views' g k x ink m due e part c moves t. absurd c)

pub store_from : OtherStores → (w n : ℕ) → Keeps (Store w n)
store_from s w n o mem new views views' g k x ink law moves t = (each_store s (views k).log.phase (part_in (views k) w) w n o mem new views views' g k x ink law refl refl moves t, tt)

known_is_so : KnownIsSo
known_is_so o mem views g k x ink w inside = known_so o mem views g x k ink w

-- ORs and ANDs keep the world
pub or_keeps : (w bits found : ℕ) → Keeps (Or w bits found)
or_keeps = or_from known_is_so

pub and_keeps : (w bits found : ℕ) → Keeps (And w bits found)
and_keeps = and_from known_is_so
