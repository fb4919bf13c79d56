-- What a power failure may leave of each word: of a bit what is in memory, where no lane has an undrained change of it; of a lane's area its own words, but
-- for the seal and the generation as they were, by how far its call has come.
use Rattle.std.proofs.Common.{◌≡◌, ◌≢◌, ℕ, suc, ◌+◌, ◌-◌, ◌*◌, ◌/◌, ◌%◌, ◌<◌, ◌≤◌, ◌⊎◌, inl, inr, ⊎_elim, min, max, nat_le, nat_lt, Bool, true, false, cond, ◌&&◌, leb, ltb, ◌==◌, All, Contains, List, [], ◌∷◌, length, slice_index, IfSome, refl, sym, ap, ◌∙◌, subst, arith, bit_and, bit_or}
use Rattle.std.specs.Int.{bit_at, bit_not, w64}
use Rattle.std.specs.Int.Bits.{and_zero_r, or_zero_l}
use Rattle.std.proofs.lemmas.Bool.{cases_eq, cases_lt, cases_Bool, both_ways, eq-eqb, ne_eqb, and_from, and_parts, cond-true, cond-false, false_from_ne_true, le-leb, lt-ltb, leb-true, ltb-true}
use Rattle.std.proofs.lemmas.List.Elements.{All-contains, All-head, All-tail}
use Rattle.std.proofs.lemmas.List.Folds.{list_any_at}
use Rattle.std.proofs.lemmas.Nat.Bits.{bit_at_and, bit_at_or, bit_at_not, bit_at-lt}
use Rattle.pm_layout.specs.declared.shape.Shape.{Shape}
use Rattle.pm_layout.specs.Areas.{word_of_generation, word_of_seal, word_of_entry, line_of_slot, undo_slots, redo_entries}
use Rattle.pm_layout.specs.Chunks.{words_of, is_in_zone, is_chunk_page, is_descriptor_word, page_of_zone, page_in_zone, word_of_root}
use Rattle.pm_image.specs.Logs.{seal_word, generation_word}
use Rattle.pm_view.specs.declared.change.Change.{Change}
use Rattle.pm_view.specs.Bits.{all_bits, with_bits}
use Rattle.pm_view.specs.Changes.{Undrained, IsFormed, IsUndrained, taken_back, is_dirty_bit}
use Rattle.pm_view.specs.Parts.{GenerationPart, SealPart, EntryPart, SlotPart, OtherPart, is_entry_word, is_slot_word, part_of}
use Rattle.pm_view.specs.Log.{Phase, Idle, Open, Drawn, Sealing, Applying, Clearing, Retiring, Voiding}
use Rattle.pm_world.specs.Logs.{IsOld, AreaChange, LogFits, seal_in}
use Rattle.pm_world.specs.Memory.{Memory, PoolWord, bit}
use Rattle.pm_world.specs.World.{Opening, Views, Past, AreaFits, World}
use Rattle.pm_memory.specs.Survivors.{all_taken_back}
use Rattle.pm_world.specs.Crash.{IsUndrainedOf, Survives}

-- ---- a change that is taken back

with_all_bits : (x y : ℕ) → with_bits all_bits y x ≡ y
with_all_bits x y = ap (λ n. bit_or n y) (and_zero_r x) ∙ or_zero_l y

-- a bit outside of the mask stays
outside_stays : (c : Change) (word b : ℕ) → IsFormed c → b < 64 → (bit_at c.mask b == 1) ≡ false → bit_at (taken_back c word) b ≡ bit_at word b
outside_stays c word b formed low out =
    let whole : bit_at (taken_back c word) b ≡ max (bit_at (bit_and word (bit_not w64 c.mask)) b) (bit_at c.old b) = bit_at_or (bit_and word (bit_not w64 c.mask)) c.old b in
    let rest : bit_at (bit_and word (bit_not w64 c.mask)) b ≡ min (bit_at word b) (bit_at (bit_not w64 c.mask) b) = bit_at_and word (bit_not w64 c.mask) b in
    let free : bit_at (bit_not w64 c.mask) b ≡ 1 - bit_at c.mask b = bit_at_not w64 c.mask b formed.mask low in
    let inside : bit_at c.old b ≡ min (bit_at c.old b) (bit_at c.mask b) = ap (λ n. bit_at n b) (sym formed.old) ∙ bit_at_and c.old c.mask b in
    let one = bit_at-lt c.mask b in let two = bit_at-lt word b in let three = bit_at-lt c.old b in
    let apart : bit_at c.mask b ≢ 1 = λ q. both_ways (bit_at c.mask b == 1) out (eq-eqb (bit_at c.mask b) 1 q) in
    omega arith

-- ---- what an area's word is to its lane, and to another

module _ (sh : Shape) (k : ℕ) where
  seal_part : part_of sh k (word_of_seal sh k) ≡ SealPart
  seal_part = cond-false (word_of_seal sh k == word_of_generation sh k) _ _ (ne_eqb (word_of_seal sh k) (word_of_generation sh k) (λ q. omega arith)) ∙ cond-true (word_of_seal sh k == word_of_seal sh k) _ _ (eq-eqb (word_of_seal sh k) (word_of_seal sh k) refl)

  generation_part : part_of sh k (word_of_generation sh k) ≡ GenerationPart
  generation_part = cond-true (word_of_generation sh k == word_of_generation sh k) _ _ (eq-eqb (word_of_generation sh k) (word_of_generation sh k) refl)

  pub entry_part : (w : ℕ) → word_of_entry sh k 0 ≤ w → w < word_of_entry sh k (redo_entries sh) → part_of sh k w ≡ EntryPart
  entry_part w a b = cond-false (w == word_of_generation sh k) _ _ (ne_eqb w (word_of_generation sh k) (λ q. omega arith)) ∙ (cond-false (w == word_of_seal sh k) _ _ (ne_eqb w (word_of_seal sh k) (λ q. omega arith))
      ∙ cond-true (is_entry_word sh k w) _ _ (and_from (leb (word_of_entry sh k 0) w) (ltb w (word_of_entry sh k (redo_entries sh))) (le-leb (word_of_entry sh k 0) w a) (lt-ltb w (word_of_entry sh k (redo_entries sh)) b)))

  pub slot_part : (w : ℕ) → 8 * line_of_slot sh k 0 ≤ w → w < 8 * line_of_slot sh k (undo_slots sh) → part_of sh k w ≡ SlotPart
  slot_part w a b = cond-false (w == word_of_generation sh k) _ _ (ne_eqb w (word_of_generation sh k) (λ q. omega arith)) ∙ (cond-false (w == word_of_seal sh k) _ _ (ne_eqb w (word_of_seal sh k) (λ q. omega arith))
      ∙ (cond-false (is_entry_word sh k w) _ _ (false_from_ne_true (is_entry_word sh k w) (λ t. let z = ltb-true w (word_of_entry sh k (redo_entries sh)) (and_parts (leb (word_of_entry sh k 0) w) (ltb w (word_of_entry sh k (redo_entries sh))) t).1 in omega arith))
      ∙ cond-true (is_slot_word sh k w) _ _ (and_from (leb (8 * line_of_slot sh k 0) w) (ltb w (8 * line_of_slot sh k (undo_slots sh))) (le-leb (8 * line_of_slot sh k 0) w a) (lt-ltb w (8 * line_of_slot sh k (undo_slots sh)) b))))

  -- in another lane's area, of 1024 words
  pub other_part : (j i : ℕ) → j ≢ k → j < sh.lanes → i < 1024 → part_of sh k (word_of_generation sh j + i) ≡ OtherPart
  other_part j i ne inj l = let w : ℕ = word_of_generation sh j + i in
      let no_zone : is_in_zone sh (w / 512) ≡ false = false_from_ne_true (is_in_zone sh (w / 512)) (λ t. let z = leb-true (page_of_zone sh 0) (w / 512) (and_parts (leb (page_of_zone sh 0) (w / 512)) (ltb (w / 512) (page_of_zone sh sh.zones)) t).0 in omega arith) in
      cond-false (w == word_of_generation sh k) _ _ (ne_eqb w (word_of_generation sh k) (λ q. omega arith)) ∙ (cond-false (w == word_of_seal sh k) _ _ (ne_eqb w (word_of_seal sh k) (λ q. omega arith))
      ∙ (cond-false (is_entry_word sh k w) _ _ (false_from_ne_true (is_entry_word sh k w) (λ t. let p = and_parts (leb (word_of_entry sh k 0) w) (ltb w (word_of_entry sh k (redo_entries sh))) t in let y = leb-true (word_of_entry sh k 0) w p.0 in let z = ltb-true w (word_of_entry sh k (redo_entries sh)) p.1 in omega arith))
      ∙ (cond-false (is_slot_word sh k w) _ _ (false_from_ne_true (is_slot_word sh k w) (λ t. let p = and_parts (leb (8 * line_of_slot sh k 0) w) (ltb w (8 * line_of_slot sh k (undo_slots sh))) t in let y = leb-true (8 * line_of_slot sh k 0) w p.0 in let z = ltb-true w (8 * line_of_slot sh k (undo_slots sh)) p.1 in omega arith))
      ∙ (cond-false (w == word_of_root sh) _ _ (ne_eqb w (word_of_root sh) (λ q. omega arith))
      ∙ (cond-false (is_descriptor_word sh w) _ _ (ap (λ t. t && (page_in_zone sh (w / 512) == 0) && nat_lt (w % 512) 64) no_zone)
      ∙ cond-false (is_chunk_page sh (w / 512)) _ _ (ap (λ t. t && nat_le 1 (page_in_zone sh (w / 512))) no_zone))))))

pub no_other : (ph : Phase) (count generation : ℕ) (c : Undrained) → AreaChange ph count generation OtherPart c → ⊥
no_other Idle count generation c e = e
no_other Open count generation c e = e
no_other (Drawn n) count generation c e = e
no_other (Sealing n) count generation c e = e
no_other (Applying t) count generation c e = e
no_other Clearing count generation c e = e
no_other (Retiring n) count generation c e = e
no_other Voiding count generation c e = e

-- which seal and which generation an image has, by how far the call has come
abbrev pub SealIs : ℕ → ℕ → Phase → Type 0
SealIs count seal (Sealing n) = (seal ≡ count) ⊎ (seal ≡ 0)
SealIs count seal (Applying todo) = seal ≡ count
SealIs count seal Clearing = (seal ≡ 0) ⊎ (seal ≡ count)
SealIs count seal phase = seal ≡ 0

abbrev pub GenerationIs : ℕ → ℕ → Phase → Type 0
GenerationIs before found (Applying todo) = (found ≡ before) ⊎ (found ≡ suc before)
GenerationIs before found Clearing = found ≡ suc before
GenerationIs before found (Retiring n) = (found ≡ suc before) ⊎ (found ≡ before)
GenerationIs before found Voiding = (found ≡ suc before) ⊎ (found ≡ before)
GenerationIs before found phase = found ≡ before

module _ (o : Opening) (mem : Memory) (views : Views) (g : Past) (x : World o mem views g) where
  pub log_fits : (k : ℕ) → k < o.shape.lanes → AreaFits o mem g k (views k)
  log_fits k ink = ⊎_elim (λ (l : k < o.lanes). (x.each_lane k l).log) (λ (out : o.lanes ≤ k). x.logs_beyond k out ink) (cases_lt k o.lanes)

  module _ (image : List ℕ) (sv : Survives o mem views image) where
    -- a change of the word was taken back
    record Lost (w : ℕ) : Type 0 where
      seen : Undrained
      lane : ℕ
      of_lane : lane < o.lanes
      there : Contains (views lane).changes seen
      of_word : seen.word ≡ w
      old : (n : ℕ) → IsOld n seen → slice_index image w ≡ n

    left_cases : (w : ℕ) (lost : List Change) → All (IsUndrainedOf views o.lanes w) lost → slice_index image w ≡ all_taken_back lost (mem (PoolWord w)) → (slice_index image w ≡ mem (PoolWord w)) ⊎ Lost w
    left_cases w [] all left = inl left
    left_cases w (c ∷ lost) all left = let u = All-head (IsUndrainedOf views o.lanes w) c lost all in inr (record {
      seen = u.seen;
      lane = u.lane;
      of_lane = u.of_lane;
      there = u.there;
      of_word = sym u.is.word ∙ u.of_word;
      old = λ n old. let m : c.mask ≡ all_bits = u.is.mask ∙ old.0 in let v : c.old ≡ n = subst (λ d. IfSome d (λ z. c.old ≡ z)) old.1 u.is.old in
          left ∙ (ap (λ z. with_bits z c.old (all_taken_back lost (mem (PoolWord w)))) m ∙ (with_all_bits (all_taken_back lost (mem (PoolWord w))) c.old ∙ v));
    })

    word_left : (w : ℕ) → w < words_of o.shape → (slice_index image w ≡ mem (PoolWord w)) ⊎ Lost w
    word_left w inside = let l = sv.each w (let s = x.size in omega arith) in left_cases w l.lost l.undrained l.is

    dirty : (k w b : ℕ) (c : Change) (seen : Undrained) → c.word ≡ w → Contains (views k).changes seen → Rattle.pm_view.specs.Changes.IsUndrained c seen → (bit_at c.mask b == 1) ≡ true → is_dirty_bit (views k).changes w b ≡ true
    dirty k w b c seen of there is e = list_any_at (λ (d : Undrained). d.word == w && bit_at d.mask b == 1) (views k).changes there.0 seen there.1
        (ap (λ (d : Undrained). d.word == w && bit_at d.mask b == 1) there.2 ∙ and_from (seen.word == w) (bit_at seen.mask b == 1) (eq-eqb seen.word w (sym is.word ∙ of)) (ap (λ z. bit_at z b == 1) (sym is.mask) ∙ e))

    bits_left : (w b value : ℕ) (lost : List Change) → b < 64 → All (IsUndrainedOf views o.lanes w) lost → (bit_at (all_taken_back lost value) b ≡ bit_at value b) ⊎ ((k : ℕ) × (k < o.lanes) × (is_dirty_bit (views k).changes w b ≡ true))
    bits_left w b value [] small all = inl refl
    bits_left w b value (c ∷ lost) small all = go (bits_left w b value lost small (All-tail (IsUndrainedOf views o.lanes w) c lost all)) (All-head (IsUndrainedOf views o.lanes w) c lost all) (cases_Bool (bit_at c.mask b == 1))
      where
        go : (bit_at (all_taken_back lost value) b ≡ bit_at value b) ⊎ ((k : ℕ) × (k < o.lanes) × (is_dirty_bit (views k).changes w b ≡ true)) → IsUndrainedOf views o.lanes w c → ((bit_at c.mask b == 1) ≡ true) ⊎ ((bit_at c.mask b == 1) ≡ false)
            → (bit_at (taken_back c (all_taken_back lost value)) b ≡ bit_at value b) ⊎ ((k : ℕ) × (k < o.lanes) × (is_dirty_bit (views k).changes w b ≡ true))
        go r u (inl t) = inr (u.lane, u.of_lane, dirty u.lane w b c u.seen u.of_word u.there u.is t)
        go r u (inr f) = ⊎_elim (λ (e : bit_at (all_taken_back lost value) b ≡ bit_at value b). inl (outside_stays c (all_taken_back lost value) b u.formed small f ∙ e)) (λ y. inr y) r

    -- A BIT IS AS IN MEMORY, or some lane has an undrained change of it
    pub bit_left : (w b : ℕ) → w < words_of o.shape → b < 64 → (bit (slice_index image w) b ≡ bit (mem (PoolWord w)) b) ⊎ ((k : ℕ) × (k < o.lanes) × (is_dirty_bit (views k).changes w b ≡ true))
    bit_left w b inside small = let l = sv.each w (let s = x.size in omega arith) in ⊎_elim (λ (e : bit_at (all_taken_back l.lost (mem (PoolWord w))) b ≡ bit_at (mem (PoolWord w)) b). inl (ap (λ z. z == 1) (ap (λ z. bit_at z b) l.is ∙ e))) (λ y. inr y) (bits_left w b (mem (PoolWord w)) l.lost small l.undrained)

    -- the whole word, or a change of it was taken back
    pub record Taken (w : ℕ) : Type 0 where
      pub seen : Undrained
      pub lane : ℕ
      pub of_lane : lane < o.lanes
      pub of_word : seen.word ≡ w
      pub old : (n : ℕ) → IsOld n seen → slice_index image w ≡ n
      pub is : AreaChange (views lane).log.phase (length (views lane).log.entries) (views lane).log.generation (part_of o.shape lane w) seen
      pub there : Contains (views lane).changes seen

    pub whole_left : (w : ℕ) → w < words_of o.shape → (slice_index image w ≡ mem (PoolWord w)) ⊎ Taken w
    whole_left w inside = ⊎_elim (λ (e : slice_index image w ≡ mem (PoolWord w)). inl e) (λ (t : Lost w). inr (record {
      seen = t.seen;
      lane = t.lane;
      of_lane = t.of_lane;
      of_word = t.of_word;
      old = t.old;
      there = t.there;
      is = let m = x.most_lanes in let inl_ = t.of_lane in let l = log_fits t.lane (omega arith) in
          subst (λ z. AreaChange (views t.lane).log.phase (length (views t.lane).log.entries) (views t.lane).log.generation (part_of o.shape t.lane z) t.seen) t.of_word
          (All-contains (λ (c : Undrained). AreaChange (views t.lane).log.phase (length (views t.lane).log.entries) (views t.lane).log.generation (part_of o.shape t.lane c.word) c) (views t.lane).changes t.seen l.area_changes t.there);
    })) (word_left w inside)

    -- of a word of lane k's area, by its own change alone
    pub record AreaTaken (k w : ℕ) : Type 0 where
      pub seen : Undrained
      pub of_word : seen.word ≡ w
      pub old : (n : ℕ) → IsOld n seen → slice_index image w ≡ n
      pub is : AreaChange (views k).log.phase (length (views k).log.entries) (views k).log.generation (part_of o.shape k w) seen
      pub there : Contains (views k).changes seen

    pub area_left : (k i : ℕ) → k < o.shape.lanes → i < 1024 → (slice_index image (word_of_generation o.shape k + i) ≡ mem (PoolWord (word_of_generation o.shape k + i))) ⊎ AreaTaken k (word_of_generation o.shape k + i)
    area_left k i ink l = ⊎_elim (λ e. inl e) (λ (t : Taken (word_of_generation o.shape k + i)). inr (⊎_elim
        (λ (q : t.lane ≡ k). record {
          seen = t.seen;
          of_word = t.of_word;
          old = t.old;
          is = subst (λ j. AreaChange (views j).log.phase (length (views j).log.entries) (views j).log.generation (part_of o.shape j (word_of_generation o.shape k + i)) t.seen) q t.is;
          there = subst (λ j. Contains (views j).changes t.seen) q t.there;
        })
        (λ (ne : t.lane ≢ k). absurd (no_other (views t.lane).log.phase (length (views t.lane).log.entries) (views t.lane).log.generation t.seen
        (subst (λ p. AreaChange (views t.lane).log.phase (length (views t.lane).log.entries) (views t.lane).log.generation p t.seen) (other_part o.shape t.lane k i (λ q. ne (sym q)) ink l) t.is))) (cases_eq t.lane k)))
        (whole_left (word_of_generation o.shape k + i) (omega arith))

    module _ (k : ℕ) (ink : k < o.shape.lanes) where
      abbrev count : ℕ
      count = length (views k).log.entries

      abbrev before : ℕ
      before = (views k).log.generation

      seal_here : (ph : Phase) (seal : ℕ) → seal ≡ seal_in ph (length (views k).log.entries) → SealIs (length (views k).log.entries) seal ph
      seal_here Idle seal e = e
      seal_here Open seal e = e
      seal_here (Drawn n) seal e = e
      seal_here (Sealing n) seal e = inl e
      seal_here (Applying t) seal e = e
      seal_here Clearing seal e = inl e
      seal_here (Retiring n) seal e = e
      seal_here Voiding seal e = e

      seal_before : (ph : Phase) (seal : ℕ) (c : Undrained) → AreaChange ph (length (views k).log.entries) (views k).log.generation SealPart c → ((n : ℕ) → IsOld n c → seal ≡ n) → SealIs (length (views k).log.entries) seal ph
      seal_before Idle seal c e old = absurd e
      seal_before Open seal c e old = absurd e
      seal_before (Drawn n) seal c e old = absurd e
      seal_before (Sealing n) seal c e old = inr (old 0 e)
      seal_before (Applying t) seal c e old = absurd e
      seal_before Clearing seal c e old = inr (old (length (views k).log.entries) e)
      seal_before (Retiring n) seal c e old = absurd e
      seal_before Voiding seal c e old = absurd e

      pub seal_is : SealIs (length (views k).log.entries) (seal_word image k) (views k).log.phase
      seal_is = let l = log_fits k ink in let w : word_of_generation o.shape k + 1 ≡ word_of_seal o.shape k = omega arith in
          ⊎_elim (λ e. seal_here (views k).log.phase (seal_word image k) (e ∙ (ap (λ z. mem (PoolWord z)) w ∙ l.sealed)))
          (λ (t : AreaTaken k (word_of_generation o.shape k + 1)). seal_before (views k).log.phase (seal_word image k) t.seen
          (subst (λ p. AreaChange (views k).log.phase (length (views k).log.entries) (views k).log.generation p t.seen) (ap (part_of o.shape k) w ∙ seal_part o.shape k) t.is) t.old) (area_left k 1 ink (omega arith))

      generation_here : (ph : Phase) (bumped : Bool) (found : ℕ) → Rattle.pm_world.specs.Logs.BumpFits ph bumped → found ≡ cond bumped (suc (views k).log.generation) (views k).log.generation → GenerationIs (views k).log.generation found ph
      generation_here Idle bumped found b e = e ∙ ap (λ t. cond t (suc (views k).log.generation) (views k).log.generation) b
      generation_here Open bumped found b e = e ∙ ap (λ t. cond t (suc (views k).log.generation) (views k).log.generation) b
      generation_here (Drawn n) bumped found b e = e ∙ ap (λ t. cond t (suc (views k).log.generation) (views k).log.generation) b
      generation_here (Sealing n) bumped found b e = e ∙ ap (λ t. cond t (suc (views k).log.generation) (views k).log.generation) b
      generation_here (Applying t) true found b e = inr e
      generation_here (Applying t) false found b e = inl e
      generation_here Clearing bumped found b e = e ∙ ap (λ t. cond t (suc (views k).log.generation) (views k).log.generation) b
      generation_here (Retiring n) bumped found b e = inl (e ∙ ap (λ t. cond t (suc (views k).log.generation) (views k).log.generation) b)
      generation_here Voiding bumped found b e = inl (e ∙ ap (λ t. cond t (suc (views k).log.generation) (views k).log.generation) b)

      generation_before : (ph : Phase) (found : ℕ) (c : Undrained) → AreaChange ph (length (views k).log.entries) (views k).log.generation GenerationPart c → ((n : ℕ) → IsOld n c → found ≡ n) → GenerationIs (views k).log.generation found ph
      generation_before Idle found c e old = absurd e
      generation_before Open found c e old = absurd e
      generation_before (Drawn n) found c e old = absurd e
      generation_before (Sealing n) found c e old = absurd e
      generation_before (Applying t) found c e old = inl (old (views k).log.generation e)
      generation_before Clearing found c e old = absurd e
      generation_before (Retiring n) found c e old = inr (old (views k).log.generation e)
      generation_before Voiding found c e old = inr (old (views k).log.generation e)

      pub generation_is : GenerationIs (views k).log.generation (generation_word image k) (views k).log.phase
      generation_is = let l = log_fits k ink in let w : word_of_generation o.shape k + 0 ≡ word_of_generation o.shape k = omega arith in
          ⊎_elim (λ e. generation_here (views k).log.phase (views k).log.bumped (generation_word image k) l.bump (ap (slice_index image) (sym w) ∙ (e ∙ (ap (λ z. mem (PoolWord z)) w ∙ l.stored))))
          (λ (t : AreaTaken k (word_of_generation o.shape k + 0)). generation_before (views k).log.phase (generation_word image k) t.seen
          (subst (λ p. AreaChange (views k).log.phase (length (views k).log.entries) (views k).log.generation p t.seen) (ap (part_of o.shape k) w ∙ generation_part o.shape k) t.is) (λ n q. ap (slice_index image) (sym w) ∙ t.old n q)) (area_left k 0 ink (omega arith))
