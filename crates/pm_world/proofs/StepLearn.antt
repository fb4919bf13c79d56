-- A LANE LEARNS FROM A LOAD before its number is drawn: from a descriptor, from a bitmap, and of each word what it is.
use Rattle.std.specs.Prelude.{List, ◌∷◌, if◌then◌else◌}
use Rattle.std.proofs.Common.{◌≡◌, ◌≢◌, ℕ, zero, suc, ◌+◌, ◌<◌, nat_lt, Bool, true, false, cond, ◌==◌, ◌&&◌, ◌||◌, refl, sym, ap, ◌∙◌, subst, arith, eq-eqb, ne_eqb, None}
use Rattle.std.proofs.lemmas.Bool.{ltb-true, both_ways, and_parts, and_from, or_right, cond-true, cond-false}
use Rattle.pm_layout.specs.declared.shape.Shape.{Shape}
use Rattle.pm_layout.specs.Areas.{word_of_generation, word_of_seal}
use Rattle.pm_layout.specs.Chunks.{words_of, chunks_of, word_of_chunk, word_of_descriptor}
use Rattle.pm_view.specs.Claims.{Claim, Knows, SawBitmap, SawDescriptor, locked, header_in, geometry, here, found, pictured, making_of, shown_by_bitmap, shown_by_descriptor}
use Rattle.pm_view.specs.Entries.{latest, redos, turn}
use Rattle.pm_view.specs.Log.{Phase, Idle, Open, Drawn, Sealing, Applying, Clearing, Retiring, Voiding, is_early}
use Rattle.pm_view.specs.Parts.{Part, GenerationPart, SealPart, EntryPart, SlotPart, RootPart, DescriptorPart, ChunkPart, OtherPart, is_entry_word, is_slot_word, pool_part, part_of, place_in}
use Rattle.pm_view.specs.Places.{Place, InRun, InHuge, Descr, RootWord, Block, block_of, is_data}
use Rattle.pm_view.specs.Steps.Step.{Load}
use Rattle.pm_view.specs.View.{View}
use Rattle.pm_view.specs.Views.{part_in, seen_by}
use Rattle.pm_world.specs.States.{given}
use Rattle.pm_world.specs.Sights.{is_recorded, is_made, sight_of}
use Rattle.pm_world.specs.Lanes.{own, owns}
use Rattle.pm_world.specs.Laws.{Turn, Keeps}
use Rattle.pm_world.specs.Memory.{Memory, PoolWord}
use Rattle.pm_world.specs.World.{Opening, Views, Past, settled_words, World}
use Rattle.pm_world.proofs.Basics.{some_else, more3}
use Rattle.pm_world.proofs.Descriptors.{header_then, saw_descriptor}
use Rattle.pm_world.proofs.Looks.{saw_bitmap}
use Rattle.pm_world.proofs.PlacesAt.{is_at}
use Rattle.pm_world.proofs.StepClaims.{claims_step}
use Rattle.pm_world.proofs.StepLoad.{KeepsLoadAt, load_from, load_drawn, load_sealing, load_applying, load_clearing, load_retiring, load_voiding, records_known, knows_word}
use Rattle.pm_world.proofs.StepLocks.{header_found}
use Rattle.pm_world.proofs.Worlds.{turned}

-- ---- WHICH WORD a part is
abbrev is_pooled : Part → Bool
is_pooled GenerationPart = false
is_pooled SealPart = false
is_pooled EntryPart = false
is_pooled SlotPart = false
is_pooled RootPart = true
is_pooled (DescriptorPart c) = true
is_pooled (ChunkPart c u) = true
is_pooled OtherPart = true

else_part : (t : Bool) (a rest p : Part) → is_pooled a ≡ false → (if t then a else rest) ≡ p → is_pooled p ≡ true → rest ≡ p
else_part true a rest p n e q = absurd (both_ways (is_pooled a) n (ap is_pooled e ∙ q))
else_part false a rest p n e q = e

module _ (sh : Shape) (lane w : ℕ) where
  pooled : (p : Part) → part_of sh lane w ≡ p → is_pooled p ≡ true → pool_part sh w ≡ p
  pooled p e q = let s = pool_part sh w in let n = if is_slot_word sh lane w then SlotPart else s in let m = if is_entry_word sh lane w then EntryPart else n in let l = if w == word_of_seal sh lane then SealPart else m in
      else_part (is_slot_word sh lane w) SlotPart s p refl (else_part (is_entry_word sh lane w) EntryPart n p refl (else_part (w == word_of_seal sh lane) SealPart m p refl (else_part (w == word_of_generation sh lane) GenerationPart l p refl e q) q) q) q

  -- the descriptor of a chunk of the pool
  pub descriptor_word : (c : ℕ) → part_of sh lane w ≡ DescriptorPart c → (c < chunks_of sh) × (word_of_descriptor sh c ≡ w)
  descriptor_word c e = let a = is_at sh (λ _. 0) w (Descr c) (ap (place_in (λ _. 0)) (pooled (DescriptorPart c) e refl)) in (ltb-true c (chunks_of sh) a.inside, a.word)

  -- the bitmap of a chunk of the pool
  pub bitmap_word : (c : ℕ) → part_of sh lane w ≡ ChunkPart c 0 → (c < chunks_of sh) × (word_of_chunk sh c ≡ w)
  bitmap_word c e = let a = is_at sh (λ _. 0) w (InHuge c 0) (ap (place_in (λ _. 0)) (pooled (ChunkPart c 0) e refl)) in
      (ltb-true c (chunks_of sh) (and_parts (nat_lt c (chunks_of sh)) (nat_lt 0 512) a.inside).0, (let z : word_of_chunk sh c ≡ word_of_chunk sh c + 0 = omega arith in z) ∙ a.word)

module _ (o : Opening) (mem : Memory) (views : Views) (g : Past) (x : World o mem views g) (k : ℕ) (ink : k < o.lanes) (early : is_early (views k).log.phase ≡ true) where
  abbrev with_claims : List Claim → View
  with_claims t = record (views k) { claims = t }

  -- what is recorded is of what the call made
  recorded_made : (p : Place) (b : ℕ) → is_recorded (views k).log.records p ≡ true → given ((sight_of (views k)).call.fresh p b) ≡ true
  recorded_made p b r = let z = records_known o mem views g k x ink early p r in let M = is_made (turn (latest (redos (views k).log.entries)) (block_of (geometry (views k).fixed.shape (views k).claims) p b)) in
      ap given (cond-true (is_data p && (M || is_recorded (views k).log.records p)) ((sight_of (views k)).picture p b) None (and_from (is_data p) (M || is_recorded (views k).log.records p) z.0 (or_right M (is_recorded (views k).log.records p) r))) ∙ z.1 b

  -- ---- a bitmap
  module _ (c n : ℕ) (inside : c < chunks_of o.shape) (word : n ≡ mem (PoolWord (word_of_chunk o.shape c))) where
    bitmap_here : (B : Block) → (sight_of (views k)).hold.here B ≡ true → (sight_of (with_claims (SawBitmap c n ∷ (views k).claims))).hold.here B ≡ true
    bitmap_here B e = let v = views k in let z = and_parts (found v.fixed.shape v.claims B) (locked v.claims (header_in v.fixed.shape v.claims B)) e in
        and_from (shown_by_bitmap v.fixed.shape v.claims c n B || found v.fixed.shape v.claims B) (locked v.claims (header_in v.fixed.shape v.claims B)) (or_right (shown_by_bitmap v.fixed.shape v.claims c n B) (found v.fixed.shape v.claims B) z.0) z.1

    bitmap_owned : (p : Place) (b : ℕ) → owns g.geo (settled_words o g) (sight_of (views k)).hold p b ≡ true → owns g.geo (settled_words o g) (sight_of (with_claims (SawBitmap c n ∷ (views k).claims))).hold p b ≡ true
    bitmap_owned p b = go p
      where
        more : (B : Block) → own (sight_of (views k)).hold B ≡ true → own (sight_of (with_claims (SawBitmap c n ∷ (views k).claims))).hold B ≡ true
        more B = let h = (sight_of (views k)).hold in let v = views k in more3 (h.mine B) (h.here B) (here v.fixed.shape (SawBitmap c n ∷ v.claims) B) (making_of h.making B) (λ e. bitmap_here B e)

        go : (p : Place) → owns g.geo (settled_words o g) (sight_of (views k)).hold p b ≡ true → owns g.geo (settled_words o g) (sight_of (with_claims (SawBitmap c n ∷ (views k).claims))).hold p b ≡ true
        go (InRun d u) e = more (block_of g.geo (InRun d u) b) e
        go (InHuge d u) e = more (block_of g.geo (InHuge d u) b) e
        go (Descr d) e = more (block_of g.geo (Descr d) b) e
        go RootWord e = e

    -- what is recorded it knows still
    bitmap_kept : (p : Place) (b : ℕ) → is_recorded (views k).log.records p ≡ true → given ((sight_of (with_claims (SawBitmap c n ∷ (views k).claims))).picture p b) ≡ true
    bitmap_kept p b r = ap given (Rattle.pm_world.proofs.Looks.saw_same o mem views g x k ink early c n inside word p b (recorded_made p b r)) ∙ (records_known o mem views g k x ink early p r).1 b

    pub bitmap_seen : (views' : Views) → Turn views views' k (with_claims (SawBitmap c n ∷ (views k).claims)) → World o mem views' g
    bitmap_seen views' t = let v = views k in claims_step o mem mem views views' g x k ink 0 (λ l ne. refl) (SawBitmap c n ∷ v.claims) v.seen t early (λ p b r q. bitmap_owned p b q) (λ p r B e. bitmap_here B e) (λ p b r d e. bitmap_kept p b r)
        (λ one w y e. ((x.each_lane k ink).alone one).words w y (some_else (Rattle.pm_view.specs.Claims.is_new (shown_by_bitmap v.fixed.shape v.claims c n) (found v.fixed.shape v.claims) (Rattle.pm_view.specs.Claims.block_at v.fixed.shape v.claims w)) (pictured v.fixed.shape v.claims w) y e))
        (λ m j ne. refl) (λ m j ne. refl) refl
        (saw_bitmap o mem views g x k ink early c n inside word (λ j. sight_of (views' j)) (turned views views' k (with_claims (SawBitmap c n ∷ v.claims)) t))

  -- ---- a descriptor
  module _ (c n : ℕ) (inside : c < chunks_of o.shape) (word : n ≡ mem (PoolWord (word_of_descriptor o.shape c))) where
    descriptor_here : (B : Block) → (sight_of (views k)).hold.here B ≡ true → (sight_of (with_claims (SawDescriptor c n ∷ (views k).claims))).hold.here B ≡ true
    descriptor_here B e = let v = views k in let t' = SawDescriptor c n ∷ v.claims in let z = and_parts (found v.fixed.shape v.claims B) (locked v.claims (header_in v.fixed.shape v.claims B)) e in
        let f : found v.fixed.shape t' B ≡ true = or_right (shown_by_descriptor v.fixed.shape v.claims c n B) (found v.fixed.shape v.claims B) z.0 in
        and_from (found v.fixed.shape t' B) (locked v.claims (header_in v.fixed.shape t' B)) f
        (ap (locked v.claims) (header_then o mem views g x k ink early c n inside word B f ∙ sym (header_found o mem views g x k ink B z.0)) ∙ z.1)

    descriptor_owned : (p : Place) (b : ℕ) → owns g.geo (settled_words o g) (sight_of (views k)).hold p b ≡ true → owns g.geo (settled_words o g) (sight_of (with_claims (SawDescriptor c n ∷ (views k).claims))).hold p b ≡ true
    descriptor_owned p b = go p
      where
        more : (B : Block) → own (sight_of (views k)).hold B ≡ true → own (sight_of (with_claims (SawDescriptor c n ∷ (views k).claims))).hold B ≡ true
        more B = let h = (sight_of (views k)).hold in let v = views k in let t' = SawDescriptor c n ∷ v.claims in more3 (h.mine B) (h.here B) (here v.fixed.shape t' B) (making_of h.making B) (λ e. descriptor_here B e)

        go : (p : Place) → owns g.geo (settled_words o g) (sight_of (views k)).hold p b ≡ true → owns g.geo (settled_words o g) (sight_of (with_claims (SawDescriptor c n ∷ (views k).claims))).hold p b ≡ true
        go (InRun d u) e = more (block_of g.geo (InRun d u) b) e
        go (InHuge d u) e = more (block_of g.geo (InHuge d u) b) e
        go (Descr d) e = more (block_of g.geo (Descr d) b) e
        go RootWord e = e

    -- what is recorded it knows still
    descriptor_kept : (p : Place) (b : ℕ) → is_recorded (views k).log.records p ≡ true → given ((sight_of (with_claims (SawDescriptor c n ∷ (views k).claims))).picture p b) ≡ true
    descriptor_kept p b r = ap given (Rattle.pm_world.proofs.Descriptors.saw_same o mem views g x k ink early c n inside word p b (recorded_made p b r)) ∙ (records_known o mem views g k x ink early p r).1 b

    pub descriptor_seen : (views' : Views) → Turn views views' k (with_claims (SawDescriptor c n ∷ (views k).claims)) → World o mem views' g
    descriptor_seen views' t = let v = views k in let t' = SawDescriptor c n ∷ v.claims in claims_step o mem mem views views' g x k ink 0 (λ l ne. refl) t' v.seen t early (λ p b r q. descriptor_owned p b q) (λ p r B e. descriptor_here B e) (λ p b r d e. descriptor_kept p b r)
        (λ one w y e. ((x.each_lane k ink).alone one).words w y (some_else (Rattle.pm_view.specs.Claims.is_new (shown_by_descriptor v.fixed.shape v.claims c n) (found v.fixed.shape v.claims) (Rattle.pm_view.specs.Claims.block_at v.fixed.shape t' w)) (pictured v.fixed.shape v.claims w) y e))
        (λ m j ne. refl) (λ m j ne. refl) refl
        (saw_descriptor o mem views g x k ink early c n inside word (λ j. sight_of (views' j)) (turned views views' k (with_claims t') t))

  -- ---- FIRST WHAT IT SHOWS, THEN THE WORD
  pub learns_word : (w n : ℕ) → w < words_of o.shape → n ≡ mem (PoolWord w) → (seen : List Claim) → ((between : Views) → Turn views between k (with_claims seen) → World o mem between g)
      → (views' : Views) → Turn views views' k (with_claims (Knows w n ∷ seen)) → World o mem views' g
  learns_word w n inside word seen shown views' t = knows_word o mem between g (shown between record { here = between_here; else_ = between_else }) k ink (ap (λ v. is_early v.log.phase) between_here ∙ early)
      w n inside word views' record { here = t.here ∙ sym (ap knowing between_here); else_ = λ j ne. t.else_ j ne ∙ sym (between_else j ne) }
    where
      knowing : View → View
      knowing v = record v { claims = Knows w n ∷ v.claims }

      between : Views
      between j = cond (j == k) (with_claims seen) (views j)

      between_here : between k ≡ with_claims seen
      between_here = cond-true (k == k) (with_claims seen) (views k) (eq-eqb k k refl)

      between_else : (j : ℕ) → j ≢ k → between j ≡ views j
      between_else j ne = cond-false (j == k) (with_claims seen) (views j) (ne_eqb j k ne)

  pub learns_from : (part : Part) (w n : ℕ) → w < words_of o.shape → n ≡ mem (PoolWord w) → part_in (views k) w ≡ part
      → (views' : Views) → Turn views views' k (with_claims (Knows w n ∷ seen_by part n (views k).claims)) → World o mem views' g
  learns_from (DescriptorPart c) w n inside word p views' t = let a = descriptor_word o.shape (views k).fixed.lane w c (subst (λ s. part_of s (views k).fixed.lane w ≡ DescriptorPart c) (x.each_lane k ink).shape p) in let at = word ∙ ap (λ u. mem (PoolWord u)) (sym a.1) in
      learns_word w n inside word (SawDescriptor c n ∷ (views k).claims) (λ between q. descriptor_seen c n a.0 at between q) views' t
  learns_from (ChunkPart c zero) w n inside word p views' t = let a = bitmap_word o.shape (views k).fixed.lane w c (subst (λ s. part_of s (views k).fixed.lane w ≡ ChunkPart c 0) (x.each_lane k ink).shape p) in let at = word ∙ ap (λ u. mem (PoolWord u)) (sym a.1) in
      learns_word w n inside word (SawBitmap c n ∷ (views k).claims) (λ between q. bitmap_seen c n a.0 at between q) views' t
  learns_from (ChunkPart c (suc u)) w n inside word p views' t = knows_word o mem views g x k ink early w n inside word views' t
  learns_from GenerationPart w n inside word p views' t = knows_word o mem views g x k ink early w n inside word views' t
  learns_from SealPart w n inside word p views' t = knows_word o mem views g x k ink early w n inside word views' t
  learns_from EntryPart w n inside word p views' t = knows_word o mem views g x k ink early w n inside word views' t
  learns_from SlotPart w n inside word p views' t = knows_word o mem views g x k ink early w n inside word views' t
  learns_from RootPart w n inside word p views' t = knows_word o mem views g x k ink early w n inside word views' t
  learns_from OtherPart w n inside word p views' t = knows_word o mem views g x k ink early w n inside word views' t

pub load_idle : (part : Part) → KeepsLoadAt Idle part
load_idle part w n o mem views views' g k x ink inside word ph p t = learns_from o mem views g x k ink (ap is_early ph) part w n inside word p views' t

pub load_open : (part : Part) → KeepsLoadAt Open part
load_open part w n o mem views views' g k x ink inside word ph p t = learns_from o mem views g x k ink (ap is_early ph) part w n inside word p views' t

load_in : (ph : Phase) (part : Part) → KeepsLoadAt ph part
load_in Idle part = load_idle part
load_in Open part = load_open part
load_in (Drawn m) part = load_drawn m part
load_in (Sealing m) part = load_sealing m part
load_in (Applying todo) part = load_applying todo part
load_in Clearing part = load_clearing part
load_in (Retiring m) part = load_retiring m part
load_in Voiding part = load_voiding part

-- A LOAD KEEPS THE WORLD
pub load_keeps : (w n : ℕ) → Keeps (Load w n)
load_keeps = load_from load_in
