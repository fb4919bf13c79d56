-- LOOKS at a descriptor and at a bitmap: which words they are, and what stays of what a lane has and knows.
use Rattle.std.proofs.Common.{◌≡◌, ◌≢◌, ⊎_elim, ℕ, zero, suc, ◌+◌, ◌-◌, ◌*◌, ◌/◌, ◌%◌, ◌<◌, ◌≤◌, Bool, true, false, not, cond, ◌==◌, ◌&&◌, List, ◌∷◌, Option, None, Some, leb, ltb, refl, sym, ap, ◌∙◌, subst, arith, ne_eqb}
use Rattle.std.proofs.lemmas.Bool.{and_from, and_parts, both_ways, cond-false, false_from_ne_true, le-leb, leb-true, lt-ltb, ltb-true, or_cases, or_left, or_right}
use Rattle.pm_layout.specs.declared.shape.Shape.{Shape}
use Rattle.pm_layout.specs.Areas.{word_of_generation, word_of_seal, word_of_entry, line_of_slot, redo_entries, undo_slots}
use Rattle.pm_layout.specs.Chunks.{chunk_at, chunk_described, chunks_of, is_chunk_page, is_in_zone, page_in_zone, page_of_chunk, page_of_zone, word_of_chunk, word_of_descriptor, words_of, zone_at}
use Rattle.pm_view.specs.Claims.{Claim, Knows, SawBitmap, SawDescriptor, block_in, class, first, found, geometry, is_held_at, is_new, last_first, making, mine, span}
use Rattle.pm_view.specs.Log.{Phase, Idle, Open, Drawn, Sealing, Applying, Clearing, Retiring, Voiding, is_early}
use Rattle.pm_view.specs.Parts.{Part, GenerationPart, SealPart, EntryPart, SlotPart, RootPart, DescriptorPart, ChunkPart, OtherPart, chunk_place, is_entry_word, is_slot_word, part_of, place_in, pool_part}
use Rattle.pm_view.specs.Places.{Place, Block, Small, Big, block_of, in_span, is_data, part}
use Rattle.pm_view.specs.View.{View}
use Rattle.pm_view.specs.Views.{learned}
use Rattle.pm_world.proofs.CrashLaw.{descriptor_part}
use Rattle.pm_world.proofs.WordPlaces.{chunk_part}
use Rattle.pm_lock.specs.Objects.{HasSound, chunk_of_line, has, is_chunk_line}

-- ---- WORDS: the descriptor of a chunk, and its first word

pub chunk_line : (sh : Shape) (line : ℕ) → is_chunk_line sh line ≡ true → (chunk_of_line sh line < chunks_of sh) × (page_of_chunk sh (chunk_of_line sh line) ≡ line / 64)
chunk_line sh line e = at (line / 64) e where
  at : (page : ℕ) → is_chunk_page sh page ≡ true → (chunk_at sh page < chunks_of sh) × (page_of_chunk sh (chunk_at sh page) ≡ page)
  at page e =
      let p = and_parts (is_in_zone sh page) (leb 1 (page_in_zone sh page)) e in
      let q = and_parts (leb (page_of_zone sh 0) page) (ltb page (page_of_zone sh sh.zones)) p.0 in
      let low = leb-true (page_of_zone sh 0) page q.0 in
      let high = ltb-true page (page_of_zone sh sh.zones) q.1 in
      let some = leb-true 1 (page_in_zone sh page) p.1 in
      by (page - page_of_zone sh 0) page refl low high some
    where
      by : (n page : ℕ) → n ≡ page - page_of_zone sh 0 → page_of_zone sh 0 ≤ page → page < page_of_zone sh sh.zones → 1 ≤ n % 65 → (64 * (n / 65) + (n % 65 - 1) < chunks_of sh) × (page_of_chunk sh (64 * (n / 65) + (n % 65 - 1)) ≡ page)
      by n page is low high some = (omega arith, omega arith)

pub beyond_part : (sh : Shape) (k w : ℕ) → k < sh.lanes → 512 * page_of_zone sh 0 ≤ w → part_of sh k w ≡ pool_part sh w
beyond_part sh k w ink far =
    cond-false (w == word_of_generation sh k) _ _ (ne_eqb w (word_of_generation sh k) (λ q. omega arith)) ∙ (cond-false (w == word_of_seal sh k) _ _ (ne_eqb w (word_of_seal sh k) (λ q. omega arith))
    ∙ (cond-false (is_entry_word sh k w) _ _ (false_from_ne_true (is_entry_word sh k w) (λ t. let z = ltb-true w (word_of_entry sh k (redo_entries sh)) (and_parts (leb (word_of_entry sh k 0) w) (ltb w (word_of_entry sh k (redo_entries sh))) t).1 in omega arith))
    ∙ cond-false (is_slot_word sh k w) _ _ (false_from_ne_true (is_slot_word sh k w) (λ t. let z = ltb-true w (8 * line_of_slot sh k (undo_slots sh)) (and_parts (leb (8 * line_of_slot sh k 0) w) (ltb w (8 * line_of_slot sh k (undo_slots sh))) t).1 in omega arith))))

module _ (sh : Shape) (k c : ℕ) (ink : k < sh.lanes) (inside : c < chunks_of sh) where
  pub descriptor_is : part_of sh k (word_of_descriptor sh c) ≡ DescriptorPart c
  descriptor_is = descriptor_part sh k c ink inside ∙ ap DescriptorPart (described c)
    where
      described : (c : ℕ) → chunk_described sh (word_of_descriptor sh c) ≡ c
      described c = let page : word_of_descriptor sh c / 512 ≡ page_of_zone sh (c / 64) = omega arith in let z : zone_at sh (word_of_descriptor sh c / 512) ≡ c / 64 = omega arith in omega arith

  pub descriptor_pool : pool_part sh (word_of_descriptor sh c) ≡ DescriptorPart c
  descriptor_pool = sym (beyond_part sh k (word_of_descriptor sh c) ink (omega arith)) ∙ descriptor_is

  pub bitmap_pool : pool_part sh (word_of_chunk sh c) ≡ ChunkPart c 0
  bitmap_pool = ap (pool_part sh) (let z : word_of_chunk sh c ≡ word_of_chunk sh c + 0 = omega arith in z) ∙ chunk_part sh c 0 (omega arith) inside

  pub bitmap_is : part_of sh k (word_of_chunk sh c) ≡ ChunkPart c 0
  bitmap_is = beyond_part sh k (word_of_chunk sh c) ink (omega arith) ∙ bitmap_pool

  pub descriptor_inside : word_of_descriptor sh c < words_of sh
  descriptor_inside = omega arith

  pub bitmap_inside : word_of_chunk sh c < words_of sh
  bitmap_inside = omega arith

-- what a lane learns from them before its call has a number
pub learns_descriptor : (phase : Phase) (c w x : ℕ) (p : Part) (t : List Claim) → is_early phase ≡ true → p ≡ DescriptorPart c → learned phase p w x t ≡ Knows w x ∷ SawDescriptor c x ∷ t
learns_descriptor phase c w x p t e is = ap (λ q. learned phase q w x t) is ∙ at phase e where
  at : (phase : Phase) → is_early phase ≡ true → learned phase (DescriptorPart c) w x t ≡ Knows w x ∷ SawDescriptor c x ∷ t
  at Idle e = refl
  at Open e = refl
  at (Drawn n) e = absurd (both_ways false refl e)
  at (Sealing n) e = absurd (both_ways false refl e)
  at (Applying todo) e = absurd (both_ways false refl e)
  at Clearing e = absurd (both_ways false refl e)
  at (Retiring n) e = absurd (both_ways false refl e)
  at Voiding e = absurd (both_ways false refl e)

pub learns_bitmap : (phase : Phase) (c w x : ℕ) (p : Part) (t : List Claim) → is_early phase ≡ true → p ≡ ChunkPart c 0 → learned phase p w x t ≡ Knows w x ∷ SawBitmap c x ∷ t
learns_bitmap phase c w x p t e is = ap (λ q. learned phase q w x t) is ∙ at phase e where
  at : (phase : Phase) → is_early phase ≡ true → learned phase (ChunkPart c 0) w x t ≡ Knows w x ∷ SawBitmap c x ∷ t
  at Idle e = refl
  at Open e = refl
  at (Drawn n) e = absurd (both_ways false refl e)
  at (Sealing n) e = absurd (both_ways false refl e)
  at (Applying todo) e = absurd (both_ways false refl e)
  at Clearing e = absurd (both_ways false refl e)
  at (Retiring n) e = absurd (both_ways false refl e)
  at Voiding e = absurd (both_ways false refl e)

-- ---- DATA OF BLOCKS THAT THE LANE HAS stay such

module _ (v : View) (t' : List Claim) (before : HasSound v) (now : HasSound (record v { claims = t' })) (unmaking : (c : ℕ) → making v.fixed.shape t' c ≡ false)
    (mine_same : (B : Block) → mine v.fixed.shape t' B ≡ mine v.fixed.shape v.claims B) (found_still : (B : Block) → found v.fixed.shape v.claims B ≡ true → found v.fixed.shape t' B ≡ true)
    (span_same : (f : ℕ) → has v (Big f) ≡ true → span v.fixed.shape t' f ≡ span v.fixed.shape v.claims f) (class_same : (c : ℕ) → class v.claims c ≢ 0 → class t' c ≡ class v.claims c) where
  abbrev sh : Shape
  sh = v.fixed.shape

  still : (B : Block) → has v B ≡ true → has (record v { claims = t' }) B ≡ true
  still B e = ⊎_elim (λ (m : mine sh v.claims B ≡ true). or_left (mine sh t' B) (found sh t' B) (mine_same B ∙ m))
      (λ (m : found sh v.claims B ≡ true). or_right (mine sh t' B) (found sh t' B) (found_still B m))
      (or_cases (mine sh v.claims B) (found sh v.claims B) e)

  in_own : (c : ℕ) → has v (Big (first sh v.claims c)) ≡ true → in_span (first sh v.claims c) (span sh v.claims (first sh v.claims c)) c ≡ true
  in_own c e = at (in_span (last_first sh v.claims c) (span sh v.claims (last_first sh v.claims c)) c) refl e where
    at : (b : Bool) → in_span (last_first sh v.claims c) (span sh v.claims (last_first sh v.claims c)) c ≡ b → has v (Big (cond b (last_first sh v.claims c) c)) ≡ true
        → in_span (cond b (last_first sh v.claims c) c) (span sh v.claims (cond b (last_first sh v.claims c) c)) c ≡ true
    at true q e = q
    at false q e = let some = before.some c e in and_from (leb c c) (ltb c (c + span sh v.claims c)) (le-leb c c (omega arith)) (lt-ltb c (c + span sh v.claims c) (omega (arith, some)))

  huge_same : (c : ℕ) → has v (Big (first sh v.claims c)) ≡ true → (first sh t' c ≡ first sh v.claims c) × (class t' c ≡ 0)
  huge_same c e = let f : ℕ = first sh v.claims c in now.huge f c (still (Big f) e) (ap (λ n. in_span f n c) (span_same f e) ∙ in_own c e) (unmaking c)

  chunk_same : (c w m : ℕ) → class v.claims c ≡ m → is_held_at sh v.claims (Some (chunk_place m c w)) ≡ true
      → (class t' c ≡ m) × (block_of (geometry sh t') (chunk_place m c w) 64 ≡ block_of (geometry sh v.claims) (chunk_place m c w) 64)
  chunk_same c w zero e held = let s = huge_same c held in (s.1, ap Big s.0)
  chunk_same c w (suc n) e held = let s = class_same c (λ z. omega (arith, e, z)) in (s ∙ e, ap (λ m. Small c (part m w 64)) s)

  pub data_same : (q : Part) → is_held_at sh v.claims (place_in (class v.claims) q) ≡ true
      → (place_in (class t') q ≡ place_in (class v.claims) q) × (block_in sh t' (place_in (class v.claims) q) 64 ≡ block_in sh v.claims (place_in (class v.claims) q) 64)
  data_same RootPart h = absurd (both_ways false refl h)
  data_same (DescriptorPart c) h = absurd (both_ways false refl h)
  data_same (ChunkPart c w) h = let s = chunk_same c w (class v.claims c) refl h in (ap (λ m. Some (chunk_place m c w)) s.0, ap (λ (B : Block). Some B) s.1)
  data_same GenerationPart h = absurd (both_ways false refl h)
  data_same SealPart h = absurd (both_ways false refl h)
  data_same EntryPart h = absurd (both_ways false refl h)
  data_same SlotPart h = absurd (both_ways false refl h)
  data_same OtherPart h = absurd (both_ways false refl h)

  held_at : (p : Option Place) → block_in sh t' p 64 ≡ block_in sh v.claims p 64 → is_held_at sh v.claims p ≡ true → is_held_at sh t' p ≡ true
  held_at None e h = h
  held_at (Some p) e h = let d = and_parts (is_data p) (has v (block_of (geometry sh v.claims) p 64)) h in
      and_from (is_data p) (has (record v { claims = t' }) (block_of (geometry sh t') p 64)) d.0 (subst (λ B. has (record v { claims = t' }) B ≡ true) (sym (same (block_of (geometry sh t') p 64) (block_of (geometry sh v.claims) p 64) e)) (still (block_of (geometry sh v.claims) p 64) d.1))
    where
      same : (B C : Block) → Some B ≡ Some C → B ≡ C
      same B C e = cc

  pub held_still : (q : Part) → is_held_at sh v.claims (place_in (class v.claims) q) ≡ true → is_held_at sh t' (place_in (class t') q) ≡ true
  held_still q h = let s = data_same q h in ap (is_held_at sh t') s.0 ∙ held_at (place_in (class v.claims) q) s.1 h

  -- and are not forgotten, where none of its blocks is shown anew
  pub kept : (shown : Block → Bool) → ((B : Block) → has v B ≡ true → (shown B && not (found sh v.claims B)) ≡ false)
      → (p : Option Place) → is_held_at sh v.claims p ≡ true → is_new shown (found sh v.claims) (block_in sh v.claims p 64) ≡ false
  kept shown old None h = refl
  kept shown old (Some p) h = old (block_of (geometry sh v.claims) p 64) (and_parts (is_data p) (has v (block_of (geometry sh v.claims) p 64)) h).1
