-- What a lane that made a run has then: it may make another.
use Rattle.std.proofs.Common.{◌≡◌, ◌≢◌, ◌⊎◌, inl, inr, ⊎_elim, ℕ, ◌*◌, ◌/◌, ◌^◌, ◌<◌, ◌||◌, eqb, true, false, All, IfSome, List, [], ◌∷◌, length, slice_index, Option, Some, None, sym, ap, ◌∙◌, subst, arith}
use Rattle.std.specs.Int.{bit_at}
use Rattle.std.specs.List.{list_any}
use Rattle.std.proofs.lemmas.Bool.{and_parts, cases_eq, eqb-true, false_from_ne_true, false≢true, or_cases}
use Rattle.std.proofs.lemmas.List.{get_or-set_other}
use Rattle.std.proofs.lemmas.List.Elements.{All-weaker}
use Rattle.std.proofs.lemmas.List.Folds.{list_any-append}
use Rattle.std.proofs.lemmas.Nat.Bits.{bit_at-pow_other}
use Rattle.std.proofs.lemmas.Option.{none-some}
use Rattle.pm_image.specs.declared.block.Block.{Block}
use Rattle.pm_layout.specs.declared.shape.Shape.{Shape}
use Rattle.solo_view.specs.declared.change.Change.{Change}
use Rattle.solo_view.specs.declared.occ.Occ.{Occ}
use Rattle.solo_view.specs.declared.occ.Occ.TheVariants.{Zone}
use Rattle.solo_view.specs.Blocks.{bitmap_word, block_at, descriptor_word, page_told}
use Rattle.solo_view.specs.View.{View}
use Rattle.solo_view.specs.Views.{chunk_bit, has_bit, is_same_occ, occ_in, reserves, vacated_word, zone_at}
use Rattle.solo_world.proofs.Chunks.{block_same, no_block_here}
use Rattle.solo_world.proofs.Exchanged.{chunk_small}
use Rattle.solo_world.proofs.Resting.{reserved_last}
use Rattle.solo_world.proofs.Searched.{shape_still, still_alone}
use Rattle.solo_world.proofs.Vacated.{vacated_before}
use Rattle.solo_world.specs.Entries.{is_entered}
use Rattle.solo_world.specs.Lawful.{IsEarly}
use Rattle.solo_world.specs.Opening.{IsChunk}
use Rattle.solo_world.specs.Records.{is_recorded}
use Rattle.solo_chunks.proofs.ChunkBits.{bit_inside}
use Rattle.solo_chunks.specs.Chunks.{AreFree, chunk_bits, taken_chunks}
use Rattle.solo_fresh.specs.Made.{IsRunMade, touches_chunk, first_block as new_block, without_chunk}
use Rattle.solo_fresh.specs.Making.{behind_first, page_in, run_at}
use Rattle.solo_blocks.proofs.SetBits.{all_set, all_taken}
use Rattle.solo_blocks.proofs.Searching.{IsLeft, is_searched, left_by_search}
use Rattle.solo_blocks.proofs.StillMay.{chunk_as}
use Rattle.solo_blocks.proofs.Taking.{chunk_is, least_is_free}
use Rattle.solo_blocks.specs.NewRuns.{HasNewRun, IsThere, IsUnused, MayMakeRun, with_run}

-- ---- words that tell of chunks

module _ (lanes page other : ℕ) (chunk : IsChunk lanes page) (its : IsChunk lanes other) (apart : other ≢ page) where
  pub descriptors_apart : descriptor_word lanes other ≢ descriptor_word lanes page
  descriptors_apart same = let low = chunk.0 in let some = chunk.1 in let from = its.0 in let any = its.1 in apart (omega (arith, low, some, from, any, same))

  pub bitmaps_apart : bitmap_word other ≢ bitmap_word page
  bitmaps_apart same = apart (omega (arith, same))

descriptor_no_bitmap : (lanes page other : ℕ) → IsChunk lanes page → IsChunk lanes other → descriptor_word lanes other ≢ bitmap_word page
descriptor_no_bitmap lanes page other chunk its same = let low = chunk.0 in let some = chunk.1 in let from = its.0 in let any = its.1 in absurd (omega (arith, low, some, from, any, same))

page_chunk : (lanes zone chunk : ℕ) → chunk < 64 → IsChunk lanes (page_in lanes zone chunk)
page_chunk lanes zone chunk low = (omega arith, (let number = chunk_is lanes zone chunk low in omega (arith, number)))

module _ (lanes zone chunk other place : ℕ) (low : chunk < 64) (small : place < 64) (same : page_in lanes other place ≡ page_in lanes zone chunk) where
  pages_zone : other ≡ zone
  pages_zone = omega (arith, low, small, same)

  pages_chunk : place ≡ chunk
  pages_chunk = omega (arith, low, small, same)

-- the bits of one chunk
one_bit : (chunk bit : ℕ) → bit_at (chunk_bits chunk 1) bit ≡ 1 → bit ≡ chunk
one_bit chunk bit set = ⊎_elim
    (λ (same : bit ≡ chunk). same)
    (λ (other : bit ≢ chunk).
    let power : chunk_bits chunk 1 ≡ 2 ^ chunk = omega arith in
    let clear = bit_at-pow_other chunk bit other in
    let here = ap (λ n. bit_at n bit) power in
    absurd (omega (arith, set, clear, here)))
    (cases_eq bit chunk)

module _ (v : View) (shape : Shape) (may : MayMakeRun v shape) (at : View → Type 0) (lines : ℕ) (block : Block) (run : HasNewRun at v lines block) where
  abbrev zone : ℕ
  zone = run.zone

  abbrev chunk : ℕ
  chunk = run.chunk

  abbrev w : View
  w = run.made.view

  abbrev page : ℕ
  page = page_in w.lanes zone chunk

  abbrev pub another_view : View
  another_view = with_run zone chunk lines w

  abbrev u : View
  u = another_view

  abbrev made : IsRunMade w page lines u
  made = run.made.holds.0

  left : IsLeft v w
  left = left_by_search v w run.made.steps run.made.searches may.alone may.locked

  lanes_same : w.lanes ≡ v.lanes
  lanes_same = ap (λ (z : View). z.lanes) run.made.kept.same

  lanes_made : u.lanes ≡ w.lanes
  lanes_made = ap (λ (z : View). z.lanes) made.same

  low : chunk < 64
  low = run.in_zone

  free : AreFree v 1 zone chunk
  free = least_is_free v zone chunk low run.least

  it : IsUnused v (page_in v.lanes zone chunk)
  it = may.unused zone chunk free.in_zones low (free.clear chunk (omega arith) (omega arith))

  its_bit : bit_at (occ_in w (Zone zone)) chunk ≡ 1
  its_bit =
      let here : reserves w (Zone zone) chunk ≡ true = reserved_last w v.reserved (taken_chunks zone chunk 1) run.made.reserved chunk (bit_inside chunk 1 chunk (omega arith) (omega arith)) in
      let inside : zone < length v.zone_words = (let within = free.in_zones in let pictured = may.pictured in omega (arith, within, pictured)) in
      ⊎_elim
      (λ (before : reserves v (Zone zone) chunk ≡ true). absurd (false≢true (sym (chunk_as v.lanes zone chunk low v ∙ it.no_chunk) ∙ before)))
      (λ (set : bit_at (occ_in w (Zone zone)) chunk ≡ 1). set)
      (all_taken v w run.made.steps run.made.searches may.alone zone chunk inside here)

  -- what it has then it had before, or it is the chunk, or the run's first block
  had : (o : Occ) (bit : ℕ) → reserves u o bit ≡ true → (reserves v o bit ≡ true) ⊎ ((has_bit o bit (taken_chunks zone chunk 1) ≡ true) ⊎ (has_bit o bit (new_block page) ≡ true))
  had o bit has =
      let has_it = has_bit o bit in
      let blocks = without_chunk w page in
      ⊎_elim
      (λ (other : list_any has_it blocks ≡ true).
      let before : list_any has_it w.reserved ≡ true = vacated_before (zone_at w.lanes page) (2 ^ chunk_bit w.lanes page) (chunk_small w.lanes page) o bit w.reserved other in
      ⊎_elim
      (λ (first : list_any has_it v.reserved ≡ true). inl first)
      (λ (last : (has_it (taken_chunks zone chunk 1) || false) ≡ true). ⊎_elim (λ (t : has_it (taken_chunks zone chunk 1) ≡ true). inr (inl t)) (λ (none : false ≡ true). absurd (false≢true none)) (or_cases (has_it (taken_chunks zone chunk 1)) false last))
      (or_cases (list_any has_it v.reserved) (has_it (taken_chunks zone chunk 1) || false) (sym (ap (list_any has_it) run.made.reserved ∙ list_any-append has_it v.reserved (taken_chunks zone chunk 1 ∷ [])) ∙ before)))
      (λ (now : (has_it (new_block page) || false) ≡ true). ⊎_elim (λ (t : has_it (new_block page) ≡ true). inr (inr t)) (λ (none : false ≡ true). absurd (false≢true none)) (or_cases (has_it (new_block page)) false now))
      (or_cases (list_any has_it blocks) (has_it (new_block page) || false) (sym (ap (list_any has_it) made.reserved ∙ list_any-append has_it blocks (new_block page ∷ [])) ∙ has))

  described : slice_index w.words (descriptor_word w.lanes page) ≡ 0
  described = subst (λ z. slice_index z.words (descriptor_word z.lanes (page_in z.lanes zone chunk)) ≡ 0) (sym (is_searched v w run.made.kept left)) it.undescribed

  chunk_here : IsChunk w.lanes page
  chunk_here = page_chunk w.lanes zone chunk low

  -- what was found under a lock is there
  there_then : (line : ℕ) (found : Option ℕ) → IfSome found (λ n. block_at w.lanes w.words line ≡ Some n) → IfSome found (λ n. block_at u.lanes u.words line ≡ Some n)
  there_then line None is = tt
  there_then line (Some n) is = ⊎_elim
      (λ (here : line / 64 ≡ page).
      absurd (none-some n (sym (no_block_here w.lanes w.words line (inl (subst (λ p. slice_index w.words (descriptor_word w.lanes p) ≡ 0) (sym here) described))) ∙ is)))
      (λ (other : line / 64 ≢ page).
      ap (λ lanes. block_at lanes u.words line) lanes_made
      ∙ (block_same w.lanes u.words w.words line
      (λ its. made.others (descriptor_word w.lanes (line / 64)) (descriptors_apart w.lanes page (line / 64) chunk_here its other) (descriptor_no_bitmap w.lanes page (line / 64) chunk_here its))
      (λ its is_run. made.others (bitmap_word (line / 64)) (λ same. descriptor_no_bitmap w.lanes (line / 64) page its chunk_here (sym same)) (bitmaps_apart w.lanes page (line / 64) chunk_here its other))
      ∙ is))
      (cases_eq (line / 64) page)

  locks_then : All (IsThere u) u.locks
  locks_then = subst (All (IsThere u)) (sym (ap (λ (z : View). z.locks) made.same)) (All-weaker (IsThere w) (IsThere u) (λ l is. there_then l.line l.block is) w.locks left.locked)

  module _ (z k : ℕ) (inside : z < v.zones) (small : k < 64) (clear : bit_at (occ_in w (Zone z)) k ≢ 1) where
    before : IsUnused v (page_in v.lanes z k)
    before = may.unused z k inside small (λ set. clear (all_set v w run.made.steps run.made.searches may.alone (Zone z) k set))

    other : z ≡ zone → k ≡ chunk → ⊥
    other same_z same_k = clear (subst (λ n. bit_at (occ_in w (Zone n)) k ≡ 1) (sym same_z) (subst (λ n. bit_at (occ_in w (Zone zone)) n ≡ 1) (sym same_k) its_bit))

    other_page : page_in w.lanes z k ≢ page
    other_page same = other (pages_zone w.lanes zone chunk z k low small same) (pages_chunk w.lanes zone chunk z k low small same)

    not_had : reserves u (Zone z) k ≡ true → ⊥
    not_had has = ⊎_elim
        (λ (first : reserves v (Zone z) k ≡ true). false≢true (sym (chunk_as v.lanes z k small v ∙ before.no_chunk) ∙ first))
        (λ rest. ⊎_elim
        (λ (taken : has_bit (Zone z) k (taken_chunks zone chunk 1) ≡ true).
        let both = and_parts (is_same_occ (Zone z) (Zone zone)) (eqb (bit_at (chunk_bits chunk 1) k) 1) taken in
        other (eqb-true z zone both.0) (one_bit chunk k (eqb-true (bit_at (chunk_bits chunk 1) k) 1 both.1)))
        (λ (block_had : has_bit (Zone z) k (new_block page) ≡ true). false≢true block_had)
        rest)
        (had (Zone z) k has)

    not_of_run : (bit : ℕ) → reserves u (run_at (page_in w.lanes z k)) bit ≡ true → ⊥
    not_of_run bit has = ⊎_elim
        (λ (first : reserves v (run_at (page_in w.lanes z k)) bit ≡ true). false≢true (sym (ap (λ n. reserves v (run_at (page_in n z k)) bit) lanes_same ∙ before.no_block bit) ∙ first))
        (λ rest. ⊎_elim
        (λ (taken : has_bit (run_at (page_in w.lanes z k)) bit (taken_chunks zone chunk 1) ≡ true). false≢true taken)
        (λ (block_had : has_bit (run_at (page_in w.lanes z k)) bit (new_block page) ≡ true).
        let both = and_parts (is_same_occ (run_at (page_in w.lanes z k)) (run_at page)) (eqb (bit_at 1 bit) 1) block_had in
        let places : 4096 * page_in w.lanes z k ≡ 4096 * page = eqb-true (4096 * page_in w.lanes z k) (4096 * page) both.0 in
        other_page (omega (arith, places)))
        rest)
        (had (run_at (page_in w.lanes z k)) bit has)

    closed_then : (bit : ℕ) → bit < 64 → bit_at (occ_in u (run_at (page_in w.lanes z k))) bit ≡ 1
    closed_then bit few =
        let p : ℕ = page_in w.lanes z k in
        let here : 4096 * p / 4096 ≢ page = (λ same. other_page (omega (arith, same))) in
        let x : ℕ = vacated_word (behind_first lines) (slice_index w.run_words page) in
        ap (λ (ws : List ℕ). bit_at (slice_index ws (4096 * p / 4096)) bit) made.occupied
        ∙ (ap (λ n. bit_at n bit) (get_or-set_other w.run_words page (4096 * p / 4096) x 0 here)
        ∙ (ap (λ n. bit_at (occ_in w (run_at (page_in n z k))) bit) lanes_same ∙ all_set v w run.made.steps run.made.searches may.alone (run_at (page_in v.lanes z k)) bit (before.closed bit few)))

    unused_then : IsUnused u (page_in u.lanes z k)
    unused_then =
        let its : IsChunk w.lanes (page_in w.lanes z k) = page_chunk w.lanes z k small in
        let clean : slice_index w.words (descriptor_word w.lanes (page_in w.lanes z k)) ≡ 0 = subst (λ x. slice_index x.words (descriptor_word x.lanes (page_in x.lanes z k)) ≡ 0) (sym (is_searched v w run.made.kept left)) before.undescribed in
        let lanes : u.lanes ≡ v.lanes = lanes_made ∙ lanes_same in
        let log = ap (λ (x : View). x.log) made.same ∙ ap (λ (x : View). x.log) run.made.kept.same in
        record {
          undescribed =
              ap (λ n. slice_index u.words (descriptor_word n (page_in n z k))) lanes_made
              ∙ (made.others (descriptor_word w.lanes (page_in w.lanes z k)) (descriptors_apart w.lanes page (page_in w.lanes z k) chunk_here its other_page) (descriptor_no_bitmap w.lanes page (page_in w.lanes z k) chunk_here its) ∙ clean);
          closed = λ bit few. ap (λ n. bit_at (occ_in u (run_at (page_in n z k))) bit) lanes_made ∙ closed_then bit few;
          no_chunk = ap (λ n. reserves u (zone_at n (page_in n z k)) (chunk_bit n (page_in n z k))) lanes ∙ (sym (chunk_as v.lanes z k small u) ∙ false_from_ne_true (reserves u (Zone z) k) not_had);
          no_block = λ bit. ap (λ n. reserves u (run_at (page_in n z k)) bit) lanes_made ∙ false_from_ne_true (reserves u (run_at (page_in w.lanes z k)) bit) (not_of_run bit);
          drained =
              made.beside (λ x. eqb (page_told u.lanes x) (page_in u.lanes z k))
              (ap (λ (cs : List Change). touches_chunk u.lanes (page_in u.lanes z k) cs) (ap (λ (x : View). x.changes) run.made.kept.same)
              ∙ (ap (λ n. touches_chunk n (page_in n z k) v.changes) lanes ∙ before.drained));
          unlogged = λ x here.
              let clear_log = before.unlogged x (here ∙ ap (λ n. page_in n z k) lanes) in
              (ap (λ l. is_recorded l.records x) log ∙ clear_log.0, ap (λ l. is_entered l.entries x) log ∙ clear_log.1);
        }

  pub another : MayMakeRun u shape
  another =
      let still = shape_still v w run.made.kept shape may.search.shape in
      let zones_made : u.zones ≡ w.zones = ap (λ (z : View). z.zones) made.same in
      let zone_words_made : u.zone_words ≡ w.zone_words = ap (λ (z : View). z.zone_words) made.same in
      record {
        search = record {
          shape = record { lanes = lanes_made ∙ still.lanes; zones = zones_made ∙ still.zones; size = made.size ∙ still.size };
          early = subst IsEarly (sym made.working.is_open) tt;
          unlocked = ap (λ (z : View). z.zone_locks) made.same ∙ (run.made.zones ∙ may.search.unlocked);
        };
        alone = ap (λ (z : View). z.table) made.same ∙ still_alone v w run.made.kept may.alone;
        working = made.working;
        locked = locks_then;
        pictured = (let zones_kept = ap (λ (z : View). z.zones) run.made.kept.same in let words_kept = run.made.kept.zone_words in let words_made = ap (length {A = ℕ}) zone_words_made in let pictured = may.pictured in omega (arith, zones_made, zones_kept, words_kept, words_made, pictured));
        unused = λ z k inside small clear.
            unused_then z k (let zones_kept = ap (λ (x : View). x.zones) run.made.kept.same in omega (arith, inside, zones_made, zones_kept)) small (λ set. clear (ap (λ (ws : List ℕ). bit_at (slice_index ws z) k) zone_words_made ∙ set));
      }
