-- Which words tell of the block at a line: the line's chunk's descriptor, and the bitmap of a run.
use Rattle.std.proofs.Common.{◌≡◌, ◌≢◌, ⊎_elim, ℕ, ◌+◌, ◌-◌, ◌*◌, ◌/◌, ◌%◌, ◌≤◌, Bool, true, false, not, cond, eqb, leb, ◌&&◌, List, set, slice_index, Option, Some, None, refl, sym, ap, ◌∙◌, subst, arith}
use Rattle.std.specs.Prelude.{IfSome}
use Rattle.std.proofs.lemmas.Bool.{and_parts, cases_eq, cond-false, cond-true, eq-eqb, eqb-true, false≢true, leb-true, ne_eqb}
use Rattle.std.proofs.lemmas.List.{get_or-set_other}
use Rattle.solo_view.specs.Blocks.{bitmap_word, block_at, chunk_of, descriptor_word, has_block, is_chunk, is_huge, is_run, is_word, zone_of, zone_page}
use Rattle.solo_view.specs.View.{Lock}
use Rattle.solo_view.specs.Views.{with_block}
use Rattle.solo_lock.specs.Finding.{block_in}

-- a chunk's page by its zone and the chunk in it
pub record IsChunkAt (lanes page : ℕ) : Type 0 where
  pub zone : ℕ
  pub chunk : ℕ
  pub some : 1 ≤ chunk
  pub few : chunk ≤ 64
  pub page_is : page ≡ 1 + 2 * lanes + 65 * zone + chunk
  pub descriptor : descriptor_word lanes page ≡ 512 * (1 + 2 * lanes + 65 * zone) + chunk - 1

pub chunk_at : (lanes page : ℕ) → is_chunk lanes page ≡ true → IsChunkAt lanes page
chunk_at lanes page is =
    let t = and_parts (leb (zone_page lanes 0) page) (leb 1 (chunk_of lanes page)) is in
    let low : zone_page lanes 0 ≤ page = leb-true (zone_page lanes 0) page t.0 in
    let some : 1 ≤ chunk_of lanes page = leb-true 1 (chunk_of lanes page) t.1 in
    record { zone = zone_of lanes page; chunk = chunk_of lanes page; some = some; few = omega arith; page_is = omega (arith, low); descriptor = refl }

descriptors_apart : (lanes p q : ℕ) → is_chunk lanes p ≡ true → is_chunk lanes q ≡ true → descriptor_word lanes p ≡ descriptor_word lanes q → p ≡ q
descriptors_apart lanes p q one two same =
    let a = chunk_at lanes p one in let b = chunk_at lanes q two in
    apart lanes p q a.zone a.chunk b.zone b.chunk a.some a.few b.some b.few a.page_is b.page_is (sym a.descriptor ∙ same ∙ b.descriptor) where
      apart : (lanes p q y c z d : ℕ) → 1 ≤ c → c ≤ 64 → 1 ≤ d → d ≤ 64 → p ≡ 1 + 2 * lanes + 65 * y + c → q ≡ 1 + 2 * lanes + 65 * z + d → 512 * (1 + 2 * lanes + 65 * y) + c - 1 ≡ 512 * (1 + 2 * lanes + 65 * z) + d - 1 → p ≡ q
      apart lanes p q y c z d c1 c64 d1 d64 pp qq same = omega arith

pub bitmap_apart : (lanes p q : ℕ) → is_chunk lanes p ≡ true → is_chunk lanes q ≡ true → bitmap_word q ≢ descriptor_word lanes p
bitmap_apart lanes p q one two same =
    let a = chunk_at lanes p one in let b = chunk_at lanes q two in
    apart lanes q a.zone a.chunk b.zone b.chunk a.some a.few b.some b.few b.page_is (same ∙ a.descriptor) where
      apart : (lanes q y c z d : ℕ) → 1 ≤ c → c ≤ 64 → 1 ≤ d → d ≤ 64 → q ≡ 1 + 2 * lanes + 65 * z + d → 512 * q ≡ 512 * (1 + 2 * lanes + 65 * y) + c - 1 → ⊥
      apart lanes q y c z d c1 c64 d1 d64 qq same = omega arith

-- whether the word tells of blocks in a page
abbrev pub tells : ℕ → List ℕ → ℕ → ℕ → Bool
tells lanes words q w = is_word (cond (not (is_chunk lanes q)) None (Some (cond (is_run (slice_index words (descriptor_word lanes q))) (bitmap_word q) (descriptor_word lanes q)))) w

-- the word is neither the descriptor of the page, where that is a chunk, nor its bitmap
abbrev pub IsBeside : ℕ → ℕ → ℕ → Type 0
IsBeside lanes q w = is_chunk lanes q ≡ true → (bitmap_word q ≢ w) × (descriptor_word lanes q ≢ w)

pub tells_not : (lanes : ℕ) (words : List ℕ) (q w : ℕ) → IsBeside lanes q w → tells lanes words q w ≡ false
tells_not lanes words q w apart = at (is_chunk lanes q) (is_run (slice_index words (descriptor_word lanes q))) apart where
  at : (chunk run : Bool) → (chunk ≡ true → (bitmap_word q ≢ w) × (descriptor_word lanes q ≢ w)) → is_word (cond (not chunk) None (Some (cond run (bitmap_word q) (descriptor_word lanes q)))) w ≡ false
  at false run apart = refl
  at true true apart = ne_eqb (bitmap_word q) w (apart refl).0
  at true false apart = ne_eqb (descriptor_word lanes q) w (apart refl).1

-- the words of one chunk's descriptor and bitmap tell of no block in another
pub descriptor_beside : (lanes page : ℕ) → is_chunk lanes page ≡ true → (q : ℕ) → q ≢ page → IsBeside lanes q (descriptor_word lanes page)
descriptor_beside lanes page chunk q apart other = (bitmap_apart lanes page q chunk other, λ same. apart (descriptors_apart lanes q page other chunk same))

pub bitmap_beside : (lanes page : ℕ) → is_chunk lanes page ≡ true → (q : ℕ) → q ≢ page → IsBeside lanes q (bitmap_word page)
bitmap_beside lanes page chunk q apart other = (λ same. apart (let e : 512 * q ≡ 512 * page = same in omega (arith, e)), λ same. bitmap_apart lanes q page other chunk (sym same))

-- what tells of a page's blocks: the descriptor of no run, and a run's bitmap
pub descriptor_tells : (lanes page : ℕ) (words : List ℕ) → is_chunk lanes page ≡ true → is_run (slice_index words (descriptor_word lanes page)) ≡ false → tells lanes words page (descriptor_word lanes page) ≡ true
descriptor_tells lanes page words chunk no_run =
    (λ i. is_word (cond (not (chunk i)) None (Some (cond (no_run i) (bitmap_word page) (descriptor_word lanes page)))) (descriptor_word lanes page)) ∙ eq-eqb (descriptor_word lanes page) (descriptor_word lanes page) refl

pub bitmap_tells : (lanes page : ℕ) (words : List ℕ) → is_chunk lanes page ≡ true → is_run (slice_index words (descriptor_word lanes page)) ≡ true → tells lanes words page (bitmap_word page) ≡ true
bitmap_tells lanes page words chunk run = (λ i. is_word (cond (not (chunk i)) None (Some (cond (run i) (bitmap_word page) (descriptor_word lanes page)))) (bitmap_word page)) ∙ eq-eqb (bitmap_word page) (bitmap_word page) refl

-- the block that begins in a page at a line of it
abbrev begins : ℕ → List ℕ → ℕ → ℕ → Option ℕ
begins lanes words q r = cond (not (is_chunk lanes q)) None (block_in (slice_index words (descriptor_word lanes q)) (slice_index words (bitmap_word q)) r)

-- a lock of a line in the page, with the block that is found there
abbrev pub marked_lock : ℕ → ℕ → ℕ → Lock → Lock
marked_lock page descriptor bitmap l = cond (eqb (l.line / 64) page) (record l { block = block_in descriptor bitmap (l.line % 64) }) l

module _ (lanes page : ℕ) (chunk : is_chunk lanes page ≡ true) (words : List ℕ) (w : ℕ) where
  -- what is found in a word that tells of blocks in this page alone
  marks_so : (d b : ℕ) → tells lanes words page w ≡ true → ((q : ℕ) → q ≢ page → tells lanes words q w ≡ false) → ((r : ℕ) → begins lanes words page r ≡ block_in d b r) → (l : Lock) → with_block lanes words w l ≡ marked_lock page d b l
  marks_so d b here others is l = ⊎_elim
      (λ (same : l.line / 64 ≡ page).
      cond-true (tells lanes words (l.line / 64) w) (record l { block = block_at lanes words l.line }) l (ap (λ q. tells lanes words q w) same ∙ here)
      ∙ ap (λ block. record l { block = block }) (ap (λ q. begins lanes words q (l.line % 64)) same ∙ is (l.line % 64))
      ∙ sym (cond-true (eqb (l.line / 64) page) (record l { block = block_in d b (l.line % 64) }) l (eq-eqb (l.line / 64) page same)))
      (λ (apart : l.line / 64 ≢ page).
      cond-false (tells lanes words (l.line / 64) w) (record l { block = block_at lanes words l.line }) l (others (l.line / 64) apart)
      ∙ sym (cond-false (eqb (l.line / 64) page) (record l { block = block_in d b (l.line % 64) }) l (ne_eqb (l.line / 64) page apart)))
      (cases_eq (l.line / 64) page)

  -- a word that tells of no block leaves each lock as it is
  marks_none : ((q : ℕ) → tells lanes words q w ≡ false) → (l : Lock) → with_block lanes words w l ≡ l
  marks_none none l = cond-false (tells lanes words (l.line / 64) w) (record l { block = block_at lanes words l.line }) l (none (l.line / 64))

module _ (lanes page : ℕ) (chunk : is_chunk lanes page ≡ true) (words : List ℕ) (d : ℕ) where
  abbrev pub word : ℕ
  word = descriptor_word lanes page

  module _ (there : slice_index words word ≡ d) where
    -- the descriptor of no run tells of the page's blocks
    pub descriptor_marks : (b : ℕ) → is_run d ≡ false → (l : Lock) → with_block lanes words word l ≡ marked_lock page d b l
    descriptor_marks b no_run l =
        marks_so lanes page chunk words word d b
        (descriptor_tells lanes page words chunk (ap is_run there ∙ no_run))
        (λ q apart. tells_not lanes words q word (descriptor_beside lanes page chunk q apart))
        (λ r.
        (λ i. cond (not (chunk i)) None (block_in (there i) (slice_index words (bitmap_word page)) r))
        ∙ (λ i. cond (no_run i && has_block (slice_index words (bitmap_word page)) (d / 256) r) (Some (d / 256)) (cond (is_huge d && eqb r 0) (Some (64 * (d / 256))) None))
        ∙ sym (λ i. cond (no_run i && has_block b (d / 256) r) (Some (d / 256)) (cond (is_huge d && eqb r 0) (Some (64 * (d / 256))) None)))
        l

    -- that of a run tells of none by itself
    pub run_marks_none : is_run d ≡ true → (l : Lock) → with_block lanes words word l ≡ l
    run_marks_none run l =
        marks_none lanes page chunk words word (λ q. ⊎_elim
        (λ (same : q ≡ page).
        ap (λ q. tells lanes words q word) same
        ∙ (λ i. is_word (cond (not (chunk i)) None (Some (cond ((ap is_run there ∙ run) i) (bitmap_word page) word))) word)
        ∙ ne_eqb (bitmap_word page) word (bitmap_apart lanes page page chunk chunk))
        (λ (apart : q ≢ page). tells_not lanes words q word (descriptor_beside lanes page chunk q apart))
        (cases_eq q page)) l

    -- and its bitmap tells of them
    pub bitmap_marks : (b : ℕ) → slice_index words (bitmap_word page) ≡ b → is_run d ≡ true → (l : Lock) → with_block lanes words (bitmap_word page) l ≡ marked_lock page d b l
    bitmap_marks b bitmap run l =
        marks_so lanes page chunk words (bitmap_word page) d b
        (bitmap_tells lanes page words chunk (ap is_run there ∙ run))
        (λ q apart. tells_not lanes words q (bitmap_word page) (bitmap_beside lanes page chunk q apart))
        (λ r. λ i. cond (not (chunk i)) None (block_in (there i) (bitmap i) r))
        l

-- the size of an object in a chunk tells of no block
pub size_beside : (lanes line : ℕ) → is_chunk lanes (line / 64) ≡ true → (q : ℕ) → IsBeside lanes q (8 * line + 1)
size_beside lanes line chunk q other = (
  (λ same. let e : 512 * q ≡ 8 * line + 1 = same in omega (arith, e)),
  λ same.
      let a = chunk_at lanes (line / 64) chunk in let b = chunk_at lanes q other in
      apart lanes line a.zone a.chunk b.zone b.chunk a.some a.few b.some b.few a.page_is (sym b.descriptor ∙ same),
) where
  apart : (lanes line y c z d : ℕ) → 1 ≤ c → c ≤ 64 → 1 ≤ d → d ≤ 64 → line / 64 ≡ 1 + 2 * lanes + 65 * y + c → 512 * (1 + 2 * lanes + 65 * z) + d - 1 ≡ 8 * line + 1 → ⊥
  apart lanes line y c z d c1 c64 d1 d64 page same = omega arith

pub size_marks_none : (lanes line : ℕ) → is_chunk lanes (line / 64) ≡ true → (words : List ℕ) (l : Lock) → with_block lanes words (8 * line + 1) l ≡ l
size_marks_none lanes line chunk words l = marks_none lanes (line / 64) chunk words (8 * line + 1) (λ q. tells_not lanes words q (8 * line + 1) (size_beside lanes line chunk q)) l

-- a word beside them may change
pub block_beside : (lanes : ℕ) (words : List ℕ) (w x line : ℕ) → IsBeside lanes (line / 64) w → block_at lanes (set words w x) line ≡ block_at lanes words line
block_beside lanes words w x line beside = at (is_chunk lanes (line / 64)) beside where
  d : ℕ
  d = descriptor_word lanes (line / 64)

  b : ℕ
  b = bitmap_word (line / 64)

  begun : ℕ → ℕ → Option ℕ
  begun descriptor bitmap = block_in descriptor bitmap (line % 64)

  at : (chunk : Bool) → (chunk ≡ true → (b ≢ w) × (d ≢ w)) → cond (not chunk) None (begun (slice_index (set words w x) d) (slice_index (set words w x) b)) ≡ cond (not chunk) None (begun (slice_index words d) (slice_index words b))
  at false apart = refl
  at true apart = (λ i. begun (get_or-set_other words w d x 0 (apart refl).1 i) (get_or-set_other words w b x 0 (apart refl).0 i))

-- a run whose blocks have no lines has no block of any
pub empty_run : (lanes : ℕ) (words : List ℕ) (line d : ℕ) → slice_index words (descriptor_word lanes (line / 64)) ≡ d → is_run d ≡ true → d / 256 ≡ 0 → IfSome (block_at lanes words line) (λ lines. lines ≡ 0)
empty_run lanes words line d there run none =
    subst (λ n. IfSome (cond (not (is_chunk lanes (line / 64))) None (block_in n (slice_index words (bitmap_word (line / 64))) (line % 64))) (λ lines. lines ≡ 0)) (sym there)
    (at (is_chunk lanes (line / 64)) (is_run d && has_block (slice_index words (bitmap_word (line / 64))) (d / 256) (line % 64)) (is_huge d) (eqb (line % 64) 0) (ne_eqb (d % 256) 2 (λ two. let one = eqb-true (d % 256) 1 run in omega (arith, one, two)))) where
      at : (chunk begins huge first : Bool) → huge ≡ false → IfSome (cond (not chunk) None (cond begins (Some (d / 256)) (cond (huge && first) (Some (64 * (d / 256))) None))) (λ lines. lines ≡ 0)
      at false begins huge first no_huge = tt
      at true true huge first no_huge = none
      at true false false first no_huge = tt
      at true false true first no_huge = absurd (false≢true (sym no_huge))
