-- What tells of the blocks in a chunk is as at the opening, and where a block begins.
use Rattle.std.proofs.Common.{◌≡◌, ℕ, ◌+◌, ◌*◌, ◌/◌, ◌%◌, ◌<◌, ◌≤◌, ⊎_elim, Bool, true, false, not, cond, leb, eqb, ◌&&◌, IsTrue, IfSome, List, length, slice_index, Option, Some, None, is_some, sym, ap, ◌∙◌, subst, arith, ne_eqb, inl, inr, ◌⊎◌, ◌-◌}
use Rattle.std.proofs.lemmas.Bool.{cases_Bool, cond-true, and_from, le-leb, and_parts, leb-true, eqb-true, false≢true, false_from_ne_true, and_right, cond-false}
use Rattle.std.proofs.lemmas.List.Folds.{Any-from_list_any}
use Rattle.solo_view.specs.Area.{is_in_area}
use Rattle.solo_view.specs.Blocks.{zone_page, chunk_of, is_chunk, is_word, allocation_word, descriptor_word, bitmap_word, is_run, is_huge, has_block, block_at}
use Rattle.solo_view.specs.Held.{root_word, is_under_found}
use Rattle.solo_view.specs.Log.{Final}
use Rattle.solo_world.specs.Entries.{is_in_log}
use Rattle.solo_world.specs.History.{Entry, settled, is_final}
use Rattle.solo_world.specs.Memory.{Memory}
use Rattle.solo_world.specs.Memory.Location.{PoolWord}
use Rattle.solo_world.specs.Opening.{Opening, Guards, IsChunk, is_free_chunk}
use Rattle.solo_world.specs.Records.{records_generation}
use Rattle.solo_world.specs.World.{Views, World}
use Rattle.solo_world.proofs.Apart.{outside_behind}
use Rattle.solo_world.proofs.Exclusion.{writes_under}
use Rattle.solo_world.proofs.Living.{TellsOf, told_lives}
use Rattle.solo_world.proofs.Pairs.{in_log_written}
use Rattle.solo_world.proofs.Replays.{replayed-other}
use Rattle.std.proofs.lemmas.Nat.Bits.{bit_at-zero}
use Rattle.std.specs.Int.{bit_at}

-- the block that begins at a line of a chunk, by the chunk's descriptor and the word of its bitmap
abbrev block_of : ℕ → ℕ → ℕ → Option ℕ
block_of line descriptor bitmap =
    cond (is_run descriptor && has_block bitmap (descriptor / 256) (line % 64)) (Some (descriptor / 256)) (cond (is_huge descriptor && eqb (line % 64) 0) (Some (64 * (descriptor / 256))) None)

block_of-other : (line descriptor bitmap bitmap' : ℕ) → is_run descriptor ≡ false → block_of line descriptor bitmap ≡ block_of line descriptor bitmap'
block_of-other line descriptor bitmap bitmap' none =
    let rest : Option ℕ = cond (is_huge descriptor && eqb (line % 64) 0) (Some (64 * (descriptor / 256))) None in
    ap (λ b. cond (b && has_block bitmap (descriptor / 256) (line % 64)) (Some (descriptor / 256)) rest) none
    ∙ sym (ap (λ b. cond (b && has_block bitmap' (descriptor / 256) (line % 64)) (Some (descriptor / 256)) rest) none)

pub chunk_here : (lanes page : ℕ) → is_chunk lanes page ≡ true → IsChunk lanes page
chunk_here lanes page e = let t = and_parts (leb (zone_page lanes 0) page) (leb 1 (chunk_of lanes page)) e in (leb-true (zone_page lanes 0) page t.0, leb-true 1 (chunk_of lanes page) t.1)

pub chunk_is : (lanes page : ℕ) → IsChunk lanes page → is_chunk lanes page ≡ true
chunk_is lanes page c = and_from (leb (zone_page lanes 0) page) (leb 1 (chunk_of lanes page)) (le-leb (zone_page lanes 0) page c.0) (le-leb 1 (chunk_of lanes page) c.1)

-- where the chunk of the line is a run, its bitmap tells of the line
pub told_by_bitmap : (lanes : ℕ) (words : List ℕ) (line w : ℕ) → IsChunk lanes (line / 64) → is_run (slice_index words (descriptor_word lanes (line / 64))) ≡ true → is_word (allocation_word lanes words line) w ≡ true → w ≡ bitmap_word (line / 64)
told_by_bitmap lanes words line w chunk run e =
    let page : ℕ = line / 64 in
    let word : ℕ = cond (is_run (slice_index words (descriptor_word lanes page))) (bitmap_word page) (descriptor_word lanes page) in
    let told : eqb word w ≡ true = sym (ap (λ b. is_word (cond (not b) None (Some word)) w) (chunk_is lanes page chunk)) ∙ e in
    sym (eqb-true word w told) ∙ cond-true _ (bitmap_word page) (descriptor_word lanes page) run

-- two lists of words have one block at the line, where the descriptor of its chunk is the same, and the bitmap if that is of a run
pub block_same : (lanes : ℕ) (words others : List ℕ) (line : ℕ)
    → (IsChunk lanes (line / 64) → slice_index words (descriptor_word lanes (line / 64)) ≡ slice_index others (descriptor_word lanes (line / 64)))
    → (IsChunk lanes (line / 64) → is_run (slice_index others (descriptor_word lanes (line / 64))) ≡ true → slice_index words (bitmap_word (line / 64)) ≡ slice_index others (bitmap_word (line / 64)))
    → block_at lanes words line ≡ block_at lanes others line
block_same lanes words others line descriptor bitmap =
    let page : ℕ = line / 64 in
    let d : ℕ = slice_index words (descriptor_word lanes page) in let d' : ℕ = slice_index others (descriptor_word lanes page) in
    let m : ℕ = slice_index words (bitmap_word page) in let m' : ℕ = slice_index others (bitmap_word page) in
    ⊎_elim (λ (chunk : is_chunk lanes page ≡ true).
    let c = chunk_here lanes page chunk in
    let same : block_of line d m ≡ block_of line d' m' = ap (λ n. block_of line n m) (descriptor c)
    ∙ ⊎_elim (λ (run : is_run d' ≡ true). ap (block_of line d') (bitmap c run)) (λ (none : is_run d' ≡ false). block_of-other line d' m m' none) (cases_Bool (is_run d')) in
    ap (cond (not (is_chunk lanes page)) None) same)
    (λ (none : is_chunk lanes page ≡ false). ap (λ b. cond (not b) None (block_of line d m)) none ∙ sym (ap (λ b. cond (not b) None (block_of line d' m')) none))
    (cases_Bool (is_chunk lanes page))

-- which word tells of a line of a chunk
pub told_word : (lanes : ℕ) (words : List ℕ) (line w : ℕ) → IsChunk lanes (line / 64) → is_word (allocation_word lanes words line) w ≡ true → (w ≡ bitmap_word (line / 64)) ⊎ (w ≡ descriptor_word lanes (line / 64))
told_word lanes words line w chunk e =
    let page : ℕ = line / 64 in
    let word : ℕ = cond (is_run (slice_index words (descriptor_word lanes page))) (bitmap_word page) (descriptor_word lanes page) in
    let told : eqb word w ≡ true = sym (ap (λ b. is_word (cond (not b) None (Some word)) w) (chunk_is lanes page chunk)) ∙ e in
    ⊎_elim (λ (run : is_run (slice_index words (descriptor_word lanes page)) ≡ true). inl (sym (eqb-true word w told) ∙ cond-true _ (bitmap_word page) (descriptor_word lanes page) run))
    (λ (none : is_run (slice_index words (descriptor_word lanes page)) ≡ false). inr (sym (eqb-true word w told) ∙ cond-false _ (bitmap_word page) (descriptor_word lanes page) none))
    (cases_Bool (is_run (slice_index words (descriptor_word lanes page))))

-- in no chunk no block begins
pub no_block_outside : (lanes : ℕ) (words : List ℕ) (line : ℕ) → is_chunk lanes (line / 64) ≡ false → block_at lanes words line ≡ None
no_block_outside lanes words line none = ap (λ b. cond (not b) None (block_of line (slice_index words (descriptor_word lanes (line / 64))) (slice_index words (bitmap_word (line / 64))))) none

-- nor in one that is described by 0, or is a run whose bitmap is 0
pub no_block_here : (lanes : ℕ) (words : List ℕ) (line : ℕ)
    → (slice_index words (descriptor_word lanes (line / 64)) ≡ 0) ⊎ ((is_run (slice_index words (descriptor_word lanes (line / 64))) ≡ true) × (slice_index words (bitmap_word (line / 64)) ≡ 0)) → block_at lanes words line ≡ None
no_block_here lanes words line none =
    ⊎_elim (λ (chunk : is_chunk lanes (line / 64) ≡ true).
    ap (λ b. cond (not b) None (block_of line (slice_index words (descriptor_word lanes (line / 64))) (slice_index words (bitmap_word (line / 64))))) chunk
    ∙ ⊎_elim (λ (zero_word : slice_index words (descriptor_word lanes (line / 64)) ≡ 0). ap (λ d. block_of line d (slice_index words (bitmap_word (line / 64)))) zero_word)
    (λ run. ap (block_of line (slice_index words (descriptor_word lanes (line / 64)))) run.1 ∙ empty_run line (slice_index words (descriptor_word lanes (line / 64))) run.0) none)
    (no_block_outside lanes words line) (cases_Bool (is_chunk lanes (line / 64)))
  where
    empty_run : (at d : ℕ) → is_run d ≡ true → block_of at d 0 ≡ None
    empty_run at d run =
        let clear : has_block 0 (d / 256) (at % 64) ≡ false = and_right (leb 1 (at % 64) && eqb ((at % 64 - 1) % (d / 256)) 0) (eqb (bit_at 0 ((at % 64 - 1) / (d / 256))) 1) (ne_eqb (bit_at 0 ((at % 64 - 1) / (d / 256))) 1 (λ one. absurd (let off = bit_at-zero ((at % 64 - 1) / (d / 256)) in omega (arith, off, one)))) in
        let huge : is_huge d ≡ false = ne_eqb (d % 256) 2 (λ two. absurd (let one = eqb-true (d % 256) 1 run in omega (arith, one, two))) in
        cond-false (is_run d && has_block 0 (d / 256) (at % 64)) (Some (d / 256)) _ (and_right (is_run d) (has_block 0 (d / 256) (at % 64)) clear)
        ∙ cond-false (is_huge d && eqb (at % 64) 0) (Some (64 * (d / 256))) None (ap (λ b. b && eqb (at % 64) 0) huge)

-- no block begins at line 0
no_block-zero : (lanes : ℕ) (words : List ℕ) (line : ℕ) → line ≡ 0 → block_at lanes words line ≡ None
no_block-zero lanes words line zeroth =
    let page : ℕ = line / 64 in
    let none : is_chunk lanes page ≡ false = false_from_ne_true (is_chunk lanes page) (λ e. let low = (chunk_here lanes page e).0 in absurd (omega (arith, low, zeroth))) in
    ap (λ b. cond (not b) None (block_of line (slice_index words (descriptor_word lanes page)) (slice_index words (bitmap_word page)))) none

-- a word that is under a lock as it was is under it as the block is found
pub under_found : (lanes : ℕ) (words : List ℕ) (line : ℕ) (block : Option ℕ) (w : ℕ) → IfSome block (λ lines. block_at lanes words line ≡ Some lines) → is_under_found line block w ≡ true → is_under_found line (block_at lanes words line) w ≡ true
under_found lanes words line (Some lines) w found e = ap (λ b. is_under_found line b w) found ∙ e
under_found lanes words line None w found e = ap (λ b. is_under_found line b w) (no_block-zero lanes words line (eqb-true line 0 (and_parts (eqb line 0) (eqb w root_word) e).0)) ∙ e

pub written_found : (lanes : ℕ) (words : List ℕ) (line : ℕ) (write : Bool) (block : Option ℕ) (w : ℕ) → IfSome block (λ lines. block_at lanes words line ≡ Some lines) → (write && is_some block && is_under_found line block w) ≡ true
    → (write && is_some (block_at lanes words line) && is_under_found line (block_at lanes words line) w) ≡ true
written_found lanes words line write (Some lines) w found e = ap (λ b. write && is_some b && is_under_found line b w) found ∙ e
written_found lanes words line true None w found e = absurd (false≢true e)
written_found lanes words line false None w found e = absurd (false≢true e)

pub found_block : (lanes : ℕ) (words : List ℕ) (line : ℕ) (block : Option ℕ) → block_at lanes words line ≡ block → IfSome block (λ lines. block_at lanes words line ≡ Some lines)
found_block lanes words line None e = tt
found_block lanes words line (Some lines) e = e

-- what tells of the blocks in a chunk that was taken has the value of the opening
pub opening_word : (o : Opening) (mem : Memory) (views : Views) (log : List Entry) (decided : ℕ → Bool) → World o mem views log decided → (page w : ℕ) → IsChunk o.lanes page → is_free_chunk (slice_index o.words) o.lanes page ≡ false → TellsOf o page w → w < length o.words → mem (PoolWord w) ≡ slice_index o.words w
opening_word o mem views log decided world page w chunk taken tells inside =
    let low = chunk.0 in let first = chunk.1 in
    let behind : 512 + 1024 * o.lanes ≤ w = ⊎_elim (λ (e : w ≡ descriptor_word o.lanes page). omega (arith, e, first)) (λ (t : (w ≡ bitmap_word page) × IsTrue (is_run (slice_index o.words (descriptor_word o.lanes page)))). let e = t.0 in omega (arith, e, low)) tells in
    let apart : (line : ℕ) → Guards o line w → ⊥ = λ line guard. world.sound.apart line w guard (page, (chunk, tells)) in
    world.each_word w (told_lives o world.sound page w chunk taken tells inside)
    (λ j within. let fits = world.each_lane j within in false_from_ne_true (is_in_log (views j) w) (λ logged.
    let out : is_in_area (views j).lane w ≡ false = ap (λ n. is_in_area n w) fits.lane.lane ∙ outside_behind o.lanes j w within behind in
    let t = writes_under o mem j (views j) w fits.locks (in_log_written (settled o log decided) (views j) (records_generation (views j).log.phase (views j)) w fits.log fits.entries out logged) in apart t.0 t.1))
    ∙ replayed-other decided log w (slice_index o.words w) (λ e there. false_from_ne_true (is_final e.difference w) (λ final.
    let t = Any-from_list_any (λ (f : Final). eqb f.word w) e.difference final in
    let f : Final = t.1 in
    let g = (world.each_entry e there).guarded f (t.0, t.2, t.3) in
    apart g.0 (subst (Guards o g.0) (eqb-true f.word w t.4) g.1)))
