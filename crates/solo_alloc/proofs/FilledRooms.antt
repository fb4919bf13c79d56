-- A lane that reserved a block may make it a new object, and another object behind that.
use Rattle.std.proofs.Common.{◌≡◌, ◌⊎◌, inl, inr, ⊎_elim, ℕ, ◌+◌, ◌*◌, ◌/◌, ◌%◌, ◌<◌, ◌≤◌, ◌&&◌, not, eqb, true, false, All, IfSome, List, length, slice_index, Option, Some, None, refl, sym, ap, ◌∙◌, subst, arith, eq-eqb}
use Rattle.std.specs.Int.{bit_at}
use Rattle.std.specs.List.{list_any}
use Rattle.std.proofs.lemmas.Bool.{and_from, and_parts, cases_lt, false≢true}
use Rattle.std.proofs.lemmas.List.Elements.{All-weaker}
use Rattle.pm_layout.specs.declared.shape.Shape.{Shape}
use Rattle.solo_view.specs.Blocks.{bitmap_word, block_at, describes, descriptor_word, is_chunk, is_run, page_told}
use Rattle.solo_view.specs.Constants.{IsSameLane}
use Rattle.solo_view.specs.Held.{is_reserved}
use Rattle.solo_view.specs.View.{Taken, View}
use Rattle.solo_view.specs.Views.{after_all, chunk_bit, has_bit, zone_at}
use Rattle.solo_world.proofs.Chunks.{block_same}
use Rattle.solo_world.proofs.HeapWords.{page_in_chunk}
use Rattle.solo_world.proofs.Living.{descriptor_page}
use Rattle.solo_world.specs.Entries.{is_entered}
use Rattle.solo_world.specs.Lawful.{IsEarly}
use Rattle.solo_world.specs.Opening.{IsChunk, Opening}
use Rattle.solo_world.specs.Records.{is_recorded}
use Rattle.solo_world.specs.Sequences.{Ready}
use Rattle.solo_undo.specs.Working.{FindsOpening}
use Rattle.solo_fresh.proofs.Filled.{fill_lawful}
use Rattle.solo_fresh.proofs.Reservable.{filled_finds, reserved_may}
use Rattle.solo_fresh.specs.Filled.{CanFill, HasWholePool, IsFilled}
use Rattle.solo_fresh.specs.Filling.{fills}
use Rattle.solo_fresh.specs.Made.{touches_chunk}
use Rattle.solo_fresh.specs.Making.{page_in, run_at}
use Rattle.solo_blocks.specs.NewRuns.{IsThere, IsUnused, MayMakeRun}

module _ (x : View) (shape : Shape) (line lines kind size : ℕ) (may : MayMakeRun x shape) (pool : HasWholePool x) (some : 1 ≤ lines)
    (own : (u : ℕ) → 8 * line ≤ u → u < 8 * (line + lines) → (is_reserved x u ≡ true) × (describes x.lanes u ≡ false)) where
  can : (u : ℕ) → 8 * line ≤ u → u < 8 * (line + lines) → CanFill x u
  can u from to = let o = own u from to in reserved_may x pool u o.0 o.1

  pub filled : Ready x (fills line lines kind size x) × IsFilled x line lines kind size (after_all x (fills line lines kind size x))
  filled = fill_lawful x line lines kind size may.working can some

  module _ (y : View) (f : IsFilled x line lines kind size y) where
    same : IsSameLane x y
    same = f.call.lane

    abbrev opening : Opening
    opening = record { lanes = x.lanes; zones = x.zones; words = x.words }

    finds : FindsOpening opening x
    finds = record { lane = pool.lane; lanes = refl; size = refl; descriptors = λ page chunk taken. refl; locks = may.locked }

    pub filled_pool : HasWholePool y
    filled_pool = (filled_finds opening x y line lines kind size finds pool own f).1

    beside : (u : ℕ) → (8 * line ≤ u → u < 8 * (line + lines) → ⊥) → (u < 8 * line) ⊎ (8 * (line + lines) ≤ u)
    beside u out = ⊎_elim
        (λ (low : u < 8 * line). inl low)
        (λ (from : 8 * line ≤ u). ⊎_elim (λ (to : u < 8 * (line + lines)). absurd (out from to)) (λ (high : 8 * (line + lines) ≤ u). inr high) (cases_lt u (8 * (line + lines))))
        (cases_lt u (8 * line))

    -- no word of the block tells of chunks
    descriptor_still : (page : ℕ) → IsChunk x.lanes page → slice_index y.words (descriptor_word x.lanes page) ≡ slice_index x.words (descriptor_word x.lanes page)
    descriptor_still page chunk =
        let d : ℕ = descriptor_word x.lanes page in
        f.others d (beside d (λ from to.
        false≢true (sym (descriptor_page x.lanes page chunk) ∙ (and_parts (is_chunk x.lanes (d / 512)) (not (eqb (d % 512) 0 && is_run (slice_index x.words (descriptor_word x.lanes (d / 512))))) (can d from to).plain).0)))

    bitmap_still : (page : ℕ) → is_run (slice_index x.words (descriptor_word x.lanes page)) ≡ true → slice_index y.words (bitmap_word page) ≡ slice_index x.words (bitmap_word page)
    bitmap_still page run =
        let w : ℕ = bitmap_word page in
        let here : w / 512 ≡ page = omega arith in
        let first : w % 512 ≡ 0 = omega arith in
        f.others w (beside w (λ from to.
        let run_here : is_run (slice_index x.words (descriptor_word x.lanes (w / 512))) ≡ true = ap (λ p. is_run (slice_index x.words (descriptor_word x.lanes p))) here ∙ run in
        let both : (eqb (w % 512) 0 && is_run (slice_index x.words (descriptor_word x.lanes (w / 512)))) ≡ true = and_from (eqb (w % 512) 0) (is_run (slice_index x.words (descriptor_word x.lanes (w / 512)))) (eq-eqb (w % 512) 0 first) run_here in
        false≢true (sym (ap not both) ∙ (and_parts (is_chunk x.lanes (w / 512)) (not (eqb (w % 512) 0 && is_run (slice_index x.words (descriptor_word x.lanes (w / 512))))) (can w from to).plain).1)))

    there_then : (at : ℕ) (found : Option ℕ) → IfSome found (λ n. block_at x.lanes x.words at ≡ Some n) → IfSome found (λ n. block_at y.lanes y.words at ≡ Some n)
    there_then at None is = tt
    there_then at (Some n) is =
        ap (λ lanes. block_at lanes y.words at) same.lanes
        ∙ (block_same x.lanes y.words x.words at (λ its. descriptor_still (at / 64) its) (λ its run. bitmap_still (at / 64) run) ∙ is)

    locks_then : All (IsThere y) y.locks
    locks_then = subst (All (IsThere y)) (sym f.call.locks) (All-weaker (IsThere x) (IsThere y) (λ l is. there_then l.line l.block is) x.locks may.locked)

    unused_then : (z k : ℕ) → k < 64 → IsUnused x (page_in x.lanes z k) → IsUnused y (page_in y.lanes z k)
    unused_then z k small was =
        let page : ℕ = page_in y.lanes z k in
        let before : IsUnused x page = subst (λ n. IsUnused x (page_in n z k)) (sym same.lanes) was in
        let chunk : IsChunk x.lanes page = subst (λ n. IsChunk x.lanes (page_in n z k)) (sym same.lanes) (page_in_chunk x.lanes z k small) in
        record {
          undescribed = ap (λ n. slice_index y.words (descriptor_word n page)) same.lanes ∙ (descriptor_still page chunk ∙ before.undescribed);
          closed = λ bit few. ap (λ (ws : List ℕ). bit_at (slice_index ws (4096 * page / 4096)) bit) f.run_words ∙ before.closed bit few;
          no_chunk = (λ i. list_any (has_bit (zone_at (same.lanes i) page) (chunk_bit (same.lanes i) page)) (f.call.reserved i)) ∙ before.no_chunk;
          no_block = λ bit. ap (λ (ts : List Taken). list_any (has_bit (run_at page) bit) ts) f.call.reserved ∙ before.no_block bit;
          drained = f.beside (λ w. eqb (page_told y.lanes w) page) (ap (λ n. touches_chunk n page x.changes) same.lanes ∙ before.drained);
          unlogged = λ u here. (ap (λ l. is_recorded l.records u) f.log ∙ (before.unlogged u here).0, ap (λ l. is_entered l.entries u) f.log ∙ (before.unlogged u here).1);
        }

    pub filled_may : MayMakeRun y shape
    filled_may = record {
      search = record {
        shape = record { lanes = same.lanes ∙ may.search.shape.lanes; zones = same.zones ∙ may.search.shape.zones; size = same.size ∙ may.search.shape.size };
        early = subst IsEarly (sym f.working.is_open) tt;
        unlocked = f.call.zone_locks ∙ may.search.unlocked;
      };
      alone = same.table ∙ may.alone;
      working = f.working;
      locked = locks_then;
      pictured = (let zones = same.zones in let words = ap (length {A = ℕ}) f.zone_words in let pictured = may.pictured in omega (arith, zones, words, pictured));
      unused = λ z k inside small clear.
          unused_then z k small (may.unused z k (let zones = same.zones in omega (arith, zones, inside)) small (λ set. clear (ap (λ (ws : List ℕ). bit_at (slice_index ws z) k) f.zone_words ∙ set)));
    }
