-- What a lane reserved of its pool may be made a new object: it lies in chunks, which no lane's area is and where nothing tells of chunks.
use Rattle.std.proofs.Common.{◌≡◌, ◌≢◌, ◌⊎◌, inl, inr, ℕ, ◌+◌, ◌-◌, ◌*◌, ◌/◌, ◌%◌, ◌<◌, ◌≤◌, ⊎_elim, Bool, not, true, false, leb, eqb, ◌&&◌, All, List, [], ◌∷◌, slice_index, Some, IfSome, refl, sym, ap, ◌∙◌, subst, arith, ne_eqb}
use Rattle.std.specs.Int.{bit_at}
use Rattle.std.specs.List.{list_any}
use Rattle.std.proofs.lemmas.Bool.{and_from, and_parts, cond-false, false_from_ne_true, le-leb, not_from_false, cases_lt, eqb-true, false≢true, or_cases}
use Rattle.std.proofs.lemmas.List.Elements.{All-cons, All-head, All-nil, All-tail}
use Rattle.solo_view.specs.declared.occ.Occ.{Occ}
use Rattle.solo_view.specs.declared.occ.Occ.TheVariants.{Run, Zone}
use Rattle.solo_view.specs.Blocks.{block_at, chunk_of, covers, describes, descriptor_word, is_chunk, is_run, page_told, tells_nothing, zone_of, zone_page}
use Rattle.solo_view.specs.Constants.{IsSameLane}
use Rattle.solo_view.specs.Held.{is_reserved}
use Rattle.solo_view.specs.View.{View, Lock, Taken}
use Rattle.solo_world.specs.Heap.{IsOcc}
use Rattle.solo_world.proofs.Apart.{outside_behind}
use Rattle.solo_world.proofs.Chunks.{chunk_here}
use Rattle.solo_world.specs.Opening.{IsChunk, Opening}
use Rattle.solo_undo.specs.Working.{FindsOpening}
use Rattle.solo_fresh.specs.Filled.{CanFill, HasWholePool, IsFilled, describes_run}

-- the word is of a chunk of the pool
pub record IsOfChunk (lanes zones w : ℕ) : Type 0 where
  pub behind : 1 + 2 * lanes ≤ w / 512
  pub within : w / 512 < 1 + 2 * lanes + 65 * zones
  pub chunk : 1 ≤ chunk_of lanes (w / 512)

covered : (lanes zones w : ℕ) (words : List ℕ) (at : Occ) (bits : ℕ) → IsOcc lanes zones at → describes lanes w ≡ false → covers lanes words at bits w ≡ true → IsOfChunk lanes zones w
covered lanes zones w words (Run place) bits of_pool plain e =
    let first = and_parts (eqb (w / 512) (place / 4096) && leb 8 (w % 512)) (eqb (bit_at bits ((w % 512 / 8 - 1) / (slice_index words (descriptor_word lanes (place / 4096)) / 256))) 1) e in
    let here : w / 512 ≡ place / 4096 = eqb-true (w / 512) (place / 4096) (and_parts (eqb (w / 512) (place / 4096)) (leb 8 (w % 512)) first.0).0 in
    let low = of_pool.1.0 in let some = of_pool.1.1 in let high = of_pool.2 in
    record { behind = omega (arith, here, low); within = omega (arith, here, high); chunk = omega (arith, some, ap (chunk_of lanes) here) }
covered lanes zones w words (Zone zone) bits of_pool plain e =
    let page : ℕ = w / 512 in
    let told : page_told lanes w ≡ page = cond-false (describes lanes w) (w / 512 + 1 + w % 512) page plain in
    let here = ap (λ p. is_chunk lanes p && eqb (zone_of lanes p) zone && eqb (bit_at bits (chunk_of lanes p - 1)) 1) (sym told) ∙ e in
    let last = and_parts (is_chunk lanes page && eqb (zone_of lanes page) zone) (eqb (bit_at bits (chunk_of lanes page - 1)) 1) here in
    let more = and_parts (is_chunk lanes page) (eqb (zone_of lanes page) zone) last.0 in
    let chunk = chunk_here lanes page more.0 in
    let low = chunk.0 in
    let in_zone : zone_of lanes page ≡ zone = eqb-true (zone_of lanes page) zone more.1 in
    record { behind = omega (arith, low); within = omega (arith, in_zone, of_pool, low); chunk = chunk.1 }

covered_any : (lanes zones w : ℕ) (words : List ℕ) (blocks : List Taken) → All (λ (t : Taken). IsOcc lanes zones t.at) blocks → describes lanes w ≡ false → list_any (λ (t : Taken). covers lanes words t.at t.bits w) blocks ≡ true → IsOfChunk lanes zones w
covered_any lanes zones w words [] of_pool plain e = absurd (false≢true e)
covered_any lanes zones w words (t ∷ blocks) of_pool plain e =
    ⊎_elim (λ (here : covers lanes words t.at t.bits w ≡ true). covered lanes zones w words t.at t.bits (All-head (λ (q : Taken). IsOcc lanes zones q.at) t blocks of_pool) plain here)
    (λ (later : list_any (λ (q : Taken). covers lanes words q.at q.bits w) blocks ≡ true). covered_any lanes zones w words blocks (All-tail (λ (q : Taken). IsOcc lanes zones q.at) t blocks of_pool) plain later)
    (or_cases (covers lanes words t.at t.bits w) (list_any (λ (q : Taken). covers lanes words q.at q.bits w) blocks) e)

-- what describes a chunk is in the first page of its zone, which is no chunk
descriptor_page : (lanes zone chunk w : ℕ) → 1 ≤ chunk → chunk < 65 → 512 * (1 + 2 * lanes + 65 * zone) + chunk - 1 ≡ w → w / 512 ≡ 1 + 2 * lanes + 65 * zone
descriptor_page lanes zone chunk w some few e = omega (arith, some, few, e)

first_page : (lanes zone page : ℕ) → page ≡ 1 + 2 * lanes + 65 * zone → chunk_of lanes page ≡ 0
first_page lanes zone page e = omega (arith, e)

no_descriptor : (lanes zones w page : ℕ) → 1 ≤ chunk_of lanes page → IsOfChunk lanes zones w → descriptor_word lanes page ≢ w
no_descriptor lanes zones w page some of_chunk e =
    let few : chunk_of lanes page < 65 = omega arith in
    let none = first_page lanes (zone_of lanes page) (w / 512) (descriptor_page lanes (zone_of lanes page) (chunk_of lanes page) w some few e) in
    let other = of_chunk.chunk in
    absurd (omega (arith, none, other))

describes_no_other : (lanes zones w : ℕ) (at : Occ) → IsOcc lanes zones at → IsOfChunk lanes zones w → describes_run lanes w at ≡ false
describes_no_other lanes zones w (Run place) of_pool of_chunk = ne_eqb (descriptor_word lanes (place / 4096)) w (no_descriptor lanes zones w (place / 4096) of_pool.1.1 of_chunk)
describes_no_other lanes zones w (Zone zone) of_pool of_chunk = refl

describes_none : (lanes zones w : ℕ) (blocks : List Taken) → All (λ (t : Taken). IsOcc lanes zones t.at) blocks → IsOfChunk lanes zones w → All (λ (t : Taken). describes_run lanes w t.at ≡ false) blocks
describes_none lanes zones w [] of_pool of_chunk = All-nil (λ (t : Taken). describes_run lanes w t.at ≡ false)
describes_none lanes zones w (t ∷ blocks) of_pool of_chunk =
    All-cons (λ (q : Taken). describes_run lanes w q.at ≡ false) t blocks (describes_no_other lanes zones w t.at (All-head (λ (q : Taken). IsOcc lanes zones q.at) t blocks of_pool) of_chunk)
    (describes_none lanes zones w blocks (All-tail (λ (q : Taken). IsOcc lanes zones q.at) t blocks of_pool) of_chunk)

pub of_chunks : (v : View) → HasWholePool v → (w : ℕ) → is_reserved v w ≡ true → describes v.lanes w ≡ false → IsOfChunk v.lanes v.zones w
of_chunks v pool w e plain = covered_any v.lanes v.zones w v.words v.reserved pool.of_pool plain e

-- it tells of no block
plain_word : (v : View) → HasWholePool v → (w : ℕ) → is_reserved v w ≡ true → describes v.lanes w ≡ false → IsOfChunk v.lanes v.zones w → tells_nothing v.lanes v.words w ≡ true
plain_word v pool w e plain of_chunk =
    let page : ℕ = w / 512 in
    let behind = of_chunk.behind in
    let run : Bool = is_run (slice_index v.words (descriptor_word v.lanes page)) in
    let none : (eqb (w % 512) 0 && run) ≡ false = false_from_ne_true (eqb (w % 512) 0 && run) (λ both.
    let t = and_parts (eqb (w % 512) 0) run both in false≢true (sym (pool.no_bitmap w e plain (eqb-true (w % 512) 0 t.0)) ∙ t.1)) in
    and_from (is_chunk v.lanes page) (not (eqb (w % 512) 0 && run))
    (and_from (leb (zone_page v.lanes 0) page) (leb 1 (chunk_of v.lanes page)) (le-leb (zone_page v.lanes 0) page (omega (arith, behind))) (le-leb 1 (chunk_of v.lanes page) of_chunk.chunk))
    (not_from_false (eqb (w % 512) 0 && run) none)

pub reserved_may : (v : View) → HasWholePool v → (w : ℕ) → is_reserved v w ≡ true → describes v.lanes w ≡ false → CanFill v w
reserved_may v pool w e plain =
    let of_chunk = of_chunks v pool w e plain in
    let behind = of_chunk.behind in let within = of_chunk.within in let size = pool.size in
    record {
      own = e;
      plain = plain_word v pool w e plain of_chunk;
      inside = omega (arith, within, size);
      outside = outside_behind v.lanes v.lane w pool.lane (omega (arith, behind));
      silent = describes_none v.lanes v.zones w v.reserved pool.of_pool of_chunk;
    }

-- so what tells of chunks and locks is as it was
pub filled_finds : (o : Opening) (v w : View) (line lines kind size : ℕ) → FindsOpening o v → HasWholePool v → ((u : ℕ) → 8 * line ≤ u → u < 8 * (line + lines) → (is_reserved v u ≡ true) × (describes v.lanes u ≡ false))
    → IsFilled v line lines kind size w → FindsOpening o w × HasWholePool w
filled_finds o v w line lines kind size finds pool own filled = (
  record {
    lane = subst (λ n. n < w.lanes) (sym same.lane) (subst (λ n. v.lane < n) (sym same.lanes) finds.lane);
    lanes = same.lanes ∙ finds.lanes;
    size = same.size ∙ finds.size;
    descriptors = λ page chunk taken. filled.others (descriptor_word o.lanes page) (beside page chunk) ∙ finds.descriptors page chunk taken;
    locks = subst (All (λ (l : Lock). IfSome l.block (λ lines. block_at o.lanes o.words l.line ≡ Some lines))) (sym filled.call.locks) finds.locks;
  },
  record {
    lane = subst (λ n. n < w.lanes) (sym same.lane) (subst (λ n. v.lane < n) (sym same.lanes) pool.lane);
    size = (let size = pool.size in let lanes = same.lanes in let zones = same.zones in let words = same.size in omega (arith, size, lanes, zones, words));
    of_pool = subst (λ lanes. All (λ (t : Taken). IsOcc lanes w.zones t.at) w.reserved) (sym same.lanes) (subst (λ zones. All (λ (t : Taken). IsOcc v.lanes zones t.at) w.reserved) (sym same.zones)
        (subst (All (λ (t : Taken). IsOcc v.lanes v.zones t.at)) (sym filled.call.reserved) pool.of_pool));
    no_bitmap = λ u there plain first.
        let plain_before : describes v.lanes u ≡ false = ap (λ n. describes n u) (sym same.lanes) ∙ plain in
        let before : is_reserved v u ≡ true = sym (filled.reserved u) ∙ there in
        let chunk : IsChunk o.lanes (u / 512) = subst (λ n. IsChunk n (u / 512)) finds.lanes (let of_chunk = of_chunks v pool u before plain_before in let behind = of_chunk.behind in (omega (arith, behind), of_chunk.chunk)) in
        ap (λ n. is_run (slice_index w.words (descriptor_word n (u / 512)))) (same.lanes ∙ finds.lanes) ∙ ap is_run (filled.others (descriptor_word o.lanes (u / 512)) (beside (u / 512) chunk))
        ∙ ap (λ n. is_run (slice_index v.words (descriptor_word n (u / 512)))) (sym finds.lanes) ∙ pool.no_bitmap u before plain_before first;
  },
) where
  same : IsSameLane v w
  same = filled.call.lane

  beside : (page : ℕ) → IsChunk o.lanes page → (descriptor_word o.lanes page < 8 * line) ⊎ (8 * (line + lines) ≤ descriptor_word o.lanes page)
  beside page chunk =
      ⊎_elim (λ (low : descriptor_word o.lanes page < 8 * line). inl low)
      (λ (from : 8 * line ≤ descriptor_word o.lanes page). ⊎_elim
      (λ (to : descriptor_word o.lanes page < 8 * (line + lines)).
      let of_chunk : IsOfChunk o.lanes v.zones (descriptor_word o.lanes page) = subst (λ n. IsOfChunk n v.zones (descriptor_word o.lanes page)) finds.lanes (of_chunks v pool (descriptor_word o.lanes page) (own (descriptor_word o.lanes page) from to).0 (own (descriptor_word o.lanes page) from to).1) in
      absurd (no_descriptor o.lanes v.zones (descriptor_word o.lanes page) page chunk.1 of_chunk refl))
      (λ (high : 8 * (line + lines) ≤ descriptor_word o.lanes page). inr high)
      (cases_lt (descriptor_word o.lanes page) (8 * (line + lines))))
      (cases_lt (descriptor_word o.lanes page) (8 * line))
