-- A lane at work may make a chunk that it reserved a run.
use Rattle.std.proofs.Common.{◌≡◌, ◌≢◌, ◌⊎◌, inl, inr, ⊎_elim, ℕ, ◌+◌, ◌-◌, ◌*◌, ◌/◌, ◌%◌, ◌^◌, ◌<◌, ◌≤◌, ◌&&◌, ◌||◌, Bool, true, false, not, cond, eqb, leb, bit_and, All, List, [], ◌∷◌, ◌++◌, length, map, slice_index, slice_set, is_some, refl, sym, ap, ◌∙◌, subst, arith, eq-eqb, pow_mono}
use Rattle.std.specs.Int.{bit_at, bit_not, w64}
use Rattle.std.specs.List.{filter, list_any}
use Rattle.std.proofs.lemmas.Bool.{and_from, and_parts, cases_eq, cases_lt, cond-false, cond-true, eqb-false, eqb-true, false_from_ne_true, false≢true, not_from_false, or_cases, or_left, or_parts, or_right, and_right}
use Rattle.std.proofs.lemmas.List.{map-append}
use Rattle.std.proofs.lemmas.List.Elements.{All-cons, All-head, All-nil, All-tail, filter-append}
use Rattle.std.proofs.lemmas.List.Folds.{Any-from_list_any, list_any-append, list_any_at}
use Rattle.std.proofs.Math.Nat.{mod-eq_of_lt}
use Rattle.std.proofs.lemmas.Nat.{and-not, and_comm, and_mask}
use Rattle.std.proofs.lemmas.Nat.Bits.{bit_at-lt, bit_at-pow_other, bit_at-zero, bit_at_above, bit_at_ones, same_from_bits}
use Rattle.pm_image.proofs.Rooms.{run_fits}
use Rattle.pm_layout.specs.Sizes.{blocks_of}
use Rattle.solo_view.specs.declared.change.Change.{Change}
use Rattle.solo_view.specs.declared.occ.Occ.{Occ}
use Rattle.solo_view.specs.declared.occ.Occ.TheVariants.{Run}
use Rattle.solo_view.specs.Area.{is_in_area}
use Rattle.solo_view.specs.Area.Part.{OtherWord}
use Rattle.solo_view.specs.Blocks.{bitmap_word, chunk_of, covers, describes, descriptor_word, is_chunk, is_run, page_told, tells_nothing, zone_of}
use Rattle.solo_view.specs.Changes.{is_in_line}
use Rattle.solo_view.specs.Counts.{HasRoom, is_unflushed}
use Rattle.solo_view.specs.Held.{is_held, is_known, is_reserved, is_under}
use Rattle.solo_view.specs.Rights.{is_written}
use Rattle.solo_view.specs.Steps.Step.{Vacate}
use Rattle.solo_view.specs.View.{View, Lock, Taken}
use Rattle.solo_view.specs.Views.{after, after_all, all_of_run, vacated_word, chunk_bit, exchanged, has_bit, has_chunk, is_made, is_same_occ, without_taken, zone_at}
use Rattle.solo_world.specs.Lawful.{Allowed, HasOcc, IsEarly, MayStore, MayVacate, StoreFits}
use Rattle.solo_world.specs.Sequences.{IsForeseen, Ready, in_turn}
use Rattle.solo_world.specs.Opening.{IsChunk}
use Rattle.solo_world.proofs.Apart.{outside_behind}
use Rattle.solo_world.proofs.Chunks.{chunk_here, chunk_is}
use Rattle.solo_world.proofs.Going.{Goes, goes_one, goes_then}
use Rattle.solo_world.proofs.HeapWords.{described}
use Rattle.solo_world.proofs.Reserved.{bit_had, occ_same}
use Rattle.solo_undo.specs.Working.{IsWorking}
use Rattle.solo_undo.proofs.Areas.{other_part}
use Rattle.solo_undo.proofs.Storing.{Is}
use Rattle.solo_undo.proofs.Unflushed.{clean_drained}
use Rattle.solo_fresh.specs.Made.{CanMakeRun, IsRunMade, first_block, touches_chunk, without_chunk}
use Rattle.solo_fresh.specs.Making.{behind_first, keeps_first, makes_run, run_at, run_descriptor, stores_persistent}
use Rattle.solo_fresh.proofs.Persisting.{IsPersisted, IsRoomy, goes_persistent}

-- ---- lists

untouched : (p : ℕ → Bool) (changes : List Change) → list_any (λ (c : Change). p c.word) changes ≡ false → (P : Change → Type 0) → ((c : Change) → p c.word ≡ false → P c) → All P changes
untouched p [] none P each = All-nil P
untouched p (c ∷ changes) none P each = let t = or_parts (p c.word) (list_any (λ (d : Change). p d.word) changes) none in All-cons P c changes (each c t.0) (untouched p changes t.1 P each)

filtered : {X : Type 0} (p : X → Bool) (xs : List X) → filter p (filter p xs) ≡ filter p xs
filtered p [] = refl
filtered {X} p (x ∷ xs) = at (p x) refl (filtered p xs) where
  at : (b : Bool) → p x ≡ b → filter p (filter p xs) ≡ filter p xs → filter p (cond b (x ∷ filter p xs) (filter p xs)) ≡ cond b (x ∷ filter p xs) (filter p xs)
  at true is rest = cond-true (p x) (x ∷ filter p (filter p xs)) (filter p (filter p xs)) is ∙ ap (λ (ys : List X). x ∷ ys) rest
  at false is rest = rest

mapped_same : (f : Taken → Taken) (p : Taken → Bool) → ((t : Taken) → p t ≡ false → f t ≡ t) → (blocks : List Taken) → All (λ (t : Taken). p t ≡ false) blocks → map f blocks ≡ blocks
mapped_same f p each [] none = refl
mapped_same f p each (t ∷ blocks) none =
    ap (λ (u : Taken). u ∷ map f blocks) (each t (All-head (λ (u : Taken). p u ≡ false) t blocks none))
    ∙ ap (λ (us : List Taken). t ∷ us) (mapped_same f p each blocks (All-tail (λ (u : Taken). p u ≡ false) t blocks none))

abbrev is_among : List ℕ → ℕ → Bool
is_among ws w = list_any (λ other. eqb other w) ws

-- a word that passes the test is among those that do
passes : (p : ℕ → Bool) (w : ℕ) (ws : List ℕ) → p w ≡ true → is_among ws w ≡ true → is_among (filter p ws) w ≡ true
passes p w [] is e = e
passes p w (y ∷ ws) is e = at (p y) refl (passes p w ws is) (or_cases (eqb y w) (is_among ws w) e) where
  at : (b : Bool) → p y ≡ b → (is_among ws w ≡ true → is_among (filter p ws) w ≡ true) → (eqb y w ≡ true) ⊎ (is_among ws w ≡ true) → is_among (cond b (y ∷ filter p ws) (filter p ws)) w ≡ true
  at true f rest of = ⊎_elim (λ (this : eqb y w ≡ true). or_left (eqb y w) (is_among (filter p ws) w) this) (λ (later : is_among ws w ≡ true). or_right (eqb y w) (is_among (filter p ws) w) (rest later)) of
  at false f rest of = ⊎_elim (λ (this : eqb y w ≡ true). absurd (false≢true (sym f ∙ (ap p (eqb-true y w this) ∙ is)))) rest of

-- blocks without those of some occupancy word's bits, and which of them are left
module _ (lost : Occ) (bits page : ℕ) where
  abbrev lose : Taken → Taken
  lose t = cond (is_same_occ lost t.at) (record t { bits = bit_and t.bits (bit_not w64 bits) }) t

  abbrev some_left : Taken → Bool
  some_left t = not (eqb t.bits 0)

  abbrev IsApart : Taken → Type 0
  IsApart u = is_same_occ (run_at page) u.at ≡ false

  -- of a run of which no bit was had none is left
  none_of_run : ((place : ℕ) → is_same_occ lost (Run place) ≡ false) → (blocks : List Taken) → ((bit : ℕ) → list_any (has_bit (run_at page) bit) blocks ≡ false) → All IsApart (filter some_left (map lose blocks))
  none_of_run no_run [] none = All-nil IsApart
  none_of_run no_run (t ∷ blocks) none =
      one (some_left (lose t)) refl (none_of_run no_run blocks (λ bit. (or_parts (has_bit (run_at page) bit t) (list_any (has_bit (run_at page) bit) blocks) (none bit)).1)) where
        at_same : (b : Bool) → (let u : Taken = cond b (record t { bits = bit_and t.bits (bit_not w64 bits) }) t in u.at) ≡ t.at
        at_same true = refl
        at_same false = refl

        -- a block of the run has no bit
        empty : is_same_occ (run_at page) t.at ≡ true → t.bits ≡ 0
        empty same = same_from_bits t.bits 0 (λ bit.
            let off : eqb (bit_at t.bits bit) 1 ≡ false = sym (λ i. same i && eqb (bit_at t.bits bit) 1) ∙ (or_parts (has_bit (run_at page) bit t) (list_any (has_bit (run_at page) bit) blocks) (none bit)).0 in
            let less = bit_at-lt t.bits bit in let none_there = eqb-false (bit_at t.bits bit) 1 off in let zeros = bit_at-zero bit in omega (arith, less, none_there, zeros))

        apart : some_left (lose t) ≡ true → IsApart (lose t)
        apart some = false_from_ne_true (is_same_occ (run_at page) (lose t).at) (λ same.
            let here : is_same_occ (run_at page) t.at ≡ true = ap (is_same_occ (run_at page)) (sym (at_same (is_same_occ lost t.at))) ∙ same in
            let kept : lose t ≡ t = cond-false (is_same_occ lost t.at) (record t { bits = bit_and t.bits (bit_not w64 bits) }) t (ap (is_same_occ lost) (sym (occ_same (run_at page) t.at here)) ∙ no_run (4096 * page)) in
            false≢true (sym (ap (λ n. not (eqb n 0)) (ap (λ (u : Taken). u.bits) kept ∙ empty here)) ∙ some))

        one : (some : Bool) → some_left (lose t) ≡ some → All IsApart (filter some_left (map lose blocks)) → All IsApart (cond (some_left (lose t)) (lose t ∷ filter some_left (map lose blocks)) (filter some_left (map lose blocks)))
        one true keeps rest = subst (All IsApart) (sym (cond-true (some_left (lose t)) (lose t ∷ filter some_left (map lose blocks)) (filter some_left (map lose blocks)) keeps)) (All-cons IsApart (lose t) (filter some_left (map lose blocks)) (apart keeps) rest)
        one false drops rest = subst (All IsApart) (sym (cond-false (some_left (lose t)) (lose t ∷ filter some_left (map lose blocks)) (filter some_left (map lose blocks)) drops)) rest

-- ---- the bits of a run's blocks

has_lines : (lines : ℕ) → 0 < blocks_of lines → 0 < lines
has_lines lines some = ⊎_elim (λ (none : lines ≡ 0). let no_blocks : 0 < blocks_of 0 = subst (λ n. 0 < blocks_of n) none some in absurd (omega arith)) (λ (any : lines ≢ 0). omega (arith, any)) (cases_eq lines 0)

at_least : (lines k : ℕ) → 0 < lines → k ≤ lines * k
at_least lines k some = grind arith

module _ (lines : ℕ) (some : 0 < blocks_of lines) where
  abbrev n : ℕ
  n = blocks_of lines

  few : n ≤ 64
  few =
      let last : n - 1 < n = omega (arith, some) in
      let fits = run_fits lines (n - 1) last in let lined = has_lines lines some in let less = at_least lines (n - 1) lined in
      omega (arith, fits, less, lined)

  two : 2 ≤ 2 ^ n
  two = let one : 1 ≤ n = some in pow_mono {i = 1} {j = n} one

  most : 2 ^ n ≤ 2 ^ 64
  most = pow_mono {i = n} {j = 64} few

  pub behind_small : behind_first lines < 2 ^ 64
  behind_small = let m = most in let t = two in omega (arith, m, t)

  -- each is a bit of all blocks
  pub behind_one : (bit : ℕ) → bit_at (behind_first lines) bit ≡ 1 → bit_at (2 ^ n - 1) bit ≡ 1
  behind_one bit set = ⊎_elim (λ (low : bit < n). bit_at_ones n bit low)
      (λ (high : n ≤ bit). absurd (let t = two in let none = bit_at_above (behind_first lines) n bit (omega (arith, t)) high in omega (arith, none, set))) (cases_lt bit n)

  -- and the first alone is left of them
  pub first_left : bit_and (2 ^ n - 1) (bit_not w64 (behind_first lines)) ≡ 1
  first_left =
      let m : ℕ = behind_first lines in
      let all : ℕ = 2 ^ n - 1 in
      let t = two in let top = most in
      let split = and-not 64 m all (omega (arith, t, top)) (omega (arith, t, top)) in
      let inside : bit_and m all ≡ m % 2 ^ n = and_mask m n in
      let low : m % 2 ^ n ≡ m = mod-eq_of_lt (omega (arith, t)) in
      and_comm all (bit_not w64 m) ∙ (let e : bit_and (bit_not w64 m) all ≡ 1 = omega (arith, split, inside, low, t) in e)

-- ---- the words of a chunk

module _ (lanes page : ℕ) (chunk : IsChunk lanes page) where
  -- a word that lies in it
  pub told_here : (w : ℕ) → w / 512 ≡ page → page_told lanes w ≡ page
  told_here w here =
      cond-false (describes lanes w) (w / 512 + 1 + w % 512) (w / 512)
      (false_from_ne_true (describes lanes w) (λ e. absurd (let first = (described lanes w e).first in let some = chunk.1 in omega (arith, first, some, here))))
      ∙ here

  -- what its bit covers is of the chunk
  pub covers_chunk : (words : List ℕ) (w : ℕ) → covers lanes words (zone_at lanes page) (2 ^ chunk_bit lanes page) w ≡ true → page_told lanes w ≡ page
  covers_chunk words w e =
      let told : ℕ = page_told lanes w in
      let last = and_parts (is_chunk lanes told && eqb (zone_of lanes told) (zone_of lanes page)) (eqb (bit_at (2 ^ chunk_bit lanes page) (chunk_of lanes told - 1)) 1) e in
      let both = and_parts (is_chunk lanes told) (eqb (zone_of lanes told) (zone_of lanes page)) last.0 in
      let other = chunk_here lanes told both.0 in
      let low = other.0 in let some = other.1 in
      let from = chunk.0 in let any = chunk.1 in
      let zone = eqb-true (zone_of lanes told) (zone_of lanes page) both.1 in
      let set = eqb-true (bit_at (2 ^ chunk_bit lanes page) (chunk_of lanes told - 1)) 1 last.1 in
      ⊎_elim (λ (same : chunk_of lanes told - 1 ≡ chunk_bit lanes page). (let e : told ≡ page = omega (arith, same, zone, low, some, from, any) in e))
      (λ (apart : chunk_of lanes told - 1 ≢ chunk_bit lanes page). absurd (let none = bit_at-pow_other (chunk_bit lanes page) (chunk_of lanes told - 1) apart in omega (arith, none, set)))
      (cases_eq (chunk_of lanes told - 1) (chunk_bit lanes page))

  -- and it covers each of them
  covered : (words : List ℕ) (w : ℕ) → page_told lanes w ≡ page → (t : Taken) → has_bit (zone_at lanes page) (chunk_bit lanes page) t ≡ true → covers lanes words t.at t.bits w ≡ true
  covered words w told t has =
      let both = and_parts (is_same_occ (zone_at lanes page) t.at) (eqb (bit_at t.bits (chunk_bit lanes page)) 1) has in
      subst (λ at. covers lanes words at t.bits w ≡ true) (occ_same (zone_at lanes page) t.at both.0)
      (ap (λ p. is_chunk lanes p && eqb (zone_of lanes p) (zone_of lanes page) && eqb (bit_at t.bits (chunk_of lanes p - 1)) 1) told
      ∙ and_from (is_chunk lanes page && eqb (zone_of lanes page) (zone_of lanes page)) (eqb (bit_at t.bits (chunk_bit lanes page)) 1)
      (and_from (is_chunk lanes page) (eqb (zone_of lanes page) (zone_of lanes page)) (chunk_is lanes page chunk) (eq-eqb (zone_of lanes page) (zone_of lanes page) refl)) both.1)

pub chunk_reserved : (v : View) (page w : ℕ) → IsChunk v.lanes page → has_chunk v page ≡ true → page_told v.lanes w ≡ page → is_reserved v w ≡ true
chunk_reserved v page w chunk has told =
    let t = Any-from_list_any (has_bit (zone_at v.lanes page) (chunk_bit v.lanes page)) v.reserved has in
    list_any_at (λ (b : Taken). covers v.lanes v.words b.at b.bits w) v.reserved t.0 t.1 t.2 (ap (λ (b : Taken). covers v.lanes v.words b.at b.bits w) t.3 ∙ covered v.lanes page chunk v.words w told t.1 t.4)

-- ---- the law

module _ (v : View) (page lines : ℕ) (working : IsWorking v) (can : CanMakeRun v page lines) where
  abbrev b : ℕ
  b = bitmap_word page

  abbrev d : ℕ
  d = descriptor_word v.lanes page

  abbrev x : ℕ
  x = run_descriptor lines

  abbrev bits : ℕ
  bits = behind_first lines

  chunk : IsChunk v.lanes page
  chunk = can.of_pool.0

  inside_b : b < length v.words
  inside_b = let below = can.of_pool.1 in let size = can.size in omega (arith, below, size)

  inside_d : d < length v.words
  inside_d = let low = chunk.0 in let some = chunk.1 in let below = can.of_pool.1 in let size = can.size in omega (arith, low, some, below, size)

  out_b : is_in_area v.lane b ≡ false
  out_b = let low = chunk.0 in outside_behind v.lanes v.lane b working.area.lane (omega (arith, low))

  out_d : is_in_area v.lane d ≡ false
  out_d = let some = chunk.1 in outside_behind v.lanes v.lane d working.area.lane (omega (arith, some))

  apart : d ≢ b
  apart same = let low = chunk.0 in let some = chunk.1 in absurd (omega (arith, low, some, same))

  here_b : b / 512 ≡ page
  here_b = omega arith

  -- the bitmap is no run's so far
  plain : tells_nothing v.lanes v.words b ≡ true
  plain =
      let run : is_run (slice_index v.words (descriptor_word v.lanes (b / 512))) ≡ false = ap (λ p. is_run (slice_index v.words (descriptor_word v.lanes p))) here_b ∙ ap is_run can.undescribed in
      and_from (is_chunk v.lanes (b / 512)) (not (eqb (b % 512) 0 && is_run (slice_index v.words (descriptor_word v.lanes (b / 512)))))
      (ap (is_chunk v.lanes) here_b ∙ chunk_is v.lanes page chunk)
      (not_from_false (eqb (b % 512) 0 && is_run (slice_index v.words (descriptor_word v.lanes (b / 512)))) (and_right (eqb (b % 512) 0) (is_run (slice_index v.words (descriptor_word v.lanes (b / 512)))) run))

  may_clear : (m : View) → IsRoomy v m → HasRoom m.changes → MayStore m b 0
  may_clear m of room = subst (λ z. MayStore z b 0) (sym of.same) (may m.changes m.calls room) where
    may : (changes : List Change) (calls : ℕ) → HasRoom changes → MayStore (record v { changes = changes; calls = calls }) b 0
    may changes calls has =
        let z : View = record v { changes = changes; calls = calls } in
        record {
          inside = inside_b;
          room = has;
          fits = subst (λ part. StoreFits z b 0 v.log.phase part) (sym (other_part v.lane b out_b))
              (subst (λ phase. StoreFits z b 0 phase OtherWord) (sym working.is_open) (inr (inl (record { reserved = chunk_reserved v page b chunk can.reserved (told_here v.lanes page chunk b here_b); plain = plain }))));
        }

  abbrev Cleared : View → Type 0
  Cleared = IsPersisted v b 0

  abbrev Described : View → Type 0
  Described y = (z : View) × (Cleared z × IsPersisted z d x y)

  module _ (words known : List ℕ) (changes : List Change) (calls : ℕ) where
    abbrev z : View
    z = record v { words = words; known = known; changes = changes; calls = calls }

    module _ (p : Cleared z) where
      size_z : length words ≡ length v.words
      size_z = p.call.lane.size

      may_describe : (m : View) → IsRoomy z m → HasRoom m.changes → MayStore m d x
      may_describe m of room = subst (λ u. MayStore u d x) (sym of.same) (may m.changes m.calls room drained) where
        drained : All (λ (c : Change). c.word ≢ b) m.changes
        drained = untouched (λ w. eqb (w / 8) (b / 8)) m.changes (of.of_none (λ w. eqb (w / 8) (b / 8)) (p.clean (b / 8) (inl refl))) (λ (c : Change). c.word ≢ b)
            (λ c none same. absurd (false≢true (sym none ∙ eq-eqb (c.word / 8) (b / 8) (ap (λ w. w / 8) same))))

        may : (more : List Change) (n : ℕ) → HasRoom more → All (λ (c : Change). c.word ≢ b) more → MayStore (record z { changes = more; calls = n }) d x
        may more n has none =
            let u : View = record z { changes = more; calls = n } in
            record {
              inside = (let e = size_z in let low = inside_d in omega (arith, e, low));
              room = has;
              fits = subst (λ part. StoreFits u d x v.log.phase part) (sym (other_part v.lane d out_d))
                  (subst (λ phase. StoreFits u d x phase OtherWord) (sym working.is_open) (inr (inr (record {
                    page = page;
                    chunk = chunk;
                    at = refl;
                    reserved = can.reserved;
                    undescribed = p.others d apart ∙ can.undescribed;
                    known = p.knows (or_right (is_in_area v.lane b || list_any (is_under b) v.locks) (is_reserved v b) (chunk_reserved v page b chunk can.reserved (told_here v.lanes page chunk b here_b)));
                    no_block = p.there;
                    drained = none;
                    lines = lines;
                    some_blocks = can.class;
                    is = refl;
                  }))));
            }

      describes_it : Goes (Is z) (stores_persistent d x) (IsPersisted z d x)
      describes_it = goes_persistent z p.working d x (let e = size_z in let low = inside_d in omega (arith, e, low)) out_d may_describe

      -- ---- its blocks in place of the chunk

      module _ (words' known' : List ℕ) (changes' : List Change) (calls' : ℕ) where
        abbrev y : View
        y = record v { words = words'; known = known'; changes = changes'; calls = calls' }

        module _ (q : IsPersisted z d x y) where
          abbrev place : ℕ
          place = 4096 * page

          here : place / 4096 ≡ page
          here = omega arith

          size_y : length words' ≡ length v.words
          size_y = q.call.lane.size ∙ size_z

          made : is_made y (place / 4096) ≡ true
          made = ap (is_made y) here ∙ and_from (has_chunk v page) (is_run (slice_index words' d)) can.reserved (ap is_run q.there ∙ eq-eqb (x % 256) 1 (omega arith))

          abbrev whole_run : Taken
          whole_run = record { at = run_at page; bits = 2 ^ blocks_of lines - 1 }

          lines_are : slice_index words' (descriptor_word v.lanes (place / 4096)) / 256 ≡ lines
          lines_are = ap (λ n. slice_index words' (descriptor_word v.lanes n) / 256) here ∙ (ap (λ n. n / 256) q.there ∙ (let e : x / 256 ≡ lines = omega arith in e))

          exchanged_is : exchanged y (run_at page) ≡ without_chunk v page ++ whole_run ∷ []
          exchanged_is =
              cond-true (is_made y (place / 4096)) (without_taken (zone_at v.lanes (place / 4096)) (2 ^ chunk_bit v.lanes (place / 4096)) v.reserved ++ all_of_run y place ∷ []) v.reserved made
              ∙ (ap (λ n. without_taken (zone_at v.lanes n) (2 ^ chunk_bit v.lanes n) v.reserved ++ all_of_run y place ∷ []) here
              ∙ ap (λ n. let t : Taken = record { at = run_at page; bits = 2 ^ blocks_of n - 1 } in without_chunk v page ++ t ∷ []) lines_are)

          touches_none : touches_chunk v.lanes page changes' ≡ false
          touches_none = q.of_none (λ w. eqb (page_told v.lanes w) page) (p.of_none (λ w. eqb (page_told v.lanes w) page) can.drained)

          -- nothing undrained is covered by what is of the chunk alone
          beside : (cover : ℕ → Bool) → ((w : ℕ) → cover w ≡ true → page_told v.lanes w ≡ page) → All (λ (c : Change). cover c.word ≡ false) changes'
          beside cover tells = untouched (λ w. eqb (page_told v.lanes w) page) changes' touches_none (λ (c : Change). cover c.word ≡ false)
              (λ c none. false_from_ne_true (cover c.word) (λ e. false≢true (sym none ∙ eq-eqb (page_told v.lanes c.word) page (tells c.word e))))

          in_run : (w : ℕ) → covers v.lanes words' (run_at page) bits w ≡ true → w / 512 ≡ page
          in_run w e =
              let t = and_parts (eqb (w / 512) (place / 4096) && leb 8 (w % 512)) (eqb (bit_at bits ((w % 512 / 8 - 1) / (slice_index words' (descriptor_word v.lanes (place / 4096)) / 256))) 1) e in
              eqb-true (w / 512) (place / 4096) (and_parts (eqb (w / 512) (place / 4096)) (leb 8 (w % 512)) t.0).0 ∙ here

          has_it : HasOcc y (run_at page)
          has_it = record {
            of_pool = (omega arith, subst (IsChunk v.lanes) (sym here) chunk, (let below = can.of_pool.1 in omega (arith, below)));
            inside = (let e = size_y in let below = can.of_pool.1 in let size = can.size in omega (arith, e, below, size));
          }

          may_vacate : MayVacate y (run_at page) bits
          may_vacate = record {
            there = has_it;
            small = behind_small lines can.class;
            own = λ bit set. inl (
                ap (list_any (has_bit (run_at page) bit)) exchanged_is
                ∙ (list_any-append (has_bit (run_at page) bit) (without_chunk v page) (whole_run ∷ [])
                ∙ or_right (list_any (has_bit (run_at page) bit) (without_chunk v page)) (list_any (has_bit (run_at page) bit) (whole_run ∷ []))
                (or_left (has_bit (run_at page) bit whole_run) false (bit_had whole_run bit (behind_one lines can.class bit set)))));
            whole = λ so. beside (covers v.lanes words' (zone_at v.lanes (place / 4096)) (2 ^ chunk_bit v.lanes (place / 4096)))
                (λ w e. covers_chunk v.lanes page chunk words' w (subst (λ n. covers v.lanes words' (zone_at v.lanes n) (2 ^ chunk_bit v.lanes n) w ≡ true) here e));
            drained = beside (covers v.lanes words' (run_at page) bits) (λ w e. told_here v.lanes page chunk w (in_run w e));
            unlogged = λ w e. can.unlogged w (in_run w e);
            early = subst IsEarly (sym working.is_open) tt;
          }

          abbrev w : View
          w = after y (Vacate (run_at page) bits)

          -- of the run the first block is left
          left_first : without_taken (run_at page) bits (without_chunk v page ++ whole_run ∷ []) ≡ without_chunk v page ++ first_block page ∷ []
          left_first =
              ap (filter some) (map-append give (without_chunk v page) (whole_run ∷ []))
              ∙ (filter-append some (map give (without_chunk v page)) (give whole_run ∷ [])
              ∙ (ap (λ (ts : List Taken). filter some ts ++ filter some (give whole_run ∷ [])) kept_as ∙ ap (λ (ts : List Taken). ts ++ filter some (give whole_run ∷ [])) (filtered some (map (lose (zone_at v.lanes page) (2 ^ chunk_bit v.lanes page) page) v.reserved))
              ∙ ap (λ (t : Taken). without_chunk v page ++ filter some (t ∷ [])) given_as)) where
                some : Taken → Bool
                some t = not (eqb t.bits 0)

                give : Taken → Taken
                give t = cond (is_same_occ (run_at page) t.at) (record t { bits = bit_and t.bits (bit_not w64 bits) }) t

                apart_all : All (λ (t : Taken). is_same_occ (run_at page) t.at ≡ false) (without_chunk v page)
                apart_all = none_of_run (zone_at v.lanes page) (2 ^ chunk_bit v.lanes page) page (λ at. refl) v.reserved can.no_block

                kept_as : map give (without_chunk v page) ≡ without_chunk v page
                kept_as = mapped_same give (λ t. is_same_occ (run_at page) t.at) (λ t none. cond-false (is_same_occ (run_at page) t.at) (record t { bits = bit_and t.bits (bit_not w64 bits) }) t none) (without_chunk v page) apart_all

                given_as : give whole_run ≡ first_block page
                given_as =
                    cond-true (is_same_occ (run_at page) (run_at page)) (record whole_run { bits = bit_and whole_run.bits (bit_not w64 bits) }) whole_run (eq-eqb place place refl)
                    ∙ ap (λ n. let t : Taken = record { at = run_at page; bits = n } in t) (first_left lines can.class)

          -- what it may write it holds still
          written_held : (u : ℕ) → is_written y u ≡ true → is_held w u ≡ true
          written_held u e =
              let t = Any-from_list_any (λ (l : Lock). l.write && is_some l.block && is_under u l) v.locks e in
              or_left (is_in_area v.lane u || list_any (is_under u) v.locks) (is_reserved w u)
              (or_right (is_in_area v.lane u) (list_any (is_under u) v.locks) (list_any_at (is_under u) v.locks t.0 t.1 t.2 (ap (is_under u) t.3 ∙ (and_parts (t.1.write && is_some t.1.block) (is_under u t.1) t.4).1)))

          known_still : (u : ℕ) → is_known y u ≡ true → is_held w u ≡ true → is_known w u ≡ true
          known_still u e held =
              ⊎_elim (λ (area : is_in_area v.lane u ≡ true). or_left (is_in_area v.lane u) (is_among w.known u) area)
              (λ (there : is_among known' u ≡ true). or_right (is_in_area v.lane u) (is_among w.known u) (passes (is_held w) u known' held there))
              (or_cases (is_in_area v.lane u) (is_among known' u) e)

          works : IsWorking w
          works =
              let at_work : IsWorking y = q.working in
              record {
                is_open = at_work.is_open;
                undrawn = at_work.undrawn;
                area = record { lane = at_work.area.lane; few = at_work.area.few; inside = at_work.area.inside; below = at_work.area.below };
                records = record {
                  most = at_work.records.most;
                  stored = at_work.records.stored;
                  some = at_work.records.some;
                  few = at_work.records.few;
                  each = λ slot r u there covering. let user = at_work.records.each slot r u there covering in
                      record { own = user.own; known = known_still u user.known (written_held u user.own); outside = user.outside; inside = user.inside };
                  once = at_work.records.once;
                };
                drained = at_work.drained;
              }

          clean : (k : ℕ) → (k ≡ d / 8) ⊎ (is_unflushed v.changes k ≡ false) → list_any (is_in_line k) changes' ≡ false
          clean k fine = q.clean k (⊎_elim (λ (this : k ≡ d / 8). inl this) (λ (none : is_unflushed v.changes k ≡ false). inr (clean_drained k changes (ap not (p.clean k (inr none))))) fine)

          run_made : IsRunMade v page lines w
          run_made = record {
            same = refl;
            size = size_y;
            working = works;
            described = q.there;
            no_block = q.others b (λ same. apart (sym same)) ∙ p.there;
            others = λ u other beside_it. q.others u other ∙ p.others u beside_it;
            known = λ u e. known_still u (q.call.known u (p.call.known u e));
            reserved = ap (without_taken (run_at page) bits) exchanged_is ∙ left_first;
            freed = refl;
            occupied = ap (λ n. slice_set v.run_words n (vacated_word bits (slice_index v.run_words n))) here;
            drained = touches_none;
            clean = clean;
            beside = λ t none. q.of_none t (p.of_none t none);
            calls = λ room. let one = p.calls room in let two = q.calls one.1 in let first = one.0 in let second = two.0 in omega (arith, first, second);
          }

  describes_then : Goes Cleared (stores_persistent d x) Described
  describes_then z p =
      let words : List ℕ = z.words in
      let z' : View = record v { words = z.words; known = z.known; changes = z.changes; calls = z.calls } in
      let p' : Cleared z' = subst Cleared p.same p in
      let r = describes_it z.words z.known z.changes z.calls p' z' refl in
      subst (λ t. Ready t (stores_persistent d x t) × Described (after_all t (stores_persistent d x t))) (sym p.same) (r.0, (z', (p', r.1)))

  keeps_then : Goes Described (keeps_first page lines) (IsRunMade v page lines)
  unfolding keeps_first
  keeps_then = goes_one Described (IsRunMade v page lines) (Vacate (run_at page) bits) (λ y at.
      let z : View = at.0 in
      let p : Cleared z = at.1.0 in
      let z' : View = record v { words = z.words; known = z.known; changes = z.changes; calls = z.calls } in
      let p' : Cleared z' = subst Cleared p.same p in
      let q : IsPersisted z' d x y = subst (λ t. IsPersisted t d x y) p.same at.1.1 in
      let y' : View = record v { words = y.words; known = y.known; changes = y.changes; calls = y.calls } in
      let q' : IsPersisted z' d x y' = subst (IsPersisted z' d x) q.same q in
      subst (λ t. Allowed t (Vacate (run_at page) bits) × IsForeseen t (Vacate (run_at page) bits) × IsRunMade v page lines (after t (Vacate (run_at page) bits))) (sym q.same)
      (may_vacate z.words z.known z.changes z.calls p' y.words y.known y.changes y.calls q', tt, run_made z.words z.known z.changes z.calls p' y.words y.known y.changes y.calls q'))

  pub make_lawful : Ready v (makes_run v.lanes page lines v) × IsRunMade v page lines (after_all v (makes_run v.lanes page lines v))
  unfolding makes_run
  make_lawful =
      goes_then (Is v) Cleared (IsRunMade v page lines) (stores_persistent b 0) (in_turn (stores_persistent d x) (keeps_first page lines))
      (goes_persistent v working b 0 inside_b out_b may_clear)
      (goes_then Cleared Described (IsRunMade v page lines) (stores_persistent d x) (keeps_first page lines) describes_then keeps_then) v refl
