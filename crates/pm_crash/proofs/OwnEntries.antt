-- What a lane's entries so far make of the heap: its blocks change as a heap's may, objects stand where it
-- knows, and blocks that stay keep their headers.
use Rattle.std.proofs.Common.{◌≡◌, ◌≢◌, ⊎_elim, ℕ, zero, suc, ◌+◌, ◌*◌, ◌/◌, ◌%◌, ◌<◌, nat_lt, ◌&&◌, ◌==◌, not, Bool, true, false, List, [], refl, sym, ◌∙◌, ap, subst, arith}
use Rattle.std.specs.List.{list_any}
use Rattle.std.proofs.lemmas.Bool.{and_from, and_parts, both_ways, cases_eq, cond-false, cond-true, false_from_ne_true, le-leb, lt-ltb, ltb-true, or_cases, or_left, or_right}
use Rattle.std.proofs.lemmas.List.Folds.{list_any-append}
use Rattle.pm_header.specs.declared.header.Header.{Header}
use Rattle.pm_layout.specs.Chunks.{chunks_of, line_of_chunk}
use Rattle.pm_layout.specs.Sizes.{blocks_of}
use Rattle.pm_layout.specs.declared.shape.Shape.{Shape}
use Rattle.pm_objects.specs.declared.pool.PoolView.{PoolView}
use Rattle.pm_image.specs.Blocks.{chunk_word}
use Rattle.pm_image.proofs.Rooms.{run_fits}
use Rattle.pm_model.specs.Blocks.{Block as Placed}
use Rattle.pm_model.specs.Pending.{blocks_reserved}
use Rattle.pm_view.specs.Claims.{class}
use Rattle.pm_view.specs.Entries.{Entry, turn}
use Rattle.pm_view.specs.Places.{Place, InRun, InHuge, Descr, RootWord, Block, Small, Big, Root}
use Rattle.pm_view.specs.View.{View}
use Rattle.pm_world.specs.Lanes.{is_occupancy}
use Rattle.pm_world.specs.States.{State, Diff, given, over, val}
use Rattle.pm_world.proofs.Replays.{over_none}
use Rattle.pm_crash.specs.Calls.{pending_after, pending_of}
use Rattle.pm_crash.specs.Footprints.{has_found, has_own}
use Rattle.pm_crash.specs.HeapChanges.{ChangesBlocks, Makes}
use Rattle.pm_crash.specs.Looked.{ChangesAt, Enters, IsChanged, IsObject, StandsNow, word_place, words_in}
use Rattle.pm_crash.specs.Objects.{IsGoodHeap, IsWhole, is_allocated, lines_of, offset_of}
use Rattle.pm_crash.specs.OwnBlocks.{MakesOwnBlocks, own_span}
use Rattle.pm_crash.specs.Sim.{made_after, Agrees, bits_now, blocks_kept, change_so_far, is_kept_block, known_offset}
use Rattle.pm_crash.specs.Spelled.{Holds, has_blocks, number, words_by}
use Rattle.pm_crash.proofs.ChangedHeaps as heaps
use Rattle.pm_crash.proofs.ChangedHeaps.{next_times, option_cases}
use Rattle.pm_crash.proofs.GoodBits.{held_good}
use Rattle.pm_crash.proofs.Numbers.{number_high}
use Rattle.pm_crash.proofs.OwnBlocks.{own_free}
use Rattle.pm_crash.proofs.Spelling.{chunk_spelled, number_is, with_block}

-- a block that the call made is to be an object, whatever becomes of what is pending
made_is_kept : (p : Placed → Bool) (v : View) (kept : Bool) → list_any p (blocks_kept false v) ≡ true → list_any p (blocks_kept kept v) ≡ true
made_is_kept p v false e = e
made_is_kept p v true e =
    let made : List Placed = made_after v.call (pending_of v.entries) in
    let reserved : List Placed = blocks_reserved (pending_after v.call (pending_of v.entries)) in
    list_any-append p made reserved
    ∙ or_left (list_any p made) (list_any p reserved) (⊎_elim
    (λ (t : list_any p made ≡ true). t)
    (λ (f : false ≡ true). absurd (both_ways false refl f))
    (or_cases (list_any p made) false (sym (list_any-append p made []) ∙ e)))

pub kept_more : (v : View) (kept : Bool) (B : Block) → is_kept_block v false B ≡ true → is_kept_block v kept B ≡ true
kept_more v kept B t =
    let p : Placed → Bool = λ b. b.off == known_offset v B in
    let y = and_parts (has_own v B) (list_any p (blocks_kept false v)) t in
    and_from (has_own v B) (list_any p (blocks_kept kept v)) y.0 (made_is_kept p v kept y.1)

pub kept_is_own : (v : View) (kept : Bool) (B : Block) → is_kept_block v kept B ≡ true → has_own v B ≡ true
kept_is_own v kept B t = (and_parts (has_own v B) (list_any (λ (b : Placed). b.off == known_offset v B) (blocks_kept kept v)) t).0

not_from_false : (b : Bool) → b ≡ false → not b ≡ true
not_from_false b e = ap not e

-- a word of a run that is not its bitmap
pub changed_word : (v : View) (d : Diff) (c w : ℕ) → 0 < w → ChangesAt v d (InRun c w) → IsChanged v (InRun c w)
changed_word v d c zero low y = absurd (omega arith)
changed_word v d c (suc w) low y = y

abbrev pub chunk_in : Place → ℕ
chunk_in (InRun c w) = c
chunk_in (InHuge c w) = c
chunk_in (Descr c) = c
chunk_in RootWord = 0

abbrev pub word_in : Place → ℕ
word_in (InRun c w) = w
word_in (InHuge c w) = w
word_in (Descr c) = 0
word_in RootWord = 0

module _ (v : View) (entries : List Entry) (kept : Bool) (classes : ℕ → ℕ) (s : State) (header : Header) (pool : PoolView)
    (holds : Holds v.fixed.shape classes s header pool) (x : Agrees classes v kept s) (en : Enters v entries) where
  abbrev sh : Shape
  sh = v.fixed.shape

  abbrev d : Diff
  d = change_so_far v entries

  abbrev now : State
  now = bits_now v entries s

  -- ---- BLOCKS

  descriptor_now : (f : ℕ) → Makes d (Big f) → number (now (Descr f)) ≡ 2 + 256 * own_span v f
  descriptor_now f m = number_is (now (Descr f)) (2 + 256 * own_span v f) (let z = (en.of_zone f m).2 in omega arith)
      (λ b l. ap (λ o. over o (s (Descr f) b)) (en.says f b m l))

  makes_own : MakesOwnBlocks v (is_kept_block v kept) s d
  makes_own = record {
    makes = λ B m. (kept_more v kept B (en.makes B m), kept_is_own v false B (en.makes B m));
    frees = en.frees;
    inside = λ c i m. (en.of_run c i m).1;
    in_pool = λ f m. (en.of_zone f m).0;
    in_zone = λ f m. (en.of_zone f m).2;
    some = λ f m. (en.of_zone f m).1;
    low = λ f m. let e = descriptor_now f m in omega arith;
    spans = λ f m. number_high (now (Descr f)) ∙ (let e = descriptor_now f m in omega arith);
    no_run = en.no_run;
    no_other = en.no_other;
  }

  pub changes_blocks : ChangesBlocks sh classes s d
  changes_blocks = own_free v (is_kept_block v kept) classes s d header pool holds x makes_own

  pub descriptors : (f b : ℕ) → given (turn d (Big f)) ≡ false → given (d (Descr f) b) ≡ false
  descriptors f b none = false_from_ne_true (given (d (Descr f) b)) (λ t. both_ways (given (turn d (Big f))) none (en.changes (Descr f) b t))

  good : IsGoodHeap sh classes s
  good = held_good sh classes s header pool holds

  pub before_now : (B : Block) → is_occupancy sh B ≡ true → is_allocated sh now B ≡ over (turn d B) (is_allocated sh s B)
  before_now B o = heaps.blocks_change sh classes s d changes_blocks descriptors good B o

  pub found_before : (B : Block) → is_occupancy sh B ≡ true → has_found v B ≡ true → is_allocated sh s B ≡ true
  found_before (Small c i) o t = and_from (is_occupancy sh (Small c i)) (s (InRun c 0) i) o (x.found (Small c i) t)
  found_before (Big f) o t = and_from (nat_lt f (chunks_of sh)) (not (has_blocks s f) && s (Descr f) 1) o
      (and_from (not (has_blocks s f)) (s (Descr f) 1) (not_from_false (has_blocks s f) (x.whole f t)) (x.found (Big f) t))
  found_before Root o t = absurd (both_ways false refl o)

  pub object_now : (B : Block) → IsObject v entries B → is_allocated sh now B ≡ true
  object_now B y = before_now B y.inside ∙ ⊎_elim
      (λ (f : (has_found v B ≡ true) × (given (turn d B) ≡ false)). over_none (turn d B) (is_allocated sh s B) f.1 ∙ found_before B y.inside f.0)
      (λ (m : Makes d B). ap (λ o. over o (is_allocated sh s B)) m)
      y.stands

  pub same_class : (c i : ℕ) → StandsNow v entries (Small c i) → classes c ≡ class v.claims c
  same_class c i y = x.class c i (⊎_elim
      (λ (f : (has_found v (Small c i) ≡ true) × (given (turn d (Small c i)) ≡ false)). or_left (has_found v (Small c i)) (is_kept_block v kept (Small c i)) f.0)
      (λ (m : Makes d (Small c i)). or_right (has_found v (Small c i)) (is_kept_block v kept (Small c i)) (kept_more v kept (Small c i) (en.makes (Small c i) m)))
      y)

  pub run_inside : (c i : ℕ) → is_allocated sh now (Small c i) ≡ true → i < blocks_of (classes c)
  run_inside c i a =
      let y = and_parts (is_occupancy sh (Small c i)) (now (InRun c 0) i) a in
      let z = and_parts (nat_lt c (chunks_of sh)) (nat_lt i 64) y.0 in
      heaps.runs sh classes s d changes_blocks descriptors good c i (ltb-true c (chunks_of sh) z.0) (ltb-true i 64 z.1) y.1

  pub same_span : (f : ℕ) → StandsNow v entries (Big f) → val (now (Descr f)) 8 56 ≡ own_span v f
  same_span f y = ⊎_elim
      (λ (t : (has_found v (Big f) ≡ true) × (given (turn d (Big f)) ≡ false)).
      ap (λ w. val w 8 56) (λ i b. over_none (d (Descr f) b) (s (Descr f) b) (descriptors f b t.1) i) ∙ x.spans f t.0)
      (λ (m : Makes d (Big f)). makes_own.spans f m)
      y

  pub huge_now : (f : ℕ) → is_allocated sh now (Big f) ≡ true → (f < chunks_of sh) × (has_blocks now f ≡ false) × IsWhole now f
  huge_now f a =
      let y = and_parts (nat_lt f (chunks_of sh)) (not (has_blocks now f) && now (Descr f) 1) a in
      let z = and_parts (not (has_blocks now f)) (now (Descr f) 1) y.1 in
      let l = ltb-true f (chunks_of sh) y.0 in
      let e = Rattle.std.proofs.lemmas.Bool.not-true (has_blocks now f) z.0 in
      (l, e, heaps.whole sh classes s d changes_blocks descriptors good f l e z.1)

  -- ---- WHERE THEY LIE

  pub same_offset : (B : Block) → IsObject v entries B → offset_of sh classes now B ≡ known_offset v B
  same_offset (Small c i) y = ap (λ n. 8 * chunk_word sh.lanes c + 64 * (1 + n * i) + 64) (same_class c i y.stands)
      ∙ (let m : ℕ = class v.claims c * i in let e : 8 * chunk_word sh.lanes c + 64 * (1 + m) + 64 ≡ 64 * (line_of_chunk sh c + (1 + m)) + 64 = omega arith in e)
  same_offset (Big f) y = omega arith
  same_offset Root y = absurd (both_ways false refl y.inside)

  -- word k of it
  pub word_now : (B : Block) (k : ℕ) → IsObject v entries B → k < words_in v B
      → words_by sh classes now ((lines_of sh classes now B).place / 8 + k) ≡ number (now (word_place v B k))
  word_now (Small c i) k y low =
      let a = object_now (Small c i) y in
      let p = and_parts (is_occupancy sh (Small c i)) (now (InRun c 0) i) a in
      let q = and_parts (nat_lt c (chunks_of sh)) (nat_lt i 64) p.0 in
      let e = same_class c i y.stands in
      let inside = run_inside c i a in
      let fit = run_fits (classes c) i inside in
      let m : ℕ = classes c * i in
      let cl : ℕ = classes c in
      let few : k < 8 * cl = subst (λ n. k < 8 * n) (sym e) low in
      let r : ℕ = 8 * (1 + m) + k in
      let is : (lines_of sh classes now (Small c i)).place / 8 + k ≡ chunk_word sh.lanes c + r = omega arith in
      ap (words_by sh classes now) is
      ∙ (chunk_spelled sh classes now c r (ltb-true c (chunks_of sh) q.0) (omega arith)
      ∙ (ap (λ u. number (now u)) (cond-true (has_blocks now c) (InRun c r) (InHuge c r) (with_block now c i (ltb-true i 64 q.1) p.1))
      ∙ ap (λ n. number (now (InRun c (8 * (1 + n * i) + k)))) e))
  word_now (Big f) k y low =
      let h = huge_now f (object_now (Big f) y) in
      let n = same_span f y.stands in
      let zone = h.2.in_zone in
      let inside = h.0 in
      let g : ℕ = f + k / 512 in
      let is : (lines_of sh classes now (Big f)).place / 8 + k ≡ chunk_word sh.lanes g + k % 512 = omega arith in
      let none : has_blocks now g ≡ false = ⊎_elim
      (λ (e : g ≡ f). subst (λ (u : ℕ). has_blocks now u ≡ false) (sym e) h.1)
      (λ (ne : g ≢ f). (h.2.rest g (omega arith) (omega arith)).0)
      (cases_eq g f) in
      ap (words_by sh classes now) is
      ∙ (chunk_spelled sh classes now g (k % 512) (omega arith) (omega arith)
      ∙ ap (λ u. number (now u)) (cond-false (has_blocks now g) (InRun g (k % 512)) (InHuge g (k % 512)) none))
  word_now Root k y low = absurd (both_ways false refl y.inside)
