-- A block that is gone leaves no object at its offset; an offset is one block's alone.
use Rattle.std.proofs.Common.{◌≡◌, ◌≢◌, ⊎_elim, ℕ, zero, suc, ◌*◌, ◌%◌, ◌<◌, ◌≤◌, nat_lt, cond, not, ◌==◌, ◌&&◌, Bool, true, false, Option, Some, None, refl, sym, ◌∙◌, ap, subst, arith, eq-eqb}
use Rattle.std.proofs.lemmas.Bool.{and_from, and_parts, both_ways, cases_lt, lt-ltb, ltb-true, not-true, or_left}
use Rattle.pm_header.specs.declared.header.Header.{Header}
use Rattle.pm_layout.specs.Chunks.{chunks_of}
use Rattle.pm_layout.specs.Sizes.{block_place, blocks_of}
use Rattle.pm_layout.specs.declared.shape.Shape.{Shape}
use Rattle.pm_objects.specs.Pool.{object_at}
use Rattle.pm_objects.specs.declared.pool.Object.{Object}
use Rattle.pm_objects.specs.declared.pool.PoolView.{PoolView}
use Rattle.pm_image.specs.declared.block.Block.{Block as Placed}
use Rattle.pm_image.specs.Blocks.{chunk_word}
use Rattle.pm_image.specs.Contents.{offset_in}
use Rattle.pm_image.proofs.Rooms.{run_fits}
use Rattle.pm_view.specs.Claims.{class}
use Rattle.pm_view.specs.Places.{InRun, Descr, Block, Small, Big, Root}
use Rattle.pm_world.specs.Causes.{Causes, stands}
use Rattle.pm_world.specs.Crash.{is_decided_in, is_kept}
use Rattle.pm_world.specs.Lanes.{is_occupancy}
use Rattle.pm_world.specs.Memory.{Memory, bit, cells_of}
use Rattle.pm_world.specs.Sights.{sight_of}
use Rattle.pm_world.specs.States.{State, Word, val}
use Rattle.pm_world.specs.World.{Opening, Views, Past, World}
use Rattle.pm_world.proofs.CausesKept as kept
use Rattle.pm_world.proofs.Crashes.{some_lane}
use Rattle.pm_world.proofs.Frame.{not_making}
use Rattle.pm_world.proofs.Values.{val_from}
use Rattle.pm_crash.specs.Answers.{CausesBearReports, ImagesLackObject, IsOffsetOf, KnownClassesHold, MissedIsGone, NoBlockNoObject, RunsHaveCauses, has_block, offset_by}
use Rattle.pm_crash.specs.Footprints.{KeepsDecided, kept_bits}
use Rattle.pm_crash.specs.Objects.{IsGoodHeap, is_allocated, offset_of}
use Rattle.pm_crash.specs.Replayed.{HoldsReplay}
use Rattle.pm_crash.specs.Spelled.{has_blocks, number, words_by}
use Rattle.pm_crash.proofs.BitsBlocks as told
use Rattle.pm_crash.proofs.Classes.{run_has_lines}
use Rattle.pm_crash.proofs.GoodBits.{held_good}
use Rattle.pm_crash.proofs.ItemsOfBits.{one_start, same_index}
use Rattle.pm_crash.proofs.Numbers.{number_bit}
use Rattle.pm_crash.proofs.ObjectsOfBlocks.{block_is_there}
use Rattle.pm_crash.proofs.Replaying.{history_holds}
use Rattle.pm_crash.proofs.Spelling.{same_number}

-- ---- ONE OFFSET, ONE BLOCK

module _ (sh : Shape) (class : ℕ → ℕ) where
  inside : (c i : ℕ) → has_block sh class (Small c i) ≡ true → i < blocks_of (class c)
  inside c i h = ltb-true i (blocks_of (class c)) (and_parts (nat_lt c (chunks_of sh)) (nat_lt i (blocks_of (class c))) h).1

  pub offsets_apart : (B C : Block) → has_block sh class B ≡ true → has_block sh class C ≡ true
      → offset_by sh class B ≡ offset_by sh class C → B ≡ C
  offsets_apart (Small d i) (Small k j) a b e =
      let l = inside d i a in let m = inside k j b in
      let p : block_place (8 * chunk_word sh.lanes d) (class d) i ≡ block_place (8 * chunk_word sh.lanes k) (class k) j = omega arith in
      let same = one_start sh.lanes d k (class d) i (class k) j l m p in
      let some = run_has_lines (class d) i l in
      let q : class d * i ≡ class d * j = (let z : block_place (8 * chunk_word sh.lanes d) (class d) i ≡ block_place (8 * chunk_word sh.lanes d) (class d) j =
      p ∙ ap (λ n. block_place (8 * chunk_word sh.lanes n) (class n) j) (sym same) in
      let u : ℕ = class d * i in let v : ℕ = class d * j in omega arith) in
      ap (λ n. Small n i) same ∙ ap (Small k) (same_index (class d) i j some q)
  offsets_apart (Small d i) (Big f) a b e = absurd (let l = inside d i a in let z = run_fits (class d) i l in let some = run_has_lines (class d) i l in let p : ℕ = class d * i in omega arith)
  offsets_apart (Small d i) Root a b e = absurd (both_ways false refl b)
  offsets_apart (Big f) (Small d i) a b e = absurd (let l = inside d i b in let z = run_fits (class d) i l in let some = run_has_lines (class d) i l in let p : ℕ = class d * i in omega arith)
  offsets_apart (Big f) (Big k) a b e = ap Big (let z : 8 * chunk_word sh.lanes f ≡ 8 * chunk_word sh.lanes k = omega arith in omega arith)
  offsets_apart (Big f) Root a b e = absurd (both_ways false refl b)
  offsets_apart Root C a b e = absurd (both_ways false refl a)

-- ---- AN ALLOCATED BLOCK STANDS

low_byte : (f : Word) → val f 0 8 ≡ number f % 256
low_byte f = same_number f (bit (number f)) 0 8 (λ b l m. sym (number_bit f b (omega arith))) ∙ (val_from (number f) 0 8 ∙ omega arith)

module _ (sh : Shape) (class : ℕ → ℕ) (s : State) where
  offset_is : (B : Block) → offset_by sh class B ≡ offset_of sh class s B
  offset_is (Small c i) = refl
  offset_is (Big f) = refl
  offset_is Root = refl

  module _ (g : IsGoodHeap sh class s) where
    allocated_has : (B : Block) → is_allocated sh s B ≡ true → has_block sh class B ≡ true
    allocated_has (Small c i) a =
        let y = and_parts (is_occupancy sh (Small c i)) (true && s (InRun c 0) i) a in
        let z = and_parts (nat_lt c (chunks_of sh)) (nat_lt i 64) y.0 in
        and_from (nat_lt c (chunks_of sh)) (nat_lt i (blocks_of (class c))) z.0
        (lt-ltb i (blocks_of (class c)) (g.runs c i (ltb-true c (chunks_of sh) z.0) (ltb-true i 64 z.1) y.1))
    allocated_has (Big f) a = (and_parts (nat_lt f (chunks_of sh)) (not (has_blocks s f) && s (Descr f) 1) a).0
    allocated_has Root a = absurd (both_ways false refl a)

    allocated_stands : (B : Block) → is_allocated sh s B ≡ true → stands s B ≡ true
    allocated_stands (Small c i) a = (and_parts (is_occupancy sh (Small c i)) (true && s (InRun c 0) i) a).1
    allocated_stands (Big f) a =
        let y = and_parts (nat_lt f (chunks_of sh)) (not (has_blocks s f) && s (Descr f) 1) a in
        let z = and_parts (not (has_blocks s f)) (s (Descr f) 1) y.1 in
        let whole = g.whole f (ltb-true f (chunks_of sh) y.0) (not-true (has_blocks s f) z.0) z.1 in
        and_from (s (Descr f) 1) (val (s (Descr f)) 0 8 == 2) z.1 (eq-eqb (val (s (Descr f)) 0 8) 2 (low_byte (s (Descr f)) ∙ whole.low))
    allocated_stands Root a = absurd (both_ways false refl a)

-- ---- NO OBJECT AT AN OFFSET where none of its blocks stands

module _ (o : Opening) (g : Past) (keep : ℕ → Bool) (n : ℕ) (header : Header) (pool : PoolView)
    (r : HoldsReplay o g keep n header pool) (off : ℕ) where
  abbrev s : State
  s = kept_bits o g keep n

  none_stands : ((B : Block) → IsOffsetOf o g off B → stands (kept_bits o g keep n) B ≡ false)
      → object_at r.last.objects off ≡ None
  none_stands gone = by_object (object_at r.last.objects off) refl
    where
      by_object : (found : Option Object) → object_at r.last.objects off ≡ found → object_at r.last.objects off ≡ None
      by_object None e = e
      by_object (Some object) e =
          let sh = o.shape in let class = g.geo.class in
          let y = block_is_there (words_by sh class s) sh.lanes sh.zones off header r.last object r.holds e in
          let z = told.block_told sh class s y.block y.is_there in
          let good = held_good sh class s header r.last r.holds in
          let at : IsOffsetOf o g off z.of = record {
            is_block = allocated_has sh class s good z.of z.allocated;
            is_offset = offset_is sh class s z.of ∙ (ap (λ (b : Placed). offset_in b) z.lies ∙ sym y.is_offset);
          } in
          absurd (both_ways (stands s z.of) (gone z.of at) (allocated_stands sh class s good z.of z.allocated))

-- ---- WHAT A LANE KNOWS OF RUNS

module _ (o : Opening) (mem : Memory) (views : Views) (g : Past) (w : World o mem views g) (c : ℕ) where
  abbrev maker : ℕ → Bool
  maker j = (sight_of (views j)).hold.making c

  class_told : (n : ℕ) → (cells_of o.shape mem).descr c ≡ suc n → g.geo.class c ≡ suc n
  class_told n told = ⊎_elim
      (λ (y : (j : ℕ) × (maker j ≡ true)). sym ((w.bits.each_lane y.0).hold.making c y.1).1 ∙ told)
      (λ (y : (j : ℕ) → j < o.lanes → maker j ≡ false).
      let none : (j : ℕ) → maker j ≡ false = λ j. ⊎_elim (λ (l : j < o.lanes). y j l)
      (λ (out : o.lanes ≤ j). not_making (sight_of (views j)).hold c 0 (w.bits.beyond j out (Small c 0)).0) (cases_lt j o.lanes) in
      by_run (g.runs c) (sym (w.bits.descr c none) ∙ told))
      (some_lane maker o.lanes)
    where
      by_run : (t : Bool) → cond t (g.geo.class c) 0 ≡ suc n → g.geo.class c ≡ suc n
      by_run true e = e
      by_run false e = absurd (omega arith)

  known : (k n : ℕ) → class (views k).claims c ≡ n → n ≢ 0 → g.geo.class c ≡ n
  known k zero saw some = absurd (some refl)
  known k (suc n) saw some = class_told n ((w.bits.each_lane k).hold.seen c n saw)

-- ---- THE LAWS

pub classes_hold : KnownClassesHold
classes_hold o mem views g w k c some = known o mem views g w c k (class (views k).claims c) refl some

pub gone : MissedIsGone
gone o g lane c off B cause at = record {
  number = cause.entries;
  least = λ p l q. let z = cause.least p l q in omega arith;
  below = let z = cause.most in omega arith;
  none = λ keep d header pool r. none_stands o g keep cause.entries header pool r off (λ C other.
      subst (λ D. stands (kept_bits o g keep cause.entries) D ≡ false)
      (offsets_apart o.shape g.geo.class B C at.is_block other.is_block (at.is_offset ∙ sym other.is_offset))
      (cause.gone keep d));
}

pub no_block : NoBlockNoObject
no_block o g off none number keep d header pool r =
    none_stands o g keep number header pool r off (λ B at. absurd (none B at))

pub images : ImagesLackObject
images o views g header pool image fp facts opens lane c off l cause =
    let keep : ℕ → Bool = is_kept o views g image in
    let d : KeepsDecided g keep = λ n l e. or_left (g.decided n) (is_decided_in image views o.lanes n) e in
    let b = cause.below in
    let r = history_holds o views g header pool fp facts opens keep d cause.number (omega arith) in
    record { last = r.last; replay = r.replay; none = cause.none keep d header pool r }

pub causes : CausesBearReports
causes o mem views g c = record {
  busy = c.busy;
  no_object = λ k n v ink is B counts off at. gone o g k n off B (c.no_object k n v ink is B counts) at;
  no_space = c.no_space;
}

pub runs : RunsHaveCauses
runs o fixed generation turns old new w taken none idle run =
    causes o new.mem new.views new.past (kept.runs o turns old new w
    (subst (λ (vs : Views). Causes o old.mem vs old.past) (sym idle) (kept.begin o old.mem fixed generation old.past taken none)) run)
