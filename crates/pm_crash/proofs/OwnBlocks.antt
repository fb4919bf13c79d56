-- What a lane has for its own is free in all bits that may precede its call.
use Rattle.std.proofs.Common.{◌≡◌, ⊎_elim, ℕ, ◌+◌, ◌*◌, ◌<◌, ◌≤◌, nat_le, nat_lt, Bool, true, false, Some, refl, sym, ◌∙◌, ap, subst, arith}
use Rattle.std.proofs.lemmas.Bool.{and_from, both_ways, false_from_ne_true, le-leb, lt-ltb, or_right}
use Rattle.pm_header.specs.declared.header.Header.{Header}
use Rattle.pm_layout.specs.Chunks.{chunks_of, line_of_chunk}
use Rattle.pm_layout.specs.Sizes.{blocks_of}
use Rattle.pm_layout.specs.declared.shape.Shape.{Shape}
use Rattle.pm_objects.specs.declared.pool.PoolView.{PoolView}
use Rattle.pm_image.proofs.Rooms.{run_fits}
use Rattle.pm_view.specs.Claims as claims
use Rattle.pm_view.specs.Places.{Block, Small, Big, Root, InRun, Descr, in_span}
use Rattle.pm_view.specs.View.{View}
use Rattle.pm_world.specs.BlockLines.{AllocatedHas, IsInChunk, IsInSmall, OwnHas}
use Rattle.pm_world.specs.Sights.{sight_of}
use Rattle.pm_world.specs.States.{State, Diff, after_diff, given, over, val}
use Rattle.pm_world.proofs.Replays.{over_none}
use Rattle.pm_crash.specs.Footprints.{MayPrecedeBut, geometry_of, has_found}
use Rattle.pm_crash.specs.HeapChanges.{ChangesBlocks, Makes}
use Rattle.pm_crash.specs.Objects.{IsGoodHeap, IsWhole}
use Rattle.pm_crash.specs.OwnBlocks.{MakesOwnBlocks, OwnBlocksAreFree, own_span}
use Rattle.pm_crash.specs.Spelled.{Holds, has_blocks}
use Rattle.pm_crash.proofs.ChangedHeaps.{next_times, option_cases}
use Rattle.pm_crash.proofs.Classes.{run_has_lines}
use Rattle.pm_crash.proofs.GoodBits.{held_good}
use Rattle.pm_crash.proofs.Spelling.{some_block, with_block}

module _ (v : View) (own_of : Block → Bool) (class : ℕ → ℕ) (s : State) (d : Diff) (header : Header) (pool : PoolView)
    (holds : Holds v.fixed.shape class s header pool) (p : MayPrecedeBut class v own_of s) (m : MakesOwnBlocks v own_of s d) where
  abbrev sh : Shape
  sh = v.fixed.shape

  abbrev s' : State
  s' = after_diff d s

  g : IsGoodHeap sh class s
  g = held_good sh class s header pool holds

  same_class : (c i : ℕ) → Makes d (Small c i) → class c ≡ claims.class v.claims c
  same_class c i y = p.class c i (or_right (has_found v (Small c i)) (own_of (Small c i)) (m.makes (Small c i) y).0)

  -- ---- NO LINE OF ITS OWN IS AN ALLOCATED BLOCK'S

  free : (B C : Block) (line : ℕ) → Makes d B → AllocatedHas sh s' (record { first = λ c. c; class = class }) B line
      → AllocatedHas sh s (record { first = λ c. c; class = class }) C line → ⊥
  free (Small c i) C line y a b = p.apart (Small c i) C line (m.makes (Small c i) y).0
      (record { mine = (m.makes (Small c i) y).1; has = subst (λ n. IsInSmall sh n c i line) (same_class c i y) a.has }) b
  free (Big f) C line y a b = p.apart (Big f) C line (m.makes (Big f) y).0
      (record {
        mine = (m.makes (Big f) y).1;
        has = let t = a.has in (t.0, ap (λ n. in_span f n t.0) (sym (m.spans f y)) ∙ t.1, t.2);
      }) b
  free Root C line y a b = absurd cc

  -- ---- ITS CHUNKS HAVE NOTHING ELSE

  module _ (f : ℕ) (y : Makes d (Big f)) (c : ℕ) (from : f ≤ c) (to : c < f + own_span v f) where
    within : in_span f (own_span v f) c ≡ true
    within = and_from (nat_le f c) (nat_lt c (f + own_span v f)) (le-leb f c from) (lt-ltb c (f + own_span v f) to)

    own : (line : ℕ) → IsInChunk sh c line → OwnHas sh (sight_of v).hold (geometry_of v) (Big f) line
    own line a = record { mine = (m.makes (Big f) y).1; has = (c, within, a) }

    in_range : c < chunks_of sh
    in_range = let l = m.in_pool f y in let z = m.in_zone f y in omega arith

    none_before : has_blocks s c ≡ false
    none_before = false_from_ne_true (has_blocks s c) (λ e. let b = some_block s c e in
        let i : ℕ = b.0 in
        let inside = g.runs c i in_range b.1 b.2 in
        let some = run_has_lines (class c) i inside in
        let fit = run_fits (class c) i inside in
        let next = next_times (class c) i in
        let before : ℕ = class c * i in
        p.apart (Big f) (Small c i) (line_of_chunk sh c + 1 + class c * i) (m.makes (Big f) y).0
        (own (line_of_chunk sh c + 1 + class c * i) (record { from = omega arith; to = omega arith }))
        (record { allocated = b.2; has = record { from = omega arith; to = omega arith } }))

    none_after : has_blocks s' c ≡ false
    none_after = false_from_ne_true (has_blocks s' c) (λ e. let b = some_block s' c e in
        ⊎_elim
        (λ (q : given (d (InRun c 0) b.0) ≡ false).
        both_ways (has_blocks s c) none_before (with_block s c b.0 b.1 (sym (over_none (d (InRun c 0) b.0) (s (InRun c 0) b.0) q) ∙ b.2)))
        (λ q. ⊎_elim
        (λ (z : d (InRun c 0) b.0 ≡ Some true). m.no_run f c b.0 y within z)
        (λ (z : d (InRun c 0) b.0 ≡ Some false). both_ways false refl (sym (ap (λ o. over o (s (InRun c 0) b.0)) z) ∙ b.2)) q)
        (option_cases (d (InRun c 0) b.0)))

    no_huge : s (Descr c) 1 ≡ true → ⊥
    no_huge t =
        let some = (g.whole c in_range none_before t).some in
        let n : ℕ = val (s (Descr c)) 8 56 in
        p.apart (Big f) (Big c) (line_of_chunk sh c) (m.makes (Big f) y).0
        (own (line_of_chunk sh c) (record { from = omega arith; to = omega arith }))
        (record {
          allocated = t;
          has = (c, and_from (nat_le c c) (nat_lt c (c + n)) (le-leb c c (omega arith)) (lt-ltb c (c + n) (omega arith)), record { from = omega arith; to = omega arith });
        })

    no_other : f < c → s' (Descr c) 1 ≡ false
    no_other later = false_from_ne_true (s' (Descr c) 1) (λ e. ⊎_elim
        (λ (q : given (d (Descr c) 1) ≡ false). no_huge (sym (over_none (d (Descr c) 1) (s (Descr c) 1) q) ∙ e))
        (λ q. ⊎_elim
        (λ (z : d (Descr c) 1 ≡ Some true). let same = m.no_other f c y within z in omega arith)
        (λ (z : d (Descr c) 1 ≡ Some false). both_ways false refl (sym (ap (λ o. over o (s (Descr c) 1)) z) ∙ e)) q)
        (option_cases (d (Descr c) 1)))

  whole : (f : ℕ) → Makes d (Big f) → IsWhole s' f
  whole f y =
      let n = m.spans f y in let one = m.some f y in let zone = m.in_zone f y in
      record {
        low = m.low f y;
        some = omega arith;
        in_zone = omega arith;
        rest = λ c from to. (none_after f y c (omega arith) (omega arith), no_other f y c (omega arith) (omega arith) from);
      }

  pub changes : ChangesBlocks sh class s d
  changes = record {
    of_run = λ c i y. subst (λ n. i < blocks_of n) (sym (same_class c i y)) (m.inside c i y);
    of_chunks = λ f y. let one = m.some f y in (none_after f y f (omega arith) (omega arith), whole f y);
    apart = λ B C line y a allocated b. free B C line y a b;
    plain = λ c i y. p.plain c i (m.frees (Small c i) y);
  }

pub own_free : OwnBlocksAreFree
own_free v own class s d header pool holds p m = changes v own class s d header pool holds p m
