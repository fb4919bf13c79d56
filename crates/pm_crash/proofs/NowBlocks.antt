-- Blocks that stand in the bits as a call has made them: their words and lines; and what was there before.
use Rattle.std.proofs.Common.{◌≡◌, ◌≢◌, ⊎_elim, inl, inr, ℕ, ◌+◌, ◌-◌, ◌*◌, ◌/◌, ◌%◌, ◌<◌, ◌≤◌, nat_le, nat_lt, ◌&&◌, not, Bool, true, false, List, refl, sym, ap, subst, arith}
use Rattle.std.proofs.lemmas.Bool.{and_from, and_parts, both_ways, cases_eq, cases_lt, false_from_ne_true, le-leb, lt-ltb, ltb-true}
use Rattle.pm_header.specs.declared.header.Header.{Header}
use Rattle.pm_layout.specs.Chunks.{chunks_of, line_of_chunk}
use Rattle.pm_layout.specs.declared.shape.Shape.{Shape}
use Rattle.pm_objects.specs.declared.pool.PoolView.{PoolView}
use Rattle.pm_image.specs.declared.block.Block.{Block as Lines}
use Rattle.pm_image.specs.Blocks.{chunk_word}
use Rattle.pm_view.specs.Entries.{Entry}
use Rattle.pm_view.specs.Places.{InRun, Descr, Block, Small, Big, Root, Geometry}
use Rattle.pm_view.specs.View.{View}
use Rattle.pm_world.specs.BlockLines.{IsLineOf, chunks_told}
use Rattle.pm_world.specs.Lanes.{is_occupancy}
use Rattle.pm_world.specs.States.{State, Diff, over, there, val}
use Rattle.pm_crash.specs.HeapChanges.{Makes}
use Rattle.pm_crash.specs.Looked.{Enters, IsObject, word_place, words_in}
use Rattle.pm_crash.specs.Objects.{IsGoodHeap, is_allocated, lines_of}
use Rattle.pm_crash.specs.Scenes.{AreApart}
use Rattle.pm_crash.specs.Sim.{Agrees, bits_now, change_so_far}
use Rattle.pm_crash.specs.Spelled.{Holds, has_blocks}
use Rattle.pm_crash.proofs.ChangedHeaps.{next_times}
use Rattle.pm_crash.proofs.Classes.{run_has_lines}
use Rattle.pm_crash.proofs.GoodBits.{held_good}
use Rattle.pm_crash.proofs.OwnEntries as own
use Rattle.pm_crash.proofs.SceneMoves.{BigIn, IsIn, SmallIn, place_by}
use Rattle.pm_crash.proofs.Spelling.{with_block}

-- two stretches of lines that share none are apart
pub share : (b c : Lines) → b.place % 64 ≡ 0 → c.place % 64 ≡ 0 → 1 ≤ b.lines → 1 ≤ c.lines
    → ((line : ℕ) → b.place ≤ 64 * line → 64 * line < b.place + 64 * b.lines → c.place ≤ 64 * line → 64 * line < c.place + 64 * c.lines → ⊥) → AreApart b c
share b c p q l m none = ⊎_elim
    (λ (lt : b.place < c.place). ⊎_elim
    (λ (in_ : c.place < b.place + 64 * b.lines). absurd (none (c.place / 64) (omega arith) (omega arith) (omega arith) (omega arith)))
    (λ (out : b.place + 64 * b.lines ≤ c.place). inl out)
    (cases_lt c.place (b.place + 64 * b.lines)))
    (λ (le : c.place ≤ b.place). ⊎_elim
    (λ (in_ : b.place < c.place + 64 * c.lines). absurd (none (b.place / 64) (omega arith) (omega arith) (omega arith) (omega arith)))
    (λ (out : c.place + 64 * c.lines ≤ b.place). inr out)
    (cases_lt b.place (c.place + 64 * c.lines)))
    (cases_lt b.place c.place)

module _ (v : View) (entries : List Entry) (kept : Bool) (classes : ℕ → ℕ) (s : State) (header : Header) (pool : PoolView)
    (holds : Holds v.fixed.shape classes s header pool) (x : Agrees classes v kept s) (en : Enters v entries) where
  abbrev sh : Shape
  sh = v.fixed.shape

  abbrev d : Diff
  d = change_so_far v entries

  abbrev now : State
  now = bits_now v entries s

  abbrev lies : Block → Lines
  lies = lines_of sh classes now

  abbrev G : Geometry
  G = record { first = λ c. c; class = classes }

  good : IsGoodHeap sh classes s
  good = held_good sh classes s header pool holds

  -- ---- WORDS

  pub is_in : (C : Block) → is_allocated sh now C ≡ true → IsIn sh classes now (lies C) C
  is_in (Small c i) a =
      let y = and_parts (is_occupancy sh (Small c i)) (now (InRun c 0) i) a in
      let z = and_parts (nat_lt c (chunks_of sh)) (nat_lt i 64) y.0 in
      SmallIn c i (ltb-true c (chunks_of sh) z.0) (own.run_inside v entries kept classes s header pool holds x en c i a) (with_block now c i (ltb-true i 64 z.1) y.1) refl
  is_in (Big f) a =
      let h = own.huge_now v entries kept classes s header pool holds x en f a in
      BigIn f (val (now (Descr f)) 8 56) h.0 h.2.in_zone (λ g from to. ⊎_elim
      (λ (e : g ≡ f). subst (λ (n : ℕ). has_blocks now n ≡ false) (sym e) h.1)
      (λ (ne : g ≢ f). (h.2.rest g (omega arith) to).0)
      (cases_eq g f)) refl
  is_in Root a = absurd (both_ways false refl a)

  pub occupancy_so : (C : Block) (u : State) → is_allocated sh u C ≡ true → is_occupancy sh C ≡ true
  occupancy_so (Small c i) u a = (and_parts (is_occupancy sh (Small c i)) (u (InRun c 0) i) a).0
  occupancy_so (Big f) u a = (and_parts (nat_lt f (chunks_of sh)) (not (has_blocks u f) && u (Descr f) 1) a).0
  occupancy_so Root u a = absurd (both_ways false refl a)

  pub there_so : (C : Block) (u : State) → is_allocated sh u C ≡ true → there u C ≡ true
  there_so (Small c i) u a = (and_parts (is_occupancy sh (Small c i)) (u (InRun c 0) i) a).1
  there_so (Big f) u a = (and_parts (not (has_blocks u f)) (u (Descr f) 1) (and_parts (nat_lt f (chunks_of sh)) (not (has_blocks u f) && u (Descr f) 1) a).1).1
  there_so Root u a = refl

  -- what the lane knows of an object's lines
  pub lines_so : (B : Block) → IsObject v entries B → (8 * (lies B).lines ≡ words_in v B) × (8 ≤ words_in v B)
  lines_so (Small c i) y =
      let e = own.same_class v entries kept classes s header pool holds x en c i y.stands in
      let some = run_has_lines (classes c) i (own.run_inside v entries kept classes s header pool holds x en c i (own.object_now v entries kept classes s header pool holds x en (Small c i) y)) in
      (omega arith, omega arith)
  lines_so (Big f) y =
      let e = own.same_span v entries kept classes s header pool holds x en f y.stands in
      let h = own.huge_now v entries kept classes s header pool holds x en f (own.object_now v entries kept classes s header pool holds x en (Big f) y) in
      let some = h.2.some in
      let n : ℕ = val (now (Descr f)) 8 56 in
      (omega arith, omega arith)
  lines_so Root y = absurd (both_ways false refl y.inside)

  pub place_so : (C : Block) (k : ℕ) → IsObject v entries C → place_by classes C k ≡ word_place v C k
  place_so (Small c i) k y = ap (λ n. InRun c (8 * (1 + n * i) + k)) (own.same_class v entries kept classes s header pool holds x en c i y.stands)
  place_so (Big f) k y = refl
  place_so Root k y = refl

  -- ---- LINES

  pub aligned : (C : Block) → is_allocated sh now C ≡ true → ((lies C).place % 64 ≡ 0) × (1 ≤ (lies C).lines)
  aligned (Small c i) a = let m : ℕ = classes c * i in (omega arith, run_has_lines (classes c) i (own.run_inside v entries kept classes s header pool holds x en c i a))
  aligned (Big f) a = let h = own.huge_now v entries kept classes s header pool holds x en f a in let some = h.2.some in let n : ℕ = val (now (Descr f)) 8 56 in (omega arith, omega arith)
  aligned Root a = absurd (both_ways false refl a)

  pub line_in : (C : Block) (line : ℕ) → is_allocated sh now C ≡ true → (lies C).place ≤ 64 * line → 64 * line < (lies C).place + 64 * (lies C).lines → IsLineOf sh G (chunks_told now C) C line
  line_in (Small c i) line a low high =
      let m : ℕ = classes c * i in
      let next = next_times (classes c) i in
      let low_ : 8 * chunk_word sh.lanes c + 64 * (1 + m) ≤ 64 * line = low in
      let high_ : 64 * line < 8 * chunk_word sh.lanes c + 64 * (1 + m) + 64 * classes c = high in
      record { from = omega arith; to = omega arith }
  line_in (Big f) line a low high =
      let h = own.huge_now v entries kept classes s header pool holds x en f a in
      let zone = h.2.in_zone in
      let n : ℕ = val (now (Descr f)) 8 56 in
      let low_ : 8 * chunk_word sh.lanes f ≤ 64 * line = low in
      let high_ : 64 * line < 8 * chunk_word sh.lanes f + 64 * (64 * n) = high in
      let g : ℕ = f + (line - line_of_chunk sh f) / 64 in
      (g, and_from (nat_le f g) (nat_lt g (f + n)) (le-leb f g (omega arith)) (lt-ltb g (f + n) (omega arith)), record { from = omega arith; to = omega arith })
  line_in Root line a low high = absurd (both_ways false refl a)

  -- ---- WHAT THE CALL MAKES WAS NONE BEFORE

  pub none_before : (C : Block) → is_occupancy sh C ≡ true → Makes d C → is_allocated sh s C ≡ false
  none_before (Small c i) o m = false_from_ne_true (is_allocated sh s (Small c i)) (λ a.
      let cb = own.changes_blocks v entries kept classes s header pool holds x en in
      let next = next_times (classes c) i in
      let some = run_has_lines (classes c) i (cb.of_run c i m) in
      let before : ℕ = classes c * i in
      cb.apart (Small c i) (Small c i) (line_of_chunk sh c + 1 + classes c * i) m
      (record { allocated = ap (λ y. over y (s (InRun c 0) i)) m; has = record { from = omega arith; to = omega arith } }) a
      (record { allocated = there_so (Small c i) s a; has = record { from = omega arith; to = omega arith } }))
  none_before (Big f) o m = false_from_ne_true (is_allocated sh s (Big f)) (λ a.
      let cb = own.changes_blocks v entries kept classes s header pool holds x en in
      let y = and_parts (nat_lt f (chunks_of sh)) (not (has_blocks s f) && s (Descr f) 1) a in
      let z = and_parts (not (has_blocks s f)) (s (Descr f) 1) y.1 in
      let some = (good.whole f (ltb-true f (chunks_of sh) y.0) (Rattle.std.proofs.lemmas.Bool.not-true (has_blocks s f) z.0) z.1).some in
      let more = (cb.of_chunks f m).1.some in
      let n : ℕ = val (s (Descr f)) 8 56 in
      let n' : ℕ = val (now (Descr f)) 8 56 in
      cb.apart (Big f) (Big f) (line_of_chunk sh f) m
      (record { allocated = ap (λ q. over q (s (Descr f) 1)) m; has = (f, and_from (nat_le f f) (nat_lt f (f + n')) (le-leb f f (omega arith)) (lt-ltb f (f + n') (omega arith)), record { from = omega arith; to = omega arith }) }) a
      (record { allocated = z.1; has = (f, and_from (nat_le f f) (nat_lt f (f + n)) (le-leb f f (omega arith)) (lt-ltb f (f + n) (omega arith)), record { from = omega arith; to = omega arith }) }))
  none_before Root o m = absurd (both_ways false refl o)

  -- a block that is not turned has the lines that it had
  pub chunks_stay : (C : Block) → Rattle.pm_world.specs.States.given (Rattle.pm_view.specs.Entries.turn d C) ≡ false → chunks_told now C ≡ chunks_told s C
  chunks_stay (Small c i) e = refl
  chunks_stay (Big f) e = ap (λ w. val w 8 56) (λ i b. Rattle.pm_world.proofs.Replays.over_none (d (Descr f) b) (s (Descr f) b) (own.descriptors v entries kept classes s header pool holds x en f b e) i)
  chunks_stay Root e = refl
