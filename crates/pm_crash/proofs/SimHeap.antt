-- THE HEAP IS GOOD after a call whose entries are of blocks that it made and freed, each sized, where the
-- root is among its objects then.
use Rattle.std.proofs.Common.{◌≡◌, ◌≢◌, ◌⊎◌, ⊎_elim, inl, inr, ℕ, ◌+◌, ◌/◌, ◌<◌, ◌≤◌, ◌&&◌, ◌==◌, nat_le, true, false, Option, Some, None, IsSome, refl, sym, ◌∙◌, ap, arith}
use Rattle.std.proofs.lemmas.Bool.{and_from, both_ways, cases_eq, cond-false, eq-eqb, false_from_ne_true, le-leb, ne_eqb}
use Rattle.pm_header.specs.declared.header.Header.{Header}
use Rattle.pm_layout.specs.Sizes.{class_of}
use Rattle.pm_layout.specs.declared.shape.Shape.{Shape}
use Rattle.pm_objects.specs.Pool.{block_lines}
use Rattle.pm_objects.specs.declared.pool.PoolView.{PoolView}
use Rattle.pm_image.specs.declared.block.Block.{Block as Lines}
use Rattle.pm_image.specs.Contents.{size_in}
use Rattle.pm_image.specs.HeapFaults.{good_block}
use Rattle.pm_image.specs.Narrowings.{takes_links}
use Rattle.pm_model.specs.Items.{Item, Items, plain_pool}
use Rattle.pm_view.specs.Places.{Block, RootWord}
use Rattle.pm_view.specs.View.{View}
use Rattle.pm_world.specs.Lanes.{is_occupancy}
use Rattle.pm_world.specs.States.{State as Bits, Diff, given}
use Rattle.pm_world.proofs.Replays.{over_none}
use Rattle.pm_crash.specs.Freshness.{root_told}
use Rattle.pm_crash.specs.HeapChanges.{ChangesHeap, Makes}
use Rattle.pm_crash.specs.Looked.{Enters, KnowsWord}
use Rattle.pm_crash.specs.Objects.{is_allocated, lines_of, offset_of}
use Rattle.pm_crash.specs.Sim.{Agrees, StandIn, bits_now, change_so_far}
use Rattle.pm_crash.specs.SimFacts.{IsSized}
use Rattle.pm_crash.specs.Spelled.{Holds, number, words_by}
use Rattle.pm_crash.proofs.ItemsOfBits.{items_have_blocks, root_is_told}
use Rattle.pm_crash.proofs.KnownWords.{header_known, header_stays}
use Rattle.pm_crash.proofs.Looked.{words_so}
use Rattle.pm_crash.proofs.OwnEntries.{changes_blocks, descriptors}

module _ (v : View) (enters : Enters v v.log.entries) (sizes : (B : Block) → Makes (change_so_far v v.log.entries) B → IsSized v v.log.entries B)
    (classes : ℕ → ℕ) (s : Bits) (header : Header) (pool : PoolView) (holds : Holds v.fixed.shape classes s header pool) (agrees : Agrees classes v true s)
    (copy : Items) (stands : StandIn v.fixed.shape classes (bits_now v v.log.entries s) copy)
    (kept_root : (r : ℕ) → (plain_pool pool).root ≡ Some r → IsSome ((plain_pool pool).items r) → IsSome (copy r)) where
  abbrev sh : Shape
  sh = v.fixed.shape

  abbrev now : Bits
  now = bits_now v v.log.entries s

  abbrev d : Diff
  d = change_so_far v v.log.entries

  -- ---- THE HEAP IS GOOD

  word : (B : Block) (z : IsSized v v.log.entries B) (k n : ℕ) → k < 8 → KnowsWord v v.log.entries B k n → words_by sh classes now ((lines_of sh classes now B).place / 8 + k) ≡ n
  word B z k n few kn = header_known v v.log.entries true classes s header pool holds agrees enters B k n z.object few
      (let m = (words_so v v.log.entries true classes s header pool holds agrees enters copy stands B z.object).1 in omega arith) kn

  zero : (B : Block) (z : IsSized v v.log.entries B) (k : ℕ) → 2 ≤ k → k < 8 → (words_by sh classes now ((lines_of sh classes now B).place / 8 + k) == 0) ≡ true
  zero B z k low few = eq-eqb (words_by sh classes now ((lines_of sh classes now B).place / 8 + k)) 0 (word B z k 0 few (z.plain k low few))

  sized : (B : Block) → Makes d B → is_occupancy sh B ≡ true → (good_block (words_by sh classes now) (lines_of sh classes now B) ≡ true) × (takes_links (words_by sh classes now) (lines_of sh classes now B) ≡ true)
  unfolding good_block
  sized B m o =
      let z = sizes B m in
      let w : ℕ → ℕ = words_by sh classes now in
      let b : Lines = lines_of sh classes now B in
      let size : size_in w b ≡ z.size = word B z 1 z.size (omega arith) z.sized in
      let many = (words_so v v.log.entries true classes s header pool holds agrees enters copy stands B z.object).0 in
      let fits = z.fits in
      let lines : block_lines (class_of (size_in w b)) ≡ b.lines = ap (λ n. block_lines (class_of n)) size ∙ (let q : ℕ = block_lines (class_of z.size) in omega arith) in
      let some = z.some in let most = z.most in (
        and_from (nat_le 1 (size_in w b) && nat_le (size_in w b) 262080 && block_lines (class_of (size_in w b)) == b.lines && w (b.place / 8 + 6) == 0) (w (b.place / 8 + 7) == 0)
            (and_from (nat_le 1 (size_in w b) && nat_le (size_in w b) 262080 && block_lines (class_of (size_in w b)) == b.lines) (w (b.place / 8 + 6) == 0)
            (and_from (nat_le 1 (size_in w b) && nat_le (size_in w b) 262080) (block_lines (class_of (size_in w b)) == b.lines)
            (and_from (nat_le 1 (size_in w b)) (nat_le (size_in w b) 262080) (le-leb 1 (size_in w b) (omega arith)) (le-leb (size_in w b) 262080 (omega arith)))
            (eq-eqb (block_lines (class_of (size_in w b))) b.lines lines)) (zero B z 6 (omega arith) (omega arith))) (zero B z 7 (omega arith) (omega arith)),
        and_from (w (b.place / 8 + 2) == 0 && w (b.place / 8 + 3) == 0 && w (b.place / 8 + 4) == 0) (w (b.place / 8 + 5) == 0)
            (and_from (w (b.place / 8 + 2) == 0 && w (b.place / 8 + 3) == 0) (w (b.place / 8 + 4) == 0)
            (and_from (w (b.place / 8 + 2) == 0) (w (b.place / 8 + 3) == 0) (zero B z 2 (omega arith) (omega arith)) (zero B z 3 (omega arith) (omega arith)))
            (zero B z 4 (omega arith) (omega arith))) (zero B z 5 (omega arith) (omega arith)),
      )

  -- ---- THE ROOT IS THERE

  root_word : (b : ℕ) → now RootWord b ≡ s RootWord b
  root_word b = over_none (d RootWord b) (s RootWord b) (false_from_ne_true (given (d RootWord b)) (λ t. enters.changes RootWord b t))

  pub root_number : number (now RootWord) ≡ number (s RootWord)
  root_number = λ i. number (λ b. root_word b i)

  abbrev r : ℕ
  r = number (s RootWord)

  rooted : r ≢ 0 → (plain_pool pool).root ≡ Some r
  rooted some = root_is_told sh classes s header pool holds ∙ cond-false (r == 0) None (Some r) (ne_eqb r 0 some)

  root_before : r ≢ 0 → IsSome ((plain_pool pool).items r)
  root_before some = ⊎_elim
      (λ (e : number (s RootWord) ≡ 0). absurd (some e))
      (λ (b : (B : Block) × (is_allocated sh s B ≡ true) × (offset_of sh classes s B ≡ number (s RootWord))).
      ap Rattle.std.specs.Prelude.is_some (ap (plain_pool pool).items (sym b.2) ∙ Rattle.pm_crash.proofs.ItemsOfBits.blocks_have_items sh classes s header pool holds b.0 b.1))
      (Rattle.pm_crash.proofs.GoodBits.held_good sh classes s header pool holds).root

  find_some : (o : Option Item) → IsSome o → (i : Item) × (o ≡ Some i)
  find_some None t = absurd (both_ways false refl t)
  find_some (Some i) t = (i, refl)

  root : (number (now RootWord) ≡ 0) ⊎ ((B : Block) × (is_allocated sh now B ≡ true) × (offset_of sh classes now B ≡ number (now RootWord)))
  root = ⊎_elim
      (λ (e : r ≡ 0). inl (root_number ∙ e))
      (λ (some : r ≢ 0).
      let f = find_some (copy r) (kept_root r (rooted some) (root_before some)) in
      let b = stands.only r f.0 f.1 in
      inr (b.0, b.1, sym b.2 ∙ sym root_number))
      (cases_eq r 0)

  pub heap : ChangesHeap sh classes s d
  heap = record {
    blocks = changes_blocks v v.log.entries true classes s header pool holds agrees enters;
    sized = sized;
    descriptors = descriptors v v.log.entries true classes s header pool holds agrees enters;
    headers = λ B k b a none few. header_stays v v.log.entries true classes s header pool holds agrees enters B k b a few;
    root = root;
  }

  pub same_root : root_told (number (now RootWord)) ≡ (plain_pool pool).root
  same_root = ap root_told root_number ∙ sym (root_is_told sh classes s header pool holds)
