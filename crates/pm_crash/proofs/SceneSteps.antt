-- Scenes begin, are read and written, lose and gain blocks, and end.
use Rattle.std.proofs.Common.{◌≡◌, ◌≢◌, ◌⊎◌, ⊎_elim, inl, inr, ℕ, ◌+◌, ◌*◌, ◌/◌, ◌%◌, ◌<◌, ◌≤◌, ◌==◌, Bool, true, false, List, length, Option, Some, None, refl, sym, ◌∙◌, ap, subst, arith}
use Rattle.std.specs.List.{Contains}
use Rattle.std.specs.Option.{option_map}
use Rattle.std.proofs.lemmas.Bool.{both_ways, cases_Bool, cond-false, cond-true, eq-eqb, eqb-true, ne_eqb}
use Rattle.std.proofs.lemmas.Grind.{div_ceil_times}
use Rattle.pm_words.specs.Words.{AreBytes}
use Rattle.pm_image.specs.declared.block.Block.{Block as Lines}
use Rattle.pm_image.specs.Blocks.{blocks}
use Rattle.pm_image.specs.Contents.{data_words, offset_in, size_in}
use Rattle.pm_image.specs.Reads.{AgreeOn, ReadsBlock}
use Rattle.pm_image.proofs.HeapWords.{object_fits}
use Rattle.pm_image.proofs.LocalContents.{contents_local}
use Rattle.pm_model.specs.Items.{Item, Items, edited, freed_item, made_item, put_bytes, put_into}
use Rattle.pm_view.specs.Places.{Block}
use Rattle.pm_crash.specs.Objects.{IsGoodHeap, StandsIn, is_allocated, item_in, item_of, lines_of, offset_of}
use Rattle.pm_crash.specs.Scenes.{AreApart, IsScene, IsWith, IsWithout, ScenesAreRead, ScenesAreWritten, ScenesBegin, ScenesEnd, ScenesGainBlocks, ScenesLoseBlocks}
use Rattle.pm_crash.specs.Spelled.{words_by}
use Rattle.pm_crash.specs.Writes.{IsWritten}
use Rattle.pm_crash.proofs.Apart.{apart, rising}
use Rattle.pm_crash.proofs.BitsBlocks as told
use Rattle.pm_crash.proofs.Covered.{covered_has_byte}
use Rattle.pm_crash.proofs.GoodBits.{held_good}
use Rattle.pm_crash.proofs.ItemsOfBits.{blocks_have_items, items_have_blocks, offsets_tell}
use Rattle.pm_crash.proofs.ObjectBytes.{aligned_range}
use Rattle.pm_crash.proofs.Told.{items_told}
use Rattle.pm_crash.proofs.Written.{begins_word, header_kept, item_kept, item_put}

same_some : {A : Type 0} → (a b : A) → Some a ≡ Some b → a ≡ b
same_some {A = A} a b e = ap (λ (z : Option A). Rattle.std.specs.Prelude.unwrap_or z a) e

none_some : {A : Type 0} → (a : A) → None ≡ Some a → ⊥
none_some a e = cc

-- ---- BITS THAT HOLD A POOL

pub scenes_begin : ScenesBegin
scenes_begin sh class s header pool holds =
    let g : IsGoodHeap sh class s = held_good sh class s header pool holds in
    let w : ℕ → ℕ = words_by sh class s in
    record {
      begins = λ B a. begins_word sh class s B;
      fits = λ B a. object_fits w (lines_of sh class s B) (g.blocks B a).0;
      apart = λ B C a b. ⊎_elim
          (λ (e : lines_of sh class s B ≡ lines_of sh class s C). inl (offsets_tell sh class s header pool holds B C a b (ap (λ (l : Lines). offset_in l) e)))
          (λ (y : AreApart (lines_of sh class s B) (lines_of sh class s C)). inr y)
          (apart 0 (blocks w sh.lanes sh.zones) (lines_of sh class s B) (lines_of sh class s C) (rising w sh.lanes sh.zones holds.no_fault)
          (told.allocated_block sh class s g.runs g.whole B a) (told.allocated_block sh class s g.runs g.whole C b));
      has = λ B a. blocks_have_items sh class s header pool holds B a;
      only = λ off item e. let y = items_have_blocks sh class s header pool holds off item e in (y.block, y.allocated, y.at);
    }

pub scenes_are_read : ScenesAreRead
scenes_are_read among at w items x B from len a inside = aligned_range w from len (at B) (x.begins B a) inside

module _ (among : Block → Bool) (at : Block → Lines) (w : ℕ → ℕ) (items : Items) (x : IsScene among at w items) where
  abbrev place : Block → ℕ
  place B = offset_in (at B)

  some_line : (B : Block) → among B ≡ true → 1 ≤ (at B).lines
  some_line B a = let y = x.fits B a in omega arith

  one_place : (B C : Block) → among B ≡ true → among C ≡ true → place B ≡ place C → B ≡ C
  one_place B C a b e = ⊎_elim (λ (q : B ≡ C). q)
      (λ (y : AreApart (at B) (at C)). absurd (let l = some_line B a in let m = some_line C b in ⊎_elim
      (λ (z : (at B).place + 64 * (at B).lines ≤ (at C).place). omega arith)
      (λ (z : (at C).place + 64 * (at C).lines ≤ (at B).place). omega arith) y))
      (x.apart B C a b)

  -- ---- A WRITE

  module _ (v : ℕ → ℕ) (B : Block) (from : ℕ) (bytes : List ℕ) (a : among B ≡ true) (inside : from + length bytes ≤ size_in w (at B)) (are : AreBytes bytes)
      (write : IsWritten w v (offset_in (at B) + from) bytes) where
    untouched : (C : Block) → among C ≡ true → C ≢ B → AgreeOn (ReadsBlock w (at C)) w v
    untouched C c ne = record {
      same = λ i read.
          let mine : Lines = at B in
          let theirs : Lines = at C in
          let fits : 8 + data_words (size_in w mine) ≤ 8 * mine.lines = x.fits B a in
          let room : 8 + data_words (size_in w theirs) ≤ 8 * theirs.lines = x.fits C c in
          let enough = div_ceil_times (size_in w mine) 8 (omega arith) in
          let begins : mine.place % 8 ≡ 0 = x.begins B a in
          let whole : theirs.place % 8 ≡ 0 = x.begins C c in
          let low : theirs.place / 8 ≤ i = read.from in
          let high : i < theirs.place / 8 + 8 + data_words (size_in w theirs) = read.to in
          sym (write.others i (λ t.
          let has = covered_has_byte (offset_in mine + from) (length bytes) i t in
          let below : 8 * i < offset_in mine + from + length bytes = has.1 in
          let above : offset_in mine + from < 8 * i + 8 = has.2 in
          ⊎_elim (λ (e : C ≡ B). ne e)
          (λ (y : AreApart theirs mine). ⊎_elim
          (λ (q : theirs.place + 64 * theirs.lines ≤ mine.place). omega arith)
          (λ (q : mine.place + 64 * mine.lines ≤ theirs.place). omega arith) y)
          (x.apart C B c a)));
    }

    abbrev put : Option Item → Option Item
    put = option_map (λ (i : Item). record i { bytes = put_bytes from bytes i.bytes })

    abbrev new : Items
    new = edited (put_into (place B) from bytes) items

    this : item_in v (at B) ≡ record (item_in w (at B)) { bytes = put_bytes from bytes (item_in w (at B)).bytes }
    this = item_put w v (at B) from bytes (x.begins B a) inside are write

    same_size : (C : Block) → among C ≡ true → size_in v (at C) ≡ size_in w (at C)
    same_size C c = ⊎_elim
        (λ (t : (place B == place C) ≡ true). subst (λ D. size_in v (at D) ≡ size_in w (at D)) (one_place B C a c (eqb-true (place B) (place C) t))
        (header_kept w v (at B) from bytes (x.begins B a) inside are write 1 (omega arith)))
        (λ (t : (place B == place C) ≡ false). (contents_local w v (at C) (untouched C c (λ e. both_ways (place B == place C) t (eq-eqb (place B) (place C) (ap place (sym e)))))).same_size)
        (cases_Bool (place B == place C))

    at_this : (off : ℕ) → (place B == off) ≡ true → new off ≡ Some (item_in v (at B))
    at_this off t = cond-true (place B == off) (put (items off)) (items off) t
        ∙ (ap (λ n. put (items n)) (sym (eqb-true (place B) off t)) ∙ (ap put (x.has B a) ∙ ap (λ (i : Item). Some i) (sym this)))

    at_other : (off : ℕ) → (place B == off) ≡ false → new off ≡ items off
    at_other off t = cond-false (place B == off) (put (items off)) (items off) t

    has : (C : Block) → among C ≡ true → new (place C) ≡ Some (item_in v (at C))
    has C c = ⊎_elim
        (λ (t : (place B == place C) ≡ true). at_this (place C) t ∙ ap (λ D. Some (item_in v (at D))) (one_place B C a c (eqb-true (place B) (place C) t)))
        (λ (t : (place B == place C) ≡ false). at_other (place C) t ∙ (x.has C c ∙ ap (λ (i : Item). Some i)
        (sym (item_kept w v (at C) (untouched C c (λ e. both_ways (place B == place C) t (eq-eqb (place B) (place C) (ap place (sym e)))))))))
        (cases_Bool (place B == place C))

    only : (off : ℕ) (item : Item) → new off ≡ Some item → (C : Block) × (among C ≡ true) × (off ≡ place C)
    only off item e = ⊎_elim
        (λ (t : (place B == off) ≡ true). (B, a, sym (eqb-true (place B) off t)))
        (λ (t : (place B == off) ≡ false). x.only off item (sym (at_other off t) ∙ e))
        (cases_Bool (place B == off))

    pub scene_written : IsScene among at v (edited (put_into (offset_in (at B)) from bytes) items)
    scene_written = record {
      begins = x.begins;
      fits = λ C c. subst (λ n. 8 + data_words n ≤ 8 * (at C).lines) (sym (same_size C c)) (x.fits C c);
      apart = x.apart;
      has = has;
      only = only;
    }

  -- ---- A BLOCK THAT GOES

  module _ (left : Block → Bool) (B : Block) (a : among B ≡ true) (y : IsWithout among left B) where
    abbrev fewer : Items
    fewer = edited (freed_item (place B)) items

    differs : (C : Block) → left C ≡ true → C ≢ B
    differs C c e = y.gone (subst (λ D. left D ≡ true) e c)

    left_has : (C : Block) → left C ≡ true → fewer (place C) ≡ Some (item_in w (at C))
    left_has C c = cond-false (place B == place C) None (items (place C))
        (ne_eqb (place B) (place C) (λ e. differs C c (sym (one_place B C a (y.from C c) e))))
        ∙ x.has C (y.from C c)

    left_only : (off : ℕ) (item : Item) → fewer off ≡ Some item → (C : Block) × (left C ≡ true) × (off ≡ place C)
    left_only off item e = ⊎_elim
        (λ (t : (place B == off) ≡ true). absurd (none_some item (sym (cond-true (place B == off) None (items off) t) ∙ e)))
        (λ (t : (place B == off) ≡ false).
        let z = x.only off item (sym (cond-false (place B == off) None (items off) t) ∙ e) in
        (z.0, y.stay z.0 z.1 (λ q. both_ways (place B == off) t (eq-eqb (place B) off (sym (z.2 ∙ ap place q)))), z.2))
        (cases_Bool (place B == off))

    pub scene_without : IsScene left at w (edited (freed_item (offset_in (at B))) items)
    scene_without = record {
      begins = λ C c. x.begins C (y.from C c);
      fits = λ C c. x.fits C (y.from C c);
      apart = λ C D c d. x.apart C D (y.from C c) (y.from D d);
      has = left_has;
      only = left_only;
    }

  -- ---- A BLOCK THAT COMES

  module _ (more : Block → Bool) (v : ℕ → ℕ) (B : Block) (y : IsWith among more at w v B) where
    abbrev longer : Items
    longer = edited (made_item (place B) (item_in v (at B))) items

    other_place : (C : Block) → among C ≡ true → place B ≢ place C
    other_place C c e = let l = some_line C c in let m = y.fits in ⊎_elim
        (λ (z : (at B).place + 64 * (at B).lines ≤ (at C).place). omega arith)
        (λ (z : (at C).place + 64 * (at C).lines ≤ (at B).place). omega arith) (y.apart C c)

    this_has : longer (place B) ≡ Some (item_in v (at B))
    this_has = cond-true (place B == place B) (Some (item_in v (at B))) (items (place B)) (eq-eqb (place B) (place B) refl)

    more_has : (C : Block) → more C ≡ true → longer (place C) ≡ Some (item_in v (at C))
    more_has C c = ⊎_elim
        (λ (e : C ≡ B). subst (λ D. longer (place D) ≡ Some (item_in v (at D))) (sym e) this_has)
        (λ (t : among C ≡ true). cond-false (place B == place C) (Some (item_in v (at B))) (items (place C)) (ne_eqb (place B) (place C) (other_place C t))
        ∙ (x.has C t ∙ ap (λ (i : Item). Some i) (sym (item_kept w v (at C) (y.others C t)))))
        (y.from C c)

    more_fits : (C : Block) → more C ≡ true → 8 + data_words (size_in v (at C)) ≤ 8 * (at C).lines
    more_fits C c = ⊎_elim
        (λ (e : C ≡ B). subst (λ D. 8 + data_words (size_in v (at D)) ≤ 8 * (at D).lines) (sym e) y.fits)
        (λ (t : among C ≡ true). subst (λ n. 8 + data_words n ≤ 8 * (at C).lines) (sym (contents_local w v (at C) (y.others C t)).same_size) (x.fits C t))
        (y.from C c)

    more_begins : (C : Block) → more C ≡ true → (at C).place % 8 ≡ 0
    more_begins C c = ⊎_elim
        (λ (e : C ≡ B). subst (λ D. (at D).place % 8 ≡ 0) (sym e) y.begins)
        (λ (t : among C ≡ true). x.begins C t)
        (y.from C c)

    turned : (b c : Lines) → AreApart b c → AreApart c b
    turned b c (inl l) = inr l
    turned b c (inr r) = inl r

    more_apart : (C D : Block) → more C ≡ true → more D ≡ true → (C ≡ D) ⊎ AreApart (at C) (at D)
    more_apart C D c d = ⊎_elim
        (λ (e : C ≡ B). ⊎_elim
        (λ (q : D ≡ B). inl (e ∙ sym q))
        (λ (t : among D ≡ true). inr (subst (λ E. AreApart (at E) (at D)) (sym e) (y.apart D t)))
        (y.from D d))
        (λ (s : among C ≡ true). ⊎_elim
        (λ (q : D ≡ B). inr (subst (λ E. AreApart (at C) (at E)) (sym q) (turned (at B) (at C) (y.apart C s))))
        (λ (t : among D ≡ true). x.apart C D s t)
        (y.from D d))
        (y.from C c)

    more_only : (off : ℕ) (item : Item) → longer off ≡ Some item → (C : Block) × (more C ≡ true) × (off ≡ place C)
    more_only off item e = ⊎_elim
        (λ (t : (place B == off) ≡ true). (B, y.comes, sym (eqb-true (place B) off t)))
        (λ (t : (place B == off) ≡ false).
        let z = x.only off item (sym (cond-false (place B == off) (Some (item_in v (at B))) (items off) t) ∙ e) in
        (z.0, y.stay z.0 z.1, z.2))
        (cases_Bool (place B == off))

    pub scene_with : IsScene more at v (edited (made_item (offset_in (at B)) (item_in v (at B))) items)
    scene_with = record { begins = more_begins; fits = more_fits; apart = more_apart; has = more_has; only = more_only }

pub scenes_are_written : ScenesAreWritten
scenes_are_written among at w v items x B from bytes a inside are write = scene_written among at w items x v B from bytes a inside are write

pub scenes_lose : ScenesLoseBlocks
scenes_lose among left at w items x B a y = scene_without among at w items x left B a y

pub scenes_gain : ScenesGainBlocks
scenes_gain among more at w v items x B y = scene_with among at w items x more v B y

-- ---- THE END

pub scenes_end : ScenesEnd
scenes_end sh class s header pool among at w items holds x end off = items_told sh class s header pool items holds has stands off
  where
    same_item : (B : Block) → among B ≡ true → item_of sh class s B ≡ item_in w (at B)
    same_item B a = ap (item_in (words_by sh class s)) (sym (end.places B a)) ∙ item_kept w (words_by sh class s) (at B) (end.words B a)

    has : (B : Block) → is_allocated sh s B ≡ true → items (offset_of sh class s B) ≡ Some (item_of sh class s B)
    has B b = let a : among B ≡ true = end.blocks B ∙ b in
        ap (λ (l : Lines). items (offset_in l)) (sym (end.places B a)) ∙ (x.has B a ∙ ap (λ (i : Item). Some i) (sym (same_item B a)))

    stands : (o : ℕ) (item : Item) → items o ≡ Some item → StandsIn sh class s o item
    stands o item e = let y = x.only o item e in record {
      block = y.0;
      allocated = sym (end.blocks y.0) ∙ y.1;
      at = y.2 ∙ ap (λ (l : Lines). offset_in l) (end.places y.0 y.1);
      is = same_some item (item_of sh class s y.0) (sym e ∙ (ap items y.2 ∙ (x.has y.0 y.1 ∙ ap (λ (i : Item). Some i) (sym (same_item y.0 y.1)))));
    }
