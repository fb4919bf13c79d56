-- Objects go and come in the bits as a call has made them, and in the copy.
use Rattle.std.proofs.Common.{◌≡◌, ◌≢◌, ⊎_elim, inr, ℕ, ◌+◌, ◌-◌, ◌*◌, ◌/◌, ◌%◌, ◌<◌, ◌≤◌, ◌&&◌, ◌||◌, not, Bool, true, false, List, [], map, take, Some, None, refl, sym, ◌∙◌, ap, subst, arith}
use Rattle.std.specs.List.{Contains, range_with_len}
use Rattle.std.proofs.lemmas.Bool.{and_from, and_parts, and_right, both_ways, cases_Bool, false_from_ne_true, le-leb, or_right}
use Rattle.std.proofs.lemmas.Grind.{div_ceil_times}
use Rattle.pm_words.specs.Words.{bytes_of}
use Rattle.pm_header.specs.declared.header.Header.{Header}
use Rattle.pm_layout.specs.declared.shape.Shape.{Shape}
use Rattle.pm_objects.specs.declared.pool.PoolView.{PoolView}
use Rattle.pm_image.specs.declared.block.Block.{Block as Lines}
use Rattle.pm_image.specs.Blocks.{chunk_word}
use Rattle.pm_image.specs.Contents.{bytes_in, data_words, kind_in, offset_in, size_in}
use Rattle.pm_image.specs.Reads.{AgreeOn, ReadsBlock}
use Rattle.pm_image.proofs.Members.{map_same}
use Rattle.pm_model.specs.Items.{Items, all_edited, freed_item, made_item}
use Rattle.pm_view.specs.Entries.{Entry, turn}
use Rattle.pm_view.specs.Places.{Place, Descr, Block, Small, Big, Root, Geometry, is_data, same, word_of}
use Rattle.pm_view.specs.View.{View}
use Rattle.pm_world.specs.BlockLines.{IsInSmall, IsLineOf, chunks_told}
use Rattle.pm_world.specs.Lanes.{is_occupancy}
use Rattle.pm_world.specs.States.{State, Diff, given, over, val}
use Rattle.pm_world.proofs.Replays.{over_none}
use Rattle.pm_crash.specs.Footprints.{geometry_of}
use Rattle.pm_crash.specs.HeapChanges.{Frees, Makes}
use Rattle.pm_crash.specs.Looked.{Enters, IsObject, word_place, words_in}
use Rattle.pm_crash.specs.Objects.{is_allocated, item_in, lines_of}
use Rattle.pm_crash.specs.Scenes.{AreApart, IsScene}
use Rattle.pm_crash.specs.Sim.{Agrees, StandIn, bits_now, change_so_far}
use Rattle.pm_crash.specs.SimBlocks.{ComesToBe, ChangesObjects, HasLineTo, New, Old, object_edits, is_coming, is_going}
use Rattle.pm_crash.specs.Spelled.{Holds, number, words_by}
use Rattle.pm_crash.proofs.ChangedHeaps.{option_cases}
use Rattle.pm_crash.proofs.Edited.{edits_append}
use Rattle.pm_crash.proofs.KnownWords.{data_known, header_known}
use Rattle.pm_crash.proofs.NoHeapFault.{passing_member}
use Rattle.pm_crash.proofs.NowBlocks as blocks
use Rattle.pm_crash.proofs.NowBlocks.{share}
use Rattle.pm_crash.proofs.OwnEntries as own
use Rattle.pm_crash.proofs.SceneBlocks.{gain_all, lose_all, minus, minus_is, plus, plus_is, same_true}
use Rattle.pm_crash.proofs.SceneMoves.{place_by, scene_moved, word_at}

data_place : (classes : ℕ → ℕ) (sh : Shape) (u : State) (C : Block) (k : ℕ) → is_allocated sh u C ≡ true → is_data (place_by classes C k) ≡ true
data_place classes sh u (Small c i) k a = let m : ℕ = classes c * i in le-leb 8 (8 * (1 + m) + k) (omega arith)
data_place classes sh u (Big f) k a = refl
data_place classes sh u Root k a = absurd (both_ways false refl a)

none_allocated : (sh : Shape) (u : State) (C : Block) → is_occupancy sh C ≡ false → is_allocated sh u C ≡ false
none_allocated sh u (Small c i) e = ap (λ b. b && u (Rattle.pm_view.specs.Places.InRun c 0) i) e
none_allocated sh u (Big f) e = ap (λ b. b && (not (Rattle.pm_crash.specs.Spelled.has_blocks u f) && u (Descr f) 1)) e
none_allocated sh u Root e = refl

no_data : (b : Bool) → (b && false) ≡ false
no_data true = refl
no_data false = refl

module _ (v n : View) (entries entries' : List Entry) (olds : List Old) (news : List New)
    (c : ChangesObjects v entries (record n { fixed = v.fixed }) entries' olds news) (was kept : Bool) (classes : ℕ → ℕ) (s : State) (header : Header) (pool : PoolView)
    (holds : Holds v.fixed.shape classes s header pool) (x : Agrees classes v was s) (x' : Agrees classes (record n { fixed = v.fixed }) kept s)
    (en : Enters v entries) (copy : Items) (scene : StandIn v.fixed.shape classes (bits_now v entries s) copy) where
  abbrev sh : Shape
  sh = v.fixed.shape

  abbrev next : View
  next = record n { fixed = v.fixed }

  abbrev d : Diff
  d = change_so_far v entries

  abbrev d' : Diff
  d' = change_so_far next entries'

  abbrev t : State
  t = bits_now v entries s

  abbrev t' : State
  t' = bits_now next entries' s

  abbrev lies : Block → Lines
  lies = lines_of sh classes t

  abbrev lies' : Block → Lines
  lies' = lines_of sh classes t'

  abbrev w : ℕ → ℕ
  w = words_by sh classes t

  abbrev w' : ℕ → ℕ
  w' = words_by sh classes t'

  -- ---- WHICH BLOCKS STAND

  was_so : (C : Block) → is_occupancy sh C ≡ true → is_allocated sh t C ≡ over (turn d C) (is_allocated sh s C)
  was_so = own.before_now v entries was classes s header pool holds x en

  now_so : (C : Block) → is_occupancy sh C ≡ true → is_allocated sh t' C ≡ over (turn d' C) (is_allocated sh s C)
  now_so = own.before_now next entries' kept classes s header pool holds x' c.enters

  the_old : (C : Block) → is_going olds C ≡ true → (o : Old) × Contains olds o × (o.block ≡ C)
  the_old C e = let y = passing_member (λ (o : Old). same o.block C) olds e in (y.0, y.1.0, same_true y.0.block C y.1.1)

  the_new : (C : Block) → is_coming news C ≡ true → (m : New) × Contains news m × (m.block ≡ C)
  the_new C e = let y = passing_member (λ (m : New). same m.block C) news e in (y.0, y.1.0, same_true y.0.block C y.1.1)

  old_object : (C : Block) → is_going olds C ≡ true → IsObject v entries C
  old_object C e = let o = the_old C e in subst (IsObject v entries) o.2 (c.goes o.0 o.1).0

  new_object : (C : Block) → is_coming news C ≡ true → IsObject next entries' C
  new_object C e = let m = the_new C e in subst (IsObject next entries') m.2 (c.comes m.0 m.1).object

  new_makes : (C : Block) → is_coming news C ≡ true → Makes d' C
  new_makes C e = let m = the_new C e in subst (λ B. Makes d' B) m.2 (c.comes m.0 m.1).makes

  old_stood : (C : Block) → is_going olds C ≡ true → is_allocated sh t C ≡ true
  old_stood C e = own.object_now v entries was classes s header pool holds x en C (old_object C e)

  new_stands : (C : Block) → is_coming news C ≡ true → is_allocated sh t' C ≡ true
  new_stands C e = own.object_now next entries' kept classes s header pool holds x' c.enters C (new_object C e)

  old_gone : (C : Block) → is_going olds C ≡ true → is_allocated sh t' C ≡ false
  old_gone C e = now_so C (old_object C e).inside ∙ ⊎_elim
      (λ (f : Frees d' C). ap (λ q. over q (is_allocated sh s C)) f)
      (λ (m : (turn d' C ≡ None) × Makes d C). ap (λ q. over q (is_allocated sh s C)) m.0 ∙ blocks.none_before v entries was classes s header pool holds x en C (old_object C e).inside m.1)
      (c.gone C e)

  new_stood_not : (C : Block) → is_coming news C ≡ true → is_allocated sh t C ≡ false
  new_stood_not C e =
      let o = (new_object C e).inside in
      let none = blocks.none_before next entries' kept classes s header pool holds x' c.enters C o (new_makes C e) in
      was_so C o ∙ ⊎_elim
      (λ (q : given (turn d C) ≡ false). over_none (turn d C) (is_allocated sh s C) q ∙ none)
      (λ q. ⊎_elim
      (λ (m : turn d C ≡ Some true). absurd (c.was_none C e m))
      (λ (m : turn d C ≡ Some false). ap (λ y. over y (is_allocated sh s C)) m) q)
      (option_cases (turn d C))

  stays : (C : Block) → is_going olds C ≡ false → is_coming news C ≡ false → is_allocated sh t' C ≡ is_allocated sh t C
  stays C e f = ⊎_elim
      (λ (o : is_occupancy sh C ≡ true). now_so C o ∙ (ap (λ y. over y (is_allocated sh s C)) (c.stay C e f) ∙ sym (was_so C o)))
      (λ (o : is_occupancy sh C ≡ false). none_allocated sh t' C o ∙ sym (none_allocated sh t C o))
      (cases_Bool (is_occupancy sh C))

  abbrev left : Block → Bool
  left = minus (is_allocated sh t) olds

  left_is : (C : Block) → left C ≡ (is_allocated sh t C && not (is_going olds C))
  left_is = minus_is (is_allocated sh t) olds

  left_parts : (C : Block) → left C ≡ true → (is_allocated sh t C ≡ true) × (is_going olds C ≡ false)
  left_parts C l = let y = and_parts (is_allocated sh t C) (not (is_going olds C)) (sym (left_is C) ∙ l) in (y.0, Rattle.std.proofs.lemmas.Bool.not-true (is_going olds C) y.1)

  left_not_new : (C : Block) → left C ≡ true → is_coming news C ≡ false
  left_not_new C l = false_from_ne_true (is_coming news C) (λ e. both_ways (is_allocated sh t C) (new_stood_not C e) (left_parts C l).0)

  left_stands : (C : Block) → left C ≡ true → is_allocated sh t' C ≡ true
  left_stands C l = let y = left_parts C l in stays C y.1 (left_not_new C l) ∙ y.0

  all_so : (C : Block) → is_allocated sh t' C ≡ plus left news C
  all_so C = ⊎_elim
      (λ (e : is_coming news C ≡ true). new_stands C e ∙ sym (plus_is left news C ∙ or_right (left C) (is_coming news C) e))
      (λ (e : is_coming news C ≡ false). ⊎_elim
      (λ (f : is_going olds C ≡ true). old_gone C f
      ∙ sym (plus_is left news C ∙ (λ i. left_is C i || e i) ∙ ap (λ b. (is_allocated sh t C && not b) || false) f ∙ ap (λ b. b || false) (no_data (is_allocated sh t C))))
      (λ (f : is_going olds C ≡ false). stays C f e
      ∙ sym (plus_is left news C ∙ (λ i. left_is C i || e i) ∙ ap (λ b. (is_allocated sh t C && not b) || false) f ∙ by (is_allocated sh t C)))
      (cases_Bool (is_going olds C)))
      (cases_Bool (is_coming news C))
    where
      by : (b : Bool) → ((b && true) || false) ≡ b
      by true = refl
      by false = refl

  -- ---- NEW BLOCKS ARE APART FROM ALL OTHERS

  aligned' : (C : Block) → is_allocated sh t' C ≡ true → ((lies' C).place % 64 ≡ 0) × (1 ≤ (lies' C).lines)
  aligned' = blocks.aligned next entries' kept classes s header pool holds x' c.enters

  abbrev G : Geometry
  G = record { first = λ c. c; class = classes }

  line_in' : (C : Block) (line : ℕ) → is_allocated sh t' C ≡ true → (lies' C).place ≤ 64 * line → 64 * line < (lies' C).place + 64 * (lies' C).lines → IsLineOf sh G (chunks_told t' C) C line
  line_in' = blocks.line_in next entries' kept classes s header pool holds x' c.enters

  -- a line of a block that the call makes, as the lane knows
  to_lane : (C : Block) (line : ℕ) → Makes d' C → IsLineOf sh G (chunks_told t' C) C line → HasLineTo next C line
  to_lane (Small k i) line m y = subst (λ q. IsInSmall sh q k i line) (own.same_class next entries' kept classes s header pool holds x' c.enters k i (inr m)) y
  to_lane (Big f) line m y = subst (λ q. IsLineOf sh (geometry_of next) q (Big f) line) (own.same_span next entries' kept classes s header pool holds x' c.enters f (inr m)) y
  to_lane Root line m y = y

  new_apart : (B C : Block) → is_coming news B ≡ true → is_allocated sh t' C ≡ true → B ≢ C → AreApart (lies' B) (lies' C)
  new_apart B C e a ne =
      let b = new_stands B e in
      let p = aligned' B b in
      let q = aligned' C a in
      let cb = own.changes_blocks next entries' kept classes s header pool holds x' c.enters in
      let o = blocks.occupancy_so next entries' kept classes s header pool holds x' c.enters C t' a in
      share (lies' B) (lies' C) p.0 q.0 p.1 q.1 (λ line bl bh cl ch.
      let mine = line_in' B line b bl bh in
      let its = line_in' C line a cl ch in
      ⊎_elim
      (λ (z : given (turn d' C) ≡ false).
      let old : is_allocated sh s C ≡ true = sym (over_none (turn d' C) (is_allocated sh s C) z) ∙ (sym (now_so C o) ∙ a) in
      cb.apart B C line (new_makes B e) (record { allocated = blocks.there_so next entries' kept classes s header pool holds x' c.enters B t' b; has = mine }) old
      (record {
        allocated = blocks.there_so next entries' kept classes s header pool holds x' c.enters C s old;
        has = subst (λ q. IsLineOf sh G q C line) (blocks.chunks_stay next entries' kept classes s header pool holds x' c.enters C z) its;
      }))
      (λ z. ⊎_elim
      (λ (m : turn d' C ≡ Some true). c.apart B C line e m ne (to_lane B line (new_makes B e) mine) (to_lane C line m its))
      (λ (m : turn d' C ≡ Some false). both_ways (is_allocated sh t' C) (now_so C o ∙ ap (λ y. over y (is_allocated sh s C)) m) a) z)
      (option_cases (turn d' C)))

  -- ---- THE OTHERS KEEP THEIR LINES AND WORDS

  same_lines : (C : Block) → is_going olds C ≡ false → is_coming news C ≡ false → lies' C ≡ lies C
  same_lines (Small k i) e f = refl
  same_lines (Big g) e f = ap (λ w. record { place = 8 * chunk_word sh.lanes g; lines = 64 * val w 8 56 }) (λ i b. over (c.descriptors g b e f i) (s (Descr g) b))
  same_lines Root e f = refl

  in_t : (C : Block) (k : ℕ) → is_allocated sh t C ≡ true → k < 8 * (lies C).lines
      → (w ((lies C).place / 8 + k) ≡ number (t (place_by classes C k))) × (word_of sh (place_by classes C k) ≡ (lies C).place / 8 + k)
  in_t C k a low = word_at sh classes t (lies C) C k (blocks.is_in v entries was classes s header pool holds x en C a) low

  in_t' : (C : Block) (k : ℕ) → is_allocated sh t' C ≡ true → k < 8 * (lies' C).lines
      → (w' ((lies' C).place / 8 + k) ≡ number (t' (place_by classes C k))) × (word_of sh (place_by classes C k) ≡ (lies' C).place / 8 + k)
  in_t' C k a low = word_at sh classes t' (lies' C) C k (blocks.is_in next entries' kept classes s header pool holds x' c.enters C a) low

  -- places of blocks that are apart are others
  far : (b b' : Lines) (k k' : ℕ) → b.place % 8 ≡ 0 → b'.place % 8 ≡ 0 → k < 8 * b.lines → k' < 8 * b'.lines → AreApart b b' → b.place / 8 + k ≡ b'.place / 8 + k' → ⊥
  far b b' k k' p q l m y e = ⊎_elim
      (λ (z : b.place + 64 * b.lines ≤ b'.place). omega arith)
      (λ (z : b'.place + 64 * b'.lines ≤ b.place). omega arith) y

  even : (C : Block) → is_allocated sh t' C ≡ true → (lies' C).place % 8 ≡ 0
  even C a = let y = (aligned' C a).0 in omega arith

  same_bits : (C : Block) (k : ℕ) → left C ≡ true → k < 8 * (lies C).lines → t' (place_by classes C k) ≡ t (place_by classes C k)
  same_bits C k l low = λ i b. over (c.words (place_by classes C k) b (data_place classes sh t C k a) no_old no_new i) (s (place_by classes C k) b)
    where
      a : is_allocated sh t C ≡ true
      a = (left_parts C l).0

      no_old : (B : Block) (kB : ℕ) → is_going olds B ≡ true → kB < words_in v B → place_by classes C k ≢ word_place v B kB
      no_old B kB e lowB is =
          let b = old_stood B e in
          let y = old_object B e in
          let within : kB < 8 * (lies B).lines = (let m = (blocks.lines_so v entries was classes s header pool holds x en B y).0 in omega arith) in
          let at : (lies C).place / 8 + k ≡ (lies B).place / 8 + kB = sym (in_t C k a low).1 ∙ (ap (word_of sh) (is ∙ sym (blocks.place_so v entries was classes s header pool holds x en B kB y)) ∙ (in_t B kB b within).1) in
          ⊎_elim
          (λ (same : C ≡ B). both_ways (is_going olds C) (left_parts C l).1 (subst (λ D. is_going olds D ≡ true) (sym same) e))
          (λ (y : AreApart (lies C) (lies B)). far (lies C) (lies B) k kB (scene.begins C a) (scene.begins B b) low within y at)
          (scene.apart C B a b)

      no_new : (B : Block) (kB : ℕ) → is_coming news B ≡ true → kB < words_in next B → place_by classes C k ≢ word_place next B kB
      no_new B kB e lowB is =
          let b = new_stands B e in
          let y = new_object B e in
          let a' = left_stands C l in
          let lines : lies' C ≡ lies C = same_lines C (left_parts C l).1 (left_not_new C l) in
          let low' : k < 8 * (lies' C).lines = subst (λ (z : Lines). k < 8 * z.lines) (sym lines) low in
          let within : kB < 8 * (lies' B).lines = (let m = (blocks.lines_so next entries' kept classes s header pool holds x' c.enters B y).0 in omega arith) in
          let at : (lies' B).place / 8 + kB ≡ (lies' C).place / 8 + k = sym (in_t' B kB b within).1 ∙ (ap (word_of sh) (blocks.place_so next entries' kept classes s header pool holds x' c.enters B kB y ∙ sym is) ∙ (in_t' C k a' low').1) in
          far (lies' B) (lies' C) kB k (even B b) (even C a') within low'
          (new_apart B C e a' (λ same. both_ways (is_coming news C) (left_not_new C l) (subst (λ D. is_coming news D ≡ true) same e))) at

  -- ---- THE SCENES

  abbrev frees : Items
  frees = all_edited (map (λ (o : Old). freed_item o.off) olds) copy

  lost : IsScene left lies w frees
  lost = lose_all lies w olds (is_allocated sh t) copy scene c.goes_once (λ o there.
      let y = c.goes o there in
      (own.object_now v entries was classes s header pool holds x en o.block y.0, own.same_offset v entries was classes s header pool holds x en o.block y.0 ∙ y.1))

  agree : (C : Block) → left C ≡ true → AgreeOn (ReadsBlock w (lies C)) w w'
  agree C l = record {
    same = λ i read.
        let from : (lies C).place / 8 ≤ i = read.from in
        let to : i < (lies C).place / 8 + 8 + data_words (size_in w (lies C)) = read.to in
        let room : 8 + data_words (size_in w (lies C)) ≤ 8 * (lies C).lines = lost.fits C l in
        let k : ℕ = i - (lies C).place / 8 in
        let low : k < 8 * (lies C).lines = omega arith in
        let lines : lies' C ≡ lies C = same_lines C (left_parts C l).1 (left_not_new C l) in
        let low' : k < 8 * (lies' C).lines = subst (λ (z : Lines). k < 8 * z.lines) (sym lines) low in
        let index : (lies C).place / 8 + k ≡ i = omega arith in
        let index' : (lies' C).place / 8 + k ≡ i = ap (λ (z : Lines). z.place / 8 + k) lines ∙ index in
        ap w (sym index) ∙ ((in_t C k (left_parts C l).0 low).0 ∙ (ap number (sym (same_bits C k l low)) ∙ (sym (in_t' C k (left_stands C l) low').0 ∙ ap w' index')));
  }

  moved : IsScene left lies' w' frees
  moved = scene_moved left left lies lies' w w' frees lost (λ C. refl) (λ C l. same_lines C (left_parts C l).1 (left_not_new C l)) agree

  -- a new object
  module _ (m : New) (there : Contains news m) where
    abbrev B : Block
    B = m.block

    y : ComesToBe next entries' m
    y = c.comes m there

    stands : is_allocated sh t' B ≡ true
    stands = own.object_now next entries' kept classes s header pool holds x' c.enters B y.object

    offset : offset_in (lies' B) ≡ m.off
    offset = own.same_offset next entries' kept classes s header pool holds x' c.enters B y.object ∙ y.at

    many : (8 * (lies' B).lines ≡ words_in next B) × (8 ≤ words_in next B)
    many = blocks.lines_so next entries' kept classes s header pool holds x' c.enters B y.object

    size : size_in w' (lies' B) ≡ y.size
    size = header_known next entries' kept classes s header pool holds x' c.enters B 1 y.size y.object (omega arith) (let z = many.1 in omega arith) y.sized

    kind : kind_in w' (lies' B) ≡ y.kind
    kind = header_known next entries' kept classes s header pool holds x' c.enters B 0 y.kind y.object (omega arith) (let z = many.1 in omega arith) y.kinded

    words : map w' (range_with_len ((lies' B).place / 8 + 8) (data_words (size_in w' (lies' B)))) ≡ map y.words (range_with_len (m.off / 8) (data_words y.size))
    words =
        let place : (lies' B).place + 64 ≡ m.off = offset in
        let whole = even B stands in
        let first : (lies' B).place / 8 + 8 ≡ m.off / 8 = omega arith in
        (λ i. map w' (range_with_len (first i) (data_words (size i))))
        ∙ map_same w' y.words (range_with_len (m.off / 8) (data_words y.size)) (λ i here.
        let z = Rattle.pm_image.proofs.Members.in_range (m.off / 8) (data_words y.size) i here in
        let enough = div_ceil_times y.size 8 (omega arith) in
        let fits = y.fits in
        let k : ℕ = i - (m.off / 8 - 8) in
        let low = z.0 in
        let high = z.1 in
        let index : (lies' B).place / 8 + k ≡ i = omega arith in
        ap w' (sym index) ∙ data_known next entries' kept classes s header pool holds x' c.enters B k (y.words i) y.size y.object (let e = many.1 in omega arith) (omega arith) y.sized (y.knows i low high) (omega arith))

    item : item_in w' (lies' B) ≡ m.item
    unfolding bytes_in
    item = (λ i. record { kind = kind i; bytes = take (size i) (bytes_of (words i)); members = []; list = None }) ∙ sym y.is

    comes : ((lies' B).place % 8 ≡ 0) × (8 + data_words (size_in w' (lies' B)) ≤ 8 * (lies' B).lines) × (offset_in (lies' B) ≡ m.off) × (item_in w' (lies' B) ≡ m.item)
    comes = (even B stands, (let e = size in let f = y.fits in let z = many.0 in subst (λ q. 8 + data_words q ≤ 8 * (lies' B).lines) (sym e) (omega arith)), offset, item)

  new_is : (m : New) → Contains news m → is_coming news m.block ≡ true
  new_is m there = Rattle.pm_crash.proofs.NoHeapFault.member_passes (λ (o : New). same o.block m.block) news m there (Rattle.pm_crash.proofs.SceneBlocks.same_refl m.block)

  gained : IsScene (plus left news) lies' w' (all_edited (map (λ (m : New). made_item m.off m.item) news) frees)
  gained = gain_all lies' w' news left frees moved c.comes_once comes
      (λ m C there l. new_apart m.block C (new_is m there) (left_stands C l)
      (λ same. both_ways (is_coming news C) (left_not_new C l) (subst (λ D. is_coming news D ≡ true) same (new_is m there))))
      (λ m o there there' ne. new_apart m.block o.block (new_is m there) (new_stands o.block (new_is o there')) ne)

  pub objects_changed : StandIn sh classes t' (all_edited (object_edits olds news) copy)
  objects_changed = subst (StandIn sh classes t') (sym (edits_append (map (λ (o : Old). freed_item o.off) olds) (map (λ (m : New). made_item m.off m.item) news) copy))
      (scene_moved (plus left news) (is_allocated sh t') lies' lies' w' w' (all_edited (map (λ (m : New). made_item m.off m.item) news) frees) gained all_so (λ C a. refl) (λ C a. record { same = λ i read. refl }))
