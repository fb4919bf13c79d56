-- What a lane at work knows of words is so in the bits as its call has made them.
use Rattle.std.proofs.Common.{◌≡◌, ⊎_elim, ℕ, ◌+◌, ◌-◌, ◌*◌, ◌/◌, ◌%◌, ◌<◌, ◌≤◌, nat_le, nat_lt, ◌&&◌, ◌==◌, not, Bool, true, false, List, Option, Some, None, refl, sym, ◌∙◌, ap, subst, arith, mul_comm}
use Rattle.std.proofs.lemmas.Bool.{and_from, and_parts, both_ways, cases_eq, false_from_ne_true, le-leb, lt-ltb, ltb-true, or_left, or_right}
use Rattle.std.proofs.lemmas.Nat.{div-mul-add}
use Rattle.pm_header.specs.declared.header.Header.{Header}
use Rattle.pm_layout.specs.Chunks.{chunks_of, line_of_chunk}
use Rattle.pm_layout.specs.Sizes.{blocks_of}
use Rattle.pm_layout.specs.declared.shape.Shape.{Shape}
use Rattle.pm_objects.specs.declared.pool.PoolView.{PoolView}
use Rattle.pm_image.specs.Blocks.{chunk_word}
use Rattle.pm_image.proofs.Rooms.{run_fits}
use Rattle.pm_model.specs.Items.{plain_pool}
use Rattle.pm_view.specs.Claims.{class, first}
use Rattle.pm_view.specs.Entries.{Entry, turn}
use Rattle.pm_view.specs.Places.{InRun, InHuge, Descr, Block, Small, Big, Root}
use Rattle.pm_view.specs.View.{View}
use Rattle.pm_world.specs.Lanes.{is_occupancy}
use Rattle.pm_world.specs.Memory.{bit}
use Rattle.pm_world.specs.Sights.{is_recorded}
use Rattle.pm_world.specs.States.{State, Diff, bright, bright_huge, given, lit, live, over, shown, val}
use Rattle.pm_crash.specs.Footprints.{geometry_of, has_found, is_run_to}
use Rattle.pm_crash.specs.HeapChanges.{header_place}
use Rattle.pm_crash.specs.Looked.{Enters, IsChanged, IsObject, KnowsWord, word_place, words_in}
use Rattle.pm_crash.specs.Objects.{IsGoodHeap, is_allocated, lines_of}
use Rattle.pm_crash.specs.OwnBlocks.{own_span}
use Rattle.pm_crash.specs.Scenes.{AreApart}
use Rattle.pm_crash.specs.Sim.{is_kept_block, Agrees, StandIn, bits_now, change_so_far}
use Rattle.pm_crash.specs.Spelled.{Holds, has_blocks, words_by}
use Rattle.pm_crash.proofs.ChangedHeaps.{next_times}
use Rattle.pm_crash.proofs.Classes.{run_has_lines}
use Rattle.pm_crash.proofs.GoodBits.{held_good}
use Rattle.pm_crash.proofs.OwnEntries.{changed_word, chunk_in, found_before, kept_is_own, kept_more, word_in, word_now}
use Rattle.pm_crash.proofs.SceneSteps.{scenes_begin}
use Rattle.pm_crash.proofs.Simulation.{sees_so}
use Rattle.pm_crash.proofs.Spelling.{number_is}

pub none_of : {A : Type 0} (o : Option A) → given o ≡ false → o ≡ None
none_of None e = refl
none_of (Some y) e = absurd (both_ways true e refl)

abbrev index_in : Block → ℕ
index_in (Small c i) = i
index_in (Big f) = f
index_in Root = 0

abbrev first_in : Block → ℕ
first_in (Small c i) = c
first_in (Big f) = f
first_in Root = 0

module _ (v : View) (entries : List Entry) (kept : Bool) (classes : ℕ → ℕ) (s : State) (header : Header) (pool : PoolView)
    (holds : Holds v.fixed.shape classes s header pool) (x : Agrees classes v kept s) (en : Enters v entries) where
  abbrev sh : Shape
  sh = v.fixed.shape

  abbrev d : Diff
  d = change_so_far v entries

  abbrev now : State
  now = bits_now v entries s

  good : IsGoodHeap sh classes s
  good = held_good sh classes s header pool holds

  scene : StandIn sh classes s (plain_pool pool).items
  scene = scenes_begin sh classes s header pool holds

  before_found : (B : Block) → is_occupancy sh B ≡ true → has_found v B ≡ true → is_allocated sh s B ≡ true
  before_found = found_before v entries kept classes s header pool holds x en

  run_before : (c i : ℕ) → is_allocated sh s (Small c i) ≡ true → i < blocks_of (classes c)
  run_before c i a =
      let y = and_parts (is_occupancy sh (Small c i)) (s (InRun c 0) i) a in
      let z = and_parts (nat_lt c (chunks_of sh)) (nat_lt i 64) y.0 in
      good.runs c i (ltb-true c (chunks_of sh) z.0) (ltb-true i 64 z.1) y.1

  found_class : (c i : ℕ) → has_found v (Small c i) ≡ true → classes c ≡ class v.claims c
  found_class c i t = x.class c i (or_left (has_found v (Small c i)) _ t)

  -- ---- HEADERS STAY

  small_header : (c i k : ℕ) → is_allocated sh s (Small c i) ≡ true → k < 8 → IsChanged v (InRun c (8 * (1 + classes c * i) + k)) → ⊥
  small_header c i k a few (Small c' i', k', e, low, how) =
      let ec : c ≡ c' = ap chunk_in e in
      let er : 8 * (1 + classes c * i) + k ≡ 8 * (1 + class v.claims c' * i') + k' = ap word_in e in
      let m : ℕ = classes c * i in
      let m' : ℕ = class v.claims c' * i' in
      let inside = run_before c i a in
      let some = run_has_lines (classes c) i inside in
      ⊎_elim
      (λ (own : is_kept_block v false (Small c' i') ≡ true).
      let line : ℕ = line_of_chunk sh c + 1 + classes c * i in
      let lc : line_of_chunk sh c ≡ line_of_chunk sh c' = ap (line_of_chunk sh) ec in
      let next = next_times (class v.claims c') i' in
      let next_ = next_times (classes c) i in
      x.apart (Small c' i') (Small c i) line (kept_more v kept (Small c' i') own)
      (record { mine = kept_is_own v false (Small c' i') own; has = record { from = omega arith; to = omega arith } })
      (record { allocated = (and_parts (is_occupancy sh (Small c i)) (s (InRun c 0) i) a).1; has = record { from = omega arith; to = omega arith } }))
      (λ (f : (has_found v (Small c' i') ≡ true) × (is_occupancy sh (Small c' i') ≡ true) × (8 ≤ k')).
      let a' = before_found (Small c' i') f.1 f.0 in
      let same = found_class c' i' f.0 in
      let far = f.2 in
      let chunk : chunk_word sh.lanes c ≡ chunk_word sh.lanes c' = ap (chunk_word sh.lanes) ec in
      let cl' : ℕ = classes c' in
      let m'' : ℕ = classes c' * i' in
      let em : classes c' * i' ≡ class v.claims c' * i' = ap (λ n. n * i') same in
      ⊎_elim
      (λ (q : Small c i ≡ Small c' i').
      let qi : i ≡ i' = ap index_in q in
      let qm : classes c * i ≡ classes c' * i' = λ j. classes (ec j) * qi j in
      let z : k ≡ k' = omega arith in omega arith)
      (λ (z : AreApart (lines_of sh classes s (Small c i)) (lines_of sh classes s (Small c' i'))). ⊎_elim
      (λ (w : 8 * chunk_word sh.lanes c + 64 * (1 + classes c * i) + 64 * classes c ≤ 8 * chunk_word sh.lanes c' + 64 * (1 + classes c' * i')). omega arith)
      (λ (w : 8 * chunk_word sh.lanes c' + 64 * (1 + classes c' * i') + 64 * classes c' ≤ 8 * chunk_word sh.lanes c + 64 * (1 + classes c * i)). omega arith) z)
      (scene.apart (Small c i) (Small c' i') a a'))
      how
  small_header c i k a few (Big f, k', e, low, how) = absurd cc
  small_header c i k a few (Root, k', e, low, how) = absurd cc

  big_header : (f k : ℕ) → is_allocated sh s (Big f) ≡ true → k < 8 → IsChanged v (InHuge f k) → ⊥
  big_header f k a few (Big f', k', e, low, how) =
      let ef : f ≡ f' + k' / 512 = ap chunk_in e in
      let ek : k ≡ k' % 512 = ap word_in e in
      let y = and_parts (nat_lt f (chunks_of sh)) (not (has_blocks s f) && s (Descr f) 1) a in
      let z = and_parts (not (has_blocks s f)) (s (Descr f) 1) y.1 in
      let n : ℕ = val (s (Descr f)) 8 56 in
      let some = (good.whole f (ltb-true f (chunks_of sh) y.0) (Rattle.std.proofs.lemmas.Bool.not-true (has_blocks s f) z.0) z.1).some in
      ⊎_elim
      (λ (own : is_kept_block v false (Big f') ≡ true).
      x.apart (Big f') (Big f) (line_of_chunk sh f) (kept_more v kept (Big f') own)
      (record { mine = kept_is_own v false (Big f') own; has = (f, and_from (nat_le f' f) (nat_lt f (f' + own_span v f')) (le-leb f' f (omega arith)) (lt-ltb f (f' + own_span v f') (omega arith)), record { from = omega arith; to = omega arith }) })
      (record { allocated = z.1; has = (f, and_from (nat_le f f) (nat_lt f (f + n)) (le-leb f f (omega arith)) (lt-ltb f (f + n) (omega arith)), record { from = omega arith; to = omega arith }) }))
      (λ (t : (has_found v (Big f') ≡ true) × (is_occupancy sh (Big f') ≡ true) × (8 ≤ k')).
      let a' = before_found (Big f') t.1 t.0 in
      let far = t.2 in
      let y' = and_parts (nat_lt f' (chunks_of sh)) (not (has_blocks s f') && s (Descr f') 1) a' in
      let z' = and_parts (not (has_blocks s f')) (s (Descr f') 1) y'.1 in
      let n' : ℕ = val (s (Descr f')) 8 56 in
      let spans : val (s (Descr f')) 8 56 ≡ own_span v f' = x.spans f' t.0 in
      let zone = (good.whole f' (ltb-true f' (chunks_of sh) y'.0) (Rattle.std.proofs.lemmas.Bool.not-true (has_blocks s f') z'.0) z'.1).in_zone in
      ⊎_elim
      (λ (q : Big f ≡ Big f'). let qf : f ≡ f' = ap first_in q in omega arith)
      (λ (w : AreApart (lines_of sh classes s (Big f)) (lines_of sh classes s (Big f'))). ⊎_elim
      (λ (u : 8 * chunk_word sh.lanes f + 64 * (64 * n) ≤ 8 * chunk_word sh.lanes f'). omega arith)
      (λ (u : 8 * chunk_word sh.lanes f' + 64 * (64 * n') ≤ 8 * chunk_word sh.lanes f). omega arith) w)
      (scene.apart (Big f) (Big f') a a'))
      how
  big_header f k a few (Small c i, k', e, low, how) = absurd cc
  big_header f k a few (Root, k', e, low, how) = absurd cc

  -- no word of the header of a block that stays is changed
  pub header_stays : (B : Block) (k b : ℕ) → is_allocated sh s B ≡ true → k < 8 → given (d (header_place classes B k) b) ≡ false
  header_stays (Small c i) k b a few = false_from_ne_true (given (d (InRun c (8 * (1 + classes c * i) + k)) b))
      (λ t. small_header c i k a few (changed_word v d c (8 * (1 + classes c * i) + k) (omega arith) (en.changes (InRun c (8 * (1 + classes c * i) + k)) b t)))
  header_stays (Big f) k b a few = false_from_ne_true (given (d (InHuge f k) b)) (λ t. big_header f k a few (en.changes (InHuge f k) b t))
  header_stays Root k b a few = absurd (both_ways false refl a)

  -- ---- FOUND OBJECTS

  abbrev IsFound : Block → Type 0
  IsFound B = (has_found v B ≡ true) × (given (turn d B) ≡ false)

  same_place : (B : Block) (k : ℕ) → has_found v B ≡ true → k < 8 → header_place classes B k ≡ word_place v B k
  same_place (Small c i) k t few = ap (λ n. InRun c (8 * (1 + n * i) + k)) (found_class c i t)
  same_place (Big f) k t few = let e : f ≡ f + k / 512 = omega arith in let r : k ≡ k % 512 = omega arith in λ j. InHuge (e j) (r j)
  same_place Root k t few = refl

  header_none : (B : Block) (k b : ℕ) → is_occupancy sh B ≡ true → has_found v B ≡ true → k < 8 → d (word_place v B k) b ≡ None
  header_none B k b o t few = none_of (d (word_place v B k) b) (subst (λ p. given (d p b) ≡ false) (same_place B k t few) (header_stays B k b (before_found B o t) few))

  -- ---- A FOUND OBJECT'S WORDS are looked at by a meaning, as far as its size says

  abbrev size_bits : Block → ℕ → Bool
  size_bits B b = s (word_place v B 1) b

  alive_run : (c i k : ℕ) → has_found v (Small c i) ≡ true → is_occupancy sh (Small c i) ≡ true → k < 8 * class v.claims c
      → lit (size_bits (Small c i)) (k / 8) ≡ true
      → live s (geometry_of v) (is_run_to v) (InRun c (8 * (1 + class v.claims c * i) + k)) ≡ true
  alive_run c i k t o low l =
      let cl : ℕ = class v.claims c in
      let e : classes c ≡ cl = found_class c i t in
      let inside = run_before c i (before_found (Small c i) o t) in
      let some : 1 ≤ cl = subst (λ n. 1 ≤ n) e (run_has_lines (classes c) i inside) in
      let fit : 1 + cl * i + cl ≤ 64 = subst (λ n. 1 + n * i + n ≤ 64) e (run_fits (classes c) i inside) in
      let m : ℕ = cl * i in
      let w : ℕ = 8 * (1 + cl * i) + k in
      let line : w / 8 - 1 ≡ i * cl + k / 8 = (let q : m ≡ i * cl = mul_comm cl i in let z : ℕ = i * cl in omega arith) in
      let within : k / 8 < cl = omega arith in
      let block : (w / 8 - 1) / cl ≡ i = ap (λ n. n / cl) line ∙ div-mul-add i cl (k / 8) within in
      let of_it : (w / 8 - 1) % cl ≡ k / 8 = ap (λ n. n % cl) line ∙ Rattle.std.proofs.lemmas.Nat.mod-mul-add i cl (k / 8) within in
      let b : bright s cl c i (k / 8) ≡ true = and_from (s (InRun c 0) i) (lit (size_bits (Small c i)) (k / 8)) (x.found (Small c i) t) l in
      let b' : bright s cl c ((w / 8 - 1) / cl) ((w / 8 - 1) % cl) ≡ true = ap (λ n. bright s cl c n ((w / 8 - 1) % cl)) block ∙ (ap (λ n. bright s cl c i n) of_it ∙ b) in
      and_from (not (cl == 0)) (shown s cl c w) (ap not (Rattle.std.proofs.lemmas.Bool.ne_eqb cl 0 (λ q. omega arith)))
      (or_right (w == 0) ((nat_le 8 w && nat_lt w 512) && bright s cl c ((w / 8 - 1) / cl) ((w / 8 - 1) % cl))
      (and_from (nat_le 8 w && nat_lt w 512) (bright s cl c ((w / 8 - 1) / cl) ((w / 8 - 1) % cl))
      (and_from (nat_le 8 w) (nat_lt w 512) (le-leb 8 w (omega arith)) (lt-ltb w 512 (omega arith))) b'))

  alive_huge : (f k : ℕ) → has_found v (Big f) ≡ true → first v.fixed.shape v.claims (f + k / 512) ≡ f
      → lit (size_bits (Big f)) (k / 8) ≡ true
      → live s (geometry_of v) (is_run_to v) (InHuge (f + k / 512) (k % 512)) ≡ true
  alive_huge f k t e l =
      let line : 64 * (f + k / 512 - f) + k % 512 / 8 ≡ k / 8 = omega arith in
      let here : f + 1 / 512 ≡ f = omega arith in
      let l' : lit (s (InHuge f 1)) (k / 8) ≡ true = subst (λ n. lit (s (InHuge n 1)) (k / 8) ≡ true) here l in
      let b : bright_huge s f (64 * (f + k / 512 - f) + k % 512 / 8) ≡ true = ap (bright_huge s f) line ∙ and_from (s (Descr f) 1) (lit (s (InHuge f 1)) (k / 8)) (x.found (Big f) t) l' in
      and_from (nat_lt (k % 512) 512) (bright_huge s (first v.fixed.shape v.claims (f + k / 512)) (64 * (f + k / 512 - first v.fixed.shape v.claims (f + k / 512)) + k % 512 / 8))
      (lt-ltb (k % 512) 512 (omega arith))
      (subst (λ n. bright_huge s n (64 * (f + k / 512 - n) + k % 512 / 8) ≡ true) (sym e) b)

  alive : (B : Block) (k : ℕ) → IsObject v entries B → has_found v B ≡ true → k < words_in v B
      → lit (size_bits B) (k / 8) ≡ true → live s (geometry_of v) (is_run_to v) (word_place v B k) ≡ true
  alive (Small c i) k y t low l = alive_run c i k t y.inside low l
  alive (Big f) k y t low l = alive_huge f k t
      (y.whole (f + k / 512) (and_from (nat_le f (f + k / 512)) (nat_lt (f + k / 512) (f + own_span v f)) (le-leb f (f + k / 512) (omega arith)) (lt-ltb (f + k / 512) (f + own_span v f) (omega arith)))) l
  alive Root k y t low l = refl

  -- ---- WHAT IT KNOWS IS SO NOW

  known_bits : (B : Block) (k n : ℕ) → IsObject v entries B → k < words_in v B → KnowsWord v entries B k n
      → (has_found v B ≡ true → given (turn d B) ≡ false → lit (size_bits B) (k / 8) ≡ true)
      → (b : ℕ) → b < 64 → now (word_place v B k) b ≡ bit n b
  known_bits B k n y low kn l b few = ⊎_elim
      (λ (e : d (word_place v B k) b ≡ Some (bit n b)). ap (λ o. over o (s (word_place v B k) b)) e)
      (λ (e : (d (word_place v B k) b ≡ None) × (has_found v B ≡ true) × (given (turn d B) ≡ false) × (Rattle.pm_crash.specs.Sim.sees_at v (word_place v B k) b ≡ true)
      × (Rattle.pm_crash.specs.Footprints.bit_before v (word_place v B k) b ≡ Some (bit n b))).
      ap (λ o. over o (s (word_place v B k) b)) e.0
      ∙ x.known (word_place v B k) b (bit n b) (sees_so v s (word_place v B k) b ∙ e.3)
      (or_right (is_recorded v.log.records (word_place v B k)) (live s (geometry_of v) (is_run_to v) (word_place v B k)) (alive B k y e.1 low (l e.1 e.2))) e.4)
      (kn.bits b few)

  lit_header : (w : ℕ → Bool) (k : ℕ) → k < 8 → lit w (k / 8) ≡ true
  lit_header w k few = le-leb (k / 8) ((val w 0 64 + 63) / 64) (omega arith)

  pub header_known : (B : Block) (k n : ℕ) → IsObject v entries B → k < 8 → k < words_in v B → KnowsWord v entries B k n
      → words_by sh classes now ((lines_of sh classes now B).place / 8 + k) ≡ n
  header_known B k n y few low kn = word_now v entries kept classes s header pool holds x en B k y low
      ∙ number_is (now (word_place v B k)) n kn.small (known_bits B k n y low kn (λ f u. lit_header (size_bits B) k few))

  -- the size of a found object is as it was
  size_before : (B : Block) (n : ℕ) → IsObject v entries B → has_found v B ≡ true → given (turn d B) ≡ false → 1 < words_in v B → KnowsWord v entries B 1 n
      → val (size_bits B) 0 64 ≡ n
  size_before B n y t u low kn =
      let same : size_bits B ≡ now (word_place v B 1) = λ i b. sym (ap (λ o. over o (s (word_place v B 1) b)) (header_none B 1 b y.inside t (omega arith))) i in
      ap (λ w. val w 0 64) same ∙ number_is (now (word_place v B 1)) n kn.small (known_bits B 1 n y low kn (λ f z. lit_header (size_bits B) 1 (omega arith)))

  -- a meaning looks at the words of a found object, as far as its size says
  pub found_alive : (B : Block) (k size : ℕ) → IsObject v entries B → has_found v B ≡ true → given (turn d B) ≡ false → 1 < words_in v B → k < words_in v B
      → KnowsWord v entries B 1 size → k / 8 ≤ (size + 63) / 64 → live s (geometry_of v) (is_run_to v) (word_place v B k) ≡ true
  found_alive B k size y t u some low sized within = alive B k y t low
      (le-leb (k / 8) ((val (size_bits B) 0 64 + 63) / 64) (subst (λ z. k / 8 ≤ (z + 63) / 64) (sym (size_before B size y t u some sized)) within))

  -- a word of its data
  pub data_known : (B : Block) (k n size : ℕ) → IsObject v entries B → 1 < words_in v B → k < words_in v B → KnowsWord v entries B 1 size
      → KnowsWord v entries B k n → k / 8 ≤ (size + 63) / 64
      → words_by sh classes now ((lines_of sh classes now B).place / 8 + k) ≡ n
  data_known B k n size y some low sized kn within = word_now v entries kept classes s header pool holds x en B k y low
      ∙ number_is (now (word_place v B k)) n kn.small (known_bits B k n y low kn (λ f u.
      le-leb (k / 8) ((val (size_bits B) 0 64 + 63) / 64) (subst (λ z. k / 8 ≤ (z + 63) / 64) (sym (size_before B size y f u some sized)) within)))
