-- A CHUNK IS MARKED AS A RUN by the store of its descriptor, and the world is kept.
use Rattle.std.specs.Prelude.{List, [], ◌∷◌, length, slice_index_or, if◌then◌else◌}
use Rattle.std.specs.Int.{bit_at}
use Rattle.std.specs.Option.{option_map}
use Rattle.std.proofs.Common.{◌≡◌, ◌≢◌, ℕ, zero, suc, ◌+◌, ◌*◌, ◌/◌, ◌%◌, ◌^◌, ◌<◌, ◌≤◌, inl, inr, ⊎_elim, nat_le, nat_lt, Bool, true, false, cond, not, eqb, ◌==◌, ◌&&◌, ◌||◌, refl, sym, ap, ◌∙◌, subst, arith, eq-eqb, ne_eqb, Option, None, Some}
use Rattle.std.proofs.lemmas.Bool.{cases_eq, cases_Bool, both_ways, eqb-true, ltb-true, and_parts, and_from, and_left, and_right, or_cases, not-true, cond-true, cond-false, cond_both, false_from_ne_true}
use Rattle.std.proofs.lemmas.List.Folds.{list_any_none}
use Rattle.std.proofs.lemmas.Option.{slice_get_within}
use Rattle.pm_record.specs.Undo.{undo_of}
use Rattle.std.proofs.lemmas.Nat.Bits.{bit_at-zero}
use Rattle.pm_layout.specs.declared.shape.Shape.{Shape}
use Rattle.pm_layout.specs.Areas.{undo_slots, word_of_generation, word_of_seal, word_of_entry, line_of_slot}
use Rattle.pm_layout.specs.Sizes.{blocks_of}
use Rattle.pm_layout.specs.Chunks.{words_of, chunks_of, page_of_chunk, word_of_chunk, word_of_descriptor, word_of_root, is_descriptor_word, is_chunk_page, chunk_at, chunk_described}
use Rattle.pm_view.specs.Bits.{all_bits}
use Rattle.pm_view.specs.Changes.{Undrained, is_dirty_bit}
use Rattle.pm_view.specs.Claims.{Claim, Marked, Knows, locked, class, making, header_in, found, here, geometry, pictured, is_held}
use Rattle.pm_view.specs.Counts.{MayCount, IsAtStop}
use Rattle.pm_view.specs.Entries.{latest, redos, turn}
use Rattle.pm_view.specs.Log.{Open, place_at}
use Rattle.pm_view.specs.Parts.{Part, GenerationPart, SealPart, EntryPart, SlotPart, DescriptorPart, is_entry_word, is_slot_word, pool_part, part_of, place_in}
use Rattle.pm_view.specs.Places.{Place, InRun, InHuge, Descr, RootWord, Block, Small, Big, Root, part, block_of, is_data, is_place, word_of}
use Rattle.pm_view.specs.View.{View}
use Rattle.pm_view.specs.Views.{part_in, value_in, was_of, changed}
use Rattle.pm_view.specs.Steps.Step.{Store}
use Rattle.pm_world.specs.States.{State, given, diff, read, put1, Cells}
use Rattle.pm_world.specs.Sights.{Hold, Sight, hold_of, is_pictured, picture, is_soiled, is_recorded, is_logged, is_made, fresh, sight_of}
use Rattle.pm_world.specs.Lanes.{Ghost, owns, is_decided, Flies, SightFits, Bits}
use Rattle.pm_world.specs.Logs.{slot_list, AreaChange, IsOld, PhaseFits, LogFits}
use Rattle.pm_world.specs.Lawful.{MayMark, MayStore}
use Rattle.pm_world.specs.Laws.{Turn, KeepsAt}
use Rattle.pm_world.specs.Memory.{Memory, PoolWord, LockWord, RunWord, ZoneWord, ZoneLock, CommitCounter, StopWord, Becomes, occ_at, bit, run_told, huge_told, bits_of, descriptor_told, cells_by, cells_of}
use Rattle.pm_world.specs.World.{Opening, Views, Past, origin, ghost_of, settled_words, AloneFits, RecordedFits, LaneFits, World}
use Rattle.pm_world.proofs.AfterStore.{keeps_at, counts_on, stop_stays}
use Rattle.pm_world.proofs.Cells.{other_sort, other_number, occ_sort, cells_stored, bits_else, descriptor_else}
use Rattle.pm_world.proofs.Counting.{count_same}
use Rattle.pm_world.proofs.Frame.{Around, mine_own}
use Rattle.pm_world.proofs.Occupies.{split}
use Rattle.pm_world.proofs.PlacesAt.{is_at}
use Rattle.pm_world.proofs.Replays.{put1_here, put1_else}
use Rattle.pm_world.proofs.Runs.{is_of_chunk, with_mark, Marks, marks_run}
use Rattle.pm_world.proofs.SlotWords.{slot_range}
use Rattle.pm_world.proofs.StepDraw.{all_cons}
use Rattle.pm_world.proofs.StoreArea.{undrained_by, old_known, logged_else, over_area}
use Rattle.pm_world.proofs.Worlds.{parts_short, slot_taken, turned, world_with, stops_stay}

-- ---- which word it is
abbrev at_part : Part → Option Place
at_part q = place_in (λ c. 0) q

descriptor_place : (sh : Shape) (lane w c : ℕ) → part_of sh lane w ≡ DescriptorPart c → place_at sh (λ c. 0) w ≡ Some (Descr c)
descriptor_place sh lane w c e = chain (ap at_part e)
  where
    P : Part → Type 0
    P q = at_part q ≡ Some (Descr c) → at_part (pool_part sh w) ≡ Some (Descr c)

    none_ : None ≡ Some (Descr c) → ⊥
    none_ r = both_ways false refl (ap given r)

    chain : at_part (part_of sh lane w) ≡ Some (Descr c) → at_part (pool_part sh w) ≡ Some (Descr c)
    chain = let pool = pool_part sh w in cond_both (w == word_of_generation sh lane) GenerationPart (if w == word_of_seal sh lane then SealPart else if is_entry_word sh lane w then EntryPart else if is_slot_word sh lane w then SlotPart else pool) (λ q. at_part q ≡ Some (Descr c) → at_part (pool_part sh w) ≡ Some (Descr c)) (λ _ r. absurd (none_ r))
        (λ _. cond_both (w == word_of_seal sh lane) SealPart (if is_entry_word sh lane w then EntryPart else if is_slot_word sh lane w then SlotPart else pool) (λ q. at_part q ≡ Some (Descr c) → at_part (pool_part sh w) ≡ Some (Descr c)) (λ _ r. absurd (none_ r))
        (λ _. cond_both (is_entry_word sh lane w) EntryPart (if is_slot_word sh lane w then SlotPart else pool) (λ q. at_part q ≡ Some (Descr c) → at_part (pool_part sh w) ≡ Some (Descr c)) (λ _ r. absurd (none_ r))
        (λ _. cond_both (is_slot_word sh lane w) SlotPart pool (λ q. at_part q ≡ Some (Descr c) → at_part (pool_part sh w) ≡ Some (Descr c)) (λ _ r. absurd (none_ r)) (λ _ r. r))))

-- a descriptor's word is that of its chunk, which the pool has
pub descriptor_at : (sh : Shape) (lane w c : ℕ) → part_of sh lane w ≡ DescriptorPart c → (w ≡ word_of_descriptor sh c) × (c < chunks_of sh)
descriptor_at sh lane w c e = let y = is_at sh (λ c. 0) w (Descr c) (descriptor_place sh lane w c e) in (sym y.word, ltb-true c (chunks_of sh) y.inside)

pub some_class : (lines : ℕ) → 0 < blocks_of lines → 1 ≤ lines
some_class zero q = absurd (let z : 0 < 0 = q in omega arith)
some_class (suc n) q = omega arith

other_way : (c d : ℕ) → eqb c d ≡ eqb d c
other_way c d = ⊎_elim (λ (e : c ≡ d). eq-eqb c d e ∙ sym (eq-eqb d c (sym e))) (λ (ne : c ≢ d). ne_eqb c d ne ∙ sym (ne_eqb d c (λ e. ne (sym e)))) (cases_eq c d)

-- ---- the bits speak of no lane's area
bits_over : (sh : Shape) (L : ℕ) (o : State) (cells : Cells) (sights : ℕ → Sight) (g : Ghost) (generation seal : ℕ → ℕ) (entry slot : ℕ → ℕ → ℕ → ℕ) → Bits sh L o cells sights g → Bits sh L o (record cells { generation = generation; seal = seal; entry = entry; slot = slot }) sights g
bits_over sh L o cells sights g generation seal entry slot y = record { each_lane = λ j. over_area sh cells (Rattle.pm_world.specs.Lanes.settled o g) (Flies g j) g j (sights j) generation seal entry slot (y.each_lane j); beyond = y.beyond; unowned = y.unowned; descr = y.descr; occ = y.occ; geo = y.geo; alone = y.alone; counter = y.counter; flying = y.flying }

around_over : (k : ℕ) (h : Hold) (holds : ℕ → Hold) (cells cells' : Cells) (S S' : State) (g g' : Ghost) (generation seal : ℕ → ℕ) (entry slot : ℕ → ℕ → ℕ → ℕ) → Around k h holds cells cells' S S' g g' → Around k h holds cells (record cells' { generation = generation; seal = seal; entry = entry; slot = slot }) S S' g g'
around_over k h holds cells cells' S S' g g' generation seal entry slot y = record { writer = y.writer; reader = y.reader; pool = y.pool; set = y.set; descr = y.descr; up = y.up; runs = y.runs; holder = y.holder; holder_back = y.holder_back; class = y.class; first = y.first; flies = y.flies }

module _ (o : Opening) (mem new : Memory) (views views' : Views) (g : Past) (x : World o mem views g) (k : ℕ) (ink : k < o.lanes) (w n c : ℕ) (m : MayStore (views k) w n) (due : MayCount (views k)) (a : MayMark (views k) c n)
    (ph : (views k).log.phase ≡ Open) (is_part : part_in (views k) w ≡ DescriptorPart c) (b : Becomes (PoolWord w) n mem new) where
  abbrev v : View
  v = views k

  abbrev sh : Shape
  sh = (views k).fixed.shape

  abbrev cl : ℕ
  cl = n / 256

  abbrev S : State
  S = settled_words o g

  abbrev h : Hold
  h = (sight_of (views k)).hold

  abbrev claims' : List Claim
  claims' = Knows w n ∷ Marked c (n / 256) ∷ (views k).claims

  abbrev changes' : List Undrained
  changes' = undrained_by (views k) w ∷ (views k).changes

  abbrev g' : Past
  g' = record g { geo = record g.geo { class = put1 g.geo.class c (n / 256) } }

  abbrev v' : View
  v' = changed (Store w n) (views k) w all_bits n (Marked c (n / 256) ∷ (views k).claims) (views k).log

  fl : LaneFits o mem g k (views k)
  fl = x.each_lane k ink

  fk : SightFits o.shape (cells_of o.shape mem) S (Flies (ghost_of g) k) (ghost_of g) k (sight_of (views k))
  fk = x.bits.each_lane k

  at : w ≡ word_of_descriptor (views k).fixed.shape c
  at = (descriptor_at (views k).fixed.shape (views k).fixed.lane w c is_part).0

  at_o : w ≡ word_of_descriptor o.shape c
  at_o = subst (λ s. w ≡ word_of_descriptor s c) (x.each_lane k ink).shape at

  inside : c < chunks_of o.shape
  inside = subst (λ s. c < chunks_of s) (x.each_lane k ink).shape (descriptor_at (views k).fixed.shape (views k).fixed.lane w c is_part).1

  lane_in : (views k).fixed.lane < (views k).fixed.shape.lanes
  lane_in = subst (λ s. (views k).fixed.lane < s.lanes) (sym (x.each_lane k ink).shape) (subst (λ l. l < o.shape.lanes) (sym (x.each_lane k ink).lane) (let most = x.most_lanes in omega arith))

  part_o : part_of o.shape k w ≡ DescriptorPart c
  part_o = subst (λ s. part_of s k w ≡ DescriptorPart c) (x.each_lane k ink).shape (subst (λ l. part_of (views k).fixed.shape l w ≡ DescriptorPart c) (x.each_lane k ink).lane is_part)

  class_is_lines : n / 256 ≡ a.lines
  class_is_lines = let e = a.is in omega arith

  run_word : (n % 256 == 1) ≡ true
  run_word = let e = a.is in eq-eqb (n % 256) 1 (omega arith)

  early : is_decided (views k).log.phase ≡ false
  early = subst (λ z. is_decided z ≡ false) (sym ph) refl

  flight : Rattle.pm_world.specs.Lanes.in_flight (views k).log.phase ≡ false
  flight = subst (λ z. Rattle.pm_world.specs.Lanes.in_flight z ≡ false) (sym ph) refl

  first_c : g.geo.first c ≡ c
  first_c = eqb-true (g.geo.first c) c (fk.hold.mine (Big c) a.own).1

  no_run_c : g.runs c ≡ false
  no_run_c = fk.hold.free c (subst (λ d. h.mine (Big d) ≡ true) (sym first_c) a.own)

  unfound : (d i : ℕ) → d ≡ c → found (views k).fixed.shape (views k).claims (Small d i) ≡ false
  unfound d i e = false_from_ne_true (found (views k).fixed.shape (views k).claims (Small d i)) (λ t. both_ways (g.runs c) no_run_c (ap g.runs (sym e) ∙ (and_parts (g.runs d) (nat_lt i (blocks_of (g.geo.class d))) (fk.hold.found (Small d i) t).1).0))

  -- ---- THE SIGHT after the store
  here_is : (B : Block) → here (views k).fixed.shape (Knows w n ∷ Marked c (n / 256) ∷ (views k).claims) B ≡ here (views k).fixed.shape (views k).claims B
  here_is (Small d i) = ⊎_elim (λ (e : d ≡ c). and_left (found sh (views k).claims (Small d i)) (locked (views k).claims (header_in sh claims' (Small d i))) (unfound d i e) ∙ sym (and_left (found sh (views k).claims (Small d i)) (locked (views k).claims (header_in sh (views k).claims (Small d i))) (unfound d i e)))
      (λ (ne : d ≢ c). ap (λ z. found sh (views k).claims (Small d i) && locked (views k).claims (Rattle.pm_layout.specs.Chunks.line_of_chunk sh d + (1 + cond z cl (class (views k).claims d) * i))) (ne_eqb c d (λ e. ne (sym e)))) (cases_eq d c)
  here_is (Big d) = refl
  here_is Root = refl

  hold_is : hold_of (views k).fixed.shape (Knows w n ∷ Marked c (n / 256) ∷ (views k).claims) ≡ with_mark (sight_of (views k)).hold c (n / 256)
  hold_is = λ i. record (sight_of (views k)).hold { here = λ B. here_is B i; making = λ d. other_way c d i || making sh (views k).claims d; class = λ d. cond (other_way c d i) cl (class (views k).claims d) }

  apart : (q : Place) → is_pictured q ≡ true → w ≢ word_of (views k).fixed.shape q
  apart (InRun d u) t e = let l = ltb-true u 512 (and_parts (is_data (InRun d u)) (nat_lt u 512) t).1 in let z = at in omega arith
  apart (InHuge d u) t e = let l = ltb-true u 512 t in let z = at in omega arith
  apart (Descr d) t e = both_ways false refl t
  apart RootWord t e = let z = at in omega arith

  pictured_else : (u : ℕ) → w ≢ u → pictured (views k).fixed.shape (Knows w n ∷ Marked c (n / 256) ∷ (views k).claims) u ≡ pictured (views k).fixed.shape (views k).claims u
  pictured_else u ne = cond-false (w == u) (Some n) (pictured sh (views k).claims u) (ne_eqb w u ne)

  picture_is : (q : Place) (i : ℕ) → picture (views k).fixed.shape (Knows w n ∷ Marked c (n / 256) ∷ (views k).claims) q i ≡ picture (views k).fixed.shape (views k).claims q i
  picture_is q i = split (is_pictured q) (λ z. cond z (option_map (λ y. bit_at y i == 1) (pictured sh claims' (word_of sh q))) None ≡ cond z (option_map (λ y. bit_at y i == 1) (pictured sh (views k).claims (word_of sh q))) None)
      (λ t. ap (option_map (λ y. bit_at y i == 1)) (pictured_else (word_of sh q) (apart q t))) (λ _. refl)

  none_made : (B : Block) → is_made (turn (latest (redos (views k).log.entries)) B) ≡ false
  none_made B = ap (λ es. is_made (turn (latest (redos es)) B)) a.unentered ∙ go B
    where
      go : (B : Block) → is_made (turn (latest []) B) ≡ false
      go (Small d i) = refl
      go (Big d) = refl
      go Root = refl

  fresh_is : (q : Place) (i : ℕ) → fresh (views k).fixed.shape (Knows w n ∷ Marked c (n / 256) ∷ (views k).claims) (views k).log q i ≡ fresh (views k).fixed.shape (views k).claims (views k).log q i
  fresh_is q i = ap (λ y. cond (is_data q && (y || is_recorded (views k).log.records q)) (picture sh claims' q i) None) (none_made (block_of (geometry sh claims') q i))
      ∙ (ap (λ y. cond (is_data q && (false || is_recorded (views k).log.records q)) y None) (picture_is q i)
      ∙ sym (ap (λ y. cond (is_data q && (y || is_recorded (views k).log.records q)) (picture sh (views k).claims q i) None) (none_made (block_of (geometry sh (views k).claims) q i))))

  logged_is : (q : Place) → is_logged (views k).fixed.shape (views k).fixed.lane (undrained_by (views k) w ∷ (views k).changes) (views k).log.records q ≡ is_logged (views k).fixed.shape (views k).fixed.lane (views k).changes (views k).log.records q
  logged_is q = logged_else sh (views k).fixed.lane (undrained_by (views k) w) (views k).changes 0 (views k).log.records q (λ i l e. let z = at in let y = lane_in in let most = fl.log.records_most in let r : w / 8 ≡ line_of_slot sh (views k).fixed.lane i = e in omega arith)

  abbrev so : Place → ℕ → Bool
  so = is_soiled (views k).fixed.shape (hold_of (views k).fixed.shape (Knows w n ∷ Marked c (n / 256) ∷ (views k).claims)) (undrained_by (views k) w ∷ (views k).changes)

  abbrev marked : Sight
  marked = record (sight_of (views k)) { hold = with_mark (sight_of (views k)).hold c (n / 256); soiled = is_soiled (views k).fixed.shape (hold_of (views k).fixed.shape (Knows w n ∷ Marked c (n / 256) ∷ (views k).claims)) (undrained_by (views k) w ∷ (views k).changes) }

  sight_is : sight_of (changed (Store w n) (views k) w all_bits n (Marked c (n / 256) ∷ (views k).claims) (views k).log) ≡ record (sight_of (views k)) { hold = with_mark (sight_of (views k)).hold c (n / 256); soiled = is_soiled (views k).fixed.shape (hold_of (views k).fixed.shape (Knows w n ∷ Marked c (n / 256) ∷ (views k).claims)) (undrained_by (views k) w ∷ (views k).changes) }
  sight_is = λ i. record marked { hold = hold_is i; call = record { entries = redos (views k).log.entries; fresh = λ q j. fresh_is q j i }; picture = λ q j. picture_is q j i; logged = λ q. logged_is q i }

  -- ---- THE BITS after the store
  abbrev words : ℕ → ℕ
  words = put1 (λ u. mem (PoolWord u)) w n

  abbrev cells : Cells
  cells = cells_of o.shape mem

  -- a recorded word is in a block that the lane found
  recorded_here : (q : Place) → is_recorded (views k).log.records q ≡ true → (i : ℕ) → (sight_of (views k)).hold.here (block_of g.geo q i) ≡ true
  recorded_here q r i = ((fl.recorded early q r).1 i).0

  -- nothing of the chunk is recorded, nor made final
  of_block : (q : Place) (i : ℕ) → is_data q ≡ true → is_of_chunk c q ≡ true → is_recorded (views k).log.records q ≡ true → ⊥
  of_block (InRun d u) i dt t r = let j = part (g.geo.class d) u i in both_ways (found sh (views k).claims (Small d j)) (unfound d j (eqb-true d c t)) (and_parts (found sh (views k).claims (Small d j)) (locked (views k).claims (header_in sh (views k).claims (Small d j))) (recorded_here (InRun d u) r i)).0
  of_block (InHuge d u) i dt t r = let f : g.geo.first d ≡ c = ap g.geo.first (eqb-true d c t) ∙ first_c in let y = fk.hold.here (Big (g.geo.first d)) (recorded_here (InHuge d u) r i) in
      both_ways (Rattle.pm_world.specs.States.there S (Big c)) (fk.hold.mine (Big c) a.own).2 (subst (λ e. Rattle.pm_world.specs.States.there S (Big e) ≡ true) f (fk.hold.found (Big (g.geo.first d)) y.1).2)
  of_block (Descr d) i dt t r = both_ways false refl dt
  of_block RootWord i dt t r = both_ways false refl dt

  undiffed : (q : Place) (i : ℕ) → is_of_chunk c q ≡ true → given (diff (sight_of (views k)).call q i) ≡ false
  undiffed q i t = ap (λ es. given (diff (record (sight_of (views k)).call { entries = redos es }) q i)) a.unentered
      ∙ (ap (λ y. given (cond (is_data q && (y || is_recorded (views k).log.records q)) (picture sh (views k).claims q i) None)) (none_made (block_of (geometry sh (views k).claims) q i)) ∙ ap given (cond-false (is_data q && (false || is_recorded (views k).log.records q)) (picture sh (views k).claims q i) None
      (false_from_ne_true (is_data q && is_recorded (views k).log.records q) (λ y. let z = and_parts (is_data q) (is_recorded (views k).log.records q) y in of_block q i z.0 t z.1))))

  -- its bitmap is 0
  value_is : pictured (views k).fixed.shape (views k).claims (word_of_chunk (views k).fixed.shape c) ≡ Some 0
  value_is = go (Rattle.pm_view.specs.View.runs_one (views k) || is_held sh (views k).claims (word_of_chunk sh c)) a.no_block
    where
      go : (t : Bool) → cond t (pictured sh (views k).claims (word_of_chunk sh c)) None ≡ Some 0 → pictured sh (views k).claims (word_of_chunk sh c) ≡ Some 0
      go true e = e
      go false e = absurd (both_ways false refl (ap given e))

  own_c : (q : ℕ) → owns g.geo S (sight_of (views k)).hold (InHuge c 0) q ≡ true
  own_c q = subst (λ d. Rattle.pm_world.specs.Lanes.own h (Big d) ≡ true) (sym first_c) (mine_own h (Big c) a.own)

  empty : (i : ℕ) → read (cells_of o.shape mem).pool (InRun c 0) i ≡ false
  empty i = (fk.bits (InHuge c 0) i (own_c i)).3 false (ap (option_map (λ y. bit_at y i == 1)) (ap (pictured sh (views k).claims) (let q : word_of_chunk sh c + 0 ≡ word_of_chunk sh c = omega arith in q) ∙ value_is) ∙ ap (λ y. Some (y == 1)) (bit_at-zero i))

  as_huge : (u i : ℕ) (y : Bool) → (sight_of (views k)).picture (InRun c u) i ≡ Some y → (sight_of (views k)).picture (InHuge c u) i ≡ Some y
  as_huge u i y = go (nat_le 8 u) (nat_lt u 512) (option_map (λ z. bit_at z i == 1) (pictured sh (views k).claims (word_of_chunk sh c + u)))
    where
      go : (d l : Bool) (z : Option Bool) → cond (d && l) z None ≡ Some y → cond l z None ≡ Some y
      go true l z e = e
      go false l z e = absurd (both_ways false refl (ap given e))

  -- nothing of it is undrained
  untouched : (u i : ℕ) → u < 512 → is_dirty_bit (views k).changes (word_of_chunk (views k).fixed.shape c + u) i ≡ false
  untouched u i l = list_any_none (λ (d : Undrained). d.word == (word_of_chunk sh c + u) && bit_at d.mask i == 1) (views k).changes (λ j d y. let e = slice_index_or (views k).changes j d in
      false_from_ne_true (e.word == (word_of_chunk sh c + u) && bit_at e.mask i == 1) (λ z. let q = eqb-true e.word (word_of_chunk sh c + u) (and_parts (e.word == (word_of_chunk sh c + u)) (bit_at e.mask i == 1) z).0 in
      a.drained j d y (let r : e.word / 512 ≡ page_of_chunk sh c = omega arith in r)))

  -- the changes that cover another word are the old ones
  dirty_else : (q : Place) (i : ℕ) → w ≢ word_of (views k).fixed.shape q → is_dirty_bit (undrained_by (views k) w ∷ (views k).changes) (word_of (views k).fixed.shape q) i ≡ true → is_dirty_bit (views k).changes (word_of (views k).fixed.shape q) i ≡ true
  dirty_else q i ne t = sym (ap (λ y. (y && (bit_at all_bits i == 1)) || is_dirty_bit (views k).changes (word_of sh q) i) (ne_eqb w (word_of sh q) ne)) ∙ t

  fewer : (q : Place) (i : ℕ) → is_soiled (views k).fixed.shape (hold_of (views k).fixed.shape (Knows w n ∷ Marked c (n / 256) ∷ (views k).claims)) (undrained_by (views k) w ∷ (views k).changes) q i ≡ true → ((sight_of (views k)).soiled q i ≡ true) × (is_of_chunk c q ≡ false)
  fewer (InRun d u) i t = let use_ = nat_lt u 512 && not (cond (c == d) cl (class (views k).claims d) == 0) in let y = and_parts use_ (is_dirty_bit changes' (word_of sh (InRun d u)) i) t in
      let z = and_parts (nat_lt u 512) (not (cond (c == d) cl (class (views k).claims d) == 0)) y.0 in let l = ltb-true u 512 z.0 in
      let dirty = dirty_else (InRun d u) i (λ e. let s = at in omega arith) y.1 in
      let ne : d ≢ c = λ e. both_ways (is_dirty_bit (views k).changes (word_of_chunk sh d + u) i) (ap (λ r. is_dirty_bit (views k).changes (word_of_chunk sh r + u) i) e ∙ untouched u i l) dirty in
      (and_from (nat_lt u 512 && not (class (views k).claims d == 0)) (is_dirty_bit (views k).changes (word_of sh (InRun d u)) i) (sym (ap (λ r. nat_lt u 512 && not (cond r cl (class (views k).claims d) == 0)) (ne_eqb c d (λ e. ne (sym e)))) ∙ y.0) dirty, ne_eqb d c ne)
  fewer (InHuge d u) i t = let use_ = nat_lt u 512 && (cond (c == d) cl (class (views k).claims d) == 0) in let y = and_parts use_ (is_dirty_bit changes' (word_of sh (InHuge d u)) i) t in
      let z = and_parts (nat_lt u 512) (cond (c == d) cl (class (views k).claims d) == 0) y.0 in let l = ltb-true u 512 z.0 in
      let dirty = dirty_else (InHuge d u) i (λ e. let s = at in omega arith) y.1 in
      let ne : d ≢ c = λ e. both_ways (is_dirty_bit (views k).changes (word_of_chunk sh d + u) i) (ap (λ r. is_dirty_bit (views k).changes (word_of_chunk sh r + u) i) e ∙ untouched u i l) dirty in
      (and_from (nat_lt u 512 && (class (views k).claims d == 0)) (is_dirty_bit (views k).changes (word_of sh (InHuge d u)) i) (sym (ap (λ r. nat_lt u 512 && (cond r cl (class (views k).claims d) == 0)) (ne_eqb c d (λ e. ne (sym e)))) ∙ y.0) dirty, ne_eqb d c ne)
  fewer (Descr d) i t = let y = and_parts (not ((c == d) || making sh (views k).claims d)) (is_dirty_bit changes' (word_of sh (Descr d)) i) t in
      let z = not-true ((c == d) || making sh (views k).claims d) y.0 in
      let ne : d ≢ c = λ e. both_ways ((c == d) || making sh (views k).claims d) z (ap (λ r. r || making sh (views k).claims d) (eq-eqb c d (sym e))) in
      let dirty = dirty_else (Descr d) i (λ e. let s = at in ne (omega arith)) y.1 in
      (and_from (not (making sh (views k).claims d)) (is_dirty_bit (views k).changes (word_of sh (Descr d)) i) (sym (ap (λ r. not (r || making sh (views k).claims d)) (ne_eqb c d (λ e. ne (sym e)))) ∙ y.0) dirty, ne_eqb d c ne)
  fewer RootWord i t = (dirty_else RootWord i (λ e. let s = at in omega arith) t, refl)

  -- the pool's other places, and what the descriptor tells
  same_pool : (q : Place) (i : ℕ) → (q ≡ Descr c → ⊥) → bits_of o.shape (put1 (λ u. mem (PoolWord u)) w n) q i ≡ bits_of o.shape (λ u. mem (PoolWord u)) q i
  same_pool (InRun d u) i ne = split (nat_lt u 512) (λ z. ((nat_lt d (chunks_of o.shape) && z) && bit (words (word_of o.shape (InRun d u))) i) ≡ ((nat_lt d (chunks_of o.shape) && z) && bit (mem (PoolWord (word_of o.shape (InRun d u)))) i))
      (λ t. let l = ltb-true u 512 t in ap (λ y. (nat_lt d (chunks_of o.shape) && true) && bit y i) (put1_else (λ u. mem (PoolWord u)) w n (word_of o.shape (InRun d u)) (λ e. let s = at_o in omega arith)))
      (λ _. and_left (nat_lt d (chunks_of o.shape) && false) (bit (words (word_of o.shape (InRun d u))) i) (and_right (nat_lt d (chunks_of o.shape)) false refl) ∙ sym (and_left (nat_lt d (chunks_of o.shape) && false) (bit (mem (PoolWord (word_of o.shape (InRun d u)))) i) (and_right (nat_lt d (chunks_of o.shape)) false refl)))
  same_pool (InHuge d u) i ne = split (nat_lt u 512) (λ z. ((nat_lt d (chunks_of o.shape) && z) && bit (words (word_of o.shape (InHuge d u))) i) ≡ ((nat_lt d (chunks_of o.shape) && z) && bit (mem (PoolWord (word_of o.shape (InHuge d u)))) i))
      (λ t. let l = ltb-true u 512 t in ap (λ y. (nat_lt d (chunks_of o.shape) && true) && bit y i) (put1_else (λ u. mem (PoolWord u)) w n (word_of o.shape (InHuge d u)) (λ e. let s = at_o in omega arith)))
      (λ _. and_left (nat_lt d (chunks_of o.shape) && false) (bit (words (word_of o.shape (InHuge d u))) i) (and_right (nat_lt d (chunks_of o.shape)) false refl) ∙ sym (and_left (nat_lt d (chunks_of o.shape) && false) (bit (mem (PoolWord (word_of o.shape (InHuge d u)))) i) (and_right (nat_lt d (chunks_of o.shape)) false refl)))
  same_pool (Descr d) i ne = bits_else o.shape (λ u. mem (PoolWord u)) w n (Descr d) i (λ e. let s = at_o in ne (ap (λ r. Descr r) (let q : d ≡ c = omega arith in q)))
  same_pool RootWord i ne = bits_else o.shape (λ u. mem (PoolWord u)) w n RootWord i (λ e. let s = at_o in omega arith)

  here_now : put1 (λ u. mem (PoolWord u)) w n (word_of_descriptor o.shape c) ≡ n
  here_now = ap (put1 (λ u. mem (PoolWord u)) w n) (sym at_o) ∙ put1_here (λ u. mem (PoolWord u)) w n

  clear : (i : ℕ) → bits_of o.shape (put1 (λ u. mem (PoolWord u)) w n) (Descr c) i ≡ false
  clear i = and_right (is_place o.shape (Descr c)) (huge_told (words (word_of_descriptor o.shape c)) i) (ap (λ y. huge_told y i) here_now ∙ and_left (not (n % 256 == 1)) (bit n i) (ap not run_word))

  descr_is : (d : ℕ) → descriptor_told o.shape (put1 (λ u. mem (PoolWord u)) w n) d ≡ put1 (descriptor_told o.shape (λ u. mem (PoolWord u))) c (n / 256) d
  descr_is d = ⊎_elim (λ (e : d ≡ c). ap (descriptor_told o.shape words) e ∙ (cond-true (is_place o.shape (Descr c)) (run_told (words (word_of_descriptor o.shape c))) 0 (Rattle.std.proofs.lemmas.Bool.lt-ltb c (chunks_of o.shape) inside) ∙ (ap run_told here_now ∙ (cond-true (n % 256 == 1) (n / 256) 0 run_word
      ∙ (sym (put1_here (descriptor_told o.shape (λ u. mem (PoolWord u))) c (n / 256)) ∙ ap (put1 (descriptor_told o.shape (λ u. mem (PoolWord u))) c (n / 256)) (sym e))))))
      (λ (ne : d ≢ c). descriptor_else o.shape (λ u. mem (PoolWord u)) w n d (λ e. let s = at_o in ne (omega arith)) ∙ sym (put1_else (descriptor_told o.shape (λ u. mem (PoolWord u))) c (n / 256) d ne)) (cases_eq d c)

  marks : Marks o.shape o.lanes (origin o) (cells_of o.shape mem) (λ j. sight_of (views j)) (ghost_of g) x.bits k ink c (n / 256) (bits_of o.shape (put1 (λ u. mem (PoolWord u)) w n))
      (is_soiled (views k).fixed.shape (hold_of (views k).fixed.shape (Knows w n ∷ Marked c (n / 256) ∷ (views k).claims)) (undrained_by (views k) w ∷ (views k).changes))
  marks = record {
    own_ = a.own;
    one = a.one;
    unknown = a.unknown;
    some_ = subst (λ z. 1 ≤ z) (sym class_is_lines) (some_class a.lines a.some_blocks);
    blocks = subst (λ z. 0 < blocks_of z) (sym class_is_lines) a.some_blocks;
    empty = empty;
    undiffed = undiffed;
    pictured = as_huge;
    fewer = fewer;
    clear = clear;
    same_pool = same_pool;
  }

  -- ---- THE WORLD after the store
  other_word : (u : ℕ) → u ≢ w → new (PoolWord u) ≡ mem (PoolWord u)
  other_word u ne = b.0 (PoolWord u) (other_number (PoolWord u) (PoolWord w) ne)

  abbrev put_cells : Cells
  put_cells = cells_by o.shape (put1 (λ u. mem (PoolWord u)) w n) (λ l. mem (LockWord l)) (λ d. mem (RunWord d)) (λ z. mem (ZoneWord z)) (λ z. mem (ZoneLock z)) (mem CommitCounter) (mem StopWord)

  abbrev run_cells : Cells
  run_cells = record (cells_of o.shape mem) { pool = bits_of o.shape (put1 (λ u. mem (PoolWord u)) w n); descr = put1 (descriptor_told o.shape (λ u. mem (PoolWord u))) c (n / 256) }

  abbrev marked_cells : Cells
  marked_cells = record (record (cells_of o.shape mem) { pool = bits_of o.shape (put1 (λ u. mem (PoolWord u)) w n); descr = put1 (descriptor_told o.shape (λ u. mem (PoolWord u))) c (n / 256) })
      { generation = put_cells.generation; seal = put_cells.seal; entry = put_cells.entry; slot = put_cells.slot }

  cells_marked : cells_of o.shape new ≡ marked_cells
  cells_marked = cells_stored o.shape mem new w n b ∙ (λ j. record marked_cells { descr = λ d. descr_is d j })

  -- the log stands as it did
  recorded_owned : (q : Place) (i : ℕ) → is_recorded (views k).log.records q ≡ true → owns g.geo (settled_words o g) (sight_of (views k)).hold q i ≡ true → owns g'.geo (settled_words o g) (with_mark (sight_of (views k)).hold c (n / 256)) q i ≡ true
  recorded_owned (InRun d u) i r t = let y = recorded_here (InRun d u) r i in let z = (fk.hold.found (Small d (part (g.geo.class d) u i)) (fk.hold.here (Small d (part (g.geo.class d) u i)) y).1).1 in
      let ne : d ≢ c = λ e. both_ways (g.runs c) no_run_c (ap g.runs (sym e) ∙ (and_parts (g.runs d) (nat_lt (part (g.geo.class d) u i) (blocks_of (g.geo.class d))) z).0) in
      subst (λ s. (h.mine (Small d (part (cond s cl (g.geo.class d)) u i)) || (h.here (Small d (part (cond s cl (g.geo.class d)) u i)) || (s || h.making d))) ≡ true) (sym (ne_eqb d c ne)) t
  recorded_owned (InHuge d u) i r t = t
  recorded_owned (Descr d) i r t = t
  recorded_owned RootWord i r t = t

  -- and so do the blocks that recorded words are in
  still_found : (q : Place) → is_recorded (views k).log.records q ≡ true → RecordedFits g'.geo (record (sight_of (views k)) { hold = with_mark (sight_of (views k)).hold c (n / 256); soiled = is_soiled (views k).fixed.shape (hold_of (views k).fixed.shape (Knows w n ∷ Marked c (n / 256) ∷ (views k).claims)) (undrained_by (views k) w ∷ (views k).changes) }) q
  still_found q r = let y = fl.recorded early q r in (y.0, λ i. (in_block q r i, (y.1 i).1))
    where
      in_block : (q : Place) → is_recorded (views k).log.records q ≡ true → (i : ℕ) → here (views k).fixed.shape (views k).claims (block_of g'.geo q i) ≡ true
      in_block (InRun d u) r i = let y = fl.recorded early (InRun d u) r in let ne : (d == c) ≡ false = false_from_ne_true (d == c) (λ e. of_block (InRun d u) i y.0 e r) in
          subst (λ z. here (views k).fixed.shape (views k).claims (Small d (part (cond z (n / 256) (g.geo.class d)) u i)) ≡ true) (sym ne) (y.1 i).0
      in_block (InHuge d u) r i = recorded_here (InHuge d u) r i
      in_block (Descr d) r i = recorded_here (Descr d) r i
      in_block RootWord r i = recorded_here RootWord r i

  abbrev LogOf : Sight → Type 0
  LogOf y = LogFits o.shape k ((cells_of o.shape new).generation k) ((cells_of o.shape new).seal k) ((cells_of o.shape new).entry k) ((cells_of o.shape new).slot k) (settled_words o g) (owns g'.geo (settled_words o g) y.hold) y.picture (views k).log (undrained_by (views k) w ∷ (views k).changes)

  known_zero : IsOld 0 (undrained_by (views k) w)
  known_zero = old_known (views k) w 0 (DescriptorPart c) is_part (λ known. ap (λ q. was_of q (DescriptorPart c) known) ph) (omega arith) (ap (value_in (views k)) at ∙ a.clear)

  log_marked : LogOf (record (sight_of (views k)) { hold = with_mark (sight_of (views k)).hold c (n / 256); soiled = is_soiled (views k).fixed.shape (hold_of (views k).fixed.shape (Knows w n ∷ Marked c (n / 256) ∷ (views k).claims)) (undrained_by (views k) w ∷ (views k).changes) })
  log_marked = let l = fl.log in let most = l.entries_most in let less = l.records_most in let spot = at_o in let lanes = x.most_lanes in record {
    first = l.first;
    last = l.last;
    below = l.below;
    stored = other_word (word_of_generation o.shape k) (λ q. omega arith) ∙ l.stored;
    bump = l.bump;
    sealed = other_word (word_of_seal o.shape k) (λ q. omega arith) ∙ l.sealed;
    entries_most = l.entries_most;
    records_most = l.records_most;
    pairs = λ i d q. let z = l.pairs i d q in let r = slice_get_within (views k).log.entries i d q in (other_word (word_of_entry o.shape k i + 0) (λ s. omega arith) ∙ z.0, other_word (word_of_entry o.shape k i + 1) (λ s. omega arith) ∙ z.1, z.2, z.3);
    pair_part = λ i q. let r = parts_short o.shape k (sight_of (views k)).picture (views k).log (views k).changes (views k).log.phase l.phase in other_word (word_of_entry o.shape k (length (views k).log.entries) + i) (λ s. omega arith) ∙ l.pair_part i q;
    records = λ i d q. let z = l.records i d q in let r = slice_get_within (views k).log.records i d q in (λ y s. other_word (8 * line_of_slot o.shape k i + y) (λ t. omega arith) ∙ z.0 y s, z.1, z.2, z.3, z.4, z.5);
    once = l.once;
    olds = λ q y r i. let z = l.olds q y r i in (recorded_owned q i (ap given r) z.0, z.1);
    slot_part = λ i q. let r = parts_short o.shape k (sight_of (views k)).picture (views k).log (views k).changes (views k).log.phase l.phase in let s = slot_taken (views k).log i q in other_word (8 * line_of_slot o.shape k (length (views k).log.records) + i) (λ t. omega arith) ∙ l.slot_part i q;
    stale = λ i u q z t. l.stale i u q z (sym (ap undo_of (slots i z)) ∙ t);
    slot_changes = all_cons (λ (d : Undrained). part_of o.shape k d.word ≡ SlotPart → d.word < 8 * line_of_slot o.shape k (Rattle.pm_world.specs.Logs.used_slots ((views k).log))) (undrained_by (views k) w) (views k).changes (λ e. absurd (let r = slot_range o.shape k w e in let s = at_o in let m = x.most_lanes in omega arith)) l.slot_changes;
    area_changes = all_cons (λ (d : Undrained). AreaChange (views k).log.phase (length (views k).log.entries) (views k).log.generation (part_of o.shape k d.word) d) (undrained_by (views k) w) (views k).changes
        (subst (λ z. AreaChange z (length (views k).log.entries) (views k).log.generation (part_of o.shape k w) (undrained_by (views k) w)) (sym ph) (subst (λ q. AreaChange Open (length (views k).log.entries) (views k).log.generation q (undrained_by (views k) w)) (sym part_o) known_zero)) l.area_changes;
    phase = subst (λ z. PhaseFits o.shape k (sight_of (views k)).picture (views k).log (undrained_by (views k) w ∷ (views k).changes) z) (sym ph) (subst (λ z. PhaseFits o.shape k (sight_of (views k)).picture (views k).log (views k).changes z) ph l.phase);
  }
    where
      slots : (i : ℕ) → i < undo_slots o.shape → slot_list (λ y. new (PoolWord (8 * line_of_slot o.shape k i + y))) ≡ slot_list (λ y. mem (PoolWord (8 * line_of_slot o.shape k i + y)))
      slots i l = let spot = at_o in let lanes = x.most_lanes in λ t. one 0 (omega arith) t ∷ one 1 (omega arith) t ∷ one 2 (omega arith) t ∷ one 3 (omega arith) t ∷ one 4 (omega arith) t ∷ one 5 (omega arith) t ∷ one 6 (omega arith) t ∷ one 7 (omega arith) t ∷ []
        where
          one : (y : ℕ) → y < 8 → new (PoolWord (8 * line_of_slot o.shape k i + y)) ≡ mem (PoolWord (8 * line_of_slot o.shape k i + y))
          one y q = let spot = at_o in let lanes = x.most_lanes in other_word (8 * line_of_slot o.shape k i + y) (λ s. omega arith)

  alone_marked : AloneFits mem (views k) → AloneFits new (changed (Store w n) (views k) w all_bits n (Marked c (n / 256) ∷ (views k).claims) (views k).log)
  alone_marked z = record {
    words = λ u y e. ⊎_elim (λ (q : w ≡ u). ap (λ i. new (PoolWord i)) (sym q) ∙ (b.1 ∙ some_same n y (sym (cond-true (w == u) (Some n) (pictured sh (views k).claims u) (eq-eqb w u q)) ∙ e)))
        (λ (ne : w ≢ u). other_word u (λ q. ne (sym q)) ∙ z.words u y (sym (pictured_else u ne) ∙ e)) (cases_eq w u);
    occupancy = λ spot y e. (b.0 (occ_at spot) (occ_sort spot (PoolWord w) (λ q. omega arith) (λ q. omega arith)) ∙ (z.occupancy spot y e).0, (z.occupancy spot y e).1);
  }
    where
      value : Option ℕ → ℕ
      value None = 0
      value (Some y) = y

      some_same : (d e : ℕ) → Some d ≡ Some e → d ≡ e
      some_same d e q = ap value q

  lane_marked : LaneFits o new g' k (changed (Store w n) (views k) w all_bits n (Marked c (n / 256) ∷ (views k).claims) (views k).log)
  lane_marked = record {
    lane = fl.lane;
    shape = fl.shape;
    lanes = fl.lanes;
    log = subst (λ y. LogFits o.shape k ((cells_of o.shape new).generation k) ((cells_of o.shape new).seal k) ((cells_of o.shape new).entry k) ((cells_of o.shape new).slot k) (settled_words o g) (owns g'.geo (settled_words o g) y.hold) y.picture (views k).log (undrained_by (views k) w ∷ (views k).changes)) (sym sight_is) log_marked;
    made = λ t. absurd (both_ways (is_decided (views k).log.phase) early t);
    recorded = λ u q r. subst (λ y. RecordedFits g'.geo y q) (sym sight_is) (still_found q r);
    number = fl.number;
    zones = λ z. ap (λ y. y == suc k) (b.0 (ZoneLock z) (other_sort (ZoneLock z) (PoolWord w) (λ q. omega arith))) ∙ fl.zones z;
    masks = all_cons (λ (d : Undrained). (d.mask < 2 ^ 64) × (d.word < words_of o.shape)) (undrained_by (views k) w) (views k).changes (omega arith, subst (λ s. w < words_of s) fl.shape m.inside) fl.masks;
    room = let r = m.room in omega arith;
    within = counts_on (views k).fixed.stop (length (views k).calls) due;
    alone = λ one. alone_marked (fl.alone one);
    entries = fl.entries;
  }

  small_word : (u : ℕ) → new (PoolWord u) < 2 ^ 64
  small_word u = ⊎_elim (λ (q : u ≡ w). subst (λ y. y < 2 ^ 64) (sym (ap (λ i. new (PoolWord i)) q ∙ b.1)) m.small) (λ (ne : u ≢ w). subst (λ y. y < 2 ^ 64) (sym (other_word u ne)) (x.small u)) (cases_eq u w)

  mark_world : Turn views views' k (changed (Store w n) (views k) w all_bits n (Marked c (n / 256) ∷ (views k).claims) (views k).log) → World o new views' (record g { geo = record g.geo { class = put1 g.geo.class c (n / 256) } })
  mark_world t = let spot = at_o in let lanes = x.most_lanes in let far = turned views views' k v' t in
      let step = marks_run o.shape o.lanes (origin o) (cells_of o.shape mem) (λ j. sight_of (views j)) (ghost_of g) x.bits k ink c (n / 256) (bits_of o.shape (put1 (λ u. mem (PoolWord u)) w n)) so marks early flight (λ j. sight_of (views' j)) (record { here = far.here ∙ sight_is; else_ = far.else_ }) in
      world_with o mem views g x k ink new views' g' (settled_words o g) v' refl
      (subst (λ y. Around k (sight_of (views k)).hold (λ j. (sight_of (views j)).hold) (cells_of o.shape mem) y (settled_words o g) (settled_words o g) (ghost_of g) (ghost_of g')) (sym cells_marked)
      (around_over k (sight_of (views k)).hold (λ j. (sight_of (views j)).hold) (cells_of o.shape mem) run_cells (settled_words o g) (settled_words o g) (ghost_of g) (ghost_of g') put_cells.generation put_cells.seal put_cells.entry put_cells.slot step.0))
      record {
        generation = λ j l ne. other_word (word_of_generation o.shape j) (λ q. omega arith);
        seal = λ j l ne. other_word (word_of_seal o.shape j) (λ q. omega arith);
        entry = λ j i half l r s ne. other_word (word_of_entry o.shape j i + half) (λ q. omega arith);
        slot = λ j i y l r s ne. other_word (8 * line_of_slot o.shape j i + y) (λ q. omega arith);
        zone = λ z j ne. ap (λ y. y == suc j) (b.0 (ZoneLock z) (other_sort (ZoneLock z) (PoolWord w) (λ q. omega arith)));
        entries = λ j ne. refl;
      } t
      (subst (λ y. Bits o.shape o.lanes (origin o) y (λ j. sight_of (views' j)) (ghost_of g')) (sym cells_marked)
      (bits_over o.shape o.lanes (origin o) run_cells (λ j. sight_of (views' j)) (ghost_of g') put_cells.generation put_cells.seal put_cells.entry put_cells.slot step.1))
      lane_marked x.of_lanes small_word (λ u e. let l = ltb-true u 512 (and_parts (nat_lt u 512) (not (u == word_of_root o.shape)) e).0 in other_word u (λ q. omega arith) ∙ x.header u e)
      (let d = count_same views views' k v' t refl o.lanes in let r = x.counter_room in let e = b.0 CommitCounter (other_sort CommitCounter (PoolWord w) (λ q. omega arith)) in omega arith)
      (⊎_elim (λ (q : mem StopWord ≡ 0). inl (b.0 StopWord (other_sort StopWord (PoolWord w) (λ z. omega arith)) ∙ q)) (λ (q : (j : ℕ) × (j < o.lanes) × IsAtStop (views j)). inr (q.0, q.1, stops_stay views views' k v' t (stop_stays (views k).fixed.stop (length (views k).calls)) q.0 q.2)) x.stop_word)

-- THE STORE OF A RUN'S DESCRIPTOR KEEPS THE WORLD
pub store_mark : (c : ℕ) → KeepsAt Open (DescriptorPart c)
store_mark c = keeps_at Open (DescriptorPart c) (λ w n o mem new views views' g k x ink m due a e p b t. mark_world o mem new views views' g x k ink w n c m due a e p b t)
