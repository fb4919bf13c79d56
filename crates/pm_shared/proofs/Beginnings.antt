-- HOW THE TABLE BEGINS: its words are the memory of a world of lanes that were asked nothing, and the pool's seat has them all.
use Rattle.std.proofs.Common.{◌≡◌, ℕ, zero, suc, ◌+◌, ◌-◌, ◌/◌, ◌%◌, ◌<◌, ◌≤◌, ◌⊎◌, ⊎_elim, nat_lt, Bool, true, false, List, [], ◌∷◌, ◌++◌, length, replicate, slice_index, Option, None, refl, sym, ap, ◌∙◌, subst, arith}
use Rattle.std.proofs.lemmas.Bool.{both_ways, cases_lt, cond-false, false_from_ne_true, ltb-true}
use Rattle.std.proofs.lemmas.List.{get_or_append_left, get_or-append-add, get_or-replicate, get_or_past, length-append, length-replicate, append-nil}
use mathlib.Core.Option.{some, some-injective, some-ne-none}
use lib.ListN.{get_elem?}
use Rattle.atomic_table.specs.Table.{opening}
use Rattle.pm_layout.specs.Chunks.{words_of, page_of_chunk, word_of_descriptor}
use Rattle.pm_view.specs.Places.{Small, Big, Root}
use Rattle.pm_view.specs.View.{View}
use Rattle.pm_world.proofs.OpenFaults.{opens, in_table}
use Rattle.pm_world.proofs.OpenWords.{IsRunIn, IsHugeIn}
use Rattle.pm_world.proofs.StepMark.{some_class}
use Rattle.pm_world.specs.Memory.{Location, PoolWord, LockWord, RunWord, ZoneWord, ZoneLock, CommitCounter, StopWord, bit}
use Rattle.pm_world.specs.Opens.{IsOpening, IsTaken, OpensIdle, descriptor}
use Rattle.pm_shared.proofs.Asked.{place_is}
use Rattle.pm_shared.proofs.TableRuns.{run_begins}
use Rattle.pm_shared.specs.declared.rule.Beginning.{Beginning}
use Rattle.pm_shared.specs.Openings.{CanBegin, opening_of, fixed_of, generation_of, idle_view, idle_from, first_known, table_words, pool_of}
use Rattle.pm_shared.specs.Placing.{sort_of, number_of, count_of, start_of, table_size, place, said, memory_of}
use Rattle.pm_shared.specs.Rule.{Knowledge, Pool, DescriptorsFit, Sound, Crew, SeatFits}
use Rattle.pm_shared.specs.TableRule.{Ruled}
use Rattle.pm_shared.specs.TableRun.{Begins, moment}

-- ---- THE VIEWS of lanes one after another
at_idle : (b : Beginning) (k m n : ℕ) (v : View) → get_elem? (idle_from b k m) n ≡ some v → (n < m) × (idle_view b (k + n) ≡ v)
at_idle b k zero n v e = absurd (some-ne-none v (sym e))
at_idle b k (suc m) zero v e = let z : k + 0 ≡ k = omega arith in (omega arith, ap (idle_view b) z ∙ some-injective (idle_view b k) v e)
at_idle b k (suc m) (suc n) v e = let t = at_idle b (suc k) m n v e in let l = t.0 in let z : k + suc n ≡ suc k + n = omega arith in (omega arith, ap (idle_view b) z ∙ t.1)

-- the pool's seat at the beginning, and with its first lane written out
pub first_pool : (b : Beginning) → (first_known b, []) ≡ pool_of b 0 []
first_pool b = let e : b.lanes - 0 ≡ b.lanes = omega arith in ap (λ n. (Pool (idle_from b 0 n), [])) (sym e) ∙ ap (λ (vs : List View). (Pool vs, [])) (sym (append-nil (idle_from b 0 (b.lanes - 0))))

pub next_pool : (b : Beginning) (n : ℕ) (back : List View) → n < b.lanes → pool_of b n back ≡ (Pool (idle_view b n ∷ (idle_from b (n + 1) (b.lanes - (n + 1)) ++ back)), [])
next_pool b n back few = let m : ℕ = b.lanes - (n + 1) in let e : b.lanes - n ≡ suc m = omega arith in let f : suc n ≡ n + 1 = omega arith in
    ap (λ k. (Pool (idle_from b n k ++ back), [])) e ∙ ap (λ k. (Pool (idle_view b n ∷ (idle_from b k m ++ back)), [])) f

module _ (b : Beginning) (can : CanBegin b) where
  abbrev all : List ℕ
  all = table_words b

  few : b.lanes ≤ 32
  few = let most = can.most_lanes in let to = b.shape.lanes_to in omega arith

  -- ---- THE WORDS, sort by sort
  lines_long : length {A = ℕ} (replicate (words_of b.shape / 8) 0) ≡ words_of b.shape / 8
  lines_long = length-replicate (words_of b.shape / 8) 0

  others_long : length {A = ℕ} (replicate (b.shape.zones + 2 + b.shape.lanes) 0) ≡ b.shape.zones + 2 + b.shape.lanes
  others_long = length-replicate (b.shape.zones + 2 + b.shape.lanes) 0

  abbrev lines : List ℕ
  lines = replicate (words_of b.shape / 8) 0

  abbrev others : List ℕ
  others = replicate (b.shape.zones + 2 + b.shape.lanes) 0

  pub all_long : length (table_words b) ≡ table_size b.shape
  all_long = let q = length-append b.words.items (lines ++ (b.runs.items ++ (b.zones.items ++ others))) in let r = length-append lines (b.runs.items ++ (b.zones.items ++ others)) in
      let s = length-append b.runs.items (b.zones.items ++ others) in let t = length-append b.zones.items others in let l = lines_long in let m = others_long in let a = can.size in let c = can.occupancy.pages in let d = can.occupancy.zone_count in
      omega (arith, q, r, s, t, l, m, a, c, d)

  in_pool : (n : ℕ) → n < length b.words.items → slice_index (table_words b) n ≡ slice_index b.words.items n
  in_pool n l = get_or_append_left b.words.items (lines ++ (b.runs.items ++ (b.zones.items ++ others))) 0 n l

  in_lines : (n i : ℕ) → i ≡ length b.words.items + n → n < words_of b.shape / 8 → slice_index (table_words b) i ≡ 0
  in_lines n i at l = ap (slice_index (table_words b)) at ∙ (get_or-append-add b.words.items (lines ++ (b.runs.items ++ (b.zones.items ++ others))) n 0
      ∙ (get_or_append_left lines (b.runs.items ++ (b.zones.items ++ others)) 0 n (let q = lines_long in omega (arith, q)) ∙ get_or-replicate (words_of b.shape / 8) n 0 0 l))

  in_runs : (n i : ℕ) → i ≡ length b.words.items + (length lines + n) → n < length b.runs.items → slice_index (table_words b) i ≡ slice_index b.runs.items n
  in_runs n i at l = ap (slice_index (table_words b)) at ∙ (get_or-append-add b.words.items (lines ++ (b.runs.items ++ (b.zones.items ++ others))) (length lines + n) 0
      ∙ (get_or-append-add lines (b.runs.items ++ (b.zones.items ++ others)) n 0 ∙ get_or_append_left b.runs.items (b.zones.items ++ others) 0 n l))

  in_zones : (n i : ℕ) → i ≡ length b.words.items + (length lines + (length b.runs.items + n)) → n < length b.zones.items → slice_index (table_words b) i ≡ slice_index b.zones.items n
  in_zones n i at l = ap (slice_index (table_words b)) at ∙ (get_or-append-add b.words.items (lines ++ (b.runs.items ++ (b.zones.items ++ others))) (length lines + (length b.runs.items + n)) 0
      ∙ (get_or-append-add lines (b.runs.items ++ (b.zones.items ++ others)) (length b.runs.items + n) 0 ∙ (get_or-append-add b.runs.items (b.zones.items ++ others) n 0 ∙ get_or_append_left b.zones.items others 0 n l)))

  in_others : (n i : ℕ) → i ≡ length b.words.items + (length lines + (length b.runs.items + (length b.zones.items + n))) → n < b.shape.zones + 2 + b.shape.lanes → slice_index (table_words b) i ≡ 0
  in_others n i at l = ap (slice_index (table_words b)) at ∙ (get_or-append-add b.words.items (lines ++ (b.runs.items ++ (b.zones.items ++ others))) (length lines + (length b.runs.items + (length b.zones.items + n))) 0
      ∙ (get_or-append-add lines (b.runs.items ++ (b.zones.items ++ others)) (length b.runs.items + (length b.zones.items + n)) 0 ∙ (get_or-append-add b.runs.items (b.zones.items ++ others) (length b.zones.items + n) 0
      ∙ (get_or-append-add b.zones.items others n 0 ∙ get_or-replicate (b.shape.zones + 2 + b.shape.lanes) n 0 0 l))))

  -- a location that the pool does not have
  beyond : (l : Location) → count_of b.shape (sort_of l) ≤ number_of l → slice_index (table_words b) (place b.shape l) ≡ 0
  beyond l past = ap (slice_index (table_words b)) (cond-false (nat_lt (number_of l) (count_of b.shape (sort_of l))) (start_of b.shape (sort_of l) + number_of l) (table_size b.shape)
      (false_from_ne_true (nat_lt (number_of l) (count_of b.shape (sort_of l))) (λ t. let q = ltb-true (number_of l) (count_of b.shape (sort_of l)) t in absurd (omega arith))))
      ∙ get_or_past (table_words b) (table_size b.shape) 0 (let q = all_long in omega (arith, q))

  either : (l : Location) (x : ℕ) → (number_of l < count_of b.shape (sort_of l) → place b.shape l ≡ start_of b.shape (sort_of l) + number_of l → slice_index (table_words b) (place b.shape l) ≡ x) → (count_of b.shape (sort_of l) ≤ number_of l → x ≡ 0) → slice_index (table_words b) (place b.shape l) ≡ x
  either l x here past = ⊎_elim (λ (f : number_of l < count_of b.shape (sort_of l)). here f (place_is b.shape l f))
      (λ (p : count_of b.shape (sort_of l) ≤ number_of l). beyond l p ∙ sym (past p)) (cases_lt (number_of l) (count_of b.shape (sort_of l)))

  pool_word : (w : ℕ) → slice_index (table_words b) (place b.shape (PoolWord w)) ≡ slice_index b.words.items w
  pool_word w = either (PoolWord w) (slice_index b.words.items w) (λ f p. let s = can.size in let e : place b.shape (PoolWord w) ≡ 0 + w = p in let q : place b.shape (PoolWord w) ≡ w = omega arith in ap (slice_index (table_words b)) q ∙ in_pool w (omega (arith, f, s)))
      (λ p. get_or_past b.words.items w 0 (let s = can.size in omega (arith, p, s)))

  lock_word : (l : ℕ) → slice_index (table_words b) (place b.shape (LockWord l)) ≡ 0
  lock_word l = either (LockWord l) 0 (λ f p. in_lines l (place b.shape (LockWord l)) (let s = can.size in omega (arith, p, s)) f) (λ p. refl)

  run_word : (c : ℕ) → slice_index (table_words b) (place b.shape (RunWord c)) ≡ slice_index b.runs.items c
  run_word c = either (RunWord c) (slice_index b.runs.items c) (λ f p. in_runs c (place b.shape (RunWord c)) (let s = can.size in let n = lines_long in omega (arith, p, s, n)) (let r = can.occupancy.pages in omega (arith, f, r)))
      (λ p. get_or_past b.runs.items c 0 (let r = can.occupancy.pages in omega (arith, p, r)))

  zone_word : (z : ℕ) → slice_index (table_words b) (place b.shape (ZoneWord z)) ≡ slice_index b.zones.items z
  zone_word z = either (ZoneWord z) (slice_index b.zones.items z) (λ f p. in_zones z (place b.shape (ZoneWord z)) (let s = can.size in let n = lines_long in let r = can.occupancy.pages in omega (arith, p, s, n, r)) (let y = can.occupancy.zone_count in omega (arith, f, y)))
      (λ p. get_or_past b.zones.items z 0 (let y = can.occupancy.zone_count in omega (arith, p, y)))

  zone_lock : (z : ℕ) → slice_index (table_words b) (place b.shape (ZoneLock z)) ≡ 0
  zone_lock z = either (ZoneLock z) 0 (λ f p. in_others z (place b.shape (ZoneLock z)) (let s = can.size in let n = lines_long in let r = can.occupancy.pages in let y = can.occupancy.zone_count in omega (arith, p, s, n, r, y)) (omega (arith, f))) (λ p. refl)

  counter : slice_index (table_words b) (place b.shape CommitCounter) ≡ 0
  counter = either CommitCounter 0 (λ f p. in_others b.shape.zones (place b.shape CommitCounter) (let s = can.size in let n = lines_long in let r = can.occupancy.pages in let y = can.occupancy.zone_count in omega (arith, p, s, n, r, y)) (omega arith)) (λ p. refl)

  stop : slice_index (table_words b) (place b.shape StopWord) ≡ 0
  stop = either StopWord 0 (λ f p. in_others (b.shape.zones + 1) (place b.shape StopWord) (let s = can.size in let n = lines_long in let r = can.occupancy.pages in let y = can.occupancy.zone_count in omega (arith, p, s, n, r, y)) (omega arith)) (λ p. refl)

  -- ---- THE WORLD
  begins : IsOpening (opening_of b) (memory_of b.shape (table_words b)) (fixed_of b) (generation_of b)
  begins = record {
    start = record {
      some_lanes = can.some_lanes;
      most_lanes = can.most_lanes;
      few_lanes = few;
      words = pool_word;
      locks = λ l. ap Rattle.pm_shared.specs.Placing.lock_said (lock_word l);
      zone_locks = zone_lock;
      counter = counter;
      stop = stop;
      lane = λ k. refl;
      shape = λ k. refl;
      lanes = λ k. refl;
    };
    size = can.size;
    small = can.small;
    retired = can.retired;
  }

  taken : IsTaken (opening_of b) (memory_of b.shape (table_words b))
  taken (Small c i) h = ap (λ y. bit y i) (run_word (page_of_chunk b.shape c)) ∙ can.occupancy.taken (Small c i) h
  taken (Big c) h = ap (λ y. bit y (c % 64)) (zone_word (c / 64)) ∙ can.occupancy.taken (Big c) h
  taken Root h = refl

  world : OpensIdle (opening_of b) (memory_of b.shape (table_words b)) (fixed_of b) (generation_of b)
  world = opens (opening_of b) (memory_of b.shape (table_words b)) (fixed_of b) (generation_of b) begins can.whole taken

  described : DescriptorsFit b.shape (memory_of b.shape (table_words b))
  described c inside one = let e : descriptor (opening_of b) c ≡ 1 = sym (pool_word (word_of_descriptor b.shape c)) ∙ one in ⊎_elim
      (λ (z : descriptor (opening_of b) c ≡ 0). absurd (omega (arith, e, z)))
      (λ (t : IsRunIn (opening_of b) c ⊎ IsHugeIn (opening_of b) c). ⊎_elim
      (λ (y : IsRunIn (opening_of b) c). let l = some_class (descriptor (opening_of b) c / 256) y.1 in let q : descriptor (opening_of b) c / 256 ≡ 0 = ap (λ n. n / 256) e in absurd (omega (arith, l, q)))
      (λ (y : IsHugeIn (opening_of b) c). let z = y.0 in let q : descriptor (opening_of b) c % 256 ≡ 1 = ap (λ n. n % 256) e in absurd (omega (arith, z, q))) t)
      (in_table (opening_of b) can.whole c inside)

  pub sound : Sound (opening_of b) (memory_of b.shape (table_words b)) (idle_view b)
  sound = record { descriptors = described; sets = λ k i e p at. absurd (both_ways false refl (ap has at)) }
    where
      has : Option Rattle.pm_view.specs.Entries.Entry → Bool
      has None = false
      has (Rattle.std.specs.Prelude.Some e) = true

  crew : Crew (opening_of b) (idle_view b) (λ _. 0) 0 (idle_from b 0 b.lanes)
  crew = record {
    each = λ n v at. let t = at_idle b 0 b.lanes n v at in let l = t.0 in let z : 0 + n ≡ n = omega arith in let same : n ≡ v.fixed.lane = sym z ∙ ap (λ (x : View). x.fixed.lane) t.1 in
        record { inside = omega (arith, same, l); view = ap (idle_view b) (sym same ∙ sym z) ∙ t.1; owner_is = refl };
    apart = λ n m v w here there same. let t = at_idle b 0 b.lanes n v here in let s = at_idle b 0 b.lanes m w there in
        let p : 0 + n ≡ v.fixed.lane = ap (λ (x : View). x.fixed.lane) t.1 in let q : 0 + m ≡ w.fixed.lane = ap (λ (x : View). x.fixed.lane) s.1 in omega (arith, p, q, same);
  }

  first_moment : Begins (opening_of b) (idle_view b)
      (moment (memory_of b.shape (table_words b)) (idle_view b) world.0)
  first_moment = record {
    world = world.1;
    start = begins.start;
    views_are = refl;
    past_is = world.4;
    no_call = world.2;
    words_are = pool_word;
    taken = taken;
    whole = can.whole;
    sizes = world.3;
  }

  -- THE RULE HOLDS AT THE BEGINNING
  pub ruled : Ruled b (opening (table_words b) [] (first_known b))
  ruled = record {
    views = idle_view b;
    owner = λ _. 0;
    past = world.0;
    size = all_long;
    world = world.1;
    run = run_begins (opening_of b) (idle_view b) (moment (memory_of b.shape (table_words b)) (idle_view b) world.0) first_moment;
    sound = sound;
    seats = first_seat;
  }
    where
      first_seat : (id : ℕ) (w : Knowledge) → get_elem? (first_known b ∷ []) id ≡ some w → SeatFits (opening_of b) (memory_of b.shape (table_words b)) (idle_view b) (λ _. 0) id w
      first_seat zero w e = subst (SeatFits (opening_of b) (memory_of b.shape (table_words b)) (idle_view b) (λ _. 0) 0) (some-injective (first_known b) w e) crew
      first_seat (suc id) w e = absurd (some-ne-none w (sym e))
