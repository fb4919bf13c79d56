-- Calls by which a lane looks before its step, and the steps that rest on what it saw.
use Rattle.std.proofs.Common.{◌≡◌, ◌≢◌, ℕ, zero, suc, ◌-◌, ◌/◌, ◌^◌, ◌<◌, ⊎_elim, true, false, cond, not, eqb, List, [], ◌∷◌, length, slice_index, set, Option, None, Some, bit_and, bit_or, refl, sym, ap, ◌∙◌, subst, eq-eqb, ne_eqb}
use Rattle.std.specs.Int.{bit_not, w64}
use Rattle.std.proofs.lemmas.Bool.{cases_eq, both_ways}
use mathlib.Core.Option.{some, none}
use lib.ListN.{get_elem?}
use prog.Atomic.{either}
use Rattle.atomic_table.specs.Table.{State, Me, Step as TableStep, keeps, Allows, step, stepped, carried_after}
use Rattle.atomic_table.proofs.Lists.{at_set, set_again}
use Rattle.pm_layout.specs.declared.shape.Shape.{Shape}
use Rattle.pm_layout.specs.Chunks.{words_of}
use Rattle.pm_view.specs.declared.occ.Occ.TheVariants.{Zone}
use Rattle.pm_view.specs.Claims.{locked}
use Rattle.pm_view.specs.LockWords.{reader_bit, writer_bit}
use Rattle.pm_view.specs.Steps.{Step}
use Rattle.pm_view.specs.Steps.Step.{Give, Occupy}
use Rattle.pm_view.specs.View.{View}
use Rattle.pm_world.specs.Lawful.{IsLawful}
use Rattle.pm_world.specs.Memory.{LockWord, ZoneWord, bit}
use Rattle.pm_world.specs.Moves.{Moves}
use Rattle.pm_world.specs.World.{Opening}
use Rattle.pm_shared.specs.declared.mem.SharedMem.{SharedMem}
use Rattle.pm_shared.specs.declared.rule.Beginning.{Beginning}
use Rattle.pm_shared.specs.Openings.{fixed_of, generation_of, idle_view, opening_of}
use Rattle.pm_shared.specs.Placing.{start_of, table_size, place, memory_of}
use Rattle.pm_shared.specs.Plays.{gives_or_looks, GivenOrSeen, looks_at_zone, Looked, occupies_zone}
use Rattle.pm_shared.specs.Rule.{Knowledge, Pool, Lane, Spent, Bound, BoundHolds, Made, lane_of, SeatAsks, SeatMade, SeatFits, Owned}
use Rattle.pm_shared.specs.TableRule.{Ruled, TableAllows}
use Rattle.pm_shared.specs.TableRun.{HasRun, moment}
use Rattle.pm_shared.proofs.Allows.{Before, allows}
use Rattle.pm_shared.proofs.Asked.{asked, one_view, number_is, below_place, few_lanes}
use Rattle.pm_shared.proofs.LockSaid.{writer_left, high_writer}
use Rattle.pm_shared.proofs.TableRuns.{run_bears, run_fits}
use Rattle.pm_shared.proofs.Moving.{At, found_at, mode_known, write_gives, read_gives, write_frees, occupy_won, occupy_lost, clear_still}

pub set_same : (l : List ℕ) (i : ℕ) → set l i (slice_index l i) ≡ l
set_same [] i = refl
set_same (x ∷ xs) zero = refl
set_same (x ∷ xs) (suc i) = λ k. x ∷ set_same xs i k

-- the words are those before
words_same : (l : List ℕ) (i x : ℕ) → x ≡ slice_index l i → set l i x ≡ l
words_same l i x e = ap (set l i) e ∙ set_same l i

-- a seat's lane, in a state that meets the rule
pub before : (key : Beginning) (s : State ℕ Knowledge) (r : Ruled key s) (id : ℕ) (v : View) (b : Option Bound) → get_elem? s.views id ≡ some (Lane v b) → Before (opening_of key) s.words v b
before key s r id v b here = let fit = r.seats id (Lane v b) here in record { views = r.views; past = r.past; size = r.size; world = r.world; sizes = run_fits (opening_of key) (idle_view key) (moment (memory_of key.shape s.words) r.views r.past) r.run; causes = run_bears (opening_of key) (fixed_of key) (generation_of key) (moment (memory_of key.shape s.words) r.views r.past) r.run; sound = r.sound; inside = fit.0.inside; view = fit.0.view; bound = fit.1 }

-- ---- HOW THE LANE HOLDS A LINE
module _ (m : SharedMem) (lane : ℕ) (me : Me ℕ Knowledge) (line i : ℕ) (ask : SeatAsks m.shape lane me (λ r. Give line)) (few : lane < m.shape.lanes) (inside : line < words_of m.shape / 8) (is : i ≡ place m.shape (LockWord line)) where
  abbrev o : Opening
  o = opening_of m.table.shared.key

  at_lock : (words : List ℕ) → Before o words ask.view None → At o.shape words i (LockWord line)
  at_lock words B = let same : o.shape ≡ m.shape = m.shaped in record {
    is = is ∙ ap (λ z. place z (LockWord line)) (sym same);
    inside = subst (λ z. place z (LockWord line) < table_size z) (sym same) (below_place m.shape (LockWord line) inside);
    size = B.size;
  }

  mode : (words : List ℕ) → Before o words ask.view None → locked ask.view.claims line ≡ not (eqb (slice_index words i / 2 ^ 32) 0)
  mode words B = mode_known o words ask.view None i line B (subst (λ k. k < 32) (sym ask.lane_is) (few_lanes m.shape lane few)) (at_lock words B) (ask.lawful 0).allowed.held

  -- A LANE GIVES THE LOCK BACK AS IT HOLDS IT: one that reads clears its own bits, and one that writes clears the word
  pub reader_moves : (words : List ℕ) → length words ≡ table_size m.shape → locked ask.view.claims line ≡ false → Before o words ask.view None
      → Moves lane (Give line) (memory_of m.shape words) (memory_of m.shape (set words i (bit_and (slice_index words i) (bit_not w64 (bit_or (reader_bit lane) (writer_bit lane))))))
  reader_moves words size reads B = read_gives m.shape words i lane line (bit_not w64 (bit_or (reader_bit lane) (writer_bit lane))) refl
      (⊎_elim (λ (low : slice_index words i / 2 ^ 32 ≡ 0). low) (λ (high : slice_index words i / 2 ^ 32 ≢ 0). absurd (both_ways (locked ask.view.claims line) reads (mode words B ∙ ap not (ne_eqb (slice_index words i / 2 ^ 32) 0 high)))) (cases_eq (slice_index words i / 2 ^ 32) 0))
      (record { is = is; inside = below_place m.shape (LockWord line) inside; size = size })

  pub writer_moves : (words : List ℕ) → length words ≡ table_size m.shape → locked ask.view.claims line ≡ true → Before o words ask.view None → slice_index words i < 18446744073709551616
      → Moves lane (Give line) (memory_of m.shape words) (memory_of m.shape (set words i 0))
  writer_moves words size writes B fits = subst (λ x. Moves lane (Give line) (memory_of m.shape words) (memory_of m.shape (set words i x)))
      (ap (λ k. writer_left k (slice_index words i)) (sym ask.lane_is) ∙ write_frees o words ask.view None i line B (subst (λ k. k < 32) (sym ask.lane_is) (few_lanes m.shape lane few)) (at_lock words B) writes fits)
      (write_gives m.shape words i lane line (bit_not w64 (bit_or (2 ^ 32 - 1) (writer_bit lane))) (few_lanes m.shape lane few) refl
      (λ low. both_ways (locked ask.view.claims line) (mode words B ∙ ap not (eq-eqb (slice_index words i / 2 ^ 32) 0 low)) writes)
      (record { is = is; inside = below_place m.shape (LockWord line) inside; size = size }))

  abbrev actual : ℕ → Step
  actual r = Give line

  abbrev given : View → TableStep ℕ → ℕ → Step
  given v st r = Give (st.word - start_of v.fixed.shape 1)

  abbrev tried : TableStep ℕ
  tried = step 0 i (writer_bit lane) 0 none

  -- one that writes, and finds no bit that a reader left, clears the word at once; else it looks
  pub gives_or_sees : (id : ℕ) → TableAllows m.table.shared.key id me i (λ n. either (eqb n (writer_bit lane)) 0 n) (gives_or_looks tried me)
  gives_or_sees id s r homes here fits = let here' : get_elem? s.views id ≡ some (Lane ask.view None) = here ∙ ap (λ (n : Me ℕ Knowledge). some n.0) ask.sees in let x : ℕ = slice_index s.words i in let B = before m.table.shared.key s r id ask.view None here' in ⊎_elim
      (λ (same : x ≡ writer_bit lane).
      let writes : locked ask.view.claims line ≡ true = mode s.words B ∙ ap not (ne_eqb (x / 2 ^ 32) 0 (λ z. high_writer lane (ap (λ y. y / 2 ^ 32) (sym same) ∙ z))) in
      let q = asked m lane me given tried actual ask (λ v sh l n. ap Give (number_is m.shape (LockWord line) i is inside v.fixed.shape sh)) id i (λ n. 0) (λ words size C small. writer_moves words size writes C small) s r homes here fits in (
        q.0,
        q.1,
        q.2,
        subst (λ y. Ruled m.table.shared.key (stepped s i y id me.1 q.0 q.1)) (sym (ap (λ b. either b 0 x) (eq-eqb x (writer_bit lane) same))) q.3,
        λ w e. subst (GivenOrSeen w tried me x (q.0, carried_after me.1 q.1)) (sym (eq-eqb x (writer_bit lane) same)) (q.4 w e),
      ))
      (λ (other : x ≢ writer_bit lane). let no = ne_eqb x (writer_bit lane) other in (
        me.0,
        keeps,
        tt,
        subst (λ y. Ruled m.table.shared.key (stepped s i y id me.1 me.0 keeps)) (sym (ap (λ b. either b 0 x) no)) (subst (Ruled m.table.shared.key) (λ j. record { words = sym (set_same s.words i) j; homes = s.homes; views = sym (set_again s.views id me.0 here) j }) r),
        λ w e. subst (GivenOrSeen w tried me x (me.0, me.1)) (sym no) (let v_is : w ≡ ask.view = one_view w ask.view None None me e ask.sees in
            let n_is : i - start_of w.fixed.shape 1 ≡ line = number_is m.shape (LockWord line) i is inside w.fixed.shape (ap (λ (u : View). u.fixed.shape) v_is ∙ ask.shape) in
            (λ j. (me.0, no_slots j), ap (locked w.claims) n_is ∙ (ap (λ (u : View). locked u.claims line) v_is ∙ mode s.words B))),
      ))
      (cases_eq x (writer_bit lane))
    where
      no_slots : me.1 ≡ me.1
      no_slots = refl

-- ---- BITS OF A ZONE
module _ (m : SharedMem) (lane : ℕ) (me : Me ℕ Knowledge) (zone bits i : ℕ) (ask : SeatAsks m.shape lane me (λ r. Occupy (Zone zone) bits (eqb (bit_and r bits) 0))) (inside : zone < m.shape.zones) (is : i ≡ place m.shape (ZoneWord zone)) where
  here_at : (words : List ℕ) (v : View) (b : Option Bound) → Before (opening_of m.table.shared.key) words v b → At (opening_of m.table.shared.key).shape words i (ZoneWord zone)
  here_at words v b B = let same : (opening_of m.table.shared.key).shape ≡ m.shape = m.shaped in record {
    is = is ∙ ap (λ z. place z (ZoneWord zone)) (sym same);
    inside = subst (λ z. place z (ZoneWord zone) < table_size z) (sym same) (below_place m.shape (ZoneWord zone) inside);
    size = B.size;
  }

  number_here : (w : View) → w ≡ ask.view → i - start_of w.fixed.shape 3 ≡ zone
  number_here w e = number_is m.shape (ZoneWord zone) i is inside w.fixed.shape (ap (λ (u : View). u.fixed.shape) e ∙ ask.shape)

  -- where the bits are clear they might be set, where not they are refused
  abbrev would : ℕ → ℕ
  would n = cond (eqb (bit_and n bits) 0) (bit_or n bits) n

  would_move : (words : List ℕ) → Before (opening_of m.table.shared.key) words ask.view None → Moves ask.view.fixed.lane (Occupy (Zone zone) bits (eqb (bit_and (slice_index words i) bits) 0)) (memory_of (opening_of m.table.shared.key).shape words) (memory_of (opening_of m.table.shared.key).shape (set words i (would (slice_index words i))))
  would_move words B = let x : ℕ = slice_index words i in let sh : Shape = (opening_of m.table.shared.key).shape in let A = here_at words ask.view None B in let k : ℕ = ask.view.fixed.lane in ⊎_elim
      (λ (free : bit_and x bits ≡ 0). subst (λ t. Moves k (Occupy (Zone zone) bits t) (memory_of sh words) (memory_of sh (set words i (cond t (bit_or x bits) x)))) (sym (eq-eqb (bit_and x bits) 0 free)) (occupy_won sh words i k (Zone zone) bits free A))
      (λ (taken : bit_and x bits ≢ 0). subst (λ t. Moves k (Occupy (Zone zone) bits t) (memory_of sh words) (memory_of sh (set words i (cond t (bit_or x bits) x)))) (sym (ne_eqb (bit_and x bits) 0 taken)) (occupy_lost sh words i k (Zone zone) bits x refl taken A))
      (cases_eq (bit_and x bits) 0)

  pulsed : (n : ℕ) → either (eqb n bits) bits n ≡ n
  pulsed n = ⊎_elim (λ (e : n ≡ bits). ap (λ b. either b bits n) (eq-eqb n bits e) ∙ sym e) (λ (ne : n ≢ bits). ap (λ b. either b bits n) (ne_eqb n bits ne)) (cases_eq n bits)

  pub looks_zone : (id : ℕ) → TableAllows m.table.shared.key id me i (λ n. either (eqb n bits) bits n) (looks_at_zone (step 0 i bits bits none) me)
  looks_zone id s r homes here fits = ⊎_elim free taken (cases_eq (bit_and x bits) 0)
    where
      o : Opening
      o = opening_of m.table.shared.key

      x : ℕ
      x = slice_index s.words i

      st : TableStep ℕ
      st = step 0 i bits bits none

      here' : get_elem? s.views id ≡ some (Lane ask.view None)
      here' = here ∙ ap (λ (n : Me ℕ Knowledge). some n.0) ask.sees

      kept : set s.words i (either (eqb x bits) bits x) ≡ s.words
      kept = words_same s.words i (either (eqb x bits) bits x) (pulsed x)

      b : Bound
      b = record { zone = zone; bits = x }

      Goal : Type 0
      Goal = (w : Knowledge) × (a : Rattle.atomic_table.specs.Table.Act ℕ) × Rattle.atomic_table.specs.Table.Valid s.homes me.1 a × Ruled m.table.shared.key (Rattle.atomic_table.specs.Table.stepped s i (either (eqb x bits) bits x) id me.1 w a) × looks_at_zone st me x (w, Rattle.atomic_table.specs.Table.carried_after me.1 a)

      free : bit_and x bits ≡ 0 → Goal
      free clear = (
        Lane ask.view (Some b),
        keeps,
        tt,
        record {
          views = r.views;
          owner = r.owner;
          past = r.past;
          size = ap length kept ∙ r.size;
          world = subst (λ ws. Rattle.pm_world.specs.World.World o (memory_of o.shape ws) r.views r.past) (sym kept) r.world;
          run = subst (λ ws. HasRun o (idle_view m.table.shared.key) (moment (memory_of o.shape ws) r.views r.past)) (sym kept) r.run;
          sound = subst (λ ws. Rattle.pm_shared.specs.Rule.Sound o (memory_of o.shape ws) r.views) (sym kept) r.sound;
          seats = λ j w q. subst (λ ws. SeatFits o (memory_of o.shape ws) r.views r.owner j w) (sym kept) (⊎_elim
              (λ (t : (j ≡ id) × (Lane ask.view (Some b) ≡ w)). subst (λ z. SeatFits o (memory_of o.shape s.words) r.views r.owner z w) (sym t.0) (subst (SeatFits o (memory_of o.shape s.words) r.views r.owner id) t.1 mine))
              (λ (t : (j ≢ id) × (get_elem? s.views j ≡ some w)). r.seats j w t.1) (at_set s.views id j (Lane ask.view (Some b)) w q));
        },
        λ w e. let v_is : w ≡ ask.view = one_view w ask.view None None me e ask.sees in subst (λ t. Looked w st t x (Lane ask.view (Some b), me.1)) (sym (eq-eqb (bit_and x bits) 0 clear))
            (λ j. (Lane (sym v_is j) (Some (record { zone = sym (number_here w v_is) j; bits = x })), ap (λ (n : Me ℕ Knowledge). n.1) ask.sees j)),
      )
        where
          mine : SeatFits o (memory_of o.shape s.words) r.views r.owner id (Lane ask.view (Some b))
          mine = (
            (r.seats id (Lane ask.view None) here').0,
            record {
              held = (ask.lawful 0).allowed.open_;
              within = λ n t. let f = found_at o.shape s.words i (ZoneWord zone) (here_at s.words ask.view None (before m.table.shared.key s r id ask.view None here')) in ap (λ y. bit y n) (sym f) ∙ t;
            },
          )

      taken : bit_and x bits ≢ 0 → Goal
      taken set_ = let no : eqb (bit_and x bits) 0 ≡ false = ne_eqb (bit_and x bits) 0 set_ in
          let would_is : would x ≡ either (eqb x bits) bits x = ap (λ t. cond t (bit_or x bits) x) no ∙ sym (pulsed x) in
          let q = subst (λ (n : Me ℕ Knowledge). Allows (Ruled m.table.shared.key) 0 id n i would (Made (λ r. Occupy (Zone zone) bits (eqb (bit_and r bits) 0)) ask.view)) (sym ask.sees)
          (allows m.table.shared.key id ask.view None i would (λ r. Occupy (Zone zone) bits (eqb (bit_and r bits) 0)) ask.lawful (λ words B l. would_move words B)) s r homes here fits in (
            q.0,
            q.1,
            q.2,
            subst (λ y. Ruled m.table.shared.key (Rattle.atomic_table.specs.Table.stepped s i y id me.1 q.0 q.1)) would_is q.3,
            λ w e. let v_is : w ≡ ask.view = one_view w ask.view None None me e ask.sees in
                let told : Made (λ _. Occupy (Zone zone) bits false) ask.view x (q.0, Rattle.atomic_table.specs.Table.carried_after me.1 q.1) = subst (λ t. Made (λ _. Occupy (Zone zone) bits t) ask.view x (q.0, Rattle.atomic_table.specs.Table.carried_after me.1 q.1)) no q.4 in
                subst (λ t. Looked w st t x (q.0, Rattle.atomic_table.specs.Table.carried_after me.1 q.1)) (sym no)
                (subst (λ z. Made (λ _. Occupy (Zone z) bits false) w x (q.0, Rattle.atomic_table.specs.Table.carried_after me.1 q.1)) (sym (number_here w v_is)) (subst (λ (u : View). Made (λ _. Occupy (Zone zone) bits false) u x (q.0, Rattle.atomic_table.specs.Table.carried_after me.1 q.1)) (sym v_is) told)),
          )

  -- clear bits are clear still when they are set
  pub takes_zone : (id r : ℕ) (now : Me ℕ Knowledge) → looks_at_zone (step 0 i bits bits none) me r now → bit_and r bits ≡ 0 → TableAllows m.table.shared.key id now i (λ n. bit_or n bits) (occupies_zone (step 0 i bits 0 none) now)
  takes_zone id r now told clear s rule homes here fits =
      let o : Opening = opening_of m.table.shared.key in let v : View = ask.view in
      let saw : now ≡ (Lane v (Some (record { zone = i - start_of v.fixed.shape 3; bits = r })), []) = subst (λ t. Looked v (step 0 i bits bits none) t r now) (eq-eqb (bit_and r bits) 0 clear) (told v ask.sees) in
      let b : Bound = record { zone = i - start_of v.fixed.shape 3; bits = r } in
      let sure : (k : ℕ) → IsLawful v (Occupy (Zone zone) bits true) = λ k. record { allowed = (ask.lawful 0).allowed; due = λ e. absurd (both_ways false refl e) } in
      let moves : (words : List ℕ) → Before o words v (Some b) → slice_index words i < 18446744073709551616 → Moves v.fixed.lane (Occupy (Zone zone) bits true) (memory_of o.shape words) (memory_of o.shape (set words i (bit_or (slice_index words i) bits))) = λ words B l.
      let A = here_at words v (Some b) B in let f = found_at o.shape words i (ZoneWord zone) A in
      occupy_won o.shape words i v.fixed.lane (Zone zone) bits (clear_still (slice_index words i) r bits (λ n t. B.bound.within n (ap (λ z. bit (memory_of o.shape words (ZoneWord z)) n) (number_here v refl) ∙ (ap (λ y. bit y n) f ∙ t))) clear) A in
      let q = subst (λ (n : Me ℕ Knowledge). Allows (Ruled m.table.shared.key) 0 id n i (λ n. bit_or n bits) (Made (λ _. Occupy (Zone zone) bits true) v)) (sym saw) (allows m.table.shared.key id v (Some b) i (λ n. bit_or n bits) (λ _. Occupy (Zone zone) bits true) sure moves) s rule homes here fits in (
        q.0,
        q.1,
        q.2,
        q.3,
        λ w c e. let v_is : w ≡ v = one_view w v (Some c) (Some b) now e saw in
            subst (λ z. Made (λ _. Occupy (Zone z) bits true) w (slice_index s.words i) (q.0, Rattle.atomic_table.specs.Table.carried_after now.1 q.1)) (sym (number_here w v_is))
            (subst (λ (u : View). Made (λ _. Occupy (Zone zone) bits true) u (slice_index s.words i) (q.0, Rattle.atomic_table.specs.Table.carried_after now.1 q.1)) (sym v_is) q.4),
      )

  pub refused_zone : (r : ℕ) (new : Me ℕ Knowledge) → looks_at_zone (step 0 i bits bits none) me r new → bit_and r bits ≢ 0 → SeatMade me new (Occupy (Zone zone) bits false)
  refused_zone r new told set_ w e = let v_is : w ≡ ask.view = one_view w ask.view None None me e ask.sees in
      let t : Made (λ _. Occupy (Zone (i - start_of w.fixed.shape 3)) bits false) w r new = subst (λ b. Looked w (step 0 i bits bits none) b r new) (ne_eqb (bit_and r bits) 0 set_) (told w e) in
      subst (λ z. Made (λ _. Occupy (Zone z) bits false) w r new) (number_here w v_is) t

  pub taken_zone : (r q : ℕ) (now new : Me ℕ Knowledge) → looks_at_zone (step 0 i bits bits none) me r now → bit_and r bits ≡ 0 → occupies_zone (step 0 i bits 0 none) now q new → SeatMade me new (Occupy (Zone zone) bits true)
  taken_zone r q now new told clear took w e = let v_is : w ≡ ask.view = one_view w ask.view None None me e ask.sees in
      let saw : now ≡ (Lane w (Some (record { zone = i - start_of w.fixed.shape 3; bits = r })), []) = subst (λ b. Looked w (step 0 i bits bits none) b r now) (eq-eqb (bit_and r bits) 0 clear) (told w e) in
      subst (λ z. Made (λ _. Occupy (Zone z) bits true) w q new) (number_here w v_is) (took w (record { zone = i - start_of w.fixed.shape 3; bits = r }) saw)
