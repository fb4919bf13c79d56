-- What a lane's call asks of the table, from what its seat asks; and what the seat knows then.
use Rattle.std.proofs.Common.{◌≡◌, ℕ, ◌+◌, ◌-◌, ◌*◌, ◌/◌, ◌^◌, ◌<◌, cond, List, [], length, slice_index, set, Option, None, sym, ap, ◌∙◌, subst, arith}
use Rattle.std.specs.Int.{bit_not, w64}
use Rattle.atomic_table.specs.Table.{Me, Step as TableStep, Allows}
use Rattle.pm_layout.specs.declared.shape.Shape.{Shape}
use Rattle.pm_layout.specs.Areas.{page_bytes, page_words}
use Rattle.pm_layout.specs.Chunks.{words_of}
use Rattle.pm_view.specs.declared.occ.Occ.TheVariants.{Run}
use Rattle.pm_view.specs.Founds.{Found}
use Rattle.pm_view.specs.Steps.{Step}
use Rattle.pm_view.specs.View.{View}
use Rattle.pm_view.specs.Views.{after}
use Rattle.pm_world.specs.Lawful.{HasOcc}
use Rattle.pm_world.specs.Memory.{Location, PoolWord, RunWord, CommitCounter}
use Rattle.pm_world.specs.Moves.{Moves}
use Rattle.pm_world.specs.World.{Opening}
use Rattle.pm_shared.specs.declared.mem.SharedMem.{SharedMem}
use Rattle.pm_shared.specs.declared.rule.Beginning.{Beginning}
use Rattle.pm_shared.specs.Openings.{opening_of}
use Rattle.pm_shared.specs.Placing.{sort_of, number_of, count_of, start_of, table_size, place, run_place, memory_of}
use Rattle.pm_shared.specs.Plays.{tells}
use Rattle.pm_shared.specs.TableRule.{Ruled, TableAllows}
use Rattle.pm_shared.specs.Rule.{Knowledge, Pool, Lane, Spent, Bound, Made, lane_of, SeatAsks, SeatMade}
use Rattle.pm_shared.proofs.Allows.{Before, allows}
use Rattle.pm_shared.proofs.Injective.{below_size}
use Rattle.pm_shared.proofs.Moving.{At, found_at}
use Rattle.std.proofs.Common.{lt-ltb}

-- a lane's seat knows one view
abbrev view_or : View → Knowledge → View
view_or d (Lane v b) = v
view_or d (Pool vs) = d
view_or d Spent = d

pub one_view : (v w : View) (b c : Option Bound) (me : Me ℕ Knowledge) → me ≡ (Lane v b, []) → me ≡ (Lane w c, []) → v ≡ w
one_view v w b c me p q = ap (λ (m : Me ℕ Knowledge). view_or v m.0) (sym p ∙ q)

-- where a location lies
pub place_is : (sh : Shape) (l : Location) → number_of l < count_of sh (sort_of l) → place sh l ≡ start_of sh (sort_of l) + number_of l
place_is sh l fewer = ap (λ b. cond b (start_of sh (sort_of l) + number_of l) (table_size sh)) (lt-ltb (number_of l) (count_of sh (sort_of l)) fewer)

pub number_is : (sh : Shape) (l : Location) (i : ℕ) → i ≡ place sh l → number_of l < count_of sh (sort_of l) → (z : Shape) → z ≡ sh → i - start_of z (sort_of l) ≡ number_of l
number_is sh l i is fewer z same = let p = place_is sh l fewer in let e : start_of z (sort_of l) ≡ start_of sh (sort_of l) = ap (λ y. start_of y (sort_of l)) same in omega arith

pub word_is : (sh : Shape) (w i : ℕ) → i ≡ place sh (PoolWord w) → w < words_of sh → i ≡ w
word_is sh w i is fewer = let p : place sh (PoolWord w) ≡ 0 + w = place_is sh (PoolWord w) fewer in omega arith

-- a run's occupancy word
pub run_inside : (v : View) (sh : Shape) (at : ℕ) → v.fixed.shape ≡ sh → HasOcc v (Run at) → at / page_bytes < words_of sh / page_words
run_inside v sh at same there = subst (λ z. at / page_bytes < words_of z / page_words) same (let l = there.1 in let e = there.2 in omega arith)

pub run_whole : (v : View) (at : ℕ) → HasOcc v (Run at) → page_bytes * (at / page_bytes) ≡ at
run_whole v at there = let e = there.2 in omega arith

pub run_is : (sh : Shape) (at i : ℕ) → i ≡ run_place sh at → at / page_bytes < words_of sh / page_words → page_bytes * (at / page_bytes) ≡ at → (z : Shape) → z ≡ sh → page_bytes * (i - start_of z 2) ≡ at
run_is sh at i is fewer whole z same = ap (λ n. page_bytes * n) (number_is sh (RunWord (at / page_bytes)) i is fewer z same) ∙ whole

pub twice_not : (bits : ℕ) → bits < 2 ^ 64 → bit_not w64 (bit_not w64 bits) ≡ bits
twice_not bits small = omega arith

-- THE ONE LEMMA OF THE CALLS: `step` reads the lane's step off the call, and it is the step that is asked
module _ (m : SharedMem) (lane : ℕ) (me : Me ℕ Knowledge) (step : View → TableStep ℕ → ℕ → Step) (st : TableStep ℕ) (actual : ℕ → Step) (ask : SeatAsks m.shape lane me actual)
    (same : (v : View) → v.fixed.shape ≡ m.shape → v.fixed.lane ≡ lane → (r : ℕ) → step v st r ≡ actual r) where
  shape_is : (opening_of m.table.shared.key).shape ≡ m.shape
  shape_is = m.shaped

  read_off : (v : View) → v ≡ ask.view → (r : ℕ) → step v st r ≡ actual r
  read_off v e = same v (ap (λ (w : View). w.fixed.shape) e ∙ ask.shape) (ap (λ (w : View). w.fixed.lane) e ∙ ask.lane_is)

  pub asked : (id i : ℕ) (f : ℕ → ℕ)
      → ((words : List ℕ) → length words ≡ table_size m.shape → Before (opening_of m.table.shared.key) words ask.view None → slice_index words i < 18446744073709551616 → Moves lane (actual (slice_index words i)) (memory_of m.shape words) (memory_of m.shape (set words i (f (slice_index words i)))))
      → TableAllows m.table.shared.key id me i f (tells step st me)
  asked id i f moves s rule homes here fits =
      let o : Opening = opening_of m.table.shared.key in
      let moved : (words : List ℕ) → Before o words ask.view None → slice_index words i < 18446744073709551616 → Moves ask.view.fixed.lane (actual (slice_index words i)) (memory_of o.shape words) (memory_of o.shape (set words i (f (slice_index words i)))) = λ words B l.
      subst (λ k. Moves k (actual (slice_index words i)) (memory_of o.shape words) (memory_of o.shape (set words i (f (slice_index words i))))) (sym ask.lane_is)
      (subst (λ z. Moves lane (actual (slice_index words i)) (memory_of z words) (memory_of z (set words i (f (slice_index words i))))) (sym shape_is) (moves words (B.size ∙ ap table_size shape_is) B l)) in
      let q = subst (λ (n : Me ℕ Knowledge). Allows (Ruled m.table.shared.key) 0 id n i f (Made actual ask.view)) (sym ask.sees) (allows m.table.shared.key id ask.view None i f actual ask.lawful moved) s rule homes here fits in (
        q.0,
        q.1,
        q.2,
        q.3,
        λ w e. let v_is : w ≡ ask.view = one_view w ask.view None None me e ask.sees in let r : ℕ = slice_index s.words i in (
          q.4.0 ∙ ap lane_of (ap (λ (u : View). after u (actual r)) (sym v_is) ∙ ap (after w) (sym (read_off w v_is r))),
          subst (λ z. Found w z) (sym (read_off w v_is r)) (subst (λ (u : View). Found u (actual r)) (sym v_is) q.4.1),
        ),
      )

  pub gave : (r : ℕ) (new : Me ℕ Knowledge) → tells step st me r new → SeatMade me new (actual r)
  gave r new told w e = let v_is : w ≡ ask.view = one_view w ask.view None None me e ask.sees in let t = told w e in
      (t.0 ∙ ap lane_of (ap (after w) (read_off w v_is r)), subst (λ z. Found w z) (read_off w v_is r) t.1)

-- what a call of the words asks: the table has no slots
pub no_slots : (b : Beginning) (slots id word : ℕ) (me : Me ℕ Knowledge) (becomes : ℕ → ℕ)
    (told : ℕ → ℕ → Me ℕ Knowledge → Type 0) → slots ≡ 0
    → TableAllows b id me word becomes (told 0)
    → Allows (Ruled b) slots id me word becomes (told slots)
no_slots b slots id word me becomes told none asks =
    subst (λ n. Allows (Ruled b) n id me word becomes (told n)) (sym none) asks

-- what the seat asks, of the memory's shape
module _ (sh : Shape) (lane : ℕ) (me : Me ℕ Knowledge) (actual : ℕ → Step) (ask : SeatAsks sh lane me actual) where
  pub in_shape : (P : Shape → Type 0) → P ask.view.fixed.shape → P sh
  in_shape P p = subst P ask.shape p

pub at_inside : (sh : Shape) (l : Location) (i : ℕ) → i ≡ place sh l → number_of l < count_of sh (sort_of l) → i < table_size sh
at_inside sh l i is fewer = subst (λ j. j < table_size sh) (sym is) (below_size sh l fewer (place_is sh l fewer))

pub below_place : (sh : Shape) (l : Location) → number_of l < count_of sh (sort_of l) → place sh l < table_size sh
below_place sh l fewer = below_size sh l fewer (place_is sh l fewer)

pub few_lanes : (sh : Shape) (lane : ℕ) → lane < sh.lanes → lane < 32
few_lanes sh lane few = let most = sh.lanes_to in omega arith

-- numbers do not run out
pub draw_room : (m : SharedMem) (words : List ℕ) (v : View) (i : ℕ) → Before (opening_of m.table.shared.key) words v None → At m.shape words i CommitCounter → slice_index words i + 1 < 2 ^ 64
draw_room m words v i B A = let f : memory_of m.shape words CommitCounter ≡ slice_index words i = found_at m.shape words i CommitCounter A in
    let e : memory_of m.table.shared.key.shape words CommitCounter ≡ memory_of m.shape words CommitCounter = ap (λ sh. memory_of sh words CommitCounter) m.shaped in let room = B.world.counter_room in omega arith
