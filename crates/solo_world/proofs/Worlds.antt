-- The world after a step of lane k, from what the step owes: the lane's own facts, and what it leaves to the others.
use Rattle.std.proofs.Common.{◌≡◌, ◌≢◌, ℕ, ◌+◌, ◌<◌, ◌≤◌, ◌⊎◌, inl, inr, ⊎_elim, Bool, true, false, IsSomeAnd, Any, List, Option, Some, None, refl, sym, ap, ◌∙◌, subst, arith}
use Rattle.std.specs.Int.{bit_at}
use Rattle.std.proofs.lemmas.Bool.{cases_eq}
use Rattle.solo_view.specs.Counts.{IsAtStop}
use Rattle.solo_view.specs.Log.{Final}
use Rattle.solo_view.specs.View.{View, Lock}
use Rattle.solo_world.specs.Course.{flight}
use Rattle.solo_world.specs.Entries.{is_in_log}
use Rattle.solo_world.specs.Fits.{LaneFits, ShowsHold}
use Rattle.solo_world.specs.Heap.{AreNewRuns, Heap, heap_words}
use Rattle.solo_world.specs.History.{Entry, Flies, settled, entries_by}
use Rattle.solo_world.specs.Laws.{with_view}
use Rattle.solo_world.specs.Lawful.{generation_limit}
use Rattle.solo_world.specs.Memory.{Memory, IsSame}
use Rattle.solo_world.specs.Memory.Location.{PoolWord, LockWord, CommitCounter, StopWord}
use Rattle.solo_world.specs.Opening.{IsLivingWord, Opening}
use Rattle.solo_world.specs.World.{Views, World, EntryFits, IsHold, hold_bit, may_draw, may_draw_count}
use Rattle.solo_world.proofs.Draws.{draws_no_more}
use Rattle.solo_world.proofs.Heaps.{HasSame, IsHeapSame, heap_still}
use Rattle.solo_world.proofs.Frame.{lane_kept, view_here, view_else, view_all}
use Rattle.solo_world.proofs.HeapWords.{words_described, heap_same, runs_same}

-- it is at its stop number still
later_stop : (stop : Option ℕ) (calls calls' : ℕ) → calls ≤ calls' → IsSomeAnd stop (λ s. s ≤ calls) → IsSomeAnd stop (λ s. s ≤ calls')
later_stop None calls calls' more at = at
later_stop (Some s) calls calls' more at = omega arith

pub stop_kept : (v v' : View) → v'.stop ≡ v.stop → v.calls ≤ v'.calls → IsAtStop v → IsAtStop v'
stop_kept v v' same more at = subst (λ stop. IsSomeAnd stop (λ s. s ≤ v'.calls)) (sym same) (later_stop v.stop v.calls v'.calls more at)

-- the heap's part of a world
pub record HeapNow (o : Opening) (mem : Memory) (views : Views) : Type 0 where
  pub runs : AreNewRuns o (λ w. mem (PoolWord w))
  pub heap : Heap o (heap_words o mem) mem views

module _ (o : Opening) (old : Memory) (views : Views) (log : List Entry) (decided : ℕ → Bool) (world : World o old views log decided) (k : ℕ) (inside : k < o.lanes) (v : View) (is : views k ≡ v) where
  pub own : LaneFits o old (settled o log decided) (Flies log decided k) k v
  own = subst (LaneFits o old (settled o log decided) (Flies log decided k) k) is (world.each_lane k inside)

  pub own_numbers : entries_by k log ≡ v.entries
  own_numbers = world.own_entries k inside ∙ ap (λ (u : View). u.entries) is

  module _ (v' : View) where
    pub each_lane' : (new : Memory) (settled' : ℕ → ℕ) (flies' : ℕ → ℕ → List Final → Type 0) → ((j : ℕ) → j < o.lanes → j ≢ k → LaneFits o new settled' (flies' j) j (views j)) → LaneFits o new settled' (flies' k) k v'
        → (j : ℕ) → j < o.lanes → LaneFits o new settled' (flies' j) j (with_view views k v' j)
    each_lane' new settled' flies' others here j low = view_all (λ i u. LaneFits o new settled' (flies' i) i u) views k v' here j (λ other. others j low other)

    -- no lane's log would restore or redo the word, as the views are now
    pub unlogged_here : (w : ℕ) → ((j : ℕ) → j < o.lanes → is_in_log (with_view views k v' j) w ≡ false) → is_in_log v' w ≡ false
    unlogged_here w all = subst (λ u. is_in_log u w ≡ false) (view_here views k v') (all k inside)

    pub unlogged_else : (w : ℕ) → ((j : ℕ) → j < o.lanes → is_in_log (with_view views k v' j) w ≡ false) → (j : ℕ) → j < o.lanes → j ≢ k → is_in_log (views j) w ≡ false
    unlogged_else w all j low other = subst (λ u. is_in_log u w ≡ false) (view_else views k v' j other) (all j low)

    -- and as they were, if the lane's log did neither
    pub unlogged_before : (w : ℕ) → is_in_log v w ≡ false → ((j : ℕ) → j < o.lanes → j ≢ k → is_in_log (views j) w ≡ false) → (j : ℕ) → j < o.lanes → is_in_log (views j) w ≡ false
    unlogged_before w here others j low =
        ⊎_elim (λ (same : j ≡ k). subst (λ i. is_in_log (views i) w ≡ false) (sym same) (subst (λ u. is_in_log u w ≡ false) (sym is) here))
        (λ (other : j ≢ k). others j low other) (cases_eq j k)

    pub hold_kept : (line bit : ℕ) → (Any (λ (l : Lock). (l.line ≡ line) × (bit ≡ hold_bit k l.write)) v.locks → Any (λ (l : Lock). (l.line ≡ line) × (bit ≡ hold_bit k l.write)) v'.locks)
        → IsHold views o.lanes line bit → IsHold (with_view views k v') o.lanes line bit
    hold_kept line bit keeps (j, low, holds) = (
      j,
      low,
      view_all (λ i u. Any (λ (l : Lock). (l.line ≡ line) × (bit ≡ hold_bit i l.write)) (views i).locks → Any (λ (l : Lock). (l.line ≡ line) × (bit ≡ hold_bit i l.write)) u.locks) views k v'
          (λ there. keeps (subst (λ (u : View). Any (λ (l : Lock). (l.line ≡ line) × (bit ≡ hold_bit k l.write)) u.locks) is there)) j (λ other there. there) holds,
    )

    pub entry_kept : (e : Entry) (decided' : ℕ → Bool) → (decided' e.number ≡ false → decided e.number ≡ false) → (decided' e.number ≡ false → flight v ≡ Some e.number → flight v' ≡ Some e.number)
        → EntryFits o views decided e → EntryFits o (with_view views k v') decided' e
    entry_kept e decided' undecided flying fits = record {
      of_lane = fits.of_lane;
      in_flight = λ open_. view_all (λ i u. flight (views i) ≡ Some e.number → flight u ≡ Some e.number) views k v' (λ there. flying open_ (subst (λ u. flight u ≡ Some e.number) is there)) e.lane (λ other there. there) (fits.in_flight (undecided open_));
      guarded = fits.guarded;
    }

    pub entries_kept : (j : ℕ) → v'.entries ≡ v.entries → j < o.lanes → entries_by j log ≡ (with_view views k v' j).entries
    entries_kept j same low = view_all (λ i u. entries_by i log ≡ u.entries) views k v' (own_numbers ∙ sym same) j (λ other. world.own_entries j low)

    pub room_kept : (may_draw v' ≡ true → may_draw v ≡ true) → old CommitCounter + may_draw_count (with_view views k v') o.lanes < generation_limit + 32
    room_kept less =
        let fewer = draws_no_more views (with_view views k v') o.lanes (λ j. view_all (λ i u. may_draw u ≡ true → may_draw (views i) ≡ true) views k v' (λ can. ap may_draw is ∙ less can) j (λ other can. can)) in
        let before = world.counter_room in omega arith

    pub at_stop_kept : (IsAtStop v → IsAtStop v') → (j : ℕ) × (j < o.lanes) × IsAtStop (views j) → (j : ℕ) × (j < o.lanes) × IsAtStop (with_view views k v' j)
    at_stop_kept later (j, low, stops) =
        (j, low, view_all (λ i u. IsAtStop (views i) → IsAtStop u) views k v' (λ there. later (subst IsAtStop is there)) j (λ other there. there) stops)

    -- a step that leaves the history
    pub quiet : (new : Memory)
        → ((j : ℕ) → j < o.lanes → j ≢ k → LaneFits o new (settled o log decided) (Flies log decided j) j (views j))
        → LaneFits o new (settled o log decided) (Flies log decided k) k v'
        → ((w : ℕ) → IsLivingWord o w → is_in_log v' w ≡ false → ((j : ℕ) → j < o.lanes → j ≢ k → is_in_log (views j) w ≡ false) → new (PoolWord w) ≡ settled o log decided w)
        → ((line bit : ℕ) → bit_at (new (LockWord line)) bit ≡ 1 → IsHold (with_view views k v') o.lanes line bit)
        → ((n : ℕ) → flight v ≡ Some n → flight v' ≡ Some n)
        → new CommitCounter ≡ old CommitCounter
        → old CommitCounter + may_draw_count (with_view views k v') o.lanes < generation_limit + 32
        → v'.entries ≡ v.entries
        → HeapNow o new (with_view views k v')
        → (new StopWord ≡ 0) ⊎ ((j : ℕ) × (j < o.lanes) × IsAtStop (with_view views k v' j))
        → World o new (with_view views k v') log decided
    quiet new others here words lines flying counter room entries heap stops = record {
      sound = world.sound;
      each_lane = each_lane' new (settled o log decided) (λ j. Flies log decided j) others here;
      each_word = λ w heap all. words w heap (unlogged_here w all) (unlogged_else w all);
      each_line = lines;
      each_entry = λ e there. entry_kept e decided (λ open_. open_) (λ open_. flying e.number) (world.each_entry e there);
      numbered = world.numbered;
      undrawn = world.undrawn;
      counter = counter ∙ world.counter;
      counter_room = subst (λ n. n + may_draw_count (with_view views k v') o.lanes < generation_limit + 32) (sym counter) room;
      own_entries = λ j low. entries_kept j entries low;
      new_runs = heap.runs;
      heap = heap.heap;
      stop_word = stops;
    }

    -- the heap after a step that changes no word of the pool, none of the heap's volatile words, nor what the lane has of them
    pub heap_here : (new : Memory) → ((w : ℕ) → new (PoolWord w) ≡ old (PoolWord w)) → IsHeapSame old new → HasSame v v' → HeapNow o new (with_view views k v')
    heap_here new words same has = record {
      runs = runs_same o old new words world.new_runs;
      heap = subst (λ h. Heap o h new (with_view views k v')) (sym (heap_same o old new (words_described o old new words))) (heap_still o (heap_words o old) old new views k v v' is world.heap same has);
    }

    -- a step that changes no word
    pub still : (new : Memory) → IsSame old new
        → LaneFits o old (settled o log decided) (Flies log decided k) k v'
        → ((w : ℕ) → is_in_log v' w ≡ false → is_in_log v w ≡ false)
        → v'.locks ≡ v.locks
        → ((n : ℕ) → flight v ≡ Some n → flight v' ≡ Some n)
        → old CommitCounter + may_draw_count (with_view views k v') o.lanes < generation_limit + 32
        → v'.entries ≡ v.entries → v'.stop ≡ v.stop → v.calls ≤ v'.calls → HeapNow o new (with_view views k v')
        → World o new (with_view views k v') log decided
    still new same here logs locks flying room entries stop more heap = quiet new
        (λ j low other. lane_kept o old new (settled o log decided) (settled o log decided) (Flies log decided j) (Flies log decided j) j (views j) (words_described o old new (λ w. same (PoolWord w)))
        (λ w in_area. same (PoolWord w)) (λ w known. same (PoolWord w)) (λ w own_word. same (PoolWord w)) (λ line write. subst (ShowsHold j write) (sym (same (LockWord line)))) (λ w own_word. refl) (λ n flies. flies) (world.each_lane j low))
        (lane_kept o old new (settled o log decided) (settled o log decided) (Flies log decided k) (Flies log decided k) k v' (words_described o old new (λ w. same (PoolWord w)))
        (λ w in_area. same (PoolWord w)) (λ w known. same (PoolWord w)) (λ w own_word. same (PoolWord w)) (λ line write. subst (ShowsHold k write) (sym (same (LockWord line)))) (λ w own_word. refl) (λ n flies. flies) here)
        (λ w heap here_un others. same (PoolWord w) ∙ world.each_word w heap (unlogged_before w (logs w here_un) others))
        (λ line bit set. hold_kept line bit (subst (λ ls. Any (λ (l : Lock). (l.line ≡ line) × (bit ≡ hold_bit k l.write)) ls) (sym locks)) (world.each_line line bit (subst (λ n. bit_at n bit ≡ 1) (same (LockWord line)) set)))
        flying (same CommitCounter) room entries heap
        (⊎_elim (λ (unset : old StopWord ≡ 0). inl (same StopWord ∙ unset)) (λ (t : (j : ℕ) × (j < o.lanes) × IsAtStop (views j)). inr (at_stop_kept (stop_kept v v' stop more) t)) world.stop_word)
