-- A draw keeps the world, and adds the lane's call to its history.
use Rattle.std.proofs.Common.{◌≡◌, ◌≢◌, ℕ, zero, suc, ◌+◌, ◌-◌, ◌<◌, ◌≤◌, inl, inr, ⊎_elim, le_refl, Bool, true, false, cond, eqb, ◌&&◌, ◌||◌, IsTrue, All, Any, Contains, List, [], ◌∷◌, ◌++◌, length, map, flat_map, slice_get, slice_index, ◌^◌, Some, is_none, refl, sym, ap, ◌∙◌, subst, arith, eq-eqb, ne_eqb, append-nil, length-append}
use Rattle.std.specs.Int.{bit_at}
use Rattle.std.specs.List.{list_any, range_with_len, filter}
use Rattle.std.proofs.lemmas.Option.{none-some}
use Rattle.std.proofs.lemmas.Bool.{cases_Bool, cond-true, cond-false, and_from, lt-ltb, or_right, false≢true, false_from_ne_true}
use Rattle.std.proofs.lemmas.List.Elements.{All-weaker, Contains-append_left, Contains-push, Contains-push_cases}
use Rattle.std.proofs.lemmas.List.Folds.{list_any_at}
use Rattle.solo_view.specs.Area.{is_in_area}
use Rattle.solo_view.specs.Counts.{IsAtStop}
use Rattle.solo_view.specs.Log.{Phase, Recorded, Final, log_drawn, phase_drawn}
use Rattle.solo_view.specs.Log.Phase.{Idle, Drawn}
use Rattle.solo_view.specs.Rights.{is_written}
use Rattle.solo_view.specs.Steps.Step.{Draw, NumberSeen}
use Rattle.solo_view.specs.View.{View, Numbered}
use Rattle.solo_world.specs.Course.{flight, flight_in, entry_of, is_empty, decided_after}
use Rattle.solo_world.specs.Entries.{HasNone, is_redoing, seal_in}
use Rattle.solo_world.specs.Fits.{LaneFits, LogFits, PhaseFits, ShowsHold}
use Rattle.solo_world.specs.History.{Entry, Flies, settled, is_final, AreNumbered, entries_by}
use Rattle.solo_world.specs.Laws.{with_view, DrawsPlainly, KeepsFrom}
use Rattle.solo_world.specs.Lawful.{FilledChange, MayDraw, generation_limit}
use Rattle.solo_world.specs.Memory.{Memory, Becomes}
use Rattle.solo_world.specs.Memory.Location.{PoolWord, LockWord, CommitCounter, StopWord}
use Rattle.solo_world.specs.Opening.{Opening, Guards}
use Rattle.solo_world.specs.Records.{generation_of, finals_of, is_recorded, pool_entries, records_generation, used_slots, difference_of}
use Rattle.solo_world.specs.World.{Views, World, EntryFits, is_low, may_draw, may_draw_count}
use Rattle.solo_view.specs.Views.{after, changes_heap, freed_by, unallocated}
use Rattle.solo_view.specs.Held.{is_held}
use Rattle.solo_world.proofs.Plain.{flying_still, plain_still}
use Rattle.solo_world.proofs.Apart.{outside_behind}
use Rattle.solo_world.proofs.Differences.{difference-words, difference-unentered, pool_entries-final}
use Rattle.solo_world.proofs.Draws.{draws_fewer}
use Rattle.solo_world.proofs.Exclusion.{writes_under, one_writer}
use Rattle.solo_world.proofs.Filled.{logged_drained, filled_again, only_filled}
use Rattle.solo_world.proofs.Frame.{coursed, in_phase, lane_kept, log_again, coursed_fits, view_here, view_all}
use Rattle.solo_world.proofs.Locations.{plain_counter, pool-counter, lock-counter, stop-counter}
use Rattle.solo_world.proofs.Longer.{replayed-skip, empty-other, numbered-more, entries_by-more}
use Rattle.solo_world.proofs.Numbers.{number_upto, own_below}
use Rattle.solo_world.proofs.Pairs.{difference-written, entries_sealed, in_log_before, none_redone, plain_entry}
use Rattle.solo_world.proofs.Replays.{made_final-other, replayed-same}
use Rattle.solo_world.proofs.Heaps.{beside_same}
use Rattle.solo_world.proofs.Worlds.{heap_here, own, own_numbers, each_lane', unlogged_here, unlogged_else, unlogged_before, hold_kept, entry_kept, at_stop_kept, stop_kept}
use Rattle.solo_world.proofs.HeapWords.{words_described}

or_false : (b : Bool) → (b || false) ≡ b
or_false true = refl
or_false false = refl

and_false : (b : Bool) → (b && false) ≡ false
and_false true = refl
and_false false = refl

-- a record is of some word
some_finals : (words : List ℕ) (from n : ℕ) (rest more : List Final) → 1 ≤ n → is_empty ((map (λ w. record { word = w; mask = 2 ^ 64 - 1; bits = slice_index words w; ors = false }) (range_with_len from n) ++ rest) ++ more) ≡ false
some_finals words from zero rest more some = absurd (omega arith)
some_finals words from (suc n) rest more some = refl

module _ (o : Opening) (old : Memory) (views : Views) (log : List Entry) (decided : ℕ → Bool) (world : World o old views log decided) (k : ℕ) (inside : k < o.lanes) (v : View) (is : views k ≡ v)
    (new : Memory) (n : ℕ) (moves : Becomes CommitCounter n old new) (next : n ≡ old CommitCounter + 1) (may : MayDraw v) (plain : changes_heap v ≡ false) where
  abbrev S : ℕ → ℕ
  S = settled o log decided

  abbrev log' : List Entry
  log' = log ++ entry_of v n ∷ []

  abbrev decided' : ℕ → Bool
  decided' m = decided m || (eqb n m && is_empty (difference_of v))

  mine : LaneFits o old S (Flies log decided k) k v
  mine = own o old views log decided world k inside v is

  last : n ≡ length log + 1
  last = let counter = world.counter in omega arith

  longer : length log' ≡ n
  longer = let e = length-append log (entry_of v n ∷ []) in omega (arith, e, last)

  other_number : (m : ℕ) → n ≢ m → decided' m ≡ decided m
  other_number m differ = ap (λ b. decided m || (b && is_empty (difference_of v))) (ne_eqb n m differ) ∙ or_false (decided m)

  old_number : (e : Entry) → Contains log e → decided' e.number ≡ decided e.number
  old_number e there = other_number e.number (λ same. let upto = number_upto 1 log e world.numbered there in let l = last in omega arith)

  this_number : decided' n ≡ is_empty (difference_of v)
  this_number = (λ i. world.undrawn n (let l = last in omega arith) i || (eq-eqb n n refl i && is_empty (difference_of v)))

  settles : (w : ℕ) → settled o log' decided' w ≡ S w
  settles w =
      replayed-skip decided' log (entry_of v n) w (slice_index o.words w)
      (λ y. ⊎_elim (λ (empty : is_empty (difference_of v) ≡ true). cond-true _ _ _ (this_number ∙ empty) ∙ made_final-other (difference_of v) w y (empty-other (difference_of v) w empty))
      (λ (some : is_empty (difference_of v) ≡ false). cond-false _ _ _ (this_number ∙ some)) (cases_Bool (is_empty (difference_of v))))
      ∙ replayed-same decided' decided log w (slice_index o.words w) (λ e there of. old_number e there)

  numbered' : AreNumbered 1 log'
  numbered' = numbered-more 1 log (entry_of v n) world.numbered (let l = last in omega arith)

  open_log : LogFits S v (generation_of v)
  open_log = subst (λ p. LogFits S v (records_generation p v)) may.is_open mine.log

  -- a word of the call's difference is one that the lane writes
  written : (w : ℕ) → is_final (difference_of v) w ≡ true → IsTrue (is_written v w)
  written w final = difference-written S v (generation_of v) w open_log plain final

  -- a lane with a call in flight has no entry of the heap
  flier_plain : (j m : ℕ) → j < o.lanes → Flies log decided j m (difference_of (views j)) → changes_heap (views j) ≡ false
  flier_plain j m low fl =
      let flies : flight (views fl.entry.lane) ≡ Some fl.entry.number = (world.each_entry fl.entry fl.there).in_flight (ap decided fl.has_number ∙ fl.undecided) in
      let here : flight (views j) ≡ Some fl.entry.number = ap (λ i. flight (views i)) (sym fl.has_lane) ∙ flies in
      plain_still (views j) (world.each_lane j low).entries (flying_still (views j).log.phase fl.entry.number (views j).number here)

  others_fly : (j : ℕ) → j < o.lanes → j ≢ k → (m : ℕ) → Flies log decided j m (difference_of (views j)) → Flies log' decided' j m (difference_of (views j))
  others_fly j low other m fl =
      let fits = world.each_lane j low in record {
        entry = fl.entry;
        there = Contains-append_left log (entry_of v n ∷ []) fl.entry fl.there;
        has_number = fl.has_number;
        has_lane = fl.has_lane;
        has_difference = fl.has_difference;
        undecided = ap decided' (sym fl.has_number) ∙ (old_number fl.entry fl.there ∙ (ap decided fl.has_number ∙ fl.undecided));
        last = λ later w there after final.
            ⊎_elim (λ (before : Contains log later). fl.last later w before after final)
            (λ (this : entry_of v n ≡ later). false_from_ne_true (is_final later.difference w) (λ again. other (one_writer o old j k w world.sound
            (writes_under o old j (views j) w fits.locks (difference-written S (views j) (records_generation (views j).log.phase (views j)) w fits.log (flier_plain j m low fl) final))
            (writes_under o old k v w mine.locks (written w (ap (λ (e : Entry). is_final e.difference w) this ∙ again))))))
            (Contains-push_cases log (entry_of v n) later there);
      }

  this_flies : is_empty (difference_of v) ≡ false → Flies log' decided' k n (difference_of v)
  this_flies some = record {
    entry = entry_of v n;
    there = Contains-push log (entry_of v n);
    has_number = refl;
    has_lane = mine.lane.lane;
    has_difference = refl;
    undecided = this_number ∙ some;
    last = λ later w there after final. let upto = number_upto 1 log' later numbered' there in let l = longer in absurd (omega arith);
  }

  guarded : (f : Final) → Contains (difference_of v) f → (line : ℕ) × Guards o line f.word
  guarded f there =
      let final : is_final (difference_of v) f.word ≡ true = list_any_at (λ (g : Final). eqb g.word f.word) (difference_of v) there.0 f there.1 (ap (λ (g : Final). eqb g.word f.word) there.2 ∙ eq-eqb f.word f.word refl) in
      let t = writes_under o old k v f.word mine.locks (written f.word final) in (t.0, t.1)

  could : may_draw v ≡ true
  could = and_from (is_none v.number) (list_any is_low v.seen) (ap is_none may.first) (list_any_at is_low v.seen may.seen.0 (NumberSeen may.found) may.seen.1 (ap is_low may.seen.2 ∙ lt-ltb may.found generation_limit may.below))

  abbrev view' : Phase → View
  view' phase = coursed v v.changes v.calls (in_phase phase v.log) v.seen v.call (Some n) (v.entries ++ record { number = n; call = v.call } ∷ []) v.actions

  room' : (phase : Phase) → n + may_draw_count (with_view views k (view' phase)) o.lanes < generation_limit + 32
  room' phase =
      let fewer = draws_fewer views (with_view views k (view' phase)) k o.lanes inside
      (λ j. view_all (λ i u. may_draw u ≡ true → may_draw (views i) ≡ true) views k (view' phase) (λ can. absurd (false≢true can)) j (λ other can. can))
      (ap may_draw is ∙ could) (ap may_draw (view_here views k (view' phase))) in
      let before = world.counter_room in omega arith

  -- the call is decided at once, or is to be decided
  draws_to : (phase : Phase) → ((u : View) → records_generation phase u ≡ generation_of u) → ((u : View) → used_slots phase u ≡ length u.log.records)
      → 0 ≡ seal_in phase (view' phase) → HasNone phase (view' phase) → is_redoing phase ≡ false → PhaseFits (Flies log' decided' k) (view' phase) phase → (is_empty (difference_of v) ≡ false → flight_in phase (Some n) ≡ Some n)
      → World o new (with_view views k (view' phase)) log' decided'
  draws_to phase generation used seal none quiet fits flies =
      let v' : View = view' phase in
      let same = moves.0 in
      let keeps : (j : ℕ) (u : View) (flew flies : ℕ → List Final → Type 0) → ((m : ℕ) → flew m (difference_of u) → flies m (difference_of u)) → LaneFits o old S flew j u → LaneFits o new (settled o log' decided') flies j u =
      λ j u flew flies' on. lane_kept o old new S (settled o log' decided') flew flies' j u (words_described o old new (λ w. same (PoolWord w) (pool-counter w)))
      (λ w in_area. same (PoolWord w) (pool-counter w)) (λ w known. same (PoolWord w) (pool-counter w)) (λ w own_word. same (PoolWord w) (pool-counter w)) (λ line write. subst (ShowsHold j write) (sym (same (LockWord line) (lock-counter line)))) (λ w own_word. settles w) on in
      record {
        sound = world.sound;
        each_lane = each_lane' o old views log decided world k inside v is v' new (settled o log' decided') (λ j. Flies log' decided' j)
            (λ j low other. keeps j (views j) (Flies log decided j) (Flies log' decided' j) (others_fly j low other) (world.each_lane j low))
            (keeps k v' (Flies log' decided' k) (Flies log' decided' k) (λ m flying. flying)
            (coursed_fits o old S (Flies log' decided' k) k v v.changes v.calls (in_phase phase v.log) v.seen v.call (Some n) (v.entries ++ record { number = n; call = v.call } ∷ []) v.actions mine
            (subst (LogFits S v') (sym (generation v')) (log_again S v v.changes v.calls phase v.seen v.call (Some n) (v.entries ++ record { number = n; call = v.call } ∷ []) v.actions (generation_of v) (used v ∙ sym (ap (λ p. used_slots p v) may.is_open)) open_log))
            (entries_sealed v v' refl refl (λ w low high. refl) (λ w own_word. own_word) (λ i f at free. inl (plain_entry v i f plain at free)) (mine.entries.seal ∙ (ap (λ p. seal_in p v) may.is_open ∙ seal)) none mine.entries)
            (λ w again. absurd (false≢true (sym (none_redone v' w quiet) ∙ again)))
            fits mine.room mine.within));
        each_word = λ w heap all. same (PoolWord w) (pool-counter w) ∙ (world.each_word w heap
            (unlogged_before o old views log decided world k inside v is v' w (in_log_before v v' w (λ e. e) (λ redone. absurd (false≢true (sym (none_redone v w (ap is_redoing may.is_open)) ∙ redone)))
            (unlogged_here o old views log decided world k inside v is v' w all)) (unlogged_else o old views log decided world k inside v is v' w all)) ∙ sym (settles w));
        each_line = λ line bit set. hold_kept o old views log decided world k inside v is v' line bit (λ there. there) (world.each_line line bit (subst (λ m. bit_at m bit ≡ 1) (same (LockWord line) (lock-counter line)) set));
        each_entry = λ e there. ⊎_elim (λ (before : Contains log e). entry_kept o old views log decided world k inside v is v' e decided' (λ open_. sym (old_number e before) ∙ open_)
            (λ open_ flying. absurd (none-some e.number (sym (ap (λ p. flight_in p v.number) may.is_open) ∙ flying))) (world.each_entry e before))
            (λ (this : entry_of v n ≡ e). subst (EntryFits o (with_view views k v') decided') this (record {
              of_lane = subst (λ j. j < o.lanes) (sym mine.lane.lane) inside;
              in_flight = λ open_. subst (λ j. flight (with_view views k v' j) ≡ Some n) (sym mine.lane.lane) (ap flight (view_here views k v') ∙ flies (sym this_number ∙ open_));
              guarded = guarded;
            })) (Contains-push_cases log (entry_of v n) e there);
        numbered = numbered';
        undrawn = λ m beyond. let l = longer in other_number m (λ this. omega arith) ∙ world.undrawn m (let l' = last in omega arith);
        counter = moves.1 ∙ sym longer;
        counter_room = subst (λ m. m + may_draw_count (with_view views k v') o.lanes < generation_limit + 32) (sym moves.1) (room' phase);
        own_entries = λ j low. entries_by-more j log (entry_of v n) ∙ view_all (λ i u. entries_by i log ++ cond (eqb v.lane i) (record { number = n; call = v.call } ∷ []) [] ≡ u.entries) views k v'
            ((λ i. own_numbers o old views log decided world k inside v is i ++ cond (eq-eqb v.lane k mine.lane.lane i) (record { number = n; call = v.call } ∷ []) [])) j
            (λ other. ap (λ b. entries_by j log ++ cond b (record { number = n; call = v.call } ∷ []) []) (ne_eqb v.lane j (λ same_lane. other (sym same_lane ∙ mine.lane.lane)))
            ∙ (append-nil (entries_by j log) ∙ world.own_entries j low));
        new_runs = (heap_here o old views log decided world k inside v is v' new (λ w. same (PoolWord w) (pool-counter w)) (beside_same old new CommitCounter plain_counter same) (record { lanes = refl; reserved = refl; freed = refl; zones = refl })).runs;
        heap = (heap_here o old views log decided world k inside v is v' new (λ w. same (PoolWord w) (pool-counter w)) (beside_same old new CommitCounter plain_counter same) (record { lanes = refl; reserved = refl; freed = refl; zones = refl })).heap;
        stop_word = ⊎_elim (λ (unset : old StopWord ≡ 0). inl (same StopWord stop-counter ∙ unset))
            (λ (t : (j : ℕ) × (j < o.lanes) × IsAtStop (views j)). inr (at_stop_kept o old views log decided world k inside v is v' (stop_kept v v' refl (le_refl v.calls)) t)) world.stop_word;
      }

  -- an entry of a word that the lane writes is one of the difference
  some_entries : Any (λ (f : Final). IsTrue (is_written v f.word)) v.log.entries → is_empty (difference_of v) ≡ false
  some_entries (i, f, low, at, own_word) =
      let under = writes_under o old k v f.word mine.locks own_word in
      let behind = world.sound.behind_areas under.0 f.word under.1 in
      let out : is_in_area v.lane f.word ≡ false = ap (λ j. is_in_area j f.word) mine.lane.lane ∙ outside_behind o.lanes k f.word inside behind in
      let listed : is_final v.log.entries f.word ≡ true = list_any_at (λ (g : Final). eqb g.word f.word) v.log.entries i f low (ap (λ (g : Final). eqb g.word f.word) at ∙ eq-eqb f.word f.word refl) in
      false_from_ne_true (is_empty (difference_of v)) (λ empty. false≢true (sym (empty-other (difference_of v) f.word empty)
      ∙ (difference-words v f.word ∙ or_right (is_recorded v.log.records f.word) (is_final (pool_entries v) f.word) (pool_entries-final v f.word out ∙ listed))))

  -- what the lane filled may be undrained
  still_filled : (phase : Phase) → All (FilledChange (view' phase)) v.changes
  still_filled phase = All-weaker (FilledChange v) (FilledChange (view' phase)) (λ c of. filled_again v (view' phase) c (λ own. own) (λ silent. silent) of) v.changes (only_filled v may.drained)

  none_of_some : {X : Type 0} (x : X) (rest xs : List X) → xs ≡ [] → xs ≡ x ∷ rest → ⊥
  none_of_some {X = X} x rest xs none some = let e : length xs ≡ 0 = ap length none in let f : length xs ≡ length (x ∷ rest) = ap length some in omega arith

  to_decide : v.changes ≡ [] → is_empty (difference_of v) ≡ false → World o new (with_view views k (view' Drawn)) log' decided'
  to_decide nothing some = draws_to Drawn (λ u. refl) (λ u. refl) refl tt refl (record { number = n; drawn = refl; flying = this_flies some; drained = nothing }) (λ _. refl)

  draws_with : (records : List Recorded) (entries : List Final) → v.log.records ≡ records → v.log.entries ≡ entries → World o new (with_view views k (view' (phase_drawn records entries))) log' decided'
  draws_with [] [] e f = draws_to Idle (λ u. refl) (λ u. refl) refl f refl (record { no_records = e; changes = still_filled Idle })
      (λ some. absurd (false≢true (sym some ∙ (ap is_empty (difference-unentered v f) ∙ ap (λ rs. is_empty (flat_map (finals_of v.words) rs)) e))))
  draws_with [] (g ∷ entries) e f = to_decide (logged_drained v may.drained (λ none_recorded none. none_of_some g entries v.log.entries none f)) (⊎_elim (λ (none : v.log.entries ≡ []). absurd (none_of_some g entries v.log.entries none f)) (λ some. ⊎_elim some_entries (λ (heap : IsTrue (changes_heap v)). absurd (false≢true (sym plain ∙ heap))) some) may.entered)
  draws_with (r ∷ records) entries e f =
      to_decide (logged_drained v may.drained (λ none unentered. none_of_some r records v.log.records none e)) (ap (λ rs. is_empty (flat_map (finals_of v.words) rs ++ pool_entries v)) e
      ∙ some_finals v.words r.word (length r.old) (flat_map (finals_of v.words) records) (pool_entries v) (open_log.each 0 r (ap (λ rs. slice_get rs 0) e)).some)

  drawn_log : log_drawn v.log.phase v.log ≡ in_phase (phase_drawn v.log.records v.log.entries) v.log
  drawn_log = ap (λ p. log_drawn p v.log) may.is_open

  -- the view after the draw of such a call
  drawn_view : after v (Draw n) ≡ record v { log = log_drawn v.log.phase v.log; number = Some n; entries = v.entries ++ record { number = n; call = v.call } ∷ [] }
  drawn_view = λ i. record v {
    log = log_drawn v.log.phase v.log;
    number = Some n;
    entries = v.entries ++ record { number = n; call = v.call } ∷ [];
    known = cond (plain i) (filter (is_held (record v { reserved = unallocated v })) v.known) v.known;
    reserved = cond (plain i) (unallocated v) v.reserved;
    freed = cond (plain i) (v.freed ++ flat_map (freed_by v) v.log.entries) v.freed;
  }

  drawn_world : World o new (with_view views k (record v { log = log_drawn v.log.phase v.log; number = Some n; entries = v.entries ++ record { number = n; call = v.call } ∷ [] })) log' decided'
  drawn_world = subst (λ l. World o new (with_view views k (record v { log = l; number = Some n; entries = v.entries ++ record { number = n; call = v.call } ∷ [] })) log' decided') (sym drawn_log) (draws_with v.log.records v.log.entries refl refl)

  own_drawn : All (λ (e : Numbered). e.number < n) v.entries
  own_drawn = let l = last in All-weaker (λ (e : Numbered). e.number < 1 + length log) (λ (e : Numbered). e.number < n) (λ e low. omega arith) v.entries
      (subst (All (λ (e : Numbered). e.number < 1 + length log)) (own_numbers o old views log decided world k inside v is) (own_below 1 k log world.numbered))

pub draws : (n : ℕ) → KeepsFrom (DrawsPlainly n) (Draw n)
draws n o old new views log decided k v world inside is made moves = (
  subst (λ w. World o new (with_view views k w) (log ++ entry_of v n ∷ []) (decided_after decided v (Draw n))) (sym (drawn_view o old views log decided world k inside v is new n moves.0 moves.1 made.0.allowed made.1))
      (drawn_world o old views log decided world k inside v is new n moves.0 moves.1 made.0.allowed made.1),
  own_drawn o old views log decided world k inside v is new n moves.0 moves.1 made.0.allowed made.1,
)
