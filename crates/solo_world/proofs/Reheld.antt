-- A step that changes what a lane has of the heap, what it knows and what it saw, and no word of the pool and no lock.
use Rattle.std.proofs.Common.{◌≡◌, ℕ, ◌+◌, ◌<◌, ◌≤◌, inl, inr, ⊎_elim, le_refl, Bool, true, IsTrue, All, Contains, List, length, Option, Some, None, refl, sym, ◌∙◌, subst}
use Rattle.std.specs.Int.{bit_at}
use Rattle.std.proofs.lemmas.List.Elements.{All-contains, All-contains_itself, All-weaker}
use Rattle.solo_view.specs.declared.change.Change.{Change}
use Rattle.solo_view.specs.Counts.{IsAtStop}
use Rattle.solo_view.specs.Held.{is_held, is_reserved}
use Rattle.solo_view.specs.Log.{Phase, Final}
use Rattle.solo_view.specs.Log.Phase.{Idle, Open, Drawn, Sealing, Applying, Clearing, Retiring}
use Rattle.solo_view.specs.Rights.{is_written}
use Rattle.solo_view.specs.Steps.{Step}
use Rattle.solo_view.specs.View.{View, Taken}
use Rattle.solo_world.specs.Fits.{AppliedChange, EndFits, LaneFits, LogFits, LockFits, OpenChange, PhaseFits, RedoneWord, RetiringChange, SealChange, ShowsHold}
use Rattle.solo_world.specs.Heap.{BlocksFit, Heap, heap_words}
use Rattle.solo_world.specs.History.{Entry, Flies, settled}
use Rattle.solo_world.specs.Laws.{with_view}
use Rattle.solo_world.specs.Lawful.{FilledChange, OnlyFilled}
use Rattle.solo_world.specs.Memory.{Location, Memory}
use Rattle.solo_world.specs.Memory.Location.{CommitCounter, LockWord, PoolWord, StopWord}
use Rattle.solo_world.specs.Opening.{Opening}
use Rattle.solo_world.specs.World.{Views, World, may_draw}
use Rattle.solo_world.proofs.Filled.{filled_again}
use Rattle.solo_world.proofs.Frame.{HeapFits, heap_kept, lane_kept}
use Rattle.solo_world.proofs.Locations.{IsPlain, plain_counter, plain_lock, plain_pool, plain_stop}
use Rattle.solo_world.proofs.Pairs.{entries_again, in_log_before, or_written, redone_again, redone_kept}
use Rattle.solo_world.proofs.Recoursed.{open_again, used_again}
use Rattle.solo_world.proofs.Relocked.{generation_same}
use Rattle.solo_world.proofs.Worlds.{at_stop_kept, hold_kept, quiet, room_kept, stop_kept, unlogged_before}
use Rattle.solo_world.specs.Entries.{IsGrowing, is_or_entered}
use Rattle.solo_world.proofs.HeapWords.{words_described, heap_same, runs_same}

-- the view with other pictures of the occupancy words, blocks, zones, known words and steps seen
abbrev pub reheld : View → List ℕ → List ℕ → List ℕ → List Taken → List Taken → List ℕ → List Step → View
reheld v known run_words zone_words reserved freed zones seen =
    record v { known = known; run_words = run_words; zone_words = zone_words; reserved = reserved; freed = freed; zone_locks = zones; seen = seen }

module _ (v : View) (known run_words zone_words : List ℕ) (reserved freed : List Taken) (zones : List ℕ) (seen : List Step) where
  abbrev v' : View
  v' = reheld v known run_words zone_words reserved freed zones seen

  -- an undrained change in a block that was reserved is in one that is
  abbrev pub KeepsChanges : Type 0
  KeepsChanges = (c : Change) → Contains v.changes c → is_reserved v c.word ≡ true → is_reserved v' c.word ≡ true

  open_reheld : KeepsChanges → All (OpenChange v) v.changes → All (OpenChange v') v.changes
  open_reheld still all =
      All-weaker (Contains v.changes) (OpenChange v') (λ c there. open_again v v' c refl (λ w logged. logged) (λ of. record { reserved = still c there of.reserved; plain = of.plain }) (All-contains (OpenChange v) v.changes c all there)) v.changes (All-contains_itself v.changes)

  filled_reheld : KeepsChanges → OnlyFilled v → All (FilledChange v') v.changes
  filled_reheld still all =
      All-weaker (Contains v.changes) (FilledChange v') (λ c there. filled_again v v' c (still c there) (λ silent. silent) (All-contains (FilledChange v) v.changes c all there)) v.changes (All-contains_itself v.changes)

  sealed_reheld : (old : ℕ) → All (SealChange v old) v.changes → All (SealChange v' old) v.changes
  sealed_reheld old all = All-weaker (SealChange v old) (SealChange v' old) (λ c of. record { whole = of.whole; of = of.of; before = of.before }) v.changes all

  ends_reheld : (flies : ℕ → List Final → Type 0) (number : Option ℕ) → EndFits flies v number → EndFits flies v' number
  ends_reheld flies None ends = ends
  ends_reheld flies (Some n) ends = ends

  -- a word that an entry ORs is known still
  abbrev KeepsOrs : Type 0
  KeepsOrs = (w : ℕ) → is_or_entered v.log.entries w ≡ true → Contains v.known w → Contains known w

  phase_reheld : KeepsChanges → (flies : ℕ → List Final → Type 0) (phase : Phase) → ((IsGrowing phase → ⊥) → KeepsOrs) → PhaseFits flies v phase → PhaseFits flies v' phase
  phase_reheld still flies Idle ors fits = record { no_records = fits.no_records; changes = filled_reheld still fits.changes }
  phase_reheld still flies (Open slot pair) ors fits =
      record { undrawn = fits.undrawn; short = fits.short; stands = fits.stands; short_pair = fits.short_pair; in_pairs = fits.in_pairs; pair_stands = fits.pair_stands; changes = open_reheld still fits.changes }
  phase_reheld still flies Drawn ors fits = record { number = fits.number; drawn = fits.drawn; flying = fits.flying; drained = fits.drained }
  phase_reheld still flies Sealing ors fits = record {
    number = fits.number;
    drawn = fits.drawn;
    flying = fits.flying;
    changes = sealed_reheld 0 fits.changes;
    whole = record { front = fits.whole.front; are = fits.whole.are; owned = fits.whole.owned };
    known = λ w or. let t = fits.known w or in (record { known = ors (λ grows. grows) w or t.0.known; small = t.0.small }, t.1);
    below = fits.below;
  }
  phase_reheld still flies (Applying applied) ors fits = record {
    no_records = fits.no_records;
    most = fits.most;
    changes = All-weaker (AppliedChange v applied) (AppliedChange v' applied) (λ c of. record { of = of.of; bits = of.bits; next = of.next }) v.changes fits.changes;
    whole = record { front = fits.whole.front; are = fits.whole.are; owned = fits.whole.owned };
    known = λ w or. let t = fits.known w or in (record { known = ors (λ grows. grows) w or t.0.known; small = t.0.small }, t.1);
    last = fits.last;
  }
  phase_reheld still flies Clearing ors fits = record {
    no_records = fits.no_records;
    changes = sealed_reheld (length v.log.entries) fits.changes;
    whole = record { front = fits.whole.front; are = fits.whole.are; owned = fits.whole.owned };
    known = λ w or. let t = fits.known w or in (record { known = ors (λ grows. grows) w or t.0.known; small = t.0.small }, t.1);
  }
  phase_reheld still flies Retiring ors fits = record {
    changes = All-weaker (RetiringChange v) (RetiringChange v') (λ c of. record { whole = of.whole; of = of.of; before = of.before }) v.changes fits.changes;
    ends = ends_reheld flies v.number fits.ends;
  }

  -- what is known stays so and is held; a recorded word is known still
  pub reheld_fits : (o : Opening) (old new : Memory) (settled : ℕ → ℕ) (flies : ℕ → List Final → Type 0) (k : ℕ) → ((w : ℕ) → new (PoolWord w) ≡ old (PoolWord w)) → ((line : ℕ) → new (LockWord line) ≡ old (LockWord line))
      → ((w : ℕ) → Contains known w → Contains v.known w) → ((w : ℕ) → Contains known w → IsTrue (is_held v' w)) → ((w : ℕ) → IsTrue (is_written v w) → Contains v.known w → Contains known w)
      → KeepsChanges → BlocksFit o (heap_words o old) v' → LaneFits o old settled flies k v → LaneFits o new settled flies k v'
  reheld_fits o old new settled flies k same locks fewer held kept still blocks fits = record {
    lane = record { lanes = fits.lane.lanes; zones = fits.lane.zones; lane = fits.lane.lane; size = fits.lane.size };
    picture = record { area = λ w inside. same w ∙ fits.picture.area w inside; known = λ w there. same w ∙ fits.picture.known w (fewer w there); held = held; descriptors = now.descriptors };
    locks = All-weaker (LockFits o old k) (LockFits o new k) (λ l f. record { shows = subst (ShowsHold k l.write) (sym (locks l.line)) f.shows; found = f.found }) v.locks fits.locks;
    log = subst (LogFits settled v') (sym (generation_same v.log.phase v v' refl refl)) (let f = fits.log in record {
      most = f.most;
      stored = f.stored;
      each = λ slot r there. let g = f.each slot r there in record {
        some = g.some;
        most = g.most;
        each = λ i low. let e = g.each i low in record { own = e.own; known = kept (r.word + i) e.own e.known; before = e.before };
      };
      once = f.once;
      stale = λ slot u low. f.stale slot u (subst (λ n. n ≤ slot) (used_again v.log.phase v v' refl) low);
    });
    entries = entries_again v v' refl refl (λ w low high. refl) (λ w own_word. own_word) (λ i f at free. inr free) refl refl fits.entries;
    redone = λ w again own_word. redone_moved w (redone_again old settled v v' w refl (fits.redone w again own_word));
    phase = phase_reheld still flies v.log.phase (λ quiet w or there. kept w (or_written v w fits.entries quiet or) there) fits.phase;
    blocks = now.blocks;
    first_generation = fits.first_generation;
    last_generation = fits.last_generation;
    room = fits.room;
    within = fits.within;
  }
    where
      now : HeapFits o (heap_words o new) v'
      now = heap_kept o old new v' (words_described o old new same) (record { descriptors = fits.picture.descriptors; blocks = blocks })

      redone_moved : (w : ℕ) → RedoneWord old settled v' w → RedoneWord new settled v' w
      redone_moved w r = redone_kept old new settled settled v' w (same w) refl r

module _ (o : Opening) (old : Memory) (views : Views) (log : List Entry) (decided : ℕ → Bool) (world : World o old views log decided) (k : ℕ) (inside : k < o.lanes) (v : View) (is : views k ≡ v) where
  -- the world after such a step, from the lane's own facts and what the heap is then
  pub reholds : (new : Memory) (known run_words zone_words : List ℕ) (reserved freed : List Taken) (zones : List ℕ) (seen : List Step) → ((l : Location) → IsPlain l → new l ≡ old l)
      → LaneFits o new (settled o log decided) (Flies log decided k) k (reheld v known run_words zone_words reserved freed zones seen)
      → (may_draw (reheld v known run_words zone_words reserved freed zones seen) ≡ true → may_draw v ≡ true)
      → Heap o (heap_words o old) new (with_view views k (reheld v known run_words zone_words reserved freed zones seen))
      → World o new (with_view views k (reheld v known run_words zone_words reserved freed zones seen)) log decided
  reholds new known run_words zone_words reserved freed zones seen same fits less heap =
      let v' : View = reheld v known run_words zone_words reserved freed zones seen in
      quiet o old views log decided world k inside v is v' new
      (λ j low other. lane_kept o old new (settled o log decided) (settled o log decided) (Flies log decided j) (Flies log decided j) j (views j) (words_described o old new (λ w. same (PoolWord w) (plain_pool w)))
      (λ w in_area. same (PoolWord w) (plain_pool w)) (λ w there. same (PoolWord w) (plain_pool w)) (λ w written. same (PoolWord w) (plain_pool w))
      (λ line write. subst (ShowsHold j write) (sym (same (LockWord line) (plain_lock line)))) (λ w written. refl) (λ n flies. flies) (world.each_lane j low))
      fits
      (λ w heap_word un others. same (PoolWord w) (plain_pool w) ∙ world.each_word w heap_word (unlogged_before o old views log decided world k inside v is v' w (in_log_before v v' w (λ e. e) (λ e. e) un) others))
      (λ line bit set. hold_kept o old views log decided world k inside v is v' line bit (λ there. there) (world.each_line line bit (subst (λ n. bit_at n bit ≡ 1) (same (LockWord line) (plain_lock line)) set)))
      (λ n flying. flying) (same CommitCounter plain_counter) (room_kept o old views log decided world k inside v is v' less) refl
      (let words : (w : ℕ) → new (PoolWord w) ≡ old (PoolWord w) = λ w. same (PoolWord w) (plain_pool w) in
      record { runs = runs_same o old new words world.new_runs; heap = subst (λ h. Heap o h new (with_view views k v')) (sym (heap_same o old new (words_described o old new words))) heap })
      (⊎_elim (λ (unset : old StopWord ≡ 0). inl (same StopWord plain_stop ∙ unset))
      (λ (t : (j : ℕ) × (j < o.lanes) × IsAtStop (views j)). inr (at_stop_kept o old views log decided world k inside v is v' (stop_kept v v' refl (le_refl v.calls)) t)) world.stop_word)
