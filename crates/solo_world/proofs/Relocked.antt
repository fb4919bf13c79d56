-- The lane's own facts where its locks, what it knows and what it saw change, and no word does.
use Rattle.std.proofs.Common.{◌≡◌, ◌≢◌, ℕ, ◌+◌, ◌-◌, ◌<◌, ◌≤◌, inl, inr, ⊎_elim, le_refl, Bool, true, false, cond, eqb, ◌&&◌, IsTrue, All, Contains, List, length, refl, sym, ap, ◌∙◌, subst}
use Rattle.std.specs.Int.{bit_at}
use Rattle.std.proofs.lemmas.Bool.{cases_eq, false≢true}
use Rattle.std.proofs.lemmas.List.Elements.{All-weaker}
use Rattle.solo_view.specs.Counts.{IsAtStop}
use Rattle.solo_view.specs.Held.{is_held}
use Rattle.solo_view.specs.Log.{Phase, Recorded, Final}
use Rattle.solo_view.specs.Log.Phase.{Idle, Open, Drawn, Sealing, Applying, Clearing, Retiring}
use Rattle.solo_view.specs.Rights.{is_written}
use Rattle.solo_view.specs.Steps.{Step}
use Rattle.solo_view.specs.View.{View, Lock}
use Rattle.solo_world.specs.Entries.{is_entered, is_redoing}
use Rattle.solo_world.specs.Fits.{ShowsHold, LockFits, LaneFits, EntriesFit, LogFits, PhaseFits, OpenChange}
use Rattle.solo_world.specs.History.{Entry, Flies, settled}
use Rattle.solo_world.specs.Laws.{with_view}
use Rattle.solo_world.specs.Lawful.{FilledChange, IsEarly}
use Rattle.solo_world.specs.Memory.{Memory, IsSameBut}
use Rattle.solo_world.specs.Memory.Location.{PoolWord, LockWord, CommitCounter, StopWord}
use Rattle.solo_world.specs.Opening.{Opening}
use Rattle.solo_world.specs.Records.{IsRecordAt, generation_of, records_generation}
use Rattle.solo_world.specs.World.{Views, World, IsHold, may_draw}
use Rattle.solo_world.proofs.Filled.{filled_again}
use Rattle.solo_world.proofs.Frame.{HeapFits, heap_kept, lane_kept}
use Rattle.solo_world.proofs.Locations.{plain_lock, pool-lock, counter-lock, stop-lock, other_lock}
use Rattle.solo_world.proofs.Recoursed.{used_again, open_again}
use Rattle.solo_world.proofs.Heaps.{beside_same}
use Rattle.solo_world.proofs.Worlds.{heap_here, quiet, unlogged_before, room_kept, at_stop_kept, stop_kept}
use Rattle.solo_world.proofs.HeapWords.{words_described}
use Rattle.solo_world.specs.Heap.{heap_words}

-- the view with other locks, known words and steps seen
abbrev pub relocked : View → List Lock → List ℕ → List Step → View
relocked v locks known seen = record v { locks = locks; known = known; seen = seen }

pub generation_same : (phase : Phase) (v v' : View) → generation_of v' ≡ generation_of v → v'.log.entries ≡ v.log.entries → records_generation phase v' ≡ records_generation phase v
generation_same Idle v v' same entries = same
generation_same (Open slot pair) v v' same entries = same
generation_same Drawn v v' same entries = same
generation_same Sealing v v' same entries = same
generation_same (Applying applied) v v' same entries = λ i. cond (eqb applied (length (entries i))) (same i) (same i + 1)
generation_same Clearing v v' same entries = same
generation_same Retiring v v' same entries = ap (λ n. n - 1) same

module _ (v : View) (locks : List Lock) (known : List ℕ) (seen : List Step) where
  abbrev v' : View
  v' = relocked v locks known seen

  open_relocked : All (OpenChange v) v.changes → All (OpenChange v') v.changes
  open_relocked all = All-weaker (OpenChange v) (OpenChange v') (λ c of. open_again v v' c refl (λ w logged. logged) (λ own. record { reserved = own.reserved; plain = own.plain }) of) v.changes all

  phase_relocked : (flies : ℕ → List Final → Type 0) (phase : Phase) → IsEarly phase → PhaseFits flies v phase → PhaseFits flies v' phase
  phase_relocked flies Idle early fits = record { no_records = fits.no_records; changes = All-weaker (FilledChange v) (FilledChange v') (λ c of. filled_again v v' c (λ own. own) (λ silent. silent) of) v.changes fits.changes }
  phase_relocked flies (Open slot pair) early fits =
      record { undrawn = fits.undrawn; short = fits.short; stands = fits.stands; short_pair = fits.short_pair; in_pairs = fits.in_pairs; pair_stands = fits.pair_stands; changes = open_relocked fits.changes }
  phase_relocked flies Drawn early fits = absurd early
  phase_relocked flies Sealing early fits = absurd early
  phase_relocked flies (Applying applied) early fits = absurd early
  phase_relocked flies Clearing early fits = absurd early
  phase_relocked flies Retiring early fits = absurd early

  none_redone : (phase : Phase) → IsEarly phase → is_redoing phase ≡ false
  none_redone Idle early = refl
  none_redone (Open slot pair) early = refl
  none_redone Drawn early = absurd early
  none_redone Sealing early = absurd early
  none_redone (Applying applied) early = absurd early
  none_redone Clearing early = absurd early
  none_redone Retiring early = absurd early

  -- In a phase where locks come and go: what is known stays so and is held; what the records are of may still be written, and is known
  pub relocked_fits : (o : Opening) (old new : Memory) (settled : ℕ → ℕ) (flies : ℕ → List Final → Type 0) (k : ℕ) → IsEarly v.log.phase → ((w : ℕ) → new (PoolWord w) ≡ old (PoolWord w))
      → ((w : ℕ) → Contains known w → Contains v.known w) → ((w : ℕ) → Contains known w → IsTrue (is_held v' w)) → All (LockFits o new k) locks
      → ((slot : ℕ) (r : Recorded) → IsRecordAt v slot r → (w : ℕ) → IsTrue (is_written v w) → Contains v.known w → IsTrue (is_written v' w) × Contains known w)
      → EntriesFit v' → LaneFits o old settled flies k v → LaneFits o new settled flies k v'
  relocked_fits o old new settled flies k early same fewer held locks_fit kept entries_fit fits = record {
    lane = record { lanes = fits.lane.lanes; zones = fits.lane.zones; lane = fits.lane.lane; size = fits.lane.size };
    picture = record { area = λ w inside. same w ∙ fits.picture.area w inside; known = λ w there. same w ∙ fits.picture.known w (fewer w there); held = held; descriptors = now.descriptors };
    locks = locks_fit;
    log = subst (LogFits settled v') (sym (generation_same v.log.phase v v' refl refl)) (let f = fits.log in record {
      most = f.most;
      stored = f.stored;
      each = λ slot r there. let g = f.each slot r there in record {
        some = g.some;
        most = g.most;
        each = λ i low. let e = g.each i low in let t = kept slot r there (r.word + i) e.own e.known in record { own = t.0; known = t.1; before = e.before };
      };
      once = f.once;
      stale = λ slot u low. f.stale slot u (subst (λ n. n ≤ slot) (used_again v.log.phase v v' refl) low);
    });
    entries = entries_fit;
    redone = λ w again. absurd (false≢true (sym (ap (λ b. b && is_entered v.log.entries w) (none_redone v.log.phase early)) ∙ again));
    phase = phase_relocked flies v.log.phase early fits.phase;
    blocks = now.blocks;
    first_generation = fits.first_generation;
    last_generation = fits.last_generation;
    room = fits.room;
    within = fits.within;
  }
    where
      now : HeapFits o (heap_words o new) v'
      now = heap_kept o old new v' (words_described o old new same) (record {
        descriptors = fits.picture.descriptors;
        blocks = record { of_pool = fits.blocks.of_pool; small = fits.blocks.small; free = fits.blocks.free; described = fits.blocks.described; freed = fits.blocks.freed };
      })

module _ (o : Opening) (old : Memory) (views : Views) (log : List Entry) (decided : ℕ → Bool) (world : World o old views log decided) (k : ℕ) (inside : k < o.lanes) (v : View) (is : views k ≡ v) where
  -- only a lock word changed: the other lanes' holds of it stay
  pub relocks : (new : Memory) (line : ℕ) (locks : List Lock) (known : List ℕ) (seen : List Step) → IsSameBut (LockWord line) old new
      → ((j : ℕ) (write : Bool) → j < o.lanes → j ≢ k → ShowsHold j write (old (LockWord line)) → ShowsHold j write (new (LockWord line)))
      → LaneFits o new (settled o log decided) (Flies log decided k) k (relocked v locks known seen)
      → ((other bit : ℕ) → bit_at (new (LockWord other)) bit ≡ 1 → IsHold (with_view views k (relocked v locks known seen)) o.lanes other bit)
      → (may_draw (relocked v locks known seen) ≡ true → may_draw v ≡ true)
      → World o new (with_view views k (relocked v locks known seen)) log decided
  relocks new line locks known seen same shows fits lines less =
      let v'' : View = relocked v locks known seen in
      quiet o old views log decided world k inside v is v'' new
      (λ j low other. lane_kept o old new (settled o log decided) (settled o log decided) (Flies log decided j) (Flies log decided j) j (views j) (words_described o old new (λ w. same (PoolWord w) (pool-lock w line)))
      (λ w in_area. same (PoolWord w) (pool-lock w line)) (λ w there. same (PoolWord w) (pool-lock w line)) (λ w written. same (PoolWord w) (pool-lock w line))
      (λ at write held. ⊎_elim (λ (this : at ≡ line). subst (λ l. ShowsHold j write (new (LockWord l))) (sym this) (shows j write low other (subst (λ l. ShowsHold j write (old (LockWord l))) this held)))
      (λ (differ : at ≢ line). subst (ShowsHold j write) (sym (same (LockWord at) (other_lock at line differ))) held) (cases_eq at line))
      (λ w written. refl) (λ n flies. flies) (world.each_lane j low))
      fits
      (λ w heap un others. same (PoolWord w) (pool-lock w line) ∙ world.each_word w heap (unlogged_before o old views log decided world k inside v is v'' w un others))
      lines (λ n flying. flying) (same CommitCounter (counter-lock line)) (room_kept o old views log decided world k inside v is v'' less) refl (heap_here o old views log decided world k inside v is v'' new (λ w. same (PoolWord w) (pool-lock w line)) (beside_same old new (LockWord line) (plain_lock line) same) (record { lanes = refl; reserved = refl; freed = refl; zones = refl }))
      (⊎_elim (λ (unset : old StopWord ≡ 0). inl (same StopWord (stop-lock line) ∙ unset))
      (λ (t : (j : ℕ) × (j < o.lanes) × IsAtStop (views j)). inr (at_stop_kept o old views log decided world k inside v is v'' (stop_kept v v'' refl (le_refl v.calls)) t)) world.stop_word)
