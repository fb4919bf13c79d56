-- What every step shares: the facts of a lane stay, where the memory and the history are the same at what it holds.
use Rattle.std.proofs.Common.{◌≡◌, ◌≢◌, ℕ, ◌+◌, ◌≤◌, ⊎_elim, Bool, cond, IsTrue, Contains, List, [], ◌∷◌, length, Option, Some, None, refl, sym, ap, ◌∙◌, subst, eq-eqb, ne_eqb}
use Rattle.std.specs.Option.{ForSome}
use Rattle.std.proofs.lemmas.Bool.{cases_eq}
use Rattle.std.proofs.lemmas.List.Elements.{All-weaker}
use Rattle.solo_view.specs.declared.change.Change.{Change}
use Rattle.solo_view.specs.Area.{is_in_area}
use Rattle.solo_view.specs.Blocks.{descriptor_word}
use Rattle.solo_view.specs.Counts.{max_changes}
use Rattle.solo_view.specs.Log.{Phase, Log, Final}
use Rattle.solo_view.specs.Log.Phase.{Idle, Open, Drawn, Sealing, Applying, Clearing, Retiring}
use Rattle.solo_view.specs.Rights.{is_written}
use Rattle.solo_view.specs.Steps.{Step}
use Rattle.solo_view.specs.View.{View, Told, Numbered}
use Rattle.solo_world.specs.Entries.{is_redone}
use Rattle.solo_world.specs.Fits.{ShowsHold, LockFits, LogFits, PhaseFits, EndFits, EntriesFit, IsDescriptorSeen, LaneFits, RedoneWord}
use Rattle.solo_world.specs.Heap.{BlocksFit, heap_words}
use Rattle.solo_world.specs.Laws.{with_view}
use Rattle.solo_world.specs.Memory.{Memory}
use Rattle.solo_world.specs.Memory.Location.{PoolWord, LockWord}
use Rattle.solo_world.specs.Opening.{IsChunk, Opening}
use Rattle.solo_world.specs.Records.{records_generation, used_slots, difference_of}
use Rattle.solo_world.specs.World.{Views}
use Rattle.solo_world.proofs.HeapWords.{AreDescribedSame, heap_same}
use Rattle.solo_world.proofs.Pairs.{redone_kept}

ends_kept : (flies flies' : ℕ → List Final → Type 0) (v : View) → ((n : ℕ) → flies n (difference_of v) → flies' n (difference_of v)) → (number : Option ℕ) → EndFits flies v number → EndFits flies' v number
ends_kept flies flies' v same None ends = ends
ends_kept flies flies' v same (Some n) ends = same n ends

-- the call flies on
pub phase_kept : (flies flies' : ℕ → List Final → Type 0) (v : View) → ((n : ℕ) → flies n (difference_of v) → flies' n (difference_of v)) → (phase : Phase) → PhaseFits flies v phase → PhaseFits flies' v phase
phase_kept flies flies' v same Idle fits = fits
phase_kept flies flies' v same (Open slot pair) fits = fits
phase_kept flies flies' v same Drawn fits = record { number = fits.number; drawn = fits.drawn; flying = same fits.number fits.flying; drained = fits.drained }
phase_kept flies flies' v same Sealing fits =
    record { number = fits.number; drawn = fits.drawn; flying = same fits.number fits.flying; changes = fits.changes; whole = fits.whole; known = fits.known; below = fits.below }
phase_kept flies flies' v same (Applying applied) fits = fits
phase_kept flies flies' v same Clearing fits = fits
phase_kept flies flies' v same Retiring fits = record { changes = fits.changes; ends = ends_kept flies flies' v same v.number fits.ends }

-- what the records are of is settled as before
pub log_kept : (settled settled' : ℕ → ℕ) (v : View) (generation : ℕ) → ((w : ℕ) → IsTrue (is_written v w) → settled' w ≡ settled w) → LogFits settled v generation → LogFits settled' v generation
log_kept settled settled' v generation same fits = record {
  most = fits.most;
  stored = fits.stored;
  each = λ slot r there. let f = fits.each slot r there in record {
    some = f.some;
    most = f.most;
    each = λ i low. let e = f.each i low in record { own = e.own; known = e.known; before = e.before ∙ sym (same (r.word + i) e.own) };
  };
  once = fits.once;
  stale = fits.stale;
}

-- what a lane has of descriptors and of blocks fits the words that tell of blocks
pub record HeapFits (o : Opening) (heap : ℕ → ℕ) (v : View) : Type 0 where
  pub descriptors : (page : ℕ) → IsChunk o.lanes page → IsDescriptorSeen o heap v (descriptor_word o.lanes page)
  pub blocks : BlocksFit o heap v

-- where the descriptors are as they were, so do these facts stay
pub heap_kept : (o : Opening) (old new : Memory) (v : View) → AreDescribedSame o old new → HeapFits o (heap_words o old) v → HeapFits o (heap_words o new) v
heap_kept o old new v same fits = subst (λ heap. HeapFits o heap v) (sym (heap_same o old new same)) fits

pub heap_of : (o : Opening) (mem : Memory) (settled : ℕ → ℕ) (flies : ℕ → List Final → Type 0) (j : ℕ) (v : View) → LaneFits o mem settled flies j v → HeapFits o (heap_words o mem) v
heap_of o mem settled flies j v fits = record { descriptors = fits.picture.descriptors; blocks = fits.blocks }

-- The lane that makes no step: its area, what it knows and what it may write are the same, its locks stay, what it may write is settled as before, and
-- what it has of the heap fits.
pub lane_stays : (o : Opening) (old new : Memory) (settled settled' : ℕ → ℕ) (flies flies' : ℕ → List Final → Type 0) (j : ℕ) (v : View)
    → ((w : ℕ) → IsTrue (is_in_area v.lane w) → new (PoolWord w) ≡ old (PoolWord w))
    → ((w : ℕ) → Contains v.known w → new (PoolWord w) ≡ old (PoolWord w))
    → ((w : ℕ) → IsTrue (is_written v w) → new (PoolWord w) ≡ old (PoolWord w))
    → ((line : ℕ) (write : Bool) → ShowsHold j write (old (LockWord line)) → ShowsHold j write (new (LockWord line)))
    → ((w : ℕ) → IsTrue (is_written v w) → settled' w ≡ settled w)
    → ((n : ℕ) → flies n (difference_of v) → flies' n (difference_of v))
    → HeapFits o (heap_words o new) v
    → LaneFits o old settled flies j v → LaneFits o new settled' flies' j v
lane_stays o old new settled settled' flies flies' j v area known written shows same flying heap fits = record {
  lane = fits.lane;
  picture = record { area = λ w inside. area w inside ∙ fits.picture.area w inside; known = λ w there. known w there ∙ fits.picture.known w there; held = fits.picture.held; descriptors = heap.descriptors };
  locks = All-weaker (LockFits o old j) (LockFits o new j) (λ l f. record { shows = shows l.line l.write f.shows; found = f.found }) v.locks fits.locks;
  log = log_kept settled settled' v (records_generation v.log.phase v) same fits.log;
  entries = fits.entries;
  redone = λ w again own. redone_kept old new settled settled' v w (written w own) (same w own) (fits.redone w again own);
  phase = phase_kept flies flies' v flying v.log.phase fits.phase;
  blocks = heap.blocks;
  first_generation = fits.first_generation;
  last_generation = fits.last_generation;
  room = fits.room;
  within = fits.within;
}

-- the same where no descriptor changes
pub lane_kept : (o : Opening) (old new : Memory) (settled settled' : ℕ → ℕ) (flies flies' : ℕ → List Final → Type 0) (j : ℕ) (v : View)
    → AreDescribedSame o old new
    → ((w : ℕ) → IsTrue (is_in_area v.lane w) → new (PoolWord w) ≡ old (PoolWord w))
    → ((w : ℕ) → Contains v.known w → new (PoolWord w) ≡ old (PoolWord w))
    → ((w : ℕ) → IsTrue (is_written v w) → new (PoolWord w) ≡ old (PoolWord w))
    → ((line : ℕ) (write : Bool) → ShowsHold j write (old (LockWord line)) → ShowsHold j write (new (LockWord line)))
    → ((w : ℕ) → IsTrue (is_written v w) → settled' w ≡ settled w)
    → ((n : ℕ) → flies n (difference_of v) → flies' n (difference_of v))
    → LaneFits o old settled flies j v → LaneFits o new settled' flies' j v
lane_kept o old new settled settled' flies flies' j v described area known written shows same flying fits =
    lane_stays o old new settled settled' flies flies' j v area known written shows same flying (heap_kept o old new v described (heap_of o old settled flies j v fits)) fits

-- P of each lane, from P of lane k's new view and of the others
pub view_here : (views : Views) (k : ℕ) (v : View) → with_view views k v k ≡ v
view_here views k v = ap (λ b. cond b v (views k)) (eq-eqb k k refl)

pub view_else : (views : Views) (k : ℕ) (v : View) (j : ℕ) → j ≢ k → with_view views k v j ≡ views j
view_else views k v j other = ap (λ b. cond b v (views j)) (ne_eqb j k other)

pub view_all : (P : ℕ → View → Type 0) (views : Views) (k : ℕ) (v : View) → P k v → (j : ℕ) → (j ≢ k → P j (views j)) → P j (with_view views k v j)
view_all P views k v here j others =
    ⊎_elim (λ (same : j ≡ k). let Q : ℕ → Type 0 = λ i. P i (with_view views k v i) in subst Q (sym same) (subst (P k) (sym (view_here views k v)) here))
    (λ (other : j ≢ k). subst (P j) (sym (view_else views k v j other)) (others other))
    (cases_eq j k)

-- The view with other changes, counted calls, log, steps seen, call, number, entries and actions: the same lane, picture and locks.
abbrev pub coursed : View → List Change → ℕ → Log → List Step → List Told → Option ℕ → List Numbered → List Told → View
coursed v changes calls log seen call number entries actions =
    record v { changes = changes; calls = calls; log = log; seen = seen; call = call; number = number; entries = entries; actions = actions }

-- the log in another phase
abbrev pub in_phase : Phase → Log → Log
in_phase phase log = record log { phase = phase }

-- the records of such a view are as they were
pub log_again : (settled : ℕ → ℕ) (v : View) (changes : List Change) (calls : ℕ) (phase : Phase) (seen : List Step) (call : List Told) (number : Option ℕ) (entries : List Numbered) (actions : List Told) (generation : ℕ)
    → used_slots phase v ≡ used_slots v.log.phase v → LogFits settled v generation → LogFits settled (coursed v changes calls (in_phase phase v.log) seen call number entries actions) generation
log_again settled v changes calls phase seen call number entries actions generation used fits = record {
  most = fits.most;
  stored = fits.stored;
  each = λ slot r there. let f = fits.each slot r there in record {
    some = f.some;
    most = f.most;
    each = λ i low. let e = f.each i low in record { own = e.own; known = e.known; before = e.before };
  };
  once = fits.once;
  stale = λ slot u low high there. fits.stale slot u (subst (λ n. n ≤ slot) used_here low) high there;
}
  where
    used_here : used_slots phase (coursed v changes calls (in_phase phase v.log) seen call number entries actions) ≡ used_slots v.log.phase v
    used_here = used_same phase ∙ used
      where
        used_same : (phase' : Phase) → used_slots phase' (coursed v changes calls (in_phase phase v.log) seen call number entries actions) ≡ used_slots phase' v
        used_same Idle = refl
        used_same (Open [] pair) = refl
        used_same (Open (x ∷ slot) pair) = refl
        used_same Drawn = refl
        used_same Sealing = refl
        used_same (Applying applied) = refl
        used_same Clearing = refl
        used_same Retiring = refl

-- it is one of the lane, by its log and its phase
pub coursed_fits : (o : Opening) (mem : Memory) (settled : ℕ → ℕ) (flies : ℕ → List Final → Type 0) (k : ℕ) (v : View) (changes : List Change) (calls : ℕ) (log : Log) (seen : List Step) (call : List Told) (number : Option ℕ) (entries : List Numbered) (actions : List Told)
    → {before : ℕ → ℕ} {flew : ℕ → List Final → Type 0} → LaneFits o mem before flew k v
    → LogFits settled (coursed v changes calls log seen call number entries actions) (records_generation log.phase (coursed v changes calls log seen call number entries actions))
    → EntriesFit (coursed v changes calls log seen call number entries actions)
    → ((w : ℕ) → IsTrue (is_redone (coursed v changes calls log seen call number entries actions) w) → IsTrue (is_written v w) → RedoneWord mem settled (coursed v changes calls log seen call number entries actions) w)
    → PhaseFits flies (coursed v changes calls log seen call number entries actions) log.phase
    → length changes ≤ max_changes → ForSome v.stop (λ stop. calls ≤ stop)
    → LaneFits o mem settled flies k (coursed v changes calls log seen call number entries actions)
coursed_fits o mem settled flies k v changes calls log seen call number entries actions fits log_fits entries_fit redone phase_fits room within = record {
  lane = record { lanes = fits.lane.lanes; zones = fits.lane.zones; lane = fits.lane.lane; size = fits.lane.size };
  picture = record { area = fits.picture.area; known = fits.picture.known; held = fits.picture.held; descriptors = fits.picture.descriptors };
  locks = fits.locks;
  log = log_fits;
  entries = entries_fit;
  redone = redone;
  phase = phase_fits;
  blocks = record { of_pool = fits.blocks.of_pool; small = fits.blocks.small; free = fits.blocks.free; described = fits.blocks.described; freed = fits.blocks.freed };
  first_generation = fits.first_generation;
  last_generation = fits.last_generation;
  room = room;
  within = within;
}
