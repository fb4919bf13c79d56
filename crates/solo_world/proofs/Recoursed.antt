-- A step that changes no word and leaves the lane's log, locks, number and entries, but for which of its changes are undrained.
use Rattle.std.proofs.Common.{◌≡◌, ℕ, ◌+◌, ◌<◌, ◌≤◌, ◌⊎◌, inl, inr, ⊎_elim, IsTrue, Bool, true, ◌&&◌, All, List, [], ◌∷◌, length, Option, Some, None, refl, sym, ap, ◌∙◌, subst, arith}
use Rattle.std.specs.Option.{ForSome}
use Rattle.std.proofs.lemmas.Bool.{and_parts, and_from, or_cases, or_left, or_right}
use Rattle.solo_view.specs.declared.change.Change.{Change}
use Rattle.solo_view.specs.Area.{part_of}
use Rattle.solo_view.specs.Area.Part.{EntryWord, SlotWord}
use Rattle.solo_view.specs.Log.{Phase, Recorded, Final}
use Rattle.solo_view.specs.Log.Phase.{Idle, Open, Drawn, Sealing, Applying, Clearing, Retiring}
use Rattle.solo_view.specs.Steps.{Step}
use Rattle.solo_view.specs.View.{View, Told}
use Rattle.solo_world.specs.Fits.{LaneFits, LogFits, PhaseFits, EndFits, OpenChange, RetiringChange, SealChange, AppliedChange, ReservedChange}
use Rattle.solo_world.specs.History.{Entry, Flies, settled}
use Rattle.solo_world.specs.Laws.{with_view}
use Rattle.solo_world.specs.Lawful.{FilledChange, OnlyFilled, generation_limit}
use Rattle.solo_world.specs.Memory.{Memory, IsSame}
use Rattle.solo_world.specs.Memory.Location.{CommitCounter, PoolWord}
use Rattle.solo_world.specs.Opening.{Opening}
use Rattle.solo_world.specs.Records.{covers, is_drained_slot, is_logged_from, is_logged, records_generation, used_slots}
use Rattle.solo_world.specs.World.{Views, World, may_draw_count}
use Rattle.solo_world.proofs.Frame.{coursed, coursed_fits, log_again}
use Rattle.solo_world.proofs.Pairs.{entries_again, redone_again, in_log_before}
use Rattle.solo_world.proofs.Heaps.{all_same}
use Rattle.solo_world.proofs.Worlds.{heap_here, own, still}

-- where no slot is undrained that was drained, a word that the log would restore is one still
pub logged_more : (v v' : View) → ((slot : ℕ) → is_drained_slot v slot ≡ true → is_drained_slot v' slot ≡ true) → (slot : ℕ) (records : List Recorded) (w : ℕ) → is_logged_from v slot records w ≡ true → is_logged_from v' slot records w ≡ true
logged_more v v' drained slot [] w e = e
logged_more v v' drained slot (r ∷ records) w e =
    ⊎_elim (λ (here : (covers r w && is_drained_slot v slot) ≡ true).
    let t = and_parts (covers r w) (is_drained_slot v slot) here in
    or_left (covers r w && is_drained_slot v' slot) (is_logged_from v' (slot + 1) records w) (and_from (covers r w) (is_drained_slot v' slot) t.0 (drained slot t.1)))
    (λ (later : is_logged_from v (slot + 1) records w ≡ true). or_right (covers r w && is_drained_slot v' slot) (is_logged_from v' (slot + 1) records w) (logged_more v v' drained (slot + 1) records w later))
    (or_cases (covers r w && is_drained_slot v slot) (is_logged_from v (slot + 1) records w) e)

-- the same of the slots that records stand in
pub logged_upto : (v v' : View) (slot : ℕ) (records : List Recorded) → ((s : ℕ) → s < slot + length records → is_drained_slot v s ≡ true → is_drained_slot v' s ≡ true) → (w : ℕ) → is_logged_from v slot records w ≡ true → is_logged_from v' slot records w ≡ true
logged_upto v v' slot [] drained w e = e
logged_upto v v' slot (r ∷ records) drained w e =
    ⊎_elim (λ (here : (covers r w && is_drained_slot v slot) ≡ true).
    let t = and_parts (covers r w) (is_drained_slot v slot) here in
    or_left (covers r w && is_drained_slot v' slot) (is_logged_from v' (slot + 1) records w) (and_from (covers r w) (is_drained_slot v' slot) t.0 (drained slot (omega arith) t.1)))
    (λ (later : is_logged_from v (slot + 1) records w ≡ true). or_right (covers r w && is_drained_slot v' slot) (is_logged_from v' (slot + 1) records w) (logged_upto v v' (slot + 1) records (λ s low. drained s (omega arith)) w later))
    (or_cases (covers r w && is_drained_slot v slot) (is_logged_from v (slot + 1) records w) e)

-- a change of a slot, of a pair, of a word that the log would restore or of one that the lane reserved is one still
pub open_again : (v v' : View) (c : Change) → v'.lane ≡ v.lane → ((w : ℕ) → is_logged v w ≡ true → is_logged v' w ≡ true) → (ReservedChange v c → ReservedChange v' c)
    → OpenChange v c → OpenChange v' c
open_again v v' c lane logged kept of = record {
  whole = of.whole;
  of = ⊎_elim (λ (slot : part_of v.lane c.word ≡ SlotWord). inl (ap (λ l. part_of l c.word) lane ∙ slot))
      (λ (other : (part_of v.lane c.word ≡ EntryWord) ⊎ (IsTrue (is_logged v c.word) ⊎ ReservedChange v c)). inr (⊎_elim (λ (pair : part_of v.lane c.word ≡ EntryWord). inl (ap (λ l. part_of l c.word) lane ∙ pair))
      (λ (last : IsTrue (is_logged v c.word) ⊎ ReservedChange v c). inr (⊎_elim (λ (there : is_logged v c.word ≡ true). inl (logged c.word there)) (λ (own : ReservedChange v c). inr (kept own)) last)) other)) of.of;
}

ends_again : (flies : ℕ → List Final → Type 0) (v : View) (changes : List Change) (calls : ℕ) (seen : List Step) (call : List Told) (actions : List Told) (number : Option ℕ)
    → EndFits flies v number → EndFits flies (coursed v changes calls v.log seen call v.number v.entries actions) number
ends_again flies v changes calls seen call actions None ends = ends
ends_again flies v changes calls seen call actions (Some n) ends = ends

-- the view's changes, once they are these
pub record Leaves (v v' : View) (changes : List Change) : Type 0 where
  pub slots : (slot : ℕ) → is_drained_slot v slot ≡ true → is_drained_slot v' slot ≡ true
  pub none : v.changes ≡ [] → changes ≡ []
  pub filled : OnlyFilled v → All (FilledChange v') changes
  pub open_ : All (OpenChange v) v.changes → All (OpenChange v') changes
  pub retiring : All (RetiringChange v) v.changes → All (RetiringChange v') changes
  pub sealed : (old : ℕ) → All (SealChange v old) v.changes → All (SealChange v' old) changes
  pub applied : (n : ℕ) → All (AppliedChange v n) v.changes → All (AppliedChange v' n) changes
  pub fewer : length changes ≤ length v.changes

phase_again : (flies : ℕ → List Final → Type 0) (v : View) (changes : List Change) (calls : ℕ) (seen : List Step) (call : List Told) (actions : List Told)
    → Leaves v (coursed v changes calls v.log seen call v.number v.entries actions) changes
    → (phase : Phase) → PhaseFits flies v phase → PhaseFits flies (coursed v changes calls v.log seen call v.number v.entries actions) phase
phase_again flies v changes calls seen call actions leaves Idle fits = record { no_records = fits.no_records; changes = leaves.filled fits.changes }
phase_again flies v changes calls seen call actions leaves (Open slot pair) fits =
    record { undrawn = fits.undrawn; short = fits.short; stands = fits.stands; short_pair = fits.short_pair; in_pairs = fits.in_pairs; pair_stands = fits.pair_stands; changes = leaves.open_ fits.changes }
phase_again flies v changes calls seen call actions leaves Drawn fits = record { number = fits.number; drawn = fits.drawn; flying = fits.flying; drained = leaves.none fits.drained }
phase_again flies v changes calls seen call actions leaves Sealing fits = record {
  number = fits.number;
  drawn = fits.drawn;
  flying = fits.flying;
  changes = leaves.sealed 0 fits.changes;
  whole = record { front = fits.whole.front; are = fits.whole.are; owned = fits.whole.owned };
  known = λ w or. let t = fits.known w or in (record { known = t.0.known; small = t.0.small }, t.1);
  below = fits.below;
}
phase_again flies v changes calls seen call actions leaves (Applying applied) fits = record {
  no_records = fits.no_records;
  most = fits.most;
  changes = leaves.applied applied fits.changes;
  whole = record { front = fits.whole.front; are = fits.whole.are; owned = fits.whole.owned };
  known = λ w or. let t = fits.known w or in (record { known = t.0.known; small = t.0.small }, t.1);
  last = fits.last;
}
phase_again flies v changes calls seen call actions leaves Clearing fits = record {
  no_records = fits.no_records;
  changes = leaves.sealed (length v.log.entries) fits.changes;
  whole = record { front = fits.whole.front; are = fits.whole.are; owned = fits.whole.owned };
  known = λ w or. let t = fits.known w or in (record { known = t.0.known; small = t.0.small }, t.1);
}
phase_again flies v changes calls seen call actions leaves Retiring fits = record { changes = leaves.retiring fits.changes; ends = ends_again flies v changes calls seen call actions v.number fits.ends }

-- how many slots are used, by the records alone
pub used_again : (phase : Phase) (v v' : View) → length v'.log.records ≡ length v.log.records → used_slots phase v' ≡ used_slots phase v
used_again Idle v v' same = same
used_again (Open [] pair) v v' same = same
used_again (Open (x ∷ slot) pair) v v' same = ap (λ n. n + 1) same
used_again Drawn v v' same = same
used_again Sealing v v' same = same
used_again (Applying applied) v v' same = same
used_again Clearing v v' same = same
used_again Retiring v v' same = same

generation_again : (v : View) (changes : List Change) (calls : ℕ) (seen : List Step) (call : List Told) (actions : List Told) (phase : Phase)
    → records_generation phase (coursed v changes calls v.log seen call v.number v.entries actions) ≡ records_generation phase v
generation_again v changes calls seen call actions Idle = refl
generation_again v changes calls seen call actions (Open slot pair) = refl
generation_again v changes calls seen call actions Drawn = refl
generation_again v changes calls seen call actions Sealing = refl
generation_again v changes calls seen call actions (Applying applied) = refl
generation_again v changes calls seen call actions Clearing = refl
generation_again v changes calls seen call actions Retiring = refl

module _ (o : Opening) (old : Memory) (views : Views) (log : List Entry) (decided : ℕ → Bool) (world : World o old views log decided) (k : ℕ) (inside : k < o.lanes) (v : View) (is : views k ≡ v) where
  pub recoursed : (new : Memory) (changes : List Change) (calls : ℕ) (seen : List Step) (call : List Told) (actions : List Told)
      → IsSame old new → Leaves v (coursed v changes calls v.log seen call v.number v.entries actions) changes
      → ForSome v.stop (λ stop. calls ≤ stop) → v.calls ≤ calls
      → old CommitCounter + may_draw_count (with_view views k (coursed v changes calls v.log seen call v.number v.entries actions)) o.lanes < generation_limit + 32
      → World o new (with_view views k (coursed v changes calls v.log seen call v.number v.entries actions)) log decided
  recoursed new changes calls seen call actions same leaves within more room =
      let v' : View = coursed v changes calls v.log seen call v.number v.entries actions in
      let mine : LaneFits o old (settled o log decided) (Flies log decided k) k v = own o old views log decided world k inside v is in
      still o old views log decided world k inside v is v' new same
      (coursed_fits o old (settled o log decided) (Flies log decided k) k v changes calls v.log seen call v.number v.entries actions mine
      (subst (LogFits (settled o log decided) v') (sym (generation_again v changes calls seen call actions v.log.phase))
      (log_again (settled o log decided) v changes calls v.log.phase seen call v.number v.entries actions (records_generation v.log.phase v) refl mine.log))
      (entries_again v v' refl refl (λ w low high. refl) (λ w own_word. own_word) (λ i f at free. inr free) refl refl mine.entries)
      (λ w again own_word. redone_again old (settled o log decided) v v' w refl (mine.redone w again own_word))
      (phase_again (Flies log decided k) v changes calls seen call actions leaves v.log.phase mine.phase)
      (let few = leaves.fewer in let room = mine.room in omega arith) within)
      (λ w. in_log_before v v' w (logged_more v v' leaves.slots 0 v.log.records w) (λ e. e))
      refl (λ n flying. flying) room refl refl more (heap_here o old views log decided world k inside v is v' new (λ w. same (PoolWord w)) (all_same old new same) (record { lanes = refl; reserved = refl; freed = refl; zones = refl }))
