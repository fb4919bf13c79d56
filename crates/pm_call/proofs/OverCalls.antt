-- WHAT A LANE HOLDS, KNOWS OF BLOCKS AND HAS PENDING, through the end of its call: the same, whatever becomes of its log.
use Rattle.std.proofs.Common.{◌≡◌, ◌≢◌, ℕ, ◌+◌, ◌*◌, ◌/◌, ◌<◌, ◌≤◌, true, false, cond, ◌==◌, ◌&&◌, ◌||◌, nat_le, nat_lt, List, [], ◌∷◌, ◌++◌, map, Option, None, Some, refl, sym, ap, ◌∙◌, subst, arith, ne_eqb}
use Rattle.std.specs.List.{AllByRecursion}
use Rattle.std.proofs.lemmas.Bool.{and_right, both_ways, cond-false, false_from_ne_true, ltb-true}
use Rattle.pm_layout.specs.Areas.{redo_entries, word_of_entry, word_of_generation, word_of_seal}
use Rattle.pm_layout.specs.Sizes.{blocks_of}
use Rattle.pm_objects.specs.declared.calls.Operation.{Operation}
use Rattle.pm_objects.specs.declared.history.Value.{Value}
use Rattle.pm_model.specs.Pending.{Pending, SetWord}
use Rattle.pm_view.specs.Changes.{Undrained}
use Rattle.pm_view.specs.Claims.{class, found_after, header_in, making, mine_after}
use Rattle.pm_view.specs.Entries.{first_of_two, latest, redos, turn}
use Rattle.pm_view.specs.Log.{Idle, Log, new_log}
use Rattle.pm_view.specs.Parts.{is_entry_word}
use Rattle.pm_view.specs.Places.{Block, Small, Big, Root, word_of}
use Rattle.pm_view.specs.Steps.Step.{Draw, Tell}
use Rattle.pm_view.specs.View.{View}
use Rattle.pm_view.specs.Views.{actions_told, after, value_in}
use Rattle.pm_view.specs.Steps.{Step}
use Rattle.pm_world.specs.InWorld.{IsSound, SizesFit}
use Rattle.pm_world.specs.LaneFields.{Standing}
use Rattle.pm_world.specs.Lanes.{is_occupancy}
use Rattle.pm_world.specs.Logs.{ends_with}
use Rattle.pm_world.specs.declared.lane.HeldLock.{HeldLock}
use Rattle.pm_world.proofs.RecordsAtPlaces.{data_pictured}
use Rattle.pm_record.specs.Redo.{outcome}
use Rattle.pm_record.specs.declared.redo.Op.TheVariants.{Set}
use Rattle.pm_record.specs.declared.redo.Redo.{Redo}
use Rattle.pm_crash.specs.Calls.{pending_after, pending_of, pending_with}
use Rattle.pm_crash.specs.Facts.{HaveFacts}
use Rattle.pm_crash.specs.Footprints.{has_found, has_own}
use Rattle.pm_crash.specs.Looked.{word_place, words_in}
use Rattle.pm_lock.specs.Holding.{IsHeldAs}
use Rattle.pm_plan.specs.Notes.{AreNotes, IsBeyond, Note}
use Rattle.pm_redo.specs.Entries.{last_made, logged_entry}
use Rattle.pm_redo.specs.Stages.{decided, seal_word}
use Rattle.pm_call.specs.At.{IsAt, IsAtWith, MaySet, set_entry}
use Rattle.pm_call.specs.Did.{IsOver}
use Rattle.pm_call.specs.Held.{HoldsAll, IsObjectWord, KnowsOwn}
use Rattle.pm_call.specs.Waiting.{HasPending, pending_now, uncalled}
use Rattle.pm_call.proofs.Frames.{header_so, making_so, noting}
use Rattle.pm_call.proofs.KnownObjects.{sees_data, size_word, word_number}
use Rattle.pm_call.proofs.Noting.{all_map, bytes_so, found_so, sound_so}
use Rattle.pm_call.proofs.ObjectWords.{object_place}
use Rattle.pm_call.proofs.RecordedWords.{header_apart, one_use}
use Rattle.pm_call.proofs.SetEntries.{set_at}
use Rattle.pm_call.proofs.Staying.{has_pending, holds_with, noted_holds, noted_own, pending_told}

-- THE LANE'S CLAIMS STAND: it makes no run, the blocks that it found are sound with sizes that fit, and these are all locks that it holds
pub record ClaimsStand (v : View) (locks : List HeldLock) : Type 0 where
  pub lane : v.fixed.lane < v.fixed.shape.lanes
  pub lanes : v.fixed.shape.lanes ≤ 32
  pub zones : v.fixed.shape.zones ≤ 32
  pub unmaking : (c : ℕ) → making v.fixed.shape v.claims c ≡ false
  pub sound : IsSound v
  pub sizes : SizesFit v
  pub holds : HoldsAll v locks
  pub own : KnowsOwn v

-- so they do at work
pub claims_at_work : (s : Standing) (level : ℕ) (all : List HeldLock) → IsAtWith s level all → ClaimsStand s.view all
claims_at_work s level all at = record {
  lane = at.working.lane;
  lanes = at.working.lanes;
  zones = at.working.zones;
  unmaking = at.working.unmaking;
  sound = at.sound;
  sizes = at.sizes;
  holds = at.holds;
  own = at.own;
}

-- once its log is empty, and all is drained, its call is over
pub over_by : (s : Standing) → s.view.log ≡ new_log Idle s.view.log.generation → s.view.changes ≡ []
    → value_in s.view (word_of_generation s.view.fixed.shape s.view.fixed.lane) ≡ Some s.view.log.generation → value_in s.view (word_of_seal s.view.fixed.shape s.view.fixed.lane) ≡ Some 0
    → HaveFacts s.view → HasPending (uncalled s.view) → ClaimsStand s.view s.locks → IsOver s
over_by s log drained known sealed facts pending h = record {
  log = log;
  drained = drained;
  lane = h.lane;
  lanes = h.lanes;
  zones = h.zones;
  unmaking = h.unmaking;
  sound = h.sound;
  sizes = h.sizes;
  known = known;
  sealed = sealed;
  holds = h.holds;
  own = h.own;
  pending = pending;
  facts = facts;
}

-- and so it is with other entries listed, at another level
pub over_as : (s : Standing) (entries : List Redo) (level : ℕ) → IsOver s → IsOver (record s { entries = entries; level = level })
over_as s entries level o = record {
  log = o.log;
  drained = o.drained;
  lane = o.lane;
  lanes = o.lanes;
  zones = o.zones;
  unmaking = o.unmaking;
  sound = o.sound;
  sizes = o.sizes;
  known = o.known;
  sealed = o.sealed;
  holds = o.holds;
  own = o.own;
  pending = o.pending;
  facts = o.facts;
}

-- ---- THE CALL ENDS: an operation that asks for no action is told, and a number is taken
module _ (v : View) (op : Operation) (reply : Option Value) (n : ℕ) where
  abbrev told : View
  told = after v (Tell op reply)

  abbrev ended : View
  ended = after told (Draw n)

  sizes_ended : SizesFit v → SizesFit ended
  sizes_ended f (Small c i) x = f (Small c i) x
  sizes_ended f (Big h) x = f (Big h) x
  sizes_ended f Root x = f Root x

  pub claims_ended : (locks : List HeldLock) → ClaimsStand v locks → ClaimsStand ended locks
  claims_ended locks h = record {
    lane = h.lane;
    lanes = h.lanes;
    zones = h.zones;
    unmaking = h.unmaking;
    sound = record { small = h.sound.small; some = h.sound.some; zone = h.sound.zone; huge = h.sound.huge };
    sizes = sizes_ended h.sizes;
    holds = holds_with v ended locks refl refl h.holds;
    own = h.own;
  }

  pub drawn_now : pending_now (uncalled ended) ≡ pending_now told
  unfolding pending_after pending_of
  drawn_now = refl

  pub ended_pending : ((p : Pending) → pending_with op reply p ≡ p) → actions_told op reply v.actions ≡ v.actions → HasPending v → HasPending (uncalled ended)
  ended_pending plain same h = has_pending told (uncalled ended) drawn_now refl (pending_told v op reply plain same h)

-- ---- IT NOTES what it knows, and the sizes of what it found are as they were
abbrev size_in : View → Block → ℕ
size_in v B = 8 * header_in v.fixed.shape v.claims B + 1

module _ (v : View) (ns : List Note) (changes : List Undrained) (calls : List Step) (log : Log) (are : AreNotes v.fixed.shape v.claims ns) where
  abbrev next : View
  next = noting v ns changes calls log

  pub claims_noted : (locks : List HeldLock) → ((B : Block) → has_found v B ≡ true → is_occupancy v.fixed.shape B ≡ true → value_in next (size_in v B) ≡ value_in v (size_in v B))
      → ClaimsStand v locks → ClaimsStand next locks
  claims_noted locks same h =
      let sound = sound_so v ns changes calls log are h.unmaking h.sound in record {
        lane = h.lane;
        lanes = h.lanes;
        zones = h.zones;
        unmaking = λ c. making_so v.fixed.shape ns v.claims are h.unmaking c ∙ h.unmaking c;
        sound = record { small = sound.small; some = sound.some; zone = sound.zone; huge = sound.huge };
        sizes = sizes;
        holds = noted_holds v ns changes calls log locks h.holds;
        own = noted_own v ns changes calls log are h.own;
      }
    where
      sizes : SizesFit next
      sizes B x f o e =
          let old_found : has_found v B ≡ true = sym (found_so v ns changes calls log are h.unmaking B) ∙ f in
          let line = header_so v.fixed.shape ns v.claims are h.unmaking B in
          subst (λ m. 64 + x ≤ m) (sym (bytes_so v ns changes calls log are h.unmaking B))
          (h.sizes B x old_found o (sym (same B old_found o) ∙ (ap (λ k. value_in next (8 * k + 1)) (sym line) ∙ e)))

-- ---- WHERE THE SIZE of an object that it found stands

-- in no lane's area
pub size_beyond : (v : View) (B : Block) → is_occupancy v.fixed.shape B ≡ true → IsBeyond v.fixed.shape (size_in v B)
size_beyond v (Small c i) o = let m : ℕ = class v.claims c * i in omega arith
size_beyond v (Big f) o = omega arith
size_beyond v Root o = absurd (both_ways false refl o)

module _ (v : View) (lane : v.fixed.lane < v.fixed.shape.lanes) (B : Block) (o : is_occupancy v.fixed.shape B ≡ true) where
  pub size_no_generation : size_in v B ≢ word_of_generation v.fixed.shape v.fixed.lane
  size_no_generation e = let far = size_beyond v B o in let u : ℕ = size_in v B in omega (arith, far, e, lane)

  pub size_no_seal : size_in v B ≢ word_of_seal v.fixed.shape v.fixed.lane
  size_no_seal e = let far = size_beyond v B o in let u : ℕ = size_in v B in omega (arith, far, e, lane)

  pub size_no_entry : is_entry_word v.fixed.shape v.fixed.lane (size_in v B) ≡ false
  size_no_entry = and_right (nat_le (word_of_entry v.fixed.shape v.fixed.lane 0) (size_in v B)) (nat_lt (size_in v B) past) (false_from_ne_true (nat_lt (size_in v B) past) (λ e.
      let far = size_beyond v B o in let low = ltb-true (size_in v B) past e in let u : ℕ = size_in v B in omega (arith, far, low, lane)))
    where
      past : ℕ
      past = word_of_entry v.fixed.shape v.fixed.lane (redo_entries v.fixed.shape)

-- and in no word of an object's data
module _ (v : View) (sound : IsSound v) where
  pub size_apart : (B C : Block) (j : ℕ) → has_found v B ≡ true → is_occupancy v.fixed.shape B ≡ true → has_found v C ≡ true → 8 ≤ j → j < words_in v C
      → size_in v B ≢ word_of v.fixed.shape (word_place v C j)
  size_apart B C j found inside other far within e =
      let is : IsObjectWord v B 1 = size_word v sound (header_in v.fixed.shape v.claims B) (record { block = B; found = found; at = refl; inside = inside }) in
      let p = object_place v sound B 1 is in
      header_apart v sound B C 1 j found other (omega arith) far within
      (one_use v sound (word_place v B 1) 0 C j (sees_data v B (word_place v B 1) 0 p.data_ p.block found) (data_pictured v.fixed.shape (word_place v B 1) p.data_ p.there) other within (word_number v sound B 1 is ∙ e))

-- ---- A LOG OF WORDS THAT ARE SET is performed

-- the last of its entries ends the generation; none makes anything of a size
module _ (s : Standing) (level : ℕ) (at : IsAt s level) (B : Block) (found : has_found s.view B ≡ true) (inside : is_occupancy s.view.fixed.shape B ≡ true) where
  pub sizes_unmade : (values : ℕ → ℕ) (sets : List SetWord) → AllByRecursion (MaySet s) sets
      → last_made values (map (logged_entry s.view) (map set_entry sets) ++ ends_with s.view.fixed.shape s.view.fixed.lane s.view.log.generation ∷ []) (size_in s.view B) ≡ None
  sizes_unmade values [] all = cond-false (word_of_generation s.view.fixed.shape s.view.fixed.lane == size_in s.view B) _ None
      (ne_eqb (word_of_generation s.view.fixed.shape s.view.fixed.lane) (size_in s.view B) (λ e. size_no_generation s.view at.working.lane B inside (sym e)))
  sizes_unmade values (a ∷ sets) all =
      let t = set_at s level at a all.0 in
      ap (λ o. first_of_two o (cond ((a.id.off + a.off) / 8 == size_in s.view B) (Some (outcome Set a.value (values 0))) None)) (sizes_unmade (λ i. values (i + 1)) sets all.1)
      ∙ cond-false ((a.id.off + a.off) / 8 == size_in s.view B) (Some (outcome Set a.value (values 0))) None (ne_eqb ((a.id.off + a.off) / 8) (size_in s.view B) (λ e.
      size_apart s.view at.sound B t.block (8 + a.off / 8) found inside t.word.found (omega arith) t.word.within (sym (t.number ∙ e))))

-- the call is decided: it makes and frees no block
module _ (v : View) (none : (B : Block) → turn (latest (redos v.log.entries)) B ≡ None) (lane : v.fixed.lane < v.fixed.shape.lanes) where
  pub found_decided : (B : Block) → has_found (decided v) B ≡ has_found v B
  found_decided B = ap (λ o. found_after o (has_found v B)) (none B)

  own_decided : ((c : ℕ) → making v.fixed.shape v.claims c ≡ false) → (c i : ℕ) → has_own (decided v) (Small c i) ≡ has_own v (Small c i)
  own_decided unmaking c i =
      ap (λ o. mine_after o (((making v.fixed.shape v.claims c && true) && nat_lt i (blocks_of (class v.claims c))) || has_own v (Small c i))) (none (Small c i))
      ∙ ap (λ m. ((m && true) && nat_lt i (blocks_of (class v.claims c))) || has_own v (Small c i)) (unmaking c)

  pub size_decided : (B : Block) → is_occupancy v.fixed.shape B ≡ true → value_in (decided v) (size_in v B) ≡ value_in v (size_in v B)
  size_decided B o = cond-false (seal_word v == size_in v B) _ (value_in v (size_in v B)) (ne_eqb (seal_word v) (size_in v B) (λ e. size_no_seal v lane B o (sym e)))

  sizes_decided : SizesFit v → SizesFit (decided v)
  sizes_decided f (Small c i) x t o e = f (Small c i) x (sym (found_decided (Small c i)) ∙ t) o (sym (size_decided (Small c i) o) ∙ e)
  sizes_decided f (Big h) x t o e = f (Big h) x (sym (found_decided (Big h)) ∙ t) o (sym (size_decided (Big h) o) ∙ e)
  sizes_decided f Root x t o e = absurd (both_ways false refl o)

  pub claims_decided : (locks : List HeldLock) → ClaimsStand v locks → ClaimsStand (decided v) locks
  claims_decided locks h = record {
    lane = h.lane;
    lanes = h.lanes;
    zones = h.zones;
    unmaking = λ c. refl;
    sound = record {
      small = λ c i e. h.sound.small c i (sym (found_decided (Small c i)) ∙ e);
      some = λ f e. h.sound.some f (sym (found_decided (Big f)) ∙ e);
      zone = λ f e. h.sound.zone f (sym (found_decided (Big f)) ∙ e);
      huge = λ f c e i. h.sound.huge f c (sym (found_decided (Big f)) ∙ e) i;
    };
    sizes = sizes_decided h.sizes;
    holds = record {
      each = record { once = h.holds.each.once; inside = h.holds.each.inside; held = all_map (IsHeldAs v.claims) (IsHeldAs (decided v).claims) locks (λ l k. k) h.holds.each.held };
      only = h.holds.only;
    };
    own = λ c i e. h.own c i (sym (own_decided h.unmaking c i) ∙ e);
  }
