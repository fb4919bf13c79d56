-- Where a lane's view has come since its log began to grow, or to be put back: what it noted, its
-- changes and its log.
use Rattle.std.proofs.Common.{◌≡◌, ◌≢◌, ℕ, ◌+◌, ◌*◌, ◌^◌, ◌<◌, ◌≤◌, inr, false, List, [], ◌∷◌, ◌++◌, length, take, refl, sym, ap, ◌∙◌, subst, arith, None}
use Rattle.std.specs.List.{AllByRecursion}
use Rattle.pm_layout.specs.declared.shape.Shape.{Shape}
use Rattle.pm_layout.specs.Areas.{line_of_slot, word_of_generation}
use Rattle.pm_layout.specs.Chunks.{words_of}
use Rattle.pm_view.specs.Bits.{all_bits}
use Rattle.pm_view.specs.Changes.{Undrained}
use Rattle.pm_view.specs.Claims.{Claim, Knows, Drained, class, first, here, known, making, pictured}
use Rattle.pm_view.specs.Counts.{HasRoom}
use Rattle.pm_view.specs.Founds.{knows}
use Rattle.pm_view.specs.Log.{Log, Open, Recorded, log_stored, place_at, with_slot}
use Rattle.pm_view.specs.Parts.{SlotPart, part_of}
use Rattle.pm_view.specs.Places.{place_after, word_of}
use Rattle.pm_view.specs.Steps.Step.{Store}
use Rattle.pm_view.specs.View.{Constants, View, runs_one}
use Rattle.pm_view.specs.Views.{after, changed_from, claims_drained, marked_by, value_in, was_of}
use Rattle.pm_view.specs.Steps.{Step}
use Rattle.pm_world.specs.Lawful.{CanRecord, MayStore, StoreFits}
use Rattle.pm_world.specs.Logs.{AreInRow, spelled}
use Rattle.pm_world.specs.Sights.{is_recorded}
use Rattle.pm_plan.specs.Plans.{IsPersisted, claims_persisted, log_persisted}
use Rattle.pm_plan.specs.Notes.{AreNotes, IsBeyond, IsNote, Note, Valued, DrainedTo, claim_of, noted}
use Rattle.pm_undo.specs.Working.{AreOnce, IsNoSlot, IsStanding, IsWorking}
use Rattle.pm_undo.proofs.Moved.{moved_record}
use Rattle.pm_plan.proofs.Notes.{IsOther, class_same, first_same, here_same, known_noted, making_same, pictured_noted}

-- the log of an open call with these records and words of a slot, and no entries; and the view with
-- it
abbrev pub log_with : View → List Recorded → List ℕ → Log
log_with v records slot = record v.log {
  phase = Open;
  records = records;
  slot = slot;
  entries = [];
  pair = [];
}

abbrev pub view_with : View → List Claim → List Undrained → List Step → List Recorded → List ℕ → View
view_with v claims changes calls records slot = record v {
  claims = claims;
  changes = changes;
  calls = calls;
  log = log_with v records slot;
}

abbrev pub generation_word : View → ℕ
generation_word v = word_of_generation v.fixed.shape v.fixed.lane

-- SINCE v the lane noted something, its log has these records and words of a slot, and these words
-- it knows and pictures as it did
pub record Logging (v : View) (stay : ℕ → Type 0) (records : List Recorded) (slot : List ℕ)
    (u : View) : Type 0 where
  pub notes : List Note
  pub are : u.claims ≡ noted notes v.claims
  pub each : AreNotes v.fixed.shape v.claims notes
  pub same : u ≡ view_with v u.claims u.changes u.calls records slot
  pub known_ : (w : ℕ) → stay w → known v.fixed.shape (runs_one v) u.claims w ≡ knows v w
  pub pictured_ : (w : ℕ) → stay w → pictured v.fixed.shape u.claims w ≡ pictured v.fixed.shape
      v.claims w

abbrev pub AreBeyond : Shape → List Undrained → Type 0
AreBeyond sh changes = AllByRecursion (λ (c : Undrained). IsBeyond sh c.word) changes

-- records may be put back still where blocks have the classes that they had
pub all_still : (v u : View) (rs : List Recorded) → u.fixed ≡ v.fixed
    → class u.claims ≡ class v.claims → AllByRecursion (IsStanding v) rs
    → AllByRecursion (IsStanding u) rs
all_still v u [] f cl all = tt
all_still v u (r ∷ rs) f cl all = let s = all.0 in (
  record {
    some = s.some;
    most = s.most;
    data_ = s.data_;
    row = subst (λ (g : Constants). AreInRow g.shape r) (sym f) s.row;
    use_ = λ i low. ap (λ (g : Constants). place_at g.shape (class u.claims)
        (word_of g.shape (place_after r.place i))) f
        ∙ (ap (λ c. place_at v.fixed.shape c (word_of v.fixed.shape (place_after r.place i))) cl
        ∙ s.use_ i low);
    small = s.small;
  },
  all_still v u rs f cl all.1,
)

module _ (v : View) (working : IsWorking v) where
  pub beyond_slots : (y : ℕ) → IsBeyond v.fixed.shape y → IsNoSlot v.fixed.shape v.fixed.lane y
  beyond_slots y far = inr (let low = working.lane in omega (arith, low, far))

  -- a lane at work is such
  pub log_again : (records : List Recorded) → record v.log { records = records } ≡ log_with v
      records []
  log_again records = ap (λ ph. record v.log { records = records; phase = ph }) working.is_open
      ∙ (ap (λ s. record v.log { records = records; phase = Open; slot = s }) working.whole.0
      ∙ (ap (λ es. record v.log { records = records; phase = Open; slot = []; entries = es })
      working.unentered
      ∙ ap (λ p. record v.log {
        records = records;
        phase = Open;
        slot = [];
        entries = [];
        pair = p;
      }) working.whole.1))

  pub starts : (stay : ℕ → Type 0) → Logging v stay v.log.records [] v
  starts stay = record {
    notes = [];
    are = refl;
    each = tt;
    same = ap (λ l. record v { log = l }) (log_again v.log.records);
    known_ = λ w s. refl;
    pictured_ = λ w s. refl;
  }

module _ {v : View} {stay : ℕ → Type 0} {records : List Recorded} {slot : List ℕ} {u : View}
    (at : Logging v stay records slot u) where
  pub fixed_so : u.fixed ≡ v.fixed
  fixed_so = ap (λ (y : View). y.fixed) at.same

  pub knows_so : (w : ℕ) → stay w → knows u w ≡ knows v w
  knows_so w s = ap (λ (y : View). knows y w) at.same ∙ at.known_ w s

  pub pictures_so : (w : ℕ) → stay w → value_in u w ≡ value_in v w
  pictures_so w s = ap (λ (y : View). value_in y w) at.same ∙ at.pictured_ w s

  pub class_so : class u.claims ≡ class v.claims
  class_so = ap class at.are ∙ class_same at.notes v.claims

  -- one note more, and whatever changes and log
  pub noted_more : (n : Note) → IsNote v.fixed.shape u.claims n
      → ((w : ℕ) → stay w → known v.fixed.shape (runs_one v) (claim_of n ∷ u.claims) w ≡ known
      v.fixed.shape (runs_one v) u.claims w)
      → ((w : ℕ) → stay w → pictured v.fixed.shape (claim_of n ∷ u.claims) w ≡ pictured
      v.fixed.shape u.claims w)
      → (changes : List Undrained) (calls : List Step) (records' : List Recorded) (slot' : List ℕ)
      → Logging v stay records' slot' (view_with v (claim_of n ∷ u.claims) changes calls
      records' slot')
  noted_more n is knows_ pictures changes calls records' slot' = record {
    notes = n ∷ at.notes;
    are = ap (λ t. claim_of n ∷ t) at.are;
    each = (subst (λ t. IsNote v.fixed.shape t n) at.are is, at.each);
    same = refl;
    known_ = λ w s. knows_ w s ∙ at.known_ w s;
    pictured_ = λ w s. pictures w s ∙ at.pictured_ w s;
  }

  -- where the note names none of these words
  pub noted_others : (n : Note) → IsNote v.fixed.shape u.claims n
      → ((w : ℕ) → stay w → IsOther n w)
      → (changes : List Undrained) (calls : List Step) (records' : List Recorded) (slot' : List ℕ)
      → Logging v stay records' slot' (view_with v (claim_of n ∷ u.claims) changes calls
      records' slot')
  noted_others n is other = noted_more n is
      (λ w s. known_noted v.fixed.shape u.claims (runs_one v) n is w (other w s))
      (λ w s. pictured_noted v.fixed.shape u.claims n is w (other w s))

  -- where fewer words are asked of
  pub logging_weaker : (stay' : ℕ → Type 0) → ((y : ℕ) → stay' y → stay y)
      → Logging v stay' records slot u
  logging_weaker stay' fewer = record {
    notes = at.notes;
    are = at.are;
    each = at.each;
    same = at.same;
    known_ = λ w s. at.known_ w (fewer w s);
    pictured_ = λ w s. at.pictured_ w (fewer w s);
  }

  module _ (working : IsWorking v) where
    pub no_making : (c : ℕ) → making v.fixed.shape u.claims c ≡ false
    no_making = subst (λ t. (c : ℕ) → making v.fixed.shape t c ≡ false) (sym at.are)
        (making_same v.fixed.shape at.notes v.claims at.each working.unmaking)

    pub drained_more : (left : List Undrained) (calls : List Step) → Logging v stay records slot
        (view_with v (Drained left ∷ u.claims) left calls records slot)
    drained_more left calls = noted_others (DrainedTo left) no_making (λ w s. tt) left calls
        records slot

    -- all is made persistent; the lane pictures what it did
    pub still_logging : (w : View) → IsPersisted u w → Logging v stay records slot w
        × (w.changes ≡ [])
    still_logging w is = (
      go u.changes
          (is ∙ ap (λ (y : View). record y {
            claims = claims_persisted y.changes y.log y.claims;
            changes = [];
            calls = w.calls;
            log = log_persisted y.changes y.log;
          }) at.same),
      ap (λ (y : View). y.changes) is,
    )
      where
        go : (changes : List Undrained)
            → w ≡ record v {
              claims = claims_persisted changes (log_with v records slot) u.claims;
              changes = [];
              calls = w.calls;
              log = log_persisted changes (log_with v records slot);
            }
            → Logging v stay records slot w
        go [] e = subst (Logging v stay records slot) (sym e)
            (record {
              notes = at.notes;
              are = at.are;
              each = at.each;
              same = refl;
              known_ = at.known_;
              pictured_ = at.pictured_;
            })
        go (c ∷ changes) e = subst (Logging v stay records slot) (sym e) (drained_more [] w.calls)

    pub pictured_still : (w : View) → IsPersisted u w → (y : ℕ) → pictured v.fixed.shape w.claims
        y ≡ pictured v.fixed.shape u.claims y
    pictured_still w is y = ap (λ (z : View). pictured v.fixed.shape z.claims y) is ∙ go u.changes
      where
        go : (changes : List Undrained)
            → pictured v.fixed.shape (claims_persisted changes u.log u.claims) y ≡ pictured
            v.fixed.shape u.claims y
        go [] = refl
        go (c ∷ changes) =
            ap (λ (z : View). pictured v.fixed.shape
            (claims_drained [] z.log (Drained [] ∷ u.claims)) y) at.same

    pub known_still : (w : View) → IsPersisted u w → (y : ℕ) → known v.fixed.shape (runs_one v)
        w.claims y ≡ known v.fixed.shape (runs_one v) u.claims y
    known_still w is y = ap (λ (z : View). known v.fixed.shape (runs_one v) z.claims y) is
        ∙ go u.changes
      where
        go : (changes : List Undrained) → known v.fixed.shape (runs_one v)
            (claims_persisted changes u.log u.claims) y ≡ known v.fixed.shape (runs_one v) u.claims
            y
        go [] = refl
        go (c ∷ changes) =
            ap (λ (z : View). known v.fixed.shape (runs_one v)
            (claims_drained [] z.log (Drained [] ∷ u.claims)) y) at.same ∙ known_noted v.fixed.shape
            u.claims (runs_one v) (DrainedTo []) no_making y tt

    -- the lane is at work where its records may be put back
    pub still_working : stay (generation_word v) → AreBeyond v.fixed.shape u.changes → slot ≡ []
        → length records ≤ 64 → AllByRecursion (IsStanding v) records → AreOnce records
        → IsWorking u
    still_working stays far whole few standing once = subst IsWorking (sym at.same) (record {
      is_open = refl;
      whole = (whole, refl);
      unentered = refl;
      below = working.below;
      lane = working.lane;
      lanes = working.lanes;
      zones = working.zones;
      unmaking = no_making;
      clean = far;
      few = few;
      standing = all_still v (view_with v u.claims u.changes u.calls records slot) records refl
          class_so standing;
      once = once;
      known = at.pictured_ (generation_word v) stays ∙ working.known;
    })

-- ---- a store of a slot's next word
abbrev pub slot_change : ℕ → Undrained
slot_change w = record { word = w; mask = all_bits; old = None; flushed = false }

module _ {v : View} {records : List Recorded} {slot : List ℕ} {u : View}
    (at : Logging v (IsNoSlot v.fixed.shape v.fixed.lane) records slot u) where
  abbrev stored_view : ℕ → ℕ → List Recorded → List ℕ → View
  stored_view w x records' slot' = view_with v (Knows w x ∷ u.claims) (slot_change w ∷ u.changes)
      (Store w x ∷ u.calls) records' slot'

  pub slot_stored : (w x : ℕ) → part_of v.fixed.shape v.fixed.lane w ≡ SlotPart
      → ((y : ℕ) → IsNoSlot v.fixed.shape v.fixed.lane y → w ≢ y)
      → (records' : List Recorded) (slot' : List ℕ) → with_slot v.fixed.shape (class v.claims)
      (slot ++ x ∷ []) (log_with v records slot) ≡ log_with v records' slot'
      → (after u (Store w x) ≡ stored_view w x records' slot') × Logging v
      (IsNoSlot v.fixed.shape v.fixed.lane) records' slot' (stored_view w x records' slot')
  slot_stored w x part other records' slot' grows = (
    ap (λ (y : View). after y (Store w x)) at.same
        ∙ (ap (λ q. changed_from (Store w x) here_ w all_bits (was_of Open q (value_in here_ w)) x
        (marked_by Open q x u.claims) (log_stored v.fixed.shape (class u.claims) Open q x
        (log_with v records slot))) part
        ∙ ap (λ l. record (stored_view w x records slot) { log = l })
        (ap (λ cl. with_slot v.fixed.shape cl (slot ++ x ∷ []) (log_with v records slot))
        (class_so at) ∙ grows)),
    noted_others at (Valued w x) tt other (slot_change w ∷ u.changes) (Store w x ∷ u.calls) records'
        slot',
  )
    where
      here_ : View
      here_ = view_with v u.claims u.changes u.calls records slot

  -- it is lawful, where a record that could be written begins with the words
  pub may_store_slot : IsWorking v → (w x : ℕ) → part_of v.fixed.shape v.fixed.lane w ≡ SlotPart
      → w < words_of v.fixed.shape → x < 2 ^ 64 → HasRoom u.changes → length records < 64
      → (r : Recorded) → CanRecord v r
      → ((i : ℕ) → i < length r.old → is_recorded records (place_after r.place i) ≡ false)
      → slot ++ x ∷ [] ≡ take (length slot + 1) (spelled v.fixed.shape v.log.generation r)
      → w ≡ 8 * line_of_slot v.fixed.shape v.fixed.lane (length records) + length slot
      → MayStore u w x
  may_store_slot working w x part inside small room free r can new spells place =
      subst (λ (y : View). MayStore y w x) (sym at.same) (record {
        inside = inside;
        room = room;
        small = small;
        fits = subst (λ q. StoreFits (view_with v u.claims u.changes u.calls records slot) w x Open q)
            (sym part) (record {
              next = r;
              can = moved_record v u.claims u.changes u.calls (log_with v records slot) (class_so at)
                  (ap (first v.fixed.shape) at.are ∙ first_same v.fixed.shape at.notes v.claims)
                  (λ B. ap (λ t. here v.fixed.shape t B) at.are ∙ here_same v.fixed.shape at.notes v.claims
                  at.each B) (λ y far. at.known_ y (beyond_slots v working y far)) r new can;
              spells = spells;
              at = place;
              free = free;
              below = working.below;
              unentered = refl;
            });
      })
