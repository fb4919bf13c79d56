-- A LANE AT WORK STAYS SO where it only notes, records or stores: what it holds is the same.
use Rattle.std.specs.Prelude.{map}
use Rattle.std.proofs.Common.{◌≡◌, ◌≢◌, ℕ, ◌+◌, ◌*◌, ◌%◌, ◌^◌, ◌<◌, ◌≤◌, inl, inr, ⊎_elim, Bool, true, false, List, [], ◌∷◌, refl, sym, ap, ◌∙◌, subst, arith, eq-eqb, nat_le, ◌==◌, ◌||◌, Some}
use Rattle.std.specs.List.{AllByRecursion}
use Rattle.std.proofs.lemmas.Bool.{and_from, both_ways, le-leb}
use Rattle.pm_world.specs.Lanes.{is_occupancy}
use Rattle.pm_layout.specs.Areas.{word_of_seal}
use Rattle.pm_layout.specs.Sizes.{blocks_of}
use Rattle.pm_model.specs.Pending.{SetWord}
use Rattle.pm_view.specs.Changes.{Undrained}
use Rattle.pm_view.specs.Claims.{class, header_in, making}
use Rattle.pm_view.specs.Log.{Log, Recorded, place_at}
use Rattle.pm_view.specs.Places.{Place, Block, Small, Big, in_span, place_after, word_of}
use Rattle.pm_view.specs.View.{View, Told}
use Rattle.pm_view.specs.Views.{value_in}
use Rattle.pm_view.specs.Steps.{Step}
use Rattle.pm_world.specs.InWorld.{IsSound, SizesFit, block_bytes}
use Rattle.pm_world.specs.LaneFields.{Standing, moved}
use Rattle.pm_world.specs.Sights.{is_recorded}
use Rattle.pm_world.specs.declared.lane.HeldLock.{HeldLock}
use Rattle.pm_crash.specs.Footprints.{bit_before, has_found}
use Rattle.pm_crash.specs.Looked.{KnowsSize, size_seen, word_place, words_in}
use Rattle.pm_crash.specs.SimFacts.{is_begun}
use Rattle.pm_crash.specs.Sim.{SameBits, Sim, lists_of, sees_at}
use Rattle.pm_crash.proofs.Simulation.{sim_stays}
use Rattle.pm_plan.specs.Notes.{Note, noted, AreNotes}
use Rattle.pm_undo.specs.Working.{IsStanding, IsWorking}
use Rattle.pm_plan.proofs.Notes as notes
use Rattle.pm_call.specs.At.{AreLists, IsAt, IsDataOf, MaySet, entries_so_far}
use Rattle.pm_call.specs.Held.{AreHeld, HasObject, IsHeld, IsObjectWord, has_line, line_of}
use Rattle.pm_call.proofs.KnownObjects.{size_known}
use Rattle.pm_call.specs.Waiting.{HasPending}
use Rattle.pm_call.proofs.Frames.{header_so, noting, noting_grows}
use Rattle.pm_call.proofs.Staying.{has_pending, holds_with, noted_holds, noted_own}

pub all_map : {A : Type 0} (P Q : A → Type 0) (xs : List A) → ((x : A) → P x → Q x) → AllByRecursion P xs → AllByRecursion Q xs
all_map P Q [] f all = tt
all_map P Q (x ∷ xs) f all = (f x all.0, all_map P Q xs f all.1)

-- the line of an object's header, by its offset
header_high : (v : View) (B : Block) → is_occupancy v.fixed.shape B ≡ true → 1 ≤ header_in v.fixed.shape v.claims B
header_high v (Small c i) o = omega arith
header_high v (Big f) o = omega arith
header_high v Rattle.pm_view.specs.Places.Root o = absurd (both_ways false refl o)

pub header_line : (v : View) → IsSound v → (off : ℕ) (k : KnowsSize v [] off) → has_found v k.block ≡ true → header_in v.fixed.shape v.claims k.block ≡ line_of off
header_line v s off k f = let a = k.at in let h = header_high v k.block k.object.inside in omega (arith, a, h)

pub offset_line : (v : View) → IsSound v → (off : ℕ) (k : KnowsSize v [] off) → has_found v k.block ≡ true → has_line off ≡ true
offset_line v s off k f = let a = k.at in let h = header_high v k.block k.object.inside in and_from (off % 64 == 0) (nat_le 128 off) (eq-eqb (off % 64) 0 (omega (arith, a))) (le-leb 128 off (omega (arith, a, h)))

module _ (v : View) (ns : List Note) (changes : List Undrained) (calls : List Step) (log : Log) (are : AreNotes v.fixed.shape v.claims ns) (none : (c : ℕ) → making v.fixed.shape v.claims c ≡ false) where
  abbrev next : View
  next = noting v ns changes calls log

  class_so : class (noted ns v.claims) ≡ class v.claims
  class_so = notes.class_same ns v.claims

  pub found_so : (B : Block) → has_found next B ≡ has_found v B
  found_so B = notes.found_same v.fixed.shape ns v.claims are B

  pub words_so : (B : Block) → words_in next B ≡ words_in v B
  words_so (Small c i) = λ j. 8 * class_so j c
  words_so (Big f) = λ j. 512 * notes.span_same v.fixed.shape ns v.claims j f
  words_so Rattle.pm_view.specs.Places.Root = refl

  pub place_so : (B : Block) (k : ℕ) → word_place next B k ≡ word_place v B k
  place_so (Small c i) k = λ j. Rattle.pm_view.specs.Places.InRun c (8 * (1 + class_so j c * i) + k)
  place_so (Big f) k = refl
  place_so Rattle.pm_view.specs.Places.Root k = refl

  pub object_word_so : (B : Block) (k : ℕ) → IsObjectWord v B k → IsObjectWord next B k
  object_word_so B k is = record { found = found_so B ∙ is.found; inside = is.inside; within = subst (λ n. k < n) (sym (words_so B)) is.within; kind = is.kind }

  pub sound_so : IsSound v → IsSound next
  sound_so s = record {
    small = λ c i e. subst (λ cl. (cl c ≢ 0) × (i < blocks_of (cl c))) (sym class_so) (s.small c i (sym (found_so (Small c i)) ∙ e));
    some = λ f e. subst (λ sp. 1 ≤ sp f) (sym (notes.span_same v.fixed.shape ns v.claims)) (s.some f (sym (found_so (Big f)) ∙ e));
    zone = λ f e. subst (λ sp. f % 64 + sp f ≤ 64) (sym (notes.span_same v.fixed.shape ns v.claims)) (s.zone f (sym (found_so (Big f)) ∙ e));
    huge = λ f c e i. let t = s.huge f c (sym (found_so (Big f)) ∙ e) (ap (λ sp. in_span f (sp f) c) (sym (notes.span_same v.fixed.shape ns v.claims)) ∙ i) in
        (ap (λ fi. fi c) (notes.first_same v.fixed.shape ns v.claims) ∙ t.0, ap (λ cl. cl c) class_so ∙ t.1);
  }

  pub standing_so : (rs : List Recorded) → AllByRecursion (IsStanding v) rs → AllByRecursion (IsStanding next) rs
  standing_so rs all = all_map (IsStanding v) (IsStanding next) rs (λ r t. record {
    some = t.some;
    most = t.most;
    data_ = t.data_;
    row = t.row;
    use_ = λ i l. ap (λ cl. place_at v.fixed.shape cl (word_of v.fixed.shape (place_after r.place i))) class_so ∙ t.use_ i l;
    small = t.small;
  }) all

  -- sizes fit where they are what they were
  pub bytes_so : (B : Block) → block_bytes next B ≡ block_bytes v B
  bytes_so (Small c i) = λ j. 64 * class_so j c
  bytes_so (Big f) = λ j. 4096 * notes.span_same v.fixed.shape ns v.claims j f
  bytes_so Rattle.pm_view.specs.Places.Root = refl

  pub held_so : (locks : List HeldLock) → AreHeld v locks → AreHeld next locks
  held_so locks all = all_map (IsHeld v) (IsHeld next) locks one all
    where
      object : (line : ℕ) → HasObject v line → HasObject next line
      object line o = record { block = o.block; found = found_so o.block ∙ o.found; at = header_so v.fixed.shape ns v.claims are none o.block ∙ o.at; inside = o.inside }

      one : (l : HeldLock) → IsHeld v l → IsHeld next l
      one l h = record {
        held = (λ e. ap (λ f. f l.line) (notes.locked_same ns v.claims) ∙ h.held.0 e, (λ i. notes.locked_same ns v.claims i l.line || notes.reads_same ns v.claims i l.line) ∙ h.held.1);
        object = ⊎_elim (λ (z : l.line ≡ 0). inl z) (λ (o : HasObject v l.line). inr (object l.line o)) h.object;
      }

  abbrev pub size_so : IsSound v → (off : ℕ) (k : KnowsSize v [] off) → has_found v k.block ≡ true → size_seen next off ≡ Some k.size → KnowsSize next [] off
  size_so s off k f seen = let o : HasObject next (line_of off) = record { block = k.block; found = found_so k.block ∙ f; at = header_so v.fixed.shape ns v.claims are none k.block ∙ header_line v s off k f; inside = k.object.inside } in
      size_known next (sound_so s) off k.size (offset_line v s off k f) o seen k.knows.small

  pub data_so : IsSound v → (p : Place) (d : IsDataOf v p) → size_seen next d.off ≡ Some d.object.size → (y : ℕ) → value_in next (word_of v.fixed.shape p) ≡ Some y → y < 2 ^ 64 → IsDataOf next p
  data_so s p d sized y known small = record {
    off = d.off;
    object = size_so s d.off d.object d.found sized;
    found = found_so d.object.block ∙ d.found;
    index = d.index;
    at = d.at ∙ sym (place_so d.object.block d.index);
    data_ = d.data_;
    within = subst (λ n. d.index < n) (sym (words_so d.object.block)) d.within;
    alive = d.alive;
    value = y;
    known = known;
    small = small;
  }

-- what such a step owes, but for the bits as the call has made them
pub record KeepsHeld (s : Standing) (ns : List Note) (changes : List Undrained) (calls : List Step) (log : Log) : Type 0 where
  pub each : AreNotes s.view.fixed.shape s.view.claims ns
  pub working : IsWorking (noting s.view ns changes calls log)
  pub unbumped : log.bumped ≡ false
  pub fit : SizesFit (noting s.view ns changes calls log)
  pub seal : value_in (noting s.view ns changes calls log) (word_of_seal s.view.fixed.shape s.view.fixed.lane) ≡ Some 0
  pub recorded : (p : Place) → is_recorded log.records p ≡ true → IsDataOf (noting s.view ns changes calls log) p
  pub more : (p : Place) → is_recorded s.view.log.records p ≡ true → is_recorded log.records p ≡ true
  pub knows : (p : Place) (b : ℕ) (y : Bool) → sees_at s.view p b ≡ true → bit_before s.view p b ≡ Some y → bit_before (noting s.view ns changes calls log) p b ≡ Some y

-- what such a step owes
pub record Keeps (s : Standing) (ns : List Note) (changes : List Undrained) (calls : List Step) (log : Log) : Type 0 where
  pub each : AreNotes s.view.fixed.shape s.view.claims ns
  pub working : IsWorking (noting s.view ns changes calls log)
  pub unbumped : log.bumped ≡ false
  pub fit : SizesFit (noting s.view ns changes calls log)
  pub seal : value_in (noting s.view ns changes calls log) (word_of_seal s.view.fixed.shape s.view.fixed.lane) ≡ Some 0
  pub sizes : (a : SetWord) → MaySet s a → size_seen (noting s.view ns changes calls log) a.id.off ≡ size_seen s.view a.id.off
  pub recorded : (p : Place) → is_recorded log.records p ≡ true → IsDataOf (noting s.view ns changes calls log) p
  pub more : (p : Place) → is_recorded s.view.log.records p ≡ true → is_recorded log.records p ≡ true
  pub knows : (p : Place) (b : ℕ) (y : Bool) → sees_at s.view p b ≡ true → bit_before s.view p b ≡ Some y → bit_before (noting s.view ns changes calls log) p b ≡ Some y
  pub same : SameBits s.view (entries_so_far s) (noting s.view ns changes calls log) (entries_so_far s)

-- ---- an operation that is told changes nothing of that

module _ (v : View) (call actions published : List Told) where
  abbrev told : View
  told = record v { call = call; actions = actions; published = published }

  pub working_told : IsWorking v → IsWorking told
  working_told w = record {
    is_open = w.is_open;
    whole = w.whole;
    unentered = w.unentered;
    below = w.below;
    lane = w.lane;
    lanes = w.lanes;
    zones = w.zones;
    unmaking = w.unmaking;
    clean = w.clean;
    few = w.few;
    standing = all_map (IsStanding v) (IsStanding told) v.log.records (λ r t. record { some = t.some; most = t.most; data_ = t.data_; row = t.row; use_ = t.use_; small = t.small }) w.standing;
    once = w.once;
    known = w.known;
  }

  pub sound_told : IsSound v → IsSound told
  sound_told s = record { small = s.small; some = s.some; zone = s.zone; huge = s.huge }

  pub sizes_told : SizesFit v → SizesFit told
  sizes_told f (Small c i) x = f (Small c i) x
  sizes_told f (Big h) x = f (Big h) x
  sizes_told f Rattle.pm_view.specs.Places.Root x = f Rattle.pm_view.specs.Places.Root x

  pub held_told : (locks : List HeldLock) → AreHeld v locks → AreHeld told locks
  held_told locks all = all_map (IsHeld v) (IsHeld told) locks (λ l h. record {
    held = h.held;
    object = ⊎_elim (λ (z : l.line ≡ 0). inl z) (λ (o : HasObject v l.line). inr (record { block = o.block; found = o.found; at = o.at; inside = o.inside })) h.object;
  }) all

  word_told : (B : Block) (k : ℕ) → IsObjectWord v B k → IsObjectWord told B k
  word_told B k w = record { found = w.found; inside = w.inside; within = within B w.within; kind = w.kind }
    where
      within : (B : Block) → k < words_in v B → k < words_in told B
      within (Small c i) l = l
      within (Big f) l = l
      within Rattle.pm_view.specs.Places.Root l = l

  place_told : (B : Block) (k : ℕ) → word_place told B k ≡ word_place v B k
  place_told (Small c i) k = refl
  place_told (Big f) k = refl
  place_told Rattle.pm_view.specs.Places.Root k = refl

  abbrev size_told : IsSound v → (off : ℕ) (k : KnowsSize v [] off) → has_found v k.block ≡ true → KnowsSize told [] off
  size_told s off k f = size_known told (sound_told s) off k.size (offset_line v s off k f) (record { block = k.block; found = f; at = header_line v s off k f; inside = k.object.inside }) k.seen k.knows.small

  words_told : (B : Block) → words_in told B ≡ words_in v B
  words_told (Small c i) = refl
  words_told (Big f) = refl
  words_told Rattle.pm_view.specs.Places.Root = refl

  pub data_told : IsSound v → (p : Place) → IsDataOf v p → IsDataOf told p
  data_told s p d = record {
    off = d.off;
    object = size_told s d.off d.object d.found;
    found = d.found;
    index = d.index;
    at = d.at ∙ sym (place_told d.object.block d.index);
    data_ = d.data_;
    within = subst (λ n. d.index < n) (sym (words_told d.object.block)) d.within;
    alive = d.alive;
    value = d.value;
    known = d.known;
    small = d.small;
  }

-- AT WORK AGAIN after such a step that may change the bits, and one more operation told
module _ (s : Standing) (level : ℕ) (at : IsAt s level) (ns : List Note) (changes : List Undrained) (calls : List Step) (log : Log) (k : KeepsHeld s ns changes calls log) where
  abbrev next_view : View
  next_view = noting s.view ns changes calls log

  pub held_grows : (kept : Bool) → Rattle.pm_crash.specs.Sim.Grows s.view kept next_view kept
  held_grows kept = noting_grows s.view ns changes calls log k.each at.working.unmaking kept k.more k.knows

  pub held_told_at : (call actions published : List Told) (level' : ℕ) → 1 ≤ level' → level' ≤ 64 → is_begun call ≡ true
      → AreLists (moved s (told next_view call actions published)) level' (lists_of (told next_view call actions published))
      → HasPending (told s.view call actions published)
      → Sim (told next_view call actions published) (entries_so_far s)
      → IsAt (moved s (told next_view call actions published)) level'
  held_told_at call actions published level' some most begun lists pending sim = record {
    working = working_told next_view call actions published k.working;
    unbumped = k.unbumped;
    begun = begun;
    some = some;
    most = most;
    sound = sound_told next_view call actions published (sound_so s.view ns changes calls log k.each at.working.unmaking at.sound);
    sizes = sizes_told next_view call actions published k.fit;
    sealed = k.seal;
    number = record { seen = at.number.seen; told = at.number.told; below = at.number.below; none = at.number.none };
    held = held_told next_view call actions published s.locks (held_so s.view ns changes calls log k.each at.working.unmaking s.locks at.held);
    lines = at.lines;
    few = at.few;
    holds = holds_with next_view (told next_view call actions published) s.locks refl refl (noted_holds s.view ns changes calls log s.locks at.holds);
    own = noted_own s.view ns changes calls log k.each at.own;
    room = at.room;
    recorded = λ p e. data_told next_view call actions published (sound_so s.view ns changes calls log k.each at.working.unmaking at.sound) p (k.recorded p e);
    lists = lists;
    pending = has_pending (told s.view call actions published) (told next_view call actions published) refl refl pending;
    sim = sim;
    facts = at.facts;
  }

-- AT WORK AGAIN after such a step, and one more operation told or none
module _ (s : Standing) (level : ℕ) (at : IsAt s level) (ns : List Note) (changes : List Undrained) (calls : List Step) (log : Log) (k : Keeps s ns changes calls log) where
  abbrev noted_view : View
  noted_view = noting s.view ns changes calls log

  held_of : KeepsHeld s ns changes calls log
  held_of = record { each = k.each; working = k.working; unbumped = k.unbumped; fit = k.fit; seal = k.seal; recorded = k.recorded; more = k.more; knows = k.knows }

  pub grows : (kept : Bool) → Rattle.pm_crash.specs.Sim.Grows s.view kept noted_view kept
  grows kept = held_grows s level at ns changes calls log held_of kept

  -- the call goes on as it was
  pub noted_sim : Sim noted_view (entries_so_far s)
  noted_sim = sim_stays s.view noted_view (entries_so_far s) (entries_so_far s) at.sim (record { fixed = refl; entries = refl }) refl grows k.same

  pub told_at : (call actions published : List Told) (level' : ℕ) → 1 ≤ level' → level' ≤ 64 → is_begun call ≡ true
      → AreLists (moved s (told noted_view call actions published)) level' (lists_of (told noted_view call actions published))
      → HasPending (told s.view call actions published)
      → Sim (told noted_view call actions published) (entries_so_far s)
      → IsAt (moved s (told noted_view call actions published)) level'
  told_at call actions published level' some most begun lists pending sim = held_told_at s level at ns changes calls log held_of call actions published level' some most begun lists pending sim

  -- AND WITH NOTHING TOLD, where no record is new
  pub noted_at : log.records ≡ s.view.log.records → IsAt (moved s noted_view) level
  noted_at same = told_at s.view.call s.view.actions s.view.published level at.some at.most at.begun lists (has_pending s.view (told s.view s.view.call s.view.actions s.view.published) refl refl at.pending) noted_sim
    where
      lists : AreLists (moved s noted_view) level (lists_of s.view)
      lists = record {
        level_is = at.lists.level_is;
        works = at.lists.works;
        locks = at.lists.locks;
        count = at.lists.count;
        recorded = at.lists.recorded ∙ ap (λ rs. Rattle.pm_undo.specs.Spans.words_in (map (Rattle.pm_world.specs.LaneFields.kept_of s.view.fixed.shape) rs)) (sym same);
        records = at.lists.records ∙ ap Rattle.std.specs.Prelude.length (sym same);
        blocks = at.lists.blocks;
        pending = at.lists.pending;
        sets = at.lists.sets;
        may_set = all_map (MaySet s) (MaySet (moved s noted_view)) (lists_of s.view).sets (λ a m. record { locked = m.locked; aligned = m.aligned; size = m.size; sized = k.sizes a m ∙ m.sized; inside = m.inside; small = m.small }) at.lists.may_set;
        error_is = at.lists.error_is;
      }
