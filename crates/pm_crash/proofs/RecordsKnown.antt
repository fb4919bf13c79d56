-- What a lane recorded in an open call it knows to be an object's.
use Rattle.std.proofs.Common.{◌≡◌, ◌⊎◌, inl, inr, ⊎_elim, ℕ, ◌+◌, ◌-◌, ◌*◌, ◌/◌, ◌%◌, ◌^◌, ◌<◌, ◌≤◌, ◌==◌, ◌&&◌, nat_le, nat_lt, not, Bool, true, false, cond, List, [], ◌∷◌, ◌++◌, length, Option, None, Some, refl, sym, ap, ◌∙◌, subst, arith, eq-eqb, ne_eqb}
use Rattle.std.specs.Prelude.{IfSome, slice_index}
use Rattle.std.specs.Option.{option_map}
use Rattle.std.proofs.lemmas.Bool.{and_from, and_parts, both_ways, cond-false, eqb-true, false_from_ne_true, le-leb, leb-true, lt-ltb, ltb-true}
use Rattle.std.proofs.Math.Nat.{mod-eq-sub-div-mul, mul-div-le, mul_comm}
use Rattle.std.proofs.Math.Arith.{digits_div}
use Rattle.pm_layout.specs.Chunks.{chunks_of}
use Rattle.pm_view.specs.Changes.{Undrained, drained}
use Rattle.pm_view.specs.Claims.{class, first, pictured}
use Rattle.pm_view.specs.Entries.{first_of_two}
use Rattle.pm_view.specs.Founds.{knows}
use Rattle.pm_view.specs.Log.{Phase, Open, Log, Recorded, log_drained, log_stored, old_in, old_of, recorded, with_pair, with_slot}
use Rattle.pm_view.specs.Parts.{Part, GenerationPart, SealPart, EntryPart, SlotPart, RootPart, DescriptorPart, ChunkPart, OtherPart}
use Rattle.pm_view.specs.Places.{Place, InRun, InHuge, Descr, RootWord, Block, Small, Big, distance, is_data, is_place, part, place_after, word_of}
use Rattle.pm_view.specs.Steps.{Step}
use Rattle.pm_view.specs.Steps.Step.{Load, Store, Or, And, Flush, Drain, TakeWrite, TakeRead, Raise, Give, ZoneTry, ZoneGive, Occupied, Occupy, Vacate, Draw, NumberSeen, StopSeen, SetStop, Tell}
use Rattle.pm_view.specs.View.{View}
use Rattle.pm_view.specs.Views.{after, begun, drained_to, part_in, with_seen}
use Rattle.pm_world.specs.Lanes.{is_decided}
use Rattle.pm_world.specs.Lawful.{AppendsToSlot, CanRecordAt, MayChangeAt, StoreFits, is_guarded, offset_in, size_in}
use Rattle.pm_world.specs.Memory.{Memory, PoolWord, bit}
use Rattle.pm_world.specs.Sights.{is_pictured, is_recorded, picture, sight_of}
use Rattle.pm_world.specs.World.{Opening, Views, Past, World}
use Rattle.pm_world.proofs.Frame.{found_has}
use Rattle.pm_world.proofs.Known.{known_so}
use Rattle.pm_world.proofs.Recording.{old_in_at, place_is, recorded_cases}
use Rattle.pm_crash.specs.Footprints.{bit_before, has_found}
use Rattle.pm_crash.specs.Sim.{Grows, IsInObject, sees_at}
use Rattle.pm_crash.specs.SimSteps.{IsStep, KnowsRecorded, QuietStepsKeepRecords, RecordsBegin, RecordsStayKnown}
use Rattle.pm_crash.proofs.Composing.{still_object}
use Rattle.pm_crash.proofs.SimSteps.{steps_grow, still}
use Rattle.pm_crash.proofs.StepKnows as known

pub records_begin : RecordsBegin
records_begin v none = record {
  objects = λ p b t r. absurd (both_ways false refl (sym (ap (λ rs. is_recorded rs p) none) ∙ r));
  guarded = λ p r. absurd (both_ways false refl (sym (ap (λ rs. is_recorded rs p) none) ∙ r));
}

-- ---- WHICH STEPS RECORD: the store of a slot's last word
record Records (v next : View) : Type 0 where
  word : ℕ
  value : ℕ
  appends : AppendsToSlot v word value
  full : length (v.log.slot ++ value ∷ []) ≡ 8
  more : next.log.records ≡ v.log.records ++ recorded v.fixed.shape (class v.claims) (v.log.slot ++ value ∷ []) ∷ []

abbrev Recording : View → View → Type 0
Recording v next = (next.log.records ≡ v.log.records) ⊎ Records v next

module _ (v : View) (w n : ℕ) where
  -- the log's records after a store
  abbrev Stored : Log → Type 0
  Stored log = (log.records ≡ v.log.records) ⊎ (AppendsToSlot v w n × (length (v.log.slot ++ n ∷ []) ≡ 8)
      × (log.records ≡ v.log.records ++ recorded v.fixed.shape (class v.claims) (v.log.slot ++ n ∷ []) ∷ []))

  stored_records : (part : Part) → StoreFits v w n Open part → Stored (log_stored v.fixed.shape (class v.claims) Open part n v.log)
  stored_records SlotPart f = by (length (v.log.slot ++ n ∷ []) == 8) refl
    where
      by : (q : Bool) → (length (v.log.slot ++ n ∷ []) == 8) ≡ q
          → ((cond q (record v.log { records = v.log.records ++ recorded v.fixed.shape (class v.claims) (v.log.slot ++ n ∷ []) ∷ []; slot = [] }) (record v.log { slot = v.log.slot ++ n ∷ [] })).records ≡ v.log.records)
          ⊎ (AppendsToSlot v w n × (length (v.log.slot ++ n ∷ []) ≡ 8)
          × ((cond q (record v.log { records = v.log.records ++ recorded v.fixed.shape (class v.claims) (v.log.slot ++ n ∷ []) ∷ []; slot = [] }) (record v.log { slot = v.log.slot ++ n ∷ [] })).records
          ≡ v.log.records ++ recorded v.fixed.shape (class v.claims) (v.log.slot ++ n ∷ []) ∷ []))
      by true e = inr (f, eqb-true (length (v.log.slot ++ n ∷ [])) 8 e, refl)
      by false e = inl refl
  stored_records EntryPart f = by v.log.pair
    where
      by : (pair : List ℕ) → ((with_pair v.fixed.shape (class v.claims) pair n v.log).records ≡ v.log.records)
          ⊎ (AppendsToSlot v w n × (length (v.log.slot ++ n ∷ []) ≡ 8)
          × ((with_pair v.fixed.shape (class v.claims) pair n v.log).records ≡ v.log.records ++ recorded v.fixed.shape (class v.claims) (v.log.slot ++ n ∷ []) ∷ []))
      by [] = inl refl
      by (head ∷ rest) = inl refl
  stored_records GenerationPart f = inl refl
  stored_records SealPart f = inl refl
  stored_records RootPart f = inl refl
  stored_records (DescriptorPart c) f = inl refl
  stored_records (ChunkPart c i) f = inl refl
  stored_records OtherPart f = inl refl

records_after : (o : Opening) (old mem : Memory) (views new : Views) (g : Past) (k : ℕ) (s : Step) → IsStep o old mem views new g k s → Recording (views k) (after (views k) s)
records_after o old mem views new g k (Store w n) y = by (subst (λ ph. Stored (views k) w n (log_stored (views k).fixed.shape (class (views k).claims) ph (part_in (views k) w) n (views k).log)) (sym y.is_open)
    (stored_records (views k) w n (part_in (views k) w) (subst (λ ph. StoreFits (views k) w n ph (part_in (views k) w)) y.is_open y.lawful.allowed.fits)))
  where
    by : Stored (views k) w n (after (views k) (Store w n)).log → Recording (views k) (after (views k) (Store w n))
    by q = ⊎_elim (λ (e : (after (views k) (Store w n)).log.records ≡ (views k).log.records). inl e)
        (λ (e : AppendsToSlot (views k) w n × (length ((views k).log.slot ++ n ∷ []) ≡ 8)
        × ((after (views k) (Store w n)).log.records ≡ (views k).log.records ++ recorded (views k).fixed.shape (class (views k).claims) ((views k).log.slot ++ n ∷ []) ∷ [])).
        inr (record { word = w; value = n; appends = e.0; full = e.1; more = e.2 })) q
records_after o old mem views new g k Drain y = inl (by (drained (views k).changes))
  where
    by : (left : List Undrained) → (drained_to (views k) left).log.records ≡ (views k).log.records
    by (c ∷ left) = refl
    by [] = ap (λ ph. (log_drained ph (views k).log).records) y.is_open
records_after o old mem views new g k (NumberSeen n) y = inl (ap (λ ph. (with_seen (NumberSeen n) (begun ph (views k))).log.records) y.is_open)
records_after o old mem views new g k (Draw n) y = absurd (both_ways false refl y.goes)
records_after o old mem views new g k (Tell operation reply) y = absurd (both_ways false refl y.goes)
records_after o old mem views new g k (Occupy at bits true) y = inl refl
records_after o old mem views new g k (Occupy at bits false) y = inl refl
records_after o old mem views new g k (Load w found) y = inl refl
records_after o old mem views new g k (Or w bits found) y = inl (ap (λ ph. (Rattle.pm_view.specs.Log.log_changed ph (views k).log).records) y.is_open)
records_after o old mem views new g k (And w bits found) y = inl (ap (λ ph. (Rattle.pm_view.specs.Log.log_changed ph (views k).log).records) y.is_open)
records_after o old mem views new g k (Flush line) y = inl refl
records_after o old mem views new g k (TakeWrite line won) y = inl refl
records_after o old mem views new g k (TakeRead line won) y = inl refl
records_after o old mem views new g k (Raise line won) y = inl refl
records_after o old mem views new g k (Give line) y = inl refl
records_after o old mem views new g k (ZoneTry zone won) y = inl refl
records_after o old mem views new g k (ZoneGive zone) y = inl refl
records_after o old mem views new g k (Occupied at found) y = inl refl
records_after o old mem views new g k (Vacate at bits) y = inl refl
records_after o old mem views new g k (StopSeen set) y = inl refl
records_after o old mem views new g k SetStop y = inl refl

-- ---- A WORD THAT MAY BE RECORDED is an object's
module _ (o : Opening) (mem : Memory) (views : Views) (g : Past) (x : World o mem views g) (k : ℕ) (ink : k < o.lanes) (is_open : (views k).log.phase ≡ Open) (y : KnowsRecorded (views k)) where
  -- what it recorded it sees
  recorded_seen : (p : Place) (b : ℕ) → is_recorded (views k).log.records p ≡ true → sees_at (views k) p b ≡ true
  recorded_seen p b r = by p ((x.each_lane k ink).recorded (ap is_decided is_open) p r).0
      ((known.fit o mem views g x k ink is_open k).hold.here (Rattle.pm_view.specs.Places.block_of g.geo p b) (((x.each_lane k ink).recorded (ap is_decided is_open) p r).1 b).0).1
    where
      by : (p : Place) → is_data p ≡ true → has_found (views k) (Rattle.pm_view.specs.Places.block_of g.geo p b) ≡ true → sees_at (views k) p b ≡ true
      by (InRun c w) d f = subst (λ n. has_found (views k) (Small c (part n w b)) ≡ true)
          (sym ((known.fit o mem views g x k ink is_open k).hold.class c (part (g.geo.class c) w b) (found_has (sight_of (views k)).hold (Small c (part (g.geo.class c) w b)) f))) f
      by (InHuge c w) d f = subst (λ n. has_found (views k) (Big n) ≡ true)
          (sym ((known.fit o mem views g x k ink is_open k).hold.first c (found_has (sight_of (views k)).hold (Big (g.geo.first c)) f))) f
      by (Descr c) d f = absurd (both_ways false refl d)
      by RootWord d f = absurd (both_ways false refl d)

  -- a number that it knows is a word's
  known_small : (w n : ℕ) → knows (views k) w ≡ Some n → n < 2 ^ 64
  known_small w n e = subst (λ m. m < 2 ^ 64) (subst (λ q. IfSome q (λ m. mem (PoolWord w) ≡ m)) e (known_so o mem views g x k ink w)) (x.small w)

  if_known : (q : Bool) (d : Option ℕ) (z : ℕ) → cond q d None ≡ Some z → d ≡ Some z
  if_known true d z e = e
  if_known false d z e = absurd (Rattle.std.proofs.lemmas.Option.none-some z e)

  -- a known word that no record has
  bare_known : (p : Place) (b n : ℕ) → is_pictured p ≡ true → is_recorded (views k).log.records p ≡ false → knows (views k) (word_of (views k).fixed.shape p) ≡ Some n
      → bit_before (views k) p b ≡ Some (bit n b)
  bare_known p b n i bare e = by (old_of (views k).log.records p) refl
    where
      by : (d : Option ℕ) → old_of (views k).log.records p ≡ d → first_of_two (option_map (λ m. bit m b) (old_of (views k).log.records p)) (picture (views k).fixed.shape (views k).claims p b) ≡ Some (bit n b)
      by None q = ap (λ z. first_of_two (option_map (λ m. bit m b) z) (picture (views k).fixed.shape (views k).claims p b)) q
          ∙ known.as_pictured (views k).fixed.shape (views k).claims p b (bit n b) i (ap (option_map (λ m. bit m b)) (if_known _ (pictured (views k).fixed.shape (views k).claims (word_of (views k).fixed.shape p)) n e))
      by (Some m) q = absurd (both_ways (is_recorded (views k).log.records p) bare (ap Rattle.pm_world.specs.States.given q))

  -- the word of a size is none that a record has
  unguarded : (p : Place) → offset_in (views k) p ≡ 1 → is_recorded (views k).log.records p ≡ false
  unguarded p e = false_from_ne_true (is_recorded (views k).log.records p) (λ r. both_ways false refl (sym (ap is_guarded e) ∙ y.guarded p r))

  can_object : (p : Place) (n : ℕ) → CanRecordAt (views k) p n → IsInObject (views k) p
  can_object p n a = by p a.word.own a.word.plain a.word.place a.sized a.within
    where
      by : (p : Place) → MayChangeAt (views k) p → is_data p ≡ true → is_place (views k).fixed.shape p ≡ true → knows (views k) (size_in (views k) p) ≡ Some a.size
          → offset_in (views k) p / 8 ≤ (a.size + 63) / 64 → IsInObject (views k) p
      by (InRun c w) own plain place sized within =
          let cl : ℕ = class (views k).claims c in
          let i : ℕ = (w / 8 - 1) / class (views k).claims c in
          let m : ℕ = class (views k).claims c * ((w / 8 - 1) / class (views k).claims c) in
          let from = leb-true 8 w plain in
          let to = ltb-true w 512 (and_parts (nat_lt c (chunks_of (views k).fixed.shape)) (nat_lt w 512) place).1 in
          let f : has_found (views k) (Small c i) ≡ true = subst (λ j. has_found (views k) (Small c j) ≡ true)
          (cond-false (w == 0) 64 ((w / 8 - 1) / class (views k).claims c) (ne_eqb w 0 (λ q. omega arith)))
          (and_parts (has_found (views k) (Small c (part (class (views k).claims c) w 64))) _ own.0).0 in
          let r = known.run_class o mem views g x k ink is_open c i f in
          let some : 0 < class (views k).claims c = (let q = r.1 in omega arith) in
          let low : class (views k).claims c * ((w / 8 - 1) / class (views k).claims c) ≤ w / 8 - 1 = mul-div-le (w / 8 - 1) (class (views k).claims c) in
          let turned : m ≡ i * cl + 0 = (let e : class (views k).claims c * ((w / 8 - 1) / class (views k).claims c) ≡ (w / 8 - 1) / class (views k).claims c * class (views k).claims c = mul_comm (class (views k).claims c) ((w / 8 - 1) / class (views k).claims c) in omega (arith, e)) in
          let at : (8 * (1 + m) + 1) / 8 - 1 ≡ m = omega arith in
          let index : ((8 * (1 + m) + 1) / 8 - 1) / cl ≡ i = ap (λ n. n / cl) (at ∙ turned) ∙ digits_div i {m = cl} {r = 0} some in
          let one : offset_in (views k) (InRun c (8 * (1 + m) + 1)) ≡ 1 = ap (λ j. 8 * (1 + m) + 1 - 8 * (1 + cl * j)) index ∙ (let z : 8 * (1 + m) + 1 - 8 * (1 + m) ≡ 1 = omega arith in z) in
          let picture_ : is_pictured (InRun c (8 * (1 + m) + 1)) ≡ true = and_from (nat_le 8 (8 * (1 + m) + 1)) (nat_lt (8 * (1 + m) + 1) 512) (le-leb 8 (8 * (1 + m) + 1) (omega arith)) (lt-ltb (8 * (1 + m) + 1) 512 (omega arith)) in
          let rest : (w / 8 - 1) % class (views k).claims c ≡ w / 8 - 1 - (w / 8 - 1) / class (views k).claims c * class (views k).claims c = mod-eq-sub-div-mul (w / 8 - 1) (class (views k).claims c) in
          let e : class (views k).claims c * ((w / 8 - 1) / class (views k).claims c) ≡ (w / 8 - 1) / class (views k).claims c * class (views k).claims c = mul_comm (class (views k).claims c) ((w / 8 - 1) / class (views k).claims c) in
          record {
            of_block = and_from (not (class (views k).claims c == 0)) (nat_le 8 w && nat_lt w 512) (ap not (ne_eqb (class (views k).claims c) 0 (λ q. omega arith)))
                (and_from (nat_le 8 w) (nat_lt w 512) plain (lt-ltb w 512 to));
            size = a.size;
            small = known_small (size_in (views k) (InRun c w)) a.size sized;
            has_line = omega (arith, rest, e, within, from, low);
            sees = λ b. subst (λ j. has_found (views k) (Small c j) ≡ true)
                (sym (cond-false (8 * (1 + m) + 1 == 0) b (((8 * (1 + m) + 1) / 8 - 1) / cl) (ne_eqb (8 * (1 + m) + 1) 0 (λ q. omega arith)) ∙ index)) f;
            sized = λ b l. bare_known (InRun c (8 * (1 + m) + 1)) b a.size picture_ (unguarded (InRun c (8 * (1 + m) + 1)) one) sized;
          }
      by (InHuge c w) own plain place sized within =
          let f : ℕ = first (views k).fixed.shape (views k).claims c in
          let t : has_found (views k) (Big f) ≡ true = (and_parts (has_found (views k) (Big (first (views k).fixed.shape (views k).claims c))) _ own.0).0 in
          let first_ : g.geo.first f ≡ f = eqb-true (g.geo.first f) f ((known.fit o mem views g x k ink is_open k).hold.found (Big f) t).1 in
          let same : first (views k).fixed.shape (views k).claims f ≡ f =
          (known.fit o mem views g x k ink is_open k).hold.first f (found_has (sight_of (views k)).hold (Big (g.geo.first f)) (subst (λ n. has_found (views k) (Big n) ≡ true) (sym first_) t)) ∙ first_ in
          let one : offset_in (views k) (InHuge f 1) ≡ 1 = ap (λ n. 512 * (f - n) + 1) same ∙ (let z : 512 * (f - f) + 1 ≡ 1 = omega arith in z) in
          record {
            of_block = and_from (nat_lt w 512) (first (views k).fixed.shape (views k).claims f == f) (and_parts (nat_lt c (chunks_of (views k).fixed.shape)) (nat_lt w 512) place).1 (eq-eqb (first (views k).fixed.shape (views k).claims f) f same);
            size = a.size;
            small = known_small (size_in (views k) (InHuge c w)) a.size sized;
            has_line = (let z : (512 * (c - first (views k).fixed.shape (views k).claims c) + w) / 8 ≤ (a.size + 63) / 64 = within in omega (arith, z));
            sees = λ b. ap (λ n. has_found (views k) (Big n)) same ∙ t;
            sized = λ b l. bare_known (InHuge f 1) b a.size refl (unguarded (InHuge f 1) one) sized;
          }
      by (Descr c) own plain place sized within = absurd own
      by RootWord own plain place sized within = absurd (both_ways false refl plain)

  can_guarded : (p : Place) → MayChangeAt (views k) p → is_data p ≡ true → is_guarded (offset_in (views k) p) ≡ true
  can_guarded (InRun c w) own plain = own.2
  can_guarded (InHuge c w) own plain = own.1
  can_guarded (Descr c) own plain = absurd own
  can_guarded RootWord own plain = absurd (both_ways false refl plain)

module _ (v next : View) (kept : Bool) (grows : Grows v kept next kept) where
  offset_same : (p : Place) (b : ℕ) → sees_at v p b ≡ true → offset_in next p ≡ offset_in v p
  offset_same (InRun c w) b t = λ i. w - 8 * (1 + (grows.sees (InRun c w) b t).1 i * ((w / 8 - 1) / (grows.sees (InRun c w) b t).1 i))
  offset_same (InHuge c w) b t = λ i. 512 * (c - (grows.sees (InHuge c w) b t).1 i) + w
  offset_same (Descr c) b t = refl
  offset_same RootWord b t = refl

-- ---- SO IT STAYS
pub records_stay_known : (s : Step) → RecordsStayKnown s
records_stay_known s o old mem views new g k kept z nothing y =
    let grows = steps_grow s o old mem views new g k kept z nothing in
    let keep : (p : Place) → is_recorded (views k).log.records p ≡ true → (IsInObject (after (views k) s) p) × (is_guarded (offset_in (after (views k) s) p) ≡ true) =
    λ p r. let t = recorded_seen o old views g z.world k z.runs z.is_open y p 0 r in
    (still_object (views k) (after (views k) s) kept kept grows p 0 t (y.objects p 0 t r), ap is_guarded (offset_same (views k) (after (views k) s) kept grows p 0 t) ∙ y.guarded p r) in
    let each : (p : Place) → is_recorded (after (views k) s).log.records p ≡ true → (IsInObject (after (views k) s) p) × (is_guarded (offset_in (after (views k) s) p) ≡ true) =
    λ p r. ⊎_elim
    (λ (e : (after (views k) s).log.records ≡ (views k).log.records). keep p (sym (ap (λ rs. is_recorded rs p) e) ∙ r))
    (λ (e : Records (views k) (after (views k) s)). ⊎_elim
    (λ (q : is_recorded (views k).log.records p ≡ true). keep p q)
    (λ (q : Rattle.pm_world.specs.States.given (old_in (recorded (views k).fixed.shape (class (views k).claims) ((views k).log.slot ++ e.value ∷ [])) p) ≡ true).
    let is = known.record_is o old views g z.world k z.runs z.is_open e.word e.value e.appends e.full in
    let at = old_in_at e.appends.next p (sym (ap (λ (d : Recorded). Rattle.pm_world.specs.States.given (old_in d p)) is) ∙ q) in
    let can = subst (λ (d : Place). CanRecordAt (views k) d (slice_index e.appends.next.old (distance e.appends.next.place p))) (place_is e.appends.next.place p at.0) (e.appends.can.each (distance e.appends.next.place p) at.1) in
    let object = can_object o old views g z.world k z.runs z.is_open y p _ can in
    let t = can_seen (views k) p can.word.own can.word.plain in (
      still_object (views k) (after (views k) s) kept kept grows p 64 t object,
      ap is_guarded (offset_same (views k) (after (views k) s) kept grows p 64 t) ∙ can_guarded o old views g z.world k z.runs z.is_open y p can.word.own can.word.plain,
    ))
    (recorded_cases (views k).log.records (recorded (views k).fixed.shape (class (views k).claims) ((views k).log.slot ++ e.value ∷ [])) p (sym (ap (λ rs. is_recorded rs p) e.more) ∙ r)))
    (records_after o old mem views new g k s z) in
    record { objects = λ p b t r. (each p r).0; guarded = λ p r. (each p r).1 }
  where
    can_seen : (v : View) (p : Place) → MayChangeAt v p → is_data p ≡ true → sees_at v p 64 ≡ true
    can_seen v (InRun c w) own plain = (and_parts (has_found v (Small c (part (class v.claims c) w 64))) _ own.0).0
    can_seen v (InHuge c w) own plain = (and_parts (has_found v (Big (first v.fixed.shape v.claims c))) _ own.0).0
    can_seen v (Descr c) own plain = absurd own
    can_seen v RootWord own plain = absurd (both_ways false refl plain)

pub quiet_keeps_records : QuietStepsKeepRecords
quiet_keeps_records v changes calls occupancy zones seen y = record {
  objects = λ p b t r. still_object v (record v { changes = changes; calls = calls; occupancy = occupancy; zones = zones; seen = seen }) true true
      (still v true changes calls occupancy zones seen) p b t (y.objects p b t r);
  guarded = λ p r. still_guarded p (y.guarded p r);
}
  where
    still_guarded : (p : Place) → is_guarded (offset_in v p) ≡ true → is_guarded (offset_in (record v { changes = changes; calls = calls; occupancy = occupancy; zones = zones; seen = seen }) p) ≡ true
    still_guarded (InRun c w) e = e
    still_guarded (InHuge c w) e = e
    still_guarded (Descr c) e = e
    still_guarded RootWord e = e
