-- BYTES THAT ARE READ: those of the words that were looked at, one after another.
use Rattle.std.specs.Prelude.{unwrap_or}
use Rattle.std.proofs.Common.{◌≡◌, ℕ, ◌+◌, ◌-◌, ◌*◌, ◌/◌, ◌%◌, ◌^◌, ◌<◌, ◌≤◌, ⊎_elim, false, List, [], ◌∷◌, length, map, take, drop, get_or, slice_index, sym, ap, ◌∙◌, subst, arith, Contains, Some, Ok}
use Rattle.std.proofs.lemmas.Bool.{cases_lt}
use Rattle.std.proofs.lemmas.List.{ext_get_or, get_or-drop, get_or-take, length-drop, length-map, length-take-le}
use Rattle.std.proofs.lemmas.List.FromFn.{length-range_with_len}
use Rattle.pm_memory.specs.Runs.{Made}
use Rattle.pm_model.specs.Transaction.{covered_words}
use Rattle.pm_objects.specs.declared.calls.Operation.TheVariants.{Read}
use Rattle.pm_objects.specs.declared.history.Value.TheVariants.{Bytes}
use Rattle.pm_objects.specs.declared.ids.Oid.{Oid}
use Rattle.pm_view.specs.Steps.{Step}
use Rattle.pm_view.specs.Steps.Step.{Load, Tell}
use Rattle.pm_view.specs.View.{View}
use Rattle.pm_view.specs.Views.{after, after_all, value_in}
use Rattle.pm_words.specs.Words.{bytes_of}
use Rattle.pm_words.proofs.Reading.{length-bytes_of}
use Rattle.pm_world.specs.InWorld.{InWorld}
use Rattle.pm_world.specs.LaneFields.{Standing, Works, moved}
use Rattle.pm_world.specs.Lawful.{Allowed}
use Rattle.pm_world.specs.declared.lane.Lane.{Lane}
use Rattle.pm_crash.specs.Looked.{bytes_seen}
use Rattle.pm_crash.proofs.Bytewise.{byte_of_words}
use Rattle.pm_crash.proofs.Covered.{byte_is_covered, count_of, covers_some}
use Rattle.pm_plan.specs.Plans.{known_word, one}
use Rattle.pm_call.specs.At.{At}
use Rattle.pm_call.specs.Did.{Acted, After, IsAtSo}
use Rattle.pm_call.specs.Plans.{gets}
use Rattle.pm_call.specs.Ranges.{HasRange, HasSeen}
use Rattle.pm_call.specs.Reading.{HasRead}
use Rattle.pm_call.proofs.AddedLanes.{at_once}
use Rattle.pm_call.proofs.Calls.{after_then}
use Rattle.pm_call.proofs.LockedRanges.{header_at, known_word_of}
use Rattle.pm_call.proofs.RangeLooks.{HasSeenFirst, KnowsFirst, after_look, all_known, look, one_seen, then_stays, then_value}
use Rattle.pm_call.proofs.RangeReads.{leads_read}

-- ---- bytes that are copied from a part of one list into a part of another

pub byte_copied : (whole part bytes : List ℕ) (a n from k : ℕ) → a ≤ k → k < a + n → take n (drop a whole) ≡ part → part ≡ take n (drop from bytes) → get_or whole k 0 ≡ get_or bytes (from + (k - a)) 0
byte_copied whole part bytes a n from k above below is copy =
    let at : k ≡ a + (k - a) = omega (arith, above) in
    let within : k - a < n = omega (arith, above, below) in
    ap (λ i. get_or whole i 0) at
    ∙ (sym (get_or-drop a whole (k - a) 0)
    ∙ (sym (get_or-take n (drop a whole) (k - a) 0 within)
    ∙ (ap (λ l. get_or l (k - a) 0) (is ∙ copy) ∙ (get_or-take n (drop from bytes) (k - a) 0 within ∙ get_or-drop from bytes (k - a) 0))))

-- ---- byte k of a read is that of its word, as the lane knows it

pub record HasByte (v : View) (place : ℕ) (bytes : List ℕ) (k : ℕ) : Type 0 where
  pub value : ℕ
  pub known : value_in v ((place + k) / 8) ≡ Some value
  pub is : slice_index bytes k ≡ slice_index (bytes_of (value ∷ [])) ((place + k) % 8)

-- those of the first so many words
abbrev pub HasFirstBytes : View → ℕ → ℕ → List ℕ → ℕ → Type 0
HasFirstBytes v place len bytes n = (k : ℕ) → k < len → place + k < 8 * (place / 8 + n) → HasByte v place bytes k

-- the words of a range have its bytes
enough : (place len : ℕ) → len ≤ 8 * length (covered_words place len) - place % 8
enough place len = ⊎_elim
    (λ (some : 0 < len). let n = ap length (covers_some place len some) ∙ length-range_with_len (place / 8) (count_of place len) in omega (arith, some, n))
    (λ (no : len ≤ 0). omega (arith, no)) (cases_lt 0 len)

pub reaches : (place len k : ℕ) → k < len → place + k < 8 * (place / 8 + length (covered_words place len))
reaches place len k low = let e = enough place len in omega (arith, e, low)

-- ---- ALL OF THEM are the bytes of the range
module _ (s : Standing) (stands : At s) (id : Oid) (off len : ℕ) (range : HasRange s id off len false) where
  abbrev place : ℕ
  place = id.off + off

  abbrev words : List ℕ
  words = map (known_word s.view) (covered_words (id.off + off) len)

  same_start : off % 8 ≡ (id.off + off) % 8
  same_start = let h = header_at s stands id off len false range in omega (arith, h)

  many : length (bytes_of words) ≡ 8 * length (covered_words (id.off + off) len)
  many = length-bytes_of words ∙ ap (λ n. 8 * n) (length-map (covered_words (id.off + off) len) (known_word s.view))

  as_many : length (bytes_seen (known_word s.view) id.off off len) ≡ len
  as_many = length-take-le len (drop (off % 8) (bytes_of words))
      (let d = length-drop (off % 8) (bytes_of words) in let m = many in let e = enough (id.off + off) len in let a = same_start in omega (arith, d, m, e, a))

  seen_byte : (k : ℕ) → k < len → get_or (bytes_seen (known_word s.view) id.off off len) k 0 ≡ get_or (bytes_of (known_word s.view ((id.off + off + k) / 8) ∷ [])) ((id.off + off + k) % 8) 0
  seen_byte k low =
      let some : 0 < len = omega (arith, low) in
      let a = same_start in
      get_or-take len (drop (off % 8) (bytes_of words)) k 0 low
      ∙ (get_or-drop (off % 8) (bytes_of words) k 0
      ∙ (ap (λ ws. get_or (bytes_of (map (known_word s.view) ws)) (off % 8 + k) 0) (covers_some (id.off + off) len some)
      ∙ byte_of_words (known_word s.view) ((id.off + off) / 8) (count_of (id.off + off) len) (off % 8 + k) (id.off + off + k) (omega (arith, a, low)) (omega (arith, a))))

  known_byte : (bytes : List ℕ) (k : ℕ) → k < len → HasByte s.view (id.off + off) bytes k → get_or bytes k 0 ≡ get_or (bytes_seen (known_word s.view) id.off off len) k 0
  known_byte bytes k low h =
      let w : ℕ = (id.off + off + k) / 8 in
      let there : Contains (covered_words (id.off + off) len) w = byte_is_covered (id.off + off) len w (omega (arith, low)) (omega (arith, low)) (omega arith) in
      let value : known_word s.view w ≡ h.value = ap (λ o. unwrap_or o 0) (known_word_of s stands id off len false range w there ∙ h.known) in
      h.is ∙ (ap (λ x. get_or (bytes_of (x ∷ [])) ((id.off + off + k) % 8) 0) (sym value) ∙ sym (seen_byte k low))

  pub all_bytes : (bytes : List ℕ) → length bytes ≡ len → HasFirstBytes s.view (id.off + off) len bytes (length (covered_words (id.off + off) len)) → bytes ≡ bytes_seen (known_word s.view) id.off off len
  all_bytes bytes long has = ext_get_or 0 bytes (bytes_seen (known_word s.view) id.off off len) (long ∙ sym as_many)
      (λ k low. let below : k < len = subst (λ n. k < n) long low in known_byte bytes k below (has k below (reaches (id.off + off) len k below)))

module _ {M : Type 0} (at : M → View → Type 0) where
  -- the first so many words were looked at, and their bytes copied
  pub record HasReadFirst (lane : Lane M) (id : Oid) (off len : ℕ) (n : ℕ) (bytes : List ℕ) (t : Standing) : Type 0 where
    pub seen : HasSeenFirst at lane id off len false n t
    pub copied : HasFirstBytes t.view (id.off + off) len bytes n

  pub none_read : (lane : Lane M) (id : Oid) (off len : ℕ) (bytes : List ℕ) (s : Standing) → Works at lane s → At s → HasRange s id off len false → After s (HasReadFirst lane id off len 0 bytes)
  none_read lane id off len bytes s works stands range = at_once s (HasReadFirst lane id off len 0 bytes)
      (record { seen = record { range = range; first = λ k low. absurd (omega (arith, low)); works = works; stands = stands }; copied = λ k low below. absurd (omega (arith, below)) })

  -- one more
  pub read_more : (lane new : Lane M) (id : Oid) (off len : ℕ) (n x : ℕ) (bytes bytes' : List ℕ) (s : Standing) → (a : After s (HasReadFirst lane id off len n bytes)) → Contains (covered_words (id.off + off) len) ((id.off + off) / 8 + n) → x < 2 ^ 64
      → InWorld a.view ((id.off + off) / 8 + n) x → Works at new (moved s (after a.view (Load ((id.off + off) / 8 + n) x)))
      → ((k : ℕ) → k < len → (id.off + off + k) / 8 ≡ (id.off + off) / 8 + n → slice_index bytes' k ≡ slice_index (bytes_of (x ∷ [])) ((id.off + off + k) % 8))
      → ((k : ℕ) → id.off + off + k < 8 * ((id.off + off) / 8 + n) → slice_index bytes' k ≡ slice_index bytes k)
      → After s (HasReadFirst new id off len (n + 1) bytes')
  read_more lane new id off len n x bytes bytes' s a c small world works inside before =
      let t : Standing = moved s a.view in
      let w : ℕ = (id.off + off) / 8 + n in
      let h = a.holds.seen in
      let next : View = after a.view (Load w x) in
      after_then s (HasReadFirst new id off len (n + 1) bytes') (record {
        looks = a.looks;
        view = a.view;
        looked = a.looked;
        holds = after_look t next (HasReadFirst new id off len (n + 1) bytes') (look t h.stands id off len false h.range w c x world) (record {
          seen = one_seen at lane new id off len false n x t h c small world works;
          copied = λ k low below. ⊎_elim
              (λ (front : id.off + off + k < 8 * w). let b = a.holds.copied k low front in
              record { value = b.value; known = then_stays t h.stands id off len false h.range w c x world ((id.off + off + k) / 8) b.value b.known; is = before k front ∙ b.is })
              (λ (back : 8 * w ≤ id.off + off + k). let same : (id.off + off + k) / 8 ≡ w = omega (arith, below, back) in
              record { value = x; known = ap (value_in next) same ∙ then_value t h.stands id off len false h.range w c x world; is = inside k low same })
              (cases_lt (id.off + off + k) (8 * w));
        });
      })

  -- all of them
  pub all_read : (lane : Lane M) (id : Oid) (off len : ℕ) (n : ℕ) (bytes : List ℕ) (s : Standing) → length bytes ≡ len → n ≡ length (covered_words (id.off + off) len) → After s (HasReadFirst lane id off len n bytes)
      → After s (λ t. HasSeen t id off len false × (bytes ≡ bytes_seen (known_word t.view) id.off off len) × Works at lane t × At t)
  all_read lane id off len n bytes s long e a = let h = a.holds.seen in record {
    looks = a.looks;
    view = a.view;
    looked = a.looked;
    holds = (
      record { range = h.range; words = all_known a.view (id.off + off) len (subst (KnowsFirst a.view ((id.off + off) / 8)) e h.first) },
      all_bytes (moved s a.view) h.stands id off len h.range bytes long (subst (HasFirstBytes a.view (id.off + off) len bytes) e a.holds.copied),
      h.works,
      h.stands,
    );
  }

-- ---- THE READ IS TOLD with the bytes that were copied
module _ {M : Type 0} (at : M → View → Type 0) (old mid : Lane M) (id : Oid) (off len : ℕ) (bytes : List ℕ) where
  -- what reading the words leaves
  abbrev pub WordsRead : Type 0
  WordsRead = (s : Standing) → Works at old s → At s → HasRange s id off len false → After s (λ t. HasSeen t id off len false × (bytes ≡ bytes_seen (known_word t.view) id.off off len) × Works at mid t × At t)

  pub read_tell : IsAtSo at old (λ s. HasRange s id off len false) → WordsRead → (v : View) × at mid.memory v × Allowed v (Tell (Read id off len) (Some (Bytes bytes)))
  read_tell is read = let t = read is.standing is.works is.stands is.holds in (t.view, t.holds.2.memory, t.holds.3.working.is_open)

  pub read_acted : (may : View → Step → Type 0) → ((v : View) (s : Step) → Allowed v s → may v s) → (new : M) → WordsRead → Made may (at mid.memory) (at new) (Tell (Read id off len) (Some (Bytes bytes)))
      → Acted at old (record mid { memory = new }) (λ s. HasRange s id off len false) (Read id off len) (λ v. gets id off len) (HasRead id off len bytes) (Ok tt)
  unfolding Acted one after_all
  read_acted may grants new read told s works stands range =
      let t = read s works stands range in
      let l = leads_read (moved s t.view) id off len t.holds.3 t.holds.0.range t.holds.0.words in
      let told_bytes = (told t.view t.holds.2.memory (grants t.view (Tell (Read id off len) (Some (Bytes bytes))) t.holds.3.working.is_open)).0 in
      record {
        looks = t.looks;
        view = t.view;
        looked = t.looked;
        holds = (
          record {
            unrefused = l.unrefused;
            ready = l.ready;
            works = record { memory = subst (λ b. at new (after t.view (Tell (Read id off len) (Some (Bytes b))))) t.holds.1 told_bytes; fields = t.holds.2.fields };
            stands = l.stands;
          },
          t.holds.1,
        );
      }
