-- No two logs of a surviving image speak of one word, but for entries of different bits; so its logs have no fault.
use Rattle.std.proofs.Common.{◌≡◌, ◌≢◌, ℕ, zero, suc, ◌+◌, ◌-◌, ◌*◌, ◌^◌, ◌<◌, ◌≤◌, ◌⊎◌, inl, inr, ⊎_elim, min, max, nat_lt, Bool, true, false, cond, not, ◌&&◌, ◌||◌, eqb, ◌==◌, List, [], ◌∷◌, ◌++◌, length, length-append, map, slice_get, refl, sym, ap, ◌∙◌, subst, arith, bit_and, eq-eqb, ne_eqb, Option, None, Some}
use Rattle.std.specs.Int.{bit_at, w64}
use Rattle.std.specs.List.{filter, find, flat_map, list_any, range_with_len}
use Rattle.std.specs.Option.{option_map, option_to_list}
use Rattle.std.proofs.lemmas.Bool.{cases_lt, both_ways, eqb-true, le-ltb}
use Rattle.std.proofs.lemmas.List.Elements.{filter-append}
use Rattle.std.proofs.lemmas.Nat.Bits.{bit_at_and, bit_at_or, bit_at_not, bit_at-zero, bit_at-lt, bit_at_above, same_from_bits}
use Rattle.pm_layout.specs.declared.shape.Shape.{Shape}
use Rattle.pm_layout.specs.Areas.{word_of_generation}
use Rattle.pm_record.specs.Redo.{mask_of, redo_mask}
use Rattle.pm_record.specs.declared.redo.Op.{Op}
use Rattle.pm_record.specs.declared.redo.Op.TheVariants.{Set, Or, And}
use Rattle.pm_record.specs.declared.redo.Redo.{Redo}
use Rattle.pm_record.specs.declared.undo.Undo.{Undo}
use Rattle.pm_image.specs.Logs.{covers, old_word, records, entries, entries_for}
use Rattle.pm_image.specs.Steps.{valid_record}
use Rattle.pm_image.specs.LogFaults.{bits_of, lane_mask, lanes_clash, records_for, clashes, log_fault}
use Rattle.pm_image.proofs.Firsts.{none_passes}
use Rattle.pm_image.proofs.Gathering.{records_by_number}
use Rattle.pm_image.proofs.LogRows.{clash_row}
use Rattle.pm_image.proofs.Masks.{any_nowhere, mask_of_entries}
use Rattle.pm_view.specs.Places.{Place, InRun, InHuge, Descr, RootWord, twin, word_of, is_place, part}
use Rattle.pm_view.specs.Entries.{Entry, Redo as PlaceRedo, given_bit, first_of_two, latest, with_redo, redos}
use Rattle.pm_world.specs.States.{given}
use Rattle.pm_world.specs.Sights.{sight_of, is_recorded}
use Rattle.pm_world.specs.Lanes.{is_decided, is_in_making, owns, Flies}
use Rattle.pm_world.specs.Memory.{Memory, bit, cells_of}
use Rattle.pm_world.specs.World.{Opening, Views, Past, World, settled_words, ghost_of}
use Rattle.pm_world.specs.Crash.{Survives, NoneTorn}
use Rattle.pm_world.proofs.Basics.{given_cases, same_place_refl}
use Rattle.pm_world.proofs.Frame.{is_single, some_first, fresh_given, no_run, small_cases}
use Rattle.pm_world.proofs.SurvivingWords.{log_fits}
use Rattle.pm_world.proofs.RecoveredBits.{two_bits, entry_bit, record_bit, of_word, given_small}
use Rattle.pm_world.proofs.ImageLogs.{redo_at}
use Rattle.pm_world.proofs.LanesInImages.{Silent, Sealed, Current}
use Rattle.pm_world.proofs.EntriesAtPlaces.{AllStand, Stands, of_place}
use Rattle.pm_world.proofs.WordsApart.{no_area}
use Rattle.pm_world.proofs.RecordsAtPlaces.{Kind, speaks, speaks_of, old_given}
use Rattle.pm_world.proofs.ImageSays.{three_cases, bare_bit, sealed_stand}
use Rattle.pm_world.proofs.CrashLaw.{apart, away, alone}
use Rattle.pm_world.proofs.CrashDescriptors.{some_below}
use Rattle.pm_world.proofs.CrashFaults.{no_bad_lane, no_bad_entry, no_bad_slot}

-- ---- counts

counted : {X : Type 0} (p : X → Bool) (xs ys : List X) → length (filter p (xs ++ ys)) ≡ length (filter p xs) + length (filter p ys)
counted p xs ys = ap length (filter-append p xs ys) ∙ length-append (filter p xs) (filter p ys)

parts_zero : (p : Undo → Bool) (f : ℕ → List Undo) (from n : ℕ) → ((j : ℕ) → from ≤ j → j < from + n → length (filter p (f j)) ≡ 0) → length (filter p (flat_map f (range_with_len from n))) ≡ 0
parts_zero p f from zero h = refl
parts_zero p f from (suc n) h = let e = counted p (f from) (flat_map f (range_with_len (from + 1) n)) in let a = h from (omega arith) (omega arith) in let r = parts_zero p f (from + 1) n (λ j l m. h j (omega arith) (omega arith)) in omega (arith, e, a, r)

parts_few : (p : Undo → Bool) (f : ℕ → List Undo) (from n : ℕ) → ((j : ℕ) → from ≤ j → j < from + n → length (filter p (f j)) ≤ 1)
    → ((i j : ℕ) → from ≤ i → i < j → j < from + n → 1 ≤ length (filter p (f i)) → 1 ≤ length (filter p (f j)) → ⊥) → length (filter p (flat_map f (range_with_len from n))) ≤ 1
parts_few p f from zero few one = omega arith
parts_few p f from (suc n) few one = let e = counted p (f from) (flat_map f (range_with_len (from + 1) n)) in let a = few from (omega arith) (omega arith) in
    let r = parts_few p f (from + 1) n (λ j l m. few j (omega arith) (omega arith)) (λ i j l m k s t. one i j (omega arith) m (omega arith) s t) in
    ⊎_elim (λ (s : 0 < length (filter p (f from))). let z = parts_zero p f (from + 1) n (λ j l m. ⊎_elim (λ (t : 0 < length (filter p (f j))). absurd (one from j (omega arith) (omega arith) (omega arith) (omega (arith, s)) (omega (arith, t)))) (λ (t : length (filter p (f j)) ≤ 0). omega (arith, t)) (cases_lt 0 (length (filter p (f j))))) in omega (arith, e, a, z))
    (λ (s : length (filter p (f from)) ≤ 0). omega (arith, e, s, r)) (cases_lt 0 (length (filter p (f from))))

option_few : (p : Undo → Bool) (d : Option Undo) → length (filter p (option_to_list d)) ≤ 1
option_few p None = omega arith
option_few p (Some u) = go (p u)
  where
    go : (t : Bool) → length (cond t (u ∷ []) []) ≤ 1
    go true = omega arith
    go false = omega arith

option_some : (p : Undo → Bool) (d : Option Undo) → 1 ≤ length (filter p (option_to_list d)) → (u : Undo) × (d ≡ Some u) × (p u ≡ true)
option_some p None l = absurd (omega arith)
option_some p (Some u) l = go (p u) refl l
  where
    go : (t : Bool) → p u ≡ t → 1 ≤ length (cond t (u ∷ []) []) → (v : Undo) × (Some u ≡ Some v) × (p v ≡ true)
    go true e l = (u, refl, e)
    go false e l = absurd (omega arith)

none_found : (p : Undo → Bool) (xs : List Undo) → find p xs ≡ None → filter p xs ≡ []
none_found p [] e = refl
none_found p (u ∷ xs) e = go (p u) (none_found p xs) e
  where
    go : (t : Bool) → (find p xs ≡ None → filter p xs ≡ []) → cond t (Some u) (find p xs) ≡ None → cond t (u ∷ filter p xs) (filter p xs) ≡ []
    go true r q = absurd cc
    go false r q = r q

found_given : (us : List Undo) (w : ℕ) → 1 ≤ length (filter (λ u. covers u (8 * w)) us) → given (record_bit us w 0) ≡ true
found_given us w l = go (find (λ u. covers u (8 * w)) us) refl
  where
    go : (d : Option Undo) → find (λ u. covers u (8 * w)) us ≡ d → given (option_map (λ u. bit (old_word u (8 * w)) 0) d) ≡ true
    go None e = absurd (let z = ap length (none_found (λ u. covers u (8 * w)) us e) in omega (arith, l, z))
    go (Some u) e = refl

-- ---- masks

abbrev AllSmall : List Redo → Type 0
AllSmall [] = Unit {0}
AllSmall (e ∷ t) = (e.value < 2 ^ 64) × AllSmall t

all_small : (es : List Entry) → ((i : ℕ) (e : Entry) → slice_get es i ≡ Some e → e.value < 2 ^ 64) → AllSmall (map redo_at es)
all_small [] h = tt
all_small (e ∷ t) h = (h 0 e refl, all_small t (λ i d q. h (suc i) d q))

mask_given : (op : Op) (x i : ℕ) → i < 64 → x < 2 ^ 64 → bit_at (mask_of op x) i ≡ 1 → given (given_bit op x i) ≡ true
mask_given Set x i l s e = ap given (given_small Set x i l)
mask_given Or x i l s e = ap given (given_small Or x i l ∙ ap (λ t. cond t (Some true) None) (eq-eqb (bit_at x i) 1 e))
mask_given And x i l s e = let n : bit_at (mask_of And x) i ≡ 1 - bit_at x i = bit_at_not w64 x i s l in let b = bit_at-lt x i in ap given (given_small And x i l ∙ ap (λ t. cond t None (Some false)) (ne_eqb (bit_at x i) 1 (λ q. omega (arith, n, e, q))))

mask_below : (op : Op) (x : ℕ) → x < 2 ^ 64 → mask_of op x < 2 ^ 64
mask_below Set x s = omega arith
mask_below Or x s = s
mask_below And x s = omega arith

given_either : (a b : Option Bool) → (given a ≡ true) ⊎ (given b ≡ true) → given (first_of_two a b) ≡ true
given_either a b (inl e) = some_first a b e
given_either a b (inr e) = fresh_given a b e

max_one : (a b : ℕ) → a < 2 → b < 2 → max a b ≡ 1 → (a ≡ 1) ⊎ (b ≡ 1)
max_one a b x y e = ⊎_elim (λ (p : a ≡ 0). inr (omega arith)) (λ (p : a ≡ 1). inl p) (two_bits a x)

masks_give : (es : List Redo) (w i : ℕ) → i < 64 → AllSmall es → bit_at (bits_of (of_word w es)) i ≡ 1 → given (entry_bit es w i) ≡ true
masks_give [] w i l s e = absurd (let z = bit_at-zero i in omega (arith, z, e))
masks_give (d ∷ t) w i l s e = go (eqb d.place (8 * w)) (masks_give t w i l s.1) e
  where
    go : (b : Bool) → (bit_at (bits_of (of_word w t)) i ≡ 1 → given (entry_bit t w i) ≡ true) → bit_at (bits_of (cond b (d ∷ of_word w t) (of_word w t))) i ≡ 1 → given (first_of_two (entry_bit t w i) (cond b (given_bit d.op d.value i) None)) ≡ true
    go true r q = given_either (entry_bit t w i) (given_bit d.op d.value i) (⊎_elim (λ (z : bit_at (redo_mask d) i ≡ 1). inr (mask_given d.op d.value i l s.0 z)) (λ z. inl (r z))
        (max_one (bit_at (redo_mask d) i) (bit_at (bits_of (of_word w t)) i) (bit_at-lt (redo_mask d) i) (bit_at-lt (bits_of (of_word w t)) i) (sym (bit_at_or (redo_mask d) (bits_of (of_word w t)) i) ∙ q)))
    go false r q = given_either (entry_bit t w i) None (inl (r q))

masks_high : (es : List Redo) (w i : ℕ) → 64 ≤ i → AllSmall es → bit_at (bits_of (of_word w es)) i ≡ 0
masks_high [] w i l s = bit_at-zero i
masks_high (d ∷ t) w i l s = go (eqb d.place (8 * w)) (masks_high t w i l s.1)
  where
    go : (b : Bool) → bit_at (bits_of (of_word w t)) i ≡ 0 → bit_at (bits_of (cond b (d ∷ of_word w t) (of_word w t))) i ≡ 0
    go true r = let m = bit_at_above (redo_mask d) 64 i (mask_below d.op d.value s.0) l in let q = bit_at_or (redo_mask d) (bits_of (of_word w t)) i in omega (arith, m, r, q)
    go false r = r

-- ---- which place an entry of a word is of
module _ (sh : Shape) (lane : ℕ) (ink : lane < sh.lanes) (w i : ℕ) where
  abbrev OfPlace : List PlaceRedo → Type 0
  OfPlace rs = ((q : Place) × (is_place sh q ≡ true) × (word_of sh q ≡ w) × (given (latest rs q i) ≡ true)) ⊎ (w ≡ word_of_generation sh lane)

  entered_bit : (es : List Entry) → AllStand sh lane ink es → given (entry_bit (map redo_at es) w i) ≡ true → OfPlace (redos es)
  entered_bit [] s e = absurd (both_ways false refl e)
  entered_bit (e ∷ t) s g = ⊎_elim (λ (y : given (entry_bit (map redo_at t) w i) ≡ true). later e.place (entered_bit t s.1 y)) (λ (y : given (cond (eqb (8 * e.word) (8 * w)) (given_bit e.op e.value i) None) ≡ true). here e.place s.0 (eqb (8 * e.word) (8 * w)) refl y)
      (given_cases (entry_bit (map redo_at t) w i) (cond (eqb (8 * e.word) (8 * w)) (given_bit e.op e.value i) None) g)
    where
      later : (d : Option Place) → OfPlace (redos t) → OfPlace (with_redo d e (redos t))
      later None y = y
      later (Some r) (inl y) = inl (y.0, y.1, y.2, some_first (latest (redos t) y.0 i) (cond (Rattle.pm_view.specs.Places.same_place r y.0) (given_bit e.op e.value i) None) y.3)
      later (Some r) (inr y) = inr y

      here : (d : Option Place) → Stands sh lane ink d e → (b : Bool) → eqb (8 * e.word) (8 * w) ≡ b → given (cond b (given_bit e.op e.value i) None) ≡ true → OfPlace (with_redo d e (redos t))
      here d st false is y = absurd (both_ways false refl y)
      here None st true is y = let q = eqb-true (8 * e.word) (8 * w) is in inr (omega (arith, q, st))
      here (Some r) st true is y = let q = eqb-true (8 * e.word) (8 * w) is in inl (
        r,
        st.0,
        (let z = st.1 in omega (arith, q, z)),
        fresh_given (latest (redos t) r i) (cond (Rattle.pm_view.specs.Places.same_place r r) (given_bit e.op e.value i) None) (ap (λ b. given (cond b (given_bit e.op e.value i) None)) (same_place_refl r) ∙ y),
      )

module _ (o : Opening) (mem : Memory) (views : Views) (g : Past) (x : World o mem views g) (image : List ℕ) (sv : Survives o mem views image) (torn : NoneTorn o views image) where
  abbrev owned : ℕ → Place → ℕ → Bool
  owned k p b = owns g.geo (settled_words o g) (sight_of (views k)).hold p b

  -- no lane owns a word in both its uses, but where it makes a run
  one_use : (k : ℕ) (p : Place) (b : ℕ) → is_single p ≡ false → is_in_making (sight_of (views k)).hold p ≡ false → owned k p b ≡ true → owned k (twin p) b ≡ true → ⊥
  one_use k (InRun c u) b s m a t = let f = x.bits.each_lane k in let r = no_run o.shape (cells_of o.shape mem) (settled_words o g) (Flies (ghost_of g) k) (ghost_of g) x.bits.geo k (sight_of (views k)) f c t in
      ⊎_elim (λ q. both_ways (g.runs c) r q) (λ q. both_ways ((sight_of (views k)).hold.making c) m q) (small_cases o.shape (cells_of o.shape mem) (settled_words o g) (Flies (ghost_of g) k) (ghost_of g) x.bits.geo k (sight_of (views k)) f c (part (g.geo.class c) u b) a)
  one_use k (InHuge c u) b s m a t = let f = x.bits.each_lane k in let r = no_run o.shape (cells_of o.shape mem) (settled_words o g) (Flies (ghost_of g) k) (ghost_of g) x.bits.geo k (sight_of (views k)) f c a in
      ⊎_elim (λ q. both_ways (g.runs c) r q) (λ q. both_ways ((sight_of (views k)).hold.making c) m q) (small_cases o.shape (cells_of o.shape mem) (settled_words o g) (Flies (ghost_of g) k) (ghost_of g) x.bits.geo k (sight_of (views k)) f c (part (g.geo.class c) u b) t)
  one_use k (Descr c) b s m a t = both_ways true s refl
  one_use k RootWord b s m a t = both_ways true s refl

  -- two lanes own no word in common
  two_lanes : (j k : ℕ) → k < o.shape.lanes → j ≢ k → (p q : Place) (b : ℕ) → is_place o.shape p ≡ true → is_place o.shape q ≡ true → word_of o.shape q ≡ word_of o.shape p → owned j p b ≡ true → owned k q b ≡ true → ⊥
  two_lanes j k ink ne p q b ip iq w a t = ⊎_elim (λ (e : q ≡ p). both_ways (owned k p b) (apart o mem views g x image sv torn j k ne p b a) (subst (λ y. owned k y b ≡ true) e t))
      (λ (e : q ≡ twin p). both_ways (owned k (twin p) b) (away o mem views g x image sv torn j k ne p b a) (subst (λ y. owned k y b ≡ true) e t)) (of_place o.shape k ink p q ip iq w)

  module _ (w : ℕ) where
    -- a lane that has a record of the word
    recording : (k : ℕ) (ink : k < o.shape.lanes) → given (record_bit (records image k) w 0) ≡ true → Current o mem views g x image sv torn k ink × (is_decided (views k).log.phase ≡ false)
    recording k ink e = ⊎_elim (λ (z : Silent o mem views g x image sv torn k ink). absurd (both_ways false refl (sym (ap given (bare_bit o mem views g x image sv torn k ink z.bare w 0)) ∙ e)))
        (λ z. ⊎_elim (λ (z : Sealed o mem views g x image sv torn k ink). absurd (both_ways false refl (sym (ap given (bare_bit o mem views g x image sv torn k ink z.bare w 0)) ∙ e))) (λ z. z) z) (three_cases o mem views g x image sv torn k ink)

    -- one slot of a lane
    one_slot : (k : ℕ) (ink : k < o.shape.lanes) → Current o mem views g x image sv torn k ink × (is_decided (views k).log.phase ≡ false) → (i j : ℕ) (u v : Undo) → i < 64 → j < 64 → valid_record image k i ≡ Some u → valid_record image k j ≡ Some v → covers u (8 * w) ≡ true → covers v (8 * w) ≡ true → i ≡ j
    one_slot k ink c i j u v a b vu vv cu cv = let s = speaks o mem views g x image sv torn k ink c.0 c.1 i w u a vu cu in let t = speaks o mem views g x image sv torn k ink c.0 c.1 j w v b vv cv in
        ⊎_elim (λ (e : t.0.place ≡ s.0.place). go s.0.place s.1 (subst (Kind o mem views g x image sv torn k ink c.0 c.1 j) e t.1))
        (λ (e : t.0.place ≡ twin s.0.place). absurd (one_use k s.0.place 0 s.0.chunk s.0.unmade (s.0.own_ 0 (omega arith)) (subst (λ p. owned k p 0 ≡ true) e (t.0.own_ 0 (omega arith)))))
        (of_place o.shape k ink s.0.place t.0.place s.0.is_there t.0.is_there (t.0.of_word ∙ sym s.0.of_word))
      where
        go : (p : Place) → Kind o mem views g x image sv torn k ink c.0 c.1 i p → Kind o mem views g x image sv torn k ink c.0 c.1 j p → i ≡ j
        go p (inl y) (inl z) = (log_fits o mem views g x k ink).once i j y.0 z.0 p y.1 z.1 y.2 z.2 y.3 z.3
        go p (inl y) (inr z) = absurd (both_ways (is_recorded (views k).log.records p) z.1 (old_given p (views k).log.records i y.0 y.2 (ap given y.3)))
        go p (inr y) (inl z) = absurd (both_ways (is_recorded (views k).log.records p) y.1 (old_given p (views k).log.records j z.0 z.2 (ap given z.3)))
        go p (inr y) (inr z) = let a = y.0 in let b = z.0 in omega arith

    lane_few : (k : ℕ) → k < o.shape.lanes → length (filter (λ u. covers u (8 * w)) (records image k)) ≤ 1
    lane_few k ink = ⊎_elim (λ (s : 0 < length (filter (λ u. covers u (8 * w)) (records image k))). let c = recording k ink (found_given (records image k) w (omega (arith, s))) in
        let by : length (filter (λ u. covers u (8 * w)) (flat_map (λ j. option_to_list (valid_record image k j)) (range_with_len 0 64))) ≤ 1 = parts_few (λ u. covers u (8 * w)) (λ j. option_to_list (valid_record image k j)) 0 64
        (λ j l m. option_few (λ u. covers u (8 * w)) (valid_record image k j)) (λ i j l m n s t. let y = option_some (λ u. covers u (8 * w)) (valid_record image k i) s in let z = option_some (λ u. covers u (8 * w)) (valid_record image k j) t in
        let e = one_slot k ink c i j y.0 z.0 (omega arith) (omega arith) y.1 z.1 y.2 z.2 in omega (arith, e, m)) in
        subst (λ us. length (filter (λ u. covers u (8 * w)) us) ≤ 1) (sym (records_by_number image k)) by)
        (λ (s : length (filter (λ u. covers u (8 * w)) (records image k)) ≤ 0). omega (arith, s)) (cases_lt 0 (length (filter (λ u. covers u (8 * w)) (records image k))))

    -- one lane
    one_lane : (i j : ℕ) → i < j → j < o.shape.lanes → given (record_bit (records image i) w 0) ≡ true → given (record_bit (records image j) w 0) ≡ true → ⊥
    one_lane i j l m a b = let ini : i < o.shape.lanes = omega arith in let c = recording i ini a in let d = recording j m b in
        let s = (speaks_of o mem views g x image sv torn i ini c.0 c.1 w 0 a).2 in let t = (speaks_of o mem views g x image sv torn j m d.0 d.1 w 0 b).2 in
        two_lanes i j m (λ q. omega arith) s.place t.place 0 s.is_there t.is_there (t.of_word ∙ sym s.of_word) (s.own_ 0 (omega arith)) (t.own_ 0 (omega arith))

    records_few : length (records_for image o.shape.lanes (8 * w)) ≤ 1
    unfolding records_for
    records_few = parts_few (λ u. covers u (8 * w)) (records image) 0 o.shape.lanes (λ j l m. lane_few j (omega arith)) (λ i j l m n s t. one_lane i j m (omega arith) (found_given (records image i) w s) (found_given (records image j) w t))

    -- where a record is of the word no entry is
    no_mixed : (nat_lt 0 (length (records_for image o.shape.lanes (8 * w))) && nat_lt 0 (length (entries_for image o.shape.lanes (8 * w)))) ≡ false
    unfolding records_for entries_for
    no_mixed = ⊎_elim (λ (y : (k : ℕ) × (k < o.shape.lanes) × (given (record_bit (records image k) w 0) ≡ true)).
        ap (λ (es : List Redo). nat_lt 0 (length (filter (λ u. covers u (8 * w)) (flat_map (records image) (range_with_len 0 o.shape.lanes)))) && nat_lt 0 (length es)) (alone o mem views g x image sv torn y.0 y.1 w 0 y.2)
        ∙ no_second (nat_lt 0 (length (filter (λ u. covers u (8 * w)) (flat_map (records image) (range_with_len 0 o.shape.lanes))))))
        (λ (h : (k : ℕ) → k < o.shape.lanes → given (record_bit (records image k) w 0) ≡ false). let z : length (filter (λ u. covers u (8 * w)) (flat_map (records image) (range_with_len 0 o.shape.lanes))) ≡ 0 =
        parts_zero (λ u. covers u (8 * w)) (records image) 0 o.shape.lanes (λ j l m. ⊎_elim (λ (s : 0 < length (filter (λ u. covers u (8 * w)) (records image j))). absurd (both_ways (given (record_bit (records image j) w 0)) (h j (omega arith)) (found_given (records image j) w (omega (arith, s)))))
        (λ (s : length (filter (λ u. covers u (8 * w)) (records image j)) ≤ 0). omega (arith, s)) (cases_lt 0 (length (filter (λ u. covers u (8 * w)) (records image j))))) in
        ap (λ n. nat_lt 0 n && nat_lt 0 (length (of_word w (flat_map (entries image) (range_with_len 0 o.shape.lanes))))) z) (some_below (λ k. given (record_bit (records image k) w 0)) o.shape.lanes)
      where
        no_second : (t : Bool) → (t && false) ≡ false
        no_second true = refl
        no_second false = refl

    -- which bits of the word a lane's entries change
    lane_small : (k : ℕ) → k < o.shape.lanes → AllSmall (entries image k)
    lane_small k ink = ⊎_elim (λ (z : Silent o mem views g x image sv torn k ink). subst AllSmall (sym z.none_sealed) tt) (λ z. ⊎_elim (λ (z : Sealed o mem views g x image sv torn k ink).
        subst AllSmall (sym z.all_sealed) (all_small (views k).log.entries (λ i e at. ((log_fits o mem views g x k ink).pairs i e at).2))) (λ z. subst AllSmall (sym z.0.none_sealed) tt) z) (three_cases o mem views g x image sv torn k ink)

    lane_bit : (k : ℕ) → k < o.shape.lanes → (i : ℕ) → bit_at (bits_of (of_word w (entries image k))) i ≡ 1 → ((q : Place) × (is_place o.shape q ≡ true) × (word_of o.shape q ≡ w) × (owned k q i ≡ true)) ⊎ (w ≡ word_of_generation o.shape k)
    lane_bit k ink i e = ⊎_elim (λ (l : i < 64). let gv = masks_give (entries image k) w i l (lane_small k ink) e in ⊎_elim (λ (z : Silent o mem views g x image sv torn k ink). absurd (both_ways false refl (sym (ap (λ es. given (entry_bit es w i)) z.none_sealed) ∙ gv)))
        (λ z. ⊎_elim (λ (z : Sealed o mem views g x image sv torn k ink). ⊎_elim (λ y. inl (y.0, y.1, y.2, (x.bits.each_lane k).reach y.0 i (some_first (latest (sight_of (views k)).call.entries y.0 i) ((sight_of (views k)).call.fresh y.0 i) y.3))) (λ y. inr y)
        (entered_bit o.shape k ink w i (views k).log.entries (sealed_stand o mem views g x image sv torn k ink z) (sym (ap (λ es. given (entry_bit es w i)) z.all_sealed) ∙ gv)))
        (λ z. absurd (both_ways false refl (sym (ap (λ es. given (entry_bit es w i)) z.0.none_sealed) ∙ gv))) z) (three_cases o mem views g x image sv torn k ink))
        (λ (l : 64 ≤ i). absurd (let z = masks_high (entries image k) w i l (lane_small k ink) in omega (arith, z, e))) (cases_lt i 64)

    apart_bit : (j k : ℕ) → j < k → k < o.shape.lanes → (i : ℕ) → bit_at (bits_of (of_word w (entries image j))) i ≡ 1 → bit_at (bits_of (of_word w (entries image k))) i ≡ 1 → ⊥
    apart_bit j k l ink i a b = let inj : j < o.shape.lanes = omega arith in go (lane_bit j inj i a) (lane_bit k ink i b)
      where
        go : ((q : Place) × (is_place o.shape q ≡ true) × (word_of o.shape q ≡ w) × (owned j q i ≡ true)) ⊎ (w ≡ word_of_generation o.shape j) → ((q : Place) × (is_place o.shape q ≡ true) × (word_of o.shape q ≡ w) × (owned k q i ≡ true)) ⊎ (w ≡ word_of_generation o.shape k) → ⊥
        go (inl p) (inl q) = two_lanes j k ink (λ e. omega arith) p.0 q.0 i p.1 q.1 (q.2 ∙ sym p.2) p.3 q.3
        go (inl p) (inr q) = no_area o.shape p.0 k 0 ink (omega arith) p.1 (p.2 ∙ (q ∙ (let z : word_of_generation o.shape k ≡ word_of_generation o.shape k + 0 = omega arith in z)))
        go (inr p) (inl q) = no_area o.shape q.0 j 0 (omega arith) (omega arith) q.1 (q.2 ∙ (p ∙ (let z : word_of_generation o.shape j ≡ word_of_generation o.shape j + 0 = omega arith in z)))
        go (inr p) (inr q) = omega arith

    masks_apart : (j k : ℕ) → j < k → k < o.shape.lanes → bit_and (bits_of (of_word w (entries image j))) (bits_of (of_word w (entries image k))) ≡ 0
    masks_apart j k l ink = let a = bits_of (of_word w (entries image j)) in let b = bits_of (of_word w (entries image k)) in same_from_bits (bit_and a b) 0 (λ i. bit_at_and a b i ∙ (⊎_elim (λ (z : bit_at a i ≡ 0). no_min (bit_at a i) (bit_at b i) (inl z))
        (λ (z : bit_at a i ≡ 1). ⊎_elim (λ (y : bit_at b i ≡ 0). no_min (bit_at a i) (bit_at b i) (inr y)) (λ (y : bit_at b i ≡ 1). absurd (apart_bit j k l ink i z y)) (two_bits (bit_at b i) (bit_at-lt b i))) (two_bits (bit_at a i) (bit_at-lt a i)) ∙ sym (bit_at-zero i)))
      where
        no_min : (m n : ℕ) → (m ≡ 0) ⊎ (n ≡ 0) → min m n ≡ 0
        no_min m n (inl e) = omega arith
        no_min m n (inr e) = omega arith

    lanes_apart : lanes_clash image o.shape.lanes (8 * w) ≡ false
    unfolding lanes_clash
    lanes_apart = any_nowhere (λ k. list_any (λ j. not (bit_and (lane_mask image (8 * w) j) (lane_mask image (8 * w) k) == 0)) (range_with_len 0 k)) o.shape.lanes (λ k ink. any_nowhere (λ j. not (bit_and (lane_mask image (8 * w) j) (lane_mask image (8 * w) k) == 0)) k
        (λ j l. ap not (eq-eqb (bit_and (lane_mask image (8 * w) j) (lane_mask image (8 * w) k)) 0 (ap (λ m. bit_and m (lane_mask image (8 * w) k)) (sym (mask_of_entries image (8 * w) j (entries image j) refl))
        ∙ (ap (bit_and (bits_of (of_word w (entries image j)))) (sym (mask_of_entries image (8 * w) k (entries image k) refl)) ∙ masks_apart j k l ink)))))

    pub no_clash : clashes image o.shape.lanes (8 * w) ≡ false
    unfolding clashes
    no_clash = ap (λ t. t || (nat_lt 0 (length (records_for image o.shape.lanes (8 * w))) && nat_lt 0 (length (entries_for image o.shape.lanes (8 * w)))) || lanes_clash image o.shape.lanes (8 * w)) (le-ltb 1 (length (records_for image o.shape.lanes (8 * w))) records_few)
        ∙ (ap (λ t. false || t || lanes_clash image o.shape.lanes (8 * w)) no_mixed ∙ lanes_apart)

  -- THE LOGS HAVE NO FAULT
  pub no_log_fault : log_fault image o.shape.lanes o.shape.zones ≡ None
  no_log_fault = sym (clash_row image o.shape.lanes o.shape.zones None (no_bad_lane o mem views g x image sv torn) (no_bad_entry o mem views g x image sv torn) (no_bad_slot o mem views g x image sv torn)
      (none_passes (λ i. clashes image o.shape.lanes (8 * i)) (length image) (λ i l. no_clash i)))
