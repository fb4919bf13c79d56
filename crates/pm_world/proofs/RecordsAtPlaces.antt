-- The valid records of a lane whose call is not decided: each is of words that the lane owns, and has what is settled where that is alive; and each drained
-- record of the log is valid.
use Rattle.std.proofs.Common.{◌%◌, ◌≡◌, ℕ, zero, suc, ◌+◌, ◌-◌, ◌*◌, ◌/◌, ◌<◌, ◌≤◌, ◌⊎◌, inl, inr, ⊎_elim, nat_le, nat_lt, Bool, true, false, cond, not, ◌&&◌, ◌||◌, ◌==◌, List, [], ◌∷◌, length, slice_get, slice_index, refl, sym, ap, ◌∙◌, subst, arith, eq-eqb, ne_eqb, Option, None, Some}
use Rattle.std.specs.Int.{bit_at}
use Rattle.std.specs.List.{find}
use Rattle.std.specs.Option.{option_map}
use Rattle.std.proofs.lemmas.Bool.{both_ways, eqb-true, and_parts, and_from, or_cases, cond-true, cond-false, false_from_ne_true, le-leb, lt-ltb, leb-true}
use Rattle.std.proofs.lemmas.Option.{none-some, same_Some}
use Rattle.pm_layout.specs.declared.shape.Shape.{Shape}
use Rattle.pm_layout.specs.Chunks.{chunks_of}
use Rattle.pm_record.specs.declared.undo.Undo.{Undo}
use Rattle.pm_image.specs.Logs.{covers, old_word, records}
use Rattle.pm_image.specs.Steps.{valid_record}
use Rattle.pm_view.specs.Changes.{Undrained}
use Rattle.pm_view.specs.Places.{Place, InRun, InHuge, Descr, RootWord, Small, Big, block_of, is_data, twin, word_of, is_place, place_after, is_after, distance, in_span, part}
use Rattle.pm_view.specs.Entries.{first_of_two}
use Rattle.pm_view.specs.Log.{Phase, Idle, Open, Drawn, Sealing, Applying, Clearing, Retiring, Voiding, Recorded, old_in, old_of}
use Rattle.pm_view.specs.Claims.{class, first, pictured, is_held}
use Rattle.pm_view.specs.View.{View, runs_one}
use Rattle.pm_world.specs.States.{Diff, given, live}
use Rattle.pm_world.specs.Sights.{is_pictured, is_recorded, is_logged, is_logged_from, is_slot_drained, sight_of}
use Rattle.pm_world.specs.Lanes.{is_decided, is_in_making, left, own, owns, SightFits, Flies}
use Rattle.pm_world.specs.Logs.{IsRecordAt, AreInRow}
use Rattle.pm_world.proofs.Recording.{old_in_at, place_is}
use Rattle.pm_world.specs.Lawful.{MayChangeAt}
use Rattle.pm_world.specs.Memory.{Memory, bit, cells_of}
use Rattle.pm_world.specs.World.{Opening, Views, Past, RecordedFits, World, settled_words, ghost_of}
use Rattle.pm_world.specs.Crash.{Survives, NoneTorn, IsNextRecord}
use Rattle.pm_world.proofs.Basics.{some_cond}
use Rattle.pm_world.proofs.BlocksKnown.{first_so}
use Rattle.pm_world.proofs.Frame.{is_single, here_own, own_has, maker_owns, maker_no_run}
use Rattle.pm_world.proofs.Crashes.{Restores}
use Rattle.pm_world.proofs.RecoveredBits.{record_bit, entry_bit, log_bit}
use Rattle.pm_world.proofs.SurvivingWords.{log_fits}
use Rattle.pm_world.proofs.ImageLogs.{undo_from, covered, covers_from, old_from, found_slot, no_slot}
use Rattle.pm_world.proofs.LanesInImages.{Current, held_now, valid_now}
use Rattle.pm_world.proofs.EntriesAtPlaces.{of_place}

-- ---- the places of a record

data_chunk : (p : Place) → is_data p ≡ true → is_single p ≡ false
data_chunk (InRun c w) e = refl
data_chunk (InHuge c w) e = refl
data_chunk (Descr c) e = absurd (both_ways false refl e)
data_chunk RootWord e = absurd (both_ways false refl e)

after_chunk : (p : Place) (n : ℕ) → is_data (place_after p n) ≡ true → is_single p ≡ false
after_chunk (InRun c w) n e = refl
after_chunk (InHuge c w) n e = refl
after_chunk (Descr c) n e = absurd (both_ways false refl e)
after_chunk RootWord n e = absurd (both_ways false refl e)

after_data : (p : Place) (n : ℕ) → is_data p ≡ true → is_data (place_after p n) ≡ true
after_data (InRun c w) n e = let l = leb-true 8 w e in le-leb 8 (w + n) (omega arith)
after_data (InHuge c w) n e = refl
after_data (Descr c) n e = absurd (both_ways false refl e)
after_data RootWord n e = absurd (both_ways false refl e)

after_old : (p : Place) (old : List ℕ) (n : ℕ) → is_single p ≡ false → n < length old → old_in (record { place = p; old = old }) (place_after p n) ≡ Some (slice_index old n)
after_old (InRun c w) old n e l = let d : w + n - w ≡ n = omega arith in
    cond-true (((c == c) && nat_le w (w + n)) && nat_lt (w + n - w) (length old)) _ _ (and_from ((c == c) && nat_le w (w + n)) (nat_lt (w + n - w) (length old)) (and_from (c == c) (nat_le w (w + n)) (eq-eqb c c refl) (le-leb w (w + n) (omega arith))) (lt-ltb (w + n - w) (length old) (omega arith)))
    ∙ ap (λ z. Some (slice_index old z)) d
after_old (InHuge c w) old n e l = let s : ℕ = 512 * (c + (w + n) / 512) + (w + n) % 512 in let d : s - (512 * c + w) ≡ n = omega arith in
    cond-true ((nat_lt ((w + n) % 512) 512 && nat_le (512 * c + w) s) && nat_lt (s - (512 * c + w)) (length old)) _ _
    (and_from (nat_lt ((w + n) % 512) 512 && nat_le (512 * c + w) s) (nat_lt (s - (512 * c + w)) (length old)) (and_from (nat_lt ((w + n) % 512) 512) (nat_le (512 * c + w) s) (lt-ltb ((w + n) % 512) 512 (omega arith)) (le-leb (512 * c + w) s (omega arith))) (lt-ltb (s - (512 * c + w)) (length old) (omega arith)))
    ∙ ap (λ z. Some (slice_index old z)) d
after_old (Descr c) old n e l = absurd (both_ways true e refl)
after_old RootWord old n e l = absurd (both_ways true e refl)

of_cond : {A : Type 0} → (t : Bool) (x : A) → given (cond t (Some x) None) ≡ true → t ≡ true
of_cond true x e = refl
of_cond false x e = absurd (both_ways false refl e)

-- what has an old value lies among the record's words
old_range : (sh : Shape) (r : Recorded) (p : Place) → AreInRow sh r → given (old_in r p) ≡ true → (word_of sh r.place ≤ word_of sh p) × (word_of sh p < word_of sh r.place + length r.old)
old_range sh r p row e = let t = old_in_at r p e in let is : word_of sh p ≡ word_of sh r.place + distance r.place p = sym (ap (word_of sh) (place_is r.place p t.0)) ∙ (row (distance r.place p) t.1).1 in let l = t.1 in (omega arith, omega arith)

-- ---- among the log's records

old_first : (a b : Option ℕ) (x : ℕ) → a ≡ Some x → first_of_two a b ≡ Some x
old_first a b x e = ap (λ z. first_of_two z b) e

-- where no word has two records, a record's old value is the log's
pub old_found : (p : Place) (rs : List Recorded) → ((j m : ℕ) (r q : Recorded) (x y : ℕ) → slice_get rs j ≡ Some r → slice_get rs m ≡ Some q → old_in r p ≡ Some x → old_in q p ≡ Some y → j ≡ m)
    → (j : ℕ) (r : Recorded) (x : ℕ) → slice_get rs j ≡ Some r → old_in r p ≡ Some x → old_of rs p ≡ Some x
old_found p [] once j r x at is = absurd (none-some r at)
old_found p (r₀ ∷ t) once zero r x at is = old_first (old_in r₀ p) (old_of t p) x (ap (λ z. old_in z p) (same_Some r₀ r at) ∙ is)
old_found p (r₀ ∷ t) once (suc j) r x at is = go (old_in r₀ p) refl (old_found p t (λ i m a q y z u v c d. let e = once (suc i) (suc m) a q y z u v c d in omega arith) j r x at is)
  where
    go : (d : Option ℕ) → old_in r₀ p ≡ d → old_of t p ≡ Some x → first_of_two d (old_of t p) ≡ Some x
    go None e later = later
    go (Some y) e later = absurd (let z = once 0 (suc j) r₀ r y x refl at e is in omega arith)

-- a drained record that has the place
pub record Logged (sh : Shape) (lane : ℕ) (changes : List Undrained) (rs : List Recorded) (p : Place) (from : ℕ) : Type 0 where
  pub slot : ℕ
  pub held : Recorded
  pub at : slice_get rs slot ≡ Some held
  pub has_ : given (old_in held p) ≡ true
  pub drained : is_slot_drained sh lane changes (from + slot) ≡ true

pub logged_record : (sh : Shape) (lane : ℕ) (changes : List Undrained) (rs : List Recorded) (p : Place) (from : ℕ) → is_logged_from sh lane changes from rs p ≡ true → Logged sh lane changes rs p from
logged_record sh lane changes [] p from e = absurd (both_ways false refl e)
logged_record sh lane changes (r ∷ t) p from e = go (logged_record sh lane changes t p (suc from)) (or_cases (given (old_in r p) && is_slot_drained sh lane changes from) (is_logged_from sh lane changes (suc from) t p) e)
  where
    go : (is_logged_from sh lane changes (suc from) t p ≡ true → Logged sh lane changes t p (suc from)) → ((given (old_in r p) && is_slot_drained sh lane changes from) ≡ true) ⊎ (is_logged_from sh lane changes (suc from) t p ≡ true) → Logged sh lane changes (r ∷ t) p from
    go h (inl here) = let z = and_parts (given (old_in r p)) (is_slot_drained sh lane changes from) here in let n : from + 0 ≡ from = omega arith in record { slot = 0; held = r; at = refl; has_ = z.0; drained = ap (is_slot_drained sh lane changes) n ∙ z.1 }
    go h (inr later) = let y = h later in let n : from + suc y.slot ≡ suc from + y.slot = omega arith in record { slot = suc y.slot; held = y.held; at = y.at; has_ = y.has_; drained = ap (is_slot_drained sh lane changes) n ∙ y.drained }

given_either : (a b : Option ℕ) → (given a ≡ true) ⊎ (given b ≡ true) → given (first_of_two a b) ≡ true
given_either None b (inl e) = absurd (both_ways false refl e)
given_either None b (inr e) = e
given_either (Some x) b e = refl

pub old_given : (p : Place) (rs : List Recorded) (j : ℕ) (r : Recorded) → slice_get rs j ≡ Some r → given (old_in r p) ≡ true → given (old_of rs p) ≡ true
old_given p [] j r at is = absurd (none-some r at)
old_given p (r₀ ∷ t) zero r at is = given_either (old_in r₀ p) (old_of t p) (inl (ap (λ z. given (old_in z p)) (same_Some r₀ r at) ∙ is))
old_given p (r₀ ∷ t) (suc j) r at is = given_either (old_in r₀ p) (old_of t p) (inr (old_given p t j r at is))

unrecorded : (sh : Shape) (lane : ℕ) (changes : List Undrained) (rs : List Recorded) (p : Place) → is_recorded rs p ≡ false → is_logged sh lane changes rs p ≡ false
unrecorded sh lane changes rs p e = false_from_ne_true (is_logged sh lane changes rs p) (λ t. let z = logged_record sh lane changes rs p 0 t in both_ways (is_recorded rs p) e (old_given p rs z.slot z.held z.at z.has_))

-- ---- small facts

left_none : (ph : Phase) (p : Place) (b : ℕ) → is_decided ph ≡ false → given (left ph p b) ≡ false
left_none Idle p b e = refl
left_none Open p b e = refl
left_none (Drawn n) p b e = refl
left_none (Sealing n) p b e = refl
left_none (Applying t) p b e = absurd (both_ways true e refl)
left_none Clearing p b e = refl
left_none (Retiring n) p b e = refl
left_none Voiding p b e = refl

pub data_pictured : (sh : Shape) (p : Place) → is_data p ≡ true → is_place sh p ≡ true → is_pictured p ≡ true
data_pictured sh (InRun c w) e i = and_from (nat_le 8 w) (nat_lt w 512) e (and_parts (nat_lt c (chunks_of sh)) (nat_lt w 512) i).1
data_pictured sh (InHuge c w) e i = (and_parts (nat_lt c (chunks_of sh)) (nat_lt w 512) i).1
data_pictured sh (Descr c) e i = absurd (both_ways false refl e)
data_pictured sh RootWord e i = refl

pub twin_single : (p : Place) → is_single (twin p) ≡ is_single p
twin_single (InRun c w) = refl
twin_single (InHuge c w) = refl
twin_single (Descr c) = refl
twin_single RootWord = refl

pub some_or : {A : Type 0} → (d : Option A) → (d ≡ None) ⊎ ((y : A) × (d ≡ Some y))
some_or None = inl refl
some_or (Some y) = inr (y, refl)

module _ (o : Opening) (mem : Memory) (views : Views) (g : Past) (x : World o mem views g) (image : List ℕ) (sv : Survives o mem views image) (torn : NoneTorn o views image) (k : ℕ) (ink : k < o.shape.lanes)
    (c : Current o mem views g x image sv torn k ink) (und : is_decided (views k).log.phase ≡ false) where
  abbrev v : View
  v = views k

  abbrev owned : Place → ℕ → Bool
  owned p b = owns g.geo (settled_words o g) (sight_of (views k)).hold p b

  f : SightFits o.shape (cells_of o.shape mem) (settled_words o g) (Flies (ghost_of g) k) (ghost_of g) k (sight_of (views k))
  f = x.bits.each_lane k

  shape_is : (views k).fixed.shape ≡ o.shape
  shape_is = (x.each_lane k c.runs).shape

  -- what the lane may change it owns
  changes_own : (p : Place) (b : ℕ) → is_data p ≡ true → MayChangeAt (views k) p → owns g.geo (settled_words o g) (sight_of (views k)).hold p b ≡ true
  changes_own (InRun d w) b e may = let l = leb-true 8 w e in let z : (w == 0) ≡ false = ne_eqb w 0 (λ q. omega arith) in let cl = class (views k).claims d in
      let i = (w / 8 - 1) / cl in let h : (sight_of (views k)).hold.here (Small d i) ≡ true = sym (ap (λ n. (sight_of (views k)).hold.here (Small d n)) (cond-false (w == 0) 64 i z)) ∙ may.0 in
      let own_ = here_own (sight_of (views k)).hold (Small d i) h in let same = f.hold.class d i (own_has (sight_of (views k)).hold (Small d i) own_) in
      ap (λ n. own (sight_of (views k)).hold (Small d n)) (cond-false (w == 0) b ((w / 8 - 1) / g.geo.class d) z ∙ ap (λ n. (w / 8 - 1) / n) (sym same)) ∙ own_
  changes_own (InHuge d w) b e may = let y = first (views k).fixed.shape (views k).claims d in let own_ = here_own (sight_of (views k)).hold (Big y) may.0 in
      let same = sym (first_so o.shape (cells_of o.shape mem) (settled_words o g) (Flies (ghost_of g) k) (ghost_of g) x.bits.geo k (views k) (views k).log.phase f d (own_has (sight_of (views k)).hold (Big y) own_)) in ap (λ n. own (sight_of (views k)).hold (Big n)) same ∙ own_
  changes_own (Descr d) b e may = absurd may
  changes_own RootWord b e may = absurd (both_ways false refl e)

  -- and makes no run of it
  changes_unmade : (p : Place) → is_data p ≡ true → MayChangeAt (views k) p → is_in_making (sight_of (views k)).hold p ≡ false
  changes_unmade (InRun d w) e may = let l = leb-true 8 w e in let z : (w == 0) ≡ false = ne_eqb w 0 (λ q. omega arith) in let i = (w / 8 - 1) / class (views k).claims d in
      let h : (sight_of (views k)).hold.here (Small d i) ≡ true = sym (ap (λ n. (sight_of (views k)).hold.here (Small d n)) (cond-false (w == 0) 64 i z)) ∙ may.0 in
      false_from_ne_true ((sight_of (views k)).hold.making d) (λ t. both_ways (g.runs d) (maker_no_run o.shape (cells_of o.shape mem) (settled_words o g) (Flies (ghost_of g) k) (ghost_of g) x.bits.geo k (sight_of (views k)) f d t)
      (and_parts (g.runs d) (nat_lt i (Rattle.pm_layout.specs.Sizes.blocks_of (g.geo.class d))) (f.hold.found (Small d i) (f.hold.here (Small d i) h).1).1).0)
  changes_unmade (InHuge d w) e may = let y = first (views k).fixed.shape (views k).claims d in let own_ = here_own (sight_of (views k)).hold (Big y) may.0 in
      let same = sym (first_so o.shape (cells_of o.shape mem) (settled_words o g) (Flies (ghost_of g) k) (ghost_of g) x.bits.geo k (views k) (views k).log.phase f d (own_has (sight_of (views k)).hold (Big y) own_)) in
      false_from_ne_true ((sight_of (views k)).hold.making d) (λ t. let z = (maker_owns o.shape (cells_of o.shape mem) (settled_words o g) (Flies (ghost_of g) k) (ghost_of g) x.bits.geo k (sight_of (views k)) f d t).1 in
      both_ways (settled_words o g (Descr d) 1) (f.hold.mine (Big d) (f.hold.making d t).0).2 (ap (λ n. settled_words o g (Descr n) 1) (sym z ∙ same) ∙ (f.hold.found (Big y) (f.hold.here (Big y) may.0).1).2))
  changes_unmade (Descr d) e may = absurd may
  changes_unmade RootWord e may = refl

  changes_found : (p : Place) → RecordedFits g.geo (sight_of (views k)) p → is_in_making (sight_of (views k)).hold p ≡ false
  changes_found (InRun d w) r = let y = (r.1 0).0 in false_from_ne_true ((sight_of (views k)).hold.making d) (λ m. both_ways (g.runs d) (maker_no_run o.shape (cells_of o.shape mem) (settled_words o g) (Flies (ghost_of g) k) (ghost_of g) x.bits.geo k (sight_of (views k)) f d m)
      (and_parts (g.runs d) (nat_lt (Rattle.pm_view.specs.Places.part (g.geo.class d) w 0) (Rattle.pm_layout.specs.Sizes.blocks_of (g.geo.class d))) (f.hold.found (block_of g.geo (InRun d w) 0) (f.hold.here (block_of g.geo (InRun d w) 0) y).1).1).0)
  changes_found (InHuge d w) r = let y = (r.1 0).0 in false_from_ne_true ((sight_of (views k)).hold.making d) (λ m. let n = f.hold.mine (Big d) (f.hold.making d m).0 in both_ways (settled_words o g (Descr d) 1) n.2
      (ap (λ a. settled_words o g (Descr a) 1) (sym (eqb-true (g.geo.first d) d n.1)) ∙ (f.hold.found (Big (g.geo.first d)) (f.hold.here (Big (g.geo.first d)) y).1).2))
  changes_found (Descr d) r = absurd (both_ways false refl r.0)
  changes_found RootWord r = refl

  -- WHAT A VALID RECORD SAYS OF A WORD
  pub record Speaks (w : ℕ) (u : Undo) : Type 0 where
    pub place : Place
    pub is_there : is_place o.shape place ≡ true
    pub chunk : is_single place ≡ false
    pub of_word : word_of o.shape place ≡ w
    pub unmade : is_in_making (sight_of (views k)).hold place ≡ false
    pub own_ : (b : ℕ) → b < 64 → owns g.geo (settled_words o g) (sight_of (views k)).hold place b ≡ true
    pub old : (b : ℕ) → b < 64 → live (settled_words o g) g.geo g.runs place ≡ true → bit (old_word u (8 * w)) b ≡ settled_words o g place b

  -- it is a record of the log, or one in the making, in the next slot, of a word that has none
  abbrev pub Kind : ℕ → Place → Type 0
  Kind j p = ((r : Recorded) × (y : ℕ) × IsRecordAt (views k).log j r × (old_in r p ≡ Some y)) ⊎ ((length (views k).log.records ≡ j) × (is_recorded (views k).log.records p ≡ false))

  pub speaks : (j w : ℕ) (u : Undo) → j < 64 → valid_record image k j ≡ Some u → covers u (8 * w) ≡ true → (s : Speaks w u) × Kind j s.place
  speaks j w u a valid cov = let h = held_now o mem views g x image sv torn k ink c j u a valid in
      let r = covered o.shape (views k).log.generation h.held w (subst (λ z. covers z (8 * w) ≡ true) h.is cov) in
      let old_is : old_word u (8 * w) ≡ slice_index h.held.old (w - word_of o.shape h.held.place) = ap (λ (z : Undo). old_word z (8 * w)) h.is ∙ old_from o.shape (views k).log.generation h.held w r.0 r.1 in
      ⊎_elim (λ (at : IsRecordAt (views k).log j h.held). recorded h.held at r old_is) (λ (z : (length (views k).log.records ≡ j) × IsNextRecord (views k) h.held). making h.held z.0 z.1 r old_is) h.lawful
    where
      recorded : (q : Recorded) → IsRecordAt (views k).log j q → (word_of o.shape q.place ≤ w) × (w < word_of o.shape q.place + length q.old) → old_word u (8 * w) ≡ slice_index q.old (w - word_of o.shape q.place) → (s : Speaks w u) × Kind j s.place
      recorded q at r old_is = let fits = log_fits o mem views g x k ink in let n : ℕ = w - word_of o.shape q.place in let low = r.0 in let high = r.1 in let inside : n < length q.old = omega arith in
          let rec = fits.records j q at in let ch = data_chunk q.place rec.4 in let p = place_after q.place n in
          let has_ : old_of (views k).log.records p ≡ Some (slice_index q.old n) = old_found p (views k).log.records (λ i m s t y z e d. fits.once i m s t p y z e d) j q (slice_index q.old n) at (after_old q.place q.old n ch inside) in
          let olds = fits.olds p (slice_index q.old n) has_ in
          (record { place = p; is_there = (rec.5 n inside).0; chunk = data_chunk p (after_data q.place n rec.4); of_word = (rec.5 n inside).1 ∙ (let e : word_of o.shape q.place + n ≡ w = omega arith in e); unmade = changes_found p ((x.each_lane k c.runs).recorded und p (ap given has_)); own_ = λ b l. (olds b).0; old = λ b l _. ap (λ z. bit z b) old_is ∙ sym ((olds b).1 und) }, inl (q, slice_index q.old n, at, after_old q.place q.old n ch inside))

      making : (q : Recorded) → length (views k).log.records ≡ j → IsNextRecord (views k) q → (word_of o.shape q.place ≤ w) × (w < word_of o.shape q.place + length q.old) → old_word u (8 * w) ≡ slice_index q.old (w - word_of o.shape q.place) → (s : Speaks w u) × Kind j s.place
      making q last can r old_is = let n : ℕ = w - word_of o.shape q.place in let low = r.0 in let high = r.1 in let inside : n < length q.old = omega arith in let each = can.each n inside in let p = place_after q.place n in
          let ch = after_chunk q.place n each.plain in let own_ : (b : ℕ) → owns g.geo (settled_words o g) (sight_of (views k)).hold p b ≡ true = λ b. changes_own p b each.plain each.own in
          let pic : pictured (views k).fixed.shape (views k).claims (word_of (views k).fixed.shape p) ≡ Some (slice_index q.old n) = some_cond (runs_one (views k) || is_held (views k).fixed.shape (views k).claims (word_of (views k).fixed.shape p))
          (pictured (views k).fixed.shape (views k).claims (word_of (views k).fixed.shape p)) (slice_index q.old n) each.present in
          let seen : (b : ℕ) → (sight_of (views k)).picture p b ≡ Some (bit (slice_index q.old n) b) = λ b. cond-true (is_pictured p) _ _ (data_pictured (views k).fixed.shape p each.plain each.place) ∙ ap (option_map (λ z. bit_at z b == 1)) pic in
          let lg = unrecorded (views k).fixed.shape (views k).fixed.lane (views k).changes (views k).log.records p each.new in (
            record {
              place = p;
              is_there = sym (ap (λ s. is_place s p) shape_is) ∙ each.place;
              chunk = data_chunk p each.plain;
              of_word = sym (ap (λ s. word_of s p) shape_is) ∙ ((can.row n inside).1 ∙ (ap (λ s. word_of s q.place + n) shape_is ∙ (let e : word_of o.shape q.place + n ≡ w = omega arith in e)));
              unmade = changes_unmade p each.plain each.own;
              own_ = λ b l. own_ b;
              old = λ b l lv. let bf = f.bits p b (own_ b) in ap (λ z. bit z b) old_is ∙ (sym (bf.3 (bit (slice_index q.old n) b) (seen b))
                  ∙ bf.0 lv (left_none (views k).log.phase p b und) (ap (λ t. t && not (is_decided (views k).log.phase)) lg));
            },
            inr (last, each.new),
          )

  -- a word that some record gives
  pub speaks_of : (w b : ℕ) → given (record_bit (records image k) w b) ≡ true → (u : Undo) × (find (λ r. covers r (8 * w)) (records image k) ≡ Some u) × Speaks w u
  speaks_of w b e = ⊎_elim (λ (n : find (λ r. covers r (8 * w)) (records image k) ≡ None). absurd (both_ways false refl (sym (ap (λ d. given (option_map (λ r. bit (old_word r (8 * w)) b) d)) n) ∙ e)))
      (λ (y : (u : Undo) × (find (λ r. covers r (8 * w)) (records image k) ≡ Some u)). let z = found_slot image k (8 * w) y.0 y.1 in (y.0, y.1, (speaks z.0 w y.0 z.1 z.2 z.3).0)) (some_or (find (λ r. covers r (8 * w)) (records image k)))

  pub log_is : (w b : ℕ) → log_bit image o.shape.lanes w k b ≡ record_bit (records image k) w b
  log_is w b = ap (λ es. first_of_two (entry_bit es w b) (record_bit (records image k) w b)) c.none_sealed

  -- THE RECORDS RESTORE
  pub restores : (spoken : Diff) → ((p : Place) (b : ℕ) → spoken p b ≡ log_bit image o.shape.lanes (word_of o.shape p) k b) → Restores o.shape (settled_words o g) (ghost_of g) (sight_of (views k)) spoken
  restores spoken is = record {
    all = λ p b i lg. let z = logged_record (views k).fixed.shape (views k).fixed.lane (views k).changes (views k).log.records p 0 lg in
        let y = valid_now o mem views g x image sv torn k ink c z.slot z.held z.at (let n : 0 + z.slot ≡ z.slot = omega arith in ap (is_slot_drained (views k).fixed.shape (views k).fixed.lane (views k).changes) (sym n) ∙ z.drained) in
        let has_ = (log_fits o mem views g x k ink).records z.slot z.held z.at in let r = old_range o.shape z.held p has_.5 z.has_ in let most = has_.2 in
        ap given (is p b ∙ log_is (word_of o.shape p) b) ∙ ⊎_elim (λ (n : find (λ u. covers u (8 * word_of o.shape p)) (records image k) ≡ None). absurd (both_ways (covers (undo_from o.shape (views k).log.generation z.held) (8 * word_of o.shape p))
        (no_slot image k (8 * word_of o.shape p) n z.slot (undo_from o.shape (views k).log.generation z.held) y.0 y.1) (covers_from o.shape (views k).log.generation z.held (word_of o.shape p) most r.0 r.1)))
        (λ (t : (u : Undo) × (find (λ u. covers u (8 * word_of o.shape p)) (records image k) ≡ Some u)). ap (λ d. given (option_map (λ u. bit (old_word u (8 * word_of o.shape p)) b) d)) t.1) (some_or (find (λ u. covers u (8 * word_of o.shape p)) (records image k)));
    olds = λ p b i e. let said = is p b ∙ log_is (word_of o.shape p) b in let z = speaks_of (word_of o.shape p) b (sym (ap given said) ∙ e) in let s = z.2 in
        ⊎_elim (λ (q : s.place ≡ p). inl (
          subst (λ y. owns g.geo (settled_words o g) (sight_of (views k)).hold y b ≡ true) q (s.own_ b i.1),
          λ lv. said ∙ (ap (option_map (λ u. bit (old_word u (8 * word_of o.shape p)) b)) z.1 ∙ ap (λ y. Some y) (s.old b i.1 (subst (λ y. live (settled_words o g) g.geo g.runs y ≡ true) (sym q) lv) ∙ ap (λ y. settled_words o g y b) q)),
        ))
        (λ (q : s.place ≡ twin p). inr (sym (ap is_single q ∙ twin_single p) ∙ s.chunk, subst (λ y. owns g.geo (settled_words o g) (sight_of (views k)).hold y b ≡ true) q (s.own_ b i.1)))
        (of_place o.shape k ink p s.place i.0 s.is_there s.of_word);
  }
