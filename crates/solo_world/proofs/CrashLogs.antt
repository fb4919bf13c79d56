-- What a lane's log says of its undrained changes and of the words that it recorded.
use Rattle.std.proofs.Common.{◌≡◌, ◌≢◌, ◌||◌, All, IsTrue, take, ℕ, zero, suc, ◌+◌, ◌-◌, ◌/◌, ◌<◌, ◌≤◌, ◌⊎◌, inl, inr, ⊎_elim, eqb, leb, ltb, Bool, true, false, cond, ◌&&◌, Contains, List, [], ◌∷◌, length, slice_index, slice_get, Some, refl, sym, ap, ◌∙◌, subst, arith}
use Rattle.std.specs.List.{list_any}
use Rattle.std.proofs.lemmas.Bool.{cases_Bool, and_from, eqb-true, and_parts, or_cases, or_left, or_right, leb-true, ltb-true, eq-eqb, false≢true, false_from_ne_true, not-true}
use Rattle.std.proofs.lemmas.Option.{none-some, same_Some}
use Rattle.std.proofs.lemmas.List.Elements.{All-contains, All-head, All-tail}
use Rattle.std.proofs.lemmas.List.Folds.{list_any-append, list_any-from_Any}
use Rattle.solo_view.specs.declared.change.Change.{Change}
use Rattle.solo_view.specs.Area.{Part, area_word, is_in_area, part_in_area, part_of}
use Rattle.solo_view.specs.Area.Part.{GenerationWord, SealWord, EntryWord, SlotWord, OtherWord}
use Rattle.solo_view.specs.Changes.{is_in_line}
use Rattle.solo_view.specs.Log.{Phase, Recorded, Final}
use Rattle.solo_view.specs.Log.Phase.{Idle, Open, Drawn, Sealing, Applying, Clearing, Retiring}
use Rattle.solo_view.specs.Rights.{is_written}
use Rattle.solo_view.specs.View.{View}
use Rattle.pm_image.specs.Logs.{slot_line}
use Rattle.solo_world.specs.Entries.{AreWhole, ends_with, is_entered, is_redoing, is_redone}
use Rattle.solo_world.specs.Fits.{OpenChange, RetiringChange, SealChange, AppliedChange, PhaseFits, RecordedWordFits, RecordFits, ReservedChange}
use Rattle.solo_world.specs.Lawful.{FilledChange}
use Rattle.solo_world.specs.Records.{IsRecordAt, generation_of, records_generation, covers, is_recorded, is_drained_slot, is_logged_from, is_logged}
use Rattle.solo_view.specs.Bits.{all_bits}
use Rattle.solo_world.proofs.Filled.{filled_reserved}

-- what an undrained change is, by how far the call has come
abbrev pub ChangeFits : View → Change → Phase → Type 0
ChangeFits v c Idle = FilledChange v c
ChangeFits v c (Open slot pair) = OpenChange v c
ChangeFits v c Sealing = SealChange v 0 c
ChangeFits v c (Applying applied) = AppliedChange v applied c × AreWhole v (records_generation (Applying applied) v)
ChangeFits v c Clearing = SealChange v (length v.log.entries) c
ChangeFits v c Retiring = RetiringChange v c
ChangeFits v c phase = ⊥

nothing_there : {X : Type 0} (xs : List X) (x : X) → xs ≡ [] → Contains xs x → ⊥
nothing_there {X = X} xs x none there = let e : length xs ≡ 0 = ap length none in let inside = there.1 in omega arith

pub change_fits : (flies : ℕ → List Final → Type 0) (v : View) (c : Change) (phase : Phase) → PhaseFits flies v phase → Contains v.changes c → ChangeFits v c phase
change_fits flies v c Idle fits there = All-contains (FilledChange v) v.changes c fits.changes there
change_fits flies v c (Open slot pair) fits there = All-contains (OpenChange v) v.changes c fits.changes there
change_fits flies v c Drawn fits there = nothing_there v.changes c fits.drained there
change_fits flies v c Sealing fits there = All-contains (SealChange v 0) v.changes c fits.changes there
change_fits flies v c (Applying applied) fits there = (All-contains (AppliedChange v applied) v.changes c fits.changes there, fits.whole)
change_fits flies v c Clearing fits there = All-contains (SealChange v (length v.log.entries)) v.changes c fits.changes there
change_fits flies v c Retiring fits there = All-contains (RetiringChange v) v.changes c fits.changes there

-- a word of the undo slots
pub record InSlots (lane w : ℕ) : Type 0 where
  pub low : area_word lane + 136 ≤ w
  pub high : w < area_word lane + 648

part_cases : (here generation seal entry slot : Bool) → cond here (cond generation GenerationWord (cond seal SealWord (cond entry EntryWord (cond slot SlotWord OtherWord)))) OtherWord ≡ SlotWord → (here ≡ true) × (slot ≡ true)
part_cases true true seal entry slot e = absurd cc
part_cases true false true entry slot e = absurd cc
part_cases true false false true slot e = absurd cc
part_cases true false false false true e = (refl, refl)
part_cases true false false false false e = absurd cc
part_cases false generation seal entry slot e = absurd cc

pub slot_part : (lane w : ℕ) → part_of lane w ≡ SlotWord → InSlots lane w
slot_part lane w e =
    let offset : ℕ = w - area_word lane in
    let t = part_cases (is_in_area lane w) (eqb (w - area_word lane) 0) (eqb (w - area_word lane) 1) (leb 8 (w - area_word lane) && ltb (w - area_word lane) 136) (leb 136 (w - area_word lane) && ltb (w - area_word lane) 648) e in
    let a = and_parts (leb (area_word lane) w) (ltb w (area_word lane + 1024)) t.0 in
    let s = and_parts (leb 136 (w - area_word lane)) (ltb (w - area_word lane) 648) t.1 in
    let from = leb-true (area_word lane) w a.0 in
    let low = leb-true 136 (w - area_word lane) s.0 in
    let high = ltb-true (w - area_word lane) 648 s.1 in
    record { low = omega arith; high = omega arith }

entry_cases : (here generation seal entry slot : Bool) → cond here (cond generation GenerationWord (cond seal SealWord (cond entry EntryWord (cond slot SlotWord OtherWord)))) OtherWord ≡ EntryWord → (here ≡ true) × (entry ≡ true)
entry_cases true true seal entry slot e = absurd cc
entry_cases true false true entry slot e = absurd cc
entry_cases true false false true slot e = (refl, refl)
entry_cases true false false false true e = absurd cc
entry_cases true false false false false e = absurd cc
entry_cases false generation seal entry slot e = absurd cc

-- a word of the entries' pairs
pub record InPairs (lane w : ℕ) : Type 0 where
  pub low : area_word lane + 8 ≤ w
  pub high : w < area_word lane + 136

pub entry_part : (lane w : ℕ) → part_of lane w ≡ EntryWord → InPairs lane w
entry_part lane w e =
    let t = entry_cases (is_in_area lane w) (eqb (w - area_word lane) 0) (eqb (w - area_word lane) 1) (leb 8 (w - area_word lane) && ltb (w - area_word lane) 136) (leb 136 (w - area_word lane) && ltb (w - area_word lane) 648) e in
    let a = and_parts (leb (area_word lane) w) (ltb w (area_word lane + 1024)) t.0 in
    let s = and_parts (leb 8 (w - area_word lane)) (ltb (w - area_word lane) 136) t.1 in
    let from = leb-true (area_word lane) w a.0 in
    let low = leb-true 8 (w - area_word lane) s.0 in
    let high = ltb-true (w - area_word lane) 136 s.1 in
    record { low = omega arith; high = omega arith }

-- a word of the lane's area
pub record InArea (lane w : ℕ) : Type 0 where
  pub low : area_word lane ≤ w
  pub high : w < area_word lane + 1024

pub part_inside : (lane w : ℕ) (part : Part) → part_of lane w ≡ part → (part ≡ OtherWord → ⊥) → InArea lane w
part_inside lane w part e other =
    ⊎_elim (λ (inside : is_in_area lane w ≡ true).
    let t = and_parts (leb (area_word lane) w) (ltb w (area_word lane + 1024)) inside in
    let low = leb-true (area_word lane) w t.0 in
    let high = ltb-true w (area_word lane + 1024) t.1 in
    record { low = low; high = high })
    (λ (outside : is_in_area lane w ≡ false). absurd (other (sym e ∙ ap (λ b. cond b (part_in_area (w - area_word lane)) OtherWord) outside)))
    (cases_Bool (is_in_area lane w))

-- an entry of some is one of all
pub entered_front : (n : ℕ) (entries : List Final) (w : ℕ) → is_entered (take n entries) w ≡ true → is_entered entries w ≡ true
entered_front zero entries w e = absurd (false≢true e)
entered_front (suc n) [] w e = absurd (false≢true e)
entered_front (suc n) (f ∷ entries) w e =
    ⊎_elim (λ (here : eqb f.word w ≡ true). or_left (eqb f.word w) (is_entered entries w) here)
    (λ (later : is_entered (take n entries) w ≡ true). or_right (eqb f.word w) (is_entered entries w) (entered_front n entries w later))
    (or_cases (eqb f.word w) (is_entered (take n entries) w) e)

-- an entry of the word, and its place
pub record EntryOf (entries : List Final) (w : ℕ) : Type 0 where
  pub place : ℕ
  pub held : Final
  pub at : slice_get entries place ≡ Some held
  pub of : held.word ≡ w

pub entry_of_word : (entries : List Final) (w : ℕ) → is_entered entries w ≡ true → EntryOf entries w
entry_of_word [] w e = absurd (false≢true e)
entry_of_word (f ∷ entries) w e =
    ⊎_elim (λ (here : eqb f.word w ≡ true). record { place = 0; held = f; at = refl; of = eqb-true f.word w here })
    (λ (later : is_entered entries w ≡ true). let t = entry_of_word entries w later in record { place = suc t.place; held = t.held; at = t.at; of = t.of })
    (or_cases (eqb f.word w) (is_entered entries w) e)

owned_word : (v : View) (front : List Final) (w : ℕ) → All (λ (f : Final). IsTrue (is_written v f.word)) front → is_entered front w ≡ true → is_written v w ≡ true
owned_word v [] w owned e = absurd (false≢true e)
owned_word v (f ∷ front) w owned e =
    ⊎_elim (λ (here : eqb f.word w ≡ true). subst (λ u. is_written v u ≡ true) (eqb-true f.word w here) (All-head (λ (g : Final). IsTrue (is_written v g.word)) f front owned))
    (λ (later : is_entered front w ≡ true). owned_word v front w (All-tail (λ (g : Final). IsTrue (is_written v g.word)) f front owned) later)
    (or_cases (eqb f.word w) (is_entered front w) e)

-- a word of an entry is one that the lane locked for writing, or its generation's
pub whole_word : (v : View) (generation w : ℕ) → AreWhole v generation → is_entered v.log.entries w ≡ true → (is_written v w ≡ true) ⊎ (w ≡ area_word v.lane)
whole_word v generation w whole e =
    ⊎_elim (λ (early : is_entered whole.front w ≡ true). inl (owned_word v whole.front w whole.owned early))
    (λ (last : (eqb (area_word v.lane) w || false) ≡ true).
    ⊎_elim (λ (here : eqb (area_word v.lane) w ≡ true). inr (sym (eqb-true (area_word v.lane) w here))) (λ (never : false ≡ true). absurd (false≢true never)) (or_cases (eqb (area_word v.lane) w) false last))
    (or_cases (is_entered whole.front w) (eqb (area_word v.lane) w || false)
    (sym (list_any-append (λ (f : Final). eqb f.word w) whole.front (ends_with v generation ∷ [])) ∙ (ap (λ es. is_entered es w) (sym whole.are) ∙ e)))

-- a change is of a word of the lane's area, of one that the log would restore, of one that it would redo, or of one in a block that it reserved
pub record ChangeLies (v : View) (c : Change) : Type 0 where
  pub of : InArea v.lane c.word ⊎ (((is_logged v c.word ≡ true) ⊎ ((is_redone v c.word ≡ true) × (is_written v c.word ≡ true))) ⊎ (ReservedChange v c × (c.mask ≡ all_bits)))

in_area : (lane w : ℕ) → area_word lane ≤ w → w < area_word lane + 1024 → InArea lane w
in_area lane w low high = record { low = low; high = high }

seal_lies : (v : View) (old : ℕ) (c : Change) → SealChange v old c → ChangeLies v c
seal_lies v old c fits = let of = fits.of in record { of = inl (in_area v.lane c.word (omega arith) (omega arith)) }

redone_from : (v : View) (applied w : ℕ) → v.log.phase ≡ Applying applied → is_entered v.log.entries w ≡ true → is_redone v w ≡ true
redone_from v applied w is e = and_from (is_redoing v.log.phase) (is_entered v.log.entries w) (ap is_redoing is) e

pub change_lies : (v : View) (c : Change) (phase : Phase) → v.log.phase ≡ phase → ChangeFits v c phase → ChangeLies v c
change_lies v c Idle is fits = record { of = inr (inr (filled_reserved v c fits, fits.whole)) }
change_lies v c (Open slot pair) is fits = record {
  of = ⊎_elim (λ (part : part_of v.lane c.word ≡ SlotWord). inl (part_inside v.lane c.word SlotWord part (λ e. absurd cc)))
      (λ (other : (part_of v.lane c.word ≡ EntryWord) ⊎ ((is_logged v c.word ≡ true) ⊎ ReservedChange v c)).
      ⊎_elim (λ (part : part_of v.lane c.word ≡ EntryWord). inl (part_inside v.lane c.word EntryWord part (λ e. absurd cc)))
      (λ (last : (is_logged v c.word ≡ true) ⊎ ReservedChange v c). inr (⊎_elim (λ (logged : is_logged v c.word ≡ true). inl (inl logged)) (λ (own : ReservedChange v c). inr (own, fits.whole)) last)) other) fits.of;
}
change_lies v c Drawn is fits = absurd fits
change_lies v c Sealing is fits = seal_lies v 0 c fits
change_lies v c (Applying applied) is fits =
    let entered = entered_front applied v.log.entries c.word fits.0.of in
    ⊎_elim (λ (written : is_written v c.word ≡ true). record { of = inr (inl (inr (redone_from v applied c.word is entered, written))) })
    (λ (own : c.word ≡ area_word v.lane). record { of = inl (in_area v.lane c.word (omega arith) (omega arith)) })
    (whole_word v (records_generation (Applying applied) v) c.word fits.1 entered)
change_lies v c Clearing is fits = seal_lies v (length v.log.entries) c fits
change_lies v c Retiring is fits = let of = fits.of in record { of = inl (in_area v.lane c.word (omega arith) (omega arith)) }

-- a record of the word, and its slot
pub record RecordOf (v : View) (w : ℕ) : Type 0 where
  pub slot : ℕ
  pub held : Recorded
  pub at : IsRecordAt v slot held
  pub of : covers held w ≡ true

record RecordIn (records : List Recorded) (w : ℕ) : Type 0 where
  slot : ℕ
  held : Recorded
  at : slice_get records slot ≡ Some held
  of : covers held w ≡ true

record_in : (records : List Recorded) (w : ℕ) → is_recorded records w ≡ true → RecordIn records w
record_in [] w e = absurd (false≢true e)
record_in (r ∷ records) w e =
    ⊎_elim (λ (here : covers r w ≡ true). record { slot = 0; held = r; at = refl; of = here })
    (λ (later : is_recorded records w ≡ true). let t = record_in records w later in record { slot = suc t.slot; held = t.held; at = t.at; of = t.of })
    (or_cases (covers r w) (is_recorded records w) e)

pub record_of : (v : View) (w : ℕ) → is_recorded v.log.records w ≡ true → RecordOf v w
record_of v w e = let t = record_in v.log.records w e in record { slot = t.slot; held = t.held; at = t.at; of = t.of }

recorded_in : (records : List Recorded) (w slot : ℕ) (r : Recorded) → slice_get records slot ≡ Some r → covers r w ≡ true → is_recorded records w ≡ true
recorded_in [] w slot r at of = absurd (none-some r at)
recorded_in (q ∷ records) w zero r at of = or_left (covers q w) (is_recorded records w) (ap (λ z. covers z w) (same_Some q r at) ∙ of)
recorded_in (q ∷ records) w (suc slot) r at of = or_right (covers q w) (is_recorded records w) (recorded_in records w slot r at of)

pub recorded_from : (v : View) (w slot : ℕ) (r : Recorded) → IsRecordAt v slot r → covers r w ≡ true → is_recorded v.log.records w ≡ true
recorded_from v w slot r at of = recorded_in v.log.records w slot r at of

-- a logged word has a record whose slot is drained
record LoggedIn (v : View) (from : ℕ) (records : List Recorded) (w : ℕ) : Type 0 where
  slot : ℕ
  held : Recorded
  at : slice_get records slot ≡ Some held
  of : covers held w ≡ true
  drained : is_drained_slot v (from + slot) ≡ true

logged_in : (v : View) (from : ℕ) (records : List Recorded) (w : ℕ) → is_logged_from v from records w ≡ true → LoggedIn v from records w
logged_in v from [] w e = absurd (false≢true e)
logged_in v from (r ∷ records) w e =
    ⊎_elim (λ (here : (covers r w && is_drained_slot v from) ≡ true). let t = and_parts (covers r w) (is_drained_slot v from) here in
    let first : from ≡ from + 0 = omega arith in
    record { slot = 0; held = r; at = refl; of = t.0; drained = ap (is_drained_slot v) (sym first) ∙ t.1 })
    (λ (later : is_logged_from v (from + 1) records w ≡ true). let t = logged_in v (from + 1) records w later in
    let next : from + 1 + t.slot ≡ from + suc t.slot = omega arith in
    record { slot = suc t.slot; held = t.held; at = t.at; of = t.of; drained = ap (is_drained_slot v) (sym next) ∙ t.drained })
    (or_cases (covers r w && is_drained_slot v from) (is_logged_from v (from + 1) records w) e)

pub logged_recorded : (v : View) (w : ℕ) → is_logged v w ≡ true → is_recorded v.log.records w ≡ true
logged_recorded v w e = let t = logged_in v 0 v.log.records w e in recorded_in v.log.records w t.slot t.held t.at t.of

-- no record of the word is drained
pub not_logged : (v : View) (w : ℕ) → ((slot : ℕ) (r : Recorded) → IsRecordAt v slot r → covers r w ≡ true → is_drained_slot v slot ≡ false) → is_logged v w ≡ false
not_logged v w undrained = false_from_ne_true (is_logged v w) (λ e. let t = logged_in v 0 v.log.records w e in
    let same : 0 + t.slot ≡ t.slot = omega arith in
    false≢true (sym (undrained t.slot t.held t.at t.of) ∙ (ap (is_drained_slot v) (sym same) ∙ t.drained)))

pub unrecorded_unlogged : (v : View) (w : ℕ) → is_recorded v.log.records w ≡ false → is_logged v w ≡ false
unrecorded_unlogged v w none = false_from_ne_true (is_logged v w) (λ e. false≢true (sym none ∙ logged_recorded v w e))

-- what the log says of a word that a record covers
pub recorded_word : (settled : ℕ → ℕ) (v : View) (r : Recorded) (w : ℕ) → RecordFits settled v r → covers r w ≡ true → RecordedWordFits settled v w (slice_index r.old (w - r.word))
recorded_word settled v r w fits of =
    let t = and_parts (leb r.word w) (ltb w (r.word + length r.old)) of in
    let low = leb-true r.word w t.0 in
    let high = ltb-true w (r.word + length r.old) t.1 in
    let same : r.word + (w - r.word) ≡ w = omega arith in
    subst (λ u. RecordedWordFits settled v u (slice_index r.old (w - r.word))) same (fits.each (w - r.word) (omega arith))

-- a drained slot has no change
pub drained_slot : (v : View) (slot : ℕ) (c : Change) → is_drained_slot v slot ≡ true → Contains v.changes c → c.word / 8 ≢ slot_line v.lane slot
drained_slot v slot c drained there same =
    false≢true (sym (not-true (list_any (is_in_line (slot_line v.lane slot)) v.changes) drained)
    ∙ list_any-from_Any (is_in_line (slot_line v.lane slot)) v.changes (there.0, c, there.1, there.2, eq-eqb (c.word / 8) (slot_line v.lane slot) same))

-- the seal that the image has is the view's, or, while it is stored or cleared, the one before it
abbrev pub SealIs : View → ℕ → Phase → Type 0
SealIs v seal Sealing = (seal ≡ length v.log.entries) ⊎ (seal ≡ 0)
SealIs v seal (Applying applied) = seal ≡ length v.log.entries
SealIs v seal Clearing = (seal ≡ length v.log.entries) ⊎ (seal ≡ 0)
SealIs v seal phase = seal ≡ 0

-- the generation that the image has of the lane, with this seal: that of the view's records, or the next one where the call is decided in it
abbrev pub GenerationIs : View → ℕ → ℕ → Phase → Type 0
GenerationIs v seal generation Retiring = (generation ≡ generation_of v) ⊎ (generation + 1 ≡ generation_of v)
GenerationIs v seal generation Sealing = ((seal ≡ 0) × (generation ≡ generation_of v)) ⊎ ((seal ≢ 0) × (generation ≡ generation_of v + 1))
GenerationIs v seal generation (Applying applied) = generation ≡ records_generation (Applying applied) v
GenerationIs v seal generation phase = generation ≡ generation_of v
