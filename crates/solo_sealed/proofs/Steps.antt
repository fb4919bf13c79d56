-- Each step that a lane, alone, may make while it publishes its redo log leads from one stage to one.
use Rattle.std.proofs.Common.{◌≡◌, ◌≢◌, ℕ, ◌+◌, ◌^◌, ◌<◌, ◌≤◌, ◌⊎◌, inl, inr, ⊎_elim, Bool, true, false, not, cond, eqb, All, Contains, List, [], ◌∷◌, ◌++◌, length, take, set, slice_get, slice_index, Some, refl, sym, ap, ◌∙◌, subst, arith, length-append, ◌*◌, get_or-set_same, get_or-set_other, bit_and, bit_or, is_some, w64, eq-eqb, ne_eqb}
use Rattle.std.specs.Int.{bit_not}
use Rattle.std.specs.List.{filter}
use Rattle.std.proofs.lemmas.Bool.{cases_eq, cond-true, cond-false, eqb-true, false_from_ne_true, false≢true, or_left, or_right}
use Rattle.std.proofs.lemmas.List.Elements.{All-contains, All-contains_itself, All-cons, All-nil, All-push, All-weaker}
use Rattle.std.proofs.lemmas.List.{take-append-le, take_all}
use Rattle.std.proofs.lemmas.List.Folds.{Any-from_list_any, list_any-append}
use Rattle.std.proofs.lemmas.Nat.{and_le_r}
use Rattle.std.proofs.lemmas.Nat.Bits.{bit_at_and, bit_at_ones}
use Rattle.std.proofs.lemmas.Option.{get_or_from_slice_get, slice_get_within}
use Rattle.pm_record.specs.declared.redo.Op.TheVariants as op
use Rattle.solo_view.specs.declared.change.Change.{Change}
use Rattle.solo_view.specs.Area.{Part, area_word, part_of}
use Rattle.solo_view.specs.Area.Part.{EntryWord, GenerationWord, OtherWord, SealWord, SlotWord}
use Rattle.solo_view.specs.Bits.{all_bits, with_bits}
use Rattle.solo_view.specs.Changes.{and_change, drained, flushed, or_change, store_change}
use Rattle.solo_view.specs.Founds.{FoundAlone, IsAlone}
use Rattle.solo_view.specs.Log.{Final, Log, Phase, log_changed, log_drained, log_stored}
use Rattle.solo_view.specs.Log.Phase.{Applying, Clearing, Drawn, Idle, Open, Retiring, Sealing}
use Rattle.solo_view.specs.Steps.{Step}
use Rattle.solo_view.specs.Steps.Step.{And, Drain, Draw, Flush, Give, Load, NumberSeen, Occupied, Occupy, Or, Raise, SetStop, StopSeen, Store, TakeRead, TakeWrite, Tell, Vacate, ZoneGive, ZoneTry}
use Rattle.solo_view.specs.View.{Lock, View}
use Rattle.solo_view.specs.Views.{after, begun, changed, log_after_drain}
use Rattle.solo_view.proofs.SameLane.{same_lane-after}
use Rattle.solo_world.specs.Entries.{IsEntryAt, ends_with, is_entered, set_word, IsKnownWord}
use Rattle.solo_world.specs.Fits.{IsOfEntries, SealChange}
use Rattle.solo_world.specs.History.{made_final}
use Rattle.solo_world.specs.Lawful.{Allowed, GiveFits, IsEarly, MayTell, StoreFits, is_holder, SealsAlone, SealsEntries, ChangesAlone}
use Rattle.solo_world.specs.Records.{generation_of}
use Rattle.solo_world.proofs.CrashLogs.{entered_front, entry_of_word}
use Rattle.solo_world.proofs.Differences.{with_all_bits}
use Rattle.solo_world.proofs.MadeBits.{and_makes, or_makes}
use Rattle.solo_world.proofs.Parts.{seal_part}
use Rattle.solo_world.proofs.Replays.{made_final-append, made_final-other}
use Rattle.solo_world.proofs.StepChange.{ChangesNext, changes_next}
use Rattle.solo_world.proofs.StepGive.{filter-contains}
use Rattle.solo_world.proofs.StoreEntry.{bit_listed, take_next}
use Rattle.solo_world.proofs.StoreSlot.{get-push_cases}
use Rattle.solo_sealed.specs.Sealed.{IsOfPool, MaySeal, Publishes, is_publishing}
use Rattle.solo_sealed.proofs.Stages.{AppliedOf, AtApplying, IsAtStage, Stage, applied_flushed, entries, made, made_small, seal_at, seals_flushed, still}

-- ---- what a phase forbids

pub early_none : (phase : Phase) → IsEarly phase → is_publishing phase ≡ true → ⊥
early_none Idle early is = false≢true is
early_none (Open slot pair) early is = false≢true is
early_none Drawn early is = early
early_none Sealing early is = early
early_none (Applying applied) early is = early
early_none Clearing early is = early
early_none Retiring early is = early

pub tell_none : (phase : Phase) → MayTell phase → is_publishing phase ≡ true → ⊥
tell_none Idle may is = may
tell_none (Open slot pair) may is = false≢true is
tell_none Drawn may is = may
tell_none Sealing may is = may
tell_none (Applying applied) may is = may
tell_none Clearing may is = may
tell_none Retiring may is = may

give_none : (v : View) (l : Lock) (phase : Phase) → GiveFits v l phase → is_publishing phase ≡ true → ⊥
give_none v l Idle fits is = false≢true is
give_none v l (Open slot pair) fits is = false≢true is
give_none v l Drawn fits is = fits
give_none v l Sealing fits is = fits
give_none v l (Applying applied) fits is = fits
give_none v l Clearing fits is = fits
give_none v l Retiring fits is = fits

open_none : (phase : Phase) (slot pair : List ℕ) → phase ≡ Open slot pair → is_publishing phase ≡ true → ⊥
open_none phase slot pair open_ is = false≢true (sym (ap is_publishing open_) ∙ is)

pub begun_same : (phase : Phase) (v : View) → is_publishing phase ≡ true → begun phase v ≡ v
begun_same Idle v is = absurd (false≢true is)
begun_same (Open slot pair) v is = refl
begun_same Drawn v is = refl
begun_same Sealing v is = refl
begun_same (Applying applied) v is = refl
begun_same Clearing v is = refl
begun_same Retiring v is = refl

-- ---- words of which one is stored

set_here : (words : List ℕ) (w x : ℕ) → w < length words → slice_index (set words w x) w ≡ x
set_here words w x inside = get_or-set_same words w x 0 inside

set_else : (words : List ℕ) (w x i : ℕ) → i ≢ w → slice_index (set words w x) i ≡ slice_index words i
set_else words w x i other = get_or-set_other words w i x 0 other

-- a word that is stored again is the same
set_again : (words : List ℕ) (w x i : ℕ) → x ≡ slice_index words w → w < length words → slice_index (set words w x) i ≡ slice_index words i
set_again words w x i same inside = ⊎_elim
    (λ (here : i ≡ w). ap (slice_index (set words w x)) here ∙ (set_here words w x inside ∙ (same ∙ ap (slice_index words) (sym here))))
    (λ (other : i ≢ w). set_else words w x i other)
    (cases_eq i w)

All-one : {X : Type 0} (P : X → Type 0) (x : X) → P x → All P (x ∷ [])
All-one P x holds = All-cons P x [] holds (All-nil P)

-- what passes a test is of the list
kept_all : (P : Change → Type 0) (q : Change → Bool) (cs : List Change) → All P cs → All P (filter q cs)
kept_all P q cs all = All-weaker (Contains cs) P (λ c there. All-contains P cs c all there) (filter q cs) (each (filter q cs) (λ c there. filter-contains q cs c there)) where
  each : (ds : List Change) → ((c : Change) → Contains ds c → Contains cs c) → All (Contains cs) ds
  each ds of = All-weaker (Contains ds) (Contains cs) of ds (All-contains_itself ds)

-- ---- one more entry

made_next : (fs : List Final) (n : ℕ) (f : Final) (w x : ℕ) → slice_get fs n ≡ Some f → made_final (take (n + 1) fs) w x ≡ cond (eqb f.word w) (with_bits f.mask f.bits (made_final (take n fs) w x)) (made_final (take n fs) w x)
unfolding made_final
made_next fs n f w x at = ap (λ gs. made_final gs w x) (take_next fs n f at) ∙ made_final-append (take n fs) (f ∷ []) w x

entered_more : (fs : List Final) (n : ℕ) (f : Final) (u : ℕ) → slice_get fs n ≡ Some f → is_entered (take n fs) u ≡ true → is_entered (take (n + 1) fs) u ≡ true
entered_more fs n f u at there =
    ap (λ gs. is_entered gs u) (take_next fs n f at) ∙ (list_any-append (λ (g : Final). eqb g.word u) (take n fs) (f ∷ []) ∙ or_left (is_entered (take n fs) u) (is_entered (f ∷ []) u) there)

entered_now : (fs : List Final) (n : ℕ) (f : Final) → slice_get fs n ≡ Some f → is_entered (take (n + 1) fs) f.word ≡ true
entered_now fs n f at =
    ap (λ gs. is_entered gs f.word) (take_next fs n f at)
    ∙ (list_any-append (λ (g : Final). eqb g.word f.word) (take n fs) (f ∷ [])
    ∙ or_right (is_entered (take n fs) f.word) (is_entered (f ∷ []) f.word) (or_left (eqb f.word f.word) false (eq-eqb f.word f.word refl)))

module _ (b : View) (may_seal : MaySeal b) where
  -- the log is not empty
  pub some_entries : entries b ≡ [] → ⊥
  some_entries none =
      let long = ap length may_seal.ends ∙ length-append may_seal.front (ends_with b (generation_of b + 1) ∷ []) in
      let zero_long = ap length none in omega (arith, long, zero_long)

  -- an entry is of the pool, or is the last
  pub entry_kind : (i : ℕ) (f : Final) → slice_get (entries b) i ≡ Some f → IsOfPool b f ⊎ ((i ≡ length may_seal.front) × (ends_with b (generation_of b + 1) ≡ f))
  entry_kind i f listed = ⊎_elim
      (λ (there : slice_get may_seal.front i ≡ Some f). inl (subst (IsOfPool b) (get_or_from_slice_get may_seal.front i f f there) (may_seal.of_pool i f (slice_get_within may_seal.front i f there))))
      (λ (last : (i ≡ length may_seal.front) × (ends_with b (generation_of b + 1) ≡ f)). inr last)
      (get-push_cases may_seal.front (ends_with b (generation_of b + 1)) i f (ap (λ fs. slice_get fs i) (sym may_seal.ends) ∙ listed))

  -- so it is not of the seal's word
  pub entry_apart : (i : ℕ) (f : Final) → slice_get (entries b) i ≡ Some f → f.word ≢ seal_at b
  entry_apart i f listed same = ⊎_elim
      (λ (of : IsOfPool b f). let low = may_seal.in_lanes in absurd (⊎_elim (λ (front : f.word < 512). omega (arith, front, same)) (λ (behind : 512 + 1024 * b.lanes ≤ f.word). omega (arith, behind, same, low)) of.outside))
      (λ (last : (i ≡ length may_seal.front) × (ends_with b (generation_of b + 1) ≡ f)). let here = ap (λ (g : Final). g.word) last.1 in absurd (omega (arith, here, same)))
      (entry_kind i f listed)

  -- one of the lane's generation is the last
  last_of : (i : ℕ) (f : Final) → slice_get (entries b) i ≡ Some f → f.word ≡ area_word b.lane → (i ≡ length may_seal.front) × (ends_with b (generation_of b + 1) ≡ f)
  last_of i f listed here = ⊎_elim
      (λ (of : IsOfPool b f). let low = may_seal.in_lanes in absurd (⊎_elim (λ (front : f.word < 512). omega (arith, front, here)) (λ (behind : 512 + 1024 * b.lanes ≤ f.word). omega (arith, behind, here, low)) of.outside))
      (λ (last : (i ≡ length may_seal.front) × (ends_with b (generation_of b + 1) ≡ f)). last)
      (entry_kind i f listed)

  only_last : (i : ℕ) (f : Final) → slice_get (entries b) i ≡ Some f → f.word ≡ area_word b.lane → i ≡ length may_seal.front
  only_last i f listed here = (last_of i f listed here).0

  is_last : (i : ℕ) (f : Final) → slice_get (entries b) i ≡ Some f → f.word ≡ area_word b.lane → ends_with b (generation_of b + 1) ≡ f
  is_last i f listed here = (last_of i f listed here).1

  -- so while it is to come the generation is the present one
  pub unapplied : (applied : ℕ) → applied ≤ length may_seal.front → made b applied (area_word b.lane) ≡ generation_of b
  unapplied applied early =
      let last : List Final = ends_with b (generation_of b + 1) ∷ [] in
      let first : take applied (entries b) ≡ take applied may_seal.front = ap (take applied) may_seal.ends ∙ take-append-le applied may_seal.front last early in
      ap (λ fs. made_final fs (area_word b.lane) (slice_index b.words (area_word b.lane))) first
      ∙ made_final-other (take applied may_seal.front) (area_word b.lane) (slice_index b.words (area_word b.lane))
      (false_from_ne_true (is_entered (take applied may_seal.front) (area_word b.lane)) (λ e.
      let t = entry_of_word may_seal.front (area_word b.lane) (entered_front applied may_seal.front (area_word b.lane) e) in
      let of = subst (IsOfPool b) (get_or_from_slice_get may_seal.front t.place t.held t.held t.at) (may_seal.of_pool t.place t.held (slice_get_within may_seal.front t.place t.held t.at)) in
      let is = t.of in let low = may_seal.in_lanes in
      absurd (⊎_elim (λ (front : t.held.word < 512). omega (arith, front, is)) (λ (behind : 512 + 1024 * b.lanes ≤ t.held.word). omega (arith, behind, is, low)) of.outside)))

  module _ (v : View) (at : IsAtStage b v) (publishing : is_publishing v.log.phase ≡ true) (alone : IsAlone v) where
    -- the lane's own seal's word
    seal_is : area_word v.lane + 1 ≡ seal_at b
    seal_is = ap (λ lane. area_word lane + 1) at.lane

    -- ---- an entry takes effect

    module _ (applied : ℕ) (s : AtApplying b applied v) (f : Final) (entry : IsEntryAt v applied f) (x : ℕ) (c : Change) (inside : f.word < length v.words) (apart : f.word ≢ seal_at b)
        (makes : x ≡ with_bits f.mask f.bits (slice_index v.words f.word)) (word : c.word ≡ f.word) (bits : IsOfEntries (entries b) c)
        (ends : c.word ≡ area_word b.lane → (c.mask ≡ all_bits) × (c.old ≡ generation_of b)) where
      listed : slice_get (entries b) applied ≡ Some f
      listed = ap (λ fs. slice_get fs applied) (sym s.entered) ∙ entry

      word_now : (i : ℕ) → i ≢ seal_at b → slice_index (set v.words f.word x) i ≡ made b (applied + 1) i
      word_now i other = ⊎_elim
          (λ (here : f.word ≡ i).
          let before : slice_index v.words f.word ≡ made b applied i = ap (slice_index v.words) here ∙ s.words i other in
          ap (slice_index (set v.words f.word x)) (sym here) ∙ (set_here v.words f.word x inside ∙ (makes ∙ (ap (with_bits f.mask f.bits) before
          ∙ sym (made_next (entries b) applied f i (slice_index b.words i) listed ∙ cond-true (eqb f.word i) (with_bits f.mask f.bits (made b applied i)) (made b applied i) (eq-eqb f.word i here))))))
          (λ (differ : f.word ≢ i).
          set_else v.words f.word x i (λ same. differ (sym same))
          ∙ (s.words i other ∙ sym (made_next (entries b) applied f i (slice_index b.words i) listed ∙ cond-false (eqb f.word i) (with_bits f.mask f.bits (made b applied i)) (made b applied i) (ne_eqb f.word i differ))))
          (cases_eq f.word i)

      applies : (lg : Log) → lg.entries ≡ v.log.entries → AtApplying b (applied + 1) (changed v f.word x c lg)
      applies lg same = record {
        entered = same ∙ s.entered;
        words = word_now;
        seal = set_else v.words f.word x (seal_at b) (λ is. apart (sym is)) ∙ s.seal;
        changes = All-push (AppliedOf b (applied + 1)) v.changes c
            (All-weaker (AppliedOf b applied) (AppliedOf b (applied + 1)) (λ d of. record { of = entered_more (entries b) applied f d.word listed of.of; bits = of.bits; ends = of.ends }) v.changes s.changes)
            (record { of = ap (is_entered (take (applied + 1) (entries b))) word ∙ entered_now (entries b) applied f listed; bits = bits; ends = ends });
      }

    -- ---- a store, an OR and an AND, by the stage

    -- a store of all of a word, which an entry sets
    store_applies : (w x : ℕ) → w < length v.words → (applied : ℕ) → AtApplying b applied v → IsEntryAt v applied (set_word w x) → (lg : Log) → lg.entries ≡ v.log.entries
        → AtApplying b (applied + 1) (changed v w x (store_change w (slice_index v.words w) x) lg)
    store_applies w x inside applied s entry lg same =
        let listed : slice_get (entries b) applied ≡ Some (set_word w x) = ap (λ fs. slice_get fs applied) (sym s.entered) ∙ entry in
        let apart : w ≢ seal_at b = entry_apart applied (set_word w x) listed in
        applies applied s (set_word w x) entry x (store_change w (slice_index v.words w) x) inside apart (sym (with_all_bits (slice_index v.words w) x)) refl
        (record {
          mask = omega arith;
          bits = λ i low none. let one = bit_at_ones 64 i low in let clear = bit_listed (entries b) applied i (set_word w x) listed none in absurd (omega (arith, one, clear));
          small = λ or. let t = may_seal.small w or in subst (λ y. y < 2 ^ 64) (sym (s.words w apart)) (made_small applied (entries b) w (slice_index b.words w) t.0 t.1);
        })
        (λ here. (
          refl,
          ap (slice_index v.words) here ∙ (s.words (area_word b.lane) (λ same. absurd (omega (arith, same)))
              ∙ unapplied applied (let last = only_last applied (set_word w x) listed here in omega (arith, last))),
        ))
        lg same

    stored : (w x : ℕ) → w < length v.words → (phase : Phase) → v.log.phase ≡ phase → (part : Part) → part_of v.lane w ≡ part → StoreFits v w x phase part → Stage b v phase
        → let lg = log_stored phase part x v.log in Stage b (changed v w x (store_change w (slice_index v.words w) x) lg) lg.phase
    stored w x inside Idle e part f fits s = absurd fits
    stored w x inside (Open slot pair) e part f fits s = absurd s
    stored w x inside Drawn e GenerationWord f fits s = absurd (some_entries (sym s.entered ∙ fits.unentered))
    stored w x inside Drawn e SealWord f fits s =
        let all : x ≡ length v.log.entries = ⊎_elim (λ (seals : SealsEntries v x). seals.all) (λ (alone : SealsAlone v x). alone.all) fits in
        let here : w ≡ seal_at b = (seal_part v.lane w f).1 ∙ seal_is in record {
          entered = s.entered;
          words = λ i other. set_else v.words w x i (λ same. other (same ∙ here)) ∙ s.words i;
          seal = ap (slice_index (set v.words w x)) (sym here) ∙ (set_here v.words w x inside ∙ (all ∙ ap (λ (fs : List Final). length fs) s.entered));
          changes = subst (λ cs. All (SealChange b 0) (cs ++ store_change w (slice_index v.words w) x ∷ [])) (sym s.drained)
              (All-one (SealChange b 0) (store_change w (slice_index v.words w) x)
              (record { whole = refl; of = here; before = ap (slice_index v.words) here ∙ (s.words (seal_at b) ∙ may_seal.unsealed) }));
        }
    stored w x inside Drawn e EntryWord f fits s = absurd fits
    stored w x inside Drawn e SlotWord f fits s = absurd fits
    stored w x inside Drawn e OtherWord f fits s = absurd fits
    stored w x inside Sealing e part f fits s = absurd fits
    stored w x inside (Applying applied) e OtherWord f next s = store_applies w x inside applied s next (record v.log { phase = Applying (applied + 1) }) refl
    stored w x inside (Applying applied) e GenerationWord f next s = store_applies w x inside applied s next (record v.log { phase = Applying (applied + 1) }) refl
    stored w x inside (Applying applied) e SealWord f fits s =
        let here : w ≡ seal_at b = (seal_part v.lane w f).1 ∙ seal_is in
        let all : applied ≡ length (entries b) = fits.all ∙ ap (λ (fs : List Final). length fs) s.entered in record {
          entered = s.entered;
          words = λ i other. set_else v.words w x i (λ same. other (same ∙ here)) ∙ (s.words i other ∙ ap (λ fs. made_final fs i (slice_index b.words i)) (ap (λ n. take n (entries b)) all ∙ take_all (length (entries b)) (entries b) (omega arith)));
          seal = ap (slice_index (set v.words w x)) (sym here) ∙ (set_here v.words w x inside ∙ fits.zero);
          changes = subst (λ cs. All (SealChange b (length (entries b))) (cs ++ store_change w (slice_index v.words w) x ∷ [])) (sym fits.drained)
              (All-one (SealChange b (length (entries b))) (store_change w (slice_index v.words w) x) (record { whole = refl; of = here; before = ap (slice_index v.words) here ∙ s.seal }));
        }
    stored w x inside (Applying applied) e EntryWord f fits s = absurd fits
    stored w x inside (Applying applied) e SlotWord f fits s = absurd fits
    stored w x inside Clearing e part f fits s = absurd fits
    stored w x inside Retiring e part f fits s = absurd fits

    -- bits that an entry sets, and those that it clears
    ored : (w bits found : ℕ) → w < length v.words → bits < 2 ^ 64 → found ≡ slice_index v.words w → found < 2 ^ 64 → (t : ChangesNext v op.Or w bits) → Stage b v (Applying t.applied)
        → AtApplying b (t.applied + 1) (changed v w (bit_or found bits) (or_change w bits found) (record v.log { phase = Applying (t.applied + 1) }))
    ored w bits found inside low is small t s =
        let f : Final = record { word = w; mask = bits; bits = bits; ors = t.ors } in
        let listed : slice_get (entries b) t.applied ≡ Some f = ap (λ fs. slice_get fs t.applied) (sym s.entered) ∙ t.next in
        applies t.applied s f t.next (bit_or found bits) (or_change w bits found) inside (entry_apart t.applied f listed)
        (or_makes bits found low small ∙ ap (with_bits bits bits) is) refl
        (record {
          mask = low;
          bits = λ i few none. let clear = bit_listed (entries b) t.applied i f listed none in let both = bit_at_and found bits i in (clear, omega (arith, clear, both));
          small = λ or. let least = and_le_r found bits in omega (arith, least, low);
        })
        (λ here. let is = is_last t.applied f listed here in
        let whole = ap (λ (g : Final). g.mask) is in let ends = ap (λ (g : Final). g.bits) is in let below = may_seal.below in absurd (omega (arith, whole, ends, below)))
        (record v.log { phase = Applying (t.applied + 1) }) refl

    anded : (w bits found : ℕ) → w < length v.words → bits < 2 ^ 64 → found ≡ slice_index v.words w → (t : ChangesNext v op.And w bits) → Stage b v (Applying t.applied)
        → AtApplying b (t.applied + 1) (changed v w (bit_and found bits) (and_change w bits found) (record v.log { phase = Applying (t.applied + 1) }))
    anded w bits found inside low is t s =
        let mask : ℕ = bit_not w64 bits in
        let f : Final = record { word = w; mask = mask; bits = 0; ors = t.ors } in
        let listed : slice_get (entries b) t.applied ≡ Some f = ap (λ fs. slice_get fs t.applied) (sym s.entered) ∙ t.next in
        applies t.applied s f t.next (bit_and found bits) (and_change w bits found) inside (entry_apart t.applied f listed)
        (and_makes bits found low ∙ ap (with_bits mask 0) is) refl
        (record {
          mask = omega arith;
          bits = λ i few none. let clear = bit_listed (entries b) t.applied i f listed none in let both = bit_at_and found mask i in (clear, omega (arith, clear, both));
          small = λ or. let least = and_le_r found mask in omega (arith, least);
        })
        (λ here. let ends = ap (λ (g : Final). g.bits) (is_last t.applied f listed here) in absurd (omega (arith, ends)))
        (record v.log { phase = Applying (t.applied + 1) }) refl

    -- ---- a flush, and a drain

    flushed_stage : (line calls : ℕ) (phase : Phase) → Stage b v phase → Stage b (record v { changes = flushed line v.changes; calls = calls }) phase
    flushed_stage line calls Idle s = record { words = s.words; seal = s.seal; drained = ap (flushed line) s.drained }
    flushed_stage line calls (Open slot pair) s = absurd s
    flushed_stage line calls Drawn s = record { entered = s.entered; words = s.words; drained = ap (flushed line) s.drained }
    flushed_stage line calls Sealing s = record { entered = s.entered; words = s.words; seal = s.seal; changes = seals_flushed b 0 line v.changes s.changes }
    flushed_stage line calls (Applying applied) s = record { entered = s.entered; words = s.words; seal = s.seal; changes = applied_flushed b applied line v.changes s.changes }
    flushed_stage line calls Clearing s = record { entered = s.entered; words = s.words; seal = s.seal; changes = seals_flushed b (length (entries b)) line v.changes s.changes }
    flushed_stage line calls Retiring s = absurd s

    -- where something is undrained still
    abbrev left : List Change
    left = drained v.changes

    drained_part : (lg : Log) → lg ≡ v.log → (phase : Phase) → Stage b v phase → Stage b (record v { changes = left; calls = v.calls + 1; log = lg }) phase
    drained_part lg same Idle s = record { words = s.words; seal = s.seal; drained = ap drained s.drained }
    drained_part lg same (Open slot pair) s = absurd s
    drained_part lg same Drawn s = record { entered = ap (λ (l : Log). l.entries) same ∙ s.entered; words = s.words; drained = ap drained s.drained }
    drained_part lg same Sealing s = record { entered = ap (λ (l : Log). l.entries) same ∙ s.entered; words = s.words; seal = s.seal; changes = kept_all (SealChange b 0) (λ c. not c.flushed) v.changes s.changes }
    drained_part lg same (Applying applied) s =
        record { entered = ap (λ (l : Log). l.entries) same ∙ s.entered; words = s.words; seal = s.seal; changes = kept_all (AppliedOf b applied) (λ c. not c.flushed) v.changes s.changes }
    drained_part lg same Clearing s =
        record { entered = ap (λ (l : Log). l.entries) same ∙ s.entered; words = s.words; seal = s.seal; changes = kept_all (SealChange b (length (entries b))) (λ c. not c.flushed) v.changes s.changes }
    drained_part lg same Retiring s = absurd s

    -- where nothing is
    drained_all : (was : Bool) (cs : List Change) → cs ≡ [] → (phase : Phase) → v.log.phase ≡ phase → Stage b v phase
        → let lg = log_drained phase was v.log in Stage b (record v { changes = cs; calls = v.calls + 1; log = lg }) lg.phase
    unfolding made_final
    drained_all was cs none Idle e s = subst (Stage b (record v { changes = cs; calls = v.calls + 1; log = v.log })) (sym e) (record { words = s.words; seal = s.seal; drained = none })
    drained_all was cs none (Open slot pair) e s = absurd s
    drained_all was cs none Drawn e s = subst (Stage b (record v { changes = cs; calls = v.calls + 1; log = v.log })) (sym e) (record { entered = s.entered; words = s.words; drained = none })
    drained_all was cs none Sealing e s = record { entered = s.entered; words = s.words; seal = s.seal; changes = subst (All (AppliedOf b 0)) (sym none) (All-nil (AppliedOf b 0)) }
    drained_all was cs none (Applying applied) e s =
        subst (Stage b (record v { changes = cs; calls = v.calls + 1; log = v.log })) (sym e)
        (record { entered = s.entered; words = s.words; seal = s.seal; changes = subst (All (AppliedOf b applied)) (sym none) (All-nil (AppliedOf b applied)) })
    drained_all was cs none Clearing e s = record { words = s.words; seal = s.seal; drained = none }
    drained_all was cs none Retiring e s = absurd s

    drained_stage : Stage b (after v Drain) (after v Drain).log.phase
    drained_stage = by_left left refl where
      by_left : (cs : List Change) → left ≡ cs → Stage b (after v Drain) (after v Drain).log.phase
      by_left [] none =
          subst (λ lg. Stage b (record v { changes = left; calls = v.calls + 1; log = lg }) lg.phase) (sym (ap (λ cs. log_after_drain cs v) none))
          (drained_all (is_some v.number) left none v.log.phase refl at.stage)
      by_left (c ∷ cs) some =
          subst (λ lg. Stage b (record v { changes = left; calls = v.calls + 1; log = lg }) lg.phase) (sym (ap (λ ds. log_after_drain ds v) some))
          (drained_part v.log refl v.log.phase at.stage)

    -- ---- a step that changes no word, and no log

    quiet : (w : View) → w.changes ≡ v.changes → w.log ≡ v.log → ((i : ℕ) → slice_index w.words i ≡ slice_index v.words i) → Stage b w w.log.phase
    quiet w changes log same = subst (λ (l : Log). Stage b w l.phase) (sym log) (still b v.log.phase v w changes log same at.stage)

    lock_given : (line : ℕ) → is_holder v.locks line ≡ true → All (λ (l : Lock). l.line ≡ line → GiveFits v l v.log.phase) v.locks → ⊥
    lock_given line held fits =
        let t = Any-from_list_any (λ (l : Lock). eqb l.line line) v.locks held in
        give_none v t.1 v.log.phase (All-contains (λ (l : Lock). l.line ≡ line → GiveFits v l v.log.phase) v.locks t.1 fits (t.0, t.2, t.3) (eqb-true t.1.line line t.4)) publishing

    stage_after : (s : Step) → Allowed v s → FoundAlone v s → Stage b (after v s) (after v s).log.phase
    stage_after (Load w found) may found_so = quiet (after v (Load w found)) refl refl (λ i. set_again v.words w found i (found_so alone) may)
    stage_after (Store w x) may found_so = stored w x may.inside v.log.phase refl (part_of v.lane w) refl may.fits at.stage
    stage_after (Or w bits found) may found_so =
        let t = changes_next v op.Or w bits v.log.phase refl (part_of v.lane w) refl may.fits in
        let is = found_so alone in
        subst (λ lg. Stage b (changed v w (bit_or found bits) (or_change w bits found) lg) lg.phase) (sym (ap (λ p. log_changed p v.log) t.phase))
        (ored w bits found may.inside may.word is (let small : slice_index v.words w < 2 ^ 64 = ⊎_elim (λ (known : IsKnownWord v w). known.small) (λ (changes : ChangesAlone v w). changes.small) may.known in omega (arith, small, is)) t (subst (Stage b v) t.phase at.stage))
    stage_after (And w bits found) may found_so =
        let t = changes_next v op.And w bits v.log.phase refl (part_of v.lane w) refl may.fits in
        subst (λ lg. Stage b (changed v w (bit_and found bits) (and_change w bits found) lg) lg.phase) (sym (ap (λ p. log_changed p v.log) t.phase))
        (anded w bits found may.inside may.word (found_so alone) t (subst (Stage b v) t.phase at.stage))
    stage_after (Flush line) may found_so = flushed_stage line (v.calls + 1) v.log.phase at.stage
    stage_after Drain may found_so = drained_stage
    stage_after (TakeWrite line won) may found_so = absurd (early_none v.log.phase may.early publishing)
    stage_after (TakeRead line won) may found_so = absurd (early_none v.log.phase may.early publishing)
    stage_after (Raise line won) may found_so = absurd may
    stage_after (Give line) may found_so = absurd (lock_given line may.held may.fits)
    stage_after (ZoneTry zone won) may found_so = absurd (early_none v.log.phase may.early publishing)
    stage_after (ZoneGive zone) may found_so = quiet (after v (ZoneGive zone)) refl refl (λ i. refl)
    stage_after (Occupied occ found) may found_so = quiet (after v (Occupied occ found)) refl refl (λ i. refl)
    stage_after (Occupy occ bits won) may found_so = absurd (early_none v.log.phase may.early publishing)
    stage_after (Vacate occ bits) may found_so = absurd (early_none v.log.phase may.early publishing)
    stage_after (Draw n) may found_so = absurd (open_none v.log.phase [] [] may.is_open publishing)
    stage_after (NumberSeen n) may found_so =
        let same : begun v.log.phase v ≡ v = begun_same v.log.phase v publishing in
        quiet (after v (NumberSeen n)) (ap (λ (u : View). u.changes) same) (ap (λ (u : View). u.log) same) (λ i. ap (λ (u : View). slice_index u.words i) same)
    stage_after (StopSeen set_) may found_so = quiet (after v (StopSeen set_)) refl refl (λ i. refl)
    stage_after SetStop may found_so = at.stage
    stage_after (Tell operation reply) may found_so = absurd (tell_none v.log.phase may publishing)

    pub at_after : (s : Step) → Allowed v s → FoundAlone v s → IsAtStage b (after v s)
    at_after s may found_so =
        let same = same_lane-after v s in record {
          lanes = same.lanes ∙ at.lanes;
          zones = same.zones ∙ at.zones;
          lane = same.lane ∙ at.lane;
          size = same.size ∙ at.size;
          stage = stage_after s may found_so;
        }

  pub at_along : (v : View) (steps : List Step) (w : View) → IsAtStage b v → IsAlone v → Publishes v steps w → IsAtStage b w
  unfolding Publishes
  at_along v [] w at alone leads = subst (IsAtStage b) (sym leads) at
  at_along v (s ∷ steps) w at alone leads =
      at_along (after v s) steps w (at_after v at leads.0 alone s leads.1 leads.2) ((same_lane-after v s).table ∙ alone) leads.3

  -- it begins so
  pub at_first : IsAtStage b b
  at_first = record {
    lanes = refl;
    zones = refl;
    lane = refl;
    size = refl;
    stage = subst (Stage b b) (sym may_seal.drawn) (record { entered = refl; words = λ w. refl; drained = may_seal.drained });
  }
