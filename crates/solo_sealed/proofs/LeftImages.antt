-- What a power failure leaves at each stage of a log that is published.
use Rattle.std.proofs.Common.{◌≡◌, ◌≢◌, ℕ, zero, suc, ◌+◌, ◌^◌, ◌<◌, ◌⊎◌, inl, inr, ⊎_elim, Bool, true, false, not, eqb, ◌&&◌, Option, Some, All, Contains, List, [], ◌∷◌, length, take, drop, slice_index, refl, sym, ap, ◌∙◌, subst, arith, eq-eqb, ne_eqb, ◌≤◌, length-append}
use Rattle.std.specs.Int.{bit_at}
use Rattle.std.proofs.lemmas.Bool.{and_from, and_left, and_right, cases_eq, cases_lt, eqb-true, false≢true, false_from_ne_true, or_from, or_parts}
use Rattle.std.proofs.lemmas.List.{take_all}
use Rattle.std.proofs.lemmas.List.Elements.{All-contains, All-contains_itself, All-head, All-weaker, All-drop, All-take}
use Rattle.solo_view.specs.declared.change.Change.{Change}
use Rattle.solo_view.specs.Area.{area_word}
use Rattle.solo_view.specs.Bits.{all_bits}
use Rattle.solo_view.specs.Changes.{changes_of}
use Rattle.solo_view.specs.Log.{Final, Phase}
use Rattle.solo_view.specs.Log.Phase.{Applying, Clearing, Drawn, Idle, Open, Retiring, Sealing}
use Rattle.solo_view.specs.Steps.{Step}
use Rattle.solo_view.specs.Survivors.{all_taken_back}
use Rattle.solo_view.specs.View.{View}
use Rattle.solo_view.proofs.Finding.{whole-taken_back}
use Rattle.pm_image.specs.Logs.{generation_word, recovered, seal_word}
use Rattle.solo_memory.specs.Keep.{IsKeptImage, kept}
use Rattle.solo_world.specs.Course.{is_number}
use Rattle.solo_world.specs.Crash.{is_deciding_in, loses}
use Rattle.solo_world.specs.Entries.{ends_with, is_bit_entered, is_entered}
use Rattle.solo_world.specs.Fits.{SealChange}
use Rattle.solo_world.specs.History.{made_final}
use Rattle.solo_world.specs.Records.{generation_of}
use Rattle.solo_world.proofs.CrashLogs.{entered_front}
use Rattle.solo_world.proofs.MadeBits.{IsMasked, made_final-beside}
use Rattle.solo_world.proofs.Replays.{made_final-other}
use Rattle.solo_world.proofs.StepGive.{filter-contains, filter-passed}
use Rattle.solo_world.proofs.TakenBits.{IsOfWord, left_beside, left_small}
use Rattle.solo_sealed.specs.Sealed.{IsOutside, LeavesSealed, MaySeal, has_nothing, is_decided}
use Rattle.solo_sealed.proofs.SealedImages.{IsClearedImage, IsSealedImage, Looks, cleared_makes, next_generation, sealed_makes}
use Rattle.solo_sealed.proofs.Stages.{AppliedOf, AtApplying, AtClearing, AtDrawn, AtIdle, AtSealing, IsAtStage, Stage, entries, made, made_small, seal_at}
use Rattle.solo_sealed.proofs.Steps.{at_along, at_first, some_entries, unapplied}
use Rattle.solo_sealed.proofs.Unentered.{made_generation, masked, unentered}

-- ---- what is left of a word, of whose changes some were taken back

-- each of these is one of the word's
dropped_all : (P : Change → Type 0) (n w : ℕ) (cs : List Change) → ((c : Change) → Contains cs c → c.word ≡ w → P c) → All P (drop n (changes_of w cs))
dropped_all P n w cs each = All-drop P n (changes_of w cs) (All-weaker (Contains (changes_of w cs)) P
    (λ c there. each c (filter-contains (λ d. eqb d.word w) cs c there) (eqb-true c.word w (filter-passed (λ d. eqb d.word w) cs c there)))
    (changes_of w cs) (All-contains_itself (changes_of w cs)))

left_none : (lost : List Change) (x : ℕ) → All (λ c. ⊥) lost → all_taken_back lost x ≡ x
left_none [] x none = refl
left_none (c ∷ lost) x none = absurd (All-head (λ d. ⊥) c lost none)

with_true : (t u : Bool) → u ≡ true → t ≡ t && u
with_true true u is = sym is
with_true false u is = refl

twice : (t : Bool) → not (not t) ≡ t
twice true = refl
twice false = refl

-- where each change is of the whole word, and found this there
left_whole : (lost : List Change) (x old : ℕ) → All (λ c. (c.mask ≡ all_bits) × (c.old ≡ old)) lost → (all_taken_back lost x ≡ x) ⊎ (all_taken_back lost x ≡ old)
left_whole [] x old all = inl refl
left_whole (c ∷ lost) x old all = let first = All-head (λ d. (d.mask ≡ all_bits) × (d.old ≡ old)) c lost all in inr (whole-taken_back c (all_taken_back lost x) first.0 ∙ first.1)

-- a bit that no entry is of is of none of the first ones
bit_front : (n : ℕ) (fs : List Final) (w i : ℕ) → is_bit_entered fs w i ≡ false → is_bit_entered (take n fs) w i ≡ false
bit_front zero fs w i none = refl
bit_front (suc n) [] w i none = refl
bit_front (suc n) (f ∷ fs) w i none =
    let t = or_parts (eqb f.word w && eqb (bit_at f.mask i) 1) (is_bit_entered fs w i) none in or_from (eqb f.word w && eqb (bit_at f.mask i) 1) (is_bit_entered (take n fs) w i) t.0 (bit_front n fs w i t.1)

module _ (b : View) (may_seal : MaySeal b) (w : View) (at : IsAtStage b w) (keep : ℕ) (image : List ℕ) (is : IsKeptImage keep w.words (w.changes ∷ []) image) where
  pub as_long : length image ≡ length b.words
  as_long = is.size ∙ at.size

  lane_words : (seal_at b < length b.words) × (area_word b.lane < length b.words)
  lane_words = let size = may_seal.size in let low = may_seal.in_lanes in (omega (arith, size, low), omega (arith, size, low))

  abbrev lost : ℕ → List Change
  lost i = drop (kept keep (length w.words) (w.changes ∷ []) 0 i) (changes_of i w.changes)

  left : (i : ℕ) → i < length b.words → slice_index image i ≡ all_taken_back (lost i) (slice_index w.words i)
  left i inside = is.each i (subst (λ n. i < n) (sym at.size) inside)

  -- a word that no change is of
  unchanged : (i : ℕ) → i < length b.words → ((c : Change) → Contains w.changes c → c.word ≡ i → ⊥) → slice_index image i ≡ slice_index w.words i
  unchanged i inside none = left i inside ∙ left_none (lost i) (slice_index w.words i) (dropped_all (λ c. ⊥) (kept keep (length w.words) (w.changes ∷ []) 0 i) i w.changes none)

  -- without changes the image is the words
  undrained_none : w.changes ≡ [] → (i : ℕ) → i < length b.words → slice_index image i ≡ slice_index w.words i
  undrained_none none i inside = unchanged i inside (λ c there here. absurd (no_member c (subst (λ cs. Contains cs c) none there))) where
    no_member : (c : Change) → Contains [] c → ⊥
    no_member c there = let low = there.1 in omega (arith, low)

  -- with changes of the seal alone, so are the others
  module _ (old : ℕ) (changes : All (SealChange b old) w.changes) where
    beside_seal : (i : ℕ) → i < length b.words → i ≢ seal_at b → slice_index image i ≡ slice_index w.words i
    beside_seal i inside other = unchanged i inside (λ c there here. other (sym here ∙ (All-contains (SealChange b old) w.changes c changes there).of))

    seal_left : (slice_index image (seal_at b) ≡ slice_index w.words (seal_at b)) ⊎ (slice_index image (seal_at b) ≡ old)
    seal_left =
        let size = may_seal.size in let low = may_seal.in_lanes in
        let here = left (seal_at b) (omega (arith, size, low)) in
        ⊎_elim (λ e. inl (here ∙ e)) (λ e. inr (here ∙ e))
        (left_whole (lost (seal_at b)) (slice_index w.words (seal_at b)) old
        (dropped_all (λ c. (c.mask ≡ all_bits) × (c.old ≡ old)) (kept keep (length w.words) (w.changes ∷ []) 0 (seal_at b)) (seal_at b) w.changes
        (λ c there of. let t = All-contains (SealChange b old) w.changes c changes there in (t.whole, t.before))))

  -- the generation as the first so many entries leave it
  generation_made : (applied : ℕ) → (made b applied (area_word b.lane) ≡ generation_of b) ⊎ (made b applied (area_word b.lane) ≡ generation_of b + 1)
  generation_made applied = ⊎_elim
      (λ (early : applied < length (entries b)).
      let long = ap length may_seal.ends ∙ length-append may_seal.front (ends_with b (generation_of b + 1) ∷ []) in inl (unapplied b may_seal applied (omega (arith, early, long))))
      (λ (all : length (entries b) ≤ applied). inr (ap (λ fs. made_final fs (area_word b.lane) (slice_index b.words (area_word b.lane))) (take_all applied (entries b) all) ∙ made_generation b may_seal (slice_index b.words (area_word b.lane))))
      (cases_lt applied (length (entries b)))

  -- an image of a word as it was looks so
  looks_same : (i : ℕ) → slice_index image i ≡ slice_index b.words i → Looks b image i
  looks_same i same = record {
    same = λ never. same;
    beside = λ entered j low beside. ap (λ x. bit_at x j) same;
    small = λ or. subst (λ x. x < 2 ^ 64) (sym same) (may_seal.small i or).0;
  }

  -- nothing of the call is in the image, or its seal, or that cleared
  pub data Kind : Type 0 where
    Nothing : ((i : ℕ) → i < length b.words → slice_index image i ≡ slice_index b.words i) → Kind
    Sealed : IsSealedImage b image → Kind
    Cleared : IsClearedImage b image → Kind

  drawn_kind : AtDrawn b w → Kind
  drawn_kind s = Nothing (λ i inside. undrained_none s.drained i inside ∙ s.words i)

  sealing_kind : AtSealing b w → Kind
  sealing_kind s = ⊎_elim
      (λ (full : slice_index image (seal_at b) ≡ slice_index w.words (seal_at b)). Sealed (record {
        size = as_long;
        seal = full ∙ s.seal;
        generation = inl (let low = lane_words.1 in beside_seal 0 s.changes (area_word b.lane) low (λ same. absurd (omega (arith, same))) ∙ s.words (area_word b.lane) (λ same. absurd (omega (arith, same))));
        looks = λ i inside other. looks_same i (beside_seal 0 s.changes i inside other ∙ s.words i other);
      }))
      (λ (none : slice_index image (seal_at b) ≡ 0). Nothing (λ i inside. ⊎_elim
      (λ (here : i ≡ seal_at b). ap (slice_index image) here ∙ (none ∙ (sym may_seal.unsealed ∙ ap (slice_index b.words) (sym here))))
      (λ (other : i ≢ seal_at b). beside_seal 0 s.changes i inside other ∙ s.words i other) (cases_eq i (seal_at b))))
      (seal_left 0 s.changes)

  -- a word of a change has an entry
  changed_entered : (applied : ℕ) → All (AppliedOf b applied) w.changes → (i : ℕ) (c : Change) → Contains w.changes c → c.word ≡ i → is_entered (entries b) i ≡ true
  changed_entered applied changes i c there here =
      entered_front applied (entries b) i (ap (is_entered (take applied (entries b))) (sym here) ∙ (All-contains (AppliedOf b applied) w.changes c changes there).of)

  applying_looks : (applied : ℕ) → AtApplying b applied w → (i : ℕ) → i < length b.words → i ≢ seal_at b → Looks b image i
  applying_looks applied s i inside other = record {
    same = λ never.
        unchanged i inside (λ c there here. false≢true (sym never ∙ changed_entered applied s.changes i c there here))
        ∙ (s.words i other ∙ made_final-other (take applied (entries b)) i (slice_index b.words i) (false_from_ne_true (is_entered (take applied (entries b)) i) (λ e. false≢true (sym never ∙ entered_front applied (entries b) i e))));
    beside = λ entered j low beside.
        ap (λ x. bit_at x j) (left i inside)
        ∙ (left_beside (entries b) i (slice_index w.words i) (lost i) of_word j low beside
        ∙ (ap (λ x. bit_at x j) (s.words i other)
        ∙ made_final-beside (take applied (entries b)) i (slice_index b.words i) (All-take IsMasked applied (entries b) (masked b may_seal)) j low (bit_front applied (entries b) i j beside)));
    small = λ or.
        let t = may_seal.small i or in
        subst (λ x. x < 2 ^ 64) (sym (left i inside))
        (left_small (entries b) i (slice_index w.words i) (lost i) or (subst (λ x. x < 2 ^ 64) (sym (s.words i other)) (made_small applied (entries b) i (slice_index b.words i) t.0 t.1)) of_word);
  }
    where
      of_word : All (IsOfWord (entries b) i) (lost i)
      of_word = dropped_all (IsOfWord (entries b) i) (kept keep (length w.words) (w.changes ∷ []) 0 i) i w.changes (λ c there here. (here, (All-contains (AppliedOf b applied) w.changes c s.changes there).bits))

  applying_kind : (applied : ℕ) → AtApplying b applied w → IsSealedImage b image
  applying_kind applied s = record {
    size = as_long;
    generation =
        let now : (slice_index w.words (area_word b.lane) ≡ generation_of b) ⊎ (slice_index w.words (area_word b.lane) ≡ generation_of b + 1) =
        ⊎_elim (λ before. inl (s.words (area_word b.lane) (λ same. absurd (omega (arith, same))) ∙ before)) (λ next. inr (s.words (area_word b.lane) (λ same. absurd (omega (arith, same))) ∙ next)) (generation_made applied) in
        let here = left (area_word b.lane) lane_words.1 in
        ⊎_elim (λ stays. ⊎_elim (λ before. inl (here ∙ (stays ∙ before))) (λ next. inr (here ∙ (stays ∙ next))) now) (λ found. inl (here ∙ found))
        (left_whole (lost (area_word b.lane)) (slice_index w.words (area_word b.lane)) (generation_of b)
        (dropped_all (λ c. (c.mask ≡ all_bits) × (c.old ≡ generation_of b)) (kept keep (length w.words) (w.changes ∷ []) 0 (area_word b.lane)) (area_word b.lane) w.changes
        (λ c there of. (All-contains (AppliedOf b applied) w.changes c s.changes there).ends of)));
    seal =
        let size = may_seal.size in let low = may_seal.in_lanes in
        unchanged (seal_at b) (omega (arith, size, low)) (λ c there here. false≢true (sym (unentered b may_seal b.lane (seal_at b) low (omega arith) (omega arith) (λ same. absurd (omega (arith, same)))) ∙ changed_entered applied s.changes (seal_at b) c there here))
        ∙ s.seal;
    looks = applying_looks applied s;
  }

  -- a word as all entries make it looks so too
  looks_made : (i : ℕ) → slice_index image i ≡ made_final (entries b) i (slice_index b.words i) → Looks b image i
  looks_made i same = record {
    same = λ never. same ∙ made_final-other (entries b) i (slice_index b.words i) never;
    beside = λ entered j low beside. ap (λ x. bit_at x j) same ∙ made_final-beside (entries b) i (slice_index b.words i) (masked b may_seal) j low beside;
    small = λ or.
        let t = may_seal.small i or in
        subst (λ x. x < 2 ^ 64) (sym same)
        (subst (λ fs. made_final fs i (slice_index b.words i) < 2 ^ 64) (take_all (length (entries b)) (entries b) (omega arith)) (made_small (length (entries b)) (entries b) i (slice_index b.words i) t.0 t.1));
  }

  clearing_kind : AtClearing b w → IsSealedImage b image ⊎ IsClearedImage b image
  clearing_kind s = ⊎_elim
      (λ (cleared : slice_index image (seal_at b) ≡ slice_index w.words (seal_at b)). inr (record {
        size = as_long;
        seal = cleared ∙ s.seal;
        made = λ i inside other. beside_seal (length (entries b)) s.changes i inside other ∙ s.words i other;
      }))
      (λ (full : slice_index image (seal_at b) ≡ length (entries b)). inl (record {
        size = as_long;
        seal = full;
        generation = inr (
            let low = lane_words.1 in beside_seal (length (entries b)) s.changes (area_word b.lane) low (λ same. absurd (omega (arith, same)))
            ∙ (s.words (area_word b.lane) (λ same. absurd (omega (arith, same))) ∙ made_generation b may_seal (slice_index b.words (area_word b.lane))));
        looks = λ i inside other. looks_made i (beside_seal (length (entries b)) s.changes i inside other ∙ s.words i other);
      }))
      (seal_left (length (entries b)) s.changes)

  idle_kind : AtIdle b w → IsClearedImage b image
  idle_kind s = record {
    size = as_long;
    seal = let size = may_seal.size in let low = may_seal.in_lanes in undrained_none s.drained (seal_at b) (omega (arith, size, low)) ∙ s.seal;
    made = λ i inside other. undrained_none s.drained i inside ∙ s.words i other;
  }

  by_stage : (phase : Phase) → Stage b w phase → Kind
  by_stage Idle s = Cleared (idle_kind s)
  by_stage (Open slot pair) s = absurd s
  by_stage Drawn s = drawn_kind s
  by_stage Sealing s = sealing_kind s
  by_stage (Applying applied) s = Sealed (applying_kind applied s)
  by_stage Clearing s = ⊎_elim (λ sealed. Sealed sealed) (λ cleared. Cleared cleared) (clearing_kind s)
  by_stage Retiring s = absurd s

  pub kind_of : Kind
  kind_of = by_stage w.log.phase at.stage

  -- ---- whether it has something of the call

  pub has_none : ((i : ℕ) → i < length b.words → slice_index image i ≡ slice_index b.words i) → has_nothing image b ≡ true
  has_none same =
      and_from (eqb (seal_word image b.lane) 0) (eqb (generation_word image b.lane) (generation_of b)) (eq-eqb (seal_word image b.lane) 0 (same (seal_at b) lane_words.0 ∙ may_seal.unsealed))
      (eq-eqb (generation_word image b.lane) (generation_of b) (same (area_word b.lane) lane_words.1))

  sealed_some : IsSealedImage b image → has_nothing image b ≡ false
  sealed_some s =
      and_left (eqb (seal_word image b.lane) 0) (eqb (generation_word image b.lane) (generation_of b))
      (ne_eqb (seal_word image b.lane) 0 (λ none. some_entries b may_seal (empty (entries b) (sym s.seal ∙ none)))) where
        empty : (fs : List Final) → length fs ≡ 0 → fs ≡ []
        empty [] none = refl
        empty (f ∷ fs) none = absurd (omega (arith, none))

  cleared_some : IsClearedImage b image → has_nothing image b ≡ false
  cleared_some s =
      let next = next_generation b may_seal image s in
      and_right (eqb (seal_word image b.lane) 0) (eqb (generation_word image b.lane) (generation_of b)) (ne_eqb (generation_word image b.lane) (generation_of b) (λ same. absurd (omega (arith, next, same))))

  nothing_left : has_nothing image b ≡ true → (i : ℕ) → i < length b.words → slice_index image i ≡ slice_index b.words i
  nothing_left none = by_kind kind_of where
    by_kind : Kind → (i : ℕ) → i < length b.words → slice_index image i ≡ slice_index b.words i
    by_kind (Nothing same) = same
    by_kind (Sealed s) = absurd (false≢true (sym (sealed_some s) ∙ none))
    by_kind (Cleared s) = absurd (false≢true (sym (cleared_some s) ∙ none))

  all_left : has_nothing image b ≡ false → (i : ℕ) → i < length b.words → IsOutside b.lanes i → recovered image b.lanes i ≡ made_final (entries b) i (slice_index b.words i)
  all_left some = by_kind kind_of where
    by_kind : Kind → (i : ℕ) → i < length b.words → IsOutside b.lanes i → recovered image b.lanes i ≡ made_final (entries b) i (slice_index b.words i)
    by_kind (Nothing same) = absurd (false≢true (sym some ∙ has_none same))
    by_kind (Sealed s) = sealed_makes b may_seal image s
    by_kind (Cleared s) = cleared_makes b may_seal image s

  -- it loses the call where it has nothing of it
  deciding_left : (phase : Phase) → Stage b w phase → is_deciding_in image w phase ≡ not (has_nothing image b)
  deciding_left Idle s = ap not (sym (cleared_some (idle_kind s)))
  deciding_left (Open slot pair) s = absurd s
  deciding_left Drawn s = ap not (sym (has_none (λ i inside. undrained_none s.drained i inside ∙ s.words i)))
  deciding_left Sealing s =
      let low = lane_words.1 in
      let generation : eqb (generation_word image b.lane) (generation_of b) ≡ true =
      eq-eqb (generation_word image b.lane) (generation_of b) (beside_seal 0 s.changes (area_word b.lane) low (λ same. absurd (omega (arith, same))) ∙ s.words (area_word b.lane) (λ same. absurd (omega (arith, same)))) in
      ap (λ (lane : ℕ). not (eqb (seal_word image lane) 0)) at.lane
      ∙ ap not (with_true (eqb (seal_word image b.lane) 0) (eqb (generation_word image b.lane) (generation_of b)) generation)
  deciding_left (Applying applied) s = ap not (sym (sealed_some (applying_kind applied s)))
  deciding_left Clearing s = ap not (sym (⊎_elim (λ sealed. sealed_some sealed) (λ cleared. cleared_some cleared) (clearing_kind s)))
  deciding_left Retiring s = absurd s

  pub lost_left : (n : ℕ) → w.number ≡ Some n → loses image w n ≡ has_nothing image b
  lost_left n number =
      ap (λ (t : Bool). t && not (is_deciding_in image w w.log.phase)) (ap (λ (m : Option ℕ). is_number m n) number ∙ eq-eqb n n refl)
      ∙ (ap not (deciding_left w.log.phase at.stage) ∙ twice (has_nothing image b))

  decided_left : (phase : Phase) → is_decided phase ≡ true → Stage b w phase → has_nothing image b ≡ false
  decided_left Idle decided s = cleared_some (idle_kind s)
  decided_left (Open slot pair) decided s = absurd s
  decided_left Drawn decided s = absurd (false≢true decided)
  decided_left Sealing decided s = absurd (false≢true decided)
  decided_left (Applying applied) decided s = sealed_some (applying_kind applied s)
  decided_left Clearing decided s = ⊎_elim (λ sealed. sealed_some sealed) (λ cleared. cleared_some cleared) (clearing_kind s)
  decided_left Retiring decided s = absurd s

module _ (b w : View) (steps : List Step) (keep : ℕ) (image : List ℕ) (leaves : LeavesSealed b steps w keep image) where
  pub at_end : IsAtStage b w
  at_end = at_along b leaves.may b steps w (at_first b leaves.may) leaves.alone leaves.publishes

  pub nothing : has_nothing image b ≡ true → (i : ℕ) → i < length b.words → slice_index image i ≡ slice_index b.words i
  nothing = nothing_left b leaves.may w at_end keep image leaves.left

  pub all_of_it : has_nothing image b ≡ false → (i : ℕ) → i < length b.words → IsOutside b.lanes i → recovered image b.lanes i ≡ made_final b.log.entries i (slice_index b.words i)
  all_of_it = all_left b leaves.may w at_end keep image leaves.left

  pub decides : is_decided w.log.phase ≡ true → has_nothing image b ≡ false
  decides decided = decided_left b leaves.may w at_end keep image leaves.left w.log.phase decided at_end.stage

  pub same_size : length image ≡ length b.words
  same_size = leaves.left.size ∙ at_end.size

  pub loses_nothing_of : (n : ℕ) → w.number ≡ Some n → loses image w n ≡ has_nothing image b
  loses_nothing_of = lost_left b leaves.may w at_end keep image leaves.left
