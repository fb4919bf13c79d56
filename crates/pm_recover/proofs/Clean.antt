-- The logs of a recovered image are clean.
use Rattle.std.proofs.Common.{◌≡◌, ◌≢◌, ⊎_elim, ℕ, ◌+◌, ◌*◌, ◌<◌, ◌≤◌, ◌&&◌, ◌||◌, Bool, true, false, not, cond, ltb, List, [], length, Some, refl, sym, ◌∙◌, ap, subst, arith}
use Rattle.std.proofs.lemmas.Bool.{and_left, and_right, cases_lt, false≢true, le-ltb, or_from, or_parts}
use Rattle.pm_record.specs.Undo.{is_record, undo_of}
use Rattle.pm_record.specs.declared.undo.Undo.{Undo}
use Rattle.pm_image.specs.Logs.{generation, generation_word, is_sealed, records, undo_slot}
use Rattle.pm_image.specs.Steps.{valid_record}
use Rattle.pm_image.proofs.Unsealed.{not_sealed}
use Rattle.pm_recover.specs.Recovery.{HasNoStrayRecord, IsCleanLog, IsRecovered, generation_after, has_record, has_torn_slot, is_raised}
use Rattle.pm_recover.specs.Steps.{HasSoundLogs}
use Rattle.pm_recover.proofs.Parts.{all_same}
use Rattle.pm_recover.proofs.Strays.{earlier_without, sum_without}
use Rattle.pm_recover.proofs.Slots.{generation_stands, no_record_in, no_records, none_recorded, not_valid, of_another, unrecorded, valid_if}

-- the generation where the lane is raised, and where it is not
pub after_raised : (image : List ℕ) (lane : ℕ) → is_raised image lane ≡ true → generation_after image lane ≡ generation image lane + 1
after_raised image lane is = ap (λ (b : Bool). cond b (generation image lane + 1) (generation image lane)) is

pub after_kept : (image : List ℕ) (lane : ℕ) → is_raised image lane ≡ false → generation_after image lane ≡ generation image lane
after_kept image lane is = ap (λ (b : Bool). cond b (generation image lane + 1) (generation image lane)) is

-- a lane that is neither sealed nor raised has no valid record
none_if_kept : (image : List ℕ) (lane : ℕ) → is_sealed image lane ≡ false → is_raised image lane ≡ false → records image lane ≡ []
unfolding is_raised
none_if_kept image lane unsealed is =
    let left : Bool = has_record image lane || (ltb (generation image lane) 4611686018427387904 && has_torn_slot image lane) in
    let none : left ≡ false = sym (ap (λ (b : Bool). not b && left) unsealed) ∙ is in
    none_recorded image lane (or_parts (has_record image lane) (ltb (generation image lane) 4611686018427387904 && has_torn_slot image lane) none).0

-- the last generation is not raised: no valid record is of it
kept_at_last : (image : List ℕ) (lanes lane : ℕ) → HasSoundLogs image lanes → lane < lanes → 4611686018427387904 ≤ generation image lane → is_raised image lane ≡ false
unfolding is_raised
kept_at_last image lanes lane sound inside last =
    let none : records image lane ≡ [] = no_records image lane (λ slot in_slots. not_valid (generation image lane) (undo_of (undo_slot image lane slot)) (λ u is same.
    let valid : valid_record image lane slot ≡ Some u = valid_if (generation image lane) (undo_of (undo_slot image lane slot)) u is same in
    let small : u.generation < 4611686018427387904 = (sound.restorable lane slot u inside in_slots valid).raisable in
    absurd (omega arith))) in
    and_right (not (is_sealed image lane)) (has_record image lane || (ltb (generation image lane) 4611686018427387904 && has_torn_slot image lane))
    (or_from (has_record image lane) (ltb (generation image lane) 4611686018427387904 && has_torn_slot image lane) (unrecorded image lane none)
    (and_left (ltb (generation image lane) 4611686018427387904) (has_torn_slot image lane) (le-ltb (generation image lane) 4611686018427387904 last)))

pub last_after : (image : List ℕ) (lanes lane : ℕ) → HasSoundLogs image lanes → lane < lanes → generation_after image lane ≤ 4611686018427387904
last_after image lanes lane sound inside =
    ⊎_elim
    (λ (below : generation image lane < 4611686018427387904). one_more (is_raised image lane) below)
    (λ (last : 4611686018427387904 ≤ generation image lane). subst (λ (n : ℕ). n ≤ 4611686018427387904) (sym (after_kept image lane (kept_at_last image lanes lane sound inside last))) (sound.last_generation lane inside))
    (cases_lt (generation image lane) 4611686018427387904) where
      one_more : (b : Bool) → generation image lane < 4611686018427387904 → cond b (generation image lane + 1) (generation image lane) ≤ 4611686018427387904
      one_more true below = omega arith
      one_more false below = omega arith

pub not_less : (image : List ℕ) (lane : ℕ) → generation image lane ≤ generation_after image lane
not_less image lane = at (is_raised image lane) where
  at : (b : Bool) → generation image lane ≤ cond b (generation image lane + 1) (generation image lane)
  at true = omega arith
  at false = omega arith

-- what is recovered has the same slots torn
pub torn_as_before : (before after : List ℕ) (lanes lane : ℕ) → IsRecovered before after lanes → lane < lanes → has_torn_slot after lane ≡ has_torn_slot before lane
unfolding has_torn_slot
torn_as_before before after lanes lane is inside =
    ap not (all_same (λ slot. is_record (undo_slot after lane slot)) (λ slot. is_record (undo_slot before lane slot)) 64
    (λ slot few. ap is_record (is.slots lane slot inside few) ∙ sum_without (generation_after before lane) (undo_slot before lane slot)))

pub first_after : (before : List ℕ) (lanes lane : ℕ) → HasSoundLogs before lanes → lane < lanes → 1 ≤ generation_after before lane
first_after before lanes lane sound inside = let first = sound.first_generation lane inside in let more = not_less before lane in omega (arith, first, more)

pub clean : (before after : List ℕ) (lanes lane : ℕ) → HasSoundLogs before lanes → IsRecovered before after lanes → lane < lanes → IsCleanLog after lane
clean before after lanes lane sound is inside =
    let now : generation_word after lane ≡ generation_after before lane = is.generations lane inside in
    record {
      unsealed = is.seals lane inside;
      first_generation = let first = first_after before lanes lane sound inside in omega (arith, first, now);
      last_generation = subst (λ (n : ℕ). n ≤ 4611686018427387904) (sym now) (last_after before lanes lane sound inside);
      stale = λ slot u in_slots read.
          subst (λ (n : ℕ). u.generation < n) (sym now)
          (earlier_without (generation_after before lane) (undo_slot before lane slot) u (first_after before lanes lane sound inside) (ap undo_of (sym (is.slots lane slot inside in_slots)) ∙ read));
    }

-- a clean log has no valid record
pub clean_has_none : (image : List ℕ) (lane : ℕ) → IsCleanLog image lane → records image lane ≡ []
clean_has_none image lane clean =
    no_records image lane (λ slot inside. not_valid (generation image lane) (undo_of (undo_slot image lane slot)) (λ u is same.
    let old : u.generation < generation_word image lane = clean.stale slot u inside is in
    let stands : generation image lane ≡ generation_word image lane = generation_stands image lane clean.unsealed in
    absurd (omega arith)))

pub none_to_come : (image : List ℕ) (lanes : ℕ) → ((lane : ℕ) → lane < lanes → IsCleanLog image lane) → HasNoStrayRecord image lanes
none_to_come image lanes all = record {
  past = λ lane slot u in_lanes in_slots is.
      let old : u.generation < generation_word image lane = (all lane in_lanes).stale slot u in_slots is in
      let stands : generation image lane ≡ generation_word image lane = generation_stands image lane (all lane in_lanes).unsealed in
      omega arith;
  sealed = λ lane slot u in_lanes in_slots is sealed. absurd (false≢true (sym (not_sealed image lane (all lane in_lanes).unsealed) ∙ sealed));
}
