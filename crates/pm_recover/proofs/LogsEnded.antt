-- The logs of lanes ended one after the other.
use Rattle.std.proofs.Common.{◌≡◌, ◌≢◌, ⊎_elim, ℕ, ◌+◌, ◌*◌, ◌<◌, ◌≤◌, List, length, slice_index, sym, ◌∙◌, subst, arith}
use Rattle.std.proofs.lemmas.Bool.{cases_lt}
use Rattle.pm_image.specs.Logs.{area_word, generation_word, seal_word}
use Rattle.pm_recover.specs.Recovery.{generation_after}
use Rattle.pm_recover.specs.Steps.{AreSettled, HasSoundLogs}
use Rattle.pm_recover.proofs.Areas.{SameLane, same_after}

-- the lanes behind those that were settled are as they were
same_lane : (old now : List ℕ) (lanes lane : ℕ) → HasSoundLogs old lanes → lane < lanes → AreSettled old now lane → SameLane old now lane
same_lane old now lanes lane sound inside is =
    let areas : 512 + 1024 * lanes ≤ length old = sound.has_lanes.areas in
    let long : length now ≡ length old = is.as_long in
    record {
      log = record { long = omega arith; as_long = omega arith; same = λ i from to. sym (is.others i (λ k near. ((λ here. omega arith), (λ here. omega arith)))) };
      generation = sym (is.others (area_word lane) (λ k near. ((λ here. omega arith), (λ here. omega arith))));
      seal = sym (is.others (area_word lane + 1) (λ k near. ((λ here. omega arith), (λ here. omega arith))));
    }

-- what is said of the lanes up to one, and of it
up_to : (P : ℕ → Type 0) (lane : ℕ) → ((k : ℕ) → k < lane → P k) → P lane → (k : ℕ) → k < lane + 1 → P k
up_to P lane before here k near =
    ⊎_elim (λ (earlier : k < lane). before k earlier) (λ (last : lane ≤ k). let same : lane ≡ k = omega arith in subst P same here) (cases_lt k lane)

pub settled_more : (old now new : List ℕ) (lanes lane : ℕ) → HasSoundLogs old lanes → lane < lanes → AreSettled old now lane
    → length new ≡ length now → generation_word new lane ≡ generation_after now lane → seal_word new lane ≡ 0
    → ((i : ℕ) → i ≢ area_word lane → i ≢ area_word lane + 1 → slice_index new i ≡ slice_index now i) → AreSettled old new (lane + 1)
settled_more old now new lanes lane sound inside before long written cleared others = record {
  as_long = long ∙ before.as_long;
  generations = up_to (λ k. generation_word new k ≡ generation_after old k) lane
      (λ k earlier. others (area_word k) (λ here. omega arith) (λ here. omega arith) ∙ before.generations k earlier)
      (written ∙ sym (same_after old now lane (same_lane old now lanes lane sound inside before)));
  seals = up_to (λ k. seal_word new k ≡ 0) lane
      (λ k earlier. others (area_word k + 1) (λ here. omega arith) (λ here. omega arith) ∙ before.seals k earlier)
      cleared;
  others = λ i other. others i (other lane (omega arith)).0 (other lane (omega arith)).1 ∙ before.others i (λ k near. other k (omega arith));
}
