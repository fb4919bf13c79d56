-- The memory of a pool's words is seen by the view of lane 0 of which nothing was asked.
use Rattle.std.proofs.Common.{◌≡◌, ℕ, ◌/◌, Bool, false, List, replicate, length, refl, arith}
use Rattle.std.specs.List.{All}
use Rattle.std.proofs.lemmas.List.{length-replicate}
use Rattle.std.proofs.lemmas.List.Elements.{All-replicate}
use Rattle.pm_layout.specs.Chunks.{words_of}
use Rattle.pm_view.specs.View.{Constants, idle}
use Rattle.pm_memory.specs.Solo.{Sees, AreNumbered, opened, opened_with}

pub sees_opened_with : (words runs zones : List ℕ) (fixed : Constants) (generation : ℕ) → fixed.lane ≡ 0 → fixed.lanes ≡ 1 → length words ≡ words_of fixed.shape → length runs ≡ length words / 512 → length zones ≡ 32
    → Sees (opened_with words fixed.stop runs zones) (idle fixed generation)
unfolding AreNumbered
sees_opened_with words runs zones fixed generation first alone size pages zone_count =
    let free : All (λ (word : ℕ). word ≡ 0) (replicate (length words / 8) 0) = All-replicate (λ (word : ℕ). word ≡ 0) (length words / 8) 0 refl in
    let open_ : All (λ (taken : Bool). taken ≡ false) (replicate 32 false) = All-replicate (λ (taken : Bool). taken ≡ false) 32 false refl in
    record {
      fixed = record { lane = first; lanes = alone; stop_is = refl; size = size };
      words = λ w x is. cc;
      occupancy = λ at x has is. cc;
      changes = refl;
      calls = record { is = omega arith; within = λ stop is. omega arith };
      counter = record { numbers = tt; count = refl; still = λ none n among. absurd (omega (arith, among.1)) };
      locks = λ line inside. free line 0 inside;
      zone_locks = λ zone inside. open_ zone false inside;
      sizes = record { lines = length-replicate (length words / 8) 0; pages = pages; zones_are = zone_count; zone_locks_are = length-replicate 32 false };
    }

pub sees_opened : (words : List ℕ) (fixed : Constants) (generation : ℕ) → fixed.lane ≡ 0 → fixed.lanes ≡ 1 → length words ≡ words_of fixed.shape → Sees (opened words fixed.stop) (idle fixed generation)
sees_opened words fixed generation first alone size = sees_opened_with words _ _ fixed generation first alone size (length-replicate {A = ℕ} (length words / 512) 0) (length-replicate {A = ℕ} 32 0)
