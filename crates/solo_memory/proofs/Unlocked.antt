-- A memory that holds no lock is seen by the view that knows no more.
use Rattle.std.proofs.Common.{◌≡◌, ℕ, ◌/◌, ◌^◌, ◌<◌, ◌≤◌, Bool, false, List, length, Option, refl, arith}
use Rattle.std.specs.List.{All}
use Rattle.std.specs.Option.{ForSome}
use Rattle.std.proofs.lemmas.List.{length-replicate}
use Rattle.std.proofs.lemmas.List.Elements.{All-nil, All-replicate}
use Rattle.solo_memory.specs.Solo.{Solo, Sees, AreNumbered, IsGranted, opened, view_of}

pub sees_unlocked : (m : Solo) → length m.locks ≡ length m.words / 8 → All (λ (word : ℕ). word ≡ 0) m.locks → All (λ (taken : Bool). taken ≡ false) m.zone_locks → m.calls < 2 ^ 64 → ForSome m.stop (λ stop. m.calls ≤ stop) → m.number ≡ 0 → length m.runs ≡ length m.words / 512 → length m.zones ≡ 32 → length m.zone_locks ≡ 32 → Sees m (view_of m)
unfolding AreNumbered
sees_unlocked m lines locks zones fits within undrawn pages zone_count zone_lock_count = record {
  lane = refl;
  words = refl;
  changes = refl;
  stop = refl;
  calls = omega arith;
  within = within;
  numbers = tt;
  count = undrawn;
  counter = λ none n among. absurd (omega (arith, among.1));
  locks = λ line inside. locks line 0 inside;
  zone_locks = λ zone inside. zones zone false inside;
  lines = lines;
  runs = refl;
  zones = refl;
  pages = pages;
  zone_count = zone_count;
  zone_lock_count = zone_lock_count;
  alone = All-nil IsGranted;
}

pub sees_opened : (words : List ℕ) (stop : Option ℕ) → Sees (opened words stop) (view_of (opened words stop))
sees_opened words stop = sees_unlocked (opened words stop) (length-replicate (length words / 8) 0) (All-replicate (λ (word : ℕ). word ≡ 0) _ 0 refl) (All-replicate (λ (taken : Bool). taken ≡ false) 32 false refl) (omega arith) (λ n is. omega arith) refl (length-replicate {A = ℕ} (length words / 512) 0) (length-replicate {A = ℕ} 32 0) (length-replicate 32 false)
