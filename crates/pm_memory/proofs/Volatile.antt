-- How the view of lane 0 follows its memory, a call on a volatile word at a time: `m` is the
-- memory before, `n` the memory after.
use Rattle.std.proofs.Common.{IsTrue, ◌≡◌, ◌≢◌, ⊎_elim, ℕ, ◌<◌, Bool, true, false, not, ◌&&◌, ◌||◌, cond, eqb, List, [], ◌∷◌, length, slice_index, get_or, set, Option, Some, refl, sym, ap, ◌∙◌, subst, arith, eq-eqb, ne_eqb, length-set, get_or-set_same, get_or-set_other, rules}
use Rattle.std.specs.List.{filter, list_any, Contains}
use Rattle.std.proofs.lemmas.Bool.{cases_eq}
use Rattle.std.proofs.lemmas.List.Elements.{Contains-append_cases, Contains-push_cases}
use Rattle.pm_view.specs.Claims.{Claim, Took, Raised, Gave, locked, reads, pictured}
use Rattle.pm_view.specs.Founds.{IsWonAlone}
use Rattle.pm_view.specs.LockWords.{reader_bit, writer_bit, with_writer, with_reader, with_raised, without_lane}
use Rattle.pm_view.specs.Steps.{Step}
use Rattle.pm_view.specs.Steps.Step.{TakeWrite, TakeRead, Raise, Give, ZoneTry, ZoneGive, NumberSeen}
use Rattle.pm_view.specs.View.{View, Numbered}
use Rattle.pm_view.specs.Views.{after, with_seen}
use Rattle.pm_memory.specs.Solo.{Solo, Sees, AreLocked, IsCounter, IsLockWord, SetsLock}
use Rattle.pm_memory.proofs.Growing.{forgets}

-- ---- what was told

counter_seen : (counter : ℕ) (entries : List Numbered) (number : Option ℕ) (seen : List Step) (s : Step) → ((n : ℕ) → s ≡ NumberSeen n → counter ≡ n) → IsCounter counter entries number seen → IsCounter counter entries number (s ∷ seen)
counter_seen counter entries number seen s drawn is = record {
  numbers = is.numbers;
  count = is.count;
  still = λ none n among. ⊎_elim
      (λ (first : Contains (s ∷ []) (NumberSeen n)). ⊎_elim (λ (nowhere : Contains [] (NumberSeen n)). absurd (omega (arith, nowhere.1))) (λ (same : s ≡ NumberSeen n). drawn n same) (Contains-push_cases [] s (NumberSeen n) first))
      (λ (before : Contains seen (NumberSeen n)). is.still none n before)
      (Contains-append_cases (s ∷ []) seen (NumberSeen n) among);
}

-- a step told something, and a number seen is the number
pub sees_seen : (m : Solo) (v : View) (s : Step) → ((n : ℕ) → s ≡ NumberSeen n → m.number ≡ n) → Sees m v → Sees m (with_seen s v)
sees_seen m v s drawn sees = record {
  fixed = sees.fixed;
  words = sees.words;
  occupancy = sees.occupancy;
  changes = sees.changes;
  calls = sees.calls;
  counter = counter_seen m.number v.entries v.number v.seen s drawn sees.counter;
  locks = sees.locks;
  zone_locks = sees.zone_locks;
  sizes = sees.sizes;
}

-- ---- locks of lines

word_is : (a b c d : Bool) (word : ℕ) → a ≡ c → b ≡ d → IsLockWord c d word → IsLockWord a b word
word_is a b c d word first last is = subst (λ e. IsLockWord e b word) (sym first) (subst (λ e. IsLockWord c e word) (sym last) is)

-- the lock word of one line changed
locks_set : (old new : List Claim) (locks : List ℕ) (line word : ℕ) → line < length locks → IsLockWord (locked new line) (reads new line) word
    → ((l : ℕ) → line ≢ l → locked new l ≡ locked old l) → ((l : ℕ) → line ≢ l → reads new l ≡ reads old l) → AreLocked old locks → AreLocked new (set locks line word)
locks_set old new locks line word within here writes reading are l inside =
    let inside_before : l < length locks = omega (arith, inside, length-set locks line word) in
    ⊎_elim
    (λ (same : line ≡ l). subst (λ k. IsLockWord (locked new k) (reads new k) (slice_index (set locks line word) k)) same (subst (λ x. IsLockWord (locked new line) (reads new line) x) (sym (get_or-set_same locks line word 0 within)) here))
    (λ (differ : line ≢ l).
    let stays : slice_index (set locks line word) l ≡ slice_index locks l = get_or-set_other locks line l word 0 (λ e. differ (sym e)) in
    subst (λ x. IsLockWord (locked new l) (reads new l) x) (sym stays) (word_is _ _ _ _ (slice_index locks l) (writes l differ) (reading l differ) (are l inside_before)))
    (cases_eq line l)

free_line : (a b : Bool) (word : ℕ) → IsLockWord a b word → word ≡ 0 → (a ≡ false) × (b ≡ false)
free_line true true word is free = absurd is
free_line true false word is free = absurd (omega (arith, is, free))
free_line false true word is free = absurd (omega (arith, is, free))
free_line false false word is free = (refl, refl)

read_line : (a b : Bool) (word : ℕ) → IsLockWord a b word → word ≡ reader_bit 0 → (a ≡ false) × (b ≡ true)
read_line true true word is held = absurd is
read_line true false word is held = absurd (omega (arith, is, held))
read_line false true word is held = (refl, refl)
read_line false false word is held = absurd (omega (arith, is, held))

-- of a lock word of one lane nothing is left
given_free : (a b : Bool) (word : ℕ) → IsLockWord a b word → without_lane 0 word ≡ 0
given_free true true word is = absurd is
given_free true false word is = ap (without_lane 0) is
given_free false true word is = ap (without_lane 0) is
given_free false false word is = ap (without_lane 0) is

-- other claims, with the lock word of one line
sees_locks : (m : Solo) (v : View) (line word : ℕ) (claims : List Claim) → line < length m.locks → ((w y : ℕ) → pictured v.fixed.shape claims w ≡ Some y → pictured v.fixed.shape v.claims w ≡ Some y)
    → IsLockWord (locked claims line) (reads claims line) word → ((l : ℕ) → line ≢ l → locked claims l ≡ locked v.claims l) → ((l : ℕ) → line ≢ l → reads claims l ≡ reads v.claims l) → Sees m v
    → Sees (record m { locks = set m.locks line word }) (record v { claims = claims })
sees_locks m v line word claims within words here writes reading sees = record {
  fixed = sees.fixed;
  words = λ w y knows. sees.words w y (words w y knows);
  occupancy = sees.occupancy;
  changes = sees.changes;
  calls = sees.calls;
  counter = sees.counter;
  locks = locks_set v.claims claims m.locks line word within here writes reading sees.locks;
  zone_locks = sees.zone_locks;
  sizes = record { lines = length-set m.locks line word ∙ sees.sizes.lines; pages = sees.sizes.pages; zones_are = sees.sizes.zones_are; zone_locks_are = sees.sizes.zone_locks_are };
}

-- the answer was what a free lock word makes it
module _ (m n : Solo) (line word : ℕ) (answer : Option ℕ) (won : Bool) (within : line < length m.locks) (found : word ≡ slice_index m.locks line) (sets : SetsLock m n line answer won) where
  set_so : (w : ℕ) → answer ≡ Some w → (won ≡ true) × (n ≡ record m { locks = set m.locks line w })
  set_so w is = subst (λ (a : Option ℕ). SetsLock m n line a won) is sets

  pub write_made : slice_index m.locks line ≡ 0 → answer ≡ with_writer 0 word → (v : View) → Sees m v → Sees n (after v (TakeWrite line won)) × IsWonAlone v won
  write_made free answered v sees =
      let set_to : (won ≡ true) × (n ≡ record m { locks = set m.locks line (writer_bit 0) }) = set_so (writer_bit 0) (answered ∙ ap (with_writer 0) (found ∙ free)) in
      let none : (locked v.claims line ≡ false) × (reads v.claims line ≡ false) = free_line (locked v.claims line) (reads v.claims line) (slice_index m.locks line) (sees.locks line within) free in
      let claims : List Claim = Took line true ∷ v.claims in
      let here : IsLockWord (locked claims line) (reads claims line) (writer_bit 0) = word_is (locked claims line) (reads claims line) true false (writer_bit 0) (ap (λ b. b || locked v.claims line) (eq-eqb line line refl)) none.1 refl in
      let took : Sees (record m { locks = set m.locks line (writer_bit 0) }) (record v { claims = claims }) =
      sees_locks m v line (writer_bit 0) claims within (λ w y. forgets _ (pictured v.fixed.shape v.claims w) y) here (λ l differ. ap (λ b. b || locked v.claims l) (ne_eqb line l differ)) (λ l differ. refl) sees in
      let made : Sees n (after v (TakeWrite line true)) = subst (λ (k : Solo). Sees k (after v (TakeWrite line true))) (sym set_to.1) (sees_seen _ (record v { claims = claims }) (TakeWrite line true) (λ k e. cc) took) in
      (subst (λ (b : Bool). Sees n (after v (TakeWrite line b))) (sym set_to.0) made, λ one. subst IsTrue (sym set_to.0) (search rules))

  pub read_made : slice_index m.locks line ≡ 0 → answer ≡ with_reader 0 word → (v : View) → Sees m v → Sees n (after v (TakeRead line won)) × IsWonAlone v won
  read_made free answered v sees =
      let set_to : (won ≡ true) × (n ≡ record m { locks = set m.locks line (reader_bit 0) }) = set_so (reader_bit 0) (answered ∙ ap (with_reader 0) (found ∙ free)) in
      let none : (locked v.claims line ≡ false) × (reads v.claims line ≡ false) = free_line (locked v.claims line) (reads v.claims line) (slice_index m.locks line) (sees.locks line within) free in
      let claims : List Claim = Took line false ∷ v.claims in
      let here : IsLockWord (locked claims line) (reads claims line) (reader_bit 0) = word_is (locked claims line) (reads claims line) false true (reader_bit 0) none.0 (ap (λ b. b || reads v.claims line) (eq-eqb line line refl)) refl in
      let took : Sees (record m { locks = set m.locks line (reader_bit 0) }) (record v { claims = claims }) =
      sees_locks m v line (reader_bit 0) claims within (λ w y. forgets _ (pictured v.fixed.shape v.claims w) y) here (λ l differ. refl) (λ l differ. ap (λ b. b || reads v.claims l) (ne_eqb line l differ)) sees in
      let made : Sees n (after v (TakeRead line true)) = subst (λ (k : Solo). Sees k (after v (TakeRead line true))) (sym set_to.1) (sees_seen _ (record v { claims = claims }) (TakeRead line true) (λ k e. cc) took) in
      (subst (λ (b : Bool). Sees n (after v (TakeRead line b))) (sym set_to.0) made, λ one. subst IsTrue (sym set_to.0) (search rules))

  pub raise_made : slice_index m.locks line ≡ reader_bit 0 → answer ≡ with_raised 0 word → (v : View) → Sees m v → Sees n (after v (Raise line won)) × IsWonAlone v won
  raise_made reading answered v sees =
      let set_to : (won ≡ true) × (n ≡ record m { locks = set m.locks line (writer_bit 0) }) = set_so (writer_bit 0) (answered ∙ ap (with_raised 0) (found ∙ reading)) in
      let claims : List Claim = Raised line ∷ v.claims in
      let here : IsLockWord (locked claims line) (reads claims line) (writer_bit 0) =
      word_is (locked claims line) (reads claims line) true false (writer_bit 0) (ap (λ b. b || locked v.claims line) (eq-eqb line line refl)) (ap (λ b. not b && reads v.claims line) (eq-eqb line line refl)) refl in
      let raised_to : Sees (record m { locks = set m.locks line (writer_bit 0) }) (record v { claims = claims }) =
      sees_locks m v line (writer_bit 0) claims within (λ w y is. is) here (λ l differ. ap (λ b. b || locked v.claims l) (ne_eqb line l differ)) (λ l differ. ap (λ b. not b && reads v.claims l) (ne_eqb line l differ)) sees in
      let made : Sees n (after v (Raise line true)) = subst (λ (k : Solo). Sees k (after v (Raise line true))) (sym set_to.1) (sees_seen _ (record v { claims = claims }) (Raise line true) (λ k e. cc) raised_to) in
      (subst (λ (b : Bool). Sees n (after v (Raise line b))) (sym set_to.0) made, λ one. subst IsTrue (sym set_to.0) (search rules))

pub give_made : (m n : Solo) (line word left : ℕ) → line < length m.locks → word ≡ slice_index m.locks line → left ≡ without_lane 0 word → n ≡ record m { locks = set m.locks line left } → (v : View) → Sees m v → Sees n (after v (Give line)) × Unit {0}
give_made m n line word left within found gives is v sees =
    let claims : List Claim = Gave line ∷ v.claims in
    let none : left ≡ 0 = gives ∙ (ap (without_lane 0) found ∙ given_free (locked v.claims line) (reads v.claims line) (slice_index m.locks line) (sees.locks line within)) in
    let here : IsLockWord (locked claims line) (reads claims line) left =
    word_is (locked claims line) (reads claims line) false false left (ap (λ b. not b && locked v.claims line) (eq-eqb line line refl)) (ap (λ b. not b && reads v.claims line) (eq-eqb line line refl)) none in
    let without : Sees (record m { locks = set m.locks line left }) (record v { claims = claims }) =
    sees_locks m v line left claims within (λ w y is. is) here (λ l differ. ap (λ b. not b && locked v.claims l) (ne_eqb line l differ)) (λ l differ. ap (λ b. not b && reads v.claims l) (ne_eqb line l differ)) sees in
    (subst (λ (k : Solo). Sees k (after v (Give line))) (sym is) without, tt)

-- ---- locks of zones

-- another list of zones whose lock is held, which differs in one zone
sees_zones : (m : Solo) (v : View) (zone : ℕ) (held : Bool) (zones : List ℕ) → zone < length m.zone_locks → list_any (λ other. eqb other zone) zones ≡ held → ((other : ℕ) → zone ≢ other → list_any (λ z. eqb z other) zones ≡ list_any (λ z. eqb z other) v.zones) → Sees m v
    → Sees (record m { zone_locks = set m.zone_locks zone held }) (record v { zones = zones })
sees_zones m v zone held zones within here there sees = record {
  fixed = sees.fixed;
  words = sees.words;
  occupancy = sees.occupancy;
  changes = sees.changes;
  calls = sees.calls;
  counter = sees.counter;
  locks = sees.locks;
  zone_locks = λ other inside.
      let inside_before : other < length m.zone_locks = omega (arith, inside, length-set m.zone_locks zone held) in
      ⊎_elim
      (λ (same : zone ≡ other). ap (λ z. get_or (set m.zone_locks zone held) z false) (sym same) ∙ (get_or-set_same m.zone_locks zone held false within ∙ (sym here ∙ ap (λ z. list_any (λ k. eqb k z) zones) same)))
      (λ (differ : zone ≢ other). get_or-set_other m.zone_locks zone other held false (λ e. differ (sym e)) ∙ (sees.zone_locks other inside_before ∙ sym (there other differ)))
      (cases_eq zone other);
  sizes = record { lines = sees.sizes.lines; pages = sees.sizes.pages; zones_are = sees.sizes.zones_are; zone_locks_are = length-set m.zone_locks zone held ∙ sees.sizes.zone_locks_are };
}

abbrev without_zone : ℕ → List ℕ → List ℕ
without_zone zone zones = filter (λ z. not (eqb z zone)) zones

without_zone-here : (zones : List ℕ) (zone : ℕ) → list_any (λ z. eqb z zone) (without_zone zone zones) ≡ false
without_zone-here [] zone = refl
without_zone-here (z ∷ zones) zone =
    ⊎_elim
    (λ (same : z ≡ zone). ap (λ b. list_any (λ k. eqb k zone) (cond (not b) (z ∷ without_zone zone zones) (without_zone zone zones))) (eq-eqb z zone same) ∙ without_zone-here zones zone)
    (λ (apart : z ≢ zone).
    ap (λ b. list_any (λ k. eqb k zone) (cond (not b) (z ∷ without_zone zone zones) (without_zone zone zones))) (ne_eqb z zone apart)
    ∙ (ap (λ b. b || list_any (λ k. eqb k zone) (without_zone zone zones)) (ne_eqb z zone apart) ∙ without_zone-here zones zone))
    (cases_eq z zone)

without_zone-there : (zones : List ℕ) (zone other : ℕ) → zone ≢ other → list_any (λ z. eqb z other) (without_zone zone zones) ≡ list_any (λ z. eqb z other) zones
without_zone-there [] zone other differ = refl
without_zone-there (z ∷ zones) zone other differ =
    let rest = without_zone-there zones zone other differ in
    ⊎_elim
    (λ (same : z ≡ zone).
    ap (λ b. list_any (λ k. eqb k other) (cond (not b) (z ∷ without_zone zone zones) (without_zone zone zones))) (eq-eqb z zone same)
    ∙ (rest ∙ sym (ap (λ b. b || list_any (λ k. eqb k other) zones) (ne_eqb z other (λ e. differ (sym same ∙ e))))))
    (λ (apart : z ≢ zone). ap (λ b. list_any (λ k. eqb k other) (cond (not b) (z ∷ without_zone zone zones) (without_zone zone zones))) (ne_eqb z zone apart) ∙ ap (λ b. eqb z other || b) rest)
    (cases_eq z zone)

pub zone_try_made : (m n : Solo) (zone : ℕ) (was won : Bool) → zone < length m.zone_locks → get_or m.zone_locks zone false ≡ false → was ≡ get_or m.zone_locks zone false → won ≡ not was → n ≡ record m { zone_locks = set m.zone_locks zone true } → (v : View) → Sees m v
    → Sees n (after v (ZoneTry zone won)) × IsWonAlone v won
zone_try_made m n zone was won within free found answers is v sees =
    let granted : won ≡ true = answers ∙ ap not (found ∙ free) in
    let held : Sees (record m { zone_locks = set m.zone_locks zone true }) (record v { zones = zone ∷ v.zones }) =
    sees_zones m v zone true (zone ∷ v.zones) within (ap (λ b. b || list_any (λ z. eqb z zone) v.zones) (eq-eqb zone zone refl)) (λ other differ. ap (λ b. b || list_any (λ z. eqb z other) v.zones) (ne_eqb zone other differ)) sees in
    let made : Sees n (after v (ZoneTry zone true)) = subst (λ (k : Solo). Sees k (after v (ZoneTry zone true))) (sym is) (sees_seen _ (record v { zones = zone ∷ v.zones }) (ZoneTry zone true) (λ k e. cc) held) in
    (subst (λ (b : Bool). Sees n (after v (ZoneTry zone b))) (sym granted) made, λ one. subst IsTrue (sym granted) (search rules))

pub zone_give_made : (m n : Solo) (zone : ℕ) → zone < length m.zone_locks → n ≡ record m { zone_locks = set m.zone_locks zone false } → (v : View) → Sees m v → Sees n (after v (ZoneGive zone)) × Unit {0}
zone_give_made m n zone within is v sees =
    let without : Sees (record m { zone_locks = set m.zone_locks zone false }) (record v { zones = without_zone zone v.zones }) =
    sees_zones m v zone false (without_zone zone v.zones) within (without_zone-here v.zones zone) (λ other differ. without_zone-there v.zones zone other differ) sees in
    (subst (λ (k : Solo). Sees k (after v (ZoneGive zone))) (sym is) without, tt)
