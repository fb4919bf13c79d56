-- How lane 0's view follows its memory, a call on a volatile word at a time: `m` is the memory before, `n` the memory after.
use Rattle.std.proofs.Common.{IsTrue, ◌≡◌, ◌≢◌, ◌⊎◌, ⊎_elim, ℕ, ◌<◌, Bool, true, false, not, ◌||◌, cond, eqb, List, [], ◌∷◌, ◌++◌, length, slice_index, get_or, set, Option, Some, None, refl, sym, ap, ◌∙◌, subst, arith, eq-eqb, ne_eqb, length-set, get_or-set_same, get_or-set_other, rules}
use Rattle.std.specs.List.{filter, list_any}
use Rattle.std.proofs.lemmas.Bool.{cases_eq}
use Rattle.std.proofs.lemmas.List.Folds.{list_any-append}
use Rattle.solo_view.specs.Founds.{IsAlone}
use Rattle.solo_view.specs.Steps.Step.{TakeWrite, TakeRead, Raise, Give, ZoneTry, ZoneGive}
use Rattle.solo_view.specs.View.{View, Lock, Taken}
use Rattle.solo_view.specs.Views.{after, taken, raised}
use Rattle.solo_memory.specs.LockWords.{reader_bit, writer_bit, with_writer, with_reader, with_raised, without_lane}
use Rattle.solo_memory.specs.Solo.{Solo, Sees, SetsLock, lock_word}
use Rattle.solo_memory.proofs.HeldLocks.{held_word, lock_word-values, lock_word-append_other, lock_word-append_same, lock_word-raised_other, lock_word-raised_same, lock_word-given_other, lock_word-given_same}
use Rattle.solo_memory.proofs.Seeing.{sees_seen}

-- another list of held locks, which differs in one line
sees_locks : (m : Solo) (v : View) (line word : ℕ) (locks : List Lock) → line < length m.locks → lock_word locks line ≡ word → ((other : ℕ) → line ≢ other → lock_word locks other ≡ lock_word v.locks other) → Sees m v
    → Sees (record m { locks = set m.locks line word }) (record v { locks = locks })
sees_locks m v line word locks within here there sees = record {
  lane = sees.lane;
  words = sees.words;
  changes = sees.changes;
  stop = sees.stop;
  calls = sees.calls;
  within = sees.within;
  numbers = sees.numbers;
  count = sees.count;
  counter = sees.counter;
  locks = λ other inside.
      let inside_before : other < length m.locks = omega (arith, inside, length-set m.locks line word) in
      ⊎_elim
      (λ (same : line ≡ other). ap (slice_index (set m.locks line word)) (sym same) ∙ (get_or-set_same m.locks line word 0 within ∙ (sym here ∙ ap (lock_word locks) same)))
      (λ (differ : line ≢ other). get_or-set_other m.locks line other word 0 (λ e. differ (sym e)) ∙ (sees.locks other inside_before ∙ sym (there other differ)))
      (cases_eq line other);
  zone_locks = sees.zone_locks;
  lines = length-set m.locks line word ∙ sees.lines;
  runs = sees.runs;
  zones = sees.zones;
  pages = sees.pages;
  zone_count = sees.zone_count;
  zone_lock_count = sees.zone_lock_count;
  alone = sees.alone;
}

sees_taken : (m : Solo) (v : View) (line : ℕ) (write : Bool) → line < length m.locks → slice_index m.locks line ≡ 0 → Sees m v
    → Sees (record m { locks = set m.locks line (cond write (writer_bit 0) (reader_bit 0)) }) (record v { locks = taken line write true v.locks })
sees_taken m v line write within free sees =
    let l : Lock = record { line = line; write = write; block = None } in
    sees_locks m v line (held_word l) (v.locks ++ l ∷ []) within (lock_word-append_same v.locks l line refl (sym (sees.locks line within) ∙ free)) (λ other differ. lock_word-append_other v.locks l other differ) sees

-- the answer was what a free lock word makes it
module _ (m n : Solo) (line word : ℕ) (answer : Option ℕ) (won : Bool) (within : line < length m.locks) (found : word ≡ slice_index m.locks line) (sets : SetsLock m n line answer won) where
  set_so : (w : ℕ) → answer ≡ Some w → (won ≡ true) × (n ≡ record m { locks = set m.locks line w })
  set_so w is = subst (λ (a : Option ℕ). SetsLock m n line a won) is sets

  pub write_made : slice_index m.locks line ≡ 0 → answer ≡ with_writer 0 word → (v : View) → Sees m v → Sees n (after v (TakeWrite line won)) × Unit {0} × (IsAlone v → IsTrue won)
  write_made free answered v sees =
      let set : (won ≡ true) × (n ≡ record m { locks = set m.locks line (writer_bit 0) }) = set_so (writer_bit 0) (answered ∙ ap (with_writer 0) (found ∙ free)) in
      let made : Sees n (after v (TakeWrite line true)) = subst (λ (k : Solo). Sees k (after v (TakeWrite line true))) (sym set.1) (sees_seen _ _ (TakeWrite line true) (search rules) (λ k e. cc) (sees_taken m v line true within free sees)) in
      (subst (λ (b : Bool). Sees n (after v (TakeWrite line b))) (sym set.0) made, tt, λ alone. subst IsTrue (sym set.0) (search rules))

  pub read_made : slice_index m.locks line ≡ 0 → answer ≡ with_reader 0 word → (v : View) → Sees m v → Sees n (after v (TakeRead line won)) × Unit {0} × (IsAlone v → IsTrue won)
  read_made free answered v sees =
      let set : (won ≡ true) × (n ≡ record m { locks = set m.locks line (reader_bit 0) }) = set_so (reader_bit 0) (answered ∙ ap (with_reader 0) (found ∙ free)) in
      let made : Sees n (after v (TakeRead line true)) = subst (λ (k : Solo). Sees k (after v (TakeRead line true))) (sym set.1) (sees_seen _ _ (TakeRead line true) (search rules) (λ k e. cc) (sees_taken m v line false within free sees)) in
      (subst (λ (b : Bool). Sees n (after v (TakeRead line b))) (sym set.0) made, tt, λ alone. subst IsTrue (sym set.0) (search rules))

  pub raise_made : slice_index m.locks line ≡ reader_bit 0 → answer ≡ with_raised 0 word → (v : View) → Sees m v → Sees n (after v (Raise line won)) × Unit {0} × (IsAlone v → IsTrue won)
  raise_made reads answered v sees =
      let set : (won ≡ true) × (n ≡ record m { locks = set m.locks line (writer_bit 0) }) = set_so (writer_bit 0) (answered ∙ ap (with_raised 0) (found ∙ reads)) in
      let held : lock_word v.locks line ≡ reader_bit 0 = sym (sees.locks line within) ∙ reads in
      let up = sees_locks m v line (writer_bit 0) (raised line true v.locks) within (lock_word-raised_same v.locks line (λ none. absurd (omega (arith, held, none)))) (λ other differ. lock_word-raised_other v.locks line other differ) sees in
      let made : Sees n (after v (Raise line true)) = subst (λ (k : Solo). Sees k (after v (Raise line true))) (sym set.1) (sees_seen _ _ (Raise line true) (search rules) (λ k e. cc) up) in
      (subst (λ (b : Bool). Sees n (after v (Raise line b))) (sym set.0) made, tt, λ alone. subst IsTrue (sym set.0) (search rules))

-- of a lock word of one lane nothing is left
given_free : (word : ℕ) → (word ≡ 0) ⊎ ((word ≡ reader_bit 0) ⊎ (word ≡ writer_bit 0)) → without_lane 0 word ≡ 0
given_free word values =
    ⊎_elim (λ (free : word ≡ 0). ap (without_lane 0) free) (λ (held : (word ≡ reader_bit 0) ⊎ (word ≡ writer_bit 0)). ⊎_elim (λ (read : word ≡ reader_bit 0). ap (without_lane 0) read) (λ (write : word ≡ writer_bit 0). ap (without_lane 0) write) held) values

-- the view without what it no longer holds, reserved or freed
sees_regions : (m : Solo) (v : View) (reserved freed : List Taken) (known : List ℕ) → Sees m v → Sees m (record v { reserved = reserved; freed = freed; known = known })
sees_regions m v reserved freed known sees = record {
  lane = sees.lane;
  words = sees.words;
  changes = sees.changes;
  stop = sees.stop;
  calls = sees.calls;
  within = sees.within;
  numbers = sees.numbers;
  count = sees.count;
  counter = sees.counter;
  locks = sees.locks;
  zone_locks = sees.zone_locks;
  lines = sees.lines;
  runs = sees.runs;
  zones = sees.zones;
  pages = sees.pages;
  zone_count = sees.zone_count;
  zone_lock_count = sees.zone_lock_count;
  alone = sees.alone;
}

pub give_made : (m n : Solo) (line word left : ℕ) → line < length m.locks → word ≡ slice_index m.locks line → left ≡ without_lane 0 word → n ≡ record m { locks = set m.locks line left } → (v : View) → Sees m v → Sees n (after v (Give line)) × Unit {0} × Unit {0}
give_made m n line word left within found gives is v sees =
    let others : List Lock = filter (λ (l : Lock). not (eqb l.line line)) v.locks in
    let none : left ≡ 0 = gives ∙ (ap (without_lane 0) (found ∙ sees.locks line within) ∙ given_free (lock_word v.locks line) (lock_word-values v.locks line)) in
    let without : Sees (record m { locks = set m.locks line left }) (record v { locks = others }) =
    sees_locks m v line left others within (lock_word-given_same v.locks line ∙ sym none) (λ other differ. lock_word-given_other v.locks line other differ) sees in
    (subst (λ (k : Solo). Sees k (after v (Give line))) (sym is) (sees_regions _ (record v { locks = others }) v.reserved v.freed _ without), tt, tt)

-- another list of zones whose lock is held, which differs in one zone
sees_zones : (m : Solo) (v : View) (zone : ℕ) (held : Bool) (zones : List ℕ) → zone < length m.zone_locks → list_any (λ other. eqb other zone) zones ≡ held → ((other : ℕ) → zone ≢ other → list_any (λ z. eqb z other) zones ≡ list_any (λ z. eqb z other) v.zone_locks) → Sees m v
    → Sees (record m { zone_locks = set m.zone_locks zone held }) (record v { zone_locks = zones })
sees_zones m v zone held zones within here there sees = record {
  lane = sees.lane;
  words = sees.words;
  changes = sees.changes;
  stop = sees.stop;
  calls = sees.calls;
  within = sees.within;
  numbers = sees.numbers;
  count = sees.count;
  counter = sees.counter;
  locks = sees.locks;
  zone_locks = λ other inside.
      let inside_before : other < length m.zone_locks = omega (arith, inside, length-set m.zone_locks zone held) in
      ⊎_elim
      (λ (same : zone ≡ other). ap (λ z. get_or (set m.zone_locks zone held) z false) (sym same) ∙ (get_or-set_same m.zone_locks zone held false within ∙ (sym here ∙ ap (λ z. list_any (λ k. eqb k z) zones) same)))
      (λ (differ : zone ≢ other). get_or-set_other m.zone_locks zone other held false (λ e. differ (sym e)) ∙ (sees.zone_locks other inside_before ∙ sym (there other differ)))
      (cases_eq zone other);
  lines = sees.lines;
  runs = sees.runs;
  zones = sees.zones;
  pages = sees.pages;
  zone_count = sees.zone_count;
  zone_lock_count = length-set m.zone_locks zone held ∙ sees.zone_lock_count;
  alone = sees.alone;
}

pub or_false : (b : Bool) → (b || false) ≡ b
or_false true = refl
or_false false = refl

pub or_true : (b : Bool) → (b || true) ≡ true
or_true true = refl
or_true false = refl

-- whether a zone is among those with one more
pub one_more : (zones : List ℕ) (zone other : ℕ) (b : Bool) → eqb zone other ≡ b → list_any (λ z. eqb z other) (zones ++ zone ∷ []) ≡ (list_any (λ z. eqb z other) zones || b)
one_more zones zone other b is = list_any-append (λ z. eqb z other) zones (zone ∷ []) ∙ ap (λ c. list_any (λ z. eqb z other) zones || c) (or_false (eqb zone other) ∙ is)

abbrev pub without_zone : ℕ → List ℕ → List ℕ
without_zone zone zones = filter (λ z. not (eqb z zone)) zones

pub without_zone-here : (zones : List ℕ) (zone : ℕ) → list_any (λ z. eqb z zone) (without_zone zone zones) ≡ false
without_zone-here [] zone = refl
without_zone-here (z ∷ zones) zone =
    ⊎_elim
    (λ (same : z ≡ zone). ap (λ b. list_any (λ k. eqb k zone) (cond (not b) (z ∷ without_zone zone zones) (without_zone zone zones))) (eq-eqb z zone same) ∙ without_zone-here zones zone)
    (λ (apart : z ≢ zone).
    ap (λ b. list_any (λ k. eqb k zone) (cond (not b) (z ∷ without_zone zone zones) (without_zone zone zones))) (ne_eqb z zone apart)
    ∙ (ap (λ b. b || list_any (λ k. eqb k zone) (without_zone zone zones)) (ne_eqb z zone apart) ∙ without_zone-here zones zone))
    (cases_eq z zone)

pub without_zone-there : (zones : List ℕ) (zone other : ℕ) → zone ≢ other → list_any (λ z. eqb z other) (without_zone zone zones) ≡ list_any (λ z. eqb z other) zones
without_zone-there [] zone other differ = refl
without_zone-there (z ∷ zones) zone other differ =
    let rest = without_zone-there zones zone other differ in
    ⊎_elim
    (λ (same : z ≡ zone).
    ap (λ b. list_any (λ k. eqb k other) (cond (not b) (z ∷ without_zone zone zones) (without_zone zone zones))) (eq-eqb z zone same)
    ∙ (rest ∙ sym (ap (λ b. b || list_any (λ k. eqb k other) zones) (ne_eqb z other (λ e. differ (sym same ∙ e))))))
    (λ (apart : z ≢ zone). ap (λ b. list_any (λ k. eqb k other) (cond (not b) (z ∷ without_zone zone zones) (without_zone zone zones))) (ne_eqb z zone apart) ∙ ap (λ b. eqb z other || b) rest)
    (cases_eq z zone)

pub zone_try_made : (m n : Solo) (zone : ℕ) (was won : Bool) → zone < length m.zone_locks → get_or m.zone_locks zone false ≡ false → was ≡ get_or m.zone_locks zone false → won ≡ not was → n ≡ record m { zone_locks = set m.zone_locks zone true } → (v : View) → Sees m v
    → Sees n (after v (ZoneTry zone won)) × Unit {0} × (IsAlone v → IsTrue won)
zone_try_made m n zone was won within free found answers is v sees =
    let granted : won ≡ true = answers ∙ ap not (found ∙ free) in
    let held : Sees (record m { zone_locks = set m.zone_locks zone true }) (record v { zone_locks = v.zone_locks ++ zone ∷ [] }) =
    sees_zones m v zone true (v.zone_locks ++ zone ∷ []) within (one_more v.zone_locks zone zone true (eq-eqb zone zone refl) ∙ or_true _) (λ other differ. one_more v.zone_locks zone other false (ne_eqb zone other differ) ∙ or_false _) sees in
    let made : Sees n (after v (ZoneTry zone true)) = subst (λ (k : Solo). Sees k (after v (ZoneTry zone true))) (sym is) (sees_seen _ _ (ZoneTry zone true) (search rules) (λ k e. cc) held) in
    (subst (λ (b : Bool). Sees n (after v (ZoneTry zone b))) (sym granted) made, tt, λ alone. subst IsTrue (sym granted) (search rules))

pub zone_give_made : (m n : Solo) (zone : ℕ) → zone < length m.zone_locks → n ≡ record m { zone_locks = set m.zone_locks zone false } → (v : View) → Sees m v → Sees n (after v (ZoneGive zone)) × Unit {0} × Unit {0}
zone_give_made m n zone within is v sees =
    let without : Sees (record m { zone_locks = set m.zone_locks zone false }) (record v { zone_locks = without_zone zone v.zone_locks }) =
    sees_zones m v zone false (without_zone zone v.zone_locks) within (without_zone-here v.zone_locks zone) (λ other differ. without_zone-there v.zone_locks zone other differ) sees in
    (subst (λ (k : Solo). Sees k (after v (ZoneGive zone))) (sym is) (sees_seen _ _ (ZoneGive zone) tt (λ k e. cc) without), tt, tt)
