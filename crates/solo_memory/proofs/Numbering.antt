-- How lane 0's view follows its occupancy words, its commit counter and its stop word: `m` is the memory before, `n` the memory after.
use Rattle.std.proofs.Common.{◌≡◌, ◌≢◌, ◌↔◌, ℕ, suc, ◌+◌, ◌/◌, ◌<◌, ◌≤◌, bit_and, bit_or, Bool, true, false, IsTrue, List, [], ◌∷◌, ◌++◌, length, length-append, length-set, set, slice_index, refl, sym, ap, ◌∙◌, subst, arith}
use Rattle.std.specs.Int.{bit_not, w64}
use Rattle.std.specs.List.{All, Contains}
use Rattle.std.proofs.lemmas.Bool.{false≢true}
use Rattle.std.proofs.lemmas.List.{set-get_or}
use Rattle.std.proofs.lemmas.List.Elements.{All-cons, All-weaker, All-nil}
use Rattle.solo_view.specs.declared.occ.Occ.{Occ}
use Rattle.solo_view.specs.declared.occ.Occ.TheVariants.{Run, Zone}
use Rattle.solo_view.specs.Founds.{IsAlone}
use Rattle.solo_view.specs.Log.{Phase}
use Rattle.solo_view.specs.Log.Phase.{Idle, Open, Drawn, Sealing, Applying, Clearing, Retiring}
use Rattle.solo_view.specs.Steps.{Step}
use Rattle.solo_view.specs.Steps.Step.{Occupied, Occupy, Vacate, Draw, NumberSeen, StopSeen}
use Rattle.solo_view.specs.View.{View, Taken, Numbered}
use Rattle.solo_view.specs.Views.{after, begun, exchanged, occ_in, runs_with, zones_with, vacated_word, with_taken, without_taken, with_occ as pictured}
use Rattle.solo_memory.specs.Solo.{Solo, Sees, AreNumbered, IsGranted, occ_word, with_occ}
use Rattle.solo_memory.proofs.Seeing.{sees_seen}

-- another occupancy word, in the memory and in the picture of it; what the lane reserved or freed is no concern of the memory
sees_occ : (m : Solo) (at : Occ) (word : ℕ) (v : View) (reserved freed : List Taken) (known : List ℕ) → Sees m v → Sees (with_occ m at word) (record (pictured at word v) { reserved = reserved; freed = freed; known = known })
sees_occ m (Run place) word v reserved freed known sees = record {
  lane = sees.lane;
  words = sees.words;
  changes = sees.changes;
  stop = sees.stop;
  calls = sees.calls;
  within = sees.within;
  numbers = sees.numbers;
  count = sees.count;
  counter = sees.counter;
  locks = sees.locks;
  zone_locks = sees.zone_locks;
  lines = sees.lines;
  runs = ap (λ (runs : List ℕ). set runs (place / 4096) word) sees.runs;
  zones = sees.zones;
  pages = length-set m.runs (place / 4096) word ∙ sees.pages;
  zone_count = sees.zone_count;
  zone_lock_count = sees.zone_lock_count;
  alone = sees.alone;
}
sees_occ m (Zone zone) word v reserved freed known sees = record {
  lane = sees.lane;
  words = sees.words;
  changes = sees.changes;
  stop = sees.stop;
  calls = sees.calls;
  within = sees.within;
  numbers = sees.numbers;
  count = sees.count;
  counter = sees.counter;
  locks = sees.locks;
  zone_locks = sees.zone_locks;
  lines = sees.lines;
  runs = sees.runs;
  zones = ap (λ (zones : List ℕ). set zones zone word) sees.zones;
  pages = sees.pages;
  zone_count = length-set m.zones zone word ∙ sees.zone_count;
  zone_lock_count = sees.zone_lock_count;
  alone = sees.alone;
}

-- the picture of an occupancy word is the word
pictured_so : (m : Solo) (at : Occ) (v : View) → Sees m v → occ_in v at ≡ occ_word m at
pictured_so m (Run place) v sees = ap (λ (runs : List ℕ). slice_index runs (place / 4096)) sees.runs
pictured_so m (Zone zone) v sees = ap (λ (zones : List ℕ). slice_index zones zone) sees.zones

-- a word made what it is stays
pub same_runs : (at : Occ) (v : View) → runs_with at (occ_in v at) v.run_words ≡ v.run_words
same_runs (Run place) v = set-get_or v.run_words (place / 4096) 0
same_runs (Zone zone) v = refl

pub same_zones : (at : Occ) (v : View) → zones_with at (occ_in v at) v.zone_words ≡ v.zone_words
same_zones (Run place) v = refl
same_zones (Zone zone) v = set-get_or v.zone_words zone 0

sees_found : (m : Solo) (at : Occ) (found : ℕ) (v : View) → found ≡ occ_in v at → Sees m v → Sees m (pictured at found v)
sees_found m at found v is sees = record {
  lane = sees.lane;
  words = sees.words;
  changes = sees.changes;
  stop = sees.stop;
  calls = sees.calls;
  within = sees.within;
  numbers = sees.numbers;
  count = sees.count;
  counter = sees.counter;
  locks = sees.locks;
  zone_locks = sees.zone_locks;
  lines = sees.lines;
  runs = ap (λ x. runs_with at x v.run_words) is ∙ (same_runs at v ∙ sees.runs);
  zones = ap (λ x. zones_with at x v.zone_words) is ∙ (same_zones at v ∙ sees.zones);
  pages = sees.pages;
  zone_count = sees.zone_count;
  zone_lock_count = sees.zone_lock_count;
  alone = sees.alone;
}

pub occupied_made : (m : Solo) (at : Occ) (found : ℕ) → found ≡ occ_word m at → (v : View) → Sees m v → Sees m (after v (Occupied at found)) × Unit {0} × (IsAlone v → found ≡ occ_in v at)
occupied_made m at found is v sees =
    let same : found ≡ occ_in v at = is ∙ sym (pictured_so m at v sees) in
    (sees_seen m (pictured at found v) (Occupied at found) tt (λ k e. cc) (sees_found m at found v same sees), tt, λ alone. same)

pub occupy_refused : (m : Solo) (at : Occ) (bits found : ℕ) → found ≡ occ_word m at → bit_and found bits ≢ 0 → (v : View) → Sees m v → Sees m (after v (Occupy at bits false)) × Unit {0} × (IsAlone v → IsTrue false ↔ (bit_and (occ_in v at) bits ≡ 0))
occupy_refused m at bits found is taken v sees = (
  sees_seen m (pictured at (occ_in v at) v) (Occupy at bits false) tt (λ k e. cc) (sees_found m at (occ_in v at) v refl sees),
  tt,
  λ alone. ((λ t. absurd (false≢true t)), λ none. absurd (taken (ap (λ w. bit_and w bits) (is ∙ sym (pictured_so m at v sees)) ∙ none))),
)

pub occupy_made : (m n : Solo) (at : Occ) (bits found : ℕ) → found ≡ occ_word m at → bit_and found bits ≡ 0 → n ≡ with_occ m at (bit_or found bits) → (v : View) → Sees m v → Sees n (after v (Occupy at bits true)) × Unit {0} × (IsAlone v → IsTrue true ↔ (bit_and (occ_in v at) bits ≡ 0))
occupy_made m n at bits found was free is v sees =
    let reserved : List Taken = with_taken at bits true v.reserved in
    let word : ℕ = bit_or (occ_in v at) bits in
    let becomes : n ≡ with_occ m at word = is ∙ ap (λ w. with_occ m at (bit_or w bits)) (was ∙ sym (pictured_so m at v sees)) in (
      subst (λ (k : Solo). Sees k (after v (Occupy at bits true))) (sym becomes) (sees_seen _ (record (pictured at word v) { reserved = reserved }) (Occupy at bits true) tt (λ k e. cc) (sees_occ m at word v reserved v.freed v.known sees)),
      tt,
      λ alone. ((λ t. ap (λ w. bit_and w bits) (pictured_so m at v sees ∙ sym was) ∙ free), λ none. refl),
    )

pub vacate_made : (m n : Solo) (at : Occ) (bits found : ℕ) → found ≡ occ_word m at → n ≡ with_occ m at (bit_and found (bit_not w64 bits)) → (v : View) → Sees m v → Sees n (after v (Vacate at bits)) × Unit {0} × Unit {0}
vacate_made m n at bits found was is v sees =
    let becomes : n ≡ with_occ m at (vacated_word bits (occ_in v at)) = is ∙ ap (λ w. with_occ m at (vacated_word bits w)) (was ∙ sym (pictured_so m at v sees)) in
    (subst (λ (k : Solo). Sees k (after v (Vacate at bits))) (sym becomes) (sees_occ m at (vacated_word bits (occ_in v at)) v (without_taken at bits (exchanged v at)) (without_taken at bits v.freed) _ sees), tt, tt)

-- entries that are numbered from one number on, with one more behind them
numbered_more : (n : ℕ) (entries : List Numbered) (e : Numbered) → AreNumbered n entries → e.number ≡ n + length entries → AreNumbered n (entries ++ e ∷ [])
unfolding AreNumbered
numbered_more n [] e numbered is = (omega (arith, is), tt)
numbered_more n (d ∷ entries) e numbered is = (numbered.0, numbered_more (n + 1) entries e numbered.1 (omega (arith, is)))

-- each number is below that behind the last
numbered_below : (n : ℕ) (entries : List Numbered) → AreNumbered n entries → All (λ (e : Numbered). e.number < n + length entries) entries
unfolding AreNumbered
numbered_below n [] numbered = All-nil (λ (e : Numbered). e.number < n + 0)
numbered_below n (d ∷ entries) numbered =
    All-cons (λ (e : Numbered). e.number < n + suc (length entries)) d entries (let first = numbered.0 in omega (arith, first))
    (All-weaker (λ (e : Numbered). e.number < n + 1 + length entries) (λ (e : Numbered). e.number < n + suc (length entries)) (λ e few. omega (arith, few)) entries (numbered_below (n + 1) entries numbered.1))

own_below : (m : Solo) (v : View) (n : ℕ) → Sees m v → m.number < n → All (λ (e : Numbered). e.number < n) v.entries
own_below m v n sees below =
    let count = sees.count in
    All-weaker (λ (e : Numbered). e.number < 1 + length v.entries) (λ (e : Numbered). e.number < n) (λ e few. omega (arith, few, count, below)) v.entries (numbered_below 1 v.entries sees.numbers)

-- the number drawn is above the lane's own, and the counter
pub draw_made : (m n : Solo) (number : ℕ) → number ≡ m.number + 1 → n ≡ record m { number = m.number + 1 } → (v : View) → Sees m v → Sees n (after v (Draw number)) × All (λ (e : Numbered). e.number < number) v.entries × Unit {0}
draw_made m n number next is v sees = (
  subst (λ (k : Solo). Sees k (after v (Draw number))) (sym is) record {
    lane = sees.lane;
    words = sees.words;
    changes = sees.changes;
    stop = sees.stop;
    calls = sees.calls;
    within = sees.within;
    numbers = numbered_more 1 v.entries (record { number = number; call = v.call }) sees.numbers (let count = sees.count in omega (arith, next, count));
    count = let count = sees.count in omega (arith, count, length-append v.entries (record { number = number; call = v.call } ∷ []));
    counter = λ none k among. cc;
    locks = sees.locks;
    zone_locks = sees.zone_locks;
    lines = sees.lines;
    runs = sees.runs;
    zones = sees.zones;
    pages = sees.pages;
    zone_count = sees.zone_count;
    zone_lock_count = sees.zone_lock_count;
    alone = sees.alone;
  },
  own_below m v number sees (omega (arith, next)),
  tt,
)

nothing_seen : (s : Step) → Contains [] s → ⊥
nothing_seen s among = absurd (omega (arith, among.1))

sees_begun : (m : Solo) (phase : Phase) (v : View) → Sees m v → Sees m (begun phase v)
sees_begun m Idle v sees = record {
  lane = sees.lane;
  words = sees.words;
  changes = sees.changes;
  stop = sees.stop;
  calls = sees.calls;
  within = sees.within;
  numbers = sees.numbers;
  count = sees.count;
  counter = λ none k among. absurd (nothing_seen (NumberSeen k) among);
  locks = sees.locks;
  zone_locks = sees.zone_locks;
  lines = sees.lines;
  runs = sees.runs;
  zones = sees.zones;
  pages = sees.pages;
  zone_count = sees.zone_count;
  zone_lock_count = sees.zone_lock_count;
  alone = All-nil IsGranted;
}
sees_begun m (Open slot pair) v sees = sees
sees_begun m Drawn v sees = sees
sees_begun m Sealing v sees = sees
sees_begun m (Applying applied) v sees = sees
sees_begun m Clearing v sees = sees
sees_begun m Retiring v sees = sees

pub number_seen_made : (m : Solo) (number : ℕ) → number ≡ m.number → (v : View) → Sees m v → Sees m (after v (NumberSeen number)) × All (λ (e : Numbered). e.number ≤ number) v.entries × (IsAlone v → number ≡ length v.entries)
number_seen_made m number is v sees = (
  sees_seen m (begun v.log.phase v) (NumberSeen number) tt (λ k e. let same : number ≡ k = cc in sym is ∙ same) (sees_begun m v.log.phase v sees),
  All-weaker (λ (e : Numbered). e.number < number + 1) (λ (e : Numbered). e.number ≤ number) (λ e few. omega (arith, few)) v.entries (own_below m v (number + 1) sees (omega (arith, is))),
  λ alone. is ∙ sees.count,
)

pub stop_seen_made : (m : Solo) (stopped : Bool) (v : View) → Sees m v → Sees m (after v (StopSeen stopped)) × Unit {0} × Unit {0}
stop_seen_made m stopped v sees = (sees_seen m v (StopSeen stopped) tt (λ k e. cc) sees, tt, tt)
