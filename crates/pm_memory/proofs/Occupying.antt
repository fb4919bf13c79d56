-- How the view of lane 0 follows its memory, a call on an occupancy word, the commit counter or
-- the stop word at a time: `m` is the memory before, `n` the memory after.
use Rattle.std.proofs.Common.{IsTrue, ◌≡◌, ◌≢◌, ◌↔◌, ℕ, suc, ◌+◌, ◌/◌, ◌%◌, ◌<◌, ◌≤◌, bit_and, bit_or, Bool, true, false, cond, eqb, List, [], ◌∷◌, length, slice_index, set, Option, Some, None, IfSome, refl, sym, ap, ◌∙◌, subst, arith, eq-eqb, length-set, get_or-set_same, get_or-set_other, ◌^◌}
use Rattle.std.specs.Int.{bit_not, w64}
use Rattle.std.specs.List.{All}
use Rattle.std.specs.Option.{option_map}
use Rattle.std.proofs.lemmas.Bool.{eqb-true, false≢true}
use Rattle.std.proofs.lemmas.List.Elements.{All-cons, All-nil}
use Rattle.pm_objects.specs.declared.calls.Operation.{Operation}
use Rattle.pm_objects.specs.declared.history.Value.{Value}
use Rattle.pm_view.specs.declared.occ.Occ.{Occ}
use Rattle.pm_view.specs.declared.occ.Occ.TheVariants.{Run, Zone}
use Rattle.pm_view.specs.Claims.{Claim, Reserved, Released, pictured}
use Rattle.pm_view.specs.Founds.{Found}
use Rattle.pm_view.specs.Log.{Phase, Idle, Open, Drawn, Sealing, Applying, Clearing, Retiring, Voiding}
use Rattle.pm_view.specs.Steps.Step.{Occupied, Occupy, Vacate, Draw, NumberSeen, StopSeen, Tell}
use Rattle.pm_view.specs.View.{View, Seen, Numbered, entry_drawn}
use Rattle.pm_view.specs.Views.{after, begun, occupancy_of, occupancy_with, is_same_occ}
use Rattle.pm_memory.specs.Solo.{Solo, Sees, AreSeen, AreNumbered, IsCounter, HasWord, occ_word, with_occ}
use Rattle.pm_memory.proofs.Growing.{Grows, forgets, known_grown}
use Rattle.pm_memory.proofs.Seeing.{locks_same}
use Rattle.pm_memory.proofs.Volatile.{sees_seen}

-- ---- what is seen of occupancy words

-- what is last seen of a word, after one was seen or changed that is the same or another
abbrev told : Bool → Option ℕ → Option ℕ → Option ℕ
told same None rest = rest
told same (Some y) rest = cond same (Some y) rest

told_with : (at at' : Occ) (o : Option ℕ) (seen : List Seen) → occupancy_of (occupancy_with at o seen) at' ≡ told (is_same_occ at at') o (occupancy_of seen at')
told_with at at' None seen = refl
told_with at at' (Some y) seen = refl

told_other : (o rest : Option ℕ) → told false o rest ≡ rest
told_other None rest = refl
told_other (Some y) rest = refl

-- the word at i became that of f; what was seen of the word at j is so
changed_word : (words : List ℕ) (i j : ℕ) (same : Bool) (f : ℕ → ℕ) (o rest : Option ℕ) → i < length words → (same ≡ true → (i ≡ j) × (rest ≡ o)) → (same ≡ false → i ≢ j)
    → ((y : ℕ) → o ≡ Some y → slice_index words i ≡ y) → ((y : ℕ) → rest ≡ Some y → slice_index words j ≡ y) → (x : ℕ) → told same (option_map f o) rest ≡ Some x → slice_index (set words i (f (slice_index words i))) j ≡ x
changed_word words i j false f o rest within alike apart here there x is =
    get_or-set_other words i j (f (slice_index words i)) 0 (λ e. apart refl (sym e)) ∙ there x (sym (told_other (option_map f o) rest) ∙ is)
changed_word words i j true f None rest within alike apart here there x is = let none : rest ≡ None = (alike refl).1 in cc
changed_word words i j true f (Some y) rest within alike apart here there x is =
    let e : f y ≡ x = cc in
    ap (slice_index (set words i (f (slice_index words i)))) (sym (alike refl).0) ∙ (get_or-set_same words i (f (slice_index words i)) 0 within ∙ (ap f (here y refl) ∙ e))

-- an occupancy word changed
abbrev occ_becomes : Solo → Occ → (ℕ → ℕ) → Solo
occ_becomes m at f = with_occ m at (f (occ_word m.runs m.zones at))

seen_changed : (m : Solo) (at : Occ) (f : ℕ → ℕ) (seen : List Seen) → HasWord m.runs m.zones at → AreSeen seen m.runs m.zones → AreSeen (occupancy_with at (option_map f (occupancy_of seen at)) seen) (occ_becomes m at f).runs (occ_becomes m at f).zones
seen_changed m (Run place) f seen has are (Run q) x there is =
    let has_before : (q % 4096 ≡ 0) × (q / 4096 < length m.runs) = (there.0, let within = there.1 in omega (arith, within, length-set m.runs (place / 4096) (f (slice_index m.runs (place / 4096))))) in
    changed_word m.runs (place / 4096) (q / 4096) (eqb place q) f (occupancy_of seen (Run place)) (occupancy_of seen (Run q)) has.1
    (λ e. let same : place ≡ q = eqb-true place q e in (ap (λ p. p / 4096) same, ap (λ p. occupancy_of seen (Run p)) (sym same)))
    (λ e pages. let a = has.0 in let b = has_before.0 in let same : place ≡ q = omega (arith, a, b, pages) in absurd (false≢true (sym e ∙ eq-eqb place q same)))
    (λ y before. are (Run place) y has before)
    (λ y before. are (Run q) y has_before before)
    x (sym (told_with (Run place) (Run q) (option_map f (occupancy_of seen (Run place))) seen) ∙ is)
seen_changed m (Run place) f seen has are (Zone z) x there is = are (Zone z) x there (sym (told_with (Run place) (Zone z) (option_map f (occupancy_of seen (Run place))) seen ∙ told_other (option_map f (occupancy_of seen (Run place))) (occupancy_of seen (Zone z))) ∙ is)
seen_changed m (Zone zone) f seen has are (Run q) x there is = are (Run q) x there (sym (told_with (Zone zone) (Run q) (option_map f (occupancy_of seen (Zone zone))) seen ∙ told_other (option_map f (occupancy_of seen (Zone zone))) (occupancy_of seen (Run q))) ∙ is)
seen_changed m (Zone zone) f seen has are (Zone z) x there is =
    let has_before : z < length m.zones = omega (arith, there, length-set m.zones zone (f (slice_index m.zones zone))) in
    changed_word m.zones zone z (eqb zone z) f (occupancy_of seen (Zone zone)) (occupancy_of seen (Zone z)) has
    (λ e. let same : zone ≡ z = eqb-true zone z e in (same, ap (λ p. occupancy_of seen (Zone p)) (sym same)))
    (λ e same. absurd (false≢true (sym e ∙ eq-eqb zone z same)))
    (λ y before. are (Zone zone) y has before)
    (λ y before. are (Zone z) y has_before before)
    x (sym (told_with (Zone zone) (Zone z) (option_map f (occupancy_of seen (Zone zone))) seen) ∙ is)

-- a word was seen as it is
head_or_rest : (words : List ℕ) (i j : ℕ) (same : Bool) (found : ℕ) (rest : Option ℕ) → found ≡ slice_index words i → (same ≡ true → i ≡ j) → ((y : ℕ) → rest ≡ Some y → slice_index words j ≡ y) → (x : ℕ) → cond same (Some found) rest ≡ Some x → slice_index words j ≡ x
head_or_rest words i j false found rest is alike there x seen = there x seen
head_or_rest words i j true found rest is alike there x seen = let e : found ≡ x = cc in ap (slice_index words) (sym (alike refl)) ∙ (sym is ∙ e)

seen_more : (runs zones : List ℕ) (at : Occ) (found : ℕ) (seen : List Seen) → found ≡ occ_word runs zones at → AreSeen seen runs zones → AreSeen (record { at = at; bits = found } ∷ seen) runs zones
seen_more runs zones (Run place) found seen is are (Run q) x there sees = head_or_rest runs (place / 4096) (q / 4096) (eqb place q) found (occupancy_of seen (Run q)) is (λ e. ap (λ p. p / 4096) (eqb-true place q e)) (λ y before. are (Run q) y there before) x sees
seen_more runs zones (Run place) found seen is are (Zone z) x there sees = are (Zone z) x there sees
seen_more runs zones (Zone zone) found seen is are (Run q) x there sees = are (Run q) x there sees
seen_more runs zones (Zone zone) found seen is are (Zone z) x there sees = head_or_rest zones zone z (eqb zone z) found (occupancy_of seen (Zone z)) is (λ e. eqb-true zone z e) (λ y before. are (Zone z) y there before) x sees

pub occupied_made : (m : Solo) (at : Occ) (found : ℕ) → HasWord m.runs m.zones at → found ≡ occ_word m.runs m.zones at → (v : View) → Sees m v → Sees m (after v (Occupied at found)) × Found v (Occupied at found)
occupied_made m at found has is v sees = (
  record {
    fixed = sees.fixed;
    words = sees.words;
    occupancy = seen_more m.runs m.zones at found v.occupancy is sees.occupancy;
    changes = sees.changes;
    calls = sees.calls;
    counter = sees.counter;
    locks = sees.locks;
    zone_locks = sees.zone_locks;
    sizes = sees.sizes;
  },
  λ one. if_seen (occupancy_of v.occupancy at) (λ y before. is ∙ sees.occupancy at y has before),
)
  where
    if_seen : (o : Option ℕ) → ((y : ℕ) → o ≡ Some y → found ≡ y) → IfSome o (λ y. found ≡ y)
    if_seen None all = tt
    if_seen (Some y) all = all y refl

won_so : (o : Option ℕ) (won : Bool) (bits word : ℕ) → ((y : ℕ) → o ≡ Some y → word ≡ y) → (IsTrue won ↔ (bit_and word bits ≡ 0)) → IfSome o (λ y. IsTrue won ↔ (bit_and y bits ≡ 0))
won_so None won bits word all so = tt
won_so (Some y) won bits word all so = subst (λ w. IsTrue won ↔ (bit_and w bits ≡ 0)) (all y refl) so

pub occupy_refused : (m : Solo) (at : Occ) (bits found : ℕ) → HasWord m.runs m.zones at → found ≡ occ_word m.runs m.zones at → bit_and found bits ≢ 0 → (v : View) → Sees m v → Sees m (after v (Occupy at bits false)) × Found v (Occupy at bits false)
occupy_refused m at bits found has is taken v sees = (
  sees_seen m v (Occupy at bits false) (λ k e. cc) sees,
  λ one. won_so (occupancy_of v.occupancy at) false bits (occ_word m.runs m.zones at) (λ y before. sees.occupancy at y has before) ((λ t. absurd (false≢true t)), λ none. absurd (taken (ap (λ w. bit_and w bits) is ∙ none))),
)

-- an occupancy word changed, and bits were reserved or released
sees_occ : (m : Solo) (at : Occ) (f : ℕ → ℕ) (v : View) (claims : List Claim) → HasWord m.runs m.zones at → Grows v.fixed.shape v.claims claims → Sees m v
    → Sees (occ_becomes m at f) (record v { claims = claims; occupancy = occupancy_with at (option_map f (occupancy_of v.occupancy at)) v.occupancy })
sees_occ m (Run place) f v claims has grows sees = record {
  fixed = sees.fixed;
  words = known_grown v.fixed.shape m.words v.claims claims grows sees.words;
  occupancy = seen_changed m (Run place) f v.occupancy has sees.occupancy;
  changes = sees.changes;
  calls = sees.calls;
  counter = sees.counter;
  locks = locks_same v.claims claims m.locks grows.locked_is grows.reads_is sees.locks;
  zone_locks = sees.zone_locks;
  sizes = record { lines = sees.sizes.lines; pages = length-set m.runs (place / 4096) _ ∙ sees.sizes.pages; zones_are = sees.sizes.zones_are; zone_locks_are = sees.sizes.zone_locks_are };
}
sees_occ m (Zone zone) f v claims has grows sees = record {
  fixed = sees.fixed;
  words = known_grown v.fixed.shape m.words v.claims claims grows sees.words;
  occupancy = seen_changed m (Zone zone) f v.occupancy has sees.occupancy;
  changes = sees.changes;
  calls = sees.calls;
  counter = sees.counter;
  locks = locks_same v.claims claims m.locks grows.locked_is grows.reads_is sees.locks;
  zone_locks = sees.zone_locks;
  sizes = record { lines = sees.sizes.lines; pages = sees.sizes.pages; zones_are = length-set m.zones zone _ ∙ sees.sizes.zones_are; zone_locks_are = sees.sizes.zone_locks_are };
}

pub occupy_made : (m n : Solo) (at : Occ) (bits found : ℕ) → HasWord m.runs m.zones at → found ≡ occ_word m.runs m.zones at → bit_and found bits ≡ 0 → n ≡ with_occ m at (bit_or found bits) → (v : View) → Sees m v → Sees n (after v (Occupy at bits true)) × Found v (Occupy at bits true)
occupy_made m n at bits found has was free is v sees =
    let word : ℕ = occ_word m.runs m.zones at in
    let claims : List Claim = Reserved at bits ∷ v.claims in
    let grows : Grows v.fixed.shape v.claims claims = record { locked_is = λ l. refl; reads_is = λ l. refl; words = λ w y. forgets _ (pictured v.fixed.shape v.claims w) y } in
    let becomes : n ≡ with_occ m at (bit_or word bits) = is ∙ ap (λ w. with_occ m at (bit_or w bits)) was in (
      subst (λ (k : Solo). Sees k (after v (Occupy at bits true))) (sym becomes) (sees_seen _ _ (Occupy at bits true) (λ k e. cc) (sees_occ m at (λ x. bit_or x bits) v claims has grows sees)),
      λ one. won_so (occupancy_of v.occupancy at) true bits word (λ y before. sees.occupancy at y has before) ((λ t. ap (λ w. bit_and w bits) (sym was) ∙ free), λ none. refl),
    )

pub vacate_made : (m n : Solo) (at : Occ) (bits found : ℕ) → HasWord m.runs m.zones at → found ≡ occ_word m.runs m.zones at → n ≡ with_occ m at (bit_and found (bit_not w64 bits)) → (v : View) → Sees m v → Sees n (after v (Vacate at bits)) × Unit {0}
vacate_made m n at bits found has was is v sees =
    let claims : List Claim = Released at bits ∷ v.claims in
    let grows : Grows v.fixed.shape v.claims claims = record { locked_is = λ l. refl; reads_is = λ l. refl; words = λ w y is. is } in
    let becomes : n ≡ with_occ m at (bit_and (occ_word m.runs m.zones at) (bit_not w64 bits)) = is ∙ ap (λ w. with_occ m at (bit_and w (bit_not w64 bits))) was in
    (subst (λ (k : Solo). Sees k (after v (Vacate at bits))) (sym becomes) (sees_occ m at (λ x. bit_and x (bit_not w64 bits)) v claims has grows sees), tt)

-- ---- the commit counter and the stop word

numbered_within : (entries : List Numbered) (n : ℕ) → AreNumbered entries → length entries ≤ n → All (λ (e : Numbered). e.number ≤ n) entries
unfolding AreNumbered
numbered_within [] n numbered few = All-nil (λ (e : Numbered). e.number ≤ n)
numbered_within (d ∷ entries) n numbered few =
    All-cons (λ (e : Numbered). e.number ≤ n) d entries (let first = numbered.0 in omega (arith, first, few)) (numbered_within entries n numbered.1 (omega (arith, few)))

own_within : (m : Solo) (v : View) (n : ℕ) → Sees m v → n ≡ m.number → All (λ (e : Numbered). e.number ≤ n) v.entries
own_within m v n sees is = let count = sees.counter.count in numbered_within v.entries n sees.counter.numbers (omega (arith, is, count))

-- the counter is one more, and the lane's
counter_drawn : (m : Solo) (v : View) (n : ℕ) (e : Numbered) → e.number ≡ suc n → n ≡ m.number → Sees m v → IsCounter (m.number + 1) (e ∷ v.entries) (Some (suc n)) v.seen
unfolding AreNumbered
counter_drawn m v n e number is sees = let count = sees.counter.count in record {
  numbers = (omega (arith, number, is, count), sees.counter.numbers);
  count = omega (arith, count);
  still = λ none k among. cc;
}

pub draw_made : (m n : Solo) (before : ℕ) → m.number < 2 ^ 62 + 32 → before ≡ m.number → n ≡ record m { number = m.number + 1 } → (v : View) → Sees m v → Sees n (after v (Draw before)) × Found v (Draw before)
draw_made m n before few was is v sees = (
  subst (λ (k : Solo). Sees k (after v (Draw before))) (sym is) record {
    fixed = sees.fixed;
    words = sees.words;
    occupancy = sees.occupancy;
    changes = sees.changes;
    calls = sees.calls;
    counter = counter_drawn m v before (entry_drawn before v) refl was sees;
    locks = sees.locks;
    zone_locks = sees.zone_locks;
    sizes = sees.sizes;
  },
  (own_within m v before sees was, λ one. was ∙ sees.counter.count, omega (arith, few, was)),
)

sees_begun : (m : Solo) (phase : Phase) (v : View) → Sees m v → Sees m (begun phase v)
sees_begun m Idle v sees = record {
  fixed = sees.fixed;
  words = sees.words;
  occupancy = sees.occupancy;
  changes = sees.changes;
  calls = sees.calls;
  counter = record { numbers = sees.counter.numbers; count = sees.counter.count; still = λ none k among. absurd (omega (arith, among.1)) };
  locks = sees.locks;
  zone_locks = sees.zone_locks;
  sizes = sees.sizes;
}
sees_begun m Open v sees = sees
sees_begun m (Drawn n) v sees = sees
sees_begun m (Sealing n) v sees = sees
sees_begun m (Applying entries) v sees = sees
sees_begun m Clearing v sees = sees
sees_begun m (Retiring n) v sees = sees
sees_begun m Voiding v sees = sees

pub number_seen_made : (m : Solo) (number : ℕ) → number ≡ m.number → (v : View) → Sees m v → Sees m (after v (NumberSeen number)) × Found v (NumberSeen number)
number_seen_made m number is v sees = (
  sees_seen m (begun v.log.phase v) (NumberSeen number) (λ k e. let same : number ≡ k = cc in sym is ∙ same) (sees_begun m v.log.phase v sees),
  (own_within m v number sees is, λ one. is ∙ sees.counter.count),
)

pub stop_seen_made : (m : Solo) (stopped : Bool) (v : View) → Sees m v → Sees m (after v (StopSeen stopped)) × Unit {0}
stop_seen_made m stopped v sees = (sees_seen m v (StopSeen stopped) (λ k e. cc) sees, tt)

-- that an operation was told is no concern of the memory
pub sees_told : (m : Solo) (v : View) (operation : Operation) (reply : Option Value) → Sees m v → Sees m (after v (Tell operation reply))
sees_told m v operation reply sees = record {
  fixed = sees.fixed;
  words = sees.words;
  occupancy = sees.occupancy;
  changes = sees.changes;
  calls = sees.calls;
  counter = sees.counter;
  locks = sees.locks;
  zone_locks = sees.zone_locks;
  sizes = sees.sizes;
}
