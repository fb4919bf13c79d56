-- Of a world whose words are one lane's memory's each lawful call leads to one whose words are the memory's
-- after it; and what a power failure may leave of a memory it may leave of its world.
use Rattle.std.proofs.Common.{◌≡◌, ⊎_elim, ℕ, zero, suc, ◌-◌, ◌%◌, ◌^◌, ◌<◌, ◌≤◌, cond, true, false, not, bit_and, List, [], ◌∷◌, ◌++◌, length, slice_index, get_or, refl, sym, ap, ◌∙◌, subst, arith}
use Rattle.std.specs.List.{All, Any, Contains}
use Rattle.std.proofs.lemmas.List.Elements.{All-filter, All-map, All-push, All-weaker, Contains-append_cases}
use Rattle.std.proofs.lemmas.Nat.{and_mask}
use Rattle.pm_view.specs.Bits.{all_bits}
use Rattle.pm_view.specs.declared.change.Change.{Change}
use Rattle.pm_view.specs.Changes.{Undrained, IsUndrained, IsFormed, store_change}
use Rattle.pm_view.specs.declared.occ.Occ.TheVariants.{Run, Zone}
use Rattle.pm_view.specs.Steps.{Step}
use Rattle.pm_view.specs.Steps.Step.{Load, Store, Or, And, Flush, Drain, TakeWrite, TakeRead, Raise, Give, ZoneTry, ZoneGive, Occupied, Occupy, Vacate, Draw, NumberSeen, StopSeen, SetStop, Tell}
use Rattle.pm_memory.specs.Changes.{AreUndrained, change_flushed, lies_in}
use Rattle.pm_memory.specs.Solo.{Solo}
use Rattle.pm_memory.specs.Survivors as memory
use Rattle.pm_memory.proofs.Images.{image-taken, or_formed, and_formed}
use Rattle.pm_world.specs.Crash.{IsUndrainedOf, IsLeft}
use Rattle.pm_world.specs.Memory.{Memory, PoolWord}
use Rattle.pm_world.specs.Solo.{meets_solo}
use Rattle.pm_world.specs.SoloWorld.{memory_of, CallsKeepWorlds, CallsKeepForms, AreLanesChanges, SurvivorsAreTheWorlds}
use Rattle.pm_world.specs.World.{Opening, Views}
use Rattle.pm_world.proofs.EveryStep.{every_step}
use Rattle.pm_world.proofs.SoloMoves.{calls_move}

pub calls_keep_worlds : (s : Step) → CallsKeepWorlds s
calls_keep_worlds s o old new views next g x sees lawful is turn =
    let some : 0 < o.lanes = let l = x.some_lanes in omega arith in
    (every_step s o (memory_of old) (memory_of new) views next g 0 x some lawful (calls_move s old new (meets_solo old (views 0) s sees lawful.allowed) is) turn).0

-- ---- changes stay formed

whole : (x : ℕ) → x < 2 ^ 64 → bit_and x all_bits ≡ x
whole x small = let low : bit_and x (2 ^ 64 - 1) ≡ x % 2 ^ 64 = and_mask x 64 in let e : x % 2 ^ 64 ≡ x = omega arith in low ∙ e

store_formed : (w old x : ℕ) → old < 2 ^ 64 → x < 2 ^ 64 → IsFormed (store_change w old x)
store_formed w old x known small = record { mask = omega arith; old = whole old known; new = whole x small }

one_more : (old new : Solo) (c : Change) → new.changes ≡ old.changes ++ c ∷ [] → All IsFormed old.changes → IsFormed c → All IsFormed new.changes
one_more old new c is all one = subst (All IsFormed) (sym is) (All-push IsFormed old.changes c all one)

as_before : (old new : Solo) → new.changes ≡ old.changes → All IsFormed old.changes → All IsFormed new.changes
as_before old new is all = subst (All IsFormed) (sym is) all

flush_formed : (line : ℕ) (c : Change) → IsFormed c → IsFormed (change_flushed line c)
flush_formed line c is = elim (lies_in line c) as (λ b. IsFormed (cond b (record c { flushed = true }) c)) [
  | true ↦ record { mask = is.mask; old = is.old; new = is.new }
  | false ↦ is
]

pub calls_keep_forms : (s : Step) → CallsKeepForms s
calls_keep_forms (Load w found) o old new views g x lawful is all = as_before old new (ap (λ (m : Solo). m.changes) is.0) all
calls_keep_forms (Store w y) o old new views g x lawful is all = one_more old new _ (ap (λ (m : Solo). m.changes) is) all (store_formed w (slice_index old.words w) y (x.small w) lawful.allowed.small)
calls_keep_forms (Or w bits found) o old new views g x lawful is all = one_more old new _ (ap (λ (m : Solo). m.changes) is.0) all (or_formed w bits (slice_index old.words w) lawful.allowed.small)
calls_keep_forms (And w bits found) o old new views g x lawful is all = one_more old new _ (ap (λ (m : Solo). m.changes) is.0) all (and_formed w bits (slice_index old.words w))
calls_keep_forms (Flush line) o old new views g x lawful is all = subst (All IsFormed) (sym (ap (λ (m : Solo). m.changes) is)) (All-map IsFormed (change_flushed line) old.changes (All-weaker IsFormed (λ c. IsFormed (change_flushed line c)) (flush_formed line) old.changes all))
calls_keep_forms Drain o old new views g x lawful is all = subst (All IsFormed) (sym (ap (λ (m : Solo). m.changes) is)) (All-filter (λ (c : Change). not c.flushed) IsFormed old.changes all)
calls_keep_forms (TakeWrite line won) o old new views g x lawful is all = as_before old new (ap (λ (m : Solo). m.changes) is.0) all
calls_keep_forms (TakeRead line won) o old new views g x lawful is all = as_before old new (ap (λ (m : Solo). m.changes) is.0) all
calls_keep_forms (Raise line won) o old new views g x lawful is all = as_before old new (ap (λ (m : Solo). m.changes) is.0) all
calls_keep_forms (Give line) o old new views g x lawful is all = as_before old new (ap (λ (m : Solo). m.changes) is) all
calls_keep_forms (ZoneTry zone won) o old new views g x lawful is all = as_before old new (ap (λ (m : Solo). m.changes) is.0) all
calls_keep_forms (ZoneGive zone) o old new views g x lawful is all = as_before old new (ap (λ (m : Solo). m.changes) is) all
calls_keep_forms (Occupied at found) o old new views g x lawful is all = as_before old new (ap (λ (m : Solo). m.changes) is.0) all
calls_keep_forms (Occupy (Run place) bits true) o old new views g x lawful is all = as_before old new (ap (λ (m : Solo). m.changes) is.0) all
calls_keep_forms (Occupy (Zone zone) bits true) o old new views g x lawful is all = as_before old new (ap (λ (m : Solo). m.changes) is.0) all
calls_keep_forms (Occupy at bits false) o old new views g x lawful is all = as_before old new (ap (λ (m : Solo). m.changes) is.0) all
calls_keep_forms (Vacate (Run place) bits) o old new views g x lawful is all = as_before old new (ap (λ (m : Solo). m.changes) is) all
calls_keep_forms (Vacate (Zone zone) bits) o old new views g x lawful is all = as_before old new (ap (λ (m : Solo). m.changes) is) all
calls_keep_forms (Draw n) o old new views g x lawful is all = as_before old new (ap (λ (m : Solo). m.changes) is.0) all
calls_keep_forms (NumberSeen n) o old new views g x lawful is all = as_before old new (ap (λ (m : Solo). m.changes) is.0) all
calls_keep_forms (StopSeen said) o old new views g x lawful is all = as_before old new (ap (λ (m : Solo). m.changes) is.0) all
calls_keep_forms SetStop o old new views g x lawful is all = as_before old new (ap (λ (m : Solo). m.changes) is) all
calls_keep_forms (Tell operation reply) o old new views g x lawful is all = as_before old new (ap (λ (m : Solo). m.changes) is) all

-- ---- survivors

-- the view has each of the memory's changes
record IsSeenIn (seen : List Undrained) (c : Change) : Type 0 where
  undrained : Undrained
  there : Contains seen undrained
  is : IsUndrained c undrained

seen_there : (changes : List Change) (seen : List Undrained) (c : Change) → AreUndrained changes seen → Contains changes c → IsSeenIn seen c
seen_there changes [] c are among = absurd (let inside = among.1 in let none = ap length are in omega (arith, inside, none))
seen_there changes (u ∷ seen) c are among = ⊎_elim
    (λ (before : Contains are.0 c). let s = seen_there are.0 seen c are.4 before in
    record { undrained = s.undrained; there = (suc s.there.0, let l = s.there.1 in omega (arith, l), s.there.2); is = s.is })
    (λ (last : Contains (are.1 ∷ []) c). record { undrained = u; there = (0, omega arith, refl); is = subst (λ (d : Change). IsUndrained d u) (only last) are.3 })
    (Contains-append_cases are.0 (are.1 ∷ []) c (subst (λ (cs : List Change). Contains cs c) are.2 among))
  where
    only : Contains (are.1 ∷ []) c → are.1 ≡ c
    only (zero, l, e) = e
    only (suc k, l, e) = absurd (omega (arith, l))

module _ (o : Opening) (mem : Memory) (views : Views) (words image : List ℕ) (lanes : List (List Change)) (size : length words ≡ length o.words) (few : length lanes ≤ o.lanes)
    (same : (w : ℕ) → w < length words → mem (PoolWord w) ≡ slice_index words w) (are : AreLanesChanges views lanes) where
  change_of_world : (w : ℕ) (c : Change) → c.word ≡ w → Any (λ (changes : List Change). Contains changes c) lanes → IsUndrainedOf views o.lanes w c
  change_of_world w c of_word among =
      let k : ℕ = among.0 in
      let changes : List Change = among.1 in
      let inside : k < length lanes = among.2 in
      let here : get_or lanes k changes ≡ changes = among.3 in
      let has : Contains changes c = among.4 in
      let s = seen_there changes (views k).changes c (subst (λ (cs : List Change). AreUndrained cs (views k).changes) here (are.each k changes inside)) has in
      record {
        of_word = of_word;
        formed = subst IsFormed has.2 (subst (All IsFormed) here (are.formed k changes inside) has.0 c has.1);
        lane = k;
        of_lane = omega (arith, inside, few);
        seen = s.undrained;
        there = s.there;
        is = s.is;
      }

  left_of_world : (w : ℕ) → w < length words → (x : ℕ) → memory.IsTakenFrom lanes w (slice_index words w) x → IsLeft mem views o.lanes w x
  left_of_world w inside x t = record {
    lost = t.lost;
    undrained = λ i d l. change_of_world w (get_or t.lost i d) (t.of_word i d l) (t.of_lanes i d l);
    is = t.is ∙ ap (memory.all_taken_back t.lost) (sym (same w inside));
  }

pub survivors_are : SurvivorsAreTheWorlds
survivors_are o mem views words image lanes size few same are left = record {
  size = left.is.size ∙ size;
  each = λ w inside. let l : w < length words = omega (arith, inside, size) in
      left_of_world o mem views words image lanes size few same are w l (slice_index image w) (image-taken left.choice words image lanes w left.is l);
}
