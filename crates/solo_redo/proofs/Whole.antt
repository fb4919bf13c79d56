-- Entries that are of words of the pool, and then end the generation, are whole.
use Rattle.std.proofs.Common.{◌≡◌, ℕ, ◌+◌, ◌*◌, ◌/◌, ◌^◌, ◌<◌, ◌&&◌, inl, inr, ⊎_elim, eqb, false, true, All, List, [], ◌∷◌, ◌++◌, map, is_some, IsTrue, refl, sym, subst, ap, ◌∙◌, arith, ◌⊎◌, ◌||◌, not, length, slice_get, Some}
use Rattle.std.specs.List.{list_any}
use Rattle.std.proofs.lemmas.Bool.{and_parts, eqb-true, false≢true, or_cases, or_from, or_left, or_right}
use Rattle.std.proofs.lemmas.List.Elements.{All-cons, All-head, All-nil, All-tail}
use Rattle.pm_record.specs.declared.redo.Op.{Op}
use Rattle.pm_record.specs.declared.redo.Op.TheVariants.{Set, Or, And}
use Rattle.pm_record.specs.declared.redo.Redo.{Redo}
use Rattle.solo_view.specs.Area.{area_word, is_in_area}
use Rattle.solo_view.specs.Held.{is_under}
use Rattle.solo_view.specs.Log.{Final}
use Rattle.solo_view.specs.Rights.{is_written}
use Rattle.solo_view.specs.View.{View, Lock}
use Rattle.solo_world.specs.Entries.{AreWhole, IsKnownWord, KnowsOrs, LeaveWord, ends_with, final_by, is_or_entered, set_word}
use Rattle.solo_world.specs.Records.{generation_of}
use Rattle.std.proofs.lemmas.List.Folds.{list_any-append, list_any_at}
use Rattle.std.proofs.lemmas.Option.{get_or_from_slice_get}
use Rattle.solo_view.specs.Founds.{IsAlone}
use Rattle.solo_view.specs.Views.{changes_heap, is_of_heap}
use Rattle.solo_world.proofs.Plain.{whole_plain}
use Rattle.solo_world.proofs.StorePair.{final_word}
use Rattle.solo_undo.specs.Working.{IsSameCall, KeepsOutside}
use Rattle.solo_undo.proofs.Areas.{generation_in_area}
use Rattle.solo_redo.specs.Entering.{AreEntered, IsOfPool, ending, final_of, EntersHeap, IsOfWord, MayEnter}

map_append : (front : List Redo) (e : Redo) → map final_of (front ++ e ∷ []) ≡ map final_of front ++ final_of e ∷ []
map_append [] e = refl
map_append (x ∷ front) e = ap (λ (fs : List Final). final_of x ∷ fs) (map_append front e)

owned : (v : View) (front : List Redo) → All (IsOfPool v) front → All (λ (f : Final). IsTrue (is_written v f.word)) (map final_of front)
owned v [] each = All-nil (λ (f : Final). IsTrue (is_written v f.word))
owned v (e ∷ front) each =
    All-cons (λ (f : Final). IsTrue (is_written v f.word)) (final_of e) (map final_of front)
    (subst (λ w. IsTrue (is_written v w)) (sym (final_word e.op (e.place / 8) e.value)) (All-head (IsOfPool v) e front each).own) (owned v front (All-tail (IsOfPool v) e front each))

pub ending_final : (v : View) → final_of (ending v) ≡ ends_with v (generation_of v + 1)
ending_final v = ap (λ (w : ℕ). set_word w (generation_of v + 1)) (let e : 8 * area_word v.lane / 8 ≡ area_word v.lane = omega arith in e)

pub logged_front : (v : View) (entries : List Redo) → (a : AreEntered v entries) → v.log.entries ≡ map final_of a.front ++ ends_with v (generation_of v + 1) ∷ []
logged_front v entries a =
    a.logged ∙ (ap (λ (es : List Redo). map final_of es) a.are ∙ (map_append a.front (ending v) ∙ ap (λ (f : Final). map final_of a.front ++ f ∷ []) (ending_final v)))

pub entered_whole : (v : View) (entries : List Redo) → (a : AreEntered v entries) → All (IsOfPool v) a.front → AreWhole v (generation_of v + 1)
entered_whole v entries a own = record { front = map final_of a.front; are = logged_front v entries a; owned = owned v a.front own }

-- a word that one ORs is of the pool, and the lane knows it
or_known : (v : View) (front : List Redo) (g w : ℕ) → All (IsOfPool v) front → is_or_entered (map final_of front ++ ends_with v g ∷ []) w ≡ true → IsKnownWord v w × (is_in_area v.lane w ≡ false)
or_known v [] g w each or =
    ⊎_elim (λ (here : (eqb (area_word v.lane) w && false) ≡ true). absurd (false≢true (and_parts (eqb (area_word v.lane) w) false here).1)) (λ (never : false ≡ true). absurd (false≢true never))
    (or_cases (eqb (area_word v.lane) w && false) false or)
or_known v (e ∷ front) g w each or =
    let f : Final = final_of e in
    let first = All-head (IsOfPool v) e front each in
    ⊎_elim
    (λ (here : (eqb f.word w && f.ors) ≡ true).
    let t = and_parts (eqb f.word w) f.ors here in
    let word : e.place / 8 ≡ w = sym (final_word e.op (e.place / 8) e.value) ∙ eqb-true f.word w t.0 in (
      ⊎_elim (λ (sets : e.op ≡ Set). absurd (false≢true (ap (λ op. (final_by op (e.place / 8) e.value).ors) (sym sets) ∙ t.1)))
          (λ (known : IsKnownWord v (e.place / 8)). subst (IsKnownWord v) word known) first.known,
      ap (is_in_area v.lane) (sym word) ∙ first.outside,
    ))
    (λ (later : is_or_entered (map final_of front ++ ends_with v g ∷ []) w ≡ true). or_known v front g w (All-tail (IsOfPool v) e front each) later)
    (or_cases (eqb f.word w && f.ors) (is_or_entered (map final_of front ++ ends_with v g ∷ []) w) or)

final_bits : (op : Op) (w x : ℕ) → x < 2 ^ 64 → (final_by op w x).bits < 2 ^ 64
final_bits Set w x low = low
final_bits Or w x low = low
final_bits And w x low = omega arith

-- each leaves a word of the pool one of 64 bits
leave_word : (v : View) (front : List Redo) (g w : ℕ) → All (IsOfPool v) front → is_in_area v.lane w ≡ false → LeaveWord (map final_of front ++ ends_with v g ∷ []) w
leave_word v front g w each out = by_front front each where
  Leaves : Final → Type 0
  Leaves f = f.word ≡ w → f.bits < 2 ^ 64

  by_front : (es : List Redo) → All (IsOfPool v) es → LeaveWord (map final_of es ++ ends_with v g ∷ []) w
  by_front [] all = All-cons Leaves (ends_with v g) [] (λ here. absurd (false≢true (sym out ∙ (ap (is_in_area v.lane) (sym here) ∙ generation_in_area v.lane)))) (All-nil Leaves)
  by_front (e ∷ es) all =
      All-cons Leaves (final_of e) (map final_of es ++ ends_with v g ∷ []) (λ here. final_bits e.op (e.place / 8) e.value (All-head (IsOfPool v) e es all).entry.word)
      (by_front es (All-tail (IsOfPool v) e es all))

pub knows_ors : (v : View) (entries : List Redo) → (a : AreEntered v entries) → All (IsOfPool v) a.front → KnowsOrs v
knows_ors v entries a own w or =
    let fs = logged_front v entries a in
    let t = or_known v a.front (generation_of v + 1) w own (ap (λ es. is_or_entered es w) (sym fs) ∙ or) in
    (t.0, subst (λ es. LeaveWord es w) (sym fs) (leave_word v a.front (generation_of v + 1) w own t.1))

-- an entry of the heap changes it
heap_entry : (v : View) (e : Redo) → EntersHeap v e → is_of_heap v (final_of e) ≡ true
heap_entry v e h = ap not (ap (λ w. is_in_area v.lane w || is_written v w) (final_word e.op (e.place / 8) e.value) ∙ or_from (is_in_area v.lane (e.place / 8)) (is_written v (e.place / 8)) h.outside h.unlocked)

-- the entries are of words that the lane locked, or the lane is alone and allocates or frees a block by one of them
all_own : (v : View) (front : List Redo) → All (MayEnter v) front → All (IsOfPool v) front ⊎ (IsAlone v × (list_any (is_of_heap v) (map final_of front) ≡ true))
all_own v [] each = inl (All-nil (IsOfPool v))
all_own v (e ∷ front) each = ⊎_elim
    (λ (o : IsOfPool v e). ⊎_elim (λ (rest : All (IsOfPool v) front). inl (All-cons (IsOfPool v) e front o rest))
    (λ (heap : IsAlone v × (list_any (is_of_heap v) (map final_of front) ≡ true)). inr (heap.0, or_right (is_of_heap v (final_of e)) (list_any (is_of_heap v) (map final_of front)) heap.1)) (all_own v front (All-tail (MayEnter v) e front each)))
    (λ (h : EntersHeap v e). inr (h.alone, or_left (is_of_heap v (final_of e)) (list_any (is_of_heap v) (map final_of front)) (heap_entry v e h)))
    (All-head (MayEnter v) e front each)

pub entered_own : (v : View) (entries : List Redo) → (a : AreEntered v entries) → All (IsOfPool v) a.front ⊎ (IsAlone v × (changes_heap v ≡ true))
entered_own v entries a = ⊎_elim (λ (own : All (IsOfPool v) a.front). inl own)
    (λ (heap : IsAlone v × (list_any (is_of_heap v) (map final_of a.front) ≡ true)). inr (
      heap.0,
      ap (list_any (is_of_heap v)) (logged_front v entries a) ∙ (list_any-append (is_of_heap v) (map final_of a.front) (ends_with v (generation_of v + 1) ∷ [])
          ∙ or_left (list_any (is_of_heap v) (map final_of a.front)) (list_any (is_of_heap v) (ends_with v (generation_of v + 1) ∷ [])) heap.1),
    )) (all_own v a.front a.each)

-- one entry of the heap among them does
pub heap_entered : (v : View) (entries : List Redo) (a : AreEntered v entries) (k : ℕ) → k < length v.log.entries → (e : Redo) → slice_get v.log.entries k ≡ Some (final_of e) → EntersHeap v e → changes_heap v ≡ true
heap_entered v entries a k low e at h = list_any_at (is_of_heap v) v.log.entries k (final_of e) low (ap (is_of_heap v) (get_or_from_slice_get v.log.entries k (final_of e) (final_of e) at) ∙ heap_entry v e h)

-- what the entries are of stays so in the same call, where nothing changed outside of the lane's area
pub of_pool_kept : (v w : View) (e : Redo) → IsSameCall v w → KeepsOutside v w → IsOfPool v e → IsOfPool w e
of_pool_kept v w e call same o = record {
  entry = o.entry;
  own = subst (λ (locks : List Lock). list_any (λ (l : Lock). l.write && is_some l.block && is_under (e.place / 8) l) locks ≡ true) (sym call.locks) o.own;
  outside = ap (λ j. is_in_area j (e.place / 8)) call.lane.lane ∙ o.outside;
  inside = let size = call.lane.size in let inside = o.inside in omega (arith, size, inside);
  known = ⊎_elim inl (λ (t : IsKnownWord v (e.place / 8)). inr (record {
    known = call.remembers (e.place / 8) t.known;
    small = subst (λ n. n < 2 ^ 64) (sym (same (e.place / 8) o.outside)) t.small;
  })) o.known;
}

same_written : (v w : View) → IsSameCall v w → (u : ℕ) → is_written w u ≡ is_written v u
same_written v w call u = ap (λ (locks : List Lock). list_any (λ (l : Lock). l.write && is_some l.block && is_under u l) locks) call.locks

pub heap_kept : (v w : View) (e : Redo) → IsSameCall v w → KeepsOutside v w → EntersHeap v e → EntersHeap w e
heap_kept v w e call same h = record {
  entry = h.entry;
  alone = call.lane.table ∙ h.alone;
  unlocked = same_written v w call (e.place / 8) ∙ h.unlocked;
  outside = ap (λ j. is_in_area j (e.place / 8)) call.lane.lane ∙ h.outside;
  inside = let size = call.lane.size in let inside = h.inside in omega (arith, size, inside);
  small = subst (λ n. (e.op ≡ Set) ⊎ (n < 2 ^ 64)) (sym (same (e.place / 8) h.outside)) h.small;
}

pub may_enter_kept : (v w : View) (e : Redo) → IsSameCall v w → KeepsOutside v w → MayEnter v e → MayEnter w e
may_enter_kept v w e call same = ⊎_elim (λ (o : IsOfPool v e). inl (of_pool_kept v w e call same o)) (λ (h : EntersHeap v e). inr (heap_kept v w e call same h))

-- what either says of an entry
pub may_word : (v : View) (e : Redo) → MayEnter v e → IsOfWord e
may_word v e = ⊎_elim (λ (o : IsOfPool v e). o.entry) (λ (h : EntersHeap v e). h.entry)

pub may_outside : (v : View) (e : Redo) → MayEnter v e → is_in_area v.lane (e.place / 8) ≡ false
may_outside v e = ⊎_elim (λ (o : IsOfPool v e). o.outside) (λ (h : EntersHeap v e). h.outside)

pub may_inside : (v : View) (e : Redo) → MayEnter v e → e.place / 8 < length v.words
may_inside v e = ⊎_elim (λ (o : IsOfPool v e). o.inside) (λ (h : EntersHeap v e). h.inside)

-- a view of the call with the same entries allocates or frees blocks where the other does
pub same_heap : (v w : View) → IsSameCall v w → w.log.entries ≡ v.log.entries → changes_heap w ≡ changes_heap v
same_heap v w call entries = λ i. list_any (λ (f : Final). not (is_in_area (call.lane.lane i) f.word || list_any (λ (l : Lock). l.write && is_some l.block && is_under f.word l) (call.locks i))) (entries i)

-- a log of words that the lane locked, and of its generation, changes the heap by none
pub own_plain_log : (v : View) (entries : List Redo) → (a : AreEntered v entries) → All (IsOfPool v) a.front → changes_heap v ≡ false
own_plain_log v entries a own = whole_plain v (generation_of v + 1) (entered_whole v entries a own)
