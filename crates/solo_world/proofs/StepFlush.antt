-- A flush keeps the world.
use Rattle.std.proofs.Common.{◌≡◌, ℕ, ◌+◌, le_of_eq, Bool, true, false, not, cond, ◌||◌, List, [], ◌∷◌, map, take, refl, sym, ap, ◌∙◌, arith, subst, inl, inr, ◌⊎◌, ⊎_elim, IsTrue}
use Rattle.std.specs.List.{list_any}
use Rattle.std.proofs.lemmas.List.{length-map}
use Rattle.std.proofs.lemmas.List.Elements.{All-map, All-weaker}
use Rattle.solo_view.specs.declared.change.Change.{Change}
use Rattle.solo_view.specs.Area.{area_word, part_of}
use Rattle.solo_view.specs.Area.Part.{EntryWord, SlotWord}
use Rattle.solo_view.specs.Changes.{is_in_line, mark, flushed}
use Rattle.solo_view.specs.Steps.Step.{Flush}
use Rattle.solo_view.specs.View.{View}
use Rattle.pm_image.specs.Logs.{slot_line}
use Rattle.solo_world.specs.Entries.{is_entered}
use Rattle.solo_world.specs.Fits.{OpenChange, RetiringChange, SealChange, AppliedChange, IsOfEntries, ReservedChange}
use Rattle.solo_world.specs.Laws.{Keeps}
use Rattle.solo_world.specs.Lawful.{FilledChange}
use Rattle.solo_world.specs.Records.{is_drained_slot, is_logged, generation_of}
use Rattle.solo_world.proofs.Filled.{filled_again}
use Rattle.solo_world.proofs.Recoursed.{Leaves, logged_more, open_again, recoursed}
use Rattle.solo_world.proofs.Worlds.{room_kept}

marked_line : (line : ℕ) (c : Change) (b : Bool) → is_in_line line (cond b (record c { flushed = true }) c) ≡ is_in_line line c
marked_line line c true = refl
marked_line line c false = refl

-- a flush changes no change's word
any_marked : (line other : ℕ) (changes : List Change) → list_any (λ c. is_in_line other c) (map (mark line) changes) ≡ list_any (λ c. is_in_line other c) changes
any_marked line other [] = refl
any_marked line other (c ∷ changes) = λ i. marked_line other c (is_in_line line c) i || any_marked line other changes i

slots_marked : (line calls : ℕ) (v : View) (slot : ℕ) → is_drained_slot v slot ≡ true → is_drained_slot (record v { changes = flushed line v.changes; calls = calls }) slot ≡ true
slots_marked line calls v slot e = ap not (any_marked line (slot_line v.lane slot) v.changes) ∙ e

logged_marked : (line calls : ℕ) (v : View) (w : ℕ) → is_logged v w ≡ true → is_logged (record v { changes = flushed line v.changes; calls = calls }) w ≡ true
logged_marked line calls v w e = logged_more v (record v { changes = flushed line v.changes; calls = calls }) (slots_marked line calls v) 0 v.log.records w e

flushed_open : (v : View) (c : Change) → OpenChange v c → OpenChange v (record c { flushed = true })
flushed_open v c of = record {
  whole = of.whole;
  of = ⊎_elim (λ (slot : part_of v.lane c.word ≡ SlotWord). inl slot) (λ (other : (part_of v.lane c.word ≡ EntryWord) ⊎ (IsTrue (is_logged v c.word) ⊎ ReservedChange v c)).
      inr (⊎_elim (λ (pair : part_of v.lane c.word ≡ EntryWord). inl pair) (λ (last : IsTrue (is_logged v c.word) ⊎ ReservedChange v c).
      inr (⊎_elim (λ (there : IsTrue (is_logged v c.word)). inl there) (λ (own : ReservedChange v c). inr (record { reserved = own.reserved; plain = own.plain })) last)) other)) of.of;
}

open_marked : (v v' : View) (c : Change) → v'.lane ≡ v.lane → ((w : ℕ) → is_logged v w ≡ true → is_logged v' w ≡ true) → (ReservedChange v c → ReservedChange v' c)
    → OpenChange v c → (b : Bool) → OpenChange v' (cond b (record c { flushed = true }) c)
open_marked v v' c lane logged kept of true = flushed_open v' c (open_again v v' c lane logged kept of)
open_marked v v' c lane logged kept of false = open_again v v' c lane logged kept of

filled_marked : (v : View) (c : Change) → FilledChange v c → (b : Bool) → FilledChange v (cond b (record c { flushed = true }) c)
filled_marked v c of true = record { whole = of.whole; may = of.may }
filled_marked v c of false = of

retiring_marked : (v v' : View) (c : Change) → v'.lane ≡ v.lane → generation_of v' ≡ generation_of v → RetiringChange v c → (b : Bool) → RetiringChange v' (cond b (record c { flushed = true }) c)
retiring_marked v v' c lane generation of true = record { whole = of.whole; of = of.of ∙ ap area_word (sym lane); before = of.before ∙ sym generation }
retiring_marked v v' c lane generation of false = record { whole = of.whole; of = of.of ∙ ap area_word (sym lane); before = of.before ∙ sym generation }

sealed_marked : (v v' : View) (old : ℕ) (c : Change) → v'.lane ≡ v.lane → SealChange v old c → (b : Bool) → SealChange v' old (cond b (record c { flushed = true }) c)
sealed_marked v v' old c lane of true = record { whole = of.whole; of = of.of ∙ ap (λ l. area_word l + 1) (sym lane); before = of.before }
sealed_marked v v' old c lane of false = record { whole = of.whole; of = of.of ∙ ap (λ l. area_word l + 1) (sym lane); before = of.before }

applied_marked : (v v' : View) (n : ℕ) (c : Change) → v'.lane ≡ v.lane → generation_of v' ≡ generation_of v → v'.log.entries ≡ v.log.entries → AppliedChange v n c → (b : Bool) → AppliedChange v' n (cond b (record c { flushed = true }) c)
applied_marked v v' n c lane generation entries of true = record {
  of = ap (λ fs. is_entered (take n fs) c.word) entries ∙ of.of;
  bits = let b = subst (λ fs. IsOfEntries fs c) (sym entries) of.bits in record { mask = b.mask; bits = b.bits; small = b.small };
  next = λ here. let t = of.next (here ∙ ap area_word lane) in (t.0, t.1 ∙ sym generation);
}
applied_marked v v' n c lane generation entries of false = record {
  of = ap (λ fs. is_entered (take n fs) c.word) entries ∙ of.of;
  bits = subst (λ fs. IsOfEntries fs c) (sym entries) of.bits;
  next = λ here. let t = of.next (here ∙ ap area_word lane) in (t.0, t.1 ∙ sym generation);
}

pub flushes : (line : ℕ) → Keeps (Flush line)
flushes line o old new views log decided k v world inside is lawful same =
    let v' : View = record v { changes = flushed line v.changes; calls = v.calls + 1 } in
    let leaves : Leaves v v' (flushed line v.changes) = record {
      slots = slots_marked line (v.calls + 1) v;
      none = λ empty. ap (map (mark line)) empty;
      filled = λ all. All-map (FilledChange v') (mark line) v.changes (All-weaker (FilledChange v) (λ c. FilledChange v' (mark line c)) (λ c of. filled_marked v' c (filled_again v v' c (λ own. own) (λ silent. silent) of) (is_in_line line c)) v.changes all);
      open_ = λ all. All-map (OpenChange v') (mark line) v.changes (All-weaker (OpenChange v) (λ c. OpenChange v' (mark line c)) (λ c of. open_marked v v' c refl (logged_marked line (v.calls + 1) v) (λ own. record { reserved = own.reserved; plain = own.plain }) of (is_in_line line c)) v.changes all);
      retiring = λ all. All-map (RetiringChange v') (mark line) v.changes (All-weaker (RetiringChange v) (λ c. RetiringChange v' (mark line c)) (λ c of. retiring_marked v v' c refl refl of (is_in_line line c)) v.changes all);
      sealed = λ before all. All-map (SealChange v' before) (mark line) v.changes (All-weaker (SealChange v before) (λ c. SealChange v' before (mark line c)) (λ c of. sealed_marked v v' before c refl of (is_in_line line c)) v.changes all);
      applied = λ n all. All-map (AppliedChange v' n) (mark line) v.changes (All-weaker (AppliedChange v n) (λ c. AppliedChange v' n (mark line c)) (λ c of. applied_marked v v' n c refl refl refl of (is_in_line line c)) v.changes all);
      fewer = le_of_eq (length-map v.changes (mark line));
    } in (
      recoursed o old views log decided world k inside v is new (flushed line v.changes) (v.calls + 1) v.seen v.call v.actions same leaves
          (λ stop e. let due = lawful.due refl stop e in omega arith) (omega arith)
          (room_kept o old views log decided world k inside v is v' (λ can. can)),
      tt,
    )
