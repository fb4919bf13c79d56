-- What a lane saw of the root word, by its claims alone: which of them teach it, and which leave it.
use Rattle.std.proofs.Common.{◌≡◌, ⊎_elim, ℕ, ◌*◌, ◌/◌, ◌==◌, ◌&&◌, ◌||◌, not, Bool, true, false, cond, All, List, [], ◌∷◌, Option, None, Some, refl, ap, ◌∙◌, subst, arith, ne_eqb}
use Rattle.std.specs.List.{list_any}
use Rattle.std.proofs.lemmas.Bool.{and_from, and_parts, both_ways, cases_Bool, cond-false, false_from_ne_true, ltb-true, or_cases, or_left, or_right}
use Rattle.std.proofs.lemmas.List.Elements.{All-head, All-tail}
use Rattle.pm_layout.specs.declared.shape.Shape.{Shape}
use Rattle.pm_layout.specs.Areas.{line_of_slot, redo_entries, undo_slots, word_of_entry, word_of_generation, word_of_seal}
use Rattle.pm_view.specs.declared.occ.Occ.TheVariants.{Run, Zone}
use Rattle.pm_view.specs.Claims.{Claim, Took, Raised, Gave, SawDescriptor, SawBitmap, Reserved, Released, Marked, Drained, Decided, Knows, holds, locked, pictured, reads}
use Rattle.pm_view.specs.Entries.{Entry, Redo, first_of_two, latest, redos, with_redo}
use Rattle.pm_view.specs.Log.{Phase, Idle, Open, Drawn, Sealing, Applying, Clearing, Retiring, Voiding}
use Rattle.pm_view.specs.Parts.{Part, GenerationPart, SealPart, EntryPart, SlotPart, RootPart, DescriptorPart, ChunkPart, OtherPart, is_entry_word, is_slot_word, part_of}
use Rattle.pm_view.specs.Places.{Place, InRun, InHuge, Descr, RootWord, same_place}
use Rattle.pm_view.specs.Views.{marked_by, seen_by}
use Rattle.pm_world.specs.Lanes.{all_held}
use Rattle.pm_crash.specs.Roots.{saw_root, sets_root}

-- ---- CLAIMS

-- one that says nothing of the root word, and gives no lock back
abbrev pub is_plain : Claim → Bool
is_plain (Knows w x) = false
is_plain (Took m write) = false
is_plain (Gave m) = false
is_plain (Decided es) = false
is_plain e = true

-- claims that say the same of the root word, and hold no less
pub record IsAlike (sh : Shape) (t t' : List Claim) : Type 0 where
  pub saw : (line x : ℕ) → saw_root sh t' line x ≡ saw_root sh t line x
  pub locks : (line : ℕ) → locked t line ≡ true → locked t' line ≡ true
  pub word : pictured sh t' 64 ≡ pictured sh t 64

pub same_claims : (sh : Shape) (t : List Claim) → IsAlike sh t t
same_claims sh t = record { saw = λ l x. refl; locks = λ l e. e; word = refl }

pub plain_claim : (sh : Shape) (e : Claim) (t : List Claim) → is_plain e ≡ true → IsAlike sh t (e ∷ t)
plain_claim sh (Took m write) t p = absurd (both_ways false refl p)
plain_claim sh (Raised m) t p = record { saw = λ l x. refl; locks = λ l e. or_right (m == l) (locked t l) e; word = refl }
plain_claim sh (Gave m) t p = absurd (both_ways false refl p)
plain_claim sh (SawDescriptor c x) t p = record { saw = λ l y. refl; locks = λ l e. e; word = refl }
plain_claim sh (SawBitmap c x) t p = record { saw = λ l y. refl; locks = λ l e. e; word = refl }
plain_claim sh (Reserved (Run place) bits) t p = record { saw = λ l x. refl; locks = λ l e. e; word = refl }
plain_claim sh (Reserved (Zone zone) bits) t p = record { saw = λ l x. refl; locks = λ l e. e; word = refl }
plain_claim sh (Released at bits) t p = record { saw = λ l x. refl; locks = λ l e. e; word = refl }
plain_claim sh (Marked c n) t p = record { saw = λ l x. refl; locks = λ l e. e; word = refl }
plain_claim sh (Drained left) t p = record { saw = λ l x. refl; locks = λ l e. e; word = refl }
plain_claim sh (Decided es) t p = absurd (both_ways false refl p)
plain_claim sh (Knows w x) t p = absurd (both_ways false refl p)

pub seen_alike : (sh : Shape) (part : Part) (x : ℕ) (t : List Claim) → IsAlike sh t (seen_by part x t)
seen_alike sh GenerationPart x t = same_claims sh t
seen_alike sh SealPart x t = same_claims sh t
seen_alike sh EntryPart x t = same_claims sh t
seen_alike sh SlotPart x t = same_claims sh t
seen_alike sh RootPart x t = same_claims sh t
seen_alike sh (DescriptorPart c) x t = plain_claim sh (SawDescriptor c x) t refl
seen_alike sh (ChunkPart c Rattle.std.specs.Prelude.zero) x t = plain_claim sh (SawBitmap c x) t refl
seen_alike sh (ChunkPart c (Rattle.std.specs.Prelude.suc i)) x t = same_claims sh t
seen_alike sh OtherPart x t = same_claims sh t

marked_part : (sh : Shape) (part : Part) (x : ℕ) (t : List Claim) → IsAlike sh t (marked_by Open part x t)
marked_part sh GenerationPart x t = same_claims sh t
marked_part sh SealPart x t = same_claims sh t
marked_part sh EntryPart x t = same_claims sh t
marked_part sh SlotPart x t = same_claims sh t
marked_part sh RootPart x t = same_claims sh t
marked_part sh (DescriptorPart c) x t = plain_claim sh (Marked c (x / 256)) t refl
marked_part sh (ChunkPart c i) x t = same_claims sh t
marked_part sh OtherPart x t = same_claims sh t

idle_part : (sh : Shape) (part : Part) (x : ℕ) (t : List Claim) → IsAlike sh t (marked_by Idle part x t)
idle_part sh GenerationPart x t = same_claims sh t
idle_part sh SealPart x t = same_claims sh t
idle_part sh EntryPart x t = same_claims sh t
idle_part sh SlotPart x t = same_claims sh t
idle_part sh RootPart x t = same_claims sh t
idle_part sh (DescriptorPart c) x t = plain_claim sh (Marked c (x / 256)) t refl
idle_part sh (ChunkPart c i) x t = same_claims sh t
idle_part sh OtherPart x t = same_claims sh t

pub marked_alike : (sh : Shape) (ph : Phase) (part : Part) (x : ℕ) (t : List Claim) → IsAlike sh t (marked_by ph part x t)
marked_alike sh Idle part x t = idle_part sh part x t
marked_alike sh Open part x t = marked_part sh part x t
marked_alike sh (Drawn n) part x t = same_claims sh t
marked_alike sh (Sealing n) part x t = same_claims sh t
marked_alike sh (Applying todo) part x t = same_claims sh t
marked_alike sh Clearing part x t = same_claims sh t
marked_alike sh (Retiring n) part x t = same_claims sh t
marked_alike sh Voiding part x t = same_claims sh t

-- a word that becomes known: of another than the root word nothing is seen, nor where line 0 is held
pub record IsNew (t : List Claim) (w y line x : ℕ) : Type 0 where
  pub word : (w == 64) ≡ true
  pub value : (y == x) ≡ true
  pub held : holds t line ≡ true
  pub free : not (locked t 0) ≡ true

pub knows_root : (sh : Shape) (w y : ℕ) (t : List Claim) (line x : ℕ) (P : Type 0) → saw_root sh (Knows w y ∷ t) line x ≡ true
    → (IsNew t w y line x → P) → (saw_root sh t line x ≡ true → P) → P
knows_root sh w y t line x P s new old = ⊎_elim
    (λ (n : ((w == 64) && ((y == x) && (holds t line && not (locked t 0)))) ≡ true).
    let a = and_parts (w == 64) ((y == x) && (holds t line && not (locked t 0))) n in
    let b = and_parts (y == x) (holds t line && not (locked t 0)) a.1 in
    let c = and_parts (holds t line) (not (locked t 0)) b.1 in
    new record { word = a.0; value = b.0; held = c.0; free = c.1 })
    old
    (or_cases ((w == 64) && ((y == x) && (holds t line && not (locked t 0)))) (saw_root sh t line x) s)

-- A LOCK UNDER WHICH THE WORD WAS SEEN IS HELD
pub held_by : (a b c d : Bool) → (a ≡ true → c ≡ true) → (b ≡ true → d ≡ true) → (a || b) ≡ true → (c || d) ≡ true
held_by a b c d f h e = ⊎_elim (λ (t : a ≡ true). or_left c d (f t)) (λ (t : b ≡ true). or_right c d (h t)) (or_cases a b e)

pub saw_held : (sh : Shape) (t : List Claim) (line x : ℕ) → saw_root sh t line x ≡ true → holds t line ≡ true
saw_held sh [] line x s = absurd (both_ways false refl s)
saw_held sh (Knows w y ∷ t) line x s = knows_root sh w y t line x (holds t line ≡ true) s (λ n. n.held) (λ o. saw_held sh t line x o)
saw_held sh (Took m write ∷ t) line x s = let a = and_parts (not (m == line)) (saw_root sh t line x) s in
    held_by (locked t line) (reads t line) (locked (Took m write ∷ t) line) (reads (Took m write ∷ t) line)
    (λ e. or_right (write && (m == line)) (locked t line) e) (λ e. or_right (not write && (m == line)) (reads t line) e) (saw_held sh t line x a.1)
saw_held sh (Gave m ∷ t) line x s = let a = and_parts (not (m == line)) (saw_root sh t line x) s in
    held_by (locked t line) (reads t line) (locked (Gave m ∷ t) line) (reads (Gave m ∷ t) line)
    (λ e. and_from (not (m == line)) (locked t line) a.0 e) (λ e. and_from (not (m == line)) (reads t line) a.0 e) (saw_held sh t line x a.1)
saw_held sh (Decided es ∷ t) line x s = saw_held sh t line x (and_parts (not (sets_root es)) (saw_root sh t line x) s).1
saw_held sh (Raised m ∷ t) line x s = let h = saw_held sh t line x s in ⊎_elim
    (λ (e : (m == line) ≡ true). or_left (locked (Raised m ∷ t) line) (reads (Raised m ∷ t) line) (or_left (m == line) (locked t line) e))
    (λ (e : (m == line) ≡ false). held_by (locked t line) (reads t line) (locked (Raised m ∷ t) line) (reads (Raised m ∷ t) line)
    (λ q. or_right (m == line) (locked t line) q) (λ q. and_from (not (m == line)) (reads t line) (ap not e) q) h)
    (cases_Bool (m == line))
saw_held sh (SawDescriptor c y ∷ t) line x s = saw_held sh t line x s
saw_held sh (SawBitmap c y ∷ t) line x s = saw_held sh t line x s
saw_held sh (Reserved at bits ∷ t) line x s = saw_held sh t line x s
saw_held sh (Released at bits ∷ t) line x s = saw_held sh t line x s
saw_held sh (Marked c n ∷ t) line x s = saw_held sh t line x s
saw_held sh (Drained left ∷ t) line x s = saw_held sh t line x s

-- ---- THE ROOT'S WORD is no lane's own area's
pub root_part : (sh : Shape) (lane : ℕ) → part_of sh lane 64 ≡ RootPart
root_part sh lane =
    cond-false (64 == word_of_generation sh lane) _ _ (ne_eqb 64 (word_of_generation sh lane) (λ q. omega arith))
    ∙ (cond-false (64 == word_of_seal sh lane) _ _ (ne_eqb 64 (word_of_seal sh lane) (λ q. omega arith))
    ∙ (cond-false (is_entry_word sh lane 64) _ _ (false_from_ne_true (is_entry_word sh lane 64) (λ t.
    let z = Rattle.std.proofs.lemmas.Bool.leb-true (word_of_entry sh lane 0) 64 (and_parts (Rattle.std.specs.Prelude.nat_le (word_of_entry sh lane 0) 64) (Rattle.std.specs.Prelude.nat_lt 64 (word_of_entry sh lane (redo_entries sh))) t).0 in omega arith))
    ∙ cond-false (is_slot_word sh lane 64) _ _ (false_from_ne_true (is_slot_word sh lane 64) (λ t.
    let z = Rattle.std.proofs.lemmas.Bool.leb-true (8 * line_of_slot sh lane 0) 64 (and_parts (Rattle.std.specs.Prelude.nat_le (8 * line_of_slot sh lane 0) 64) (Rattle.std.specs.Prelude.nat_lt 64 (8 * line_of_slot sh lane (undo_slots sh))) t).0 in omega arith))))

-- ---- ENTRIES

-- those that do not set the root word make nothing of it
pub unset : (es : List Redo) → sets_root es ≡ false → (b : ℕ) → latest es RootWord b ≡ None
unset [] e b = refl
unset (r ∷ es) e b = ⊎_elim
    (λ (t : same_place r.place RootWord ≡ true). absurd (both_ways (sets_root (r ∷ es)) e (or_left (same_place r.place RootWord) (sets_root es) t)))
    (λ (t : same_place r.place RootWord ≡ false).
    ap (λ d. first_of_two d (cond (same_place r.place RootWord) (Rattle.pm_view.specs.Entries.given_bit r.op r.value b) None))
    (unset es (false_from_ne_true (sets_root es) (λ q. both_ways (sets_root (r ∷ es)) e (or_right (same_place r.place RootWord) (sets_root es) q))) b)
    ∙ cond-false (same_place r.place RootWord) (Rattle.pm_view.specs.Entries.given_bit r.op r.value b) None t)
    (cases_Bool (same_place r.place RootWord))

-- some entry does
is_root : (p : Place) → same_place p RootWord ≡ true → p ≡ RootWord
is_root (InRun c w) e = absurd (both_ways false refl e)
is_root (InHuge c w) e = absurd (both_ways false refl e)
is_root (Descr c) e = absurd (both_ways false refl e)
is_root RootWord e = refl

pub setting : (P : Entry → Type 0) (es : List Entry) → All (λ (e : Entry). e.place ≡ Some RootWord → P e) es → sets_root (redos es) ≡ true
    → (e : Entry) × P e
setting P [] a e = absurd (both_ways false refl e)
setting P (d ∷ es) a e = go d.place refl (λ t. setting P es (All-tail (λ (e : Entry). e.place ≡ Some RootWord → P e) d es a) t) e
  where
    go : (p : Option Place) → d.place ≡ p → (sets_root (redos es) ≡ true → (e : Entry) × P e) → sets_root (with_redo p d (redos es)) ≡ true → (e : Entry) × P e
    go None q rest t = rest t
    go (Some p) q rest t = ⊎_elim
        (λ (s : same_place p RootWord ≡ true). (d, All-head (λ (e : Entry). e.place ≡ Some RootWord → P e) d es a (q ∙ ap (λ z. Some z) (is_root p s))))
        (λ (s : sets_root (redos es) ≡ true). rest s)
        (or_cases (same_place p RootWord) (sets_root (redos es)) t)

-- ---- LINES OF GUARDS

-- where all guards of a word are locked, so is the line of the object that it names
pub guard_locked : (l : ℕ → Bool) (lines : List ℕ) (line : ℕ) → all_held l lines ≡ true → list_any (λ m. m == line) lines ≡ true → l line ≡ true
guard_locked l [] line a e = absurd (both_ways false refl e)
guard_locked l (m ∷ lines) line a e = let y = and_parts (l m) (all_held l lines) a in ⊎_elim
    (λ (q : (m == line) ≡ true). subst (λ n. l n ≡ true) (Rattle.std.proofs.lemmas.Bool.eqb-true m line q) y.0)
    (λ (q : list_any (λ n. n == line) lines ≡ true). guard_locked l lines line y.1 q)
    (or_cases (m == line) (list_any (λ n. n == line) lines) e)
