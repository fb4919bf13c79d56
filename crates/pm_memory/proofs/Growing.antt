-- Claims that say no more of a word, and nothing of a lock, than those before.
use Rattle.std.proofs.Common.{◌≡◌, ◌≢◌, ⊎_elim, ℕ, zero, suc, ◌<◌, Bool, true, false, cond, List, [], ◌∷◌, length, set, slice_index, Option, Some, None, refl, sym, ap, ◌∙◌, eq-eqb, ne_eqb, get_or-set_same, get_or-set_other}
use Rattle.std.proofs.lemmas.Bool.{cases_eq, cond-true, cond-false}
use Rattle.pm_layout.specs.declared.shape.Shape.{Shape}
use Rattle.pm_view.specs.Changes.{Undrained}
use Rattle.pm_view.specs.Claims.{Claim, SawDescriptor, SawBitmap, Drained, Knows, locked, reads, pictured}
use Rattle.pm_view.specs.Entries.{Entry}
use Rattle.pm_view.specs.Log.{Log, Phase, Idle, Open, Drawn, Sealing, Applying, Clearing, Retiring, Voiding}
use Rattle.pm_view.specs.Parts.{Part, GenerationPart, SealPart, EntryPart, SlotPart, RootPart, DescriptorPart, ChunkPart, OtherPart}
use Rattle.pm_view.specs.Views.{seen_by, marked_by, decided_by, claims_drained}
use Rattle.pm_memory.specs.Solo.{AreKnown}

pub record Grows (sh : Shape) (old new : List Claim) : Type 0 where
  pub locked_is : (l : ℕ) → locked new l ≡ locked old l
  pub reads_is : (l : ℕ) → reads new l ≡ reads old l
  pub words : (w y : ℕ) → pictured sh new w ≡ Some y → pictured sh old w ≡ Some y

pub forgets : (b : Bool) (o : Option ℕ) (y : ℕ) → cond b None o ≡ Some y → o ≡ Some y
forgets true o y is = cc
forgets false o y is = is

pub grows_none : (sh : Shape) (t : List Claim) → Grows sh t t
grows_none sh t = record { locked_is = λ l. refl; reads_is = λ l. refl; words = λ w y is. is }

pub grows_then : (sh : Shape) (old mid new : List Claim) → Grows sh old mid → Grows sh mid new → Grows sh old new
grows_then sh old mid new first last = record {
  locked_is = λ l. last.locked_is l ∙ first.locked_is l;
  reads_is = λ l. last.reads_is l ∙ first.reads_is l;
  words = λ w y is. first.words w y (last.words w y is);
}

grows_descriptor : (sh : Shape) (c x : ℕ) (t : List Claim) → Grows sh t (SawDescriptor c x ∷ t)
grows_descriptor sh c x t = record { locked_is = λ l. refl; reads_is = λ l. refl; words = λ w y is. forgets _ (pictured sh t w) y is }

grows_bitmap : (sh : Shape) (c x : ℕ) (t : List Claim) → Grows sh t (SawBitmap c x ∷ t)
grows_bitmap sh c x t = record { locked_is = λ l. refl; reads_is = λ l. refl; words = λ w y is. forgets _ (pictured sh t w) y is }

pub grows_seen : (sh : Shape) (part : Part) (x : ℕ) (t : List Claim) → Grows sh t (seen_by part x t)
grows_seen sh GenerationPart x t = grows_none sh t
grows_seen sh SealPart x t = grows_none sh t
grows_seen sh EntryPart x t = grows_none sh t
grows_seen sh SlotPart x t = grows_none sh t
grows_seen sh RootPart x t = grows_none sh t
grows_seen sh (DescriptorPart c) x t = grows_descriptor sh c x t
grows_seen sh (ChunkPart c zero) x t = grows_bitmap sh c x t
grows_seen sh (ChunkPart c (suc i)) x t = grows_none sh t
grows_seen sh OtherPart x t = grows_none sh t

grows_mark : (sh : Shape) (part : Part) (x : ℕ) (t : List Claim) → Grows sh t (marked_by Idle part x t)
grows_mark sh GenerationPart x t = grows_none sh t
grows_mark sh SealPart x t = grows_none sh t
grows_mark sh EntryPart x t = grows_none sh t
grows_mark sh SlotPart x t = grows_none sh t
grows_mark sh RootPart x t = grows_none sh t
grows_mark sh (DescriptorPart c) x t = record { locked_is = λ l. refl; reads_is = λ l. refl; words = λ w y is. is }
grows_mark sh (ChunkPart c i) x t = grows_none sh t
grows_mark sh OtherPart x t = grows_none sh t

grows_mark_open : (sh : Shape) (part : Part) (x : ℕ) (t : List Claim) → Grows sh t (marked_by Open part x t)
grows_mark_open sh GenerationPart x t = grows_none sh t
grows_mark_open sh SealPart x t = grows_none sh t
grows_mark_open sh EntryPart x t = grows_none sh t
grows_mark_open sh SlotPart x t = grows_none sh t
grows_mark_open sh RootPart x t = grows_none sh t
grows_mark_open sh (DescriptorPart c) x t = record { locked_is = λ l. refl; reads_is = λ l. refl; words = λ w y is. is }
grows_mark_open sh (ChunkPart c i) x t = grows_none sh t
grows_mark_open sh OtherPart x t = grows_none sh t

pub grows_marked : (sh : Shape) (phase : Phase) (part : Part) (x : ℕ) (t : List Claim) → Grows sh t (marked_by phase part x t)
grows_marked sh Idle part x t = grows_mark sh part x t
grows_marked sh Open part x t = grows_mark_open sh part x t
grows_marked sh (Drawn n) part x t = grows_none sh t
grows_marked sh (Sealing n) part x t = grows_none sh t
grows_marked sh (Applying es) part x t = grows_none sh t
grows_marked sh Clearing part x t = grows_none sh t
grows_marked sh (Retiring n) part x t = grows_none sh t
grows_marked sh Voiding part x t = grows_none sh t

grows_decided : (sh : Shape) (phase : Phase) (es : List Entry) (t : List Claim) → Grows sh t (decided_by phase es t)
grows_decided sh Idle es t = grows_none sh t
grows_decided sh Open es t = grows_none sh t
grows_decided sh (Drawn n) es t = grows_none sh t
grows_decided sh (Sealing n) es t = record { locked_is = λ l. refl; reads_is = λ l. refl; words = λ w y is. is }
grows_decided sh (Applying fs) es t = grows_none sh t
grows_decided sh Clearing es t = grows_none sh t
grows_decided sh (Retiring n) es t = grows_none sh t
grows_decided sh Voiding es t = grows_none sh t

grows_left : (sh : Shape) (left : List Undrained) (log : Log) (t : List Claim) → Grows sh t (claims_drained left log t)
grows_left sh [] log t = grows_decided sh log.phase log.entries t
grows_left sh (c ∷ left) log t = grows_none sh t

pub grows_drained : (sh : Shape) (left : List Undrained) (log : Log) (t : List Claim) → Grows sh t (claims_drained left log (Drained left ∷ t))
grows_drained sh left log t = grows_then sh t (Drained left ∷ t) (claims_drained left log (Drained left ∷ t)) (record { locked_is = λ l. refl; reads_is = λ l. refl; words = λ w y is. is }) (grows_left sh left log (Drained left ∷ t))

-- a word is known, as it is
pub known_loaded : (sh : Shape) (words : List ℕ) (w x : ℕ) (old new : List Claim) → Grows sh old new → AreKnown sh old words → slice_index words w ≡ x → AreKnown sh (Knows w x ∷ new) words
known_loaded sh words w x old new grows known is u y knows =
    ⊎_elim
    (λ (same : w ≡ u). let found : Some x ≡ Some y = sym (cond-true _ (Some x) (pictured sh new u) (eq-eqb w u same)) ∙ knows in let e : x ≡ y = cc in ap (slice_index words) (sym same) ∙ (is ∙ e))
    (λ (differ : w ≢ u). known u y (grows.words u y (sym (cond-false _ (Some x) (pictured sh new u) (ne_eqb w u differ)) ∙ knows)))
    (cases_eq w u)

-- a word is known as it becomes
pub known_stored : (sh : Shape) (words : List ℕ) (w x : ℕ) (old new : List Claim) → Grows sh old new → AreKnown sh old words → w < length words → AreKnown sh (Knows w x ∷ new) (set words w x)
known_stored sh words w x old new grows known within u y knows =
    ⊎_elim
    (λ (same : w ≡ u). let found : Some x ≡ Some y = sym (cond-true _ (Some x) (pictured sh new u) (eq-eqb w u same)) ∙ knows in let e : x ≡ y = cc in ap (slice_index (set words w x)) (sym same) ∙ (get_or-set_same words w x 0 within ∙ e))
    (λ (differ : w ≢ u). get_or-set_other words w u x 0 (λ e. differ (sym e)) ∙ known u y (grows.words u y (sym (cond-false _ (Some x) (pictured sh new u) (ne_eqb w u differ)) ∙ knows)))
    (cases_eq w u)

pub known_grown : (sh : Shape) (words : List ℕ) (old new : List Claim) → Grows sh old new → AreKnown sh old words → AreKnown sh new words
known_grown sh words old new grows known u y knows = known u y (grows.words u y knows)
