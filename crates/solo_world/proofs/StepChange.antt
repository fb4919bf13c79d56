-- An OR and an AND of a word keep the world: the next entry sets or clears these bits.
use Rattle.std.proofs.Common.{◌≡◌, ℕ, ◌+◌, ◌-◌, ◌<◌, ⊎_elim, IsTrue, Bool, List, length, true, eqb, bit_and, bit_or, refl, sym, ap, ◌∙◌, subst, arith, eq-eqb, ◌⊎◌}
use Rattle.std.proofs.lemmas.Bool.{and_from, cond-true, le-leb, lt-ltb, false≢true}
use Rattle.solo_view.specs.Area.{Part, area_word, is_in_area, part_of}
use Rattle.solo_view.specs.Area.Part.{GenerationWord, SealWord, EntryWord, SlotWord, OtherWord}
use Rattle.solo_view.specs.Changes.{and_change, or_change}
use Rattle.solo_view.specs.Log.{Final, Phase, log_changed}
use Rattle.solo_view.specs.Log.Phase.{Idle, Open, Drawn, Sealing, Applying, Clearing, Retiring}
use Rattle.solo_view.specs.Steps.Step.{Or, And}
use Rattle.solo_view.specs.Rights.{is_written}
use Rattle.solo_view.specs.View.{View}
use Rattle.solo_view.specs.Views.{changed}
use Rattle.pm_record.specs.declared.redo.Op.{Op}
use Rattle.pm_record.specs.declared.redo.Op.TheVariants as op
use Rattle.solo_world.specs.Entries.{IsEntryAt, ends_with, final_by, IsGrowing, IsKnownWord}
use Rattle.solo_world.specs.Fits.{PhaseFits}
use Rattle.solo_world.specs.Records.{generation_of}
use Rattle.solo_world.specs.Laws.{Keeps, with_view}
use Rattle.solo_world.specs.Lawful.{BitsFit, ChangesAlone}
use Rattle.solo_world.specs.World.{World, Views}
use Rattle.solo_world.specs.Opening.{Opening}
use Rattle.solo_world.specs.Memory.{Memory}
use Rattle.solo_world.specs.History.{Entry}
use Rattle.solo_world.proofs.Plain.{plain_still}
use Rattle.solo_world.proofs.Frame.{in_phase}
use Rattle.solo_world.proofs.StoreEntry.{clears_bits, next_entry, sets_bits}
use Rattle.solo_world.proofs.StorePair.{final_word}
use Rattle.solo_world.proofs.Worlds.{own}

-- the entry that sets or clears those bits, whether it is an OR or not
abbrev pub changing : Op → ℕ → ℕ → Bool → Final
changing op w bits ors = record (final_by op w bits) { ors = ors }

-- the next entry is of those bits of a word outside of the lane's area
pub record ChangesNext (v : View) (op : Op) (w bits : ℕ) : Type 0 where
  pub applied : ℕ
  pub phase : v.log.phase ≡ Applying applied
  pub ors : Bool
  pub next : IsEntryAt v applied (changing op w bits ors)
  pub outside : part_of v.lane w ≡ OtherWord

pub changes_next : (v : View) (op : Op) (w bits : ℕ) (phase : Phase) → v.log.phase ≡ phase → (part : Part) → part_of v.lane w ≡ part → BitsFit v op w bits phase part → ChangesNext v op w bits
changes_next v op w bits Idle is part of fits = absurd fits
changes_next v op w bits (Open slot pair) is part of fits = absurd fits
changes_next v op w bits Drawn is part of fits = absurd fits
changes_next v op w bits Sealing is part of fits = absurd fits
changes_next v op w bits (Applying applied) is OtherWord of fits = record { applied = applied; phase = is; ors = fits.0; next = fits.1; outside = of }
changes_next v op w bits (Applying applied) is GenerationWord of fits = absurd fits
changes_next v op w bits (Applying applied) is SealWord of fits = absurd fits
changes_next v op w bits (Applying applied) is EntryWord of fits = absurd fits
changes_next v op w bits (Applying applied) is SlotWord of fits = absurd fits
changes_next v op w bits Clearing is part of fits = absurd fits
changes_next v op w bits Retiring is part of fits = absurd fits

-- so it is none of the lane's generation
own_part : (lane : ℕ) → part_of lane (area_word lane) ≡ GenerationWord
own_part lane =
    let here : is_in_area lane (area_word lane) ≡ true = and_from _ _ (le-leb (area_word lane) (area_word lane) (omega arith)) (lt-ltb (area_word lane) (area_word lane + 1024) (omega arith)) in
    let first : eqb (area_word lane - area_word lane) 0 ≡ true = eq-eqb (area_word lane - area_word lane) 0 (omega arith) in
    cond-true _ _ _ here ∙ cond-true _ _ _ first

pub no_generation : (lane w : ℕ) → part_of lane w ≡ OtherWord → w ≡ area_word lane → ⊥
no_generation lane w part here =
    let both : GenerationWord ≡ OtherWord = sym (own_part lane) ∙ (ap (part_of lane) (sym here) ∙ part) in absurd cc

-- the lane writes the word, and the last entry is to come
pub changes_written : (flies : ℕ → List Final → Type 0) (v : View) (op : Op) (w bits : ℕ) → PhaseFits flies v v.log.phase → (t : ChangesNext v op w bits) → IsTrue (is_written v w) × (t.applied + 1 < length v.log.entries)
changes_written flies v op w bits fits t =
    ⊎_elim (λ (s : IsTrue (is_written v (changing op w bits t.ors).word) × (t.applied + 1 < length v.log.entries)). (subst (λ u. IsTrue (is_written v u)) (final_word op w bits) s.0, s.1))
    (λ (s : (changing op w bits t.ors ≡ ends_with v (generation_of v + 1)) × (t.applied + 1 ≡ length v.log.entries)).
    absurd (no_generation v.lane w t.outside (sym (final_word op w bits) ∙ ap (λ (f : Final). f.word) s.0)))
    (next_entry v t.applied (changing op w bits t.ors) (subst (PhaseFits flies v) t.phase fits) t.next)

-- in a world the lane knows the word: its log has no entry of the heap
changes_known : (o : Opening) (mem : Memory) (views : Views) (log : List Entry) (decided : ℕ → Bool) → World o mem views log decided → (k : ℕ) → k < o.lanes → (v : View) → views k ≡ v → (op : Op) (w bits : ℕ)
    → ChangesNext v op w bits → IsKnownWord v w ⊎ ChangesAlone v w → IsKnownWord v w
changes_known o mem views log decided world k inside v is op w bits t may =
    ⊎_elim (λ (known : IsKnownWord v w). known)
    (λ (alone : ChangesAlone v w). absurd (false≢true (sym (plain_still v (own o mem views log decided world k inside v is).entries (λ grows. subst IsGrowing t.phase grows)) ∙ alone.heap))) may

-- the log goes on in its phase
changed_log : (v : View) (applied : ℕ) → v.log.phase ≡ Applying applied → log_changed v.log.phase v.log ≡ in_phase (Applying (applied + 1)) v.log
changed_log v applied is = ap (λ p. log_changed p v.log) is

pub sets : (w bits found : ℕ) → Keeps (Or w bits found)
sets w bits found o old new views log decided k v world inside is lawful moves =
    let may = lawful.allowed in
    let t = changes_next v op.Or w bits v.log.phase refl (part_of v.lane w) refl may.fits in
    let knows = changes_known o old views log decided world k inside v is op.Or w bits t may.known in
    let fits = own o old views log decided world k inside v is in (
      subst (λ lg. World o new (with_view views k (changed v w (bit_or found bits) (or_change w bits found) lg)) log decided) (sym (changed_log v t.applied t.phase))
          (sets_bits o old views log decided world k inside v is new w bits found moves.1 may.inside (lawful.due refl) may.room knows may.word (no_generation v.lane w t.outside) t.applied t.phase moves.0 t.ors t.next),
      λ known. moves.1 ∙ fits.picture.known w knows.known,
    )

pub clears : (w bits found : ℕ) → Keeps (And w bits found)
clears w bits found o old new views log decided k v world inside is lawful moves =
    let may = lawful.allowed in
    let t = changes_next v op.And w bits v.log.phase refl (part_of v.lane w) refl may.fits in
    let knows = changes_known o old views log decided world k inside v is op.And w bits t may.known in
    let fits = own o old views log decided world k inside v is in (
      subst (λ lg. World o new (with_view views k (changed v w (bit_and found bits) (and_change w bits found) lg)) log decided) (sym (changed_log v t.applied t.phase))
          (clears_bits o old views log decided world k inside v is new w bits found moves.1 may.inside (lawful.due refl) may.room knows may.word (no_generation v.lane w t.outside) t.applied t.phase moves.0 t.ors t.next),
      λ known. moves.1 ∙ fits.picture.known w knows.known,
    )
