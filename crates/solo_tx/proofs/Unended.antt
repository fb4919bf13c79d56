-- A lane that may make its steps ends its generation by a store of it alone.
use Rattle.std.proofs.Common.{◌≡◌, ℕ, Bool, true, false, cond, List, [], ◌∷◌, ◌++◌, is_some, refl, sym, ap, ◌∙◌, arith, eq-eqb}
use Rattle.std.proofs.lemmas.Bool.{false≢true}
use Rattle.solo_crash.proofs.Raises.{raise_by}
use Rattle.solo_crash.specs.Alone.{is_raise, raises}
use Rattle.solo_view.proofs.SameLane.{same_lane-after}
use Rattle.solo_view.specs.declared.change.Change.{Change}
use Rattle.solo_view.specs.Area.{Part, area_word, part_of}
use Rattle.solo_view.specs.Area.Part.{EntryWord, GenerationWord, OtherWord, SealWord, SlotWord}
use Rattle.solo_view.specs.Changes.{drained}
use Rattle.solo_view.specs.Log.{Final, Log, Phase, Recorded, log_drained, log_drawn, log_stored, phase_drawn, with_pair, with_slot, log_changed}
use Rattle.solo_view.specs.Log.Phase.{Idle, Open, Drawn, Sealing, Applying, Clearing, Retiring}
use Rattle.solo_view.specs.Steps.{Step}
use Rattle.solo_view.specs.Steps.Step.{Load, Store, Or, And, Flush, Drain, TakeWrite, TakeRead, Raise, Give, ZoneTry, ZoneGive, Occupied, Occupy, Vacate, Draw, NumberSeen, StopSeen, SetStop, Tell}
use Rattle.solo_view.specs.View.{View}
use Rattle.solo_view.specs.Views.{after, after_all, begun, log_after_drain}
use Rattle.solo_world.proofs.Parts.{generation_part}
use Rattle.solo_world.specs.Lawful.{Allowed, StoreFits}
use Rattle.solo_world.specs.Sequences.{Ready}
use Rattle.solo_tx.specs.Generations.{is_ending}

slot_unended : (log : Log) (slot pair : List ℕ) → is_ending (with_slot log slot pair).phase ≡ false
slot_unended log [] pair = refl
slot_unended log (a ∷ []) pair = refl
slot_unended log (a ∷ b ∷ []) pair = refl
slot_unended log (a ∷ b ∷ c ∷ []) pair = refl
slot_unended log (a ∷ b ∷ c ∷ d ∷ []) pair = refl
slot_unended log (a ∷ b ∷ c ∷ d ∷ e ∷ []) pair = refl
slot_unended log (a ∷ b ∷ c ∷ d ∷ e ∷ f ∷ []) pair = refl
slot_unended log (a ∷ b ∷ c ∷ d ∷ e ∷ f ∷ g ∷ []) pair = refl
slot_unended log (a ∷ b ∷ c ∷ d ∷ e ∷ f ∷ g ∷ h ∷ []) pair = refl
slot_unended log (a ∷ b ∷ c ∷ d ∷ e ∷ f ∷ g ∷ h ∷ i ∷ slot) pair = refl

pair_unended : (log : Log) (slot pair : List ℕ) → is_ending (with_pair log slot pair).phase ≡ false
pair_unended log slot [] = refl
pair_unended log slot (a ∷ []) = refl
pair_unended log slot (a ∷ b ∷ []) = refl
pair_unended log slot (a ∷ b ∷ c ∷ pair) = refl

drawn_unended : (records : List Recorded) (entries : List Final) → is_ending (phase_drawn records entries) ≡ false
drawn_unended [] [] = refl
drawn_unended [] (e ∷ entries) = refl
drawn_unended (r ∷ records) entries = refl

module _ (v : View) (unended : is_ending v.log.phase ≡ false) where
  stored_unended : (w x : ℕ) (p : Phase) (part : Part) → StoreFits v w x p part → (part ≡ GenerationWord → ⊥) → is_ending (log_stored p part x v.log).phase ≡ false
  stored_unended w x (Open slot pair) SlotWord fits other = slot_unended v.log (slot ++ x ∷ []) pair
  stored_unended w x (Open slot pair) OtherWord fits other = unended
  stored_unended w x (Open slot pair) GenerationWord fits other = absurd (other refl)
  stored_unended w x (Open slot pair) SealWord fits other = absurd fits
  stored_unended w x (Open slot pair) EntryWord fits other = pair_unended v.log slot (pair ++ x ∷ [])
  stored_unended w x Drawn GenerationWord fits other = absurd (other refl)
  stored_unended w x Drawn SealWord fits other = refl
  stored_unended w x Drawn EntryWord fits other = absurd fits
  stored_unended w x Drawn SlotWord fits other = absurd fits
  stored_unended w x Drawn OtherWord fits other = absurd fits
  stored_unended w x Idle part fits other = absurd fits
  stored_unended w x Sealing part fits other = absurd fits
  stored_unended w x (Applying applied) GenerationWord fits other = absurd (other refl)
  stored_unended w x (Applying applied) SealWord fits other = refl
  stored_unended w x (Applying applied) EntryWord fits other = absurd fits
  stored_unended w x (Applying applied) SlotWord fits other = absurd fits
  stored_unended w x (Applying applied) OtherWord fits other = refl
  stored_unended w x Clearing part fits other = absurd fits
  stored_unended w x Retiring part fits other = absurd fits

  drain_unended : (p : Phase) (number : Bool) → is_ending p ≡ false → is_ending (log_drained p number v.log).phase ≡ false
  drain_unended Idle number calm = unended
  drain_unended (Open slot pair) number calm = unended
  drain_unended Drawn number calm = unended
  drain_unended Sealing number calm = refl
  drain_unended (Applying applied) number calm = unended
  drain_unended Clearing number calm = refl
  drain_unended Retiring number calm = absurd (false≢true (sym calm))

  drained_unended : (changes : List Change) → is_ending (log_after_drain changes v).phase ≡ false
  drained_unended [] = drain_unended v.log.phase (is_some v.number) unended
  drained_unended (c ∷ changes) = unended

  changed_unended : (p : Phase) → is_ending (log_changed p v.log).phase ≡ false
  changed_unended Idle = unended
  changed_unended (Open slot pair) = unended
  changed_unended Drawn = unended
  changed_unended Sealing = unended
  changed_unended (Applying applied) = refl
  changed_unended Clearing = unended
  changed_unended Retiring = unended

  begun_unended : (p : Phase) → is_ending (begun p v).log.phase ≡ false
  begun_unended Idle = refl
  begun_unended (Open slot pair) = unended
  begun_unended Drawn = unended
  begun_unended Sealing = unended
  begun_unended (Applying applied) = unended
  begun_unended Clearing = unended
  begun_unended Retiring = unended

  module _ (lane : v.lane ≡ 0) where
    not_generation : (w x : ℕ) → is_raise (Store w x) ≡ false → part_of v.lane w ≡ GenerationWord → ⊥
    not_generation w x none part =
        let at : w ≡ area_word v.lane = (generation_part v.lane w part).1 in
        false≢true (sym none ∙ eq-eqb w 512 (let e : w ≡ 512 = omega (arith, at, lane) in e))

    unended_after : (s : Step) → Allowed v s → is_raise s ≡ false → is_ending (after v s).log.phase ≡ false
    unended_after (Load w x) may none = unended
    unended_after (Store w x) may none = stored_unended w x v.log.phase (part_of v.lane w) may.fits (not_generation w x none)
    unended_after (Or w bits found) may none = changed_unended v.log.phase
    unended_after (And w bits found) may none = changed_unended v.log.phase
    unended_after (Flush line) may none = unended
    unended_after Drain may none = drained_unended (drained v.changes)
    unended_after (TakeWrite line won) may none = unended
    unended_after (TakeRead line won) may none = unended
    unended_after (Raise line won) may none = absurd may
    unended_after (Give line) may none = unended
    unended_after (ZoneTry zone won) may none = unended
    unended_after (ZoneGive zone) may none = unended
    unended_after (Occupied at found) may none = unended
    unended_after (Occupy at bits won) may none = unended
    unended_after (Vacate at bits) may none = unended
    unended_after (Draw n) may none = ap (λ (p : Phase). is_ending (log_drawn p v.log).phase) may.is_open ∙ drawn_unended v.log.records v.log.entries
    unended_after (NumberSeen n) may none = begun_unended v.log.phase
    unended_after (StopSeen set) may none = unended
    unended_after SetStop may none = unended
    unended_after (Tell operation reply) may none = unended

raises_not : (s : Step) (b : Bool) → is_raise s ≡ b → raise_by s ≡ 0 → is_raise s ≡ false
raises_not s false is none = is
raises_not s true is none = absurd (let one : raise_by s ≡ 1 = ap (λ (b : Bool). cond b 1 0) is in omega (arith, one, none))

pub unended_along : (v : View) (steps : List Step) → v.lane ≡ 0 → is_ending v.log.phase ≡ false → Ready v steps → raises steps ≡ 0 → is_ending (after_all v steps).log.phase ≡ false
unfolding Ready raises after_all
unended_along v [] lane unended ready none = unended
unended_along v (s ∷ steps) lane unended ready none =
    unended_along (after v s) steps ((same_lane-after v s).lane ∙ lane)
    (unended_after v unended lane s ready.0 (raises_not s (is_raise s) refl (let e : raise_by s ≡ 0 = omega (arith, none) in e)))
    ready.2 (let e : raises steps ≡ 0 = omega (arith, none) in e)
