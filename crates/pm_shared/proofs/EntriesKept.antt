-- What entries of a lane's log may set stays so, whatever lawful step the lane makes.
use Rattle.std.proofs.Common.{◌≡◌, ◌≢◌, ℕ, zero, suc, ◌+◌, ◌*◌, ◌/◌, ◌%◌, ⊎_elim, Bool, true, false, ◌==◌, List, [], ◌∷◌, ◌++◌, length, take, slice_index, slice_get, Option, None, Some, ap, refl, sym, subst, ◌∙◌, arith}
use Rattle.std.proofs.lemmas.Bool.{both_ways, cond_both}
use Rattle.std.specs.Prelude.{unwrap_or}
use Rattle.pm_record.specs.Redo.{op_code, op_of}
use Rattle.pm_record.specs.declared.redo.Op.{Op}
use Rattle.pm_record.specs.declared.redo.Op.TheVariants.{Set, Or as OrOp, And as AndOp}
use Rattle.pm_view.specs.declared.occ.Occ.{Occ}
use Rattle.pm_view.specs.Changes.{Undrained, drained}
use Rattle.pm_view.specs.Claims.{class}
use Rattle.pm_view.specs.Entries.{Entry}
use Rattle.pm_view.specs.Log.{Phase, Idle, Open, Drawn, Sealing, Applying, Clearing, Retiring, Voiding, Log, entered, recorded, with_slot, with_pair, log_stored, log_changed, log_drained}
use Rattle.pm_view.specs.Parts.{Part, GenerationPart, SealPart, EntryPart, SlotPart, RootPart, DescriptorPart, ChunkPart, OtherPart}
use Rattle.pm_view.specs.Places.{Place, InRun, InHuge, Descr, RootWord}
use Rattle.pm_view.specs.Steps.{Step}
use Rattle.pm_view.specs.Steps.Step.{Load, Store, Or, And, Flush, Drain, TakeWrite, TakeRead, Raise, Give, ZoneTry, ZoneGive, Occupied, Occupy, Vacate, Draw, NumberSeen, StopSeen, SetStop, Tell}
use Rattle.pm_view.specs.View.{View}
use Rattle.pm_view.specs.Views.{after, begun, occupied, log_left, part_in, shape_of}
use Rattle.pm_world.proofs.StoreEntry.{get_more}
use Rattle.pm_world.specs.Lawful.{IsLawful, StoreFits, AppendsToPair, EntersAt, EntersWord, place_in}
use Rattle.pm_shared.specs.Rule.{SetsFit, is_settable}

-- the word and the operation that the head of a pair spells
code_op : (how : Op) (word : ℕ) → op_of ((8 * word + op_code how) % 8) ≡ Some how
code_op Set word = ap op_of (let q : (8 * word + 0) % 8 ≡ 0 = omega arith in q)
code_op OrOp word = ap op_of (let q : (8 * word + 1) % 8 ≡ 1 = omega arith in q)
code_op AndOp word = ap op_of (let q : (8 * word + 2) % 8 ≡ 2 = omega arith in q)

code_word : (how : Op) (word : ℕ) → (8 * word + op_code how) / 8 ≡ word
code_word Set word = omega arith
code_word OrOp word = omega arith
code_word AndOp word = omega arith

some_place : (p q : Place) → Some p ≡ Some q → p ≡ q
some_place p q e = ap place_of e
  where
    place_of : Option Place → Place
    place_of None = RootWord
    place_of (Some r) = r

-- no entry of no place
no_entries : SetsFit []
no_entries i e p here set place = absurd (both_ways false refl (ap has here))
  where
    has : Option Entry → Bool
    has None = false
    has (Some d) = true

module _ (v : View) where
  -- an entry that sets a whole word is of no bitmap, and of data where the chunk is a run
  settable : (how : Op) (value : ℕ) (q p : Place) → EntersAt v q how value → how ≡ Set → q ≡ p → is_settable p ≡ true
  settable how value (InRun c zero) p may set same = absurd (may.0 set)
  settable how value (InRun c (suc w)) p may set same = subst (λ r. is_settable r ≡ true) same (⊎_elim (λ m. m.1) (λ m. m.0) may)
  settable how value (InHuge c w) p may set same = ap is_settable (sym same)
  settable how value (Descr c) p may set same = ap is_settable (sym same)
  settable how value RootWord p may set same = ap is_settable (sym same)

  word_settable : (w : ℕ) (how : Op) (value : ℕ) (q : Option Place) (p : Place) → EntersWord v w how value q → how ≡ Set → q ≡ Some p → is_settable p ≡ true
  word_settable w how value (Some q) p may set same = settable how value q p may set (some_place q p same)
  word_settable w how value None p may set same = absurd (both_ways false refl (ap some_ same))
    where
      some_ : Option Place → Bool
      some_ None = false
      some_ (Some r) = true

  -- the pair is whole with its second word
  head_of : (words : List ℕ) (x a b : ℕ) → words ++ x ∷ [] ≡ take (length words + 1) (a ∷ b ∷ []) → words ≢ [] → slice_index words 0 ≡ a
  head_of [] x a b e some = absurd (some refl)
  head_of (h ∷ t) x a b e some = ap (λ (l : List ℕ). slice_index l 0) e ∙ ap (λ n. slice_index (take n (a ∷ b ∷ [])) 0) (let q : suc (length t) + 1 ≡ suc (suc (length t)) = omega arith in q)

  pair_fits : (w x : ℕ) (log : Log) (pair : List ℕ) → v.log.pair ≡ pair → AppendsToPair v w x → SetsFit log.entries → SetsFit (with_pair (shape_of v) (class v.claims) pair x log).entries
  pair_fits w x log [] at a fit = fit
  pair_fits w x log (h ∷ t) at a fit = λ i e p here set place. ⊎_elim
      (λ (old : slice_get log.entries i ≡ Some e). fit i e p old set place)
      (λ (new : (i ≡ length log.entries) × (entered (shape_of v) (class v.claims) h x ≡ e)).
      let head : h ≡ 8 * a.word + op_code a.how = head_of (h ∷ t) x (8 * a.word + op_code a.how) a.value (subst (λ l. l ++ x ∷ [] ≡ take (length l + 1) ((8 * a.word + op_code a.how) ∷ a.value ∷ [])) at a.spells) (λ none. both_ways false refl (sym (ap is_cons none))) in
      let how_is : e.op ≡ a.how = ap (λ (d : Entry). d.op) (sym new.1) ∙ (ap (λ n. unwrap_or (op_of (n % 8)) Set) head ∙ ap (λ o. unwrap_or o Set) (code_op a.how a.word)) in
      let place_is : place_in v a.word ≡ e.place = ap (place_in v) (sym (ap (λ n. n / 8) head ∙ code_word a.how a.word)) ∙ ap (λ (d : Entry). d.place) new.1 in
      word_settable a.word a.how a.value (place_in v a.word) p a.may (sym how_is ∙ set) (place_is ∙ place))
      (get_more log.entries (entered (shape_of v) (class v.claims) h x) i e here)
    where
      is_cons : List ℕ → Bool
      is_cons [] = false
      is_cons (y ∷ ys) = true

  slot_fits : (words : List ℕ) (log : Log) → SetsFit log.entries → SetsFit (with_slot (shape_of v) (class v.claims) words log).entries
  slot_fits words log fit = cond_both (length words == 8) (record log { records = log.records ++ recorded (shape_of v) (class v.claims) words ∷ []; slot = [] }) (record log { slot = words }) (λ (l : Log). SetsFit l.entries) (λ _. fit) (λ _. fit)

  store_fits : (w x : ℕ) (ph : Phase) (q : Part) → StoreFits v w x ph q → SetsFit v.log.entries → SetsFit (log_stored (shape_of v) (class v.claims) ph q x v.log).entries
  store_fits w x Idle q a fit = fit
  store_fits w x Open SlotPart a fit = slot_fits (v.log.slot ++ x ∷ []) v.log fit
  store_fits w x Open EntryPart a fit = pair_fits w x v.log v.log.pair refl a fit
  store_fits w x Open GenerationPart a fit = fit
  store_fits w x Open SealPart a fit = fit
  store_fits w x Open RootPart a fit = fit
  store_fits w x Open (DescriptorPart c) a fit = fit
  store_fits w x Open (ChunkPart c i) a fit = fit
  store_fits w x Open OtherPart a fit = fit
  store_fits w x (Drawn n) GenerationPart a fit = fit
  store_fits w x (Drawn n) SealPart a fit = fit
  store_fits w x (Drawn n) EntryPart a fit = fit
  store_fits w x (Drawn n) SlotPart a fit = fit
  store_fits w x (Drawn n) RootPart a fit = fit
  store_fits w x (Drawn n) (DescriptorPart c) a fit = fit
  store_fits w x (Drawn n) (ChunkPart c i) a fit = fit
  store_fits w x (Drawn n) OtherPart a fit = fit
  store_fits w x (Sealing n) q a fit = fit
  store_fits w x (Applying todo) GenerationPart a fit = fit
  store_fits w x (Applying todo) SealPart a fit = fit
  store_fits w x (Applying todo) EntryPart a fit = fit
  store_fits w x (Applying todo) SlotPart a fit = fit
  store_fits w x (Applying todo) RootPart a fit = fit
  store_fits w x (Applying todo) (DescriptorPart c) a fit = fit
  store_fits w x (Applying todo) (ChunkPart c i) a fit = fit
  store_fits w x (Applying todo) OtherPart a fit = fit
  store_fits w x Clearing q a fit = fit
  store_fits w x (Retiring n) q a fit = fit
  store_fits w x Voiding q a fit = fit

  change_fits : (ph : Phase) → SetsFit v.log.entries → SetsFit (log_changed ph v.log).entries
  change_fits Idle fit = fit
  change_fits Open fit = fit
  change_fits (Drawn n) fit = fit
  change_fits (Sealing n) fit = fit
  change_fits (Applying todo) fit = fit
  change_fits Clearing fit = fit
  change_fits (Retiring n) fit = fit
  change_fits Voiding fit = fit

  drain_fits : (ph : Phase) → SetsFit v.log.entries → SetsFit (log_drained ph v.log).entries
  drain_fits Idle fit = fit
  drain_fits Open fit = fit
  drain_fits (Drawn n) fit = fit
  drain_fits (Sealing n) fit = fit
  drain_fits (Applying todo) fit = fit
  drain_fits Clearing fit = no_entries
  drain_fits (Retiring n) fit = no_entries
  drain_fits Voiding fit = no_entries

  left_fits : (left : List Undrained) → SetsFit v.log.entries → SetsFit (log_left left v.log).entries
  left_fits [] fit = drain_fits v.log.phase fit
  left_fits (c ∷ left) fit = fit

  begun_fits : (ph : Phase) → SetsFit v.log.entries → SetsFit (begun ph v).log.entries
  begun_fits Idle fit = no_entries
  begun_fits Open fit = fit
  begun_fits (Drawn n) fit = fit
  begun_fits (Sealing n) fit = fit
  begun_fits (Applying todo) fit = fit
  begun_fits Clearing fit = fit
  begun_fits (Retiring n) fit = fit
  begun_fits Voiding fit = fit

  occupied_fits : (won : Bool) (at : Occ) (bits : ℕ) → SetsFit v.log.entries → SetsFit (occupied won v at bits).log.entries
  occupied_fits true at bits fit = fit
  occupied_fits false at bits fit = fit

  pub sets_after : (s : Step) → IsLawful v s → SetsFit v.log.entries → SetsFit (after v s).log.entries
  sets_after (Load w x) law fit = fit
  sets_after (Store w x) law fit = store_fits w x v.log.phase (part_in v w) law.allowed.fits fit
  sets_after (Or w bits found) law fit = change_fits v.log.phase fit
  sets_after (And w bits found) law fit = change_fits v.log.phase fit
  sets_after (Flush line) law fit = fit
  sets_after Drain law fit = left_fits (drained v.changes) fit
  sets_after (TakeWrite line won) law fit = fit
  sets_after (TakeRead line won) law fit = fit
  sets_after (Raise line won) law fit = fit
  sets_after (Give line) law fit = fit
  sets_after (ZoneTry zone won) law fit = fit
  sets_after (ZoneGive zone) law fit = fit
  sets_after (Occupied at found) law fit = fit
  sets_after (Occupy at bits won) law fit = occupied_fits won at bits fit
  sets_after (Vacate at bits) law fit = fit
  sets_after (Draw n) law fit = fit
  sets_after (NumberSeen n) law fit = begun_fits v.log.phase fit
  sets_after (StopSeen set) law fit = fit
  sets_after SetStop law fit = fit
  sets_after (Tell operation reply) law fit = fit
