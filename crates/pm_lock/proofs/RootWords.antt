-- THE ROOT WORD is looked at under its lock.
use Rattle.std.proofs.Common.{◌≡◌, ℕ, ◌*◌, ◌<◌, Bool, true, false, cond, ◌==◌, ◌||◌, List, [], ◌∷◌, None, Some, Ok, Err, leb, ltb, refl, sym, ap, ◌∙◌, subst, arith, ne_eqb}
use Rattle.std.proofs.lemmas.Bool.{and_parts, both_ways, cond-false, cond-true, false_from_ne_true, leb-true, or_right}
use Rattle.pm_layout.specs.declared.shape.Shape.{Shape}
use Rattle.pm_layout.specs.Areas.{line_of_slot, redo_entries, undo_slots, word_of_entry, word_of_generation, word_of_seal}
use Rattle.pm_layout.specs.Chunks.{word_of_root, words_of}
use Rattle.pm_memory.specs.declared.lane_mem.Stopped.{Stopped}
use Rattle.pm_view.specs.Claims.{Claim, Knows, Took, class, holds, is_held, is_held_at, pictured}
use Rattle.pm_view.specs.Log.{Phase, Idle, Open, Drawn, Sealing, Applying, Clearing, Retiring, Voiding, is_early, place_at}
use Rattle.pm_view.specs.Parts.{Part, RootPart, is_entry_word, is_slot_word, part_of}
use Rattle.pm_view.specs.Steps.Step.{Load}
use Rattle.pm_view.specs.View.{View, runs_one}
use Rattle.pm_view.specs.Views.{after, after_all, learned}
use Rattle.pm_world.specs.declared.lane.Lane.{Lane}
use Rattle.pm_lock.specs.Locking.{HasGrown, Locked, Stands, lock_of}
use Rattle.pm_lock.specs.RootLock.{KnowsRootWord, MayLockRoot, RootLocked, root_seen}
use Rattle.pm_lock.specs.Steps.{waits}
use Rattle.pm_lock.proofs.Waiting.{waited_so}

root_part : (sh : Shape) (k : ℕ) → k < sh.lanes → part_of sh k (word_of_root sh) ≡ RootPart
root_part sh k ink =
    cond-false (word_of_root sh == word_of_generation sh k) _ _ (ne_eqb (word_of_root sh) (word_of_generation sh k) (λ q. omega arith)) ∙ (cond-false (word_of_root sh == word_of_seal sh k) _ _ (ne_eqb (word_of_root sh) (word_of_seal sh k) (λ q. omega arith))
    ∙ (cond-false (is_entry_word sh k (word_of_root sh)) _ _ (false_from_ne_true (is_entry_word sh k (word_of_root sh)) (λ t. let z = leb-true (word_of_entry sh k 0) (word_of_root sh) (and_parts (leb (word_of_entry sh k 0) (word_of_root sh)) (ltb (word_of_root sh) (word_of_entry sh k (redo_entries sh))) t).0 in omega arith))
    ∙ cond-false (is_slot_word sh k (word_of_root sh)) _ _ (false_from_ne_true (is_slot_word sh k (word_of_root sh)) (λ t. let z = leb-true (8 * line_of_slot sh k 0) (word_of_root sh) (and_parts (leb (8 * line_of_slot sh k 0) (word_of_root sh)) (ltb (word_of_root sh) (8 * line_of_slot sh k (undo_slots sh))) t).0 in omega arith))))

learns_root : (phase : Phase) (w x : ℕ) (p : Part) (t : List Claim) → is_early phase ≡ true → p ≡ RootPart → learned phase p w x t ≡ Knows w x ∷ t
learns_root phase w x p t e is = ap (λ q. learned phase q w x t) is ∙ at phase e where
  at : (phase : Phase) → is_early phase ≡ true → learned phase RootPart w x t ≡ Knows w x ∷ t
  at Idle e = refl
  at Open e = refl
  at (Drawn n) e = absurd (both_ways false refl e)
  at (Sealing n) e = absurd (both_ways false refl e)
  at (Applying todo) e = absurd (both_ways false refl e)
  at Clearing e = absurd (both_ways false refl e)
  at (Retiring n) e = absurd (both_ways false refl e)
  at Voiding e = absurd (both_ways false refl e)

module _ (v : View) (write : Bool) (x : ℕ) (may : MayLockRoot v) where
  abbrev sh : Shape
  sh = v.fixed.shape

  abbrev told : List Claim
  told = Knows (word_of_root v.fixed.shape) x ∷ Took 0 write ∷ v.claims

  held : (b : Bool) → holds (Took 0 b ∷ v.claims) 0 ≡ true
  held true = refl
  held false = or_right (Rattle.pm_view.specs.Claims.locked v.claims 0) true refl

  known_word : (one : Bool) → cond (one || is_held sh told (word_of_root sh)) (pictured sh told (word_of_root sh)) None ≡ Some x
  known_word one = cond-true (one || is_held sh told (word_of_root sh)) (pictured sh told (word_of_root sh)) None
      (or_right one (is_held sh told (word_of_root sh)) (or_right (is_held_at sh told (place_at sh (class told) (word_of_root sh))) (holds told 0) (held write)))

  seen_is : (u : View) (n : ℕ) → u ≡ after_all v (waits n 0 write) → after u (Load (word_of_root sh) x) ≡ record v { claims = told; seen = u.seen }
  seen_is u n is =
      let w = waited_so n v 0 write in
      let e : u ≡ record v { claims = Took 0 write ∷ v.claims; seen = u.seen } = is ∙ (w ∙ ap (λ (y : View). record v { claims = Took 0 write ∷ v.claims; seen = y.seen }) (sym is)) in
      ap (λ y. after y (Load (word_of_root sh) x)) e ∙ ap (λ t. record v { claims = t; seen = u.seen })
      (learns_root v.log.phase (word_of_root sh) x (part_of sh v.fixed.lane (word_of_root sh)) (Took 0 write ∷ v.claims) may.take.early (root_part sh v.fixed.lane may.lane))

  pub knows_root_word : (n : ℕ) → KnowsRootWord v write x (root_seen v n write x)
  knows_root_word n =
      let u : View = after_all v (waits n 0 write) in
      let e = seen_is u n refl in
      subst (KnowsRootWord v write x) (sym e) (record { same = refl; known = known_word (runs_one v) })

pub root_allowed : (v : View) → word_of_root v.fixed.shape < words_of v.fixed.shape
root_allowed v = omega arith

module _ {M : Type 0} (at : M → View → Type 0) (write : Bool) (old mid : Lane M) where
  pub root_stopped : (stopped : Stopped) → Locked at 0 write old mid (Err stopped) → RootLocked at write old mid (Err stopped)
  unfolding Locked RootLocked
  root_stopped stopped locked v seen may = locked v seen may.take

  locked_so : Locked at 0 write old mid (Ok tt) → (v : View) → at old.memory v → MayLockRoot v → ((n : ℕ) × at mid.memory (after_all v (waits n 0 write))) × HasGrown (lock_of 0 write ∷ []) old mid
  unfolding Locked
  locked_so locked v seen may = locked v seen may.take

  pub root_stands : Locked at 0 write old mid (Ok tt) → Stands at old MayLockRoot → (u : View) × at mid.memory u
  root_stands locked s = let l = locked_so locked s.0 s.1 s.2 in (after_all s.0 (waits l.0.0 0 write), l.0.1)

  pub root_locked : (memory : M) (x : ℕ) → Locked at 0 write old mid (Ok tt) → ((u : View) → at mid.memory u → at memory (after u (Load 64 x))) → RootLocked at write old (record mid { memory = memory }) (Ok x)
  unfolding RootLocked
  root_locked memory x locked load v seen may = let l = locked_so locked v seen may in
      ((l.0.0, load (after_all v (waits l.0.0 0 write)) l.0.1, knows_root_word v write x may l.0.0), (ap (λ (y : Lane M). record y { memory = memory }) l.1.0, l.1.1))
