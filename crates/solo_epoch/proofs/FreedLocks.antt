-- Of what a call found and freed the lane has the lock, from one operation to the next.
use Rattle.std.proofs.Common.{◌≡◌, ⊎_elim, ℕ, ◌+◌, ◌*◌, ◌||◌, true, false, eqb, eqb-true, Contains, List, [], ◌∷◌, ◌++◌, None, sym, ap, ◌∙◌, subst}
use Rattle.std.specs.List.{list_any}
use Rattle.std.proofs.lemmas.Bool.{cond-false, false≢true, or_cases, or_parts}
use Rattle.std.proofs.lemmas.List.Folds.{list_any-append}
use Rattle.solo_model.specs.Bytes.{is_among}
use Rattle.pm_objects.specs.declared.calls.Operation.TheVariants.{Free}
use Rattle.pm_objects.specs.declared.ids.Oid.{Oid}
use Rattle.solo_view.specs.View.{Lock, View}
use Rattle.solo_crash.specs.CallBlocks.{CallBlocks, blocks_in, is_at, is_freed_in}
use Rattle.solo_crash.specs.Operations.{FreesFound, IsFoundUnder, KeepsFound}
use Rattle.solo_crash.proofs.CallBlocks.{blocks_once_more}
use Rattle.solo_epoch.specs.Allocating.{HasLockedFreed, IsFoundAt}

pub none_freed : (v : View) → (blocks_in v).freed ≡ [] → HasLockedFreed v
none_freed v none off freed = absurd (false≢true (sym (ap (λ (offs : List ℕ). is_among offs off) none) ∙ freed))

-- an object that is found still lies under a lock that is held
found_still : (v next : View) → KeepsFound v next → (off : ℕ) → IsFoundAt v off → IsFoundAt next off
found_still v next keeps off t =
    let under : IsFoundUnder next t.lock.line t.lines = keeps t.lock t.lines t.held t.found in
    record { lock = under.lock; lines = t.lines; held = under.held; found = under.block; place = t.place ∙ ap (λ line. 64 * line + 64) (sym under.of_line) }

pub locked_still : (v next : View) → KeepsFound v next → ((off : ℕ) → is_freed_in next off ≡ is_freed_in v off) → HasLockedFreed v → HasLockedFreed next
locked_still v next keeps same locked off freed = found_still v next keeps off (locked off (sym (same off) ∙ freed))

module _ (v next : View) (id : Oid) (frees : FreesFound v next id) (locked : HasLockedFreed v) where
  held_still : (l : Lock) → Contains v.locks l → Contains next.locks l
  held_still l there = subst (λ (locks : List Lock). Contains locks l) (sym frees.tells.locks) there

  -- one more is freed, which the call did not make
  freed_more : (blocks_in next).freed ≡ (blocks_in v).freed ++ id.off ∷ []
  freed_more =
      let b : CallBlocks = blocks_in v in
      let old : list_any (is_at id.off) b.made ≡ false = (or_parts (list_any (is_at id.off) b.made) (list_any (is_at id.off) b.dropped) frees.old.found).0 in
      ap (λ (blocks : CallBlocks). blocks.freed) (blocks_once_more v next (Free id) None frees.tells.keeps.entries frees.tells.call ∙ cond-false (list_any (is_at id.off) b.made) _ (record b { freed = b.freed ++ id.off ∷ [] }) old)

  now_freed : (off : ℕ) → eqb id.off off ≡ true → IsFoundAt next off
  now_freed off is = record {
    lock = frees.held.lock;
    lines = frees.held.lines;
    held = held_still frees.held.lock frees.held.held;
    found = frees.held.block;
    place = sym (eqb-true id.off off is) ∙ frees.held.place;
  }

  before_freed : (off : ℕ) → is_freed_in v off ≡ true → IsFoundAt next off
  before_freed off freed = let t = locked off freed in record { lock = t.lock; lines = t.lines; held = held_still t.lock t.held; found = t.found; place = t.place }

  pub freed_is_locked : HasLockedFreed next
  freed_is_locked off freed =
      let is_it = λ (other : ℕ). eqb other off in
      ⊎_elim
      (λ (before : is_freed_in v off ≡ true). before_freed off before)
      (λ (now : (eqb id.off off || false) ≡ true). ⊎_elim (now_freed off) (λ (none : false ≡ true). absurd (false≢true none)) (or_cases (eqb id.off off) false now))
      (or_cases (list_any is_it (blocks_in v).freed) (eqb id.off off || false) (sym (ap (list_any is_it) freed_more ∙ list_any-append is_it (blocks_in v).freed (id.off ∷ [])) ∙ freed))
