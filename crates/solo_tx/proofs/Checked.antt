-- What a check found is why an operation on a range is refused, or what it is done by.
use Rattle.std.proofs.Common.{◌≡◌, ◌⊎◌, ⊎_elim, inl, inr, ◌||◌, ℕ, zero, suc, Result, Ok, Err, IfErr, true, refl, sym, ap, ◌∙◌, subst}
use Rattle.std.specs.List.{list_any}
use Rattle.solo_model.specs.Bytes.{is_among}
use Rattle.solo_crash.proofs.CallBlocks.{keeps_still, same_blocks}
use Rattle.solo_crash.specs.CallBlocks.{CallBlocks, IsOldIn, KeepsBlocks, is_at}
use Rattle.solo_crash.specs.Reserved.{IsBorneOut}
use Rattle.solo_view.specs.Founds.{IsAlone}
use Rattle.solo_crash.specs.Operations.{IsNotAdded, IsNotHeld, IsReason, PassesEnd}
use Rattle.solo_model.specs.Checks.{Range, is_write, needs_write}
use Rattle.pm_objects.specs.declared.calls.Operation.{Operation}
use Rattle.pm_objects.specs.declared.refusal.Refusal.{Refusal}
use Rattle.pm_objects.specs.declared.refusal.Refusal.TheVariants as refusal
use Rattle.solo_view.specs.View.{View}
use Rattle.solo_world.specs.Opening.{Opening}
use Rattle.solo_world.specs.declared.lane.Lane.{Lane}
use Rattle.solo_tx.specs.AtWork.{IsAtWork}
use Rattle.solo_tx.specs.Calls.{HasLooked}
use Rattle.solo_tx.proofs.BorneOut.{looks_borne}
use Rattle.solo_tx.specs.Ending.{MayGiveUp}
use Rattle.solo_tx.specs.Learning.{HasChecked, Looks}

-- what holds of each error that a result may be
pub if_err : {T E : Type 0} (P : E → Type 0) (result : Result T E) → ((r : E) → result ≡ Err r → P r) → IfErr result P
if_err P (Ok answer) so = tt
if_err P (Err r) so = so r refl

-- what holds of its error
pub of_err : {T E : Type 0} (P : E → Type 0) (result : Result T E) (r : E) → result ≡ Err r → IfErr result P → P r
of_err P result r is holds = subst (λ answer. IfErr answer P) is holds

-- looks tell nothing, so the call has of the heap what it had
pub looks_call : (n : ℕ) (v w : View) → Looks n v w → w.call ≡ v.call
unfolding Looks
looks_call zero v w is = ap (λ (u : View). u.call) is
looks_call (suc n) v w t = ap (λ (u : View). u.call) t.6 ∙ looks_call n v t.0 t.3

pub looks_entries : (n : ℕ) (v w : View) → Looks n v w → w.entries ≡ v.entries
unfolding Looks
looks_entries zero v w is = ap (λ (u : View). u.entries) is
looks_entries (suc n) v w t = ap (λ (u : View). u.entries) t.6 ∙ looks_entries n v t.0 t.3

old_still : (v w : View) → w.entries ≡ v.entries → w.call ≡ v.call → (off : ℕ) → IsOldIn v off → IsOldIn w off
old_still v w entries call off old =
    let same = same_blocks v w entries call in
    record {
      found = ap (λ (b : CallBlocks). list_any (is_at off) b.made || list_any (is_at off) b.dropped) same ∙ old.found;
      kept = ap (λ (b : CallBlocks). is_among b.freed off) same ∙ old.kept;
    }

may_still : (n : ℕ) (v w : View) → Looks n v w → MayGiveUp v → MayGiveUp w
may_still n v w looks may = ⊎_elim
    (λ (keeps : KeepsBlocks v). inl (keeps_still v w (looks_entries n v w looks) (looks_call n v w looks) keeps))
    (λ (borne : IsAlone v × IsBorneOut v). inr (looks_borne n v w looks borne.0 borne.1))
    may

module _ {M : Type 0} (o : Opening) (at : M → View → Type 0) (mid : Lane M) (v : View) where
  -- what a check left, for whoever asks for the view alone
  pub looked_so : (P Q : View → Type 0) → HasChecked o at mid v P → ((w : View) → IsAtWork o at mid w → P w → Q w) → HasLooked v Q
  looked_so P Q t so = record { loads = t.loads; view = t.view; looks = t.looks; working = t.works.working; holds = so t.view t.works t.holds }

  -- so it is of a call that may be given up, at an object that it found
  pub looked_giving_up : (P Q : View → Type 0) (off : ℕ) → HasChecked o at mid v P → IsOldIn v off → MayGiveUp v → ((w : View) → IsAtWork o at mid w → IsOldIn w off → MayGiveUp w → P w → Q w) → HasLooked v Q
  looked_giving_up P Q off t old may so =
      let entries = looks_entries t.loads v t.view t.looks in
      let call = looks_call t.loads v t.view t.looks in
      record { loads = t.loads; view = t.view; looks = t.looks; working = t.works.working; holds = so t.view t.works (old_still v t.view entries call off old) (may_still t.loads v t.view t.looks may) t.holds }

  pub looked_old : (P Q : View → Type 0) (off : ℕ) → HasChecked o at mid v P → IsOldIn v off → ((w : View) → IsAtWork o at mid w → IsOldIn w off → P w → Q w) → HasLooked v Q
  looked_old P Q off t old so = record { loads = t.loads; view = t.view; looks = t.looks; working = t.works.working; holds = so t.view t.works (old_still v t.view (looks_entries t.loads v t.view t.looks) (looks_call t.loads v t.view t.looks) off old) t.holds }

  module _ {T : Type 0} (op : Operation) (range : Range) (result : Result T Refusal) (r : Refusal) (is : result ≡ Err r) where
    abbrev Checks : (View → Type 0) → Type 0
    Checks P = HasChecked o at mid v P

    -- the object's lock is not held, or the range passes its end
    pub lock_or_end : (r ≡ refusal.NotLocked) ⊎ (r ≡ refusal.OutOfRange) → (result ≡ Err refusal.NotLocked → Checks (λ w. IsNotHeld w range.id (needs_write op)))
        → (result ≡ Err refusal.OutOfRange → Checks (λ w. PassesEnd w range.id range.off range.len (needs_write op))) → Checks (λ w. IsReason w op range r)
    lock_or_end cause locked ends =
        ⊎_elim (λ (e : r ≡ refusal.NotLocked). subst (λ r. Checks (λ w. IsReason w op range r)) (sym e) (locked (is ∙ ap Err e)))
        (λ (e : r ≡ refusal.OutOfRange). subst (λ r. Checks (λ w. IsReason w op range r)) (sym e) (ends (is ∙ ap Err e))) cause

    -- or a word that would be written has no record
    pub lock_end_or_record : is_write op ≡ true → (r ≡ refusal.NotLocked) ⊎ (r ≡ refusal.OutOfRange) ⊎ (r ≡ refusal.NotAdded) → (result ≡ Err refusal.NotLocked → Checks (λ w. IsNotHeld w range.id (needs_write op)))
        → (result ≡ Err refusal.OutOfRange → Checks (λ w. PassesEnd w range.id range.off range.len (needs_write op)))
        → (result ≡ Err refusal.NotAdded → Checks (λ w. IsNotAdded w range.id range.off range.len (needs_write op))) → Checks (λ w. IsReason w op range r)
    lock_end_or_record writes cause locked ends added =
        ⊎_elim (λ (e : r ≡ refusal.NotLocked). lock_or_end (inl e) locked ends)
        (λ (rest : (r ≡ refusal.OutOfRange) ⊎ (r ≡ refusal.NotAdded)).
        ⊎_elim (λ (e : r ≡ refusal.OutOfRange). lock_or_end (inr e) locked ends)
        (λ (e : r ≡ refusal.NotAdded). subst (λ r. Checks (λ w. IsReason w op range r)) (sym e) (missing (added (is ∙ ap Err e)))) rest) cause where
          missing : Checks (λ w. IsNotAdded w range.id range.off range.len (needs_write op)) → Checks (λ w. IsReason w op range refusal.NotAdded)
          missing t = record { loads = t.loads; view = t.view; looks = t.looks; works = t.works; holds = (writes, t.holds) }
