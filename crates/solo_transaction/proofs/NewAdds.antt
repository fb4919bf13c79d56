-- A lane at work may be asked to record a range of an object that its call made, which needs no record: that is told, and it stays at work.
use Rattle.std.proofs.Common.{◌≡◌, ℕ, ◌≤◌, All, length, None, refl, sym, ap, ◌∙◌, subst, arith, List}
use Rattle.std.proofs.lemmas.List.{append-nil}
use Rattle.solo_made.specs.Made.{BlockLists}
use Rattle.pm_objects.specs.declared.calls.Operation.TheVariants.{AddRange}
use Rattle.pm_objects.specs.declared.ids.Oid.{Oid}
use Rattle.solo_view.specs.Log.{Phase}
use Rattle.solo_view.specs.Steps.Step.{Tell}
use Rattle.solo_view.specs.View.{View}
use Rattle.solo_view.specs.Views.{after, after_all}
use Rattle.solo_undo.proofs.Begun.{tell_works}
use Rattle.solo_undo.specs.Spans.{IsSpan}
use Rattle.solo_world.specs.Lawful.{MayTell}
use Rattle.solo_world.specs.Opening.{Opening}
use Rattle.solo_world.specs.Sequences.{Ready, one}
use Rattle.solo_world.specs.declared.lane.HeldLock.{HeldLock}
use Rattle.solo_world.specs.declared.lane.Lane.{Lane}
use Rattle.solo_lock.proofs.Drawless.{drawless}
use Rattle.solo_crash.proofs.ReservedStays.{told_stays}
use Rattle.solo_crash.proofs.CallBlocks.{blocks_once_more}
use Rattle.solo_crash.proofs.KeptWords.{keeps_known}
use Rattle.solo_crash.proofs.NewRanges.{new_add_goes_on}
use Rattle.solo_crash.proofs.PendingOn.{published_once_more}
use Rattle.solo_crash.specs.Operations.{AddsNewRange, HasNewRange}
use Rattle.solo_crash.specs.Pending.{published_in}
use Rattle.solo_crash.proofs.StillReserved.{HasSameHeads}
use Rattle.solo_tx.proofs.GoingOn.{HasSameFields, goes_on}
use Rattle.solo_tx.proofs.NoneMade.{made_none_before}
use Rattle.solo_tx.specs.AtWork.{IsAtWork}
use Rattle.solo_transaction.proofs.GoingWith.{Keeps, keeps_told, kept_of, with_lists}
use Rattle.solo_transaction.specs.AtWork.{IsAtWorkWith}
use Rattle.solo_transaction.specs.NewRanges.{HasAddedNew, adds_new}

module _ {M : Type 0} (o : Opening) (at : M → View → Type 0) (lane : Lane M) (blocks : BlockLists) (v : View) (all : IsAtWorkWith o at lane blocks v) (id : Oid) (off len : ℕ) (range : HasNewRange v id off len) where
  abbrev w : View
  w = after v (Tell (AddRange id off len) None)

  may_tell : MayTell v.log.phase
  may_tell = subst (λ (p : Phase). MayTell p) (sym all.work.working.is_open) tt

  pub new_add_may_be_made : Ready v (adds_new id off len v)
  unfolding adds_new one Ready
  new_add_may_be_made = (may_tell, tt, tt)

  lands : after_all v (adds_new id off len v) ≡ w
  unfolding adds_new one after_all
  lands = refl

  add_few : length (after_all v (adds_new id off len v)).entries ≤ length v.entries
  add_few = let same = ap (λ (u : View). length u.entries) lands in omega (arith, same)

  added : AddsNewRange v w id off len
  added = record {
    tells = record { keeps = record { lanes = refl; zones = refl; pool = refl; lane = refl; entries = refl; known = λ i there. there }; locks = refl; call = refl };
    logs = record { records = refl; entries = refl };
    keeps = record { words = λ i outside. refl };
    range = range;
  }

  heads : HasSameHeads v w
  heads = record { lanes = refl; zones = refl; reserved = refl; described = λ c in_pool. refl; bitmaps = λ c in_pool run. refl; root = refl }

  pub new_add_is_made : (next : Lane M) → HasSameFields lane next → next.records ≡ lane.records → at next.memory w → HasAddedNew o at next blocks v id off len
  new_add_is_made next fields records seen =
      let t = all.work.opening in
      let works : IsAtWork o at next w =
      goes_on o at lane next v w all.work fields
      (record { lane = record { lanes = refl; zones = refl; pool = refl; lane = refl; stop = refl; table = refl; size = refl }; locks = refl; number = refl; entries = refl; remembers = λ u there. there; seen = λ s there. there; sizes = λ l held. refl })
      seen (ap (λ rs. rs.items) records ∙ all.work.seen.records) (subst (λ rs. All IsSpan rs.items) (sym records) all.work.spans)
      (record { lane = t.lane; lanes = t.lanes; size = t.size; descriptors = t.descriptors; locks = t.locks }) (tell_works v (AddRange id off len) None all.work.working) all.work.no_entries
      (published_once_more v w (AddRange id off len) None refl refl ∙ append-nil (published_in v))
      (made_none_before v w (AddRange id off len) None refl refl tt)
      (new_add_goes_on v w id off len lane.level all.work.level all.work.under_way added) in
      let keeps : Keeps next.locks.items blocks w =
      keeps_told v w heads next.locks.items blocks (subst (λ (ls : List HeldLock). Keeps ls blocks v) (ap (λ ls. ls.items) (sym fields.locks)) (kept_of o at lane blocks v all)) refl refl (blocks_once_more v w (AddRange id off len) None refl refl) (AddRange id off len) None refl refl (refl, refl) (λ root. tt)
      (told_stays v w (AddRange id off len) None all.has_reserved added.tells (keeps_known v w added.keeps) (refl, refl) refl) in
      record {
        ready = new_add_may_be_made;
        draws = drawless v (adds_new id off len v) add_few;
        works = subst (IsAtWorkWith o at next blocks) (sym lands) (with_lists o at next blocks w works keeps);
        added = subst (λ (z : View). AddsNewRange v z id off len) (sym lands) added;
      }
