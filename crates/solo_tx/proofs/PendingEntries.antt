-- The entry of each pending action: that of a word which the lane may set is of the pool.
use Rattle.std.proofs.Common.{◌≡◌, ℕ, ◌+◌, ◌*◌, ◌/◌, ◌%◌, ◌^◌, ◌<◌, ◌&&◌, ◌||◌, Bool, true, false, Contains, List, [], ◌∷◌, map, is_some, refl, ap, ◌∙◌, subst, arith, inl}
use Rattle.std.proofs.lemmas.Bool.{and_from}
use Rattle.std.proofs.lemmas.List.Folds.{list_any_at}
use Rattle.solo_crash.specs.OnActions.{CanSet}
use Rattle.solo_model.specs.Bytes.{covered_words}
use Rattle.solo_model.specs.Actions.{Action}
use Rattle.solo_model.specs.Actions.Action.{SetWord}
use Rattle.solo_pending.specs.Pending.{entry_of, redo_for, sets_of}
use Rattle.solo_pending.specs.declared.actions.SetAction.{SetAction}
use Rattle.pm_record.specs.declared.redo.Redo.{Redo}
use Rattle.solo_redo.specs.Entering.{IsOfPool}
use Rattle.solo_undo.proofs.Lockings.{locked_is_plain}
use Rattle.solo_view.specs.Held.{is_under}
use Rattle.solo_view.specs.Rights.{is_written}
use Rattle.solo_view.specs.View.{Lock, View}
use Rattle.solo_world.specs.Opening.{Opening}
use Rattle.solo_world.specs.declared.lane.Lane.{Lane}
use Rattle.solo_tx.proofs.Objects.{covered_under, is_found, range_is_low}
use Rattle.solo_tx.proofs.WrittenBytes.{counted_covered}
use Rattle.solo_tx.specs.AtWork.{IsAtWork}

-- what a read of the list past its end would be
abbrev pub no_action : SetAction
no_action = record { id = record { pool = 0; off = 0 }; off = 0; value = 0 }

-- the entries of the list are those of what the plain model has pending
pub redo_listed : (actions : List SetAction) → map redo_for actions ≡ map entry_of (sets_of actions)
redo_listed [] = refl
redo_listed (a ∷ actions) = ap (λ (es : List Redo). redo_for a ∷ es) (redo_listed actions)

pub word_covered : (place : ℕ) → place % 8 ≡ 0 → Contains (covered_words place 8) (place / 8)
word_covered place even = subst (Contains (covered_words place 8)) (let e : place / 8 + 0 ≡ place / 8 = omega arith in e) (counted_covered place 8 0 (omega arith))

-- the entry of a word that the lane may set is of the pool
module _ {M : Type 0} (o : Opening) (at : M → View → Type 0) (lane : Lane M) (v : View) (work : IsAtWork o at lane v) where
  pub entry_of_pool : (a : Action) → CanSet v a → IsOfPool v (entry_of a)
  entry_of_pool (SetWord id off value) can =
      let range = can.0 in
      let object = range.object in
      let word : ℕ = (id.off + off) / 8 in
      let at_line : id.off ≡ 64 * object.lock.line + 64 = object.place in
      let even_off : off % 8 ≡ 0 = can.1.0 in
      let even : (id.off + off) % 8 ≡ 0 = omega (arith, at_line, even_off) in
      let found = is_found v work.objects object.lock object.held in
      let under = covered_under v work.objects id off 8 true range ((id.off + off) / 8) (word_covered (id.off + off) even) in
      let t = locked_is_plain o work.sound v work.opening object.lock ((id.off + off) / 8) object.held found under in
      record {
        entry = record { aligned = even; word = can.1.1 };
        own = written object.lock ((id.off + off) / 8) object.held (writes object.lock object.allows) found under;
        outside = t.2;
        inside = t.1;
        known = inl refl;
      } where
        -- a lock that allows to write is held for writing
        writes : (l : Lock) → (l.write || false) ≡ true → l.write ≡ true
        writes l allows = by l.write allows where
          by : (b : Bool) → (b || false) ≡ true → b ≡ true
          by true e = refl
          by false e = e

        written : (l : Lock) (w : ℕ) → Contains v.locks l → l.write ≡ true → is_some l.block ≡ true → is_under w l ≡ true → is_written v w ≡ true
        written l w held writes found under =
            let p : Lock → Bool = λ l. l.write && is_some l.block && is_under w l in
            let holds : p l ≡ true = and_from (l.write && is_some l.block) (is_under w l) (and_from l.write (is_some l.block) writes found) under in
            list_any_at p v.locks held.0 l held.1 (ap p held.2 ∙ holds)

  pub place_is_low : (a : Action) → CanSet v a → (entry_of a).place < 2 ^ 64
  place_is_low (SetWord id off value) can = let low = range_is_low v work.objects id off 8 true can.0 o work.sound work.opening work.zones in omega (arith, low)
