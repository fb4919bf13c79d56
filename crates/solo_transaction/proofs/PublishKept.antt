-- What a lane may publish, and what it has of the objects of its actions, stays so as it looks at words.
use Rattle.std.proofs.Common.{◌≡◌, inl, inr, ℕ, ◌||◌, true, Contains, map, sym, ap, ◌∙◌, subst}
use Rattle.std.specs.List.{list_any}
use Rattle.solo_crash.proofs.CallBlocks.{same_blocks}
use Rattle.solo_crash.specs.CallBlocks.{CallBlocks, blocks_in, is_at, is_gone_in}
use Rattle.solo_crash.specs.OnActions.{CanSetIn, IsOnLeft}
use Rattle.solo_crash.specs.OpenCall.{lock_of}
use Rattle.solo_crash.specs.Operations.{IsMade, has_at}
use Rattle.solo_model.specs.Actions.{Action, object_of}
use Rattle.solo_model.specs.Actions.Action.{SetWord}
use Rattle.solo_model.specs.Bytes.{is_among}
use Rattle.solo_model.specs.Transaction.{is_locked}
use Rattle.pm_objects.specs.declared.ids.Oid.{Oid}
use Rattle.solo_view.specs.View.{View}
use Rattle.solo_tx.proofs.GoingOn.{KeepsObjects}
use Rattle.solo_tx.proofs.LookedOn.{can_set_kept}
use Rattle.solo_transaction.proofs.GoingWith.{old_still}

module _ (v w : View) (keeps : KeepsObjects v w) (entries : w.entries ≡ v.entries) (call : w.call ≡ v.call) where
  same : blocks_in w ≡ blocks_in v
  same = same_blocks v w entries call

  abbrev made_kept : (id : Oid) → IsMade v id → IsMade w id
  made_kept id made = record {
    new = made.new;
    has = subst (λ (b : CallBlocks). Contains b.made made.new) (sym same) made.has;
    of_pool = made.of_pool ∙ sym keeps.lane.pool;
    place = made.place;
  }

  -- what it may set it may set still
  pub can_in_kept : (a : Action) → CanSetIn v a → CanSetIn w a
  can_in_kept (SetWord id off value) (inl t) = inl (can_set_kept v w keeps (SetWord id off value) t.0, old_still v w entries call id.off t.1)
  can_in_kept (SetWord id off value) (inr t) = inr (record { made = made_kept id t.0.made; inside = t.0.inside }, t.1)

  gone_same : (off : ℕ) → is_gone_in w off ≡ is_gone_in v off
  gone_same off = ap (λ (b : CallBlocks). is_among b.freed off || list_any (is_at off) b.dropped) same

  had_same : (off : ℕ) → has_at w off true ≡ has_at v off true
  had_same off = λ j. (list_any (is_at off) (same j).made || list_any (is_at off) (same j).dropped) || is_locked (map lock_of (keeps.locks j)) off true

  -- what it has, and is not gone, it has still
  pub left_kept : (a : Action) → IsOnLeft v a → IsOnLeft w a
  left_kept a left = record { of_pool = left.of_pool ∙ sym keeps.lane.pool; has = had_same (object_of a).off ∙ left.has; left = gone_same (object_of a).off ∙ left.left }
