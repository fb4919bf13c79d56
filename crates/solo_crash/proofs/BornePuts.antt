-- What a lane has bears out its call still where it writes bytes into what is reserved: that lies in what it reserved.
use Rattle.std.proofs.Common.{List, None, sym, ◌∙◌, ap, subst, ℕ}
use Rattle.std.specs.List.{Contains}
use Rattle.std.proofs.lemmas.List.Elements.{All-contains, All-contains_itself, All-nil, All-weaker}
use Rattle.pm_image.proofs.Members.{member_made}
use Rattle.pm_objects.specs.declared.calls.Operation.TheVariants.{WriteReserved}
use Rattle.pm_objects.specs.declared.ids.Oid.{Oid}
use Rattle.solo_model.specs.Actions.{Reservation}
use Rattle.solo_view.specs.View.{View}
use Rattle.solo_crash.specs.CallBlocks.{NewObject, reserved_in, reserved_object}
use Rattle.solo_crash.specs.Pending.{pending_in}
use Rattle.solo_crash.specs.Reserved.{IsBorneOut, IsReservedFor, LiesFree}
use Rattle.solo_crash.specs.Reserving.{HasReserved, WritesReserved}
use Rattle.solo_crash.proofs.Includes.{made_member}
use Rattle.solo_crash.proofs.ReservedWritten.{same_object, was}
use Rattle.solo_crash.proofs.StillReserved.{borne_further, reserved_still, HasSameHeads}

module _ (v next : View) (id : Oid) (off : ℕ) (bytes : List ℕ) (same : HasSameHeads v next) (has : HasReserved v) (writes : WritesReserved v next id off bytes) (borne : IsBorneOut v) where
  for_it : (r : Reservation) → Contains (pending_in v).reserved r → IsReservedFor next (reserved_object r)
  for_it r there = reserved_still v next same (reserved_object r) (All-contains (IsReservedFor v) (reserved_in v) (reserved_object r) borne.pending (made_member reserved_object (pending_in v).reserved r there))

  for_left : (n : NewObject) → Contains (reserved_in next) n → IsReservedFor next n
  for_left n there =
      let t = member_made reserved_object (pending_in next).reserved n there in
      let s = was v next id off bytes has writes t.0 t.1.0 in
      subst (IsReservedFor next) (sym (same_object v next id off bytes has writes s.0 s.1.0) ∙ ap reserved_object s.1.1 ∙ t.1.1) (for_it s.0 s.1.0)

  pub borne_put : IsBorneOut next
  borne_put =
      borne_further v next same (WriteReserved id off bytes) None writes.tells.keeps.entries writes.tells.call (All-nil (IsReservedFor v)) (All-nil (LiesFree v))
      (All-weaker (Contains (reserved_in next)) (IsReservedFor next) for_left (reserved_in next) (All-contains_itself (reserved_in next))) tt borne
