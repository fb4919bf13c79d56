-- READS OUTSIDE A TRANSACTION: the usable size of an object, and its type number.
use Rattle.std.specs.Prelude.{◌≡◌, ◌⊎◌, ℕ, [], ◌∷◌, Option, None, Some}
use Rattle.pm_layout.specs.Sizes.{usable}
use Rattle.pm_objects.specs.declared.calls.Operation.TheVariants.{UsableSize, TypeNumber}
use Rattle.pm_objects.specs.declared.history.Value.TheVariants.{Number}
use Rattle.pm_objects.specs.declared.ids.Oid.{Oid}
use Rattle.pm_objects.specs.declared.refusal.Refusal.{Refusal}
use Rattle.pm_objects.specs.declared.refusal.Refusal.TheVariants.{Spent}
use Rattle.pm_model.specs.Inside.{IsRefused, Ran}
use Rattle.pm_model.specs.Outside.{found_tests, want_to_read}
use Rattle.pm_model.specs.Refusals.{Seen, first_of}
use Rattle.pm_view.specs.View.{View}
use Rattle.pm_crash.specs.Calls.{Fact}
use Rattle.pm_crash.specs.Looked.{KnowsSize, KnowsWord, pool_seen}
use Rattle.pm_crash.specs.SimOutside.{IsBare, IsLone}

-- its first refusal looks at no object
abbrev pub read_refusal : Seen → View → Oid → Option Refusal
read_refusal seen v id = first_of ((Spent, seen.spent)
    ∷ found_tests seen (pool_seen v None) (want_to_read id ∷ []))

-- it replies by what the lane knows of the object's header: its size, or its type
pub record IsSizeRead (v : View) (ran : Ran) (id : Oid) : Type 0 where
  pub reads : ran.operation ≡ UsableSize id
  pub object : KnowsSize v [] id.off
  pub replied : ran.reply ≡ Some (Number (usable object.size))

pub record IsTypeRead (v : View) (ran : Ran) (id : Oid) : Type 0 where
  pub reads : ran.operation ≡ TypeNumber id
  pub object : KnowsSize v [] id.off
  pub kind : ℕ
  pub knows : KnowsWord v [] object.block 0 kind
  pub replied : ran.reply ≡ Some (Number kind)

pub record IsLoneRead (v : View) (ran : Ran) : Type 0 where
  pub lone : IsLone v ran
  pub bare : IsBare v
  pub id : Oid
  pub unrefused : read_refusal ran.seen v id ≡ None
  pub done : IsSizeRead v ran id ⊎ IsTypeRead v ran id

pub record IsRefusedRead (v : View) (ran : Ran) : Type 0 where
  pub lone : IsLone v ran
  pub bare : IsBare v
  pub id : Oid
  pub reads : (ran.operation ≡ UsableSize id) ⊎ (ran.operation ≡ TypeNumber id)
  pub refusal : Refusal
  pub first : read_refusal ran.seen v id ≡ Some refusal
  pub refused : IsRefused refusal ran.reply

abbrev pub LoneReadsAreFacts : Type 0
LoneReadsAreFacts = (v : View) (ran : Ran) → IsLoneRead v ran ⊎ IsRefusedRead v ran → Fact v
