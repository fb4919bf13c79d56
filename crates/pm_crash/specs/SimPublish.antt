-- PUBLISH OUTSIDE A TRANSACTION: what is reserved comes to be, what is to be freed goes, and words
-- are set, in a call of its own. What it owes has no bits in it.
use Rattle.std.specs.Prelude.{◌≡◌, ◌⊎◌, ℕ, true, All, List, [], ◌∷◌, Option, None, Some, map}
use Rattle.pm_objects.specs.declared.calls.Operation.TheVariants.{Publish}
use Rattle.pm_objects.specs.declared.ids.Oid.{Oid}
use Rattle.pm_objects.specs.declared.refusal.Refusal.{Refusal}
use Rattle.pm_objects.specs.declared.refusal.Refusal.TheVariants.{Spent}
use Rattle.pm_model.specs.Inside.{IsRefused, Ran}
use Rattle.pm_model.specs.Items.{freed_item, made_item}
use Rattle.pm_model.specs.Outside.{found_tests, refusal_outside}
use Rattle.pm_model.specs.Pending.{Pending, Reservation, SetWord, blocks_reserved, item_reserved, wants_pending}
use Rattle.pm_model.specs.Refusals.{Seen, first_of}
use Rattle.pm_view.specs.Entries.{Entry}
use Rattle.pm_view.specs.Places.{Block}
use Rattle.pm_view.specs.View.{View}
use Rattle.pm_crash.specs.Calls.{Fact, pending_of}
use Rattle.pm_crash.specs.Freshness.{root_told}
use Rattle.pm_crash.specs.HeapChanges.{Makes}
use Rattle.pm_crash.specs.Looked.{Enters, KnowsSize, items_seen, pool_seen}
use Rattle.pm_crash.specs.Sim.{change_so_far}
use Rattle.pm_crash.specs.SimAllocs.{HaveBlocksFor}
use Rattle.pm_crash.specs.SimBlocks.{ChangesObjects, New, Old}
use Rattle.pm_crash.specs.SimCommits.{Setting, SetsWords}
use Rattle.pm_crash.specs.SimFacts.{IsSized}
use Rattle.pm_crash.specs.SimOps.{Finds}
use Rattle.pm_crash.specs.SimOutside.{IsBare, IsLone, outside_before}
use Rattle.pm_crash.specs.SimRoots.{SawRoot}

-- what is pending as the call begins
abbrev pub pending_before : View → Pending
pending_before v = pending_of v.entries

-- its first refusal, by what is pending and by what the lane looked at: sizes and the root
abbrev pub publish_refusal : Seen → View → Option ℕ → Option Refusal
publish_refusal seen v root = refusal_outside seen
    (outside_before v (record (pool_seen v root) { items = items_seen v })) Publish

-- each object that is to be freed or set is there, the one with the look at the root, the other
-- with its size
pub record LooksToPublish (v : View) (value : ℕ) : Type 0 where
  pub frees : All (λ (id : Oid). Finds v [] id.off) (pending_before v).frees
  pub roots : All (λ (id : Oid). SawRoot v value id.off) (pending_before v).frees
  pub sets : All (λ (a : SetWord). KnowsSize v [] a.id.off) (pending_before v).sets

pub record IsLonePublication (v : View) (ran : Ran) : Type 0 where
  pub lone : IsLone v ran
  pub publishes : ran.operation ≡ Publish
  pub replied : ran.reply ≡ None
  pub records : v.log.records ≡ []
  pub value : ℕ
  pub looks : LooksToPublish v value
  pub unrefused : publish_refusal ran.seen v (root_told value) ≡ None
  -- what is reserved has blocks of its own
  pub rooms : HaveBlocksFor v true [] (blocks_reserved (pending_before v))
  -- by its entries so far objects come and go, and by all of them words are set
  pub entered : List Entry
  pub olds : List Old
  pub news : List New
  pub freed : map (λ (o : Old). freed_item o.off) olds
      ≡ map (λ (id : Oid). freed_item id.off) (pending_before v).frees
  pub made : map (λ (n : New). made_item n.off n.item) news
      ≡ map (λ (r : Reservation). made_item r.off (item_reserved r)) (pending_before v).reserved
  pub changes : ChangesObjects v [] v entered olds news
  pub settings : List Setting
  pub are : map (λ (p : Setting). p.set) settings ≡ (pending_before v).sets
  pub sets : SetsWords v entered v v.log.entries settings
  pub enters : Enters v v.log.entries
  pub sized : (B : Block) → Makes (change_so_far v v.log.entries) B → IsSized v v.log.entries B

abbrev pub PublicationsAreFacts : Type 0
PublicationsAreFacts = (v : View) (ran : Ran) → IsLonePublication v ran → Fact v

-- ---- ONE THAT IS REFUSED changes nothing

-- the tests that look at no object: whether a number is left, whether the ids have places, and
-- under whose locks no object was found
abbrev pub early_refusal : Seen → View → Option Refusal
early_refusal seen v = first_of ((Spent, seen.spent)
    ∷ found_tests seen (pool_seen v None) (wants_pending (pending_before v)))

-- the refusal is that of one of these; or of those too that look at what was found
pub record IsLateRefusal (v : View) (seen : Seen) (r : Refusal) : Type 0 where
  pub value : ℕ
  pub looks : LooksToPublish v value
  pub first : publish_refusal seen v (root_told value) ≡ Some r

pub record IsRefusedPublication (v : View) (ran : Ran) : Type 0 where
  pub lone : IsLone v ran
  pub bare : IsBare v
  pub publishes : ran.operation ≡ Publish
  pub refusal : Refusal
  pub refused : IsRefused refusal ran.reply
  pub looked : (early_refusal ran.seen v ≡ Some refusal) ⊎ IsLateRefusal v ran.seen refusal

abbrev pub RefusedPublicationsAreFacts : Type 0
RefusedPublicationsAreFacts = (v : View) (ran : Ran) → IsRefusedPublication v ran → Fact v
