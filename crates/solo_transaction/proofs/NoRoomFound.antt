-- A lane alone that looked for a block and found none made no counted call, and has all that it had.
use Rattle.std.proofs.Common.{◌≡◌, [], ap, ◌∙◌, length, subst}
use Rattle.std.proofs.lemmas.List.{append-nil}
use Rattle.pm_layout.specs.declared.class.Class.{Class}
use Rattle.pm_layout.specs.declared.shape.Shape.{Shape}
use Rattle.pm_objects.specs.declared.refusal.Refusal.TheVariants as refusal
use Rattle.solo_view.specs.View.{View}
use Rattle.solo_world.specs.Searches.{HasSearched}
use Rattle.solo_blocks.specs.AnyBlocks.{HasNoRoom}
use Rattle.solo_blocks.specs.declared.making.NoBlock.TheVariants as no_block
use Rattle.solo_alloc.specs.NewObjects.{CanMakeObject}
use Rattle.solo_epoch.proofs.GainedRooms.{IsCallStill, search_still, search_words}
use Rattle.solo_epoch.proofs.HeldApart.{AllFound}
use Rattle.solo_epoch.proofs.QuietSteps.{search_leads}
use Rattle.solo_transaction.proofs.MakingSteps.{search_changes, searches_leave, searches_uncounted}
use Rattle.solo_transaction.proofs.RefusedAllocs.{search_of}
use Rattle.solo_transaction.specs.MakingSteps.{FindsNoRoom}

module _ (v : View) (shape : Shape) (can : CanMakeObject v shape) (all : AllFound v.locks) where
  searched_none : (at : View → Type 0) (Q : View → Type 0) (searched : HasSearched at v [] Q) → FindsNoRoom v searched.view
  searched_none at Q searched =
      let still : IsCallStill v searched.view = search_still v shape can all at [] Q searched in
      record {
        led = record {
          steps = searched.steps;
          leads = search_leads v searched.view searched.steps searched.searches;
          uncounted = searches_uncounted v searched.view searched.steps searched.searches;
          leaves = searches_leave v searched.view searched.steps searched.searches (ap length (searched.reserved ∙ append-nil v.reserved));
          heap = record { zone_locks = searched.zones; reserved = searched.reserved ∙ append-nil v.reserved; freed = ap (λ (z : View). z.freed) searched.kept.same };
        };
        lane = still.same_lane;
        call = still.call;
        entries = still.entries;
        number = still.number;
        log = still.log;
        locks = still.locks;
        changes = search_changes v shape can all at [] Q searched;
        words = search_words v shape can all at [] Q searched;
      }

  pub finds_no_room : (w : View) (class : Class) → HasNoRoom (λ u. u ≡ w) v class (no_block.Refused refusal.NoSpace) → FindsNoRoom v w
  finds_no_room w class none =
      let found = search_of (λ u. u ≡ w) v class none in
      subst (FindsNoRoom v) found.1.there (searched_none (λ u. u ≡ w) found.0 found.1)
