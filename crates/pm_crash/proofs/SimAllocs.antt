-- Operations that make, reserve and free objects go on as the plain model's.
use Rattle.std.proofs.Common.{◌≡◌, ℕ, Bool, true, false, List, [], ◌∷◌, ◌++◌, Option, None, refl, sym, ◌∙◌, ap, subst}
use Rattle.pm_header.specs.declared.header.Header.{Header}
use Rattle.pm_layout.specs.Sizes.{class_of}
use Rattle.pm_objects.specs.declared.calls.Operation.TheVariants.{Alloc, Free, Publish, Reserve}
use Rattle.pm_objects.specs.declared.pool.PoolView.{PoolView}
use Rattle.pm_model.specs.Blocks.{Block as Placed, CanBeIn, IsFree}
use Rattle.pm_model.specs.Inside.{IsDone, IsPlaced, Ran, after_reply, is_inside, is_kept_by, taken_by}
use Rattle.pm_model.specs.Items.{Edit, Items, PlainPool, all_edited, new_item, plain_pool}
use Rattle.pm_model.specs.Pending.{block_edits}
use Rattle.pm_model.specs.Places.{CanHold}
use Rattle.pm_model.specs.Refusals.{refusal_of}
use Rattle.pm_model.specs.Transaction.{Transaction}
use Rattle.pm_view.specs.Entries.{Entry}
use Rattle.pm_view.specs.View.{Constants, View}
use Rattle.pm_world.specs.States.{State}
use Rattle.pm_crash.specs.Sim.{Agrees, Came, Grows, LeadsOn, StandIn, Tells, bits_now, copy_of, lists_of, tx_with}
use Rattle.pm_crash.specs.SimAllocs.{HasBlockFor, IsAllocation, IsFreeing, IsPublication, IsReservation, SimAllocates, SimFrees, SimPublishes, SimReserves}
use Rattle.pm_crash.specs.SimBlocks.{ChangesObjects, New, Old, object_edits}
use Rattle.pm_crash.specs.SimOps.{LookedAt}
use Rattle.pm_crash.specs.Spelled.{Holds}
use Rattle.pm_crash.proofs.FreeBlocks.{are_free, is_free}
use Rattle.pm_crash.proofs.SimBlocks.{objects_changed}
use Rattle.pm_crash.proofs.SimOps.{first_is, holds_before, is_done, stay}
use Rattle.pm_crash.proofs.Simulation.{agrees_back, sim_goes_on}

-- one edit, and then none
one_edit : (e : Edit) (items : Items) → all_edited (e ∷ []) items ≡ Rattle.pm_model.specs.Items.edited e items
unfolding all_edited
one_edit e items = refl

module _ (v next : View) (entries entries' : List Entry) (root : Option ℕ) (ran : Ran) (tells : Tells v next ran)
    (grows : (kept : Bool) → Grows v (is_kept_by ran.operation kept) next kept) (looks : LookedAt v entries root ran.operation)
    (none : Rattle.pm_crash.specs.Looked.refusal_by ran.seen v root ran.operation ≡ None)
    (kept : Bool) (classes : ℕ → ℕ) (s : State) (header : Header) (pool : PoolView) (x : Agrees classes next kept s) (holds : Holds next.fixed.shape classes s header pool)
    (id : header.id ≡ next.fixed.pool) (c : Came v entries (is_kept_by ran.operation kept) classes s (plain_pool pool)) where
  abbrev was : Bool
  was = is_kept_by ran.operation kept

  abbrev copy : Items
  copy = copy_of v (plain_pool pool)

  abbrev tx : Transaction
  tx = tx_with v (plain_pool pool) copy

  xb : Agrees classes v was s
  xb = agrees_back v next (is_kept_by ran.operation kept) kept tells.keeps (grows kept) classes s x

  hb : Holds v.fixed.shape classes s header pool
  hb = holds_before v next entries entries' root ran tells looks kept classes s header pool x xb holds id c

  unrefused : refusal_of ran.seen tx ran.operation ≡ None
  unrefused = first_is v next entries entries' root ran tells looks kept classes s header pool x xb holds id c ∙ none

  -- the objects change, whatever the constants are called
  changed : (olds : List Old) (news : List New) → ChangesObjects v entries next entries' olds news → StandIn next.fixed.shape classes (bits_now next entries' s) (all_edited (object_edits olds news) copy)
  changed olds news change =
      subst (λ (f : Constants). StandIn f.shape classes (bits_now next entries' s) (all_edited (object_edits olds news) copy)) (sym tells.keeps.fixed)
      (subst (λ (u : View). ChangesObjects v entries u entries' olds news → Agrees classes u kept s → StandIn v.fixed.shape classes (bits_now u entries' s) (all_edited (object_edits olds news) copy)) same
      (λ y z. objects_changed v next entries entries' olds news y was kept classes s header pool hb xb z looks.enters copy c.stands) change x)
    where
      same : record next { fixed = v.fixed } ≡ next
      same = λ i. record next { fixed = sym tells.keeps.fixed i }

  lanes_so : pool.lanes ≡ v.fixed.shape.lanes
  lanes_so = ap (λ (p : PoolView). p.lanes) hb.is_pool

  zones_so : pool.zones ≡ v.fixed.shape.zones
  zones_so = ap (λ (p : PoolView). p.zones) hb.is_pool

  can_so : (size off : ℕ) → CanHold v.fixed.shape.lanes v.fixed.shape.zones (class_of size) off → CanBeIn (plain_pool pool) (record { off = off; size = size })
  can_so size off can = subst (λ n. CanHold n pool.zones (class_of size) off) (sym lanes_so) (subst (λ n. CanHold v.fixed.shape.lanes n (class_of size) off) (sym zones_so) can)

  free_so : (taken : List Placed) (b : Placed) → HasBlockFor next kept taken b → IsFree (plain_pool pool).items taken b
  free_so taken b room = is_free next.fixed.shape classes s header pool holds next refl kept x taken b room

  -- ---- FREE

  pub freeing : (by : IsFreeing v entries next entries' root ran) → LeadsOn v entries next entries' ran kept classes s (plain_pool pool)
  freeing by = record {
    replies = is_done tx ran kept (ap is_inside by.frees) unrefused (subst (λ op. IsDone tx op kept ran.reply) (sym by.frees) (done by.replied));
    stands = subst (StandIn next.fixed.shape classes (bits_now next entries' s)) (sym items) (changed (record { block = by.block; off = by.id.off } ∷ []) [] by.changes);
  }
    where
      done : ran.reply ≡ None → IsDone tx (Free by.id) kept ran.reply
      done e = record { there = Rattle.std.proofs.lemmas.List.Elements.All-nil _; publishes = tt; value = e }

      items : (after_reply ran.operation ran.reply tx).items ≡ all_edited (object_edits (record { block = by.block; off = by.id.off } ∷ []) []) copy
      items = ap (λ op. (after_reply op ran.reply tx).items) by.frees ∙ (ap (λ r. (after_reply (Free by.id) r tx).items) by.replied
          ∙ sym (one_edit (Rattle.pm_model.specs.Items.freed_item by.id.off) copy))

  -- ---- ALLOC

  pub allocating : (by : IsAllocation v entries next entries' root ran) → LeadsOn v entries next entries' ran kept classes s (plain_pool pool)
  allocating by = record {
    replies = is_done tx ran kept (ap is_inside by.allocates) unrefused (subst (λ op. IsDone tx op kept ran.reply) (sym by.allocates) done);
    stands = subst (StandIn next.fixed.shape classes (bits_now next entries' s)) (sym items) (changed [] (record { block = by.block; off = by.off; item = new_item by.kind by.size None } ∷ []) by.changes);
  }
    where
      done : IsDone tx (Alloc by.size by.kind) kept ran.reply
      done = record {
        there = Rattle.std.proofs.lemmas.List.Elements.All-nil _;
        publishes = tt;
        value = (by.off, (can_so by.size by.off by.can, free_so (taken_by (lists_of v)) (record { off = by.off; size = by.size }) (by.room kept)), by.replied);
      }

      items : (after_reply ran.operation ran.reply tx).items ≡ all_edited (object_edits [] (record { block = by.block; off = by.off; item = new_item by.kind by.size None } ∷ [])) copy
      items = ap (λ op. (after_reply op ran.reply tx).items) by.allocates ∙ (ap (λ r. (after_reply (Alloc by.size by.kind) r tx).items) by.replied
          ∙ sym (one_edit (Rattle.pm_model.specs.Items.made_item by.off (new_item by.kind by.size None)) copy))

  -- ---- RESERVE

  placed : (k : Bool) → k ≡ kept → (size off : ℕ) → CanHold v.fixed.shape.lanes v.fixed.shape.zones (class_of size) off → HasBlockFor next true (taken_by (lists_of v)) (record { off = off; size = size })
      → IsPlaced tx k (record { off = off; size = size })
  placed true e size off can room = (can_so size off can, free_so (taken_by (lists_of v)) (record { off = off; size = size }) (subst (λ b. HasBlockFor next b (taken_by (lists_of v)) (record { off = off; size = size })) e room))
  placed false e size off can room = can_so size off can

  pub reserving : (by : IsReservation v entries next entries' root ran) → LeadsOn v entries next entries' ran kept classes s (plain_pool pool)
  reserving by = record {
    replies = is_done tx ran kept (ap is_inside by.reserves) unrefused (subst (λ op. IsDone tx op kept ran.reply) (sym by.reserves) done);
    stands = subst (StandIn next.fixed.shape classes (bits_now next entries' s)) (sym items) (stay v next entries entries' root ran tells looks kept classes s header pool x xb holds id c by.same);
  }
    where
      done : IsDone tx (Reserve by.size by.kind) kept ran.reply
      done = record {
        there = Rattle.std.proofs.lemmas.List.Elements.All-nil _;
        publishes = tt;
        value = (by.off, placed kept refl by.size by.off by.can by.room, by.replied);
      }

      items : (after_reply ran.operation ran.reply tx).items ≡ copy
      items = ap (λ op. (after_reply op ran.reply tx).items) by.reserves ∙ ap (λ r. (after_reply (Reserve by.size by.kind) r tx).items) by.replied

  -- ---- PUBLISH

  pub publishing : (by : IsPublication v entries next entries' root ran) → LeadsOn v entries next entries' ran kept classes s (plain_pool pool)
  publishing by = record {
    replies = is_done tx ran kept (ap is_inside by.publishes) unrefused (subst (λ op. IsDone tx op kept ran.reply) (sym by.publishes) done);
    stands = subst (StandIn next.fixed.shape classes (bits_now next entries' s)) (sym items) (changed by.olds by.news by.changes);
  }
    where
      done : IsDone tx Publish kept ran.reply
      done = record {
        there = Rattle.std.proofs.lemmas.List.Elements.All-nil _;
        publishes = are_free next.fixed.shape classes s header pool holds next refl kept x (lists_of v).made (Rattle.pm_model.specs.Pending.blocks_reserved (lists_of v).pending) (by.rooms kept);
        value = by.replied;
      }

      edits : object_edits by.olds by.news ≡ block_edits (lists_of v).pending
      edits = λ i. by.freed i ++ by.made i

      items : (after_reply ran.operation ran.reply tx).items ≡ all_edited (object_edits by.olds by.news) copy
      items = ap (λ op. (after_reply op ran.reply tx).items) by.publishes ∙ (ap (λ r. (after_reply Publish r tx).items) by.replied ∙ ap (λ es. all_edited es copy) (sym edits))

pub sim_frees : SimFrees
sim_frees v next entries entries' root ran sim tells may grows by = sim_goes_on v next entries entries' ran sim tells may grows
    (λ kept classes s header pool x holds id c. freeing v next entries entries' root ran tells grows by.looks by.unrefused kept classes s header pool x holds id c by)

pub sim_allocates : SimAllocates
sim_allocates v next entries entries' root ran sim tells may grows by = sim_goes_on v next entries entries' ran sim tells may grows
    (λ kept classes s header pool x holds id c. allocating v next entries entries' root ran tells grows by.looks by.unrefused kept classes s header pool x holds id c by)

pub sim_reserves : SimReserves
sim_reserves v next entries entries' root ran sim tells may grows by = sim_goes_on v next entries entries' ran sim tells may grows
    (λ kept classes s header pool x holds id c. reserving v next entries entries' root ran tells grows by.looks by.unrefused kept classes s header pool x holds id c by)

pub sim_publishes : SimPublishes
sim_publishes v next entries entries' root ran sim tells may grows by = sim_goes_on v next entries entries' ran sim tells may grows
    (λ kept classes s header pool x holds id c. publishing v next entries entries' root ran tells grows by.looks by.unrefused kept classes s header pool x holds id c by)
