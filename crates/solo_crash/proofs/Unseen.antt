-- An action on an object that a pool does not have, in words that hold that pool, changes nothing of it: their meaning does not read the word that it sets.
use Rattle.std.proofs.Common.{◌≡◌, ◌≢◌, ⊎_elim, ℕ, ◌≤◌, eqb, List, [], ◌∷◌, Option, Some, None, refl, sym, ◌∙◌, ap, subst, ne_eqb}
use Rattle.std.specs.List.{Contains}
use Rattle.std.proofs.lemmas.Bool.{cases_eq, cond-false}
use Rattle.pm_header.specs.declared.header.Header.{Header}
use Rattle.pm_objects.specs.Pool.{object_at}
use Rattle.pm_objects.specs.declared.pool.Object.{Object}
use Rattle.pm_objects.specs.declared.pool.PoolView.{PoolView}
use Rattle.pm_image.specs.declared.block.Block.{Block}
use Rattle.pm_image.specs.Blocks.{blocks}
use Rattle.pm_image.specs.Contents.{size_in}
use Rattle.pm_image.specs.Reads.{AgreeOn, Reads}
use Rattle.pm_image.proofs.LocalContents.{contents_local}
use Rattle.pm_image.proofs.LocalHeap.{agree_on_block}
use Rattle.pm_image.proofs.Members.{member_cases, no_member}
use Rattle.pm_image.proofs.SameReads.{reads_same}
use Rattle.solo_model.specs.Actions.{Action, all_performed, end_of, object_of, with_actions}
use Rattle.solo_model.proofs.Objects.{same_objects}
use Rattle.solo_view.specs.Bits.{with_bits}
use Rattle.solo_world.specs.History.{made_final}
use Rattle.solo_crash.specs.Held.{HoldsPool}
use Rattle.solo_crash.specs.Performing.{entry_for, CanPerform, IsUnseen}
use Rattle.solo_crash.proofs.HeldAlike.{blocks_by_reads, held_by_reads}
use Rattle.solo_crash.proofs.KeptHeads.{heads_by_blocks, heads_by_reads, reads_back, KeepsHeads}
use Rattle.solo_crash.proofs.ManyObjects.{none_performed, performed_rise, untouched}
use Rattle.solo_crash.proofs.ObjectsOfBlocks.{block_is_there, objects_rise}
use Rattle.solo_crash.proofs.Performed.{blocks_one, made, sizes_one}
use Rattle.solo_crash.proofs.ActionsInBlocks.{outside_stays}

-- a word that is not the action's stays
pub made_elsewhere : (a : Action) (w : ℕ → ℕ) (i : ℕ) → i ≢ (entry_for a).word → made a w i ≡ w i
unfolding made_final
made_elsewhere a w i other = cond-false (eqb (entry_for a).word i) (with_bits (entry_for a).mask (entry_for a).bits (w i)) (w i) (ne_eqb (entry_for a).word i (λ same. other (sym same)))

module _ (w : ℕ → ℕ) (lanes zones : ℕ) (header : Header) (pool : PoolView) (holds : HoldsPool w lanes zones header pool) where
  module _ (a : Action) (unseen : IsUnseen w lanes zones a) where
    agrees : AgreeOn (Reads w lanes zones) w (made a w)
    agrees = record { same = λ i read. sym (made_elsewhere a w i (λ same. unseen.unread (subst (Reads w lanes zones) same read))) }

    pub unseen_heads : KeepsHeads w (made a w) lanes zones
    unseen_heads = heads_by_reads w (made a w) lanes zones agrees

    pub unseen_blocks : blocks (made a w) lanes zones ≡ blocks w lanes zones
    unseen_blocks = blocks_by_reads w (made a w) lanes zones agrees

    pub unseen_sizes : (block : Block) → Contains (blocks w lanes zones) block → size_in (made a w) block ≡ size_in w block
    unseen_sizes block there = (contents_local w (made a w) block (agree_on_block w (made a w) lanes zones block agrees there)).same_size

    none_there : object_at pool.objects (object_of a).off ≡ None
    none_there = go (object_at pool.objects (object_of a).off) refl where
      go : (found : Option Object) → object_at pool.objects (object_of a).off ≡ found → object_at pool.objects (object_of a).off ≡ None
      go None is = is
      go (Some object) is = let t = block_is_there w lanes zones (object_of a).off header pool object holds is in absurd (unseen.none_there t.block t.is_there (sym t.is_offset))

    same_at : (off : ℕ) → object_at (all_performed (a ∷ []) pool.objects) off ≡ object_at pool.objects off
    same_at off = ⊎_elim
        (λ (here : off ≡ (object_of a).off). subst (λ (n : ℕ). object_at (all_performed (a ∷ []) pool.objects) n ≡ object_at pool.objects n) (sym here) (none_performed (a ∷ []) pool.objects (object_of a).off none_there ∙ sym none_there))
        (λ (other : off ≢ (object_of a).off). untouched (a ∷ []) pool.objects off (λ b there. ⊎_elim
        (λ (is : a ≡ b). λ same. other (sym (ap (λ (x : Action). (object_of x).off) is ∙ same)))
        (λ (more : Contains [] b). absurd (no_member b more))
        (member_cases a [] b there)))
        (cases_eq off (object_of a).off)

    -- the pool is as it was
    pub unseen_pool : with_actions (a ∷ []) pool ≡ pool
    unseen_pool =
        let rising = objects_rise w lanes zones header pool holds in
        let same : all_performed (a ∷ []) pool.objects ≡ pool.objects = same_objects (all_performed (a ∷ []) pool.objects) pool.objects (performed_rise (a ∷ []) pool.objects rising) rising same_at in
        (λ j. let p : PoolView = record pool { objects = same j } in p)

    pub unseen_holds : HoldsPool (made a w) lanes zones header (with_actions (a ∷ []) pool)
    unseen_holds = subst (HoldsPool (made a w) lanes zones header) (sym unseen_pool) (held_by_reads w (made a w) lanes zones header pool holds agrees)

    -- what could be performed still can, and what is unseen still is
    pub perform_behind_unseen : (other : Action) → CanPerform w lanes zones other → CanPerform (made a w) lanes zones other
    perform_behind_unseen other can = record {
      block = can.block;
      is_there = subst (λ (bs : List Block). Contains bs can.block) (sym unseen_blocks) can.is_there;
      begins = can.begins;
      inside = subst (λ (n : ℕ). end_of other ≤ n) (sym (unseen_sizes can.block can.is_there)) can.inside;
      whole = can.whole;
    }

    pub unseen_behind_unseen : (other : Action) → IsUnseen w lanes zones other → IsUnseen (made a w) lanes zones other
    unseen_behind_unseen other is = record {
      in_chunk = is.in_chunk;
      unread = λ read. is.unread (reads_same w (made a w) lanes zones (entry_for other).word agrees read);
      none_there = λ block there. is.none_there block (subst (λ (bs : List Block). Contains bs block) unseen_blocks there);
      whole = is.whole;
    }

  -- so it is behind an action in a block
  pub performed_heads : (a : Action) → CanPerform w lanes zones a → KeepsHeads w (made a w) lanes zones
  performed_heads a can = heads_by_blocks w (made a w) lanes zones (outside_stays w lanes zones header pool holds a can)

  pub unseen_behind_performed : (a other : Action) → CanPerform w lanes zones a → IsUnseen w lanes zones other → IsUnseen (made a w) lanes zones other
  unseen_behind_performed a other can is =
      let same : blocks (made a w) lanes zones ≡ blocks w lanes zones = blocks_one w lanes zones header pool holds a can in
      record {
        in_chunk = is.in_chunk;
        unread = λ read. is.unread (reads_back w (made a w) lanes zones (entry_for other).word (performed_heads a can).descriptors same (sizes_one w lanes zones header pool holds a can) read);
        none_there = λ block there. is.none_there block (subst (λ (bs : List Block). Contains bs block) same there);
        whole = is.whole;
      }
