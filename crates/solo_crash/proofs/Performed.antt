-- Entries perform actions, one after another.
use Rattle.std.proofs.Common.{◌≡◌, ℕ, ◌+◌, ◌%◌, List, [], ◌∷◌, refl, sym, ◌∙◌, ap, subst, arith}
use Rattle.std.specs.List.{All, Contains}
use Rattle.std.proofs.lemmas.List.Elements.{All-head, All-tail, All-weaker}
use Rattle.pm_header.specs.declared.header.Header.{Header}
use Rattle.pm_objects.specs.declared.ids.Oid.{Oid}
use Rattle.pm_objects.specs.declared.pool.PoolView.{PoolView}
use Rattle.pm_image.specs.declared.block.Block.{Block}
use Rattle.pm_image.specs.Blocks.{blocks}
use Rattle.pm_image.specs.Contents.{offset_in, size_in}
use Rattle.pm_image.proofs.LocalHeap.{blocks_same}
use Rattle.solo_model.specs.Actions.{Action, all_performed, number_bytes, with_actions}
use Rattle.solo_model.specs.Actions.Action.{SetWord}
use Rattle.solo_model.specs.Bytes.{put_object}
use Rattle.solo_world.specs.History.{made_final}
use Rattle.solo_crash.specs.Held.{HoldsPool}
use Rattle.solo_crash.specs.Writes.{IsWritten, KeepsOthers, WritesObject}
use Rattle.solo_crash.proofs.Apart.{heads_kept}
use Rattle.solo_crash.proofs.ObjectBytes.{begins_word}
use Rattle.solo_crash.proofs.OneObject.{sizes_kept}
use Rattle.solo_crash.proofs.Written.{write_keeps_others, written_pool}
use Rattle.solo_crash.specs.Performing.{CanPerform, performed}
use Rattle.solo_crash.proofs.SetWords.{number_has_bytes, set_is_written}

-- the words with one action's entry applied
abbrev pub made : Action → (ℕ → ℕ) → ℕ → ℕ
made a w = performed (a ∷ []) w

-- an action in an object writes its bytes there
writes : (w : ℕ → ℕ) (lanes zones off value : ℕ) (id : Oid) → (can : CanPerform w lanes zones (SetWord id off value)) → WritesObject w (made (SetWord id off value) w) lanes zones can.block off (number_bytes value)
writes w lanes zones off value id can =
    let begins : can.block.place % 8 ≡ 0 = begins_word w lanes zones can.block can.is_there in
    let aligned : off % 8 ≡ 0 = can.whole.0 in
    let at : offset_in can.block ≡ id.off = can.begins in
    record {
      is_there = can.is_there;
      inside = can.inside;
      are_bytes = number_has_bytes value;
      is_written =
          subst (λ (place : ℕ). IsWritten w (made (SetWord id off value) w) place (number_bytes value)) (ap (λ (n : ℕ). n + off) (sym at))
          (set_is_written w (id.off + off) value (omega (arith, begins, aligned, at)) can.whole.1);
    }

module _ (w : ℕ → ℕ) (lanes zones : ℕ) (header : Header) (pool : PoolView) (holds : HoldsPool w lanes zones header pool) where
  pub holds_one : (a : Action) → CanPerform w lanes zones a → HoldsPool (made a w) lanes zones header (with_actions (a ∷ []) pool)
  unfolding all_performed
  holds_one (SetWord id off value) can =
      subst (λ (o : ℕ). HoldsPool (made (SetWord id off value) w) lanes zones header (record pool { objects = put_object o off (number_bytes value) pool.objects })) can.begins
      (written_pool w (made (SetWord id off value) w) lanes zones off header pool can.block (number_bytes value) holds (writes w lanes zones off value id can))

  pub keeps_others : (a : Action) → (can : CanPerform w lanes zones a) → KeepsOthers w (made a w) can.block
  keeps_others (SetWord id off value) can = write_keeps_others w (made (SetWord id off value) w) lanes zones off can.block (number_bytes value) (writes w lanes zones off value id can)

  pub blocks_one : (a : Action) → CanPerform w lanes zones a → blocks (made a w) lanes zones ≡ blocks w lanes zones
  blocks_one a can = blocks_same w (made a w) lanes zones (heads_kept w (made a w) lanes zones can.block holds.no_fault can.is_there (keeps_others a can))

  pub sizes_one : (a : Action) → CanPerform w lanes zones a → (block : Block) → Contains (blocks w lanes zones) block → size_in (made a w) block ≡ size_in w block
  sizes_one a can block there = sizes_kept w (made a w) lanes zones can.block block holds.no_fault can.is_there (keeps_others a can) there

  -- what could be performed still can
  pub can_still : (a other : Action) → CanPerform w lanes zones a → CanPerform w lanes zones other → CanPerform (made a w) lanes zones other
  can_still a other can c = record {
    block = c.block;
    is_there = subst (λ (bs : List Block). Contains bs c.block) (sym (blocks_one a can)) c.is_there;
    begins = c.begins;
    inside = (let size = sizes_one a can c.block c.is_there in let inside = c.inside in omega (arith, size, inside));
    whole = c.whole;
  }

-- a list of actions
pub record Performs (w : ℕ → ℕ) (lanes zones : ℕ) (header : Header) (pool : PoolView) (actions : List Action) : Type 0 where
  pub holds : HoldsPool (performed actions w) lanes zones header (with_actions actions pool)
  pub blocks_stay : blocks (performed actions w) lanes zones ≡ blocks w lanes zones
  pub sizes_stay : (block : Block) → Contains (blocks w lanes zones) block → size_in (performed actions w) block ≡ size_in w block

pub performs : (w : ℕ → ℕ) (lanes zones : ℕ) (header : Header) (pool : PoolView) (actions : List Action) → HoldsPool w lanes zones header pool → All (CanPerform w lanes zones) actions → Performs w lanes zones header pool actions
unfolding all_performed made_final
performs w lanes zones header pool [] holds can = record { holds = holds; blocks_stay = refl; sizes_stay = λ block there. refl }
performs w lanes zones header pool (a ∷ actions) holds can =
    let first : CanPerform w lanes zones a = All-head (CanPerform w lanes zones) a actions can in
    let rest : Performs (made a w) lanes zones header (with_actions (a ∷ []) pool) actions =
    performs (made a w) lanes zones header (with_actions (a ∷ []) pool) actions (holds_one w lanes zones header pool holds a first)
    (All-weaker (CanPerform w lanes zones) (CanPerform (made a w) lanes zones) (λ other c. can_still w lanes zones header pool holds a other first c) actions (All-tail (CanPerform w lanes zones) a actions can)) in
    record {
      holds = rest.holds;
      blocks_stay = rest.blocks_stay ∙ blocks_one w lanes zones header pool holds a first;
      sizes_stay = λ block there.
          rest.sizes_stay block (subst (λ (bs : List Block). Contains bs block) (sym (blocks_one w lanes zones header pool holds a first)) there) ∙ sizes_one w lanes zones header pool holds a first block there;
    }
