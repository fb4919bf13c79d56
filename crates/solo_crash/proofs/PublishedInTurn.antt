-- Actions and changes of the heap are made one after another, each by its entry.
use Rattle.std.proofs.Common.{◌≡◌, ◌⊎◌, inl, inr, ℕ, ◌<◌, List, [], ◌∷◌, get_or, length, refl, sym, ◌∙◌, ap, subst}
use Rattle.std.specs.List.{All}
use Rattle.std.proofs.lemmas.List.Elements.{All-head, All-tail}
use Rattle.pm_header.specs.declared.header.Header.{Header}
use Rattle.pm_objects.specs.declared.pool.PoolView.{PoolView}
use Rattle.pm_image.specs.Blocks.{blocks}
use Rattle.solo_model.specs.Actions.{Action, all_performed, with_actions}
use Rattle.solo_world.specs.History.{made_final}
use Rattle.solo_crash.specs.Held.{HoldsPool}
use Rattle.solo_crash.specs.HeapChanges.{changed, CanChange, HeapChange}
use Rattle.solo_crash.specs.Performing.{performed, CanPerform, IsUnseen}
use Rattle.solo_crash.specs.Publishing.{actions_in, all_blocks_published, all_pool_published, blocks_published, pool_published, published, AreInOrder, CanPublish, HasItsOwn, HaveTheirObjects, MayFollow, Published}
use Rattle.solo_crash.specs.Publishing.Published.{Changes, Performs}
use Rattle.solo_crash.proofs.ChangesBehind.{can_still as change_still}
use Rattle.solo_crash.proofs.KeptHeads.{allows_change, change_allowed, has_object, may_kept, KeepsHeads}
use Rattle.solo_crash.proofs.OneChange.{blocks_one as change_blocks, holds_one as change_holds}
use Rattle.solo_crash.proofs.Performed.{blocks_one as action_blocks, can_still as action_still, holds_one as action_holds, made}
use Rattle.solo_crash.proofs.Unseen.{perform_behind_unseen, performed_heads, unseen_behind_performed, unseen_behind_unseen, unseen_blocks, unseen_heads, unseen_holds}

-- an action is on an object of the pool, or changes nothing of it
abbrev pub MayPerform : (ℕ → ℕ) → ℕ → ℕ → Action → Type 0
MayPerform w lanes zones a = CanPerform w lanes zones a ⊎ IsUnseen w lanes zones a

-- what each may do as its turn comes
abbrev pub CanCome : (ℕ → ℕ) → ℕ → ℕ → Published → Type 0
CanCome w lanes zones (Performs a) = CanPerform w lanes zones a ⊎ IsUnseen w lanes zones a
CanCome w lanes zones (Changes change) = CanChange w lanes zones change

-- behind a change there are no more actions
no_actions : (lanes : ℕ) (change : HeapChange) (steps : List Published) → All (MayFollow lanes (Changes change)) steps → actions_in steps ≡ []
no_actions lanes change [] follow = refl
no_actions lanes change (Performs a ∷ steps) follow = absurd (All-head (MayFollow lanes (Changes change)) (Performs a) steps follow)
no_actions lanes change (Changes other ∷ steps) follow = no_actions lanes change steps (All-tail (MayFollow lanes (Changes change)) (Changes other) steps follow)

none_performed_stays : (w : ℕ → ℕ) → performed [] w ≡ w
unfolding made_final
none_performed_stays w = refl

first_performed : (a : Action) (actions : List Action) (w : ℕ → ℕ) → performed (a ∷ actions) w ≡ performed actions (made a w)
unfolding made_final
first_performed a actions w = refl

module _ (w : ℕ → ℕ) (lanes zones : ℕ) (header : Header) (pool : PoolView) (holds : HoldsPool w lanes zones header pool) where
  pub action_heads : (a : Action) → CanPerform w lanes zones a ⊎ IsUnseen w lanes zones a → KeepsHeads w (made a w) lanes zones
  action_heads a (inl can) = performed_heads w lanes zones header pool holds a can
  action_heads a (inr unseen) = unseen_heads w lanes zones header pool holds a unseen

  pub step_holds : (s : Published) → CanCome w lanes zones s → HoldsPool (published lanes (s ∷ []) w) lanes zones header (pool_published lanes s pool)
  step_holds (Performs a) (inl can) = action_holds w lanes zones header pool holds a can
  step_holds (Performs a) (inr unseen) = unseen_holds w lanes zones header pool holds a unseen
  step_holds (Changes change) can = change_holds w lanes zones header pool change holds can

  pub step_blocks : (s : Published) → CanCome w lanes zones s → blocks (published lanes (s ∷ []) w) lanes zones ≡ blocks_published lanes s (blocks w lanes zones)
  step_blocks (Performs a) (inl can) = action_blocks w lanes zones header pool holds a can
  step_blocks (Performs a) (inr unseen) = unseen_blocks w lanes zones header pool holds a unseen
  step_blocks (Changes change) can = change_blocks w lanes zones holds.no_fault change can

  -- what can be published still can, behind an action
  behind_action : (a : Action) (other : Published) → CanPerform w lanes zones a ⊎ IsUnseen w lanes zones a → CanPublish w lanes zones other → CanPublish (made a w) lanes zones other
  behind_action a (Performs other) (inl can) (inl of) = inl (action_still w lanes zones header pool holds a other can of)
  behind_action a (Performs other) (inl can) (inr of) = inr (unseen_behind_performed w lanes zones header pool holds a other can of)
  behind_action a (Performs other) (inr unseen) (inl of) = inl (perform_behind_unseen w lanes zones header pool holds a unseen other of)
  behind_action a (Performs other) (inr unseen) (inr of) = inr (unseen_behind_unseen w lanes zones header pool holds a unseen other of)
  behind_action a (Changes other) can of = may_kept w (made a w) lanes zones (action_heads a can) other of

  -- and behind a change, where nothing but changes comes, with what stands in new blocks
  record Comes (u : ℕ → ℕ) (s : Published) : Type 0 where
    can : CanPublish u lanes zones s
    has : HasItsOwn u lanes s

  behind_change : (change : HeapChange) (other : Published) → CanChange w lanes zones change → MayFollow lanes (Changes change) other → CanPublish w lanes zones other → HasItsOwn w lanes other
      → Comes (changed lanes change w) other
  behind_change change (Performs a) can may of has = absurd may
  behind_change change (Changes other) can may of has =
      let still : CanChange (changed lanes change w) lanes zones other = change_still w lanes zones holds.no_fault change other can may (change_allowed w lanes zones other of has) in
      record { can = allows_change (changed lanes change w) lanes zones other still; has = has_object (changed lanes change w) lanes zones other still }

  -- the first may come now, and so may the others behind it
  pub record InTurn (s : Published) (steps : List Published) : Type 0 where
    pub first : CanCome w lanes zones s
    pub can : All (CanPublish (published lanes (s ∷ []) w) lanes zones) steps
    pub have : HaveTheirObjects (published lanes (s ∷ []) w) lanes steps

  pub in_turn : (s : Published) (steps : List Published) → All (CanPublish w lanes zones) (s ∷ steps) → All (MayFollow lanes s) steps → HaveTheirObjects w lanes (s ∷ steps) → InTurn s steps
  in_turn (Performs a) steps all may have =
      let first : CanPerform w lanes zones a ⊎ IsUnseen w lanes zones a = All-head (CanPublish w lanes zones) (Performs a) steps all in
      let rest : All (CanPublish w lanes zones) steps = All-tail (CanPublish w lanes zones) (Performs a) steps all in
      record {
        first = first;
        can = λ k d inside. behind_action a (get_or steps k d) first (rest k d inside);
        have = subst (λ (u : ℕ → ℕ). All (HasItsOwn u lanes) steps) (first_performed a (actions_in steps) w) (All-tail (HasItsOwn (performed (a ∷ actions_in steps) w) lanes) (Performs a) steps have);
      }
  in_turn (Changes change) steps all may have =
      let none : actions_in steps ≡ [] = no_actions lanes change steps may in
      let stands : All (HasItsOwn w lanes) (Changes change ∷ steps) = subst (λ (u : ℕ → ℕ). All (HasItsOwn u lanes) (Changes change ∷ steps)) (ap (λ (actions : List Action). performed actions w) none ∙ none_performed_stays w) have in
      let u : ℕ → ℕ = changed lanes change w in
      let first : CanChange w lanes zones change = change_allowed w lanes zones change (All-head (CanPublish w lanes zones) (Changes change) steps all) (All-head (HasItsOwn w lanes) (Changes change) steps stands) in
      let rest : All (CanPublish w lanes zones) steps = All-tail (CanPublish w lanes zones) (Changes change) steps all in
      let own : All (HasItsOwn w lanes) steps = All-tail (HasItsOwn w lanes) (Changes change) steps stands in
      let each : (k : ℕ) (d : Published) → k < length steps → Comes u (get_or steps k d) = λ k d inside. behind_change change (get_or steps k d) first (may k d inside) (rest k d inside) (own k d inside) in
      record {
        first = first;
        can = λ k d inside. (each k d inside).can;
        have = subst (λ (x : ℕ → ℕ). All (HasItsOwn x lanes) steps) (sym (ap (λ (actions : List Action). performed actions u) none ∙ none_performed_stays u)) (λ k d inside. (each k d inside).has);
      }

-- actions alone
pub actions_hold : (w : ℕ → ℕ) (lanes zones : ℕ) (header : Header) (pool : PoolView) (actions : List Action) → HoldsPool w lanes zones header pool → All (MayPerform w lanes zones) actions
    → HoldsPool (performed actions w) lanes zones header (with_actions actions pool)
unfolding all_performed made_final
actions_hold w lanes zones header pool [] holds may = holds
actions_hold w lanes zones header pool (a ∷ actions) holds may =
    let first : MayPerform w lanes zones a = All-head (MayPerform w lanes zones) a actions may in
    actions_hold (made a w) lanes zones header (with_actions (a ∷ []) pool) actions (step_holds w lanes zones header pool holds (Performs a) first)
    (λ k d inside. behind_action w lanes zones header pool holds a (Performs (get_or actions k d)) first (All-tail (MayPerform w lanes zones) a actions may k d inside))

-- a list of them
pub record ArePublished (w : ℕ → ℕ) (lanes zones : ℕ) (header : Header) (pool : PoolView) (steps : List Published) : Type 0 where
  pub holds : HoldsPool (published lanes steps w) lanes zones header (all_pool_published lanes steps pool)
  pub blocks_are : blocks (published lanes steps w) lanes zones ≡ all_blocks_published lanes steps (blocks w lanes zones)

pub all_are_published : (w : ℕ → ℕ) (lanes zones : ℕ) (header : Header) (pool : PoolView) (steps : List Published) → HoldsPool w lanes zones header pool → All (CanPublish w lanes zones) steps → AreInOrder lanes steps
    → HaveTheirObjects w lanes steps → ArePublished w lanes zones header pool steps
unfolding all_pool_published all_blocks_published made_final
all_are_published w lanes zones header pool [] holds can order have = record { holds = holds; blocks_are = refl }
all_are_published w lanes zones header pool (s ∷ steps) holds can order have =
    let u : ℕ → ℕ = published lanes (s ∷ []) w in
    let turn : InTurn w lanes zones header pool holds s steps = in_turn w lanes zones header pool holds s steps can order.0 have in
    let rest : ArePublished u lanes zones header (pool_published lanes s pool) steps =
    all_are_published u lanes zones header (pool_published lanes s pool) steps (step_holds w lanes zones header pool holds s turn.first) turn.can order.1 turn.have in
    record {
      holds = rest.holds;
      blocks_are = rest.blocks_are ∙ ap (all_blocks_published lanes steps) (step_blocks w lanes zones header pool holds s turn.first);
    }
