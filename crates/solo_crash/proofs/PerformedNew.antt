-- An object that a call made stands in its block still once the call's actions are performed, with what they set in it.
use Rattle.std.proofs.Common.{◌≡◌, ◌≢◌, ◌⊎◌, ⊎_elim, inl, inr, ℕ, ◌+◌, ◌/◌, ◌%◌, ◌^◌, ◌<◌, ◌≤◌, eqb, eq-eqb, List, [], ◌∷◌, length, slice_index, Some, IsSome, refl, sym, ◌∙◌, ap, subst, arith}
use Rattle.std.specs.List.{All, Contains, list_any}
use Rattle.std.specs.Option.{option_map}
use Rattle.std.proofs.lemmas.Bool.{cases_eq, cond-true, false≢true, or_parts}
use Rattle.std.proofs.lemmas.List.Elements.{All-head, All-tail, All-weaker, Contains-append_cases, Contains-append_left}
use Rattle.std.proofs.lemmas.List.Folds.{list_any-from_Any}
use Rattle.pm_header.specs.declared.header.Header.{Header}
use Rattle.pm_objects.specs.Pool.{Objects, object_at}
use Rattle.pm_objects.specs.declared.pool.PoolView.{PoolView}
use Rattle.pm_image.specs.declared.block.Block.{Block}
use Rattle.pm_image.specs.Contents.{bytes_in, offset_in}
use Rattle.pm_image.proofs.Members.{member_cases, no_member}
use Rattle.solo_model.specs.Actions.{Action, all_performed, end_of, number_bytes, object_of}
use Rattle.solo_model.specs.Actions.Action.{SetWord}
use Rattle.solo_model.specs.Bytes.{put_bytes, put_object, with_bytes}
use Rattle.solo_model.proofs.Objects.{object_at-put}
use Rattle.solo_view.specs.View.{View}
use Rattle.solo_world.specs.Entries.{set_word}
use Rattle.solo_world.specs.History.{made_final}
use Rattle.solo_crash.specs.CallBlocks.{IsMadeIn, NewObject, block_of, blocks_in, is_at, is_freed_in}
use Rattle.solo_crash.specs.CallChanges.{bytes_published}
use Rattle.solo_crash.specs.Held.{IsObjectAt}
use Rattle.solo_crash.specs.HeapChanges.{AreDisjoint}
use Rattle.solo_crash.specs.NewObjects.{unlinked, HasNewObject, IsWordOf}
use Rattle.solo_crash.specs.OpenCall.{call_words, CommitsTo, HasMade, IsPerformable, LiesInNew}
use Rattle.solo_crash.specs.Pending.{published_in}
use Rattle.solo_crash.specs.Performing.{entry_for, performed, CanPerform, IsWord}
use Rattle.solo_crash.specs.Writes.{IsWritten}
use Rattle.solo_crash.proofs.Bytewise.{length-put}
use Rattle.solo_crash.proofs.ManyObjects.{untouched}
use Rattle.solo_crash.proofs.NewStay.{new_there}
use Rattle.solo_crash.proofs.ObjectsOfBlocks.{object_is_there}
use Rattle.solo_crash.proofs.OnceMade.{one_at_offset}
use Rattle.solo_crash.proofs.OneChange.{object_stays}
use Rattle.solo_crash.proofs.Performed.{made}
use Rattle.solo_crash.proofs.SetWords.{number_has_bytes, set_is_written}
use Rattle.solo_crash.proofs.Unseen.{made_elsewhere}
use Rattle.solo_crash.proofs.WordsOfNew.{new_word, performed_word, words_apart}
use Rattle.solo_crash.proofs.Written.{new_object_written}

-- the action lies in the object of so many bytes that begins so in the block, or has nothing of it
abbrev IsInOrElsewhere : Block → ℕ → Action → Type 0
IsInOrElsewhere block size a = (((object_of a).off ≡ offset_in block) × (end_of a ≤ size) × IsWord a) ⊎ (((object_of a).off ≢ offset_in block) × ¬ IsWordOf block (entry_for a).word)

-- what stands in the block behind the actions, and among a pool's objects
record NewBehind (w : ℕ → ℕ) (block : Block) (kind : ℕ) (actions : List Action) (objects : Objects) : Type 0 where
  bytes : List ℕ
  object : HasNewObject (performed actions w) block kind bytes
  stands : object_at (all_performed actions objects) (offset_in block) ≡ Some (unlinked kind bytes)

module _ (block : Block) (kind : ℕ) (begins : block.place % 8 ≡ 0) where
  -- eight bytes of it that are set
  set_behind : (w : ℕ → ℕ) (off value : ℕ) (bytes : List ℕ) → off % 8 ≡ 0 → value < 2 ^ 64 → off + 8 ≤ length bytes → (at : ℕ) → at ≡ offset_in block → HasNewObject w block kind bytes
      → HasNewObject (λ i. made_final (set_word ((at + off) / 8) value ∷ []) i (w i)) block kind (put_bytes off (number_bytes value) bytes)
  set_behind w off value bytes aligned small inside at here object =
      let u : ℕ → ℕ = λ i. made_final (set_word ((at + off) / 8) value ∷ []) i (w i) in
      new_object_written w u block kind off bytes (number_bytes value) begins object inside (number_has_bytes value)
      (subst (λ (n : ℕ). IsWritten w u (n + off) (number_bytes value)) here (set_is_written w (at + off) value (omega (arith, begins, aligned, here)) small))

  new_behind : (actions : List Action) (w : ℕ → ℕ) (objects : Objects) (bytes : List ℕ) → HasNewObject w block kind bytes → object_at objects (offset_in block) ≡ Some (unlinked kind bytes)
      → All (IsInOrElsewhere block (length bytes)) actions → NewBehind w block kind actions objects
  unfolding all_performed made_final
  new_behind [] w objects bytes object stands each = record { bytes = bytes; object = object; stands = stands }
  new_behind (SetWord id off value ∷ actions) w objects bytes object stands each =
      let a : Action = SetWord id off value in
      let new : List ℕ = number_bytes value in
      let others : All (IsInOrElsewhere block (length bytes)) actions = All-tail (IsInOrElsewhere block (length bytes)) a actions each in
      ⊎_elim
      (λ (in_it : (id.off ≡ offset_in block) × (off + 8 ≤ length bytes) × ((off % 8 ≡ 0) × (value < 2 ^ 64))).
      let now : List ℕ = put_bytes off new bytes in
      let long : length now ≡ length bytes = length-put off new bytes in_it.1 in
      let rest : NewBehind (made a w) block kind actions (put_object id.off off new objects) =
      new_behind actions (made a w) (put_object id.off off new objects) now (set_behind w off value bytes in_it.2.0 in_it.2.1 in_it.1 id.off in_it.0 object)
      (object_at-put id.off off new objects (offset_in block)
      ∙ cond-true (eqb (offset_in block) id.off) (option_map (with_bytes off new) (object_at objects (offset_in block))) (object_at objects (offset_in block)) (eq-eqb (offset_in block) id.off (sym in_it.0))
      ∙ ap (option_map (with_bytes off new)) stands)
      (subst (λ (size : ℕ). All (IsInOrElsewhere block size) actions) (sym long) others) in
      record { bytes = rest.bytes; object = rest.object; stands = rest.stands })
      (λ (elsewhere : (id.off ≢ offset_in block) × ¬ IsWordOf block ((id.off + off) / 8)).
      let rest : NewBehind (made a w) block kind actions (put_object id.off off new objects) =
      new_behind actions (made a w) (put_object id.off off new objects) bytes
      (object_stays w (made a w) block kind bytes object (λ i from to. made_elsewhere a w i (λ same. elsewhere.1 (subst (IsWordOf block) same (record { from = from; to = to })))))
      (untouched (a ∷ []) objects (offset_in block) (λ b there. ⊎_elim
      (λ (is : a ≡ b). λ same. elsewhere.0 (ap (λ (x : Action). (object_of x).off) is ∙ same))
      (λ (more : Contains [] b). absurd (no_member b more))
      (member_cases a [] b there)) ∙ stands)
      others in
      record { bytes = rest.bytes; object = rest.object; stands = rest.stands })
      (All-head (IsInOrElsewhere block (length bytes)) a actions each)

-- ---- what a committed call made

-- the object has so many bytes by the words with the actions performed, and so it stands in the copy
pub record StandsBehind (v : View) (copy : PoolView) (n : NewObject) : Type 0 where
  pub object : HasNewObject (performed (published_in v) (slice_index v.words)) (block_of n) n.kind (bytes_published v n)
  pub stands : object_at (all_performed (published_in v) copy.objects) n.off ≡ Some (unlinked n.kind (bytes_published v n))

module _ (v : View) (w : ℕ → ℕ) (header : Header) (pool : PoolView) (to : CommitsTo v w header pool) (has : HasMade v) (n : NewObject) (made_it : Contains (blocks_in v).made n) where
  is : IsMadeIn v n
  is = has.each n made_it

  offset : offset_in (block_of n) ≡ n.off
  offset = let behind = is.behind in omega (arith, behind)

  begins_at : (block_of n).place % 8 ≡ 0
  begins_at = let behind = is.behind in let aligned = is.aligned in omega (arith, behind, aligned)

  abbrev size : ℕ
  size = length (bytes_in (slice_index v.words) (block_of n))

  on_found : (a : Action) → CanPerform (call_words v w) v.lanes v.zones a → IsInOrElsewhere (block_of n) size a
  on_found a can = inr (
    (λ same.
        let stands : IsObjectAt (call_words v w) v.lanes v.zones to.base.objects can.block = object_is_there (call_words v w) v.lanes v.zones header to.base can.block to.holds can.is_there in
        let found : IsSome (object_at to.base.objects n.off) = subst (λ (o : ℕ). IsSome (object_at to.base.objects o)) (can.begins ∙ (same ∙ offset)) (subst IsSome (sym stands.found) refl) in
        false≢true (subst IsSome (to.unfound n.off (new_there v n (Contains-append_left (blocks_in v).made (blocks_in v).dropped n made_it))) found)),
    (λ inside. words_apart (block_of n) can.block (entry_for a).word (to.apart n can.block made_it can.is_there) inside (performed_word (call_words v w) v.lanes v.zones to.holds.no_fault a can)),
  )

  elsewhere : (a : Action) → (lies : LiesInNew v a) → lies.new.off ≢ n.off → IsInOrElsewhere (block_of n) size a
  elsewhere a lies differ =
      let apart : AreDisjoint (block_of n) (block_of lies.new) = ⊎_elim
      (λ (there : Contains (blocks_in v).made lies.new). has.apart_new n lies.new made_it there (λ same. differ (sym same)))
      (λ (dropped : Contains (blocks_in v).dropped lies.new). has.apart_gone n lies.new made_it dropped)
      (Contains-append_cases (blocks_in v).made (blocks_in v).dropped lies.new lies.is_new) in
      inr ((λ same. differ (lies.begins ∙ (same ∙ offset))), (λ inside. words_apart (block_of n) (block_of lies.new) (entry_for a).word apart inside (new_word v a lies)))

  here : (a : Action) → (lies : LiesInNew v a) → lies.new.off ≡ n.off → IsInOrElsewhere (block_of n) size a
  here a lies same =
      let one : lies.new ≡ n = ⊎_elim
      (λ (there : Contains (blocks_in v).made lies.new). one_at_offset (blocks_in v).made lies.new n has.once there made_it same)
      (λ (dropped : Contains (blocks_in v).dropped lies.new).
      absurd (false≢true (sym (or_parts (is_freed_in v n.off) (list_any (is_at n.off) (blocks_in v).dropped) (has.kept n made_it)).1
      ∙ list_any-from_Any (is_at n.off) (blocks_in v).dropped (dropped.0, lies.new, dropped.1, dropped.2, eq-eqb lies.new.off n.off same))))
      (Contains-append_cases (blocks_in v).made (blocks_in v).dropped lies.new lies.is_new) in
      inl (sym lies.begins ∙ (same ∙ sym offset), subst (λ (k : ℕ). end_of a ≤ k) (ap (λ (m : NewObject). m.size) one ∙ sym is.long) lies.inside, lies.whole)

  each_action : (a : Action) → IsPerformable v (call_words v w) a → IsInOrElsewhere (block_of n) size a
  each_action a (inl can) = on_found a can
  each_action a (inr lies) = ⊎_elim (here a lies) (elsewhere a lies) (cases_eq lies.new.off n.off)

  pub stands_behind : StandsBehind v to.copy n
  stands_behind =
      let behind : NewBehind (slice_index v.words) (block_of n) n.kind (published_in v) to.copy.objects =
      new_behind (block_of n) n.kind begins_at (published_in v) (slice_index v.words) to.copy.objects (bytes_in (slice_index v.words) (block_of n)) is.object
      (ap (object_at to.copy.objects) offset ∙ to.changed.new n made_it)
      (All-weaker (IsPerformable v (call_words v w)) (IsInOrElsewhere (block_of n) size) each_action (published_in v) to.performable) in
      record {
        object = subst (HasNewObject (performed (published_in v) (slice_index v.words)) (block_of n) n.kind) (sym behind.object.holds) behind.object;
        stands = subst (λ (bytes : List ℕ). object_at (all_performed (published_in v) to.copy.objects) n.off ≡ Some (unlinked n.kind bytes)) (sym behind.object.holds)
            (sym (ap (object_at (all_performed (published_in v) to.copy.objects)) offset) ∙ behind.stands);
      }
