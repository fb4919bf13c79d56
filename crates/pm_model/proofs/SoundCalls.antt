-- A call leaves a state sound.
use Rattle.std.proofs.Common.{◌≡◌, ⊎_elim, ◌⊎◌, inl, inr, ℕ, zero, suc, ◌≤◌, List, [], ◌∷◌, ◌++◌, map, length, Bool, true, false, not, cond, eqb, leb, ltb, ◌&&◌, ◌||◌, Option, Some, None, IsSome, is_some, MatchOption, refl, sym, ◌∙◌, ap, subst, arith}
use Rattle.std.specs.Option.{option_map_or}
use Rattle.std.proofs.lemmas.Bool.{eq-eqb, eqb-true, false≢true, false_from_ne_true, and_from, le-leb, ltb-false}
use Rattle.std.proofs.lemmas.List.{length-replicate}
use Rattle.pm_objects.specs.declared.calls.At.{At}
use Rattle.pm_objects.specs.declared.calls.Dest.{Dest}
use Rattle.pm_objects.specs.declared.calls.Operation.{Operation}
use Rattle.pm_objects.specs.declared.calls.Operation.TheVariants.{Reserve, WriteReserved, Publish, Cancel, AllocTo, ReallocAt, FreeAt, Insert, InsertNew, Remove, MoveTo, Root}
use Rattle.pm_objects.specs.declared.calls.Want.{Want}
use Rattle.pm_objects.specs.declared.history.Value.{Value}
use Rattle.pm_objects.specs.declared.history.Value.TheVariants.{Offset, Refused}
use Rattle.pm_objects.specs.declared.ids.Oid.{Oid}
use Rattle.pm_objects.specs.declared.refusal.Refusal.{Refusal}
use Rattle.pm_objects.specs.declared.refusal.Refusal.TheVariants as refusal
use Rattle.pm_model.specs.Items.{Edit, Item, Items, PlainPool, all_edited, bytes_of, edited, freed_item, is_among, is_root, kind_of, list_of, made_item, members_of, new_item, number_bytes, put_bytes, put_into, resized_item}
use Rattle.pm_model.specs.Blocks.{AreAllFree, IsFree, IsNewBlock}
use Rattle.pm_model.specs.Pending.{Pending, Reservation, block_edits, blocks_reserved, item_reserved, set_edits}
use Rattle.pm_model.specs.Refusals.{Seen, Test, has_members, is_listed, is_size, max_size}
use Rattle.pm_model.specs.Inside.{IsRefused}
use Rattle.pm_model.specs.Outside.{IsDoneOutside, IsReplyOutside, Outside, RepliesOutside, after_outside, after_reply_outside, done_outside, early_tests, edits_of, found_tests, free_target, id_edit, id_in, inserted, is_beside_none, is_null, item_moved, late_tests, MayPublishOutside, offset_in, pending_after, refusal_outside, root_after, root_edits, root_grows, root_is_listed, size_made, taken_out, target_tests, value_outside, wants_named, wants_then}
use Rattle.pm_model.specs.CallStep.{CallRun, CallStep, State, outside_of, with_pending}
use Rattle.pm_model.specs.Sound.{HasSizes, IsSound, IsSoundState}
use Rattle.pm_model.proofs.Lists.{Each, NoneApplies, all_of_each, each_left, each_of_all, each_right, each_weaker, none_applies, none_pass}
use Rattle.pm_model.proofs.Members.{among_inserted, among_taken, once_inserted, once_taken}
use Rattle.pm_model.proofs.Sounds.{freed_sound, linked_in, list_in, members_in, put_sound, relinked_lengths, relinked_list, relinked_members, relinked_sound, same_under, some_same, with_root}
use Rattle.pm_model.proofs.SoundTransactions.{TxSound, Unlisted, edits_append, freed_lines, frees_sound, made_sound_in, new_sizes, no_list, no_members, nothing_at, put_sizes, reserved_sound, runs_sound, sets_sound, unlisted}
use Rattle.pm_model.proofs.BesideTests.{resized_length}

size_is : (b : Bool) → not b ≡ false → b ≡ true
size_is true e = refl
size_is false e = absurd (false≢true (sym e))

-- a name of one thing is no name of another
unlisted_put : (off at : ℕ) (new : List ℕ) (items : Items) (x : ℕ) → Unlisted items x
    → Unlisted (edited (put_into off at new) items) x
unlisted_put off at new items x none =
    let f : Item → Item = λ i. record i { bytes = put_bytes at new i.bytes } in (
      same_under list_in f (λ i. refl) (eqb off x) (items x) ∙ none.0,
      same_under members_in f (λ i. refl) (eqb off x) (items x) ∙ none.1,
    )

unlisted_made : (off : ℕ) (item : Item) (items : Items) (x : ℕ) → item.members ≡ []
    → item.list ≡ None → Unlisted items x → Unlisted (edited (made_item off item) items) x
unlisted_made off item items x alone single none = by (eqb off x) where
  by : (b : Bool) → (list_in (cond b (Some item) (items x)) ≡ None)
      × (members_in (cond b (Some item) (items x)) ≡ [])
  by true = (single, alone)
  by false = none

some_made : (off : ℕ) (item : Item) (items : Items) (x : ℕ) → IsSome (items x)
    → IsSome (edited (made_item off item) items x)
some_made off item items x some = by (eqb off x) where
  by : (b : Bool) → IsSome (cond b (Some item) (items x))
  by true = refl
  by false = some

not_none : (o : Option Item) → o ≡ None → IsSome o → ⊥
not_none o is some = false≢true (subst (λ (p : Option Item). IsSome p) is some)

module _ (pool : PlainPool) (p : Pending) (seen : Seen) (sound : IsSound pool.items pool.root)
    (sizes : Each (λ (r : Reservation). is_size (length r.bytes) ≡ true) p.reserved) where
  abbrev Makes : ℕ → Option Value → Type 0
  Makes size reply = (off : ℕ)
      × IsNewBlock pool (blocks_reserved p) (record { off = off; size = size })
      × (reply ≡ Some (Offset off))

  -- the block of a new object
  new_free : (size : ℕ) (reply : Option Value) (item : Item) → length item.bytes ≡ size
      → Makes size reply
      → IsFree pool.items [] (record { off = offset_in reply; size = length item.bytes })
  new_free size reply item long makes =
      let e : makes.0 ≡ offset_in reply = sym (ap offset_in makes.2) in
      let free : IsFree pool.items []
      (record { off = makes.0; size = size }) = record {
        objects = makes.1.free.objects;
        others = λ l c. refl;
      } in
      subst (λ (n : ℕ). IsFree pool.items [] (record { off = offset_in reply; size = n }))
      (sym long) (subst (λ (off : ℕ). IsFree pool.items []
      (record { off = off; size = size })) e free)

  new_sound : (root : Option ℕ) (size : ℕ) (reply : Option Value) (item : Item)
      → IsSound pool.items root → length item.bytes ≡ size → item.members ≡ []
      → item.list ≡ None → is_size size ≡ true → Makes size reply
      → IsSound (edited (made_item (offset_in reply) item) pool.items) root
  new_sound root size reply item is long alone single fits makes =
      (made_sound_in root pool.items [] (offset_in reply) item pool.items alone single
      (subst (λ (n : ℕ). is_size n ≡ true) (sym long) fits)
      (new_free size reply item long makes) (λ x l e. inl e) is).0

  new_nothing : (size : ℕ) (reply : Option Value) (item : Item) → length item.bytes ≡ size
      → Makes size reply → pool.items (offset_in reply) ≡ None
  new_nothing size reply item long makes =
      nothing_at (offset_in reply) (length item.bytes) pool.items
      (λ x l c. (new_free size reply item long makes).objects l x c)

  -- the object that a destination names is freed
  target_alone : (dest : Dest) → NoneApplies (target_tests seen pool dest)
      → not (is_null (id_in pool.items dest)) ≡ true
      → Unlisted pool.items (id_in pool.items dest).off
      × (is_root pool.root (id_in pool.items dest).off ≡ false)
  target_alone dest none n = (
    unlisted pool.items (id_in pool.items dest).off
        (second (not (is_null (id_in pool.items dest)))
        (is_listed pool.items (id_in pool.items dest).off) n none.1.1.1.1.0),
    second (not (is_null (id_in pool.items dest)))
        (is_root pool.root (id_in pool.items dest).off) n none.1.1.1.0,
  ) where
    second : (a b : Bool) → a ≡ true → (a && b) ≡ false → b ≡ false
    second true b t e = e
    second false b t e = absurd (false≢true t)

  freed_target : (dest : Dest) (items : Items) → NoneApplies (target_tests seen pool dest)
      → ((x : ℕ) → Unlisted pool.items x → Unlisted items x) → IsSound items pool.root
      → IsSound (all_edited (free_target pool dest) items) pool.root
  unfolding all_edited
  freed_target dest items none still is = by (is_null (id_in pool.items dest)) refl where
    by : (b : Bool) → is_null (id_in pool.items dest) ≡ b
        → IsSound (all_edited
        (map freed_item (cond b [] ((id_in pool.items dest).off ∷ []))) items) pool.root
    by true e = is
    by false e =
        let t = target_alone dest none (ap not e) in
        let u : Unlisted items (id_in pool.items dest).off = still
        (id_in pool.items dest).off t.0 in
        freed_sound (id_in pool.items dest).off items pool.root u.0 u.1 t.1 is

  clear_sound : (dest : Dest) → NoneApplies (target_tests seen pool dest)
      → IsSound (all_edited
      (cond (is_null (id_in pool.items dest)) []
      (id_edit dest 0 0 ∷ free_target pool dest)) pool.items) pool.root
  unfolding all_edited
  clear_sound dest none = by (is_null (id_in pool.items dest)) where
    by : (b : Bool) → IsSound
        (all_edited (cond b [] (id_edit dest 0 0 ∷ free_target pool dest)) pool.items) pool.root
    by true = sound
    by false =
        freed_target dest (edited (id_edit dest 0 0) pool.items) none
        (λ x u. unlisted_put dest.id.off dest.off
        (number_bytes 0 ++ number_bytes 0) pool.items x u)
        (put_sound dest.id.off dest.off
        (number_bytes 0 ++ number_bytes 0) pool.items pool.root sound)

  -- a size that is not zero, and not too large
  size_from : (size : ℕ) → eqb size 0 ≡ false → ltb max_size size ≡ false → is_size size ≡ true
  size_from size some fits = and_from (leb 1 size) (leb size max_size)
      (le-leb 1 size (positive size some))
      (le-leb size max_size (ltb-false max_size size fits)) where
        zero_or : (n : ℕ) → (n ≡ 0) ⊎ (1 ≤ n)
        zero_or zero = inl refl
        zero_or (suc n) = inr (omega arith)

        positive : (n : ℕ) → eqb n 0 ≡ false → 1 ≤ n
        positive n e = ⊎_elim (λ (z : n ≡ 0). absurd (false≢true (sym e ∙ eq-eqb n 0 z)))
            (λ (k : 1 ≤ n). k) (zero_or n)

  -- where the object of a reply is made, something stands
  some_there : (off : ℕ) (item : Item) (items : Items)
      → IsSome (edited (made_item off item) items off)
  some_there off item items = ap (λ (b : Bool). is_some (cond b (Some item) (items off)))
      (eq-eqb off off refl)

  insert_new_sound : (head at : ℕ) (place : At) (size kind : ℕ) (reply : Option Value)
      → IsSome (pool.items head) → is_size size ≡ true
      → is_beside_none place (members_of pool.items head) ≡ false → Makes size reply
      → IsSound (all_edited
      (linked_in head (inserted place (offset_in reply) (members_of pool.items head))
      (offset_in reply) (Some head))
      (edited (made_item (offset_in reply) (new_item kind size None)) pool.items)) pool.root
  insert_new_sound head at place size kind reply there fits beside makes =
      let off : ℕ = offset_in reply in
      let item : Item = new_item kind size None in
      let items : Items = edited (made_item off item) pool.items in
      let long : length item.bytes ≡ size = length-replicate size 0 in
      let empty : pool.items off ≡ None = new_nothing size reply item long makes in
      let apart_head : eqb off head ≡ false = false_from_ne_true (eqb off head)
      (λ t. not_none (pool.items head)
      (ap pool.items (sym (eqb-true off head t)) ∙ empty) there) in
      let members : members_of items head ≡ members_of pool.items head = ap
      (λ (b : Bool). members_in (cond b (Some item) (pool.items head))) apart_head in
      let out : is_among (members_of pool.items head) off ≡ false = false_from_ne_true
      (is_among (members_of pool.items head) off)
      (λ m. let bad : None ≡ Some head = sym (ap list_in empty) ∙ sound.linked head off m in
      let no : ⊥ = cc in no) in
      relinked_sound head off
      (inserted place off (members_of pool.items head)) true items pool.root
      (some_made off item pool.items head there) (some_there off item pool.items)
      (ap (λ (b : Bool). list_in (cond b (Some item) (pool.items off))) (eq-eqb off off refl))
      (λ x. among_inserted place off (members_of pool.items head) beside x
      ∙ ap (λ (l : List ℕ). cond (eqb off x) true (is_among l x)) (sym members))
      (once_inserted place off (members_of pool.items head) out (sound.once head))
      (new_sound pool.root size reply item sound long refl refl fits makes)

  -- an object is taken out of a list
  taken_sound : (head off : ℕ) → IsSome (pool.items head) → IsSome (pool.items off)
      → is_among (members_of pool.items head) off ≡ true
      → IsSound (all_edited
      (linked_in head (taken_out off
      (members_of pool.items head)) off None) pool.items) pool.root
  taken_sound head off head_there off_there member =
      relinked_sound head off
      (taken_out off (members_of pool.items head)) false pool.items pool.root head_there off_there (sound.linked head off member)
      (λ x. among_taken off (members_of pool.items head) x)
      (once_taken off (members_of pool.items head) (sound.once head)) sound

  remove_sound : (head off : ℕ) (free : Bool) → IsSome (pool.items head)
      → IsSome (pool.items off) → is_among (members_of pool.items head) off ≡ true
      → (free && is_root pool.root off) ≡ false
      → (free && has_members pool.items off) ≡ false
      → IsSound (all_edited
      (linked_in head (taken_out off (members_of pool.items head)) off None
      ++ cond free (freed_item off ∷ []) []) pool.items) pool.root
  unfolding all_edited
  remove_sound head off false head_there off_there member kept none = taken_sound head off head_there off_there member
  remove_sound head off true head_there off_there member kept none =
      let ms : List ℕ = taken_out off (members_of pool.items head) in
      let items : Items = all_edited (linked_in head ms off None) pool.items in
      let empty : members_of pool.items off ≡ [] = no_members (members_of pool.items off) none in
      freed_sound off items pool.root
      (relinked_list head off ms None pool.items off_there off
      ∙ ap (λ (b : Bool). cond b None (list_of pool.items off)) (eq-eqb off off refl))
      (relinked_members head off ms None pool.items head_there off ∙ own (eqb head off) refl empty)
      kept (taken_sound head off head_there off_there member) where
        own : (b : Bool) → eqb head off ≡ b → members_of pool.items off ≡ []
            → cond b (taken_out off (members_of pool.items head)) (members_of pool.items off) ≡ []
        own true t empty = ap (taken_out off)
            (ap (members_of pool.items) (eqb-true head off t) ∙ empty)
        own false f empty = empty

  move_sound : (head new_head off : ℕ) (place : At) → IsSome (pool.items head)
      → IsSome (pool.items new_head) → IsSome (pool.items off)
      → is_among (members_of pool.items head) off ≡ true
      → is_beside_none place (taken_out off (members_of pool.items new_head)) ≡ false
      → IsSound (all_edited
      (linked_in new_head (inserted place off
      (taken_out off (members_of pool.items new_head))) off (Some new_head))
      (all_edited (linked_in head
      (taken_out off (members_of pool.items head)) off None) pool.items)) pool.root
  move_sound head new_head off place head_there new_there off_there member beside =
      let ms : List ℕ = taken_out off (members_of pool.items head) in
      let second : List ℕ = taken_out off (members_of pool.items new_head) in
      let items : Items = all_edited (linked_in head ms off None) pool.items in
      let none : is_among second off ≡ false = among_taken off
      (members_of pool.items new_head) off
      ∙ ap (λ (b : Bool). cond b false (is_among (members_of pool.items new_head) off))
      (eq-eqb off off refl) in
      relinked_sound new_head off (inserted place off second) true items pool.root
      (some_same (items new_head) (pool.items new_head)
      (relinked_lengths head off ms None pool.items new_head) new_there)
      (some_same (items off) (pool.items off)
      (relinked_lengths head off ms None pool.items off) off_there)
      (relinked_list head off ms None pool.items off_there off
      ∙ ap (λ (b : Bool). cond b None (list_of pool.items off)) (eq-eqb off off refl))
      (λ x. among_inserted place off second beside x
      ∙ (same_second x ∙ ap (λ (l : List ℕ). cond (eqb off x) true (is_among l x))
      (sym (relinked_members head off ms None pool.items head_there new_head))))
      (once_inserted place off second none
      (once_taken off (members_of pool.items new_head) (sound.once new_head)))
      (taken_sound head off head_there off_there member) where
        same_second : (x : ℕ)
            → cond (eqb off x) true (is_among (taken_out off (members_of pool.items new_head)) x)
            ≡ cond (eqb off x) true
            (is_among (cond (eqb head new_head) (taken_out off (members_of pool.items head))
            (members_of pool.items new_head)) x)
        same_second x = by (eqb off x) (eqb head new_head) refl refl where
          by : (b c : Bool) → eqb off x ≡ b → eqb head new_head ≡ c
              → cond b true (is_among (taken_out off (members_of pool.items new_head)) x)
              ≡ cond b true (is_among
              (cond c (taken_out off (members_of pool.items head))
              (members_of pool.items new_head)) x)
          by true c e f = refl
          by false true e f = ap
              (λ (h : ℕ). is_among (taken_out off (members_of pool.items h)) x)
              (sym (eqb-true head new_head f))
          by false false e f = among_taken off (members_of pool.items new_head) x
              ∙ ap (λ (b : Bool). cond b false (is_among (members_of pool.items new_head) x)) e

  root_sound : (size : ℕ) (reply : Option Value) (root : Option ℕ) → is_size size ≡ true
      → option_map_or (is_listed pool.items) root false ≡ false → Makes size reply
      → IsSound (all_edited
      (option_map_or (λ old. freed_item old
      ∷ made_item (offset_in reply)
      (resized_item (kind_of pool.items old) size (bytes_of pool.items old)) ∷ []) root
      (made_item (offset_in reply) (new_item 0 size None) ∷ [])) pool.items)
      (Some (offset_in reply))
  unfolding all_edited
  root_sound size reply None fits none makes =
      let item : Item = new_item 0 size None in
      with_root (edited (made_item (offset_in reply) item) pool.items) None
      (Some (offset_in reply)) (some_there (offset_in reply) item pool.items)
      (new_sound None size reply item (with_root pool.items pool.root None tt sound)
      (length-replicate size 0) refl refl fits makes)
  root_sound size reply (Some old) fits none makes =
      let item : Item = resized_item (kind_of pool.items old) size (bytes_of pool.items old) in
      let long : length item.bytes ≡ size = resized_length (kind_of pool.items old) size
      (bytes_of pool.items old) in
      let items : Items = edited (freed_item old) pool.items in
      let alone : Unlisted pool.items old = unlisted pool.items old none in
      let freed : IsSound items None = freed_sound old pool.items None alone.0 alone.1 refl
      (with_root pool.items pool.root None tt sound) in
      with_root (edited (made_item (offset_in reply) item) items) None (Some (offset_in reply))
      (some_there (offset_in reply) item items)
      (made_sound_in None pool.items [] (offset_in reply) item items refl refl
      (subst (λ (n : ℕ). is_size n ≡ true) (sym long) fits)
      (new_free size reply item long makes)
      (λ x l e. inl (freed_lines old pool.items x l e)) freed).0

  publish_sound : NoneApplies (late_tests seen pool p Publish)
      → AreAllFree pool.items [] (blocks_reserved p)
      → IsSound (all_edited (block_edits p ++ set_edits p.sets) pool.items) pool.root
  publish_sound none free =
      let frees : List Edit = map (λ (id : Oid). freed_item id.off) p.frees in
      let makes : List Edit = map
      (λ (r : Reservation). made_item r.off (item_reserved r)) p.reserved in
      let freed = frees_sound pool.root p.frees pool.items
      (each_weaker (λ (id : Oid). is_listed pool.items id.off ≡ false)
      (λ (id : Oid). Unlisted pool.items id.off) p.frees (λ id e. unlisted pool.items id.off e)
      (none_pass (λ (id : Oid). is_listed pool.items id.off) p.frees none.1.1.0))
      (none_pass (λ (id : Oid). is_root pool.root id.off) p.frees none.1.0) sound in
      let made = reserved_sound pool.root pool.items p.reserved []
      (all_edited frees pool.items) free sizes (λ x l e. inl (freed.1 x l e)) freed.0 in
      let done : IsSound (all_edited (block_edits p) pool.items) pool.root = subst
      (λ (i : Items). IsSound i pool.root)
      (sym (edits_append frees makes pool.items)) made.0 in
      subst (λ (i : Items). IsSound i pool.root)
      (sym (edits_append (block_edits p) (set_edits p.sets) pool.items))
      (sets_sound pool.root p.sets (all_edited (block_edits p) pool.items) done)

  realloc_sound : (dest : Dest) (size kind : ℕ) (reply : Option Value)
      → ltb max_size size ≡ false → NoneApplies (target_tests seen pool dest)
      → MatchOption (size_made pool (ReallocAt dest size kind))
      (reply ≡ value_outside pool (ReallocAt dest size kind)) (λ n. Makes n reply)
      → IsSound (all_edited
      (edits_of pool p (ReallocAt dest size kind) (offset_in reply)) pool.items) pool.root
  unfolding all_edited
  realloc_sound dest size kind reply fits none value = by (eqb size 0) refl value where
    by : (b : Bool) → eqb size 0 ≡ b
        → MatchOption (cond b None (Some size))
        (reply ≡ value_outside pool (ReallocAt dest size kind)) (λ n. Makes n reply)
        → IsSound (all_edited
        (cond b (cond (is_null (id_in pool.items dest)) []
        (id_edit dest 0 0 ∷ free_target pool dest))
        (made_item (offset_in reply) (item_moved pool dest size kind)
        ∷ id_edit dest pool.id (offset_in reply)
        ∷ free_target pool dest)) pool.items) pool.root
    by true e value = clear_sound dest none
    by false e value =
        let long : length (item_moved pool dest size kind).bytes ≡ size =
        resized_length kind size
        (cond (is_null (id_in pool.items dest)) []
        (bytes_of pool.items (id_in pool.items dest).off)) in
        let new : Items = edited
        (made_item (offset_in reply) (item_moved pool dest size kind)) pool.items in
        let id : List ℕ = number_bytes pool.id ++ number_bytes (offset_in reply) in
        freed_target dest (edited (put_into dest.id.off dest.off id) new) none
        (λ x u. unlisted_put dest.id.off dest.off id new x
        (unlisted_made (offset_in reply)
        (item_moved pool dest size kind) pool.items x refl refl u))
        (put_sound dest.id.off dest.off id new pool.root
        (new_sound pool.root size reply (item_moved pool dest size kind) sound long refl refl
        (size_from size e fits) value))

  either : (a b : Bool) → (not a || b) ≡ false → (a ≡ true) × (b ≡ false)
  either true b e = (refl, e)
  either false b e = absurd (false≢true (sym e))

  -- a call that is done leaves the pool sound
  edits_sound : (op : Operation) (reply : Option Value)
      → NoneApplies (early_tests seen pool p op) → NoneApplies (late_tests seen pool p op)
      → Each (λ (w : Want). IsSome (pool.items w.id.off))
      (wants_named p op ++ wants_then seen pool op)
      → MayPublishOutside (record { pool = pool; pending = p }) op
      → IsReplyOutside (record { pool = pool; pending = p }) op reply
      → IsSound (all_edited (edits_of pool p op (offset_in reply)) pool.items)
      (root_after pool op (offset_in reply))
  unfolding all_edited
  edits_sound Publish reply early late there may value = publish_sound late may
  edits_sound (AllocTo dest size kind) reply early late there may value =
      let item : Item = new_item kind size None in
      put_sound dest.id.off dest.off (number_bytes pool.id ++ number_bytes (offset_in reply))
      (edited (made_item (offset_in reply) item) pool.items) pool.root
      (new_sound pool.root size reply item sound (length-replicate size 0) refl refl
      (size_is (is_size size) early.1.1.0) value)
  edits_sound (ReallocAt dest size kind) reply early late there may value =
      realloc_sound dest size kind reply early.1.1.0
      (each_left (λ (t : Test). t.1 ≡ false) (target_tests seen pool dest)
      ((refusal.NoSpace, leb 1 size && seen.full) ∷ []) late.1) value
  edits_sound (FreeAt dest) reply early late there may value = clear_sound dest late.1
  edits_sound (Insert head at id) reply early late there may value =
      let ms : List ℕ = members_of pool.items head.off in
      let none : list_of pool.items id.off ≡ None = no_list (list_of pool.items id.off) late.1.0 in
      let out : is_among ms id.off ≡ false = false_from_ne_true (is_among ms id.off)
      (λ m. let bad : None ≡ Some head.off = sym none ∙ sound.linked head.off id.off m in
      let no : ⊥ = cc in no) in
      relinked_sound head.off id.off
      (inserted at id.off ms) true pool.items pool.root there.0 there.1.0 none
      (λ x. among_inserted at id.off ms late.0 x)
      (once_inserted at id.off ms out (sound.once head.off)) sound
  edits_sound (InsertNew head at size kind) reply early late there may value =
      insert_new_sound head.off 0 at size kind reply there.0
      (size_is (is_size size) early.1.0) late.0 value
  edits_sound (Remove head id free) reply early late there may value =
      remove_sound head.off id.off free there.0 there.1.0
      (size_is (is_among (members_of pool.items head.off) id.off) late.1.0) late.0 late.1.1.0
  edits_sound (MoveTo head new_head at id) reply early late there may value =
      let e = either (is_among (members_of pool.items head.off) id.off)
      (is_beside_none at (taken_out id.off (members_of pool.items new_head.off))) late.0 in
      move_sound head.off new_head.off id.off at there.0 there.1.0 there.1.1.0 e.0 e.1
  edits_sound (Root size) reply early late there may value = by
      (root_grows pool size) late.0 value where
        by : (b : Bool) → (b && root_is_listed pool) ≡ false
            → MatchOption (cond b (Some size) None) (reply ≡ value_outside pool (Root size))
            (λ n. Makes n reply)
            → IsSound (all_edited (cond b (root_edits pool size (offset_in reply)) []) pool.items)
            (cond b (Some (offset_in reply)) pool.root)
        by true listed value = root_sound size reply pool.root
            (size_is (is_size size) early.1.0) listed value
        by false listed value = sound
  edits_sound op reply early late there may value = sound

  -- and what is pending has sizes
  pending_sizes : (op : Operation) (reply : Option Value)
      → NoneApplies (early_tests seen pool p op)
      → Each (λ (r : Reservation). is_size (length r.bytes) ≡ true)
      (pending_after p op (offset_in reply)).reserved
  pending_sizes (Reserve size kind) reply early = new_sizes
      (offset_in reply) kind size p.reserved (size_is (is_size size) early.1.0) sizes
  pending_sizes (WriteReserved id at bytes) reply early = put_sizes id.off at bytes p.reserved sizes
  pending_sizes Publish reply early = tt
  pending_sizes Cancel reply early = tt
  pending_sizes op reply early = sizes

  abbrev SoundLeft : Outside → Type 0
  SoundLeft left = IsSound left.pool.items left.pool.root
      × Each (λ (r : Reservation). is_size (length r.bytes) ≡ true) left.pending.reserved

  left_sound : (op : Operation) (reply : Option Value)
      → SoundLeft (done_outside op (offset_in reply) (record { pool = pool; pending = p }))
      → SoundLeft (after_reply_outside op reply (record { pool = pool; pending = p }))
  left_sound op (Some (Refused r)) done = (sound, sizes)
  left_sound op reply done = done

  refused_left : (op : Operation) (reply : Option Value) (r : Refusal)
      → reply ≡ Some (Refused r)
      → SoundLeft (after_reply_outside op reply (record { pool = pool; pending = p }))
  refused_left op reply r is = subst
      (λ (v : Option Value). SoundLeft
      (after_reply_outside op v (record { pool = pool; pending = p }))) (sym is) (sound, sizes)

  pub outside_sound : (op : Operation) (reply : Option Value)
      → RepliesOutside (record { pool = pool; pending = p })
      (record { operation = op; seen = seen; reply = reply })
      → SoundLeft (after_reply_outside op reply (record { pool = pool; pending = p }))
  outside_sound op reply replies = by
      (refusal_outside seen (record { pool = pool; pending = p }) op) refl replies.reply where
        by : (o : Option Refusal)
            → refusal_outside seen (record { pool = pool; pending = p }) op ≡ o
            → MatchOption o (IsDoneOutside (record { pool = pool; pending = p }) op seen reply)
            (λ r. IsRefused r reply)
            → SoundLeft (after_reply_outside op reply (record { pool = pool; pending = p }))
        by None is done =
            let early : List Test = early_tests seen pool p op in
            let found : List Test = found_tests seen pool (wants_named p op) in
            let late : List Test = late_tests seen pool p op in
            let no : Test → Type 0 = λ t. t.1 ≡ false in
            let none : NoneApplies (early ++ found ++ late) = none_applies
            (early ++ found ++ late) is in
            let first : NoneApplies early = each_left no early found
            (each_left no (early ++ found) late none) in
            left_sound op reply (
              edits_sound op reply first (each_right no (early ++ found) late none)
                  (each_of_all (λ (w : Want). IsSome (pool.items w.id.off))
                  (wants_named p op ++ wants_then seen pool op) done.there) done.publishes done.value,
              pending_sizes op reply first,
            )
        by (Some r) is refused = refused_left op reply r refused.replied

lanes_sized : (pending : ℕ → Pending) (lane : ℕ) (left : Pending)
    → ((k : ℕ) → HasSizes (pending k)) → HasSizes left → (k : ℕ)
    → HasSizes (with_pending pending lane left k)
lanes_sized pending lane left others own k = by (eqb k lane) where
  by : (b : Bool) → HasSizes (cond b left (pending k))
  by true = own
  by false = others k

pub call_sound : (run : CallRun) (s t : State) → CallStep s run t → IsSoundState s → IsSoundState t
call_sound run s t (inl step) sound =
    let size : Reservation → Type 0 = λ r. is_size (length r.bytes) ≡ true in
    let last : TxSound step.last = runs_sound run.operations s.pool
    (s.pending run.lane) step.last step.begins sound.pool
    (each_of_all size (s.pending run.lane).reserved (sound.pending run.lane)) step.runs in
    subst IsSoundState (sym step.leaves)
    (record {
      pool = last.items;
      pending = lanes_sized s.pending run.lane step.last.pending sound.pending
          (all_of_each size step.last.pending.reserved last.sizes);
    })
call_sound run s t (inr step) sound =
    let size : Reservation → Type 0 = λ r. is_size (length r.bytes) ≡ true in
    let left : Outside = after_outside step.ran (outside_of s run.lane) in
    let done = outside_sound s.pool (s.pending run.lane) step.ran.seen sound.pool
    (each_of_all size (s.pending run.lane).reserved
    (sound.pending run.lane)) step.ran.operation step.ran.reply step.replies in
    subst IsSoundState (sym step.leaves)
    (record {
      pool = done.0;
      pending = lanes_sized s.pending run.lane left.pending sound.pending
          (all_of_each size left.pending.reserved done.1);
    })
