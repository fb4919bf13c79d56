-- A transaction leaves a pool sound.
use Rattle.std.proofs.Common.{◌≡◌, ⊎_elim, ◌⊎◌, inl, inr, ℕ, ◌-◌, ◌≤◌, List, [], ◌∷◌, ◌++◌, map, length, Bool, true, false, not, cond, eqb, leb, ◌||◌, Option, Some, None, MatchOption, refl, sym, ◌∙◌, ap, subst, replicate, arith}
use Rattle.std.specs.Option.{option_map_or}
use Rattle.std.specs.List.{list_any}
use Rattle.std.proofs.lemmas.Bool.{eqb-true, false≢true, false_from_ne_true, or_left, or_parts, or_right, le-leb}
use Rattle.std.proofs.lemmas.List.{length-replicate}
use Rattle.pm_objects.specs.declared.calls.Operation.{Operation}
use Rattle.pm_objects.specs.declared.calls.Operation.TheVariants.{Begin, Lock, AddRange, Write, Read, Increment, Alloc, Free, Reserve, WriteReserved, DeferFree, SetValue, Publish, Cancel, Commit, Abort}
use Rattle.pm_objects.specs.declared.history.TxErr.{TxErr}
use Rattle.pm_objects.specs.declared.history.TxErr.TheVariants as error
use Rattle.pm_objects.specs.declared.history.Value.{Value}
use Rattle.pm_objects.specs.declared.history.Value.TheVariants.{Offset, Number, Refused}
use Rattle.pm_objects.specs.declared.ids.Oid.{Oid}
use Rattle.pm_objects.specs.declared.refusal.Refusal.{Refusal}
use Rattle.pm_model.specs.Items.{Edit, Item, Items, PlainPool, all_edited, edited, freed_item, is_root, list_of, made_item, members_of, new_item, number_bytes, put_bytes, put_into}
use Rattle.pm_model.specs.Blocks.{AreAllFree, Block, IsFree, are_covered, covers, first_line, item_covers}
use Rattle.pm_model.specs.Pending.{Pending, Reservation, SetWord, block_edits, block_of, blocks_reserved, item_reserved, set_edit, set_edits}
use Rattle.pm_model.specs.Transaction.{Transaction, aborted, committed, ended, idle, is_none, is_working}
use Rattle.pm_model.specs.Refusals.{Seen, has_members, is_listed, is_member, is_size, refusal_of, tests}
use Rattle.pm_model.specs.Inside.{IsDone, IsRefused, Ran, Replies, after, after_reply, error_for, incremented, is_action, is_begin, is_kept, taken_by, value_of}
use Rattle.pm_model.specs.CallStep.{Runs, RunsOn, is_transaction}
use Rattle.pm_model.specs.Sound.{IsSound}
use Rattle.pm_model.proofs.Lists.{Each, NoneApplies, any_append, each_append, each_map, each_weaker, none_applies, none_pass}
use Rattle.pm_model.proofs.Edits.{put_length}
use Rattle.pm_model.proofs.Fitting.{covers_first}
use Rattle.pm_model.proofs.Sounds.{covers_same, freed_sound, length_in, list_in, made_sound, members_in, put_sound, same_under}

-- ---- lists of changes

pub edits_append : (xs ys : List Edit) (items : Items)
    → all_edited (xs ++ ys) items ≡ all_edited ys (all_edited xs items)
unfolding all_edited
edits_append [] ys items = refl
edits_append (e ∷ xs) ys items = edits_append xs ys (edited e items)

-- what has a line has it still, or what had it before
pub put_lines : (off at : ℕ) (new : List ℕ) (items : Items) (x l : ℕ)
    → item_covers x (edited (put_into off at new) items x) l ≡ item_covers x (items x) l
put_lines off at new items x l =
    covers_same x l (edited (put_into off at new) items x) (items x)
    (same_under length_in (λ (i : Item). record i { bytes = put_bytes at new i.bytes })
    (λ i. ap Some (put_length at new i.bytes)) (eqb off x) (items x))

pub freed_lines : (off : ℕ) (items : Items) (x l : ℕ)
    → item_covers x (edited (freed_item off) items x) l ≡ true → item_covers x (items x) l ≡ true
freed_lines off items x l = by (eqb off x) where
  by : (b : Bool) → item_covers x (cond b None (items x)) l ≡ true
      → item_covers x (items x) l ≡ true
  by true e = absurd (false≢true e)
  by false e = e

pub made_lines : (off : ℕ) (item : Item) (items : Items) (x l : ℕ)
    → item_covers x (edited (made_item off item) items x) l ≡ true
    → (covers (record { off = off; size = length item.bytes }) l ≡ true)
    ⊎ (item_covers x (items x) l ≡ true)
made_lines off item items x l = by (eqb off x) refl where
  by : (b : Bool) → eqb off x ≡ b → item_covers x (cond b (Some item) (items x)) l ≡ true
      → (covers (record { off = off; size = length item.bytes }) l ≡ true)
      ⊎ (item_covers x (items x) l ≡ true)
  by true t e = inl (ap (λ (y : ℕ). covers (record { off = y; size = length item.bytes }) l)
      (eqb-true off x t) ∙ e)
  by false f e = inr e

-- nothing stands where a free block begins
pub nothing_at : (off size : ℕ) (items : Items)
    → ((x l : ℕ) → covers (record { off = off; size = size }) l ≡ true
    → item_covers x (items x) l ≡ false) → items off ≡ None
nothing_at off size items free = by (items off) refl where
  b : Block
  b = record { off = off; size = size }

  by : (o : Option Item) → items off ≡ o → items off ≡ None
  by None is = is
  by (Some i) is =
      absurd (false≢true (sym
      (free off (first_line (record { off = off; size = size }))
      (covers_first (record { off = off; size = size })))
      ∙ (ap (λ (o : Option Item). item_covers off o
      (first_line (record { off = off; size = size }))) is
      ∙ covers_first (record { off = off; size = length i.bytes }))))

-- an object is in no list, and has no members
abbrev pub Unlisted : Items → ℕ → Type 0
Unlisted items off = (list_of items off ≡ None) × (members_of items off ≡ [])

pub no_list : (o : Option ℕ) → option_map_or (λ (head : ℕ). true) o false ≡ false → o ≡ None
no_list None e = refl
no_list (Some h) e = absurd (false≢true (sym e))

pub no_members : (ms : List ℕ) → leb 1 (length ms) ≡ false → ms ≡ []
no_members [] e = refl
no_members (m ∷ ms) e = absurd
    (let k : 1 ≤ length (m ∷ ms) = omega arith in
    let bad : leb 1 (length (m ∷ ms)) ≡ true = le-leb 1 (length (m ∷ ms)) k in
    false≢true (sym e ∙ bad))

pub unlisted : (items : Items) (off : ℕ) → is_listed items off ≡ false → Unlisted items off
unlisted items off e =
    let p = or_parts (is_member items off) (has_members items off) e in
    (no_list (list_of items off) p.0, no_members (members_of items off) p.1)

-- it is so after another is freed
still_unlisted : (other : ℕ) (items : Items) (off : ℕ) → Unlisted items off
    → Unlisted (edited (freed_item other) items) off
still_unlisted other items off none = by (eqb other off) where
  by : (b : Bool) → (list_in (cond b None (items off)) ≡ None)
      × (members_in (cond b None (items off)) ≡ [])
  by true = (refl, refl)
  by false = none

module _ (root : Option ℕ) where
  pub frees_sound : (ids : List Oid) (items : Items)
      → Each (λ (id : Oid). Unlisted items id.off) ids
      → Each (λ (id : Oid). is_root root id.off ≡ false) ids → IsSound items root
      → IsSound (all_edited (map (λ (id : Oid). freed_item id.off) ids) items) root
      × ((x l : ℕ) → item_covers x
      (all_edited (map (λ (id : Oid). freed_item id.off) ids) items x) l ≡ true
      → item_covers x (items x) l ≡ true)
  unfolding all_edited
  frees_sound [] items none kept sound = (sound, λ x l e. e)
  frees_sound (id ∷ ids) items none kept sound =
      let later = frees_sound ids (edited (freed_item id.off) items)
      (each_weaker (λ (other : Oid). Unlisted items other.off)
      (λ (other : Oid). Unlisted (edited (freed_item id.off) items) other.off) ids
      (λ other n. still_unlisted id.off items other.off n) none.1)
      kept.1 (freed_sound id.off items root none.0.0 none.0.1 kept.0 sound) in
      (later.0, λ x l e. freed_lines id.off items x l (later.1 x l e))

  abbrev Covered : Items → List Block → Items → Type 0
  Covered before made items = (x l : ℕ) → item_covers x (items x) l ≡ true
      → (item_covers x (before x) l ≡ true) ⊎ (are_covered made l ≡ true)

  -- a block that is free of the pool as it began, and of what was made, is free of the copy
  pub free_of_copy : (before items : Items) (made : List Block) (b : Block)
      → IsFree before made b → Covered before made items
      → (x l : ℕ) → covers b l ≡ true → item_covers x (items x) l ≡ false
  free_of_copy before items made b free covered x l c =
      false_from_ne_true (item_covers x (items x) l) (λ e. ⊎_elim
      (λ (old : item_covers x (before x) l ≡ true). false≢true (sym (free.objects l x c) ∙ old))
      (λ (new : are_covered made l ≡ true). false≢true (sym (free.others l c) ∙ new))
      (covered x l e))

  pub made_sound_in : (before : Items) (made : List Block) (off : ℕ) (item : Item)
      (items : Items) → item.members ≡ [] → item.list ≡ None → is_size (length item.bytes) ≡ true
      → IsFree before made (record { off = off; size = length item.bytes })
      → Covered before made items → IsSound items root
      → IsSound (edited (made_item off item) items) root
      × Covered before (record { off = off; size = length item.bytes } ∷ made)
      (edited (made_item off item) items)
  made_sound_in before made off item items alone unlisted_so size free covered sound =
      let b : Block = record { off = off; size = length item.bytes } in
      let copy : (x l : ℕ) → covers b l ≡ true
      → item_covers x (items x) l ≡ false = free_of_copy before items made b free covered in (
        made_sound off item items root
            (nothing_at off (length item.bytes) items copy) alone unlisted_so size copy sound,
        λ x l e. ⊎_elim (λ (n : covers b l ≡ true). inr
            (or_left (covers b l) (are_covered made l) n))
            (λ (o : item_covers x (items x) l ≡ true). ⊎_elim
            (λ (old : item_covers x (before x) l ≡ true). inl old)
            (λ (m : are_covered made l ≡ true). inr
            (or_right (covers b l) (are_covered made l) m)) (covered x l o))
            (made_lines off item items x l e),
      )

  pub reserved_sound : (before : Items) (rs : List Reservation) (made : List Block)
      (items : Items) → AreAllFree before made (map block_of rs)
      → Each (λ (r : Reservation). is_size (length r.bytes) ≡ true) rs
      → Covered before made items → IsSound items root
      → IsSound (all_edited
      (map (λ (r : Reservation). made_item r.off (item_reserved r)) rs) items) root
      × Covered before (map block_of rs ++ made)
      (all_edited (map (λ (r : Reservation). made_item r.off (item_reserved r)) rs) items)
  unfolding all_edited
  reserved_sound before [] made items free sizes covered sound = (sound, covered)
  reserved_sound before (r ∷ rs) made items free sizes covered sound =
      let first = made_sound_in before made r.off
      (item_reserved r) items refl refl sizes.0 free.0 covered sound in
      let later = reserved_sound before rs (block_of r ∷ made)
      (edited (made_item r.off (item_reserved r)) items) free.1 sizes.1 first.1 first.0 in (
        later.0,
        λ x l e. ⊎_elim (λ (old : item_covers x (before x) l ≡ true). inl old)
            (λ (m : are_covered (map block_of rs ++ block_of r ∷ made) l ≡ true). inr
            (moved rs r made l m)) (later.1 x l e),
      ) where
        rotate : (a b c : Bool) → (a || (b || c)) ≡ (b || (a || c))
        rotate true true c = refl
        rotate true false c = refl
        rotate false b c = refl

        moved : (qs : List Reservation) (q : Reservation) (bs : List Block) (l : ℕ)
            → are_covered (map block_of qs ++ block_of q ∷ bs) l ≡ true
            → are_covered (block_of q ∷ (map block_of qs ++ bs)) l ≡ true
        moved qs q bs l e =
            let t : Block → Bool = λ b. covers b l in
            (ap (λ (c : Bool). covers (block_of q) l || c) (any_append t (map block_of qs) bs)
            ∙ (rotate (covers (block_of q) l) (list_any t (map block_of qs)) (list_any t bs)
            ∙ sym (any_append t (map block_of qs) (block_of q ∷ bs)))) ∙ e

  pub sets_sound : (sets : List SetWord) (items : Items) → IsSound items root
      → IsSound (all_edited (set_edits sets) items) root
  unfolding all_edited
  sets_sound [] items sound = sound
  sets_sound (a ∷ sets) items sound = sets_sound sets (edited (set_edit a) items)
      (put_sound a.id.off a.off (number_bytes a.value) items root sound)

-- ---- a transaction

SizesOf : Pending → Type 0
SizesOf p = Each (λ (r : Reservation). is_size (length r.bytes) ≡ true) p.reserved

-- its copy is sound, and while it works each line of an object is one of the pool's before or of
-- what it made
pub record TxSound (tx : Transaction) : Type 0 where
  pub items : IsSound tx.items tx.before.root
  pub before : IsSound tx.before.items tx.before.root
  pub covered : is_working tx.stage ≡ true
      → Covered tx.before.root tx.before.items tx.made tx.items
  pub sizes : Each (λ (r : Reservation). is_size (length r.bytes) ≡ true) tx.pending.reserved

size_so : (b : Bool) → not b ≡ false → b ≡ true
size_so true e = refl
size_so false e = absurd (false≢true (sym e))

sound_by : (op : Operation) (tx : Transaction) (reply value : Option Value) → reply ≡ value
    → TxSound (after_reply op value tx) → TxSound (after_reply op reply tx)
sound_by op tx reply value is sound =
    subst (λ (r : Option Value). TxSound (after_reply op r tx)) (sym is) sound

written_sound : (off at : ℕ) (bytes : List ℕ) (tx : Transaction) → TxSound tx
    → TxSound (record tx { items = edited (put_into off at bytes) tx.items })
written_sound off at bytes tx sound = record {
  items = put_sound off at bytes tx.items tx.before.root sound.items;
  before = sound.before;
  covered = λ works x l e. sound.covered works x l (sym (put_lines off at bytes tx.items x l) ∙ e);
  sizes = sound.sizes;
}

aborted_sound : (e : TxErr) (tx : Transaction) → TxSound tx → TxSound (aborted e tx)
aborted_sound e tx sound = record {
  items = sound.before;
  before = sound.before;
  covered = λ works. absurd (false≢true works);
  sizes = sound.sizes;
}

ended_sound : (tx : Transaction) → is_working tx.stage ≡ true → TxSound tx
    → TxSound (ended (committed tx))
ended_sound tx works sound = by (leb tx.level 1) where
  inner : (b : Bool)
      → TxSound (record (committed tx) {
        level = tx.level - 1;
        stage = cond b Rattle.pm_model.specs.declared.stage.Stage.TheVariants.Work Rattle.pm_model.specs.declared.stage.Stage.TheVariants.OnAbort;
      })
  inner b = record {
    items = sound.items;
    before = sound.before;
    covered = λ w. sound.covered works;
    sizes = sound.sizes;
  }

  by : (b : Bool) → TxSound
      (cond b (record (idle tx.before tx.pending) {
        items = all_edited
            (set_edits tx.sets) tx.items;
      })
      (record (committed tx) {
        level = tx.level - 1;
        stage = cond (is_none tx.error) Rattle.pm_model.specs.declared.stage.Stage.TheVariants.Work Rattle.pm_model.specs.declared.stage.Stage.TheVariants.OnAbort;
      }))
  by true = record {
    items = sets_sound tx.before.root tx.sets tx.items sound.items;
    before = sound.before;
    covered = λ w. absurd (false≢true w);
    sizes = sound.sizes;
  }
  by false = inner (is_none tx.error)

allocated_sound : (off size kind : ℕ) (tx : Transaction) → is_working tx.stage ≡ true
    → is_size size ≡ true
    → IsFree tx.before.items (taken_by tx) (record { off = off; size = size }) → TxSound tx
    → TxSound (record tx {
      items = edited (made_item off (new_item kind size None)) tx.items;
      made = record { off = off; size = length (new_item kind size None).bytes } ∷ tx.made;
    })
allocated_sound off size kind tx works fits free sound =
    let long : size ≡ length (replicate size 0) = sym (length-replicate size 0) in
    let alone : IsFree tx.before.items tx.made (record { off = off; size = size }) = record {
      objects = free.objects;
      others = λ l c. (or_parts (are_covered tx.made l)
          (are_covered (blocks_reserved tx.pending) l)
          (sym (any_append (λ (b : Block). covers b l) tx.made (blocks_reserved tx.pending))
          ∙ free.others l c)).0;
    } in
    let made = made_sound_in tx.before.root tx.before.items tx.made off
    (new_item kind size None) tx.items refl refl
    (subst (λ (n : ℕ). is_size n ≡ true) long fits)
    (subst (λ (n : ℕ). IsFree tx.before.items tx.made
    (record { off = off; size = n })) long alone) (sound.covered works) sound.items in
    record { items = made.0; before = sound.before; covered = λ w. made.1; sizes = sound.sizes }

-- bytes put into what is reserved leave its size
pub put_sizes : (off at : ℕ) (bytes : List ℕ) (rs : List Reservation)
    → Each (λ (r : Reservation). is_size (length r.bytes) ≡ true) rs
    → Each (λ (r : Reservation). is_size (length r.bytes) ≡ true)
    (map (λ (r : Reservation). cond (eqb r.off off)
    (record r { bytes = put_bytes at bytes r.bytes }) r) rs)
put_sizes off at bytes rs sizes =
    each_map (λ (r : Reservation). is_size (length r.bytes) ≡ true)
    (λ (r : Reservation). cond (eqb r.off off)
    (record r { bytes = put_bytes at bytes r.bytes }) r) rs
    (each_weaker (λ (r : Reservation). is_size (length r.bytes) ≡ true)
    (λ (r : Reservation). is_size
    (length (cond (eqb r.off off)
    (record r { bytes = put_bytes at bytes r.bytes }) r).bytes) ≡ true) rs
    (λ r s. by r s (eqb r.off off)) sizes) where
      by : (r : Reservation) → is_size (length r.bytes) ≡ true → (b : Bool)
          → is_size (length (cond b
          (record r { bytes = put_bytes at bytes r.bytes }) r).bytes) ≡ true
      by r s true = ap is_size (put_length at bytes r.bytes) ∙ s
      by r s false = s

pub new_sizes : (off kind size : ℕ) (rs : List Reservation) → is_size size ≡ true
    → Each (λ (r : Reservation). is_size (length r.bytes) ≡ true) rs
    → Each (λ (r : Reservation). is_size (length r.bytes) ≡ true)
    (rs ++ record { off = off; kind = kind; bytes = replicate size 0 } ∷ [])
new_sizes off kind size rs fits sizes =
    each_append (λ (r : Reservation). is_size (length r.bytes) ≡ true) rs
    (record { off = off; kind = kind; bytes = replicate size 0 } ∷ []) sizes
    (ap is_size (length-replicate size 0) ∙ fits, tt)

sound_left : (seen : Seen) (op : Operation) (kept : Bool) (reply : Option Value)
    (tx : Transaction) → is_working tx.stage ≡ true → NoneApplies (tests seen tx op)
    → IsDone tx op kept reply
    → TxSound tx → TxSound (after_reply op reply tx)
sound_left seen (Begin wants) kept reply tx works none done sound =
    sound_by (Begin wants) tx reply None done.value
    (record {
      items = sound.items;
      before = sound.before;
      covered = λ w. sound.covered works;
      sizes = sound.sizes;
    })
sound_left seen (Lock want) kept reply tx works none done sound =
    sound_by (Lock want) tx reply None done.value
    (record {
      items = sound.items;
      before = sound.before;
      covered = sound.covered;
      sizes = sound.sizes;
    })
sound_left seen (AddRange id at len) kept reply tx works none done sound =
    sound_by (AddRange id at len) tx reply None done.value
    (record {
      items = sound.items;
      before = sound.before;
      covered = sound.covered;
      sizes = sound.sizes;
    })
sound_left seen (Write id at bytes) kept reply tx works none done sound =
    sound_by (Write id at bytes) tx reply None done.value (written_sound id.off at bytes tx sound)
sound_left seen (Increment id at by) kept reply tx works none done sound =
    let n : ℕ = incremented tx id.off at by in
    sound_by (Increment id at by) tx reply (Some (Number n)) done.value
    (written_sound id.off at (number_bytes n) tx sound)
sound_left seen (Read id at len) kept reply tx works none done sound =
    sound_by (Read id at len) tx reply (value_of tx (Read id at len)) done.value sound
sound_left seen (Alloc size kind) kept reply tx works none done sound =
    sound_by (Alloc size kind) tx reply (Some (Offset done.value.0)) done.value.2
    (allocated_sound done.value.0 size kind tx works
    (size_so (is_size size) none.1.1.0) done.value.1.1 sound)
sound_left seen (Free id) kept reply tx works none done sound =
    let alone : Unlisted tx.items id.off = unlisted tx.items id.off none.1.1.1.1.1.0 in
    sound_by (Free id) tx reply None done.value (record {
      items = freed_sound id.off tx.items tx.before.root alone.0 alone.1 none.1.1.1.1.0 sound.items;
      before = sound.before;
      covered = λ w x l e. sound.covered works x l (freed_lines id.off tx.items x l e);
      sizes = sound.sizes;
    })
sound_left seen Publish kept reply tx works none done sound =
    let root : Option ℕ = tx.before.root in
    let frees : List Edit = map (λ (id : Oid). freed_item id.off) tx.pending.frees in
    let makes : List Edit = map
    (λ (r : Reservation). made_item r.off (item_reserved r)) tx.pending.reserved in
    let freed = frees_sound root tx.pending.frees tx.items
    (each_weaker (λ (id : Oid). is_listed tx.items id.off ≡ false)
    (λ (id : Oid). Unlisted tx.items id.off) tx.pending.frees
    (λ id e. unlisted tx.items id.off e)
    (none_pass (λ (id : Oid). is_listed tx.items id.off) tx.pending.frees none.1.1.1.1.1.0))
    (none_pass (λ (id : Oid). is_root root id.off) tx.pending.frees none.1.1.1.1.0) sound.items in
    let made = reserved_sound root tx.before.items tx.pending.reserved tx.made
    (all_edited frees tx.items) done.publishes sound.sizes
    (λ x l e. sound.covered works x l (freed.1 x l e)) freed.0 in
    let at : all_edited makes (all_edited frees tx.items) ≡ all_edited
    (block_edits tx.pending) tx.items = sym (edits_append frees makes tx.items) in
    sound_by Publish tx reply None done.value (record {
      items = subst (λ (i : Items). IsSound i root) at made.0;
      before = sound.before;
      covered = λ w. subst (λ (i : Items). Covered root tx.before.items
          (blocks_reserved tx.pending ++ tx.made) i) at made.1;
      sizes = tt;
    })
sound_left seen Commit kept reply tx works none done sound =
    sound_by Commit tx reply None done.value (ended_sound tx works sound)
sound_left seen (Abort errnum) kept reply tx works none done sound =
    sound_by (Abort errnum) tx reply None done.value (aborted_sound (error_for errnum) tx sound)
sound_left seen (Reserve size kind) kept reply tx works none done sound =
    sound_by (Reserve size kind) tx reply (Some (Offset done.value.0)) done.value.2 (record {
      items = sound.items;
      before = sound.before;
      covered = sound.covered;
      sizes = new_sizes done.value.0 kind size tx.pending.reserved
          (size_so (is_size size) none.0) sound.sizes;
    })
sound_left seen (WriteReserved id at bytes) kept reply tx works none done sound =
    sound_by (WriteReserved id at bytes) tx reply None done.value
    (record {
      items = sound.items;
      before = sound.before;
      covered = sound.covered;
      sizes = put_sizes id.off at bytes tx.pending.reserved sound.sizes;
    })
sound_left seen (DeferFree id) kept reply tx works none done sound =
    sound_by (DeferFree id) tx reply None done.value
    (record {
      items = sound.items;
      before = sound.before;
      covered = sound.covered;
      sizes = sound.sizes;
    })
sound_left seen (SetValue id at value) kept reply tx works none done sound =
    sound_by (SetValue id at value) tx reply None done.value
    (record {
      items = sound.items;
      before = sound.before;
      covered = sound.covered;
      sizes = sound.sizes;
    })
sound_left seen Cancel kept reply tx works none done sound =
    sound_by Cancel tx reply None done.value
    (record {
      items = sound.items;
      before = sound.before;
      covered = sound.covered;
      sizes = tt;
    })
sound_left seen op kept reply tx works none done sound = sound_by op tx reply None done.value sound

sound_refused : (op : Operation) (r : Refusal) (tx : Transaction) → TxSound tx
    → TxSound (after_reply op (Some (Refused r)) tx)
sound_refused op r tx sound = by (is_action op) where
  by : (b : Bool) → TxSound (cond b tx (aborted (error.Refused r) tx))
  by true = sound
  by false = aborted_sound (error.Refused r) tx sound

step_sound : (ran : Ran) (kept : Bool) (tx : Transaction) → is_working tx.stage ≡ true
    → Replies tx ran kept → TxSound tx → TxSound (after ran tx)
step_sound ran kept tx works replies sound =
    by (refusal_of ran.seen tx ran.operation) refl replies.reply where
      by : (o : Option Refusal) → refusal_of ran.seen tx ran.operation ≡ o
          → MatchOption o (IsDone tx ran.operation kept ran.reply) (λ r. IsRefused r ran.reply)
          → TxSound (after ran tx)
      by None is done = sound_left ran.seen ran.operation kept ran.reply tx works
          (none_applies (tests ran.seen tx ran.operation) is) done sound
      by (Some r) is refused = sound_by ran.operation tx ran.reply (Some (Refused r)) refused.replied
          (sound_refused ran.operation r tx sound)

pub run_sound : (rest : List Ran) (tx last : Transaction) → TxSound tx → RunsOn tx rest last
    → TxSound last
unfolding RunsOn
run_sound [] tx last sound runs = subst TxSound (sym runs) sound
run_sound (ran ∷ rest) tx last sound runs = run_sound rest (after ran tx) last
    (step_sound ran (is_kept rest) tx runs.0 runs.1 sound) runs.2

-- from its begin on
first_sound : (pool : PlainPool) (pending : Pending) (op : Operation) (seen : Seen)
    (reply : Option Value) (kept : Bool) → is_begin op ≡ true → IsSound pool.items pool.root
    → SizesOf pending
    → Replies (idle pool pending) (record { operation = op; seen = seen; reply = reply }) kept
    → TxSound (after_reply op reply (idle pool pending))
unfolding SizesOf
first_sound pool pending (Begin wants) seen reply kept begins sound sizes replies =
    by (refusal_of seen (idle pool pending) (Begin wants)) replies.reply where
      by : (o : Option Refusal)
          → MatchOption o (IsDone (idle pool pending) (Begin wants) kept reply)
          (λ r. IsRefused r reply) → TxSound (after_reply (Begin wants) reply (idle pool pending))
      by None done = sound_by (Begin wants) (idle pool pending) reply None done.value
          (record { items = sound; before = sound; covered = λ w x l e. inl e; sizes = sizes })
      by (Some r) refused =
          sound_by (Begin wants) (idle pool pending) reply (Some (Refused r)) refused.replied
          (record {
            items = sound;
            before = sound;
            covered = λ w. absurd (false≢true w);
            sizes = sizes;
          })
first_sound pool pending op seen reply kept begins sound sizes replies = absurd (false≢true begins)

pub runs_sound : (operations : List Ran) (pool : PlainPool) (pending : Pending)
    (last : Transaction) → is_transaction operations ≡ true → IsSound pool.items pool.root
    → Each (λ (r : Reservation). is_size (length r.bytes) ≡ true) pending.reserved
    → Runs (idle pool pending) operations last → TxSound last
unfolding Runs SizesOf
runs_sound [] pool pending last begins sound sizes runs = absurd runs
runs_sound (ran ∷ rest) pool pending last begins sound sizes runs =
    run_sound rest (after ran (idle pool pending)) last
    (first_sound pool pending ran.operation ran.seen ran.reply
    (is_kept rest) begins sound sizes runs.0) runs.1
