-- A call outside of a transaction over other objects changes alike, where they are the same at what it
-- touches, and its changes fit the blocks of its part.
use Rattle.std.proofs.Common.{◌≡◌, inl, inr, ℕ, List, [], ◌∷◌, ◌++◌, map, length, Bool, true, false, not, cond, eqb, ◌&&◌, Option, Some, None, MatchOption, refl, sym, ◌∙◌, ap, subst}
use Rattle.std.proofs.lemmas.List.{length-replicate}
use Rattle.std.specs.Option.{option_map_or}
use Rattle.pm_objects.specs.declared.calls.Dest.{Dest}
use Rattle.pm_objects.specs.declared.calls.Operation.{Operation}
use Rattle.pm_objects.specs.declared.calls.Operation.TheVariants.{Publish, AllocTo, ReallocAt, FreeAt, Insert, InsertNew, Remove, MoveTo, Root, RootSize}
use Rattle.pm_objects.specs.declared.calls.Want.{Want}
use Rattle.pm_objects.specs.declared.history.Value.{Value}
use Rattle.pm_objects.specs.declared.history.Value.TheVariants.{Offset}
use Rattle.pm_objects.specs.declared.ids.Oid.{Oid}
use Rattle.pm_model.specs.Items.{Edit, Item, Items, PlainPool, bytes_of, freed_item, in_list, is_among, is_root, kind_of, made_item, members_of, new_item, number_bytes, put_into, resized_item, with_members}
use Rattle.pm_model.specs.Blocks.{AreAllFree, Block, IsFree, IsNewBlock, blocks_at, covers, item_covers}
use Rattle.pm_model.specs.Places.{has_place}
use Rattle.pm_model.specs.Pending.{Pending, Reservation, SetWord, block_edits, block_of, blocks_reserved, item_reserved, set_edit, set_edits, want_to_write, wants_pending}
use Rattle.pm_model.specs.Refusals.{Seen}
use Rattle.pm_model.specs.Outside.{IsReplyOutside, MayPublishOutside, edits_of, free_target, id_edit, id_in, inserted, is_busy, is_null, item_moved, offs_freed, offset_in, root_edits, root_grows, size_made, taken_from, taken_out, target_off, target_tests, value_outside, want_root, want_target, wants_named, wants_then}
use Rattle.pm_model.specs.Parts.{blocks_made}
use Rattle.pm_model.proofs.Lists.{Each, NoneApplies, each_append, each_both, each_map, each_unmap, each_weaker}
use Rattle.pm_model.proofs.Edits.{FitsLines, freed_in_lines, list_keeps_lines, members_keep_lines, put_keeps_lines}
use Rattle.pm_model.proofs.Fitting.{WithinB, WithinT, each_free}
use Rattle.pm_model.proofs.Over.{new_lines}
use Rattle.pm_model.proofs.BesideTests.{bytes_as, resized_length}
use Rattle.pm_model.proofs.BesideTests as told

module _ (here : PlainPool) (I : Items) (R : Option ℕ) (T W B : ℕ → Bool)
    (wt : (x : ℕ) → W x ≡ true → T x ≡ true)
    (same : (x : ℕ) → T x ≡ true → I x ≡ here.items x)
    (roots : (x : ℕ) → T x ≡ true → is_root R x ≡ is_root here.root x)
    (lines : (l x : ℕ) → B l ≡ true → item_covers x (I x) l ≡ item_covers x (here.items x) l)
    (seen : Seen) (p : Pending) where
  abbrev there : PlainPool
  there = record here { items = I; root = R }

  abbrev Asked : List Want → Type 0
  Asked wants = Each (WithinT T W) wants

  -- the root word is the same where it is looked at
  abbrev RootSame : Operation → Type 0
  RootSame (Root size) = R ≡ here.root
  RootSame RootSize = R ≡ here.root
  RootSame op = Unit {0}

  id_there : (dest : Dest) → T dest.id.off ≡ true → id_in I dest ≡ id_in here.items dest
  id_there = told.id_there here I R T W B wt same roots lines seen p

  target_in : (dest : Dest) (id : Oid)
      → Asked (cond (not (is_null id)
      && (has_place here id && not (is_among seen.missing id.off))
      && not (is_busy seen dest id)) (want_to_write id ∷ []) [])
      → not (is_null id) ≡ true → (not (is_null id) && not (has_place here id)) ≡ false
      → (not (is_null id) && is_busy seen dest id) ≡ false
      → (not (is_null id) && is_among seen.missing id.off) ≡ false → W id.off ≡ true
  target_in = told.target_in here I R T W B wt same roots lines seen p

  members_at : (off : ℕ) → T off ≡ true → members_of I off ≡ members_of here.items off
  members_at = told.members_at here I R T W B wt same roots lines seen p

  bytes_there : (off : ℕ) → T off ≡ true → bytes_of I off ≡ bytes_of here.items off
  bytes_there = told.bytes_there here I R T W B wt same roots lines seen p

  grows_there : (size : ℕ) → R ≡ here.root → Asked (want_root here true)
      → root_grows there size ≡ root_grows here size
  grows_there = told.grows_there here I R T W B wt same roots lines seen p

  pending_frees : Asked (wants_pending p) → Each (λ (id : Oid). W id.off ≡ true) p.frees
  pending_frees = told.pending_frees here I R T W B wt same roots lines seen p

  pending_sets : Asked (wants_pending p) → Each (λ (a : SetWord). W a.id.off ≡ true) p.sets
  pending_sets = told.pending_sets here I R T W B wt same roots lines seen p

  -- ---- what it changes

  root_edits_by : (size off : ℕ) (root : Option ℕ)
      → Asked (option_map_or
      (λ o. record { id = record { pool = here.id; off = o }; write = true } ∷ []) root [])
      → option_map_or (λ old. freed_item old
      ∷ made_item off (resized_item (kind_of I old) size (bytes_of I old)) ∷ []) root
      (made_item off (new_item 0 size None) ∷ [])
      ≡ option_map_or (λ old. freed_item old
      ∷ made_item off (resized_item (kind_of here.items old) size
      (bytes_of here.items old)) ∷ []) root (made_item off (new_item 0 size None) ∷ [])
  unfolding bytes_as
  root_edits_by size off None asked = refl
  root_edits_by size off (Some old) asked =
      ap (λ (o : Option Item). freed_item old
      ∷ made_item off (resized_item (option_map_or (λ (i : Item). i.kind) o 0) size
      (bytes_as o)) ∷ []) (same old asked.0.0)

  null_and_bytes : (id : Oid) → (not (is_null id) ≡ true → T id.off ≡ true)
      → cond (is_null id) [] (bytes_of I id.off) ≡ cond (is_null id) []
      (bytes_of here.items id.off)
  null_and_bytes id t = by (is_null id) (λ f. bytes_there id.off (t (ap not f))) where
    by : (b : Bool) → (b ≡ false → bytes_of I id.off ≡ bytes_of here.items id.off)
        → cond b [] (bytes_of I id.off) ≡ cond b [] (bytes_of here.items id.off)
    by true same_bytes = refl
    by false same_bytes = same_bytes refl

  -- the object that a destination names is among W, where the call is done
  target_held : (dest : Dest) → Asked (want_target seen here dest)
      → NoneApplies (target_tests seen here dest)
      → not (is_null (id_in here.items dest)) ≡ true → W (id_in here.items dest).off ≡ true
  target_held dest asked none n = target_in dest
      (id_in here.items dest) asked n none.0 none.1.0 none.1.1.0

  abbrev NamedFree : Operation → Type 0
  NamedFree (ReallocAt dest size kind) = NoneApplies (target_tests seen here dest)
  NamedFree (FreeAt dest) = NoneApplies (target_tests seen here dest)
  NamedFree op = Unit {0}

  pub edits_there : (op : Operation) (off : ℕ) → Asked (wants_named p op)
      → Asked (wants_then seen here op) → RootSame op → NamedFree op
      → edits_of there p op off ≡ edits_of here p op off
  edits_there (ReallocAt dest size kind) off named more root free =
      let id : Oid = id_in here.items dest in
      let freed : Oid → List Edit = λ o. map freed_item (cond (is_null o) [] (o.off ∷ [])) in
      let moved : Oid → List ℕ → List Edit = λ o bytes.
      cond (eqb size 0) (cond (is_null o) [] (id_edit dest 0 0 ∷ freed o))
      (made_item off (resized_item kind size bytes) ∷ id_edit dest here.id off ∷ freed o) in
      ap (λ (o : Oid). moved o (cond (is_null o) [] (bytes_of I o.off))) (id_there dest named.0.0)
      ∙ ap (moved id) (null_and_bytes id (λ n. wt id.off (target_held dest more free n)))
  edits_there (FreeAt dest) off named more root free =
      ap (λ (o : Oid). cond (is_null o) []
      (id_edit dest 0 0 ∷ map freed_item (cond (is_null o) [] (o.off ∷ []))))
      (id_there dest named.0.0)
  edits_there (Insert head at id) off named more root free =
      ap (λ (ms : List ℕ). with_members head.off (inserted at id.off ms)
      ∷ in_list id.off (Some head.off) ∷ []) (members_at head.off named.0.0)
  edits_there (InsertNew head at size kind) off named more root free =
      ap (λ (ms : List ℕ). made_item off (new_item kind size None)
      ∷ with_members head.off (inserted at off ms) ∷ in_list off (Some head.off) ∷ [])
      (members_at head.off named.0.0)
  edits_there (Remove head id free_too) off named more root free =
      ap (λ (ms : List ℕ). (with_members head.off (taken_out id.off ms) ∷ in_list id.off None
      ∷ []) ++ cond free_too (freed_item id.off ∷ []) []) (members_at head.off named.0.0)
  edits_there (MoveTo head new_head at id) off named more root free =
      (λ i. (with_members head.off (taken_out id.off (members_at head.off named.0.0 i))
      ∷ in_list id.off None ∷ [])
      ++ with_members new_head.off
      (inserted at id.off (taken_out id.off (members_at new_head.off named.1.0.0 i)))
      ∷ in_list id.off (Some new_head.off) ∷ [])
  edits_there (Root size) off named more root free =
      (λ i. cond (grows_there size root more i)
      ((ap (λ (r : Option ℕ). option_map_or
      (λ old. freed_item old
      ∷ made_item off (resized_item (kind_of I old) size (bytes_of I old)) ∷ []) r
      (made_item off (new_item 0 size None) ∷ [])) root
      ∙ root_edits_by size off here.root more) i) [])
  edits_there op off named more root free = refl

  -- ---- its changes are among W, and fit the blocks of its part

  abbrev Fit : Edit → Type 0
  Fit e = (W e.off ≡ true) × FitsLines B here.items e

  made_fit : (off size : ℕ) (item : Item) → length item.bytes ≡ size
      → IsFree here.items [] (record { off = off; size = size })
      → WithinB W B (record { off = off; size = size }) → Fit (made_item off item)
  made_fit off size item long free within = (
    within.0,
    inr (new_lines here I R T W B wt same roots lines off size item long free within),
  )

  alone_free : (b : Block) → IsNewBlock here (blocks_reserved p) b → IsFree here.items [] b
  alone_free b new = record { objects = new.free.objects; others = λ l c. refl }

  freed_fit : (off : ℕ) → W off ≡ true → Each (WithinB W B) (blocks_at here.items off)
      → Fit (freed_item off)
  freed_fit off w blocks = (
    w,
    inr (freed_in_lines B here.items here.items off (λ l x out. refl)
        (each_weaker (WithinB W B) (λ (b : Block). (l : ℕ) → covers b l ≡ true → B l ≡ true)
        (blocks_at here.items off) (λ b h. h.1) blocks)),
  )

  all_freed_fit : (offs : List ℕ) → Each (λ (off : ℕ). W off ≡ true) offs
      → Each (λ (off : ℕ). Each (WithinB W B) (blocks_at here.items off)) offs
      → Each Fit (map freed_item offs)
  all_freed_fit offs ws blocks = each_map Fit freed_item offs
      (each_both (λ (off : ℕ). W off ≡ true)
      (λ (off : ℕ). Each (WithinB W B) (blocks_at here.items off))
      (λ (off : ℕ). Fit (freed_item off)) offs freed_fit ws blocks)

  put_fit : (off at : ℕ) (new : List ℕ) → W off ≡ true → Fit (put_into off at new)
  put_fit off at new w = (w, inl (put_keeps_lines off at new))

  pub target_offs : (dest : Dest) → Asked (want_target seen here dest)
      → NoneApplies (target_tests seen here dest)
      → Each (λ (off : ℕ). W off ≡ true) (target_off here dest)
  target_offs dest asked none = by (is_null (id_in here.items dest)) refl where
    by : (b : Bool) → is_null (id_in here.items dest) ≡ b
        → Each (λ (off : ℕ). W off ≡ true) (cond b [] ((id_in here.items dest).off ∷ []))
    by true e = tt
    by false e = (target_held dest asked none (ap not e), tt)

  -- a call that makes an object has it in its part
  abbrev Makes : ℕ → Option Value → Type 0
  Makes size reply = (off : ℕ)
      × IsNewBlock here (blocks_reserved p) (record { off = off; size = size })
      × (reply ≡ Some (Offset off))

  abbrev HasBlock : ℕ → Option Value → Type 0
  HasBlock size reply = Each (WithinB W B) (record { off = offset_in reply; size = size } ∷ [])

  makes_fit : (size : ℕ) (item : Item) (reply : Option Value) → length item.bytes ≡ size
      → Makes size reply → HasBlock size reply → Fit (made_item (offset_in reply) item)
  makes_fit size item reply long makes has =
      let e : offset_in reply ≡ makes.0 = ap offset_in makes.2 in
      made_fit (offset_in reply) size item long
      (subst (λ (off : ℕ). IsFree here.items [] (record { off = off; size = size })) (sym e)
      (alone_free (record { off = makes.0; size = size }) makes.1)) has.0

  reserved_fit : AreAllFree here.items [] (blocks_reserved p)
      → Each (WithinB W B) (blocks_reserved p)
      → Each Fit (map (λ (r : Reservation). made_item r.off (item_reserved r)) p.reserved)
  reserved_fit free within =
      each_map Fit (λ (r : Reservation). made_item r.off (item_reserved r)) p.reserved
      (each_both (λ (r : Reservation). IsFree here.items [] (block_of r))
      (λ (r : Reservation). WithinB W B (block_of r))
      (λ (r : Reservation). Fit (made_item r.off (item_reserved r))) p.reserved
      (λ r f w. made_fit r.off (length r.bytes) (item_reserved r) refl f w)
      (each_unmap (λ (b : Block). IsFree here.items [] b) block_of p.reserved
      (each_free here.items [] (blocks_reserved p) free))
      (each_unmap (WithinB W B) block_of p.reserved within))

  realloc_fit : (dest : Dest) (size kind : ℕ) (reply : Option Value) → W dest.id.off ≡ true
      → Each (λ (off : ℕ). W off ≡ true) (target_off here dest)
      → Each (λ (off : ℕ). Each (WithinB W B) (blocks_at here.items off)) (target_off here dest)
      → MatchOption (size_made here (ReallocAt dest size kind))
      (reply ≡ value_outside here (ReallocAt dest size kind)) (λ n. Makes n reply)
      → Each (WithinB W B) (option_map_or (λ n. record { off = offset_in reply; size = n } ∷ [])
      (size_made here (ReallocAt dest size kind)) [])
      → Each Fit (edits_of here p (ReallocAt dest size kind) (offset_in reply))
  realloc_fit dest size kind reply w ws blocks value has = by (eqb size 0) value has where
    freed : Each Fit (free_target here dest)
    freed = all_freed_fit (target_off here dest) ws blocks

    clear : (b : Bool) → Each Fit (cond b [] (id_edit dest 0 0 ∷ free_target here dest))
    clear true = tt
    clear false = (put_fit dest.id.off dest.off (number_bytes 0 ++ number_bytes 0) w, freed)

    by : (b : Bool) → MatchOption (cond b None (Some size))
        (reply ≡ value_outside here (ReallocAt dest size kind)) (λ n. Makes n reply)
        → Each (WithinB W B) (option_map_or
        (λ n. record { off = offset_in reply; size = n } ∷ []) (cond b None (Some size)) [])
        → Each Fit (cond b (cond (is_null (id_in here.items dest)) []
        (id_edit dest 0 0 ∷ free_target here dest))
        (made_item (offset_in reply) (item_moved here dest size kind)
        ∷ id_edit dest here.id (offset_in reply) ∷ free_target here dest))
    by true value has = clear (is_null (id_in here.items dest))
    by false value has = (
      makes_fit size (item_moved here dest size kind) reply
          (resized_length kind size
          (cond (is_null (id_in here.items dest)) []
          (bytes_of here.items (id_in here.items dest).off))) value has,
      (
        put_fit dest.id.off dest.off (number_bytes here.id ++ number_bytes (offset_in reply)) w,
        freed,
      ),
    )

  root_fit : (size : ℕ) (reply : Option Value) → Asked (want_root here true)
      → MatchOption (size_made here (Root size)) (reply ≡ value_outside here (Root size))
      (λ n. Makes n reply)
      → Each (WithinB W B) (option_map_or (λ n. record { off = offset_in reply; size = n } ∷ [])
      (size_made here (Root size)) [])
      → Each (λ (off : ℕ). Each (WithinB W B) (blocks_at here.items off))
      (offs_freed here p (Root size))
      → Each Fit (edits_of here p (Root size) (offset_in reply))
  root_fit size reply asked value has freed = by (root_grows here size) value has freed where
    grown : (root : Option ℕ)
        → Asked (option_map_or
        (λ off. record { id = record { pool = here.id; off = off }; write = true }
        ∷ []) root []) → Makes size reply → HasBlock size reply
        → Each (λ (off : ℕ). Each (WithinB W B) (blocks_at here.items off))
        (option_map_or (λ off. off ∷ []) root [])
        → Each Fit (option_map_or
        (λ old. freed_item old
        ∷ made_item (offset_in reply)
        (resized_item (kind_of here.items old) size (bytes_of here.items old)) ∷ []) root
        (made_item (offset_in reply) (new_item 0 size None) ∷ []))
    grown None asked makes has freed = (
      makes_fit size (new_item 0 size None) reply
          (length-replicate size 0) makes has,
      tt,
    )
    grown (Some old) asked makes has freed = (
      freed_fit old (asked.0.1 refl) freed.0,
      (
        makes_fit size (resized_item (kind_of here.items old) size
            (bytes_of here.items old)) reply
            (resized_length (kind_of here.items old) size (bytes_of here.items old)) makes has,
        tt,
      ),
    )

    by : (b : Bool) → MatchOption (cond b (Some size) None)
        (reply ≡ value_outside here (Root size)) (λ n. Makes n reply)
        → Each (WithinB W B) (option_map_or
        (λ n. record { off = offset_in reply; size = n } ∷ []) (cond b (Some size) None) [])
        → Each (λ (off : ℕ). Each (WithinB W B) (blocks_at here.items off))
        (cond b (option_map_or (λ off. off ∷ []) here.root []) [])
        → Each Fit (cond b (root_edits here size (offset_in reply)) [])
    by true value has freed = grown here.root asked value has freed
    by false value has freed = tt

  pub edits_fit : (op : Operation) (reply : Option Value) → Asked (wants_named p op)
      → Asked (wants_then seen here op) → NamedFree op
      → MayPublishOutside (record { pool = here; pending = p }) op
      → IsReplyOutside (record { pool = here; pending = p }) op reply
      → Each (WithinB W B) (blocks_made (record { pool = here; pending = p }) op reply)
      → Each (λ (off : ℕ). Each (WithinB W B) (blocks_at here.items off))
      (offs_freed here p op) → Each Fit (edits_of here p op (offset_in reply))
  edits_fit Publish reply named more free may value has freed =
      each_append Fit (block_edits p) (set_edits p.sets)
      (each_append Fit (map (λ (id : Oid). freed_item id.off) p.frees)
      (map (λ (r : Reservation). made_item r.off (item_reserved r)) p.reserved)
      (each_map Fit (λ (id : Oid). freed_item id.off) p.frees
      (each_both (λ (id : Oid). W id.off ≡ true)
      (λ (id : Oid). Each (WithinB W B) (blocks_at here.items id.off))
      (λ (id : Oid). Fit (freed_item id.off)) p.frees (λ id w bs. freed_fit id.off w bs)
      (pending_frees named)
      (each_unmap (λ (off : ℕ). Each (WithinB W B) (blocks_at here.items off))
      (λ (id : Oid). id.off) p.frees freed)))
      (reserved_fit may has))
      (each_map Fit set_edit p.sets
      (each_weaker (λ (a : SetWord). W a.id.off ≡ true)
      (λ (a : SetWord). Fit (set_edit a)) p.sets
      (λ a w. put_fit a.id.off a.off (number_bytes a.value) w) (pending_sets named)))
  edits_fit (AllocTo dest size kind) reply named more free may value has freed = (
    makes_fit size (new_item kind size None) reply (length-replicate size 0) value has,
    (
      put_fit dest.id.off dest.off (number_bytes here.id ++ number_bytes (offset_in reply))
          (named.0.1 refl),
      tt,
    ),
  )
  edits_fit (ReallocAt dest size kind) reply named more free may value has freed = realloc_fit dest size kind reply (named.0.1 refl) (target_offs dest more free) freed value has
  edits_fit (FreeAt dest) reply named more free may value has freed = by
      (is_null (id_in here.items dest)) where
        by : (b : Bool) → Each Fit (cond b [] (id_edit dest 0 0 ∷ free_target here dest))
        by true = tt
        by false = (
          put_fit dest.id.off dest.off (number_bytes 0 ++ number_bytes 0)
              (named.0.1 refl),
          all_freed_fit (target_off here dest) (target_offs dest more free) freed,
        )
  edits_fit (Insert head at id) reply named more free may value has freed = (
    (
      named.0.1 refl,
      inl (members_keep_lines head.off
          (inserted at id.off (members_of here.items head.off))),
    ),
    ((named.1.0.1 refl, inl (list_keeps_lines id.off (Some head.off))), tt),
  )
  edits_fit (InsertNew head at size kind) reply named more free may value has freed = (
    makes_fit size (new_item kind size None) reply (length-replicate size 0) value has,
    (
      (
        named.0.1 refl,
        inl (members_keep_lines head.off
            (inserted at (offset_in reply) (members_of here.items head.off))),
      ),
      ((has.0.0, inl (list_keeps_lines (offset_in reply) (Some head.off))), tt),
    ),
  )
  edits_fit (Remove head id free_too) reply named more free may value has freed =
      each_append Fit (taken_from here head.off id.off) (cond free_too (freed_item id.off ∷ []) []) (
        (
          named.0.1 refl,
          inl (members_keep_lines head.off
              (taken_out id.off (members_of here.items head.off))),
        ),
        ((named.1.0.1 refl, inl (list_keeps_lines id.off None)), tt),
      )
      (by free_too freed) where
        by : (b : Bool) → Each (λ (off : ℕ). Each (WithinB W B) (blocks_at here.items off))
            (cond b (id.off ∷ []) []) → Each Fit (cond b (freed_item id.off ∷ []) [])
        by true f = (freed_fit id.off (named.1.0.1 refl) f.0, tt)
        by false f = tt
  edits_fit (MoveTo head new_head at id) reply named more free may value has freed = (
    (
      named.0.1 refl,
      inl (members_keep_lines head.off
          (taken_out id.off (members_of here.items head.off))),
    ),
    (
      (named.1.1.0.1 refl, inl (list_keeps_lines id.off None)),
      (
        (
          named.1.0.1 refl,
          inl (members_keep_lines new_head.off
              (inserted at id.off (taken_out id.off (members_of here.items new_head.off)))),
        ),
        ((named.1.1.0.1 refl, inl (list_keeps_lines id.off (Some new_head.off))), tt),
      ),
    ),
  )
  edits_fit (Root size) reply named more free may value has freed = root_fit size reply more value has freed
  edits_fit op reply named more free may value has freed = tt
