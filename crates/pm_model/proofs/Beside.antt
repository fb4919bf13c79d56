-- A call outside of a transaction over other objects: where they are the same at what it touches,
-- it runs alike.
use Rattle.std.proofs.Common.{◌≡◌, ⊎_elim, ◌⊎◌, inl, inr, ℕ, List, [], ◌∷◌, ◌++◌, length, Bool, true, false, not, cond, leb, ◌&&◌, ◌||◌, Option, Some, None, IsSome, MatchOption, refl, sym, ◌∙◌, ap, subst}
use Rattle.std.specs.Option.{option_map_or}
use Rattle.std.specs.List.{flat_map, list_all}
use Rattle.std.proofs.lemmas.Bool.{false≢true}
use Rattle.pm_objects.specs.declared.calls.Dest.{Dest}
use Rattle.pm_objects.specs.declared.calls.Operation.{Operation}
use Rattle.pm_objects.specs.declared.calls.Operation.TheVariants.{Publish, AllocTo, ReallocAt, FreeAt, Remove, Root, RootSize}
use Rattle.pm_objects.specs.declared.calls.Want.{Want}
use Rattle.pm_objects.specs.declared.history.Value.{Value}
use Rattle.pm_objects.specs.declared.history.Value.TheVariants.{Offset, Refused}
use Rattle.pm_objects.specs.declared.ids.Oid.{Oid}
use Rattle.pm_objects.specs.declared.refusal.Refusal.{Refusal}
use Rattle.pm_objects.specs.declared.refusal.Refusal.TheVariants as refusal
use Rattle.pm_model.specs.Items.{Edit, Item, Items, PlainPool, all_edited, is_among, is_root}
use Rattle.pm_model.specs.Blocks.{Block, IsNewBlock, blocks_at, covers, item_covers}
use Rattle.pm_model.specs.Places.{has_place}
use Rattle.pm_model.specs.Pending.{Pending, blocks_reserved, wants_pending}
use Rattle.pm_model.specs.Refusals.{Seen, Test, first_of}
use Rattle.pm_model.specs.Inside.{IsRefused, Ran, is_refusal}
use Rattle.pm_model.specs.Outside.{AreNamedThere, IsDoneOutside, IsReplyOutside, MayPublishOutside, Outside, RepliesOutside, after_reply_outside, done_outside, early_tests, edits_of, found_tests, id_in, is_found, is_null, is_outside, late_tests, offs_freed, offset_in, refusal_outside, root_after, root_grows, size_made, target_off, target_tests, tests_outside, value_outside, want_root, want_target, wants_named, wants_then}
use Rattle.pm_model.specs.Parts.{Parts, blocks_made, blocks_outside, is_under_locks, no_parts, parts_outside, reads_root_word, writes_root_word}
use Rattle.pm_model.proofs.Lists.{Each, NoneApplies, SameTests, all_from, all_of_each, each_append, each_both, each_flat, each_left, each_map, each_of_all, each_right, each_weaker, first_none, none_applies, none_pass, same_behind, same_first, same_flat}
use Rattle.pm_model.proofs.Edits.{FitsLines, HasLines, all_edited_keeps, all_edited_lines, all_edited_mixed, apart_by, mixed, mixed_same}
use Rattle.pm_model.proofs.Fitting.{Within, WithinB, WithinT, all_free_there, free_there}
use Rattle.pm_model.proofs.BesideTests as told
use Rattle.pm_model.proofs.BesideEdits as changed

module _ (here : PlainPool) (I : Items) (R : Option ℕ) (T W B : ℕ → Bool)
    (wt : (x : ℕ) → W x ≡ true → T x ≡ true)
    (same : (x : ℕ) → T x ≡ true → I x ≡ here.items x)
    (roots : (x : ℕ) → T x ≡ true → is_root R x ≡ is_root here.root x)
    (lines : (l x : ℕ) → B l ≡ true → item_covers x (I x) l ≡ item_covers x (here.items x) l)
    (seen : Seen) (p : Pending) where
  abbrev there : PlainPool
  there = record here { items = I; root = R }

  abbrev Asked : List Want → Type 0
  Asked wants = Each (WithinT T W) wants

  -- the root word is the same where it is looked at
  abbrev RootSame : Operation → Type 0
  RootSame (Root size) = R ≡ here.root
  RootSame RootSize = R ≡ here.root
  RootSame op = Unit {0}

  id_there : (dest : Dest) → T dest.id.off ≡ true → id_in I dest ≡ id_in here.items dest
  id_there = told.id_there here I R T W B wt same roots lines seen p

  grows_there : (size : ℕ) → R ≡ here.root → Asked (want_root here true)
      → root_grows there size ≡ root_grows here size
  grows_there = told.grows_there here I R T W B wt same roots lines seen p

  pending_frees : Asked (wants_pending p) → Each (λ (id : Oid). W id.off ≡ true) p.frees
  pending_frees = told.pending_frees here I R T W B wt same roots lines seen p

  late_there : (op : Operation) → Asked (wants_named p op) → Asked (wants_then seen here op)
      → RootSame op → SameTests (late_tests seen there p op) (late_tests seen here p op)
  late_there = told.late_there here I R T W B wt same roots lines seen p

  then_there : (op : Operation) → Asked (wants_named p op) → RootSame op
      → wants_then seen there op ≡ wants_then seen here op
  then_there = told.then_there here I R T W B wt same roots lines seen p

  size_there : (op : Operation) → Asked (wants_then seen here op) → RootSame op
      → size_made there op ≡ size_made here op
  size_there = told.size_there here I R T W B wt same roots lines seen p

  value_there : (op : Operation) → Asked (wants_named p op) → Asked (wants_then seen here op)
      → RootSame op → value_outside there op ≡ value_outside here op
  value_there = told.value_there here I R T W B wt same roots lines seen p

  abbrev NamedFree : Operation → Type 0
  NamedFree (ReallocAt dest size kind) = NoneApplies (target_tests seen here dest)
  NamedFree (FreeAt dest) = NoneApplies (target_tests seen here dest)
  NamedFree op = Unit {0}

  edits_there : (op : Operation) (off : ℕ) → Asked (wants_named p op)
      → Asked (wants_then seen here op) → RootSame op → NamedFree op
      → edits_of there p op off ≡ edits_of here p op off
  edits_there = changed.edits_there here I R T W B wt same roots lines seen p

  abbrev Fit : Edit → Type 0
  Fit e = (W e.off ≡ true) × FitsLines B here.items e

  target_offs : (dest : Dest) → Asked (want_target seen here dest)
      → NoneApplies (target_tests seen here dest)
      → Each (λ (off : ℕ). W off ≡ true) (target_off here dest)
  target_offs = changed.target_offs here I R T W B wt same roots lines seen p

  -- a call that makes an object has it in its part
  abbrev Makes : ℕ → Option Value → Type 0
  Makes size reply = (off : ℕ)
      × IsNewBlock here (blocks_reserved p) (record { off = off; size = size })
      × (reply ≡ Some (Offset off))

  edits_fit : (op : Operation) (reply : Option Value) → Asked (wants_named p op)
      → Asked (wants_then seen here op) → NamedFree op
      → MayPublishOutside (record { pool = here; pending = p }) op
      → IsReplyOutside (record { pool = here; pending = p }) op reply
      → Each (WithinB W B) (blocks_made (record { pool = here; pending = p }) op reply)
      → Each (λ (off : ℕ). Each (WithinB W B) (blocks_at here.items off))
      (offs_freed here p op) → Each Fit (edits_of here p op (offset_in reply))
  edits_fit = changed.edits_fit here I R T W B wt same roots lines seen p

  -- ---- the call

  abbrev s : Outside
  s = record { pool = here; pending = p }

  abbrev s' : Outside
  s' = record { pool = there; pending = p }

  early_there : (op : Operation) → early_tests seen there p op ≡ early_tests seen here p op
  early_there (AllocTo dest size kind) = refl
  early_there op = refl

  abbrev Looks : Operation → Type 0
  Looks op = Asked (wants_named p op) × Asked (wants_then seen here op) × RootSame op

  tests_there : (op : Operation)
      → (NoneApplies (early_tests seen here p op ++ found_tests seen here (wants_named p op))
      → Looks op)
      → SameTests (tests_outside seen s' op) (tests_outside seen s op)
  tests_there op looks =
      let found : List Test = found_tests seen here (wants_named p op) in
      subst (λ (early : List Test). SameTests (early ++ found ++ late_tests seen there p op)
      (early_tests seen here p op ++ found ++ late_tests seen here p op))
      (sym (early_there op))
      (same_behind (early_tests seen here p op ++ found) (late_tests seen there p op)
      (late_tests seen here p op)
      (λ none. let l : Looks op = looks none in late_there op l.0 l.1 l.2))

  named_free : (op : Operation) → NoneApplies (late_tests seen here p op) → NamedFree op
  named_free (ReallocAt dest size kind) none = each_left (λ (t : Test). t.1 ≡ false)
      (target_tests seen here dest) ((refusal.NoSpace, leb 1 size && seen.full) ∷ []) none.1
  named_free (FreeAt dest) none = none.1
  named_free op none = tt

  offs_held : (op : Operation) → Looks op → NamedFree op
      → Each (λ (off : ℕ). W off ≡ true) (offs_freed here p op)
  offs_held Publish looks free = each_map (λ (off : ℕ). W off ≡ true)
      (λ (id : Oid). id.off) p.frees (pending_frees looks.0)
  offs_held (ReallocAt dest size kind) looks free = target_offs dest looks.1 free
  offs_held (FreeAt dest) looks free = target_offs dest looks.1 free
  offs_held (Remove head id free_too) looks free = by free_too where
    by : (b : Bool) → Each (λ (off : ℕ). W off ≡ true) (cond b (id.off ∷ []) [])
    by true = (looks.0.1.0.1 refl, tt)
    by false = tt
  offs_held (Root size) looks free = by (root_grows here size) where
    old : (root : Option ℕ)
        → Asked (option_map_or
        (λ off. record { id = record { pool = here.id; off = off }; write = true }
        ∷ []) root []) → Each (λ (off : ℕ). W off ≡ true) (option_map_or (λ off. off ∷ []) root [])
    old None asked = tt
    old (Some off) asked = (asked.0.1 refl, tt)

    by : (b : Bool) → Each (λ (off : ℕ). W off ≡ true)
        (cond b (option_map_or (λ off. off ∷ []) here.root []) [])
    by true = old here.root looks.1
    by false = tt
  offs_held op looks free = tt

  offs_there : (op : Operation) → Looks op → offs_freed there p op ≡ offs_freed here p op
  offs_there (ReallocAt dest size kind) looks = ap
      (λ (id : Oid). cond (is_null id) [] (id.off ∷ [])) (id_there dest looks.0.0.0)
  offs_there (FreeAt dest) looks = ap (λ (id : Oid). cond (is_null id) [] (id.off ∷ []))
      (id_there dest looks.0.0.0)
  offs_there (Root size) looks =
      (λ i. cond (grows_there size looks.2 looks.1 i)
      (option_map_or (λ (off : ℕ). off ∷ []) (looks.2 i) []) [])
  offs_there op looks = refl

  blocks_there : (offs : List ℕ) → Each (λ (off : ℕ). W off ≡ true) offs
      → flat_map (blocks_at I) offs ≡ flat_map (blocks_at here.items) offs
  blocks_there offs held = same_flat (blocks_at I) (blocks_at here.items) offs
      (each_weaker (λ (off : ℕ). W off ≡ true)
      (λ (off : ℕ). blocks_at I off ≡ blocks_at here.items off) offs
      (λ off w. ap (λ (o : Option Item). option_map_or
      (λ (i : Item). record { off = off; size = length i.bytes } ∷ []) o [])
      (same off (wt off w))) held)

  made_there : (op : Operation) (reply : Option Value) → Looks op
      → blocks_made s' op reply ≡ blocks_made s op reply
  made_there Publish reply looks = refl
  made_there op reply looks =
      ap (λ (o : Option ℕ). option_map_or
      (λ size. record { off = offset_in reply; size = size } ∷ []) o [])
      (size_there op looks.1 looks.2)

  all_blocks_there : (op : Operation) (reply : Option Value) → Looks op → NamedFree op
      → blocks_outside s' op reply ≡ blocks_outside s op reply
  all_blocks_there op (Some (Refused r)) looks free = refl
  all_blocks_there op reply looks free =
      (λ i. made_there op reply looks i
      ++ (ap (flat_map (blocks_at I)) (offs_there op looks)
      ∙ blocks_there (offs_freed here p op) (offs_held op looks free)) i)

  root_there : (op : Operation) (off : ℕ) → Looks op
      → (root_after there op off ≡ root_after here op off)
      ⊎ ((root_after there op off ≡ R) × (root_after here op off ≡ here.root))
  root_there (Root size) off looks = inl
      (λ i. cond (grows_there size looks.2 looks.1 i) (Some off) (looks.2 i))
  root_there op off looks = inr (refl, refl)

  root_keeps : (op : Operation) (reply : Option Value) → Asked (wants_then seen here op)
      → IsReplyOutside s op reply → Each (WithinB W B) (blocks_made s op reply)
      → (x : ℕ) → W x ≡ false
      → is_root (root_after here op (offset_in reply)) x ≡ is_root here.root x
  root_keeps (Root size) reply asked value has x out = by (root_grows here size) has where
    old : (root : Option ℕ)
        → Asked (option_map_or
        (λ off. record { id = record { pool = here.id; off = off }; write = true }
        ∷ []) root []) → false ≡ is_root root x
    old None asked = refl
    old (Some off) asked = sym (apart_by W off x (asked.0.1 refl) out)

    by : (b : Bool) → Each (WithinB W B)
        (option_map_or (λ n. record { off = offset_in reply; size = n } ∷ [])
        (cond b (Some size) None) [])
        → is_root (cond b (Some (offset_in reply)) here.root) x ≡ is_root here.root x
    by true has = apart_by W (offset_in reply) x has.0.0 out ∙ old here.root asked
    by false has = refl
  root_keeps op reply asked value has x out = refl

  done_there : (op : Operation) (reply : Option Value) → Looks op → NamedFree op
      → Each (WithinB W B) (blocks_made s op reply) → IsDoneOutside s op seen reply
      → IsDoneOutside s' op seen reply
  done_there op reply looks free has done = record {
    there =
        let wants : List Want = wants_named p op ++ wants_then seen here op in
        subst (λ (more : List Want). AreNamedThere there (wants_named p op ++ more))
        (sym (then_there op looks.0 looks.2))
        (all_of_each (λ (w : Want). IsSome (I w.id.off)) wants
        (each_both (WithinT T W) (λ (w : Want). IsSome (here.items w.id.off))
        (λ (w : Want). IsSome (I w.id.off)) wants
        (λ w t some. subst (λ (o : Option Item). IsSome o) (sym (same w.id.off t.0)) some)
        (each_append (WithinT T W) (wants_named p op) (wants_then seen here op) looks.0 looks.1)
        (each_of_all (λ (w : Want). IsSome (here.items w.id.off)) wants done.there)));
    publishes = publishes op has done.publishes;
    value = value op (size_made here op) refl has done.value;
  } where
    publishes : (o : Operation) → Each (WithinB W B) (blocks_made s o reply)
        → MayPublishOutside s o → MayPublishOutside s' o
    publishes Publish within may =
        all_free_there B here.items I lines (blocks_reserved p) []
        (each_weaker (WithinB W B) (λ (b : Block). (l : ℕ) → covers b l ≡ true → B l ≡ true)
        (blocks_reserved p) (λ b h. h.1) within) may
    publishes o within may = tt

    new_there : (size : ℕ)
        → Each (WithinB W B) (record { off = offset_in reply; size = size } ∷ [])
        → Makes size reply
        → (off : ℕ) × IsNewBlock there (blocks_reserved p) (record { off = off; size = size })
        × (reply ≡ Some (Offset off))
    new_there size within makes =
        let e : offset_in reply ≡ makes.0 = ap offset_in makes.2 in
        let within_off : (l : ℕ) → covers (record { off = makes.0; size = size }) l ≡ true
        → B l ≡ true =
        subst (λ (off : ℕ). (l : ℕ) → covers (record { off = off; size = size }) l ≡ true
        → B l ≡ true) e within.0.1 in (
          makes.0,
          record {
            place = makes.1.place;
            free = free_there B here.items I lines (blocks_reserved p)
                (record { off = makes.0; size = size }) within_off makes.1.free;
          },
          makes.2,
        )

    not_publish : (o : Operation) (size : ℕ) → size_made here o ≡ Some size
        → blocks_made s o reply ≡ record { off = offset_in reply; size = size } ∷ []
    not_publish Publish size e = absurd cc
    not_publish o size e = ap
        (λ (x : Option ℕ). option_map_or
        (λ n. record { off = offset_in reply; size = n } ∷ []) x []) e

    value : (o : Operation) (made : Option ℕ) → size_made here op ≡ made
        → Each (WithinB W B) (blocks_made s op reply) → IsReplyOutside s op reply
        → IsReplyOutside s' op reply
    value o None e within reply_is =
        subst (λ (m : Option ℕ). MatchOption m (reply ≡ value_outside there op)
        (λ size. (off : ℕ)
        × IsNewBlock there (blocks_reserved p) (record { off = off; size = size })
        × (reply ≡ Some (Offset off))))
        (sym (size_there op looks.1 looks.2 ∙ e))
        (subst (λ (m : Option ℕ). MatchOption m (reply ≡ value_outside here op)
        (λ size. Makes size reply)) e reply_is ∙ sym (value_there op looks.0 looks.1 looks.2))
    value o (Some size) e within reply_is =
        subst (λ (m : Option ℕ). MatchOption m (reply ≡ value_outside there op)
        (λ n. (off : ℕ) × IsNewBlock there (blocks_reserved p)
        (record { off = off; size = n }) × (reply ≡ Some (Offset off))))
        (sym (size_there op looks.1 looks.2 ∙ e))
        (new_there size (subst (λ (bs : List Block). Each (WithinB W B) bs)
        (not_publish op size e) within)
        (subst (λ (m : Option ℕ). MatchOption m (reply ≡ value_outside here op)
        (λ n. Makes n reply)) e reply_is))

  items_there : (op : Operation) (off : ℕ) → Looks op → NamedFree op
      → Each Fit (edits_of here p op off)
      → (done_outside op off s').pool.items ≡ mixed T I (done_outside op off s).pool.items
  items_there op off looks free fit =
      let edits : List Edit = edits_of here p op off in
      (λ i. all_edited (edits_there op off looks.0 looks.1 looks.2 free i)
      (sym (mixed_same T I here.items same) i))
      ∙ all_edited_mixed T I edits here.items
      (each_weaker Fit (λ (e : Edit). T e.off ≡ true) edits (λ e f. wt e.off f.0) fit)

  -- ---- under the locks

  unrefused_value : (op : Operation) → is_refusal (value_outside here op) ≡ false
  unrefused_value (ReallocAt dest size kind) = refl
  unrefused_value op = refl

  unrefused : (op : Operation) (reply : Option Value) (made : Option ℕ)
      → size_made here op ≡ made → IsReplyOutside s op reply → is_refusal reply ≡ false
  unrefused op reply None e value =
      ap is_refusal (subst (λ (m : Option ℕ). MatchOption m (reply ≡ value_outside here op)
      (λ n. Makes n reply)) e value) ∙ unrefused_value op
  unrefused op reply (Some size) e value =
      let makes : Makes size reply = subst
      (λ (m : Option ℕ). MatchOption m (reply ≡ value_outside here op)
      (λ n. Makes n reply)) e value in ap is_refusal makes.2

  unrefused_blocks : (from : Outside) (op : Operation) (reply : Option Value)
      → is_refusal reply ≡ false
      → blocks_outside from op reply ≡ blocks_made from op reply
      ++ flat_map (blocks_at from.pool.items) (offs_freed from.pool from.pending op)
  unrefused_blocks from op (Some (Refused r)) e = absurd (false≢true (sym e))
  unrefused_blocks from op reply e = refl

  unrefused_left : (from : Outside) (op : Operation) (reply : Option Value)
      → is_refusal reply ≡ false
      → after_reply_outside op reply from ≡ done_outside op (offset_in reply) from
  unrefused_left from op (Some (Refused r)) e = absurd (false≢true (sym e))
  unrefused_left from op reply e = refl

  found_by : (h m : Bool) → not h ≡ false → m ≡ false → (h && not m) ≡ true
  found_by true true e f = absurd (false≢true (sym f))
  found_by true false e f = refl
  found_by false m e f = absurd (false≢true (sym e))

  found_all : (wants : List Want) → NoneApplies (found_tests seen here wants)
      → list_all (is_found seen here) wants ≡ true
  found_all wants none =
      all_from (is_found seen here) wants
      (each_both (λ (w : Want). not (has_place here w.id) ≡ false)
      (λ (w : Want). is_among seen.missing w.id.off ≡ false)
      (λ (w : Want). is_found seen here w ≡ true) wants
      (λ w a b. found_by (has_place here w.id) (is_among seen.missing w.id.off) a b)
      (none_pass (λ (w : Want). not (has_place here w.id)) wants none.0)
      (none_pass (λ (w : Want). is_among seen.missing w.id.off) wants none.1.0))

  abbrev ran_so : Operation → Option Value → Ran
  ran_so op reply = record { operation = op; seen = seen; reply = reply }

  -- all of its part
  abbrev full : Outside → Operation → Option Value → Parts
  full from op reply =
      record {
        locks = wants_named from.pending op ++ wants_then seen from.pool op;
        reads_root = reads_root_word op;
        writes_root = writes_root_word op;
        blocks = blocks_outside from op reply;
      }

  under : (op : Operation) (reply : Option Value)
      → NoneApplies (early_tests seen here p op ++ found_tests seen here (wants_named p op))
      → is_under_locks s (ran_so op reply) ≡ true
  under op reply none =
      let early : List Test = early_tests seen here p op in
      let found : List Test = found_tests seen here (wants_named p op) in
      let no : Test → Type 0 = λ t. t.1 ≡ false in
      (λ i. option_map_or (λ (r : Refusal). false)
      (first_none early (each_left no early found none) i) true
      && found_all (wants_named p op) (each_right no early found none) i)

  under_there : (op : Operation) (reply : Option Value)
      → is_under_locks s' (ran_so op reply) ≡ is_under_locks s (ran_so op reply)
  under_there op reply =
      ap (λ (early : List Test). option_map_or (λ (r : Refusal). false) (first_of early) true
      && list_all (is_found seen here) (wants_named p op)) (early_there op)

  module _ (op : Operation) (reply : Option Value)
      (within : Within T W B (parts_outside s (ran_so op reply)))
      (root : ((parts_outside s (ran_so op reply)).writes_root
      || (parts_outside s (ran_so op reply)).reads_root) ≡ true → R ≡ here.root) where
    root_same : is_under_locks s (ran_so op reply) ≡ true → RootSame op
    root_same u = by op (subst
        (λ (q : Parts). (q.writes_root || q.reads_root) ≡ true → R ≡ here.root)
        (ap (λ (b : Bool). cond b (full s op reply) no_parts) u) root) where
          by : (o : Operation) → ((writes_root_word o || reads_root_word o) ≡ true → R ≡ here.root)
              → RootSame o
          by (Root size) e = e refl
          by RootSize e = e refl
          by o e = tt

    within_full : is_under_locks s (ran_so op reply) ≡ true → Within T W B (full s op reply)
    within_full u = subst (Within T W B)
        (ap (λ (b : Bool). cond b (full s op reply) no_parts) u) within

    looks_so : NoneApplies
        (early_tests seen here p op ++ found_tests seen here (wants_named p op)) → Looks op
    looks_so none =
        let u : is_under_locks s (ran_so op reply) ≡ true = under op reply none in
        let w : Within T W B (full s op reply) = within_full u in (
          each_left (WithinT T W) (wants_named p op) (wants_then seen here op) w.locks,
          each_right (WithinT T W) (wants_named p op) (wants_then seen here op) w.locks,
          root_same u,
        )

    refusal_there : refusal_outside seen s' op ≡ refusal_outside seen s op
    refusal_there = same_first (tests_outside seen s' op) (tests_outside seen s op)
        (tests_there op looks_so)

    -- what the call leaves here, and over the other objects
    abbrev left : Outside
    left = after_reply_outside op reply s

    abbrev left' : Outside
    left' = after_reply_outside op reply s'

    pub record Beside : Type 0 where
      pub replies : RepliesOutside s' (ran_so op reply)
      pub parts : parts_outside s' (ran_so op reply) ≡ parts_outside s (ran_so op reply)
      pub pool : left'.pool ≡ record there {
        items = mixed T I left.pool.items;
        root = left'.pool.root;
      }
      pub pending : left'.pending ≡ left.pending
      pub root_left : (left'.pool.root ≡ left.pool.root)
          ⊎ ((left'.pool.root ≡ R) × (left.pool.root ≡ here.root))
      pub fixed : left.pool ≡ record here { items = left.pool.items; root = left.pool.root }
      pub lines_left : HasLines B here.items left.pool.items
      pub stays : (x : ℕ) → W x ≡ false → left.pool.items x ≡ here.items x
      pub root_stays : (x : ℕ) → W x ≡ false → is_root left.pool.root x ≡ is_root here.root x
      pub root_word : (parts_outside s (ran_so op reply)).writes_root ≡ false
          → left.pool.root ≡ here.root

    parts_by : (b : Bool) → is_under_locks s (ran_so op reply) ≡ b
        → (b ≡ true → full s' op reply ≡ full s op reply)
        → cond b (full s' op reply) no_parts ≡ cond b (full s op reply) no_parts
    parts_by true e same_full = same_full refl
    parts_by false e same_full = refl

    parts_there : (is_under_locks s (ran_so op reply) ≡ true
        → full s' op reply ≡ full s op reply)
        → parts_outside s' (ran_so op reply) ≡ parts_outside s (ran_so op reply)
    parts_there same_full =
        ap (λ (b : Bool). cond b (full s' op reply) no_parts) (under_there op reply)
        ∙ parts_by (is_under_locks s (ran_so op reply)) refl same_full

    done_beside : is_outside op ≡ true → refusal_outside seen s op ≡ None
        → IsDoneOutside s op seen reply → Beside
    done_beside known is done =
        let early : List Test = early_tests seen here p op in
        let found : List Test = found_tests seen here (wants_named p op) in
        let late : List Test = late_tests seen here p op in
        let no : Test → Type 0 = λ t. t.1 ≡ false in
        let none : NoneApplies (early ++ found ++ late) = none_applies
        (early ++ found ++ late) is in
        let none_front : NoneApplies (early ++ found) = each_left no (early ++ found) late none in
        let free : NamedFree op = named_free op (each_right no (early ++ found) late none) in
        let u : is_under_locks s (ran_so op reply) ≡ true = under op reply none_front in
        let looks : Looks op = looks_so none_front in
        let plain : is_refusal reply ≡ false = unrefused op reply
        (size_made here op) refl done.value in
        let blocks : Each (WithinB W B)
        (blocks_made s op reply ++ flat_map (blocks_at here.items) (offs_freed here p op)) =
        subst (λ (bs : List Block). Each (WithinB W B) bs) (unrefused_blocks s op reply plain)
        (within_full u).blocks in
        let made = each_left (WithinB W B) (blocks_made s op reply)
        (flat_map (blocks_at here.items) (offs_freed here p op)) blocks in
        let freed = each_flat (WithinB W B) (blocks_at here.items) (offs_freed here p op)
        (each_right (WithinB W B) (blocks_made s op reply)
        (flat_map (blocks_at here.items) (offs_freed here p op)) blocks) in
        let fit : Each Fit (edits_of here p op
        (offset_in reply)) = edits_fit op reply looks.0 looks.1 free done.publishes done.value made freed in
        let edits : List Edit = edits_of here p op (offset_in reply) in
        let at : left ≡ done_outside op (offset_in reply) s = unrefused_left s op reply plain in
        let at' : left' ≡ done_outside op
        (offset_in reply) s' = unrefused_left s' op reply plain in
        let same_full : full s' op reply ≡ full s op reply =
        (λ i. record {
          locks = wants_named p op ++ then_there op looks.0 looks.2 i;
          reads_root = reads_root_word op;
          writes_root = writes_root_word op;
          blocks = all_blocks_there op reply looks free i;
        }) in
        let items : left'.pool.items ≡ mixed T I left.pool.items =
        ap (λ (l : Outside). l.pool.items) at'
        ∙ (items_there op (offset_in reply) looks free fit
        ∙ ap (λ (l : Outside). mixed T I l.pool.items) (sym at)) in
        record {
          replies = record {
            outside = known;
            reply = subst (λ (o : Option Refusal). MatchOption o (IsDoneOutside s' op seen reply)
                (λ r. IsRefused r reply)) (sym (refusal_there ∙ is))
                (done_there op reply looks free made done);
          };
          parts = parts_there (λ e. same_full);
          pool = ap (λ (l : Outside). l.pool) at'
              ∙ ((λ i. record there {
                items = (sym (ap (λ (l : Outside). l.pool.items) at')
                    ∙ items) i;
                root = root_after there op (offset_in reply);
              })
              ∙ ap (λ (r : Option ℕ). let q : PlainPool = record there { items = mixed T I left.pool.items; root = r } in q) (sym (ap (λ (l : Outside). l.pool.root) at')));
          pending = ap (λ (l : Outside). l.pending) at' ∙ sym (ap (λ (l : Outside). l.pending) at);
          root_left = ⊎_elim
              (λ (e : root_after there op (offset_in reply) ≡ root_after here op
              (offset_in reply)). inl
              (ap (λ (l : Outside). l.pool.root) at'
              ∙ (e ∙ sym (ap (λ (l : Outside). l.pool.root) at))))
              (λ (e : (root_after there op (offset_in reply) ≡ R)
              × (root_after here op (offset_in reply) ≡ here.root)). inr (
                ap (λ (l : Outside). l.pool.root) at' ∙ e.0,
                ap (λ (l : Outside). l.pool.root) at ∙ e.1,
              ))
              (root_there op (offset_in reply) looks);
          fixed = subst (λ (l : Outside). l.pool ≡ record here {
            items = l.pool.items;
            root = l.pool.root;
          }) (sym at) refl;
          lines_left = subst (λ (l : Outside). HasLines B here.items l.pool.items) (sym at)
              (all_edited_lines B here.items edits here.items
              (each_weaker Fit (FitsLines B here.items) edits (λ e f. f.1) fit)
              (λ l x out. refl));
          stays = λ x out. ap (λ (l : Outside). l.pool.items x) at
              ∙ all_edited_keeps W edits here.items x out
              (each_weaker Fit (λ (e : Edit). W e.off ≡ true) edits (λ e f. f.0) fit);
          root_stays = λ x out. ap (λ (l : Outside). is_root l.pool.root x) at
              ∙ root_keeps op reply looks.1 done.value made x out;
          root_word = λ e. ap (λ (l : Outside). l.pool.root) at
              ∙ unwritten_root op (offset_in reply)
              (ap (λ (b : Bool). (cond b (full s op reply) no_parts).writes_root) (sym u) ∙ e);
        } where
          unwritten_root : (o : Operation) (off : ℕ) → writes_root_word o ≡ false
              → root_after here o off ≡ here.root
          unwritten_root (Root size) off e = absurd (false≢true (sym e))
          unwritten_root o off e = refl

    refused_beside : is_outside op ≡ true → (r : Refusal) → refusal_outside seen s op ≡ Some r
        → IsRefused r reply → Beside
    refused_beside known r is refused =
        let at : left ≡ s = ap
        (λ (v : Option Value). after_reply_outside op v s) refused.replied in
        let at' : left' ≡ s' = ap
        (λ (v : Option Value). after_reply_outside op v s') refused.replied in
        let same_full : is_under_locks s (ran_so op reply) ≡ true
        → full s' op reply ≡ full s op reply = λ u.
        let more : wants_then seen there op ≡ wants_then seen here op = then_under u in
        (λ i. record {
          locks = wants_named p op ++ more i;
          reads_root = reads_root_word op;
          writes_root = writes_root_word op;
          blocks = (ap (blocks_outside s' op) refused.replied
              ∙ sym (ap (blocks_outside s op) refused.replied)) i;
        }) in
        record {
          replies = record {
            outside = known;
            reply = subst (λ (o : Option Refusal). MatchOption o
                (IsDoneOutside s' op seen reply) (λ q. IsRefused q reply))
                (sym (refusal_there ∙ is)) refused;
          };
          parts = parts_there same_full;
          pool = ap (λ (l : Outside). l.pool) at'
              ∙ ((λ i. record there { items = sym (mixed_same T I here.items same) i })
              ∙ (λ i. record there {
                items = mixed T I ((sym at) i).pool.items;
                root = ((sym at') i).pool.root;
              }));
          pending = ap (λ (l : Outside). l.pending) at' ∙ sym (ap (λ (l : Outside). l.pending) at);
          root_left = inr (
            ap (λ (l : Outside). l.pool.root) at',
            ap (λ (l : Outside). l.pool.root) at,
          );
          fixed = subst (λ (l : Outside). l.pool ≡ record here {
            items = l.pool.items;
            root = l.pool.root;
          }) (sym at) refl;
          lines_left = subst (λ (l : Outside). HasLines B here.items l.pool.items) (sym at)
              (λ l x out. refl);
          stays = λ x out. ap (λ (l : Outside). l.pool.items x) at;
          root_stays = λ x out. ap (λ (l : Outside). is_root l.pool.root x) at;
          root_word = λ e. ap (λ (l : Outside). l.pool.root) at;
        } where
          then_under : is_under_locks s (ran_so op reply) ≡ true
              → wants_then seen there op ≡ wants_then seen here op
          then_under u =
              let w : Within T W B (full s op reply) = within_full u in
              then_there op (each_left (WithinT T W) (wants_named p op)
              (wants_then seen here op) w.locks) (root_same u)

    pub beside : RepliesOutside s (ran_so op reply) → Beside
    beside replies = by (refusal_outside seen s op) refl replies.reply where
      by : (o : Option Refusal) → refusal_outside seen s op ≡ o
          → MatchOption o (IsDoneOutside s op seen reply) (λ r. IsRefused r reply) → Beside
      by None is done = done_beside replies.outside is done
      by (Some r) is refused = refused_beside replies.outside r is refused
