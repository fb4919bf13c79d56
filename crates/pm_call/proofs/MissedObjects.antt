-- AN OPERATION IS REFUSED AS NoObject only where its lane saw why: an object that it names has no
-- place, or none was found under its lock, or the transaction freed it, or what is pending is late.
use Rattle.std.proofs.Common.{inl, inr, ◌≡◌, ◌⊎◌, ⊎_elim, ℕ, ◌+◌, ◌*◌, ◌≤◌, nat_lt, not, Bool, true, false, ◌&&◌, ◌||◌, Contains, List, [], ◌∷◌, ◌++◌, map, refl, sym, ap, ◌∙◌, subst, arith, Option, None, Some}
use Rattle.std.specs.List.{list_any}
use Rattle.std.proofs.lemmas.Bool.{and_from, and_parts, both_ways, cond-false, cond-true, ltb-true, not-true, or_cases, or_left, or_right}
use Rattle.std.proofs.lemmas.List.Elements.{Contains-append_left, Contains-append_right}
use Rattle.pm_image.proofs.Members.{first_member}
use Rattle.pm_layout.specs.Chunks.{chunks_of}
use Rattle.pm_layout.specs.Sizes.{blocks_of}
use Rattle.pm_layout.specs.declared.shape.Shape.{Shape}
use Rattle.pm_model.specs.Items.{is_among}
use Rattle.pm_model.specs.Outside.{found_tests, tests_outside}
use Rattle.pm_model.specs.Pending.{Pending, SetWord, want_to_write, wants_pending}
use Rattle.pm_model.specs.Places.{has_place}
use Rattle.pm_model.specs.Refusals.{Seen, Test, first_of, is_first_lock, tests}
use Rattle.pm_model.specs.Transaction.{Transaction, idle, is_gone}
use Rattle.pm_objects.specs.declared.calls.Operation.{Operation}
use Rattle.pm_objects.specs.declared.calls.Operation.TheVariants as operation
use Rattle.pm_objects.specs.declared.calls.Want.{Want}
use Rattle.pm_objects.specs.declared.history.Value.TheVariants.{Refused}
use Rattle.pm_objects.specs.declared.ids.Oid.{Oid}
use Rattle.pm_objects.specs.declared.refusal.Refusal.{Refusal}
use Rattle.pm_objects.specs.declared.refusal.Refusal.TheVariants.{NoObject, Spent}
use Rattle.pm_view.specs.Changes.{Undrained}
use Rattle.pm_view.specs.Claims.{Claim}
use Rattle.pm_view.specs.Log.{Log}
use Rattle.pm_view.specs.Places.{Block, Small, Big, Root, header}
use Rattle.pm_view.specs.Steps.{Step}
use Rattle.pm_view.specs.Steps.Step.{Tell}
use Rattle.pm_view.specs.View.{Constants, Told, View}
use Rattle.pm_view.specs.Views.{after}
use Rattle.pm_world.specs.Causes.{times_missed}
use Rattle.pm_world.specs.LaneFields.{Standing}
use Rattle.pm_world.specs.declared.lane.HeldLock.{HeldLock}
use Rattle.pm_world.proofs.ClaimCounts.{rising_missed}
use Rattle.pm_world.proofs.Includes.{made_member}
use Rattle.pm_crash.specs.Answers.{has_block, offset_by}
use Rattle.pm_crash.specs.Calls.{pending_of}
use Rattle.pm_crash.specs.Freshness.{root_told}
use Rattle.pm_crash.specs.Looked.{items_seen, pool_seen, refusal_by}
use Rattle.pm_crash.specs.Missed.{FoundNone, MissedBlock, MissedOffset, SawEmptyRun, WhyNoObject, ids_named, is_placed, lists_before}
use Rattle.pm_crash.specs.OpenRuns.{after_told, no_pool}
use Rattle.pm_crash.specs.Sim.{lists_of, tx_with}
use Rattle.pm_crash.specs.SimOutside.{outside_before}
use Rattle.pm_crash.specs.SimPublish.{IsLateRefusal, early_refusal, pending_before}
use Rattle.pm_crash.proofs.EntryFacts.{before_recorded}
use Rattle.pm_crash.proofs.NoHeapFault.{passing_member}
use Rattle.pm_lock.specs.Objects.{HasBlock, MissesAt, ToldNoRun, chunk_of_line}
use Rattle.pm_plan.specs.Notes.{Note, claim_of, noted}
use Rattle.pm_plan.proofs.Notes as notes
use Rattle.pm_call.specs.LockRefusals.{TriedLocks}
use Rattle.pm_call.specs.Outside.{IsPublishRefusal}
use Rattle.pm_call.specs.WantedTaken.{IsMissed}
use Rattle.pm_call.proofs.Frames.{noting}
use Rattle.pm_call.proofs.TriedLocks.{fixed_on}

-- ---- WHAT WAS MISSED AT A LINE was at the offset after it

-- a block with the offset begins at the line before it
begins_before : (sh : Shape) (classes : ℕ → ℕ) (line off : ℕ) → off ≡ 64 * line + 64 → (B : Block) → has_block sh classes B ≡ true → offset_by sh classes B ≡ off
    → HasBlock sh classes B × (header sh (record { first = λ c. c; class = classes }) B ≡ line)
begins_before sh classes line off at (Small c i) has is =
    let parts = and_parts (nat_lt c (chunks_of sh)) (nat_lt i (blocks_of (classes c))) has in
    let m : ℕ = classes c * i in (
      (ltb-true c (chunks_of sh) parts.0, ltb-true i (blocks_of (classes c)) parts.1),
      omega (arith, at, is),
    )
begins_before sh classes line off at (Big f) has is = (ltb-true f (chunks_of sh) has, omega (arith, at, is))
begins_before sh classes line off at Root has is = absurd (both_ways false refl has)

found_none_at : (v w : View) (line off : ℕ) → w.fixed ≡ v.fixed → off ≡ 64 * line + 64 → IsMissed v line w → FoundNone w off
found_none_at v w line off fixed at m = ⊎_elim
    (λ (missed : MissesAt v line w). inl (λ classes same B has is.
    let here = begins_before v.fixed.shape classes line off at B (subst (λ (c : Constants). has_block c.shape classes B ≡ true) fixed has) (subst (λ (c : Constants). offset_by c.shape classes B ≡ off) fixed is) in
    let found = missed classes same B here.0 here.1 in
    subst (λ (c : Constants). MissedBlock c.shape w.entries w.claims B) (sym fixed)
    (record { some = (let more = found.more in omega (arith, more)); since = found.since })))
    (λ (empty : ToldNoRun w line). inr (record {
      chunk = chunk_of_line w.fixed.shape line;
      descriptor = empty.descriptor;
      saw = empty.told;
      run = empty.run;
      empty = empty.no_lines;
    }))
    m

-- so it is where the locks of a call were tried
pub none_there : (s : Standing) (wants : List Want) (all : List HeldLock) (x : View) → TriedLocks s wants all x → (line off : ℕ) → off ≡ 64 * line + 64 → IsMissed s.view line x → FoundNone x off
none_there s wants all x tried line off at m = found_none_at s.view x line off (fixed_on s wants all x tried) at m

-- and once the lane only noted
more_missed : (sh : Shape) (B : Block) (ns : List Note) (t : List Claim) → times_missed sh B t ≤ times_missed sh B (noted ns t)
more_missed sh B [] t = omega arith
more_missed sh B (n ∷ ns) t = let few = more_missed sh B ns t in let more = rising_missed sh B (claim_of n) (noted ns t) in omega (arith, few, more)

saw_more : (ns : List Note) (t : List Claim) (e : Claim) → Contains t e → Contains (noted ns t) e
saw_more [] t e there = there
saw_more (n ∷ ns) t e there = Contains-append_right (claim_of n ∷ []) (noted ns t) e (saw_more ns t e there)

pub found_none_noted : (v : View) (ns : List Note) (changes : List Undrained) (calls : List Step) (log : Log) (off : ℕ) → FoundNone v off → FoundNone (noting v ns changes calls log) off
found_none_noted v ns changes calls log off none = ⊎_elim
    (λ (missed : MissedOffset v off). inl (λ classes same B has is.
    let found = missed classes (λ c some. same c (λ z. some (ap (λ (cl : ℕ → ℕ). cl c) (sym (notes.class_same ns v.claims)) ∙ z)) ∙ ap (λ (cl : ℕ → ℕ). cl c) (notes.class_same ns v.claims)) B has is in
    let more = more_missed v.fixed.shape B ns v.claims in
    record {
      some = (let some = found.some in omega (arith, some, more));
      since = λ e there. let few = found.since e there in omega (arith, few, more);
    }))
    (λ (empty : SawEmptyRun v.claims). inr (record {
      chunk = empty.chunk;
      descriptor = empty.descriptor;
      saw = saw_more ns v.claims _ empty.saw;
      run = empty.run;
      empty = empty.empty;
    }))
    none

-- ---- A TEST THAT APPLIES refuses as NoObject

abbrev is_no_object : Refusal → Bool
is_no_object NoObject = true
is_no_object r = false

abbrev finds_none : List Test → Bool
finds_none [] = false
finds_none (t ∷ rest) = (is_no_object t.0 && t.1) || finds_none rest

none_applies : (list : List Test) → first_of list ≡ Some NoObject → finds_none list ≡ true
unfolding first_of
none_applies [] e = absurd cc
none_applies (t ∷ rest) e = at t.1 refl (none_applies rest) where
  at : (b : Bool) → t.1 ≡ b → (first_of rest ≡ Some NoObject → finds_none rest ≡ true) → ((is_no_object t.0 && t.1) || finds_none rest) ≡ true
  at true is later = or_left (is_no_object t.0 && t.1) (finds_none rest) (and_from (is_no_object t.0) t.1
      (ap is_no_object (let q : Some t.0 ≡ Some NoObject = sym (cond-true t.1 (Some t.0) (first_of rest) is) ∙ e in ap (λ o. Rattle.std.specs.Prelude.unwrap_or o t.0) q)) is)
  at false is later = or_right (is_no_object t.0 && t.1) (finds_none rest) (later (sym (cond-false t.1 (Some t.0) (first_of rest) is) ∙ e))

-- one of three tests applies, or of two and what follows
one_of : (P : Type 0) (a b : Bool) → (a || b) ≡ true → (a ≡ true → P) → (b ≡ true → P) → P
one_of P a b e f g = ⊎_elim f g (or_cases a b e)

or_three : (P : Type 0) (a b c : Bool) → (a || b || c) ≡ true → (a ≡ true → P) → (b ≡ true → P) → (c ≡ true → P) → P
or_three P true b c e f g h = f refl
or_three P false true c e f g h = g refl
or_three P false false true e f g h = h refl
or_three P false false false e f g h = absurd (both_ways false refl e)

no_test : (P : Type 0) → false ≡ true → P
no_test P e = absurd (both_ways false refl e)

-- ---- WHY, by the tests of a transaction

module _ (seen : Seen) (tx : Transaction) where
  -- of an object that the operation names
  abbrev LacksBy : Oid → Type 0
  LacksBy id = (has_place tx.before id ≡ false) ⊎ ((is_among seen.missing id.off ≡ true) ⊎ (is_gone tx id.off ≡ true))

  abbrev Why : Operation → Type 0
  Why op = ((id : Oid) × Contains (ids_named tx.pending op) id × LacksBy id) ⊎ (tx.pending.late ≡ true)

  gone : (op : Operation) (id : Oid) → Contains (ids_named tx.pending op) id → is_gone tx id.off ≡ true → Why op
  gone op id named e = inl (id, named, inr (inr e))

  by_wants : (op : Operation) (wants : List Want) → ids_named tx.pending op ≡ map (λ (want : Want). want.id) wants
      → (list_any (λ (want : Want). not (has_place tx.before want.id)) wants || (list_any (λ (want : Want). is_first_lock tx want && is_among seen.missing want.id.off) wants || (list_any (λ (want : Want). is_gone tx want.id.off) wants || false))) ≡ true → Why op
  by_wants op wants named e =
      one_of (Why op) _ _ e
      (λ t. let m = passing_member (λ (want : Want). not (has_place tx.before want.id)) wants t in inl (m.0.id, named_so m.0 m.1.0, inl (not-true (has_place tx.before m.0.id) m.1.1)))
      (λ rest. one_of (Why op) _ _ rest
      (λ t. let m = passing_member (λ (want : Want). is_first_lock tx want && is_among seen.missing want.id.off) wants t in
      inl (m.0.id, named_so m.0 m.1.0, inr (inl (and_parts (is_first_lock tx m.0) (is_among seen.missing m.0.id.off) m.1.1).1)))
      (λ last. one_of (Why op) _ _ last
      (λ t. let m = passing_member (λ (want : Want). is_gone tx want.id.off) wants t in gone op m.0.id (named_so m.0 m.1.0) m.1.1)
      (no_test (Why op))))
    where
      named_so : (want : Want) → Contains wants want → Contains (ids_named tx.pending op) want.id
      named_so want among = subst (λ ids. Contains ids want.id) (sym named) (made_member (λ (w : Want). w.id) wants want among)

  held : (op : Operation) (id : Oid) → Contains (ids_named tx.pending op) id → (is_gone tx id.off || false) ≡ true → Why op
  held op id named e = one_of (Why op) _ _ e (gone op id named) (no_test (Why op))

  by_tests : (op : Operation) → finds_none (tests seen tx op) ≡ true → Why op
  by_tests (operation.Begin wants) e = by_wants (operation.Begin wants) wants refl e
  by_tests (operation.Lock want) e = by_wants (operation.Lock want) (want ∷ []) refl e
  by_tests (operation.AddRange id at len) e = held (operation.AddRange id at len) id (first_member id []) e
  by_tests (operation.Write id at bytes) e = held (operation.Write id at bytes) id (first_member id []) e
  by_tests (operation.Read id at len) e = held (operation.Read id at len) id (first_member id []) e
  by_tests (operation.Increment id at by) e = one_of (Why (operation.Increment id at by)) _ _ e
      (gone (operation.Increment id at by) id (first_member id [])) (held (operation.Increment id at by) id (first_member id []))
  by_tests (operation.Alloc size kind) e = no_test (Why (operation.Alloc size kind)) e
  by_tests (operation.Free id) e = held (operation.Free id) id (first_member id []) e
  by_tests operation.Publish e = one_of (Why operation.Publish) _ _ e
      (λ t. or_three (Why operation.Publish) tx.pending.late
      (list_any (λ (id : Oid). is_gone tx id.off) tx.pending.frees)
      (list_any (λ (a : SetWord). is_gone tx a.id.off) tx.pending.sets) t
      (λ late. inr late)
      (λ freed. let m = passing_member (λ (id : Oid). is_gone tx id.off) tx.pending.frees freed in
      gone operation.Publish m.0 (Contains-append_left tx.pending.frees (map (λ (a : SetWord). a.id) tx.pending.sets) m.0 m.1.0) m.1.1)
      (λ set. let m = passing_member (λ (a : SetWord). is_gone tx a.id.off) tx.pending.sets set in
      gone operation.Publish m.0.id (Contains-append_right tx.pending.frees (map (λ (a : SetWord). a.id) tx.pending.sets) m.0.id
      (made_member (λ (a : SetWord). a.id) tx.pending.sets m.0 m.1.0)) m.1.1))
      (no_test (Why operation.Publish))
  by_tests operation.Commit e = no_test (Why operation.Commit) e
  by_tests (operation.Abort errnum) e = no_test (Why (operation.Abort errnum)) e
  by_tests (operation.Reserve size kind) e = no_test (Why (operation.Reserve size kind)) e
  by_tests (operation.WriteReserved id at bytes) e = no_test (Why (operation.WriteReserved id at bytes)) e
  by_tests (operation.DeferFree id) e = no_test (Why (operation.DeferFree id)) e
  by_tests (operation.SetValue id at value) e = no_test (Why (operation.SetValue id at value)) e
  by_tests operation.Cancel e = no_test (Why operation.Cancel) e
  by_tests (operation.AllocTo dest size kind) e = no_test (Why (operation.AllocTo dest size kind)) e
  by_tests (operation.ReallocAt dest size kind) e = no_test (Why (operation.ReallocAt dest size kind)) e
  by_tests (operation.FreeAt dest) e = no_test (Why (operation.FreeAt dest)) e
  by_tests (operation.UsableSize id) e = no_test (Why (operation.UsableSize id)) e
  by_tests (operation.TypeNumber id) e = no_test (Why (operation.TypeNumber id)) e
  by_tests (operation.Insert head at id) e = no_test (Why (operation.Insert head at id)) e
  by_tests (operation.InsertNew head at size kind) e = no_test (Why (operation.InsertNew head at size kind)) e
  by_tests (operation.Remove head id free) e = no_test (Why (operation.Remove head id free)) e
  by_tests (operation.MoveTo head new_head at id) e = no_test (Why (operation.MoveTo head new_head at id)) e
  by_tests (operation.Members head) e = no_test (Why (operation.Members head)) e
  by_tests (operation.Root size) e = no_test (Why (operation.Root size)) e
  by_tests operation.RootSize e = no_test (Why operation.RootSize) e

-- THE CALL'S LANE SAW WHY, where its last operation is refused so in a transaction
module _ (v told : View) (seen : Seen) (root : Option ℕ) (op : Operation) where
  abbrev tx : Transaction
  tx = tx_with v (pool_seen v root) (items_seen v)

  pub why_recorded : told.fixed ≡ v.fixed → lists_before told ≡ lists_of v
      → ((off : ℕ) → is_among seen.missing off ≡ true → FoundNone told off) → refusal_by seen v root op ≡ Some NoObject → WhyNoObject told op
  why_recorded fixed lists missing first = ⊎_elim
      (λ (y : (id : Oid) × Contains (ids_named tx.pending op) id × LacksBy seen tx id). inl (record {
        id = y.0;
        named = subst (λ (t : Transaction). Contains (ids_named t.pending op) y.0) (sym lists) y.1;
        why = ⊎_elim
            (λ (unplaced : has_place tx.before y.0 ≡ false). inl (subst (λ (c : Constants). is_placed c.shape c.pool y.0 ≡ false) (sym fixed) unplaced))
            (λ (rest : (is_among seen.missing y.0.off ≡ true) ⊎ (is_gone tx y.0.off ≡ true)). inr (⊎_elim
            (λ (gone_ : is_among seen.missing y.0.off ≡ true). inl (missing y.0.off gone_))
            (λ (freed : is_gone tx y.0.off ≡ true). inr (subst (λ (t : Transaction). is_gone t y.0.off ≡ true) (sym lists) freed))
            rest))
            y.2;
      }))
      (λ (late : tx.pending.late ≡ true). inr (subst (λ (t : Transaction). t.pending.late ≡ true) (sym lists) late))
      (by_tests seen tx op (none_applies (tests seen tx op) first))

-- ---- A PUBLISH OUTSIDE A TRANSACTION

set_ids : (sets : List SetWord) → map (λ (want : Want). want.id) (map (λ (a : SetWord). want_to_write a.id) sets) ≡ map (λ (a : SetWord). a.id) sets
set_ids [] = refl
set_ids (a ∷ sets) = ap (λ ids. a.id ∷ ids) (set_ids sets)

pending_ids : (frees : List Oid) (sets : List SetWord) → map (λ (want : Want). want.id) (map want_to_write frees ++ map (λ (a : SetWord). want_to_write a.id) sets) ≡ frees ++ map (λ (a : SetWord). a.id) sets
pending_ids [] sets = set_ids sets
pending_ids (id ∷ frees) sets = ap (λ ids. id ∷ ids) (pending_ids frees sets)

module _ (v : View) (r : Refusal) (seen : Seen) (call : v.call ≡ []) where
  abbrev published : View
  published = after v (Tell operation.Publish (Some (Refused r)))

  abbrev p : Pending
  p = pending_of v.entries

  abbrev wants : List Want
  wants = wants_pending (pending_of v.entries)

  lists : lists_before published ≡ idle no_pool (pending_of v.entries)
  unfolding after_told
  lists = ap (λ (told : List Told). after_told told (idle no_pool (pending_of v.entries)))
      (before_recorded v.call (record { operation = operation.Publish; reply = Some (Refused r) }) ∙ call)

  module _ (missing : (off : ℕ) → is_among seen.missing off ≡ true → FoundNone v off) where
    lacks : (want : Want) → Contains wants want → (is_placed v.fixed.shape v.fixed.pool want.id ≡ false) ⊎ FoundNone v want.id.off → WhyNoObject published operation.Publish
    lacks want among why = inl (record {
      id = want.id;
      named = subst (λ (t : Transaction). Contains (ids_named t.pending operation.Publish) want.id) (sym lists)
          (subst (λ ids. Contains ids want.id) (pending_ids p.frees p.sets) (made_member (λ (w : Want). w.id) wants want among));
      why = ⊎_elim (λ (e : is_placed v.fixed.shape v.fixed.pool want.id ≡ false). inl e) (λ (none : FoundNone v want.id.off). inr (inl none)) why;
    })

    by_found : (rest : Bool) → (rest ≡ true → WhyNoObject published operation.Publish)
        → (list_any (λ (want : Want). not (has_place (pool_seen v None) want.id)) wants || (list_any (λ (want : Want). is_among seen.missing want.id.off) wants || rest)) ≡ true → WhyNoObject published operation.Publish
    by_found rest other e = one_of (WhyNoObject published operation.Publish) _ _ e
        (λ t. let m = passing_member (λ (want : Want). not (has_place (pool_seen v None) want.id)) wants t in lacks m.0 m.1.0 (inl (not-true (has_place (pool_seen v None) m.0.id) m.1.1)))
        (λ later. one_of (WhyNoObject published operation.Publish) _ _ later
        (λ t. let m = passing_member (λ (want : Want). is_among seen.missing want.id.off) wants t in lacks m.0 m.1.0 (inr (missing m.0.id.off m.1.1)))
        other)

    late_so : p.late ≡ true → WhyNoObject published operation.Publish
    late_so late = inr (subst (λ (t : Transaction). t.pending.late ≡ true) (sym lists) late)

    pub publish_recorded : r ≡ NoObject → IsPublishRefusal v seen r → WhyNoObject published operation.Publish
    publish_recorded same is = ⊎_elim
        (λ (e : early_refusal seen v ≡ Some r). by_found false (no_test (WhyNoObject published operation.Publish))
        (none_applies ((Spent, seen.spent) ∷ found_tests seen (pool_seen v None) (wants_pending (pending_before v))) (e ∙ ap (λ z. Some z) same)))
        (λ (l : IsLateRefusal v seen r). by_found (p.late || false) (λ t. one_of (WhyNoObject published operation.Publish) _ _ t late_so (no_test (WhyNoObject published operation.Publish)))
        (none_applies (tests_outside seen (outside_before v (record (pool_seen v (root_told l.value)) { items = items_seen v })) operation.Publish) (l.first ∙ ap (λ z. Some z) same)))
        is
