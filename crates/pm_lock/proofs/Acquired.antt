-- THE OBJECTS THAT A CALL WANTS are locked and found.
use Rattle.std.proofs.Common.{inl, inr, ◌≡◌, ⊎_elim, ℕ, ◌-◌, ◌/◌, ◌<◌, ◌≤◌, Bool, true, false, List, [], ◌∷◌, length, Option, None, Some, Result, Ok, Err, refl, sym, ap, ◌∙◌, subst, arith}
use Rattle.std.specs.List.{AllByRecursion}
use Rattle.std.proofs.lemmas.Bool.{both_ways, cases_Bool, false_from_ne_true, or_left, or_right}
use Rattle.pm_layout.specs.declared.shape.Shape.{Shape}
use Rattle.pm_layout.specs.Chunks.{page_of_zone, words_of}
use Rattle.pm_memory.specs.declared.lane_mem.Stopped.{Stopped}
use Rattle.pm_objects.specs.declared.calls.Want.{Want}
use Rattle.pm_objects.specs.declared.ids.Oid.{Oid}
use Rattle.pm_objects.specs.declared.refusal.Refusal.{Refusal}
use Rattle.pm_objects.specs.declared.refusal.Refusal.TheVariants as refusal
use Rattle.pm_view.specs.Claims.{Claim, Took, holds, locked, making, reads}
use Rattle.pm_view.specs.Steps.{Step}
use Rattle.pm_view.specs.View.{View}
use Rattle.pm_view.specs.Views.{after_all}
use Rattle.pm_world.specs.Lawful.{MayTake}
use Rattle.pm_world.specs.declared.lane.HeldLock.{HeldLock}
use Rattle.pm_world.specs.declared.lane.Lane.{Lane}
use Rattle.pm_lock.specs.Acquiring.{Acquired, ArePlanned, CanAcquire, CanLookAll, FoundAll, FoundAs, MayLockWanted, MayWant, TriedObjects, lacks_place, to_take}
use Rattle.pm_lock.specs.Holding.{IsHeldAs, IsTaken, MayTakeAll, Rises, took}
use Rattle.pm_lock.specs.Locking.{AllLocked, AllTried, AllTriedAs, HasGrown, lock_of}
use Rattle.pm_lock.specs.Objects.{CanLook, is_chunk_line, line_of}
use Rattle.pm_lock.specs.Plans.{planned}
use Rattle.pm_lock.specs.Steps.{AreWaits, tries}
use Rattle.pm_lock.specs.Wants.{PlannedAll, is_listed, planned_all, planned_for, planned_unless, wanted}
use Rattle.pm_lock.proofs.CanBegin.{has_header}
use Rattle.pm_lock.proofs.Holds.{taken_holds, tries_taken, waits_taken}
use Rattle.pm_lock.proofs.Looks.{chunk_line}
use Rattle.pm_lock.proofs.Planned.{all_planned, planned_rises}

-- ---- of each lock that is wanted

module _ (sh : Shape) (pool : ℕ) (listed : ℕ → Bool) where
  module _ (P : HeldLock → Type 0) (each : (id : Oid) (line : ℕ) (w : Bool) → line_of sh pool id ≡ Some line → listed line ≡ false → P (lock_of line w)) where
    for_all : (id : Oid) (l : Option ℕ) (w : Bool) (plan : List HeldLock) → line_of sh pool id ≡ l → AllByRecursion P plan → AllByRecursion P (planned_for listed l w plan)
    for_all id None w plan is all = all
    for_all id (Some line) w plan is all = at (listed line) refl where
      at : (b : Bool) → listed line ≡ b → AllByRecursion P (planned_unless b line w plan)
      at true e = all
      at false e = all_planned P line w plan (λ b. each id line b is e) all

    pub wanted_all : (wants : List Want) (plan : List HeldLock) → AllByRecursion P plan → AllByRecursion P (planned_all sh pool listed wants plan)
    unfolding planned_all
    wanted_all [] plan all = all
    wanted_all (want ∷ wants) plan all = wanted_all wants (planned_for listed (line_of sh pool want.id) want.write plan) (for_all want.id (line_of sh pool want.id) want.write plan refl all)

  for_rises : (l : Option ℕ) (w : Bool) (plan : List HeldLock) → Rises plan → Rises (planned_for listed l w plan)
  for_rises None w plan r = r
  for_rises (Some line) w plan r = at (listed line) where
    at : (b : Bool) → Rises (planned_unless b line w plan)
    at true = r
    at false = planned_rises line w plan r

  pub wanted_rises : (wants : List Want) (plan : List HeldLock) → Rises plan → Rises (planned_all sh pool listed wants plan)
  unfolding planned_all
  wanted_rises [] plan r = r
  wanted_rises (want ∷ wants) plan r = wanted_rises wants (planned_for listed (line_of sh pool want.id) want.write plan) (for_rises (line_of sh pool want.id) want.write plan r)

pub line_inside : (sh : Shape) (line : ℕ) → is_chunk_line sh line ≡ true → line < words_of sh / 8
line_inside sh line e = let p = chunk_line sh line e in by (Rattle.pm_lock.specs.Objects.chunk_of_line sh line) p.0 p.1
  where
    by : (c : ℕ) → c < Rattle.pm_layout.specs.Chunks.chunks_of sh → Rattle.pm_layout.specs.Chunks.page_of_chunk sh c ≡ line / 64 → line < words_of sh / 8
    by c low page = omega arith

all_both : (P Q R : HeldLock → Type 0) (locks : List HeldLock) → ((l : HeldLock) → P l → Q l → R l) → AllByRecursion P locks → AllByRecursion Q locks → AllByRecursion R locks
all_both P Q R [] join p q = tt
all_both P Q R (l ∷ locks) join p q = (join l p.0 q.0, all_both P Q R locks join p.1 q.1)

took_making : (sh : Shape) (locks : List HeldLock) (t : List Claim) (c : ℕ) → making sh (took locks t) c ≡ making sh t c
took_making sh [] t c = refl
took_making sh (l ∷ locks) t c = took_making sh locks (Took l.line l.write ∷ t) c

pub held_as : (t : List Claim) (l : HeldLock) → IsHeldAs t l → holds t l.line ≡ true
held_as t l is = ⊎_elim (λ (w : l.write ≡ true). or_left (locked t l.line) (reads t l.line) (is.0 w)) (λ (r : l.write ≡ false). or_right (locked t l.line) (reads t l.line) (is.1 r)) (cases_Bool l.write)

-- FROM THE VIEW ALONE
module _ (v : View) (sh : Shape) (pool : ℕ) (locks : List HeldLock) (new : List ℕ) (wants : List Want) (can : MayWant v sh locks new) where
  abbrev plan : List HeldLock
  plan = wanted sh pool locks new wants

  takes_wanted : MayTakeAll v plan
  takes_wanted = record {
    rises = wanted_rises sh pool (is_listed locks new) wants [] tt;
    each = wanted_all sh pool (is_listed locks new) (λ (l : HeldLock). MayTake v l.line)
        (λ id line w is free. record {
          inside = subst (λ s. line < words_of s / 8) (sym can.shape) (line_inside sh line (has_header sh pool line id is).chunk);
          free = false_from_ne_true (holds v.claims line) (λ h. both_ways (is_listed locks new line) free (can.listed line h));
          early = can.early;
        }) wants [] tt;
  }

  looks_wanted : (u : View) → IsTaken v plan u → CanLookAll u sh plan
  looks_wanted u taken = all_both (λ (l : HeldLock). is_chunk_line sh l.line ≡ true) (IsHeldAs u.claims) (λ (l : HeldLock). CanLook u sh l.line) plan
      (λ l chunk held. subst (λ y. CanLook y sh l.line) (sym taken) (record {
        shape = can.shape;
        lane = can.area;
        chunk = chunk;
        held = ap (λ (y : View). holds y.claims l.line) (sym taken) ∙ held_as u.claims l held;
        early = can.early;
        unmaking = λ c. took_making sh plan v.claims c ∙ can.unmaking c;
      }))
      (wanted_all sh pool (is_listed locks new) (λ (l : HeldLock). is_chunk_line sh l.line ≡ true) (λ id line w is free. (has_header sh pool line id is).chunk) wants [] tt)
      (taken_holds v u plan taken)

  pub may_lock_wanted : MayLockWanted v sh (wanted sh pool locks new wants)
  may_lock_wanted = record { takes = takes_wanted; looks = looks_wanted }

module _ {M : Type 0} (at : M → View → Type 0) (old : Lane M) (new : List ℕ) (wants : List Want) where
  module _ (v : View) (can : CanAcquire at old new v) where
    pub may_take : MayTakeAll v (to_take old new wants)
    may_take = (may_lock_wanted v old.shape old.pool old.locks.items new wants can.may).takes

    pub may_look : (u : View) → IsTaken v (to_take old new wants) u → CanLookAll u old.shape (to_take old new wants)
    may_look = (may_lock_wanted v old.shape old.pool old.locks.items new wants can.may).looks

  -- ---- by what was planned
  pub planned_at : (locks planned : List HeldLock) (result : Result (Unit {0}) Refusal) → locks ≡ old.locks.items → PlannedAll (wanted old.shape old.pool locks new wants) (lacks_place old wants) (64 - length locks) planned result
      → PlannedAll (to_take old new wants) (lacks_place old wants) (64 - length old.locks.items) planned result
  planned_at locks planned result e p = subst (λ (ls : List HeldLock). PlannedAll (wanted old.shape old.pool ls new wants) (lacks_place old wants) (64 - length ls) planned result) e p

  pub refused_first : (planned : List HeldLock) (r : Refusal) → length old.locks.items ≤ 64 → PlannedAll (to_take old new wants) (lacks_place old wants) (64 - length old.locks.items) planned (Err r) → Acquired at new wants old old (Err r)
  unfolding PlannedAll Acquired
  refused_first planned refusal.LocksFull few p v can = ((let many = p in omega (arith, few, many)), refl)
  refused_first planned refusal.NoObject few p v can = inl ((let most = p.0 in omega (arith, few, most)), p.1, refl)
  refused_first planned r few p v can = absurd p

  pub refused_here : (planned : List HeldLock) (r : Refusal) → length old.locks.items ≤ 64 → PlannedAll (to_take old new wants) (lacks_place old wants) (64 - length old.locks.items) planned (Err r) → TriedObjects at new wants old old (Err r)
  unfolding PlannedAll TriedObjects
  refused_here planned refusal.LocksFull few p v can = ((let many = p in omega (arith, few, many)), refl)
  refused_here planned refusal.NoObject few p v can = inl ((let most = p.0 in omega (arith, few, most)), p.1, refl)
  refused_here planned r few p v can = absurd p

  pub planned_so : (planned : List HeldLock) → length old.locks.items ≤ 64 → PlannedAll (to_take old new wants) (lacks_place old wants) (64 - length old.locks.items) planned (Ok tt) → (planned ≡ to_take old new wants) × (length (to_take old new wants) ≤ 64 - length old.locks.items) × ArePlanned (to_take old new wants) wants old
  unfolding PlannedAll
  planned_so planned few p = (p.0, p.1, record { few = (let most = p.1 in omega (arith, few, most)); placed = p.2 })

  module _ (placed : ArePlanned (to_take old new wants) wants old) (mid : Lane M) where
    pub stopped_so : (stopped : Stopped) → AllLocked at (to_take old new wants) old mid (Err stopped) → Acquired at new wants old mid (Err refusal.Stopped)
    unfolding AllLocked Acquired
    stopped_so stopped locked v can = (placed, (stopped, locked v can.memory (may_take v can)))

    module _ (locked : AllLocked at (to_take old new wants) old mid (Ok tt)) where
      taken : (v : View) → CanAcquire at old new v → ((steps : List Step) × AreWaits (to_take old new wants) steps × at mid.memory (after_all v steps)) × HasGrown (to_take old new wants) old mid
      unfolding AllLocked
      taken v can = locked v can.memory (may_take v can)

      shape_kept : (v : View) → CanAcquire at old new v → mid.shape ≡ old.shape
      shape_kept v can = ap (λ (l : Lane M). l.shape) (taken v can).1.0

      pub looks_next : (v : View) × CanAcquire at old new v → (u : View) × at mid.memory u × CanLookAll u mid.shape (to_take old new wants)
      looks_next s = let t = taken s.0 s.1 in let steps : List Step = t.0.0 in
          (after_all s.0 steps, t.0.2, subst (λ sh. CanLookAll (after_all s.0 steps) sh (to_take old new wants)) (sym (shape_kept s.0 s.1)) (may_look s.0 s.1 (after_all s.0 steps) (waits_taken s.0 (to_take old new wants) steps t.0.1)))

      module _ (memory : M) where
        grown : (v : View) → CanAcquire at old new v → HasGrown (to_take old new wants) old (record mid { memory = memory })
        grown v can = let g = (taken v can).1 in (ap (λ (l : Lane M). record l { memory = memory }) g.0, g.1)

        found_in : (all : Bool) → FoundAll at mid.shape (to_take old new wants) mid.memory memory all → (v : View) → (can : CanAcquire at old new v) → FoundAs (at memory) (after_all v (taken v can).0.0) old.shape (to_take old new wants) all
        unfolding FoundAll
        found_in all found v can = let t = taken v can in let steps : List Step = t.0.0 in let e = shape_kept v can in
            subst (λ sh. FoundAs (at memory) (after_all v steps) sh (to_take old new wants) all) e
            (found (after_all v steps) t.0.2 (subst (λ sh. CanLookAll (after_all v steps) sh (to_take old new wants)) (sym e) (may_look v can (after_all v steps) (waits_taken v (to_take old new wants) steps t.0.1))))

        pub all_there : (all : Bool) → all ≡ true → FoundAll at mid.shape (to_take old new wants) mid.memory memory all → Acquired at new wants old (record mid { memory = memory }) (Ok tt)
        unfolding Acquired
        all_there false e found v can = absurd (both_ways false refl e)
        all_there true e found v can = let t = taken v can in (placed, (t.0.0, t.0.1, found_in true found v can), grown v can)

        pub one_missing : (all : Bool) → all ≡ false → FoundAll at mid.shape (to_take old new wants) mid.memory memory all → Acquired at new wants old (record mid { memory = memory }) (Err refusal.NoObject)
        unfolding Acquired
        one_missing true e found v can = absurd (both_ways true e refl)
        one_missing false e found v can = let t = taken v can in inr (placed, (t.0.0, t.0.1, found_in false found v can), grown v can)

    -- ---- each at one try
    pub busy_so : (won : Bool) → won ≡ false → AllTried at (to_take old new wants) old mid won → TriedObjects at new wants old mid (Err refusal.Busy)
    unfolding AllTried TriedObjects
    busy_so true e tried v can = absurd (both_ways true e refl)
    busy_so false e tried v can = (placed, tried v can.memory (may_take v can))

    module _ (won : Bool) (yes : won ≡ true) (tried : AllTried at (to_take old new wants) old mid won) where
      got : (v : View) → CanAcquire at old new v → at mid.memory (after_all v (tries (to_take old new wants))) × HasGrown (to_take old new wants) old mid
      unfolding AllTried
      got v can = by won yes (tried v can.memory (may_take v can)) where
        by : (b : Bool) → b ≡ true → AllTriedAs at (to_take old new wants) v old mid b → at mid.memory (after_all v (tries (to_take old new wants))) × HasGrown (to_take old new wants) old mid
        by true e t = t
        by false e t = absurd (both_ways false refl e)

      pub looks_then : (v : View) × CanAcquire at old new v → (u : View) × at mid.memory u × CanLookAll u mid.shape (to_take old new wants)
      looks_then s = let t = got s.0 s.1 in let u : View = after_all s.0 (tries (to_take old new wants)) in
          (u, t.0, subst (λ sh. CanLookAll u sh (to_take old new wants)) (sym (ap (λ (l : Lane M). l.shape) t.1.0)) (may_look s.0 s.1 u (tries_taken s.0 (to_take old new wants))))

      module _ (memory : M) where
        found_then : (all : Bool) → FoundAll at mid.shape (to_take old new wants) mid.memory memory all → (v : View) → CanAcquire at old new v → FoundAs (at memory) (after_all v (tries (to_take old new wants))) old.shape (to_take old new wants) all
        unfolding FoundAll
        found_then all found v can = let t = got v can in let u : View = after_all v (tries (to_take old new wants)) in let e : mid.shape ≡ old.shape = ap (λ (l : Lane M). l.shape) t.1.0 in
            subst (λ sh. FoundAs (at memory) u sh (to_take old new wants) all) e
            (found u t.0 (subst (λ sh. CanLookAll u sh (to_take old new wants)) (sym e) (may_look v can u (tries_taken v (to_take old new wants)))))

        grown_then : (v : View) → CanAcquire at old new v → HasGrown (to_take old new wants) old (record mid { memory = memory })
        grown_then v can = let g = (got v can).1 in (ap (λ (l : Lane M). record l { memory = memory }) g.0, g.1)

        pub all_got : (all : Bool) → all ≡ true → FoundAll at mid.shape (to_take old new wants) mid.memory memory all → TriedObjects at new wants old (record mid { memory = memory }) (Ok tt)
        unfolding TriedObjects
        all_got false e found v can = absurd (both_ways false refl e)
        all_got true e found v can = (placed, found_then true found v can, grown_then v can)

        pub none_got : (all : Bool) → all ≡ false → FoundAll at mid.shape (to_take old new wants) mid.memory memory all → TriedObjects at new wants old (record mid { memory = memory }) (Err refusal.NoObject)
        unfolding TriedObjects
        none_got true e found v can = absurd (both_ways true e refl)
        none_got false e found v can = inr (placed, found_then false found v can, grown_then v can)
