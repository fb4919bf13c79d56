-- LOOKS UNDER SOME LOCKS, one after another.
use Rattle.std.proofs.Common.{inl, inr, ◌≡◌, ◌⊎◌, ⊎_elim, ℕ, zero, suc, ◌+◌, ◌*◌, ◌<◌, Bool, true, false, ◌||◌, List, [], ◌∷◌, ◌++◌, length, take, get_or, refl, sym, ap, ◌∙◌, subst, arith}
use Rattle.std.proofs.lemmas.Bool.{both_ways}
use Rattle.std.proofs.lemmas.List.{append_assoc, append-nil, take_all, take_more}
use Rattle.std.specs.List.{AllByRecursion}
use Rattle.pm_layout.specs.declared.shape.Shape.{Shape}
use Rattle.pm_view.specs.Claims.{header_in, locked, making, reads}
use Rattle.pm_view.specs.Places.{Block, Small, Big, Root, header}
use Rattle.pm_view.specs.Steps.{Step}
use Rattle.pm_view.specs.View.{View}
use Rattle.pm_view.specs.Views.{after_all}
use Rattle.pm_world.specs.declared.lane.HeldLock.{HeldLock}
use Rattle.pm_layout.specs.Chunks.{line_of_chunk}
use Rattle.pm_lock.specs.Acquiring.{AreFinds, CanLookAll, FindsAll, FoundAll}
use Rattle.pm_lock.specs.Locking.{lock_at, no_lock}
use Rattle.pm_lock.specs.Objects.{CanLook, HasBlock, HasLooked, IsKnownIn, IsMissedSince, IsOfWorld, Looked, LookedAs, MissesAt, StandsAt, ToldNoRun, finds}
use Rattle.pm_lock.proofs.Stays.{stays_here, stays_on}
use Rattle.pm_lock.proofs.Waiting.{all_then}

-- ---- what a look leaves of what may be looked at, was found and was missed

pub can_still : (v u : View) (sh : Shape) (line : ℕ) → HasLooked v u → CanLook v sh line → CanLook u sh line
can_still v u sh line stays can = subst (λ y. CanLook y sh line) (sym stays.same) (record {
  shape = can.shape;
  lane = can.lane;
  chunk = can.chunk;
  held = ap (λ b. b || reads u.claims line) (stays.locked line) ∙ (ap (λ b. locked v.claims line || b) (stays.reads line) ∙ can.held);
  early = can.early;
  unmaking = λ c. subst (λ s. making s u.claims c ≡ false) can.shape (stays.making c ∙ subst (λ s. making s v.claims c ≡ false) (sym can.shape) (can.unmaking c));
})

stands_still : (v u : View) (line : ℕ) → HasLooked v u → StandsAt v line → StandsAt u line
stands_still v u line stays s = subst (λ y. StandsAt y line) (sym stays.same) (record {
  block = s.block;
  inside = s.inside;
  known = known s.block s.known;
  begins = begins s.block s.known ∙ s.begins;
  found = stays.found s.block s.found;
})
  where
    known : (B : Block) → IsKnownIn v B → IsKnownIn (record v { claims = u.claims }) B
    known (Small c i) k = λ z. k (sym (stays.class c k) ∙ z)
    known (Big f) k = tt
    known Root k = tt

    begins : (B : Block) → IsKnownIn v B → header_in v.fixed.shape u.claims B ≡ header_in v.fixed.shape v.claims B
    begins (Small c i) k = ap (λ m. line_of_chunk v.fixed.shape c + (1 + m * i)) (stays.class c k)
    begins (Big f) k = refl
    begins Root k = refl

missed_since : (v u w : View) (line : ℕ) → HasLooked v u → MissesAt u line w → MissesAt v line w
missed_since v u w line stays m classes same B has begins =
    let s = subst (λ (sh : Shape). IsMissedSince sh u.claims w B) (ap (λ (y : View). y.fixed.shape) stays.same)
    (m classes same B (subst (λ (y : View). HasBlock y.fixed.shape classes B) (sym stays.same) has) (subst (λ (y : View). header y.fixed.shape (record { first = λ c. c; class = classes }) B ≡ line) (sym stays.same) begins)) in
    record { more = (let few = stays.missed B in let more = s.more in omega (arith, few, more)); since = s.since }

all_still : (v u : View) (locks : List HeldLock) → HasLooked v u → AllByRecursion (λ (l : HeldLock). StandsAt v l.line) locks → AllByRecursion (λ (l : HeldLock). StandsAt u l.line) locks
all_still v u [] stays all = tt
all_still v u (l ∷ locks) stays all = (stands_still v u l.line stays all.0, all_still v u locks stays all.1)

all_snoc : (P : HeldLock → Type 0) (locks : List HeldLock) (l : HeldLock) → AllByRecursion P locks → P l → AllByRecursion P (locks ++ l ∷ [])
all_snoc P [] l all p = (p, tt)
all_snoc P (k ∷ locks) l all p = (all.0, all_snoc P locks l all.1 p)

finds_snoc : (sh : Shape) (locks : List HeldLock) (steps : List Step) (l : HeldLock) (d b : ℕ) → AreFinds sh locks steps → AreFinds sh (locks ++ l ∷ []) (steps ++ finds sh l.line d b)
unfolding AreFinds
finds_snoc sh [] steps l d b are = (d, b, [], (ap (λ s. s ++ finds sh l.line d b) are ∙ sym (append-nil (finds sh l.line d b))), refl)
finds_snoc sh (k ∷ locks) steps l d b are = (are.0, are.1, (are.2 ++ finds sh l.line d b), (ap (λ s. s ++ finds sh l.line d b) are.3 ∙ append_assoc (finds sh k.line are.0 are.1) are.2 (finds sh l.line d b)), finds_snoc sh locks are.2 l d b are.4)

at_index : {A : Type 0} (P : A → Type 0) (xs : List A) (d : A) (k : ℕ) → AllByRecursion P xs → k < length xs → P (get_or xs k d)
at_index P [] d k all low = absurd (omega (arith, low))
at_index P (x ∷ xs) d zero all low = all.0
at_index P (x ∷ xs) d (suc k) all low = at_index P xs d k all.1 (omega (arith, low))

-- ---- so many were found
module _ {M : Type 0} (at : M → View → Type 0) (sh : Shape) (locks : List HeldLock) (old : M) where
  abbrev pub HasFound : ℕ → M → Type 0
  HasFound k mem = (v : View) → at old v → CanLookAll v sh locks → FindsAll (at mem) v sh (take k locks)

  pub found_none : HasFound 0 old
  unfolding after_all AreFinds
  found_none v seen may = record { steps = []; looks = refl; memory = seen; stays = stays_here v; objects = tt; world = inr refl }

  module _ (k : ℕ) (mem : M) (has : HasFound k mem) (low : k < length locks) where
    pub found_next : (v : View) × at old v × CanLookAll v sh locks → (u : View) × at mem u × CanLook u sh (lock_at locks k).line
    found_next s = let h = has s.0 s.1 s.2 in (after_all s.0 h.steps, h.memory, can_still s.0 (after_all s.0 h.steps) sh (lock_at locks k).line h.stays (at_index (λ (l : HeldLock). CanLook s.0 sh l.line) locks no_lock k s.2 low))

    step : (new : M) (there : Bool) → Looked at sh (lock_at locks k).line mem new there → (v : View) → (seen : at old v) → (may : CanLookAll v sh locks) → LookedAs (at new) (after_all v (has v seen may).steps) sh (lock_at locks k).line there
    unfolding Looked
    step new there looked v seen may = let h = has v seen may in looked (after_all v h.steps) h.memory (can_still v (after_all v h.steps) sh (lock_at locks k).line h.stays (at_index (λ (l : HeldLock). CanLook v sh l.line) locks no_lock k may low))

    more : take (k + 1) locks ≡ take k locks ++ lock_at locks k ∷ []
    more = take_more locks k no_lock low

    pub found_more : (new : M) (there : Bool) → there ≡ true → Looked at sh (lock_at locks k).line mem new there → HasFound (k + 1) new
    found_more new false e looked v seen may = absurd (both_ways false refl e)
    found_more new true e looked v seen may =
        let h = has v seen may in
        let s = step new true looked v seen may in
        let u : View = after_all v h.steps in
        let f : List Step = finds sh (lock_at locks k).line s.descriptor s.bitmap in
        let join = all_then v h.steps f in
        subst (FindsAll (at new) v sh) (sym more) (record {
          steps = h.steps ++ f;
          looks = finds_snoc sh (take k locks) h.steps (lock_at locks k) s.descriptor s.bitmap h.looks;
          memory = subst (at new) (sym join) s.memory;
          stays = subst (HasLooked v) (sym join) (stays_on v u (after_all u f) h.stays s.stays);
          objects = subst (λ w. AllByRecursion (λ (l : HeldLock). StandsAt w l.line) (take k locks ++ lock_at locks k ∷ [])) (sym join)
              (all_snoc (λ (l : HeldLock). StandsAt (after_all u f) l.line) (take k locks) (lock_at locks k) (all_still u (after_all u f) (take k locks) s.stays h.objects) s.tells);
          world = inl (subst IsOfWorld (sym join) s.world);
        })

    pub found_up : (new : M) (there : Bool) → there ≡ false → Looked at sh (lock_at locks k).line mem new there → FoundAll at sh locks old new false
    unfolding FoundAll
    found_up new true e looked v seen may = absurd (both_ways true e refl)
    found_up new false e looked v seen may =
        let h = has v seen may in
        let s = step new false looked v seen may in
        let u : View = after_all v h.steps in
        let f : List Step = finds sh (lock_at locks k).line s.descriptor s.bitmap in
        let join = all_then v h.steps f in
        record {
          before = k;
          low = low;
          steps = h.steps ++ f;
          looks = subst (λ ls. AreFinds sh ls (h.steps ++ f)) (sym more) (finds_snoc sh (take k locks) h.steps (lock_at locks k) s.descriptor s.bitmap h.looks);
          memory = subst (at new) (sym join) s.memory;
          stays = subst (HasLooked v) (sym join) (stays_on v u (after_all u f) h.stays s.stays);
          misses = subst (λ w. MissesAt v (lock_at locks k).line w ⊎ ToldNoRun w (lock_at locks k).line) (sym join) (⊎_elim
              (λ (m : MissesAt u (lock_at locks k).line (after_all u f)). inl (missed_since v u (after_all u f) (lock_at locks k).line h.stays m))
              (λ (t : ToldNoRun (after_all u f) (lock_at locks k).line). inr t) s.tells);
          world = subst IsOfWorld (sym join) s.world;
        }

  pub all_found : (k : ℕ) (mem : M) → HasFound k mem → k ≡ length locks → FoundAll at sh locks old mem true
  unfolding FoundAll
  all_found k mem has up v seen may = subst (FindsAll (at mem) v sh) (take_all k locks (omega (arith, up))) (has v seen may)
