-- A LANE THAT TOOK LOCKS, looked under them and raised some has a view that is as it was but for
-- its claims and for what the tries told; it has and knows what it did, and holds the longer list
-- of locks, and no other.
use Rattle.std.specs.Prelude.{filter, map}
use Rattle.std.proofs.Common.{◌≡◌, ⊎_elim, inr, ◌⊎◌, ℕ, Bool, true, false, ◌||◌, Contains, List, [], ◌∷◌, ◌++◌, refl, sym, ap, ◌∙◌, subst}
use Rattle.std.specs.List.{AllByRecursion}
use Rattle.std.proofs.lemmas.Bool.{both_ways, or_left}
use Rattle.std.proofs.lemmas.List.Elements.{Contains-append_right}
use Rattle.pm_objects.specs.declared.calls.Want.{Want}
use Rattle.pm_view.specs.Claims.{Claim, Raised, holds, pictured}
use Rattle.pm_view.specs.Log.{is_early}
use Rattle.pm_view.specs.Places.{Small, Big, Root, word_of}
use Rattle.pm_view.specs.Steps.{Step}
use Rattle.pm_view.specs.Steps.Step.{Raise}
use Rattle.pm_view.specs.View.{View}
use Rattle.pm_view.specs.Views.{after, after_all}
use Rattle.pm_world.specs.InWorld.{IsSound, SizesFit}
use Rattle.pm_world.specs.LaneFields.{Standing}
use Rattle.pm_world.specs.Sights.{picture}
use Rattle.pm_world.specs.declared.lane.HeldLock.{HeldLock}
use Rattle.pm_layout.specs.declared.shape.Shape.{Shape}
use Rattle.pm_crash.proofs.StepKnows as known
use Rattle.pm_lock.specs.Acquiring.{AreFinds, MayWant}
use Rattle.pm_lock.specs.Held.{HoldsEach}
use Rattle.pm_lock.specs.Holding.{took}
use Rattle.pm_lock.specs.Objects.{CanLook, HasLooked, IsOfWorld, StandsAt, is_chunk_line}
use Rattle.pm_lock.specs.Raising.{is_raised, raises, rose}
use Rattle.pm_lock.specs.Wants.{is_listed}
use Rattle.pm_lock.proofs.Acquired.{may_lock_wanted}
use Rattle.pm_lock.proofs.HeldLocks.{held_are_raised, held_grow, held_stay}
use Rattle.pm_lock.proofs.KeptBlocks.{raised_keep, taken_keep}
use Rattle.pm_lock.proofs.RaisedClaims.{are_raised}
use Rattle.pm_call.specs.At.{IsAtWith}
use Rattle.pm_call.specs.Locking.{CanLock, CanLockWith, LanesAtWorkMayLock, LocksMayBeWanted, TakesLocks, locks_with, to_take, to_write}
use Rattle.pm_call.proofs.HeldLines.{has_filter, has_left, has_lock, has_raised, has_right, holds_rose, holds_taken, listed_has}
use Rattle.pm_call.proofs.KeptByLooks.{keeps_looked}
use Rattle.pm_call.proofs.KeptClaims.{IsFree, KeepsAll, claiming, keeps_more, keeps_rose, keeps_taken}
use Rattle.pm_call.proofs.KeptGrows.{KeepsPictures, SeesInside, locking, pictures_on}
use Rattle.pm_call.proofs.LockLists.{chunk_high}
use Rattle.pm_call.proofs.Noting.{all_map}
use Rattle.pm_call.proofs.WorldFacts.{world_inside, world_sizes}

pub all_with : {A : Type 0} (P Q R : A → Type 0) (xs : List A) → ((x : A) → P x → Q x → R x) → AllByRecursion P xs → AllByRecursion Q xs → AllByRecursion R xs
all_with P Q R [] f a b = tt
all_with P Q R (x ∷ xs) f a b = (f x a.0 b.0, all_with P Q R xs f a.1 b.1)

pub locks_may_be_wanted : LocksMayBeWanted
locks_may_be_wanted s at = record { shape = refl; area = at.working.lane; early = ap is_early at.working.is_open; unmaking = at.working.unmaking; listed = at.holds.only }

-- a lane at work may lock
pub work_may_lock : (s : Standing) (level : ℕ) (all : List HeldLock) → IsAtWith s level all → CanLockWith s all
work_may_lock s level all at = record {
  working = at.working;
  unbumped = at.unbumped;
  sound = at.sound;
  sizes = at.sizes;
  sealed = at.sealed;
  number = at.number;
  held = at.held;
  holds = at.holds;
  own = at.own;
  room = at.room;
  recorded = at.recorded;
  lists = record { locks = at.lists.locks; count = at.lists.count; recorded = at.lists.recorded; records = at.lists.records; blocks = at.lists.blocks; pending = at.lists.pending; sets = at.lists.sets; may_set = at.lists.may_set; error_is = at.lists.error_is };
  pending = at.pending;
  sim = at.sim;
  facts = at.facts;
  tells = inr at.lists.works;
}

pub can_lock : LanesAtWorkMayLock
can_lock s at = work_may_lock s s.level s.locks at

-- what was seen, was seen
pub seen_raises : (locks : List HeldLock) (v : View) (n : Step) → Contains v.seen n → Contains (after_all v (map (λ (l : HeldLock). Raise l.line true) locks)).seen n
unfolding after_all
seen_raises [] v n there = there
seen_raises (l ∷ locks) v n there = seen_raises locks (after v (Raise l.line true)) n (Contains-append_right (Raise l.line true ∷ []) v.seen n there)

-- the fields of a view but its claims say nothing of what is kept
pub keeps_seen : (v : View) (seen : List Step) (t t' : List Claim) → KeepsAll (locking v t seen) t' → KeepsAll (claiming v t) t'
keeps_seen v seen t t' k = record {
  holds_on = k.holds_on;
  making_same = k.making_same;
  mine_same = k.mine_same;
  found_on = k.found_on;
  span_same = k.span_same;
  class_same = k.class_same;
  data_same = k.data_same;
  beside = k.beside;
  root_same = k.root_same;
  roots_on = k.roots_on;
}

-- ---- THE VIEW THEN
pub record IsTakenView (s : Standing) (wants : List Want) (x : View) : Type 0 where
  pub claims : List Claim
  pub seen : List Step
  pub same : x ≡ locking s.view claims seen
  pub keeps : KeepsAll s.view claims
  pub saw : (n : Step) → Contains s.view.seen n → Contains seen n
  pub each : HoldsEach x (locks_with s wants)
  pub stands : AllByRecursion (λ (l : HeldLock). StandsAt x l.line) (to_take s wants)
  pub only : (line : ℕ) → holds claims line ≡ true → is_listed (locks_with s wants) [] line ≡ true
  pub sound : IsSound x
  pub sizes : SizesFit x
  pub pictures : KeepsPictures s.view claims

-- ---- sizes fit whatever tries told, and so they do once locks are raised
pub sizes_seen : (v : View) (seen : List Step) → SizesFit v → SizesFit (locking v v.claims seen)
sizes_seen v seen f (Small c i) n = f (Small c i) n
sizes_seen v seen f (Big g) n = f (Big g) n
sizes_seen v seen f Root n = f Root n

raised_fits : (v : View) (m : ℕ) → SizesFit v → SizesFit (record v { claims = Raised m ∷ v.claims })
raised_fits v m f (Small c i) n = f (Small c i) n
raised_fits v m f (Big g) n = f (Big g) n
raised_fits v m f Root n = f Root n

pub rose_fits : (v : View) (locks : List HeldLock) → SizesFit v → SizesFit (record v { claims = rose locks v.claims })
rose_fits v [] f = sizes_seen v v.seen f
rose_fits v (l ∷ locks) f = rose_fits (record v { claims = Raised l.line ∷ v.claims }) locks (raised_fits v l.line f)

pub rose_word : (sh : Shape) (locks : List HeldLock) (t : List Claim) (u : ℕ) → pictured sh (rose locks t) u ≡ pictured sh t u
rose_word sh [] t u = refl
rose_word sh (l ∷ locks) t u = rose_word sh locks (Raised l.line ∷ t) u

-- ---- nothing is taken
pub after_none : (v : View) → after_all v [] ≡ v
unfolding after_all
after_none v = refl

pub no_finds : (sh : Shape) (looks : List Step) → AreFinds sh [] looks → looks ≡ []
unfolding AreFinds
no_finds sh looks f = f

module _ (s : Standing) (wants : List Want) (x : View) (at : CanLock s) (tk : TakesLocks s wants x) where
  abbrev v : View
  v = s.view

  abbrev plan : List HeldLock
  plan = to_take s wants

  abbrev all : List HeldLock
  all = s.locks ++ to_take s wants

  abbrev up : List HeldLock
  up = filter (is_raised (to_write s wants)) (s.locks ++ to_take s wants)

  may : MayWant s.view s.view.fixed.shape s.locks []
  may = locks_may_be_wanted s at

  lines : AllByRecursion (λ (l : HeldLock). is_chunk_line s.view.fixed.shape l.line ≡ true) (to_take s wants)
  lines = all_map (λ (l : HeldLock). CanLook tk.taken s.view.fixed.shape l.line) (λ (l : HeldLock). is_chunk_line s.view.fixed.shape l.line ≡ true) plan (λ l c. c.chunk)
      ((may_lock_wanted v v.fixed.shape v.fixed.pool s.locks [] wants may).looks tk.taken tk.takes)

  free : AllByRecursion (IsFree s.view.claims) (to_take s wants)
  free = all_with (λ (l : HeldLock). Rattle.pm_world.specs.Lawful.MayTake s.view l.line) (λ (l : HeldLock). is_chunk_line s.view.fixed.shape l.line ≡ true) (IsFree s.view.claims) plan
      (λ l m c. ((λ z. both_ways (is_chunk_line v.fixed.shape l.line) (no_line z) c), m.free)) (may_lock_wanted v v.fixed.shape v.fixed.pool s.locks [] wants may).takes.each lines
    where
      no_line : {line : ℕ} → line ≡ 0 → is_chunk_line v.fixed.shape line ≡ false
      no_line {line} z = Rattle.std.proofs.lemmas.Bool.false_from_ne_true (is_chunk_line v.fixed.shape line) (λ c. let high = chunk_high v.fixed.shape line c in omega (Rattle.std.proofs.Common.arith, z, high))

  abbrev first : List Claim
  first = took (to_take s wants) s.view.claims

  abbrev under : View
  under = locking s.view first tk.taken.seen

  looked_here : (t : List Claim) × (after_all under tk.looks ≡ claiming under t) × KeepsAll under t
  looked_here = keeps_looked under plan tk.looks at.working.lane (ap is_early at.working.is_open) lines tk.finds (subst (λ (y : View). HasLooked y (after_all y tk.looks)) tk.takes tk.stays)

  abbrev found_view : View
  found_view = locking s.view looked_here.0 tk.taken.seen

  found_is : after_all tk.taken tk.looks ≡ found_view
  found_is = ap (λ (y : View). after_all y tk.looks) tk.takes ∙ looked_here.1

  abbrev last_claims : List Claim
  last_claims = rose up looked_here.0

  abbrev last_seen : List Step
  last_seen = (after_all found_view (raises (to_write s wants) all)).seen

  last_is : x ≡ locking s.view last_claims last_seen
  last_is = tk.raises_ ∙ (ap (λ (y : View). after_all y (raises (to_write s wants) all)) found_is ∙ (are_raised (to_write s wants) found_view all).same)

  keeps_found : KeepsAll s.view looked_here.0
  keeps_found = keeps_more v first looked_here.0 (keeps_taken v plan (may_lock_wanted v v.fixed.shape v.fixed.pool s.locks [] wants may).takes.rises free) (keeps_seen v tk.taken.seen first looked_here.0 looked_here.2)

  keeps_last : KeepsAll s.view last_claims
  keeps_last = keeps_more v looked_here.0 last_claims keeps_found (keeps_rose (claiming v looked_here.0) up)

  saw_last : (n : Step) → Contains s.view.seen n → Contains last_seen n
  saw_last n there = seen_raises up found_view n (tk.told n there)

  each_last : HoldsEach x (locks_with s wants)
  each_last = subst (λ (y : View). HoldsEach y (locks_with s wants)) (sym tk.raises_)
      (held_are_raised (after_all tk.taken tk.looks) (to_write s wants) all (held_stay tk.taken (after_all tk.taken tk.looks) all tk.stays (held_grow v tk.taken v.fixed.shape v.fixed.pool s.locks [] wants may at.holds.each tk.takes)))

  stands_last : AllByRecursion (λ (l : HeldLock). StandsAt x l.line) (to_take s wants)
  stands_last = all_map (λ (l : HeldLock). StandsAt (after_all tk.taken tk.looks) l.line) (λ (l : HeldLock). StandsAt x l.line) plan
      (λ l o. subst (λ (y : View). StandsAt y l.line) (sym tk.raises_) ((raised_keep (after_all tk.taken tk.looks) (to_write s wants) all).stands l.line o)) tk.objects

  looked_locks : (line : ℕ) → holds looked_here.0 line ≡ holds first line
  looked_locks line = let stays : HasLooked under (claiming under looked_here.0) = subst (HasLooked under) looked_here.1 (subst (λ (y : View). HasLooked y (after_all y tk.looks)) tk.takes tk.stays) in
      (λ i. stays.locked line i || stays.reads line i)

  only_last : (line : ℕ) → holds last_claims line ≡ true → is_listed (locks_with s wants) [] line ≡ true
  only_last line e = or_left (has_lock (locks_with s wants) line) false (has_raised (to_write s wants) all line ∙ ⊎_elim
      (λ (q : holds looked_here.0 line ≡ true). ⊎_elim
      (λ (r : holds s.view.claims line ≡ true). has_left s.locks plan line (listed_has s.locks line (at.holds.only line r)))
      (λ (r : has_lock plan line ≡ true). has_right s.locks plan line r)
      (holds_taken plan s.view.claims line (sym (looked_locks line) ∙ q)))
      (λ (q : has_lock up line ≡ true). has_filter (is_raised (to_write s wants)) all line q)
      (holds_rose up looked_here.0 line e))

  -- ---- once it looked: where nothing was taken it claims nothing
  none_found : to_take s wants ≡ [] → looked_here.0 ≡ s.view.claims
  none_found e =
      let looks_none : tk.looks ≡ [] = no_finds s.view.fixed.shape tk.looks (subst (λ P. AreFinds s.view.fixed.shape P tk.looks) e tk.finds) in
      ap (λ (y : View). y.claims) (sym looked_here.1 ∙ (ap (after_all under) looks_none ∙ after_none under)) ∙ ap (λ P. took P s.view.claims) e

  sound_found : IsSound (after_all tk.taken tk.looks)
  sound_found = tk.stays.sound ((taken_keep s.view tk.taken plan tk.takes).sound at.sound)

  fits_found : SizesFit found_view
  fits_found = ⊎_elim
      (λ (w : IsOfWorld (after_all tk.taken tk.looks)). subst SizesFit found_is (world_sizes (after_all tk.taken tk.looks) w.word w.value w.there))
      (λ (e : to_take s wants ≡ []). subst (λ t. SizesFit (locking s.view t tk.taken.seen)) (sym (none_found e)) (sizes_seen s.view tk.taken.seen at.sizes))
      tk.world

  pictures_found : KeepsPictures s.view looked_here.0
  pictures_found = ⊎_elim
      (λ (w : IsOfWorld (after_all tk.taken tk.looks)). pictures_on s.view looked_here.0 tk.taken.seen keeps_found at.sound (subst IsSound found_is sound_found)
      (subst SeesInside found_is (world_inside (after_all tk.taken tk.looks) w.word w.value (ap (λ (u : View). u.log.phase) found_is ∙ at.working.is_open) w.there)))
      (λ (e : to_take s wants ≡ []). λ p b y f q. ap (λ t. picture s.view.fixed.shape t p b) (none_found e) ∙ q)
      tk.world

  -- ---- and once it raised
  sound_last : IsSound x
  sound_last = subst IsSound (sym tk.raises_) ((raised_keep (after_all tk.taken tk.looks) (to_write s wants) all).sound sound_found)

  fits_last : SizesFit x
  fits_last = subst SizesFit (sym last_is) (sizes_seen (locking s.view last_claims tk.taken.seen) last_seen (rose_fits found_view up fits_found))

  pictures_last : KeepsPictures s.view last_claims
  pictures_last p b y f q = known.pictured_alike s.view.fixed.shape looked_here.0 last_claims p b (rose_word s.view.fixed.shape up looked_here.0 (word_of s.view.fixed.shape p)) ∙ pictures_found p b y f q

  pub is_taken_view : IsTakenView s wants x
  is_taken_view = record {
    claims = last_claims;
    seen = last_seen;
    same = last_is;
    keeps = keeps_last;
    saw = saw_last;
    each = each_last;
    stands = stands_last;
    only = only_last;
    sound = sound_last;
    sizes = fits_last;
    pictures = pictures_last;
  }
