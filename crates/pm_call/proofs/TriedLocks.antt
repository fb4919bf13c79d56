-- A LANE WHOSE LOCK WAS REFUSED is at work with the list of locks that it had, whatever it got and
-- raised by then.
use Rattle.std.specs.Prelude.{filter, take}
use Rattle.std.proofs.Common.{◌≡◌, ◌≢◌, ⊎_elim, inl, inr, ℕ, zero, suc, ◌+◌, ◌*◌, ◌/◌, ◌<◌, ◌≤◌, true, false, ◌==◌, ◌&&◌, ◌||◌, List, [], ◌∷◌, ◌++◌, refl, sym, ap, ◌∙◌, subst, arith, None}
use Rattle.std.specs.List.{AllByRecursion}
use Rattle.std.proofs.lemmas.Bool.{cond-false, or_left}
use Rattle.pm_layout.specs.declared.shape.Shape.{Shape}
use Rattle.pm_layout.specs.Chunks.{word_of_root, words_of}
use Rattle.pm_objects.specs.declared.calls.Want.{Want}
use Rattle.pm_view.specs.Claims.{Claim, Took, class, found, header_in, holds, pictured}
use Rattle.pm_view.specs.Log.{is_early}
use Rattle.pm_view.specs.Places.{Block, Small, Big, Root, header, word_of}
use Rattle.pm_view.specs.Steps.{Step}
use Rattle.pm_view.specs.Steps.Step.{NumberSeen}
use Rattle.pm_view.specs.View.{View}
use Rattle.pm_view.specs.Views.{after_all}
use Rattle.pm_world.specs.InWorld.{IsSound, SizesFit, block_bytes}
use Rattle.pm_world.specs.Lawful.{MayTake}
use Rattle.pm_world.specs.LaneFields.{Standing, moved}
use Rattle.pm_world.specs.declared.lane.HeldLock.{HeldLock}
use Rattle.pm_crash.specs.Sim.{lists_of}
use Rattle.pm_crash.proofs.StepKnows as known
use Rattle.pm_lock.specs.Acquiring.{MayWant}
use Rattle.pm_lock.specs.Held.{HoldsEach}
use Rattle.pm_lock.specs.Holding.{IsHeldAs, Rises, took}
use Rattle.pm_lock.specs.Objects.{CanLook, HasLooked, IsOfWorld, is_chunk_line}
use Rattle.pm_lock.specs.Raising.{AreRaised, is_raised, raised, rose}
use Rattle.pm_lock.specs.Steps.{tries}
use Rattle.pm_lock.specs.Wants.{is_listed}
use Rattle.pm_lock.proofs.Acquired.{may_lock_wanted}
use Rattle.pm_lock.proofs.HeldLocks.{held_before, held_stay}
use Rattle.pm_lock.proofs.Holds.{still_locked, tries_taken}
use Rattle.pm_lock.proofs.KeptBlocks.{raised_keep, taken_keep}
use Rattle.pm_lock.proofs.RaisedClaims.{are_raised}
use Rattle.pm_call.specs.At.{At, IsAtWith, MaySet}
use Rattle.pm_call.specs.Held.{AreHeld, HasObject, HoldsAll, IsHeld, IsHeldFor}
use Rattle.pm_call.specs.Locking.{CanLock, CanLockWith, to_take, to_write}
use Rattle.pm_call.specs.LockRefusals.{TriedLocks, TriedLocksLeaveWork}
use Rattle.pm_call.proofs.HeldLines.{all_take, has_filter, has_left, has_lock, has_right, has_take, has_to, held_to, holds_rose, holds_taken, lines_to, listed_has, locked_rose, once_to, raised_to}
use Rattle.pm_call.proofs.KeptByLooks.{keeps_looked}
use Rattle.pm_call.proofs.KeptClaims.{IsFree, KeepsAll, claiming, keeps_more, keeps_rose, keeps_taken, no_root_lock}
use Rattle.pm_call.proofs.KeptGrows.{KeepsPictures, SeesInside, locking, own_on, pictures_on}
use Rattle.pm_call.proofs.KeptWork.{data_on, held_size_on, object_on, seal_on, sim_on, working_on}
use Rattle.pm_call.proofs.KnownObjects.{held_object}
use Rattle.pm_call.proofs.LockLists.{chunk_high}
use Rattle.pm_call.proofs.LocksGot.{busy_taken}
use Rattle.pm_call.proofs.Noting.{all_map}
use Rattle.pm_call.proofs.Staying.{has_pending}
use Rattle.pm_call.proofs.TakenLocks.{after_none, all_with, can_lock, keeps_seen, locks_may_be_wanted, rose_fits, rose_word, sizes_seen}
use Rattle.pm_call.proofs.WorldFacts.{world_inside, world_sizes}

-- ---- the first so many
rises_take : (n : ℕ) (locks : List HeldLock) → Rises locks → Rises (take n locks)
rises_take zero locks r = tt
rises_take (suc n) [] r = tt
rises_take (suc n) (l ∷ locks) r = (all_take (λ (k : HeldLock). l.line < k.line) n locks r.0, rises_take n locks r.1)

-- ---- locks that are taken say nothing of words, blocks and runs
took_word : (sh : Shape) (locks : List HeldLock) (t : List Claim) (u : ℕ) → AllByRecursion (λ (l : HeldLock). l.line ≢ 0) locks → pictured sh (took locks t) u ≡ pictured sh t u
took_word sh [] t u some = refl
took_word sh (l ∷ locks) t u some = took_word sh locks (Took l.line l.write ∷ t) u some.1
    ∙ cond-false ((l.line == 0) && (u == word_of_root sh)) None (pictured sh t u) (no_root_lock l.line u (word_of_root sh) some.0)

took_found : (sh : Shape) (locks : List HeldLock) (t : List Claim) (B : Block) → found sh (took locks t) B ≡ found sh t B
took_found sh [] t B = refl
took_found sh (l ∷ locks) t B = took_found sh locks (Took l.line l.write ∷ t) B

took_class : (locks : List HeldLock) (t : List Claim) → class (took locks t) ≡ class t
took_class [] t = refl
took_class (l ∷ locks) t = took_class locks (Took l.line l.write ∷ t)

took_span : (sh : Shape) (locks : List HeldLock) (t : List Claim) (f : ℕ) → Rattle.pm_view.specs.Claims.span sh (took locks t) f ≡ Rattle.pm_view.specs.Claims.span sh t f
took_span sh [] t f = refl
took_span sh (l ∷ locks) t f = took_span sh locks (Took l.line l.write ∷ t) f

took_bytes : (v : View) (seen : List Step) (locks : List HeldLock) (B : Block) → block_bytes (locking v (took locks v.claims) seen) B ≡ block_bytes v B
took_bytes v seen locks (Small c i) = ap (λ (cl : ℕ → ℕ). 64 * cl c) (took_class locks v.claims)
took_bytes v seen locks (Big f) = ap (λ n. 4096 * n) (took_span v.fixed.shape locks v.claims f)
took_bytes v seen locks Root = refl

took_fits : (v : View) (seen : List Step) (locks : List HeldLock) → AllByRecursion (λ (l : HeldLock). l.line ≢ 0) locks → SizesFit v → SizesFit (locking v (took locks v.claims) seen)
took_fits v seen locks some f B n there o e =
    let head : header_in v.fixed.shape (took locks v.claims) B ≡ header_in v.fixed.shape v.claims B = ap (λ (cl : ℕ → ℕ). header v.fixed.shape (record { first = λ c. c; class = cl }) B) (took_class locks v.claims) in
    subst (λ m. 64 + n ≤ m) (sym (took_bytes v seen locks B)) (f B n (sym (took_found v.fixed.shape locks v.claims B) ∙ there) o
    (sym (took_word v.fixed.shape locks v.claims (8 * header_in v.fixed.shape v.claims B + 1) some) ∙ (ap (λ h. pictured v.fixed.shape (took locks v.claims) (8 * h + 1)) (sym head) ∙ e)))

-- ---- what was seen says nothing of locks and of blocks
each_seen : (v : View) (t : List Claim) (seen other : List Step) (locks : List HeldLock) → HoldsEach (locking v t seen) locks → HoldsEach (locking v t other) locks
each_seen v t seen other locks h = record { once = h.once; inside = h.inside; held = h.held }

sound_seen : (v : View) (t : List Claim) (seen other : List Step) → IsSound (locking v t seen) → IsSound (locking v t other)
sound_seen v t seen other s = record { small = s.small; some = s.some; zone = s.zone; huge = s.huge }

-- ---- the lines of the locks that are wanted
module _ (s : Standing) (wants : List Want) (at : CanLock s) where
  may : MayWant s.view s.view.fixed.shape s.locks []
  may = locks_may_be_wanted s at

  lines : AllByRecursion (λ (l : HeldLock). is_chunk_line s.view.fixed.shape l.line ≡ true) (to_take s wants)
  lines = all_map (λ (l : HeldLock). CanLook (after_all s.view (tries (to_take s wants))) s.view.fixed.shape l.line) (λ (l : HeldLock). is_chunk_line s.view.fixed.shape l.line ≡ true) (to_take s wants) (λ l c. c.chunk)
      ((may_lock_wanted s.view s.view.fixed.shape s.view.fixed.pool s.locks [] wants may).looks (after_all s.view (tries (to_take s wants))) (tries_taken s.view (to_take s wants)))

  pub some : AllByRecursion (λ (l : HeldLock). l.line ≢ 0) (to_take s wants)
  some = all_map (λ (l : HeldLock). is_chunk_line s.view.fixed.shape l.line ≡ true) (λ (l : HeldLock). l.line ≢ 0) (to_take s wants)
      (λ l c z. let high = chunk_high s.view.fixed.shape l.line c in omega (arith, z, high)) lines

  free : AllByRecursion (IsFree s.view.claims) (to_take s wants)
  free = all_with (λ (l : HeldLock). MayTake s.view l.line) (λ (l : HeldLock). l.line ≢ 0) (IsFree s.view.claims) (to_take s wants) (λ l m ne. (ne, m.free))
      (may_lock_wanted s.view s.view.fixed.shape s.view.fixed.pool s.locks [] wants may).takes.each some

module _ (s : Standing) (wants : List Want) (all : List HeldLock) (x : View) (at : CanLock s) (tk : TriedLocks s wants all x) where
  abbrev v : View
  v = s.view

  abbrev got : List HeldLock
  got = take tk.count (to_take s wants)

  abbrev both : List HeldLock
  both = s.locks ++ take tk.count (to_take s wants)

  abbrev first : List Claim
  first = took got s.view.claims

  abbrev under : View
  under = locking s.view first tk.taken.seen

  stays : HasLooked under (after_all under tk.looks)
  stays = subst (λ (y : View). HasLooked y (after_all y tk.looks)) tk.takes tk.stays

  looked_here : (t : List Claim) × (after_all under tk.looks ≡ claiming under t) × KeepsAll under t
  looked_here = keeps_looked under (take tk.under (to_take s wants)) tk.looks at.working.lane (ap is_early at.working.is_open)
      (all_take (λ (l : HeldLock). is_chunk_line s.view.fixed.shape l.line ≡ true) tk.under (to_take s wants) (lines s wants at)) tk.finds stays

  abbrev looked : View
  looked = locking s.view looked_here.0 tk.taken.seen

  looked_is : after_all tk.taken tk.looks ≡ looked
  looked_is = ap (λ (y : View). after_all y tk.looks) tk.takes ∙ looked_here.1

  -- ---- once it looked
  some_got : AllByRecursion (λ (l : HeldLock). l.line ≢ 0) got
  some_got = all_take (λ (l : HeldLock). l.line ≢ 0) tk.count (to_take s wants) (some s wants at)

  keeps_looks : KeepsAll s.view looked_here.0
  keeps_looks = keeps_more v first looked_here.0
      (keeps_taken v got (rises_take tk.count (to_take s wants) (may_lock_wanted v v.fixed.shape v.fixed.pool s.locks [] wants (may s wants at)).takes.rises) (all_take (IsFree s.view.claims) tk.count (to_take s wants) (free s wants at)))
      (keeps_seen v tk.taken.seen first looked_here.0 looked_here.2)

  -- where it did not look it claims nothing but the locks
  none : tk.looks ≡ [] → looked_here.0 ≡ first
  none e = ap (λ (y : View). y.claims) (sym looked_here.1 ∙ (ap (after_all under) e ∙ after_none under))

  sound_looked : IsSound looked
  sound_looked = subst IsSound looked_here.1 (stays.sound ((taken_keep s.view under got refl).sound at.sound))

  fit_looked : SizesFit looked
  fit_looked = ⊎_elim
      (λ (w : IsOfWorld (after_all tk.taken tk.looks)). subst SizesFit looked_is (world_sizes (after_all tk.taken tk.looks) w.word w.value w.there))
      (λ (e : tk.looks ≡ []). subst (λ t. SizesFit (locking s.view t tk.taken.seen)) (sym (none e)) (took_fits s.view tk.taken.seen got some_got at.sizes))
      tk.world

  pics_looked : KeepsPictures s.view looked_here.0
  pics_looked = ⊎_elim
      (λ (w : IsOfWorld (after_all tk.taken tk.looks)). pictures_on s.view looked_here.0 tk.taken.seen keeps_looks at.sound sound_looked
      (subst SeesInside looked_is (world_inside (after_all tk.taken tk.looks) w.word w.value (ap (λ (u : View). u.log.phase) looked_is ∙ at.working.is_open) w.there)))
      (λ (e : tk.looks ≡ []). λ p b y f q. known.pictured_alike v.fixed.shape v.claims looked_here.0 p b
      (ap (λ t. pictured v.fixed.shape t (word_of v.fixed.shape p)) (none e) ∙ took_word v.fixed.shape got v.claims (word_of v.fixed.shape p) some_got) ∙ q)
      tk.world

  -- what was looked at stays locked
  here : HasLooked under (claiming under looked_here.0)
  here = subst (HasLooked under) looked_here.1 stays

  each_looked : HoldsEach looked both
  each_looked = subst (λ (y : View). HoldsEach y both) looked_here.1 (held_stay under (after_all under tk.looks) both stays (each_seen v first _ tk.taken.seen both
      (subst (λ (y : View). HoldsEach y both) (busy_taken v got 0 false) (held_before v v.fixed.shape v.fixed.pool s.locks [] wants tk.count 0 false (may s wants at) at.holds.each))))

  -- ---- and once it raised
  abbrev up : List HeldLock
  up = filter (is_raised (to_write s wants)) (take tk.rose_ both)

  abbrev claims : List Claim
  claims = rose up looked_here.0

  abbrev next : View
  next = locking s.view claims x.seen

  raises_looked : AreRaised looked (to_write s wants) (take tk.rose_ both) x
  raises_looked = subst (λ (y : View). AreRaised y (to_write s wants) (take tk.rose_ both) x) looked_is tk.raises_

  next_is : x ≡ next
  next_is = raises_looked.same

  keeps : KeepsAll s.view claims
  keeps = keeps_more v looked_here.0 claims keeps_looks (keeps_rose (claiming v looked_here.0) up)

  sound : IsSound next
  sound = sound_seen v claims _ x.seen (subst IsSound (are_raised (to_write s wants) looked (take tk.rose_ both)).same ((raised_keep looked (to_write s wants) (take tk.rose_ both)).sound sound_looked))

  fit : SizesFit next
  fit = sizes_seen (locking s.view claims tk.taken.seen) x.seen (rose_fits looked up fit_looked)

  pics : KeepsPictures s.view claims
  pics p b y f q = known.pictured_alike s.view.fixed.shape looked_here.0 claims p b (rose_word s.view.fixed.shape up looked_here.0 (word_of s.view.fixed.shape p)) ∙ pics_looked p b y f q

  -- ---- THE LOCKS: what it held it holds, and all of the longer list, and no other
  held_on : (l : HeldLock) → IsHeldFor s.view.claims l → IsHeldFor claims l
  held_on l a = (λ e. locked_rose up looked_here.0 l.line (here.locked l.line ∙ still_locked got s.view.claims l.line (a.0 e)), keeps.holds_on l.line a.1)

  held : AreHeld next s.locks
  held = all_map (IsHeld s.view) (IsHeld next) s.locks (λ l o. record {
    held = held_on l o.held;
    object = ⊎_elim (λ (z : l.line ≡ 0). inl z) (λ (b : HasObject s.view l.line). inr (object_on s at claims x.seen keeps at.own sound pics l.line b)) o.object;
  }) at.held

  each : HoldsEach next (raised_to (to_write s wants) tk.rose_ both)
  each = record {
    once = once_to (to_write s wants) tk.rose_ both each_looked.once;
    inside = lines_to (to_write s wants) (λ line. line < words_of v.fixed.shape / 8) tk.rose_ both each_looked.inside;
    held = held_to (to_write s wants) tk.rose_ both looked_here.0 each_looked.once each_looked.held
        (subst (λ (y : View). AllByRecursion (IsHeldAs y.claims) (raised (to_write s wants) (take tk.rose_ both))) next_is (raises_looked.held (all_take (IsHeldAs looked_here.0) tk.rose_ both each_looked.held)));
  }

  only : (line : ℕ) → holds claims line ≡ true → is_listed (raised_to (to_write s wants) tk.rose_ both) [] line ≡ true
  only line e = or_left (has_lock (raised_to (to_write s wants) tk.rose_ both) line) false (has_to (to_write s wants) tk.rose_ both line ∙ ⊎_elim
      (λ (q : holds looked_here.0 line ≡ true). ⊎_elim
      (λ (r : holds s.view.claims line ≡ true). has_left s.locks got line (listed_has s.locks line (at.holds.only line r)))
      (λ (r : has_lock got line ≡ true). has_right s.locks got line r)
      (holds_taken got s.view.claims line (sym (looked_locks line) ∙ q)))
      (λ (q : has_lock up line ≡ true). has_take tk.rose_ both line (has_filter (is_raised (to_write s wants)) (take tk.rose_ both) line q))
      (holds_rose up looked_here.0 line e))
    where
      looked_locks : (line : ℕ) → holds looked_here.0 line ≡ holds first line
      looked_locks line = λ i. here.locked line i || here.reads line i

  -- SO IT MAY LOCK still, with these
  may_lock : CanLockWith (moved s next) all
  may_lock = record {
    working = working_on s at claims x.seen keeps at.own sound pics;
    unbumped = at.unbumped;
    sound = sound;
    sizes = fit;
    sealed = seal_on s at claims x.seen keeps at.own sound pics;
    number = record { seen = at.number.seen; told = tk.told (NumberSeen at.number.seen) at.number.told; below = at.number.below; none = at.number.none };
    held = held;
    holds = subst (HoldsAll next) (sym tk.lists) (record { each = each; only = only });
    own = own_on s.view claims x.seen keeps at.own;
    room = at.room;
    recorded = λ p e. data_on s at claims x.seen keeps at.own sound pics p (at.recorded p e);
    lists = record {
      locks = at.lists.locks;
      count = at.lists.count;
      recorded = at.lists.recorded;
      records = at.lists.records;
      blocks = at.lists.blocks;
      pending = at.lists.pending;
      sets = at.lists.sets;
      may_set = all_map (MaySet s) (MaySet (moved s next)) (lists_of s.view).sets (λ a m. let o = held_object s.view s.locks at.held a.id.off true m.locked in record {
        locked = m.locked;
        aligned = m.aligned;
        size = m.size;
        sized = held_size_on s at claims x.seen keeps at.own sound pics a.id.off o.0 o.1 ∙ m.sized;
        inside = m.inside;
        small = m.small;
      }) at.lists.may_set;
      error_is = at.lists.error_is;
    };
    pending = has_pending s.view next refl refl at.pending;
    sim = sim_on s at claims x.seen keeps at.own sound pics;
    facts = at.facts;
    tells = at.tells;
  }

  pub leaves_open : CanLockWith (moved s x) all
  leaves_open = subst (λ (y : View). CanLockWith (moved s y) all) (sym next_is) may_lock

  -- and one at work is at work
  at_work : At s → IsAtWith (moved s next) s.level all
  at_work is = let m = may_lock in record {
    working = m.working;
    unbumped = m.unbumped;
    begun = is.begun;
    some = is.some;
    most = is.most;
    sound = m.sound;
    sizes = m.sizes;
    sealed = m.sealed;
    number = m.number;
    held = m.held;
    lines = is.lines;
    few = is.few;
    holds = m.holds;
    own = m.own;
    room = m.room;
    recorded = m.recorded;
    lists = record {
      level_is = is.lists.level_is;
      works = is.lists.works;
      locks = m.lists.locks;
      count = m.lists.count;
      recorded = m.lists.recorded;
      records = m.lists.records;
      blocks = m.lists.blocks;
      pending = m.lists.pending;
      sets = m.lists.sets;
      may_set = m.lists.may_set;
      error_is = m.lists.error_is;
    };
    pending = m.pending;
    sim = m.sim;
    facts = m.facts;
  }

  pub leaves_work : At s → IsAtWith (moved s x) s.level all
  leaves_work is = subst (λ (y : View). IsAtWith (moved s y) s.level all) (sym next_is) (at_work is)

-- what never changes is as it was
pub fixed_on : (s : Standing) (wants : List Want) (all : List HeldLock) (x : View) → TriedLocks s wants all x → x.fixed ≡ s.view.fixed
fixed_on s wants all x tk = ap (λ (y : View). y.fixed) tk.raises_.same ∙ (ap (λ (y : View). y.fixed) tk.stays.same ∙ ap (λ (y : View). y.fixed) tk.takes)

pub tried_locks_leave_work : TriedLocksLeaveWork
tried_locks_leave_work s wants all x at tk = leaves_work s wants all x (can_lock s at) tk at

-- the view is as it was but for its claims, and for what the tries told
pub view_on : (s : Standing) (wants : List Want) (all : List HeldLock) (x : View) → TriedLocks s wants all x → x ≡ locking s.view x.claims x.seen
view_on s wants all x tk = same ∙ ap (λ (t : List Claim). locking s.view t x.seen) (sym (ap (λ (y : View). y.claims) same)) where
  t : List Claim
  t = rose (filter (is_raised (to_write s wants)) (take tk.rose_ (s.locks ++ take tk.count (to_take s wants)))) (after_all tk.taken tk.looks).claims

  same : x ≡ locking s.view t x.seen
  same = tk.raises_.same ∙ (ap (λ (y : View). locking y t x.seen) tk.stays.same ∙ ap (λ (y : View). locking y t x.seen) tk.takes)
