-- WHAT pm_lock PROMISES of the locks that are wanted is what a lane at work asks.
use Rattle.std.specs.Prelude.{drop, filter, take}
use Rattle.std.proofs.Common.{◌≡◌, ⊎_elim, inl, inr, ℕ, zero, suc, ◌+◌, ◌<◌, Bool, true, false, Contains, List, [], ◌∷◌, ◌++◌, length, refl, sym, ap, ◌∙◌, subst, arith}
use Rattle.std.proofs.lemmas.List.{take_all}
use Rattle.std.proofs.lemmas.List.Elements.{Contains-append_right}
use Rattle.pm_layout.specs.declared.shape.Shape.{Shape}
use Rattle.pm_objects.specs.declared.calls.Want.{Want}
use Rattle.pm_view.specs.Steps.{Step}
use Rattle.pm_view.specs.Steps.Step.{Raise, StopSeen, TakeRead, TakeWrite}
use Rattle.pm_view.specs.View.{View}
use Rattle.pm_view.specs.Views.{after, after_all}
use Rattle.pm_world.specs.LaneFields.{Standing}
use Rattle.pm_world.specs.declared.lane.HeldLock.{HeldLock}
use Rattle.pm_lock.specs.Acquiring.{AreFinds, FindsAll, FindsNone}
use Rattle.pm_lock.specs.Holding.{IsTaken}
use Rattle.pm_lock.specs.Locking.{lock_at}
use Rattle.pm_lock.specs.Objects.{HasLooked, IsOfWorld}
use Rattle.pm_lock.specs.Raising.{AreRaised, is_raised, raised, raises}
use Rattle.pm_lock.specs.Steps.{AreWaits, refusals, takes, tries, waits}
use Rattle.pm_lock.proofs.Holds.{tries_taken, waits_taken}
use Rattle.pm_lock.proofs.RaisedClaims.{are_raised}
use Rattle.pm_lock.proofs.Stays.{stays_here}
use Rattle.pm_lock.proofs.Waiting.{all_then, once_more}
use Rattle.pm_call.specs.Quiet.{AreQuiet, WentQuietly}
use Rattle.pm_call.proofs.Quiet.{finds_quiet, got_quiet, quiet_both, quiet_by, quiet_none, quiet_then, raises_quiet, takes_quiet, tries_quiet}
use Rattle.pm_call.specs.LockRefusals.{TriedLocks}
use Rattle.pm_call.specs.Locking.{to_take, to_write}
use Rattle.pm_call.specs.LocksGot.{AreGotBy, BusyLocksAreTried, GotLocksAreTaken, MissedLocksAreTried, RefusedRaisesAreTried}
use Rattle.pm_call.specs.WantedTaken.{TakesByTries, TriesOnce}
use Rattle.pm_call.specs.WantedTried.{got_all}
use Rattle.pm_call.proofs.TakenLocks.{no_finds, seen_raises}

-- ---- what was seen, was seen
seen_take : (v : View) (line : ℕ) (write won : Bool) (n : Step) → Contains v.seen n → Contains (after v (takes line write won)).seen n
seen_take v line true won n there = Contains-append_right (TakeWrite line won ∷ []) v.seen n there
seen_take v line false won n there = Contains-append_right (TakeRead line won ∷ []) v.seen n there

seen_refusals : (k : ℕ) (v : View) (line : ℕ) (write : Bool) (n : Step) → Contains v.seen n → Contains (after_all v (refusals k line write)).seen n
unfolding refusals after_all
seen_refusals zero v line write n there = there
seen_refusals (suc k) v line write n there =
    let one : View = after v (takes line write false) in
    seen_refusals k (after one (StopSeen false)) line write n (Contains-append_right (StopSeen false ∷ []) one.seen n (seen_take v line write false n there))

seen_last : (v : View) (steps : List Step) (line : ℕ) (write won : Bool) (n : Step) → Contains (after_all v steps).seen n → Contains (after_all v (steps ++ takes line write won ∷ [])).seen n
seen_last v steps line write won n there = subst (λ (y : View). Contains y.seen n) (sym (all_then v steps (takes line write won ∷ []) ∙ once_more (after_all v steps) (takes line write won)))
    (seen_take (after_all v steps) line write won n there)

seen_waits : (k : ℕ) (v : View) (line : ℕ) (write : Bool) (n : Step) → Contains v.seen n → Contains (after_all v (waits k line write)).seen n
unfolding waits
seen_waits k v line write n there = seen_last v (refusals k line write) line write true n (seen_refusals k v line write n there)

seen_tries : (locks : List HeldLock) (v : View) (n : Step) → Contains v.seen n → Contains (after_all v (tries locks)).seen n
unfolding after_all
seen_tries [] v n there = there
seen_tries (l ∷ locks) v n there = seen_tries locks (after v (takes l.line l.write true)) n (seen_take v l.line l.write true n there)

seen_all : (locks : List HeldLock) (v : View) (steps : List Step) (n : Step) → AreWaits locks steps → Contains v.seen n → Contains (after_all v steps).seen n
unfolding AreWaits after_all
seen_all [] v steps n are there = subst (λ (ss : List Step). Contains (after_all v ss).seen n) (sym are) there
seen_all (l ∷ locks) v steps n are there =
    let w : View = after_all v (waits are.0 l.line l.write) in
    subst (λ (y : View). Contains y.seen n) (sym (ap (after_all v) are.2 ∙ all_then v (waits are.0 l.line l.write) are.1))
    (seen_all locks w are.1 n are.3 (seen_waits are.0 v l.line l.write n there))

-- ---- the locks are held, by tries or by waits
got_taken : (v : View) (locks : List HeldLock) (steps : List Step) → AreGotBy locks steps → IsTaken v locks (after_all v steps)
got_taken v locks steps got = ⊎_elim
    (λ (e : steps ≡ tries locks). subst (λ (ss : List Step). IsTaken v locks (after_all v ss)) (sym e) (tries_taken v locks))
    (λ (w : AreWaits locks steps). waits_taken v locks steps w)
    got

got_seen : (v : View) (locks : List HeldLock) (steps : List Step) → AreGotBy locks steps → (n : Step) → Contains v.seen n → Contains (after_all v steps).seen n
got_seen v locks steps got n there = ⊎_elim
    (λ (e : steps ≡ tries locks). subst (λ (ss : List Step). Contains (after_all v ss).seen n) (sym e) (seen_tries locks v n there))
    (λ (w : AreWaits locks steps). seen_all locks v steps n w there)
    got

-- the locks were got, some looks followed, and then some steps of no plan
looked_quiet : (v : View) (locks under : List HeldLock) (sh : Shape) (steps looks more : List Step)
    → AreGotBy locks steps → AreFinds sh under looks → AreQuiet more
    → WentQuietly v (after_all (after_all (after_all v steps) looks) more)
looked_quiet v locks under sh steps looks more got finds quiet =
    let u : View = after_all v steps in
    let w : View = after_all u looks in
    quiet_then v w (after_all w more)
    (quiet_then v u w (quiet_by v steps (got_quiet locks steps got)) (quiet_by u looks (finds_quiet sh under looks finds)))
    (quiet_by w more quiet)

pub got_locks_are_taken : (at : View → Type 0) → GotLocksAreTaken at
got_locks_are_taken at s wants steps got found = record {
  taken = after_all s.view steps;
  takes = got_taken s.view (to_take s wants) steps got;
  told = got_seen s.view (to_take s wants) steps got;
  looks = found.steps;
  finds = found.looks;
  stays = found.stays;
  objects = found.objects;
  world = found.world;
  raises_ = refl;
  quiet = looked_quiet s.view (to_take s wants) (to_take s wants) s.view.fixed.shape steps found.steps
      (raises (to_write s wants) (s.locks ++ to_take s wants)) got found.looks
      (raises_quiet (to_write s wants) (s.locks ++ to_take s wants));
}

-- ---- none is raised
none_raised : (v : View) (writes : ℕ → Bool) → AreRaised v writes [] v
none_raised v writes = record { same = refl; held = λ _. tt }

-- looks tell nothing but claims
seen_looked : (v w : View) (n : Step) → HasLooked v w → Contains v.seen n → Contains w.seen n
seen_looked v w n stays there = subst (λ (y : View). Contains y.seen n) (sym stays.same) there

took_all : (s : Standing) (wants : List Want) → to_take s wants ≡ take (length (to_take s wants)) (to_take s wants)
took_all s wants = sym (take_all (length (to_take s wants)) (to_take s wants) (omega arith))

pub missed_locks_are_tried : (at : View → Type 0) → MissedLocksAreTried at
missed_locks_are_tried at s wants steps got missed = record {
  count = length (to_take s wants);
  taken = after_all s.view steps;
  takes = subst (λ (ls : List HeldLock). IsTaken s.view ls (after_all s.view steps)) (took_all s wants) (got_taken s.view (to_take s wants) steps got);
  told = λ n there. seen_looked (after_all s.view steps) (after_all (after_all s.view steps) missed.steps) n missed.stays (got_seen s.view (to_take s wants) steps got n there);
  under = missed.before + 1;
  looks = missed.steps;
  finds = missed.looks;
  stays = missed.stays;
  world = inl missed.world;
  rose_ = 0;
  raises_ = none_raised (after_all (after_all s.view steps) missed.steps) (to_write s wants);
  lists = ap (λ (ls : List HeldLock). s.locks ++ ls) (took_all s wants);
  quiet = quiet_then s.view (after_all s.view steps) (after_all (after_all s.view steps) missed.steps)
      (quiet_by s.view steps (got_quiet (to_take s wants) steps got))
      (quiet_by (after_all s.view steps) missed.steps
      (finds_quiet s.view.fixed.shape (take (missed.before + 1) (to_take s wants)) missed.steps missed.looks));
}

-- ---- a refused try only tells
refused_on : (v u : View) (locks : List HeldLock) (line : ℕ) (write : Bool) → IsTaken v locks u → IsTaken v locks (after u (takes line write false))
refused_on v u locks line true is = ap (λ (y : View). record y { seen = TakeWrite line false ∷ u.seen }) is
refused_on v u locks line false is = ap (λ (y : View). record y { seen = TakeRead line false ∷ u.seen }) is

pub none_looked : (s : Standing) (wants : List Want) (k : ℕ) (x : View) → IsTaken s.view (take k (to_take s wants)) x → ((n : Step) → Contains s.view.seen n → Contains x.seen n) → WentQuietly s.view x → TriedLocks s wants (s.locks ++ take k (to_take s wants)) x
unfolding after_all AreFinds
none_looked s wants k x is told quiet = record {
  count = k;
  taken = x;
  takes = is;
  told = told;
  under = 0;
  looks = [];
  finds = refl;
  stays = stays_here x;
  world = inr refl;
  rose_ = 0;
  raises_ = none_raised x (to_write s wants);
  lists = refl;
  quiet = quiet;
}

pub busy_taken : (v : View) (got : List HeldLock) (line : ℕ) (write : Bool) → IsTaken v got (after_all v (tries got ++ takes line write false ∷ []))
busy_taken v got line write =
    let u : View = after_all v (tries got) in
    subst (IsTaken v got) (sym (all_then v (tries got) (takes line write false ∷ []) ∙ once_more u (takes line write false))) (refused_on v u got line write (tries_taken v got))

pub busy_locks_are_tried : BusyLocksAreTried
busy_locks_are_tried s wants k line write =
    let got : List HeldLock = take k (to_take s wants) in
    none_looked s wants k (after_all s.view (tries got ++ takes line write false ∷ [])) (busy_taken s.view got line write)
    (λ n there. seen_last s.view (tries got) line write false n (seen_tries got s.view n there))
    (quiet_by s.view (tries got ++ takes line write false ∷ []) (quiet_both (tries got) (takes line write false ∷ []) (tries_quiet got) (takes_quiet line write false, tt)))

-- ---- some are raised, and a raise is refused
refused_raise : (v u : View) (writes : ℕ → Bool) (locks : List HeldLock) (line : ℕ) → AreRaised v writes locks u → AreRaised v writes locks (after u (Raise line false))
refused_raise v u writes locks line r = record { same = ap (λ (y : View). record y { seen = Raise line false ∷ u.seen }) r.same; held = r.held }

module _ (v : View) (writes : ℕ → Bool) (locks : List HeldLock) (line : ℕ) where
  abbrev one : View
  one = after_all v (raises writes locks)

  pub last_is : after_all v (raises writes locks ++ Raise line false ∷ []) ≡ after one (Raise line false)
  last_is = all_then v (raises writes locks) (Raise line false ∷ []) ∙ once_more one (Raise line false)

  pub some_raised : AreRaised v writes locks (after_all v (raises writes locks ++ Raise line false ∷ []))
  some_raised = subst (AreRaised v writes locks) (sym last_is) (refused_raise v one writes locks line (are_raised writes v locks))

  seen_raised : (n : Step) → Contains v.seen n → Contains (after_all v (raises writes locks ++ Raise line false ∷ [])).seen n
  seen_raised n there = subst (λ (y : View). Contains y.seen n) (sym last_is) (Contains-append_right (Raise line false ∷ []) one.seen n (seen_raises (filter (is_raised writes) locks) v n there))

pub refused_raises_are_tried : (at : View → Type 0) → RefusedRaisesAreTried at
refused_raises_are_tried at s wants steps k line got found =
    let plan : List HeldLock = to_take s wants in
    let looked : View = after_all (after_all s.view steps) found.steps in
    let x : View = after_all looked (raises (to_write s wants) (take k (s.locks ++ plan)) ++ Raise line false ∷ []) in record {
      count = length plan;
      taken = after_all s.view steps;
      takes = subst (λ (ls : List HeldLock). IsTaken s.view ls (after_all s.view steps)) (took_all s wants) (got_taken s.view plan steps got);
      told = λ n there. seen_raised looked (to_write s wants) (take k (s.locks ++ plan)) line n (seen_looked (after_all s.view steps) looked n found.stays (got_seen s.view plan steps got n there));
      under = length plan;
      looks = found.steps;
      finds = subst (λ (ls : List HeldLock). AreFinds s.view.fixed.shape ls found.steps) (took_all s wants) found.looks;
      stays = found.stays;
      world = ⊎_elim (λ (w : IsOfWorld looked). inl w) (λ (e : plan ≡ []). inr (no_finds s.view.fixed.shape found.steps (subst (λ (ls : List HeldLock). AreFinds s.view.fixed.shape ls found.steps) e found.looks))) found.world;
      rose_ = k;
      raises_ = subst (λ (ls : List HeldLock). AreRaised looked (to_write s wants) (take k (s.locks ++ ls)) x) (took_all s wants) (some_raised looked (to_write s wants) (take k (s.locks ++ plan)) line);
      lists = ap (λ (ls : List HeldLock). raised (to_write s wants) (take k (s.locks ++ ls)) ++ drop k (s.locks ++ ls)) (took_all s wants);
      quiet = looked_quiet s.view plan plan s.view.fixed.shape steps found.steps (raises (to_write s wants) (take k (s.locks ++ plan)) ++ Raise line false ∷ []) got found.looks
          (quiet_both (raises (to_write s wants) (take k (s.locks ++ plan))) (Raise line false ∷ []) (raises_quiet (to_write s wants) (take k (s.locks ++ plan))) (refl, tt));
    }

-- ---- INSIDE A TRANSACTION each lock is tried once
module _ (s : Standing) (wants : List Want) where
  got_first : got_all s wants ≡ after_all s.view (tries (take (length (to_take s wants)) (to_take s wants)))
  got_first = ap (λ (ls : List HeldLock). after_all s.view (tries ls)) (took_all s wants)

  pub none_once : TriesOnce (none_looked s wants 0 s.view refl (λ n there. there) (quiet_none s.view))
  unfolding none_looked after_all
  none_once = record { locks = inl refl; raises_ = inl refl }

  pub busy_once : (k : ℕ) → k < length (to_take s wants) → TriesOnce (busy_locks_are_tried s wants k (lock_at (to_take s wants) k).line (lock_at (to_take s wants) k).write)
  unfolding busy_locks_are_tried none_looked after_all
  busy_once k low = record { locks = inr (low, refl); raises_ = inl refl }

  module _ (at : View → Type 0) where
    pub missed_once : (missed : FindsNone at (got_all s wants) s.view.fixed.shape (to_take s wants)) → TriesOnce (missed_locks_are_tried at s wants (tries (to_take s wants)) (inl refl) missed)
    unfolding missed_locks_are_tried after_all
    missed_once missed = record { locks = inl got_first; raises_ = inl refl }

    module _ (found : FindsAll at (got_all s wants) s.view.fixed.shape (to_take s wants)) where
      pub taken_once : TakesByTries s wants (after_all (after_all (got_all s wants) found.steps) (raises (to_write s wants) (s.locks ++ to_take s wants)))
      unfolding got_locks_are_taken
      taken_once = record { takes = got_locks_are_taken at s wants (tries (to_take s wants)) (inl refl) found; once = refl }

      pub raise_once : (k : ℕ) → k < length (s.locks ++ to_take s wants)
          → TriesOnce (refused_raises_are_tried at s wants (tries (to_take s wants)) k (lock_at (s.locks ++ to_take s wants) k).line (inl refl) found)
      unfolding refused_raises_are_tried
      raise_once k low =
          let y : View = after_all (got_all s wants) found.steps in
          let x : View = after_all y (raises (to_write s wants) (take k (s.locks ++ to_take s wants)) ++ Raise (lock_at (s.locks ++ to_take s wants) k).line false ∷ []) in record {
            locks = inl got_first;
            raises_ = inr (subst (λ (ls : List HeldLock). (k < length (s.locks ++ ls)) × (x ≡ after_all y (raises (to_write s wants) (take k (s.locks ++ ls)) ++ Raise (lock_at (s.locks ++ ls) k).line false ∷ []))) (took_all s wants) (low, refl));
          }
